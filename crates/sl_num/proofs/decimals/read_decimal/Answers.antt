use Rattle.std.proofs.Common.{◌≡◌, ap, sym, ◌∙◌, arith, nat_abs}
use Rattle.std.specs.Cmp.Lexicographic.{other_text}
use Rattle.std.specs.Fmt.{signed_decimal}
use Rattle.sl_num.proofs.Reading.{length-decimal, IsUtf8-decimal, parsed, stored}
use Rattle.sl_num.proofs.decimals.read_decimal.Goals as goal

pub returns-then-bytes-gt-MAX_READ : goal.returns-then-bytes-gt-MAX_READ
returns-then-bytes-gt-MAX_READ c n d = omega (arith, length-decimal _ n d)

pub returns-in_default : goal.returns-in_default
returns-in_default c n d = c.in_default.ensures.cases.0 (IsUtf8-decimal _ n d)

pub returns-in_default-parse : goal.returns-in_default-parse
returns-in_default-parse c n d =
    c.in_default-parse.not-Ok n (parsed _ c.in-Ok.text.now n _ d c.in-Ok.ensures.cases.0 c.parse.ensures.value.0)

pub returns-then-unsigned_abs-ge-TOO_LONG : goal.returns-then-unsigned_abs-ge-TOO_LONG
returns-then-unsigned_abs-ge-TOO_LONG c n d =
    let read = parsed _ c.in-Ok.text.now n _ d c.in-Ok.ensures.cases.0 c.parse.ensures.value.0 in
    let same : c.in-Ok-parse.n ≡ n = cc in
    omega (arith, d.short, c.unsigned_abs.ensures.value ∙ ap nat_abs (stored _ n _ d same))

pub returns-else-eq : goal.returns-else-eq
returns-else-eq c n d =
    let read = parsed _ c.in-Ok.text.now n _ d c.in-Ok.ensures.cases.0 c.parse.ensures.value.0 in
    let same : c.in-Ok-parse.n ≡ n = cc in
    other_text _ _ c.if-eq.ensures
    (c.bytes.ensures ∙ c.print_decimal-printed.ensures.text ∙ ap signed_decimal (stored _ n _ d same) ∙ sym d.spelled)
