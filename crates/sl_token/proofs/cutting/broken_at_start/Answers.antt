use Rattle.std.proofs.Common.{take, length, true≢false, sym, ◌∙◌}
use Rattle.std.proofs.lemmas.Slice.Eq.{bytes_eq-Decides}
use Rattle.sl_token.specs.Cut.{header}
use Rattle.sl_token.proofs.Broken.{no_header_first, too_long_first}
use Rattle.sl_token.proofs.cutting.broken_at_start.Goals as goal

pub returns-then-not-starts_with-clause-some : goal.returns-then-not-starts_with-clause-some
returns-then-not-starts_with-clause-some c =
    let bytes = c.args.bytes.now in
    no_header_first bytes (λ has.
    true≢false (sym ((bytes_eq-Decides header (take (length header) bytes)).1 (sym has)) ∙ sym c.starts_with.ensures.value ∙ c.if-not-starts_with.true))

pub returns-then-bytes-gt-MOST_BYTES-clause-some : goal.returns-then-bytes-gt-MOST_BYTES-clause-some
returns-then-bytes-gt-MOST_BYTES-clause-some c =
    let bytes = c.args.bytes.now in
    let has = sym ((bytes_eq-Decides header (take (length header) bytes)).0 (sym c.starts_with.ensures.value ∙ c.if-not-starts_with.false)) in
    too_long_first bytes has c.if-bytes-gt-MOST_BYTES.true
