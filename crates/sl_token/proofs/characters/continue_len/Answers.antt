use Rattle.std.proofs.Common.{◌≢◌, ◌<◌, length, sym, ap, subst, ◌∙◌, arith}
use Rattle.std.proofs.lemmas.Bool.{eqb-false}
use Rattle.sl_token.specs.Characters.{ascii_len}
use Rattle.sl_token.proofs.Sizes.{first_continue_len}
use Rattle.sl_token.proofs.characters.continue_len.Goals as goal

pub returns-then-byte-lt128-clause-len : goal.returns-then-byte-lt128-clause-len
returns-then-byte-lt128-clause-len c =
    let bytes = c.args.bytes.now in
    let isnt : length bytes ≢ 0 = eqb-false (length bytes) 0 (sym c.is_empty.ensures ∙ c.if-not-is_empty.true) in
    let some : 0 < length bytes = omega arith in
    c.ascii_len.ensures
    ∙ ap ascii_len c.byte_at-byte.ensures
    ∙ sym (first_continue_len bytes some (subst (λ byte. byte < 128) c.byte_at-byte.ensures c.if-byte-lt128.true))
