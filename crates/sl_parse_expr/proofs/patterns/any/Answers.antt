use Rattle.std.proofs.Common.{◌∷◌, [], ◌+◌, sym, ap, ◌∙◌, arith}
use Rattle.sl_grammar.specs.Law.{found_as}
use Rattle.sl_tree.specs.Sorts.{spelled, colon}
use Rattle.sl_parse_expr.specs.Names.{Type_term, fits}
use Rattle.sl_parse_expr.specs.Values.{any_from}
use Rattle.sl_parse_expr.specs.Grammar.{read}
use Rattle.sl_parse_expr.specs.Told.{behind, head_sort, reads, any_form}
use Rattle.sl_parse_expr.proofs.Telling.{token_here, two_err}
use Rattle.sl_parse_expr.proofs.PatternsRead.{guard_has, any_plain, any_stops, any_typed}
use Rattle.sl_parse_expr.proofs.patterns.any.Goals as goal

pub returns-then-not-is_ascribed-clause-told : goal.returns-then-not-is_ascribed-clause-told
unfolding spelled
returns-then-not-is_ascribed-clause-told c =
    any_plain c.args.room (behind c.args.bytes.now c.args.tokens.now c.args.at) (spelled c.args.bytes.now c.args.first) (sym c.is_ascribed.ensures.found ∙ c.if-not-is_ascribed.true)

pub returns-in_err-kind-clause-told : goal.returns-in_err-kind-clause-told
returns-in_err-kind-clause-told c =
    let bytes = c.args.bytes.now in
    let tokens = c.args.tokens.now in
    let ts = behind bytes tokens c.args.at in
    let more = behind bytes tokens (c.args.at + 1) in
    let k = spelled bytes c.args.first in
    let h = sym c.is_ascribed.ensures.found ∙ c.if-not-is_ascribed.false in
    let d = token_here bytes tokens c.args.at (c.args.at + 1) (colon ∷ []) (omega arith) (c.is_ascribed.ensures.present c.if-not-is_ascribed.false) (guard_has (fits c.args.room) (colon ∷ []) (head_sort ts) h) in
    two_err bytes tokens (read c.deeper.result Type_term more) (found_as (any_from k) (reads (any_form c.args.room) ts)) c.in_err-kind.field-0.0 c.from_residual.result c.in_err-kind.ensures.told c.from_residual.ensures.1
    (λ rest e. any_stops c.args.room ts more rest k d.0 h d.1 (ap (λ r. read r Type_term more) (sym c.deeper.ensures) ∙ e))

pub returns-clause-told : goal.returns-clause-told
unfolding spelled
returns-clause-told c =
    let bytes = c.args.bytes.now in
    let tokens = c.args.tokens.now in
    let ts = behind bytes tokens c.args.at in
    let more = behind bytes tokens (c.args.at + 1) in
    let rest = behind bytes tokens c.in_ok-kind.next in
    let k = spelled bytes c.args.first in
    let h = sym c.is_ascribed.ensures.found ∙ c.if-not-is_ascribed.false in
    let d = token_here bytes tokens c.args.at (c.args.at + 1) (colon ∷ []) (omega arith) (c.is_ascribed.ensures.present c.if-not-is_ascribed.false) (guard_has (fits c.args.room) (colon ∷ []) (head_sort ts) h) in
    any_typed c.args.room ts more rest k d.0 c.in_ok-kind.kind c.in_ok-kind.levels h d.1 (ap (λ r. read r Type_term more) (sym c.deeper.ensures) ∙ c.in_ok-kind.ensures.told)
    c.join-span.result (c.in_ok-kind.levels + 1) c.join-span.ensures (omega arith)
