use Rattle.std.proofs.Common.{◌≡◌, ◌∷◌, [], ◌+◌, suc, ◌∙◌, arith}
use Rattle.sl_grammar.specs.Phrase.{read_token}
use Rattle.sl_grammar.specs.Law.{found_as}
use Rattle.sl_grammar.specs.Grammar.{is}
use Rattle.sl_tree.specs.Sorts.{spelled, sort}
use Rattle.sl_tree.specs.WellShaped.{names}
use Rattle.sl_parse_expr.specs.Told.{behind, reads, path_form, path_view, path_from}
use Rattle.sl_parse_expr.proofs.Telling.{token_err, told_same}
use Rattle.sl_parse_expr.proofs.Paths.{path_begins, path_halts}
use Rattle.sl_parse_expr.proofs.types.path.Goals as goal

pub returns-in_err-first-clause-told : goal.returns-in_err-first-clause-told
returns-in_err-first-clause-told c =
    let bytes = c.args.bytes.now in
    let tokens = c.args.tokens.now in
    let ts = behind bytes tokens c.args.at in
    token_err bytes tokens c.args.at (read_token (is sort names) ts) (found_as path_view (reads path_form ts))
    c.in_err-first.field-0.0 c.from_residual.result c.in_err-first.ensures.told c.from_residual.ensures.1 (λ rest e. path_halts ts rest e)

pub returns-clause-told : goal.returns-clause-told
unfolding spelled
returns-clause-told c =
    let bytes = c.args.bytes.now in
    let tokens = c.args.tokens.now in
    let ts = behind bytes tokens c.args.at in
    let k = spelled bytes c.in_ok-first.first in
    let one : c.push.new.self ≡ k.text ∷ [] = c.in_ok-push.ensures.ok ∙ rw (c.new-path.ensures, c.in_ok-text.ensures) in
    let n : suc c.args.at ≡ c.args.at + 1 = omega arith in
    let e : found_as path_view (reads path_form ts) ≡ path_from (c.push.new.self, k.span) (behind bytes tokens (c.args.at + 1)) = path_begins ts (behind bytes tokens (suc c.args.at)) k c.in_ok-first.ensures.told ∙ rw (one, n) in
    told_same bytes tokens (path_from (c.push.new.self, k.span) (behind bytes tokens (c.args.at + 1))) (found_as path_view (reads path_form ts)) c.more_names.result e c.more_names.ensures.told
