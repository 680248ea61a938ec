use Rattle.std.proofs.Common.{◌≡◌, ◌∷◌, [], ◌++◌, ◌+◌, suc, ap, ◌∙◌, arith}
use Rattle.sl_grammar.specs.Phrase.{read_token}
use Rattle.sl_grammar.specs.Grammar.{is}
use Rattle.sl_tree.specs.Sorts.{spelled, sort, dot}
use Rattle.sl_tree.specs.WellShaped.{names}
use Rattle.sl_parse_expr.specs.Told.{behind, path_from}
use Rattle.sl_parse_expr.proofs.Telling.{comes, comes_not, token_err, token_here}
use Rattle.sl_parse_expr.proofs.Paths.{path_ends, path_stops, path_goes}
use Rattle.sl_parse_expr.proofs.types.more_names.Goals as goal

pub returns-in_err-name-clause-told : goal.returns-in_err-name-clause-told
returns-in_err-name-clause-told c =
    let bytes = c.args.bytes.now in
    let tokens = c.args.tokens.now in
    let ts = behind bytes tokens c.names.at in
    let h = comes dot c.peek.result ts c.peek.ensures.sort c.names-test.true in
    let d = token_here bytes tokens c.names.at (c.names.at + 1) (dot ∷ []) (omega arith) (c.peek.ensures.present (omega arith)) h in
    token_err bytes tokens (c.names.at + 1) (read_token (is sort names) (behind bytes tokens (c.names.at + 1))) (path_from (c.args.first, c.args.first_span) (behind bytes tokens c.args.start))
    c.in_err-name.field-0.0 c.from_residual.result c.in_err-name.ensures.told c.from_residual.ensures.1
    (λ rest e. c.names.invariant.grows ∙ path_stops (c.names.path, c.names.span) ts (behind bytes tokens (c.names.at + 1)) rest d.0 h d.1 e)

pub names-preserved : goal.names-preserved
unfolding spelled
names-preserved c =
    let bytes = c.args.bytes.now in
    let tokens = c.args.tokens.now in
    let ts = behind bytes tokens c.names.at in
    let h = comes dot c.peek.result ts c.peek.ensures.sort c.names-test.true in
    let d = token_here bytes tokens c.names.at (c.names.at + 1) (dot ∷ []) (omega arith) (c.peek.ensures.present (omega arith)) h in
    let k = spelled bytes c.in_ok-name.name in
    let one : c.push.new.self ≡ c.names.path ++ k.text ∷ [] = c.in_ok-push.ensures.ok ∙ ap (λ x. c.names.path ++ x ∷ []) c.in_ok-text.ensures in
    let n : suc (c.names.at + 1) ≡ c.names.at + 2 = omega arith in
    let rest = behind bytes tokens (suc (c.names.at + 1)) in
    record {
      start_to = omega arith;
      in_bounds = omega (arith, c.in_ok-name.ensures.in_bounds);
      grows = c.names.invariant.grows ∙ (path_goes (c.names.path, c.names.span) ts (behind bytes tokens (c.names.at + 1)) rest d.0 k h d.1 c.in_ok-name.ensures.told
          ∙ rw (one, c.join-span.ensures, n));
    }

pub returns-clause-told : goal.returns-clause-told
returns-clause-told c =
    let ts = behind c.args.bytes.now c.args.tokens.now c.names.at in
    c.names.invariant.grows ∙ path_ends (c.names.path, c.names.span) ts (comes_not dot c.peek.result ts c.peek.ensures.sort c.names-test.false)
