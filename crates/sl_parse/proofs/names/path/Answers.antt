use Rattle.std.proofs.Common.{◌≡◌, ◌∷◌, [], ◌++◌, ◌+◌, suc, ap, ◌∙◌, arith}
use Rattle.sl_tree.specs.Sorts.{spelled, dot}
use Rattle.sl_parse_expr.specs.Told.{behind}
use Rattle.sl_parse_expr.proofs.Telling.{comes, comes_not, token_here}
use Rattle.sl_parse.specs.Names.{Path}
use Rattle.sl_parse.specs.Grammar.{Bound}
use Rattle.sl_parse.specs.Told.{found_tree}
use Rattle.sl_parse.proofs.Telling.{err_told}
use Rattle.sl_parse.proofs.NamesRead.{path_begins, path_goes, path_ends, path_halts, path_stops}
use Rattle.sl_parse.proofs.names.path.Goals as goal

pub returns-in_err-first-clause-told : goal.returns-in_err-first-clause-told
returns-in_err-first-clause-told c =
    let file = c.args.file in
    let bytes = c.args.bytes.now in
    let tokens = c.args.tokens.now in
    let ts = behind bytes tokens c.args.start in
    let e = c.in_err-first.field-0.0 in
    err_told file bytes tokens (λ b. found_tree b Path ts) e c.from_residual.result (path_halts file bytes tokens ts e c.in_err-first.ensures.told) c.from_residual.ensures.1

pub names-init : goal.names-init
unfolding spelled
names-init c =
    let bytes = c.args.bytes.now in
    let tokens = c.args.tokens.now in
    let k = spelled bytes c.in_ok-first.first in
    let one : c.push.new.self ≡ k.text ∷ [] = c.in_ok-push.ensures.ok ∙ rw (c.new-path.ensures, c.in_ok-text.ensures) in
    let n : suc c.args.start ≡ c.args.start + 1 = omega arith in
    let t = rw (n) at c.in_ok-first.ensures.told in
    record {
      begun = omega arith;
      in_bounds = omega (arith, c.in_ok-first.ensures.lies);
      grows = path_begins (behind bytes tokens c.args.start) (behind bytes tokens (c.args.start + 1)) k c.push.new.self t one;
    }

pub returns-in_err-name-clause-told : goal.returns-in_err-name-clause-told
returns-in_err-name-clause-told c =
    let file = c.args.file in
    let bytes = c.args.bytes.now in
    let tokens = c.args.tokens.now in
    let ts = behind bytes tokens c.names.at in
    let mid = behind bytes tokens (c.names.at + 1) in
    let f = λ (b : Bound). found_tree b Path (behind bytes tokens c.args.start) in
    let e = c.in_err-name.field-0.0 in
    let h = comes dot c.peek.result ts c.peek.ensures.sort c.names-test.true in
    let d = token_here bytes tokens c.names.at (c.names.at + 1) (dot ∷ []) (omega arith) (c.peek.ensures.present (omega arith)) h in
    err_told file bytes tokens f e c.from_residual-in_err-name.result
    (path_stops file bytes tokens f c.names.path ts mid d.0 e c.names.invariant.grows d.1 c.in_err-name.ensures.told) c.from_residual-in_err-name.ensures.1

pub names-preserved : goal.names-preserved
unfolding spelled
names-preserved c =
    let bytes = c.args.bytes.now in
    let tokens = c.args.tokens.now in
    let ts = behind bytes tokens c.names.at in
    let mid = behind bytes tokens (c.names.at + 1) in
    let h = comes dot c.peek.result ts c.peek.ensures.sort c.names-test.true in
    let d = token_here bytes tokens c.names.at (c.names.at + 1) (dot ∷ []) (omega arith) (c.peek.ensures.present (omega arith)) h in
    let k = spelled bytes c.in_ok-name.name in
    let more : c.push-in-names.new.self ≡ c.names.path ++ k.text ∷ [] = c.in_ok-push-2.ensures.ok ∙ ap (λ x. c.names.path ++ x ∷ []) c.in_ok-text-2.ensures in
    let n : suc (c.names.at + 1) ≡ c.names.at + 2 = omega arith in
    let t = rw (n) at c.in_ok-name.ensures.told in
    let begun = c.names.invariant.begun in
    record {
      begun = omega arith;
      in_bounds = omega (arith, c.in_ok-name.ensures.lies);
      grows = λ b. c.names.invariant.grows b ∙ path_goes c.names.path c.push-in-names.new.self ts mid (behind bytes tokens (c.names.at + 2)) d.0 k d.1 t more;
    }

pub returns-clause-told : goal.returns-clause-told
returns-clause-told c =
    let ts = behind c.args.bytes.now c.args.tokens.now c.names.at in
    λ b. c.names.invariant.grows b ∙ path_ends c.names.path ts (comes_not dot c.peek.result ts c.peek.ensures.sort c.names-test.false)
