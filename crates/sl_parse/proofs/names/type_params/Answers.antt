use Rattle.std.proofs.Common.{◌≡◌, ◌∷◌, [], ◌++◌, ◌+◌, suc, ap, ◌∙◌, arith}
use Rattle.sl_tree.specs.Sorts.{spelled, comma, left_bracket}
use Rattle.sl_parse_expr.specs.Told.{behind}
use Rattle.sl_parse_expr.proofs.Telling.{comes, comes_not, token_here}
use Rattle.sl_parse.specs.Names.{Type_params}
use Rattle.sl_parse.specs.Grammar.{Bound}
use Rattle.sl_parse.specs.Told.{found_tree}
use Rattle.sl_parse.proofs.Telling.{err_told}
use Rattle.sl_parse.proofs.NamesRead.{params_begins, params_none, params_goes, params_ends, params_halts, params_stops, params_unclosed}
use Rattle.sl_parse.proofs.names.type_params.Goals as goal

pub returns-then-peek-ne-LEFT_BRACKET-clause-told : goal.returns-then-peek-ne-LEFT_BRACKET-clause-told
returns-then-peek-ne-LEFT_BRACKET-clause-told c =
    let ts = behind c.args.bytes.now c.args.tokens.now c.args.start in
    params_none ts c.new-all.result (comes_not left_bracket c.peek.result ts c.peek.ensures.sort c.if-peek-ne-LEFT_BRACKET.true) c.new-all.ensures

pub returns-in_err-first-clause-told : goal.returns-in_err-first-clause-told
returns-in_err-first-clause-told c =
    let file = c.args.file in
    let bytes = c.args.bytes.now in
    let tokens = c.args.tokens.now in
    let ts = behind bytes tokens c.args.start in
    let f = λ (b : Bound). found_tree b Type_params ts in
    let e = c.in_err-first.field-0.0 in
    let h = comes left_bracket c.peek.result ts c.peek.ensures.sort c.if-peek-ne-LEFT_BRACKET.false in
    let o = token_here bytes tokens c.args.start (c.args.start + 1) (left_bracket ∷ []) (omega arith) (c.peek.ensures.present (omega arith)) h in
    err_told file bytes tokens f e c.from_residual.result
    (params_halts file bytes tokens ts (behind bytes tokens (c.args.start + 1)) o.0 e h o.1 c.in_err-first.ensures.told) c.from_residual.ensures.1

pub names-init : goal.names-init
unfolding spelled
names-init c =
    let bytes = c.args.bytes.now in
    let tokens = c.args.tokens.now in
    let ts = behind bytes tokens c.args.start in
    let h = comes left_bracket c.peek.result ts c.peek.ensures.sort c.if-peek-ne-LEFT_BRACKET.false in
    let o = token_here bytes tokens c.args.start (c.args.start + 1) (left_bracket ∷ []) (omega arith) (c.peek.ensures.present (omega arith)) h in
    let k = spelled bytes c.in_ok-first.first in
    let one : c.push.new.self ≡ k.text ∷ [] = c.in_ok-push.ensures.ok ∙ rw (c.new-all.ensures, c.in_ok-text.ensures) in
    let n : suc (c.args.start + 1) ≡ c.args.start + 2 = omega arith in
    let t = rw (n) at c.in_ok-first.ensures.told in
    record {
      begun = omega arith;
      in_bounds = omega (arith, c.in_ok-first.ensures.lies);
      grows = params_begins ts (behind bytes tokens (c.args.start + 1)) (behind bytes tokens (c.args.start + 2)) o.0 k c.push.new.self h o.1 t one;
    }

pub returns-in_err-name-clause-told : goal.returns-in_err-name-clause-told
returns-in_err-name-clause-told c =
    let file = c.args.file in
    let bytes = c.args.bytes.now in
    let tokens = c.args.tokens.now in
    let ts = behind bytes tokens c.names.at in
    let f = λ (b : Bound). found_tree b Type_params (behind bytes tokens c.args.start) in
    let e = c.in_err-name.field-0.0 in
    let h = comes comma c.peek-in-names.result ts c.peek-in-names.ensures.sort c.names-test.true in
    let d = token_here bytes tokens c.names.at (c.names.at + 1) (comma ∷ []) (omega arith) (c.peek-in-names.ensures.present (omega arith)) h in
    err_told file bytes tokens f e c.from_residual-in_err-name.result
    (params_stops file bytes tokens f c.names.all ts (behind bytes tokens (c.names.at + 1)) d.0 e c.names.invariant.grows d.1 c.in_err-name.ensures.told) c.from_residual-in_err-name.ensures.1

pub names-preserved : goal.names-preserved
unfolding spelled
names-preserved c =
    let bytes = c.args.bytes.now in
    let tokens = c.args.tokens.now in
    let ts = behind bytes tokens c.names.at in
    let mid = behind bytes tokens (c.names.at + 1) in
    let h = comes comma c.peek-in-names.result ts c.peek-in-names.ensures.sort c.names-test.true in
    let d = token_here bytes tokens c.names.at (c.names.at + 1) (comma ∷ []) (omega arith) (c.peek-in-names.ensures.present (omega arith)) h in
    let k = spelled bytes c.in_ok-name.name in
    let more : c.push-in-names.new.self ≡ c.names.all ++ k.text ∷ [] = c.in_ok-push-2.ensures.ok ∙ ap (λ x. c.names.all ++ x ∷ []) c.in_ok-text-2.ensures in
    let n : suc (c.names.at + 1) ≡ c.names.at + 2 = omega arith in
    let t = rw (n) at c.in_ok-name.ensures.told in
    let begun = c.names.invariant.begun in
    record {
      begun = omega arith;
      in_bounds = omega (arith, c.in_ok-name.ensures.lies);
      grows = λ b. c.names.invariant.grows b ∙ params_goes c.names.all c.push-in-names.new.self ts mid (behind bytes tokens (c.names.at + 2)) d.0 k d.1 t more;
    }

pub returns-in_err-expect-clause-told : goal.returns-in_err-expect-clause-told
returns-in_err-expect-clause-told c =
    let file = c.args.file in
    let bytes = c.args.bytes.now in
    let tokens = c.args.tokens.now in
    let ts = behind bytes tokens c.names.at in
    let f = λ (b : Bound). found_tree b Type_params (behind bytes tokens c.args.start) in
    let e = c.in_err-expect.field-0.0 in
    let h = comes_not comma c.peek-in-names.result ts c.peek-in-names.ensures.sort c.names-test.false in
    err_told file bytes tokens f e c.from_residual-in_err-expect.result
    (params_unclosed file bytes tokens f c.names.all ts e c.names.invariant.grows h c.in_err-expect.ensures.told) c.from_residual-in_err-expect.ensures.1

pub returns-clause-told : goal.returns-clause-told
returns-clause-told c =
    let bytes = c.args.bytes.now in
    let tokens = c.args.tokens.now in
    let ts = behind bytes tokens c.names.at in
    let h = comes_not comma c.peek-in-names.result ts c.peek-in-names.ensures.sort c.names-test.false in
    let n : suc c.names.at ≡ c.names.at + 1 = omega arith in
    let t = rw (n) at c.in_ok-expect.ensures.told in
    λ b. c.names.invariant.grows b ∙ params_ends c.names.all ts (behind bytes tokens (c.names.at + 1)) (spelled bytes c.in_ok-expect.field-0) h t
