use Rattle.std.proofs.Common.{◌≡◌, ◌∷◌, [], ◌++◌, ◌∙◌, ap, refl, arith}
use Rattle.sl_grammar.specs.Law.{found_as}
use Rattle.sl_grammar.specs.Grammar.{Many, Then, Ref}
use Rattle.sl_tree.specs.Sorts.{with_word}
use Rattle.sl_parse_expr.specs.Told.{behind}
use Rattle.sl_parse.specs.Names.{Type_term, T}
use Rattle.sl_parse.specs.Told.{reads, types_form, types_view}
use Rattle.sl_parse.proofs.Fine.{fine}
use Rattle.sl_parse.proofs.Telling.{err_told, fault_as}
use Rattle.sl_parse.proofs.Listing.{listed_trees}
use Rattle.sl_parse.proofs.LoopsRead.{more_at_fault, more_on, more_over, listed_first}
use Rattle.sl_parse.proofs.params.types.Goals as goal

pub returns-in_err-first-clause-told : goal.returns-in_err-first-clause-told
returns-in_err-first-clause-told c =
    let file = c.args.file in
    let bytes = c.args.bytes.now in
    let tokens = c.args.tokens.now in
    let ts = behind bytes tokens c.args.start in
    let e = c.in_err-first.field-0.0 in
    err_told file bytes tokens (λ b. found_as types_view (reads b types_form ts)) e c.from_residual.result
    (fault_as file bytes tokens types_view (λ b. reads b types_form ts) e
    (listed_first file bytes tokens Type_term (with_word ∷ []) ts e (fine (Many (Then (T (with_word ∷ [])) (Ref Type_term))) refl) refl c.in_err-first.ensures.told))
    c.from_residual.ensures.1

pub types-init : goal.types-init
types-init c =
    let bytes = c.args.bytes.now in
    let tokens = c.args.tokens.now in
    let ts = behind bytes tokens c.args.start in
    let rest = behind bytes tokens c.in_ok-first.next in
    let all : c.push.new.self ≡ c.in_ok-first.first ∷ [] = c.in_ok-push.ensures.ok ∙ ap (λ xs. xs ++ c.in_ok-first.first ∷ []) c.new-all.ensures in
    let l = c.in_ok-first.ensures.lies in
    record {
      begun = omega arith;
      in_bounds = omega arith;
      grows = λ b. listed_trees b Type_term (with_word ∷ []) c.in_ok-first.first ts rest (c.in_ok-first.ensures.told b) ∙ rw (all);
    }

pub returns-in_err-one-clause-told : goal.returns-in_err-one-clause-told
returns-in_err-one-clause-told c =
    let file = c.args.file in
    let bytes = c.args.bytes.now in
    let tokens = c.args.tokens.now in
    let ts = behind bytes tokens c.args.start in
    let e = c.in_err-one.field-0.0 in
    err_told file bytes tokens (λ b. found_as types_view (reads b types_form ts)) e c.from_residual-in_err-one.result
    (more_at_fault file bytes tokens Type_term with_word refl refl (λ b. found_as types_view (reads b types_form ts)) c.types.all c.types.at c.peek.result c.peek.ensures.sort c.types.invariant.grows e
    c.types-test.true c.in_err-one.ensures.told)
    c.from_residual-in_err-one.ensures.1

pub types-preserved : goal.types-preserved
types-preserved c =
    let bytes = c.args.bytes.now in
    let tokens = c.args.tokens.now in
    let ts = behind bytes tokens c.args.start in
    let l = c.in_ok-one.ensures.lies in
    let i = c.types.invariant.begun in
    record {
      begun = omega arith;
      in_bounds = omega arith;
      grows = more_on c.args.file bytes tokens Type_term with_word refl refl (λ b. found_as types_view (reads b types_form ts)) c.types.all c.types.at c.peek.result c.peek.ensures.sort c.types.invariant.grows
          c.in_ok-one.one c.in_ok-one.next c.push-in-types.new.self c.types-test.true c.in_ok-one.ensures.told c.in_ok-push-2.ensures.ok;
    }

pub returns-clause-told : goal.returns-clause-told
returns-clause-told c =
    let bytes = c.args.bytes.now in
    let tokens = c.args.tokens.now in
    let ts = behind bytes tokens c.args.start in
    more_over c.args.file bytes tokens Type_term with_word refl refl (λ b. found_as types_view (reads b types_form ts)) c.types.all c.types.at c.peek.result c.peek.ensures.sort c.types.invariant.grows
    c.types-test.false
