use Rattle.std.proofs.Common.{◌∷◌, ◌++◌, [], ◌+◌, ap, ◌∙◌, add-one}
use Rattle.sl_parse_expr.specs.declared.tokens.Stop.TheVariants as stop
use Rattle.sl_parse_expr.proofs.Telling.{err_two}
use Rattle.sl_parse_expr.proofs.Skipping.{text_skipped}
use Rattle.sl_parse_expr.proofs.skips.skip_text.Goals as goal

pub returns-in_err-lexeme-clause-told : goal.returns-in_err-lexeme-clause-told
returns-in_err-lexeme-clause-told c = err_two _ _ _ stop.Mem _ c.from_residual-in_err-lexeme.ensures.1 tt

pub returns-in_err-push-clause-told : goal.returns-in_err-push-clause-told
returns-in_err-push-clause-told c = err_two _ _ _ stop.Mem _ c.from_residual-in_err-push.ensures.1 tt

pub returns-clause-told : goal.returns-clause-told
returns-clause-told c =
    let h = c.in_ok-first.ensures.told in
    let l = c.in_ok-lexeme.ensures in
    let n = c.new-all.ensures in
    let p = c.in_ok-push.ensures.ok in
    text_skipped c.args.bytes.now c.args.tokens.now c.args.at (c.args.at + 1) c.in_ok-first.first c.push.new.self h (p ∙ (ap (λ x. x ++ c.in_ok-lexeme.field-0 ∷ []) n ∙ ap (λ x. x ∷ []) l)) (add-one c.args.at)
