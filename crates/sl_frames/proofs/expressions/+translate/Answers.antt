use Rattle.std.proofs.Common.{ap, ◌∙◌}
use Rattle.sl_frames.specs.Translated.{code_of}
use Rattle.sl_frames.proofs.Variants.{code_of_number, code_of_text, code_of_path}
use Rattle.sl_frames.proofs.Added.{on_ok, adds_none, adds_compare, adds_apply}
use Rattle.sl_frames.proofs.expressions.+translate.Goals as goal

pub returns-in_ok-expr-in-Number-clause-before : goal.returns-in_ok-expr-in-Number-clause-before
returns-in_ok-expr-in-Number-clause-before t c =
    adds_none c.args.body.now (code_of c.args.e.now c.args.free)
    (ap (λ e. (code_of e c.args.free).before) c.in-Number.is ∙ ap (λ code. code.before) (code_of_number c.in-Number.number c.in-Number.field-1 c.args.free))

pub returns-in-TextOf-clause-before : goal.returns-in-TextOf-clause-before
returns-in-TextOf-clause-before t c =
    adds_none c.args.body.now (code_of c.args.e.now c.args.free)
    (ap (λ e. (code_of e c.args.free).before) c.in-TextOf.is ∙ ap (λ code. code.before) (code_of_text c.in-TextOf.field-0 c.args.free))

pub returns-in_ok-place_of-in-Path-clause-before : goal.returns-in_ok-place_of-in-Path-clause-before
returns-in_ok-place_of-in-Path-clause-before t c =
    adds_none c.args.body.now (code_of c.args.e.now c.args.free)
    (ap (λ e. (code_of e c.args.free).before) c.in-Path.is ∙ ap (λ code. code.before) (code_of_path c.in-Path.path c.in-Path.field-1 c.args.free))

pub returns-in_ok-right-in-Apply-clause-before : goal.returns-in_ok-right-in-Apply-clause-before
returns-in_ok-right-in-Apply-clause-before t c =
    rw c.in-Apply.is
    (on_ok c.result_of.result
    (adds_apply c.in-Apply.op c.args.body.now c.translate.new.body c.translate-in-Apply.new.body c.result_of.new.body c.in-Apply.left c.in-Apply.right c.get.result.now c.get-in-Apply.result.now
    c.in-Apply.field-3 c.in-Apply.file c.in-Apply.line c.args.free c.in_ok-left-in-Apply.left.free c.in_ok-right-in-Apply.right.free c.in_ok-left-in-Apply.left.expr c.in_ok-right-in-Apply.right.expr
    c.get.ensures c.get-in-Apply.ensures c.in_ok-left-in-Apply.ensures.before c.in_ok-left-in-Apply.ensures.expr c.in_ok-left-in-Apply.ensures.free c.in_ok-right-in-Apply.ensures.before
    c.in_ok-right-in-Apply.ensures.expr c.in_ok-right-in-Apply.ensures.free)
    c.result_of.ensures.before)

pub returns-in_ok-expr-in-Compare-clause-before : goal.returns-in_ok-expr-in-Compare-clause-before
returns-in_ok-expr-in-Compare-clause-before t c =
    rw c.in-Compare.is
    (adds_compare c.in-Compare.comparison c.args.body.now c.translate-in-Compare.new.body c.translate-in-Compare-2.new.body c.in-Compare.left c.in-Compare.right c.get-in-Compare.result.now
    c.get-in-Compare-2.result.now c.in-Compare.field-3 c.args.free c.in_ok-left-in-Compare.left.free c.get-in-Compare.ensures c.get-in-Compare-2.ensures c.in_ok-left-in-Compare.ensures.before
    c.in_ok-left-in-Compare.ensures.free c.in_ok-right-in-Compare.ensures.before)
