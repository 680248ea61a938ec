use Rattle.std.proofs.Common.{reverse, take, subst}
use Rattle.std.proofs.lemmas.List.{take_all}
use Rattle.c_machine.specs.Resolved.{AreInlines, InlinesOf}
use Rattle.c_machine.proofs.Calling.{no_inlines}
use Rattle.c_machine.proofs.Numbering.{reversed}
use Rattle.c_machine.proofs.functions.resolve_inlines.Goals as goal

pub loop-function-init : goal.loop-function-init
loop-function-init c = λ file named. no_inlines file c.new-inlines.result c.new-inlines.ensures

pub loop-function-preserved : goal.loop-function-preserved
loop-function-preserved c = λ file named.
    let functions = c.args.functions.now in
    let i = c.loop-function.function-index in
    let x = c.function-item.result
    in subst (λ some. AreInlines file some c.add_inline.new.inlines) (reversed functions i x x c.loop-function-test.true c.function-item.is)
    (c.in_ok-add_inline.ensures file (reverse (take i functions)) named c.new-numbers.ensures (c.loop-function.invariant file named))

pub returns : goal.returns
returns c = subst (λ some. InlinesOf c.args.globals.now some c.loop-function.inlines) (take_all c.loop-function.function-index c.args.functions.now c.loop-function-test.false) c.loop-function.invariant
