use Rattle.std.proofs.Common.{subst}
use Rattle.c_machine.specs.Naming.{callee_in}
use Rattle.c_rules.specs.Naming.{item_named}
use Rattle.c_machine.specs.Resolved.{FunctionIs}
use Rattle.c_machine.proofs.Calling.{same_inlines, more_inlines}
use Rattle.c_machine.proofs.functions.add_inline.Goals as goal

pub returns-then-not-function : goal.returns-then-not-function
returns-then-not-function c = λ file earlier named empty are. same_inlines file c.args.function.now earlier c.args.inlines.now c.if-not-function.true are

pub returns : goal.returns
returns c = λ file earlier named empty are.
    more_inlines file c.args.function.now earlier c.args.inlines.now c.set.new.self c.args.globals.now c.in_ok-resolved.resolved c.if-not-function.false named
    (subst (λ callees. FunctionIs c.args.globals.now callees c.args.function.now c.in_ok-resolved.resolved) (λ k name. callee_in (empty name k) (item_named c.args.inlines.now name)) c.in_ok-resolved.ensures)
    (rw c.as_str.ensures at c.in_ok-set.ensures)
    are
