use Rattle.std.proofs.Common.{List, ◌∷◌, ◌++◌, None, replicate, sym, ◌∙◌}
use Rattle.c_machine.specs.declared.program.Stmt.{Stmt}
use Rattle.c_machine.specs.declared.configuration.Entry.TheVariants.{Rest}
use Rattle.c_machine.specs.declared.configuration.Configuration.{Configuration}
use Rattle.c_machine.proofs.Beginning.{no_start, no_function, begins, stuck_start}
use Rattle.c_machine.proofs.configuration.Configuration.start.Goals as goal

pub returns-in_default : goal.returns-in_default
returns-in_default c =
    rw c.stuck.ensures
    (stuck_start c.args.self.now.program c.args.self.now.left c.args.self.now c.args.self.now c.requires (no_start c.args.self.now.program c.args.self.now.left c.in_default.is c.args.self.now c.requires))

pub returns-in_default-get : goal.returns-in_default-get
returns-in_default-get c =
    rw c.stuck-in_default-get.ensures
    (stuck_start c.args.self.now.program c.args.self.now.left c.args.self.now c.args.self.now c.requires
    (no_function c.args.self.now.program c.args.self.now.left c.in-Some.number c.in-Some.is (sym (c.in_default-get.ensures {u = tt}).value) c.args.self.now c.requires))

pub returns : goal.returns
returns c =
    let built : Configuration → List Stmt → Configuration = λ m body. record { program = c.args.self.now.program; memory = record { globals = m.memory.globals; frames = c.in_ok-frame.frame ∷ m.memory.frames }; control = Rest body 0 ∷ m.control; flow = m.flow; gives = c.in-Some-get.function.now.gives; at_end = m.at_end; left = m.left } in
    let pushed : Configuration = record { program = c.args.self.now.program; memory = record { globals = c.args.self.now.memory.globals; frames = c.push.new.self }; control = c.push-2.new.self; flow = c.args.self.now.flow; gives = c.in-Some-get.function.now.gives; at_end = c.args.self.now.at_end; left = c.args.self.now.left } in
    begins c.args.self.now.program c.args.self.now.left c.in-Some.number c.in-Some.is c.in-Some-get.function.now c.in_ok-frame.frame pushed (sym (c.in-Some-get.ensures {u = tt}).value)
    ((c.in_ok-frame.ensures {u = tt}) ∙ (λ k. record { owner = c.in-Some.number; cells = c.new.ensures k ++ replicate c.in-Some-get.function.now.vars None }))
    ((λ k. record c.args.self.now { memory = record { globals = c.args.self.now.memory.globals; frames = c.in_ok-push.ensures {u = tt} k }; control = c.in_ok-push-2.ensures {u = tt} k; gives = c.in-Some-get.function.now.gives })
    ∙ (λ k. built (c.requires k) (c.in_ok-body.ensures {u = tt} k)))
