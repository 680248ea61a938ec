-- What still happens from a configuration of the machine.
use Rattle.std.specs.Prelude.{ℤ, ◌-◌, List, [], ◌∷◌, Bool, map, drop}
use Rattle.sl_run.specs.Run.{Act, pure, ◌>>=◌, ◌>>◌, round_then, loop}
use Rattle.sl_run.specs.Statements.{Next, after_round, then_on, in_order}
use Rattle.c_tree.specs.Meaning.{Flow}
use Rattle.c_machine.specs.declared.program.Program.{Program}
use Rattle.c_machine.specs.declared.program.Stmt.{Stmt}
use Rattle.c_machine.specs.declared.memory.Memory.{Memory}
use Rattle.c_machine.specs.declared.configuration.Entry.{Entry}
use Rattle.c_machine.specs.declared.configuration.Entry.TheVariants.{Rest, Again, Rounds, Back}
use Rattle.c_machine.specs.State.{State}
use Rattle.c_machine.specs.Meaning.{round, rounds, meaning, called, given, leave, store_result, exit_value}

-- a memory of the machine, as a state of the run
abbrev pub state_of : Memory → State
state_of memory = record { globals = memory.globals; frames = memory.frames }

-- what a block does
abbrev pub block : Program → List Stmt → Act State Flow
block program stmts = in_order (map meaning stmts) (called program)

-- What an entry still does when it is come to, and how it is left: the rest of a block from a place on, a loop to go round again, a
-- counted loop from its next count up to its end, and the end of a call. A loop is gone round again unless its last round was left
-- by a break or a return
abbrev pub entered : Program → Entry → Flow → Act State Flow
entered program (Rest stmts from) flow = then_on (block program (drop from stmts)) flow
entered program (Again stmts) flow = round_then (after_round flow) (loop (round (block program stmts)))
entered program (Rounds slot from end stmts) flow = round_then (after_round flow) (rounds slot (block program stmts) from (end - from))
entered program (Back target gives) flow = given gives flow >>= leave >>= store_result target >> pure Next

-- the end of the first function, which has a result or not: what it gives is the exit value, and its frame ends
abbrev pub finish : Bool → Flow → Act State ℤ
finish gives flow = given gives flow >>= exit_value >>= leave

-- what still happens to the end of the run: the entries from the top, each from how the one above it was left
unfoldable pub resume : Program → Bool → List Entry → Flow → Act State ℤ
resume program gives [] flow = finish gives flow
resume program gives (entry ∷ control) flow = entered program entry flow >>= resume program gives control
