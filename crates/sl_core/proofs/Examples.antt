-- Small cores and their runs, by computation: they hold the definitions in place.
use Rattle.std.proofs.Common.{◌≡◌, ℕ, ℤ, List, [], ◌∷◌, false, Some, codes}
use Rattle.std.specs.Prelude.{pos, neg_ℤ, negsuc}
use Rattle.sl_num.specs.declared.arithmetic.Op.TheVariants.{Add, Div, Rem}
use Rattle.sl_num.specs.declared.comparing.Comparison.TheVariants.{Less}
use Rattle.sl_run.specs.Run.{Done, Halt, TurnsSpent, Stuck, Puts, Asks}
use Rattle.sl_run.specs.Outcome.{Outcome, whole_run}
use Rattle.sl_core.specs.declared.tree.Core.{Core}
use Rattle.sl_core.specs.declared.tree.CoreType.TheVariants.{Int}
use Rattle.sl_core.specs.declared.tree.CorePath.{CorePath}
use Rattle.sl_core.specs.declared.tree.CoreRoot.TheVariants.{Var}
use Rattle.sl_core.specs.declared.tree.CoreExpr.{CoreExpr}
use Rattle.sl_core.specs.declared.tree.CoreExpr.TheVariants as expr
use Rattle.sl_core.specs.declared.tree.CoreStmt.{CoreStmt}
use Rattle.sl_core.specs.declared.tree.CoreStmt.TheVariants as stmt
use Rattle.sl_core.specs.Meaning.{core_run}
use Rattle.sl_core.proofs.Equations.{running}

-- a place that is a variable
abbrev var : ℕ → CorePath
var variable = record { root = Var variable }

-- expressions of the first type, on the line 6 of the first file where they can halt
abbrev number : ℤ → CoreExpr
number n = (expr.Number n 0)

abbrev value : ℕ → CoreExpr
value variable = (expr.Path (var variable) 0)

abbrev store : ℕ → CoreExpr → CoreStmt
store variable e = (stmt.Store (var variable) e)

abbrev put : CoreExpr → CoreStmt
put e = (stmt.Put e)

abbrev return : CoreExpr → CoreStmt
return e = (stmt.Return e)

-- a core whose entry calls its second function, which has this body and two variables, and returns what that gives
abbrev core_of : List CoreStmt → Core
core_of body = record {
  types = Int (record { lo = neg_ℤ (pos 9223372036854775808); hi = pos 9223372036854775807; wraps = false }) ∷ [];
  functions =
      record { name = codes "sl_main"; result = 0; vars = 0 ∷ []; body = (stmt.Call (Some (var 0)) 1) ∷ return (value 0) ∷ [] }
      ∷ record { name = codes "m"; result = 0; vars = 0 ∷ 0 ∷ []; body = body }
      ∷ [];
  entry = 0;
}

-- the run in ten turns, of which the call takes one
abbrev run : List CoreStmt → Outcome
run body = core_run (core_of body) [] 10

-- a number that is returned is the exit value
returns : run (return (number (pos 7)) ∷ []) ≡ record { ending = Done (pos 7); events = []; rest = []; left = 9 }
unfolding core_run whole_run
returns = simp running

-- the greatest number and 1 more halts, behind what was printed before
overflows : run (put (expr.TextOf (codes "-1")) ∷ store 0 (number (pos 9223372036854775807)) ∷ store 0 ((expr.Apply Add (value 0) (number (pos 1)) 0 0 6)) ∷ return (value 0) ∷ []) ≡ record { ending = Halt 3 0 6; events = Puts 45 ∷ Puts 49 ∷ []; rest = []; left = 9 }
unfolding core_run whole_run
overflows = simp running

-- a zero divisor halts
divides_by_zero : run (return ((expr.Apply Div (number (pos 1)) (number (pos 0)) 0 2 5)) ∷ []) ≡ record { ending = Halt 4 2 5; events = []; rest = []; left = 9 }
unfolding core_run whole_run
divides_by_zero = simp running

-- a remainder has the sign of the dividend
remains : run (return ((expr.Apply Rem (number (neg_ℤ (pos 7))) (number (pos 2)) 0 0 5)) ∷ []) ≡ record { ending = Done (negsuc 0); events = []; rest = []; left = 9 }
unfolding core_run whole_run
remains = simp running

-- a comparison that holds is true, and its first statements are done
chooses : run ((stmt.If ((expr.Compare Less (number (pos 1)) (number (pos 2)) 0)) (return (number (pos 3)) ∷ []) (return (number (pos 4)) ∷ [])) ∷ []) ≡ record { ending = Done (pos 3); events = []; rest = []; left = 9 }
unfolding core_run whole_run
chooses = simp running

-- 0 is false
chooses_other : run ((stmt.If (number (pos 0)) (return (number (pos 3)) ∷ []) []) ∷ return (number (pos 4)) ∷ []) ≡ record { ending = Done (pos 4); events = []; rest = []; left = 9 }
unfolding core_run whole_run
chooses_other = simp running

-- a halt ends the run
halts : run ((stmt.Halt 2 1 9) ∷ return (number (pos 4)) ∷ []) ≡ record { ending = Halt 2 1 9; events = []; rest = []; left = 9 }
unfolding core_run whole_run
halts = simp running

-- each round of a loop takes a turn, and a `Break` leaves it: behind it nothing more is done in the loop, and what stands behind the
-- loop is done
breaks : run (store 0 (number (pos 0)) ∷ (stmt.Loop (store 0 (expr.Apply Add (value 0) (number (pos 1)) 0 0 6) ∷ (stmt.If (expr.Compare Less (value 0) (number (pos 3)) 0) [] (stmt.Break ∷ [])) ∷ put (expr.TextOf (codes "a")) ∷ [])) ∷ return (value 0) ∷ []) ≡ record { ending = Done (pos 3); events = Puts 97 ∷ Puts 97 ∷ []; rest = []; left = 6 }
unfolding core_run whole_run
breaks = simp running

-- of two loops it leaves the inner one
breaks_inner : run ((stmt.Loop ((stmt.Loop (stmt.Break ∷ [])) ∷ put (expr.TextOf (codes "a")) ∷ stmt.Break ∷ [])) ∷ return (number (pos 7)) ∷ []) ≡ record { ending = Done (pos 7); events = Puts 97 ∷ []; rest = []; left = 7 }
unfolding core_run whole_run
breaks_inner = simp running

-- a return leaves both
returns_from_loops : run ((stmt.Loop ((stmt.Loop (return (number (pos 7)) ∷ [])) ∷ put (expr.TextOf (codes "a")) ∷ [])) ∷ return (number (pos 4)) ∷ []) ≡ record { ending = Done (pos 7); events = []; rest = []; left = 7 }
unfolding core_run whole_run
returns_from_loops = simp running

-- a loop that isn't left goes round as long as there are turns: of three the call takes one
goes_on : core_run (core_of ((stmt.Loop (put (expr.TextOf (codes "a")) ∷ [])) ∷ [])) [] 3 ≡ record { ending = TurnsSpent; events = Puts 97 ∷ Puts 97 ∷ []; rest = []; left = 0 }
unfolding core_run whole_run
goes_on = simp running

-- no loop stands around this `Break`
breaks_nothing : run (stmt.Break ∷ return (number (pos 4)) ∷ []) ≡ record { ending = Stuck 1; events = []; rest = []; left = 9 }
unfolding core_run whole_run
breaks_nothing = simp running

-- the next byte of the input is asked for and taken
gets : core_run (core_of ((stmt.Get (var 0)) ∷ return (value 0) ∷ [])) (65 ∷ 66 ∷ []) 10 ≡ record { ending = Done (pos 65); events = Asks ∷ []; rest = 66 ∷ []; left = 9 }
unfolding core_run whole_run
gets = simp running

-- at the end of the input it is asked for too, and there is -1
gets_at_end : run ((stmt.Get (var 0)) ∷ put (expr.TextOf (codes "a")) ∷ (stmt.Get (var 1)) ∷ return (value 1) ∷ []) ≡ record { ending = Done (negsuc 0); events = Asks ∷ Puts 97 ∷ Asks ∷ []; rest = []; left = 9 }
unfolding core_run whole_run
gets_at_end = simp running

-- a variable that wasn't written can't be read, nor can a function end without a result
reads_unwritten : run (return (value 1) ∷ []) ≡ record { ending = Stuck 1; events = []; rest = []; left = 9 }
unfolding core_run whole_run
reads_unwritten = simp running

ends_without_result : run [] ≡ record { ending = Stuck 1; events = []; rest = []; left = 9 }
unfolding core_run whole_run
ends_without_result = simp running

-- with no turn the call isn't begun
no_turn : core_run (core_of (return (number (pos 7)) ∷ [])) [] 0 ≡ record { ending = TurnsSpent; events = []; rest = []; left = 0 }
unfolding core_run whole_run
no_turn = simp running
