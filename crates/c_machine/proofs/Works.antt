-- How much work statements are.
use Rattle.std.proofs.Common.{◌≡◌, ℕ, suc, ◌+◌, ◌-◌, ◌≤◌, List, Bool, true, false, Option, sym, ap, ◌∙◌, arith, map}
use Rattle.std.specs.Prelude.{sum, if◌then◌else◌}
use Rattle.c_machine.specs.declared.program.Slot.{Slot}
use Rattle.c_machine.specs.declared.program.Expr.{Expr}
use Rattle.c_machine.specs.declared.program.Stmt.{Stmt, Stmt-F, fold-roll-Stmt, map-Stmt, roll-Stmt}
use Rattle.c_machine.specs.declared.program.Stmt.TheVariants as stmt
use Rattle.c_machine.specs.declared.program.Stmt.TheOpen as layer
use Rattle.c_machine.specs.Stepped.{rounds_work, weight_step, weight}

-- statements one after another
abbrev pub weights : List Stmt → ℕ
weights stmts = sum (map weight stmts)

weight_layer : (x : Stmt-F Stmt) → weight (roll-Stmt x) ≡ weight_step (map-Stmt Stmt ℕ weight x)
unfolding weight
weight_layer x = fold-roll-Stmt ℕ weight_step x

pub weight_assign : (slot : Slot) (e : Expr) → weight (stmt.Assign slot e) ≡ 1
weight_assign slot e = ap weight (sym (stmt.rolls-Assign slot e)) ∙ weight_layer (layer.Assign slot e)

pub weight_call : (target : Option Slot) (arguments : List Expr) (function : ℕ) → weight (stmt.Call target arguments function) ≡ 1
weight_call target arguments function = ap weight (sym (stmt.rolls-Call target arguments function)) ∙ weight_layer (layer.Call target arguments function)

pub weight_inline : (target : Option Slot) (arguments : List Expr) (vars : ℕ) (gives : Bool) (stmts : List Stmt) → weight (stmt.Inline target arguments vars gives stmts) ≡ weights stmts + 3
weight_inline target arguments vars gives stmts = ap weight (sym (stmt.rolls-Inline target arguments vars gives stmts)) ∙ weight_layer (layer.Inline target arguments vars gives stmts)

pub weight_if : (test : Expr) (chosen other : List Stmt) → weight (stmt.If test chosen other) ≡ weights chosen + weights other + 2
weight_if test chosen other = ap weight (sym (stmt.rolls-If test chosen other)) ∙ weight_layer (layer.If test chosen other)

pub weight_loop : (stmts : List Stmt) → weight (stmt.Loop stmts) ≡ 2
weight_loop stmts = ap weight (sym (stmt.rolls-Loop stmts)) ∙ weight_layer (layer.Loop stmts)

pub weight_count : (slot : Slot) (count : ℕ) (stmts : List Stmt) → weight (stmt.Count slot count stmts) ≡ rounds_work count (weights stmts) + 1
weight_count slot count stmts = ap weight (sym (stmt.rolls-Count slot count stmts)) ∙ weight_layer (layer.Count slot count stmts)

pub weight_break : weight stmt.Break ≡ 1
weight_break = ap weight (sym stmt.rolls-Break) ∙ weight_layer layer.Break

pub weight_get : (slot : Slot) → weight (stmt.Get slot) ≡ 1
weight_get slot = ap weight (sym (stmt.rolls-Get slot)) ∙ weight_layer (layer.Get slot)

-- one round less
pub round_less : (from end body : ℕ) → end - from ≡ suc (end - (from + 1)) → rounds_work (end - from) body ≡ body + 2 + rounds_work (end - (from + 1)) body
round_less from end body e =
    let rest = end - (from + 1) in
    ap (λ count. rounds_work count body) e ∙ opened rest
  where
    opened : (rest : ℕ) → rounds_work (suc rest) body ≡ body + 2 + rounds_work rest body
    opened rest = omega arith

pub weight_return : (value : Option Expr) → weight (stmt.Return value) ≡ 1
weight_return value = ap weight (sym (stmt.rolls-Return value)) ∙ weight_layer (layer.Return value)

pub weight_put : (e : Expr) → weight (stmt.Put e) ≡ 1
weight_put e = ap weight (sym (stmt.rolls-Put e)) ∙ weight_layer (layer.Put e)

-- one of two blocks is no more work than both
pub chosen_weighs : (b : Bool) (chosen other block : List Stmt) → (if b then chosen else other) ≡ block → weights block ≤ weights chosen + weights other
chosen_weighs true chosen other block e = omega (arith, ap weights e)
chosen_weighs false chosen other block e = omega (arith, ap weights e)
