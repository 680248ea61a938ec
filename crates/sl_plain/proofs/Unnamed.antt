-- How many variables without names statements need.
use Rattle.std.proofs.Common.{◌≡◌, ℕ, suc, ◌+◌, ◌<◌, ◌≤◌, List, [], ◌∷◌, ◌++◌, length, take, get_or, max, map, Bool, sym, ap, ◌∙◌, arith}
use Rattle.std.proofs.lemmas.List.{take_more, map-append}
use Rattle.std.proofs.lemmas.List.Sums.{fold-append}
use Rattle.sl_plain.specs.declared.program.Kind.{Kind}
use Rattle.sl_plain.specs.declared.program.Atom.{Atom}
use Rattle.sl_plain.specs.declared.program.Right.{Right}
use Rattle.sl_plain.specs.declared.program.Condition.{Condition}
use Rattle.sl_plain.specs.declared.program.Stmt.{Stmt, Stmt-F, fold-roll-Stmt, map-Stmt, roll-Stmt}
use Rattle.sl_plain.specs.declared.program.Stmt.TheOpen as layer
use Rattle.sl_plain.specs.declared.program.Stmt.TheVariants as stmt
use Rattle.sl_plain.specs.Program.{deepest}
use Rattle.sl_plain.specs.Lowered.{unnamed_step, unnamed_in}
use Rattle.sl_plain.proofs.Names.{all_so}
use Rattle.sl_plain.proofs.Greatest.{greatest_within, greatest_bounds}

pub unnamed_layer : (x : Stmt-F Stmt) → unnamed_in (roll-Stmt x) ≡ unnamed_step (map-Stmt Stmt ℕ unnamed_in x)
unfolding unnamed_in
unnamed_layer x = fold-roll-Stmt ℕ unnamed_step x

-- the first and the others need no more than all
pub deepest_first : (n : ℕ) (ns : List ℕ) → n ≤ deepest (n ∷ ns)
deepest_first n ns = let all = greatest_bounds 0 (n ∷ ns) in all.0

pub deepest_others : (n : ℕ) (ns : List ℕ) → deepest ns ≤ deepest (n ∷ ns)
deepest_others n ns = let all = greatest_bounds 0 (n ∷ ns) in greatest_within (deepest (n ∷ ns)) 0 ns (omega arith) all.1

-- all need no more than what bounds the first and the others
pub deepest_within : (most n : ℕ) (ns : List ℕ) → n ≤ most → deepest ns ≤ most → deepest (n ∷ ns) ≤ most
deepest_within most n ns le others = greatest_within most (max 0 n) ns (omega arith) (all_so (λ x. x ≤ deepest ns) (λ x. x ≤ most) (λ x h. omega arith) ns (greatest_bounds 0 ns))

-- one variant at a time
pub unnamed_of_declare : (is_var : Bool) (name : List ℕ) (type : Kind) (first : Right) → unnamed_in (stmt.Declare is_var name type first) ≡ 0
unnamed_of_declare is_var name type first = ap unnamed_in (sym (stmt.rolls-Declare is_var name type first)) ∙ unnamed_layer (layer.Declare is_var name type first)

pub unnamed_of_assign : (name : List ℕ) (value : Right) → unnamed_in (stmt.Assign name value) ≡ 0
unnamed_of_assign name value = ap unnamed_in (sym (stmt.rolls-Assign name value)) ∙ unnamed_layer (layer.Assign name value)

pub unnamed_of_print : (atom : Atom) → unnamed_in (stmt.Print atom) ≡ 0
unnamed_of_print atom = ap unnamed_in (sym (stmt.rolls-Print atom)) ∙ unnamed_layer (layer.Print atom)

pub unnamed_of_print_text : (text : List ℕ) → unnamed_in (stmt.PrintText text) ≡ 0
unnamed_of_print_text text = ap unnamed_in (sym (stmt.rolls-PrintText text)) ∙ unnamed_layer (layer.PrintText text)

pub unnamed_of_if : (test : Condition) (chosen other : List Stmt) → unnamed_in (stmt.If test chosen other) ≡ max (deepest (map unnamed_in chosen)) (deepest (map unnamed_in other))
unnamed_of_if test chosen other = ap unnamed_in (sym (stmt.rolls-If test chosen other)) ∙ unnamed_layer (layer.If test chosen other)

pub unnamed_of_while : (test : Condition) (body : List Stmt) → unnamed_in (stmt.While test body) ≡ deepest (map unnamed_in body)
unnamed_of_while test body = ap unnamed_in (sym (stmt.rolls-While test body)) ∙ unnamed_layer (layer.While test body)

pub unnamed_of_for : (name : List ℕ) (first end : Atom) (body : List Stmt) (line : ℕ) → unnamed_in (stmt.For name first end body line) ≡ suc (suc (deepest (map unnamed_in body)))
unnamed_of_for name first end body line = ap unnamed_in (sym (stmt.rolls-For name first end body line)) ∙ unnamed_layer (layer.For name first end body line)

pub unnamed_of_assert : (test : Condition) (line : ℕ) → unnamed_in (stmt.Assert test line) ≡ 0
unnamed_of_assert test line = ap unnamed_in (sym (stmt.rolls-Assert test line)) ∙ unnamed_layer (layer.Assert test line)

pub unnamed_of_halt : (text : List ℕ) (line : ℕ) → unnamed_in (stmt.Halt text line) ≡ 0
unnamed_of_halt text line = ap unnamed_in (sym (stmt.rolls-Halt text line)) ∙ unnamed_layer (layer.Halt text line)

pub ruleset unnamed_rules = (unnamed_of_declare, unnamed_of_assign, unnamed_of_print, unnamed_of_print_text, unnamed_of_if, unnamed_of_while, unnamed_of_for, unnamed_of_assert, unnamed_of_halt)

-- one more statement of a list
pub unnamed_more : (stmts : List Stmt) (i : ℕ) (s d : Stmt) → i < length stmts → s ≡ get_or stmts i d → deepest (map unnamed_in (take (i + 1) stmts)) ≡ max (deepest (map unnamed_in (take i stmts))) (unnamed_in s)
unnamed_more stmts i s d within is =
    ap (λ ss. deepest (map unnamed_in ss)) (take_more stmts i d within ∙ ap (λ y. take i stmts ++ (y ∷ [])) (sym is))
    ∙ (ap deepest (map-append unnamed_in (take i stmts) (s ∷ []))
    ∙ fold-append max 0 (map unnamed_in (take i stmts)) (unnamed_in s ∷ []))
