-- How deep statements are, form by form, and whether that is within a bound.
use Rattle.std.proofs.Common.{◌≡◌, ℕ, suc, List, [], ◌∷◌, max, map, Bool, true, ◌&&◌, nat_le, sym, ap, ◌∙◌, refl, arith}
use Rattle.std.specs.List.{fold}
use Rattle.sl_plain.specs.declared.program.Kind.{Kind}
use Rattle.sl_plain.specs.declared.program.Atom.{Atom}
use Rattle.sl_plain.specs.declared.program.Right.{Right}
use Rattle.sl_plain.specs.declared.program.Condition.{Condition}
use Rattle.sl_plain.specs.declared.program.Stmt.{Stmt}
use Rattle.sl_plain.specs.declared.program.Stmt.TheOpen as layer
use Rattle.sl_plain.specs.declared.program.Stmt.TheVariants as stmt
use Rattle.sl_plain.specs.Program.{deepest, depth}
use Rattle.sl_plain.proofs.Layers.{depth_layer}

pub depth_declare : (is_var : Bool) (name : List ℕ) (type : Kind) (first : Right) → depth (stmt.Declare is_var name type first) ≡ 0
depth_declare is_var name type first = ap depth (sym (stmt.rolls-Declare is_var name type first)) ∙ depth_layer (layer.Declare is_var name type first)

pub depth_assign : (name : List ℕ) (value : Right) → depth (stmt.Assign name value) ≡ 0
depth_assign name value = ap depth (sym (stmt.rolls-Assign name value)) ∙ depth_layer (layer.Assign name value)

pub depth_print : (atom : Atom) → depth (stmt.Print atom) ≡ 0
depth_print atom = ap depth (sym (stmt.rolls-Print atom)) ∙ depth_layer (layer.Print atom)

pub depth_text : (text : List ℕ) → depth (stmt.PrintText text) ≡ 0
depth_text text = ap depth (sym (stmt.rolls-PrintText text)) ∙ depth_layer (layer.PrintText text)

pub depth_if : (test : Condition) (chosen other : List Stmt) → depth (stmt.If test chosen other) ≡ suc (max (deepest (map depth chosen)) (deepest (map depth other)))
depth_if test chosen other = ap depth (sym (stmt.rolls-If test chosen other)) ∙ depth_layer (layer.If test chosen other)

pub depth_while_none : (test : Condition) → depth (stmt.While test []) ≡ 0
depth_while_none test = ap depth (sym (stmt.rolls-While test [])) ∙ depth_layer (layer.While test [])

pub depth_while_some : (test : Condition) (s : Stmt) (body : List Stmt) → depth (stmt.While test (s ∷ body)) ≡ suc (deepest (map depth (s ∷ body)))
depth_while_some test s body = ap depth (sym (stmt.rolls-While test (s ∷ body))) ∙ depth_layer (layer.While test (s ∷ body))

pub depth_for : (name : List ℕ) (first end : Atom) (body : List Stmt) (line : ℕ) → depth (stmt.For name first end body line) ≡ suc (deepest (map depth body))
depth_for name first end body line = ap depth (sym (stmt.rolls-For name first end body line)) ∙ depth_layer (layer.For name first end body line)

pub depth_assert : (test : Condition) (line : ℕ) → depth (stmt.Assert test line) ≡ 0
depth_assert test line = ap depth (sym (stmt.rolls-Assert test line)) ∙ depth_layer (layer.Assert test line)

pub depth_halt : (text : List ℕ) (line : ℕ) → depth (stmt.Halt text line) ≡ 0
depth_halt text line = ap depth (sym (stmt.rolls-Halt text line)) ∙ depth_layer (layer.Halt text line)

pub while_within : (test : Condition) (body : List Stmt) (most : ℕ) → body ≡ [] → nat_le (depth (stmt.While test body)) most ≡ true
while_within test body most none = ap (λ stmts. nat_le (depth (stmt.While test stmts)) most) none ∙ (ap (λ d. nat_le d most) (depth_while_none test) ∙ grind arith)

pub while_block : (test : Condition) (body : List Stmt) (most : ℕ) → (body ≡ [] → ⊥) → nat_le (depth (stmt.While test body)) most ≡ nat_le (suc (deepest (map depth body))) most
while_block test [] most some = absurd (some refl)
while_block test (s ∷ body) most some = ap (λ d. nat_le d most) (depth_while_some test s body)

pub both_within : (a b most : ℕ) → nat_le (suc (max a b)) most ≡ (nat_le (suc a) most && nat_le (suc b) most)
both_within a b most = grind arith

-- the greatest of some numbers, where one is known
greatest_from : (a : ℕ) (ns : List ℕ) → fold max a ns ≡ max a (fold max 0 ns)
greatest_from a [] = omega arith
greatest_from a (n ∷ ns) = let left = greatest_from (max a n) ns in let right = greatest_from (max 0 n) ns in omega arith

two_within : (a b most : ℕ) → nat_le (max a b) most ≡ (nat_le a most && nat_le b most)
two_within a b most = grind arith

-- the first and the others
pub first_within : (n : ℕ) (ns : List ℕ) (most : ℕ) → nat_le (deepest (n ∷ ns)) most ≡ (nat_le n most && nat_le (deepest ns) most)
first_within n ns most =
    let is : deepest (n ∷ ns) ≡ max n (deepest ns) = let e = greatest_from (max 0 n) ns in omega arith
    in ap (λ m. nat_le m most) is ∙ two_within n (deepest ns) most

pub ruleset shallow_rules = (depth_declare, depth_assign, depth_print, depth_text, depth_if, depth_for, depth_assert, depth_halt, while_within, while_block, both_within, first_within)
