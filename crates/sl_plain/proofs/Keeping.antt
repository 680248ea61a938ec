-- Which conditions on single statements of a core are kept by all statements of a plain program.
use Rattle.std.proofs.Common.{◌≡◌, ℕ, suc, ◌<◌, ◌≤◌, List, ◌∷◌, true, Some}
use Rattle.std.specs.List.{AllByRecursion}
use Rattle.sl_core.specs.declared.tree.CoreStmt.{CoreStmt}
use Rattle.sl_core.specs.declared.tree.CoreStmt.TheVariants as core
use Rattle.sl_plain.specs.declared.program.Kind.{Kind}
use Rattle.sl_plain.specs.declared.program.Kind.TheVariants as kind
use Rattle.sl_plain.specs.declared.program.Atom.{Atom}
use Rattle.sl_plain.specs.declared.program.Right.{Right}
use Rattle.sl_plain.specs.declared.program.Condition.{Condition}
use Rattle.sl_plain.specs.Program.{IsAtom, IsRight, IsCondition, Declared, declaration, kind_of_atom, right_fits, condition_fits}
use Rattle.sl_plain.specs.Reach.{right_lines}
use Rattle.sl_plain.specs.Lowered.{path_of, atom_expr, condition_expr, store_right, unnamed, leave_unless, for_round, put_text}
use Rattle.sl_plain.proofs.Held.{Within}

-- a condition that holds of each of the forms that statements are lowered to, on lines before the limit and with fewer variables
-- without names than there are
pub record IsKept (names : List Declared) (rooms limit : ℕ) (P : CoreStmt → Type 0) : Type 0 where
  pub store : (scope : List Declared) → Within names scope → (name : List ℕ) (entry : Declared) → declaration names name ≡ Some entry → (right : Right) → right_fits scope entry.type right ≡ true → IsRight right → AllByRecursion (λ line. line < limit) (right_lines right) → P (store_right names (path_of names name) right)
  pub print : (scope : List Declared) → Within names scope → (atom : Atom) (type : Kind) → kind_of_atom scope atom ≡ Some type → IsAtom atom → P (core.Put (atom_expr names atom))
  pub text : (bytes : List ℕ) → AllByRecursion (λ byte. byte ≤ 255) bytes → P (put_text bytes)
  pub choice : (scope : List Declared) → Within names scope → (test : Condition) → condition_fits scope test ≡ true → IsCondition test → (chosen other : List CoreStmt) → AllByRecursion P chosen → AllByRecursion P other → P (core.If (condition_expr names test) chosen other)
  pub loop : (scope : List Declared) → Within names scope → (test : Condition) → condition_fits scope test ≡ true → IsCondition test → (body : List CoreStmt) → AllByRecursion P body → P (core.Loop (leave_unless (condition_expr names test) ∷ body))
  pub bound : (scope : List Declared) → Within names scope → (atom : Atom) → kind_of_atom scope atom ≡ Some kind.Number → IsAtom atom → (number : ℕ) → number < rooms → P (core.Store (unnamed names number) (atom_expr names atom))
  pub count : (name : List ℕ) (entry : Declared) → declaration names name ≡ Some entry → (taken : ℕ) → suc taken < rooms → (line : ℕ) → line < limit → (body : List CoreStmt) → AllByRecursion P body → P (core.Loop (for_round line (path_of names name) (unnamed names taken) (unnamed names (suc taken)) body))
  pub halt : (kind : ℕ) → kind ≤ 2 → (line : ℕ) → line < limit → P (core.Halt kind 0 line)
