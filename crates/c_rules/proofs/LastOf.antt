-- Whether the last of some is so.
use Rattle.std.proofs.Common.{◌≡◌, List, [], ◌∷◌, ◌++◌, Bool, ◌&&◌, Option, Some, None, refl, map}
use Rattle.c_tree.specs.declared.tree.CExpr.{CExpr}
use Rattle.c_tree.specs.declared.tree.CStmt.{CStmt}
use Rattle.c_tree.specs.declared.tree.CStmt.TheVariants.{If}
use Rattle.c_tree.specs.Rules.{last_is, ends_function}
use Rattle.c_tree.proofs.Variants.{ends_of_assign, ends_of_call, ends_of_if, ends_of_if_else, ends_of_loop, ends_of_count, ends_of_break, ends_of_return, ends_of_put, ends_of_get, ends_of_halt}
use Rattle.c_rules.specs.Types.{ends_else}

-- it is the last one that counts
pub ends_at_last : {A : Type 0} (so : A → Bool) (xs : List A) (x : A) → last_is (map so (xs ++ x ∷ [])) ≡ so x
ends_at_last so [] x = refl
ends_at_last so (y ∷ []) x = refl
ends_at_last so (y ∷ z ∷ zs) x = ends_at_last so (z ∷ zs) x

-- an `if` with `else` or without
pub ends_at_if : (test : CExpr) (chosen : List CStmt) (other : Option (List CStmt)) → ends_function (If test chosen other) ≡ last_is (map ends_function chosen) && ends_else other
ends_at_if test chosen None = ends_of_if test chosen
ends_at_if test chosen (Some block) = ends_of_if_else test chosen block

pub ruleset ends_all = (ends_at_last, ends_at_if, ends_of_assign, ends_of_call, ends_of_loop, ends_of_count, ends_of_break, ends_of_return, ends_of_put, ends_of_get, ends_of_halt)
