-- What the translation of a function needs of the place where it stands.
use Rattle.std.proofs.Common.{◌≡◌, ℕ, ◌<◌, List, [], ◌∷◌, false, Some, length, codes}
use Rattle.std.specs.Prelude.{slice_get, ◌==◌}
use Rattle.sl_core.specs.declared.tree.Core.{Core}
use Rattle.sl_core.specs.declared.tree.CoreFun.{CoreFun}
use Rattle.c_tree.specs.declared.tree.CFile.{CFile}
use Rattle.c_tree.specs.declared.tree.CVar.{CVar}
use Rattle.c_tree.specs.declared.tree.CFun.{CFun}
use Rattle.c_tree.specs.declared.tree.CType.TheVariants.{Void}
use Rattle.c_tree.specs.Rules.{word}
use Rattle.c_helpers.specs.Functions.{parameter}
use Rattle.c_helpers.proofs.Keeping.{IsKnown, inside, CanCall}
use Rattle.sl_frames.specs.Names.{variable_name, temporary_name, function_name}

-- the parameters of the inline functions
abbrev pub two : List CVar
two = parameter (codes "a") ∷ parameter (codes "b") ∷ []

abbrev pub one : List CVar
one = parameter (codes "a") ∷ []

-- a C function for a core function knows its variables and so many temporaries, isn't inline, gives an `int64_t`, and can call the
-- inline functions and those for the core functions but the entry
pub record IsPlaced (core : Core) (source : CoreFun) (file : CFile) (before : List CFun) (function : CFun) (limit : ℕ) : Type 0 where
  pub variables : (number : ℕ) → number < length source.vars → IsKnown (inside file before function) (variable_name number)
  pub temporaries : (number : ℕ) → number < limit → IsKnown (inside file before function) (temporary_name number)
  pub outer : function.inline ≡ false
  pub gives : function.result ≡ word
  pub sum : CanCall file before function (codes "sl_sum_fits") two word
  pub difference : CanCall file before function (codes "sl_difference_fits") two word
  pub product : CanCall file before function (codes "sl_product_fits") two word
  pub quotient : CanCall file before function (codes "sl_quotient_fits") two word
  pub remainder : CanCall file before function (codes "sl_remainder") two word
  pub print : CanCall file before function (codes "sl_print") one Void
  pub calls : (number : ℕ) (callee : CoreFun) → slice_get core.functions number ≡ Some callee → (number == core.entry) ≡ false → CanCall file before function (function_name core number callee) [] word
