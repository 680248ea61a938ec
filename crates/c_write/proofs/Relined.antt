-- With the lines on which its functions come to stand, a tree keeps the rules that it kept, and runs as it did.
use Rattle.std.proofs.Common.{◌≡◌, ℕ, List, [], ◌∷◌, None, refl}
use Rattle.c_tree.specs.declared.tree.CFile.{CFile}
use Rattle.c_tree.specs.declared.tree.CFun.{CFun}
use Rattle.c_tree.specs.Flat.{Lexeme, flat_proto, flat_function}
use Rattle.c_tree.specs.Rules.{KeepsRules}
use Rattle.c_tree.specs.Meaning.{c_run}
use Rattle.c_tree.proofs.Lineless.{SameButLines, same_c_run, same_keeps}
use Rattle.c_write.specs.Lined.{Spot, behind, lined_all, protos_spot, functions_spot, lined}

-- functions on the lines on which they come to stand are the same functions
relined : (flat : CFun → List Lexeme) (spot : Spot) (functions : List CFun) → SameButLines functions (lined_all flat spot functions)
relined flat spot [] = tt
relined flat spot (function ∷ functions) = (refl, relined flat (behind spot (flat function)) functions)

-- the rules are kept
pub lined_keeps : (file : CFile) → KeepsRules file → KeepsRules (lined file)
unfolding lined
lined_keeps file keeps =
    same_keeps file (lined_all flat_proto (protos_spot file) file.protos) (lined_all flat_function (functions_spot file) file.functions)
    (relined flat_function (functions_spot file) file.functions) (relined flat_proto (protos_spot file) file.protos) keeps

-- the runs are the same
pub lined_runs : (file : CFile) (input : List ℕ) (turns : ℕ) → c_run (lined file) None input turns ≡ c_run file None input turns
unfolding lined
lined_runs file input turns =
    same_c_run file (lined_all flat_proto (protos_spot file) file.protos) (lined_all flat_function (functions_spot file) file.functions)
    (relined flat_function (functions_spot file) file.functions) None input turns
