-- What is broken in some functions of a file.
use Rattle.std.specs.Prelude.{◌≡◌, ◌⊎◌, ℕ, List, ◌∷◌, ◌++◌}
use Rattle.c_tree.specs.declared.tree.CFile.{CFile}
use Rattle.c_tree.specs.declared.tree.CFun.{CFun}
use Rattle.c_tree.specs.Text.{first_line}
use Rattle.c_tree.specs.Rules.{BreaksInside, BreaksOutside}

-- a rule is broken outside functions, or in one of these, where it stands
abbrev pub BreaksAmong : CFile → List CFun → ℕ → ℕ → Type 0
BreaksAmong file functions rule line =
    ((line ≡ first_line) × BreaksOutside file rule)
    ⊎ ((before : List CFun) × (function : CFun) × ((behind : List CFun) × (functions ≡ before ++ function ∷ behind)) × (line ≡ function.line) × BreaksInside file before function rule)
