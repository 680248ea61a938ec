-- Programs whose variables and lines have numbers of 32 bits.
use Rattle.std.specs.Prelude.{ℕ, ◌+◌, ◌^◌, ◌≤◌, ◌<◌, List, [], ◌∷◌, ◌++◌, length, All}
use Rattle.std.specs.List.{flat_map}
use Rattle.sl_plain.specs.declared.program.Right.{Right}
use Rattle.sl_plain.specs.declared.program.Right.TheVariants.{Just, Compare, Apply, Get}
use Rattle.sl_plain.specs.declared.program.Stmt.{Stmt, Stmt-F, fold-Stmt}
use Rattle.sl_plain.specs.declared.program.Stmt.TheOpen as stmt
use Rattle.sl_plain.specs.declared.program.Plain.{Plain}
use Rattle.sl_plain.specs.Program.{joined, declared}
use Rattle.sl_plain.specs.Lowered.{unnamed_of}

-- lines that have numbers of 32 bits
abbrev pub AreLines : List ℕ → Type 0
AreLines lines = All (λ line. line < 2 ^ 32) lines

-- the line that a right side has
abbrev pub right_lines : Right → List ℕ
right_lines (Just atom) = []
right_lines (Compare by a b) = []
right_lines (Apply op a b line) = line ∷ []
right_lines Get = []

abbrev pub lines_step : Stmt-F (List ℕ) → List ℕ
lines_step (stmt.Declare is_var name type first) = right_lines first
lines_step (stmt.Assign name value) = right_lines value
lines_step (stmt.Print atom) = []
lines_step (stmt.PrintText text) = []
lines_step (stmt.If test chosen other) = joined chosen ++ joined other
lines_step (stmt.While test body) = joined body
lines_step (stmt.For name first end body line) = line ∷ joined body
lines_step (stmt.Assert test line) = line ∷ []
lines_step (stmt.Halt text line) = line ∷ []

-- the lines that a statement has, and the statements in it
unfoldable pub lines_in : Stmt → List ℕ
lines_in s = fold-Stmt (List ℕ) lines_step s

pub record IsInReach (program : Plain) : Type 0 where
  pub variables : length (declared program) + unnamed_of program ≤ 2 ^ 32
  pub lines : AreLines (flat_map lines_in program.body)
