-- The C of a plain program: its tree, which is that of its core, and the text of that tree.
use Rattle.std.specs.Prelude.{◌≡◌, ◌≢◌, ℕ, List, None}
use Rattle.sl_run.specs.Run.{Stuck}
use Rattle.c_tree.specs.declared.tree.CFile.{CFile}
use Rattle.c_tree.specs.Rules.{KeepsRules}
use Rattle.c_tree.specs.WellFormed.{IsWellFormed}
use Rattle.c_tree.specs.Meaning.{c_run}
use Rattle.c_write.specs.Layout.{text_of}
use Rattle.sl_frames.specs.Translated.{c_of}
use Rattle.sl_plain.specs.declared.program.Plain.{Plain}
use Rattle.sl_plain.specs.Lowered.{core_of}
use Rattle.sl_plain.specs.Means.{plain_run}

-- the tree
unfoldable pub tree_of : Plain → CFile
tree_of program = c_of (core_of program)

-- the text that `emit` writes
unfoldable pub written : Plain → List ℕ
written program = text_of (tree_of program)

-- a tree is one that a text can have, it keeps the rules of C, and its runs are those of the program, which is never stuck
pub record IsTreeOf (program : Plain) (tree : CFile) : Type 0 where
  pub well_formed : IsWellFormed tree
  pub keeps_rules : KeepsRules tree
  pub means : (input : List ℕ) (turns : ℕ) → c_run tree None input turns ≡ plain_run program input turns
  pub never_stuck : (input : List ℕ) (turns function : ℕ) → (plain_run program input turns).ending ≢ Stuck function
