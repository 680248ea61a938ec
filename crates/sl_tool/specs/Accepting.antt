-- Which sources have a tree, and which rule the others break first. The rules L speak of the bytes of a source and of the tokens that
-- they are cut into, the rules G of the tree of these tokens. So where a rule L is broken, it comes before every rule G.
use Rattle.std.specs.Prelude.{ℕ, List, ◌⊎◌, Result, Ok, Err}
use Rattle.sl_text.specs.declared.token.Token.{Token}
use Rattle.sl_text.specs.declared.fault.Broken.{Broken}
use Rattle.sl_text.specs.declared.fault.Fault.{Fault}
use Rattle.sl_text.specs.declared.fault.Fault.TheVariants as fault
use Rattle.sl_tree.specs.declared.tree.File.{File}
use Rattle.sl_token.specs.Cut.{AreTokens, IsFirstFault}
use Rattle.sl_parse.specs.Answers.{Parsed}

-- a file of this number has this tree: its bytes break no rule L, and their tokens are those of the tree, which breaks no rule G
pub record HasTree (file : ℕ) (bytes : List ℕ) (tree : File) : Type 0 where
  pub tokens : List Token
  pub cut : AreTokens file bytes tokens
  pub parsed : Parsed file bytes tokens (Ok tree)

-- it breaks no rule L, and this is the rule G that it breaks first, and where
pub record BreaksGrammar (file : ℕ) (bytes : List ℕ) (broken : Broken) : Type 0 where
  pub tokens : List Token
  pub cut : AreTokens file bytes tokens
  pub parsed : Parsed file bytes tokens (Err (fault.Broken broken))

-- this is the rule that it breaks first, and where: the first rule L, or else the first rule G
abbrev pub IsFirstBroken : ℕ → List ℕ → Broken → Type 0
IsFirstBroken file bytes broken = IsFirstFault file bytes broken ⊎ BreaksGrammar file bytes broken

-- what is found of a file: its tree, or the rule that it breaks first, or want of memory
abbrev pub IsRead : ℕ → List ℕ → Result File Fault → Type 0
IsRead file bytes (Ok tree) = HasTree file bytes tree
IsRead file bytes (Err (fault.Broken broken)) = IsFirstBroken file bytes broken
IsRead file bytes (Err fault.Mem) = Unit {0}
