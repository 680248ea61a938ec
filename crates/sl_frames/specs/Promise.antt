-- What is promised of the C of a core.
use Rattle.std.specs.Prelude.{◌≡◌, ℕ, ◌-◌, ◌^◌, pos, neg_ℤ, List, false, None, All}
use Rattle.sl_num.specs.declared.types.IntType.{IntType}
use Rattle.sl_core.specs.declared.tree.Core.{Core}
use Rattle.sl_core.specs.declared.tree.CoreType.TheVariants.{Int}
use Rattle.sl_core.specs.Meaning.{core_run}
use Rattle.c_tree.specs.Rules.{KeepsRules}
use Rattle.c_tree.specs.WellFormed.{IsWellFormed}
use Rattle.c_tree.specs.Meaning.{c_run}
use Rattle.sl_frames.specs.Translated.{c_of}

-- the numbers of 64 bits with a sign
abbrev pub int64_type : IntType
int64_type = record { lo = neg_ℤ (pos (2 ^ 63)); hi = pos (2 ^ 63 - 1); wraps = false }

-- all types of a core are `int64_t`, as far as the translation is built
abbrev pub HasOneType : Core → Type 0
HasOneType core = All (λ type. type ≡ Int int64_type) core.types

-- the C of a core: a text can have it, it keeps all rules of C, and it prints, reads and ends in as many turns as the core does, on
-- every input and in every number of turns, with no limit of the stack
pub record Translates (core : Core) : Type 0 where
  pub well_formed : IsWellFormed (c_of core)
  pub keeps_rules : KeepsRules (c_of core)
  pub same_run : (input : List ℕ) (turns : ℕ) → c_run (c_of core) None input turns ≡ core_run core input turns
