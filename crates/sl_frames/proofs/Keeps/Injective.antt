-- Two names have two C names.
use Rattle.std.proofs.Common.{◌≡◌, ℕ, List}
use Rattle.c_tree.specs.Mangled.{mangled}
use Rattle.c_tree.proofs.Mangled.{distinguishes}

pub mangled_injective : (a b : List ℕ) → mangled a ≡ mangled b → a ≡ b
mangled_injective a b same = distinguishes.names a b same
