-- Integer types, and the numbers that they have.
use Rattle.std.specs.Prelude.{◌≡◌, ℤ, pos, neg_ℤ, ◌-◌, ◌^◌, ◌≤ℤ◌, false}
use Rattle.sl_num.specs.declared.types.IntType.{IntType}

-- a number is in a type
abbrev pub IsIn : IntType → ℤ → Type 0
IsIn kind n = (kind.lo ≤ℤ n) × (n ≤ℤ kind.hi)

-- a type of the numbers from one to another, whose results don't wrap, within the numbers of 64 bits, signed or unsigned
pub record IsRange (kind : IntType) : Type 0 where
  pub no_wrap : kind.wraps ≡ false
  pub least : neg_ℤ (pos (2 ^ 63)) ≤ℤ kind.lo
  pub greatest : kind.hi ≤ℤ pos (2 ^ 64 - 1)
