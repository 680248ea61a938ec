-- The numbers of the type `Z`.
use Rattle.std.specs.Prelude.{◌-◌, ◌^◌, pos, neg_ℤ, false}
use Rattle.sl_num.specs.declared.types.IntType.{IntType}

-- the numbers of 64 bits with a sign; its results don't wrap
abbrev pub z_type : IntType
z_type = record { lo = neg_ℤ (pos (2 ^ 63)); hi = pos (2 ^ 63 - 1); wraps = false }
