-- Numbers in decimal: digits without a zero in front of others, behind a `-` where the number is negative.
use Rattle.std.specs.Prelude.{◌≡◌, ℕ, ℤ, nat_abs, ◌<◌, ◌^◌, List}
use Rattle.std.specs.Fmt.{signed_decimal}

-- the bytes write this number in decimal, in at most 38 digits
pub record IsDecimalOf (bytes : List ℕ) (n : ℤ) : Type 0 where
  pub spelled : bytes ≡ signed_decimal n
  pub short : nat_abs n < 10 ^ 38
