-- Numbers that are bytes.
use Rattle.std.proofs.Common.{◌≡◌, ℕ, ◌≤◌, ℤ, pos, negsuc, nat_abs, Bool, true, false, refl, sym, ap, arith}
use Rattle.std.specs.Prelude.{nat_le}
use Rattle.std.specs.Int.{w8, FitsUnsigned}
use Rattle.std.proofs.lemmas.Int.{ints}
use Rattle.std.proofs.lemmas.Bool.{leb-true, le-leb}

-- a number that doesn't fit a byte
pub no_byte : (n : ℤ) → (FitsUnsigned w8 n → ⊥) → (byte : ℕ) → n ≡ pos byte → nat_le byte 255 ≡ false
no_byte n h byte e = at (nat_le byte 255) refl
  where
    at : (b : Bool) → nat_le byte 255 ≡ b → nat_le byte 255 ≡ false
    at false f = f
    at true f = let le : byte ≤ 255 = leb-true byte 255 f in absurd (h (omega (arith, ints, e), omega (arith, ints, e)))

-- a number that fits one is that byte
pub byte_is : (n : ℤ) (byte : ℕ) → FitsUnsigned w8 n → byte ≡ nat_abs n → n ≡ pos byte
byte_is (pos n) byte h e = ap pos (sym e)
byte_is (negsuc n) byte h e = absurd (omega (arith, ints, h.0))

-- and no more than 255
pub byte_fits : (n : ℤ) (byte : ℕ) → FitsUnsigned w8 n → byte ≡ nat_abs n → nat_le byte 255 ≡ true
byte_fits (pos n) byte h e = le-leb byte 255 (omega (arith, ints, h.1, e))
byte_fits (negsuc n) byte h e = absurd (omega (arith, ints, h.0))
