-- How many bytes a character has, and what one is that begins with an ASCII byte.
use Rattle.std.proofs.Common.{◌≡◌, ℕ, ◌<◌, ◌≤◌, List, [], ◌∷◌, length, slice_index, suc, true, false, ◌==◌, refl, ap, ◌∙◌, if◌then◌else◌, nat_lt, arith}
use Rattle.std.proofs.lemmas.Bool.Decides.{nat_tests}
use Rattle.unicode_ident.specs.Ident.{is_xid_continue}
use Rattle.unicode_ident.proofs.IdentLemmas.{is_xid_continue-ascii}
use Rattle.sl_token.specs.Characters.{len_if, continue_len, ascii_len}
use Rattle.bstr.specs.Utf8.{Decoded, decoded, good}
use Rattle.bstr.proofs.lemmas.PieceLemmas.{piece-bounds}

pub size_bounds : (bytes : List ℕ) → ((decoded bytes).size ≤ 4) × ((decoded bytes).size ≤ length bytes)
size_bounds [] = (omega arith, omega arith)
size_bounds (byte ∷ bytes) =
    let bounds = piece-bounds (byte ∷ bytes) (omega arith)
    in (bounds.1, bounds.2)

-- an ASCII byte is a character by itself
pub ascii_decoded : (byte : ℕ) (bytes : List ℕ) → byte < 128 → decoded (byte ∷ bytes) ≡ good byte 1
ascii_decoded byte bytes small =
    let test : nat_lt byte 128 ≡ true = grind (arith, nat_tests) in
    let some : (suc (length bytes) == 0) ≡ false = grind (arith, nat_tests) in
    rw (test, some) refl

pub ascii_continue_len : (byte : ℕ) (bytes : List ℕ) → byte < 128
    → continue_len (byte ∷ bytes) ≡ ascii_len byte
unfolding continue_len
ascii_continue_len byte bytes small =
    ap (λ (found : Decoded). len_if is_xid_continue found.char found.size) (ascii_decoded byte bytes small)
    ∙ ap (λ continues. if continues then 1 else 0) (is_xid_continue-ascii byte small)

-- the same of the first byte of some
pub first_continue_len : (bytes : List ℕ) → 0 < length bytes → slice_index bytes 0 < 128 → continue_len bytes ≡ ascii_len (slice_index bytes 0)
first_continue_len [] some small = absurd (omega arith)
first_continue_len (byte ∷ bytes) some small = ascii_continue_len byte bytes small
