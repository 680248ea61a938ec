-- Bytes that are put one after another, each by a call of its own.
use Rattle.std.proofs.Common.{◌≡◌, ℕ, List, [], ◌∷◌, ◌++◌, refl, subst, inl, inr}
use Rattle.std.specs.Prelude.{Result, Ok, Err}
use Rattle.sl_outside.specs.declared.source.Failed.{Failed}
use Rattle.sl_outside.specs.Sink.{SinkState, Put, Prints, PrintsUpTo}

-- one byte
prints_one : (byte : ℕ) (a b : SinkState) (result : Result (Unit {0}) Failed) → Put (byte ∷ []) a b result → Prints (byte ∷ []) a b result
prints_one byte a b (Ok done) put = inl (b, put, refl)
prints_one byte a b (Err failed) put = inr (refl, put)

-- bytes, and then others
pub prints_then : (xs ys : List ℕ) (a b c : SinkState) (result : Result (Unit {0}) Failed) → Prints xs a b (Ok tt) → Prints ys b c result → Prints (xs ++ ys) a c result
prints_then [] ys a b c result h k = subst (λ s. Prints ys s c result) h k
prints_then (x ∷ xs) ys a b c result (inl (m, put, rest)) k = inl (m, put, prints_then xs ys m b c result rest k)
prints_then (x ∷ xs) ys a b c result (inr (e, put)) k = absurd (cc e)

-- bytes that were put, and then one that was refused
pub prints_refused : (bytes : List ℕ) (byte : ℕ) (a b : SinkState) → PrintsUpTo bytes byte a b → Prints (bytes ++ byte ∷ []) a b (Err (record {}))
prints_refused bytes byte a b (between, prints, refused) =
    prints_then bytes (byte ∷ []) a between b (Err (record {})) prints (prints_one byte between b (Err (record {})) refused)

-- the same bytes by another name
pub prints_same : (a b : SinkState) (xs ys : List ℕ) (result : Result (Unit {0}) Failed) → xs ≡ ys → Prints xs a b result → Prints ys a b result
prints_same a b xs ys result e h = subst (λ bytes. Prints bytes a b result) e h
