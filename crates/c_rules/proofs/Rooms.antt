-- Sizes up to a bound.
use Rattle.std.proofs.Common.{◌≡◌, ◌⊎◌, ℕ, zero, suc, ◌+◌, ◌-◌, ◌*◌, ◌/◌, ◌^◌, ◌<◌, ◌≤◌, List, [], ◌∷◌, refl, sym, subst, ap, ◌∙◌, inl, inr, ⊎_elim, arith, map, take, length, get_or}
use Rattle.std.specs.Prelude.{min, max, nat_lt}
use Rattle.std.specs.List.{fold}
use Rattle.std.proofs.lemmas.Bool.{cases_lt, lt-ltb, le-ltb}
use Rattle.std.proofs.lemmas.List.{map-append, take_all}
use Rattle.std.proofs.lemmas.List.Sums.{fold-append}
use Rattle.std.proofs.Math.Nat.{mul-zero}
use Rattle.c_rules.proofs.Anys.{one_more}
use Rattle.c_tree.specs.Bytes.{Extent, round_up, extend, rounded}
use Rattle.c_rules.specs.declared.sizes.Room.{Room}
use Rattle.c_rules.specs.Sizes.{Holds}

-- what is larger than the greatest size is so up to the bound too
pub larger_room : (room : Room) (extent : Extent) → Holds room extent → nat_lt 16777216 room.bytes ≡ nat_lt 16777216 extent.bytes
larger_room room extent holds =
    let bytes = holds.bytes in
    ⊎_elim (λ less. let too : 16777216 < room.bytes = omega arith in lt-ltb 16777216 room.bytes too ∙ sym (lt-ltb 16777216 extent.bytes less))
    (λ more. let too : room.bytes ≤ 16777216 = omega arith in le-ltb 16777216 room.bytes too ∙ sym (le-ltb 16777216 extent.bytes more))
    (cases_lt 16777216 extent.bytes)

-- a multiple isn't less
up_more : (n multiple : ℕ) → 0 < multiple → n ≤ round_up n multiple
up_more n multiple some = omega arith

-- and of nothing there is none
up_none : (n multiple : ℕ) → multiple ≡ 0 → round_up n multiple ≡ 0
up_none n multiple none = subst (λ m. (n + (multiple - 1)) / multiple * m ≡ 0) (sym none) (mul-zero ((n + (multiple - 1)) / multiple))

-- what is rounded up and added to, up to the bound
up_bound : (a b x y multiple : ℕ) → a ≡ min (2 ^ 40) x → b ≡ min (2 ^ 40) y → (multiple ≡ 0) ⊎ (0 < multiple) → min (round_up a multiple + b) (2 ^ 40) ≡ min (2 ^ 40) (round_up x multiple + y)
up_bound a b x y multiple first second (inl none) = let left = up_none a multiple none in let right = up_none x multiple none in omega arith
up_bound a b x y multiple first second (inr some) =
    ⊎_elim (λ less. let more = up_more a multiple some in let beyond = up_more x multiple some in omega arith)
    (λ within. let same : a ≡ x = omega arith in subst (λ w. min (round_up w multiple + b) (2 ^ 40) ≡ min (2 ^ 40) (round_up x multiple + y)) (sym same) (omega arith))
    (cases_lt (2 ^ 40) x)

-- there is some, or none
none_or_some : (n : ℕ) → (n ≡ 0) ⊎ (0 < n)
none_or_some zero = inl refl
none_or_some (suc n) = inr (omega arith)

-- steps of loops
pub extended_room : (so_far next result : Room) (first second : Extent) → Holds so_far first → Holds next second → result.bytes ≡ min (round_up so_far.bytes next.align + next.bytes) (2 ^ 40) → result.align ≡ max so_far.align next.align → Holds result (extend first second)
extended_room so_far next result first second one other bytes align = record {
  bytes =
      bytes
      ∙ (up_bound so_far.bytes next.bytes first.bytes second.bytes next.align one.bytes other.bytes (none_or_some next.align)
      ∙ ap (λ m. min (2 ^ 40) (round_up first.bytes m + second.bytes)) other.align);
  align = align ∙ (ap (λ m. max m next.align) one.align ∙ ap (max first.align) other.align);
  small = let a = one.small in let b = other.small in omega arith;
}

pub widened_room : (so_far next result : Room) (first second : Extent) → Holds so_far first → Holds next second → result.bytes ≡ max so_far.bytes next.bytes → result.align ≡ max so_far.align next.align → Holds result (record { bytes = max first.bytes second.bytes; align = max first.align second.align })
widened_room so_far next result first second one other bytes align = record {
  bytes = let a = one.bytes in let b = other.bytes in omega arith;
  align = align ∙ (ap (λ m. max m next.align) one.align ∙ ap (max first.align) other.align);
  small = let a = one.small in let b = other.small in omega arith;
}

pub padded_room : (room result : Room) (extent : Extent) → Holds room extent → result.bytes ≡ min (round_up room.bytes room.align) (2 ^ 40) → result.align ≡ room.align → Holds result (rounded extent)
padded_room room result extent one bytes align = record {
  bytes =
      let none = up_bound room.bytes 0 extent.bytes 0 room.align one.bytes (omega arith) (none_or_some room.align) in
      let there : result.bytes ≡ min (2 ^ 40) (round_up extent.bytes room.align) = omega arith in
      there ∙ ap (λ m. min (2 ^ 40) (round_up extent.bytes m)) one.align;
  align = align ∙ one.align;
  small = one.small;
}

-- one more
pub room_more : {X : Type 0} (step : Extent → Extent → Extent) (start : Extent) (extent : X → Extent) (xs : List X) (i : ℕ) (x : X) (room : Room) → i < length xs → x ≡ get_or xs i x → Holds room (step (fold step start (map extent (take i xs))) (extent x)) → Holds room (fold step start (map extent (take (i + 1) xs)))
room_more step start extent xs i x room within is holds =
    subst (Holds room) (sym (ap (λ ys. fold step start (map extent ys)) (one_more xs i x within is) ∙ (ap (fold step start) (map-append extent (take i xs) (x ∷ [])) ∙ fold-append step start (map extent (take i xs)) (extent x ∷ [])))) holds

-- all
pub room_all : {X : Type 0} (step : Extent → Extent → Extent) (start : Extent) (extent : X → Extent) (xs ys : List X) (i : ℕ) (room : Room) → length xs ≤ i → xs ≡ ys → Holds room (fold step start (map extent (take i xs))) → Holds room (fold step start (map extent ys))
room_all step start extent xs ys i room whole same holds = subst (λ zs. Holds room (fold step start (map extent zs))) (take_all i xs whole ∙ same) holds
