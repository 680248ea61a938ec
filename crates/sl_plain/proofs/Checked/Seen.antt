-- Names of which none was seen before.
use Rattle.std.proofs.Common.{◌≡◌, ℕ, List, [], ◌∷◌, Bool, true, false, not, ◌&&◌, ◌||◌, is_some, Option, Some, refl, sym, ap, ap₂, ◌∙◌, cond, Bor, bytes_eq}
use Rattle.std.specs.List.{list_all}
use Rattle.std.specs.Map.{update}
use Rattle.std.specs.BTreeMap as tree
use Rattle.std.specs.BTreeMap.{BTreeMap}
use Rattle.std.specs.Ordering.{nat_cmp}
use Rattle.std.specs.Cmp.Lexicographic.{slice_cmp}
use Rattle.sl_plain.specs.Names.{is_among}
use Rattle.sl_plain.specs.Checking.{are_distinct}
use Rattle.sl_plain.proofs.Names.{bytes_eq_sym}

-- whether no two are the same, and none was seen before
abbrev pub distinct_behind : (List ℕ → Bool) → List (List ℕ) → Bool
distinct_behind seen [] = true
distinct_behind seen (name ∷ names) = not (seen name) && distinct_behind (λ q. bytes_eq name q || seen q) names

pub distinct_same : (f g : List ℕ → Bool) → ((q : List ℕ) → f q ≡ g q) → (names : List (List ℕ)) → distinct_behind f names ≡ distinct_behind g names
distinct_same f g same [] = refl
distinct_same f g same (name ∷ names) = ap₂ (λ a b. not a && b) (same name) (distinct_same (λ q. bytes_eq name q || f q) (λ q. bytes_eq name q || g q) (λ q. ap (λ t. bytes_eq name q || t) (same q)) names)

abbrev none_seen : (List ℕ → Bool) → List (List ℕ) → Bool
none_seen seen names = list_all (λ name. not (seen name)) names

-- one more name that was seen
mixed : (same seen among none more : Bool) → more ≡ (none && not among) → (not (same || seen) && more) ≡ ((not seen && none) && not (same || among))
mixed true true true none more e = refl
mixed true true false none more e = refl
mixed true false among true more e = refl
mixed true false among false more e = refl
mixed false true among none more e = refl
mixed false false among none more e = e

one_seen : (seen : List ℕ → Bool) (name : List ℕ) (names : List (List ℕ)) → none_seen (λ q. bytes_eq name q || seen q) names ≡ (none_seen seen names && not (is_among names name))
one_seen seen name [] = refl
one_seen seen name (other ∷ names) =
    ap (λ t. not (t || seen other) && none_seen (λ q. bytes_eq name q || seen q) names) (bytes_eq_sym name other)
    ∙ mixed (bytes_eq other name) (seen other) (is_among names name) (none_seen seen names) (none_seen (λ q. bytes_eq name q || seen q) names) (one_seen seen name names)

grouped : (seen none among distinct : Bool) → (not seen && ((none && not among) && distinct)) ≡ ((not seen && none) && (not among && distinct))
grouped true none among distinct = refl
grouped false true among distinct = refl
grouped false false among distinct = refl

distinct_is : (seen : List ℕ → Bool) (names : List (List ℕ)) → distinct_behind seen names ≡ (none_seen seen names && are_distinct names)
distinct_is seen [] = refl
distinct_is seen (name ∷ names) =
    ap (λ t. not (seen name) && t) (distinct_is (λ q. bytes_eq name q || seen q) names ∙ ap (λ t. t && are_distinct names) (one_seen seen name names))
    ∙ grouped (seen name) (none_seen seen names) (is_among names name) (are_distinct names)

nothing_seen : (names : List (List ℕ)) → none_seen (λ q. false) names ≡ true
nothing_seen [] = refl
nothing_seen (name ∷ names) = nothing_seen names

-- at first none was seen
pub distinct_first : (seen : List ℕ → Bool) (names : List (List ℕ)) → ((q : List ℕ) → seen q ≡ false) → are_distinct names ≡ distinct_behind seen names
distinct_first seen names none = sym (distinct_same seen (λ q. false) none names ∙ distinct_is (λ q. false) names ∙ ap (λ t. t && are_distinct names) (nothing_seen names))

-- the names in a map
abbrev pub found_in : {X : Type 0} → BTreeMap (Bor (List ℕ)) X → List ℕ → Option X
found_in names q = tree.get_by (λ k. slice_cmp nat_cmp q k.now) names

abbrev pub is_in : {X : Type 0} → BTreeMap (Bor (List ℕ)) X → List ℕ → Bool
is_in names q = is_some (found_in names q)

-- an empty map has none
pub empty_seen : {X : Type 0} (names : BTreeMap (Bor (List ℕ)) X) → names.entries ≡ [] → (q : List ℕ) → is_in names q ≡ false
empty_seen names e q = rw e refl

-- a name that was seen before
pub seen_before : (whole : Bool) (seen : List ℕ → Bool) (names : List (List ℕ)) (name : List ℕ) (rest : List (List ℕ)) → whole ≡ distinct_behind seen names → names ≡ name ∷ rest → seen name ≡ true → false ≡ whole
seen_before whole seen names name rest before cut is =
    sym (before ∙ ap (distinct_behind seen) cut ∙ ap (λ t. not t && distinct_behind (λ q. bytes_eq name q || seen q) rest) is)

-- a name that was not
known_or : {X : Type 0} (same : Bool) (x : X) (found : Option X) → (same || is_some found) ≡ is_some (cond same (Some x) found)
known_or true x found = refl
known_or false x found = refl

pub seen_more : {X : Type 0} (x : X) (whole : Bool) (seen after : BTreeMap (Bor (List ℕ)) X) (names : List (List ℕ)) (name : List ℕ) (rest : List (List ℕ))
    → whole ≡ distinct_behind (is_in seen) names → names ≡ name ∷ rest → is_in seen name ≡ false → ((q : List ℕ) → found_in after q ≡ update bytes_eq (found_in seen) name (Some x) q)
    → whole ≡ distinct_behind (is_in after) rest
seen_more x whole seen after names name rest before cut none updates =
    before ∙ ap (distinct_behind (is_in seen)) cut
    ∙ ap (λ t. not t && distinct_behind (λ q. bytes_eq name q || is_in seen q) rest) none
    ∙ distinct_same (λ q. bytes_eq name q || is_in seen q) (is_in after) (λ q. known_or (bytes_eq name q) x (found_in seen q) ∙ ap is_some (sym (updates q))) rest
