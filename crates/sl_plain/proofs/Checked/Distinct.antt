-- Names of which no two are the same.
use Rattle.std.proofs.Common.{◌≡◌, ℕ, List, [], ◌∷◌, Bool, true, false, not, ◌&&◌, refl, ap₂, ◌∙◌, bytes_eq}
use Rattle.std.specs.List.{AllByRecursion, IsDistinct}
use Rattle.std.proofs.lemmas.Bool.{and_parts, or_parts, or_from}
use Rattle.sl_plain.specs.Names.{is_among}
use Rattle.sl_plain.specs.Checking.{are_distinct}
use Rattle.sl_plain.proofs.Names.{bytes_eq_sym}

-- a name that is none of the others
none_found : (name : List ℕ) (names : List (List ℕ)) → is_among names name ≡ false → AllByRecursion (λ other. bytes_eq name other ≡ false) names
none_found name [] none = tt
none_found name (other ∷ names) none =
    let parts = or_parts (bytes_eq other name) (is_among names name) none
    in (bytes_eq_sym name other ∙ parts.0, none_found name names parts.1)

none_there : (name : List ℕ) (names : List (List ℕ)) → AllByRecursion (λ other. bytes_eq name other ≡ false) names → is_among names name ≡ false
none_there name [] none = refl
none_there name (other ∷ names) none = or_from (bytes_eq other name) (is_among names name) (bytes_eq_sym other name ∙ none.0) (none_there name names none.1)

-- a test that fails
not_so : (t : Bool) → not t ≡ true → t ≡ false
not_so true e = cc
not_so false e = refl

pub distinct_found : (names : List (List ℕ)) → are_distinct names ≡ true → IsDistinct bytes_eq names
unfolding IsDistinct
distinct_found [] passed = tt
distinct_found (name ∷ names) passed =
    let parts = and_parts (not (is_among names name)) (are_distinct names) passed
    in (none_found name names (not_so (is_among names name) parts.0), distinct_found names parts.1)

pub distinct_there : (names : List (List ℕ)) → IsDistinct bytes_eq names → are_distinct names ≡ true
unfolding IsDistinct
distinct_there [] distinct = refl
distinct_there (name ∷ names) distinct = ap₂ (λ a b. not a && b) (none_there name names distinct.0) (distinct_there names distinct.1)
