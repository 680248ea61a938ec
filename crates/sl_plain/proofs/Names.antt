-- Names among declarations: where they stand, and what is kept under them.
use Rattle.std.proofs.Common.{◌≡◌, ℕ, zero, suc, ◌<◌, List, [], ◌∷◌, ◌++◌, length, map, slice_get, slice_set, Bool, true, false, ◌&&◌, Some, None, option_map, unwrap_or, nat_lt, position, bytes_eq, refl, sym, subst, ap, ap₂, ◌∙◌, one-add, arith, lt-ltb, All}
use Rattle.std.specs.List.{list_all, position_or_len, AllByRecursion, IsDistinct}
use Rattle.std.proofs.lemmas.Slice.Eq.{bytes_eq-Decides}
use Rattle.std.proofs.lemmas.Option.{slice_get-map}
use Rattle.std.proofs.lemmas.Map.Keys.{IsDistinct-head, IsDistinct-tail}
use Rattle.sl_core.proofs.Slots.{some_same}
use Rattle.sl_plain.specs.Program.{Declared, declaration, name_of}

-- whether an entry declares a name
abbrev pub declares : List ℕ → Declared → Bool
declares name entry = bytes_eq entry.name name

-- the place of a name
abbrev pub place : List Declared → List ℕ → ℕ
place names name = position_or_len (declares name) names

-- the same bytes
pub same_bytes : (a b : List ℕ) → bytes_eq a b ≡ true → a ≡ b
same_bytes a b h = (bytes_eq-Decides a b).0 h

-- bytes are equal to themselves
pub bytes_same : (a : List ℕ) → bytes_eq a a ≡ true
bytes_same a = (bytes_eq-Decides a a).1 refl

-- a test, either way
pub either : (b : Bool) {P : Type 0} → (b ≡ true → P) → (b ≡ false → P) → P
either true h k = h refl
either false h k = k refl

-- both tests hold
pub both : (a b : Bool) → a && b ≡ true → (a ≡ true) × (b ≡ true)
both true b h = (refl, h)
both false b h = absurd (false_not_true h)
  where
    false_not_true : false ≡ true → ⊥
    false_not_true h = grind arith

pub bytes_eq_sym : (a b : List ℕ) → bytes_eq a b ≡ bytes_eq b a
bytes_eq_sym a b = either (bytes_eq a b)
    (λ e. subst (λ c. bytes_eq a c ≡ bytes_eq c a) (same_bytes a b e) refl)
    (λ e. either (bytes_eq b a)
    (λ f. subst (λ c. bytes_eq c b ≡ bytes_eq b c) (same_bytes b a f) refl)
    (λ f. e ∙ sym f))

-- what is known of a name that is declared
pub record Stands (names : List Declared) (name : List ℕ) (entry : Declared) : Type 0 where
  pub within : place names name < length names
  pub at : slice_get names (place names name) ≡ Some entry
  pub named : entry.name ≡ name

-- one more declaration in front
later : (first : Declared) (names : List Declared) (name : List ℕ) (entry : Declared) → declares name first ≡ false → Stands names name entry → Stands (first ∷ names) name entry
later first names name entry e stands = record {
  within = rw e (omega (arith, stands.within));
  at = rw (e, one-add) stands.at;
  named = stands.named;
}

here : (first : Declared) (names : List Declared) (name : List ℕ) (entry : Declared) → declares name first ≡ true → Some first ≡ Some entry → Stands (first ∷ names) name entry
here first names name entry e is = record {
  within = rw e (omega arith);
  at = rw e is;
  named = ap name_of (some_same entry first (sym is)) ∙ same_bytes first.name name e;
}

-- a name that is declared stands at its place
pub stands : (names : List Declared) (name : List ℕ) (entry : Declared) → declaration names name ≡ Some entry → Stands names name entry
stands [] name entry h = absurd (none_not_some entry h)
  where
    none_not_some : (entry : Declared) → None ≡ Some entry → ⊥
    none_not_some entry h = grind arith
stands (first ∷ names) name entry h =
    either (declares name first)
    (λ e. here first names name entry e (rw e at h))
    (λ e. later first names name entry e (stands names name entry (rw e at h)))

-- what its variable's number is
pub position_is : (names : List Declared) (name : List ℕ) (entry : Declared) → declaration names name ≡ Some entry → unwrap_or (position (declares name) names) 0 ≡ place names name
position_is names name entry h =
    let less : nat_lt (place names name) (length names) ≡ true = lt-ltb _ _ (stands names name entry h).within
    in rw less refl

-- what each of the declarations is mapped to
pub mapped_at : {X : Type 0} (f : Declared → X) (names : List Declared) (name : List ℕ) (entry : Declared) → declaration names name ≡ Some entry → slice_get (map f names) (place names name) ≡ Some (f entry)
mapped_at f names name entry h = slice_get-map f names (place names name) ∙ ap (option_map f) (stands names name entry h).at

-- where none has the name, what is kept of the others stays
others_stay : {X : Type 0} (f g : Declared → X) (name : List ℕ) (names : List Declared) → AllByRecursion (λ other. bytes_eq name other ≡ false) (map name_of names) → ((entry : Declared) → declares name entry ≡ false → g entry ≡ f entry) → map f names ≡ map g names
others_stay f g name [] none same = refl
others_stay f g name (entry ∷ names) none same = ap₂ (λ x xs. x ∷ xs) (sym (same entry (bytes_eq_sym entry.name name ∙ none.0))) (others_stay f g name names none.1 same)

-- what is kept of a name is set at its place, where names are distinct
pub set_at : {X : Type 0} (f g : Declared → X) (x : X) (names : List Declared) (name : List ℕ) (entry : Declared) → declaration names name ≡ Some entry → IsDistinct bytes_eq (map name_of names) → ((entry : Declared) → declares name entry ≡ true → g entry ≡ x) → ((entry : Declared) → declares name entry ≡ false → g entry ≡ f entry) → slice_set (map f names) (place names name) x ≡ map g names
set_at f g x [] name entry h distinct at other = refl
set_at f g x (first ∷ names) name entry h distinct at other =
    either (declares name first)
    (λ e.
    let none : AllByRecursion (λ other. bytes_eq name other ≡ false) (map name_of names) = subst (λ n. AllByRecursion (λ other. bytes_eq n other ≡ false) (map name_of names)) (same_bytes first.name name e) (IsDistinct-head bytes_eq first.name (map name_of names) distinct)
    in rw e (ap₂ (λ x xs. x ∷ xs) (sym (at first e)) (others_stay f g name names none other)))
    (λ e. rw (e, one-add) (ap₂ (λ x xs. x ∷ xs) (sym (other first e)) (set_at f g x names name entry (rw e at h) (IsDistinct-tail bytes_eq first.name (map name_of names) distinct) at other)))

-- an entry is what declares its name
abbrev pub KnownIn : List Declared → Declared → Type 0
KnownIn names entry = declaration names entry.name ≡ Some entry

-- entries stay known behind one of another name
known_later : (first : Declared) (names entries : List Declared) → AllByRecursion (λ other. bytes_eq first.name other ≡ false) (map name_of entries) → AllByRecursion (KnownIn names) entries → AllByRecursion (KnownIn (first ∷ names)) entries
known_later first names [] apart known = tt
known_later first names (entry ∷ entries) apart known = (rw apart.0 known.0, known_later first names entries apart.1 known.1)

-- where names are distinct, each entry is what declares its name
pub all_known : (names : List Declared) → IsDistinct bytes_eq (map name_of names) → AllByRecursion (KnownIn names) names
all_known [] distinct = tt
all_known (first ∷ names) distinct =
    (rw (bytes_same first.name) refl, known_later first names names (IsDistinct-head bytes_eq first.name (map name_of names) distinct) (all_known names (IsDistinct-tail bytes_eq first.name (map name_of names) distinct)))

-- what holds of all holds of those of both parts
pub all_before : {X : Type 0} (P : X → Type 0) (xs ys : List X) → AllByRecursion P (xs ++ ys) → AllByRecursion P xs
all_before P [] ys all = tt
all_before P (x ∷ xs) ys all = (all.0, all_before P xs ys all.1)

pub all_behind : {X : Type 0} (P : X → Type 0) (xs ys : List X) → AllByRecursion P (xs ++ ys) → AllByRecursion P ys
all_behind P [] ys all = all
all_behind P (x ∷ xs) ys all = all_behind P xs ys all.1

pub all_append : {X : Type 0} (P : X → Type 0) (xs ys : List X) → AllByRecursion P xs → AllByRecursion P ys → AllByRecursion P (xs ++ ys)
all_append P [] ys all others = others
all_append P (x ∷ xs) ys all others = (all.0, all_append P xs ys all.1 others)

-- from `All`, and to it
pub from_all : {X : Type 0} (P : X → Type 0) (xs : List X) → All P xs → AllByRecursion P xs
from_all P [] all = tt
from_all P (x ∷ xs) all = (all 0 x (omega arith), from_all P xs (λ k d less. all (suc k) d (omega (arith, less))))

pub to_all : {X : Type 0} (P : X → Type 0) (xs : List X) → AllByRecursion P xs → All P xs
to_all P [] all k d less = absurd (none k less)
  where
    none : (k : ℕ) → k < 0 → ⊥
    none k less = omega arith
to_all P (x ∷ xs) all zero d less = all.0
to_all P (x ∷ xs) all (suc k) d less = to_all P xs all.1 k d (omega (arith, less))

-- what is so of all is so in other words
pub all_so : {X : Type 0} (P Q : X → Type 0) → ((x : X) → P x → Q x) → (xs : List X) → AllByRecursion P xs → AllByRecursion Q xs
all_so P Q h [] all = tt
all_so P Q h (x ∷ xs) all = (h x all.0, all_so P Q h xs all.1)

-- what a test of all tells of each
pub all_pass : {X : Type 0} (test : X → Bool) (xs : List X) → list_all test xs ≡ true → AllByRecursion (λ x. test x ≡ true) xs
all_pass test [] h = tt
all_pass test (x ∷ xs) h = let tests = both (test x) (list_all test xs) h in (tests.0, all_pass test xs tests.1)
