-- Names that keep an item or get one, and lists that grow at their end.
use Rattle.std.proofs.Common.{◌≡◌, ℕ, ◌+◌, ◌<◌, List, [], ◌∷◌, ◌++◌, Option, None, Some, length, Bool, true, false, if◌then◌else◌, refl, ap, sym, ◌∙◌, subst, arith, append_assoc, take, get_or, length-append}
use Rattle.std.specs.Option.{is_some}
use Rattle.std.specs.Str.{bytes_eq}
use Rattle.std.proofs.lemmas.List.{take_more, length-take}
use Rattle.std.proofs.lemmas.Slice.Eq.{bytes_eq-Decides}
use Rattle.c_tree.specs.Scope.{or_else}
use Rattle.c_rules.specs.declared.naming.Names.{Names}
use Rattle.c_rules.specs.Naming.{item_named}

-- the elements so far of a list behind another
pub appended : {X : Type 0} (earlier xs : List X) (i : ℕ) (x d : X) → i < length xs → x ≡ get_or xs i d → (earlier ++ take i xs) ++ x ∷ [] ≡ earlier ++ take (i + 1) xs
appended earlier xs i x d within is =
    append_assoc earlier (take i xs) (x ∷ [])
    ∙ (ap (λ x. earlier ++ (take i xs ++ x ∷ [])) is ∙ ap (λ rest. earlier ++ rest) (sym (take_more xs i d within)))

-- how many they are
pub reached : {X : Type 0} (earlier xs : List X) (first i : ℕ) → length earlier ≡ first → i < length xs → length (earlier ++ take i xs) ≡ first + i
reached earlier xs first i start within = omega (arith, start, length-append earlier (take i xs), length-take i xs)

-- the same text
pub same_text : (xs ys : List ℕ) → bytes_eq xs ys ≡ true → xs ≡ ys
same_text xs ys h = (bytes_eq-Decides xs ys).0 h

-- the first of two where the first is there, or where it isn't
first_there : {T : Type 0} (item : T) (o : Option T) (b : Bool) → (b ≡ true → is_some o ≡ true) → o ≡ or_else o (if b then Some item else None)
first_there item (Some x) b h = refl
first_there item None true h = let e = h refl in cc
first_there item None false h = refl

first_missing : {T : Type 0} (item : T) (o : Option T) (b : Bool) → (b ≡ true → is_some o ≡ false) → (if b then Some item else o) ≡ or_else o (if b then Some item else None)
first_missing item None true h = refl
first_missing item None false h = refl
first_missing item (Some x) true h = let e = h refl in cc
first_missing item (Some x) false h = refl

module _ {T : Type 0} (names : Names T) (key : List ℕ) (item : T) where
  -- a name that has an item keeps it
  pub keeps_named : is_some (item_named names key) ≡ true → (name : List ℕ) → item_named names name ≡ or_else (item_named names name) (if bytes_eq key name then Some item else None)
  keeps_named there name = first_there item (item_named names name) (bytes_eq key name) (λ same. subst (λ name. is_some (item_named names name) ≡ true) (same_text key name same) there)

  -- one that has none gets it
  pub gets_named : is_some (item_named names key) ≡ false → (name : List ℕ) → (if bytes_eq key name then Some item else item_named names name) ≡ or_else (item_named names name) (if bytes_eq key name then Some item else None)
  gets_named missing name = first_missing item (item_named names name) (bytes_eq key name) (λ same. subst (λ name. is_some (item_named names name) ≡ false) (same_text key name same) missing)
