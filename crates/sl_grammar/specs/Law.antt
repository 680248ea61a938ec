-- What a reader of a phrase owes, up to a length, and which tokens go on after a whole phrase.
use Rattle.std.specs.Prelude.{◌≡◌, ℕ, ◌+◌, ◌<◌, ◌≤◌, List, [], ◌∷◌, ◌++◌, length, Bool, true, false, if◌then◌else◌}
use Rattle.sl_grammar.specs.Phrase.{Begins, Found, Done, Stopped, IsRead, found_then}

-- a word
abbrev pub Word : {K X : Type 0} → (X → List K → Type 0) → Type 0
Word {K} {X} spells = (x : X) × (a : List K) × spells x a

-- no token passes both tests
abbrev pub Disjoint : {K : Type 0} → (K → Bool) → (K → Bool) → Type 0
Disjoint {K} p q = (k : K) → p k ≡ true → q k ≡ true → ⊥

-- the tokens that begin a word are those that pass
pub record Starts {K X : Type 0} (spells : X → List K → Type 0) (first : K → Bool) : Type 0 where
  pub sure : (k : K) → first k ≡ true → Begins spells (k ∷ [])
  pub only : (k : K) → Begins spells (k ∷ []) → first k ≡ true

-- on lists shorter than n: the reader finds the longest front, a token that goes on after a word passes, and a list spells at most one phrase
pub record Law {K X : Type 0} (spells : X → List K → Type 0) (read : List K → Found K X) (after : K → Bool) (n : ℕ) : Type 0 where
  pub reads : (ts : List K) → length ts < n → IsRead spells ts (read ts)
  pub goes : (x : X) (a : List K) (k : K) → length a < n → spells x a → Begins spells (a ++ k ∷ []) → after k ≡ true
  pub one : (x y : X) (a : List K) → length a < n → spells x a → spells y a → x ≡ y

-- one after the other, where the first phrase may decide what the second is
abbrev pub spells_then : {K X Y : Type 0} → (X → List K → Type 0) → (X → Y → List K → Type 0) → X × Y → List K → Type 0
spells_then {K} l m p ts = (a : List K) × (b : List K) × (ts ≡ a ++ b) × l p.0 a × m p.0 p.1 b

abbrev pub read_then : {K X Y : Type 0} → (List K → Found K X) → (X → List K → Found K Y) → List K → Found K (X × Y)
read_then l m ts = found_then (l ts) (λ x rest. found_then (m x rest) (λ y left. Done (x, y) left))

-- what two phrases owe each other that stand one after the other: each first phrase has a second, and no token
-- that may begin the second goes on after the first. The first phrase is so long that the second's law holds on what is left.
pub record Joins {K X Y : Type 0} (l : X → List K → Type 0) (m : X → Y → List K → Type 0) (after : K → Bool) (first : X → K → Bool) (n j : ℕ) : Type 0 where
  pub word : (x : X) (a : List K) → l x a → Word (m x)
  pub only : (x : X) (a : List K) (k : K) → l x a → Begins (m x) (k ∷ []) → first x k ≡ true
  pub apart : (x : X) → Disjoint after (first x)
  pub size : (x : X) (a : List K) → l x a → n ≤ length a + j

-- tests on tokens: none passes, or one of two
abbrev pub no_token : {K : Type 0} → K → Bool
no_token k = false

abbrev pub either_token : {K : Type 0} → (K → Bool) → (K → Bool) → K → Bool
either_token p q k = if p k then true else q k

-- no token at all
abbrev pub spells_nothing : {K : Type 0} → Unit {0} → List K → Type 0
spells_nothing x ts = ts ≡ []

abbrev pub read_nothing : {K : Type 0} → List K → Found K (Unit {0})
read_nothing ts = Done tt ts

-- what two phrases owe each other that are read by the first token: it tells that the first phrase begins, and never begins the second
pub record Chooses {K X Y : Type 0} (l : X → List K → Type 0) (m : Y → List K → Type 0) (starts : K → Bool) : Type 0 where
  pub left : Starts l starts
  pub right : (k : K) → Begins m (k ∷ []) → starts k ≡ true → ⊥
  pub some : (x : X) → l x [] → ⊥

-- a phrase seen as something else
abbrev pub found_as : {K X Y : Type 0} → (X → Y) → Found K X → Found K Y
found_as f (Done x rest) = Done (f x) rest
found_as f (Stopped rest) = Stopped rest

-- the same words, by a map with a way back
pub record Seen {K X Y : Type 0} (l : X → List K → Type 0) (f : X → Y) (m : Y → List K → Type 0) : Type 0 where
  pub to : (x : X) (ts : List K) → l x ts → m (f x) ts
  pub back : (y : Y) (ts : List K) → m y ts → (x : X) × (f x ≡ y) × l x ts

-- what is known of a phrase beside its reader: the tokens that begin it, a word of it, and whether it may be empty
pub record Shape {K X : Type 0} (spells : X → List K → Type 0) (first : K → Bool) (blank : Bool) : Type 0 where
  pub starts : Starts spells first
  pub word : Word spells
  pub some : blank ≡ false → (x : X) → spells x [] → ⊥
  pub empty : blank ≡ true → (x : X) × spells x []

-- the tests of a phrase: which tokens begin it, which may go on after it, whether it may be empty
pub record Marks (K : Type 0) : Type 0 where
  pub first : K → Bool
  pub after : K → Bool
  pub blank : Bool

-- a phrase with its reader, on lists shorter than n
pub record Piece {K X : Type 0} (spells : X → List K → Type 0) (read : List K → Found K X) (marks : Marks K) (n : ℕ) : Type 0 where
  pub shape : Shape spells marks.first marks.blank
  pub law : Law spells read marks.after n

-- of a phrase that is never empty, and of one that may be
abbrev pub solid : {K : Type 0} → (K → Bool) → (K → Bool) → Marks K
solid f a = record { first = f; after = a; blank = false }

abbrev pub loose : {K : Type 0} → (K → Bool) → (K → Bool) → Marks K
loose f a = record { first = f; after = a; blank = true }

abbrev pub marks_token : {K : Type 0} → (K → Bool) → Marks K
marks_token passes = record { first = passes; after = no_token; blank = false }

abbrev pub marks_nothing : {K : Type 0} → Marks K
marks_nothing = record { first = no_token; after = no_token; blank = true }

abbrev pub marks_both : {K : Type 0} → Marks K → Marks K → Marks K
marks_both p q = record {
  first = if p.blank then either_token p.first q.first else p.first;
  after = if q.blank then either_token p.after q.after else q.after;
  blank = if p.blank then q.blank else false;
}

abbrev pub marks_either : {K : Type 0} → Marks K → Marks K → Marks K
marks_either p q = record {
  first = either_token p.first q.first;
  after = if q.blank then either_token p.first (either_token p.after q.after) else either_token p.after q.after;
  blank = q.blank;
}
