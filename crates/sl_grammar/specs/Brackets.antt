-- Brackets that match: which tokens close what is open, and a group, from a bracket that opens up to the one that closes it.
use Rattle.std.specs.Prelude.{◌≡◌, List, [], ◌∷◌, Bool, true, false, if◌then◌else◌}
use Rattle.sl_grammar.specs.Phrase.{Found, Done, Stopped}
use Rattle.sl_grammar.specs.Law.{found_as}

-- a token's bracket: one that opens a kind of bracket, one that closes a kind, or none; the kinds are of any type `B`
pub data Bracket (B : Type 0) : Type 0 where
  Opens : B → Bracket B
  Closes : B → Bracket B
  Plain : Bracket B

-- what a bracket leads to where the kind `n` is open, the innermost, and around it the kinds `ns`: `go` takes the kinds that are open
-- then, and it is `wrong` to close another kind than the innermost; `same` tells whether two kinds are the same
abbrev pub past : {B X : Type 0} → (B → B → Bool) → X → (List B → X) → B → List B → Bracket B → X
past same wrong go n ns (Opens m) = go (m ∷ n ∷ ns)
past same wrong go n ns (Closes m) = if same m n then go ns else wrong
past same wrong go n ns Plain = go (n ∷ ns)

-- a bracket opens the kind `n`
abbrev pub opens : {B : Type 0} → (B → B → Bool) → B → Bracket B → Bool
opens same n (Opens m) = same m n
opens same n (Closes m) = false
opens same n Plain = false

module _ {K B : Type 0} (same : B → B → Bool) (bracket : K → Bracket B) where
  -- whether these tokens close all brackets that are open, given the innermost first, and the last of them just at their end
  abbrev pub closes : List B → List K → Bool
  closes [] [] = true
  closes [] (k ∷ ks) = false
  closes (n ∷ ns) [] = false
  closes (n ∷ ns) (k ∷ ks) = past same false (λ open_kinds. closes open_kinds ks) n ns (bracket k)

  -- the tokens that close what is open
  abbrev pub spells_closing : List B → List K → List K → Type 0
  spells_closing open_kinds x ts = (x ≡ ts) × (closes open_kinds ts ≡ true)

  -- a group: a bracket that opens the kind `n`, and all up to the one that closes it
  abbrev pub spells_group : B → List K → List K → Type 0
  spells_group n x ts = (x ≡ ts) × (k : K) × (ks : List K) × (ts ≡ k ∷ ks) × (bracket k ≡ Opens n) × (closes (n ∷ []) ks ≡ true)

  -- all tokens are taken until the last bracket closes; one that closes another kind than the innermost stops it
  abbrev pub read_closing : List B → List K → Found K (List K)
  read_closing [] ts = Done [] ts
  read_closing (n ∷ ns) [] = Stopped []
  read_closing (n ∷ ns) (k ∷ ks) = past same (Stopped (k ∷ ks)) (λ open_kinds. found_as (λ x. k ∷ x) (read_closing open_kinds ks)) n ns (bracket k)

  abbrev pub read_group : B → List K → Found K (List K)
  read_group n [] = Stopped []
  read_group n (k ∷ ks) = if opens same n (bracket k) then found_as (λ x. k ∷ x) (read_closing (n ∷ []) ks) else Stopped (k ∷ ks)
