-- A grammar: a rule for each name. What it spells, how it is read, and a test of the whole that computes.
use Rattle.std.specs.Prelude.{◌≡◌, ℕ, zero, suc, List, Bool, true, false, if◌then◌else◌, ltb}
use Rattle.sl_grammar.specs.Phrase.{Found, Stopped}
use Rattle.sl_grammar.specs.Law.{found_as}
use Rattle.sl_grammar.specs.Grammar.{Form, Sets, subset, and, sets_of, has_word, ok, Val, spells_form, read_form}

-- the names of a grammar: the form of each, and of each name the kinds that begin it and that may go on after it, how many names may
-- stand first in it one in another, and how high its lowest tree is; `valid` leaves out names that no rule in use needs, and `own` tells
-- those that are read in their own way, with a law proved by hand
pub record Names (N : Type 0) : Type 0 where
  pub rule : N → Form N
  pub sets : N → Sets
  pub rank : N → ℕ
  pub height : N → ℕ
  pub valid : N → Bool
  pub own : N → Bool

-- readers of all names
abbrev pub Readers : {N : Type 0} → Type 0 → (N → Type 0) → Type 0
Readers {N} K T = (i : N) → List K → Found K (T i)

-- no name is read in its own way
abbrev pub none_own : {K N : Type 0} (T : N → Type 0) → Readers K T → Readers K T → Readers K T
none_own T lead later i ts = Stopped ts

abbrev pub same : Bool → Bool → Bool
same a b = if a then b else (if b then false else true)

module _ {K N : Type 0} (kind : K → ℕ) (sample : ℕ → K) (names : Names N) where
  abbrev pub lead : N → N → Bool
  lead i j = and (names.valid j) (ltb (names.rank j) (names.rank i))

  abbrev pub lower : N → N → Bool
  lower i j = and (names.valid j) (ltb (names.height j) (names.height i))

  -- the test of a rule
  abbrev pub good : N → Bool
  good i =
      let s = sets_of names.sets (names.rule i) in
      and (ok kind sample names.sets names.valid (lead i) (names.rule i)) (and (has_word (lower i) (names.rule i))
      (and (subset s.first (names.sets i).first) (and (subset (names.sets i).first s.first) (and (subset s.after (names.sets i).after) (same s.blank (names.sets i).blank)))))

module _ {K N : Type 0} (kind : K → ℕ) (names : Names N) (T : N → Type 0) (room : (i j : N) → T i → List (T j) → Bool) (tree : (i : N) → Val kind T (names.rule i) → T i) where
  -- a tree is spelled by what the rule's form is whose tree it is, by so many rules one in another at most
  abbrev pub spells_in : ℕ → (i : N) → T i → List K → Type 0
  spells_in zero i t ts = ⊥
  spells_in (suc n) i t ts = (v : Val kind T (names.rule i)) × (tree i v ≡ t) × spells_form kind T room (λ j. spells_in n j) (names.rule i) v ts

  abbrev pub Spells : (i : N) → T i → List K → Type 0
  Spells i t ts = (n : ℕ) × spells_in n i t ts

  module _ (by_hand : Readers K T → Readers K T → Readers K T) where
    abbrev pub read_rank : Readers K T → ℕ → Readers K T
    read_rank later zero i ts = Stopped ts
    read_rank later (suc r) i ts =
        if names.own i then by_hand (λ j. read_rank later r j) later i ts else found_as (tree i) (read_form kind T room names.sets (names.rule i) (λ j. read_rank later r j) later ts)

    abbrev pub read_at : ℕ → Readers K T
    read_at zero i ts = Stopped ts
    read_at (suc n) i ts = read_rank (λ j. read_at n j) (suc (names.rank i)) i ts
