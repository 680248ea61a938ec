-- A grammar as data: what its forms spell, how they are read, and a test of it that computes.
use Rattle.std.specs.Prelude.{◌≡◌, ℕ, List, [], ◌∷◌, ◌++◌, Bool, true, false, ◌⊎◌, if◌then◌else◌, eqb}
use Rattle.sl_grammar.specs.Phrase.{Found, spells_token, spells_both, spells_either, read_token, read_both, read_either}
use Rattle.sl_grammar.specs.Law.{Marks, spells_nothing, read_nothing, spells_then, read_then}
use Rattle.sl_grammar.specs.Steps.{spells_steps, read_all_steps}
use Rattle.sl_grammar.specs.Many.{spells_many, read_list}
use Rattle.sl_grammar.specs.Guard.{guard}
use Rattle.sl_grammar.specs.Ahead.{spells_ahead, read_ahead}
use Rattle.sl_grammar.specs.Without.{spells_without, read_without}

-- one of some kinds of token; nothing; what has a name; two forms, one after the other; the first form where its first token comes, or
-- else the second; the same, where there may be no room for the first; any number of times; what has a name, and any
-- number of what has another name, while there is room after what was read; what has a name, and then the first form where what was
-- read is open to it, or else the second; a token of some kinds and then the first form, where such a token and then one of the kinds that
-- begin that form come, or else the second form; the words of a form that begin with no token of these kinds
pub data Form (N : Type 0) : Type 0 where
  Token : List ℕ → Form N
  Nothing : Form N
  Ref : N → Form N
  Then : Form N → Form N → Form N
  Either : Form N → Form N → Form N
  Room : Bool → Form N → Form N → Form N
  Many : Form N → Form N
  Chain : Bool → N → N → Form N
  Gate : N → Form N → Form N → Form N
  Ahead : List ℕ → List ℕ → Form N → Form N → Form N
  Without : List ℕ → Form N → Form N

-- sets of kinds

abbrev pub has : List ℕ → ℕ → Bool
has [] j = false
has (x ∷ xs) j = if eqb x j then true else has xs j

-- the kinds of the first list that aren't in the second
abbrev pub less : List ℕ → List ℕ → List ℕ
less [] ys = []
less (x ∷ xs) ys = if has ys x then less xs ys else x ∷ less xs ys

abbrev pub disjoint : List ℕ → List ℕ → Bool
disjoint [] ys = true
disjoint (x ∷ xs) ys = if has ys x then false else disjoint xs ys

abbrev pub subset : List ℕ → List ℕ → Bool
subset [] ys = true
subset (x ∷ xs) ys = if has ys x then subset xs ys else false

-- which kinds begin a form, which may go on after it, whether it may be empty
pub record Sets : Type 0 where
  pub first : List ℕ
  pub after : List ℕ
  pub blank : Bool

abbrev pub and : Bool → Bool → Bool
and a b = if a then b else false

abbrev pub not : Bool → Bool
not a = if a then false else true

abbrev pub sets_of : {N : Type 0} → (N → Sets) → Form N → Sets
sets_of sets (Token ks) = record { first = ks; after = []; blank = false }
sets_of sets Nothing = record { first = []; after = []; blank = true }
sets_of sets (Ref i) = sets i
sets_of sets (Then p q) =
    let a = sets_of sets p in
    let b = sets_of sets q in
    record { first = if a.blank then a.first ++ b.first else a.first; after = if b.blank then a.after ++ b.after else b.after; blank = if a.blank then b.blank else false }
sets_of sets (Either p q) =
    let a = sets_of sets p in
    let b = sets_of sets q in
    record { first = a.first ++ b.first; after = if b.blank then a.first ++ (a.after ++ b.after) else a.after ++ b.after; blank = b.blank }
sets_of sets (Room c p q) =
    let a = sets_of sets p in
    let b = sets_of sets q in
    record { first = (if c then a.first else []) ++ b.first; after = if b.blank then a.first ++ (a.after ++ b.after) else a.after ++ b.after; blank = b.blank }
sets_of sets (Many p) =
    let a = sets_of sets p in
    record { first = a.first; after = a.first ++ a.after; blank = true }
sets_of sets (Chain c i j) = record { first = (sets i).first; after = (sets i).after ++ ((sets j).first ++ (sets j).after); blank = (sets i).blank }
sets_of sets (Gate i p q) =
    let a = sets_of sets p in
    let b = sets_of sets q in
    let both = if b.blank then a.first ++ (a.after ++ b.after) else a.after ++ b.after in
    record { first = (sets i).first; after = if b.blank then (sets i).after ++ both else both; blank = false }
sets_of sets (Ahead ks js p q) =
    let a = sets_of sets p in
    let b = sets_of sets q in
    record { first = b.first; after = js ++ (a.after ++ b.after); blank = false }
sets_of sets (Without ks p) =
    let a = sets_of sets p in
    record { first = less a.first ks; after = a.after; blank = false }

-- a form has a word that names none but these; of `Without`, which words are left isn't told by the names' words alone
abbrev pub has_word : {N : Type 0} → (N → Bool) → Form N → Bool
has_word known (Token ks) = true
has_word known Nothing = true
has_word known (Ref i) = known i
has_word known (Then p q) = and (has_word known p) (has_word known q)
has_word known (Either p q) = if has_word known p then true else has_word known q
has_word known (Room c p q) = has_word known q
has_word known (Many p) = true
has_word known (Chain c i j) = known i
has_word known (Gate i p q) = and (known i) (has_word known q)
has_word known (Ahead ks js p q) = has_word known p
has_word known (Without ks p) = false

-- there is a kind, and the first has a token
abbrev pub some_left : {K : Type 0} → (K → ℕ) → (ℕ → K) → List ℕ → Bool
some_left kind sample [] = false
some_left kind sample (k ∷ ks) = eqb k (kind (sample k))

-- the test: `lead` says which names may stand first, `valid` which may stand later, and `sample` has a token of each kind. Where a
-- form's word is needed before it is known how its names begin, the form passes `has_word` too.
abbrev pub ok : {K N : Type 0} → (K → ℕ) → (ℕ → K) → (N → Sets) → (N → Bool) → (N → Bool) → Form N → Bool
ok kind sample sets valid lead (Token []) = false
ok kind sample sets valid lead (Token (k ∷ ks)) = eqb k (kind (sample k))
ok kind sample sets valid lead Nothing = true
ok kind sample sets valid lead (Ref i) = lead i
ok kind sample sets valid lead (Then p q) =
    and (disjoint (sets_of sets p).after (sets_of sets q).first) (and (ok kind sample sets valid lead p) (if (sets_of sets p).blank then ok kind sample sets valid lead q else and (has_word valid q) (ok kind sample sets valid valid q)))
ok kind sample sets valid lead (Either p q) =
    and (not (sets_of sets p).blank) (and (disjoint (sets_of sets p).first (sets_of sets q).first) (and (ok kind sample sets valid lead p) (ok kind sample sets valid lead q)))
ok kind sample sets valid lead (Room c p q) =
    and (if c then and (not (sets_of sets p).blank) (ok kind sample sets valid lead p) else true) (and (disjoint (sets_of sets p).first (sets_of sets q).first) (ok kind sample sets valid lead q))
ok kind sample sets valid lead (Many p) =
    and (not (sets_of sets p).blank) (and (disjoint (sets_of sets p).after (sets_of sets p).first) (ok kind sample sets valid lead p))
ok kind sample sets valid lead (Chain c i j) =
    and (lead i) (and (not (sets i).blank) (and (disjoint (sets i).after (sets j).first) (and (disjoint (sets j).after (sets j).first) (if c then and (not (sets j).blank) (valid j) else true))))
ok kind sample sets valid lead (Gate i p q) =
    and (lead i) (and (not (sets i).blank) (and (disjoint (sets i).after ((sets_of sets p).first ++ (sets_of sets q).first)) (and (not (sets_of sets p).blank)
    (and (disjoint (sets_of sets p).first (sets_of sets q).first) (and (ok kind sample sets valid valid p) (and (has_word valid q) (ok kind sample sets valid valid q)))))))
ok kind sample sets valid lead (Ahead [] js p q) = false
ok kind sample sets valid lead (Ahead (k ∷ ks) js p q) =
    and (eqb k (kind (sample k))) (and (subset (k ∷ ks) (sets_of sets q).first) (and (subset js (sets_of sets p).first) (and (subset (sets_of sets p).first js)
    (and (and (not (sets_of sets p).blank) (and (has_word valid p) (ok kind sample sets valid valid p))) (and (not (sets_of sets q).blank) (ok kind sample sets valid lead q))))))
ok kind sample sets valid lead (Without ks p) =
    and (not (sets_of sets p).blank) (and (some_left kind sample (less (sets_of sets p).first ks)) (ok kind sample sets valid lead p))

abbrev pub step_on : {X Q : Type 0} → X × List Q → Q → X × List Q
step_on s q = (s.0, s.1 ++ q ∷ [])

module _ {K : Type 0} (kind : K → ℕ) where
  abbrev pub is : List ℕ → K → Bool
  is ks k = has ks (kind k)

  abbrev pub marks_of : Sets → Marks K
  marks_of s = record { first = is s.first; after = is s.after; blank = s.blank }

  module _ {N : Type 0} (T : N → Type 0) where
    abbrev pub Val : Form N → Type 0
    Val (Token ks) = K
    Val Nothing = Unit {0}
    Val (Ref i) = T i
    Val (Then p q) = Val p × Val q
    Val (Either p q) = Val p ⊎ Val q
    Val (Room c p q) = Val p ⊎ Val q
    Val (Many p) = List (Val p)
    Val (Chain c i j) = T i × List (T j)
    Val (Gate i p q) = T i × (Val p ⊎ Val q)
    Val (Ahead ks js p q) = (K × Val p) ⊎ Val q
    Val (Without ks p) = Val p

    -- there is always room
    abbrev pub always : (i j : N) → T i → List (T j) → Bool
    always i j x qs = true

    -- `room i j x qs`: there is room for one more j after x, which has the name i, and the links qs. A gate asks for `room i i x []`: x is
    -- open to what may come next.
    module _ (room : (i j : N) → T i → List (T j) → Bool) where
      abbrev pub chain_room : Bool → (i j : N) → T i × List (T j) → Bool
      chain_room c i j s = and c (room i j s.0 s.1)

      module _ (spells : (i : N) → T i → List K → Type 0) where
        abbrev pub spells_form : (g : Form N) → Val g → List K → Type 0
        spells_form (Token ks) x ts = spells_token (is ks) x ts
        spells_form Nothing x ts = spells_nothing x ts
        spells_form (Ref i) x ts = spells i x ts
        spells_form (Then p q) x ts = spells_both (spells_form p) (spells_form q) x ts
        spells_form (Either p q) x ts = spells_either (spells_form p) (spells_form q) x ts
        spells_form (Room c p q) x ts = spells_either (λ y us. (c ≡ true) × spells_form p y us) (spells_form q) x ts
        spells_form (Many p) x ts = spells_many (spells_form p) x ts
        spells_form (Chain c i j) x ts = spells_then (spells i) (λ y. spells_steps (spells j) (chain_room c i j) step_on (y, [])) x ts
        spells_form (Gate i p q) x ts = spells_then (spells i) (λ y. spells_either (λ z us. (room i i y [] ≡ true) × spells_form p z us) (spells_form q)) x ts
        spells_form (Ahead ks js p q) x ts = spells_ahead (is ks) (is js) (spells_form p) (spells_form q) x ts
        spells_form (Without ks p) x ts = spells_without (is ks) (spells_form p) x ts

      module _ (sets : N → Sets) where
        -- what has a name is read by the first reader where it stands first, and by the second later
        abbrev pub read_form : (g : Form N) → ((i : N) → List K → Found K (T i)) → ((i : N) → List K → Found K (T i)) → List K → Found K (Val g)
        read_form (Token ks) lead later ts = read_token (is ks) ts
        read_form Nothing lead later ts = read_nothing ts
        read_form (Ref i) lead later ts = lead i ts
        read_form (Then p q) lead later ts = read_both (read_form p lead later) (if (sets_of sets p).blank then read_form q lead later else read_form q later later) ts
        read_form (Either p q) lead later ts = read_either (is (sets_of sets p).first) (read_form p lead later) (read_form q lead later) ts
        read_form (Room c p q) lead later ts = read_either (guard c (is (sets_of sets p).first)) (read_form p lead later) (read_form q lead later) ts
        read_form (Many p) lead later ts = read_list (is (sets_of sets p).first) (read_form p lead later) ts
        read_form (Chain c i j) lead later ts = read_then (lead i) (λ y. read_all_steps (is (sets j).first) (later j) (chain_room c i j) step_on (y, [])) ts
        read_form (Gate i p q) lead later ts = read_then (lead i) (λ y. read_either (guard (room i i y []) (is (sets_of sets p).first)) (read_form p later later) (read_form q later later)) ts
        read_form (Ahead ks js p q) lead later ts = read_ahead (is ks) (is js) (read_form p later later) (read_form q lead later) ts
        read_form (Without ks p) lead later ts = read_without (is ks) (read_form p lead later) ts
