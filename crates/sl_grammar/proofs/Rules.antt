-- A grammar whose rules pass the test is read.
use Rattle.std.proofs.Common.{◌≡◌, ℕ, zero, suc, ◌<◌, ◌≤◌, List, [], ◌∷◌, length, refl, sym, subst, inl, inr, Bool, true, false, if◌then◌else◌, arith}
use Rattle.std.specs.Prelude.{ltb, max}
use Rattle.std.proofs.lemmas.Bool.{ltb-true}
use Rattle.std.proofs.Math.Nat.{le-max_left, le-max_right}
use Rattle.sl_grammar.specs.Phrase.{Found, IsRead}
use Rattle.sl_grammar.specs.Law.{Word, Law, Seen, Shape, found_as}
use Rattle.sl_grammar.specs.Many.{spells_many}
use Rattle.sl_grammar.specs.Grammar.{Form, Token, Nothing, Ref, Then, Either, Room, Many, has, subset, and, sets_of, ok, is, Val, spells_form, read_form, Chain, Gate, chain_room, step_on, has_word, Ahead, Without}
use Rattle.sl_grammar.specs.Steps.{spells_steps}
use Rattle.sl_grammar.specs.Rules.{Names, same, lead, lower, good, spells_in, Spells, Readers, none_own, read_rank, read_at}
use Rattle.sl_grammar.proofs.Laws.{seen_law}
use Rattle.sl_grammar.proofs.Unique.{same_read}
use Rattle.sl_grammar.proofs.Pieces.{seen_shape, weaker_law, empty_law}
use Rattle.sl_grammar.proofs.Grammar.{and_left, and_right, parts, subset_sound, same_shape, form_word, form_shape, form_law}

pub more_steps : {K Q S : Type 0} (link link' : Q → List K → Type 0) (room : S → Bool) (step : S → Q → S) → ((q : Q) (us : List K) → link q us → link' q us) → (s : S) (qs : List Q) (ts : List K) → spells_steps link room step s qs ts → spells_steps link' room step s qs ts
more_steps link link' room step h s [] ts w = w
more_steps link link' room step h s (q ∷ qs) ts (r, a, b, e, u, w) = (r, a, b, e, h q a u, more_steps link link' room step h (step s q) qs b w)

module _ {K N : Type 0} (kind : K → ℕ) (T : N → Type 0) (room : (i j : N) → T i → List (T j) → Bool) where
  -- more rules spell more
  module _ (s s' : (i : N) → T i → List K → Type 0) (h : (i : N) (t : T i) (ts : List K) → s i t ts → s' i t ts) where
    pub raise : (g : Form N) (v : Val kind T g) (ts : List K) → spells_form kind T room s g v ts → spells_form kind T room s' g v ts
    raise (Token ks) v ts w = w
    raise Nothing v ts w = w
    raise (Ref i) v ts w = h i v ts w
    raise (Then p q) v ts (a, b, e, u, w) = (a, b, e, raise p v.0 a u, raise q v.1 b w)
    raise (Either p q) (inl x) ts w = raise p x ts w
    raise (Either p q) (inr y) ts w = raise q y ts w
    raise (Room c p q) (inl x) ts w = (w.0, raise p x ts w.1)
    raise (Room c p q) (inr y) ts w = raise q y ts w
    raise (Chain c i j) v ts (a, b, e, u, w) = (a, b, e, h i v.0 a u, more_steps (s j) (s' j) (chain_room kind T room c i j) step_on (λ q us z. h j q us z) (v.0, []) v.1 b w)
    raise (Gate i p q) (x, inl y) ts (a, b, e, u, w) = (a, b, e, h i x a u, (w.0, raise p y b w.1))
    raise (Gate i p q) (x, inr y) ts (a, b, e, u, w) = (a, b, e, h i x a u, raise q y b w)
    raise (Many p) v ts w = each v ts w (raise p)
      where
        each : (v : List (Val kind T p)) (ts : List K) → spells_many (spells_form kind T room s p) v ts → ((x : Val kind T p) (ts : List K) → spells_form kind T room s p x ts → spells_form kind T room s' p x ts) → spells_many (spells_form kind T room s' p) v ts
        each [] ts w f = w
        each (x ∷ xs) ts (a, b, e, u, w) f = (a, b, e, f x a u, each xs b w f)
    raise (Ahead ks js p q) (inl x) ts (a, b, e, u, w) = (a, b, e, u, raise p x.1 b w)
    raise (Ahead ks js p q) (inr y) ts w = (w.0, raise q y ts w.1)
    raise (Without ks p) v ts w = (w.0, raise p v ts w.1)

  -- a family that grows with a number
  module _ (s : ℕ → (i : N) → T i → List K → Type 0) (grows : (m n : ℕ) → m ≤ n → (i : N) (t : T i) (ts : List K) → s m i t ts → s n i t ts) where
    abbrev Some : (i : N) → T i → List K → Type 0
    Some i t ts = (n : ℕ) × s n i t ts

    lift : (m n : ℕ) → m ≤ n → (g : Form N) (v : Val kind T g) (ts : List K) → spells_form kind T room (s m) g v ts → spells_form kind T room (s n) g v ts
    lift m n h g v ts w = raise (s m) (s n) (grows m n h) g v ts w

    -- all parts of a form at one number
    gather : (g : Form N) (v : Val kind T g) (ts : List K) → spells_form kind T room Some g v ts → (n : ℕ) × spells_form kind T room (s n) g v ts
    gather (Token ks) v ts w = (0, w)
    gather Nothing v ts w = (0, w)
    gather (Ref i) v ts w = w
    gather (Then p q) v ts (a, b, e, u, w) =
        let (m, x) = gather p v.0 a u in
        let (n, y) = gather q v.1 b w in
        (max m n, (a, b, e, lift m (max m n) (le-max_left m n) p v.0 a x, lift n (max m n) (le-max_right m n) q v.1 b y))
    gather (Either p q) (inl x) ts w = gather p x ts w
    gather (Either p q) (inr y) ts w = gather q y ts w
    gather (Room c p q) (inl x) ts w = let (n, y) = gather p x ts w.1 in (n, (w.0, y))
    gather (Room c p q) (inr y) ts w = gather q y ts w
    gather (Chain c i j) v ts (a, b, e, (m, u), w) =
        let (n, x) = links (v.0, []) v.1 b w in
        (max m n, (a, b, e, grows m (max m n) (le-max_left m n) i v.0 a u, later n (max m n) (le-max_right m n) (v.0, []) v.1 b x))
      where
        later : (m n : ℕ) → m ≤ n → (x : T i × List (T j)) (qs : List (T j)) (us : List K) → spells_steps (s m j) (chain_room kind T room c i j) step_on x qs us → spells_steps (s n j) (chain_room kind T room c i j) step_on x qs us
        later m n h x qs us w = more_steps (s m j) (s n j) (chain_room kind T room c i j) step_on (λ q us z. grows m n h j q us z) x qs us w

        links : (x : T i × List (T j)) (qs : List (T j)) (us : List K) → spells_steps (Some j) (chain_room kind T room c i j) step_on x qs us → (n : ℕ) × spells_steps (s n j) (chain_room kind T room c i j) step_on x qs us
        links x [] us w = (0, w)
        links x (q ∷ qs) us (r, a, b, e, (m, y), w) =
            let (n, z) = links (step_on x q) qs b w in
            (max m n, (r, a, b, e, grows m (max m n) (le-max_left m n) j q a y, later n (max m n) (le-max_right m n) (step_on x q) qs b z))
    gather (Gate i p q) (x, inl y) ts (a, b, e, (m, u), w) =
        let (n, z) = gather p y b w.1 in
        (max m n, (a, b, e, grows m (max m n) (le-max_left m n) i x a u, (w.0, lift n (max m n) (le-max_right m n) p y b z)))
    gather (Gate i p q) (x, inr y) ts (a, b, e, (m, u), w) =
        let (n, z) = gather q y b w in
        (max m n, (a, b, e, grows m (max m n) (le-max_left m n) i x a u, lift n (max m n) (le-max_right m n) q y b z))
    gather (Many p) v ts w = each v ts w (gather p)
      where
        raised : (m n : ℕ) → m ≤ n → (v : List (Val kind T p)) (ts : List K) → spells_many (spells_form kind T room (s m) p) v ts → spells_many (spells_form kind T room (s n) p) v ts
        raised m n h v ts w = lift m n h (Many p) v ts w

        each : (v : List (Val kind T p)) (ts : List K) → spells_many (spells_form kind T room Some p) v ts → ((x : Val kind T p) (ts : List K) → spells_form kind T room Some p x ts → (n : ℕ) × spells_form kind T room (s n) p x ts) → (n : ℕ) × spells_many (spells_form kind T room (s n) p) v ts
        each [] ts w f = (0, w)
        each (x ∷ xs) ts (a, b, e, u, w) f =
            let (m, y) = f x a u in
            let (n, z) = each xs b w f in
            (max m n, (a, b, e, lift m (max m n) (le-max_left m n) p x a y, raised n (max m n) (le-max_right m n) xs b z))
    gather (Ahead ks js p q) (inl x) ts (a, b, e, u, w) = let (n, y) = gather p x.1 b w in (n, (a, b, e, u, y))
    gather (Ahead ks js p q) (inr y) ts w = let (n, x) = gather q y ts w.1 in (n, (w.0, x))
    gather (Without ks p) v ts w = let (n, x) = gather p v ts w.1 in (n, (w.0, x))

module _ {K N : Type 0} (kind : K → ℕ) (sample : ℕ → K) (names : Names N) (T : N → Type 0) (room : (i j : N) → T i → List (T j) → Bool) (tree : (i : N) → Val kind T (names.rule i) → T i) where
  abbrev In : ℕ → (i : N) → T i → List K → Type 0
  In n i = spells_in kind names T room tree n i

  abbrev All : (i : N) → T i → List K → Type 0
  All = Spells kind names T room tree

  grows : (m n : ℕ) → m ≤ n → (i : N) (t : T i) (ts : List K) → In m i t ts → In n i t ts
  grows zero n h i t ts w = absurd w
  grows (suc m) zero h i t ts w = absurd (omega arith)
  grows (suc m) (suc n) h i t ts (v, e, w) = (v, e, raise kind T room (In m) (In n) (grows m n (omega arith)) (names.rule i) v ts w)

  -- a name spells what its rule does
  rule_seen : (i : N) → Seen (spells_form kind T room All (names.rule i)) (tree i) (All i)
  rule_seen i = record { to = to; back = back }
    where
      to : (v : Val kind T (names.rule i)) (ts : List K) → spells_form kind T room All (names.rule i) v ts → All i (tree i v) ts
      to v ts w = let (n, x) = gather kind T room In grows (names.rule i) v ts w in (suc n, (v, refl, x))

      back : (t : T i) (ts : List K) → All i t ts → (v : Val kind T (names.rule i)) × (tree i v ≡ t) × spells_form kind T room All (names.rule i) v ts
      back t ts (zero, w) = absurd w
      back t ts (suc n, (v, e, w)) = (v, e, raise kind T room (In n) All (λ j u us x. (n, x)) (names.rule i) v ts w)

module _ {K N : Type 0} (kind : K → ℕ) (sample : ℕ → K) (names : Names N) (T : N → Type 0) (room : (i j : N) → T i → List (T j) → Bool) (tree : (i : N) → Val kind T (names.rule i) → T i) (spells : (i : N) → T i → List K → Type 0) where
  abbrev Passes : (N → Bool) → Form N → Type 0
  Passes first g = ok kind sample names.sets names.valid first g ≡ true

  agree : (a b : Bool) → (a ≡ true → b ≡ true) → (b ≡ true → a ≡ true) → a ≡ b
  agree true b f g = sym (f refl)
  agree false true f g = g refl
  agree false false f g = refl

  same_is : (a b : Bool) → same a b ≡ true → a ≡ b
  same_is true true e = refl
  same_is true false e = absurd cc
  same_is false true e = absurd cc
  same_is false false e = refl

  abbrev Shaped : N → Type 0
  Shaped i = Shape (spells i) (is kind (names.sets i).first) (names.sets i).blank

  abbrev Lawful : (i : N) → (List K → Found K (T i)) → ℕ → Type 0
  Lawful i read n = Law (spells i) read (is kind (names.sets i).after) n

  -- what is owed of a name that is read in its own way
  pub record Own (by_hand : Readers K T → Readers K T → Readers K T) (i : N) : Type 0 where
    pub word : ((j : N) → lower kind sample names i j ≡ true → Word (spells j)) → Word (spells i)
    pub shape : ((j : N) → names.valid j ≡ true → Word (spells j)) → ((j : N) → lead kind sample names i j ≡ true → Shaped j) → Shaped i
    pub law : ((j : N) → names.valid j ≡ true → Shaped j) → (n : ℕ) (first later : Readers K T) → ((j : N) → lead kind sample names i j ≡ true → Lawful j (first j) (suc n)) → ((j : N) → names.valid j ≡ true → Lawful j (later j) n) → Lawful i (by_hand first later i) (suc n)

  -- what the test tells of a rule
  record Tested (i : N) : Type 0 where
    passed : Passes (lead kind sample names i) (names.rule i)
    worded : has_word (lower kind sample names i) (names.rule i) ≡ true
    first : (j : ℕ) → has (sets_of names.sets (names.rule i)).first j ≡ has (names.sets i).first j
    after : (j : ℕ) → has (sets_of names.sets (names.rule i)).after j ≡ true → has (names.sets i).after j ≡ true
    blank : (sets_of names.sets (names.rule i)).blank ≡ (names.sets i).blank

  tested : (i : N) → good kind sample names i ≡ true → Tested i
  tested i g =
      let s = sets_of names.sets (names.rule i) in
      let (a, b, c, d, e, f) = parts (ok kind sample names.sets names.valid (lead kind sample names i) (names.rule i)) (has_word (lower kind sample names i) (names.rule i)) (subset s.first (names.sets i).first) (subset (names.sets i).first s.first) (subset s.after (names.sets i).after) (same s.blank (names.sets i).blank) g in
      record {
        passed = a;
        worded = b;
        first = λ j. agree (has s.first j) (has (names.sets i).first j) (subset_sound s.first (names.sets i).first j c) (subset_sound (names.sets i).first s.first j d);
        after = λ j. subset_sound s.after (names.sets i).after j e;
        blank = same_is s.blank (names.sets i).blank f;
      }

  below : (f : N → ℕ) (i j : N) (h : ℕ) → f i < suc h → and (names.valid j) (ltb (f j) (f i)) ≡ true → f j < h
  below f i j h lt e = let u : f j < f i = ltb-true (f j) (f i) (and_right (names.valid j) (ltb (f j) (f i)) e) in omega arith

  is_valid : (f : N → ℕ) (i j : N) → and (names.valid j) (ltb (f j) (f i)) ≡ true → names.valid j ≡ true
  is_valid f i j e = and_left (names.valid j) (ltb (f j) (f i)) e

  module _ (by_hand : Readers K T → Readers K T → Readers K T) (seen : (i : N) → names.valid i ≡ true → names.own i ≡ false → Seen (spells_form kind T room spells (names.rule i)) (tree i) (spells i)) (check : (i : N) → names.valid i ≡ true → names.own i ≡ false → good kind sample names i ≡ true) (own : (i : N) → names.valid i ≡ true → names.own i ≡ true → Own by_hand i) where
    -- each name has a word
    words : (h : ℕ) (i : N) → names.valid i ≡ true → names.height i < h → Word (spells i)
    words zero i v lt = absurd (omega arith)
    words (suc h) i v lt = by (names.own i) refl (λ j l. words h j (is_valid names.height i j l) (below names.height i j h lt l))
      where
        by : (b : Bool) → names.own i ≡ b → ((j : N) → lower kind sample names i j ≡ true → Word (spells j)) → Word (spells i)
        by true o less = (own i v o).word less
        by false o less =
            let t = tested i (check i v o) in
            let (x, a, w) = form_word kind sample T room spells names.sets names.valid (lower kind sample names i) less (names.rule i) (lead kind sample names i) t.passed t.worded in
            (tree i x, a, (seen i v o).to x a w)

    pub word : (i : N) → names.valid i ≡ true → Word (spells i)
    word i v = words (suc (names.height i)) i v (omega arith)

    -- how each name begins
    shapes : (r : ℕ) (i : N) → names.valid i ≡ true → names.rank i < r → Shaped i
    shapes zero i v lt = absurd (omega arith)
    shapes (suc r) i v lt = by (names.own i) refl (λ j l. shapes r j (is_valid names.rank i j l) (below names.rank i j r lt l))
      where
        by : (b : Bool) → names.own i ≡ b → ((j : N) → lead kind sample names i j ≡ true → Shaped j) → Shaped i
        by true o less = (own i v o).shape word less
        by false o less =
            let t = tested i (check i v o) in
            subst (Shape (spells i) (is kind (names.sets i).first)) t.blank
            (same_shape (λ k. t.first (kind k)) (seen_shape (seen i v o) (form_shape kind sample T room spells names.sets names.valid word (lead kind sample names i) less (names.rule i) t.passed)))

    pub shape : (i : N) → names.valid i ≡ true → Shaped i
    shape i v = shapes (suc (names.rank i)) i v (omega arith)

    -- each name is read
    ranks : (n : ℕ) (later : Readers K T) → ((i : N) → names.valid i ≡ true → Lawful i (later i) n) → (r : ℕ) (i : N) → names.valid i ≡ true → names.rank i < r → Lawful i (read_rank kind names T room tree by_hand later r i) (suc n)
    ranks n later known zero i v lt = absurd (omega arith)
    ranks n later known (suc r) i v lt = by (names.own i) refl (λ j l. ranks n later known r j (is_valid names.rank i j l) (below names.rank i j r lt l))
      where
        by : (b : Bool) → names.own i ≡ b → ((j : N) → lead kind sample names i j ≡ true → Lawful j (read_rank kind names T room tree by_hand later r j) (suc n))
            → Lawful i (λ ts. if b then by_hand (λ j. read_rank kind names T room tree by_hand later r j) later i ts else found_as (tree i) (read_form kind T room names.sets (names.rule i) (λ j. read_rank kind names T room tree by_hand later r j) later ts)) (suc n)
        by true o h = (own i v o).law shape n (λ j. read_rank kind names T room tree by_hand later r j) later h known
        by false o h =
            let t = tested i (check i v o) in
            let form = form_law kind sample T room spells names.sets names.valid word shape (names.rule i) (lead kind sample names i) (λ j. read_rank kind names T room tree by_hand later r j) later (suc n) n (omega arith) (λ j l. is_valid names.rank i j l) t.passed h known in
            weaker_law (seen_law (spells_form kind T room spells (names.rule i)) (tree i) (spells i) (seen i v o) (read_form kind T room names.sets (names.rule i) (λ j. read_rank kind names T room tree by_hand later r j) later) (is kind (sets_of names.sets (names.rule i)).after) (suc n) form) (λ k. t.after (kind k))

    pub laws : (n : ℕ) (i : N) → names.valid i ≡ true → Lawful i (read_at kind names T room tree by_hand n i) n
    laws zero i v = empty_law
    laws (suc n) i v = ranks n (λ j. read_at kind names T room tree by_hand n j) (laws n) (suc (names.rank i)) i v (omega arith)

    -- with as much fuel as any list needs
    abbrev read_all : Readers K T
    read_all i ts = read_at kind names T room tree by_hand (suc (length ts)) i ts

    pub all_laws : (n : ℕ) (i : N) → names.valid i ≡ true → Lawful i (read_all i) n
    all_laws n i v = record { reads = λ ts lt. (laws (suc (length ts)) i v).reads ts (omega arith); goes = (laws n i v).goes; one = (laws n i v).one }

    -- any reader that obeys the law reads the same
    pub reads_same : (i : N) → names.valid i ≡ true → (ts : List K) (f : Found K (T i)) → IsRead (spells i) ts f → f ≡ read_all i ts
    reads_same i v ts f r = same_read (spells i) ts (laws (suc (length ts)) i v).one f (read_all i ts) r ((all_laws (suc (length ts)) i v).reads ts (omega arith))

    -- what a rule's reader does, with no fuel and no rank: what code that calls itself does
    pub rule_is : (i : N) → names.valid i ≡ true → names.own i ≡ false → (ts : List K) → found_as (tree i) (read_form kind T room names.sets (names.rule i) read_all read_all ts) ≡ read_all i ts
    rule_is i v o ts =
        let t = tested i (check i v o) in
        let form = form_law kind sample T room spells names.sets names.valid word shape (names.rule i) (lead kind sample names i) read_all read_all (suc (length ts)) (suc (length ts)) (omega arith) (λ j l. is_valid names.rank i j l) t.passed
        (λ j l. all_laws (suc (length ts)) j (is_valid names.rank i j l)) (all_laws (suc (length ts))) in
        let whole = seen_law (spells_form kind T room spells (names.rule i)) (tree i) (spells i) (seen i v o) (read_form kind T room names.sets (names.rule i) read_all read_all) (is kind (sets_of names.sets (names.rule i)).after) (suc (length ts)) form in
        reads_same i v ts (found_as (tree i) (read_form kind T room names.sets (names.rule i) read_all read_all ts)) (whole.reads ts (omega arith))

-- A grammar with no name of its own kind: each name spells what its rule does.
module _ {K N : Type 0} (kind : K → ℕ) (sample : ℕ → K) (names : Names N) (T : N → Type 0) (room : (i j : N) → T i → List (T j) → Bool) (tree : (i : N) → Val kind T (names.rule i) → T i) (none : (i : N) → names.own i ≡ false) (check : (i : N) → names.valid i ≡ true → good kind sample names i ≡ true) where
  abbrev read_word : Readers K T
  read_word i ts = read_at kind names T room tree (none_own T) (suc (length ts)) i ts

  rule_laws : (n : ℕ) (i : N) → names.valid i ≡ true → Law (Spells kind names T room tree i) (read_at kind names T room tree (none_own T) n i) (is kind (names.sets i).after) n
  rule_laws n i v = laws kind sample names T room tree (Spells kind names T room tree) (none_own T) (λ i v o. rule_seen kind sample names T room tree i) (λ i v o. check i v) (λ i v o. absurd (cc (o, none i))) n i v

  -- what is found is the longest front with which a word of that name begins, and a word exactly where that front is one
  pub grammar_reads : (i : N) → names.valid i ≡ true → (ts : List K) → IsRead (Spells kind names T room tree i) ts (read_word i ts)
  grammar_reads i v ts = (rule_laws (suc (length ts)) i v).reads ts (omega arith)

  -- a list spells at most one tree
  pub grammar_one : (i : N) → names.valid i ≡ true → (t u : T i) (ts : List K) → Spells kind names T room tree i t ts → Spells kind names T room tree i u ts → t ≡ u
  grammar_one i v t u ts w x = (rule_laws (suc (length ts)) i v).one t u ts (omega arith) w x

  -- any reader that obeys the law reads the same
  pub grammar_same : (i : N) → names.valid i ≡ true → (ts : List K) (f : Found K (T i)) → IsRead (Spells kind names T room tree i) ts f → f ≡ read_word i ts
  grammar_same i v ts f r = reads_same kind sample names T room tree (Spells kind names T room tree) (none_own T) (λ i v o. rule_seen kind sample names T room tree i) (λ i v o. check i v) (λ i v o. absurd (cc (o, none i))) i v ts f r

  -- what a rule's reader does, with no fuel and no rank
  pub grammar_is : (i : N) → names.valid i ≡ true → (ts : List K) → found_as (tree i) (read_form kind T room names.sets (names.rule i) read_word read_word ts) ≡ read_word i ts
  grammar_is i v ts = rule_is kind sample names T room tree (Spells kind names T room tree) (none_own T) (λ i v o. rule_seen kind sample names T room tree i) (λ i v o. check i v) (λ i v o. absurd (cc (o, none i))) i v (none i) ts
