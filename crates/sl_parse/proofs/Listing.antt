-- What is listed, as the code reads it: a loop that adds one behind each token that goes on.
use Rattle.std.proofs.Common.{◌≡◌, ℕ, zero, suc, ◌≤◌, List, [], ◌∷◌, ◌++◌, length, map, refl, sym, ap, ◌∙◌, inl, inr, ◌⊎◌, Bool, true, false, if◌then◌else◌, arith, append_assoc}
use Rattle.std.proofs.lemmas.List.{append-nil}
use Rattle.sl_text.specs.declared.token.Token.{Token as TokenOf}
use Rattle.sl_text.specs.declared.fault.Fault.{Fault}
use Rattle.sl_grammar.specs.Phrase.{Found, Done, Stopped, found_then, left_of, read_both, read_token}
use Rattle.sl_grammar.specs.Law.{found_as}
use Rattle.sl_grammar.specs.Many.{read_list}
use Rattle.sl_grammar.specs.Grammar.{Form, Ref, Then, Many, Val, is, has, disjoint}
use Rattle.sl_grammar.specs.Growing.{folded, grow, grown}
use Rattle.sl_grammar.proofs.Grammar.{disjoint_sound}
use Rattle.sl_grammar.proofs.Growing.{found_as_as, many_grown, shrinks_read}
use Rattle.sl_tree.specs.Sorts.{Spelled, sort, at_sign, separator}
use Rattle.sl_tree.specs.declared.tree.Note.{Note}
use Rattle.sl_tree.specs.declared.tree.Import.{Import}
use Rattle.sl_tree.specs.declared.tree.Decl.{Decl}
use Rattle.sl_parse_expr.specs.Grammar.{after_kinds}
use Rattle.sl_parse_expr.specs.Told.{head_sort}
use Rattle.sl_parse_expr.proofs.Telling.{Shrinks, Keeps, token_shrinks, both_shrinks, both_go, both_done, as_done, loop_ends, loop_stops, loop_goes}
use Rattle.sl_parse.specs.Names.{Name, Note_of, Notes, Item, T, listed, closed}
use Rattle.sl_parse.specs.Values.{T_of, tree_of, firsts, imports_in, decls_in}
use Rattle.sl_parse.specs.Grammar.{Bound, Limited, Unlimited, limit_of, sets_at, spells, read}
use Rattle.sl_parse.specs.Told.{bare, found_tree, reads, Faults, items_form, items_view}
use Rattle.sl_parse.proofs.Laws.{reads_tree, form_shape}
use Rattle.sl_parse.proofs.Telling.{fault_follows, fault_halts, fault_first, fault_second, fault_as, quiet_token, keeps_form, then_reads, tree_in, tree_rule}

-- a reader leaves no more than it was given
abbrev pub LeavesLess : {X : Type 0} → (List Spelled → Found Spelled X) → Type 0
LeavesLess read = (ts : List Spelled) → length (left_of (read ts)) ≤ length ts

leaves_keeps : {X : Type 0} (read : List Spelled → Found Spelled X) → LeavesLess read → Keeps read
leaves_keeps read less ts x rest e = omega (arith, less ts, ap (λ f. length (left_of f)) e)

token_leaves : (passes : Spelled → Bool) → LeavesLess (read_token passes)
token_leaves passes [] = omega arith
token_leaves passes (k ∷ ts) = by (passes k)
  where
    by : (b : Bool) → length (left_of (if b then Done k ts else Stopped (k ∷ ts))) ≤ length (k ∷ ts)
    by true = omega arith
    by false = omega arith

both_leaves : {X Y : Type 0} (l : List Spelled → Found Spelled X) (m : List Spelled → Found Spelled Y) → LeavesLess l → LeavesLess m → LeavesLess (read_both l m)
both_leaves {X} {Y} l m a b ts = by (l ts) (a ts)
  where
    last : (x : X) (f : Found Spelled Y) → left_of (found_then {Y = X × Y} f (λ y left. Done (x, y) left)) ≡ left_of f
    last x (Done y left) = refl
    last x (Stopped left) = refl

    by : (f : Found Spelled X) → length (left_of f) ≤ length ts → length (left_of (found_then {Y = X × Y} f (λ x rest. found_then (m rest) (λ y left. Done (x, y) left)))) ≤ length ts
    by (Done x rest) le = omega (arith, b rest, ap length (last x (m rest)))
    by (Stopped rest) le = le

as_leaves : {X Y : Type 0} (view : X → Y) (read : List Spelled → Found Spelled X) → LeavesLess read → LeavesLess (λ ts. found_as view (read ts))
as_leaves {X} view read less ts = by (read ts) (less ts)
  where
    by : (f : Found Spelled X) → length (left_of f) ≤ length ts → length (left_of (found_as view f)) ≤ length ts
    by (Done x rest) le = le
    by (Stopped rest) le = le

-- the tree of a name
pub tree_leaves : (b : Bound) (n : Name) → LeavesLess (found_tree b n)
unfolding found_tree reads
tree_leaves b n = as_leaves bare (reads b (Ref n)) (keeps_form b (Ref n) refl)

-- a token comes that the reader takes
comes_of : (ks : List ℕ) (ts more : List Spelled) (k : Spelled) → read_token (is sort ks) ts ≡ Done k more → has ks (head_sort ts) ≡ true
comes_of ks [] more k e = absurd cc
comes_of ks (j ∷ ts) more k e = by (has ks (sort j)) refl e
  where
    by : (b : Bool) → has ks (sort j) ≡ b → (if b then Done j ts else Stopped (j ∷ ts)) ≡ Done k more → has ks (sort j) ≡ true
    by true h e = h
    by false h e = absurd cc

apart : (ks : List ℕ) (j : ℕ) → disjoint after_kinds ks ≡ true → has after_kinds j ≡ true → has ks j ≡ false
apart ks j d h = by (has ks j) refl
  where
    by : (b : Bool) → has ks j ≡ b → has ks j ≡ false
    by true e = absurd (disjoint_sound after_kinds ks j d h e)
    by false e = e

-- loops
module _ {X Q : Type 0} (ks : List ℕ) (open_to : X → Bool) (step : X → Q → X) where
  -- no more is left than was given
  pub loop_leaves : (read : List Spelled → Found Spelled Q) → LeavesLess read → (x : X) → LeavesLess (grown (is sort ks) open_to read step x)
  unfolding grown
  loop_leaves read less x ts = go (suc (length ts)) x ts
    where
      go : (m : ℕ) (x : X) (ts : List Spelled) → length (left_of (grow (is sort ks) open_to read step m x ts)) ≤ length ts
      go zero x ts = omega arith
      go (suc m) x [] = omega arith
      go (suc m) x (k ∷ us) = by (λ y rest. go m y rest) (open_to x) (has ks (sort k)) (read (k ∷ us)) (less (k ∷ us))
        where
          by : ((y : X) (rest : List Spelled) → length (left_of (grow (is sort ks) open_to read step m y rest)) ≤ length rest)
              → (b c : Bool) (f : Found Spelled Q) → length (left_of f) ≤ length (k ∷ us)
              → length (left_of (if b then (if c then found_then f (λ q rest. grow (is sort ks) open_to read step m (step x q) rest) else Done x (k ∷ us)) else Done x (k ∷ us)))
              ≤ length (k ∷ us)
          by next true true (Done q rest) le = omega (arith, next (step x q) rest)
          by next true true (Stopped rest) le = le
          by next true false f le = omega arith
          by next false c f le = omega arith

module _ {X Q : Type 0} (file : ℕ) (bytes : List ℕ) (tokens : List TokenOf) (ks : List ℕ) (open_to : X → Bool) (step : X → Q → X) (item : Bound → List Spelled → Found Spelled Q)
    (x : X) (ts : List Spelled) (e : Fault) (none : has ks 99 ≡ false) (comes : has ks (head_sort ts) ≡ true) (opens : open_to x ≡ true) where
  -- one more is at fault
  pub loop_faults : ((b : Bound) → Shrinks (item b)) → ((b : Bound) → LeavesLess (item b)) → disjoint after_kinds ks ≡ true
      → Faults file bytes tokens (λ b. item b ts) e → Faults file bytes tokens (λ b. grown (is sort ks) open_to (item b) step x ts) e
  loop_faults shrinks less d h =
      fault_follows file bytes tokens (λ b. item b ts) (λ b. grown (is sort ks) open_to (item b) step x ts) e
      (record {
        stops = λ b rest r. loop_stops ks open_to (item b) step x ts rest none comes opens r;
        stays = λ q rest r a.
            ap left_of (loop_goes ks open_to (item Limited) step (shrinks Limited) x ts q rest none comes opens r
            ∙ loop_ends ks open_to (item Limited) step (step x q) rest (apart ks (head_sort rest) d a));
        goes = λ q rest r.
            let same = loop_goes ks open_to (item Unlimited) step (shrinks Unlimited) x ts q rest none comes opens r in
            omega (arith, ap (λ f. length (left_of f)) same, loop_leaves ks open_to step (item Unlimited) (less Unlimited) (step x q) rest);
      }) h

  -- where both languages find the same
  pub loop_alone : item Limited ts ≡ item Unlimited ts → Faults file bytes tokens (λ b. item b ts) e → Faults file bytes tokens (λ b. grown (is sort ks) open_to (item b) step x ts) e
  loop_alone same h =
      fault_halts file bytes tokens (λ b. item b ts) (λ b. grown (is sort ks) open_to (item b) step x ts) e same
      (λ b rest r. loop_stops ks open_to (item b) step x ts rest none comes opens r) h

-- one more, seen as something else
module _ {X P Q : Type 0} (ks : List ℕ) (read : List Spelled → Found Spelled P) (again : List Spelled → Found Spelled Q) (view : P → Q)
    (same : (ts : List Spelled) → again ts ≡ found_as view (read ts)) (step : X → Q → X) where
  viewed_grow : (m : ℕ) (x : X) (ts : List Spelled) → grow (is sort ks) (λ x. true) read (λ x p. step x (view p)) m x ts ≡ grow (is sort ks) (λ x. true) again step m x ts
  viewed_grow zero x ts = refl
  viewed_grow (suc m) x [] = refl
  viewed_grow (suc m) x (k ∷ us) = by (λ y rest. viewed_grow m y rest) (has ks (sort k)) (read (k ∷ us)) (again (k ∷ us)) (same (k ∷ us))
    where
      by : ((y : X) (rest : List Spelled) → grow (is sort ks) (λ x. true) read (λ x p. step x (view p)) m y rest ≡ grow (is sort ks) (λ x. true) again step m y rest)
          → (b : Bool) (f : Found Spelled P) (g : Found Spelled Q) → g ≡ found_as view f
          → (if b then found_then f (λ p rest. grow (is sort ks) (λ x. true) read (λ x p. step x (view p)) m (step x (view p)) rest) else Done x (k ∷ us))
          ≡ (if b then found_then g (λ q rest. grow (is sort ks) (λ x. true) again step m (step x q) rest) else Done x (k ∷ us))
      by next true (Done p rest) g e =
          next (step x (view p)) rest ∙ ap (λ f. found_then f (λ q rest. grow (is sort ks) (λ x. true) again step m (step x q) rest)) (sym e)
      by next true (Stopped rest) g e = ap (λ f. found_then f (λ q rest. grow (is sort ks) (λ x. true) again step m (step x q) rest)) (sym e)
      by next false f g e = refl

  -- any number of them
  pub many_viewed : (x : X) (ts : List Spelled) → found_as (λ ps. folded (λ x p. step x (view p)) x ps) (read_list (is sort ks) read ts) ≡ grown (is sort ks) (λ x. true) again step x ts
  unfolding grown
  many_viewed x ts = many_grown (is sort ks) read (λ x p. step x (view p)) x ts ∙ viewed_grow (suc (length ts)) x ts

-- Rounds: each is a token that goes on and one behind it, which makes a step.

abbrev round : {Q : Type 0} → List ℕ → (List Spelled → Found Spelled Q) → List Spelled → Found Spelled (Spelled × Q)
round sorts item ts = read_both (read_token (is sort sorts)) item ts

unfoldable pub rounds_from : {X Q : Type 0} → List ℕ → (List Spelled → Found Spelled Q) → (X → Q → X) → X → List Spelled → Found Spelled X
rounds_from sorts item step x ts = grown (is sort sorts) (λ x. true) (round sorts item) (λ x q. step x q.1) x ts

module _ {X Q : Type 0} (sorts : List ℕ) (step : X → Q → X) where
  pub rounds_leave : (item : List Spelled → Found Spelled Q) → LeavesLess item → (x : X) → LeavesLess (rounds_from sorts item step x)
  unfolding rounds_from
  rounds_leave item less x ts =
      loop_leaves sorts (λ x. true) (λ x q. step x q.1) (round sorts item)
      (both_leaves (read_token (is sort sorts)) item (token_leaves (is sort sorts)) less) x ts

  -- another token comes
  pub rounds_ends : (item : List Spelled → Found Spelled Q) (x : X) (ts : List Spelled) → has sorts (head_sort ts) ≡ false → rounds_from sorts item step x ts ≡ Done x ts
  unfolding rounds_from
  rounds_ends item x ts h = loop_ends sorts (λ x. true) (round sorts item) (λ x q. step x q.1) x ts h

  pub rounds_goes : (item : List Spelled → Found Spelled Q) (x : X) (ts mid rest : List Spelled) (k : Spelled) (q : Q) → LeavesLess item → has sorts 99 ≡ false
      → read_token (is sort sorts) ts ≡ Done k mid → item mid ≡ Done q rest → rounds_from sorts item step x ts ≡ rounds_from sorts item step (step x q) rest
  unfolding rounds_from
  rounds_goes item x ts mid rest k q less none d r =
      loop_goes sorts (λ x. true) (round sorts item) (λ x q. step x q.1)
      (both_shrinks (read_token (is sort sorts)) item (token_shrinks (is sort sorts)) (leaves_keeps item less))
      x ts (k, q) rest none (comes_of sorts ts mid k d) refl (both_done (read_token (is sort sorts)) item ts k mid q rest d r)

  -- of as many as come
  pub rounds_is : {V : Type 0} (read : List Spelled → Found Spelled V) (view : V → Q) (x : X) (ts : List Spelled)
      → found_as (λ more. folded (λ x y. step x (view y.1)) x more) (read_list (is sort sorts) (read_both (read_token (is sort sorts)) read) ts) ≡ rounds_from sorts (λ us. found_as view (read us)) step x ts
  unfolding rounds_from
  rounds_is {V} read view x ts =
      many_viewed sorts (read_both (read_token (is sort sorts)) read) (round sorts (λ us. found_as view (read us)))
      (λ y. (y.0, view y.1)) same (λ x q. step x q.1) x ts
    where
      last : (k : Spelled) (f : Found Spelled V)
          → found_then {Y = Spelled × Q} (found_as view f) (λ y left. Done (k, y) left)
          ≡ found_as (λ y. (y.0, view y.1)) (found_then {Y = Spelled × V} f (λ y left. Done (k, y) left))
      last k (Done y left) = refl
      last k (Stopped left) = refl

      same : (us : List Spelled) → round sorts (λ us. found_as view (read us)) us ≡ found_as (λ y. (y.0, view y.1)) (read_both (read_token (is sort sorts)) read us)
      same us = by (read_token (is sort sorts) us)
        where
          by : (f : Found Spelled Spelled)
              → found_then {Y = Spelled × Q} f (λ k rest. found_then (found_as view (read rest)) (λ y left. Done (k, y) left))
              ≡ found_as (λ y. (y.0, view y.1)) (found_then {Y = Spelled × V} f (λ k rest. found_then (read rest) (λ y left. Done (k, y) left)))
          by (Done k rest) = last k (read rest)
          by (Stopped rest) = refl

module _ {X Q : Type 0} (file : ℕ) (bytes : List ℕ) (tokens : List TokenOf) (sorts : List ℕ) (step : X → Q → X) (item : Bound → List Spelled → Found Spelled Q)
    (x : X) (ts mid : List Spelled) (k : Spelled) (e : Fault) where
  -- the one of a round is at fault
  round_fault : read_token (is sort sorts) ts ≡ Done k mid → Faults file bytes tokens (λ b. item b mid) e → Faults file bytes tokens (λ b. round sorts (item b) ts) e
  round_fault taken h = fault_second file bytes tokens (λ b. read_token (is sort sorts)) item ts k mid e (λ b. taken) h

  pub rounds_faults : ((b : Bound) → LeavesLess (item b)) → disjoint after_kinds sorts ≡ true → has sorts 99 ≡ false → read_token (is sort sorts) ts ≡ Done k mid
      → Faults file bytes tokens (λ b. item b mid) e → Faults file bytes tokens (λ b. rounds_from sorts (item b) step x ts) e
  unfolding rounds_from
  rounds_faults less d none taken h =
      loop_faults file bytes tokens sorts (λ x. true) (λ x q. step x q.1) (λ b. round sorts (item b)) x ts e none (comes_of sorts ts mid k taken) refl
      (λ b. both_shrinks (read_token (is sort sorts)) (item b) (token_shrinks (is sort sorts)) (leaves_keeps (item b) (less b)))
      (λ b. both_leaves (read_token (is sort sorts)) (item b) (token_leaves (is sort sorts)) (less b)) d (round_fault taken h)

  -- where both languages find the same
  pub rounds_alone : item Limited mid ≡ item Unlimited mid → has sorts 99 ≡ false → read_token (is sort sorts) ts ≡ Done k mid
      → Faults file bytes tokens (λ b. item b mid) e → Faults file bytes tokens (λ b. rounds_from sorts (item b) step x ts) e
  unfolding rounds_from
  rounds_alone same none taken h =
      loop_alone file bytes tokens sorts (λ x. true) (λ x q. step x q.1) (λ b. round sorts (item b)) x ts e none (comes_of sorts ts mid k taken) refl
      (both_go (read_token (is sort sorts)) (item Limited) ts k mid taken
      ∙ (ap (found_as (λ y. (k, y))) same ∙ sym (both_go (read_token (is sort sorts)) (item Unlimited) ts k mid taken)))
      (round_fault taken h)

-- Rounds that add one each to a list.

abbrev pub with_one : {X : Type 0} → List X → X → List X
with_one xs x = xs ++ x ∷ []

-- so many were read, and more behind
unfoldable pub more_from : {X : Type 0} → List ℕ → (List Spelled → Found Spelled X) → List X → List Spelled → Found Spelled (List X)
more_from sorts item xs ts = rounds_from sorts item with_one xs ts

with_all : {V X : Type 0} (view : V → X) (xs : List X) (more : List V) → folded (λ xs y. xs ++ view y ∷ []) xs more ≡ xs ++ map view more
with_all view xs [] = sym (append-nil xs)
with_all view xs (y ∷ more) = with_all view (xs ++ view y ∷ []) more ∙ append_assoc xs (view y ∷ []) (map view more)

module _ {X : Type 0} (sorts : List ℕ) where
  pub more_leaves : (item : List Spelled → Found Spelled X) → LeavesLess item → (xs : List X) → LeavesLess (more_from sorts item xs)
  unfolding more_from
  more_leaves item less xs ts = rounds_leave sorts with_one item less xs ts

  pub more_is : {V : Type 0} (read : List Spelled → Found Spelled V) (view : V → X) (xs : List X) (ts : List Spelled)
      → found_as (λ more. xs ++ map (λ y. view y.1) more) (read_list (is sort sorts) (read_both (read_token (is sort sorts)) read) ts) ≡ more_from sorts (λ us. found_as view (read us)) xs ts
  unfolding more_from
  more_is {V} read view xs ts = same (read_list (is sort sorts) (read_both (read_token (is sort sorts)) read) ts) ∙ rounds_is sorts with_one read view xs ts
    where
      same : (f : Found Spelled (List (Spelled × V))) → found_as (λ more. xs ++ map (λ y. view y.1) more) f ≡ found_as (λ more. folded (λ x y. with_one x (view y.1)) xs more) f
      same (Done more left) = ap (λ v. Done v left) (sym (with_all (λ y. view y.1) xs more))
      same (Stopped left) = refl

  pub more_ends : (item : List Spelled → Found Spelled X) (xs : List X) (ts : List Spelled) → has sorts (head_sort ts) ≡ false → more_from sorts item xs ts ≡ Done xs ts
  unfolding more_from
  more_ends item xs ts h = rounds_ends sorts with_one item xs ts h

  pub more_goes : (item : List Spelled → Found Spelled X) (xs : List X) (ts mid rest : List Spelled) (k : Spelled) (x : X) → LeavesLess item → has sorts 99 ≡ false
      → read_token (is sort sorts) ts ≡ Done k mid → item mid ≡ Done x rest → more_from sorts item xs ts ≡ more_from sorts item (xs ++ x ∷ []) rest
  unfolding more_from
  more_goes item xs ts mid rest k x less none d r = rounds_goes sorts with_one item xs ts mid rest k x less none d r

module _ {X : Type 0} (file : ℕ) (bytes : List ℕ) (tokens : List TokenOf) (sorts : List ℕ) (item : Bound → List Spelled → Found Spelled X) (xs : List X) (ts mid : List Spelled) (k : Spelled) (e : Fault) where
  pub more_faults : ((b : Bound) → LeavesLess (item b)) → disjoint after_kinds sorts ≡ true → has sorts 99 ≡ false → read_token (is sort sorts) ts ≡ Done k mid
      → Faults file bytes tokens (λ b. item b mid) e → Faults file bytes tokens (λ b. more_from sorts (item b) xs ts) e
  unfolding more_from
  more_faults less d none taken h = rounds_faults file bytes tokens sorts with_one item xs ts mid k e less d none taken h

  -- where both languages find the same
  pub more_alone : item Limited mid ≡ item Unlimited mid → has sorts 99 ≡ false → read_token (is sort sorts) ts ≡ Done k mid
      → Faults file bytes tokens (λ b. item b mid) e → Faults file bytes tokens (λ b. more_from sorts (item b) xs ts) e
  unfolding more_from
  more_alone same none taken h = rounds_alone file bytes tokens sorts with_one item xs ts mid k e same none taken h

-- the same, with a token behind that closes them

abbrev inner : {X : Type 0} → List X × Spelled → List X
inner v = v.0

abbrev shut : ℕ → List Spelled → Found Spelled Spelled
shut close ts = read_token (is sort (close ∷ [])) ts

unfoldable pub closed_from : {X : Type 0} → List ℕ → ℕ → (List Spelled → Found Spelled X) → List X → List Spelled → Found Spelled (List X)
closed_from sorts close item xs ts = found_as inner (read_both (more_from sorts item xs) (shut close) ts)

module _ {X : Type 0} (sorts : List ℕ) (close : ℕ) (item : List Spelled → Found Spelled X) where
  pub closed_ends : (xs : List X) (ts rest : List Spelled) (k : Spelled) → has sorts (head_sort ts) ≡ false → read_token (is sort (close ∷ [])) ts ≡ Done k rest
      → closed_from sorts close item xs ts ≡ Done xs rest
  unfolding closed_from
  closed_ends xs ts rest k h d = ap (found_as inner) (both_done (more_from sorts item xs) (shut close) ts xs ts k rest (more_ends sorts item xs ts h) d)

  pub closed_goes : (xs : List X) (ts mid rest : List Spelled) (k : Spelled) (x : X) → LeavesLess item → has sorts 99 ≡ false
      → read_token (is sort sorts) ts ≡ Done k mid → item mid ≡ Done x rest → closed_from sorts close item xs ts ≡ closed_from sorts close item (xs ++ x ∷ []) rest
  unfolding closed_from
  closed_goes xs ts mid rest k x less none d r =
      ap (λ f. found_as inner (found_then {Y = List X × Spelled} f (λ x rest. found_then (shut close rest) (λ y left. Done (x, y) left))))
      (more_goes sorts item xs ts mid rest k x less none d r)

module _ {X : Type 0} (file : ℕ) (bytes : List ℕ) (tokens : List TokenOf) (sorts : List ℕ) (close : ℕ) (item : Bound → List Spelled → Found Spelled X) (xs : List X) (ts : List Spelled) where
  -- where all and the token that closes them are at fault
  closed_whole : (e : Fault) → Faults file bytes tokens (λ b. read_both (more_from sorts (item b) xs) (shut close) ts) e → Faults file bytes tokens (λ b. closed_from sorts close (item b) xs ts) e
  unfolding closed_from
  closed_whole e h = fault_as file bytes tokens inner (λ b. read_both (more_from sorts (item b) xs) (shut close) ts) e h

  -- another token stands where one closes them
  pub closed_unclosed : (e : Fault) → has sorts (head_sort ts) ≡ false → Faults file bytes tokens (λ b. read_token (is sort (close ∷ [])) ts) e → Faults file bytes tokens (λ b. closed_from sorts close (item b) xs ts) e
  closed_unclosed e h f =
      closed_whole e (fault_second file bytes tokens (λ b. more_from sorts (item b) xs) (λ b. shut close) ts xs ts e (λ b. more_ends sorts (item b) xs ts h) f)

  module _ (mid : List Spelled) (k : Spelled) (e : Fault) where
    pub closed_faults : ((b : Bound) → LeavesLess (item b)) → disjoint after_kinds sorts ≡ true → disjoint after_kinds (close ∷ []) ≡ true → has sorts 99 ≡ false → read_token (is sort sorts) ts ≡ Done k mid
        → Faults file bytes tokens (λ b. item b mid) e → Faults file bytes tokens (λ b. closed_from sorts close (item b) xs ts) e
    closed_faults less d c none taken h =
        closed_whole e
        (fault_first file bytes tokens (λ b. more_from sorts (item b) xs) (λ b. shut close) ts e (quiet_token (close ∷ []) c)
        (more_faults file bytes tokens sorts item xs ts mid k e less d none taken h))

    -- where both languages find the same
    pub closed_alone : item Limited mid ≡ item Unlimited mid → disjoint after_kinds (close ∷ []) ≡ true → has sorts 99 ≡ false → read_token (is sort sorts) ts ≡ Done k mid
        → Faults file bytes tokens (λ b. item b mid) e → Faults file bytes tokens (λ b. closed_from sorts close (item b) xs ts) e
    closed_alone same c none taken h =
        closed_whole e
        (fault_first file bytes tokens (λ b. more_from sorts (item b) xs) (λ b. shut close) ts e (quiet_token (close ∷ []) c)
        (more_alone file bytes tokens sorts item xs ts mid k e same none taken h))

-- The first, and the loop behind it: `listed` and `closed` forms.

abbrev pub listed_in : {X : Type 0} (p : Form Name) → (Val sort T_of p → X) → (sorts : List ℕ) → Val sort T_of (listed sorts p) → List X
listed_in p view sorts w = view w.0 ∷ map (λ y. view y.1) w.1

abbrev pub closed_in : {X : Type 0} (p : Form Name) → (Val sort T_of p → X) → (sorts : List ℕ) (close : ℕ) → Val sort T_of (closed sorts p close) → List X
closed_in p view sorts close w = view w.0 ∷ map (λ y. view y.1) w.1.0

module _ {X : Type 0} (b : Bound) (p : Form Name) (view : Val sort T_of p → X) (sorts : List ℕ) where
  abbrev Pairs : Type 0
  Pairs = List (Spelled × Val sort T_of p)

  abbrev more_form : Form Name
  more_form = Many (Then (T sorts) p)

  abbrev behind_form : ℕ → Form Name
  behind_form close = Then more_form (T (close ∷ []))

  -- any number of rounds, as the form has them
  more_reads : (xs : List X) (ts : List Spelled) → found_as (λ more. xs ++ map (λ y. view y.1) more) (reads b more_form ts) ≡ more_from sorts (λ us. found_as view (reads b p us)) xs ts
  unfolding reads
  more_reads xs ts = more_is sorts (reads b p) view xs ts

  pub listed_begins : (v : Val sort T_of p) (ts rest : List Spelled) → reads b p ts ≡ Done v rest
      → found_as (listed_in p view sorts) (reads b (listed sorts p) ts) ≡ more_from sorts (λ us. found_as view (reads b p us)) (view v ∷ []) rest
  listed_begins v ts rest e =
      let pair : Pairs → Val sort T_of p × Pairs = λ more. (v, more) in
      ap (found_as (listed_in p view sorts)) (then_reads b p more_form ts ∙ both_go (reads b p) (reads b more_form) ts v rest e)
      ∙ (found_as_as (listed_in p view sorts) pair (reads b more_form rest) ∙ more_reads (view v ∷ []) rest)

  pub closed_begins : (close : ℕ) (v : Val sort T_of p) (ts rest : List Spelled) → reads b p ts ≡ Done v rest
      → found_as (closed_in p view sorts close) (reads b (closed sorts p close) ts) ≡ closed_from sorts close (λ us. found_as view (reads b p us)) (view v ∷ []) rest
  unfolding closed_from reads
  closed_begins close v ts rest e =
      let pair : Pairs × Spelled → Val sort T_of p × (Pairs × Spelled) = λ more. (v, more) in
      ap (found_as (closed_in p view sorts close)) (then_reads b p (behind_form close) ts ∙ both_go (reads b p) (reads b (behind_form close)) ts v rest e)
      ∙ (found_as_as (closed_in p view sorts close) pair (reads b (behind_form close) rest)
      ∙ (ap (found_as (λ more. closed_in p view sorts close (pair more))) (then_reads b more_form (T (close ∷ [])) rest)
      ∙ (same (reads b more_form rest)
      ∙ ap (λ f. found_as inner (found_then {Y = List X × Spelled} f (λ xs left. found_then (shut close left) (λ k after. Done (xs, k) after))))
      (more_reads (view v ∷ []) rest))))
    where
      all : Pairs → List X
      all more = view v ∷ map (λ y. view y.1) more

      last : (more : Pairs) (f : Found Spelled Spelled)
          → found_as (λ w. all w.0) (found_then {Y = Pairs × Spelled} f (λ k after. Done (more, k) after))
          ≡ found_as inner (found_then {Y = List X × Spelled} f (λ k after. Done (all more, k) after))
      last more (Done k after) = refl
      last more (Stopped after) = refl

      same : (f : Found Spelled Pairs)
          → found_as (λ w. all w.0) (found_then {Y = Pairs × Spelled} f (λ more left. found_then (reads b (T (close ∷ [])) left) (λ k after. Done (more, k) after)))
          ≡ found_as inner (found_then {Y = List X × Spelled} (found_as all f) (λ xs left. found_then (shut close left) (λ k after. Done (xs, k) after)))
      same (Done more left) = last more (shut close left)
      same (Stopped left) = refl

-- what is listed has a name
module _ (b : Bound) (n : Name) (sorts : List ℕ) where
  pub listed_trees : (x : tree_of n) (ts rest : List Spelled) → found_tree b n ts ≡ Done x rest → found_as (λ w. firsts w.0 w.1) (reads b (listed sorts (Ref n)) ts) ≡ more_from sorts (found_tree b n) (x ∷ []) rest
  unfolding found_tree reads
  listed_trees x ts rest e =
      let v = as_done bare (reads b (Ref n) ts) x rest e in
      listed_begins b (Ref n) bare sorts v.0 ts rest v.1 ∙ ap (λ y. more_from sorts (found_tree b n) (y ∷ []) rest) v.2

  pub closed_trees : (close : ℕ) (x : tree_of n) (ts rest : List Spelled) → found_tree b n ts ≡ Done x rest
      → found_as (λ w. firsts w.0 w.1.0) (reads b (closed sorts (Ref n) close) ts) ≡ closed_from sorts close (found_tree b n) (x ∷ []) rest
  unfolding found_tree reads
  closed_trees close x ts rest e =
      let v = as_done bare (reads b (Ref n) ts) x rest e in
      closed_begins b (Ref n) bare sorts close v.0 ts rest v.1 ∙ ap (λ y. closed_from sorts close (found_tree b n) (y ∷ []) rest) v.2

-- a token, seen as its text or the like
abbrev pub seen_token : {X : Type 0} → (Spelled → X) → List ℕ → List Spelled → Found Spelled X
seen_token view ks ts = found_as view (read_token (is sort ks) ts)

module _ {X : Type 0} (view : Spelled → X) (ks sorts : List ℕ) where
  pub listed_names : (b : Bound) (k : Spelled) (ts rest : List Spelled) → read_token (is sort ks) ts ≡ Done k rest
      → found_as (λ w. view w.0 ∷ map (λ y. view y.1) w.1) (reads b (listed sorts (T ks)) ts) ≡ more_from sorts (seen_token view ks) (view k ∷ []) rest
  unfolding reads
  listed_names b k ts rest e = listed_begins b (T ks) view sorts k ts rest e

  pub closed_names : (b : Bound) (close : ℕ) (k : Spelled) (ts rest : List Spelled) → read_token (is sort ks) ts ≡ Done k rest
      → found_as (λ w. view w.0 ∷ map (λ y. view y.1) w.1.0) (reads b (closed sorts (T ks) close) ts) ≡ closed_from sorts close (seen_token view ks) (view k ∷ []) rest
  unfolding reads
  closed_names b close k ts rest e = closed_begins b (T ks) view sorts close k ts rest e

  seen_leaves : LeavesLess (seen_token view ks)
  seen_leaves = as_leaves view (read_token (is sort ks)) (token_leaves (is sort ks))

  pub names_goes : (xs : List X) (ts mid rest : List Spelled) (k j : Spelled) → has sorts 99 ≡ false → read_token (is sort sorts) ts ≡ Done k mid → read_token (is sort ks) mid ≡ Done j rest
      → more_from sorts (seen_token view ks) xs ts ≡ more_from sorts (seen_token view ks) (xs ++ view j ∷ []) rest
  names_goes xs ts mid rest k j none d e = more_goes sorts (seen_token view ks) xs ts mid rest k (view j) seen_leaves none d (ap (found_as view) e)

  pub closed_names_goes : (close : ℕ) (xs : List X) (ts mid rest : List Spelled) (k j : Spelled) → has sorts 99 ≡ false → read_token (is sort sorts) ts ≡ Done k mid → read_token (is sort ks) mid ≡ Done j rest
      → closed_from sorts close (seen_token view ks) xs ts ≡ closed_from sorts close (seen_token view ks) (xs ++ view j ∷ []) rest
  closed_names_goes close xs ts mid rest k j none d e =
      closed_goes sorts close (seen_token view ks) xs ts mid rest k (view j) seen_leaves none d (ap (found_as view) e)

module _ {X : Type 0} (file : ℕ) (bytes : List ℕ) (tokens : List TokenOf) (view : Spelled → X) (ks sorts : List ℕ) where
  seen_fault : (mid : List Spelled) (e : Fault) → Faults file bytes tokens (λ b. read_token (is sort ks) mid) e → Faults file bytes tokens (λ b. seen_token view ks mid) e
  seen_fault mid e h = fault_as file bytes tokens view (λ b. read_token (is sort ks) mid) e h

  pub names_faults : (xs : List X) (ts mid : List Spelled) (k : Spelled) (e : Fault) → has sorts 99 ≡ false → read_token (is sort sorts) ts ≡ Done k mid
      → Faults file bytes tokens (λ b. read_token (is sort ks) mid) e → Faults file bytes tokens (λ b. more_from sorts (seen_token view ks) xs ts) e
  names_faults xs ts mid k e none d h = more_alone file bytes tokens sorts (λ b. seen_token view ks) xs ts mid k e refl none d (seen_fault mid e h)

  pub closed_names_faults : (close : ℕ) (xs : List X) (ts mid : List Spelled) (k : Spelled) (e : Fault) → disjoint after_kinds (close ∷ []) ≡ true → has sorts 99 ≡ false → read_token (is sort sorts) ts ≡ Done k mid
      → Faults file bytes tokens (λ b. read_token (is sort ks) mid) e → Faults file bytes tokens (λ b. closed_from sorts close (seen_token view ks) xs ts) e
  closed_names_faults close xs ts mid k e c none d h =
      closed_alone file bytes tokens sorts close (λ b. seen_token view ks) xs ts mid k e refl c none d (seen_fault mid e h)

-- a name that is never empty takes something
pub tree_shrinks : (b : Bound) (n : Name) → (sets_at n).blank ≡ false → Shrinks (found_tree b n)
unfolding found_tree
tree_shrinks b n solid ts x rest e =
    let v = as_done bare (read b n ts) x rest e in
    shrinks_read (spells (limit_of b) n) (read b n) (reads_tree b n) (λ y w. (form_shape b (Ref n) refl).some solid y w) ts v.0 rest v.1

-- notes one behind the other

unfoldable pub notes_from : Bound → List Note → List Spelled → Found Spelled (List Note)
notes_from b xs ts = grown (is sort (at_sign ∷ [])) (λ xs. true) (found_tree b Note_of) with_one xs ts

pub notes_is : (b : Bound) (ts : List Spelled) → found_tree b Notes ts ≡ notes_from b [] ts
unfolding notes_from reads found_tree
notes_is b ts =
    tree_rule b Notes refl ts
    ∙ (same (read_list (is sort (at_sign ∷ [])) (read b Note_of) ts) ∙ many_viewed (at_sign ∷ []) (read b Note_of) (found_tree b Note_of) bare (λ us. refl) with_one [] ts)
  where
    same : (f : Found Spelled (List (T_of Note_of))) → found_as (tree_in Notes) f ≡ found_as (λ ps. folded (λ x p. with_one x (bare p)) [] ps) f
    same (Done ps left) = ap (λ v. Done v left) (sym (with_all bare [] ps))
    same (Stopped left) = refl

pub notes_ends : (b : Bound) (xs : List Note) (ts : List Spelled) → has (at_sign ∷ []) (head_sort ts) ≡ false → notes_from b xs ts ≡ Done xs ts
unfolding notes_from
notes_ends b xs ts h = loop_ends (at_sign ∷ []) (λ xs. true) (found_tree b Note_of) with_one xs ts h

pub notes_goes : (b : Bound) (xs : List Note) (ts rest : List Spelled) (x : Note) → has (at_sign ∷ []) (head_sort ts) ≡ true → found_tree b Note_of ts ≡ Done x rest → notes_from b xs ts ≡ notes_from b (xs ++ x ∷ []) rest
unfolding notes_from
notes_goes b xs ts rest x h d = loop_goes (at_sign ∷ []) (λ xs. true) (found_tree b Note_of) with_one (tree_shrinks b Note_of refl) xs ts x rest refl h refl d

pub notes_faults : (file : ℕ) (bytes : List ℕ) (tokens : List TokenOf) (xs : List Note) (ts : List Spelled) (e : Fault) → has (at_sign ∷ []) (head_sort ts) ≡ true
    → Faults file bytes tokens (λ b. found_tree b Note_of ts) e → Faults file bytes tokens (λ b. notes_from b xs ts) e
unfolding notes_from
notes_faults file bytes tokens xs ts e h f =
    loop_faults file bytes tokens (at_sign ∷ []) (λ xs. true) with_one (λ b. found_tree b Note_of) xs ts e refl h refl
    (λ b. tree_shrinks b Note_of refl) (λ b. tree_leaves b Note_of) refl f

-- imports and declarations, each behind a Separator

abbrev pub with_item : List Import × List Decl → Import ⊎ Decl → List Import × List Decl
with_item s (inl x) = (s.0 ++ x ∷ [], s.1)
with_item s (inr d) = (s.0, s.1 ++ d ∷ [])

unfoldable pub items_from : Bound → List Import × List Decl → List Spelled → Found Spelled (List Import × List Decl)
items_from b s ts = rounds_from (separator ∷ []) (found_tree b Item) with_item s ts

items_all : (s : List Import × List Decl) (more : List (Spelled × T_of Item)) → folded (λ s y. with_item s y.1.0) s more ≡ (s.0 ++ imports_in more, s.1 ++ decls_in more)
items_all s [] = ap (λ xs. (xs, s.1)) (sym (append-nil s.0)) ∙ ap (λ ds. (s.0 ++ [], ds)) (sym (append-nil s.1))
items_all s ((k, (inl x, span)) ∷ more) =
    items_all (s.0 ++ x ∷ [], s.1) more ∙ ap (λ xs. (xs, s.1 ++ decls_in more)) (append_assoc s.0 (x ∷ []) (imports_in more))
items_all s ((k, (inr d, span)) ∷ more) =
    items_all (s.0, s.1 ++ d ∷ []) more ∙ ap (λ ds. (s.0 ++ imports_in more, ds)) (append_assoc s.1 (d ∷ []) (decls_in more))

pub items_is : (b : Bound) (ts : List Spelled) → found_as items_view (reads b items_form ts) ≡ items_from b ([], []) ts
unfolding items_from reads found_tree
items_is b ts =
    same (read_list (is sort (separator ∷ [])) (read_both (read_token (is sort (separator ∷ []))) (read b Item)) ts)
    ∙ rounds_is (separator ∷ []) with_item (read b Item) bare ([], []) ts
  where
    same : (f : Found Spelled (List (Spelled × T_of Item))) → found_as items_view f ≡ found_as (λ more. folded (λ s y. with_item s (bare y.1)) ([], []) more) f
    same (Done more left) = ap (λ v. Done v left) (sym (items_all ([], []) more))
    same (Stopped left) = refl

pub items_ends : (b : Bound) (s : List Import × List Decl) (ts : List Spelled) → has (separator ∷ []) (head_sort ts) ≡ false → items_from b s ts ≡ Done s ts
unfolding items_from
items_ends b s ts h = rounds_ends (separator ∷ []) with_item (found_tree b Item) s ts h

pub items_goes : (b : Bound) (s : List Import × List Decl) (ts mid rest : List Spelled) (k : Spelled) (q : Import ⊎ Decl) → read_token (is sort (separator ∷ [])) ts ≡ Done k mid
    → found_tree b Item mid ≡ Done q rest → items_from b s ts ≡ items_from b (with_item s q) rest
unfolding items_from
items_goes b s ts mid rest k q d e = rounds_goes (separator ∷ []) with_item (found_tree b Item) s ts mid rest k q (tree_leaves b Item) refl d e

pub items_faults : (file : ℕ) (bytes : List ℕ) (tokens : List TokenOf) (s : List Import × List Decl) (ts mid : List Spelled) (k : Spelled) (e : Fault) → read_token (is sort (separator ∷ [])) ts ≡ Done k mid
    → Faults file bytes tokens (λ b. found_tree b Item mid) e → Faults file bytes tokens (λ b. items_from b s ts) e
unfolding items_from
items_faults file bytes tokens s ts mid k e d h =
    rounds_faults file bytes tokens (separator ∷ []) with_item (λ b. found_tree b Item) s ts mid k e (λ b. tree_leaves b Item) refl refl d h
