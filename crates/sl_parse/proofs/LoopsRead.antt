-- Loops, round by round, as the code has them: a token is peeked at, and one more is read behind it; and what they begin with.
use Rattle.std.proofs.Common.{◌≡◌, ℕ, ◌+◌, suc, List, [], ◌∷◌, ◌++◌, refl, sym, ap, subst, ◌∙◌, inl, inr, ◌⊎◌, Bool, true, false, if◌then◌else◌, true≢false, arith}
use Rattle.sl_text.specs.declared.token.Token.{Token as TokenOf}
use Rattle.sl_text.specs.declared.fault.Fault.{Fault}
use Rattle.sl_grammar.specs.Phrase.{Begins, Found, Done, Stopped, IsRead, found_then, read_both, read_token}
use Rattle.sl_grammar.specs.Law.{Shape, found_as}
use Rattle.sl_grammar.specs.Grammar.{Form, Nothing, Ref, Then, Many, Val, is, has, disjoint, sets_of}
use Rattle.sl_grammar.proofs.Growing.{found_as_as}
use Rattle.sl_grammar.proofs.Then.{front_of}
use Rattle.sl_tree.specs.Sorts.{Spelled, sort, left_parenthesis, right_parenthesis, right_brace, comma, at_sign, separator, import_word}
use Rattle.sl_tree.specs.declared.tree.Field.{Field}
use Rattle.sl_tree.specs.declared.tree.Note.{Note}
use Rattle.sl_tree.specs.declared.tree.Param.{Param}
use Rattle.sl_tree.specs.declared.tree.Import.{Import}
use Rattle.sl_tree.specs.declared.tree.Decl.{Decl}
use Rattle.sl_parse_expr.specs.Grammar.{after_kinds}
use Rattle.sl_parse_expr.specs.Told.{behind, head_sort}
use Rattle.sl_parse_expr.proofs.Behind.{present}
use Rattle.sl_parse_expr.proofs.Telling.{both_second, comes, comes_not, token_here, token_stops}
use Rattle.sl_parse.specs.Names.{Name, Import_of, Pair, Note_of, Param_of, Params, Member, Members, Decl_of, Item, T, perhaps, listed, closed}
use Rattle.sl_parse.specs.Values.{T_of, tree_of, firsts, params_in, members_in}
use Rattle.sl_parse.specs.Grammar.{Bound, Limited, Unlimited, limit_of, sets_at, spells, read}
use Rattle.sl_parse.specs.Told.{Family, bare, found_tree, reads, IsDone, Faults, pairs_form, pairs_view}
use Rattle.sl_parse.proofs.Laws.{Fine, reads_tree, form_shape}
use Rattle.sl_parse.proofs.Fine.{fine}
use Rattle.sl_parse.proofs.Telling.{fault_same, fault_as, fault_halts, fault_then, fault_then_second, fault_then_token, fault_left, fault_ref, fault_rule, then_reads, token_reads, token_view, left_view, right_view, tree_reads, tree_in, tree_rule, done_then, done_token, done_none, done_rule}
use Rattle.sl_parse.proofs.Listing.{more_from, more_ends, more_goes, more_faults, closed_from, closed_ends, closed_goes, closed_faults, closed_unclosed, listed_trees, closed_trees, tree_leaves, notes_from, notes_ends, notes_goes, notes_faults, with_item, items_from, items_ends, items_goes, items_faults}

-- the token that was peeked at
pub token_comes : (bytes : List ℕ) (tokens : List TokenOf) (s at next peeked : ℕ) → has (s ∷ []) 99 ≡ false → next ≡ suc at → peeked ≡ head_sort (behind bytes tokens at) → peeked ≡ s
    → (k : Spelled) × (read_token (is sort (s ∷ [])) (behind bytes tokens at) ≡ Done k (behind bytes tokens next))
token_comes bytes tokens s at next peeked none n sorted e =
    let h = comes s peeked (behind bytes tokens at) sorted e in
    token_here bytes tokens at next (s ∷ []) n (present bytes tokens at (s ∷ []) none h) h

-- Rounds: the token at an index was peeked at.
module _ (file : ℕ) (bytes : List ℕ) (tokens : List TokenOf) (n : Name) (s : ℕ) (none : has (s ∷ []) 99 ≡ false) (rare : disjoint after_kinds (s ∷ []) ≡ true)
    (f : Family (List (tree_of n))) (xs : List (tree_of n)) (at peeked : ℕ) (sorted : peeked ≡ head_sort (behind bytes tokens at)) where
  abbrev here : List Spelled
  here = behind bytes tokens at

  abbrev one_on : List Spelled
  one_on = behind bytes tokens (at + 1)

  -- another token comes
  other : (peeked ≡ s → ⊥) → has (s ∷ []) (head_sort here) ≡ false
  other off = comes_not s peeked here sorted off

  -- a token comes that goes on
  taken : peeked ≡ s → (k : Spelled) × (read_token (is sort (s ∷ [])) here ≡ Done k one_on)
  taken e = token_comes bytes tokens s at (at + 1) peeked none (omega arith) sorted e

  -- of a list
  module _ (grows : (b : Bound) → f b ≡ more_from (s ∷ []) (found_tree b n) xs here) where
    pub more_at_fault : (e : Fault) → peeked ≡ s → Faults file bytes tokens (λ b. found_tree b n one_on) e → Faults file bytes tokens f e
    more_at_fault e same h =
        let k = taken same in
        fault_same file bytes tokens (λ b. more_from (s ∷ []) (found_tree b n) xs here) f e grows
        (more_faults file bytes tokens (s ∷ []) (λ b. found_tree b n) xs here one_on k.0 e (λ b. tree_leaves b n) rare none k.1 h)

    pub more_on : (x : tree_of n) (next : ℕ) (ys : List (tree_of n)) → peeked ≡ s → IsDone (λ b. found_tree b n one_on) x (behind bytes tokens next) → ys ≡ xs ++ x ∷ []
        → (b : Bound) → f b ≡ more_from (s ∷ []) (found_tree b n) ys (behind bytes tokens next)
    more_on x next ys same d e b =
        let k = taken same in
        let rest = behind bytes tokens next in
        grows b ∙ (more_goes (s ∷ []) (found_tree b n) xs here one_on rest k.0 x (tree_leaves b n) none k.1 (d b) ∙ ap (λ zs. more_from (s ∷ []) (found_tree b n) zs rest) (sym e))

    pub more_over : (peeked ≡ s → ⊥) → IsDone f xs here
    more_over off b = grows b ∙ more_ends (s ∷ []) (found_tree b n) xs here (other off)

  -- of a list with a token behind that closes it
  module _ (close : ℕ) (shuts : disjoint after_kinds (close ∷ []) ≡ true) (grows : (b : Bound) → f b ≡ closed_from (s ∷ []) close (found_tree b n) xs here) where
    pub closed_at_fault : (e : Fault) → peeked ≡ s → Faults file bytes tokens (λ b. found_tree b n one_on) e → Faults file bytes tokens f e
    closed_at_fault e same h =
        let k = taken same in
        fault_same file bytes tokens (λ b. closed_from (s ∷ []) close (found_tree b n) xs here) f e grows
        (closed_faults file bytes tokens (s ∷ []) close (λ b. found_tree b n) xs here one_on k.0 e (λ b. tree_leaves b n) rare shuts none k.1 h)

    pub closed_on : (x : tree_of n) (next : ℕ) (ys : List (tree_of n)) → peeked ≡ s → IsDone (λ b. found_tree b n one_on) x (behind bytes tokens next) → ys ≡ xs ++ x ∷ []
        → (b : Bound) → f b ≡ closed_from (s ∷ []) close (found_tree b n) ys (behind bytes tokens next)
    closed_on x next ys same d e b =
        let k = taken same in
        let rest = behind bytes tokens next in
        grows b
        ∙ (closed_goes (s ∷ []) close (found_tree b n) xs here one_on rest k.0 x (tree_leaves b n) none k.1 (d b) ∙ ap (λ zs. closed_from (s ∷ []) close (found_tree b n) zs rest) (sym e))

    pub closed_open : (e : Fault) → (peeked ≡ s → ⊥) → Faults file bytes tokens (λ b. read_token (is sort (close ∷ [])) here) e → Faults file bytes tokens f e
    closed_open e off h =
        fault_same file bytes tokens (λ b. closed_from (s ∷ []) close (found_tree b n) xs here) f e grows
        (closed_unclosed file bytes tokens (s ∷ []) close (λ b. found_tree b n) xs here e (other off) h)

    pub closed_over : (k : Spelled) (rest : List Spelled) → (peeked ≡ s → ⊥) → read_token (is sort (close ∷ [])) here ≡ Done k rest → IsDone f xs rest
    closed_over k rest off d b = grows b ∙ closed_ends (s ∷ []) close (found_tree b n) xs here rest k (other off) d

-- The same of notes, which no token parts.
module _ (file : ℕ) (bytes : List ℕ) (tokens : List TokenOf) (f : Family (List Note)) (xs : List Note) (at peeked : ℕ) (sorted : peeked ≡ head_sort (behind bytes tokens at))
    (grows : (b : Bound) → f b ≡ notes_from b xs (behind bytes tokens at)) where
  pub notes_at_fault : (e : Fault) → peeked ≡ at_sign → Faults file bytes tokens (λ b. found_tree b Note_of (behind bytes tokens at)) e → Faults file bytes tokens f e
  notes_at_fault e same h =
      let ts = behind bytes tokens at in
      fault_same file bytes tokens (λ b. notes_from b xs ts) f e grows (notes_faults file bytes tokens xs ts e (comes at_sign peeked ts sorted same) h)

  pub notes_on : (x : Note) (next : ℕ) (ys : List Note) → peeked ≡ at_sign → IsDone (λ b. found_tree b Note_of (behind bytes tokens at)) x (behind bytes tokens next) → ys ≡ xs ++ x ∷ []
      → (b : Bound) → f b ≡ notes_from b ys (behind bytes tokens next)
  notes_on x next ys same d e b =
      let ts = behind bytes tokens at in
      let rest = behind bytes tokens next in
      grows b ∙ (notes_goes b xs ts rest x (comes at_sign peeked ts sorted same) (d b) ∙ ap (λ zs. notes_from b zs rest) (sym e))

  pub notes_over : (peeked ≡ at_sign → ⊥) → IsDone f xs (behind bytes tokens at)
  notes_over off b = let ts = behind bytes tokens at in grows b ∙ notes_ends b xs ts (comes_not at_sign peeked ts sorted off)

-- An item is an import or a declaration.

pub item_import : (ts : List Spelled) → has (import_word ∷ []) (head_sort ts) ≡ true → (b : Bound) → found_tree b Item ts ≡ found_as inl (found_tree b Import_of ts)
item_import ts h b =
    tree_rule b Item refl ts
    ∙ (left_view b (Ref Import_of) (Ref Decl_of) (tree_in Item) ts refl h
    ∙ sym (ap (found_as inl) (tree_reads b Import_of ts) ∙ found_as_as inl bare (reads b (Ref Import_of) ts)))

pub item_decl : (ts : List Spelled) → has (import_word ∷ []) (head_sort ts) ≡ false → (b : Bound) → found_tree b Item ts ≡ found_as inr (found_tree b Decl_of ts)
item_decl ts h b =
    tree_rule b Item refl ts
    ∙ (right_view b (Ref Import_of) (Ref Decl_of) (tree_in Item) ts h
    ∙ sym (ap (found_as inr) (tree_reads b Decl_of ts) ∙ found_as_as inr bare (reads b (Ref Decl_of) ts)))

-- Items, each behind a Separator: the token behind it was peeked at too.
module _ (file : ℕ) (bytes : List ℕ) (tokens : List TokenOf) (f : Family (List Import × List Decl)) (imports : List Import) (decls : List Decl) (at peeked : ℕ) (sorted : peeked ≡ head_sort (behind bytes tokens at))
    (grows : (b : Bound) → f b ≡ items_from b (imports, decls) (behind bytes tokens at)) where
  abbrev one_behind : List Spelled
  one_behind = behind bytes tokens (at + 1)

  item_at_fault : (e : Fault) → peeked ≡ separator → Faults file bytes tokens (λ b. found_tree b Item one_behind) e → Faults file bytes tokens f e
  item_at_fault e same h =
      let k = token_comes bytes tokens separator at (at + 1) peeked refl (omega arith) sorted same in
      fault_same file bytes tokens (λ b. items_from b (imports, decls) (behind bytes tokens at)) f e grows
      (items_faults file bytes tokens (imports, decls) (behind bytes tokens at) one_behind k.0 e k.1 h)

  item_on : (q : Import ⊎ Decl) (rest : List Spelled) → peeked ≡ separator → IsDone (λ b. found_tree b Item one_behind) q rest → (b : Bound) → f b ≡ items_from b (with_item (imports, decls) q) rest
  item_on q rest same d b =
      let k = token_comes bytes tokens separator at (at + 1) peeked refl (omega arith) sorted same in
      grows b ∙ items_goes b (imports, decls) (behind bytes tokens at) one_behind rest k.0 q k.1 (d b)

  module _ (next_peeked : ℕ) (next_sorted : next_peeked ≡ head_sort (behind bytes tokens (at + 1))) where
    pub import_at_fault : (e : Fault) → peeked ≡ separator → next_peeked ≡ import_word → Faults file bytes tokens (λ b. found_tree b Import_of (behind bytes tokens (at + 1))) e → Faults file bytes tokens f e
    import_at_fault e same word h =
        item_at_fault e same
        (fault_same file bytes tokens (λ b. found_as inl (found_tree b Import_of one_behind)) (λ b. found_tree b Item one_behind) e
        (item_import one_behind (comes import_word next_peeked one_behind next_sorted word)) (fault_as file bytes tokens inl (λ b. found_tree b Import_of one_behind) e h))

    pub import_on : (x : Import) (next : ℕ) (all : List Import) → peeked ≡ separator → next_peeked ≡ import_word → IsDone (λ b. found_tree b Import_of (behind bytes tokens (at + 1))) x (behind bytes tokens next)
        → all ≡ imports ++ x ∷ [] → (b : Bound) → f b ≡ items_from b (all, decls) (behind bytes tokens next)
    import_on x next all same word d e b =
        let rest = behind bytes tokens next in
        item_on (inl x) rest same (λ c. item_import one_behind (comes import_word next_peeked one_behind next_sorted word) c ∙ ap (found_as inl) (d c)) b
        ∙ ap (λ xs. items_from b (xs, decls) rest) (sym e)

    pub decl_at_fault : (e : Fault) → peeked ≡ separator → (next_peeked ≡ import_word → ⊥) → Faults file bytes tokens (λ b. found_tree b Decl_of (behind bytes tokens (at + 1))) e → Faults file bytes tokens f e
    decl_at_fault e same off h =
        item_at_fault e same
        (fault_same file bytes tokens (λ b. found_as inr (found_tree b Decl_of one_behind)) (λ b. found_tree b Item one_behind) e
        (item_decl one_behind (comes_not import_word next_peeked one_behind next_sorted off)) (fault_as file bytes tokens inr (λ b. found_tree b Decl_of one_behind) e h))

    pub decl_on : (x : Decl) (next : ℕ) (all : List Decl) → peeked ≡ separator → (next_peeked ≡ import_word → ⊥) → IsDone (λ b. found_tree b Decl_of (behind bytes tokens (at + 1))) x (behind bytes tokens next)
        → all ≡ decls ++ x ∷ [] → (b : Bound) → f b ≡ items_from b (imports, all) (behind bytes tokens next)
    decl_on x next all same off d e b =
        let rest = behind bytes tokens next in
        item_on (inr x) rest same (λ c. item_decl one_behind (comes_not import_word next_peeked one_behind next_sorted off) c ∙ ap (found_as inr) (d c)) b
        ∙ ap (λ xs. items_from b (imports, xs) rest) (sym e)

  pub items_over : (peeked ≡ separator → ⊥) → IsDone f (imports, decls) (behind bytes tokens at)
  items_over off b = let ts = behind bytes tokens at in grows b ∙ items_ends b (imports, decls) ts (comes_not separator peeked ts sorted off)

-- The first one is at fault.
module _ (file : ℕ) (bytes : List ℕ) (tokens : List TokenOf) (n : Name) (sorts : List ℕ) (ts : List Spelled) (e : Fault) where
  pub listed_first : Fine (Many (Then (T sorts) (Ref n))) → disjoint after_kinds sorts ≡ true → Faults file bytes tokens (λ b. found_tree b n ts) e → Faults file bytes tokens (λ b. reads b (listed sorts (Ref n)) ts) e
  listed_first fine d h = fault_then file bytes tokens (Ref n) (Many (Then (T sorts) (Ref n))) ts e fine d (fault_ref file bytes tokens n ts e h)

  pub closed_first : (close : ℕ) → Fine (Then (Many (Then (T sorts) (Ref n))) (T (close ∷ []))) → disjoint after_kinds (sorts ++ close ∷ []) ≡ true
      → Faults file bytes tokens (λ b. found_tree b n ts) e → Faults file bytes tokens (λ b. reads b (closed sorts (Ref n) close) ts) e
  closed_first close fine d h = fault_then file bytes tokens (Ref n) (Then (Many (Then (T sorts) (Ref n))) (T (close ∷ []))) ts e fine d (fault_ref file bytes tokens n ts e h)

-- What begins with tokens of some kinds, and is never empty: where none comes nothing is read, and what is read begins with one.

begun_by : {X : Type 0} (l : X → List Spelled → Type 0) (ks : List ℕ) (ts used rest : List Spelled) → ((k : Spelled) → Begins l (k ∷ []) → has ks (sort k) ≡ true) → ts ≡ used ++ rest → Begins l used
    → (used ≡ []) ⊎ (has ks (head_sort ts) ≡ true)
begun_by l ks ts [] rest only e b = inl refl
begun_by l ks ts (k ∷ used) rest only e b = inr (ap (λ us. has ks (head_sort us)) e ∙ only k (front_of l (k ∷ []) used b))

never_begun : {X : Type 0} (l : X → List Spelled → Type 0) (ks : List ℕ) (ts : List Spelled) (f : Found Spelled X) → Shape l (is sort ks) false → has ks (head_sort ts) ≡ false → IsRead l ts f → f ≡ Stopped ts
never_begun {X} l ks ts f shape none r = by f r
  where
    empty : (used rest : List Spelled) → ts ≡ used ++ rest → Begins l used → used ≡ []
    empty used rest e b = from (begun_by l ks ts used rest shape.starts.only e b)
      where
        from : (used ≡ []) ⊎ (has ks (head_sort ts) ≡ true) → used ≡ []
        from (inl same) = same
        from (inr some) = absurd (true≢false (sym some ∙ none))

    by : (f : Found Spelled X) → IsRead l ts f → f ≡ Stopped ts
    by (Done x rest) (used, e, front, w) = absurd (shape.some refl x (subst (l x) (empty used rest e front.begins) w))
    by (Stopped rest) (used, e, front, w) = ap Stopped (sym (e ∙ ap (λ us. us ++ rest) (empty used rest e front.begins)))

module _ (b : Bound) (n : Name) (solid : (sets_at n).blank ≡ false) where
  shape : Shape (spells (limit_of b) n) (is sort (sets_at n).first) false
  shape = subst (Shape (spells (limit_of b) n) (is sort (sets_at n).first)) solid (form_shape b (Ref n) refl)

  pub tree_stops : (ts : List Spelled) → has (sets_at n).first (head_sort ts) ≡ false → found_tree b n ts ≡ Stopped ts
  unfolding found_tree
  tree_stops ts none = ap (found_as bare) (never_begun (spells (limit_of b) n) (sets_at n).first ts (read b n ts) shape none (reads_tree b n ts))

  pub tree_begins : (ts rest : List Spelled) (x : tree_of n) → found_tree b n ts ≡ Done x rest → has (sets_at n).first (head_sort ts) ≡ true
  tree_begins ts rest x e = by (has (sets_at n).first (head_sort ts)) refl
    where
      by : (c : Bool) → has (sets_at n).first (head_sort ts) ≡ c → has (sets_at n).first (head_sort ts) ≡ true
      by true h = h
      by false h = let stops = tree_stops ts h in absurd cc

-- A list that may be empty, and a token that closes it.

both_viewed : {X Y Z : Type 0} (l : List Spelled → Found Spelled X) (m : List Spelled → Found Spelled Z) (view : X → Y) (g : Found Spelled Y) (ts : List Spelled) → found_as view (l ts) ≡ g
    → found_as (λ v. view v.0) (read_both l m ts) ≡ found_as (λ v. v.0) (found_then {Y = Y × Z} g (λ y rest. found_then (m rest) (λ z left. Done (y, z) left)))
both_viewed {X} {Y} {Z} l m view g ts e = by (l ts) ∙ ap (λ h. found_as (λ v. v.0) (found_then {Y = Y × Z} h (λ y rest. found_then (m rest) (λ z left. Done (y, z) left)))) e
  where
    last : (x : X) (f : Found Spelled Z)
        → found_as (λ v. view v.0) (found_then {Y = X × Z} f (λ z left. Done (x, z) left)) ≡ found_as (λ v. v.0) (found_then {Y = Y × Z} f (λ z left. Done (view x, z) left))
    last x (Done z left) = refl
    last x (Stopped left) = refl

    by : (f : Found Spelled X)
        → found_as (λ v. view v.0) (found_then {Y = X × Z} f (λ x rest. found_then (m rest) (λ z left. Done (x, z) left)))
        ≡ found_as (λ v. v.0) (found_then {Y = Y × Z} (found_as view f) (λ y rest. found_then (m rest) (λ z left. Done (y, z) left)))
    by (Done x rest) = last x (m rest)
    by (Stopped rest) = refl

same_view : {X Y : Type 0} (f g : X → Y) → ((x : X) → f x ≡ g x) → (r : Found Spelled X) → found_as f r ≡ found_as g r
same_view f g e (Done x rest) = ap (λ y. Done y rest) (e x)
same_view f g e (Stopped rest) = refl

module _ (n : Name) (solid : (sets_at n).blank ≡ false) (none : has (sets_at n).first 99 ≡ false) (sorts : List ℕ) (close : ℕ) where
  abbrev all_form : Form Name
  all_form = listed sorts (Ref n)

  abbrev shut_form : Form Name
  shut_form = T (close ∷ [])

  -- what begins one begins the list
  begun : (sets_of sets_at all_form).first ≡ (sets_at n).first
  begun = by (sets_at n).blank solid
    where
      by : (c : Bool) → c ≡ false → (if c then (sets_at n).first ++ sorts else (sets_at n).first) ≡ (sets_at n).first
      by true e = absurd cc
      by false e = refl

  first_is : (j : ℕ) (c : Bool) → has (sets_at n).first j ≡ c → has (sets_of sets_at all_form).first j ≡ c
  first_is j c h = ap (λ ks. has ks j) begun ∙ h

  -- the first one is read
  pub some_begins : (view : Val sort T_of (perhaps all_form) → List (tree_of n)) → ((w : Val sort T_of all_form) → view (inl w) ≡ firsts w.0 w.1) → (b : Bound) (x : tree_of n) (ts rest : List Spelled) → found_tree b n ts ≡ Done x rest
      → found_as (λ v. view v.0) (reads b (Then (perhaps all_form) shut_form) ts) ≡ closed_from sorts close (found_tree b n) (x ∷ []) rest
  unfolding closed_from reads
  some_begins view same b x ts rest e =
      let h = first_is (head_sort ts) true (tree_begins b n solid ts rest x e) in
      ap (found_as (λ v. view v.0)) (then_reads b (perhaps all_form) shut_form ts)
      ∙ both_viewed (reads b (perhaps all_form)) (reads b shut_form) view (more_from sorts (found_tree b n) (x ∷ []) rest) ts
      (left_view b all_form Nothing view ts (first_is 99 false none) h
      ∙ (same_view (λ w. view (inl w)) (λ w. firsts w.0 w.1) same (reads b all_form ts) ∙ listed_trees b n sorts x ts rest e))

  -- there is none
  pub none_done : (ts rest : List Spelled) (k : Spelled) → has (sets_at n).first (head_sort ts) ≡ false → read_token (is sort (close ∷ [])) ts ≡ Done k rest
      → IsDone (λ b. reads b (Then (perhaps all_form) shut_form) ts) (inr tt, k) rest
  none_done ts rest k h d = done_then (perhaps all_form) shut_form ts (inr tt) ts k rest (done_none all_form ts (first_is (head_sort ts) false h)) (done_token (close ∷ []) ts k rest d)

  -- the first one is at fault
  pub some_first : (file : ℕ) (bytes : List ℕ) (tokens : List TokenOf) (ts : List Spelled) (e : Fault) → Fine shut_form → disjoint after_kinds (close ∷ []) ≡ true → Fine (Many (Then (T sorts) (Ref n)))
      → disjoint after_kinds sorts ≡ true → has (close ∷ []) (head_sort ts) ≡ false → Faults file bytes tokens (λ b. found_tree b n ts) e → Faults file bytes tokens (λ b. reads b (Then (perhaps all_form) shut_form) ts) e
  some_first file bytes tokens ts e shuts apart fine rare unshut h = by (has (sets_at n).first (head_sort ts)) refl
    where
      stops : has (sets_at n).first (head_sort ts) ≡ false → (b : Bound) (rest : List Spelled) → found_tree b n ts ≡ Stopped rest → reads b (Then (perhaps all_form) shut_form) ts ≡ Stopped rest
      stops off b rest d =
          let t = tree_stops b n solid ts off in
          let same : ts ≡ rest = cc in
          then_reads b (perhaps all_form) shut_form ts
          ∙ both_second (reads b (perhaps all_form)) (reads b shut_form) ts (inr tt) ts rest (done_none all_form ts (first_is (head_sort ts) false off) b)
          (token_reads b (close ∷ []) ts ∙ (token_stops (close ∷ []) ts unshut ∙ ap Stopped same))

      by : (c : Bool) → has (sets_at n).first (head_sort ts) ≡ c → Faults file bytes tokens (λ b. reads b (Then (perhaps all_form) shut_form) ts) e
      by true some =
          fault_then file bytes tokens (perhaps all_form) shut_form ts e shuts apart
          (fault_left file bytes tokens all_form Nothing ts e (first_is 99 false none) (first_is (head_sort ts) true some) (listed_first file bytes tokens n sorts ts e fine rare h))
      by false off =
          fault_halts file bytes tokens (λ b. found_tree b n ts) (λ b. reads b (Then (perhaps all_form) shut_form) ts) e
          (tree_stops Limited n solid ts off ∙ sym (tree_stops Unlimited n solid ts off)) (stops off) h

-- Pairs in parentheses.

abbrev more_pairs : Form Name
more_pairs = closed (comma ∷ []) (Ref Pair) right_parenthesis

pub pairs_begin : (ts more rest : List Spelled) (k : Spelled) (x : Field) → read_token (is sort (left_parenthesis ∷ [])) ts ≡ Done k more → IsDone (λ b. found_tree b Pair more) x rest
    → (b : Bound) → found_as pairs_view (reads b pairs_form ts) ≡ closed_from (comma ∷ []) right_parenthesis (found_tree b Pair) (x ∷ []) rest
pairs_begin ts more rest k x d e b =
    token_view b (left_parenthesis ∷ []) more_pairs pairs_view ts k more d ∙ closed_trees b Pair (comma ∷ []) right_parenthesis x more rest (e b)

module _ (file : ℕ) (bytes : List ℕ) (tokens : List TokenOf) (ts : List Spelled) (e : Fault) where
  pub pairs_unopened : Faults file bytes tokens (λ b. read_token (is sort (left_parenthesis ∷ [])) ts) e → Faults file bytes tokens (λ b. found_as pairs_view (reads b pairs_form ts)) e
  pairs_unopened h = fault_as file bytes tokens pairs_view (λ b. reads b pairs_form ts) e (fault_then_token file bytes tokens (left_parenthesis ∷ []) more_pairs ts e h)

  pub pairs_first : (more : List Spelled) (k : Spelled) → read_token (is sort (left_parenthesis ∷ [])) ts ≡ Done k more → Faults file bytes tokens (λ b. found_tree b Pair more) e
      → Faults file bytes tokens (λ b. found_as pairs_view (reads b pairs_form ts)) e
  pairs_first more k d h =
      fault_as file bytes tokens pairs_view (λ b. reads b pairs_form ts) e
      (fault_then_second file bytes tokens (T (left_parenthesis ∷ [])) more_pairs ts k more e (done_token (left_parenthesis ∷ []) ts k more d)
      (closed_first file bytes tokens Pair (comma ∷ []) more e right_parenthesis (fine (Then (Many (Then (T (comma ∷ [])) (Ref Pair))) (T (right_parenthesis ∷ []))) refl) refl h))

-- Parameters in parentheses.

abbrev inner_params : Form Name
inner_params = Then (perhaps (listed (comma ∷ []) (Ref Param_of))) (T (right_parenthesis ∷ []))

pub params_none : (ts more rest : List Spelled) (k j : Spelled) → read_token (is sort (left_parenthesis ∷ [])) ts ≡ Done k more → head_sort more ≡ right_parenthesis → read_token (is sort (right_parenthesis ∷ [])) more ≡ Done j rest
    → IsDone (λ b. found_tree b Params ts) [] rest
params_none ts more rest k j d s c =
    done_rule Params refl ts (k, (inr tt, j)) rest
    (done_then (T (left_parenthesis ∷ [])) inner_params ts k more (inr tt, j) rest (done_token (left_parenthesis ∷ []) ts k more d)
    (none_done Param_of refl refl (comma ∷ []) right_parenthesis more rest j (ap (has (sets_at Param_of).first) s) c))

pub params_begin : (ts more rest : List Spelled) (k : Spelled) (x : Param) → read_token (is sort (left_parenthesis ∷ [])) ts ≡ Done k more → IsDone (λ b. found_tree b Param_of more) x rest
    → (b : Bound) → found_tree b Params ts ≡ closed_from (comma ∷ []) right_parenthesis (found_tree b Param_of) (x ∷ []) rest
params_begin ts more rest k x d e b =
    tree_rule b Params refl ts
    ∙ (token_view b (left_parenthesis ∷ []) inner_params (tree_in Params) ts k more d
    ∙ some_begins Param_of refl refl (comma ∷ []) right_parenthesis params_in (λ w. refl) b x more rest (e b))

module _ (file : ℕ) (bytes : List ℕ) (tokens : List TokenOf) (ts : List Spelled) (e : Fault) where
  pub params_unopened : Faults file bytes tokens (λ b. read_token (is sort (left_parenthesis ∷ [])) ts) e → Faults file bytes tokens (λ b. found_tree b Params ts) e
  params_unopened h = fault_rule file bytes tokens Params refl ts e (fault_then_token file bytes tokens (left_parenthesis ∷ []) inner_params ts e h)

  pub params_first : (more : List Spelled) (k : Spelled) → read_token (is sort (left_parenthesis ∷ [])) ts ≡ Done k more → has (right_parenthesis ∷ []) (head_sort more) ≡ false
      → Faults file bytes tokens (λ b. found_tree b Param_of more) e → Faults file bytes tokens (λ b. found_tree b Params ts) e
  params_first more k d unshut h =
      fault_rule file bytes tokens Params refl ts e
      (fault_then_second file bytes tokens (T (left_parenthesis ∷ [])) inner_params ts k more e (done_token (left_parenthesis ∷ []) ts k more d)
      (some_first Param_of refl refl (comma ∷ []) right_parenthesis file bytes tokens more e (fine (T (right_parenthesis ∷ [])) refl) refl (fine (Many (Then (T (comma ∷ [])) (Ref Param_of))) refl) refl unshut h))

-- Members up to a brace, where globals are among them or not.

member_bare : (globals : Bool) → has (sets_at (Member globals)).first 99 ≡ false
member_bare true = refl
member_bare false = refl

member_shut : (globals : Bool) → has (sets_at (Member globals)).first right_brace ≡ false
member_shut true = refl
member_shut false = refl

module _ (globals : Bool) where
  abbrev inner_members : Form Name
  inner_members = Then (perhaps (listed (separator ∷ []) (Ref (Member globals)))) (T (right_brace ∷ []))

  pub members_none : (ts rest : List Spelled) (k : Spelled) → head_sort ts ≡ right_brace → read_token (is sort (right_brace ∷ [])) ts ≡ Done k rest → IsDone (λ b. found_tree b (Members globals) ts) [] rest
  members_none ts rest k s d = done_rule (Members globals) refl ts (inr tt, k) rest (none_done (Member globals) refl (member_bare globals) (separator ∷ []) right_brace ts rest k (ap (has (sets_at (Member globals)).first) s ∙ member_shut globals) d)

  pub members_begin : (ts rest : List Spelled) (x : Decl) → IsDone (λ b. found_tree b (Member globals) ts) x rest
      → (b : Bound) → found_tree b (Members globals) ts ≡ closed_from (separator ∷ []) right_brace (found_tree b (Member globals)) (x ∷ []) rest
  members_begin ts rest x e b =
      tree_rule b (Members globals) refl ts ∙ some_begins (Member globals) refl (member_bare globals) (separator ∷ []) right_brace members_in (λ w. refl) b x ts rest (e b)

  pub members_first : (file : ℕ) (bytes : List ℕ) (tokens : List TokenOf) (ts : List Spelled) (e : Fault) → has (right_brace ∷ []) (head_sort ts) ≡ false
      → Faults file bytes tokens (λ b. found_tree b (Member globals) ts) e → Faults file bytes tokens (λ b. found_tree b (Members globals) ts) e
  members_first file bytes tokens ts e unshut h =
      fault_rule file bytes tokens (Members globals) refl ts e
      (some_first (Member globals) refl (member_bare globals) (separator ∷ []) right_brace file bytes tokens ts e (fine (T (right_brace ∷ [])) refl) refl
      (fine (Many (Then (T (separator ∷ [])) (Ref (Member globals)))) refl) refl unshut h)
