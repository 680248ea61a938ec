-- Members, as the code reads them: globals, what a member declares, members with their notes, and members in braces.
use Rattle.std.proofs.Common.{◌≡◌, ℕ, ◌+◌, ◌<◌, List, [], ◌∷◌, ◌++◌, length, arith, refl, sym, ap, ap₂, ◌∙◌, inl, inr, ◌⊎◌, Bool, true, false}
use Rattle.std.specs.Prelude.{Option, Some, None, eqb, ◌==◌}
use Rattle.std.proofs.lemmas.Bool.{ne_eqb}
use Rattle.sl_text.specs.declared.place.Span.{Span}
use Rattle.sl_text.specs.declared.token.Token.{Token as TokenOf}
use Rattle.sl_text.specs.declared.fault.Fault.{Fault}
use Rattle.sl_grammar.specs.Phrase.{Done, read_token}
use Rattle.sl_grammar.specs.Law.{found_as}
use Rattle.sl_grammar.specs.Grammar.{Form, Nothing, Ref, Then, Room, is, has, disjoint, sets_of}
use Rattle.sl_grammar.proofs.Growing.{found_as_as}
use Rattle.sl_tree.specs.Sorts.{Spelled, sort, example, sort_of, sort_of_mark, sort_of_word, sort_of_name, sort_of_operator, sort_of_prefixed, sort_of_separator, equals, val_word, var_word, left_brace, override_word}
use Rattle.sl_tree.specs.WellShaped.{names, cover}
use Rattle.sl_tree.specs.Declarations.{decl}
use Rattle.sl_tree.specs.declared.tree.TypeTerm.{TypeTerm}
use Rattle.sl_tree.specs.declared.tree.Expr.{Expr}
use Rattle.sl_tree.specs.declared.tree.Note.{Note}
use Rattle.sl_tree.specs.declared.tree.Decl.{Decl, roll-Decl}
use Rattle.sl_tree.specs.declared.tree.DeclKind.{DeclKind}
use Rattle.sl_tree.specs.declared.tree.DeclKind.TheVariants as decl_kind
use Rattle.sl_parse_expr.specs.Grammar.{after_kinds}
use Rattle.sl_parse_expr.specs.Told.{behind, head_sort}
use Rattle.sl_parse_expr.proofs.Telling.{done_as, comes, comes_not, token_here}
use Rattle.sl_parse.specs.Names.{Name, Expression, Notes, Member, Members, Braced, T, perhaps, typed_form, method_form, global_form, rule_of}
use Rattle.sl_parse.specs.Values.{typed_in, overrides_in, global_from, method_from, member_in}
use Rattle.sl_parse.specs.Grammar.{Bound, Limited, sets_at}
use Rattle.sl_parse.specs.Told.{found_tree, reads, IsDone, Faults}
use Rattle.sl_parse.proofs.Laws.{Fine}
use Rattle.sl_parse.proofs.Telling.{fault_as, fault_of, fault_then, fault_then_second, fault_then_token, fault_left, fault_ref, fault_rule, form_done, tree_done, done_then, done_token, done_left, done_none, done_rule, room_left_reads, room_right_reads, room_shut_reads, covered_by}

-- a global, from its word on, from its name, from its type, and from `=`

abbrev declaring : List ℕ
declaring = val_word ∷ var_word ∷ []

abbrev equal_form : Form Name
equal_form = Then (T (equals ∷ [])) (Ref Expression)

abbrev of_form : Form Name
of_form = Then (perhaps typed_form) equal_form

abbrev named_form : Form Name
named_form = Then (T names) of_form

-- the parts that have to pass the test do
typed_fine : Fine (perhaps typed_form)
unfolding example sort_of sort_of_mark sort_of_word sort_of_name sort_of_operator sort_of_prefixed sort_of_separator
typed_fine = refl

equal_fine : Fine equal_form
unfolding example sort_of sort_of_mark sort_of_word sort_of_name sort_of_operator sort_of_prefixed sort_of_separator
equal_fine = refl

module _ (file : ℕ) (bytes : List ℕ) (tokens : List TokenOf) (o : Bool) (ts : List Spelled) where
  -- a fault of a global
  abbrev Fails : Fault → Type 0
  Fails e = Faults file bytes tokens (λ b. found_as (global_from o) (reads b global_form ts)) e

  global_fails : (e : Fault) → Faults file bytes tokens (λ b. reads b global_form ts) e → Fails e
  global_fails e h = fault_as file bytes tokens (global_from o) (λ b. reads b global_form ts) e h

  -- in its word
  pub global_word : (e : Fault) → Faults file bytes tokens (λ b. read_token (is sort declaring) ts) e → Fails e
  global_word e h = global_fails e (fault_then_token file bytes tokens declaring named_form ts e h)

  module _ (w : Spelled) (us : List Spelled) (dw : read_token (is sort declaring) ts ≡ Done w us) where
    from_name : (e : Fault) → Faults file bytes tokens (λ b. reads b named_form us) e → Fails e
    from_name e h = global_fails e (fault_then_second file bytes tokens (T declaring) named_form ts w us e (done_token declaring ts w us dw) h)

    -- in its name
    pub global_name : (e : Fault) → Faults file bytes tokens (λ b. read_token (is sort names) us) e → Fails e
    global_name e h = from_name e (fault_then_token file bytes tokens names of_form us e h)

    module _ (k : Spelled) (vs : List Spelled) (dk : read_token (is sort names) us ≡ Done k vs) where
      from_type : (e : Fault) → Faults file bytes tokens (λ b. reads b of_form vs) e → Fails e
      from_type e h = from_name e (fault_then_second file bytes tokens (T names) of_form us k vs e (done_token names us k vs dk) h)

      -- in its type
      pub global_type : (e : Fault) → Faults file bytes tokens (λ b. found_as typed_in (reads b (perhaps typed_form) vs)) e → Fails e
      global_type e h =
          from_type e (fault_then file bytes tokens (perhaps typed_form) equal_form vs e equal_fine refl (fault_of file bytes tokens typed_in (λ b. reads b (perhaps typed_form) vs) e h))

      module _ (of : Option TypeTerm) (ws : List Spelled) (dt : IsDone (λ b. found_as typed_in (reads b (perhaps typed_form) vs)) of ws) where
        from_equals : (e : Fault) → Faults file bytes tokens (λ b. reads b equal_form ws) e → Fails e
        from_equals e h =
            let t = form_done (perhaps typed_form) typed_in typed_fine vs of ws dt in
            from_type e (fault_then_second file bytes tokens (perhaps typed_form) equal_form vs t.0 ws e t.2 h)

        -- in `=`
        pub global_equals : (e : Fault) → Faults file bytes tokens (λ b. read_token (is sort (equals ∷ [])) ws) e → Fails e
        global_equals e h = from_equals e (fault_then_token file bytes tokens (equals ∷ []) (Ref Expression) ws e h)

        -- in its value
        pub global_value : (s : Spelled) (xs : List Spelled) → read_token (is sort (equals ∷ [])) ws ≡ Done s xs → (e : Fault) → Faults file bytes tokens (λ b. found_tree b Expression xs) e → Fails e
        global_value s xs ds e h =
            from_equals e (fault_then_second file bytes tokens (T (equals ∷ [])) (Ref Expression) ws s xs e (done_token (equals ∷ []) ws s xs ds) (fault_ref file bytes tokens Expression xs e h))

-- a whole global
pub global_whole : (o : Bool) (w k s : Spelled) (of : Option TypeTerm) (x : Expr) (ts us vs ws xs rest : List Spelled) (assigned : Bool) (name : List ℕ)
    → read_token (is sort declaring) ts ≡ Done w us → read_token (is sort names) us ≡ Done k vs → IsDone (λ b. found_as typed_in (reads b (perhaps typed_form) vs)) of ws
    → read_token (is sort (equals ∷ [])) ws ≡ Done s xs → IsDone (λ b. found_tree b Expression xs) x rest → assigned ≡ (sort w == var_word) → name ≡ k.text
    → IsDone (λ b. found_as (global_from o) (reads b global_form ts)) (decl_kind.Global o assigned name of x) rest
global_whole o w k s of x ts us vs ws xs rest assigned name dw dk dt ds dx ea en =
    let t = form_done (perhaps typed_form) typed_in typed_fine vs of ws dt in
    let v = tree_done Expression xs x rest dx in
    let d =
    done_then (T declaring) named_form ts w us (k, (t.0, (s, (x, v.0)))) rest (done_token declaring ts w us dw)
    (done_then (T names) of_form us k vs (t.0, (s, (x, v.0))) rest (done_token names us k vs dk)
    (done_then (perhaps typed_form) equal_form vs t.0 ws (s, (x, v.0)) rest t.2 (done_then (T (equals ∷ [])) (Ref Expression) ws s xs (x, v.0) rest (done_token (equals ∷ []) ws s xs ds) v.1))) in
    λ b. done_as (global_from o) (reads b global_form ts) (w, (k, (t.0, (s, (x, v.0))))) rest (d b) ∙ rw (ea, en) (ap (λ y. Done (decl_kind.Global o (sort w == var_word) k.text y x) rest) t.1)

-- a global or a method

abbrev member_form : Bool → Form Name
member_form globals = Room globals global_form method_form

-- whether `val` or `var` comes, as a peek tells it
pub declaring_comes : (peeked : ℕ) (ts : List Spelled) → peeked ≡ head_sort ts → (peeked ≡ val_word) ⊎ ((peeked ≡ val_word → ⊥) × (peeked ≡ var_word)) → has declaring (head_sort ts) ≡ true
declaring_comes peeked ts e (inl s) = rw (← e, s) refl
declaring_comes peeked ts e (inr (n, s)) = rw (← e, s) refl

pub declaring_not : (peeked : ℕ) (ts : List Spelled) → peeked ≡ head_sort ts → (peeked ≡ val_word → ⊥) → (peeked ≡ var_word → ⊥) → has declaring (head_sort ts) ≡ false
declaring_not peeked ts e n m =
    let a : eqb val_word (head_sort ts) ≡ false = ne_eqb val_word (head_sort ts) (λ d. n (e ∙ sym d)) in
    let b : eqb var_word (head_sort ts) ≡ false = ne_eqb var_word (head_sort ts) (λ d. m (e ∙ sym d)) in
    rw (a, b)

-- each is read as itself
pub is_global : (o globals : Bool) (ts : List Spelled) → globals ≡ true → has declaring (head_sort ts) ≡ true
    → (b : Bound) → found_as (member_in o) (reads b (member_form globals) ts) ≡ found_as (global_from o) (reads b global_form ts)
is_global o globals ts e h b = ap (found_as (member_in o)) (room_left_reads b globals global_form method_form ts e refl h) ∙ found_as_as (member_in o) inl (reads b global_form ts)

pub is_method : (o globals : Bool) (ts : List Spelled) → ((globals ≡ false) ⊎ (has declaring (head_sort ts) ≡ false))
    → (b : Bound) → found_as (member_in o) (reads b (member_form globals) ts) ≡ found_as (method_from o) (reads b method_form ts)
is_method o globals ts (inl e) b = ap (found_as (member_in o)) (room_shut_reads b globals global_form method_form ts e) ∙ found_as_as (member_in o) inr (reads b method_form ts)
is_method o globals ts (inr h) b = ap (found_as (member_in o)) (room_right_reads b globals global_form method_form ts h) ∙ found_as_as (member_in o) inr (reads b method_form ts)

-- a member: its notes, `override` or nothing, and what it declares

abbrev override_form : Form Name
override_form = perhaps (T (override_word ∷ []))

abbrev kind_form : Bool → Form Name
kind_form globals = Then override_form (member_form globals)

-- the forms of a member pass the test
member_fine : (globals : Bool) → Fine (member_form globals)
unfolding example sort_of sort_of_mark sort_of_word sort_of_name sort_of_operator sort_of_prefixed sort_of_separator
member_fine true = refl
member_fine false = refl

kind_fine : (globals : Bool) → Fine (kind_form globals)
unfolding example sort_of sort_of_mark sort_of_word sort_of_name sort_of_operator sort_of_prefixed sort_of_separator
kind_fine true = refl
kind_fine false = refl

rule_fine : (globals : Bool) → Fine (rule_of (Member globals))
unfolding example sort_of sort_of_mark sort_of_word sort_of_name sort_of_operator sort_of_prefixed sort_of_separator
rule_fine true = refl
rule_fine false = refl

-- and none of them begins as an expression goes on
kind_apart : (globals : Bool) → disjoint after_kinds (sets_of sets_at (kind_form globals)).first ≡ true
kind_apart true = refl
kind_apart false = refl

-- whether `override` comes, and what stands behind it
abbrev pub Overrides : Bool → (ts rest : List Spelled) → Type 0
Overrides o ts rest = (v : Spelled ⊎ Unit {0}) × (overrides_in v ≡ o) × IsDone (λ b. reads b override_form ts) v rest

-- as a peek tells it
module _ (bytes : List ℕ) (tokens : List TokenOf) (at next peeked : ℕ) (e : peeked ≡ head_sort (behind bytes tokens at)) where
  pub overrides_so : (peeked < 99 → at < length tokens) → peeked ≡ override_word → next ≡ at + 1 → Overrides (peeked == override_word) (behind bytes tokens at) (behind bytes tokens next)
  overrides_so present s n =
      let ts = behind bytes tokens at in
      let h = comes override_word peeked ts e s in
      let k = token_here bytes tokens at next (override_word ∷ []) (omega arith) (present (omega arith)) h in
      (inl k.0, rw (s) refl, done_left (T (override_word ∷ [])) Nothing ts k.0 (behind bytes tokens next) refl h (done_token (override_word ∷ []) ts k.0 (behind bytes tokens next) k.1))

  pub overrides_not : (peeked ≡ override_word → ⊥) → next ≡ at → Overrides (peeked == override_word) (behind bytes tokens at) (behind bytes tokens next)
  overrides_not s n =
      let ts = behind bytes tokens at in
      let f : eqb peeked override_word ≡ false = ne_eqb peeked override_word s in
      (inr tt, rw (f) refl, rw (n) (done_none (T (override_word ∷ [])) ts (comes_not override_word peeked ts e s)))

module _ (file : ℕ) (bytes : List ℕ) (tokens : List TokenOf) (globals : Bool) (ts : List Spelled) where
  -- a fault in its notes
  pub member_notes : (e : Fault) → Faults file bytes tokens (λ b. found_tree b Notes ts) e → Faults file bytes tokens (λ b. found_tree b (Member globals) ts) e
  member_notes e h =
      fault_rule file bytes tokens (Member globals) refl ts e
      (fault_then file bytes tokens (Ref Notes) (kind_form globals) ts e (kind_fine globals) (kind_apart globals) (fault_ref file bytes tokens Notes ts e h))

  -- in what it declares
  pub member_kind : (notes : List Note) (o : Bool) (us vs : List Spelled) → IsDone (λ b. found_tree b Notes ts) notes us → Overrides o us vs
      → (e : Fault) → Faults file bytes tokens (λ b. found_as (member_in o) (reads b (member_form globals) vs)) e → Faults file bytes tokens (λ b. found_tree b (Member globals) ts) e
  member_kind notes o us vs dn (v, ev, dv) e h =
      let n = tree_done Notes ts notes us dn in
      fault_rule file bytes tokens (Member globals) refl ts e
      (fault_then_second file bytes tokens (Ref Notes) (kind_form globals) ts (notes, n.0) us e n.1
      (fault_then_second file bytes tokens override_form (member_form globals) us v vs e dv (fault_of file bytes tokens (member_in o) (λ b. reads b (member_form globals) vs) e h)))

-- a whole member, whose span is that of all its tokens
pub member_whole : (globals : Bool) (notes : List Note) (o : Bool) (kind : DeclKind) (span : Span) (ts us vs rest : List Spelled) → IsDone (λ b. found_tree b Notes ts) notes us → Overrides o us vs
    → IsDone (λ b. found_as (member_in o) (reads b (member_form globals) vs)) kind rest → ((used : List Spelled) → ts ≡ used ++ rest → span ≡ cover used)
    → IsDone (λ b. found_tree b (Member globals) ts) (roll-Decl (record { notes = notes; kind = kind; span = span })) rest
unfolding decl
member_whole globals notes o kind span ts us vs rest dn (v, ev, dv) dk covers =
    let n = tree_done Notes ts notes us dn in
    let k = form_done (member_form globals) (member_in o) (member_fine globals) vs kind rest dk in
    let d = done_then (Ref Notes) (kind_form globals) ts (notes, n.0) us (v, k.0) rest n.1 (done_then override_form (member_form globals) us v vs k.0 rest dv k.2) in
    let s = covered_by Limited (rule_of (Member globals)) (rule_fine globals) ((notes, n.0), (v, k.0)) ts rest span (d Limited) covers in
    let m : member_in (overrides_in v) k.0 ≡ kind = ap (λ z. member_in z k.0) ev ∙ k.1 in
    λ b. done_rule (Member globals) refl ts ((notes, n.0), (v, k.0)) rest d b ∙ ap₂ (λ x y. Done (decl notes x y) rest) m s

-- members in braces, or nothing

abbrev braces_form : Bool → Form Name
braces_form globals = Then (T (left_brace ∷ [])) (Ref (Members globals))

pub braced_none : (globals : Bool) (ts : List Spelled) → has (left_brace ∷ []) (head_sort ts) ≡ false → IsDone (λ b. found_tree b (Braced globals) ts) None ts
braced_none globals ts h = done_rule (Braced globals) refl ts (inr tt) ts (done_none (braces_form globals) ts h)

pub braced_whole : (globals : Bool) (ts us rest : List Spelled) (p : Spelled) (all : List Decl) → has (left_brace ∷ []) (head_sort ts) ≡ true → read_token (is sort (left_brace ∷ [])) ts ≡ Done p us
    → IsDone (λ b. found_tree b (Members globals) us) all rest → IsDone (λ b. found_tree b (Braced globals) ts) (Some all) rest
braced_whole globals ts us rest p all h dp dm =
    let m = tree_done (Members globals) us all rest dm in
    done_rule (Braced globals) refl ts (inl (p, (all, m.0))) rest
    (done_left (braces_form globals) Nothing ts (p, (all, m.0)) rest refl h
    (done_then (T (left_brace ∷ [])) (Ref (Members globals)) ts p us (all, m.0) rest (done_token (left_brace ∷ []) ts p us dp) m.1))

pub braced_fails : (file : ℕ) (bytes : List ℕ) (tokens : List TokenOf) (globals : Bool) (ts us : List Spelled) (p : Spelled) → has (left_brace ∷ []) (head_sort ts) ≡ true
    → read_token (is sort (left_brace ∷ [])) ts ≡ Done p us
    → (e : Fault) → Faults file bytes tokens (λ b. found_tree b (Members globals) us) e → Faults file bytes tokens (λ b. found_tree b (Braced globals) ts) e
braced_fails file bytes tokens globals ts us p h dp e f =
    fault_rule file bytes tokens (Braced globals) refl ts e
    (fault_left file bytes tokens (braces_form globals) Nothing ts e refl h
    (fault_then_second file bytes tokens (T (left_brace ∷ [])) (Ref (Members globals)) ts p us e (done_token (left_brace ∷ []) ts p us dp) (fault_ref file bytes tokens (Members globals) us e f)))
