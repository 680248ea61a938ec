-- Notes and their pairs, as the code reads them.
use Rattle.std.proofs.Common.{◌≡◌, ℕ, List, [], ◌∷◌, ◌++◌, refl, ap, ◌∙◌, inl, inr, false, true}
use Rattle.sl_text.specs.declared.place.Span.{Span}
use Rattle.sl_text.specs.declared.token.Token.{Token as TokenOf}
use Rattle.sl_text.specs.declared.fault.Fault.{Fault}
use Rattle.sl_grammar.specs.Phrase.{Done, read_token}
use Rattle.sl_grammar.specs.Law.{found_as}
use Rattle.sl_grammar.specs.Grammar.{Form, Nothing, Ref, Then, Val, is, has}
use Rattle.sl_tree.specs.Sorts.{Spelled, sort, example, sort_of, sort_of_mark, sort_of_name, at_sign, equals, left_parenthesis}
use Rattle.sl_tree.specs.WellShaped.{names, cover, field}
use Rattle.sl_tree.specs.declared.tree.Expr.{Expr}
use Rattle.sl_tree.specs.declared.tree.Field.{Field}
use Rattle.sl_parse_expr.specs.Told.{head_sort}
use Rattle.sl_parse.specs.Names.{Name, Expression, Pair, Note_of, T, perhaps, rule_of}
use Rattle.sl_parse.specs.Values.{T_of, value_of}
use Rattle.sl_parse.specs.Grammar.{Limited}
use Rattle.sl_parse.specs.Told.{found_tree, reads, IsDone, Faults, pairs_form, pairs_view}
use Rattle.sl_parse.proofs.Laws.{Fine}
use Rattle.sl_parse.proofs.Telling.{form_done, tree_done, covered_by, done_then, done_token, done_left, done_none, done_rule, fault_of, fault_then_token, fault_then_second, fault_left, fault_ref, fault_rule}

-- `NAME = EXPR`

abbrev given : Form Name
given = Then (T (equals ∷ [])) (Ref Expression)

pub pair_read : (ts more rest left : List Spelled) (k d : Spelled) (x : Expr) → read_token (is sort names) ts ≡ Done k more → read_token (is sort (equals ∷ [])) more ≡ Done d rest
    → IsDone (λ b. found_tree b Expression rest) x left → IsDone (λ b. found_tree b Pair ts) (field k.text x) left
pair_read ts more rest left k d x name equal value =
    let v = tree_done Expression rest x left value in
    done_rule Pair refl ts (k, (d, (x, v.0))) left
    (done_then (T names) given ts k more (d, (x, v.0)) left (done_token names ts k more name)
    (done_then (T (equals ∷ [])) (Ref Expression) more d rest (x, v.0) left (done_token (equals ∷ []) more d rest equal) v.1))

-- its three parts at fault
module _ (file : ℕ) (bytes : List ℕ) (tokens : List TokenOf) (ts : List Spelled) (e : Fault) where
  pub pair_unnamed : Faults file bytes tokens (λ b. read_token (is sort names) ts) e → Faults file bytes tokens (λ b. found_tree b Pair ts) e
  pair_unnamed h = fault_rule file bytes tokens Pair refl ts e (fault_then_token file bytes tokens names given ts e h)

  pub pair_unequal : (more : List Spelled) (k : Spelled) → read_token (is sort names) ts ≡ Done k more → Faults file bytes tokens (λ b. read_token (is sort (equals ∷ [])) more) e
      → Faults file bytes tokens (λ b. found_tree b Pair ts) e
  pair_unequal more k name h =
      fault_rule file bytes tokens Pair refl ts e
      (fault_then_second file bytes tokens (T names) given ts k more e (done_token names ts k more name)
      (fault_then_token file bytes tokens (equals ∷ []) (Ref Expression) more e h))

  pub pair_ungiven : (more rest : List Spelled) (k d : Spelled) → read_token (is sort names) ts ≡ Done k more → read_token (is sort (equals ∷ [])) more ≡ Done d rest
      → Faults file bytes tokens (λ b. found_tree b Expression rest) e → Faults file bytes tokens (λ b. found_tree b Pair ts) e
  pair_ungiven more rest k d name equal h =
      fault_rule file bytes tokens Pair refl ts e
      (fault_then_second file bytes tokens (T names) given ts k more e (done_token names ts k more name)
      (fault_then_second file bytes tokens (T (equals ∷ [])) (Ref Expression) more d rest e (done_token (equals ∷ []) more d rest equal)
      (fault_ref file bytes tokens Expression rest e h)))

-- `@NAME`, with pairs in parentheses or without

abbrev named : Form Name
named = Then (T names) (perhaps pairs_form)

pairs_fine : Fine pairs_form
unfolding example sort_of sort_of_mark
pairs_fine = refl

note_fine : Fine (rule_of Note_of)
unfolding example sort_of sort_of_mark sort_of_name
note_fine = refl

module _ (ts more rest : List Spelled) (w k : Spelled) (span : Span) where
  -- with a span that covers its tokens
  note_done : (p : Val sort T_of (perhaps pairs_form)) (left : List Spelled) → read_token (is sort (at_sign ∷ [])) ts ≡ Done w more → read_token (is sort names) more ≡ Done k rest
      → IsDone (λ b. reads b (perhaps pairs_form) rest) p left → ((used : List Spelled) → ts ≡ used ++ left → span ≡ cover used) → IsDone (λ b. found_tree b Note_of ts) (value_of Note_of (w, (k, p)) span) left
  note_done p left sign name pairs covers =
      let all : IsDone (λ b. reads b (rule_of Note_of) ts) (w, (k, p)) left =
      done_then (T (at_sign ∷ [])) named ts w more (k, p) left (done_token (at_sign ∷ []) ts w more sign) (done_then (T names) (perhaps pairs_form) more k rest p left (done_token names more k rest name) pairs) in
      λ b. done_rule Note_of refl ts (w, (k, p)) left all b
      ∙ ap (λ s. Done (value_of Note_of (w, (k, p)) s) left) (covered_by Limited (rule_of Note_of) note_fine (w, (k, p)) ts left span (all Limited) covers)

  pub note_bare : read_token (is sort (at_sign ∷ [])) ts ≡ Done w more → read_token (is sort names) more ≡ Done k rest → has (left_parenthesis ∷ []) (head_sort rest) ≡ false
      → ((used : List Spelled) → ts ≡ used ++ rest → span ≡ cover used) → IsDone (λ b. found_tree b Note_of ts) (record { name = k.text; pairs = []; span = span }) rest
  note_bare sign name none covers = note_done (inr tt) rest sign name (done_none pairs_form rest none) covers

  pub note_paired : (all : List Field) (left : List Spelled) → read_token (is sort (at_sign ∷ [])) ts ≡ Done w more → read_token (is sort names) more ≡ Done k rest
      → has (left_parenthesis ∷ []) (head_sort rest) ≡ true → IsDone (λ b. found_as pairs_view (reads b pairs_form rest)) all left
      → ((used : List Spelled) → ts ≡ used ++ left → span ≡ cover used) → IsDone (λ b. found_tree b Note_of ts) (record { name = k.text; pairs = all; span = span }) left
  note_paired all left sign name some pairs covers =
      let v = form_done pairs_form pairs_view pairs_fine rest all left pairs in
      λ b. note_done (inl v.0) left sign name (done_left pairs_form Nothing rest v.0 left refl some v.2) covers b ∙ ap (λ xs. Done (record { name = k.text; pairs = xs; span = span }) left) v.1

-- its three parts at fault
module _ (file : ℕ) (bytes : List ℕ) (tokens : List TokenOf) (ts : List Spelled) (e : Fault) where
  pub note_unmarked : Faults file bytes tokens (λ b. read_token (is sort (at_sign ∷ [])) ts) e → Faults file bytes tokens (λ b. found_tree b Note_of ts) e
  note_unmarked h = fault_rule file bytes tokens Note_of refl ts e (fault_then_token file bytes tokens (at_sign ∷ []) named ts e h)

  pub note_unnamed : (more : List Spelled) (w : Spelled) → read_token (is sort (at_sign ∷ [])) ts ≡ Done w more → Faults file bytes tokens (λ b. read_token (is sort names) more) e
      → Faults file bytes tokens (λ b. found_tree b Note_of ts) e
  note_unnamed more w sign h =
      fault_rule file bytes tokens Note_of refl ts e
      (fault_then_second file bytes tokens (T (at_sign ∷ [])) named ts w more e (done_token (at_sign ∷ []) ts w more sign)
      (fault_then_token file bytes tokens names (perhaps pairs_form) more e h))

  pub note_unpaired : (more rest : List Spelled) (w k : Spelled) → read_token (is sort (at_sign ∷ [])) ts ≡ Done w more → read_token (is sort names) more ≡ Done k rest
      → has (left_parenthesis ∷ []) (head_sort rest) ≡ true → Faults file bytes tokens (λ b. found_as pairs_view (reads b pairs_form rest)) e → Faults file bytes tokens (λ b. found_tree b Note_of ts) e
  note_unpaired more rest w k sign name some h =
      fault_rule file bytes tokens Note_of refl ts e
      (fault_then_second file bytes tokens (T (at_sign ∷ [])) named ts w more e (done_token (at_sign ∷ []) ts w more sign)
      (fault_then_second file bytes tokens (T names) (perhaps pairs_form) more k rest e (done_token names more k rest name)
      (fault_left file bytes tokens pairs_form Nothing rest e refl some (fault_of file bytes tokens pairs_view (λ b. reads b pairs_form rest) e h))))
