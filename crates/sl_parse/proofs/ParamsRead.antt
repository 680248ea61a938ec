-- Parameters and parents, as the code reads them.
use Rattle.std.proofs.Common.{◌≡◌, ℕ, ◌+◌, suc, List, [], ◌∷◌, refl, sym, ap, subst, ◌∙◌, inl, inr, ◌⊎◌, Bool, false, true, true≢false, if◌then◌else◌, arith}
use Rattle.std.specs.Prelude.{eqb}
use Rattle.std.specs.declared.result.Result.{Result}
use Rattle.std.proofs.lemmas.Bool.{ne_eqb}
use Rattle.sl_text.specs.declared.token.Token.{Token as TokenOf}
use Rattle.sl_text.specs.declared.fault.Fault.{Fault}
use Rattle.sl_grammar.specs.Phrase.{Done, Stopped, read_token}
use Rattle.sl_grammar.specs.Law.{found_as}
use Rattle.sl_grammar.specs.Grammar.{Form, Nothing, Ref, Then, is, has}
use Rattle.sl_grammar.proofs.Growing.{found_as_as}
use Rattle.sl_tree.specs.Sorts.{Spelled, sort, colon, val_word, var_word, extends_word}
use Rattle.sl_tree.specs.WellShaped.{names}
use Rattle.sl_tree.specs.declared.tree.TypeTerm.{TypeTerm}
use Rattle.sl_tree.specs.declared.tree.Keyword.TheVariants as keyword
use Rattle.sl_parse_expr.specs.Told.{behind, head_sort}
use Rattle.sl_parse_expr.proofs.Behind.{present}
use Rattle.sl_parse_expr.proofs.Telling.{both_go, token_here}
use Rattle.sl_parse.specs.Names.{Name, Type_term, Param_of, Parents, T, perhaps, typed_form, extends_form}
use Rattle.sl_parse.specs.Values.{keyword_of, keyword_in, param_from, extends_in, parents_in}
use Rattle.sl_parse.specs.Grammar.{Bound}
use Rattle.sl_parse.specs.Told.{found_tree, reads, IsDone, Faults, Told, types_form, types_view}
use Rattle.sl_parse.proofs.Telling.{told_same, then_reads, left_reads, tree_rule, tree_done, done_then, done_token, done_left, done_none, done_rule, fault_as, fault_then_token, fault_then_second, fault_ref, fault_rule}

-- the word before a parameter, or none

abbrev word_form : Form Name
word_form = perhaps (T (val_word ∷ var_word ∷ []))

no_word : (s : ℕ) → has (val_word ∷ var_word ∷ []) s ≡ false → keyword.Nothing ≡ keyword_of s
no_word s h =
    let a : eqb s var_word ≡ false = ne_eqb s var_word (λ e. true≢false (subst (λ z. has (val_word ∷ var_word ∷ []) z ≡ false) e h)) in
    let b : eqb s val_word ≡ false = ne_eqb s val_word (λ e. true≢false (subst (λ z. has (val_word ∷ var_word ∷ []) z ≡ false) e h)) in
    rw (a, b)

taken_sort : (ks : List ℕ) (ts more : List Spelled) (k : Spelled) → read_token (is sort ks) ts ≡ Done k more → sort k ≡ head_sort ts
taken_sort ks [] more k e = absurd cc
taken_sort ks (j ∷ ts) more k e = by (has ks (sort j)) e
  where
    by : (c : Bool) → (if c then Done j ts else Stopped (j ∷ ts)) ≡ Done k more → sort k ≡ sort j
    by true d = let same : k ≡ j = cc in ap sort same
    by false d = absurd cc

-- where the name is
abbrev pub IsNameAt : (start at first : ℕ) → Type 0
IsNameAt start at first = ((has (val_word ∷ var_word ∷ []) first ≡ true) × (at ≡ start + 1)) ⊎ ((has (val_word ∷ var_word ∷ []) first ≡ false) × (at ≡ start))

-- what was read before it
abbrev WordRead : (ts rest : List Spelled) (first : ℕ) → Type 0
WordRead ts rest first = (w : Spelled ⊎ Unit {0}) × (keyword_in w ≡ keyword_of first) × IsDone (λ b. reads b word_form ts) w rest

pub word_read : (bytes : List ℕ) (tokens : List TokenOf) (start at first : ℕ) → first ≡ head_sort (behind bytes tokens start) → IsNameAt start at first → WordRead (behind bytes tokens start) (behind bytes tokens at) first
word_read bytes tokens start at first e (inl (h, s)) =
    let ts = behind bytes tokens start in
    let some : has (val_word ∷ var_word ∷ []) (head_sort ts) ≡ true = subst (λ z. has (val_word ∷ var_word ∷ []) z ≡ true) e h in
    let next : at ≡ suc start = omega arith in
    let d = token_here bytes tokens start at (val_word ∷ var_word ∷ []) next (present bytes tokens start (val_word ∷ var_word ∷ []) refl some) some in (
      inl d.0,
      ap keyword_of (taken_sort (val_word ∷ var_word ∷ []) ts (behind bytes tokens at) d.0 d.1 ∙ sym e),
      done_left (T (val_word ∷ var_word ∷ [])) Nothing ts d.0 (behind bytes tokens at) refl some (done_token (val_word ∷ var_word ∷ []) ts d.0 (behind bytes tokens at) d.1),
    )
word_read bytes tokens start at first e (inr (h, s)) =
    let ts = behind bytes tokens start in
    let none : has (val_word ∷ var_word ∷ []) (head_sort ts) ≡ false = subst (λ z. has (val_word ∷ var_word ∷ []) z ≡ false) e h in
    (inr tt, no_word first h, subst (λ z. IsDone (λ b. reads b word_form ts) (inr tt) (behind bytes tokens z)) (sym s) (done_none (T (val_word ∷ var_word ∷ [])) ts none))

-- `NAME: TYPE` behind it

abbrev named : Form Name
named = Then (T names) typed_form

module _ (ts us : List Spelled) (first : ℕ) (word : WordRead ts us first) where
  pub param_read : (more rest left : List Spelled) (k d : Spelled) (x : TypeTerm) → read_token (is sort names) us ≡ Done k more → read_token (is sort (colon ∷ [])) more ≡ Done d rest
      → IsDone (λ b. found_tree b Type_term rest) x left → IsDone (λ b. found_tree b Param_of ts) (param_from (keyword_of first) k x) left
  param_read more rest left k d x name mark kind =
      let v = tree_done Type_term rest x left kind in
      λ b. done_rule Param_of refl ts (word.0, (k, (d, (x, v.0)))) left
      (done_then word_form named ts word.0 us (k, (d, (x, v.0))) left word.2
      (done_then (T names) typed_form us k more (d, (x, v.0)) left (done_token names us k more name)
      (done_then (T (colon ∷ [])) (Ref Type_term) more d rest (x, v.0) left (done_token (colon ∷ []) more d rest mark) v.1))) b
      ∙ ap (λ z. Done (param_from z k x) left) word.1

  -- its three parts at fault
  module _ (file : ℕ) (bytes : List ℕ) (tokens : List TokenOf) (e : Fault) where
    param_rest : Faults file bytes tokens (λ b. reads b named us) e → Faults file bytes tokens (λ b. found_tree b Param_of ts) e
    param_rest h = fault_rule file bytes tokens Param_of refl ts e (fault_then_second file bytes tokens word_form named ts word.0 us e word.2 h)

    pub param_unnamed : Faults file bytes tokens (λ b. read_token (is sort names) us) e → Faults file bytes tokens (λ b. found_tree b Param_of ts) e
    param_unnamed h = param_rest (fault_then_token file bytes tokens names typed_form us e h)

    pub param_unmarked : (more : List Spelled) (k : Spelled) → read_token (is sort names) us ≡ Done k more → Faults file bytes tokens (λ b. read_token (is sort (colon ∷ [])) more) e
        → Faults file bytes tokens (λ b. found_tree b Param_of ts) e
    param_unmarked more k name h =
        param_rest (fault_then_second file bytes tokens (T names) typed_form us k more e (done_token names us k more name) (fault_then_token file bytes tokens (colon ∷ []) (Ref Type_term) more e h))

    pub param_untyped : (more rest : List Spelled) (k d : Spelled) → read_token (is sort names) us ≡ Done k more → read_token (is sort (colon ∷ [])) more ≡ Done d rest
        → Faults file bytes tokens (λ b. found_tree b Type_term rest) e → Faults file bytes tokens (λ b. found_tree b Param_of ts) e
    param_untyped more rest k d name mark h =
        param_rest (fault_then_second file bytes tokens (T names) typed_form us k more e (done_token names us k more name)
        (fault_then_second file bytes tokens (T (colon ∷ [])) (Ref Type_term) more d rest e (done_token (colon ∷ []) more d rest mark) (fault_ref file bytes tokens Type_term rest e h)))

-- types behind `extends`

extends_types : (ts more : List Spelled) (k : Spelled) → read_token (is sort (extends_word ∷ [])) ts ≡ Done k more
    → (b : Bound) → found_as extends_in (reads b extends_form ts) ≡ found_as types_view (reads b types_form more)
extends_types ts more k e b =
    let word = done_token (extends_word ∷ []) ts k more e b in
    ap (found_as extends_in) (then_reads b (T (extends_word ∷ [])) types_form ts ∙ both_go (reads b (T (extends_word ∷ []))) (reads b types_form) ts k more word)
    ∙ found_as_as extends_in (λ y. (k, y)) (reads b types_form more)

parents_extend : (ts : List Spelled) → has (extends_word ∷ []) (head_sort ts) ≡ true → (b : Bound) → found_tree b Parents ts ≡ found_as extends_in (reads b extends_form ts)
parents_extend ts h b =
    tree_rule b Parents refl ts ∙ (ap (found_as parents_in) (left_reads b extends_form Nothing ts refl h) ∙ found_as_as parents_in inl (reads b extends_form ts))

-- parents, or nothing
pub parents_none : (ts : List Spelled) → has (extends_word ∷ []) (head_sort ts) ≡ false → IsDone (λ b. found_tree b Parents ts) [] ts
parents_none ts h = done_rule Parents refl ts (inr tt) ts (done_none extends_form ts h)

module _ (file : ℕ) (bytes : List ℕ) (tokens : List TokenOf) (ts : List Spelled) where
  pub extends_unmarked : (e : Fault) → Faults file bytes tokens (λ b. read_token (is sort (extends_word ∷ [])) ts) e → Faults file bytes tokens (λ b. found_as extends_in (reads b extends_form ts)) e
  extends_unmarked e h = fault_as file bytes tokens extends_in (λ b. reads b extends_form ts) e (fault_then_token file bytes tokens (extends_word ∷ []) types_form ts e h)

  pub extends_told : (more : List Spelled) (k : Spelled) (r : Result (List TypeTerm × ℕ) Fault) → read_token (is sort (extends_word ∷ [])) ts ≡ Done k more
      → Told file bytes tokens (λ b. found_as types_view (reads b types_form more)) r → Told file bytes tokens (λ b. found_as extends_in (reads b extends_form ts)) r
  extends_told more k r e h =
      told_same file bytes tokens (λ b. found_as types_view (reads b types_form more)) (λ b. found_as extends_in (reads b extends_form ts)) r (extends_types ts more k e) h

  pub parents_told : (r : Result (List TypeTerm × ℕ) Fault) → has (extends_word ∷ []) (head_sort ts) ≡ true
      → Told file bytes tokens (λ b. found_as extends_in (reads b extends_form ts)) r → Told file bytes tokens (λ b. found_tree b Parents ts) r
  parents_told r some h = told_same file bytes tokens (λ b. found_as extends_in (reads b extends_form ts)) (λ b. found_tree b Parents ts) r (parents_extend ts some) h
