-- Methods, as the code reads them.
use Rattle.std.proofs.Common.{◌≡◌, ℕ, ◌+◌, suc, List, [], ◌∷◌, refl, ap, ◌∙◌, inl, inr, ◌⊎◌, Bool, true, false, arith}
use Rattle.std.specs.Prelude.{Option, Some, None}
use Rattle.sl_text.specs.declared.token.Token.{Token as TokenOf}
use Rattle.sl_text.specs.declared.fault.Fault.{Fault}
use Rattle.sl_grammar.specs.Phrase.{Done, read_token}
use Rattle.sl_grammar.specs.Law.{found_as}
use Rattle.sl_grammar.specs.Grammar.{Form, Nothing, Ref, Then, Either, Val, is, has}
use Rattle.sl_tree.specs.Sorts.{Spelled, sort, example, sort_of, sort_of_mark, left_parenthesis, left_brace, colon, equals, def_word}
use Rattle.sl_tree.specs.WellShaped.{names}
use Rattle.sl_tree.specs.declared.tree.TypeTerm.{TypeTerm}
use Rattle.sl_tree.specs.declared.tree.Expr.{Expr}
use Rattle.sl_tree.specs.declared.tree.Stmt.{Stmt}
use Rattle.sl_tree.specs.declared.tree.Param.{Param}
use Rattle.sl_tree.specs.declared.tree.Body.{Body}
use Rattle.sl_tree.specs.declared.tree.Body.TheVariants as body
use Rattle.sl_tree.specs.declared.tree.DeclKind.TheVariants as decl_kind
use Rattle.sl_parse_expr.specs.Told.{behind, head_sort}
use Rattle.sl_parse_expr.proofs.Telling.{done_as}
use Rattle.sl_parse.specs.Names.{Name, Type_term, Expression, Block, Type_params, Params, T, perhaps, typed_form, given_form, result_form, method_form}
use Rattle.sl_parse.specs.Values.{Covered, T_of, ResultParts, typed_in, given_in, method_params_in, method_from}
use Rattle.sl_parse.specs.Told.{Family, IsDone, Faults, found_tree, reads, result_view}
use Rattle.sl_parse.proofs.Laws.{Fine}
use Rattle.sl_parse.proofs.Telling.{form_done, tree_done, done_then, done_token, done_left, done_right, done_none, same_ref, fault_as, fault_of, fault_then, fault_then_alone, fault_then_second, fault_then_token, fault_left, fault_right, fault_ref}

-- the token at an index, and those behind it
next_token : (ks : List ℕ) (bytes : List ℕ) (tokens : List TokenOf) (at next : ℕ) (k : Spelled) → next ≡ suc at
    → read_token (is sort ks) (behind bytes tokens at) ≡ Done k (behind bytes tokens (suc at)) → IsDone (λ b. reads b (T ks) (behind bytes tokens at)) k (behind bytes tokens next)
next_token ks bytes tokens at next k n d = done_token ks (behind bytes tokens at) k (behind bytes tokens next) (rw (n) d)

-- what was read, seen as something else
seen : {X Y : Type 0} (view : X → Y) (f : Family X) (x : X) (rest : List Spelled) → IsDone f x rest → IsDone (λ b. found_as view (f b)) (view x) rest
seen view f x rest d = λ b. done_as view (f b) x rest (d b)

-- a token with a form behind it, where there may be nothing
marked : (ks : List ℕ) (q : Form Name) (ts us rest : List Spelled) (k : Spelled) (y : Val sort T_of q) → has ks 99 ≡ false → has ks (head_sort ts) ≡ true → read_token (is sort ks) ts ≡ Done k us
    → IsDone (λ b. reads b q us) y rest → IsDone (λ b. reads b (perhaps (Then (T ks) q)) ts) (inl (k, y)) rest
marked ks q ts us rest k y n h d e = done_left (Then (T ks) q) Nothing ts (k, y) rest n h (done_then (T ks) q ts k us y rest (done_token ks ts k us d) e)

-- forms that pass the test

given_fine : Fine (perhaps given_form)
unfolding example sort_of sort_of_mark
given_fine = refl

result_fine : Fine result_form
unfolding example sort_of sort_of_mark
result_fine = refl

-- what is read

pub typed_none : (ts : List Spelled) → has (colon ∷ []) (head_sort ts) ≡ false → IsDone (λ b. found_as typed_in (reads b (perhaps typed_form) ts)) None ts
typed_none ts h = seen typed_in (λ b. reads b (perhaps typed_form) ts) (inr tt) ts (done_none typed_form ts h)

pub typed_some : (ts us rest : List Spelled) (k : Spelled) (x : TypeTerm) → has (colon ∷ []) (head_sort ts) ≡ true → read_token (is sort (colon ∷ [])) ts ≡ Done k us
    → IsDone (λ b. found_tree b Type_term us) x rest → IsDone (λ b. found_as typed_in (reads b (perhaps typed_form) ts)) (Some x) rest
typed_some ts us rest k x h d e =
    let w = tree_done Type_term us x rest e in
    seen typed_in (λ b. reads b (perhaps typed_form) ts) (inl (k, (x, w.0))) rest (marked (colon ∷ []) (Ref Type_term) ts us rest k (x, w.0) refl h d w.1)

pub given_none : (ts : List Spelled) → has (equals ∷ []) (head_sort ts) ≡ false → IsDone (λ b. found_as given_in (reads b (perhaps given_form) ts)) None ts
given_none ts h = seen given_in (λ b. reads b (perhaps given_form) ts) (inr tt) ts (done_none given_form ts h)

abbrev of_body : Form Name
of_body = Either (Ref Block) (Ref Expression)

pub given_block : (ts us rest : List Spelled) (k : Spelled) (x : List Stmt) → has (equals ∷ []) (head_sort ts) ≡ true → read_token (is sort (equals ∷ [])) ts ≡ Done k us
    → has (left_brace ∷ []) (head_sort us) ≡ true → IsDone (λ b. found_tree b Block us) x rest → IsDone (λ b. found_as given_in (reads b (perhaps given_form) ts)) (Some (body.Block x)) rest
given_block ts us rest k x h d l e =
    let w = tree_done Block us x rest e in
    seen given_in (λ b. reads b (perhaps given_form) ts) (inl (k, inl (x, w.0))) rest
    (marked (equals ∷ []) of_body ts us rest k (inl (x, w.0)) refl h d (done_left (Ref Block) (Ref Expression) us (x, w.0) rest refl l w.1))

pub given_value : (ts us rest : List Spelled) (k : Spelled) (x : Expr) → has (equals ∷ []) (head_sort ts) ≡ true → read_token (is sort (equals ∷ [])) ts ≡ Done k us
    → has (left_brace ∷ []) (head_sort us) ≡ false → IsDone (λ b. found_tree b Expression us) x rest → IsDone (λ b. found_as given_in (reads b (perhaps given_form) ts)) (Some (body.Value x)) rest
given_value ts us rest k x h d l e =
    let w = tree_done Expression us x rest e in
    seen given_in (λ b. reads b (perhaps given_form) ts) (inl (k, inr (x, w.0))) rest
    (marked (equals ∷ []) of_body ts us rest k (inr (x, w.0)) refl h d (done_right (Ref Block) (Ref Expression) us (x, w.0) rest l w.1))

abbrev with_body : Form Name
with_body = Then (Ref Type_term) (perhaps given_form)

pub result_done : (bytes : List ℕ) (tokens : List TokenOf) (start : ℕ) (vs rest : List Spelled) (k : Spelled) (x : TypeTerm) (y : Option Body)
    → read_token (is sort (colon ∷ [])) (behind bytes tokens start) ≡ Done k (behind bytes tokens (suc start)) → IsDone (λ b. found_tree b Type_term (behind bytes tokens (start + 1))) x vs
    → IsDone (λ b. found_as given_in (reads b (perhaps given_form) vs)) y rest → IsDone (λ b. found_as result_view (reads b result_form (behind bytes tokens start))) (x, y) rest
result_done bytes tokens start vs rest k x y d e g =
    let ts = behind bytes tokens start in
    let us = behind bytes tokens (start + 1) in
    let w = tree_done Type_term us x vs e in
    let z = form_done (perhaps given_form) given_in given_fine vs y rest g in
    λ b. seen result_view (λ b. reads b result_form ts) (k, ((x, w.0), z.0)) rest
    (done_then (T (colon ∷ [])) with_body ts k us ((x, w.0), z.0) rest (next_token (colon ∷ []) bytes tokens start (start + 1) k (omega arith) d)
    (done_then (Ref Type_term) (perhaps given_form) us (x, w.0) vs z.0 rest w.1 z.2)) b
    ∙ ap (λ o. Done (x, o) rest) z.1

pub method_params_none : (ts : List Spelled) → has (left_parenthesis ∷ []) (head_sort ts) ≡ false → IsDone (λ b. found_as method_params_in (reads b (perhaps (Ref Params)) ts)) None ts
method_params_none ts h = seen method_params_in (λ b. reads b (perhaps (Ref Params)) ts) (inr tt) ts (done_none (Ref Params) ts h)

pub method_params_some : (ts rest : List Spelled) (x : List Param) → has (left_parenthesis ∷ []) (head_sort ts) ≡ true → IsDone (λ b. found_tree b Params ts) x rest
    → IsDone (λ b. found_as method_params_in (reads b (perhaps (Ref Params)) ts)) (Some x) rest
method_params_some ts rest x h e =
    let w = tree_done Params ts x rest e in
    seen method_params_in (λ b. reads b (perhaps (Ref Params)) ts) (inl (x, w.0)) rest (done_left (Ref Params) Nothing ts (x, w.0) rest refl h w.1)

-- a method from its parameters on, from its type parameters on, and from its name on

abbrev from_params : Form Name
from_params = Then (perhaps (Ref Params)) result_form

abbrev from_types : Form Name
from_types = Then (Ref Type_params) from_params

abbrev from_name : Form Name
from_name = Then (T names) from_types

-- what its parts make
method_made : (o : Bool) (w k : Spelled) (types : Covered (List (List ℕ))) (params : Covered (List Param) ⊎ Unit {0}) (result : ResultParts) (name : List ℕ) (those : Option (List Param)) (of : TypeTerm) (given : Option Body)
    → name ≡ k.text → method_params_in params ≡ those → result_view result ≡ (of, given) → method_from o (w, (k, (types, (params, result)))) ≡ decl_kind.Method o name types.0 those of given
method_made o w k types params (c, (x, body)) name those of given same p r = rw (same, ← p) (ap (λ (y : TypeTerm × Option Body). decl_kind.Method o k.text types.0 (method_params_in params) y.0 y.1) r)

pub method_done : (bytes : List ℕ) (tokens : List TokenOf) (start : ℕ) (o : Bool) (ws xs rest : List Spelled) (w k : Spelled) (name : List ℕ) (types : List (List ℕ)) (params : Option (List Param)) (of : TypeTerm) (given : Option Body)
    → read_token (is sort (def_word ∷ [])) (behind bytes tokens start) ≡ Done w (behind bytes tokens (suc start)) → read_token (is sort names) (behind bytes tokens (start + 1)) ≡ Done k (behind bytes tokens (suc (start + 1)))
    → name ≡ k.text → IsDone (λ b. found_tree b Type_params (behind bytes tokens (start + 2))) types ws → IsDone (λ b. found_as method_params_in (reads b (perhaps (Ref Params)) ws)) params xs
    → IsDone (λ b. found_as result_view (reads b result_form xs)) (of, given) rest → IsDone (λ b. found_as (method_from o) (reads b method_form (behind bytes tokens start))) (decl_kind.Method o name types params of given) rest
method_done bytes tokens start o ws xs rest w k name types params of given d n same t p r =
    let ts = behind bytes tokens start in
    let us = behind bytes tokens (start + 1) in
    let vs = behind bytes tokens (start + 2) in
    let x = tree_done Type_params vs types ws t in
    let y = form_done (perhaps (Ref Params)) method_params_in refl ws params xs p in
    let z = form_done result_form result_view result_fine xs (of, given) rest r in
    λ b. seen (method_from o) (λ b. reads b method_form ts) (w, (k, ((types, x.0), (y.0, z.0)))) rest
    (done_then (T (def_word ∷ [])) from_name ts w us (k, ((types, x.0), (y.0, z.0))) rest (next_token (def_word ∷ []) bytes tokens start (start + 1) w (omega arith) d)
    (done_then (T names) from_types us k vs ((types, x.0), (y.0, z.0)) rest (next_token names bytes tokens (start + 1) (start + 2) k (omega arith) n)
    (done_then (Ref Type_params) from_params vs (types, x.0) ws (y.0, z.0) rest x.1 (done_then (perhaps (Ref Params)) result_form ws y.0 xs z.0 rest y.2 z.2)))) b
    ∙ ap (λ v. Done v rest) (method_made o w k (types, x.0) y.0 z.0 name params of given same y.1 z.1)

-- faults of the parts are faults of the whole
module _ (file : ℕ) (bytes : List ℕ) (tokens : List TokenOf) where
  pub typed_fault : (ts us : List Spelled) (k : Spelled) (e : Fault) → has (colon ∷ []) (head_sort ts) ≡ true → read_token (is sort (colon ∷ [])) ts ≡ Done k us
      → Faults file bytes tokens (λ b. found_tree b Type_term us) e → Faults file bytes tokens (λ b. found_as typed_in (reads b (perhaps typed_form) ts)) e
  typed_fault ts us k e h d f =
      fault_as file bytes tokens typed_in (λ b. reads b (perhaps typed_form) ts) e (fault_left file bytes tokens typed_form Nothing ts e refl h
      (fault_then_second file bytes tokens (T (colon ∷ [])) (Ref Type_term) ts k us e (done_token (colon ∷ []) ts k us d) (fault_ref file bytes tokens Type_term us e f)))

  -- what is given
  given_fault : (ts us : List Spelled) (k : Spelled) (e : Fault) → has (equals ∷ []) (head_sort ts) ≡ true → read_token (is sort (equals ∷ [])) ts ≡ Done k us
      → Faults file bytes tokens (λ b. reads b of_body us) e → Faults file bytes tokens (λ b. found_as given_in (reads b (perhaps given_form) ts)) e
  given_fault ts us k e h d f =
      fault_as file bytes tokens given_in (λ b. reads b (perhaps given_form) ts) e (fault_left file bytes tokens given_form Nothing ts e refl h
      (fault_then_second file bytes tokens (T (equals ∷ [])) of_body ts k us e (done_token (equals ∷ []) ts k us d) f))

  pub given_block_fault : (ts us : List Spelled) (k : Spelled) (e : Fault) → has (equals ∷ []) (head_sort ts) ≡ true → read_token (is sort (equals ∷ [])) ts ≡ Done k us
      → has (left_brace ∷ []) (head_sort us) ≡ true → Faults file bytes tokens (λ b. found_tree b Block us) e → Faults file bytes tokens (λ b. found_as given_in (reads b (perhaps given_form) ts)) e
  given_block_fault ts us k e h d l f = given_fault ts us k e h d (fault_left file bytes tokens (Ref Block) (Ref Expression) us e refl l (fault_ref file bytes tokens Block us e f))

  pub given_value_fault : (ts us : List Spelled) (k : Spelled) (e : Fault) → has (equals ∷ []) (head_sort ts) ≡ true → read_token (is sort (equals ∷ [])) ts ≡ Done k us
      → has (left_brace ∷ []) (head_sort us) ≡ false → Faults file bytes tokens (λ b. found_tree b Expression us) e → Faults file bytes tokens (λ b. found_as given_in (reads b (perhaps given_form) ts)) e
  given_value_fault ts us k e h d l f = given_fault ts us k e h d (fault_right file bytes tokens (Ref Block) (Ref Expression) us e l (fault_ref file bytes tokens Expression us e f))

  -- a result: its colon, its type, what is given
  pub result_unmarked : (ts : List Spelled) (e : Fault) → Faults file bytes tokens (λ b. read_token (is sort (colon ∷ [])) ts) e → Faults file bytes tokens (λ b. found_as result_view (reads b result_form ts)) e
  result_unmarked ts e f = fault_as file bytes tokens result_view (λ b. reads b result_form ts) e (fault_then_token file bytes tokens (colon ∷ []) with_body ts e f)

  pub result_untyped : (start : ℕ) (k : Spelled) (e : Fault) → read_token (is sort (colon ∷ [])) (behind bytes tokens start) ≡ Done k (behind bytes tokens (suc start))
      → Faults file bytes tokens (λ b. found_tree b Type_term (behind bytes tokens (start + 1))) e → Faults file bytes tokens (λ b. found_as result_view (reads b result_form (behind bytes tokens start))) e
  result_untyped start k e d f =
      let ts = behind bytes tokens start in
      let us = behind bytes tokens (start + 1) in
      fault_as file bytes tokens result_view (λ b. reads b result_form ts) e
      (fault_then_second file bytes tokens (T (colon ∷ [])) with_body ts k us e (next_token (colon ∷ []) bytes tokens start (start + 1) k (omega arith) d)
      (fault_then file bytes tokens (Ref Type_term) (perhaps given_form) us e given_fine refl (fault_ref file bytes tokens Type_term us e f)))

  pub result_ungiven : (start : ℕ) (vs : List Spelled) (k : Spelled) (x : TypeTerm) (e : Fault) → read_token (is sort (colon ∷ [])) (behind bytes tokens start) ≡ Done k (behind bytes tokens (suc start))
      → IsDone (λ b. found_tree b Type_term (behind bytes tokens (start + 1))) x vs → Faults file bytes tokens (λ b. found_as given_in (reads b (perhaps given_form) vs)) e
      → Faults file bytes tokens (λ b. found_as result_view (reads b result_form (behind bytes tokens start))) e
  result_ungiven start vs k x e d t f =
      let ts = behind bytes tokens start in
      let us = behind bytes tokens (start + 1) in
      let w = tree_done Type_term us x vs t in
      fault_as file bytes tokens result_view (λ b. reads b result_form ts) e
      (fault_then_second file bytes tokens (T (colon ∷ [])) with_body ts k us e (next_token (colon ∷ []) bytes tokens start (start + 1) k (omega arith) d)
      (fault_then_second file bytes tokens (Ref Type_term) (perhaps given_form) us (x, w.0) vs e w.1 (fault_of file bytes tokens given_in (λ b. reads b (perhaps given_form) vs) e f)))

  pub method_params_fault : (ts : List Spelled) (e : Fault) → has (left_parenthesis ∷ []) (head_sort ts) ≡ true → Faults file bytes tokens (λ b. found_tree b Params ts) e
      → Faults file bytes tokens (λ b. found_as method_params_in (reads b (perhaps (Ref Params)) ts)) e
  method_params_fault ts e h f =
      fault_as file bytes tokens method_params_in (λ b. reads b (perhaps (Ref Params)) ts) e (fault_left file bytes tokens (Ref Params) Nothing ts e refl h (fault_ref file bytes tokens Params ts e f))

  -- a method: its word, its name, and what is behind that
  pub method_unmarked : (o : Bool) (ts : List Spelled) (e : Fault) → Faults file bytes tokens (λ b. read_token (is sort (def_word ∷ [])) ts) e → Faults file bytes tokens (λ b. found_as (method_from o) (reads b method_form ts)) e
  method_unmarked o ts e f = fault_as file bytes tokens (method_from o) (λ b. reads b method_form ts) e (fault_then_token file bytes tokens (def_word ∷ []) from_name ts e f)

  pub method_unnamed : (o : Bool) (start : ℕ) (w : Spelled) (e : Fault) → read_token (is sort (def_word ∷ [])) (behind bytes tokens start) ≡ Done w (behind bytes tokens (suc start))
      → Faults file bytes tokens (λ b. read_token (is sort names) (behind bytes tokens (start + 1))) e → Faults file bytes tokens (λ b. found_as (method_from o) (reads b method_form (behind bytes tokens start))) e
  method_unnamed o start w e d f =
      let ts = behind bytes tokens start in
      let us = behind bytes tokens (start + 1) in
      fault_as file bytes tokens (method_from o) (λ b. reads b method_form ts) e
      (fault_then_second file bytes tokens (T (def_word ∷ [])) from_name ts w us e (next_token (def_word ∷ []) bytes tokens start (start + 1) w (omega arith) d) (fault_then_token file bytes tokens names from_types us e f))

  pub method_behind : (o : Bool) (start : ℕ) (w k : Spelled) (e : Fault) → read_token (is sort (def_word ∷ [])) (behind bytes tokens start) ≡ Done w (behind bytes tokens (suc start))
      → read_token (is sort names) (behind bytes tokens (start + 1)) ≡ Done k (behind bytes tokens (suc (start + 1))) → Faults file bytes tokens (λ b. reads b from_types (behind bytes tokens (start + 2))) e
      → Faults file bytes tokens (λ b. found_as (method_from o) (reads b method_form (behind bytes tokens start))) e
  method_behind o start w k e d n f =
      let ts = behind bytes tokens start in
      let us = behind bytes tokens (start + 1) in
      let vs = behind bytes tokens (start + 2) in
      fault_as file bytes tokens (method_from o) (λ b. reads b method_form ts) e
      (fault_then_second file bytes tokens (T (def_word ∷ [])) from_name ts w us e (next_token (def_word ∷ []) bytes tokens start (start + 1) w (omega arith) d)
      (fault_then_second file bytes tokens (T names) from_types us k vs e (next_token names bytes tokens (start + 1) (start + 2) k (omega arith) n) f))

  -- its type parameters, which both languages read alike; its parameters; its result
  pub types_fault : (ts : List Spelled) (e : Fault) → Faults file bytes tokens (λ b. found_tree b Type_params ts) e → Faults file bytes tokens (λ b. reads b from_types ts) e
  types_fault ts e f = fault_then_alone file bytes tokens (Ref Type_params) from_params ts e (same_ref Type_params (λ v us w. w) ts) (fault_ref file bytes tokens Type_params ts e f)

  pub params_fault : (ts us : List Spelled) (types : List (List ℕ)) (e : Fault) → IsDone (λ b. found_tree b Type_params ts) types us
      → Faults file bytes tokens (λ b. found_as method_params_in (reads b (perhaps (Ref Params)) us)) e → Faults file bytes tokens (λ b. reads b from_types ts) e
  params_fault ts us types e t f =
      let x = tree_done Type_params ts types us t in
      fault_then_second file bytes tokens (Ref Type_params) from_params ts (types, x.0) us e x.1
      (fault_then file bytes tokens (perhaps (Ref Params)) result_form us e result_fine refl (fault_of file bytes tokens method_params_in (λ b. reads b (perhaps (Ref Params)) us) e f))

  pub result_fault : (ts us vs : List Spelled) (types : List (List ℕ)) (params : Option (List Param)) (e : Fault) → IsDone (λ b. found_tree b Type_params ts) types us
      → IsDone (λ b. found_as method_params_in (reads b (perhaps (Ref Params)) us)) params vs → Faults file bytes tokens (λ b. found_as result_view (reads b result_form vs)) e
      → Faults file bytes tokens (λ b. reads b from_types ts) e
  result_fault ts us vs types params e t p f =
      let x = tree_done Type_params ts types us t in
      let y = form_done (perhaps (Ref Params)) method_params_in refl us params vs p in
      fault_then_second file bytes tokens (Ref Type_params) from_params ts (types, x.0) us e x.1
      (fault_then_second file bytes tokens (perhaps (Ref Params)) result_form us y.0 vs e y.2 (fault_of file bytes tokens result_view (λ b. reads b result_form vs) e f))
