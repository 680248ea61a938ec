-- Imports, as the code reads them: a loop that takes a dot and what follows it, until that is `_`.
use Rattle.std.proofs.Common.{◌≡◌, ℕ, suc, ◌+◌, List, [], ◌∷◌, ◌++◌, Bool, true, false, if◌then◌else◌, refl, sym, ap, ◌∙◌, append_assoc, arith}
use Rattle.std.specs.Prelude.{Some}
use Rattle.std.proofs.lemmas.List.{append-nil}
use Rattle.sl_text.specs.declared.place.Span.{Span}
use Rattle.sl_text.specs.declared.token.Token.{Token as TokenOf}
use Rattle.sl_text.specs.declared.fault.Fault.{Fault}
use Rattle.sl_grammar.specs.Phrase.{Found, Done, Stopped, read_both, read_token}
use Rattle.sl_grammar.specs.Law.{found_as}
use Rattle.sl_grammar.specs.Steps.{read_all_steps}
use Rattle.sl_grammar.specs.Grammar.{Form, Chain, is, has, not, chain_room, step_on}
use Rattle.sl_grammar.specs.Growing.{folded, grown}
use Rattle.sl_grammar.proofs.Growing.{found_as_as, folded_more, steps_grown}
use Rattle.sl_tree.specs.Sorts.{Spelled, sort, sort_of, sort_of_word, example, dot, underscore, import_word}
use Rattle.sl_tree.specs.WellShaped.{names, cover}
use Rattle.sl_tree.specs.declared.tree.Import.{Import}
use Rattle.sl_parse_expr.specs.Told.{behind, head_sort}
use Rattle.sl_parse_expr.proofs.Telling.{Shrinks, token_shrinks, shrinks_keeps, both_shrinks, both_done, both_second, as_done, then_go, then_first, loop_ends, loop_shut, loop_stops, loop_goes}
use Rattle.sl_parse.specs.Names.{Name, Import_name, Import_step, Import_of, T, rule_of}
use Rattle.sl_parse.specs.Values.{Covered, T_of, beside, is_all, step_names, step_all}
use Rattle.sl_parse.specs.Grammar.{Bound, Limited, room, tree, read}
use Rattle.sl_parse.specs.Told.{found_tree, reads, IsDone, Faults}
use Rattle.sl_parse.proofs.Laws.{Fine, rule_read}
use Rattle.sl_parse.proofs.Telling.{token_reads, chain_reads, covered_by, form_done, done_then, done_token, done_rule, fault_halts, fault_of, fault_then_token, fault_then_second, fault_rule}

-- what stands behind `import`
abbrev pub import_form : Form Name
import_form = Chain true Import_name Import_step

-- the path so far, and whether `_` came
abbrev pub Steps : Type 0
Steps = List (List ℕ) × Bool

abbrev pub import_view : Covered (List ℕ) × List (Covered Spelled) → Steps
import_view v = (v.0.0 ∷ step_names v.1, step_all v.1)

-- the loop: steps while no step was `_`

abbrev with_step : Steps → Covered Spelled → Steps
with_step s q = if is_all q.0 then (s.0, true) else (s.0 ++ q.0.text ∷ [], s.1)

abbrev is_open : Steps → Bool
is_open s = not s.1

unfoldable pub steps_from : Bound → Steps → List Spelled → Found Spelled Steps
steps_from b s ts = grown (is sort (dot ∷ [])) is_open (read b Import_step) with_step s ts

-- what is read of the names, by their rules

abbrev read_name : List Spelled → Found Spelled Spelled
read_name ts = read_token (is sort names) ts

abbrev read_dot : List Spelled → Found Spelled Spelled
read_dot ts = read_token (is sort (dot ∷ [])) ts

abbrev read_end : List Spelled → Found Spelled Spelled
read_end ts = read_token (is sort (names ++ underscore ∷ [])) ts

name_reads : (b : Bound) (ts : List Spelled) → read b Import_name ts ≡ found_as (tree Import_name) (read_name ts)
name_reads b ts = sym (rule_read b Import_name refl ts) ∙ ap (found_as (tree Import_name)) (token_reads b names ts)

step_reads : (b : Bound) (ts : List Spelled) → read b Import_step ts ≡ found_as (tree Import_step) (read_both read_dot read_end ts)
unfolding reads
step_reads b ts = sym (rule_read b Import_step refl ts)

step_shrinks : (b : Bound) → Shrinks (read b Import_step)
step_shrinks b ts q rest e =
    let v = as_done (tree Import_step) (read_both read_dot read_end ts) q rest (sym (step_reads b ts) ∙ e) in
    both_shrinks read_dot read_end (token_shrinks (is sort (dot ∷ []))) (shrinks_keeps read_end (token_shrinks (is sort (names ++ underscore ∷ [])))) ts v.0 rest v.1

-- the loop ends: another token comes, or `_` came
pub steps_end : (b : Bound) (s : Steps) (ts : List Spelled) → has (dot ∷ []) (head_sort ts) ≡ false → steps_from b s ts ≡ Done s ts
unfolding steps_from
steps_end b s ts h = loop_ends (dot ∷ []) is_open (read b Import_step) with_step s ts h

pub steps_all : (b : Bound) (path : List (List ℕ)) (ts : List Spelled) → steps_from b (path, true) ts ≡ Done (path, true) ts
unfolding steps_from
steps_all b path ts = loop_shut (dot ∷ []) is_open (read b Import_step) with_step (path, true) ts refl

module _ (b : Bound) (path : List (List ℕ)) (ts more : List Spelled) (d : Spelled) (h : has (dot ∷ []) (head_sort ts) ≡ true) (a : read_token (is sort (dot ∷ [])) ts ≡ Done d more) where
  -- neither a name nor `_` follows the dot
  steps_stop : (rest : List Spelled) → read_token (is sort (names ++ underscore ∷ [])) more ≡ Stopped rest → steps_from b (path, false) ts ≡ Stopped rest
  unfolding steps_from
  steps_stop rest e =
      loop_stops (dot ∷ []) is_open (read b Import_step) with_step (path, false) ts rest refl h refl
      (step_reads b ts ∙ ap (found_as (tree Import_step)) (both_second read_dot read_end ts d more rest a e))

  module _ (k : Spelled) (rest : List Spelled) (e : read_token (is sort (names ++ underscore ∷ [])) more ≡ Done k rest) where
    abbrev step_of : Covered Spelled
    step_of = (k, beside (Some d.span) (Some k.span))

    goes : steps_from b (path, false) ts ≡ steps_from b (with_step (path, false) step_of) rest
    unfolding steps_from
    goes =
        loop_goes (dot ∷ []) is_open (read b Import_step) with_step (step_shrinks b) (path, false) ts step_of rest refl h refl
        (step_reads b ts ∙ ap (found_as (tree Import_step)) (both_done read_dot read_end ts d more k rest a e))

    -- `_`, or a name
    pub steps_last : is_all k ≡ true → steps_from b (path, false) ts ≡ steps_from b (path, true) rest
    steps_last s = goes ∙ ap (λ c. steps_from b (if c then (path, true) else (path ++ k.text ∷ [], false)) rest) s

    pub steps_more : is_all k ≡ false → steps_from b (path, false) ts ≡ steps_from b (path ++ k.text ∷ [], false) rest
    steps_more s = goes ∙ ap (λ c. steps_from b (if c then (path, true) else (path ++ k.text ∷ [], false)) rest) s

-- the first name, and the loop behind it

if_same : (c : Bool) → (if c then true else false) ≡ c
if_same true = refl
if_same false = refl

folds : (path : List (List ℕ)) (all : Bool) (qs : List (Covered Spelled)) → folded with_step (path, all) qs ≡ (path ++ step_names qs, if step_all qs then true else all)
folds path all [] = ap (λ ps. (ps, all)) (sym (append-nil path))
folds path all (q ∷ qs) = by (λ p a. folds p a qs) (is_all q.0)
  where
    same : (c : Bool) → (if c then true else true) ≡ true
    same true = refl
    same false = refl

    by : ((p : List (List ℕ)) (a : Bool) → folded with_step (p, a) qs ≡ (p ++ step_names qs, if step_all qs then true else a)) → (c : Bool)
        → folded with_step (if c then (path, true) else (path ++ q.0.text ∷ [], all)) qs ≡ (path ++ (if c then step_names qs else q.0.text ∷ step_names qs), if (if c then true else step_all qs) then true else all)
    by less true = less path true ∙ ap (λ c. (path ++ step_names qs, c)) (same (step_all qs))
    by less false = less (path ++ q.0.text ∷ []) all ∙ ap (λ ps. (ps, if step_all qs then true else all)) (append_assoc path (q.0.text ∷ []) (step_names qs))

view_folds : (first : List ℕ) (qs : List (Covered Spelled)) → folded with_step (first ∷ [], false) qs ≡ (first ∷ step_names qs, step_all qs)
view_folds first qs = folds (first ∷ []) false qs ∙ ap (λ c. (first ∷ step_names qs, c)) (if_same (step_all qs))

pub steps_begin : (b : Bound) (ts rest : List Spelled) (k : Spelled) → read_token (is sort names) ts ≡ Done k rest → found_as import_view (reads b import_form ts) ≡ steps_from b (k.text ∷ [], false) rest
unfolding steps_from
steps_begin b ts rest k e =
    let named : read b Import_name ts ≡ Done first rest = name_reads b ts ∙ ap (found_as (tree Import_name)) e in
    ap (found_as import_view) (chain_reads b true Import_name Import_step ts ∙ then_go (read b Import_name) (λ y us. steps (y, []) us) ts first rest named)
    ∙ (found_as_as import_view pair (steps (first, []) rest)
    ∙ (same (steps (first, []) rest)
    ∙ steps_grown (is sort (dot ∷ [])) is_open (read b Import_step) with_step (chain_room sort T_of room true Import_name Import_step) step_on view
    (λ s q. folded_more with_step (s.0.0 ∷ [], false) s.1 q) (λ s. ap is_open (sym (view_folds s.0.0 s.1))) (first, []) rest))
  where
    first : T_of Import_name
    first = (k.text, Some k.span)

    pair : List (Covered Spelled) → Covered (List ℕ) × List (Covered Spelled)
    pair qs = (first, qs)

    view : Covered (List ℕ) × List (Covered Spelled) → Steps
    view s = folded with_step (s.0.0 ∷ [], false) s.1

    steps : Covered (List ℕ) × List (Covered Spelled) → List Spelled → Found Spelled (List (Covered Spelled))
    steps s us = read_all_steps (is sort (dot ∷ [])) (read b Import_step) (chain_room sort T_of room true Import_name Import_step) step_on s us

    same : (f : Found Spelled (List (Covered Spelled))) → found_as (λ qs. import_view (first, qs)) f ≡ found_as (λ qs. folded with_step (k.text ∷ [], false) qs) f
    same (Done qs left) = ap (λ v. Done v left) (sym (view_folds k.text qs))
    same (Stopped left) = refl

-- there is no name
steps_halt : (b : Bound) (ts rest : List Spelled) → read_token (is sort names) ts ≡ Stopped rest → found_as import_view (reads b import_form ts) ≡ Stopped rest
steps_halt b ts rest e =
    let none : read b Import_name ts ≡ Stopped rest = name_reads b ts ∙ ap (found_as (tree Import_name)) e in
    ap (found_as import_view) (chain_reads b true Import_name Import_step ts
    ∙ then_first (read b Import_name) (λ y. read_all_steps (is sort (dot ∷ [])) (read b Import_step) (chain_room sort T_of room true Import_name Import_step) step_on (y, [])) ts rest none)

-- what is told of an import

import_fine : Fine (rule_of Import_of)
unfolding example sort_of sort_of_word
import_fine = refl

module _ (file : ℕ) (bytes : List ℕ) (tokens : List TokenOf) (start : ℕ) where
  -- the tokens from `import` on, and behind it
  abbrev ts : List Spelled
  ts = behind bytes tokens start

  abbrev us : List Spelled
  us = behind bytes tokens (start + 1)

  -- another token stands first
  pub import_missing : (e : Fault) → Faults file bytes tokens (λ b. read_token (is sort (import_word ∷ [])) ts) e → Faults file bytes tokens (λ b. found_tree b Import_of ts) e
  import_missing e h = fault_rule file bytes tokens Import_of refl ts e (fault_then_token file bytes tokens (import_word ∷ []) import_form ts e h)

  module _ (i : Spelled) (told : read_token (is sort (import_word ∷ [])) ts ≡ Done i (behind bytes tokens (suc start))) where
    word : IsDone (λ b. reads b (T (import_word ∷ [])) ts) i us
    word = let n : suc start ≡ start + 1 = omega arith in done_token (import_word ∷ []) ts i us (told ∙ ap (λ k. Done i (behind bytes tokens k)) n)

    fault_behind : (e : Fault) → Faults file bytes tokens (λ b. found_as import_view (reads b import_form us)) e → Faults file bytes tokens (λ b. found_tree b Import_of ts) e
    fault_behind e h =
        fault_rule file bytes tokens Import_of refl ts e
        (fault_then_second file bytes tokens (T (import_word ∷ [])) import_form ts i us e word (fault_of file bytes tokens import_view (λ b. reads b import_form us) e h))

    -- no name follows
    pub import_unnamed : (e : Fault) → Faults file bytes tokens (λ b. read_token (is sort names) us) e → Faults file bytes tokens (λ b. found_tree b Import_of ts) e
    import_unnamed e h = fault_behind e (fault_halts file bytes tokens (λ b. read_name us) (λ b. found_as import_view (reads b import_form us)) e refl (λ b rest s. steps_halt b us rest s) h)

    -- neither a name nor `_` follows a dot
    pub import_broken : (path : List (List ℕ)) (vs more : List Spelled) (d : Spelled) (e : Fault) → ((b : Bound) → found_as import_view (reads b import_form us) ≡ steps_from b (path, false) vs)
        → has (dot ∷ []) (head_sort vs) ≡ true → read_token (is sort (dot ∷ [])) vs ≡ Done d more → Faults file bytes tokens (λ b. read_token (is sort (names ++ underscore ∷ [])) more) e
        → Faults file bytes tokens (λ b. found_tree b Import_of ts) e
    import_broken path vs more d e grows s a h =
        fault_behind e (fault_halts file bytes tokens (λ b. read_end more) (λ b. found_as import_view (reads b import_form us)) e refl (λ b rest r. grows b ∙ steps_stop b path vs more d s a rest r) h)

    -- all of it
    pub import_whole : (path : List (List ℕ)) (all : Bool) (rest : List Spelled) (span : Span) → ((b : Bound) → found_as import_view (reads b import_form us) ≡ Done (path, all) rest)
        → ((used : List Spelled) → ts ≡ used ++ rest → span ≡ cover used) → IsDone (λ b. found_tree b Import_of ts) (record { path = path; all = all; span = span }) rest
    import_whole path all rest span done covers b =
        let v = form_done import_form import_view refl us (path, all) rest done in
        let w = done_then (T (import_word ∷ [])) import_form ts i us v.0 rest word v.2 in
        let spanned = covered_by Limited (rule_of Import_of) import_fine (i, v.0) ts rest span (w Limited) covers in
        done_rule Import_of refl ts (i, v.0) rest w b ∙ ap (λ x. Done x rest) (ap (made (import_view v.0)) spanned ∙ ap (λ s. made s span) v.1)
      where
        made : Steps → Span → Import
        made s at = record { path = s.0; all = s.1; span = at }
