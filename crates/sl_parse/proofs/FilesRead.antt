-- Files, as the code reads them: a package, the library's import, and items.
use Rattle.std.proofs.Common.{◌≡◌, ℕ, List, [], ◌++◌, refl, sym, ap, ◌∙◌}
use Rattle.sl_text.specs.declared.place.Span.{Span}
use Rattle.sl_text.specs.declared.token.Token.{Token}
use Rattle.sl_text.specs.declared.fault.Fault.{Fault}
use Rattle.sl_grammar.specs.Phrase.{Found, Done, Stopped, read_both}
use Rattle.sl_grammar.specs.Law.{found_as}
use Rattle.sl_grammar.specs.Grammar.{Form, Ref, Then, Val}
use Rattle.sl_tree.specs.Sorts.{Spelled, sort, example, sort_of, sort_of_mark, sort_of_word, sort_of_name, sort_of_operator, sort_of_prefixed, sort_of_separator}
use Rattle.sl_tree.specs.WellShaped.{cover}
use Rattle.sl_tree.specs.declared.tree.Import.{Import}
use Rattle.sl_tree.specs.declared.tree.Decl.{Decl}
use Rattle.sl_parse_expr.proofs.Telling.{both_done, both_first, both_second, done_as, as_stopped, stopped_as}
use Rattle.sl_parse.specs.Names.{Name, Library, Package, File_of, rule_of}
use Rattle.sl_parse.specs.Values.{T_of, span_in, total}
use Rattle.sl_parse.specs.Grammar.{Bound}
use Rattle.sl_parse.specs.Told.{bare, found_tree, reads, IsDone, Faults, items_form, items_view}
use Rattle.sl_parse.proofs.Laws.{Fine}
use Rattle.sl_parse.proofs.Telling.{tree_reads, tree_rule, tree_in, then_reads, tree_done, form_done, covered_by, quiet, fault_first, fault_second, fault_as, fault_of, fault_same}

-- what stands behind the package
abbrev behind_package : Form Name
behind_package = Then (Ref Library) items_form

abbrev read_two : Bound → List Spelled → Found Spelled (Val sort T_of (rule_of File_of))
read_two b ts = read_both (reads b (Ref Package)) (reads b behind_package) ts

-- these forms pass the test

pub fine_items : Fine items_form
unfolding example sort_of sort_of_mark sort_of_word sort_of_name sort_of_operator sort_of_prefixed sort_of_separator
fine_items = refl

fine_behind : Fine behind_package
unfolding example sort_of sort_of_mark sort_of_word sort_of_name sort_of_operator sort_of_prefixed sort_of_separator
fine_behind = refl

fine_file : Fine (rule_of File_of)
unfolding example sort_of sort_of_mark sort_of_word sort_of_name sort_of_operator sort_of_prefixed sort_of_separator
fine_file = refl

file_is : (b : Bound) (ts : List Spelled) → found_tree b File_of ts ≡ found_as (tree_in File_of) (read_two b ts)
file_is b ts = tree_rule b File_of refl ts ∙ ap (found_as (tree_in File_of)) (then_reads b (Ref Package) behind_package ts)

module _ (file : ℕ) (bytes : List ℕ) (tokens : List Token) (ts : List Spelled) (e : Fault) where
  whole_fault : Faults file bytes tokens (λ b. read_two b ts) e → Faults file bytes tokens (λ b. found_tree b File_of ts) e
  whole_fault h =
      fault_same file bytes tokens (λ b. found_as (tree_in File_of) (read_two b ts)) (λ b. found_tree b File_of ts) e (λ b. file_is b ts)
      (fault_as file bytes tokens (tree_in File_of) (λ b. read_two b ts) e h)

  -- the package is at fault
  pub package_fault : Faults file bytes tokens (λ b. found_tree b Package ts) e → Faults file bytes tokens (λ b. found_tree b File_of ts) e
  package_fault h =
      whole_fault
      (fault_first file bytes tokens (λ b. reads b (Ref Package)) (λ b. reads b behind_package) ts e (quiet behind_package fine_behind refl)
      (fault_of file bytes tokens bare (λ b. reads b (Ref Package) ts) e
      (fault_same file bytes tokens (λ b. found_tree b Package ts) (λ b. found_as bare (reads b (Ref Package) ts)) e (λ b. sym (tree_reads b Package ts)) h)))

  -- an item is at fault
  pub items_fault : (path : List (List ℕ)) (mid rest : List Spelled) → IsDone (λ b. found_tree b Package ts) path mid → IsDone (λ b. found_tree b Library mid) tt rest
      → Faults file bytes tokens (λ b. found_as items_view (reads b items_form rest)) e → Faults file bytes tokens (λ b. found_tree b File_of ts) e
  items_fault path mid rest p l h =
      let a = tree_done Package ts path mid p in
      let c = tree_done Library mid tt rest l in
      whole_fault
      (fault_second file bytes tokens (λ b. reads b (Ref Package)) (λ b. reads b behind_package) ts (path, a.0) mid e a.1
      (fault_same file bytes tokens (λ b. read_both (reads b (Ref Library)) (reads b items_form) mid) (λ b. reads b behind_package mid) e (λ b. then_reads b (Ref Library) items_form mid)
      (fault_second file bytes tokens (λ b. reads b (Ref Library)) (λ b. reads b items_form) mid (tt, c.0) rest e c.1 (fault_of file bytes tokens items_view (λ b. reads b items_form rest) e h))))

-- the package stops, or an item

pub package_stops : (ts left : List Spelled) → ((b : Bound) → found_tree b Package ts ≡ Stopped left) → (b : Bound) → found_tree b File_of ts ≡ Stopped left
package_stops ts left h b =
    file_is b ts
    ∙ stopped_as (tree_in File_of) (read_two b ts) left
    (both_first (reads b (Ref Package)) (reads b behind_package) ts left (as_stopped bare (reads b (Ref Package) ts) left (sym (tree_reads b Package ts) ∙ h b)))

pub items_stop : (ts : List Spelled) (path : List (List ℕ)) (mid rest left : List Spelled) → IsDone (λ b. found_tree b Package ts) path mid → IsDone (λ b. found_tree b Library mid) tt rest
    → ((b : Bound) → found_as items_view (reads b items_form rest) ≡ Stopped left) → (b : Bound) → found_tree b File_of ts ≡ Stopped left
items_stop ts path mid rest left p l h b =
    let a = tree_done Package ts path mid p in
    let c = tree_done Library mid tt rest l in
    file_is b ts
    ∙ stopped_as (tree_in File_of) (read_two b ts) left
    (both_second (reads b (Ref Package)) (reads b behind_package) ts (path, a.0) mid left (a.1 b)
    (then_reads b (Ref Library) items_form mid ∙ both_second (reads b (Ref Library)) (reads b items_form) mid (tt, c.0) rest left (c.1 b) (as_stopped items_view (reads b items_form rest) left (h b))))

-- another token stands in the library's import
pub library_stops : (ts : List Spelled) (path : List (List ℕ)) (mid left : List Spelled) → IsDone (λ b. found_tree b Package ts) path mid → ((b : Bound) → found_tree b Library mid ≡ Stopped left)
    → (b : Bound) → found_tree b File_of ts ≡ Stopped left
library_stops ts path mid left p l b =
    let a = tree_done Package ts path mid p in
    let c : reads b (Ref Library) mid ≡ Stopped left = as_stopped bare (reads b (Ref Library) mid) left (sym (tree_reads b Library mid) ∙ l b) in
    file_is b ts
    ∙ stopped_as (tree_in File_of) (read_two b ts) left
    (both_second (reads b (Ref Package)) (reads b behind_package) ts (path, a.0) mid left (a.1 b)
    (then_reads b (Ref Library) items_form mid ∙ both_first (reads b (Ref Library)) (reads b items_form) mid left c))

-- all is whole
pub file_whole : (ts : List Spelled) (path : List (List ℕ)) (imports : List Import) (decls : List Decl) (span : Span) (mid rest left : List Spelled) → IsDone (λ b. found_tree b Package ts) path mid
    → IsDone (λ b. found_tree b Library mid) tt rest → IsDone (λ b. found_as items_view (reads b items_form rest)) (imports, decls) left
    → ((used : List Spelled) → ts ≡ used ++ left → span ≡ cover used)
    → IsDone (λ b. found_tree b File_of ts) (record { «package» = path; imports = imports; decls = decls; span = span; feeds = [] }) left
file_whole ts path imports decls span mid rest left p l i s b =
    let a = tree_done Package ts path mid p in
    let c = tree_done Library mid tt rest l in
    let d = form_done items_form items_view fine_items rest (imports, decls) left i in
    let v : Val sort T_of (rule_of File_of) = ((path, a.0), ((tt, c.0), d.0)) in
    let e : reads b (rule_of File_of) ts ≡ Done v left =
    then_reads b (Ref Package) behind_package ts
    ∙ both_done (reads b (Ref Package)) (reads b behind_package) ts (path, a.0) mid ((tt, c.0), d.0) left (a.1 b)
    (then_reads b (Ref Library) items_form mid ∙ both_done (reads b (Ref Library)) (reads b items_form) mid (tt, c.0) rest d.0 left (c.1 b) (d.2 b))
    in
    let same : total (span_in (rule_of File_of) v) ≡ span = covered_by b (rule_of File_of) fine_file v ts left span e s in
    tree_rule b File_of refl ts
    ∙ (done_as (tree_in File_of) (reads b (rule_of File_of) ts) v left e
    ∙ (ap (λ (w : List Import × List Decl). Done (record { «package» = path; imports = w.0; decls = w.1; span = total (span_in (rule_of File_of) v); feeds = [] }) left) d.1
    ∙ ap (λ x. Done (record { «package» = path; imports = imports; decls = decls; span = x; feeds = [] }) left) same))
