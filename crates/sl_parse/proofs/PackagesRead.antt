-- Packages, as the code reads them.
use Rattle.std.proofs.Common.{◌≡◌, ℕ, List, [], ◌∷◌, refl, inl, inr, false, true}
use Rattle.sl_text.specs.declared.token.Token.{Token as TokenOf}
use Rattle.sl_text.specs.declared.fault.Fault.{Fault}
use Rattle.sl_grammar.specs.Phrase.{Done, read_token}
use Rattle.sl_grammar.specs.Grammar.{Form, Nothing, Ref, Then, is, has}
use Rattle.sl_tree.specs.Sorts.{Spelled, sort, example, sort_of, sort_of_separator, package_word, separator}
use Rattle.sl_parse_expr.specs.Told.{head_sort}
use Rattle.sl_parse.specs.Names.{Name, Path, Package, T}
use Rattle.sl_parse.specs.Told.{found_tree, IsDone, Faults}
use Rattle.sl_parse.proofs.Laws.{Fine}
use Rattle.sl_parse.proofs.Telling.{tree_done, done_then, done_token, done_left, done_none, done_rule, fault_then, fault_then_second, fault_form_token, fault_left, fault_ref, fault_rule}

-- a path and the end of its line; the same behind its word

abbrev line_form : Form Name
line_form = Then (Ref Path) (T (separator ∷ []))

abbrev word_form : Form Name
word_form = Then (T (package_word ∷ [])) line_form

end_fine : Fine (T (separator ∷ []))
unfolding example sort_of sort_of_separator
end_fine = refl

pub package_none : (ts : List Spelled) → has (package_word ∷ []) (head_sort ts) ≡ false → IsDone (λ b. found_tree b Package ts) [] ts
package_none ts h = done_rule Package refl ts (inr tt) ts (done_none word_form ts h)

module _ (ts more : List Spelled) (w : Spelled) (comes : has (package_word ∷ []) (head_sort ts) ≡ true) (word : read_token (is sort (package_word ∷ [])) ts ≡ Done w more) where
  pub package_read : (rest left : List Spelled) (x : List (List ℕ)) (k : Spelled) → IsDone (λ b. found_tree b Path more) x rest → read_token (is sort (separator ∷ [])) rest ≡ Done k left
      → IsDone (λ b. found_tree b Package ts) x left
  package_read rest left x k path end =
      let v = tree_done Path more x rest path in
      done_rule Package refl ts (inl (w, ((x, v.0), k))) left
      (done_left word_form Nothing ts (w, ((x, v.0), k)) left refl comes
      (done_then (T (package_word ∷ [])) line_form ts w more ((x, v.0), k) left (done_token (package_word ∷ []) ts w more word)
      (done_then (Ref Path) (T (separator ∷ [])) more (x, v.0) rest k left v.1 (done_token (separator ∷ []) rest k left end))))

  -- its two parts behind the word at fault
  module _ (file : ℕ) (bytes : List ℕ) (tokens : List TokenOf) (e : Fault) where
    pub package_unnamed : Faults file bytes tokens (λ b. found_tree b Path more) e → Faults file bytes tokens (λ b. found_tree b Package ts) e
    package_unnamed h =
        fault_rule file bytes tokens Package refl ts e
        (fault_left file bytes tokens word_form Nothing ts e refl comes
        (fault_then_second file bytes tokens (T (package_word ∷ [])) line_form ts w more e (done_token (package_word ∷ []) ts w more word)
        (fault_then file bytes tokens (Ref Path) (T (separator ∷ [])) more e end_fine refl (fault_ref file bytes tokens Path more e h))))

    pub package_unended : (rest : List Spelled) (x : List (List ℕ)) → IsDone (λ b. found_tree b Path more) x rest → Faults file bytes tokens (λ b. read_token (is sort (separator ∷ [])) rest) e
        → Faults file bytes tokens (λ b. found_tree b Package ts) e
    package_unended rest x path h =
        let v = tree_done Path more x rest path in
        fault_rule file bytes tokens Package refl ts e
        (fault_left file bytes tokens word_form Nothing ts e refl comes
        (fault_then_second file bytes tokens (T (package_word ∷ [])) line_form ts w more e (done_token (package_word ∷ []) ts w more word)
        (fault_then_second file bytes tokens (Ref Path) (T (separator ∷ [])) more (x, v.0) rest e v.1 (fault_form_token file bytes tokens (separator ∷ []) rest e h))))
