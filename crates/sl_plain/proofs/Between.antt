-- What stands between a front and an end of a line is what is found there.
use Rattle.std.proofs.Common.{◌≡◌, ◌≢◌, ℕ, ◌-◌, List, ◌++◌, append_assoc, length, length-append, take_at, drop_at, slice_range, Bool, true, false, cond, Option, Some, None, option_and_then, refl, sym, ap, ◌∙◌, subst, arith, bytes_eq, Decides, Bor, MatchOption, option_copied}
use Rattle.std.specs.Bool.{then_some}
use Rattle.std.proofs.lemmas.Bool.{false_from_ne_true}
use Rattle.std.proofs.lemmas.Bool.Decides.{same_from_decides}
use Rattle.std.proofs.lemmas.List.{append_cancel_left}
use Rattle.std.proofs.lemmas.Slice.Eq.{bytes_eq-Decides}
use Rattle.std.proofs.lemmas.Option.{cond_some, same_Some, option_and_then_some}
use Rattle.sl_plain.specs.Names.{between}

-- what is found between a front and an end stands there
pub between_found : (front end line middle : List ℕ) → between front end line ≡ Some middle → line ≡ front ++ middle ++ end
between_found front end line middle found =
    let here = slice_range line (length front) (length line - length end) in
    let parts = cond_some (bytes_eq line (front ++ here ++ end)) here middle found
    in (bytes_eq-Decides line (front ++ here ++ end)).0 parts.0 ∙ ap (λ part. front ++ part ++ end) parts.1

-- what stands between a front and an end is found
pub between_there : (front middle end : List ℕ) → between front end (front ++ middle ++ end) ≡ Some middle
between_there front middle end =
    let here = slice_range (front ++ middle ++ end) (length front) (length (front ++ middle ++ end) - length end) in
    let is : here ≡ middle = search (arith, append_assoc, drop_at, take_at, length-append {A = ℕ})
    in subst (λ part. cond (bytes_eq (front ++ middle ++ end) (front ++ part ++ end)) (Some part) None ≡ Some middle) (sym is)
    (ap (λ t. cond t (Some middle) None) ((bytes_eq-Decides (front ++ middle ++ end) (front ++ middle ++ end)).1 refl))

-- where nothing stands between a front and an end, nothing is found
pub not_between : (front end line : List ℕ) → ((middle : List ℕ) → line ≢ front ++ middle ++ end) → between front end line ≡ None
not_between front end line none =
    let here = slice_range line (length front) (length line - length end) in
    ap (λ t. cond t (Some here) None)
    (false_from_ne_true (bytes_eq line (front ++ here ++ end)) (λ passed. none here ((bytes_eq-Decides line (front ++ here ++ end)).0 passed)))

-- a line with another front
pub between_other : (front end line : List ℕ) → ((rest : List ℕ) → line ≢ front ++ rest) → None ≡ between front end line
between_other front end line other =
    sym (not_between front end line (λ middle e. other (middle ++ end) (e ∙ append_assoc front middle end)))

-- a line with this front, whose rest may have this end
pub between_rest : (front end line rest : List ℕ) (found : Option (Bor (List ℕ))) → line ≡ front ++ rest → MatchOption found ((middle : List ℕ) → rest ≢ middle ++ end) (λ middle. rest ≡ middle.now ++ end) → option_copied found ≡ between front end line
between_rest front end line rest None is other =
    sym (not_between front end line (λ middle e. other middle (append_cancel_left front rest (middle ++ end) (sym is ∙ (e ∙ append_assoc front middle end)))))
between_rest front end line rest (Some middle) is at =
    sym (ap (between front end) (is ∙ ap (λ r. front ++ r) at ∙ sym (append_assoc front middle.now end)) ∙ between_there front middle.now end)

-- a value that is there where a test passes
pub then_some_parts : {A : Type 0} (t : Bool) (x y : A) → then_some t x ≡ Some y → (t ≡ true) × (x ≡ y)
then_some_parts true x y found = (refl, same_Some x y found)
then_some_parts false x y found = cc

module _ (test : List ℕ → Bool) (front end : List ℕ) where
  -- what passes a test between a front and an end
  abbrev pub tested : List ℕ → Option (List ℕ)
  tested line = option_and_then (λ part. then_some (test part) part) (between front end line)

  -- what is found so passes the test, and stands there
  pub tested_found : (line part : List ℕ) → tested line ≡ Some part → (test part ≡ true) × (line ≡ front ++ part ++ end)
  tested_found line part found =
      option_and_then_some (λ here. then_some (test here) here) (between front end line) part found
      (λ here at passed. there here at (then_some_parts (test here) here part passed))
    where
      there : (here : List ℕ) → between front end line ≡ Some here → (test here ≡ true) × (here ≡ part) → (test part ≡ true) × (line ≡ front ++ part ++ end)
      there here at parts = (subst (λ p. test p ≡ true) parts.1 parts.0, between_found front end line here at ∙ ap (λ p. front ++ p ++ end) parts.1)

  -- what passes the test and stands there is found so
  pub tested_there : (part : List ℕ) → test part ≡ true → tested (front ++ part ++ end) ≡ Some part
  tested_there part passed =
      ap (option_and_then (λ here. then_some (test here) here)) (between_there front part end) ∙ ap (λ t. then_some t part) passed

  -- a part that is found first, and then tested
  pub tested_is : (line : List ℕ) (part : Bor (List ℕ)) (found : Option (Bor (List ℕ))) (passed : Bool) → Some part.now ≡ between front end line → Decides passed (test part.now ≡ true) → found ≡ then_some passed part → option_copied found ≡ tested line
  tested_is line part found passed at decides is =
      let same : passed ≡ test part.now = same_from_decides passed (test part.now) decides (λ e. e, λ e. e)
      in ap option_copied is ∙ copied passed ∙ ap (λ t. then_some t part.now) same ∙ ap (option_and_then (λ here. then_some (test here) here)) at
    where
      copied : (t : Bool) → option_copied (then_some t part) ≡ then_some t part.now
      copied true = refl
      copied false = refl
