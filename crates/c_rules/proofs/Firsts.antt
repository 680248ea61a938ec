-- The first of what is broken, function by function.
use Rattle.std.proofs.Common.{◌≡◌, ◌⊎◌, ℕ, ◌+◌, ◌<◌, ◌≤◌, List, [], ◌∷◌, ◌++◌, append_assoc, length, get_or, take, Bool, true, false, ◌&&◌, Option, Some, None, Decides, refl, sym, subst, ap, ◌∙◌, inl, inr, ⊎_elim, if◌then◌else◌, arith}
use Rattle.std.specs.Prelude.{◌==◌, nat_lt}
use Rattle.std.proofs.lemmas.Bool.{false≢true, cases_lt, cases_order}
use Rattle.std.proofs.lemmas.Bool.Decides.{Decides-eqb, Decides-ltb, Decides-and, Decides-or}
use Rattle.std.proofs.lemmas.List.{take_all}
use Rattle.c_tree.specs.declared.fault.NotC.{NotC}
use Rattle.c_tree.specs.declared.tree.CFile.{CFile}
use Rattle.c_tree.specs.declared.tree.CFun.{CFun}
use Rattle.c_tree.specs.Text.{first_line}
use Rattle.c_tree.specs.Rules.{BreaksInside, BreaksOutside, Breaks}
use Rattle.c_tree.proofs.Lists.{not_empty}
use Rattle.c_rules.specs.Least.{IsLeast, IsFirst, is_before, is_settled, sooner}
use Rattle.c_rules.specs.Inside.{BreaksAmong}
use Rattle.c_rules.proofs.Anys.{one_more}

-- The first of two ---------------------------------------------------------------------------------------------------------

-- it stands before
abbrev IsBefore : ℕ → ℕ → ℕ → ℕ → Type 0
IsBefore rule line other elsewhere = (line < elsewhere) ⊎ ((line ≡ elsewhere) × (rule < other))

-- it stands before or is the same
abbrev IsNotBehind : ℕ → ℕ → ℕ → ℕ → Type 0
IsNotBehind rule line other elsewhere = (line < elsewhere) ⊎ ((line ≡ elsewhere) × (rule ≤ other))

before_holds : (rule line : ℕ) (first : NotC) → Decides (is_before rule line first) (IsBefore rule line first.rule first.line)
before_holds rule line first =
    Decides-or (nat_lt line first.line) (line == first.line && nat_lt rule first.rule) (Decides-ltb line first.line)
    (Decides-and (line == first.line) (nat_lt rule first.rule) (Decides-eqb line first.line) (Decides-ltb rule first.rule))

-- what stands before something stands before all that isn't before that
before_all : (rule line mid at other elsewhere : ℕ) → IsBefore rule line mid at → IsNotBehind mid at other elsewhere → IsNotBehind rule line other elsewhere
before_all rule line mid at other elsewhere (inl less) (inl more) = inl (omega arith)
before_all rule line mid at other elsewhere (inl less) (inr (same, more)) = inl (omega arith)
before_all rule line mid at other elsewhere (inr (same, less)) (inl more) = inl (omega arith)
before_all rule line mid at other elsewhere (inr (same, less)) (inr (too, more)) = inr (omega arith, omega arith)

-- of two one isn't behind the other
not_before : (rule line other at : ℕ) → ¬ IsBefore rule line other at → IsNotBehind other at rule line
not_before rule line other at never =
    ⊎_elim (λ same. inr (sym same, ⊎_elim (λ less. absurd (never (inr (same, less)))) (λ more. more) (cases_lt rule other)))
    (λ apart. ⊎_elim (λ less. absurd (never (inl less))) (λ more. inl more) apart) (cases_order line at)

-- and then what isn't before that isn't before it
behind_all : (rule line mid at other : ℕ) → IsNotBehind rule line mid at → mid ≤ other → IsNotBehind rule line other at
behind_all rule line mid at other (inl less) more = inl less
behind_all rule line mid at other (inr (same, less)) more = inr (same, omega arith)

module _ (P : ℕ → ℕ → Type 0) (line : ℕ) (Q : ℕ → Type 0) where
  -- what is broken so far, or on this line
  abbrev Either : ℕ → ℕ → Type 0
  Either rule at = P rule at ⊎ ((at ≡ line) × Q rule)

  sooner_some : (first : NotC) (rule : ℕ) (before : Bool) → Decides before (IsBefore rule line first.rule first.line) → IsFirst P (Some first) → IsLeast Q (Some rule) → IsFirst Either (if before then Some (record { line = line; rule = rule }) else Some first)
  sooner_some first rule true decides best next = (
    inr (refl, next.0),
    λ other at either. ⊎_elim (λ p. before_all rule line first.rule first.line other at (decides.0 refl) (best.1 other at p)) (λ (same, q). inr (sym same, next.1 other q)) either,
  )
  sooner_some first rule false decides best next =
      let behind = not_before rule line first.rule first.line (λ before. false≢true (decides.1 before)) in (
        inl best.0,
        λ other at either. ⊎_elim (best.1 other at) (λ (same, q). subst (IsNotBehind first.rule first.line other) (sym same) (behind_all first.rule first.line rule line other behind (next.1 other q))) either,
      )

  pub is_sooner : (best : Option NotC) (rule : Option ℕ) → IsFirst P best → IsLeast Q rule → IsFirst Either (sooner best line rule)
  is_sooner None None first next = λ rule at either. ⊎_elim (first rule at) (λ (same, q). next rule q) either
  is_sooner (Some best) None first next = (inl first.0, λ other at either. ⊎_elim (first.1 other at) (λ (same, q). absurd (next other q)) either)
  is_sooner None (Some rule) first next = (inr (refl, next.0), λ other at either. ⊎_elim (λ p. absurd (first other at p)) (λ (same, q). inr (sym same, next.1 other q)) either)
  is_sooner (Some best) (Some rule) first next = sooner_some best rule (is_before rule line best) (before_holds rule line best) first next

  settled_some : (first : NotC) (settled : Bool) → settled ≡ true → Decides settled ((first.line < line) ⊎ ((first.line ≡ line) × (first.rule < 11))) → ((rule : ℕ) → Q rule → 10 ≤ rule) → IsFirst P (Some first) → IsFirst Either (Some first)
  settled_some first settled is decides all so_far = (
    inl so_far.0,
    λ other at either. ⊎_elim (so_far.1 other at)
        (λ (same, q). let from = all other q in ⊎_elim (λ less. inl (omega arith)) (λ (here, below). inr (omega arith, omega arith)) (decides.0 is))
        either,
  )

  -- where nothing on this line can stand before
  pub is_kept : (best : Option NotC) → is_settled best line ≡ true → ((rule : ℕ) → Q rule → 10 ≤ rule) → IsFirst P best → IsFirst Either best
  is_kept None settled all so_far = absurd (false≢true settled)
  is_kept (Some first) settled all so_far =
      settled_some first (is_settled (Some first) line) settled
      (Decides-or (nat_lt first.line line) (first.line == line && nat_lt first.rule 11) (Decides-ltb first.line line)
      (Decides-and (first.line == line) (nat_lt first.rule 11) (Decides-eqb first.line line) (Decides-ltb first.rule 11)))
      all so_far

-- of facts that are alike
pub first_like : (P Q : ℕ → ℕ → Type 0) (best : Option NotC) → ((rule line : ℕ) → P rule line → Q rule line) → ((rule line : ℕ) → Q rule line → P rule line) → IsFirst P best → IsFirst Q best
first_like P Q None to from is = λ rule line q. is rule line (from rule line q)
first_like P Q (Some first) to from is = (to first.rule first.line is.0, λ other at q. is.1 other at (from other at q))

-- where nothing is broken on a line
sooner_none : (best : Option NotC) (line : ℕ) → sooner best line None ≡ best
sooner_none None line = refl
sooner_none (Some first) line = refl

-- Functions ----------------------------------------------------------------------------------------------------------------

-- what stands in a list with one more element is that element, or stands in the list
in_one_more : {X : Type 0} (P : Type 0) (xs before behind : List X) (x y : X) → (before ≡ xs → y ≡ x → P) → ((rest : List X) → xs ≡ before ++ y ∷ rest → P) → xs ++ x ∷ [] ≡ before ++ y ∷ behind → P
in_one_more P [] [] behind x y last inside is = last refl (cc)
in_one_more P [] (z ∷ before) behind x y last inside is = let none : [] ≡ before ++ y ∷ behind = cc in absurd (not_empty y before behind none)
in_one_more P (w ∷ xs) [] behind x y last inside is = let same : w ≡ y = cc in inside xs (ap (λ first. first ∷ xs) same)
in_one_more P (w ∷ xs) (z ∷ before) behind x y last inside is =
    let same : w ≡ z = cc in
    let rest : xs ++ x ∷ [] ≡ before ++ y ∷ behind = cc in
    in_one_more P xs before behind x y (λ all this. last (ap (λ first. first ∷ before) (sym same) ∙ ap (λ others. w ∷ others) all) this)
    (λ others them. inside others (ap (λ first. first ∷ xs) same ∙ ap (λ list. z ∷ list) them)) rest

module _ (file : CFile) where
  -- before the first
  pub first_outside : (rule : Option ℕ) (best : Option NotC) → IsLeast (BreaksOutside file) rule → best ≡ sooner None first_line rule → IsFirst (BreaksAmong file []) best
  first_outside rule best least is =
      let Nothing = λ (other at : ℕ). ⊥ in
      subst (IsFirst (BreaksAmong file [])) (sym is)
      (first_like (λ other at. ⊥ ⊎ ((at ≡ first_line) × BreaksOutside file other)) (BreaksAmong file []) (sooner None first_line rule)
      (λ other at either. ⊎_elim (λ never. absurd never) (λ outside. inl outside) either)
      (λ other at among. ⊎_elim (λ outside. inr outside) (λ (before, function, (behind, whole), same, broken). absurd (not_empty function before behind whole)) among)
      (is_sooner Nothing first_line (BreaksOutside file) None rule (λ other at never. never) least))

  -- rules in functions have numbers from 10 on
  inside_from : (before : List CFun) (function : CFun) (rule : ℕ) → BreaksInside file before function rule → 10 ≤ rule
  inside_from before function rule broken =
      ⊎_elim (λ (is, _). omega arith)
      (λ rest. ⊎_elim (λ (is, _). omega arith)
      (λ rest. ⊎_elim (λ (is, _). omega arith)
      (λ rest. ⊎_elim (λ (is, _). omega arith)
      (λ rest. ⊎_elim (λ (is, _). omega arith)
      (λ rest. ⊎_elim (λ (is, _). omega arith)
      (λ rest. ⊎_elim (λ (is, _). omega arith)
      (λ rest. ⊎_elim (λ (is, _). omega arith)
      (λ rest. ⊎_elim (λ (is, _). omega arith) (λ (is, _). omega arith) rest) rest) rest) rest) rest) rest) rest) rest) broken

  -- with what is told of one more
  one_told : (before : List CFun) (function : CFun) (best : Option NotC) (rule : Option ℕ) → IsFirst (BreaksAmong file before) best → IsLeast (BreaksInside file before function) rule ⊎ ((rule ≡ None) × (is_settled best function.line ≡ true)) → IsFirst (λ (other at : ℕ). BreaksAmong file before other at ⊎ ((at ≡ function.line) × BreaksInside file before function other)) (sooner best function.line rule)
  one_told before function best rule so_far (inl inside) = is_sooner (BreaksAmong file before) function.line (BreaksInside file before function) best rule so_far inside
  one_told before function best rule so_far (inr (none, settled)) =
      let Both = λ (other at : ℕ). BreaksAmong file before other at ⊎ ((at ≡ function.line) × BreaksInside file before function other) in
      subst (λ rule. IsFirst Both (sooner best function.line rule)) (sym none)
      (subst (IsFirst Both) (sym (sooner_none best function.line))
      (is_kept (BreaksAmong file before) function.line (BreaksInside file before function) best settled (inside_from before function) so_far))

  -- one more
  pub first_more : (functions : List CFun) (i : ℕ) (function : CFun) (best next : Option NotC) (rule : Option ℕ) → i < length functions → function ≡ get_or functions i function → IsFirst (BreaksAmong file (take i functions)) best → (IsLeast (BreaksInside file (take i functions) function) rule ⊎ ((rule ≡ None) × (is_settled best function.line ≡ true))) → next ≡ sooner best function.line rule → IsFirst (BreaksAmong file (take (i + 1) functions)) next
  first_more functions i function best next rule within is so_far inside gives =
      let before = take i functions in
      let Last = λ (other at : ℕ). (at ≡ function.line) × BreaksInside file before function other in
      subst (λ list. IsFirst (BreaksAmong file list) next) (sym (one_more functions i function within is))
      (subst (IsFirst (BreaksAmong file (before ++ function ∷ []))) (sym gives)
      (first_like (λ other at. BreaksAmong file before other at ⊎ Last other at) (BreaksAmong file (before ++ function ∷ [])) (sooner best function.line rule)
      (λ other at either. ⊎_elim
      (λ among. ⊎_elim (λ outside. inl outside)
      (λ (first, some, (behind, whole), same, broken). inr (first, some, (behind ++ function ∷ [], ap (λ list. list ++ function ∷ []) whole ∙ append_assoc first (some ∷ behind) (function ∷ [])), same, broken)) among)
      (λ (same, broken). inr (before, function, ([], refl), same, broken)) either)
      (λ other at among. ⊎_elim (λ outside. inl (inl outside))
      (λ (first, some, (behind, whole), same, broken). in_one_more (BreaksAmong file before other at ⊎ Last other at) before first behind function some
      (λ all this. inr (subst (λ (f : CFun). (at ≡ f.line) × BreaksInside file before f other) this (same, subst (λ list. BreaksInside file list some other) all broken)))
      (λ rest whole. inl (inr (first, some, (rest, whole), same, broken))) whole) among)
      (one_told before function best rule so_far inside)))

  -- all
  pub first_all : (functions : List CFun) (i : ℕ) (best : Option NotC) → length functions ≤ i → functions ≡ file.functions → IsFirst (BreaksAmong file (take i functions)) best → IsFirst (Breaks file) best
  unfolding Breaks
  first_all functions i best whole same so_far = subst (λ list. IsFirst (BreaksAmong file list) best) (take_all i functions whole ∙ same) so_far
