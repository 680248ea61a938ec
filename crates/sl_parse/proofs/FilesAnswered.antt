-- What is answered of a file follows from what is told of its readers.
use Rattle.std.proofs.Common.{◌≡◌, ℕ, suc, ◌-◌, ◌<◌, ◌≤◌, List, [], ◌∷◌, ◌++◌, length, refl, sym, ap, ◌∙◌, subst, inl, inr, ◌⊎◌, arith, length-append, append_assoc, append-nil, true, true≢false}
use Rattle.std.specs.Prelude.{Some, None, drop, eqb, Bool, false, nat_lt, if◌then◌else◌}
use Rattle.std.specs.declared.result.Result.{Result}
use Rattle.std.specs.declared.result.Result.TheVariants.{Err}
use Rattle.std.specs.Result.{IsErrAnd}
use Rattle.std.proofs.lemmas.Result.{err_from_is_err_and}
use Rattle.std.proofs.lemmas.List.{append_cancel_right}
use Rattle.sl_text.specs.declared.place.Span.{Span}
use Rattle.sl_text.specs.declared.rule.Rule.{Rule}
use Rattle.sl_text.specs.declared.token.Token.{Token}
use Rattle.sl_text.specs.declared.fault.Broken.{Broken}
use Rattle.sl_text.specs.declared.fault.Fault.{Fault}
use Rattle.sl_text.specs.declared.fault.Fault.TheVariants as fault
use Rattle.sl_grammar.specs.Phrase.{Begins, Found, Done, Stopped, IsFront, IsRead, left_of}
use Rattle.sl_grammar.specs.Law.{found_as}
use Rattle.sl_grammar.specs.Grammar.{Form, Ref, Then, Val, has}
use Rattle.sl_grammar.proofs.Both.{Cut, cut}
use Rattle.sl_grammar.proofs.Then.{front_of, one_more}
use Rattle.sl_tree.specs.Sorts.{Spelled, sort, example, sort_of, sort_of_mark, sort_of_word, sort_of_name, sort_of_operator, sort_of_prefixed, sort_of_separator, package_word, import_word, separator}
use Rattle.sl_tree.specs.WellShaped.{Is}
use Rattle.sl_tree.specs.Declarations.{Limit, IsPackage, package_none, package_some, IsLibrary, library_all, IsFile, file_of}
use Rattle.sl_tree.specs.declared.tree.File.{File}
use Rattle.sl_parse_expr.specs.Told.{behind}
use Rattle.sl_parse_expr.specs.Answers.{place, rule, AreBetween}
use Rattle.std.proofs.lemmas.Bool.{ltb-true, ltb-false}
use Rattle.sl_text.specs.Places.{feeds_from}
use Rattle.sl_tree.specs.WellShaped.{cover}
use Rattle.sl_tree.specs.declared.tree.Import.{Import}
use Rattle.sl_tree.specs.declared.tree.Decl.{Decl}
use Rattle.sl_parse_expr.proofs.Behind.{behind_end}
use Rattle.sl_parse.specs.Told.{ToldLibrary}
use Rattle.sl_parse.proofs.FilesRead.{fine_items, package_fault, items_fault, package_stops, items_stop, library_stops, file_whole}
use Rattle.sl_parse_expr.proofs.Answering.{between, behind_length, seen_read}
use Rattle.sl_parse.specs.Names.{Name, Path, Library, Package, File_of, T}
use Rattle.sl_parse.specs.Values.{T_of, whole}
use Rattle.sl_parse.specs.Grammar.{Bound, Limited, Unlimited, spells, read}
use Rattle.sl_parse.specs.Told.{bare, found_tree, reads, IsDone, AreStopped, Held, Passed, Faults, items_form, items_view}
use Rattle.sl_parse.specs.Answers.{AnyFile, FileWithin, IsTooDeep, IsWrong, IsInLibrary, IsBroken, IsTree, Parsed}
use Rattle.sl_parse.proofs.Laws.{Fine, reads_tree, form_law}
use Rattle.sl_grammar.proofs.Grammar.{disjoint_sound}
use Rattle.sl_parse_expr.proofs.Telling.{as_done, as_stopped}
use Rattle.sl_parse.proofs.Spans.{Said}

-- what both readers find is the longest front of their languages

pub any_read : (ts : List Spelled) → IsRead AnyFile ts (found_tree Unlimited File_of ts)
unfolding found_tree
any_read ts = seen_read (spells None File_of) AnyFile bare (λ v us w. w.0) (λ x us w. ((x, whole us), (w, refl))) ts (read Unlimited File_of ts) (reads_tree Unlimited File_of ts)

pub within_read : (ts : List Spelled) → IsRead FileWithin ts (found_tree Limited File_of ts)
unfolding found_tree
within_read ts = seen_read (spells (Some 64) File_of) FileWithin bare (λ v us w. w.0) (λ x us w. ((x, whole us), (w, refl))) ts (read Limited File_of ts) (reads_tree Limited File_of ts)

-- what was read in front of some tokens
pub record Read (ts rest : List Spelled) : Type 0 where
  pub used : List Spelled
  pub is : ts ≡ used ++ rest

-- a reader that stopped, or is held, read a front
pub held_front : {X : Type 0} (l : X → List Spelled → Type 0) (ts rest : List Spelled) (f : Found Spelled X) → IsRead l ts f → left_of f ≡ rest → (used : List Spelled) × (ts ≡ used ++ rest) × IsFront l used rest
held_front l ts rest (Done x left) (used, e, front, w) same = (used, e ∙ ap (λ z. used ++ z) same, subst (IsFront l used) same front)
held_front l ts rest (Stopped left) (used, e, front, none) same = (used, e ∙ ap (λ z. used ++ z) same, subst (IsFront l used) same front)

-- the unlimited reader stopped: no file goes on, and none is whole
pub wrong_here : (ts rest : List Spelled) → AreStopped (λ b. found_tree b File_of ts) rest → (used : List Spelled) × (ts ≡ used ++ rest) × Begins FileWithin used × IsWrong used rest
wrong_here ts rest h = by (subst (IsRead AnyFile ts) (h Unlimited) (any_read ts)) (subst (IsRead FileWithin ts) (h Limited) (within_read ts))
  where
    by : IsRead AnyFile ts (Stopped rest) → IsRead FileWithin ts (Stopped rest) → (used : List Spelled) × (ts ≡ used ++ rest) × Begins FileWithin used × IsWrong used rest
    by (used, e, front, none) (inner, d, within, n) =
        let same : inner ≡ used = append_cancel_right inner used rest (sym d ∙ e) in
        (used, e, subst (Begins FileWithin) same within.begins, (front, λ empty x w. none x w))

-- both found a whole file, behind which no file goes on
pub wrong_behind : (ts : List Spelled) (k : Spelled) (more : List Spelled) (x : File) → IsDone (λ b. found_tree b File_of ts) x (k ∷ more)
    → (used : List Spelled) × (ts ≡ used ++ k ∷ more) × Begins FileWithin used × IsWrong used (k ∷ more)
wrong_behind ts k more x h = by (subst (IsRead AnyFile ts) (h Unlimited) (any_read ts)) (subst (IsRead FileWithin ts) (h Limited) (within_read ts))
  where
    by : IsRead AnyFile ts (Done x (k ∷ more)) → IsRead FileWithin ts (Done x (k ∷ more)) → (used : List Spelled) × (ts ≡ used ++ k ∷ more) × Begins FileWithin used × IsWrong used (k ∷ more)
    by (used, e, front, w) (inner, d, within, v) =
        let same : inner ≡ used = append_cancel_right inner used (k ∷ more) (sym d ∙ e) in
        (used, e, subst (Begins FileWithin) same within.begins, (front, λ empty. absurd cc))

-- the limited reader is held at a token that the unlimited one passes
pub deep_here : (ts rest : List Spelled) → Held (found_tree Limited File_of ts) rest → Passed (found_tree Unlimited File_of ts) rest
    → (used : List Spelled) × (ts ≡ used ++ rest) × Begins FileWithin used × IsTooDeep used rest
deep_here ts rest h p = by (held_front FileWithin ts rest (found_tree Limited File_of ts) (within_read ts) (held (found_tree Limited File_of ts) h)) (held_front AnyFile ts (left_of (found_tree Unlimited File_of ts)) (found_tree Unlimited File_of ts) (any_read ts) refl)
  where
    held : (f : Found Spelled File) → Held f rest → left_of f ≡ rest
    held (Done x left) h = h.0
    held (Stopped left) h = h

    by : (used : List Spelled) × (ts ≡ used ++ rest) × IsFront FileWithin used rest
        → (us : List Spelled) × (ts ≡ us ++ left_of (found_tree Unlimited File_of ts)) × IsFront AnyFile us (left_of (found_tree Unlimited File_of ts))
        → (used : List Spelled) × (ts ≡ used ++ rest) × Begins FileWithin used × IsTooDeep used rest
    by (used, e, front) (us, d, other) = go (cut used rest us (left_of (found_tree Unlimited File_of ts)) (sym e ∙ d))
      where
        go : Cut used rest us (left_of (found_tree Unlimited File_of ts)) → (used : List Spelled) × (ts ≡ used ++ rest) × Begins FileWithin used × IsTooDeep used rest
        go (inl (k, c, a, s)) = (
          used,
          e,
          front.begins,
          inl (k, c ++ left_of (found_tree Unlimited File_of ts), s, front_of AnyFile (used ++ k ∷ []) c (subst (Begins AnyFile) (a ∙ sym (one_more used k c)) other.begins), front.ends k (c ++ left_of (found_tree Unlimited File_of ts)) s),
        )
        go (inr (inl (a, s))) = absurd (omega (arith, ap length s))
        go (inr (inr (k, c, a, s))) = absurd (omega (arith, ap length s, length-append c rest))

-- The library's import: where it is come to, and where it is passed.

-- a package with its word
abbrev some_form : Form Name
some_form = Then (T (package_word ∷ [])) (Then (Ref Path) (T (separator ∷ [])))

fine_some : Fine some_form
unfolding example sort_of sort_of_mark sort_of_word sort_of_name sort_of_operator sort_of_prefixed sort_of_separator
fine_some = refl

record Some_package (us : List Spelled) : Type 0 where
  parts : Val sort T_of some_form
  says : Said None some_form parts us
  head : Spelled
  rest : List Spelled
  is : us ≡ head ∷ rest
  worded : Is (package_word ∷ []) head

package_cases : {path : List (List ℕ)} {us : List Spelled} → IsPackage path us → (us ≡ []) ⊎ Some_package us
package_cases (package_none e p) = inl e
package_cases (package_some {path} {us = ps} w s hw hp hs e) =
    inr (record {
      parts = (w, ((path, whole ps), s));
      says = (w ∷ [], ps ++ s ∷ [], e, (refl, hw), (ps, s ∷ [], refl, (hp, refl), (refl, hs)));
      head = w;
      rest = ps ++ s ∷ [];
      is = e;
      worded = hw;
    })

-- no package goes on behind a whole one
none_longer : {q : List (List ℕ)} (us : List Spelled) (k : Spelled) (c : List Spelled) → Some_package us → IsPackage q (us ++ k ∷ c) → ⊥
none_longer {q} us k c a w = by (package_cases w)
  where
    by : (us ++ k ∷ c ≡ []) ⊎ Some_package (us ++ k ∷ c) → ⊥
    by (inl e) = let n : length (us ++ k ∷ c) ≡ 0 = ap length e in omega (arith, length-append us (k ∷ c))
    by (inr b) =
        let begins : Begins (Said None some_form) (us ++ k ∷ []) = (b.parts, c, subst (Said None some_form b.parts) (sym (one_more us k c)) b.says) in
        let never : has [] (sort k) ≡ true = (form_law (suc (length us)) Unlimited some_form fine_some).goes a.parts us k (omega arith) a.says begins in
        cc

-- a package's word is no import
apart : (k : Spelled) → Is (package_word ∷ []) k → Is (import_word ∷ []) k → ⊥
apart k p i = disjoint_sound (package_word ∷ []) (import_word ∷ []) (sort k) refl p i

library_head : {ts : List Spelled} (k : Spelled) (more : List Spelled) → IsLibrary ts → ts ≡ k ∷ more → Is (import_word ∷ []) k
library_head k more (library_all i o d s e u hi ho hd hs he hu t) h = let same : i ≡ k = cc (t, h) in subst (λ z. Is (import_word ∷ []) z) same hi

library_length : {ts : List Spelled} → IsLibrary ts → length ts ≡ 6
library_length (library_all i o d s e u hi ho hd hs he hu t) = ap length t

no_empty : IsLibrary [] → ⊥
no_empty (library_all i o d s e u hi ho hd hs he hu t) = cc

heads : (i : Spelled) (is : List Spelled) (j : Spelled) (js : List Spelled) → i ∷ is ≡ j ∷ js → i ≡ j
heads i is j js e = cc

-- behind a whole import there is no part of one
too_long : (ws : List Spelled) (k : Spelled) (tail lib more : List Spelled) → length (ws ++ k ∷ tail) ≡ 6 → length lib ≡ 6 → ws ≡ lib ++ more → ⊥
too_long ws k tail lib more a b s = omega (arith, a, b, ap length s, length-append lib more, length-append ws (k ∷ tail))

package_head : {us : List Spelled} (k : Spelled) (more : List Spelled) → Some_package us → us ≡ k ∷ more → Is (package_word ∷ []) k
package_head k more a h = let same : a.head ≡ k = cc (a.is, h) in subst (λ z. Is (package_word ∷ []) z) same a.worded

-- a package that begins with a token
package_begins : {path : List (List ℕ)} (k : Spelled) (more : List Spelled) → IsPackage path (k ∷ more) → Is (package_word ∷ []) k
package_begins k more w = by (package_cases w)
  where
    by : (k ∷ more ≡ []) ⊎ Some_package (k ∷ more) → Is (package_word ∷ []) k
    by (inl e) = absurd cc
    by (inr a) = package_head k more a refl

-- a whole import behind a package is passed
pub behind_library : {path : List (List ℕ)} (used rest us lib more : List Spelled) → used ≡ us ++ (lib ++ more) → IsPackage path us → IsLibrary lib → IsInLibrary used rest → ⊥
behind_library {path} used rest us lib more e p l (some, q, vs, ws, f, r, k, tail, m) = by (cut vs ws us (lib ++ more) (sym f ∙ e))
  where
    first : (j : Spelled) (c : List Spelled) → ws ≡ j ∷ c → Is (import_word ∷ []) j
    first j c h = library_head j (c ++ k ∷ tail) m (ap (λ z. z ++ k ∷ tail) h)

    second : (j : Spelled) (c : List Spelled) → lib ++ more ≡ j ∷ c → Is (import_word ∷ []) j
    second j c h = go lib l h
      where
        go : (lib : List Spelled) → IsLibrary lib → lib ++ more ≡ j ∷ c → Is (import_word ∷ []) j
        go [] l h = absurd (no_empty l)
        go (i ∷ is) l h = subst (λ z. Is (import_word ∷ []) z) (heads i (is ++ more) j c h) (library_head i is l refl)

    by : Cut vs ws us (lib ++ more) → ⊥
    by (inl (j, c, a, s)) = go (package_cases r)
      where
        go : (vs ≡ []) ⊎ Some_package vs → ⊥
        go (inl h) = apart j (package_begins j c (subst (IsPackage path) (a ∙ ap (λ z. z ++ j ∷ c) h) p)) (first j (c ++ (lib ++ more)) s)
        go (inr h) = none_longer vs j c h (subst (IsPackage path) a p)
    by (inr (inl (a, s))) =
        too_long ws k tail lib more (library_length m) (library_length l) s
    by (inr (inr (j, c, a, s))) = go (package_cases p)
      where
        go : (us ≡ []) ⊎ Some_package us → ⊥
        go (inl h) = apart j (package_begins j c (subst (IsPackage q) (a ∙ ap (λ z. z ++ j ∷ c) h) r)) (second j (c ++ ws) s)
        go (inr h) = none_longer us j c h (subst (IsPackage q) a r)

-- where a package stops, the import isn't come to
pub before_library : (ts used rest : List Spelled) → found_tree Unlimited Package ts ≡ Stopped rest → ts ≡ used ++ rest → IsInLibrary used rest → ⊥
unfolding found_tree
before_library ts used rest h e (some, q, vs, ws, f, r, k, tail, m) =
    by (subst (IsRead (spells None Package) ts) (as_stopped bare (read Unlimited Package ts) rest h) (reads_tree Unlimited Package ts))
  where
    by : IsRead (spells None Package) ts (Stopped rest) → ⊥
    by (inner, d, front, none) = go (package_cases r) ws m f
      where
        same : inner ≡ used
        same = append_cancel_right inner used rest (sym d ∙ e)

        begins : Begins (spells None Package) used
        begins = subst (Begins (spells None Package)) same front.begins

        not_whole : (path : List (List ℕ)) → IsPackage path used → ⊥
        not_whole path w = none (path, whole inner) (subst (IsPackage path) (sym same) w, refl)

        go : (vs ≡ []) ⊎ Some_package vs → (ws : List Spelled) → IsLibrary (ws ++ k ∷ tail) → used ≡ vs ++ ws → ⊥
        go (inl h) [] m f = not_whole [] (package_none (f ∙ ap (λ z. z ++ []) h) refl)
        go (inl h) (j ∷ js) m f =
            let same : used ≡ j ∷ js = f ∙ ap (λ z. z ++ j ∷ js) h in
            let w = begins.2 in
            apart j (package_begins j (js ++ begins.1) (subst (λ z. IsPackage begins.0.0 (z ++ begins.1)) same w.0)) (library_head j (js ++ k ∷ tail) m refl)
        go (inr h) [] m f = not_whole q (subst (IsPackage q) (sym (f ∙ append-nil vs)) r)
        go (inr h) (j ∷ js) m f =
            let w = begins.2 in
            none_longer vs j (js ++ begins.1) h (subst (IsPackage begins.0.0) (ap (λ z. z ++ begins.1) f ∙ append_assoc vs (j ∷ js) begins.1) w.0)

-- What is answered.

-- the same file, with its line feeds
pub with_feeds : {limit : Limit} {x : File} {ts : List Spelled} (feeds : List ℕ) → IsFile limit [] x ts → IsFile limit feeds (record { «package» = x.package; imports = x.imports; decls = x.decls; span = x.span; feeds = feeds }) ts
with_feeds feeds (file_of p l i e r) = file_of p l i e (ap (λ (y : File). record { «package» = y.package; imports = y.imports; decls = y.decls; span = y.span; feeds = feeds }) r)

-- what a reader left, and in front of that it read something
left_front : {X : Type 0} (l : X → List Spelled → Type 0) {ts : List Spelled} (f : Found Spelled X) → IsRead l ts f → (used : List Spelled) × (ts ≡ used ++ left_of f)
left_front l (Done x rest) (used, e, front, w) = (used, e)
left_front l (Stopped rest) (used, e, front, w) = (used, e)

left_view : {X Y : Type 0} (f : X → Y) (g : Found Spelled X) → left_of (found_as f g) ≡ left_of g
left_view f (Done x rest) = refl
left_view f (Stopped rest) = refl

module _ (file : ℕ) (bytes : List ℕ) (tokens : List Token) where
  no_tokens : (i : ℕ) → behind bytes tokens i ≡ [] → i < length tokens → ⊥
  no_tokens i e lt = let n : length tokens - i ≡ 0 = sym (behind_length bytes tokens i) ∙ ap length e in omega arith

  abbrev pub All : List Spelled
  All = behind bytes tokens 0

  -- a rule of a number is broken at an index
  answered : (number i : ℕ) (broken : Broken) → i ≤ length tokens → broken.rule ≡ rule number → broken.span ≡ place file bytes (drop i tokens)
      → (used : List Spelled) → All ≡ used ++ behind bytes tokens i → Begins FileWithin used → IsBroken number used (behind bytes tokens i) → Parsed file bytes tokens (Err (fault.Broken broken))
  answered number i broken le r s used e begins h =
      let b : AreBetween bytes tokens 0 i used = between bytes tokens 0 i used (omega arith) le e in
      let n : length used ≡ i = omega (arith, b.1) in
      let at : broken.span ≡ place file bytes (drop (length used) tokens) = s ∙ ap (λ j. place file bytes (drop j tokens)) (sym n) in
      inl (number, used, behind bytes tokens i, e, begins, h, λ j. record { rule = r j; span = at j })

  six_one : rule 6 ≡ rule 1 → ⊥
  six_one r = true≢false (ap (λ (x : Rule). eqb x.number 6) r)

  broken_same : (a b : Broken) → fault.Broken a ≡ fault.Broken b → a ≡ b
  broken_same a b e = cc

  -- too deep
  deep : (e : Fault) (broken : Broken) → e ≡ fault.Broken broken → broken.rule ≡ rule 6 → Faults file bytes tokens (λ b. found_tree b File_of All) e → Parsed file bytes tokens (Err e)
  deep (fault.Broken given) broken same six (i, le, s, inl (one, h)) = absurd (six_one (sym (ap (λ (x : Broken). x.rule) (broken_same given broken same) ∙ six) ∙ one))
  deep (fault.Broken given) broken same six (i, le, s, inr (r, h, p)) =
      let (used, e, begins, t) = deep_here All (behind bytes tokens i) h p in
      answered 6 i given le r s used e begins (inl (refl, t))
  deep fault.Mem broken same six h = tt

  -- the package is at fault
  pub answered_package : (e : Fault) → Faults file bytes tokens (λ b. found_tree b Package All) e → Parsed file bytes tokens (Err e)
  answered_package (fault.Broken broken) (i, le, s, inl (r, h)) =
      let (used, e, begins, w) = wrong_here All (behind bytes tokens i) (package_stops All (behind bytes tokens i) h) in
      answered 1 i broken le r s used e begins (inr (inr (refl, w, before_library All used (behind bytes tokens i) (h Unlimited) e)))
  answered_package (fault.Broken broken) (i, le, s, inr (r, h, p)) =
      deep (fault.Broken broken) broken refl r (package_fault file bytes tokens All (fault.Broken broken) (i, le, s, inr (r, h, p)))
  answered_package fault.Mem h = tt

  -- what a reader of a name read
  pub package_read : (path : List (List ℕ)) (mid : List Spelled) → IsDone (λ b. found_tree b Package All) path mid → (us : List Spelled) × (All ≡ us ++ mid) × IsPackage path us
  unfolding found_tree
  package_read path mid h =
      let d = as_done bare (read Unlimited Package All) path mid (h Unlimited) in
      by d.0 (subst (IsRead (spells None Package) All) d.1 (reads_tree Unlimited Package All)) d.2
    where
      by : (v : T_of Package) → IsRead (spells None Package) All (Done v mid) → v.0 ≡ path → (us : List Spelled) × (All ≡ us ++ mid) × IsPackage path us
      by v (us, e, front, w) same = (us, e, subst (λ z. IsPackage z us) same w.0)

  pub library_read : (mid rest : List Spelled) → IsDone (λ b. found_tree b Library mid) tt rest → (us : List Spelled) × (mid ≡ us ++ rest) × IsLibrary us
  unfolding found_tree
  library_read mid rest h =
      let d = as_done bare (read Unlimited Library mid) tt rest (h Unlimited) in
      by d.0 (subst (IsRead (spells None Library) mid) d.1 (reads_tree Unlimited Library mid))
    where
      by : (v : T_of Library) → IsRead (spells None Library) mid (Done v rest) → (us : List Spelled) × (mid ≡ us ++ rest) × IsLibrary us
      by v (us, e, front, w) = (us, e, w.0)

  -- where the import stops, a front of it was read, and it goes on
  pub library_front : (mid rest : List Spelled) → ((b : Bound) → found_tree b Library mid ≡ Stopped rest) → (us : List Spelled) × (mid ≡ us ++ rest) × (k : Spelled) × (more : List Spelled) × IsLibrary (us ++ k ∷ more)
  unfolding found_tree
  library_front mid rest h = by (subst (IsRead (spells None Library) mid) (as_stopped bare (read Unlimited Library mid) rest (h Unlimited)) (reads_tree Unlimited Library mid))
    where
      by : IsRead (spells None Library) mid (Stopped rest) → (us : List Spelled) × (mid ≡ us ++ rest) × (k : Spelled) × (more : List Spelled) × IsLibrary (us ++ k ∷ more)
      by (us, e, front, none) = go front.begins
        where
          go : Begins (spells None Library) us → (us : List Spelled) × (mid ≡ us ++ rest) × (k : Spelled) × (more : List Spelled) × IsLibrary (us ++ k ∷ more)
          go (v, [], w) = absurd (none (tt, whole us) (subst (λ z. IsLibrary z) (append-nil us) w.0, refl))
          go (v, k ∷ more, w) = (us, e, k, more, w.0)

  -- another token stands in the import, or the file ends there
  pub answered_library : (path : List (List ℕ)) (at : ℕ) → IsDone (λ b. found_tree b Package All) path (behind bytes tokens at) → (e : Fault) → ToldLibrary file bytes tokens at (Err e) → Parsed file bytes tokens (Err e)
  answered_library path at p (fault.Broken broken) (i, a, le, s, h) =
      let (used, e, begins, w) = wrong_here All (behind bytes tokens i) (library_stops All path (behind bytes tokens at) (behind bytes tokens i) p h) in
      by (nat_lt i (length tokens)) refl used e begins w
    where
      here : (used : List Spelled) → All ≡ used ++ behind bytes tokens i → (behind bytes tokens i ≡ [] → ⊥) → IsInLibrary used (behind bytes tokens i)
      here used e some =
          let (us, f, q) = package_read path (behind bytes tokens at) p in
          let (vs, g, k, more, m) = library_front (behind bytes tokens at) (behind bytes tokens i) h in
          (some, path, us, vs, append_cancel_right used (us ++ vs) (behind bytes tokens i) (sym e ∙ (f ∙ (ap (λ z. us ++ z) g ∙ sym (append_assoc us vs (behind bytes tokens i))))), q, k, more, m)

      number : (c : Bool) → nat_lt i (length tokens) ≡ c → broken ≡ record { rule = rule (if c then 2 else 1); span = place file bytes (drop i tokens) }
      number c d = s ∙ ap (λ b. record { rule = rule (if b then 2 else 1); span = place file bytes (drop i tokens) }) d

      by : (c : Bool) → nat_lt i (length tokens) ≡ c → (used : List Spelled) → All ≡ used ++ behind bytes tokens i → Begins FileWithin used → IsWrong used (behind bytes tokens i) → Parsed file bytes tokens (Err (fault.Broken broken))
      by true d used e begins w =
          let some : behind bytes tokens i ≡ [] → ⊥ = λ n. no_tokens i n (ltb-true i (length tokens) d) in
          answered 2 i broken le (ap (λ (x : Broken). x.rule) (number true d)) (ap (λ (x : Broken). x.span) (number true d)) used e begins (inr (inl (refl, w, here used e some)))
      by false d used e begins w =
          answered 1 i broken le (ap (λ (x : Broken). x.rule) (number false d)) (ap (λ (x : Broken). x.span) (number false d)) used e begins
          (inr (inr (refl, w, λ l. l.0 (behind_end bytes tokens i (ltb-false i (length tokens) d)))))
  answered_library path at p fault.Mem h = tt

  -- behind a whole import
  module _ (path : List (List ℕ)) (at next : ℕ) (p : IsDone (λ b. found_tree b Package All) path (behind bytes tokens at)) (l : IsDone (λ b. found_tree b Library (behind bytes tokens at)) tt (behind bytes tokens next)) where
    passed_library : (used more rest : List Spelled) → All ≡ used ++ rest → behind bytes tokens next ≡ more ++ rest → IsInLibrary used rest → ⊥
    passed_library used more rest e g =
        let (us, f, q) = package_read path (behind bytes tokens at) p in
        let (lib, h, m) = library_read (behind bytes tokens at) (behind bytes tokens next) l in
        behind_library used rest us lib more
        (append_cancel_right used (us ++ (lib ++ more)) rest
        (sym e ∙ (f ∙ (ap (λ z. us ++ z) (h ∙ ap (λ z. lib ++ z) g) ∙ (ap (λ z. us ++ z) (sym (append_assoc lib more rest)) ∙ sym (append_assoc us (lib ++ more) rest)))))) q m

    -- what items read
    items_read : (rest : List Spelled) (f : Found Spelled (List Import × List Decl)) → left_of f ≡ rest → found_as items_view (reads Unlimited items_form (behind bytes tokens next)) ≡ f → (more : List Spelled) × (behind bytes tokens next ≡ more ++ rest)
    items_read rest f a e =
        let w = left_front (Said None items_form) (reads Unlimited items_form (behind bytes tokens next)) ((form_law (suc (length (behind bytes tokens next))) Unlimited items_form fine_items).reads (behind bytes tokens next) (omega arith)) in
        (w.0, w.1 ∙ ap (λ z. w.0 ++ z) (sym (left_view items_view (reads Unlimited items_form (behind bytes tokens next))) ∙ (ap left_of e ∙ a)))

    pub answered_items : (e : Fault) → Faults file bytes tokens (λ b. found_as items_view (reads b items_form (behind bytes tokens next))) e → Parsed file bytes tokens (Err e)
    answered_items (fault.Broken broken) (i, le, s, inl (r, h)) =
        let (used, e, begins, w) = wrong_here All (behind bytes tokens i) (items_stop All path (behind bytes tokens at) (behind bytes tokens next) (behind bytes tokens i) p l h) in
        let (more, g) = items_read (behind bytes tokens i) (Stopped (behind bytes tokens i)) refl (h Unlimited) in
        answered 1 i broken le r s used e begins (inr (inr (refl, w, passed_library used more (behind bytes tokens i) e g)))
    answered_items (fault.Broken broken) (i, le, s, inr (r, h, q)) =
        deep (fault.Broken broken) broken refl r
        (items_fault file bytes tokens All (fault.Broken broken) path (behind bytes tokens at) (behind bytes tokens next) p l (i, le, s, inr (r, h, q)))
    answered_items fault.Mem h = tt

    module _ (imports : List Import) (decls : List Decl) (left : ℕ) (span : Span) (d : IsDone (λ b. found_as items_view (reads b items_form (behind bytes tokens next))) (imports, decls) (behind bytes tokens left))
        (s : (used : List Spelled) → All ≡ used ++ behind bytes tokens left → span ≡ cover used) where
      abbrev whole_file : List ℕ → File
      whole_file feeds = record { «package» = path; imports = imports; decls = decls; span = span; feeds = feeds }

      -- a token is left
      pub answered_behind : (e : Fault) → e ≡ fault.Broken (record { rule = rule 1; span = place file bytes (drop left tokens) }) → left < length tokens → Parsed file bytes tokens (Err e)
      answered_behind e same lt = by (behind bytes tokens left) refl
        where
          by : (ts : List Spelled) → behind bytes tokens left ≡ ts → Parsed file bytes tokens (Err e)
          by [] n = absurd (no_tokens left n lt)
          by (k ∷ rest) n =
              let all : IsDone (λ b. found_tree b File_of All) (whole_file []) (behind bytes tokens left) = file_whole All path imports decls span (behind bytes tokens at) (behind bytes tokens next) (behind bytes tokens left) p l d s in
              let (used, f, begins, w) = wrong_behind All k rest (whole_file []) (λ b. all b ∙ ap (Done (whole_file [])) n) in
              let (more, g) = items_read (behind bytes tokens left) (Done (imports, decls) (behind bytes tokens left)) refl (d Unlimited) in
              rw (same)
              (answered 1 left (record { rule = rule 1; span = place file bytes (drop left tokens) }) (omega arith) refl refl used (f ∙ ap (λ z. used ++ z) (sym n)) begins
              (subst (IsBroken 1 used) (sym n) (inr (inr (refl, w, passed_library used more (k ∷ rest) f (g ∙ ap (λ z. more ++ z) n))))))

      -- no token is left
      pub answered_whole : length tokens ≤ left → (feeds : List ℕ) → feeds ≡ feeds_from 0 bytes → IsTree bytes tokens (whole_file feeds)
      answered_whole le feeds same =
          let none : behind bytes tokens left ≡ [] = behind_end bytes tokens left le in
          let all : IsDone (λ b. found_tree b File_of All) (whole_file []) (behind bytes tokens left) = file_whole All path imports decls span (behind bytes tokens at) (behind bytes tokens next) (behind bytes tokens left) p l d s in
          by (subst (IsRead FileWithin All) (all Limited ∙ ap (Done (whole_file [])) none) (within_read All))
        where
          by : IsRead FileWithin All (Done (whole_file []) []) → IsTree bytes tokens (whole_file feeds)
          by (used, e, front, w) =
              subst (λ z. IsFile (Some 64) (feeds_from 0 bytes) (whole_file z) All) (sym same) (subst (IsFile (Some 64) (feeds_from 0 bytes) (whole_file (feeds_from 0 bytes))) (sym (e ∙ append-nil used)) (with_feeds (feeds_from 0 bytes) w))

    -- the same, whatever the span of what was read
    pub answered_left : (imports : List Import) (decls : List Decl) (left : ℕ) → IsDone (λ b. found_as items_view (reads b items_form (behind bytes tokens next))) (imports, decls) (behind bytes tokens left)
        → (e : Fault) → e ≡ fault.Broken (record { rule = rule 1; span = place file bytes (drop left tokens) }) → left < length tokens → Parsed file bytes tokens (Err e)
    answered_left imports decls left d e same lt =
        let (us, f, q) = package_read path (behind bytes tokens at) p in
        let (lib, h, m) = library_read (behind bytes tokens at) (behind bytes tokens next) l in
        let (more, g) = items_read (behind bytes tokens left) (Done (imports, decls) (behind bytes tokens left)) refl (d Unlimited) in
        let used : List Spelled = us ++ (lib ++ more) in
        let all : All ≡ used ++ behind bytes tokens left =
        f ∙ (ap (λ z. us ++ z) (h ∙ ap (λ z. lib ++ z) g) ∙ (ap (λ z. us ++ z) (sym (append_assoc lib more (behind bytes tokens left))) ∙ sym (append_assoc us (lib ++ more) (behind bytes tokens left))))
        in
        answered_behind imports decls left (cover used) d (λ other o. ap cover (append_cancel_right used other (behind bytes tokens left) (sym all ∙ o))) e same lt

-- the result of a `?`
pub err_parsed : (file : ℕ) (bytes : List ℕ) (tokens : List Token) (x : Fault) (r : Result File Fault) → Parsed file bytes tokens (Err x) → IsErrAnd r (λ e. e ≡ x) → Parsed file bytes tokens r
err_parsed file bytes tokens x r h e = let p = err_from_is_err_and r e in subst (Parsed file bytes tokens) (sym p.1) (subst (λ z. Parsed file bytes tokens (Err z)) (sym p.2) h)
