-- Each file has an answer: its tree, or the rule that it breaks first, and where.
use Rattle.std.proofs.Common.{◌≡◌, ℕ, List, [], ◌∷◌, ◌++◌, length, refl, sym, ap, ◌∙◌, subst, ◌⊎◌, inl, inr, append-nil, append_assoc}
use Rattle.std.specs.Prelude.{Option, Some, None, drop}
use Rattle.std.specs.declared.result.Result.TheVariants.{Ok, Err}
use Rattle.std.proofs.lemmas.List.{append_cancel_right}
use Rattle.sl_text.specs.declared.token.Token.{Token}
use Rattle.sl_text.specs.declared.fault.Broken.{Broken}
use Rattle.sl_text.specs.declared.fault.Fault.TheVariants as fault
use Rattle.sl_text.specs.Places.{feeds_from}
use Rattle.sl_grammar.specs.Phrase.{Begins, Found, Done, Stopped, IsFront, IsRead, left_of}
use Rattle.sl_grammar.specs.Law.{found_as}
use Rattle.sl_grammar.proofs.Both.{Cut, cut}
use Rattle.sl_grammar.proofs.Then.{front_of, one_more}
use Rattle.sl_grammar.proofs.Front.{begins_read, begins_left}
use Rattle.sl_tree.specs.Sorts.{Spelled}
use Rattle.sl_tree.specs.WellShaped.{cover}
use Rattle.sl_tree.specs.Declarations.{IsPackage, IsLibrary, file_of, items_none}
use Rattle.sl_tree.specs.declared.tree.File.{File}
use Rattle.sl_parse_expr.specs.Told.{behind}
use Rattle.sl_parse_expr.specs.Answers.{place, rule}
use Rattle.sl_parse.specs.Names.{Name, Library, Package, File_of}
use Rattle.sl_parse.specs.Values.{T_of}
use Rattle.sl_parse.specs.Grammar.{Bound, Limited, Unlimited, spells}
use Rattle.sl_parse.specs.Told.{bare, found_tree, IsDone}
use Rattle.sl_parse.specs.TreeRules.{broken_in, first_of}
use Rattle.sl_parse.specs.Answers.{AnyFile, FileWithin, IsWrong, IsInLibrary, IsBroken, Parsed}
use Rattle.sl_parse.proofs.Wider.{wide_file}
use Rattle.sl_parse.proofs.FirstFault.{none_is}
use Rattle.sl_parse.proofs.Telling.{ref_reads, same_ref}
use Rattle.sl_parse.proofs.FilesRead.{package_stops, library_stops}
use Rattle.sl_parse.proofs.FilesAnswered.{any_read, within_read, held_front, before_library, behind_library, package_read, library_read, library_front, with_feeds}

-- a tree breaks no rule, or one first
fine_or_first : (broken : List Broken) → (broken ≡ []) ⊎ ((b : Broken) × (first_of broken ≡ Some b))
fine_or_first broken = by (first_of broken) refl
  where
    by : (o : Option Broken) → first_of broken ≡ o → (broken ≡ []) ⊎ ((b : Broken) × (first_of broken ≡ Some b))
    by None e = inl (none_is broken e)
    by (Some b) e = inr (b, e)

not_empty : {K : Type 0} (k : K) (more : List K) → k ∷ more ≡ [] → ⊥
not_empty k more e = cc

-- some file begins with these tokens, or none does
begins_or_not : (ts : List Spelled) → Begins AnyFile ts ⊎ (Begins AnyFile ts → ⊥)
begins_or_not ts = by (left_of (found_tree Unlimited File_of ts)) refl
  where
    by : (rest : List Spelled) → left_of (found_tree Unlimited File_of ts) ≡ rest → Begins AnyFile ts ⊎ (Begins AnyFile ts → ⊥)
    by [] e = inl (begins_read AnyFile ts (found_tree Unlimited File_of ts) (any_read ts) e)
    by (k ∷ more) e = inr (λ b. not_empty k more (sym e ∙ begins_left AnyFile ts (found_tree Unlimited File_of ts) (any_read ts) b))

-- a list that goes on behind the longest front of a file is that of none
no_file : (ts used : List Spelled) (k : Spelled) (more : List Spelled) → ts ≡ used ++ k ∷ more → IsFront AnyFile used (k ∷ more) → (x : File) → AnyFile x ts → ⊥
no_file ts used k more e front x w =
    front.ends k more refl
    (front_of AnyFile (used ++ k ∷ []) more (x, [], subst (AnyFile x) (e ∙ (sym (one_more used k more) ∙ sym (append-nil ((used ++ k ∷ []) ++ more)))) w))

-- these tokens are those of a file, or of none
is_or_not : (ts : List Spelled) → ((x : File) × AnyFile x ts) ⊎ ((x : File) → AnyFile x ts → ⊥)
is_or_not ts = by (found_tree Unlimited File_of ts) (any_read ts)
  where
    by : (f : Found Spelled File) → IsRead AnyFile ts f → ((x : File) × AnyFile x ts) ⊎ ((x : File) → AnyFile x ts → ⊥)
    by (Done x []) (used, e, front, w) = inl (x, subst (AnyFile x) (sym (e ∙ append-nil used)) w)
    by (Done x (k ∷ more)) (used, e, front, w) = inr (no_file ts used k more e front)
    by (Stopped []) (used, e, front, none) = inr (λ x w. none x (subst (AnyFile x) (e ∙ append-nil used) w))
    by (Stopped (k ∷ more)) (used, e, front, none) = inr (no_file ts used k more e front)

-- what has no phrases in it is read the same in both languages
alike : (n : Name) → ((v : T_of n) (us : List Spelled) → spells None n v us → spells (Some 64) n v us) → (ts : List Spelled) (b : Bound) → found_tree b n ts ≡ found_tree Unlimited n ts
unfolding found_tree
alike n back ts Limited = ap (found_as bare) (sym (ref_reads Limited n ts) ∙ (same_ref n back ts ∙ ref_reads Unlimited n ts))
alike n back ts Unlimited = refl

-- there is one longest front
same_left : (used rest inner left : List Spelled) → IsFront AnyFile used rest → IsFront AnyFile inner left → inner ++ left ≡ used ++ rest → left ≡ rest
same_left used rest inner left front other e = by (cut inner left used rest e)
  where
    by : Cut inner left used rest → left ≡ rest
    by (inl (k, c, a, s)) = absurd (other.ends k (c ++ rest) s (front_of AnyFile (inner ++ k ∷ []) c (subst (Begins AnyFile) (a ∙ sym (one_more inner k c)) front.begins)))
    by (inr (inl (a, s))) = s
    by (inr (inr (k, c, a, s))) = absurd (front.ends k (c ++ left) s (front_of AnyFile (used ++ k ∷ []) c (subst (Begins AnyFile) (a ∙ sym (one_more used k c)) other.begins)))

-- a package and the library's import are a file
smallest : {path : List (List ℕ)} (us vs : List Spelled) → IsPackage path us → IsLibrary vs → Begins AnyFile (us ++ vs)
smallest {path} us vs p l =
    (record { «package» = path; imports = []; decls = []; span = cover ((us ++ vs) ++ []); feeds = [] }, [], file_of p l (items_none refl refl refl) (append_assoc us vs []) refl)

module _ (file : ℕ) (bytes : List ℕ) (tokens : List Token) where
  abbrev All : List Spelled
  All = behind bytes tokens 0

  -- where no file goes on, that is in the library's import or not
  in_library_or_not : (used rest : List Spelled) → All ≡ used ++ rest → (rest ≡ [] → ⊥) → IsFront AnyFile used rest → IsInLibrary used rest ⊎ (IsInLibrary used rest → ⊥)
  in_library_or_not used rest e some front = by (found_tree Unlimited Package All) refl
    where
      stops : (left : List Spelled) → found_tree Unlimited File_of All ≡ Stopped left → left ≡ rest
      stops left h =
          let (inner, d, other) = held_front AnyFile All left (found_tree Unlimited File_of All) (any_read All) (ap left_of h) in
          same_left used rest inner left front other (sym d ∙ e)

      behind_package : (path : List (List ℕ)) (mid : List Spelled) → IsDone (λ b. found_tree b Package All) path mid → (f : Found Spelled (Unit {0})) → found_tree Unlimited Library mid ≡ f
          → IsInLibrary used rest ⊎ (IsInLibrary used rest → ⊥)
      behind_package path mid p (Done u after) h = inr (by (cut (us ++ lib) after used rest (append_assoc us lib after ∙ (sym (f ∙ ap (λ z. us ++ z) g) ∙ e))))
        where
          package_is : (us : List Spelled) × (All ≡ us ++ mid) × IsPackage path us
          package_is = package_read file bytes tokens path mid p

          library_is : (lib : List Spelled) × (mid ≡ lib ++ after) × IsLibrary lib
          library_is = library_read file bytes tokens mid after (λ b. alike Library (λ v ts w. w) mid b ∙ h)

          us : List Spelled
          us = package_is.0

          f : All ≡ us ++ mid
          f = package_is.1

          lib : List Spelled
          lib = library_is.0

          g : mid ≡ lib ++ after
          g = library_is.1

          by : Cut (us ++ lib) after used rest → IsInLibrary used rest → ⊥
          by (inl (k, c, a, s)) = behind_library used rest us lib (k ∷ c) (a ∙ append_assoc us lib (k ∷ c)) package_is.2 library_is.2
          by (inr (inl (a, s))) = behind_library used rest us lib [] (sym a ∙ ap (λ z. us ++ z) (sym (append-nil lib))) package_is.2 library_is.2
          by (inr (inr (k, c, a, s))) =
              absurd (front.ends k (c ++ after) s (front_of AnyFile (used ++ k ∷ []) c (subst (Begins AnyFile) (a ∙ sym (one_more used k c)) (smallest us lib package_is.2 library_is.2))))
      behind_package path mid p (Stopped left) h =
          let alike_library : (b : Bound) → found_tree b Library mid ≡ Stopped left = λ b. alike Library (λ v ts w. w) mid b ∙ h in
          let s : left ≡ rest = stops left (library_stops All path mid left p alike_library Unlimited) in
          let (us, f, q) = package_read file bytes tokens path mid p in
          let (vs, g, k, more, m) = library_front file bytes tokens mid left alike_library in
          inl (some, path, us, vs, append_cancel_right used (us ++ vs) rest (sym e ∙ (f ∙ (ap (λ z. us ++ z) (g ∙ ap (λ z. vs ++ z) s) ∙ sym (append_assoc us vs rest)))), q, k, more, m)

      by : (f : Found Spelled (List (List ℕ))) → found_tree Unlimited Package All ≡ f → IsInLibrary used rest ⊎ (IsInLibrary used rest → ⊥)
      by (Done path mid) h = behind_package path mid (λ b. alike Package (λ v ts w. w) All b ∙ h) (found_tree Unlimited Library mid) refl
      by (Stopped left) h =
          let s : left ≡ rest = stops left (package_stops All left (λ b. alike Package (λ v ts w. w) All b ∙ h) Unlimited) in
          inr (before_library All used rest (h ∙ ap Stopped s) e)

  -- its tree, or the rule that it breaks first
  abbrev pub Answer : Type 0
  Answer = ((x : File) × Parsed file bytes tokens (Ok x)) ⊎ ((b : Broken) × Parsed file bytes tokens (Err (fault.Broken b)))

  broken_behind : (used rest : List Spelled) → All ≡ used ++ rest → Begins FileWithin used → (number : ℕ) → IsBroken number used rest → Answer
  broken_behind used rest e begins number is = inr (record { rule = rule number; span = place file bytes (drop (length used) tokens) }, inl (number, used, rest, e, begins, is, refl))

  without_limit : (used : List Spelled) → Begins FileWithin used → Begins AnyFile used
  without_limit used (x, tail, w) = (x, tail, wide_file (Some 64) [] x (used ++ tail) w)

  -- a token is left
  at_token : (used : List Spelled) (k : Spelled) (more : List Spelled) → All ≡ used ++ k ∷ more → IsFront FileWithin used (k ∷ more) → Answer
  at_token used k more e front = by (begins_or_not (used ++ k ∷ []))
    where
      wrong : IsWrong used (k ∷ more) → IsInLibrary used (k ∷ more) ⊎ (IsInLibrary used (k ∷ more) → ⊥) → Answer
      wrong w (inl l) = broken_behind used (k ∷ more) e front.begins 2 (inr (inl (refl, w, l)))
      wrong w (inr l) = broken_behind used (k ∷ more) e front.begins 1 (inr (inr (refl, w, l)))

      by : Begins AnyFile (used ++ k ∷ []) ⊎ (Begins AnyFile (used ++ k ∷ []) → ⊥) → Answer
      by (inl b) = broken_behind used (k ∷ more) e front.begins 6 (inl (refl, inl (k, more, refl, b, front.ends k more refl)))
      by (inr n) =
          let any : IsFront AnyFile used (k ∷ more) = record {
            begins = without_limit used front.begins;
            ends = λ j rest r b. (let same : j ≡ k = cc in n (subst (λ z. Begins AnyFile (used ++ z ∷ [])) same b));
          } in
          wrong (any, λ empty. absurd (not_empty k more empty)) (in_library_or_not used (k ∷ more) e (not_empty k more) any)

  -- none is left, and they aren't those of a file within the limit
  at_end : Begins FileWithin All → ((x : File) → FileWithin x All → ⊥) → Answer
  at_end begins none = by (is_or_not All)
    where
      by : ((x : File) × AnyFile x All) ⊎ ((x : File) → AnyFile x All → ⊥) → Answer
      by (inl (x, w)) = broken_behind All [] (sym (append-nil All)) begins 6 (inl (refl, inr (refl, x, w, none)))
      by (inr n) =
          broken_behind All [] (sym (append-nil All)) begins 1
          (inr (inr (refl, (record { begins = without_limit All begins; ends = λ k more r b. not_empty k more (sym r) }, λ empty. n), λ l. l.0 refl)))

  -- they are those of a file within the limit
  whole_answer : (x : File) → FileWithin x All → Answer
  whole_answer x w = by (fine_or_first (broken_in tree))
    where
      tree : File
      tree = record { «package» = x.package; imports = x.imports; decls = x.decls; span = x.span; feeds = feeds_from 0 bytes }

      by : (broken_in tree ≡ []) ⊎ ((b : Broken) × (first_of (broken_in tree) ≡ Some b)) → Answer
      by (inl fine) = inl (tree, (with_feeds (feeds_from 0 bytes) w, fine))
      by (inr (b, first)) = inr (b, inr (tree, with_feeds (feeds_from 0 bytes) w, first))

  pub each_answer : Answer
  each_answer = by (found_tree Limited File_of All) (within_read All)
    where
      by : (f : Found Spelled File) → IsRead FileWithin All f → Answer
      by (Done x []) (used, e, front, w) = whole_answer x (subst (FileWithin x) (sym (e ∙ append-nil used)) w)
      by (Done x (k ∷ more)) (used, e, front, w) = at_token used k more e front
      by (Stopped []) (used, e, front, none) = at_end (subst (Begins FileWithin) (sym (e ∙ append-nil used)) front.begins) (λ x w. none x (subst (FileWithin x) (e ∙ append-nil used) w))
      by (Stopped (k ∷ more)) (used, e, front, none) = at_token used k more e front
