-- What is answered of a file is determined: its tree, or the rule that it breaks and where, and never both.
use Rattle.std.proofs.Common.{◌≡◌, ℕ, List, [], ◌∷◌, ◌++◌, length, refl, sym, ap, ap₂, ◌∙◌, subst, inl, inr, append-nil}
use Rattle.std.specs.Prelude.{Some, drop}
use Rattle.std.specs.declared.result.Result.TheVariants.{Ok, Err}
use Rattle.sl_text.specs.declared.token.Token.{Token}
use Rattle.sl_text.specs.declared.fault.Broken.{Broken}
use Rattle.sl_text.specs.declared.fault.Fault.TheVariants as fault
use Rattle.sl_grammar.specs.Phrase.{Begins}
use Rattle.sl_grammar.proofs.Both.{Cut, cut}
use Rattle.sl_grammar.proofs.Then.{front_of, one_more}
use Rattle.sl_tree.specs.Sorts.{Spelled}
use Rattle.sl_tree.specs.Declarations.{Limit, IsFile, file_of}
use Rattle.sl_tree.specs.declared.tree.File.{File}
use Rattle.sl_parse_expr.specs.Told.{behind}
use Rattle.sl_parse_expr.specs.Answers.{place, rule}
use Rattle.std.proofs.lemmas.Option.{same_Some}
use Rattle.sl_parse.specs.TreeRules.{broken_in, first_of}
use Rattle.sl_parse.specs.Answers.{AnyFile, FileWithin, IsTooDeep, IsWrong, IsBroken, IsBrokenAt, IsTree, Parsed}
use Rattle.sl_parse.proofs.Wider.{wide_file}
use Rattle.sl_parse.proofs.OneTree.{one_file}

-- a file's tokens have one tree
one_within : {feeds : List ℕ} {x y : File} {ts : List Spelled} → IsFile (Some 64) feeds x ts → IsFile (Some 64) feeds y ts → x ≡ y
one_within {feeds} {x} {y} {ts} a b = one_file (wide_file (Some 64) feeds x ts a) (wide_file (Some 64) feeds y ts b)

-- where a rule is broken no file goes on that is not too deep
goes_not_on : (number : ℕ) (used rest : List Spelled) (k : Spelled) (more : List Spelled) → IsBroken number used rest → rest ≡ k ∷ more
    → Begins FileWithin (used ++ k ∷ []) → ⊥
goes_not_on number used rest k more broken e (x, tail, w) = by broken
  where
    any : Begins AnyFile (used ++ k ∷ [])
    any = (x, tail, wide_file (Some 64) [] x ((used ++ k ∷ []) ++ tail) w)

    deep : IsTooDeep used rest → ⊥
    deep (inl (head, behind, is, begins, none)) = let same : k ≡ head = cc in none (subst (λ z. Begins FileWithin (used ++ z ∷ [])) same (x, tail, w))
    deep (inr (empty, y, v, none)) = cc (empty, e)

    by : IsBroken number used rest → ⊥
    by (inl h) = deep h.1
    by (inr (inl h)) = h.1.0.ends k more e any
    by (inr (inr h)) = h.1.0.ends k more e any

-- so no tokens of a file begin with more
no_longer : (number : ℕ) (used rest : List Spelled) (k : Spelled) (c more : List Spelled) → IsBroken number used rest → rest ≡ k ∷ more
    → Begins FileWithin (used ++ k ∷ c) → ⊥
no_longer number used rest k c more broken e begins =
    goes_not_on number used rest k more broken e (front_of FileWithin (used ++ k ∷ []) c (subst (Begins FileWithin) (sym (one_more used k c)) begins))

-- at one place one rule is broken
deep_or_wrong : (used rest : List Spelled) → IsTooDeep used rest → IsWrong used rest → ⊥
deep_or_wrong used rest (inl (k, more, e, begins, none)) wrong = wrong.0.ends k more e begins
deep_or_wrong used rest (inr (empty, x, w, none)) wrong = wrong.1 empty x w

one_number : (number other : ℕ) (used rest : List Spelled) → IsBroken number used rest → IsBroken other used rest → number ≡ other
one_number number other used rest (inl h) (inl g) = h.0 ∙ sym g.0
one_number number other used rest (inl h) (inr (inl g)) = absurd (deep_or_wrong used rest h.1 g.1)
one_number number other used rest (inl h) (inr (inr g)) = absurd (deep_or_wrong used rest h.1 g.1)
one_number number other used rest (inr (inl h)) (inl g) = absurd (deep_or_wrong used rest g.1 h.1)
one_number number other used rest (inr (inr h)) (inl g) = absurd (deep_or_wrong used rest g.1 h.1)
one_number number other used rest (inr (inl h)) (inr (inl g)) = h.0 ∙ sym g.0
one_number number other used rest (inr (inl h)) (inr (inr g)) = absurd (g.2 h.2)
one_number number other used rest (inr (inr h)) (inr (inl g)) = absurd (h.2 g.2)
one_number number other used rest (inr (inr h)) (inr (inr g)) = h.0 ∙ sym g.0

-- the same file, whose line feeds aren't told
abbrev fed : List ℕ → File → File
fed feeds x = record x { feeds = feeds }

unfed : {limit : Limit} {feeds : List ℕ} {x : File} {ts : List Spelled} → IsFile limit feeds x ts → IsFile limit [] (fed [] x) ts
unfed (file_of p l i e r) = file_of p l i e (ap (fed []) r)

-- tokens of a file that is not too deep break no rule at their end
not_at_end : (number : ℕ) (used : List Spelled) (x : File) → FileWithin x used → IsBroken number used [] → ⊥
not_at_end number used x w broken = by broken
  where
    any : AnyFile x used
    any = wide_file (Some 64) [] x used w

    by : IsBroken number used [] → ⊥
    by (inl (is, inl (k, more, e, begins, none))) = absurd cc
    by (inl (is, inr (empty, y, v, none))) = none x w
    by (inr (inl h)) = h.1.1 refl x any
    by (inr (inr h)) = h.1.1 refl x any

-- nor before it
not_within : (number : ℕ) (used rest ts : List Spelled) (x : File) → FileWithin x ts → ts ≡ used ++ rest → IsBroken number used rest → ⊥
not_within number used [] ts x w e broken = not_at_end number used x (subst (FileWithin x) (e ∙ append-nil used) w) broken
not_within number used (k ∷ more) ts x w e broken =
    no_longer number used (k ∷ more) k more more broken refl (x, [], subst (FileWithin x) (e ∙ sym (append-nil (used ++ k ∷ more))) w)

-- a rule that is broken at a token or at the end
abbrev at_once : (file : ℕ) (bytes : List ℕ) (tokens : List Token) (number : ℕ) (used : List Spelled) → Broken
at_once file bytes tokens number used = record { rule = rule number; span = place file bytes (drop (length used) tokens) }

-- tokens break one rule at the most, at one place
one_broken_at : (file : ℕ) (bytes : List ℕ) (tokens : List Token) (a b : Broken) → IsBrokenAt file bytes tokens a → IsBrokenAt file bytes tokens b → a ≡ b
one_broken_at file bytes tokens a b (number, used, rest, e, begins, is, told) (number', used', rest', e', begins', is', told') =
    by (cut used rest used' rest' (sym e ∙ e'))
  where
    by : Cut used rest used' rest' → a ≡ b
    by (inl (k, c, z, s)) = absurd (no_longer number used rest k c (c ++ rest') is s (subst (Begins FileWithin) z begins'))
    by (inr (inl (z, s))) =
        let here : IsBroken number' used rest = subst (λ y. IsBroken number' y rest) (sym z) (subst (λ y. IsBroken number' used' y) (sym s) is') in
        told ∙ (ap₂ (at_once file bytes tokens) (one_number number number' used rest is here) z ∙ sym told')
    by (inr (inr (k, c, z, s))) = absurd (no_longer number' used' rest' k c (c ++ rest) is' s (subst (Begins FileWithin) z begins))

-- those of a file that isn't too deep break none
tree_or_broken_at : (file : ℕ) (bytes : List ℕ) (tokens : List Token) (x : File) (b : Broken) → IsTree bytes tokens x → IsBrokenAt file bytes tokens b → ⊥
tree_or_broken_at file bytes tokens x b w (number, used, rest, e, begins, is, told) = not_within number used rest (behind bytes tokens 0) (fed [] x) (unfed w) e is

-- what is first of nothing
none_first : (broken : List Broken) (b : Broken) → broken ≡ [] → first_of broken ≡ Some b → ⊥
none_first broken b none some = let never : first_of [] ≡ Some b = ap first_of (sym none) ∙ some in absurd (cc never)

-- a file has one tree
pub one_tree : (file : ℕ) (bytes : List ℕ) (tokens : List Token) (x y : File) → Parsed file bytes tokens (Ok x) → Parsed file bytes tokens (Ok y) → x ≡ y
one_tree file bytes tokens x y h k = one_within h.0 k.0

-- or breaks one rule first, at one place
pub one_broken : (file : ℕ) (bytes : List ℕ) (tokens : List Token) (a b : Broken) → Parsed file bytes tokens (Err (fault.Broken a)) → Parsed file bytes tokens (Err (fault.Broken b)) → a ≡ b
one_broken file bytes tokens a b (inl h) (inl k) = one_broken_at file bytes tokens a b h k
one_broken file bytes tokens a b (inl h) (inr (y, tree, is)) = absurd (tree_or_broken_at file bytes tokens y a tree h)
one_broken file bytes tokens a b (inr (x, tree, is)) (inl k) = absurd (tree_or_broken_at file bytes tokens x b tree k)
one_broken file bytes tokens a b (inr (x, tree, is)) (inr (y, other, also)) =
    same_Some a b (sym is ∙ (ap (λ z. first_of (broken_in z)) (one_within tree other) ∙ also))

-- and never both
pub tree_or_broken : (file : ℕ) (bytes : List ℕ) (tokens : List Token) (x : File) (b : Broken) → Parsed file bytes tokens (Ok x) → Parsed file bytes tokens (Err (fault.Broken b)) → ⊥
tree_or_broken file bytes tokens x b h (inl k) = tree_or_broken_at file bytes tokens x b h.0 k
tree_or_broken file bytes tokens x b h (inr (y, tree, is)) = none_first (broken_in y) b (ap broken_in (one_within tree h.0) ∙ h.1) is
