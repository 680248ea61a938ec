-- Which forms pass the test of the grammar, as a test that computes.
use Rattle.std.proofs.Common.{◌≡◌, ℕ, List, [], ◌∷◌, refl, subst, Bool, true, false, if◌then◌else◌}
use Rattle.std.specs.Prelude.{eqb}
use Rattle.std.proofs.lemmas.Bool.{eqb-true}
use Rattle.sl_grammar.specs.Grammar.{Form, Token, Nothing, Ref, Then, Either, Room, Many, Chain, Gate, Ahead, Without, has, disjoint, and, not, sets_of, has_word, ok}
use Rattle.sl_grammar.proofs.Grammar.{and_left, and_right}
use Rattle.sl_tree.specs.Sorts.{sort, example, sort_of, sort_of_mark, sort_of_word, sort_of_name, sort_of_operator, sort_of_prefixed, sort_of_separator, left_parenthesis, right_parenthesis, left_bracket, right_bracket, left_brace, right_brace, comma, dot, underscore, colon, equals, at_sign, val_word, var_word, plain_name, quoted, separator, package_word, import_word, class_word, object_word, trait_word, extends_word, with_word, def_word, override_word, symbol}
use Rattle.sl_parse.specs.Names.{Name}
use Rattle.sl_parse.specs.Grammar.{sets_at}
use Rattle.sl_parse.proofs.Laws.{Fine}

-- the kinds of tokens that stand in the rules have an example
abbrev kinds : List ℕ
kinds =
    left_parenthesis ∷ right_parenthesis ∷ left_bracket ∷ right_bracket ∷ left_brace ∷ right_brace ∷ comma ∷ dot ∷ underscore
    ∷ colon ∷ equals ∷ at_sign ∷ val_word ∷ var_word ∷ plain_name ∷ quoted ∷ separator ∷ package_word ∷ import_word ∷ class_word
    ∷ object_word ∷ trait_word ∷ extends_word ∷ with_word ∷ def_word ∷ override_word ∷ symbol ∷ []

abbrev every : (ℕ → Bool) → List ℕ → Bool
every f [] = true
every f (k ∷ ks) = and (f k) (every f ks)

every_one : (f : ℕ → Bool) (ks : List ℕ) (j : ℕ) → every f ks ≡ true → has ks j ≡ true → f j ≡ true
every_one f [] j a h = absurd cc
every_one f (k ∷ ks) j a h = by (eqb k j) refl h (λ h. every_one f ks j (and_right (f k) (every f ks) a) h)
  where
    by : (b : Bool) → eqb k j ≡ b → (if b then true else has ks j) ≡ true → (has ks j ≡ true → f j ≡ true) → f j ≡ true
    by true e h more = let same : k ≡ j = eqb-true k j e in subst (λ z. f z ≡ true) same (and_left (f k) (every f ks) a)
    by false e h more = more h

every_kind : every (λ k. eqb k (sort (example k))) kinds ≡ true
unfolding example sort_of sort_of_mark sort_of_word sort_of_name sort_of_operator sort_of_prefixed sort_of_separator
every_kind = refl

has_example : (k : ℕ) → has kinds k ≡ true → eqb k (sort (example k)) ≡ true
has_example k h = every_one (λ k. eqb k (sort (example k))) kinds k every_kind h

-- a test of forms that computes, of kinds that stand in the rules
abbrev pub plain : Form Name → Bool
plain (Token []) = false
plain (Token (k ∷ ks)) = has kinds k
plain Nothing = true
plain (Ref n) = true
plain (Then p q) = and (disjoint (sets_of sets_at p).after (sets_of sets_at q).first) (and (plain p) (plain q))
plain (Either p q) = and (not (sets_of sets_at p).blank) (and (disjoint (sets_of sets_at p).first (sets_of sets_at q).first) (and (plain p) (plain q)))
plain (Room c p q) = and (and (not (sets_of sets_at p).blank) (plain p)) (and (disjoint (sets_of sets_at p).first (sets_of sets_at q).first) (plain q))
plain (Many p) = and (not (sets_of sets_at p).blank) (and (disjoint (sets_of sets_at p).after (sets_of sets_at p).first) (plain p))
plain (Chain c n m) = ok sort example sets_at (λ n. true) (λ n. true) (Chain c n m)
plain g = false

and_both : (a b : Bool) → a ≡ true → b ≡ true → and a b ≡ true
and_both true b e h = h
and_both false b e h = e

plain_word : (g : Form Name) → plain g ≡ true → has_word (λ n. true) g ≡ true
plain_word (Token ks) h = refl
plain_word Nothing h = refl
plain_word (Ref n) h = refl
plain_word (Then p q) h =
    let both = and_right (disjoint (sets_of sets_at p).after (sets_of sets_at q).first) (and (plain p) (plain q)) h in
    and_both (has_word (λ n. true) p) (has_word (λ n. true) q) (plain_word p (and_left (plain p) (plain q) both)) (plain_word q (and_right (plain p) (plain q) both))
plain_word (Either p q) h =
    let d = disjoint (sets_of sets_at p).first (sets_of sets_at q).first in
    let both = and_right d (and (plain p) (plain q)) (and_right (not (sets_of sets_at p).blank) (and d (and (plain p) (plain q))) h) in
    by (has_word (λ n. true) p) (plain_word q (and_right (plain p) (plain q) both))
  where
    by : (b : Bool) → has_word (λ n. true) q ≡ true → (if b then true else has_word (λ n. true) q) ≡ true
    by true e = refl
    by false e = e
plain_word (Room c p q) h =
    let a = and (not (sets_of sets_at p).blank) (plain p) in
    let d = disjoint (sets_of sets_at p).first (sets_of sets_at q).first in
    plain_word q (and_right d (plain q) (and_right a (and d (plain q)) h))
plain_word (Many p) h = refl
plain_word (Chain c n m) h = refl
plain_word (Gate n p q) h = absurd cc
plain_word (Ahead ks js p q) h = absurd cc
plain_word (Without ks p) h = absurd cc

abbrev Passes : Form Name → Bool
Passes g = ok sort example sets_at (λ n. true) (λ n. true) g

pub fine : (g : Form Name) → plain g ≡ true → Fine g
fine (Token []) h = h
fine (Token (k ∷ ks)) h = has_example k h
fine Nothing h = refl
fine (Ref n) h = refl
fine (Then p q) h =
    let d = disjoint (sets_of sets_at p).after (sets_of sets_at q).first in
    let both = and_right d (and (plain p) (plain q)) h in
    let r = and_right (plain p) (plain q) both in
    and_both d (and (Passes p) (if (sets_of sets_at p).blank then Passes q else and (has_word (λ n. true) q) (Passes q))) (and_left d (and (plain p) (plain q)) h)
    (and_both (Passes p) (if (sets_of sets_at p).blank then Passes q else and (has_word (λ n. true) q) (Passes q)) (fine p (and_left (plain p) (plain q) both))
    (by (sets_of sets_at p).blank (fine q r) (plain_word q r)))
  where
    by : (b : Bool) → Passes q ≡ true → has_word (λ n. true) q ≡ true → (if b then Passes q else and (has_word (λ n. true) q) (Passes q)) ≡ true
    by true e w = e
    by false e w = and_both (has_word (λ n. true) q) (Passes q) w e
fine (Either p q) h =
    let b = not (sets_of sets_at p).blank in
    let d = disjoint (sets_of sets_at p).first (sets_of sets_at q).first in
    let more = and_right b (and d (and (plain p) (plain q))) h in
    let both = and_right d (and (plain p) (plain q)) more in
    and_both b (and d (and (Passes p) (Passes q))) (and_left b (and d (and (plain p) (plain q))) h)
    (and_both d (and (Passes p) (Passes q)) (and_left d (and (plain p) (plain q)) more)
    (and_both (Passes p) (Passes q) (fine p (and_left (plain p) (plain q) both)) (fine q (and_right (plain p) (plain q) both))))
fine (Room c p q) h =
    let b = not (sets_of sets_at p).blank in
    let d = disjoint (sets_of sets_at p).first (sets_of sets_at q).first in
    let left = and_left (and b (plain p)) (and d (plain q)) h in
    let right = and_right (and b (plain p)) (and d (plain q)) h in
    and_both (if c then and b (Passes p) else true) (and d (Passes q)) (by c (and_both b (Passes p) (and_left b (plain p) left) (fine p (and_right b (plain p) left))))
    (and_both d (Passes q) (and_left d (plain q) right) (fine q (and_right d (plain q) right)))
  where
    by : (c : Bool) → and (not (sets_of sets_at p).blank) (Passes p) ≡ true → (if c then and (not (sets_of sets_at p).blank) (Passes p) else true) ≡ true
    by true e = e
    by false e = refl
fine (Many p) h =
    let b = not (sets_of sets_at p).blank in
    let d = disjoint (sets_of sets_at p).after (sets_of sets_at p).first in
    let more = and_right b (and d (plain p)) h in
    and_both b (and d (Passes p)) (and_left b (and d (plain p)) h) (and_both d (Passes p) (and_left d (plain p) more) (fine p (and_right d (plain p) more)))
fine (Chain c n m) h = h
fine (Gate n p q) h = absurd cc
fine (Ahead ks js p q) h = absurd cc
fine (Without ks p) h = absurd cc
