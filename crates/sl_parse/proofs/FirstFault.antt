-- The first of what is broken: of two lists one behind the other, of parts, and of nothing.
use Rattle.std.proofs.Common.{◌≡◌, ℕ, ◌+◌, ◌<◌, ◌≤◌, List, [], ◌∷◌, ◌++◌, Bool, true, false, ◌||◌, Option, Some, None, refl, sym, ap, ◌∙◌, arith, length, get_or, take, if◌then◌else◌}
use Rattle.std.specs.Prelude.{◌==◌, ◌&&◌, nat_lt}
use Rattle.std.specs.List.{flat_map}
use Rattle.std.proofs.lemmas.List.{take_more, take_all, append-nil}
use Rattle.std.proofs.lemmas.Option.{none-some}
use Rattle.std.proofs.lemmas.Grind.{flat_map-append}
use Rattle.sl_text.specs.declared.fault.Broken.{Broken}
use Rattle.sl_parse.specs.TreeRules.{is_before, sooner, first_of}

pub sooner_none : (x : Option Broken) → sooner x None ≡ x
sooner_none None = refl
sooner_none (Some x) = refl

-- a place and a number stand before others
abbrev stands_before : (from number from′ number′ : ℕ) → Bool
stands_before from number from′ number′ = nat_lt from from′ || (from == from′ && nat_lt number number′)

before_trans : (a i b j c k : ℕ) → stands_before a i b j ≡ true → stands_before b j c k ≡ true → stands_before a i c k ≡ true
before_trans a i b j c k h g = grind arith

after_trans : (a i b j c k : ℕ) → stands_before a i b j ≡ false → stands_before b j c k ≡ false → stands_before a i c k ≡ false
after_trans a i b j c k h g = grind arith

-- of three, whichever two are taken first
pub sooner_assoc : (x y z : Option Broken) → sooner (sooner x y) z ≡ sooner x (sooner y z)
sooner_assoc None y z = refl
sooner_assoc (Some x) None z = refl
sooner_assoc (Some x) (Some y) None = sooner_none (sooner (Some x) (Some y))
sooner_assoc (Some x) (Some y) (Some z) = by (is_before y x) (is_before z y) (is_before z x) refl refl refl
  where
    before : (a b c : Broken) → is_before a b ≡ true → is_before b c ≡ true → is_before a c ≡ true
    before a b c h g = before_trans a.span.from a.rule.number b.span.from b.rule.number c.span.from c.rule.number h g

    after : (a b c : Broken) → is_before a b ≡ false → is_before b c ≡ false → is_before a c ≡ false
    after a b c h g = after_trans a.span.from a.rule.number b.span.from b.rule.number c.span.from c.rule.number h g

    by : (p q r : Bool) → is_before y x ≡ p → is_before z y ≡ q → is_before z x ≡ r
        → sooner (if is_before y x then Some y else Some x) (Some z) ≡ sooner (Some x) (if is_before z y then Some z else Some y)
    by true true r e f g = rw (e, f) (rw (before z y x f e) refl)
    by true false r e f g = rw (e, f) (rw (e) refl)
    by false true r e f g = rw (e, f) refl
    by false false r e f g = rw (e, f) (rw (e, after z y x f e) refl)

-- of two lists one behind the other
pub first_append : (xs ys : List Broken) → first_of (xs ++ ys) ≡ sooner (first_of xs) (first_of ys)
first_append [] ys = refl
first_append (x ∷ xs) ys = ap (sooner (Some x)) (first_append xs ys) ∙ sym (sooner_assoc (Some x) (first_of xs) (first_of ys))

-- one at least has a first
some_first : (x : Broken) (o : Option Broken) → sooner (Some x) o ≡ None → ⊥
some_first x None h = none-some x (sym h)
some_first x (Some y) h = by (is_before y x) h
  where
    by : (p : Bool) → (if p then Some y else Some x) ≡ None → ⊥
    by true e = none-some y (sym e)
    by false e = none-some x (sym e)

-- where nothing is first, nothing is broken
pub none_is : (xs : List Broken) → first_of xs ≡ None → xs ≡ []
none_is [] h = refl
none_is (x ∷ xs) h = absurd (some_first x (first_of xs) h)

-- of parts, as a loop goes through them
module _ {A : Type 0} (broken : A → List Broken) where
  pub first_more : (xs : List A) (i : ℕ) (x : A) (first now next : Option Broken) → i < length xs → x ≡ get_or xs i x → first ≡ first_of (flat_map broken (take i xs))
      → now ≡ first_of (broken x) → next ≡ sooner first now → next ≡ first_of (flat_map broken (take (i + 1) xs))
  first_more xs i x first now next less is so_far this gives =
      gives ∙ (ap (λ o. sooner o now) so_far ∙ (ap (sooner (first_of (flat_map broken (take i xs)))) (this ∙ last)
      ∙ (sym (first_append (flat_map broken (take i xs)) (flat_map broken (x ∷ [])))
      ∙ ap first_of (sym (flat_map-append broken (take i xs) (x ∷ [])) ∙ ap (flat_map broken) (ap (λ y. take i xs ++ y ∷ []) is ∙ sym (take_more xs i x less))))))
    where
      last : first_of (broken x) ≡ first_of (flat_map broken (x ∷ []))
      last = ap first_of (sym (append-nil (broken x)))

  pub first_all : (xs : List A) (i : ℕ) (first : Option Broken) → length xs ≤ i → first ≡ first_of (flat_map broken (take i xs)) → first ≡ first_of (flat_map broken xs)
  first_all xs i first whole so_far = so_far ∙ ap (λ ys. first_of (flat_map broken ys)) (take_all i xs whole)
