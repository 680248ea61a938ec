-- The group in brackets, which is read in its own way, obeys the law.
use Rattle.std.proofs.Common.{◌≡◌, ℕ, suc, [], ◌∷◌, refl, sym, Bool, true, false, if◌then◌else◌}
use Rattle.std.specs.Prelude.{◌==◌, eqb}
use Rattle.std.proofs.lemmas.Bool.{eqb-true}
use Rattle.sl_grammar.specs.Grammar.{has, is}
use Rattle.sl_grammar.specs.Brackets.{Opens, Closes, Plain}
use Rattle.sl_grammar.proofs.Rules.{Own}
use Rattle.sl_grammar.proofs.Groups.{group_word, group_shape, group_law}
use Rattle.sl_tree.specs.Sorts.{Spelled, sort, example, left_parenthesis, right_parenthesis, left_bracket, right_bracket, left_brace, right_brace, sort_of, sort_of_mark}
use Rattle.sl_tree.specs.WellShaped.{Bracket_kind, Round, Square, Curly, same_bracket, bracket_of}
use Rattle.sl_parse_expr.specs.Names.{Name, Group, At, at, Levels}
use Rattle.sl_parse_expr.specs.Values.{T_of}
use Rattle.sl_parse_expr.specs.Grammar.{grammar, room, tree, spells, by_hand, own_at}

pub same_is : (m n : Bracket_kind) → same_bracket m n ≡ true → m ≡ n
same_is Round Round e = refl
same_is Square Square e = refl
same_is Curly Curly e = refl
same_is Round Square e = absurd cc
same_is Round Curly e = absurd cc
same_is Square Round e = absurd cc
same_is Square Curly e = absurd cc
same_is Curly Round e = absurd cc
same_is Curly Square e = absurd cc

pub same_refl : (m : Bracket_kind) → same_bracket m m ≡ true
same_refl Round = refl
same_refl Square = refl
same_refl Curly = refl

-- a token that closes each kind
closer : Bracket_kind → Spelled
closer Round = example right_parenthesis
closer Square = example right_bracket
closer Curly = example right_brace

closer_is : (m : Bracket_kind) → bracket_of (closer m) ≡ Closes m
unfolding closer bracket_of example sort_of sort_of_mark
closer_is Round = refl
closer_is Square = refl
closer_is Curly = refl

opener_is : bracket_of (example left_parenthesis) ≡ Opens Round
unfolding bracket_of example sort_of sort_of_mark
opener_is = refl

is_round : (s : ℕ) → has (left_parenthesis ∷ []) s ≡ true → s ≡ left_parenthesis
is_round s e = by (eqb left_parenthesis s) refl e
  where
    by : (b : Bool) → eqb left_parenthesis s ≡ b → (if b then true else false) ≡ true → s ≡ left_parenthesis
    by true f e = sym (eqb-true left_parenthesis s f)
    by false f e = absurd cc

pub first_opens : (k : Spelled) → is sort (left_parenthesis ∷ []) k ≡ true → bracket_of k ≡ Opens Round
unfolding bracket_of
first_opens k e = rw (is_round (sort k) e) refl

-- no other test opens a round bracket
others : (b c d e f : Bool) → (if b then Closes Round else if c then Opens Square else if d then Closes Square else if e then Opens Curly else if f then Closes Curly else Plain) ≡ Opens Round → ⊥
others true c d e f h = cc
others false true d e f h = cc
others false false true e f h = cc
others false false false true f h = cc
others false false false false true h = cc
others false false false false false h = cc

pub opens_first : (k : Spelled) → bracket_of k ≡ Opens Round → is sort (left_parenthesis ∷ []) k ≡ true
unfolding bracket_of
opens_first k e = by (sort k == left_parenthesis) refl e
  where
    by : (b : Bool) → (sort k == left_parenthesis) ≡ b
        → (if b then Opens Round else if sort k == right_parenthesis then Closes Round else if sort k == left_bracket then Opens Square else if sort k == right_bracket then Closes Square
        else if sort k == left_brace then Opens Curly else if sort k == right_brace then Closes Curly else Plain) ≡ Opens Round
        → is sort (left_parenthesis ∷ []) k ≡ true
    by true f h = let p : sort k ≡ left_parenthesis = eqb-true (sort k) left_parenthesis f in rw p refl
    by false f h = absurd (others (sort k == right_parenthesis) (sort k == left_bracket) (sort k == right_bracket) (sort k == left_brace) (sort k == right_brace) h)

at_name : (n : Name) (r : Levels) → own_at n ≡ true → Own sort example grammar T_of room tree spells by_hand (at n r)
at_name Group r o = record {
  word = λ less. group_word same_bracket bracket_of same_refl closer closer_is sort Round (left_parenthesis ∷ []) first_opens opens_first (example left_parenthesis) opener_is;
  shape = λ w less. group_shape same_bracket bracket_of same_refl closer closer_is sort Round (left_parenthesis ∷ []) first_opens opens_first (example left_parenthesis) opener_is;
  law = λ s n first later f l. group_law same_bracket bracket_of same_refl closer closer_is sort Round (left_parenthesis ∷ []) first_opens opens_first (example left_parenthesis) opener_is same_is (suc n);
}
at_name other r o = absurd cc

pub own : (i : At) → grammar.valid i ≡ true → grammar.own i ≡ true → Own sort example grammar T_of room tree spells by_hand i
own i v o = at_name i.name i.room o
