-- Where a reader with bounds stops, what it refuses is too deep, or no tree goes on so, and one reading without bounds tells which.
use Rattle.std.proofs.Common.{◌≡◌, ℕ, List, [], ◌∷◌, ◌++◌, refl, sym, ◌∙◌, subst, ◌⊎◌, inl, inr, Bool, true, false}
use Rattle.std.proofs.lemmas.List.{append_cancel_right}
use Rattle.std.specs.Prelude.{None}
use Rattle.sl_grammar.specs.Phrase.{Begins, Found, Done, Stopped, IsFront, IsRead, left_of}
use Rattle.sl_grammar.proofs.Both.{Cut, cut}
use Rattle.sl_grammar.proofs.Then.{one_more, front_of}
use Rattle.sl_grammar.proofs.Front.{Refused, refusal, begins_read, begins_left}
use Rattle.sl_tree.specs.Sorts.{Spelled}
use Rattle.sl_parse_expr.specs.Names.{Name, Type_term, Expression, Block, Levels, holds}
use Rattle.sl_parse_expr.specs.Values.{type_of}
use Rattle.sl_parse_expr.specs.Grammar.{spells_at, valid_at, read}
use Rattle.sl_parse_expr.proofs.SeenAt.{TreesSeen}
use Rattle.sl_parse_expr.proofs.Laws.{reads, one_tree}

-- how deep what is read nests
abbrev pub levels_at : (n : Name) → type_of n → ℕ
levels_at Type_term v = v.1
levels_at Expression v = v.1
levels_at Block v = v.1.0.1
levels_at other v = 0

-- the trees of a name within a room are those that it has without bounds, as far as they are no deeper
pub record Bounded (n : Name) : Type 0 where
  pub free : valid_at n None ≡ true
  pub wider : (r : Levels) (x : type_of n) (ts : List Spelled) → spells_at n r x ts → spells_at n None x ts
  pub holding : (r : Levels) (x : type_of n) (ts : List Spelled) → spells_at n r x ts → holds r (levels_at n x) ≡ true
  pub within : (r : Levels) (x : type_of n) (ts : List Spelled) → spells_at n None x ts → holds r (levels_at n x) ≡ true → spells_at n r x ts

pub type_bounded : Bounded Type_term
type_bounded = record { free = refl; wider = λ r x ts w. (w.0, refl); holding = λ r x ts w. w.1; within = λ r x ts w h. (w.0, h) }

pub expr_bounded : Bounded Expression
expr_bounded = record { free = refl; wider = λ r x ts w. (w.0, w.1, w.2, refl); holding = λ r x ts w. w.3; within = λ r x ts w h. (w.0, w.1, w.2, h) }

pub block_bounded : Bounded Block
block_bounded = record { free = refl; wider = wider; holding = holding; within = within }
  where
    wider : (r : Levels) (x : type_of Block) (ts : List Spelled) → spells_at Block r x ts → spells_at Block None x ts
    wider r x ts (a, b, e, p, (c, d, f, u, q)) = (a, b, e, p, (c, d, f, (u.0, refl), q))

    holding : (r : Levels) (x : type_of Block) (ts : List Spelled) → spells_at Block r x ts → holds r (levels_at Block x) ≡ true
    holding r x ts (a, b, e, p, (c, d, f, u, q)) = u.1

    within : (r : Levels) (x : type_of Block) (ts : List Spelled) → spells_at Block None x ts → holds r (levels_at Block x) ≡ true → spells_at Block r x ts
    within r x ts (a, b, e, p, (c, d, f, u, q)) h = (a, b, e, p, (c, d, f, (u.0, h), q))

-- A reader with bounds passes `used` and no more, and `k` comes next. So some tree within the bounds begins with `used`, and none goes on
-- with `k`. A reader without bounds is given `used` and `k`. Where it leaves nothing, some tree goes on so, and each such tree is too deep;
-- else it leaves just `k`, and no tree goes on so, however deep.
pub record Refusal (n : Name) (r : Levels) (used : List Spelled) (k : Spelled) : Type 0 where
  pub begins : Begins (spells_at n r) used
  pub refused : Begins (spells_at n r) (used ++ k ∷ []) → ⊥
  pub which : (left_of (read None n (used ++ k ∷ [])) ≡ []) ⊎ (left_of (read None n (used ++ k ∷ [])) ≡ k ∷ [])
  pub goes_deeper : left_of (read None n (used ++ k ∷ [])) ≡ [] → Begins (spells_at n None) (used ++ k ∷ [])
  pub too_deep : (x : type_of n) (more : List Spelled) → spells_at n None x ((used ++ k ∷ []) ++ more) → holds r (levels_at n x) ≡ false
  pub wrong : (left_of (read None n (used ++ k ∷ [])) ≡ [] → ⊥) → Begins (spells_at n None) (used ++ k ∷ []) → ⊥

-- what is left of some that begins a word and one more, is nothing or that one
pub left_is : {X : Type 0} (l : X → List Spelled → Type 0) (used : List Spelled) (k : Spelled) (f : Found Spelled X) → Begins l used → IsRead l (used ++ k ∷ []) f → (left_of f ≡ []) ⊎ (left_of f ≡ k ∷ [])
left_is {X} l used k f b w = by f w
  where
    none : (c rest : List Spelled) → c ++ rest ≡ [] → rest ≡ []
    none [] rest e = e
    none (j ∷ js) rest e = absurd cc

    go : (a rest : List Spelled) → used ++ k ∷ [] ≡ a ++ rest → IsFront l a rest → (rest ≡ []) ⊎ (rest ≡ k ∷ [])
    go a rest e front = test (cut used (k ∷ []) a rest e)
      where
        test : Cut used (k ∷ []) a rest → (rest ≡ []) ⊎ (rest ≡ k ∷ [])
        test (inl (j, c, p, q)) = let s : c ++ rest ≡ [] = sym cc in inl (none c rest s)
        test (inr (inl p)) = inr (sym p.1)
        test (inr (inr (j, c, p, q))) = absurd (front.ends j (c ++ k ∷ []) q (front_of l (a ++ j ∷ []) c (subst (Begins l) (p ∙ sym (one_more a j c)) b)))

    by : (f : Found Spelled X) → IsRead l (used ++ k ∷ []) f → (left_of f ≡ []) ⊎ (left_of f ≡ k ∷ [])
    by (Done x rest) (a, e, front, s) = go a rest e front
    by (Stopped rest) (a, e, front, s) = go a rest e front

not_true : (b : Bool) → (b ≡ true → ⊥) → b ≡ false
not_true true h = absurd (h refl)
not_true false h = refl

pub told : TreesSeen → (n : Name) (r : Levels) → Bounded n → valid_at n r ≡ true → (used : List Spelled) (k : Spelled) (more : List Spelled) → left_of (read r n (used ++ k ∷ more)) ≡ k ∷ more → Refusal n r used k
told t n r b v used k more e =
    let w = refusal (spells_at n r) (spells_at n None) (read None n) (reads t n None b.free) (used ++ k ∷ more) (read r n (used ++ k ∷ more)) (reads t n r v (used ++ k ∷ more)) k more e in
    by w (append_cancel_right used w.used (k ∷ more) w.is)
  where
    by : (w : Refused (spells_at n r) (spells_at n None) (read None n) (used ++ k ∷ more) more k) → used ≡ w.used → Refusal n r used k
    by w s = record {
      begins = begins;
      refused = refused;
      which = left_is (spells_at n None) used k (read None n (used ++ k ∷ [])) (wider used begins) (reads t n None b.free (used ++ k ∷ []));
      goes_deeper = subst (λ z. left_of (read None n (z ++ k ∷ [])) ≡ [] → Begins (spells_at n None) (z ++ k ∷ [])) (sym s) w.too_deep;
      too_deep = λ x after u. not_true (holds r (levels_at n x)) (λ h. refused (x, after, b.within r x ((used ++ k ∷ []) ++ after) u h));
      wrong = subst (λ z. (left_of (read None n (z ++ k ∷ [])) ≡ [] → ⊥) → Begins (spells_at n None) (z ++ k ∷ []) → ⊥) (sym s) w.wrong;
    }
      where
        begins : Begins (spells_at n r) used
        begins = subst (Begins (spells_at n r)) (sym s) w.begins

        refused : Begins (spells_at n r) (used ++ k ∷ []) → ⊥
        refused = subst (λ z. Begins (spells_at n r) (z ++ k ∷ []) → ⊥) (sym s) w.refused

        wider : (ts : List Spelled) → Begins (spells_at n r) ts → Begins (spells_at n None) ts
        wider ts (x, after, u) = (x, after, b.wider r x (ts ++ after) u)

-- within bounds too, a list has nothing left just where some tree begins with it
pub at_end : TreesSeen → (n : Name) (r : Levels) → valid_at n r ≡ true → (ts : List Spelled) → left_of (read r n ts) ≡ [] → Begins (spells_at n r) ts
at_end t n r v ts e = begins_read (spells_at n r) ts (read r n ts) (reads t n r v ts) e

pub end_at : TreesSeen → (n : Name) (r : Levels) → valid_at n r ≡ true → (ts : List Spelled) → Begins (spells_at n r) ts → left_of (read r n ts) ≡ []
end_at t n r v ts b = begins_left (spells_at n r) ts (read r n ts) (reads t n r v ts) b

-- within whatever bounds, tokens have the same tree
pub same_tree : TreesSeen → (n : Name) (r s : Levels) → Bounded n → (x y : type_of n) (ts : List Spelled) → spells_at n r x ts → spells_at n s y ts → x ≡ y
same_tree t n r s b x y ts u w = one_tree t n None b.free x y ts (b.wider r x ts u) (b.wider s y ts w)
