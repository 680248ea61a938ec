-- What a reader tells of fronts: a list is one where nothing is left.
use Rattle.std.proofs.Common.{◌≡◌, List, [], ◌∷◌, ◌++◌, refl, sym, ap, ◌∙◌, subst, append-nil}
use Rattle.sl_grammar.specs.Phrase.{Begins, Found, Done, Stopped, IsFront, IsRead, left_of}
use Rattle.sl_grammar.proofs.Then.{front_of, one_more}

module _ {K X : Type 0} (l : X → List K → Type 0) where
  front : (ts : List K) (f : Found K X) → IsRead l ts f → (used : List K) × (ts ≡ used ++ left_of f) × IsFront l used (left_of f)
  front ts (Done x rest) (used, e, h, w) = (used, e, h)
  front ts (Stopped rest) (used, e, h, w) = (used, e, h)

  -- nothing is left just where some word begins with the whole list
  pub begins_read : (ts : List K) (f : Found K X) → IsRead l ts f → left_of f ≡ [] → Begins l ts
  begins_read ts f r e = let (used, h, front) = front ts f r in subst (Begins l) (sym (append-nil used) ∙ (ap (λ z. used ++ z) (sym e) ∙ sym h)) front.begins

  pub begins_left : (ts : List K) (f : Found K X) → IsRead l ts f → Begins l ts → left_of f ≡ []
  begins_left ts f r b = by (left_of f) refl (front ts f r)
    where
      by : (rest : List K) → left_of f ≡ rest → (used : List K) × (ts ≡ used ++ left_of f) × IsFront l used (left_of f) → left_of f ≡ []
      by [] e w = e
      by (k ∷ more) e (used, h, front) =
          absurd (front.ends k more e (front_of l (used ++ k ∷ []) more (subst (Begins l) (h ∙ (ap (λ z. used ++ z) e ∙ sym (one_more used k more))) b)))

-- A token that a reader within bounds refuses is too deep where a reader without bounds passes it, and else no phrase goes on with it.
-- The second reader is given no more than what the first one read and that token, so it goes at most one deeper than the first.
pub record Refused {K X : Type 0} (bounded l : X → List K → Type 0) (again : List K → Found K X) (ts more : List K) (k : K) : Type 0 where
  pub used : List K
  pub is : ts ≡ used ++ k ∷ more
  pub begins : Begins bounded used
  pub refused : Begins bounded (used ++ k ∷ []) → ⊥
  pub too_deep : left_of (again (used ++ k ∷ [])) ≡ [] → Begins l (used ++ k ∷ [])
  pub wrong : (left_of (again (used ++ k ∷ [])) ≡ [] → ⊥) → Begins l (used ++ k ∷ []) → ⊥

pub refusal : {K X : Type 0} (bounded l : X → List K → Type 0) (again : List K → Found K X) → ((ts : List K) → IsRead l ts (again ts)) → (ts : List K) (f : Found K X) → IsRead bounded ts f → (k : K) (more : List K) → left_of f ≡ k ∷ more → Refused bounded l again ts more k
refusal bounded l again reads ts f r k more e =
    let (used, h, t) = front bounded ts f r in
    record {
      used = used;
      is = h ∙ ap (λ z. used ++ z) e;
      begins = t.begins;
      refused = t.ends k more e;
      too_deep = begins_read l (used ++ k ∷ []) (again (used ++ k ∷ [])) (reads (used ++ k ∷ []));
      wrong = λ n b. n (begins_left l (used ++ k ∷ []) (again (used ++ k ∷ [])) (reads (used ++ k ∷ [])) b);
    }
