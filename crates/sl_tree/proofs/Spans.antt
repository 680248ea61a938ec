-- The span of tokens that follow one another.
use Rattle.std.proofs.Common.{◌≡◌, List, [], ◌∷◌, ◌++◌, refl, sym, ap, ◌∙◌}
use Rattle.sl_text.specs.declared.place.Span.{Span}
use Rattle.sl_tree.specs.Sorts.{Spelled}
use Rattle.sl_tree.specs.WellShaped.{join, last_of, cover}

-- a list that has a first element
pub record Solid (ts : List Spelled) : Type 0 where
  pub head : Spelled
  pub rest : List Spelled
  pub is : ts ≡ head ∷ rest

pub cover_one : (k : Spelled) → cover (k ∷ []) ≡ k.span
unfolding cover
cover_one k = refl

pub last_both : (k : Spelled) (ks : List Spelled) (j : Spelled) (js : List Spelled) → last_of k (ks ++ j ∷ js) ≡ last_of j js
last_both k [] j js = refl
last_both k (i ∷ is) j js = last_both i is j js

-- both have a first element
pub cover_both : (us vs : List Spelled) → Solid us → Solid vs → cover (us ++ vs) ≡ join (cover us) (cover vs)
unfolding cover
cover_both us vs a b =
    ap (λ w. cover (w ++ vs)) a.is ∙ (ap (λ w. cover ((a.head ∷ a.rest) ++ w)) b.is
    ∙ (ap (λ l. join a.head.span l.span) (last_both a.head a.rest b.head b.rest)
    ∙ sym (ap (λ w. join (cover w) (cover vs)) a.is ∙ ap (λ w. join (cover (a.head ∷ a.rest)) (cover w)) b.is)))

pub solid_one : (k : Spelled) (ks : List Spelled) → Solid (k ∷ ks)
solid_one k ks = record { head = k; rest = ks; is = refl }

pub solid_left : {us : List Spelled} (vs : List Spelled) → Solid us → Solid (us ++ vs)
solid_left {us} vs a = record { head = a.head; rest = a.rest ++ vs; is = ap (λ w. w ++ vs) a.is }

-- the end is all that the last part gives
pub join_end : (a : Span) (us : List Spelled) (j : Spelled) → join a (cover (us ++ j ∷ [])) ≡ join a j.span
unfolding cover
join_end a [] j = refl
join_end a (k ∷ ks) j = ap (λ l. join a l.span) (last_both k ks j [])

pub solid_right : (us : List Spelled) (j : Spelled) → Solid (us ++ j ∷ [])
solid_right [] j = solid_one j []
solid_right (k ∷ ks) j = solid_one k (ks ++ j ∷ [])

-- from the first of some to the last of all
pub cover_ends : (us vs : List Spelled) (j : Spelled) → Solid us → cover (us ++ (vs ++ j ∷ [])) ≡ join (cover us) j.span
cover_ends us vs j a = cover_both us (vs ++ j ∷ []) a (solid_right vs j) ∙ join_end (cover us) vs j
