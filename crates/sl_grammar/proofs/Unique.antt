-- There is one longest front: two readers that obey the law find the same.
use Rattle.std.proofs.Common.{◌≡◌, suc, ◌<◌, List, [], ◌∷◌, ◌++◌, length, sym, ap, ◌∙◌, subst, inl, inr, arith}
use Rattle.sl_grammar.specs.Phrase.{Begins, Found, Done, Stopped, IsFront, IsRead}
use Rattle.sl_grammar.proofs.Both.{Cut, cut}
use Rattle.sl_grammar.proofs.Then.{one_more, front_of, length_front}

module _ {K X : Type 0} (l : X → List K → Type 0) where
  longer : (u v : List K) (k : K) (c : List K) → v ≡ u ++ k ∷ c → Begins l v → Begins l (u ++ k ∷ [])
  longer u v k c e b = front_of l (u ++ k ∷ []) c (subst (Begins l) (e ∙ sym (one_more u k c)) b)

  same_front : (u r v s : List K) → IsFront l u r → IsFront l v s → u ++ r ≡ v ++ s → (u ≡ v) × (r ≡ s)
  same_front u r v s f g e = by (cut u r v s e)
    where
      by : Cut u r v s → (u ≡ v) × (r ≡ s)
      by (inl (k, c, p, q)) = absurd (f.ends k (c ++ s) q (longer u v k c p g.begins))
      by (inr (inl p)) = p
      by (inr (inr (k, c, p, q))) = absurd (g.ends k (c ++ r) q (longer v u k c p f.begins))

  pub same_read : (ts : List K) → ((x y : X) (a : List K) → length a < suc (length ts) → l x a → l y a → x ≡ y) → (f g : Found K X) → IsRead l ts f → IsRead l ts g → f ≡ g
  same_read ts one (Done x r) (Done y s) (u, e, f, w) (v, h, g, z) =
      let same = same_front u r v s f g (sym e ∙ h) in
      let p : u ≡ v = same.0 in
      let q : r ≡ s = same.1 in
      let t : x ≡ y = one x y u (omega (arith, length_front ts u r e)) w (subst (l y) (sym p) z) in
      cc
  same_read ts one (Done x r) (Stopped s) (u, e, f, w) (v, h, g, none) = absurd (none x (subst (l x) (same_front u r v s f g (sym e ∙ h)).0 w))
  same_read ts one (Stopped r) (Done y s) (u, e, f, none) (v, h, g, z) = absurd (none y (subst (l y) (sym (same_front u r v s f g (sym e ∙ h)).0) z))
  same_read ts one (Stopped r) (Stopped s) (u, e, f, none) (v, h, g, other) = ap Stopped (same_front u r v s f g (sym e ∙ h)).1
