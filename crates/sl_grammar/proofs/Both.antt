-- A reader of two phrases, one after the other.
use Rattle.std.proofs.Common.{◌≡◌, List, [], ◌∷◌, ◌++◌, refl, sym, ap, ◌∙◌, subst, ◌⊎◌, inl, inr, append_assoc, append-nil}
use Rattle.sl_grammar.specs.Phrase.{Begins, Found, Done, Stopped, IsFront, IsRead, found_then, spells_both, read_both}

-- two ways to cut a list: the second cut is later, at the same place, or earlier
abbrev pub Cut : {K : Type 0} → List K → List K → List K → List K → Type 0
Cut {K} a s a' b' =
    ((k : K) × (c : List K) × (a' ≡ a ++ k ∷ c) × (s ≡ k ∷ (c ++ b')))
    ⊎ (((a ≡ a') × (s ≡ b'))
    ⊎ ((k : K) × (c : List K) × (a ≡ a' ++ k ∷ c) × (b' ≡ k ∷ (c ++ s))))

pub cut : {K : Type 0} (a s a' b' : List K) → a ++ s ≡ a' ++ b' → Cut a s a' b'
cut [] s [] b' e = inr (inl (refl, e))
cut [] s (k ∷ c) b' e = inl (k, c, refl, e)
cut (k ∷ c) s [] b' e = inr (inr (k, c, refl, sym e))
cut (k ∷ a) s (k' ∷ a') b' e = moved (cut a s a' b' cc)
  where
    head : k ≡ k'
    head = cc

    moved : Cut a s a' b' → Cut (k ∷ a) s (k' ∷ a') b'
    moved (inl p) = inl (p.0, p.1, cc, p.3)
    moved (inr (inl p)) = inr (inl (cc, p.1))
    moved (inr (inr p)) = inr (inr (p.0, p.1, cc, p.3))

module _ {K X Y : Type 0} (l : X → List K → Type 0) (m : Y → List K → Type 0) where
  -- no token that begins the second phrase goes on after a word of the first
  abbrev pub Apart : Type 0
  Apart = (x : X) (a : List K) (k : K) → l x a → Begins l (a ++ k ∷ []) → Begins m (k ∷ []) → ⊥

  front_of : (a b : List K) → Begins l (a ++ b) → Begins l a
  front_of a b (x, more, w) = (x, b ++ more, subst (l x) (append_assoc a b more) w)

  one_more : (a : List K) (k : K) (c : List K) → (a ++ k ∷ []) ++ c ≡ a ++ k ∷ c
  one_more a k c = append_assoc a (k ∷ []) c

  -- where the first phrase's front ends, each word of both is cut
  same_cut : Apart → (a rest : List K) → IsFront l a rest → (s : List K) → ((k : K) (c : List K) → s ≡ k ∷ c → (more : List K) × (rest ≡ k ∷ more)) → (x : X) (y : Y) (a' b' : List K) → l x a' → m y b' → a ++ s ≡ a' ++ b' → (a ≡ a') × (s ≡ b')
  same_cut apart a rest front s head x y a' b' wx wy e = by (cut a s a' b' e)
    where
      by : Cut a s a' b' → (a ≡ a') × (s ≡ b')
      by (inl p) =
          let h = head p.0 (p.1 ++ b') p.3 in
          let longer : Begins l (a ++ p.0 ∷ []) = (x, p.1, subst (l x) (p.2 ∙ sym (one_more a p.0 p.1)) wx) in
          absurd (front.ends p.0 h.0 h.1 longer)
      by (inr (inl p)) = p
      by (inr (inr p)) =
          let goes_on : Begins l (a' ++ p.0 ∷ []) = front_of (a' ++ p.0 ∷ []) p.1 (subst (Begins l) (p.2 ∙ sym (one_more a' p.0 p.1)) front.begins) in
          let begins : Begins m (p.0 ∷ []) = (y, p.1 ++ s, subst (m y) p.3 wy) in
          absurd (apart x a' p.0 wx goes_on begins)

  -- nothing is left of an empty list
  nothing : (rest : List K) → (k : K) (c : List K) → [] ≡ k ∷ c → (more : List K) × (rest ≡ k ∷ more)
  nothing rest k c e = absurd (absurd_nil e)
    where
      absurd_nil : [] ≡ k ∷ c → ⊥
      absurd_nil e = cc

  module _ (apart : Apart) (y0 : Y) (b0 : List K) (w0 : m y0 b0) where
    abbrev Both : X × Y → List K → Type 0
    Both = spells_both l m

    -- the first phrase stops: so do both
    first_stops : (ts a rest : List K) → ts ≡ a ++ rest → IsFront l a rest → ((x : X) → l x a → ⊥) → IsRead Both ts (Stopped rest)
    first_stops ts a rest e front none = (a, e, record { begins = begins; ends = ends }, no_word)
      where
        begins : Begins Both a
        begins = let (x, more, w) = front.begins in ((x, y0), more ++ b0, (a ++ more, b0, sym (append_assoc a more b0), w, w0))

        ends : (k : K) (more : List K) → rest ≡ k ∷ more → Begins Both (a ++ k ∷ []) → ⊥
        ends k more r (p, tail, (a', b', e', wx, wy)) =
            let same = same_cut apart a rest front (k ∷ tail) (λ k' c h. (more, r ∙ cc)) p.0 p.1 a' b' wx wy (sym (one_more a k tail) ∙ e') in
            none p.0 (subst (l p.0) (sym same.0) wx)

        no_word : (p : X × Y) → Both p a → ⊥
        no_word p (a', b', e', wx, wy) =
            let same = same_cut apart a rest front [] (nothing rest) p.0 p.1 a' b' wx wy (append-nil a ∙ e') in
            none p.0 (subst (l p.0) (sym same.0) wx)

    -- the head of what is left after the first phrase is that of what the second reads
    head_of : (b left : List K) (k : K) (c : List K) → b ++ left ≡ k ∷ c → (more : List K) × (b ++ left ≡ k ∷ more)
    head_of b left k c e = (c, e)

    starts : (b left s : List K) → (k : K) (more : List K) → left ≡ k ∷ more → (j : K) (c : List K) → (b ++ k ∷ []) ++ s ≡ j ∷ c → (more : List K) × (b ++ left ≡ j ∷ more)
    starts [] left s k more r j c e = (more, r ∙ cc)
    starts (h ∷ b) left s k more r j c e = (b ++ left, cc)

    begins_with : (b left : List K) (j : K) (c : List K) → b ≡ j ∷ c → (more : List K) × (b ++ left ≡ j ∷ more)
    begins_with b left j c e = (c ++ left, ap (λ x. x ++ left) e)

    -- the first phrase is whole: the second decides
    second : (ts a rest : List K) → ts ≡ a ++ rest → IsFront l a rest → (x : X) → l x a → (b left : List K) → rest ≡ b ++ left → IsFront m b left → IsFront Both (a ++ b) left
    second ts a rest e front x wx b left r back = record { begins = begins; ends = ends }
      where
        begins : Begins Both (a ++ b)
        begins = let (y, more, w) = back.begins in ((x, y), more, (a, b ++ more, append_assoc a b more, wx, w))

        ends : (k : K) (more : List K) → left ≡ k ∷ more → Begins Both ((a ++ b) ++ k ∷ []) → ⊥
        ends k more f (p, tail, (a', b', e', wx', wy')) =
            let same = same_cut apart a rest front ((b ++ k ∷ []) ++ tail) (λ j c h. let s = starts b left tail k more f j c h in (s.0, r ∙ s.1)) p.0 p.1 a' b' wx' wy'
            (sym (append_assoc a (b ++ k ∷ []) tail) ∙ (ap (λ z. z ++ tail) (sym (append_assoc a b (k ∷ []))) ∙ e')) in
            back.ends k more f (p.1, tail, subst (m p.1) (sym same.1) wy')

    second_stops : (ts a rest : List K) → ts ≡ a ++ rest → IsFront l a rest → (x : X) → l x a → (b left : List K) → rest ≡ b ++ left → IsFront m b left → ((y : Y) → m y b → ⊥) → IsRead Both ts (Stopped left)
    second_stops ts a rest e front x wx b left r back none =
        (a ++ b, e ∙ (ap (λ z. a ++ z) r ∙ sym (append_assoc a b left)), second ts a rest e front x wx b left r back, no_word)
      where
        no_word : (p : X × Y) → Both p (a ++ b) → ⊥
        no_word p (a', b', e', wx', wy') =
            let same = same_cut apart a rest front b (λ j c h. let s = begins_with b left j c h in (s.0, r ∙ s.1)) p.0 p.1 a' b' wx' wy' e' in
            none p.1 (subst (m p.1) (sym same.1) wy')

    second_done : (ts a rest : List K) → ts ≡ a ++ rest → IsFront l a rest → (x : X) → l x a → (y : Y) (b left : List K) → rest ≡ b ++ left → IsFront m b left → m y b → IsRead Both ts (Done (x, y) left)
    second_done ts a rest e front x wx y b left r back wy =
        (a ++ b, e ∙ (ap (λ z. a ++ z) r ∙ sym (append_assoc a b left)), second ts a rest e front x wx b left r back, (a, b, refl, wx, wy))

    then_second : (ts a rest : List K) → ts ≡ a ++ rest → IsFront l a rest → (x : X) → l x a → (f : Found K Y) → IsRead m rest f → IsRead Both ts (found_then f (λ y left. Done (x, y) left))
    then_second ts a rest e front x wx (Done y left) (b, r, back, wy) = second_done ts a rest e front x wx y b left r back wy
    then_second ts a rest e front x wx (Stopped left) (b, r, back, none) = second_stops ts a rest e front x wx b left r back none

    -- a reader of both reads the longest front of both
    pub both_reads : (read : List K → Found K X) (go : List K → Found K Y) (ts : List K) → IsRead l ts (read ts) → ((x : X) (rest : List K) → read ts ≡ Done x rest → IsRead m rest (go rest)) → IsRead Both ts (read_both read go ts)
    both_reads read go ts h k = by (read ts) refl h
      where
        by : (f : Found K X) → read ts ≡ f → IsRead l ts f → IsRead Both ts (found_then f (λ x rest. found_then (go rest) (λ y left. Done (x, y) left)))
        by (Done x rest) is (a, e, front, wx) = then_second ts a rest e front x wx (go rest) (k x rest is)
        by (Stopped rest) is (a, e, front, none) = first_stops ts a rest e front none
