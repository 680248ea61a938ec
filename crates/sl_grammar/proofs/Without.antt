-- A phrase less its words that begin with some tokens is read.
use Rattle.std.proofs.Common.{◌≡◌, ℕ, ◌<◌, List, [], ◌∷◌, ◌++◌, length, refl, sym, ap, ◌∙◌, Bool, true, false, if◌then◌else◌}
use Rattle.sl_grammar.specs.Phrase.{Begins, Found, Done, Stopped, IsFront, IsRead}
use Rattle.sl_grammar.specs.Law.{Word, Law, Shape}
use Rattle.sl_grammar.specs.Without.{starts_with, spells_without, read_without}

module _ {K X : Type 0} (a : K → Bool) (l : X → List K → Type 0) where
  abbrev Without : X → List K → Type 0
  Without = spells_without a l

  clash : {Z : Type 0} (b : Bool) → b ≡ true → b ≡ false → Z
  clash b e f = absurd cc

  -- what begins a list begins the lists that go on from it
  starts_front : (us more : List K) → starts_with a (us ++ more) ≡ false → starts_with a us ≡ false
  starts_front [] more e = refl
  starts_front (k ∷ us) more e = e

  -- a front of a word begins a word of what is left, unless it begins with such a token
  begins_without : Word Without → (us : List K) → starts_with a us ≡ false → Begins l us → Begins Without us
  begins_without (x, ts, w) [] e b = (x, ts, w)
  begins_without word (k ∷ us) e (x, more, w) = (x, more, (e, w))

  begins_whole : (us : List K) → Begins Without us → Begins l us
  begins_whole us (x, more, w) = (x, more, w.1)

  -- the tokens that begin it are those of the phrase that don't pass, and there is one
  pub without_shape : {first left : K → Bool} (k0 : K) → left k0 ≡ true → ((k : K) → left k ≡ true → (first k ≡ true) × (a k ≡ false)) → ((k : K) → first k ≡ true → a k ≡ false → left k ≡ true) → Shape l first false → Shape (spells_without a l) left false
  without_shape {first} {left} k0 e0 from into sl = record { starts = record { sure = sure; only = only }; word = word; some = λ e x w. sl.some refl x w.1; empty = λ e. absurd cc }
    where
      sure : (k : K) → left k ≡ true → Begins Without (k ∷ [])
      sure k e =
          let (f, g) = from k e in
          let (x, more, w) = sl.starts.sure k f in
          (x, more, (g, w))

      only : (k : K) → Begins Without (k ∷ []) → left k ≡ true
      only k (x, more, w) = into k (sl.starts.only k (x, more, w.1)) w.0

      word : Word Without
      word = let (x, more, w) = sure k0 e0 in (x, k0 ∷ more, w)

  module _ (word : Word (spells_without a l)) (some : (x : X) → l x [] → ⊥) where
    -- at such a token nothing is read
    stopped : (ts : List K) → starts_with a ts ≡ true → IsRead Without ts (Stopped ts)
    stopped ts e = ([], refl, record { begins = begins; ends = ends }, λ x w. some x w.1)
      where
        begins : Begins Without []
        begins = let (x, us, w) = word in (x, us, w)

        ends : (k : K) (more : List K) → ts ≡ k ∷ more → Begins Without (k ∷ []) → ⊥
        ends k more h (x, tail, w) = clash (a k) (sym (ap (starts_with a) h) ∙ e) w.0

    -- and else what the phrase's reader finds
    module _ (ts : List K) (other : starts_with a ts ≡ false) where
      used_starts : (used rest : List K) → ts ≡ used ++ rest → starts_with a used ≡ false
      used_starts used rest h = starts_front used rest (sym (ap (starts_with a) h) ∙ other)

      front_of : (used rest : List K) → ts ≡ used ++ rest → IsFront l used rest → IsFront Without used rest
      front_of used rest h front = record { begins = begins_without word used (used_starts used rest h) front.begins; ends = λ k more r b. front.ends k more r (begins_whole (used ++ k ∷ []) b) }

      read_of : (f : Found K X) → IsRead l ts f → IsRead Without ts f
      read_of (Done x rest) (used, h, front, w) = (used, h, front_of used rest h front, (used_starts used rest h, w))
      read_of (Stopped rest) (used, h, front, none) = (used, h, front_of used rest h front, λ x w. none x w.1)

    pub without_law : {read : List K → Found K X} {after : K → Bool} {n : ℕ} → Law l read after n → Law (spells_without a l) (read_without a read) after n
    without_law {read} {after} {n} ll = record {
      reads = λ ts lt. by ts lt (starts_with a ts) refl;
      goes = λ x us k lt w b. ll.goes x us k lt w.1 (begins_whole (us ++ k ∷ []) b);
      one = λ x y us lt w v. ll.one x y us lt w.1 v.1;
    }
      where
        by : (ts : List K) → length ts < n → (b : Bool) → starts_with a ts ≡ b → IsRead Without ts (if b then Stopped ts else read ts)
        by ts lt true e = stopped ts e
        by ts lt false e = read_of ts e (read ts) (ll.reads ts lt)
