-- When two runs, of one language or of two, go alike: the outside sees the same of both.
use Rattle.std.specs.Prelude.{◌≡◌, ◌⊎◌, ℕ, ◌+◌}
use Rattle.sl_run.specs.Run.{Ending, Trace, Step, Went, Over, Act}

-- Two runs so far are the same: events, rest of the input and turns left. Of their copies `copies` holds: that the second
-- made no more than the first, say, or nothing at all. Of the bytes that were live nothing is said
pub record SameSoFar (copies : ℕ → ℕ → Type 0) (t u : Trace) : Type 0 where
  pub events : t.events ≡ u.events
  pub rest : t.rest ≡ u.rest
  pub left : t.left ≡ u.left
  pub made : copies t.copies u.copies

-- Two parts ended alike: both went on, with related values and states, or both are over in the same way. Where the first is over in
-- a way that is `excused`, nothing is said of the second
abbrev pub AlikeUnless : {S R A B : Type 0} → (Ending → Type 0) → (ℕ → ℕ → Type 0) → (S → R → Type 0) → (A → B → Type 0) → Step S A → Step R B → Type 0
AlikeUnless excused copies on val (Went x t s) (Went y u r) = val x y × SameSoFar copies t u × on s r
AlikeUnless excused copies on val (Over e t) (Over f u) = excused e ⊎ ((e ≡ f) × SameSoFar copies t u)
AlikeUnless excused copies on val (Went x t s) (Over f u) = ⊥
AlikeUnless excused copies on val (Over e t) (Went y u r) = excused e

-- from runs that are the same so far and from related states, two parts go alike, unless the first is over in a way that is excused
abbrev pub FollowsUnless : {S R A B : Type 0} → (Ending → Type 0) → (ℕ → ℕ → Type 0) → (S → R → Type 0) → (A → B → Type 0) → Act S A → Act R B → Type 0
FollowsUnless {S} {R} excused copies on val a b = (t u : Trace) (s : S) (r : R) → SameSoFar copies t u → on s r → AlikeUnless excused copies on val (a t s) (b u r)

-- no way of being over is excused
abbrev pub NoneExcused : Ending → Type 0
NoneExcused e = ⊥

-- from runs that are the same so far and from related states, two parts go alike
abbrev pub Follows : {S R A B : Type 0} → (ℕ → ℕ → Type 0) → (S → R → Type 0) → (A → B → Type 0) → Act S A → Act R B → Type 0
Follows copies on val a b = FollowsUnless NoneExcused copies on val a b

-- the relation of copies still holds where the first run makes so many more, and the second so many
abbrev pub KeepsCopies : (ℕ → ℕ → Type 0) → ℕ → ℕ → Type 0
KeepsCopies copies m n = (x y : ℕ) → copies x y → copies (x + m) (y + n)

-- of the copies nothing is said
abbrev pub AnyCopies : ℕ → ℕ → Type 0
AnyCopies x y = Unit {0}

-- values that are the same
abbrev pub Same : {A : Type 0} → A → A → Type 0
Same x y = x ≡ y

-- related through something between them, as what one pass leaves is by the next
abbrev pub Through : {X Y Z : Type 0} → (X → Y → Type 0) → (Y → Z → Type 0) → X → Z → Type 0
Through {X} {Y} {Z} first second x z = (y : Y) × first x y × second y z
