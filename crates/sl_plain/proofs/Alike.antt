-- When a part of a plain program and a part of its core go alike. The core's memory has what the names hold, and variables without
-- names, which a part leaves as they were below the first that it may take.
use Rattle.std.proofs.Common.{◌≡◌, ℕ, zero, suc, ◌≤◌, List, length, Option, Some, None, refl, sym, subst, ap, ◌∙◌, arith}
use Rattle.sl_run.specs.Run.{Ending, Trace, Step, Went, Over, Act, pure, step_then, ◌>>=◌, turn, turn_at, round_then, loop_within, loop}
use Rattle.sl_run.proofs.Alike.{BothGive}
use Rattle.sl_core.specs.Memory.{Memory, Frame}
use Rattle.sl_core.specs.Memory as core
use Rattle.sl_plain.specs.Program.{Declared}
use Rattle.sl_plain.specs.Means.{Variables}
use Rattle.sl_plain.proofs.Held.{memory_of, Ready, Extends}
use Rattle.sl_core.proofs.Slots.{SameBelow, same_below, then_below}
use Rattle.sl_plain.proofs.Values.{IsFine}

-- values of which nothing is said
abbrev pub Any : {A B : Type 0} → A → B → Type 0
Any x y = Unit {0}

module _ (names : List Declared) (below : List Frame) (rooms : ℕ) where
  abbrev memory : List (Option core.Value) → Variables → Memory
  memory extra variables = memory_of names below extra variables

  -- the core's part went on as well, with a related value; each name of the scope holds a value of its type
  pub record WentOn (A B : Type 0) (val : A → B → Type 0) (scope : List Declared) (taken : ℕ) (extra : List (Option core.Value)) (x : A) (t : Trace) (variables : Variables) (y : Step Memory B) : Type 0 where
    pub value : B
    pub now : List (Option core.Value)
    pub is : y ≡ Went value t (memory now variables)
    pub related : val x value
    pub kept : SameBelow taken extra now
    pub ready : Ready scope variables

  -- two parts ended alike: both went on, or both are over, and not for want of a meaning
  abbrev pub Alike : {A B : Type 0} → (A → B → Type 0) → List Declared → ℕ → List (Option core.Value) → Step Variables A → Step Memory B → Type 0
  Alike {A} {B} val scope taken extra (Went x t variables) y = WentOn A B val scope taken extra x t variables y
  Alike val scope taken extra (Over e t) y = (y ≡ Over e t) × IsFine e

  -- two parts go alike, from states where the names of a scope hold values of their types
  abbrev pub GoAlike : {A B : Type 0} → (A → B → Type 0) → List Declared → List Declared → ℕ → Act Variables A → Act Memory B → Type 0
  GoAlike val scope scope' taken p q = (t : Trace) (variables : Variables) (extra : List (Option core.Value)) → Ready scope variables → length extra ≡ rooms → Alike val scope' taken extra (p t variables) (q t (memory extra variables))

  module _ {A B : Type 0} (val : A → B → Type 0) where
    -- both went on
    pub went_both : (scope : List Declared) (taken : ℕ) (extra now : List (Option core.Value)) (x : A) (y : B) (t : Trace) (variables : Variables) (p : Step Variables A) (q : Step Memory B)
        → p ≡ Went x t variables → q ≡ Went y t (memory now variables) → val x y → SameBelow taken extra now → Ready scope variables → Alike val scope taken extra p q
    went_both scope taken extra now x y t variables p q plain low related kept ready =
        subst (λ p. Alike val scope taken extra p q) (sym plain) (record { value = y; now = now; is = low; related = related; kept = kept; ready = ready })

    -- both are over
    pub over_both : (scope : List Declared) (taken : ℕ) (extra : List (Option core.Value)) (e : Ending) (t : Trace) (p : Step Variables A) (q : Step Memory B)
        → p ≡ Over e t → q ≡ Over e t → IsFine e → Alike val scope taken extra p q
    over_both scope taken extra e t p q plain low fine = subst (λ p. Alike val scope taken extra p q) (sym plain) (low, fine)

    -- what ended alike from a later state
    pub alike_from : (scope : List Declared) (taken taken' : ℕ) (extra now : List (Option core.Value)) → taken ≤ taken' → SameBelow taken extra now → (x : Step Variables A) (y : Step Memory B) → Alike val scope taken' now x y → Alike val scope taken extra x y
    alike_from scope taken taken' extra now le kept (Went x t variables) y h =
        record { value = h.value; now = h.now; is = h.is; related = h.related; kept = then_below taken taken' extra now h.now le kept h.kept; ready = h.ready }
    alike_from scope taken taken' extra now le kept (Over e t) y h = h

    -- less is known behind a block
    alike_less : (scope scope' : List Declared) (taken : ℕ) (extra : List (Option core.Value)) → Extends scope scope' → (x : Step Variables A) (y : Step Memory B) → Alike val scope' taken extra x y → Alike val scope taken extra x y
    alike_less scope scope' taken extra extends (Went x t variables) y h =
        record { value = h.value; now = h.now; is = h.is; related = h.related; kept = h.kept; ready = λ name entry e. h.ready name entry (extends name entry e) }
    alike_less scope scope' taken extra extends (Over e t) y h = h

    pub go_less : (start scope scope' : List Declared) (taken : ℕ) (p : Act Variables A) (q : Act Memory B) → Extends scope scope' → GoAlike val start scope' taken p q → GoAlike val start scope taken p q
    go_less start scope scope' taken p q extends h t variables extra ready long = alike_less scope scope' taken extra extends (p t variables) (q t (memory extra variables)) (h t variables extra ready long)

    -- what the core does in other words
    pub go_same : (scope scope' : List Declared) (taken : ℕ) (p : Act Variables A) (q q' : Act Memory B) → ((t : Trace) (m : Memory) → q t m ≡ q' t m) → GoAlike val scope scope' taken p q' → GoAlike val scope scope' taken p q
    go_same scope scope' taken p q q' same h t variables extra ready long = subst (λ y. Alike val scope' taken extra (p t variables) y) (sym (same t (memory extra variables))) (h t variables extra ready long)

    -- nothing but related values
    pub pure_alike : (scope : List Declared) (taken : ℕ) (x : A) (y : B) → val x y → GoAlike val scope scope taken (pure x) (pure y)
    pure_alike scope taken x y related t variables extra ready long = record { value = y; now = extra; is = refl; related = related; kept = same_below taken extra; ready = ready }

  -- what comes after parts that ended alike
  pub then_alike : {A B C D : Type 0} (val : A → B → Type 0) (val' : C → D → Type 0) (mid scope' : List Declared) (taken : ℕ) (extra : List (Option core.Value)) → length extra ≡ rooms → (x : Step Variables A) (y : Step Memory B) (go : A → Act Variables C) (go' : B → Act Memory D)
      → Alike val mid taken extra x y → ((a : A) (b : B) → val a b → GoAlike val' mid scope' taken (go a) (go' b)) → Alike val' scope' taken extra (step_then x go) (step_then y go')
  then_alike val val' mid scope' taken extra long (Went a t variables) y go go' h k =
      subst (λ y. Alike val' scope' taken extra (go a t variables) (step_then y go')) (sym h.is)
      (alike_from val' scope' taken taken extra h.now (omega arith) h.kept (go a t variables) (go' h.value t (memory h.now variables))
      (k a h.value h.related t variables h.now h.ready (sym h.kept.long ∙ long)))
  then_alike val val' mid scope' taken extra long (Over e t) y go go' h k = (ap (λ y. step_then y go') h.0, h.1)

  -- one part after another
  pub bind_alike : {A B C D : Type 0} (val : A → B → Type 0) (val' : C → D → Type 0) (scope mid scope' : List Declared) (taken : ℕ) (p : Act Variables A) (q : Act Memory B) (go : A → Act Variables C) (go' : B → Act Memory D)
      → GoAlike val scope mid taken p q → ((a : A) (b : B) → val a b → GoAlike val' mid scope' taken (go a) (go' b)) → GoAlike val' scope scope' taken (p >>= go) (q >>= go')
  bind_alike val val' scope mid scope' taken p q go go' h k t variables extra ready long = then_alike val val' mid scope' taken extra long (p t variables) (q t (memory extra variables)) go go' (h t variables extra ready long) k

  -- a turn
  turn_at_alike : (n : ℕ) (scope : List Declared) (taken : ℕ) → GoAlike (Any {A = Unit {0}} {B = Unit {0}}) scope scope taken (turn_at n) (turn_at n)
  turn_at_alike zero scope taken t variables extra ready long = (refl, tt)
  turn_at_alike (suc n) scope taken t variables extra ready long = record { value = tt; now = extra; is = refl; related = tt; kept = same_below taken extra; ready = ready }

  pub turn_alike : (scope : List Declared) (taken : ℕ) → GoAlike (Any {A = Unit {0}} {B = Unit {0}}) scope scope taken turn turn
  turn_alike scope taken t variables extra ready long = turn_at_alike t.left scope taken t variables extra ready long

  module _ {A B : Type 0} (val : A → B → Type 0) (scope : List Declared) (taken : ℕ) where
    -- what loops do after two such rounds
    round_alike : (given : Option A) (given' : Option B) (again : Act Variables A) (again' : Act Memory B) → BothGive val given given' → GoAlike val scope scope taken again again' → GoAlike val scope scope taken (round_then given again) (round_then given' again')
    round_alike None None again again' e h = h
    round_alike (Some x) (Some y) again again' e h = pure_alike val scope taken x y e
    round_alike None (Some y) again again' e h = absurd e
    round_alike (Some x) None again again' e h = absurd e

    -- loops, whose rounds go alike
    loop_within_alike : (n : ℕ) (p : Act Variables (Option A)) (q : Act Memory (Option B)) → GoAlike (BothGive val) scope scope taken p q → GoAlike val scope scope taken (loop_within n p) (loop_within n q)
    loop_within_alike zero p q h = λ t variables extra ready long. (refl, tt)
    loop_within_alike (suc n) p q h =
        bind_alike (Any {A = Unit {0}} {B = Unit {0}}) val scope scope scope taken turn turn _ _ (turn_alike scope taken) (λ _ _ _.
        bind_alike (BothGive val) val scope scope scope taken p q _ _ h (λ given given' e.
        round_alike given given' (loop_within n p) (loop_within n q) e (loop_within_alike n p q h)))

    pub loop_alike : (p : Act Variables (Option A)) (q : Act Memory (Option B)) → GoAlike (BothGive val) scope scope taken p q → GoAlike val scope scope taken (loop p) (loop q)
    loop_alike p q h t variables extra ready long = loop_within_alike t.left p q h t variables extra ready long
