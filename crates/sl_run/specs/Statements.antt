-- Statements, in any language whose functions return something in R: how they are left, and how a part of a run goes on after them.
use Rattle.std.specs.Prelude.{ℕ, ◌%◌, ℤ, pos, negsuc, List, [], ◌∷◌, Option, Some, None}
use Rattle.sl_run.specs.Run.{Act, pure, ◌>>=◌}

-- how a statement is left: by the next one, by a break, or by a return
pub data FlowOf (R : Type 0) : Type 0 where
  Next : FlowOf R
  Broke : FlowOf R
  Returned : (value : R) → FlowOf R

-- what comes after a statement that was left so
abbrev pub then_on : {S R : Type 0} → Act S (FlowOf R) → FlowOf R → Act S (FlowOf R)
then_on go Next = go
then_on go Broke = pure Broke
then_on go (Returned value) = pure (Returned value)

-- statements in order, up to a break or a return. Of each it is known what it does, given what calls do
abbrev pub in_order : {S R C : Type 0} → List (C → Act S (FlowOf R)) → C → Act S (FlowOf R)
in_order [] call = pure Next
in_order (m ∷ ms) call = m call >>= then_on (in_order ms call)

-- how a loop is left after a round of it that was left so, or nothing where it goes round again
abbrev pub after_round : {R : Type 0} → FlowOf R → Option (FlowOf R)
after_round Next = None
after_round Broke = Some Next
after_round (Returned value) = Some (Returned value)

-- What there is of the input, as a number: the byte, or -1 at the end. An input is a list of bytes; of a number in it that is none,
-- it is the remainder by 256, so that on every list what there is is a byte
abbrev pub gotten : Option ℕ → ℤ
gotten None = negsuc 0
gotten (Some byte) = pos (byte % 256)
