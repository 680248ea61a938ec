-- The laws of statements, whatever language they are of: where their parts don't look at the events so far, or agree where few
-- turns are left, they do too.
use Rattle.std.proofs.Common.{ℕ}
use Rattle.sl_run.specs.Run.{Act, pure, ◌>>=◌, ◌>>◌}
use Rattle.sl_run.specs.Statements.{FlowOf, Next, Broke, Returned, then_on, after_round}
use Rattle.sl_run.specs.Laws.{Alone, Agrees}
use Rattle.sl_run.proofs.Alone.{pure_alone, bind_alone}
use Rattle.sl_run.proofs.Steady.{pure_agrees, bind_agrees}

module _ {S R : Type 0} where
  -- what comes after a statement
  pub then_on_alone : (go : Act S (FlowOf R)) (flow : FlowOf R) → Alone go → Alone (then_on go flow)
  then_on_alone go Next h = h
  then_on_alone go Broke h = pure_alone Broke
  then_on_alone go (Returned value) h = pure_alone (Returned value)

  -- one part, and then nothing
  pub and_next_alone : {A : Type 0} (a : Act S A) → Alone a → Alone (a >> pure {A = FlowOf R} Next)
  and_next_alone a h = bind_alone a (λ _. pure Next) h (λ _. pure_alone Next)

  -- a round of a loop
  pub round_alone : (body : Act S (FlowOf R)) → Alone body → Alone (body >>= (λ flow. pure (after_round flow)))
  round_alone body h = bind_alone body (λ flow. pure (after_round flow)) h (λ flow. pure_alone (after_round flow))

  -- what comes after a statement
  pub then_on_agrees : (n : ℕ) (go go' : Act S (FlowOf R)) (flow : FlowOf R) → Agrees n go go' → Agrees n (then_on go flow) (then_on go' flow)
  then_on_agrees n go go' Next h = h
  then_on_agrees n go go' Broke h = pure_agrees n Broke
  then_on_agrees n go go' (Returned value) h = pure_agrees n (Returned value)

  -- one part, and then nothing
  pub and_next_agrees : {A : Type 0} (n : ℕ) (a b : Act S A) → Agrees n a b → Agrees n (a >> pure {A = FlowOf R} Next) (b >> pure {A = FlowOf R} Next)
  and_next_agrees n a b h = bind_agrees n a b (λ _. pure Next) (λ _. pure Next) h (λ _. pure_agrees n Next)

  -- a round of a loop
  pub round_agrees : (n : ℕ) (body body' : Act S (FlowOf R)) → Agrees n body body' → Agrees n (body >>= (λ flow. pure (after_round flow))) (body' >>= (λ flow. pure (after_round flow)))
  round_agrees n body body' h = bind_agrees n body body' (λ flow. pure (after_round flow)) (λ flow. pure (after_round flow)) h (λ flow. pure_agrees n (after_round flow))
