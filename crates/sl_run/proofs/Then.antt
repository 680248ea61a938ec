-- Parts of runs one after another.
use Rattle.std.proofs.Common.{◌≡◌, refl}
use Rattle.sl_run.specs.Run.{Step, Went, Over, Act, pure, step_then, ◌>>=◌}

-- what comes after a part that ended so is the same however it is bracketed
pub then_assoc : {S A B C : Type 0} (x : Step S A) (f : A → Act S B) (g : B → Act S C) → step_then (step_then x f) g ≡ step_then x (λ a. f a >>= g)
then_assoc (Went a t s) f g = refl
then_assoc (Over e t) f g = refl

-- three parts are the same however they are bracketed
pub bind_assoc : {S A B C : Type 0} (x : Act S A) (f : A → Act S B) (g : B → Act S C) → ((x >>= f) >>= g) ≡ (x >>= (λ a. f a >>= g))
bind_assoc x f g = λ k t s. then_assoc (x t s) f g k

-- nothing after a part changes nothing
pub then_pure : {S A : Type 0} (x : Step S A) → step_then x pure ≡ x
then_pure (Went a t s) = refl
then_pure (Over e t) = refl
