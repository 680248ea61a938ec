-- The C of an expression computes the number that the expression has, or halts as it does.
use Rattle.std.proofs.Common.{◌≡◌, ℕ, ◌+◌, ◌≤◌, List, ◌++◌, Bool, true, false, Option, refl, arith}
use Rattle.std.specs.Prelude.{ℤ}
use Rattle.sl_run.specs.Run.{Ending, Stuck, Trace, Step, Went, Over, Act, pure, step_then, ◌>>=◌}
use Rattle.sl_run.specs.Run as run
use Rattle.sl_core.specs.Memory as source
use Rattle.sl_core.specs.Memory.{Value, Number, Bytes}
use Rattle.sl_num.specs.Comparing.{truth}
use Rattle.sl_core.specs.Meaning.{with_some, with_number, apply_in, halt_number, root_of, read}
use Rattle.c_tree.specs.declared.tree.CStmt.{CStmt}
use Rattle.c_tree.specs.Memory.{Tree}
use Rattle.c_tree.specs.Meaning.{is_int64}
use Rattle.sl_frames.specs.Translated.{Code}
use Rattle.sl_core.proofs.Slots.{SameBelow, then_below}
use Rattle.sl_frames.proofs.Meaning.Frames.{Where, Does, Halts, does_then, does_halts, halts_then}
use Rattle.sl_frames.proofs.Meaning.Operations.{Ready, Stays}
use Rattle.sl_frames.proofs.Meaning.Related.{Beneath, source_with, HoldLike, like_below}

-- a part of a core's run has this number, and changes nothing
pub record Gives (b : Beneath) (a : Act source.Memory Value) (vars : List (Option Value)) (number : ℤ) : Type 0 where
  pub gives : (t : Trace) → a t (source_with b vars) ≡ Went (Number number) t (source_with b vars)

-- or it is over
pub record Ends (b : Beneath) (a : Act source.Memory Value) (vars : List (Option Value)) (e : Ending) : Type 0 where
  pub ends : (t : Trace) → a t (source_with b vars) ≡ Over e t

-- What the C of an expression did: it computed the number that the expression has, which its value has from then on, whatever stands
-- in the temporaries that are free; or it halted as the expression does; or the core is stuck
pub data Evaluated (w : Where) (b : Beneath) (variables : ℕ) (a : Act source.Memory Value) (code : Code) (free : ℕ) (vars : List (Option Value)) (others : List Tree) : Type 0 where
  Gave : (number : ℤ) (after : List Tree) → Gives b a vars number → is_int64 number ≡ true → Does w code.before others after → SameBelow (variables + free) others after → Stays w (variables + code.free) after code.value number → Evaluated w b variables a code free vars others
  Halting : (kind file line : ℕ) → Ends b a vars (run.Halt kind file line) → Halts w code.before others kind file line → Evaluated w b variables a code free vars others
  Sticks : Ends b a vars (Stuck b.number) → Evaluated w b variables a code free vars others

pub truth_fits : (b : Bool) → is_int64 (truth b) ≡ true
truth_fits true = refl
truth_fits false = refl

module _ (w : Where) (b : Beneath) (variables temporaries : ℕ) (ready : Ready w variables temporaries) where
  -- two operands, and what is done with their numbers
  abbrev pub two : {B : Type 0} → Act source.Memory Value → Act source.Memory Value → (ℤ → ℤ → Act source.Memory B) → Act source.Memory B
  two l r go = l >>= (λ x. r >>= (λ y. with_number x (λ m. with_number y (λ n. go m n))))

  -- the C of an expression, wherever its temporaries begin
  pub record Good (a : Act source.Memory Value) (code : ℕ → Code) (numeric : Type 0) : Type 0 where
    pub grows : (free : ℕ) → free ≤ (code free).free
    pub good : numeric → (free : ℕ) (vars : List (Option Value)) (others : List Tree) → HoldLike variables temporaries vars others → (code free).free ≤ temporaries → Evaluated w b variables a (code free) free vars others

  module _ (l r : Act source.Memory Value) (go : ℤ → ℤ → Act source.Memory Value) (first second code : Code) (free : ℕ) (vars : List (Option Value)) (others : List Tree) (rest : List CStmt) where
    -- what comes behind two operands
    abbrev pub Behind : Type 0
    Behind = (m n : ℤ) (after : List Tree) → HoldLike variables temporaries vars after → is_int64 m ≡ true → is_int64 n ≡ true → Stays w (variables + second.free) after first.value m → Stays w (variables + second.free) after second.value n
        → Evaluated w b variables (go m n) (record code { before = rest }) second.free vars after

    behind_second : (m n : ℤ) (after last : List Tree) → Gives b l vars m → Gives b r vars n → Does w first.before others after → Does w second.before after last → SameBelow (variables + free) others last → free ≤ second.free
        → Evaluated w b variables (go m n) (record code { before = rest }) second.free vars last
        → Evaluated w b variables (two l r go) (record code { before = first.before ++ second.before ++ rest }) free vars others
    behind_second m n after last left right does does' same grows (Gave number end gives fits does'' same' stays) =
        Gave number end (record { gives = λ t. simp (left.gives, right.gives, gives.gives) }) fits
        (does_then w (first.before ++ second.before) rest others last end (does_then w first.before second.before others after last does does') does'')
        (then_below (variables + free) (variables + second.free) others last end (omega arith) same same') stays
    behind_second m n after last left right does does' same grows (Halting kind file line ends halts) =
        Halting kind file line (record { ends = λ t. simp (left.gives, right.gives, ends.ends) })
        (does_halts w (first.before ++ second.before) rest others last kind file line (does_then w first.before second.before others after last does does') halts)
    behind_second m n after last left right does does' same grows (Sticks ends) = Sticks (record { ends = λ t. simp (left.gives, right.gives, ends.ends) })

    after_first : Behind → (m : ℤ) (after : List Tree) → Gives b l vars m → is_int64 m ≡ true → HoldLike variables temporaries vars others → Does w first.before others after → SameBelow (variables + free) others after → Stays w (variables + first.free) after first.value m
        → free ≤ first.free → first.free ≤ second.free
        → Evaluated w b variables r second first.free vars after
        → Evaluated w b variables (two l r go) (record code { before = first.before ++ second.before ++ rest }) free vars others
    after_first behind m after left fits like does same stays grows grows' (Gave n last right fits' does' same' stays') =
        let all : SameBelow (variables + free) others last = then_below (variables + free) (variables + first.free) others after last (omega arith) same same' in
        behind_second m n after last left right does does' all (omega arith)
        (behind m n last (like_below variables temporaries free vars others last like all) fits fits'
        (record { stays = λ other same''. stays.stays other (then_below (variables + first.free) (variables + second.free) after last other (omega arith) same' same'') }) stays')
    after_first behind m after left fits like does same stays grows grows' (Halting kind file line ends halts) =
        Halting kind file line (record { ends = λ t. simp (left.gives, ends.ends) })
        (halts_then w (first.before ++ second.before) rest others kind file line (does_halts w first.before second.before others after kind file line does halts))
    after_first behind m after left fits like does same stays grows grows' (Sticks ends) = Sticks (record { ends = λ t. simp (left.gives, ends.ends) })

    -- two operands, the left one first
    pub two_evaluated : Behind → HoldLike variables temporaries vars others → free ≤ first.free → first.free ≤ second.free
        → Evaluated w b variables l first free vars others
        → ((after : List Tree) → HoldLike variables temporaries vars after → Evaluated w b variables r second first.free vars after)
        → Evaluated w b variables (two l r go) (record code { before = first.before ++ second.before ++ rest }) free vars others
    two_evaluated behind like grows grows' (Gave m after left fits does same stays) right =
        after_first behind m after left fits like does same stays grows grows' (right after (like_below variables temporaries free vars others after like same))
    two_evaluated behind like grows grows' (Halting kind file line ends halts) right =
        Halting kind file line (record { ends = λ t. simp (ends.ends) }) (halts_then w (first.before ++ second.before) rest others kind file line (halts_then w first.before second.before others kind file line halts))
    two_evaluated behind like grows grows' (Sticks ends) right = Sticks (record { ends = λ t. simp (ends.ends) })
