-- What a second reader tells, which has no limit and is given no more than what the first one read and the next token.
use Rattle.std.specs.Prelude.{◌≡◌, ℕ, ◌≤◌, List, length, Bool, true, false}
use Rattle.std.specs.declared.result.Result.{Result}
use Rattle.std.specs.declared.result.Result.TheVariants.{Ok, Err}
use Rattle.sl_text.specs.declared.place.Span.{Span}
use Rattle.sl_text.specs.declared.token.Token.{Token}
use Rattle.sl_text.specs.declared.fault.Fault.{Fault}
use Rattle.sl_text.specs.declared.fault.Fault.TheVariants as fault
use Rattle.sl_grammar.specs.Phrase.{Found, Done, Stopped, left_of}
use Rattle.sl_tree.specs.Sorts.{Spelled}
use Rattle.sl_parse_expr.specs.declared.answer.Went.{Went}
use Rattle.sl_parse_expr.specs.Told.{behind}
use Rattle.sl_parse_expr.specs.Answers.{rule}

-- what was found is a whole phrase
abbrev pub is_done : {X : Type 0} → Found Spelled X → Bool
is_done (Done x rest) = true
is_done (Stopped rest) = false

-- what was found is whole or not, and ends behind an index
abbrev pub TellsWent : {X : Type 0} → List ℕ → List Token → Found Spelled X → Result Went Fault → Type 0
TellsWent bytes tokens f (Ok went) = (left_of f ≡ behind bytes tokens went.next) × (went.next ≤ length tokens) × (is_done f ≡ went.whole)
TellsWent bytes tokens f (Err (fault.Broken broken)) = ⊥
TellsWent bytes tokens f (Err fault.Mem) = Unit {0}

-- what is answered where the first reader stopped, whether the second went on, and whether what it found was whole: rule G6 where it went
-- on, and G1 where it found nothing whole. Where it stayed and found something whole, which no phrase of the grammar comes to, though that
-- isn't proved, want of memory is answered.
abbrev pub refusal : Span → Bool → Bool → Fault
refusal span true whole = fault.Broken (record { rule = rule 6; span = span })
refusal span false true = fault.Mem
refusal span false false = fault.Broken (record { rule = rule 1; span = span })
