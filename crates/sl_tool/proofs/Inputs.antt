-- What askings leave of an input, one after another.
use Rattle.std.proofs.Common.{◌≡◌, ℕ, ◌+◌, zero, suc, ◌≤◌, List, [], ◌∷◌, ◌++◌, length, take, drop, map, Option, Some, None, refl, sym, ap, ◌∙◌, subst, append_assoc}
use Rattle.std.specs.Prelude.{Result, Ok, Err}
use Rattle.std.proofs.lemmas.List.{take-append-drop, drop-drop, length-append, length-map}
use Rattle.sl_outside.specs.declared.source.Failed.{Failed}
use Rattle.sl_outside.specs.Counts.{Rose}
use Rattle.sl_outside.specs.Source.{NextGives, SourceState, Reads}
use Rattle.sl_run.specs.Run.{Event}
use Rattle.sl_run.specs.Outcome.{Outcome, printed, asked, BeginsWith}
use Rattle.sl_run.proofs.Puts.{asked-append}
use Rattle.c_machine.specs.Outside as machine
use Rattle.c_machine.specs.Outside.{AsksInput}
use Rattle.sl_tool.specs.Outside.{IsTold}

-- what a source tells, in the words of the machine and in those of the tool
pub told_input : (left : Option (List ℕ)) (input : List ℕ) → machine.IsTold left input → IsTold left input
told_input None input h = tt
told_input (Some left) input h = h

-- what is left after one asking
next_left : (before after : Option (List ℕ)) (input : List ℕ) (answer : Option ℕ) → before ≡ Some input → NextGives before after (Ok answer) → after ≡ Some (drop 1 input)
next_left None after input answer e h = absurd (cc e)
next_left (Some left) after input answer e h = let same : left ≡ input = cc in h.1 ∙ ap (λ bytes. Some (drop 1 bytes)) same

failed_left : (before after : Option (List ℕ)) (input : List ℕ) (failed : Failed) → before ≡ Some input → NextGives before after (Err failed) → after ≡ Some input
failed_left None after input failed e h = absurd (cc e)
failed_left (Some left) after input failed e h = let same : left ≡ input = cc in h ∙ ap Some same

drop_nil : (n : ℕ) → drop {A = ℕ} n [] ≡ []
drop_nil zero = refl
drop_nil (suc n) = refl

drop_more : (n : ℕ) (xs : List ℕ) → drop n (drop 1 xs) ≡ drop (suc n) xs
drop_more n [] = drop_nil n
drop_more n (x ∷ xs) = refl

-- and after some, of which the last may have failed
pub reads_left : (answers : List (Option ℕ)) (a b : SourceState) (result : Result (Unit {0}) Failed) (input : List ℕ) → a.left ≡ Some input → Reads answers a b result → b.left ≡ Some (drop (length answers) input)
reads_left [] a b (Ok done) input e h = ap (λ s. s.left) h ∙ e
reads_left [] a b (Err failed) input e h = failed_left a.left b.left input failed e h.next
reads_left (answer ∷ answers) a b result input e (m, asked, rest) =
    reads_left answers m b result (drop 1 input) (next_left a.left m.left input answer e asked.next) rest ∙ ap Some (drop_more (length answers) input)

-- no count of faults rose where none failed
pub reads_calm : (answers : List (Option ℕ)) (a b : SourceState) → Reads answers a b (Ok tt) → b.faults ≡ a.faults
reads_calm [] a b h = ap (λ s. s.faults) h
reads_calm (answer ∷ answers) a b (m, asked, rest) = reads_calm answers m b rest ∙ asked.cause.stayed refl

-- and it rose by one where one did
pub reads_rose : (answers : List (Option ℕ)) (a b : SourceState) (failed : Failed) → Reads answers a b (Err failed) → Rose a.faults b.faults × (a.faults ≤ b.faults) × (b.faults ≤ a.faults + 1)
reads_rose [] a b failed asked = (asked.cause.rose refl, asked.cause.no_lower, asked.cause.by_one)
reads_rose (answer ∷ answers) a b failed (m, asked, rest) = subst (λ n. Rose n b.faults × (n ≤ b.faults) × (b.faults ≤ n + 1)) (asked.cause.stayed refl) (reads_rose answers m b failed rest)

-- Askings of a run ----------------------------------------------------------------------------------------------------

module _ (input : List ℕ) (events : List Event) (a b : SourceState) where
  pub asks_left : (result : Result (Unit {0}) Failed) → a.left ≡ Some input → AsksInput input events a b result → b.left ≡ Some (drop (length (asked events)) input)
  asks_left result e (answers, many, are, reads) = reads_left answers a b result input e reads ∙ ap (λ n. Some (drop n input)) many

  pub asks_calm : AsksInput input events a b (Ok tt) → b.faults ≡ a.faults
  asks_calm (answers, many, are, reads) = reads_calm answers a b reads

  pub asks_rose : (failed : Failed) → AsksInput input events a b (Err failed) → Rose a.faults b.faults × (a.faults ≤ b.faults) × (b.faults ≤ a.faults + 1)
  asks_rose failed (answers, many, are, reads) = reads_rose answers a b failed reads

-- how many askings there are among events, and among those behind them
asked_more : (events more : List Event) → length (asked (events ++ more)) ≡ length (asked events) + length (asked more)
asked_more events more =
    let raised : ℕ → ℕ = λ n. length (printed events) + n in
    ap length (asked-append events more) ∙ (length-append (asked events) (map raised (asked more)) ∙ ap (λ k. length (asked events) + k) (length-map (asked more) raised))

drop_plus : (m n : ℕ) (xs : List ℕ) → drop (m + n) xs ≡ drop n (drop m xs)
drop_plus m n xs = sym (drop-drop n m xs)

-- a run that begins with these events takes of the input what these ask for, and then some more, before its rest
pub takes_front : (input : List ℕ) (run : Outcome) (events : List Event) → run.rest ≡ drop (length (asked run.events)) input → BeginsWith run events
    → (front : List ℕ) × (more : List ℕ) × (input ≡ front ++ more ++ run.rest) × (drop (length (asked events)) input ≡ more ++ run.rest)
takes_front input run events rest (later, is) =
    let k = length (asked events) in
    let m = length (asked later) in
    let more = take m (drop k input) in
    let behind : run.rest ≡ drop m (drop k input) = rest ∙ (ap (λ n. drop n input) (ap (λ all. length (asked all)) is ∙ asked_more events later) ∙ drop_plus k m input) in
    let left : drop k input ≡ more ++ run.rest = sym (take-append-drop m (drop k input)) ∙ ap (λ rest. more ++ rest) (sym behind) in
    (take k input, more, sym (take-append-drop k input) ∙ (ap (λ rest. take k input ++ rest) left ∙ sym (append_assoc (take k input) more run.rest)), left)
