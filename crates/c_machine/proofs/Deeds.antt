-- What is done to the outside, one thing after another.
use Rattle.std.proofs.Common.{◌≡◌, ℕ, suc, List, [], ◌∷◌, ◌++◌, Bool, true, false, not, Option, None, Some, length, drop, refl, sym, ap, subst, ◌∙◌, arith, append_assoc, append-nil, inl, inr}
use Rattle.std.specs.Prelude.{Result, Ok, Err, IfSome, slice_get}
use Rattle.std.specs.Option.{is_none}
use Rattle.std.proofs.lemmas.List.{map-append, length-map}
use Rattle.sl_run.specs.Run.{Event, Trace, first_of, rest_of}
use Rattle.sl_run.specs.Outcome.{printed, asked}
use Rattle.sl_run.proofs.Puts.{printed-append}
use Rattle.sl_outside.specs.declared.source.Failed.{Failed}
use Rattle.sl_outside.specs.Counts.{HasCause}
use Rattle.sl_outside.specs.Sink.{SinkState, Prints}
use Rattle.sl_outside.specs.Source.{SourceState, NextGives, AreOf, Reads}
use Rattle.c_machine.specs.Outside.{Deed, Puts, Gets, event_of, events_of, answers, Gives, taken, ended_after, rest_after, seen, Outside, Done, IsTold}
use Rattle.sl_outside.proofs.Printing.{prints_then, prints_same}

-- Answers -------------------------------------------------------------------------------------------------------------

-- an input that came to its end has nothing left
pub rest_nothing : (xs : List (Option ℕ)) → rest_after xs [] ≡ []
rest_nothing [] = refl
rest_nothing (x ∷ xs) = rest_nothing xs

-- and stays there
ended_stays : (xs : List (Option ℕ)) → ended_after true xs ≡ true
ended_stays [] = refl
ended_stays (None ∷ xs) = refl
ended_stays (Some byte ∷ xs) = ended_stays xs

-- some answers, and then others

pub rest_then : (xs ys : List (Option ℕ)) (input : List ℕ) → rest_after (xs ++ ys) input ≡ rest_after ys (rest_after xs input)
rest_then [] ys input = refl
rest_then (x ∷ xs) ys input = rest_then xs ys (rest_of input)

pub ended_then : (at_end : Bool) (xs ys : List (Option ℕ)) → ended_after at_end (xs ++ ys) ≡ ended_after (ended_after at_end xs) ys
ended_then at_end [] ys = refl
ended_then at_end (None ∷ xs) ys = sym (ended_stays ys)
ended_then at_end (Some byte ∷ xs) ys = ended_then at_end xs ys

pub reads_then : (xs ys : List (Option ℕ)) (a b c : SourceState) (result : Result (Unit {0}) Failed) → Reads xs a b (Ok tt) → Reads ys b c result → Reads (xs ++ ys) a c result
reads_then [] ys a b c result h k = subst (λ s. Reads ys s c result) h k
reads_then (x ∷ xs) ys a b c result h k = (h.0, h.1, reads_then xs ys h.0 b c result h.2 k)

-- an input that gives both gives the first, and its rest the others

of_then : (xs ys : List (Option ℕ)) (input : List ℕ) → AreOf input (xs ++ ys) → AreOf input xs × Gives (ended_after false xs) (rest_after xs input) ys
of_then [] ys input h = (tt, h)
of_then (None ∷ xs) ys input h = (h, ap (λ input. rest_after xs (rest_of input)) h ∙ rest_nothing xs)
of_then (Some byte ∷ xs) ys [] h = absurd h
of_then (Some byte ∷ xs) ys (next ∷ input) h = let rest = of_then xs ys input h.1 in ((h.0, rest.0), rest.1)

pub gives_then : (at_end : Bool) (xs ys : List (Option ℕ)) (input : List ℕ) → Gives at_end input (xs ++ ys) → Gives at_end input xs × Gives (ended_after at_end xs) (rest_after xs input) ys
gives_then true xs ys input h = (h, subst (λ at_end. Gives at_end (rest_after xs input) ys) (sym (ended_stays xs)) (ap (rest_after xs) h ∙ rest_nothing xs))
gives_then false xs ys input h = of_then xs ys input h

-- one answer, and what it counts as
pub gives_taken : (at_end : Bool) (input : List ℕ) (answer : Option ℕ) → Gives at_end input (answer ∷ []) → first_of input ≡ taken at_end answer
gives_taken true input answer h = ap first_of h
gives_taken false input None h = ap first_of h
gives_taken false [] (Some byte) h = absurd h
gives_taken false (next ∷ input) (Some byte) h = ap Some (sym h.0)

pub ended_taken : (at_end : Bool) (answer : Option ℕ) → is_none (taken at_end answer) ≡ ended_after at_end (answer ∷ [])
ended_taken true None = refl
ended_taken true (Some byte) = refl
ended_taken false None = refl
ended_taken false (Some byte) = refl

-- a test that there is no answer
pub no_answer : (none some : Bool) → some ≡ not none → none ≡ not some
no_answer true some e = sym (ap not e)
no_answer false some e = sym (ap not e)

-- Inputs --------------------------------------------------------------------------------------------------------------

-- an input that gives these answers
abbrev input_of : List (Option ℕ) → List ℕ
input_of [] = []
input_of (None ∷ xs) = []
input_of (Some byte ∷ xs) = byte ∷ input_of xs

input_gives : (xs : List (Option ℕ)) → AreOf (input_of xs) xs
input_gives [] = tt
input_gives (None ∷ xs) = refl
input_gives (Some byte ∷ xs) = (refl, input_gives xs)

-- what was asked of a source that tells its bytes
abbrev pub ToldSo : List (Option ℕ) → List ℕ → SourceState → Type 0
ToldSo xs input after = AreOf input xs × (after.left ≡ Some (rest_after xs input))

told_next : (answer : Option ℕ) (xs : List (Option ℕ)) (input : List ℕ) (after : SourceState) → answer ≡ slice_get input 0 → ToldSo xs (drop 1 input) after → ToldSo (answer ∷ xs) input after
told_next None xs [] after e h = (refl, h.1)
told_next None xs (next ∷ input) after e h = absurd (cc e)
told_next (Some byte) xs [] after e h = absurd (cc e)
told_next (Some byte) xs (next ∷ input) after e h = let same : byte ≡ next = cc in ((same, h.0), h.1)

pub told_so : (xs : List (Option ℕ)) (input : List ℕ) (a b : SourceState) (result : Result (Unit {0}) Failed) → Reads xs a b result → a.left ≡ Some input → ToldSo xs input b
told_so [] input a b (Ok done) h e = (tt, ap (λ (s : SourceState). s.left) h ∙ e)
told_so [] input a b (Err failed) h e = (tt, subst (λ left. NextGives left b.left (Err failed)) e h.next)
told_so (x ∷ xs) input a b result h e =
    let next = subst (λ left. NextGives left h.0.left (Ok x)) e h.1.next in
    told_next x xs input b next.0 (told_so xs (drop 1 input) h.0 b result h.2 next.1)

-- there is an input, which is what the source tells, that gave its answers
pub input_there : (xs : List (Option ℕ)) (a b : SourceState) (result : Result (Unit {0}) Failed) → Reads xs a b result
    → (input : List ℕ) × IsTold a.left input × AreOf input xs × IfSome a.left (λ _. b.left ≡ Some (rest_after xs input))
input_there xs a b result h = at a.left refl
  where
    at : (left : Option (List ℕ)) → a.left ≡ left → (input : List ℕ) × IsTold left input × AreOf input xs × IfSome left (λ _. b.left ≡ Some (rest_after xs input))
    at None e = (input_of xs, tt, input_gives xs, tt)
    at (Some input) e = let told = told_so xs input a b result h e in (input, refl, told.0, told.1)

-- Deeds ---------------------------------------------------------------------------------------------------------------

-- some deeds, and then others

pub answers_then : (xs ys : List Deed) → answers (xs ++ ys) ≡ answers xs ++ answers ys
answers_then [] ys = refl
answers_then (Puts byte ∷ xs) ys = answers_then xs ys
answers_then (Gets answer ∷ xs) ys = ap (λ rest. answer ∷ rest) (answers_then xs ys)

pub events_then : (xs ys : List Deed) → events_of (xs ++ ys) ≡ events_of xs ++ events_of ys
events_then xs ys = map-append event_of xs ys

pub seen_then : (xs ys : List Deed) (t : Trace) → seen ys (seen xs t) ≡ seen (xs ++ ys) t
seen_then xs ys t =
    let events : (t.events ++ events_of xs) ++ events_of ys ≡ t.events ++ events_of (xs ++ ys) = append_assoc t.events (events_of xs) (events_of ys) ∙ ap (λ (events : List Event). t.events ++ events) (sym (events_then xs ys)) in
    let rest : rest_after (answers ys) (rest_after (answers xs) t.rest) ≡ rest_after (answers (xs ++ ys)) t.rest = sym (rest_then (answers xs) (answers ys) t.rest) ∙ ap (λ answers. rest_after answers t.rest) (sym (answers_then xs ys)) in
    λ k. record t { events = events k; rest = rest k }

-- none
pub seen_none : (t : Trace) → seen [] t ≡ t
seen_none t = λ k. record t { events = append-nil t.events k }

pub done_none : (a : Outside) → Done [] a a
done_none a = record { put = refl; got = refl }

pub done_then : (xs ys : List Deed) (a b c : Outside) → Done xs a b → Done ys b c → Done (xs ++ ys) a c
done_then xs ys a b c h k = record {
  put =
      prints_same a.sink c.sink (printed (events_of xs) ++ printed (events_of ys)) (printed (events_of (xs ++ ys))) (Ok tt)
      (sym (ap printed (events_then xs ys) ∙ printed-append (events_of xs) (events_of ys))) (prints_then (printed (events_of xs)) (printed (events_of ys)) a.sink b.sink c.sink (Ok tt) h.put k.put);
  got =
      subst (λ answers. Reads answers a.source c.source (Ok tt)) (sym (answers_then xs ys))
      (reads_then (answers xs) (answers ys) a.source b.source c.source (Ok tt) h.got k.got);
}

-- each asking has an answer
pub as_many : (xs : List Deed) → length (answers xs) ≡ length (asked (events_of xs))
as_many [] = refl
as_many (Puts byte ∷ xs) = as_many xs ∙ sym (length-map (asked (events_of xs)) suc)
as_many (Gets answer ∷ xs) = ap suc (as_many xs)

-- Counts --------------------------------------------------------------------------------------------------------------

-- what didn't fail leaves the count
pub no_cause : (before after : ℕ) → after ≡ before → HasCause false before after
no_cause before after e = record { rose = λ never. absurd (cc never); by_one = omega arith; stayed = λ _. e; no_lower = omega arith }

pub prints_quiet : (xs : List ℕ) (a b : SinkState) → Prints xs a b (Ok tt) → b.faults ≡ a.faults
prints_quiet [] a b h = ap (λ (s : SinkState). s.faults) h
prints_quiet (x ∷ xs) a b (inl (between, put, rest)) = prints_quiet xs between b rest ∙ put.cause.stayed refl
prints_quiet (x ∷ xs) a b (inr (e, put)) = absurd (cc e)

pub reads_quiet : (xs : List (Option ℕ)) (a b : SourceState) → Reads xs a b (Ok tt) → b.faults ≡ a.faults
reads_quiet [] a b h = ap (λ (s : SourceState). s.faults) h
reads_quiet (x ∷ xs) a b h = reads_quiet xs h.0 b h.2 ∙ h.1.cause.stayed refl
