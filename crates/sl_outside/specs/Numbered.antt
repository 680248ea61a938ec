-- What each call of the forms over memory that can fail answers, exactly. Calls are numbered from 1, up to 2 ^ 64 - 1, which is the
-- number of every later call too.
use Rattle.std.specs.Prelude.{◌≡◌, ℕ, ◌+◌, List, ◌++◌, length, drop, slice_get, Option, Bool, true, false, ◌||◌, nat_lt, ◌==◌, Result, Ok, Err}
use Rattle.std.specs.List.{list_any}
use Rattle.sl_outside.specs.Counts.{one_more}
use Rattle.sl_outside.specs.Entries.{contents_of, stored}
use Rattle.sl_outside.specs.declared.source.Failed.{Failed}
use Rattle.sl_outside.specs.declared.folder.Refused.{Refused}
use Rattle.sl_outside.specs.declared.folder.Refused.TheVariants as refused

-- whether the next call, after so many, has a failing number
abbrev pub next_fails : List ℕ → ℕ → Bool
next_fails failing calls = list_any (λ number. number == one_more calls) failing

-- a sink over memory: what it holds, how much it may hold, the numbers of the calls that fail, and how many calls and faults
-- there were
pub record MemorySinkState : Type 0 where
  pub held : List ℕ
  pub room : ℕ
  pub failing : List ℕ
  pub calls : ℕ
  pub faults : ℕ

-- whether the next call of put fails: its number is a failing one, or the piece doesn't fit
abbrev pub put_fails : MemorySinkState → List ℕ → Bool
put_fails s piece = next_fails s.failing s.calls || nat_lt s.room (length s.held + length piece)

-- the next call of put: it takes the whole piece, or it fails and takes nothing
abbrev pub PutAnswers : MemorySinkState → MemorySinkState → List ℕ → Result (Unit {0}) Failed → Type 0
PutAnswers old new piece (Ok done) = (put_fails old piece ≡ false) × (new ≡ record old { held = old.held ++ piece; calls = one_more old.calls })
PutAnswers old new piece (Err failed) = (put_fails old piece ≡ true) × (new ≡ record old { calls = one_more old.calls; faults = one_more old.faults })

-- a source over memory: the bytes to come, the numbers of the calls that fail, and how many calls and faults there were
pub record MemorySourceState : Type 0 where
  pub left : List ℕ
  pub failing : List ℕ
  pub calls : ℕ
  pub faults : ℕ

-- the next call of next: it takes the first byte that is left, or finds none, or it fails and takes nothing
abbrev pub NextAnswers : MemorySourceState → MemorySourceState → Result (Option ℕ) Failed → Type 0
NextAnswers old new (Ok next) = (next_fails old.failing old.calls ≡ false) × (next ≡ slice_get old.left 0) × (new ≡ record old { left = drop 1 old.left; calls = one_more old.calls })
NextAnswers old new (Err failed) = (next_fails old.failing old.calls ≡ true) × (new ≡ record old { calls = one_more old.calls; faults = one_more old.faults })

-- a folder over memory: its files, the numbers of the calls that fail, and how many calls and faults there were
pub record MemoryFolderState : Type 0 where
  pub files : List (List ℕ × List ℕ)
  pub failing : List ℕ
  pub calls : ℕ
  pub faults : ℕ

-- the next call, a read: it gives what is under the name, or it fails, or it wants memory; the files stay
abbrev pub ReadAnswers : MemoryFolderState → MemoryFolderState → List ℕ → Result (Option (List ℕ)) Refused → Type 0
ReadAnswers old new name (Ok found) = (next_fails old.failing old.calls ≡ false) × (found ≡ contents_of old.files name) × (new ≡ record old { calls = one_more old.calls })
ReadAnswers old new name (Err refused.Failed) = (next_fails old.failing old.calls ≡ true) × (new ≡ record old { calls = one_more old.calls; faults = one_more old.faults })
ReadAnswers old new name (Err refused.Mem) = (next_fails old.failing old.calls ≡ false) × (new ≡ record old { calls = one_more old.calls })

-- the next call, a write: it stores the bytes under the name, or it fails or wants memory, and then the files stay
abbrev pub WriteAnswers : MemoryFolderState → MemoryFolderState → List ℕ → List ℕ → Result (Unit {0}) Refused → Type 0
WriteAnswers old new name bytes (Ok done) = (next_fails old.failing old.calls ≡ false) × (new ≡ record old { files = stored old.files name bytes; calls = one_more old.calls })
WriteAnswers old new name bytes (Err refused.Failed) = (next_fails old.failing old.calls ≡ true) × (new ≡ record old { calls = one_more old.calls; faults = one_more old.faults })
WriteAnswers old new name bytes (Err refused.Mem) = (next_fails old.failing old.calls ≡ false) × (new ≡ record old { calls = one_more old.calls })
