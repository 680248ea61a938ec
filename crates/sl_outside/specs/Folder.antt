-- What a folder holds, and what its calls answer and leave.
use Rattle.std.specs.Prelude.{◌≡◌, ◌≢◌, ℕ, List, ◌++◌, Option, Some, None, Bool, true, false, Result, Ok, Err, IfSome, IfOk, IsSomeAnd}
use Rattle.sl_outside.specs.declared.folder.Refused.{Refused}
use Rattle.sl_outside.specs.declared.folder.Refused.TheVariants.{Failed, Mem}

-- for each name the bytes under it, or nothing where the name isn't there
abbrev pub Contents : Type 0
Contents = List ℕ → Option (List ℕ)

-- whether a call tells a fault
abbrev pub is_fault : {A : Type 0} → Result A Refused → Bool
is_fault (Ok x) = false
is_fault (Err Failed) = true
is_fault (Err Mem) = false

-- a read that isn't refused gives the bytes under the name, where the folder tells what it holds
abbrev pub ReadGives : Option Contents → List ℕ → Result (Option (List ℕ)) Refused → Type 0
ReadGives files name result = IfSome files (λ held. IfOk result (λ found. found ≡ held name))

-- all names but this one have what they had
abbrev pub OthersStay : List ℕ → Contents → Contents → Type 0
OthersStay name old new = (other : List ℕ) → other ≢ name → new other ≡ old other

-- A write of bytes under a name. After Ok the name has just these bytes, and after a fault it may have any or none; no other
-- name changes. For want of memory nothing changes. What a folder tells, it goes on telling; of one that tells nothing, nothing
-- is said
abbrev pub WriteGives : Option Contents → Option Contents → List ℕ → List ℕ → Result (Unit {0}) Refused → Type 0
WriteGives None after name bytes result = Unit {0}
WriteGives (Some old) after name bytes (Ok done) = IsSomeAnd after (λ new. (new name ≡ Some bytes) × OthersStay name old new)
WriteGives (Some old) after name bytes (Err Failed) = IsSomeAnd after (λ new. OthersStay name old new)
WriteGives (Some old) after name bytes (Err Mem) = after ≡ Some old

-- a call of a folder, with what it answered
pub data FolderCall : Type 0 where
  ReadCall : (name : List ℕ) (answer : Result (Option (List ℕ)) Refused) → FolderCall
  WriteCall : (name bytes : List ℕ) (answer : Result (Unit {0}) Refused) → FolderCall

-- what a folder tells of its calls goes on with these. Of one that tells nothing, nothing is said
abbrev pub GoesOn : Option (List FolderCall) → Option (List FolderCall) → List FolderCall → Type 0
GoesOn None after calls = Unit {0}
GoesOn (Some before) after calls = after ≡ Some (before ++ calls)

-- a folder as clauses see it: what it holds, where it tells that, how often it failed, how often it was called, and its calls in
-- their order, where it tells them
pub record FolderState : Type 0 where
  pub files : Option Contents
  pub faults : ℕ
  pub calls : ℕ
  pub log : Option (List FolderCall)

abbrev pub folder_state : Option Contents → ℕ → ℕ → Option (List FolderCall) → FolderState
folder_state files faults calls log = record { files = files; faults = faults; calls = calls; log = log }
