-- Contents that are listed, and the forms over memory that never fail.
use Rattle.std.specs.Prelude.{◌≡◌, ◌<◌, ℕ, List, [], ◌∷◌, ◌++◌, length, slice_set, Option, Some, None, if◌then◌else◌}
use Rattle.std.specs.Str.{bytes_eq}

-- what a folder with these names and bytes holds; where a name stands twice, the first counts
abbrev pub contents_of : List (List ℕ × List ℕ) → List ℕ → Option (List ℕ)
contents_of [] name = None
contents_of (entry ∷ entries) name = if bytes_eq entry.0 name then Some entry.1 else contents_of entries name

-- the list with these bytes under a name: in place of the first that the name has, or at the end
abbrev pub stored : List (List ℕ × List ℕ) → List ℕ → List ℕ → List (List ℕ × List ℕ)
stored [] name bytes = (name, bytes) ∷ []
stored (entry ∷ entries) name bytes = if bytes_eq entry.0 name then (name, bytes) ∷ entries else entry ∷ stored entries name bytes

-- bytes under this name are stored in the entry at this place
abbrev pub StoresAt : List (List ℕ × List ℕ) → List ℕ → ℕ → Type 0
StoresAt entries name at = (at < length entries) × ((bytes : List ℕ) → stored entries name bytes ≡ slice_set entries at (name, bytes))

-- bytes under this name are stored behind all entries
abbrev pub StoresAtEnd : List (List ℕ × List ℕ) → List ℕ → Type 0
StoresAtEnd entries name = (bytes : List ℕ) → stored entries name bytes ≡ entries ++ (name, bytes) ∷ []

-- a folder over memory that never fails, and how often it was called
pub record SureFolderState : Type 0 where
  pub files : List (List ℕ × List ℕ)
  pub calls : ℕ

-- a source over memory that never fails: what it has left, and how often it was called
pub record SureSourceState : Type 0 where
  pub left : List ℕ
  pub calls : ℕ
