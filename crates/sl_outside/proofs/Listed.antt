-- What a list of entries holds, and what is left of a list of bytes.
use Rattle.std.proofs.Common.{◌≡◌, ◌≢◌, ℕ, suc, ◌<◌, List, [], ◌∷◌, ◌++◌, length, take, drop, get_or, Some, Bool, true, false, refl, sym, ap, ◌∙◌, cond}
use Rattle.std.specs.Str.{bytes_eq}
use Rattle.std.proofs.lemmas.Slice.Eq.{bytes_eq-Decides}
use Rattle.std.proofs.Math.Seq.{drop-cons}
use Rattle.std.proofs.lemmas.List.{set_split}
use Rattle.std.specs.Prelude.{Result, Ok, Err, OnOk, OnErr, IfErr}
use Rattle.sl_outside.specs.declared.folder.Refused.{Refused}
use Rattle.sl_outside.specs.declared.folder.Refused.TheVariants.{Failed, Mem}
use Rattle.sl_outside.specs.Entries.{contents_of, stored, StoresAt}
use Rattle.sl_outside.specs.Folder.{WriteGives}

-- equal names pass the test
pub same_name : (a b : List ℕ) → a ≡ b → bytes_eq a b ≡ true
same_name a b e = (bytes_eq-Decides a b).1 e

-- names that pass the test are equal
pub name_of_same : (a b : List ℕ) → bytes_eq a b ≡ true → a ≡ b
name_of_same a b e = (bytes_eq-Decides a b).0 e

-- other names don't pass the test
pub other_name : (a b : List ℕ) → a ≢ b → bytes_eq a b ≡ false
other_name a b h = at (bytes_eq a b) refl
  where
    at : (t : Bool) → bytes_eq a b ≡ t → bytes_eq a b ≡ false
    at true e = absurd (h (name_of_same a b e))
    at false e = e

-- an entry that has the name is what counts
pub entry_counts : (entry : List ℕ × List ℕ) (entries : List (List ℕ × List ℕ)) (name : List ℕ) → entry.0 ≡ name → contents_of (entry ∷ entries) name ≡ Some entry.1
entry_counts entry entries name e = ap (λ t. cond t (Some entry.1) (contents_of entries name)) (same_name entry.0 name e)

-- an entry that has another name doesn't count
pub entry_skipped : (entry : List ℕ × List ℕ) (entries : List (List ℕ × List ℕ)) (name : List ℕ) → bytes_eq entry.0 name ≡ false → contents_of (entry ∷ entries) name ≡ contents_of entries name
entry_skipped entry entries name e = ap (λ t. cond t (Some entry.1) (contents_of entries name)) e

-- bytes that are stored under a name are there
pub stored_there : (entries : List (List ℕ × List ℕ)) (name bytes : List ℕ) → contents_of (stored entries name bytes) name ≡ Some bytes
stored_there [] name bytes = entry_counts (name, bytes) [] name refl
stored_there (entry ∷ entries) name bytes = at (stored_there entries name bytes) (bytes_eq entry.0 name) refl
  where
    at : contents_of (stored entries name bytes) name ≡ Some bytes → (t : Bool) → bytes_eq entry.0 name ≡ t → contents_of (cond t ((name, bytes) ∷ entries) (entry ∷ stored entries name bytes)) name ≡ Some bytes
    at there true e = entry_counts (name, bytes) entries name refl
    at there false e = entry_skipped entry (stored entries name bytes) name e ∙ there

-- and every other name has what it had
pub stored_others : (entries : List (List ℕ × List ℕ)) (name bytes other : List ℕ) → other ≢ name → contents_of (stored entries name bytes) other ≡ contents_of entries other
stored_others [] name bytes other h = entry_skipped (name, bytes) [] other (other_name name other (λ e. h (sym e)))
stored_others (entry ∷ entries) name bytes other h = at (stored_others entries name bytes other h) (bytes_eq entry.0 name) refl
  where
    at : contents_of (stored entries name bytes) other ≡ contents_of entries other → (t : Bool) → bytes_eq entry.0 name ≡ t → contents_of (cond t ((name, bytes) ∷ entries) (entry ∷ stored entries name bytes)) other ≡ contents_of (entry ∷ entries) other
    at stay true e =
        entry_skipped (name, bytes) entries other (other_name name other (λ e. h (sym e)))
        ∙ sym (entry_skipped entry entries other (other_name entry.0 other (λ f. h (sym f ∙ name_of_same entry.0 name e))))
    at stay false e = ap (λ rest. cond (bytes_eq entry.0 other) (Some entry.1) rest) stay

-- bytes are stored at the first entry with the name
pub stores_at : (entries : List (List ℕ × List ℕ)) (name : List ℕ) (at : ℕ) (entry : List ℕ × List ℕ) → at < length entries → entry ≡ get_or entries at entry → bytes_eq entry.0 name ≡ true → ((bytes : List ℕ) → stored entries name bytes ≡ take at entries ++ stored (drop at entries) name bytes) → StoresAt entries name at
stores_at entries name at entry within is same before = (
  within,
  λ bytes.
      before bytes
      ∙ ap (λ rest. take at entries ++ stored rest name bytes) (drop-cons entries at entry within ∙ ap (λ e. e ∷ drop (suc at) entries) (sym is))
      ∙ ap (λ t. take at entries ++ cond t ((name, bytes) ∷ drop (suc at) entries) (entry ∷ stored (drop (suc at) entries) name bytes)) same
      ∙ sym (set_split entries at (name, bytes) within),
)

-- a list of entries that stores bytes as it should is a folder that was written to
pub writes : (old new : List (List ℕ × List ℕ)) (name bytes : List ℕ) (result : Result (Unit {0}) Refused) → OnOk result (new ≡ stored old name bytes) → OnErr result (new ≡ old) → IfErr result (λ refused. refused ≡ Mem) → WriteGives (Some (contents_of old)) (Some (contents_of new)) name bytes result
writes old new name bytes (Ok done) ok err refused =
    (ap (λ entries. contents_of entries name) ok ∙ stored_there old name bytes, λ other h. ap (λ entries. contents_of entries other) ok ∙ stored_others old name bytes other h)
writes old new name bytes (Err Mem) ok err refused = ap (λ entries. Some (contents_of entries)) err
writes old new name bytes (Err Failed) ok err refused = let h : Failed ≡ Mem = refused in cc
