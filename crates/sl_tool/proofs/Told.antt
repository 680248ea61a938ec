-- Contents and an input that agree with what is told.
use Rattle.std.proofs.Common.{◌≡◌, ℕ, List, [], Option, Some, None, refl, sym, ap, ◌∙◌}
use Rattle.std.specs.Prelude.{IfSome, Ok}
use Rattle.sl_outside.specs.Folder.{Contents, ReadGives}
use Rattle.sl_tool.specs.Outside.{IsTold}
use Rattle.sl_tool.specs.Parts.{Finds}

-- what a folder tells, or else contents that have nothing
pub told_files : Option Contents → Contents
told_files None = λ _. None
told_files (Some held) = held

pub files_told : (told : Option Contents) → IsTold told (told_files told)
unfolding told_files
files_told None = tt
files_told (Some held) = refl

-- what an input tells, or else nothing
pub input_of : Option (List ℕ) → List ℕ
input_of None = []
input_of (Some left) = left

pub input_told : (left : Option (List ℕ)) → IsTold left (input_of left)
unfolding input_of
input_told None = tt
input_told (Some left) = refl

-- what is told is this
pub told_is : {A : Type 0} (o : Option A) (x : A) → IsTold o x → IfSome o (λ _. o ≡ Some x)
told_is None x h = tt
told_is (Some y) x h = ap Some h

-- what a read found is what is found
pub finds_read : (told : Option Contents) (file : List ℕ) (found given : Option (List ℕ)) → ReadGives told file (Ok found) → found ≡ given → Finds told file given
finds_read None file found given h e = tt
finds_read (Some held) file found given h e = sym h ∙ e

-- and where it stays, it is still told
pub still_told : {A : Type 0} (o o' : Option A) (x : A) → IsTold o x → o' ≡ o → IfSome o (λ _. o' ≡ Some x)
still_told None o' x h e = tt
still_told (Some y) o' x h e = e ∙ ap Some h
