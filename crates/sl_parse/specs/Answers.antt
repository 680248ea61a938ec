-- What `parse` answers: the tree of a file, or the rule that it breaks and where: of its tokens, G6 where files go on but nest too deep, G2
-- in the library's import, and else G1; where none of these is broken, of its tree, the first of G3, G4 and G5.
--
-- Tokens are taken with their bytes, as sl_parse_expr takes them (`behind`).
use Rattle.std.specs.Prelude.{◌≡◌, ℕ, List, [], ◌∷◌, ◌++◌, length, drop, Some, None, ◌⊎◌}
use Rattle.std.specs.declared.result.Result.{Result}
use Rattle.std.specs.declared.result.Result.TheVariants.{Ok, Err}
use Rattle.sl_text.specs.declared.token.Token.{Token as TokenOf}
use Rattle.sl_text.specs.declared.fault.Broken.{Broken}
use Rattle.sl_text.specs.declared.fault.Fault.{Fault}
use Rattle.sl_text.specs.declared.fault.Fault.TheVariants as fault
use Rattle.sl_text.specs.Places.{feeds_from}
use Rattle.sl_grammar.specs.Phrase.{Begins, IsFront}
use Rattle.sl_tree.specs.Sorts.{Spelled}
use Rattle.sl_tree.specs.Declarations.{IsPackage, IsLibrary, IsFile}
use Rattle.sl_tree.specs.declared.tree.File.{File}
use Rattle.sl_parse_expr.specs.Told.{behind}
use Rattle.sl_parse_expr.specs.Answers.{place, rule}
use Rattle.sl_parse.specs.TreeRules.{broken_in, first_of}

-- these are the tokens of a file, however deep it nests; of one whose types, expressions and blocks nest no deeper than 64. Where its line
-- feeds stand, tokens don't tell.
abbrev pub AnyFile : File → List Spelled → Type 0
AnyFile x ts = IsFile None [] x ts

abbrev pub FileWithin : File → List Spelled → Type 0
FileWithin x ts = IsFile (Some 64) [] x ts

-- a file goes on with the next token, and each that does so is too deep
abbrev pub GoesTooDeep : (used rest : List Spelled) → Type 0
GoesTooDeep used rest = (k : Spelled) × (more : List Spelled) × (rest ≡ k ∷ more) × Begins AnyFile (used ++ k ∷ []) × ¬ Begins FileWithin (used ++ k ∷ [])

-- the tokens are those of a file, which ends there, and each such file is too deep
abbrev pub EndsTooDeep : (used rest : List Spelled) → Type 0
EndsTooDeep used rest = (rest ≡ []) × (x : File) × AnyFile x used × ((y : File) → ¬ FileWithin y used)

-- some file has these tokens up to the next one, or to its end, which counts as a last token, and each such file is too deep
abbrev pub IsTooDeep : (used rest : List Spelled) → Type 0
IsTooDeep used rest = GoesTooDeep used rest ⊎ EndsTooDeep used rest

-- no file goes on with the next token, however deep; or there is none, and these are no file
abbrev pub IsWrong : (used rest : List Spelled) → Type 0
IsWrong used rest = IsFront AnyFile used rest × (rest ≡ [] → (x : File) → ¬ AnyFile x used)

-- a token stands where the library's import goes on with another one
abbrev pub IsInLibrary : (used rest : List Spelled) → Type 0
IsInLibrary used rest =
    (rest ≡ [] → ⊥) × (path : List (List ℕ)) × (us : List Spelled) × (vs : List Spelled) × (used ≡ us ++ vs) × IsPackage path us
    × (k : Spelled) × (more : List Spelled) × IsLibrary (vs ++ k ∷ more)

-- a rule of this number is broken behind `used`
abbrev pub IsBroken : ℕ → (used rest : List Spelled) → Type 0
IsBroken number used rest =
    ((number ≡ 6) × IsTooDeep used rest) ⊎ (((number ≡ 2) × IsWrong used rest × IsInLibrary used rest) ⊎ ((number ≡ 1) × IsWrong used rest × ¬ IsInLibrary used rest))

-- the tokens of a file of this number, with these bytes, break a rule: at the token from which no file goes on, or at the end of the bytes
abbrev pub IsBrokenAt : ℕ → List ℕ → List TokenOf → Broken → Type 0
IsBrokenAt file bytes tokens broken =
    (number : ℕ) × (used : List Spelled) × (rest : List Spelled) × (behind bytes tokens 0 ≡ used ++ rest) × Begins FileWithin used × IsBroken number used rest
    × (broken ≡ record { rule = rule number; span = place file bytes (drop (length used) tokens) })

-- this is the tree of a file with these bytes and tokens
abbrev pub IsTree : List ℕ → List TokenOf → File → Type 0
IsTree bytes tokens x = IsFile (Some 64) (feeds_from 0 bytes) x (behind bytes tokens 0)

-- the tokens are those of a file, and its tree breaks this rule first
abbrev pub IsBrokenTree : List ℕ → List TokenOf → Broken → Type 0
IsBrokenTree bytes tokens broken = (x : File) × IsTree bytes tokens x × (first_of (broken_in x) ≡ Some broken)

-- what is answered of a file of this number, with these bytes and tokens: its tree, where it breaks no rule; or the broken rule, and where;
-- or want of memory
abbrev pub Parsed : ℕ → List ℕ → List TokenOf → Result File Fault → Type 0
Parsed file bytes tokens (Ok x) = IsTree bytes tokens x × (broken_in x ≡ [])
Parsed file bytes tokens (Err (fault.Broken broken)) = IsBrokenAt file bytes tokens broken ⊎ IsBrokenTree bytes tokens broken
Parsed file bytes tokens (Err fault.Mem) = Unit {0}
