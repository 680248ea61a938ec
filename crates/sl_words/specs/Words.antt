-- How the words after the program's name are read: the relation that says it.
use Rattle.std.specs.Prelude.{◌≡◌, ◌≢◌, ◌⊎◌, ℕ, ◌-◌, ◌^◌, ◌≤◌, List, [], ◌∷◌, ◌++◌, length, codes}
use Rattle.std.specs.Fmt.{decimal}
use Rattle.std.specs.List.{All, Contains}

-- what the words can ask for
pub data Command : Type 0 where
  -- `run [--turns N] FILE..`: the program in these files is run, in at most so many turns
  Run : (turns : ℕ) (files : List (List ℕ)) → Command
  -- `emit -o NAME FILE..`: the C of the program in these files is written under NAME.c
  Emit : (name : List ℕ) (files : List (List ℕ)) → Command
  -- `check FILE..`: whether these files are accepted is told
  Check : (files : List (List ℕ)) → Command

-- the files that a command reads, in order
abbrev pub files_of : Command → List (List ℕ)
files_of (Run turns files) = files
files_of (Emit name files) = files
files_of (Check files) = files

-- the most files that a command may name
abbrev pub most_files : ℕ
most_files = 255

-- as many files as a command may name
abbrev pub AreEnough : List (List ℕ) → Type 0
AreEnough files = (1 ≤ length files) × (length files ≤ most_files)

-- how many turns a run has where no option says it
abbrev pub default_turns : ℕ
default_turns = 1000000000

-- the most turns that a run may have
abbrev pub most_turns : ℕ
most_turns = 2 ^ 63 - 1

-- the digits of a number of turns
abbrev pub WritesTurns : List ℕ → ℕ → Type 0
WritesTurns digits turns = (digits ≡ decimal turns) × (turns ≤ most_turns)

-- The words of the parts ----------------------------------------------------------------------------------------------

-- a word that names a file among options, or is the value of an option: it isn't empty, and is `-` or doesn't begin with `-`
abbrev pub IsPlainWord : List ℕ → Type 0
IsPlainWord [] = ⊥
IsPlainWord (byte ∷ []) = Unit {0}
IsPlainWord (byte ∷ next ∷ bytes) = byte ≢ 45

-- what may stand right behind an option of one letter in the same word: it isn't empty, and doesn't begin with `=`
abbrev pub IsJoined : List ℕ → Type 0
IsJoined [] = ⊥
IsJoined (byte ∷ bytes) = byte ≢ 61

-- the options that have a value
abbrev pub value_options : List (List ℕ)
value_options = codes "-o" ∷ codes "--turns" ∷ []

-- an option that is `-` and one letter
abbrev pub IsShort : List ℕ → Type 0
IsShort option = (letter : ℕ) × (option ≡ 45 ∷ letter ∷ [])

-- what one or two words give
pub data Part : Type 0 where
  -- the name of a file
  File : (name : List ℕ) → Part
  -- an option with its value
  Given : (option value : List ℕ) → Part

-- the words that give an option this value: `--turns N`, `--turns=N`, and `-oNAME` where the option has one letter
abbrev pub GivesValue : (option value : List ℕ) → List (List ℕ) → Type 0
GivesValue option value words =
    ((words ≡ option ∷ value ∷ []) × IsPlainWord value)
    ⊎ (words ≡ (option ++ codes "=" ++ value) ∷ [])
    ⊎ ((words ≡ (option ++ value) ∷ []) × IsShort option × IsJoined value)

-- the words of a part
abbrev pub IsPart : Part → List (List ℕ) → Type 0
IsPart (File name) words = (words ≡ name ∷ []) × IsPlainWord name
IsPart (Given option value) words = Contains value_options option × GivesValue option value words

-- the words are those of the parts, one after another
abbrev pub AreParts : List Part → List (List ℕ) → Type 0
AreParts [] words = words ≡ []
AreParts (part ∷ parts) words = (own : List (List ℕ)) × (rest : List (List ℕ)) × (words ≡ own ++ rest) × IsPart part own × AreParts parts rest

-- the words are those of the parts, and behind them there may stand `--` and more names of files, which aren't empty
abbrev pub HasParts : List Part → List (List ℕ) → List (List ℕ) → Type 0
HasParts parts more words =
    ((more ≡ []) × AreParts parts words)
    ⊎ ((front : List (List ℕ)) × (words ≡ front ++ codes "--" ∷ more) × AreParts parts front × All (λ name. name ≢ []) more)

-- the files that parts name, in order
abbrev pub files_in : List Part → List (List ℕ)
files_in [] = []
files_in (File name ∷ parts) = name ∷ files_in parts
files_in (Given option value ∷ parts) = files_in parts

-- the options of parts with their values, in order
abbrev pub options_in : List Part → List (List ℕ × List ℕ)
options_in [] = []
options_in (File name ∷ parts) = options_in parts
options_in (Given option value ∷ parts) = (option, value) ∷ options_in parts

-- What the words ask for ----------------------------------------------------------------------------------------------

-- words behind a command that give these options and name these files
abbrev pub Gives : List (List ℕ × List ℕ) → List (List ℕ) → List (List ℕ) → Type 0
Gives options files words =
    (parts : List Part) × (more : List (List ℕ))
    × HasParts parts more words × (options_in parts ≡ options) × (files_in parts ++ more ≡ files)

-- the options of a run that has so many turns: none, or one `--turns N`
abbrev pub AreTurns : ℕ → List (List ℕ × List ℕ) → Type 0
AreTurns turns options =
    ((options ≡ []) × (turns ≡ default_turns))
    ⊎ ((digits : List ℕ) × (options ≡ (codes "--turns", digits) ∷ []) × WritesTurns digits turns)

-- the words ask for this command: `run` has 1 to 255 FILEs and at most one `--turns`, whose N is 0 to 2 ^ 63 - 1, `emit` has as many
-- and one `-o`, whose NAME isn't empty, and `check` has as many and no option
abbrev pub Reads : List (List ℕ) → Command → Type 0
Reads words (Run turns files) =
    (rest : List (List ℕ)) × (words ≡ codes "run" ∷ rest) × AreEnough files × (options : List (List ℕ × List ℕ)) × AreTurns turns options × Gives options files rest
Reads words (Emit name files) =
    (rest : List (List ℕ)) × (words ≡ codes "emit" ∷ rest) × (name ≢ []) × AreEnough files × Gives ((codes "-o", name) ∷ []) files rest
Reads words (Check files) = (rest : List (List ℕ)) × (words ≡ codes "check" ∷ rest) × AreEnough files × Gives [] files rest

-- the words are those of no command
abbrev pub HasNoReading : List (List ℕ) → Type 0
HasNoReading words = (command : Command) → ¬ Reads words command

-- the first word isn't that of a command
abbrev pub BeginsNoCommand : List (List ℕ) → Type 0
BeginsNoCommand [] = Unit {0}
BeginsNoCommand (word ∷ words) = (word ≢ codes "run") × (word ≢ codes "emit") × (word ≢ codes "check")
