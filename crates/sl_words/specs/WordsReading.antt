-- How the command that words ask for is found, word by word.
use Rattle.std.specs.Prelude.{ℕ, List, [], ◌∷◌, ◌++◌, Bool, true, false, ◌==◌, not, ◌&&◌, nat_le, if◌then◌else◌, Option, Some, None, option_map, map, drop, length, codes}
use Rattle.std.specs.Borrow.{Bor}
use Rattle.std.specs.List.{starts_with}
use Rattle.std.specs.Option.{option_and_then, option_to_list}
use Rattle.std.specs.Str.{bytes_eq}
use Rattle.std.specs.Str.Parse.{digits_value}
use Rattle.std.specs.Fmt.{decimal}
use Rattle.sl_words.specs.declared.command.Command as declared
use Rattle.sl_words.specs.declared.command.Command.TheVariants as variant
use Rattle.sl_words.specs.declared.found.Found as found
use Rattle.sl_words.specs.declared.kinds.Given as given
use Rattle.sl_words.specs.declared.kinds.Kind as kind
use Rattle.sl_words.specs.declared.kinds.Kind.TheVariants as of_kind
use Rattle.sl_words.specs.declared.kinds.Valued.{Valued}
use Rattle.sl_words.specs.declared.kinds.Valued.TheVariants.{Output, Turns}
use Rattle.sl_words.specs.declared.found.Place.{Place}
use Rattle.sl_words.specs.declared.found.Place.TheVariants.{Among, BehindOption, BehindDashes}
use Rattle.sl_words.specs.Words.{Command, Run, Emit, Check, most_files, default_turns, most_turns}

-- How a command is found ----------------------------------------------------------------------------------------------

-- whether a word is plain
abbrev pub is_plain : List ℕ → Bool
is_plain [] = false
is_plain (byte ∷ []) = true
is_plain (byte ∷ next ∷ bytes) = not (byte == 45)

-- what a word is that stands neither behind an option that waits for its value nor behind `--`
pub data Kind : Type 0 where
  -- it names a file
  IsFile : Kind
  -- it is this option, which waits for its value
  Waits : (option : Valued) → Kind
  -- it gives this option this value
  HasValue : (option : Valued) (value : List ℕ) → Kind
  -- it is `--`
  IsDashes : Kind
  -- no command has it
  IsOther : Kind

-- the kind of a word that begins with `-o`, by what stands behind that
abbrev pub output_kind : List ℕ → Kind
output_kind [] = Waits Output
output_kind (byte ∷ bytes) = HasValue Output (if byte == 61 then bytes else byte ∷ bytes)

-- the kind of a word that begins with `--turns`, by what stands behind that
abbrev pub turns_kind : List ℕ → Kind
turns_kind [] = Waits Turns
turns_kind (byte ∷ bytes) = if byte == 61 then HasValue Turns bytes else IsOther

-- the kind of a word
abbrev pub kind_of : List ℕ → Kind
kind_of word =
    if is_plain word then IsFile else
    if bytes_eq word (codes "--") then IsDashes else
    if starts_with ◌==◌ word (codes "-o") then output_kind (drop 2 word) else
    if starts_with ◌==◌ word (codes "--turns") then turns_kind (drop 7 word) else IsOther

-- the options and the files of some words
pub record Gathered : Type 0 where
  pub options : List (List ℕ × List ℕ)
  pub files : List (List ℕ)

-- no option and no file
abbrev pub nothing : Gathered
nothing = record { options = []; files = [] }

-- one more file, at the front
abbrev pub with_file : List ℕ → Gathered → Gathered
with_file file gathered = record gathered { files = file ∷ gathered.files }

-- the spelling of an option
abbrev pub spelled : Valued → List ℕ
spelled Output = codes "-o"
spelled Turns = codes "--turns"

-- one more option with its value, at the front
abbrev pub with_option : Valued → List ℕ → Gathered → Gathered
with_option option value gathered = record gathered { options = (spelled option, value) ∷ gathered.options }

-- what words give that stand at this place behind a command, if they can stand there
abbrev pub gathered : Place → List (List ℕ) → Option Gathered
gathered Among [] = Some nothing
gathered Among (word ∷ words) =
    elim (kind_of word) [
      | IsFile ↦ option_map (with_file word) (gathered Among words)
      | Waits option ↦ gathered (BehindOption option) words
      | HasValue option value ↦ option_map (with_option option value) (gathered Among words)
      | IsDashes ↦ gathered BehindDashes words
      | IsOther ↦ None
    ]
gathered (BehindOption option) [] = None
gathered (BehindOption option) (word ∷ words) = if is_plain word then option_map (with_option option word) (gathered Among words) else None
gathered BehindDashes [] = Some nothing
gathered BehindDashes ([] ∷ words) = None
gathered BehindDashes ((byte ∷ bytes) ∷ words) = option_map (with_file (byte ∷ bytes)) (gathered BehindDashes words)

-- whether a command may name so many files
abbrev pub are_enough : ℕ → Bool
are_enough files = nat_le 1 files && nat_le files most_files

-- the number of turns that these digits write, if they do
unfoldable pub turns_of : List ℕ → Option ℕ
turns_of digits =
    let turns = digits_value 10 digits
    in if bytes_eq digits (decimal turns) && nat_le turns most_turns then Some turns else None

-- the turns of a run with these options, if it can have them
abbrev pub turns_given : List (List ℕ × List ℕ) → Option ℕ
turns_given [] = Some default_turns
turns_given (option ∷ []) = if bytes_eq option.0 (codes "--turns") then turns_of option.1 else None
turns_given (option ∷ other ∷ options) = None

-- `run` of these files with these options
abbrev pub run_given : List (List ℕ × List ℕ) → List (List ℕ) → Option Command
run_given options files = option_and_then (λ turns. if are_enough (length files) then Some (Run turns files) else None) (turns_given options)

-- `emit` of these files under the value of an option, if that is `-o` and the value isn't empty
abbrev pub emit_under : (option name : List ℕ) → List (List ℕ) → Option Command
emit_under option [] files = None
emit_under option (byte ∷ bytes) files = if bytes_eq option (codes "-o") && are_enough (length files) then Some (Emit (byte ∷ bytes) files) else None

-- `emit` of these files under the value of the one option
abbrev pub emit_given : List (List ℕ × List ℕ) → List (List ℕ) → Option Command
emit_given [] files = None
emit_given (option ∷ []) files = emit_under option.0 option.1 files
emit_given (option ∷ other ∷ options) files = None

-- `check` of these files, where there is no option
abbrev pub check_given : List (List ℕ × List ℕ) → List (List ℕ) → Option Command
check_given [] files = if are_enough (length files) then Some (Check files) else None
check_given (option ∷ options) files = None

-- the command of the words behind `run`
abbrev pub run_words : List (List ℕ) → Option Command
run_words words = option_and_then (λ found. run_given found.options found.files) (gathered Among words)

-- the command of the words behind `emit`
abbrev pub emit_words : List (List ℕ) → Option Command
emit_words words = option_and_then (λ found. emit_given found.options found.files) (gathered Among words)

-- the command of the words behind `check`
abbrev pub check_words : List (List ℕ) → Option Command
check_words words = option_and_then (λ found. check_given found.options found.files) (gathered Among words)

-- the command that words ask for. That it is the one that `Reads` allows is `command_of_reading` and `reading_of_command` of
-- proofs/Reading.antt
abbrev pub command_of : List (List ℕ) → Option Command
command_of [] = None
command_of (word ∷ words) =
    if bytes_eq word (codes "run") then run_words words
    else if bytes_eq word (codes "emit") then emit_words words
    else if bytes_eq word (codes "check") then check_words words
    else None

-- How the code finds it -----------------------------------------------------------------------------------------------

-- names of files as the code has them
abbrev pub names_seen : List (Bor (List ℕ)) → List (List ℕ)
names_seen names = map (λ name. name.now) names

-- the command as the code has it
abbrev pub command_seen : declared.Command → Command
command_seen (variant.Run turns files) = Run turns (names_seen files)
command_seen (variant.Emit name files) = Emit name.now (names_seen files)
command_seen (variant.Check files) = Check (names_seen files)

-- the kind of a word as the code has it
abbrev pub kind_seen : kind.Kind → Kind
kind_seen of_kind.File = IsFile
kind_seen (of_kind.Waits option) = Waits option
kind_seen (of_kind.Value option value) = HasValue option value.now
kind_seen of_kind.Dashes = IsDashes
kind_seen of_kind.Other = IsOther

-- the options as the code has them
abbrev pub options_seen : Option given.Given → List (List ℕ × List ℕ)
options_seen given = map (λ given. (spelled given.option, given.value.now)) (option_to_list given)

-- what was found so far as the code has it
abbrev pub found_seen : found.Found → Gathered
found_seen found = record {
  options = options_seen found.given;
  files = names_seen found.files;
}

-- options and files, where there is at most one option
abbrev pub sole : List (List ℕ × List ℕ) → List (List ℕ) → Option Gathered
sole (option ∷ other ∷ options) files = None
sole options files = Some (record { options = options; files = files })

-- what was found before, together with what is found behind it, where there is at most one option
abbrev pub together : Gathered → Option Gathered → Option Gathered
together before behind = option_and_then (λ gathered. sole (before.options ++ gathered.options) (before.files ++ gathered.files)) behind

-- what was found, together with what the words behind it give, where there is at most one option
abbrev pub read_on : found.Found → List (List ℕ) → Option Gathered
read_on found words = together (found_seen found) (gathered found.place words)
