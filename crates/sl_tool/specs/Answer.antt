-- The tool as one function: what a call answers and leaves where nothing fails and memory is enough.
use Rattle.std.specs.Prelude.{ℕ, ℤ, pos, negsuc, ◌≤◌, List, [], ◌++◌, Option, Some, None, Result, Ok, Err, nat_le, ◌==◌, if◌then◌else◌, codes}
use Rattle.std.specs.Str.{bytes_eq}
use Rattle.sl_outside.specs.Folder.{Contents}
use Rattle.sl_run.specs.Run.{Ending, Done, Halt, TurnsSpent, StackSpent, Stuck}
use Rattle.sl_run.specs.Outcome.{Outcome, printed}
use Rattle.sl_tool.specs.declared.status.Status.{Status}
use Rattle.sl_tool.specs.declared.status.Status.TheVariants as status
use Rattle.sl_plain.specs.declared.program.Plain.{Plain}
use Rattle.sl_text.specs.declared.fault.Broken.{Broken}
use Rattle.sl_text.specs.Places.{line_of, column_of}
use Rattle.sl_tool.specs.SourceFiles.{SourceFile, AreSources, Verdict, Breaks, Trees, Judged, sources_of, program_of}
use Rattle.sl_plain.specs.Means.{plain_run}
use Rattle.sl_tool.specs.Written.{written}
use Rattle.sl_words.specs.Words.{Command, Run, Emit, Check, files_of, Reads}
use Rattle.sl_words.specs.WordsReading.{command_of}
use Rattle.sl_tool.specs.Texts.{emitted_line, accepted_line, usage_line, broken_line, no_file_line, file_name, halt_line, turns_spent_line, stack_spent_line, exit_value_line, not_built_line}

-- the exit status of the process
abbrev pub code_of : Status → ℕ
code_of (status.Exit value) = value
code_of status.Usage = 64
code_of status.Broken = 65
code_of status.Halted = 66
code_of status.TurnsSpent = 67
code_of status.StackSpent = 68
code_of status.ExitValue = 69
code_of status.NotC = 70
code_of status.Stuck = 71
code_of status.NoFile = 72
code_of status.FolderFault = 73
code_of status.InputFault = 74
code_of status.SinkFault = 75
code_of status.Memory = 76
code_of status.NotBuilt = 77

-- the status that the exit status of a process tells
abbrev pub status_of : ℕ → Option Status
status_of code =
    if nat_le code 63 then Some (status.Exit code)
    else if code == 64 then Some status.Usage
    else if code == 65 then Some status.Broken
    else if code == 66 then Some status.Halted
    else if code == 67 then Some status.TurnsSpent
    else if code == 68 then Some status.StackSpent
    else if code == 69 then Some status.ExitValue
    else if code == 70 then Some status.NotC
    else if code == 71 then Some status.Stuck
    else if code == 72 then Some status.NoFile
    else if code == 73 then Some status.FolderFault
    else if code == 74 then Some status.InputFault
    else if code == 75 then Some status.SinkFault
    else if code == 76 then Some status.Memory
    else if code == 77 then Some status.NotBuilt
    else None

-- an exit value of a status is 0 to 63
abbrev pub HasExitValue : Status → Type 0
HasExitValue (status.Exit value) = value ≤ 63
HasExitValue other = Unit {0}

-- a call's status, the files after it, the bytes that it put on `out` and on `note`, and the rest of the input
pub record Answer : Type 0 where
  pub status : Status
  pub files : Contents
  pub out : List ℕ
  pub note : List ℕ
  pub rest : List ℕ

-- the status of an exit value: 0 to 63 are exit values of the tool
abbrev pub exit_status : ℤ → Status
exit_status (pos value) = if nat_le value 63 then status.Exit value else status.ExitValue
exit_status (negsuc below) = status.ExitValue

-- the status of a run that ended so
abbrev pub run_status : Ending → Status
run_status (Done value) = exit_status value
run_status (Halt kind file line) = status.Halted
run_status TurnsSpent = status.TurnsSpent
run_status StackSpent = status.StackSpent
run_status (Stuck function) = status.Stuck

-- the line of an exit value outside 0 to 63
abbrev pub exit_line : ℤ → List ℕ
exit_line (pos value) = if nat_le value 63 then [] else exit_value_line (pos value)
exit_line (negsuc below) = exit_value_line (negsuc below)

-- the line of a run of these files that ended so. No program of the tool gets stuck
abbrev pub run_line : List (List ℕ) → Ending → List ℕ
run_line names (Done value) = exit_line value
run_line names (Halt kind file line) = halt_line kind (file_name names file) line
run_line names TurnsSpent = turns_spent_line
run_line names StackSpent = stack_spent_line
run_line names (Stuck function) = []

-- a command that is rejected puts its line on `note`, puts nothing on `out` and takes nothing of the input
abbrev pub rejected : Status → List ℕ → Contents → List ℕ → Answer
rejected status line files input = record { status = status; files = files; out = []; note = line; rest = input }

-- a run of these files that ended so
abbrev pub ran : List (List ℕ) → Outcome → Contents → Answer
ran names run files = record { status = run_status run.ending; files = files; out = printed run.events; note = run_line names run.ending; rest = run.rest }

-- the name under which C is written
abbrev pub c_name : List ℕ → List ℕ
c_name name = name ++ codes ".c"

-- the files with these bytes under a name
abbrev pub with_file : Contents → List ℕ → List ℕ → Contents
with_file files name bytes = λ other. if bytes_eq other name then Some bytes else files other

-- C that was written
abbrev pub emitted : List ℕ → List ℕ → Contents → List ℕ → Answer
emitted name text files input = record { status = status.Exit 0; files = with_file files (c_name name) text; out = emitted_line (c_name name) text; note = []; rest = input }

-- files that were accepted
abbrev pub accepted : Contents → List ℕ → Answer
accepted files input = record { status = status.Exit 0; files = files; out = accepted_line; note = []; rest = input }

-- the line of a source that breaks a rule
abbrev pub line_of_broken : SourceFile → Broken → List ℕ
line_of_broken source broken = broken_line source.name (line_of source.bytes broken.span.from) (column_of source.bytes broken.span.from) broken.rule

-- what a command does with a plain program
abbrev pub answer_to_plain : Command → Plain → Contents → List ℕ → Answer
answer_to_plain (Run turns names) program files input = ran names (plain_run program input turns) files
answer_to_plain (Emit name names) program files input = emitted name (written program) files input
answer_to_plain (Check names) program files input = accepted files input

-- a command's answer to trees: the program of one plain tree, or something that isn't built yet
abbrev pub answer_to_program : Command → Option Plain → Contents → List ℕ → Answer
answer_to_program command None files input = rejected status.NotBuilt not_built_line files input
answer_to_program command (Some program) files input = answer_to_plain command program files input

-- a command's answer to what comes of reading its sources
abbrev pub answer_to_verdict : Command → Verdict → Contents → List ℕ → Answer
answer_to_verdict command (Breaks source broken) files input = rejected status.Broken (line_of_broken source broken) files input
answer_to_verdict command (Trees trees) files input = answer_to_program command (program_of trees) files input

-- a command's answer to the sources that it names, from which this comes, or to the first name that isn't there
abbrev pub answer_to_files : Command → Result (List SourceFile) (List ℕ) → Verdict → Contents → List ℕ → Answer
answer_to_files command (Err name) verdict files input = rejected status.NoFile (no_file_line name) files input
answer_to_files command (Ok sources) verdict files input = answer_to_verdict command verdict files input

-- the answer to a command, or to words that have no reading
abbrev pub answer_to : Option Command → Contents → Verdict → List ℕ → Answer
answer_to None files verdict input = rejected status.Usage usage_line files input
answer_to (Some command) files verdict input = answer_to_files command (sources_of files (files_of command)) verdict files input

-- the words ask for these sources, which are all there
abbrev pub AsksFor : List (List ℕ) → Contents → List SourceFile → Type 0
AsksFor words files sources = (command : Command) × Reads words command × AreSources files (files_of command) sources

-- this comes of reading the sources that the words ask for, if they ask for sources that are all there
abbrev pub IsVerdict : List (List ℕ) → Contents → Verdict → Type 0
IsVerdict words files verdict = (sources : List SourceFile) → AsksFor words files sources → Judged sources verdict

-- the answer to these words, over these files and this input, where this comes of reading the files
unfoldable pub answer_of : List (List ℕ) → Contents → Verdict → List ℕ → Answer
answer_of words files verdict input = answer_to (command_of words) files verdict input
