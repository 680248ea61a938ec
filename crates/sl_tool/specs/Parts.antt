-- What the private functions of the crate owe.
use Rattle.std.specs.Prelude.{◌≡◌, ◌≢◌, ◌⊎◌, ℕ, List, [], ◌∷◌, ◌++◌, length, map, Option, Some, None, IfSome, Result, Ok, Err, Bool, true, false}
use Rattle.sl_outside.specs.declared.folder.Refused.{Refused}
use Rattle.sl_outside.specs.declared.folder.Refused.TheVariants as refused
use Rattle.sl_outside.specs.declared.source.Failed.{Failed}
use Rattle.sl_outside.specs.Folder.{Contents, GoesOn, FolderState}
use Rattle.sl_outside.specs.Source.{SourceState}
use Rattle.sl_outside.specs.Sink.{SinkState, Put, Tried, Prints, PrintsUpTo}
use Rattle.c_tree.specs.Text.{CText}
use Rattle.c_write.specs.Lined.{lined}
use Rattle.sl_tool.specs.declared.stop.Stop.{Stop}
use Rattle.sl_tool.specs.declared.stop.Stop.TheVariants as stop
use Rattle.sl_tool.specs.declared.source.SourceFile as found
use Rattle.sl_tool.specs.declared.status.Status.{Status}
use Rattle.sl_tool.specs.declared.status.Status.TheVariants.{Exit, Broken, NoFile, FolderFault, InputFault, SinkFault, Memory, NotBuilt}
use Rattle.sl_plain.specs.declared.program.Plain.{Plain}
use Rattle.sl_text.specs.declared.rule.Rule.{Rule}
use Rattle.sl_text.specs.declared.place.Span.{Span}
use Rattle.sl_text.specs.declared.fault.Broken.{Broken as BrokenRule}
use Rattle.sl_text.specs.Places.{line_of, column_of}
use Rattle.sl_tree.specs.declared.tree.File.{File}
use Rattle.sl_tool.specs.Accepting.{HasTree, IsFirstBroken}
use Rattle.sl_tool.specs.SourceFiles.{SourceFile, names_of, AreSources, only_file, HaveTrees, IsFirstBrokenOf, HaveProgram}
use Rattle.sl_run.specs.Run.{Stuck, Event, Puts, Asks}
use Rattle.sl_tool.specs.Written.{tree_of, written, IsTreeOf}
use Rattle.c_machine.specs.declared.ending.End.{End}
use Rattle.c_machine.specs.declared.ending.StepFault.{StepFault}
use Rattle.c_machine.specs.declared.ending.StepFault.TheVariants as fault
use Rattle.c_machine.specs.Stepped.{ending_of}
use Rattle.c_tree.specs.declared.tree.CFile.{CFile}
use Rattle.c_tree.specs.Meaning.{c_run}
use Rattle.sl_run.specs.Outcome.{Outcome, printed, BeginsWith}
use Rattle.sl_plain.specs.Means.{plain_run}
use Rattle.sl_tool.specs.Answer.{c_name, run_status, run_line}
use Rattle.sl_tool.specs.Promise.{more_calls, reads_of, AskedUpTo, AskedForSome, AskedAndWrote}
use Rattle.c_machine.specs.Outside.{AsksInput}
use Rattle.sl_tool.specs.Outside.{IsTold}
use Rattle.sl_tool.specs.Texts.{emitted_line, accepted_line, broken_line, no_file_line, folder_fault_line, input_fault_line, output_fault_line, no_memory_line, not_built_line}

-- a line was put, or it was refused, and the line that says so was tried
abbrev pub Tells : List ℕ → Status → SinkState → SinkState → Status → Type 0
Tells line meant before after status =
    (Put line before after (Ok tt) × (status ≡ meant))
    ⊎ ((between : SinkState) × Put line before between (Err (record {})) × Tried output_fault_line between after × (status ≡ SinkFault))

-- whether a command stopped for a fault of the folder
abbrev pub is_folder_fault : {A : Type 0} → Result A Stop → Bool
is_folder_fault (Err stop.Folder) = true
is_folder_fault other = false

-- sources as the code has them
abbrev pub source_seen : found.SourceFile → SourceFile
source_seen source = record { name = source.name.now; bytes = source.bytes }

abbrev pub sources_seen : List found.SourceFile → List SourceFile
sources_seen sources = map source_seen sources

-- a broken rule has this line and this column among these bytes
pub record StandsAt (bytes : List ℕ) (broken : BrokenRule) (line column : ℕ) : Type 0 where
  pub line_is : line ≡ line_of bytes broken.span.from
  pub column_is : column ≡ column_of bytes broken.span.from

-- a source has this name, and this is the rule that it breaks first, at this line and column
pub record BreaksAt (source : SourceFile) (name : List ℕ) (rule : Rule) (line column : ℕ) : Type 0 where
  pub span : Span
  pub named : source.name ≡ name
  pub first : IsFirstBroken only_file source.bytes (record { rule = rule; span = span })
  pub stands : StandsAt source.bytes (record { rule = rule; span = span }) line column

-- what is found of a source: its tree, or the rule that it breaks first, or want of memory
abbrev pub GivesTree : SourceFile → Result File Stop → Type 0
GivesTree source (Ok tree) = HasTree only_file source.bytes tree
GivesTree source (Err (stop.Broken name rule line column)) = BreaksAt source name.now rule line column
GivesTree source (Err stop.Mem) = Unit {0}
GivesTree source (Err other) = ⊥

-- of the sources, the one with this name is the first that breaks a rule, and this is the rule that it breaks first, at this line and
-- column
pub record FirstBreaksAt (sources : List SourceFile) (name : List ℕ) (rule : Rule) (line column : ℕ) : Type 0 where
  pub bytes : List ℕ
  pub span : Span
  pub first : IsFirstBrokenOf sources (record { name = name; bytes = bytes }) (record { rule = rule; span = span })
  pub stands : StandsAt bytes (record { rule = rule; span = span }) line column

-- why sources have no program: one of them breaks a rule, or memory ran out
abbrev pub GivesNone : List SourceFile → Stop → Type 0
GivesNone sources (stop.Broken name rule line column) = FirstBreaksAt sources name.now rule line column
GivesNone sources stop.Mem = Unit {0}
GivesNone sources other = ⊥

-- what is found of sources: that they have trees
abbrev pub GivesTrees : List SourceFile → Result (Unit {0}) Stop → Type 0
GivesTrees sources (Ok done) = (trees : List File) × HaveTrees sources trees
GivesTrees sources (Err stop) = GivesNone sources stop

-- and the program of their trees
abbrev pub GivesProgram : List SourceFile → Result (Option Plain) Stop → Type 0
GivesProgram sources (Ok program) = HaveProgram sources program
GivesProgram sources (Err stop) = GivesNone sources stop

-- the folder has this under the name, where it tells
abbrev pub Finds : Option Contents → List ℕ → Option (List ℕ) → Type 0
Finds files name found = IfSome files (λ held. held name ≡ found)

-- the folder was called once for each of these names, and has these sources under them, where it tells
pub record FindsSources (names : List (List ℕ)) (sources : List SourceFile) (before after : FolderState) : Type 0 where
  pub calls : after.calls ≡ more_calls (length names) before.calls
  pub unchanged : after.files ≡ before.files
  pub named : names_of sources ≡ names
  pub told : IfSome before.files (λ held. AreSources held names sources)
  pub log : GoesOn before.log after.log (reads_of sources)

-- the sources have trees, and this is the program of these, if they are one plain tree
pub record FindsAccepted (names : List (List ℕ)) (program : Option Plain) (before after : FolderState) : Type 0 where
  pub sources : List SourceFile
  pub finds : FindsSources names sources before after
  pub have : HaveProgram sources program

-- of the sources, the one with this name is the first that breaks a rule, and this is the rule that it breaks first, at this line and
-- column
pub record FindsBroken (names : List (List ℕ)) (name : List ℕ) (rule : Rule) (line column : ℕ) (before after : FolderState) : Type 0 where
  pub sources : List SourceFile
  pub finds : FindsSources names sources before after
  pub breaks : FirstBreaksAt sources name rule line column

-- the folder was asked for the names up to this one, which isn't there, where it tells
pub record FindsMissing (names : List (List ℕ)) (name : List ℕ) (before after : FolderState) : Type 0 where
  pub asked : AskedUpTo names name (Ok None) before after
  pub missing : Finds before.files name None

-- the folder failed at some name
abbrev pub FailsAtSome : List (List ℕ) → FolderState → FolderState → Type 0
FailsAtSome names before after = (name : List ℕ) × AskedUpTo names name (Err refused.Failed) before after

-- a command stopped before it ran or wrote anything
abbrev pub StopsFor : List (List ℕ) → FolderState → FolderState → Stop → Type 0
StopsFor names before after (stop.NoFile name) = FindsMissing names name.now before after
StopsFor names before after (stop.Broken name rule line column) = FindsBroken names name.now rule line column before after
StopsFor names before after stop.NotBuilt = FindsAccepted names None before after
StopsFor names before after stop.Folder = FailsAtSome names before after
StopsFor names before after stop.Input = ⊥
StopsFor names before after stop.Sink = ⊥
StopsFor names before after stop.Mem = AskedForSome names before after

-- the sources were read, or they weren't
abbrev pub ReadsSources : List (List ℕ) → FolderState → FolderState → Result (List found.SourceFile) Stop → Type 0
ReadsSources names before after (Ok sources) = FindsSources names (sources_seen sources) before after
ReadsSources names before after (Err stop) = StopsFor names before after stop

-- the program in the sources was read, or it wasn't
abbrev pub ReadsProgram : List (List ℕ) → FolderState → FolderState → Result Plain Stop → Type 0
ReadsProgram names before after (Ok program) = FindsAccepted names (Some program) before after
ReadsProgram names before after (Err stop) = StopsFor names before after stop

-- A run on this input was done up to its end, and the source has what the run leaves, where it tells that. Or up to an asking that
-- failed, or to a byte that was refused, or, where memory ran out, up to anything
abbrev pub Ran : (input : List ℕ) → Outcome → SourceState → SourceState → SinkState → SinkState → Result End StepFault → Type 0
Ran input run source source' out out' (Ok end) =
    (ending_of end ≡ run.ending) × Prints (printed run.events) out out' (Ok tt) × AsksInput input run.events source source' (Ok tt) × IfSome source.left (λ _. source'.left ≡ Some run.rest)
Ran input run source source' out out' (Err fault.Input) =
    (events : List Event) × BeginsWith run (events ++ Asks ∷ []) × Prints (printed events) out out' (Ok tt) × AsksInput input events source source' (Err (record {}))
Ran input run source source' out out' (Err fault.Sink) =
    (events : List Event) × (byte : ℕ) × BeginsWith run (events ++ Puts byte ∷ []) × PrintsUpTo (printed events) byte out out' × AsksInput input events source source' (Ok tt)
Ran input run source source' out out' (Err fault.Mem) =
    (events : List Event) × BeginsWith run events × Prints (printed events) out out' (Ok tt) × AsksInput input events source source' (Ok tt)

-- so the run of a tree was done, with no limit of the stack, in at most so many turns, on some input, which is what the source told
abbrev pub RanTree : CFile → (turns : ℕ) → SourceState → SourceState → SinkState → SinkState → Result End StepFault → Type 0
RanTree tree turns source source' out out' result = (input : List ℕ) × IsTold source.left input × Ran input (c_run tree None input turns) source source' out out' result

-- and so that of a program
abbrev pub RanProgram : Plain → (turns : ℕ) → SourceState → SourceState → SinkState → SinkState → Result End StepFault → Type 0
RanProgram program turns source source' out out' result = (input : List ℕ) × IsTold source.left input × Ran input (plain_run program input turns) source source' out out' result

-- how a run ended isn't an undefined case
abbrev pub IsDefined : End → Type 0
IsDefined end = (function : ℕ) → ending_of end ≢ Stuck function

-- A program was run in at most so many turns, or wasn't
abbrev pub RunsFiles : (turns : ℕ) → List (List ℕ) → FolderState → FolderState → SourceState → SourceState → SinkState → SinkState → Result End Stop → Type 0
RunsFiles turns names before after source source' out out' (Ok end) =
    (program : Plain) × FindsAccepted names (Some program) before after × RanProgram program turns source source' out out' (Ok end) × IsDefined end
RunsFiles turns names before after source source' out out' (Err stop.Input) = (program : Plain) × FindsAccepted names (Some program) before after × RanProgram program turns source source' out out' (Err fault.Input)
RunsFiles turns names before after source source' out out' (Err stop.Sink) = (program : Plain) × FindsAccepted names (Some program) before after × RanProgram program turns source source' out out' (Err fault.Sink)
RunsFiles turns names before after source source' out out' (Err stop.Mem) =
    (AskedForSome names before after × (source' ≡ source) × (out' ≡ out))
    ⊎ ((program : Plain) × FindsAccepted names (Some program) before after × RanProgram program turns source source' out out' (Err fault.Mem))
RunsFiles turns names before after source source' out out' (Err stop) = StopsFor names before after stop × (source' ≡ source) × (out' ≡ out)

-- this program was read, and then its C was written, which the folder answered so
pub record WritesProgram (name : List ℕ) (names : List (List ℕ)) (program : Plain) (before after : FolderState) (result : Result (Unit {0}) Refused) : Type 0 where
  pub read : FolderState
  pub finds : FindsAccepted names (Some program) before read
  pub wrote : AskedAndWrote names (c_name name) (written program) result before after
  pub same : wrote.sources ≡ finds.sources

-- some program was read, and then its C was written
abbrev pub WritesC : List ℕ → List (List ℕ) → FolderState → FolderState → Result (Unit {0}) Refused → Type 0
WritesC name names before after result = (program : Plain) × WritesProgram name names program before after result

-- the C was written, it is the text of the program's tree, and the line that tells it was put, which the output answered so
pub record TellsC (name : List ℕ) (names : List (List ℕ)) (before after : FolderState) (out out' : SinkState) (result : Result (Unit {0}) Failed) : Type 0 where
  pub program : Plain
  pub writes : WritesProgram name names program before after (Ok tt)
  pub is_tree : IsTreeOf program (tree_of program)
  pub is_text : CText (written program) (lined (tree_of program))
  pub told : Put (emitted_line (c_name name) (written program)) out out' result

-- the C of a program was written, or it wasn't
abbrev pub EmitsFiles : List ℕ → List (List ℕ) → FolderState → FolderState → SinkState → SinkState → Result (Unit {0}) Stop → Type 0
EmitsFiles name names before after out out' (Ok done) = TellsC name names before after out out' (Ok tt)
EmitsFiles name names before after out out' (Err stop.Sink) = TellsC name names before after out out' (Err (record {}))
EmitsFiles name names before after out out' (Err stop.Folder) = (FailsAtSome names before after ⊎ WritesC name names before after (Err refused.Failed)) × (out' ≡ out)
EmitsFiles name names before after out out' (Err stop.Mem) = (AskedForSome names before after ⊎ WritesC name names before after (Err refused.Mem)) × (out' ≡ out)
EmitsFiles name names before after out out' (Err stop) = StopsFor names before after stop × (out' ≡ out)

-- a program was read, and then the line that tells that it is accepted was put, which the output answered so
pub record TellsAccepted (names : List (List ℕ)) (before after : FolderState) (out out' : SinkState) (result : Result (Unit {0}) Failed) : Type 0 where
  pub program : Plain
  pub finds : FindsAccepted names (Some program) before after
  pub told : Put accepted_line out out' result

-- files were accepted, or weren't
abbrev pub ChecksFiles : List (List ℕ) → FolderState → FolderState → SinkState → SinkState → Result (Unit {0}) Stop → Type 0
ChecksFiles names before after out out' (Ok done) = TellsAccepted names before after out out' (Ok tt)
ChecksFiles names before after out out' (Err stop.Sink) = TellsAccepted names before after out out' (Err (record {}))
ChecksFiles names before after out out' (Err stop) = StopsFor names before after stop × (out' ≡ out)

-- a line was made and told, or memory ran out in making it
abbrev pub MakesAndTells : List ℕ → Status → SinkState → SinkState → Status → Type 0
MakesAndTells line meant before after status = Tells line meant before after status ⊎ (Tried no_memory_line before after × (status ≡ Memory))

-- the line of what stopped a command, with the status that comes of it
abbrev pub TellsStop : Stop → SinkState → SinkState → Status → Type 0
TellsStop (stop.NoFile name) before after status = MakesAndTells (no_file_line name.now) NoFile before after status
TellsStop (stop.Broken name rule line column) before after status = MakesAndTells (broken_line name.now line column rule) Broken before after status
TellsStop stop.NotBuilt before after status = Tried not_built_line before after × (status ≡ NotBuilt)
TellsStop stop.Folder before after status = Tried folder_fault_line before after × (status ≡ FolderFault)
TellsStop stop.Input before after status = Tried input_fault_line before after × (status ≡ InputFault)
TellsStop stop.Sink before after status = Tried output_fault_line before after × (status ≡ SinkFault)
TellsStop stop.Mem before after status = Tried no_memory_line before after × (status ≡ Memory)

-- how a run ended is told, by its status: with an exit value from 0 to 63 nothing is put, and else its line
abbrev pub TellsAs : Status → List ℕ → SinkState → SinkState → Status → Type 0
TellsAs (Exit value) line before after status = (status ≡ Exit value) × (after ≡ before)
TellsAs meant line before after status = MakesAndTells line meant before after status

-- how a run of these files ended is told
abbrev pub TellsEnd : List (List ℕ) → End → SinkState → SinkState → Status → Type 0
TellsEnd names end before after status = TellsAs (run_status (ending_of end)) (run_line names (ending_of end)) before after status
