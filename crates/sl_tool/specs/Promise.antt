-- What a call of `slang` promises. `before` is the outside as the call found it, and `after` as it left it. `files` is what the
-- folder tells that it holds, and `input` what the input tells that it has left. Of a folder or an input that tells nothing, the
-- promise is that it holds of some `files` and some `input`. Of an output that tells nothing of its bytes, nothing is said but
-- its counts of faults and of calls. What is said of `answer_of` stands for the verdict on the files, of which there is one at most.
-- A call that ran out of memory before it had read them all may have found none.
use Rattle.std.specs.Prelude.{◌≡◌, ◌⊎◌, ℕ, ◌+◌, zero, suc, ◌<◌, ◌≤◌, List, [], ◌∷◌, ◌++◌, length, map, Option, Some, None, IfSome, Result, Ok, Err}
use Rattle.sl_outside.specs.declared.folder.Refused.{Refused}
use Rattle.sl_outside.specs.declared.folder.Refused.TheVariants as refused
use Rattle.sl_outside.specs.Counts.{one_more}
use Rattle.sl_outside.specs.Folder.{Contents, FolderCall, ReadCall, WriteCall, GoesOn, ReadGives, WriteGives, FolderState}
use Rattle.c_machine.specs.Outside.{AsksInput}
use Rattle.sl_outside.specs.Sink.{IsPrefix, SinkState, Put, Tried, Prints, PrintsUpTo}
use Rattle.sl_run.specs.Run.{Event, Puts, Asks}
use Rattle.sl_run.specs.Run as ending
use Rattle.sl_run.specs.Outcome.{Outcome, printed, BeginsWith}
use Rattle.c_tree.specs.declared.tree.CFile.{CFile}
use Rattle.c_tree.specs.Text.{CText}
use Rattle.c_tree.specs.Rules.{KeepsRules}
use Rattle.c_tree.specs.Meaning.{c_run}
use Rattle.sl_tool.specs.declared.status.Status.{Status}
use Rattle.sl_tool.specs.declared.status.Status.TheVariants.{Exit, Usage, Broken, Halted, TurnsSpent, StackSpent, ExitValue, NotC, Stuck, NoFile, FolderFault, InputFault, SinkFault, Memory, NotBuilt}
use Rattle.sl_plain.specs.declared.program.Plain.{Plain}
use Rattle.sl_text.specs.declared.fault.Broken.{Broken as BrokenRule}
use Rattle.sl_tool.specs.SourceFiles.{SourceFile, names_of, AreSources, IsFirstMissing, IsFirstBrokenOf, Verdict, HaveProgram}
use Rattle.sl_plain.specs.Means.{plain_run}
use Rattle.sl_tool.specs.Written.{written}
use Rattle.sl_words.specs.Words.{Command, Run, Emit, Check, files_of, Reads, HasNoReading, BeginsNoCommand}
use Rattle.sl_tool.specs.Texts.{emitted_line, accepted_line, usage_line, no_file_line, folder_fault_line, input_fault_line, output_fault_line, no_memory_line, not_built_line}
use Rattle.sl_tool.specs.Answer.{Answer, AsksFor, IsVerdict, answer_of, line_of_broken, run_status, run_line, c_name, with_file}
use Rattle.sl_tool.specs.Outside.{Outside, IsTold, FolderRose, InputRose, OutRose, NoteRose, NothingFailed}

-- it is this status, or `Memory`, which may come at any time
abbrev pub IsUnlessMemory : Status → Status → Type 0
IsUnlessMemory status meant = (status ≡ meant) ⊎ (status ≡ Memory)

-- the files have sources under these names, which have trees, and these are one plain tree with this program
abbrev pub HoldsPlain : Contents → List (List ℕ) → Plain → Type 0
HoldsPlain files names program = (sources : List SourceFile) × AreSources files names sources × HaveProgram sources (Some program)

-- Complete ------------------------------------------------------------------------------------------------------------

-- a call did what an answer says
pub record Did (answer : Answer) (before after : Outside) (status : Status) : Type 0 where
  pub same_status : status ≡ answer.status
  pub files : IfSome before.folder.files (λ _. after.folder.files ≡ Some answer.files)
  pub out : IfSome before.out.held (λ held. after.out.held ≡ Some (held ++ answer.out))
  pub note : IfSome before.note.held (λ held. after.note.held ≡ Some (held ++ answer.note))
  pub rest : IfSome before.input.left (λ _. after.input.left ≡ Some answer.rest)

-- where nothing failed, the call did what `answer_of` says, or its status is `Memory`
abbrev pub Complete : List (List ℕ) → Contents → List ℕ → Outside → Outside → Status → Type 0
Complete words files input before after status =
    (verdict : Verdict) → IsVerdict words files verdict → NothingFailed before after → Did (answer_of words files verdict input) before after status ⊎ (status ≡ Memory)

-- 0 to 63, 64 to 67, 69 and 72: the statuses whose line, if they have one, was put whole
abbrev pub IsFinal : Status → Type 0
IsFinal (Exit value) = Unit {0}
IsFinal Usage = Unit {0}
IsFinal Broken = Unit {0}
IsFinal Halted = Unit {0}
IsFinal TurnsSpent = Unit {0}
IsFinal ExitValue = Unit {0}
IsFinal NoFile = Unit {0}
IsFinal other = ⊥

-- with such a status the call did what `answer_of` says, whatever the counts
abbrev pub Finished : List (List ℕ) → Contents → List ℕ → Outside → Outside → Status → Type 0
Finished words files input before after status =
    (verdict : Verdict) → IsVerdict words files verdict → IsFinal status → Did (answer_of words files verdict input) before after status

-- Run -----------------------------------------------------------------------------------------------------------------

-- a call printed, read and ended as a run
pub record RanAs (run : Outcome) (before after : Outside) (status : Status) : Type 0 where
  pub ended : status ≡ run_status run.ending
  pub printed_bytes : IfSome before.out.held (λ held. after.out.held ≡ Some (held ++ printed run.events))
  pub rest : IfSome before.input.left (λ _. after.input.left ≡ Some run.rest)

-- where nothing failed, `run` of one plain tree prints, reads and ends as the program does, or its status is `Memory`
abbrev pub Runs : List (List ℕ) → Contents → List ℕ → Outside → Outside → Status → Type 0
Runs words files input before after status =
    (turns : ℕ) (names : List (List ℕ)) (program : Plain) → Reads words (Run turns names) → HoldsPlain files names program →
    NothingFailed before after → RanAs (plain_run program input turns) before after status ⊎ (status ≡ Memory)

-- Bytes written -------------------------------------------------------------------------------------------------------

-- The text is C that means the program: it is the text of a tree that keeps the rules of the subset, and on every input, in every
-- number of turns and with no limit of live bytes, what that tree prints, where it asks for input, what it leaves of the input,
-- how it ends and the turns it leaves are those of the program. With no turn both do nothing
pub record IsCOf (program : Plain) (text : List ℕ) : Type 0 where
  pub tree : CFile
  pub text_of : CText text tree
  pub rules : KeepsRules tree
  pub means : (input : List ℕ) (turns : ℕ) → c_run tree None input turns ≡ plain_run program input turns
  pub no_turn : (input : List ℕ) → c_run tree None input 0 ≡ record { ending = ending.TurnsSpent; events = []; rest = input; left = 0 }

-- the C of a plain tree was written under a name: where the folder tells its files, that name has just these bytes, and all
-- others have what they had
pub record WroteC (name : List ℕ) (names : List (List ℕ)) (files : Contents) (before after : Outside) : Type 0 where
  pub program : Plain
  pub source : HoldsPlain files names program
  pub folder : IfSome before.folder.files (λ _. after.folder.files ≡ Some (with_file files (c_name name) (written program)))
  pub is_c : IsCOf program (written program)

-- `emit` wrote the C of its file where it ended with 0 to 63, which is then 0, and where it ended by a fault of `out`, which only
-- its line can have met
pub record Emitted (name : List ℕ) (names : List (List ℕ)) (files : Contents) (before after : Outside) (status : Status) : Type 0 where
  pub done : (value : ℕ) → status ≡ Exit value → (value ≡ 0) × WroteC name names files before after
  pub not_told : status ≡ SinkFault → before.out.faults < after.out.faults → WroteC name names files before after

abbrev pub Emits : List (List ℕ) → Contents → Outside → Outside → Status → Type 0
Emits words files before after status =
    (name : List ℕ) (names : List (List ℕ)) → Reads words (Emit name names) → Emitted name names files before after status

-- Causes --------------------------------------------------------------------------------------------------------------

-- the words ask for files of which this one is the first that isn't there
abbrev pub AsksForNoFile : List (List ℕ) → Contents → List ℕ → Type 0
AsksForNoFile words files name = (command : Command) × Reads words command × IsFirstMissing files (files_of command) name

-- the words ask for sources of which this one is the first that breaks a rule, and this is the rule that it breaks first, and where
abbrev pub AsksForBroken : List (List ℕ) → Contents → SourceFile → BrokenRule → Type 0
AsksForBroken words files source broken = (sources : List SourceFile) × AsksFor words files sources × IsFirstBrokenOf sources source broken

-- the words ask for sources that all have trees, which aren't one plain tree
abbrev pub AsksForUnbuilt : List (List ℕ) → Contents → Type 0
AsksForUnbuilt words files = (sources : List SourceFile) × AsksFor words files sources × HaveProgram sources None

-- the status with which a command ends on a plain program: that of the program's run, and 0 for `emit` and `check`
abbrev pub ends_with : Command → Plain → List ℕ → Status
ends_with (Run turns names) program input = run_status (plain_run program input turns).ending
ends_with (Emit name names) program input = Exit 0
ends_with (Check names) program input = Exit 0

-- the words ask for something that ends so
abbrev pub EndsWith : List (List ℕ) → Contents → List ℕ → Status → Type 0
EndsWith words files input status =
    (command : Command) × (program : Plain) × Reads words command × HoldsPlain files (files_of command) program × (ends_with command program input ≡ status)

-- each status comes only with its cause; want of memory needs none
abbrev pub Cause : List (List ℕ) → Contents → List ℕ → Outside → Outside → Status → Type 0
Cause words files input before after (Exit value) = (value ≤ 63) × EndsWith words files input (Exit value)
Cause words files input before after Usage = HasNoReading words
Cause words files input before after NoFile = (name : List ℕ) × AsksForNoFile words files name
Cause words files input before after FolderFault = FolderRose before after
Cause words files input before after SinkFault = OutRose before after ⊎ NoteRose before after
Cause words files input before after Memory = Unit {0}
Cause words files input before after NotBuilt = AsksForUnbuilt words files
Cause words files input before after Broken = (source : SourceFile) × (broken : BrokenRule) × AsksForBroken words files source broken
Cause words files input before after Halted = EndsWith words files input Halted
Cause words files input before after TurnsSpent = EndsWith words files input TurnsSpent
Cause words files input before after ExitValue = EndsWith words files input ExitValue
Cause words files input before after InputFault = InputRose before after
-- the other statuses don't come yet
Cause words files input before after StackSpent = ⊥
Cause words files input before after NotC = ⊥
Cause words files input before after Stuck = ⊥

-- and where its cause stands the status comes, but for want of memory and for a fault on the way. That the first word isn't that of
-- a command takes no memory to see, and neither does the line of 64 to be put
pub record Comes (words : List (List ℕ)) (files : Contents) (input : List ℕ) (before after : Outside) (status : Status) : Type 0 where
  pub usage : HasNoReading words → ¬ NoteRose before after → IsUnlessMemory status Usage
  pub at_once : BeginsNoCommand words → (status ≡ Usage) ⊎ ((status ≡ SinkFault) × NoteRose before after)
  pub no_file : (name : List ℕ) → AsksForNoFile words files name → ¬ FolderRose before after → ¬ NoteRose before after → IsUnlessMemory status NoFile
  pub broken : (source : SourceFile) (broken : BrokenRule) → AsksForBroken words files source broken → ¬ FolderRose before after → ¬ NoteRose before after → IsUnlessMemory status Broken
  pub not_built : AsksForUnbuilt words files → ¬ FolderRose before after → IsUnlessMemory status NotBuilt
  pub ends : (meant : Status) → EndsWith words files input meant → ¬ FolderRose before after → ¬ InputRose before after → ¬ OutRose before after → ¬ NoteRose before after → IsUnlessMemory status meant
  pub exit : (value : ℕ) → EndsWith words files input (Exit value) → ¬ FolderRose before after → ¬ InputRose before after → ¬ OutRose before after → IsUnlessMemory status (Exit value)

-- Faults --------------------------------------------------------------------------------------------------------------

-- Where a count rose, the status shows it: first the folder's, then the input's, then those of the outputs. A fault of `note`
-- alone leaves the statuses whose own line it refused: that of sources that aren't built yet, and `Memory`
pub record HidesNoFault (before after : Outside) (status : Status) : Type 0 where
  pub folder : before.folder.faults < after.folder.faults → status ≡ FolderFault
  pub input : ¬ FolderRose before after → before.input.faults < after.input.faults → status ≡ InputFault
  pub out : ¬ FolderRose before after → ¬ InputRose before after → before.out.faults < after.out.faults → status ≡ SinkFault
  pub note : ¬ FolderRose before after → ¬ InputRose before after → before.note.faults < after.note.faults → IsUnlessMemory status SinkFault ⊎ (status ≡ NotBuilt)

-- Counts of faults never fall. The first fault of the folder, of the input or of `out` is the last call of it; `note` may fail twice,
-- since a line that it refused is followed by that of the fault
pub record CountsGrow (before after : Outside) : Type 0 where
  pub folder : before.folder.faults ≤ after.folder.faults
  pub input : before.input.faults ≤ after.input.faults
  pub out : before.out.faults ≤ after.out.faults
  pub note : before.note.faults ≤ after.note.faults
  pub folder_once : after.folder.faults ≤ before.folder.faults + 1
  pub input_once : after.input.faults ≤ before.input.faults + 1
  pub out_once : after.out.faults ≤ before.out.faults + 1
  pub note_twice : after.note.faults ≤ before.note.faults + 2

-- What stands after a call ---------------------------------------------------------------------------------------------

-- whatever the status, `out` got a prefix of what the answer puts there, and what was taken of the input is a prefix of what
-- the answer takes
pub record GoesNoFurther (answer : Answer) (input : List ℕ) (before after : Outside) : Type 0 where
  pub out : IfSome before.out.held (λ held. (prefix : List ℕ) × IsPrefix prefix answer.out × (after.out.held ≡ Some (held ++ prefix)))
  pub taken : IfSome before.input.left (λ _. (taken : List ℕ) × (more : List ℕ) × (input ≡ taken ++ more ++ answer.rest) × (after.input.left ≡ Some (more ++ answer.rest)))

-- a count after so many more calls
abbrev pub more_calls : ℕ → ℕ → ℕ
more_calls zero calls = calls
more_calls (suc more) calls = more_calls more (one_more calls)

-- the calls that read these sources
abbrev pub reads_of : List SourceFile → List FolderCall
reads_of sources = map (λ source. ReadCall source.name (Ok (Some source.bytes))) sources

-- The folder was called once for each of these names, in order, to read it, and no file changed. `sources` is what was read: the
-- folder's own files, where it tells them, and what it answered, where it tells its calls
pub record AskedAll (names : List (List ℕ)) (before after : FolderState) : Type 0 where
  pub calls : after.calls ≡ more_calls (length names) before.calls
  pub unchanged : after.files ≡ before.files
  pub sources : List SourceFile
  pub named : names_of sources ≡ names
  pub told : IfSome before.files (λ held. AreSources held names sources)
  pub log : GoesOn before.log after.log (reads_of sources)

-- The folder was called once for each of these names up to this one, in order, to read it, and no file changed. `sources` is what was
-- read before this one: the folder's own files, where it tells them, and what it answered, where it tells its calls. So is the answer
pub record AskedUpTo (names : List (List ℕ)) (name : List ℕ) (answer : Result (Option (List ℕ)) Refused) (before after : FolderState) : Type 0 where
  pub earlier : List (List ℕ)
  pub later : List (List ℕ)
  pub order : names ≡ earlier ++ name ∷ later
  pub calls : after.calls ≡ more_calls (suc (length earlier)) before.calls
  pub unchanged : after.files ≡ before.files
  pub sources : List SourceFile
  pub named : names_of sources ≡ earlier
  pub told : IfSome before.files (λ held. AreSources held earlier sources)
  pub answered : ReadGives before.files name answer
  pub log : GoesOn before.log after.log (reads_of sources ++ ReadCall name answer ∷ [])

-- a read that didn't fail
abbrev pub IsNoFault : Result (Option (List ℕ)) Refused → Type 0
IsNoFault (Ok found) = Unit {0}
IsNoFault (Err refused.Failed) = ⊥
IsNoFault (Err refused.Mem) = Unit {0}

-- the folder was called for the names in order, for all of them or up to one, and it didn't fail
abbrev pub AskedForSome : List (List ℕ) → FolderState → FolderState → Type 0
AskedForSome names before after =
    AskedAll names before after ⊎ ((name : List ℕ) × (answer : Result (Option (List ℕ)) Refused) × IsNoFault answer × AskedUpTo names name answer before after)

-- The folder was called once for each of these names, in order, to read it, and then to write these bytes under this name, which
-- it answered so. `sources` is what was read, as in `AskedAll`
pub record AskedAndWrote (names : List (List ℕ)) (name bytes : List ℕ) (result : Result (Unit {0}) Refused) (before after : FolderState) : Type 0 where
  pub calls : after.calls ≡ one_more (more_calls (length names) before.calls)
  pub gives : WriteGives before.files after.files name bytes result
  pub sources : List SourceFile
  pub named : names_of sources ≡ names
  pub told : IfSome before.files (λ held. AreSources held names sources)
  pub log : GoesOn before.log after.log (reads_of sources ++ WriteCall name bytes result ∷ [])

-- the files have sources under these names, and one of them breaks a rule. The first that does is the first that does of what was
-- read, and both break the same rule first
abbrev pub HoldsBroken : Contents → List (List ℕ) → (read : List SourceFile) → Type 0
HoldsBroken files names read =
    (sources : List SourceFile) × (source : SourceFile) × (broken : BrokenRule)
    × AreSources files names sources × IsFirstBrokenOf sources source broken × IsFirstBrokenOf read source broken

-- the names were asked for up to one that isn't there. It is the first of the files that isn't there
abbrev pub ReadMissing : List (List ℕ) → Contents → FolderState → FolderState → Type 0
ReadMissing names files before after = (name : List ℕ) × IsFirstMissing files names name × AskedUpTo names name (Ok None) before after

-- all names were asked for, and what was read breaks a rule
abbrev pub ReadBroken : List (List ℕ) → Contents → FolderState → FolderState → Type 0
ReadBroken names files before after = (asked : AskedAll names before after) × HoldsBroken files names asked.sources

-- all names were asked for, and what was read has trees, which are one plain tree with this program, or aren't one
abbrev pub ReadProgram : List (List ℕ) → Option Plain → FolderState → FolderState → Type 0
ReadProgram names program before after = (asked : AskedAll names before after) × HaveProgram asked.sources program

-- how the names were asked for where the command stopped before it ran or wrote anything, by the status. The folder isn't called
-- where memory runs out in reading the words
abbrev pub Stopped : List (List ℕ) → Contents → Outside → Outside → Status → Type 0
Stopped names files before after Broken = ReadBroken names files before.folder after.folder
Stopped names files before after NotBuilt = ReadProgram names None before.folder after.folder
Stopped names files before after NoFile = ReadMissing names files before.folder after.folder
Stopped names files before after FolderFault = (name : List ℕ) × AskedUpTo names name (Err refused.Failed) before.folder after.folder
Stopped names files before after SinkFault =
    NoteRose before after
    × (ReadBroken names files before.folder after.folder ⊎ ReadMissing names files before.folder after.folder)
Stopped names files before after Memory = (after.folder ≡ before.folder) ⊎ AskedForSome names before.folder after.folder
Stopped names files before after other = ⊥

-- these events were done: each byte was put by a call of its own, and each asking was one call of the input, and none failed
pub record Done (input : List ℕ) (events : List Event) (before after : Outside) : Type 0 where
  pub put : Prints (printed events) before.out after.out (Ok tt)
  pub got : AsksInput input events before.input after.input (Ok tt)

-- How far a run went, by the status. To its end, and then what it did was all done. Or up to an asking that failed: what stands
-- before that in the run was done. Or up to a byte that `out` refused: what stands before that was done, and nothing more was asked
-- for; or its line was refused by `note`, and then all was done. Or, where memory ran out, up to anything
abbrev pub Went : (input : List ℕ) → Outcome → Outside → Outside → Status → Type 0
Went input run before after (Exit value) = Done input run.events before after
Went input run before after Halted = Done input run.events before after
Went input run before after TurnsSpent = Done input run.events before after
Went input run before after ExitValue = Done input run.events before after
Went input run before after InputFault =
    (events : List Event) × BeginsWith run (events ++ Asks ∷ []) × Prints (printed events) before.out after.out (Ok tt) × AsksInput input events before.input after.input (Err (record {}))
Went input run before after SinkFault =
    ((events : List Event) × (byte : ℕ) × BeginsWith run (events ++ Puts byte ∷ [])
    × PrintsUpTo (printed events) byte before.out after.out × AsksInput input events before.input after.input (Ok tt))
    ⊎ (NoteRose before after × Done input run.events before after)
Went input run before after Memory = (events : List Event) × BeginsWith run events × Done input events before after
Went input run before after other = ⊥

-- what `run` did to the outside: it stopped before it ran anything, or it asked for all its files, whose trees are one plain tree, and
-- then ran its program, which is that of what was read too
abbrev pub RunDid : (turns : ℕ) → List (List ℕ) → Contents → List ℕ → Outside → Outside → Status → Type 0
RunDid turns names files input before after status =
    (Stopped names files before after status × (after.out ≡ before.out) × (after.input ≡ before.input))
    ⊎ ((program : Plain) × HoldsPlain files names program × ReadProgram names (Some program) before.folder after.folder × Went input (plain_run program input turns) before after status)

-- `emit` asked for all its files and then wrote the C of this program, which is that of what was read too, and the folder answered so
abbrev pub Wrote : List ℕ → List (List ℕ) → Contents → Plain → Result (Unit {0}) Refused → Outside → Outside → Type 0
Wrote name names files program result before after =
    HoldsPlain files names program
    × (wrote : AskedAndWrote names (c_name name) (written program) result before.folder after.folder) × HaveProgram wrote.sources (Some program)

-- How `emit` wrote the C of a program, by one call, and then put its line on `out`, by one call, by the status. Where the write was
-- refused, nothing was put, and the folder may have left anything under that name for a fault, and has changed nothing for want of
-- memory
abbrev pub WroteAndTold : List ℕ → List (List ℕ) → Contents → Plain → Outside → Outside → Status → Type 0
WroteAndTold name names files program before after (Exit value) =
    Wrote name names files program (Ok tt) before after × Put (emitted_line (c_name name) (written program)) before.out after.out (Ok tt)
WroteAndTold name names files program before after SinkFault =
    Wrote name names files program (Ok tt) before after × Put (emitted_line (c_name name) (written program)) before.out after.out (Err (record {}))
WroteAndTold name names files program before after FolderFault = Wrote name names files program (Err refused.Failed) before after × (after.out ≡ before.out)
WroteAndTold name names files program before after Memory = Wrote name names files program (Err refused.Mem) before after × (after.out ≡ before.out)
WroteAndTold name names files program before after other = ⊥

-- what `emit` did to the folder and to `out`: it stopped before it wrote anything, or it wrote the C of a program and then told it
abbrev pub EmitDid : List ℕ → List (List ℕ) → Contents → Outside → Outside → Status → Type 0
EmitDid name names files before after status =
    (Stopped names files before after status × (after.out ≡ before.out)) ⊎ ((program : Plain) × WroteAndTold name names files program before after status)

-- how `check` put its line on `out`, by one call, by the status
abbrev pub ToldAccepted : Outside → Outside → Status → Type 0
ToldAccepted before after (Exit value) = Put accepted_line before.out after.out (Ok tt)
ToldAccepted before after SinkFault = Put accepted_line before.out after.out (Err (record {}))
ToldAccepted before after other = ⊥

-- what `check` did to the folder and to `out`: it stopped before it told anything, or it asked for all its files, whose trees are one
-- plain tree, as those of what was read are, and then told that they are accepted
abbrev pub CheckDid : List (List ℕ) → Contents → Outside → Outside → Status → Type 0
CheckDid names files before after status =
    (Stopped names files before after status × (after.out ≡ before.out))
    ⊎ ((program : Plain) × HoldsPlain files names program × ReadProgram names (Some program) before.folder after.folder × ToldAccepted before after status)

-- what a call did to the folder, to the input and to `out`: nothing where the words have no reading, and else what the command
-- does. `emit` and `check` ask for no input, and `check` writes no file
pub record Acts (words : List (List ℕ)) (files : Contents) (input : List ℕ) (before after : Outside) (status : Status) : Type 0 where
  pub none : HasNoReading words → (after.folder ≡ before.folder) × (after.input ≡ before.input) × (after.out ≡ before.out)
  pub run : (turns : ℕ) (names : List (List ℕ)) → Reads words (Run turns names) → RunDid turns names files input before after status
  pub emit : (name : List ℕ) (names : List (List ℕ)) → Reads words (Emit name names) → EmitDid name names files before after status × (after.input ≡ before.input)
  pub check : (names : List (List ℕ)) → Reads words (Check names) → CheckDid names files before after status × (after.input ≡ before.input)

-- the line of a run that ended so, with this status
abbrev pub IsRunLine : List (List ℕ) → Contents → List ℕ → Status → List ℕ → Type 0
IsRunLine words files input status line =
    (turns : ℕ) × (names : List (List ℕ)) × (program : Plain) × Reads words (Run turns names) × HoldsPlain files names program
    × (run_status (plain_run program input turns).ending ≡ status) × (line ≡ run_line names (plain_run program input turns).ending)

-- the lines whose refusal changes the status to `SinkFault`: those of 64 to 67, 69 and 72
abbrev pub IsLineOf : List (List ℕ) → Contents → List ℕ → Status → List ℕ → Type 0
IsLineOf words files input Usage line = HasNoReading words × (line ≡ usage_line)
IsLineOf words files input Broken line =
    (source : SourceFile) × (broken : BrokenRule) × AsksForBroken words files source broken × (line ≡ line_of_broken source broken)
IsLineOf words files input NoFile line = (name : List ℕ) × AsksForNoFile words files name × (line ≡ no_file_line name)
IsLineOf words files input Halted line = IsRunLine words files input Halted line
IsLineOf words files input TurnsSpent line = IsRunLine words files input TurnsSpent line
IsLineOf words files input ExitValue line = IsRunLine words files input ExitValue line
IsLineOf words files input other line = ⊥

-- such a line was put and refused, and then the line of the fault was tried
abbrev pub RefusesLine : List (List ℕ) → Contents → List ℕ → SinkState → SinkState → Type 0
RefusesLine words files input before after =
    (first : Status) × (line : List ℕ) × (between : SinkState)
    × IsLineOf words files input first line × Put line before between (Err (record {})) × Tried output_fault_line between after

-- What `note` got, by the status: each line by one call. A line of 64 to 67, 69 or 72 was put whole; the line of a fault, of want of memory
-- or of sources that aren't built was tried, whatever came of it
abbrev pub Noted : List (List ℕ) → Contents → List ℕ → Outside → Outside → Status → Type 0
Noted words files input before after (Exit value) = after.note ≡ before.note
Noted words files input before after Halted = (line : List ℕ) × IsLineOf words files input Halted line × Put line before.note after.note (Ok tt)
Noted words files input before after TurnsSpent = (line : List ℕ) × IsLineOf words files input TurnsSpent line × Put line before.note after.note (Ok tt)
Noted words files input before after ExitValue = (line : List ℕ) × IsLineOf words files input ExitValue line × Put line before.note after.note (Ok tt)
Noted words files input before after Usage = Put usage_line before.note after.note (Ok tt)
Noted words files input before after Broken = (line : List ℕ) × IsLineOf words files input Broken line × Put line before.note after.note (Ok tt)
Noted words files input before after NoFile = (line : List ℕ) × IsLineOf words files input NoFile line × Put line before.note after.note (Ok tt)
Noted words files input before after FolderFault = Tried folder_fault_line before.note after.note
Noted words files input before after InputFault = Tried input_fault_line before.note after.note
Noted words files input before after SinkFault = (OutRose before after × Tried output_fault_line before.note after.note) ⊎ RefusesLine words files input before.note after.note
Noted words files input before after Memory = Tried no_memory_line before.note after.note
Noted words files input before after NotBuilt = Tried not_built_line before.note after.note
Noted words files input before after other = ⊥

-- All of it ------------------------------------------------------------------------------------------------------------

-- the promise over these files and this input
pub record Keeps (words : List (List ℕ)) (files : Contents) (input : List ℕ) (before after : Outside) (status : Status) : Type 0 where
  -- where nothing failed, and with 0 to 63, 64 to 67, 69 and 72 in any case, the call did what `answer_of` says, or its status is `Memory`
  pub complete : Complete words files input before after status
  pub finished : Finished words files input before after status
  -- where nothing failed, the run of one plain tree is that of its program, or the status is `Memory`
  pub run : Runs words files input before after status
  -- where `emit` ended with 0, or by a fault of `out`, the folder has C that means the program
  pub bytes_written : Emits words files before after status
  -- each status comes only with its cause, and where its cause stands: 65 exactly where all sources are there and one breaks a rule of
  -- L or G, and 77 exactly where all have trees, which aren't one plain tree
  pub cause : Cause words files input before after status
  pub comes : Comes words files input before after status
  -- the status shows a fault
  pub hides_no_fault : HidesNoFault before after status
  pub counts : CountsGrow before after
  -- what stands after the call, whatever its status, and by which calls it came there
  pub stands : (verdict : Verdict) → IsVerdict words files verdict → GoesNoFurther (answer_of words files verdict input) input before after
  pub acts : Acts words files input before after status
  pub noted : Noted words files input before after status

-- the contract of `slang`
abbrev pub Promise : List (List ℕ) → Outside → Outside → Status → Type 0
Promise words before after status =
    (files : Contents) × (input : List ℕ) × IsTold before.folder.files files × IsTold before.input.left input × Keeps words files input before after status
