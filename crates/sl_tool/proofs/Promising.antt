-- The parts of a promise, from what the folder held and what was put.
use Rattle.std.proofs.Common.{◌≡◌, ℕ, List, [], ◌++◌, length, take, Bool, true, false, Option, Some, None, refl, sym, ap, ◌∙◌, subst, inl, inr}
use Rattle.std.proofs.lemmas.List.{take-append-drop}
use Rattle.std.specs.Prelude.{◌⊎◌, pos, negsuc, nat_le, if◌then◌else◌, Result, Ok, Err}
use Rattle.sl_outside.specs.Folder.{Contents}
use Rattle.sl_run.specs.Outcome.{asked}
use Rattle.sl_run.specs.Run.{Ending, Done, Halt, TurnsSpent, StackSpent, Stuck}
use Rattle.sl_tool.specs.declared.status.Status.{Status}
use Rattle.sl_tool.specs.declared.status.Status.TheVariants.{Exit, Usage, Broken, NoFile, FolderFault, InputFault, SinkFault, Memory, NotBuilt}
use Rattle.sl_tool.specs.declared.status.Status.TheVariants as status
use Rattle.sl_plain.specs.declared.program.Plain.{Plain}
use Rattle.sl_text.specs.declared.fault.Broken.{Broken as BrokenRule}
use Rattle.sl_tree.specs.declared.tree.File.{File}
use Rattle.sl_tool.specs.SourceFiles.{SourceFile, Verdict, Breaks, Trees, sources_of, program_of}
use Rattle.sl_plain.specs.Means.{plain_run}
use Rattle.sl_words.specs.Words.{Command, Run, Emit, Check, files_of, Reads, HasNoReading, BeginsNoCommand}
use Rattle.sl_words.specs.WordsReading.{command_of}
use Rattle.sl_tool.specs.Texts.{usage_line, no_file_line, not_built_line}
use Rattle.sl_tool.specs.Answer.{Answer, IsVerdict, answer_of, answer_to_plain, rejected, ran, run_status, line_of_broken}
use Rattle.sl_tool.specs.Outside.{Outside, FolderRose, InputRose, OutRose, NoteRose}
use Rattle.sl_tool.specs.Promise.{IsUnlessMemory, HoldsPlain, Did, Complete, Finished, RanAs, Runs, Emits, ends_with, Cause, Comes, HidesNoFault, CountsGrow, GoesNoFurther, Acts, Noted, Keeps}
use Rattle.sl_words.proofs.Reading.{command_of_reading, reading_of_command, no_command}
use Rattle.sl_tool.proofs.Sources.{missing_found, sources_found}
use Rattle.sl_tool.proofs.Judged.{verdict_is, is_verdict}
use Rattle.sl_plain.proofs.Rest.{rest_is}
use Rattle.sl_tool.proofs.Answering.{answer_usage, answer_broken, answer_no_file, answer_not_built, answer_plain}

-- words that have no reading ask for no sources
pub usage_verdict : (words : List (List ℕ)) (files : Contents) (verdict : Verdict) → HasNoReading words → IsVerdict words files verdict
usage_verdict words files verdict none sources (command, reads, are) = absurd (none command reads)

-- nor do words with a file that isn't there
pub missing_verdict : (words : List (List ℕ)) (files : Contents) (verdict : Verdict) (command : Command) (name : List ℕ) → command_of words ≡ Some command → sources_of files (files_of command) ≡ Err name → IsVerdict words files verdict
missing_verdict words files verdict command name is_read none sources (other, reads, are) =
    let same : command ≡ other = let e : Some command ≡ Some other = sym is_read ∙ command_of_reading words other reads in cc in
    let both : Err name ≡ Ok sources = sym none ∙ (ap (λ c. sources_of files (files_of c)) same ∙ sources_found files (files_of other) sources are) in
    absurd (cc both)

-- the answer to one plain tree
pub answer_held : (words : List (List ℕ)) (files : Contents) (verdict : Verdict) (input : List ℕ) (command : Command) (program : Plain) → command_of words ≡ Some command → HoldsPlain files (files_of command) program → IsVerdict words files verdict → answer_of words files verdict input ≡ answer_to_plain command program files input
answer_held words files verdict input command program reads (sources, are, (trees, have, plain)) is =
    answer_plain words files verdict input command reads sources (sources_found files (files_of command) sources are) trees
    (is_verdict words files sources (Trees trees) verdict (command, reading_of_command words command reads, are) have is) program plain

-- what holds of each answer holds of the one to these words
pub by_answer : (words : List (List ℕ)) (files : Contents) (verdict : Verdict) (input : List ℕ) (P : Answer → Type 0)
    → (command_of words ≡ None → P (rejected Usage usage_line files input))
    → ((name : List ℕ) → P (rejected NoFile (no_file_line name) files input))
    → ((source : SourceFile) (broken : BrokenRule) → P (rejected Broken (line_of_broken source broken) files input))
    → P (rejected NotBuilt not_built_line files input)
    → ((command : Command) (program : Plain) → P (answer_to_plain command program files input))
    → P (answer_of words files verdict input)
by_answer words files verdict input P usage no_file broken not_built plain = at_command (command_of words) refl
  where
    is : (answer : Answer) → answer_of words files verdict input ≡ answer → P answer → P (answer_of words files verdict input)
    is answer e h = subst P (sym e) h

    at_program : (command : Command) (sources : List SourceFile) (trees : List File) → command_of words ≡ Some command → sources_of files (files_of command) ≡ Ok sources → verdict ≡ Trees trees → (found : Option Plain) → program_of trees ≡ found → P (answer_of words files verdict input)
    at_program command sources trees reads there are None e = is _ (answer_not_built words files verdict input command reads sources there trees are e) not_built
    at_program command sources trees reads there are (Some program) e = is _ (answer_plain words files verdict input command reads sources there trees are program e) (plain command program)

    at_verdict : (command : Command) (sources : List SourceFile) → command_of words ≡ Some command → sources_of files (files_of command) ≡ Ok sources → (found : Verdict) → verdict ≡ found → P (answer_of words files verdict input)
    at_verdict command sources reads there (Trees trees) e = at_program command sources trees reads there e (program_of trees) refl
    at_verdict command sources reads there (Breaks source rule) e = is _ (answer_broken words files verdict input command reads sources there source rule e) (broken source rule)

    at_files : (command : Command) → command_of words ≡ Some command → (found : Result (List SourceFile) (List ℕ)) → sources_of files (files_of command) ≡ found → P (answer_of words files verdict input)
    at_files command reads (Err name) e = is _ (answer_no_file words files verdict input command reads name e) (no_file name)
    at_files command reads (Ok sources) e = at_verdict command sources reads e verdict refl

    at_command : (command : Option Command) → command_of words ≡ command → P (answer_of words files verdict input)
    at_command None e = is _ (answer_usage words files verdict input e) (usage e)
    at_command (Some command) e = at_files command e (sources_of files (files_of command)) refl

-- what an answer leaves of the input is what stands behind some of it
pub answer_suffix : (words : List (List ℕ)) (files : Contents) (verdict : Verdict) (input : List ℕ) → (more : List ℕ) × (input ≡ more ++ (answer_of words files verdict input).rest)
answer_suffix words files verdict input = by_answer words files verdict input (λ answer. (more : List ℕ) × (input ≡ more ++ answer.rest)) (λ _. ([], refl)) (λ _. ([], refl)) (λ _ _. ([], refl)) ([], refl) at
  where
    at : (command : Command) (program : Plain) → (more : List ℕ) × (input ≡ more ++ (answer_to_plain command program files input).rest)
    at (Run turns names) program =
        let n = length (asked (plain_run program input turns).events) in
        (take n input, sym (ap (λ rest. take n input ++ rest) (rest_is program input turns) ∙ take-append-drop n input))
    at (Emit name names) program = ([], refl)
    at (Check names) program = ([], refl)

-- a command on a plain program has the status with which it ends
pub gives_status : (command : Command) (program : Plain) (files : Contents) (input : List ℕ) → (answer_to_plain command program files input).status ≡ ends_with command program input
gives_status (Run turns names) program files input = refl
gives_status (Emit name names) program files input = refl
gives_status (Check names) program files input = refl

-- neither of two
neither : {A B : Type 0} → ¬ A → ¬ B → ¬ (A ⊎ B)
neither a b (inl h) = a h
neither a b (inr h) = b h

-- a fault that a status yields to
abbrev pub Excused : Outside → Outside → Status → Type 0
Excused before after (Exit value) = FolderRose before after ⊎ InputRose before after ⊎ OutRose before after
Excused before after Usage = NoteRose before after
Excused before after Broken = FolderRose before after ⊎ NoteRose before after
Excused before after NoFile = FolderRose before after ⊎ NoteRose before after
Excused before after NotBuilt = FolderRose before after
Excused before after other = FolderRose before after ⊎ InputRose before after ⊎ OutRose before after ⊎ NoteRose before after

-- a fault that every status of a run yields to
abbrev pub RunFailed : Outside → Outside → Type 0
RunFailed before after = FolderRose before after ⊎ InputRose before after ⊎ OutRose before after

-- so do the others
with_note : (before after : Outside) → RunFailed before after → FolderRose before after ⊎ InputRose before after ⊎ OutRose before after ⊎ NoteRose before after
with_note before after (inl h) = inl h
with_note before after (inr (inl h)) = inr (inl h)
with_note before after (inr (inr h)) = inr (inr (inl h))

-- the status of a run yields to a fault of the folder, of the input and of `out`
pub run_yields : (before after : Outside) (ending : Ending) → RunFailed before after → Excused before after (run_status ending)
run_yields before after (Done (pos value)) rose = at (nat_le value 63)
  where
    at : (small : Bool) → Excused before after (if small then Exit value else status.ExitValue)
    at true = rose
    at false = with_note before after rose
run_yields before after (Done (negsuc below)) rose = with_note before after rose
run_yields before after (Halt kind file line) rose = with_note before after rose
run_yields before after TurnsSpent rose = with_note before after rose
run_yields before after StackSpent rose = with_note before after rose
run_yields before after (Stuck function) rose = with_note before after rose

-- with no fault of any of the four, no status yields
none_yields : (before after : Outside) → ¬ FolderRose before after → ¬ InputRose before after → ¬ OutRose before after → ¬ NoteRose before after → (meant : Status) → ¬ Excused before after meant
none_yields before after folder input out note (Exit value) = neither folder (neither input out)
none_yields before after folder input out note Usage = note
none_yields before after folder input out note Broken = neither folder note
none_yields before after folder input out note status.Halted = neither folder (neither input (neither out note))
none_yields before after folder input out note status.TurnsSpent = neither folder (neither input (neither out note))
none_yields before after folder input out note status.StackSpent = neither folder (neither input (neither out note))
none_yields before after folder input out note status.ExitValue = neither folder (neither input (neither out note))
none_yields before after folder input out note status.NotC = neither folder (neither input (neither out note))
none_yields before after folder input out note status.Stuck = neither folder (neither input (neither out note))
none_yields before after folder input out note NoFile = neither folder note
none_yields before after folder input out note FolderFault = neither folder (neither input (neither out note))
none_yields before after folder input out note InputFault = neither folder (neither input (neither out note))
none_yields before after folder input out note SinkFault = neither folder (neither input (neither out note))
none_yields before after folder input out note Memory = neither folder (neither input (neither out note))
none_yields before after folder input out note NotBuilt = folder

-- the status is the one that was meant, or memory ran out, or there was a fault that it yields to
abbrev pub Settles : Outside → Outside → Status → Status → Type 0
Settles before after meant status = IsUnlessMemory status meant ⊎ Excused before after meant

-- with no fault, the status that was meant
settled : (before after : Outside) (meant status : Status) → ¬ Excused before after meant → Settles before after meant status → IsUnlessMemory status meant
settled before after meant status calm (inl h) = h
settled before after meant status calm (inr h) = absurd (calm h)

module _ (words : List (List ℕ)) (files : Contents) (input : List ℕ) (before after : Outside) (status : Status) where
  -- what was answered as a run was done as one
  ran_as : (turns : ℕ) (names : List (List ℕ)) (program : Plain) (answer : Answer) → answer ≡ ran names (plain_run program input turns) files → Did answer before after status ⊎ (status ≡ Memory) → RanAs (plain_run program input turns) before after status ⊎ (status ≡ Memory)
  ran_as turns names program answer same (inl did) =
      let all : Did (ran names (plain_run program input turns) files) before after status = subst (λ answer. Did answer before after status) same did in
      inl (record { ended = all.same_status; printed_bytes = all.out; rest = all.rest })
  ran_as turns names program answer same (inr memory) = inr memory

  -- a complete call of `run` on one plain tree ran its program
  runs : Complete words files input before after status → Runs words files input before after status
  runs complete turns names program reads (sources, are, (trees, have, plain)) calm =
      let verdict = Trees trees in
      let is : IsVerdict words files verdict = verdict_is words files sources verdict (Run turns names, reads, are) have in
      let same : answer_of words files verdict input ≡ ran names (plain_run program input turns) files =
      answer_held words files verdict input (Run turns names) program (command_of_reading words (Run turns names) reads) (sources, are, (trees, have, plain)) is in
      ran_as turns names program (answer_of words files verdict input) same (complete verdict is calm)

  -- the status settles what is answered
  abbrev pub AnswerSettles : Type 0
  AnswerSettles = (verdict : Verdict) → IsVerdict words files verdict → Settles before after (answer_of words files verdict input).status status

  -- where a cause stands, its status comes
  comes : AnswerSettles → (BeginsNoCommand words → (status ≡ Usage) ⊎ ((status ≡ SinkFault) × NoteRose before after)) → Comes words files input before after status
  comes all at_once = record {
    at_once = at_once;
    usage = λ none calm. settled before after Usage status calm
        (meant (Trees []) (usage_verdict words files (Trees []) none) Usage (ap (λ answer. answer.status) (answer_usage words files (Trees []) input (no_command words none))));
    no_file = λ name asks calm quiet.
        let (command, reads, none) = asks in
        let is_read = command_of_reading words command reads in
        let missing = missing_found files (files_of command) name none in
        settled before after NoFile status (neither calm quiet)
        (meant (Trees []) (missing_verdict words files (Trees []) command name is_read missing) NoFile (ap (λ answer. answer.status) (answer_no_file words files (Trees []) input command is_read name missing)));
    not_built = λ asks calm.
        let (sources, (command, reads, are), (trees, have, none)) = asks in
        settled before after NotBuilt status calm
        (meant (Trees trees) (verdict_is words files sources (Trees trees) (command, reads, are) have) NotBuilt
        (ap (λ answer. answer.status) (answer_not_built words files (Trees trees) input command (command_of_reading words command reads) sources (sources_found files (files_of command) sources are) trees refl none)));
    broken = λ source rule asks calm quiet.
        let (sources, (command, reads, are), first) = asks in
        settled before after Broken status (neither calm quiet)
        (meant (Breaks source rule) (verdict_is words files sources (Breaks source rule) (command, reads, are) first) Broken
        (ap (λ answer. answer.status) (answer_broken words files (Breaks source rule) input command (command_of_reading words command reads) sources (sources_found files (files_of command) sources are) source rule refl)));
    ends = λ other ends calm dry quiet hush.
        let (command, program, reads, held, gives) = ends in
        settled before after other status (none_yields before after calm dry quiet hush other) (ended command program reads held other gives);
    exit = λ value ends calm dry quiet.
        let (command, program, reads, held, gives) = ends in
        settled before after (Exit value) status (neither calm (neither dry quiet)) (ended command program reads held (Exit value) gives);
  }
    where
      meant : (verdict : Verdict) → IsVerdict words files verdict → (other : Status) → (answer_of words files verdict input).status ≡ other → Settles before after other status
      meant verdict is other e = subst (λ meant. Settles before after meant status) e (all verdict is)

      ended : (command : Command) (program : Plain) → Reads words command → HoldsPlain files (files_of command) program → (other : Status) → ends_with command program input ≡ other → Settles before after other status
      ended command program reads (sources, are, (trees, have, plain)) other gives =
          let is = verdict_is words files sources (Trees trees) (command, reads, are) have in
          meant (Trees trees) is other
          (ap (λ answer. answer.status) (answer_held words files (Trees trees) input command program (command_of_reading words command reads) (sources, are, (trees, have, plain)) is)
          ∙ (gives_status command program files input ∙ gives))

  -- the whole promise, of its parts
  pub keeps : Complete words files input before after status → Finished words files input before after status → Emits words files before after status → Cause words files input before after status → AnswerSettles → (BeginsNoCommand words → (status ≡ Usage) ⊎ ((status ≡ SinkFault) × NoteRose before after)) → HidesNoFault before after status → CountsGrow before after → ((verdict : Verdict) → IsVerdict words files verdict → GoesNoFurther (answer_of words files verdict input) input before after) → Acts words files input before after status → Noted words files input before after status → Keeps words files input before after status
  keeps complete finished emits cause all at_once hides counts stands acts noted = record {
    complete = complete;
    finished = finished;
    run = runs complete;
    bytes_written = emits;
    cause = cause;
    comes = comes all at_once;
    hides_no_fault = hides;
    counts = counts;
    stands = stands;
    acts = acts;
    noted = noted;
  }
