-- The promise on each path through a call.
use Rattle.std.proofs.Common.{◌≡◌, ℕ, ◌+◌, ◌≤◌, ◌<◌, Bool, List, [], ◌∷◌, ◌++◌, Option, Some, None, true, false, refl, sym, ap, ap₂, ◌∙◌, subst, inl, inr, append-nil, append_assoc, arith}
use Rattle.std.specs.Prelude.{◌⊎◌, pos, negsuc, nat_le, if◌then◌else◌, IfSome, Result, Ok, Err}
use Rattle.std.proofs.lemmas.Bool.{leb-true}
use Rattle.sl_outside.specs.declared.folder.Refused.{Refused}
use Rattle.sl_outside.specs.declared.folder.Refused.TheVariants as refused
use Rattle.sl_outside.specs.declared.source.Failed.{Failed}
use Rattle.sl_outside.specs.Counts.{Rose, HasCause}
use Rattle.sl_outside.specs.Folder.{Contents, FolderState}
use Rattle.sl_outside.specs.Source.{SourceState}
use Rattle.sl_outside.specs.Sink.{IsPrefix, SinkState, Put, Tried, Prints, PrintsUpTo}
use Rattle.sl_run.specs.Run.{Event, Puts, Asks, Halt}
use Rattle.sl_run.specs.Outcome.{Outcome, printed, BeginsWith}
use Rattle.sl_run.proofs.Puts.{printed-append}
use Rattle.c_machine.specs.Outside.{AsksInput}
use Rattle.c_tree.specs.Text.{CText}
use Rattle.c_write.specs.Lined.{lined}
use Rattle.sl_tool.specs.declared.stop.Stop.{Stop}
use Rattle.sl_tool.specs.declared.stop.Stop.TheVariants as stop
use Rattle.sl_tool.specs.declared.status.Status.{Status}
use Rattle.sl_tool.specs.declared.status.Status.TheVariants.{Exit, Usage, Broken, NoFile, FolderFault, InputFault, SinkFault, Memory, NotBuilt}
use Rattle.sl_tool.specs.declared.status.Status.TheVariants as outcomes
use Rattle.sl_plain.specs.declared.program.Plain.{Plain}
use Rattle.sl_plain.specs.Means.{plain_run}
use Rattle.c_machine.specs.declared.ending.End.{End}
use Rattle.c_machine.specs.declared.ending.End.TheVariants as end
use Rattle.c_machine.specs.Stepped.{ending_of}
use Rattle.sl_text.specs.declared.rule.Rule.{Rule}
use Rattle.sl_text.specs.declared.fault.Broken.{Broken as BrokenRule}
use Rattle.sl_tool.specs.SourceFiles.{SourceFile, Verdict, Breaks, Trees, HaveProgram}
use Rattle.sl_tool.specs.Written.{tree_of, written, IsTreeOf}
use Rattle.sl_words.specs.Words.{Command, Run, Emit, Check, files_of, Reads, BeginsNoCommand}
use Rattle.sl_words.specs.WordsReading.{command_of}
use Rattle.sl_tool.specs.Texts.{emitted_line, accepted_line, usage_line, broken_line, no_file_line, folder_fault_line, input_fault_line, output_fault_line, no_memory_line, not_built_line, turns_spent_line, exit_value_line}
use Rattle.sl_tool.specs.Answer.{Answer, AsksFor, IsVerdict, answer_of, answer_to_plain, ran, rejected, line_of_broken, run_status, run_line, c_name}
use Rattle.sl_tool.specs.Outside.{Outside, IsTold, NoteRose}
use Rattle.sl_tool.specs.Promise.{IsUnlessMemory, HoldsPlain, Did, IsFinal, Finished, WroteC, Emits, EndsWith, AsksForNoFile, AsksForBroken, Cause, HidesNoFault, CountsGrow, GoesNoFurther, AskedAndWrote, ReadBroken, ReadProgram, Stopped, Done, Went, RunDid, EmitDid, CheckDid, Acts, IsLineOf, Noted, Promise}
use Rattle.sl_tool.specs.Parts.{FindsMissing, FindsBroken, FindsAccepted, StopsFor, Tells, is_folder_fault, IsDefined, RunsFiles, WritesProgram, WritesC, TellsC, EmitsFiles, TellsAccepted, ChecksFiles, MakesAndTells, TellsAs, TellsEnd, TellsStop}
use Rattle.sl_words.proofs.Reading.{command_of_reading, reading_of_command, no_reading, begins_none}
use Rattle.sl_tool.proofs.Sources.{missing_found, sources_found}
use Rattle.sl_tool.proofs.Judged.{is_verdict}
use Rattle.sl_tool.proofs.Answering.{answer_usage, answer_broken, answer_no_file, answer_not_built, answer_plain}
use Rattle.sl_tool.proofs.Noting.{each_some, prefix_whole, prefix_none, gave, gave_prefix, try_calm, tell_ends, tell_calm, tell_grows, try_grows, stays_grown}
use Rattle.sl_outside.proofs.Printing.{prints_refused}
use Rattle.sl_tool.proofs.Printing.{printed_whole, printed_prefix, printed_calm, printed_rose}
use Rattle.sl_tool.proofs.Told.{told_files, files_told, input_of, input_told, still_told}
use Rattle.sl_tool.proofs.Asking.{asked_all}
use Rattle.sl_tool.proofs.ToldSources.{Accepted, told_missing, told_broken, told_accepted}
use Rattle.sl_tool.proofs.Inputs.{asks_left, asks_calm, asks_rose, takes_front}
use Rattle.sl_tool.proofs.Promising.{answer_held, answer_suffix, by_answer, Excused, run_yields, Settles, keeps}
use Rattle.sl_plain.proofs.Rest.{rest_is}
use Rattle.sl_tool.proofs.Meant.{text_is_c}
use Rattle.sl_tool.proofs.Writing.{written_told}

-- an input that agrees with what is told is what is told
left_told : (left : Option (List ℕ)) (input : List ℕ) → IsTold left input → {held : List ℕ} → left ≡ Some held → left ≡ Some input
left_told None input h e = absurd (cc e)
left_told (Some held) input h e = ap Some h

module _ (words : List (List ℕ)) (folder folder' : FolderState) (source source' : SourceState) (out out' note note' : SinkState) where
  abbrev before : Outside
  before = record { folder = folder; input = source; out = out; note = note }

  abbrev after : Outside
  after = record { folder = folder'; input = source'; out = out'; note = note' }

  -- a fact of the answer, for the verdict on the files
  abbrev Answers : (files : Contents) (input : List ℕ) → (Answer → Type 0) → Type 0
  Answers files input P = (verdict : Verdict) → IsVerdict words files verdict → P (answer_of words files verdict input)

  -- a line was put on `note` and nothing on `out`, which is what was answered
  did_reject : (files : Contents) (input : List ℕ) (meant status : Status) (line : List ℕ) → IsTold folder.files files → IsTold source.left input → source' ≡ source → folder'.files ≡ folder.files → Answers files input (λ answer. answer ≡ rejected meant line files input) → status ≡ meant → out'.held ≡ out.held → Put line note note' (Ok tt) → Answers files input (λ answer. Did answer before after status)
  did_reject files input meant status line is_told is_left unasked same_files answers same still put verdict is =
      let e = answers verdict is in
      subst (λ answer. Did answer before after status) (sym e)
      (record {
        same_status = same;
        files = still_told folder.files folder'.files files is_told same_files;
        out = each_some out.held _ (λ held e. still ∙ (e ∙ ap Some (sym (append-nil held))));
        note = each_some note.held _ (λ held e. gave note.held note'.held held line e put.taken);
        rest = still_told source.left source'.left input is_left (ap (λ s. s.left) unasked);
      })

  -- nothing was taken of the input
  takes_nothing : (files : Contents) (input : List ℕ) → IsTold source.left input → source' ≡ source → (verdict : Verdict)
      → IfSome source.left (λ _. (taken : List ℕ) × (more : List ℕ) × (input ≡ taken ++ more ++ (answer_of words files verdict input).rest) × (source'.left ≡ Some (more ++ (answer_of words files verdict input).rest)))
  takes_nothing files input is_left unasked verdict =
      let (more, whole) = answer_suffix words files verdict input in
      each_some source.left _ (λ held e. ([], more, whole, ap (λ s. s.left) unasked ∙ (left_told source.left input is_left e ∙ ap Some whole)))

  -- nothing was put on `out`, and nothing was asked
  stands_still : (files : Contents) (input : List ℕ) → IsTold source.left input → source' ≡ source → out'.held ≡ out.held → Answers files input (λ answer. GoesNoFurther answer input before after)
  stands_still files input is_left unasked still verdict is = record {
    out = each_some out.held _ (λ held e. ([], prefix_none (answer_of words files verdict input).out, still ∙ (e ∙ ap Some (sym (append-nil held)))));
    taken = takes_nothing files input is_left unasked verdict;
  }

  -- no count but perhaps that of `note` rose
  hides_note : (status : Status) → folder'.faults ≡ folder.faults → source'.faults ≡ source.faults → out'.faults ≡ out.faults → (note.faults < note'.faults → IsUnlessMemory status SinkFault ⊎ (status ≡ NotBuilt)) → HidesNoFault before after status
  hides_note status calm dry sink noting = record {
    folder = λ lt. absurd (omega arith);
    input = λ _ lt. absurd (omega arith);
    out = λ _ _ lt. absurd (omega arith);
    note = λ _ _ lt. noting lt;
  }

  -- how telling a line of this status ended
  abbrev Ends : Status → Status → Type 0
  Ends meant status = ((status ≡ meant) × (note'.faults ≡ note.faults)) ⊎ ((status ≡ SinkFault) × Rose note.faults note'.faults)

  -- a line that was told leaves the count, or the status is that of the fault
  note_told : (meant status : Status) → Ends meant status → note.faults < note'.faults → IsUnlessMemory status SinkFault ⊎ (status ≡ NotBuilt)
  note_told meant status (inl h) lt = absurd (let same : note'.faults ≡ note.faults = h.1 in omega arith)
  note_told meant status (inr h) lt = inl (inl h.0)

  -- the line of 64 was told, or refused
  usage_or_fault : (status : Status) → Ends Usage status → (status ≡ Usage) ⊎ ((status ≡ SinkFault) × NoteRose before after)
  usage_or_fault status (inl h) = inl h.0
  usage_or_fault status (inr h) = inr h

  -- a fact of the status that was meant, and of the fault
  by_end : (P : Status → Type 0) (meant status : Status) → Ends meant status → P meant → (Rose note.faults note'.faults → P SinkFault) → P status
  by_end P meant status (inl h) p q = subst P (sym h.0) p
  by_end P meant status (inr h) p q = subst P (sym h.0) (q h.1)

  -- what `note` got where a line was told
  noted_told : (files : Contents) (input : List ℕ) (meant status : Status) (line : List ℕ) → IsLineOf words files input meant line → (Put line note note' (Ok tt) → Noted words files input before after meant) → Tells line meant note note' status → Noted words files input before after status
  noted_told files input meant status line is given (inl h) = subst (λ s. Noted words files input before after s) (sym h.1) (given h.0)
  noted_told files input meant status line is given (inr (m, refused, tried, e)) = subst (λ s. Noted words files input before after s) (sym e) (inr (meant, line, m, is, refused, tried))

  -- counts of faults
  grows : {is_fault : Bool} → HasCause is_fault folder.faults folder'.faults → (source.faults ≤ source'.faults) × (source'.faults ≤ source.faults + 1) → (out.faults ≤ out'.faults) × (out'.faults ≤ out.faults + 1) → (note.faults ≤ note'.faults) × (note'.faults ≤ note.faults + 2) → CountsGrow before after
  grows cause asking sink noting = record {
    folder = cause.no_lower;
    input = asking.0;
    out = sink.0;
    note = noting.0;
    folder_once = cause.by_one;
    input_once = asking.1;
    out_once = sink.1;
    note_twice = noting.1;
  }

  -- an input that wasn't asked failed no more
  dry_of : source' ≡ source → source'.faults ≡ source.faults
  dry_of unasked = ap (λ s. s.faults) unasked

  asks_none : source' ≡ source → (source.faults ≤ source'.faults) × (source'.faults ≤ source.faults + 1)
  asks_none unasked = stays_grown source.faults source'.faults (dry_of unasked)

  -- a folder that wasn't called failed no more
  no_call : folder' ≡ folder → HasCause false folder.faults folder'.faults
  no_call idle = subst (λ f. HasCause false folder.faults f.faults) (sym idle) (record { rose = λ never. absurd (cc never); by_one = omega arith; stayed = λ _. refl; no_lower = omega arith })

  -- where a line was told whole, the call did what was answered
  finished_told : (files : Contents) (input : List ℕ) (meant status : Status) (line : List ℕ) → (Put line note note' (Ok tt) → Answers files input (λ answer. Did answer before after meant)) → Tells line meant note note' status → Finished words files input before after status
  finished_told files input meant status line did (inl h) verdict is final = subst (λ s. Did (answer_of words files verdict input) before after s) (sym h.1) (did h.0 verdict is)
  finished_told files input meant status line did (inr (m, refused, tried, e)) verdict is final = absurd (subst IsFinal e final)

  -- what settles one answer settles this one
  settles_as : (files : Contents) (input : List ℕ) (meant status : Status) → Answers files input (λ answer. answer.status ≡ meant) → Settles before after meant status → Answers files input (λ answer. Settles before after answer.status status)
  settles_as files input meant status e settles verdict is = subst (λ meant. Settles before after meant status) (sym (e verdict is)) settles

  -- a status that is no exit value and no fault of an output says nothing of C that was written
  nothing_emitted : (files : Contents) (status : Status) → ((value : ℕ) → ¬ (status ≡ Exit value)) → ¬ (status ≡ SinkFault) → Emits words files before after status
  nothing_emitted files status no_exit no_fault name names reads = record {
    done = λ value e. absurd (no_exit value e);
    not_told = λ e more. absurd (no_fault e);
  }

  -- nor does a fault of an output, where `out` had none
  calm_emitted : (files : Contents) → out'.faults ≡ out.faults → Emits words files before after SinkFault
  calm_emitted files calm name names reads = record {
    done = λ value e. absurd (cc e);
    not_told = λ e more. absurd (omega arith);
  }

  -- words with no reading
  pub usage_promise : (status : Status) → command_of words ≡ None → folder' ≡ folder → source' ≡ source → out' ≡ out → Tells usage_line Usage note note' status → Promise words before after status
  usage_promise status none idle unasked same tells =
      let files = told_files folder.files in
      let input = input_of source.left in
      let is_told = files_told folder.files in
      let is_left = input_told source.left in
      let same_files : folder'.files ≡ folder.files = ap (λ f. f.files) idle in
      let calm_folder : folder'.faults ≡ folder.faults = ap (λ f. f.faults) idle in
      let still : out'.held ≡ out.held = ap (λ s. s.held) same in
      let sink : out'.faults ≡ out.faults = ap (λ s. s.faults) same in
      let ends = tell_ends Usage status usage_line note note' tells in
      let e : Answers files input (λ answer. answer ≡ rejected Usage usage_line files input) = λ verdict is. answer_usage words files verdict input none in
      let unread = no_reading words none in
      let did = λ (s : Status) (is : s ≡ Usage) (put : Put usage_line note note' (Ok tt)). did_reject files input Usage s usage_line is_told is_left unasked same_files e is still put in (
        files,
        input,
        is_told,
        is_left,
        keeps words files input before after status
            (λ verdict is calm. let whole = tell_calm Usage status usage_line note note' tells calm.note in inl (did status whole.1 whole.0 verdict is))
            (finished_told files input Usage status usage_line (did Usage refl) tells)
            (λ name names reads. absurd (unread (Emit name names) reads))
            (by_end (λ s. Cause words files input before after s) Usage status ends unread inr)
            (settles_as files input Usage status (λ verdict is. ap (λ answer. answer.status) (e verdict is))
            (by_end (λ s. Settles before after Usage s) Usage status ends (inl (inl refl)) inr))
            (λ _. usage_or_fault status ends)
            (hides_note status calm_folder (dry_of unasked) sink (note_told Usage status ends))
            (grows (no_call idle) (asks_none unasked) (stays_grown out.faults out'.faults sink) (tell_grows Usage status usage_line note note' tells))
            (stands_still files input is_left unasked still)
            (record {
              none = λ _. (idle, unasked, same);
              run = λ turns names reads. absurd (unread (Run turns names) reads);
              emit = λ name names reads. absurd (unread (Emit name names) reads);
              check = λ names reads. absurd (unread (Check names) reads);
            })
            (noted_told files input Usage status usage_line (unread, refl) (λ put. put) tells),
      )

  -- memory ran out, with no fault of the input and of `out`
  memory_at : ¬ BeginsNoCommand words → (files : Contents) (input : List ℕ) → IsTold folder.files files → IsTold source.left input → source'.faults ≡ source.faults → out'.faults ≡ out.faults → Answers files input (λ answer. GoesNoFurther answer input before after) → HasCause false folder.faults folder'.faults → Acts words files input before after Memory → Tried no_memory_line note note' → Promise words before after Memory
  memory_at begins files input is_told is_left dry sink stands cause acts tried = (
    files,
    input,
    is_told,
    is_left,
    keeps words files input before after Memory
        (λ verdict is calm. inr refl)
        (λ verdict is final. absurd final)
        (nothing_emitted files Memory (λ value e. absurd (cc e)) (λ e. absurd (cc e)))
        tt
        (λ verdict is. inl (inr refl))
        (λ none. absurd (begins none))
        (hides_note Memory (cause.stayed refl) dry sink (λ lt. inl (inr refl)))
        (grows cause (stays_grown source.faults source'.faults dry) (stays_grown out.faults out'.faults sink) (try_grows _ note note' tried))
        stands
        acts
        tried,
  )

  -- memory ran out in reading the words
  pub words_memory_promise : (status : Status) → ¬ BeginsNoCommand words → folder' ≡ folder → source' ≡ source → out' ≡ out → Tried no_memory_line note note' → status ≡ Memory → Promise words before after status
  words_memory_promise status begins idle unasked same tried e =
      let files = told_files folder.files in
      let input = input_of source.left in
      let is_left = input_told source.left in
      subst (λ s. Promise words before after s) (sym e)
      (memory_at begins files input (files_told folder.files) is_left (dry_of unasked) (ap (λ s. s.faults) same)
      (stands_still files input is_left unasked (ap (λ s. s.held) same)) (no_call idle)
      (record {
        none = λ _. (idle, unasked, same);
        run = λ turns names reads. inl (inl idle, same, unasked);
        emit = λ name names reads. (inl (inl idle, same), unasked);
        check = λ names reads. (inl (inl idle, same), unasked);
      }) tried)

  module _ (command : Command) (is_read : command_of words ≡ Some command) where
    reads : Reads words command
    reads = reading_of_command words command is_read

    -- the first word is that of a command
    begins : ¬ BeginsNoCommand words
    begins none = let h : None ≡ Some command = sym (begins_none words none) ∙ is_read in absurd (cc h)

    -- what a command did to the folder, to the input and to `out`
    abbrev Does : Contents → List ℕ → Command → Status → Type 0
    Does files input (Run turns names) status = RunDid turns names files input before after status
    Does files input (Emit name names) status = EmitDid name names files before after status × (source' ≡ source)
    Does files input (Check names) status = CheckDid names files before after status × (source' ≡ source)

    -- the words ask for nothing else
    same_command : (other : Command) → Reads words other → command ≡ other
    same_command other h = let e : Some command ≡ Some other = sym is_read ∙ command_of_reading words other h in cc

    acts : (files : Contents) (input : List ℕ) (status : Status) → Does files input command status → Acts words files input before after status
    acts files input status h = record {
      none = λ unread. absurd (unread command reads);
      run = λ turns names asks. subst (λ c. Does files input c status) (same_command (Run turns names) asks) h;
      emit = λ name names asks. subst (λ c. Does files input c status) (same_command (Emit name names) asks) h;
      check = λ names asks. subst (λ c. Does files input c status) (same_command (Check names) asks) h;
    }

    -- a command that stopped before it ran, wrote or told anything
    does_stopped : (files : Contents) (input : List ℕ) (command : Command) (status : Status) → Stopped (files_of command) files before after status → source' ≡ source → out' ≡ out → Does files input command status
    does_stopped files input (Run turns names) status stopped unasked same = inl (stopped, same, unasked)
    does_stopped files input (Emit name names) status stopped unasked same = (inl (stopped, same), unasked)
    does_stopped files input (Check names) status stopped unasked same = (inl (stopped, same), unasked)

    -- a fault of the folder excuses whatever would have been answered
    excused : (files : Contents) (input : List ℕ) → Rose folder.faults folder'.faults → Answers files input (λ answer. Excused before after answer.status)
    excused files input rose verdict is =
        by_answer words files verdict input (λ answer. Excused before after answer.status)
        (λ none. let some : None ≡ Some command = sym none ∙ is_read in absurd (cc some))
        (λ _. inl rose) (λ _ _. inl rose) rose at
      where
        at : (other : Command) (program : Plain) → Excused before after (answer_to_plain other program files input).status
        at (Run turns names) program = run_yields before after (plain_run program input turns).ending (inl rose)
        at (Emit name names) program = inl rose
        at (Check names) program = inl rose

    -- memory ran out before anything was put or asked
    memory_promise : (files : Contents) → IsTold folder.files files → source' ≡ source → out' ≡ out → HasCause false folder.faults folder'.faults → Does files (input_of source.left) command Memory → Tried no_memory_line note note' → Promise words before after Memory
    memory_promise files is_told unasked same cause does tried =
        let input = input_of source.left in
        let is_left = input_told source.left in
        memory_at begins files input is_told is_left (dry_of unasked) (ap (λ s. s.faults) same) (stands_still files input is_left unasked (ap (λ s. s.held) same)) cause
        (acts files input Memory does) tried

    -- the folder failed
    folder_promise : (files : Contents) → IsTold folder.files files → source' ≡ source → out' ≡ out → HasCause true folder.faults folder'.faults → Does files (input_of source.left) command FolderFault → Tried folder_fault_line note note' → Promise words before after FolderFault
    folder_promise files is_told unasked same cause does tried =
        let input = input_of source.left in
        let is_left = input_told source.left in
        let sink : out'.faults ≡ out.faults = ap (λ s. s.faults) same in
        let rose : Rose folder.faults folder'.faults = cause.rose refl in (
          files,
          input,
          is_told,
          is_left,
          keeps words files input before after FolderFault
              (λ verdict is calm. absurd (calm.folder rose))
              (λ verdict is final. absurd final)
              (nothing_emitted files FolderFault (λ value e. absurd (cc e)) (λ e. absurd (cc e)))
              rose
              (λ verdict is. inr (excused files input rose verdict is))
              (λ none. absurd (begins none))
              (record { folder = λ _. refl; input = λ calm _. absurd (calm rose); out = λ calm _ _. absurd (calm rose); note = λ calm _ _. absurd (calm rose) })
              (grows cause (asks_none unasked) (stays_grown out.faults out'.faults sink) (try_grows _ note note' tried))
              (stands_still files input is_left unasked (ap (λ s. s.held) same))
              (acts files input FolderFault does)
              tried,
        )

    -- the sources aren't one plain file
    not_built_promise : FindsAccepted (files_of command) None folder folder' → source' ≡ source → out' ≡ out → HasCause false folder.faults folder'.faults → Tried not_built_line note note' → Promise words before after NotBuilt
    not_built_promise finds unasked same cause tried =
        let told = told_accepted finds in
        let files = told.files in
        let input = input_of source.left in
        let is_left = input_told source.left in
        let (trees, have, none) = told.have in
        let e : Answers files input (λ answer. answer ≡ rejected NotBuilt not_built_line files input) =
        λ verdict is. answer_not_built words files verdict input command is_read told.sources (sources_found files (files_of command) told.sources told.are) trees
        (is_verdict words files told.sources (Trees trees) verdict (command, reads, told.are) have is) none in
        let still : out'.held ≡ out.held = ap (λ s. s.held) same in
        let sink : out'.faults ≡ out.faults = ap (λ s. s.faults) same in
        let asked = asked_all (files_of command) finds.sources folder folder' finds.finds in (
          files,
          input,
          told.is_told,
          is_left,
          keeps words files input before after NotBuilt
              (λ verdict is calm. inl (did_reject files input NotBuilt NotBuilt not_built_line told.is_told is_left unasked asked.unchanged e refl still (try_calm not_built_line note note' tried calm.note) verdict is))
              (λ verdict is final. absurd final)
              (nothing_emitted files NotBuilt (λ value e. absurd (cc e)) (λ e. absurd (cc e)))
              (told.sources, (command, reads, told.are), told.have)
              (settles_as files input NotBuilt NotBuilt (λ verdict is. ap (λ answer. answer.status) (e verdict is)) (inl (inl refl)))
              (λ none. absurd (begins none))
              (hides_note NotBuilt (cause.stayed refl) (dry_of unasked) sink (λ lt. inr refl))
              (grows cause (asks_none unasked) (stays_grown out.faults out'.faults sink) (try_grows _ note note' tried))
              (stands_still files input is_left unasked still)
              (acts files input NotBuilt (does_stopped files input command NotBuilt (asked, finds.have) unasked same))
              tried,
        )

    -- nothing was put on `out`, and the line of a status was told on `note`, which is what is answered
    told_promise : (files : Contents) (meant status : Status) (line : List ℕ) → IsTold folder.files files → Answers files (input_of source.left) (λ answer. answer ≡ rejected meant line files (input_of source.left)) → IsLineOf words files (input_of source.left) meant line → (Put line note note' (Ok tt) → Noted words files (input_of source.left) before after meant) → Cause words files (input_of source.left) before after meant → (Rose note.faults note'.faults → Excused before after meant) → Emits words files before after meant → Stopped (files_of command) files before after meant → (Rose note.faults note'.faults → Stopped (files_of command) files before after SinkFault) → folder'.files ≡ folder.files → source' ≡ source → out' ≡ out → HasCause false folder.faults folder'.faults → Tells line meant note note' status → Promise words before after status
    told_promise files meant status line is_told e is_line noted caused excuse emits stopped refused unchanged unasked same cause tells =
        let input = input_of source.left in
        let is_left = input_told source.left in
        let ends = tell_ends meant status line note note' tells in
        let still : out'.held ≡ out.held = ap (λ s. s.held) same in
        let sink : out'.faults ≡ out.faults = ap (λ s. s.faults) same in
        let did = λ (s : Status) (is : s ≡ meant) (put : Put line note note' (Ok tt)). did_reject files input meant s line is_told is_left unasked unchanged e is still put in (
          files,
          input,
          is_told,
          is_left,
          keeps words files input before after status
              (λ verdict is calm. let whole = tell_calm meant status line note note' tells calm.note in inl (did status whole.1 whole.0 verdict is))
              (finished_told files input meant status line (did meant refl) tells)
              (by_end (λ s. Emits words files before after s) meant status ends emits (λ _. calm_emitted files sink))
              (by_end (λ s. Cause words files input before after s) meant status ends caused inr)
              (settles_as files input meant status (λ verdict is. ap (λ answer. answer.status) (e verdict is))
              (by_end (λ s. Settles before after meant s) meant status ends (inl (inl refl)) (λ rose. inr (excuse rose))))
              (λ none. absurd (begins none))
              (hides_note status (cause.stayed refl) (dry_of unasked) sink (note_told meant status ends))
              (grows cause (asks_none unasked) (stays_grown out.faults out'.faults sink) (tell_grows meant status line note note' tells))
              (stands_still files input is_left unasked still)
              (acts files input status (does_stopped files input command status (by_end (λ s. Stopped (files_of command) files before after s) meant status ends stopped refused) unasked same))
              (noted_told files input meant status line is_line noted tells),
        )

    -- a file isn't there
    no_file_promise : (name : List ℕ) (status : Status) → FindsMissing (files_of command) name folder folder' → source' ≡ source → out' ≡ out → HasCause false folder.faults folder'.faults → Tells (no_file_line name) NoFile note note' status → Promise words before after status
    no_file_promise name status finds unasked same cause tells =
        let told = told_missing finds in
        let files = told.files in
        let input = input_of source.left in
        let line = no_file_line name in
        let asks : AsksForNoFile words files name = (command, reads, told.missing) in
        let is_line : IsLineOf words files input NoFile line = (name, asks, refl) in
        told_promise files NoFile status line told.is_told (λ verdict is. answer_no_file words files verdict input command is_read name (missing_found files (files_of command) name told.missing)) is_line (λ put. (line, is_line, put))
        (name, asks) inr (nothing_emitted files NoFile (λ value e. absurd (cc e)) (λ e. absurd (cc e)))
        (name, told.missing, finds.asked) (λ rose. (rose, inr (name, told.missing, finds.asked))) finds.asked.unchanged unasked same cause tells

    -- a source breaks a rule
    broken_promise : (name : List ℕ) (rule : Rule) (row column : ℕ) (status : Status) → FindsBroken (files_of command) name rule row column folder folder' → source' ≡ source → out' ≡ out → HasCause false folder.faults folder'.faults → Tells (broken_line name row column rule) Broken note note' status → Promise words before after status
    broken_promise name rule row column status finds unasked same cause tells =
        let told = told_broken finds in
        let files = told.files in
        let input = input_of source.left in
        let line = broken_line name row column rule in
        let it : SourceFile = record { name = name; bytes = finds.breaks.bytes } in
        let broken : BrokenRule = record { rule = rule; span = finds.breaks.span } in
        let line_is : line ≡ line_of_broken it broken = ap₂ (λ row column. broken_line name row column rule) finds.breaks.stands.line_is finds.breaks.stands.column_is in
        let asks : AsksForBroken words files it broken = (told.sources, (command, reads, told.are), told.first) in
        let is_line : IsLineOf words files input Broken line = (it, broken, asks, line_is) in
        let read : ReadBroken (files_of command) files folder folder' =
        (asked_all (files_of command) finds.sources folder folder' finds.finds, (told.sources, it, broken, told.are, told.first, finds.breaks.first)) in
        told_promise files Broken status line told.is_told (λ verdict is.
        answer_broken words files verdict input command is_read told.sources (sources_found files (files_of command) told.sources told.are) it broken
        (is_verdict words files told.sources (Breaks it broken) verdict (command, reads, told.are) told.first is)
        ∙ ap (λ line. rejected Broken line files input) (sym line_is)) is_line (λ put. (line, is_line, put))
        (it, broken, asks) inr (nothing_emitted files Broken (λ value e. absurd (cc e)) (λ e. absurd (cc e)))
        read (λ rose. (rose, inl read)) finds.finds.unchanged unasked same cause tells

    -- the same of a status that is this one
    at_status : (meant status : Status) → status ≡ meant → Promise words before after meant → Promise words before after status
    at_status meant status e h = subst (λ s. Promise words before after s) (sym e) h

    -- the command stopped before it ran or wrote anything
    stopped_promise : (why : Stop) (status : Status) → StopsFor (files_of command) folder folder' why → source' ≡ source → out' ≡ out → HasCause (is_folder_fault {A = Unit {0}} (Err why)) folder.faults folder'.faults → TellsStop why note note' status → Promise words before after status
    stopped_promise (stop.NoFile name) status finds unasked same cause (inl tells) = no_file_promise name.now status finds unasked same cause tells
    stopped_promise (stop.NoFile name) status finds unasked same cause (inr (tried, e)) =
        at_status Memory status e (memory_promise (told_files folder.files) (files_told folder.files) unasked same cause (does_stopped (told_files folder.files) (input_of source.left) command Memory (inr (inr (name.now, Ok None, tt, finds.asked))) unasked same) tried)
    stopped_promise (stop.Broken name rule row column) status finds unasked same cause (inl tells) = broken_promise name.now rule row column status finds unasked same cause tells
    stopped_promise (stop.Broken name rule row column) status finds unasked same cause (inr (tried, e)) =
        at_status Memory status e (memory_promise (told_files folder.files) (files_told folder.files) unasked same cause (does_stopped (told_files folder.files) (input_of source.left) command Memory (inr (inl (asked_all (files_of command) finds.sources folder folder' finds.finds))) unasked same) tried)
    stopped_promise stop.NotBuilt status finds unasked same cause (tried, e) = at_status NotBuilt status e (not_built_promise finds unasked same cause tried)
    stopped_promise stop.Folder status asked unasked same cause (tried, e) =
        at_status FolderFault status e (folder_promise (told_files folder.files) (files_told folder.files) unasked same cause (does_stopped (told_files folder.files) (input_of source.left) command FolderFault asked unasked same) tried)
    stopped_promise stop.Input status never unasked same cause tells = absurd never
    stopped_promise stop.Sink status never unasked same cause tells = absurd never
    stopped_promise stop.Mem status asked unasked same cause (tried, e) =
        at_status Memory status e (memory_promise (told_files folder.files) (files_told folder.files) unasked same cause (does_stopped (told_files folder.files) (input_of source.left) command Memory (inr asked) unasked same) tried)

    -- `out` failed, and the input didn't
    sink_promise : (files : Contents) (input : List ℕ) → IsTold folder.files files → IsTold source.left input → source'.faults ≡ source.faults → Answers files input (λ answer. GoesNoFurther answer input before after) → Answers files input (λ answer. Excused before after answer.status) → Rose out.faults out'.faults → (out.faults ≤ out'.faults) × (out'.faults ≤ out.faults + 1) → HasCause false folder.faults folder'.faults → Emits words files before after SinkFault → Does files input command SinkFault → Tried output_fault_line note note' → Promise words before after SinkFault
    sink_promise files input is_told is_left dry stands excuse rose more cause emits does tried = (
      files,
      input,
      is_told,
      is_left,
      keeps words files input before after SinkFault
          (λ verdict is calm. absurd (calm.out rose))
          (λ verdict is final. absurd final)
          emits
          (inl rose)
          (λ verdict is. inr (excuse verdict is))
          (λ none. absurd (begins none))
          (record { folder = λ lt. absurd (let same : folder'.faults ≡ folder.faults = cause.stayed refl in omega arith); input = λ _ lt. absurd (omega arith); out = λ _ _ _. refl; note = λ _ _ _. inl (inl refl) })
          (grows cause (stays_grown source.faults source'.faults dry) more (try_grows _ note note' tried))
          stands
          (acts files input SinkFault does)
          (inl (rose, tried)),
    )

    -- a program that was found
    module _ (program : Plain) (told : Accepted folder.files (files_of command) (Some program)) where
      held : HoldsPlain told.files (files_of command) program
      held = (told.sources, told.are, told.have)

      answers_plain : (input : List ℕ) → Answers told.files input (λ answer. answer ≡ answer_to_plain command program told.files input)
      answers_plain input verdict is = answer_held words told.files verdict input command program is_read held is

  -- `run` of files
  module _ (turns : ℕ) (names : List (List ℕ)) (is_read : command_of words ≡ Some (Run turns names)) where
    abbrev command_run : Command
    command_run = Run turns names

    -- a run on some input, of a program that was found
    module _ (program : Plain) (finds : FindsAccepted names (Some program) folder folder') (cause : HasCause false folder.faults folder'.faults) (input : List ℕ) (is_left : IsTold source.left input) where
      abbrev told : Accepted folder.files names (Some program)
      told = told_accepted finds

      abbrev run : Outcome
      run = plain_run program input turns

      -- what a plain file answers
      answers : Answers told.files input (λ answer. answer ≡ ran names run told.files)
      answers = answers_plain command_run is_read program told input

      holds : HoldsPlain told.files names program
      holds = held command_run is_read program told

      is_read_so : ReadProgram names (Some program) folder folder'
      is_read_so = (asked_all names finds.sources folder folder' finds.finds, finds.have)

      -- the words don't ask for C
      runs_only : (status : Status) → Emits words told.files before after status
      runs_only status name other asks = let never : command_run ≡ Emit name other = same_command command_run is_read (Emit name other) asks in absurd (cc never)

      -- a front of the run was done, and a prefix of what it prints is on `out`
      stands_front : (events : List Event) (bytes : List ℕ) (result asking : Result (Unit {0}) Failed) → BeginsWith run events → IsPrefix bytes (printed run.events) → Prints bytes out out' result → AsksInput input events source source' asking → Answers told.files input (λ answer. GoesNoFurther answer input before after)
      stands_front events bytes result asking begins more prints asks verdict is = record {
        out = each_some out.held _ (λ held e.
            let prefix = printed_prefix bytes out out' held result e prints in
            let longer : IsPrefix prefix.0 (printed run.events) = (prefix.1.0 ++ more.0, more.1 ∙ (ap (λ front. front ++ more.0) prefix.1.1 ∙ append_assoc prefix.0 prefix.1.0 more.0)) in
            (prefix.0, subst (λ whole. IsPrefix prefix.0 whole) (sym (ap (λ answer. answer.out) (answers verdict is))) longer, prefix.2));
        taken = each_some source.left _ (λ held e.
            let (front, later, whole, left) = takes_front input run events (rest_is program input turns) begins in
            let same : run.rest ≡ (answer_of words told.files verdict input).rest = sym (ap (λ answer. answer.rest) (answers verdict is)) in
            (front, later, whole ∙ ap (λ rest. front ++ later ++ rest) same, asks_left input events source source' asking (left_told source.left input is_left e) asks ∙ ap Some (left ∙ ap (λ rest. later ++ rest) same)));
      }

      -- all that the program does was done
      module _ (done : Done input run.events before after) (rest : IfSome source.left (λ _. source'.left ≡ Some run.rest)) where
        calm : out'.faults ≡ out.faults
        calm = printed_calm (printed run.events) out out' done.put

        dry : source'.faults ≡ source.faults
        dry = asks_calm input run.events source source' done.got

        stands_all : Answers told.files input (λ answer. GoesNoFurther answer input before after)
        stands_all = stands_front run.events (printed run.events) (Ok tt) (Ok tt) ([], sym (append-nil run.events)) (prefix_whole (printed run.events)) done.put done.got

        -- the call did what was answered, where `note` got what goes with the status
        did_run : (status : Status) → status ≡ run_status run.ending → IfSome note.held (λ held. note'.held ≡ Some (held ++ run_line names run.ending)) → Answers told.files input (λ answer. Did answer before after status)
        did_run status same noted verdict is =
            subst (λ answer. Did answer before after status) (sym (answers verdict is))
            (record {
              same_status = same;
              files = still_told folder.files folder'.files told.files told.is_told finds.finds.unchanged;
              out = each_some out.held _ (λ held g. printed_whole (printed run.events) out out' held g done.put);
              note = noted;
              rest = rest;
            })

        -- the program ended with an exit value from 0 to 63
        exit_promise : (value : ℕ) → value ≤ 63 → run_status run.ending ≡ Exit value → run_line names run.ending ≡ [] → note' ≡ note → Promise words before after (Exit value)
        exit_promise value little e no_line quiet =
            let same : note'.faults ≡ note.faults = ap (λ n. n.faults) quiet in
            let did = did_run (Exit value) (sym e) (each_some note.held _ (λ held g. ap (λ n. n.held) quiet ∙ (g ∙ ap Some (sym (append-nil held) ∙ ap (λ line. held ++ line) (sym no_line))))) in (
              told.files,
              input,
              told.is_told,
              is_left,
              keeps words told.files input before after (Exit value)
                  (λ verdict is calm. inl (did verdict is))
                  (λ verdict is _. did verdict is)
                  (runs_only (Exit value))
                  (little, (command_run, program, reads command_run is_read, holds, e))
                  (settles_as told.files input (Exit value) (Exit value) (λ verdict is. ap (λ answer. answer.status) (answers verdict is) ∙ e) (inl (inl refl)))
                  (λ none. absurd (begins command_run is_read none))
                  (hides_note (Exit value) (cause.stayed refl) dry calm (λ lt. absurd (omega arith)))
                  (grows cause (stays_grown source.faults source'.faults dry) (stays_grown out.faults out'.faults calm) (omega arith, omega arith))
                  stands_all
                  (acts command_run is_read told.files input (Exit value) (inr (program, holds, is_read_so, done)))
                  quiet,
            )

        -- memory ran out in making the line
        line_memory_promise : Tried no_memory_line note note' → Promise words before after Memory
        line_memory_promise tried =
            memory_at (begins command_run is_read) told.files input told.is_told is_left dry calm stands_all cause
            (acts command_run is_read told.files input Memory (inr (program, holds, is_read_so, (run.events, ([], sym (append-nil run.events)), done))))
            tried

        -- the program ended so, which has this status and its line
        line_promise : (meant status : Status) (line : List ℕ) → run_status run.ending ≡ meant → run_line names run.ending ≡ line → IsLineOf words told.files input meant line → (Put line note note' (Ok tt) → Noted words told.files input before after meant) → (EndsWith words told.files input meant → Cause words told.files input before after meant) → (Rose note.faults note'.faults → Excused before after meant) → (Done input run.events before after → Went input run before after meant) → Tells line meant note note' status → Promise words before after status
        line_promise meant status line e f is_line noted caused excuse given tells =
            let ends = tell_ends meant status line note note' tells in
            let did = λ (s : Status) (is : s ≡ meant) (put : Put line note note' (Ok tt)). did_run s (is ∙ sym e) (each_some note.held _ (λ held g. gave note.held note'.held held line g put.taken ∙ ap (λ line. Some (held ++ line)) (sym f))) in (
              told.files,
              input,
              told.is_told,
              is_left,
              keeps words told.files input before after status
                  (λ verdict is calm. let whole = tell_calm meant status line note note' tells calm.note in inl (did status whole.1 whole.0 verdict is))
                  (finished_told told.files input meant status line (did meant refl) tells)
                  (runs_only status)
                  (by_end (λ s. Cause words told.files input before after s) meant status ends (caused (command_run, program, reads command_run is_read, holds, e)) inr)
                  (settles_as told.files input meant status (λ verdict is. ap (λ answer. answer.status) (answers verdict is) ∙ e)
                  (by_end (λ s. Settles before after meant s) meant status ends (inl (inl refl)) (λ rose. inr (excuse rose))))
                  (λ none. absurd (begins command_run is_read none))
                  (hides_note status (cause.stayed refl) dry calm (note_told meant status ends))
                  (grows cause (stays_grown source.faults source'.faults dry) (stays_grown out.faults out'.faults calm) (tell_grows meant status line note note' tells))
                  stands_all
                  (acts command_run is_read told.files input status
                  (inr (program, holds, is_read_so, by_end (λ s. Went input run before after s) meant status ends (given done) (λ rose. inr (rose, done)))))
                  (noted_told told.files input meant status line is_line noted tells),
            )

        -- the program halted, needs more turns, or ended with another exit value
        abbrev ended_so : Status → List ℕ → Type 0
        ended_so meant line = (run_status run.ending ≡ meant) × (run_line names run.ending ≡ line)

        halt_promise : (status : Status) (line : List ℕ) → ended_so outcomes.Halted line → MakesAndTells line outcomes.Halted note note' status → Promise words before after status
        halt_promise status line (e, f) (inl tells) =
            let is_line : IsLineOf words told.files input outcomes.Halted line = (turns, names, program, reads command_run is_read, holds, e, sym f) in
            line_promise outcomes.Halted status line e f is_line (λ put. (line, is_line, put)) (λ h. h) (λ rose. inr (inr (inr rose))) (λ done. done) tells
        halt_promise status line ended (inr (tried, e)) = at_status command_run is_read Memory status e (line_memory_promise tried)

        turns_promise : (status : Status) (line : List ℕ) → ended_so outcomes.TurnsSpent line → MakesAndTells line outcomes.TurnsSpent note note' status → Promise words before after status
        turns_promise status line (e, f) (inl tells) =
            let is_line : IsLineOf words told.files input outcomes.TurnsSpent line = (turns, names, program, reads command_run is_read, holds, e, sym f) in
            line_promise outcomes.TurnsSpent status line e f is_line (λ put. (line, is_line, put)) (λ h. h) (λ rose. inr (inr (inr rose))) (λ done. done) tells
        turns_promise status line ended (inr (tried, e)) = at_status command_run is_read Memory status e (line_memory_promise tried)

        value_promise : (status : Status) (line : List ℕ) → ended_so outcomes.ExitValue line → MakesAndTells line outcomes.ExitValue note note' status → Promise words before after status
        value_promise status line (e, f) (inl tells) =
            let is_line : IsLineOf words told.files input outcomes.ExitValue line = (turns, names, program, reads command_run is_read, holds, e, sym f) in
            line_promise outcomes.ExitValue status line e f is_line (λ put. (line, is_line, put)) (λ h. h) (λ rose. inr (inr (inr rose))) (λ done. done) tells
        value_promise status line ended (inr (tried, e)) = at_status command_run is_read Memory status e (line_memory_promise tried)

        -- the program ended so
        ended_promise : (end : End) (status : Status) → ending_of end ≡ run.ending → IsDefined end → TellsEnd names end note note' status → Promise words before after status
        ended_promise (end.Done (pos value)) status e defined tells = at (nat_le value 63) refl
          where
            at : (small : Bool) → nat_le value 63 ≡ small → Promise words before after status
            at true small =
                let is : run_status run.ending ≡ Exit value = ap run_status (sym e) ∙ ap (λ (b : Bool). if b then Exit value else outcomes.ExitValue) small in
                let no_line : run_line names run.ending ≡ [] = ap (run_line names) (sym e) ∙ ap (λ (b : Bool). if b then [] else exit_value_line (pos value)) small in
                let h : TellsAs (Exit value) [] note note' status = subst (λ (b : Bool). TellsAs (if b then Exit value else outcomes.ExitValue) (if b then [] else exit_value_line (pos value)) note note' status) small tells in
                at_status command_run is_read (Exit value) status h.0 (exit_promise value (leb-true value 63 small) is no_line h.1)
            at false large =
                let is : run_status run.ending ≡ outcomes.ExitValue = ap run_status (sym e) ∙ ap (λ (b : Bool). if b then Exit value else outcomes.ExitValue) large in
                let has_line : run_line names run.ending ≡ exit_value_line (pos value) = ap (run_line names) (sym e) ∙ ap (λ (b : Bool). if b then [] else exit_value_line (pos value)) large in
                let h : TellsAs outcomes.ExitValue (exit_value_line (pos value)) note note' status = subst (λ (b : Bool). TellsAs (if b then Exit value else outcomes.ExitValue) (if b then [] else exit_value_line (pos value)) note note' status) large tells in
                value_promise status (exit_value_line (pos value)) (is, has_line) h
        ended_promise (end.Done (negsuc below)) status e defined tells = value_promise status (exit_value_line (negsuc below)) (ap run_status (sym e), ap (run_line names) (sym e)) tells
        ended_promise (end.Halt kind file line) status e defined tells = halt_promise status (run_line names (Halt kind file line)) (ap run_status (sym e), ap (run_line names) (sym e)) tells
        ended_promise end.TurnsSpent status e defined tells = turns_promise status turns_spent_line (ap run_status (sym e), ap (run_line names) (sym e)) tells
        ended_promise (end.Stuck function) status e defined tells = absurd (defined function refl)

      -- a front of the run's bytes
      front_printed : (events : List Event) (more : List ℕ) (later : List Event) → BeginsWith run (events ++ later) → printed (events ++ later) ≡ printed events ++ more → IsPrefix (printed events ++ more) (printed run.events)
      front_printed events more later (behind, is) same =
          (printed behind, ap printed is ∙ (printed-append (events ++ later) behind ∙ ap (λ front. front ++ printed behind) same))

      -- the input failed
      input_promise : (events : List Event) → BeginsWith run (events ++ Asks ∷ []) → Prints (printed events) out out' (Ok tt) → AsksInput input events source source' (Err (record {})) → Tried input_fault_line note note' → Promise words before after InputFault
      input_promise events begins_so prints asks tried =
          let failed = asks_rose input events source source' (record {}) asks in
          let rose : Rose source.faults source'.faults = failed.0 in
          let calm : out'.faults ≡ out.faults = printed_calm (printed events) out out' prints in
          let shorter : BeginsWith run events = (Asks ∷ begins_so.0, begins_so.1 ∙ append_assoc events (Asks ∷ []) begins_so.0) in
          let whole = front_printed events [] [] (shorter.0, shorter.1 ∙ ap (λ front. front ++ shorter.0) (sym (append-nil events))) (ap printed (append-nil events) ∙ sym (append-nil (printed events))) in (
            told.files,
            input,
            told.is_told,
            is_left,
            keeps words told.files input before after InputFault
                (λ verdict is calm. absurd (calm.input rose))
                (λ verdict is final. absurd final)
                (runs_only InputFault)
                rose
                (λ verdict is. inr (subst (λ answer. Excused before after answer.status) (sym (answers verdict is)) (run_yields before after run.ending (inr (inl rose)))))
                (λ none. absurd (begins command_run is_read none))
                (record { folder = λ lt. absurd (let same : folder'.faults ≡ folder.faults = cause.stayed refl in omega arith); input = λ _ _. refl; out = λ _ dry _. absurd (dry rose); note = λ _ dry _. absurd (dry rose) })
                (grows cause (failed.1, failed.2) (stays_grown out.faults out'.faults calm) (try_grows _ note note' tried))
                (stands_front events (printed events) (Ok tt) (Err (record {})) shorter (whole.0, whole.1 ∙ ap (λ front. front ++ whole.0) (append-nil (printed events))) prints asks)
                (acts command_run is_read told.files input InputFault (inr (program, holds, is_read_so, (events, begins_so, prints, asks))))
                tried,
          )

      -- `out` failed
      out_promise : (events : List Event) (byte : ℕ) → BeginsWith run (events ++ Puts byte ∷ []) → PrintsUpTo (printed events) byte out out' → AsksInput input events source source' (Ok tt) → Tried output_fault_line note note' → Promise words before after SinkFault
      out_promise events byte begins_so refused asks tried =
          let prints = prints_refused (printed events) byte out out' refused in
          let failed = printed_rose (printed events ++ byte ∷ []) out out' (record {}) prints in
          let shorter : BeginsWith run events = (Puts byte ∷ begins_so.0, begins_so.1 ∙ append_assoc events (Puts byte ∷ []) begins_so.0) in
          sink_promise command_run is_read told.files input told.is_told is_left (asks_calm input events source source' asks)
          (stands_front events (printed events ++ byte ∷ []) (Err (record {})) (Ok tt) shorter (front_printed events (byte ∷ []) (Puts byte ∷ []) begins_so (printed-append events (Puts byte ∷ []))) prints asks)
          (λ verdict is. subst (λ answer. Excused before after answer.status) (sym (answers verdict is)) (run_yields before after run.ending (inr (inr failed.0))))
          failed.0 (failed.1, failed.2) cause (runs_only SinkFault)
          (inr (program, holds, is_read_so, inl (events, byte, begins_so, refused, asks)))
          tried

      -- memory ran out in the run
      spent_promise : (events : List Event) → BeginsWith run events → Prints (printed events) out out' (Ok tt) → AsksInput input events source source' (Ok tt) → Tried no_memory_line note note' → Promise words before after Memory
      spent_promise events begins_so prints asks tried =
          let whole = front_printed events [] [] (begins_so.0, begins_so.1 ∙ ap (λ front. front ++ begins_so.0) (sym (append-nil events))) (ap printed (append-nil events) ∙ sym (append-nil (printed events))) in
          memory_at (begins command_run is_read) told.files input told.is_told is_left (asks_calm input events source source' asks) (printed_calm (printed events) out out' prints)
          (stands_front events (printed events) (Ok tt) (Ok tt) begins_so (whole.0, whole.1 ∙ ap (λ front. front ++ whole.0) (append-nil (printed events))) prints asks) cause
          (acts command_run is_read told.files input Memory (inr (program, holds, is_read_so, (events, begins_so, record { put = prints; got = asks }))))
          tried

    -- the program was run to its end
    pub end_promise : (end : End) (status : Status) → RunsFiles turns names folder folder' source source' out out' (Ok end) → HasCause false folder.faults folder'.faults → TellsEnd names end note note' status → Promise words before after status
    end_promise end status (program, finds, (input, is_left, (e, prints, asks, rest)), defined) cause tells =
        ended_promise program finds cause input is_left (record { put = prints; got = asks }) rest end status e defined tells

    -- the program was not run to its end
    pub stop_promise : (why : Stop) (status : Status) → RunsFiles turns names folder folder' source source' out out' (Err why) → HasCause (is_folder_fault {A = End} (Err why)) folder.faults folder'.faults → TellsStop why note note' status → Promise words before after status
    stop_promise stop.Input status (program, finds, (input, is_left, (events, begins_so, prints, asks))) cause (tried, e) =
        at_status command_run is_read InputFault status e (input_promise program finds cause input is_left events begins_so prints asks tried)
    stop_promise stop.Sink status (program, finds, (input, is_left, (events, byte, begins_so, prints, asks))) cause (tried, e) =
        at_status command_run is_read SinkFault status e (out_promise program finds cause input is_left events byte begins_so prints asks tried)
    stop_promise (stop.NoFile name) status (stops, unasked, same) cause tells = stopped_promise command_run is_read (stop.NoFile name) status stops unasked same cause tells
    stop_promise (stop.Broken name rule row column) status (stops, unasked, same) cause tells = stopped_promise command_run is_read (stop.Broken name rule row column) status stops unasked same cause tells
    stop_promise stop.NotBuilt status (stops, unasked, same) cause tells = stopped_promise command_run is_read stop.NotBuilt status stops unasked same cause tells
    stop_promise stop.Folder status (stops, unasked, same) cause tells = stopped_promise command_run is_read stop.Folder status stops unasked same cause tells
    stop_promise stop.Mem status (inl (stops, unasked, same)) cause tells = stopped_promise command_run is_read stop.Mem status stops unasked same cause tells
    stop_promise stop.Mem status (inr (program, finds, (input, is_left, (events, begins_so, prints, asks)))) cause (tried, e) =
        at_status command_run is_read Memory status e (spent_promise program finds cause input is_left events begins_so prints asks tried)

  -- `emit` of files
  module _ (name : List ℕ) (names : List (List ℕ)) (is_read : command_of words ≡ Some (Emit name names)) where
    abbrev command : Command
    command = Emit name names

    -- a prefix of the line is on `out`
    line_prefix : (input : List ℕ) (program : Plain) (told : Accepted folder.files names (Some program)) (result : Result (Unit {0}) Failed) → IsTold source.left input → source' ≡ source → Put (emitted_line (c_name name) (written program)) out out' result → Answers told.files input (λ answer. GoesNoFurther answer input before after)
    line_prefix input program told result is_left unasked put verdict is = record {
      out = each_some out.held _ (λ held e.
          let prefix = gave_prefix out.held out'.held held (emitted_line (c_name name) (written program)) result e put.taken in
          (prefix.0, subst (λ whole. IsPrefix prefix.0 whole) (sym (ap (λ answer. answer.out) (answers_plain command is_read program told input verdict is))) prefix.1, prefix.2));
      taken = takes_nothing told.files input is_left unasked verdict;
    }

    -- the C was written
    emits : (files : Contents) (status : Status) → WroteC name names files before after → ((value : ℕ) → status ≡ Exit value → value ≡ 0) → Emits words files before after status
    emits files status wrote_c zero other_name other_names asks =
        let same : command ≡ Emit other_name other_names = same_command command is_read (Emit other_name other_names) asks in
        let same_name : name ≡ other_name = cc in
        let same_names : names ≡ other_names = cc in
        let wrote : WroteC other_name other_names files before after = subst (λ ns. WroteC other_name ns files before after) same_names (subst (λ n. WroteC n names files before after) same_name wrote_c) in
        record { done = λ value e. (zero value e, wrote); not_told = λ e more. wrote }

    -- what was written is the C of the program
    wrote_c_of : (program : Plain) (told : Accepted folder.files names (Some program)) → AskedAndWrote names (c_name name) (written program) (Ok tt) folder folder' → IsTreeOf program (tree_of program) → CText (written program) (lined (tree_of program)) → WroteC name names told.files before after
    wrote_c_of program told wrote is_tree is_text =
        record {
          program = program;
          source = held command is_read program told;
          folder = written_told folder.files folder'.files told.files (c_name name) (written program) told.is_told wrote.gives;
          is_c = text_is_c program is_tree is_text;
        }

    -- what was read before the write is one plain file with the program
    read_before : (program : Plain) {result : Result (Unit {0}) Refused} → (writes : WritesProgram name names program folder folder' result) → HaveProgram writes.wrote.sources (Some program)
    read_before program writes = subst (λ sources. HaveProgram sources (Some program)) (sym writes.same) writes.finds.have

    -- the C was written and told
    pub emit_promise : TellsC name names folder folder' out out' (Ok tt) → source' ≡ source → HasCause false folder.faults folder'.faults → note' ≡ note → Promise words before after (Exit 0)
    emit_promise tells unasked cause quiet =
        let program = tells.program in
        let told = told_accepted tells.writes.finds in
        let files = told.files in
        let input = input_of source.left in
        let is_left = input_told source.left in
        let plain = held command is_read program told in
        let e = answers_plain command is_read program told input in
        let line = emitted_line (c_name name) (written program) in
        let calm : out'.faults ≡ out.faults = tells.told.cause.stayed refl in
        let same : note'.faults ≡ note.faults = ap (λ n. n.faults) quiet in
        let did : Answers files input (λ answer. Did answer before after (Exit 0)) =
        λ verdict is. subst (λ answer. Did answer before after (Exit 0)) (sym (e verdict is))
        (record {
          same_status = refl;
          files = written_told folder.files folder'.files files (c_name name) (written program) told.is_told tells.writes.wrote.gives;
          out = each_some out.held _ (λ held g. gave out.held out'.held held line g tells.told.taken);
          note = each_some note.held _ (λ held g. ap (λ n. n.held) quiet ∙ (g ∙ ap Some (sym (append-nil held))));
          rest = still_told source.left source'.left input is_left (ap (λ s. s.left) unasked);
        }) in (
          files,
          input,
          told.is_told,
          is_left,
          keeps words files input before after (Exit 0)
              (λ verdict is calm. inl (did verdict is))
              (λ verdict is _. did verdict is)
              (emits files (Exit 0) (wrote_c_of program told tells.writes.wrote tells.is_tree tells.is_text) (λ value e. let zero : value ≡ 0 = cc in zero))
              (omega arith, (command, program, reads command is_read, plain, refl))
              (settles_as files input (Exit 0) (Exit 0) (λ verdict is. ap (λ answer. answer.status) (e verdict is)) (inl (inl refl)))
              (λ none. absurd (begins command is_read none))
              (hides_note (Exit 0) (cause.stayed refl) (dry_of unasked) calm (λ lt. absurd (omega arith)))
              (grows cause (asks_none unasked) (stays_grown out.faults out'.faults calm) (omega arith, omega arith))
              (line_prefix input program told (Ok tt) is_left unasked tells.told)
              (acts command is_read files input (Exit 0) (inr (program, ((plain, tells.writes.wrote, read_before program tells.writes), tells.told)), unasked))
              quiet,
        )

    -- the line was refused
    emit_sink_promise : TellsC name names folder folder' out out' (Err (record {})) → source' ≡ source → HasCause false folder.faults folder'.faults → Tried output_fault_line note note' → Promise words before after SinkFault
    emit_sink_promise tells unasked cause tried =
        let program = tells.program in
        let told = told_accepted tells.writes.finds in
        let input = input_of source.left in
        let e = answers_plain command is_read program told input in
        let rose : Rose out.faults out'.faults = tells.told.cause.rose refl in
        sink_promise command is_read told.files input told.is_told (input_told source.left) (dry_of unasked)
        (line_prefix input program told (Err (record {})) (input_told source.left) unasked tells.told)
        (λ verdict is. subst (λ answer. Excused before after answer.status) (sym (e verdict is)) (inr (inr rose)))
        rose (tells.told.cause.no_lower, tells.told.cause.by_one) cause
        (emits told.files SinkFault (wrote_c_of program told tells.writes.wrote tells.is_tree tells.is_text) (λ value e. absurd (cc e)))
        (inr (program, ((held command is_read program told, tells.writes.wrote, read_before program tells.writes), tells.told)), unasked)
        tried

    -- the write was refused
    write_fault_promise : WritesC name names folder folder' (Err refused.Failed) → source' ≡ source → out' ≡ out → HasCause true folder.faults folder'.faults → Tried folder_fault_line note note' → Promise words before after FolderFault
    write_fault_promise (program, writes) unasked same cause tried =
        let told = told_accepted writes.finds in
        folder_promise command is_read told.files told.is_told unasked same cause (inr (program, ((held command is_read program told, writes.wrote, read_before program writes), same)), unasked) tried

    -- memory ran out in the write
    write_memory_promise : WritesC name names folder folder' (Err refused.Mem) → source' ≡ source → out' ≡ out → HasCause false folder.faults folder'.faults → Tried no_memory_line note note' → Promise words before after Memory
    write_memory_promise (program, writes) unasked same cause tried =
        let told = told_accepted writes.finds in
        memory_promise command is_read told.files told.is_told unasked same cause (inr (program, ((held command is_read program told, writes.wrote, read_before program writes), same)), unasked) tried

    -- the C was not written, or not told
    pub refused_promise : (why : Stop) (status : Status) → EmitsFiles name names folder folder' out out' (Err why) → source' ≡ source → HasCause (is_folder_fault {A = Unit {0}} (Err why)) folder.faults folder'.faults → TellsStop why note note' status → Promise words before after status
    refused_promise stop.Sink status told unasked cause (tried, e) = at_status command is_read SinkFault status e (emit_sink_promise told unasked cause tried)
    refused_promise stop.Input status (never, same) unasked cause tells = absurd never
    refused_promise stop.Folder status (inl asked, same) unasked cause tells = stopped_promise command is_read stop.Folder status asked unasked same cause tells
    refused_promise stop.Folder status (inr wrote, same) unasked cause (tried, e) = at_status command is_read FolderFault status e (write_fault_promise wrote unasked same cause tried)
    refused_promise stop.Mem status (inl asked, same) unasked cause tells = stopped_promise command is_read stop.Mem status asked unasked same cause tells
    refused_promise stop.Mem status (inr wrote, same) unasked cause (tried, e) = at_status command is_read Memory status e (write_memory_promise wrote unasked same cause tried)
    refused_promise (stop.NoFile other) status (stops, same) unasked cause tells = stopped_promise command is_read (stop.NoFile other) status stops unasked same cause tells
    refused_promise (stop.Broken other rule row column) status (stops, same) unasked cause tells = stopped_promise command is_read (stop.Broken other rule row column) status stops unasked same cause tells
    refused_promise stop.NotBuilt status (stops, same) unasked cause tells = stopped_promise command is_read stop.NotBuilt status stops unasked same cause tells

  -- `check` of files
  module _ (names : List (List ℕ)) (is_read : command_of words ≡ Some (Check names)) where
    abbrev command_check : Command
    command_check = Check names

    -- the words don't ask for C
    checks_only : (files : Contents) (status : Status) → Emits words files before after status
    checks_only files status name other asks = let never : command_check ≡ Emit name other = same_command command_check is_read (Emit name other) asks in absurd (cc never)

    -- a prefix of the line is on `out`
    accepted_prefix : (input : List ℕ) (program : Plain) (told : Accepted folder.files names (Some program)) (result : Result (Unit {0}) Failed) → IsTold source.left input → source' ≡ source → Put accepted_line out out' result → Answers told.files input (λ answer. GoesNoFurther answer input before after)
    accepted_prefix input program told result is_left unasked put verdict is = record {
      out = each_some out.held _ (λ held e.
          let prefix = gave_prefix out.held out'.held held accepted_line result e put.taken in
          (prefix.0, subst (λ whole. IsPrefix prefix.0 whole) (sym (ap (λ answer. answer.out) (answers_plain command_check is_read program told input verdict is))) prefix.1, prefix.2));
      taken = takes_nothing told.files input is_left unasked verdict;
    }

    -- the files were accepted, and this was told
    pub check_promise : TellsAccepted names folder folder' out out' (Ok tt) → source' ≡ source → HasCause false folder.faults folder'.faults → note' ≡ note → Promise words before after (Exit 0)
    check_promise tells unasked cause quiet =
        let program = tells.program in
        let told = told_accepted tells.finds in
        let files = told.files in
        let input = input_of source.left in
        let is_left = input_told source.left in
        let plain = held command_check is_read program told in
        let e = answers_plain command_check is_read program told input in
        let calm : out'.faults ≡ out.faults = tells.told.cause.stayed refl in
        let same : note'.faults ≡ note.faults = ap (λ n. n.faults) quiet in
        let asked = asked_all names tells.finds.sources folder folder' tells.finds.finds in
        let did : Answers files input (λ answer. Did answer before after (Exit 0)) =
        λ verdict is. subst (λ answer. Did answer before after (Exit 0)) (sym (e verdict is))
        (record {
          same_status = refl;
          files = still_told folder.files folder'.files files told.is_told asked.unchanged;
          out = each_some out.held _ (λ held g. gave out.held out'.held held accepted_line g tells.told.taken);
          note = each_some note.held _ (λ held g. ap (λ n. n.held) quiet ∙ (g ∙ ap Some (sym (append-nil held))));
          rest = still_told source.left source'.left input is_left (ap (λ s. s.left) unasked);
        }) in (
          files,
          input,
          told.is_told,
          is_left,
          keeps words files input before after (Exit 0)
              (λ verdict is calm. inl (did verdict is))
              (λ verdict is _. did verdict is)
              (checks_only files (Exit 0))
              (omega arith, (command_check, program, reads command_check is_read, plain, refl))
              (settles_as files input (Exit 0) (Exit 0) (λ verdict is. ap (λ answer. answer.status) (e verdict is)) (inl (inl refl)))
              (λ none. absurd (begins command_check is_read none))
              (hides_note (Exit 0) (cause.stayed refl) (dry_of unasked) calm (λ lt. absurd (omega arith)))
              (grows cause (asks_none unasked) (stays_grown out.faults out'.faults calm) (omega arith, omega arith))
              (accepted_prefix input program told (Ok tt) is_left unasked tells.told)
              (acts command_check is_read files input (Exit 0) (inr (program, plain, (asked, tells.finds.have), tells.told), unasked))
              quiet,
        )

    -- the line was refused
    check_sink_promise : TellsAccepted names folder folder' out out' (Err (record {})) → source' ≡ source → HasCause false folder.faults folder'.faults → Tried output_fault_line note note' → Promise words before after SinkFault
    check_sink_promise tells unasked cause tried =
        let program = tells.program in
        let told = told_accepted tells.finds in
        let input = input_of source.left in
        let e = answers_plain command_check is_read program told input in
        let rose : Rose out.faults out'.faults = tells.told.cause.rose refl in
        sink_promise command_check is_read told.files input told.is_told (input_told source.left) (dry_of unasked)
        (accepted_prefix input program told (Err (record {})) (input_told source.left) unasked tells.told)
        (λ verdict is. subst (λ answer. Excused before after answer.status) (sym (e verdict is)) (inr (inr rose)))
        rose (tells.told.cause.no_lower, tells.told.cause.by_one) cause
        (checks_only told.files SinkFault)
        (inr (program, held command_check is_read program told, (asked_all names tells.finds.sources folder folder' tells.finds.finds, tells.finds.have), tells.told), unasked)
        tried

    -- the files weren't accepted, or this wasn't told
    pub unchecked_promise : (why : Stop) (status : Status) → ChecksFiles names folder folder' out out' (Err why) → source' ≡ source → HasCause (is_folder_fault {A = Unit {0}} (Err why)) folder.faults folder'.faults → TellsStop why note note' status → Promise words before after status
    unchecked_promise stop.Sink status told unasked cause (tried, e) = at_status command_check is_read SinkFault status e (check_sink_promise told unasked cause tried)
    unchecked_promise stop.Input status (stops, same) unasked cause tells = stopped_promise command_check is_read stop.Input status stops unasked same cause tells
    unchecked_promise stop.Folder status (stops, same) unasked cause tells = stopped_promise command_check is_read stop.Folder status stops unasked same cause tells
    unchecked_promise stop.Mem status (stops, same) unasked cause tells = stopped_promise command_check is_read stop.Mem status stops unasked same cause tells
    unchecked_promise (stop.NoFile other) status (stops, same) unasked cause tells = stopped_promise command_check is_read (stop.NoFile other) status stops unasked same cause tells
    unchecked_promise (stop.Broken other rule row column) status (stops, same) unasked cause tells = stopped_promise command_check is_read (stop.Broken other rule row column) status stops unasked same cause tells
    unchecked_promise stop.NotBuilt status (stops, same) unasked cause tells = stopped_promise command_check is_read stop.NotBuilt status stops unasked same cause tells
