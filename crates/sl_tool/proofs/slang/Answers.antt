use Rattle.std.proofs.Common.{◌≡◌, None, Some, refl, sym, map, string_bytes, subst}
use Rattle.sl_outside.specs.Folder.{folder_state}
use Rattle.sl_outside.specs.Sink.{sink_state}
use Rattle.sl_outside.specs.Source.{source_state}
use Rattle.sl_words.specs.Words.{Run, Emit, Check, BeginsNoCommand}
use Rattle.sl_words.specs.WordsReading.{command_of, names_seen}
use Rattle.sl_tool.proofs.Paths.{usage_promise, words_memory_promise, end_promise, stop_promise, emit_promise, refused_promise, check_promise, unchecked_promise}
use Rattle.sl_tool.proofs.slang.Goals as goal

-- the words have no reading
pub returns-in-Ok-None : goal.returns-in-Ok-None
returns-in-Ok-None g c =
    usage_promise
    (map string_bytes c.args.words.now.items)
    (folder_state (g.F.Folder.files c.args.folder.now) (g.F.Folder.faults c.args.folder.now) (g.F.Folder.calls c.args.folder.now) (g.F.Folder.log c.args.folder.now))
    (folder_state (g.F.Folder.files c.args.folder.now) (g.F.Folder.faults c.args.folder.now) (g.F.Folder.calls c.args.folder.now) (g.F.Folder.log c.args.folder.now))
    (source_state (g.S.Source.left c.args.input.now) (g.S.Source.faults c.args.input.now) (g.S.Source.calls c.args.input.now))
    (source_state (g.S.Source.left c.args.input.now) (g.S.Source.faults c.args.input.now) (g.S.Source.calls c.args.input.now))
    (sink_state (g.K.Sink.held c.args.out.now) (g.K.Sink.faults c.args.out.now) (g.K.Sink.calls c.args.out.now))
    (sink_state (g.K.Sink.held c.args.out.now) (g.K.Sink.faults c.args.out.now) (g.K.Sink.calls c.args.out.now))
    (sink_state (g.N.Sink.held c.args.note.now) (g.N.Sink.faults c.args.note.now) (g.N.Sink.calls c.args.note.now))
    (sink_state (g.N.Sink.held c.tell_usage.new.note) (g.N.Sink.faults c.tell_usage.new.note) (g.N.Sink.calls c.tell_usage.new.note))
    c.tell_usage.result
    (let h = rw c.in-Ok-None.field-0-is at c.in-Ok-None.ensures.read in subst (λ words. command_of (map string_bytes words) ≡ None) c.as_slice.ensures.value h)
    refl refl refl c.tell_usage.ensures

-- memory ran out in reading them
pub returns-in-Err : goal.returns-in-Err
returns-in-Err g c =
    words_memory_promise
    (map string_bytes c.args.words.now.items)
    (folder_state (g.F.Folder.files c.args.folder.now) (g.F.Folder.faults c.args.folder.now) (g.F.Folder.calls c.args.folder.now) (g.F.Folder.log c.args.folder.now))
    (folder_state (g.F.Folder.files c.args.folder.now) (g.F.Folder.faults c.args.folder.now) (g.F.Folder.calls c.args.folder.now) (g.F.Folder.log c.args.folder.now))
    (source_state (g.S.Source.left c.args.input.now) (g.S.Source.faults c.args.input.now) (g.S.Source.calls c.args.input.now))
    (source_state (g.S.Source.left c.args.input.now) (g.S.Source.faults c.args.input.now) (g.S.Source.calls c.args.input.now))
    (sink_state (g.K.Sink.held c.args.out.now) (g.K.Sink.faults c.args.out.now) (g.K.Sink.calls c.args.out.now))
    (sink_state (g.K.Sink.held c.args.out.now) (g.K.Sink.faults c.args.out.now) (g.K.Sink.calls c.args.out.now))
    (sink_state (g.N.Sink.held c.args.note.now) (g.N.Sink.faults c.args.note.now) (g.N.Sink.calls c.args.note.now))
    (sink_state (g.N.Sink.held c.tell_no_memory.new.note) (g.N.Sink.faults c.tell_no_memory.new.note) (g.N.Sink.calls c.tell_no_memory.new.note))
    c.tell_no_memory.result
    (λ none. let h = rw c.in-Err.is at (c.read_words.ensures.at_once (subst (λ words. BeginsNoCommand (map string_bytes words)) (sym c.as_slice.ensures.value) none)) in absurd (cc h))
    refl refl refl c.tell_no_memory.ensures.tried c.tell_no_memory.ensures.status

-- the program was run
pub returns-in-Ok : goal.returns-in-Ok
returns-in-Ok g c =
    end_promise
    (map string_bytes c.args.words.now.items)
    (folder_state (g.F.Folder.files c.args.folder.now) (g.F.Folder.faults c.args.folder.now) (g.F.Folder.calls c.args.folder.now) (g.F.Folder.log c.args.folder.now))
    (folder_state (g.F.Folder.files c.run_files.new.folder) (g.F.Folder.faults c.run_files.new.folder) (g.F.Folder.calls c.run_files.new.folder) (g.F.Folder.log c.run_files.new.folder))
    (source_state (g.S.Source.left c.args.input.now) (g.S.Source.faults c.args.input.now) (g.S.Source.calls c.args.input.now))
    (source_state (g.S.Source.left c.run_files.new.input) (g.S.Source.faults c.run_files.new.input) (g.S.Source.calls c.run_files.new.input))
    (sink_state (g.K.Sink.held c.args.out.now) (g.K.Sink.faults c.args.out.now) (g.K.Sink.calls c.args.out.now))
    (sink_state (g.K.Sink.held c.run_files.new.out) (g.K.Sink.faults c.run_files.new.out) (g.K.Sink.calls c.run_files.new.out))
    (sink_state (g.N.Sink.held c.args.note.now) (g.N.Sink.faults c.args.note.now) (g.N.Sink.calls c.args.note.now))
    (sink_state (g.N.Sink.held c.tell_end.new.note) (g.N.Sink.faults c.tell_end.new.note) (g.N.Sink.calls c.tell_end.new.note))
    c.in-Run.turns (names_seen c.as_slice-names.result.now)
    (let h = rw (c.in-Ok-Some.field-0-is, c.in-Run.is) at c.in-Ok-Some.ensures.read in
    subst (λ files. command_of (map string_bytes c.args.words.now.items) ≡ Some (Run c.in-Run.turns (names_seen files))) (sym c.as_slice-names.ensures)
    (subst (λ words. command_of (map string_bytes words) ≡ Some (Run c.in-Run.turns (names_seen c.in-Run.files))) c.as_slice.ensures.value h))
    c.in-Ok.end c.tell_end.result c.in-Ok.ensures.ran c.in-Ok.ensures.cause c.tell_end.ensures

-- how it ended is no undefined case
pub tell_end-requires : goal.tell_end-requires
tell_end-requires g c = c.in-Ok.ensures.ran.3

-- it was not
pub returns-in-Run : goal.returns-in-Run
returns-in-Run g c =
    stop_promise
    (map string_bytes c.args.words.now.items)
    (folder_state (g.F.Folder.files c.args.folder.now) (g.F.Folder.faults c.args.folder.now) (g.F.Folder.calls c.args.folder.now) (g.F.Folder.log c.args.folder.now))
    (folder_state (g.F.Folder.files c.run_files.new.folder) (g.F.Folder.faults c.run_files.new.folder) (g.F.Folder.calls c.run_files.new.folder) (g.F.Folder.log c.run_files.new.folder))
    (source_state (g.S.Source.left c.args.input.now) (g.S.Source.faults c.args.input.now) (g.S.Source.calls c.args.input.now))
    (source_state (g.S.Source.left c.run_files.new.input) (g.S.Source.faults c.run_files.new.input) (g.S.Source.calls c.run_files.new.input))
    (sink_state (g.K.Sink.held c.args.out.now) (g.K.Sink.faults c.args.out.now) (g.K.Sink.calls c.args.out.now))
    (sink_state (g.K.Sink.held c.run_files.new.out) (g.K.Sink.faults c.run_files.new.out) (g.K.Sink.calls c.run_files.new.out))
    (sink_state (g.N.Sink.held c.args.note.now) (g.N.Sink.faults c.args.note.now) (g.N.Sink.calls c.args.note.now))
    (sink_state (g.N.Sink.held c.tell_stop.new.note) (g.N.Sink.faults c.tell_stop.new.note) (g.N.Sink.calls c.tell_stop.new.note))
    c.in-Run.turns (names_seen c.as_slice-names.result.now)
    (let h = rw (c.in-Ok-Some.field-0-is, c.in-Run.is) at c.in-Ok-Some.ensures.read in
    subst (λ files. command_of (map string_bytes c.args.words.now.items) ≡ Some (Run c.in-Run.turns (names_seen files))) (sym c.as_slice-names.ensures)
    (subst (λ words. command_of (map string_bytes words) ≡ Some (Run c.in-Run.turns (names_seen c.in-Run.files))) c.as_slice.ensures.value h))
    c.in-Err-run_files.stop c.tell_stop.result c.in-Err-run_files.ensures.ran c.in-Err-run_files.ensures.cause c.tell_stop.ensures

-- the C was written
pub returns-in-Ok-emit_files : goal.returns-in-Ok-emit_files
returns-in-Ok-emit_files g c =
    emit_promise
    (map string_bytes c.args.words.now.items)
    (folder_state (g.F.Folder.files c.args.folder.now) (g.F.Folder.faults c.args.folder.now) (g.F.Folder.calls c.args.folder.now) (g.F.Folder.log c.args.folder.now))
    (folder_state (g.F.Folder.files c.emit_files.new.folder) (g.F.Folder.faults c.emit_files.new.folder) (g.F.Folder.calls c.emit_files.new.folder) (g.F.Folder.log c.emit_files.new.folder))
    (source_state (g.S.Source.left c.args.input.now) (g.S.Source.faults c.args.input.now) (g.S.Source.calls c.args.input.now))
    (source_state (g.S.Source.left c.args.input.now) (g.S.Source.faults c.args.input.now) (g.S.Source.calls c.args.input.now))
    (sink_state (g.K.Sink.held c.args.out.now) (g.K.Sink.faults c.args.out.now) (g.K.Sink.calls c.args.out.now))
    (sink_state (g.K.Sink.held c.emit_files.new.out) (g.K.Sink.faults c.emit_files.new.out) (g.K.Sink.calls c.emit_files.new.out))
    (sink_state (g.N.Sink.held c.args.note.now) (g.N.Sink.faults c.args.note.now) (g.N.Sink.calls c.args.note.now))
    (sink_state (g.N.Sink.held c.args.note.now) (g.N.Sink.faults c.args.note.now) (g.N.Sink.calls c.args.note.now))
    c.in-Emit.name.now (names_seen c.as_slice-in-Emit.result.now)
    (let h = rw (c.in-Ok-Some.field-0-is, c.in-Emit.is) at c.in-Ok-Some.ensures.read in
    subst (λ files. command_of (map string_bytes c.args.words.now.items) ≡ Some (Emit c.in-Emit.name.now (names_seen files))) (sym c.as_slice-in-Emit.ensures)
    (subst (λ words. command_of (map string_bytes words) ≡ Some (Emit c.in-Emit.name.now (names_seen c.in-Emit.files))) c.as_slice.ensures.value h))
    c.in-Ok-emit_files.ensures.emitted refl c.in-Ok-emit_files.ensures.cause refl

-- it was not
pub returns-in-Emit : goal.returns-in-Emit
returns-in-Emit g c =
    refused_promise
    (map string_bytes c.args.words.now.items)
    (folder_state (g.F.Folder.files c.args.folder.now) (g.F.Folder.faults c.args.folder.now) (g.F.Folder.calls c.args.folder.now) (g.F.Folder.log c.args.folder.now))
    (folder_state (g.F.Folder.files c.emit_files.new.folder) (g.F.Folder.faults c.emit_files.new.folder) (g.F.Folder.calls c.emit_files.new.folder) (g.F.Folder.log c.emit_files.new.folder))
    (source_state (g.S.Source.left c.args.input.now) (g.S.Source.faults c.args.input.now) (g.S.Source.calls c.args.input.now))
    (source_state (g.S.Source.left c.args.input.now) (g.S.Source.faults c.args.input.now) (g.S.Source.calls c.args.input.now))
    (sink_state (g.K.Sink.held c.args.out.now) (g.K.Sink.faults c.args.out.now) (g.K.Sink.calls c.args.out.now))
    (sink_state (g.K.Sink.held c.emit_files.new.out) (g.K.Sink.faults c.emit_files.new.out) (g.K.Sink.calls c.emit_files.new.out))
    (sink_state (g.N.Sink.held c.args.note.now) (g.N.Sink.faults c.args.note.now) (g.N.Sink.calls c.args.note.now))
    (sink_state (g.N.Sink.held c.tell_stop-in-Err-emit_files.new.note) (g.N.Sink.faults c.tell_stop-in-Err-emit_files.new.note) (g.N.Sink.calls c.tell_stop-in-Err-emit_files.new.note))
    c.in-Emit.name.now (names_seen c.as_slice-in-Emit.result.now)
    (let h = rw (c.in-Ok-Some.field-0-is, c.in-Emit.is) at c.in-Ok-Some.ensures.read in
    subst (λ files. command_of (map string_bytes c.args.words.now.items) ≡ Some (Emit c.in-Emit.name.now (names_seen files))) (sym c.as_slice-in-Emit.ensures)
    (subst (λ words. command_of (map string_bytes words) ≡ Some (Emit c.in-Emit.name.now (names_seen c.in-Emit.files))) c.as_slice.ensures.value h))
    c.in-Err-emit_files.stop c.tell_stop-in-Err-emit_files.result c.in-Err-emit_files.ensures.emitted refl c.in-Err-emit_files.ensures.cause c.tell_stop-in-Err-emit_files.ensures

-- the files were accepted
pub returns-in-Ok-check_files : goal.returns-in-Ok-check_files
returns-in-Ok-check_files g c =
    check_promise
    (map string_bytes c.args.words.now.items)
    (folder_state (g.F.Folder.files c.args.folder.now) (g.F.Folder.faults c.args.folder.now) (g.F.Folder.calls c.args.folder.now) (g.F.Folder.log c.args.folder.now))
    (folder_state (g.F.Folder.files c.check_files.new.folder) (g.F.Folder.faults c.check_files.new.folder) (g.F.Folder.calls c.check_files.new.folder) (g.F.Folder.log c.check_files.new.folder))
    (source_state (g.S.Source.left c.args.input.now) (g.S.Source.faults c.args.input.now) (g.S.Source.calls c.args.input.now))
    (source_state (g.S.Source.left c.args.input.now) (g.S.Source.faults c.args.input.now) (g.S.Source.calls c.args.input.now))
    (sink_state (g.K.Sink.held c.args.out.now) (g.K.Sink.faults c.args.out.now) (g.K.Sink.calls c.args.out.now))
    (sink_state (g.K.Sink.held c.check_files.new.out) (g.K.Sink.faults c.check_files.new.out) (g.K.Sink.calls c.check_files.new.out))
    (sink_state (g.N.Sink.held c.args.note.now) (g.N.Sink.faults c.args.note.now) (g.N.Sink.calls c.args.note.now))
    (sink_state (g.N.Sink.held c.args.note.now) (g.N.Sink.faults c.args.note.now) (g.N.Sink.calls c.args.note.now))
    (names_seen c.as_slice-in-Check.result.now)
    (let h = rw (c.in-Ok-Some.field-0-is, c.in-Check.is) at c.in-Ok-Some.ensures.read in
    subst (λ files. command_of (map string_bytes c.args.words.now.items) ≡ Some (Check (names_seen files))) (sym c.as_slice-in-Check.ensures)
    (subst (λ words. command_of (map string_bytes words) ≡ Some (Check (names_seen c.in-Check.files))) c.as_slice.ensures.value h))
    c.in-Ok-check_files.ensures.checked refl c.in-Ok-check_files.ensures.cause refl

-- they were not
pub returns : goal.returns
returns g c =
    unchecked_promise
    (map string_bytes c.args.words.now.items)
    (folder_state (g.F.Folder.files c.args.folder.now) (g.F.Folder.faults c.args.folder.now) (g.F.Folder.calls c.args.folder.now) (g.F.Folder.log c.args.folder.now))
    (folder_state (g.F.Folder.files c.check_files.new.folder) (g.F.Folder.faults c.check_files.new.folder) (g.F.Folder.calls c.check_files.new.folder) (g.F.Folder.log c.check_files.new.folder))
    (source_state (g.S.Source.left c.args.input.now) (g.S.Source.faults c.args.input.now) (g.S.Source.calls c.args.input.now))
    (source_state (g.S.Source.left c.args.input.now) (g.S.Source.faults c.args.input.now) (g.S.Source.calls c.args.input.now))
    (sink_state (g.K.Sink.held c.args.out.now) (g.K.Sink.faults c.args.out.now) (g.K.Sink.calls c.args.out.now))
    (sink_state (g.K.Sink.held c.check_files.new.out) (g.K.Sink.faults c.check_files.new.out) (g.K.Sink.calls c.check_files.new.out))
    (sink_state (g.N.Sink.held c.args.note.now) (g.N.Sink.faults c.args.note.now) (g.N.Sink.calls c.args.note.now))
    (sink_state (g.N.Sink.held c.tell_stop-in-Err-check_files.new.note) (g.N.Sink.faults c.tell_stop-in-Err-check_files.new.note) (g.N.Sink.calls c.tell_stop-in-Err-check_files.new.note))
    (names_seen c.as_slice-in-Check.result.now)
    (let h = rw (c.in-Ok-Some.field-0-is, c.in-Check.is) at c.in-Ok-Some.ensures.read in
    subst (λ files. command_of (map string_bytes c.args.words.now.items) ≡ Some (Check (names_seen files))) (sym c.as_slice-in-Check.ensures)
    (subst (λ words. command_of (map string_bytes words) ≡ Some (Check (names_seen c.in-Check.files))) c.as_slice.ensures.value h))
    c.in-Err-check_files.stop c.tell_stop-in-Err-check_files.result c.in-Err-check_files.ensures.checked refl c.in-Err-check_files.ensures.cause c.tell_stop-in-Err-check_files.ensures
