use Rattle.std.proofs.Common.{◌≡◌, refl, ap₂, ◌∙◌, subst}
use Rattle.std.specs.Prelude.{Ok, Err}
use Rattle.sl_outside.specs.Counts.{HasCause}
use Rattle.sl_outside.specs.Folder.{is_fault, folder_state}
use Rattle.sl_outside.specs.Sink.{PutGives, sink_state}
use Rattle.sl_tool.specs.Written.{written}
use Rattle.sl_tool.specs.Answer.{c_name}
use Rattle.sl_tool.specs.Texts.{emitted_line}
use Rattle.sl_words.specs.WordsReading.{names_seen}
use Rattle.sl_tool.proofs.Asking.{program_is_ok, emit_stopped}
use Rattle.sl_tool.proofs.Writing.{program_written, write_refused, write_refused_cause}
use Rattle.sl_tool.proofs.emitting.emit_files.Goals as goal

pub c_text-requires : goal.c_text-requires
c_text-requires g c = program_is_ok c.in_ok-program.ensures.read

-- the write was refused
pub returns-in_err-write-clause-emitted : goal.returns-in_err-write-clause-emitted
returns-in_err-write-clause-emitted g c =
    let before = folder_state (g.F.Folder.files c.args.folder.now) (g.F.Folder.faults c.args.folder.now) (g.F.Folder.calls c.args.folder.now) (g.F.Folder.log c.args.folder.now) in
    let read = folder_state (g.F.Folder.files c.read_program.new.folder) (g.F.Folder.faults c.read_program.new.folder) (g.F.Folder.calls c.read_program.new.folder) (g.F.Folder.log c.read_program.new.folder) in
    let after = folder_state (g.F.Folder.files c.write.new.self) (g.F.Folder.faults c.write.new.self) (g.F.Folder.calls c.write.new.self) (g.F.Folder.log c.write.new.self) in
    let named : c.as_str-2.result.now ≡ c_name c.args.name.now = c.as_str-2.ensures.value ∙ c.in_ok-target.ensures.ok in
    let sent : c.as_slice-2.result.now ≡ written c.in_ok-program.program = c.as_slice-2.ensures ∙ c.in_ok-text.ensures.text in
    write_refused c.args.name.now (names_seen c.args.names.now) before after
    (sink_state (g.K.Sink.held c.args.out.now) (g.K.Sink.faults c.args.out.now) (g.K.Sink.calls c.args.out.now))
    c.in_err-write.field-0.0 c.from_residual-in_err-write.result c.from_residual-in_err-write.ensures.1 (
      c.in_ok-program.program,
      program_written c.args.name.now (names_seen c.args.names.now) c.in_ok-program.program before read after c.as_str-2.result.now c.as_slice-2.result.now (Err c.in_err-write.field-0.0)
          c.in_ok-program.ensures.read c.in_err-write.ensures.counted named sent c.in_err-write.ensures.written c.in_err-write.ensures.logged,
    )

-- the line was put
pub returns-in-Ok-clause-emitted : goal.returns-in-Ok-clause-emitted
returns-in-Ok-clause-emitted g c =
    let before = folder_state (g.F.Folder.files c.args.folder.now) (g.F.Folder.faults c.args.folder.now) (g.F.Folder.calls c.args.folder.now) (g.F.Folder.log c.args.folder.now) in
    let read = folder_state (g.F.Folder.files c.read_program.new.folder) (g.F.Folder.faults c.read_program.new.folder) (g.F.Folder.calls c.read_program.new.folder) (g.F.Folder.log c.read_program.new.folder) in
    let after = folder_state (g.F.Folder.files c.write.new.self) (g.F.Folder.faults c.write.new.self) (g.F.Folder.calls c.write.new.self) (g.F.Folder.log c.write.new.self) in
    let named : c.as_str-2.result.now ≡ c_name c.args.name.now = c.as_str-2.ensures.value ∙ c.in_ok-target.ensures.ok in
    let sent : c.as_slice-2.result.now ≡ written c.in_ok-program.program = c.as_slice-2.ensures ∙ c.in_ok-text.ensures.text in
    let line : c.as_bytes.result.now ≡ emitted_line (c_name c.args.name.now) (written c.in_ok-program.program) =
    c.as_bytes.ensures.value ∙ (c.in_ok-line.ensures ∙ ap₂ emitted_line (c.as_str.ensures.value ∙ c.in_ok-target.ensures.ok) (c.as_slice.ensures ∙ c.in_ok-text.ensures.text)) in
    record {
      program = c.in_ok-program.program;
      writes =
          program_written c.args.name.now (names_seen c.args.names.now) c.in_ok-program.program before read after c.as_str-2.result.now c.as_slice-2.result.now (Ok tt)
          c.in_ok-program.ensures.read c.in_ok-write.ensures.counted named sent c.in_ok-write.ensures.written c.in_ok-write.ensures.logged;
      is_tree = c.in_ok-text.ensures.means;
      is_text = c.in_ok-text.ensures.reads;
      told = record {
        taken = subst (λ line. PutGives (g.K.Sink.held c.args.out.now) (g.K.Sink.held c.put.new.self) line (Ok tt)) line c.in-Ok.ensures.taken;
        cause = c.in-Ok.ensures.cause;
        counted = c.in-Ok.ensures.counted;
      };
    }

-- the line was refused
pub returns-clause-emitted : goal.returns-clause-emitted
returns-clause-emitted g c =
    let before = folder_state (g.F.Folder.files c.args.folder.now) (g.F.Folder.faults c.args.folder.now) (g.F.Folder.calls c.args.folder.now) (g.F.Folder.log c.args.folder.now) in
    let read = folder_state (g.F.Folder.files c.read_program.new.folder) (g.F.Folder.faults c.read_program.new.folder) (g.F.Folder.calls c.read_program.new.folder) (g.F.Folder.log c.read_program.new.folder) in
    let after = folder_state (g.F.Folder.files c.write.new.self) (g.F.Folder.faults c.write.new.self) (g.F.Folder.calls c.write.new.self) (g.F.Folder.log c.write.new.self) in
    let named : c.as_str-2.result.now ≡ c_name c.args.name.now = c.as_str-2.ensures.value ∙ c.in_ok-target.ensures.ok in
    let sent : c.as_slice-2.result.now ≡ written c.in_ok-program.program = c.as_slice-2.ensures ∙ c.in_ok-text.ensures.text in
    let line : c.as_bytes.result.now ≡ emitted_line (c_name c.args.name.now) (written c.in_ok-program.program) =
    c.as_bytes.ensures.value ∙ (c.in_ok-line.ensures ∙ ap₂ emitted_line (c.as_str.ensures.value ∙ c.in_ok-target.ensures.ok) (c.as_slice.ensures ∙ c.in_ok-text.ensures.text)) in
    record {
      program = c.in_ok-program.program;
      writes =
          program_written c.args.name.now (names_seen c.args.names.now) c.in_ok-program.program before read after c.as_str-2.result.now c.as_slice-2.result.now (Ok tt)
          c.in_ok-program.ensures.read c.in_ok-write.ensures.counted named sent c.in_ok-write.ensures.written c.in_ok-write.ensures.logged;
      is_tree = c.in_ok-text.ensures.means;
      is_text = c.in_ok-text.ensures.reads;
      told = record {
        taken = subst (λ line. PutGives (g.K.Sink.held c.args.out.now) (g.K.Sink.held c.put.new.self) line (Err (record {}))) line c.in-Err.ensures.taken;
        cause = c.in-Err.ensures.cause;
        counted = c.in-Err.ensures.counted;
      };
    }

-- where the write was refused for a fault, the folder's count rose
pub returns-in_err-write-clause-cause : goal.returns-in_err-write-clause-cause
returns-in_err-write-clause-cause g c =
    write_refused_cause c.in_err-write.field-0.0 c.from_residual-in_err-write.result (g.F.Folder.faults c.args.folder.now) (g.F.Folder.faults c.write.new.self) c.from_residual-in_err-write.ensures.1
    (subst (λ faults. HasCause (is_fault {A = Unit {0}} (Err c.in_err-write.field-0.0)) faults (g.F.Folder.faults c.write.new.self)) (c.in_ok-program.ensures.cause.stayed refl) c.in_err-write.ensures.cause)

-- memory ran out before the write: in making the C
pub returns-in_err-text-clause-emitted : goal.returns-in_err-text-clause-emitted
returns-in_err-text-clause-emitted g c =
    emit_stopped c.args.name.now (names_seen c.args.names.now) c.in_ok-program.program
    (folder_state (g.F.Folder.files c.args.folder.now) (g.F.Folder.faults c.args.folder.now) (g.F.Folder.calls c.args.folder.now) (g.F.Folder.log c.args.folder.now))
    (folder_state (g.F.Folder.files c.read_program.new.folder) (g.F.Folder.faults c.read_program.new.folder) (g.F.Folder.calls c.read_program.new.folder) (g.F.Folder.log c.read_program.new.folder))
    (sink_state (g.K.Sink.held c.args.out.now) (g.K.Sink.faults c.args.out.now) (g.K.Sink.calls c.args.out.now))
    c.from_residual-in_err-text.result c.from_residual-in_err-text.ensures.1 c.in_ok-program.ensures.read

-- memory ran out before the write: in making its name
pub returns-in_err-target-clause-emitted : goal.returns-in_err-target-clause-emitted
returns-in_err-target-clause-emitted g c =
    emit_stopped c.args.name.now (names_seen c.args.names.now) c.in_ok-program.program
    (folder_state (g.F.Folder.files c.args.folder.now) (g.F.Folder.faults c.args.folder.now) (g.F.Folder.calls c.args.folder.now) (g.F.Folder.log c.args.folder.now))
    (folder_state (g.F.Folder.files c.read_program.new.folder) (g.F.Folder.faults c.read_program.new.folder) (g.F.Folder.calls c.read_program.new.folder) (g.F.Folder.log c.read_program.new.folder))
    (sink_state (g.K.Sink.held c.args.out.now) (g.K.Sink.faults c.args.out.now) (g.K.Sink.calls c.args.out.now))
    c.from_residual-in_err-target.result c.from_residual-in_err-target.ensures.1 c.in_ok-program.ensures.read

-- memory ran out before the write: in making its line
pub returns-in_err-line-clause-emitted : goal.returns-in_err-line-clause-emitted
returns-in_err-line-clause-emitted g c =
    emit_stopped c.args.name.now (names_seen c.args.names.now) c.in_ok-program.program
    (folder_state (g.F.Folder.files c.args.folder.now) (g.F.Folder.faults c.args.folder.now) (g.F.Folder.calls c.args.folder.now) (g.F.Folder.log c.args.folder.now))
    (folder_state (g.F.Folder.files c.read_program.new.folder) (g.F.Folder.faults c.read_program.new.folder) (g.F.Folder.calls c.read_program.new.folder) (g.F.Folder.log c.read_program.new.folder))
    (sink_state (g.K.Sink.held c.args.out.now) (g.K.Sink.faults c.args.out.now) (g.K.Sink.calls c.args.out.now))
    c.from_residual-in_err-line.result c.from_residual-in_err-line.ensures.1 c.in_ok-program.ensures.read
