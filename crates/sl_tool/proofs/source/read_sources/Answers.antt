use Rattle.std.proofs.Common.{take, get_or, drop, suc, [], None, Some, sym, ap, ◌∙◌, subst, refl, Bor, List, ℕ, ◌∷◌, ◌++◌}
use Rattle.std.specs.Prelude.{Ok, Err}
use Rattle.sl_outside.specs.Folder.{ReadCall, GoesOn, ReadGives, folder_state}
use Rattle.sl_words.specs.WordsReading.{names_seen}
use Rattle.sl_tool.specs.Parts.{Finds, FindsSources, sources_seen}
use Rattle.sl_tool.proofs.Told.{finds_read}
use Rattle.sl_tool.proofs.Asking.{found_one_more, asked_up_to, names_cut, names_more, sources_more, read_refused, read_stopped}
use Rattle.sl_tool.proofs.source.read_sources.Goals as goal

-- a read was refused
pub returns-in_err-bytes-clause-read : goal.returns-in_err-bytes-clause-read
returns-in_err-bytes-clause-read g c =
    let names = c.args.names.now in
    let i = c.loop-name.name-index in
    let none : Bor (List ℕ) = record { ref_ptr = (0, 0); now = [] } in
    let name = (get_or names i none).now in
    let before = folder_state (g.F.Folder.files c.args.folder.now) (g.F.Folder.faults c.args.folder.now) (g.F.Folder.calls c.args.folder.now) (g.F.Folder.log c.args.folder.now) in
    let between = folder_state (g.F.Folder.files c.loop-name.folder) (g.F.Folder.faults c.loop-name.folder) (g.F.Folder.calls c.loop-name.folder) (g.F.Folder.log c.loop-name.folder) in
    let after = folder_state (g.F.Folder.files c.read.new.self) (g.F.Folder.faults c.read.new.self) (g.F.Folder.calls c.read.new.self) (g.F.Folder.log c.read.new.self) in
    read_refused (names_seen names) before after c.in_err-bytes.field-0.0 c.from_residual.result c.from_residual.ensures.1 name
    (asked_up_to (names_seen (take i names)) (sources_seen c.loop-name.sources) name before between after c.loop-name.invariant.0 (Err c.in_err-bytes.field-0.0)
    (record { calls = c.read.ensures.counted; unchanged = c.read.ensures.unchanged; gives = c.in_err-bytes.ensures.found; log = c.in_err-bytes.ensures.logged })
    (names_seen names) (names_seen (drop (suc i) names)) (names_cut names i none c.loop-name-test.true))

-- a file isn't there
pub returns-in_default-clause-read : goal.returns-in_default-clause-read
returns-in_default-clause-read g c =
    let names = c.args.names.now in
    let i = c.loop-name.name-index in
    let none : Bor (List ℕ) = record { ref_ptr = (0, 0); now = [] } in
    let name = (get_or names i none).now in
    let before = folder_state (g.F.Folder.files c.args.folder.now) (g.F.Folder.faults c.args.folder.now) (g.F.Folder.calls c.args.folder.now) (g.F.Folder.log c.args.folder.now) in
    let between = folder_state (g.F.Folder.files c.loop-name.folder) (g.F.Folder.faults c.loop-name.folder) (g.F.Folder.calls c.loop-name.folder) (g.F.Folder.log c.loop-name.folder) in
    let after = folder_state (g.F.Folder.files c.read.new.self) (g.F.Folder.faults c.read.new.self) (g.F.Folder.calls c.read.new.self) (g.F.Folder.log c.read.new.self) in
    record {
      asked =
          asked_up_to (names_seen (take i names)) (sources_seen c.loop-name.sources) name before between after c.loop-name.invariant.0 (Ok None)
          (record { calls = c.read.ensures.counted; unchanged = c.read.ensures.unchanged; gives = subst (λ found. ReadGives between.files name (Ok found)) c.in_default.is c.in_ok-bytes.ensures.found; log = subst (λ found. GoesOn between.log after.log (ReadCall name (Ok found) ∷ [])) c.in_default.is c.in_ok-bytes.ensures.logged })
          (names_seen names) (names_seen (drop (suc i) names)) (names_cut names i none c.loop-name-test.true);
      missing =
          subst (λ told. Finds told name None) c.loop-name.invariant.0.unchanged
          (finds_read between.files name c.in_ok-bytes.field-0 None c.in_ok-bytes.ensures.found c.in_default.is);
    }

-- there was no room for one more source
pub returns-in_err-push-clause-read : goal.returns-in_err-push-clause-read
returns-in_err-push-clause-read g c =
    let names = c.args.names.now in
    let i = c.loop-name.name-index in
    let none : Bor (List ℕ) = record { ref_ptr = (0, 0); now = [] } in
    let name = (get_or names i none).now in
    let before = folder_state (g.F.Folder.files c.args.folder.now) (g.F.Folder.faults c.args.folder.now) (g.F.Folder.calls c.args.folder.now) (g.F.Folder.log c.args.folder.now) in
    let between = folder_state (g.F.Folder.files c.loop-name.folder) (g.F.Folder.faults c.loop-name.folder) (g.F.Folder.calls c.loop-name.folder) (g.F.Folder.log c.loop-name.folder) in
    let after = folder_state (g.F.Folder.files c.read.new.self) (g.F.Folder.faults c.read.new.self) (g.F.Folder.calls c.read.new.self) (g.F.Folder.log c.read.new.self) in
    read_stopped (names_seen names) before after c.from_residual-in_err-push.result c.from_residual-in_err-push.ensures.1 name c.in-Some.bytes
    (asked_up_to (names_seen (take i names)) (sources_seen c.loop-name.sources) name before between after c.loop-name.invariant.0 (Ok (Some c.in-Some.bytes))
    (record { calls = c.read.ensures.counted; unchanged = c.read.ensures.unchanged; gives = subst (λ found. ReadGives between.files name (Ok found)) c.in-Some.is c.in_ok-bytes.ensures.found; log = subst (λ found. GoesOn between.log after.log (ReadCall name (Ok found) ∷ [])) c.in-Some.is c.in_ok-bytes.ensures.logged })
    (names_seen names) (names_seen (drop (suc i) names)) (names_cut names i none c.loop-name-test.true))

-- one more source
pub loop-name-preserved : goal.loop-name-preserved
loop-name-preserved g c =
    let names = c.args.names.now in
    let i = c.loop-name.name-index in
    let none : Bor (List ℕ) = record { ref_ptr = (0, 0); now = [] } in
    let name = (get_or names i none).now in
    let before = folder_state (g.F.Folder.files c.args.folder.now) (g.F.Folder.faults c.args.folder.now) (g.F.Folder.calls c.args.folder.now) (g.F.Folder.log c.args.folder.now) in
    let between = folder_state (g.F.Folder.files c.loop-name.folder) (g.F.Folder.faults c.loop-name.folder) (g.F.Folder.calls c.loop-name.folder) (g.F.Folder.log c.loop-name.folder) in
    let after = folder_state (g.F.Folder.files c.read.new.self) (g.F.Folder.faults c.read.new.self) (g.F.Folder.calls c.read.new.self) (g.F.Folder.log c.read.new.self) in
    let found : Finds before.files name (Some c.in-Some.bytes) =
    subst (λ told. Finds told name (Some c.in-Some.bytes)) c.loop-name.invariant.0.unchanged
    (finds_read between.files name c.in_ok-bytes.field-0 (Some c.in-Some.bytes) c.in_ok-bytes.ensures.found c.in-Some.is) in
    let more = found_one_more (names_seen (take i names)) (sources_seen c.loop-name.sources) name before between after c.loop-name.invariant.0 c.in-Some.bytes
    (record { calls = c.read.ensures.counted; unchanged = c.read.ensures.unchanged; gives = subst (λ found. ReadGives between.files name (Ok found)) c.in-Some.is c.in_ok-bytes.ensures.found; log = subst (λ found. GoesOn between.log after.log (ReadCall name (Ok found) ∷ [])) c.in-Some.is c.in_ok-bytes.ensures.logged }) found in (
      subst (λ all. FindsSources all (sources_seen c.push.new.self) before after) (sym (names_more names i none c.loop-name-test.true))
          (subst (λ all. FindsSources (names_seen (take i names) ++ name ∷ []) all before after) (sym (ap sources_seen (c.in_ok-push.ensures.ok) ∙ sources_more c.loop-name.sources (record { name = get_or names i none; bytes = c.in-Some.bytes }))) more),
      c.in_ok-bytes.ensures.cause.stayed refl ∙ c.loop-name.invariant.1,
    )
