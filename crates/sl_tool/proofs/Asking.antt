-- The files of a command are asked for one after another.
use Rattle.std.proofs.Common.{◌≡◌, ℕ, zero, suc, ◌+◌, ◌<◌, List, [], ◌∷◌, ◌++◌, length, get_or, take, drop, Option, Some, None, refl, sym, ap, ◌∙◌, subst, inl, inr, Bor}
use Rattle.std.specs.Prelude.{IfSome, Result, Ok, Err, IsErrAnd}
use Rattle.std.proofs.lemmas.List.{append_assoc, map-append, take_more}
use Rattle.std.proofs.lemmas.List.Elements.{All-append, All-cons, All-nil}
use Rattle.sl_outside.specs.declared.folder.Refused.{Refused}
use Rattle.sl_outside.specs.declared.folder.Refused.TheVariants as refused
use Rattle.sl_outside.specs.Counts.{one_more}
use Rattle.sl_outside.specs.Folder.{Contents, FolderCall, ReadCall, GoesOn, ReadGives, FolderState}
use Rattle.sl_outside.specs.Source.{SourceState}
use Rattle.sl_outside.specs.Sink.{SinkState}
use Rattle.sl_tool.specs.declared.source.SourceFile as found
use Rattle.c_machine.specs.declared.ending.End.{End}
use Rattle.sl_tool.specs.declared.stop.Stop.{Stop}
use Rattle.sl_tree.specs.declared.tree.File.{File}
use Rattle.sl_plain.specs.declared.program.Plain.{Plain}
use Rattle.sl_plain.specs.Program.{IsProgram}
use Rattle.sl_plain.proofs.PlainTrees.{is_program}
use Rattle.sl_tool.specs.declared.stop.Stop.TheVariants as stop
use Rattle.sl_tool.specs.SourceFiles.{SourceFile, AreSources, program_of}
use Rattle.sl_words.specs.WordsReading.{names_seen}
use Rattle.sl_tool.specs.Stopping.{stop_of}
use Rattle.sl_tool.specs.Promise.{more_calls, reads_of, AskedAll, AskedUpTo}
use Rattle.sl_tool.specs.Parts.{Finds, FindsSources, FindsAccepted, ReadsSources, ReadsProgram, RunsFiles, EmitsFiles, ChecksFiles, GivesNone, source_seen, sources_seen}
use Rattle.sl_tool.proofs.Printing.{cut_at}

-- what a folder tells of its calls goes on with some, and then with more
pub goes_on : (a b c : Option (List FolderCall)) (xs ys : List FolderCall) → GoesOn a b xs → GoesOn b c ys → GoesOn a c (xs ++ ys)
goes_on None b c xs ys h k = tt
goes_on (Some calls) b c xs ys h k = let told : GoesOn (Some (calls ++ xs)) c ys = subst (λ b. GoesOn b c ys) h k in told ∙ ap Some (append_assoc calls xs ys)

-- the reads of sources, and of one more
reads_more : (sources : List SourceFile) (source : SourceFile) → reads_of sources ++ ReadCall source.name (Ok (Some source.bytes)) ∷ [] ≡ reads_of (sources ++ source ∷ [])
reads_more sources source = sym (map-append (λ source. ReadCall source.name (Ok (Some source.bytes))) sources (source ∷ []))

-- one call more is the last one
more_one : (n calls : ℕ) → more_calls (suc n) calls ≡ one_more (more_calls n calls)
more_one zero calls = refl
more_one (suc n) calls = more_one n (one_more calls)

-- the calls for names and one more
calls_for_one_more : (names : List (List ℕ)) (name : List ℕ) (calls : ℕ) → more_calls (length (names ++ name ∷ [])) calls ≡ one_more (more_calls (length names) calls)
calls_for_one_more [] name calls = refl
calls_for_one_more (first ∷ names) name calls = calls_for_one_more names name (one_more calls)

-- all names were asked for
abbrev pub asked_all : (names : List (List ℕ)) (sources : List SourceFile) (before after : FolderState) → FindsSources names sources before after → AskedAll names before after
asked_all names sources before after finds = record {
  calls = finds.calls;
  unchanged = finds.unchanged;
  sources = sources;
  named = finds.named;
  told = finds.told;
  log = finds.log;
}

-- a source behind others
one_more_source : (held : Contents) (names : List (List ℕ)) (sources : List SourceFile) (name bytes : List ℕ) → AreSources held names sources → held name ≡ Some bytes → AreSources held (names ++ name ∷ []) (sources ++ record { name = name; bytes = bytes } ∷ [])
one_more_source held names sources name bytes are is = record {
  named = map-append (λ source. source.name) sources (record { name = name; bytes = bytes } ∷ []) ∙ ap (λ all. all ++ name ∷ []) are.named;
  held =
      All-append (λ source. held source.name ≡ Some source.bytes) sources (record { name = name; bytes = bytes } ∷ []) are.held
      (All-cons (λ source. held source.name ≡ Some source.bytes) (record { name = name; bytes = bytes }) [] is (All-nil (λ source. held source.name ≡ Some source.bytes)));
}

-- a file was read by one call, which answered so
pub record ReadOne (name : List ℕ) (answer : Result (Option (List ℕ)) Refused) (before after : FolderState) : Type 0 where
  pub calls : after.calls ≡ one_more before.calls
  pub unchanged : after.files ≡ before.files
  pub gives : ReadGives before.files name answer
  pub log : GoesOn before.log after.log (ReadCall name answer ∷ [])

module _ (earlier : List (List ℕ)) (sources : List SourceFile) (name : List ℕ) (before between after : FolderState) (finds : FindsSources earlier sources before between) where
  -- one more file was found
  pub found_one_more : (bytes : List ℕ) → ReadOne name (Ok (Some bytes)) between after → Finds before.files name (Some bytes) → FindsSources (earlier ++ name ∷ []) (sources ++ record { name = name; bytes = bytes } ∷ []) before after
  found_one_more bytes call is = record {
    calls = call.calls ∙ (ap one_more finds.calls ∙ sym (calls_for_one_more earlier name before.calls));
    unchanged = call.unchanged ∙ finds.unchanged;
    named = map-append (λ source. source.name) sources (record { name = name; bytes = bytes } ∷ []) ∙ ap (λ all. all ++ name ∷ []) finds.named;
    told = at before.files finds.told is;
    log =
        subst (λ calls. GoesOn before.log after.log calls) (reads_more sources (record { name = name; bytes = bytes }))
        (goes_on before.log between.log after.log (reads_of sources) (ReadCall name (Ok (Some bytes)) ∷ []) finds.log call.log);
  }
    where
      at : (told : Option Contents) → IfSome told (λ held. AreSources held earlier sources) → Finds told name (Some bytes) → IfSome told (λ held. AreSources held (earlier ++ name ∷ []) (sources ++ record { name = name; bytes = bytes } ∷ []))
      at None are is = tt
      at (Some held) are is = one_more_source held earlier sources name bytes are is

  -- the names up to one were asked for
  pub asked_up_to : (answer : Result (Option (List ℕ)) Refused) → ReadOne name answer between after → (names later : List (List ℕ)) → names ≡ earlier ++ name ∷ later → AskedUpTo names name answer before after
  asked_up_to answer call names later order = record {
    earlier = earlier;
    later = later;
    order = order;
    calls = call.calls ∙ (ap one_more finds.calls ∙ sym (more_one (length earlier) before.calls));
    unchanged = call.unchanged ∙ finds.unchanged;
    sources = sources;
    named = finds.named;
    told = finds.told;
    answered = subst (λ files. ReadGives files name answer) finds.unchanged call.gives;
    log = goes_on before.log between.log after.log (reads_of sources) (ReadCall name answer ∷ []) finds.log call.log;
  }

-- the names up to one, that one, and those behind it
pub names_cut : (names : List (Bor (List ℕ))) (i : ℕ) (d : Bor (List ℕ)) → i < length names → names_seen names ≡ names_seen (take i names) ++ (get_or names i d).now ∷ names_seen (drop (suc i) names)
names_cut names i d within =
    ap names_seen (sym (cut_at names i (get_or names i d) d within refl))
    ∙ map-append (λ name. name.now) (take i names) (get_or names i d ∷ drop (suc i) names)

-- the names up to one, and that one
pub names_more : (names : List (Bor (List ℕ))) (i : ℕ) (d : Bor (List ℕ)) → i < length names → names_seen (take (i + 1) names) ≡ names_seen (take i names) ++ (get_or names i d).now ∷ []
names_more names i d within = ap names_seen (take_more names i d within) ∙ map-append (λ name. name.now) (take i names) (get_or names i d ∷ [])

-- sources as the code has them, and one more
pub sources_more : (sources : List found.SourceFile) (source : found.SourceFile) → sources_seen (sources ++ source ∷ []) ≡ sources_seen sources ++ source_seen source ∷ []
sources_more sources source = map-append source_seen sources (source ∷ [])

-- a read that was refused stops the reading
pub read_refused : (names : List (List ℕ)) (before after : FolderState) (why : Refused) (result : Result (List found.SourceFile) Stop) → IsErrAnd result (λ stop. stop ≡ stop_of why) → (name : List ℕ) → AskedUpTo names name (Err why) before after → ReadsSources names before after result
read_refused names before after why (Ok sources) is name asked = absurd is
read_refused names before after refused.Failed (Err stop) is name asked = subst (λ stop. ReadsSources names before after (Err stop)) (sym is) (name, asked)
read_refused names before after refused.Mem (Err stop) is name asked = subst (λ stop. ReadsSources names before after (Err stop)) (sym is) (inr (name, Err refused.Mem, tt, asked))

-- and so does want of memory
pub read_stopped : (names : List (List ℕ)) (before after : FolderState) (result : Result (List found.SourceFile) Stop) → IsErrAnd result (λ other. other ≡ stop.Mem) → (name bytes : List ℕ) → AskedUpTo names name (Ok (Some bytes)) before after → ReadsSources names before after result
read_stopped names before after (Ok sources) is name bytes asked = absurd is
read_stopped names before after (Err other) is name bytes asked = subst (λ other. ReadsSources names before after (Err other)) (sym is) (inr (name, Ok (Some bytes), tt, asked))

-- want of memory after all was read
pub program_stopped : (names : List (List ℕ)) (before after : FolderState) (result : Result Plain Stop) → IsErrAnd result (λ other. other ≡ stop.Mem) → AskedAll names before after → ReadsProgram names before after result
program_stopped names before after (Ok program) is asked = absurd is
program_stopped names before after (Err other) is asked = subst (λ other. ReadsProgram names before after (Err other)) (sym is) (inl asked)

-- sources that have no program stop the reading
pub sources_stopped : (names : List (List ℕ)) (sources : List SourceFile) (before after : FolderState) → FindsSources names sources before after → (why : Stop) → GivesNone sources why → ReadsProgram names before after (Err why)
sources_stopped names sources before after finds (stop.Broken name rule line column) breaks = record { sources = sources; finds = finds; breaks = breaks }
sources_stopped names sources before after finds stop.Mem is = inl (asked_all names sources before after finds)
sources_stopped names sources before after finds (stop.NoFile name) never = absurd never
sources_stopped names sources before after finds stop.NotBuilt never = absurd never
sources_stopped names sources before after finds stop.Folder never = absurd never
sources_stopped names sources before after finds stop.Input never = absurd never
sources_stopped names sources before after finds stop.Sink never = absurd never

-- the program of a plain tree is well formed
pub is_ok : (trees : List File) (program : Plain) → program_of trees ≡ Some program → IsProgram program
is_ok [] program e = absurd (cc e)
is_ok (tree ∷ []) program e = is_program tree program e
is_ok (tree ∷ other ∷ trees) program e = absurd (cc e)

-- so is one that was read
pub program_is_ok : {names : List (List ℕ)} {program : Plain} {before after : FolderState} → FindsAccepted names (Some program) before after → IsProgram program
program_is_ok {program = program} finds = let (trees, have, is) = finds.have in is_ok trees program is

-- memory ran out after a program was read, before it was run
pub run_stopped : (turns : ℕ) (names : List (List ℕ)) (program : Plain) (before after : FolderState) (source : SourceState) (out : SinkState) (result : Result End Stop) → IsErrAnd result (λ other. other ≡ stop.Mem) → FindsAccepted names (Some program) before after → RunsFiles turns names before after source source out out result
run_stopped turns names program before after source out (Ok end) is finds = absurd is
run_stopped turns names program before after source out (Err other) is finds = subst (λ other. RunsFiles turns names before after source source out out (Err other)) (sym is) (inl (inl (asked_all names finds.sources before after finds.finds), refl, refl))

-- or written
pub emit_stopped : (name : List ℕ) (names : List (List ℕ)) (program : Plain) (before after : FolderState) (out : SinkState) (result : Result (Unit {0}) Stop) → IsErrAnd result (λ other. other ≡ stop.Mem) → FindsAccepted names (Some program) before after → EmitsFiles name names before after out out result
emit_stopped name names program before after out (Ok done) is finds = absurd is
emit_stopped name names program before after out (Err other) is finds = subst (λ other. EmitsFiles name names before after out out (Err other)) (sym is) (inl (inl (asked_all names finds.sources before after finds.finds)), refl)
