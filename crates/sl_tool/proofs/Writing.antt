-- What a folder holds where bytes were written under a name.
use Rattle.std.proofs.Common.{◌≡◌, ℕ, List, [], ◌∷◌, Bool, true, false, Option, Some, None, refl, sym, ap, ◌∙◌, subst, inr}
use Rattle.std.specs.Prelude.{IfSome, IsSomeAnd, Result, Ok, Err, IsErrAnd, cond}
use Rattle.std.specs.Str.{bytes_eq}
use Rattle.std.proofs.lemmas.Slice.Eq.{bytes_eq-Decides}
use Rattle.sl_outside.specs.declared.folder.Refused.{Refused}
use Rattle.sl_outside.specs.declared.folder.Refused.TheVariants as refused
use Rattle.sl_outside.specs.Counts.{HasCause, one_more}
use Rattle.sl_outside.specs.Folder.{Contents, OthersStay, WriteGives, is_fault, WriteCall, GoesOn, FolderState}
use Rattle.sl_outside.specs.Sink.{SinkState}
use Rattle.sl_tool.specs.declared.stop.Stop.{Stop}
use Rattle.sl_plain.specs.declared.program.Plain.{Plain}
use Rattle.sl_tool.specs.Written.{written}
use Rattle.sl_tool.specs.Stopping.{stop_of}
use Rattle.sl_tool.specs.Parts.{is_folder_fault, FindsAccepted, WritesProgram, WritesC, EmitsFiles}
use Rattle.sl_tool.specs.Answer.{c_name, with_file}
use Rattle.sl_tool.specs.Outside.{IsTold}
use Rattle.sl_tool.specs.Promise.{reads_of}
use Rattle.sl_tool.proofs.Asking.{goes_on}

-- under a name that is tested to be this one or not
at_name : (old new : Contents) (name bytes other : List ℕ) → new name ≡ Some bytes → OthersStay name old new → (same : Bool) → bytes_eq other name ≡ same → new other ≡ cond same (Some bytes) (old other)
at_name old new name bytes other there stay true e = ap new ((bytes_eq-Decides other name).0 e) ∙ there
at_name old new name bytes other there stay false e = stay other (λ is. let f : bytes_eq other name ≡ true = (bytes_eq-Decides other name).1 is in cc)

-- bytes under a name, and nothing else changed
with_file_is : (old new : Contents) (name bytes : List ℕ) → new name ≡ Some bytes → OthersStay name old new → new ≡ with_file old name bytes
with_file_is old new name bytes there stay = λ i other. at_name old new name bytes other there stay (bytes_eq other name) refl i

some_with_file : (old : Contents) (after : Option Contents) (name bytes : List ℕ) → IsSomeAnd after (λ new. (new name ≡ Some bytes) × OthersStay name old new) → after ≡ Some (with_file old name bytes)
some_with_file old None name bytes h = absurd h
some_with_file old (Some new) name bytes (there, stay) = ap Some (with_file_is old new name bytes there stay)

-- a folder that tells its files holds the bytes under the name, and else what it held
pub written_told : (before after : Option Contents) (files : Contents) (name bytes : List ℕ) → IsTold before files → WriteGives before after name bytes (Ok tt) → IfSome before (λ _. after ≡ Some (with_file files name bytes))
written_told None after files name bytes told h = tt
written_told (Some old) after files name bytes told h = some_with_file old after name bytes h ∙ ap (λ files. Some (with_file files name bytes)) told

-- the program was read, and then its C was written
pub program_written : (name : List ℕ) (names : List (List ℕ)) (program : Plain) (before read after : FolderState) (target sent : List ℕ) (result : Result (Unit {0}) Refused) → FindsAccepted names (Some program) before read → after.calls ≡ one_more read.calls → target ≡ c_name name → sent ≡ written program → WriteGives read.files after.files target sent result → GoesOn read.log after.log (WriteCall target sent result ∷ []) → WritesProgram name names program before after result
program_written name names program before read after target sent result finds once named sends gives goes = record {
  read = read;
  finds = finds;
  wrote = record {
    calls = once ∙ ap one_more finds.finds.calls;
    gives =
        subst (λ files. WriteGives files after.files (c_name name) (written program) result) finds.finds.unchanged
        (subst (λ bytes. WriteGives read.files after.files (c_name name) bytes result) sends (subst (λ name. WriteGives read.files after.files name sent result) named gives));
    sources = finds.sources;
    named = finds.finds.named;
    told = finds.finds.told;
    log =
        goes_on before.log read.log after.log (reads_of finds.sources) (WriteCall (c_name name) (written program) result ∷ []) finds.finds.log
        (subst (λ bytes. GoesOn read.log after.log (WriteCall (c_name name) bytes result ∷ [])) sends (subst (λ name. GoesOn read.log after.log (WriteCall name sent result ∷ [])) named goes));
  };
  same = refl;
}

-- a write that was refused stops `emit` for what it was refused for
pub write_refused : (name : List ℕ) (names : List (List ℕ)) (before after : FolderState) (out : SinkState) (why : Refused) (result : Result (Unit {0}) Stop) → IsErrAnd result (λ stop. stop ≡ stop_of why) → WritesC name names before after (Err why) → EmitsFiles name names before after out out result
write_refused name names before after out why (Ok done) is wrote = absurd is
write_refused name names before after out refused.Failed (Err stop) is wrote = subst (λ stop. EmitsFiles name names before after out out (Err stop)) (sym is) (inr wrote, refl)
write_refused name names before after out refused.Mem (Err stop) is wrote = subst (λ stop. EmitsFiles name names before after out out (Err stop)) (sym is) (inr wrote, refl)

-- and it is a fault of the folder just where the write was refused for one
pub write_refused_cause : (why : Refused) (result : Result (Unit {0}) Stop) (before after : ℕ) → IsErrAnd result (λ stop. stop ≡ stop_of why) → HasCause (is_fault {A = Unit {0}} (Err why)) before after → HasCause (is_folder_fault result) before after
write_refused_cause why (Ok done) before after is cause = absurd is
write_refused_cause refused.Failed (Err stop) before after is cause = subst (λ stop. HasCause (is_folder_fault {A = Unit {0}} (Err stop)) before after) (sym is) cause
write_refused_cause refused.Mem (Err stop) before after is cause = subst (λ stop. HasCause (is_folder_fault {A = Unit {0}} (Err stop)) before after) (sym is) cause
