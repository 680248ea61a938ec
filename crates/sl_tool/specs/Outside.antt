-- The outside of a call: a folder, an input and two outputs, as the call found them or left them.
use Rattle.std.specs.Prelude.{◌≡◌, Option, Some, None}
use Rattle.sl_outside.specs.Counts.{Rose}
use Rattle.sl_outside.specs.Folder.{FolderState}
use Rattle.sl_outside.specs.Source.{SourceState}
use Rattle.sl_outside.specs.Sink.{SinkState}

pub record Outside : Type 0 where
  pub folder : FolderState
  pub input : SourceState
  pub out : SinkState
  pub note : SinkState

-- these four
abbrev pub outside : FolderState → SourceState → SinkState → SinkState → Outside
outside folder input out note = record { folder = folder; input = input; out = out; note = note }

-- this is what is told, if anything is
abbrev pub IsTold : {A : Type 0} → Option A → A → Type 0
IsTold None x = Unit {0}
IsTold (Some told) x = told ≡ x

-- whether a count of faults rose in a call. One that stands at its end is taken as one that rose
abbrev pub FolderRose : Outside → Outside → Type 0
FolderRose before after = Rose before.folder.faults after.folder.faults

abbrev pub InputRose : Outside → Outside → Type 0
InputRose before after = Rose before.input.faults after.input.faults

abbrev pub OutRose : Outside → Outside → Type 0
OutRose before after = Rose before.out.faults after.out.faults

abbrev pub NoteRose : Outside → Outside → Type 0
NoteRose before after = Rose before.note.faults after.note.faults

-- nothing failed: no count rose, and none stands at its end
pub record NothingFailed (before after : Outside) : Type 0 where
  pub folder : ¬ FolderRose before after
  pub input : ¬ InputRose before after
  pub out : ¬ OutRose before after
  pub note : ¬ NoteRose before after
