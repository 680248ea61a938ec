-- What the adapters over the system hold: what they stand over, how many of their calls answered a fault, and how often they were
-- called. What reading a byte and writing bytes whole do to what they stand over, and what the errors of the system mean.
use Rattle.std.specs.Prelude.{ℕ, List, [], ◌∷◌, Option, Some, None, Result, Ok, Err}
use Rattle.std.specs.Io.KnownBytes.{Keeps, Appends, Consumes, IsAtEnd}
use Rattle.std.specs.declared.io.ErrorKind.{ErrorKind}
use Rattle.std.specs.declared.io.ErrorKind.TheVariants.{NotFound, NotADirectory, OutOfMemory}
use Rattle.sl_outside.specs.Sink.{IsPrefix}
use Rattle.sl_outside.specs.declared.folder.Refused.{Refused}
use Rattle.sl_outside.specs.declared.folder.Refused.TheVariants.{Failed, Mem}
use Rattle.sl_outside.specs.declared.adapters.disk.FolderOnDisk.{FolderOnDisk}
use Rattle.sl_outside.specs.declared.adapters.streams.SourceOnInput.{SourceOnInput}
use Rattle.sl_outside.specs.declared.adapters.streams.SinkOnOutput.{SinkOnOutput}

-- the parts of each, under a name of its own: how many calls answered a fault
abbrev pub disk_faults : {R File Directory : Type 0} → FolderOnDisk R File Directory → ℕ
disk_faults folder = folder.faults

-- how often it was called
abbrev pub disk_calls : {R File Directory : Type 0} → FolderOnDisk R File Directory → ℕ
disk_calls folder = folder.calls

-- what it reads from
abbrev pub input_reader : {R : Type 0} → SourceOnInput R → R
input_reader source = source.reader

-- how many calls answered a fault
abbrev pub input_faults : {R : Type 0} → SourceOnInput R → ℕ
input_faults source = source.faults

-- how often it was called
abbrev pub input_calls : {R : Type 0} → SourceOnInput R → ℕ
input_calls source = source.calls

-- what it writes to
abbrev pub output_writer : {W : Type 0} → SinkOnOutput W → W
output_writer sink = sink.writer

-- how many calls answered a fault
abbrev pub output_faults : {W : Type 0} → SinkOnOutput W → ℕ
output_faults sink = sink.faults

-- how often it was called
abbrev pub output_calls : {W : Type 0} → SinkOnOutput W → ℕ
output_calls sink = sink.calls

-- The first of the bytes that a reader has left comes and is taken, and None comes only where none is left. After an error the
-- same bytes are left. Of a reader that tells nothing, nothing is said
abbrev pub ByteRead : {E : Type 0} → Option (List ℕ) → Option (List ℕ) → Result (Option ℕ) E → Type 0
ByteRead old new (Ok None) = IsAtEnd old × Keeps old new
ByteRead old new (Ok (Some byte)) = Consumes old new (byte ∷ [])
ByteRead old new (Err error) = Keeps old new

-- After Ok a writer holds the bytes behind what it held, and after an error some prefix of the bytes behind it. Of a writer that
-- tells nothing, nothing is said
abbrev pub WholeWritten : {E : Type 0} → Option (List ℕ) → Option (List ℕ) → List ℕ → Result (Unit {0}) E → Type 0
WholeWritten old new bytes (Ok done) = Appends old new bytes
WholeWritten old new bytes (Err error) = (prefix : List ℕ) × IsPrefix prefix bytes × Appends old new prefix

-- what an error of the system at opening or reading a file means, by its kind, where the file is there: want of memory, or a fault
abbrev pub refused_for : ErrorKind → Refused
refused_for OutOfMemory = Mem
refused_for kind = Failed

-- what a read answers where the file can't be opened. A name that doesn't exist, also one below a file, isn't there
abbrev pub read_answer : ErrorKind → Result (Option (List ℕ)) Refused
read_answer NotFound = Ok None
read_answer NotADirectory = Ok None
read_answer kind = Err (refused_for kind)
