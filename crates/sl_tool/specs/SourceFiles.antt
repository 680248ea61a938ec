-- The files that a command names, as sources: which are there, what comes of reading them, and what program they hold.
use Rattle.std.specs.Prelude.{◌≡◌, ℕ, List, [], ◌∷◌, ◌++◌, map, Option, Some, None, Result, Ok, Err}
use Rattle.std.specs.List.{All}
use Rattle.sl_outside.specs.Folder.{Contents}
use Rattle.sl_text.specs.declared.fault.Broken.{Broken}
use Rattle.sl_tree.specs.declared.tree.File.{File}
use Rattle.sl_plain.specs.declared.program.Plain.{Plain}
use Rattle.sl_plain.specs.Reading.{plain_of}
use Rattle.sl_tool.specs.Accepting.{HasTree, IsFirstBroken}

-- a file that was named, and its bytes
pub record SourceFile : Type 0 where
  pub name : List ℕ
  pub bytes : List ℕ

-- the names of sources, in order
abbrev pub names_of : List SourceFile → List (List ℕ)
names_of sources = map (λ source. source.name) sources

-- the sources are the files of these names, in order
pub record AreSources (files : Contents) (names : List (List ℕ)) (sources : List SourceFile) : Type 0 where
  pub named : names_of sources ≡ names
  pub held : All (λ source. files source.name ≡ Some source.bytes) sources

-- a file with this name is there
abbrev pub IsThere : Contents → List ℕ → Type 0
IsThere files name = (bytes : List ℕ) × (files name ≡ Some bytes)

-- of the files of these names, this is the first that isn't there
abbrev pub IsFirstMissing : Contents → List (List ℕ) → List ℕ → Type 0
IsFirstMissing files names name =
    (earlier : List (List ℕ)) × (later : List (List ℕ)) × (names ≡ earlier ++ name ∷ later)
    × All (λ other. IsThere files other) earlier × (files name ≡ None)

-- Verdicts -------------------------------------------------------------------------------------------------------------

-- the number with which a source is read. So far each is read by itself, as the only file of a program
abbrev pub only_file : ℕ
only_file = 0

-- the sources have these trees, in order
abbrev pub HaveTrees : List SourceFile → List File → Type 0
HaveTrees [] [] = Unit {0}
HaveTrees [] (tree ∷ trees) = ⊥
HaveTrees (source ∷ sources) [] = ⊥
HaveTrees (source ∷ sources) (tree ∷ trees) = HasTree only_file source.bytes tree × HaveTrees sources trees

-- of the sources, this is the first that has no tree, and this is the rule that it breaks first, and where
abbrev pub IsFirstBrokenOf : List SourceFile → SourceFile → Broken → Type 0
IsFirstBrokenOf sources source broken =
    (earlier : List SourceFile) × (later : List SourceFile) × (trees : List File) × (sources ≡ earlier ++ source ∷ later)
    × HaveTrees earlier trees × IsFirstBroken only_file source.bytes broken

-- what comes of reading sources
pub data Verdict : Type 0 where
  -- this is the first source that breaks a rule, and this is the rule, and where
  Breaks : (source : SourceFile) (broken : Broken) → Verdict
  -- all have trees
  Trees : (trees : List File) → Verdict

-- this comes of reading these sources. There is just one such verdict (`one_verdict` and `each_verdict` of proofs/Judged.antt)
abbrev pub Judged : List SourceFile → Verdict → Type 0
Judged sources (Breaks source broken) = IsFirstBrokenOf sources source broken
Judged sources (Trees trees) = HaveTrees sources trees

-- the program of the one tree, where there is one and it is plain
abbrev pub program_of : List File → Option Plain
program_of [] = None
program_of (tree ∷ []) = plain_of tree
program_of (tree ∷ other ∷ trees) = None

-- the sources have trees, which are one plain tree with this program; or aren't one plain tree
abbrev pub HaveProgram : List SourceFile → Option Plain → Type 0
HaveProgram sources program = (trees : List File) × HaveTrees sources trees × (program_of trees ≡ program)

-- How sources are found -------------------------------------------------------------------------------------------------

-- a source before others, or the name of a file that isn't there
abbrev pub with_source : List ℕ → Option (List ℕ) → Result (List SourceFile) (List ℕ) → Result (List SourceFile) (List ℕ)
with_source name None others = Err name
with_source name (Some bytes) (Ok sources) = Ok (record { name = name; bytes = bytes } ∷ sources)
with_source name (Some bytes) (Err missing) = Err missing

-- the sources of these names, or the first name that isn't there
abbrev pub sources_of : Contents → List (List ℕ) → Result (List SourceFile) (List ℕ)
sources_of files [] = Ok []
sources_of files (name ∷ names) = with_source name (files name) (sources_of files names)
