-- The files that a folder tells, or that it can be taken to have where it tells nothing, with the sources that were found.
use Rattle.std.proofs.Common.{◌≡◌, ℕ, List, [], ◌∷◌, ◌++◌, map, Bool, true, false, cond, Option, Some, None, refl, sym, ap, ap₂, ◌∙◌, subst}
use Rattle.std.specs.Prelude.{IfSome}
use Rattle.std.specs.Str.{bytes_eq}
use Rattle.std.proofs.lemmas.Slice.Eq.{bytes_eq-Decides}
use Rattle.std.proofs.lemmas.List.Elements.{All-nil, All-cons}
use Rattle.sl_outside.specs.Folder.{Contents, FolderState}
use Rattle.sl_text.specs.declared.rule.Rule.{Rule}
use Rattle.sl_text.specs.declared.fault.Broken.{Broken as BrokenRule}
use Rattle.sl_tree.specs.declared.tree.File.{File}
use Rattle.sl_plain.specs.declared.program.Plain.{Plain}
use Rattle.sl_tool.specs.Accepting.{HasTree, IsFirstBroken}
use Rattle.sl_tool.specs.SourceFiles.{SourceFile, names_of, AreSources, IsThere, IsFirstMissing, only_file, HaveTrees, IsFirstBrokenOf, HaveProgram, program_of}
use Rattle.sl_tool.specs.Outside.{IsTold}
use Rattle.sl_tool.specs.Parts.{Finds, FindsMissing, FindsBroken, FindsAccepted}
use Rattle.sl_tool.proofs.Sources.{sources_there}

-- contents that have this under one name, and these bytes under every other
abbrev only : List ℕ → Option (List ℕ) → List ℕ → Contents
only name found others other = cond (bytes_eq other name) found (Some others)

only_is : (name : List ℕ) (found : Option (List ℕ)) (others : List ℕ) → only name found others name ≡ found
only_is name found others = ap (λ same. cond same found (Some others)) ((bytes_eq-Decides name name).1 refl)

-- of names with one that isn't there, some first one isn't
missing_of : (earlier later : List (List ℕ)) (name : List ℕ) → IsFirstMissing (only name None []) (earlier ++ name ∷ later) name
missing_of [] later name = ([], later, refl, All-nil (λ other. IsThere (only name None []) other), only_is name None [])
missing_of (other ∷ earlier) later name = at (missing_of earlier later name) (bytes_eq other name) refl
  where
    at : IsFirstMissing (only name None []) (earlier ++ name ∷ later) name → (same : Bool) → bytes_eq other name ≡ same → IsFirstMissing (only name None []) (other ∷ earlier ++ name ∷ later) name
    at behind true e =
        ([], earlier ++ name ∷ later, ap (λ n. n ∷ earlier ++ name ∷ later) ((bytes_eq-Decides other name).0 e), All-nil (λ other. IsThere (only name None []) other), only_is name None [])
    at (before, after, order, there, none) false e = (
      other ∷ before,
      after,
      ap (λ names. other ∷ names) order,
      All-cons (λ other. IsThere (only name None []) other) other before ([], ap (λ same. cond same None (Some [])) e) there,
      none,
    )

-- the files, where one wasn't found
pub record Missing (told : Option Contents) (names : List (List ℕ)) (name : List ℕ) : Type 0 where
  pub files : Contents
  pub is_told : IsTold told files
  pub missing : IsFirstMissing files names name

pub told_missing : {names : List (List ℕ)} {name : List ℕ} {before after : FolderState} → FindsMissing names name before after → Missing before.files names name
told_missing {names = names} {name = name} {before = before} finds = at before.files finds.asked.told finds.missing
  where
    at : (told : Option Contents) → IfSome told (λ held. AreSources held finds.asked.earlier finds.asked.sources) → Finds told name None → Missing told names name
    at None are none = record {
      files = only name None [];
      is_told = tt;
      missing = subst (λ names. IsFirstMissing (only name None []) names name) (sym finds.asked.order) (missing_of finds.asked.earlier finds.asked.later name);
    }
    at (Some held) are none = record {
      files = held;
      is_told = refl;
      missing = (finds.asked.earlier, finds.asked.later, finds.asked.order, sources_there held finds.asked.earlier finds.asked.sources are, none);
    }

-- the files, where a source breaks a rule
pub record Broken (told : Option Contents) (names : List (List ℕ)) (source : SourceFile) (broken : BrokenRule) : Type 0 where
  pub files : Contents
  pub is_told : IsTold told files
  pub sources : List SourceFile
  pub are : AreSources files names sources
  pub first : IsFirstBrokenOf sources source broken

module _ (name bytes : List ℕ) (broken : BrokenRule) (breaks : IsFirstBroken only_file bytes broken) where
  abbrev it : SourceFile
  it = record { name = name; bytes = bytes }

  -- contents that have the source, and other bytes under every other name
  module _ (others : List ℕ) where
    -- a source with what these contents have under its name
    abbrev again : SourceFile → SourceFile
    again source = record { name = source.name; bytes = cond (bytes_eq source.name name) bytes others }

    held_again : (same : Bool) → cond same (Some bytes) (Some others) ≡ Some (cond same bytes others)
    held_again true = refl
    held_again false = refl

    are_again : (sources : List SourceFile) → AreSources (only name (Some bytes) others) (names_of sources) (map again sources)
    are_again [] = record { named = refl; held = All-nil (λ source. only name (Some bytes) others source.name ≡ Some source.bytes) }
    are_again (source ∷ sources) =
        let behind = are_again sources in
        record {
          named = ap (λ names. source.name ∷ names) behind.named;
          held = All-cons (λ source. only name (Some bytes) others source.name ≡ Some source.bytes) (again source) (map again sources) (held_again (bytes_eq source.name name)) behind.held;
        }

    -- a source of this name is this one
    again_it : (source : SourceFile) → bytes_eq source.name name ≡ true → again source ≡ it
    again_it source e = ap₂ (λ n same. record { name = n; bytes = cond same bytes others }) ((bytes_eq-Decides source.name name).0 e) e

    -- it is the first where it stands first
    first_at_once : (source : SourceFile) (later : List SourceFile) → bytes_eq source.name name ≡ true → IsFirstBrokenOf (map again (source ∷ later)) it broken
    first_at_once source later e = ([], map again later, [], ap (λ s. s ∷ map again later) (again_it source e), tt, breaks)

    -- and behind others, which have a tree
    first_again : (tree : File) → HasTree only_file others tree → (earlier later : List SourceFile) → IsFirstBrokenOf (map again (earlier ++ it ∷ later)) it broken
    first_again tree has [] later = first_at_once it later ((bytes_eq-Decides name name).1 refl)
    first_again tree has (source ∷ earlier) later = at (first_again tree has earlier later) (bytes_eq source.name name) refl
      where
        at : IsFirstBrokenOf (map again (earlier ++ it ∷ later)) it broken → (same : Bool) → bytes_eq source.name name ≡ same → IsFirstBrokenOf (map again (source ∷ earlier ++ it ∷ later)) it broken
        at behind true e = first_at_once source (earlier ++ it ∷ later) e
        at (front, back, trees, order, have, is) false e = (
          again source ∷ front,
          back,
          tree ∷ trees,
          ap (λ all. again source ∷ all) order,
          (subst (λ same. HasTree only_file (cond same bytes others) tree) (sym e) has, have),
          is,
        )

  -- so contents that have the source first among these names there are
  untold_broken : (names : List (List ℕ)) (sources earlier later : List SourceFile) (trees : List File) → names_of sources ≡ names → sources ≡ earlier ++ it ∷ later → HaveTrees earlier trees → Broken None names it broken
  untold_broken names sources [] later trees named order have = record {
    files = only name (Some bytes) bytes;
    is_told = tt;
    sources = map (again bytes) sources;
    are = subst (λ names. AreSources (only name (Some bytes) bytes) names (map (again bytes) sources)) named (are_again bytes sources);
    first = subst (λ all. IsFirstBrokenOf (map (again bytes) all) it broken) (sym order) (first_at_once bytes it later ((bytes_eq-Decides name name).1 refl));
  }
  untold_broken names sources (first ∷ earlier) later [] named order have = absurd have
  untold_broken names sources (first ∷ earlier) later (tree ∷ trees) named order have = record {
    files = only name (Some bytes) first.bytes;
    is_told = tt;
    sources = map (again first.bytes) sources;
    are = subst (λ names. AreSources (only name (Some bytes) first.bytes) names (map (again first.bytes) sources)) named (are_again first.bytes sources);
    first = subst (λ all. IsFirstBrokenOf (map (again first.bytes) all) it broken) (sym order) (first_again first.bytes tree have.0 (first ∷ earlier) later);
  }

pub told_broken : {names : List (List ℕ)} {name : List ℕ} {rule : Rule} {line column : ℕ} {before after : FolderState} → (finds : FindsBroken names name rule line column before after)
    → Broken before.files names (record { name = name; bytes = finds.breaks.bytes }) (record { rule = rule; span = finds.breaks.span })
told_broken {names = names} {name = name} {rule = rule} {before = before} finds = at before.files finds.finds.told
  where
    at : (told : Option Contents) → IfSome told (λ held. AreSources held names finds.sources) → Broken told names (record { name = name; bytes = finds.breaks.bytes }) (record { rule = rule; span = finds.breaks.span })
    at None are =
        let (earlier, later, trees, order, have, breaks) = finds.breaks.first in
        untold_broken name finds.breaks.bytes (record { rule = rule; span = finds.breaks.span }) breaks names finds.sources earlier later trees finds.finds.named order have
    at (Some held) are = record { files = held; is_told = refl; sources = finds.sources; are = are; first = finds.breaks.first }

-- the files, where all sources have trees
pub record Accepted (told : Option Contents) (names : List (List ℕ)) (program : Option Plain) : Type 0 where
  pub files : Contents
  pub is_told : IsTold told files
  pub sources : List SourceFile
  pub are : AreSources files names sources
  pub have : HaveProgram sources program

-- every source with the same bytes
abbrev each_as : List ℕ → List SourceFile → List SourceFile
each_as bytes sources = map (λ source. record { name = source.name; bytes = bytes }) sources

are_each : (bytes : List ℕ) (sources : List SourceFile) → AreSources (λ _. Some bytes) (names_of sources) (each_as bytes sources)
are_each bytes [] = record { named = refl; held = All-nil (λ source. Some bytes ≡ Some source.bytes) }
are_each bytes (source ∷ sources) =
    let others = are_each bytes sources in
    record {
      named = ap (λ names. source.name ∷ names) others.named;
      held = All-cons (λ source. Some bytes ≡ Some source.bytes) (record { name = source.name; bytes = bytes }) (each_as bytes sources) refl others.held;
    }

-- has the same tree
trees_each : (bytes : List ℕ) (tree : File) → HasTree only_file bytes tree → (sources : List SourceFile) (trees : List File) → HaveTrees sources trees → HaveTrees (each_as bytes sources) (map (λ _. tree) trees)
trees_each bytes tree has [] [] have = tt
trees_each bytes tree has [] (other ∷ trees) have = absurd have
trees_each bytes tree has (source ∷ sources) [] have = absurd have
trees_each bytes tree has (source ∷ sources) (other ∷ trees) have = (has, trees_each bytes tree has sources trees have.1)

program_each : (tree : File) (trees : List File) → program_of (map (λ _. tree) (tree ∷ trees)) ≡ program_of (tree ∷ trees)
program_each tree [] = refl
program_each tree (other ∷ trees) = refl

untold_accepted : (names : List (List ℕ)) (program : Option Plain) (sources : List SourceFile) (trees : List File) → names_of sources ≡ names → HaveTrees sources trees → program_of trees ≡ program → Accepted None names program
untold_accepted names program [] trees named have is = record {
  files = λ _. None;
  is_told = tt;
  sources = [];
  are = record { named = named; held = All-nil (λ source. None ≡ Some source.bytes) };
  have = (trees, have, is);
}
untold_accepted names program (source ∷ sources) [] named have is = absurd have
untold_accepted names program (source ∷ sources) (tree ∷ trees) named have is = record {
  files = λ _. Some source.bytes;
  is_told = tt;
  sources = each_as source.bytes (source ∷ sources);
  are = subst (λ names. AreSources (λ _. Some source.bytes) names (each_as source.bytes (source ∷ sources))) named (are_each source.bytes (source ∷ sources));
  have = (map (λ _. tree) (tree ∷ trees), trees_each source.bytes tree have.0 (source ∷ sources) (tree ∷ trees) have, program_each tree trees ∙ is);
}

pub told_accepted : {names : List (List ℕ)} {program : Option Plain} {before after : FolderState} → FindsAccepted names program before after → Accepted before.files names program
told_accepted {names = names} {program = program} {before = before} finds = at before.files finds.finds.told
  where
    at : (told : Option Contents) → IfSome told (λ held. AreSources held names finds.sources) → Accepted told names program
    at None are = let (trees, have, is) = finds.have in untold_accepted names program finds.sources trees finds.finds.named have is
    at (Some held) are = record { files = held; is_told = refl; sources = finds.sources; are = are; have = finds.have }
