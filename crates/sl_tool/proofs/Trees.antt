-- The trees of sources, one after another, and the place of the first rule that is broken.
use Rattle.std.proofs.Common.{◌≡◌, ℕ, suc, ◌+◌, ◌<◌, ◌≤◌, List, [], ◌∷◌, ◌++◌, length, get_or, take, drop, map, refl, sym, ap, ◌∙◌, subst, inl, inr, arith}
use Rattle.std.specs.Prelude.{◌⊎◌, ◌≢◌, Option, None, Result, Ok, Err, IsErrAnd}
use Rattle.std.proofs.lemmas.List.{map-append, take_more}
use Rattle.std.proofs.lemmas.Bool.{cases_lt}
use Rattle.std.specs.List.Sorted.{IsNonDecreasing}
use Rattle.sl_text.proofs.Places.{IsNonDecreasing-feeds}
use Rattle.sl_text.specs.declared.rule.Rule.{Rule}
use Rattle.sl_text.specs.declared.fault.Broken.{Broken}
use Rattle.sl_tree.specs.declared.tree.File.{File}
use Rattle.sl_tree.specs.Sorts.{Spelled}
use Rattle.sl_tree.specs.Declarations.{Limit, IsFile, file_of}
use Rattle.sl_token.specs.Cut.{Breaks, most_bytes}
use Rattle.sl_tool.specs.declared.source.SourceFile as found
use Rattle.sl_tool.specs.declared.stop.Stop.{Stop}
use Rattle.sl_tool.specs.declared.stop.Stop.TheVariants as stop
use Rattle.sl_tool.specs.Accepting.{HasTree, IsFirstBroken}
use Rattle.sl_plain.specs.declared.program.Plain.{Plain}
use Rattle.sl_plain.specs.Reading.{plain_of}
use Rattle.sl_tool.specs.SourceFiles.{SourceFile, only_file, HaveTrees, HaveProgram, program_of}
use Rattle.sl_tool.specs.Parts.{source_seen, sources_seen, BreaksAt, FirstBreaksAt, GivesTree, GivesTrees, GivesProgram, GivesNone}
use Rattle.sl_tool.proofs.Printing.{cut_at}

-- a tree behind others
pub trees_more : (sources : List SourceFile) (trees : List File) (source : SourceFile) (tree : File) → HaveTrees sources trees → HasTree only_file source.bytes tree → HaveTrees (sources ++ source ∷ []) (trees ++ tree ∷ [])
trees_more [] [] source tree have has = (has, tt)
trees_more [] (other ∷ trees) source tree have has = absurd have
trees_more (first ∷ sources) [] source tree have has = absurd have
trees_more (first ∷ sources) (other ∷ trees) source tree have has = (have.0, trees_more sources trees source tree have.1 has)

-- a source that breaks a rule behind sources that have trees is the first that does
breaks_first : (earlier later : List SourceFile) (trees : List File) (source : SourceFile) (name : List ℕ) (rule : Rule) (line column : ℕ) → HaveTrees earlier trees → BreaksAt source name rule line column → FirstBreaksAt (earlier ++ source ∷ later) name rule line column
breaks_first earlier later trees source name rule line column have breaks = record {
  bytes = source.bytes;
  span = breaks.span;
  first = (earlier, later, trees, ap (λ n. earlier ++ record { name = n; bytes = source.bytes } ∷ later) breaks.named, have, breaks.first);
  stands = breaks.stands;
}

-- so sources have no program where one of them has no tree, and those before it have
pub none_given : (earlier later : List SourceFile) (trees : List File) (source : SourceFile) (why : Stop) → HaveTrees earlier trees → GivesTree source (Err why) → GivesNone (earlier ++ source ∷ later) why
none_given earlier later trees source (stop.Broken name rule line column) have breaks = breaks_first earlier later trees source name.now rule line column have breaks
none_given earlier later trees source stop.Mem have given = tt
none_given earlier later trees source (stop.NoFile name) have never = never
none_given earlier later trees source stop.NotBuilt have never = never
none_given earlier later trees source stop.Folder have never = never
none_given earlier later trees source stop.Input have never = never
none_given earlier later trees source stop.Sink have never = never

-- several files, or none, have no program
pub several : (sources : List SourceFile) (trees : List File) → HaveTrees sources trees → length sources ≢ 1 → HaveProgram sources None
several sources [] have count = ([], have, refl)
several [] (tree ∷ trees) have count = absurd have
several (source ∷ []) (tree ∷ []) have count = absurd (count refl)
several (source ∷ []) (tree ∷ other ∷ trees) have count = absurd have.1
several (source ∷ other ∷ sources) (tree ∷ []) have count = absurd have.1
several (source ∷ other ∷ sources) (tree ∷ another ∷ trees) have count = (tree ∷ another ∷ trees, have, refl)

-- the program of one file is that of its tree
pub single : (source : SourceFile) (tree : File) (program : Option Plain) → HasTree only_file source.bytes tree → program ≡ plain_of tree → HaveProgram (source ∷ []) program
single source tree program has is = (tree ∷ [], (has, tt), sym is)

-- what stopped a part stops the whole
pub stopped_trees : (sources : List SourceFile) (why : Stop) (result : Result (Unit {0}) Stop) → IsErrAnd result (λ other. other ≡ why) → GivesNone sources why → GivesTrees sources result
stopped_trees sources why (Ok done) never none = absurd never
stopped_trees sources why (Err other) same none = subst (λ why. GivesNone sources why) (sym same) none

pub stopped_program : (sources : List SourceFile) (why : Stop) (result : Result (Option Plain) Stop) → IsErrAnd result (λ other. other ≡ why) → GivesNone sources why → GivesProgram sources result
stopped_program sources why (Ok program) never none = absurd never
stopped_program sources why (Err other) same none = subst (λ why. GivesNone sources why) (sym same) none

-- the line feeds of a tree are those of its file
feeds_are : {limit : Limit} {feeds : List ℕ} {x : File} {ts : List Spelled} → IsFile limit feeds x ts → x.feeds ≡ feeds
feeds_are (file_of path library items e ex) = ap (λ (x : File). x.feeds) ex

-- which are in order
pub feeds_in_order : {file : ℕ} {bytes : List ℕ} {tree : File} → HasTree file bytes tree → IsNonDecreasing tree.feeds
feeds_in_order {bytes = bytes} has = subst IsNonDecreasing (sym (feeds_are has.parsed.0)) (IsNonDecreasing-feeds bytes)

-- the sources up to one, that one, and those behind it
pub sources_cut : (sources : List found.SourceFile) (i : ℕ) (source : found.SourceFile) → i < length sources → source ≡ get_or sources i source → sources_seen sources ≡ sources_seen (take i sources) ++ source_seen source ∷ sources_seen (drop (suc i) sources)
sources_cut sources i source within is =
    ap sources_seen (sym (cut_at sources i source source within is))
    ∙ map-append source_seen (take i sources) (source ∷ drop (suc i) sources)

-- the sources up to one, and that one
pub sources_up_to : (sources : List found.SourceFile) (i : ℕ) (source : found.SourceFile) → i < length sources → source ≡ get_or sources i source → sources_seen (take (i + 1) sources) ≡ sources_seen (take i sources) ++ source_seen source ∷ []
sources_up_to sources i source within is =
    ap sources_seen (take_more sources i source within ∙ ap (λ s. take i sources ++ s ∷ []) (sym is))
    ∙ map-append source_seen (take i sources) (source ∷ [])

-- one source
pub one_source : (sources : List found.SourceFile) (source : found.SourceFile) → length sources ≡ 1 → source ≡ get_or sources 0 source → sources_seen sources ≡ source_seen source ∷ []
one_source [] source one is = absurd (omega arith)
one_source (first ∷ []) source one is = ap (λ s. source_seen s ∷ []) (sym is)
one_source (first ∷ other ∷ sources) source one is = absurd (omega arith)

-- a text that is too long breaks the rule L7 at its start
breaks_length : (text : List ℕ) → most_bytes < length text → Breaks text 7 0
breaks_length text long = inr (inr (inl (refl, refl, long)))

-- a text that breaks no rule L isn't too long
pub is_short : (text : List ℕ) → ((number place : ℕ) → ¬ Breaks text number place) → length text ≤ most_bytes
is_short text keeps = at (cases_lt most_bytes (length text))
  where
    at : (most_bytes < length text) ⊎ (length text ≤ most_bytes) → length text ≤ most_bytes
    at (inl long) = absurd (keeps 7 0 (breaks_length text long))
    at (inr short) = short

-- the first rule that is broken stands at the start, or in a text that isn't too long
pub starts_or_short : (file : ℕ) (text : List ℕ) (broken : Broken) → IsFirstBroken file text broken → (broken.span.from ≡ 0) ⊎ (length text ≤ most_bytes)
starts_or_short file text broken (inr grammar) = inr (is_short text grammar.cut.keeps)
starts_or_short file text broken (inl fault) = at (cases_lt most_bytes (length text))
  where
    start : (place : ℕ) → (place < 0) ⊎ ((place ≡ 0) × (broken.rule.number ≤ 7)) → place ≡ 0
    start place (inl below) = absurd (omega arith)
    start place (inr is) = is.0

    at : (most_bytes < length text) ⊎ (length text ≤ most_bytes) → (broken.span.from ≡ 0) ⊎ (length text ≤ most_bytes)
    at (inl long) = inl (start broken.span.from (fault.first.first 7 0 (breaks_length text long)))
    at (inr short) = inr short
