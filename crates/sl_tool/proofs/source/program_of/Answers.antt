use Rattle.std.proofs.Common.{◌≡◌, ◌∷◌, [], None, length, sym, ◌∙◌, subst, arith}
use Rattle.std.specs.Prelude.{◌≢◌}
use Rattle.std.proofs.lemmas.List.{length-map}
use Rattle.sl_tool.specs.SourceFiles.{HaveProgram}
use Rattle.sl_tool.specs.Parts.{GivesNone, source_seen, sources_seen}
use Rattle.sl_tool.proofs.Trees.{none_given, stopped_program, one_source, single, several, feeds_in_order}
use Rattle.sl_tool.proofs.source.program_of.Goals as goal
use Rattle.sl_tool.proofs.source.program_of.Goals.{in_default-via-then-sources-lt1, in_default-via-else-sources-lt1+else-sources-lt2}

-- the one source has no tree
pub returns-in_err-tree-in-len1 : goal.returns-in_err-tree-in-len1
returns-in_err-tree-in-len1 c =
    let sources = c.args.sources.now in
    let source = c.source-item.result in
    let why = c.in_err-tree-in-len1.field-0.0 in
    let one : length sources ≡ 1 = let least = c.in-len1.len_at_least in let below = c.in-len1.len_below in omega arith in
    stopped_program (sources_seen sources) why c.from_residual.result c.from_residual.ensures.1
    (subst (λ all. GivesNone all why) (sym (one_source sources source one c.source-item.is))
    (none_given [] [] [] (source_seen source) why tt c.in_err-tree-in-len1.ensures))

-- its line feeds are in order
pub read_plain-requires : goal.read_plain-requires
read_plain-requires c = feeds_in_order c.in_ok-tree-in-len1.ensures

-- it has one
pub returns-in_ok-read_plain-in-len1 : goal.returns-in_ok-read_plain-in-len1
returns-in_ok-read_plain-in-len1 c =
    let sources = c.args.sources.now in
    let source = c.source-item.result in
    let found = c.in_ok-read_plain-in-len1.field-0 in
    let one : length sources ≡ 1 = let least = c.in-len1.len_at_least in let below = c.in-len1.len_below in omega arith in
    subst (λ all. HaveProgram all found) (sym (one_source sources source one c.source-item.is))
    (single (source_seen source) c.in_ok-tree-in-len1.tree found c.in_ok-tree-in-len1.ensures c.in_ok-read_plain-in-len1.ensures)

-- there are several, or none
pub returns-in_ok-have_trees-in_default : goal.returns-in_ok-have_trees-in_default
returns-in_ok-have_trees-in_default c =
    let sources = c.args.sources.now in
    let other : length sources ≢ 1 = λ one.
    elim c.in_default.branch [ in_default-via-then-sources-lt1 w ↦ grind arith | in_default-via-else-sources-lt1+else-sources-lt2 w ↦ grind arith ] in
    let (trees, have) = c.in_ok-have_trees-in_default.ensures in
    several (sources_seen sources) trees have (λ one. other (sym (length-map sources source_seen) ∙ one))
