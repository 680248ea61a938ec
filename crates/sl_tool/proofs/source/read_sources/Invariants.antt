-- The sources so far are those of the names so far, and no call failed.
use Rattle.std.proofs.Common.{◌≡◌, take}
use Rattle.sl_outside.specs.Folder.{folder_state}
use Rattle.sl_words.specs.WordsReading.{names_seen}
use Rattle.sl_tool.specs.Parts.{FindsSources, sources_seen}
use Rattle.sl_tool.proofs.source.read_sources.Given as goal

abbrev pub invariant-loop-name : goal.invariant-loop-name
invariant-loop-name g l =
    FindsSources (names_seen (take l.name-index l.names)) (sources_seen l.sources)
    (folder_state (g.F.Folder.files l.fn.folder) (g.F.Folder.faults l.fn.folder) (g.F.Folder.calls l.fn.folder) (g.F.Folder.log l.fn.folder))
    (folder_state (g.F.Folder.files l.folder) (g.F.Folder.faults l.folder) (g.F.Folder.calls l.folder) (g.F.Folder.log l.folder))
    × (g.F.Folder.faults l.folder ≡ g.F.Folder.faults l.fn.folder)
