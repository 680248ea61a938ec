-- What is promised of the C of a core.
use Rattle.sl_core.specs.declared.tree.Core.{Core}
use Rattle.sl_core.specs.Sound.{IsSound}
use Rattle.sl_frames.specs.Promise.{HasOneType, Translates}
use Rattle.sl_frames.proofs.Keeps.Files.{keeps_rules, well_formed}
use Rattle.sl_frames.proofs.Meaning.Runs.{same_run}

pub translates : (core : Core) → IsSound core → HasOneType core → Translates core
translates core sound one_type = record {
  well_formed = well_formed core sound one_type;
  keeps_rules = keeps_rules core sound one_type;
  same_run = same_run core sound one_type;
}
