use Rattle.std.proofs.Common.{◌≡◌, ◌<◌, ◌≤◌, ◌-◌, length}
use Rattle.sl_parse_expr.specs.Told.{behind}
use Rattle.sl_parse.specs.Names.{Path}
use Rattle.sl_parse.specs.Grammar.{Bound}
use Rattle.sl_parse.specs.Told.{found_tree}
use Rattle.sl_parse.proofs.NamesRead.{path_from}
use Rattle.sl_parse.proofs.names.path.Given as goal

abbrev pub invariant-names : goal.invariant-names
invariant-names l = record {
  begun : l.start < l.at;
  in_bounds : l.at ≤ length l.tokens;
  grows : (b : Bound) → found_tree b Path (behind l.bytes l.tokens l.start) ≡ path_from l.path (behind l.bytes l.tokens l.at);
}

abbrev pub decreases-names : goal.decreases-names
decreases-names l = length l.tokens - l.at
