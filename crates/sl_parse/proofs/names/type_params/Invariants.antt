use Rattle.std.proofs.Common.{◌≡◌, ◌<◌, ◌≤◌, ◌-◌, length}
use Rattle.sl_parse_expr.specs.Told.{behind}
use Rattle.sl_parse.specs.Names.{Type_params}
use Rattle.sl_parse.specs.Grammar.{Bound}
use Rattle.sl_parse.specs.Told.{found_tree}
use Rattle.sl_parse.proofs.NamesRead.{params_from}
use Rattle.sl_parse.proofs.names.type_params.Given as goal

abbrev pub invariant-names : goal.invariant-names
invariant-names l = record {
  begun : l.start < l.at;
  in_bounds : l.at ≤ length l.tokens;
  grows : (b : Bound) → found_tree b Type_params (behind l.bytes l.tokens l.start) ≡ params_from l.all (behind l.bytes l.tokens l.at);
}

abbrev pub decreases-names : goal.decreases-names
decreases-names l = length l.tokens - l.at
