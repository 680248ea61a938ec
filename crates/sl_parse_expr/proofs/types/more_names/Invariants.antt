use Rattle.std.proofs.Common.{◌≡◌, ◌≤◌, ◌-◌, length}
use Rattle.sl_parse_expr.specs.Told.{behind, path_from}
use Rattle.sl_parse_expr.proofs.types.more_names.Given as goal

abbrev pub invariant-names : goal.invariant-names
invariant-names l = record {
  start_to : l.start ≤ l.at;
  in_bounds : l.at ≤ length l.tokens;
  grows : path_from (l.fn.first, l.fn.first_span) (behind l.bytes l.tokens l.start) ≡ path_from (l.path, l.span) (behind l.bytes l.tokens l.at);
}

abbrev pub decreases-names : goal.decreases-names
decreases-names l = length l.tokens - l.at
