use Rattle.std.proofs.Common.{◌≡◌, ◌<◌, ◌≤◌, ◌+◌, ◌*◌, ◌-◌, length}
use Rattle.sl_grammar.specs.Law.{found_as}
use Rattle.sl_parse_expr.specs.Names.{types_form}
use Rattle.sl_parse_expr.specs.Told.{behind, reads, types_view}
use Rattle.sl_parse_expr.proofs.TypesRead.{types_from}
use Rattle.sl_parse_expr.proofs.types.+types.Given as goal

abbrev pub decreases-type_term : goal.decreases-type_term
decreases-type_term l = (length l.tokens.now - l.start) * 32 + 1

abbrev pub decreases-types : goal.decreases-types
decreases-types l = (length l.tokens.now - l.start) * 32

abbrev pub invariant-types-listed : goal.invariant-types-listed
invariant-types-listed l = record {
  begun : l.start + 1 < l.at;
  in_bounds : l.at ≤ length l.tokens;
  few : l.levels + 2 * (l.start + 1) < 2 * l.at;
  grows : found_as types_view (reads (types_form l.room) (behind l.bytes l.tokens l.start)) ≡ types_from l.room (l.all, l.levels) (behind l.bytes l.tokens l.at);
}

abbrev pub decreases-types-listed : goal.decreases-types-listed
decreases-types-listed l = length l.tokens - l.at
