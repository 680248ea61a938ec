use Rattle.std.proofs.Common.{◌≡◌, ◌<◌, ◌≤◌, ◌+◌, ◌*◌, ◌-◌, length}
use Rattle.sl_grammar.specs.Law.{found_as}
use Rattle.sl_parse_expr.specs.Told.{behind, reads, class_form, class_view}
use Rattle.sl_parse_expr.proofs.PatternsRead.{parts_from}
use Rattle.sl_parse_expr.proofs.patterns.+patterns.Given as goal

abbrev pub decreases-pattern : goal.decreases-pattern
decreases-pattern l = (length l.tokens.now - l.at) * 2

abbrev pub decreases-named : goal.decreases-named
decreases-named l = (length l.tokens.now - l.start) * 2 + 1

abbrev pub decreases-class_parts : goal.decreases-class_parts
decreases-class_parts l = (length l.tokens.now - l.start) * 2

abbrev pub invariant-class_parts-listed : goal.invariant-class_parts-listed
invariant-class_parts-listed l = record {
  begun : l.start + 1 < l.at;
  in_bounds : l.at ≤ length l.tokens;
  few : l.levels + 2 * (l.start + 1) < 2 * l.at;
  grows : found_as class_view (reads (class_form l.room) (behind l.bytes l.tokens l.start)) ≡ parts_from l.room (l.all, l.levels) (behind l.bytes l.tokens l.at);
}

abbrev pub decreases-class_parts-listed : goal.decreases-class_parts-listed
decreases-class_parts-listed l = length l.tokens - l.at
