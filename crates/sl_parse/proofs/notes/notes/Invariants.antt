use Rattle.std.proofs.Common.{◌≡◌, ◌≤◌, ◌-◌, length}
use Rattle.sl_parse_expr.specs.Told.{behind}
use Rattle.sl_parse.specs.Names.{Notes}
use Rattle.sl_parse.specs.Grammar.{Bound}
use Rattle.sl_parse.specs.Told.{found_tree}
use Rattle.sl_parse.proofs.Listing.{notes_from}
use Rattle.sl_parse.proofs.notes.notes.Given as goal

abbrev pub invariant-notes : goal.invariant-notes
invariant-notes l = record {
  begun : l.start ≤ l.at;
  in_bounds : l.at ≤ length l.tokens;
  grows : (b : Bound) → found_tree b Notes (behind l.bytes l.tokens l.start) ≡ notes_from b l.all (behind l.bytes l.tokens l.at);
}

abbrev pub decreases-notes : goal.decreases-notes
decreases-notes l = length l.tokens - l.at
