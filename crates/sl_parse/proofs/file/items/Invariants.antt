use Rattle.std.proofs.Common.{◌≡◌, ◌≤◌, ◌-◌, length}
use Rattle.sl_grammar.specs.Law.{found_as}
use Rattle.sl_parse_expr.specs.Told.{behind}
use Rattle.sl_parse.specs.Grammar.{Bound}
use Rattle.sl_parse.specs.Told.{reads, items_form, items_view}
use Rattle.sl_parse.proofs.Listing.{items_from}
use Rattle.sl_parse.proofs.file.items.Given as goal

abbrev pub invariant-items : goal.invariant-items
invariant-items l = record {
  begun : l.start ≤ l.at;
  in_bounds : l.at ≤ length l.tokens;
  grows : (b : Bound) → found_as items_view (reads b items_form (behind l.bytes l.tokens l.start)) ≡ items_from b (l.imports, l.decls) (behind l.bytes l.tokens l.at);
}

abbrev pub decreases-items : goal.decreases-items
decreases-items l = length l.tokens - l.at
