use Rattle.std.proofs.Common.{◌≡◌, ◌∷◌, [], ◌<◌, ◌≤◌, ◌-◌, length}
use Rattle.sl_grammar.specs.Law.{found_as}
use Rattle.sl_tree.specs.Sorts.{comma, right_parenthesis}
use Rattle.sl_parse_expr.specs.Told.{behind}
use Rattle.sl_parse.specs.Names.{Pair}
use Rattle.sl_parse.specs.Grammar.{Bound}
use Rattle.sl_parse.specs.Told.{found_tree, reads, pairs_form, pairs_view}
use Rattle.sl_parse.proofs.Listing.{closed_from}
use Rattle.sl_parse.proofs.notes.pairs.Given as goal

abbrev pub invariant-pairs : goal.invariant-pairs
invariant-pairs l = record {
  begun : l.start < l.at;
  in_bounds : l.at ≤ length l.tokens;
  grows : (b : Bound) → found_as pairs_view (reads b pairs_form (behind l.bytes l.tokens l.start)) ≡ closed_from (comma ∷ []) right_parenthesis (found_tree b Pair) l.all (behind l.bytes l.tokens l.at);
}

abbrev pub decreases-pairs : goal.decreases-pairs
decreases-pairs l = length l.tokens - l.at
