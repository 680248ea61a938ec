use Rattle.std.proofs.Common.{◌≡◌, ◌∷◌, [], ◌<◌, ◌≤◌, ◌-◌, length}
use Rattle.sl_grammar.specs.Law.{found_as}
use Rattle.sl_tree.specs.Sorts.{with_word}
use Rattle.sl_parse_expr.specs.Told.{behind}
use Rattle.sl_parse.specs.Names.{Type_term}
use Rattle.sl_parse.specs.Grammar.{Bound}
use Rattle.sl_parse.specs.Told.{found_tree, reads, types_form, types_view}
use Rattle.sl_parse.proofs.Listing.{more_from}
use Rattle.sl_parse.proofs.params.types.Given as goal

abbrev pub invariant-types : goal.invariant-types
invariant-types l = record {
  begun : l.start < l.at;
  in_bounds : l.at ≤ length l.tokens;
  grows : (b : Bound) → found_as types_view (reads b types_form (behind l.bytes l.tokens l.start)) ≡ more_from (with_word ∷ []) (found_tree b Type_term) l.all (behind l.bytes l.tokens l.at);
}

abbrev pub decreases-types : goal.decreases-types
decreases-types l = length l.tokens - l.at
