use Rattle.std.proofs.Common.{◌≡◌, ◌∷◌, [], ◌<◌, ◌≤◌, ◌-◌, length}
use Rattle.sl_tree.specs.Sorts.{comma, right_parenthesis}
use Rattle.sl_parse_expr.specs.Told.{behind}
use Rattle.sl_parse.specs.Names.{Param_of, Params}
use Rattle.sl_parse.specs.Grammar.{Bound}
use Rattle.sl_parse.specs.Told.{found_tree}
use Rattle.sl_parse.proofs.Listing.{closed_from}
use Rattle.sl_parse.proofs.params.params.Given as goal

abbrev pub invariant-params : goal.invariant-params
invariant-params l = record {
  begun : l.start < l.at;
  in_bounds : l.at ≤ length l.tokens;
  grows : (b : Bound) → found_tree b Params (behind l.bytes l.tokens l.start) ≡ closed_from (comma ∷ []) right_parenthesis (found_tree b Param_of) l.all (behind l.bytes l.tokens l.at);
}

abbrev pub decreases-params : goal.decreases-params
decreases-params l = length l.tokens - l.at
