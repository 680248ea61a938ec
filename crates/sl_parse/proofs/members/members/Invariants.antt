use Rattle.std.proofs.Common.{◌≡◌, ◌∷◌, [], ◌<◌, ◌≤◌, ◌-◌, length}
use Rattle.sl_tree.specs.Sorts.{separator, right_brace}
use Rattle.sl_parse_expr.specs.Told.{behind}
use Rattle.sl_parse.specs.Names.{Member, Members}
use Rattle.sl_parse.specs.Grammar.{Bound}
use Rattle.sl_parse.specs.Told.{found_tree}
use Rattle.sl_parse.proofs.Listing.{closed_from}
use Rattle.sl_parse.proofs.members.members.Given as goal

abbrev pub invariant-members : goal.invariant-members
invariant-members l = record {
  begun : l.start < l.at;
  in_bounds : l.at ≤ length l.tokens;
  grows : (b : Bound) → found_tree b (Members l.globals) (behind l.bytes l.tokens l.start) ≡ closed_from (separator ∷ []) right_brace (found_tree b (Member l.globals)) l.all (behind l.bytes l.tokens l.at);
}

abbrev pub decreases-members : goal.decreases-members
decreases-members l = length l.tokens - l.at
