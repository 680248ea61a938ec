use Rattle.std.proofs.Common.{◌≡◌, ◌≤◌, ◌+◌, ◌-◌, length}
use Rattle.sl_grammar.specs.Law.{found_as}
use Rattle.sl_parse_expr.specs.Told.{behind}
use Rattle.sl_parse.specs.Grammar.{Bound}
use Rattle.sl_parse.specs.Told.{reads}
use Rattle.sl_parse.proofs.ImportsRead.{import_form, import_view, steps_from}
use Rattle.sl_parse.proofs.imports.import.Given as goal

abbrev pub invariant-steps : goal.invariant-steps
invariant-steps l = record {
  start_to : l.start + 2 ≤ l.at;
  in_bounds : l.at ≤ length l.tokens;
  grows : (b : Bound) → found_as import_view (reads b import_form (behind l.bytes l.tokens (l.start + 1))) ≡ steps_from b (l.path, l.all) (behind l.bytes l.tokens l.at);
}

abbrev pub decreases-steps : goal.decreases-steps
decreases-steps l = length l.tokens - l.at
