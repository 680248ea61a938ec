use Rattle.std.proofs.Common.{◌≡◌, ◌<◌, ◌≤◌, ◌+◌, ◌*◌, ◌-◌, length, max}
use Rattle.sl_grammar.specs.Law.{found_as}
use Rattle.sl_parse_expr.specs.Names.{Level, Postfix, Matched, Statements}
use Rattle.sl_parse_expr.specs.Grammar.{read}
use Rattle.sl_parse_expr.specs.Told.{behind, reads, values_form, more_fields_form, cases_view}
use Rattle.sl_parse_expr.specs.Applied.{values_seen, more_fields_seen}
use Rattle.sl_parse_expr.proofs.LevelsRead.{links_from}
use Rattle.sl_parse_expr.proofs.PostfixRead.{suffixes_from}
use Rattle.sl_parse_expr.proofs.ArgumentsRead.{values_from, fields_from}
use Rattle.sl_parse_expr.proofs.CasesRead.{cases_from}
use Rattle.sl_parse_expr.proofs.StatementsRead.{statements_on}
use Rattle.sl_parse_expr.proofs.+parse.Given as goal

-- each call reads from a token behind, or a phrase that stands first in another one
abbrev pub decreases-expressions::arguments : goal.decreases-expressions::arguments
decreases-expressions::arguments l = (length l.tokens.now - l.start) * 32 + 14

abbrev pub decreases-expressions::expression : goal.decreases-expressions::expression
decreases-expressions::expression l = (length l.tokens.now - l.start) * 32 + 13

abbrev pub decreases-expressions::fields : goal.decreases-expressions::fields
decreases-expressions::fields l = (length l.tokens.now - l.start) * 32

abbrev pub decreases-expressions::guard : goal.decreases-expressions::guard
decreases-expressions::guard l = (length l.tokens.now - l.start) * 32

abbrev pub decreases-expressions::head : goal.decreases-expressions::head
decreases-expressions::head l = (length l.tokens.now - l.start) * 32

abbrev pub decreases-expressions::if_expression : goal.decreases-expressions::if_expression
decreases-expressions::if_expression l = (length l.tokens.now - l.start) * 32

abbrev pub decreases-expressions::infix : goal.decreases-expressions::infix
decreases-expressions::infix l = (length l.tokens.now - l.start) * 32 + (12 - l.level)

abbrev pub decreases-expressions::matched : goal.decreases-expressions::matched
decreases-expressions::matched l = (length l.tokens.now - l.start) * 32

abbrev pub decreases-expressions::more_fields : goal.decreases-expressions::more_fields
decreases-expressions::more_fields l = (length l.tokens.now - l.start) * 32

abbrev pub decreases-expressions::one_case : goal.decreases-expressions::one_case
decreases-expressions::one_case l = (length l.tokens.now - l.start) * 32

abbrev pub decreases-expressions::one_field : goal.decreases-expressions::one_field
decreases-expressions::one_field l = (length l.tokens.now - l.start) * 32

abbrev pub decreases-expressions::operand : goal.decreases-expressions::operand
decreases-expressions::operand l = (length l.tokens.now - l.start) * 32 + 2

abbrev pub decreases-expressions::postfix : goal.decreases-expressions::postfix
decreases-expressions::postfix l = (length l.tokens.now - l.start) * 32 + 1

abbrev pub decreases-expressions::primary : goal.decreases-expressions::primary
decreases-expressions::primary l = (length l.tokens.now - l.start) * 32

abbrev pub decreases-expressions::suffix : goal.decreases-expressions::suffix
decreases-expressions::suffix l = (length l.tokens.now - l.start) * 32

abbrev pub decreases-expressions::values : goal.decreases-expressions::values
decreases-expressions::values l = (length l.tokens.now - l.start) * 32

abbrev pub decreases-statements::assigned : goal.decreases-statements::assigned
decreases-statements::assigned l = (length l.tokens.now - l.start) * 32

abbrev pub decreases-statements::block : goal.decreases-statements::block
decreases-statements::block l = (length l.tokens.now - l.start) * 32

abbrev pub decreases-statements::blocks : goal.decreases-statements::blocks
decreases-statements::blocks l = (length l.tokens.now - l.start) * 32 + 1

abbrev pub decreases-statements::declaration : goal.decreases-statements::declaration
decreases-statements::declaration l = (length l.tokens.now - l.start) * 32

abbrev pub decreases-statements::else_tail : goal.decreases-statements::else_tail
decreases-statements::else_tail l = (length l.tokens.now - l.start) * 32

abbrev pub decreases-statements::for_loop : goal.decreases-statements::for_loop
decreases-statements::for_loop l = (length l.tokens.now - l.start) * 32

abbrev pub decreases-statements::if_any : goal.decreases-statements::if_any
decreases-statements::if_any l = (length l.tokens.now - l.start) * 32

abbrev pub decreases-statements::if_only : goal.decreases-statements::if_only
decreases-statements::if_only l = (length l.tokens.now - l.start) * 32

abbrev pub decreases-statements::if_tail : goal.decreases-statements::if_tail
decreases-statements::if_tail l = (length l.tokens.now - l.start) * 32 + 14

abbrev pub decreases-statements::opening : goal.decreases-statements::opening
decreases-statements::opening l = (length l.tokens.now - l.start) * 32 + 15

abbrev pub decreases-statements::return_of : goal.decreases-statements::return_of
decreases-statements::return_of l = (length l.tokens.now - l.start) * 32

abbrev pub decreases-statements::started : goal.decreases-statements::started
decreases-statements::started l = (length l.tokens.now - l.start) * 32 + 14

abbrev pub decreases-statements::statement : goal.decreases-statements::statement
decreases-statements::statement l = (length l.tokens.now - l.start) * 32 + 16

abbrev pub decreases-statements::statements : goal.decreases-statements::statements
decreases-statements::statements l = (length l.tokens.now - l.start) * 32 + 17

abbrev pub decreases-statements::while_loop : goal.decreases-statements::while_loop
decreases-statements::while_loop l = (length l.tokens.now - l.start) * 32

abbrev pub invariant-expressions::infix-links : goal.invariant-expressions::infix-links
invariant-expressions::infix-links l = record {
  begun : l.start < l.at;
  in_bounds : l.at ≤ length l.tokens;
  few : l.levels + 2 * l.start < 2 * l.at;
  grows : read l.room (Level l.level) (behind l.bytes l.tokens l.start) ≡ links_from l.room l.level (l.of, l.levels) (behind l.bytes l.tokens l.at);
}

abbrev pub decreases-expressions::infix-links : goal.decreases-expressions::infix-links
decreases-expressions::infix-links l = length l.tokens - l.at

abbrev pub invariant-expressions::matched-listed : goal.invariant-expressions::matched-listed
invariant-expressions::matched-listed l = record {
  begun : l.start + 2 < l.at;
  in_bounds : l.at ≤ length l.tokens;
  few : l.levels + 2 * (l.start + 2) < 2 * l.at;
  grows : found_as cases_view (read l.room Matched (behind l.bytes l.tokens l.start)) ≡ cases_from l.room (l.all, l.levels) (behind l.bytes l.tokens l.at);
}

abbrev pub decreases-expressions::matched-listed : goal.decreases-expressions::matched-listed
decreases-expressions::matched-listed l = length l.tokens - l.at

abbrev pub invariant-expressions::more_fields-listed : goal.invariant-expressions::more_fields-listed
invariant-expressions::more_fields-listed l = record {
  begun : l.start ≤ l.at;
  in_bounds : l.at ≤ length l.tokens;
  few : l.levels ≤ max l.fn.first_levels (2 * (l.at - l.start));
  grows : found_as (more_fields_seen l.fn.first l.fn.first_levels) (reads (more_fields_form l.room) (behind l.bytes l.tokens l.start)) ≡ fields_from l.room (l.all, l.levels) (behind l.bytes l.tokens l.at);
}

abbrev pub decreases-expressions::more_fields-listed : goal.decreases-expressions::more_fields-listed
decreases-expressions::more_fields-listed l = length l.tokens - l.at

abbrev pub invariant-expressions::postfix-suffixes : goal.invariant-expressions::postfix-suffixes
invariant-expressions::postfix-suffixes l = record {
  begun : l.start < l.at;
  in_bounds : l.at ≤ length l.tokens;
  few : l.levels + 2 * l.start < 2 * l.at;
  grows : read l.room Postfix (behind l.bytes l.tokens l.start) ≡ suffixes_from l.room (l.of, l.levels) (behind l.bytes l.tokens l.at);
}

abbrev pub decreases-expressions::postfix-suffixes : goal.decreases-expressions::postfix-suffixes
decreases-expressions::postfix-suffixes l = length l.tokens - l.at

abbrev pub invariant-expressions::values-listed : goal.invariant-expressions::values-listed
invariant-expressions::values-listed l = record {
  begun : l.start ≤ l.at;
  in_bounds : l.at ≤ length l.tokens;
  few : l.levels ≤ max l.fn.first_levels (2 * (l.at - l.start));
  grows : found_as (values_seen (l.fn.first, l.fn.first_levels)) (reads (values_form l.room) (behind l.bytes l.tokens l.start)) ≡ values_from l.room (l.all, l.levels) (behind l.bytes l.tokens l.at);
}

abbrev pub decreases-expressions::values-listed : goal.decreases-expressions::values-listed
decreases-expressions::values-listed l = length l.tokens - l.at

abbrev pub invariant-statements::statements-listed : goal.invariant-statements::statements-listed
invariant-statements::statements-listed l = record {
  begun : l.start < l.at;
  in_bounds : l.at ≤ length l.tokens;
  few : l.levels + 2 * l.start ≤ 2 * l.at;
  grows : read l.room Statements (behind l.bytes l.tokens l.start) ≡ statements_on l.room (l.all, l.levels) (behind l.bytes l.tokens l.at);
}

abbrev pub decreases-statements::statements-listed : goal.decreases-statements::statements-listed
decreases-statements::statements-listed l = length l.tokens - l.at
