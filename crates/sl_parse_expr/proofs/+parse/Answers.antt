use Rattle.sl_grammar.proofs.Grammar.{and_left, and_right}
use Rattle.sl_grammar.specs.Grammar.{has, and, is}
use Rattle.sl_grammar.specs.Law.{found_as}
use Rattle.sl_grammar.specs.Phrase.{read_token, Done}
use Rattle.sl_parse_expr.proofs.ArgumentsRead.{arguments_none, arguments_halts, arguments_fields, arguments_values, arguments_unnamed, fields_halts, fields_second, fields_go, more_fields_begins, fields_stops, fields_goes, fields_ends, fields_unclosed, field_halts, field_second, field_third, field_whole, applied_seen, values_begins, values_stops, values_goes, values_ends, values_unclosed}
use Rattle.sl_parse_expr.proofs.Behind.{present}
use Rattle.sl_parse_expr.proofs.Building.{minus_low}
use Rattle.sl_parse_expr.proofs.CasesRead.{matched_halts, matched_second, matched_third, matched_begins, cases_stops, cases_goes, cases_ends, cases_unclosed, case_halts, case_second, case_third, case_fourth, case_fifth, case_whole, guard_none, guard_stops, guard_some}
use Rattle.sl_parse_expr.proofs.ExpressionsRead.{expression_if, expression_halts, expression_plain, expression_stops, expression_matched, head_halts, head_second, head_third, head_whole, if_halts, if_second, if_third, if_fourth, if_fifth, if_whole}
use Rattle.sl_parse_expr.proofs.IfsRead.{if_only_halts, if_only_second, if_only_goes, blocks_halts, blocks_second, blocks_whole, else_none, else_if_stops, else_if, else_block_stops, else_block, if_any_halts, if_any_second, if_any_tail, if_any_blocks, if_tail_halts, if_tail_second, if_tail_third, if_tail_goes, deeper_fits}
use Rattle.sl_parse_expr.proofs.LevelsRead.{next_level, no_operator, level_operand, level_halts, level_begins, links_end, links_stops, links_goes, negated_stops, negated, negative_stops, negative_one, signed_stops, signed, NoSign, prefix_plain, most_level}
use Rattle.sl_parse_expr.proofs.OpeningsRead.{assigned_none, assigned_stops, assigned_whole, opening_skipped, opening_begins, started_halts, started_plain, started_stops, started_match, started_matched}
use Rattle.sl_parse_expr.proofs.PostfixRead.{postfix_halts, postfix_begins, suffixes_end, suffixes_stops, suffixes_goes, paren_stops, paren_unclosed, paren_whole, primary_single, select_stops, select_whole, given_stops, given_whole, apply_halts, apply_stops, apply_whole}
use Rattle.sl_parse_expr.proofs.StatementsRead.{block_halts, block_second, block_third, block_whole, statements_not, statements_halts, statements_begins, statements_stops, statements_goes, statements_ends, declaration_halts, declaration_second, declaration_third, declaration_fourth, declaration_fifth, declaration_whole, for_halts, for_second, for_third, for_fourth, for_fifth, for_sixth, for_seventh, for_eighth, for_ninth, for_whole, return_halts, return_alone, return_stops, return_whole, statement_declares, statement_if, statement_while, statement_for, statement_return, statement_skips, statement_opens, while_halts, while_second, while_third, while_whole}
use Rattle.sl_parse_expr.proofs.Telling.{told_same, two_err, three_err, either_fails, any_fails, comes, comes_not, token_err_three, two_err_three, token_err, token_here, token_taken, told_same_three, as_done, as_stopped, three_err_three}
use Rattle.sl_parse_expr.specs.Applied.{arguments_seen, fields_seen, values_seen, more_fields_seen, applied}
use Rattle.sl_parse_expr.specs.Grammar.{read, statement_kinds, up_to, suffix_kinds, expression_kinds}
use Rattle.sl_parse_expr.specs.Names.{Expression, Level, Matched, holds, deeper, fits, A_case, open_to, Pattern_of, Statements, Block, Statement, Prefix, head_form, Postfix, Primary, Suffix, Arguments, types_form, Declaration, For_loop, If_only, Return_of, If_any, While_loop, Opening, Else_tail, If_tail, Started}
use Rattle.sl_parse_expr.specs.Told.{behind, head_sort, reads, if_form, if_view, cases_view, guard_form, guard_view, block_view, head_view, fields_form, values_form, more_fields_form, named_form, field_view, types_view, ascribed_form, ascribed_view, head_of, blocks_form, assigned_form, assigned_to, else_view, read_skip, skip_view}
use Rattle.sl_parse_expr.specs.Values.{suffix_to, token_expr, Tall, declaration_from, span_of, for_from, blocks_from, return_from, if_any_from, while_from, opening_from, skip_from, tail_from, started_from}
use Rattle.sl_tree.specs.Sorts.{if_word, match_word, spelled, sort, case_word, left_brace, right_brace, double_arrow, separator, left_parenthesis, right_parenthesis, else_word, minus, exclamation, tilde, number, this_word, equals, comma, dot, left_bracket, val_word, var_word, left_arrow, for_word, until_name, to_name, return_word, while_word, prefixed_l, Spelled, contract_name}
use Rattle.sl_tree.specs.WellShaped.{case_of, operators, expr, join, literals, names, is_name, stmt}
use Rattle.sl_tree.specs.declared.tree.Expr.{Expr}
use Rattle.std.proofs.Common.{◌≡◌, ◌∷◌, [], ◌+◌, suc, max, refl, sym, ap, ◌∙◌, true, false, arith, ◌++◌, ◌<◌, length, ◌≤◌, inl, inr, ◌==◌, Err}
use Rattle.sl_tree.specs.declared.tree.ExprKind.TheVariants as expr_kind
use Rattle.sl_tree.specs.declared.tree.StmtKind.TheVariants as stmt_kind
use Rattle.sl_tree.specs.declared.tree.Else.TheVariants as else_kind
use Rattle.sl_parse_expr.proofs.+parse.Goals as goal
use Rattle.sl_parse_expr.proofs.+parse.Goals.{expressions::operand-else-fits-via-else-fits, expressions::operand-else-fits-via-then-fits+else-is_sign}

pub expressions::arguments-returns-then-peek-eq-RIGHT_PARENTHESIS-clause-told : goal.expressions::arguments-returns-then-peek-eq-RIGHT_PARENTHESIS-clause-told
unfolding spelled
expressions::arguments-returns-then-peek-eq-RIGHT_PARENTHESIS-clause-told t c =
    let bytes = c.args.bytes.now in
    let tokens = c.args.tokens.now in
    let ts = behind bytes tokens c.args.start in
    let rest = behind bytes tokens (c.args.start + 1) in
    let k = spelled bytes c.token_at-close.result in
    let n : suc c.args.start ≡ c.args.start + 1 = omega arith in
    let h = comes right_parenthesis c.peek.result ts c.peek.ensures.sort c.if-peek-eq-RIGHT_PARENTHESIS.true in
    let e = rw (n) at (c.token_at-close.ensures bytes) in
    rw (c.new.ensures) (arguments_none c.args.room c.requires.open ts rest k h (token_taken (right_parenthesis ∷ []) ts rest k e h))

pub expressions::arguments-returns-in_err-first-clause-told : goal.expressions::arguments-returns-in_err-first-clause-told
expressions::arguments-returns-in_err-first-clause-told t c =
    let bytes = c.args.bytes.now in
    let tokens = c.args.tokens.now in
    let ts = behind bytes tokens c.args.start in
    let h = comes_not right_parenthesis c.peek.result ts c.peek.ensures.sort c.if-peek-eq-RIGHT_PARENTHESIS.false in
    two_err_three bytes tokens (read c.args.room Expression ts) (found_as arguments_seen (read c.args.room Arguments ts)) c.in_err-first.field-0.0 c.from_residual.result
    c.in_err-first.ensures.told c.from_residual.ensures.1 (λ rest e. arguments_halts c.args.room c.requires.open ts rest h e)

pub expressions::arguments-returns-then-is_field-clause-told : goal.expressions::arguments-returns-then-is_field-clause-told
expressions::arguments-returns-then-is_field-clause-told t c =
    let bytes = c.args.bytes.now in
    let tokens = c.args.tokens.now in
    let ts = behind bytes tokens c.args.start in
    let rest = behind bytes tokens c.in_ok-first.next in
    let x = c.in_ok-first.first in
    let h = comes_not right_parenthesis c.peek.result ts c.peek.ensures.sort c.if-peek-eq-RIGHT_PARENTHESIS.false in
    let t = sym c.is_field.ensures ∙ c.if-is_field.true in
    told_same_three bytes tokens (found_as (fields_seen x) (reads (fields_form c.args.room) rest)) (found_as arguments_seen (read c.args.room Arguments ts)) c.fields.result
    (arguments_fields c.args.room c.requires.open ts rest x c.in_ok-first.levels h c.in_ok-first.ensures.told (and_left (is_name x) (has (equals ∷ []) (head_sort rest)) t)
    (and_right (is_name x) (has (equals ∷ []) (head_sort rest)) t)) c.fields.ensures.told

pub expressions::arguments-returns-else-is_field-clause-told : goal.expressions::arguments-returns-else-is_field-clause-told
expressions::arguments-returns-else-is_field-clause-told t c =
    let bytes = c.args.bytes.now in
    let tokens = c.args.tokens.now in
    let ts = behind bytes tokens c.args.start in
    let rest = behind bytes tokens c.in_ok-first.next in
    let x = c.in_ok-first.first in
    let h = comes_not right_parenthesis c.peek.result ts c.peek.ensures.sort c.if-peek-eq-RIGHT_PARENTHESIS.false in
    let e : found_as arguments_seen (read c.args.room Arguments ts) ≡ found_as (values_seen (x, c.in_ok-first.levels)) (reads (values_form c.args.room) rest) =
    elim (either_fails (is_name x) (has (equals ∷ []) (head_sort rest)) (sym c.is_field.ensures ∙ c.if-is_field.false)) [
      | inl g ↦ arguments_values c.args.room c.requires.open ts rest x c.in_ok-first.levels h c.in_ok-first.ensures.told g
      | inr i ↦ arguments_unnamed c.args.room c.requires.open ts rest x c.in_ok-first.levels h c.in_ok-first.ensures.told i
    ] in
    told_same_three bytes tokens (found_as (values_seen (x, c.in_ok-first.levels)) (reads (values_form c.args.room) rest)) (found_as arguments_seen (read c.args.room Arguments ts)) c.values.result e c.values.ensures.told

pub expressions::arguments-expression-requires : goal.expressions::arguments-expression-requires
expressions::arguments-expression-requires t c = (omega arith, (c.requires.in_bounds, c.requires.open))

pub expressions::arguments-fields-requires : goal.expressions::arguments-fields-requires
expressions::arguments-fields-requires t c =
    let l = c.in_ok-first.ensures.lies in
    let rest = behind c.args.bytes.now c.args.tokens.now c.in_ok-first.next in
    (omega arith, (omega arith, (c.requires.open, and_left (is_name c.in_ok-first.first) (has (equals ∷ []) (head_sort rest)) (sym c.is_field.ensures ∙ c.if-is_field.true))))

pub expressions::arguments-values-requires : goal.expressions::arguments-values-requires
expressions::arguments-values-requires t c = let l = c.in_ok-first.ensures.lies in (omega arith, (omega arith, (c.requires.open, omega arith)))

pub expressions::expression-returns-then-comes-clause-told : goal.expressions::expression-returns-then-comes-clause-told
expressions::expression-returns-then-comes-clause-told t c =
    let bytes = c.args.bytes.now in
    let tokens = c.args.tokens.now in
    let ts = behind bytes tokens c.args.start in
    let h : and (fits c.args.room) (has (if_word ∷ []) (head_sort ts)) ≡ true = sym c.comes.ensures ∙ c.if-comes.true in
    told_same bytes tokens (found_as if_view (reads (if_form c.args.room) ts)) (read c.args.room Expression ts) c.if_expression.result
    (expression_if c.args.room c.requires.open ts (and_left (fits c.args.room) (has (if_word ∷ []) (head_sort ts)) h) (and_right (fits c.args.room) (has (if_word ∷ []) (head_sort ts)) h))
    c.if_expression.ensures.told

pub expressions::expression-returns-in_err-of-clause-told : goal.expressions::expression-returns-in_err-of-clause-told
expressions::expression-returns-in_err-of-clause-told t c =
    let bytes = c.args.bytes.now in
    let tokens = c.args.tokens.now in
    let ts = behind bytes tokens c.args.start in
    let n = either_fails (fits c.args.room) (has (if_word ∷ []) (head_sort ts)) (sym c.comes.ensures ∙ c.if-comes.false) in
    two_err bytes tokens (read c.args.room (Level 1) ts) (read c.args.room Expression ts) c.in_err-of.field-0.0 c.from_residual.result c.in_err-of.ensures.told c.from_residual.ensures.1
    (λ rest e. expression_halts c.args.room c.requires.open ts n rest e)

pub expressions::expression-returns-then-not-is_matched-clause-told : goal.expressions::expression-returns-then-not-is_matched-clause-told
expressions::expression-returns-then-not-is_matched-clause-told t c =
    let bytes = c.args.bytes.now in
    let tokens = c.args.tokens.now in
    let ts = behind bytes tokens c.args.start in
    let rest = behind bytes tokens c.in_ok-of.next in
    let n = either_fails (fits c.args.room) (has (if_word ∷ []) (head_sort ts)) (sym c.comes.ensures ∙ c.if-comes.false) in
    let m = any_fails (holds (deeper c.args.room) c.in_ok-of.levels) (fits c.args.room) (has (match_word ∷ []) (head_sort rest)) (sym c.is_matched.ensures ∙ c.if-not-is_matched.true) in
    expression_plain c.args.room c.requires.open ts n rest (c.in_ok-of.of, c.in_ok-of.levels) c.in_ok-of.ensures.told m

pub expressions::expression-returns-in-Err-clause-told : goal.expressions::expression-returns-in-Err-clause-told
expressions::expression-returns-in-Err-clause-told t c =
    let bytes = c.args.bytes.now in
    let tokens = c.args.tokens.now in
    let ts = behind bytes tokens c.args.start in
    let rest = behind bytes tokens c.in_ok-of.next in
    let n = either_fails (fits c.args.room) (has (if_word ∷ []) (head_sort ts)) (sym c.comes.ensures ∙ c.if-comes.false) in
    let m : and (holds (deeper c.args.room) c.in_ok-of.levels) (and (fits c.args.room) (has (match_word ∷ []) (head_sort rest))) ≡ true = sym c.is_matched.ensures ∙ c.if-not-is_matched.false in
    let h = and_left (holds (deeper c.args.room) c.in_ok-of.levels) (and (fits c.args.room) (has (match_word ∷ []) (head_sort rest))) m in
    let g = and_right (holds (deeper c.args.room) c.in_ok-of.levels) (and (fits c.args.room) (has (match_word ∷ []) (head_sort rest))) m in
    three_err bytes tokens (found_as cases_view (read c.args.room Matched rest)) (read c.args.room Expression ts) c.in-Err.stop (Err c.in-Err.stop) c.in-Err.ensures.told refl
    (λ left d. expression_stops c.args.room c.requires.open ts n rest (c.in_ok-of.of, c.in_ok-of.levels) c.in_ok-of.ensures.told
    (and_left (fits c.args.room) (has (match_word ∷ []) (head_sort rest)) g) h (and_right (fits c.args.room) (has (match_word ∷ []) (head_sort rest)) g) left d)

pub expressions::expression-returns-clause-told : goal.expressions::expression-returns-clause-told
expressions::expression-returns-clause-told t c =
    let bytes = c.args.bytes.now in
    let tokens = c.args.tokens.now in
    let ts = behind bytes tokens c.args.start in
    let rest = behind bytes tokens c.in_ok-of.next in
    let left = behind bytes tokens c.in-Ok.read.3 in
    let n = either_fails (fits c.args.room) (has (if_word ∷ []) (head_sort ts)) (sym c.comes.ensures ∙ c.if-comes.false) in
    let m : and (holds (deeper c.args.room) c.in_ok-of.levels) (and (fits c.args.room) (has (match_word ∷ []) (head_sort rest))) ≡ true = sym c.is_matched.ensures ∙ c.if-not-is_matched.false in
    let h = and_left (holds (deeper c.args.room) c.in_ok-of.levels) (and (fits c.args.room) (has (match_word ∷ []) (head_sort rest))) m in
    let g = and_right (holds (deeper c.args.room) c.in_ok-of.levels) (and (fits c.args.room) (has (match_word ∷ []) (head_sort rest))) m in
    let most = c.max.ensures in
    expression_matched c.args.room c.requires.open ts n rest (c.in_ok-of.of, c.in_ok-of.levels) c.in_ok-of.ensures.told
    (and_left (fits c.args.room) (has (match_word ∷ []) (head_sort rest)) g) h (and_right (fits c.args.room) (has (match_word ∷ []) (head_sort rest)) g)
    left c.in-Ok.read.0 c.in-Ok.read.1 (c.max.result + 1) c.in-Ok.read.2 c.in_ok-match_of.field-0 c.in-Ok.ensures.told c.in_ok-match_of.ensures (omega arith)

pub expressions::expression-if_expression-requires : goal.expressions::expression-if_expression-requires
expressions::expression-if_expression-requires t c =
    let ts = behind c.args.bytes.now c.args.tokens.now c.args.start in
    (omega arith, (c.requires.in_bounds, and_left (fits c.args.room) (has (if_word ∷ []) (head_sort ts)) (sym c.comes.ensures ∙ c.if-comes.true)))

pub expressions::expression-infix-requires : goal.expressions::expression-infix-requires
expressions::expression-infix-requires t c = (omega arith, (c.requires.in_bounds, (c.requires.open, refl)))

pub expressions::expression-matched-requires : goal.expressions::expression-matched-requires
expressions::expression-matched-requires t c =
    let rest = behind c.args.bytes.now c.args.tokens.now c.in_ok-of.next in
    let l = c.in_ok-of.ensures.lies in
    let g = and_right (holds (deeper c.args.room) c.in_ok-of.levels) (and (fits c.args.room) (has (match_word ∷ []) (head_sort rest))) (sym c.is_matched.ensures ∙ c.if-not-is_matched.false) in
    (omega arith, (c.in_ok-of.ensures.lies.1, and_left (fits c.args.room) (has (match_word ∷ []) (head_sort rest)) g))

pub expressions::fields-returns-in-Err-clause-told : goal.expressions::fields-returns-in-Err-clause-told
expressions::fields-returns-in-Err-clause-told t c =
    let bytes = c.args.bytes.now in
    let tokens = c.args.tokens.now in
    let ts = behind bytes tokens c.args.start in
    token_err_three bytes tokens c.args.start (read_token (is sort (equals ∷ [])) ts) (found_as (fields_seen c.args.name) (reads (fields_form c.args.room) ts)) c.in-Err.stop (Err c.in-Err.stop)
    c.in-Err.ensures.told refl (λ rest e. fields_halts c.args.room ts rest c.args.name e)

pub expressions::fields-returns-in-Err-expression-clause-told : goal.expressions::fields-returns-in-Err-expression-clause-told
expressions::fields-returns-in-Err-expression-clause-told t c =
    let bytes = c.args.bytes.now in
    let tokens = c.args.tokens.now in
    let ts = behind bytes tokens c.args.start in
    let more = behind bytes tokens (c.args.start + 1) in
    let n : suc c.args.start ≡ c.args.start + 1 = omega arith in
    let e = rw (n) at c.in_default.ensures.told in
    two_err_three bytes tokens (read c.args.room Expression more) (found_as (fields_seen c.args.name) (reads (fields_form c.args.room) ts)) c.in-Err-expression.stop (Err c.in-Err-expression.stop)
    c.in-Err-expression.ensures.told refl (λ rest d. fields_second c.args.room ts more rest (spelled bytes c.in_default.field-0) c.args.name e d)

pub expressions::fields-returns-clause-told : goal.expressions::fields-returns-clause-told
expressions::fields-returns-clause-told t c =
    let bytes = c.args.bytes.now in
    let tokens = c.args.tokens.now in
    let ts = behind bytes tokens c.args.start in
    let more = behind bytes tokens (c.args.start + 1) in
    let rest = behind bytes tokens c.in-Ok.read.2 in
    let n : suc c.args.start ≡ c.args.start + 1 = omega arith in
    let e = rw (n) at c.in_default.ensures.told in
    told_same_three bytes tokens (found_as (more_fields_seen c.in_ok-first.first c.in-Ok.read.1) (reads (more_fields_form c.args.room) rest)) (found_as (fields_seen c.args.name) (reads (fields_form c.args.room) ts))
    c.more_fields.result
    (fields_go c.args.room ts more rest (spelled bytes c.in_default.field-0) c.args.name c.in-Ok.read.0 c.in-Ok.read.1 c.in_ok-first.first e c.in-Ok.ensures.told c.in_ok-first.ensures)
    c.more_fields.ensures.told

pub expressions::fields-expression-requires : goal.expressions::fields-expression-requires
expressions::fields-expression-requires t c = let p = c.in_default.ensures.in_bounds in (omega arith, (omega arith, c.requires.open))

pub expressions::fields-more_fields-requires : goal.expressions::fields-more_fields-requires
expressions::fields-more_fields-requires t c =
    let p = c.in_default.ensures.in_bounds in
    let l = c.in-Ok.ensures.lies in
    (omega arith, (omega arith, (c.requires.open, omega arith)))

pub expressions::guard-returns-then-peek-ne-IF-clause-told : goal.expressions::guard-returns-then-peek-ne-IF-clause-told
expressions::guard-returns-then-peek-ne-IF-clause-told t c =
    let ts = behind c.args.bytes.now c.args.tokens.now c.args.start in
    guard_none c.args.room ts (comes_not if_word c.peek.result ts c.peek.ensures.sort c.if-peek-ne-IF.true)

pub expressions::guard-returns-in_err-of-clause-told : goal.expressions::guard-returns-in_err-of-clause-told
expressions::guard-returns-in_err-of-clause-told t c =
    let bytes = c.args.bytes.now in
    let tokens = c.args.tokens.now in
    let ts = behind bytes tokens c.args.start in
    let more = behind bytes tokens (c.args.start + 1) in
    let h = comes if_word c.peek.result ts c.peek.ensures.sort c.if-peek-ne-IF.false in
    let d = token_here bytes tokens c.args.start (c.args.start + 1) (if_word ∷ []) (omega arith) (c.peek.ensures.present (omega arith)) h in
    two_err bytes tokens (read c.args.room Expression more) (found_as guard_view (reads (guard_form c.args.room) ts)) c.in_err-of.field-0.0 c.from_residual.result c.in_err-of.ensures.told c.from_residual.ensures.1
    (λ rest e. guard_stops c.args.room ts more rest d.0 h d.1 e)

pub expressions::guard-returns-clause-told : goal.expressions::guard-returns-clause-told
expressions::guard-returns-clause-told t c =
    let bytes = c.args.bytes.now in
    let tokens = c.args.tokens.now in
    let ts = behind bytes tokens c.args.start in
    let more = behind bytes tokens (c.args.start + 1) in
    let rest = behind bytes tokens c.in_ok-of.next in
    let h = comes if_word c.peek.result ts c.peek.ensures.sort c.if-peek-ne-IF.false in
    let d = token_here bytes tokens c.args.start (c.args.start + 1) (if_word ∷ []) (omega arith) (c.peek.ensures.present (omega arith)) h in
    guard_some c.args.room ts more rest d.0 c.in_ok-of.of c.in_ok-of.levels h d.1 c.in_ok-of.ensures.told

pub expressions::guard-expression-requires : goal.expressions::guard-expression-requires
expressions::guard-expression-requires t c = let p = c.peek.ensures.present (omega arith) in (omega arith, (omega arith, c.requires.open))

pub expressions::head-returns-in_err-expect-clause-told : goal.expressions::head-returns-in_err-expect-clause-told
expressions::head-returns-in_err-expect-clause-told t c =
    let bytes = c.args.bytes.now in
    let tokens = c.args.tokens.now in
    let ts = behind bytes tokens c.args.start in
    token_err bytes tokens c.args.start (read_token (is sort (left_parenthesis ∷ [])) ts) (found_as head_view (reads (head_form c.args.room) ts)) c.in_err-expect.field-0.0 c.from_residual.result
    c.in_err-expect.ensures.told c.from_residual.ensures.1 (λ rest e. head_halts c.args.room ts rest e)

pub expressions::head-returns-in_err-of-clause-told : goal.expressions::head-returns-in_err-of-clause-told
expressions::head-returns-in_err-of-clause-told t c =
    let bytes = c.args.bytes.now in
    let tokens = c.args.tokens.now in
    let ts = behind bytes tokens c.args.start in
    let more = behind bytes tokens (c.args.start + 1) in
    let n : suc c.args.start ≡ c.args.start + 1 = omega arith in
    let e = rw (n) at c.in_ok-expect.ensures.told in
    two_err bytes tokens (read c.args.room Expression more) (found_as head_view (reads (head_form c.args.room) ts)) c.in_err-of.field-0.0 c.from_residual-in_err-of.result
    c.in_err-of.ensures.told c.from_residual-in_err-of.ensures.1 (λ rest d. head_second c.args.room ts more (spelled bytes c.in_ok-expect.field-0) e rest d)

pub expressions::head-returns-in-Err-clause-told : goal.expressions::head-returns-in-Err-clause-told
expressions::head-returns-in-Err-clause-told t c =
    let bytes = c.args.bytes.now in
    let tokens = c.args.tokens.now in
    let ts = behind bytes tokens c.args.start in
    let more = behind bytes tokens (c.args.start + 1) in
    let left = behind bytes tokens c.in_ok-of.at in
    let n : suc c.args.start ≡ c.args.start + 1 = omega arith in
    let e = rw (n) at c.in_ok-expect.ensures.told in
    token_err bytes tokens c.in_ok-of.at (read_token (is sort (right_parenthesis ∷ [])) left) (found_as head_view (reads (head_form c.args.room) ts)) c.in-Err.stop (Err c.in-Err.stop)
    c.in-Err.ensures.told refl (λ rest d. head_third c.args.room ts more (spelled bytes c.in_ok-expect.field-0) e left (c.in_ok-of.of, c.in_ok-of.levels) c.in_ok-of.ensures.told rest d)

pub expressions::head-returns-clause-told : goal.expressions::head-returns-clause-told
expressions::head-returns-clause-told t c =
    let bytes = c.args.bytes.now in
    let tokens = c.args.tokens.now in
    let ts = behind bytes tokens c.args.start in
    let more = behind bytes tokens (c.args.start + 1) in
    let left = behind bytes tokens c.in_ok-of.at in
    let rest = behind bytes tokens (c.in_ok-of.at + 1) in
    let n : suc c.args.start ≡ c.args.start + 1 = omega arith in
    let m : suc c.in_ok-of.at ≡ c.in_ok-of.at + 1 = omega arith in
    let e = rw (n) at c.in_ok-expect.ensures.told in
    let d = rw (m) at c.in_default.ensures.told in
    head_whole c.args.room ts more (spelled bytes c.in_ok-expect.field-0) e left (c.in_ok-of.of, c.in_ok-of.levels) c.in_ok-of.ensures.told rest (spelled bytes c.in_default.field-0) d

pub expressions::head-expression-requires : goal.expressions::head-expression-requires
expressions::head-expression-requires t c = let p = c.in_ok-expect.ensures.in_bounds in (omega arith, (omega arith, c.requires.open))

pub expressions::if_expression-returns-in_err-first-clause-told : goal.expressions::if_expression-returns-in_err-first-clause-told
expressions::if_expression-returns-in_err-first-clause-told t c =
    let bytes = c.args.bytes.now in
    let tokens = c.args.tokens.now in
    let ts = behind bytes tokens c.args.start in
    token_err bytes tokens c.args.start (read_token (is sort (if_word ∷ [])) ts) (found_as if_view (reads (if_form c.args.room) ts)) c.in_err-first.field-0.0 c.from_residual.result
    c.in_err-first.ensures.told c.from_residual.ensures.1 (λ rest e. if_halts c.args.room ts rest e)

pub expressions::if_expression-returns-in_err-condition-clause-told : goal.expressions::if_expression-returns-in_err-condition-clause-told
expressions::if_expression-returns-in_err-condition-clause-told t c =
    let bytes = c.args.bytes.now in
    let tokens = c.args.tokens.now in
    let ts = behind bytes tokens c.args.start in
    let us = behind bytes tokens (c.args.start + 1) in
    let n : suc c.args.start ≡ c.args.start + 1 = omega arith in
    let a = rw (n) at c.in_ok-first.ensures.told in
    two_err bytes tokens (found_as head_view (reads (head_form c.deeper-room.result) us)) (found_as if_view (reads (if_form c.args.room) ts)) c.in_err-condition.field-0.0 c.from_residual-in_err-condition.result
    c.in_err-condition.ensures.told c.from_residual-in_err-condition.ensures.1
    (λ rest e. if_second c.args.room ts us (spelled bytes c.in_ok-first.first) a rest (ap (λ r. found_as head_view (reads (head_form r) us)) (sym c.deeper-room.ensures) ∙ e))

pub expressions::if_expression-returns-in-Err-clause-told : goal.expressions::if_expression-returns-in-Err-clause-told
expressions::if_expression-returns-in-Err-clause-told t c =
    let bytes = c.args.bytes.now in
    let tokens = c.args.tokens.now in
    let ts = behind bytes tokens c.args.start in
    let us = behind bytes tokens (c.args.start + 1) in
    let vs = behind bytes tokens c.in_ok-condition.at in
    let n : suc c.args.start ≡ c.args.start + 1 = omega arith in
    let a = rw (n) at c.in_ok-first.ensures.told in
    let b = ap (λ r. found_as head_view (reads (head_form r) us)) (sym c.deeper-room.ensures) ∙ c.in_ok-condition.ensures.told in
    two_err bytes tokens (read c.deeper-room.result Expression vs) (found_as if_view (reads (if_form c.args.room) ts)) c.in-Err.stop (Err c.in-Err.stop) c.in-Err.ensures.told refl
    (λ rest e. if_third c.args.room ts us (spelled bytes c.in_ok-first.first) a vs (c.in_ok-condition.condition, c.in_ok-condition.condition_levels) b rest
    (ap (λ r. read r Expression vs) (sym c.deeper-room.ensures) ∙ e))

pub expressions::if_expression-returns-in-Err-expect-clause-told : goal.expressions::if_expression-returns-in-Err-expect-clause-told
expressions::if_expression-returns-in-Err-expect-clause-told t c =
    let bytes = c.args.bytes.now in
    let tokens = c.args.tokens.now in
    let ts = behind bytes tokens c.args.start in
    let us = behind bytes tokens (c.args.start + 1) in
    let vs = behind bytes tokens c.in_ok-condition.at in
    let ws = behind bytes tokens c.in-Ok.read.2 in
    let n : suc c.args.start ≡ c.args.start + 1 = omega arith in
    let a = rw (n) at c.in_ok-first.ensures.told in
    let b = ap (λ r. found_as head_view (reads (head_form r) us)) (sym c.deeper-room.ensures) ∙ c.in_ok-condition.ensures.told in
    let d = ap (λ r. read r Expression vs) (sym c.deeper-room.ensures) ∙ c.in-Ok.ensures.told in
    token_err bytes tokens c.in-Ok.read.2 (read_token (is sort (else_word ∷ [])) ws) (found_as if_view (reads (if_form c.args.room) ts)) c.in-Err-expect.stop (Err c.in-Err-expect.stop)
    c.in-Err-expect.ensures.told refl
    (λ rest e. if_fourth c.args.room ts us (spelled bytes c.in_ok-first.first) a vs (c.in_ok-condition.condition, c.in_ok-condition.condition_levels) b ws (c.in-Ok.read.0, c.in-Ok.read.1) d rest e)

pub expressions::if_expression-returns-in-Err-expression-clause-told : goal.expressions::if_expression-returns-in-Err-expression-clause-told
expressions::if_expression-returns-in-Err-expression-clause-told t c =
    let bytes = c.args.bytes.now in
    let tokens = c.args.tokens.now in
    let ts = behind bytes tokens c.args.start in
    let us = behind bytes tokens (c.args.start + 1) in
    let vs = behind bytes tokens c.in_ok-condition.at in
    let ws = behind bytes tokens c.in-Ok.read.2 in
    let zs = behind bytes tokens (c.in-Ok.read.2 + 1) in
    let n : suc c.args.start ≡ c.args.start + 1 = omega arith in
    let m : suc c.in-Ok.read.2 ≡ c.in-Ok.read.2 + 1 = omega arith in
    let a = rw (n) at c.in_ok-first.ensures.told in
    let b = ap (λ r. found_as head_view (reads (head_form r) us)) (sym c.deeper-room.ensures) ∙ c.in_ok-condition.ensures.told in
    let d = ap (λ r. read r Expression vs) (sym c.deeper-room.ensures) ∙ c.in-Ok.ensures.told in
    let f = rw (m) at c.in_default.ensures.told in
    two_err bytes tokens (read c.deeper-room.result Expression zs) (found_as if_view (reads (if_form c.args.room) ts)) c.in-Err-expression.stop (Err c.in-Err-expression.stop)
    c.in-Err-expression.ensures.told refl
    (λ rest e. if_fifth c.args.room ts us (spelled bytes c.in_ok-first.first) a vs (c.in_ok-condition.condition, c.in_ok-condition.condition_levels) b ws (c.in-Ok.read.0, c.in-Ok.read.1) d
    zs (spelled bytes c.in_default.field-0) f rest (ap (λ r. read r Expression zs) (sym c.deeper-room.ensures) ∙ e))

pub expressions::if_expression-returns-clause-told : goal.expressions::if_expression-returns-clause-told
unfolding spelled
expressions::if_expression-returns-clause-told t c =
    let bytes = c.args.bytes.now in
    let tokens = c.args.tokens.now in
    let ts = behind bytes tokens c.args.start in
    let us = behind bytes tokens (c.args.start + 1) in
    let vs = behind bytes tokens c.in_ok-condition.at in
    let ws = behind bytes tokens c.in-Ok.read.2 in
    let zs = behind bytes tokens (c.in-Ok.read.2 + 1) in
    let rest = behind bytes tokens c.in-Ok-expression.read.2 in
    let n : suc c.args.start ≡ c.args.start + 1 = omega arith in
    let m : suc c.in-Ok.read.2 ≡ c.in-Ok.read.2 + 1 = omega arith in
    let a = rw (n) at c.in_ok-first.ensures.told in
    let b = ap (λ r. found_as head_view (reads (head_form r) us)) (sym c.deeper-room.ensures) ∙ c.in_ok-condition.ensures.told in
    let d = ap (λ r. read r Expression vs) (sym c.deeper-room.ensures) ∙ c.in-Ok.ensures.told in
    let f = rw (m) at c.in_default.ensures.told in
    if_whole c.args.room ts us (spelled bytes c.in_ok-first.first) a vs (c.in_ok-condition.condition, c.in_ok-condition.condition_levels) b ws (c.in-Ok.read.0, c.in-Ok.read.1) d
    zs (spelled bytes c.in_default.field-0) f rest (c.in-Ok-expression.read.0, c.in-Ok-expression.read.1) c.in_ok-if_of.field-0 (c.max-2.result + 1)
    (ap (λ r. read r Expression zs) (sym c.deeper-room.ensures) ∙ c.in-Ok-expression.ensures.told) c.in_ok-if_of.ensures (omega (arith, c.max.ensures, c.max-2.ensures))

pub expressions::if_expression-head-requires : goal.expressions::if_expression-head-requires
expressions::if_expression-head-requires t c = let i = c.in_ok-first.ensures.in_bounds in (omega arith, (omega arith, ap open_to c.deeper-room.ensures ∙ c.requires.fits))

pub expressions::if_expression-expression-requires : goal.expressions::if_expression-expression-requires
expressions::if_expression-expression-requires t c =
    let i = c.in_ok-first.ensures.in_bounds in
    let l = c.in_ok-condition.ensures.lies in
    (omega arith, (omega arith, ap open_to c.deeper-room.ensures ∙ c.requires.fits))

pub expressions::if_expression-expression-requires-2 : goal.expressions::if_expression-expression-requires-2
expressions::if_expression-expression-requires-2 t c =
    let k = c.in_ok-condition.ensures.lies in
    let l = c.in-Ok.ensures.lies in
    let i = c.in_default.ensures.in_bounds in
    (omega arith, (omega arith, ap open_to c.deeper-room.ensures ∙ c.requires.fits))

pub expressions::infix-returns-then-level-gt7-clause-told : goal.expressions::infix-returns-then-level-gt7-clause-told
expressions::infix-returns-then-level-gt7-clause-told t c =
    let bytes = c.args.bytes.now in
    let tokens = c.args.tokens.now in
    let ts = behind bytes tokens c.args.start in
    told_same bytes tokens (read c.args.room Prefix ts) (read c.args.room (Level c.args.level) ts) c.operand.result
    (level_operand c.args.room c.args.level c.requires.open c.requires.level ts (omega (arith, c.if-level-gt7.true))) c.operand.ensures.told

pub expressions::infix-returns-in_err-first-clause-told : goal.expressions::infix-returns-in_err-first-clause-told
expressions::infix-returns-in_err-first-clause-told t c =
    let bytes = c.args.bytes.now in
    let tokens = c.args.tokens.now in
    let ts = behind bytes tokens c.args.start in
    let low : c.args.level ≤ 7 = omega (arith, c.if-level-gt7.false) in
    let n : suc c.args.level ≡ c.args.level + 1 = omega arith in
    two_err bytes tokens (read c.args.room (Level (c.args.level + 1)) ts) (read c.args.room (Level c.args.level) ts) c.in_err-first.field-0.0 c.from_residual.result c.in_err-first.ensures.told c.from_residual.ensures.1
    (λ rest e. level_halts c.args.room c.args.level c.requires.open c.requires.level low ts rest (ap (λ l. read c.args.room (Level l) ts) n ∙ e))

pub expressions::infix-links-init : goal.expressions::infix-links-init
expressions::infix-links-init t c =
    let bytes = c.args.bytes.now in
    let tokens = c.args.tokens.now in
    let ts = behind bytes tokens c.args.start in
    let low : c.args.level ≤ 7 = omega (arith, c.if-level-gt7.false) in
    let n : suc c.args.level ≡ c.args.level + 1 = omega arith in
    let l = c.in_ok-first.ensures.lies in
    record {
      begun = omega arith;
      in_bounds = omega arith;
      few = omega arith;
      grows = level_begins c.args.room c.args.level c.requires.open c.requires.level low ts (behind bytes tokens c.in_ok-first.next) (c.in_ok-first.first, c.in_ok-first.first_levels)
          (ap (λ l. read c.args.room (Level l) ts) n ∙ c.in_ok-first.ensures.told);
    }

pub expressions::infix-token_at-operator-requires : goal.expressions::infix-token_at-operator-requires
expressions::infix-token_at-operator-requires t c =
    let ts = behind c.args.bytes.now c.args.tokens.now c.links.at in
    let e = sym c.is_link.ensures ∙ c.links-test.true in
    let h = and_right (and (fits c.args.room) (holds (deeper c.args.room) c.links.levels)) (has (operators c.args.level) (head_sort ts)) e in
    present c.args.bytes.now c.args.tokens.now c.links.at (operators c.args.level) (no_operator c.args.level) h

pub expressions::infix-infix-requires-in-links : goal.expressions::infix-infix-requires-in-links
expressions::infix-infix-requires-in-links t c =
    let ts = behind c.args.bytes.now c.args.tokens.now c.links.at in
    let e = sym c.is_link.ensures ∙ c.links-test.true in
    let o = and_left (and (fits c.args.room) (holds (deeper c.args.room) c.links.levels)) (has (operators c.args.level) (head_sort ts)) e in
    let h = and_right (and (fits c.args.room) (holds (deeper c.args.room) c.links.levels)) (has (operators c.args.level) (head_sort ts)) e in
    let f = and_left (fits c.args.room) (holds (deeper c.args.room) c.links.levels) o in
    let p = present c.args.bytes.now c.args.tokens.now c.links.at (operators c.args.level) (no_operator c.args.level) h in
    let low : c.args.level ≤ 7 = omega (arith, c.if-level-gt7.false) in
    let n : c.args.level + 1 ≡ suc c.args.level = omega arith in
    let b = c.links.invariant.begun in
    (omega arith, (omega arith, (ap open_to c.deeper.ensures ∙ f, ap (up_to 8) n ∙ next_level c.args.level low c.requires.level)))

pub expressions::infix-returns-in-Err-clause-told : goal.expressions::infix-returns-in-Err-clause-told
expressions::infix-returns-in-Err-clause-told t c =
    let bytes = c.args.bytes.now in
    let tokens = c.args.tokens.now in
    let room = c.args.room in
    let level = c.args.level in
    let ts = behind bytes tokens c.links.at in
    let more = behind bytes tokens (c.links.at + 1) in
    let k = spelled bytes c.token_at-operator.result in
    let e = sym c.is_link.ensures ∙ c.links-test.true in
    let o = and_left (and (fits room) (holds (deeper room) c.links.levels)) (has (operators level) (head_sort ts)) e in
    let h = and_right (and (fits room) (holds (deeper room) c.links.levels)) (has (operators level) (head_sort ts)) e in
    let f = and_left (fits room) (holds (deeper room) c.links.levels) o in
    let g = and_right (fits room) (holds (deeper room) c.links.levels) o in
    let low : level ≤ 7 = omega (arith, c.if-level-gt7.false) in
    let n : suc level ≡ level + 1 = omega arith in
    let m : suc c.links.at ≡ c.links.at + 1 = omega arith in
    let a = token_taken (operators level) ts more k (c.token_at-operator.ensures bytes ∙ ap (λ n. k ∷ behind bytes tokens n) m) h in
    two_err bytes tokens (read c.deeper.result (Level (level + 1)) more) (read room (Level level) (behind bytes tokens c.args.start)) c.in-Err.stop (Err c.in-Err.stop) c.in-Err.ensures.told refl
    (λ rest d. c.links.invariant.grows ∙ links_stops room level (c.links.of, c.links.levels) ts c.requires.level low f g h more k a rest
    (ap (λ r. read r (Level (suc level)) more) (sym c.deeper.ensures) ∙ (ap (λ l. read c.deeper.result (Level l) more) n ∙ d)))

pub expressions::infix-links-preserved : goal.expressions::infix-links-preserved
unfolding spelled
expressions::infix-links-preserved t c =
    let bytes = c.args.bytes.now in
    let tokens = c.args.tokens.now in
    let room = c.args.room in
    let level = c.args.level in
    let ts = behind bytes tokens c.links.at in
    let more = behind bytes tokens (c.links.at + 1) in
    let k = spelled bytes c.token_at-operator.result in
    let e = sym c.is_link.ensures ∙ c.links-test.true in
    let o = and_left (and (fits room) (holds (deeper room) c.links.levels)) (has (operators level) (head_sort ts)) e in
    let h = and_right (and (fits room) (holds (deeper room) c.links.levels)) (has (operators level) (head_sort ts)) e in
    let f = and_left (fits room) (holds (deeper room) c.links.levels) o in
    let g = and_right (fits room) (holds (deeper room) c.links.levels) o in
    let low : level ≤ 7 = omega (arith, c.if-level-gt7.false) in
    let n : suc level ≡ level + 1 = omega arith in
    let m : suc c.links.at ≡ c.links.at + 1 = omega arith in
    let a = token_taken (operators level) ts more k (c.token_at-operator.ensures bytes ∙ ap (λ n. k ∷ behind bytes tokens n) m) h in
    let l = c.in-Ok.ensures.lies in
    record {
      begun = omega arith;
      in_bounds = omega arith;
      few = omega arith;
      grows = c.links.invariant.grows ∙ links_goes room level (c.links.of, c.links.levels) ts c.requires.level low f g h more k a (behind bytes tokens c.in-Ok.read.2) (c.in-Ok.read.0, c.in-Ok.read.1) c.in_ok-of.of (c.max-levels.result + 1)
          (ap (λ r. read r (Level (suc level)) more) (sym c.deeper.ensures) ∙ (ap (λ l. read c.deeper.result (Level l) more) n ∙ c.in-Ok.ensures.told)) c.in_ok-of.ensures (omega (arith, c.max-levels.ensures));
    }

pub expressions::infix-returns-clause-told : goal.expressions::infix-returns-clause-told
expressions::infix-returns-clause-told t c =
    c.links.invariant.grows ∙ links_end c.args.room c.args.level (c.links.of, c.links.levels) (behind c.args.bytes.now c.args.tokens.now c.links.at) (sym c.is_link.ensures ∙ c.links-test.false)

pub expressions::infix-operand-requires : goal.expressions::infix-operand-requires
expressions::infix-operand-requires t c =
    let m = most_level 8 c.args.level c.requires.level in
    (omega arith, (c.requires.in_bounds, c.requires.open))

pub expressions::infix-infix-requires : goal.expressions::infix-infix-requires
expressions::infix-infix-requires t c =
    let low : c.args.level ≤ 7 = omega (arith, c.if-level-gt7.false) in
    let n : c.args.level + 1 ≡ suc c.args.level = omega arith in
    (omega arith, (c.requires.in_bounds, (c.requires.open, ap (up_to 8) n ∙ next_level c.args.level low c.requires.level)))

pub expressions::matched-returns-in_err-expect-clause-told : goal.expressions::matched-returns-in_err-expect-clause-told
expressions::matched-returns-in_err-expect-clause-told t c =
    let bytes = c.args.bytes.now in
    let tokens = c.args.tokens.now in
    let ts = behind bytes tokens c.args.start in
    token_err_three bytes tokens c.args.start (read_token (is sort (match_word ∷ [])) ts) (found_as cases_view (read c.args.room Matched ts)) c.in_err-expect.field-0.0 c.from_residual.result
    c.in_err-expect.ensures.told c.from_residual.ensures.1 (λ rest e. matched_halts c.args.room c.requires.fits ts rest e)

pub expressions::matched-returns-in_err-expect-2-clause-told : goal.expressions::matched-returns-in_err-expect-2-clause-told
expressions::matched-returns-in_err-expect-2-clause-told t c =
    let bytes = c.args.bytes.now in
    let tokens = c.args.tokens.now in
    let ts = behind bytes tokens c.args.start in
    let us = behind bytes tokens (c.args.start + 1) in
    let n : suc c.args.start ≡ c.args.start + 1 = omega arith in
    let e = rw (n) at c.in_ok-expect.ensures.told in
    token_err_three bytes tokens (c.args.start + 1) (read_token (is sort (left_brace ∷ [])) us) (found_as cases_view (read c.args.room Matched ts)) c.in_err-expect-2.field-0.0 c.from_residual-in_err-expect-2.result
    c.in_err-expect-2.ensures.told c.from_residual-in_err-expect-2.ensures.1 (λ rest d. matched_second c.args.room c.requires.fits ts us rest (spelled bytes c.in_ok-expect.field-0) e d)

pub expressions::matched-returns-in_err-first-clause-told : goal.expressions::matched-returns-in_err-first-clause-told
expressions::matched-returns-in_err-first-clause-told t c =
    let bytes = c.args.bytes.now in
    let tokens = c.args.tokens.now in
    let ts = behind bytes tokens c.args.start in
    let us = behind bytes tokens (c.args.start + 1) in
    let vs = behind bytes tokens (c.args.start + 2) in
    let n : suc c.args.start ≡ c.args.start + 1 = omega arith in
    let m : suc (c.args.start + 1) ≡ c.args.start + 2 = omega arith in
    let e = rw (n) at c.in_ok-expect.ensures.told in
    let d = rw (m) at c.in_ok-expect-2.ensures.told in
    two_err_three bytes tokens (read c.deeper.result A_case vs) (found_as cases_view (read c.args.room Matched ts)) c.in_err-first.field-0.0 c.from_residual-in_err-first.result
    c.in_err-first.ensures.told c.from_residual-in_err-first.ensures.1
    (λ rest f. matched_third c.args.room c.requires.fits ts us vs rest (spelled bytes c.in_ok-expect.field-0) (spelled bytes c.in_ok-expect-2.field-0) e d (ap (λ r. read r A_case vs) (sym c.deeper.ensures) ∙ f))

pub expressions::matched-listed-init : goal.expressions::matched-listed-init
expressions::matched-listed-init t c =
    let bytes = c.args.bytes.now in
    let tokens = c.args.tokens.now in
    let ts = behind bytes tokens c.args.start in
    let us = behind bytes tokens (c.args.start + 1) in
    let vs = behind bytes tokens (c.args.start + 2) in
    let rest = behind bytes tokens c.in_ok-first.next in
    let n : suc c.args.start ≡ c.args.start + 1 = omega arith in
    let m : suc (c.args.start + 1) ≡ c.args.start + 2 = omega arith in
    let e = rw (n) at c.in_ok-expect.ensures.told in
    let d = rw (m) at c.in_ok-expect-2.ensures.told in
    let l = c.in_ok-first.ensures.lies in
    record {
      begun = omega arith;
      in_bounds = omega arith;
      few = omega arith;
      grows = matched_begins c.args.room c.requires.fits ts us vs rest (spelled bytes c.in_ok-expect.field-0) (spelled bytes c.in_ok-expect-2.field-0) c.in_ok-first.first c.in_ok-first.first_levels c.push.new.self e d
          (ap (λ r. read r A_case vs) (sym c.deeper.ensures) ∙ c.in_ok-first.ensures.told) (c.in_ok-push.ensures.ok ∙ ap (λ all. all ++ c.in_ok-first.first ∷ []) c.new-all.ensures);
    }

pub expressions::matched-returns-in_err-one-clause-told : goal.expressions::matched-returns-in_err-one-clause-told
expressions::matched-returns-in_err-one-clause-told t c =
    let bytes = c.args.bytes.now in
    let tokens = c.args.tokens.now in
    let ts = behind bytes tokens c.listed.at in
    let h = comes case_word c.peek.result ts c.peek.ensures.sort c.listed-test.true in
    two_err_three bytes tokens (read c.deeper-in-listed.result A_case ts) (found_as cases_view (read c.args.room Matched (behind bytes tokens c.args.start))) c.in_err-one.field-0.0 c.from_residual-in_err-one.result
    c.in_err-one.ensures.told c.from_residual-in_err-one.ensures.1
    (λ rest e. c.listed.invariant.grows ∙ cases_stops c.args.room (c.listed.all, c.listed.levels) ts rest h (ap (λ r. read r A_case ts) (sym c.deeper-in-listed.ensures) ∙ e))

pub expressions::matched-listed-preserved : goal.expressions::matched-listed-preserved
expressions::matched-listed-preserved t c =
    let bytes = c.args.bytes.now in
    let tokens = c.args.tokens.now in
    let ts = behind bytes tokens c.listed.at in
    let rest = behind bytes tokens c.in_ok-one.next in
    let h = comes case_word c.peek.result ts c.peek.ensures.sort c.listed-test.true in
    let l = c.in_ok-one.ensures.lies in
    let m = c.max-levels.ensures in
    let p = c.in_ok-push-2.ensures.ok in
    record {
      begun = omega arith;
      in_bounds = omega arith;
      few = omega arith;
      grows = c.listed.invariant.grows ∙ cases_goes c.args.room c.requires.fits (c.listed.all, c.listed.levels) ts rest c.in_ok-one.one c.in_ok-one.more c.push-in-listed.new.self c.max-levels.result h
          (ap (λ r. read r A_case ts) (sym c.deeper-in-listed.ensures) ∙ c.in_ok-one.ensures.told) p m;
    }

pub expressions::matched-returns-in_err-close-clause-told : goal.expressions::matched-returns-in_err-close-clause-told
expressions::matched-returns-in_err-close-clause-told t c =
    let bytes = c.args.bytes.now in
    let tokens = c.args.tokens.now in
    let ts = behind bytes tokens c.listed.at in
    let h = comes_not case_word c.peek.result ts c.peek.ensures.sort c.listed-test.false in
    token_err_three bytes tokens c.listed.at (read_token (is sort (right_brace ∷ [])) ts) (found_as cases_view (read c.args.room Matched (behind bytes tokens c.args.start))) c.in_err-close.field-0.0
    c.from_residual-in_err-close.result c.in_err-close.ensures.told c.from_residual-in_err-close.ensures.1
    (λ rest e. c.listed.invariant.grows ∙ cases_unclosed c.args.room (c.listed.all, c.listed.levels) ts rest h e)

pub expressions::matched-returns-clause-told : goal.expressions::matched-returns-clause-told
unfolding spelled
expressions::matched-returns-clause-told t c =
    let bytes = c.args.bytes.now in
    let tokens = c.args.tokens.now in
    let ts = behind bytes tokens c.listed.at in
    let h = comes_not case_word c.peek.result ts c.peek.ensures.sort c.listed-test.false in
    let n : suc c.listed.at ≡ c.listed.at + 1 = omega arith in
    let e = rw (n) at c.in_ok-close.ensures.told in
    c.listed.invariant.grows ∙ cases_ends c.args.room (c.listed.all, c.listed.levels) ts (behind bytes tokens (c.listed.at + 1)) (spelled bytes c.in_ok-close.close) h e

pub expressions::matched-returns-clause-lies : goal.expressions::matched-returns-clause-lies
expressions::matched-returns-clause-lies t c = let i = c.in_ok-close.ensures.in_bounds in (omega arith, omega arith, omega arith)

pub expressions::matched-one_case-requires : goal.expressions::matched-one_case-requires
expressions::matched-one_case-requires t c = let p = c.in_ok-expect-2.ensures.in_bounds in (omega arith, (omega arith, ap open_to c.deeper.ensures ∙ c.requires.fits))

pub expressions::matched-one_case-requires-in-listed : goal.expressions::matched-one_case-requires-in-listed
expressions::matched-one_case-requires-in-listed t c =
    let b = c.listed.invariant.begun in
    let i = c.listed.invariant.in_bounds in
    (omega arith, (c.listed.invariant.in_bounds, ap open_to c.deeper-in-listed.ensures ∙ c.requires.fits))

pub expressions::more_fields-listed-init : goal.expressions::more_fields-listed-init
expressions::more_fields-listed-init t c =
    let bytes = c.args.bytes.now in
    let tokens = c.args.tokens.now in
    let one : c.push.new.self ≡ c.args.first ∷ [] = c.in_ok-push.ensures.ok ∙ rw (c.new-all.ensures) in
    record {
      begun = omega arith;
      in_bounds = omega arith;
      few = omega arith;
      grows = more_fields_begins c.args.room (behind bytes tokens c.args.start) c.args.first c.args.first_levels c.push.new.self one;
    }

pub expressions::more_fields-returns-in_err-one-clause-told : goal.expressions::more_fields-returns-in_err-one-clause-told
expressions::more_fields-returns-in_err-one-clause-told t c =
    let bytes = c.args.bytes.now in
    let tokens = c.args.tokens.now in
    let ts = behind bytes tokens c.listed.at in
    let more = behind bytes tokens (c.listed.at + 1) in
    let h = comes comma c.peek.result ts c.peek.ensures.sort c.listed-test.true in
    let d = token_here bytes tokens c.listed.at (c.listed.at + 1) (comma ∷ []) (omega arith) (c.peek.ensures.present (omega arith)) h in
    two_err_three bytes tokens (found_as field_view (reads (named_form c.args.room) more)) (found_as (more_fields_seen c.args.first c.args.first_levels) (reads (more_fields_form c.args.room) (behind bytes tokens c.args.start))) c.in_err-one.field-0.0
    c.from_residual-in_err-one.result c.in_err-one.ensures.told c.from_residual-in_err-one.ensures.1
    (λ rest e. c.listed.invariant.grows ∙ fields_stops c.args.room (c.listed.all, c.listed.levels) ts more rest d.0 h d.1 e)

pub expressions::more_fields-listed-preserved : goal.expressions::more_fields-listed-preserved
expressions::more_fields-listed-preserved t c =
    let bytes = c.args.bytes.now in
    let tokens = c.args.tokens.now in
    let ts = behind bytes tokens c.listed.at in
    let more = behind bytes tokens (c.listed.at + 1) in
    let rest = behind bytes tokens c.in_ok-one.next in
    let h = comes comma c.peek.result ts c.peek.ensures.sort c.listed-test.true in
    let d = token_here bytes tokens c.listed.at (c.listed.at + 1) (comma ∷ []) (omega arith) (c.peek.ensures.present (omega arith)) h in
    let l = c.in_ok-one.ensures.lies in
    let m = c.max-levels.ensures in
    let p = c.in_ok-push-2.ensures.ok in
    record {
      begun = omega arith;
      in_bounds = omega arith;
      few = omega arith;
      grows = c.listed.invariant.grows ∙ fields_goes c.args.room c.requires.open (c.listed.all, c.listed.levels) ts more rest d.0 c.in_ok-one.one c.in_ok-one.more c.push-in-listed.new.self
          c.max-levels.result h d.1 c.in_ok-one.ensures.told p m;
    }

pub expressions::more_fields-returns-in_err-close-clause-told : goal.expressions::more_fields-returns-in_err-close-clause-told
expressions::more_fields-returns-in_err-close-clause-told t c =
    let bytes = c.args.bytes.now in
    let tokens = c.args.tokens.now in
    let ts = behind bytes tokens c.listed.at in
    let h = comes_not comma c.peek.result ts c.peek.ensures.sort c.listed-test.false in
    token_err_three bytes tokens c.listed.at (read_token (is sort (right_parenthesis ∷ [])) ts) (found_as (more_fields_seen c.args.first c.args.first_levels) (reads (more_fields_form c.args.room) (behind bytes tokens c.args.start)))
    c.in_err-close.field-0.0 c.from_residual-in_err-close.result c.in_err-close.ensures.told c.from_residual-in_err-close.ensures.1
    (λ rest e. c.listed.invariant.grows ∙ fields_unclosed c.args.room (c.listed.all, c.listed.levels) ts rest h e)

pub expressions::more_fields-returns-clause-told : goal.expressions::more_fields-returns-clause-told
unfolding spelled
expressions::more_fields-returns-clause-told t c =
    let bytes = c.args.bytes.now in
    let tokens = c.args.tokens.now in
    let ts = behind bytes tokens c.listed.at in
    let h = comes_not comma c.peek.result ts c.peek.ensures.sort c.listed-test.false in
    let n : suc c.listed.at ≡ c.listed.at + 1 = omega arith in
    let e = rw (n) at c.in_ok-close.ensures.told in
    c.listed.invariant.grows ∙ fields_ends c.args.room (c.listed.all, c.listed.levels) ts (behind bytes tokens (c.listed.at + 1)) (spelled bytes c.in_ok-close.close) h e

pub expressions::more_fields-returns-clause-lies : goal.expressions::more_fields-returns-clause-lies
expressions::more_fields-returns-clause-lies t c = let i = c.in_ok-close.ensures.in_bounds in (omega arith, (omega arith, omega arith, omega arith))

pub expressions::more_fields-one_field-requires : goal.expressions::more_fields-one_field-requires
expressions::more_fields-one_field-requires t c =
    let p : c.listed.at < length c.args.tokens.now = c.peek.ensures.present (omega arith) in
    let i = c.listed.invariant.begun in
    (omega arith, (omega arith, c.requires.open))

pub expressions::more_fields-listed-smaller : goal.expressions::more_fields-listed-smaller
expressions::more_fields-listed-smaller t c = let l = c.in_ok-one.ensures.lies in omega arith

pub expressions::one_case-returns-in_err-expect-clause-told : goal.expressions::one_case-returns-in_err-expect-clause-told
expressions::one_case-returns-in_err-expect-clause-told t c =
    let bytes = c.args.bytes.now in
    let tokens = c.args.tokens.now in
    let ts = behind bytes tokens c.args.start in
    token_err bytes tokens c.args.start (read_token (is sort (case_word ∷ [])) ts) (read c.args.room A_case ts) c.in_err-expect.field-0.0 c.from_residual.result
    c.in_err-expect.ensures.told c.from_residual.ensures.1 (λ rest e. case_halts c.args.room c.requires.open ts rest e)

pub expressions::one_case-returns-in_err-pattern-clause-told : goal.expressions::one_case-returns-in_err-pattern-clause-told
expressions::one_case-returns-in_err-pattern-clause-told t c =
    let bytes = c.args.bytes.now in
    let tokens = c.args.tokens.now in
    let ts = behind bytes tokens c.args.start in
    let us = behind bytes tokens (c.args.start + 1) in
    let n : suc c.args.start ≡ c.args.start + 1 = omega arith in
    let e = rw (n) at c.in_ok-expect.ensures.told in
    two_err bytes tokens (read c.args.room Pattern_of us) (read c.args.room A_case ts) c.in_err-pattern.field-0.0 c.from_residual-in_err-pattern.result
    c.in_err-pattern.ensures.told c.from_residual-in_err-pattern.ensures.1 (λ rest d. case_second c.args.room c.requires.open ts us rest (spelled bytes c.in_ok-expect.field-0) e d)

pub expressions::one_case-returns-in-Err-clause-told : goal.expressions::one_case-returns-in-Err-clause-told
expressions::one_case-returns-in-Err-clause-told t c =
    let bytes = c.args.bytes.now in
    let tokens = c.args.tokens.now in
    let ts = behind bytes tokens c.args.start in
    let us = behind bytes tokens (c.args.start + 1) in
    let vs = behind bytes tokens c.in_ok-pattern.at in
    let n : suc c.args.start ≡ c.args.start + 1 = omega arith in
    let e = rw (n) at c.in_ok-expect.ensures.told in
    two_err bytes tokens (found_as guard_view (reads (guard_form c.args.room) vs)) (read c.args.room A_case ts) c.in-Err.stop (Err c.in-Err.stop) c.in-Err.ensures.told refl
    (λ rest d. case_third c.args.room c.requires.open ts us vs rest (spelled bytes c.in_ok-expect.field-0) (c.in_ok-pattern.pattern, c.in_ok-pattern.pattern_levels) e c.in_ok-pattern.ensures.told d)

pub expressions::one_case-returns-in-Err-expect-clause-told : goal.expressions::one_case-returns-in-Err-expect-clause-told
expressions::one_case-returns-in-Err-expect-clause-told t c =
    let bytes = c.args.bytes.now in
    let tokens = c.args.tokens.now in
    let ts = behind bytes tokens c.args.start in
    let us = behind bytes tokens (c.args.start + 1) in
    let vs = behind bytes tokens c.in_ok-pattern.at in
    let ws = behind bytes tokens c.in-Ok.read.2 in
    let n : suc c.args.start ≡ c.args.start + 1 = omega arith in
    let e = rw (n) at c.in_ok-expect.ensures.told in
    token_err bytes tokens c.in-Ok.read.2 (read_token (is sort (double_arrow ∷ [])) ws) (read c.args.room A_case ts) c.in-Err-expect.stop (Err c.in-Err-expect.stop) c.in-Err-expect.ensures.told refl
    (λ rest d. case_fourth c.args.room c.requires.open ts us vs ws rest (spelled bytes c.in_ok-expect.field-0) (c.in_ok-pattern.pattern, c.in_ok-pattern.pattern_levels) (c.in-Ok.read.0, c.in-Ok.read.1)
    e c.in_ok-pattern.ensures.told c.in-Ok.ensures.told d)

pub expressions::one_case-returns-in-Err-statements-clause-told : goal.expressions::one_case-returns-in-Err-statements-clause-told
expressions::one_case-returns-in-Err-statements-clause-told t c =
    let bytes = c.args.bytes.now in
    let tokens = c.args.tokens.now in
    let ts = behind bytes tokens c.args.start in
    let us = behind bytes tokens (c.args.start + 1) in
    let vs = behind bytes tokens c.in_ok-pattern.at in
    let ws = behind bytes tokens c.in-Ok.read.2 in
    let zs = behind bytes tokens (c.in-Ok.read.2 + 1) in
    let n : suc c.args.start ≡ c.args.start + 1 = omega arith in
    let m : suc c.in-Ok.read.2 ≡ c.in-Ok.read.2 + 1 = omega arith in
    let e = rw (n) at c.in_ok-expect.ensures.told in
    let a = rw (m) at c.in_default.ensures.told in
    two_err bytes tokens (read c.args.room Statements zs) (read c.args.room A_case ts) c.in-Err-statements.stop (Err c.in-Err-statements.stop) c.in-Err-statements.ensures.told refl
    (λ rest d. case_fifth c.args.room c.requires.open ts us vs ws zs rest (spelled bytes c.in_ok-expect.field-0) (spelled bytes c.in_default.field-0) (c.in_ok-pattern.pattern, c.in_ok-pattern.pattern_levels) (c.in-Ok.read.0, c.in-Ok.read.1)
    e c.in_ok-pattern.ensures.told c.in-Ok.ensures.told a d)

pub expressions::one_case-returns-clause-told : goal.expressions::one_case-returns-clause-told
unfolding case_of
expressions::one_case-returns-clause-told t c =
    let bytes = c.args.bytes.now in
    let tokens = c.args.tokens.now in
    let ts = behind bytes tokens c.args.start in
    let us = behind bytes tokens (c.args.start + 1) in
    let vs = behind bytes tokens c.in_ok-pattern.at in
    let ws = behind bytes tokens c.in-Ok.read.2 in
    let zs = behind bytes tokens (c.in-Ok.read.2 + 1) in
    let rest = behind bytes tokens c.in-Ok-statements.read.2 in
    let n : suc c.args.start ≡ c.args.start + 1 = omega arith in
    let m : suc c.in-Ok.read.2 ≡ c.in-Ok.read.2 + 1 = omega arith in
    let e = rw (n) at c.in_ok-expect.ensures.told in
    let a = rw (m) at c.in_default.ensures.told in
    case_whole c.args.room c.requires.open ts us vs ws zs rest (spelled bytes c.in_ok-expect.field-0) (spelled bytes c.in_default.field-0) c.in_ok-pattern.pattern c.in-Ok.read.0 c.in-Ok-statements.read.0
    c.in_ok-pattern.pattern_levels c.in-Ok.read.1 c.in-Ok-statements.read.1 c.max-levels.result (case_of c.in_ok-pattern.pattern c.in-Ok.read.0 c.in-Ok-statements.read.0)
    e c.in_ok-pattern.ensures.told c.in-Ok.ensures.told a c.in-Ok-statements.ensures.told refl (c.max-levels.ensures ∙ ap (max c.in_ok-pattern.pattern_levels) c.max.ensures)

pub expressions::one_case-guard-requires : goal.expressions::one_case-guard-requires
expressions::one_case-guard-requires t c = let l = c.in_ok-pattern.ensures.lies in (omega arith, (c.in_ok-pattern.ensures.lies.1, c.requires.open))

pub expressions::one_case-statements-requires : goal.expressions::one_case-statements-requires
expressions::one_case-statements-requires t c =
    let l = c.in_ok-pattern.ensures.lies in
    let m = c.in-Ok.ensures.lies in
    let i = c.in_default.ensures.in_bounds in
    (omega arith, omega arith)

pub expressions::one_field-returns-in_err-name-clause-told : goal.expressions::one_field-returns-in_err-name-clause-told
expressions::one_field-returns-in_err-name-clause-told t c =
    let bytes = c.args.bytes.now in
    let tokens = c.args.tokens.now in
    let ts = behind bytes tokens c.args.start in
    token_err bytes tokens c.args.start (read_token (is sort names) ts) (found_as field_view (reads (named_form c.args.room) ts)) c.in_err-name.field-0.0 c.from_residual.result
    c.in_err-name.ensures.told c.from_residual.ensures.1 (λ rest e. field_halts c.args.room ts rest e)

pub expressions::one_field-returns-in_err-expect-clause-told : goal.expressions::one_field-returns-in_err-expect-clause-told
expressions::one_field-returns-in_err-expect-clause-told t c =
    let bytes = c.args.bytes.now in
    let tokens = c.args.tokens.now in
    let ts = behind bytes tokens c.args.start in
    let more = behind bytes tokens (c.args.start + 1) in
    let n : suc c.args.start ≡ c.args.start + 1 = omega arith in
    let e = rw (n) at c.in_ok-name.ensures.told in
    token_err bytes tokens (c.args.start + 1) (read_token (is sort (equals ∷ [])) more) (found_as field_view (reads (named_form c.args.room) ts)) c.in_err-expect.field-0.0 c.from_residual-in_err-expect.result
    c.in_err-expect.ensures.told c.from_residual-in_err-expect.ensures.1 (λ rest d. field_second c.args.room ts more rest (spelled bytes c.in_ok-name.name) e d)

pub expressions::one_field-returns-in_err-value-clause-told : goal.expressions::one_field-returns-in_err-value-clause-told
expressions::one_field-returns-in_err-value-clause-told t c =
    let bytes = c.args.bytes.now in
    let tokens = c.args.tokens.now in
    let ts = behind bytes tokens c.args.start in
    let more = behind bytes tokens (c.args.start + 1) in
    let us = behind bytes tokens (c.args.start + 2) in
    let n : suc c.args.start ≡ c.args.start + 1 = omega arith in
    let m : suc (c.args.start + 1) ≡ c.args.start + 2 = omega arith in
    let e = rw (n) at c.in_ok-name.ensures.told in
    let d = rw (m) at c.in_ok-expect.ensures.told in
    two_err bytes tokens (read c.args.room Expression us) (found_as field_view (reads (named_form c.args.room) ts)) c.in_err-value.field-0.0 c.from_residual-in_err-value.result
    c.in_err-value.ensures.told c.from_residual-in_err-value.ensures.1
    (λ rest f. field_third c.args.room ts more us rest (spelled bytes c.in_ok-name.name) (spelled bytes c.in_ok-expect.field-0) e d f)

pub expressions::one_field-returns-clause-told : goal.expressions::one_field-returns-clause-told
unfolding spelled
expressions::one_field-returns-clause-told t c =
    let bytes = c.args.bytes.now in
    let tokens = c.args.tokens.now in
    let ts = behind bytes tokens c.args.start in
    let more = behind bytes tokens (c.args.start + 1) in
    let us = behind bytes tokens (c.args.start + 2) in
    let n : suc c.args.start ≡ c.args.start + 1 = omega arith in
    let m : suc (c.args.start + 1) ≡ c.args.start + 2 = omega arith in
    let e = rw (n) at c.in_ok-name.ensures.told in
    let d = rw (m) at c.in_ok-expect.ensures.told in
    field_whole c.args.room ts more us (behind bytes tokens c.in_ok-value.next) (spelled bytes c.in_ok-name.name) (spelled bytes c.in_ok-expect.field-0) c.in_ok-value.value c.in_ok-value.levels c.in_ok-field_of.field-0
    e d c.in_ok-value.ensures.told c.in_ok-field_of.ensures

pub expressions::one_field-expression-requires : goal.expressions::one_field-expression-requires
expressions::one_field-expression-requires t c = let p = c.in_ok-expect.ensures.in_bounds in (omega arith, (omega arith, c.requires.open))

pub expressions::operand-returns-in_err-number-clause-told : goal.expressions::operand-returns-in_err-number-clause-told
expressions::operand-returns-in_err-number-clause-told t c =
    let bytes = c.args.bytes.now in
    let tokens = c.args.tokens.now in
    let ts = behind bytes tokens c.args.start in
    let more = behind bytes tokens (c.args.start + 1) in
    let k = spelled bytes c.token_at-operator.result in
    let n : suc c.args.start ≡ c.args.start + 1 = omega arith in
    let h = comes minus c.peek-sort.result ts c.peek-sort.ensures.sort c.if-sort-eq-MINUS.true in
    let a = token_taken (minus ∷ []) ts more k (c.token_at-operator.ensures bytes ∙ ap (λ n. k ∷ behind bytes tokens n) n) h in
    token_err bytes tokens (c.args.start + 1) (read_token (is sort (number ∷ [])) more) (read c.args.room Prefix ts) c.in_err-number.field-0.0 c.from_residual.result
    c.in_err-number.ensures.told c.from_residual.ensures.1 (λ rest e. negative_stops c.args.room c.requires.open ts more k h a (sym c.fits.ensures ∙ c.if-not-fits.true) rest e)

pub expressions::operand-returns-then-not-fits-clause-told : goal.expressions::operand-returns-then-not-fits-clause-told
unfolding spelled expr
expressions::operand-returns-then-not-fits-clause-told t c =
    let bytes = c.args.bytes.now in
    let tokens = c.args.tokens.now in
    let ts = behind bytes tokens c.args.start in
    let more = behind bytes tokens (c.args.start + 1) in
    let rest = behind bytes tokens (c.args.start + 2) in
    let k = spelled bytes c.token_at-operator.result in
    let j = spelled bytes c.in_ok-number.number in
    let n : suc c.args.start ≡ c.args.start + 1 = omega arith in
    let two : suc (c.args.start + 1) ≡ c.args.start + 2 = omega arith in
    let h = comes minus c.peek-sort.result ts c.peek-sort.ensures.sort c.if-sort-eq-MINUS.true in
    let a = token_taken (minus ∷ []) ts more k (c.token_at-operator.ensures bytes ∙ ap (λ n. k ∷ behind bytes tokens n) n) h in
    let e = rw (two) at c.in_ok-number.ensures.told in
    negative_one c.args.room c.requires.open ts more k h a (sym c.fits.ensures ∙ c.if-not-fits.true) rest j e
    ∙ (ap (λ l. Done (expr (expr_kind.Literal true l) (join k.span j.span), 1) rest) (sym c.in_ok-lexeme.ensures)
    ∙ ap (λ s. Done (expr (expr_kind.Literal true c.in_ok-lexeme.field-0) s, 1) rest) (sym c.join-span.ensures))

pub expressions::operand-returns-in_err-of-clause-told : goal.expressions::operand-returns-in_err-of-clause-told
expressions::operand-returns-in_err-of-clause-told t c =
    let bytes = c.args.bytes.now in
    let tokens = c.args.tokens.now in
    let ts = behind bytes tokens c.args.start in
    let more = behind bytes tokens (c.args.start + 1) in
    let k = spelled bytes c.token_at-operator.result in
    let n : suc c.args.start ≡ c.args.start + 1 = omega arith in
    let h = comes minus c.peek-sort.result ts c.peek-sort.ensures.sort c.if-sort-eq-MINUS.true in
    let a = token_taken (minus ∷ []) ts more k (c.token_at-operator.ensures bytes ∙ ap (λ n. k ∷ behind bytes tokens n) n) h in
    two_err bytes tokens (read c.deeper.result Postfix more) (read c.args.room Prefix ts) c.in_err-of.field-0.0 c.from_residual-in_err-of.result c.in_err-of.ensures.told c.from_residual-in_err-of.ensures.1
    (λ rest e. negated_stops c.args.room c.requires.open ts more k h a (sym c.fits.ensures ∙ c.if-not-fits.false) rest (ap (λ r. read r Postfix more) (sym c.deeper.ensures) ∙ e))

pub expressions::operand-returns-then-sort-eq-MINUS-clause-told : goal.expressions::operand-returns-then-sort-eq-MINUS-clause-told
expressions::operand-returns-then-sort-eq-MINUS-clause-told t c =
    let bytes = c.args.bytes.now in
    let tokens = c.args.tokens.now in
    let ts = behind bytes tokens c.args.start in
    let more = behind bytes tokens (c.args.start + 1) in
    let rest = behind bytes tokens c.in_ok-of.next in
    let k = spelled bytes c.token_at-operator.result in
    let n : suc c.args.start ≡ c.args.start + 1 = omega arith in
    let h = comes minus c.peek-sort.result ts c.peek-sort.ensures.sort c.if-sort-eq-MINUS.true in
    let a = token_taken (minus ∷ []) ts more k (c.token_at-operator.ensures bytes ∙ ap (λ n. k ∷ behind bytes tokens n) n) h in
    negated c.args.room c.requires.open ts more k h a (sym c.fits.ensures ∙ c.if-not-fits.false) rest (c.in_ok-of.of, c.in_ok-of.levels) (c.in_ok-of-2.of, c.in_ok-of-2.levels)
    (ap (λ r. read r Postfix more) (sym c.deeper.ensures) ∙ c.in_ok-of.ensures.told) c.in_ok-of-2.ensures

pub expressions::operand-returns-then-sort-eq-MINUS-clause-lies : goal.expressions::operand-returns-then-sort-eq-MINUS-clause-lies
expressions::operand-returns-then-sort-eq-MINUS-clause-lies t c =
    let l = c.in_ok-of.ensures.lies in
    let m = minus_low (spelled c.args.bytes.now c.token_at-operator.result) c.in_ok-of.of c.in_ok-of.levels in
    let s = ap (λ x. x.1) c.in_ok-of-2.ensures in
    (omega arith, omega arith, omega arith)

pub expressions::operand-returns-in_err-of-3-clause-told : goal.expressions::operand-returns-in_err-of-3-clause-told
expressions::operand-returns-in_err-of-3-clause-told t c =
    let bytes = c.args.bytes.now in
    let tokens = c.args.tokens.now in
    let ts = behind bytes tokens c.args.start in
    let more = behind bytes tokens (c.args.start + 1) in
    let k = spelled bytes c.token_at-operator-then-is_sign.result in
    let n : suc c.args.start ≡ c.args.start + 1 = omega arith in
    let h = ap (has (exclamation ∷ tilde ∷ [])) (sym c.peek-sort.ensures.sort) ∙ (sym c.is_sign.ensures ∙ c.if-is_sign.true) in
    let a = token_taken (exclamation ∷ tilde ∷ []) ts more k (c.token_at-operator-then-is_sign.ensures bytes ∙ ap (λ n. k ∷ behind bytes tokens n) n) h in
    two_err bytes tokens (read c.deeper-then-is_sign.result Postfix more) (read c.args.room Prefix ts) c.in_err-of-3.field-0.0 c.from_residual-in_err-of-3.result c.in_err-of-3.ensures.told c.from_residual-in_err-of-3.ensures.1
    (λ rest e. signed_stops c.args.room c.requires.open ts more k h (sym c.fits-2.ensures ∙ c.if-fits.true) a rest (ap (λ r. read r Postfix more) (sym c.deeper-then-is_sign.ensures) ∙ e))

pub expressions::operand-returns-then-is_sign-clause-told : goal.expressions::operand-returns-then-is_sign-clause-told
unfolding spelled
expressions::operand-returns-then-is_sign-clause-told t c =
    let bytes = c.args.bytes.now in
    let tokens = c.args.tokens.now in
    let ts = behind bytes tokens c.args.start in
    let more = behind bytes tokens (c.args.start + 1) in
    let rest = behind bytes tokens c.in_ok-of-3.next in
    let k = spelled bytes c.token_at-operator-then-is_sign.result in
    let n : suc c.args.start ≡ c.args.start + 1 = omega arith in
    let h = ap (has (exclamation ∷ tilde ∷ [])) (sym c.peek-sort.ensures.sort) ∙ (sym c.is_sign.ensures ∙ c.if-is_sign.true) in
    let a = token_taken (exclamation ∷ tilde ∷ []) ts more k (c.token_at-operator-then-is_sign.ensures bytes ∙ ap (λ n. k ∷ behind bytes tokens n) n) h in
    signed c.args.room c.requires.open ts more k h (sym c.fits-2.ensures ∙ c.if-fits.true) a rest (c.in_ok-of-3.of, c.in_ok-of-3.levels) c.in_ok-prefix_of.field-0 (c.in_ok-of-3.levels + 1)
    (ap (λ r. read r Postfix more) (sym c.deeper-then-is_sign.ensures) ∙ c.in_ok-of-3.ensures.told) c.in_ok-prefix_of.ensures (omega arith)

pub expressions::operand-returns-clause-told : goal.expressions::operand-returns-clause-told
expressions::operand-returns-clause-told t c =
    let bytes = c.args.bytes.now in
    let tokens = c.args.tokens.now in
    let ts = behind bytes tokens c.args.start in
    let m = comes_not minus c.peek-sort.result ts c.peek-sort.ensures.sort c.if-sort-eq-MINUS.false in
    let n : NoSign c.args.room ts = elim c.else-fits.branch [
      | expressions::operand-else-fits-via-then-fits+else-is_sign w ↦ inl (ap (has (exclamation ∷ tilde ∷ [])) (sym c.peek-sort.ensures.sort) ∙ (sym w.is_sign.ensures ∙ w.if-is_sign.false))
      | expressions::operand-else-fits-via-else-fits w ↦ inr (sym c.fits-2.ensures ∙ w.if-fits.false)
    ] in
    told_same bytes tokens (read c.args.room Postfix ts) (read c.args.room Prefix ts) c.postfix-2.result (prefix_plain c.args.room c.requires.open ts m n) c.postfix-2.ensures.told

pub expressions::operand-postfix-requires : goal.expressions::operand-postfix-requires
expressions::operand-postfix-requires t c =
    let p = c.peek-sort.ensures.present (omega arith) in
    (omega arith, (omega arith, ap open_to c.deeper.ensures ∙ (sym c.fits.ensures ∙ c.if-not-fits.false)))

pub expressions::operand-postfix-requires-then-is_sign : goal.expressions::operand-postfix-requires-then-is_sign
expressions::operand-postfix-requires-then-is_sign t c =
    let ts = behind c.args.bytes.now c.args.tokens.now c.args.start in
    let h = ap (has (exclamation ∷ tilde ∷ [])) (sym c.peek-sort.ensures.sort) ∙ (sym c.is_sign.ensures ∙ c.if-is_sign.true) in
    let p = present c.args.bytes.now c.args.tokens.now c.args.start (exclamation ∷ tilde ∷ []) refl h in
    (omega arith, (omega arith, ap open_to c.deeper-then-is_sign.ensures ∙ (sym c.fits-2.ensures ∙ c.if-fits.true)))

pub expressions::operand-postfix-requires-2 : goal.expressions::operand-postfix-requires-2
expressions::operand-postfix-requires-2 t c = (omega arith, (c.requires.in_bounds, c.requires.open))

pub expressions::postfix-returns-in_err-first-clause-told : goal.expressions::postfix-returns-in_err-first-clause-told
expressions::postfix-returns-in_err-first-clause-told t c =
    let bytes = c.args.bytes.now in
    let tokens = c.args.tokens.now in
    let ts = behind bytes tokens c.args.start in
    two_err bytes tokens (read c.args.room Primary ts) (read c.args.room Postfix ts) c.in_err-first.field-0.0 c.from_residual.result c.in_err-first.ensures.told c.from_residual.ensures.1
    (λ rest e. postfix_halts c.args.room c.requires.open ts rest e)

pub expressions::postfix-suffixes-init : goal.expressions::postfix-suffixes-init
expressions::postfix-suffixes-init t c =
    let bytes = c.args.bytes.now in
    let tokens = c.args.tokens.now in
    let l = c.in_ok-first.ensures.lies in
    record {
      begun = omega arith;
      in_bounds = omega arith;
      few = omega arith;
      grows = postfix_begins c.args.room c.requires.open (behind bytes tokens c.args.start) (behind bytes tokens c.in_ok-first.next) (c.in_ok-first.first, c.in_ok-first.first_levels) c.in_ok-first.ensures.told;
    }

pub expressions::postfix-returns-in_err-whole-clause-told : goal.expressions::postfix-returns-in_err-whole-clause-told
expressions::postfix-returns-in_err-whole-clause-told t c =
    let bytes = c.args.bytes.now in
    let tokens = c.args.tokens.now in
    let room = c.args.room in
    let ts = behind bytes tokens c.suffixes.at in
    let e = sym c.is_suffixed.ensures ∙ c.suffixes-test.true in
    let o = and_left (and (fits room) (holds (deeper room) c.suffixes.levels)) (has suffix_kinds (head_sort ts)) e in
    let h = and_right (and (fits room) (holds (deeper room) c.suffixes.levels)) (has suffix_kinds (head_sort ts)) e in
    let f = and_left (fits room) (holds (deeper room) c.suffixes.levels) o in
    let g = and_right (fits room) (holds (deeper room) c.suffixes.levels) o in
    two_err bytes tokens (found_as (suffix_to (c.suffixes.of, c.suffixes.levels)) (read room Suffix ts)) (read room Postfix (behind bytes tokens c.args.start)) c.in_err-whole.field-0.0
    c.from_residual-in_err-whole.result c.in_err-whole.ensures.told c.from_residual-in_err-whole.ensures.1
    (λ rest d. c.suffixes.invariant.grows ∙ suffixes_stops room (c.suffixes.of, c.suffixes.levels) ts f g h rest d)

pub expressions::postfix-suffixes-preserved : goal.expressions::postfix-suffixes-preserved
expressions::postfix-suffixes-preserved t c =
    let bytes = c.args.bytes.now in
    let tokens = c.args.tokens.now in
    let room = c.args.room in
    let ts = behind bytes tokens c.suffixes.at in
    let e = sym c.is_suffixed.ensures ∙ c.suffixes-test.true in
    let o = and_left (and (fits room) (holds (deeper room) c.suffixes.levels)) (has suffix_kinds (head_sort ts)) e in
    let h = and_right (and (fits room) (holds (deeper room) c.suffixes.levels)) (has suffix_kinds (head_sort ts)) e in
    let f = and_left (fits room) (holds (deeper room) c.suffixes.levels) o in
    let g = and_right (fits room) (holds (deeper room) c.suffixes.levels) o in
    let l = c.in_ok-whole.ensures.lies in
    let b = c.suffixes.invariant.begun in
    let i = c.suffixes.invariant.few in
    record {
      begun = omega arith;
      in_bounds = omega arith;
      few = omega arith;
      grows = c.suffixes.invariant.grows
          ∙ suffixes_goes room (c.suffixes.of, c.suffixes.levels) ts f g h (behind bytes tokens c.in_ok-whole.next) (c.in_ok-whole.whole, c.in_ok-whole.more) c.in_ok-whole.ensures.told;
    }

pub expressions::postfix-returns-clause-told : goal.expressions::postfix-returns-clause-told
expressions::postfix-returns-clause-told t c =
    c.suffixes.invariant.grows ∙ suffixes_end c.args.room (c.suffixes.of, c.suffixes.levels) (behind c.args.bytes.now c.args.tokens.now c.suffixes.at) (sym c.is_suffixed.ensures ∙ c.suffixes-test.false)

pub expressions::postfix-primary-requires : goal.expressions::postfix-primary-requires
expressions::postfix-primary-requires t c = (omega arith, (c.requires.in_bounds, c.requires.open))

pub expressions::postfix-suffix-requires : goal.expressions::postfix-suffix-requires
expressions::postfix-suffix-requires t c =
    let ts = behind c.args.bytes.now c.args.tokens.now c.suffixes.at in
    let e = sym c.is_suffixed.ensures ∙ c.suffixes-test.true in
    let o = and_left (and (fits c.args.room) (holds (deeper c.args.room) c.suffixes.levels)) (has suffix_kinds (head_sort ts)) e in
    let h = and_right (and (fits c.args.room) (holds (deeper c.args.room) c.suffixes.levels)) (has suffix_kinds (head_sort ts)) e in
    let f = and_left (fits c.args.room) (holds (deeper c.args.room) c.suffixes.levels) o in
    let p = present c.args.bytes.now c.args.tokens.now c.suffixes.at suffix_kinds refl h in
    let b = c.suffixes.invariant.begun in
    let i = c.suffixes.invariant.few in
    (omega arith, (c.suffixes.invariant.in_bounds, (f, omega arith)))

pub expressions::primary-token_at-open-requires : goal.expressions::primary-token_at-open-requires
expressions::primary-token_at-open-requires t c =
    let ts = behind c.args.bytes.now c.args.tokens.now c.args.start in
    let h = and_right (fits c.args.room) (has (left_parenthesis ∷ []) (head_sort ts)) (sym c.comes.ensures ∙ c.if-comes.true) in
    present c.args.bytes.now c.args.tokens.now c.args.start (left_parenthesis ∷ []) refl h

pub expressions::primary-returns-in_err-of-clause-told : goal.expressions::primary-returns-in_err-of-clause-told
expressions::primary-returns-in_err-of-clause-told t c =
    let bytes = c.args.bytes.now in
    let tokens = c.args.tokens.now in
    let ts = behind bytes tokens c.args.start in
    let us = behind bytes tokens (c.args.start + 1) in
    let p = spelled bytes c.token_at-open.result in
    let n : suc c.args.start ≡ c.args.start + 1 = omega arith in
    let f = and_left (fits c.args.room) (has (left_parenthesis ∷ []) (head_sort ts)) (sym c.comes.ensures ∙ c.if-comes.true) in
    let h = and_right (fits c.args.room) (has (left_parenthesis ∷ []) (head_sort ts)) (sym c.comes.ensures ∙ c.if-comes.true) in
    let a = token_taken (left_parenthesis ∷ []) ts us p (c.token_at-open.ensures bytes ∙ ap (λ n. p ∷ behind bytes tokens n) n) h in
    two_err bytes tokens (read c.deeper.result Expression us) (read c.args.room Primary ts) c.in_err-of.field-0.0 c.from_residual.result c.in_err-of.ensures.told c.from_residual.ensures.1
    (λ rest e. paren_stops c.args.room c.requires.open ts us p f h a rest (ap (λ r. read r Expression us) (sym c.deeper.ensures) ∙ e))

pub expressions::primary-returns-in-Err-clause-told : goal.expressions::primary-returns-in-Err-clause-told
expressions::primary-returns-in-Err-clause-told t c =
    let bytes = c.args.bytes.now in
    let tokens = c.args.tokens.now in
    let ts = behind bytes tokens c.args.start in
    let us = behind bytes tokens (c.args.start + 1) in
    let vs = behind bytes tokens c.in_ok-of.at in
    let p = spelled bytes c.token_at-open.result in
    let n : suc c.args.start ≡ c.args.start + 1 = omega arith in
    let f = and_left (fits c.args.room) (has (left_parenthesis ∷ []) (head_sort ts)) (sym c.comes.ensures ∙ c.if-comes.true) in
    let h = and_right (fits c.args.room) (has (left_parenthesis ∷ []) (head_sort ts)) (sym c.comes.ensures ∙ c.if-comes.true) in
    let a = token_taken (left_parenthesis ∷ []) ts us p (c.token_at-open.ensures bytes ∙ ap (λ n. p ∷ behind bytes tokens n) n) h in
    token_err bytes tokens c.in_ok-of.at (read_token (is sort (right_parenthesis ∷ [])) vs) (read c.args.room Primary ts) c.in-Err.stop (Err c.in-Err.stop) c.in-Err.ensures.told refl
    (λ rest e. paren_unclosed c.args.room c.requires.open ts us p f h a vs (c.in_ok-of.of, c.in_ok-of.levels) (ap (λ r. read r Expression us) (sym c.deeper.ensures) ∙ c.in_ok-of.ensures.told) rest e)

pub expressions::primary-returns-then-comes-clause-told : goal.expressions::primary-returns-then-comes-clause-told
unfolding spelled
expressions::primary-returns-then-comes-clause-told t c =
    let bytes = c.args.bytes.now in
    let tokens = c.args.tokens.now in
    let ts = behind bytes tokens c.args.start in
    let us = behind bytes tokens (c.args.start + 1) in
    let vs = behind bytes tokens c.in_ok-of.at in
    let rest = behind bytes tokens (c.in_ok-of.at + 1) in
    let p = spelled bytes c.token_at-open.result in
    let n : suc c.args.start ≡ c.args.start + 1 = omega arith in
    let m : suc c.in_ok-of.at ≡ c.in_ok-of.at + 1 = omega arith in
    let f = and_left (fits c.args.room) (has (left_parenthesis ∷ []) (head_sort ts)) (sym c.comes.ensures ∙ c.if-comes.true) in
    let h = and_right (fits c.args.room) (has (left_parenthesis ∷ []) (head_sort ts)) (sym c.comes.ensures ∙ c.if-comes.true) in
    let a = token_taken (left_parenthesis ∷ []) ts us p (c.token_at-open.ensures bytes ∙ ap (λ n. p ∷ behind bytes tokens n) n) h in
    let d = rw (m) at c.in-Ok.ensures.told in
    paren_whole c.args.room c.requires.open ts us p f h a vs (c.in_ok-of.of, c.in_ok-of.levels) (ap (λ r. read r Expression us) (sym c.deeper.ensures) ∙ c.in_ok-of.ensures.told) rest
    (spelled bytes c.in-Ok.token) c.in_ok-of-2.of (c.in_ok-of.levels + 1) d c.in_ok-of-2.ensures (omega arith)

pub expressions::primary-returns-in_err-token-clause-told : goal.expressions::primary-returns-in_err-token-clause-told
expressions::primary-returns-in_err-token-clause-told t c =
    let bytes = c.args.bytes.now in
    let tokens = c.args.tokens.now in
    let ts = behind bytes tokens c.args.start in
    let n = either_fails (fits c.args.room) (has (left_parenthesis ∷ []) (head_sort ts)) (sym c.comes.ensures ∙ c.if-comes.false) in
    token_err bytes tokens c.args.start (read_token (is sort (literals ++ names ++ this_word ∷ [])) ts) (read c.args.room Primary ts) c.in_err-token.field-0.0 c.from_residual-in_err-token.result
    c.in_err-token.ensures.told c.from_residual-in_err-token.ensures.1
    (λ rest e. primary_single c.args.room c.requires.open ts n ∙ ap (found_as (λ k. (token_expr k, 1))) e)

pub expressions::primary-returns-clause-told : goal.expressions::primary-returns-clause-told
expressions::primary-returns-clause-told t c =
    let bytes = c.args.bytes.now in
    let tokens = c.args.tokens.now in
    let ts = behind bytes tokens c.args.start in
    let rest = behind bytes tokens (c.args.start + 1) in
    let m : suc c.args.start ≡ c.args.start + 1 = omega arith in
    let n = either_fails (fits c.args.room) (has (left_parenthesis ∷ []) (head_sort ts)) (sym c.comes.ensures ∙ c.if-comes.false) in
    let e = rw (m) at c.in_ok-token.ensures.told in
    primary_single c.args.room c.requires.open ts n
    ∙ (ap (found_as (λ k. (token_expr k, 1))) e ∙ ap (λ x. Done (x, 1) rest) (sym c.in_ok-token_expr.ensures))

pub expressions::primary-expression-requires : goal.expressions::primary-expression-requires
expressions::primary-expression-requires t c =
    let ts = behind c.args.bytes.now c.args.tokens.now c.args.start in
    let f = and_left (fits c.args.room) (has (left_parenthesis ∷ []) (head_sort ts)) (sym c.comes.ensures ∙ c.if-comes.true) in
    let h = and_right (fits c.args.room) (has (left_parenthesis ∷ []) (head_sort ts)) (sym c.comes.ensures ∙ c.if-comes.true) in
    let p = present c.args.bytes.now c.args.tokens.now c.args.start (left_parenthesis ∷ []) refl h in
    (omega arith, (omega arith, ap open_to c.deeper.ensures ∙ f))

pub expressions::suffix-returns-in-Err-clause-told : goal.expressions::suffix-returns-in-Err-clause-told
expressions::suffix-returns-in-Err-clause-told t c =
    let bytes = c.args.bytes.now in
    let tokens = c.args.tokens.now in
    let ts = behind bytes tokens c.args.start in
    let more = behind bytes tokens (c.args.start + 1) in
    let x : Tall Expr = (c.args.left, c.args.left_levels) in
    let h = comes dot c.peek-sort.result ts c.peek-sort.ensures.sort c.if-sort-eq-DOT.true in
    let d = token_here bytes tokens c.args.start (c.args.start + 1) (dot ∷ []) (omega arith) (c.peek-sort.ensures.present (omega arith)) h in
    token_err bytes tokens (c.args.start + 1) (read_token (is sort names) more) (found_as (suffix_to x) (read c.args.room Suffix ts)) c.in-Err.stop (Err c.in-Err.stop)
    c.in-Err.ensures.told refl (λ rest e. select_stops c.args.room c.requires.fits x ts more d.0 h d.1 rest e)

pub expressions::suffix-returns-then-sort-eq-DOT-clause-told : goal.expressions::suffix-returns-then-sort-eq-DOT-clause-told
unfolding spelled
expressions::suffix-returns-then-sort-eq-DOT-clause-told t c =
    let bytes = c.args.bytes.now in
    let tokens = c.args.tokens.now in
    let ts = behind bytes tokens c.args.start in
    let more = behind bytes tokens (c.args.start + 1) in
    let rest = behind bytes tokens (c.args.start + 2) in
    let x : Tall Expr = (c.args.left, c.args.left_levels) in
    let h = comes dot c.peek-sort.result ts c.peek-sort.ensures.sort c.if-sort-eq-DOT.true in
    let d = token_here bytes tokens c.args.start (c.args.start + 1) (dot ∷ []) (omega arith) (c.peek-sort.ensures.present (omega arith)) h in
    let n : suc (c.args.start + 1) ≡ c.args.start + 2 = omega arith in
    let e = rw (n) at c.in-Ok.ensures.told in
    select_whole c.args.room c.requires.fits x ts more d.0 h d.1 rest (spelled bytes c.in-Ok.token) c.in_ok-of.of (c.args.left_levels + 1) e c.in_ok-of.ensures (omega arith)

pub expressions::suffix-returns-in-Err-types-clause-told : goal.expressions::suffix-returns-in-Err-types-clause-told
expressions::suffix-returns-in-Err-types-clause-told t c =
    let bytes = c.args.bytes.now in
    let tokens = c.args.tokens.now in
    let ts = behind bytes tokens c.args.start in
    let x : Tall Expr = (c.args.left, c.args.left_levels) in
    let d = comes_not dot c.peek-sort.result ts c.peek-sort.ensures.sort c.if-sort-eq-DOT.false in
    let h = comes left_bracket c.peek-sort.result ts c.peek-sort.ensures.sort c.if-sort-eq-LEFT_BRACKET.true in
    three_err bytes tokens (found_as types_view (reads (types_form c.deeper.result) ts)) (found_as (suffix_to x) (read c.args.room Suffix ts)) c.in-Err-types.stop (Err c.in-Err-types.stop)
    c.in-Err-types.ensures.told refl
    (λ rest e. given_stops c.args.room c.requires.fits x ts d h rest (ap (λ r. found_as types_view (reads (types_form r) ts)) (sym c.deeper.ensures) ∙ e))

pub expressions::suffix-returns-then-sort-eq-LEFT_BRACKET-clause-told : goal.expressions::suffix-returns-then-sort-eq-LEFT_BRACKET-clause-told
expressions::suffix-returns-then-sort-eq-LEFT_BRACKET-clause-told t c =
    let bytes = c.args.bytes.now in
    let tokens = c.args.tokens.now in
    let ts = behind bytes tokens c.args.start in
    let x : Tall Expr = (c.args.left, c.args.left_levels) in
    let got = c.in-Ok-types.read in
    let d = comes_not dot c.peek-sort.result ts c.peek-sort.ensures.sort c.if-sort-eq-DOT.false in
    let h = comes left_bracket c.peek-sort.result ts c.peek-sort.ensures.sort c.if-sort-eq-LEFT_BRACKET.true in
    let m = c.max.ensures in
    given_whole c.args.room c.requires.fits x ts d h (behind bytes tokens got.3) got.0 got.1 got.2 c.in_ok-of-2.of (c.max.result + 1)
    (ap (λ r. found_as types_view (reads (types_form r) ts)) (sym c.deeper.ensures) ∙ c.in-Ok-types.ensures.told) c.in_ok-of-2.ensures (omega arith)

pub expressions::suffix-returns-in-Err-expect-clause-told : goal.expressions::suffix-returns-in-Err-expect-clause-told
expressions::suffix-returns-in-Err-expect-clause-told t c =
    let bytes = c.args.bytes.now in
    let tokens = c.args.tokens.now in
    let ts = behind bytes tokens c.args.start in
    let x : Tall Expr = (c.args.left, c.args.left_levels) in
    let d = comes_not dot c.peek-sort.result ts c.peek-sort.ensures.sort c.if-sort-eq-DOT.false in
    let b = comes_not left_bracket c.peek-sort.result ts c.peek-sort.ensures.sort c.if-sort-eq-LEFT_BRACKET.false in
    token_err bytes tokens c.args.start (read_token (is sort (left_parenthesis ∷ [])) ts) (found_as (suffix_to x) (read c.args.room Suffix ts)) c.in-Err-expect.stop (Err c.in-Err-expect.stop)
    c.in-Err-expect.ensures.told refl (λ rest e. apply_halts c.args.room c.requires.fits x ts d b rest e)

pub expressions::suffix-returns-in-Err-arguments-clause-told : goal.expressions::suffix-returns-in-Err-arguments-clause-told
expressions::suffix-returns-in-Err-arguments-clause-told t c =
    let bytes = c.args.bytes.now in
    let tokens = c.args.tokens.now in
    let ts = behind bytes tokens c.args.start in
    let more = behind bytes tokens (c.args.start + 1) in
    let x : Tall Expr = (c.args.left, c.args.left_levels) in
    let d = comes_not dot c.peek-sort.result ts c.peek-sort.ensures.sort c.if-sort-eq-DOT.false in
    let b = comes_not left_bracket c.peek-sort.result ts c.peek-sort.ensures.sort c.if-sort-eq-LEFT_BRACKET.false in
    let n : suc c.args.start ≡ c.args.start + 1 = omega arith in
    let a = rw (n) at c.in_default.ensures.told in
    three_err bytes tokens (found_as arguments_seen (read c.deeper-2.result Arguments more)) (found_as (suffix_to x) (read c.args.room Suffix ts)) c.in-Err-arguments.stop (Err c.in-Err-arguments.stop)
    c.in-Err-arguments.ensures.told refl
    (λ rest e. apply_stops c.args.room c.requires.fits x ts d b more (spelled bytes c.in_default.field-0) a rest
    (ap (λ r. read r Arguments more) (sym c.deeper-2.ensures) ∙ as_stopped arguments_seen (read c.deeper-2.result Arguments more) rest e))

pub expressions::suffix-returns-clause-told : goal.expressions::suffix-returns-clause-told
expressions::suffix-returns-clause-told t c =
    let bytes = c.args.bytes.now in
    let tokens = c.args.tokens.now in
    let ts = behind bytes tokens c.args.start in
    let more = behind bytes tokens (c.args.start + 1) in
    let x : Tall Expr = (c.args.left, c.args.left_levels) in
    let got = c.in-Ok-arguments.read in
    let d = comes_not dot c.peek-sort.result ts c.peek-sort.ensures.sort c.if-sort-eq-DOT.false in
    let b = comes_not left_bracket c.peek-sort.result ts c.peek-sort.ensures.sort c.if-sort-eq-LEFT_BRACKET.false in
    let n : suc c.args.start ≡ c.args.start + 1 = omega arith in
    let a = rw (n) at c.in_default.ensures.told in
    let v = as_done arguments_seen (read c.deeper-2.result Arguments more) (got.0, (got.1, got.2)) (behind bytes tokens got.3) c.in-Ok-arguments.ensures.told in
    let m = c.max-2.ensures in
    let l : c.max-2.result + 1 ≡ suc (max c.args.left_levels got.1) = omega arith in
    apply_whole c.args.room c.requires.fits x ts d b more (spelled bytes c.in_default.field-0) a (behind bytes tokens got.3) v.0 (c.in_ok-of-3.of, c.max-2.result + 1)
    (ap (λ r. read r Arguments more) (sym c.deeper-2.ensures) ∙ v.1)
    (ap {B = Tall Expr} (λ e. (e, c.max-2.result + 1)) c.in_ok-of-3.ensures ∙ (ap {B = Tall Expr} (λ n. (applied c.args.left got.0 got.2, n)) l ∙ sym (applied_seen x v.0 got.0 got.1 got.2 v.2)))

pub expressions::suffix-arguments-requires : goal.expressions::suffix-arguments-requires
expressions::suffix-arguments-requires t c =
    let p = c.in_default.ensures.in_bounds in
    (omega arith, (omega arith, ap open_to c.deeper-2.ensures ∙ c.requires.fits))

pub expressions::values-listed-init : goal.expressions::values-listed-init
expressions::values-listed-init t c =
    let bytes = c.args.bytes.now in
    let tokens = c.args.tokens.now in
    let one : c.push.new.self ≡ c.args.first ∷ [] = c.in_ok-push.ensures.ok ∙ rw (c.new-all.ensures) in
    record {
      begun = omega arith;
      in_bounds = omega arith;
      few = omega arith;
      grows = values_begins c.args.room (behind bytes tokens c.args.start) c.args.first c.args.first_levels c.push.new.self one;
    }

pub expressions::values-returns-in_err-one-clause-told : goal.expressions::values-returns-in_err-one-clause-told
expressions::values-returns-in_err-one-clause-told t c =
    let bytes = c.args.bytes.now in
    let tokens = c.args.tokens.now in
    let ts = behind bytes tokens c.listed.at in
    let more = behind bytes tokens (c.listed.at + 1) in
    let h = comes comma c.peek.result ts c.peek.ensures.sort c.listed-test.true in
    let d = token_here bytes tokens c.listed.at (c.listed.at + 1) (comma ∷ []) (omega arith) (c.peek.ensures.present (omega arith)) h in
    two_err_three bytes tokens (read c.args.room Expression more) (found_as (values_seen (c.args.first, c.args.first_levels)) (reads (values_form c.args.room) (behind bytes tokens c.args.start))) c.in_err-one.field-0.0
    c.from_residual-in_err-one.result c.in_err-one.ensures.told c.from_residual-in_err-one.ensures.1
    (λ rest e. c.listed.invariant.grows ∙ values_stops c.args.room (c.listed.all, c.listed.levels) ts more rest d.0 h d.1 e)

pub expressions::values-listed-preserved : goal.expressions::values-listed-preserved
expressions::values-listed-preserved t c =
    let bytes = c.args.bytes.now in
    let tokens = c.args.tokens.now in
    let ts = behind bytes tokens c.listed.at in
    let more = behind bytes tokens (c.listed.at + 1) in
    let rest = behind bytes tokens c.in_ok-one.next in
    let h = comes comma c.peek.result ts c.peek.ensures.sort c.listed-test.true in
    let d = token_here bytes tokens c.listed.at (c.listed.at + 1) (comma ∷ []) (omega arith) (c.peek.ensures.present (omega arith)) h in
    let l = c.in_ok-one.ensures.lies in
    let m = c.max-levels.ensures in
    let p = c.in_ok-push-2.ensures.ok in
    record {
      begun = omega arith;
      in_bounds = omega arith;
      few = omega arith;
      grows = c.listed.invariant.grows ∙ values_goes c.args.room c.requires.open (c.listed.all, c.listed.levels) ts more rest d.0 c.in_ok-one.one c.in_ok-one.more c.push-in-listed.new.self
          c.max-levels.result h d.1 c.in_ok-one.ensures.told p m;
    }

pub expressions::values-returns-in_err-close-clause-told : goal.expressions::values-returns-in_err-close-clause-told
expressions::values-returns-in_err-close-clause-told t c =
    let bytes = c.args.bytes.now in
    let tokens = c.args.tokens.now in
    let ts = behind bytes tokens c.listed.at in
    let h = comes_not comma c.peek.result ts c.peek.ensures.sort c.listed-test.false in
    token_err_three bytes tokens c.listed.at (read_token (is sort (right_parenthesis ∷ [])) ts) (found_as (values_seen (c.args.first, c.args.first_levels)) (reads (values_form c.args.room) (behind bytes tokens c.args.start)))
    c.in_err-close.field-0.0 c.from_residual-in_err-close.result c.in_err-close.ensures.told c.from_residual-in_err-close.ensures.1
    (λ rest e. c.listed.invariant.grows ∙ values_unclosed c.args.room (c.listed.all, c.listed.levels) ts rest h e)

pub expressions::values-returns-clause-told : goal.expressions::values-returns-clause-told
unfolding spelled
expressions::values-returns-clause-told t c =
    let bytes = c.args.bytes.now in
    let tokens = c.args.tokens.now in
    let ts = behind bytes tokens c.listed.at in
    let h = comes_not comma c.peek.result ts c.peek.ensures.sort c.listed-test.false in
    let n : suc c.listed.at ≡ c.listed.at + 1 = omega arith in
    let e = rw (n) at c.in_ok-close.ensures.told in
    c.listed.invariant.grows ∙ values_ends c.args.room (c.listed.all, c.listed.levels) ts (behind bytes tokens (c.listed.at + 1)) (spelled bytes c.in_ok-close.close) h e

pub expressions::values-returns-clause-lies : goal.expressions::values-returns-clause-lies
expressions::values-returns-clause-lies t c = let i = c.in_ok-close.ensures.in_bounds in (omega arith, (omega arith, omega arith, omega arith))

pub expressions::values-expression-requires : goal.expressions::values-expression-requires
expressions::values-expression-requires t c =
    let p : c.listed.at < length c.args.tokens.now = c.peek.ensures.present (omega arith) in
    let i = c.listed.invariant.begun in
    (omega arith, (omega arith, c.requires.open))

pub expressions::values-listed-smaller : goal.expressions::values-listed-smaller
expressions::values-listed-smaller t c = let l = c.in_ok-one.ensures.lies in omega arith

pub statements::assigned-returns-then-peek-ne-EQUALS-clause-told : goal.statements::assigned-returns-then-peek-ne-EQUALS-clause-told
unfolding stmt
statements::assigned-returns-then-peek-ne-EQUALS-clause-told t c =
    let ts = behind c.args.bytes.now c.args.tokens.now c.args.start in
    let n : suc c.args.of_levels ≡ c.args.of_levels + 1 = omega arith in
    assigned_none c.args.room ts c.args.of c.args.of_levels (comes_not equals c.peek.result ts c.peek.ensures.sort c.if-peek-ne-EQUALS.true)
    ∙ ap (λ l. Done (stmt (stmt_kind.Call c.args.of) (span_of c.args.of), l) ts) n

pub statements::assigned-returns-in-Err-clause-told : goal.statements::assigned-returns-in-Err-clause-told
statements::assigned-returns-in-Err-clause-told t c =
    let bytes = c.args.bytes.now in
    let tokens = c.args.tokens.now in
    let ts = behind bytes tokens c.args.start in
    let more = behind bytes tokens (c.args.start + 1) in
    let h = comes equals c.peek.result ts c.peek.ensures.sort c.if-peek-ne-EQUALS.false in
    let d = token_here bytes tokens c.args.start (c.args.start + 1) (equals ∷ []) (omega arith) (c.peek.ensures.present (omega (arith, c.if-peek-ne-EQUALS.false))) h in
    two_err bytes tokens (read c.deeper.result Expression more) (found_as (assigned_to (c.args.of, c.args.of_levels)) (reads (assigned_form c.args.room) ts)) c.in-Err.stop (Err c.in-Err.stop)
    c.in-Err.ensures.told refl
    (λ rest e. assigned_stops c.args.room ts more d.0 c.args.of c.args.of_levels h d.1 rest (ap (λ r. read r Expression more) (sym c.deeper.ensures) ∙ e))

pub statements::assigned-returns-clause-told : goal.statements::assigned-returns-clause-told
unfolding stmt
statements::assigned-returns-clause-told t c =
    let bytes = c.args.bytes.now in
    let tokens = c.args.tokens.now in
    let ts = behind bytes tokens c.args.start in
    let more = behind bytes tokens (c.args.start + 1) in
    let rest = behind bytes tokens c.in-Ok.read.2 in
    let h = comes equals c.peek.result ts c.peek.ensures.sort c.if-peek-ne-EQUALS.false in
    let d = token_here bytes tokens c.args.start (c.args.start + 1) (equals ∷ []) (omega arith) (c.peek.ensures.present (omega (arith, c.if-peek-ne-EQUALS.false))) h in
    let l : c.max.result + 1 ≡ suc (max c.args.of_levels c.in-Ok.read.1) = omega (arith, c.max.ensures) in
    assigned_whole c.args.room ts more d.0 c.args.of c.args.of_levels h d.1 rest c.in-Ok.read.0 c.in-Ok.read.1 c.join-span.result (c.max.result + 1)
    (ap (λ r. read r Expression more) (sym c.deeper.ensures) ∙ c.in-Ok.ensures.told) c.join-span.ensures l

pub statements::assigned-expression-requires : goal.statements::assigned-expression-requires
statements::assigned-expression-requires t c =
    let p : c.args.start < length c.args.tokens.now = c.peek.ensures.present (omega (arith, c.if-peek-ne-EQUALS.false)) in
    (omega arith, (omega arith, ap open_to c.deeper.ensures ∙ c.requires.fits))

pub statements::block-returns-in_err-expect-clause-told : goal.statements::block-returns-in_err-expect-clause-told
statements::block-returns-in_err-expect-clause-told t c =
    let bytes = c.args.bytes.now in
    let tokens = c.args.tokens.now in
    let ts = behind bytes tokens c.args.start in
    token_err_three bytes tokens c.args.start (read_token (is sort (left_brace ∷ [])) ts) (found_as block_view (read c.args.room Block ts)) c.in_err-expect.field-0.0 c.from_residual.result
    c.in_err-expect.ensures.told c.from_residual.ensures.1 (λ rest e. block_halts c.args.room ts rest e)

pub statements::block-returns-in_err-body-clause-told : goal.statements::block-returns-in_err-body-clause-told
statements::block-returns-in_err-body-clause-told t c =
    let bytes = c.args.bytes.now in
    let tokens = c.args.tokens.now in
    let ts = behind bytes tokens c.args.start in
    let us = behind bytes tokens (c.args.start + 1) in
    let n : suc c.args.start ≡ c.args.start + 1 = omega arith in
    let e = rw (n) at c.in_ok-expect.ensures.told in
    two_err_three bytes tokens (read c.args.room Statements us) (found_as block_view (read c.args.room Block ts)) c.in_err-body.field-0.0 c.from_residual-in_err-body.result
    c.in_err-body.ensures.told c.from_residual-in_err-body.ensures.1 (λ rest d. block_second c.args.room ts us rest (spelled bytes c.in_ok-expect.field-0) e d)

pub statements::block-returns-in_err-close-clause-told : goal.statements::block-returns-in_err-close-clause-told
statements::block-returns-in_err-close-clause-told t c =
    let bytes = c.args.bytes.now in
    let tokens = c.args.tokens.now in
    let ts = behind bytes tokens c.args.start in
    let us = behind bytes tokens (c.args.start + 1) in
    let vs = behind bytes tokens c.in_ok-body.at in
    let n : suc c.args.start ≡ c.args.start + 1 = omega arith in
    let e = rw (n) at c.in_ok-expect.ensures.told in
    token_err_three bytes tokens c.in_ok-body.at (read_token (is sort (right_brace ∷ [])) vs) (found_as block_view (read c.args.room Block ts)) c.in_err-close.field-0.0 c.from_residual-in_err-close.result
    c.in_err-close.ensures.told c.from_residual-in_err-close.ensures.1
    (λ rest d. block_third c.args.room ts us vs rest (spelled bytes c.in_ok-expect.field-0) (c.in_ok-body.body, c.in_ok-body.levels) e c.in_ok-body.ensures.told d)

pub statements::block-returns-clause-told : goal.statements::block-returns-clause-told
unfolding spelled
statements::block-returns-clause-told t c =
    let bytes = c.args.bytes.now in
    let tokens = c.args.tokens.now in
    let ts = behind bytes tokens c.args.start in
    let us = behind bytes tokens (c.args.start + 1) in
    let vs = behind bytes tokens c.in_ok-body.at in
    let rest = behind bytes tokens (c.in_ok-body.at + 1) in
    let n : suc c.args.start ≡ c.args.start + 1 = omega arith in
    let m : suc c.in_ok-body.at ≡ c.in_ok-body.at + 1 = omega arith in
    let e = rw (n) at c.in_ok-expect.ensures.told in
    let d = rw (m) at c.in_ok-close.ensures.told in
    block_whole c.args.room ts us vs rest (spelled bytes c.in_ok-expect.field-0) (spelled bytes c.in_ok-close.close) c.in_ok-body.body c.in_ok-body.levels e c.in_ok-body.ensures.told d

pub statements::block-statements-requires : goal.statements::block-statements-requires
statements::block-statements-requires t c = let i = c.in_ok-expect.ensures.in_bounds in (omega arith, omega arith)

pub statements::blocks-returns-in-Err-clause-told : goal.statements::blocks-returns-in-Err-clause-told
statements::blocks-returns-in-Err-clause-told t c =
    let bytes = c.args.bytes.now in
    let tokens = c.args.tokens.now in
    let ts = behind bytes tokens c.args.start in
    three_err bytes tokens (found_as block_view (read c.deeper.result Block ts))
    (found_as (blocks_from (head_of c.args.first (c.args.condition, c.args.condition_levels))) (reads (blocks_form c.args.room) ts)) c.in-Err.stop (Err c.in-Err.stop) c.in-Err.ensures.told refl
    (λ rest e. blocks_halts c.args.room c.args.first c.args.condition c.args.condition_levels ts rest (ap (λ r. found_as block_view (read r Block ts)) (sym c.deeper.ensures) ∙ e))

pub statements::blocks-returns-in-Err-else_tail-clause-told : goal.statements::blocks-returns-in-Err-else_tail-clause-told
statements::blocks-returns-in-Err-else_tail-clause-told t c =
    let bytes = c.args.bytes.now in
    let tokens = c.args.tokens.now in
    let ts = behind bytes tokens c.args.start in
    let us = behind bytes tokens c.in-Ok.read.3 in
    three_err bytes tokens (found_as (else_view c.in-Ok.read.2) (read c.args.room Else_tail us))
    (found_as (blocks_from (head_of c.args.first (c.args.condition, c.args.condition_levels))) (reads (blocks_form c.args.room) ts)) c.in-Err-else_tail.stop (Err c.in-Err-else_tail.stop)
    c.in-Err-else_tail.ensures.told refl
    (λ rest e. blocks_second c.args.room c.args.first c.args.condition c.args.condition_levels ts us c.in-Ok.read.0 c.in-Ok.read.1 c.in-Ok.read.2
    (ap (λ r. found_as block_view (read r Block ts)) (sym c.deeper.ensures) ∙ c.in-Ok.ensures.told) rest e)

pub statements::blocks-returns-clause-told : goal.statements::blocks-returns-clause-told
unfolding stmt
statements::blocks-returns-clause-told t c =
    let bytes = c.args.bytes.now in
    let tokens = c.args.tokens.now in
    let ts = behind bytes tokens c.args.start in
    let us = behind bytes tokens c.in-Ok.read.3 in
    let rest = behind bytes tokens c.in-Ok-else_tail.read.3 in
    let l : c.max-levels.result + 1 ≡ suc (max c.args.condition_levels (max c.in-Ok.read.1 c.in-Ok-else_tail.read.1)) = omega (arith, c.max.ensures, c.max-levels.ensures) in
    blocks_whole c.args.room c.args.first c.args.condition c.args.condition_levels ts us c.in-Ok.read.0 c.in-Ok.read.1 c.in-Ok.read.2
    (ap (λ r. found_as block_view (read r Block ts)) (sym c.deeper.ensures) ∙ c.in-Ok.ensures.told) rest c.in-Ok-else_tail.read.0 c.in-Ok-else_tail.read.1 c.in-Ok-else_tail.read.2
    c.join-span.result (c.max-levels.result + 1) c.in-Ok-else_tail.ensures.told c.join-span.ensures l

pub statements::blocks-block-requires : goal.statements::blocks-block-requires
statements::blocks-block-requires t c =
    (omega arith, c.requires.in_bounds)

pub statements::blocks-else_tail-requires : goal.statements::blocks-else_tail-requires
statements::blocks-else_tail-requires t c =
    let l = c.in-Ok.ensures.lies in
    (omega arith, (omega arith, c.requires.fits))

pub statements::declaration-returns-in_err-word-clause-told : goal.statements::declaration-returns-in_err-word-clause-told
statements::declaration-returns-in_err-word-clause-told t c =
    let bytes = c.args.bytes.now in
    let tokens = c.args.tokens.now in
    let ts = behind bytes tokens c.args.start in
    token_err bytes tokens c.args.start (read_token (is sort (val_word ∷ var_word ∷ [])) ts) (found_as declaration_from (read c.args.room Declaration ts)) c.in_err-word.field-0.0 c.from_residual.result
    c.in_err-word.ensures.told c.from_residual.ensures.1 (λ rest e. declaration_halts c.args.room c.requires.fits ts rest e)

pub statements::declaration-returns-in_err-name-clause-told : goal.statements::declaration-returns-in_err-name-clause-told
statements::declaration-returns-in_err-name-clause-told t c =
    let bytes = c.args.bytes.now in
    let tokens = c.args.tokens.now in
    let ts = behind bytes tokens c.args.start in
    let us = behind bytes tokens (c.args.start + 1) in
    let n : suc c.args.start ≡ c.args.start + 1 = omega arith in
    let a = rw (n) at c.in_ok-word.ensures.told in
    token_err bytes tokens (c.args.start + 1) (read_token (is sort names) us) (found_as declaration_from (read c.args.room Declaration ts)) c.in_err-name.field-0.0 c.from_residual-in_err-name.result
    c.in_err-name.ensures.told c.from_residual-in_err-name.ensures.1 (λ rest e. declaration_second c.args.room c.requires.fits ts us (spelled bytes c.in_ok-word.word) a rest e)

pub statements::declaration-returns-in_err-kind-clause-told : goal.statements::declaration-returns-in_err-kind-clause-told
statements::declaration-returns-in_err-kind-clause-told t c =
    let bytes = c.args.bytes.now in
    let tokens = c.args.tokens.now in
    let ts = behind bytes tokens c.args.start in
    let us = behind bytes tokens (c.args.start + 1) in
    let vs = behind bytes tokens (c.args.start + 2) in
    let n : suc c.args.start ≡ c.args.start + 1 = omega arith in
    let m : suc (c.args.start + 1) ≡ c.args.start + 2 = omega arith in
    let a = rw (n) at c.in_ok-word.ensures.told in
    let b = rw (m) at c.in_ok-name.ensures.told in
    two_err bytes tokens (found_as ascribed_view (reads (ascribed_form c.deeper.result) vs)) (found_as declaration_from (read c.args.room Declaration ts)) c.in_err-kind.field-0.0 c.from_residual-in_err-kind.result
    c.in_err-kind.ensures.told c.from_residual-in_err-kind.ensures.1
    (λ rest e. declaration_third c.args.room c.requires.fits ts us (spelled bytes c.in_ok-word.word) a vs (spelled bytes c.in_ok-name.name) b rest
    (ap (λ r. found_as ascribed_view (reads (ascribed_form r) vs)) (sym c.deeper.ensures) ∙ e))

pub statements::declaration-returns-in-Err-clause-told : goal.statements::declaration-returns-in-Err-clause-told
statements::declaration-returns-in-Err-clause-told t c =
    let bytes = c.args.bytes.now in
    let tokens = c.args.tokens.now in
    let ts = behind bytes tokens c.args.start in
    let us = behind bytes tokens (c.args.start + 1) in
    let vs = behind bytes tokens (c.args.start + 2) in
    let ws = behind bytes tokens c.in_ok-kind.at in
    let n : suc c.args.start ≡ c.args.start + 1 = omega arith in
    let m : suc (c.args.start + 1) ≡ c.args.start + 2 = omega arith in
    let a = rw (n) at c.in_ok-word.ensures.told in
    let b = rw (m) at c.in_ok-name.ensures.told in
    let d = ap (λ r. found_as ascribed_view (reads (ascribed_form r) vs)) (sym c.deeper.ensures) ∙ c.in_ok-kind.ensures.told in
    token_err bytes tokens c.in_ok-kind.at (read_token (is sort (equals ∷ [])) ws) (found_as declaration_from (read c.args.room Declaration ts)) c.in-Err.stop (Err c.in-Err.stop)
    c.in-Err.ensures.told refl
    (λ rest e. declaration_fourth c.args.room c.requires.fits ts us (spelled bytes c.in_ok-word.word) a vs (spelled bytes c.in_ok-name.name) b ws (c.in_ok-kind.kind, c.in_ok-kind.kind_levels) d rest e)

pub statements::declaration-returns-in-Err-expression-clause-told : goal.statements::declaration-returns-in-Err-expression-clause-told
statements::declaration-returns-in-Err-expression-clause-told t c =
    let bytes = c.args.bytes.now in
    let tokens = c.args.tokens.now in
    let ts = behind bytes tokens c.args.start in
    let us = behind bytes tokens (c.args.start + 1) in
    let vs = behind bytes tokens (c.args.start + 2) in
    let ws = behind bytes tokens c.in_ok-kind.at in
    let xs = behind bytes tokens (c.in_ok-kind.at + 1) in
    let n : suc c.args.start ≡ c.args.start + 1 = omega arith in
    let m : suc (c.args.start + 1) ≡ c.args.start + 2 = omega arith in
    let l : suc c.in_ok-kind.at ≡ c.in_ok-kind.at + 1 = omega arith in
    let a = rw (n) at c.in_ok-word.ensures.told in
    let b = rw (m) at c.in_ok-name.ensures.told in
    let d = ap (λ r. found_as ascribed_view (reads (ascribed_form r) vs)) (sym c.deeper.ensures) ∙ c.in_ok-kind.ensures.told in
    let f = rw (l) at c.in_default.ensures.told in
    two_err bytes tokens (read c.deeper-2.result Expression xs) (found_as declaration_from (read c.args.room Declaration ts)) c.in-Err-expression.stop (Err c.in-Err-expression.stop)
    c.in-Err-expression.ensures.told refl
    (λ rest e. declaration_fifth c.args.room c.requires.fits ts us (spelled bytes c.in_ok-word.word) a vs (spelled bytes c.in_ok-name.name) b ws (c.in_ok-kind.kind, c.in_ok-kind.kind_levels) d xs (spelled bytes c.in_default.field-0) f rest
    (ap (λ r. read r Expression xs) (sym c.deeper-2.ensures) ∙ e))

pub statements::declaration-returns-clause-told : goal.statements::declaration-returns-clause-told
unfolding spelled
statements::declaration-returns-clause-told t c =
    let bytes = c.args.bytes.now in
    let tokens = c.args.tokens.now in
    let ts = behind bytes tokens c.args.start in
    let us = behind bytes tokens (c.args.start + 1) in
    let vs = behind bytes tokens (c.args.start + 2) in
    let ws = behind bytes tokens c.in_ok-kind.at in
    let xs = behind bytes tokens (c.in_ok-kind.at + 1) in
    let rest = behind bytes tokens c.in-Ok.read.2 in
    let n : suc c.args.start ≡ c.args.start + 1 = omega arith in
    let m : suc (c.args.start + 1) ≡ c.args.start + 2 = omega arith in
    let l : suc c.in_ok-kind.at ≡ c.in_ok-kind.at + 1 = omega arith in
    let a = rw (n) at c.in_ok-word.ensures.told in
    let b = rw (m) at c.in_ok-name.ensures.told in
    let d = ap (λ r. found_as ascribed_view (reads (ascribed_form r) vs)) (sym c.deeper.ensures) ∙ c.in_ok-kind.ensures.told in
    let f = rw (l) at c.in_default.ensures.told in
    let x = c.max.ensures in
    declaration_whole c.args.room c.requires.fits ts us (spelled bytes c.in_ok-word.word) a vs (spelled bytes c.in_ok-name.name) b ws (c.in_ok-kind.kind, c.in_ok-kind.kind_levels) d xs (spelled bytes c.in_default.field-0) f rest
    c.in-Ok.read.0 c.in-Ok.read.1 (sort (spelled bytes c.in_ok-word.word) == var_word) (join (spelled bytes c.in_ok-word.word).span (span_of c.in-Ok.read.0)) (c.max.result + 1)
    (ap (λ r. read r Expression xs) (sym c.deeper-2.ensures) ∙ c.in-Ok.ensures.told) refl refl (omega arith)
    ∙ ap (λ s. Done (s, c.max.result + 1) rest) (sym c.in_ok-let_of.ensures)

pub statements::declaration-expression-requires : goal.statements::declaration-expression-requires
statements::declaration-expression-requires t c =
    let l = c.in_ok-kind.ensures.lies in
    let p = c.in_default.ensures.in_bounds in
    (omega arith, (omega arith, ap open_to c.deeper-2.ensures ∙ c.requires.fits))

pub statements::else_tail-returns-then-peek-ne-ELSE-clause-told : goal.statements::else_tail-returns-then-peek-ne-ELSE-clause-told
statements::else_tail-returns-then-peek-ne-ELSE-clause-told t c =
    let ts = behind c.args.bytes.now c.args.tokens.now c.args.start in
    else_none c.args.room c.requires.fits c.args.close ts (comes_not else_word c.peek.result ts c.peek.ensures.sort c.if-peek-ne-ELSE.true)

pub statements::else_tail-returns-in_err-of-clause-told : goal.statements::else_tail-returns-in_err-of-clause-told
statements::else_tail-returns-in_err-of-clause-told t c =
    let bytes = c.args.bytes.now in
    let tokens = c.args.tokens.now in
    let ts = behind bytes tokens c.args.start in
    let us = behind bytes tokens (c.args.start + 1) in
    let below = deeper c.args.room in
    let h = comes else_word c.peek.result ts c.peek.ensures.sort c.if-peek-ne-ELSE.false in
    let w = token_here bytes tokens c.args.start (c.args.start + 1) (else_word ∷ []) (omega arith) (c.peek.ensures.present (omega (arith, c.if-peek-ne-ELSE.false))) h in
    let k : and (fits below) (has (if_word ∷ []) (head_sort us)) ≡ true = ap (λ r. and (fits r) (has (if_word ∷ []) (head_sort us))) (sym c.deeper.ensures) ∙ (sym c.comes.ensures ∙ c.if-comes.true) in
    two_err_three bytes tokens (read c.deeper-then-comes.result If_only us) (found_as (else_view c.args.close) (read c.args.room Else_tail ts)) c.in_err-of.field-0.0 c.from_residual.result
    c.in_err-of.ensures.told c.from_residual.ensures.1
    (λ rest e. else_if_stops c.args.room c.requires.fits c.args.close ts us w.0 h w.1 (and_left (fits below) (has (if_word ∷ []) (head_sort us)) k) (and_right (fits below) (has (if_word ∷ []) (head_sort us)) k)
    rest (ap (λ r. read r If_only us) (sym c.deeper-then-comes.ensures) ∙ e))

pub statements::else_tail-returns-then-comes-clause-told : goal.statements::else_tail-returns-then-comes-clause-told
statements::else_tail-returns-then-comes-clause-told t c =
    let bytes = c.args.bytes.now in
    let tokens = c.args.tokens.now in
    let ts = behind bytes tokens c.args.start in
    let us = behind bytes tokens (c.args.start + 1) in
    let rest = behind bytes tokens c.in_ok-of.next in
    let below = deeper c.args.room in
    let h = comes else_word c.peek.result ts c.peek.ensures.sort c.if-peek-ne-ELSE.false in
    let w = token_here bytes tokens c.args.start (c.args.start + 1) (else_word ∷ []) (omega arith) (c.peek.ensures.present (omega (arith, c.if-peek-ne-ELSE.false))) h in
    let k : and (fits below) (has (if_word ∷ []) (head_sort us)) ≡ true = ap (λ r. and (fits r) (has (if_word ∷ []) (head_sort us))) (sym c.deeper.ensures) ∙ (sym c.comes.ensures ∙ c.if-comes.true) in
    else_if c.args.room c.requires.fits c.args.close ts us w.0 h w.1 (and_left (fits below) (has (if_word ∷ []) (head_sort us)) k) (and_right (fits below) (has (if_word ∷ []) (head_sort us)) k)
    rest c.in_ok-of.of c.in_ok-of.levels c.in_ok-of.of.span (ap (λ r. read r If_only us) (sym c.deeper-then-comes.ensures) ∙ c.in_ok-of.ensures.told) refl
    ∙ ap (λ s. Done (else_kind.If s, (c.in_ok-of.levels, c.in_ok-of.of.span)) rest) (sym c.in_ok-new.ensures)

pub statements::else_tail-returns-in_err-body-clause-told : goal.statements::else_tail-returns-in_err-body-clause-told
statements::else_tail-returns-in_err-body-clause-told t c =
    let bytes = c.args.bytes.now in
    let tokens = c.args.tokens.now in
    let ts = behind bytes tokens c.args.start in
    let us = behind bytes tokens (c.args.start + 1) in
    let h = comes else_word c.peek.result ts c.peek.ensures.sort c.if-peek-ne-ELSE.false in
    let w = token_here bytes tokens c.args.start (c.args.start + 1) (else_word ∷ []) (omega arith) (c.peek.ensures.present (omega (arith, c.if-peek-ne-ELSE.false))) h in
    let k : and (fits (deeper c.args.room)) (has (if_word ∷ []) (head_sort us)) ≡ false = ap (λ r. and (fits r) (has (if_word ∷ []) (head_sort us))) (sym c.deeper.ensures) ∙ (sym c.comes.ensures ∙ c.if-comes.false) in
    three_err_three bytes tokens (found_as block_view (read c.deeper-2.result Block us)) (found_as (else_view c.args.close) (read c.args.room Else_tail ts)) c.in_err-body.field-0.0
    c.from_residual-in_err-body.result c.in_err-body.ensures.told c.from_residual-in_err-body.ensures.1
    (λ rest e. else_block_stops c.args.room c.requires.fits c.args.close ts us w.0 h w.1 k rest (ap (λ r. found_as block_view (read r Block us)) (sym c.deeper-2.ensures) ∙ e))

pub statements::else_tail-returns-clause-told : goal.statements::else_tail-returns-clause-told
statements::else_tail-returns-clause-told t c =
    let bytes = c.args.bytes.now in
    let tokens = c.args.tokens.now in
    let ts = behind bytes tokens c.args.start in
    let us = behind bytes tokens (c.args.start + 1) in
    let rest = behind bytes tokens c.in_ok-body.next in
    let h = comes else_word c.peek.result ts c.peek.ensures.sort c.if-peek-ne-ELSE.false in
    let w = token_here bytes tokens c.args.start (c.args.start + 1) (else_word ∷ []) (omega arith) (c.peek.ensures.present (omega (arith, c.if-peek-ne-ELSE.false))) h in
    let k : and (fits (deeper c.args.room)) (has (if_word ∷ []) (head_sort us)) ≡ false = ap (λ r. and (fits r) (has (if_word ∷ []) (head_sort us))) (sym c.deeper.ensures) ∙ (sym c.comes.ensures ∙ c.if-comes.false) in
    else_block c.args.room c.requires.fits c.args.close ts us w.0 h w.1 k rest c.in_ok-body.body c.in_ok-body.levels c.in_ok-body.last
    (ap (λ r. found_as block_view (read r Block us)) (sym c.deeper-2.ensures) ∙ c.in_ok-body.ensures.told)

pub statements::else_tail-if_only-requires : goal.statements::else_tail-if_only-requires
statements::else_tail-if_only-requires t c =
    let p : c.args.start < length c.args.tokens.now = c.peek.ensures.present (omega (arith, c.if-peek-ne-ELSE.false)) in
    let us = behind c.args.bytes.now c.args.tokens.now (c.args.start + 1) in
    (omega arith, (omega arith, ap fits c.deeper-then-comes.ensures ∙ (ap fits (sym c.deeper.ensures) ∙ and_left (fits c.deeper.result) (has (if_word ∷ []) (head_sort us)) (sym c.comes.ensures ∙ c.if-comes.true))))

pub statements::else_tail-block-requires : goal.statements::else_tail-block-requires
statements::else_tail-block-requires t c =
    let p : c.args.start < length c.args.tokens.now = c.peek.ensures.present (omega (arith, c.if-peek-ne-ELSE.false)) in
    (omega arith, omega arith)

pub statements::for_loop-returns-in_err-first-clause-told : goal.statements::for_loop-returns-in_err-first-clause-told
statements::for_loop-returns-in_err-first-clause-told t c =
    let bytes = c.args.bytes.now in
    let tokens = c.args.tokens.now in
    let ts = behind bytes tokens c.args.start in
    token_err bytes tokens c.args.start (read_token (is sort (for_word ∷ [])) ts) (found_as for_from (read c.args.room For_loop ts)) c.in_err-first.field-0.0 c.from_residual.result
    c.in_err-first.ensures.told c.from_residual.ensures.1
    (λ rest e. for_halts c.args.room c.requires.fits ts rest e)

pub statements::for_loop-returns-in_err-expect-clause-told : goal.statements::for_loop-returns-in_err-expect-clause-told
statements::for_loop-returns-in_err-expect-clause-told t c =
    let bytes = c.args.bytes.now in
    let tokens = c.args.tokens.now in
    let ts = behind bytes tokens c.args.start in
    let us1 = behind bytes tokens (c.args.start + 1) in
    let n1 : suc c.args.start ≡ c.args.start + 1 = omega arith in
    let e1 = rw (n1) at c.in_ok-first.ensures.told in
    token_err bytes tokens (c.args.start + 1) (read_token (is sort (left_parenthesis ∷ [])) us1) (found_as for_from (read c.args.room For_loop ts)) c.in_err-expect.field-0.0 c.from_residual-in_err-expect.result
    c.in_err-expect.ensures.told c.from_residual-in_err-expect.ensures.1
    (λ rest e. for_second c.args.room c.requires.fits ts us1 (spelled bytes c.in_ok-first.first) e1 rest e)

pub statements::for_loop-returns-in_err-name-clause-told : goal.statements::for_loop-returns-in_err-name-clause-told
statements::for_loop-returns-in_err-name-clause-told t c =
    let bytes = c.args.bytes.now in
    let tokens = c.args.tokens.now in
    let ts = behind bytes tokens c.args.start in
    let us1 = behind bytes tokens (c.args.start + 1) in
    let us2 = behind bytes tokens (c.args.start + 2) in
    let n1 : suc c.args.start ≡ c.args.start + 1 = omega arith in
    let n2 : suc (c.args.start + 1) ≡ c.args.start + 2 = omega arith in
    let e1 = rw (n1) at c.in_ok-first.ensures.told in
    let e2 = rw (n2) at c.in_ok-expect.ensures.told in
    token_err bytes tokens (c.args.start + 2) (read_token (is sort names) us2) (found_as for_from (read c.args.room For_loop ts)) c.in_err-name.field-0.0 c.from_residual-in_err-name.result
    c.in_err-name.ensures.told c.from_residual-in_err-name.ensures.1
    (λ rest e. for_third c.args.room c.requires.fits ts us1 (spelled bytes c.in_ok-first.first) e1 us2 (spelled bytes c.in_ok-expect.field-0) e2 rest e)

pub statements::for_loop-returns-in_err-expect-2-clause-told : goal.statements::for_loop-returns-in_err-expect-2-clause-told
statements::for_loop-returns-in_err-expect-2-clause-told t c =
    let bytes = c.args.bytes.now in
    let tokens = c.args.tokens.now in
    let ts = behind bytes tokens c.args.start in
    let us1 = behind bytes tokens (c.args.start + 1) in
    let us2 = behind bytes tokens (c.args.start + 2) in
    let us3 = behind bytes tokens (c.args.start + 3) in
    let n1 : suc c.args.start ≡ c.args.start + 1 = omega arith in
    let n2 : suc (c.args.start + 1) ≡ c.args.start + 2 = omega arith in
    let n3 : suc (c.args.start + 2) ≡ c.args.start + 3 = omega arith in
    let e1 = rw (n1) at c.in_ok-first.ensures.told in
    let e2 = rw (n2) at c.in_ok-expect.ensures.told in
    let e3 = rw (n3) at c.in_ok-name.ensures.told in
    token_err bytes tokens (c.args.start + 3) (read_token (is sort (left_arrow ∷ [])) us3) (found_as for_from (read c.args.room For_loop ts)) c.in_err-expect-2.field-0.0 c.from_residual-in_err-expect-2.result
    c.in_err-expect-2.ensures.told c.from_residual-in_err-expect-2.ensures.1
    (λ rest e. for_fourth c.args.room c.requires.fits ts us1 (spelled bytes c.in_ok-first.first) e1 us2 (spelled bytes c.in_ok-expect.field-0) e2 us3 (spelled bytes c.in_ok-name.name) e3 rest e)

pub statements::for_loop-returns-in_err-from-clause-told : goal.statements::for_loop-returns-in_err-from-clause-told
statements::for_loop-returns-in_err-from-clause-told t c =
    let bytes = c.args.bytes.now in
    let tokens = c.args.tokens.now in
    let ts = behind bytes tokens c.args.start in
    let us1 = behind bytes tokens (c.args.start + 1) in
    let us2 = behind bytes tokens (c.args.start + 2) in
    let us3 = behind bytes tokens (c.args.start + 3) in
    let us4 = behind bytes tokens (c.args.start + 4) in
    let n1 : suc c.args.start ≡ c.args.start + 1 = omega arith in
    let n2 : suc (c.args.start + 1) ≡ c.args.start + 2 = omega arith in
    let n3 : suc (c.args.start + 2) ≡ c.args.start + 3 = omega arith in
    let n4 : suc (c.args.start + 3) ≡ c.args.start + 4 = omega arith in
    let e1 = rw (n1) at c.in_ok-first.ensures.told in
    let e2 = rw (n2) at c.in_ok-expect.ensures.told in
    let e3 = rw (n3) at c.in_ok-name.ensures.told in
    let e4 = rw (n4) at c.in_ok-expect-2.ensures.told in
    two_err bytes tokens (read c.deeper-room.result Expression us4) (found_as for_from (read c.args.room For_loop ts)) c.in_err-from.field-0.0 c.from_residual-in_err-from.result
    c.in_err-from.ensures.told c.from_residual-in_err-from.ensures.1
    (λ rest e. for_fifth c.args.room c.requires.fits ts us1 (spelled bytes c.in_ok-first.first) e1 us2 (spelled bytes c.in_ok-expect.field-0) e2 us3 (spelled bytes c.in_ok-name.name) e3 us4 (spelled bytes c.in_ok-expect-2.field-0) e4 rest (ap (λ r. read r Expression us4) (sym c.deeper-room.ensures) ∙ e))

pub statements::for_loop-returns-in-Err-clause-told : goal.statements::for_loop-returns-in-Err-clause-told
statements::for_loop-returns-in-Err-clause-told t c =
    let bytes = c.args.bytes.now in
    let tokens = c.args.tokens.now in
    let ts = behind bytes tokens c.args.start in
    let us1 = behind bytes tokens (c.args.start + 1) in
    let us2 = behind bytes tokens (c.args.start + 2) in
    let us3 = behind bytes tokens (c.args.start + 3) in
    let us4 = behind bytes tokens (c.args.start + 4) in
    let us5 = behind bytes tokens c.in_ok-from.at in
    let n1 : suc c.args.start ≡ c.args.start + 1 = omega arith in
    let n2 : suc (c.args.start + 1) ≡ c.args.start + 2 = omega arith in
    let n3 : suc (c.args.start + 2) ≡ c.args.start + 3 = omega arith in
    let n4 : suc (c.args.start + 3) ≡ c.args.start + 4 = omega arith in
    let e1 = rw (n1) at c.in_ok-first.ensures.told in
    let e2 = rw (n2) at c.in_ok-expect.ensures.told in
    let e3 = rw (n3) at c.in_ok-name.ensures.told in
    let e4 = rw (n4) at c.in_ok-expect-2.ensures.told in
    let e5 = ap (λ r. read r Expression us4) (sym c.deeper-room.ensures) ∙ c.in_ok-from.ensures.told in
    token_err bytes tokens c.in_ok-from.at (read_token (is sort (until_name ∷ to_name ∷ [])) us5) (found_as for_from (read c.args.room For_loop ts)) c.in-Err.stop (Err c.in-Err.stop)
    c.in-Err.ensures.told refl
    (λ rest e. for_sixth c.args.room c.requires.fits ts us1 (spelled bytes c.in_ok-first.first) e1 us2 (spelled bytes c.in_ok-expect.field-0) e2 us3 (spelled bytes c.in_ok-name.name) e3 us4 (spelled bytes c.in_ok-expect-2.field-0) e4 us5 c.in_ok-from.from c.in_ok-from.from_levels e5 rest e)

pub statements::for_loop-returns-in-Err-expression-clause-told : goal.statements::for_loop-returns-in-Err-expression-clause-told
statements::for_loop-returns-in-Err-expression-clause-told t c =
    let bytes = c.args.bytes.now in
    let tokens = c.args.tokens.now in
    let ts = behind bytes tokens c.args.start in
    let us1 = behind bytes tokens (c.args.start + 1) in
    let us2 = behind bytes tokens (c.args.start + 2) in
    let us3 = behind bytes tokens (c.args.start + 3) in
    let us4 = behind bytes tokens (c.args.start + 4) in
    let us5 = behind bytes tokens c.in_ok-from.at in
    let us6 = behind bytes tokens (c.in_ok-from.at + 1) in
    let n1 : suc c.args.start ≡ c.args.start + 1 = omega arith in
    let n2 : suc (c.args.start + 1) ≡ c.args.start + 2 = omega arith in
    let n3 : suc (c.args.start + 2) ≡ c.args.start + 3 = omega arith in
    let n4 : suc (c.args.start + 3) ≡ c.args.start + 4 = omega arith in
    let n6 : suc c.in_ok-from.at ≡ c.in_ok-from.at + 1 = omega arith in
    let e1 = rw (n1) at c.in_ok-first.ensures.told in
    let e2 = rw (n2) at c.in_ok-expect.ensures.told in
    let e3 = rw (n3) at c.in_ok-name.ensures.told in
    let e4 = rw (n4) at c.in_ok-expect-2.ensures.told in
    let e5 = ap (λ r. read r Expression us4) (sym c.deeper-room.ensures) ∙ c.in_ok-from.ensures.told in
    let e6 = rw (n6) at c.in-Ok.ensures.told in
    two_err bytes tokens (read c.deeper-room.result Expression us6) (found_as for_from (read c.args.room For_loop ts)) c.in-Err-expression.stop (Err c.in-Err-expression.stop)
    c.in-Err-expression.ensures.told refl
    (λ rest e. for_seventh c.args.room c.requires.fits ts us1 (spelled bytes c.in_ok-first.first) e1 us2 (spelled bytes c.in_ok-expect.field-0) e2 us3 (spelled bytes c.in_ok-name.name) e3 us4 (spelled bytes c.in_ok-expect-2.field-0) e4 us5 c.in_ok-from.from c.in_ok-from.from_levels e5 us6 (spelled bytes c.in-Ok.token) e6 rest (ap (λ r. read r Expression us6) (sym c.deeper-room.ensures) ∙ e))

pub statements::for_loop-returns-in-Err-expect-clause-told : goal.statements::for_loop-returns-in-Err-expect-clause-told
statements::for_loop-returns-in-Err-expect-clause-told t c =
    let bytes = c.args.bytes.now in
    let tokens = c.args.tokens.now in
    let ts = behind bytes tokens c.args.start in
    let us1 = behind bytes tokens (c.args.start + 1) in
    let us2 = behind bytes tokens (c.args.start + 2) in
    let us3 = behind bytes tokens (c.args.start + 3) in
    let us4 = behind bytes tokens (c.args.start + 4) in
    let us5 = behind bytes tokens c.in_ok-from.at in
    let us6 = behind bytes tokens (c.in_ok-from.at + 1) in
    let us7 = behind bytes tokens c.in-Ok-expression.read.2 in
    let n1 : suc c.args.start ≡ c.args.start + 1 = omega arith in
    let n2 : suc (c.args.start + 1) ≡ c.args.start + 2 = omega arith in
    let n3 : suc (c.args.start + 2) ≡ c.args.start + 3 = omega arith in
    let n4 : suc (c.args.start + 3) ≡ c.args.start + 4 = omega arith in
    let n6 : suc c.in_ok-from.at ≡ c.in_ok-from.at + 1 = omega arith in
    let e1 = rw (n1) at c.in_ok-first.ensures.told in
    let e2 = rw (n2) at c.in_ok-expect.ensures.told in
    let e3 = rw (n3) at c.in_ok-name.ensures.told in
    let e4 = rw (n4) at c.in_ok-expect-2.ensures.told in
    let e5 = ap (λ r. read r Expression us4) (sym c.deeper-room.ensures) ∙ c.in_ok-from.ensures.told in
    let e6 = rw (n6) at c.in-Ok.ensures.told in
    let e7 = ap (λ r. read r Expression us6) (sym c.deeper-room.ensures) ∙ c.in-Ok-expression.ensures.told in
    token_err bytes tokens c.in-Ok-expression.read.2 (read_token (is sort (right_parenthesis ∷ [])) us7) (found_as for_from (read c.args.room For_loop ts)) c.in-Err-expect.stop (Err c.in-Err-expect.stop)
    c.in-Err-expect.ensures.told refl
    (λ rest e. for_eighth c.args.room c.requires.fits ts us1 (spelled bytes c.in_ok-first.first) e1 us2 (spelled bytes c.in_ok-expect.field-0) e2 us3 (spelled bytes c.in_ok-name.name) e3 us4 (spelled bytes c.in_ok-expect-2.field-0) e4 us5 c.in_ok-from.from c.in_ok-from.from_levels e5 us6 (spelled bytes c.in-Ok.token) e6 us7 c.in-Ok-expression.read.0 c.in-Ok-expression.read.1 e7 rest e)

pub statements::for_loop-returns-in-Err-block-clause-told : goal.statements::for_loop-returns-in-Err-block-clause-told
statements::for_loop-returns-in-Err-block-clause-told t c =
    let bytes = c.args.bytes.now in
    let tokens = c.args.tokens.now in
    let ts = behind bytes tokens c.args.start in
    let us1 = behind bytes tokens (c.args.start + 1) in
    let us2 = behind bytes tokens (c.args.start + 2) in
    let us3 = behind bytes tokens (c.args.start + 3) in
    let us4 = behind bytes tokens (c.args.start + 4) in
    let us5 = behind bytes tokens c.in_ok-from.at in
    let us6 = behind bytes tokens (c.in_ok-from.at + 1) in
    let us7 = behind bytes tokens c.in-Ok-expression.read.2 in
    let us8 = behind bytes tokens (c.in-Ok-expression.read.2 + 1) in
    let n1 : suc c.args.start ≡ c.args.start + 1 = omega arith in
    let n2 : suc (c.args.start + 1) ≡ c.args.start + 2 = omega arith in
    let n3 : suc (c.args.start + 2) ≡ c.args.start + 3 = omega arith in
    let n4 : suc (c.args.start + 3) ≡ c.args.start + 4 = omega arith in
    let n6 : suc c.in_ok-from.at ≡ c.in_ok-from.at + 1 = omega arith in
    let n8 : suc c.in-Ok-expression.read.2 ≡ c.in-Ok-expression.read.2 + 1 = omega arith in
    let e1 = rw (n1) at c.in_ok-first.ensures.told in
    let e2 = rw (n2) at c.in_ok-expect.ensures.told in
    let e3 = rw (n3) at c.in_ok-name.ensures.told in
    let e4 = rw (n4) at c.in_ok-expect-2.ensures.told in
    let e5 = ap (λ r. read r Expression us4) (sym c.deeper-room.ensures) ∙ c.in_ok-from.ensures.told in
    let e6 = rw (n6) at c.in-Ok.ensures.told in
    let e7 = ap (λ r. read r Expression us6) (sym c.deeper-room.ensures) ∙ c.in-Ok-expression.ensures.told in
    let e8 = rw (n8) at c.in_default.ensures.told in
    three_err bytes tokens (found_as block_view (read c.deeper-room.result Block us8)) (found_as for_from (read c.args.room For_loop ts)) c.in-Err-block.stop (Err c.in-Err-block.stop)
    c.in-Err-block.ensures.told refl
    (λ rest e. for_ninth c.args.room c.requires.fits ts us1 (spelled bytes c.in_ok-first.first) e1 us2 (spelled bytes c.in_ok-expect.field-0) e2 us3 (spelled bytes c.in_ok-name.name) e3 us4 (spelled bytes c.in_ok-expect-2.field-0) e4 us5 c.in_ok-from.from c.in_ok-from.from_levels e5 us6 (spelled bytes c.in-Ok.token) e6 us7 c.in-Ok-expression.read.0 c.in-Ok-expression.read.1 e7 us8 (spelled bytes c.in_default.field-0) e8 rest (ap (λ r. found_as block_view (read r Block us8)) (sym c.deeper-room.ensures) ∙ e))

pub statements::for_loop-returns-clause-told : goal.statements::for_loop-returns-clause-told
unfolding spelled
statements::for_loop-returns-clause-told t c =
    let bytes = c.args.bytes.now in
    let tokens = c.args.tokens.now in
    let ts = behind bytes tokens c.args.start in
    let us1 = behind bytes tokens (c.args.start + 1) in
    let us2 = behind bytes tokens (c.args.start + 2) in
    let us3 = behind bytes tokens (c.args.start + 3) in
    let us4 = behind bytes tokens (c.args.start + 4) in
    let us5 = behind bytes tokens c.in_ok-from.at in
    let us6 = behind bytes tokens (c.in_ok-from.at + 1) in
    let us7 = behind bytes tokens c.in-Ok-expression.read.2 in
    let us8 = behind bytes tokens (c.in-Ok-expression.read.2 + 1) in
    let n1 : suc c.args.start ≡ c.args.start + 1 = omega arith in
    let n2 : suc (c.args.start + 1) ≡ c.args.start + 2 = omega arith in
    let n3 : suc (c.args.start + 2) ≡ c.args.start + 3 = omega arith in
    let n4 : suc (c.args.start + 3) ≡ c.args.start + 4 = omega arith in
    let n6 : suc c.in_ok-from.at ≡ c.in_ok-from.at + 1 = omega arith in
    let n8 : suc c.in-Ok-expression.read.2 ≡ c.in-Ok-expression.read.2 + 1 = omega arith in
    let e1 = rw (n1) at c.in_ok-first.ensures.told in
    let e2 = rw (n2) at c.in_ok-expect.ensures.told in
    let e3 = rw (n3) at c.in_ok-name.ensures.told in
    let e4 = rw (n4) at c.in_ok-expect-2.ensures.told in
    let e5 = ap (λ r. read r Expression us4) (sym c.deeper-room.ensures) ∙ c.in_ok-from.ensures.told in
    let e6 = rw (n6) at c.in-Ok.ensures.told in
    let e7 = ap (λ r. read r Expression us6) (sym c.deeper-room.ensures) ∙ c.in-Ok-expression.ensures.told in
    let e8 = rw (n8) at c.in_default.ensures.told in
    let rest = behind bytes tokens c.in-Ok-block.read.3 in
    let x = c.max.ensures in
    let y = c.max-2.ensures in
    for_whole c.args.room c.requires.fits ts us1 (spelled bytes c.in_ok-first.first) e1 us2 (spelled bytes c.in_ok-expect.field-0) e2 us3 (spelled bytes c.in_ok-name.name) e3 us4 (spelled bytes c.in_ok-expect-2.field-0) e4 us5 c.in_ok-from.from c.in_ok-from.from_levels e5 us6 (spelled bytes c.in-Ok.token) e6 us7 c.in-Ok-expression.read.0 c.in-Ok-expression.read.1 e7 us8 (spelled bytes c.in_default.field-0) e8 rest
    c.in-Ok-block.read.0 c.in-Ok-block.read.1 c.in-Ok-block.read.2 (sort (spelled bytes c.in-Ok.token) == to_name) c.join-span.result (c.max-2.result + 1)
    (ap (λ r. found_as block_view (read r Block us8)) (sym c.deeper-room.ensures) ∙ c.in-Ok-block.ensures.told) refl c.join-span.ensures (omega arith)
    ∙ ap (λ s. Done (s, c.max-2.result + 1) rest) (sym c.in_ok-for_of.ensures)

pub statements::for_loop-expression-requires : goal.statements::for_loop-expression-requires
statements::for_loop-expression-requires t c = let p = c.in_ok-expect-2.ensures.in_bounds in (omega arith, (omega arith, ap open_to c.deeper-room.ensures ∙ c.requires.fits))

pub statements::for_loop-expression-requires-2 : goal.statements::for_loop-expression-requires-2
statements::for_loop-expression-requires-2 t c =
    let l = c.in_ok-from.ensures.lies in
    let p = c.in-Ok.ensures.in_bounds in
    (omega arith, (omega arith, ap open_to c.deeper-room.ensures ∙ c.requires.fits))

pub statements::for_loop-block-requires : goal.statements::for_loop-block-requires
statements::for_loop-block-requires t c =
    let l = c.in_ok-from.ensures.lies in
    let m = c.in-Ok-expression.ensures.lies in
    let p = c.in_default.ensures.in_bounds in
    (omega arith, omega arith)

pub statements::if_any-returns-in_err-first-clause-told : goal.statements::if_any-returns-in_err-first-clause-told
statements::if_any-returns-in_err-first-clause-told t c =
    let bytes = c.args.bytes.now in
    let tokens = c.args.tokens.now in
    let ts = behind bytes tokens c.args.start in
    token_err bytes tokens c.args.start (read_token (is sort (if_word ∷ [])) ts) (found_as if_any_from (read c.args.room If_any ts)) c.in_err-first.field-0.0 c.from_residual.result
    c.in_err-first.ensures.told c.from_residual.ensures.1 (λ rest e. if_any_halts c.args.room c.requires.fits ts rest e)

pub statements::if_any-returns-in_err-condition-clause-told : goal.statements::if_any-returns-in_err-condition-clause-told
statements::if_any-returns-in_err-condition-clause-told t c =
    let bytes = c.args.bytes.now in
    let tokens = c.args.tokens.now in
    let ts = behind bytes tokens c.args.start in
    let us = behind bytes tokens (c.args.start + 1) in
    let i = spelled bytes c.in_ok-first.first in
    let n : suc c.args.start ≡ c.args.start + 1 = omega arith in
    let a : read_token (is sort (if_word ∷ [])) ts ≡ Done i us = c.in_ok-first.ensures.told ∙ ap (λ n. Done i (behind bytes tokens n)) n in
    two_err bytes tokens (found_as head_view (reads (head_form c.deeper.result) us)) (found_as if_any_from (read c.args.room If_any ts)) c.in_err-condition.field-0.0
    c.from_residual-in_err-condition.result c.in_err-condition.ensures.told c.from_residual-in_err-condition.ensures.1
    (λ rest b. if_any_second c.args.room c.requires.fits ts us i a rest (ap (λ r. found_as head_view (reads (head_form r) us)) (sym c.deeper.ensures) ∙ b))

pub statements::if_any-returns-then-is_tail-clause-told : goal.statements::if_any-returns-then-is_tail-clause-told
unfolding spelled
statements::if_any-returns-then-is_tail-clause-told t c =
    let bytes = c.args.bytes.now in
    let tokens = c.args.tokens.now in
    let ts = behind bytes tokens c.args.start in
    let us = behind bytes tokens (c.args.start + 1) in
    let vs = behind bytes tokens c.in_ok-condition.at in
    let i = spelled bytes c.in_ok-first.first in
    let below = deeper c.args.room in
    let holding = holds (deeper below) c.in_ok-condition.levels in
    let comes = has (expression_kinds (deeper below)) (head_sort vs) in
    let n : suc c.args.start ≡ c.args.start + 1 = omega arith in
    let a : read_token (is sort (if_word ∷ [])) ts ≡ Done i us = c.in_ok-first.ensures.told ∙ ap (λ n. Done i (behind bytes tokens n)) n in
    let t : and holding (and (fits below) comes) ≡ true =
    ap (λ r. and (holds (deeper r) c.in_ok-condition.levels) (and (fits r) (has (expression_kinds (deeper r)) (head_sort vs)))) (sym c.deeper-2.ensures) ∙ (sym c.is_tail.ensures ∙ c.if-is_tail.true) in
    let u = and_right holding (and (fits below) comes) t in
    told_same bytes tokens (found_as (tail_from (head_of c.in_ok-first.first.span (c.in_ok-condition.condition, c.in_ok-condition.levels))) (read c.args.room If_tail vs))
    (found_as if_any_from (read c.args.room If_any ts)) c.if_tail.result
    (if_any_tail c.args.room c.requires.fits ts us i a vs c.in_ok-condition.condition c.in_ok-condition.levels
    (ap (λ r. found_as head_view (reads (head_form r) us)) (sym c.deeper.ensures) ∙ c.in_ok-condition.ensures.told)
    (and_left (fits below) comes u) (and_left holding (and (fits below) comes) t) (and_right (fits below) comes u))
    c.if_tail.ensures.told

pub statements::if_any-returns-else-is_tail-clause-told : goal.statements::if_any-returns-else-is_tail-clause-told
unfolding spelled
statements::if_any-returns-else-is_tail-clause-told t c =
    let bytes = c.args.bytes.now in
    let tokens = c.args.tokens.now in
    let ts = behind bytes tokens c.args.start in
    let us = behind bytes tokens (c.args.start + 1) in
    let vs = behind bytes tokens c.in_ok-condition.at in
    let i = spelled bytes c.in_ok-first.first in
    let n : suc c.args.start ≡ c.args.start + 1 = omega arith in
    let a : read_token (is sort (if_word ∷ [])) ts ≡ Done i us = c.in_ok-first.ensures.told ∙ ap (λ n. Done i (behind bytes tokens n)) n in
    told_same bytes tokens (found_as (blocks_from (head_of c.in_ok-first.first.span (c.in_ok-condition.condition, c.in_ok-condition.levels))) (reads (blocks_form c.args.room) vs))
    (found_as if_any_from (read c.args.room If_any ts)) c.blocks-else-is_tail.result
    (if_any_blocks c.args.room c.requires.fits ts us i a vs c.in_ok-condition.condition c.in_ok-condition.levels
    (ap (λ r. found_as head_view (reads (head_form r) us)) (sym c.deeper.ensures) ∙ c.in_ok-condition.ensures.told)
    (ap (λ r. and (holds (deeper r) c.in_ok-condition.levels) (and (fits r) (has (expression_kinds (deeper r)) (head_sort vs)))) (sym c.deeper-2.ensures) ∙ (sym c.is_tail.ensures ∙ c.if-is_tail.false)))
    c.blocks-else-is_tail.ensures.told

pub statements::if_any-head-requires : goal.statements::if_any-head-requires
statements::if_any-head-requires t c =
    let p = c.in_ok-first.ensures.in_bounds in
    (omega arith, (omega arith, ap open_to c.deeper.ensures ∙ c.requires.fits))

pub statements::if_any-if_tail-requires : goal.statements::if_any-if_tail-requires
statements::if_any-if_tail-requires t c =
    let l = c.in_ok-condition.ensures.lies in
    let below = c.deeper-2.result in
    let comes = has (expression_kinds (deeper below)) (head_sort (behind c.args.bytes.now c.args.tokens.now c.in_ok-condition.at)) in
    let u = and_right (holds (deeper below) c.in_ok-condition.levels) (and (fits below) comes) (sym c.is_tail.ensures ∙ c.if-is_tail.true) in
    (omega arith, (omega arith, (ap fits (sym c.deeper-2.ensures) ∙ and_left (fits below) comes u, omega arith)))

pub statements::if_any-blocks-requires : goal.statements::if_any-blocks-requires
statements::if_any-blocks-requires t c =
    let l = c.in_ok-condition.ensures.lies in
    (omega arith, (omega arith, (c.requires.fits, omega arith)))

pub statements::if_only-returns-in_err-first-clause-told : goal.statements::if_only-returns-in_err-first-clause-told
statements::if_only-returns-in_err-first-clause-told t c =
    let bytes = c.args.bytes.now in
    let tokens = c.args.tokens.now in
    let ts = behind bytes tokens c.args.start in
    token_err bytes tokens c.args.start (read_token (is sort (if_word ∷ [])) ts) (read c.args.room If_only ts) c.in_err-first.field-0.0 c.from_residual.result
    c.in_err-first.ensures.told c.from_residual.ensures.1 (λ rest e. if_only_halts c.args.room c.requires.fits ts rest e)

pub statements::if_only-returns-in_err-condition-clause-told : goal.statements::if_only-returns-in_err-condition-clause-told
statements::if_only-returns-in_err-condition-clause-told t c =
    let bytes = c.args.bytes.now in
    let tokens = c.args.tokens.now in
    let ts = behind bytes tokens c.args.start in
    let us = behind bytes tokens (c.args.start + 1) in
    let n : suc c.args.start ≡ c.args.start + 1 = omega arith in
    let a = rw (n) at c.in_ok-first.ensures.told in
    two_err bytes tokens (found_as head_view (reads (head_form c.deeper.result) us)) (read c.args.room If_only ts) c.in_err-condition.field-0.0 c.from_residual-in_err-condition.result
    c.in_err-condition.ensures.told c.from_residual-in_err-condition.ensures.1
    (λ rest e. if_only_second c.args.room c.requires.fits ts us (spelled bytes c.in_ok-first.first) a rest (ap (λ r. found_as head_view (reads (head_form r) us)) (sym c.deeper.ensures) ∙ e))

pub statements::if_only-returns-clause-told : goal.statements::if_only-returns-clause-told
unfolding spelled
statements::if_only-returns-clause-told t c =
    let bytes = c.args.bytes.now in
    let tokens = c.args.tokens.now in
    let ts = behind bytes tokens c.args.start in
    let us = behind bytes tokens (c.args.start + 1) in
    let vs = behind bytes tokens c.in_ok-condition.at in
    let n : suc c.args.start ≡ c.args.start + 1 = omega arith in
    let a = rw (n) at c.in_ok-first.ensures.told in
    told_same bytes tokens (found_as (blocks_from (head_of (spelled bytes c.in_ok-first.first).span (c.in_ok-condition.condition, c.in_ok-condition.levels))) (reads (blocks_form c.args.room) vs)) (read c.args.room If_only ts) c.blocks-2.result
    (if_only_goes c.args.room c.requires.fits ts us (spelled bytes c.in_ok-first.first) a vs c.in_ok-condition.condition c.in_ok-condition.levels
    (ap (λ r. found_as head_view (reads (head_form r) us)) (sym c.deeper.ensures) ∙ c.in_ok-condition.ensures.told)) c.blocks-2.ensures.told

pub statements::if_only-head-requires : goal.statements::if_only-head-requires
statements::if_only-head-requires t c = let p = c.in_ok-first.ensures.in_bounds in (omega arith, (omega arith, ap open_to c.deeper.ensures ∙ c.requires.fits))

pub statements::if_only-blocks-requires : goal.statements::if_only-blocks-requires
statements::if_only-blocks-requires t c = let l = c.in_ok-condition.ensures.lies in (omega arith, (omega arith, (c.requires.fits, omega arith)))

pub statements::if_tail-returns-in-Err-clause-told : goal.statements::if_tail-returns-in-Err-clause-told
statements::if_tail-returns-in-Err-clause-told t c =
    let bytes = c.args.bytes.now in
    let tokens = c.args.tokens.now in
    let ts = behind bytes tokens c.args.start in
    let inner : c.deeper-inner.result ≡ deeper (deeper c.args.room) = c.deeper-inner.ensures ∙ ap deeper c.deeper.ensures in
    two_err bytes tokens (read c.deeper-inner.result Expression ts) (found_as (tail_from (head_of c.args.first (c.args.condition, c.args.condition_levels))) (read c.args.room If_tail ts))
    c.in-Err.stop (Err c.in-Err.stop) c.in-Err.ensures.told refl
    (λ rest e. if_tail_halts c.args.room c.requires.fits c.args.first c.args.condition c.args.condition_levels ts rest (ap (λ r. read r Expression ts) (sym inner) ∙ e))

pub statements::if_tail-returns-in-Err-expect-clause-told : goal.statements::if_tail-returns-in-Err-expect-clause-told
statements::if_tail-returns-in-Err-expect-clause-told t c =
    let bytes = c.args.bytes.now in
    let tokens = c.args.tokens.now in
    let ts = behind bytes tokens c.args.start in
    let us = behind bytes tokens c.in-Ok.read.2 in
    let inner : c.deeper-inner.result ≡ deeper (deeper c.args.room) = c.deeper-inner.ensures ∙ ap deeper c.deeper.ensures in
    token_err bytes tokens c.in-Ok.read.2 (read_token (is sort (else_word ∷ [])) us)
    (found_as (tail_from (head_of c.args.first (c.args.condition, c.args.condition_levels))) (read c.args.room If_tail ts))
    c.in-Err-expect.stop (Err c.in-Err-expect.stop) c.in-Err-expect.ensures.told refl
    (λ rest e. if_tail_second c.args.room c.requires.fits c.args.first c.args.condition c.args.condition_levels ts us c.in-Ok.read.0 c.in-Ok.read.1
    (ap (λ r. read r Expression ts) (sym inner) ∙ c.in-Ok.ensures.told) rest e)

pub statements::if_tail-returns-in-Err-expression-clause-told : goal.statements::if_tail-returns-in-Err-expression-clause-told
statements::if_tail-returns-in-Err-expression-clause-told t c =
    let bytes = c.args.bytes.now in
    let tokens = c.args.tokens.now in
    let ts = behind bytes tokens c.args.start in
    let us = behind bytes tokens c.in-Ok.read.2 in
    let vs = behind bytes tokens (c.in-Ok.read.2 + 1) in
    let s = spelled bytes c.in_default.field-0 in
    let inner : c.deeper-inner.result ≡ deeper (deeper c.args.room) = c.deeper-inner.ensures ∙ ap deeper c.deeper.ensures in
    let n : suc c.in-Ok.read.2 ≡ c.in-Ok.read.2 + 1 = omega arith in
    let b : read_token (is sort (else_word ∷ [])) us ≡ Done s vs = c.in_default.ensures.told ∙ ap (λ n. Done s (behind bytes tokens n)) n in
    two_err bytes tokens (read c.deeper-inner.result Expression vs) (found_as (tail_from (head_of c.args.first (c.args.condition, c.args.condition_levels))) (read c.args.room If_tail ts))
    c.in-Err-expression.stop (Err c.in-Err-expression.stop) c.in-Err-expression.ensures.told refl
    (λ rest e. if_tail_third c.args.room c.requires.fits c.args.first c.args.condition c.args.condition_levels ts us c.in-Ok.read.0 c.in-Ok.read.1
    (ap (λ r. read r Expression ts) (sym inner) ∙ c.in-Ok.ensures.told) vs s b rest (ap (λ r. read r Expression vs) (sym inner) ∙ e))

pub statements::if_tail-returns-clause-told : goal.statements::if_tail-returns-clause-told
statements::if_tail-returns-clause-told t c =
    let bytes = c.args.bytes.now in
    let tokens = c.args.tokens.now in
    let ts = behind bytes tokens c.args.start in
    let us = behind bytes tokens c.in-Ok.read.2 in
    let vs = behind bytes tokens (c.in-Ok.read.2 + 1) in
    let rest = behind bytes tokens c.in-Ok-expression.read.2 in
    let s = spelled bytes c.in_default.field-0 in
    let inner : c.deeper-inner.result ≡ deeper (deeper c.args.room) = c.deeper-inner.ensures ∙ ap deeper c.deeper.ensures in
    let n : suc c.in-Ok.read.2 ≡ c.in-Ok.read.2 + 1 = omega arith in
    let b : read_token (is sort (else_word ∷ [])) us ≡ Done s vs = c.in_default.ensures.told ∙ ap (λ n. Done s (behind bytes tokens n)) n in
    let l : c.max-levels.result + 1 ≡ suc (max c.args.condition_levels (max c.in-Ok.read.1 c.in-Ok-expression.read.1)) = omega (arith, c.max.ensures, c.max-levels.ensures) in
    told_same bytes tokens (found_as (assigned_to (c.in_ok-of.of, c.max-levels.result + 1)) (reads (assigned_form c.args.room) rest))
    (found_as (tail_from (head_of c.args.first (c.args.condition, c.args.condition_levels))) (read c.args.room If_tail ts)) c.assigned.result
    (if_tail_goes c.args.room c.requires.fits c.args.first c.args.condition c.args.condition_levels ts us c.in-Ok.read.0 c.in-Ok.read.1
    (ap (λ r. read r Expression ts) (sym inner) ∙ c.in-Ok.ensures.told) vs s b rest c.in-Ok-expression.read.0 c.in-Ok-expression.read.1 c.in_ok-of.of (c.max-levels.result + 1)
    (ap (λ r. read r Expression vs) (sym inner) ∙ c.in-Ok-expression.ensures.told) c.in_ok-of.ensures l)
    c.assigned.ensures.told

pub statements::if_tail-expression-requires : goal.statements::if_tail-expression-requires
statements::if_tail-expression-requires t c =
    (omega arith, (c.requires.in_bounds, ap open_to (c.deeper-inner.ensures ∙ ap deeper c.deeper.ensures) ∙ c.requires.fits))

pub statements::if_tail-expression-requires-2 : goal.statements::if_tail-expression-requires-2
statements::if_tail-expression-requires-2 t c =
    let l = c.in-Ok.ensures.lies in
    let i = c.in_default.ensures.in_bounds in
    (omega arith, (omega arith, ap open_to (c.deeper-inner.ensures ∙ ap deeper c.deeper.ensures) ∙ c.requires.fits))

pub statements::if_tail-assigned-requires : goal.statements::if_tail-assigned-requires
statements::if_tail-assigned-requires t c =
    let l = c.in-Ok.ensures.lies in
    let r = c.in-Ok-expression.ensures.lies in
    let m = c.max.ensures in
    let n = c.max-levels.ensures in
    (omega arith, (omega arith, (deeper_fits c.args.room c.requires.fits, omega arith)))

pub statements::opening-returns-then-is_skipped-clause-told : goal.statements::opening-returns-then-is_skipped-clause-told
statements::opening-returns-then-is_skipped-clause-told t c =
    let bytes = c.args.bytes.now in
    let tokens = c.args.tokens.now in
    let ts = behind bytes tokens c.args.start in
    let us = behind bytes tokens (c.args.start + 1) in
    let here : has (contract_name ∷ []) (head_sort ts) ≡ true → (k : Spelled) × (read_token (is sort (contract_name ∷ [])) ts ≡ Done k us) =
    λ h. token_here bytes tokens c.args.start (c.args.start + 1) (contract_name ∷ []) (omega arith) (present bytes tokens c.args.start (contract_name ∷ []) refl h) h in
    told_same bytes tokens (found_as skip_view (read_skip ts)) (found_as opening_from (read c.args.room Opening ts)) c.group.result
    (opening_skipped c.args.room c.requires.open ts us here (sym c.is_skipped.ensures ∙ c.if-is_skipped.true)) c.group.ensures.told

pub statements::opening-returns-else-is_skipped-clause-told : goal.statements::opening-returns-else-is_skipped-clause-told
statements::opening-returns-else-is_skipped-clause-told t c =
    let bytes = c.args.bytes.now in
    let tokens = c.args.tokens.now in
    let ts = behind bytes tokens c.args.start in
    let us = behind bytes tokens (c.args.start + 1) in
    let here : has (contract_name ∷ []) (head_sort ts) ≡ true → (k : Spelled) × (read_token (is sort (contract_name ∷ [])) ts ≡ Done k us) =
    λ h. token_here bytes tokens c.args.start (c.args.start + 1) (contract_name ∷ []) (omega arith) (present bytes tokens c.args.start (contract_name ∷ []) refl h) h in
    let b = opening_begins c.args.room c.requires.open ts us here c.requires.other (sym c.is_skipped.ensures ∙ c.if-is_skipped.false) in
    told_same bytes tokens (found_as started_from (read c.args.room Started ts)) (found_as opening_from (read c.args.room Opening ts)) c.started.result b.1 c.started.ensures.told

pub statements::opening-started-requires : goal.statements::opening-started-requires
statements::opening-started-requires t c =
    let bytes = c.args.bytes.now in
    let tokens = c.args.tokens.now in
    let ts = behind bytes tokens c.args.start in
    let us = behind bytes tokens (c.args.start + 1) in
    let here : has (contract_name ∷ []) (head_sort ts) ≡ true → (k : Spelled) × (read_token (is sort (contract_name ∷ [])) ts ≡ Done k us) =
    λ h. token_here bytes tokens c.args.start (c.args.start + 1) (contract_name ∷ []) (omega arith) (present bytes tokens c.args.start (contract_name ∷ []) refl h) h in
    let b = opening_begins c.args.room c.requires.open ts us here c.requires.other (sym c.is_skipped.ensures ∙ c.if-is_skipped.false) in
    (omega arith, (c.requires.in_bounds, b.0))

pub statements::return_of-returns-in_err-word-clause-told : goal.statements::return_of-returns-in_err-word-clause-told
statements::return_of-returns-in_err-word-clause-told t c =
    let bytes = c.args.bytes.now in
    let tokens = c.args.tokens.now in
    let ts = behind bytes tokens c.args.start in
    token_err bytes tokens c.args.start (read_token (is sort (return_word ∷ [])) ts) (found_as return_from (read c.args.room Return_of ts)) c.in_err-word.field-0.0 c.from_residual.result
    c.in_err-word.ensures.told c.from_residual.ensures.1 (λ rest e. return_halts c.args.room c.requires.open ts rest e)

pub statements::return_of-returns-then-not-is_value-clause-told : goal.statements::return_of-returns-then-not-is_value-clause-told
unfolding spelled stmt
statements::return_of-returns-then-not-is_value-clause-told t c =
    let bytes = c.args.bytes.now in
    let tokens = c.args.tokens.now in
    let ts = behind bytes tokens c.args.start in
    let us = behind bytes tokens (c.args.start + 1) in
    let n : suc c.args.start ≡ c.args.start + 1 = omega arith in
    let a = rw (n) at c.in_ok-word.ensures.told in
    return_alone c.args.room c.requires.open ts us (spelled bytes c.in_ok-word.word) a (sym c.is_value.ensures ∙ c.if-not-is_value.true)

pub statements::return_of-returns-in_err-of-clause-told : goal.statements::return_of-returns-in_err-of-clause-told
statements::return_of-returns-in_err-of-clause-told t c =
    let bytes = c.args.bytes.now in
    let tokens = c.args.tokens.now in
    let ts = behind bytes tokens c.args.start in
    let us = behind bytes tokens (c.args.start + 1) in
    let n : suc c.args.start ≡ c.args.start + 1 = omega arith in
    let a = rw (n) at c.in_ok-word.ensures.told in
    let h = sym c.is_value.ensures ∙ c.if-not-is_value.false in
    let ks = has (expression_kinds (deeper c.args.room)) (head_sort us) in
    two_err bytes tokens (read c.deeper.result Expression us) (found_as return_from (read c.args.room Return_of ts)) c.in_err-of.field-0.0 c.from_residual-in_err-of.result
    c.in_err-of.ensures.told c.from_residual-in_err-of.ensures.1
    (λ rest e. return_stops c.args.room c.requires.open ts us (spelled bytes c.in_ok-word.word) a rest (and_left (fits c.args.room) ks h) (and_right (fits c.args.room) ks h) (ap (λ r. read r Expression us) (sym c.deeper.ensures) ∙ e))

pub statements::return_of-returns-clause-told : goal.statements::return_of-returns-clause-told
unfolding spelled stmt
statements::return_of-returns-clause-told t c =
    let bytes = c.args.bytes.now in
    let tokens = c.args.tokens.now in
    let ts = behind bytes tokens c.args.start in
    let us = behind bytes tokens (c.args.start + 1) in
    let n : suc c.args.start ≡ c.args.start + 1 = omega arith in
    let a = rw (n) at c.in_ok-word.ensures.told in
    let h = sym c.is_value.ensures ∙ c.if-not-is_value.false in
    let ks = has (expression_kinds (deeper c.args.room)) (head_sort us) in
    return_whole c.args.room c.requires.open ts us (spelled bytes c.in_ok-word.word) a (behind bytes tokens c.in_ok-of.next) c.in_ok-of.of c.in_ok-of.levels c.join-span.result (c.in_ok-of.levels + 1)
    (and_left (fits c.args.room) ks h) (and_right (fits c.args.room) ks h) (ap (λ r. read r Expression us) (sym c.deeper.ensures) ∙ c.in_ok-of.ensures.told) c.join-span.ensures (omega arith)

pub statements::return_of-expression-requires : goal.statements::return_of-expression-requires
statements::return_of-expression-requires t c =
    let p = c.in_ok-word.ensures.in_bounds in
    (omega arith, (omega arith, ap open_to c.deeper.ensures ∙ and_left (fits c.args.room) (has (expression_kinds (deeper c.args.room)) (head_sort (behind c.args.bytes.now c.args.tokens.now (c.args.start + 1)))) (sym c.is_value.ensures ∙ c.if-not-is_value.false)))

pub statements::started-returns-in_err-of-clause-told : goal.statements::started-returns-in_err-of-clause-told
statements::started-returns-in_err-of-clause-told t c =
    let bytes = c.args.bytes.now in
    let tokens = c.args.tokens.now in
    let ts = behind bytes tokens c.args.start in
    two_err bytes tokens (read c.deeper.result (Level 1) ts) (found_as started_from (read c.args.room Started ts)) c.in_err-of.field-0.0 c.from_residual.result c.in_err-of.ensures.told
    c.from_residual.ensures.1 (λ rest e. started_halts c.args.room c.requires.fits ts rest (ap (λ r. read r (Level 1) ts) (sym c.deeper.ensures) ∙ e))

pub statements::started-returns-then-peek-ne-MATCH-clause-told : goal.statements::started-returns-then-peek-ne-MATCH-clause-told
statements::started-returns-then-peek-ne-MATCH-clause-told t c =
    let bytes = c.args.bytes.now in
    let tokens = c.args.tokens.now in
    let ts = behind bytes tokens c.args.start in
    let us = behind bytes tokens c.in_ok-of.at in
    told_same bytes tokens (found_as (assigned_to (c.in_ok-of.of, c.in_ok-of.levels)) (reads (assigned_form c.args.room) us)) (found_as started_from (read c.args.room Started ts)) c.assigned.result
    (started_plain c.args.room c.requires.fits ts us c.in_ok-of.of c.in_ok-of.levels (ap (λ r. read r (Level 1) ts) (sym c.deeper.ensures) ∙ c.in_ok-of.ensures.told)
    (comes_not match_word c.peek.result us c.peek.ensures.sort c.if-peek-ne-MATCH.true))
    c.assigned.ensures.told

pub statements::started-returns-in-Err-clause-told : goal.statements::started-returns-in-Err-clause-told
statements::started-returns-in-Err-clause-told t c =
    let bytes = c.args.bytes.now in
    let tokens = c.args.tokens.now in
    let ts = behind bytes tokens c.args.start in
    let us = behind bytes tokens c.in_ok-of.at in
    three_err bytes tokens (found_as cases_view (read c.args.room Matched us)) (found_as started_from (read c.args.room Started ts)) c.in-Err.stop (Err c.in-Err.stop) c.in-Err.ensures.told refl
    (λ rest e. started_stops c.args.room c.requires.fits ts us c.in_ok-of.of c.in_ok-of.levels (ap (λ r. read r (Level 1) ts) (sym c.deeper.ensures) ∙ c.in_ok-of.ensures.told) rest
    (comes match_word c.peek.result us c.peek.ensures.sort c.if-peek-ne-MATCH.false) e)

pub statements::started-returns-then-is_assigned-clause-told : goal.statements::started-returns-then-is_assigned-clause-told
statements::started-returns-then-is_assigned-clause-told t c =
    let bytes = c.args.bytes.now in
    let tokens = c.args.tokens.now in
    let ts = behind bytes tokens c.args.start in
    let us = behind bytes tokens c.in_ok-of.at in
    let vs = behind bytes tokens c.in-Ok.read.3 in
    let holding = holds (deeper c.args.room) (suc (max c.in_ok-of.levels c.in-Ok.read.1)) in
    let coming = has (equals ∷ []) (head_sort vs) in
    let l : c.max-levels.result + 1 ≡ suc (max c.in_ok-of.levels c.in-Ok.read.1) = omega (arith, c.max-levels.ensures) in
    let t : and holding coming ≡ true = ap (λ l. and (holds (deeper c.args.room) l) (has (equals ∷ []) (head_sort vs))) (sym l) ∙ (sym c.is_assigned.ensures ∙ c.if-is_assigned.true) in
    told_same bytes tokens (found_as (assigned_to (c.in_ok-of-2.of, c.max-levels.result + 1)) (reads (assigned_form c.args.room) vs)) (found_as started_from (read c.args.room Started ts))
    c.assigned-then-is_assigned.result
    (started_matched c.args.room c.requires.fits ts us c.in_ok-of.of c.in_ok-of.levels (ap (λ r. read r (Level 1) ts) (sym c.deeper.ensures) ∙ c.in_ok-of.ensures.told)
    vs c.in-Ok.read.0 c.in-Ok.read.1 c.in-Ok.read.2 (comes match_word c.peek.result us c.peek.ensures.sort c.if-peek-ne-MATCH.false) c.in-Ok.ensures.told
    c.in_ok-of-2.of (c.max-levels.result + 1) (and_left holding coming t) (and_right holding coming t) c.in_ok-of-2.ensures l)
    c.assigned-then-is_assigned.ensures.told

pub statements::started-returns-clause-told : goal.statements::started-returns-clause-told
unfolding stmt
statements::started-returns-clause-told t c =
    let bytes = c.args.bytes.now in
    let tokens = c.args.tokens.now in
    let ts = behind bytes tokens c.args.start in
    let us = behind bytes tokens c.in_ok-of.at in
    let vs = behind bytes tokens c.in-Ok.read.3 in
    let l : c.max-levels.result + 1 ≡ suc (max c.in_ok-of.levels c.in-Ok.read.1) = omega (arith, c.max-levels.ensures) in
    started_match c.args.room c.requires.fits ts us c.in_ok-of.of c.in_ok-of.levels (ap (λ r. read r (Level 1) ts) (sym c.deeper.ensures) ∙ c.in_ok-of.ensures.told)
    vs c.in-Ok.read.0 c.in-Ok.read.1 c.in-Ok.read.2 (comes match_word c.peek.result us c.peek.ensures.sort c.if-peek-ne-MATCH.false) c.in-Ok.ensures.told
    c.join-span.result (c.max-levels.result + 1)
    (ap (λ l. and (holds (deeper c.args.room) l) (has (equals ∷ []) (head_sort vs))) (sym l) ∙ (sym c.is_assigned.ensures ∙ c.if-is_assigned.false)) c.join-span.ensures l

pub statements::started-infix-requires : goal.statements::started-infix-requires
statements::started-infix-requires t c =
    (omega arith, (c.requires.in_bounds, (ap open_to c.deeper.ensures ∙ c.requires.fits, refl)))

pub statements::started-assigned-requires : goal.statements::started-assigned-requires
statements::started-assigned-requires t c =
    let l = c.in_ok-of.ensures.lies in
    (omega arith, (omega arith, (c.requires.fits, omega arith)))

pub statements::started-matched-requires : goal.statements::started-matched-requires
statements::started-matched-requires t c =
    let l = c.in_ok-of.ensures.lies in
    (omega arith, (omega arith, c.requires.fits))

pub statements::started-assigned-requires-then-is_assigned : goal.statements::started-assigned-requires-then-is_assigned
statements::started-assigned-requires-then-is_assigned t c =
    let l = c.in_ok-of.ensures.lies in
    let r = c.in-Ok.ensures.lies in
    let m = c.max-levels.ensures in
    (omega arith, (omega arith, (c.requires.fits, omega arith)))

pub statements::statement-returns-then-is_declared-clause-told : goal.statements::statement-returns-then-is_declared-clause-told
statements::statement-returns-then-is_declared-clause-told t c =
    let bytes = c.args.bytes.now in
    let tokens = c.args.tokens.now in
    let ts = behind bytes tokens c.args.start in
    let h = sym c.is_declared.ensures ∙ c.if-is_declared.true in
    told_same bytes tokens (found_as declaration_from (read c.args.room Declaration ts)) (read c.args.room Statement ts) c.declaration.result
    (statement_declares c.args.room c.requires.open ts (and_left (fits c.args.room) (has (val_word ∷ var_word ∷ []) (head_sort ts)) h) (and_right (fits c.args.room) (has (val_word ∷ var_word ∷ []) (head_sort ts)) h)) c.declaration.ensures.told

pub statements::statement-returns-then-comes-clause-told : goal.statements::statement-returns-then-comes-clause-told
statements::statement-returns-then-comes-clause-told t c =
    let bytes = c.args.bytes.now in
    let tokens = c.args.tokens.now in
    let ts = behind bytes tokens c.args.start in
    let h = sym c.comes.ensures ∙ c.if-comes.true in
    told_same bytes tokens (found_as if_any_from (read c.args.room If_any ts)) (read c.args.room Statement ts) c.if_any.result
    (statement_if c.args.room c.requires.open ts (and_left (fits c.args.room) (has (if_word ∷ []) (head_sort ts)) h) (and_right (fits c.args.room) (has (if_word ∷ []) (head_sort ts)) h)) c.if_any.ensures.told

pub statements::statement-returns-then-comes-2-clause-told : goal.statements::statement-returns-then-comes-2-clause-told
statements::statement-returns-then-comes-2-clause-told t c =
    let bytes = c.args.bytes.now in
    let tokens = c.args.tokens.now in
    let ts = behind bytes tokens c.args.start in
    let h = sym c.comes-2.ensures ∙ c.if-comes-2.true in
    told_same bytes tokens (found_as while_from (read c.args.room While_loop ts)) (read c.args.room Statement ts) c.while_loop.result
    (statement_while c.args.room c.requires.open ts (and_left (fits c.args.room) (has (while_word ∷ []) (head_sort ts)) h) (and_right (fits c.args.room) (has (while_word ∷ []) (head_sort ts)) h)) c.while_loop.ensures.told

pub statements::statement-returns-then-comes-3-clause-told : goal.statements::statement-returns-then-comes-3-clause-told
statements::statement-returns-then-comes-3-clause-told t c =
    let bytes = c.args.bytes.now in
    let tokens = c.args.tokens.now in
    let ts = behind bytes tokens c.args.start in
    let h = sym c.comes-3.ensures ∙ c.if-comes-3.true in
    told_same bytes tokens (found_as for_from (read c.args.room For_loop ts)) (read c.args.room Statement ts) c.for_loop.result
    (statement_for c.args.room c.requires.open ts (and_left (fits c.args.room) (has (for_word ∷ []) (head_sort ts)) h) (and_right (fits c.args.room) (has (for_word ∷ []) (head_sort ts)) h)) c.for_loop.ensures.told

pub statements::statement-returns-then-sort-eq-RETURN-clause-told : goal.statements::statement-returns-then-sort-eq-RETURN-clause-told
statements::statement-returns-then-sort-eq-RETURN-clause-told t c =
    let bytes = c.args.bytes.now in
    let tokens = c.args.tokens.now in
    let ts = behind bytes tokens c.args.start in
    told_same bytes tokens (found_as return_from (read c.args.room Return_of ts)) (read c.args.room Statement ts) c.return_of.result
    (statement_return c.args.room c.requires.open ts (comes return_word c.peek-sort.result ts c.peek-sort.ensures.sort c.if-sort-eq-RETURN.true)) c.return_of.ensures.told

pub statements::statement-returns-then-sort-eq-PREFIXED_L-clause-told : goal.statements::statement-returns-then-sort-eq-PREFIXED_L-clause-told
statements::statement-returns-then-sort-eq-PREFIXED_L-clause-told t c =
    let bytes = c.args.bytes.now in
    let tokens = c.args.tokens.now in
    let ts = behind bytes tokens c.args.start in
    told_same bytes tokens (found_as (λ k. skip_from k []) (read_token (is sort (prefixed_l ∷ [])) ts)) (read c.args.room Statement ts) c.skip_text.result
    (statement_skips c.args.room c.requires.open ts (comes prefixed_l c.peek-sort.result ts c.peek-sort.ensures.sort c.if-sort-eq-PREFIXED_L.true)) c.skip_text.ensures.told

pub statements::statement-returns-clause-told : goal.statements::statement-returns-clause-told
statements::statement-returns-clause-told t c =
    let bytes = c.args.bytes.now in
    let tokens = c.args.tokens.now in
    let ts = behind bytes tokens c.args.start in
    told_same bytes tokens (found_as opening_from (read c.args.room Opening ts)) (read c.args.room Statement ts) c.opening.result
    (statement_opens c.args.room c.requires.open ts (sym c.is_declared.ensures ∙ c.if-is_declared.false) (sym c.comes.ensures ∙ c.if-comes.false) (sym c.comes-2.ensures ∙ c.if-comes-2.false) (sym c.comes-3.ensures ∙ c.if-comes-3.false)
    (comes_not return_word c.peek-sort.result ts c.peek-sort.ensures.sort c.if-sort-eq-RETURN.false) (comes_not prefixed_l c.peek-sort.result ts c.peek-sort.ensures.sort c.if-sort-eq-PREFIXED_L.false)) c.opening.ensures.told

pub statements::statement-declaration-requires : goal.statements::statement-declaration-requires
statements::statement-declaration-requires t c =
    (omega arith, (c.requires.in_bounds, and_left (fits c.args.room) (has (val_word ∷ var_word ∷ []) (head_sort (behind c.args.bytes.now c.args.tokens.now c.args.start))) (sym c.is_declared.ensures ∙ c.if-is_declared.true)))

pub statements::statement-if_any-requires : goal.statements::statement-if_any-requires
statements::statement-if_any-requires t c =
    (omega arith, (c.requires.in_bounds, and_left (fits c.args.room) (has (if_word ∷ []) (head_sort (behind c.args.bytes.now c.args.tokens.now c.args.start))) (sym c.comes.ensures ∙ c.if-comes.true)))

pub statements::statement-while_loop-requires : goal.statements::statement-while_loop-requires
statements::statement-while_loop-requires t c =
    (omega arith, (c.requires.in_bounds, and_left (fits c.args.room) (has (while_word ∷ []) (head_sort (behind c.args.bytes.now c.args.tokens.now c.args.start))) (sym c.comes-2.ensures ∙ c.if-comes-2.true)))

pub statements::statement-for_loop-requires : goal.statements::statement-for_loop-requires
statements::statement-for_loop-requires t c =
    (omega arith, (c.requires.in_bounds, and_left (fits c.args.room) (has (for_word ∷ []) (head_sort (behind c.args.bytes.now c.args.tokens.now c.args.start))) (sym c.comes-3.ensures ∙ c.if-comes-3.true)))

pub statements::statement-return_of-requires : goal.statements::statement-return_of-requires
statements::statement-return_of-requires t c = (omega arith, (c.requires.in_bounds, c.requires.open))

pub statements::statement-opening-requires : goal.statements::statement-opening-requires
statements::statement-opening-requires t c =
    (omega arith, (c.requires.in_bounds, (c.requires.open, comes_not prefixed_l c.peek-sort.result (behind c.args.bytes.now c.args.tokens.now c.args.start) c.peek-sort.ensures.sort c.if-sort-eq-PREFIXED_L.false)))

pub statements::statements-returns-then-not-is_statement-clause-told : goal.statements::statements-returns-then-not-is_statement-clause-told
statements::statements-returns-then-not-is_statement-clause-told t c =
    let ts = behind c.args.bytes.now c.args.tokens.now c.args.start in
    rw (c.new.ensures) (statements_not c.args.room ts (sym c.is_statement.ensures ∙ c.if-not-is_statement.true))

pub statements::statements-returns-in_err-first-clause-told : goal.statements::statements-returns-in_err-first-clause-told
statements::statements-returns-in_err-first-clause-told t c =
    let bytes = c.args.bytes.now in
    let tokens = c.args.tokens.now in
    let ts = behind bytes tokens c.args.start in
    let s : and (open_to c.args.room) (has (statement_kinds c.args.room) (head_sort ts)) ≡ true = sym c.is_statement.ensures ∙ c.if-not-is_statement.false in
    let o = and_left (open_to c.args.room) (has (statement_kinds c.args.room) (head_sort ts)) s in
    let h = and_right (open_to c.args.room) (has (statement_kinds c.args.room) (head_sort ts)) s in
    two_err bytes tokens (read c.args.room Statement ts) (read c.args.room Statements ts) c.in_err-first.field-0.0 c.from_residual.result c.in_err-first.ensures.told c.from_residual.ensures.1
    (λ rest e. statements_halts c.args.room o ts rest h e)

pub statements::statements-listed-init : goal.statements::statements-listed-init
statements::statements-listed-init t c =
    let bytes = c.args.bytes.now in
    let tokens = c.args.tokens.now in
    let ts = behind bytes tokens c.args.start in
    let rest = behind bytes tokens c.in_ok-first.next in
    let s : and (open_to c.args.room) (has (statement_kinds c.args.room) (head_sort ts)) ≡ true = sym c.is_statement.ensures ∙ c.if-not-is_statement.false in
    let o = and_left (open_to c.args.room) (has (statement_kinds c.args.room) (head_sort ts)) s in
    let h = and_right (open_to c.args.room) (has (statement_kinds c.args.room) (head_sort ts)) s in
    let l = c.in_ok-first.ensures.lies in
    record {
      begun = omega arith;
      in_bounds = omega arith;
      few = omega arith;
      grows = statements_begins c.args.room o ts rest c.in_ok-first.first c.in_ok-first.first_levels c.push.new.self h c.in_ok-first.ensures.told
          (c.in_ok-push.ensures.ok ∙ ap (λ all. all ++ c.in_ok-first.first ∷ []) c.new-all.ensures);
    }

pub statements::statements-returns-in_err-one-clause-told : goal.statements::statements-returns-in_err-one-clause-told
statements::statements-returns-in_err-one-clause-told t c =
    let bytes = c.args.bytes.now in
    let tokens = c.args.tokens.now in
    let ts = behind bytes tokens c.listed.at in
    let more = behind bytes tokens (c.listed.at + 1) in
    let h = comes separator c.peek.result ts c.peek.ensures.sort c.listed-test.true in
    let d = token_here bytes tokens c.listed.at (c.listed.at + 1) (separator ∷ []) (omega arith) (c.peek.ensures.present (omega arith)) h in
    two_err bytes tokens (read c.args.room Statement more) (read c.args.room Statements (behind bytes tokens c.args.start)) c.in_err-one.field-0.0 c.from_residual-in_err-one.result
    c.in_err-one.ensures.told c.from_residual-in_err-one.ensures.1 (λ rest e. c.listed.invariant.grows ∙ statements_stops c.args.room (c.listed.all, c.listed.levels) ts more rest d.0 h d.1 e)

pub statements::statements-listed-preserved : goal.statements::statements-listed-preserved
statements::statements-listed-preserved t c =
    let bytes = c.args.bytes.now in
    let tokens = c.args.tokens.now in
    let ts = behind bytes tokens c.listed.at in
    let more = behind bytes tokens (c.listed.at + 1) in
    let rest = behind bytes tokens c.in_ok-one.next in
    let h = comes separator c.peek.result ts c.peek.ensures.sort c.listed-test.true in
    let d = token_here bytes tokens c.listed.at (c.listed.at + 1) (separator ∷ []) (omega arith) (c.peek.ensures.present (omega arith)) h in
    let o = and_left (open_to c.args.room) (has (statement_kinds c.args.room) (head_sort (behind bytes tokens c.args.start))) (sym c.is_statement.ensures ∙ c.if-not-is_statement.false) in
    let l = c.in_ok-one.ensures.lies in
    let m = c.max-levels.ensures in
    let p = c.in_ok-push-2.ensures.ok in
    record {
      begun = omega arith;
      in_bounds = omega arith;
      few = omega arith;
      grows = c.listed.invariant.grows ∙ statements_goes c.args.room o (c.listed.all, c.listed.levels) ts more rest d.0 c.in_ok-one.one c.in_ok-one.more c.push-in-listed.new.self c.max-levels.result
          h d.1 c.in_ok-one.ensures.told p m;
    }

pub statements::statements-returns-clause-told : goal.statements::statements-returns-clause-told
statements::statements-returns-clause-told t c =
    let ts = behind c.args.bytes.now c.args.tokens.now c.listed.at in
    c.listed.invariant.grows ∙ statements_ends c.args.room (c.listed.all, c.listed.levels) ts (comes_not separator c.peek.result ts c.peek.ensures.sort c.listed-test.false)

pub statements::statements-returns-clause-lies : goal.statements::statements-returns-clause-lies
statements::statements-returns-clause-lies t c = (omega arith, omega arith, omega arith)

pub statements::statements-statement-requires : goal.statements::statements-statement-requires
statements::statements-statement-requires t c =
    let ts = behind c.args.bytes.now c.args.tokens.now c.args.start in
    (omega arith, (c.requires.in_bounds, and_left (open_to c.args.room) (has (statement_kinds c.args.room) (head_sort ts)) (sym c.is_statement.ensures ∙ c.if-not-is_statement.false)))

pub statements::statements-statement-requires-in-listed : goal.statements::statements-statement-requires-in-listed
statements::statements-statement-requires-in-listed t c =
    let ts = behind c.args.bytes.now c.args.tokens.now c.args.start in
    let p : c.listed.at < length c.args.tokens.now = c.peek.ensures.present (omega arith) in
    let b = c.listed.invariant.begun in
    (omega arith, (omega arith, and_left (open_to c.args.room) (has (statement_kinds c.args.room) (head_sort ts)) (sym c.is_statement.ensures ∙ c.if-not-is_statement.false)))

pub statements::while_loop-returns-in_err-word-clause-told : goal.statements::while_loop-returns-in_err-word-clause-told
statements::while_loop-returns-in_err-word-clause-told t c =
    let bytes = c.args.bytes.now in
    let tokens = c.args.tokens.now in
    let ts = behind bytes tokens c.args.start in
    token_err bytes tokens c.args.start (read_token (is sort (while_word ∷ [])) ts) (found_as while_from (read c.args.room While_loop ts)) c.in_err-word.field-0.0 c.from_residual.result
    c.in_err-word.ensures.told c.from_residual.ensures.1 (λ rest e. while_halts c.args.room c.requires.fits ts rest e)

pub statements::while_loop-returns-in_err-condition-clause-told : goal.statements::while_loop-returns-in_err-condition-clause-told
statements::while_loop-returns-in_err-condition-clause-told t c =
    let bytes = c.args.bytes.now in
    let tokens = c.args.tokens.now in
    let ts = behind bytes tokens c.args.start in
    let us = behind bytes tokens (c.args.start + 1) in
    let n : suc c.args.start ≡ c.args.start + 1 = omega arith in
    let a = rw (n) at c.in_ok-word.ensures.told in
    two_err bytes tokens (found_as head_view (reads (head_form c.deeper.result) us)) (found_as while_from (read c.args.room While_loop ts)) c.in_err-condition.field-0.0 c.from_residual-in_err-condition.result
    c.in_err-condition.ensures.told c.from_residual-in_err-condition.ensures.1
    (λ rest e. while_second c.args.room c.requires.fits ts us (spelled bytes c.in_ok-word.word) a rest (ap (λ r. found_as head_view (reads (head_form r) us)) (sym c.deeper.ensures) ∙ e))

pub statements::while_loop-returns-in-Err-clause-told : goal.statements::while_loop-returns-in-Err-clause-told
statements::while_loop-returns-in-Err-clause-told t c =
    let bytes = c.args.bytes.now in
    let tokens = c.args.tokens.now in
    let ts = behind bytes tokens c.args.start in
    let us = behind bytes tokens (c.args.start + 1) in
    let vs = behind bytes tokens c.in_ok-condition.at in
    let n : suc c.args.start ≡ c.args.start + 1 = omega arith in
    let a = rw (n) at c.in_ok-word.ensures.told in
    let b = ap (λ r. found_as head_view (reads (head_form r) us)) (sym c.deeper.ensures) ∙ c.in_ok-condition.ensures.told in
    three_err bytes tokens (found_as block_view (read c.deeper-2.result Block vs)) (found_as while_from (read c.args.room While_loop ts)) c.in-Err.stop (Err c.in-Err.stop)
    c.in-Err.ensures.told refl
    (λ rest e. while_third c.args.room c.requires.fits ts us (spelled bytes c.in_ok-word.word) a vs c.in_ok-condition.condition c.in_ok-condition.levels b rest (ap (λ r. found_as block_view (read r Block vs)) (sym c.deeper-2.ensures) ∙ e))

pub statements::while_loop-returns-clause-told : goal.statements::while_loop-returns-clause-told
unfolding spelled stmt
statements::while_loop-returns-clause-told t c =
    let bytes = c.args.bytes.now in
    let tokens = c.args.tokens.now in
    let ts = behind bytes tokens c.args.start in
    let us = behind bytes tokens (c.args.start + 1) in
    let vs = behind bytes tokens c.in_ok-condition.at in
    let n : suc c.args.start ≡ c.args.start + 1 = omega arith in
    let a = rw (n) at c.in_ok-word.ensures.told in
    let b = ap (λ r. found_as head_view (reads (head_form r) us)) (sym c.deeper.ensures) ∙ c.in_ok-condition.ensures.told in
    let m = c.max.ensures in
    while_whole c.args.room c.requires.fits ts us (spelled bytes c.in_ok-word.word) a vs c.in_ok-condition.condition c.in_ok-condition.levels b (behind bytes tokens c.in-Ok.read.3) c.in-Ok.read.0 c.in-Ok.read.1 c.in-Ok.read.2 c.join-span.result (c.max.result + 1)
    (ap (λ r. found_as block_view (read r Block vs)) (sym c.deeper-2.ensures) ∙ c.in-Ok.ensures.told) c.join-span.ensures (omega arith)

pub statements::while_loop-head-requires : goal.statements::while_loop-head-requires
statements::while_loop-head-requires t c = let p = c.in_ok-word.ensures.in_bounds in (omega arith, (omega arith, ap open_to c.deeper.ensures ∙ c.requires.fits))

pub statements::while_loop-block-requires : goal.statements::while_loop-block-requires
statements::while_loop-block-requires t c = let l = c.in_ok-condition.ensures.lies in (omega arith, omega arith)
