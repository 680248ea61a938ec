use Rattle.std.proofs.Common.{◌≡◌, ◌∷◌, [], ◌+◌, suc, sym, ap, ◌∙◌, true, false, arith}
use Rattle.sl_grammar.specs.Phrase.{Stopped, read_token}
use Rattle.sl_grammar.specs.Law.{found_as}
use Rattle.sl_grammar.specs.Grammar.{is, has}
use Rattle.sl_tree.specs.Sorts.{spelled, sort, colon, comma, underscore, minus, number, left_parenthesis, right_parenthesis}
use Rattle.sl_tree.specs.WellShaped.{literals, names}
use Rattle.sl_parse_expr.specs.Names.{Type_term, Pattern_of, Name_tail, fits}
use Rattle.sl_parse_expr.specs.Values.{any_from, named_from}
use Rattle.sl_parse_expr.specs.Grammar.{read}
use Rattle.sl_parse_expr.specs.Told.{behind, head_sort, reads, any_form, class_form, class_view, path_from}
use Rattle.sl_parse_expr.proofs.Behind.{behind_more, behind_end}
use Rattle.sl_parse_expr.proofs.Telling.{comes, comes_not, token_here, two_err, three_err, token_err, token_err_three, two_err_three, told_same}
use Rattle.sl_parse_expr.proofs.PatternsRead.{guard_fits, guard_has, name_untyped, name_typed, name_halts, name_links, named_stops, named_class, named_constant, named_bind, pattern_none, pattern_any, pattern_negative, pattern_minus_stops, pattern_literal, pattern_named, pattern_other, part_kinds, close, close_done, close_stops, parts_ends, parts_stops, parts_goes, parts_halts, parts_none, parts_first, parts_begins}
use Rattle.sl_parse_expr.proofs.patterns.+patterns.Goals as goal
use Rattle.sl_parse_expr.proofs.patterns.+patterns.Goals.{class_parts-then-is_part+in_ok-first+in_ok-push+else-listed-test, class_parts-else-is_part}

pub class_parts-returns-in_err-expect-clause-told : goal.class_parts-returns-in_err-expect-clause-told
class_parts-returns-in_err-expect-clause-told t c =
    let bytes = c.args.bytes.now in
    let tokens = c.args.tokens.now in
    let ts = behind bytes tokens c.args.start in
    token_err_three bytes tokens c.args.start (read_token (is sort (left_parenthesis ∷ [])) ts) (found_as class_view (reads (class_form c.args.room) ts)) c.in_err-expect.field-0.0 c.from_residual.result
    c.in_err-expect.ensures.told c.from_residual.ensures.1 (λ rest e. parts_halts c.args.room ts rest e)

pub class_parts-returns-in_err-first-clause-told : goal.class_parts-returns-in_err-first-clause-told
class_parts-returns-in_err-first-clause-told t c =
    let bytes = c.args.bytes.now in
    let tokens = c.args.tokens.now in
    let ts = behind bytes tokens c.args.start in
    let more = behind bytes tokens (c.args.start + 1) in
    let n : suc c.args.start ≡ c.args.start + 1 = omega arith in
    let e = rw (n) at c.in_ok-expect.ensures.told in
    let h = sym c.is_part.ensures ∙ c.if-is_part.true in
    two_err_three bytes tokens (read c.deeper.result Pattern_of more) (found_as class_view (reads (class_form c.args.room) ts)) c.in_err-first.field-0.0 c.from_residual-in_err-first.result
    c.in_err-first.ensures.told c.from_residual-in_err-first.ensures.1
    (λ rest d. parts_first c.args.room ts more (spelled bytes c.in_ok-expect.field-0) e h rest (ap (λ r. read r Pattern_of more) (sym c.deeper.ensures) ∙ d))

pub class_parts-listed-init : goal.class_parts-listed-init
class_parts-listed-init t c =
    let bytes = c.args.bytes.now in
    let tokens = c.args.tokens.now in
    let ts = behind bytes tokens c.args.start in
    let more = behind bytes tokens (c.args.start + 1) in
    let rest = behind bytes tokens c.in_ok-first.next in
    let n : suc c.args.start ≡ c.args.start + 1 = omega arith in
    let e = rw (n) at c.in_ok-expect.ensures.told in
    let h = sym c.is_part.ensures ∙ c.if-is_part.true in
    let l = c.in_ok-first.ensures.lies in
    record {
      begun = omega arith;
      in_bounds = omega arith;
      few = omega arith;
      grows = parts_begins c.args.room ts more (spelled bytes c.in_ok-expect.field-0) e h rest c.in_ok-first.first c.in_ok-first.first_levels (ap (λ r. read r Pattern_of more) (sym c.deeper.ensures) ∙ c.in_ok-first.ensures.told)
          ∙ rw (c.in_ok-push.ensures.ok, c.new-all.ensures);
    }

pub class_parts-returns-in_err-one-clause-told : goal.class_parts-returns-in_err-one-clause-told
class_parts-returns-in_err-one-clause-told t c =
    let bytes = c.args.bytes.now in
    let tokens = c.args.tokens.now in
    let ts = behind bytes tokens c.listed.at in
    let more = behind bytes tokens (c.listed.at + 1) in
    let h = comes comma c.peek.result ts c.peek.ensures.sort c.listed-test.true in
    let d = token_here bytes tokens c.listed.at (c.listed.at + 1) (comma ∷ []) (omega arith) (c.peek.ensures.present (omega arith)) h in
    two_err_three bytes tokens (read c.deeper-in-listed.result Pattern_of more) (found_as class_view (reads (class_form c.args.room) (behind bytes tokens c.args.start))) c.in_err-one.field-0.0 c.from_residual-in_err-one.result
    c.in_err-one.ensures.told c.from_residual-in_err-one.ensures.1
    (λ rest e. c.listed.invariant.grows ∙ parts_stops c.args.room (c.listed.all, c.listed.levels) ts more rest d.0 h d.1 (ap (λ r. read r Pattern_of more) (sym c.deeper-in-listed.ensures) ∙ e))

pub class_parts-listed-preserved : goal.class_parts-listed-preserved
class_parts-listed-preserved t c =
    let bytes = c.args.bytes.now in
    let tokens = c.args.tokens.now in
    let ts = behind bytes tokens c.listed.at in
    let more = behind bytes tokens (c.listed.at + 1) in
    let rest = behind bytes tokens c.in_ok-one.next in
    let h = comes comma c.peek.result ts c.peek.ensures.sort c.listed-test.true in
    let d = token_here bytes tokens c.listed.at (c.listed.at + 1) (comma ∷ []) (omega arith) (c.peek.ensures.present (omega arith)) h in
    let o = guard_fits (fits c.args.room) part_kinds (head_sort (behind bytes tokens (c.args.start + 1))) (sym c.is_part.ensures ∙ c.if-is_part.true) in
    let l = c.in_ok-one.ensures.lies in
    let m = c.max-levels.ensures in
    let p = c.in_ok-push-2.ensures.ok in
    record {
      begun = omega arith;
      in_bounds = omega arith;
      few = omega arith;
      grows = c.listed.invariant.grows ∙ (parts_goes c.args.room o (c.listed.all, c.listed.levels) ts more rest d.0 c.in_ok-one.one c.in_ok-one.more h d.1 (ap (λ r. read r Pattern_of more) (sym c.deeper-in-listed.ensures) ∙ c.in_ok-one.ensures.told)
          ∙ rw (m, p));
    }

pub class_parts-returns-in_err-close-clause-told : goal.class_parts-returns-in_err-close-clause-told
class_parts-returns-in_err-close-clause-told t c =
    let bytes = c.args.bytes.now in
    let tokens = c.args.tokens.now in
    let ts = behind bytes tokens c.args.start in
    let more = behind bytes tokens (c.args.start + 1) in
    let left = behind bytes tokens c.if-is_part.at in
    let n : suc c.args.start ≡ c.args.start + 1 = omega arith in
    let e = rw (n) at c.in_ok-expect.ensures.told in
    let closing : found_as class_view (reads (class_form c.args.room) ts) ≡ close (c.if-is_part.all, c.if-is_part.levels) left =
    elim c.if-is_part.branch [
      | class_parts-then-is_part+in_ok-first+in_ok-push+else-listed-test w ↦
          w.listed.invariant.grows ∙ (parts_ends c.args.room (w.listed.all, w.listed.levels) (behind bytes tokens w.listed.at) (comes_not comma w.peek.result (behind bytes tokens w.listed.at) w.peek.ensures.sort w.listed-test.false)
          ∙ rw (w.all-is, w.levels-is, w.at-is))
      | class_parts-else-is_part w ↦
          parts_none c.args.room ts more (spelled bytes c.in_ok-expect.field-0) e (sym c.is_part.ensures ∙ w.if-is_part.false) ∙ rw (w.all-is, w.levels-is, w.at-is, c.new-all.ensures)
    ] in
    token_err_three bytes tokens c.if-is_part.at (read_token (is sort (right_parenthesis ∷ [])) left) (found_as class_view (reads (class_form c.args.room) ts)) c.in_err-close.field-0.0 c.from_residual-in_err-close.result
    c.in_err-close.ensures.told c.from_residual-in_err-close.ensures.1 (λ rest d. closing ∙ close_stops (c.if-is_part.all, c.if-is_part.levels) left rest d)

pub class_parts-returns-clause-told : goal.class_parts-returns-clause-told
unfolding spelled
class_parts-returns-clause-told t c =
    let bytes = c.args.bytes.now in
    let tokens = c.args.tokens.now in
    let ts = behind bytes tokens c.args.start in
    let more = behind bytes tokens (c.args.start + 1) in
    let left = behind bytes tokens c.if-is_part.at in
    let n : suc c.args.start ≡ c.args.start + 1 = omega arith in
    let m : suc c.if-is_part.at ≡ c.if-is_part.at + 1 = omega arith in
    let e = rw (n) at c.in_ok-expect.ensures.told in
    let d = rw (m) at c.in_ok-close.ensures.told in
    let closing : found_as class_view (reads (class_form c.args.room) ts) ≡ close (c.if-is_part.all, c.if-is_part.levels) left =
    elim c.if-is_part.branch [
      | class_parts-then-is_part+in_ok-first+in_ok-push+else-listed-test w ↦
          w.listed.invariant.grows ∙ (parts_ends c.args.room (w.listed.all, w.listed.levels) (behind bytes tokens w.listed.at) (comes_not comma w.peek.result (behind bytes tokens w.listed.at) w.peek.ensures.sort w.listed-test.false)
          ∙ rw (w.all-is, w.levels-is, w.at-is))
      | class_parts-else-is_part w ↦
          parts_none c.args.room ts more (spelled bytes c.in_ok-expect.field-0) e (sym c.is_part.ensures ∙ w.if-is_part.false) ∙ rw (w.all-is, w.levels-is, w.at-is, c.new-all.ensures)
    ] in
    closing ∙ close_done (c.if-is_part.all, c.if-is_part.levels) left (behind bytes tokens (c.if-is_part.at + 1)) (spelled bytes c.in_ok-close.close) d

pub named-returns-in_err-kind-clause-told : goal.named-returns-in_err-kind-clause-told
named-returns-in_err-kind-clause-told t c =
    let bytes = c.args.bytes.now in
    let tokens = c.args.tokens.now in
    let ts = behind bytes tokens c.args.start in
    let more = behind bytes tokens (c.args.start + 1) in
    let k = spelled bytes c.args.first in
    let h = sym c.is_ascribed.ensures.found ∙ c.if-is_ascribed.true in
    let d = token_here bytes tokens c.args.start (c.args.start + 1) (colon ∷ []) (omega arith) (c.is_ascribed.ensures.present c.if-is_ascribed.true) (guard_has (fits c.args.room) (colon ∷ []) (head_sort ts) h) in
    two_err bytes tokens (read c.deeper.result Type_term more) (found_as (named_from k) (read c.args.room Name_tail ts)) c.in_err-kind.field-0.0 c.from_residual.result c.in_err-kind.ensures.told c.from_residual.ensures.1
    (λ rest e. name_untyped c.args.room c.requires.open ts more rest k d.0 h d.1 (ap (λ r. read r Type_term more) (sym c.deeper.ensures) ∙ e))

pub named-returns-then-is_ascribed-clause-told : goal.named-returns-then-is_ascribed-clause-told
unfolding spelled
named-returns-then-is_ascribed-clause-told t c =
    let bytes = c.args.bytes.now in
    let tokens = c.args.tokens.now in
    let ts = behind bytes tokens c.args.start in
    let more = behind bytes tokens (c.args.start + 1) in
    let rest = behind bytes tokens c.in_ok-kind.next in
    let k = spelled bytes c.args.first in
    let h = sym c.is_ascribed.ensures.found ∙ c.if-is_ascribed.true in
    let d = token_here bytes tokens c.args.start (c.args.start + 1) (colon ∷ []) (omega arith) (c.is_ascribed.ensures.present c.if-is_ascribed.true) (guard_has (fits c.args.room) (colon ∷ []) (head_sort ts) h) in
    name_typed c.args.room c.requires.open ts more rest k d.0 c.in_ok-kind.kind c.in_ok-kind.levels h d.1 (ap (λ r. read r Type_term more) (sym c.deeper.ensures) ∙ c.in_ok-kind.ensures.told)
    c.in_ok-text.field-0 c.join-span.result (c.in_ok-kind.levels + 1) c.in_ok-text.ensures c.join-span.ensures (omega arith)

pub named-returns-in_err-path-clause-told : goal.named-returns-in_err-path-clause-told
unfolding spelled
named-returns-in_err-path-clause-told t c =
    let bytes = c.args.bytes.now in
    let tokens = c.args.tokens.now in
    let ts = behind bytes tokens c.args.start in
    let k = spelled bytes c.args.first in
    let h = sym c.is_ascribed.ensures.found ∙ c.if-is_ascribed.false in
    let one : c.push.new.self ≡ k.text ∷ [] = c.in_ok-push.ensures.ok ∙ rw (c.new-names.ensures, c.in_ok-text-2.ensures) in
    two_err bytes tokens (path_from (c.push.new.self, k.span) ts) (found_as (named_from k) (read c.args.room Name_tail ts)) c.in_err-path.field-0.0 c.from_residual-in_err-path.result c.in_err-path.ensures.told
    c.from_residual-in_err-path.ensures.1 (λ rest e. name_halts c.args.room c.requires.open ts rest k h (ap (λ x. path_from (x, k.span) ts) (sym one) ∙ e))

pub named-returns-in_err-parts-clause-told : goal.named-returns-in_err-parts-clause-told
unfolding spelled
named-returns-in_err-parts-clause-told t c =
    let bytes = c.args.bytes.now in
    let tokens = c.args.tokens.now in
    let ts = behind bytes tokens c.args.start in
    let rest = behind bytes tokens c.in_ok-path.at in
    let k = spelled bytes c.args.first in
    let h = sym c.is_ascribed.ensures.found ∙ c.if-is_ascribed.false in
    let one : c.push.new.self ≡ k.text ∷ [] = c.in_ok-push.ensures.ok ∙ rw (c.new-names.ensures, c.in_ok-text-2.ensures) in
    let l = name_links c.args.room c.requires.open ts rest k c.in_ok-path.path c.in_ok-path.span h (ap (λ x. path_from (x, k.span) ts) (sym one) ∙ c.in_ok-path.ensures.told) in
    three_err bytes tokens (found_as class_view (reads (class_form c.args.room) rest)) (found_as (named_from k) (read c.args.room Name_tail ts)) c.in_err-parts.field-0.0 c.from_residual-in_err-parts.result
    c.in_err-parts.ensures.told c.from_residual-in_err-parts.ensures.1
    (λ left d. named_stops c.args.room c.requires.open ts rest k c.in_ok-path.path c.in_ok-path.span l left (comes left_parenthesis c.peek.result rest c.peek.ensures.sort c.if-peek-eq-LEFT_PARENTHESIS.true) d)

pub named-returns-then-peek-eq-LEFT_PARENTHESIS-clause-told : goal.named-returns-then-peek-eq-LEFT_PARENTHESIS-clause-told
unfolding spelled
named-returns-then-peek-eq-LEFT_PARENTHESIS-clause-told t c =
    let bytes = c.args.bytes.now in
    let tokens = c.args.tokens.now in
    let ts = behind bytes tokens c.args.start in
    let rest = behind bytes tokens c.in_ok-path.at in
    let left = behind bytes tokens c.in_ok-parts.next in
    let k = spelled bytes c.args.first in
    let h = sym c.is_ascribed.ensures.found ∙ c.if-is_ascribed.false in
    let one : c.push.new.self ≡ k.text ∷ [] = c.in_ok-push.ensures.ok ∙ rw (c.new-names.ensures, c.in_ok-text-2.ensures) in
    let l = name_links c.args.room c.requires.open ts rest k c.in_ok-path.path c.in_ok-path.span h (ap (λ x. path_from (x, k.span) ts) (sym one) ∙ c.in_ok-path.ensures.told) in
    named_class c.args.room c.requires.open ts rest k c.in_ok-path.path c.in_ok-path.span l left c.in_ok-parts.parts c.in_ok-parts.levels c.in_ok-parts.close c.join-span-then-peek-eq-LEFT_PARENTHESIS.result
    (comes left_parenthesis c.peek.result rest c.peek.ensures.sort c.if-peek-eq-LEFT_PARENTHESIS.true) c.in_ok-parts.ensures.told c.join-span-then-peek-eq-LEFT_PARENTHESIS.ensures (c.in_ok-parts.levels + 1) (omega arith)

pub named-returns-then-len-gt1-clause-told : goal.named-returns-then-len-gt1-clause-told
unfolding spelled
named-returns-then-len-gt1-clause-told t c =
    let bytes = c.args.bytes.now in
    let tokens = c.args.tokens.now in
    let ts = behind bytes tokens c.args.start in
    let rest = behind bytes tokens c.in_ok-path.at in
    let k = spelled bytes c.args.first in
    let h = sym c.is_ascribed.ensures.found ∙ c.if-is_ascribed.false in
    let one : c.push.new.self ≡ k.text ∷ [] = c.in_ok-push.ensures.ok ∙ rw (c.new-names.ensures, c.in_ok-text-2.ensures) in
    let l = name_links c.args.room c.requires.open ts rest k c.in_ok-path.path c.in_ok-path.span h (ap (λ x. path_from (x, k.span) ts) (sym one) ∙ c.in_ok-path.ensures.told) in
    named_constant c.args.room c.requires.open ts rest k c.in_ok-path.path c.in_ok-path.span l (comes_not left_parenthesis c.peek.result rest c.peek.ensures.sort c.if-peek-eq-LEFT_PARENTHESIS.false)
    (omega (arith, c.len.ensures, c.if-len-gt1.true))

pub named-returns-clause-told : goal.named-returns-clause-told
unfolding spelled
named-returns-clause-told t c =
    let bytes = c.args.bytes.now in
    let tokens = c.args.tokens.now in
    let ts = behind bytes tokens c.args.start in
    let rest = behind bytes tokens c.in_ok-path.at in
    let k = spelled bytes c.args.first in
    let h = sym c.is_ascribed.ensures.found ∙ c.if-is_ascribed.false in
    let one : c.push.new.self ≡ k.text ∷ [] = c.in_ok-push.ensures.ok ∙ rw (c.new-names.ensures, c.in_ok-text-2.ensures) in
    let l = name_links c.args.room c.requires.open ts rest k c.in_ok-path.path c.in_ok-path.span h (ap (λ x. path_from (x, k.span) ts) (sym one) ∙ c.in_ok-path.ensures.told) in
    named_bind c.args.room c.requires.open ts rest k c.in_ok-path.path c.in_ok-path.span l (comes_not left_parenthesis c.peek.result rest c.peek.ensures.sort c.if-peek-eq-LEFT_PARENTHESIS.false)
    (omega (arith, c.len.ensures, c.if-len-gt1.false)) c.in_ok-bind.field-0 c.in_ok-bind.ensures

pub pattern-returns-in-None-clause-told : goal.pattern-returns-in-None-clause-told
pattern-returns-in-None-clause-told t c =
    let e = behind_end c.args.bytes.now c.args.tokens.now c.args.at c.in-None.ensures.lookup.3 in
    ap (read c.args.room Pattern_of) e ∙ (pattern_none c.args.room c.requires.open ∙ ap Stopped (sym e))

pub pattern-returns-in_err-number-clause-told : goal.pattern-returns-in_err-number-clause-told
pattern-returns-in_err-number-clause-told t c =
    let bytes = c.args.bytes.now in
    let tokens = c.args.tokens.now in
    let k = spelled bytes c.in-Some.token.now in
    let rest = behind bytes tokens (c.args.at + 1) in
    let i = c.in-Some.ensures.lookup in
    let n : suc c.args.at ≡ c.args.at + 1 = omega arith in
    let e : behind bytes tokens c.args.at ≡ k ∷ rest = behind_more bytes tokens c.args.at c.in-Some.token.now i.3.0 i.1 ∙ ap (λ n. k ∷ behind bytes tokens n) n in
    let s : c.peek-sort.result ≡ sort k = c.peek-sort.ensures.sort ∙ ap head_sort e in
    let u = comes_not underscore c.peek-sort.result (k ∷ rest) s c.if-sort-eq-UNDERSCORE.false in
    let m = comes minus c.peek-sort.result (k ∷ rest) s c.if-sort-eq-MINUS.true in
    token_err bytes tokens (c.args.at + 1) (read_token (is sort (number ∷ [])) rest) (read c.args.room Pattern_of (behind bytes tokens c.args.at)) c.in_err-number.field-0.0 c.from_residual.result
    c.in_err-number.ensures.told c.from_residual.ensures.1 (λ left d. ap (read c.args.room Pattern_of) e ∙ pattern_minus_stops c.args.room c.requires.open k rest u m left d)

pub pattern-returns-then-sort-eq-UNDERSCORE-clause-told : goal.pattern-returns-then-sort-eq-UNDERSCORE-clause-told
pattern-returns-then-sort-eq-UNDERSCORE-clause-told t c =
    let bytes = c.args.bytes.now in
    let tokens = c.args.tokens.now in
    let k = spelled bytes c.in-Some.token.now in
    let rest = behind bytes tokens (c.args.at + 1) in
    let i = c.in-Some.ensures.lookup in
    let n : suc c.args.at ≡ c.args.at + 1 = omega arith in
    let e : behind bytes tokens c.args.at ≡ k ∷ rest = behind_more bytes tokens c.args.at c.in-Some.token.now i.3.0 i.1 ∙ ap (λ n. k ∷ behind bytes tokens n) n in
    let s : c.peek-sort.result ≡ sort k = c.peek-sort.ensures.sort ∙ ap head_sort e in
    let u = comes underscore c.peek-sort.result (k ∷ rest) s c.if-sort-eq-UNDERSCORE.true in
    told_same bytes tokens (found_as (any_from k) (reads (any_form c.args.room) rest)) (read c.args.room Pattern_of (behind bytes tokens c.args.at)) c.any.result
    (ap (read c.args.room Pattern_of) e ∙ pattern_any c.args.room c.requires.open k rest u) c.any.ensures.told

pub pattern-returns-in_ok-lexeme-clause-told : goal.pattern-returns-in_ok-lexeme-clause-told
unfolding spelled
pattern-returns-in_ok-lexeme-clause-told t c =
    let bytes = c.args.bytes.now in
    let tokens = c.args.tokens.now in
    let k = spelled bytes c.in-Some.token.now in
    let rest = behind bytes tokens (c.args.at + 1) in
    let i = c.in-Some.ensures.lookup in
    let n : suc c.args.at ≡ c.args.at + 1 = omega arith in
    let two : suc (c.args.at + 1) ≡ c.args.at + 2 = omega arith in
    let e : behind bytes tokens c.args.at ≡ k ∷ rest = behind_more bytes tokens c.args.at c.in-Some.token.now i.3.0 i.1 ∙ ap (λ n. k ∷ behind bytes tokens n) n in
    let s : c.peek-sort.result ≡ sort k = c.peek-sort.ensures.sort ∙ ap head_sort e in
    let u = comes_not underscore c.peek-sort.result (k ∷ rest) s c.if-sort-eq-UNDERSCORE.false in
    let m = comes minus c.peek-sort.result (k ∷ rest) s c.if-sort-eq-MINUS.true in
    let d = rw (two) at c.in_ok-number.ensures.told in
    ap (read c.args.room Pattern_of) e ∙ pattern_negative c.args.room c.requires.open k rest u m (spelled bytes c.in_ok-number.number) (behind bytes tokens (c.args.at + 2)) c.in_ok-lexeme.field-0 c.join-span.result d c.in_ok-lexeme.ensures c.join-span.ensures

pub pattern-returns-in_ok-lexeme-2-clause-told : goal.pattern-returns-in_ok-lexeme-2-clause-told
unfolding spelled
pattern-returns-in_ok-lexeme-2-clause-told t c =
    let bytes = c.args.bytes.now in
    let tokens = c.args.tokens.now in
    let k = spelled bytes c.in-Some.token.now in
    let rest = behind bytes tokens (c.args.at + 1) in
    let i = c.in-Some.ensures.lookup in
    let n : suc c.args.at ≡ c.args.at + 1 = omega arith in
    let e : behind bytes tokens c.args.at ≡ k ∷ rest = behind_more bytes tokens c.args.at c.in-Some.token.now i.3.0 i.1 ∙ ap (λ n. k ∷ behind bytes tokens n) n in
    let s : c.peek-sort.result ≡ sort k = c.peek-sort.ensures.sort ∙ ap head_sort e in
    let u = comes_not underscore c.peek-sort.result (k ∷ rest) s c.if-sort-eq-UNDERSCORE.false in
    let m = comes_not minus c.peek-sort.result (k ∷ rest) s c.if-sort-eq-MINUS.false in
    let l : has literals (sort k) ≡ true = ap (has literals) (sym s) ∙ (sym c.is_literal.ensures ∙ c.if-is_literal.true) in
    ap (read c.args.room Pattern_of) e ∙ pattern_literal c.args.room c.requires.open k rest u m l c.in_ok-lexeme-2.field-0 c.in_ok-lexeme-2.ensures

pub pattern-returns-then-is_name-clause-told : goal.pattern-returns-then-is_name-clause-told
pattern-returns-then-is_name-clause-told t c =
    let bytes = c.args.bytes.now in
    let tokens = c.args.tokens.now in
    let k = spelled bytes c.in-Some.token.now in
    let rest = behind bytes tokens (c.args.at + 1) in
    let i = c.in-Some.ensures.lookup in
    let n : suc c.args.at ≡ c.args.at + 1 = omega arith in
    let e : behind bytes tokens c.args.at ≡ k ∷ rest = behind_more bytes tokens c.args.at c.in-Some.token.now i.3.0 i.1 ∙ ap (λ n. k ∷ behind bytes tokens n) n in
    let s : c.peek-sort.result ≡ sort k = c.peek-sort.ensures.sort ∙ ap head_sort e in
    let u = comes_not underscore c.peek-sort.result (k ∷ rest) s c.if-sort-eq-UNDERSCORE.false in
    let m = comes_not minus c.peek-sort.result (k ∷ rest) s c.if-sort-eq-MINUS.false in
    let l : has literals (sort k) ≡ false = ap (has literals) (sym s) ∙ (sym c.is_literal.ensures ∙ c.if-is_literal.false) in
    let h : has names (sort k) ≡ true = ap (has names) (sym s) ∙ (sym c.is_name.ensures ∙ c.if-is_name.true) in
    told_same bytes tokens (found_as (named_from k) (read c.args.room Name_tail rest)) (read c.args.room Pattern_of (behind bytes tokens c.args.at)) c.named.result
    (ap (read c.args.room Pattern_of) e ∙ pattern_named c.args.room c.requires.open k rest u m l h) c.named.ensures.told

pub pattern-returns-else-is_name-clause-told : goal.pattern-returns-else-is_name-clause-told
pattern-returns-else-is_name-clause-told t c =
    let bytes = c.args.bytes.now in
    let tokens = c.args.tokens.now in
    let k = spelled bytes c.in-Some.token.now in
    let rest = behind bytes tokens (c.args.at + 1) in
    let i = c.in-Some.ensures.lookup in
    let n : suc c.args.at ≡ c.args.at + 1 = omega arith in
    let e : behind bytes tokens c.args.at ≡ k ∷ rest = behind_more bytes tokens c.args.at c.in-Some.token.now i.3.0 i.1 ∙ ap (λ n. k ∷ behind bytes tokens n) n in
    let s : c.peek-sort.result ≡ sort k = c.peek-sort.ensures.sort ∙ ap head_sort e in
    let u = comes_not underscore c.peek-sort.result (k ∷ rest) s c.if-sort-eq-UNDERSCORE.false in
    let m = comes_not minus c.peek-sort.result (k ∷ rest) s c.if-sort-eq-MINUS.false in
    let l : has literals (sort k) ≡ false = ap (has literals) (sym s) ∙ (sym c.is_literal.ensures ∙ c.if-is_literal.false) in
    let h : has names (sort k) ≡ false = ap (has names) (sym s) ∙ (sym c.is_name.ensures ∙ c.if-is_name.false) in
    ap (read c.args.room Pattern_of) e ∙ (pattern_other c.args.room c.requires.open k rest u m l h ∙ ap Stopped (sym e))
