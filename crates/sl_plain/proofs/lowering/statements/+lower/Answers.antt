use Rattle.std.proofs.Common.{[], ◌∷◌, ◌++◌, sym, subst, ap, ◌∙◌, arith, flat_map}
use Rattle.sl_core.specs.declared.tree.CoreStmt.TheVariants as core
use Rattle.sl_plain.specs.Lowered.{variable, path_of, store_right, put_text, leave_unless}
use Rattle.sl_plain.specs.Numbering.{lowered_all}
use Rattle.sl_plain.specs.Reach.{AreLines, lines_in}
use Rattle.sl_plain.proofs.Forms.{lowered_of_declare, lowered_of_assign, lowered_of_print, lowered_of_print_text, lowered_of_if, lowered_of_while, lowered_of_assert, lowered_of_halt, ok_so, ok_known, lowered_more, for_lowered, lines_of_declare, lines_of_assign, lines_of_print, lines_of_print_text, lines_of_if, lines_of_while, lines_of_for, lines_of_assert, lines_of_halt, no_lines, one_line, lines_then, lines_more}
use Rattle.sl_plain.proofs.lowering.statements.+lower.Goals as goal

pub lower_block-loop-stmt-preserved : goal.lower_block-loop-stmt-preserved
lower_block-loop-stmt-preserved t c = (
  λ names numbered. rw c.in_ok-append.ensures
      (lowered_more names c.args.taken c.args.stmts.now c.loop-stmt.stmt-index c.stmt-item.result c.stmt-item.result c.loop-stmt.low c.in_ok-lower_stmt.field-0
      c.loop-stmt-test.true c.stmt-item.is (c.loop-stmt.invariant.0 names numbered) (c.in_ok-lower_stmt.ensures.value names numbered)),
  lines_more c.args.stmts.now c.loop-stmt.stmt-index c.stmt-item.result c.stmt-item.result c.loop-stmt-test.true c.stmt-item.is c.loop-stmt.invariant.1 c.in_ok-lower_stmt.ensures.lines,
)

pub lower_stmt-returns-in_ok-store_right-in-Declare-clause-value : goal.lower_stmt-returns-in_ok-store_right-in-Declare-clause-value
lower_stmt-returns-in_ok-store_right-in-Declare-clause-value t c =
    rw c.in-Declare.is
    (ok_so _ _ c.one.result c.one.ensures (λ low made names numbered.
    made
    ∙ (ap (λ s. s ∷ []) (c.in_ok-store_right-in-Declare.ensures.value names numbered ∙ ap (λ path. store_right names path c.in-Declare.first) (c.lower_place-place.ensures names numbered ∙ ap (path_of names) c.as_slice.ensures))
    ∙ sym (lowered_of_declare names c.args.taken c.in-Declare.field-0 c.in-Declare.name c.in-Declare.field-2 c.in-Declare.first))))

pub lower_stmt-returns-in_ok-store_right-in-Assign-clause-value : goal.lower_stmt-returns-in_ok-store_right-in-Assign-clause-value
lower_stmt-returns-in_ok-store_right-in-Assign-clause-value t c =
    rw c.in-Assign.is
    (ok_so _ _ c.one-in-Assign.result c.one-in-Assign.ensures (λ low made names numbered.
    made
    ∙ (ap (λ s. s ∷ []) (c.in_ok-store_right-in-Assign.ensures.value names numbered ∙ ap (λ path. store_right names path c.in-Assign.value) (c.lower_place-place-in-Assign.ensures names numbered ∙ ap (path_of names) c.as_slice-in-Assign.ensures))
    ∙ sym (lowered_of_assign names c.args.taken c.in-Assign.name c.in-Assign.value))))

pub lower_stmt-returns-in-Print-clause-value : goal.lower_stmt-returns-in-Print-clause-value
lower_stmt-returns-in-Print-clause-value t c =
    rw c.in-Print.is
    (ok_so _ _ c.lower_print.result c.lower_print.ensures (λ low made names numbered. made names numbered ∙ sym (lowered_of_print names c.args.taken c.in-Print.atom)))

pub lower_stmt-returns-in_ok-put_text_line-in-PrintText-clause-value : goal.lower_stmt-returns-in_ok-put_text_line-in-PrintText-clause-value
lower_stmt-returns-in_ok-put_text_line-in-PrintText-clause-value t c =
    rw c.in-PrintText.is
    (ok_so _ _ c.one-in-PrintText.result c.one-in-PrintText.ensures (λ low made names numbered.
    made
    ∙ (ap (λ s. s ∷ []) (c.in_ok-put_text_line-in-PrintText.ensures ∙ ap (λ text. put_text (text ++ 10 ∷ [])) c.as_slice-in-PrintText.ensures)
    ∙ sym (lowered_of_print_text names c.args.taken c.in-PrintText.text))))

pub lower_stmt-returns-in_ok-other-in-If-clause-value : goal.lower_stmt-returns-in_ok-other-in-If-clause-value
lower_stmt-returns-in_ok-other-in-If-clause-value t c =
    rw c.in-If.is
    (ok_so _ _ c.one-in-If.result c.one-in-If.ensures (λ low made names numbered.
    let test = c.in_ok-test-in-If.ensures names numbered in
    let chosen = c.in_ok-chosen-in-If.ensures.value names numbered ∙ ap (λ stmts. lowered_all names stmts c.args.taken) c.as_slice-in-If.ensures in
    let other = c.in_ok-other-in-If.ensures.value names numbered ∙ ap (λ stmts. lowered_all names stmts c.args.taken) c.as_slice-in-If-2.ensures
    in made ∙ ((λ k. core.If (test k) (chosen k) (other k) ∷ []) ∙ sym (lowered_of_if names c.args.taken c.in-If.test c.in-If.chosen c.in-If.other))))

pub lower_stmt-returns-in_ok-while_of-in-While-clause-value : goal.lower_stmt-returns-in_ok-while_of-in-While-clause-value
lower_stmt-returns-in_ok-while_of-in-While-clause-value t c =
    rw c.in-While.is
    (ok_so _ _ c.one-in-While.result c.one-in-While.ensures (λ low made names numbered.
    let test = c.in_ok-test-in-While.ensures names numbered in
    let body = c.in_ok-body-in-While.ensures.value names numbered ∙ ap (λ stmts. lowered_all names stmts c.args.taken) c.as_slice-in-While.ensures
    in made ∙ (ap (λ s. s ∷ []) c.in_ok-while_of-in-While.ensures ∙ ((λ k. core.Loop (leave_unless (test k) ∷ body k) ∷ []) ∙ sym (lowered_of_while names c.args.taken c.in-While.test c.in-While.body)))))

pub lower_stmt-returns-in_ok-body-in-For-clause-value : goal.lower_stmt-returns-in_ok-body-in-For-clause-value
lower_stmt-returns-in_ok-body-in-For-clause-value t c =
    rw c.in-For.is
    (ok_so _ _ c.for_of.result c.for_of.ensures (λ low made names numbered.
    made
    ∙ for_lowered names c.args.taken c.in-For.name c.in-For.first c.in-For.end c.in-For.body c.in-For.line c.in_ok-bound-in-For.bound c.in_ok-next-in-For.field-0
    (variable c.number_of.result) (variable c.in_ok-unnamed-in-For.field-0) (variable c.in_ok-unnamed-in-For-2.field-0) c.lower_atom-first.result c.lower_atom-end.result c.in_ok-body-in-For.body
    c.in_ok-bound-in-For.ensures c.in_ok-next-in-For.ensures
    (c.number_of.ensures names numbered ∙ ap (path_of names) c.as_slice-in-For.ensures) (c.in_ok-unnamed-in-For.ensures names numbered) (c.in_ok-unnamed-in-For-2.ensures names numbered)
    (c.lower_atom-first.ensures names numbered) (c.lower_atom-end.ensures names numbered)
    (c.in_ok-body-in-For.ensures.value names numbered ∙ ap (λ stmts. lowered_all names stmts c.in_ok-next-in-For.field-0) c.as_slice-in-For-2.ensures)))

pub lower_stmt-returns-in_ok-other-in-Assert-clause-value : goal.lower_stmt-returns-in_ok-other-in-Assert-clause-value
lower_stmt-returns-in_ok-other-in-Assert-clause-value t c =
    rw c.in-Assert.is
    (ok_so _ _ c.one-in-Assert-2.result c.one-in-Assert-2.ensures (λ low made names numbered.
    let test = c.in_ok-test-in-Assert.ensures names numbered in
    let none = c.new.ensures in
    let halts = c.in_ok-other-in-Assert.ensures
    in made ∙ ((λ k. core.If (test k) (none k) (halts k) ∷ []) ∙ sym (lowered_of_assert names c.args.taken c.in-Assert.test c.in-Assert.line))))

pub lower_stmt-returns-in-Halt-clause-value : goal.lower_stmt-returns-in-Halt-clause-value
lower_stmt-returns-in-Halt-clause-value t c =
    rw c.in-Halt.is
    (ok_so _ _ c.one-in-Halt.result c.one-in-Halt.ensures (λ low made names numbered. made ∙ sym (lowered_of_halt names c.args.taken c.in-Halt.field-0 c.in-Halt.line)))

pub lower_stmt-returns-in_ok-store_right-in-Declare-clause-lines : goal.lower_stmt-returns-in_ok-store_right-in-Declare-clause-lines
lower_stmt-returns-in_ok-store_right-in-Declare-clause-lines t c =
    rw (c.in-Declare.is, lines_of_declare c.in-Declare.field-0 c.in-Declare.name c.in-Declare.field-2 c.in-Declare.first) (ok_known c.one.result c.in_ok-store_right-in-Declare.ensures.lines)

pub lower_stmt-returns-in_ok-store_right-in-Assign-clause-lines : goal.lower_stmt-returns-in_ok-store_right-in-Assign-clause-lines
lower_stmt-returns-in_ok-store_right-in-Assign-clause-lines t c =
    rw (c.in-Assign.is, lines_of_assign c.in-Assign.name c.in-Assign.value) (ok_known c.one-in-Assign.result c.in_ok-store_right-in-Assign.ensures.lines)

pub lower_stmt-returns-in-Print-clause-lines : goal.lower_stmt-returns-in-Print-clause-lines
lower_stmt-returns-in-Print-clause-lines t c = rw (c.in-Print.is, lines_of_print c.in-Print.atom) (ok_known c.lower_print.result no_lines)

pub lower_stmt-returns-in_ok-put_text_line-in-PrintText-clause-lines : goal.lower_stmt-returns-in_ok-put_text_line-in-PrintText-clause-lines
lower_stmt-returns-in_ok-put_text_line-in-PrintText-clause-lines t c = rw (c.in-PrintText.is, lines_of_print_text c.in-PrintText.text) (ok_known c.one-in-PrintText.result no_lines)

pub lower_stmt-returns-in_ok-other-in-If-clause-lines : goal.lower_stmt-returns-in_ok-other-in-If-clause-lines
lower_stmt-returns-in_ok-other-in-If-clause-lines t c =
    let chosen = subst (λ stmts. AreLines (flat_map lines_in stmts)) c.as_slice-in-If.ensures c.in_ok-chosen-in-If.ensures.lines in
    let other = subst (λ stmts. AreLines (flat_map lines_in stmts)) c.as_slice-in-If-2.ensures c.in_ok-other-in-If.ensures.lines
    in rw (c.in-If.is, lines_of_if c.in-If.test c.in-If.chosen c.in-If.other) (ok_known c.one-in-If.result (lines_then (flat_map lines_in c.in-If.chosen) (flat_map lines_in c.in-If.other) chosen other))

pub lower_stmt-returns-in_ok-while_of-in-While-clause-lines : goal.lower_stmt-returns-in_ok-while_of-in-While-clause-lines
lower_stmt-returns-in_ok-while_of-in-While-clause-lines t c =
    rw (c.in-While.is, lines_of_while c.in-While.test c.in-While.body) (ok_known c.one-in-While.result (subst (λ stmts. AreLines (flat_map lines_in stmts)) c.as_slice-in-While.ensures c.in_ok-body-in-While.ensures.lines))

pub lower_stmt-returns-in_ok-body-in-For-clause-lines : goal.lower_stmt-returns-in_ok-body-in-For-clause-lines
lower_stmt-returns-in_ok-body-in-For-clause-lines t c =
    let body = subst (λ stmts. AreLines (flat_map lines_in stmts)) c.as_slice-in-For-2.ensures c.in_ok-body-in-For.ensures.lines
    in rw (c.in-For.is, lines_of_for c.in-For.name c.in-For.first c.in-For.end c.in-For.body c.in-For.line) (ok_known c.for_of.result (lines_then (c.in-For.line ∷ []) (flat_map lines_in c.in-For.body) (one_line c.in-For.line (omega arith)) body))

pub lower_stmt-returns-in_ok-other-in-Assert-clause-lines : goal.lower_stmt-returns-in_ok-other-in-Assert-clause-lines
lower_stmt-returns-in_ok-other-in-Assert-clause-lines t c = rw (c.in-Assert.is, lines_of_assert c.in-Assert.test c.in-Assert.line) (ok_known c.one-in-Assert-2.result (one_line c.in-Assert.line (omega arith)))

pub lower_stmt-returns-in-Halt-clause-lines : goal.lower_stmt-returns-in-Halt-clause-lines
lower_stmt-returns-in-Halt-clause-lines t c = rw (c.in-Halt.is, lines_of_halt c.in-Halt.field-0 c.in-Halt.line) (ok_known c.one-in-Halt.result (one_line c.in-Halt.line (omega arith)))
