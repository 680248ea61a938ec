use Rattle.std.proofs.Common.{[], ◌∷◌, ◌++◌, ap, ◌∙◌, refl, subst, map, codes}
use Rattle.c_write.specs.Written.{Writes}
use Rattle.std.specs.List.{flat_map}
use Rattle.c_tree.specs.Flat.{lexemes, flat_arguments, flat_block, flat_stmt}
use Rattle.c_tree.proofs.Variants.{flat_of_assign, flat_of_call, flat_of_if, flat_of_if_else, flat_of_loop, flat_of_count, flat_of_break, flat_of_return, flat_of_put, flat_of_get}
use Rattle.c_write.proofs.Writing.{wrote_then, writes_then, wrote_none, wrote_same, wrote_more, wrote_all, flat_each}
use Rattle.c_write.proofs.trees.+write_tree.Goals as goal

pub write_block-loop-stmt-preserved : goal.write_block-loop-stmt-preserved
write_block-loop-stmt-preserved t c =
    wrote_more flat_stmt c.args.stmts.now c.loop-stmt.stmt-index c.stmt-item.result c.stmt-item.result
    c.loop-stmt-test.true c.stmt-item.is c.loop-stmt.invariant c.in_ok-write_stmt.ensures

pub write_block-returns : goal.write_block-returns
write_block-returns t c =
    let stmts = c.args.stmts.now in
    let inner = wrote_same (flat_map (λ tokens. tokens) (map flat_stmt stmts)) (flat_each flat_stmt stmts) (wrote_all flat_stmt stmts stmts c.loop-stmt.stmt-index c.loop-stmt-test.false refl c.loop-stmt.invariant)
    in writes_then (lexemes (codes "}" ∷ [])) c.token-2.new.self c.token-2.result (wrote_then c.in_ok-token.ensures inner) c.token-2.ensures

pub write_stmt-returns-in_ok-write_expr-in-Assign : goal.write_stmt-returns-in_ok-write_expr-in-Assign
write_stmt-returns-in_ok-write_expr-in-Assign t c =
    rw (c.in-Assign.is, flat_of_assign c.in-Assign.place c.in-Assign.value)
    (writes_then (lexemes (codes ";" ∷ [])) c.token-in-Assign.new.self c.token-in-Assign.result
    (wrote_then (wrote_then c.in_ok-write_place-in-Assign.ensures c.in_ok-token-in-Assign.ensures) c.in_ok-write_expr-in-Assign.ensures) c.token-in-Assign.ensures)

pub write_stmt-returns-in_ok-write_arguments-in-Call : goal.write_stmt-returns-in_ok-write_arguments-in-Call
write_stmt-returns-in_ok-write_arguments-in-Call t c =
    let named = wrote_same (lexemes (c.in-Call.name ∷ codes "(" ∷ [])) (ap (λ name. lexemes (name ∷ codes "(" ∷ [])) (c.as_bytes.ensures.value ∙ c.as_str.ensures)) c.in_ok-tokens-in-Call.ensures in
    let arguments = wrote_same (flat_arguments c.in-Call.arguments) (ap flat_arguments c.as_slice.ensures) c.in_ok-write_arguments-in-Call.ensures
    in rw (c.in-Call.is, flat_of_call c.in-Call.target c.in-Call.name c.in-Call.arguments)
    (writes_then (lexemes (codes ")" ∷ codes ";" ∷ [])) c.tokens-in-Call.new.self c.tokens-in-Call.result
    (wrote_then (wrote_then c.in_ok-write_target-in-Call.ensures named) arguments) c.tokens-in-Call.ensures)

pub write_stmt-returns-in-None : goal.write_stmt-returns-in-None
write_stmt-returns-in-None t c =
    let block = wrote_same (flat_block (map flat_stmt c.in-If.chosen)) (ap (λ stmts. flat_block (map flat_stmt stmts)) c.as_slice-in-If.ensures) c.in_ok-write_block-in-If.ensures
    in rw (c.in-If.is, c.in-None.is, flat_of_if c.in-If.test c.in-If.chosen)
    (wrote_then (wrote_then (wrote_then (wrote_then c.in_ok-tokens-in-If.ensures c.in_ok-write_expr-in-If.ensures) c.in_ok-token-in-If.ensures) block) (wrote_none c.write_block.new.writer))

pub write_stmt-returns-in_ok-token-in-Some : goal.write_stmt-returns-in_ok-token-in-Some
write_stmt-returns-in_ok-token-in-Some t c =
    let block = wrote_same (flat_block (map flat_stmt c.in-If.chosen)) (ap (λ stmts. flat_block (map flat_stmt stmts)) c.as_slice-in-If.ensures) c.in_ok-write_block-in-If.ensures in
    let second = flat_block (map flat_stmt c.in-Some.stmts) in
    let written : Writes second c.token-in-Some.new.self c.write_block-in-Some.new.writer c.write_block-in-Some.result =
    subst (λ stmts. Writes (flat_block (map flat_stmt stmts)) c.token-in-Some.new.self c.write_block-in-Some.new.writer c.write_block-in-Some.result) c.as_slice-in-Some.ensures c.write_block-in-Some.ensures
    in rw (c.in-If.is, c.in-Some.is, flat_of_if_else c.in-If.test c.in-If.chosen c.in-Some.stmts)
    (writes_then (lexemes (codes "else" ∷ []) ++ second) c.write_block-in-Some.new.writer c.write_block-in-Some.result
    (wrote_then (wrote_then (wrote_then c.in_ok-tokens-in-If.ensures c.in_ok-write_expr-in-If.ensures) c.in_ok-token-in-If.ensures) block)
    (writes_then second c.write_block-in-Some.new.writer c.write_block-in-Some.result c.in_ok-token-in-Some.ensures written))

pub write_stmt-returns-in_ok-tokens-in-Loop : goal.write_stmt-returns-in_ok-tokens-in-Loop
write_stmt-returns-in_ok-tokens-in-Loop t c =
    let block = subst (λ stmts. Writes (flat_block (map flat_stmt stmts)) c.tokens-in-Loop.new.self c.write_block-in-Loop.new.writer c.write_block-in-Loop.result) c.as_slice-in-Loop.ensures c.write_block-in-Loop.ensures
    in rw (c.in-Loop.is, flat_of_loop c.in-Loop.body)
    (writes_then (flat_block (map flat_stmt c.in-Loop.body)) c.write_block-in-Loop.new.writer c.write_block-in-Loop.result c.in_ok-tokens-in-Loop.ensures block)

pub write_stmt-returns-in_ok-write_for-in-Count : goal.write_stmt-returns-in_ok-write_for-in-Count
write_stmt-returns-in_ok-write_for-in-Count t c =
    let block = subst (λ stmts. Writes (flat_block (map flat_stmt stmts)) c.write_for.new.writer c.write_block-in-Count.new.writer c.write_block-in-Count.result) c.as_slice-in-Count.ensures c.write_block-in-Count.ensures
    in rw (c.in-Count.is, flat_of_count c.in-Count.set c.in-Count.tested c.in-Count.count c.in-Count.raised c.in-Count.body)
    (writes_then (flat_block (map flat_stmt c.in-Count.body)) c.write_block-in-Count.new.writer c.write_block-in-Count.result c.in_ok-write_for-in-Count.ensures block)

pub write_stmt-returns-in-Break : goal.write_stmt-returns-in-Break
write_stmt-returns-in-Break t c = rw (c.in-Break.is, flat_of_break) c.tokens-in-Break.ensures

pub write_stmt-returns-in_ok-write_returned-in-Return : goal.write_stmt-returns-in_ok-write_returned-in-Return
write_stmt-returns-in_ok-write_returned-in-Return t c =
    rw (c.in-Return.is, flat_of_return c.in-Return.value)
    (writes_then (lexemes (codes ";" ∷ [])) c.token-in-Return-2.new.self c.token-in-Return-2.result
    (wrote_then c.in_ok-token-in-Return.ensures c.in_ok-write_returned-in-Return.ensures) c.token-in-Return-2.ensures)

pub write_stmt-returns-in_ok-write_place-in-Get : goal.write_stmt-returns-in_ok-write_place-in-Get
write_stmt-returns-in_ok-write_place-in-Get t c =
    rw (c.in-Get.is, flat_of_get c.in-Get.place)
    (writes_then (lexemes (codes "=" ∷ codes "sl_get" ∷ codes "(" ∷ codes ")" ∷ codes ";" ∷ [])) c.tokens-in-Get.new.self c.tokens-in-Get.result
    c.in_ok-write_place-in-Get.ensures c.tokens-in-Get.ensures)

pub write_stmt-returns-in_ok-write_expr-in-Put : goal.write_stmt-returns-in_ok-write_expr-in-Put
write_stmt-returns-in_ok-write_expr-in-Put t c =
    rw (c.in-Put.is, flat_of_put c.in-Put.value)
    (writes_then (lexemes (codes ")" ∷ codes ";" ∷ [])) c.tokens-in-Put-2.new.self c.tokens-in-Put-2.result
    (wrote_then c.in_ok-tokens-in-Put.ensures c.in_ok-write_expr-in-Put.ensures) c.tokens-in-Put-2.ensures)
