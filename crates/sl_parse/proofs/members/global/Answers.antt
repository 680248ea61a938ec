use Rattle.std.proofs.Common.{◌≡◌, ◌+◌, ◌==◌, suc, ap, arith}
use Rattle.sl_grammar.specs.Law.{found_as}
use Rattle.sl_tree.specs.Sorts.{spelled, var_word}
use Rattle.sl_parse_expr.specs.Told.{behind}
use Rattle.sl_parse.specs.Names.{global_form}
use Rattle.sl_parse.specs.Values.{global_from}
use Rattle.sl_parse.specs.Told.{reads}
use Rattle.sl_parse.proofs.Telling.{err_told}
use Rattle.sl_parse.proofs.MembersRead.{global_word, global_name, global_type, global_equals, global_value, global_whole}
use Rattle.sl_parse.proofs.members.global.Goals as goal

pub returns-in_err-word-clause-told : goal.returns-in_err-word-clause-told
returns-in_err-word-clause-told c =
    let bytes = c.args.bytes.now in
    let tokens = c.args.tokens.now in
    let ts = behind bytes tokens c.args.start in
    err_told c.args.file bytes tokens (λ b. found_as (global_from c.args.overrides) (reads b global_form ts)) c.in_err-word.field-0.0 c.from_residual.result
    (global_word c.args.file bytes tokens c.args.overrides ts c.in_err-word.field-0.0 c.in_err-word.ensures.told) c.from_residual.ensures.1

pub returns-in_err-token-clause-told : goal.returns-in_err-token-clause-told
returns-in_err-token-clause-told c =
    let bytes = c.args.bytes.now in
    let tokens = c.args.tokens.now in
    let ts = behind bytes tokens c.args.start in
    let n : suc c.args.start ≡ c.args.start + 1 = omega arith in
    err_told c.args.file bytes tokens (λ b. found_as (global_from c.args.overrides) (reads b global_form ts)) c.in_err-token.field-0.0 c.from_residual-in_err-token.result
    (global_name c.args.file bytes tokens c.args.overrides ts (spelled bytes c.in_ok-word.word) (behind bytes tokens (c.args.start + 1)) (rw (n) at c.in_ok-word.ensures.told)
    c.in_err-token.field-0.0 c.in_err-token.ensures.told) c.from_residual-in_err-token.ensures.1

pub returns-in_err-of-clause-told : goal.returns-in_err-of-clause-told
returns-in_err-of-clause-told c =
    let bytes = c.args.bytes.now in
    let tokens = c.args.tokens.now in
    let ts = behind bytes tokens c.args.start in
    let n : suc c.args.start ≡ c.args.start + 1 = omega arith in
    let m : suc (c.args.start + 1) ≡ c.args.start + 2 = omega arith in
    err_told c.args.file bytes tokens (λ b. found_as (global_from c.args.overrides) (reads b global_form ts)) c.in_err-of.field-0.0 c.from_residual-in_err-of.result
    (global_type c.args.file bytes tokens c.args.overrides ts (spelled bytes c.in_ok-word.word) (behind bytes tokens (c.args.start + 1)) (rw (n) at c.in_ok-word.ensures.told)
    (spelled bytes c.in_ok-token.token) (behind bytes tokens (c.args.start + 2)) (rw (m) at c.in_ok-token.ensures.told) c.in_err-of.field-0.0 c.in_err-of.ensures.told) c.from_residual-in_err-of.ensures.1

pub returns-in-Err-clause-told : goal.returns-in-Err-clause-told
returns-in-Err-clause-told c =
    let bytes = c.args.bytes.now in
    let tokens = c.args.tokens.now in
    let ts = behind bytes tokens c.args.start in
    let n : suc c.args.start ≡ c.args.start + 1 = omega arith in
    let m : suc (c.args.start + 1) ≡ c.args.start + 2 = omega arith in
    global_equals c.args.file bytes tokens c.args.overrides ts (spelled bytes c.in_ok-word.word) (behind bytes tokens (c.args.start + 1)) (rw (n) at c.in_ok-word.ensures.told)
    (spelled bytes c.in_ok-token.token) (behind bytes tokens (c.args.start + 2)) (rw (m) at c.in_ok-token.ensures.told)
    c.in_ok-of.of (behind bytes tokens c.in_ok-of.at) c.in_ok-of.ensures.told c.in-Err.fault c.in-Err.ensures.told

pub returns-in-Err-expr-clause-told : goal.returns-in-Err-expr-clause-told
returns-in-Err-expr-clause-told c =
    let bytes = c.args.bytes.now in
    let tokens = c.args.tokens.now in
    let ts = behind bytes tokens c.args.start in
    let n : suc c.args.start ≡ c.args.start + 1 = omega arith in
    let m : suc (c.args.start + 1) ≡ c.args.start + 2 = omega arith in
    let l : suc c.in_ok-of.at ≡ c.in_ok-of.at + 1 = omega arith in
    global_value c.args.file bytes tokens c.args.overrides ts (spelled bytes c.in_ok-word.word) (behind bytes tokens (c.args.start + 1)) (rw (n) at c.in_ok-word.ensures.told)
    (spelled bytes c.in_ok-token.token) (behind bytes tokens (c.args.start + 2)) (rw (m) at c.in_ok-token.ensures.told)
    c.in_ok-of.of (behind bytes tokens c.in_ok-of.at) c.in_ok-of.ensures.told
    (spelled bytes c.in_default.field-0) (behind bytes tokens (c.in_ok-of.at + 1)) (rw (l) at c.in_default.ensures.told) c.in-Err-expr.fault c.in-Err-expr.ensures.told

pub returns-clause-told : goal.returns-clause-told
unfolding spelled
returns-clause-told c =
    let bytes = c.args.bytes.now in
    let tokens = c.args.tokens.now in
    let ts = behind bytes tokens c.args.start in
    let n : suc c.args.start ≡ c.args.start + 1 = omega arith in
    let m : suc (c.args.start + 1) ≡ c.args.start + 2 = omega arith in
    let l : suc c.in_ok-of.at ≡ c.in_ok-of.at + 1 = omega arith in
    global_whole c.args.overrides (spelled bytes c.in_ok-word.word) (spelled bytes c.in_ok-token.token) (spelled bytes c.in_default.field-0) c.in_ok-of.of c.in-Ok.read.0
    ts (behind bytes tokens (c.args.start + 1)) (behind bytes tokens (c.args.start + 2)) (behind bytes tokens c.in_ok-of.at) (behind bytes tokens (c.in_ok-of.at + 1)) (behind bytes tokens c.in-Ok.read.1)
    (c.sort-assigned.result == var_word) c.in_ok-name.name (rw (n) at c.in_ok-word.ensures.told) (rw (m) at c.in_ok-token.ensures.told) c.in_ok-of.ensures.told
    (rw (l) at c.in_default.ensures.told) c.in-Ok.ensures.told (ap (λ z. z == var_word) c.sort-assigned.ensures) c.in_ok-name.ensures
