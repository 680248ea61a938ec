use Rattle.std.proofs.Common.{◌≡◌, ◌+◌, suc, sym, ◌∙◌, inl, inr, arith}
use Rattle.sl_tree.specs.Sorts.{spelled}
use Rattle.sl_parse_expr.specs.Told.{behind}
use Rattle.sl_parse.specs.Names.{Param_of}
use Rattle.sl_parse.specs.Told.{found_tree}
use Rattle.sl_parse.proofs.Telling.{err_told}
use Rattle.sl_parse.proofs.ParamsRead.{IsNameAt, word_read, param_read, param_unnamed, param_unmarked, param_untyped}
use Rattle.sl_parse.proofs.params.param.Goals as goal
use Rattle.sl_parse.proofs.params.param.Goals.{then-is_declaring, else-is_declaring}

pub returns-in_err-token-clause-told : goal.returns-in_err-token-clause-told
returns-in_err-token-clause-told c =
    let bytes = c.args.bytes.now in
    let tokens = c.args.tokens.now in
    let ts = behind bytes tokens c.args.start in
    let us = behind bytes tokens c.if-is_declaring.at in
    let here : IsNameAt c.args.start c.if-is_declaring.at c.peek-first.result =
    elim c.if-is_declaring.branch [
      | then-is_declaring w ↦ inl (sym c.is_declaring.ensures ∙ w.if-is_declaring.true, w.at-is)
      | else-is_declaring w ↦ inr (sym c.is_declaring.ensures ∙ w.if-is_declaring.false, w.at-is)
    ] in
    let word = word_read bytes tokens c.args.start c.if-is_declaring.at c.peek-first.result c.peek-first.ensures.sort here in
    err_told c.args.file bytes tokens (λ b. found_tree b Param_of ts) c.in_err-token.field-0.0 c.from_residual.result
    (param_unnamed ts us c.peek-first.result word c.args.file bytes tokens c.in_err-token.field-0.0 c.in_err-token.ensures.told) c.from_residual.ensures.1

pub returns-in_err-expect-clause-told : goal.returns-in_err-expect-clause-told
returns-in_err-expect-clause-told c =
    let bytes = c.args.bytes.now in
    let tokens = c.args.tokens.now in
    let ts = behind bytes tokens c.args.start in
    let us = behind bytes tokens c.if-is_declaring.at in
    let more = behind bytes tokens (c.if-is_declaring.at + 1) in
    let here : IsNameAt c.args.start c.if-is_declaring.at c.peek-first.result =
    elim c.if-is_declaring.branch [
      | then-is_declaring w ↦ inl (sym c.is_declaring.ensures ∙ w.if-is_declaring.true, w.at-is)
      | else-is_declaring w ↦ inr (sym c.is_declaring.ensures ∙ w.if-is_declaring.false, w.at-is)
    ] in
    let word = word_read bytes tokens c.args.start c.if-is_declaring.at c.peek-first.result c.peek-first.ensures.sort here in
    let n : suc c.if-is_declaring.at ≡ c.if-is_declaring.at + 1 = omega arith in
    let name = rw (n) at c.in_ok-token.ensures.told in
    err_told c.args.file bytes tokens (λ b. found_tree b Param_of ts) c.in_err-expect.field-0.0 c.from_residual-in_err-expect.result
    (param_unmarked ts us c.peek-first.result word c.args.file bytes tokens c.in_err-expect.field-0.0 more (spelled bytes c.in_ok-token.token) name c.in_err-expect.ensures.told)
    c.from_residual-in_err-expect.ensures.1

pub returns-in_err-kind-clause-told : goal.returns-in_err-kind-clause-told
returns-in_err-kind-clause-told c =
    let bytes = c.args.bytes.now in
    let tokens = c.args.tokens.now in
    let ts = behind bytes tokens c.args.start in
    let us = behind bytes tokens c.if-is_declaring.at in
    let more = behind bytes tokens (c.if-is_declaring.at + 1) in
    let rest = behind bytes tokens (c.if-is_declaring.at + 2) in
    let here : IsNameAt c.args.start c.if-is_declaring.at c.peek-first.result =
    elim c.if-is_declaring.branch [
      | then-is_declaring w ↦ inl (sym c.is_declaring.ensures ∙ w.if-is_declaring.true, w.at-is)
      | else-is_declaring w ↦ inr (sym c.is_declaring.ensures ∙ w.if-is_declaring.false, w.at-is)
    ] in
    let word = word_read bytes tokens c.args.start c.if-is_declaring.at c.peek-first.result c.peek-first.ensures.sort here in
    let n : suc c.if-is_declaring.at ≡ c.if-is_declaring.at + 1 = omega arith in
    let m : suc (c.if-is_declaring.at + 1) ≡ c.if-is_declaring.at + 2 = omega arith in
    let name = rw (n) at c.in_ok-token.ensures.told in
    let mark = rw (m) at c.in_ok-expect.ensures.told in
    err_told c.args.file bytes tokens (λ b. found_tree b Param_of ts) c.in_err-kind.field-0.0 c.from_residual-in_err-kind.result
    (param_untyped ts us c.peek-first.result word c.args.file bytes tokens c.in_err-kind.field-0.0 more rest (spelled bytes c.in_ok-token.token) (spelled bytes c.in_ok-expect.field-0) name mark c.in_err-kind.ensures.told)
    c.from_residual-in_err-kind.ensures.1

pub returns-clause-told : goal.returns-clause-told
unfolding spelled
returns-clause-told c =
    let bytes = c.args.bytes.now in
    let tokens = c.args.tokens.now in
    let ts = behind bytes tokens c.args.start in
    let us = behind bytes tokens c.if-is_declaring.at in
    let more = behind bytes tokens (c.if-is_declaring.at + 1) in
    let rest = behind bytes tokens (c.if-is_declaring.at + 2) in
    let here : IsNameAt c.args.start c.if-is_declaring.at c.peek-first.result =
    elim c.if-is_declaring.branch [
      | then-is_declaring w ↦ inl (sym c.is_declaring.ensures ∙ w.if-is_declaring.true, w.at-is)
      | else-is_declaring w ↦ inr (sym c.is_declaring.ensures ∙ w.if-is_declaring.false, w.at-is)
    ] in
    let word = word_read bytes tokens c.args.start c.if-is_declaring.at c.peek-first.result c.peek-first.ensures.sort here in
    let n : suc c.if-is_declaring.at ≡ c.if-is_declaring.at + 1 = omega arith in
    let m : suc (c.if-is_declaring.at + 1) ≡ c.if-is_declaring.at + 2 = omega arith in
    let name = rw (n) at c.in_ok-token.ensures.told in
    let mark = rw (m) at c.in_ok-expect.ensures.told in
    rw (c.in_ok-name.ensures, c.keyword-keyword.ensures)
    (param_read ts us c.peek-first.result word more rest (behind bytes tokens c.in_ok-kind.next) (spelled bytes c.in_ok-token.token) (spelled bytes c.in_ok-expect.field-0) c.in_ok-kind.kind name mark c.in_ok-kind.ensures.told)
