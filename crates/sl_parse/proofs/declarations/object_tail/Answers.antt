use Rattle.std.proofs.Common.{◌∷◌, [], ◌+◌, true, false, arith}
use Rattle.sl_tree.specs.Sorts.{spelled, left_brace, extends_word, quoted, symbol}
use Rattle.sl_parse_expr.specs.Told.{behind}
use Rattle.sl_parse_expr.proofs.Telling.{comes, comes_not, token_here}
use Rattle.sl_parse.proofs.Telling.{err_told}
use Rattle.sl_parse.proofs.DeclarationsRead.{object_found, has_peeked, object_extends, object_none, enum_done, object_done, object_names, object_members, object_parents, object_braced}
use Rattle.sl_parse.proofs.declarations.object_tail.Goals as goal

pub returns-in_err-parents-clause-told : goal.returns-in_err-parents-clause-told
returns-in_err-parents-clause-told c =
    let file = c.args.file in
    let bytes = c.args.bytes.now in
    let tokens = c.args.tokens.now in
    let k = spelled bytes c.args.token in
    let ts = behind bytes tokens c.args.start in
    let h = comes extends_word c.peek-sort.result ts c.peek-sort.ensures.sort c.if-sort-eq-EXTENDS.true in
    let e = c.in_err-parents.field-0.0 in
    err_told file bytes tokens (object_found k ts) e c.from_residual-in_err-parents.result
    (object_parents file bytes tokens k ts e h c.in_err-parents.ensures.told)
    c.from_residual-in_err-parents.ensures.1

pub returns-in_err-all-clause-told : goal.returns-in_err-all-clause-told
returns-in_err-all-clause-told c =
    let file = c.args.file in
    let bytes = c.args.bytes.now in
    let tokens = c.args.tokens.now in
    let k = spelled bytes c.args.token in
    let ts = behind bytes tokens c.args.start in
    let h = comes extends_word c.peek-sort.result ts c.peek-sort.ensures.sort c.if-sort-eq-EXTENDS.true in
    let e = c.in_err-all.field-0.0 in
    err_told file bytes tokens (object_found k ts) e c.from_residual-in_err-all.result
    (object_braced file bytes tokens k ts e h c.in_ok-parents.parents (behind bytes tokens c.in_ok-parents.at) c.in_ok-parents.ensures.told
    c.in_err-all.ensures.told)
    c.from_residual-in_err-all.ensures.1

pub returns-then-sort-eq-EXTENDS-clause-told : goal.returns-then-sort-eq-EXTENDS-clause-told
unfolding spelled
returns-then-sort-eq-EXTENDS-clause-told c =
    let bytes = c.args.bytes.now in
    let tokens = c.args.tokens.now in
    let k = spelled bytes c.args.token in
    let ts = behind bytes tokens c.args.start in
    let h = comes extends_word c.peek-sort.result ts c.peek-sort.ensures.sort c.if-sort-eq-EXTENDS.true in
    object_extends k c.in_ok-name.name ts (behind bytes tokens c.in_ok-parents.at) (behind bytes tokens c.in_ok-all.next) c.in_ok-parents.parents c.in_ok-all.all
    c.in_ok-name.ensures h c.in_ok-parents.ensures.told c.in_ok-all.ensures.told

pub returns-then-sort-ne-LEFT_BRACE-clause-told : goal.returns-then-sort-ne-LEFT_BRACE-clause-told
unfolding spelled
returns-then-sort-ne-LEFT_BRACE-clause-told c =
    let bytes = c.args.bytes.now in
    let tokens = c.args.tokens.now in
    let k = spelled bytes c.args.token in
    let ts = behind bytes tokens c.args.start in
    let h = comes_not extends_word c.peek-sort.result ts c.peek-sort.ensures.sort c.if-sort-eq-EXTENDS.false in
    object_none k c.in_ok-name.name ts c.new.result c.in_ok-name.ensures c.new.ensures h
    (comes_not left_brace c.peek-sort.result ts c.peek-sort.ensures.sort c.if-sort-ne-LEFT_BRACE.true)

pub returns-in_err-all-2-clause-told : goal.returns-in_err-all-2-clause-told
returns-in_err-all-2-clause-told c =
    let file = c.args.file in
    let bytes = c.args.bytes.now in
    let tokens = c.args.tokens.now in
    let k = spelled bytes c.args.token in
    let ts = behind bytes tokens c.args.start in
    let h = comes_not extends_word c.peek-sort.result ts c.peek-sort.ensures.sort c.if-sort-eq-EXTENDS.false in
    let us = behind bytes tokens (c.args.start + 1) in
    let l = comes left_brace c.peek-sort.result ts c.peek-sort.ensures.sort c.if-sort-ne-LEFT_BRACE.false in
    let d = token_here bytes tokens c.args.start (c.args.start + 1) (left_brace ∷ []) (omega arith) (c.peek-sort.ensures.present (omega arith)) l in
    let q = has_peeked (quoted ∷ symbol ∷ []) c.peek.result us c.is_enum_name.result true c.peek.ensures.sort c.is_enum_name.ensures c.if-is_enum_name.true in
    let e = c.in_err-all-2.field-0.0 in
    err_told file bytes tokens (object_found k ts) e c.from_residual-in_err-all-2.result
    (object_names k ts us d.0 h l d.1 file bytes tokens e q c.in_err-all-2.ensures.told)
    c.from_residual-in_err-all-2.ensures.1

pub returns-then-is_enum_name-clause-told : goal.returns-then-is_enum_name-clause-told
unfolding spelled
returns-then-is_enum_name-clause-told c =
    let bytes = c.args.bytes.now in
    let tokens = c.args.tokens.now in
    let k = spelled bytes c.args.token in
    let ts = behind bytes tokens c.args.start in
    let h = comes_not extends_word c.peek-sort.result ts c.peek-sort.ensures.sort c.if-sort-eq-EXTENDS.false in
    let us = behind bytes tokens (c.args.start + 1) in
    let l = comes left_brace c.peek-sort.result ts c.peek-sort.ensures.sort c.if-sort-ne-LEFT_BRACE.false in
    let d = token_here bytes tokens c.args.start (c.args.start + 1) (left_brace ∷ []) (omega arith) (c.peek-sort.ensures.present (omega arith)) l in
    let q = has_peeked (quoted ∷ symbol ∷ []) c.peek.result us c.is_enum_name.result true c.peek.ensures.sort c.is_enum_name.ensures c.if-is_enum_name.true in
    enum_done k ts us d.0 h l d.1 c.in_ok-name.name c.in_ok-all-2.all (behind bytes tokens c.in_ok-all-2.next) c.in_ok-name.ensures q c.in_ok-all-2.ensures.told

pub returns-in_err-all-3-clause-told : goal.returns-in_err-all-3-clause-told
returns-in_err-all-3-clause-told c =
    let file = c.args.file in
    let bytes = c.args.bytes.now in
    let tokens = c.args.tokens.now in
    let k = spelled bytes c.args.token in
    let ts = behind bytes tokens c.args.start in
    let h = comes_not extends_word c.peek-sort.result ts c.peek-sort.ensures.sort c.if-sort-eq-EXTENDS.false in
    let us = behind bytes tokens (c.args.start + 1) in
    let l = comes left_brace c.peek-sort.result ts c.peek-sort.ensures.sort c.if-sort-ne-LEFT_BRACE.false in
    let d = token_here bytes tokens c.args.start (c.args.start + 1) (left_brace ∷ []) (omega arith) (c.peek-sort.ensures.present (omega arith)) l in
    let q = has_peeked (quoted ∷ symbol ∷ []) c.peek.result us c.is_enum_name.result false c.peek.ensures.sort c.is_enum_name.ensures c.if-is_enum_name.false in
    let e = c.in_err-all-3.field-0.0 in
    err_told file bytes tokens (object_found k ts) e c.from_residual-in_err-all-3.result
    (object_members k ts us d.0 h l d.1 file bytes tokens e q c.in_err-all-3.ensures.told)
    c.from_residual-in_err-all-3.ensures.1

pub returns-clause-told : goal.returns-clause-told
unfolding spelled
returns-clause-told c =
    let bytes = c.args.bytes.now in
    let tokens = c.args.tokens.now in
    let k = spelled bytes c.args.token in
    let ts = behind bytes tokens c.args.start in
    let h = comes_not extends_word c.peek-sort.result ts c.peek-sort.ensures.sort c.if-sort-eq-EXTENDS.false in
    let us = behind bytes tokens (c.args.start + 1) in
    let l = comes left_brace c.peek-sort.result ts c.peek-sort.ensures.sort c.if-sort-ne-LEFT_BRACE.false in
    let d = token_here bytes tokens c.args.start (c.args.start + 1) (left_brace ∷ []) (omega arith) (c.peek-sort.ensures.present (omega arith)) l in
    let q = has_peeked (quoted ∷ symbol ∷ []) c.peek.result us c.is_enum_name.result false c.peek.ensures.sort c.is_enum_name.ensures c.if-is_enum_name.false in
    object_done k ts us d.0 h l d.1 c.in_ok-name.name c.new-2.result c.in_ok-all-3.all (behind bytes tokens c.in_ok-all-3.next)
    c.in_ok-name.ensures c.new-2.ensures q c.in_ok-all-3.ensures.told
