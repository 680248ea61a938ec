use Rattle.sl_tree.specs.Sorts.{spelled, left_bracket, left_parenthesis}
use Rattle.sl_parse_expr.specs.Told.{behind}
use Rattle.sl_parse.proofs.Telling.{err_told}
use Rattle.sl_parse.proofs.DeclarationsRead.{class_found, none_of_two, one_of_two, ints_done, class_done, class_types, class_params, class_parents, class_methods}
use Rattle.sl_parse.proofs.declarations.class_tail.Goals as goal

pub returns-then-sort-ne-LEFT_PARENTHESIS-clause-told : goal.returns-then-sort-ne-LEFT_PARENTHESIS-clause-told
unfolding spelled
returns-then-sort-ne-LEFT_PARENTHESIS-clause-told c =
    let bytes = c.args.bytes.now in
    let tokens = c.args.tokens.now in
    let k = spelled bytes c.args.token in
    let ts = behind bytes tokens c.args.start in
    ints_done k c.in_ok-name.name ts c.in_ok-name.ensures
    (none_of_two left_bracket left_parenthesis c.peek-sort.result ts c.peek-sort.ensures.sort c.if-sort-ne-LEFT_BRACKET.true c.if-sort-ne-LEFT_PARENTHESIS.true)

pub returns-in_err-types-clause-told : goal.returns-in_err-types-clause-told
returns-in_err-types-clause-told c =
    let file = c.args.file in
    let bytes = c.args.bytes.now in
    let tokens = c.args.tokens.now in
    let k = spelled bytes c.args.token in
    let ts = behind bytes tokens c.args.start in
    let h = one_of_two left_bracket left_parenthesis c.peek-sort.result ts c.peek-sort.ensures.sort c.else-sort-ne-LEFT_BRACKET.either in
    let e = c.in_err-types.field-0.0 in
    err_told file bytes tokens (class_found k ts) e c.from_residual-in_err-types.result
    (class_types file bytes tokens k ts e h c.in_err-types.ensures.told)
    c.from_residual-in_err-types.ensures.1

pub returns-in_err-params-clause-told : goal.returns-in_err-params-clause-told
returns-in_err-params-clause-told c =
    let file = c.args.file in
    let bytes = c.args.bytes.now in
    let tokens = c.args.tokens.now in
    let k = spelled bytes c.args.token in
    let ts = behind bytes tokens c.args.start in
    let h = one_of_two left_bracket left_parenthesis c.peek-sort.result ts c.peek-sort.ensures.sort c.else-sort-ne-LEFT_BRACKET.either in
    let e = c.in_err-params.field-0.0 in
    err_told file bytes tokens (class_found k ts) e c.from_residual-in_err-params.result
    (class_params file bytes tokens k ts e h c.in_ok-types.types (behind bytes tokens c.in_ok-types.at) c.in_ok-types.ensures.told c.in_err-params.ensures.told)
    c.from_residual-in_err-params.ensures.1

pub returns-in_err-parents-clause-told : goal.returns-in_err-parents-clause-told
returns-in_err-parents-clause-told c =
    let file = c.args.file in
    let bytes = c.args.bytes.now in
    let tokens = c.args.tokens.now in
    let k = spelled bytes c.args.token in
    let ts = behind bytes tokens c.args.start in
    let h = one_of_two left_bracket left_parenthesis c.peek-sort.result ts c.peek-sort.ensures.sort c.else-sort-ne-LEFT_BRACKET.either in
    let e = c.in_err-parents.field-0.0 in
    err_told file bytes tokens (class_found k ts) e c.from_residual-in_err-parents.result
    (class_parents file bytes tokens k ts e h c.in_ok-types.types (behind bytes tokens c.in_ok-types.at) c.in_ok-types.ensures.told
    c.in_ok-params.params (behind bytes tokens c.in_ok-params.at) c.in_ok-params.ensures.told c.in_err-parents.ensures.told)
    c.from_residual-in_err-parents.ensures.1

pub returns-in_err-methods-clause-told : goal.returns-in_err-methods-clause-told
returns-in_err-methods-clause-told c =
    let file = c.args.file in
    let bytes = c.args.bytes.now in
    let tokens = c.args.tokens.now in
    let k = spelled bytes c.args.token in
    let ts = behind bytes tokens c.args.start in
    let h = one_of_two left_bracket left_parenthesis c.peek-sort.result ts c.peek-sort.ensures.sort c.else-sort-ne-LEFT_BRACKET.either in
    let e = c.in_err-methods.field-0.0 in
    err_told file bytes tokens (class_found k ts) e c.from_residual-in_err-methods.result
    (class_methods file bytes tokens k ts e h c.in_ok-types.types (behind bytes tokens c.in_ok-types.at) c.in_ok-types.ensures.told
    c.in_ok-params.params (behind bytes tokens c.in_ok-params.at) c.in_ok-params.ensures.told
    c.in_ok-parents.parents (behind bytes tokens c.in_ok-parents.at) c.in_ok-parents.ensures.told c.in_err-methods.ensures.told)
    c.from_residual-in_err-methods.ensures.1

pub returns-clause-told : goal.returns-clause-told
unfolding spelled
returns-clause-told c =
    let bytes = c.args.bytes.now in
    let tokens = c.args.tokens.now in
    let k = spelled bytes c.args.token in
    let ts = behind bytes tokens c.args.start in
    let h = one_of_two left_bracket left_parenthesis c.peek-sort.result ts c.peek-sort.ensures.sort c.else-sort-ne-LEFT_BRACKET.either in
    class_done k c.in_ok-name.name ts (behind bytes tokens c.in_ok-types.at) (behind bytes tokens c.in_ok-params.at) (behind bytes tokens c.in_ok-parents.at)
    (behind bytes tokens c.in_ok-methods.next)
    c.in_ok-types.types c.in_ok-params.params c.in_ok-parents.parents c.in_ok-methods.methods c.in_ok-name.ensures h
    c.in_ok-types.ensures.told c.in_ok-params.ensures.told c.in_ok-parents.ensures.told c.in_ok-methods.ensures.told
