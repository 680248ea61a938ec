use Rattle.sl_tree.specs.Sorts.{spelled}
use Rattle.sl_parse_expr.specs.Told.{behind}
use Rattle.sl_parse.proofs.Telling.{err_told}
use Rattle.sl_parse.proofs.DeclarationsRead.{trait_found, trait_done, trait_types, trait_parents, trait_methods}
use Rattle.sl_parse.proofs.declarations.trait_tail.Goals as goal

pub returns-in_err-types-clause-told : goal.returns-in_err-types-clause-told
returns-in_err-types-clause-told c =
    let file = c.args.file in
    let bytes = c.args.bytes.now in
    let tokens = c.args.tokens.now in
    let k = spelled bytes c.args.token in
    let ts = behind bytes tokens c.args.start in
    err_told file bytes tokens (trait_found k ts) c.in_err-types.field-0.0 c.from_residual-in_err-types.result
    (trait_types file bytes tokens k ts c.in_err-types.field-0.0 c.in_err-types.ensures.told) c.from_residual-in_err-types.ensures.1

pub returns-in_err-parents-clause-told : goal.returns-in_err-parents-clause-told
returns-in_err-parents-clause-told c =
    let file = c.args.file in
    let bytes = c.args.bytes.now in
    let tokens = c.args.tokens.now in
    let k = spelled bytes c.args.token in
    let ts = behind bytes tokens c.args.start in
    err_told file bytes tokens (trait_found k ts) c.in_err-parents.field-0.0 c.from_residual-in_err-parents.result
    (trait_parents file bytes tokens k ts c.in_err-parents.field-0.0 c.in_ok-types.types (behind bytes tokens c.in_ok-types.at) c.in_ok-types.ensures.told
    c.in_err-parents.ensures.told)
    c.from_residual-in_err-parents.ensures.1

pub returns-in_err-methods-clause-told : goal.returns-in_err-methods-clause-told
returns-in_err-methods-clause-told c =
    let file = c.args.file in
    let bytes = c.args.bytes.now in
    let tokens = c.args.tokens.now in
    let k = spelled bytes c.args.token in
    let ts = behind bytes tokens c.args.start in
    err_told file bytes tokens (trait_found k ts) c.in_err-methods.field-0.0 c.from_residual-in_err-methods.result
    (trait_methods file bytes tokens k ts c.in_err-methods.field-0.0 c.in_ok-types.types (behind bytes tokens c.in_ok-types.at) c.in_ok-types.ensures.told
    c.in_ok-parents.parents (behind bytes tokens c.in_ok-parents.at) c.in_ok-parents.ensures.told c.in_err-methods.ensures.told)
    c.from_residual-in_err-methods.ensures.1

pub returns-clause-told : goal.returns-clause-told
unfolding spelled
returns-clause-told c =
    let bytes = c.args.bytes.now in
    let tokens = c.args.tokens.now in
    trait_done (spelled bytes c.args.token) c.in_ok-name.name (behind bytes tokens c.args.start)
    (behind bytes tokens c.in_ok-types.at) (behind bytes tokens c.in_ok-parents.at) (behind bytes tokens c.in_ok-methods.next)
    c.in_ok-types.types c.in_ok-parents.parents c.in_ok-methods.methods c.in_ok-name.ensures
    c.in_ok-types.ensures.told c.in_ok-parents.ensures.told c.in_ok-methods.ensures.told
