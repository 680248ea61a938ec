use Rattle.sl_parse_expr.specs.Told.{behind}
use Rattle.sl_parse.specs.Names.{Decl_of}
use Rattle.sl_parse.specs.Told.{found_tree}
use Rattle.sl_parse.proofs.Telling.{err_told}
use Rattle.sl_parse.proofs.DeclarationsRead.{decl_done, decl_notes, decl_kind_fault}
use Rattle.sl_parse.proofs.declarations.decl.Goals as goal

pub returns-in_err-notes-clause-told : goal.returns-in_err-notes-clause-told
returns-in_err-notes-clause-told c =
    let file = c.args.file in
    let bytes = c.args.bytes.now in
    let tokens = c.args.tokens.now in
    let ts = behind bytes tokens c.args.start in
    err_told file bytes tokens (λ b. found_tree b Decl_of ts) c.in_err-notes.field-0.0 c.from_residual.result
    (decl_notes file bytes tokens ts c.in_err-notes.field-0.0 c.in_err-notes.ensures.told) c.from_residual.ensures.1

pub returns-in_err-kind-clause-told : goal.returns-in_err-kind-clause-told
returns-in_err-kind-clause-told c =
    let file = c.args.file in
    let bytes = c.args.bytes.now in
    let tokens = c.args.tokens.now in
    let ts = behind bytes tokens c.args.start in
    err_told file bytes tokens (λ b. found_tree b Decl_of ts) c.in_err-kind.field-0.0 c.from_residual-in_err-kind.result
    (decl_kind_fault file bytes tokens ts c.in_err-kind.field-0.0 c.in_ok-notes.notes (behind bytes tokens c.in_ok-notes.at) c.in_ok-notes.ensures.told
    c.in_err-kind.ensures.told)
    c.from_residual-in_err-kind.ensures.1

pub returns-clause-told : goal.returns-clause-told
returns-clause-told c =
    let bytes = c.args.bytes.now in
    let tokens = c.args.tokens.now in
    decl_done (behind bytes tokens c.args.start) (behind bytes tokens c.in_ok-notes.at) (behind bytes tokens c.in_ok-kind.next)
    c.in_ok-notes.notes c.in_ok-kind.kind c.span_between-span.result
    c.in_ok-notes.ensures.told c.in_ok-kind.ensures.told (λ used e. c.span_between-span.ensures bytes used e)
