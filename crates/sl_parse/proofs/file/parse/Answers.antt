use Rattle.std.proofs.Common.{arith, sym, ◌∙◌, inr}
use Rattle.sl_parse.specs.TreeRules.{broken_in}
use Rattle.sl_parse.proofs.FirstFault.{none_is}
use Rattle.sl_parse.proofs.FilesAnswered.{answered_package, answered_library, answered_items, answered_left, answered_whole, err_parsed}
use Rattle.sl_parse.proofs.file.parse.Goals as goal

pub returns-in_err-package : goal.returns-in_err-package
returns-in_err-package c =
    err_parsed c.args.file c.args.bytes.now c.args.tokens.now c.in_err-package.field-0.0 c.from_residual.result
    (answered_package c.args.file c.args.bytes.now c.args.tokens.now c.in_err-package.field-0.0 c.in_err-package.ensures.told) c.from_residual.ensures.1

pub returns-in_err-at : goal.returns-in_err-at
returns-in_err-at c =
    err_parsed c.args.file c.args.bytes.now c.args.tokens.now c.in_err-at.field-0.0 c.from_residual-in_err-at.result
    (answered_library c.args.file c.args.bytes.now c.args.tokens.now c.in_ok-package.package c.in_ok-package.at c.in_ok-package.ensures.told c.in_err-at.field-0.0 c.in_err-at.ensures.told) c.from_residual-in_err-at.ensures.1

pub returns-in_err-imports : goal.returns-in_err-imports
returns-in_err-imports c =
    err_parsed c.args.file c.args.bytes.now c.args.tokens.now c.in_err-imports.field-0.0 c.from_residual-in_err-imports.result
    (answered_items c.args.file c.args.bytes.now c.args.tokens.now c.in_ok-package.package c.in_ok-package.at c.in_ok-at.at c.in_ok-package.ensures.told c.in_ok-at.ensures.told c.in_err-imports.field-0.0 c.in_err-imports.ensures.told)
    c.from_residual-in_err-imports.ensures.1

pub returns-then-next-tokens : goal.returns-then-next-tokens
returns-then-next-tokens c =
    answered_left c.args.file c.args.bytes.now c.args.tokens.now c.in_ok-package.package c.in_ok-package.at c.in_ok-at.at c.in_ok-package.ensures.told c.in_ok-at.ensures.told
    c.in_ok-imports.imports c.in_ok-imports.decls c.in_ok-imports.next c.in_ok-imports.ensures.told c.broken.result c.broken.ensures c.if-next-tokens.true

pub returns-in-None : goal.returns-in-None
returns-in-None c =
    let bytes = c.args.bytes.now in
    let tokens = c.args.tokens.now in
    let tree = answered_whole c.args.file bytes tokens c.in_ok-package.package c.in_ok-package.at c.in_ok-at.at c.in_ok-package.ensures.told c.in_ok-at.ensures.told c.in_ok-imports.imports c.in_ok-imports.decls c.in_ok-imports.next
    c.span_between-span.result c.in_ok-imports.ensures.told (λ used e. c.span_between-span.ensures bytes used e) (omega (arith, c.if-next-tokens.false)) c.in_ok-feeds.feeds c.in_ok-feeds.ensures
    in (tree, none_is (broken_in (record { «package» = c.in_ok-package.package; imports = c.in_ok-imports.imports; decls = c.in_ok-imports.decls; span = c.span_between-span.result; feeds = c.in_ok-feeds.feeds })) (sym c.in_file.ensures ∙ c.in-None.is))

pub returns-in-Some : goal.returns-in-Some
returns-in-Some c =
    let bytes = c.args.bytes.now in
    let tokens = c.args.tokens.now in
    let tree = answered_whole c.args.file bytes tokens c.in_ok-package.package c.in_ok-package.at c.in_ok-at.at c.in_ok-package.ensures.told c.in_ok-at.ensures.told c.in_ok-imports.imports c.in_ok-imports.decls c.in_ok-imports.next
    c.span_between-span.result c.in_ok-imports.ensures.told (λ used e. c.span_between-span.ensures bytes used e) (omega (arith, c.if-next-tokens.false)) c.in_ok-feeds.feeds c.in_ok-feeds.ensures
    in inr (record { «package» = c.in_ok-package.package; imports = c.in_ok-imports.imports; decls = c.in_ok-imports.decls; span = c.span_between-span.result; feeds = c.in_ok-feeds.feeds }, tree, sym c.in_file.ensures ∙ c.in-Some.is)
