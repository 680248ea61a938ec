use Rattle.sl_tree.specs.Sorts.{extends_word}
use Rattle.sl_parse_expr.specs.Told.{behind}
use Rattle.sl_parse_expr.proofs.Telling.{comes, comes_not}
use Rattle.sl_parse.proofs.ParamsRead.{parents_none, parents_told}
use Rattle.sl_parse.proofs.params.parents.Goals as goal

pub returns-then-peek-ne-EXTENDS-clause-told : goal.returns-then-peek-ne-EXTENDS-clause-told
returns-then-peek-ne-EXTENDS-clause-told c =
    let ts = behind c.args.bytes.now c.args.tokens.now c.args.start in
    rw (c.new.ensures) (parents_none ts (comes_not extends_word c.peek.result ts c.peek.ensures.sort c.if-peek-ne-EXTENDS.true))

pub returns-clause-told : goal.returns-clause-told
returns-clause-told c =
    let bytes = c.args.bytes.now in
    let tokens = c.args.tokens.now in
    let ts = behind bytes tokens c.args.start in
    parents_told c.args.file bytes tokens ts c.extends.result (comes extends_word c.peek.result ts c.peek.ensures.sort c.if-peek-ne-EXTENDS.false) c.extends.ensures.told
