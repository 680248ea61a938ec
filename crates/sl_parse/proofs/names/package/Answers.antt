use Rattle.std.proofs.Common.{◌≡◌, ◌∷◌, [], ◌+◌, suc, refl, arith}
use Rattle.sl_tree.specs.Sorts.{spelled, package_word}
use Rattle.sl_parse_expr.specs.Told.{behind}
use Rattle.sl_parse_expr.proofs.Behind.{present}
use Rattle.sl_parse_expr.proofs.Telling.{comes, comes_not, token_here}
use Rattle.sl_parse.specs.Names.{Package}
use Rattle.sl_parse.specs.Told.{found_tree}
use Rattle.sl_parse.proofs.Telling.{err_told}
use Rattle.sl_parse.proofs.PackagesRead.{package_none, package_read, package_unnamed, package_unended}
use Rattle.sl_parse.proofs.names.package.Goals as goal

pub returns-then-peek-ne-PACKAGE-clause-told : goal.returns-then-peek-ne-PACKAGE-clause-told
returns-then-peek-ne-PACKAGE-clause-told c =
    let ts = behind c.args.bytes.now c.args.tokens.now c.args.start in
    rw (c.new.ensures) (package_none ts (comes_not package_word c.peek.result ts c.peek.ensures.sort c.if-peek-ne-PACKAGE.true))

pub returns-in_err-path-clause-told : goal.returns-in_err-path-clause-told
returns-in_err-path-clause-told c =
    let bytes = c.args.bytes.now in
    let tokens = c.args.tokens.now in
    let ts = behind bytes tokens c.args.start in
    let more = behind bytes tokens (c.args.start + 1) in
    let h = comes package_word c.peek.result ts c.peek.ensures.sort c.if-peek-ne-PACKAGE.false in
    let d = token_here bytes tokens c.args.start (c.args.start + 1) (package_word ∷ []) (omega arith) (present bytes tokens c.args.start (package_word ∷ []) refl h) h in
    err_told c.args.file bytes tokens (λ b. found_tree b Package ts) c.in_err-path.field-0.0 c.from_residual.result
    (package_unnamed ts more d.0 h d.1 c.args.file bytes tokens c.in_err-path.field-0.0 c.in_err-path.ensures.told) c.from_residual.ensures.1

pub returns-in_err-expect-clause-told : goal.returns-in_err-expect-clause-told
returns-in_err-expect-clause-told c =
    let bytes = c.args.bytes.now in
    let tokens = c.args.tokens.now in
    let ts = behind bytes tokens c.args.start in
    let more = behind bytes tokens (c.args.start + 1) in
    let h = comes package_word c.peek.result ts c.peek.ensures.sort c.if-peek-ne-PACKAGE.false in
    let d = token_here bytes tokens c.args.start (c.args.start + 1) (package_word ∷ []) (omega arith) (present bytes tokens c.args.start (package_word ∷ []) refl h) h in
    err_told c.args.file bytes tokens (λ b. found_tree b Package ts) c.in_err-expect.field-0.0 c.from_residual-in_err-expect.result
    (package_unended ts more d.0 h d.1 c.args.file bytes tokens c.in_err-expect.field-0.0 (behind bytes tokens c.in_ok-path.at) c.in_ok-path.path c.in_ok-path.ensures.told c.in_err-expect.ensures.told)
    c.from_residual-in_err-expect.ensures.1

pub returns-clause-told : goal.returns-clause-told
returns-clause-told c =
    let bytes = c.args.bytes.now in
    let tokens = c.args.tokens.now in
    let ts = behind bytes tokens c.args.start in
    let more = behind bytes tokens (c.args.start + 1) in
    let h = comes package_word c.peek.result ts c.peek.ensures.sort c.if-peek-ne-PACKAGE.false in
    let d = token_here bytes tokens c.args.start (c.args.start + 1) (package_word ∷ []) (omega arith) (present bytes tokens c.args.start (package_word ∷ []) refl h) h in
    let n : suc c.in_ok-path.at ≡ c.in_ok-path.at + 1 = omega arith in
    let end = rw (n) at c.in_ok-expect.ensures.told in
    package_read ts more d.0 h d.1 (behind bytes tokens c.in_ok-path.at) (behind bytes tokens (c.in_ok-path.at + 1)) c.in_ok-path.path (spelled bytes c.in_ok-expect.field-0) c.in_ok-path.ensures.told end
