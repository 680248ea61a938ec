use Rattle.std.proofs.Common.{◌==◌}
use Rattle.sl_tree.specs.Sorts.{override_word}
use Rattle.sl_parse_expr.specs.Told.{behind}
use Rattle.sl_parse.specs.Names.{Member}
use Rattle.sl_parse.specs.Told.{found_tree}
use Rattle.sl_parse.proofs.Telling.{err_told}
use Rattle.sl_parse.proofs.MembersRead.{Overrides, overrides_so, overrides_not, member_notes, member_kind, member_whole}
use Rattle.sl_parse.proofs.members.member.Goals as goal
use Rattle.sl_parse.proofs.members.member.Goals.{then-overrides, else-overrides}

pub returns-in_err-notes-clause-told : goal.returns-in_err-notes-clause-told
returns-in_err-notes-clause-told c =
    let bytes = c.args.bytes.now in
    let tokens = c.args.tokens.now in
    let ts = behind bytes tokens c.args.start in
    err_told c.args.file bytes tokens (λ b. found_tree b (Member c.args.globals) ts) c.in_err-notes.field-0.0 c.from_residual.result
    (member_notes c.args.file bytes tokens c.args.globals ts c.in_err-notes.field-0.0 c.in_err-notes.ensures.told) c.from_residual.ensures.1

pub returns-in_err-kind-clause-told : goal.returns-in_err-kind-clause-told
returns-in_err-kind-clause-told c =
    let bytes = c.args.bytes.now in
    let tokens = c.args.tokens.now in
    let ts = behind bytes tokens c.args.start in
    let us = behind bytes tokens c.in_ok-notes.at in
    let vs = behind bytes tokens c.if-overrides.at in
    let o : Overrides (c.peek-overrides.result == override_word) us vs = elim c.if-overrides.branch [
      | then-overrides w ↦ overrides_so bytes tokens c.in_ok-notes.at c.if-overrides.at c.peek-overrides.result c.peek-overrides.ensures.sort c.peek-overrides.ensures.present w.if-overrides.true w.at-is
      | else-overrides w ↦ overrides_not bytes tokens c.in_ok-notes.at c.if-overrides.at c.peek-overrides.result c.peek-overrides.ensures.sort w.if-overrides.false w.at-is
    ] in
    err_told c.args.file bytes tokens (λ b. found_tree b (Member c.args.globals) ts) c.in_err-kind.field-0.0 c.from_residual-in_err-kind.result
    (member_kind c.args.file bytes tokens c.args.globals ts c.in_ok-notes.notes (c.peek-overrides.result == override_word) us vs c.in_ok-notes.ensures.told o
    c.in_err-kind.field-0.0 c.in_err-kind.ensures.told) c.from_residual-in_err-kind.ensures.1

pub returns-clause-told : goal.returns-clause-told
returns-clause-told c =
    let bytes = c.args.bytes.now in
    let tokens = c.args.tokens.now in
    let ts = behind bytes tokens c.args.start in
    let us = behind bytes tokens c.in_ok-notes.at in
    let vs = behind bytes tokens c.if-overrides.at in
    let o : Overrides (c.peek-overrides.result == override_word) us vs = elim c.if-overrides.branch [
      | then-overrides w ↦ overrides_so bytes tokens c.in_ok-notes.at c.if-overrides.at c.peek-overrides.result c.peek-overrides.ensures.sort c.peek-overrides.ensures.present w.if-overrides.true w.at-is
      | else-overrides w ↦ overrides_not bytes tokens c.in_ok-notes.at c.if-overrides.at c.peek-overrides.result c.peek-overrides.ensures.sort w.if-overrides.false w.at-is
    ] in
    member_whole c.args.globals c.in_ok-notes.notes (c.peek-overrides.result == override_word) c.in_ok-kind.kind c.span_between-span.result ts us vs (behind bytes tokens c.in_ok-kind.next)
    c.in_ok-notes.ensures.told o c.in_ok-kind.ensures.told (c.span_between-span.ensures bytes)
