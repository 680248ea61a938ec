use Rattle.std.proofs.Common.{inl, inr}
use Rattle.sl_grammar.specs.Law.{found_as}
use Rattle.sl_grammar.specs.Grammar.{Room}
use Rattle.sl_parse_expr.specs.Told.{behind}
use Rattle.sl_parse.specs.Names.{global_form, method_form}
use Rattle.sl_parse.specs.Values.{global_from, method_from, member_in}
use Rattle.sl_parse.specs.Told.{reads}
use Rattle.sl_parse.proofs.Telling.{told_same}
use Rattle.sl_parse.proofs.MembersRead.{is_global, is_method, declaring_comes, declaring_not}
use Rattle.sl_parse.proofs.members.declared.Goals as goal
use Rattle.sl_parse.proofs.members.declared.Goals.{else-globals-via-then-globals+else-first-eq-VAR, else-globals-via-else-globals}

pub returns-then-first-eq-VAR-clause-told : goal.returns-then-first-eq-VAR-clause-told
returns-then-first-eq-VAR-clause-told c =
    let ts = behind c.args.bytes.now c.args.tokens.now c.args.start in
    told_same c.args.file c.args.bytes.now c.args.tokens.now (λ b. found_as (global_from c.args.overrides) (reads b global_form ts))
    (λ b. found_as (member_in c.args.overrides) (reads b (Room c.args.globals global_form method_form) ts)) c.global.result
    (is_global c.args.overrides c.args.globals ts c.if-globals.true (declaring_comes c.peek-first.result ts c.peek-first.ensures.sort c.if-first-eq-VAR.either)) c.global.ensures.told

pub returns-else-globals-clause-told : goal.returns-else-globals-clause-told
returns-else-globals-clause-told c =
    let ts = behind c.args.bytes.now c.args.tokens.now c.args.start in
    told_same c.args.file c.args.bytes.now c.args.tokens.now (λ b. found_as (method_from c.args.overrides) (reads b method_form ts))
    (λ b. found_as (member_in c.args.overrides) (reads b (Room c.args.globals global_form method_form) ts)) c.method.result
    (is_method c.args.overrides c.args.globals ts (elim c.else-globals.branch [
      | else-globals-via-then-globals+else-first-eq-VAR w ↦ inr (declaring_not c.peek-first.result ts c.peek-first.ensures.sort w.if-first-eq-VAR.false.0 w.if-first-eq-VAR.false.1)
      | else-globals-via-else-globals w ↦ inl w.if-globals.false
    ])) c.method.ensures.told
