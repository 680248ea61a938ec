use Rattle.std.proofs.Common.{◌≡◌, None, true, refl, sym, ◌∙◌, arith, is_some, ◌+◌}
use Rattle.sl_plain.specs.Program.{Declared}
use Rattle.sl_plain.proofs.Statements.{there}
use Rattle.sl_plain.proofs.Numbered.{added_known, added_new, updates_bytes}
use Rattle.sl_plain.proofs.lowering.numbers.Variables.add.Goals as goal

pub returns-then-is_some : goal.returns-then-is_some
returns-then-is_some c = λ before is_var numbered.
    let entry : Declared = record { name = c.args.name.now; is_var = is_var; type = c.args.kind } in
    let given : is_some c.get.result ≡ true = grind (arith, c.is_some.ensures, c.if-is_some.true) in
    let found = there c.get.result given in
    let count : c.in-Some.count ≡ c.args.self.now.count + 1 = grind (arith, c.checked_add.ensures, c.in-Some.is)
    in added_known before c.args.self.now (record { items = c.args.self.now.items; count = c.in-Some.count }) entry found.0 numbered (sym c.get.ensures ∙ found.1) refl count

pub returns : goal.returns
returns c = λ before is_var numbered.
    let entry : Declared = record { name = c.args.name.now; is_var = is_var; type = c.args.kind } in
    let given : c.get.result ≡ None = grind (arith, c.is_some.ensures, c.if-is_some.false) in
    let count : c.in-Some.count ≡ c.args.self.now.count + 1 = grind (arith, c.checked_add.ensures, c.in-Some.is)
    in added_new before c.args.self.now (record { items = c.insert.new.self; count = c.in-Some.count }) entry numbered (sym c.get.ensures ∙ given) (λ name. rw c.in_ok-key.ensures.items at (updates_bytes c.in_ok-key.key.items c.args.self.now.items c.insert.new.self _ c.in_ok-insert.ensures.updates name)) count
