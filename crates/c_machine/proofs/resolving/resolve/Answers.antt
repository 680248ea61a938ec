use Rattle.std.proofs.Common.{◌∙◌, reverse, subst, append-nil, codes}
use Rattle.c_machine.specs.Naming.{AreVars}
use Rattle.c_machine.specs.Resolved.{callees_of, AreInlines, AreNumbers, FunctionsAre}
use Rattle.c_machine.proofs.Programs.{means_file}
use Rattle.c_machine.proofs.resolving.resolve.Goals as goal

pub returns : goal.returns
returns c =
    let file = c.args.file.now in
    let globals = c.in_ok-globals.globals in
    let numbers = c.in_ok-numbers.numbers in
    let inlines = c.in_ok-inlines.inlines in
    let named : AreVars file.globals globals = λ name. rw (c.as_slice.ensures, append-nil) at (c.in_ok-globals.ensures name) in
    let numbered : AreNumbers file.functions numbers = λ name. rw c.as_slice-functions.ensures at (c.in_ok-numbers.ensures name) in
    means_file file globals numbers inlines named numbered
    (subst (λ functions. AreInlines file (reverse functions) inlines) c.as_slice-functions.ensures (c.in_ok-inlines.ensures file named))
    _
    (subst (λ functions. FunctionsAre globals (callees_of numbers inlines) functions c.in_ok-resolved.resolved) c.as_slice-functions.ensures c.in_ok-resolved.ensures)
    (c.copied.ensures ∙ (c.get.ensures ∙ numbered (codes "sl_main")))
    (c.in_ok-count.ensures ∙ c.len.ensures)
