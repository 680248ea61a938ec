use Rattle.std.proofs.Common.{ℤ, ap, ◌∙◌, false}
use Rattle.c_machine.specs.declared.program.Word.{Word}
use Rattle.c_machine.proofs.Wrapping.{wrapping_product}
use Rattle.c_machine.proofs.valuing.uint64_result.Goals as goal

pub returns-in-Mul : goal.returns-in-Mul
returns-in-Mul c =
    let word : ℤ → Word = λ number. record { signed = false; number = number } in
    rw c.in-Mul.is (c.uint64-in-Mul.ensures ∙ ap word (wrapping_product c.args.a c.args.b c.ranges.a c.ranges.b))
