-- What stepping the tree of a plain program comes to.
use Rattle.std.proofs.Common.{◌≡◌, ℕ, List, [], refl, sym, ap, ◌∙◌, subst}
use Rattle.std.specs.Prelude.{None, Result, Ok, Err}
use Rattle.sl_outside.specs.Source.{SourceState}
use Rattle.sl_outside.specs.Sink.{SinkState}
use Rattle.sl_run.specs.Outcome.{Outcome}
use Rattle.c_machine.specs.declared.ending.End.{End}
use Rattle.c_machine.specs.declared.ending.StepFault.{StepFault}
use Rattle.c_machine.specs.declared.ending.StepFault.TheVariants as fault
use Rattle.c_machine.specs.declared.configuration.Configuration.{Configuration}
use Rattle.c_machine.specs.declared.machine.Machine.{Machine}
use Rattle.c_machine.specs.declared.machine.Standing.{Standing}
use Rattle.c_machine.specs.declared.machine.Standing.TheVariants.{Going, Ended, Failed}
use Rattle.c_machine.specs.Outside.{outside}
use Rattle.c_machine.specs.Ran.{ComesTo, Opened, Runs}
use Rattle.c_machine.specs.Ran as machine
use Rattle.c_tree.specs.declared.tree.CFile.{CFile}
use Rattle.c_tree.specs.Meaning.{c_run}
use Rattle.sl_plain.specs.declared.program.Plain.{Plain}
use Rattle.sl_plain.specs.Means.{plain_run}
use Rattle.sl_tool.specs.Written.{tree_of, IsTreeOf}
use Rattle.sl_tool.specs.Parts.{Ran, RanTree, RanProgram, IsDefined}
use Rattle.sl_tool.proofs.Told.{input_of, input_told, still_told}
use Rattle.sl_tool.proofs.Inputs.{told_input}

-- a run of the machine, as it is said here
as_ran : (input : List ℕ) (run : Outcome) (m : Configuration) (source source' : SourceState) (out out' : SinkState) (result : Result End StepFault) → machine.Ran result input run m (outside source out) (outside source' out') → Ran input run source source' out out' result
as_ran input run m source source' out out' (Ok end) (e, left, prints, asks, rest) = (e, prints, asks, rest)
as_ran input run m source source' out out' (Err fault.Sink) h = h
as_ran input run m source source' out out' (Err fault.Mem) h = h
as_ran input run m source source' out out' (Err fault.Input) h = h

-- a machine that was opened on a file ran the file, on some input that agrees with what is told
pub machine_ran : (tree file : CFile) (turns : ℕ) (m m' : Machine) (source source' : SourceState) (out out' : SinkState) (result : Result End StepFault) → file ≡ tree → Opened (λ input. c_run file None input turns) turns m → Runs m.standing m (outside source out) m' (outside source' out') result → RanTree tree turns source source' out out' result
machine_ran tree file turns m m' source source' out out' result e opened runs = subst (λ tree. RanTree tree turns source source' out out' result) e (at m.standing opened.whole runs)
  where
    at : (standing : Standing) → ((input : List ℕ) → ComesTo standing m.at input (c_run file None input turns)) → Runs standing m (outside source out) m' (outside source' out') result → RanTree file turns source source' out out' result
    at Going comes (from, some, causes, stands, allowed) =
        let (input, told, ran) = some opened.at_end in
        (input, told_input source.left input told, as_ran input (c_run file None input turns) m'.at source source' out out' result (subst (λ run. machine.Ran result input run m'.at (outside source out) (outside source' out')) (comes input) ran))
    at (Ended end) comes (is, stays, same) =
        let input = input_of source.left in
        let told = input_told source.left in (
          input,
          told,
          subst (λ result. Ran input (c_run file None input turns) source source' out out' result) (sym is)
              (subst (λ (run : Outcome). Ran input run source source' out out' (Ok end)) (comes input)
              (refl, ap (λ o. o.sink) same, ([], refl, tt, ap (λ o. o.source) same), still_told source.left source'.left input told (ap (λ o. o.source.left) same))),
        )
    at (Failed fault) comes runs = absurd (comes [])

-- where memory ran out before a machine was opened, nothing was done
pub none_ran : (tree : CFile) (turns : ℕ) (source : SourceState) (out : SinkState) → RanTree tree turns source source out out (Err fault.Mem)
none_ran tree turns source out =
    let input = input_of source.left in
    (input, input_told source.left, ([], ((c_run tree None input turns).events, refl), refl, ([], refl, tt, refl)))

module _ (program : Plain) (turns : ℕ) (tree : CFile) (is : tree ≡ tree_of program) (means : IsTreeOf program (tree_of program)) where
  -- the run of the tree is the program's
  same_run : (input : List ℕ) → c_run tree None input turns ≡ plain_run program input turns
  same_run input = ap (λ tree. c_run tree None input turns) is ∙ means.means input turns

  -- so the program was run
  pub tree_ran : (source source' : SourceState) (out out' : SinkState) (result : Result End StepFault) → RanTree tree turns source source' out out' result → RanProgram program turns source source' out out' result
  tree_ran source source' out out' result (input, told, ran) = (input, told, subst (λ run. Ran input run source source' out out' result) (same_run input) ran)

  -- and it isn't stuck
  pub tree_defined : (source source' : SourceState) (out out' : SinkState) (end : End) → RanTree tree turns source source' out out' (Ok end) → IsDefined end
  tree_defined source source' out out' end (input, told, ran) function stuck = means.never_stuck input turns function (sym (ap (λ run. run.ending) (same_run input)) ∙ (sym ran.0 ∙ stuck))
