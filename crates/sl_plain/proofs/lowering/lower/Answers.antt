use Rattle.std.proofs.Common.{[], ◌∷◌, ◌++◌, sym, ap, ap₂, subst, ◌∙◌}
use Rattle.sl_core.specs.declared.tree.Core.{Core}
use Rattle.sl_core.specs.declared.tree.CoreType.TheVariants.{Int}
use Rattle.sl_core.specs.Meaning.{core_run}
use Rattle.sl_core.specs.Sound.{IsSound}
use Rattle.sl_plain.specs.Lowered.{core_of}
use Rattle.sl_plain.proofs.Runs.{same_run}
use Rattle.sl_plain.proofs.SoundCore.{sound}
use Rattle.sl_plain.proofs.lowering.lower.Goals as goal

pub returns-clause-value : goal.returns-clause-value
unfolding core_of
returns-clause-value c =
    let types = c.in_ok-push.ensures.ok ∙ ap₂ (λ ts t. ts ++ Int t ∷ []) c.new-types.ensures c.z_type.ensures in
    let functions = c.in_ok-push-3.ensures.ok ∙ ap₂ (λ fs f. fs ++ f ∷ []) (c.in_ok-push-2.ensures.ok ∙ ap₂ (λ fs f. fs ++ f ∷ []) c.new-functions.ensures c.in_ok-lower_main.ensures.value) c.in_ok-start_fun.ensures
    in λ k. record { types = types k; functions = functions k; entry = 1 }

pub returns-clause-means : goal.returns-clause-means
returns-clause-means c = λ is input turns. ap (λ (core : Core). core_run core input turns) (returns-clause-value c) ∙ same_run c.args.program.now is input turns

pub returns-clause-sound : goal.returns-clause-sound
returns-clause-sound c = λ is. subst IsSound (sym (returns-clause-value c)) (sound c.args.program.now is c.in_ok-lower_main.ensures.reach)
