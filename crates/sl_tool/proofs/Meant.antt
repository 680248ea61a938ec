-- The text that is written is C that means the program.
use Rattle.std.proofs.Common.{◌≡◌, ℕ, List, [], refl, sym, ap, ◌∙◌, subst}
use Rattle.std.specs.Prelude.{IfOk, Result, Ok, Err}
use Rattle.sl_text.specs.declared.fault.Mem.{Mem}
use Rattle.c_tree.specs.declared.tree.CFile.{CFile}
use Rattle.c_tree.specs.WellFormed.{IsWellFormed}
use Rattle.c_write.specs.Layout.{text_of}
use Rattle.sl_run.specs.Run.{TurnsSpent}
use Rattle.sl_run.specs.Outcome.{whole_run}
use Rattle.c_tree.specs.Text.{CText}
use Rattle.c_write.specs.Lined.{lined}
use Rattle.c_write.proofs.Relined.{lined_keeps, lined_runs}
use Rattle.sl_plain.specs.declared.program.Plain.{Plain}
use Rattle.sl_core.specs.declared.tree.Core.{Core}
use Rattle.sl_frames.specs.Translated.{c_of}
use Rattle.sl_core.specs.declared.tree.CoreType.TheVariants.{Int}
use Rattle.sl_core.specs.Meaning.{core_run}
use Rattle.sl_core.specs.Sound.{IsSound}
use Rattle.std.specs.List.{All}
use Rattle.std.proofs.lemmas.List.Elements.{All-nil, All-cons}
use Rattle.sl_frames.specs.Promise.{HasOneType, Translates, int64_type}
use Rattle.sl_plain.proofs.SoundCore.{one_type}
use Rattle.sl_plain.specs.Lowered.{core_of}
use Rattle.sl_plain.specs.Means.{plain_run}
use Rattle.sl_tool.specs.Written.{tree_of, written, IsTreeOf}
use Rattle.sl_tool.specs.Promise.{IsCOf}

-- with no turn a program does nothing
no_turn : (program : Plain) (input : List ℕ) → plain_run program input 0 ≡ record { ending = TurnsSpent; events = []; rest = input; left = 0 }
unfolding plain_run whole_run
no_turn program input = refl

-- the C of a program's core is its tree
pub tree_value : (program : Plain) (core : Core) (result : Result CFile Mem) → core ≡ core_of program → IfOk result (λ file. file ≡ c_of core) → IfOk result (λ tree. tree ≡ tree_of program)
unfolding tree_of
tree_value program core (Ok tree) e h = h ∙ ap c_of e
tree_value program core (Err mem) e h = tt

-- which means what the program does
means_of : (program : Plain) → IsSound (core_of program) → ((input : List ℕ) (turns : ℕ) → core_run (core_of program) input turns ≡ plain_run program input turns) → Translates (core_of program) → IsTreeOf program (tree_of program)
unfolding tree_of
means_of program sound same translates = record {
  well_formed = translates.well_formed;
  keeps_rules = translates.keeps_rules;
  means = λ input turns. translates.same_run input turns ∙ same input turns;
  never_stuck = λ input turns function stuck. sound.never_stuck input turns function (ap (λ run. run.ending) (same input turns) ∙ stuck);
}

pub tree_means : (program : Plain) (core : Core) (result : Result CFile Mem) → core ≡ core_of program → IsSound core → ((input : List ℕ) (turns : ℕ) → core_run core input turns ≡ plain_run program input turns) → Translates core → IfOk result (λ tree. IsTreeOf program (tree_of program))
tree_means program core (Ok tree) e sound same translates =
    means_of program (subst IsSound e sound) (subst (λ core. (input : List ℕ) (turns : ℕ) → core_run core input turns ≡ plain_run program input turns) e same) (subst Translates e translates)
tree_means program core (Err mem) e sound same translates = tt

-- the one type of a plain program's core
pub core_has_one_type : (program : Plain) (core : Core) → core ≡ core_of program → HasOneType core
core_has_one_type program core e = subst (λ types. All (λ type. type ≡ Int int64_type) types) (sym (ap (λ core. core.types) e ∙ one_type program)) (All-cons (λ type. type ≡ Int int64_type) (Int int64_type) [] refl (All-nil (λ type. type ≡ Int int64_type)))

-- the text of a program's tree is C that means the program
pub text_is_c : (program : Plain) → IsTreeOf program (tree_of program) → CText (written program) (lined (tree_of program)) → IsCOf program (written program)
text_is_c program is text = record {
  tree = lined (tree_of program);
  text_of = text;
  rules = lined_keeps (tree_of program) is.keeps_rules;
  means = λ input turns. lined_runs (tree_of program) input turns ∙ is.means input turns;
  no_turn = λ input. lined_runs (tree_of program) input 0 ∙ (is.means input 0 ∙ no_turn program input);
}

-- the text of the tree is what is written
pub text_written : (program : Plain) (tree : CFile) (result : Result (List ℕ) Mem) → tree ≡ tree_of program → IfOk result (λ text. text ≡ text_of tree) → IfOk result (λ text. text ≡ written program)
unfolding written
text_written program tree (Ok text) e h = h ∙ ap text_of e
text_written program tree (Err mem) e h = tt

-- and the tree means the program
pub text_means : (program : Plain) (result : Result (List ℕ) Mem) → IsTreeOf program (tree_of program) → IfOk result (λ text. IsTreeOf program (tree_of program))
text_means program (Ok text) is = is
text_means program (Err mem) is = tt

-- and it is read as the tree, with the lines of its functions
pub text_read : (program : Plain) → IsTreeOf program (tree_of program) → (tree : CFile) (result : Result (List ℕ) Mem) → tree ≡ tree_of program → IfOk result (λ text. text ≡ text_of tree) → IfOk result (λ text. IsWellFormed tree → CText text (lined tree)) → IfOk result (λ text. CText (written program) (lined (tree_of program)))
unfolding written
text_read program is tree (Ok text) e h k =
    subst (λ tree. CText (text_of tree) (lined tree)) e
    (subst (λ text. CText text (lined tree)) h (k (subst IsWellFormed (sym e) is.well_formed)))
text_read program is tree (Err mem) e h k = tt
