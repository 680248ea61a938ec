-- The least rule of lists, of statements and of arguments.
use Rattle.std.proofs.Common.{◌≡◌, ℕ, suc, ◌+◌, ◌<◌, ◌≤◌, List, [], ◌∷◌, ◌++◌, Bool, true, false, not, ◌||◌, Option, Some, None, refl, sym, ap, ◌∙◌, arith, length, get_or, take, map}
use Rattle.std.specs.Prelude.{min, ◌==◌}
use Rattle.std.specs.List.{list_any, zip}
use Rattle.std.proofs.lemmas.Bool.{ne_eqb}
use Rattle.std.proofs.lemmas.Bool.Decides.{same_from_decides, Decides-eqb, Decides-like}
use Rattle.std.proofs.lemmas.List.{take_more, take_all}
use Rattle.c_tree.specs.declared.tree.CArg.{CArg}
use Rattle.c_tree.specs.declared.tree.CFile.{CFile}
use Rattle.c_tree.specs.declared.tree.CFun.{CFun}
use Rattle.c_tree.specs.declared.tree.CVar.{CVar}
use Rattle.c_tree.specs.declared.tree.CExpr.{CExpr}
use Rattle.c_tree.specs.declared.tree.CPlace.{CPlace}
use Rattle.c_tree.specs.declared.tree.CStmt.{CStmt}
use Rattle.c_tree.specs.declared.tree.CStmt.TheVariants.{Assign, Call, If, Loop, Count, Break, Return, Put, Get, Halt}
use Rattle.c_tree.specs.Parts.{Action, Assigns, Calls, Tests, Returns, Puts, Gets, Loops, Counts, Halts, actions, joined, argument_of, arguments_of}
use Rattle.c_tree.specs.Scope.{Scope}
use Rattle.c_tree.proofs.Variants.{actions_of_assign, actions_of_call, actions_of_if, actions_of_if_else, actions_of_loop, actions_of_count, actions_of_break, actions_of_return, actions_of_put, actions_of_get, actions_of_halt}
use Rattle.c_rules.specs.Least.{told, least, least_in}
use Rattle.c_rules.specs.Bodies.{misfits, pair_misfits, of_stmt, of_block, rule_of}

-- The least of rules ---------------------------------------------------------------------------------------------------

least_none : (rule : Option ℕ) → least rule None ≡ rule
least_none None = refl
least_none (Some rule) = refl

least_assoc : (first second third : Option ℕ) → least (least first second) third ≡ least first (least second third)
least_assoc None second third = refl
least_assoc (Some x) None third = refl
least_assoc (Some x) (Some y) None = refl
least_assoc (Some x) (Some y) (Some z) = let same : min (min x y) z ≡ min x (min y z) = omega arith in ap Some same

module _ {A : Type 0} (broken : A → Option ℕ) where
  pub least_append : (xs ys : List A) → least_in broken (xs ++ ys) ≡ least (least_in broken xs) (least_in broken ys)
  least_append [] ys = refl
  least_append (x ∷ xs) ys = ap (least (broken x)) (least_append xs ys) ∙ sym (least_assoc (broken x) (least_in broken xs) (least_in broken ys))

  -- one more element, as at a step of a loop
  pub least_more : (xs : List A) (i : ℕ) (x : A) (best now next : Option ℕ) → i < length xs → x ≡ get_or xs i x → best ≡ least_in broken (take i xs) → now ≡ broken x → next ≡ least best now → next ≡ least_in broken (take (i + 1) xs)
  least_more xs i x best now next less is so_far this gives =
      let last : least_in broken (x ∷ []) ≡ now = least_none (broken x) ∙ sym this
      in gives ∙ (ap (λ rule. least rule now) so_far ∙ (ap (least (least_in broken (take i xs))) (sym last)
      ∙ (sym (least_append (take i xs) (x ∷ [])) ∙ ap (least_in broken) (ap (λ y. take i xs ++ y ∷ []) is ∙ sym (take_more xs i x less)))))

  -- all of them, as at the end of a loop
  pub least_all : (xs ys : List A) (i : ℕ) (best : Option ℕ) → length xs ≤ i → xs ≡ ys → best ≡ least_in broken (take i xs) → best ≡ least_in broken ys
  least_all xs ys i best whole same so_far = so_far ∙ ap (least_in broken) (take_all i xs whole ∙ same)

  least_flat : {B : Type 0} (parts : B → List A) (ys : List B) → least_in broken (joined (map parts ys)) ≡ least_in (λ y. least_in broken (parts y)) ys
  least_flat parts [] = refl
  least_flat parts (y ∷ ys) = least_append (parts y) (joined (map parts ys)) ∙ ap (least (least_in broken (parts y))) (least_flat parts ys)

-- Statements ----------------------------------------------------------------------------------------------------------

module _ (broken : Action → Option ℕ) where
  pub of_assign : (place : CPlace) (e : CExpr) → of_stmt broken (Assign place e) ≡ broken (Assigns place e)
  unfolding of_stmt
  of_assign place e = ap (least_in broken) (actions_of_assign place e) ∙ least_none (broken (Assigns place e))

  pub of_call : (target : Option CPlace) (name : List ℕ) (arguments : List CArg) → of_stmt broken (Call target name arguments) ≡ broken (Calls target name (arguments_of arguments))
  unfolding of_stmt
  of_call target name arguments = ap (least_in broken) (actions_of_call target name arguments) ∙ least_none (broken (Calls target name (arguments_of arguments)))

  pub of_if : (test : CExpr) (chosen : List CStmt) → of_stmt broken (If test chosen None) ≡ least (broken (Tests test)) (of_block broken chosen)
  unfolding of_stmt
  of_if test chosen =
      ap (least_in broken) (actions_of_if test chosen)
      ∙ ap (least (broken (Tests test))) (least_append broken (joined (map actions chosen)) [] ∙ (least_none (least_in broken (joined (map actions chosen))) ∙ least_flat broken actions chosen))

  pub of_if_else : (test : CExpr) (chosen other : List CStmt) → of_stmt broken (If test chosen (Some other)) ≡ least (least (broken (Tests test)) (of_block broken chosen)) (of_block broken other)
  unfolding of_stmt
  of_if_else test chosen other =
      ap (least_in broken) (actions_of_if_else test chosen other)
      ∙ (ap (least (broken (Tests test))) (least_append broken (joined (map actions chosen)) (joined (map actions other)) ∙ (ap (λ rule. least rule (least_in broken (joined (map actions other)))) (least_flat broken actions chosen) ∙ ap (least (least_in (λ stmt. least_in broken (actions stmt)) chosen)) (least_flat broken actions other)))
      ∙ sym (least_assoc (broken (Tests test)) (least_in (λ stmt. least_in broken (actions stmt)) chosen) (least_in (λ stmt. least_in broken (actions stmt)) other)))

  pub of_loop : (body : List CStmt) → of_stmt broken (Loop body) ≡ least (broken Loops) (of_block broken body)
  unfolding of_stmt
  of_loop body = ap (least_in broken) (actions_of_loop body) ∙ ap (least (broken Loops)) (least_flat broken actions body)

  pub of_count : (set tested : List ℕ) (count : ℕ) (raised : List ℕ) (body : List CStmt) → of_stmt broken (Count set tested count raised body) ≡ least (broken (Counts set tested raised count)) (of_block broken body)
  unfolding of_stmt
  of_count set tested count raised body =
      ap (least_in broken) (actions_of_count set tested count raised body) ∙ ap (least (broken (Counts set tested raised count))) (least_flat broken actions body)

  pub of_break : of_stmt broken Break ≡ None
  unfolding of_stmt
  of_break = ap (least_in broken) actions_of_break

  pub of_get : (place : CPlace) → of_stmt broken (Get place) ≡ broken (Gets place)
  unfolding of_stmt
  of_get place = ap (least_in broken) (actions_of_get place) ∙ least_none (broken (Gets place))

  pub of_return : (value : Option CExpr) → of_stmt broken (Return value) ≡ broken (Returns value)
  unfolding of_stmt
  of_return value = ap (least_in broken) (actions_of_return value) ∙ least_none (broken (Returns value))

  pub of_put : (e : CExpr) → of_stmt broken (Put e) ≡ broken (Puts e)
  unfolding of_stmt
  of_put e = ap (least_in broken) (actions_of_put e) ∙ least_none (broken (Puts e))

  pub of_halt : (kind file line : ℕ) → of_stmt broken (Halt kind file line) ≡ broken (Halts kind file line)
  unfolding of_stmt
  of_halt kind file line = ap (least_in broken) (actions_of_halt kind file line) ∙ least_none (broken (Halts kind file line))

-- a halt breaks no rule
pub of_halt_here : (file : CFile) (earlier : List CFun) (function : CFun) (kind at line : ℕ) → of_stmt (rule_of file earlier function) (Halt kind at line) ≡ None
unfolding rule_of
of_halt_here file earlier function kind at line = of_halt (rule_of file earlier function) kind at line

-- an inline function holds no loop
pub of_loop_here : (file : CFile) (earlier : List CFun) (function : CFun) (body : List CStmt) → of_stmt (rule_of file earlier function) (Loop body) ≡ least (told 19 function.inline) (of_block (rule_of file earlier function) body)
unfolding rule_of
of_loop_here file earlier function body = of_loop (rule_of file earlier function) body

pub ruleset all_stmts = (of_assign, of_call, of_if, of_if_else, of_loop_here, of_count, of_break, of_return, of_put, of_get, of_halt_here)

-- Arguments -----------------------------------------------------------------------------------------------------------

pub arguments_are : (broken : CExpr → Option ℕ) (arguments : List CArg) → least_in broken (arguments_of arguments) ≡ least_in (λ argument. broken (argument_of argument)) arguments
arguments_are broken [] = refl
arguments_are broken (argument ∷ arguments) = ap (least (broken (argument_of argument))) (arguments_are broken arguments)

-- numbers are the same when those behind them are
pub behind_same : (m n : ℕ) → (suc m == suc n) ≡ (m == n)
behind_same m n = same_from_decides (suc m == suc n) (m == n) (Decides-eqb (suc m) (suc n)) (Decides-like (m == n) (λ e. omega arith) (λ e. omega arith) (Decides-eqb m n))

swapped : (first second third : Bool) → first || (second || third) ≡ second || (first || third)
swapped true true third = refl
swapped true false third = refl
swapped false true third = refl
swapped false false third = refl

-- they differ in number from parameters, or one doesn't fit
pub misfits_are : (scope : Scope) (arguments : List CArg) (params : List CVar) → misfits scope (arguments_of arguments) params ≡ not (length arguments == length params) || list_any (pair_misfits scope) (zip arguments params)
misfits_are scope [] [] = refl
misfits_are scope [] (param ∷ params) = sym (ap (λ same. not same || false) (ne_eqb 0 (length (param ∷ params)) (λ e. omega arith)))
misfits_are scope (argument ∷ arguments) [] = sym (ap (λ same. not same || false) (ne_eqb (length (argument ∷ arguments)) 0 (λ e. omega arith)))
misfits_are scope (argument ∷ arguments) (param ∷ params) =
    let first = pair_misfits scope (argument, param) in
    let others = list_any (pair_misfits scope) (zip arguments params) in
    ap (λ rest. first || rest) (misfits_are scope arguments params)
    ∙ (swapped first (not (length arguments == length params)) others
    ∙ ap (λ same. not same || (first || others)) (sym (behind_same (length arguments) (length params))))
