-- The least rule that is told of a function is the least that it breaks.
use Rattle.std.specs.Prelude.{◌^◌, nat_lt}
use Rattle.std.proofs.Common.{◌≡◌, ◌≢◌, ◌⊎◌, ℕ, ◌<◌, List, [], ◌∷◌, ◌++◌, Bool, true, false, not, ◌&&◌, ◌||◌, Option, Some, None, Decides, refl, sym, subst, ap, ◌∙◌, inl, inr, Contains, map, bytes_eq}
use Rattle.std.specs.List.{list_any}
use Rattle.std.specs.Option.{is_some}
use Rattle.std.proofs.lemmas.Bool.Decides.{Decides-like, Decides-not, Decides-and, Decides-or, Decides-at, Decides-ltb}
use Rattle.std.proofs.lemmas.Slice.Eq.{bytes_eq-Decides}
use Rattle.c_tree.specs.declared.tree.CFile.{CFile}
use Rattle.c_tree.specs.declared.tree.CFun.{CFun}
use Rattle.c_tree.specs.declared.tree.CType.{CType}
use Rattle.c_tree.specs.declared.tree.CType.TheVariants.{Void}
use Rattle.c_tree.specs.declared.tree.CPlace.{CPlace}
use Rattle.c_tree.specs.declared.tree.CPlace.TheVariants.{Name}
use Rattle.c_tree.specs.declared.tree.CExpr.{CExpr}
use Rattle.c_tree.specs.declared.tree.CStmt.{CStmt}
use Rattle.c_tree.specs.Parts.{Action, Assigns, Calls, Tests, Returns, Puts, Gets, Loops, Counts, Halts, actions, actions_in}
use Rattle.c_tree.specs.Bytes.{called_by, called}
use Rattle.c_tree.specs.Scope.{Scope, scope_of, variable}
use Rattle.c_tree.specs.Rules.{var_names, BreaksLocalNames, IsDeclared, NamesRead, NamesVariable, BreaksDeclared, word, is_word, type_of_place, typed, HasExpr, BreaksOperands, HasOtherType, HasWrongValue, BreaksValues, ArgumentsMisfit, last_is, ends_function, recounts, CanCount, BreaksCounts, BreaksInline, some_are, strays, BreaksEnd, BreaksInside}
use Rattle.c_rules.specs.Least.{told, least, least_in, IsLeast}
use Rattle.c_rules.specs.Types.{is_void, same_type, is_other, are_other, is_no_word, kind_in, reads_strange}
use Rattle.c_rules.specs.Bodies.{is_named, misfits, result_misfits, is_declared, is_var, is_inline_among, of_expr, of_place, of_target, of_name, of_callee, is_counter, miscounts, rule_of, of_stmt, of_block}
use Rattle.c_tree.proofs.Lists.{in_none, first_in}
use Rattle.c_rules.proofs.Anys.{any_holds, in_cases}
use Rattle.c_rules.proofs.Lookups.{kind_is}
use Rattle.c_rules.proofs.Holds.{never, same_type_holds, in_flat, flat_in, any_named, is_void_holds, is_other_holds, are_other_holds, not_holds, is_no_word_holds, PlaceUnknown, place_holds, ExprUnknown, expr_holds, misfits_holds, ResultMisfits, result_holds, local_holds}
use Rattle.c_rules.proofs.Leasts.{is_told, is_least, is_like, is_where, is_in}
use Rattle.c_rules.proofs.Walks.{least_append}

-- a rule of a block is one of its actions
least_body : (broken : Action → Option ℕ) (body : List CStmt) → of_block broken body ≡ least_in broken (actions_in body)
unfolding of_stmt
least_body broken [] = refl
least_body broken (stmt ∷ body) = ap (least (least_in broken (actions stmt))) (least_body broken body) ∙ sym (least_append broken (actions stmt) (actions_in body))

reassociated : (first second third : Bool) → (first || second) || third ≡ first || (second || third)
reassociated true second third = refl
reassociated false second third = refl

module _ (file : CFile) (earlier : List CFun) (function : CFun) where
  abbrev scope : Scope
  scope = scope_of file function

  abbrev acts : List Action
  acts = actions_in function.body

  -- What is broken by what --------------------------------------------------------------------------------------------------

  abbrev ExprBreaks : CExpr → ℕ → Type 0
  ExprBreaks e rule = ((rule ≡ 11) × ExprUnknown scope e) ⊎ ((rule ≡ 14) × ((typed scope e).fits ≡ false))

  abbrev PlaceBreaks : CPlace → ℕ → Type 0
  PlaceBreaks place rule = (rule ≡ 11) × PlaceUnknown scope place

  abbrev TargetBreaks : Option CPlace → ℕ → Type 0
  TargetBreaks target rule = (place : CPlace) × (target ≡ Some place) × PlaceBreaks place rule

  abbrev NameBad : List ℕ → Type 0
  NameBad name = (¬ IsDeclared file earlier function name) ⊎ Contains (var_names (function.params ++ function.vars)) name

  abbrev NameLate : List ℕ → Type 0
  NameLate name = (callee : CFun) → Contains earlier callee → callee.inline ≡ true → callee.name ≢ name

  abbrev NameBreaks : List ℕ → ℕ → Type 0
  NameBreaks name rule = ((rule ≡ 11) × NameBad name) ⊎ ((rule ≡ 19) × ((function.inline ≡ true) × NameLate name))

  abbrev CalleeBreaks : Option CPlace → List ℕ → List CExpr → CFun → ℕ → Type 0
  CalleeBreaks target name arguments callee rule =
      (callee.name ≡ name) × (((rule ≡ 16) × ArgumentsMisfit scope arguments callee.params) ⊎ ((rule ≡ 17) × ResultMisfits scope target callee.result))

  abbrev Miscounts : (set tested raised : List ℕ) → ℕ → Type 0
  Miscounts set tested raised count = (2 ^ 24 < count) ⊎ ((tested ≢ set) ⊎ ((raised ≢ set) ⊎ (¬ CanCount function set)))

  abbrev Breaks : Action → ℕ → Type 0
  Breaks (Assigns place e) rule = PlaceBreaks place rule ⊎ (ExprBreaks e rule ⊎ ((rule ≡ 15) × HasWrongValue scope function (Assigns place e)))
  Breaks (Gets place) rule = PlaceBreaks place rule ⊎ ((rule ≡ 15) × HasWrongValue scope function (Gets place))
  Breaks Loops rule = (rule ≡ 19) × (function.inline ≡ true)
  Breaks (Counts set tested raised count) rule =
      (PlaceBreaks (Name set) rule ⊎ (PlaceBreaks (Name tested) rule ⊎ PlaceBreaks (Name raised) rule)) ⊎ ((rule ≡ 20) × Miscounts set tested raised count)
  Breaks (Calls target name arguments) rule =
      NameBreaks name rule ⊎ (TargetBreaks target rule
      ⊎ (((e : CExpr) × Contains arguments e × ExprBreaks e rule) ⊎ ((callee : CFun) × Contains file.functions callee × CalleeBreaks target name arguments callee rule)))
  Breaks (Tests test) rule = ExprBreaks test rule ⊎ ((rule ≡ 18) × ((other : CType) × ((typed scope test).type ≡ Some other) × (is_word other ≡ false)))
  Breaks (Returns None) rule = (rule ≡ 15) × (function.result ≢ Void)
  Breaks (Returns (Some e)) rule = ExprBreaks e rule ⊎ ((rule ≡ 15) × HasOtherType scope e function.result)
  Breaks (Puts e) rule = ExprBreaks e rule ⊎ ((rule ≡ 15) × HasOtherType scope e word)
  Breaks (Halts kind at line) rule = ⊥

  -- The least of it -----------------------------------------------------------------------------------------------------------

  expr_least : (e : CExpr) → IsLeast (ExprBreaks e) (of_expr scope e)
  expr_least e =
      is_least (λ rule. (rule ≡ 11) × ExprUnknown scope e) (λ rule. (rule ≡ 14) × ((typed scope e).fits ≡ false)) (told 11 (reads_strange scope e)) (told 14 (not (typed scope e).fits))
      (is_told (ExprUnknown scope e) 11 (reads_strange scope e) (expr_holds scope e))
      (is_told ((typed scope e).fits ≡ false) 14 (not (typed scope e).fits) (not_holds (typed scope e).fits))

  place_least : (place : CPlace) → IsLeast (PlaceBreaks place) (of_place scope place)
  place_least place = is_told (PlaceUnknown scope place) 11 (not (is_some (type_of_place scope place))) (place_holds scope place)

  target_least : (target : Option CPlace) → IsLeast (TargetBreaks target) (of_target scope target)
  target_least None = λ rule (place, is, bad). cc
  target_least (Some place) =
      is_like (PlaceBreaks place) (TargetBreaks (Some place)) (of_place scope place) (λ rule bad. (place, refl, bad))
      (λ rule (other, is, bad). let this : other ≡ place = cc in subst (λ p. PlaceBreaks p rule) this bad) (place_least place)

  declared_holds : (name : List ℕ) → Decides (is_declared file earlier function name) (IsDeclared file earlier function name)
  declared_holds name =
      Decides-at (is_declared file earlier function name) (list_any (is_named name) file.protos || (is_named name function || list_any (is_named name) earlier))
      (reassociated (list_any (is_named name) file.protos) (is_named name function) (list_any (is_named name) earlier))
      (Decides-or (list_any (is_named name) file.protos) (is_named name function || list_any (is_named name) earlier) (any_named (λ (other : CFun). other.name) file.protos name)
      (Decides-or (is_named name function) (list_any (is_named name) earlier) (bytes_eq-Decides function.name name) (any_named (λ (other : CFun). other.name) earlier name)))

  late_holds : (name : List ℕ) → Decides (not (is_inline_among earlier name)) (NameLate name)
  late_holds name =
      let among = any_holds (λ other. other.inline && is_named name other) (λ other. (other.inline ≡ true) × (other.name ≡ name))
      (λ other. Decides-and other.inline (is_named name other) (λ e. e, λ e. e) (bytes_eq-Decides other.name name)) earlier in
      Decides-like (not (is_inline_among earlier name)) (λ none other of inline same. none (other, of, (inline, same)))
      (λ late (other, of, (inline, same)). late other of inline same)
      (Decides-not (is_inline_among earlier name) among)

  name_least : (name : List ℕ) → IsLeast (NameBreaks name) (of_name file earlier function name)
  name_least name =
      let unknown = not (is_declared file earlier function name) in
      let hidden = is_var function.params name || is_var function.vars name in
      let late = function.inline && not (is_inline_among earlier name) in
      is_least (λ rule. (rule ≡ 11) × NameBad name) (λ rule. (rule ≡ 19) × ((function.inline ≡ true) × NameLate name)) (told 11 (unknown || is_var function.params name || is_var function.vars name)) (told 19 late)
      (is_told (NameBad name) 11 (unknown || is_var function.params name || is_var function.vars name)
      (Decides-at (unknown || is_var function.params name || is_var function.vars name) (unknown || hidden) (reassociated unknown (is_var function.params name) (is_var function.vars name))
      (Decides-or unknown hidden (Decides-not (is_declared file earlier function name) (declared_holds name)) (local_holds function.params function.vars name))))
      (is_told ((function.inline ≡ true) × NameLate name) 19 late (Decides-and function.inline (not (is_inline_among earlier name)) (λ e. e, λ e. e) (late_holds name)))

  callee_least : (target : Option CPlace) (name : List ℕ) (arguments : List CExpr) (callee : CFun) → IsLeast (CalleeBreaks target name arguments callee) (of_callee scope target name arguments callee)
  callee_least target name arguments callee =
      let given = misfits scope arguments callee.params in
      let stored = result_misfits scope target callee.result in
      is_where (callee.name ≡ name) (λ rule. ((rule ≡ 16) × ArgumentsMisfit scope arguments callee.params) ⊎ ((rule ≡ 17) × ResultMisfits scope target callee.result))
      (is_named name callee) (least (told 16 given) (told 17 stored)) (bytes_eq-Decides callee.name name)
      (is_least (λ rule. (rule ≡ 16) × ArgumentsMisfit scope arguments callee.params) (λ rule. (rule ≡ 17) × ResultMisfits scope target callee.result) (told 16 given) (told 17 stored)
      (is_told (ArgumentsMisfit scope arguments callee.params) 16 given (misfits_holds scope arguments callee.params))
      (is_told (ResultMisfits scope target callee.result) 17 stored (result_holds scope target callee.result)))

  counter_holds : (kind : Option CType) → Decides (is_counter kind) (kind ≡ Some word)
  counter_holds None = never (λ same. cc)
  counter_holds (Some kind) = Decides-like (same_type kind word) (ap Some) (λ same. let this : kind ≡ word = cc in this) (same_type_holds kind word)

  can_count_holds : (name : List ℕ) → Decides (is_counter (kind_in (function.params ++ function.vars) name)) (CanCount function name)
  can_count_holds name = subst (λ kind. Decides (is_counter (kind_in (function.params ++ function.vars) name)) (kind ≡ Some word)) (kind_is (function.params ++ function.vars) name) (counter_holds (kind_in (function.params ++ function.vars) name))

  miscounts_holds : (set tested raised : List ℕ) (count : ℕ) → Decides (miscounts function set tested raised count) (Miscounts set tested raised count)
  miscounts_holds set tested raised count =
      let far = nat_lt (2 ^ 24) count in
      let other = not (bytes_eq tested set) in
      let another = not (bytes_eq raised set) in
      let counter = is_counter (kind_in (function.params ++ function.vars) set) in
      Decides-or far (other || (another || not counter)) (Decides-ltb (2 ^ 24) count)
      (Decides-or other (another || not counter) (Decides-not (bytes_eq tested set) (bytes_eq-Decides tested set))
      (Decides-or another (not counter) (Decides-not (bytes_eq raised set) (bytes_eq-Decides raised set)) (Decides-not counter (can_count_holds set))))

  act_least : (action : Action) → IsLeast (Breaks action) (rule_of file earlier function action)
  unfolding rule_of
  act_least (Assigns place e) =
      let wrong = are_other (typed scope e).type (type_of_place scope place) in
      is_least (PlaceBreaks place) (λ rule. ExprBreaks e rule ⊎ ((rule ≡ 15) × HasWrongValue scope function (Assigns place e))) (of_place scope place) (least (of_expr scope e) (told 15 wrong)) (place_least place)
      (is_least (ExprBreaks e) (λ rule. (rule ≡ 15) × HasWrongValue scope function (Assigns place e)) (of_expr scope e) (told 15 wrong) (expr_least e)
      (is_told (HasWrongValue scope function (Assigns place e)) 15 wrong (are_other_holds (typed scope e).type (type_of_place scope place))))
  act_least (Calls target name arguments) =
      let given = least_in (of_expr scope) arguments in
      let called = least_in (of_callee scope target name arguments) file.functions in
      let GivenBreaks = λ (rule : ℕ). (e : CExpr) × Contains arguments e × ExprBreaks e rule in
      let CalledBreaks = λ (rule : ℕ). (callee : CFun) × Contains file.functions callee × CalleeBreaks target name arguments callee rule in
      is_least (NameBreaks name) (λ rule. TargetBreaks target rule ⊎ (GivenBreaks rule ⊎ CalledBreaks rule)) (of_name file earlier function name) (least (of_target scope target) (least given called)) (name_least name)
      (is_least (TargetBreaks target) (λ rule. GivenBreaks rule ⊎ CalledBreaks rule) (of_target scope target) (least given called) (target_least target)
      (is_least GivenBreaks CalledBreaks given called (is_in ExprBreaks (of_expr scope) expr_least arguments)
      (is_in (CalleeBreaks target name arguments) (of_callee scope target name arguments) (callee_least target name arguments) file.functions)))
  act_least (Tests test) =
      let unfit = is_no_word (typed scope test).type in
      is_least (ExprBreaks test) (λ rule. (rule ≡ 18) × ((other : CType) × ((typed scope test).type ≡ Some other) × (is_word other ≡ false))) (of_expr scope test) (told 18 unfit) (expr_least test)
      (is_told ((other : CType) × ((typed scope test).type ≡ Some other) × (is_word other ≡ false)) 18 unfit (is_no_word_holds (typed scope test).type))
  act_least (Returns None) = is_told (function.result ≢ Void) 15 (not (is_void function.result)) (Decides-not (is_void function.result) (is_void_holds function.result))
  act_least (Returns (Some e)) =
      let wrong = is_other (typed scope e).type function.result in
      is_least (ExprBreaks e) (λ rule. (rule ≡ 15) × HasOtherType scope e function.result) (of_expr scope e) (told 15 wrong) (expr_least e)
      (is_told (HasOtherType scope e function.result) 15 wrong (is_other_holds (typed scope e).type function.result))
  act_least (Puts e) =
      let wrong = is_other (typed scope e).type word in
      is_least (ExprBreaks e) (λ rule. (rule ≡ 15) × HasOtherType scope e word) (of_expr scope e) (told 15 wrong) (expr_least e)
      (is_told (HasOtherType scope e word) 15 wrong (is_other_holds (typed scope e).type word))
  act_least (Gets place) =
      let wrong = are_other (Some word) (type_of_place scope place) in
      is_least (PlaceBreaks place) (λ rule. (rule ≡ 15) × HasWrongValue scope function (Gets place)) (of_place scope place) (told 15 wrong) (place_least place)
      (is_told (HasWrongValue scope function (Gets place)) 15 wrong
      (Decides-like wrong (λ (kind, is, (other, given, differs)). let this : word ≡ other = cc in (kind, is, λ same. differs (sym this ∙ sym same)))
      (λ (kind, is, differs). (kind, is, (word, refl, λ same. differs (sym same)))) (are_other_holds (Some word) (type_of_place scope place))))
  act_least Loops = is_told (function.inline ≡ true) 19 function.inline (λ e. e, λ e. e)
  act_least (Counts set tested raised count) =
      let others = least (of_place scope (Name tested)) (of_place scope (Name raised)) in
      let OthersBreak = λ (rule : ℕ). PlaceBreaks (Name tested) rule ⊎ PlaceBreaks (Name raised) rule in
      is_least (λ rule. PlaceBreaks (Name set) rule ⊎ OthersBreak rule) (λ rule. (rule ≡ 20) × Miscounts set tested raised count) (least (of_place scope (Name set)) others) (told 20 (miscounts function set tested raised count))
      (is_least (PlaceBreaks (Name set)) OthersBreak (of_place scope (Name set)) others (place_least (Name set))
      (is_least (PlaceBreaks (Name tested)) (PlaceBreaks (Name raised)) (of_place scope (Name tested)) (of_place scope (Name raised)) (place_least (Name tested)) (place_least (Name raised))))
      (is_told (Miscounts set tested raised count) 20 (miscounts function set tested raised count) (miscounts_holds set tested raised count))
  act_least (Halts kind at line) = λ rule never. never

  -- From actions to rules -----------------------------------------------------------------------------------------------------

  at11 : (rule : ℕ) → rule ≡ 11 → BreaksDeclared file earlier function → BreaksInside file earlier function rule
  at11 rule same broken = inr (inl (same, broken))

  at14 : (rule : ℕ) → rule ≡ 14 → BreaksOperands file function → BreaksInside file earlier function rule
  at14 rule same broken = inr (inr (inl (same, broken)))

  at15 : (rule : ℕ) → rule ≡ 15 → BreaksValues file function → BreaksInside file earlier function rule
  at15 rule same broken = inr (inr (inr (inl (same, broken))))

  at19 : (rule : ℕ) → rule ≡ 19 → BreaksInline earlier function → BreaksInside file earlier function rule
  at19 rule same broken = inr (inr (inr (inr (inr (inr (inr (inl (same, broken))))))))

  at20 : (rule : ℕ) → rule ≡ 20 → BreaksCounts function → BreaksInside file earlier function rule
  at20 rule same broken = inr (inr (inr (inr (inr (inr (inr (inr (inl (same, broken)))))))))

  from_expr : (rule : ℕ) (action : Action) (e : CExpr) → Contains acts action → HasExpr action e → ((name : List ℕ) → NamesRead e name → NamesVariable action name) → ExprBreaks e rule → BreaksInside file earlier function rule
  from_expr rule action e among has reads (inl (same, (name, read, none))) = at11 rule same (inr (action, name, among, reads name read, none))
  from_expr rule action e among has reads (inr (same, misfit)) = at14 rule same (action, e, among, has, misfit)

  from_call : (rule : ℕ) (target : Option CPlace) (name : List ℕ) (arguments : List CExpr) → Contains acts (Calls target name arguments) → Breaks (Calls target name arguments) rule → BreaksInside file earlier function rule
  from_call rule target name arguments among (inl (inl (same, bad))) = at11 rule same (inl (name, flat_in called_by acts (Calls target name arguments) name among (first_in name []), bad))
  from_call rule target name arguments among (inl (inr (same, (inline, late)))) =
      at19 rule same (inline, inr (name, flat_in called_by acts (Calls target name arguments) name among (first_in name []), late))
  from_call rule target name arguments among (inr (inl (place, is, (same, (other, at, none))))) =
      at11 rule same (inr (Calls target name arguments, other, among, inl (is ∙ ap Some at), none))
  from_call rule target name arguments among (inr (inr (inl (e, of, broken)))) = from_expr rule (Calls target name arguments) e among of (λ other read. inr (e, of, read)) broken
  from_call rule target name arguments among (inr (inr (inr (callee, of, (named, inl (same, misfit)))))) =
      inr (inr (inr (inr (inl (same, (callee, target, arguments, (of, subst (λ w. Contains acts (Calls target w arguments)) (sym named) among), misfit))))))
  from_call rule target name arguments among (inr (inr (inr (callee, of, (named, inr (same, (place, is, misfit))))))) =
      inr (inr (inr (inr (inr (inl (same, (callee, place, arguments, (of, subst (λ w. Contains acts (Calls w callee.name arguments)) is (subst (λ w. Contains acts (Calls target w arguments)) (sym named) among)), misfit)))))))

  from_act : (rule : ℕ) (action : Action) → Contains acts action → Breaks action rule → BreaksInside file earlier function rule
  from_act rule (Assigns place e) among (inl (same, (name, is, none))) = at11 rule same (inr (Assigns place e, name, among, inl is, none))
  from_act rule (Assigns place e) among (inr (inl broken)) = from_expr rule (Assigns place e) e among refl (λ name read. inr read) broken
  from_act rule (Assigns place e) among (inr (inr (same, wrong))) = at15 rule same (Assigns place e, among, wrong)
  from_act rule (Calls target name arguments) among broken = from_call rule target name arguments among broken
  from_act rule (Tests test) among (inl broken) = from_expr rule (Tests test) test among refl (λ name read. read) broken
  from_act rule (Tests test) among (inr (same, (other, type, unfit))) = inr (inr (inr (inr (inr (inr (inl (same, (test, other, among, type, unfit))))))))
  from_act rule (Returns None) among (same, wrong) = at15 rule same (Returns None, among, wrong)
  from_act rule (Returns (Some e)) among (inl broken) = from_expr rule (Returns (Some e)) e among refl (λ name read. (e, refl, read)) broken
  from_act rule (Returns (Some e)) among (inr (same, wrong)) = at15 rule same (Returns (Some e), among, wrong)
  from_act rule (Puts e) among (inl broken) = from_expr rule (Puts e) e among refl (λ name read. read) broken
  from_act rule (Puts e) among (inr (same, wrong)) = at15 rule same (Puts e, among, wrong)
  from_act rule (Gets place) among (inl (same, (name, is, none))) = at11 rule same (inr (Gets place, name, among, is, none))
  from_act rule (Gets place) among (inr (same, wrong)) = at15 rule same (Gets place, among, wrong)
  from_act rule Loops among (same, inline) = at19 rule same (inline, inl among)
  from_act rule (Counts set tested raised count) among (inl (inl (same, (name, is, none)))) = at11 rule same (inr (Counts set tested raised count, name, among, inl cc, none))
  from_act rule (Counts set tested raised count) among (inl (inr (inl (same, (name, is, none))))) = at11 rule same (inr (Counts set tested raised count, name, among, inr (inl cc), none))
  from_act rule (Counts set tested raised count) among (inl (inr (inr (same, (name, is, none))))) = at11 rule same (inr (Counts set tested raised count, name, among, inr (inr cc), none))
  from_act rule (Counts set tested raised count) among (inr (same, bad)) = at20 rule same (inl (set, tested, raised, count, among, bad))
  from_act rule (Halts kind at line) among broken = absurd broken

  -- From rules to actions -----------------------------------------------------------------------------------------------------

  -- an action of the function breaks a rule
  abbrev BodyBreaks : ℕ → Type 0
  BodyBreaks rule = (action : Action) × Contains acts action × Breaks action rule

  -- of two names that are known to be one
  to_name : (rule : ℕ) (name : List ℕ) → NameBreaks name rule → (action : Action) → Contains acts action → Contains (called_by action) name → BodyBreaks rule
  to_name rule name broken (Calls target other arguments) among of =
      (Calls target other arguments, among, inl (in_cases (NameBreaks other rule) name other [] (λ same. subst (λ w. NameBreaks w rule) (sym same) broken) (λ none. absurd (in_none name none)) of))
  to_name rule name broken (Assigns place e) among of = absurd (in_none name of)
  to_name rule name broken (Tests test) among of = absurd (in_none name of)
  to_name rule name broken (Returns value) among of = absurd (in_none name of)
  to_name rule name broken (Puts e) among of = absurd (in_none name of)
  to_name rule name broken (Gets place) among of = absurd (in_none name of)
  to_name rule name broken Loops among of = absurd (in_none name of)
  to_name rule name broken (Counts set tested raised count) among of = absurd (in_none name of)
  to_name rule name broken (Halts kind at line) among of = absurd (in_none name of)

  to_called : (rule : ℕ) (name : List ℕ) → NameBreaks name rule → Contains (called function) name → BodyBreaks rule
  to_called rule name broken of = let found = in_flat called_by acts name of in to_name rule name broken found.0 found.1 found.2

  to_read : (rule : ℕ) (action : Action) (name : List ℕ) → rule ≡ 11 → NamesVariable action name → variable scope name ≡ None → Breaks action rule
  to_read rule (Assigns place e) name same (inl is) none = inl (same, (name, is, none))
  to_read rule (Assigns place e) name same (inr read) none = inr (inl (inl (same, (name, read, none))))
  to_read rule (Calls target called arguments) name same (inl is) none = inr (inl (Name name, is, (same, (name, refl, none))))
  to_read rule (Calls target called arguments) name same (inr (e, of, read)) none = inr (inr (inl (e, of, inl (same, (name, read, none)))))
  to_read rule (Tests test) name same read none = inl (inl (same, (name, read, none)))
  to_read rule (Returns None) name same (e, is, read) none = cc
  to_read rule (Returns (Some value)) name same (e, is, read) none = let this : e ≡ value = cc in inl (inl (same, (name, subst (λ w. NamesRead w name) this read, none)))
  to_read rule (Puts e) name same read none = inl (inl (same, (name, read, none)))
  to_read rule (Gets place) name same is none = inl (same, (name, is, none))
  to_read rule Loops name same never none = absurd never
  to_read rule (Counts set tested raised count) name same (inl is) none = inl (inl (same, (name, ap Name is, none)))
  to_read rule (Counts set tested raised count) name same (inr (inl is)) none = inl (inr (inl (same, (name, ap Name is, none))))
  to_read rule (Counts set tested raised count) name same (inr (inr is)) none = inl (inr (inr (same, (name, ap Name is, none))))
  to_read rule (Halts kind at line) name same never none = absurd never

  to_misfit : (rule : ℕ) (action : Action) (e : CExpr) → rule ≡ 14 → HasExpr action e → (typed scope e).fits ≡ false → Breaks action rule
  to_misfit rule (Assigns place value) e same has misfit = inr (inl (inr (same, subst (λ w. (typed scope w).fits ≡ false) (sym has) misfit)))
  to_misfit rule (Calls target called arguments) e same has misfit = inr (inr (inl (e, has, inr (same, misfit))))
  to_misfit rule (Tests test) e same has misfit = inl (inr (same, subst (λ w. (typed scope w).fits ≡ false) (sym has) misfit))
  to_misfit rule (Returns None) e same has misfit = cc
  to_misfit rule (Returns (Some value)) e same has misfit = let this : e ≡ value = cc in inl (inr (same, subst (λ w. (typed scope w).fits ≡ false) this misfit))
  to_misfit rule (Puts value) e same has misfit = inl (inr (same, subst (λ w. (typed scope w).fits ≡ false) (sym has) misfit))
  to_misfit rule (Gets place) e same never misfit = absurd never
  to_misfit rule Loops e same never misfit = absurd never
  to_misfit rule (Counts set tested raised count) e same never misfit = absurd never
  to_misfit rule (Halts kind at line) e same never misfit = absurd never

  to_wrong : (rule : ℕ) (action : Action) → rule ≡ 15 → HasWrongValue scope function action → Breaks action rule
  to_wrong rule (Assigns place e) same wrong = inr (inr (same, wrong))
  to_wrong rule (Calls target called arguments) same never = absurd never
  to_wrong rule (Tests test) same never = absurd never
  to_wrong rule (Returns None) same wrong = (same, wrong)
  to_wrong rule (Returns (Some e)) same wrong = inr (same, wrong)
  to_wrong rule (Puts e) same wrong = inr (same, wrong)
  to_wrong rule (Gets place) same wrong = inr (same, wrong)
  to_wrong rule Loops same never = absurd never
  to_wrong rule (Counts set tested raised count) same never = absurd never
  to_wrong rule (Halts kind at line) same never = absurd never

  -- All of a function -----------------------------------------------------------------------------------------------------------

  -- something in a `for` stores in its variable
  abbrev Recounts : Type 0
  Recounts = list_any (λ s. recounts s []) function.body ≡ true

  abbrev AllBreaks : ℕ → Type 0
  AllBreaks rule = ((rule ≡ 10) × BreaksLocalNames function) ⊎ (BodyBreaks rule ⊎ (((rule ≡ 20) × Recounts) ⊎ ((rule ≡ 21) × BreaksEnd function)))

  from_all : (rule : ℕ) → AllBreaks rule → BreaksInside file earlier function rule
  from_all rule (inl names) = inl names
  from_all rule (inr (inl (action, among, broken))) = from_act rule action among broken
  from_all rule (inr (inr (inl (same, again)))) = at20 rule same (inr again)
  from_all rule (inr (inr (inr ends))) = inr (inr (inr (inr (inr (inr (inr (inr (inr ends))))))))

  to_all : (rule : ℕ) → BreaksInside file earlier function rule → AllBreaks rule
  to_all rule (inl names) = inl names
  to_all rule (inr (inl (same, inl (name, of, bad)))) = inr (inl (to_called rule name (inl (same, bad)) of))
  to_all rule (inr (inl (same, inr (action, name, among, names, none)))) = inr (inl (action, among, to_read rule action name same names none))
  to_all rule (inr (inr (inl (same, (action, e, among, has, misfit))))) = inr (inl (action, among, to_misfit rule action e same has misfit))
  to_all rule (inr (inr (inr (inl (same, (action, among, wrong)))))) = inr (inl (action, among, to_wrong rule action same wrong))
  to_all rule (inr (inr (inr (inr (inl (same, (callee, target, arguments, (of, among), misfit))))))) =
      inr (inl (Calls target callee.name arguments, among, inr (inr (inr (callee, of, (refl, inl (same, misfit)))))))
  to_all rule (inr (inr (inr (inr (inr (inl (same, (callee, place, arguments, (of, among), misfit)))))))) =
      inr (inl (Calls (Some place) callee.name arguments, among, inr (inr (inr (callee, of, (refl, inr (same, (place, refl, misfit))))))))
  to_all rule (inr (inr (inr (inr (inr (inr (inl (same, (test, other, among, type, unfit))))))))) = inr (inl (Tests test, among, inr (same, (other, type, unfit))))
  to_all rule (inr (inr (inr (inr (inr (inr (inr (inl (same, (inline, inl among)))))))))) = inr (inl (Loops, among, (same, inline)))
  to_all rule (inr (inr (inr (inr (inr (inr (inr (inl (same, (inline, inr (name, of, late))))))))))) = inr (inl (to_called rule name (inr (same, (inline, late))) of))
  to_all rule (inr (inr (inr (inr (inr (inr (inr (inr (inl (same, inl (set, tested, raised, count, among, bad))))))))))) = inr (inl (Counts set tested raised count, among, inr (same, bad)))
  to_all rule (inr (inr (inr (inr (inr (inr (inr (inr (inl (same, inr again)))))))))) = inr (inr (inl (same, again)))
  to_all rule (inr (inr (inr (inr (inr (inr (inr (inr (inr ends))))))))) = inr (inr (inr ends))

  -- a function can come to its end
  end_holds : Decides (some_are (map strays function.body) || not (is_void function.result) && not (last_is (map ends_function function.body))) (BreaksEnd function)
  end_holds =
      Decides-or (some_are (map strays function.body)) (not (is_void function.result) && not (last_is (map ends_function function.body))) (λ e. e, λ e. e)
      (Decides-and (not (is_void function.result)) (not (last_is (map ends_function function.body)))
      (Decides-not (is_void function.result) (is_void_holds function.result)) (not_holds (last_is (map ends_function function.body))))

  -- the least rule that is told of a function is the least that it breaks
  pub inside_least : (names again ends : Bool) → Decides names (BreaksLocalNames function) → again ≡ list_any (λ s. recounts s []) function.body
      → ends ≡ (some_are (map strays function.body) || not (is_void function.result) && not (last_is (map ends_function function.body)))
      → IsLeast (BreaksInside file earlier function) (least (told 10 names) (least (of_block (rule_of file earlier function) function.body) (least (told 20 again) (told 21 ends))))
  inside_least names again ends local recounted ended =
      let body = of_block (rule_of file earlier function) function.body in
      let last = least (told 20 again) (told 21 ends) in
      let LastBreaks = λ (rule : ℕ). ((rule ≡ 20) × Recounts) ⊎ ((rule ≡ 21) × BreaksEnd function) in
      is_like AllBreaks (BreaksInside file earlier function) (least (told 10 names) (least body last)) from_all to_all
      (is_least (λ rule. (rule ≡ 10) × BreaksLocalNames function) (λ rule. BodyBreaks rule ⊎ LastBreaks rule) (told 10 names) (least body last)
      (is_told (BreaksLocalNames function) 10 names local)
      (is_least BodyBreaks LastBreaks body last
      (subst (IsLeast BodyBreaks) (sym (least_body (rule_of file earlier function) function.body)) (is_in Breaks (rule_of file earlier function) act_least acts))
      (is_least (λ rule. (rule ≡ 20) × Recounts) (λ rule. (rule ≡ 21) × BreaksEnd function) (told 20 again) (told 21 ends)
      (is_told Recounts 20 again (λ e. sym recounted ∙ e, λ e. recounted ∙ e))
      (is_told (BreaksEnd function) 21 ends
      (Decides-at ends (some_are (map strays function.body) || not (is_void function.result) && not (last_is (map ends_function function.body))) ended end_holds)))))
