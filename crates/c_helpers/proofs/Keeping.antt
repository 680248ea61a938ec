-- What keeps the rules of C inside a function, and what a text can have there, where all variables and values are `int64_t`.
use Rattle.std.proofs.Common.{◌≡◌, ◌≢◌, ◌⊎◌, ℕ, ◌≤◌, List, [], ◌∷◌, ◌++◌, true, false, Option, Some, None, refl, sym, subst, ap, ◌∙◌, inl, inr, All, Contains, map}
use Rattle.std.specs.Prelude.{option_map, IfSome}
use Rattle.std.specs.List.{flat_map, list_any}
use Rattle.std.proofs.lemmas.List.Folds.{list_any_none}
use Rattle.std.proofs.lemmas.List.Elements.{All-nil, All-cons, All-head, All-tail, All-append, All-contains, All-weaker}
use Rattle.c_tree.specs.declared.tree.CFile.{CFile}
use Rattle.c_tree.specs.declared.tree.CVar.{CVar}
use Rattle.c_tree.specs.declared.tree.CFun.{CFun}
use Rattle.c_tree.specs.declared.tree.CPlace.{CPlace}
use Rattle.c_tree.specs.declared.tree.CPlace.TheVariants.{Name}
use Rattle.c_tree.specs.declared.tree.CStmt.{CStmt}
use Rattle.c_tree.specs.declared.tree.CType.{CType}
use Rattle.c_tree.specs.declared.tree.CType.TheVariants.{Void}
use Rattle.c_tree.specs.declared.tree.CExpr.{CExpr}
use Rattle.c_tree.specs.Words.{IsName}
use Rattle.c_tree.specs.WellFormed.{greatest, IsLeaf, IsExpr, IsAction, IsPlace, IsStmt, stmt_depth}
use Rattle.c_tree.specs.Parts.{Leaf, Constant, Reads, leaves, Action, Assigns, Calls, Tests, Returns, Puts, Gets, Loops, Counts, Halts, actions, actions_in}
use Rattle.c_tree.specs.Bytes.{called, called_by}
use Rattle.c_tree.specs.Scope.{Scope, scope_of, variable}
use Rattle.c_tree.specs.Rules.{word, var_names, fun_names, NamesClash, IsDeclared, NamesRead, NamesVariable, BreaksInside, type_of_name, typed, HasExpr, HasOtherType, HasWrongValue, ArgumentsMisfit, recounts, last_is, ends_function, some_are, strays}
use Rattle.c_tree.specs.Rules as rules

-- Expressions ---------------------------------------------------------------------------------------------------------

module _ (scope : Scope) where
  -- a variable that is declared as an `int64_t`
  pub record IsKnown (name : List ℕ) : Type 0 where
    pub spelled : IsName name
    pub type : type_of_name scope name ≡ Some word

  -- a leaf is a constant that there is, or such a variable
  abbrev pub LeafGood : Leaf → Type 0
  LeafGood (Constant signed number) = number ≤ greatest signed
  LeafGood (Reads (Name name)) = IsKnown name

  -- an expression has such leaves, and is an `int64_t`
  pub record ExprGood (e : CExpr) : Type 0 where
    pub each : All LeafGood (leaves e)
    pub type : typed scope e ≡ record { type = Some word; fits = true }

  -- arguments have the types of the parameters
  abbrev pub ArgumentsGood : List CExpr → List CVar → Type 0
  ArgumentsGood [] [] = Unit {0}
  ArgumentsGood [] (param ∷ params) = ⊥
  ArgumentsGood (e ∷ es) [] = ⊥
  ArgumentsGood (e ∷ es) (param ∷ params) = ExprGood e × (param.kind ≡ word) × ArgumentsGood es params

  -- where there is a place for a result, both are `int64_t`
  abbrev pub TargetGood : Option CPlace → CType → Type 0
  TargetGood None result = Unit {0}
  TargetGood (Some (Name name)) result = IsKnown name × (result ≡ word)

  -- such a variable is declared
  pub declared_name : (name : List ℕ) → IsKnown name → variable scope name ≢ None
  declared_name name known none = let same : None ≡ Some word = sym (ap (λ var. option_map (λ (var : CVar). var.kind) var) none) ∙ known.type in cc

  -- what such an expression reads is declared
  reads_known : (e : CExpr) → ExprGood e → (name : List ℕ) → NamesRead e name → variable scope name ≢ None
  reads_known e good name read = declared_name name (All-contains LeafGood (leaves e) (Reads (Name name)) good.each read)

  -- it has no other type
  right_type : (e : CExpr) → ExprGood e → ¬ HasOtherType scope e word
  right_type e good (other, is, differ) = let same : Some word ≡ Some other = sym (ap (λ typed. typed.type) good.type) ∙ is in differ cc

  -- its operands fit
  right_operands : (e : CExpr) → ExprGood e → (typed scope e).fits ≢ false
  right_operands e good misfit = let same : true ≡ false = sym (ap (λ typed. typed.fits) good.type) ∙ misfit in cc

  -- a leaf can be in a text
  formed_leaf : (leaf : Leaf) → LeafGood leaf → IsLeaf leaf
  formed_leaf (Constant signed number) good = good
  formed_leaf (Reads (Name name)) good = good.spelled

  -- and so can the expression
  pub formed_expr : (e : CExpr) → ExprGood e → IsExpr e
  formed_expr e good = All-weaker LeafGood IsLeaf formed_leaf (leaves e) good.each

  -- such arguments don't differ from the parameters
  right_arguments : (es : List CExpr) (params : List CVar) → ArgumentsGood es params → ¬ ArgumentsMisfit scope es params
  right_arguments [] [] good misfit = misfit
  right_arguments [] (param ∷ params) good misfit = good
  right_arguments (e ∷ es) [] good misfit = good
  right_arguments (e ∷ es) (param ∷ params) good (inl other) = right_type e good.0 (subst (HasOtherType scope e) good.1 other)
  right_arguments (e ∷ es) (param ∷ params) good (inr misfit) = right_arguments es params good.2 misfit

  -- each of them is such an expression
  pub each_argument : (es : List CExpr) (params : List CVar) → ArgumentsGood es params → All ExprGood es
  each_argument [] params good = All-nil ExprGood
  each_argument (e ∷ es) [] good = absurd good
  each_argument (e ∷ es) (param ∷ params) good = All-cons ExprGood e es good.0 (each_argument es params good.2)

  one_argument : (es : List CExpr) (params : List CVar) → ArgumentsGood es params → (e : CExpr) → Contains es e → ExprGood e
  one_argument es params good e among = All-contains ExprGood es e (each_argument es params good) among

  -- the target of a call is declared
  target_known : (target : Option CPlace) (result : CType) → TargetGood target result → (name : List ℕ) → target ≡ Some (Name name) → variable scope name ≢ None
  target_known None result good name is = cc
  target_known (Some (Name other)) result good name is = let same : other ≡ name = cc in subst (λ name. variable scope name ≢ None) same (declared_name other good.0)

  -- it can be in a text
  formed_target : (target : Option CPlace) (result : CType) → TargetGood target result → IfSome target IsPlace
  formed_target None result good = tt
  formed_target (Some (Name name)) result good = good.0.spelled

  -- a result has a place of its type
  result_right : (place : CPlace) (result : CType) → TargetGood (Some place) result → ¬ ((result ≡ Void) ⊎ ((kind : CType) × (rules.type_of_place scope place ≡ Some kind) × (kind ≢ result)))
  result_right (Name name) result good (inl none) = let same : word ≡ Void = sym good.1 ∙ none in cc
  result_right (Name name) result good (inr (kind, is, differ)) = let same : Some word ≡ Some kind = sym good.0.type ∙ is in let right : word ≡ kind = cc in differ (sym right ∙ sym good.1)

-- Functions -----------------------------------------------------------------------------------------------------------

-- functions with this name have these parameters and this result
abbrev pub AreAll : List ℕ → List CVar → CType → CFun → Type 0
AreAll name params result other = other.name ≡ name → (other.params ≡ params) × (other.result ≡ result)

module _ (file : CFile) (before : List CFun) (function : CFun) where
  -- what the function can name
  abbrev pub inside : Scope
  inside = scope_of file function

  -- the function can call what has this name, these parameters and this result
  pub record CanCall (name : List ℕ) (params : List CVar) (result : CType) : Type 0 where
    pub spelled : IsName name
    pub only : All (AreAll name params result) file.functions
    pub declared : IsDeclared file before function name
    pub seen : ¬ Contains (var_names (function.params ++ function.vars)) name
    pub below : function.inline ≡ true → (callee : CFun) × Contains before callee × (callee.inline ≡ true) × (callee.name ≡ name)

  -- a call of it, with fitting arguments and a fitting place for the result
  pub record CallGood (target : Option CPlace) (name : List ℕ) (arguments : List CExpr) : Type 0 where
    pub params : List CVar
    pub result : CType
    pub can : CanCall name params result
    pub fits : ArgumentsGood inside arguments params
    pub stored : TargetGood inside target result

  -- An action that breaks no rule and can be in a text. None counts, and in an inline function none goes round
  abbrev pub ActionGood : Action → Type 0
  ActionGood (Assigns (Name name) e) = IsKnown inside name × ExprGood inside e
  ActionGood (Calls target name arguments) = CallGood target name arguments
  ActionGood (Tests test) = ExprGood inside test
  ActionGood (Returns None) = function.result ≡ Void
  ActionGood (Returns (Some e)) = (function.result ≡ word) × ExprGood inside e
  ActionGood (Puts e) = ExprGood inside e
  ActionGood (Gets (Name name)) = IsKnown inside name
  ActionGood Loops = function.inline ≡ false
  ActionGood (Counts set tested raised count) = ⊥
  ActionGood (Halts kind file line) = IsAction (Halts kind file line)

  -- a statement of such actions, that stores in the variable of no `for` and nests at most so deep
  pub record StmtGood (depth : ℕ) (s : CStmt) : Type 0 where
    pub acts : All ActionGood (actions s)
    pub counts : recounts s [] ≡ false
    pub deep : stmt_depth s ≤ depth

  -- a function that keeps the rules
  pub record FunctionGood : Type 0 where
    pub names : ¬ NamesClash (var_names (function.params ++ function.vars))
    pub body : All (StmtGood 1024) function.body
    pub loops : some_are (map strays function.body) ≡ false
    pub ends : function.result ≢ Void → last_is (map ends_function function.body) ≡ true

  -- an action can be in a text
  formed_action : (action : Action) → ActionGood action → IsAction action
  formed_action (Assigns (Name name) e) good = (good.0.spelled, formed_expr inside e good.1)
  formed_action (Calls target name arguments) good =
      (formed_target inside target good.result good.stored, good.can.spelled, All-weaker (ExprGood inside) IsExpr (formed_expr inside) arguments (each_argument inside arguments good.params good.fits))
  formed_action (Tests test) good = formed_expr inside test good
  formed_action (Returns None) good = tt
  formed_action (Returns (Some e)) good = formed_expr inside e good.1
  formed_action (Puts e) good = formed_expr inside e good
  formed_action (Gets (Name name)) good = good.spelled
  formed_action Loops good = tt
  formed_action (Counts set tested raised count) good = absurd good
  formed_action (Halts kind file line) good = good

  -- a statement can
  formed_stmt : (depth : ℕ) (s : CStmt) → StmtGood depth s → IsStmt s
  formed_stmt depth s good = All-weaker ActionGood IsAction formed_action (actions s) good.acts

  module _ (good : FunctionGood) where
    -- the statements can be in a text
    pub formed_body : All IsStmt function.body
    formed_body = All-weaker (StmtGood 1024) IsStmt (formed_stmt 1024) function.body good.body

    -- and don't nest too deep
    pub body_nesting : All (λ s. stmt_depth s ≤ 1024) function.body
    body_nesting = All-weaker (StmtGood 1024) (λ s. stmt_depth s ≤ 1024) (λ s h. h.deep) function.body good.body

    -- all actions of statements
    actions_good : (depth : ℕ) (body : List CStmt) → All (StmtGood depth) body → All ActionGood (actions_in body)
    actions_good depth [] all = All-nil ActionGood
    actions_good depth (s ∷ body) all = All-append ActionGood (actions s) (actions_in body) (All-head (StmtGood depth) s body all).acts (actions_good depth body (All-tail (StmtGood depth) s body all))

    -- each action of the function
    action_good : (action : Action) → Contains (actions_in function.body) action → ActionGood action
    action_good action among = All-contains ActionGood (actions_in function.body) action (actions_good 1024 function.body good.body) among

    -- what can be called with some parameters and some result
    abbrev NameGood : List ℕ → Type 0
    NameGood name = (params : List CVar) × (result : CType) × CanCall name params result

    -- what an action calls
    name_of : (action : Action) → ActionGood action → All NameGood (called_by action)
    name_of (Assigns place e) good = All-nil NameGood
    name_of (Calls target name arguments) good = All-cons NameGood name [] (good.params, good.result, good.can) (All-nil NameGood)
    name_of (Tests test) good = All-nil NameGood
    name_of (Returns value) good = All-nil NameGood
    name_of (Puts e) good = All-nil NameGood
    name_of (Gets place) good = All-nil NameGood
    name_of Loops good = All-nil NameGood
    name_of (Counts set tested raised count) good = All-nil NameGood
    name_of (Halts kind file line) good = All-nil NameGood

    names_of : (all : List Action) → All ActionGood all → All NameGood (flat_map called_by all)
    names_of [] good = All-nil NameGood
    names_of (action ∷ all) good = All-append NameGood (called_by action) (flat_map called_by all) (name_of action (All-head ActionGood action all good)) (names_of all (All-tail ActionGood action all good))

    name_good : (name : List ℕ) → Contains (called function) name → NameGood name
    name_good name among = All-contains NameGood (called function) name (names_of (actions_in function.body) (actions_good 1024 function.body good.body)) among

    -- an action names no variable that isn't declared
    names_known : (action : Action) → ActionGood action → (name : List ℕ) → NamesVariable action name → variable inside name ≢ None
    names_known (Assigns (Name other) e) kept name (inl is) = let same : other ≡ name = cc in subst (λ name. variable inside name ≢ None) same (declared_name inside other kept.0)
    names_known (Assigns (Name other) e) kept name (inr read) = reads_known inside e kept.1 name read
    names_known (Calls target callee arguments) kept name (inl is) = target_known inside target kept.result kept.stored name is
    names_known (Calls target callee arguments) kept name (inr (e, among, read)) = reads_known inside e (one_argument inside arguments kept.params kept.fits e among) name read
    names_known (Tests test) kept name read = reads_known inside test kept name read
    names_known (Returns None) kept name (e, is, read) = cc
    names_known (Returns (Some value)) kept name (e, is, read) = let same : value ≡ e = cc in reads_known inside value kept.1 name (subst (λ e. NamesRead e name) (sym same) read)
    names_known (Puts e) kept name read = reads_known inside e kept name read
    names_known (Gets (Name other)) kept name is = let same : other ≡ name = cc in subst (λ name. variable inside name ≢ None) same (declared_name inside other kept)
    names_known Loops kept name read = absurd read
    names_known (Counts set tested raised count) kept name read = absurd kept
    names_known (Halts kind file line) kept name read = absurd read

    -- the operands in its expressions fit
    operands_right : (action : Action) → ActionGood action → (e : CExpr) → HasExpr action e → (typed inside e).fits ≢ false
    operands_right (Assigns (Name other) value) kept e is = subst (λ e. (typed inside e).fits ≢ false) is (right_operands inside value kept.1)
    operands_right (Calls target callee arguments) kept e among = right_operands inside e (one_argument inside arguments kept.params kept.fits e among)
    operands_right (Tests test) kept e is = subst (λ e. (typed inside e).fits ≢ false) is (right_operands inside test kept)
    operands_right (Returns None) kept e is = cc
    operands_right (Returns (Some value)) kept e is = let same : value ≡ e = cc in subst (λ e. (typed inside e).fits ≢ false) same (right_operands inside value kept.1)
    operands_right (Puts value) kept e is = subst (λ e. (typed inside e).fits ≢ false) is (right_operands inside value kept)
    operands_right (Gets place) kept e is = absurd is
    operands_right Loops kept e is = absurd is
    operands_right (Counts set tested raised count) kept e is = absurd is
    operands_right (Halts kind file line) kept e is = absurd is

    -- and its value has the type that is wanted
    value_right : (action : Action) → ActionGood action → ¬ HasWrongValue inside function action
    value_right (Assigns (Name name) e) kept (kind, is, other) =
        let same : Some word ≡ Some kind = sym kept.0.type ∙ is in let right : kind ≡ word = cc in right_type inside e kept.1 (subst (HasOtherType inside e) right other)
    value_right (Calls target callee arguments) kept wrong = wrong
    value_right (Tests test) kept wrong = wrong
    value_right (Returns None) kept wrong = wrong kept
    value_right (Returns (Some e)) kept wrong = right_type inside e kept.1 (subst (HasOtherType inside e) kept.0 wrong)
    value_right (Puts e) kept wrong = right_type inside e kept wrong
    value_right (Gets (Name name)) kept (kind, is, other) = let same : Some word ≡ Some kind = sym kept.type ∙ is in let right : word ≡ kind = cc in other (sym right)
    value_right Loops kept wrong = wrong
    value_right (Counts set tested raised count) kept wrong = wrong
    value_right (Halts kind file line) kept wrong = wrong

    -- what is called has the parameters and the result for which the call is made
    right_callee : (callee : CFun) (target : Option CPlace) (arguments : List CExpr) → Contains file.functions callee → (kept : CallGood target callee.name arguments)
        → (callee.params ≡ kept.params) × (callee.result ≡ kept.result)
    right_callee callee target arguments among kept = All-contains (AreAll callee.name kept.params kept.result) file.functions callee kept.can.only among refl

    -- nothing stores in the variable of a `for`
    none_counts : list_any (λ s. recounts s []) function.body ≡ false
    none_counts = list_any_none (λ s. recounts s []) function.body (All-weaker (StmtGood 1024) (λ s. recounts s [] ≡ false) (λ s h. h.counts) function.body good.body)

    -- so it breaks no rule
    pub function_keeps : (rule : ℕ) → ¬ BreaksInside file before function rule
    function_keeps rule (inl (is, clash)) = good.names clash
    function_keeps rule (inr (inl (is, inl (name, among, inl undeclared)))) = undeclared (name_good name among).2.declared
    function_keeps rule (inr (inl (is, inl (name, among, inr hidden)))) = (name_good name among).2.seen hidden
    function_keeps rule (inr (inl (is, inr (action, name, among, has, none)))) = names_known action (action_good action among) name has none
    function_keeps rule (inr (inr (inl (is, (action, e, among, has, misfit))))) = operands_right action (action_good action among) e has misfit
    function_keeps rule (inr (inr (inr (inl (is, (action, among, wrong)))))) = value_right action (action_good action among) wrong
    function_keeps rule (inr (inr (inr (inr (inl (is, (callee, target, arguments, so, misfit))))))) =
        let kept : CallGood target callee.name arguments = action_good (Calls target callee.name arguments) so.1 in
        right_arguments inside arguments kept.params kept.fits (subst (ArgumentsMisfit inside arguments) (right_callee callee target arguments so.0 kept).0 misfit)
    function_keeps rule (inr (inr (inr (inr (inr (inl (is, (callee, place, arguments, so, wrong)))))))) =
        let kept : CallGood (Some place) callee.name arguments = action_good (Calls (Some place) callee.name arguments) so.1 in
        result_right inside place callee.result (subst (TargetGood inside (Some place)) (sym (right_callee callee (Some place) arguments so.0 kept).1) kept.stored) wrong
    function_keeps rule (inr (inr (inr (inr (inr (inr (inl (is, (test, other, among, has, narrow))))))))) =
        let kept : ExprGood inside test = action_good (Tests test) among in
        let same : Some word ≡ Some other = sym (ap (λ typed. typed.type) kept.type) ∙ has in
        let right : word ≡ other = cc in
        let wide : true ≡ false = ap rules.is_word right ∙ narrow in
        cc
    function_keeps rule (inr (inr (inr (inr (inr (inr (inr (inl (is, (inline, inl loops)))))))))) = let same : true ≡ false = sym inline ∙ action_good Loops loops in cc
    function_keeps rule (inr (inr (inr (inr (inr (inr (inr (inl (is, (inline, inr (name, among, not))))))))))) =
        let below : (callee : CFun) × Contains before callee × (callee.inline ≡ true) × (callee.name ≡ name) = (name_good name among).2.below inline in
        not below.0 below.1 below.2 below.3
    function_keeps rule (inr (inr (inr (inr (inr (inr (inr (inr (inl (is, inl (set, tested, raised, count, among, wrong))))))))))) = action_good (Counts set tested raised count) among
    function_keeps rule (inr (inr (inr (inr (inr (inr (inr (inr (inl (is, inr counts)))))))))) = let same : true ≡ false = sym counts ∙ none_counts in cc
    function_keeps rule (inr (inr (inr (inr (inr (inr (inr (inr (inr (is, inl stray)))))))))) = let same : true ≡ false = sym stray ∙ good.loops in cc
    function_keeps rule (inr (inr (inr (inr (inr (inr (inr (inr (inr (is, inr (result, ended))))))))))) = let same : true ≡ false = sym (good.ends result) ∙ ended in cc
