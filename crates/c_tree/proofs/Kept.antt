-- A tree with something of everything breaks no rule: a struct with an array and a union, a global variable, inline functions of
-- which one calls the other with an argument, a function whose result is stored and which stands behind its caller, an `if` with
-- `else` and one without, a counted loop in an inline function, a loop that is left by a `break` in an `if`, a byte of the input, and a
-- halt.
use Rattle.std.proofs.Common.{◌≡◌, ◌≢◌, ◌⊎◌, ℕ, ◌-◌, ◌^◌, ◌<◌, ◌≤◌, List, [], ◌∷◌, ◌++◌, map, true, false, Option, Some, None, refl, sym, subst, ap, ◌∙◌, inl, inr, arith, All, Contains, codes, bytes_eq}
use Rattle.std.specs.Prelude.{option_map}
use Rattle.std.specs.List.{AllByRecursion, count_by, list_any, IsDistinct}
use Rattle.std.proofs.lemmas.List.Elements.{All-nil, All-cons, All-contains, All-from_recursion}
use Rattle.sl_num.specs.declared.comparing.Comparison.TheVariants.{Less}
use Rattle.c_tree.specs.declared.tree.CArg.TheVariants.{Value}
use Rattle.c_tree.specs.declared.tree.CBinary.TheVariants.{Add}
use Rattle.c_tree.specs.declared.tree.CFile.{CFile}
use Rattle.c_tree.specs.declared.tree.CStruct.{CStruct}
use Rattle.c_tree.specs.declared.tree.CMember.{CMember}
use Rattle.c_tree.specs.declared.tree.CVar.{CVar}
use Rattle.c_tree.specs.declared.tree.CFun.{CFun}
use Rattle.c_tree.specs.declared.tree.CPlace.{CPlace}
use Rattle.c_tree.specs.declared.tree.CPlace.TheVariants.{Name}
use Rattle.c_tree.specs.declared.tree.CStmt.{CStmt}
use Rattle.c_tree.specs.declared.tree.CStmt.TheVariants.{Call, If, Loop, Count, Break, Return, Put, Get, Halt}
use Rattle.c_tree.specs.declared.tree.CType.{CType}
use Rattle.c_tree.specs.declared.tree.CType.TheVariants.{Int, Void}
use Rattle.c_tree.specs.declared.tree.CExpr.{CExpr}
use Rattle.c_tree.specs.declared.tree.CExpr.TheVariants.{Binary, Compare, Negate}
use Rattle.c_tree.specs.Words.{reserved_words}
use Rattle.c_tree.specs.Parts.{Leaf, Constant, Reads, leaves, Action, Assigns, Calls, Tests, Returns, Puts, Gets, Loops, Counts, Halts, actions_in}
use Rattle.c_tree.specs.Bytes.{struct_extent, called}
use Rattle.c_tree.specs.Scope.{Scope, scope_of, var_named, or_else, variable}
use Rattle.c_tree.specs.Rules.{var_names, fun_names, NamesClash, BreaksSizes, IsDeclared, NamesRead, NamesVariable, BreaksOutside, BreaksInside, Breaks, is_word, type_of_name, typed, CanCount, recounts, some_are, strays, HasExpr, HasOtherType, HasWrongValue, ArgumentsMisfit, last_is, ends_function, AreAlike, KeepsRules}
use Rattle.c_tree.specs.Rules as rules
use Rattle.c_tree.proofs.Variants.{leaves_are, types_are, actions_are, ends_are, strays_are, recounts_are}
use Rattle.c_tree.proofs.Names.{names_differ, none_of, no_clash as no_clash_of}
use Rattle.c_tree.proofs.Lists.{in_none, first_in, second_in, of_one, AllPlaces, at_place}
use Rattle.c_tree.proofs.Small.{word, proto_of, function_with, inline_with, start_with, signed, unsigned, named, give, bare_call, set, member_of, struct_alone}

-- Typed functions -----------------------------------------------------------------------------------------------------

-- a leaf names what is declared
abbrev LeafKnown : Scope → Leaf → Type 0
LeafKnown scope (Constant signed number) = Unit {0}
LeafKnown scope (Reads (Name name)) = variable scope name ≢ None

-- an expression names what is declared, and has this type
record ExprKeeps (scope : Scope) (e : CExpr) (kind : CType) : Type 0 where
  pub parts : List Leaf
  pub are : leaves e ≡ parts
  pub known : AllByRecursion (LeafKnown scope) parts
  pub type : typed scope e ≡ record { type = Some kind; fits = true }

-- arguments have the types of the parameters
abbrev ArgumentsKeep : Scope → List CExpr → List CVar → Type 0
ArgumentsKeep scope [] [] = Unit {0}
ArgumentsKeep scope [] (param ∷ params) = ⊥
ArgumentsKeep scope (e ∷ es) [] = ⊥
ArgumentsKeep scope (e ∷ es) (param ∷ params) = ExprKeeps scope e param.kind × ArgumentsKeep scope es params

-- there is a result for a place, which has its type
abbrev TargetKeeps : Scope → Option CPlace → CType → Type 0
TargetKeeps scope None result = Unit {0}
TargetKeeps scope (Some (Name name)) result = (type_of_name scope name ≡ Some result) × (result ≢ Void)

-- an expression that keeps the rules reads no variable that isn't declared
reads_known : (scope : Scope) (e : CExpr) (kind : CType) → ExprKeeps scope e kind → (name : List ℕ) → NamesRead e name → variable scope name ≢ None
reads_known scope e kind keeps name read =
    All-contains (LeafKnown scope) keeps.parts (Reads (Name name)) (All-from_recursion (LeafKnown scope) keeps.parts keeps.known) (subst (λ parts. Contains parts (Reads (Name name))) keeps.are read)

-- it has no other type
right_type : (scope : Scope) (e : CExpr) (kind : CType) → ExprKeeps scope e kind → ¬ HasOtherType scope e kind
right_type scope e kind keeps (other, is, differ) = let same : Some kind ≡ Some other = sym (ap (λ typed. typed.type) keeps.type) ∙ is in differ cc

-- and its operands fit
right_operands : (scope : Scope) (e : CExpr) (kind : CType) → ExprKeeps scope e kind → (typed scope e).fits ≢ false
right_operands scope e kind keeps misfit = let same : true ≡ false = sym (ap (λ typed. typed.fits) keeps.type) ∙ misfit in cc

-- a name with a type is declared
declared_name : (scope : Scope) (name : List ℕ) (kind : CType) → type_of_name scope name ≡ Some kind → variable scope name ≢ None
declared_name scope name kind is none = let same : None ≡ Some kind = sym (ap (λ var. option_map (λ (var : CVar). var.kind) var) none) ∙ is in cc

-- a local variable with a type is declared
counter_known : (local other : Option CVar) → option_map (λ (var : CVar). var.kind) local ≡ Some rules.word → or_else local other ≢ None
counter_known None other is none = cc
counter_known (Some var) other is none = cc

-- arguments that keep the rules don't differ from the parameters
right_arguments : (scope : Scope) (es : List CExpr) (params : List CVar) → ArgumentsKeep scope es params → ¬ ArgumentsMisfit scope es params
right_arguments scope [] [] keeps misfit = misfit
right_arguments scope [] (param ∷ params) keeps misfit = keeps
right_arguments scope (e ∷ es) [] keeps misfit = keeps
right_arguments scope (e ∷ es) (param ∷ params) keeps (inl other) = right_type scope e param.kind keeps.0 other
right_arguments scope (e ∷ es) (param ∷ params) keeps (inr misfit) = right_arguments scope es params keeps.1 misfit

-- each of them keeps the rules
each_argument : (scope : Scope) (es : List CExpr) (params : List CVar) → ArgumentsKeep scope es params → All (λ e. (kind : CType) × ExprKeeps scope e kind) es
each_argument scope [] params keeps = All-nil (λ e. (kind : CType) × ExprKeeps scope e kind)
each_argument scope (e ∷ es) [] keeps = absurd keeps
each_argument scope (e ∷ es) (param ∷ params) keeps = All-cons (λ e. (kind : CType) × ExprKeeps scope e kind) e es (param.kind, keeps.0) (each_argument scope es params keeps.1)

-- so does one of them
one_argument : (scope : Scope) (es : List CExpr) (params : List CVar) → ArgumentsKeep scope es params → (e : CExpr) → Contains es e → (kind : CType) × ExprKeeps scope e kind
one_argument scope es params keeps e among = All-contains (λ e. (kind : CType) × ExprKeeps scope e kind) es e (each_argument scope es params keeps) among

module _ (file : CFile) (before : List CFun) (function : CFun) where
  -- what the function can name
  abbrev inside : Scope
  inside = scope_of file function

  -- a call fits the one function with its name
  record CallKeeps (target : Option CPlace) (name : List ℕ) (arguments : List CExpr) : Type 0 where
    pub callee : CFun
    pub only : AllByRecursion (λ other. other.name ≡ name → other ≡ callee) file.functions
    pub fits : ArgumentsKeep inside arguments callee.params
    pub stored : TargetKeeps inside target callee.result

  -- an action keeps the rules of types
  abbrev ActionKeeps : Action → Type 0
  ActionKeeps (Assigns (Name name) e) = (kind : CType) × (type_of_name inside name ≡ Some kind) × ExprKeeps inside e kind
  ActionKeeps (Calls target name arguments) = CallKeeps target name arguments
  ActionKeeps (Tests test) = (kind : CType) × (is_word kind ≡ true) × ExprKeeps inside test kind
  ActionKeeps (Returns None) = function.result ≡ Void
  ActionKeeps (Returns (Some e)) = ExprKeeps inside e function.result
  ActionKeeps (Puts e) = ExprKeeps inside e rules.word
  ActionKeeps (Gets (Name name)) = type_of_name inside name ≡ Some rules.word
  ActionKeeps Loops = function.inline ≡ false
  ActionKeeps (Counts set tested raised count) = CanCount function set × (tested ≡ set) × (raised ≡ set) × (count ≤ 2 ^ 24)
  ActionKeeps (Halts kind file line) = Unit {0}

  -- a name that is called is declared and not hidden, and where the caller is inline it is that of an inline function before it
  record NameKeeps (name : List ℕ) : Type 0 where
    pub declared : IsDeclared file before function name
    pub seen : ¬ Contains (var_names (function.params ++ function.vars)) name
    pub below : function.inline ≡ true → (callee : CFun) × Contains before callee × (callee.inline ≡ true) × (callee.name ≡ name)

  -- a function that keeps the rules
  record FunctionKeeps : Type 0 where
    pub names : ¬ NamesClash (var_names (function.params ++ function.vars))
    pub does : List Action
    pub acts : actions_in function.body ≡ does
    pub each : AllByRecursion ActionKeeps does
    pub callees : List (List ℕ)
    pub calls : called function ≡ callees
    pub reached : AllByRecursion NameKeeps callees
    pub counts : list_any (λ s. recounts s []) function.body ≡ false
    pub breaks : some_are (map strays function.body) ≡ false
    pub ends : function.result ≢ Void → last_is (map ends_function function.body) ≡ true

  module _ (keeps : FunctionKeeps) where
    -- each of its actions does
    action_keeps : (action : Action) → Contains (actions_in function.body) action → ActionKeeps action
    action_keeps action among =
        All-contains ActionKeeps keeps.does action (All-from_recursion ActionKeeps keeps.does keeps.each) (subst (λ actions. Contains actions action) keeps.acts among)

    -- and each name that it calls
    name_keeps : (name : List ℕ) → Contains (called function) name → NameKeeps name
    name_keeps name among =
        All-contains NameKeeps keeps.callees name (All-from_recursion NameKeeps keeps.callees keeps.reached) (subst (λ names. Contains names name) keeps.calls among)

    -- the target of a call is declared
    target_known : (target : Option CPlace) (result : CType) → TargetKeeps inside target result → (name : List ℕ) → target ≡ Some (Name name) → variable inside name ≢ None
    target_known None result kept name is = cc
    target_known (Some (Name other)) result kept name is =
        let same : other ≡ name = cc in subst (λ name. variable inside name ≢ None) same (declared_name inside other result kept.0)

    -- the three names of a `for` are one
    counted_name : (set tested raised name : List ℕ) → tested ≡ set → raised ≡ set → (set ≡ name) ⊎ (tested ≡ name) ⊎ (raised ≡ name) → set ≡ name
    counted_name set tested raised name h k (inl is) = is
    counted_name set tested raised name h k (inr (inl is)) = sym h ∙ is
    counted_name set tested raised name h k (inr (inr is)) = sym k ∙ is

    -- an action names no variable that isn't declared
    names_known : (action : Action) → ActionKeeps action → (name : List ℕ) → NamesVariable action name → variable inside name ≢ None
    names_known (Assigns (Name other) e) kept name (inl is) =
        let same : other ≡ name = cc in subst (λ name. variable inside name ≢ None) same (declared_name inside other kept.0 kept.1)
    names_known (Assigns (Name other) e) kept name (inr read) = reads_known inside e kept.0 kept.2 name read
    names_known (Calls target callee arguments) kept name (inl is) = target_known target kept.callee.result kept.stored name is
    names_known (Calls target callee arguments) kept name (inr (e, among, read)) =
        let argument : (kind : CType) × ExprKeeps inside e kind = one_argument inside arguments kept.callee.params kept.fits e among in
        reads_known inside e argument.0 argument.1 name read
    names_known (Tests test) kept name read = reads_known inside test kept.0 kept.2 name read
    names_known (Returns None) kept name (e, is, read) = cc
    names_known (Returns (Some value)) kept name (e, is, read) =
        let same : value ≡ e = cc in reads_known inside value function.result kept name (subst (λ e. NamesRead e name) (sym same) read)
    names_known (Puts e) kept name read = reads_known inside e rules.word kept name read
    names_known (Gets (Name other)) kept name is = let same : other ≡ name = cc in subst (λ name. variable inside name ≢ None) same (declared_name inside other rules.word kept)
    names_known Loops kept name read = absurd read
    names_known (Counts set tested raised count) kept name named =
        subst (λ name. variable inside name ≢ None) (counted_name set tested raised name kept.1 kept.2 named) (counter_known (var_named (function.params ++ function.vars) set) (var_named file.globals set) kept.0)
    names_known (Halts kind file line) kept name read = absurd read

    -- the operands in its expressions fit
    operands_right : (action : Action) → ActionKeeps action → (e : CExpr) → HasExpr action e → (typed inside e).fits ≢ false
    operands_right (Assigns (Name other) value) kept e is = subst (λ e. (typed inside e).fits ≢ false) is (right_operands inside value kept.0 kept.2)
    operands_right (Calls target callee arguments) kept e among =
        let argument : (kind : CType) × ExprKeeps inside e kind = one_argument inside arguments kept.callee.params kept.fits e among in
        right_operands inside e argument.0 argument.1
    operands_right (Tests test) kept e is = subst (λ e. (typed inside e).fits ≢ false) is (right_operands inside test kept.0 kept.2)
    operands_right (Returns None) kept e is = cc
    operands_right (Returns (Some value)) kept e is =
        let same : value ≡ e = cc in subst (λ e. (typed inside e).fits ≢ false) same (right_operands inside value function.result kept)
    operands_right (Puts value) kept e is = subst (λ e. (typed inside e).fits ≢ false) is (right_operands inside value rules.word kept)
    operands_right (Gets place) kept e is = absurd is
    operands_right Loops kept e is = absurd is
    operands_right (Counts set tested raised count) kept e is = absurd is
    operands_right (Halts kind file line) kept e is = absurd is

    -- and its value has the type that is wanted
    value_right : (action : Action) → ActionKeeps action → ¬ HasWrongValue inside function action
    value_right (Assigns (Name name) e) kept (kind, is, other) =
        let same : Some kept.0 ≡ Some kind = sym kept.1 ∙ is in
        let right : kept.0 ≡ kind = cc in
        right_type inside e kind (subst (ExprKeeps inside e) right kept.2) other
    value_right (Calls target callee arguments) kept wrong = wrong
    value_right (Tests test) kept wrong = wrong
    value_right (Returns None) kept wrong = wrong kept
    value_right (Returns (Some e)) kept wrong = right_type inside e function.result kept wrong
    value_right (Puts e) kept wrong = right_type inside e rules.word kept wrong
    value_right (Gets (Name name)) kept (kind, is, other) = let same : Some rules.word ≡ Some kind = sym kept ∙ is in other cc
    value_right Loops kept wrong = wrong
    value_right (Counts set tested raised count) kept wrong = wrong
    value_right (Halts kind file line) kept wrong = wrong

    -- what is called so is the one function with the name
    same_callee : (callee : CFun) (target : Option CPlace) (arguments : List CExpr) → Contains file.functions callee → (kept : CallKeeps target callee.name arguments) → callee ≡ kept.callee
    same_callee callee target arguments among kept =
        All-contains (λ other. other.name ≡ callee.name → other ≡ kept.callee) file.functions callee (All-from_recursion (λ other. other.name ≡ callee.name → other ≡ kept.callee) file.functions kept.only) among refl

    -- a result has a place of its type
    result_right : (place : CPlace) (result : CType) → TargetKeeps inside (Some place) result → ¬ ((result ≡ Void) ⊎ ((kind : CType) × (rules.type_of_place inside place ≡ Some kind) × (kind ≢ result)))
    result_right (Name name) result kept (inl none) = kept.1 none
    result_right (Name name) result kept (inr (kind, is, differ)) = let same : Some result ≡ Some kind = sym kept.0 ∙ is in differ cc

    -- a `for` counts in a variable that can count, and not too far
    count_right : (set tested raised : List ℕ) (count : ℕ) → ActionKeeps (Counts set tested raised count) → ¬ ((2 ^ 24 < count) ⊎ (tested ≢ set) ⊎ (raised ≢ set) ⊎ (¬ CanCount function set))
    count_right set tested raised count kept (inl far) = let near : count ≤ 2 ^ 24 = kept.3 in absurd (omega arith)
    count_right set tested raised count kept (inr (inl other)) = other kept.1
    count_right set tested raised count kept (inr (inr (inl other))) = other kept.2
    count_right set tested raised count kept (inr (inr (inr not))) = not kept.0

    -- so it breaks no rule
    function_keeps : (rule : ℕ) → ¬ BreaksInside file before function rule
    function_keeps rule (inl (is, clash)) = keeps.names clash
    function_keeps rule (inr (inl (is, inl (name, among, inl undeclared)))) = undeclared (name_keeps name among).declared
    function_keeps rule (inr (inl (is, inl (name, among, inr hidden)))) = (name_keeps name among).seen hidden
    function_keeps rule (inr (inl (is, inr (action, name, among, has, none)))) = names_known action (action_keeps action among) name has none
    function_keeps rule (inr (inr (inl (is, (action, e, among, has, misfit))))) = operands_right action (action_keeps action among) e has misfit
    function_keeps rule (inr (inr (inr (inl (is, (action, among, wrong)))))) = value_right action (action_keeps action among) wrong
    function_keeps rule (inr (inr (inr (inr (inl (is, (callee, target, arguments, so, misfit))))))) =
        let kept : CallKeeps target callee.name arguments = action_keeps (Calls target callee.name arguments) so.1 in
        right_arguments inside arguments kept.callee.params kept.fits (subst (λ callee. ArgumentsMisfit inside arguments callee.params) (same_callee callee target arguments so.0 kept) misfit)
    function_keeps rule (inr (inr (inr (inr (inr (inl (is, (callee, place, arguments, so, wrong)))))))) =
        let kept : CallKeeps (Some place) callee.name arguments = action_keeps (Calls (Some place) callee.name arguments) so.1 in
        result_right place callee.result (subst (λ callee. TargetKeeps inside (Some place) callee.result) (sym (same_callee callee (Some place) arguments so.0 kept)) kept.stored) wrong
    function_keeps rule (inr (inr (inr (inr (inr (inr (inl (is, (test, other, among, has, narrow))))))))) =
        let kept : (kind : CType) × (is_word kind ≡ true) × ExprKeeps inside test kind = action_keeps (Tests test) among in
        let same : Some kept.0 ≡ Some other = sym (ap (λ typed. typed.type) kept.2.type) ∙ has in
        let right : kept.0 ≡ other = cc in
        let wide : true ≡ false = sym kept.1 ∙ (ap is_word right ∙ narrow) in
        cc
    function_keeps rule (inr (inr (inr (inr (inr (inr (inr (inl (is, (inline, inl loops)))))))))) = let same : true ≡ false = sym inline ∙ action_keeps Loops loops in cc
    function_keeps rule (inr (inr (inr (inr (inr (inr (inr (inl (is, (inline, inr (name, among, not))))))))))) =
        let below : (callee : CFun) × Contains before callee × (callee.inline ≡ true) × (callee.name ≡ name) = (name_keeps name among).below inline in
        not below.0 below.1 below.2 below.3
    function_keeps rule (inr (inr (inr (inr (inr (inr (inr (inr (inl (is, inl (set, tested, raised, count, among, wrong))))))))))) =
        count_right set tested raised count (action_keeps (Counts set tested raised count) among) wrong
    function_keeps rule (inr (inr (inr (inr (inr (inr (inr (inr (inl (is, inr stores)))))))))) = let same : true ≡ false = sym stores ∙ keeps.counts in cc
    function_keeps rule (inr (inr (inr (inr (inr (inr (inr (inr (inr (is, inl strays)))))))))) = let same : true ≡ false = sym strays ∙ keeps.breaks in cc
    function_keeps rule (inr (inr (inr (inr (inr (inr (inr (inr (inr (is, inr (result, ended))))))))))) = let same : true ≡ false = sym (keeps.ends result) ∙ ended in cc

-- The tree -----------------------------------------------------------------------------------------------------------

-- a union of two members
abbrev union_member : CMember
union_member = record { name = codes "u"; kind = Void; count = None; choice = word (codes "a") ∷ word (codes "b") ∷ [] }

-- the struct of an array and this union, of just 2 ^ 24 bytes
abbrev struct : CStruct
struct = record { name = codes "s"; members = member_of (codes "a") (Some (2 ^ 21 - 1)) ∷ union_member ∷ [] }

-- an inline function that puts its parameter 2 ^ 24 times, `for (n = INT64_C(0); n < 16777216; n++) { sl_put(x); }`
abbrev low : CFun
low =
    record (inline_with (codes "h") Void (Count (codes "n") (codes "n") (2 ^ 24) (codes "n") (Put (named (codes "x")) ∷ []) ∷ [])) {
      params = word (codes "x") ∷ [];
      vars = word (codes "n") ∷ [];
    }

-- one that calls it
abbrev high : CFun
high = inline_with (codes "i") Void (Call None (codes "h") (Value (signed 65) ∷ []) ∷ [])

-- `a = k((INT64_C(1) + INT64_C(2)));`
abbrev taking : CStmt
taking = Call (Some (Name (codes "a"))) (codes "k") (Value (Binary Add (signed 1) (signed 2)) ∷ [])

-- `if ((int64_t)(a < INT64_C(0))) { return (-a); } else { i(); return INT64_C(0); }`
abbrev choosing : CStmt
choosing = If (Compare Less (named (codes "a")) (signed 0)) (Return (Some (Negate (named (codes "a")))) ∷ []) (Some (bare_call (codes "i") ∷ give 0 ∷ []))

-- `sl_main` does both
abbrev start : CFun
start = record (start_with (taking ∷ choosing ∷ [])) { vars = word (codes "a") ∷ [] }

-- a function that stores its parameter in the global, whose name is that of a function, and returns it
abbrev last : CFun
last =
    record (function_with (codes "k") (Int true 64) (set (codes "g") (named (codes "h")) ∷ If (unsigned 0) (Halt 1 0 2 ∷ []) None ∷ Return (Some (named (codes "g"))) ∷ [])) {
      params = word (codes "h") ∷ [];
    }

-- `if ((int64_t)(b < INT64_C(0))) { break; }`
abbrev leaving : CStmt
leaving = If (Compare Less (named (codes "b")) (signed 0)) (Break ∷ []) None

-- a function that puts what there is of the input: `while (1) { b = sl_get(); .. sl_put(b); }`
abbrev echo : CFun
echo = record (function_with (codes "e") Void (Loop (Get (Name (codes "b")) ∷ leaving ∷ Put (named (codes "b")) ∷ []) ∷ [])) { vars = word (codes "b") ∷ [] }

-- the whole tree
abbrev pub file : CFile
file = record {
  structs = struct ∷ [];
  globals = word (codes "g") ∷ [];
  protos = proto_of start ∷ proto_of last ∷ proto_of echo ∷ [];
  functions = low ∷ high ∷ start ∷ last ∷ echo ∷ [];
}

-- Names --------------------------------------------------------------------------------------------------------------

-- a name that isn't reserved
free : (name : List ℕ) → list_any (bytes_eq name) reserved_words ≡ false → ¬ Contains reserved_words name
free name none = none_of reserved_words name none

-- names that differ, of which none is reserved, don't clash
no_clash : (words : List (List ℕ)) → IsDistinct bytes_eq words → AllByRecursion (λ name. ¬ Contains reserved_words name) words → ¬ NamesClash words
no_clash words apart free = no_clash_of words apart (All-from_recursion (λ name. ¬ Contains reserved_words name) words free)

-- no names don't clash
none_clash : ¬ NamesClash []
unfolding IsDistinct
none_clash = no_clash [] tt tt

-- Outside functions --------------------------------------------------------------------------------------------------

-- the names of globals and functions
globals_keep : ¬ NamesClash (var_names file.globals ++ fun_names file.functions)
unfolding IsDistinct
globals_keep =
    no_clash (codes "g" ∷ codes "h" ∷ codes "i" ∷ codes "sl_main" ∷ codes "k" ∷ codes "e" ∷ [])
    ((refl, (refl, (refl, (refl, (refl, tt))))), ((refl, (refl, (refl, (refl, tt)))), ((refl, (refl, (refl, tt))), ((refl, (refl, tt)), ((refl, tt), (tt, tt))))))
    (free (codes "g") refl, (free (codes "h") refl, (free (codes "i") refl, (free (codes "sl_main") refl, (free (codes "k") refl, (free (codes "e") refl, tt))))))

-- the name of the struct, those of its members, and those of the union's
struct_keeps : ¬ NamesClash (codes "s" ∷ [])
unfolding IsDistinct
struct_keeps = no_clash (codes "s" ∷ []) (tt, tt) (free (codes "s") refl, tt)

-- those of its members
members_keep : ¬ NamesClash (codes "a" ∷ codes "u" ∷ [])
unfolding IsDistinct
members_keep = no_clash (codes "a" ∷ codes "u" ∷ []) ((refl, tt), (tt, tt)) (free (codes "a") refl, (free (codes "u") refl, tt))

-- those of the union's members
union_keeps : ¬ NamesClash (codes "a" ∷ codes "b" ∷ [])
unfolding IsDistinct
union_keeps = no_clash (codes "a" ∷ codes "b" ∷ []) ((refl, tt), (tt, tt)) (free (codes "a") refl, (free (codes "b") refl, tt))

-- the members of a struct have sizes that may be, and the names in them don't clash
abbrev MemberKeeps : CMember → Type 0
MemberKeeps member = (¬ NamesClash (var_names member.choice)) × ((count : ℕ) → member.count ≡ Some count → (count ≢ 0) × (¬ (2 ^ 24 < count)))

-- those of the struct do
members_are : AllByRecursion MemberKeeps struct.members
members_are = ((none_clash, λ count is. let same : 2 ^ 21 - 1 ≡ count = cc in (omega arith, λ less. absurd (omega arith))), ((union_keeps, λ count is. cc), tt))

-- and so does each of them
of_members : (some : CStruct) (member : CMember) → Contains file.structs some → Contains some.members member → MemberKeeps member
of_members some member among inside =
    All-contains MemberKeeps some.members member (of_one (λ some. All MemberKeeps some.members) struct some (All-from_recursion MemberKeeps struct.members members_are) among) inside

-- no array and no struct is too large
sizes_keep : ¬ BreaksSizes file
sizes_keep (some, among, inl large) = of_one (λ some. ¬ (2 ^ 24 < (struct_extent some).bytes)) struct some (λ large. absurd (omega arith)) among large
sizes_keep (some, among, inr (member, count, inside, is, inl none)) = ((of_members some member among inside).1 count is).0 none
sizes_keep (some, among, inr (member, count, inside, is, inr large)) = ((of_members some member among inside).1 count is).1 large

-- each function that isn't inline has one prototype
abbrev HasProto : CFun → Type 0
HasProto function = function.inline ≡ false → count_by (λ proto. bytes_eq proto.name function.name) file.protos ≡ 1

-- each function here has
one_proto : AllByRecursion HasProto file.functions
one_proto = (λ no. cc, (λ no. cc, (λ no. refl, (λ no. refl, (λ no. refl, tt)))))

-- and each prototype has such a function
abbrev IsAlone : CFun → Type 0
IsAlone proto = (function : CFun) → Contains file.functions function → function.inline ≡ false → ¬ AreAlike proto function

-- no prototype here is alone
no_alone : AllByRecursion (λ proto. ¬ IsAlone proto) file.protos
no_alone = (
  λ alone. alone start (2, omega arith, refl) refl (record { name = refl; result = refl; params = refl }),
  (
    λ alone. alone last (3, omega arith, refl) refl (record { name = refl; result = refl; params = refl }),
    (λ alone. alone echo (4, omega arith, refl) refl (record { name = refl; result = refl; params = refl }), tt),
  ),
)

-- nothing is broken outside functions
outside_keeps : (rule : ℕ) → ¬ BreaksOutside file rule
outside_keeps rule (inl (is, inl clash)) = struct_keeps clash
outside_keeps rule (inl (is, inr (inl clash))) = globals_keep clash
outside_keeps rule (inl (is, inr (inr (inl h)))) = of_one (λ some. ¬ NamesClash (map (λ member. member.name) some.members)) struct h.0 members_keep h.1 h.2
outside_keeps rule (inl (is, inr (inr (inr h)))) = (of_members h.0 h.1 h.2 h.3).0 h.4
outside_keeps rule (inr (inl (is, h))) = sizes_keep h
outside_keeps rule (inr (inr (is, inl h))) = h.3 (All-contains HasProto file.functions h.0 (All-from_recursion HasProto file.functions one_proto) h.1 h.2)
outside_keeps rule (inr (inr (is, inr (inl h)))) = All-contains (λ proto. ¬ IsAlone proto) file.protos h.0 (All-from_recursion (λ proto. ¬ IsAlone proto) file.protos no_alone) h.1 h.2
outside_keeps rule (inr (inr (is, inr (inr none)))) = none start (2, omega arith, refl) (record { name = refl; called = refl; result = refl; params = refl })

-- In functions -------------------------------------------------------------------------------------------------------

-- a constant keeps the rules
constant_keeps : (scope : Scope) (number : ℕ) → ExprKeeps scope (signed number) (Int true 64)
constant_keeps scope number = record { parts = Constant true number ∷ []; are = simp leaves_are; known = (tt, tt); type = simp types_are }

-- a name that is declared does
name_keeps_rules : (scope : Scope) (name : List ℕ) → type_of_name scope name ≡ Some (Int true 64) → ExprKeeps scope (named name) (Int true 64)
name_keeps_rules scope name is = record {
  parts = Reads (Name name) ∷ [];
  are = simp leaves_are;
  known = (declared_name scope name (Int true 64) is, tt);
  type = simp types_are (ap (λ type. record { type = type; fits = true }) is);
}

-- a single local name doesn't clash
one_keeps : (name : List ℕ) → list_any (bytes_eq name) reserved_words ≡ false → ¬ NamesClash (name ∷ [])
unfolding IsDistinct
one_keeps name none = no_clash (name ∷ []) (tt, tt) (free name none, tt)

-- a parameter and a variable don't
low_names : ¬ NamesClash (codes "x" ∷ codes "n" ∷ [])
unfolding IsDistinct
low_names = no_clash (codes "x" ∷ codes "n" ∷ []) ((refl, tt), (tt, tt)) (free (codes "x") refl, (free (codes "n") refl, tt))

-- each function keeps the rules
low_keeps : FunctionKeeps file [] low
low_keeps = record {
  names = low_names;
  does = Counts (codes "n") (codes "n") (codes "n") (2 ^ 24) ∷ Puts (named (codes "x")) ∷ [];
  acts = simp actions_are;
  each = ((refl, refl, refl, omega arith), (name_keeps_rules (scope_of file low) (codes "x") refl, tt));
  callees = [];
  calls = simp actions_are;
  reached = tt;
  counts = simp recounts_are;
  breaks = simp strays_are;
  ends = λ not. absurd (not refl);
}

-- so does the inline function that calls another
high_keeps : FunctionKeeps file (low ∷ []) high
high_keeps = record {
  names = none_clash;
  does = Calls None (codes "h") (signed 65 ∷ []) ∷ [];
  acts = simp actions_are;
  each = (
    record {
      callee = low;
      only = (λ _. refl, (λ same. absurd (names_differ (codes "i") (codes "h") refl same), (λ same. absurd (names_differ (codes "sl_main") (codes "h") refl same), (λ same. absurd (names_differ (codes "k") (codes "h") refl same), (λ same. absurd (names_differ (codes "e") (codes "h") refl same), tt)))));
      fits = (constant_keeps (scope_of file high) 65, tt);
      stored = tt;
    },
    tt,
  );
  callees = codes "h" ∷ [];
  calls = simp actions_are;
  reached = (record { declared = inr (inr (first_in (codes "h") [])); seen = in_none (codes "h"); below = λ _. (low, first_in low [], refl, refl) }, tt);
  counts = simp recounts_are;
  breaks = simp strays_are;
  ends = λ not. absurd (not refl);
}

-- so does `sl_main`
start_keeps : FunctionKeeps file (low ∷ high ∷ []) start
start_keeps = record {
  names = one_keeps (codes "a") refl;
  does =
      Calls (Some (Name (codes "a"))) (codes "k") (Binary Add (signed 1) (signed 2) ∷ [])
      ∷ Tests (Compare Less (named (codes "a")) (signed 0))
      ∷ Returns (Some (Negate (named (codes "a"))))
      ∷ Calls None (codes "i") []
      ∷ Returns (Some (signed 0))
      ∷ [];
  acts = simp actions_are;
  each = (
    record {
      callee = last;
      only = (λ same. absurd (names_differ (codes "h") (codes "k") refl same), (λ same. absurd (names_differ (codes "i") (codes "k") refl same), (λ same. absurd (names_differ (codes "sl_main") (codes "k") refl same), (λ _. refl, (λ same. absurd (names_differ (codes "e") (codes "k") refl same), tt)))));
      fits = (record { parts = Constant true 1 ∷ Constant true 2 ∷ []; are = simp leaves_are; known = (tt, (tt, tt)); type = simp types_are }, tt);
      stored = (refl, λ same. cc);
    },
    (
      (Int true 64, refl, record { parts = Reads (Name (codes "a")) ∷ Constant true 0 ∷ []; are = simp leaves_are; known = (λ none. cc, (tt, tt)); type = simp types_are }),
      (
        record { parts = Reads (Name (codes "a")) ∷ []; are = simp leaves_are; known = (λ none. cc, tt); type = simp types_are },
        (
          record {
            callee = high;
            only = (λ same. absurd (names_differ (codes "h") (codes "i") refl same), (λ _. refl, (λ same. absurd (names_differ (codes "sl_main") (codes "i") refl same), (λ same. absurd (names_differ (codes "k") (codes "i") refl same), (λ same. absurd (names_differ (codes "e") (codes "i") refl same), tt)))));
            fits = tt;
            stored = tt;
          },
          (constant_keeps (scope_of file start) 0, tt),
        ),
      ),
    ),
  );
  callees = codes "k" ∷ codes "i" ∷ [];
  calls = simp actions_are;
  reached = (
    record {
      declared = inl (1, omega arith, refl);
      seen = λ among. of_one (λ name. name ≢ codes "k") (codes "a") (codes "k") (names_differ (codes "a") (codes "k") refl) among refl;
      below = λ no. cc;
    },
    (
      record {
        declared = inr (inr (second_in (codes "h") (codes "i") []));
        seen = λ among. of_one (λ name. name ≢ codes "i") (codes "a") (codes "i") (names_differ (codes "a") (codes "i") refl) among refl;
        below = λ no. cc;
      },
      tt,
    ),
  );
  counts = simp recounts_are;
  breaks = simp strays_are;
  ends = λ _. simp ends_are;
}

-- so does the last function
last_keeps : FunctionKeeps file (low ∷ high ∷ start ∷ []) last
last_keeps = record {
  names = one_keeps (codes "h") refl;
  does = Assigns (Name (codes "g")) (named (codes "h")) ∷ Tests (unsigned 0) ∷ Halts 1 0 2 ∷ Returns (Some (named (codes "g"))) ∷ [];
  acts = simp actions_are;
  each = (
    (Int true 64, refl, name_keeps_rules (scope_of file last) (codes "h") refl),
    (
      (Int false 64, refl, record { parts = Constant false 0 ∷ []; are = simp leaves_are; known = (tt, tt); type = simp types_are }),
      (tt, (name_keeps_rules (scope_of file last) (codes "g") refl, tt)),
    ),
  );
  callees = [];
  calls = simp actions_are;
  reached = tt;
  counts = simp recounts_are;
  breaks = simp strays_are;
  ends = λ _. simp ends_are;
}

-- so does the function with the loop
echo_keeps : FunctionKeeps file (low ∷ high ∷ start ∷ last ∷ []) echo
echo_keeps = record {
  names = one_keeps (codes "b") refl;
  does = Loops ∷ Gets (Name (codes "b")) ∷ Tests (Compare Less (named (codes "b")) (signed 0)) ∷ Puts (named (codes "b")) ∷ [];
  acts = simp actions_are;
  each = (
    refl,
    (
      refl,
      (
        (Int true 64, refl, record { parts = Reads (Name (codes "b")) ∷ Constant true 0 ∷ []; are = simp leaves_are; known = (λ none. cc, (tt, tt)); type = simp types_are }),
        (name_keeps_rules (scope_of file echo) (codes "b") refl, tt),
      ),
    ),
  );
  callees = [];
  calls = simp actions_are;
  reached = tt;
  counts = simp recounts_are;
  breaks = simp strays_are;
  ends = λ not. absurd (not refl);
}

-- nothing is broken in any
inside_keeps : AllPlaces (λ before function. (rule : ℕ) → ¬ BreaksInside file before function rule) file.functions
inside_keeps = (
  function_keeps file [] low low_keeps,
  (
    function_keeps file (low ∷ []) high high_keeps,
    (
      function_keeps file (low ∷ high ∷ []) start start_keeps,
      (function_keeps file (low ∷ high ∷ start ∷ []) last last_keeps, (function_keeps file (low ∷ high ∷ start ∷ last ∷ []) echo echo_keeps, tt)),
    ),
  ),
)

-- so no rule is broken
pub file_keeps_rules : KeepsRules file
unfolding Breaks
file_keeps_rules rule line (inl h) = outside_keeps rule h.1
file_keeps_rules rule line (inr (before, function, (behind, whole), same, broken)) =
    at_place (λ before function. (rule : ℕ) → ¬ BreaksInside file before function rule) file.functions before behind function inside_keeps whole rule broken

-- Lengths -------------------------------------------------------------------------------------------------------------

-- an array of 2 ^ 24 elements, each a byte
abbrev most_bytes : CMember
most_bytes = record (member_of (codes "a") (Some (2 ^ 24))) { kind = Int false 8 }

-- in a struct
abbrev longest : CStruct
longest = record { name = codes "s"; members = most_bytes ∷ [] }

-- has a length that may be
abbrev CountKeeps : CMember → Type 0
CountKeeps member = (count : ℕ) → member.count ≡ Some count → (count ≢ 0) × (¬ (2 ^ 24 < count))

most_keeps : CountKeeps most_bytes
most_keeps count is = let same : 2 ^ 24 ≡ count = cc in (omega arith, λ less. absurd (omega arith))

-- so does each array of the struct
of_longest : (some : CStruct) (member : CMember) → Contains (longest ∷ []) some → Contains some.members member → CountKeeps member
of_longest some member among inside =
    of_one (λ some. (member : CMember) → Contains some.members member → CountKeeps member) longest some (λ member inside. of_one CountKeeps most_bytes member most_keeps inside) among member inside

-- and 13 is kept
pub longest_keeps : ¬ BreaksSizes (struct_alone longest)
longest_keeps (some, among, inl large) = of_one (λ some. ¬ (2 ^ 24 < (struct_extent some).bytes)) longest some (λ large. absurd (omega arith)) among large
longest_keeps (some, among, inr (member, count, inside, is, inl none)) = (of_longest some member among inside count is).0 none
longest_keeps (some, among, inr (member, count, inside, is, inr large)) = (of_longest some member among inside count is).1 large
