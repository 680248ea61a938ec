-- Each function of the C of a core keeps the rules where it stands, and a text can have it.
use Rattle.std.proofs.Common.{◌≡◌, ◌≢◌, ℕ, ◌+◌, ◌^◌, ◌<◌, ◌≤◌, zero, suc, List, [], ◌∷◌, ◌++◌, Bool, true, false, Some, length, refl, sym, subst, ap, ◌∙◌, inl, inr, arith, All, Contains, map, codes, bytes_eq, get_or}
use Rattle.std.specs.Prelude.{slice_get, ◌==◌, ◌||◌}
use Rattle.std.specs.List.{IsDistinct, flat_map}
use Rattle.std.proofs.lemmas.List.{map-append, length-map, get_or-map}
use Rattle.std.proofs.lemmas.List.Elements.{All-nil, All-cons, All-append, All-contains, All-from_recursion, All-weaker, Contains-append_left, Contains-append_right}
use Rattle.sl_core.specs.declared.tree.Core.{Core}
use Rattle.sl_core.specs.declared.tree.CoreFun.{CoreFun}
use Rattle.sl_core.specs.Sound.{IsFunction, IsSound, strays, stmt_depth, greatest}
use Rattle.c_tree.specs.declared.tree.CFile.{CFile}
use Rattle.c_tree.specs.declared.tree.CVar.{CVar}
use Rattle.c_tree.specs.declared.tree.CFun.{CFun}
use Rattle.c_tree.specs.declared.tree.CStmt.{CStmt}
use Rattle.c_tree.specs.declared.tree.CStmt.TheVariants.{Return}
use Rattle.c_tree.specs.Words.{IsName, reserved_words}
use Rattle.c_tree.specs.WellFormed.{IsVar, IsParam, IsProto}
use Rattle.c_tree.specs.WellFormed as formed
use Rattle.c_tree.specs.Mangled.{mangled}
use Rattle.c_tree.specs.Rules.{word, var_names, fun_names, NamesClash, last_is, ends_function}
use Rattle.c_tree.proofs.Variants.{depth_of_const, ends_of_return, strays_of_return}
use Rattle.c_helpers.specs.Functions.{constant, sum_fits, difference_fits, product_fits, quotient_fits, remainder, print, helper_functions}
use Rattle.c_tree.proofs.Names.{names_differ, no_clash, name_is}
use Rattle.c_helpers.proofs.Keeping.{AreAll, inside, CanCall, StmtGood, FunctionGood, formed_body}
use Rattle.c_helpers.proofs.Composing.{constant_good, return_good, deeper}
use Rattle.c_helpers.proofs.Standing.{Contains-map}
use Rattle.c_helpers.proofs.Called.{laws}
use Rattle.sl_frames.specs.Names.{variable_name, temporary_name, function_name}
use Rattle.sl_frames.specs.Promise.{HasOneType}
use Rattle.sl_frames.specs.Translated.{declared, named_from, vars_of, ended, proto_of, function_of, of_each, stmts_of, needs}
use Rattle.sl_frames.proofs.Keeps.Distinct.{DiffersFrom, distinct_append, all_named, distinct_named, is_named}
use Rattle.sl_frames.proofs.Keeps.Names.{variable_is_name, temporary_is_name, variable_is_free, temporary_is_free, variables_differ, temporaries_differ, variable_no_temporary, is_mangled, mangled_begins, mangled_is_name, main_is_name}
use Rattle.sl_frames.proofs.Keeps.Tests.{by_test, of_all}
use Rattle.sl_frames.proofs.Keeps.Scopes.{IsInt64, type_of_local}
use Rattle.sl_frames.proofs.Keeps.Inside.{IsPlaced}
use Rattle.sl_frames.proofs.Keeps.Blocks.{all_below, stmt_keeps}
use Rattle.sl_frames.proofs.Keeps.Loops.{Stays, none_of, stmt_stays}
use Rattle.sl_frames.proofs.Keeps.Lists.{all_each, each_in, only_one}
use Rattle.sl_frames.proofs.Keeps.Needs.{body_few}

-- The variables of a function -----------------------------------------------------------------------------------------

-- whether a name begins as those of variables do
abbrev is_local : List ℕ → Bool
is_local name = (get_or name 0 0 == 118) || (get_or name 0 0 == 116)

abbrev IsLocal : List ℕ → Type 0
IsLocal name = is_local name ≡ true

-- each of some names is `int64_t`
all_int64 : (name : ℕ → List ℕ) (first count : ℕ) → All IsInt64 (named_from name first count)
all_int64 name first zero = All-nil IsInt64
all_int64 name first (suc count) = All-cons IsInt64 (declared (name first)) (named_from name (suc first) count) refl (all_int64 name (suc first) count)

-- and a variable that there can be
all_vars : (name : ℕ → List ℕ) (limit : ℕ) → ((number : ℕ) → number < limit → IsName (name number)) → (first count : ℕ) → first + count ≤ limit → All IsVar (named_from name first count)
all_vars name limit named first zero within = All-nil IsVar
all_vars name limit named first (suc count) within =
    All-cons IsVar (declared (name first)) (named_from name (suc first) count) (record { name = named first (omega arith); kind = inr (inr (inr refl)) })
    (all_vars name limit named (suc first) count (omega arith))

module _ (variables temporaries : ℕ) (few_variables : variables ≤ 10 ^ 64) (few_temporaries : temporaries ≤ 10 ^ 64) where
  abbrev first_vars : List CVar
  first_vars = named_from variable_name 0 variables

  abbrev last_vars : List CVar
  last_vars = named_from temporary_name 0 temporaries

  -- the names of all
  names_are : var_names (first_vars ++ last_vars) ≡ var_names first_vars ++ var_names last_vars
  names_are = map-append (λ (var : CVar). var.name) first_vars last_vars

  -- what holds of the names of both kinds holds of all
  of_both : (P : List ℕ → Type 0) → ((number : ℕ) → number < 10 ^ 64 → P (variable_name number)) → ((number : ℕ) → number < 10 ^ 64 → P (temporary_name number)) → All P (var_names (first_vars ++ last_vars))
  of_both P first last =
      subst (All P) (sym names_are)
      (All-append P (var_names first_vars) (var_names last_vars) (all_named variable_name P 0 variables (λ number low high. first number (omega arith))) (all_named temporary_name P 0 temporaries (λ number low high. last number (omega arith))))

  -- they don't clash
  vars_keep : ¬ NamesClash (var_names (first_vars ++ last_vars))
  vars_keep =
      no_clash (var_names (first_vars ++ last_vars))
      (subst (IsDistinct bytes_eq) (sym names_are)
      (distinct_append (var_names first_vars) (var_names last_vars) (distinct_named variable_name (10 ^ 64) variables_differ 0 variables (omega arith)) (distinct_named temporary_name (10 ^ 64) temporaries_differ 0 temporaries (omega arith))
      (all_named variable_name (DiffersFrom (var_names last_vars)) 0 variables (λ a low high. all_named temporary_name (λ other. bytes_eq (variable_name a) other ≡ false) 0 temporaries (λ b less more. variable_no_temporary a b)))))
      (of_both (λ name. ¬ Contains reserved_words name) variable_is_free temporary_is_free)

  -- they are variables
  vars_formed : All IsVar (first_vars ++ last_vars)
  vars_formed = All-append IsVar first_vars last_vars (all_vars variable_name (10 ^ 64) variable_is_name 0 variables (omega arith)) (all_vars temporary_name (10 ^ 64) temporary_is_name 0 temporaries (omega arith))

  vars_int64 : All IsInt64 (first_vars ++ last_vars)
  vars_int64 = All-append IsInt64 first_vars last_vars (all_int64 variable_name 0 variables) (all_int64 temporary_name 0 temporaries)

  -- each is declared
  variable_in : (number : ℕ) → number < variables → Contains (var_names (first_vars ++ last_vars)) (variable_name number)
  variable_in number low =
      subst (λ names. Contains names (variable_name number)) (sym names_are) (Contains-append_left (var_names first_vars) (var_names last_vars) (variable_name number) (is_named variable_name 0 variables number (omega arith) (omega arith)))

  temporary_in : (number : ℕ) → number < temporaries → Contains (var_names (first_vars ++ last_vars)) (temporary_name number)
  temporary_in number low =
      subst (λ names. Contains names (temporary_name number)) (sym names_are) (Contains-append_right (var_names first_vars) (var_names last_vars) (temporary_name number) (is_named temporary_name 0 temporaries number (omega arith) (omega arith)))

  -- none has a name that doesn't begin so
  not_local : (name : List ℕ) → is_local name ≡ false → ¬ Contains (var_names (first_vars ++ last_vars)) name
  not_local name other among =
      let local = All-contains IsLocal (var_names (first_vars ++ last_vars)) name (of_both IsLocal (λ number small. refl) (λ number small. refl)) among in
      let same : false ≡ true = sym other ∙ local in
      cc

-- The names of functions ----------------------------------------------------------------------------------------------

-- a mangled name is not that of a variable
mangled_not_local : (name : List ℕ) → is_local (mangled name) ≡ false
unfolding mangled
mangled_not_local name = refl

module _ (core : Core) where
  -- what holds of `sl_main` and of mangled names holds of names of functions
  pub of_name : (P : List ℕ → Type 0) (number : ℕ) (function : CoreFun) → P (codes "sl_main") → P (mangled function.name) → P (function_name core number function)
  of_name P number function main other = by_test (number == core.entry) (λ is. rw is main) (λ is. rw is other)

  -- it is that of no inline function
  pub other_name : (name : List ℕ) → bytes_eq (codes "sl_main") name ≡ false → is_mangled name ≡ false → (number : ℕ) (function : CoreFun) → function_name core number function ≢ name
  other_name name main plain number function =
      of_name (λ other. other ≢ name) number function (names_differ (codes "sl_main") name main)
      (λ same. let no : true ≡ false = sym (mangled_begins function.name) ∙ (ap is_mangled same ∙ plain) in cc)

  -- a function but the entry has its mangled name
  not_main : (number : ℕ) (function : CoreFun) → (number == core.entry) ≡ false → function_name core number function ≡ mangled function.name
  not_main number function is = rw is refl

-- Bodies --------------------------------------------------------------------------------------------------------------

-- where the last of some is true, the end is
last_true : (some : List Bool) → last_is (some ++ true ∷ []) ≡ true
last_true [] = refl
last_true (so ∷ []) = refl
last_true (so ∷ other ∷ others) = last_true (other ∷ others)

-- a body that ends
ended_ends : (body : List CStmt) → last_is (map ends_function (ended body)) ≡ true
ended_ends body =
    by_test (last_is (map ends_function body)) (λ is. rw is is)
    (λ is. rw is (ap last_is (map-append ends_function body (Return (Some (constant 0)) ∷ []) ∙ ap (λ end. map ends_function body ++ end ∷ []) (ends_of_return (Some (constant 0)))) ∙ last_true (map ends_function body)))

-- what holds of statements and of the return behind them holds of the body
of_ended : (P : CStmt → Type 0) (body : List CStmt) → All P body → P (Return (Some (constant 0))) → All P (ended body)
of_ended P body all last = by_test (last_is (map ends_function body)) (λ is. rw is all) (λ is. rw is (All-append P body (Return (Some (constant 0)) ∷ []) all (All-cons P (Return (Some (constant 0))) [] last (All-nil P))))

-- what holds of all blocks holds of them together
of_flat : {X Y : Type 0} (P : Y → Type 0) (make : X → List Y) (xs : List X) → All (λ x. All P (make x)) xs → All P (flat_map make xs)
of_flat P make [] all = All-nil P
of_flat P make (x ∷ xs) all = All-append P (make x) (flat_map make xs) (all 0 x (omega arith)) (of_flat P make xs (λ k d inside. all (suc k) d (omega arith)))

-- Where functions stand -----------------------------------------------------------------------------------------------

-- what a file is that has the C of a core
pub record IsFileOf (core : Core) (file : CFile) : Type 0 where
  pub structs : file.structs ≡ []
  pub globals : file.globals ≡ []
  pub protos : file.protos ≡ of_each (proto_of core) 0 core.functions
  pub functions : file.functions ≡ helper_functions ++ of_each (function_of core) 0 core.functions

module _ (core : Core) (sound : IsSound core) (types : HasOneType core) (file : CFile) (is_of : IsFileOf core file) where
  -- a core function that there is, is sound
  sound_function : (number : ℕ) (function : CoreFun) → slice_get core.functions number ≡ Some function → IsFunction core function
  sound_function number function is = of_all (IsFunction core) core.functions number function sound.functions is

  -- its name is a name
  name_is_name : (number : ℕ) (function : CoreFun) → IsFunction core function → IsName (function_name core number function)
  name_is_name number function fine = of_name core IsName number function main_is_name (mangled_is_name function.name fine.in_range.name)

  -- and not that of a variable
  name_not_local : (number : ℕ) (function : CoreFun) → is_local (function_name core number function) ≡ false
  name_not_local number function = of_name core (λ name. is_local name ≡ false) number function refl (mangled_not_local function.name)

  -- what functions with the name of an inline function are
  only_helper : (helper : CFun) → Contains helper_functions helper → bytes_eq (codes "sl_main") helper.name ≡ false → is_mangled helper.name ≡ false → All (AreAll helper.name helper.params helper.result) file.functions
  only_helper helper among main plain =
      subst (All (AreAll helper.name helper.params helper.result)) (sym is_of.functions)
      (All-append (AreAll helper.name helper.params helper.result) helper_functions (of_each (function_of core) 0 core.functions) (only_one helper_functions helper laws.names among)
      (all_each (AreAll helper.name helper.params helper.result) (function_of core) 0 core.functions (λ number place function at is same. absurd (other_name core helper.name main plain number function same))))

  -- none of the inline functions has the name of another function
  plain_helpers : All (λ (helper : CFun). is_mangled helper.name ≡ false) helper_functions
  unfolding helper_functions
  plain_helpers = All-from_recursion (λ (helper : CFun). is_mangled helper.name ≡ false) helper_functions (refl, (refl, (refl, (refl, (refl, (refl, (refl, tt)))))))

  -- what functions with a mangled name are
  only_mangled : (name : List ℕ) → All (AreAll (mangled name) [] word) file.functions
  only_mangled name =
      subst (All (AreAll (mangled name) [] word)) (sym is_of.functions)
      (All-append (AreAll (mangled name) [] word) helper_functions (of_each (function_of core) 0 core.functions)
      (All-weaker (λ (helper : CFun). is_mangled helper.name ≡ false) (AreAll (mangled name) [] word)
      (λ helper plain same. let no : true ≡ false = sym (mangled_begins name) ∙ (ap is_mangled (sym same) ∙ plain) in cc) helper_functions plain_helpers)
      (all_each (AreAll (mangled name) [] word) (function_of core) 0 core.functions (λ number place function at is same. (refl, refl))))

  -- The inline functions by their places
  sum_in : Contains helper_functions sum_fits
  unfolding helper_functions
  sum_in = (0, omega arith, refl)

  difference_in : Contains helper_functions difference_fits
  unfolding helper_functions
  difference_in = (1, omega arith, refl)

  product_in : Contains helper_functions product_fits
  unfolding helper_functions
  product_in = (2, omega arith, refl)

  quotient_in : Contains helper_functions quotient_fits
  unfolding helper_functions
  quotient_in = (3, omega arith, refl)

  remainder_in : Contains helper_functions remainder
  unfolding helper_functions
  remainder_in = (4, omega arith, refl)

  print_in : Contains helper_functions print
  unfolding helper_functions
  print_in = (6, omega arith, refl)

  module _ (number : ℕ) (source : CoreFun) (there : slice_get core.functions number ≡ Some source) (earlier : List CFun) where
    abbrev before : List CFun
    before = helper_functions ++ earlier

    abbrev function : CFun
    function = function_of core number source

    abbrev limit : ℕ
    limit = greatest (map needs source.body)

    fine : IsFunction core source
    fine = sound_function number source there

    -- its variables and temporaries can be counted
    variables_few : length source.vars ≤ 10 ^ 64
    variables_few = let small = fine.in_range.vars in omega arith

    temporaries_few : limit ≤ 10 ^ 64
    temporaries_few = let small = body_few source.body fine.depth in omega arith

    -- an inline function can be called
    can_helper : (helper : CFun) → Contains helper_functions helper → bytes_eq (codes "sl_main") helper.name ≡ false → is_mangled helper.name ≡ false → is_local helper.name ≡ false → IsName helper.name
        → CanCall file before function helper.name helper.params helper.result
    can_helper helper among main plain other named = record {
      spelled = named;
      only = only_helper helper among main plain;
      declared = inr (inr (Contains-map (λ (function : CFun). function.name) before helper (Contains-append_left helper_functions earlier helper among)));
      seen = not_local (length source.vars) limit variables_few temporaries_few helper.name other;
      below = λ is. let no : false ≡ true = is in cc;
    }

    -- and so can a function but the entry
    can_function : (callee_number : ℕ) (callee : CoreFun) → slice_get core.functions callee_number ≡ Some callee → (callee_number == core.entry) ≡ false → CanCall file before function (function_name core callee_number callee) [] word
    can_function callee_number callee is other = record {
      spelled = name_is_name callee_number callee (sound_function callee_number callee is);
      only = subst (λ name. All (AreAll name [] word) file.functions) (sym (not_main core callee_number callee other)) (only_mangled callee.name);
      declared =
          inl (subst (λ protos. Contains (fun_names protos) (function_name core callee_number callee)) (sym is_of.protos)
          (Contains-map (λ (function : CFun). function.name) (of_each (proto_of core) 0 core.functions) (proto_of core callee_number callee)
          (subst (λ n. Contains (of_each (proto_of core) 0 core.functions) (proto_of core n callee)) (let same : 0 + callee_number ≡ callee_number = omega arith in same) (each_in (proto_of core) 0 callee_number core.functions callee is))));
      seen = not_local (length source.vars) limit variables_few temporaries_few (function_name core callee_number callee) (name_not_local callee_number callee);
      below = λ is. let no : false ≡ true = is in cc;
    }

    placed : IsPlaced core source file before function limit
    placed = record {
      variables = λ variable low. record {
        spelled = variable_is_name variable (let small = variables_few in omega arith);
        type = type_of_local (vars_of source) file.globals (variable_name variable) (vars_int64 (length source.vars) limit variables_few temporaries_few) (variable_in (length source.vars) limit variables_few temporaries_few variable low);
      };
      temporaries = λ temporary low. record {
        spelled = temporary_is_name temporary (let small = temporaries_few in omega arith);
        type = type_of_local (vars_of source) file.globals (temporary_name temporary) (vars_int64 (length source.vars) limit variables_few temporaries_few) (temporary_in (length source.vars) limit variables_few temporaries_few temporary low);
      };
      outer = refl;
      gives = refl;
      sum = can_helper sum_fits sum_in refl refl refl (name_is (codes "sl_sum_fits") refl refl);
      difference = can_helper difference_fits difference_in refl refl refl (name_is (codes "sl_difference_fits") refl refl);
      product = can_helper product_fits product_in refl refl refl (name_is (codes "sl_product_fits") refl refl);
      quotient = can_helper quotient_fits quotient_in refl refl refl (name_is (codes "sl_quotient_fits") refl refl);
      remainder = can_helper remainder remainder_in refl refl refl (name_is (codes "sl_remainder") refl refl);
      print = can_helper print print_in refl refl refl (name_is (codes "sl_print") refl refl);
      calls = can_function;
    }

    -- its statements keep the rules
    body_keeps : All (StmtGood file before function 1024) function.body
    body_keeps =
        of_ended (StmtGood file before function 1024) (flat_map (stmts_of core) source.body)
        (of_flat (StmtGood file before function 1024) (stmts_of core) source.body
        (λ k s inside.
        let needed = all_below limit (map needs source.body) (omega arith) k 0 (let long = length-map source.body needs in omega arith) in
        let within : needs (get_or source.body k s) ≤ limit = subst (λ number. number ≤ limit) (get_or-map needs source.body k s 0 inside) needed in
        let deep = fine.depth k s inside in
        All-weaker (StmtGood file before function (4 + stmt_depth (get_or source.body k s))) (StmtGood file before function 1024)
        (deeper file before function (4 + stmt_depth (get_or source.body k s)) 1024 (omega arith)) (stmts_of core (get_or source.body k s))
        (stmt_keeps core types source file before function limit placed (get_or source.body k s) (fine.fit k s inside) (fine.in_range.body k s inside) within)))
        (return_good file before function 1024 (constant 0) refl (constant_good (inside file before function) 0 (omega arith)) (let is = depth_of_const true 0 in omega arith))

    -- and each `break` stands in a loop
    body_stays : All Stays function.body
    body_stays =
        of_ended Stays (flat_map (stmts_of core) source.body)
        (of_flat Stays (stmts_of core) source.body (All-weaker (λ s. strays s ≡ false) (λ s. All Stays (stmts_of core s)) (stmt_stays core) source.body fine.loops))
        (strays_of_return (Some (constant 0)))

    pub translated_good : FunctionGood file before function
    translated_good = record {
      names = vars_keep (length source.vars) limit variables_few temporaries_few;
      body = body_keeps;
      loops = none_of (ended (flat_map (stmts_of core) source.body)) body_stays;
      ends = λ _. ended_ends (flat_map (stmts_of core) source.body);
    }

    -- a text can have it
    pub translated_formed : formed.IsFunction function
    translated_formed = record {
      head = record { name = name_is_name number source fine; result = inl refl; params = All-nil IsParam };
      vars = vars_formed (length source.vars) limit variables_few temporaries_few;
      body = formed_body file before function translated_good;
    }

    -- and its prototype
    pub proto_formed : IsProto (proto_of core number source)
    proto_formed = record {
      head = record { name = name_is_name number source fine; result = inl refl; params = All-nil IsParam };
      inline = refl;
      vars = refl;
      body = refl;
    }
