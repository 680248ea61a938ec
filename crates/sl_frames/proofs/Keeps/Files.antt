-- The C of a core keeps all rules of C, and a text can have it.
use Rattle.std.proofs.Common.{◌≡◌, ◌≢◌, ◌⊎◌, ℕ, ◌+◌, ◌<◌, suc, List, [], ◌∷◌, ◌++◌, true, false, Some, refl, sym, subst, ap, ◌∙◌, inl, inr, arith, All, Contains, map, codes, bytes_eq, eq-eqb}
use Rattle.std.specs.Prelude.{slice_get, ◌==◌}
use Rattle.std.specs.List.{IsDistinct, count_by}
use Rattle.std.proofs.lemmas.Bool.{eqb-true}
use Rattle.std.proofs.lemmas.List.{map-append}
use Rattle.std.proofs.lemmas.List.Elements.{All-nil, All-cons, All-append, All-contains, All-map, All-weaker, All-from_recursion, recursion_from_All, Contains-append_right, Contains-append_cases}
use Rattle.std.proofs.lemmas.Map.Keys.{IsDistinct-head, IsDistinct-tail, IsDistinct-cons}
use Rattle.sl_core.specs.declared.tree.Core.{Core}
use Rattle.sl_core.specs.declared.tree.CoreFun.{CoreFun}
use Rattle.sl_core.specs.Sound.{IsSound}
use Rattle.c_tree.specs.declared.tree.CFile.{CFile}
use Rattle.c_tree.specs.declared.tree.CStruct.{CStruct}
use Rattle.c_tree.specs.declared.tree.CFun.{CFun}
use Rattle.c_tree.specs.Words.{reserved_words}
use Rattle.c_tree.specs.WellFormed.{IsStruct, IsVar, IsProto, IsWellFormed}
use Rattle.c_tree.specs.WellFormed as formed
use Rattle.c_tree.specs.Mangled.{mangled}
use Rattle.c_tree.specs.Rules.{var_names, fun_names, NamesClash, AreAlike, IsStart, StandsBehind, BreaksInside, BreaksOutside, Breaks, KeepsRules}
use Rattle.c_tree.proofs.Lists.{in_none}
use Rattle.c_helpers.specs.Functions.{helper_functions}
use Rattle.c_helpers.specs.Laws.{IsOther}
use Rattle.c_tree.proofs.Names.{names_differ, differ_names, no_clash, none_of}
use Rattle.c_helpers.proofs.Keeping.{body_nesting, function_keeps}
use Rattle.c_helpers.proofs.Standing.{Contains-map, NestsLittle}
use Rattle.c_helpers.proofs.Called.{laws}
use Rattle.sl_frames.specs.Names.{function_name}
use Rattle.sl_frames.specs.Promise.{HasOneType}
use Rattle.sl_frames.specs.Translated.{proto_of, function_of, of_each, c_of}
use Rattle.sl_frames.proofs.Keeps.Injective.{mangled_injective}
use Rattle.sl_frames.proofs.Keeps.Distinct.{DiffersFrom, distinct_append}
use Rattle.sl_frames.proofs.Keeps.Names.{is_mangled, mangled_begins, mangled_not_among, main_is_free}
use Rattle.sl_frames.proofs.Keeps.Tests.{by_test, of_all}
use Rattle.sl_frames.proofs.Keeps.Lists.{all_each, each_in, split_append, in_middle, count_one}
use Rattle.sl_frames.proofs.Keeps.Functions.{of_name, other_name, IsFileOf, translated_good, translated_formed, proto_formed}

-- Names ---------------------------------------------------------------------------------------------------------------

-- no name clashes with none
none_clash : ¬ NamesClash []
unfolding IsDistinct
none_clash = no_clash [] tt (All-nil (λ name. ¬ Contains reserved_words name))

-- `sl_main` isn't mangled
main_not_mangled : (name : List ℕ) → codes "sl_main" ≢ mangled name
main_not_mangled name same = let no : false ≡ true = ap is_mangled same ∙ mangled_begins name in cc

module _ (core : Core) where
  -- two functions have two names
  names_apart : (a b : ℕ) (f g : CoreFun) → a < b → bytes_eq f.name g.name ≡ false → bytes_eq (function_name core a f) (function_name core b g) ≡ false
  names_apart a b f g less differ =
      by_test (a == core.entry)
      (λ first. by_test (b == core.entry)
      (λ second. let x = eqb-true a core.entry first in let y = eqb-true b core.entry second in absurd (omega arith))
      (λ second. rw (first, second) (differ_names (codes "sl_main") (mangled g.name) (main_not_mangled g.name))))
      (λ first. by_test (b == core.entry)
      (λ second. rw (first, second) (differ_names (mangled f.name) (codes "sl_main") (λ same. main_not_mangled f.name (sym same))))
      (λ second. rw (first, second) (differ_names (mangled f.name) (mangled g.name) (λ same. names_differ f.name g.name differ (mangled_injective f.name g.name same)))))

  -- the names of functions that are made so
  made_names : (P : List ℕ → Type 0) (first : ℕ) (functions : List CoreFun)
      → ((number place : ℕ) (function : CoreFun) → number ≡ first + place → slice_get functions place ≡ Some function → P (function_name core number function)) → All P (fun_names (of_each (function_of core) first functions))
  made_names P first functions holds = All-map P (λ (function : CFun). function.name) (of_each (function_of core) first functions) (all_each (λ (function : CFun). P function.name) (function_of core) first functions holds)

  -- they differ where those of the core do
  made_distinct : (first : ℕ) (functions : List CoreFun) → IsDistinct bytes_eq (map (λ (function : CoreFun). function.name) functions) → IsDistinct bytes_eq (fun_names (of_each (function_of core) first functions))
  unfolding IsDistinct
  made_distinct first [] apart = tt
  made_distinct first (function ∷ functions) apart =
      IsDistinct-cons bytes_eq (function_name core first function) (fun_names (of_each (function_of core) (suc first) functions))
      (recursion_from_All (λ name. bytes_eq (function_name core first function) name ≡ false) (fun_names (of_each (function_of core) (suc first) functions))
      (made_names (λ name. bytes_eq (function_name core first function) name ≡ false) (suc first) functions
      (λ number place other at is. names_apart first number function other (omega arith)
      (of_all (λ (other : CoreFun). bytes_eq function.name other.name ≡ false) functions place other
      (of_core_names functions (All-from_recursion (λ name. bytes_eq function.name name ≡ false) (map (λ (other : CoreFun). other.name) functions) (IsDistinct-head bytes_eq function.name (map (λ (other : CoreFun). other.name) functions) apart))) is))))
      (made_distinct (suc first) functions (IsDistinct-tail bytes_eq function.name (map (λ (other : CoreFun). other.name) functions) apart))
    where
      of_core_names : (some : List CoreFun) → All (λ name. bytes_eq function.name name ≡ false) (map (λ (other : CoreFun). other.name) some) → All (λ (other : CoreFun). bytes_eq function.name other.name ≡ false) some
      of_core_names [] all = All-nil (λ (other : CoreFun). bytes_eq function.name other.name ≡ false)
      of_core_names (other ∷ some) all =
          All-cons (λ (other : CoreFun). bytes_eq function.name other.name ≡ false) other some (all 0 [] (omega arith)) (of_core_names some (λ k d inside. all (suc k) d (omega arith)))

  -- prototypes have the names of their functions
  same_names : (first : ℕ) (functions : List CoreFun) → fun_names (of_each (proto_of core) first functions) ≡ fun_names (of_each (function_of core) first functions)
  same_names first [] = refl
  same_names first (function ∷ functions) = ap (λ names. function_name core first function ∷ names) (same_names (suc first) functions)

-- The file ------------------------------------------------------------------------------------------------------------

-- the inline functions: their names aren't reserved, aren't that of `sl_main` and aren't mangled
pub record IsApart (helper : CFun) : Type 0 where
  pub free : ¬ Contains reserved_words helper.name
  pub main : bytes_eq (codes "sl_main") helper.name ≡ false
  pub plain : is_mangled helper.name ≡ false

helpers_apart : All IsApart helper_functions
unfolding helper_functions
helpers_apart =
    All-from_recursion IsApart helper_functions (
      record { free = none_of reserved_words (codes "sl_sum_fits") refl; main = refl; plain = refl },
      (
        record { free = none_of reserved_words (codes "sl_difference_fits") refl; main = refl; plain = refl },
        (
          record { free = none_of reserved_words (codes "sl_product_fits") refl; main = refl; plain = refl },
          (
            record { free = none_of reserved_words (codes "sl_quotient_fits") refl; main = refl; plain = refl },
            (
              record { free = none_of reserved_words (codes "sl_remainder") refl; main = refl; plain = refl },
              (
                record { free = none_of reserved_words (codes "sl_digit") refl; main = refl; plain = refl },
                (record { free = none_of reserved_words (codes "sl_print") refl; main = refl; plain = refl }, tt),
              ),
            ),
          ),
        ),
      ),
    )

module _ (core : Core) (sound : IsSound core) (types : HasOneType core) (file : CFile) (is_of : IsFileOf core file) where
  abbrev others : List CFun
  others = of_each (function_of core) 0 core.functions

  -- one of the other functions
  pub record IsMade (function : CFun) : Type 0 where
    pub number : ℕ
    pub source : CoreFun
    pub there : slice_get core.functions number ≡ Some source
    pub is : function_of core number source ≡ function

  all_made : All IsMade others
  all_made = all_each IsMade (function_of core) 0 core.functions (λ number place source at is. record { number = number; source = source; there = subst (λ n. slice_get core.functions n ≡ Some source) (sym (let same : number ≡ place = omega arith in same)) is; is = refl })

  -- a name of the others is none of the inline functions'
  apart_from_helpers : All (DiffersFrom (fun_names others)) (fun_names helper_functions)
  apart_from_helpers =
      All-map (DiffersFrom (fun_names others)) (λ (helper : CFun). helper.name) helper_functions
      (All-weaker IsApart (λ (helper : CFun). DiffersFrom (fun_names others) helper.name)
      (λ helper apart. made_names core (λ name. bytes_eq helper.name name ≡ false) 0 core.functions
      (λ number place function at is. differ_names helper.name (function_name core number function) (λ same. other_name core helper.name apart.main apart.plain number function (sym same)))) helper_functions helpers_apart)

  -- the names of all functions
  all_names : fun_names file.functions ≡ fun_names helper_functions ++ fun_names others
  all_names = ap fun_names is_of.functions ∙ map-append (λ (function : CFun). function.name) helper_functions others

  names_keep : ¬ NamesClash (var_names file.globals ++ fun_names file.functions)
  names_keep clash =
      no_clash (fun_names helper_functions ++ fun_names others)
      (distinct_append (fun_names helper_functions) (fun_names others) laws.names (made_distinct core 0 core.functions sound.names) apart_from_helpers)
      (All-append (λ name. ¬ Contains reserved_words name) (fun_names helper_functions) (fun_names others)
      (All-map (λ name. ¬ Contains reserved_words name) (λ (helper : CFun). helper.name) helper_functions (All-weaker IsApart (λ (helper : CFun). ¬ Contains reserved_words helper.name) (λ helper apart. apart.free) helper_functions helpers_apart))
      (made_names core (λ name. ¬ Contains reserved_words name) 0 core.functions
      (λ number place function at is. of_name core (λ name. ¬ Contains reserved_words name) number function main_is_free (mangled_not_among reserved_words refl function.name))))
      (subst NamesClash all_names (subst (λ globals. NamesClash (var_names globals ++ fun_names file.functions)) is_of.globals clash))

  -- a function of the file is inline or one of the others
  which : (function : CFun) → Contains file.functions function → (function.inline ≡ true) ⊎ IsMade function
  which function among = by (Contains-append_cases helper_functions others function (subst (λ functions. Contains functions function) is_of.functions among))
    where
      by : Contains helper_functions function ⊎ Contains others function → (function.inline ≡ true) ⊎ IsMade function
      by (inl helper) = inl (All-contains (λ (helper : CFun). helper.inline ≡ true) helper_functions function laws.inline helper)
      by (inr other) = inr (All-contains IsMade others function all_made other)

  -- what is made of a function is in the file
  made_in : (number : ℕ) (source : CoreFun) → slice_get core.functions number ≡ Some source → Contains file.functions (function_of core number source)
  made_in number source there =
      subst (λ functions. Contains functions (function_of core number source)) (sym is_of.functions)
      (Contains-append_right helper_functions others (function_of core number source)
      (subst (λ n. Contains others (function_of core n source)) (let same : 0 + number ≡ number = omega arith in same) (each_in (function_of core) 0 number core.functions source there)))

  -- each function that isn't inline has one prototype
  one_proto : (function : CFun) → IsMade function → count_by (λ (proto : CFun). bytes_eq proto.name function.name) file.protos ≡ 1
  one_proto function made =
      subst (λ protos. count_by (λ (proto : CFun). bytes_eq proto.name function.name) protos ≡ 1) (sym is_of.protos)
      (count_one function.name (of_each (proto_of core) 0 core.functions)
      (subst (IsDistinct bytes_eq) (sym (same_names core 0 core.functions)) (made_distinct core 0 core.functions sound.names))
      (subst (λ names. Contains names function.name) (sym (same_names core 0 core.functions))
      (subst (λ (f : CFun). Contains (fun_names others) f.name) made.is
      (Contains-map (λ (function : CFun). function.name) others (function_of core made.number made.source)
      (subst (λ n. Contains others (function_of core n made.source)) (let same : 0 + made.number ≡ made.number = omega arith in same) (each_in (function_of core) 0 made.number core.functions made.source made.there))))))

  -- one that is inline has inline
  not_inline : (function : CFun) → function.inline ≡ true → function.inline ≢ false
  not_inline function is isnt = let same : true ≡ false = sym is ∙ isnt in cc

  has_proto : (function : CFun) → function.inline ≡ false → (function.inline ≡ true) ⊎ IsMade function → count_by (λ (proto : CFun). bytes_eq proto.name function.name) file.protos ≡ 1
  has_proto function isnt (inl is) = absurd (not_inline function is isnt)
  has_proto function isnt (inr made) = one_proto function made

  -- and each prototype has such a function
  abbrev IsAlone : CFun → Type 0
  IsAlone proto = (function : CFun) → Contains file.functions function → function.inline ≡ false → ¬ AreAlike proto function

  no_alone : All (λ proto. ¬ IsAlone proto) file.protos
  no_alone =
      subst (All (λ proto. ¬ IsAlone proto)) (sym is_of.protos)
      (all_each (λ proto. ¬ IsAlone proto) (proto_of core) 0 core.functions
      (λ number place source at is alone. alone (function_of core number source) (made_in number source (subst (λ n. slice_get core.functions n ≡ Some source) (sym (let same : number ≡ place = omega arith in same)) is)) refl (record { name = refl; result = refl; params = refl })))

  -- a run begins in the entry
  start_is : (source : CoreFun) → IsStart (function_of core core.entry source)
  start_is source = record { name = rw (eq-eqb core.entry core.entry refl) refl; called = refl; result = refl; params = refl }

  -- nothing is broken outside functions
  outside_keeps : (rule : ℕ) → ¬ BreaksOutside file rule
  outside_keeps rule (inl (is, inl clash)) = none_clash (subst (λ structs. NamesClash (map (λ (struct : CStruct). struct.name) structs)) is_of.structs clash)
  outside_keeps rule (inl (is, inr (inl clash))) = names_keep clash
  outside_keeps rule (inl (is, inr (inr (inl h)))) = in_none h.0 (subst (λ structs. Contains structs h.0) is_of.structs h.1)
  outside_keeps rule (inl (is, inr (inr (inr h)))) = in_none h.0 (subst (λ structs. Contains structs h.0) is_of.structs h.2)
  outside_keeps rule (inr (inl (is, h))) = in_none h.0 (subst (λ structs. Contains structs h.0) is_of.structs h.1)
  outside_keeps rule (inr (inr (is, inl h))) = h.3 (has_proto h.0 h.2 (which h.0 h.1))
  outside_keeps rule (inr (inr (is, inr (inl h)))) = All-contains (λ proto. ¬ IsAlone proto) file.protos h.0 no_alone h.1 h.2
  outside_keeps rule (inr (inr (is, inr (inr none)))) = let entry = sound.entry in none (function_of core core.entry entry.0) (made_in core.entry entry.0 entry.2) (start_is entry.0)

  -- In functions ------------------------------------------------------------------------------------------------------

  -- no other function has the name of `sl_digit`
  others_other : All IsOther others
  others_other = all_each IsOther (function_of core) 0 core.functions (λ number place source at is. other_name core (codes "sl_digit") refl refl number source)

  made_keeps : (earlier : List CFun) (function : CFun) → IsMade function → (rule : ℕ) → ¬ BreaksInside file (helper_functions ++ earlier) function rule
  made_keeps earlier function made =
      subst (λ function. (rule : ℕ) → ¬ BreaksInside file (helper_functions ++ earlier) function rule) made.is
      (function_keeps file (helper_functions ++ earlier) (function_of core made.number made.source) (translated_good core sound types file is_of made.number made.source made.there earlier))

  inside_keeps : (before : List CFun) (function : CFun) → StandsBehind file before function → (rule : ℕ) → ¬ BreaksInside file before function rule
  inside_keeps before function (behind, stands) rule = by (split_append helper_functions others before behind function (sym is_of.functions ∙ stands))
    where
      by : ((mid : List CFun) × (helper_functions ≡ before ++ function ∷ mid)) ⊎ ((rest : List CFun) × (before ≡ helper_functions ++ rest) × (others ≡ rest ++ function ∷ behind)) → ¬ BreaksInside file before function rule
      by (inl (mid, is)) = laws.keep file others is_of.functions others_other before mid function is rule
      by (inr (rest, is, are)) =
          subst (λ before. ¬ BreaksInside file before function rule) (sym is)
          (made_keeps rest function (All-contains IsMade others function all_made (in_middle others rest behind function are)) rule)

  pub file_keeps : KeepsRules file
  unfolding Breaks
  file_keeps rule line (inl (at, broken)) = outside_keeps rule broken
  file_keeps rule line (inr (before, function, stands, at, broken)) = inside_keeps before function stands rule broken

  -- A text can have it ------------------------------------------------------------------------------------------------

  made_formed : (function : CFun) → IsMade function → formed.IsFunction function
  made_formed function made = subst formed.IsFunction made.is (translated_formed core sound types file is_of made.number made.source made.there [])

  made_nests : (function : CFun) → IsMade function → NestsLittle function
  made_nests function made =
      subst NestsLittle made.is
      (body_nesting file (helper_functions ++ []) (function_of core made.number made.source) (translated_good core sound types file is_of made.number made.source made.there []))

  pub file_formed : IsWellFormed file
  file_formed = record {
    structs = subst (All IsStruct) (sym is_of.structs) (All-nil IsStruct);
    globals = subst (All IsVar) (sym is_of.globals) (All-nil IsVar);
    protos =
        subst (All IsProto) (sym is_of.protos)
        (all_each IsProto (proto_of core) 0 core.functions
        (λ number place source at is. proto_formed core sound types file is_of number source (subst (λ n. slice_get core.functions n ≡ Some source) (sym (let same : number ≡ place = omega arith in same)) is) []));
    functions =
        subst (All formed.IsFunction) (sym is_of.functions)
        (All-append formed.IsFunction helper_functions others laws.formed (All-weaker IsMade formed.IsFunction made_formed others all_made));
    nesting =
        subst (All NestsLittle) (sym is_of.functions)
        (All-append NestsLittle helper_functions others laws.nesting (All-weaker IsMade NestsLittle made_nests others all_made));
  }

-- the C of a core is such a file
is_file_of : (core : Core) → IsFileOf core (c_of core)
unfolding c_of
is_file_of core = record { structs = refl; globals = refl; protos = refl; functions = refl }

-- no rule of C is broken
pub keeps_rules : (core : Core) → IsSound core → HasOneType core → KeepsRules (c_of core)
keeps_rules core sound types = file_keeps core sound types (c_of core) (is_file_of core)

-- a text can have it
pub well_formed : (core : Core) → IsSound core → HasOneType core → IsWellFormed (c_of core)
well_formed core sound types = file_formed core sound types (c_of core) (is_file_of core)
