-- What the tests of sizes and of prototypes mean.
use Rattle.std.proofs.Common.{◌≡◌, ◌≢◌, ◌⊎◌, ℕ, ◌^◌, ◌<◌, List, [], ◌∷◌, length, Bool, true, false, not, ◌&&◌, ◌||◌, Option, Some, None, Decides, refl, subst, ap, ◌∙◌, inl, inr, ⊎_elim, Contains, codes, bytes_eq, arith}
use Rattle.std.specs.Prelude.{◌==◌, nat_lt}
use Rattle.std.specs.List.{list_any, list_all, zip, count_by}
use Rattle.std.proofs.lemmas.Bool.{ne_eqb}
use Rattle.std.proofs.lemmas.Bool.Decides.{Decides-eqb, Decides-ltb, Decides-like, Decides-not, Decides-and, Decides-or, Decides-at}
use Rattle.std.proofs.lemmas.Slice.Eq.{bytes_eq-Decides}
use Rattle.c_tree.specs.declared.tree.CFile.{CFile}
use Rattle.c_tree.specs.declared.tree.CFun.{CFun}
use Rattle.c_tree.specs.declared.tree.CVar.{CVar}
use Rattle.c_tree.specs.declared.tree.CType.TheVariants.{Int}
use Rattle.c_tree.specs.declared.tree.CStruct.{CStruct}
use Rattle.c_tree.specs.declared.tree.CMember.{CMember}
use Rattle.c_tree.specs.Bytes.{struct_extent}
use Rattle.c_tree.specs.Rules.{BreaksNames, BreaksSizes, AreAlike, IsStart, BreaksPrototypes, BreaksOutside}
use Rattle.c_rules.specs.Least.{told, least, IsLeast}
use Rattle.c_rules.specs.Types.{same_type}
use Rattle.c_rules.specs.Protos.{same_var, same_vars, are_alike, is_empty, is_start, lacks_proto, is_function_of, lacks_function, protos_broken}
use Rattle.c_rules.specs.Sizes.{is_count_wrong, is_too_large, sizes_broken}
use Rattle.c_rules.proofs.Anys.{any_holds}
use Rattle.c_rules.proofs.Holds.{never, same_type_holds, not_holds}
use Rattle.c_rules.proofs.Leasts.{is_told, is_least}
use Rattle.c_rules.proofs.Walks.{behind_same}

-- Sizes -------------------------------------------------------------------------------------------------------------------

-- a count is wrong
abbrev CountWrong : Option ℕ → Type 0
CountWrong given = (count : ℕ) × (given ≡ Some count) × ((count ≡ 0) ⊎ (2 ^ 24 < count))

count_holds : (given : Option ℕ) → Decides (is_count_wrong given) (CountWrong given)
count_holds None = never (λ (count, is, wrong). cc)
count_holds (Some given) =
    Decides-like (given == 0 || nat_lt 16777216 given) (λ wrong. (given, refl, wrong))
    (λ (count, is, wrong). let this : count ≡ given = cc in subst (λ n. (n ≡ 0) ⊎ (2 ^ 24 < n)) this wrong)
    (Decides-or (given == 0) (nat_lt 16777216 given) (Decides-eqb given 0) (Decides-ltb 16777216 given))

-- a struct is too large, or a count in it is wrong
abbrev StructWrong : CStruct → Type 0
StructWrong struct =
    (2 ^ 24 < (struct_extent struct).bytes)
    ⊎ ((member : CMember) × (count : ℕ) × Contains struct.members member × (member.count ≡ Some count) × ((count ≡ 0) ⊎ (2 ^ 24 < count)))

struct_holds : (struct : CStruct) → Decides (is_too_large struct) (StructWrong struct)
unfolding is_too_large
struct_holds struct =
    let counts = list_any (λ (member : CMember). is_count_wrong member.count) struct.members in
    Decides-or (nat_lt 16777216 (struct_extent struct).bytes) counts (Decides-ltb 16777216 (struct_extent struct).bytes)
    (Decides-like counts (λ (member, among, (count, is, wrong)). (member, count, among, is, wrong)) (λ (member, count, among, is, wrong). (member, among, (count, is, wrong)))
    (any_holds (λ (member : CMember). is_count_wrong member.count) (λ member. CountWrong member.count) (λ member. count_holds member.count) struct.members))

sizes_hold : (file : CFile) → Decides (sizes_broken file) (BreaksSizes file)
sizes_hold file = any_holds is_too_large StructWrong struct_holds file.structs

-- Prototypes ----------------------------------------------------------------------------------------------------------------

var_holds : (left right : CVar) → Decides (same_var left right) (left ≡ right)
var_holds left right =
    Decides-like (same_var left right)
    (λ (name, kind). let same : record { name = left.name; kind = left.kind } ≡ record { name = right.name; kind = right.kind } = ap (λ n. record { name = n; kind = left.kind }) name ∙ ap (λ k. record { name = right.name; kind = k }) kind in same)
    (λ same. (ap (λ var. var.name) same, ap (λ var. var.kind) same))
    (Decides-and (bytes_eq left.name right.name) (same_type left.kind right.kind) (bytes_eq-Decides left.name right.name) (same_type_holds left.kind right.kind))

both_first : (first second third : Bool) → first && (second && third) ≡ second && (first && third)
both_first true true third = refl
both_first true false third = refl
both_first false true third = refl
both_first false false third = refl

vars_hold : (left right : List CVar) → Decides (same_vars left right) (left ≡ right)
vars_hold [] [] = (λ _. refl, λ _. refl)
vars_hold [] (var ∷ right) =
    Decides-at (same_vars [] (var ∷ right)) false (ap (λ same. same && true) (ne_eqb 0 (length (var ∷ right)) (λ e. omega arith))) (never (λ same. cc))
vars_hold (var ∷ left) [] =
    Decides-at (same_vars (var ∷ left) []) false (ap (λ same. same && true) (ne_eqb (length (var ∷ left)) 0 (λ e. omega arith))) (never (λ same. cc))
vars_hold (var ∷ left) (other ∷ right) =
    let pairs = list_all (λ (pair : CVar × CVar). same_var pair.0 pair.1) (zip left right) in
    Decides-at (same_vars (var ∷ left) (other ∷ right)) (same_var var other && same_vars left right)
    (ap (λ same. same && (same_var var other && pairs)) (behind_same (length left) (length right)) ∙ both_first (length left == length right) (same_var var other) pairs)
    (Decides-like (same_var var other && same_vars left right) (λ (first, rest). ap (λ v. v ∷ left) first ∙ ap (λ vs. other ∷ vs) rest) (λ same. ((cc), (cc)))
    (Decides-and (same_var var other) (same_vars left right) (var_holds var other) (vars_hold left right)))

alike_holds : (proto function : CFun) → Decides (are_alike proto function) (AreAlike proto function)
alike_holds proto function =
    Decides-like (are_alike proto function) (λ ((name, result), params). record { name = name; result = result; params = params }) (λ alike. ((alike.name, alike.result), alike.params))
    (Decides-and (bytes_eq proto.name function.name && same_type proto.result function.result) (same_vars proto.params function.params)
    (Decides-and (bytes_eq proto.name function.name) (same_type proto.result function.result) (bytes_eq-Decides proto.name function.name) (same_type_holds proto.result function.result))
    (vars_hold proto.params function.params))

empty_holds : {A : Type 0} (xs : List A) → Decides (is_empty xs) (xs ≡ [])
empty_holds [] = (λ _. refl, λ _. refl)
empty_holds (x ∷ xs) = never (λ same. cc)

start_holds : (function : CFun) → Decides (is_start function) (IsStart function)
start_holds function =
    let named = bytes_eq function.name (codes "sl_main") in
    let typed = same_type function.result (Int true 64) in
    Decides-like (is_start function) (λ (((name, called), result), params). record { name = name; called = called; result = result; params = params }) (λ start. (((start.name, start.called), start.result), start.params))
    (Decides-and (named && not function.inline && typed) (is_empty function.params)
    (Decides-and (named && not function.inline) typed (Decides-and named (not function.inline) (bytes_eq-Decides function.name (codes "sl_main")) (not_holds function.inline)) (same_type_holds function.result (Int true 64)))
    (empty_holds function.params))

module _ (file : CFile) where
  -- a function that isn't inline has no prototype or two
  protos_lack : Decides (list_any (lacks_proto file.protos) file.functions) ((function : CFun) × Contains file.functions function × (function.inline ≡ false) × (count_by (λ proto. bytes_eq proto.name function.name) file.protos ≢ 1))
  protos_lack =
      Decides-like (list_any (lacks_proto file.protos) file.functions) (λ (function, among, (plain, count)). (function, among, plain, count)) (λ (function, among, plain, count). (function, among, (plain, count)))
      (any_holds (lacks_proto file.protos) (λ function. (function.inline ≡ false) × (count_by (λ proto. bytes_eq proto.name function.name) file.protos ≢ 1))
      (λ function. Decides-and (not function.inline) (not (count_by (λ proto. bytes_eq proto.name function.name) file.protos == 1)) (not_holds function.inline)
      (Decides-not (count_by (λ proto. bytes_eq proto.name function.name) file.protos == 1) (Decides-eqb (count_by (λ proto. bytes_eq proto.name function.name) file.protos) 1)))
      file.functions)

  -- a prototype has no function like it
  function_lacks : (proto : CFun) → Decides (lacks_function file.functions proto) ((function : CFun) → Contains file.functions function → function.inline ≡ false → ¬ AreAlike proto function)
  function_lacks proto =
      Decides-like (lacks_function file.functions proto) (λ none function among plain alike. none (function, among, (plain, alike))) (λ none (function, among, (plain, alike)). none function among plain alike)
      (Decides-not (list_any (is_function_of proto) file.functions)
      (any_holds (is_function_of proto) (λ function. (function.inline ≡ false) × AreAlike proto function)
      (λ function. Decides-and (not function.inline) (are_alike proto function) (not_holds function.inline) (alike_holds proto function)) file.functions))

  -- there is no function with which a run begins
  start_lacks : Decides (not (list_any is_start file.functions)) ((function : CFun) → Contains file.functions function → ¬ IsStart function)
  start_lacks =
      Decides-like (not (list_any is_start file.functions)) (λ none function among start. none (function, among, start)) (λ none (function, among, start). none function among start)
      (Decides-not (list_any is_start file.functions) (any_holds is_start IsStart start_holds file.functions))

  protos_hold : Decides (protos_broken file) (BreaksPrototypes file)
  protos_hold =
      let protos = list_any (lacks_proto file.protos) file.functions in
      let functions = list_any (lacks_function file.functions) file.protos in
      Decides-like (protos_broken file)
      (λ broken. ⊎_elim (λ first. ⊎_elim (λ proto. inl proto) (λ function. inr (inl function)) first) (λ start. inr (inr start)) broken)
      (λ broken. ⊎_elim (λ proto. inl (inl proto)) (λ rest. ⊎_elim (λ function. inl (inr function)) (λ start. inr start) rest) broken)
      (Decides-or (protos || functions) (not (list_any is_start file.functions))
      (Decides-or protos functions protos_lack
      (any_holds (lacks_function file.functions) (λ proto. (function : CFun) → Contains file.functions function → function.inline ≡ false → ¬ AreAlike proto function) function_lacks file.protos))
      start_lacks)

  -- the least rule that is broken outside functions
  pub outside_least : (names sizes protos : Bool) → Decides names (BreaksNames file) → sizes ≡ sizes_broken file → protos ≡ protos_broken file → IsLeast (BreaksOutside file) (least (told 10 names) (least (told 13 sizes) (told 22 protos)))
  outside_least names sizes protos of_names of_sizes of_protos =
      is_least (λ rule. (rule ≡ 10) × BreaksNames file) (λ rule. ((rule ≡ 13) × BreaksSizes file) ⊎ ((rule ≡ 22) × BreaksPrototypes file)) (told 10 names) (least (told 13 sizes) (told 22 protos))
      (is_told (BreaksNames file) 10 names of_names)
      (is_least (λ rule. (rule ≡ 13) × BreaksSizes file) (λ rule. (rule ≡ 22) × BreaksPrototypes file) (told 13 sizes) (told 22 protos)
      (is_told (BreaksSizes file) 13 sizes (Decides-at sizes (sizes_broken file) of_sizes (sizes_hold file)))
      (is_told (BreaksPrototypes file) 22 protos (Decides-at protos (protos_broken file) of_protos protos_hold)))

  -- where names clash
  pub names_least : BreaksNames file → IsLeast (BreaksOutside file) (Some 10)
  names_least clash = (
    inl (refl, clash),
    λ other broken. ⊎_elim (λ (is, _). omega arith) (λ rest. ⊎_elim (λ (is, _). omega arith) (λ (is, _). omega arith) rest) broken,
  )
