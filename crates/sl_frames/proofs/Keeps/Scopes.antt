-- The types of variables in a scope of `int64_t` alone.
use Rattle.std.proofs.Common.{◌≡◌, ℕ, ◌<◌, List, Bool, Some, length, get_or, sym, ap, ◌∙◌, arith, All, Contains, bytes_eq}
use Rattle.std.specs.Prelude.{nat_lt}
use Rattle.std.specs.List.{position_or_len}
use Rattle.std.proofs.lemmas.Bool.{lt-ltb, ltb-true, ltb-false}
use Rattle.std.proofs.lemmas.List.{get_or-map, length-map}
use Rattle.std.proofs.lemmas.List.Sums.{fails_before_first}
use Rattle.std.proofs.lemmas.Option.{slice_get-get_or}
use Rattle.std.proofs.lemmas.Slice.Eq.{bytes_eq-Decides}
use Rattle.c_tree.specs.declared.tree.CVar.{CVar}
use Rattle.c_tree.specs.Rules.{word, var_names, type_of_name}
use Rattle.sl_frames.specs.Translated.{declared}
use Rattle.sl_frames.proofs.Keeps.Tests.{by_test}

-- an `int64_t`
abbrev pub IsInt64 : CVar → Type 0
IsInt64 var = var.kind ≡ word

module _ (vars globals : List CVar) (name : List ℕ) where
  abbrev is_named : CVar → Bool
  is_named var = bytes_eq var.name name

  -- where a name is that of some variable, there is a first one
  found : Contains (var_names vars) name → position_or_len is_named vars < length vars
  found among =
      by_test (nat_lt (position_or_len is_named vars) (length vars)) (λ less. ltb-true (position_or_len is_named vars) (length vars) less)
      (λ past.
      let beyond = ltb-false (position_or_len is_named vars) (length vars) past in
      let inside : among.0 < length vars = let less = among.1 in let long = length-map vars (λ (var : CVar). var.name) in omega arith in
      let fails = fails_before_first is_named vars among.0 (declared name) (omega arith) in
      let same : (get_or vars among.0 (declared name)).name ≡ name = sym (get_or-map (λ (var : CVar). var.name) vars among.0 (declared name) name inside) ∙ among.2 in
      let passes = (bytes_eq-Decides (get_or vars among.0 (declared name)).name name).1 same in
      cc)

  -- and it has the type
  pub type_of_local : All IsInt64 vars → Contains (var_names vars) name → type_of_name (record { locals = vars; globals = globals }) name ≡ Some word
  type_of_local all among =
      let inside = found among in
      let kind : (get_or vars (position_or_len is_named vars) (declared name)).kind ≡ word = all (position_or_len is_named vars) (declared name) inside in
      rw (lt-ltb (position_or_len is_named vars) (length vars) inside, slice_get-get_or vars (position_or_len is_named vars) (declared name) inside) (ap Some kind)
