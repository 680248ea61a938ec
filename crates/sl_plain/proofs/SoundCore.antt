-- The core of a plain program is sound.
use Rattle.std.proofs.Common.{◌≡◌, inr, ℕ, zero, suc, ◌+◌, ◌^◌, ◌<◌, ◌≤◌, List, [], ◌∷◌, ◌++◌, map, length, replicate, true, false, not, ◌&&◌, Some, is_some, bytes_eq, codes, slice_get, refl, sym, subst, ◌∙◌, arith, flat_map, eqb, ne_eqb, ne_of_lt}
use Rattle.std.specs.List.{list_all, IsDistinct, AllByRecursion}
use Rattle.std.specs.Char.{is_ascii_uppercase, is_ascii_alphanumeric}
use Rattle.std.proofs.lemmas.List.{length-replicate}
use Rattle.std.specs.Int.Signed.{le_z_yes}
use Rattle.sl_core.specs.declared.tree.Core.{Core}
use Rattle.sl_core.specs.declared.tree.CoreType.TheVariants.{Int}
use Rattle.sl_core.specs.declared.tree.CoreFun.{CoreFun}
use Rattle.sl_core.specs.declared.tree.CoreStmt.{CoreStmt}
use Rattle.sl_core.specs.declared.tree.CoreStmt.TheVariants as core
use Rattle.sl_core.specs.declared.tree.CoreExpr.TheVariants as expr
use Rattle.sl_core.specs.Meaning.{run_callees}
use Rattle.sl_core.specs.Sound.{NumberOf, kind_of, fits, strays, stmt_depth, stmt_in_range, deepest, IsType, IsExitType, IsFunction, IsSound}
use Rattle.sl_plain.specs.declared.program.Kind.TheVariants as kind
use Rattle.sl_plain.specs.declared.program.Plain.{Plain}
use Rattle.sl_plain.specs.Numbers.{z_type}
use Rattle.sl_plain.specs.Names.{is_reserved_app_name, begins_with_capital, is_app_name}
use Rattle.sl_plain.specs.Program.{AnAtom, IsPart, Declared, declared, depth, parts_in, parts, IsProgram}
use Rattle.sl_plain.specs.Reach.{lines_in, IsInReach}
use Rattle.sl_plain.specs.Lowered.{atom_expr, lowered, unnamed_of, main_body, main_of, start_fun, core_of, variable, z}
use Rattle.sl_plain.specs.Lowered as lower
use Rattle.sl_plain.proofs.Names.{both, from_all, to_all, all_so, all_pass, all_before, all_behind, all_append}
use Rattle.sl_plain.proofs.Statements.{statements}
use Rattle.sl_plain.proofs.Keeping.{IsKept}
use Rattle.sl_plain.proofs.Runs.{joined_map, program_is, has_type, calm_run, core_never_stuck, nothing_declared}
use Rattle.sl_plain.proofs.Depths.{atom_depth, statements_shallow}
use Rattle.sl_plain.proofs.Fitting.{atom_kind, fits_kept, atom_range, range_kept, strays_kept}
use Rattle.sl_plain.proofs.CoreLayers.{kind_of_path, call_fits_is, return_fits, call_depth, return_depth, path_depth, call_range, return_range, path_range, call_strays, return_strays}

-- the type of numbers
z_is_type : IsType (Int z_type)
z_is_type = (record { no_wrap = refl; least = le_z_yes tt; greatest = le_z_yes tt }, le_z_yes tt, inr (le_z_yes tt))

z_is_exit : IsExitType (Int z_type)
z_is_exit = (le_z_yes tt, le_z_yes tt)

-- the same of each of some
all_replicate : {A : Type 0} (P : A → Type 0) (x : A) → P x → (n : ℕ) → AllByRecursion P (replicate n x)
all_replicate P x h zero = tt
all_replicate P x h (suc n) = (h, all_replicate P x h n)

-- a name that begins with a capital isn't that of the function in which a run begins
not_start : (name : List ℕ) → begins_with_capital name ≡ true → bytes_eq (name ++ codes ".main") (codes "start") ≡ false
not_start [] capital = absurd (false_not_true capital)
  where
    false_not_true : false ≡ true → ⊥
    false_not_true h = grind arith
not_start (byte ∷ bytes) capital =
    let apart : eqb byte 115 ≡ false = ne_eqb byte 115 (λ same. ne_of_lt (small byte capital) same)
    in rw apart refl
  where
    small : (byte : ℕ) → is_ascii_uppercase byte ≡ true → byte < 115
    small byte h = grind (arith, h)

-- what a name of an App is
app_name : (name : List ℕ) → is_app_name name ≡ true → (begins_with_capital name ≡ true) × (list_all is_ascii_alphanumeric name ≡ true)
app_name name is = both (begins_with_capital name) (list_all is_ascii_alphanumeric name) (both (begins_with_capital name && list_all is_ascii_alphanumeric name) (not (is_reserved_app_name name)) is).0

module _ (plain : Plain) (is : IsProgram plain) (reach : IsInReach plain) where
  abbrev target : Core
  target = core_of plain

  abbrev names : List Declared
  names = declared plain

  -- how many variables have no names
  abbrev rooms : ℕ
  rooms = unnamed_of plain

  abbrev main : CoreFun
  main = main_of plain

  -- what is written out in the body
  parts_are : AllByRecursion IsPart (flat_map parts_in plain.body ++ AnAtom plain.value ∷ [])
  parts_are = from_all IsPart (parts plain) is.written

  -- a condition that is kept by all statements holds of those of `main` before its return
  kept_by : (P : CoreStmt → Type 0) → IsKept names rooms (2 ^ 32) P → AllByRecursion P (lower.in_order (map (lowered names) plain.body) 0)
  kept_by P kept =
      let fit = program_is plain is in
      let after = statements target (has_type plain) names is.distinct [] rooms (run_callees target) (calm_run plain is) (2 ^ 32) P kept plain.body [] fit.scope fit.scoped (λ name entry h. absurd (nothing_declared name entry h)) fit.known
      in after.keeps
      (subst (λ parts. AllByRecursion IsPart parts) (sym (joined_map parts_in plain.body)) (all_before IsPart (flat_map parts_in plain.body) (AnAtom plain.value ∷ []) parts_are))
      (subst (λ lines. AllByRecursion (λ line. line < 2 ^ 32) lines) (sym (joined_map lines_in plain.body)) (from_all (λ line. line < 2 ^ 32) (flat_map lines_in plain.body) reach.lines))
      0 (omega arith)

  -- all types fit
  fits_all : IsKept names rooms (2 ^ 32) (λ s. fits target main s ≡ true)
  fits_all = fits_kept target (has_type plain) names rooms main refl (2 ^ 32)

  -- what is returned is a number
  returned_kind : kind_of target main (atom_expr names plain.value) ≡ Some (NumberOf z)
  returned_kind =
      let fit = program_is plain is in
      let after = statements target (has_type plain) names is.distinct [] rooms (run_callees target) (calm_run plain is) (2 ^ 32) (λ s. fits target main s ≡ true) fits_all plain.body [] fit.scope fit.scoped (λ name entry h. absurd (nothing_declared name entry h)) fit.known
      in atom_kind target (has_type plain) names rooms main refl fit.scope after.within plain.value kind.Number fit.value (all_behind IsPart (flat_map parts_in plain.body) (AnAtom plain.value ∷ []) parts_are).0

  -- the bytes of the name of `main`
  name_bytes : AllByRecursion (λ byte. byte ≤ 255) main.name
  name_bytes =
      all_append (λ byte. byte ≤ 255) plain.name (codes ".main")
      (all_so (λ byte. is_ascii_alphanumeric byte ≡ true) (λ byte. byte ≤ 255) small plain.name (all_pass is_ascii_alphanumeric plain.name (app_name plain.name is.name).1))
      (omega arith, (omega arith, (omega arith, (omega arith, (omega arith, tt)))))
    where
      small : (byte : ℕ) → is_ascii_alphanumeric byte ≡ true → byte ≤ 255
      small byte h = grind (arith, h)

  main_is : IsFunction target main
  main_is = record {
    vars = to_all _ main.vars (all_replicate (λ type. is_some (slice_get target.types type) ≡ true) z z_there (length names + rooms));
    result = z_there;
    fit = to_all _ main.body (all_append _ low returns (kept_by (λ s. fits target main s ≡ true) fits_all) (return_fits target main (atom_expr names plain.value) ∙ rw returned_kind refl, tt));
    loops = to_all _ main.body (all_append _ low returns (kept_by (λ s. strays s ≡ false) (strays_kept names rooms (2 ^ 32))) (return_strays (atom_expr names plain.value), tt));
    depth = to_all _ main.body (all_append _ low returns
        (all_so (λ s. stmt_depth s ≤ 16 + 4) (λ s. stmt_depth s ≤ deepest) (λ s h. omega arith) low (statements_shallow names 16 plain.body (from_all (λ s. depth s ≤ 16) plain.body is.depth) 0))
        (let d = return_depth (atom_expr names plain.value) in let e = atom_depth names plain.value in omega arith, tt));
    in_range = record {
      name = to_all _ main.name name_bytes;
      vars = let n = length-replicate (length names + rooms) z in let le = reach.variables in omega arith;
      body = to_all _ main.body (all_append _ low returns (kept_by (λ s. stmt_in_range s ≡ true) (range_kept names rooms)) (return_range (atom_expr names plain.value) ∙ atom_range names plain.value, tt));
    };
  }
    where
      low : List CoreStmt
      low = lower.in_order (map (lowered names) plain.body) 0

      returns : List CoreStmt
      returns = core.Return (atom_expr names plain.value) ∷ []

      z_there : is_some (slice_get target.types z) ≡ true
      z_there = rw (has_type plain) refl

  start_is : IsFunction target start_fun
  unfolding core_of
  start_is = record {
    vars = to_all (λ type. is_some (slice_get target.types type) ≡ true) (z ∷ []) (refl, tt);
    result = refl;
    fit = to_all (λ s. fits target start_fun s ≡ true) start_fun.body (call_fits_is target start_fun (Some (variable 0)) 0, (return_fits target start_fun (expr.Path (variable 0) z) ∙ rw (kind_of_path target start_fun (variable 0) z) refl, tt));
    loops = to_all (λ s. strays s ≡ false) start_fun.body (call_strays (Some (variable 0)) 0, (return_strays (expr.Path (variable 0) z), tt));
    depth = to_all (λ s. stmt_depth s ≤ deepest) start_fun.body (let d = call_depth (Some (variable 0)) 0 in omega arith, (let d = return_depth (expr.Path (variable 0) z) in let e = path_depth (variable 0) z in omega arith, tt));
    in_range = record {
      name = to_all (λ byte. byte ≤ 255) start_fun.name (omega arith, (omega arith, (omega arith, (omega arith, (omega arith, tt)))));
      vars = omega arith;
      body = to_all (λ s. stmt_in_range s ≡ true) start_fun.body (call_range (Some (variable 0)) 0, (return_range (expr.Path (variable 0) z) ∙ path_range (variable 0) z, tt));
    };
  }

-- the core of a plain program is sound
pub sound : (plain : Plain) → IsProgram plain → IsInReach plain → IsSound (core_of plain)
unfolding core_of IsDistinct
sound plain is reach = record {
  types = to_all IsType (Int z_type ∷ []) (z_is_type, tt);
  names = ((not_start plain.name (app_name plain.name is.name).0, tt), (tt, tt));
  functions = to_all (IsFunction (core_of plain)) (main_of plain ∷ start_fun ∷ []) (main_is plain is reach, (start_is plain is reach, tt));
  entry = (start_fun, Int z_type, refl, refl, z_is_exit);
  never_stuck = core_never_stuck plain is;
}

-- its only type is that of the numbers of 64 bits
pub one_type : (plain : Plain) → (core_of plain).types ≡ Int z_type ∷ []
unfolding core_of
one_type plain = refl
