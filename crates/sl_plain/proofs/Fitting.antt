-- The statements of the core of a plain program fit, and are in range.
use Rattle.std.proofs.Common.{◌≡◌, ℕ, zero, suc, ◌+◌, ◌^◌, ◌<◌, ◌≤◌, ℤ, pos, List, [], ◌∷◌, map, length, replicate, Bool, true, false, nat_lt, Some, None, is_some, if◌then◌else◌, slice_get, refl, ap, ◌∙◌, arith, lt-ltb}
use Rattle.std.specs.List.{list_all, list_any, AllByRecursion}
use Rattle.sl_num.specs.declared.arithmetic.Op.TheVariants.{Add}
use Rattle.sl_num.specs.declared.comparing.Comparison.{Comparison}
use Rattle.sl_num.specs.declared.comparing.Comparison.TheVariants.{Less}
use Rattle.sl_core.specs.declared.tree.Core.{Core}
use Rattle.sl_core.specs.declared.tree.CoreType.TheVariants.{Int}
use Rattle.sl_core.specs.declared.tree.CoreFun.{CoreFun}
use Rattle.sl_core.specs.declared.tree.CorePath.{CorePath}
use Rattle.sl_core.specs.declared.tree.CoreExpr.{CoreExpr}
use Rattle.sl_core.specs.declared.tree.CoreExpr.TheVariants as expr
use Rattle.sl_core.specs.declared.tree.CoreStmt.{CoreStmt}
use Rattle.sl_core.specs.declared.tree.CoreStmt.TheVariants as core
use Rattle.sl_num.specs.Comparing.{truth}
use Rattle.sl_core.specs.Sound.{NumberOf, type_has, type_of_place, kind_of, fits, strays, expr_in_range, stmt_in_range, is_source_place}
use Rattle.sl_plain.specs.declared.program.Kind.{Kind as PlainKind}
use Rattle.sl_plain.specs.declared.program.Kind.TheVariants as kind
use Rattle.sl_plain.specs.declared.program.Atom.{Atom}
use Rattle.sl_plain.specs.declared.program.Atom.TheVariants.{Name, Number, Truth}
use Rattle.sl_plain.specs.declared.program.Right.{Right}
use Rattle.sl_plain.specs.declared.program.Right.TheVariants.{Just, Compare, Apply, Get}
use Rattle.sl_plain.specs.declared.program.Condition.{Condition}
use Rattle.sl_plain.specs.declared.program.Condition.TheVariants as condition
use Rattle.sl_plain.specs.Numbers.{z_type}
use Rattle.sl_plain.specs.Names.{is_number}
use Rattle.sl_plain.specs.Program.{IsAtom, IsRight, IsCondition, Declared, declaration, kind_of_atom, has_kind, are_numbers, right_fits, condition_fits}
use Rattle.sl_plain.specs.Reach.{right_lines}
use Rattle.sl_plain.specs.Lowered.{path_of, atom_expr, condition_expr, store_right, unnamed, leave_unless, raise, for_round, z}
use Rattle.sl_plain.proofs.Names.{both, place, stands, position_is, all_append}
use Rattle.sl_plain.proofs.Held.{Within}
use Rattle.sl_plain.proofs.Values.{entry_of, kind_is}
use Rattle.sl_plain.proofs.Keeping.{IsKept}
use Rattle.sl_plain.proofs.CoreLayers.{kind_of_number, kind_of_text, kind_of_path, kind_of_apply, kind_of_compare, store_fits, if_fits, loop_fits, break_fits, get_fits, put_fits, halt_fits, number_range, text_range, path_range, apply_range, compare_range, store_range, if_range, loop_range, break_range, get_range, put_range, halt_range, store_strays, if_strays, loop_strays, get_strays, put_strays, halt_strays}

-- what holds of all is so where it is mapped
pub all_true : {A : Type 0} (f : A → Bool) (xs : List A) → AllByRecursion (λ x. f x ≡ true) xs → list_all (λ so. so) (map f xs) ≡ true
all_true f [] all = refl
all_true f (x ∷ xs) all = rw all.0 (all_true f xs all.1)

-- what holds of none is so of none where it is mapped
none_true : {A : Type 0} (f : A → Bool) (xs : List A) → AllByRecursion (λ x. f x ≡ false) xs → list_any (λ so. so) (map f xs) ≡ false
none_true f [] all = refl
none_true f (x ∷ xs) all = rw all.0 (none_true f xs all.1)

-- each of some that are the same
get_replicate : {A : Type 0} (n k : ℕ) (x : A) → k < n → slice_get (replicate n x) k ≡ Some x
get_replicate zero k x less = absurd (omega arith)
get_replicate (suc n) zero x less = refl
get_replicate (suc n) (suc k) x less = get_replicate n k x (omega arith)

pub all_bytes : (bytes : List ℕ) → AllByRecursion (λ byte. byte ≤ 255) bytes → list_all (λ byte. nat_lt byte 256) bytes ≡ true
all_bytes [] all = refl
all_bytes (byte ∷ bytes) all = rw (lt-ltb byte 256 (let le = all.0 in omega arith)) (all_bytes bytes all.1)

module _ (target : Core) (typed : slice_get target.types 0 ≡ Some (Int z_type)) (names : List Declared) (rooms : ℕ) (function : CoreFun) (vars : function.vars ≡ replicate (length names + rooms) z) where
  -- a number of 64 bits is one of the type
  pub type_has_number : (n : ℤ) → is_number n ≡ true → type_has target z n ≡ true
  type_has_number n is = rw typed (ap (λ so. is_some (if so then Some (Int z_type) else None)) is)

  -- each variable has the type of numbers
  variable_is : (number : ℕ) → number < length names + rooms → slice_get function.vars number ≡ Some z
  variable_is number less = ap (λ vars. slice_get vars number) vars ∙ get_replicate (length names + rooms) number z less

  -- that of a declared name
  pub place_is : (name : List ℕ) (entry : Declared) → declaration names name ≡ Some entry → type_of_place function (path_of names name) ≡ Some z
  place_is name entry h =
      let within = (stands names name entry h).within
      in rw (position_is names name entry h) (variable_is (place names name) (omega arith))

  -- and one without a name
  unnamed_is : (number : ℕ) → number < rooms → type_of_place function (unnamed names number) ≡ Some z
  unnamed_is number less = variable_is (length names + number) (omega arith)

  held_kind : (number : ℕ) → number < rooms → kind_of target function (expr.Path (unnamed names number) z) ≡ Some (NumberOf z)
  held_kind number less = kind_of_path target function (unnamed names number) z ∙ rw (unnamed_is number less) refl

  -- a number that is stored in a variable of that type
  store_fit : (path : CorePath) (e : CoreExpr) → type_of_place function path ≡ Some z → kind_of target function e ≡ Some (NumberOf z) → fits target function (core.Store path e) ≡ true
  store_fit path e at kind = store_fits target function path e ∙ rw at (rw kind refl)

  -- a loop that is left
  leave_fit : (e : CoreExpr) → kind_of target function e ≡ Some (NumberOf z) → fits target function (leave_unless e) ≡ true
  leave_fit e kind = if_fits target function e [] (core.Break ∷ []) ∙ rw kind (rw (break_fits target function) refl)

  -- a round of a `for`
  round_fit : (line : ℕ) (path : CorePath) (taken : ℕ) (body : List CoreStmt) → type_of_place function path ≡ Some z → suc taken < rooms → AllByRecursion (λ s. fits target function s ≡ true) body
      → AllByRecursion (λ s. fits target function s ≡ true) (for_round line path (unnamed names taken) (unnamed names (suc taken)) body)
  round_fit line path taken body at less all =
      let next = held_kind taken (omega arith) in
      let bound = held_kind (suc taken) less in
      let asks : kind_of target function (expr.Compare Less (expr.Path (unnamed names taken) z) (expr.Path (unnamed names (suc taken)) z) z) ≡ Some (NumberOf z)
      = kind_of_compare target function Less (expr.Path (unnamed names taken) z) (expr.Path (unnamed names (suc taken)) z) z ∙ simp (next, bound, typed) in
      let one : kind_of target function (expr.Number (pos 1) z) ≡ Some (NumberOf z) = kind_of_number target function (pos 1) z ∙ rw typed refl in
      let sum : kind_of target function (expr.Apply Add (expr.Path (unnamed names taken) z) (expr.Number (pos 1) z) z 0 line) ≡ Some (NumberOf z)
      = kind_of_apply target function Add (expr.Path (unnamed names taken) z) (expr.Number (pos 1) z) z 0 line ∙ simp (next, one)
      in (
        leave_fit (expr.Compare Less (expr.Path (unnamed names taken) z) (expr.Path (unnamed names (suc taken)) z) z) asks,
        (
          store_fit path (expr.Path (unnamed names taken) z) at next,
          all_append (λ s. fits target function s ≡ true) body (raise line (unnamed names taken) ∷ []) all
              (store_fit (unnamed names taken) (expr.Apply Add (expr.Path (unnamed names taken) z) (expr.Number (pos 1) z) z 0 line) (unnamed_is taken (omega arith)) sum, tt),
        ),
      )

  module _ (scope : List Declared) (within : Within names scope) where
    pub atom_kind : (atom : Atom) (type : PlainKind) → kind_of_atom scope atom ≡ Some type → IsAtom atom → kind_of target function (atom_expr names atom) ≡ Some (NumberOf z)
    atom_kind (Name name) type h is =
        let found = entry_of type (declaration scope name) h in
        let at = place_is name found.0 (within name found.0 found.1)
        in kind_of_path target function (path_of names name) z ∙ rw at refl
    atom_kind (Number number) type h is = kind_of_number target function number z ∙ rw (type_has_number number is) refl
    atom_kind (Truth true) type h is = kind_of_number target function (truth true) z ∙ rw typed refl
    atom_kind (Truth false) type h is = kind_of_number target function (truth false) z ∙ rw typed refl

    two : (a b : Atom) → are_numbers scope a b ≡ true → IsAtom a → IsAtom b → (kind_of target function (atom_expr names a) ≡ Some (NumberOf z)) × (kind_of target function (atom_expr names b) ≡ Some (NumberOf z))
    two a b h is_a is_b =
        let fit = both (has_kind kind.Number (kind_of_atom scope a)) (has_kind kind.Number (kind_of_atom scope b)) h
        in (atom_kind a kind.Number (kind_is kind.Number (kind_of_atom scope a) fit.0) is_a, atom_kind b kind.Number (kind_is kind.Number (kind_of_atom scope b) fit.1) is_b)

    compare_kind : (by : Comparison) (a b : Atom) → are_numbers scope a b ≡ true → IsAtom a → IsAtom b → kind_of target function (expr.Compare by (atom_expr names a) (atom_expr names b) z) ≡ Some (NumberOf z)
    compare_kind by a b h is_a is_b = let p = two a b h is_a is_b in kind_of_compare target function by (atom_expr names a) (atom_expr names b) z ∙ simp (p.0, p.1, typed)

    pub right_fit : (path : CorePath) (type : PlainKind) (right : Right) → type_of_place function path ≡ Some z → right_fits scope type right ≡ true → IsRight right → fits target function (store_right names path right) ≡ true
    right_fit path type (Just atom) at h is = store_fit path (atom_expr names atom) at (atom_kind atom type (kind_is type (kind_of_atom scope atom) h) is)
    right_fit path kind.Truth (Compare by a b) at h is = store_fit path (expr.Compare by (atom_expr names a) (atom_expr names b) z) at (compare_kind by a b h is.0 is.1)
    right_fit path kind.Number (Compare by a b) at h is = grind arith
    right_fit path kind.Truth (Apply op a b line) at h is = grind arith
    right_fit path kind.Number (Apply op a b line) at h is =
        let p = two a b h is.1 is.2 in
        store_fit path (expr.Apply op (atom_expr names a) (atom_expr names b) z 0 line) at (kind_of_apply target function op (atom_expr names a) (atom_expr names b) z 0 line ∙ simp (p.0, p.1))
    right_fit path type Get at h is = get_fits target function path ∙ rw at (rw typed refl)

    pub condition_kind : (test : Condition) → condition_fits scope test ≡ true → IsCondition test → kind_of target function (condition_expr names test) ≡ Some (NumberOf z)
    condition_kind (condition.Just atom) h is = atom_kind atom kind.Truth (kind_is kind.Truth (kind_of_atom scope atom) h) is
    condition_kind (condition.Compare by a b) h is = compare_kind by a b h is.0 is.1

  -- all statements fit
  pub fits_kept : (limit : ℕ) → IsKept names rooms limit (λ s. fits target function s ≡ true)
  fits_kept limit = record {
    store = λ scope within name entry h right fit is lines. right_fit scope within (path_of names name) entry.type right (place_is name entry h) fit is;
    print = λ scope within atom type h is. put_fits target function (atom_expr names atom) ∙ rw (atom_kind scope within atom type h is) refl;
    text = λ bytes are. put_fits target function (expr.TextOf bytes) ∙ rw (kind_of_text target function bytes) refl;
    choice = λ scope within test fit is chosen other a b.
        if_fits target function (condition_expr names test) chosen other ∙ rw (condition_kind scope within test fit is) (rw (all_true (fits target function) chosen a, all_true (fits target function) other b) refl);
    loop = λ scope within test fit is body all.
        loop_fits target function (leave_unless (condition_expr names test) ∷ body) ∙ all_true (fits target function) (leave_unless (condition_expr names test) ∷ body) (leave_fit (condition_expr names test) (condition_kind scope within test fit is), all);
    bound = λ scope within atom type is number less. store_fit (unnamed names number) (atom_expr names atom) (unnamed_is number less) (atom_kind scope within atom kind.Number type is);
    count = λ name entry h taken room line less body all.
        let round = for_round line (path_of names name) (unnamed names taken) (unnamed names (suc taken)) body
        in loop_fits target function round ∙ all_true (fits target function) round (round_fit line (path_of names name) taken body (place_is name entry h) room all);
    halt = λ kind le line less. halt_fits target function kind 0 line;
  }

module _ (names : List Declared) where
  pub atom_range : (atom : Atom) → expr_in_range (atom_expr names atom) ≡ true
  atom_range (Name name) = path_range (path_of names name) z
  atom_range (Number number) = number_range number z
  atom_range (Truth so) = number_range (truth so) z

  -- a line that has 32 bits
  place_range : (line : ℕ) → line < 2 ^ 32 → is_source_place 0 line ≡ true
  place_range line less = rw (lt-ltb line (2 ^ 32) less) refl

  store_in_range : (path : CorePath) (e : CoreExpr) → expr_in_range e ≡ true → stmt_in_range (core.Store path e) ≡ true
  store_in_range path e is = store_range path e ∙ is

  right_range : (path : CorePath) (right : Right) → AllByRecursion (λ line. line < 2 ^ 32) (right_lines right) → stmt_in_range (store_right names path right) ≡ true
  right_range path (Just atom) lines = store_in_range path (atom_expr names atom) (atom_range atom)
  right_range path (Compare by a b) lines = store_in_range path (expr.Compare by (atom_expr names a) (atom_expr names b) z) (compare_range by (atom_expr names a) (atom_expr names b) z ∙ rw (atom_range a, atom_range b) refl)
  right_range path (Apply op a b line) lines =
      store_in_range path (expr.Apply op (atom_expr names a) (atom_expr names b) z 0 line) (apply_range op (atom_expr names a) (atom_expr names b) z 0 line ∙ rw (atom_range a, atom_range b, place_range line lines.0) refl)
  right_range path Get lines = get_range path

  leave_range : (e : CoreExpr) → expr_in_range e ≡ true → stmt_in_range (leave_unless e) ≡ true
  leave_range e is = if_range e [] (core.Break ∷ []) ∙ rw (is, break_range) refl

  round_range : (line : ℕ) → line < 2 ^ 32 → (path next bound : CorePath) (body : List CoreStmt) → AllByRecursion (λ s. stmt_in_range s ≡ true) body → AllByRecursion (λ s. stmt_in_range s ≡ true) (for_round line path next bound body)
  round_range line less path next bound body all = (
    leave_range (expr.Compare Less (expr.Path next z) (expr.Path bound z) z) (compare_range Less (expr.Path next z) (expr.Path bound z) z ∙ rw (path_range next z, path_range bound z) refl),
    (
      store_in_range path (expr.Path next z) (path_range next z),
      all_append (λ s. stmt_in_range s ≡ true) body (raise line next ∷ []) all
          (store_in_range next (expr.Apply Add (expr.Path next z) (expr.Number (pos 1) z) z 0 line) (apply_range Add (expr.Path next z) (expr.Number (pos 1) z) z 0 line ∙ rw (path_range next z, number_range (pos 1) z, place_range line less) refl), tt),
    ),
  )

  condition_range : (test : Condition) → expr_in_range (condition_expr names test) ≡ true
  condition_range (condition.Just atom) = atom_range atom
  condition_range (condition.Compare by a b) = compare_range by (atom_expr names a) (atom_expr names b) z ∙ rw (atom_range a, atom_range b) refl

  -- all statements are in range
  pub range_kept : (rooms : ℕ) → IsKept names rooms (2 ^ 32) (λ s. stmt_in_range s ≡ true)
  range_kept rooms = record {
    store = λ scope within name entry h right fit is lines. right_range (path_of names name) right lines;
    print = λ scope within atom type h is. put_range (atom_expr names atom) ∙ atom_range atom;
    text = λ bytes are. put_range (expr.TextOf bytes) ∙ (text_range bytes ∙ all_bytes bytes are);
    choice = λ scope within test fit is chosen other a b. if_range (condition_expr names test) chosen other ∙ rw (condition_range test, all_true stmt_in_range chosen a, all_true stmt_in_range other b) refl;
    loop = λ scope within test fit is body all. loop_range (leave_unless (condition_expr names test) ∷ body) ∙ all_true stmt_in_range (leave_unless (condition_expr names test) ∷ body) (leave_range (condition_expr names test) (condition_range test), all);
    bound = λ scope within atom type is number less. store_in_range (unnamed names number) (atom_expr names atom) (atom_range atom);
    count = λ name entry h taken room line less body all.
        let round = for_round line (path_of names name) (unnamed names taken) (unnamed names (suc taken)) body
        in loop_range round ∙ all_true stmt_in_range round (round_range line less (path_of names name) (unnamed names taken) (unnamed names (suc taken)) body all);
    halt = λ kind le line less. halt_range kind 0 line ∙ rw (lt-ltb kind 256 (omega arith), place_range line less) refl;
  }

  -- a `Break` stands in loops
  right_strays : (path : CorePath) (right : Right) → strays (store_right names path right) ≡ false
  right_strays path (Just atom) = store_strays path (atom_expr names atom)
  right_strays path (Compare by a b) = store_strays path (expr.Compare by (atom_expr names a) (atom_expr names b) z)
  right_strays path (Apply op a b line) = store_strays path (expr.Apply op (atom_expr names a) (atom_expr names b) z 0 line)
  right_strays path Get = get_strays path

  pub strays_kept : (rooms limit : ℕ) → IsKept names rooms limit (λ s. strays s ≡ false)
  strays_kept rooms limit = record {
    store = λ scope within name entry h right fit is lines. right_strays (path_of names name) right;
    print = λ scope within atom type h is. put_strays (atom_expr names atom);
    text = λ bytes are. put_strays (expr.TextOf bytes);
    choice = λ scope within test fit is chosen other a b. if_strays (condition_expr names test) chosen other ∙ rw (none_true strays chosen a, none_true strays other b) refl;
    loop = λ scope within test fit is body all. loop_strays (leave_unless (condition_expr names test) ∷ body);
    bound = λ scope within atom type is number less. store_strays (unnamed names number) (atom_expr names atom);
    count = λ name entry h taken room line less body all. loop_strays (for_round line (path_of names name) (unnamed names taken) (unnamed names (suc taken)) body);
    halt = λ kind le line less. halt_strays kind 0 line;
  }
