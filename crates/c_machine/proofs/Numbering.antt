-- The names of lists that grow at their end.
use Rattle.std.proofs.Common.{◌≡◌, ℕ, zero, suc, ◌+◌, ◌<◌, List, [], ◌∷◌, ◌++◌, Option, None, Some, length, Bool, true, false, not, ◌&&◌, if◌then◌else◌, refl, sym, ap, ap₂, ◌∙◌, arith, take, get_or}
use Rattle.std.specs.Prelude.{slice_get, option_map, reverse}
use Rattle.std.specs.Option.{is_some, option_and_then}
use Rattle.std.specs.List.{position, position_from}
use Rattle.std.specs.Str.{bytes_eq}
use Rattle.std.proofs.lemmas.List.{take_more, reverse-append}
use Rattle.std.proofs.lemmas.Iterator.Adapters.{position_from-zero}
use Rattle.c_tree.specs.declared.tree.CFun.{CFun}
use Rattle.c_tree.specs.declared.tree.CVar.{CVar}
use Rattle.c_tree.specs.Scope.{number_named, or_else}
use Rattle.c_rules.specs.declared.naming.Names.{Names}
use Rattle.c_machine.specs.declared.scopes.Variable.{Variable}
use Rattle.c_machine.specs.Naming.{first_named, AreVars}
use Rattle.c_rules.specs.Naming.{item_named}
use Rattle.c_rules.proofs.Keeping.{keeps_named, gets_named}
use Rattle.c_machine.specs.Resolved.{plain_named, AreNumbers}
use Rattle.c_machine.proofs.Computing.{Nowhere, At, first_is, numbered, named_nowhere, named_at}

-- Firsts --------------------------------------------------------------------------------------------------------------

module _ {X : Type 0} (test : X → Bool) (y : X) where
  -- the first that passes, with one more at the end
  from_here : (i : ℕ) (b : Bool) → (if b then Some i else None) ≡ (if b then Some (i + 0) else None)
  from_here i true = let e : i ≡ i + 0 = omega arith in ap Some e
  from_here i false = refl

  from_next : (i n m : ℕ) (b : Bool) (first rest : Option ℕ) → n ≡ m → first ≡ or_else rest (if test y then Some n else None) → (if b then Some i else first) ≡ or_else (if b then Some i else rest) (if test y then Some m else None)
  from_next i n m true first rest e h = refl
  from_next i n m false first rest e h = h ∙ ap (λ n. or_else rest (if test y then Some n else None)) e

  from_push : (i : ℕ) (xs : List X) → position_from test i (xs ++ y ∷ []) ≡ or_else (position_from test i xs) (if test y then Some (i + length xs) else None)
  from_push i [] = from_here i (test y)
  from_push i (x ∷ xs) = from_next i ((i + 1) + length xs) (i + suc (length xs)) (test x) _ (position_from test (i + 1) xs) (omega arith) (from_push (i + 1) xs)

  pub position_push : (xs : List X) → position test (xs ++ y ∷ []) ≡ or_else (position test xs) (if test y then Some (length xs) else None)
  position_push xs =
      position_from-zero test (xs ++ y ∷ [])
      ∙ (from_push 0 xs
      ∙ ap₂ (λ first n. or_else first (if test y then Some n else None)) (sym (position_from-zero test xs)) (let e : 0 + length xs ≡ length xs = omega arith in e))

-- what stands in a list stands there with more at its end
get_before : {X : Type 0} (xs ys : List X) (n : ℕ) (x : X) → slice_get xs n ≡ Some x → slice_get (xs ++ ys) n ≡ Some x
get_before [] ys n x h = cc
get_before (y ∷ xs) ys zero x h = h
get_before (y ∷ xs) ys (suc n) x h = get_before xs ys n x h

-- the last one
get_last : {X : Type 0} (xs : List X) (x : X) → slice_get (xs ++ x ∷ []) (length xs) ≡ Some x
get_last [] x = refl
get_last (y ∷ xs) x = get_last xs x

-- with the last one first
pub reversed : {X : Type 0} (xs : List X) (i : ℕ) (x d : X) → i < length xs → x ≡ get_or xs i d → x ∷ reverse (take i xs) ≡ reverse (take (i + 1) xs)
reversed xs i x d within is = ap (λ x. x ∷ reverse (take i xs)) is ∙ sym (ap reverse (take_more xs i d within) ∙ reverse-append (take i xs) (get_or xs i d ∷ []))

-- Variables -----------------------------------------------------------------------------------------------------------

-- the first variable with a name, with one more at the end
pub first_push : (vars : List CVar) (var : CVar) (name : List ℕ) → first_named (vars ++ var ∷ []) name ≡ or_else (first_named vars name) (if bytes_eq var.name name then Some (numbered (length vars) var) else None)
first_push vars var name =
    let there : Option ℕ → Option Variable = λ o. option_and_then (λ number. option_map (numbered number) (slice_get (vars ++ var ∷ []) number)) o
    in elim (first_is vars name) [
      | Nowhere none ↦
          ap there (pushed ∙ ap (λ first. or_else first (if bytes_eq var.name name then Some (length vars) else None)) none)
          ∙ (at (bytes_eq var.name name) ∙ ap (λ first. or_else first (if bytes_eq var.name name then Some (numbered (length vars) var) else None)) (sym (named_nowhere vars name none)))
      | At number old some is ↦
          ap there (pushed ∙ ap (λ first. or_else first (if bytes_eq var.name name then Some (length vars) else None)) some)
          ∙ (ap (option_map (numbered number)) (get_before vars (var ∷ []) number old is)
          ∙ ap (λ first. or_else first (if bytes_eq var.name name then Some (numbered (length vars) var) else None)) (sym (named_at vars name number old some is)))
    ]
  where
    pushed : number_named (vars ++ var ∷ []) name ≡ or_else (number_named vars name) (if bytes_eq var.name name then Some (length vars) else None)
    pushed = position_push (λ (var : CVar). bytes_eq var.name name) var vars

    at : (b : Bool) → option_and_then (λ number. option_map (numbered number) (slice_get (vars ++ var ∷ []) number)) (if b then Some (length vars) else None) ≡ (if b then Some (numbered (length vars) var) else None)
    at true = ap (option_map (numbered (length vars))) (get_last vars var)
    at false = refl

-- a variable behind others whose name one of them has
pub vars_keep : (vars : List CVar) (var : CVar) (names : Names Variable) → AreVars vars names → is_some (item_named names var.name) ≡ true → AreVars (vars ++ var ∷ []) names
vars_keep vars var names are there name =
    keeps_named names var.name (numbered (length vars) var) there name
    ∙ (ap (λ o. or_else o (if bytes_eq var.name name then Some (numbered (length vars) var) else None)) (are name)
    ∙ sym (first_push vars var name))

-- one whose name none of them has
pub vars_more : (vars : List CVar) (var : CVar) (old new : Names Variable) (item : Variable) → item ≡ numbered (length vars) var → AreVars vars old → is_some (item_named old var.name) ≡ false → ((name : List ℕ) → item_named new name ≡ (if bytes_eq var.name name then Some item else item_named old name)) → AreVars (vars ++ var ∷ []) new
vars_more vars var old new item is are missing set name =
    set name
    ∙ (ap (λ item. if bytes_eq var.name name then Some item else item_named old name) is
    ∙ (gets_named old var.name (numbered (length vars) var) missing name
    ∙ (ap (λ o. or_else o (if bytes_eq var.name name then Some (numbered (length vars) var) else None)) (are name)
    ∙ sym (first_push vars var name))))

-- Functions -----------------------------------------------------------------------------------------------------------

module _ (functions : List CFun) (function : CFun) where
  -- a function behind others
  plain_push : (name : List ℕ) → plain_named (functions ++ function ∷ []) name ≡ or_else (plain_named functions name) (if not function.inline && bytes_eq function.name name then Some (length functions) else None)
  plain_push name = position_push (λ function. not function.inline && bytes_eq function.name name) function functions

  or_none : {T : Type 0} (o : Option T) → or_else o None ≡ o
  or_none None = refl
  or_none (Some x) = refl

  -- one that is inline
  pub numbers_skip : (names : Names ℕ) → AreNumbers functions names → function.inline ≡ true → AreNumbers (functions ++ function ∷ []) names
  numbers_skip names are inline name =
      are name ∙ (sym (or_none (plain_named functions name))
      ∙ (ap (λ inline. or_else (plain_named functions name) (if not inline && bytes_eq function.name name then Some (length functions) else None)) (sym inline)
      ∙ sym (plain_push name)))

  -- one whose name one of them has
  pub numbers_keep : (names : Names ℕ) → AreNumbers functions names → function.inline ≡ false → is_some (item_named names function.name) ≡ true → AreNumbers (functions ++ function ∷ []) names
  numbers_keep names are plain there name =
      keeps_named names function.name (length functions) there name
      ∙ (ap (λ o. or_else o (if bytes_eq function.name name then Some (length functions) else None)) (are name)
      ∙ (ap (λ inline. or_else (plain_named functions name) (if not inline && bytes_eq function.name name then Some (length functions) else None)) (sym plain)
      ∙ sym (plain_push name)))

  -- one whose name none of them has
  pub numbers_more : (old new : Names ℕ) (number : ℕ) → number ≡ length functions → AreNumbers functions old → function.inline ≡ false → is_some (item_named old function.name) ≡ false → ((name : List ℕ) → item_named new name ≡ (if bytes_eq function.name name then Some number else item_named old name)) → AreNumbers (functions ++ function ∷ []) new
  numbers_more old new number is are plain missing set name =
      set name
      ∙ (ap (λ number. if bytes_eq function.name name then Some number else item_named old name) is
      ∙ (gets_named old function.name (length functions) missing name
      ∙ (ap (λ o. or_else o (if bytes_eq function.name name then Some (length functions) else None)) (are name)
      ∙ (ap (λ inline. or_else (plain_named functions name) (if not inline && bytes_eq function.name name then Some (length functions) else None)) (sym plain)
      ∙ sym (plain_push name)))))
