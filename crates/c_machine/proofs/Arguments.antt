-- The numbers of arguments, as a frame holds them.
use Rattle.std.proofs.Common.{◌≡◌, ℕ, zero, suc, ◌+◌, ◌<◌, ℤ, List, [], ◌∷◌, ◌++◌, length, get_or, take, drop, true, add-one, map, Option, Some, None, refl, sym, ap, ◌∙◌, arith}
use Rattle.std.specs.Prelude.{option_map}
use Rattle.std.specs.Option.{option_and_then}
use Rattle.std.proofs.Math.Seq.{drop-cons}
use Rattle.std.proofs.lemmas.List.{take_more, map-append}
use Rattle.c_machine.specs.declared.program.Slot.{Slot}
use Rattle.c_machine.specs.declared.program.Slot.TheVariants.{Local, Global, Undeclared}
use Rattle.c_machine.specs.declared.program.Expr.{Expr}
use Rattle.c_machine.specs.declared.program.Word.{Word}
use Rattle.c_machine.specs.declared.program.Stmt.{Stmt}
use Rattle.c_machine.specs.State.{State, is_declared}
use Rattle.c_machine.specs.Values.{value, numbers}
use Rattle.c_machine.specs.Stepped.{ready}

-- one number behind others
and_one : Option Word → Option (List ℤ) → Option (List ℤ)
and_one x ns = option_and_then (λ ns. option_map (λ x. ns ++ x.number ∷ []) x) ns

-- one number before others
one_and : Option Word → Option (List ℤ) → Option (List ℤ)
one_and x ns = option_and_then (λ x. option_map (λ others. x.number ∷ others) ns) x

both_ways : (x y : Option Word) (ns : Option (List ℤ)) → one_and x (and_one y ns) ≡ and_one y (one_and x ns)
unfolding and_one one_and
both_ways None y ns = refl
both_ways (Some x) y None = refl
both_ways (Some x) None (Some ns) = refl
both_ways (Some x) (Some y) (Some ns) = refl

alone : (x : Option Word) → one_and x (Some []) ≡ and_one x (Some [])
unfolding and_one one_and
alone None = refl
alone (Some x) = refl

-- a slot that is declared
pub declared_slot : (slot : Slot) → (slot ≡ Undeclared → ⊥) → is_declared slot ≡ true
declared_slot (Local number) h = refl
declared_slot (Global number) h = refl
declared_slot Undeclared h = absurd (h refl)

-- a list from one of its items on
pub drop_at : (xs : List Stmt) (i : ℕ) (x d : Stmt) → i < length xs → x ≡ get_or xs i d → drop i xs ≡ x ∷ drop (i + 1) xs
drop_at xs i x d within is = drop-cons xs i d within ∙ (λ k. sym is k ∷ drop (sym (add-one i) k) xs)

module _ (s : State) where
  numbers-cons : (e : Expr) (es : List Expr) → numbers (e ∷ es) s ≡ one_and (value e s) (numbers es s)
  unfolding one_and
  numbers-cons e es = refl

  -- the numbers with one more behind them
  numbers-snoc : (es : List Expr) (e : Expr) → numbers (es ++ e ∷ []) s ≡ and_one (value e s) (numbers es s)
  numbers-snoc [] e = numbers-cons e [] ∙ alone (value e s)
  numbers-snoc (f ∷ es) e =
      numbers-cons f (es ++ e ∷ []) ∙ (ap (one_and (value f s)) (numbers-snoc es e) ∙ (both_ways (value f s) (value e s) (numbers es s) ∙ ap (and_one (value e s)) (sym (numbers-cons f es))))

  held_more : (x : Word) (ns : Option (List ℤ)) (cells : List (Option ℤ)) → option_map (map Some) ns ≡ Some cells → option_map (map Some) (and_one (Some x) ns) ≡ Some (cells ++ Some x.number ∷ [])
  unfolding and_one
  held_more x None cells e = absurd (cc e)
  held_more x (Some ns) cells e =
      let same : map Some ns ≡ cells = cc in
      ap Some (map-append Some ns (x.number ∷ []) ∙ ap (λ (cells : List (Option ℤ)). cells ++ Some x.number ∷ []) same)

  -- one more argument
  pub more_cells : (es : List Expr) (i : ℕ) (e d : Expr) (x : Word) (cells : List (Option ℤ)) → i < length es → e ≡ get_or es i d → option_map (map Some) (numbers (take i es) s) ≡ Some cells → value e s ≡ Some x
      → option_map (map Some) (numbers (take (i + 1) es) s) ≡ Some (cells ++ Some x.number ∷ [])
  more_cells es i e d x cells within is before h =
      ap (λ (es : List Expr). option_map (map Some) (numbers es s)) (take_more es i d within ∙ ap (λ (e : Expr). take i es ++ e ∷ []) (sym is))
      ∙ (ap (option_map (map Some)) (numbers-snoc (take i es) e ∙ ap (λ (v : Option Word). and_one v (numbers (take i es) s)) h)
      ∙ held_more x (numbers (take i es) s) cells before)

  none_after : (x : Option Word) → one_and x None ≡ None
  unfolding one_and
  none_after None = refl
  none_after (Some x) = refl

  none_first : (ns : Option (List ℤ)) → one_and None ns ≡ None
  unfolding one_and
  none_first ns = refl

  -- an argument that has no value
  pub no_numbers : (es : List Expr) (i : ℕ) (d : Expr) → i < length es → value (get_or es i d) s ≡ None → numbers es s ≡ None
  no_numbers [] i d within h = absurd (omega arith)
  no_numbers (e ∷ es) zero d within h = numbers-cons e es ∙ (ap (λ (v : Option Word). one_and v (numbers es s)) h ∙ none_first (numbers es s))
  no_numbers (e ∷ es) (suc i) d within h = numbers-cons e es ∙ (ap (one_and (value e s)) (no_numbers es i d (omega arith) h) ∙ none_after (value e s))

  -- a target that is declared
  pub ready_declared : (target : Option Slot) (es : List Expr) → (target ≡ Some Undeclared → ⊥) → ready target es s ≡ numbers es s
  ready_declared None es h = refl
  ready_declared (Some (Local number)) es h = refl
  ready_declared (Some (Global number)) es h = refl
  ready_declared (Some Undeclared) es h = absurd (h refl)

-- numbers that are held as they are
pub held_numbers : (ns : Option (List ℤ)) (cells : List (Option ℤ)) → Some cells ≡ option_map (map Some) ns → (numbers : List ℤ) × (ns ≡ Some numbers) × (cells ≡ map Some numbers)
held_numbers None cells e = absurd (cc e)
held_numbers (Some ns) cells e = (ns, refl, (let same : cells ≡ map Some ns = cc in same))

pub held_none : (ns : Option (List ℤ)) → None ≡ option_map (map {A = ℤ} Some) ns → ns ≡ None
held_none None e = refl
held_none (Some ns) e = absurd (cc e)
