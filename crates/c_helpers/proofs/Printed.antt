-- What calls of the functions that print do.
use Rattle.std.proofs.Common.{◌≡◌, ℕ, zero, suc, ◌+◌, ◌/◌, ◌%◌, ◌<◌, ◌≤◌, ◌-◌, ◌^◌, List, [], ◌∷◌, ◌++◌, map, length, Bool, true, false, None, nat_le, refl, sym, ap, subst, ◌∙◌, arith, append_assoc, append-nil, eq-eqb, codes}
use Rattle.std.specs.Prelude.{ℤ, pos, negsuc, neg_ℤ, ◌-ℤ◌, int_div, int_rem, int_le, int_lt}
use Rattle.std.specs.Fmt.{decimal}
use Rattle.std.proofs.lemmas.Bool.Decides.{nat_tests}
use Rattle.std.proofs.lemmas.Int.{ints}
use Rattle.std.proofs.lemmas.List.{map-append}
use Rattle.std.proofs.Math.Nat.{div-le_self}
use Rattle.sl_num.specs.declared.comparing.Comparison.TheVariants.{Less, LessEqual}
use Rattle.sl_run.specs.Run.{Trace, Puts, Went, ◌>>◌}
use Rattle.c_tree.specs.declared.tree.CBinary.TheVariants.{Sub, Div, Rem}
use Rattle.c_tree.specs.declared.tree.CExpr.{CExpr}
use Rattle.c_tree.specs.declared.tree.CExpr.TheVariants.{Binary, Compare, Negate}
use Rattle.c_tree.specs.declared.tree.CFile.{CFile}
use Rattle.c_tree.specs.declared.tree.CFun.{CFun}
use Rattle.c_tree.specs.declared.tree.CStmt.{CStmt}
use Rattle.c_tree.specs.Memory.{Tree, Memory, Number}
use Rattle.c_tree.specs.Scope.{Scope, scope_of}
use Rattle.sl_run.specs.Statements.{Next}
use Rattle.sl_num.specs.Comparing.{truth}
use Rattle.c_tree.specs.Meaning.{Callees, meaning, block, is_int64, begin_inline, inline_callees, body}
use Rattle.c_tree.proofs.Running.{const_runs, read_runs, negate_runs, assign_runs, call_runs, if_runs, if_else_runs, put_runs}
use Rattle.c_helpers.specs.Functions.{constant, named, put_digit, digit, call_digit, powers, print}
use Rattle.c_helpers.specs.Laws.{Reaches, PutsDigit, Prints, digit_at}
use Rattle.c_helpers.proofs.Frame.{within, scope_in, two, Yields, yields_constant, yields_a, yields_b, yields_comparison, yields_difference, yields_quotient, yields_remainder}
use Rattle.c_helpers.proofs.Sums.{bounds, bounded}
use Rattle.c_helpers.proofs.Quotients.{not_zero}
use Rattle.c_helpers.proofs.Decimal.{digits_at, decimal_is}

-- a run with these bytes put
abbrev said : List ℕ → Trace → Trace
said bytes t = record t { events = t.events ++ map Puts bytes }

-- the value of the last digit of a number that isn't positive
digit_value : (k : ℕ) → pos 48 -ℤ int_rem (neg_ℤ (pos k)) (pos 10) ≡ pos (48 + k % 10)
digit_value k = omega (arith, ints)

-- a quotient of such a number
quotient_value : (k p : ℕ) → int_div (neg_ℤ (pos k)) (pos p) ≡ neg_ℤ (pos (k / p))
quotient_value zero p = let less = div-le_self 0 p in let none : 0 / p ≡ 0 = omega arith in rw none
quotient_value (suc k) p = refl

-- such a number has 64 bits down to the least
not_positive : (k : ℕ) → k ≤ 2 ^ 63 → is_int64 (neg_ℤ (pos k)) ≡ true
not_positive k h = bounded (neg_ℤ (pos k)) (record { least = omega (arith, ints); greatest = omega (arith, ints) })

-- two of them compared
at_most_is : (k p : ℕ) (here : Bool) → nat_le p k ≡ here → int_le (neg_ℤ (pos k)) (neg_ℤ (pos p)) ≡ here
at_most_is k p true e = let less : p ≤ k = grind (arith, nat_tests) in grind (arith, ints)
at_most_is k p false e = let less : k < p = grind (arith, nat_tests) in grind (arith, ints)

module _ (scope : Scope) (vars : List Tree) where
  -- a statement puts bytes, and changes nothing else
  record Says (call : Callees) (s : CStmt) (bytes : List ℕ) : Type 0 where
    pub says : (t : Trace) (memory : Memory) → meaning scope s call t (within vars memory) ≡ Went Next (said bytes t) (within vars memory)

  -- an expression whose number is known to be another
  yields_same : (e : CExpr) (m n : ℤ) → m ≡ n → Yields scope vars e m → Yields scope vars e n
  yields_same e m n same value = subst (λ k. Yields scope vars e k) same value

  -- a negation
  yields_negation : (e : CExpr) (n : ℤ) → Yields scope vars e n → is_int64 (neg_ℤ n) ≡ true → Yields scope vars (Negate e) (neg_ℤ n)
  yields_negation e n value fits = record { yields = λ t memory. simp (negate_runs, value.yields, fits) }

  -- the last digit of a number that isn't positive is put
  says_digit : (call : Callees) (e : CExpr) (k : ℕ) → k ≤ 2 ^ 63 → Yields scope vars e (neg_ℤ (pos k)) → Says call (put_digit e) ((48 + k % 10) ∷ [])
  says_digit call e k h value =
      let less = div-le_self k 10 in
      let divided : is_int64 (int_div (neg_ℤ (pos k)) (pos 10)) ≡ true = bounded (int_div (neg_ℤ (pos k)) (pos 10)) (record { least = omega (arith, ints); greatest = omega (arith, ints) }) in
      let rest : is_int64 (int_rem (neg_ℤ (pos k)) (pos 10)) ≡ true = bounded (int_rem (neg_ℤ (pos k)) (pos 10)) (record { least = omega (arith, ints); greatest = omega (arith, ints) }) in
      let whole : is_int64 (pos 48 -ℤ int_rem (neg_ℤ (pos k)) (pos 10)) ≡ true = bounded (pos 48 -ℤ int_rem (neg_ℤ (pos k)) (pos 10)) (record { least = omega (arith, ints); greatest = omega (arith, ints) }) in
      let remains = yields_remainder scope vars e (constant 10) (neg_ℤ (pos k)) (pos 10) value (yields_constant scope vars 10) refl divided rest in
      let glyph = yields_same (Binary Sub (constant 48) (Binary Rem e (constant 10))) (pos 48 -ℤ int_rem (neg_ℤ (pos k)) (pos 10)) (pos (48 + k % 10)) (digit_value k)
      (yields_difference scope vars (constant 48) (Binary Rem e (constant 10)) (pos 48) (int_rem (neg_ℤ (pos k)) (pos 10)) (yields_constant scope vars 48) remains whole) in
      let byte : nat_le (48 + k % 10) 255 ≡ true = grind (arith, nat_tests) in
      record { says = λ t memory. simp (put_runs, glyph.yields, byte) }

-- the variables of `sl_digit`, called on -k and p
abbrev frame_of : ℕ → ℕ → List Tree
frame_of k p = two (neg_ℤ (pos k)) (pos p)

module _ (file : CFile) (call : Callees) (k p : ℕ) (short : k ≤ 2 ^ 63) (positive : 0 < p) (least : p ≤ 2 ^ 63 - 1) where
  -- the test whether -k has a digit there
  tested : Yields (scope_in file) (frame_of k p) (Compare LessEqual (named (codes "a")) (Negate (named (codes "b")))) (truth (int_le (neg_ℤ (pos k)) (neg_ℤ (pos p))))
  tested =
      yields_comparison (scope_in file) (frame_of k p) LessEqual (named (codes "a")) (Negate (named (codes "b"))) (neg_ℤ (pos k)) (neg_ℤ (pos p))
      (yields_a file (neg_ℤ (pos k)) (pos p))
      (yields_negation (scope_in file) (frame_of k p) (named (codes "b")) (pos p) (yields_b file (neg_ℤ (pos k)) (pos p)) (not_positive p (omega arith)))

  tested_is : (here : Bool) → nat_le p k ≡ here → Yields (scope_in file) (frame_of k p) (Compare LessEqual (named (codes "a")) (Negate (named (codes "b")))) (truth here)
  tested_is here e = yields_same (scope_in file) (frame_of k p) (Compare LessEqual (named (codes "a")) (Negate (named (codes "b")))) _ _ (ap truth (at_most_is k p here e)) tested

  -- the number without the digits behind it
  divided : Yields (scope_in file) (frame_of k p) (Binary Div (named (codes "a")) (named (codes "b"))) (neg_ℤ (pos (k / p)))
  divided =
      let less = div-le_self k p in
      let fits : is_int64 (int_div (neg_ℤ (pos k)) (pos p)) ≡ true = subst (λ n. is_int64 n ≡ true) (sym (quotient_value k p)) (not_positive (k / p) (omega arith)) in
      yields_same (scope_in file) (frame_of k p) (Binary Div (named (codes "a")) (named (codes "b"))) (int_div (neg_ℤ (pos k)) (pos p)) (neg_ℤ (pos (k / p))) (quotient_value k p)
      (yields_quotient (scope_in file) (frame_of k p) (named (codes "a")) (named (codes "b")) (neg_ℤ (pos k)) (pos p) (yields_a file (neg_ℤ (pos k)) (pos p)) (yields_b file (neg_ℤ (pos k)) (pos p))
      (not_zero (pos p) (λ e. omega (arith, ints))) fits)

  -- the digit is put
  says_here : Says (scope_in file) (frame_of k p) call (put_digit (Binary Div (named (codes "a")) (named (codes "b")))) ((48 + (k / p) % 10) ∷ [])
  says_here =
      let less = div-le_self k p in
      says_digit (scope_in file) (frame_of k p) call (Binary Div (named (codes "a")) (named (codes "b"))) (k / p) (omega arith) divided

  digit_by : (here : Bool) → nat_le p k ≡ here → (t : Trace) (memory : Memory) → (begin_inline digit (frame_of k p) >> body file digit call) t memory ≡ Went None (said (digit_at k p) t) memory
  digit_by true e t memory = let test = tested_is true e in let puts = says_here in simp (if_runs, test.yields, puts.says, e)
  digit_by false e t memory = let test = tested_is false e in simp (if_runs, test.yields, e, append-nil)

  -- a call of `sl_digit`
  digit_runs : (t : Trace) (memory : Memory) → (begin_inline digit (frame_of k p) >> body file digit call) t memory ≡ Went None (said (digit_at k p) t) memory
  digit_runs t memory = digit_by (nat_le p k) refl t memory

-- on all these numbers
pub puts_digit : (file : CFile) (number power : ℕ) → number ≤ 2 ^ 63 → 0 < power → power ≤ 2 ^ 63 - 1 → PutsDigit file number power
puts_digit file number power short positive least call t memory = digit_runs file call number power short positive least t memory

-- what `sl_print` can name
abbrev print_scope : CFile → Scope
print_scope file = scope_of file print

-- its argument
abbrev one : ℤ → List Tree
one a = Number a ∷ []

-- which it can read
yields_only : (file : CFile) (a : ℤ) → Yields (print_scope file) (one a) (named (codes "a")) a
yields_only file a = record { yields = λ t memory. simp (read_runs, eq-eqb (length memory.frames) (length memory.frames) refl) }

-- powers that the calls can be of
abbrev Small : List ℕ → Type 0
Small [] = Unit {0}
Small (p ∷ ps) = (0 < p) × (p ≤ 10 ^ 18) × Small ps

module _ (file : CFile) (call : Callees) (reach : Reaches file call) (k : ℕ) (short : k ≤ 2 ^ 63) where
  -- a call of `sl_digit` in `sl_print`
  says_call : (p : ℕ) → 0 < p → p ≤ 10 ^ 18 → Says (print_scope file) (one (neg_ℤ (pos k))) call (call_digit p) (digit_at k p)
  says_call p positive least =
      let only = yields_only file (neg_ℤ (pos k)) in
      let runs = digit_runs file reach.deeper k p short positive (omega arith) in
      let called : (t : Trace) (memory : Memory) → call (codes "sl_digit") (frame_of k p) t memory ≡ Went None (said (digit_at k p) t) memory = λ t memory. ap (λ act. act t memory) (reach.reaches (frame_of k p)) ∙ runs t memory in
      record { says = λ t memory. simp (call_runs, only.yields, const_runs, called) }

  -- the last digit
  says_last : Says (print_scope file) (one (neg_ℤ (pos k))) call (put_digit (named (codes "a"))) ((48 + k % 10) ∷ [])
  says_last = says_digit (print_scope file) (one (neg_ℤ (pos k))) call (named (codes "a")) k short (yields_only file (neg_ℤ (pos k)))

  -- the calls and the last digit
  says_all : (ps : List ℕ) → Small ps → (t : Trace) (memory : Memory)
      → block (print_scope file) (map call_digit ps ++ put_digit (named (codes "a")) ∷ []) call t (within (one (neg_ℤ (pos k))) memory)
      ≡ Went Next (said (digits_at k ps ++ (48 + k % 10) ∷ []) t) (within (one (neg_ℤ (pos k))) memory)
  says_all [] small t memory = let last = says_last in simp last.says
  says_all (p ∷ ps) small t memory =
      let first = says_call p small.0 small.1 in
      let rest = says_all ps small.2 in
      simp (first.says, rest, map-append, append_assoc)

-- as all of them are
powers_small : Small powers
powers_small = (omega arith, omega arith, (omega arith, omega arith, (omega arith, omega arith, (omega arith, omega arith, (omega arith, omega arith, (omega arith, omega arith, (omega arith, omega arith, (omega arith, omega arith, (omega arith, omega arith, (omega arith, omega arith, (omega arith, omega arith, (omega arith, omega arith, (omega arith, omega arith, (omega arith, omega arith, (omega arith, omega arith, (omega arith, omega arith, (omega arith, omega arith, (omega arith, omega arith, tt))))))))))))))))))

module _ (file : CFile) (call : Callees) (reach : Reaches file call) (t : Trace) (memory : Memory) where
  -- where the number is negative
  prints_negative : (k : ℕ) → suc k ≤ 2 ^ 63 → (begin_inline print (Number (negsuc k) ∷ []) >> body file print call) t memory ≡ Went None (record t { events = t.events ++ map Puts (45 ∷ decimal (suc k)) }) memory
  prints_negative k short =
      let only = yields_only file (negsuc k) in
      let test = yields_comparison (print_scope file) (one (negsuc k)) Less (named (codes "a")) (constant 0) (negsuc k) (pos 0) only (yields_constant (print_scope file) (one (negsuc k)) 0) in
      let digits = says_all file call reach (suc k) short powers powers_small in
      let same = decimal_is (suc k) (omega arith) in
      simp (if_else_runs, test.yields, put_runs, const_runs, digits, same, append_assoc)

  -- where it isn't
  prints_other : (k : ℕ) → k ≤ 2 ^ 63 → (begin_inline print (Number (pos k) ∷ []) >> body file print call) t memory ≡ Went None (record t { events = t.events ++ map Puts (decimal k) }) memory
  prints_other k short =
      let only = yields_only file (pos k) in
      let test = yields_comparison (print_scope file) (one (pos k)) Less (named (codes "a")) (constant 0) (pos k) (pos 0) only (yields_constant (print_scope file) (one (pos k)) 0) in
      let below : int_lt (pos k) (pos 0) ≡ false = grind (arith, ints) in
      let minus = yields_negation (print_scope file) (one (pos k)) (named (codes "a")) (pos k) only (not_positive k short) in
      let digits = says_all file call reach k short powers powers_small in
      let same = decimal_is k (omega arith) in
      simp (if_else_runs, test.yields, below, assign_runs, minus.yields, eq-eqb (length memory.frames) (length memory.frames) refl, digits, same)

-- a call of `sl_print` puts the number in decimal
pub prints : (file : CFile) (a : ℤ) → is_int64 a ≡ true → Prints file a
prints file (pos k) fits call t memory reach = let p = bounds (pos k) fits in prints_other file call reach t memory k (omega (arith, ints))
prints file (negsuc k) fits call t memory reach = let p = bounds (negsuc k) fits in prints_negative file call reach t memory k (omega (arith, ints))

-- behind `sl_digit` it is called by its name
pub digit_reached : (file : CFile) (earlier : List CFun) → Reaches file (inline_callees file (digit ∷ earlier))
digit_reached file earlier = record { deeper = inline_callees file earlier; reaches = λ args. refl }
