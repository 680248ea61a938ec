-- What calls of the inline functions give.
use Rattle.std.specs.Prelude.{◌≡◌, ◌≢◌, ℕ, ◌+◌, ◌/◌, ◌%◌, ◌<◌, ◌≤◌, ◌-◌, ◌^◌, ℤ, pos, neg_ℤ, ◌+ℤ◌, ◌-ℤ◌, ◌*ℤ◌, int_div, int_rem, nat_le, IsTrue, true, if◌then◌else◌, List, [], ◌∷◌, ◌++◌, None, Some, All, map, codes}
use Rattle.std.specs.Fmt.{signed_decimal}
use Rattle.std.specs.List.{IsDistinct}
use Rattle.std.specs.Str.{bytes_eq}
use Rattle.sl_run.specs.Run.{Stuck, Puts, Trace, Went, Over, ◌>>◌}
use Rattle.c_tree.specs.declared.tree.CFile.{CFile}
use Rattle.c_tree.specs.declared.tree.CFun.{CFun}
use Rattle.c_tree.specs.WellFormed.{IsFunction, stmt_depth}
use Rattle.c_tree.specs.Rules.{BreaksInside}
use Rattle.sl_num.specs.Comparing.{truth}
use Rattle.c_tree.specs.Memory.{Tree, Memory, Number, owner_of}
use Rattle.c_tree.specs.Meaning.{Callees, is_int64, begin_inline, inline_callees, body}
use Rattle.c_helpers.specs.Functions.{sum_fits, difference_fits, product_fits, quotient_fits, remainder, digit, print, helper_functions}

-- A call on these numbers gives a value, whatever calls in it would do. It takes no turn, puts nothing, and leaves memory as it was
abbrev pub Gives : CFile → CFun → List ℤ → ℤ → Type 0
Gives file function numbers value =
    (call : Callees) (t : Trace) (memory : Memory)
    → (begin_inline function (map Number numbers) >> body file function call) t memory ≡ Went (Some value) t memory

-- a call on these numbers is undefined, in the function above whose frame it is made, and puts nothing before that
abbrev pub Undefined : CFile → CFun → List ℤ → Type 0
Undefined file function numbers =
    (call : Callees) (t : Trace) (memory : Memory)
    → (begin_inline function (map Number numbers) >> body file function call) t memory ≡ Over (Stuck (owner_of memory.frames)) t

-- the digit of a number at a power of ten, where it has one there
abbrev pub digit_at : (number power : ℕ) → List ℕ
digit_at number power = if nat_le power number then (48 + (number / power) % 10) ∷ [] else []

-- A call of `sl_digit` on minus a number and on a power of ten puts the digit of the number there, whatever calls in it would do. It
-- takes no turn, and leaves memory as it was
abbrev pub PutsDigit : CFile → (number power : ℕ) → Type 0
PutsDigit file number power =
    (call : Callees) (t : Trace) (memory : Memory)
    → (begin_inline digit (Number (neg_ℤ (pos number)) ∷ Number (pos power) ∷ []) >> body file digit call) t memory ≡ Went None (record t { events = t.events ++ map Puts (digit_at number power) }) memory

-- calls by the name `sl_digit` are calls of that function
pub record Reaches (file : CFile) (call : Callees) : Type 0 where
  pub deeper : Callees
  pub reaches : (args : List Tree) → call (codes "sl_digit") args ≡ (begin_inline digit args >> body file digit deeper)

-- A call of `sl_print` on a number puts it in decimal, where `sl_digit` is called by its name. It takes no turn, and leaves memory
-- as it was
abbrev pub Prints : CFile → ℤ → Type 0
Prints file a =
    (call : Callees) (t : Trace) (memory : Memory) → Reaches file call
    → (begin_inline print (Number a ∷ []) >> body file print call) t memory ≡ Went None (record t { events = t.events ++ map Puts (signed_decimal a) }) memory

-- a function hasn't the name of `sl_digit`
abbrev pub IsOther : CFun → Type 0
IsOther other = other.name ≢ codes "sl_digit"

-- The functions are inline and have names that differ, so that a name is that of one of them; a text can have them; where they
-- stand in front in a file, and no function behind them has the name that `sl_print` calls, they break no rule; and what calls give
-- on any two numbers of 64 bits, in any file
pub record Laws : Type 0 where
  pub inline : All (λ function. function.inline ≡ true) helper_functions
  pub names : IsDistinct bytes_eq (map (λ function. function.name) helper_functions)
  pub formed : All IsFunction helper_functions
  pub nesting : All (λ function. All (λ s. stmt_depth s ≤ 1024) function.body) helper_functions
  pub keep : (file : CFile) (others : List CFun) → file.functions ≡ helper_functions ++ others → All IsOther others
      → (before behind : List CFun) (function : CFun) → helper_functions ≡ before ++ function ∷ behind → (rule : ℕ) → ¬ BreaksInside file before function rule
  pub sum : (file : CFile) (a b : ℤ) → IsTrue (is_int64 a) → IsTrue (is_int64 b) → Gives file sum_fits (a ∷ b ∷ []) (truth (is_int64 (a +ℤ b)))
  pub difference : (file : CFile) (a b : ℤ) → IsTrue (is_int64 a) → IsTrue (is_int64 b) → Gives file difference_fits (a ∷ b ∷ []) (truth (is_int64 (a -ℤ b)))
  pub product : (file : CFile) (a b : ℤ) → IsTrue (is_int64 a) → IsTrue (is_int64 b) → Gives file product_fits (a ∷ b ∷ []) (truth (is_int64 (a *ℤ b)))
  pub quotient : (file : CFile) (a b : ℤ) → IsTrue (is_int64 a) → IsTrue (is_int64 b) → b ≢ pos 0 → Gives file quotient_fits (a ∷ b ∷ []) (truth (is_int64 (int_div a b)))
  -- by 0 it is defined too, so that what is undefined is the division alone
  pub quotient_by_zero : (file : CFile) (a : ℤ) → Gives file quotient_fits (a ∷ pos 0 ∷ []) (pos 1)
  pub rest : (file : CFile) (a b : ℤ) → IsTrue (is_int64 a) → IsTrue (is_int64 b) → b ≢ pos 0 → Gives file remainder (a ∷ b ∷ []) (int_rem a b)
  -- by 0 it is undefined, so who calls it has tested the divisor
  pub rest_by_zero : (file : CFile) (a : ℤ) → Undefined file remainder (a ∷ pos 0 ∷ [])
  pub print : (file : CFile) (a : ℤ) → IsTrue (is_int64 a) → Prints file a
  -- behind `sl_digit` it is called by its name
  pub reached : (file : CFile) (earlier : List CFun) → Reaches file (inline_callees file (digit ∷ earlier))
  pub digit : (file : CFile) (number power : ℕ) → number ≤ 2 ^ 63 → 0 < power → power ≤ 2 ^ 63 - 1 → PutsDigit file number power
