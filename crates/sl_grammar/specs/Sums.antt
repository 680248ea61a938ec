-- An example to read: sums of numbers and of sums in parentheses, which nest no deeper than there is room. A sum's left side is one
-- deeper for each plus that follows it.
use Rattle.std.specs.Prelude.{ℕ, suc, ◌+◌, List, [], ◌∷◌, ◌++◌, Bool, true, false, ltb, leb, max, if◌then◌else◌}
use Rattle.std.proofs.Common.{inl, inr}
use Rattle.sl_grammar.specs.Grammar.{Form, Token, Ref, Then, Room, Chain, Sets, Val}
use Rattle.sl_grammar.specs.Rules.{Names}

-- a token is its kind (0 and 1 are the parentheses, 2 is the plus and 3 a number) and a number
abbrev pub Tok : Type 0
Tok = ℕ × ℕ

abbrev pub kind : Tok → ℕ
kind token = token.0

abbrev pub sample : ℕ → Tok
sample of = (of, 0)

pub data Expr : Type 0 where
  Number : ℕ → Expr
  Paren : Expr → Expr
  Add : Expr → Expr → Expr

-- the names of the grammar: a sum, a plus with what it adds, and what is added
pub data Name : Type 0 where
  Sum : Name
  Plus : Name
  Operand : Name

pub record At : Type 0 where
  pub name : Name
  pub depth : ℕ

abbrev pub at : Name → ℕ → At
at name depth = record { name = name; depth = depth }

-- their rules, where `fits` says at which depths there is room for what nests deeper
abbrev pub rule_at : (ℕ → Bool) → Name → ℕ → Form At
rule_at fits Sum d = Chain (fits d) (at Operand d) (at Plus d)
rule_at fits Plus d = Then (Token (2 ∷ [])) (Ref (at Operand (suc d)))
rule_at fits Operand d = Room (fits d) (Then (Token (0 ∷ [])) (Then (Ref (at Sum (suc d))) (Token (1 ∷ [])))) (Token (3 ∷ []))

abbrev pub T : At → Type 0
T i = Expr

abbrev pub sum_of : Expr → List Expr → Expr
sum_of x [] = x
sum_of x (y ∷ ys) = sum_of (Add x y) ys

abbrev pub tree_at : (fits : ℕ → Bool) (n : Name) (d : ℕ) → Val kind T (rule_at fits n d) → Expr
tree_at fits Sum d v = sum_of v.0 v.1
tree_at fits Plus d v = v.1
tree_at fits Operand d (inl v) = Paren v.1.0
tree_at fits Operand d (inr number) = Number number.1

-- how deep a tree nests
abbrev pub nest : Expr → ℕ
nest (Number n) = 0
nest (Paren e) = suc (nest e)
nest (Add d e) = suc (max (nest d) (nest e))

-- whether the sum so far has room to be the left side of another
abbrev pub room : (ℕ → Bool) → (i j : At) → T i → List (T j) → Bool
room fits i j x ys = fits (nest (sum_of x ys) + i.depth)

-- the kinds of tokens that begin what a name spells, and that go on behind it
abbrev pub sets_at : Bool → Name → Sets
sets_at fits Sum = record { first = (if fits then 0 ∷ [] else []) ++ 3 ∷ []; after = 2 ∷ []; blank = false }
sets_at fits Plus = record { first = 2 ∷ []; after = []; blank = false }
sets_at fits Operand = record { first = (if fits then 0 ∷ [] else []) ++ 3 ∷ []; after = []; blank = false }

abbrev pub rank_at : Name → ℕ
rank_at Sum = 1
rank_at Plus = 1
rank_at Operand = 0

-- a plus nests what it adds: it has a rule only where there is room
abbrev pub valid_at : (fits valid : ℕ → Bool) → Name → ℕ → Bool
valid_at fits valid Sum d = valid d
valid_at fits valid Plus d = if fits d then valid d else false
valid_at fits valid Operand d = valid d

abbrev pub names : (ℕ → Bool) → (ℕ → Bool) → Names At
names fits valid = record {
  rule = λ i. rule_at fits i.name i.depth;
  sets = λ i. sets_at (fits i.depth) i.name;
  rank = λ i. rank_at i.name;
  height = λ i. rank_at i.name;
  valid = λ i. valid_at fits valid i.name i.depth;
  own = λ i. false;
}

abbrev pub tree : (fits valid : ℕ → Bool) (i : At) → Val kind T ((names fits valid).rule i) → T i
tree fits valid i v = tree_at fits i.name i.depth v

-- within a limit, and without one
abbrev pub below : ℕ → ℕ → Bool
below limit d = ltb d limit

abbrev pub up_to : ℕ → ℕ → Bool
up_to limit d = leb d limit

abbrev pub all : ℕ → Bool
all d = true
