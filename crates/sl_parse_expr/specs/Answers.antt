-- What the three public calls answer: the tree of the longest front of the tokens with which a phrase begins, or which rule that front
-- breaks and where: G6 where phrases go on but nest too deep, G1 where none goes on.
--
-- A phrase is given with its levels, as in `WellShaped`: `P levels tree tokens`. The calls read three phrases: a type (`IsType`), an
-- expression of any level (`AnyExpr`) and statements in braces (`IsBlock`). Tokens are taken with their bytes: `behind bytes tokens i`
-- are those from an index on.
use Rattle.std.specs.Prelude.{◌≡◌, ℕ, ◌+◌, ◌-◌, ◌≤◌, List, [], ◌∷◌, ◌++◌, length, drop, ◌⊎◌}
use Rattle.std.specs.declared.result.Result.{Result}
use Rattle.std.specs.declared.result.Result.TheVariants.{Ok, Err}
use Rattle.sl_text.specs.declared.place.Span.{Span}
use Rattle.sl_text.specs.declared.token.Token.{Token}
use Rattle.sl_text.specs.declared.rule.Rule.{Rule}
use Rattle.sl_text.specs.declared.rule.Phase.TheVariants.{G}
use Rattle.sl_text.specs.declared.fault.Fault.{Fault}
use Rattle.sl_text.specs.declared.fault.Fault.TheVariants as fault
use Rattle.sl_grammar.specs.Phrase.{Begins, IsFront}
use Rattle.sl_tree.specs.Sorts.{Spelled}
use Rattle.sl_tree.specs.WellShaped.{IsExpr}
use Rattle.sl_tree.specs.declared.tree.Expr.{Expr}
use Rattle.sl_parse_expr.specs.Told.{behind}

-- a phrase with its levels
abbrev pub Phrase : Type 0 → Type 1
Phrase X = ℕ → X → List Spelled → Type 0

-- an expression of any level of precedence
abbrev pub AnyExpr : Phrase Expr
AnyExpr n e ts = (level : ℕ) × IsExpr level n e ts

-- tokens are those of a tree, however deep it nests; of one that nests no deeper than `most`
abbrev pub AnyDepth : {X : Type 0} → Phrase X → X → List Spelled → Type 0
AnyDepth P x ts = (n : ℕ) × P n x ts

abbrev pub Within : {X : Type 0} → ℕ → Phrase X → X → List Spelled → Type 0
Within most P x ts = (n : ℕ) × P n x ts × (n ≤ most)

-- `used` is the longest front of the tokens with which a phrase begins, and it is spelled by this tree, which is not too deep
abbrev pub IsParsed : {X : Type 0} → ℕ → Phrase X → X → (used rest : List Spelled) → Type 0
IsParsed most P x used rest = IsFront (AnyDepth P) used rest × Within most P x used

-- a phrase that is not too deep begins with these tokens, where there are any
abbrev pub Reaches : {X : Type 0} → ℕ → Phrase X → List Spelled → Type 0
Reaches most P used = (used ≡ []) ⊎ Begins (Within most P) used

-- a phrase goes on with the next token, and each that does so is too deep
abbrev pub GoesTooDeep : {X : Type 0} → ℕ → Phrase X → (used rest : List Spelled) → Type 0
GoesTooDeep most P used rest =
    (k : Spelled) × (more : List Spelled) × (rest ≡ k ∷ more) × Begins (AnyDepth P) (used ++ k ∷ []) × ¬ Begins (Within most P) (used ++ k ∷ [])

-- rule G6 is broken behind `used`
abbrev pub IsTooDeep : {X : Type 0} → ℕ → Phrase X → (used rest : List Spelled) → Type 0
IsTooDeep most P used rest = Reaches most P used × GoesTooDeep most P used rest

-- rule G1 is broken behind `used`: no phrase goes on, and none is spelled by these tokens, however deep
abbrev pub IsWrong : {X : Type 0} → ℕ → Phrase X → (used rest : List Spelled) → Type 0
IsWrong {X} most P used rest = Reaches most P used × IsFront (AnyDepth P) used rest × ((x : X) → ¬ AnyDepth P x used)

-- the span of the first of some tokens, or the end of a file
abbrev pub place : ℕ → List ℕ → List Token → Span
place file bytes [] = record { file = file; from = length bytes; to = length bytes }
place file bytes (token ∷ tokens) = token.span

-- the rule G of a number
abbrev pub rule : ℕ → Rule
rule number = record { phase = G; number = number }

-- how deep a phrase may nest that itself stands in so many nodes
abbrev pub room_of : ℕ → ℕ
room_of depth = 64 - depth

-- these are the tokens from one index up to another
abbrev pub AreBetween : List ℕ → List Token → ℕ → ℕ → List Spelled → Type 0
AreBetween bytes tokens at next used = (behind bytes tokens at ≡ used ++ behind bytes tokens next) × (at + length used ≡ next)

-- what is answered of the tokens from an index on, in a file of this number and with these bytes, where the phrase stands so deep: its
-- tree, and the index behind it; or the broken rule, and the place of the token that breaks it; or want of memory
abbrev pub Answers : {X : Type 0} → Phrase X → ℕ → List ℕ → List Token → ℕ → ℕ → Result (X × ℕ) Fault → Type 0
Answers P file bytes tokens at depth (Ok (x, next)) =
    (next ≤ length tokens) × ((used : List Spelled) × AreBetween bytes tokens at next used × IsParsed (room_of depth) P x used (behind bytes tokens next))
Answers P file bytes tokens at depth (Err (fault.Broken broken)) =
    (i : ℕ) × (used : List Spelled) × AreBetween bytes tokens at i used × (broken.span ≡ place file bytes (drop i tokens))
    × (((broken.rule ≡ rule 6) × IsTooDeep (room_of depth) P used (behind bytes tokens i))
    ⊎ ((broken.rule ≡ rule 1) × IsWrong (room_of depth) P used (behind bytes tokens i)))
Answers P file bytes tokens at depth (Err fault.Mem) = Unit {0}
