-- What is answered of a file is determined: its tokens, or the rule that it breaks first and where, and never both.
use Rattle.std.proofs.Common.{◌≡◌, ℕ, ◌+◌, List, [], ◌∷◌, length, refl, sym, ap, ap₂, subst, ◌∙◌, arith}
use Rattle.sl_text.specs.declared.token.Token.{Token}
use Rattle.sl_text.specs.declared.fault.Broken.{Broken}
use Rattle.sl_text.specs.declared.rule.Phase.TheVariants.{L}
use Rattle.sl_token.specs.declared.piece.Piece.{Piece}
use Rattle.sl_token.specs.Layout.{laid}
use Rattle.sl_token.specs.Cut.{len_of, IsCut, tokens_of, IsFirstBroken, AreTokens, IsFirstFault}

-- a text is cut to its end in one way
one_cut : (text : List ℕ) (from : ℕ) (pieces others : List Piece) → IsCut text from pieces (length text) → IsCut text from others (length text)
    → pieces ≡ others
one_cut text from [] [] cut other = refl
one_cut text from [] (next ∷ others) cut other = let within = other.0.0 in absurd (omega arith)
one_cut text from (first ∷ pieces) [] cut other = let within = cut.0.0 in absurd (omega arith)
one_cut text from (first ∷ pieces) (next ∷ others) cut other =
    let same : next ≡ first = sym other.0.1 ∙ cut.0.1 in
    let rest : pieces ≡ others =
    one_cut text (from + len_of first) pieces others cut.2 (subst (λ piece. IsCut text (from + len_of piece) others (length text)) same other.2) in
    ap₂ (λ piece more. piece ∷ more) (sym same) rest

-- a file that breaks no rule L has one list of tokens
pub one_tokens : {file : ℕ} {text : List ℕ} {tokens others : List Token} → AreTokens file text tokens → AreTokens file text others → tokens ≡ others
one_tokens {file} {text} are also =
    let (pieces, cut, is) = are.cut in
    let (others, other, same) = also.cut in
    is ∙ (ap (λ all. laid text [] (tokens_of file 0 all)) (one_cut text 0 pieces others cut other) ∙ sym same)

-- a text breaks one rule L first, at one place
one_first : (text : List ℕ) (number place other at : ℕ) → IsFirstBroken text number place → IsFirstBroken text other at → (number ≡ other) × (place ≡ at)
one_first text number place other at first also =
    let behind = first.first other at also.broken in
    let before = also.first number place first.broken in
    (grind arith, grind arith)

-- the rule L of this number, broken at this place
abbrev broken_by : ℕ → ℕ → ℕ → Broken
broken_by file number place = record {
  rule = record { phase = L; number = number };
  span = record { file = file; from = place; to = place };
}

is_broken_by : (file : ℕ) (text : List ℕ) (broken : Broken) → IsFirstFault file text broken → broken ≡ broken_by file broken.rule.number broken.span.from
is_broken_by file text broken first =
    ap₂ (λ phase span. let all : Broken = record { rule = record { phase = phase; number = broken.rule.number }; span = span } in all) first.phase first.span

-- a file that breaks a rule L has one that is the first
pub one_fault : {file : ℕ} {text : List ℕ} {broken other : Broken} → IsFirstFault file text broken → IsFirstFault file text other → broken ≡ other
one_fault {file} {text} {broken} {other} first also =
    let (numbers, places) = one_first text broken.rule.number broken.span.from other.rule.number other.span.from first.first also.first in
    is_broken_by file text broken first ∙ (ap₂ (broken_by file) numbers places ∙ sym (is_broken_by file text other also))

-- a file that has tokens breaks no rule L
pub tokens_or_fault : {file : ℕ} {text : List ℕ} {tokens : List Token} {broken : Broken} → AreTokens file text tokens → IsFirstFault file text broken → ⊥
tokens_or_fault {broken = broken} are first = are.keeps broken.rule.number broken.span.from first.first.broken
