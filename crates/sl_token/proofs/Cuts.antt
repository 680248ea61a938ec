-- Cuts: how they go on, and that one text has no two of them.
use Rattle.std.proofs.Common.{◌≡◌, ◌⊎◌, ℕ, ◌+◌, ◌≤◌, List, [], ◌∷◌, ◌++◌, append_assoc, append-nil, length, drop, sym, ap, subst, ◌∙◌, arith, ⊎_elim}
use Rattle.sl_text.specs.declared.token.Token.{Token}
use Rattle.sl_token.specs.declared.piece.Piece.{Piece}
use Rattle.sl_token.specs.declared.piece.Piece.TheVariants as piece
use Rattle.sl_token.specs.Cut.{Stands, len_of, IsSpelled, IsCut, token_of, tokens_of}

-- one piece more
pub cut_more : (text : List ℕ) (from : ℕ) (pieces : List Piece) (to : ℕ) (next : Piece) → IsCut text from pieces to → Stands text to next
    → IsSpelled (drop to text) next → IsCut text from (pieces ++ next ∷ []) (to + len_of next)
cut_more text from [] to next cut stands spelled = (
  subst (λ place. Stands text place next) (sym cut) stands,
  subst (λ place. IsSpelled (drop place text) next) (sym cut) spelled,
  ap (λ place. place + len_of next) cut,
)
cut_more text from (first ∷ pieces) to next cut stands spelled =
    (cut.0, cut.1, cut_more text (from + len_of first) pieces to next cut.2 stands spelled)

pub tokens_more : (text : List ℕ) (file from : ℕ) (pieces : List Piece) (to : ℕ) (next : Piece) → IsCut text from pieces to
    → tokens_of file from (pieces ++ next ∷ []) ≡ tokens_of file from pieces ++ token_of file to next
tokens_more text file from [] to next cut = append-nil _ ∙ ap (λ place. token_of file place next) cut
tokens_more text file from (first ∷ pieces) to next cut =
    ap (λ tokens. token_of file from first ++ tokens) (tokens_more text file (from + len_of first) pieces to next cut.2)
    ∙ sym (append_assoc (token_of file from first) _ _)

-- a cut comes to a place, and its tokens have a property
abbrev pub Reached : List ℕ → ℕ → ℕ → (List Token → Type 0) → Type 0
Reached text file to Holds = (pieces : List Piece) × IsCut text 0 pieces to × Holds (tokens_of file 0 pieces)

pub reached_more : (text : List ℕ) (file to : ℕ) (Holds Next : List Token → Type 0) (next : Piece) → Stands text to next
    → IsSpelled (drop to text) next → ((tokens : List Token) → Holds tokens → Next (tokens ++ token_of file to next))
    → Reached text file to Holds → Reached text file (to + len_of next) Next
reached_more text file to Holds Next next stands spelled more (pieces, cut, holds) = (
  pieces ++ next ∷ [],
  cut_more text 0 pieces to next cut stands spelled,
  subst Next (sym (tokens_more text file 0 pieces to next cut)) (more (tokens_of file 0 pieces) holds),
)

-- no cut goes on from here: the text ends, or a fault stands here
abbrev pub IsStuck : List ℕ → ℕ → Type 0
IsStuck text place = (length text ≤ place) ⊎ ((number : ℕ) × (at : ℕ) × Stands text place (piece.Fault number at))

-- what is spelled isn't a fault
spelled_is_no_fault : (bytes : List ℕ) (first : Piece) (number at : ℕ) → first ≡ piece.Fault number at → IsSpelled bytes first → ⊥
spelled_is_no_fault bytes first number at is spelled = subst (IsSpelled bytes) is spelled

stuck_ends : (text : List ℕ) (place : ℕ) (first : Piece) → IsStuck text place → Stands text place first → IsSpelled (drop place text) first → ⊥
stuck_ends text place first stuck stands spelled =
    ⊎_elim
    (λ past. let within = stands.0 in absurd (omega arith))
    (λ fault. spelled_is_no_fault (drop place text) first fault.0 fault.1 (sym stands.1 ∙ fault.2.1) spelled)
    stuck

-- two cuts that don't go on end at one place
pub cuts_end_alike : (text : List ℕ) (from : ℕ) (pieces others : List Piece) (to end : ℕ) → IsCut text from pieces to → IsStuck text to
    → IsCut text from others end → IsStuck text end → to ≡ end
cuts_end_alike text from [] [] to end cut stuck other ended = sym cut ∙ other
cuts_end_alike text from [] (next ∷ others) to end cut stuck other ended =
    absurd (stuck_ends text from next (subst (IsStuck text) (sym cut) stuck) other.0 other.1)
cuts_end_alike text from (first ∷ pieces) [] to end cut stuck other ended =
    absurd (stuck_ends text from first (subst (IsStuck text) (sym other) ended) cut.0 cut.1)
cuts_end_alike text from (first ∷ pieces) (next ∷ others) to end cut stuck other ended =
    let same : next ≡ first = sym other.0.1 ∙ cut.0.1 in
    cuts_end_alike text (from + len_of first) pieces others to end cut.2 stuck
    (subst (λ piece. IsCut text (from + len_of piece) others end) same other.2)
    ended
