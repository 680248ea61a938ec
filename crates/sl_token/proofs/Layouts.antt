-- Layouts: what one token more does to the layout.
use Rattle.std.proofs.Common.{◌≡◌, ℕ, ◌+◌, ◌≤◌, List, [], ◌∷◌, ◌++◌, reverse, refl, ap, ◌∙◌, arith, append_assoc, Some, Result, Ok, Err, OnOk, OnErr}
use Rattle.std.specs.Option.{option_to_list}
use Rattle.std.proofs.lemmas.List.{reverse-append, append-nil}
use Rattle.std.proofs.lemmas.Grind.{common_steps, reverse_onto}
use Rattle.sl_text.specs.declared.token.Token.{Token}
use Rattle.sl_text.specs.declared.token.Kind.{Kind}
use Rattle.sl_token.specs.declared.layout.Level.{Level}
use Rattle.sl_token.specs.declared.layout.Layout.{Layout}
use Rattle.sl_token.specs.Layout.{levels, laid, last_of, separator, spelling, waiting, levels_behind, levels_behind_mark}
use Rattle.sl_token.specs.Layouts.{IsLayoutOf}

-- the first of the tokens goes over to those before the others
turned :
    (before tokens : List Token) (token : Token) → reverse (token ∷ tokens) ++ before ≡ reverse tokens ++ token ∷ before
turned before tokens token =
    ap (λ front. front ++ before) (reverse_onto tokens token []) ∙ append_assoc (reverse tokens) (token ∷ []) before

-- the Separator, if any, between these tokens, the last of them first, and one more
between_these : List ℕ → List Token → Token → List Token
between_these text before token = option_to_list (separator text (levels text before) (last_of before) token)

-- what is laid behind other tokens, the last of them first, and one token more
laid_push_behind :
    (text : List ℕ) (before tokens : List Token) (token : Token)
    → laid text before (tokens ++ token ∷ [])
    ≡ laid text before tokens ++ between_these text (reverse tokens ++ before) token ++ token ∷ []
unfolding laid between_these
laid_push_behind text before [] token = refl
laid_push_behind text before (first ∷ tokens) token =
    let rest = laid_push_behind text (first ∷ before) tokens token in
    let at = turned before tokens first in
    rw (at, rest) (simp append_assoc)

-- what is laid behind one token more
pub laid_push :
    (text : List ℕ) (tokens : List Token) (token : Token)
    → laid text [] (tokens ++ token ∷ [])
    ≡ laid text [] tokens
    ++ option_to_list (separator text (levels text (reverse tokens)) (last_of (reverse tokens)) token)
    ++ token ∷ []
unfolding between_these
laid_push text tokens token =
    laid_push_behind text [] tokens token
    ∙ ap (λ before. laid text [] tokens ++ between_these text before token ++ token ∷ []) (append-nil (reverse tokens))

-- a token adds at most one `case` to those that wait
pub waiting_behind :
    (kind : Kind) (bytes : List ℕ) (behind : List Level) → waiting (levels_behind kind bytes behind) ≤ waiting behind + 1
unfolding levels_behind_mark
waiting_behind kind bytes behind = grind (arith, common_steps)

-- and none where the memory for its levels runs out
pub waiting_passed :
    {T E : Type 0} (r : Result T E) (kind : Kind) (bytes : List ℕ) (old new : List Level)
    → OnOk r (new ≡ levels_behind kind bytes old)
    → OnErr r (new ≡ old)
    → waiting new ≤ waiting old + 1
waiting_passed (Ok t) kind bytes old new ok err =
    rw ok (waiting_behind kind bytes old)
waiting_passed (Err e) kind bytes old new ok err = rw err (omega arith)

-- the layout behind one token more
pub is_layout_push :
    (text : List ℕ) (tokens : List Token) (token : Token) (old new : Layout)
    → new.bytes.now ≡ old.bytes.now
    → new.laid.items ≡ (old.laid.items ++ option_to_list (separator old.bytes.now old.levels old.last token)) ++ token ∷ []
    → new.last ≡ Some token
    → new.levels ≡ levels_behind token.kind (spelling old.bytes.now token) old.levels
    → IsLayoutOf text tokens old
    → IsLayoutOf text (tokens ++ token ∷ []) new
unfolding levels
is_layout_push text tokens token old new bytes laid last levels is = record {
  bytes = bytes ∙ is.bytes;
  laid = grind (arith, common_steps, laid_push text tokens token);
  last = rw (last, reverse-append tokens (token ∷ [])) refl;
  levels = rw (levels, reverse-append tokens (token ∷ []), is.bytes, is.levels) refl;
}
