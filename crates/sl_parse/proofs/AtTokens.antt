-- Tokens, and the fault where another one stands.
use Rattle.std.proofs.Common.{◌≡◌, ℕ, suc, ◌+◌, ◌-◌, ◌<◌, ◌≤◌, List, [], ◌∷◌, ◌++◌, length, map, take, drop, refl, sym, ap, ◌∙◌, inl, arith, append_assoc}
use Rattle.std.proofs.Math.ListN.{get_or}
use Rattle.std.proofs.Math.Seq.{drop-cons}
use Rattle.std.proofs.lemmas.List.{take-append-drop, drop-map, drop-drop, append_cancel_right}
use Rattle.sl_tree.specs.Sorts.{Spelled, spelled}
use Rattle.sl_tree.specs.WellShaped.{join, cover}
use Rattle.sl_tree.proofs.Spans.{last_both}
use Rattle.sl_text.specs.declared.token.Token.{Token}
use Rattle.sl_text.specs.declared.fault.Fault.{Fault}
use Rattle.sl_text.specs.declared.fault.Fault.TheVariants as fault
use Rattle.sl_parse_expr.specs.Told.{behind}
use Rattle.sl_parse_expr.specs.Answers.{place, rule}
use Rattle.std.specs.Prelude.{Bool, true, false, bytes_eq}
use Rattle.std.specs.declared.result.Result.TheVariants.{Err}
use Rattle.sl_grammar.specs.Phrase.{Done, Stopped, read_token}
use Rattle.sl_grammar.specs.Grammar.{has}
use Rattle.sl_tree.specs.Sorts.{sort}
use Rattle.sl_tree.specs.WellShaped.{names}
use Rattle.sl_parse_expr.proofs.Behind.{behind_more, behind_end}
use Rattle.sl_parse.specs.Grammar.{is_named}
use Rattle.sl_parse.specs.Told.{Family, AreStopped, Faults, differing, ToldLibraryToken}

-- a rule G1 at the token of an index
pub wrong_at : {X : Type 0} (file : ℕ) (bytes : List ℕ) (tokens : List Token) (at : ℕ) (f : Family X) (e : Fault) → e ≡ fault.Broken (record { rule = rule 1; span = place file bytes (drop at tokens) })
    → at ≤ length tokens → AreStopped f (behind bytes tokens at) → Faults file bytes tokens f e
wrong_at file bytes tokens at f e s le h = rw (s) (at, le, refl, inl (refl, h))

-- the tokens from one index up to another that is behind it: the first, and the last

first_behind : (bytes : List ℕ) (tokens : List Token) (at : ℕ) (d : Token) → at < length tokens → behind bytes tokens at ≡ spelled bytes (get_or tokens at d) ∷ behind bytes tokens (suc at)
unfolding behind
first_behind bytes tokens at d lt = ap (map (spelled bytes)) (drop-cons tokens at d lt)

up_to_last : (bytes : List ℕ) (tokens : List Token) (start n : ℕ) → behind bytes tokens start ≡ take n (behind bytes tokens start) ++ behind bytes tokens (start + n)
unfolding behind
up_to_last bytes tokens start n =
    sym (take-append-drop n (map (spelled bytes) (drop start tokens)))
    ∙ ap (λ w. take n (map (spelled bytes) (drop start tokens)) ++ w) (drop-map (spelled bytes) n (drop start tokens) ∙ ap (map (spelled bytes)) (drop-drop n start tokens))

pub between_cover : (bytes : List ℕ) (tokens : List Token) (start next : ℕ) (used : List Spelled) (d c : Token) → start < next → next ≤ length tokens → behind bytes tokens start ≡ used ++ behind bytes tokens next → join (get_or tokens start d).span (get_or tokens (next - 1) c).span ≡ cover used
unfolding spelled cover
between_cover bytes tokens start next used d c lt le h =
    by (take (next - 1 - start) (behind bytes tokens start)) begins ends
  where
    first : Token
    first = get_or tokens start d

    last : Token
    last = get_or tokens (next - 1) c

    head : behind bytes tokens start ≡ spelled bytes first ∷ behind bytes tokens (suc start)
    head = first_behind bytes tokens start d (omega arith)

    n : start + (next - 1 - start) ≡ next - 1
    n = omega arith

    m : suc (next - 1) ≡ next
    m = omega arith

    tail : behind bytes tokens (next - 1) ≡ spelled bytes last ∷ behind bytes tokens next
    tail = first_behind bytes tokens (next - 1) c (omega arith) ∙ ap (λ i. spelled bytes last ∷ behind bytes tokens i) m

    begins : behind bytes tokens start ≡ take (next - 1 - start) (behind bytes tokens start) ++ spelled bytes last ∷ behind bytes tokens next
    begins = up_to_last bytes tokens start (next - 1 - start) ∙ ap (λ w. take (next - 1 - start) (behind bytes tokens start) ++ w) (ap (behind bytes tokens) n ∙ tail)

    ends : used ≡ take (next - 1 - start) (behind bytes tokens start) ++ spelled bytes last ∷ []
    ends =
        append_cancel_right used (take (next - 1 - start) (behind bytes tokens start) ++ spelled bytes last ∷ []) (behind bytes tokens next)
        (sym h ∙ (begins ∙ sym (append_assoc (take (next - 1 - start) (behind bytes tokens start)) (spelled bytes last ∷ []) (behind bytes tokens next))))

    by : (vs : List Spelled) → behind bytes tokens start ≡ vs ++ spelled bytes last ∷ behind bytes tokens next → used ≡ vs ++ spelled bytes last ∷ [] → join first.span last.span ≡ cover used
    by [] b u =
        let same : spelled bytes first ≡ spelled bytes last = cc (head, b) in
        ap (λ k. join k.span last.span) same ∙ sym (ap cover u)
    by (k ∷ vs) b u =
        let same : spelled bytes first ≡ k = cc (head, b) in
        ap (λ k. join k.span last.span) same ∙ sym (ap cover u ∙ ap (λ l. join k.span l.span) (last_both k vs (spelled bytes last) []))

-- tokens of the library's import

pub named_is : (k : Spelled) (wanted : List ℕ) (e : Bool) → has names (sort k) ≡ true → e ≡ bytes_eq k.text wanted → e ≡ is_named wanted k
named_is k wanted e h same = rw (h) same

pub pass_none : (bytes : List ℕ) (tokens : List Token) (at : ℕ) (passes : Spelled → Bool) → length tokens ≤ at → read_token passes (behind bytes tokens at) ≡ Stopped (behind bytes tokens at)
pass_none bytes tokens at passes le = let e = behind_end bytes tokens at le in rw (e)

pub pass_more : (bytes : List ℕ) (tokens : List Token) (at : ℕ) (passes : Spelled → Bool) (token : Token) → at < length tokens → token ≡ get_or tokens at token
    → passes (spelled bytes token) ≡ true → read_token passes (behind bytes tokens at) ≡ Done (spelled bytes token) (behind bytes tokens (suc at))
pass_more bytes tokens at passes token lt e t =
    let b = behind_more bytes tokens at token lt e in
    rw (b, t)

pub pass_other : (bytes : List ℕ) (tokens : List Token) (at : ℕ) (passes : Spelled → Bool) (token : Token) → at < length tokens → token ≡ get_or tokens at token
    → passes (spelled bytes token) ≡ false → read_token passes (behind bytes tokens at) ≡ Stopped (behind bytes tokens at)
pass_other bytes tokens at passes token lt e t =
    let b = behind_more bytes tokens at token lt e in
    rw (b, t)

-- another token stands there
pub differs_at : (file : ℕ) (bytes : List ℕ) (tokens : List Token) (at : ℕ) (passes : Spelled → Bool) (e : Fault)
    → e ≡ fault.Broken (record { rule = rule (differing at tokens); span = place file bytes (drop at tokens) }) → read_token passes (behind bytes tokens at) ≡ Stopped (behind bytes tokens at)
    → ToldLibraryToken file bytes tokens at passes (Err e)
differs_at file bytes tokens at passes e s h = rw (s) (h, refl)
