-- The example is read within a limit and without one, and a token that is refused within it is too deep or wrong.
use Rattle.std.proofs.Common.{◌≡◌, ℕ, suc, List, [], ◌∷◌, length, refl, sym, ap, ◌∙◌, true≢false, if◌then◌else◌, Bool, true, false}
use Rattle.std.specs.Prelude.{leb}
use Rattle.sl_grammar.specs.Phrase.{Done, Stopped, IsRead, left_of}
use Rattle.sl_grammar.specs.Rules.{good, Spells, Readers, none_own, read_at}
use Rattle.sl_grammar.specs.Sums.{Tok, kind, sample, Number, Add, Name, Sum, Plus, Operand, At, at, T, names, valid_at, room, tree, below, up_to, all}
use Rattle.sl_grammar.proofs.Rules.{grammar_reads, grammar_one}
use Rattle.sl_grammar.proofs.Front.{Refused, refusal}

module _ (fits valid : ℕ → Bool) (next : (d : ℕ) → valid d ≡ true → fits d ≡ true → valid (suc d) ≡ true) where
  -- at each depth the rules pass the test, whether there is room or not
  check : (i : At) → (names fits valid).valid i ≡ true → good kind sample (names fits valid) i ≡ true
  check i v = by i.name (fits i.depth) refl v
    where
      by : (n : Name) (b : Bool) → fits i.depth ≡ b → valid_at fits valid n i.depth ≡ true → good kind sample (names fits valid) (at n i.depth) ≡ true
      by Sum true p v = rw (p, v)
      by Sum false p v = rw (p, v)
      by Plus true p v =
          let here : valid i.depth ≡ true = sym (ap (λ b. if b then valid i.depth else false) p) ∙ v in
          let e = next i.depth here p in
          rw e
      by Plus false p v = absurd (true≢false (sym v ∙ ap (λ b. if b then valid i.depth else false) p))
      by Operand true p v = let e = next i.depth v p in rw (p, e)
      by Operand false p v = rw p

  abbrev pub Words : (i : At) → T i → List Tok → Type 0
  Words i = Spells kind (names fits valid) T (room fits) (tree fits valid) i

  abbrev pub parse : Readers Tok T
  parse i ts = read_at kind (names fits valid) T (room fits) (tree fits valid) (none_own T) (suc (length ts)) i ts

  pub reads : (i : At) → (names fits valid).valid i ≡ true → (ts : List Tok) → IsRead (Words i) ts (parse i ts)
  reads i v ts = grammar_reads kind sample (names fits valid) T (room fits) (tree fits valid) (λ i. refl) check i v ts

  pub one_tree : (i : At) → (names fits valid).valid i ≡ true → (t u : T i) (ts : List Tok) → Words i t ts → Words i u ts → t ≡ u
  one_tree i v t u ts w x = grammar_one kind sample (names fits valid) T (room fits) (tree fits valid) (λ i. refl) check i v t u ts w x

-- a token that is refused within the limit
pub refused : (limit : ℕ) (d : ℕ) → leb d limit ≡ true → (ts : List Tok) (k : Tok) (more : List Tok) → left_of (parse (below limit) (up_to limit) (λ d v p. p) (at Sum d) ts) ≡ k ∷ more
    → Refused (Words (below limit) (up_to limit) (λ d v p. p) (at Sum d)) (Words all all (λ d v p. refl) (at Sum d)) (parse all all (λ d v p. refl) (at Sum d)) ts more k
refused limit d v ts k more e =
    let i = at Sum d in
    refusal (Words (below limit) (up_to limit) (λ d v p. p) i) (Words all all (λ d v p. refl) i) (parse all all (λ d v p. refl) i) (reads all all (λ d v p. refl) i refl) ts
    (parse (below limit) (up_to limit) (λ d v p. p) i ts) (reads (below limit) (up_to limit) (λ d v p. p) i v ts) k more e

-- with a limit of 1: ((7)) is refused at its second parenthesis, and 7 + 8 + 9 at its second plus
deep_parens : parse (below 1) (up_to 1) (λ d v p. p) (at Sum 0) ((0, 0) ∷ ((0, 0) ∷ ((3, 7) ∷ ((1, 0) ∷ ((1, 0) ∷ []))))) ≡ Stopped ((0, 0) ∷ ((3, 7) ∷ ((1, 0) ∷ ((1, 0) ∷ []))))
deep_parens = refl

long_sum : parse (below 1) (up_to 1) (λ d v p. p) (at Sum 0) ((3, 7) ∷ ((2, 0) ∷ ((3, 8) ∷ ((2, 0) ∷ ((3, 9) ∷ []))))) ≡ Done (Add (Number 7) (Number 8)) ((2, 0) ∷ ((3, 9) ∷ []))
long_sum = refl

-- without a limit both are read whole
free_sum : parse all all (λ d v p. refl) (at Sum 0) ((3, 7) ∷ ((2, 0) ∷ ((3, 8) ∷ ((2, 0) ∷ ((3, 9) ∷ []))))) ≡ Done (Add (Add (Number 7) (Number 8)) (Number 9)) []
free_sum = refl
