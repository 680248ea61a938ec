use Rattle.std.proofs.Common.{ℕ, List, [], ◌∷◌, refl, map, slice_index_or, Bor}
use Rattle.c_tree.specs.Flat.{lexemes}
use Rattle.c_write.proofs.Writing.{wrote_none, wrote_more, wrote_all, wrote_same, lexemes_each}
use Rattle.c_write.proofs.layout.Writer.tokens.Goals as goal

pub loop-spelling-init : goal.loop-spelling-init
loop-spelling-init c = wrote_none c.args.self.now

pub loop-spelling-preserved : goal.loop-spelling-preserved
loop-spelling-preserved c =
    let spellings = c.args.spellings.now in
    let i = c.loop-spelling.spelling-index in
    let none : Bor (List ℕ) = record { ref_ptr = (0, 0); now = [] } in
    wrote_more (λ spelling. lexemes (spelling.now ∷ [])) spellings i (slice_index_or spellings i none) none
    c.loop-spelling-test.true refl c.loop-spelling.invariant c.in_ok-token.ensures

pub returns : goal.returns
returns c =
    let spellings = c.args.spellings.now in
    wrote_same (lexemes (map (λ spelling. spelling.now) spellings)) (lexemes_each (λ spelling. spelling.now) spellings)
    (wrote_all (λ spelling. lexemes (spelling.now ∷ [])) spellings spellings c.loop-spelling.spelling-index c.loop-spelling-test.false refl c.loop-spelling.invariant)
