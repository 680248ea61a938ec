-- The three phrases that are answered, and what their readers find.
use Rattle.std.proofs.Common.{◌≡◌, ℕ, zero, suc, ◌≤◌, List, [], ◌∷◌, ◌++◌, refl, sym, subst, true, false, arith}
use Rattle.std.specs.Prelude.{Some, None}
use Rattle.std.proofs.lemmas.Bool.{leb-true, le-leb}
use Rattle.sl_grammar.specs.Phrase.{Begins, IsRead}
use Rattle.sl_grammar.specs.Law.{found_as}
use Rattle.sl_grammar.specs.Grammar.{has}
use Rattle.sl_grammar.proofs.Grammar.{subset_sound}
use Rattle.sl_grammar.proofs.Growing.{found_as_as}
use Rattle.sl_tree.specs.declared.tree.TypeTerm.{TypeTerm}
use Rattle.sl_tree.specs.declared.tree.Expr.{Expr}
use Rattle.sl_tree.specs.declared.tree.Stmt.{Stmt}
use Rattle.sl_tree.specs.Sorts.{Spelled, sort, dot, left_bracket}
use Rattle.sl_tree.specs.WellShaped.{IsType, IsBlock}
use Rattle.sl_tree.proofs.Trees.{Deep, type_deep, expr_deep}
use Rattle.sl_parse_expr.specs.Names.{Type_term, Expression, Block, open_to}
use Rattle.sl_parse_expr.specs.Values.{BlockParts}
use Rattle.sl_parse_expr.specs.Grammar.{read, spells_at, after_kinds}
use Rattle.sl_parse_expr.specs.Told.{block_view}
use Rattle.sl_parse_expr.specs.Answers.{AnyExpr, AnyDepth, Within}
use Rattle.sl_parse_expr.proofs.Laws.{reads, goes_on}
use Rattle.sl_parse_expr.proofs.SeenBlocks.{block_to, block_back}
use Rattle.sl_parse_expr.proofs.Answering.{seen_read}
use Rattle.sl_parse_expr.proofs.AllSeen.{all_seen}

-- the tree without its levels
abbrev pub bare : {X Y : Type 0} → X × Y → X
bare v = v.0

-- where there is no room, there is no limit but 0
pub no_room : (most n : ℕ) → open_to (Some most) ≡ false → n ≤ most → n ≡ 0
no_room zero n e h = omega arith
no_room (suc most) n e h = cc

-- types

pub type_any : (ts : List Spelled) → IsRead (AnyDepth IsType) ts (found_as bare (read None Type_term ts))
type_any ts = seen_read (spells_at Type_term None) (AnyDepth IsType) bare (λ v us w. (v.1, w.0)) (λ x us w. ((x, w.0), (w.1, refl))) ts (read None Type_term ts) (reads all_seen Type_term None refl ts)

pub type_within : (most : ℕ) → open_to (Some most) ≡ true → (ts : List Spelled) → IsRead (Within most IsType) ts (found_as bare (read (Some most) Type_term ts))
type_within most o ts =
    seen_read (spells_at Type_term (Some most)) (Within most IsType) bare
    (λ v us w. (v.1, w.0, leb-true v.1 most w.1)) (λ x us w. ((x, w.0), (w.1, le-leb w.0 most w.2)))
    ts (read (Some most) Type_term ts) (reads all_seen Type_term (Some most) o ts)

pub type_goes : (x : TypeTerm) (a : List Spelled) (k : Spelled) → AnyDepth IsType x a → Begins (AnyDepth IsType) (a ++ k ∷ []) → has after_kinds (sort k) ≡ true
type_goes x a k (n, w) (y, more, (m, v)) = subset_sound (dot ∷ left_bracket ∷ []) after_kinds (sort k) refl (goes_on all_seen Type_term None refl (x, n) a k (w, refl) ((y, m), more, (v, refl)))

pub type_shut : (most : ℕ) → open_to (Some most) ≡ false → (x : TypeTerm) (ts : List Spelled) → Within most IsType x ts → ⊥
type_shut most o x ts (n, w, h) = let d : Deep n = type_deep w in let e = no_room most n o h in let i = d.is in absurd (omega arith)

-- expressions

pub expr_any : (ts : List Spelled) → IsRead (AnyDepth AnyExpr) ts (found_as bare (read None Expression ts))
expr_any ts =
    seen_read (spells_at Expression None) (AnyDepth AnyExpr) bare
    (λ v us w. (v.1, (w.0, w.2))) (λ x us w. ((x, w.0), (w.1.0, omega arith, w.1.1, refl)))
    ts (read None Expression ts) (reads all_seen Expression None refl ts)

pub expr_within : (most : ℕ) → open_to (Some most) ≡ true → (ts : List Spelled) → IsRead (Within most AnyExpr) ts (found_as bare (read (Some most) Expression ts))
expr_within most o ts =
    seen_read (spells_at Expression (Some most)) (Within most AnyExpr) bare
    (λ v us w. (v.1, (w.0, w.2), leb-true v.1 most w.3)) (λ x us w. ((x, w.0), (w.1.0, omega arith, w.1.1, le-leb w.0 most w.2)))
    ts (read (Some most) Expression ts) (reads all_seen Expression (Some most) o ts)

pub expr_goes : (x : Expr) (a : List Spelled) (k : Spelled) → AnyDepth AnyExpr x a → Begins (AnyDepth AnyExpr) (a ++ k ∷ []) → has after_kinds (sort k) ≡ true
expr_goes x a k (n, (l, w)) (y, more, (m, (j, v))) = goes_on all_seen Expression None refl (x, n) a k (l, omega arith, w, refl) ((y, m), more, (j, omega arith, v, refl))

pub expr_shut : (most : ℕ) → open_to (Some most) ≡ false → (x : Expr) (ts : List Spelled) → Within most AnyExpr x ts → ⊥
expr_shut most o x ts (n, (l, w), h) = let d : Deep n = expr_deep w in let e = no_room most n o h in let i = d.is in absurd (omega arith)

-- blocks

abbrev pub inner : BlockParts → List Stmt
inner v = v.1.0.0

pub block_any : (ts : List Spelled) → IsRead (AnyDepth IsBlock) ts (found_as bare (found_as block_view (read None Block ts)))
block_any ts =
    subst (IsRead (AnyDepth IsBlock) ts) (sym (found_as_as bare block_view (read None Block ts)))
    (seen_read (spells_at Block None) (AnyDepth IsBlock) inner (λ v us w. (v.1.0.1, (block_to None v us w).0)) (λ xs us w. let b = block_back None w.1 refl in ((b.0, ((xs, w.0), b.1)), b.2)) ts (read None Block ts) (reads all_seen Block None refl ts))

pub block_within : (most : ℕ) (ts : List Spelled) → IsRead (Within most IsBlock) ts (found_as bare (found_as block_view (read (Some most) Block ts)))
block_within most ts =
    subst (IsRead (Within most IsBlock) ts) (sym (found_as_as bare block_view (read (Some most) Block ts)))
    (seen_read (spells_at Block (Some most)) (Within most IsBlock) inner
    (λ v us w. let b = block_to (Some most) v us w in (v.1.0.1, b.0, leb-true v.1.0.1 most b.1))
    (λ xs us w. let b = block_back (Some most) w.1 (le-leb w.0 most w.2) in ((b.0, ((xs, w.0), b.1)), b.2))
    ts (read (Some most) Block ts) (reads all_seen Block (Some most) refl ts))

pub block_goes : (x : List Stmt) (a : List Spelled) (k : Spelled) → AnyDepth IsBlock x a → Begins (AnyDepth IsBlock) (a ++ k ∷ []) → has [] (sort k) ≡ true
block_goes x a k (n, w) (y, more, (m, v)) =
    let b = block_back None w refl in
    let c = block_back None v refl in
    goes_on all_seen Block None refl (b.0, ((x, n), b.1)) a k b.2 ((c.0, ((y, m), c.1)), more, c.2)
