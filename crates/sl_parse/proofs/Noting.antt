-- Which expressions are numbers, and which are `T` or `F`.
use Rattle.std.proofs.Common.{◌≡◌, ℕ, List, Bool, true, false, refl, ap, ◌∙◌, true≢false, sym}
use Rattle.std.specs.Prelude.{◌||◌, codes}
use Rattle.std.specs.Str.{bytes_eq}
use Rattle.sl_tree.specs.declared.tree.Lexeme.{Lexeme}
use Rattle.sl_tree.specs.declared.tree.Expr.{Expr, out-Expr}
use Rattle.sl_tree.specs.declared.tree.ExprKind.{ExprKind, out-ExprKind}
use Rattle.sl_tree.specs.declared.tree.ExprKind.TheVariants as expr_kind
use Rattle.sl_tree.specs.WellShaped.{number_kind}
use Rattle.sl_parse.specs.TreeRules.{number_step, truth_step, is_number, is_truth}

-- numbers

pub is_numbered : (e : Expr) (negative : Bool) (token : Lexeme) → (out-Expr e).kind ≡ expr_kind.Literal negative token → is_number e ≡ number_kind token.kind
unfolding is_number
is_numbered e negative token h = ap (λ z. number_step (out-ExprKind z)) h ∙ ap (λ z. number_step z) (expr_kind.outs-Literal negative token)

number_at : (k : ExprKind) → number_step (out-ExprKind k) ≡ true → (negative : Bool) × (token : Lexeme) × (k ≡ expr_kind.Literal negative token)
unfolding out-ExprKind denote.Hole.Carrier.out
number_at (expr_kind.Literal negative token) f = (negative, token, refl)
number_at rest f = absurd (true≢false (sym f))

pub no_number : (e : Expr) → ((negative : Bool) (token : Lexeme) → (out-Expr e).kind ≡ expr_kind.Literal negative token → ⊥) → is_number e ≡ false
unfolding is_number
no_number e never = by (is_number e) refl
  where
    by : (b : Bool) → is_number e ≡ b → b ≡ false
    by true f = let h = number_at (out-Expr e).kind f in absurd (never h.0 h.1 h.2)
    by false f = refl

-- truths

pub is_true_name : (e : Expr) (text : List ℕ) → (out-Expr e).kind ≡ expr_kind.Name text → is_truth e ≡ (bytes_eq text (codes "T") || bytes_eq text (codes "F"))
unfolding is_truth
is_true_name e text h = ap (λ z. truth_step (out-ExprKind z)) h ∙ ap (λ z. truth_step z) (expr_kind.outs-Name text)

truth_at : (k : ExprKind) → truth_step (out-ExprKind k) ≡ true → (text : List ℕ) × (k ≡ expr_kind.Name text)
unfolding out-ExprKind denote.Hole.Carrier.out
truth_at (expr_kind.Name text) f = (text, refl)
truth_at rest f = absurd (true≢false (sym f))

pub no_truth : (e : Expr) → ((text : List ℕ) → (out-Expr e).kind ≡ expr_kind.Name text → ⊥) → is_truth e ≡ false
unfolding is_truth
no_truth e never = by (is_truth e) refl
  where
    by : (b : Bool) → is_truth e ≡ b → b ≡ false
    by true f = let h = truth_at (out-Expr e).kind f in absurd (never h.0 h.1)
    by false f = refl

-- by the first of two tests, and by the second
pub truth_first : (e : Expr) (text : List ℕ) → (out-Expr e).kind ≡ expr_kind.Name text → (b : Bool) → b ≡ bytes_eq text (codes "T") → b ≡ true → b ≡ is_truth e
truth_first e text h b same so = so ∙ sym (is_true_name e text h ∙ ap (λ z. z || bytes_eq text (codes "F")) (sym same ∙ so))

pub truth_second : (e : Expr) (text : List ℕ) → (out-Expr e).kind ≡ expr_kind.Name text → (b d : Bool) → b ≡ bytes_eq text (codes "T") → b ≡ false → d ≡ bytes_eq text (codes "F") → d ≡ is_truth e
truth_second e text h b d same so other = other ∙ sym (is_true_name e text h ∙ ap (λ z. z || bytes_eq text (codes "F")) (sym same ∙ so))
