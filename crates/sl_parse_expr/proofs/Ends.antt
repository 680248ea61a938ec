-- What begins with a token and ends with some tokens has the span from the one to the others.
use Rattle.std.proofs.Common.{◌≡◌, ℕ, List, [], ◌∷◌, ◌++◌, refl, sym, ap, ◌∙◌, append_assoc}
use Rattle.sl_tree.specs.Sorts.{Spelled}
use Rattle.sl_tree.specs.WellShaped.{cover, join, IsExpr}
use Rattle.sl_tree.specs.declared.tree.Expr.{Expr}
use Rattle.sl_tree.proofs.Spans.{Solid, solid_one, solid_left, cover_one, cover_both}
use Rattle.sl_tree.proofs.Trees.{expr_solid, expr_spanned}
use Rattle.sl_parse_expr.specs.Values.{span_of}

-- the one list ends with the other
pub record Ends (ts vs : List Spelled) : Type 0 where
  pub front : List Spelled
  pub is : ts ≡ front ++ vs

pub ends_all : (vs : List Spelled) → Ends vs vs
ends_all vs = record { front = []; is = refl }

pub ends_on : {ts vs : List Spelled} (k : Spelled) → Ends ts vs → Ends (k ∷ ts) vs
ends_on k e = record { front = k ∷ e.front; is = ap (λ z. k ∷ z) e.is }

pub ends_more : {ts vs : List Spelled} (us : List Spelled) → Ends ts vs → Ends (us ++ ts) vs
ends_more {ts} {vs} us e = record { front = us ++ e.front; is = ap (λ z. us ++ z) e.is ∙ sym (append_assoc us e.front vs) }

pub ends_same : {ts us vs : List Spelled} → ts ≡ us → Ends us vs → Ends ts vs
ends_same e f = record { front = f.front; is = e ∙ f.is }

-- from a token
pub cover_to : {ts vs : List Spelled} (k : Spelled) → Ends ts vs → Solid vs → cover (k ∷ ts) ≡ join k.span (cover vs)
unfolding cover
cover_to {ts} {vs} k e s = ap (λ z. cover (k ∷ z)) e.is ∙ cover_both (k ∷ e.front) vs (solid_one k e.front) s

pub cover_until : {ts us : List Spelled} (k j : Spelled) → ts ≡ k ∷ us → Ends us (j ∷ []) → cover ts ≡ join k.span j.span
cover_until k j h e = ap cover h ∙ (cover_to k e (solid_one j []) ∙ ap (λ s. join k.span s) (cover_one j))

pub cover_on : {ts us vs : List Spelled} {level n : ℕ} {x : Expr} (k : Spelled) → ts ≡ k ∷ us → Ends us vs → IsExpr level n x vs → cover ts ≡ join k.span (span_of x)
cover_on k h e d = ap cover h ∙ (cover_to k e (expr_solid d) ∙ ap (λ s. join k.span s) (sym (expr_spanned d)))

-- from an expression
pub cover_from : {ts us ws vs : List Spelled} {level n : ℕ} {x : Expr} → ts ≡ us ++ ws → IsExpr level n x us → Ends ws vs → Solid vs → cover ts ≡ join (span_of x) (cover vs)
unfolding cover
cover_from {ts} {us} {ws} {vs} h d e t =
    h' ∙ ap (λ p. join p (cover vs)) (sym (expr_spanned d))
  where
    h' : cover ts ≡ join (cover us) (cover vs)
    h' = ap cover (h ∙ (ap (λ z. us ++ z) e.is ∙ sym (append_assoc us e.front vs))) ∙ (cover_both (us ++ e.front) vs (solid_left e.front (expr_solid d)) t ∙ more (expr_solid d))
      where
        more : Solid us → join (cover (us ++ e.front)) (cover vs) ≡ join (cover us) (cover vs)
        more a = ap (λ z. join (cover (z ++ e.front)) (cover vs)) a.is ∙ sym (ap (λ z. join (cover z) (cover vs)) a.is)
