-- Names and numbers among the expressions, by their kinds.
use Rattle.std.proofs.Common.{◌≡◌, ℕ, suc, ◌≤◌, List, Bool, true, false, refl, sym, ap, ◌∙◌, true≢false, if◌then◌else◌, arith}
use Rattle.sl_text.specs.declared.token.Kind.{Kind}
use Rattle.sl_text.specs.declared.token.Kind.TheVariants as kind
use Rattle.sl_text.specs.contracts.token.Kind.{the_type}
use Rattle.sl_tree.specs.declared.tree.Lexeme.{Lexeme}
use Rattle.sl_tree.specs.declared.tree.Expr.{Expr, out-Expr}
use Rattle.sl_tree.specs.declared.tree.ExprKind.{ExprKind, out-ExprKind, ExprKind-F}
use Rattle.sl_tree.specs.declared.tree.ExprKind.TheVariants as expr_kind
use Rattle.sl_tree.specs.declared.tree.Else.TheOpen as opened
use Rattle.sl_tree.specs.Sorts.{Spelled}
use Rattle.sl_tree.specs.WellShaped.{expr, join, number_kind, named_kind, numbered_kind, is_name, is_number}
use Rattle.sl_parse_expr.specs.Values.{Tall, span_of, name_kind, name_text, minus_kind, minus_to}
use Rattle.sl_parse_expr.specs.Told.{spanned}
use denote.Enum.Bare.{sameb}

-- names

named_at : (k : ExprKind) → named_kind (out-ExprKind k) ≡ true → (text : List ℕ) × (k ≡ expr_kind.Name text)
unfolding out-ExprKind denote.Hole.Carrier.out
named_at (expr_kind.Name text) f = (text, refl)
named_at other f = absurd (true≢false (sym f))

pub is_named : (e : Expr) (text : List ℕ) → (out-Expr e).kind ≡ expr_kind.Name text → is_name e ≡ true
unfolding is_name
is_named e text h = ap (λ z. named_kind (out-ExprKind z)) h ∙ ap (λ z. named_kind z) (expr_kind.outs-Name text)

pub name_text_of : (e : Expr) (text : List ℕ) → (out-Expr e).kind ≡ expr_kind.Name text → name_text e ≡ text
unfolding name_text
name_text_of e text h = ap (λ z. name_kind (out-ExprKind z)) h ∙ ap (λ z. name_kind z) (expr_kind.outs-Name text)

pub no_name : (e : Expr) → ((text : List ℕ) → (out-Expr e).kind ≡ expr_kind.Name text → ⊥) → is_name e ≡ false
unfolding is_name
no_name e never = by (is_name e) refl
  where
    by : (b : Bool) → is_name e ≡ b → b ≡ false
    by true f = let h = named_at (out-Expr e).kind f in absurd (never h.0 h.1)
    by false f = refl

-- numbers

number_at : (k : ExprKind) → numbered_kind (out-ExprKind k) ≡ true → (token : Lexeme) × (k ≡ expr_kind.Literal false token) × (number_kind token.kind ≡ true)
unfolding out-ExprKind denote.Hole.Carrier.out
number_at (expr_kind.Literal true token) f = absurd (true≢false (sym f))
number_at (expr_kind.Literal false token) f = (token, refl, f)
number_at other f = absurd (true≢false (sym f))

pub is_numbered : (e : Expr) (b : Bool) (token : Lexeme) → (out-Expr e).kind ≡ expr_kind.Literal b token → is_number e ≡ (if b then false else number_kind token.kind)
unfolding is_number
is_numbered e b token h = ap (λ z. numbered_kind (out-ExprKind z)) h ∙ ap (λ z. numbered_kind z) (expr_kind.outs-Literal b token)

pub no_number : (e : Expr) → ((b : Bool) (token : Lexeme) → (out-Expr e).kind ≡ expr_kind.Literal b token → ⊥) → is_number e ≡ false
unfolding is_number
no_number e never = by (is_number e) refl
  where
    by : (b : Bool) → is_number e ≡ b → b ≡ false
    by true f = let h = number_at (out-Expr e).kind f in absurd (never false h.0 h.1)
    by false f = refl

pub number_same : (k : Kind) → sameb the_type k kind.Number ≡ number_kind k
number_same kind.Number = refl
number_same other = refl

-- a minus before a number, and before another expression

negative_at : (k : Spelled) (x : Tall Expr) (token : Lexeme) → (out-Expr x.0).kind ≡ expr_kind.Literal false token → number_kind token.kind ≡ true
    → minus_to k x ≡ (expr (expr_kind.Literal true token) (join k.span (span_of x.0)), x.1)
unfolding minus_to
negative_at k x token h f =
    ap (λ z. minus_kind k x (out-ExprKind z)) h ∙ (ap (λ z. minus_kind k x z) (expr_kind.outs-Literal false token)
    ∙ ap (λ b. if b then (expr (expr_kind.Literal true token) (join k.span (span_of x.0)), x.1) else (expr (expr_kind.Prefix k.text x.0) (join k.span (span_of x.0)), suc x.1)) f)

pub negative_from : (k : Spelled) (e : Expr) (n : ℕ) (b : Bool) (token : Lexeme) → (out-Expr e).kind ≡ expr_kind.Literal b token → is_number e ≡ true
    → minus_to k (e, n) ≡ (expr (expr_kind.Literal true token) (join k.span (span_of e)), n)
negative_from k e n true token h f = absurd (true≢false (sym f ∙ is_numbered e true token h))
negative_from k e n false token h f = negative_at k (e, n) token h (sym (is_numbered e false token h) ∙ f)

pub minus_number : (k : Spelled) (e : Expr) (n : ℕ) → is_number e ≡ true → minus_to k (e, n) ≡ ((minus_to (spanned k.span) (e, 0)).0, n)
unfolding is_number
minus_number k e n f =
    let h = number_at (out-Expr e).kind f in
    negative_at k (e, n) h.0 h.1 h.2 ∙ ap (λ z. (z.0, n)) (sym (negative_at (spanned k.span) (e, 0) h.0 h.1 h.2))

minus_other : {A B C D E F G : Type 0} (k : Spelled) (x : Tall Expr) (o : ExprKind-F A B C D E F G) → numbered_kind o ≡ false → minus_kind k x o ≡ (expr (expr_kind.Prefix k.text x.0) (join k.span (span_of x.0)), suc x.1)
minus_other k x (opened.Literal true token) f = refl
minus_other k x (opened.Literal false token) f = ap (λ b. if b then (expr (expr_kind.Literal true token) (join k.span (span_of x.0)), x.1) else (expr (expr_kind.Prefix k.text x.0) (join k.span (span_of x.0)), suc x.1)) f
minus_other k x o f = refl

pub minus_plain : (k : Spelled) (e : Expr) (n : ℕ) → is_number e ≡ false → minus_to k (e, n) ≡ (expr (expr_kind.Prefix k.text e) (join k.span (span_of e)), suc n)
unfolding minus_to is_number
minus_plain k e n f = minus_other k (e, n) (out-ExprKind (out-Expr e).kind) f

-- it has one level more than that, at most
pub minus_low : (k : Spelled) (e : Expr) (n : ℕ) → (minus_to k (e, n)).1 ≤ suc n
minus_low k e n = by (is_number e) refl
  where
    by : (b : Bool) → is_number e ≡ b → (minus_to k (e, n)).1 ≤ suc n
    by true f = let h : (minus_to k (e, n)).1 ≡ n = ap (λ z. z.1) (minus_number k e n f) in omega (arith, h)
    by false f = let h : (minus_to k (e, n)).1 ≡ suc n = ap (λ z. z.1) (minus_plain k e n f) in omega (arith, h)
