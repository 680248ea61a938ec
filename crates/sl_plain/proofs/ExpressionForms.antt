-- What expressions are, form by form.
use Rattle.std.proofs.Common.{◌≡◌, ℕ, List, map, Bool, sym, ap, ◌∙◌}
use Rattle.sl_tree.specs.declared.tree.Lexeme.{Lexeme}
use Rattle.sl_tree.specs.declared.tree.TypeTerm.{TypeTerm}
use Rattle.sl_tree.specs.declared.tree.Expr.{Expr, out-Expr}
use Rattle.sl_tree.specs.declared.tree.ExprKind.{roll-ExprKind}
use Rattle.sl_tree.specs.declared.tree.ExprKind.TheVariants as expr_kind
use Rattle.sl_tree.specs.declared.tree.Field.{Field}
use Rattle.sl_tree.specs.declared.tree.Case.{Case}
use Rattle.sl_tree.specs.declared.tree.Else.TheOpen as tree
use Rattle.sl_plain.specs.declared.reading.expressions.Form.TheVariants.{Name, NotPlain}
use Rattle.sl_plain.specs.Reading.{line_at, literal_of, sign_of, atom_of, joined, member_of, called, form_of, form_of_kind}
use Rattle.sl_plain.proofs.TreeLayers.{Layer, expr_layer, expr_kind_layer}

of_layer : (feeds : List ℕ) (x : Expr) (y : Layer) → (out-Expr x).kind ≡ roll-ExprKind y → form_of feeds x ≡ form_of_kind feeds (roll-ExprKind y) (line_at feeds (out-Expr x).span.from)
of_layer feeds x y is = expr_layer feeds x ∙ ap (λ k. form_of_kind feeds k (line_at feeds (out-Expr x).span.from)) is

pub literal_form : (feeds : List ℕ) (x : Expr) (negative : Bool) (literal : Lexeme) → (out-Expr x).kind ≡ expr_kind.Literal negative literal → form_of feeds x ≡ literal_of literal.kind negative literal.text
literal_form feeds x negative literal is = of_layer feeds x (tree.Literal negative literal) (is ∙ sym (expr_kind.rolls-Literal negative literal)) ∙ ap (λ f. f (line_at feeds (out-Expr x).span.from)) (expr_kind_layer feeds (tree.Literal negative literal))

pub name_form : (feeds : List ℕ) (x : Expr) (text : List ℕ) → (out-Expr x).kind ≡ expr_kind.Name text → form_of feeds x ≡ Name text
name_form feeds x text is = of_layer feeds x (tree.Name text) (is ∙ sym (expr_kind.rolls-Name text)) ∙ ap (λ f. f (line_at feeds (out-Expr x).span.from)) (expr_kind_layer feeds (tree.Name text))

pub infix_form : (feeds : List ℕ) (x : Expr) (left : Expr) (text : List ℕ) (right : Expr) → (out-Expr x).kind ≡ expr_kind.Infix left text right → form_of feeds x ≡ joined (sign_of text) (atom_of (form_of feeds left)) (atom_of (form_of feeds right)) (line_at feeds (out-Expr x).span.from)
infix_form feeds x left text right is = of_layer feeds x (tree.Infix left text right) (is ∙ sym (expr_kind.rolls-Infix left text right)) ∙ ap (λ f. f (line_at feeds (out-Expr x).span.from)) (expr_kind_layer feeds (tree.Infix left text right))

pub select_form : (feeds : List ℕ) (x : Expr) (operand : Expr) (text : List ℕ) → (out-Expr x).kind ≡ expr_kind.Select operand text → form_of feeds x ≡ member_of (form_of feeds operand) text
select_form feeds x operand text is = of_layer feeds x (tree.Select operand text) (is ∙ sym (expr_kind.rolls-Select operand text)) ∙ ap (λ f. f (line_at feeds (out-Expr x).span.from)) (expr_kind_layer feeds (tree.Select operand text))

pub apply_form : (feeds : List ℕ) (x : Expr) (operand : Expr) (arguments : List Expr) → (out-Expr x).kind ≡ expr_kind.Apply operand arguments → form_of feeds x ≡ called (form_of feeds operand) (map (form_of feeds) arguments)
apply_form feeds x operand arguments is = of_layer feeds x (tree.Apply operand arguments) (is ∙ sym (expr_kind.rolls-Apply operand arguments)) ∙ ap (λ f. f (line_at feeds (out-Expr x).span.from)) (expr_kind_layer feeds (tree.Apply operand arguments))

pub this_form : (feeds : List ℕ) (x : Expr) → (out-Expr x).kind ≡ expr_kind.This → form_of feeds x ≡ NotPlain
this_form feeds x is = of_layer feeds x tree.This (is ∙ sym expr_kind.rolls-This) ∙ ap (λ f. f (line_at feeds (out-Expr x).span.from)) (expr_kind_layer feeds tree.This)

pub paren_form : (feeds : List ℕ) (x : Expr) (inner : Expr) → (out-Expr x).kind ≡ expr_kind.Paren inner → form_of feeds x ≡ NotPlain
paren_form feeds x inner is = of_layer feeds x (tree.Paren inner) (is ∙ sym (expr_kind.rolls-Paren inner)) ∙ ap (λ f. f (line_at feeds (out-Expr x).span.from)) (expr_kind_layer feeds (tree.Paren inner))

pub prefix_form : (feeds : List ℕ) (x : Expr) (text : List ℕ) (operand : Expr) → (out-Expr x).kind ≡ expr_kind.Prefix text operand → form_of feeds x ≡ NotPlain
prefix_form feeds x text operand is = of_layer feeds x (tree.Prefix text operand) (is ∙ sym (expr_kind.rolls-Prefix text operand)) ∙ ap (λ f. f (line_at feeds (out-Expr x).span.from)) (expr_kind_layer feeds (tree.Prefix text operand))

pub update_form : (feeds : List ℕ) (x : Expr) (operand : Expr) (fields : List Field) → (out-Expr x).kind ≡ expr_kind.Update operand fields → form_of feeds x ≡ NotPlain
update_form feeds x operand fields is = of_layer feeds x (tree.Update operand fields) (is ∙ sym (expr_kind.rolls-Update operand fields)) ∙ ap (λ f. f (line_at feeds (out-Expr x).span.from)) (expr_kind_layer feeds (tree.Update operand fields))

pub given_form : (feeds : List ℕ) (x : Expr) (operand : Expr) (types : List TypeTerm) → (out-Expr x).kind ≡ expr_kind.Given operand types → form_of feeds x ≡ NotPlain
given_form feeds x operand types is = of_layer feeds x (tree.Given operand types) (is ∙ sym (expr_kind.rolls-Given operand types)) ∙ ap (λ f. f (line_at feeds (out-Expr x).span.from)) (expr_kind_layer feeds (tree.Given operand types))

pub if_form : (feeds : List ℕ) (x : Expr) (test chosen other : Expr) → (out-Expr x).kind ≡ expr_kind.If test chosen other → form_of feeds x ≡ NotPlain
if_form feeds x test chosen other is = of_layer feeds x (tree.ExprKind::If test chosen other) (is ∙ sym (expr_kind.rolls-If test chosen other)) ∙ ap (λ f. f (line_at feeds (out-Expr x).span.from)) (expr_kind_layer feeds (tree.ExprKind::If test chosen other))

pub match_form : (feeds : List ℕ) (x : Expr) (operand : Expr) (cases : List Case) → (out-Expr x).kind ≡ expr_kind.Match operand cases → form_of feeds x ≡ NotPlain
match_form feeds x operand cases is = of_layer feeds x (tree.ExprKind::Match operand cases) (is ∙ sym (expr_kind.rolls-Match operand cases)) ∙ ap (λ f. f (line_at feeds (out-Expr x).span.from)) (expr_kind_layer feeds (tree.ExprKind::Match operand cases))

pub ruleset form_rules = (literal_form, name_form, infix_form, select_form, apply_form, this_form, paren_form, prefix_form, update_form, given_form, if_form, match_form)
