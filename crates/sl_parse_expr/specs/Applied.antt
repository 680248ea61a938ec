-- What is told of arguments: values or fields, as the code reads them, and the expression before which they stand.
use Rattle.std.specs.Prelude.{ℕ, List, [], ◌∷◌, map}
use Rattle.std.proofs.Common.{inl, inr}
use Rattle.sl_text.specs.declared.place.Span.{Span}
use Rattle.sl_tree.specs.Sorts.{Spelled}
use Rattle.sl_tree.specs.WellShaped.{expr, field, join}
use Rattle.sl_tree.specs.declared.tree.Expr.{Expr}
use Rattle.sl_tree.specs.declared.tree.ExprKind.TheVariants as expr_kind
use Rattle.sl_tree.specs.declared.tree.Field.{Field}
use Rattle.sl_parse_expr.specs.declared.build.Arguments.{Arguments}
use Rattle.sl_parse_expr.specs.declared.build.Arguments.TheVariants as arguments
use Rattle.sl_parse_expr.specs.Values.{Tall, FieldParts, ArgumentsParts, firsts, seconds, deepest, more_fields, name_text, span_of}
use Rattle.sl_parse_expr.specs.Told.{field_view}

-- values behind the first one
abbrev pub values_seen : Tall Expr → List (Spelled × Tall Expr) × Spelled → Arguments × (ℕ × Span)
values_seen x (more, j) = (arguments.Values (firsts (x ∷ seconds more)), (deepest (x ∷ seconds more), j.span))

-- fields behind the first one
abbrev pub more_fields_seen : Field → ℕ → List (Spelled × (Spelled × FieldParts)) × Spelled → Arguments × (ℕ × Span)
more_fields_seen first n (more, j) = (arguments.Fields (first ∷ more_fields more), (deepest ((first, n) ∷ map (λ x. field_view x.1) more), j.span))

-- fields from the `=` of the first one on, of which the name was read as an expression
abbrev pub fields_seen : Expr → FieldParts × (List (Spelled × (Spelled × FieldParts)) × Spelled) → Arguments × (ℕ × Span)
fields_seen name (v, more) = more_fields_seen (field (name_text name) v.1.0) v.1.1 more

-- all of them, with their levels, and the span of the parenthesis that closes them
abbrev pub arguments_seen : ArgumentsParts → Arguments × (ℕ × Span)
arguments_seen (inl (e, inl v)) = fields_seen e.0 v
arguments_seen (inl (e, inr v)) = values_seen e v
arguments_seen (inr j) = (arguments.Values [], (0, j.span))

-- an expression with arguments behind it
abbrev pub applied : Expr → Arguments → Span → Expr
applied left (arguments.Values values) close = expr (expr_kind.Apply left values) (join (span_of left) close)
applied left (arguments.Fields fields) close = expr (expr_kind.Update left fields) (join (span_of left) close)
