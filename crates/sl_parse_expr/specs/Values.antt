-- What the names of the grammar read: trees, each with how deep it nests, and the parts of which a tree is made.
use Rattle.std.specs.Prelude.{ℕ, suc, List, [], ◌∷◌, map, true, false, Option, Some, None, ◌⊎◌, max, ◌==◌, if◌then◌else◌}
use Rattle.std.proofs.Common.{inl, inr}
use Rattle.sl_text.specs.declared.place.Span.{Span}
use Rattle.sl_grammar.specs.Grammar.{has}
use Rattle.sl_grammar.specs.Growing.{folded}
use Rattle.sl_tree.specs.Sorts.{Spelled, sort, lexeme, this_word, var_word, to_name, truth_name}
use Rattle.sl_tree.specs.WellShaped.{names, join, last_of, type_term, pattern, expr, stmt, field, case_of, number_kind}
use Rattle.sl_tree.specs.declared.tree.TypeTerm.{TypeTerm, out-TypeTerm}
use Rattle.sl_tree.specs.declared.tree.Pattern.{Pattern}
use Rattle.sl_tree.specs.declared.tree.PatternKind.TheVariants as pattern_kind
use Rattle.sl_tree.specs.declared.tree.Expr.{Expr, out-Expr}
use Rattle.sl_tree.specs.declared.tree.ExprKind.{out-ExprKind, ExprKind-F}
use Rattle.sl_tree.specs.declared.tree.ExprKind.TheVariants as expr_kind
use Rattle.sl_tree.specs.declared.tree.Else.TheOpen as opened
use Rattle.sl_tree.specs.declared.tree.Field.{Field}
use Rattle.sl_tree.specs.declared.tree.Case.{Case}
use Rattle.sl_tree.specs.declared.tree.Stmt.{Stmt, out-Stmt}
use Rattle.sl_tree.specs.declared.tree.StmtKind.TheVariants as stmt_kind
use Rattle.sl_tree.specs.declared.tree.Else.{Else}
use Rattle.sl_tree.specs.declared.tree.Else.TheVariants as else_kind
use Rattle.sl_parse_expr.specs.Names.{Name, Path, Type_term, Expression, Level, Link, Prefix, Minus, Postfix, Suffix, Arguments, Primary, Matched, A_case, Pattern_of, Name_tail, Class_tail, Statements, Block, Statement, Declaration, If_head, If_any, If_tail, If_only, Else_tail, While_loop, For_loop, Return_of, Opening, Started, Begun, Assigned, Group, At}

-- a tree, with how many levels of nodes it has
abbrev pub Tall : Type 0 → Type 0
Tall X = X × ℕ

-- the parts of a tree, as the rules have them
abbrev pub PathParts : Type 0
PathParts = Spelled × List (Spelled × Spelled)

-- one, and more with a token before each
abbrev pub Listed : Type 0 → Type 0
Listed X = Tall X × List (Spelled × Tall X)

abbrev pub TypesParts : Type 0
TypesParts = Spelled × (Listed TypeTerm × Spelled)

-- `= EXPR`
abbrev pub FieldParts : Type 0
FieldParts = Spelled × Tall Expr

-- `(EXPR)`
abbrev pub HeadParts : Type 0
HeadParts = Spelled × (Tall Expr × Spelled)

abbrev pub ArgumentsParts : Type 0
ArgumentsParts = (Tall Expr × ((FieldParts × (List (Spelled × (Spelled × FieldParts)) × Spelled)) ⊎ (List (Spelled × Tall Expr) × Spelled))) ⊎ Spelled

abbrev pub SuffixParts : Type 0
SuffixParts = (Spelled × Spelled) ⊎ (TypesParts ⊎ (Spelled × ArgumentsParts))

abbrev pub MatchedParts : Type 0
MatchedParts = Spelled × (Spelled × (Tall Case × (List (Tall Case) × Spelled)))

abbrev pub ClassParts : Type 0
ClassParts = (Spelled × ((Listed Pattern ⊎ Unit {0}) × Spelled)) ⊎ Unit {0}

abbrev pub TailParts : Type 0
TailParts = (Spelled × Tall TypeTerm) ⊎ (List (Spelled × Spelled) × ClassParts)

abbrev pub BlockParts : Type 0
BlockParts = Spelled × (Tall (List Stmt) × Spelled)

abbrev pub DeclarationParts : Type 0
DeclarationParts = Spelled × (Spelled × (((Spelled × Tall TypeTerm) ⊎ Unit {0}) × FieldParts))

abbrev pub IfHeadParts : Type 0
IfHeadParts = Spelled × HeadParts

abbrev pub IfTailParts : Type 0
IfTailParts = Tall Expr × (Spelled × (Tall Expr × (FieldParts ⊎ Unit {0})))

abbrev pub ElseParts : Type 0
ElseParts = (Spelled × (Tall Stmt ⊎ BlockParts)) ⊎ Unit {0}

abbrev pub IfAnyParts : Type 0
IfAnyParts = IfHeadParts × (IfTailParts ⊎ (BlockParts × ElseParts))

abbrev pub WhileParts : Type 0
WhileParts = Spelled × (HeadParts × BlockParts)

abbrev pub ForParts : Type 0
ForParts = Spelled × (Spelled × (Spelled × (Spelled × (Tall Expr × (Spelled × (Tall Expr × (Spelled × BlockParts)))))))

abbrev pub ReturnParts : Type 0
ReturnParts = Spelled × (Tall Expr ⊎ Unit {0})

abbrev pub BegunParts : Type 0
BegunParts = Tall Expr × (MatchedParts ⊎ Unit {0})

abbrev pub StartedParts : Type 0
StartedParts = BegunParts × List FieldParts

abbrev pub OpeningParts : Type 0
OpeningParts = (Spelled × List Spelled) ⊎ StartedParts

abbrev pub type_of : Name → Type 0
type_of Path = PathParts
type_of Type_term = Tall TypeTerm
type_of Expression = Tall Expr
type_of (Level l) = Tall Expr
type_of (Link l) = FieldParts
type_of Prefix = Tall Expr
type_of Minus = Tall Expr
type_of Postfix = Tall Expr
type_of Suffix = SuffixParts
type_of Arguments = ArgumentsParts
type_of Primary = Tall Expr
type_of Matched = MatchedParts
type_of A_case = Tall Case
type_of Pattern_of = Tall Pattern
type_of Name_tail = TailParts
type_of Class_tail = ClassParts
type_of Statements = Tall (List Stmt)
type_of Block = BlockParts
type_of Statement = Tall Stmt
type_of Declaration = DeclarationParts
type_of If_head = IfHeadParts
type_of If_any = IfAnyParts
type_of If_tail = IfTailParts
type_of If_only = Tall Stmt
type_of Else_tail = ElseParts
type_of While_loop = WhileParts
type_of For_loop = ForParts
type_of Return_of = ReturnParts
type_of Opening = OpeningParts
type_of Started = StartedParts
type_of Begun = BegunParts
type_of Assigned = FieldParts
type_of Group = List Spelled

abbrev pub T_of : At → Type 0
T_of i = type_of i.name

-- the levels of the deepest
abbrev pub deepest : {X : Type 0} → List (Tall X) → ℕ
deepest [] = 0
deepest (x ∷ []) = x.1
deepest (x ∷ (y ∷ ys)) = max x.1 (deepest (y ∷ ys))

abbrev pub seconds : {X : Type 0} → List (Spelled × X) → List X
seconds xs = map (λ x. x.1) xs

abbrev pub firsts : {X : Type 0} → List (Tall X) → List X
firsts xs = map (λ x. x.0) xs

-- all that are listed
abbrev pub listing : {X : Type 0} → Listed X → List (Tall X)
listing v = v.0 ∷ seconds v.1

-- paths

abbrev pub path_last : Spelled → List (Spelled × Spelled) → Spelled
path_last k [] = k
path_last k (x ∷ xs) = path_last x.1 xs

abbrev pub path_texts : PathParts → List (List ℕ)
path_texts v = v.0.text ∷ map (λ x. x.1.text) v.1

abbrev pub path_span : PathParts → Span
path_span v = join v.0.span (path_last v.0 v.1).span

-- types

abbrev pub type_from : PathParts × (TypesParts ⊎ Unit {0}) → Tall TypeTerm
type_from (path, inl (k, (types, j))) = (type_term (path_texts path) (firsts (listing types)) (join path.0.span j.span), suc (deepest (listing types)))
type_from (path, inr none) = (type_term (path_texts path) [] (path_span path), 1)

abbrev pub type_span : TypeTerm → Span
type_span t = (out-TypeTerm t).span

-- expressions

abbrev pub span_of : Expr → Span
span_of e = (out-Expr e).span

-- a token that is an expression by itself
unfoldable pub token_expr : Spelled → Expr
token_expr k =
    if has names (sort k) then expr (expr_kind.Name k.text) k.span
    else if sort k == this_word then expr expr_kind.This k.span
    else expr (expr_kind.Literal false (lexeme k)) k.span

abbrev pub primary_from : HeadParts ⊎ Spelled → Tall Expr
primary_from (inl (k, (x, j))) = (expr (expr_kind.Paren x.0) (join k.span j.span), suc x.1)
primary_from (inr k) = (token_expr k, 1)

-- the name that an expression is
abbrev pub name_kind : {A B C D E F G : Type 0} → ExprKind-F A B C D E F G → List ℕ
name_kind (opened.Name name) = name
name_kind other = []

unfoldable pub name_text : Expr → List ℕ
name_text e = name_kind (out-ExprKind (out-Expr e).kind)

-- NAME = EXPR, as it is listed: a comma, the name, and the rest
abbrev pub field_from : Spelled → FieldParts → Field
field_from k v = field k.text v.1.0

abbrev pub more_fields : List (Spelled × (Spelled × FieldParts)) → List Field
more_fields xs = map (λ x. field_from x.1.0 x.1.1) xs

abbrev pub more_values : List (Spelled × (Spelled × FieldParts)) → List (Tall Expr)
more_values xs = map (λ x. x.1.1.1) xs

-- an expression, and arguments behind it
abbrev pub apply_to : Tall Expr → ArgumentsParts → Tall Expr
apply_to x (inl (e, inl (v, (more, j)))) =
    (expr (expr_kind.Update x.0 (field (name_text e.0) v.1.0 ∷ more_fields more)) (join (span_of x.0) j.span), suc (max x.1 (deepest (v.1 ∷ more_values more))))
apply_to x (inl (e, inr (more, j))) =
    (expr (expr_kind.Apply x.0 (firsts (e ∷ seconds more))) (join (span_of x.0) j.span), suc (max x.1 (deepest (e ∷ seconds more))))
apply_to x (inr j) = (expr (expr_kind.Apply x.0 []) (join (span_of x.0) j.span), suc (max x.1 0))

-- an expression, and a suffix behind it
abbrev pub suffix_to : Tall Expr → SuffixParts → Tall Expr
suffix_to x (inl (d, k)) = (expr (expr_kind.Select x.0 k.text) (join (span_of x.0) k.span), suc x.1)
suffix_to x (inr (inl (k, (types, j)))) = (expr (expr_kind.Given x.0 (firsts (listing types))) (join (span_of x.0) j.span), suc (max x.1 (deepest (listing types))))
suffix_to x (inr (inr (k, args))) = apply_to x args

-- a minus before an expression: one node, where that is a number
abbrev pub minus_kind : {A B C D E F G : Type 0} → Spelled → Tall Expr → ExprKind-F A B C D E F G → Tall Expr
minus_kind k x (opened.Literal negative token) =
    if negative then (expr (expr_kind.Prefix k.text x.0) (join k.span (span_of x.0)), suc x.1)
    else if number_kind token.kind then (expr (expr_kind.Literal true token) (join k.span (span_of x.0)), x.1)
    else (expr (expr_kind.Prefix k.text x.0) (join k.span (span_of x.0)), suc x.1)
minus_kind k x other = (expr (expr_kind.Prefix k.text x.0) (join k.span (span_of x.0)), suc x.1)

unfoldable pub minus_to : Spelled → Tall Expr → Tall Expr
minus_to k x = minus_kind k x (out-ExprKind (out-Expr x.0).kind)

abbrev pub prefix_from : (Spelled × Tall Expr) ⊎ ((Spelled × Tall Expr) ⊎ Tall Expr) → Tall Expr
prefix_from (inl (k, x)) = minus_to k x
prefix_from (inr (inl (k, x))) = (expr (expr_kind.Prefix k.text x.0) (join k.span (span_of x.0)), suc x.1)
prefix_from (inr (inr x)) = x

-- an expression, and an operator with its right side
abbrev pub infix_to : Tall Expr → FieldParts → Tall Expr
infix_to x (k, y) = (expr (expr_kind.Infix x.0 k.text y.0) (join (span_of x.0) (span_of y.0)), suc (max x.1 y.1))

abbrev pub if_from : Spelled → Tall Expr → Tall Expr → Tall Expr → Tall Expr
if_from i x y z = (expr (expr_kind.If x.0 y.0 z.0) (join i.span (span_of z.0)), suc (max x.1 (max y.1 z.1)))

-- the cases of a match
abbrev pub cases_in : MatchedParts → List (Tall Case)
cases_in (k, (p, (c, (cs, q)))) = c ∷ cs

abbrev pub last_in : MatchedParts → Spelled
last_in (k, (p, (c, (cs, q)))) = q

abbrev pub match_to : Tall Expr → MatchedParts → Tall Expr
match_to x v = (expr (expr_kind.Match x.0 (firsts (cases_in v))) (join (span_of x.0) (last_in v).span), suc (max x.1 (deepest (cases_in v))))

abbrev pub expression_from : (Spelled × (HeadParts × (Tall Expr × (Spelled × Tall Expr)))) ⊎ (Tall Expr × List MatchedParts) → Tall Expr
expression_from (inl (i, ((p, (x, q)), (y, (s, z))))) = if_from i x y z
expression_from (inr (x, vs)) = folded match_to x vs

-- patterns

abbrev pub any_from : Spelled → (Spelled × Tall TypeTerm) ⊎ Unit {0} → Tall Pattern
any_from k (inl (c, t)) = (pattern (pattern_kind.Any (Some t.0)) (join k.span (type_span t.0)), suc t.1)
any_from k (inr none) = (pattern (pattern_kind.Any None) k.span, suc 0)

-- an identifier by itself
unfoldable pub bind_from : Spelled → Pattern
bind_from k = if sort k == truth_name then pattern (pattern_kind.Literal false (lexeme k)) k.span else pattern (pattern_kind.Bind k.text None) k.span

abbrev pub class_parts : Listed Pattern ⊎ Unit {0} → List (Tall Pattern)
class_parts (inl v) = listing v
class_parts (inr none) = []

abbrev pub named_from : Spelled → TailParts → Tall Pattern
named_from k (inl (c, t)) = (pattern (pattern_kind.Bind k.text (Some t.0)) (join k.span (type_span t.0)), suc t.1)
named_from k (inr ([], inr none)) = (bind_from k, 1)
named_from k (inr (x ∷ xs, inr none)) = (pattern (pattern_kind.Constant (path_texts (k, x ∷ xs))) (path_span (k, x ∷ xs)), 1)
named_from k (inr (xs, inl (p, (parts, q)))) =
    (pattern (pattern_kind.Class (path_texts (k, xs)) (firsts (class_parts parts))) (join k.span q.span), suc (deepest (class_parts parts)))

abbrev pub pattern_from : (Spelled × ((Spelled × Tall TypeTerm) ⊎ Unit {0})) ⊎ ((Spelled × Spelled) ⊎ (Spelled ⊎ (Spelled × TailParts))) → Tall Pattern
pattern_from (inl (k, o)) = any_from k o
pattern_from (inr (inl (k, j))) = (pattern (pattern_kind.Literal true (lexeme j)) (join k.span j.span), 1)
pattern_from (inr (inr (inl k))) = (pattern (pattern_kind.Literal false (lexeme k)) k.span, 1)
pattern_from (inr (inr (inr (k, tail)))) = named_from k tail

-- cases

abbrev pub guard_from : (Spelled × Tall Expr) ⊎ Unit {0} → Option Expr
guard_from (inl (i, x)) = Some x.0
guard_from (inr none) = None

abbrev pub guard_levels : (Spelled × Tall Expr) ⊎ Unit {0} → ℕ
guard_levels (inl (i, x)) = x.1
guard_levels (inr none) = 0

abbrev pub case_from : Spelled × (Tall Pattern × (((Spelled × Tall Expr) ⊎ Unit {0}) × (Spelled × Tall (List Stmt)))) → Tall Case
case_from (k, (x, (guard, (a, body)))) = (case_of x.0 (guard_from guard) body.0, max x.1 (max (guard_levels guard) body.1))

-- statements

abbrev pub statements_from : (Tall Stmt × List (Spelled × Tall Stmt)) ⊎ Unit {0} → Tall (List Stmt)
statements_from (inl v) = (firsts (listing v), deepest (listing v))
statements_from (inr none) = ([], 0)

abbrev pub ascribed : (Spelled × Tall TypeTerm) ⊎ Unit {0} → Option TypeTerm
ascribed (inl (c, t)) = Some t.0
ascribed (inr none) = None

abbrev pub ascribed_levels : (Spelled × Tall TypeTerm) ⊎ Unit {0} → ℕ
ascribed_levels (inl (c, t)) = t.1
ascribed_levels (inr none) = 0

abbrev pub declaration_from : DeclarationParts → Tall Stmt
declaration_from (w, (k, (o, (s, e)))) =
    (stmt (stmt_kind.Let (sort w == var_word) k.text (ascribed o) e.0) (join w.span (span_of e.0)), suc (max (ascribed_levels o) e.1))

abbrev pub else_from : ElseParts → Else
else_from (inl (w, inl s)) = else_kind.If s.0
else_from (inl (w, inr (p, (body, q)))) = else_kind.Block body.0
else_from (inr none) = else_kind.Nothing

abbrev pub else_levels : ElseParts → ℕ
else_levels (inl (w, inl s)) = s.1
else_levels (inl (w, inr (p, (body, q)))) = body.1
else_levels (inr none) = 0

-- the span of a statement, and the end of what stands behind the block of an `if`
abbrev pub stmt_span : Stmt → Span
stmt_span s = (out-Stmt s).span

abbrev pub else_span : Spelled → ElseParts → Span
else_span q (inl (w, inl s)) = stmt_span s.0
else_span q (inl (w, inr (p, (body, j)))) = j.span
else_span q (inr none) = q.span

abbrev pub blocks_from : IfHeadParts → BlockParts × ElseParts → Tall Stmt
blocks_from (i, (p, (x, q))) ((b, (body, c)), other) =
    (stmt (stmt_kind.If x.0 body.0 (else_from other)) (join i.span (else_span c other)), suc (max x.1 (max body.1 (else_levels other))))

abbrev pub tail_from : IfHeadParts → IfTailParts → Tall Stmt
tail_from (i, (p, (x, q))) (y, (s, (z, inl (a, e)))) =
    let f = if_from i x y z in
    (stmt (stmt_kind.Assign f.0 e.0) (join i.span (span_of e.0)), suc (max f.1 e.1))
tail_from (i, (p, (x, q))) (y, (s, (z, inr none))) =
    let f = if_from i x y z in
    (stmt (stmt_kind.Call f.0) (span_of f.0), suc f.1)

abbrev pub if_any_from : IfAnyParts → Tall Stmt
if_any_from (head, inl tail) = tail_from head tail
if_any_from (head, inr blocks) = blocks_from head blocks

abbrev pub while_from : WhileParts → Tall Stmt
while_from (w, ((p, (x, q)), (b, (body, c)))) = (stmt (stmt_kind.While x.0 body.0) (join w.span c.span), suc (max x.1 body.1))

abbrev pub for_from : ForParts → Tall Stmt
for_from (w, (p, (k, (a, (x, (u, (y, (q, (b, (body, c)))))))))) =
    (stmt (stmt_kind.For k.text x.0 (sort u == to_name) y.0 body.0) (join w.span c.span), suc (max x.1 (max y.1 body.1)))

abbrev pub return_from : ReturnParts → Tall Stmt
return_from (w, inl x) = (stmt (stmt_kind.Return (Some x.0)) (join w.span (span_of x.0)), suc x.1)
return_from (w, inr none) = (stmt (stmt_kind.Return None) w.span, 1)

abbrev pub skip_from : Spelled → List Spelled → Tall Stmt
skip_from k ks = (stmt (stmt_kind.Skip (map lexeme (k ∷ ks))) (join k.span (last_of k ks).span), 1)

-- what begins with an expression, which may be a match, and what is assigned to it
abbrev pub target_from : BegunParts → Tall Expr
target_from (x, inl v) = match_to x v
target_from (x, inr none) = x

abbrev pub started_from : StartedParts → Tall Stmt
started_from (begun, (s, e) ∷ more) =
    let x = target_from begun in
    (stmt (stmt_kind.Assign x.0 e.0) (join (span_of x.0) (span_of e.0)), suc (max x.1 e.1))
started_from ((x, inl v), []) = (stmt (stmt_kind.Match x.0 (firsts (cases_in v))) (join (span_of x.0) (last_in v).span), suc (max x.1 (deepest (cases_in v))))
started_from ((x, inr none), []) = (stmt (stmt_kind.Call x.0) (span_of x.0), suc x.1)

abbrev pub opening_from : OpeningParts → Tall Stmt
opening_from (inl (k, ks)) = skip_from k ks
opening_from (inr v) = started_from v

abbrev pub statement_from : DeclarationParts ⊎ (IfAnyParts ⊎ (WhileParts ⊎ (ForParts ⊎ (ReturnParts ⊎ (Spelled ⊎ OpeningParts))))) → Tall Stmt
statement_from (inl v) = declaration_from v
statement_from (inr (inl v)) = if_any_from v
statement_from (inr (inr (inl v))) = while_from v
statement_from (inr (inr (inr (inl v)))) = for_from v
statement_from (inr (inr (inr (inr (inl v))))) = return_from v
statement_from (inr (inr (inr (inr (inr (inl k)))))) = skip_from k []
statement_from (inr (inr (inr (inr (inr (inr v)))))) = opening_from v
