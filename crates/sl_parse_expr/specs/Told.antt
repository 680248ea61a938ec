-- What a function tells of what a reader finds.
use Rattle.std.specs.Prelude.{◌≡◌, ℕ, suc, ◌<◌, ◌≤◌, ◌+◌, ◌*◌, ◌-◌, List, [], ◌∷◌, ◌++◌, map, drop, true, max, Option, None, ◌⊎◌}
use Rattle.std.proofs.Common.{inl, inr}
use Rattle.std.specs.declared.result.Result.{Result}
use Rattle.std.specs.declared.result.Result.TheVariants.{Ok, Err}
use Rattle.sl_text.specs.declared.place.Span.{Span}
use Rattle.sl_text.specs.declared.token.Token.{Token as TokenOf}
use Rattle.sl_text.specs.declared.token.Kind.TheVariants as kind
use Rattle.sl_grammar.specs.Phrase.{Found, Done, Stopped, read_both, read_token}
use Rattle.sl_grammar.specs.Grammar.{Form, Token, Nothing, Ref, Then, Either, Room, Many, is, Val, read_form}
use Rattle.sl_grammar.specs.Growing.{grown}
use Rattle.sl_grammar.specs.Rules.{Readers}
use Rattle.sl_grammar.specs.Brackets.{read_group}
use Rattle.sl_tree.specs.Sorts.{Spelled, spelled, sort, left_parenthesis, right_parenthesis, comma, dot, colon, if_word, else_word, contract_name}
use Rattle.sl_tree.specs.WellShaped.{names, join, stmt, same_bracket, bracket_of, Round}
use Rattle.sl_tree.specs.declared.tree.TypeTerm.{TypeTerm}
use Rattle.sl_tree.specs.declared.tree.Pattern.{Pattern}
use Rattle.sl_tree.specs.declared.tree.Expr.{Expr}
use Rattle.sl_tree.specs.declared.tree.Field.{Field}
use Rattle.sl_tree.specs.declared.tree.Case.{Case}
use Rattle.sl_tree.specs.declared.tree.Stmt.{Stmt}
use Rattle.sl_tree.specs.declared.tree.StmtKind.TheVariants as stmt_kind
use Rattle.sl_tree.specs.declared.tree.Else.{Else}
use Rattle.sl_parse_expr.specs.declared.tokens.Stop.{Stop}
use Rattle.sl_parse_expr.specs.declared.tokens.Stop.TheVariants as stop
use Rattle.sl_parse_expr.specs.Names.{Path, Type_term, Expression, Pattern_of, Block, Else_tail, At, at, Levels, deeper, fits, rule_at, listed, head_form, field_form}
use Rattle.sl_parse_expr.specs.Values.{Tall, T_of, PathParts, TypesParts, HeadParts, FieldParts, field_from, MatchedParts, BlockParts, IfHeadParts, ElseParts, Listed, firsts, deepest, listing, path_texts, path_span, ascribed, ascribed_levels, class_parts, if_from, cases_in, last_in, guard_from, guard_levels, else_from, else_levels, else_span, span_of, skip_from}
use Rattle.sl_parse_expr.specs.Grammar.{grammar, room, read}

-- the tokens of a file from an index on, with their bytes
unfoldable pub behind : List ℕ → List TokenOf → ℕ → List Spelled
behind bytes tokens at = map (spelled bytes) (drop at tokens)

-- the sort of the first token, or a number that is none
abbrev pub head_sort : List Spelled → ℕ
head_sort [] = 99
head_sort (k ∷ ks) = sort k

-- what was found of one token
abbrev pub TellsToken : List ℕ → List TokenOf → ℕ → Found Spelled Spelled → Result TokenOf Stop → Type 0
TellsToken bytes tokens at f (Ok token) = f ≡ Done (spelled bytes token) (behind bytes tokens (suc at))
TellsToken bytes tokens at f (Err (stop.At i)) = f ≡ Stopped (behind bytes tokens i)
TellsToken bytes tokens at f (Err stop.Mem) = Unit {0}

-- what was found, in two parts
abbrev pub Tells : {X Y : Type 0} → List ℕ → List TokenOf → Found Spelled (X × Y) → Result (X × Y × ℕ) Stop → Type 0
Tells bytes tokens f (Ok (x, y, next)) = f ≡ Done (x, y) (behind bytes tokens next)
Tells bytes tokens f (Err (stop.At i)) = f ≡ Stopped (behind bytes tokens i)
Tells bytes tokens f (Err stop.Mem) = Unit {0}

-- in three parts
abbrev pub TellsThree : {X Y Z : Type 0} → List ℕ → List TokenOf → Found Spelled (X × (Y × Z)) → Result (X × Y × Z × ℕ) Stop → Type 0
TellsThree bytes tokens f (Ok (x, y, z, next)) = f ≡ Done (x, (y, z)) (behind bytes tokens next)
TellsThree bytes tokens f (Err (stop.At i)) = f ≡ Stopped (behind bytes tokens i)
TellsThree bytes tokens f (Err stop.Mem) = Unit {0}

-- what was read lies behind one index, up to another, and has fewer levels than twice its tokens
abbrev pub Lies : ℕ → ℕ → ℕ → ℕ → Type 0
Lies at len levels next = (at < next) × (next ≤ len) × (levels + 2 * at < 2 * next)

-- the same, where it may have as many levels as twice its tokens, as a statement may
abbrev pub Stands : ℕ → ℕ → ℕ → ℕ → Type 0
Stands at len levels next = (at < next) × (next ≤ len) × (levels + 2 * at ≤ 2 * next)

-- what was read behind an index goes on a phrase of so many levels that was read before it
abbrev pub Continues : ℕ → ℕ → ℕ → ℕ → ℕ → Type 0
Continues at len before levels next = (at ≤ next) × (next ≤ len) × (levels ≤ 1 + max before (2 * (next - at)))

-- what the forms of the rules read
abbrev pub reader : Readers Spelled T_of
reader i ts = read i.room i.name ts

unfoldable pub reads : (g : Form At) → List Spelled → Found Spelled (Val sort T_of g)
reads g ts = read_form sort T_of room grammar.sets g reader reader ts

-- a token of which only the span counts
abbrev pub spanned : Span → Spelled
spanned span = record { kind = kind.Separator; text = []; span = span }

-- forms and what is told of their parts

abbrev pub path_form : Form At
path_form = rule_at Path None

abbrev pub path_view : PathParts → List (List ℕ) × Span
path_view v = (path_texts v, path_span v)

-- a path with one more name
abbrev pub name_form : Form At
name_form = Then (Token (dot ∷ [])) (Token names)

abbrev pub with_name : List (List ℕ) × Span → Spelled × Spelled → List (List ℕ) × Span
with_name p x = (p.0 ++ x.1.text ∷ [], join p.1 x.1.span)

unfoldable pub path_from : List (List ℕ) × Span → List Spelled → Found Spelled (List (List ℕ) × Span)
path_from p ts = grown (is sort (dot ∷ [])) (λ p. true) (reads name_form) with_name p ts

abbrev pub types_view : TypesParts → List TypeTerm × (ℕ × Span)
types_view v = (firsts (listing v.1.0), (deepest (listing v.1.0), v.1.1.span))

abbrev pub ascribed_form : Levels → Form At
ascribed_form r = Either (Then (Token (colon ∷ [])) (Ref (at Type_term r))) Nothing

abbrev pub ascribed_view : (Spelled × Tall TypeTerm) ⊎ Unit {0} → Option TypeTerm × ℕ
ascribed_view v = (ascribed v, ascribed_levels v)

abbrev pub any_form : Levels → Form At
any_form r = Room (fits r) (Then (Token (colon ∷ [])) (Ref (at Type_term (deeper r)))) Nothing

abbrev pub class_form : Levels → Form At
class_form r = Then (Token (left_parenthesis ∷ [])) (Then (Room (fits r) (listed Pattern_of (deeper r)) Nothing) (Token (right_parenthesis ∷ [])))

abbrev pub class_view : Spelled × ((Listed Pattern ⊎ Unit {0}) × Spelled) → List Pattern × (ℕ × Span)
class_view v = (firsts (class_parts v.1.0), (deepest (class_parts v.1.0), v.1.1.span))

abbrev pub if_form : Levels → Form At
if_form r =
    Then (Token (if_word ∷ [])) (Then (head_form (deeper r)) (Then (Ref (at Expression (deeper r))) (Then (Token (else_word ∷ [])) (Ref (at Expression (deeper r))))))

abbrev pub if_view : Spelled × (HeadParts × (Tall Expr × (Spelled × Tall Expr))) → Tall Expr
if_view (i, ((p, (x, q)), (y, (s, z)))) = if_from i x y z

abbrev pub head_view : HeadParts → Tall Expr
head_view v = v.1.0

abbrev pub values_form : Levels → Form At
values_form r = Then (Many (Then (Token (comma ∷ [])) (Ref (at Expression r)))) (Token (right_parenthesis ∷ []))

abbrev pub named_form : Levels → Form At
named_form r = Then (Token names) (field_form r)

abbrev pub more_fields_form : Levels → Form At
more_fields_form r = Then (Many (Then (Token (comma ∷ [])) (named_form r))) (Token (right_parenthesis ∷ []))

abbrev pub fields_form : Levels → Form At
fields_form r = Then (field_form r) (more_fields_form r)

abbrev pub field_view : Spelled × FieldParts → Field × ℕ
field_view (k, v) = (field_from k v, v.1.1)

abbrev pub cases_view : MatchedParts → List Case × (ℕ × Span)
cases_view v = (firsts (cases_in v), (deepest (cases_in v), (last_in v).span))

abbrev pub guard_form : Levels → Form At
guard_form r = Either (Then (Token (if_word ∷ [])) (Ref (at Expression r))) Nothing

abbrev pub guard_view : (Spelled × Tall Expr) ⊎ Unit {0} → Option Expr × ℕ
guard_view v = (guard_from v, guard_levels v)

abbrev pub block_view : BlockParts → List Stmt × (ℕ × Span)
block_view (p, (x, q)) = (x.0, (x.1, q.span))

abbrev pub blocks_form : Levels → Form At
blocks_form r = Then (Ref (at Block (deeper r))) (Ref (at Else_tail r))

-- the head of an `if`, of which only the span of its first token and its condition count
abbrev pub head_of : Span → Tall Expr → IfHeadParts
head_of span x = (spanned span, (spanned span, (x, spanned span)))

abbrev pub else_view : Span → ElseParts → Else × (ℕ × Span)
else_view close v = (else_from v, (else_levels v, else_span (spanned close) v))

-- what may be assigned to an expression that begins a statement
abbrev pub assigned_form : Levels → Form At
assigned_form r = Either (field_form (deeper r)) Nothing

abbrev pub assigned_to : Tall Expr → FieldParts ⊎ Unit {0} → Tall Stmt
assigned_to x (inl (s, e)) = (stmt (stmt_kind.Assign x.0 e.0) (join (span_of x.0) (span_of e.0)), suc (max x.1 e.1))
assigned_to x (inr none) = (stmt (stmt_kind.Call x.0) (span_of x.0), suc x.1)

-- a statement that is skipped
abbrev pub read_skip : List Spelled → Found Spelled (Spelled × List Spelled)
read_skip ts = read_both (read_token (is sort (contract_name ∷ []))) (read_group same_bracket bracket_of Round) ts

abbrev pub skip_view : Spelled × List Spelled → Tall Stmt
skip_view v = skip_from v.0 v.1
