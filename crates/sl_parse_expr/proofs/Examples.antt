-- Phrases that are read, by computation: examples that hold the grammar in place. All spans are at the beginning of a file.
use Rattle.std.proofs.Common.{◌≡◌, ℕ, List, [], ◌∷◌, refl}
use Rattle.std.specs.Prelude.{codes, map, true, false, Some, None}
use Rattle.sl_text.specs.declared.place.Span.{Span}
use Rattle.sl_text.specs.declared.token.Kind.TheVariants as kind
use Rattle.sl_grammar.specs.Phrase.{Found, Done, Stopped}
use Rattle.sl_tree.specs.Sorts.{Spelled, made, lexeme, sort_of, sort_of_mark, sort_of_word, sort_of_name, sort_of_operator, sort_of_prefixed, sort_of_separator}
use Rattle.sl_tree.specs.WellShaped.{expr, stmt, type_term, pattern, field, case_of, is_name, bracket_of}
use Rattle.sl_tree.specs.declared.tree.Expr.{Expr}
use Rattle.sl_tree.specs.declared.tree.ExprKind.{ExprKind, out-ExprKind}
use Rattle.sl_tree.specs.declared.tree.ExprKind.TheVariants as expr_kind
use Rattle.sl_tree.specs.declared.tree.Stmt.{Stmt}
use Rattle.sl_tree.specs.declared.tree.StmtKind.{StmtKind}
use Rattle.sl_tree.specs.declared.tree.StmtKind.TheVariants as stmt_kind
use Rattle.sl_tree.specs.declared.tree.PatternKind.TheVariants as pattern_kind
use Rattle.sl_tree.specs.declared.tree.Else.TheVariants as else_kind
use Rattle.sl_parse_expr.specs.Names.{Expression, Statement}
use Rattle.sl_parse_expr.specs.Values.{token_expr, minus_to, name_text, bind_from}
use Rattle.sl_parse_expr.specs.Grammar.{read}

-- tokens
abbrev id : List ℕ → Spelled
id text = made kind.Ident text

abbrev word : List ℕ → Spelled
word text = made kind.Word text

abbrev mark : List ℕ → Spelled
mark text = made kind.Mark text

abbrev operator : List ℕ → Spelled
operator text = made kind.Operator text

abbrev number : List ℕ → Spelled
number text = made kind.Number text

abbrev end : Spelled
end = made kind.Separator []

-- trees
abbrev nowhere : Span
nowhere = record { file = 0; from = 0; to = 0 }

abbrev tree : ExprKind → Expr
tree kind = expr kind nowhere

abbrev name : List ℕ → Expr
name text = tree (expr_kind.Name text)

abbrev one : List ℕ → Expr
one text = tree (expr_kind.Literal false (lexeme (number text)))

abbrev a : Expr
a = name (codes "a")

abbrev b : Expr
b = name (codes "b")

abbrev c : Expr
c = name (codes "c")

abbrev line : StmtKind → Stmt
line kind = stmt kind nowhere

abbrev Reads : List Spelled → Found Spelled (Expr × ℕ) → Type 0
Reads ts found = read None Expression ts ≡ found

abbrev ReadsStatement : List Spelled → Found Spelled (Stmt × ℕ) → Type 0
ReadsStatement ts found = read None Statement ts ≡ found

-- a + b * c
higher : Reads (id (codes "a") ∷ operator (codes "+") ∷ id (codes "b") ∷ operator (codes "*") ∷ id (codes "c") ∷ []) (Done ((tree (expr_kind.Infix a (codes "+") (tree (expr_kind.Infix b (codes "*") c)))), 3) [])
unfolding read sort_of sort_of_mark sort_of_word sort_of_name sort_of_operator sort_of_prefixed sort_of_separator bracket_of is_name name_text expr stmt type_term pattern field case_of token_expr minus_to bind_from out-ExprKind denote.Hole.Carrier.out
higher = refl

-- a * b + c
lower : Reads (id (codes "a") ∷ operator (codes "*") ∷ id (codes "b") ∷ operator (codes "+") ∷ id (codes "c") ∷ []) (Done ((tree (expr_kind.Infix (tree (expr_kind.Infix a (codes "*") b)) (codes "+") c)), 3) [])
unfolding read sort_of sort_of_mark sort_of_word sort_of_name sort_of_operator sort_of_prefixed sort_of_separator bracket_of is_name name_text expr stmt type_term pattern field case_of token_expr minus_to bind_from out-ExprKind denote.Hole.Carrier.out
lower = refl

-- a - b - c
left : Reads (id (codes "a") ∷ operator (codes "-") ∷ id (codes "b") ∷ operator (codes "-") ∷ id (codes "c") ∷ []) (Done ((tree (expr_kind.Infix (tree (expr_kind.Infix a (codes "-") b)) (codes "-") c)), 3) [])
unfolding read sort_of sort_of_mark sort_of_word sort_of_name sort_of_operator sort_of_prefixed sort_of_separator bracket_of is_name name_text expr stmt type_term pattern field case_of token_expr minus_to bind_from out-ExprKind denote.Hole.Carrier.out
left = refl

-- a :+ b + c
appended : Reads (id (codes "a") ∷ operator (codes ":+") ∷ id (codes "b") ∷ operator (codes "+") ∷ id (codes "c") ∷ []) (Done ((tree (expr_kind.Infix a (codes ":+") (tree (expr_kind.Infix b (codes "+") c)))), 3) [])
unfolding read sort_of sort_of_mark sort_of_word sort_of_name sort_of_operator sort_of_prefixed sort_of_separator bracket_of is_name name_text expr stmt type_term pattern field case_of token_expr minus_to bind_from out-ExprKind denote.Hole.Carrier.out
appended = refl

-- a < b == c
compared : Reads (id (codes "a") ∷ operator (codes "<") ∷ id (codes "b") ∷ operator (codes "==") ∷ id (codes "c") ∷ []) (Done ((tree (expr_kind.Infix (tree (expr_kind.Infix a (codes "<") b)) (codes "==") c)), 3) [])
unfolding read sort_of sort_of_mark sort_of_word sort_of_name sort_of_operator sort_of_prefixed sort_of_separator bracket_of is_name name_text expr stmt type_term pattern field case_of token_expr minus_to bind_from out-ExprKind denote.Hole.Carrier.out
compared = refl

-- a | b && c
either : Reads (id (codes "a") ∷ operator (codes "|") ∷ id (codes "b") ∷ operator (codes "&&") ∷ id (codes "c") ∷ []) (Done ((tree (expr_kind.Infix a (codes "|") (tree (expr_kind.Infix b (codes "&&") c)))), 3) [])
unfolding read sort_of sort_of_mark sort_of_word sort_of_name sort_of_operator sort_of_prefixed sort_of_separator bracket_of is_name name_text expr stmt type_term pattern field case_of token_expr minus_to bind_from out-ExprKind denote.Hole.Carrier.out
either = refl

-- -1
negative : Reads (operator (codes "-") ∷ number (codes "1") ∷ []) (Done ((tree (expr_kind.Literal true (lexeme (number (codes "1"))))), 1) [])
unfolding read sort_of sort_of_mark sort_of_word sort_of_name sort_of_operator sort_of_prefixed sort_of_separator bracket_of is_name name_text expr stmt type_term pattern field case_of token_expr minus_to bind_from out-ExprKind denote.Hole.Carrier.out
negative = refl

-- -a
negated : Reads (operator (codes "-") ∷ id (codes "a") ∷ []) (Done (tree (expr_kind.Prefix (codes "-") a), 2) [])
unfolding read sort_of sort_of_mark sort_of_word sort_of_name sort_of_operator sort_of_prefixed sort_of_separator bracket_of is_name name_text expr stmt type_term pattern field case_of token_expr minus_to bind_from out-ExprKind denote.Hole.Carrier.out
negated = refl

-- -1.b: a prefix before a selection
negative_selected : Reads (operator (codes "-") ∷ number (codes "1") ∷ mark (codes ".") ∷ id (codes "b") ∷ []) (Done (tree (expr_kind.Prefix (codes "-") (tree (expr_kind.Select (one (codes "1")) (codes "b")))), 3) [])
unfolding read sort_of sort_of_mark sort_of_word sort_of_name sort_of_operator sort_of_prefixed sort_of_separator bracket_of is_name name_text expr stmt type_term pattern field case_of token_expr minus_to bind_from out-ExprKind denote.Hole.Carrier.out
negative_selected = refl

-- - -a: one prefix alone
prefixes : Reads (operator (codes "-") ∷ operator (codes "-") ∷ id (codes "a") ∷ []) (Stopped (operator (codes "-") ∷ id (codes "a") ∷ []))
unfolding read sort_of sort_of_mark sort_of_word sort_of_name sort_of_operator sort_of_prefixed sort_of_separator bracket_of is_name name_text expr stmt type_term pattern field case_of token_expr minus_to bind_from out-ExprKind denote.Hole.Carrier.out
prefixes = refl

-- a - -1
subtracted : Reads (id (codes "a") ∷ operator (codes "-") ∷ operator (codes "-") ∷ number (codes "1") ∷ []) (Done ((tree (expr_kind.Infix a (codes "-") (tree (expr_kind.Literal true (lexeme (number (codes "1"))))))), 2) [])
unfolding read sort_of sort_of_mark sort_of_word sort_of_name sort_of_operator sort_of_prefixed sort_of_separator bracket_of is_name name_text expr stmt type_term pattern field case_of token_expr minus_to bind_from out-ExprKind denote.Hole.Carrier.out
subtracted = refl

-- (a)
in_parentheses : Reads (mark (codes "(") ∷ id (codes "a") ∷ mark (codes ")") ∷ []) (Done (tree (expr_kind.Paren a), 2) [])
unfolding read sort_of sort_of_mark sort_of_word sort_of_name sort_of_operator sort_of_prefixed sort_of_separator bracket_of is_name name_text expr stmt type_term pattern field case_of token_expr minus_to bind_from out-ExprKind denote.Hole.Carrier.out
in_parentheses = refl

-- a.b(c)
selected : Reads (id (codes "a") ∷ mark (codes ".") ∷ id (codes "b") ∷ mark (codes "(") ∷ id (codes "c") ∷ mark (codes ")") ∷ []) (Done (tree (expr_kind.Apply (tree (expr_kind.Select a (codes "b"))) (c ∷ [])), 3) [])
unfolding read sort_of sort_of_mark sort_of_word sort_of_name sort_of_operator sort_of_prefixed sort_of_separator bracket_of is_name name_text expr stmt type_term pattern field case_of token_expr minus_to bind_from out-ExprKind denote.Hole.Carrier.out
selected = refl

-- a()
applied_to_none : Reads (id (codes "a") ∷ mark (codes "(") ∷ mark (codes ")") ∷ []) (Done (tree (expr_kind.Apply a []), 2) [])
unfolding read sort_of sort_of_mark sort_of_word sort_of_name sort_of_operator sort_of_prefixed sort_of_separator bracket_of is_name name_text expr stmt type_term pattern field case_of token_expr minus_to bind_from out-ExprKind denote.Hole.Carrier.out
applied_to_none = refl

-- a[b]
given : Reads (id (codes "a") ∷ mark (codes "[") ∷ id (codes "b") ∷ mark (codes "]") ∷ []) (Done (tree (expr_kind.Given a (type_term (codes "b" ∷ []) [] nowhere ∷ [])), 2) [])
unfolding read sort_of sort_of_mark sort_of_word sort_of_name sort_of_operator sort_of_prefixed sort_of_separator bracket_of is_name name_text expr stmt type_term pattern field case_of token_expr minus_to bind_from out-ExprKind denote.Hole.Carrier.out
given = refl

-- a(b = c)
updated : Reads (id (codes "a") ∷ mark (codes "(") ∷ id (codes "b") ∷ mark (codes "=") ∷ id (codes "c") ∷ mark (codes ")") ∷ []) (Done (tree (expr_kind.Update a (field (codes "b") c ∷ [])), 2) [])
unfolding read sort_of sort_of_mark sort_of_word sort_of_name sort_of_operator sort_of_prefixed sort_of_separator bracket_of is_name name_text expr stmt type_term pattern field case_of token_expr minus_to bind_from out-ExprKind denote.Hole.Carrier.out
updated = refl

-- a(b = c, c): the first element fixes the form
mixed : Reads (id (codes "a") ∷ mark (codes "(") ∷ id (codes "b") ∷ mark (codes "=") ∷ id (codes "c") ∷ mark (codes ",") ∷ id (codes "c") ∷ mark (codes ")") ∷ []) (Stopped (mark (codes ")") ∷ []))
unfolding read sort_of sort_of_mark sort_of_word sort_of_name sort_of_operator sort_of_prefixed sort_of_separator bracket_of is_name name_text expr stmt type_term pattern field case_of token_expr minus_to bind_from out-ExprKind denote.Hole.Carrier.out
mixed = refl

-- a(b,)
trailing_comma : Reads (id (codes "a") ∷ mark (codes "(") ∷ id (codes "b") ∷ mark (codes ",") ∷ mark (codes ")") ∷ []) (Stopped (mark (codes ")") ∷ []))
unfolding read sort_of sort_of_mark sort_of_word sort_of_name sort_of_operator sort_of_prefixed sort_of_separator bracket_of is_name name_text expr stmt type_term pattern field case_of token_expr minus_to bind_from out-ExprKind denote.Hole.Carrier.out
trailing_comma = refl

-- a +
unended : Reads (id (codes "a") ∷ operator (codes "+") ∷ []) (Stopped [])
unfolding read sort_of sort_of_mark sort_of_word sort_of_name sort_of_operator sort_of_prefixed sort_of_separator bracket_of is_name name_text expr stmt type_term pattern field case_of token_expr minus_to bind_from out-ExprKind denote.Hole.Carrier.out
unended = refl

-- a b
what_follows : Reads (id (codes "a") ∷ id (codes "b") ∷ []) (Done (a, 1) (id (codes "b") ∷ []))
unfolding read sort_of sort_of_mark sort_of_word sort_of_name sort_of_operator sort_of_prefixed sort_of_separator bracket_of is_name name_text expr stmt type_term pattern field case_of token_expr minus_to bind_from out-ExprKind denote.Hole.Carrier.out
what_follows = refl

-- if (a) b else c + a
conditional : Reads (word (codes "if") ∷ mark (codes "(") ∷ id (codes "a") ∷ mark (codes ")") ∷ id (codes "b") ∷ word (codes "else") ∷ id (codes "c") ∷ operator (codes "+") ∷ id (codes "a") ∷ []) (Done (tree (expr_kind.If a b (tree (expr_kind.Infix c (codes "+") a))), 3) [])
unfolding read sort_of sort_of_mark sort_of_word sort_of_name sort_of_operator sort_of_prefixed sort_of_separator bracket_of is_name name_text expr stmt type_term pattern field case_of token_expr minus_to bind_from out-ExprKind denote.Hole.Carrier.out
conditional = refl

-- a match { case b => c }
matched : Reads (id (codes "a") ∷ word (codes "match") ∷ mark (codes "{") ∷ word (codes "case") ∷ id (codes "b") ∷ mark (codes "=>") ∷ id (codes "c") ∷ mark (codes "}") ∷ []) (Done (tree (expr_kind.Match a (case_of (pattern (pattern_kind.Bind (codes "b") None) nowhere) None (line (stmt_kind.Call c) ∷ []) ∷ [])), 3) [])
unfolding read sort_of sort_of_mark sort_of_word sort_of_name sort_of_operator sort_of_prefixed sort_of_separator bracket_of is_name name_text expr stmt type_term pattern field case_of token_expr minus_to bind_from out-ExprKind denote.Hole.Carrier.out
matched = refl

-- a match { case _ => } match: an expression matches once
matched_twice : Reads (id (codes "a") ∷ word (codes "match") ∷ mark (codes "{") ∷ word (codes "case") ∷ mark (codes "_") ∷ mark (codes "=>") ∷ mark (codes "}") ∷ word (codes "match") ∷ []) (Done (tree (expr_kind.Match a (case_of (pattern (pattern_kind.Any None) nowhere) None [] ∷ [])), 2) (word (codes "match") ∷ []))
unfolding read sort_of sort_of_mark sort_of_word sort_of_name sort_of_operator sort_of_prefixed sort_of_separator bracket_of is_name name_text expr stmt type_term pattern field case_of token_expr minus_to bind_from out-ExprKind denote.Hole.Carrier.out
matched_twice = refl

-- a match { case T => b }: one node, the statement; T is a literal
match_statement : ReadsStatement (id (codes "a") ∷ word (codes "match") ∷ mark (codes "{") ∷ word (codes "case") ∷ id (codes "T") ∷ mark (codes "=>") ∷ id (codes "b") ∷ mark (codes "}") ∷ []) (Done (line (stmt_kind.Match a (case_of (pattern (pattern_kind.Literal false (lexeme (id (codes "T")))) nowhere) None (line (stmt_kind.Call b) ∷ []) ∷ [])), 3) [])
unfolding read sort_of sort_of_mark sort_of_word sort_of_name sort_of_operator sort_of_prefixed sort_of_separator bracket_of is_name name_text expr stmt type_term pattern field case_of token_expr minus_to bind_from out-ExprKind denote.Hole.Carrier.out
match_statement = refl

-- (a match { case _ => }): an expression
match_in_parentheses : ReadsStatement (mark (codes "(") ∷ id (codes "a") ∷ word (codes "match") ∷ mark (codes "{") ∷ word (codes "case") ∷ mark (codes "_") ∷ mark (codes "=>") ∷ mark (codes "}") ∷ mark (codes ")") ∷ []) (Done (line (stmt_kind.Call (tree (expr_kind.Paren (tree (expr_kind.Match a (case_of (pattern (pattern_kind.Any None) nowhere) None [] ∷ [])))))), 4) [])
unfolding read sort_of sort_of_mark sort_of_word sort_of_name sort_of_operator sort_of_prefixed sort_of_separator bracket_of is_name name_text expr stmt type_term pattern field case_of token_expr minus_to bind_from out-ExprKind denote.Hole.Carrier.out
match_in_parentheses = refl

-- a match { case _ => } = b: an assignment
match_assigned : ReadsStatement (id (codes "a") ∷ word (codes "match") ∷ mark (codes "{") ∷ word (codes "case") ∷ mark (codes "_") ∷ mark (codes "=>") ∷ mark (codes "}") ∷ mark (codes "=") ∷ id (codes "b") ∷ []) (Done (line (stmt_kind.Assign (tree (expr_kind.Match a (case_of (pattern (pattern_kind.Any None) nowhere) None [] ∷ []))) b), 3) [])
unfolding read sort_of sort_of_mark sort_of_word sort_of_name sort_of_operator sort_of_prefixed sort_of_separator bracket_of is_name name_text expr stmt type_term pattern field case_of token_expr minus_to bind_from out-ExprKind denote.Hole.Carrier.out
match_assigned = refl

-- if (a) {} else if (b) {}: one level deeper
else_if : ReadsStatement (word (codes "if") ∷ mark (codes "(") ∷ id (codes "a") ∷ mark (codes ")") ∷ mark (codes "{") ∷ mark (codes "}") ∷ word (codes "else") ∷ word (codes "if") ∷ mark (codes "(") ∷ id (codes "b") ∷ mark (codes ")") ∷ mark (codes "{") ∷ mark (codes "}") ∷ []) (Done (line (stmt_kind.If a [] (else_kind.If (line (stmt_kind.If b [] else_kind.Nothing)))), 3) [])
unfolding read sort_of sort_of_mark sort_of_word sort_of_name sort_of_operator sort_of_prefixed sort_of_separator bracket_of is_name name_text expr stmt type_term pattern field case_of token_expr minus_to bind_from out-ExprKind denote.Hole.Carrier.out
else_if = refl

-- if (a) b else c = a: an assignment
if_assigned : ReadsStatement (word (codes "if") ∷ mark (codes "(") ∷ id (codes "a") ∷ mark (codes ")") ∷ id (codes "b") ∷ word (codes "else") ∷ id (codes "c") ∷ mark (codes "=") ∷ id (codes "a") ∷ []) (Done (line (stmt_kind.Assign (tree (expr_kind.If a b c)) a), 3) [])
unfolding read sort_of sort_of_mark sort_of_word sort_of_name sort_of_operator sort_of_prefixed sort_of_separator bracket_of is_name name_text expr stmt type_term pattern field case_of token_expr minus_to bind_from out-ExprKind denote.Hole.Carrier.out
if_assigned = refl

-- if (a) {} else b: a block or an if
else_of_a_block : ReadsStatement (word (codes "if") ∷ mark (codes "(") ∷ id (codes "a") ∷ mark (codes ")") ∷ mark (codes "{") ∷ mark (codes "}") ∷ word (codes "else") ∷ id (codes "b") ∷ []) (Stopped (id (codes "b") ∷ []))
unfolding read sort_of sort_of_mark sort_of_word sort_of_name sort_of_operator sort_of_prefixed sort_of_separator bracket_of is_name name_text expr stmt type_term pattern field case_of token_expr minus_to bind_from out-ExprKind denote.Hole.Carrier.out
else_of_a_block = refl

-- Contract(a + [b])
contract : ReadsStatement (id (codes "Contract") ∷ mark (codes "(") ∷ id (codes "a") ∷ operator (codes "+") ∷ mark (codes "[") ∷ id (codes "b") ∷ mark (codes "]") ∷ mark (codes ")") ∷ []) (Done (line (stmt_kind.Skip (map lexeme (id (codes "Contract") ∷ mark (codes "(") ∷ id (codes "a") ∷ operator (codes "+") ∷ mark (codes "[") ∷ id (codes "b") ∷ mark (codes "]") ∷ mark (codes ")") ∷ []))), 1) [])
unfolding read sort_of sort_of_mark sort_of_word sort_of_name sort_of_operator sort_of_prefixed sort_of_separator bracket_of is_name name_text expr stmt type_term pattern field case_of token_expr minus_to bind_from out-ExprKind denote.Hole.Carrier.out
contract = refl

-- Contract + a: a name
contract_name : ReadsStatement (id (codes "Contract") ∷ operator (codes "+") ∷ id (codes "a") ∷ []) (Done (line (stmt_kind.Call (tree (expr_kind.Infix (name (codes "Contract")) (codes "+") a))), 3) [])
unfolding read sort_of sort_of_mark sort_of_word sort_of_name sort_of_operator sort_of_prefixed sort_of_separator bracket_of is_name name_text expr stmt type_term pattern field case_of token_expr minus_to bind_from out-ExprKind denote.Hole.Carrier.out
contract_name = refl

-- Contract(a]
contract_unbalanced : ReadsStatement (id (codes "Contract") ∷ mark (codes "(") ∷ id (codes "a") ∷ mark (codes "]") ∷ []) (Stopped (mark (codes "]") ∷ []))
unfolding read sort_of sort_of_mark sort_of_word sort_of_name sort_of_operator sort_of_prefixed sort_of_separator bracket_of is_name name_text expr stmt type_term pattern field case_of token_expr minus_to bind_from out-ExprKind denote.Hole.Carrier.out
contract_unbalanced = refl

-- l"" and nothing else
prefixed_l : ReadsStatement (made kind.Prefixed (codes "l\"\"") ∷ operator (codes "+") ∷ id (codes "a") ∷ []) (Done (line (stmt_kind.Skip (lexeme (made kind.Prefixed (codes "l\"\"")) ∷ [])), 1) (operator (codes "+") ∷ id (codes "a") ∷ []))
unfolding read sort_of sort_of_mark sort_of_word sort_of_name sort_of_operator sort_of_prefixed sort_of_separator bracket_of is_name name_text expr stmt type_term pattern field case_of token_expr minus_to bind_from out-ExprKind denote.Hole.Carrier.out
prefixed_l = refl

-- for (a <- b until c) {}
counted : ReadsStatement (word (codes "for") ∷ mark (codes "(") ∷ id (codes "a") ∷ mark (codes "<-") ∷ id (codes "b") ∷ id (codes "until") ∷ id (codes "c") ∷ mark (codes ")") ∷ mark (codes "{") ∷ mark (codes "}") ∷ []) (Done (line (stmt_kind.For (codes "a") b false c []), 2) [])
unfolding read sort_of sort_of_mark sort_of_word sort_of_name sort_of_operator sort_of_prefixed sort_of_separator bracket_of is_name name_text expr stmt type_term pattern field case_of token_expr minus_to bind_from out-ExprKind denote.Hole.Carrier.out
counted = refl

-- var a: b = c
declared : ReadsStatement (word (codes "var") ∷ id (codes "a") ∷ mark (codes ":") ∷ id (codes "b") ∷ mark (codes "=") ∷ id (codes "c") ∷ []) (Done (line (stmt_kind.Let true (codes "a") (Some (type_term (codes "b" ∷ []) [] nowhere)) c), 2) [])
unfolding read sort_of sort_of_mark sort_of_word sort_of_name sort_of_operator sort_of_prefixed sort_of_separator bracket_of is_name name_text expr stmt type_term pattern field case_of token_expr minus_to bind_from out-ExprKind denote.Hole.Carrier.out
declared = refl

-- return, before a Separator
returned : ReadsStatement (word (codes "return") ∷ end ∷ []) (Done (line (stmt_kind.Return None), 1) (end ∷ []))
unfolding read sort_of sort_of_mark sort_of_word sort_of_name sort_of_operator sort_of_prefixed sort_of_separator bracket_of is_name name_text expr stmt type_term pattern field case_of token_expr minus_to bind_from out-ExprKind denote.Hole.Carrier.out
returned = refl

-- within a limit: `(a)` has two levels, and a sum of three names three
room_for_two : read (Some 2) Expression (mark (codes "(") ∷ id (codes "a") ∷ mark (codes ")") ∷ []) ≡ Done (tree (expr_kind.Paren a), 2) []
unfolding read sort_of sort_of_mark sort_of_word sort_of_name sort_of_operator sort_of_prefixed sort_of_separator bracket_of is_name name_text expr stmt type_term pattern field case_of token_expr minus_to bind_from out-ExprKind denote.Hole.Carrier.out
room_for_two = refl

no_room_for_two : read (Some 1) Expression (mark (codes "(") ∷ id (codes "a") ∷ mark (codes ")") ∷ []) ≡ Stopped (mark (codes "(") ∷ id (codes "a") ∷ mark (codes ")") ∷ [])
unfolding read sort_of sort_of_mark sort_of_word sort_of_name sort_of_operator sort_of_prefixed sort_of_separator bracket_of is_name name_text expr stmt type_term pattern field case_of token_expr minus_to bind_from out-ExprKind denote.Hole.Carrier.out
no_room_for_two = refl

no_room_for_three : read (Some 2) Expression (id (codes "a") ∷ operator (codes "+") ∷ id (codes "b") ∷ operator (codes "+") ∷ id (codes "c") ∷ []) ≡ Done ((tree (expr_kind.Infix a (codes "+") b)), 2) (operator (codes "+") ∷ id (codes "c") ∷ [])
unfolding read sort_of sort_of_mark sort_of_word sort_of_name sort_of_operator sort_of_prefixed sort_of_separator bracket_of is_name name_text expr stmt type_term pattern field case_of token_expr minus_to bind_from out-ExprKind denote.Hole.Carrier.out
no_room_for_three = refl

room_for_a_literal : read (Some 1) Expression (operator (codes "-") ∷ number (codes "1") ∷ []) ≡ Done ((tree (expr_kind.Literal true (lexeme (number (codes "1"))))), 1) []
unfolding read sort_of sort_of_mark sort_of_word sort_of_name sort_of_operator sort_of_prefixed sort_of_separator bracket_of is_name name_text expr stmt type_term pattern field case_of token_expr minus_to bind_from out-ExprKind denote.Hole.Carrier.out
room_for_a_literal = refl

no_room_for_a_selection : read (Some 1) Expression (operator (codes "-") ∷ number (codes "1") ∷ mark (codes ".") ∷ id (codes "b") ∷ []) ≡ Done ((tree (expr_kind.Literal true (lexeme (number (codes "1"))))), 1) (mark (codes ".") ∷ id (codes "b") ∷ [])
unfolding read sort_of sort_of_mark sort_of_word sort_of_name sort_of_operator sort_of_prefixed sort_of_separator bracket_of is_name name_text expr stmt type_term pattern field case_of token_expr minus_to bind_from out-ExprKind denote.Hole.Carrier.out
no_room_for_a_selection = refl
