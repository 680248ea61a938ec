-- Which trees are well shaped: `IsExpr level levels tree tokens` says that a tree is one of these tokens, with one constructor for each
-- form of the grammar, and so for the others.
--
-- Precedence and association are told by the level of an expression: 10 for one token and for parentheses; 9 where it ends with a
-- suffix, as `.x`, `[T]` or `(x)`; 8 where it begins with a prefix; 7 to 1 for an infix operator, 7 for `*`; 0 for `if` and `match`. What
-- stands before a suffix or behind a prefix is of level 9 or 10. An infix operator's left side is of its level or a higher one, and its
-- right side of a higher one: so `a - b - c` is `(a - b) - c`.
--
-- `levels` tells how deep a tree nests: how many of its nodes, of statements, expressions, patterns and types, stand one in another at
-- most, itself counted. A list of trees has the levels of the deepest of them, and 0 where it is empty.
--
-- Each node's span is from the beginning of its first token to the end of its last (`cover`).
use Rattle.std.specs.Prelude.{◌≡◌, ℕ, suc, ◌≤◌, ◌<◌, List, [], ◌∷◌, ◌++◌, map, Bool, true, false, ◌==◌, Option, Some, None, max, if◌then◌else◌}
use Rattle.sl_text.specs.declared.place.Span.{Span}
use Rattle.sl_text.specs.declared.token.Kind.{Kind}
use Rattle.sl_text.specs.declared.token.Kind.TheVariants as kind
use Rattle.sl_grammar.specs.Grammar.{has}
use Rattle.sl_grammar.specs.Brackets.{Bracket, Opens, Closes, Plain, spells_group}
use Rattle.sl_tree.specs.Sorts.{Spelled, sort, lexeme, left_parenthesis, right_parenthesis, left_bracket, right_bracket, left_brace, right_brace, comma, dot, underscore, colon, equals, double_arrow, left_arrow, if_word, else_word, match_word, case_word, val_word, var_word, while_word, for_word, return_word, this_word, plain_name, truth_name, until_name, to_name, contract_name, number, quoted, letter, prefixed, prefixed_l, separator, exclamation, tilde, minus, or_operator, and_operator, equal_operator, less_operator, append_operator, plus_operator, times_operator}
use Rattle.sl_tree.specs.declared.tree.TypeTerm.{TypeTerm, roll-TypeTerm}
use Rattle.sl_tree.specs.declared.tree.Pattern.{Pattern, roll-Pattern}
use Rattle.sl_tree.specs.declared.tree.PatternKind.{PatternKind}
use Rattle.sl_tree.specs.declared.tree.PatternKind.TheVariants as pattern_kind
use Rattle.sl_tree.specs.declared.tree.Expr.{Expr, out-Expr, roll-Expr}
use Rattle.sl_tree.specs.declared.tree.ExprKind.{ExprKind, out-ExprKind, ExprKind-F}
use Rattle.sl_tree.specs.declared.tree.ExprKind.TheVariants as expr_kind
use Rattle.sl_tree.specs.declared.tree.Else.TheOpen as opened
use Rattle.sl_tree.specs.declared.tree.Field.{Field, roll-Field}
use Rattle.sl_tree.specs.declared.tree.Case.{Case, roll-Case}
use Rattle.sl_tree.specs.declared.tree.Stmt.{Stmt, roll-Stmt}
use Rattle.sl_tree.specs.declared.tree.StmtKind.{StmtKind}
use Rattle.sl_tree.specs.declared.tree.StmtKind.TheVariants as stmt_kind
use Rattle.sl_tree.specs.declared.tree.Else.{Else}
use Rattle.sl_tree.specs.declared.tree.Else.TheVariants as else_kind

-- a token is of one of some sorts
abbrev pub Is : List ℕ → Spelled → Type 0
Is sorts token = has sorts (sort token) ≡ true

-- identifiers; the tokens that are an expression by themselves; those of them that are a pattern
abbrev pub names : List ℕ
names = plain_name ∷ truth_name ∷ until_name ∷ to_name ∷ contract_name ∷ []

abbrev pub literals : List ℕ
literals = number ∷ quoted ∷ letter ∷ prefixed ∷ prefixed_l ∷ []

-- the operators of a level from 1 to 7
abbrev pub operators : ℕ → List ℕ
operators level =
    if level == 1 then or_operator ∷ []
    else if level == 2 then and_operator ∷ []
    else if level == 3 then equal_operator ∷ []
    else if level == 4 then less_operator ∷ []
    else if level == 5 then append_operator ∷ []
    else if level == 6 then minus ∷ plus_operator ∷ []
    else times_operator ∷ []

-- the span of tokens
abbrev pub join : Span → Span → Span
join first last = record { file = first.file; from = first.from; to = last.to }

abbrev pub last_of : Spelled → List Spelled → Spelled
last_of k [] = k
last_of k (j ∷ js) = last_of j js

unfoldable pub cover : List Spelled → Span
cover [] = record { file = 0; from = 0; to = 0 }
cover (k ∷ ks) = join k.span (last_of k ks).span

-- trees, by their parts

unfoldable pub type_term : List (List ℕ) → List TypeTerm → Span → TypeTerm
type_term path args span = roll-TypeTerm (record { path = path; args = args; span = span })

unfoldable pub pattern : PatternKind → Span → Pattern
pattern kind span = roll-Pattern (record { kind = kind; span = span })

unfoldable pub expr : ExprKind → Span → Expr
expr kind span = roll-Expr (record { kind = kind; span = span })

unfoldable pub stmt : StmtKind → Span → Stmt
stmt kind span = roll-Stmt (record { kind = kind; span = span })

unfoldable pub field : List ℕ → Expr → Field
field name value = roll-Field (record { name = name; value = value })

unfoldable pub case_of : Pattern → Option Expr → List Stmt → Case
case_of pattern guard body = roll-Case (record { pattern = pattern; guard = guard; body = body })

-- whether an expression is a name; whether it is a number; whether it is a match

abbrev pub number_kind : Kind → Bool
number_kind kind.Number = true
number_kind other = false

abbrev pub named_kind : {A B C D E F G : Type 0} → ExprKind-F A B C D E F G → Bool
named_kind (opened.Name name) = true
named_kind other = false

abbrev pub numbered_kind : {A B C D E F G : Type 0} → ExprKind-F A B C D E F G → Bool
numbered_kind (opened.Literal negative token) = if negative then false else number_kind token.kind
numbered_kind other = false

unfoldable pub is_name : Expr → Bool
is_name e = named_kind (out-ExprKind (out-Expr e).kind)

unfoldable pub is_number : Expr → Bool
is_number e = numbered_kind (out-ExprKind (out-Expr e).kind)

-- whether a statement that begins with these tokens is no assignment, match or expression: it begins with a Prefixed whose prefix is
-- `l`, or with `Contract (` or `Invariant (`
abbrev pub skips : List Spelled → Bool
skips [] = false
skips (k ∷ []) = sort k == prefixed_l
skips (k ∷ j ∷ ks) = if sort k == prefixed_l then true else if sort k == contract_name then sort j == left_parenthesis else false

-- brackets: a bracket of one kind is closed by one of the same kind
pub data Bracket_kind : Type 0 where
  Round : Bracket_kind
  Square : Bracket_kind
  Curly : Bracket_kind

abbrev pub same_bracket : Bracket_kind → Bracket_kind → Bool
same_bracket Round Round = true
same_bracket Square Square = true
same_bracket Curly Curly = true
same_bracket a b = false

unfoldable pub bracket_of : Spelled → Bracket Bracket_kind
bracket_of k =
    if sort k == left_parenthesis then Opens Round
    else if sort k == right_parenthesis then Closes Round
    else if sort k == left_bracket then Opens Square
    else if sort k == right_bracket then Closes Square
    else if sort k == left_brace then Opens Curly
    else if sort k == right_brace then Closes Curly
    else Plain

-- names with dots between them
pub data IsPath : List (List ℕ) → List Spelled → Type 0 where
  path_end : {path : List (List ℕ)} {ts : List Spelled} (k : Spelled) → Is names k → ts ≡ k ∷ [] → path ≡ k.text ∷ [] → IsPath path ts
  path_more : {path rest : List (List ℕ)} {ts us : List Spelled} (k d : Spelled)
      → Is names k → Is (dot ∷ []) d → IsPath rest us → ts ≡ k ∷ d ∷ us → path ≡ k.text ∷ rest → IsPath path ts

mutual
  -- a type
  pub data IsType : ℕ → TypeTerm → List Spelled → Type 0 where
    type_plain : {n : ℕ} {t : TypeTerm} {ts : List Spelled} {path : List (List ℕ)}
        → IsPath path ts → t ≡ type_term path [] (cover ts) → n ≡ 1 → IsType n t ts
    type_applied : {n m : ℕ} {t : TypeTerm} {ts p us : List Spelled} {path : List (List ℕ)} {args : List TypeTerm} (k j : Spelled)
        → IsPath path p → Is (left_bracket ∷ []) k → IsTypes m args us → Is (right_bracket ∷ []) j
        → ts ≡ p ++ k ∷ (us ++ j ∷ []) → t ≡ type_term path args (cover ts) → n ≡ suc m → IsType n t ts

  -- types with commas between them, one at least
  pub data IsTypes : ℕ → List TypeTerm → List Spelled → Type 0 where
    types_end : {n : ℕ} {xs : List TypeTerm} {ts : List Spelled} {t : TypeTerm} → IsType n t ts → xs ≡ t ∷ [] → IsTypes n xs ts
    types_more : {n m l : ℕ} {xs rest : List TypeTerm} {ts us vs : List Spelled} {t : TypeTerm} (c : Spelled)
        → IsType m t us → Is (comma ∷ []) c → IsTypes l rest vs → ts ≡ us ++ c ∷ vs → xs ≡ t ∷ rest → n ≡ max m l → IsTypes n xs ts

-- a type, or nothing, behind a colon
pub data IsAscribed : ℕ → Option TypeTerm → List Spelled → Type 0 where
  ascribed_not : {n : ℕ} {o : Option TypeTerm} {ts : List Spelled} → ts ≡ [] → o ≡ None → n ≡ 0 → IsAscribed n o ts
  ascribed_so : {n : ℕ} {o : Option TypeTerm} {ts us : List Spelled} {t : TypeTerm} (c : Spelled)
      → Is (colon ∷ []) c → IsType n t us → ts ≡ c ∷ us → o ≡ Some t → IsAscribed n o ts

mutual
  -- a pattern
  pub data IsPattern : ℕ → Pattern → List Spelled → Type 0 where
    pattern_any : {n m : ℕ} {x : Pattern} {ts us : List Spelled} {o : Option TypeTerm} (k : Spelled)
        → Is (underscore ∷ []) k → IsAscribed m o us → ts ≡ k ∷ us → x ≡ pattern (pattern_kind.Any o) (cover ts) → n ≡ suc m → IsPattern n x ts
    -- `T` and `F` without a type are literals
    pattern_bind : {n : ℕ} {x : Pattern} {ts : List Spelled} (k : Spelled)
        → Is (plain_name ∷ until_name ∷ to_name ∷ contract_name ∷ []) k → ts ≡ k ∷ [] → x ≡ pattern (pattern_kind.Bind k.text None) (cover ts) → n ≡ 1 → IsPattern n x ts
    pattern_typed : {n m : ℕ} {x : Pattern} {ts us : List Spelled} {t : TypeTerm} (k c : Spelled)
        → Is names k → Is (colon ∷ []) c → IsType m t us → ts ≡ k ∷ c ∷ us → x ≡ pattern (pattern_kind.Bind k.text (Some t)) (cover ts) → n ≡ suc m → IsPattern n x ts
    pattern_literal : {n : ℕ} {x : Pattern} {ts : List Spelled} (k : Spelled)
        → Is (truth_name ∷ literals) k → ts ≡ k ∷ [] → x ≡ pattern (pattern_kind.Literal false (lexeme k)) (cover ts) → n ≡ 1 → IsPattern n x ts
    pattern_negative : {n : ℕ} {x : Pattern} {ts : List Spelled} (k j : Spelled)
        → Is (minus ∷ []) k → Is (number ∷ []) j → ts ≡ k ∷ j ∷ [] → x ≡ pattern (pattern_kind.Literal true (lexeme j)) (cover ts) → n ≡ 1 → IsPattern n x ts
    -- a path of two names or more
    pattern_constant : {n : ℕ} {x : Pattern} {ts us : List Spelled} {rest : List (List ℕ)} (k d : Spelled)
        → Is names k → Is (dot ∷ []) d → IsPath rest us → ts ≡ k ∷ d ∷ us → x ≡ pattern (pattern_kind.Constant (k.text ∷ rest)) (cover ts) → n ≡ 1 → IsPattern n x ts
    pattern_class : {n m : ℕ} {x : Pattern} {ts p us : List Spelled} {path : List (List ℕ)} {parts : List Pattern} (k j : Spelled)
        → IsPath path p → Is (left_parenthesis ∷ []) k → IsPatterns m parts us → Is (right_parenthesis ∷ []) j
        → ts ≡ p ++ k ∷ (us ++ j ∷ []) → x ≡ pattern (pattern_kind.Class path parts) (cover ts) → n ≡ suc m → IsPattern n x ts

  -- patterns with commas between them, or none
  pub data IsPatterns : ℕ → List Pattern → List Spelled → Type 0 where
    patterns_none : {n : ℕ} {xs : List Pattern} {ts : List Spelled} → ts ≡ [] → xs ≡ [] → n ≡ 0 → IsPatterns n xs ts
    patterns_some : {n : ℕ} {xs : List Pattern} {ts : List Spelled} → IsSomePatterns n xs ts → IsPatterns n xs ts

  -- one at least
  pub data IsSomePatterns : ℕ → List Pattern → List Spelled → Type 0 where
    patterns_end : {n : ℕ} {xs : List Pattern} {ts : List Spelled} {x : Pattern} → IsPattern n x ts → xs ≡ x ∷ [] → IsSomePatterns n xs ts
    patterns_more : {n m l : ℕ} {xs rest : List Pattern} {ts us vs : List Spelled} {x : Pattern} (c : Spelled)
        → IsPattern m x us → Is (comma ∷ []) c → IsSomePatterns l rest vs → ts ≡ us ++ c ∷ vs → xs ≡ x ∷ rest → n ≡ max m l → IsSomePatterns n xs ts

mutual
  -- an expression: its level, how deep it nests, the tree and its tokens
  pub data IsExpr : ℕ → ℕ → Expr → List Spelled → Type 0 where
    literal : {level n : ℕ} {e : Expr} {ts : List Spelled} (k : Spelled)
        → Is literals k → ts ≡ k ∷ [] → e ≡ expr (expr_kind.Literal false (lexeme k)) (cover ts) → level ≡ 10 → n ≡ 1 → IsExpr level n e ts
    name : {level n : ℕ} {e : Expr} {ts : List Spelled} (k : Spelled)
        → Is names k → ts ≡ k ∷ [] → e ≡ expr (expr_kind.Name k.text) (cover ts) → level ≡ 10 → n ≡ 1 → IsExpr level n e ts
    this : {level n : ℕ} {e : Expr} {ts : List Spelled} (k : Spelled)
        → Is (this_word ∷ []) k → ts ≡ k ∷ [] → e ≡ expr expr_kind.This (cover ts) → level ≡ 10 → n ≡ 1 → IsExpr level n e ts
    paren : {level inner n m : ℕ} {e x : Expr} {ts us : List Spelled} (k j : Spelled)
        → Is (left_parenthesis ∷ []) k → IsExpr inner m x us → Is (right_parenthesis ∷ []) j
        → ts ≡ k ∷ (us ++ j ∷ []) → e ≡ expr (expr_kind.Paren x) (cover ts) → level ≡ 10 → n ≡ suc m → IsExpr level n e ts
    select : {level inner n m : ℕ} {e x : Expr} {ts us : List Spelled} (d k : Spelled)
        → IsExpr inner m x us → 9 ≤ inner → Is (dot ∷ []) d → Is names k
        → ts ≡ us ++ d ∷ k ∷ [] → e ≡ expr (expr_kind.Select x k.text) (cover ts) → level ≡ 9 → n ≡ suc m → IsExpr level n e ts
    given : {level inner n m l : ℕ} {e x : Expr} {ts us vs : List Spelled} {types : List TypeTerm} (k j : Spelled)
        → IsExpr inner m x us → 9 ≤ inner → Is (left_bracket ∷ []) k → IsTypes l types vs → Is (right_bracket ∷ []) j
        → ts ≡ us ++ k ∷ (vs ++ j ∷ []) → e ≡ expr (expr_kind.Given x types) (cover ts) → level ≡ 9 → n ≡ suc (max m l) → IsExpr level n e ts
    apply : {level inner n m l : ℕ} {e x : Expr} {ts us vs : List Spelled} {args : List Expr} (k j : Spelled)
        → IsExpr inner m x us → 9 ≤ inner → Is (left_parenthesis ∷ []) k → IsExprs l args vs → Is (right_parenthesis ∷ []) j
        → ts ≡ us ++ k ∷ (vs ++ j ∷ []) → e ≡ expr (expr_kind.Apply x args) (cover ts) → level ≡ 9 → n ≡ suc (max m l) → IsExpr level n e ts
    update : {level inner n m l : ℕ} {e x : Expr} {ts us vs : List Spelled} {fields : List Field} (k j : Spelled)
        → IsExpr inner m x us → 9 ≤ inner → Is (left_parenthesis ∷ []) k → IsFields l fields vs → Is (right_parenthesis ∷ []) j
        → ts ≡ us ++ k ∷ (vs ++ j ∷ []) → e ≡ expr (expr_kind.Update x fields) (cover ts) → level ≡ 9 → n ≡ suc (max m l) → IsExpr level n e ts
    -- a minus before a number alone is a part of the literal
    negative : {level n : ℕ} {e : Expr} {ts : List Spelled} (k j : Spelled)
        → Is (minus ∷ []) k → Is (number ∷ []) j → ts ≡ k ∷ j ∷ [] → e ≡ expr (expr_kind.Literal true (lexeme j)) (cover ts) → level ≡ 8 → n ≡ 1 → IsExpr level n e ts
    prefix : {level inner n m : ℕ} {e x : Expr} {ts us : List Spelled} (k : Spelled)
        → Is (minus ∷ exclamation ∷ tilde ∷ []) k → IsExpr inner m x us → 9 ≤ inner → (Is (minus ∷ []) k → is_number x ≡ false)
        → ts ≡ k ∷ us → e ≡ expr (expr_kind.Prefix k.text x) (cover ts) → level ≡ 8 → n ≡ suc m → IsExpr level n e ts
    infix_of : {level left right n m l : ℕ} {e x y : Expr} {ts us vs : List Spelled} (k : Spelled)
        → IsExpr left m x us → Is (operators level) k → IsExpr right l y vs → 1 ≤ level → level ≤ 7 → level ≤ left → level < right
        → ts ≡ us ++ k ∷ vs → e ≡ expr (expr_kind.Infix x k.text y) (cover ts) → n ≡ suc (max m l) → IsExpr level n e ts
    if_of : {level n : ℕ} {e : Expr} {ts : List Spelled} → IsIf n e ts → level ≡ 0 → IsExpr level n e ts
    match_of : {level n : ℕ} {e : Expr} {ts : List Spelled} → IsMatch n e ts → level ≡ 0 → IsExpr level n e ts

  -- `if (EXPR) EXPR else EXPR`
  pub data IsIf : ℕ → Expr → List Spelled → Type 0 where
    if_all : {condition yes no n m l o : ℕ} {e x y z : Expr} {ts us vs ws : List Spelled} (i p q s : Spelled)
        → Is (if_word ∷ []) i → Is (left_parenthesis ∷ []) p → IsExpr condition m x us → Is (right_parenthesis ∷ []) q
        → IsExpr yes l y vs → Is (else_word ∷ []) s → IsExpr no o z ws
        → ts ≡ i ∷ p ∷ (us ++ q ∷ (vs ++ s ∷ ws)) → e ≡ expr (expr_kind.If x y z) (cover ts) → n ≡ suc (max m (max l o)) → IsIf n e ts

  -- an operand, infix expressions included, and `match { CASES }`
  pub data IsMatch : ℕ → Expr → List Spelled → Type 0 where
    match_all : {level n m l : ℕ} {e x : Expr} {ts us vs : List Spelled} {cases : List Case}
        → IsExpr level m x us → 1 ≤ level → IsCases l cases vs
        → ts ≡ us ++ vs → e ≡ expr (expr_kind.Match x cases) (cover ts) → n ≡ suc (max m l) → IsMatch n e ts

  -- expressions with commas between them, or none
  pub data IsExprs : ℕ → List Expr → List Spelled → Type 0 where
    exprs_none : {n : ℕ} {xs : List Expr} {ts : List Spelled} → ts ≡ [] → xs ≡ [] → n ≡ 0 → IsExprs n xs ts
    exprs_some : {n : ℕ} {xs : List Expr} {ts : List Spelled} → IsSomeExprs n xs ts → IsExprs n xs ts

  -- one at least
  pub data IsSomeExprs : ℕ → List Expr → List Spelled → Type 0 where
    exprs_end : {level n : ℕ} {xs : List Expr} {ts : List Spelled} {x : Expr} → IsExpr level n x ts → xs ≡ x ∷ [] → IsSomeExprs n xs ts
    exprs_more : {level n m l : ℕ} {xs rest : List Expr} {ts us vs : List Spelled} {x : Expr} (c : Spelled)
        → IsExpr level m x us → Is (comma ∷ []) c → IsSomeExprs l rest vs → ts ≡ us ++ c ∷ vs → xs ≡ x ∷ rest → n ≡ max m l → IsSomeExprs n xs ts

  -- `NAME = EXPR`, with commas between them, one at least
  pub data IsFields : ℕ → List Field → List Spelled → Type 0 where
    fields_end : {level n : ℕ} {xs : List Field} {ts us : List Spelled} {x : Expr} (k s : Spelled)
        → Is names k → Is (equals ∷ []) s → IsExpr level n x us → ts ≡ k ∷ s ∷ us → xs ≡ field k.text x ∷ [] → IsFields n xs ts
    fields_more : {level n m l : ℕ} {xs rest : List Field} {ts us vs : List Spelled} {x : Expr} (k s c : Spelled)
        → Is names k → Is (equals ∷ []) s → IsExpr level m x us → Is (comma ∷ []) c → IsFields l rest vs
        → ts ≡ k ∷ s ∷ (us ++ c ∷ vs) → xs ≡ field k.text x ∷ rest → n ≡ max m l → IsFields n xs ts

  -- `match { CASES }`
  pub data IsCases : ℕ → List Case → List Spelled → Type 0 where
    cases_all : {n : ℕ} {cases : List Case} {ts us : List Spelled} (k p q : Spelled)
        → Is (match_word ∷ []) k → Is (left_brace ∷ []) p → IsSomeCases n cases us → Is (right_brace ∷ []) q → ts ≡ k ∷ p ∷ (us ++ q ∷ []) → IsCases n cases ts

  -- cases, one at least
  pub data IsSomeCases : ℕ → List Case → List Spelled → Type 0 where
    cases_end : {n : ℕ} {cases : List Case} {ts : List Spelled} {c : Case} → IsCase n c ts → cases ≡ c ∷ [] → IsSomeCases n cases ts
    cases_more : {n m l : ℕ} {cases rest : List Case} {ts us vs : List Spelled} {c : Case}
        → IsCase m c us → IsSomeCases l rest vs → ts ≡ us ++ vs → cases ≡ c ∷ rest → n ≡ max m l → IsSomeCases n cases ts

  -- `case PATTERN => STATEMENTS`, or with a guard
  pub data IsCase : ℕ → Case → List Spelled → Type 0 where
    case_all : {n m l o : ℕ} {c : Case} {ts us vs ws : List Spelled} {x : Pattern} {guard : Option Expr} {body : List Stmt} (k a : Spelled)
        → Is (case_word ∷ []) k → IsPattern m x us → IsGuard l guard vs → Is (double_arrow ∷ []) a → IsStmts o body ws
        → ts ≡ k ∷ (us ++ (vs ++ a ∷ ws)) → c ≡ case_of x guard body → n ≡ max m (max l o) → IsCase n c ts

  -- `if EXPR`, or nothing
  pub data IsGuard : ℕ → Option Expr → List Spelled → Type 0 where
    guard_not : {n : ℕ} {o : Option Expr} {ts : List Spelled} → ts ≡ [] → o ≡ None → n ≡ 0 → IsGuard n o ts
    guard_so : {level n : ℕ} {o : Option Expr} {ts us : List Spelled} {x : Expr} (i : Spelled)
        → Is (if_word ∷ []) i → IsExpr level n x us → ts ≡ i ∷ us → o ≡ Some x → IsGuard n o ts

  -- statements with Separators between them, or none
  pub data IsStmts : ℕ → List Stmt → List Spelled → Type 0 where
    stmts_none : {n : ℕ} {xs : List Stmt} {ts : List Spelled} → ts ≡ [] → xs ≡ [] → n ≡ 0 → IsStmts n xs ts
    stmts_some : {n : ℕ} {xs : List Stmt} {ts : List Spelled} → IsSomeStmts n xs ts → IsStmts n xs ts

  -- one at least
  pub data IsSomeStmts : ℕ → List Stmt → List Spelled → Type 0 where
    stmts_end : {n : ℕ} {xs : List Stmt} {ts : List Spelled} {x : Stmt} → IsStmt n x ts → xs ≡ x ∷ [] → IsSomeStmts n xs ts
    stmts_more : {n m l : ℕ} {xs rest : List Stmt} {ts us vs : List Spelled} {x : Stmt} (c : Spelled)
        → IsStmt m x us → Is (separator ∷ []) c → IsSomeStmts l rest vs → ts ≡ us ++ c ∷ vs → xs ≡ x ∷ rest → n ≡ max m l → IsSomeStmts n xs ts

  -- `{ STATEMENTS }`
  pub data IsBlock : ℕ → List Stmt → List Spelled → Type 0 where
    block_all : {n : ℕ} {xs : List Stmt} {ts us : List Spelled} (p q : Spelled)
        → Is (left_brace ∷ []) p → IsStmts n xs us → Is (right_brace ∷ []) q → ts ≡ p ∷ (us ++ q ∷ []) → IsBlock n xs ts

  -- a statement
  pub data IsStmt : ℕ → Stmt → List Spelled → Type 0 where
    let_of : {level n m l : ℕ} {x : Stmt} {ts us vs : List Spelled} {o : Option TypeTerm} {e : Expr} (w k s : Spelled)
        → Is (val_word ∷ var_word ∷ []) w → Is names k → IsAscribed m o us → Is (equals ∷ []) s → IsExpr level l e vs
        → ts ≡ w ∷ k ∷ (us ++ s ∷ vs) → x ≡ stmt (stmt_kind.Let (sort w == var_word) k.text o e) (cover ts) → n ≡ suc (max m l) → IsStmt n x ts
    assign : {left right n m l : ℕ} {x : Stmt} {ts us vs : List Spelled} {e f : Expr} (s : Spelled)
        → IsExpr left m e us → Is (equals ∷ []) s → IsExpr right l f vs → skips ts ≡ false
        → ts ≡ us ++ s ∷ vs → x ≡ stmt (stmt_kind.Assign e f) (cover ts) → n ≡ suc (max m l) → IsStmt n x ts
    call_infix : {level n m : ℕ} {x : Stmt} {ts : List Spelled} {e : Expr}
        → IsExpr level m e ts → 1 ≤ level → skips ts ≡ false → x ≡ stmt (stmt_kind.Call e) (cover ts) → n ≡ suc m → IsStmt n x ts
    call_if : {n m : ℕ} {x : Stmt} {ts : List Spelled} {e : Expr}
        → IsIf m e ts → x ≡ stmt (stmt_kind.Call e) (cover ts) → n ≡ suc m → IsStmt n x ts
    -- a match that begins a statement is one node, the statement
    match_stmt : {level n m l : ℕ} {x : Stmt} {ts us vs : List Spelled} {e : Expr} {cases : List Case}
        → IsExpr level m e us → 1 ≤ level → IsCases l cases vs → skips ts ≡ false
        → ts ≡ us ++ vs → x ≡ stmt (stmt_kind.Match e cases) (cover ts) → n ≡ suc (max m l) → IsStmt n x ts
    if_stmt : {n : ℕ} {x : Stmt} {ts : List Spelled} → IsIfStmt n x ts → IsStmt n x ts
    while_stmt : {level n m l : ℕ} {x : Stmt} {ts us vs : List Spelled} {e : Expr} {body : List Stmt} (w p q : Spelled)
        → Is (while_word ∷ []) w → Is (left_parenthesis ∷ []) p → IsExpr level m e us → Is (right_parenthesis ∷ []) q → IsBlock l body vs
        → ts ≡ w ∷ p ∷ (us ++ q ∷ vs) → x ≡ stmt (stmt_kind.While e body) (cover ts) → n ≡ suc (max m l) → IsStmt n x ts
    for_stmt : {first last n m l o : ℕ} {x : Stmt} {ts us vs ws : List Spelled} {e f : Expr} {body : List Stmt} (w p k a u q : Spelled)
        → Is (for_word ∷ []) w → Is (left_parenthesis ∷ []) p → Is names k → Is (left_arrow ∷ []) a → IsExpr first m e us
        → Is (until_name ∷ to_name ∷ []) u → IsExpr last l f vs → Is (right_parenthesis ∷ []) q → IsBlock o body ws
        → ts ≡ w ∷ p ∷ k ∷ a ∷ (us ++ u ∷ (vs ++ q ∷ ws)) → x ≡ stmt (stmt_kind.For k.text e (sort u == to_name) f body) (cover ts)
        → n ≡ suc (max m (max l o)) → IsStmt n x ts
    return_bare : {n : ℕ} {x : Stmt} {ts : List Spelled} (w : Spelled)
        → Is (return_word ∷ []) w → ts ≡ w ∷ [] → x ≡ stmt (stmt_kind.Return None) (cover ts) → n ≡ 1 → IsStmt n x ts
    return_value : {level n m : ℕ} {x : Stmt} {ts us : List Spelled} {e : Expr} (w : Spelled)
        → Is (return_word ∷ []) w → IsExpr level m e us → ts ≡ w ∷ us → x ≡ stmt (stmt_kind.Return (Some e)) (cover ts) → n ≡ suc m → IsStmt n x ts
    skip_text : {n : ℕ} {x : Stmt} {ts : List Spelled} (k : Spelled)
        → Is (prefixed_l ∷ []) k → ts ≡ k ∷ [] → x ≡ stmt (stmt_kind.Skip (map lexeme ts)) (cover ts) → n ≡ 1 → IsStmt n x ts
    -- and all up to the parenthesis that closes the first
    skip_group : {n : ℕ} {x : Stmt} {ts us : List Spelled} (k : Spelled)
        → Is (contract_name ∷ []) k → spells_group same_bracket bracket_of Round us us → ts ≡ k ∷ us
        → x ≡ stmt (stmt_kind.Skip (map lexeme ts)) (cover ts) → n ≡ 1 → IsStmt n x ts

  -- `if (EXPR) { STATEMENTS }`, and what stands behind its `else`
  pub data IsIfStmt : ℕ → Stmt → List Spelled → Type 0 where
    if_stmt_all : {level n m l o : ℕ} {x : Stmt} {ts us vs ws : List Spelled} {e : Expr} {body : List Stmt} {other : Else} (i p q : Spelled)
        → Is (if_word ∷ []) i → Is (left_parenthesis ∷ []) p → IsExpr level m e us → Is (right_parenthesis ∷ []) q → IsBlock l body vs → IsElse o other ws
        → ts ≡ i ∷ p ∷ (us ++ q ∷ (vs ++ ws)) → x ≡ stmt (stmt_kind.If e body other) (cover ts) → n ≡ suc (max m (max l o)) → IsIfStmt n x ts

  -- nothing, `else { STATEMENTS }`, or `else if ..`, which is one level deeper
  pub data IsElse : ℕ → Else → List Spelled → Type 0 where
    else_not : {n : ℕ} {o : Else} {ts : List Spelled} → ts ≡ [] → o ≡ else_kind.Nothing → n ≡ 0 → IsElse n o ts
    else_block : {n : ℕ} {o : Else} {ts us : List Spelled} {body : List Stmt} (w : Spelled)
        → Is (else_word ∷ []) w → IsBlock n body us → ts ≡ w ∷ us → o ≡ else_kind.Block body → IsElse n o ts
    else_if : {n : ℕ} {o : Else} {ts us : List Spelled} {x : Stmt} (w : Spelled)
        → Is (else_word ∷ []) w → IsIfStmt n x us → ts ≡ w ∷ us → o ≡ else_kind.If x → IsElse n o ts
