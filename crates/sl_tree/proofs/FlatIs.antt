-- The tokens of a tree as they are written are the tokens that it is of.
use Rattle.std.proofs.Common.{◌≡◌, ℕ, List, [], ◌∷◌, ◌++◌, map, Option, refl, sym, ap, ◌∙◌, subst}
use Rattle.std.specs.Prelude.{codes}
use Rattle.std.specs.List.{flat_map}
use Rattle.std.proofs.lemmas.List.{append_assoc, append-nil, map-append}
use Rattle.sl_text.specs.declared.token.Kind.TheVariants.{Ident}
use Rattle.sl_tree.specs.declared.tree.Lexeme.{Lexeme}
use Rattle.sl_tree.specs.declared.tree.TypeTerm.{TypeTerm}
use Rattle.sl_tree.specs.declared.tree.Pattern.{Pattern}
use Rattle.sl_tree.specs.declared.tree.Expr.{Expr}
use Rattle.sl_tree.specs.declared.tree.Field.{Field}
use Rattle.sl_tree.specs.declared.tree.Case.{Case}
use Rattle.sl_tree.specs.declared.tree.Stmt.{Stmt}
use Rattle.sl_tree.specs.declared.tree.Else.{Else}
use Rattle.sl_tree.specs.Sorts.{Spelled, lexeme, left_parenthesis, right_parenthesis, left_bracket, right_bracket, left_brace, right_brace, equals}
use Rattle.sl_tree.specs.WellShaped.{Is, names, field, IsPath, IsType, IsTypes, IsAscribed, IsPattern, IsPatterns, IsSomePatterns, IsExpr, IsIf, IsMatch, IsExprs, IsSomeExprs, IsFields, IsCases, IsSomeCases, IsCase, IsGuard, IsStmts, IsSomeStmts, IsBlock, IsStmt, IsIfStmt, IsElse, path_end, path_more, type_plain, type_applied, types_end, types_more, ascribed_not, ascribed_so, pattern_any, pattern_bind, pattern_typed, pattern_literal, pattern_negative, pattern_constant, pattern_class, patterns_none, patterns_some, patterns_end, patterns_more, literal, name, this, paren, select, given, apply, update, negative, prefix, infix_of, if_of, match_of, if_all, match_all, exprs_none, exprs_some, exprs_end, exprs_more, fields_end, fields_more, cases_all, cases_end, cases_more, case_all, guard_not, guard_so, stmts_none, stmts_some, stmts_end, stmts_more, block_all, let_of, assign, call_infix, call_if, match_stmt, if_stmt, while_stmt, for_stmt, return_bare, return_value, skip_text, skip_group, if_stmt_all, else_not, else_block, else_if}
use Rattle.sl_tree.specs.Flat.{Tokens, mark, end, between, commas, round, square, curly, flat_path, flat_type_args, flat_type, flat_ascribed, flat_pattern, flat_cases, flat_expr, flat_field, flat_case, flat_stmt, flat_else, flat_statements, flat_block}
use Rattle.sl_tree.proofs.Spellings.{left_parenthesis_is, right_parenthesis_is, left_bracket_is, right_bracket_is, left_brace_is, right_brace_is, comma_is, dot_is, underscore_is, colon_is, equals_is, double_arrow_is, left_arrow_is, if_word_is, else_word_is, match_word_is, case_word_is, while_word_is, for_word_is, return_word_is, this_word_is, minus_is, separator_is, let_is, until_is, name_is, bound_is, prefix_is, operator_is}
use Rattle.sl_tree.proofs.FlatLayers.{flat_type_term, flat_any, flat_bind, flat_literal_pattern, flat_constant, flat_class, flat_literal_expr, flat_name, flat_this, flat_paren, flat_prefix, flat_infix, flat_select, flat_apply, flat_update, flat_given, flat_if, flat_match, flat_field_is, guard_tokens, flat_case_is, flat_let_stmt, flat_assign, flat_call, flat_if_stmt, flat_while, flat_for, flat_match_stmt, flat_return_bare, flat_return_value, flat_skip, flat_else_nothing, flat_else_block, flat_else_if}

-- What tokens are -----------------------------------------------------------------------------------------------------------------------

-- a tree's tokens are these
pub record Tells (xs : Tokens) (ts : List Spelled) : Type 0 where
  pub is : xs ≡ map lexeme ts

pub none : Tells [] []
none = record { is = refl }

pub next : {x : Lexeme} {xs : Tokens} {ts : List Spelled} (k : Spelled) → lexeme k ≡ x → Tells xs ts → Tells (x ∷ xs) (k ∷ ts)
next {xs} k e told = record { is = ap (λ x. x ∷ xs) (sym e) ∙ ap (λ w. lexeme k ∷ w) told.is }

pub join : {xs ys : Tokens} {us vs : List Spelled} → Tells xs us → Tells ys vs → Tells (xs ++ ys) (us ++ vs)
join {ys} {us} {vs} first second = record { is = ap (λ w. w ++ ys) first.is ∙ (ap (λ w. map lexeme us ++ w) second.is ∙ sym (map-append lexeme us vs)) }

-- where the tree and its tokens are told as others
pub both : {xs ys : Tokens} {ts us : List Spelled} → ys ≡ xs → ts ≡ us → Tells xs us → Tells ys ts
both e f told = record { is = e ∙ (told.is ∙ sym (ap (map lexeme) f)) }

-- in parentheses, in brackets, in braces

pub rounded : {xs : Tokens} {us : List Spelled} (p q : Spelled) → Is (left_parenthesis ∷ []) p → Is (right_parenthesis ∷ []) q → Tells xs us → Tells (round xs) (p ∷ (us ++ q ∷ []))
rounded p q h1 h2 told = next p (left_parenthesis_is p h1) (join told (next q (right_parenthesis_is q h2) none))

pub squared : {xs : Tokens} {us : List Spelled} (p q : Spelled) → Is (left_bracket ∷ []) p → Is (right_bracket ∷ []) q → Tells xs us → Tells (square xs) (p ∷ (us ++ q ∷ []))
squared p q h1 h2 told = next p (left_bracket_is p h1) (join told (next q (right_bracket_is q h2) none))

pub curled : {xs : Tokens} {us : List Spelled} (p q : Spelled) → Is (left_brace ∷ []) p → Is (right_brace ∷ []) q → Tells xs us → Tells (curly xs) (p ∷ (us ++ q ∷ []))
curled p q h1 h2 told = next p (left_brace_is p h1) (join told (next q (right_brace_is q h2) none))

-- in parentheses, and then others
rounded_then : {xs ys : Tokens} {us vs : List Spelled} (p q : Spelled) → Is (left_parenthesis ∷ []) p → Is (right_parenthesis ∷ []) q → Tells xs us → Tells ys vs
    → Tells (round xs ++ ys) (p ∷ (us ++ q ∷ vs))
rounded_then {us} {vs} p q h1 h2 told others = both refl (sym (ap (λ w. p ∷ w) (append_assoc us (q ∷ []) vs))) (join (rounded p q h1 h2 told) others)

-- Lists ---------------------------------------------------------------------------------------------------------------------------------

-- a list of one at least
pub record Filled {A : Type 0} (xs : List A) : Type 0 where
  pub head : A
  pub rest : List A
  pub is : xs ≡ head ∷ rest

pub filled : {A : Type 0} {xs : List A} (x : A) (rest : List A) → xs ≡ x ∷ rest → Filled xs
filled x rest e = record { head = x; rest = rest; is = e }

-- the last of a list
pub single : {A : Type 0} (token : Lexeme) (f : A → Tokens) (x : A) {us : List Spelled} → Tells (f x) us → Tells (between token (map f (x ∷ []))) us
single token f x told = both (append-nil (f x)) refl told

more : {A : Type 0} (token : Lexeme) (f : A → Tokens) {xs : List A} → Filled xs → flat_map (λ tokens. token ∷ tokens) (map f xs) ≡ token ∷ between token (map f xs)
more token f full = subst (λ z. flat_map (λ tokens. token ∷ tokens) (map f z) ≡ token ∷ between token (map f z)) (sym full.is) refl

-- one, and a token before the others
pub listed : {A : Type 0} {token : Lexeme} (f : A → Tokens) (x : A) {rest : List A} {us vs : List Spelled} (c : Spelled) → Filled rest → lexeme c ≡ token → Tells (f x) us
    → Tells (between token (map f rest)) vs → Tells (between token (map f (x ∷ rest))) (us ++ c ∷ vs)
listed {token} f x {rest} c full e first others = both (ap (λ w. f x ++ w) (more token f full)) refl (join first (next c e others))

-- Types ---------------------------------------------------------------------------------------------------------------------------------

pub path_filled : {path : List (List ℕ)} {ts : List Spelled} → IsPath path ts → Filled path
path_filled (path_end k h1 h2 h3) = filled k.text [] h3
path_filled (path_more k d h1 h2 h3 h4 h5) = filled k.text _ h5

pub path_tells : {path : List (List ℕ)} {ts : List Spelled} → IsPath path ts → Tells (flat_path path) ts
path_tells (path_end k h1 h2 h3) = both (ap flat_path h3) h2 (next k (name_is k h1) none)
path_tells (path_more {us} k d h1 h2 h3 h4 h5) =
    both (ap flat_path h5) h4 (listed (λ text. record { kind = Ident; text = text } ∷ []) k.text {us = k ∷ []} d (path_filled h3) (dot_is d h2) (next k (name_is k h1) none) (path_tells h3))

types_filled : {n : ℕ} {xs : List TypeTerm} {ts : List Spelled} → IsTypes n xs ts → Filled xs
types_filled (types_end h1 h2) = filled _ [] h2
types_filled (types_more c h1 h2 h3 h4 h5 h6) = filled _ _ h5

args_filled : {args : List TypeTerm} → Filled args → flat_type_args (map flat_type args) ≡ square (commas (map flat_type args))
args_filled full = subst (λ z. flat_type_args (map flat_type z) ≡ square (commas (map flat_type z))) (sym full.is) refl

mutual
  pub type_tells : {n : ℕ} {t : TypeTerm} {ts : List Spelled} → IsType n t ts → Tells (flat_type t) ts
  type_tells (type_plain h1 h2 h3) = both (ap flat_type h2 ∙ (flat_type_term _ _ _ ∙ append-nil _)) refl (path_tells h1)
  type_tells (type_applied {path} k j h1 h2 h3 h4 h5 h6 h7) =
      both (ap flat_type h6 ∙ (flat_type_term _ _ _ ∙ ap (λ w. flat_path path ++ w) (args_filled (types_filled h3)))) h5 (join (path_tells h1) (squared k j h2 h4 (types_tell h3)))

  types_tell : {n : ℕ} {xs : List TypeTerm} {ts : List Spelled} → IsTypes n xs ts → Tells (commas (map flat_type xs)) ts
  types_tell (types_end h1 h2) = both (ap (λ z. commas (map flat_type z)) h2) refl (single (mark (codes ",")) flat_type _ (type_tells h1))
  types_tell (types_more c h1 h2 h3 h4 h5 h6) = both (ap (λ z. commas (map flat_type z)) h5) h4 (listed flat_type _ c (types_filled h3) (comma_is c h2) (type_tells h1) (types_tell h3))

ascribed_tells : {n : ℕ} {o : Option TypeTerm} {ts : List Spelled} → IsAscribed n o ts → Tells (flat_ascribed o) ts
ascribed_tells (ascribed_not h1 h2 h3) = both (ap flat_ascribed h2) h1 none
ascribed_tells (ascribed_so c h1 h2 h3 h4) = both (ap flat_ascribed h4) h3 (next c (colon_is c h1) (type_tells h2))

-- Patterns ------------------------------------------------------------------------------------------------------------------------------

patterns_filled : {n : ℕ} {xs : List Pattern} {ts : List Spelled} → IsSomePatterns n xs ts → Filled xs
patterns_filled (patterns_end h1 h2) = filled _ [] h2
patterns_filled (patterns_more c h1 h2 h3 h4 h5 h6) = filled _ _ h5

mutual
  pattern_tells : {n : ℕ} {x : Pattern} {ts : List Spelled} → IsPattern n x ts → Tells (flat_pattern x) ts
  pattern_tells (pattern_any k h1 h2 h3 h4 h5) = both (ap flat_pattern h4 ∙ flat_any _ _) h3 (next k (underscore_is k h1) (ascribed_tells h2))
  pattern_tells (pattern_bind k h1 h2 h3 h4) = both (ap flat_pattern h3 ∙ flat_bind _ _ _) h2 (next k (bound_is k h1) none)
  pattern_tells (pattern_typed k c h1 h2 h3 h4 h5 h6) = both (ap flat_pattern h5 ∙ flat_bind _ _ _) h4 (next k (name_is k h1) (next c (colon_is c h2) (type_tells h3)))
  pattern_tells (pattern_literal k h1 h2 h3 h4) = both (ap flat_pattern h3 ∙ flat_literal_pattern _ _ _) h2 (next k refl none)
  pattern_tells (pattern_negative k j h1 h2 h3 h4 h5) = both (ap flat_pattern h4 ∙ flat_literal_pattern _ _ _) h3 (next k (minus_is k h1) (next j refl none))
  pattern_tells (pattern_constant k d h1 h2 h3 h4 h5 h6) = both (ap flat_pattern h5 ∙ flat_constant _ _) h4 (path_tells (path_more k d h1 h2 h3 refl refl))
  pattern_tells (pattern_class k j h1 h2 h3 h4 h5 h6 h7) = both (ap flat_pattern h6 ∙ flat_class _ _ _) h5 (join (path_tells h1) (rounded k j h2 h4 (patterns_tell h3)))

  patterns_tell : {n : ℕ} {xs : List Pattern} {ts : List Spelled} → IsPatterns n xs ts → Tells (commas (map flat_pattern xs)) ts
  patterns_tell (patterns_none h1 h2 h3) = both (ap (λ z. commas (map flat_pattern z)) h2) h1 none
  patterns_tell (patterns_some h1) = some_patterns_tell h1

  some_patterns_tell : {n : ℕ} {xs : List Pattern} {ts : List Spelled} → IsSomePatterns n xs ts → Tells (commas (map flat_pattern xs)) ts
  some_patterns_tell (patterns_end h1 h2) = both (ap (λ z. commas (map flat_pattern z)) h2) refl (single (mark (codes ",")) flat_pattern _ (pattern_tells h1))
  some_patterns_tell (patterns_more c h1 h2 h3 h4 h5 h6) =
      both (ap (λ z. commas (map flat_pattern z)) h5) h4 (listed flat_pattern _ c (patterns_filled h3) (comma_is c h2) (pattern_tells h1) (some_patterns_tell h3))

-- Expressions and statements ------------------------------------------------------------------------------------------------------------

exprs_filled : {n : ℕ} {xs : List Expr} {ts : List Spelled} → IsSomeExprs n xs ts → Filled xs
exprs_filled (exprs_end h1 h2) = filled _ [] h2
exprs_filled (exprs_more c h1 h2 h3 h4 h5 h6) = filled _ _ h5

fields_filled : {n : ℕ} {xs : List Field} {ts : List Spelled} → IsFields n xs ts → Filled xs
fields_filled (fields_end k s h1 h2 h3 h4 h5) = filled _ [] h5
fields_filled (fields_more k s c h1 h2 h3 h4 h5 h6 h7 h8) = filled _ _ h7

stmts_filled : {n : ℕ} {xs : List Stmt} {ts : List Spelled} → IsSomeStmts n xs ts → Filled xs
stmts_filled (stmts_end h1 h2) = filled _ [] h2
stmts_filled (stmts_more c h1 h2 h3 h4 h5 h6) = filled _ _ h5

-- `NAME = EXPR`
pub field_tells : (x : Expr) {us : List Spelled} (k s : Spelled) → Is names k → Is (equals ∷ []) s → Tells (flat_expr x) us → Tells (flat_field (field k.text x)) (k ∷ s ∷ us)
field_tells x k s h1 h2 told = both (flat_field_is _ _) refl (next k (name_is k h1) (next s (equals_is s h2) told))

mutual
  pub expr_tells : {level n : ℕ} {e : Expr} {ts : List Spelled} → IsExpr level n e ts → Tells (flat_expr e) ts
  expr_tells (literal k h1 h2 h3 h4 h5) = both (ap flat_expr h3 ∙ flat_literal_expr _ _ _) h2 (next k refl none)
  expr_tells (name k h1 h2 h3 h4 h5) = both (ap flat_expr h3 ∙ flat_name _ _) h2 (next k (name_is k h1) none)
  expr_tells (this k h1 h2 h3 h4 h5) = both (ap flat_expr h3 ∙ flat_this _) h2 (next k (this_word_is k h1) none)
  expr_tells (paren k j h1 h2 h3 h4 h5 h6 h7) = both (ap flat_expr h5 ∙ flat_paren _ _) h4 (rounded k j h1 h3 (expr_tells h2))
  expr_tells (select d k h1 h2 h3 h4 h5 h6 h7 h8) = both (ap flat_expr h6 ∙ flat_select _ _ _) h5 (join (expr_tells h1) (next d (dot_is d h3) (next k (name_is k h4) none)))
  expr_tells (given k j h1 h2 h3 h4 h5 h6 h7 h8 h9) = both (ap flat_expr h7 ∙ flat_given _ _ _) h6 (join (expr_tells h1) (squared k j h3 h5 (types_tell h4)))
  expr_tells (apply k j h1 h2 h3 h4 h5 h6 h7 h8 h9) = both (ap flat_expr h7 ∙ flat_apply _ _ _) h6 (join (expr_tells h1) (rounded k j h3 h5 (exprs_tell h4)))
  expr_tells (update k j h1 h2 h3 h4 h5 h6 h7 h8 h9) = both (ap flat_expr h7 ∙ flat_update _ _ _) h6 (join (expr_tells h1) (rounded k j h3 h5 (fields_tell h4)))
  expr_tells (negative k j h1 h2 h3 h4 h5 h6) = both (ap flat_expr h4 ∙ flat_literal_expr _ _ _) h3 (next k (minus_is k h1) (next j refl none))
  expr_tells (prefix k h1 h2 h3 h4 h5 h6 h7 h8) = both (ap flat_expr h6 ∙ flat_prefix _ _ _) h5 (next k (prefix_is k h1) (expr_tells h2))
  expr_tells (infix_of {level} k h1 h2 h3 h4 h5 h6 h7 h8 h9 h10) = both (ap flat_expr h9 ∙ flat_infix _ _ _ _) h8 (join (expr_tells h1) (next k (operator_is level k h2) (expr_tells h3)))
  expr_tells (if_of h1 h2) = if_tells h1
  expr_tells (match_of h1 h2) = match_tells h1

  if_tells : {n : ℕ} {e : Expr} {ts : List Spelled} → IsIf n e ts → Tells (flat_expr e) ts
  if_tells (if_all i p q s h1 h2 h3 h4 h5 h6 h7 h8 h9 h10) =
      both (ap flat_expr h9 ∙ flat_if _ _ _ _) h8
      (next i (if_word_is i h1) (rounded_then p q h2 h4 (expr_tells h3) (join (expr_tells h5) (next s (else_word_is s h6) (expr_tells h7)))))

  match_tells : {n : ℕ} {e : Expr} {ts : List Spelled} → IsMatch n e ts → Tells (flat_expr e) ts
  match_tells (match_all h1 h2 h3 h4 h5 h6) = both (ap flat_expr h5 ∙ flat_match _ _ _) h4 (join (expr_tells h1) (cases_tell h3))

  exprs_tell : {n : ℕ} {xs : List Expr} {ts : List Spelled} → IsExprs n xs ts → Tells (commas (map flat_expr xs)) ts
  exprs_tell (exprs_none h1 h2 h3) = both (ap (λ z. commas (map flat_expr z)) h2) h1 none
  exprs_tell (exprs_some h1) = some_exprs_tell h1

  some_exprs_tell : {n : ℕ} {xs : List Expr} {ts : List Spelled} → IsSomeExprs n xs ts → Tells (commas (map flat_expr xs)) ts
  some_exprs_tell (exprs_end h1 h2) = both (ap (λ z. commas (map flat_expr z)) h2) refl (single (mark (codes ",")) flat_expr _ (expr_tells h1))
  some_exprs_tell (exprs_more c h1 h2 h3 h4 h5 h6) =
      both (ap (λ z. commas (map flat_expr z)) h5) h4 (listed flat_expr _ c (exprs_filled h3) (comma_is c h2) (expr_tells h1) (some_exprs_tell h3))

  fields_tell : {n : ℕ} {xs : List Field} {ts : List Spelled} → IsFields n xs ts → Tells (commas (map flat_field xs)) ts
  fields_tell (fields_end k s h1 h2 h3 h4 h5) = both (ap (λ z. commas (map flat_field z)) h5) h4 (single (mark (codes ",")) flat_field _ (field_tells _ k s h1 h2 (expr_tells h3)))
  fields_tell (fields_more {us} k s c h1 h2 h3 h4 h5 h6 h7 h8) =
      both (ap (λ z. commas (map flat_field z)) h7) h6
      (listed flat_field _ {us = k ∷ s ∷ us} c (fields_filled h5) (comma_is c h4) (field_tells _ k s h1 h2 (expr_tells h3)) (fields_tell h5))

  cases_tell : {n : ℕ} {cases : List Case} {ts : List Spelled} → IsCases n cases ts → Tells (flat_cases (map flat_case cases)) ts
  cases_tell (cases_all k p q h1 h2 h3 h4 h5) = both refl h5 (next k (match_word_is k h1) (curled p q h2 h4 (some_cases_tell h3)))

  some_cases_tell : {n : ℕ} {cases : List Case} {ts : List Spelled} → IsSomeCases n cases ts → Tells (flat_map (λ tokens. tokens) (map flat_case cases)) ts
  some_cases_tell (cases_end h1 h2) = both (ap (λ z. flat_map (λ tokens. tokens) (map flat_case z)) h2 ∙ append-nil _) refl (case_tells h1)
  some_cases_tell (cases_more h1 h2 h3 h4 h5) = both (ap (λ z. flat_map (λ tokens. tokens) (map flat_case z)) h4) h3 (join (case_tells h1) (some_cases_tell h2))

  case_tells : {n : ℕ} {c : Case} {ts : List Spelled} → IsCase n c ts → Tells (flat_case c) ts
  case_tells (case_all k a h1 h2 h3 h4 h5 h6 h7 h8) =
      both (ap flat_case h7 ∙ flat_case_is _ _ _) h6
      (next k (case_word_is k h1) (join (pattern_tells h2) (join (guard_tells h3) (next a (double_arrow_is a h4) (stmts_tell h5)))))

  guard_tells : {n : ℕ} {o : Option Expr} {ts : List Spelled} → IsGuard n o ts → Tells (guard_tokens o) ts
  guard_tells (guard_not h1 h2 h3) = both (ap guard_tokens h2) h1 none
  guard_tells (guard_so i h1 h2 h3 h4) = both (ap guard_tokens h4) h3 (next i (if_word_is i h1) (expr_tells h2))

  stmts_tell : {n : ℕ} {xs : List Stmt} {ts : List Spelled} → IsStmts n xs ts → Tells (flat_statements xs) ts
  stmts_tell (stmts_none h1 h2 h3) = both (ap flat_statements h2) h1 none
  stmts_tell (stmts_some h1) = some_stmts_tell h1

  some_stmts_tell : {n : ℕ} {xs : List Stmt} {ts : List Spelled} → IsSomeStmts n xs ts → Tells (flat_statements xs) ts
  some_stmts_tell (stmts_end h1 h2) = both (ap flat_statements h2) refl (single end flat_stmt _ (stmt_tells h1))
  some_stmts_tell (stmts_more c h1 h2 h3 h4 h5 h6) = both (ap flat_statements h5) h4 (listed flat_stmt _ c (stmts_filled h3) (separator_is c h2) (stmt_tells h1) (some_stmts_tell h3))

  pub block_tells : {n : ℕ} {xs : List Stmt} {ts : List Spelled} → IsBlock n xs ts → Tells (flat_block xs) ts
  block_tells (block_all p q h1 h2 h3 h4) = both refl h4 (curled p q h1 h3 (stmts_tell h2))

  stmt_tells : {n : ℕ} {x : Stmt} {ts : List Spelled} → IsStmt n x ts → Tells (flat_stmt x) ts
  stmt_tells (let_of w k s h1 h2 h3 h4 h5 h6 h7 h8) =
      both (ap flat_stmt h7 ∙ flat_let_stmt _ _ _ _ _) h6 (next w (let_is w h1) (next k (name_is k h2) (join (ascribed_tells h3) (next s (equals_is s h4) (expr_tells h5)))))
  stmt_tells (assign s h1 h2 h3 h4 h5 h6 h7) = both (ap flat_stmt h6 ∙ flat_assign _ _ _) h5 (join (expr_tells h1) (next s (equals_is s h2) (expr_tells h3)))
  stmt_tells (call_infix h1 h2 h3 h4 h5) = both (ap flat_stmt h4 ∙ flat_call _ _) refl (expr_tells h1)
  stmt_tells (call_if h1 h2 h3) = both (ap flat_stmt h2 ∙ flat_call _ _) refl (if_tells h1)
  stmt_tells (match_stmt h1 h2 h3 h4 h5 h6 h7) = both (ap flat_stmt h6 ∙ flat_match_stmt _ _ _) h5 (join (expr_tells h1) (cases_tell h3))
  stmt_tells (if_stmt h1) = if_stmt_tells h1
  stmt_tells (while_stmt w p q h1 h2 h3 h4 h5 h6 h7 h8) =
      both (ap flat_stmt h7 ∙ flat_while _ _ _) h6 (next w (while_word_is w h1) (rounded_then p q h2 h4 (expr_tells h3) (block_tells h5)))
  stmt_tells (for_stmt {us} {vs} {ws} w p k a u q h1 h2 h3 h4 h5 h6 h7 h8 h9 h10 h11 h12) =
      both (ap flat_stmt h11 ∙ flat_for _ _ _ _ _ _) (h10 ∙ ap (λ z. w ∷ p ∷ k ∷ a ∷ z) (sym (append_assoc us (u ∷ vs) (q ∷ ws))))
      (next w (for_word_is w h1)
      (rounded_then {us = k ∷ a ∷ (us ++ u ∷ vs)} p q h2 h8 (next k (name_is k h3) (next a (left_arrow_is a h4) (join (expr_tells h5) (next u (until_is u h6) (expr_tells h7))))) (block_tells h9)))
  stmt_tells (return_bare w h1 h2 h3 h4) = both (ap flat_stmt h3 ∙ flat_return_bare _) h2 (next w (return_word_is w h1) none)
  stmt_tells (return_value w h1 h2 h3 h4 h5) = both (ap flat_stmt h4 ∙ flat_return_value _ _) h3 (next w (return_word_is w h1) (expr_tells h2))
  stmt_tells (skip_text k h1 h2 h3 h4) = record { is = ap flat_stmt h3 ∙ flat_skip _ _ }
  stmt_tells (skip_group k h1 h2 h3 h4 h5) = record { is = ap flat_stmt h4 ∙ flat_skip _ _ }

  if_stmt_tells : {n : ℕ} {x : Stmt} {ts : List Spelled} → IsIfStmt n x ts → Tells (flat_stmt x) ts
  if_stmt_tells (if_stmt_all i p q h1 h2 h3 h4 h5 h6 h7 h8 h9) =
      both (ap flat_stmt h8 ∙ flat_if_stmt _ _ _ _) h7 (next i (if_word_is i h1) (rounded_then p q h2 h4 (expr_tells h3) (join (block_tells h5) (else_tells h6))))

  else_tells : {n : ℕ} {o : Else} {ts : List Spelled} → IsElse n o ts → Tells (flat_else o) ts
  else_tells (else_not h1 h2 h3) = both (ap flat_else h2 ∙ flat_else_nothing) h1 none
  else_tells (else_block w h1 h2 h3 h4) = both (ap flat_else h4 ∙ flat_else_block _) h3 (next w (else_word_is w h1) (block_tells h2))
  else_tells (else_if w h1 h2 h3 h4) = both (ap flat_else h4 ∙ flat_else_if _) h3 (next w (else_word_is w h1) (if_stmt_tells h2))

-- What is proved ------------------------------------------------------------------------------------------------------------------------

pub type_flat : {n : ℕ} {t : TypeTerm} {ts : List Spelled} → IsType n t ts → flat_type t ≡ map lexeme ts
type_flat d = (type_tells d).is

pub pattern_flat : {n : ℕ} {x : Pattern} {ts : List Spelled} → IsPattern n x ts → flat_pattern x ≡ map lexeme ts
pattern_flat d = (pattern_tells d).is

pub expr_flat : {level n : ℕ} {e : Expr} {ts : List Spelled} → IsExpr level n e ts → flat_expr e ≡ map lexeme ts
expr_flat d = (expr_tells d).is

pub stmt_flat : {n : ℕ} {x : Stmt} {ts : List Spelled} → IsStmt n x ts → flat_stmt x ≡ map lexeme ts
stmt_flat d = (stmt_tells d).is

pub stmts_flat : {n : ℕ} {xs : List Stmt} {ts : List Spelled} → IsStmts n xs ts → flat_statements xs ≡ map lexeme ts
stmts_flat d = (stmts_tell d).is

pub block_flat : {n : ℕ} {xs : List Stmt} {ts : List Spelled} → IsBlock n xs ts → flat_block xs ≡ map lexeme ts
block_flat d = (block_tells d).is
