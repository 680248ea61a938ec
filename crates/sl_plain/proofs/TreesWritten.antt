-- What is read of any tree is written as a plain program has it.
use Rattle.std.proofs.Common.{ℕ, List, [], ◌∷◌, map, Option, Some, None, sym, subst}
use Rattle.std.specs.List.{AllByRecursion}
use Rattle.sl_tree.specs.declared.tree.Expr.{Expr, roll-Expr}
use Rattle.sl_tree.specs.declared.tree.ExprKind.{ExprKind, roll-ExprKind}
use Rattle.sl_tree.specs.declared.tree.Field.{Field}
use Rattle.sl_tree.specs.declared.tree.Case.{Case}
use Rattle.sl_tree.specs.declared.tree.Stmt as source
use Rattle.sl_tree.specs.declared.tree.StmtKind.{StmtKind, roll-StmtKind}
use Rattle.sl_tree.specs.declared.tree.Else.{Else, roll-Else}
use Rattle.sl_tree.specs.declared.tree.Else.TheOpen as tree
use Rattle.sl_tree.specs.declared.tree.Else.TheFolds.{map-Else, map-ExprKind, map-StmtKind, map-Expr, map-Stmt, ind-Stmt, fold-roll-Expr, fold-roll-Stmt}
use Rattle.sl_plain.specs.declared.program.Stmt.{Stmt}
use Rattle.sl_plain.specs.declared.reading.expressions.Form.{Form}
use Rattle.sl_plain.specs.declared.reading.statements.Read.{Read}
use Rattle.sl_plain.specs.Reading.{line_at, sign_of, name_in, atom_of, condition_of, block_of, declared, assigned, called_stmt, chosen, repeated, named, until, counting, expr_kind_step, expr_step, stmt_kind_step, stmt_step, else_step, form_of, form_of_kind, read_of, read_of_kind, else_of}
use Rattle.sl_plain.proofs.TreeLayers.{Layer, expr_kind_layer, stmt_kind_layer, else_layer}
use Rattle.sl_plain.proofs.WrittenParts.{IfThere, FormIs, StmtsAre, ReadIs, literal_is, joined_is, sign_is, atom_is, member_is, called_is, condition_is, block_is, does_is, declared_is, assigned_is, call_is, chosen_is, repeated_is, if_named, until_is, counting_is, returned_is}

module _ (feeds : List ℕ) where
  abbrev ElseIs : Else → Type 0
  ElseIs x = IfThere StmtsAre (else_of feeds x)

  abbrev KindIs : ExprKind → Type 0
  KindIs x = (line : ℕ) → FormIs (form_of_kind feeds x line)

  abbrev StmtKindIs : StmtKind → Type 0
  StmtKindIs x = (line : ℕ) → ReadIs (read_of_kind feeds x line)

  abbrev CaseIs : Case → Type 0
  CaseIs x = Unit {0}

  abbrev ExprIs : Expr → Type 0
  ExprIs x = FormIs (form_of feeds x)

  abbrev FieldIs : Field → Type 0
  FieldIs x = Unit {0}

  abbrev StmtReads : source.Stmt → Type 0
  StmtReads x = ReadIs (read_of feeds x)

  abbrev KnownElse : Type 0
  KnownElse = (x : Else) × ElseIs x

  abbrev else_in : KnownElse → Else
  else_in known = known.0

  abbrev KnownKind : Type 0
  KnownKind = (x : ExprKind) × KindIs x

  abbrev kind_in : KnownKind → ExprKind
  kind_in known = known.0

  abbrev KnownStmtKind : Type 0
  KnownStmtKind = (x : StmtKind) × StmtKindIs x

  abbrev stmt_kind_in : KnownStmtKind → StmtKind
  stmt_kind_in known = known.0

  abbrev KnownCase : Type 0
  KnownCase = (x : Case) × CaseIs x

  abbrev case_in : KnownCase → Case
  case_in known = known.0

  abbrev KnownExpr : Type 0
  KnownExpr = (x : Expr) × ExprIs x

  abbrev expr_in : KnownExpr → Expr
  expr_in known = known.0

  abbrev KnownField : Type 0
  KnownField = (x : Field) × FieldIs x

  abbrev field_in : KnownField → Field
  field_in known = known.0

  abbrev KnownStmt : Type 0
  KnownStmt = (x : source.Stmt) × StmtReads x

  abbrev stmt_in : KnownStmt → source.Stmt
  stmt_in known = known.0

  exprs_are : (exprs : List KnownExpr) → AllByRecursion FormIs (map (form_of feeds) (map expr_in exprs))
  exprs_are [] = tt
  exprs_are (x ∷ exprs) = (x.1, exprs_are exprs)

  stmts_are : (stmts : List KnownStmt) → AllByRecursion ReadIs (map (read_of feeds) (map stmt_in stmts))
  stmts_are [] = tt
  stmts_are (x ∷ stmts) = (x.1, stmts_are stmts)

  block_are : (stmts : List KnownStmt) → IfThere StmtsAre (block_of (map (read_of feeds) (map stmt_in stmts)))
  block_are stmts = block_is (map (read_of feeds) (map stmt_in stmts)) (stmts_are stmts)

  kind_via : (x : Layer) → ((line : ℕ) → FormIs (expr_kind_step (map-ExprKind Else ExprKind StmtKind Case Expr Field source.Stmt (Option (List Stmt)) (ℕ → Form) (ℕ → Read) (Unit {0}) Form (Unit {0}) Read (else_of feeds) (form_of_kind feeds) (read_of_kind feeds) (λ case. tt) (form_of feeds) (λ field. tt) (read_of feeds) x) line)) → KindIs (roll-ExprKind x)
  kind_via x h line = subst (λ (f : ℕ → Form). FormIs (f line)) (sym (expr_kind_layer feeds x)) (h line)

  kind_layer : (y : tree.ExprKind-F KnownElse KnownKind KnownStmtKind KnownCase KnownExpr KnownField KnownStmt) → KindIs (roll-ExprKind (map-ExprKind KnownElse KnownKind KnownStmtKind KnownCase KnownExpr KnownField KnownStmt Else ExprKind StmtKind Case Expr Field source.Stmt else_in kind_in stmt_kind_in case_in expr_in field_in stmt_in y))
  kind_layer (tree.Literal negative literal) = kind_via (tree.Literal negative literal) (λ line. literal_is literal.kind negative literal.text)
  kind_layer (tree.Name text) = kind_via (tree.Name text) (λ line. tt)
  kind_layer tree.This = kind_via tree.This (λ line. tt)
  kind_layer (tree.Paren inner) = kind_via (tree.Paren inner.0) (λ line. tt)
  kind_layer (tree.Prefix text operand) = kind_via (tree.Prefix text operand.0) (λ line. tt)
  kind_layer (tree.Infix left text right) =
      kind_via (tree.Infix left.0 text right.0)
      (λ line. joined_is (sign_of text) (atom_of (form_of feeds left.0)) (atom_of (form_of feeds right.0)) line (sign_is text) (atom_is (form_of feeds left.0) left.1) (atom_is (form_of feeds right.0) right.1))
  kind_layer (tree.Select operand text) = kind_via (tree.Select operand.0 text) (λ line. member_is (form_of feeds operand.0) text)
  kind_layer (tree.Apply operand arguments) = kind_via (tree.Apply operand.0 (map expr_in arguments)) (λ line. called_is (form_of feeds operand.0) (map (form_of feeds) (map expr_in arguments)) (exprs_are arguments))
  kind_layer (tree.Update operand fields) = kind_via (tree.Update operand.0 (map field_in fields)) (λ line. tt)
  kind_layer (tree.Given operand types) = kind_via (tree.Given operand.0 types) (λ line. tt)
  kind_layer (tree.ExprKind::If test chosen other) = kind_via (tree.ExprKind::If test.0 chosen.0 other.0) (λ line. tt)
  kind_layer (tree.ExprKind::Match operand cases) = kind_via (tree.ExprKind::Match operand.0 (map case_in cases)) (λ line. tt)

  stmt_via : (x : tree.StmtKind-F Else ExprKind StmtKind Case Expr Field source.Stmt) → ((line : ℕ) → ReadIs (stmt_kind_step (map-StmtKind Else ExprKind StmtKind Case Expr Field source.Stmt (Option (List Stmt)) (ℕ → Form) (ℕ → Read) (Unit {0}) Form (Unit {0}) Read (else_of feeds) (form_of_kind feeds) (read_of_kind feeds) (λ case. tt) (form_of feeds) (λ field. tt) (read_of feeds) x) line)) → StmtKindIs (roll-StmtKind x)
  stmt_via x h line = subst (λ (f : ℕ → Read). ReadIs (f line)) (sym (stmt_kind_layer feeds x)) (h line)

  stmt_kind_layer_is : (y : tree.StmtKind-F KnownElse KnownKind KnownStmtKind KnownCase KnownExpr KnownField KnownStmt) → StmtKindIs (roll-StmtKind (map-StmtKind KnownElse KnownKind KnownStmtKind KnownCase KnownExpr KnownField KnownStmt Else ExprKind StmtKind Case Expr Field source.Stmt else_in kind_in stmt_kind_in case_in expr_in field_in stmt_in y))
  stmt_kind_layer_is (tree.Let var text ascribed value) = stmt_via (tree.Let var text ascribed value.0) (λ line. does_is (declared var text ascribed (form_of feeds value.0)) (declared_is var text ascribed (form_of feeds value.0) value.1))
  stmt_kind_layer_is (tree.Assign place value) = stmt_via (tree.Assign place.0 value.0) (λ line. does_is (assigned (name_in (form_of feeds place.0)) (form_of feeds value.0)) (assigned_is (name_in (form_of feeds place.0)) (form_of feeds value.0) value.1))
  stmt_kind_layer_is (tree.Call value) = stmt_via (tree.Call value.0) (λ line. does_is (called_stmt (form_of feeds value.0) line) (call_is (form_of feeds value.0) line value.1))
  stmt_kind_layer_is (tree.StmtKind::If test stmts other) =
      stmt_via (tree.StmtKind::If test.0 (map stmt_in stmts) other.0)
      (λ line.
      let block = block_of (map (read_of feeds) (map stmt_in stmts)) in
      does_is (chosen (condition_of (form_of feeds test.0)) block (else_of feeds other.0))
      (chosen_is (condition_of (form_of feeds test.0)) block (else_of feeds other.0) (condition_is (form_of feeds test.0) test.1) (block_are stmts) other.1))
  stmt_kind_layer_is (tree.While test stmts) =
      stmt_via (tree.While test.0 (map stmt_in stmts))
      (λ line.
      let block = block_of (map (read_of feeds) (map stmt_in stmts)) in
      does_is (repeated (condition_of (form_of feeds test.0)) block) (repeated_is (condition_of (form_of feeds test.0)) block (condition_is (form_of feeds test.0) test.1) (block_are stmts)))
  stmt_kind_layer_is (tree.For text from last to stmts) =
      stmt_via (tree.For text from.0 last to.0 (map stmt_in stmts))
      (λ line.
      let block = block_of (map (read_of feeds) (map stmt_in stmts)) in
      let first = atom_of (form_of feeds from.0) in
      let end = atom_of (form_of feeds to.0) in
      does_is (until last (named text (counting text first end block line)))
      (until_is last (named text (counting text first end block line))
      (if_named text (counting text first end block line) (counting_is text first end block line (atom_is (form_of feeds from.0) from.1) (atom_is (form_of feeds to.0) to.1) (block_are stmts)))))
  stmt_kind_layer_is (tree.StmtKind::Match operand cases) = stmt_via (tree.StmtKind::Match operand.0 (map case_in cases)) (λ line. tt)
  stmt_kind_layer_is (tree.Return None) = stmt_via (tree.Return None) (λ line. tt)
  stmt_kind_layer_is (tree.Return (Some value)) = stmt_via (tree.Return (Some value.0)) (λ line. returned_is (atom_of (form_of feeds value.0)) (atom_is (form_of feeds value.0) value.1))
  stmt_kind_layer_is (tree.Skip tokens) = stmt_via (tree.Skip tokens) (λ line. tt)

  else_via : (x : tree.Else-F Else ExprKind StmtKind Case Expr Field source.Stmt) → IfThere StmtsAre (else_step (map-Else Else ExprKind StmtKind Case Expr Field source.Stmt (Option (List Stmt)) (ℕ → Form) (ℕ → Read) (Unit {0}) Form (Unit {0}) Read (else_of feeds) (form_of_kind feeds) (read_of_kind feeds) (λ case. tt) (form_of feeds) (λ field. tt) (read_of feeds) x)) → ElseIs (roll-Else x)
  else_via x h = subst (λ (found : Option (List Stmt)). IfThere StmtsAre found) (sym (else_layer feeds x)) h

  else_layer_is : (y : tree.Else-F KnownElse KnownKind KnownStmtKind KnownCase KnownExpr KnownField KnownStmt) → ElseIs (roll-Else (map-Else KnownElse KnownKind KnownStmtKind KnownCase KnownExpr KnownField KnownStmt Else ExprKind StmtKind Case Expr Field source.Stmt else_in kind_in stmt_kind_in case_in expr_in field_in stmt_in y))
  else_layer_is tree.Nothing = else_via tree.Nothing tt
  else_layer_is (tree.Block stmts) = else_via (tree.Block (map stmt_in stmts)) (block_are stmts)
  else_layer_is (tree.Else::If x) = else_via (tree.Else::If x.0) tt

  expr_layer_is : (y : tree.Expr-F KnownElse KnownKind KnownStmtKind KnownCase KnownExpr KnownField KnownStmt) → ExprIs (roll-Expr (map-Expr KnownElse KnownKind KnownStmtKind KnownCase KnownExpr KnownField KnownStmt Else ExprKind StmtKind Case Expr Field source.Stmt else_in kind_in stmt_kind_in case_in expr_in field_in stmt_in y))
  unfolding form_of form_of_kind
  expr_layer_is y =
      subst FormIs (sym (fold-roll-Expr (Option (List Stmt)) (ℕ → Form) (ℕ → Read) (Unit {0}) Form (Unit {0}) Read else_step expr_kind_step stmt_kind_step (λ case. tt) (expr_step feeds) (λ field. tt) (stmt_step feeds) (map-Expr KnownElse KnownKind KnownStmtKind KnownCase KnownExpr KnownField KnownStmt Else ExprKind StmtKind Case Expr Field source.Stmt else_in kind_in stmt_kind_in case_in expr_in field_in stmt_in y)))
      (y.kind.1 (line_at feeds y.span.from))

  stmt_layer_is : (y : tree.Stmt-F KnownElse KnownKind KnownStmtKind KnownCase KnownExpr KnownField KnownStmt) → StmtReads (source.roll-Stmt (map-Stmt KnownElse KnownKind KnownStmtKind KnownCase KnownExpr KnownField KnownStmt Else ExprKind StmtKind Case Expr Field source.Stmt else_in kind_in stmt_kind_in case_in expr_in field_in stmt_in y))
  unfolding read_of read_of_kind
  stmt_layer_is y =
      subst ReadIs (sym (fold-roll-Stmt (Option (List Stmt)) (ℕ → Form) (ℕ → Read) (Unit {0}) Form (Unit {0}) Read else_step expr_kind_step stmt_kind_step (λ case. tt) (expr_step feeds) (λ field. tt) (stmt_step feeds) (map-Stmt KnownElse KnownKind KnownStmtKind KnownCase KnownExpr KnownField KnownStmt Else ExprKind StmtKind Case Expr Field source.Stmt else_in kind_in stmt_kind_in case_in expr_in field_in stmt_in y)))
      (y.kind.1 (line_at feeds y.span.from))

  pub stmt_is : (x : source.Stmt) → StmtReads x
  stmt_is x =
      ind-Stmt ElseIs KindIs StmtKindIs CaseIs ExprIs FieldIs StmtReads
      (λ x y same. subst (λ z. ElseIs (roll-Else z)) same (else_layer_is y))
      (λ x y same. subst (λ z. KindIs (roll-ExprKind z)) same (kind_layer y))
      (λ x y same. subst (λ z. StmtKindIs (roll-StmtKind z)) same (stmt_kind_layer_is y))
      (λ x y same. tt)
      (λ x y same. subst (λ z. ExprIs (roll-Expr z)) same (expr_layer_is y))
      (λ x y same. tt)
      (λ x y same. subst (λ z. StmtReads (source.roll-Stmt z)) same (stmt_layer_is y))
      x
