-- What statements are, form by form.
use Rattle.std.proofs.Common.{◌≡◌, ℕ, List, [], map, Bool, Option, Some, None, sym, ap, ◌∙◌}
use Rattle.sl_tree.specs.declared.tree.Lexeme.{Lexeme}
use Rattle.sl_tree.specs.declared.tree.TypeTerm.{TypeTerm}
use Rattle.sl_tree.specs.declared.tree.Expr.{Expr}
use Rattle.sl_tree.specs.declared.tree.ExprKind.{ExprKind}
use Rattle.sl_tree.specs.declared.tree.Field.{Field}
use Rattle.sl_tree.specs.declared.tree.Case.{Case}
use Rattle.sl_tree.specs.declared.tree.Stmt as source
use Rattle.sl_tree.specs.declared.tree.StmtKind.{StmtKind, roll-StmtKind}
use Rattle.sl_tree.specs.declared.tree.StmtKind.TheVariants as stmt_kind
use Rattle.sl_tree.specs.declared.tree.Else.{Else}
use Rattle.sl_tree.specs.declared.tree.Else.TheVariants as else_kind
use Rattle.sl_tree.specs.declared.tree.Else.TheOpen as tree
use Rattle.sl_plain.specs.declared.reading.statements.Read.TheVariants as read
use Rattle.sl_plain.specs.Reading.{line_at, name_in, atom_of, condition_of, does, declared, assigned, called_stmt, chosen, repeated, named, until, counting, returned_in, block_of, form_of, read_of, read_of_kind, else_of}
use Rattle.sl_plain.proofs.TreeLayers.{stmt_layer, stmt_kind_layer, else_layer}

of_layer : (feeds : List ℕ) (x : source.Stmt) (y : tree.StmtKind-F Else ExprKind StmtKind Case Expr Field source.Stmt) → (source.out-Stmt x).kind ≡ roll-StmtKind y → read_of feeds x ≡ read_of_kind feeds (roll-StmtKind y) (line_at feeds (source.out-Stmt x).span.from)
of_layer feeds x y is = stmt_layer feeds x ∙ ap (λ k. read_of_kind feeds k (line_at feeds (source.out-Stmt x).span.from)) is

pub let_read : (feeds : List ℕ) (x : source.Stmt) (var : Bool) (text : List ℕ) (ascribed : Option TypeTerm) (value : Expr) → (source.out-Stmt x).kind ≡ stmt_kind.Let var text ascribed value → read_of feeds x ≡ does (declared var text ascribed (form_of feeds value))
let_read feeds x var text ascribed value is = of_layer feeds x (tree.Let var text ascribed value) (is ∙ sym (stmt_kind.rolls-Let var text ascribed value)) ∙ ap (λ f. f (line_at feeds (source.out-Stmt x).span.from)) (stmt_kind_layer feeds (tree.Let var text ascribed value))

pub assign_read : (feeds : List ℕ) (x : source.Stmt) (place value : Expr) → (source.out-Stmt x).kind ≡ stmt_kind.Assign place value → read_of feeds x ≡ does (assigned (name_in (form_of feeds place)) (form_of feeds value))
assign_read feeds x place value is = of_layer feeds x (tree.Assign place value) (is ∙ sym (stmt_kind.rolls-Assign place value)) ∙ ap (λ f. f (line_at feeds (source.out-Stmt x).span.from)) (stmt_kind_layer feeds (tree.Assign place value))

pub call_read : (feeds : List ℕ) (x : source.Stmt) (value : Expr) → (source.out-Stmt x).kind ≡ stmt_kind.Call value → read_of feeds x ≡ does (called_stmt (form_of feeds value) (line_at feeds (source.out-Stmt x).span.from))
call_read feeds x value is = of_layer feeds x (tree.Call value) (is ∙ sym (stmt_kind.rolls-Call value)) ∙ ap (λ f. f (line_at feeds (source.out-Stmt x).span.from)) (stmt_kind_layer feeds (tree.Call value))

pub if_read : (feeds : List ℕ) (x : source.Stmt) (test : Expr) (stmts : List source.Stmt) (other : Else) → (source.out-Stmt x).kind ≡ stmt_kind.If test stmts other → read_of feeds x ≡ does (chosen (condition_of (form_of feeds test)) (block_of (map (read_of feeds) stmts)) (else_of feeds other))
if_read feeds x test stmts other is = of_layer feeds x (tree.StmtKind::If test stmts other) (is ∙ sym (stmt_kind.rolls-If test stmts other)) ∙ ap (λ f. f (line_at feeds (source.out-Stmt x).span.from)) (stmt_kind_layer feeds (tree.StmtKind::If test stmts other))

pub while_read : (feeds : List ℕ) (x : source.Stmt) (test : Expr) (stmts : List source.Stmt) → (source.out-Stmt x).kind ≡ stmt_kind.While test stmts → read_of feeds x ≡ does (repeated (condition_of (form_of feeds test)) (block_of (map (read_of feeds) stmts)))
while_read feeds x test stmts is = of_layer feeds x (tree.While test stmts) (is ∙ sym (stmt_kind.rolls-While test stmts)) ∙ ap (λ f. f (line_at feeds (source.out-Stmt x).span.from)) (stmt_kind_layer feeds (tree.While test stmts))

pub for_read : (feeds : List ℕ) (x : source.Stmt) (text : List ℕ) (from : Expr) (last : Bool) (to : Expr) (stmts : List source.Stmt) → (source.out-Stmt x).kind ≡ stmt_kind.For text from last to stmts → read_of feeds x ≡ does (until last (named text (counting text (atom_of (form_of feeds from)) (atom_of (form_of feeds to)) (block_of (map (read_of feeds) stmts)) (line_at feeds (source.out-Stmt x).span.from))))
for_read feeds x text from last to stmts is = of_layer feeds x (tree.For text from last to stmts) (is ∙ sym (stmt_kind.rolls-For text from last to stmts)) ∙ ap (λ f. f (line_at feeds (source.out-Stmt x).span.from)) (stmt_kind_layer feeds (tree.For text from last to stmts))

pub match_read : (feeds : List ℕ) (x : source.Stmt) (operand : Expr) (cases : List Case) → (source.out-Stmt x).kind ≡ stmt_kind.Match operand cases → read_of feeds x ≡ read.NotPlain
match_read feeds x operand cases is = of_layer feeds x (tree.StmtKind::Match operand cases) (is ∙ sym (stmt_kind.rolls-Match operand cases)) ∙ ap (λ f. f (line_at feeds (source.out-Stmt x).span.from)) (stmt_kind_layer feeds (tree.StmtKind::Match operand cases))

pub return_read : (feeds : List ℕ) (x : source.Stmt) (value : Option Expr) → (source.out-Stmt x).kind ≡ stmt_kind.Return value → read_of feeds x ≡ returned_in feeds value
return_read feeds x None is = of_layer feeds x (tree.Return None) (is ∙ sym (stmt_kind.rolls-Return None)) ∙ ap (λ f. f (line_at feeds (source.out-Stmt x).span.from)) (stmt_kind_layer feeds (tree.Return None))
return_read feeds x (Some value) is = of_layer feeds x (tree.Return (Some value)) (is ∙ sym (stmt_kind.rolls-Return (Some value))) ∙ ap (λ f. f (line_at feeds (source.out-Stmt x).span.from)) (stmt_kind_layer feeds (tree.Return (Some value)))

pub skip_read : (feeds : List ℕ) (x : source.Stmt) (tokens : List Lexeme) → (source.out-Stmt x).kind ≡ stmt_kind.Skip tokens → read_of feeds x ≡ read.Passes
skip_read feeds x tokens is = of_layer feeds x (tree.Skip tokens) (is ∙ sym (stmt_kind.rolls-Skip tokens)) ∙ ap (λ f. f (line_at feeds (source.out-Stmt x).span.from)) (stmt_kind_layer feeds (tree.Skip tokens))

pub else_nothing : (feeds : List ℕ) → else_of feeds else_kind.Nothing ≡ Some []
else_nothing feeds = ap (else_of feeds) (sym else_kind.rolls-Nothing) ∙ else_layer feeds tree.Nothing

pub else_block : (feeds : List ℕ) (stmts : List source.Stmt) → else_of feeds (else_kind.Block stmts) ≡ block_of (map (read_of feeds) stmts)
else_block feeds stmts = ap (else_of feeds) (sym (else_kind.rolls-Block stmts)) ∙ else_layer feeds (tree.Block stmts)

pub else_if : (feeds : List ℕ) (x : source.Stmt) → else_of feeds (else_kind.If x) ≡ None
else_if feeds x = ap (else_of feeds) (sym (else_kind.rolls-If x)) ∙ else_layer feeds (tree.Else::If x)

pub ruleset read_rules = (let_read, assign_read, call_read, if_read, while_read, for_read, match_read, return_read, skip_read, else_nothing, else_block, else_if)
