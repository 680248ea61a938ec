-- The trees that a text can have: what the grammar of Flat.antt asks of a tree beside the order of its tokens.
use Rattle.std.specs.Prelude.{◌≡◌, ◌≢◌, ◌⊎◌, ℕ, ◌+◌, ◌-◌, ◌^◌, ◌≤◌, List, [], ◌∷◌, Bool, true, false, Option, Some, None, IfSome, All, max, map}
use Rattle.std.specs.List.{fold}
use Rattle.c_tree.specs.declared.tree.CFile.{CFile}
use Rattle.c_tree.specs.declared.tree.CStruct.{CStruct}
use Rattle.c_tree.specs.declared.tree.CMember.{CMember}
use Rattle.c_tree.specs.declared.tree.CVar.{CVar}
use Rattle.c_tree.specs.declared.tree.CType.{CType}
use Rattle.c_tree.specs.declared.tree.CType.TheVariants.{Int, Void}
use Rattle.c_tree.specs.declared.tree.CFun.{CFun}
use Rattle.c_tree.specs.declared.tree.CPlace.{CPlace}
use Rattle.c_tree.specs.declared.tree.CPlace.TheVariants.{Name}
use Rattle.c_tree.specs.declared.tree.CStmt.{CStmt, CStmt-F, fold-CStmt}
use Rattle.c_tree.specs.declared.tree.CStmt.TheOpen as stmt
use Rattle.c_tree.specs.declared.tree.CExpr.{CExpr, CExpr-F, fold-CExpr}
use Rattle.c_tree.specs.declared.tree.CExpr.TheOpen as expr
use Rattle.c_tree.specs.Words.{IsName}
use Rattle.c_tree.specs.Parts.{Leaf, Constant, Reads, leaves, Action, Assigns, Calls, Tests, Returns, Puts, Gets, Loops, Counts, Halts, argument_of, actions}

-- the widths of integer types, in bits
abbrev pub IsWidth : ℕ → Type 0
IsWidth width = (width ≡ 8) ⊎ (width ≡ 16) ⊎ (width ≡ 32) ⊎ (width ≡ 64)

-- a kind of variables
abbrev pub IsInteger : CType → Type 0
IsInteger (Int signed width) = IsWidth width
IsInteger Void = ⊥

-- a kind of parameters
abbrev pub IsWord : CType → Type 0
IsWord (Int signed width) = width ≡ 64
IsWord Void = ⊥

-- what a function can give
abbrev pub IsResult : CType → Type 0
IsResult kind = IsWord kind ⊎ (kind ≡ Void)

-- the greatest number of a constant
abbrev pub greatest : Bool → ℕ
greatest true = 2 ^ 63 - 1
greatest false = 2 ^ 64 - 1

pub record IsVar (var : CVar) : Type 0 where
  pub name : IsName var.name
  pub kind : IsInteger var.kind

pub record IsParam (var : CVar) : Type 0 where
  pub name : IsName var.name
  pub kind : IsWord var.kind

-- a member is a variable or an array, or a union of some variables
abbrev pub IsChoice : CMember → List CVar → Type 0
IsChoice member [] = IsInteger member.kind × IfSome member.count (λ count. count ≤ 2 ^ 32 - 1)
IsChoice member (first ∷ others) = (member.kind ≡ Void) × (member.count ≡ None) × All IsVar (first ∷ others)

pub record IsMember (member : CMember) : Type 0 where
  pub name : IsName member.name
  pub choice : IsChoice member member.choice

pub record IsStruct (struct : CStruct) : Type 0 where
  pub name : IsName struct.name
  pub some : struct.members ≢ []
  pub members : All IsMember struct.members

pub record IsHead (function : CFun) : Type 0 where
  pub name : IsName function.name
  pub result : IsResult function.result
  pub params : All IsParam function.params

pub record IsProto (function : CFun) : Type 0 where
  pub head : IsHead function
  pub inline : function.inline ≡ false
  pub vars : function.vars ≡ []
  pub body : function.body ≡ []

abbrev pub IsPlace : CPlace → Type 0
IsPlace (Name name) = IsName name

abbrev pub IsLeaf : Leaf → Type 0
IsLeaf (Constant signed number) = number ≤ greatest signed
IsLeaf (Reads place) = IsPlace place

abbrev pub IsExpr : CExpr → Type 0
IsExpr e = All IsLeaf (leaves e)

-- the numbers of a halt have 8, 32 and 32 bits, and a count has 32
abbrev pub IsAction : Action → Type 0
IsAction (Assigns place e) = IsPlace place × IsExpr e
IsAction (Calls target name arguments) = IfSome target IsPlace × IsName name × All IsExpr arguments
IsAction (Tests test) = IsExpr test
IsAction (Returns value) = IfSome value IsExpr
IsAction (Puts e) = IsExpr e
IsAction (Gets place) = IsPlace place
IsAction Loops = Unit {0}
IsAction (Counts set tested raised count) = IsName set × IsName tested × IsName raised × (count ≤ 2 ^ 32 - 1)
IsAction (Halts kind file line) = (kind ≤ 2 ^ 8 - 1) × (file ≤ 2 ^ 32 - 1) × (line ≤ 2 ^ 32 - 1)

abbrev pub IsStmt : CStmt → Type 0
IsStmt s = All IsAction (actions s)

abbrev pub expr_depth_step : CExpr-F ℕ → ℕ
expr_depth_step (expr.Const signed number) = 1
expr_depth_step (expr.Read place) = 1
expr_depth_step (expr.Binary operator left right) = 1 + max left right
expr_depth_step (expr.Compare comparison left right) = 1 + max left right
expr_depth_step (expr.Negate operand) = 1 + operand

-- how deep expressions nest
unfoldable pub expr_depth : CExpr → ℕ
expr_depth e = fold-CExpr ℕ expr_depth_step e

abbrev pub deepest : List ℕ → ℕ
deepest depths = fold max 0 depths

abbrev pub deepest_else : Option (List ℕ) → ℕ
deepest_else None = 0
deepest_else (Some depths) = deepest depths

abbrev pub returned_depth : Option CExpr → ℕ
returned_depth None = 0
returned_depth (Some e) = expr_depth e

-- a place is one node, which a call has where it has a target; the names of a `for` are no places
abbrev pub target_depth : Option CPlace → ℕ
target_depth None = 0
target_depth (Some place) = 1

abbrev pub stmt_depth_step : CStmt-F ℕ → ℕ
stmt_depth_step (stmt.Assign place e) = 1 + max 1 (expr_depth e)
stmt_depth_step (stmt.Call target name arguments) = 1 + max (target_depth target) (deepest (map (λ argument. expr_depth (argument_of argument)) arguments))
stmt_depth_step (stmt.If test chosen other) = 1 + max (expr_depth test) (max (deepest chosen) (deepest_else other))
stmt_depth_step (stmt.Loop body) = 1 + deepest body
stmt_depth_step (stmt.Count set tested count raised body) = 1 + deepest body
stmt_depth_step stmt.Break = 1
stmt_depth_step (stmt.Return value) = 1 + returned_depth value
stmt_depth_step (stmt.Put e) = 1 + expr_depth e
stmt_depth_step (stmt.Get place) = 2
stmt_depth_step (stmt.Halt kind file line) = 1

-- how deep statements and expressions nest
unfoldable pub stmt_depth : CStmt → ℕ
stmt_depth s = fold-CStmt ℕ stmt_depth_step s

pub record IsFunction (function : CFun) : Type 0 where
  pub head : IsHead function
  pub vars : All IsVar function.vars
  pub body : All IsStmt function.body

-- a tree that a text can have, but for the lines of its functions
pub record IsWellFormed (file : CFile) : Type 0 where
  pub structs : All IsStruct file.structs
  pub globals : All IsVar file.globals
  pub protos : All IsProto file.protos
  pub functions : All IsFunction file.functions
  pub nesting : All (λ function. All (λ stmt. stmt_depth stmt ≤ 1024) function.body) file.functions
