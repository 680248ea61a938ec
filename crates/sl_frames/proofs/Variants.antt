-- The C of expressions and statements, and how many temporaries statements need, one variant at a time.
use Rattle.std.proofs.Common.{◌≡◌, ℕ, suc, ℤ, List, [], ◌∷◌, ◌++◌, Option, Some, None, map, sym, ap, ◌∙◌}
use Rattle.std.specs.Prelude.{max, option_map, slice_get}
use Rattle.sl_num.specs.declared.arithmetic.Op.{Op}
use Rattle.sl_num.specs.declared.comparing.Comparison.{Comparison}
use Rattle.sl_core.specs.declared.tree.Core.{Core}
use Rattle.sl_core.specs.declared.tree.CorePath.{CorePath}
use Rattle.sl_core.specs.declared.tree.CoreExpr.{CoreExpr}
use Rattle.sl_core.specs.declared.tree.CoreExpr.TheOpen as expr_layer
use Rattle.sl_core.specs.declared.tree.CoreExpr.TheVariants as expr
use Rattle.sl_core.specs.declared.tree.CoreStmt.{CoreStmt}
use Rattle.sl_core.specs.declared.tree.CoreStmt.TheOpen as stmt_layer
use Rattle.sl_core.specs.declared.tree.CoreStmt.TheVariants as stmt
use Rattle.c_tree.specs.declared.tree.CExpr.TheVariants.{Read, Compare}
use Rattle.c_tree.specs.declared.tree.CStmt.TheVariants.{Assign, Call, If, Loop, Break, Return, Get, Halt}
use Rattle.c_helpers.specs.Functions.{constant}
use Rattle.sl_frames.specs.Names.{place_of, called_name}
use Rattle.sl_core.specs.Sound.{greatest}
use Rattle.sl_frames.specs.Translated.{number_expr, temporary, operate, code_of, with_value, text_of, put_code, else_of, joined, stmts_of, needed, needs}
use Rattle.sl_frames.proofs.Layers.{code_layer, text_layer, stmts_layer, needs_layer}

-- The C of expressions ------------------------------------------------------------------------------------------------

-- of a number
pub code_of_number : (number : ℤ) (type free : ℕ) → code_of (expr.Number number type) free ≡ record { before = []; value = number_expr number; free = free }
code_of_number number type free = ap (λ e. code_of e free) (sym (expr.rolls-Number number type)) ∙ ap (λ code. code free) (code_layer (expr_layer.Number number type))

-- of a text
pub code_of_text : (bytes : List ℕ) (free : ℕ) → code_of (expr.TextOf bytes) free ≡ record { before = []; value = constant 0; free = free }
code_of_text bytes free = ap (λ e. code_of e free) (sym (expr.rolls-TextOf bytes)) ∙ ap (λ code. code free) (code_layer (expr_layer.TextOf bytes))

-- of a place
pub code_of_path : (path : CorePath) (type free : ℕ) → code_of (expr.Path path type) free ≡ record { before = []; value = Read (place_of path); free = free }
code_of_path path type free = ap (λ e. code_of e free) (sym (expr.rolls-Path path type)) ∙ ap (λ code. code free) (code_layer (expr_layer.Path path type))

-- of a comparison
pub code_of_compare : (comparison : Comparison) (left right : CoreExpr) (type free : ℕ)
    → code_of (expr.Compare comparison left right type) free
    ≡ record {
      before = (code_of left free).before ++ (code_of right (code_of left free).free).before;
      value = Compare comparison (code_of left free).value (code_of right (code_of left free).free).value;
      free = (code_of right (code_of left free).free).free;
    }
code_of_compare comparison left right type free =
    ap (λ e. code_of e free) (sym (expr.rolls-Compare comparison left right type))
    ∙ ap (λ code. code free) (code_layer (expr_layer.Compare comparison left right type))

-- of an operation
pub code_of_apply : (op : Op) (left right : CoreExpr) (type file line free : ℕ)
    → code_of (expr.Apply op left right type file line) free
    ≡ record {
      before =
          (code_of left free).before
          ++ (code_of right (code_of left free).free).before
          ++ operate op (code_of right (code_of left free).free).free (code_of left free).value (code_of right (code_of left free).free).value file line;
      value = temporary (code_of right (code_of left free).free).free;
      free = suc (code_of right (code_of left free).free).free;
    }
code_of_apply op left right type file line free =
    ap (λ e. code_of e free) (sym (expr.rolls-Apply op left right type file line))
    ∙ ap (λ code. code free) (code_layer (expr_layer.Apply op left right type file line))

pub ruleset codes_of = (code_of_number, code_of_text, code_of_path, code_of_compare, code_of_apply)

-- Texts ---------------------------------------------------------------------------------------------------------------

-- a number is none
pub text_of_number : (number : ℤ) (type : ℕ) → text_of (expr.Number number type) ≡ None
text_of_number number type = ap text_of (sym (expr.rolls-Number number type)) ∙ text_layer (expr_layer.Number number type)

-- a text has its bytes
pub text_of_text : (bytes : List ℕ) → text_of (expr.TextOf bytes) ≡ Some bytes
text_of_text bytes = ap text_of (sym (expr.rolls-TextOf bytes)) ∙ text_layer (expr_layer.TextOf bytes)

-- a place is none
pub text_of_path : (path : CorePath) (type : ℕ) → text_of (expr.Path path type) ≡ None
text_of_path path type = ap text_of (sym (expr.rolls-Path path type)) ∙ text_layer (expr_layer.Path path type)

-- a comparison is none
pub text_of_compare : (comparison : Comparison) (left right : CoreExpr) (type : ℕ) → text_of (expr.Compare comparison left right type) ≡ None
text_of_compare comparison left right type = ap text_of (sym (expr.rolls-Compare comparison left right type)) ∙ text_layer (expr_layer.Compare comparison left right type)

-- an operation is none
pub text_of_apply : (op : Op) (left right : CoreExpr) (type file line : ℕ) → text_of (expr.Apply op left right type file line) ≡ None
text_of_apply op left right type file line = ap text_of (sym (expr.rolls-Apply op left right type file line)) ∙ text_layer (expr_layer.Apply op left right type file line)

pub ruleset texts_of = (text_of_number, text_of_text, text_of_path, text_of_compare, text_of_apply)

-- The C of statements -------------------------------------------------------------------------------------------------

module _ (core : Core) where
  -- of a store
  pub stmts_of_store : (path : CorePath) (e : CoreExpr) → stmts_of core (stmt.Store path e) ≡ with_value e (Assign (place_of path))
  stmts_of_store path e = ap (stmts_of core) (sym (stmt.rolls-Store path e)) ∙ stmts_layer core (stmt_layer.Store path e)

  -- of a choice
  pub stmts_of_if : (test : CoreExpr) (chosen other : List CoreStmt)
      → stmts_of core (stmt.If test chosen other)
      ≡ with_value test (λ value. If value (joined (map (stmts_of core) chosen)) (else_of (joined (map (stmts_of core) other))))
  stmts_of_if test chosen other = ap (stmts_of core) (sym (stmt.rolls-If test chosen other)) ∙ stmts_layer core (stmt_layer.If test chosen other)

  -- of a loop
  pub stmts_of_loop : (stmts : List CoreStmt) → stmts_of core (stmt.Loop stmts) ≡ Loop (joined (map (stmts_of core) stmts)) ∷ []
  stmts_of_loop stmts = ap (stmts_of core) (sym (stmt.rolls-Loop stmts)) ∙ stmts_layer core (stmt_layer.Loop stmts)

  -- of a break
  pub stmts_of_break : stmts_of core stmt.Break ≡ Break ∷ []
  stmts_of_break = ap (stmts_of core) (sym stmt.rolls-Break) ∙ stmts_layer core stmt_layer.Break

  -- of a call
  pub stmts_of_call : (target : Option CorePath) (number : ℕ)
      → stmts_of core (stmt.Call target number)
      ≡ Call (option_map place_of target) (called_name core number (slice_get core.functions number)) [] ∷ []
  stmts_of_call target number = ap (stmts_of core) (sym (stmt.rolls-Call target number)) ∙ stmts_layer core (stmt_layer.Call target number)

  -- of what is printed
  pub stmts_of_put : (e : CoreExpr) → stmts_of core (stmt.Put e) ≡ put_code (text_of e) e
  stmts_of_put e = ap (stmts_of core) (sym (stmt.rolls-Put e)) ∙ stmts_layer core (stmt_layer.Put e)

  -- of a byte that is asked for
  pub stmts_of_get : (path : CorePath) → stmts_of core (stmt.Get path) ≡ Get (place_of path) ∷ []
  stmts_of_get path = ap (stmts_of core) (sym (stmt.rolls-Get path)) ∙ stmts_layer core (stmt_layer.Get path)

  -- of a halt
  pub stmts_of_halt : (kind file line : ℕ) → stmts_of core (stmt.Halt kind file line) ≡ Halt kind file line ∷ []
  stmts_of_halt kind file line = ap (stmts_of core) (sym (stmt.rolls-Halt kind file line)) ∙ stmts_layer core (stmt_layer.Halt kind file line)

  -- of a return
  pub stmts_of_return : (e : CoreExpr) → stmts_of core (stmt.Return e) ≡ with_value e (λ value. Return (Some value))
  stmts_of_return e = ap (stmts_of core) (sym (stmt.rolls-Return e)) ∙ stmts_layer core (stmt_layer.Return e)

pub ruleset all_stmts_of = (stmts_of_store, stmts_of_if, stmts_of_loop, stmts_of_break, stmts_of_call, stmts_of_put, stmts_of_get, stmts_of_halt, stmts_of_return)

-- How many temporaries statements need --------------------------------------------------------------------------------

-- a store
pub needs_of_store : (path : CorePath) (e : CoreExpr) → needs (stmt.Store path e) ≡ needed e
needs_of_store path e = ap needs (sym (stmt.rolls-Store path e)) ∙ needs_layer (stmt_layer.Store path e)

-- a choice
pub needs_of_if : (test : CoreExpr) (chosen other : List CoreStmt) → needs (stmt.If test chosen other) ≡ max (needed test) (max (greatest (map needs chosen)) (greatest (map needs other)))
needs_of_if test chosen other = ap needs (sym (stmt.rolls-If test chosen other)) ∙ needs_layer (stmt_layer.If test chosen other)

-- a loop
pub needs_of_loop : (stmts : List CoreStmt) → needs (stmt.Loop stmts) ≡ greatest (map needs stmts)
needs_of_loop stmts = ap needs (sym (stmt.rolls-Loop stmts)) ∙ needs_layer (stmt_layer.Loop stmts)

-- a break
pub needs_of_break : needs stmt.Break ≡ 0
needs_of_break = ap needs (sym stmt.rolls-Break) ∙ needs_layer stmt_layer.Break

-- a call
pub needs_of_call : (target : Option CorePath) (number : ℕ) → needs (stmt.Call target number) ≡ 0
needs_of_call target number = ap needs (sym (stmt.rolls-Call target number)) ∙ needs_layer (stmt_layer.Call target number)

-- what is printed
pub needs_of_put : (e : CoreExpr) → needs (stmt.Put e) ≡ needed e
needs_of_put e = ap needs (sym (stmt.rolls-Put e)) ∙ needs_layer (stmt_layer.Put e)

-- a byte that is asked for
pub needs_of_get : (path : CorePath) → needs (stmt.Get path) ≡ 0
needs_of_get path = ap needs (sym (stmt.rolls-Get path)) ∙ needs_layer (stmt_layer.Get path)

-- a halt
pub needs_of_halt : (kind file line : ℕ) → needs (stmt.Halt kind file line) ≡ 0
needs_of_halt kind file line = ap needs (sym (stmt.rolls-Halt kind file line)) ∙ needs_layer (stmt_layer.Halt kind file line)

-- a return
pub needs_of_return : (e : CoreExpr) → needs (stmt.Return e) ≡ needed e
needs_of_return e = ap needs (sym (stmt.rolls-Return e)) ∙ needs_layer (stmt_layer.Return e)

pub ruleset all_needs = (needs_of_store, needs_of_if, needs_of_loop, needs_of_break, needs_of_call, needs_of_put, needs_of_get, needs_of_halt, needs_of_return)
