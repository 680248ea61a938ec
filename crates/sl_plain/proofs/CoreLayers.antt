-- Kinds, fit, ranges and depth of the expressions and statements of a core, one variant at a time.
use Rattle.std.proofs.Common.{◌≡◌, ℕ, ◌+◌, ℤ, List, true, false, ◌&&◌, ◌||◌, nat_lt, max, map, is_some, Option, Some, None, option_and_then, if◌then◌else◌, sym, ap, ◌∙◌}
use Rattle.std.specs.List.{list_all, list_any}
use Rattle.sl_num.specs.declared.arithmetic.Op.{Op}
use Rattle.sl_num.specs.declared.comparing.Comparison.{Comparison}
use Rattle.sl_core.specs.declared.tree.Core.{Core}
use Rattle.sl_core.specs.declared.tree.CoreFun.{CoreFun}
use Rattle.sl_core.specs.declared.tree.CorePath.{CorePath}
use Rattle.sl_core.specs.declared.tree.CoreExpr.{CoreExpr}
use Rattle.sl_core.specs.declared.tree.CoreExpr.TheOpen as expr_layer
use Rattle.sl_core.specs.declared.tree.CoreExpr.TheVariants as expr
use Rattle.sl_core.specs.declared.tree.CoreStmt.{CoreStmt}
use Rattle.sl_core.specs.declared.tree.CoreStmt.TheOpen as stmt_layer
use Rattle.sl_core.specs.declared.tree.CoreStmt.TheVariants as stmt
use Rattle.sl_core.specs.Sound.{kind_step, kind_of, fits, expr_depth, stmt_depth, greatest, type_of_place, is_number_of, is_number, call_fits, holds_bytes, strays, expr_in_range, stmt_in_range, is_source_place}
use Rattle.sl_core.proofs.Layers.{kind_layer, fits_layer, expr_depth_layer, stmt_depth_layer, expr_range_layer, stmt_range_layer, strays_layer}

module _ (core : Core) (function : CoreFun) where
  pub kind_of_number : (number : ℤ) (type : ℕ) → kind_of core function (expr.Number number type) ≡ kind_step core function (expr_layer.Number number type)
  kind_of_number number type = ap (kind_of core function) (sym (expr.rolls-Number number type)) ∙ kind_layer core function (expr_layer.Number number type)

  pub kind_of_text : (bytes : List ℕ) → kind_of core function (expr.TextOf bytes) ≡ kind_step core function (expr_layer.TextOf bytes)
  kind_of_text bytes = ap (kind_of core function) (sym (expr.rolls-TextOf bytes)) ∙ kind_layer core function (expr_layer.TextOf bytes)

  pub kind_of_path : (path : CorePath) (type : ℕ) → kind_of core function (expr.Path path type) ≡ kind_step core function (expr_layer.Path path type)
  kind_of_path path type = ap (kind_of core function) (sym (expr.rolls-Path path type)) ∙ kind_layer core function (expr_layer.Path path type)

  pub kind_of_apply : (op : Op) (left right : CoreExpr) (type file line : ℕ) → kind_of core function (expr.Apply op left right type file line) ≡ kind_step core function (expr_layer.Apply op (kind_of core function left) (kind_of core function right) type file line)
  kind_of_apply op left right type file line = ap (kind_of core function) (sym (expr.rolls-Apply op left right type file line)) ∙ kind_layer core function (expr_layer.Apply op left right type file line)

  pub kind_of_compare : (by : Comparison) (left right : CoreExpr) (type : ℕ) → kind_of core function (expr.Compare by left right type) ≡ kind_step core function (expr_layer.Compare by (kind_of core function left) (kind_of core function right) type)
  kind_of_compare by left right type = ap (kind_of core function) (sym (expr.rolls-Compare by left right type)) ∙ kind_layer core function (expr_layer.Compare by left right type)

  pub store_fits : (path : CorePath) (e : CoreExpr) → fits core function (stmt.Store path e) ≡ is_some (option_and_then (λ type. if is_number_of type (kind_of core function e) then Some type else None) (type_of_place function path))
  store_fits path e = ap (fits core function) (sym (stmt.rolls-Store path e)) ∙ fits_layer core function (stmt_layer.Store path e)

  pub if_fits : (test : CoreExpr) (chosen other : List CoreStmt) → fits core function (stmt.If test chosen other) ≡ (is_number (kind_of core function test) && list_all (λ so. so) (map (fits core function) chosen) && list_all (λ so. so) (map (fits core function) other))
  if_fits test chosen other = ap (fits core function) (sym (stmt.rolls-If test chosen other)) ∙ fits_layer core function (stmt_layer.If test chosen other)

  pub loop_fits : (stmts : List CoreStmt) → fits core function (stmt.Loop stmts) ≡ list_all (λ so. so) (map (fits core function) stmts)
  loop_fits stmts = ap (fits core function) (sym (stmt.rolls-Loop stmts)) ∙ fits_layer core function (stmt_layer.Loop stmts)

  pub break_fits : fits core function stmt.Break ≡ true
  break_fits = ap (fits core function) (sym stmt.rolls-Break) ∙ fits_layer core function stmt_layer.Break

  pub get_fits : (path : CorePath) → fits core function (stmt.Get path) ≡ holds_bytes core function path
  get_fits path = ap (fits core function) (sym (stmt.rolls-Get path)) ∙ fits_layer core function (stmt_layer.Get path)

  pub call_fits_is : (target : Option CorePath) (number : ℕ) → fits core function (stmt.Call target number) ≡ call_fits core function target number
  call_fits_is target number = ap (fits core function) (sym (stmt.rolls-Call target number)) ∙ fits_layer core function (stmt_layer.Call target number)

  pub put_fits : (e : CoreExpr) → fits core function (stmt.Put e) ≡ is_some (kind_of core function e)
  put_fits e = ap (fits core function) (sym (stmt.rolls-Put e)) ∙ fits_layer core function (stmt_layer.Put e)

  pub halt_fits : (kind file line : ℕ) → fits core function (stmt.Halt kind file line) ≡ true
  halt_fits kind file line = ap (fits core function) (sym (stmt.rolls-Halt kind file line)) ∙ fits_layer core function (stmt_layer.Halt kind file line)

  pub return_fits : (e : CoreExpr) → fits core function (stmt.Return e) ≡ is_number_of function.result (kind_of core function e)
  return_fits e = ap (fits core function) (sym (stmt.rolls-Return e)) ∙ fits_layer core function (stmt_layer.Return e)

pub number_depth : (number : ℤ) (type : ℕ) → expr_depth (expr.Number number type) ≡ 1
number_depth number type = ap expr_depth (sym (expr.rolls-Number number type)) ∙ expr_depth_layer (expr_layer.Number number type)

pub text_depth : (bytes : List ℕ) → expr_depth (expr.TextOf bytes) ≡ 1
text_depth bytes = ap expr_depth (sym (expr.rolls-TextOf bytes)) ∙ expr_depth_layer (expr_layer.TextOf bytes)

pub path_depth : (path : CorePath) (type : ℕ) → expr_depth (expr.Path path type) ≡ 1
path_depth path type = ap expr_depth (sym (expr.rolls-Path path type)) ∙ expr_depth_layer (expr_layer.Path path type)

pub apply_depth : (op : Op) (left right : CoreExpr) (type file line : ℕ) → expr_depth (expr.Apply op left right type file line) ≡ 1 + max (expr_depth left) (expr_depth right)
apply_depth op left right type file line = ap expr_depth (sym (expr.rolls-Apply op left right type file line)) ∙ expr_depth_layer (expr_layer.Apply op left right type file line)

pub compare_depth : (by : Comparison) (left right : CoreExpr) (type : ℕ) → expr_depth (expr.Compare by left right type) ≡ 1 + max (expr_depth left) (expr_depth right)
compare_depth by left right type = ap expr_depth (sym (expr.rolls-Compare by left right type)) ∙ expr_depth_layer (expr_layer.Compare by left right type)

pub store_depth : (path : CorePath) (e : CoreExpr) → stmt_depth (stmt.Store path e) ≡ 1 + expr_depth e
store_depth path e = ap stmt_depth (sym (stmt.rolls-Store path e)) ∙ stmt_depth_layer (stmt_layer.Store path e)

pub if_depth : (test : CoreExpr) (chosen other : List CoreStmt) → stmt_depth (stmt.If test chosen other) ≡ 1 + max (expr_depth test) (max (greatest (map stmt_depth chosen)) (greatest (map stmt_depth other)))
if_depth test chosen other = ap stmt_depth (sym (stmt.rolls-If test chosen other)) ∙ stmt_depth_layer (stmt_layer.If test chosen other)

pub loop_depth : (stmts : List CoreStmt) → stmt_depth (stmt.Loop stmts) ≡ 1 + greatest (map stmt_depth stmts)
loop_depth stmts = ap stmt_depth (sym (stmt.rolls-Loop stmts)) ∙ stmt_depth_layer (stmt_layer.Loop stmts)

pub break_depth : stmt_depth stmt.Break ≡ 1
break_depth = ap stmt_depth (sym stmt.rolls-Break) ∙ stmt_depth_layer stmt_layer.Break

pub get_depth : (path : CorePath) → stmt_depth (stmt.Get path) ≡ 1
get_depth path = ap stmt_depth (sym (stmt.rolls-Get path)) ∙ stmt_depth_layer (stmt_layer.Get path)

pub call_depth : (target : Option CorePath) (number : ℕ) → stmt_depth (stmt.Call target number) ≡ 1
call_depth target number = ap stmt_depth (sym (stmt.rolls-Call target number)) ∙ stmt_depth_layer (stmt_layer.Call target number)

pub put_depth : (e : CoreExpr) → stmt_depth (stmt.Put e) ≡ 1 + expr_depth e
put_depth e = ap stmt_depth (sym (stmt.rolls-Put e)) ∙ stmt_depth_layer (stmt_layer.Put e)

pub halt_depth : (kind file line : ℕ) → stmt_depth (stmt.Halt kind file line) ≡ 1
halt_depth kind file line = ap stmt_depth (sym (stmt.rolls-Halt kind file line)) ∙ stmt_depth_layer (stmt_layer.Halt kind file line)

pub return_depth : (e : CoreExpr) → stmt_depth (stmt.Return e) ≡ 1 + expr_depth e
return_depth e = ap stmt_depth (sym (stmt.rolls-Return e)) ∙ stmt_depth_layer (stmt_layer.Return e)

pub number_range : (number : ℤ) (type : ℕ) → expr_in_range (expr.Number number type) ≡ true
number_range number type = ap expr_in_range (sym (expr.rolls-Number number type)) ∙ expr_range_layer (expr_layer.Number number type)

pub text_range : (bytes : List ℕ) → expr_in_range (expr.TextOf bytes) ≡ list_all (λ byte. nat_lt byte 256) bytes
text_range bytes = ap expr_in_range (sym (expr.rolls-TextOf bytes)) ∙ expr_range_layer (expr_layer.TextOf bytes)

pub path_range : (path : CorePath) (type : ℕ) → expr_in_range (expr.Path path type) ≡ true
path_range path type = ap expr_in_range (sym (expr.rolls-Path path type)) ∙ expr_range_layer (expr_layer.Path path type)

pub apply_range : (op : Op) (left right : CoreExpr) (type file line : ℕ) → expr_in_range (expr.Apply op left right type file line) ≡ (expr_in_range left && expr_in_range right && is_source_place file line)
apply_range op left right type file line = ap expr_in_range (sym (expr.rolls-Apply op left right type file line)) ∙ expr_range_layer (expr_layer.Apply op left right type file line)

pub compare_range : (by : Comparison) (left right : CoreExpr) (type : ℕ) → expr_in_range (expr.Compare by left right type) ≡ (expr_in_range left && expr_in_range right)
compare_range by left right type = ap expr_in_range (sym (expr.rolls-Compare by left right type)) ∙ expr_range_layer (expr_layer.Compare by left right type)

pub store_range : (path : CorePath) (e : CoreExpr) → stmt_in_range (stmt.Store path e) ≡ expr_in_range e
store_range path e = ap stmt_in_range (sym (stmt.rolls-Store path e)) ∙ stmt_range_layer (stmt_layer.Store path e)

pub if_range : (test : CoreExpr) (chosen other : List CoreStmt) → stmt_in_range (stmt.If test chosen other) ≡ (expr_in_range test && list_all (λ so. so) (map stmt_in_range chosen) && list_all (λ so. so) (map stmt_in_range other))
if_range test chosen other = ap stmt_in_range (sym (stmt.rolls-If test chosen other)) ∙ stmt_range_layer (stmt_layer.If test chosen other)

pub loop_range : (stmts : List CoreStmt) → stmt_in_range (stmt.Loop stmts) ≡ list_all (λ so. so) (map stmt_in_range stmts)
loop_range stmts = ap stmt_in_range (sym (stmt.rolls-Loop stmts)) ∙ stmt_range_layer (stmt_layer.Loop stmts)

pub break_range : stmt_in_range stmt.Break ≡ true
break_range = ap stmt_in_range (sym stmt.rolls-Break) ∙ stmt_range_layer stmt_layer.Break

pub get_range : (path : CorePath) → stmt_in_range (stmt.Get path) ≡ true
get_range path = ap stmt_in_range (sym (stmt.rolls-Get path)) ∙ stmt_range_layer (stmt_layer.Get path)

pub call_range : (target : Option CorePath) (number : ℕ) → stmt_in_range (stmt.Call target number) ≡ true
call_range target number = ap stmt_in_range (sym (stmt.rolls-Call target number)) ∙ stmt_range_layer (stmt_layer.Call target number)

pub put_range : (e : CoreExpr) → stmt_in_range (stmt.Put e) ≡ expr_in_range e
put_range e = ap stmt_in_range (sym (stmt.rolls-Put e)) ∙ stmt_range_layer (stmt_layer.Put e)

pub halt_range : (kind file line : ℕ) → stmt_in_range (stmt.Halt kind file line) ≡ (nat_lt kind 256 && is_source_place file line)
halt_range kind file line = ap stmt_in_range (sym (stmt.rolls-Halt kind file line)) ∙ stmt_range_layer (stmt_layer.Halt kind file line)

pub return_range : (e : CoreExpr) → stmt_in_range (stmt.Return e) ≡ expr_in_range e
return_range e = ap stmt_in_range (sym (stmt.rolls-Return e)) ∙ stmt_range_layer (stmt_layer.Return e)

pub store_strays : (path : CorePath) (e : CoreExpr) → strays (stmt.Store path e) ≡ false
store_strays path e = ap strays (sym (stmt.rolls-Store path e)) ∙ strays_layer (stmt_layer.Store path e)

pub if_strays : (test : CoreExpr) (chosen other : List CoreStmt) → strays (stmt.If test chosen other) ≡ (list_any (λ so. so) (map strays chosen) || list_any (λ so. so) (map strays other))
if_strays test chosen other = ap strays (sym (stmt.rolls-If test chosen other)) ∙ strays_layer (stmt_layer.If test chosen other)

pub loop_strays : (stmts : List CoreStmt) → strays (stmt.Loop stmts) ≡ false
loop_strays stmts = ap strays (sym (stmt.rolls-Loop stmts)) ∙ strays_layer (stmt_layer.Loop stmts)

pub call_strays : (target : Option CorePath) (number : ℕ) → strays (stmt.Call target number) ≡ false
call_strays target number = ap strays (sym (stmt.rolls-Call target number)) ∙ strays_layer (stmt_layer.Call target number)

pub put_strays : (e : CoreExpr) → strays (stmt.Put e) ≡ false
put_strays e = ap strays (sym (stmt.rolls-Put e)) ∙ strays_layer (stmt_layer.Put e)

pub get_strays : (path : CorePath) → strays (stmt.Get path) ≡ false
get_strays path = ap strays (sym (stmt.rolls-Get path)) ∙ strays_layer (stmt_layer.Get path)

pub halt_strays : (kind file line : ℕ) → strays (stmt.Halt kind file line) ≡ false
halt_strays kind file line = ap strays (sym (stmt.rolls-Halt kind file line)) ∙ strays_layer (stmt_layer.Halt kind file line)

pub return_strays : (e : CoreExpr) → strays (stmt.Return e) ≡ false
return_strays e = ap strays (sym (stmt.rolls-Return e)) ∙ strays_layer (stmt_layer.Return e)
