-- The names that can be used behind each form of statement.
use Rattle.std.proofs.Common.{◌≡◌, ℕ, ◌+◌, ◌-◌, List, [], ◌∷◌, length, map, drop, Bool, true, false, ◌&&◌, is_some, Option, Some, refl, sym, ap, ◌∙◌, subst, arith, drop-drop}
use Rattle.std.proofs.lemmas.Option.{same_Some, option_and_then_some}
use Rattle.sl_plain.specs.declared.program.Atom.{Atom}
use Rattle.sl_plain.specs.declared.program.Right.{Right}
use Rattle.sl_plain.specs.declared.program.Condition.{Condition}
use Rattle.sl_plain.specs.declared.program.Kind.{Kind}
use Rattle.sl_plain.specs.declared.program.Stmt.{Stmt, Stmt-F, ind-Stmt, map-Stmt, roll-Stmt}
use Rattle.sl_plain.specs.declared.program.Stmt.TheOpen as open_stmt
use Rattle.sl_plain.specs.declared.program.Stmt.TheVariants as stmt
use Rattle.sl_plain.specs.Program.{Declared, declaration, counted, kind_of_atom, are_numbers, right_fits, condition_fits, assigned_fits, Scoped, where_so, scoped_in_order, block_fits, scoped_step, scoped}
use Rattle.sl_plain.proofs.Layers.{scoped_layer}

abbrev at_scope : List Declared → Scoped → Option (List Declared)
at_scope scope behind = behind scope

pub scoped_declare : (scope : List Declared) (is_var : Bool) (name : List ℕ) (type : Kind) (first : Right) → scoped (stmt.Declare is_var name type first) scope ≡ where_so (right_fits scope type first) (record { name = name; is_var = is_var; type = type } ∷ scope)
scoped_declare scope is_var name type first = ap (λ s. scoped s scope) (sym (stmt.rolls-Declare is_var name type first)) ∙ ap (at_scope scope) (scoped_layer (open_stmt.Declare is_var name type first))

pub scoped_assign : (scope : List Declared) (name : List ℕ) (value : Right) → scoped (stmt.Assign name value) scope ≡ where_so (assigned_fits scope (declaration scope name) value) scope
scoped_assign scope name value = ap (λ s. scoped s scope) (sym (stmt.rolls-Assign name value)) ∙ ap (at_scope scope) (scoped_layer (open_stmt.Assign name value))

pub scoped_print : (scope : List Declared) (atom : Atom) → scoped (stmt.Print atom) scope ≡ where_so (is_some (kind_of_atom scope atom)) scope
scoped_print scope atom = ap (λ s. scoped s scope) (sym (stmt.rolls-Print atom)) ∙ ap (at_scope scope) (scoped_layer (open_stmt.Print atom))

pub scoped_text : (scope : List Declared) (text : List ℕ) → scoped (stmt.PrintText text) scope ≡ Some scope
scoped_text scope text = ap (λ s. scoped s scope) (sym (stmt.rolls-PrintText text)) ∙ ap (at_scope scope) (scoped_layer (open_stmt.PrintText text))

pub scoped_assert : (scope : List Declared) (test : Condition) (line : ℕ) → scoped (stmt.Assert test line) scope ≡ where_so (condition_fits scope test) scope
scoped_assert scope test line = ap (λ s. scoped s scope) (sym (stmt.rolls-Assert test line)) ∙ ap (at_scope scope) (scoped_layer (open_stmt.Assert test line))

pub scoped_halt : (scope : List Declared) (text : List ℕ) (line : ℕ) → scoped (stmt.Halt text line) scope ≡ Some scope
scoped_halt scope text line = ap (λ s. scoped s scope) (sym (stmt.rolls-Halt text line)) ∙ ap (at_scope scope) (scoped_layer (open_stmt.Halt text line))

pub scoped_if : (scope : List Declared) (test : Condition) (chosen other : List Stmt) → scoped (stmt.If test chosen other) scope ≡ where_so (condition_fits scope test && block_fits (map scoped chosen) scope && block_fits (map scoped other) scope) scope
scoped_if scope test chosen other = ap (λ s. scoped s scope) (sym (stmt.rolls-If test chosen other)) ∙ ap (at_scope scope) (scoped_layer (open_stmt.If test chosen other))

pub scoped_while : (scope : List Declared) (test : Condition) (body : List Stmt) → scoped (stmt.While test body) scope ≡ where_so (condition_fits scope test && block_fits (map scoped body) scope) scope
scoped_while scope test body = ap (λ s. scoped s scope) (sym (stmt.rolls-While test body)) ∙ ap (at_scope scope) (scoped_layer (open_stmt.While test body))

pub scoped_for : (scope : List Declared) (name : List ℕ) (from end : Atom) (body : List Stmt) (line : ℕ)
    → scoped (stmt.For name from end body line) scope ≡ where_so (are_numbers scope from end && block_fits (map scoped body) (counted name ∷ scope)) scope
scoped_for scope name from end body line = ap (λ s. scoped s scope) (sym (stmt.rolls-For name from end body line)) ∙ ap (at_scope scope) (scoped_layer (open_stmt.For name from end body line))

-- behind statements there are more names, and those that were there
pub record Keeps (scope more : List Declared) : Type 0 where
  pub count : ℕ
  pub long : length more ≡ count + length scope
  pub rest : drop count more ≡ scope

same_keeps : (scope : List Declared) → Keeps scope scope
same_keeps scope = record { count = 0; long = omega arith; rest = refl }

where_so_is : (so : Bool) (next more : List Declared) → where_so so next ≡ Some more → next ≡ more
where_so_is true next more e = same_Some next more e
where_so_is false next more e = cc

abbrev Claim : Stmt → Type 0
Claim s = (scope more : List Declared) → scoped s scope ≡ Some more → Keeps scope more

abbrev Known : Type 0
Known = (s : Stmt) × Claim s

abbrev first : Known → Stmt
first known = known.0

stmt_keeps : (s : Stmt) → Claim s
stmt_keeps s = ind-Stmt Claim (λ x y same. subst (λ z. Claim (roll-Stmt z)) same (layer y)) s
  where
    still : (x : Stmt-F Stmt) (so : Bool) (scope more next : List Declared) → scoped_step (map-Stmt Stmt Scoped scoped x) scope ≡ where_so so next → Keeps scope next → scoped (roll-Stmt x) scope ≡ Some more → Keeps scope more
    still x so scope more next step keeps e =
        subst (Keeps scope) (where_so_is so next more (sym (ap (at_scope scope) (scoped_layer x) ∙ step) ∙ e)) keeps

    layer : (y : Stmt-F Known) → Claim (roll-Stmt (map-Stmt Known Stmt first y))
    layer (open_stmt.Declare is_var name type right) scope more e =
        still (open_stmt.Declare is_var name type right) (right_fits scope type right) scope more (record { name = name; is_var = is_var; type = type } ∷ scope) refl (record { count = 1; long = omega arith; rest = refl }) e
    layer (open_stmt.Assign name value) scope more e = still (open_stmt.Assign name value) (assigned_fits scope (declaration scope name) value) scope more scope refl (same_keeps scope) e
    layer (open_stmt.Print atom) scope more e = still (open_stmt.Print atom) (is_some (kind_of_atom scope atom)) scope more scope refl (same_keeps scope) e
    layer (open_stmt.PrintText text) scope more e = still (open_stmt.PrintText text) true scope more scope refl (same_keeps scope) e
    layer (open_stmt.If test chosen other) scope more e =
        still (open_stmt.If test (map first chosen) (map first other)) (condition_fits scope test && block_fits (map scoped (map first chosen)) scope && block_fits (map scoped (map first other)) scope) scope more scope refl (same_keeps scope) e
    layer (open_stmt.While test body) scope more e =
        still (open_stmt.While test (map first body)) (condition_fits scope test && block_fits (map scoped (map first body)) scope) scope more scope refl (same_keeps scope) e
    layer (open_stmt.For name from end body line) scope more e =
        still (open_stmt.For name from end (map first body) line) (are_numbers scope from end && block_fits (map scoped (map first body)) (counted name ∷ scope)) scope more scope refl (same_keeps scope) e
    layer (open_stmt.Assert test line) scope more e = still (open_stmt.Assert test line) (condition_fits scope test) scope more scope refl (same_keeps scope) e
    layer (open_stmt.Halt text line) scope more e = still (open_stmt.Halt text line) true scope more scope refl (same_keeps scope) e

keeps_trans : (scope next more : List Declared) → Keeps scope next → Keeps next more → Keeps scope more
keeps_trans scope next more a b = record {
  count = b.count + a.count;
  long = let first = a.long in let second = b.long in omega arith;
  rest = sym (drop-drop a.count b.count more) ∙ ap (drop a.count) b.rest ∙ a.rest;
}

pub stmts_keep : (stmts : List Stmt) (scope more : List Declared) → scoped_in_order (map scoped stmts) scope ≡ Some more → Keeps scope more
stmts_keep [] scope more e = subst (Keeps scope) (same_Some scope more e) (same_keeps scope)
stmts_keep (s ∷ stmts) scope more e =
    option_and_then_some (scoped_in_order (map scoped stmts)) (scoped s scope) more e
    (λ next at e. keeps_trans scope next more (stmt_keeps s scope next at) (stmts_keep stmts next more e))

-- where they fit
pub fit_keeps : (stmts : List Stmt) (scope more : List Declared) (so : Bool) → where_so so more ≡ scoped_in_order (map scoped stmts) scope → so ≡ true → Keeps scope more
fit_keeps stmts scope more so fits is = stmts_keep stmts scope more (sym fits ∙ ap (λ so. where_so so more) is)

-- what is left of them when a block ends
pub left : (scope more after : List Declared) (len : ℕ) → Keeps scope more → len ≡ length scope → after ≡ drop (length more - len) more → after ≡ scope
left scope more after len keeps is e =
    let count : length more - len ≡ keeps.count = let long = keeps.long in omega arith
    in e ∙ ap (λ n. drop n more) count ∙ keeps.rest

pub ruleset scoped_rules = (scoped_declare, scoped_assign, scoped_print, scoped_text, scoped_assert, scoped_halt, scoped_if, scoped_while, scoped_for)
