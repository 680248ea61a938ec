-- The names that each form of statement declares.
use Rattle.std.proofs.Common.{◌≡◌, ℕ, List, [], ◌∷◌, ◌++◌, map, Bool, Option, Some, None, refl, sym, ap, ap₂, ◌∙◌, append-nil, append_assoc}
use Rattle.std.specs.List.{flat_map}
use Rattle.sl_plain.specs.declared.program.Atom.{Atom}
use Rattle.sl_plain.specs.declared.program.Right.{Right}
use Rattle.sl_plain.specs.declared.program.Condition.{Condition}
use Rattle.sl_plain.specs.declared.program.Kind.{Kind}
use Rattle.sl_plain.specs.declared.program.Stmt.{Stmt}
use Rattle.sl_plain.specs.declared.program.Stmt.TheOpen as open_stmt
use Rattle.sl_plain.specs.declared.program.Stmt.TheVariants as stmt
use Rattle.sl_plain.specs.Program.{joined, declared_in, name_of}
use Rattle.sl_plain.proofs.Layers.{declared_layer}
use Rattle.std.proofs.lemmas.List.{map-append}

-- the names that a statement declares
abbrev pub names_in : Stmt → List (List ℕ)
names_in s = map name_of (declared_in s)

-- those of a list
abbrev pub names_of : List Stmt → List (List ℕ)
names_of stmts = map name_of (flat_map declared_in stmts)

joined_declared : (stmts : List Stmt) → joined (map declared_in stmts) ≡ flat_map declared_in stmts
joined_declared [] = refl
joined_declared (s ∷ stmts) = ap (λ rest. declared_in s ++ rest) (joined_declared stmts)

pub declare_names : (is_var : Bool) (name : List ℕ) (type : Kind) (first : Right) → names_in (stmt.Declare is_var name type first) ≡ name ∷ []
declare_names is_var name type first = ap names_in (sym (stmt.rolls-Declare is_var name type first)) ∙ ap (map name_of) (declared_layer (open_stmt.Declare is_var name type first))

pub assign_names : (name : List ℕ) (value : Right) → names_in (stmt.Assign name value) ≡ []
assign_names name value = ap names_in (sym (stmt.rolls-Assign name value)) ∙ ap (map name_of) (declared_layer (open_stmt.Assign name value))

pub print_names : (atom : Atom) → names_in (stmt.Print atom) ≡ []
print_names atom = ap names_in (sym (stmt.rolls-Print atom)) ∙ ap (map name_of) (declared_layer (open_stmt.Print atom))

pub text_names : (text : List ℕ) → names_in (stmt.PrintText text) ≡ []
text_names text = ap names_in (sym (stmt.rolls-PrintText text)) ∙ ap (map name_of) (declared_layer (open_stmt.PrintText text))

pub assert_names : (test : Condition) (line : ℕ) → names_in (stmt.Assert test line) ≡ []
assert_names test line = ap names_in (sym (stmt.rolls-Assert test line)) ∙ ap (map name_of) (declared_layer (open_stmt.Assert test line))

pub halt_names : (text : List ℕ) (line : ℕ) → names_in (stmt.Halt text line) ≡ []
halt_names text line = ap names_in (sym (stmt.rolls-Halt text line)) ∙ ap (map name_of) (declared_layer (open_stmt.Halt text line))

pub if_names : (test : Condition) (chosen other : List Stmt) → names_in (stmt.If test chosen other) ≡ names_of chosen ++ names_of other
if_names test chosen other =
    ap names_in (sym (stmt.rolls-If test chosen other)) ∙ ap (map name_of) (declared_layer (open_stmt.If test chosen other))
    ∙ ap (map name_of) (ap₂ (λ a b. a ++ b) (joined_declared chosen) (joined_declared other))
    ∙ map-append name_of (flat_map declared_in chosen) (flat_map declared_in other)

pub while_names : (test : Condition) (body : List Stmt) → names_in (stmt.While test body) ≡ names_of body
while_names test body =
    ap names_in (sym (stmt.rolls-While test body)) ∙ ap (map name_of) (declared_layer (open_stmt.While test body)) ∙ ap (map name_of) (joined_declared body)

pub for_names : (name : List ℕ) (first end : Atom) (body : List Stmt) (line : ℕ) → names_in (stmt.For name first end body line) ≡ name ∷ names_of body
for_names name first end body line =
    ap names_in (sym (stmt.rolls-For name first end body line)) ∙ ap (map name_of) (declared_layer (open_stmt.For name first end body line))
    ∙ ap (λ rest. name ∷ map name_of rest) (joined_declared body)

pub ruleset names_rules = (declare_names, assign_names, print_names, text_names, assert_names, halt_names, if_names, while_names, for_names, append-nil, append_assoc)
