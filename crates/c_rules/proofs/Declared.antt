-- The kinds of variables by their names.
use Rattle.std.proofs.Common.{◌≡◌, ℕ, List, [], ◌∷◌, ◌++◌, Option, None, Some, Bool, true, false, ◌||◌, if◌then◌else◌, refl, sym, ap, ◌∙◌}
use Rattle.std.specs.Prelude.{option_map}
use Rattle.std.specs.List.{find}
use Rattle.std.specs.Option.{is_some}
use Rattle.std.specs.Str.{bytes_eq}
use Rattle.std.proofs.lemmas.List.Folds.{list_any-append}
use Rattle.c_tree.specs.declared.tree.CVar.{CVar}
use Rattle.c_tree.specs.declared.tree.CType.{CType}
use Rattle.c_tree.specs.Scope.{or_else}
use Rattle.c_rules.specs.declared.naming.Names.{Names}
use Rattle.c_rules.specs.Types.{kind_in}
use Rattle.c_rules.specs.Bodies.{is_var}
use Rattle.c_rules.specs.Naming.{item_named, AreKinds}
use Rattle.c_rules.proofs.Lookups.{kind_in_both}
use Rattle.c_rules.proofs.Keeping.{keeps_named, gets_named}

-- the kind of one variable
kind_if : (var : CVar) (b : Bool) → option_map (λ (var : CVar). var.kind) (if b then Some var else None) ≡ (if b then Some var.kind else None)
kind_if var true = refl
kind_if var false = refl

-- the kind of the first variable with a name, with one more at the end
pub kind_push : (vars : List CVar) (var : CVar) (name : List ℕ) → kind_in (vars ++ var ∷ []) name ≡ or_else (kind_in vars name) (if bytes_eq var.name name then Some var.kind else None)
kind_push vars var name = kind_in_both vars (var ∷ []) name ∙ ap (or_else (kind_in vars name)) (kind_if var (bytes_eq var.name name))

-- a variable behind others whose name one of them has
pub kinds_keep : (vars : List CVar) (var : CVar) (kinds : Names CType) → AreKinds vars kinds → is_some (item_named kinds var.name) ≡ true → AreKinds (vars ++ var ∷ []) kinds
kinds_keep vars var kinds are there name =
    keeps_named kinds var.name var.kind there name
    ∙ (ap (λ o. or_else o (if bytes_eq var.name name then Some var.kind else None)) (are name)
    ∙ sym (kind_push vars var name))

-- one whose name none of them has
pub kinds_more : (vars : List CVar) (var : CVar) (old new : Names CType) (kind : CType) → kind ≡ var.kind → AreKinds vars old → is_some (item_named old var.name) ≡ false → ((name : List ℕ) → item_named new name ≡ (if bytes_eq var.name name then Some kind else item_named old name)) → AreKinds (vars ++ var ∷ []) new
kinds_more vars var old new kind is are missing set name =
    set name
    ∙ (ap (λ kind. if bytes_eq var.name name then Some kind else item_named old name) is
    ∙ (gets_named old var.name var.kind missing name
    ∙ (ap (λ o. or_else o (if bytes_eq var.name name then Some var.kind else None)) (are name)
    ∙ sym (kind_push vars var name))))

-- a kind is found where a variable has the name
there : (var : CVar) (b : Bool) (o : Option CVar) (rest : Bool) → is_some (option_map (λ (var : CVar). var.kind) o) ≡ rest → is_some (option_map (λ (var : CVar). var.kind) (if b then Some var else o)) ≡ b || rest
there var true o rest h = refl
there var false o rest h = h

pub kind_there : (vars : List CVar) (name : List ℕ) → is_some (kind_in vars name) ≡ is_var vars name
kind_there [] name = refl
kind_there (var ∷ vars) name = there var (bytes_eq var.name name) (find (λ (var : CVar). bytes_eq var.name name) vars) (is_var vars name) (kind_there vars name)

-- so it is for two lists
pub local_there : (params vars : List CVar) (name : List ℕ) → is_some (kind_in (params ++ vars) name) ≡ is_var params name || is_var vars name
local_there params vars name = kind_there (params ++ vars) name ∙ list_any-append (λ (var : CVar). bytes_eq var.name name) params vars
