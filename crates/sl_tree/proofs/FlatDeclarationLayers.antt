-- The tokens of each form of declaration, from the tokens of its parts.
use Rattle.std.proofs.Common.{◌≡◌, ℕ, List, [], ◌∷◌, ◌++◌, map, Bool, Option, Some, None, sym, ap, ◌∙◌}
use Rattle.std.specs.Prelude.{codes}
use Rattle.std.specs.List.{flat_map}
use Rattle.sl_text.specs.declared.place.Span.{Span}
use Rattle.sl_tree.specs.declared.tree.Lexeme.{Lexeme}
use Rattle.sl_tree.specs.declared.tree.TypeTerm.{TypeTerm}
use Rattle.sl_tree.specs.declared.tree.Expr.{Expr}
use Rattle.sl_tree.specs.declared.tree.Note.{Note}
use Rattle.sl_tree.specs.declared.tree.Param.{Param}
use Rattle.sl_tree.specs.declared.tree.Body.{Body}
use Rattle.sl_tree.specs.declared.tree.Decl.{Decl}
use Rattle.sl_tree.specs.declared.tree.DeclKind.{DeclKind, roll-DeclKind, map-DeclKind, fold-roll-DeclKind}
use Rattle.sl_tree.specs.declared.tree.DeclKind.TheFolds.{fold-DeclKind, fold-roll-Decl}
use Rattle.sl_tree.specs.declared.tree.DeclKind.TheOpen as open_decl
use Rattle.sl_tree.specs.declared.tree.DeclKind.TheVariants as decl_kind
use Rattle.sl_tree.specs.Declarations.{decl}
use Rattle.sl_tree.specs.Flat.{Tokens, name, word, mark, ends, curly, flat_type, flat_ascribed, flat_let, flat_expr, flat_note, flat_type_params, flat_params, flat_method_params, flat_parents, flat_override, flat_given_body, decl_kind_step, decl_step, flat_decl}

-- the tokens of what a declaration declares
unfoldable pub flat_decl_kind : DeclKind → Tokens
flat_decl_kind x = fold-DeclKind Tokens Tokens decl_kind_step decl_step x

-- a declaration with its notes
pub flat_decl_is : (notes : List Note) (kind : DeclKind) (span : Span) → flat_decl (decl notes kind span) ≡ flat_map flat_note notes ++ flat_decl_kind kind
unfolding decl flat_decl flat_decl_kind
flat_decl_is notes kind span = fold-roll-Decl Tokens Tokens decl_kind_step decl_step (record { notes = notes; kind = kind; span = span })

kind_layer : (x : open_decl.DeclKind-F DeclKind Decl) → flat_decl_kind (roll-DeclKind x) ≡ decl_kind_step (map-DeclKind DeclKind Decl Tokens Tokens flat_decl_kind flat_decl x)
unfolding flat_decl flat_decl_kind
kind_layer x = fold-roll-DeclKind Tokens Tokens decl_kind_step decl_step x

-- what is of a layer
of_kind : {kind : DeclKind} (x : open_decl.DeclKind-F DeclKind Decl) → roll-DeclKind x ≡ kind → flat_decl_kind kind ≡ decl_kind_step (map-DeclKind DeclKind Decl Tokens Tokens flat_decl_kind flat_decl x)
of_kind x rolls = ap flat_decl_kind (sym rolls) ∙ kind_layer x

-- members in their braces, or none
abbrev pub member_tokens : Option (List Decl) → Tokens
member_tokens None = []
member_tokens (Some members) = curly (ends (map flat_decl members))

pub flat_enum : (text : List ℕ) (all : List Lexeme) → flat_decl_kind (decl_kind.Enum text all) ≡ word (codes "object") ∷ name text ∷ curly (ends (map (λ x. x ∷ []) all))
flat_enum text all = of_kind (open_decl.Enum text all) (decl_kind.rolls-Enum text all)

pub flat_ints : (text : List ℕ) → flat_decl_kind (decl_kind.Ints text) ≡ word (codes "class") ∷ name text ∷ []
flat_ints text = of_kind (open_decl.Ints text) (decl_kind.rolls-Ints text)

pub flat_class_decl : (text : List ℕ) (types : List (List ℕ)) (params : List Param) (parents : List TypeTerm) (methods : Option (List Decl))
    → flat_decl_kind (decl_kind.Class text types params parents methods)
    ≡ word (codes "class") ∷ name text ∷ (flat_type_params types ++ (flat_params params ++ (flat_parents parents ++ member_tokens methods)))
flat_class_decl text types params parents None = of_kind (open_decl.Class text types params parents None) (decl_kind.rolls-Class text types params parents None)
flat_class_decl text types params parents (Some methods) = of_kind (open_decl.Class text types params parents (Some methods)) (decl_kind.rolls-Class text types params parents (Some methods))

pub flat_trait : (text : List ℕ) (types : List (List ℕ)) (parents : List TypeTerm) (methods : Option (List Decl))
    → flat_decl_kind (decl_kind.Trait text types parents methods) ≡ word (codes "trait") ∷ name text ∷ (flat_type_params types ++ (flat_parents parents ++ member_tokens methods))
flat_trait text types parents None = of_kind (open_decl.Trait text types parents None) (decl_kind.rolls-Trait text types parents None)
flat_trait text types parents (Some methods) = of_kind (open_decl.Trait text types parents (Some methods)) (decl_kind.rolls-Trait text types parents (Some methods))

pub flat_object : (text : List ℕ) (parents : List TypeTerm) (members : Option (List Decl))
    → flat_decl_kind (decl_kind.Object text parents members) ≡ word (codes "object") ∷ name text ∷ (flat_parents parents ++ member_tokens members)
flat_object text parents None = of_kind (open_decl.Object text parents None) (decl_kind.rolls-Object text parents None)
flat_object text parents (Some members) = of_kind (open_decl.Object text parents (Some members)) (decl_kind.rolls-Object text parents (Some members))

pub flat_method : (overrides : Bool) (text : List ℕ) (types : List (List ℕ)) (params : Option (List Param)) (result : TypeTerm) (given : Option Body)
    → flat_decl_kind (decl_kind.Method overrides text types params result given) ≡ flat_override overrides
    ++ word (codes "def") ∷ name text ∷ (flat_type_params types ++ (flat_method_params params ++ mark (codes ":") ∷ (flat_type result ++ flat_given_body given)))
flat_method overrides text types params result given = of_kind (open_decl.Method overrides text types params result given) (decl_kind.rolls-Method overrides text types params result given)

pub flat_global : (overrides assigned : Bool) (text : List ℕ) (ascribed : Option TypeTerm) (value : Expr)
    → flat_decl_kind (decl_kind.Global overrides assigned text ascribed value)
    ≡ flat_override overrides ++ flat_let assigned ∷ name text ∷ (flat_ascribed ascribed ++ mark (codes "=") ∷ flat_expr value)
flat_global overrides assigned text ascribed value = of_kind (open_decl.Global overrides assigned text ascribed value) (decl_kind.rolls-Global overrides assigned text ascribed value)
