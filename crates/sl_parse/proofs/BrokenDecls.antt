-- What a declaration breaks first, and its form, by what it declares.
use Rattle.std.proofs.Common.{◌≡◌, ℕ, List, ◌++◌, Bool, Option, Some, None, ap, ◌∙◌, map}
use Rattle.std.specs.List.{flat_map}
use Rattle.std.proofs.lemmas.List.Folds.{flat_map-map}
use Rattle.sl_text.specs.declared.fault.Broken.{Broken}
use Rattle.sl_tree.specs.declared.tree.Lexeme.{Lexeme}
use Rattle.sl_tree.specs.declared.tree.TypeTerm.{TypeTerm}
use Rattle.sl_tree.specs.declared.tree.Expr.{Expr}
use Rattle.sl_tree.specs.declared.tree.Param.{Param}
use Rattle.sl_tree.specs.declared.tree.Body.{Body}
use Rattle.sl_tree.specs.declared.tree.Decl.{Decl, out-Decl}
use Rattle.sl_tree.specs.declared.tree.DeclKind.{DeclKind, out-DeclKind, map-DeclKind, fold_out-DeclKind}
use Rattle.sl_tree.specs.declared.tree.DeclKind.TheFolds.{fold_out-Decl}
use Rattle.sl_tree.specs.declared.tree.DeclKind.TheOpen as open_decl
use Rattle.sl_tree.specs.declared.tree.DeclKind.TheVariants as decl_kind
use Rattle.sl_parse.specs.TreeRules.{sooner, first_of, An_enum, Integers, A_class, A_trait, An_object, A_global, method_form, SeenDecl, in_notes, in_body, broken_expr, decl_kind_step, decl_step, seen_kind, broken_decl, broken_members}
use Rattle.sl_parse.proofs.FirstFault.{first_append}

decl_layer : (d : Decl) → broken_decl d ≡ in_notes (seen_kind (out-Decl d).kind).form (out-Decl d).span (out-Decl d).notes ++ (seen_kind (out-Decl d).kind).broken
unfolding broken_decl seen_kind
decl_layer d = fold_out-Decl SeenDecl (List Broken) decl_kind_step decl_step d

kind_layer : (k : DeclKind) → seen_kind k ≡ decl_kind_step (map-DeclKind DeclKind Decl SeenDecl (List Broken) seen_kind broken_decl (out-DeclKind k))
unfolding broken_decl seen_kind
kind_layer k = fold_out-DeclKind SeenDecl (List Broken) decl_kind_step decl_step k

of_kind : (k l : DeclKind) (x : open_decl.DeclKind-F DeclKind Decl) → k ≡ l → out-DeclKind l ≡ x → seen_kind k ≡ decl_kind_step (map-DeclKind DeclKind Decl SeenDecl (List Broken) seen_kind broken_decl x)
of_kind k l x is opens = kind_layer k ∙ ap (λ y. decl_kind_step (map-DeclKind DeclKind Decl SeenDecl (List Broken) seen_kind broken_decl y)) (ap out-DeclKind is ∙ opens)

-- a declaration with its notes
pub decl_is : (d : Decl) → first_of (broken_decl d) ≡ sooner (first_of (in_notes (seen_kind (out-Decl d).kind).form (out-Decl d).span (out-Decl d).notes)) (first_of (seen_kind (out-Decl d).kind).broken)
decl_is d = ap first_of (decl_layer d) ∙ first_append (in_notes (seen_kind (out-Decl d).kind).form (out-Decl d).span (out-Decl d).notes) (seen_kind (out-Decl d).kind).broken

members_are : (ds : List Decl) → flat_map (λ (broken : List Broken). broken) (map broken_decl ds) ≡ flat_map broken_decl ds
members_are ds = flat_map-map (λ (broken : List Broken). broken) broken_decl ds

pub enum_breaks : (k : DeclKind) (text : List ℕ) (names : List Lexeme) → k ≡ decl_kind.Enum text names → first_of (seen_kind k).broken ≡ None
enum_breaks k text names is = ap (λ (z : SeenDecl). first_of z.broken) (of_kind k (decl_kind.Enum text names) (open_decl.Enum text names) is (decl_kind.outs-Enum text names))

pub ints_breaks : (k : DeclKind) (text : List ℕ) → k ≡ decl_kind.Ints text → first_of (seen_kind k).broken ≡ None
ints_breaks k text is = ap (λ (z : SeenDecl). first_of z.broken) (of_kind k (decl_kind.Ints text) (open_decl.Ints text) is (decl_kind.outs-Ints text))

pub class_breaks : (k : DeclKind) (text : List ℕ) (types : List (List ℕ)) (params : List Param) (parents : List TypeTerm) (members : Option (List Decl)) → k ≡ decl_kind.Class text types params parents members → first_of (seen_kind k).broken ≡ first_of (broken_members members)
class_breaks k text types params parents None is = ap (λ (z : SeenDecl). first_of z.broken) (of_kind k (decl_kind.Class text types params parents None) (open_decl.Class text types params parents None) is (decl_kind.outs-Class text types params parents None))
class_breaks k text types params parents (Some members) is = ap (λ (z : SeenDecl). first_of z.broken) (of_kind k (decl_kind.Class text types params parents (Some members)) (open_decl.Class text types params parents (Some members)) is (decl_kind.outs-Class text types params parents (Some members))) ∙ ap first_of (members_are members)

pub trait_breaks : (k : DeclKind) (text : List ℕ) (types : List (List ℕ)) (parents : List TypeTerm) (members : Option (List Decl)) → k ≡ decl_kind.Trait text types parents members → first_of (seen_kind k).broken ≡ first_of (broken_members members)
trait_breaks k text types parents None is = ap (λ (z : SeenDecl). first_of z.broken) (of_kind k (decl_kind.Trait text types parents None) (open_decl.Trait text types parents None) is (decl_kind.outs-Trait text types parents None))
trait_breaks k text types parents (Some members) is = ap (λ (z : SeenDecl). first_of z.broken) (of_kind k (decl_kind.Trait text types parents (Some members)) (open_decl.Trait text types parents (Some members)) is (decl_kind.outs-Trait text types parents (Some members))) ∙ ap first_of (members_are members)

pub object_breaks : (k : DeclKind) (text : List ℕ) (parents : List TypeTerm) (members : Option (List Decl)) → k ≡ decl_kind.Object text parents members → first_of (seen_kind k).broken ≡ first_of (broken_members members)
object_breaks k text parents None is = ap (λ (z : SeenDecl). first_of z.broken) (of_kind k (decl_kind.Object text parents None) (open_decl.Object text parents None) is (decl_kind.outs-Object text parents None))
object_breaks k text parents (Some members) is = ap (λ (z : SeenDecl). first_of z.broken) (of_kind k (decl_kind.Object text parents (Some members)) (open_decl.Object text parents (Some members)) is (decl_kind.outs-Object text parents (Some members))) ∙ ap first_of (members_are members)

pub method_breaks : (k : DeclKind) (overrides : Bool) (text : List ℕ) (types : List (List ℕ)) (params : Option (List Param)) (result : TypeTerm) (given : Option Body) → k ≡ decl_kind.Method overrides text types params result given → first_of (seen_kind k).broken ≡ first_of (in_body given)
method_breaks k overrides text types params result given is = ap (λ (z : SeenDecl). first_of z.broken) (of_kind k (decl_kind.Method overrides text types params result given) (open_decl.Method overrides text types params result given) is (decl_kind.outs-Method overrides text types params result given))

pub global_breaks : (k : DeclKind) (overrides assigned : Bool) (text : List ℕ) (ascribed : Option TypeTerm) (value : Expr) → k ≡ decl_kind.Global overrides assigned text ascribed value → first_of (seen_kind k).broken ≡ first_of (broken_expr value)
global_breaks k overrides assigned text ascribed value is = ap (λ (z : SeenDecl). first_of z.broken) (of_kind k (decl_kind.Global overrides assigned text ascribed value) (open_decl.Global overrides assigned text ascribed value) is (decl_kind.outs-Global overrides assigned text ascribed value))

-- forms

pub enum_formed : (k : DeclKind) (text : List ℕ) (names : List Lexeme) → k ≡ decl_kind.Enum text names → (seen_kind k).form ≡ An_enum
enum_formed k text names is = ap (λ (z : SeenDecl). z.form) (of_kind k (decl_kind.Enum text names) (open_decl.Enum text names) is (decl_kind.outs-Enum text names))

pub ints_formed : (k : DeclKind) (text : List ℕ) → k ≡ decl_kind.Ints text → (seen_kind k).form ≡ Integers
ints_formed k text is = ap (λ (z : SeenDecl). z.form) (of_kind k (decl_kind.Ints text) (open_decl.Ints text) is (decl_kind.outs-Ints text))

pub class_formed : (k : DeclKind) (text : List ℕ) (types : List (List ℕ)) (params : List Param) (parents : List TypeTerm) (members : Option (List Decl)) → k ≡ decl_kind.Class text types params parents members → (seen_kind k).form ≡ A_class
class_formed k text types params parents members is = ap (λ (z : SeenDecl). z.form) (of_kind k (decl_kind.Class text types params parents members) (open_decl.Class text types params parents members) is (decl_kind.outs-Class text types params parents members))

pub trait_formed : (k : DeclKind) (text : List ℕ) (types : List (List ℕ)) (parents : List TypeTerm) (members : Option (List Decl)) → k ≡ decl_kind.Trait text types parents members → (seen_kind k).form ≡ A_trait
trait_formed k text types parents members is = ap (λ (z : SeenDecl). z.form) (of_kind k (decl_kind.Trait text types parents members) (open_decl.Trait text types parents members) is (decl_kind.outs-Trait text types parents members))

pub object_formed : (k : DeclKind) (text : List ℕ) (parents : List TypeTerm) (members : Option (List Decl)) → k ≡ decl_kind.Object text parents members → (seen_kind k).form ≡ An_object
object_formed k text parents members is = ap (λ (z : SeenDecl). z.form) (of_kind k (decl_kind.Object text parents members) (open_decl.Object text parents members) is (decl_kind.outs-Object text parents members))

pub method_formed : (k : DeclKind) (overrides : Bool) (text : List ℕ) (types : List (List ℕ)) (params : Option (List Param)) (result : TypeTerm) (given : Option Body) → k ≡ decl_kind.Method overrides text types params result given → (seen_kind k).form ≡ method_form given
method_formed k overrides text types params result given is = ap (λ (z : SeenDecl). z.form) (of_kind k (decl_kind.Method overrides text types params result given) (open_decl.Method overrides text types params result given) is (decl_kind.outs-Method overrides text types params result given))

pub global_formed : (k : DeclKind) (overrides assigned : Bool) (text : List ℕ) (ascribed : Option TypeTerm) (value : Expr) → k ≡ decl_kind.Global overrides assigned text ascribed value → (seen_kind k).form ≡ A_global
global_formed k overrides assigned text ascribed value is = ap (λ (z : SeenDecl). z.form) (of_kind k (decl_kind.Global overrides assigned text ascribed value) (open_decl.Global overrides assigned text ascribed value) is (decl_kind.outs-Global overrides assigned text ascribed value))

pub ruleset all_kinds = (enum_breaks, ints_breaks, class_breaks, trait_breaks, object_breaks, method_breaks, global_breaks)

pub ruleset all_forms = (enum_formed, ints_formed, class_formed, trait_formed, object_formed, method_formed, global_formed)
