-- Which declarations are an App and its `main`, form by form.
use Rattle.std.proofs.Common.{◌≡◌, ℕ, List, Bool, Option, None, option_and_then, ap, ◌∙◌, if◌then◌else◌}
use Rattle.sl_tree.specs.declared.tree.Lexeme.{Lexeme}
use Rattle.sl_tree.specs.declared.tree.TypeTerm.{TypeTerm}
use Rattle.sl_tree.specs.declared.tree.Expr.{Expr}
use Rattle.sl_tree.specs.declared.tree.Param.{Param}
use Rattle.sl_tree.specs.declared.tree.Body.{Body}
use Rattle.sl_tree.specs.declared.tree.Decl.{Decl}
use Rattle.sl_tree.specs.declared.tree.DeclKind.{DeclKind, out-DeclKind}
use Rattle.sl_tree.specs.declared.tree.DeclKind.TheVariants as decl_kind
use Rattle.sl_plain.specs.Reading.{body_of, reads_of, is_main, main_of, app_with, app_of}

pub app_enum : (feeds : List ℕ) (kind : DeclKind) (text : List ℕ) (names : List Lexeme) → kind ≡ decl_kind.Enum text names → app_of feeds (out-DeclKind kind) ≡ None
app_enum feeds kind text names is = ap (λ k. app_of feeds (out-DeclKind k)) is ∙ ap (app_of feeds) (decl_kind.outs-Enum text names)

pub main_enum : (feeds : List ℕ) (kind : DeclKind) (text : List ℕ) (names : List Lexeme) → kind ≡ decl_kind.Enum text names → main_of feeds (out-DeclKind kind) ≡ None
main_enum feeds kind text names is = ap (λ k. main_of feeds (out-DeclKind k)) is ∙ ap (main_of feeds) (decl_kind.outs-Enum text names)

pub app_ints : (feeds : List ℕ) (kind : DeclKind) (text : List ℕ) → kind ≡ decl_kind.Ints text → app_of feeds (out-DeclKind kind) ≡ None
app_ints feeds kind text is = ap (λ k. app_of feeds (out-DeclKind k)) is ∙ ap (app_of feeds) (decl_kind.outs-Ints text)

pub main_ints : (feeds : List ℕ) (kind : DeclKind) (text : List ℕ) → kind ≡ decl_kind.Ints text → main_of feeds (out-DeclKind kind) ≡ None
main_ints feeds kind text is = ap (λ k. main_of feeds (out-DeclKind k)) is ∙ ap (main_of feeds) (decl_kind.outs-Ints text)

pub app_class : (feeds : List ℕ) (kind : DeclKind) (text : List ℕ) (types : List (List ℕ)) (params : List Param) (parents : List TypeTerm) (methods : Option (List Decl)) → kind ≡ decl_kind.Class text types params parents methods → app_of feeds (out-DeclKind kind) ≡ None
app_class feeds kind text types params parents methods is = ap (λ k. app_of feeds (out-DeclKind k)) is ∙ ap (app_of feeds) (decl_kind.outs-Class text types params parents methods)

pub main_class : (feeds : List ℕ) (kind : DeclKind) (text : List ℕ) (types : List (List ℕ)) (params : List Param) (parents : List TypeTerm) (methods : Option (List Decl)) → kind ≡ decl_kind.Class text types params parents methods → main_of feeds (out-DeclKind kind) ≡ None
main_class feeds kind text types params parents methods is = ap (λ k. main_of feeds (out-DeclKind k)) is ∙ ap (main_of feeds) (decl_kind.outs-Class text types params parents methods)

pub app_trait : (feeds : List ℕ) (kind : DeclKind) (text : List ℕ) (types : List (List ℕ)) (parents : List TypeTerm) (methods : Option (List Decl)) → kind ≡ decl_kind.Trait text types parents methods → app_of feeds (out-DeclKind kind) ≡ None
app_trait feeds kind text types parents methods is = ap (λ k. app_of feeds (out-DeclKind k)) is ∙ ap (app_of feeds) (decl_kind.outs-Trait text types parents methods)

pub main_trait : (feeds : List ℕ) (kind : DeclKind) (text : List ℕ) (types : List (List ℕ)) (parents : List TypeTerm) (methods : Option (List Decl)) → kind ≡ decl_kind.Trait text types parents methods → main_of feeds (out-DeclKind kind) ≡ None
main_trait feeds kind text types parents methods is = ap (λ k. main_of feeds (out-DeclKind k)) is ∙ ap (main_of feeds) (decl_kind.outs-Trait text types parents methods)

pub app_object : (feeds : List ℕ) (kind : DeclKind) (text : List ℕ) (parents : List TypeTerm) (members : Option (List Decl)) → kind ≡ decl_kind.Object text parents members → app_of feeds (out-DeclKind kind) ≡ app_with feeds text parents members
app_object feeds kind text parents members is = ap (λ k. app_of feeds (out-DeclKind k)) is ∙ ap (app_of feeds) (decl_kind.outs-Object text parents members)

pub main_object : (feeds : List ℕ) (kind : DeclKind) (text : List ℕ) (parents : List TypeTerm) (members : Option (List Decl)) → kind ≡ decl_kind.Object text parents members → main_of feeds (out-DeclKind kind) ≡ None
main_object feeds kind text parents members is = ap (λ k. main_of feeds (out-DeclKind k)) is ∙ ap (main_of feeds) (decl_kind.outs-Object text parents members)

pub app_method : (feeds : List ℕ) (kind : DeclKind) (overrides : Bool) (text : List ℕ) (types : List (List ℕ)) (params : Option (List Param)) (of : TypeTerm) (given : Option Body) → kind ≡ decl_kind.Method overrides text types params of given → app_of feeds (out-DeclKind kind) ≡ None
app_method feeds kind overrides text types params of given is = ap (λ k. app_of feeds (out-DeclKind k)) is ∙ ap (app_of feeds) (decl_kind.outs-Method overrides text types params of given)

pub main_method : (feeds : List ℕ) (kind : DeclKind) (overrides : Bool) (text : List ℕ) (types : List (List ℕ)) (params : Option (List Param)) (of : TypeTerm) (given : Option Body) → kind ≡ decl_kind.Method overrides text types params of given → main_of feeds (out-DeclKind kind) ≡ (if is_main overrides text types params of then option_and_then body_of (reads_of feeds given) else None)
main_method feeds kind overrides text types params of given is = ap (λ k. main_of feeds (out-DeclKind k)) is ∙ ap (main_of feeds) (decl_kind.outs-Method overrides text types params of given)

pub app_global : (feeds : List ℕ) (kind : DeclKind) (overrides assigned : Bool) (text : List ℕ) (ascribed : Option TypeTerm) (value : Expr) → kind ≡ decl_kind.Global overrides assigned text ascribed value → app_of feeds (out-DeclKind kind) ≡ None
app_global feeds kind overrides assigned text ascribed value is = ap (λ k. app_of feeds (out-DeclKind k)) is ∙ ap (app_of feeds) (decl_kind.outs-Global overrides assigned text ascribed value)

pub main_global : (feeds : List ℕ) (kind : DeclKind) (overrides assigned : Bool) (text : List ℕ) (ascribed : Option TypeTerm) (value : Expr) → kind ≡ decl_kind.Global overrides assigned text ascribed value → main_of feeds (out-DeclKind kind) ≡ None
main_global feeds kind overrides assigned text ascribed value is = ap (λ k. main_of feeds (out-DeclKind k)) is ∙ ap (main_of feeds) (decl_kind.outs-Global overrides assigned text ascribed value)

pub ruleset app_rules = (app_enum, app_ints, app_class, app_trait, app_object, app_method, app_global)

pub ruleset main_rules = (main_enum, main_ints, main_class, main_trait, main_object, main_method, main_global)
