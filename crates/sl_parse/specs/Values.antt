-- What the names of the grammar read: trees, each with the span of its tokens, where it has any.
use Rattle.std.specs.Prelude.{ℕ, List, [], ◌∷◌, map, Bool, true, false, ◌==◌, Option, Some, None, ◌⊎◌, if◌then◌else◌}
use Rattle.std.proofs.Common.{inl, inr}
use Rattle.sl_text.specs.declared.place.Span.{Span}
use Rattle.sl_grammar.specs.Grammar.{Form, Token, Nothing, Ref, Then, Either, Room, Many, Chain, Gate, Ahead, Without, Val}
use Rattle.sl_tree.specs.Sorts.{Spelled, sort, lexeme, underscore, val_word, var_word}
use Rattle.sl_tree.specs.WellShaped.{join, cover, type_term, expr, field}
use Rattle.sl_tree.specs.Declarations.{decl}
use Rattle.sl_tree.specs.declared.tree.Lexeme.{Lexeme}
use Rattle.sl_tree.specs.declared.tree.TypeTerm.{TypeTerm}
use Rattle.sl_tree.specs.declared.tree.Expr.{Expr}
use Rattle.sl_tree.specs.declared.tree.ExprKind.TheVariants as expr_kind
use Rattle.sl_tree.specs.declared.tree.Stmt.{Stmt}
use Rattle.sl_tree.specs.declared.tree.Field.{Field}
use Rattle.sl_tree.specs.declared.tree.Note.{Note}
use Rattle.sl_tree.specs.declared.tree.Param.{Param}
use Rattle.sl_tree.specs.declared.tree.Keyword.{Keyword}
use Rattle.sl_tree.specs.declared.tree.Keyword.TheVariants as keyword
use Rattle.sl_tree.specs.declared.tree.Body.{Body}
use Rattle.sl_tree.specs.declared.tree.Body.TheVariants as body
use Rattle.sl_tree.specs.declared.tree.Decl.{Decl}
use Rattle.sl_tree.specs.declared.tree.DeclKind.{DeclKind}
use Rattle.sl_tree.specs.declared.tree.DeclKind.TheVariants as decl_kind
use Rattle.sl_tree.specs.declared.tree.Import.{Import}
use Rattle.sl_tree.specs.declared.tree.File.{File}
use Rattle.sl_parse.specs.Names.{Name, Type_term, Expression, Block, Library, Path, Import_name, Import_step, Import_of, Pair, Note_of, Notes, Type_params, Param_of, Params, Parents, Enum_names, Member, Members, Braced, Declared, Decl_of, Item, Package, File_of, rule_of}

-- what is read, without its span. Of a step of an import it is the token behind the dot; of a file, the tree without its line feeds.
abbrev pub tree_of : Name → Type 0
tree_of Type_term = TypeTerm
tree_of Expression = Expr
tree_of Block = List Stmt
tree_of Library = Unit {0}
tree_of Path = List (List ℕ)
tree_of Import_name = List ℕ
tree_of Import_step = Spelled
tree_of Import_of = Import
tree_of Pair = Field
tree_of Note_of = Note
tree_of Notes = List Note
tree_of Type_params = List (List ℕ)
tree_of Param_of = Param
tree_of Params = List Param
tree_of Parents = List TypeTerm
tree_of Enum_names = List Lexeme
tree_of (Member globals) = Decl
tree_of (Members globals) = List Decl
tree_of (Braced globals) = Option (List Decl)
tree_of Declared = DeclKind
tree_of Decl_of = Decl
tree_of Item = Import ⊎ Decl
tree_of Package = List (List ℕ)
tree_of File_of = File

-- with the span of its tokens, where it has any
abbrev pub Covered : Type 0 → Type 0
Covered X = X × Option Span

abbrev pub T_of : Name → Type 0
T_of n = Covered (tree_of n)

-- the span of tokens, where there are any
abbrev pub whole : List Spelled → Option Span
whole [] = None
whole (k ∷ ks) = Some (cover (k ∷ ks))

-- of two parts, one behind the other
abbrev pub beside : Option Span → Option Span → Option Span
beside None b = b
beside (Some a) None = Some a
beside (Some a) (Some b) = Some (join a b)

abbrev pub all_beside : List (Option Span) → Option Span
all_beside [] = None
all_beside (s ∷ rest) = beside s (all_beside rest)

-- a tree's span, which is that of its tokens
abbrev pub total : Option Span → Span
total None = cover []
total (Some s) = s

-- the span of what a form reads
abbrev pub span_in : (g : Form Name) → Val sort T_of g → Option Span
span_in (Token ks) k = Some k.span
span_in Nothing v = None
span_in (Ref n) v = v.1
span_in (Then p q) v = beside (span_in p v.0) (span_in q v.1)
span_in (Either p q) (inl v) = span_in p v
span_in (Either p q) (inr v) = span_in q v
span_in (Room c p q) (inl v) = span_in p v
span_in (Room c p q) (inr v) = span_in q v
span_in (Many p) v = all_beside (map (span_in p) v)
span_in (Chain c i j) v = beside v.0.1 (all_beside (map (λ q. q.1) v.1))
span_in (Gate i p q) (x, inl v) = beside x.1 (span_in p v)
span_in (Gate i p q) (x, inr v) = beside x.1 (span_in q v)
span_in (Ahead ks js p q) (inl v) = beside (Some v.0.span) (span_in p v.1)
span_in (Ahead ks js p q) (inr v) = span_in q v
span_in (Without ks p) v = span_in p v

-- The trees of the parts that the rules have.

-- one, and more with a token before each
abbrev pub firsts : {X : Type 0} → Covered X → List (Spelled × Covered X) → List X
firsts x more = x.0 ∷ map (λ y. y.1.0) more

abbrev pub texts : Spelled → List (Spelled × Spelled) → List (List ℕ)
texts k more = k.text ∷ map (λ y. y.1.text) more

-- the steps of an import
abbrev pub is_all : Spelled → Bool
is_all k = sort k == underscore

abbrev pub step_names : List (Covered Spelled) → List (List ℕ)
step_names [] = []
step_names (q ∷ qs) = if is_all q.0 then step_names qs else q.0.text ∷ step_names qs

abbrev pub step_all : List (Covered Spelled) → Bool
step_all [] = false
step_all (q ∷ qs) = if is_all q.0 then true else step_all qs

-- fields in parentheses, or nothing
abbrev pub pairs_in : (Spelled × (Covered Field × (List (Spelled × Covered Field) × Spelled))) ⊎ Unit {0} → List Field
pairs_in (inl v) = firsts v.1.0 v.1.1.0
pairs_in (inr none) = []

abbrev pub names_in : (Spelled × (Spelled × (List (Spelled × Spelled) × Spelled))) ⊎ Unit {0} → List (List ℕ)
names_in (inl v) = texts v.1.0 v.1.1.0
names_in (inr none) = []

-- the word before a parameter, by its sort
abbrev pub keyword_of : ℕ → Keyword
keyword_of of = if of == var_word then keyword.Var else if of == val_word then keyword.Val else keyword.Nothing

abbrev pub keyword_in : Spelled ⊎ Unit {0} → Keyword
keyword_in (inl w) = keyword_of (sort w)
keyword_in (inr none) = keyword.Nothing

-- `NAME: TYPE`, with a word before it or not
abbrev pub param_from : Keyword → Spelled → TypeTerm → Param
param_from word k t = record { keyword = word; name = k.text; kind = t }

abbrev pub params_in : (Covered Param × List (Spelled × Covered Param)) ⊎ Unit {0} → List Param
params_in (inl v) = firsts v.0 v.1
params_in (inr none) = []

abbrev pub extends_in : Spelled × (Covered TypeTerm × List (Spelled × Covered TypeTerm)) → List TypeTerm
extends_in v = firsts v.1.0 v.1.1

abbrev pub parents_in : (Spelled × (Covered TypeTerm × List (Spelled × Covered TypeTerm))) ⊎ Unit {0} → List TypeTerm
parents_in (inl v) = extends_in v
parents_in (inr none) = []

abbrev pub enum_names_in : Spelled × (List (Spelled × Spelled) × Spelled) → List Lexeme
enum_names_in v = lexeme v.0 ∷ map (λ y. lexeme y.1) v.1.0

abbrev pub typed_in : (Spelled × Covered TypeTerm) ⊎ Unit {0} → Option TypeTerm
typed_in (inl v) = Some v.1.0
typed_in (inr none) = None

abbrev pub body_in : Covered (List Stmt) ⊎ Covered Expr → Body
body_in (inl v) = body.Block v.0
body_in (inr v) = body.Value v.0

abbrev pub given_in : (Spelled × (Covered (List Stmt) ⊎ Covered Expr)) ⊎ Unit {0} → Option Body
given_in (inl v) = Some (body_in v.1)
given_in (inr none) = None

abbrev pub method_params_in : Covered (List Param) ⊎ Unit {0} → Option (List Param)
method_params_in (inl v) = Some v.0
method_params_in (inr none) = None

abbrev pub overrides_in : Spelled ⊎ Unit {0} → Bool
overrides_in (inl w) = true
overrides_in (inr none) = false

-- `: TYPE`, with a body or without
abbrev pub ResultParts : Type 0
ResultParts = Spelled × (Covered TypeTerm × ((Spelled × (Covered (List Stmt) ⊎ Covered Expr)) ⊎ Unit {0}))

abbrev pub MethodParts : Type 0
MethodParts = Spelled × (Spelled × (Covered (List (List ℕ)) × ((Covered (List Param) ⊎ Unit {0}) × ResultParts)))

abbrev pub method_from : Bool → MethodParts → DeclKind
method_from o (w, (k, (types, (params, (c, (result, given)))))) = decl_kind.Method o k.text types.0 (method_params_in params) result.0 (given_in given)

abbrev pub GlobalParts : Type 0
GlobalParts = Spelled × (Spelled × (((Spelled × Covered TypeTerm) ⊎ Unit {0}) × (Spelled × Covered Expr)))

abbrev pub global_from : Bool → GlobalParts → DeclKind
global_from o (w, (k, (typed, (s, e)))) = decl_kind.Global o (sort w == var_word) k.text (typed_in typed) e.0

-- a global or a method
abbrev pub member_in : Bool → GlobalParts ⊎ MethodParts → DeclKind
member_in o (inl v) = global_from o v
member_in o (inr v) = method_from o v

abbrev pub members_in : (Covered Decl × List (Spelled × Covered Decl)) ⊎ Unit {0} → List Decl
members_in (inl v) = firsts v.0 v.1
members_in (inr none) = []

abbrev pub braced_in : (Spelled × Covered (List Decl)) ⊎ Unit {0} → Option (List Decl)
braced_in (inl v) = Some v.1.0
braced_in (inr none) = None

-- what stands behind the name of a class, a trait and an object
abbrev pub ClassParts : Type 0
ClassParts = Covered (List (List ℕ)) × (Covered (List Param) × (Covered (List TypeTerm) × Covered (Option (List Decl))))

abbrev pub class_from : Spelled → ClassParts ⊎ Unit {0} → DeclKind
class_from k (inl (types, (params, (parents, methods)))) = decl_kind.Class k.text types.0 params.0 parents.0 methods.0
class_from k (inr none) = decl_kind.Ints k.text

abbrev pub TraitParts : Type 0
TraitParts = Covered (List (List ℕ)) × (Covered (List TypeTerm) × Covered (Option (List Decl)))

abbrev pub trait_from : Spelled → TraitParts → DeclKind
trait_from k (types, (parents, methods)) = decl_kind.Trait k.text types.0 parents.0 methods.0

abbrev pub ExtendsParts : Type 0
ExtendsParts = Spelled × (Covered TypeTerm × List (Spelled × Covered TypeTerm))

abbrev pub ObjectParts : Type 0
ObjectParts = (ExtendsParts × Covered (Option (List Decl))) ⊎ ((Spelled × (Covered (List Lexeme) ⊎ Covered (List Decl))) ⊎ Unit {0})

abbrev pub object_from : Spelled → ObjectParts → DeclKind
object_from k (inl (parents, members)) = decl_kind.Object k.text (extends_in parents) members.0
object_from k (inr (inl (p, inl all))) = decl_kind.Enum k.text all.0
object_from k (inr (inl (p, inr members))) = decl_kind.Object k.text [] (Some members.0)
object_from k (inr (inr none)) = decl_kind.Object k.text [] None

abbrev pub DeclaredParts : Type 0
DeclaredParts = (Spelled × (Spelled × (ClassParts ⊎ Unit {0}))) ⊎ ((Spelled × (Spelled × TraitParts)) ⊎ (Spelled × (Spelled × ObjectParts)))

abbrev pub declared_from : DeclaredParts → DeclKind
declared_from (inl (w, (k, tail))) = class_from k tail
declared_from (inr (inl (w, (k, tail)))) = trait_from k tail
declared_from (inr (inr (w, (k, tail)))) = object_from k tail

abbrev pub item_from : Covered Import ⊎ Covered Decl → Import ⊎ Decl
item_from (inl x) = inl x.0
item_from (inr d) = inr d.0

-- the imports and the declarations among items
abbrev pub imports_in : List (Spelled × Covered (Import ⊎ Decl)) → List Import
imports_in [] = []
imports_in ((s, (inl x, span)) ∷ rest) = x ∷ imports_in rest
imports_in ((s, (inr d, span)) ∷ rest) = imports_in rest

abbrev pub decls_in : List (Spelled × Covered (Import ⊎ Decl)) → List Decl
decls_in [] = []
decls_in ((s, (inl x, span)) ∷ rest) = decls_in rest
decls_in ((s, (inr d, span)) ∷ rest) = d ∷ decls_in rest

abbrev pub package_in : (Spelled × (Covered (List (List ℕ)) × Spelled)) ⊎ Unit {0} → List (List ℕ)
package_in (inl v) = v.1.0.0
package_in (inr none) = []

-- the tree of what a rule reads; `span` is that of its tokens
abbrev pub value_of : (n : Name) → Val sort T_of (rule_of n) → Span → tree_of n
value_of Path v span = texts v.0 v.1
value_of Import_name v span = v.text
value_of Import_step v span = v.1
value_of Import_of v span = record { path = v.1.0.0 ∷ step_names v.1.1; all = step_all v.1.1; span = span }
value_of Pair v span = field v.0.text v.1.1.0
value_of Note_of v span = record { name = v.1.0.text; pairs = pairs_in v.1.1; span = span }
value_of Notes v span = map (λ x. x.0) v
value_of Type_params v span = names_in v
value_of Param_of v span = param_from (keyword_in v.0) v.1.0 v.1.1.1.0
value_of Params v span = params_in v.1.0
value_of Parents v span = parents_in v
value_of Enum_names v span = enum_names_in v
value_of (Member globals) v span = decl v.0.0 (member_in (overrides_in v.1.0) v.1.1) span
value_of (Members globals) v span = members_in v.0
value_of (Braced globals) v span = braced_in v
value_of Declared v span = declared_from v
value_of Decl_of v span = decl v.0.0 v.1.0 span
value_of Item v span = item_from v
value_of Package v span = package_in v
value_of File_of v span = record { «package» = v.0.0; imports = imports_in v.1.1; decls = decls_in v.1.1; span = span; feeds = [] }
-- what is read in its own way has no rule
value_of Library v span = v
value_of Block v span = []
value_of Type_term v span = type_term [] [] span
value_of Expression v span = expr expr_kind.This span
