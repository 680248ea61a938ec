-- Which trees of declarations and of files are well shaped, with one constructor for each form, as `WellShaped` says it of types, patterns,
-- expressions and statements.
--
-- Declarations are no nodes: how deep a file nests is told by the types, expressions and blocks in it, each by itself. `limit` says how
-- deep they may: so many nodes one in another, or as many as they like (None).
--
-- Spans are from the beginning of the first token to the end of the last (`cover`). Those of a declaration or a member are its notes too.
use Rattle.std.specs.Prelude.{◌≡◌, ℕ, ◌≤◌, List, [], ◌∷◌, ◌++◌, Bool, true, false, ◌==◌, Option, Some, None, codes}
use Rattle.sl_text.specs.declared.place.Span.{Span}
use Rattle.sl_tree.specs.Sorts.{Spelled, sort, lexeme, left_parenthesis, right_parenthesis, left_bracket, right_bracket, left_brace, right_brace, comma, dot, underscore, colon, equals, at_sign, val_word, var_word, quoted, separator, package_word, import_word, class_word, object_word, trait_word, extends_word, with_word, def_word, override_word, symbol}
use Rattle.sl_tree.specs.WellShaped.{Is, names, cover, field, IsPath, IsType, IsExpr, IsBlock}
use Rattle.sl_tree.specs.declared.tree.Lexeme.{Lexeme}
use Rattle.sl_tree.specs.declared.tree.TypeTerm.{TypeTerm}
use Rattle.sl_tree.specs.declared.tree.Expr.{Expr}
use Rattle.sl_tree.specs.declared.tree.Stmt.{Stmt}
use Rattle.sl_tree.specs.declared.tree.Field.{Field}
use Rattle.sl_tree.specs.declared.tree.Note.{Note}
use Rattle.sl_tree.specs.declared.tree.Param.{Param}
use Rattle.sl_tree.specs.declared.tree.Keyword.TheVariants as keyword
use Rattle.sl_tree.specs.declared.tree.Body.{Body}
use Rattle.sl_tree.specs.declared.tree.Body.TheVariants as body
use Rattle.sl_tree.specs.declared.tree.Decl.{Decl, roll-Decl}
use Rattle.sl_tree.specs.declared.tree.DeclKind.{DeclKind}
use Rattle.sl_tree.specs.declared.tree.DeclKind.TheVariants as decl_kind
use Rattle.sl_tree.specs.declared.tree.Import.{Import}
use Rattle.sl_tree.specs.declared.tree.File.{File}

-- how deep phrases may nest
abbrev pub Limit : Type 0
Limit = Option ℕ

abbrev pub Keeps : Limit → ℕ → Type 0
Keeps None n = Unit {0}
Keeps (Some most) n = n ≤ most

-- a phrase with its levels, within a limit
abbrev pub Nested : {X : Type 0} → Limit → (ℕ → X → List Spelled → Type 0) → X → List Spelled → Type 0
Nested limit P x ts = (n : ℕ) × P n x ts × Keeps limit n

-- an expression of any level of precedence
abbrev pub AnyLevel : ℕ → Expr → List Spelled → Type 0
AnyLevel n e ts = (level : ℕ) × IsExpr level n e ts

-- phrases one behind the other, or none
pub data Repeated (X : Type 0) (P : X → List Spelled → Type 0) : List X → List Spelled → Type 0 where
  repeated_none : {xs : List X} {ts : List Spelled} → ts ≡ [] → xs ≡ [] → Repeated X P xs ts
  repeated_more : {xs rest : List X} {ts us vs : List Spelled} {x : X} → P x us → Repeated X P rest vs → ts ≡ us ++ vs → xs ≡ x ∷ rest → Repeated X P xs ts

-- phrases with a token of one of some sorts between each two, one phrase at least
pub data Separated (X : Type 0) (sorts : List ℕ) (P : X → List Spelled → Type 0) : List X → List Spelled → Type 0 where
  separated_one : {xs : List X} {ts : List Spelled} {x : X} → P x ts → xs ≡ x ∷ [] → Separated X sorts P xs ts
  separated_more : {xs rest : List X} {ts us vs : List Spelled} {x : X} (c : Spelled)
      → P x us → Is sorts c → Separated X sorts P rest vs → ts ≡ us ++ c ∷ vs → xs ≡ x ∷ rest → Separated X sorts P xs ts

-- an identifier
abbrev pub IsIdentifier : List ℕ → List Spelled → Type 0
IsIdentifier text ts = (k : Spelled) × Is names k × (ts ≡ k ∷ []) × (text ≡ k.text)

-- one of these bytes
abbrev pub Named : List ℕ → Spelled → Type 0
Named text k = Is names k × (k.text ≡ text)

-- a name of an enum, as it is written
abbrev pub IsEnumName : Lexeme → List Spelled → Type 0
IsEnumName name ts = (k : Spelled) × Is (quoted ∷ symbol ∷ []) k × (ts ≡ k ∷ []) × (name ≡ lexeme k)

unfoldable pub decl : List Note → DeclKind → Span → Decl
decl notes kind span = roll-Decl (record { notes = notes; kind = kind; span = span })

-- `package PATH` with the end of its line, or nothing
pub data IsPackage : List (List ℕ) → List Spelled → Type 0 where
  package_none : {path : List (List ℕ)} {ts : List Spelled} → ts ≡ [] → path ≡ [] → IsPackage path ts
  package_some : {path : List (List ℕ)} {ts us : List Spelled} (w s : Spelled)
      → Is (package_word ∷ []) w → IsPath path us → Is (separator ∷ []) s → ts ≡ w ∷ (us ++ s ∷ []) → IsPackage path ts

-- `import org.sireum._`, which each file has
pub data IsLibrary : List Spelled → Type 0 where
  library_all : {ts : List Spelled} (i o d s e u : Spelled)
      → Is (import_word ∷ []) i → Named (codes "org") o → Is (dot ∷ []) d → Named (codes "sireum") s → Is (dot ∷ []) e → Is (underscore ∷ []) u
      → ts ≡ i ∷ o ∷ d ∷ s ∷ e ∷ u ∷ [] → IsLibrary ts

-- `import PATH`, or `import PATH._`
pub data IsImport : Import → List Spelled → Type 0 where
  import_one : {x : Import} {ts us : List Spelled} {path : List (List ℕ)} (w : Spelled)
      → Is (import_word ∷ []) w → IsPath path us → ts ≡ w ∷ us → x ≡ record { path = path; all = false; span = cover ts } → IsImport x ts
  import_all : {x : Import} {ts us : List Spelled} {path : List (List ℕ)} (w d u : Spelled)
      → Is (import_word ∷ []) w → IsPath path us → Is (dot ∷ []) d → Is (underscore ∷ []) u
      → ts ≡ w ∷ (us ++ d ∷ u ∷ []) → x ≡ record { path = path; all = true; span = cover ts } → IsImport x ts

-- `NAME = EXPR`
pub data IsPair : Limit → Field → List Spelled → Type 0 where
  pair_of : {limit : Limit} {x : Field} {ts us : List Spelled} {e : Expr} (k s : Spelled)
      → Is names k → Is (equals ∷ []) s → Nested limit AnyLevel e us → ts ≡ k ∷ s ∷ us → x ≡ field k.text e → IsPair limit x ts

-- `@NAME`, or `@NAME(NAME = EXPR, ..)`
pub data IsNote : Limit → Note → List Spelled → Type 0 where
  note_bare : {limit : Limit} {x : Note} {ts : List Spelled} (a k : Spelled)
      → Is (at_sign ∷ []) a → Is names k → ts ≡ a ∷ k ∷ [] → x ≡ record { name = k.text; pairs = []; span = cover ts } → IsNote limit x ts
  note_with : {limit : Limit} {x : Note} {ts us : List Spelled} {pairs : List Field} (a k p q : Spelled)
      → Is (at_sign ∷ []) a → Is names k → Is (left_parenthesis ∷ []) p → Separated Field (comma ∷ []) (IsPair limit) pairs us → Is (right_parenthesis ∷ []) q
      → ts ≡ a ∷ k ∷ p ∷ (us ++ q ∷ []) → x ≡ record { name = k.text; pairs = pairs; span = cover ts } → IsNote limit x ts

abbrev pub IsNotes : Limit → List Note → List Spelled → Type 0
IsNotes limit notes ts = Repeated Note (IsNote limit) notes ts

-- `[NAME, ..]`, or nothing
pub data IsTypeParams : List (List ℕ) → List Spelled → Type 0 where
  type_params_none : {xs : List (List ℕ)} {ts : List Spelled} → ts ≡ [] → xs ≡ [] → IsTypeParams xs ts
  type_params_some : {xs : List (List ℕ)} {ts us : List Spelled} (p q : Spelled)
      → Is (left_bracket ∷ []) p → Separated (List ℕ) (comma ∷ []) IsIdentifier xs us → Is (right_bracket ∷ []) q → ts ≡ p ∷ (us ++ q ∷ []) → IsTypeParams xs ts

-- `NAME: TYPE`, or with `val` or `var` before it
pub data IsParam : Limit → Param → List Spelled → Type 0 where
  param_plain : {limit : Limit} {x : Param} {ts us : List Spelled} {t : TypeTerm} (k c : Spelled)
      → Is names k → Is (colon ∷ []) c → Nested limit IsType t us
      → ts ≡ k ∷ c ∷ us → x ≡ record { keyword = keyword.Nothing; name = k.text; kind = t } → IsParam limit x ts
  param_val : {limit : Limit} {x : Param} {ts us : List Spelled} {t : TypeTerm} (w k c : Spelled)
      → Is (val_word ∷ []) w → Is names k → Is (colon ∷ []) c → Nested limit IsType t us
      → ts ≡ w ∷ k ∷ c ∷ us → x ≡ record { keyword = keyword.Val; name = k.text; kind = t } → IsParam limit x ts
  param_var : {limit : Limit} {x : Param} {ts us : List Spelled} {t : TypeTerm} (w k c : Spelled)
      → Is (var_word ∷ []) w → Is names k → Is (colon ∷ []) c → Nested limit IsType t us
      → ts ≡ w ∷ k ∷ c ∷ us → x ≡ record { keyword = keyword.Var; name = k.text; kind = t } → IsParam limit x ts

-- `(PARAMETER, ..)`, or `()`
pub data IsParams : Limit → List Param → List Spelled → Type 0 where
  params_none : {limit : Limit} {xs : List Param} {ts : List Spelled} (p q : Spelled)
      → Is (left_parenthesis ∷ []) p → Is (right_parenthesis ∷ []) q → ts ≡ p ∷ q ∷ [] → xs ≡ [] → IsParams limit xs ts
  params_some : {limit : Limit} {xs : List Param} {ts us : List Spelled} (p q : Spelled)
      → Is (left_parenthesis ∷ []) p → Separated Param (comma ∷ []) (IsParam limit) xs us → Is (right_parenthesis ∷ []) q
      → ts ≡ p ∷ (us ++ q ∷ []) → IsParams limit xs ts

-- `extends TYPE with TYPE ..`, or nothing
pub data IsParents : Limit → List TypeTerm → List Spelled → Type 0 where
  parents_none : {limit : Limit} {xs : List TypeTerm} {ts : List Spelled} → ts ≡ [] → xs ≡ [] → IsParents limit xs ts
  parents_some : {limit : Limit} {xs : List TypeTerm} {ts us : List Spelled} (w : Spelled)
      → Is (extends_word ∷ []) w → Separated TypeTerm (with_word ∷ []) (Nested limit IsType) xs us → ts ≡ w ∷ us → IsParents limit xs ts

-- `: TYPE`, or nothing
pub data IsTyped : Limit → Option TypeTerm → List Spelled → Type 0 where
  typed_not : {limit : Limit} {o : Option TypeTerm} {ts : List Spelled} → ts ≡ [] → o ≡ None → IsTyped limit o ts
  typed_so : {limit : Limit} {o : Option TypeTerm} {ts us : List Spelled} {t : TypeTerm} (c : Spelled)
      → Is (colon ∷ []) c → Nested limit IsType t us → ts ≡ c ∷ us → o ≡ Some t → IsTyped limit o ts

-- `= { STATEMENTS }`, `= EXPR`, or nothing
pub data IsGiven : Limit → Option Body → List Spelled → Type 0 where
  given_not : {limit : Limit} {o : Option Body} {ts : List Spelled} → ts ≡ [] → o ≡ None → IsGiven limit o ts
  given_block : {limit : Limit} {o : Option Body} {ts us : List Spelled} {stmts : List Stmt} (s : Spelled)
      → Is (equals ∷ []) s → Nested limit IsBlock stmts us → ts ≡ s ∷ us → o ≡ Some (body.Block stmts) → IsGiven limit o ts
  given_value : {limit : Limit} {o : Option Body} {ts us : List Spelled} {e : Expr} (s : Spelled)
      → Is (equals ∷ []) s → Nested limit AnyLevel e us → ts ≡ s ∷ us → o ≡ Some (body.Value e) → IsGiven limit o ts

-- a method's parameters, or nothing
pub data IsMethodParams : Limit → Option (List Param) → List Spelled → Type 0 where
  method_params_not : {limit : Limit} {o : Option (List Param)} {ts : List Spelled} → ts ≡ [] → o ≡ None → IsMethodParams limit o ts
  method_params_so : {limit : Limit} {o : Option (List Param)} {ts : List Spelled} {params : List Param}
      → IsParams limit params ts → o ≡ Some params → IsMethodParams limit o ts

-- `override`, or nothing
pub data IsOverride : Bool → List Spelled → Type 0 where
  override_not : {o : Bool} {ts : List Spelled} → ts ≡ [] → o ≡ false → IsOverride o ts
  override_so : {o : Bool} {ts : List Spelled} (w : Spelled) → Is (override_word ∷ []) w → ts ≡ w ∷ [] → o ≡ true → IsOverride o ts

-- `def NAME[TYPE PARAMETERS](PARAMETERS): TYPE = BODY`, with `override` before it or not
pub data IsMethod : Limit → Bool → DeclKind → List Spelled → Type 0 where
  method_of : {limit : Limit} {o : Bool} {kind : DeclKind} {ts us vs ws xs : List Spelled} {types : List (List ℕ)} {params : Option (List Param)} {result : TypeTerm} {given : Option Body} (w k c : Spelled)
      → Is (def_word ∷ []) w → Is names k → IsTypeParams types us → IsMethodParams limit params vs → Is (colon ∷ []) c → Nested limit IsType result ws → IsGiven limit given xs
      → ts ≡ w ∷ k ∷ (us ++ (vs ++ c ∷ (ws ++ xs))) → kind ≡ decl_kind.Method o k.text types params result given → IsMethod limit o kind ts

-- `val NAME: TYPE = EXPR`, or `var`, with `override` before it or not
pub data IsGlobal : Limit → Bool → DeclKind → List Spelled → Type 0 where
  global_of : {limit : Limit} {o : Bool} {kind : DeclKind} {ts us vs : List Spelled} {typed : Option TypeTerm} {e : Expr} (w k s : Spelled)
      → Is (val_word ∷ var_word ∷ []) w → Is names k → IsTyped limit typed us → Is (equals ∷ []) s → Nested limit AnyLevel e vs
      → ts ≡ w ∷ k ∷ (us ++ s ∷ vs) → kind ≡ decl_kind.Global o (sort w == var_word) k.text typed e → IsGlobal limit o kind ts

-- a member of a class or a trait, which is a method; one of an object, where `globals` is true, may be a global too
pub data IsMember : Limit → Bool → Decl → List Spelled → Type 0 where
  member_method : {limit : Limit} {globals o : Bool} {d : Decl} {ts us vs ws : List Spelled} {notes : List Note} {kind : DeclKind}
      → IsNotes limit notes us → IsOverride o vs → IsMethod limit o kind ws → ts ≡ us ++ (vs ++ ws) → d ≡ decl notes kind (cover ts) → IsMember limit globals d ts
  member_global : {limit : Limit} {globals o : Bool} {d : Decl} {ts us vs ws : List Spelled} {notes : List Note} {kind : DeclKind}
      → IsNotes limit notes us → IsOverride o vs → IsGlobal limit o kind ws → globals ≡ true → ts ≡ us ++ (vs ++ ws) → d ≡ decl notes kind (cover ts) → IsMember limit globals d ts

-- members with Separators between them, or none
pub data IsMembers : Limit → Bool → List Decl → List Spelled → Type 0 where
  members_none : {limit : Limit} {globals : Bool} {xs : List Decl} {ts : List Spelled} → ts ≡ [] → xs ≡ [] → IsMembers limit globals xs ts
  members_some : {limit : Limit} {globals : Bool} {xs : List Decl} {ts : List Spelled}
      → Separated Decl (separator ∷ []) (IsMember limit globals) xs ts → IsMembers limit globals xs ts

-- `{ MEMBERS }`, or nothing
pub data IsBraced : Limit → Bool → Option (List Decl) → List Spelled → Type 0 where
  braced_not : {limit : Limit} {globals : Bool} {o : Option (List Decl)} {ts : List Spelled} → ts ≡ [] → o ≡ None → IsBraced limit globals o ts
  braced_so : {limit : Limit} {globals : Bool} {o : Option (List Decl)} {ts us : List Spelled} {members : List Decl} (p q : Spelled)
      → Is (left_brace ∷ []) p → IsMembers limit globals members us → Is (right_brace ∷ []) q → ts ≡ p ∷ (us ++ q ∷ []) → o ≡ Some members → IsBraced limit globals o ts

-- what a declaration declares that stands in no other: an enum, integers, a class, a trait, an object
pub data IsDeclared : Limit → DeclKind → List Spelled → Type 0 where
  is_enum : {limit : Limit} {kind : DeclKind} {ts us : List Spelled} {all : List Lexeme} (w k p q : Spelled)
      → Is (object_word ∷ []) w → Is names k → Is (left_brace ∷ []) p → Separated Lexeme (separator ∷ []) IsEnumName all us → Is (right_brace ∷ []) q
      → ts ≡ w ∷ k ∷ p ∷ (us ++ q ∷ []) → kind ≡ decl_kind.Enum k.text all → IsDeclared limit kind ts
  is_ints : {limit : Limit} {kind : DeclKind} {ts : List Spelled} (w k : Spelled)
      → Is (class_word ∷ []) w → Is names k → ts ≡ w ∷ k ∷ [] → kind ≡ decl_kind.Ints k.text → IsDeclared limit kind ts
  is_class : {limit : Limit} {kind : DeclKind} {ts us vs ws xs : List Spelled} {types : List (List ℕ)} {params : List Param} {parents : List TypeTerm} {methods : Option (List Decl)} (w k : Spelled)
      → Is (class_word ∷ []) w → Is names k → IsTypeParams types us → IsParams limit params vs → IsParents limit parents ws → IsBraced limit false methods xs
      → ts ≡ w ∷ k ∷ (us ++ (vs ++ (ws ++ xs))) → kind ≡ decl_kind.Class k.text types params parents methods → IsDeclared limit kind ts
  is_trait : {limit : Limit} {kind : DeclKind} {ts us vs ws : List Spelled} {types : List (List ℕ)} {parents : List TypeTerm} {methods : Option (List Decl)} (w k : Spelled)
      → Is (trait_word ∷ []) w → Is names k → IsTypeParams types us → IsParents limit parents vs → IsBraced limit false methods ws
      → ts ≡ w ∷ k ∷ (us ++ (vs ++ ws)) → kind ≡ decl_kind.Trait k.text types parents methods → IsDeclared limit kind ts
  is_object : {limit : Limit} {kind : DeclKind} {ts us vs : List Spelled} {parents : List TypeTerm} {members : Option (List Decl)} (w k : Spelled)
      → Is (object_word ∷ []) w → Is names k → IsParents limit parents us → IsBraced limit true members vs
      → ts ≡ w ∷ k ∷ (us ++ vs) → kind ≡ decl_kind.Object k.text parents members → IsDeclared limit kind ts

-- a declaration with its notes
pub data IsDecl : Limit → Decl → List Spelled → Type 0 where
  decl_of : {limit : Limit} {d : Decl} {ts us vs : List Spelled} {notes : List Note} {kind : DeclKind}
      → IsNotes limit notes us → IsDeclared limit kind vs → ts ≡ us ++ vs → d ≡ decl notes kind (cover ts) → IsDecl limit d ts

-- imports and declarations, in any order, each behind a Separator
pub data IsItems : Limit → List Import → List Decl → List Spelled → Type 0 where
  items_none : {limit : Limit} {imports : List Import} {decls : List Decl} {ts : List Spelled} → ts ≡ [] → imports ≡ [] → decls ≡ [] → IsItems limit imports decls ts
  items_import : {limit : Limit} {imports rest : List Import} {decls : List Decl} {ts us vs : List Spelled} {x : Import} (s : Spelled)
      → Is (separator ∷ []) s → IsImport x us → IsItems limit rest decls vs → ts ≡ s ∷ (us ++ vs) → imports ≡ x ∷ rest → IsItems limit imports decls ts
  items_decl : {limit : Limit} {imports : List Import} {decls rest : List Decl} {ts us vs : List Spelled} {d : Decl} (s : Spelled)
      → Is (separator ∷ []) s → IsDecl limit d us → IsItems limit imports rest vs → ts ≡ s ∷ (us ++ vs) → decls ≡ d ∷ rest → IsItems limit imports decls ts

-- a file whose line feeds stand at these places
pub data IsFile : Limit → List ℕ → File → List Spelled → Type 0 where
  file_of : {limit : Limit} {feeds : List ℕ} {x : File} {ts us vs ws : List Spelled} {path : List (List ℕ)} {imports : List Import} {decls : List Decl}
      → IsPackage path us → IsLibrary vs → IsItems limit imports decls ws
      → ts ≡ us ++ (vs ++ ws) → x ≡ record { «package» = path; imports = imports; decls = decls; span = cover ts; feeds = feeds } → IsFile limit feeds x ts
