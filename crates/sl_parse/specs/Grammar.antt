-- The grammar as a whole: the kinds of tokens that begin each name, what the names spell, and how they are read.
use Rattle.std.specs.Prelude.{◌≡◌, ℕ, suc, List, [], ◌∷◌, ◌++◌, length, Bool, true, false, Some, None, codes, bytes_eq, ◌⊎◌}
use Rattle.std.proofs.Common.{inl, inr}
use Rattle.sl_grammar.specs.Phrase.{Found, Stopped, read_token, read_both}
use Rattle.sl_grammar.specs.Law.{found_as}
use Rattle.sl_grammar.specs.Grammar.{Sets, Val, is, has, and, not}
use Rattle.sl_grammar.specs.Rules.{Names, Readers, read_at}
use Rattle.sl_tree.specs.Sorts.{Spelled, sort, left_parenthesis, left_bracket, left_brace, right_brace, dot, underscore, equals, at_sign, val_word, var_word, quoted, separator, package_word, import_word, class_word, object_word, trait_word, extends_word, with_word, def_word, override_word, symbol}
use Rattle.sl_tree.specs.WellShaped.{Is, names as identifiers, join, IsType, IsBlock, IsPath}
use Rattle.sl_tree.specs.Declarations.{Limit, Nested, AnyLevel, Separated, IsIdentifier, IsEnumName, IsLibrary, IsImport, IsPair, IsNote, IsNotes, IsTypeParams, IsParam, IsParams, IsParents, IsMember, IsMembers, IsBraced, IsDeclared, IsDecl, IsPackage, IsFile}
use Rattle.sl_tree.specs.declared.tree.Lexeme.{Lexeme}
use Rattle.sl_tree.specs.declared.tree.TypeTerm.{TypeTerm, out-TypeTerm}
use Rattle.sl_tree.specs.declared.tree.Expr.{Expr, out-Expr}
use Rattle.sl_tree.specs.declared.tree.Stmt.{Stmt}
use Rattle.sl_tree.specs.declared.tree.Import.{Import}
use Rattle.sl_tree.specs.declared.tree.Decl.{Decl}
use Rattle.sl_parse_expr.specs.Names.{Type_term as A_type, Expression as An_expression, Block as A_block}
use Rattle.sl_parse_expr.specs.Values.{Tall, BlockParts}
use Rattle.sl_parse_expr.specs.Grammar.{some, solid, loose, expression_kinds, after_kinds, read as read_phrase}
use Rattle.sl_parse.specs.Names.{Name, Type_term, Expression, Block, Library, Path, Import_name, Import_step, Import_of, Pair, Note_of, Notes, Type_params, Param_of, Params, Parents, Enum_names, Member, Members, Braced, Declared, Decl_of, Item, Package, File_of, rule_of}
use Rattle.sl_parse.specs.Values.{Covered, T_of, tree_of, whole, total, span_in, step_all, value_of}

-- two languages: files whose phrases nest at most 64 deep, and all files
pub data Bound : Type 0 where
  Limited : Bound
  Unlimited : Bound

abbrev pub limit_of : Bound → Limit
limit_of Limited = Some 64
limit_of Unlimited = None

-- the kinds that begin each name, and that may go on after it
abbrev pub sets_at : Name → Sets
sets_at Type_term = solid identifiers (dot ∷ left_bracket ∷ [])
sets_at Expression = solid (expression_kinds None) after_kinds
sets_at Block = solid (left_brace ∷ []) []
sets_at Library = solid (import_word ∷ []) []
sets_at Path = solid identifiers (dot ∷ [])
sets_at Import_name = solid identifiers []
sets_at Import_step = solid (dot ∷ []) []
sets_at Import_of = solid (import_word ∷ []) (dot ∷ [])
sets_at Pair = solid identifiers after_kinds
sets_at Note_of = solid (at_sign ∷ []) (left_parenthesis ∷ [])
sets_at Notes = loose (at_sign ∷ []) (at_sign ∷ left_parenthesis ∷ [])
sets_at Type_params = loose (left_bracket ∷ []) (left_bracket ∷ [])
sets_at Param_of = solid (val_word ∷ var_word ∷ identifiers) (dot ∷ left_bracket ∷ [])
sets_at Params = solid (left_parenthesis ∷ []) []
sets_at Parents = loose (extends_word ∷ []) (extends_word ∷ dot ∷ left_bracket ∷ with_word ∷ [])
sets_at Enum_names = solid (quoted ∷ symbol ∷ []) []
sets_at (Member globals) = solid (at_sign ∷ override_word ∷ some globals (val_word ∷ var_word ∷ []) ++ def_word ∷ []) (equals ∷ after_kinds)
sets_at (Members globals) = solid (at_sign ∷ override_word ∷ some globals (val_word ∷ var_word ∷ []) ++ def_word ∷ right_brace ∷ []) []
sets_at (Braced globals) = loose (left_brace ∷ []) (left_brace ∷ [])
sets_at Declared = solid (class_word ∷ trait_word ∷ object_word ∷ []) (left_bracket ∷ left_parenthesis ∷ extends_word ∷ dot ∷ with_word ∷ left_brace ∷ [])
sets_at Decl_of = solid (at_sign ∷ class_word ∷ trait_word ∷ object_word ∷ []) (left_bracket ∷ left_parenthesis ∷ extends_word ∷ dot ∷ with_word ∷ left_brace ∷ [])
sets_at Item = solid (import_word ∷ at_sign ∷ class_word ∷ trait_word ∷ object_word ∷ []) (dot ∷ left_bracket ∷ left_parenthesis ∷ extends_word ∷ with_word ∷ left_brace ∷ [])
sets_at Package = loose (package_word ∷ []) (package_word ∷ [])
sets_at File_of = solid (package_word ∷ import_word ∷ []) (separator ∷ dot ∷ left_bracket ∷ left_parenthesis ∷ extends_word ∷ with_word ∷ left_brace ∷ [])

-- how many names may stand first in it one in another, at most
abbrev pub rank_at : Name → ℕ
rank_at Notes = 1
rank_at (Member globals) = 2
rank_at (Members globals) = 3
rank_at Decl_of = 2
rank_at Item = 3
rank_at File_of = 1
rank_at other = 0

-- how high its lowest tree is, at most
abbrev pub height_at : Name → ℕ
height_at Pair = 1
height_at Param_of = 1
height_at Import_of = 1
height_at (Member globals) = 1
height_at Decl_of = 1
height_at Item = 2
height_at File_of = 1
height_at other = 0

abbrev pub own_at : Name → Bool
own_at Type_term = true
own_at Expression = true
own_at Block = true
own_at Library = true
own_at other = false

abbrev pub grammar : Names Name
grammar = record {
  rule = rule_of;
  sets = sets_at;
  rank = rank_at;
  height = height_at;
  valid = λ n. true;
  own = own_at;
}

-- an import may go on until `_`
abbrev pub room : (n m : Name) → T_of n → List (T_of m) → Bool
room Import_name Import_step x qs = not (step_all qs)
room n m x qs = true

abbrev pub tree : (n : Name) → Val sort T_of (rule_of n) → T_of n
tree n v = (value_of n v (total (span_in (rule_of n) v)), span_in (rule_of n) v)

-- what the names spell: trees that are well shaped, whose phrases nest within a limit
abbrev pub spells_item : Limit → Import ⊎ Decl → List Spelled → Type 0
spells_item limit (inl x) ts = IsImport x ts
spells_item limit (inr d) ts = IsDecl limit d ts

abbrev pub spells_tree : Limit → (n : Name) → tree_of n → List Spelled → Type 0
spells_tree limit Type_term x ts = Nested limit IsType x ts
spells_tree limit Expression x ts = Nested limit AnyLevel x ts
spells_tree limit Block x ts = Nested limit IsBlock x ts
spells_tree limit Library x ts = IsLibrary ts
spells_tree limit Path x ts = IsPath x ts
spells_tree limit Import_name x ts = IsIdentifier x ts
spells_tree limit Import_step x ts = (d : Spelled) × Is (dot ∷ []) d × Is (identifiers ++ underscore ∷ []) x × (ts ≡ d ∷ x ∷ [])
spells_tree limit Import_of x ts = IsImport x ts
spells_tree limit Pair x ts = IsPair limit x ts
spells_tree limit Note_of x ts = IsNote limit x ts
spells_tree limit Notes x ts = IsNotes limit x ts
spells_tree limit Type_params x ts = IsTypeParams x ts
spells_tree limit Param_of x ts = IsParam limit x ts
spells_tree limit Params x ts = IsParams limit x ts
spells_tree limit Parents x ts = IsParents limit x ts
spells_tree limit Enum_names x ts = (us : List Spelled) × (q : Spelled) × Separated Lexeme (separator ∷ []) IsEnumName x us × Is (right_brace ∷ []) q × (ts ≡ us ++ q ∷ [])
spells_tree limit (Member globals) x ts = IsMember limit globals x ts
spells_tree limit (Members globals) x ts = (us : List Spelled) × (q : Spelled) × IsMembers limit globals x us × Is (right_brace ∷ []) q × (ts ≡ us ++ q ∷ [])
spells_tree limit (Braced globals) x ts = IsBraced limit globals x ts
spells_tree limit Declared x ts = IsDeclared limit x ts
spells_tree limit Decl_of x ts = IsDecl limit x ts
spells_tree limit Item x ts = spells_item limit x ts
spells_tree limit Package x ts = IsPackage x ts
spells_tree limit File_of x ts = IsFile limit [] x ts

-- with the span of their tokens
abbrev pub spells : Limit → (n : Name) → T_of n → List Spelled → Type 0
spells limit n v ts = spells_tree limit n v.0 ts × (v.1 ≡ whole ts)

-- What is read in its own way.

-- an identifier of these bytes
abbrev pub is_named : List ℕ → Spelled → Bool
is_named text k = and (has identifiers (sort k)) (bytes_eq k.text text)

abbrev pub LibraryParts : Type 0
LibraryParts = Spelled × (Spelled × (Spelled × (Spelled × (Spelled × Spelled))))

abbrev pub read_library : List Spelled → Found Spelled LibraryParts
read_library ts =
    read_both (read_token (is sort (import_word ∷ []))) (read_both (read_token (is_named (codes "org"))) (read_both (read_token (is sort (dot ∷ [])))
    (read_both (read_token (is_named (codes "sireum"))) (read_both (read_token (is sort (dot ∷ []))) (read_token (is sort (underscore ∷ []))))))) ts

abbrev pub library_value : LibraryParts → Covered (Unit {0})
library_value (i, (o, (d, (s, (e, u))))) = (tt, Some (join i.span u.span))

abbrev pub type_value : Tall TypeTerm → Covered TypeTerm
type_value v = (v.0, Some (out-TypeTerm v.0).span)

abbrev pub expr_value : Tall Expr → Covered Expr
expr_value v = (v.0, Some (out-Expr v.0).span)

abbrev pub block_value : BlockParts → Covered (List Stmt)
block_value (p, (x, q)) = (x.0, Some (join p.span q.span))

abbrev pub by_hand_at : Limit → (n : Name) → List Spelled → Found Spelled (T_of n)
by_hand_at limit Type_term ts = found_as type_value (read_phrase limit A_type ts)
by_hand_at limit Expression ts = found_as expr_value (read_phrase limit An_expression ts)
by_hand_at limit Block ts = found_as block_value (read_phrase limit A_block ts)
by_hand_at limit Library ts = found_as library_value (read_library ts)
by_hand_at limit other ts = Stopped ts

abbrev pub by_hand : Limit → Readers Spelled T_of → Readers Spelled T_of → Readers Spelled T_of
by_hand limit lead later n ts = by_hand_at limit n ts

-- what is found at the front of a list of tokens
unfoldable pub read : Bound → (n : Name) → List Spelled → Found Spelled (T_of n)
read b n ts = read_at sort grammar T_of room tree (by_hand (limit_of b)) (suc (length ts)) n ts
