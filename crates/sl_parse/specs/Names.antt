-- The grammar of declarations and files as data: its names and their rules. Types, expressions and blocks are read by the grammar of
-- sl_parse_expr.
use Rattle.std.specs.Prelude.{ℕ, List, [], ◌∷◌, ◌++◌, Bool, true, false}
use Rattle.sl_grammar.specs.Grammar.{Form, Token, Nothing, Ref, Then, Either, Room, Many, Chain}
use Rattle.sl_tree.specs.Sorts.{left_parenthesis, right_parenthesis, left_bracket, right_bracket, left_brace, right_brace, comma, dot, underscore, colon, equals, at_sign, val_word, var_word, quoted, separator, package_word, import_word, class_word, object_word, trait_word, extends_word, with_word, def_word, override_word, symbol}
use Rattle.sl_tree.specs.WellShaped.{names}

-- a type, an expression, a block, and the library's import, which are read in their own ways
pub data Name : Type 0 where
  Type_term : Name
  Expression : Name
  Block : Name
  Library : Name
  -- names with dots between them; an import, the first name in it, and a dot with what follows it
  Path : Name
  Import_name : Name
  Import_step : Name
  Import_of : Name
  -- `NAME = EXPR`; a note; notes
  Pair : Name
  Note_of : Name
  Notes : Name
  -- type parameters, or nothing; a parameter; parameters in parentheses; parents, or nothing
  Type_params : Name
  Param_of : Name
  Params : Name
  Parents : Name
  -- the names of an enum, up to the brace that closes them
  Enum_names : Name
  -- a member, where globals are among them or not; members up to the brace that closes them; members in braces, or nothing
  Member : Bool → Name
  Members : Bool → Name
  Braced : Bool → Name
  -- what a declaration declares; the same with its notes; an import or a declaration; a package, or nothing; a file
  Declared : Name
  Decl_of : Name
  Item : Name
  Package : Name
  File_of : Name

-- short names for forms
abbrev pub T : List ℕ → Form Name
T = Token

abbrev pub perhaps : Form Name → Form Name
perhaps p = Either p Nothing

-- one and more, with a token between each two
abbrev pub listed : List ℕ → Form Name → Form Name
listed sorts p = Then p (Many (Then (T sorts) p))

-- one and more, and a token that closes them
abbrev pub closed : List ℕ → Form Name → ℕ → Form Name
closed sorts p close = Then p (Then (Many (Then (T sorts) p)) (T (close ∷ [])))

abbrev pub typed_form : Form Name
typed_form = Then (T (colon ∷ [])) (Ref Type_term)

abbrev pub given_form : Form Name
given_form = Then (T (equals ∷ [])) (Either (Ref Block) (Ref Expression))

abbrev pub result_form : Form Name
result_form = Then (T (colon ∷ [])) (Then (Ref Type_term) (perhaps given_form))

abbrev pub method_form : Form Name
method_form = Then (T (def_word ∷ [])) (Then (T names) (Then (Ref Type_params) (Then (perhaps (Ref Params)) result_form)))

abbrev pub global_form : Form Name
global_form = Then (T (val_word ∷ var_word ∷ [])) (Then (T names) (Then (perhaps typed_form) (Then (T (equals ∷ [])) (Ref Expression))))

abbrev pub extends_form : Form Name
extends_form = Then (T (extends_word ∷ [])) (listed (with_word ∷ []) (Ref Type_term))

-- what stands behind the name of a class, unless it is integers; of a trait; of an object
abbrev pub class_tail : Form Name
class_tail = Then (Ref Type_params) (Then (Ref Params) (Then (Ref Parents) (Ref (Braced false))))

abbrev pub trait_tail : Form Name
trait_tail = Then (Ref Type_params) (Then (Ref Parents) (Ref (Braced false)))

abbrev pub object_braces : Form Name
object_braces = Then (T (left_brace ∷ [])) (Either (Ref Enum_names) (Ref (Members true)))

abbrev pub object_tail : Form Name
object_tail = Either (Then extends_form (Ref (Braced true))) (perhaps object_braces)

abbrev pub class_form : Form Name
class_form = Then (T (class_word ∷ [])) (Then (T names) (perhaps class_tail))

abbrev pub trait_form : Form Name
trait_form = Then (T (trait_word ∷ [])) (Then (T names) trait_tail)

abbrev pub object_form : Form Name
object_form = Then (T (object_word ∷ [])) (Then (T names) object_tail)

abbrev pub rule_of : Name → Form Name
rule_of Type_term = Nothing
rule_of Expression = Nothing
rule_of Block = Nothing
rule_of Library = Nothing
rule_of Path = listed (dot ∷ []) (T names)
rule_of Import_name = T names
rule_of Import_step = Then (T (dot ∷ [])) (T (names ++ underscore ∷ []))
rule_of Import_of = Then (T (import_word ∷ [])) (Chain true Import_name Import_step)
rule_of Pair = Then (T names) (Then (T (equals ∷ [])) (Ref Expression))
rule_of Note_of = Then (T (at_sign ∷ [])) (Then (T names) (perhaps (Then (T (left_parenthesis ∷ [])) (closed (comma ∷ []) (Ref Pair) right_parenthesis))))
rule_of Notes = Many (Ref Note_of)
rule_of Type_params = perhaps (Then (T (left_bracket ∷ [])) (closed (comma ∷ []) (T names) right_bracket))
rule_of Param_of = Then (perhaps (T (val_word ∷ var_word ∷ []))) (Then (T names) typed_form)
rule_of Params = Then (T (left_parenthesis ∷ [])) (Then (perhaps (listed (comma ∷ []) (Ref Param_of))) (T (right_parenthesis ∷ [])))
rule_of Parents = perhaps extends_form
rule_of Enum_names = closed (separator ∷ []) (T (quoted ∷ symbol ∷ [])) right_brace
rule_of (Member globals) = Then (Ref Notes) (Then (perhaps (T (override_word ∷ []))) (Room globals global_form method_form))
rule_of (Members globals) = Then (perhaps (listed (separator ∷ []) (Ref (Member globals)))) (T (right_brace ∷ []))
rule_of (Braced globals) = perhaps (Then (T (left_brace ∷ [])) (Ref (Members globals)))
rule_of Declared = Either class_form (Either trait_form object_form)
rule_of Decl_of = Then (Ref Notes) (Ref Declared)
rule_of Item = Either (Ref Import_of) (Ref Decl_of)
rule_of Package = perhaps (Then (T (package_word ∷ [])) (Then (Ref Path) (T (separator ∷ []))))
rule_of File_of = Then (Ref Package) (Then (Ref Library) (Many (Then (T (separator ∷ [])) (Ref Item))))
