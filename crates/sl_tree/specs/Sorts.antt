-- Tokens with their bytes, and the sorts of tokens that the grammar tells apart.
use Rattle.std.specs.Prelude.{ℕ, ◌-◌, List, [], take, drop, ◌==◌, if◌then◌else◌, codes, bytes_eq, nat_lt}
use Rattle.sl_text.specs.declared.place.Span.{Span}
use Rattle.sl_text.specs.declared.token.Kind.{Kind}
use Rattle.sl_text.specs.declared.token.Kind.TheVariants.{Ident, Word, Number, Quoted, Letter, Symbol, Prefixed, Operator, Mark, Separator}
use Rattle.sl_text.specs.declared.token.Token.{Token}
use Rattle.sl_tree.specs.declared.tree.Lexeme.{Lexeme}

-- a token with its bytes
pub record Spelled : Type 0 where
  pub kind : Kind
  pub text : List ℕ
  pub span : Span

-- the bytes of a file in a span
abbrev pub within : List ℕ → Span → List ℕ
within bytes span = take (span.to - span.from) (drop span.from bytes)

unfoldable pub spelled : List ℕ → Token → Spelled
spelled bytes token = record { kind = token.kind; text = within bytes token.span; span = token.span }

-- the sorts
abbrev pub left_parenthesis : ℕ
left_parenthesis = 0

abbrev pub right_parenthesis : ℕ
right_parenthesis = 1

abbrev pub left_bracket : ℕ
left_bracket = 2

abbrev pub right_bracket : ℕ
right_bracket = 3

abbrev pub left_brace : ℕ
left_brace = 4

abbrev pub right_brace : ℕ
right_brace = 5

abbrev pub comma : ℕ
comma = 6

abbrev pub dot : ℕ
dot = 7

abbrev pub underscore : ℕ
underscore = 8

abbrev pub colon : ℕ
colon = 9

abbrev pub equals : ℕ
equals = 10

abbrev pub double_arrow : ℕ
double_arrow = 11

abbrev pub left_arrow : ℕ
left_arrow = 12

-- `@`
abbrev pub at_sign : ℕ
at_sign = 13

abbrev pub if_word : ℕ
if_word = 14

abbrev pub else_word : ℕ
else_word = 15

abbrev pub match_word : ℕ
match_word = 16

abbrev pub case_word : ℕ
case_word = 17

abbrev pub val_word : ℕ
val_word = 18

abbrev pub var_word : ℕ
var_word = 19

abbrev pub while_word : ℕ
while_word = 20

abbrev pub for_word : ℕ
for_word = 21

abbrev pub return_word : ℕ
return_word = 22

abbrev pub this_word : ℕ
this_word = 23

-- an identifier other than those of the next four sorts; `T` or `F`; `until`; `to`; `Contract` or `Invariant`
abbrev pub plain_name : ℕ
plain_name = 24

abbrev pub truth_name : ℕ
truth_name = 25

abbrev pub until_name : ℕ
until_name = 26

abbrev pub to_name : ℕ
to_name = 27

abbrev pub contract_name : ℕ
contract_name = 28

abbrev pub number : ℕ
number = 29

abbrev pub quoted : ℕ
quoted = 30

abbrev pub letter : ℕ
letter = 31

-- a Prefixed whose prefix isn't `l`, and one whose prefix is
abbrev pub prefixed : ℕ
prefixed = 32

abbrev pub prefixed_l : ℕ
prefixed_l = 33

abbrev pub separator : ℕ
separator = 34

-- `!` and `~`
abbrev pub exclamation : ℕ
exclamation = 40

abbrev pub tilde : ℕ
tilde = 41

-- `-`, which stands before an operand or between two, and the other infix operators by their levels, the lowest first
abbrev pub minus : ℕ
minus = 50

abbrev pub or_operator : ℕ
or_operator = 51

abbrev pub and_operator : ℕ
and_operator = 52

abbrev pub equal_operator : ℕ
equal_operator = 53

abbrev pub less_operator : ℕ
less_operator = 54

abbrev pub append_operator : ℕ
append_operator = 55

abbrev pub plus_operator : ℕ
plus_operator = 56

abbrev pub times_operator : ℕ
times_operator = 57

-- all else
abbrev pub other : ℕ
other = 60

-- the words that stand in declarations alone, and a Symbol
abbrev pub package_word : ℕ
package_word = 61

abbrev pub import_word : ℕ
import_word = 62

abbrev pub class_word : ℕ
class_word = 63

abbrev pub object_word : ℕ
object_word = 64

abbrev pub trait_word : ℕ
trait_word = 65

abbrev pub extends_word : ℕ
extends_word = 66

abbrev pub with_word : ℕ
with_word = 67

abbrev pub def_word : ℕ
def_word = 68

abbrev pub override_word : ℕ
override_word = 69

abbrev pub symbol : ℕ
symbol = 70

unfoldable pub sort_of_mark : List ℕ → ℕ
sort_of_mark text =
    if bytes_eq text (codes "(") then left_parenthesis
    else if bytes_eq text (codes ")") then right_parenthesis
    else if bytes_eq text (codes "[") then left_bracket
    else if bytes_eq text (codes "]") then right_bracket
    else if bytes_eq text (codes "{") then left_brace
    else if bytes_eq text (codes "}") then right_brace
    else if bytes_eq text (codes ",") then comma
    else if bytes_eq text (codes ".") then dot
    else if bytes_eq text (codes "_") then underscore
    else if bytes_eq text (codes ":") then colon
    else if bytes_eq text (codes "=") then equals
    else if bytes_eq text (codes "=>") then double_arrow
    else if bytes_eq text (codes "<-") then left_arrow
    else if bytes_eq text (codes "@") then at_sign
    else other

unfoldable pub sort_of_word : List ℕ → ℕ
sort_of_word text =
    if bytes_eq text (codes "if") then if_word
    else if bytes_eq text (codes "else") then else_word
    else if bytes_eq text (codes "match") then match_word
    else if bytes_eq text (codes "case") then case_word
    else if bytes_eq text (codes "val") then val_word
    else if bytes_eq text (codes "var") then var_word
    else if bytes_eq text (codes "while") then while_word
    else if bytes_eq text (codes "for") then for_word
    else if bytes_eq text (codes "return") then return_word
    else if bytes_eq text (codes "this") then this_word
    else if bytes_eq text (codes "package") then package_word
    else if bytes_eq text (codes "import") then import_word
    else if bytes_eq text (codes "class") then class_word
    else if bytes_eq text (codes "object") then object_word
    else if bytes_eq text (codes "trait") then trait_word
    else if bytes_eq text (codes "extends") then extends_word
    else if bytes_eq text (codes "with") then with_word
    else if bytes_eq text (codes "def") then def_word
    else if bytes_eq text (codes "override") then override_word
    else other

unfoldable pub sort_of_name : List ℕ → ℕ
sort_of_name text =
    if bytes_eq text (codes "T") then truth_name
    else if bytes_eq text (codes "F") then truth_name
    else if bytes_eq text (codes "until") then until_name
    else if bytes_eq text (codes "to") then to_name
    else if bytes_eq text (codes "Contract") then contract_name
    else if bytes_eq text (codes "Invariant") then contract_name
    else plain_name

unfoldable pub sort_of_operator : List ℕ → ℕ
sort_of_operator text =
    if bytes_eq text (codes "!") then exclamation
    else if bytes_eq text (codes "~") then tilde
    else if bytes_eq text (codes "-") then minus
    else if bytes_eq text (codes "|") then or_operator
    else if bytes_eq text (codes "||") then or_operator
    else if bytes_eq text (codes "|^") then or_operator
    else if bytes_eq text (codes "&") then and_operator
    else if bytes_eq text (codes "&&") then and_operator
    else if bytes_eq text (codes "==") then equal_operator
    else if bytes_eq text (codes "!=") then equal_operator
    else if bytes_eq text (codes "<") then less_operator
    else if bytes_eq text (codes "<=") then less_operator
    else if bytes_eq text (codes ">") then less_operator
    else if bytes_eq text (codes ">=") then less_operator
    else if bytes_eq text (codes "<<") then less_operator
    else if bytes_eq text (codes ">>") then less_operator
    else if bytes_eq text (codes ">>>") then less_operator
    else if bytes_eq text (codes ":+") then append_operator
    else if bytes_eq text (codes "+") then plus_operator
    else if bytes_eq text (codes "*") then times_operator
    else if bytes_eq text (codes "/") then times_operator
    else if bytes_eq text (codes "%") then times_operator
    else other

-- the prefix of a Prefixed is `l`
unfoldable pub sort_of_prefixed : List ℕ → ℕ
sort_of_prefixed text = if bytes_eq (take 2 text) (codes "l\"") then prefixed_l else prefixed

-- a Separator has no bytes
unfoldable pub sort_of_separator : List ℕ → ℕ
sort_of_separator text = if bytes_eq text [] then separator else other

unfoldable pub sort_of : Kind → List ℕ → ℕ
sort_of Ident text = sort_of_name text
sort_of Word text = sort_of_word text
sort_of Number text = number
sort_of Quoted text = quoted
sort_of Letter text = letter
sort_of Symbol text = symbol
sort_of Prefixed text = sort_of_prefixed text
sort_of Operator text = sort_of_operator text
sort_of Mark text = sort_of_mark text
sort_of Separator text = sort_of_separator text

-- the sort of a token
abbrev pub sort : Spelled → ℕ
sort token = sort_of token.kind token.text

-- a tree's token, without its place
abbrev pub lexeme : Spelled → Lexeme
lexeme token = record { kind = token.kind; text = token.text }

-- a token of a kind with these bytes, at no place of its own
abbrev pub made : Kind → List ℕ → Spelled
made kind text = record { kind = kind; text = text; span = record { file = 0; from = 0; to = 0 } }

-- a token of each sort
abbrev pub example_mark : ℕ → Spelled
example_mark of =
    if of == left_parenthesis then made Mark (codes "(")
    else if of == right_parenthesis then made Mark (codes ")")
    else if of == left_bracket then made Mark (codes "[")
    else if of == right_bracket then made Mark (codes "]")
    else if of == left_brace then made Mark (codes "{")
    else if of == right_brace then made Mark (codes "}")
    else if of == comma then made Mark (codes ",")
    else if of == dot then made Mark (codes ".")
    else if of == underscore then made Mark (codes "_")
    else if of == colon then made Mark (codes ":")
    else if of == equals then made Mark (codes "=")
    else if of == double_arrow then made Mark (codes "=>")
    else if of == left_arrow then made Mark (codes "<-")
    else made Mark (codes "@")

abbrev pub example_word : ℕ → Spelled
example_word of =
    if of == if_word then made Word (codes "if")
    else if of == else_word then made Word (codes "else")
    else if of == match_word then made Word (codes "match")
    else if of == case_word then made Word (codes "case")
    else if of == val_word then made Word (codes "val")
    else if of == var_word then made Word (codes "var")
    else if of == while_word then made Word (codes "while")
    else if of == for_word then made Word (codes "for")
    else if of == return_word then made Word (codes "return")
    else made Word (codes "this")

abbrev pub example_name : ℕ → Spelled
example_name of =
    if of == plain_name then made Ident (codes "a")
    else if of == truth_name then made Ident (codes "T")
    else if of == until_name then made Ident (codes "until")
    else if of == to_name then made Ident (codes "to")
    else if of == contract_name then made Ident (codes "Contract")
    else if of == number then made Number (codes "0")
    else if of == quoted then made Quoted (codes "\"\"")
    else if of == letter then made Letter (codes "'a'")
    else if of == prefixed then made Prefixed (codes "a\"\"")
    else if of == prefixed_l then made Prefixed (codes "l\"\"")
    else made Separator []

abbrev pub example_operator : ℕ → Spelled
example_operator of =
    if of == exclamation then made Operator (codes "!")
    else if of == tilde then made Operator (codes "~")
    else if of == minus then made Operator (codes "-")
    else if of == or_operator then made Operator (codes "|")
    else if of == and_operator then made Operator (codes "&")
    else if of == equal_operator then made Operator (codes "==")
    else if of == less_operator then made Operator (codes "<")
    else if of == append_operator then made Operator (codes ":+")
    else if of == plus_operator then made Operator (codes "+")
    else made Operator (codes "*")

abbrev pub example_declaring : ℕ → Spelled
example_declaring of =
    if of == package_word then made Word (codes "package")
    else if of == import_word then made Word (codes "import")
    else if of == class_word then made Word (codes "class")
    else if of == object_word then made Word (codes "object")
    else if of == trait_word then made Word (codes "trait")
    else if of == extends_word then made Word (codes "extends")
    else if of == with_word then made Word (codes "with")
    else if of == def_word then made Word (codes "def")
    else if of == override_word then made Word (codes "override")
    else if of == symbol then made Symbol (codes "'a")
    else made Operator (codes "?")

unfoldable pub example : ℕ → Spelled
example of =
    if nat_lt of if_word then example_mark of
    else if nat_lt of plain_name then example_word of
    else if nat_lt of exclamation then example_name of
    else if nat_lt of other then example_operator of
    else example_declaring of
