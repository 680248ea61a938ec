-- What a token's sort says of its kind and of its bytes.
use Rattle.std.proofs.Common.{◌≡◌, ℕ, List, [], ◌∷◌, take, refl, sym, ap, subst, Bool, true, false, true≢false, if◌then◌else◌, Option, Some, None, IfSome}
use Rattle.std.specs.Prelude.{eqb, ◌==◌, bytes_eq, codes, nat_lt}
use Rattle.std.proofs.lemmas.Bool.{eqb-true}
use Rattle.std.proofs.lemmas.Bool.Decides.{Decides-eqb}
use Rattle.std.proofs.lemmas.Slice.Eq.{bytes_eq-Decides}
use Rattle.sl_text.specs.declared.token.Kind.{Kind}
use Rattle.sl_text.specs.declared.token.Kind.TheVariants.{Ident, Word, Number, Quoted, Letter, Symbol, Prefixed, Operator, Mark, Separator}
use Rattle.sl_grammar.specs.Grammar.{has}
use Rattle.sl_tree.specs.declared.tree.Lexeme.{Lexeme}
use Rattle.sl_tree.specs.Sorts.{Spelled, sort, sort_of, sort_of_name, sort_of_word, sort_of_prefixed, sort_of_separator, sort_of_operator, sort_of_mark, lexeme, left_parenthesis, right_parenthesis, left_bracket, right_bracket, left_brace, right_brace, comma, dot, underscore, colon, equals, double_arrow, left_arrow, at_sign, other, if_word, else_word, match_word, case_word, val_word, var_word, while_word, for_word, return_word, this_word, plain_name, truth_name, until_name, to_name, contract_name, number, quoted, letter, prefixed, prefixed_l, separator, or_operator, and_operator, equal_operator, less_operator, append_operator, plus_operator, times_operator, minus, exclamation, tilde, package_word, import_word, class_word, object_word, trait_word, extends_word, with_word, def_word, override_word, symbol}
use Rattle.sl_tree.specs.WellShaped.{Is, names, operators}
use Rattle.sl_tree.specs.Flat.{name, word, mark, operator, end, flat_let, flat_until}

-- the token of a sort that has one spelling
fixed : ℕ → Option Lexeme
fixed of =
    if of == left_parenthesis then Some (mark (codes "("))
    else if of == right_parenthesis then Some (mark (codes ")"))
    else if of == left_bracket then Some (mark (codes "["))
    else if of == right_bracket then Some (mark (codes "]"))
    else if of == left_brace then Some (mark (codes "{"))
    else if of == right_brace then Some (mark (codes "}"))
    else if of == comma then Some (mark (codes ","))
    else if of == dot then Some (mark (codes "."))
    else if of == underscore then Some (mark (codes "_"))
    else if of == colon then Some (mark (codes ":"))
    else if of == equals then Some (mark (codes "="))
    else if of == double_arrow then Some (mark (codes "=>"))
    else if of == left_arrow then Some (mark (codes "<-"))
    else if of == at_sign then Some (mark (codes "@"))
    else if of == if_word then Some (word (codes "if"))
    else if of == else_word then Some (word (codes "else"))
    else if of == match_word then Some (word (codes "match"))
    else if of == case_word then Some (word (codes "case"))
    else if of == val_word then Some (word (codes "val"))
    else if of == var_word then Some (word (codes "var"))
    else if of == while_word then Some (word (codes "while"))
    else if of == for_word then Some (word (codes "for"))
    else if of == return_word then Some (word (codes "return"))
    else if of == this_word then Some (word (codes "this"))
    else if of == until_name then Some (name (codes "until"))
    else if of == to_name then Some (name (codes "to"))
    else if of == separator then Some end
    else if of == minus then Some (operator (codes "-"))
    else if of == package_word then Some (word (codes "package"))
    else if of == import_word then Some (word (codes "import"))
    else if of == class_word then Some (word (codes "class"))
    else if of == object_word then Some (word (codes "object"))
    else if of == trait_word then Some (word (codes "trait"))
    else if of == extends_word then Some (word (codes "extends"))
    else if of == with_word then Some (word (codes "with"))
    else if of == def_word then Some (word (codes "def"))
    else if of == override_word then Some (word (codes "override"))
    else None

-- the kind of the tokens of a sort, where it is an identifier or an operator
kind_of : ℕ → Option Kind
kind_of of =
    if nat_lt of plain_name then None
    else if nat_lt of number then Some Ident
    else if nat_lt of exclamation then None
    else if nat_lt of other then Some Operator
    else None

-- both of a token
abbrev Both : ℕ → Lexeme → Type 0
Both of token = IfSome (fixed of) (λ spelt. token ≡ spelt) × IfSome (kind_of of) (λ kind. token.kind ≡ kind)

record Fits (of : ℕ) (token : Lexeme) : Type 0 where
  is : Both of token

fit : (of : ℕ) {token : Lexeme} → Both of token → Fits of token
fit of both = record { is = both }

-- a token whose bytes are compared with some
here : (kind : Kind) (text spelling : List ℕ) (of : ℕ) {rest : ℕ} → Both of (record { kind = kind; text = spelling }) → Fits rest (record { kind = kind; text = text })
    → Fits (if bytes_eq text spelling then of else rest) (record { kind = kind; text = text })
here kind text spelling of {rest} so not_so = by (bytes_eq text spelling) refl
  where
    by : (b : Bool) → bytes_eq text spelling ≡ b → Fits (if b then of else rest) (record { kind = kind; text = text })
    by true e = fit of (subst (λ t. Both of (record { kind = kind; text = t })) (sym ((bytes_eq-Decides text spelling).0 e)) so)
    by false e = not_so

fits_mark : (text : List ℕ) → Fits (sort_of_mark text) (mark text)
unfolding sort_of_mark fixed kind_of
fits_mark text =
    here Mark text (codes "(") left_parenthesis (refl, tt)
    (here Mark text (codes ")") right_parenthesis (refl, tt)
    (here Mark text (codes "[") left_bracket (refl, tt)
    (here Mark text (codes "]") right_bracket (refl, tt)
    (here Mark text (codes "{") left_brace (refl, tt)
    (here Mark text (codes "}") right_brace (refl, tt)
    (here Mark text (codes ",") comma (refl, tt)
    (here Mark text (codes ".") dot (refl, tt)
    (here Mark text (codes "_") underscore (refl, tt)
    (here Mark text (codes ":") colon (refl, tt)
    (here Mark text (codes "=") equals (refl, tt)
    (here Mark text (codes "=>") double_arrow (refl, tt)
    (here Mark text (codes "<-") left_arrow (refl, tt)
    (here Mark text (codes "@") at_sign (refl, tt) (fit other (tt, tt)))))))))))))))

fits_word : (text : List ℕ) → Fits (sort_of_word text) (word text)
unfolding sort_of_word fixed kind_of
fits_word text =
    here Word text (codes "if") if_word (refl, tt)
    (here Word text (codes "else") else_word (refl, tt)
    (here Word text (codes "match") match_word (refl, tt)
    (here Word text (codes "case") case_word (refl, tt)
    (here Word text (codes "val") val_word (refl, tt)
    (here Word text (codes "var") var_word (refl, tt)
    (here Word text (codes "while") while_word (refl, tt)
    (here Word text (codes "for") for_word (refl, tt)
    (here Word text (codes "return") return_word (refl, tt)
    (here Word text (codes "this") this_word (refl, tt)
    (here Word text (codes "package") package_word (refl, tt)
    (here Word text (codes "import") import_word (refl, tt)
    (here Word text (codes "class") class_word (refl, tt)
    (here Word text (codes "object") object_word (refl, tt)
    (here Word text (codes "trait") trait_word (refl, tt)
    (here Word text (codes "extends") extends_word (refl, tt)
    (here Word text (codes "with") with_word (refl, tt)
    (here Word text (codes "def") def_word (refl, tt)
    (here Word text (codes "override") override_word (refl, tt) (fit other (tt, tt))))))))))))))))))))

fits_name : (text : List ℕ) → Fits (sort_of_name text) (name text)
unfolding sort_of_name fixed kind_of
fits_name text =
    here Ident text (codes "T") truth_name (tt, refl)
    (here Ident text (codes "F") truth_name (tt, refl)
    (here Ident text (codes "until") until_name (refl, refl)
    (here Ident text (codes "to") to_name (refl, refl)
    (here Ident text (codes "Contract") contract_name (tt, refl)
    (here Ident text (codes "Invariant") contract_name (tt, refl) (fit plain_name (tt, refl)))))))

fits_operator : (text : List ℕ) → Fits (sort_of_operator text) (operator text)
unfolding sort_of_operator fixed kind_of
fits_operator text =
    here Operator text (codes "!") exclamation (tt, refl)
    (here Operator text (codes "~") tilde (tt, refl)
    (here Operator text (codes "-") minus (refl, refl)
    (here Operator text (codes "|") or_operator (tt, refl)
    (here Operator text (codes "||") or_operator (tt, refl)
    (here Operator text (codes "|^") or_operator (tt, refl)
    (here Operator text (codes "&") and_operator (tt, refl)
    (here Operator text (codes "&&") and_operator (tt, refl)
    (here Operator text (codes "==") equal_operator (tt, refl)
    (here Operator text (codes "!=") equal_operator (tt, refl)
    (here Operator text (codes "<") less_operator (tt, refl)
    (here Operator text (codes "<=") less_operator (tt, refl)
    (here Operator text (codes ">") less_operator (tt, refl)
    (here Operator text (codes ">=") less_operator (tt, refl)
    (here Operator text (codes "<<") less_operator (tt, refl)
    (here Operator text (codes ">>") less_operator (tt, refl)
    (here Operator text (codes ">>>") less_operator (tt, refl)
    (here Operator text (codes ":+") append_operator (tt, refl)
    (here Operator text (codes "+") plus_operator (tt, refl)
    (here Operator text (codes "*") times_operator (tt, refl)
    (here Operator text (codes "/") times_operator (tt, refl)
    (here Operator text (codes "%") times_operator (tt, refl) (fit other (tt, tt)))))))))))))))))))))))

fits_prefixed : (text : List ℕ) → Fits (sort_of_prefixed text) (record { kind = Prefixed; text = text })
unfolding sort_of_prefixed fixed kind_of
fits_prefixed text = by (bytes_eq (take 2 text) (codes "l\""))
  where
    by : (b : Bool) → Fits (if b then prefixed_l else prefixed) (record { kind = Prefixed; text = text })
    by true = fit prefixed_l (tt, tt)
    by false = fit prefixed (tt, tt)

fits_separator : (text : List ℕ) → Fits (sort_of_separator text) (record { kind = Separator; text = text })
unfolding sort_of_separator fixed kind_of
fits_separator text = here Separator text [] separator (refl, tt) (fit other (tt, tt))

fits : (kind : Kind) (text : List ℕ) → Fits (sort_of kind text) (record { kind = kind; text = text })
unfolding sort_of fixed kind_of
fits Ident text = fits_name text
fits Word text = fits_word text
fits Number text = fit number (tt, tt)
fits Quoted text = fit quoted (tt, tt)
fits Letter text = fit letter (tt, tt)
fits Symbol text = fit symbol (tt, tt)
fits Prefixed text = fits_prefixed text
fits Operator text = fits_operator text
fits Mark text = fits_mark text
fits Separator text = fits_separator text

fits_token : (k : Spelled) → Fits (sort k) (lexeme k)
fits_token k = fits k.kind k.text

-- what holds of each of some sorts holds of the sort of a token that is of one of them
abbrev Each : (ℕ → Type 0) → List ℕ → Type 0
Each P [] = Unit {0}
Each P (of ∷ sorts) = P of × Each P sorts

each : (P : ℕ → Type 0) (sorts : List ℕ) (k : Spelled) → Each P sorts → Is sorts k → P (sort k)
each P [] k all is = absurd (true≢false (sym is))
each P (of ∷ sorts) k all is = by (eqb of (sort k)) refl is (each P sorts k all.1)
  where
    by : (b : Bool) → eqb of (sort k) ≡ b → (if b then true else has sorts (sort k)) ≡ true → (Is sorts k → P (sort k)) → P (sort k)
    by true e now later = subst P (eqb-true of (sort k) e) all.0
    by false e now later = later now

-- a token of a sort that has one spelling
one : (of : ℕ) (k : Spelled) → Is (of ∷ []) k → IfSome (fixed of) (λ spelt. lexeme k ≡ spelt)
one of k is = (subst (λ s. Fits s (lexeme k)) (sym (each (λ s. of ≡ s) (of ∷ []) k (refl, tt) is)) (fits_token k)).is.0

-- a token whose sort is known is of that sort
pub sort_is : (of : ℕ) (k : Spelled) → sort k ≡ of → Is (of ∷ []) k
sort_is of k e = subst (λ s. has (s ∷ []) (sort k) ≡ true) e (ap (λ b. if b then true else false) ((Decides-eqb (sort k) (sort k)).1 refl))

-- The tokens of each sort that has one spelling.

pub left_parenthesis_is : (k : Spelled) → Is (left_parenthesis ∷ []) k → lexeme k ≡ mark (codes "(")
unfolding fixed
left_parenthesis_is k is = one left_parenthesis k is

pub right_parenthesis_is : (k : Spelled) → Is (right_parenthesis ∷ []) k → lexeme k ≡ mark (codes ")")
unfolding fixed
right_parenthesis_is k is = one right_parenthesis k is

pub left_bracket_is : (k : Spelled) → Is (left_bracket ∷ []) k → lexeme k ≡ mark (codes "[")
unfolding fixed
left_bracket_is k is = one left_bracket k is

pub right_bracket_is : (k : Spelled) → Is (right_bracket ∷ []) k → lexeme k ≡ mark (codes "]")
unfolding fixed
right_bracket_is k is = one right_bracket k is

pub left_brace_is : (k : Spelled) → Is (left_brace ∷ []) k → lexeme k ≡ mark (codes "{")
unfolding fixed
left_brace_is k is = one left_brace k is

pub right_brace_is : (k : Spelled) → Is (right_brace ∷ []) k → lexeme k ≡ mark (codes "}")
unfolding fixed
right_brace_is k is = one right_brace k is

pub comma_is : (k : Spelled) → Is (comma ∷ []) k → lexeme k ≡ mark (codes ",")
unfolding fixed
comma_is k is = one comma k is

pub dot_is : (k : Spelled) → Is (dot ∷ []) k → lexeme k ≡ mark (codes ".")
unfolding fixed
dot_is k is = one dot k is

pub underscore_is : (k : Spelled) → Is (underscore ∷ []) k → lexeme k ≡ mark (codes "_")
unfolding fixed
underscore_is k is = one underscore k is

pub colon_is : (k : Spelled) → Is (colon ∷ []) k → lexeme k ≡ mark (codes ":")
unfolding fixed
colon_is k is = one colon k is

pub equals_is : (k : Spelled) → Is (equals ∷ []) k → lexeme k ≡ mark (codes "=")
unfolding fixed
equals_is k is = one equals k is

pub double_arrow_is : (k : Spelled) → Is (double_arrow ∷ []) k → lexeme k ≡ mark (codes "=>")
unfolding fixed
double_arrow_is k is = one double_arrow k is

pub left_arrow_is : (k : Spelled) → Is (left_arrow ∷ []) k → lexeme k ≡ mark (codes "<-")
unfolding fixed
left_arrow_is k is = one left_arrow k is

pub if_word_is : (k : Spelled) → Is (if_word ∷ []) k → lexeme k ≡ word (codes "if")
unfolding fixed
if_word_is k is = one if_word k is

pub else_word_is : (k : Spelled) → Is (else_word ∷ []) k → lexeme k ≡ word (codes "else")
unfolding fixed
else_word_is k is = one else_word k is

pub match_word_is : (k : Spelled) → Is (match_word ∷ []) k → lexeme k ≡ word (codes "match")
unfolding fixed
match_word_is k is = one match_word k is

pub case_word_is : (k : Spelled) → Is (case_word ∷ []) k → lexeme k ≡ word (codes "case")
unfolding fixed
case_word_is k is = one case_word k is

pub val_word_is : (k : Spelled) → Is (val_word ∷ []) k → lexeme k ≡ word (codes "val")
unfolding fixed
val_word_is k is = one val_word k is

pub var_word_is : (k : Spelled) → Is (var_word ∷ []) k → lexeme k ≡ word (codes "var")
unfolding fixed
var_word_is k is = one var_word k is

pub while_word_is : (k : Spelled) → Is (while_word ∷ []) k → lexeme k ≡ word (codes "while")
unfolding fixed
while_word_is k is = one while_word k is

pub for_word_is : (k : Spelled) → Is (for_word ∷ []) k → lexeme k ≡ word (codes "for")
unfolding fixed
for_word_is k is = one for_word k is

pub return_word_is : (k : Spelled) → Is (return_word ∷ []) k → lexeme k ≡ word (codes "return")
unfolding fixed
return_word_is k is = one return_word k is

pub this_word_is : (k : Spelled) → Is (this_word ∷ []) k → lexeme k ≡ word (codes "this")
unfolding fixed
this_word_is k is = one this_word k is

pub at_sign_is : (k : Spelled) → Is (at_sign ∷ []) k → lexeme k ≡ mark (codes "@")
unfolding fixed
at_sign_is k is = one at_sign k is

pub package_word_is : (k : Spelled) → Is (package_word ∷ []) k → lexeme k ≡ word (codes "package")
unfolding fixed
package_word_is k is = one package_word k is

pub import_word_is : (k : Spelled) → Is (import_word ∷ []) k → lexeme k ≡ word (codes "import")
unfolding fixed
import_word_is k is = one import_word k is

pub class_word_is : (k : Spelled) → Is (class_word ∷ []) k → lexeme k ≡ word (codes "class")
unfolding fixed
class_word_is k is = one class_word k is

pub object_word_is : (k : Spelled) → Is (object_word ∷ []) k → lexeme k ≡ word (codes "object")
unfolding fixed
object_word_is k is = one object_word k is

pub trait_word_is : (k : Spelled) → Is (trait_word ∷ []) k → lexeme k ≡ word (codes "trait")
unfolding fixed
trait_word_is k is = one trait_word k is

pub extends_word_is : (k : Spelled) → Is (extends_word ∷ []) k → lexeme k ≡ word (codes "extends")
unfolding fixed
extends_word_is k is = one extends_word k is

pub with_word_is : (k : Spelled) → Is (with_word ∷ []) k → lexeme k ≡ word (codes "with")
unfolding fixed
with_word_is k is = one with_word k is

pub def_word_is : (k : Spelled) → Is (def_word ∷ []) k → lexeme k ≡ word (codes "def")
unfolding fixed
def_word_is k is = one def_word k is

pub override_word_is : (k : Spelled) → Is (override_word ∷ []) k → lexeme k ≡ word (codes "override")
unfolding fixed
override_word_is k is = one override_word k is

pub minus_is : (k : Spelled) → Is (minus ∷ []) k → lexeme k ≡ operator (codes "-")
unfolding fixed
minus_is k is = one minus k is

pub separator_is : (k : Spelled) → Is (separator ∷ []) k → lexeme k ≡ end
unfolding fixed
separator_is k is = one separator k is

-- `val` or `var`; `until` or `to`

pub let_is : (k : Spelled) → Is (val_word ∷ var_word ∷ []) k → lexeme k ≡ flat_let (sort k == var_word)
unfolding fixed
let_is k is = each (λ s. Fits s (lexeme k) → lexeme k ≡ flat_let (s == var_word)) (val_word ∷ var_word ∷ []) k (λ f. f.is.0, (λ f. f.is.0, tt)) is (fits_token k)

pub until_is : (k : Spelled) → Is (until_name ∷ to_name ∷ []) k → lexeme k ≡ flat_until (sort k == to_name)
unfolding fixed
until_is k is = each (λ s. Fits s (lexeme k) → lexeme k ≡ flat_until (s == to_name)) (until_name ∷ to_name ∷ []) k (λ f. f.is.0, (λ f. f.is.0, tt)) is (fits_token k)

-- identifiers and operators

abbrev IsKind : Kind → ℕ → Type 0
IsKind kind of = kind_of of ≡ Some kind

kind_is : (kind : Kind) (sorts : List ℕ) (k : Spelled) → Each (IsKind kind) sorts → Is sorts k → k.kind ≡ kind
kind_is kind sorts k all is = subst (λ o. IfSome o (λ x. k.kind ≡ x)) (each (IsKind kind) sorts k all is) (fits_token k).is.1

pub names_are : (k : Spelled) → Is names k → k.kind ≡ Ident
unfolding kind_of
names_are k is = kind_is Ident names k (refl, (refl, (refl, (refl, (refl, tt))))) is

pub names_bound_are : (k : Spelled) → Is (plain_name ∷ until_name ∷ to_name ∷ contract_name ∷ []) k → k.kind ≡ Ident
unfolding kind_of
names_bound_are k is = kind_is Ident (plain_name ∷ until_name ∷ to_name ∷ contract_name ∷ []) k (refl, (refl, (refl, (refl, tt)))) is

pub prefixes_are : (k : Spelled) → Is (minus ∷ exclamation ∷ tilde ∷ []) k → k.kind ≡ Operator
unfolding kind_of
prefixes_are k is = kind_is Operator (minus ∷ exclamation ∷ tilde ∷ []) k (refl, (refl, (refl, tt))) is

pub operators_are : (level : ℕ) (k : Spelled) → Is (operators level) k → k.kind ≡ Operator
unfolding kind_of
operators_are level k is = kind_is Operator (operators level) k all is
  where
    by : (b : Bool) (xs ys : List ℕ) → Each (IsKind Operator) xs → Each (IsKind Operator) ys → Each (IsKind Operator) (if b then xs else ys)
    by true xs ys p q = p
    by false xs ys p q = q

    all : Each (IsKind Operator) (operators level)
    all =
        by (level == 1) (or_operator ∷ []) _ (refl, tt)
        (by (level == 2) (and_operator ∷ []) _ (refl, tt)
        (by (level == 3) (equal_operator ∷ []) _ (refl, tt)
        (by (level == 4) (less_operator ∷ []) _ (refl, tt)
        (by (level == 5) (append_operator ∷ []) _ (refl, tt)
        (by (level == 6) (minus ∷ plus_operator ∷ []) (times_operator ∷ []) (refl, (refl, tt)) (refl, tt))))))

-- as a tree has them

named : (k : Spelled) → k.kind ≡ Ident → lexeme k ≡ name k.text
named k is = ap (λ (kind : Kind). record { kind = kind; text = k.text }) is

acting : (k : Spelled) → k.kind ≡ Operator → lexeme k ≡ operator k.text
acting k is = ap (λ (kind : Kind). record { kind = kind; text = k.text }) is

pub name_is : (k : Spelled) → Is names k → lexeme k ≡ name k.text
name_is k is = named k (names_are k is)

pub bound_is : (k : Spelled) → Is (plain_name ∷ until_name ∷ to_name ∷ contract_name ∷ []) k → lexeme k ≡ name k.text
bound_is k is = named k (names_bound_are k is)

pub prefix_is : (k : Spelled) → Is (minus ∷ exclamation ∷ tilde ∷ []) k → lexeme k ≡ operator k.text
prefix_is k is = acting k (prefixes_are k is)

pub operator_is : (level : ℕ) (k : Spelled) → Is (operators level) k → lexeme k ≡ operator k.text
operator_is level k is = acting k (operators_are level k is)
