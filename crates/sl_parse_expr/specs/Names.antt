-- The grammar of types, patterns, expressions and statements as data: its names, each with the room that it has, and their rules.
use Rattle.std.specs.Prelude.{ℕ, zero, suc, List, [], ◌∷◌, ◌++◌, Bool, true, false, Option, Some, None, leb, if◌then◌else◌}
use Rattle.sl_grammar.specs.Grammar.{Form, Token, Nothing, Ref, Then, Either, Room, Many, Chain, Gate, Ahead, Without}
use Rattle.sl_tree.specs.Sorts.{left_parenthesis, right_parenthesis, left_bracket, right_bracket, left_brace, right_brace, comma, dot, underscore, colon, equals, double_arrow, left_arrow, if_word, else_word, match_word, case_word, val_word, var_word, while_word, for_word, return_word, this_word, until_name, to_name, contract_name, number, prefixed_l, separator, exclamation, tilde, minus}
use Rattle.sl_tree.specs.WellShaped.{names, literals, operators}

-- what has rules: a path; a type; an expression; what has infix operators of a level or higher ones, and a link of a level, which is an
-- operator with its right side; an operand, with a prefix or without; what stands behind a minus; an operand with its suffixes; a
-- suffix; arguments up to their closing parenthesis; what no suffix belongs to; `match { .. }`; a case; a pattern, what stands behind an
-- identifier that begins one, and the arguments in it
pub data Name : Type 0 where
  Path : Name
  Type_term : Name
  Expression : Name
  Level : ℕ → Name
  Link : ℕ → Name
  Prefix : Name
  Minus : Name
  Postfix : Name
  Suffix : Name
  Arguments : Name
  Primary : Name
  Matched : Name
  A_case : Name
  Pattern_of : Name
  Name_tail : Name
  Class_tail : Name
  -- statements with Separators between them; the same in braces; a statement; what `val` and `var` begin; the head of an `if`; all
  -- that begins with `if`; the rest of an `if` expression, and what it is assigned; an `if` with blocks; its `else`; `while`; `for`;
  -- `return`; what begins with an expression, or is skipped; what begins with an expression; that expression, and a `match`; what is
  -- assigned to it; a group in brackets
  Statements : Name
  Block : Name
  Statement : Name
  Declaration : Name
  If_head : Name
  If_any : Name
  If_tail : Name
  If_only : Name
  Else_tail : Name
  While_loop : Name
  For_loop : Name
  Return_of : Name
  Opening : Name
  Started : Name
  Begun : Name
  Assigned : Name
  Group : Name

-- how many levels of nodes there is room for; None where there is no limit
abbrev pub Levels : Type 0
Levels = Option ℕ

-- there is room for so many
abbrev pub holds : Levels → ℕ → Bool
holds None n = true
holds (Some m) n = leb n m

-- there is room for a level; for one more below it
abbrev pub open_to : Levels → Bool
open_to None = true
open_to (Some zero) = false
open_to (Some (suc n)) = true

abbrev pub deeper : Levels → Levels
deeper None = None
deeper (Some zero) = Some zero
deeper (Some (suc n)) = Some n

abbrev pub fits : Levels → Bool
fits r = open_to (deeper r)

pub record At : Type 0 where
  pub name : Name
  pub room : Levels

abbrev pub at : Name → Levels → At
at name room = record { name = name; room = room }

-- short names for forms
abbrev pub T : List ℕ → Form At
T = Token

abbrev pub listed : Name → Levels → Form At
listed name r = Then (Ref (at name r)) (Many (Then (T (comma ∷ [])) (Ref (at name r))))

abbrev pub types_form : Levels → Form At
types_form r = Then (T (left_bracket ∷ [])) (Then (listed Type_term r) (T (right_bracket ∷ [])))

abbrev pub field_form : Levels → Form At
field_form r = Then (T (equals ∷ [])) (Ref (at Expression r))

abbrev pub head_form : Levels → Form At
head_form r = Then (T (left_parenthesis ∷ [])) (Then (Ref (at Expression r)) (T (right_parenthesis ∷ [])))

-- the forms of what has another rule where there is no room below
abbrev pub if_tail_form : Levels → Form At
if_tail_form r =
    Then (Ref (at Expression (deeper (deeper r)))) (Then (T (else_word ∷ [])) (Then (Ref (at Expression (deeper (deeper r)))) (Either (field_form (deeper r)) Nothing)))

abbrev pub opening_form : Levels → Form At
opening_form r = Ahead (contract_name ∷ []) (left_parenthesis ∷ []) (Ref (at Group r)) (Without (prefixed_l ∷ []) (Ref (at Started r)))

abbrev pub skip_form : Levels → Form At
skip_form r = Then (T (contract_name ∷ [])) (Ref (at Group r))

abbrev pub rule_at : Name → Levels → Form At
rule_at Path r = Then (T names) (Many (Then (T (dot ∷ [])) (T names)))
rule_at Type_term r = Then (Ref (at Path r)) (Room (fits r) (types_form (deeper r)) Nothing)
rule_at Expression r =
    Room (fits r)
    (Then (T (if_word ∷ [])) (Then (head_form (deeper r)) (Then (Ref (at Expression (deeper r))) (Then (T (else_word ∷ [])) (Ref (at Expression (deeper r)))))))
    (Chain (fits r) (at (Level 1) r) (at Matched r))
rule_at (Level l) r = if leb l 7 then Chain (fits r) (at (Level (suc l)) r) (at (Link l) r) else Ref (at Prefix r)
rule_at (Link l) r = Then (T (operators l)) (Ref (at (Level (suc l)) (deeper r)))
rule_at Prefix r =
    Either (Then (T (minus ∷ [])) (Ref (at Minus r)))
    (Room (fits r) (Then (T (exclamation ∷ tilde ∷ [])) (Ref (at Postfix (deeper r)))) (Ref (at Postfix r)))
rule_at Minus r = if fits r then Ref (at Postfix (deeper r)) else T (number ∷ [])
rule_at Postfix r = Chain (fits r) (at Primary r) (at Suffix r)
rule_at Suffix r =
    Either (Then (T (dot ∷ [])) (T names))
    (Either (types_form (deeper r)) (Then (T (left_parenthesis ∷ [])) (Ref (at Arguments (deeper r)))))
rule_at Arguments r =
    Either
    (Gate (at Expression r)
    (Then (field_form r) (Then (Many (Then (T (comma ∷ [])) (Then (T names) (field_form r)))) (T (right_parenthesis ∷ []))))
    (Then (Many (Then (T (comma ∷ [])) (Ref (at Expression r)))) (T (right_parenthesis ∷ []))))
    (T (right_parenthesis ∷ []))
rule_at Primary r = Room (fits r) (head_form (deeper r)) (T (literals ++ names ++ this_word ∷ []))
rule_at Matched r =
    Then (T (match_word ∷ [])) (Then (T (left_brace ∷ [])) (Then (Ref (at A_case (deeper r))) (Then (Many (Ref (at A_case (deeper r)))) (T (right_brace ∷ [])))))
rule_at A_case r =
    Then (T (case_word ∷ [])) (Then (Ref (at Pattern_of r)) (Then (Either (Then (T (if_word ∷ [])) (Ref (at Expression r))) Nothing)
    (Then (T (double_arrow ∷ [])) (Ref (at Statements r)))))
rule_at Pattern_of r =
    Either (Then (T (underscore ∷ [])) (Room (fits r) (Then (T (colon ∷ [])) (Ref (at Type_term (deeper r)))) Nothing))
    (Either (Then (T (minus ∷ [])) (T (number ∷ [])))
    (Either (T literals) (Then (T names) (Ref (at Name_tail r)))))
rule_at Name_tail r =
    Room (fits r) (Then (T (colon ∷ [])) (Ref (at Type_term (deeper r)))) (Then (Many (Then (T (dot ∷ [])) (T names))) (Ref (at Class_tail r)))
rule_at Class_tail r =
    Either (Then (T (left_parenthesis ∷ [])) (Then (Room (fits r) (listed Pattern_of (deeper r)) Nothing) (T (right_parenthesis ∷ [])))) Nothing
rule_at Statements r = Room (open_to r) (Then (Ref (at Statement r)) (Many (Then (T (separator ∷ [])) (Ref (at Statement r))))) Nothing
rule_at Block r = Then (T (left_brace ∷ [])) (Then (Ref (at Statements r)) (T (right_brace ∷ [])))
rule_at Statement r =
    Room (fits r) (Ref (at Declaration r)) (Room (fits r) (Ref (at If_any r)) (Room (fits r) (Ref (at While_loop r)) (Room (fits r) (Ref (at For_loop r))
    (Either (Ref (at Return_of r)) (Either (T (prefixed_l ∷ [])) (Ref (at Opening r)))))))
rule_at Declaration r =
    Then (T (val_word ∷ var_word ∷ [])) (Then (T names)
    (Then (Either (Then (T (colon ∷ [])) (Ref (at Type_term (deeper r)))) Nothing) (field_form (deeper r))))
rule_at If_head r = Then (T (if_word ∷ [])) (head_form (deeper r))
rule_at If_any r = Gate (at If_head r) (Ref (at If_tail r)) (Then (Ref (at Block (deeper r))) (Ref (at Else_tail r)))
rule_at If_tail r = if fits (deeper r) then if_tail_form r else T (number ∷ [])
rule_at If_only r = Then (Ref (at If_head r)) (Then (Ref (at Block (deeper r))) (Ref (at Else_tail r)))
rule_at Else_tail r = Either (Then (T (else_word ∷ [])) (Room (fits (deeper r)) (Ref (at If_only (deeper r))) (Ref (at Block (deeper r))))) Nothing
rule_at While_loop r = Then (T (while_word ∷ [])) (Then (head_form (deeper r)) (Ref (at Block (deeper r))))
rule_at For_loop r =
    Then (T (for_word ∷ [])) (Then (T (left_parenthesis ∷ [])) (Then (T names) (Then (T (left_arrow ∷ [])) (Then (Ref (at Expression (deeper r)))
    (Then (T (until_name ∷ to_name ∷ [])) (Then (Ref (at Expression (deeper r))) (Then (T (right_parenthesis ∷ [])) (Ref (at Block (deeper r))))))))))
rule_at Return_of r = Then (T (return_word ∷ [])) (Room (fits r) (Ref (at Expression (deeper r))) Nothing)
rule_at Opening r = if fits r then opening_form r else skip_form r
rule_at Started r = Chain true (at Begun r) (at Assigned r)
rule_at Begun r = Then (Ref (at (Level 1) (deeper r))) (Either (Ref (at Matched r)) Nothing)
rule_at Assigned r = field_form (deeper r)
rule_at Group r = Nothing
