-- The grammar as a whole: the kinds of tokens that begin each name, the room that there is, and how it is read.
use Rattle.std.specs.Prelude.{◌≡◌, ℕ, zero, suc, ◌≤◌, List, [], ◌∷◌, ◌++◌, length, Bool, true, false, leb, if◌then◌else◌}
use Rattle.std.proofs.Common.{inl, inr}
use Rattle.sl_grammar.specs.Phrase.{Found, Stopped}
use Rattle.sl_grammar.specs.Grammar.{Form, Token, Ref, Chain, Sets, and, Val, spells_form}
use Rattle.sl_grammar.specs.Growing.{folded}
use Rattle.sl_grammar.specs.Rules.{Names, Readers, read_at}
use Rattle.sl_grammar.specs.Brackets.{spells_group, read_group}
use Rattle.sl_tree.specs.Sorts.{Spelled, sort, left_parenthesis, right_parenthesis, left_bracket, left_brace, dot, underscore, colon, equals, if_word, else_word, match_word, case_word, val_word, var_word, while_word, for_word, return_word, this_word, contract_name, number, quoted, letter, prefixed, prefixed_l, separator, exclamation, tilde, minus}
use Rattle.sl_tree.specs.WellShaped.{Is, names as identifiers, literals, operators, is_name, IsType, IsExpr, IsCase, IsPattern, IsStmts, IsStmt, IsIfStmt, same_bracket, bracket_of, Round}
use Rattle.sl_tree.specs.declared.tree.Expr.{Expr}
use Rattle.sl_parse_expr.specs.Names.{Name, Path, Type_term, Expression, Level, Link, Prefix, Minus, Postfix, Suffix, Arguments, Primary, Matched, A_case, Pattern_of, Name_tail, Class_tail, Statements, Block, Statement, Declaration, If_head, If_any, If_tail, If_only, Else_tail, While_loop, For_loop, Return_of, Opening, Started, Begun, Assigned, Group, At, at, Levels, holds, open_to, deeper, fits, rule_at, if_tail_form, opening_form, skip_form}
use Rattle.sl_parse_expr.specs.Values.{Tall, type_of, T_of, type_from, primary_from, suffix_to, prefix_from, infix_to, expression_from, match_to, pattern_from, case_from, statements_from, blocks_from, statement_from, token_expr, IfTailParts, OpeningParts}

-- the kinds that begin what no suffix belongs to, an operand, and an expression, where there is room below or not
abbrev pub some : Bool → List ℕ → List ℕ
some c ks = if c then ks else []

abbrev pub primary_kinds : Levels → List ℕ
primary_kinds r = some (fits r) (left_parenthesis ∷ []) ++ (literals ++ identifiers ++ this_word ∷ [])

abbrev pub prefix_kinds : Levels → List ℕ
prefix_kinds r = (minus ∷ some (fits r) (exclamation ∷ tilde ∷ [])) ++ primary_kinds r

abbrev pub expression_kinds : Levels → List ℕ
expression_kinds r = some (fits r) (if_word ∷ []) ++ prefix_kinds r

-- the same, but for a Prefixed whose prefix is `l`
abbrev pub opening_kinds : Levels → List ℕ
opening_kinds r =
    (minus ∷ some (fits r) (exclamation ∷ tilde ∷ [])) ++ some (fits r) (left_parenthesis ∷ [])
    ++ (number ∷ quoted ∷ letter ∷ prefixed ∷ []) ++ identifiers ++ this_word ∷ []

-- the kinds that go on after an operand, after one of a level, and after an expression
abbrev pub suffix_kinds : List ℕ
suffix_kinds = dot ∷ left_bracket ∷ left_parenthesis ∷ []

abbrev pub level_kinds : ℕ → List ℕ
level_kinds level =
    some (leb level 7) (operators 7) ++ some (leb level 6) (operators 6) ++ some (leb level 5) (operators 5) ++ some (leb level 4) (operators 4)
    ++ some (leb level 3) (operators 3) ++ some (leb level 2) (operators 2) ++ some (leb level 1) (operators 1) ++ suffix_kinds

abbrev pub after_kinds : List ℕ
after_kinds = match_word ∷ level_kinds 1

-- those that begin a statement, and go on after one
abbrev pub statement_kinds : Levels → List ℕ
statement_kinds r =
    some (fits r) (val_word ∷ var_word ∷ if_word ∷ while_word ∷ for_word ∷ []) ++ return_word ∷ prefixed_l
    ∷ (if fits r then opening_kinds (deeper r) else contract_name ∷ [])

abbrev pub behind_kinds : List ℕ
behind_kinds = equals ∷ else_word ∷ if_word ∷ after_kinds ++ exclamation ∷ tilde ∷ (literals ++ identifiers ++ this_word ∷ [])

abbrev pub solid : List ℕ → List ℕ → Sets
solid first after = record { first = first; after = after; blank = false }

abbrev pub loose : List ℕ → List ℕ → Sets
loose first after = record { first = first; after = after; blank = true }

abbrev pub sets_at : Name → Levels → Sets
sets_at Path r = solid identifiers (dot ∷ [])
sets_at Type_term r = solid identifiers (dot ∷ left_bracket ∷ [])
sets_at Expression r = solid (expression_kinds r) after_kinds
sets_at (Level l) r = solid (prefix_kinds r) (level_kinds l)
sets_at (Link l) r = solid (operators l) (level_kinds (suc l))
sets_at Prefix r = solid (prefix_kinds r) suffix_kinds
sets_at Minus r = solid (if fits r then primary_kinds (deeper r) else number ∷ []) suffix_kinds
sets_at Postfix r = solid (primary_kinds r) suffix_kinds
sets_at Suffix r = solid suffix_kinds []
sets_at Arguments r = solid (right_parenthesis ∷ expression_kinds r) []
sets_at Primary r = solid (primary_kinds r) []
sets_at Matched r = solid (match_word ∷ []) []
sets_at A_case r = solid (case_word ∷ []) (separator ∷ statement_kinds r ++ behind_kinds)
sets_at Pattern_of r = solid (underscore ∷ minus ∷ literals ++ identifiers) (colon ∷ left_parenthesis ∷ dot ∷ left_bracket ∷ [])
sets_at Name_tail r = loose (some (fits r) (colon ∷ []) ++ dot ∷ left_parenthesis ∷ []) (colon ∷ left_parenthesis ∷ dot ∷ left_bracket ∷ [])
sets_at Class_tail r = loose (left_parenthesis ∷ []) (left_parenthesis ∷ [])
sets_at Statements r = loose (some (open_to r) (statement_kinds r)) (separator ∷ statement_kinds r ++ behind_kinds)
sets_at Block r = solid (left_brace ∷ []) []
sets_at Statement r = solid (statement_kinds r) behind_kinds
sets_at Declaration r = solid (val_word ∷ var_word ∷ []) after_kinds
sets_at If_head r = solid (if_word ∷ []) []
sets_at If_any r = solid (if_word ∷ []) (equals ∷ else_word ∷ after_kinds)
sets_at If_tail r = solid (if fits (deeper r) then expression_kinds (deeper (deeper r)) else number ∷ []) (equals ∷ after_kinds)
sets_at If_only r = solid (if_word ∷ []) (else_word ∷ [])
sets_at Else_tail r = loose (else_word ∷ []) (else_word ∷ [])
sets_at While_loop r = solid (while_word ∷ []) []
sets_at For_loop r = solid (for_word ∷ []) []
sets_at Return_of r = solid (return_word ∷ []) (expression_kinds (deeper r) ++ after_kinds)
sets_at Opening r = solid (if fits r then opening_kinds (deeper r) else contract_name ∷ []) (equals ∷ after_kinds)
sets_at Started r = solid (prefix_kinds (deeper r)) (equals ∷ after_kinds)
sets_at Begun r = solid (prefix_kinds (deeper r)) after_kinds
sets_at Assigned r = solid (equals ∷ []) after_kinds
sets_at Group r = solid (left_parenthesis ∷ []) []

-- how many names may stand first in it one in another, at most
abbrev pub level_rank : ℕ → ℕ
level_rank l =
    if leb 8 l then 4 else if leb 7 l then 5 else if leb 6 l then 6 else if leb 5 l then 7 else if leb 4 l then 8 else if leb 3 l then 9 else if leb 2 l then 10 else 11

abbrev pub rank_at : Name → ℕ
rank_at Path = 0
rank_at Type_term = 1
rank_at Expression = 12
rank_at (Level l) = level_rank l
rank_at (Link l) = 0
rank_at Prefix = 3
rank_at Minus = 2
rank_at Postfix = 1
rank_at Suffix = 0
rank_at Arguments = 13
rank_at Primary = 0
rank_at Matched = 0
rank_at A_case = 0
rank_at Pattern_of = 2
rank_at Name_tail = 1
rank_at Class_tail = 0
rank_at Statements = 16
rank_at Block = 0
rank_at Statement = 15
rank_at Declaration = 0
rank_at If_head = 0
rank_at If_any = 1
rank_at If_tail = 13
rank_at If_only = 1
rank_at Else_tail = 0
rank_at While_loop = 0
rank_at For_loop = 0
rank_at Return_of = 0
rank_at Opening = 14
rank_at Started = 13
rank_at Begun = 12
rank_at Assigned = 0
rank_at Group = 0

-- how high its lowest tree is, at most
abbrev pub height_at : Name → ℕ
height_at Path = 0
height_at Type_term = 1
height_at Expression = 12
height_at (Level l) = level_rank l
height_at (Link l) = suc (level_rank l)
height_at Prefix = 3
height_at Minus = 2
height_at Postfix = 1
height_at Suffix = 0
height_at Arguments = 13
height_at Primary = 0
height_at Matched = 4
height_at A_case = 3
height_at Pattern_of = 2
height_at Name_tail = 1
height_at Class_tail = 0
height_at Statements = 0
height_at Block = 1
height_at Statement = 2
height_at Declaration = 13
height_at If_head = 13
height_at If_any = 14
height_at If_tail = 13
height_at If_only = 14
height_at Else_tail = 0
height_at While_loop = 13
height_at For_loop = 13
height_at Return_of = 0
height_at Opening = 1
height_at Started = 13
height_at Begun = 12
height_at Assigned = 13
height_at Group = 0

-- a level from 1 up to another
abbrev pub up_to : ℕ → ℕ → Bool
up_to m zero = false
up_to zero (suc l) = false
up_to (suc m) (suc zero) = true
up_to (suc m) (suc (suc l)) = up_to m (suc l)

-- where a name has a rule: a node, where there is room for it, and what nests a node, where there is room for that
abbrev pub valid_at : Name → Levels → Bool
valid_at Path r = true
valid_at (Level l) r = and (open_to r) (up_to 8 l)
valid_at (Link l) r = and (fits r) (up_to 7 l)
valid_at Suffix r = fits r
valid_at Matched r = fits r
valid_at Statements r = true
valid_at Block r = true
valid_at Declaration r = fits r
valid_at If_head r = fits r
valid_at If_any r = fits r
valid_at If_tail r = fits r
valid_at If_only r = fits r
valid_at Else_tail r = fits r
valid_at While_loop r = fits r
valid_at For_loop r = fits r
valid_at Started r = fits r
valid_at Begun r = fits r
valid_at Assigned r = fits r
valid_at Group r = true
valid_at other r = open_to r

abbrev pub own_at : Name → Bool
own_at Group = true
own_at other = false

abbrev pub grammar : Names At
grammar = record {
  rule = λ i. rule_at i.name i.room;
  sets = λ i. sets_at i.name i.room;
  rank = λ i. rank_at i.name;
  height = λ i. height_at i.name;
  valid = λ i. valid_at i.name i.room;
  own = λ i. own_at i.name;
}

-- the room that there is after what was read: for an operator, a suffix, a `match`, what is assigned, and at gates for a name's value and
-- for an `if` expression
abbrev pub room_at : (n m : Name) → Levels → type_of n → List (type_of m) → Bool
room_at (Level k) (Link l) r x qs = holds (deeper r) (folded infix_to x qs).1
room_at Primary Suffix r x qs = holds (deeper r) (folded suffix_to x qs).1
room_at (Level l) Matched r x [] = holds (deeper r) x.1
room_at (Level l) Matched r x (q ∷ qs) = false
room_at Begun Assigned r (x, inl v) [] = holds (deeper r) (match_to x v).1
room_at Begun Assigned r (x, inr none) [] = true
room_at Begun Assigned r x (q ∷ qs) = false
room_at Expression Expression r x qs = is_name x.0
room_at If_head If_head r (i, (p, (x, q))) qs = and (fits (deeper r)) (holds (deeper (deeper r)) x.1)
room_at n m r x qs = true

abbrev pub room : (i j : At) → T_of i → List (T_of j) → Bool
room i j x qs = room_at i.name j.name j.room x qs

-- the tree of a rule that is one of two
abbrev pub choose : {X : Type 0} (p q : Form At) (b : Bool) → (Val sort T_of p → X) → (Val sort T_of q → X) → Val sort T_of (if b then p else q) → X
choose p q true f g v = f v
choose p q false f g v = g v

-- where there is no room for an `if` expression, its gate is shut, and this is never read
abbrev pub no_tail : Spelled → IfTailParts
no_tail k = ((token_expr k, 1), (k, ((token_expr k, 1), inr tt)))

abbrev pub tree_at : (n : Name) (r : Levels) → Val sort T_of (rule_at n r) → type_of n
tree_at Path r v = v
tree_at Type_term r v = type_from v
tree_at Expression r v = expression_from v
tree_at (Level l) r v = choose (Chain (fits r) (at (Level (suc l)) r) (at (Link l) r)) (Ref (at Prefix r)) (leb l 7) (λ v. folded infix_to v.0 v.1) (λ v. v) v
tree_at (Link l) r v = v
tree_at Prefix r v = prefix_from v
tree_at Minus r v = choose (Ref (at Postfix (deeper r))) (Token (number ∷ [])) (fits r) (λ v. v) (λ k. (token_expr k, 1)) v
tree_at Postfix r v = folded suffix_to v.0 v.1
tree_at Suffix r v = v
tree_at Arguments r v = v
tree_at Primary r v = primary_from v
tree_at Matched r v = v
tree_at A_case r v = case_from v
tree_at Pattern_of r v = pattern_from v
tree_at Name_tail r v = v
tree_at Class_tail r v = v
tree_at Statements r v = statements_from v
tree_at Block r v = v
tree_at Statement r v = statement_from v
tree_at Declaration r v = v
tree_at If_head r v = v
tree_at If_any r v = v
tree_at If_tail r v = choose (if_tail_form r) (Token (number ∷ [])) (fits (deeper r)) (λ v. v) no_tail v
tree_at If_only r v = blocks_from v.0 v.1
tree_at Else_tail r v = v
tree_at While_loop r v = v
tree_at For_loop r v = v
tree_at Return_of r v = v
tree_at Opening r v = choose (opening_form r) (skip_form r) (fits r) (λ v. v) (λ v. inl v) v
tree_at Started r v = v
tree_at Begun r v = v
tree_at Assigned r v = v
tree_at Group r v = []

abbrev pub tree : (i : At) → Val sort T_of (grammar.rule i) → T_of i
tree i v = tree_at i.name i.room v

-- one of two
abbrev pub one_of : Bool → Type 0 → Type 0 → Type 0
one_of true a b = a
one_of false a b = b

-- what the names spell: trees that are well shaped, and within their room
abbrev pub AtLeast : ℕ → Levels → Tall Expr → List Spelled → Type 0
AtLeast level r v ts = (l : ℕ) × (level ≤ l) × IsExpr l v.1 v.0 ts × (holds r v.1 ≡ true)

abbrev pub number_at : Tall Expr → List Spelled → Type 0
number_at v ts = (k : Spelled) × (ts ≡ k ∷ []) × Is (number ∷ []) k × (v ≡ (token_expr k, 1))

abbrev pub spells_trees : (n : Name) (r : Levels) → type_of n → List Spelled → Type 0
spells_trees Type_term r v ts = IsType v.1 v.0 ts × (holds r v.1 ≡ true)
spells_trees Expression r v ts = AtLeast 0 r v ts
spells_trees (Level l) r v ts = AtLeast l r v ts
spells_trees Prefix r v ts = AtLeast 8 r v ts
spells_trees Minus r v ts = one_of (fits r) (AtLeast 9 (deeper r) v ts) (number_at v ts)
spells_trees Postfix r v ts = AtLeast 9 r v ts
spells_trees Primary r v ts = AtLeast 10 r v ts
spells_trees A_case r v ts = IsCase v.1 v.0 ts × (holds r v.1 ≡ true)
spells_trees Pattern_of r v ts = IsPattern v.1 v.0 ts × (holds r v.1 ≡ true)
spells_trees Statements r v ts = IsStmts v.1 v.0 ts × (holds r v.1 ≡ true)
spells_trees Statement r v ts = IsStmt v.1 v.0 ts × (holds r v.1 ≡ true)
spells_trees If_only r v ts = IsIfStmt v.1 v.0 ts × (holds r v.1 ≡ true)
spells_trees Group r v ts = spells_group same_bracket bracket_of Round v ts
spells_trees other r v ts = ⊥

-- and their parts, as their rules have them: in layers, since a part may have parts
abbrev pub Spells : Type 1
Spells = (i : At) → T_of i → List Spelled → Type 0

abbrev pub by_rule : Spells → (n : Name) (r : Levels) → Val sort T_of (rule_at n r) → List Spelled → Type 0
by_rule spells n r v ts = spells_form sort T_of room spells (rule_at n r) v ts

abbrev pub trees : Spells
trees i v ts = spells_trees i.name i.room v ts

abbrev pub spells_parts : (n : Name) (r : Levels) → type_of n → List Spelled → Type 0
spells_parts Path r v ts = by_rule trees Path r v ts
spells_parts (Link l) r v ts = by_rule trees (Link l) r v ts
spells_parts Arguments r v ts = by_rule trees Arguments r v ts
spells_parts Matched r v ts = by_rule trees Matched r v ts
spells_parts Class_tail r v ts = by_rule trees Class_tail r v ts
spells_parts Block r v ts = by_rule trees Block r v ts
spells_parts Declaration r v ts = by_rule trees Declaration r v ts
spells_parts If_head r v ts = by_rule trees If_head r v ts
spells_parts If_tail r v ts = one_of (fits (deeper r)) (spells_form sort T_of room trees (if_tail_form r) v ts) ((k : Spelled) × (ts ≡ k ∷ []) × Is (number ∷ []) k × (v ≡ no_tail k))
spells_parts Return_of r v ts = by_rule trees Return_of r v ts
spells_parts Assigned r v ts = by_rule trees Assigned r v ts
spells_parts other r v ts = spells_trees other r v ts

abbrev pub parts : Spells
parts i v ts = spells_parts i.name i.room v ts

abbrev pub spells_wholes : (n : Name) (r : Levels) → type_of n → List Spelled → Type 0
spells_wholes Suffix r v ts = by_rule parts Suffix r v ts
spells_wholes Name_tail r v ts = by_rule parts Name_tail r v ts
spells_wholes Else_tail r v ts = by_rule parts Else_tail r v ts
spells_wholes While_loop r v ts = by_rule parts While_loop r v ts
spells_wholes For_loop r v ts = by_rule parts For_loop r v ts
spells_wholes Begun r v ts = by_rule parts Begun r v ts
spells_wholes other r v ts = spells_parts other r v ts

abbrev pub wholes : Spells
wholes i v ts = spells_wholes i.name i.room v ts

abbrev pub spells_starts : (n : Name) (r : Levels) → type_of n → List Spelled → Type 0
spells_starts If_any r v ts = by_rule wholes If_any r v ts
spells_starts Started r v ts = by_rule wholes Started r v ts
spells_starts other r v ts = spells_wholes other r v ts

abbrev pub starts : Spells
starts i v ts = spells_starts i.name i.room v ts

abbrev pub skipped : OpeningParts → (Spelled × List Spelled → Type 0) → Type 0
skipped (inl v) f = f v
skipped (inr v) f = ⊥

abbrev pub spells_at : (n : Name) (r : Levels) → type_of n → List Spelled → Type 0
spells_at Opening r v ts =
    one_of (fits r) (spells_form sort T_of room starts (opening_form r) v ts) (skipped v (λ v. spells_form sort T_of room starts (skip_form r) v ts))
spells_at other r v ts = spells_starts other r v ts

abbrev pub spells : Spells
spells i v ts = spells_at i.name i.room v ts

-- a group in brackets is read in its own way
abbrev pub by_hand_at : (n : Name) → List Spelled → Found Spelled (type_of n)
by_hand_at Group ts = read_group same_bracket bracket_of Round ts
by_hand_at other ts = Stopped ts

abbrev pub by_hand : Readers Spelled T_of → Readers Spelled T_of → Readers Spelled T_of
by_hand lead later i ts = by_hand_at i.name ts

-- what is found at the front of a list of tokens
unfoldable pub read : Levels → (n : Name) → List Spelled → Found Spelled (type_of n)
read r n ts = read_at sort grammar T_of room tree by_hand (suc (length ts)) (at n r) ts
