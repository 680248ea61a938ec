-- What is read is the longest front of each name, a list of tokens has one tree at most, and the readers do what the rules say.
use Rattle.std.proofs.Common.{◌≡◌, ℕ, suc, List, [], ◌∷◌, ◌++◌, length, refl, true, false, arith}
use Rattle.sl_grammar.specs.Phrase.{Begins, Found, IsRead}
use Rattle.sl_grammar.specs.Law.{Law, Shape, found_as}
use Rattle.sl_grammar.specs.Grammar.{is, read_form}
use Rattle.sl_grammar.specs.Rules.{good}
use Rattle.sl_grammar.specs.Brackets.{read_group}
use Rattle.sl_grammar.proofs.Rules.{all_laws, rule_is, reads_same, shape}
use Rattle.sl_tree.specs.Sorts.{Spelled, sort, example}
use Rattle.sl_tree.specs.WellShaped.{same_bracket, bracket_of, Round}
use Rattle.sl_parse_expr.specs.Names.{Name, Group, At, at, Levels, rule_at}
use Rattle.sl_parse_expr.specs.Values.{T_of, type_of}
use Rattle.sl_parse_expr.specs.Grammar.{grammar, room, tree, tree_at, spells, spells_at, sets_at, valid_at, own_at, by_hand, read}
use Rattle.sl_parse_expr.proofs.Good.{rule_good}
use Rattle.sl_parse_expr.proofs.Group.{own}
use Rattle.sl_parse_expr.proofs.Seen.{seen}
use Rattle.sl_parse_expr.proofs.SeenAt.{TreesSeen}

-- each rule passes the test
pub check : (i : At) → grammar.valid i ≡ true → grammar.own i ≡ false → good sort example grammar i ≡ true
check i v o = rule_good i.name i.room v o

-- the readers of all names
abbrev pub reader : (i : At) → List Spelled → Found Spelled (T_of i)
reader i ts = read i.room i.name ts

module _ (t : TreesSeen) where
  -- what is owed of each name beside its rule: a law of its reader, and how it begins
  pub law : (size : ℕ) (n : Name) (r : Levels) → valid_at n r ≡ true → Law (spells_at n r) (read r n) (is sort (sets_at n r).after) size
  unfolding read
  law size n r v = all_laws sort example grammar T_of room tree spells by_hand (seen t) check own size (at n r) v

  pub shape_of : (n : Name) (r : Levels) → valid_at n r ≡ true → Shape (spells_at n r) (is sort (sets_at n r).first) (sets_at n r).blank
  shape_of n r v = shape sort example grammar T_of room tree spells by_hand (seen t) check own (at n r) v

  -- what is found is the longest front with which a tree begins, and a tree exactly where that front is one
  pub reads : (n : Name) (r : Levels) → valid_at n r ≡ true → (ts : List Spelled) → IsRead (spells_at n r) ts (read r n ts)
  reads n r v ts = (law (suc (length ts)) n r v).reads ts (omega arith)

  -- tokens have one tree at most
  pub one_tree : (n : Name) (r : Levels) → valid_at n r ≡ true → (x y : type_of n) (ts : List Spelled) → spells_at n r x ts → spells_at n r y ts → x ≡ y
  one_tree n r v x y ts a b = (law (suc (length ts)) n r v).one x y ts (omega arith) a b

  -- which tokens go on after a tree
  pub goes_on : (n : Name) (r : Levels) → valid_at n r ≡ true → (x : type_of n) (a : List Spelled) (k : Spelled) → spells_at n r x a → Begins (spells_at n r) (a ++ k ∷ []) → is sort (sets_at n r).after k ≡ true
  goes_on n r v x a k w b = (law (suc (length a)) n r v).goes x a k (omega arith) w b

  -- any other reader that finds the longest front reads the same
  pub same_found : (n : Name) (r : Levels) → valid_at n r ≡ true → (ts : List Spelled) (f : Found Spelled (type_of n)) → IsRead (spells_at n r) ts f → f ≡ read r n ts
  unfolding read
  same_found n r v ts f w = reads_same sort example grammar T_of room tree spells by_hand (seen t) check own (at n r) v ts f w

  -- a name is read as its rule says
  pub rule_read : (n : Name) (r : Levels) → valid_at n r ≡ true → own_at n ≡ false → (ts : List Spelled) → found_as (tree_at n r) (read_form sort T_of room grammar.sets (rule_at n r) reader reader ts) ≡ read r n ts
  unfolding read
  rule_read n r v o ts = rule_is sort example grammar T_of room tree spells by_hand (seen t) check own (at n r) v o ts

-- a group is read up to the bracket that closes it
pub group_read : (r : Levels) (ts : List Spelled) → read r Group ts ≡ read_group same_bracket bracket_of Round ts
unfolding read
group_read r ts = refl
