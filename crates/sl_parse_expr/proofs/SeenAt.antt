-- What is owed of each name that has a tree of its own: that its rule spells just its trees.
use Rattle.std.proofs.Common.{◌≡◌, ℕ, true}
use Rattle.sl_grammar.specs.Law.{Seen}
use Rattle.sl_grammar.specs.Grammar.{spells_form}
use Rattle.sl_tree.specs.Sorts.{sort}
use Rattle.sl_parse_expr.specs.Names.{Name, Type_term, Expression, Level, Prefix, Minus, Postfix, Primary, A_case, Pattern_of, Statements, Statement, If_only, Levels, open_to, fits, rule_at}
use Rattle.sl_parse_expr.specs.Values.{T_of}
use Rattle.sl_parse_expr.specs.Grammar.{room, tree_at, spells, spells_at, up_to}

-- what the rule spells, seen as its tree, is what the name spells
abbrev pub SeenAt : Name → Levels → Type 0
SeenAt n r = Seen (spells_form sort T_of room spells (rule_at n r)) (tree_at n r) (spells_at n r)

pub record TreesSeen : Type 0 where
  pub of_type : (r : Levels) → open_to r ≡ true → SeenAt Type_term r
  pub of_expression : (r : Levels) → open_to r ≡ true → SeenAt Expression r
  pub of_level : (l : ℕ) (r : Levels) → open_to r ≡ true → up_to 8 l ≡ true → SeenAt (Level l) r
  pub of_prefix : (r : Levels) → open_to r ≡ true → SeenAt Prefix r
  pub of_minus : (r : Levels) → open_to r ≡ true → SeenAt Minus r
  pub of_postfix : (r : Levels) → open_to r ≡ true → SeenAt Postfix r
  pub of_primary : (r : Levels) → open_to r ≡ true → SeenAt Primary r
  pub of_case : (r : Levels) → open_to r ≡ true → SeenAt A_case r
  pub of_pattern : (r : Levels) → open_to r ≡ true → SeenAt Pattern_of r
  pub of_statements : (r : Levels) → SeenAt Statements r
  pub of_statement : (r : Levels) → open_to r ≡ true → SeenAt Statement r
  pub of_if_only : (r : Levels) → fits r ≡ true → SeenAt If_only r
