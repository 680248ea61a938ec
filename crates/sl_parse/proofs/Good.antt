-- Each rule of the grammar passes the test.
use Rattle.std.proofs.Common.{◌≡◌, refl, true, false}
use Rattle.sl_grammar.specs.Rules.{good}
use Rattle.sl_tree.specs.Sorts.{sort, example, sort_of, sort_of_mark, sort_of_word, sort_of_name, sort_of_operator, sort_of_prefixed, sort_of_separator}
use Rattle.sl_parse.specs.Names.{Name, Type_term, Expression, Block, Library, Path, Import_name, Import_step, Import_of, Pair, Note_of, Notes, Type_params, Param_of, Params, Parents, Enum_names, Member, Members, Braced, Declared, Decl_of, Item, Package, File_of}
use Rattle.sl_parse.specs.Grammar.{grammar, own_at}

pub rule_good : (n : Name) → own_at n ≡ false → good sort example grammar n ≡ true
unfolding example sort_of sort_of_mark sort_of_word sort_of_name sort_of_operator sort_of_prefixed sort_of_separator
rule_good Type_term o = absurd cc
rule_good Expression o = absurd cc
rule_good Block o = absurd cc
rule_good Library o = absurd cc
rule_good Path o = refl
rule_good Import_name o = refl
rule_good Import_step o = refl
rule_good Import_of o = refl
rule_good Pair o = refl
rule_good Note_of o = refl
rule_good Notes o = refl
rule_good Type_params o = refl
rule_good Param_of o = refl
rule_good Params o = refl
rule_good Parents o = refl
rule_good Enum_names o = refl
rule_good (Member true) o = refl
rule_good (Member false) o = refl
rule_good (Members true) o = refl
rule_good (Members false) o = refl
rule_good (Braced true) o = refl
rule_good (Braced false) o = refl
rule_good Declared o = refl
rule_good Decl_of o = refl
rule_good Item o = refl
rule_good Package o = refl
rule_good File_of o = refl
