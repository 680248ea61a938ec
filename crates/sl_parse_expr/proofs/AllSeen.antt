-- What is owed of each name that has a tree, all of it.
use Rattle.sl_parse_expr.proofs.SeenAt.{TreesSeen}
use Rattle.sl_parse_expr.proofs.SeenTypes.{seen_type}
use Rattle.sl_parse_expr.proofs.SeenPatterns.{seen_pattern}
use Rattle.sl_parse_expr.proofs.SeenLevels.{seen_level}
use Rattle.sl_parse_expr.proofs.SeenOperands.{seen_prefix, seen_minus, seen_primary}
use Rattle.sl_parse_expr.proofs.SeenExpressions.{seen_expression}
use Rattle.sl_parse_expr.proofs.SeenPostfix.{seen_postfix}
use Rattle.sl_parse_expr.proofs.SeenCases.{seen_case}
use Rattle.sl_parse_expr.proofs.SeenBlocks.{seen_statements, seen_if_only}
use Rattle.sl_parse_expr.proofs.SeenStatement.{seen_statement}

pub all_seen : TreesSeen
all_seen = record {
  of_type = seen_type;
  of_expression = seen_expression;
  of_level = seen_level;
  of_prefix = seen_prefix;
  of_minus = seen_minus;
  of_postfix = seen_postfix;
  of_primary = seen_primary;
  of_case = seen_case;
  of_pattern = seen_pattern;
  of_statements = seen_statements;
  of_statement = seen_statement;
  of_if_only = seen_if_only;
}
