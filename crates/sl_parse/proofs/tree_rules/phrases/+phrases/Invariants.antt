use Rattle.std.proofs.Common.{◌≡◌, take}
use Rattle.std.specs.List.{flat_map}
use Rattle.sl_parse.specs.TreeRules.{first_of, broken_expr, broken_field, broken_case, broken_stmt}
use Rattle.sl_parse.proofs.tree_rules.phrases.+phrases.Given as goal

-- the parts so far were looked at

abbrev pub invariant-in_exprs-loop-e : goal.invariant-in_exprs-loop-e
invariant-in_exprs-loop-e l = l.first ≡ first_of (flat_map broken_expr (take l.e-index l.exprs))

abbrev pub invariant-in_fields-loop-field : goal.invariant-in_fields-loop-field
invariant-in_fields-loop-field l = l.first ≡ first_of (flat_map broken_field (take l.field-index l.fields))

abbrev pub invariant-in_cases-loop-one : goal.invariant-in_cases-loop-one
invariant-in_cases-loop-one l = l.first ≡ first_of (flat_map (broken_case l.valued) (take l.one-index l.cases))

abbrev pub invariant-in_stmts-loop-stmt : goal.invariant-in_stmts-loop-stmt
invariant-in_stmts-loop-stmt l = l.first ≡ first_of (flat_map broken_stmt (take l.stmt-index l.stmts))
