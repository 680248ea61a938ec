use Rattle.std.proofs.Common.{[], ◌∷◌, ap, codes, rules}
use Rattle.c_tree.specs.Flat.{lexemes, operator_mark, comparison_mark, flat_expr}
use Rattle.c_tree.proofs.Variants.{flat_of_const, flat_of_read, flat_of_binary, flat_of_compare, flat_of_negate}
use Rattle.c_write.proofs.Writing.{wrote_then, writes_then, wrote_same}
use Rattle.c_write.proofs.trees.+write_expr.Goals as goal

pub returns-in_ok-digits-in-Const : goal.returns-in_ok-digits-in-Const
returns-in_ok-digits-in-Const t c = rw (c.in-Const.is, flat_of_const c.in-Const.signed c.in-Const.number) (search rules)

pub returns-in-Read : goal.returns-in-Read
returns-in-Read t c = rw (c.in-Read.is, flat_of_read c.in-Read.place) c.write_place.ensures

pub returns-in_ok-write_expr-in-Binary-2 : goal.returns-in_ok-write_expr-in-Binary-2
returns-in_ok-write_expr-in-Binary-2 t c =
    let left = wrote_same (flat_expr c.in-Binary.left) (ap flat_expr c.get.ensures) c.in_ok-write_expr-in-Binary.ensures in
    let mark = wrote_same (lexemes (operator_mark c.in-Binary.operator ∷ [])) (ap (λ mark. lexemes (mark ∷ [])) c.operator_mark.ensures) c.in_ok-token-in-Binary-2.ensures in
    let right = wrote_same (flat_expr c.in-Binary.right) (ap flat_expr c.get-in-Binary.ensures) c.in_ok-write_expr-in-Binary-2.ensures
    in rw (c.in-Binary.is, flat_of_binary c.in-Binary.operator c.in-Binary.left c.in-Binary.right)
    (writes_then (lexemes (codes ")" ∷ [])) c.token-in-Binary-2.new.self c.token-in-Binary-2.result
    (wrote_then (wrote_then (wrote_then c.in_ok-token-in-Binary.ensures left) mark) right) c.token-in-Binary-2.ensures)

pub returns-in_ok-write_expr-in-Compare-2 : goal.returns-in_ok-write_expr-in-Compare-2
returns-in_ok-write_expr-in-Compare-2 t c =
    let left = wrote_same (flat_expr c.in-Compare.left) (ap flat_expr c.get-in-Compare.ensures) c.in_ok-write_expr-in-Compare.ensures in
    let mark = wrote_same (lexemes (comparison_mark c.in-Compare.comparison ∷ [])) (ap (λ mark. lexemes (mark ∷ [])) c.comparison_mark.ensures) c.in_ok-token-in-Compare.ensures in
    let right = wrote_same (flat_expr c.in-Compare.right) (ap flat_expr c.get-in-Compare-2.ensures) c.in_ok-write_expr-in-Compare-2.ensures
    in rw (c.in-Compare.is, flat_of_compare c.in-Compare.comparison c.in-Compare.left c.in-Compare.right)
    (writes_then (lexemes (codes ")" ∷ [])) c.token-in-Compare-2.new.self c.token-in-Compare-2.result
    (wrote_then (wrote_then (wrote_then c.in_ok-tokens-in-Compare.ensures left) mark) right) c.token-in-Compare-2.ensures)

pub returns-in_ok-write_expr-in-Negate : goal.returns-in_ok-write_expr-in-Negate
returns-in_ok-write_expr-in-Negate t c =
    let operand = wrote_same (flat_expr c.in-Negate.operand) (ap flat_expr c.get-in-Negate.ensures) c.in_ok-write_expr-in-Negate.ensures
    in rw (c.in-Negate.is, flat_of_negate c.in-Negate.operand)
    (writes_then (lexemes (codes ")" ∷ [])) c.token-in-Negate.new.self c.token-in-Negate.result
    (wrote_then c.in_ok-tokens-in-Negate.ensures operand) c.token-in-Negate.ensures)
