use Rattle.c_machine.specs.Naming.{place_named}
use Rattle.c_machine.proofs.Computing.{const_value, read_value, binary_value, compare_value, negate_value, value_same}
use Rattle.c_machine.proofs.expressions.+resolve_expr.Goals as goal

pub returns-in-Const : goal.returns-in-Const
returns-in-Const t c = rw c.in-Const.is (const_value (place_named c.args.around.now) c.in-Const.signed c.in-Const.number)

pub returns-in-Read : goal.returns-in-Read
returns-in-Read t c = rw (c.in-Read.is, c.place-place.ensures) (read_value (place_named c.args.around.now) c.in-Read.place)

pub returns-in_ok-right-in-Binary-2 : goal.returns-in_ok-right-in-Binary-2
returns-in_ok-right-in-Binary-2 t c =
    rw c.in-Binary.is
    (binary_value (place_named c.args.around.now) c.in-Binary.operator c.in-Binary.left c.in-Binary.right c.in_ok-left-in-Binary-2.left c.in_ok-right-in-Binary-2.right
    (value_same c.in-Binary.left c.in_ok-left-in-Binary-2.left c.get.ensures c.in_ok-left-in-Binary-2.ensures c.in_ok-left-in-Binary.ensures)
    (value_same c.in-Binary.right c.in_ok-right-in-Binary-2.right c.get-in-Binary.ensures c.in_ok-right-in-Binary-2.ensures c.in_ok-right-in-Binary.ensures))

pub returns-in_ok-right-in-Compare-2 : goal.returns-in_ok-right-in-Compare-2
returns-in_ok-right-in-Compare-2 t c =
    rw c.in-Compare.is
    (compare_value (place_named c.args.around.now) c.in-Compare.comparison c.in-Compare.left c.in-Compare.right c.in_ok-left-in-Compare-2.left c.in_ok-right-in-Compare-2.right
    (value_same c.in-Compare.left c.in_ok-left-in-Compare-2.left c.get-in-Compare.ensures c.in_ok-left-in-Compare-2.ensures c.in_ok-left-in-Compare.ensures)
    (value_same c.in-Compare.right c.in_ok-right-in-Compare-2.right c.get-in-Compare-2.ensures c.in_ok-right-in-Compare-2.ensures c.in_ok-right-in-Compare.ensures))

pub returns-in_ok-new-in-Negate : goal.returns-in_ok-new-in-Negate
returns-in_ok-new-in-Negate t c =
    rw c.in-Negate.is
    (negate_value (place_named c.args.around.now) c.in-Negate.operand c.in_ok-new-in-Negate.field-0
    (value_same c.in-Negate.operand c.in_ok-new-in-Negate.field-0 c.get-in-Negate.ensures c.in_ok-new-in-Negate.ensures c.in_ok-operand-in-Negate.ensures))
