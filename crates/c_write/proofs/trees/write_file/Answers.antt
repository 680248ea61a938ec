use Rattle.c_tree.specs.Flat.{flat_struct, flat_global, flat_proto, flat_function, cflat}
use Rattle.c_write.proofs.Writing.{wrote_then, wrote_more, wrote_all}
use Rattle.c_write.proofs.trees.write_file.Goals as goal

pub loop-item-preserved : goal.loop-item-preserved
loop-item-preserved c =
    wrote_more flat_struct c.as_slice-item-items.result.now c.loop-item.item-index c.item-item.result c.item-item.result
    c.loop-item-test.true c.item-item.is c.loop-item.invariant c.in_ok-write_struct.ensures

pub loop-global-preserved : goal.loop-global-preserved
loop-global-preserved c =
    wrote_more flat_global c.as_slice-global-items.result.now c.loop-global.global-index c.global-item.result c.global-item.result
    c.loop-global-test.true c.global-item.is c.loop-global.invariant (wrote_then c.in_ok-token.ensures c.in_ok-write_var.ensures)

pub loop-proto-preserved : goal.loop-proto-preserved
loop-proto-preserved c =
    wrote_more flat_proto c.as_slice-proto-items.result.now c.loop-proto.proto-index c.proto-item.result c.proto-item.result
    c.loop-proto-test.true c.proto-item.is c.loop-proto.invariant (wrote_then c.in_ok-write_head.ensures c.in_ok-token-2.ensures)

pub loop-function-preserved : goal.loop-function-preserved
loop-function-preserved c =
    wrote_more flat_function c.as_slice-function-items.result.now c.loop-function.function-index c.function-item.result c.function-item.result
    c.loop-function-test.true c.function-item.is c.loop-function.invariant c.in_ok-write_function.ensures

pub returns : goal.returns
unfolding cflat
returns c =
    wrote_then (wrote_then (wrote_then
    (wrote_all flat_struct c.as_slice-item-items.result.now c.args.file.now.structs c.loop-item.item-index c.loop-item-test.false c.as_slice-item-items.ensures c.loop-item.invariant)
    (wrote_all flat_global c.as_slice-global-items.result.now c.args.file.now.globals c.loop-global.global-index c.loop-global-test.false c.as_slice-global-items.ensures c.loop-global.invariant))
    (wrote_all flat_proto c.as_slice-proto-items.result.now c.args.file.now.protos c.loop-proto.proto-index c.loop-proto-test.false c.as_slice-proto-items.ensures c.loop-proto.invariant))
    (wrote_all flat_function c.as_slice-function-items.result.now c.args.file.now.functions c.loop-function.function-index c.loop-function-test.false c.as_slice-function-items.ensures c.loop-function.invariant)
