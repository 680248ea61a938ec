use Rattle.std.proofs.Common.{ltb, ltb-true, ltb-false, arith, rules}
use Rattle.std.proofs.lemmas.List.Sorted.{IsPartitionPoint-from_clause, IsPartitionedBy-ltb}
use Rattle.sl_text.proofs.lines.count_below.Goals as goal

pub returns : goal.returns
returns c =
    let parted = IsPartitionedBy-ltb (λ x. x) _ c.args.place c.requires in
    let point = IsPartitionPoint-from_clause (λ x. ltb x c.args.place) _ _ c.partition_point.ensures.partitioned parted (λ a r q k. search rules) in
    record {
      bound = c.partition_point.ensures.bound;
      below = λ index inside. ltb-true _ _ (point.0 index 0 (omega arith) inside);
      above = λ index behind inside. ltb-false _ _ (point.1 index 0 behind inside);
    }
