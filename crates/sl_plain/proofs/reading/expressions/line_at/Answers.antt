use Rattle.std.proofs.Common.{◌≡◌, ◌+◌, ltb, nat_lt, arith, rules}
use Rattle.std.specs.List.{count_by}
use Rattle.std.proofs.lemmas.List.Sorted.{IsPartitionPoint-from_clause, IsPartitionedBy-ltb}
use Rattle.sl_plain.proofs.LinesOfPlaces.{counted}
use Rattle.sl_plain.proofs.reading.expressions.line_at.Goals as goal

pub returns-in-Some : goal.returns-in-Some
returns-in-Some c =
    let feeds = c.args.feeds.now in
    let place = c.args.place in
    let before = c.partition_point-before.result in
    let parted = IsPartitionedBy-ltb (λ x. x) _ place c.requires in
    let point = IsPartitionPoint-from_clause (λ x. ltb x place) _ _ c.partition_point-before.ensures.partitioned parted (λ a r q k. search rules) in
    let is : count_by (λ feed. nat_lt feed place) feeds ≡ before = counted place feeds before c.partition_point-before.ensures.bound (λ i h. point.0 i 0 (omega arith) h) (λ i h k. point.1 i 0 h k) in
    let same : c.in-Ok.before ≡ before = search rules in
    let line : c.in-Some.line ≡ c.in-Ok.before + 1 = search rules
    in omega arith
