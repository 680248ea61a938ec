use Rattle.std.proofs.Common.{◌≡◌, ◌∷◌, ◌+◌, drop, true, false, is_some, sym, ap, ◌∙◌}
use Rattle.std.proofs.lemmas.List.{drop_more}
use Rattle.std.proofs.lemmas.Map.Text.{btree_map_updates_str}
use Rattle.sl_plain.specs.Checking.{are_distinct}
use Rattle.sl_plain.proofs.Checked.Seen.{is_in, distinct_first, empty_seen, seen_before, seen_more}
use Rattle.sl_plain.proofs.checking.names.differ.Goals as goal

pub loop-name-init : goal.loop-name-init
loop-name-init c = distinct_first (is_in c.new-seen.result) c.args.names.now (empty_seen c.new-seen.result c.new-seen.ensures.empty)

pub returns-then-is_some : goal.returns-then-is_some
returns-then-is_some c =
    let names = c.args.names.now in
    let at = c.loop-name.name-index in
    let name = c.as_slice.result.now in
    let rest = drop (at + 1) names in
    let cut : drop at names ≡ name ∷ rest = drop_more names at c.name-item.result c.loop-name-test.true ∙ ap (λ n. n ∷ rest) (sym c.name-item.is ∙ sym c.as_slice.ensures) in
    let so : is_in c.loop-name.seen name ≡ true = ap is_some (sym c.in_ok-insert.ensures.old) ∙ sym c.is_some.ensures ∙ c.if-is_some.true
    in seen_before (are_distinct names) (is_in c.loop-name.seen) (drop at names) name rest c.loop-name.invariant cut so

pub loop-name-preserved : goal.loop-name-preserved
loop-name-preserved c =
    let names = c.args.names.now in
    let at = c.loop-name.name-index in
    let name = c.as_slice.result.now in
    let rest = drop (at + 1) names in
    let cut : drop at names ≡ name ∷ rest = drop_more names at c.name-item.result c.loop-name-test.true ∙ ap (λ n. n ∷ rest) (sym c.name-item.is ∙ sym c.as_slice.ensures) in
    let none : is_in c.loop-name.seen name ≡ false = ap is_some (sym c.in_ok-insert.ensures.old) ∙ sym c.is_some.ensures ∙ c.if-is_some.false
    in seen_more _ (are_distinct names) c.loop-name.seen c.insert.new.self (drop at names) name rest c.loop-name.invariant cut none
    (btree_map_updates_str name c.loop-name.seen c.insert.new.self _ c.in_ok-insert.ensures.updates)
