use Rattle.std.proofs.Common.{[], ◌∷◌, ap, ◌∙◌, codes}
use Rattle.c_tree.specs.Flat.{lexemes, flat_member}
use Rattle.c_write.proofs.Writing.{wrote_same, wrote_then, writes_then, wrote_more, wrote_all}
use Rattle.c_write.proofs.trees.write_struct.Goals as goal

pub loop-member-preserved : goal.loop-member-preserved
loop-member-preserved c =
    wrote_more flat_member c.as_slice-member-items.result.now c.loop-member.member-index c.member-item.result c.member-item.result
    c.loop-member-test.true c.member-item.is c.loop-member.invariant c.in_ok-write_member.ensures

pub returns : goal.returns
returns c =
    let named = wrote_same (lexemes (codes "struct" ∷ c.args.item.now.name ∷ codes "{" ∷ [])) (ap (λ name. lexemes (codes "struct" ∷ name ∷ codes "{" ∷ [])) (c.as_bytes.ensures.value ∙ c.as_str.ensures)) c.in_ok-tokens.ensures in
    writes_then (lexemes (codes "}" ∷ codes ";" ∷ [])) c.tokens-2.new.self c.tokens-2.result
    (wrote_then named (wrote_all flat_member c.as_slice-member-items.result.now c.args.item.now.members c.loop-member.member-index c.loop-member-test.false c.as_slice-member-items.ensures c.loop-member.invariant))
    c.tokens-2.ensures
