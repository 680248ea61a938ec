use Rattle.std.proofs.Common.{[], ◌∷◌, sym, ap, ◌∙◌, subst, codes}
use Rattle.std.specs.Prelude.{◌≢◌, IsTrue}
use Rattle.c_write.specs.Written.{Writes}
use Rattle.c_tree.specs.Flat.{lexemes, flat_var, flat_choice}
use Rattle.c_write.proofs.Writing.{wrote_then, writes_then, wrote_same, wrote_more, wrote_all, flat_union}
use Rattle.c_write.proofs.trees.write_member.Goals as goal

pub returns-then-is_empty : goal.returns-then-is_empty
returns-then-is_empty c =
    let member = c.args.member.now in
    let named = wrote_same (lexemes (member.name ∷ [])) (ap (λ name. lexemes (name ∷ [])) (c.as_bytes.ensures.value ∙ c.as_str.ensures)) c.in_ok-token.ensures in
    subst (λ choice. Writes (flat_choice member choice) c.args.writer.now c.token-then-is_empty.new.self c.token-then-is_empty.result) (sym (c.is_empty.ensures.0 c.if-is_empty.true))
    (writes_then (lexemes (codes ";" ∷ [])) c.token-then-is_empty.new.self c.token-then-is_empty.result
    (wrote_then (wrote_then c.in_ok-write_type.ensures named) c.in_ok-write_count.ensures) c.token-then-is_empty.ensures)

pub loop-var-preserved : goal.loop-var-preserved
loop-var-preserved c =
    wrote_more flat_var c.as_slice-var-items.result.now c.loop-var.var-index c.var-item.result c.var-item.result
    c.loop-var-test.true c.var-item.is c.loop-var.invariant c.in_ok-write_var.ensures

pub returns : goal.returns
returns c =
    let member = c.args.member.now in
    let some : member.choice ≢ [] = λ none. let full : IsTrue c.is_empty.result = c.is_empty.ensures.1 none in absurd (cc (full, c.if-is_empty.false)) in
    subst (λ tokens. Writes tokens c.args.writer.now c.tokens-2.new.self c.tokens-2.result) (flat_union member member.choice some)
    (writes_then (lexemes (codes "}" ∷ member.name ∷ codes ";" ∷ [])) c.tokens-2.new.self c.tokens-2.result
    (wrote_then c.in_ok-tokens.ensures (wrote_all flat_var c.as_slice-var-items.result.now member.choice c.loop-var.var-index c.loop-var-test.false c.as_slice-var-items.ensures c.loop-var.invariant))
    (subst (λ name. Writes (lexemes (codes "}" ∷ name ∷ codes ";" ∷ [])) c.loop-var.writer c.tokens-2.new.self c.tokens-2.result) (c.as_bytes-2.ensures.value ∙ c.as_str-2.ensures) c.tokens-2.ensures))
