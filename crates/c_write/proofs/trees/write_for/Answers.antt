use Rattle.std.proofs.Common.{[], ◌∷◌, ap, subst, ◌∙◌, codes}
use Rattle.std.specs.Fmt.{decimal}
use Rattle.c_tree.specs.Flat.{lexemes}
use Rattle.c_write.specs.Written.{Writes}
use Rattle.c_write.proofs.Writing.{wrote_then, writes_then, wrote_same}
use Rattle.c_write.proofs.trees.write_for.Goals as goal

pub returns : goal.returns
returns c =
    let set = wrote_same (lexemes (codes "for" ∷ codes "(" ∷ c.args.set.now ∷ codes "=" ∷ [])) (ap (λ name. lexemes (codes "for" ∷ codes "(" ∷ name ∷ codes "=" ∷ [])) (c.as_bytes.ensures.value ∙ c.as_str.ensures)) c.in_ok-tokens.ensures in
    let tested = wrote_same (lexemes (c.args.tested.now ∷ codes "<" ∷ [])) (ap (λ name. lexemes (name ∷ codes "<" ∷ [])) (c.as_bytes-2.ensures.value ∙ c.as_str-2.ensures)) c.in_ok-tokens-3.ensures in
    let count = wrote_same (lexemes (decimal c.args.count ∷ codes ";" ∷ [])) (ap (λ digits. lexemes (digits ∷ codes ";" ∷ [])) (c.as_bytes-3.ensures.value ∙ c.in_ok-count.ensures.ok)) c.in_ok-tokens-4.ensures in
    let raised = subst (λ name. Writes (lexemes (name ∷ codes "++" ∷ codes ")" ∷ [])) c.tokens-4.new.self c.tokens-5.new.self c.tokens-5.result) (c.as_bytes-4.ensures.value ∙ c.as_str-3.ensures) c.tokens-5.ensures
    in writes_then (lexemes (c.args.raised.now ∷ codes "++" ∷ codes ")" ∷ [])) c.tokens-5.new.self c.tokens-5.result
    (wrote_then (wrote_then (wrote_then set c.in_ok-tokens-2.ensures) tested) count) raised
