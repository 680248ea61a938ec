use Rattle.std.proofs.Common.{Some, [], ◌∷◌, ap, ◌∙◌, codes}
use Rattle.c_tree.specs.Flat.{lexeme, lexemes, flat_params}
use Rattle.c_write.specs.Written.{Wrote}
use Rattle.c_write.proofs.Writing.{wrote_then, writes_then, wrote_same}
use Rattle.c_write.proofs.trees.write_head.Goals as goal

pub returns : goal.returns
returns c =
    let function = c.args.function.now in
    let static : Wrote (record (lexeme (codes "static")) { line = Some function.line } ∷ []) c.args.writer.now c.token.new.self = record { bytes = c.in_ok-token.ensures.bytes; place = c.in_ok-token.ensures.place } in
    let named = wrote_same (lexemes (function.name ∷ codes "(" ∷ [])) (ap (λ name. lexemes (name ∷ codes "(" ∷ [])) (c.as_bytes.ensures.value ∙ c.as_str.ensures)) c.in_ok-tokens.ensures in
    let params = wrote_same (flat_params function.params) (ap flat_params c.as_slice.ensures) c.in_ok-write_params.ensures in
    writes_then (lexemes (codes ")" ∷ [])) c.token-2.new.self c.token-2.result
    (wrote_then static (wrote_then (wrote_then c.in_ok-write_inline.ensures (wrote_then c.in_ok-write_type.ensures named)) params))
    c.token-2.ensures
