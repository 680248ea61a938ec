use Rattle.std.proofs.Common.{sym, ap, ◌∙◌, true≢false}
use Rattle.sl_tree.specs.WellShaped.{field}
use Rattle.sl_parse_expr.proofs.Building.{no_name, name_text_of}
use Rattle.sl_parse_expr.proofs.build.first_field.Goals as goal

pub unreachable-requires : goal.unreachable-requires
unreachable-requires c = true≢false (sym c.requires ∙ no_name c.args.name c.in_default.not-Name)

pub returns : goal.returns
unfolding field
returns c = ap (λ text. field text c.args.value) (c.in-Name.name-is ∙ sym (name_text_of c.args.name c.in-Name.name c.in-Name.is))
