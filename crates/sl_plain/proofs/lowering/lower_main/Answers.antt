use Rattle.std.proofs.Common.{◌+◌, [], ◌∷◌, ◌++◌, map, codes, replicate, flat_map, ap, ap₂, subst, ◌∙◌, arith}
use Rattle.sl_core.specs.declared.tree.CoreStmt.TheVariants as core
use Rattle.sl_plain.specs.Program.{deepest, declared_in, declared}
use Rattle.sl_plain.specs.Lowered.{unnamed_in}
use Rattle.sl_plain.specs.Reach.{AreLines, lines_in}
use Rattle.sl_plain.specs.Numbering.{AreNumbered, lowered_all}
use Rattle.sl_plain.proofs.Forms.{main_made}
use Rattle.sl_plain.proofs.lowering.lower_main.Goals as goal

pub returns-clause-value : goal.returns-clause-value
returns-clause-value c =
    let program = c.args.program.now in
    let names = declared program in
    let numbered : AreNumbered names c.declare_block.new.variables = subst (λ body. AreNumbered (flat_map declared_in body) c.declare_block.new.variables) c.as_slice.ensures (c.in_ok-declare_block.ensures [] c.new-variables.ensures)
    in main_made program c.in_ok-main_name.field-0 c.in_ok-zeros.field-0 c.push.new.self
    (c.in_ok-main_name.ensures ∙ ap (λ name. name ++ codes ".main") c.as_slice-4.ensures)
    (c.in_ok-zeros.ensures ∙ ap (λ n. replicate n 0) (c.in_ok-count.ensures ∙ ap₂ (λ m n. m + n) numbered.count (c.in_ok-count_unnamed.ensures ∙ ap (λ body. deepest (map unnamed_in body)) c.as_slice-2.ensures)))
    (c.in_ok-push.ensures.ok
    ∙ ap₂ (λ stmts e. stmts ++ core.Return e ∷ []) (c.in_ok-body.ensures.value names numbered ∙ ap (λ body. lowered_all names body 0) c.as_slice-3.ensures) (c.lower_atom.ensures names numbered))

pub returns-clause-reach : goal.returns-clause-reach
returns-clause-reach c =
    let program = c.args.program.now in
    let numbered : AreNumbered (declared program) c.declare_block.new.variables = subst (λ body. AreNumbered (flat_map declared_in body) c.declare_block.new.variables) c.as_slice.ensures (c.in_ok-declare_block.ensures [] c.new-variables.ensures) in
    let count = c.in_ok-count.ensures ∙ ap₂ (λ m n. m + n) numbered.count (c.in_ok-count_unnamed.ensures ∙ ap (λ body. deepest (map unnamed_in body)) c.as_slice-2.ensures)
    in record {
      variables = omega arith;
      lines = subst (λ body. AreLines (flat_map lines_in body)) c.as_slice-3.ensures c.in_ok-body.ensures.lines;
    }
