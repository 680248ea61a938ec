use Rattle.std.proofs.Common.{◌≡◌, ◌+◌, ◌<◌, List, ◌∷◌, length, get_or, ap, ◌∙◌, arith}
use Rattle.std.proofs.lemmas.List.{drop_all}
use Rattle.sl_outside.specs.Sink.{sink_state}
use Rattle.sl_outside.specs.Source.{source_state}
use Rattle.c_machine.specs.Outside.{Outside, outside}
use Rattle.c_machine.specs.declared.program.Stmt.{Stmt}
use Rattle.c_machine.specs.declared.configuration.Entry.TheVariants.{Rest}
use Rattle.c_machine.proofs.Arguments.{drop_at}
use Rattle.c_machine.proofs.Steps.{rest_left, rest_ends, rest_goes}
use Rattle.c_machine.proofs.configuration.Configuration.rest.Goals as goal

pub returns-in_default : goal.returns-in_default
returns-in_default g c =
    let a : Outside = outside (source_state (g.S.Source.left c.args.input.now) (g.S.Source.faults c.args.input.now) (g.S.Source.calls c.args.input.now)) (sink_state (g.K.Sink.held c.args.out.now) (g.K.Sink.faults c.args.out.now) (g.K.Sink.calls c.args.out.now)) in
    rest_left c.args.self.now c.args.block c.args.at c.in_default.not-Next a

pub returns-then-at-stmts : goal.returns-then-at-stmts
returns-then-at-stmts g c =
    let a : Outside = outside (source_state (g.S.Source.left c.args.input.now) (g.S.Source.faults c.args.input.now) (g.S.Source.calls c.args.input.now)) (sink_state (g.K.Sink.held c.args.out.now) (g.K.Sink.faults c.args.out.now) (g.K.Sink.calls c.args.out.now)) in
    rest_ends c.args.self.now c.args.block c.args.at c.in-Next.is (drop_all c.args.at c.args.block (omega (arith, c.if-at-stmts.true, ap length (c.as_slice-stmts.ensures ∙ c.get.ensures)))) a

pub returns : goal.returns
returns g c =
    let a : Outside = outside (source_state (g.S.Source.left c.args.input.now) (g.S.Source.faults c.args.input.now) (g.S.Source.calls c.args.input.now)) (sink_state (g.K.Sink.held c.args.out.now) (g.K.Sink.faults c.args.out.now) (g.K.Sink.calls c.args.out.now)) in
    let b : Outside = outside (source_state (g.S.Source.left c.execute.new.input) (g.S.Source.faults c.execute.new.input) (g.S.Source.calls c.execute.new.input)) (sink_state (g.K.Sink.held c.execute.new.out) (g.K.Sink.faults c.execute.new.out) (g.K.Sink.calls c.execute.new.out)) in
    let block = c.as_slice-stmts.ensures ∙ c.get.ensures in
    let within : c.args.at < length c.args.block = omega (arith, c.if-at-stmts.false, ap length block) in
    let item : c.index-stmts-at.result ≡ get_or c.args.block c.args.at c.index-stmts-at.result = c.index-stmts-at.is ∙ ap (λ (stmts : List Stmt). get_or stmts c.args.at c.index-stmts-at.result) block in
    rest_goes c.args.self.now c.args.block c.args.at c.execute.result c.index-stmts-at.result c.push.new.self c.execute.new.self a b c.in-Next.is
    (drop_at c.args.block c.args.at c.index-stmts-at.result c.index-stmts-at.result within item)
    ((c.in_ok-push.ensures {u = tt}) ∙ ap (λ (block : List Stmt). Rest block (c.args.at + 1) ∷ c.args.self.now.control) (c.in_ok-share.ensures {u = tt})) c.execute.ensures
