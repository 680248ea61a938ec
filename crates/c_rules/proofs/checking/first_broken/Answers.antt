use Rattle.std.proofs.Common.{[], take, subst}
use Rattle.c_rules.specs.Naming.{AreEarlier, AreKinds, AreNumbered}
use Rattle.c_rules.proofs.Firsts.{first_outside, first_more, first_all}
use Rattle.c_rules.proofs.Found.{earlier_none}
use Rattle.c_rules.proofs.Keeping.{appended}
use Rattle.c_rules.proofs.checking.first_broken.Goals as goal

pub loop-index-init : goal.loop-index-init
loop-index-init c = record {
  first = first_outside c.args.file.now c.in_ok-outside.outside c.sooner-best.result c.in_ok-outside.ensures c.sooner-best.ensures;
  earlier = earlier_none c.new-names.result c.new-names.ensures;
}

pub rule_inside-requires : goal.rule_inside-requires
rule_inside-requires c = record {
  globals = subst (λ vars. AreKinds vars c.in_ok-globals.globals) c.as_slice.ensures c.in_ok-globals.ensures;
  locals = c.in_ok-locals.ensures;
  functions = subst (λ functions. AreNumbered functions c.in_ok-numbers.numbers) c.as_slice-2.ensures c.in_ok-numbers.ensures;
  protos = subst (λ functions. AreNumbered functions c.in_ok-protos.protos) c.as_slice-3.ensures c.in_ok-protos.ensures;
  names = c.loop-index.invariant.earlier;
}

pub loop-index-preserved : goal.loop-index-preserved
loop-index-preserved c =
    let functions = c.as_slice-functions.result.now in
    let i = c.loop-index.index in
    let x = c.index-functions-index.result
    in record {
      first =
          first_more c.args.file.now functions i x c.loop-index.best c.sooner-best-in-loop-index.result c.in_ok-rule_inside.field-0
          c.loop-index-test.true c.index-functions-index.is c.loop-index.invariant.first c.in_ok-rule_inside.ensures c.sooner-best-in-loop-index.ensures;
      earlier =
          subst (λ some. AreEarlier some c.add_name.new.names) (appended [] functions i x x c.loop-index-test.true c.index-functions-index.is)
          (c.in_ok-add_name.ensures (take i functions) c.loop-index.invariant.earlier);
    }

pub returns : goal.returns
returns c = first_all c.args.file.now c.as_slice-functions.result.now c.loop-index.index c.loop-index.best c.loop-index-test.false c.as_slice-functions.ensures c.loop-index.invariant.first
