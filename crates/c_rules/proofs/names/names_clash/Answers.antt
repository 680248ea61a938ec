use Rattle.std.proofs.Common.{List, ℕ, refl, Bor, map, subst, sym, ◌∙◌, rules}
use Rattle.std.proofs.lemmas.Bool.{false≢true}
use Rattle.std.proofs.lemmas.List.{take_all}
use Rattle.c_rules.proofs.Clashes.{AreFine, fine_none, fine_apart, seen_step, fine_step, reserved_step, again_step}
use Rattle.c_rules.proofs.names.names_clash.Goals as goal

pub loop-name-init : goal.loop-name-init
loop-name-init c = record { seen = λ asked. search rules; fine = fine_none }

pub loop-name-preserved : goal.loop-name-preserved
loop-name-preserved c =
    let now = λ (name : Bor (List ℕ)). name.now in
    let inserts = c.in_ok-insert.ensures in
    record {
      seen = λ asked. seen_step now c.args.names.now c.loop-name.name-index c.name-item.result c.loop-name-test.true c.name-item.is asked.now c.as_str.result.now _ _ c.as_str.ensures (c.loop-name.invariant.seen asked) (inserts.updates.0 asked);
      fine = fine_step now c.args.names.now c.loop-name.name-index c.name-item.result c.loop-name-test.true c.name-item.is c.as_str.result.now _ c.in_ok-insert.field-0 c.as_str.ensures c.loop-name.invariant.fine (sym c.is_reserved.ensures ∙ c.if-is_reserved.false) (c.loop-name.invariant.seen c.as_str.result) inserts.added c.if-not-branch.false;
    }

pub returns-then-is_reserved : goal.returns-then-is_reserved
returns-then-is_reserved c =
    (λ _. reserved_step (λ (name : Bor (List ℕ)). name.now) c.args.names.now c.loop-name.name-index c.name-item.result c.loop-name-test.true c.name-item.is (sym c.is_reserved.ensures ∙ c.if-is_reserved.true), λ _. refl)

pub returns-then-not-branch : goal.returns-then-not-branch
returns-then-not-branch c =
    (λ _. again_step (λ (name : Bor (List ℕ)). name.now) c.args.names.now c.loop-name.name-index c.name-item.result c.loop-name-test.true c.name-item.is c.as_str.result.now _ c.in_ok-insert.field-0 c.as_str.ensures (c.loop-name.invariant.seen c.as_str.result) c.in_ok-insert.ensures.added c.if-not-branch.true, λ _. refl)

pub returns : goal.returns
returns c =
    let all = take_all c.loop-name.name-index c.args.names.now c.loop-name-test.false in
    (λ never. absurd (false≢true never), λ clash. absurd (fine_apart (map (λ (name : Bor (List ℕ)). name.now) c.args.names.now) (subst (λ names. AreFine (map (λ (name : Bor (List ℕ)). name.now) names)) all c.loop-name.invariant.fine) clash))
