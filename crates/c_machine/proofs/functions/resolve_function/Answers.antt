use Rattle.std.proofs.Common.{ℕ, List, ap₂, ◌∙◌, subst}
use Rattle.c_machine.specs.declared.scopes.Place.{Place}
use Rattle.c_machine.specs.Naming.{place_in}
use Rattle.c_rules.specs.Naming.{item_named}
use Rattle.c_machine.specs.Related.{DoAs}
use Rattle.c_machine.specs.Resolved.{callees_of}
use Rattle.c_machine.proofs.functions.resolve_function.Goals as goal

pub returns : goal.returns
returns c =
    let places : List ℕ → Place = λ name. place_in (item_named c.in_ok-number_vars.field-0 name) (item_named c.args.globals.now name)
    in record {
      vars = c.in_ok-count.ensures ∙ c.len.ensures;
      gives = c.has_result.ensures;
      places = places;
      mean = λ file named name. ap₂ place_in (rw (c.as_slice.ensures, c.as_slice-2.ensures) at (c.in_ok-number_vars.ensures name)) (named name);
      body = subst (λ stmts. DoAs places (callees_of c.args.numbers.now c.args.inlines.now) stmts c.in_ok-body.body) c.as_slice-3.ensures c.in_ok-body.ensures;
    }
