use Rattle.std.proofs.Common.{◌≡◌, map, drop}
use Rattle.sl_plain.specs.Program.{scoped, scoped_in_order}
use Rattle.sl_plain.specs.Checking.{entries_of, IsIndexed}
use Rattle.sl_plain.proofs.checking.statements.+scopes.Given as goal

-- all statements fit where those that are left fit behind those before
abbrev pub invariant-fit-loop-stmt : goal.invariant-fit-loop-stmt
invariant-fit-loop-stmt l = record {
  behind : scoped_in_order (map scoped l.stmts) (entries_of l.initial.scope) ≡ scoped_in_order (map scoped (drop l.stmt-index l.stmts)) (entries_of l.scope);
  indexed : IsIndexed l.scope;
}
