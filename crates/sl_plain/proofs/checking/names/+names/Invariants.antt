use Rattle.std.proofs.Common.{◌≡◌, ◌++◌, take}
use Rattle.sl_plain.proofs.Checked.Declared.{names_of}
use Rattle.sl_plain.proofs.checking.names.+names.Given as goal

-- the names of the statements so far are added
abbrev pub invariant-put_names-loop-stmt : goal.invariant-put_names-loop-stmt
invariant-put_names-loop-stmt l = l.names ≡ l.initial.names ++ names_of (take l.stmt-index l.stmts)
