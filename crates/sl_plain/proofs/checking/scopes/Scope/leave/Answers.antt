use Rattle.std.proofs.Common.{◌<◌, length, arith}
use Rattle.sl_plain.specs.Checking.{entries_of}
use Rattle.sl_plain.proofs.Checked.Entries.{read_length, one_less}
use Rattle.sl_plain.proofs.checking.scopes.Scope.leave.Goals as goal

pub loop-self-preserved : goal.loop-self-preserved
loop-self-preserved c =
    let long = read_length c.loop-self.self.entries.items in
    let less : c.args.len < length (entries_of c.loop-self.self) = omega arith
    in record {
      left = one_less c.args.len (entries_of c.args.self.now) (entries_of c.loop-self.self) (entries_of c.leave_last.new.self) c.loop-self.invariant.left less c.in_ok-leave_last.ensures.rest;
      indexed = c.in_ok-leave_last.ensures.indexed;
    }
