use Rattle.std.proofs.Common.{◌≡◌, ◌++◌}
use Rattle.object_id.specs.Fields.{zeros}
use Rattle.inode.proofs.writing.push_zeros.Given as goal

abbrev pub invariant-loop : goal.invariant-loop
invariant-loop l = l.out.items ≡ l.fn.out.items ++ zeros l.counter
