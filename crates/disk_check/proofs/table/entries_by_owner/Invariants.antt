use Rattle.disk_check.proofs.TableLemmas.{FoundUpTo}
use Rattle.disk_check.proofs.table.entries_by_owner.Given as goal

abbrev pub invariant-loop-index : goal.invariant-loop-index
invariant-loop-index l = FoundUpTo l.inode.vid l.inode.table l.index l.own.items l.inherited
