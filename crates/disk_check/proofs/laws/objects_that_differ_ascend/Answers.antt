use Rattle.std.proofs.lemmas.List.Kept.{IsStrictlyIncreasing-filter}
use Rattle.disk_check.specs.Table.{own_indexes}
use Rattle.disk_check.specs.Value.{pieces_in, differ}
use Rattle.disk_check.proofs.TableLemmas.{own_indexes-ascend, object_numbers-ascend}
use Rattle.disk_check.proofs.laws.objects_that_differ_ascend.Goals as goal

pub returns : goal.returns
returns c inode given = object_numbers-ascend inode.vid _
    (IsStrictlyIncreasing-filter (λ index. differ inode.spec.policy (pieces_in inode.spec (given index))) (own_indexes inode) (own_indexes-ascend inode))
