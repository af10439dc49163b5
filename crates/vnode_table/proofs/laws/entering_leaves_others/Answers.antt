use Rattle.std.proofs.Common.{ap}
use Rattle.object_id.specs.Oid.{kind_of}
use Rattle.object_id.specs.Policy.{wanted_of}
use Rattle.hash_ring.specs.Circle.{hash_of_object}
use Rattle.hash_ring.specs.Placement.{targets_of}
use Rattle.vnode_table.specs.Targets.{targets_in}
use Rattle.vnode_table.proofs.TermLaws.{members_at-other, members_at-itself, is_entered-more}
use Rattle.vnode_table.proofs.laws.entering_leaves_others.Goals as goal

pub returns-clause-members : goal.returns-clause-members
returns-clause-members c = members_at-other

pub returns-clause-targets : goal.returns-clause-targets
unfolding targets_in
returns-clause-targets c = λ entered epochs epoch oid policy h.
    ap (λ members. targets_of members (hash_of_object oid) (wanted_of policy (kind_of oid))) (members_at-other entered epochs epoch h)

pub returns-clause-entered : goal.returns-clause-entered
returns-clause-entered c = is_entered-more

pub returns-clause-itself : goal.returns-clause-itself
returns-clause-itself c = members_at-itself
