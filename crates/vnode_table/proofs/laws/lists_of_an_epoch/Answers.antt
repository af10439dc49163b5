use Rattle.object_id.specs.Oid.{kind_of}
use Rattle.object_id.specs.Policy.{wanted_of}
use Rattle.hash_ring.specs.Circle.{hash_of_object}
use Rattle.hash_ring.proofs.TargetLaws.{targets_are_members, targets_different, targets_zones, length-targets_of}
use Rattle.vnode_table.specs.Epochs.{members_at}
use Rattle.vnode_table.specs.Targets.{targets_in}
use Rattle.vnode_table.proofs.laws.lists_of_an_epoch.Goals as goal

pub returns-clause-members : goal.returns-clause-members
unfolding targets_in
returns-clause-members c = λ epochs epoch oid policy. targets_are_members (members_at epochs epoch) (hash_of_object oid) (wanted_of policy (kind_of oid))

pub returns-clause-different : goal.returns-clause-different
unfolding targets_in
returns-clause-different c = λ epochs epoch oid policy. targets_different (members_at epochs epoch) (hash_of_object oid) (wanted_of policy (kind_of oid))

pub returns-clause-zones : goal.returns-clause-zones
unfolding targets_in
returns-clause-zones c = λ epochs epoch oid policy. targets_zones (members_at epochs epoch) (hash_of_object oid) (wanted_of policy (kind_of oid))

pub returns-clause-count : goal.returns-clause-count
unfolding targets_in
returns-clause-count c = λ epochs epoch oid policy. length-targets_of (members_at epochs epoch) (hash_of_object oid) (wanted_of policy (kind_of oid))
