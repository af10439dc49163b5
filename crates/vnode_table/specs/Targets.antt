-- The target list of an object in an epoch.
use Rattle.std.specs.Prelude.{ℕ, List}
use Rattle.object_id.specs.declared.node.NodeId.{NodeId}
use Rattle.object_id.specs.declared.policy.Policy.{Policy}
use Rattle.object_id.specs.Oid.{kind_of}
use Rattle.object_id.specs.Policy.{wanted_of}
use Rattle.hash_ring.specs.Circle.{hash_of_object}
use Rattle.hash_ring.specs.Placement.{targets_of}
use Rattle.vnode_table.specs.Epochs.{EpochMembers, members_at}

-- the epoch's members by placement, as many as the policy wants for the object's kind
unfoldable pub targets_in : List EpochMembers → ℕ → ℕ → Policy → List NodeId
targets_in epochs epoch oid policy =
    targets_of (members_at epochs epoch) (hash_of_object oid) (wanted_of policy (kind_of oid))
