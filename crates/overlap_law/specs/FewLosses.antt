-- Few losses on a large enough cluster: the members of an epoch stand in as many zones as an object has copies or strips, and of them at
-- most one less than there are copies, or as many as there are parity strips, don't count for the epoch.
use Rattle.std.specs.Prelude.{◌≡◌, ℕ, ◌+◌, ◌≤◌, Bool, not, max, List, length, filter, Some}
use Rattle.object_id.specs.declared.node.NodeId.{NodeId}
use Rattle.object_id.specs.declared.entry.Entry.{Entry}
use Rattle.object_id.specs.declared.entry.Member.{Member}
use Rattle.object_id.specs.declared.policy.Policy.{Policy}
use Rattle.object_id.specs.Oid.{kind_of}
use Rattle.object_id.specs.Policy.{wanted_of, need_of}
use Rattle.epoch_log.specs.Epochs.{epoch_of, settled_of, members_in}
use Rattle.hash_ring.specs.Placement.{zone_count}
use Rattle.peer_proto.specs.Work.{policy_of}
use Rattle.overlap_law.specs.Attempts.{AttemptRecord}
use Rattle.overlap_law.specs.Holders.{first_create}

-- the members of an epoch that don't count for it: they are lost, or came back from a loss before which they hadn't come to the epoch
abbrev pub lost_members : (NodeId → ℕ → Bool) → List Entry → ℕ → List Member
lost_members counts log epoch = filter (λ (member : Member). not (counts member.node epoch)) (members_in log epoch)

-- of the members of an epoch few are lost, for an object of a policy
pub record LossesAreFew (counts : NodeId → ℕ → Bool) (log : List Entry) (oid : ℕ) (policy : Policy) (epoch : ℕ) : Type 0 where
  pub zones : wanted_of policy (kind_of oid) ≤ zone_count (members_in log epoch)
  pub few : length (lost_members counts log epoch) + need_of policy (kind_of oid) ≤ wanted_of policy (kind_of oid)

-- so it is of each epoch since an object was born, or since the last finished recovery, if that is later
abbrev pub LossesStayFew : (NodeId → ℕ → Bool) → List Entry → List AttemptRecord → ℕ → Type 0
LossesStayFew counts log attempts oid = (create : AttemptRecord) → first_create oid attempts ≡ Some create → (epoch : ℕ)
    → max create.epoch (settled_of log) ≤ epoch → epoch ≤ epoch_of log → LossesAreFew counts log oid (policy_of create.work) epoch
