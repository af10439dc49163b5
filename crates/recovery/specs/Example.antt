-- A small recovery, worked out step by step: node 2 enters epoch 3 with the members 0, 1 and 2.
use Rattle.std.specs.Prelude.{ℕ, ◌==◌, ◌^◌, false, List, [], ◌∷◌, Some, if◌then◌else◌}
use Rattle.std.specs.FinMap as tree
use Rattle.object_id.specs.declared.node.NodeId.{NodeId}
use Rattle.object_id.specs.declared.policy.Policy.{Policy}
use Rattle.object_id.specs.declared.policy.Policy.TheVariants.{Copies}
use Rattle.object_store.specs.declared.row.RowCopy.{RowCopy}
use Rattle.peer_proto.specs.declared.ask.PeerAsk.{PeerAsk}
use Rattle.peer_proto.specs.declared.ask.PeerReq.{PeerReq}
use Rattle.peer_proto.specs.declared.say.PeerSay.{PeerSay}
use Rattle.peer_proto.specs.declared.say.PeerSay.TheVariants.{Objects, Row, NoRow}
use Rattle.recovery.specs.Shown.{shown_with_pending}
use Rattle.recovery.specs.State.{RecoveryState, initial_recovery}
use Rattle.recovery.specs.Tick.{state_after_tick}
use Rattle.recovery.specs.Steps.{recovery_from_epoch, recovery_on_reply, recovery_on_loss}

-- the node of a number
abbrev pub node : ℕ → NodeId
node number = record { 0 = number }

-- the first data object of disk 1, of two copies, each for shortness of two bytes
abbrev pub object : ℕ
object = 2 ^ 32

-- it is kept on nodes 0 and 1, and from epoch 3 on, on nodes 2 and 0
abbrev pub targets : ℕ → ℕ → Policy → List NodeId
targets epoch oid policy = if epoch == 3 then node 2 ∷ node 0 ∷ [] else node 0 ∷ node 1 ∷ []

-- a node without rows
abbrev pub new_node : RecoveryState
new_node = record {
  recovery = initial_recovery (node 2);
  shown = record {
    epoch = 3;
    settled = 1;
    rows = tree.empty;
    pending = Some [];
    policy_of = λ oid. Some (Copies 2);
    is_dead = λ oid. false;
    size_of = λ oid. Some 2;
    targets = targets;
  };
}

-- node 2 is told this in reply to its message of a number
abbrev pub with_reply_told : ℕ → PeerSay → RecoveryState → RecoveryState
with_reply_told number say state = recovery_on_reply (record { number = number; epoch = record { 0 = 3 }; say = say }) state

-- what it asks of a node under a number
abbrev pub request : ℕ → ℕ → PeerAsk → NodeId × PeerReq
request to number ask = (node to, record { from = node 2; number = number; epoch = record { 0 = 3 }; ask = ask })

-- it enters epoch 3
abbrev pub in_epoch_3 : RecoveryState
in_epoch_3 = recovery_from_epoch 3 (node 0 ∷ node 1 ∷ node 2 ∷ []) new_node

-- both others are asked for their lists, from number 7 on, and name the object
abbrev pub with_object_named : RecoveryState
with_object_named = with_reply_told 8 (Objects (object ∷ [])) (with_reply_told 7 (Objects (object ∷ [])) (state_after_tick 7 in_epoch_3))

-- so it is pending
abbrev pub with_object_pending : RecoveryState
with_object_pending = record with_object_named { shown = shown_with_pending (object ∷ []) with_object_named.shown }

-- level 2 is asked of both
abbrev pub asked_level_2 : RecoveryState
asked_level_2 = state_after_tick 9 with_object_pending

-- both have a row of it, of which node 0 comes first among the targets
abbrev pub copy_with : ℕ → RowCopy
copy_with byte = record { index = 0; from = record { 0 = 1 }; to = Some (record { 0 = 2 }); length = 2; bytes = byte ∷ [] }

-- node 1 is heard first, then node 0
abbrev pub found_at_both : RecoveryState
found_at_both = with_reply_told 9 (Row (copy_with 5)) (with_reply_told 10 (Row (copy_with 6)) asked_level_2)

-- node 0 has no row of it, and the message to node 1 is lost
abbrev pub with_level_half_answered : RecoveryState
with_level_half_answered = recovery_on_loss 10 (with_reply_told 9 NoRow asked_level_2)

-- neither has a row of it
abbrev pub heard_of_none : RecoveryState
heard_of_none = with_reply_told 10 NoRow (with_reply_told 9 NoRow asked_level_2)

-- level 1 is asked, and neither has a row there
abbrev pub none_at_all : RecoveryState
none_at_all = with_reply_told 12 NoRow (with_reply_told 11 NoRow (state_after_tick 11 heard_of_none))
