-- When a recovery may begin, and what it leaves as it begins.
use Rattle.std.proofs.Common.{◌≡◌, ℕ, ◌<◌, ◌||◌, Bool, true, List, [], ◌∷◌, map, All, refl, ap, sym, subst, ◌∙◌}
use Rattle.std.specs.List.Sorted.{IsStrictlyIncreasing}
use Rattle.std.proofs.lemmas.List.Elements.{All-nil, All-head, All-tail, All-cons}
use Rattle.proof_tools.proofs.Booleans.{cond_either}
use Rattle.object_id.specs.Node.{IsNode}
use Rattle.object_id.specs.declared.entry.Member.{Member}
use Rattle.object_id.specs.declared.node.NodeId.{NodeId}
use Rattle.epoch_log.specs.Members as members
use Rattle.epoch_log.specs.Members.{node_numbers, AreMembers}
use Rattle.object_list.specs.Gathered.{has_node}
use Rattle.recovery.specs.Shown.{shown_with_pending}
use Rattle.recovery.specs.State.{RecoveryState, is_listed}
use Rattle.recovery.specs.Steps.{to_recover, at_start, recovery_from_epoch}
use Rattle.sheep_node.specs.State.{Node}
use Rattle.sheep_node.specs.RecoveryRange.{RecoveryMayBegin}
use Rattle.sheep_node.specs.LogReading.{epoch_members, is_epoch_member}

-- ---- members as nodes

node_among : (me : NodeId) (list : List Member) → members.is_member me.0 list ≡ has_node me (map (λ (member : Member). member.node) list)
node_among me [] = refl
node_among me (member ∷ list) = ap (λ (b : Bool). members.is_member_node me.0 member || b) (node_among me list)

numbers_of_nodes : (list : List Member) → map (λ (node : NodeId). node.0) (map (λ (member : Member). member.node) list) ≡ node_numbers list
numbers_of_nodes [] = refl
numbers_of_nodes (member ∷ list) = ap (λ (numbers : List ℕ). member.node.0 ∷ numbers) (numbers_of_nodes list)

each_node : (list : List Member) → All IsNode (node_numbers list) → All (λ (node : NodeId). IsNode node.0) (map (λ (member : Member). member.node) list)
each_node [] each = All-nil (λ (node : NodeId). IsNode node.0)
each_node (member ∷ list) each =
    All-cons (λ (node : NodeId). IsNode node.0) member.node (map (λ (member : Member). member.node) list)
    (All-head IsNode member.node.0 (node_numbers list) each) (each_node list (All-tail IsNode member.node.0 (node_numbers list) each))

-- the recovery of a node's epoch may begin, where that isn't the first one and the node is one of its members
pub may_begin : (node : Node) → node.recovery.me ≡ node.me → 1 < node.peer.epoch → AreMembers (epoch_members node) → is_epoch_member node ≡ true
    → RecoveryMayBegin node
may_begin node own above are member = record {
  own_epoch = refl;
  above_1 = above;
  ascend = subst IsStrictlyIncreasing (sym (numbers_of_nodes (epoch_members node))) are.ascending;
  nodes = each_node (epoch_members node) are.nodes;
  member = ap (λ (me : NodeId). has_node me (map (λ (member : Member). member.node) (epoch_members node))) own
      ∙ sym (node_among node.me (epoch_members node)) ∙ member;
}

-- ---- what stays as it begins

-- a recovery is in whose name it was, and shows of its node's epochs and of the sizes of objects what it showed
pub record IsShownAs (old new : RecoveryState) : Type 0 where
  pub me : new.recovery.me ≡ old.recovery.me
  pub epoch : new.shown.epoch ≡ old.shown.epoch
  pub settled : new.shown.settled ≡ old.shown.settled
  pub size_of : new.shown.size_of ≡ old.shown.size_of

pub begun_shows : (epoch : ℕ) (nodes : List NodeId) (state : RecoveryState) → IsShownAs state (recovery_from_epoch epoch nodes state)
unfolding recovery_from_epoch
begun_shows epoch nodes state =
    let begun : RecoveryState = at_start epoch nodes state in
    cond_either (IsShownAs state) (is_listed begun.recovery)
    (record begun { shown = shown_with_pending (to_recover begun) begun.shown }) begun
    (record { me = refl; epoch = refl; settled = refl; size_of = refl })
    (record { me = refl; epoch = refl; settled = refl; size_of = refl })
