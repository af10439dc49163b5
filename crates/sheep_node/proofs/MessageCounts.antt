-- How many messages an attempt has, and a tick of a recovery sends.
use Rattle.std.proofs.Common.{◌≡◌, ℕ, ◌%◌, ◌-◌, ◌≤◌, Bool, true, false, not, ◌&&◌, cond, min, List, [], length, take, drop, Option, Some, None, IfSome, ◌∙◌}
use native.Mathlib.Omega.{arith}
use Rattle.std.specs.List.{enumerate_from}
use Rattle.std.specs.Option.{option_map_or}
use Rattle.std.proofs.Math.Nat.{min-le_left, min-le_right}
use Rattle.std.proofs.lemmas.List.{length-drop, length-map, length-take}
use Rattle.std.proofs.lemmas.List.FromFn.{length-enumerate_from}
use Rattle.object_id.specs.declared.node.NodeId.{NodeId}
use Rattle.object_id.specs.declared.policy.Policy.{Policy}
use Rattle.object_id.specs.Oid.{kind_of}
use Rattle.object_id.specs.Policy.{IsPolicy, wanted_of}
use Rattle.hash_ring.specs.Circle.{hash_of_object}
use Rattle.hash_ring.specs.Placement.{zone_count}
use Rattle.hash_ring.proofs.TargetLaws.{length-targets_of}
use Rattle.vnode_table.specs.Epochs.{EpochMembers, members_at}
use Rattle.vnode_table.specs.Targets.{targets_in}
use Rattle.object_list.specs.Gathered.{is_same_node, has_node}
use Rattle.peer_proto.specs.Work.{oid_of, policy_of}
use Rattle.peer_proto.specs.declared.ask.PeerAsk.{PeerAsk}
use Rattle.peer_proto.specs.declared.ask.PeerAsk.TheVariants as asks
use Rattle.peer_proto.specs.declared.ask.PeerReq.{PeerReq}
use Rattle.peer_proto.specs.declared.work.ObjWork.{ObjWork}
use Rattle.peer_proto.specs.declared.work.ObjWork.TheVariants.{Create, Write, Read, ReadAll}
use Rattle.gf256.specs.Part.{is_in_strips}
use Rattle.gateway.specs.Work.{place_in_turn, read_from, targets_asked}
use Rattle.gateway.specs.Attempt.{message_for}
use Rattle.gateway.specs.State.{Work}
use Rattle.recovery.specs.State.{Message, Search, Recovery, RecoveryState, is_listed}
use Rattle.recovery.specs.Step.{MayStep}
use Rattle.recovery.specs.Tick.{request_message, messages_to, asked_of, lists_asked, level_asked, level_messages, next_search, tick_messages, tick_sends}
use Rattle.recovery.proofs.FoundLemmas.{wanted-most}
use Rattle.recovery.proofs.TickLemmas.{kept_few}
use Rattle.sheep_node.specs.State.{Node}
use Rattle.sheep_node.specs.RecoveryView.{recovery_state_of}
use Rattle.sheep_node.specs.Changes.{attempt_in}
use Rattle.sheep_node.specs.ValidDisks.{WorkHasPolicy}

in_turn_few : (attempt : ℕ) (places : List (ℕ × NodeId)) → length (place_in_turn attempt places) ≤ length places
in_turn_few attempt places =
    let rest = drop (attempt % length places) places in
    let one : length (take 1 rest) ≡ min 1 (length rest) = length-take 1 rest in
    let fewer : min 1 (length rest) ≤ length rest = min-le_right 1 (length rest) in
    let left : length rest ≡ length places - attempt % length places = length-drop (attempt % length places) places in
    omega (arith, one, fewer, left)

read_few : (all : Bool) (attempt : ℕ) (places : List (ℕ × NodeId)) → length (read_from all attempt places) ≤ length places
read_few true attempt places = omega arith
read_few false attempt places = in_turn_few attempt places

-- an attempt asks no more than its targets
asked_few : (work : ObjWork) (attempt : ℕ) (targets : List NodeId) → length (targets_asked work attempt targets) ≤ length targets
asked_few (Create oid policy size offset bytes) attempt targets = let same = length-enumerate_from 0 targets in omega (arith, same)
asked_few (Write oid policy offset bytes) attempt targets = let same = length-enumerate_from 0 targets in omega (arith, same)
asked_few (Read oid policy offset size) attempt targets =
    let same = length-enumerate_from 0 targets in
    let few = read_few (is_in_strips policy (kind_of oid)) attempt (enumerate_from 0 targets) in
    omega (arith, same, few)
asked_few (ReadAll oid policy size) attempt targets = let same = length-enumerate_from 0 targets in omega (arith, same)

targets_few : (epochs : List EpochMembers) (epoch oid : ℕ) (policy : Policy) → IsPolicy policy → length (targets_in epochs epoch oid policy) ≤ 31
unfolding targets_in
targets_few epochs epoch oid policy is =
    let members = members_at epochs epoch in
    let wanted = wanted_of policy (kind_of oid) in
    let same = length-targets_of members (hash_of_object oid) wanted in
    let fewer = min-le_left wanted (zone_count members) in
    let most : wanted ≤ 31 = wanted-most policy (kind_of oid) is in
    omega (arith, same, fewer, most)

pub attempt_few : (asked : Work) (node : Node) → WorkHasPolicy asked.work → length (attempt_in asked node).messages ≤ 31
attempt_few asked node is =
    let targets = targets_in node.epochs node.peer.epoch (oid_of asked.work) (policy_of asked.work) in
    let places = targets_asked asked.work asked.ended targets in
    let made = length-map (enumerate_from node.sends places) (message_for asked.work) in
    let numbered = length-enumerate_from node.sends places in
    let fewer = asked_few asked.work asked.ended targets in
    let most = targets_few node.epochs node.peer.epoch (oid_of asked.work) (policy_of asked.work) is in
    omega (arith, made, numbered, fewer, most)

-- ---- a tick

sent_to_few : (recovery : Recovery) (first wanted : ℕ) (ask : PeerAsk) (nodes : List NodeId)
    → length (messages_to recovery first wanted ask nodes) ≡ length nodes
sent_to_few recovery first wanted ask nodes =
    length-map (enumerate_from first nodes) (request_message recovery wanted ask) ∙ length-enumerate_from first nodes

module _ (first : ℕ) (node : Node) (may : MayStep (recovery_state_of node)) where
  abbrev state : RecoveryState
  state = recovery_state_of node

  level_few : (sought : Search) → length (level_messages first state sought) ≤ 64
  level_few sought = by_policy (state.shown.is_dead sought.oid) (state.shown.policy_of sought.oid) (may.policies sought.oid)
    where
      asked : (policy : Policy) → IsPolicy policy → length (level_asked first state sought policy) ≤ 64
      asked policy is =
          let targets = state.shown.targets sought.level sought.oid policy in
          let sent = sent_to_few state.recovery first (wanted_of policy (kind_of sought.oid)) (asks.RecoverRead sought.oid (record { 0 = sought.level })) (asked_of state policy sought) in
          let fewer = kept_few (λ node. has_node node state.recovery.members && not (is_same_node state.recovery.me node)) targets in
          let most = targets_few node.epochs sought.level sought.oid policy is in
          omega (arith, sent, fewer, most)

      by_policy : (dead : Bool) (policy : Option Policy) → IfSome policy IsPolicy
          → length (option_map_or (level_asked first state sought) (cond dead None policy) []) ≤ 64
      by_policy true policy is = omega arith
      by_policy false None is = omega arith
      by_policy false (Some policy) is = asked policy is

  pub tick_few : length (tick_sends first state) ≤ 64
  unfolding tick_sends tick_messages
  tick_few =
      let same = length-map {B = NodeId × PeerReq} (tick_messages first state) (λ (message : Message). (message.to, message.request)) in
      let few = by_list (is_listed state.recovery) (next_search state) in
      omega (arith, same, few)
    where
      by_list : (listed : Bool) (sought : Option Search)
          → length (cond listed (option_map_or (level_messages first state) sought []) (lists_asked first state.recovery)) ≤ 64
      by_list true None = omega arith
      by_list true (Some sought) = level_few sought
      by_list false sought =
          let sent = sent_to_few state.recovery first 0 asks.List state.recovery.lists.waiting in
          let waiting = may.waiting in
          omega (arith, sent, waiting)
