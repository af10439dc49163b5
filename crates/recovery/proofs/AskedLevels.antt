-- Whom a level is asked of.
use Rattle.std.proofs.Common.{◌≡◌, ◌≢◌, ℕ, ◌+◌, Bool, true, not, ◌&&◌, List, [], ◌∷◌, All, Contains}
use Rattle.std.proofs.lemmas.Bool.{eqb-false, and_parts, not-true}
use Rattle.std.proofs.lemmas.List.Elements.{All-nil, All-cons, All-head, All-tail, All-weaker, All-filter, All-contains_itself, filter_passes}
use Rattle.object_id.specs.declared.node.NodeId.{NodeId}
use Rattle.object_id.specs.declared.policy.Policy.{Policy}
use Rattle.object_id.specs.Policy.{wanted_of}
use Rattle.object_id.specs.Oid.{kind_of}
use Rattle.object_list.specs.Gathered.{is_same_node, has_node}
use Rattle.peer_proto.specs.declared.ask.PeerAsk.{PeerAsk}
use Rattle.peer_proto.specs.declared.ask.PeerAsk.TheVariants as asks
use Rattle.recovery.specs.State.{Message, Search, Recovery, RecoveryState}
use Rattle.recovery.specs.Tick.{request_message, messages_to, asked_of, level_asked}

-- each message goes to one of the nodes
to_nodes : (P : NodeId → Type 0) (recovery : Recovery) (first wanted : ℕ) (ask : PeerAsk) (nodes : List NodeId) → All P nodes
    → All (λ (message : Message). P message.to) (messages_to recovery first wanted ask nodes)
to_nodes P recovery first wanted ask [] all = All-nil (λ (message : Message). P message.to)
to_nodes P recovery first wanted ask (node ∷ nodes) all =
    All-cons (λ (message : Message). P message.to) (request_message recovery wanted ask (first, node)) (messages_to recovery (first + 1) wanted ask nodes)
    (All-head P node nodes all) (to_nodes P recovery (first + 1) wanted ask nodes (All-tail P node nodes all))

-- so what holds of those that are asked holds of where a level's messages go
level_to : (P : NodeId → Type 0) (first : ℕ) (state : RecoveryState) (search : Search) (policy : Policy) → All P (asked_of state policy search)
    → All (λ (message : Message). P message.to) (level_asked first state search policy)
level_to P first state search policy all =
    to_nodes P state.recovery first (wanted_of policy (kind_of search.oid)) (asks.RecoverRead search.oid (record { 0 = search.level }))
    (asked_of state policy search) all

-- whether a node is asked, where it is a target
is_asked : RecoveryState → NodeId → Bool
is_asked state node = has_node node state.recovery.members && not (is_same_node state.recovery.me node)

pub members_asked : (first : ℕ) (state : RecoveryState) (search : Search) (policy : Policy)
    → All (λ (message : Message). has_node message.to state.recovery.members ≡ true) (level_asked first state search policy)
unfolding is_asked
members_asked first state search policy =
    level_to (λ (node : NodeId). has_node node state.recovery.members ≡ true) first state search policy
    (All-weaker (λ (node : NodeId). is_asked state node ≡ true) (λ (node : NodeId). has_node node state.recovery.members ≡ true)
    (λ node is. (and_parts (has_node node state.recovery.members) (not (is_same_node state.recovery.me node)) is).0)
    (asked_of state policy search) (filter_passes (is_asked state) (state.shown.targets search.level search.oid policy)))

pub targets_asked : (first : ℕ) (state : RecoveryState) (search : Search) (policy : Policy)
    → All (λ (message : Message). Contains (state.shown.targets search.level search.oid policy) message.to) (level_asked first state search policy)
unfolding is_asked
targets_asked first state search policy =
    let targets = state.shown.targets search.level search.oid policy in
    level_to (Contains targets) first state search policy (All-filter (is_asked state) (Contains targets) targets (All-contains_itself targets))

pub others_asked : (first : ℕ) (state : RecoveryState) (search : Search) (policy : Policy)
    → All (λ (message : Message). message.to.0 ≢ state.recovery.me.0) (level_asked first state search policy)
unfolding is_asked
others_asked first state search policy =
    level_to (λ (node : NodeId). node.0 ≢ state.recovery.me.0) first state search policy
    (All-weaker (λ (node : NodeId). is_asked state node ≡ true) (λ (node : NodeId). node.0 ≢ state.recovery.me.0)
    (λ node is. eqb-false node.0 state.recovery.me.0
    (not-true (is_same_node state.recovery.me node) (and_parts (has_node node state.recovery.members) (not (is_same_node state.recovery.me node)) is).1))
    (asked_of state policy search) (filter_passes (is_asked state) (state.shown.targets search.level search.oid policy)))
