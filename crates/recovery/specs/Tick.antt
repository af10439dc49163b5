-- A tick of a recovery: whom it asks for what.
use Rattle.std.specs.Prelude.{ℕ, ◌-◌, not, ◌&&◌, List, [], ◌++◌, map, filter, Option, None, Some, if◌then◌else◌}
use Rattle.std.specs.Option.{option_map_or}
use Rattle.std.specs.List.{enumerate_from}
use Rattle.object_id.specs.declared.node.NodeId.{NodeId}
use Rattle.object_id.specs.declared.policy.Policy.{Policy}
use Rattle.object_id.specs.Oid.{kind_of}
use Rattle.object_id.specs.Policy.{wanted_of}
use Rattle.object_list.specs.Gathered.{is_same_node, has_node}
use Rattle.peer_proto.specs.declared.ask.PeerAsk.{PeerAsk}
use Rattle.peer_proto.specs.declared.ask.PeerAsk.TheVariants as asks
use Rattle.peer_proto.specs.declared.ask.PeerReq.{PeerReq}
use Rattle.recovery.specs.Shown.{live_policy, first_in}
use Rattle.recovery.specs.State.{Message, Search, Recovery, RecoveryState, search_at, search_on, is_listed}
use Rattle.recovery.specs.Level.{searching}

-- a request of the recovered epoch, to a node under a number
abbrev pub request_message : Recovery → ℕ → PeerAsk → ℕ × NodeId → Message
request_message recovery wanted ask target = record {
  to = target.1;
  request = record { from = recovery.me; number = target.0; epoch = record { 0 = recovery.epoch }; ask = ask };
  wanted = wanted;
}

-- one request to each of some nodes in their order, numbered upwards from `first`
abbrev pub messages_to : Recovery → ℕ → ℕ → PeerAsk → List NodeId → List Message
messages_to recovery first wanted ask nodes = map (request_message recovery wanted ask) (enumerate_from first nodes)

-- while the list is unfinished, each other member that hasn't answered is asked for its objects
abbrev pub lists_asked : ℕ → Recovery → List Message
lists_asked first recovery = messages_to recovery first 0 asks.List recovery.lists.waiting

-- whom a level is asked of: its targets that are members now, but for the node itself, in the order of targets
abbrev pub asked_of : RecoveryState → Policy → Search → List NodeId
asked_of state policy search =
    filter (λ node. has_node node state.recovery.members && not (is_same_node state.recovery.me node))
    (state.shown.targets search.level search.oid policy)

-- with a finished list, each of them is asked for its row of the level
abbrev pub level_asked : ℕ → RecoveryState → Search → Policy → List Message
level_asked first state search policy =
    messages_to state.recovery first (wanted_of policy (kind_of search.oid))
    (asks.RecoverRead search.oid (record { 0 = search.level })) (asked_of state policy search)

-- the search that goes on, or else that of the smallest pending object, from the epoch before the recovered one
abbrev pub or_next : ℕ → Option ℕ → Option Search → Option Search
or_next epoch pending (Some search) = Some (search_at search.oid search.level)
or_next epoch None None = None
or_next epoch (Some oid) None = Some (search_at oid (epoch - 1))

-- the search whose level a tick asks
abbrev pub next_search : RecoveryState → Option Search
next_search state = or_next state.recovery.epoch (first_in state.shown.pending) (search_on state)

-- the messages to the search's level; none where the object's id isn't known, or is dead
abbrev pub level_messages : ℕ → RecoveryState → Search → List Message
level_messages first state search = option_map_or (level_asked first state search) (live_policy state.shown search.oid) []

-- the messages of a tick
unfoldable pub tick_messages : ℕ → RecoveryState → List Message
tick_messages first state =
    if is_listed state.recovery
    then option_map_or (level_messages first state) (next_search state) []
    else lists_asked first state.recovery

-- how they are sent
unfoldable pub tick_sends : ℕ → RecoveryState → List (NodeId × PeerReq)
tick_sends first state = map (λ (message : Message). (message.to, message.request)) (tick_messages first state)

-- these messages are unanswered too
abbrev pub with_messages : List Message → RecoveryState → RecoveryState
with_messages messages state =
    record state { recovery = record state.recovery { unanswered = state.recovery.unanswered ++ messages } }

-- a tick sends its messages, and the search, if there is one, goes on; where a level has none to ask, it is over at once
unfoldable pub state_after_tick : ℕ → RecoveryState → RecoveryState
state_after_tick first state =
    if is_listed state.recovery
    then option_map_or
    (λ (search : Search). searching search (with_messages (tick_messages first state) state))
    (next_search state)
    (with_messages (tick_messages first state) state)
    else with_messages (tick_messages first state) state
