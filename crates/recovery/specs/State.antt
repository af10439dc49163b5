-- What a node's recovery is, and what it answers about itself.
use Rattle.std.specs.Prelude.{◌≡◌, ℕ, ◌-◌, ◌^◌, ◌<◌, ◌≤◌, ◌==◌, Bool, false, not, ◌&&◌, ◌||◌, IsTrue, List, [], ◌++◌, length, map, All}
use Rattle.std.specs.Prelude.{Option, None, Some, is_some, if◌then◌else◌}
use Rattle.std.specs.List.{list_any, find}
use Rattle.std.specs.List.Sorted.{IsStrictlyIncreasing}
use Rattle.object_id.specs.declared.limits.TheConstants.{NODES_MAX}
use Rattle.object_id.specs.Node.{IsNode}
use Rattle.object_id.specs.declared.node.NodeId.{NodeId}
use Rattle.object_list.specs.Gathered.{GatheredLists, gathered_of_none, has_node}
use Rattle.peer_proto.specs.declared.ask.PeerReq.{PeerReq}
use Rattle.recovery.specs.declared.search.RowAnswer.{RowAnswer}
use Rattle.recovery.specs.Shown.{NodeView, first_in, is_pending_object}

-- a message that was sent: the node that it goes to, the request, and on how many nodes the object that it asks for is
-- wanted (of a List 0): a row's index is below that, also where the object's id dies before the answer comes
pub record Message : Type 0 where
  pub to : NodeId
  pub request : PeerReq
  pub wanted : ℕ

-- a search: the object, the level, what was answered since the level was asked, and whether a message was refused or lost since
pub record Search : Type 0 where
  pub oid : ℕ
  pub level : ℕ
  pub answers : List RowAnswer
  pub again : Bool

-- the recovery of a node: its search, the objects that were named, and the messages that it waits for
pub record Recovery : Type 0 where
  pub me : NodeId
  -- the epoch that is recovered, with its members. Epoch 1 needs no recovery, and stands before the first one
  pub epoch : ℕ
  pub members : List NodeId
  -- who of the others hasn't named its objects, and the objects that were named
  pub lists : GatheredLists
  pub missing : List ℕ
  pub search : Option Search
  -- the messages of this recovery that aren't answered, and those of older ones
  pub unanswered : List Message
  pub older : List Message

-- a recovery, and what it sees of its node
pub record RecoveryState : Type 0 where
  pub recovery : Recovery
  pub shown : NodeView

-- before the first recovery
abbrev pub initial_recovery : NodeId → Recovery
initial_recovery me = record {
  me = me;
  epoch = 1;
  members = [];
  lists = gathered_of_none me [];
  missing = [];
  search = None;
  unanswered = [];
  older = [];
}

-- nothing was answered yet of a level
abbrev pub search_at : ℕ → ℕ → Search
search_at oid level = record { oid = oid; level = level; answers = []; again = false }

-- a search ends where its object is pending no more
abbrev pub still_on : Option (List ℕ) → Option Search → Option Search
still_on pending None = None
still_on pending (Some search) = if is_pending_object search.oid pending then Some search else None

-- the search that goes on. A Create that the node serves, or an entry that makes the id dead, ends the object's pending
abbrev pub search_on : RecoveryState → Option Search
search_on state = still_on state.shown.pending state.recovery.search

-- whether every other member has named its objects
abbrev pub is_listed : Recovery → Bool
is_listed recovery = length recovery.lists.waiting == 0

-- whether no recovery was begun, or the list of the last one is finished and nothing is pending
abbrev pub is_finished : RecoveryState → Bool
is_finished state = state.recovery.epoch == 1 || (is_listed state.recovery && not (is_some (first_in state.shown.pending)))

-- all messages that aren't answered
abbrev pub all_unanswered : Recovery → List Message
all_unanswered recovery = recovery.unanswered ++ recovery.older

-- a tick has work where the recovery isn't finished and none of its messages is unanswered, nor one of an older recovery
abbrev pub can_tick : RecoveryState → Bool
can_tick state = not (is_finished state) && length (all_unanswered state.recovery) == 0

-- whether no level had enough rows of an object
abbrev pub is_missing : ℕ → Recovery → Bool
is_missing oid recovery = list_any (λ other. other == oid) recovery.missing

-- whether a message has this number
abbrev pub has_number : ℕ → Message → Bool
has_number number message = message.request.number == number

-- the message of a number
abbrev pub message_of : ℕ → List Message → Option Message
message_of number messages = find (has_number number) messages

-- whether the message of a number was sent and is unanswered
abbrev pub recovery_awaits : ℕ → Recovery → Bool
recovery_awaits number recovery = is_some (message_of number (all_unanswered recovery))

-- what a recovery needs to begin: its epoch is the node's and above 1, and the members ascend, the own node among them
pub record MayBegin (epoch : ℕ) (members : List NodeId) (state : RecoveryState) : Type 0 where
  pub own_epoch : epoch ≡ state.shown.epoch
  pub above_1 : 1 < epoch
  pub ascend : IsStrictlyIncreasing (map (λ (node : NodeId). node.0) members)
  pub nodes : All (λ (node : NodeId). IsNode node.0) members
  pub member : IsTrue (has_node state.recovery.me members)

-- what a tick needs: that it has work, and numbers for its messages
pub record MayTick (first : ℕ) (state : RecoveryState) : Type 0 where
  pub work : IsTrue (can_tick state)
  pub room : first ≤ 2 ^ 32 - NODES_MAX
