-- When a node may step on an input.
use Rattle.std.specs.Prelude.{◌≡◌, ℕ, ◌-◌, ◌<◌, ◌==◌, nat_le, Bool, true, false, not, ◌&&◌, ◌||◌, IsTrue, List, [], ◌∷◌, ◌++◌, length}
use Rattle.std.specs.Prelude.{is_none}
use Rattle.std.specs.FinMap as tree
use Rattle.object_id.specs.declared.entry.Entry.{Entry}
use Rattle.object_id.specs.declared.entry.Entry.TheVariants.{Format}
use Rattle.epoch_log.specs.Members as members
use Rattle.epoch_log.specs.Epochs.{epoch_of, members_in}
use Rattle.epoch_log.specs.Appending.{MayAppend, MayOpen}
use Rattle.peer_service.specs.Serve.{MayServe}
use Rattle.gateway.specs.State as gateways
use Rattle.recovery.specs.State as recoveries
use Rattle.recovery.specs.Fits as recovery_fits
use Rattle.guest_driver.specs.Pieces.{is_ask}
use Rattle.vdi_ops.specs.Entries.{IsVdiAsk}
use Rattle.sheep_node.specs.declared.ask.Ask.{Ask}
use Rattle.sheep_node.specs.declared.ask.Ask.TheVariants as asks
use Rattle.sheep_node.specs.declared.input.Input.{Input}
use Rattle.object_id.specs.declared.limits.TheConstants.{REQUESTS_AT_ONCE}
use Rattle.sheep_node.specs.declared.limits.TheConstants.{SENDS_MAX}
use Rattle.sheep_node.specs.declared.input.Input.TheVariants as inputs
use Rattle.peer_proto.specs.declared.say.PeerRsp.{PeerRsp}
use Rattle.sheep_node.specs.declared.course.Course.{Course}
use Rattle.sheep_node.specs.declared.session.Session.{Session}
use Rattle.sheep_node.specs.declared.course.Course.TheVariants.{Waiting, Driving, Commanding, Checking, DoingWork, AwaitingDecision}
use Rattle.sheep_node.specs.State.{Node, session_at}
use Rattle.sheep_node.specs.OutsideAsks.{IsObjectAsk, IsEntryAsk}
use Rattle.sheep_node.specs.RecoveryView.{recovery_state_of}
use Rattle.sheep_node.specs.LogReading.{is_epoch_member}

-- whether the node has numbers left for the sends of a step
abbrev pub has_numbers : Node → Bool
has_numbers node = nat_le node.sends SENDS_MAX

-- whether it has an entry to put
abbrev pub has_entry_to_put : Node → Bool
has_entry_to_put node = not (length node.outbox == 0)

-- whether its recovery has work for a tick
abbrev pub may_tick : Node → Bool
may_tick node = recoveries.can_tick (recovery_state_of node)

-- whether a work of its gateway may be tried again
abbrev pub has_work_to_retry : Node → Bool
has_work_to_retry node = gateways.can_retry (record { 0 = node.peer.epoch }) node.gateway

-- whether it has read so many entries of the log
abbrev pub has_read : ℕ → Node → Bool
has_read count node = nat_le count (length node.peer.entries)

-- whether a message of this number was sent, and is unanswered
abbrev pub node_awaits : ℕ → Node → Bool
node_awaits number node = gateways.gateway_awaits number node.gateway || recoveries.recovery_awaits number node.recovery

-- whether a reply answers such a message, and fits what that asked
abbrev pub fits_node : PeerRsp → Node → Bool
fits_node rsp node = gateways.fits_gateway rsp node.gateway || recovery_fits.fits_recovery rsp (recovery_state_of node)

-- whether a request is a read or write
abbrev pub is_disk_course : Course → Bool
is_disk_course (Waiting ask) = true
is_disk_course (Driving driver) = true
is_disk_course (Commanding op) = false
is_disk_course (Checking check) = false
is_disk_course (DoingWork work) = false
is_disk_course (AwaitingDecision entry) = false

-- how many reads and writes of a session may be without reply where a request comes: at a read or write fewer than may be at once, at
-- any other none
abbrev pub queued_at_most : Ask → ℕ
queued_at_most (asks.Disk ask) = REQUESTS_AT_ONCE - 1
queued_at_most (asks.Vdi ask) = 0
queued_at_most (asks.Object work) = 0
queued_at_most (asks.Entry entry) = 0

-- whether the session has room for a request: none that is alone in it is without reply
abbrev pub has_room_for : Ask → Session → Bool
has_room_for ask session = is_none session.command && nat_le (length session.queue) (queued_at_most ask)

-- what is asked of a node is as it may be: whole blocks and one at least, and names, tags and specs that may be such; of a client
-- without a script a work on an object that the node knows, or a lock
abbrev pub IsGuestAsk : Node → Ask → Type 0
IsGuestAsk node (asks.Disk ask) = IsTrue (is_ask ask)
IsGuestAsk node (asks.Vdi ask) = IsVdiAsk ask
IsGuestAsk node (asks.Object work) = IsObjectAsk node.peer work
IsGuestAsk node (asks.Entry entry) = IsEntryAsk node.me entry

-- what a guest's request must meet
pub record MayGuest (req session : ℕ) (ask : Ask) (node : Node) : Type 0 where
  pub room : IsTrue (has_room_for ask (session_at session node))
  pub number : IsTrue (not (tree.contains_key node.requests req))
  pub member : IsTrue (is_epoch_member node)
  pub asked : IsGuestAsk node ask

-- which entry may be the first
abbrev pub MayBeFirst : Entry → Type 0
MayBeFirst (Format opening) = MayOpen opening
MayBeFirst _ = ⊥

-- which entry may be read after these
abbrev pub MayRead : List Entry → Entry → Type 0
MayRead [] entry = MayBeFirst entry
MayRead (first ∷ later) entry = MayAppend (first ∷ later) entry

-- which entries may be read after these, one after the other
abbrev pub MayReadAll : List Entry → List Entry → Type 0
MayReadAll before [] = Unit {0}
MayReadAll before (entry ∷ later) = MayRead before entry × MayReadAll (before ++ entry ∷ []) later

-- what the log must meet with which a lost node comes back: it goes on behind what the node has read, and its last epoch is
-- above 1 and the node's, and has the node as a member
pub record MayComeBack (entries : List Entry) (node : Node) : Type 0 where
  pub later : List Entry
  pub goes_on : entries ≡ node.peer.entries ++ later
  pub read : MayReadAll node.peer.entries later
  pub above_1 : 1 < epoch_of entries
  pub above_own : node.peer.epoch < epoch_of entries
  pub member : IsTrue (members.is_member node.me.0 (members_in entries (epoch_of entries)))

-- what an input must meet
abbrev pub Meets : Input → Node → Type 0
Meets (inputs.Guest req session ask) node = MayGuest req session ask node
Meets (inputs.Request request) node = MayServe node.peer request.ask
Meets (inputs.Reply rsp) node = IsTrue (fits_node rsp node)
Meets (inputs.Lost number) node = IsTrue (node_awaits number node)
Meets (inputs.LogEntry entry) node = MayRead node.peer.entries entry
Meets inputs.Put node = IsTrue (has_entry_to_put node)
Meets inputs.RecoverTick node = IsTrue (may_tick node)
Meets inputs.RetryTick node = IsTrue (has_work_to_retry node)
Meets (inputs.Back entries) node = MayComeBack entries node

-- a node may step where it has numbers left, and the input meets its condition
pub record May (input : Input) (node : Node) : Type 0 where
  pub numbers : IsTrue (has_numbers node)
  pub condition : Meets input node
