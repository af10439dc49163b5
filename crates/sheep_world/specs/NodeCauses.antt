-- Why a node steps: what of the world it steps on, and what beside the node's own step that makes of the world.
use Rattle.std.specs.Prelude.{◌≡◌, ℕ, Bool, true, false, List, [], ◌∷◌, ◌++◌, length, fold, slice_get, Some, Ok, Option, None}
use Rattle.std.specs.Option.{option_map_or, option_map}
use Rattle.std.specs.Ordering.{nat_cmp}
use Rattle.std.specs.FinMap as tree
use Rattle.object_id.specs.declared.node.NodeId.{NodeId}
use Rattle.object_id.specs.declared.entry.Entry.{Entry}
use Rattle.disk_history.specs.declared.event.HistEvent.{HistEvent}
use Rattle.cluster_script.specs.declared.statement.Statement.{Statement}
use Rattle.cluster_script.specs.NumberedRequests.{session_of, request_at}
use Rattle.cluster_script.specs.Sessions.{ScriptSession, session_numbered}
use Rattle.peer_proto.specs.declared.ask.PeerReq.{PeerReq}
use Rattle.peer_proto.specs.declared.say.PeerRsp.{PeerRsp}
use Rattle.peer_proto.specs.Ask.{ask_in}
use Rattle.peer_proto.specs.Say.{say_in}
use Rattle.peer_service.specs.Serve.{reply_to}
use Rattle.sheep_node.specs.declared.ask.Ask.{Ask}
use Rattle.sheep_node.specs.declared.event.Event.{Event}
use Rattle.sheep_node.specs.declared.event.Event.TheVariants as events
use Rattle.sheep_node.specs.declared.input.Input.{Input}
use Rattle.sheep_node.specs.declared.input.Input.TheVariants as inputs
use Rattle.sheep_node.specs.State.{Node}
use Rattle.sheep_node.specs.May.{may_tick, has_work_to_retry}
use Rattle.sheep_node.specs.LogReading.{is_epoch_member}
use Rattle.sheep_node.specs.MayTests.{is_guest_ask}
use Rattle.sheep_node.specs.Step.{node_step}
use Rattle.message_wire.specs.declared.name.MessageName.{MessageName}
use Rattle.message_wire.specs.declared.packet.Packet.{Packet}
use Rattle.message_wire.specs.declared.packet.Packet.TheVariants.{Request, Reply}
use Rattle.message_wire.specs.Message.{name_cmp}
use Rattle.sheep_world.specs.declared.progress.SessionProgress.{SessionProgress}
use Rattle.sheep_world.specs.World.{Host, World, is_host_up, message_at, progress_at}
use Rattle.sheep_world.specs.declared.progress.ClientAsk.{ClientAsk}
use Rattle.sheep_world.specs.ClientAsks.{next_ask_number, is_answered, is_read_ask}
use Rattle.sheep_world.specs.Conditions.{next_request, may_begin_request, may_go}
use Rattle.sheep_world.specs.Asking.{ask_of_statement}
use Rattle.sheep_world.specs.Messages.{losses_after_loss, wire_with_reply}
use Rattle.sheep_world.specs.NodeSteps.{wire_with_request, progress_after_reply, ask_after_replies}
use Rattle.sheep_world.specs.Effects.{disk_open, progress_with_started, request_started}
use Rattle.sheep_world.specs.HistoryAdditions.{request_grown, replies_grown, delivery_grown}
use Rattle.sheep_world.specs.Granted.{entry_adds}

-- why a node that is up steps
pub data NodeCause : Type 0 where
  -- a session's next request begins, of this number, and asks this
  GuestAsks : ScriptSession → ℕ → Ask → NodeCause
  -- a request comes to the node that it asks
  RequestComes : MessageName → NodeId → PeerReq → NodeCause
  -- the reply to its own request comes
  ReplyComes : MessageName → NodeId → PeerRsp → NodeCause
  -- its own message, this packet in the wire, is lost
  LossIsTold : MessageName → Packet → NodeCause
  -- the next entry of the log
  EntryIsRead : Entry → NodeCause
  -- the first entry of its outbox goes into the log
  EntryIsPut : Entry → NodeCause
  -- its recovery makes a step
  RecoveryTicks : NodeCause
  -- a work is tried again
  WorkIsRetried : NodeCause
  -- a client reads an object, under this number; this is no event
  ClientAsks : ℕ → Ask → NodeCause

-- the input that the node steps on
abbrev pub input_of_cause : NodeCause → Input
input_of_cause (GuestAsks session req ask) = inputs.Guest req session.number ask
input_of_cause (RequestComes name to request) = inputs.Request request
input_of_cause (ReplyComes name from rsp) = inputs.Reply rsp
input_of_cause (LossIsTold name packet) = inputs.Lost name.number
input_of_cause (EntryIsRead entry) = inputs.LogEntry entry
input_of_cause (EntryIsPut entry) = inputs.Put
input_of_cause RecoveryTicks = inputs.RecoverTick
input_of_cause WorkIsRetried = inputs.RetryTick
input_of_cause (ClientAsks req ask) = inputs.Guest req 0 ask

-- the event by which it does. A client's read is none; what it makes is told of as what a retry of its node would have made
abbrev pub event_of_cause : ℕ → NodeCause → Event
event_of_cause n (GuestAsks session req ask) = events.Guest session.number
event_of_cause n (RequestComes name to request) = events.Deliver name.sender name.number
event_of_cause n (ReplyComes name from rsp) = events.Deliver name.sender name.number
event_of_cause n (LossIsTold name (Request to bytes)) = events.LoseRequest name.sender name.number
event_of_cause n (LossIsTold name (Reply from bytes)) = events.LoseReply name.sender name.number
event_of_cause n (EntryIsRead entry) = events.LogNext (record { 0 = n })
event_of_cause n (EntryIsPut entry) = events.Put (record { 0 = n })
event_of_cause n RecoveryTicks = events.RecoverTick (record { 0 = n })
event_of_cause n WorkIsRetried = events.RetryTick (record { 0 = n })
event_of_cause n (ClientAsks req ask) = events.RetryTick (record { 0 = n })

-- a session's next request may begin at its gateway
pub record GuestMayAsk (statements : List Statement) (world : World) (n : ℕ) (host : Host) (session : ScriptSession)
    (req : ℕ) (ask : Ask) : Type 0 where
  pub declared : session_numbered statements session.number ≡ Some session
  pub gateway : session.node ≡ n
  pub lived : session.incarnation ≡ host.incarnation
  pub member : is_epoch_member host.node ≡ true
  pub next : next_request statements session.number world ≡ Some req
  pub may : may_begin_request statements world.phase (progress_at session.number world) req ≡ true
  pub line : Statement
  pub stands : request_at statements req ≡ Some line
  pub own : session_of line ≡ Some session.number
  pub asks : ask_of_statement line ≡ Some ask

-- a client may ask this read of a node that is up: the node is a member by what it has read, and may be asked this, a read of an object by
-- its id; the client's last read has its reply; and this is its next number, of which the script has no request
pub record ClientMayRead (statements : List Statement) (world : World) (host : Host) (req : ℕ) (ask : Ask) : Type 0 where
  pub number : next_ask_number world ≡ req
  pub none : request_at statements req ≡ None
  pub answered : is_answered world ≡ true
  pub member : is_epoch_member host.node ≡ true
  pub asks : is_guest_ask host.node ask ≡ true
  pub reads : is_read_ask ask ≡ true

-- a request in the wire goes to the node, and can be read
pub record RequestIsHere (world : World) (n : ℕ) (name : MessageName) (to : NodeId) (request : PeerReq) : Type 0 where
  pub here : to.0 ≡ n
  pub bytes : List ℕ
  pub there : message_at name world ≡ Some (Request to bytes)
  pub read : ask_in bytes ≡ Ok request

-- a reply in the wire goes to the node, and can be read
pub record ReplyIsHere (world : World) (n : ℕ) (name : MessageName) (from : NodeId) (rsp : PeerRsp) : Type 0 where
  pub here : name.sender.0 ≡ n
  pub bytes : List ℕ
  pub there : message_at name world ≡ Some (Reply from bytes)
  pub read : say_in bytes ≡ Ok rsp

-- a message of the node is in the wire, and may go
pub record MessageMayGo (world : World) (n : ℕ) (name : MessageName) (packet : Packet) : Type 0 where
  pub here : name.sender.0 ≡ n
  pub there : message_at name world ≡ Some packet
  pub may : may_go name packet world ≡ true

-- what holds where a node steps for this
abbrev pub IsCause : List Statement → World → ℕ → Host → NodeCause → Type 0
IsCause statements world n host (GuestAsks session req ask) = GuestMayAsk statements world n host session req ask
IsCause statements world n host (RequestComes name to request) = RequestIsHere world n name to request
IsCause statements world n host (ReplyComes name from rsp) = ReplyIsHere world n name from rsp
IsCause statements world n host (LossIsTold name packet) = MessageMayGo world n name packet
IsCause statements world n host (EntryIsRead entry) = slice_get world.log (length host.node.peer.entries) ≡ Some entry
IsCause statements world n host (EntryIsPut entry) = (later : List Entry) × (host.node.outbox ≡ entry ∷ later)
IsCause statements world n host RecoveryTicks = may_tick host.node ≡ true
IsCause statements world n host WorkIsRetried = has_work_to_retry host.node ≡ true
IsCause statements world n host (ClientAsks req ask) = ClientMayRead statements world host req ask

-- the sessions, as the step finds them: a request that begins is counted
abbrev pub progress_at_cause : NodeCause → World → tree.FinMap nat_cmp SessionProgress
progress_at_cause (GuestAsks session req ask) world = tree.insert
    world.guests session.number
    (progress_with_started (record { req = req; disk = disk_open session world }) (progress_at session.number world))
progress_at_cause (RequestComes name to request) world = world.guests
progress_at_cause (ReplyComes name from rsp) world = world.guests
progress_at_cause (LossIsTold name packet) world = world.guests
progress_at_cause (EntryIsRead entry) world = world.guests
progress_at_cause (EntryIsPut entry) world = world.guests
progress_at_cause RecoveryTicks world = world.guests
progress_at_cause WorkIsRetried world = world.guests
progress_at_cause (ClientAsks req ask) world = world.guests

-- the client's last ask, as the step finds it: one that begins has no reply
abbrev pub asked_at_cause : NodeCause → Option ClientAsk → Option ClientAsk
asked_at_cause (GuestAsks session req ask) asked = asked
asked_at_cause (RequestComes name to request) asked = asked
asked_at_cause (ReplyComes name from rsp) asked = asked
asked_at_cause (LossIsTold name packet) asked = asked
asked_at_cause (EntryIsRead entry) asked = asked
asked_at_cause (EntryIsPut entry) asked = asked
asked_at_cause RecoveryTicks asked = asked
asked_at_cause WorkIsRetried asked = asked
asked_at_cause (ClientAsks req ask) asked = Some (record { req = req; reply = None })

-- the wire, as the step finds it: what the node gets or is told of is gone
abbrev pub wire_at_cause : NodeCause → tree.FinMap name_cmp Packet → tree.FinMap name_cmp Packet
wire_at_cause (GuestAsks session req ask) wire = wire
wire_at_cause (RequestComes name to request) wire = wire
wire_at_cause (ReplyComes name from rsp) wire = tree.remove wire name
wire_at_cause (LossIsTold name packet) wire = tree.remove wire name
wire_at_cause (EntryIsRead entry) wire = wire
wire_at_cause (EntryIsPut entry) wire = wire
wire_at_cause RecoveryTicks wire = wire
wire_at_cause WorkIsRetried wire = wire
wire_at_cause (ClientAsks req ask) wire = wire

-- the losses that the step leaves
abbrev pub losses_after_cause : NodeCause → World → ℕ
losses_after_cause (GuestAsks session req ask) world = world.losses
losses_after_cause (RequestComes name to request) world = world.losses
losses_after_cause (ReplyComes name from rsp) world = world.losses
losses_after_cause (LossIsTold name packet) world = losses_after_loss name packet world
losses_after_cause (EntryIsRead entry) world = world.losses
losses_after_cause (EntryIsPut entry) world = world.losses
losses_after_cause RecoveryTicks world = world.losses
losses_after_cause WorkIsRetried world = world.losses
losses_after_cause (ClientAsks req ask) world = world.losses

-- the log that the step leaves
abbrev pub log_after_cause : NodeCause → List Entry → List Entry
log_after_cause (GuestAsks session req ask) log = log
log_after_cause (RequestComes name to request) log = log
log_after_cause (ReplyComes name from rsp) log = log
log_after_cause (LossIsTold name packet) log = log
log_after_cause (EntryIsRead entry) log = log
log_after_cause (EntryIsPut entry) log = log ++ entry ∷ []
log_after_cause RecoveryTicks log = log
log_after_cause WorkIsRetried log = log
log_after_cause (ClientAsks req ask) log = log

-- whether a node among these is up
abbrev pub is_up_among : tree.FinMap nat_cmp Host → ℕ → Bool
is_up_among hosts node = option_map_or is_host_up (tree.get hosts node) false

-- the wire that the step leaves, once what the node sent is in it
abbrev pub wire_after_cause : NodeCause → tree.FinMap nat_cmp Host → Node → tree.FinMap name_cmp Packet → tree.FinMap name_cmp Packet
wire_after_cause (GuestAsks session req ask) hosts node wire = wire
wire_after_cause (RequestComes name to request) hosts node wire =
    wire_with_reply name to (is_up_among hosts name.sender.0) (Some (reply_to node.peer request)) wire
wire_after_cause (ReplyComes name from rsp) hosts node wire = wire
wire_after_cause (LossIsTold name packet) hosts node wire = wire
wire_after_cause (EntryIsRead entry) hosts node wire = wire
wire_after_cause (EntryIsPut entry) hosts node wire = wire
wire_after_cause RecoveryTicks hosts node wire = wire
wire_after_cause WorkIsRetried hosts node wire = wire
wire_after_cause (ClientAsks req ask) hosts node wire = wire

-- a host with the node as it is then
abbrev pub host_with_node : Host → Node → Host
host_with_node host node = record host { node = node }

-- the world after the step of a node in its host
abbrev pub world_after_cause : List Statement → ℕ → Host → NodeCause → World → World
world_after_cause statements n host cause world =
    let so_far = node_step (input_of_cause cause) host.node in
    let hosts = tree.insert world.hosts n (host_with_node host so_far.node) in
    record {
      hosts = hosts;
      log = log_after_cause cause world.log;
      wire = wire_after_cause cause hosts host.node (fold wire_with_request (wire_at_cause cause world.wire) so_far.outputs.sends);
      guests = fold (progress_after_reply statements) (progress_at_cause cause world) so_far.outputs.replies;
      phase = world.phase;
      controls = world.controls;
      losses = losses_after_cause cause world;
      asked = option_map (ask_after_replies so_far.outputs.replies) (asked_at_cause cause world.asked);
      input = Some (input_of_cause cause);
      outputs = so_far.outputs;
    }

-- what the step adds to the history
abbrev pub history_of_cause : List Statement → NodeCause → World → World → List HistEvent
history_of_cause statements (GuestAsks session req ask) before after =
    request_grown statements before session (Some req) ++ replies_grown statements (request_started session (Some req) before) None after
history_of_cause statements (RequestComes name to request) before after = delivery_grown statements name before after
history_of_cause statements (ReplyComes name from rsp) before after = delivery_grown statements name before after
history_of_cause statements (LossIsTold name packet) before after = replies_grown statements before None after
history_of_cause statements (EntryIsRead entry) before after = replies_grown statements before None after
history_of_cause statements (EntryIsPut entry) before after = entry_adds before.log entry
history_of_cause statements RecoveryTicks before after = replies_grown statements before None after
history_of_cause statements WorkIsRetried before after = replies_grown statements before None after
history_of_cause statements (ClientAsks req ask) before after = replies_grown statements before None after
