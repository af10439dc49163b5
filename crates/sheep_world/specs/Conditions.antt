-- When each event may happen.
use Rattle.std.specs.Prelude.{ℕ, ◌==◌, nat_lt, nat_le, Bool, true, false, not, ◌&&◌, ◌||◌, List, [], ◌∷◌, length, Option}
use Rattle.std.specs.List.{list_any, list_all, slice_get}
use Rattle.std.specs.Option.{option_map_or}
use Rattle.std.specs.FinMap as tree
use Rattle.cluster_script.specs.declared.statement.Statement.{Statement}
use Rattle.cluster_script.specs.declared.statement.Statement.TheVariants as lines
use Rattle.cluster_script.specs.NumberedRequests.{is_disk_request, request_at, numbers_of_session}
use Rattle.cluster_script.specs.Phases.{phases_of, phase_of_request}
use Rattle.cluster_script.specs.Sessions.{ScriptSession, session_numbered, brings_back}
use Rattle.object_id.specs.declared.limits.TheConstants.{REQUESTS_AT_ONCE}
use Rattle.sheep_node.specs.State.{Node}
use Rattle.sheep_node.specs.May as nodes
use Rattle.sheep_node.specs.LogReading as reading
use Rattle.message_wire.specs.declared.name.MessageName.{MessageName}
use Rattle.message_wire.specs.declared.packet.Packet.{Packet}
use Rattle.message_wire.specs.declared.packet.Packet.TheVariants.{Request, Reply}
use Rattle.message_wire.specs.Message.{receiver_of, has_end}
use Rattle.sheep_world.specs.declared.progress.StartedRequest.{StartedRequest}
use Rattle.sheep_world.specs.declared.progress.SessionProgress.{SessionProgress}
use Rattle.sheep_world.specs.World.{Host, World, host_at, is_host_up, is_up}
use Rattle.sheep_world.specs.World.{is_up_with, is_lost, is_newest_member, message_at, has_lost_end, progress_at}
use Rattle.sheep_world.specs.World.{next_control}

-- whether a host's node is up in the incarnation that a session belongs to, and a member by what it has read
abbrev pub serves : ScriptSession → Host → Bool
serves session host = is_host_up host && host.incarnation == session.incarnation && reading.is_epoch_member host.node

-- whether a session's gateway is so
abbrev pub has_gateway : ScriptSession → World → Bool
has_gateway session world = option_map_or (serves session) (host_at session.node world) false

-- the number of a session's next request
abbrev pub next_request : List Statement → ℕ → World → Option ℕ
next_request statements session world = slice_get (numbers_of_session statements session) (progress_at session world).begun

-- whether a request is a read or write
abbrev pub is_disk_request_at : List Statement → ℕ → Bool
is_disk_request_at statements req = option_map_or is_disk_request (request_at statements req) false

-- whether a request may begin beside those without reply: there are none; or fewer than may be at once, and they and it are all reads
-- and writes
abbrev pub fits_beside : List Statement → ℕ → List StartedRequest → Bool
fits_beside statements req [] = true
fits_beside statements req (first ∷ later) =
    nat_lt (length (first ∷ later)) REQUESTS_AT_ONCE && is_disk_request_at statements req
    && list_all (λ (started : StartedRequest). is_disk_request_at statements started.req) (first ∷ later)

-- whether a request may begin: it is of the present phase or an earlier one, and its session has room for it
abbrev pub may_begin_request : List Statement → ℕ → SessionProgress → ℕ → Bool
may_begin_request statements phase guest req = nat_le (phase_of_request statements req) phase && fits_beside statements req guest.unanswered

-- whether a session's next request may begin
abbrev pub may_ask : List Statement → ScriptSession → World → Bool
may_ask statements session world =
    has_gateway session world
    && option_map_or (may_begin_request statements world.phase (progress_at session.number world))
    (next_request statements session.number world) false

-- Guest: the session's next request begins
abbrev pub may_guest : List Statement → ℕ → World → Bool
may_guest statements number world =
    option_map_or (λ session. may_ask statements session world) (session_numbered statements number) false

-- Deliver: the message is in the wire, and its receiver is up
abbrev pub may_deliver : MessageName → World → Bool
may_deliver name world = option_map_or (λ packet. is_up (receiver_of name packet).0 world) (message_at name world) false

-- whether a message may go: an end of it is lost, or losses are left
abbrev pub may_go : MessageName → Packet → World → Bool
may_go name packet world = has_lost_end name packet world || nat_lt 0 world.losses

-- whether a message is a request on its way
abbrev pub is_request_packet : Packet → Bool
is_request_packet (Request to bytes) = true
is_request_packet (Reply from bytes) = false

-- LoseRequest: the message is in the wire as a request, and may go
abbrev pub may_lose_request : MessageName → World → Bool
may_lose_request name world =
    option_map_or (λ packet. is_request_packet packet && may_go name packet world) (message_at name world) false

-- LoseReply: the message is in the wire as a reply, and may go
abbrev pub may_lose_reply : MessageName → World → Bool
may_lose_reply name world =
    option_map_or (λ packet. not (is_request_packet packet) && may_go name packet world) (message_at name world) false

-- LogNext: the node is up, and hasn't read the whole log
abbrev pub may_log_next : ℕ → World → Bool
may_log_next node world = is_up_with (λ (node : Node). nat_lt (length node.peer.entries) (length world.log)) node world

-- Put: the node is up, and its outbox isn't empty
abbrev pub may_put : ℕ → World → Bool
may_put node world = is_up_with nodes.has_entry_to_put node world

-- RecoverTick: the node is up, and its recovery isn't finished and waits for no message
abbrev pub may_recover : ℕ → World → Bool
may_recover node world = is_up_with nodes.may_tick node world

-- RetryTick: the node is up, and a work of it may be tried again
abbrev pub may_retry : ℕ → World → Bool
may_retry node world = is_up_with nodes.has_work_to_retry node world

-- a control fails this node
abbrev pub fails : ℕ → Statement → Bool
fails node (lines.Fail number) = number == node
fails node s = false

-- a control lets it join
abbrev pub joins : ℕ → Statement → Bool
joins node (lines.Join number) = number == node
joins node s = false

-- a control gives it another weight
abbrev pub reweights : ℕ → Statement → Bool
reweights node (lines.Reweight number vnodes) = number == node
reweights node s = false

-- whether the next control is of a kind
abbrev pub is_next_control : (Statement → Bool) → World → Bool
is_next_control kind world = option_map_or kind (next_control world) false

-- Lost: `fail` of the node is the next control, and the node is up
abbrev pub may_lose_node : ℕ → World → Bool
may_lose_node node world = is_next_control (fails node) world && is_up node world

-- Leave: the node is lost, and a member by the whole log
abbrev pub may_leave : ℕ → World → Bool
may_leave node world = is_lost node world && is_newest_member node world

-- Join: `join` of the node is the next control
abbrev pub may_join : ℕ → World → Bool
may_join node world = is_next_control (joins node) world

-- Reweight: `reweight` of the node is the next control
abbrev pub may_reweight : ℕ → World → Bool
may_reweight node world = is_next_control (reweights node) world

-- whether a message in the wire has the node as an end
abbrev pub has_end_in_wire : ℕ → World → Bool
has_end_in_wire node world = list_any (λ (found : MessageName × Packet). has_end node found.0 found.1) (tree.entries world.wire)

-- Back: `back` of the node is the next control, and the node is lost, no member by the whole log, and no message's end
abbrev pub may_come_back : ℕ → World → Bool
may_come_back node world =
    is_next_control (brings_back node) world && is_lost node world && not (is_newest_member node world) && not (has_end_in_wire node world)

-- Phase: a phase isn't ended
abbrev pub may_end_phase : List Statement → World → Bool
may_end_phase statements world = nat_lt world.phase (length (phases_of statements))
