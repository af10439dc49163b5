-- What each event adds to the history.
use Rattle.std.specs.Prelude.{◌≡◌, ℕ, ◌+◌, ◌*◌, ◌/◌, ◌==◌, Bool, true, false, ◌&&◌, List, [], ◌∷◌, ◌++◌, length, take, drop, map, flat_map}
use Rattle.std.specs.Prelude.{filter, find, Contains, Option, Some, None, is_some, ◌^◌, ◌||◌, nat_lt, if◌then◌else◌}
use Rattle.std.specs.List.{range_with_len}
use Rattle.std.specs.Option.{option_and_then, option_map_or}
use Rattle.object_id.specs.declared.limits.TheConstants.{BLOCK_BYTES}
use Rattle.object_id.specs.declared.oid.Kind.TheVariants.{Block}
use Rattle.gf256.specs.Part.{is_in_strips}
use Rattle.disk_history.specs.declared.event.HistEvent.{HistEvent}
use Rattle.disk_history.specs.declared.event.HistEvent.TheVariants.{WriteStart, WriteDone, WriteRefused, WriterLost, Read}
use Rattle.cluster_script.specs.declared.statement.Statement.{Statement}
use Rattle.cluster_script.specs.declared.statement.Statement.TheVariants as lines
use Rattle.cluster_script.specs.NumberedRequests.{session_of, request_at, numbered_requests, payload_of}
use Rattle.cluster_script.specs.Sessions.{ScriptSession, session_numbered}
use Rattle.peer_proto.specs.declared.guest.GuestRsp.{GuestRsp}
use Rattle.peer_proto.specs.declared.guest.GuestRsp.TheVariants as replies
use Rattle.guest_driver.specs.declared.disk.Disk.{Disk}
use Rattle.sheep_world.specs.declared.progress.StartedRequest.{StartedRequest}
use Rattle.sheep_world.specs.World.{Host, World, host_at, progress_at, node_at}
use Rattle.sheep_world.specs.Asking.{session_asking}
use Rattle.sheep_world.specs.Conditions.{next_request}
use Rattle.sheep_world.specs.Effects.{open_disk_at}
use Rattle.sheep_node.specs.declared.input.Input.{Input}
use Rattle.sheep_node.specs.State.{Node}
use Rattle.sheep_node.specs.declared.check_write.CheckWrite.{CheckWrite}
use Rattle.sheep_node.specs.CheckWrites.{check_write_on, has_check_written}
use Rattle.message_wire.specs.declared.name.MessageName.{MessageName}
use Rattle.cluster_script.specs.Statements.{is_check}

-- a block's part of bytes, by its place among them
abbrev pub block_in : List ℕ → ℕ → List ℕ
block_in bytes place = take BLOCK_BYTES (drop (place * BLOCK_BYTES) bytes)

-- an event for each block of a piece, ascending: of the block's number, and its part of the bytes
abbrev pub each_block : (ℕ → List ℕ → HistEvent) → ℕ → List ℕ → List HistEvent
each_block event offset bytes =
    map (λ place. event (offset / BLOCK_BYTES + place) (block_in bytes place)) (range_with_len 0 (length bytes / BLOCK_BYTES))

-- the block that an event says a write of begins, if it says that
abbrev pub begun_block : HistEvent → Option ℕ
begun_block (WriteStart req disk block coded bytes) = Some block
begun_block event = None

-- the writes of a piece to an open disk begin
abbrev pub writes_begin : ℕ → ℕ → List ℕ → Disk → List HistEvent
writes_begin req offset bytes disk =
    each_block
    (λ block piece. WriteStart req disk.inode.vid block (is_in_strips disk.inode.spec.policy Block) piece)
    offset bytes

-- what a request begins on the disk that its session has open: a write's blocks, ascending
abbrev pub begins_on : ℕ → Option Disk → Statement → List HistEvent
begins_on req disk (lines.Write session offset length pattern) =
    option_map_or (writes_begin req offset (payload_of pattern length)) disk []
begins_on req disk s = []

-- what a session's next request begins, if it has one
abbrev pub request_grown : List Statement → World → ScriptSession → Option ℕ → List HistEvent
request_grown statements world session None = []
request_grown statements world session (Some req) =
    option_map_or (begins_on req (open_disk_at session world)) (request_at statements req) []

-- what the next request of the session of this number begins
abbrev pub writes_grown : List Statement → ℕ → World → List HistEvent
writes_grown statements number world = option_map_or
    (λ session. request_grown statements world session (next_request statements number world))
    (session_numbered statements number) []

-- whether a started request is the one of a number
abbrev pub is_started_request : ℕ → StartedRequest → Bool
is_started_request req started = started.req == req

-- a request that was started and has no reply
abbrev pub started_at : List Statement → ℕ → World → Option StartedRequest
started_at statements req world = option_and_then
    (λ session. find (is_started_request req) (progress_at session world).unanswered)
    (session_asking statements req)

-- the disk on which a request without reply began
abbrev pub disk_of : List Statement → ℕ → World → Option ℕ
disk_of statements req world = option_and_then (λ (started : StartedRequest). started.disk) (started_at statements req world)

-- the end of a write
abbrev pub write_ended : ℕ → GuestRsp → HistEvent
write_ended req replies.Done = WriteDone req
write_ended req (replies.Piece bytes) = WriteDone req
write_ended req (replies.Refused cause) = WriteRefused req
write_ended req (replies.Granted vid) = WriteDone req
write_ended req (replies.Checked found) = WriteDone req

-- the blocks that a reply gives, ascending
abbrev pub blocks_read : ℕ → ℕ → GuestRsp → List HistEvent
blocks_read disk offset replies.Done = []
blocks_read disk offset (replies.Piece bytes) = each_block (λ block piece. Read disk block piece) offset bytes
blocks_read disk offset (replies.Refused cause) = []
blocks_read disk offset (replies.Granted vid) = []
blocks_read disk offset (replies.Checked found) = []

-- what a reply adds: of a request that began on an open disk a write's end, or a read's blocks; of a check that has begun a write the
-- end of that
abbrev pub reply_adds : Bool → ℕ → GuestRsp → ℕ → Statement → List HistEvent
reply_adds written req rsp disk (lines.Read session offset length) = blocks_read disk offset rsp
reply_adds written req rsp disk (lines.Write session offset length pattern) = write_ended req rsp ∷ []
reply_adds written req rsp disk (lines.Check session) = if written then write_ended req rsp ∷ [] else []
reply_adds written req rsp disk s = []

-- what a reply adds where its request began on a disk, and is one of the script
abbrev pub added_by : Bool → ℕ → GuestRsp → Option ℕ → Option Statement → List HistEvent
added_by written req rsp None s = []
added_by written req rsp (Some disk) None = []
added_by written req rsp (Some disk) (Some s) = reply_adds written req rsp disk s

-- the node of the gateway of a request
abbrev pub gateway_of : List Statement → ℕ → World → Option Node
gateway_of statements req world = option_and_then
    (λ (session : ScriptSession). node_at session.node world)
    (option_and_then (session_numbered statements) (session_asking statements req))

-- whether a check is a write's: of this request
abbrev pub is_write_of : ℕ → CheckWrite → Bool
is_write_of req write = write.req == req

-- whether a request is a check that had come to a write, or comes to this one
abbrev pub has_begun_check_write : List Statement → ℕ → World → Option CheckWrite → Bool
has_begun_check_write statements req world write =
    option_map_or (has_check_written req) (gateway_of statements req world) false || option_map_or (is_write_of req) write false

-- what one reply adds, in a step in which a check comes to this write, if there is one
abbrev pub reply_grown : List Statement → World → Option CheckWrite → ℕ × GuestRsp → List HistEvent
reply_grown statements world write reply =
    added_by (has_begun_check_write statements reply.0 world write) reply.0 reply.1
    (disk_of statements reply.0 world) (request_at statements reply.0)

-- what the replies of a step add, by request: their requests had no reply in the world before
abbrev pub replies_grown : List Statement → World → Option CheckWrite → World → List HistEvent
replies_grown statements before write after = flat_map (reply_grown statements before write) after.outputs.replies

-- ---- checks

-- the number of a block of the value that a check writes
abbrev pub block_written : CheckWrite → ℕ → ℕ
block_written write place = write.index * 2 ^ write.spec.shift / BLOCK_BYTES + place

-- whether the disk has it: its last object may reach beyond its end
abbrev pub is_on_disk : CheckWrite → ℕ → Bool
is_on_disk write place = nat_lt (block_written write place) (write.spec.size / BLOCK_BYTES)

-- a block of a check's value is read, and its write begins
abbrev pub block_checked : CheckWrite → ℕ → List HistEvent
block_checked write place =
    Read write.vid.0 (block_written write place) (block_in write.value place)
    ∷ WriteStart write.req write.vid.0 (block_written write place) (is_in_strips write.spec.policy Block)
    (block_in write.value place) ∷ []

-- what a check's write adds as it begins: each block that the disk has, ascending
abbrev pub check_write_adds : CheckWrite → List HistEvent
check_write_adds write =
    flat_map (block_checked write) (filter (is_on_disk write) (range_with_len 0 (length write.value / BLOCK_BYTES)))

-- what it adds, if its request is of the script
abbrev pub check_write_grown : List Statement → CheckWrite → List HistEvent
check_write_grown statements write =
    if option_map_or is_check (request_at statements write.req) false then check_write_adds write else []

-- the write that a check of the node that sent a message comes to by the reply
abbrev pub check_write_by : MessageName → World → World → Option CheckWrite
check_write_by name before after =
    option_and_then (λ (input : Input). option_and_then (check_write_on input) (node_at name.sender.0 before)) after.input

-- what a delivery adds: the write that a check comes to, and then what the replies of the step do
abbrev pub delivery_grown : List Statement → MessageName → World → World → List HistEvent
delivery_grown statements name before after =
    option_map_or (check_write_grown statements) (check_write_by name before after) []
    ++ replies_grown statements before (check_write_by name before after) after

-- whether a statement is a write
abbrev pub is_write : Statement → Bool
is_write (lines.Write session offset length pattern) = true
is_write s = false

-- whether a session belongs to the present incarnation of a node
abbrev pub is_of_incarnation : List Statement → ℕ → ℕ → ℕ → Bool
is_of_incarnation statements node incarnation session =
    option_map_or (λ (of : ScriptSession). of.node == node && of.incarnation == incarnation) (session_numbered statements session) false

-- whether a request writes: it is a write, or a check that has come to one
abbrev pub is_writing_request : Node → ℕ × Statement → Bool
is_writing_request node request = is_write request.1 || (is_check request.1 && has_check_written request.0 node)

-- whether a request writes that began on an open disk in this incarnation of a node, and has no reply
abbrev pub is_lost_write : List Statement → World → ℕ → Host → ℕ × Statement → Bool
is_lost_write statements world node host request =
    is_writing_request host.node request
    && option_map_or (is_of_incarnation statements node host.incarnation) (session_of request.1) false
    && is_some (disk_of statements request.0 world)

-- the writers that a node's loss leaves without reply, by request
abbrev pub writers_lost : List Statement → World → ℕ → Option Host → List HistEvent
writers_lost statements world node None = []
writers_lost statements world node (Some host) =
    map (λ (request : ℕ × Statement). WriterLost request.0)
    (filter (is_lost_write statements world node host) (numbered_requests statements))

-- the writers that the loss of the node of this number leaves without reply
abbrev pub loss_grown : List Statement → ℕ → World → List HistEvent
loss_grown statements node world = writers_lost statements world node (host_at node world)

-- a write that a node's loss leaves without reply: of a session of the node's present incarnation, begun on an open disk
pub record IsLostWrite (statements : List Statement) (world : World) (node : ℕ) (request : ℕ × Statement) : Type 0 where
  pub host : Host
  pub there : host_at node world ≡ Some host
  pub asked : Contains (numbered_requests statements) request
  pub writes : is_writing_request host.node request ≡ true
  pub number : ℕ
  pub of : session_of request.1 ≡ Some number
  pub session : ScriptSession
  pub declared : session_numbered statements number ≡ Some session
  pub gateway : session.node ≡ node
  pub lived : session.incarnation ≡ host.incarnation
  pub on_disk : is_some (disk_of statements request.0 world) ≡ true
