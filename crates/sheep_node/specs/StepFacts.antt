-- What a step leaves and gives, in few words.
use Rattle.std.specs.Prelude.{◌≡◌, ◌≢◌, ℕ, ◌≤◌, Bool, true, false, List, [], ◌∷◌, ◌++◌, slice_get, Option, Some, None}
use Rattle.object_id.specs.declared.entry.Entry.{Entry}
use Rattle.epoch_log.specs.Appending.{IsLog}
use Rattle.epoch_log.specs.Epochs.{epoch_of, settled_of}
use Rattle.vnode_table.specs.Epochs.{EpochMembers}
use Rattle.peer_proto.specs.declared.guest.GuestRsp.{GuestRsp}
use Rattle.peer_proto.specs.declared.say.PeerRsp.{PeerRsp}
use Rattle.peer_service.specs.Serve.{reply_to}
use Rattle.sheep_node.specs.declared.input.Input.{Input}
use Rattle.sheep_node.specs.declared.input.Input.TheVariants as inputs
use Rattle.sheep_node.specs.declared.outputs.Outputs.{Outputs}
use Rattle.std.specs.FinMap as tree
use Rattle.sheep_node.specs.declared.course.Request.{Request}
use Rattle.sheep_node.specs.State.{Node}
use Rattle.sheep_node.specs.LogReading.{epochs_up_to}

-- the entries that a node has read after an input: one more, or those that it comes back with
abbrev pub read_after : Input → List Entry → List Entry
read_after (inputs.Guest req session ask) read = read
read_after (inputs.Request request) read = read
read_after (inputs.Reply rsp) read = read
read_after (inputs.Lost number) read = read
read_after (inputs.LogEntry entry) read = read ++ entry ∷ []
read_after inputs.Put read = read
read_after inputs.RecoverTick read = read
read_after inputs.RetryTick read = read
read_after (inputs.Back entries) read = entries

-- whether the input may begin a recovery
abbrev pub may_begin_recovery : Input → Bool
may_begin_recovery (inputs.Guest req session ask) = false
may_begin_recovery (inputs.Request request) = false
may_begin_recovery (inputs.Reply rsp) = false
may_begin_recovery (inputs.Lost number) = false
may_begin_recovery (inputs.LogEntry entry) = true
may_begin_recovery inputs.Put = false
may_begin_recovery inputs.RecoverTick = false
may_begin_recovery inputs.RetryTick = false
may_begin_recovery (inputs.Back entries) = true

-- a reply to a request, and nothing else
abbrev pub only_reply : PeerRsp → Outputs
only_reply rsp = record { sends = []; say = Some rsp; replies = []; put = None }

-- what a step says to a peer: something only to a request
abbrev pub said_on : Input → Node → Option PeerRsp
said_on (inputs.Guest req session ask) node = None
said_on (inputs.Request request) node = Some (reply_to node.peer request)
said_on (inputs.Reply rsp) node = None
said_on (inputs.Lost number) node = None
said_on (inputs.LogEntry entry) node = None
said_on inputs.Put node = None
said_on inputs.RecoverTick node = None
said_on inputs.RetryTick node = None
said_on (inputs.Back entries) node = None

-- what a step puts into the log: only on Put something, the outbox's first entry
abbrev pub put_on : Input → Node → Option Entry
put_on (inputs.Guest req session ask) node = None
put_on (inputs.Request request) node = None
put_on (inputs.Reply rsp) node = None
put_on (inputs.Lost number) node = None
put_on (inputs.LogEntry entry) node = None
put_on inputs.Put node = slice_get node.outbox 0
put_on inputs.RecoverTick node = None
put_on inputs.RetryTick node = None
put_on (inputs.Back entries) node = None

-- replies by ascending request, from a number on
abbrev pub AscendFrom : ℕ → List (ℕ × GuestRsp) → Type 0
AscendFrom low [] = Unit {0}
AscendFrom low (reply ∷ later) = (low ≤ reply.0) × AscendFrom reply.0 later

-- replies by ascending request
abbrev pub Ascend : List (ℕ × GuestRsp) → Type 0
Ascend replies = AscendFrom 0 replies

-- the epochs that have begun by these entries; none before the first entry
abbrev pub epochs_of : List Entry → List EpochMembers
epochs_of [] = []
epochs_of (first ∷ later) = epochs_up_to (first ∷ later) (epoch_of (first ∷ later))

-- an epoch, a settled epoch and the members of epochs are those of these entries
pub record FollowsLog (epoch settled : ℕ) (epochs : List EpochMembers) (read : List Entry) : Type 0 where
  pub epoch_so : epoch ≡ epoch_of read
  pub settled_so : settled ≡ settled_of read
  pub epochs_so : epochs ≡ epochs_of read

-- a node is in the epoch of the entries that it has read, with what they settle and the members of their epochs
abbrev pub IsByTheLog : Node → Type 0
IsByTheLog node = FollowsLog node.peer.epoch node.peer.settled node.epochs node.peer.entries

-- entries are a log, or there are none yet
abbrev pub IsLogSoFar : List Entry → Type 0
IsLogSoFar [] = Unit {0}
IsLogSoFar (first ∷ later) = IsLog (first ∷ later)

-- what a node has read is a log
abbrev pub HasReadLog : Node → Type 0
HasReadLog node = IsLogSoFar node.peer.entries

-- where a request is, the node has read something
abbrev pub HasReadIfAsked : Node → Type 0
HasReadIfAsked node = (req : ℕ) (request : Request) → tree.get node.requests req ≡ Some request → node.peer.entries ≢ []
