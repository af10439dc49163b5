-- Who may begin writes on a disk in the history: the requests of the session that holds it by the log; and what is open of them.
use Rattle.std.specs.Prelude.{◌≡◌, ℕ, ◌+◌, ◌/◌, ◌<◌, ◌==◌, Bool, true, false, not, ◌&&◌, List, length, Contains, slice_get, Some}
use Rattle.std.specs.Option.{option_map_or, option_and_then}
use Rattle.std.specs.FinMap as tree
use Rattle.object_id.specs.declared.limits.TheConstants.{BLOCK_BYTES}
use Rattle.disk_history.specs.declared.event.HistEvent.{HistEvent}
use Rattle.disk_history.specs.declared.event.HistEvent.TheVariants.{Create, Copy, Delete, WriteStart, WriteDone, WriteRefused, WriterLost}
use Rattle.disk_history.specs.declared.event.HistEvent.TheVariants.{Read}
use Rattle.disk_history.specs.Changes.{items_in}
use Rattle.disk_history.specs.Ledger.{Open, Item, has_block}
use Rattle.disk_history.specs.Ledger as histories
use Rattle.cluster_script.specs.declared.statement.Statement.{Statement}
use Rattle.cluster_script.specs.NumberedRequests.{request_at}
use Rattle.cluster_script.specs.Statements.{is_check}
use Rattle.guest_driver.specs.declared.disk.Disk.{Disk}
use Rattle.guest_driver.specs.Pieces.{Piece}
use Rattle.peer_proto.specs.declared.guest.DiskAsk.TheVariants as disk_asks
use Rattle.sheep_node.specs.declared.ask.Ask.TheVariants as asks
use Rattle.sheep_node.specs.declared.course.Request.{Request}
use Rattle.sheep_node.specs.State.{Node, session_at}
use Rattle.sheep_world.specs.Asking.{ask_of_statement, session_asking}
use Rattle.sheep_world.specs.HistoryAdditions.{block_in}
use Rattle.overlap_law.specs.Each.{EachUp}
use Rattle.overlap_law.specs.Headline.{ledger_of}
use Rattle.overlap_law.specs.Pieces.{HasItem, IsInPiece, IsOn, bytes_for, left_to_write, payload_at}
use Rattle.overlap_law.specs.WrittenBlocks.{items_at}
use Rattle.overlap_law.specs.Words.{Hosts}

-- whether a request is asked in this session
abbrev pub is_asked_in : List Statement → ℕ → ℕ → Bool
is_asked_in script session req = option_map_or (λ (number : ℕ). number == session) (session_asking script req) false

-- whether an event makes the disk of an id, or begins a write of it for a request that isn't one of these
abbrev pub begins_by_others : ℕ → (ℕ → Bool) → HistEvent → Bool
begins_by_others vid owns (Create disk blocks) = disk == vid
begins_by_others vid owns (Copy old new) = new == vid
begins_by_others vid owns (Delete disk) = false
begins_by_others vid owns (WriteStart req disk block coded bytes) = disk == vid && not (owns req)
begins_by_others vid owns (WriteDone req) = false
begins_by_others vid owns (WriteRefused req) = false
begins_by_others vid owns (WriterLost req) = false
begins_by_others vid owns (Read disk block bytes) = false

-- or for one of another session than this
abbrev pub is_anothers : List Statement → ℕ → ℕ → HistEvent → Bool
is_anothers script vid session = begins_by_others vid (is_asked_in script session)

-- whether an event ends the writes of a request
abbrev pub ends_write_of : ℕ → HistEvent → Bool
ends_write_of req (Create disk blocks) = false
ends_write_of req (Copy old new) = false
ends_write_of req (Delete disk) = false
ends_write_of req (WriteStart other disk block coded bytes) = false
ends_write_of req (WriteDone other) = other == req
ends_write_of req (WriteRefused other) = other == req
ends_write_of req (WriterLost other) = other == req
ends_write_of req (Read disk block bytes) = false

-- a request has an open item of these bytes among those of a block
pub record HasOpenItem (items : List Item) (req : ℕ) (bytes : List ℕ) : Type 0 where
  pub item : Item
  pub among : Contains items item
  pub of : item.request ≡ Some req
  pub mark : item.mark ≡ Open
  pub same : item.bytes ≡ bytes

-- a request without reply, in a session with a working disk open
pub record IsUnderWay (node : Node) (req : ℕ) (opened : Disk) : Type 0 where
  pub request : Request
  pub there : tree.get node.requests req ≡ Some request
  pub on : (session_at request.session node).disk ≡ Some opened
  pub working : opened.snapshot ≡ false

-- each write that it began there, on a block that the disk has, is open
pub record WritesUnderWayAreOpen (history : List HistEvent) (hosts : Hosts) : Type 0 where
  pub each : EachUp hosts (λ n node. (req block : ℕ) (opened : Disk) (coded : Bool) (bytes : List ℕ) → IsUnderWay node req opened
      → Contains history (WriteStart req opened.inode.vid block coded bytes)
      → has_block ((ledger_of history).disks opened.inode.vid) block ≡ true
      → HasOpenItem (items_in ((ledger_of history).disks opened.inode.vid) block) req bytes)

-- each block of a write under way is one of the disk and has its open item, if the disk is there by the history
pub record BlocksUnderWayAreOpen (script : List Statement) (history : List HistEvent) (hosts : Hosts) : Type 0 where
  pub each : EachUp hosts (λ n node. (req offset place : ℕ) (payload : List ℕ) (opened : Disk) (disk : histories.Disk)
      → IsUnderWay node req opened
      → option_and_then ask_of_statement (request_at script req) ≡ Some (asks.Disk (disk_asks.Write offset payload))
      → place < length payload / BLOCK_BYTES → (ledger_of history).disks opened.inode.vid ≡ Some disk
      → (offset / BLOCK_BYTES + place < disk.blocks)
      × HasOpenItem (disk.items (offset / BLOCK_BYTES + place)) req (block_in payload place))

-- what a check under way began to write stands: it is among the items by which the block may be read
pub record WritesOfChecksStand (script : List Statement) (history : List HistEvent) (hosts : Hosts) : Type 0 where
  pub each : EachUp hosts (λ n node. (req block : ℕ) (opened : Disk) (coded : Bool) (bytes : List ℕ) → IsUnderWay node req opened
      → option_map_or is_check (request_at script req) false ≡ true
      → Contains history (WriteStart req opened.inode.vid block coded bytes)
      → has_block ((ledger_of history).disks opened.inode.vid) block ≡ true
      → HasItem (items_in ((ledger_of history).disks opened.inode.vid) block) req bytes)

-- what a request has still to write has its open items, in the words of its pieces
pub record WritesHaveOpenItems (history : List HistEvent) (hosts : Hosts) : Type 0 where
  pub each : EachUp hosts (λ n node. (req place unit : ℕ) (request : Request) (opened : Disk) (disk : histories.Disk) (piece : Piece)
      → IsOn (ledger_of history) node req request opened disk
      → slice_get (left_to_write opened.inode.spec.shift request.course) place ≡ Some piece → IsInPiece piece unit
      → HasOpenItem (items_at disk opened.inode.spec piece.index unit) req (bytes_for (payload_at request.course) piece unit))
