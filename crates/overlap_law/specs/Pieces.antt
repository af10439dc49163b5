-- The reads and writes at gateways, piece by piece, against the history: what is still to be written, what was, and what was read.
use Rattle.std.specs.Prelude.{◌≡◌, ◌⊎◌, ℕ, ◌+◌, ◌*◌, ◌-◌, ◌<◌, ◌≤◌, Bool, true, List, [], ◌∷◌, ◌++◌, length, slice_get, Some}
use Rattle.std.specs.List.{list_all}
use Rattle.std.specs.FinMap as tree
use Rattle.std.specs.Str.{bytes_eq}
use Rattle.object_id.specs.declared.limits.TheConstants.{BLOCK_BYTES}
use Rattle.object_store.specs.Bytes.{piece_at}
use Rattle.disk_history.specs.Ledger.{Item, Open, Ledger, is_item_of}
use Rattle.disk_history.specs.Ledger as histories
use Rattle.disk_history.specs.Legal.{standing, is_torn}
use Rattle.vdi_directory.specs.declared.effect.Effect.{Effect}
use Rattle.peer_proto.specs.declared.guest.DiskAsk.{DiskAsk}
use Rattle.peer_proto.specs.declared.guest.DiskAsk.TheVariants.{Read, Write}
use Rattle.guest_driver.specs.declared.disk.Disk.{Disk}
use Rattle.guest_driver.specs.Pieces.{Piece, pieces}
use Rattle.guest_driver.specs.Driver.{Driver, DriverStage, Reads, Writes, Answered}
use Rattle.sheep_node.specs.declared.course.Course.{Course}
use Rattle.sheep_node.specs.declared.course.Request.{Request}
use Rattle.sheep_node.specs.declared.course.Course.TheVariants.{Waiting, Driving, Commanding, Checking, DoingWork, AwaitingDecision}
use Rattle.sheep_node.specs.State.{Node, session_at}
use Rattle.overlap_law.specs.Attempts.{AttemptRecord}
use Rattle.overlap_law.specs.Words.{Hosts, bytes_by}
use Rattle.overlap_law.specs.Each.{EachUp}
use Rattle.overlap_law.specs.Tables.{AreAmong, candidates}
use Rattle.overlap_law.specs.WrittenBlocks.{IsBlockOfDisk, items_at, is_allowed, outcomes_in}

-- a block of an object is one of a piece
pub record IsInPiece (piece : Piece) (unit : ℕ) : Type 0 where
  pub first : piece.offset ≤ BLOCK_BYTES * unit
  pub last : BLOCK_BYTES * unit < piece.offset + piece.size

-- the bytes of a request for a block of a piece, among all its bytes
abbrev pub bytes_for : List ℕ → Piece → ℕ → List ℕ
bytes_for bytes piece unit = piece_at bytes (piece.place + (BLOCK_BYTES * unit - piece.offset)) BLOCK_BYTES

-- the pieces that a request has still to write, those of a write alone, with its bytes
abbrev pub left_of_ask : ℕ → DiskAsk → List Piece
left_of_ask shift (Read offset size) = []
left_of_ask shift (Write offset payload) = pieces shift offset (length payload)

-- the bytes that a request writes
abbrev pub payload_in : DiskAsk → List ℕ
payload_in (Read offset size) = []
payload_in (Write offset payload) = payload

-- the pieces that a driver has still to write
abbrev pub left_of_driver : Driver → List Piece
left_of_driver (Reads told piece rest) = []
left_of_driver (Writes payload stage piece rest) = piece ∷ rest
left_of_driver Answered = []

-- the bytes that a driver writes
abbrev pub driver_payload : Driver → List ℕ
driver_payload (Reads told piece rest) = []
driver_payload (Writes payload stage piece rest) = payload
driver_payload Answered = []

-- the pieces that a read or write has still to write, by where it is
abbrev pub left_to_write : ℕ → Course → List Piece
left_to_write shift (Waiting ask) = left_of_ask shift ask
left_to_write shift (Driving driver) = left_of_driver driver
left_to_write shift (Commanding op) = []
left_to_write shift (Checking check) = []
left_to_write shift (DoingWork work) = []
left_to_write shift (AwaitingDecision entry) = []

-- the bytes that a request writes, by where it is
abbrev pub payload_at : Course → List ℕ
payload_at (Waiting ask) = payload_in ask
payload_at (Driving driver) = driver_payload driver
payload_at (Commanding op) = []
payload_at (Checking check) = []
payload_at (DoingWork work) = []
payload_at (AwaitingDecision entry) = []

-- a request of a node, on the disk that its session has open, which is there by the history
pub record IsOn (ledger : Ledger) (node : Node) (req : ℕ) (request : Request) (opened : Disk) (disk : histories.Disk) : Type 0 where
  pub there : tree.get node.requests req ≡ Some request
  pub on : (session_at request.session node).disk ≡ Some opened
  pub known : ledger.disks opened.inode.vid ≡ Some disk

-- a request's open item of these bytes is among those by which a block may be read
pub record HasItem (items : List Item) (req : ℕ) (bytes : List ℕ) : Type 0 where
  pub place : ℕ
  pub item : Item
  pub among : slice_get (standing items) place ≡ Some item
  pub of : item.request ≡ Some req
  pub mark : item.mark ≡ Open
  pub same : item.bytes ≡ bytes

-- what a request has still to write has its items
pub record WritesHaveItems (ledger : Ledger) (hosts : Hosts) : Type 0 where
  pub each : EachUp hosts (λ n node. (req place unit : ℕ) (request : Request) (opened : Disk) (disk : histories.Disk) (piece : Piece)
      → IsOn ledger node req request opened disk → slice_get (left_to_write opened.inode.spec.shift request.course) place ≡ Some piece
      → IsInPiece piece unit
      → HasItem (items_at disk opened.inode.spec piece.index unit) req (bytes_for (payload_at request.course) piece unit))

-- what a write has behind it is all that its blocks may be read as: in the disk's own object, by the entry, and by each attempt
pub record WhatIsWrittenIsAlone (ledger : Ledger) (effects : List Effect) (good_id : ℕ
    → Bool) (hosts : Hosts) (attempts : List AttemptRecord) : Type 0 where
  pub entry : EachUp hosts (λ n node. (req index unit place : ℕ) (request : Request) (opened : Disk) (disk : histories.Disk) (item : Item)
      (payload : List ℕ) (stage : DriverStage) (piece : Piece) (rest : List Piece) → IsOn ledger node req request opened disk
      → request.course ≡ Driving (Writes payload stage piece rest) → index < piece.index
      → IsBlockOfDisk ledger effects good_id opened.inode.vid disk opened.inode.spec index unit
      → slice_get (items_at disk opened.inode.spec index unit) place ≡ Some item → is_item_of req item ≡ true
      → AreAmong (opened.inode.vid ∷ []) (candidates attempts opened.inode.vid index))
  pub bytes : EachUp hosts (λ n node. (req index unit place : ℕ) (request : Request) (opened : Disk) (disk : histories.Disk) (item : Item)
      (payload : List ℕ) (stage : DriverStage) (piece : Piece) (rest : List Piece) → IsOn ledger node req request opened disk
      → request.course ≡ Driving (Writes payload stage piece rest) → index < piece.index
      → IsBlockOfDisk ledger effects good_id opened.inode.vid disk opened.inode.spec index unit
      → slice_get (items_at disk opened.inode.spec index unit) place ≡ Some item → is_item_of req item ≡ true
      → list_all (λ (attempt : AttemptRecord). bytes_eq item.bytes (bytes_by unit attempt.work))
      (outcomes_in hosts attempts opened.inode.vid opened.inode.vid index unit) ≡ true)

-- what a read was told so far is as long as its pieces were, and may be read of their blocks, unless one is torn
pub record WhatIsReadMayBeRead (ledger : Ledger) (effects : List Effect) (good_id : ℕ → Bool) (hosts : Hosts) : Type 0 where
  pub long : EachUp hosts (λ n node. (req : ℕ) (request : Request) (told : List ℕ) (piece : Piece) (rest : List Piece)
      → tree.get node.requests req ≡ Some request → request.course ≡ Driving (Reads told piece rest) → length told ≡ piece.place)
  pub bytes : EachUp hosts (λ n node. (req offset size place unit : ℕ) (request : Request) (opened : Disk) (disk : histories.Disk)
      (told : List ℕ) (piece : Piece) (rest before : List Piece) (one : Piece) → IsOn ledger node req request opened disk
      → request.course ≡ Driving (Reads told piece rest) → pieces opened.inode.spec.shift offset size ≡ before ++ piece ∷ rest
      → slice_get before place ≡ Some one → IsInPiece one unit
      → IsBlockOfDisk ledger effects good_id opened.inode.vid disk opened.inode.spec one.index unit
      → (is_torn (items_at disk opened.inode.spec one.index unit) ≡ true)
      ⊎ (is_allowed (items_at disk opened.inode.spec one.index unit) (bytes_for told one unit) ≡ true))
