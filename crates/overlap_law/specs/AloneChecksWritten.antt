-- What checks have begun to write, in the form that each change keeps: a value is being written over its object, or the last attempt on the
-- object wrote it.
use Rattle.std.specs.Prelude.{◌≡◌, ℕ, ◌+◌, ◌*◌, ◌^◌, ◌<◌, true, Bool, List, length, Contains, Some}
use Rattle.std.specs.FinMap as tree
use Rattle.object_id.specs.declared.entry.VdiSpec.{VdiSpec}
use Rattle.object_id.specs.declared.limits.TheConstants.{OBJECTS_MAX}
use Rattle.disk_check.specs.Check.{Check, Comparing, WritingBack, left_of, write_value}
use Rattle.disk_check.specs.Table.{own_indexes}
use Rattle.disk_history.specs.declared.event.HistEvent.{HistEvent}
use Rattle.disk_history.specs.declared.event.HistEvent.TheVariants.{WriteStart}
use Rattle.peer_proto.specs.declared.work.ObjWork.{ObjWork}
use Rattle.gateway.specs.Work.{is_making}
use Rattle.guest_driver.specs.declared.disk.Disk.{Disk}
use Rattle.guest_driver.specs.Pieces.{Piece}
use Rattle.sheep_node.specs.declared.course.Course.TheVariants.{Checking}
use Rattle.sheep_node.specs.declared.course.Request.{Request}
use Rattle.sheep_node.specs.State.{Node, session_at}
use Rattle.sheep_node.specs.WantedWorks.{HasWork}
use Rattle.overlap_law.specs.Attempts.{AttemptRecord}
use Rattle.overlap_law.specs.Each.{EachUp}
use Rattle.overlap_law.specs.Units.{bytes_by}
use Rattle.overlap_law.specs.Words.{Hosts}
use Rattle.overlap_law.specs.WrittenBlocks.{blocks_per_object}
use Rattle.overlap_law.specs.WrittenPieces.{IsWrittenAlone}

-- the own object of an index, as a piece of the value that a check writes over the whole of it
abbrev pub whole_object : VdiSpec → ℕ → Piece
whole_object spec index = record { index = index; offset = 0; place = 0; size = 2 ^ spec.shift }

-- what a check's request has to make is a value over the object of an index, and nothing else
abbrev pub MakesOnly : Node → ℕ → Check → ℕ → List ℕ → Type 0
MakesOnly node req check index value = (work : ObjWork) → HasWork req work node.gateway.works node.sessions → is_making work ≡ true
    → work ≡ write_value check index value

-- it has to write no value over the object
abbrev pub MakesNone : Node → ℕ → Check → ℕ → Type 0
MakesNone node req check index = (value : List ℕ) → HasWork req (write_value check index value) node.gateway.works node.sessions → ⊥

-- a value that a check has begun to write over the object of an index: the check comes to the write, if that may be; or it is being
-- written; or the last attempt on the object wrote it, and no other value is to be written there
pub data IsWritten (Comes : Type 0) (attempts : List AttemptRecord) (node : Node) (req : ℕ) (check : Check) (index : ℕ) (value : List ℕ)
    : Type 0 where
  WillBeWritten : (later : List ℕ) → check.stage ≡ Comparing index later → Comes → IsWritten Comes attempts node req check index value
  IsBeingWritten : (later : List ℕ) → check.stage ≡ WritingBack later → (Contains later index → ⊥) → MakesOnly node req check index value
      → IsWritten Comes attempts node req check index value
  WasWritten : (Contains (left_of check.stage) index → ⊥) → MakesNone node req check index
      → IsWrittenAlone attempts check.vid value (whole_object check.spec index) → IsWritten Comes attempts node req check index value

-- a block of which a check has begun a write with these bytes is one of an own object of its disk, and has the bytes of a value that is so
pub record IsOfValue (Comes : ℕ → List ℕ → Type 0) (attempts : List AttemptRecord) (node : Node) (opened : Disk) (req : ℕ) (check : Check)
    (block : ℕ) (bytes : List ℕ) : Type 0 where
  pub index : ℕ
  pub unit : ℕ
  pub value : List ℕ
  pub vid : check.vid ≡ opened.inode.vid
  pub spec : check.spec ≡ opened.inode.spec
  pub own : Contains (own_indexes opened.inode) index
  pub few : index < OBJECTS_MAX
  pub long : length value ≡ 2 ^ check.spec.shift
  pub inside : unit < blocks_per_object check.spec
  pub at : block ≡ index * blocks_per_object check.spec + unit
  pub same : bytes ≡ bytes_by unit (write_value check index value)
  pub is : IsWritten (Comes index value) attempts node req check index value

-- each block of which a check at a node that isn't lost has begun a write is so, where a check may come to a write so
pub record ChecksHaveWritten (Comes : ℕ → ℕ → ℕ → List ℕ → Type 0) (history : List HistEvent) (hosts : Hosts)
    (attempts : List AttemptRecord) : Type 0 where
  pub each : EachUp hosts (λ n node. (req vid block : ℕ) (coded : Bool) (bytes : List ℕ) (request : Request) (opened : Disk) (check : Check)
      → tree.get node.requests req ≡ Some request → (session_at request.session node).disk ≡ Some opened
      → request.course ≡ Checking check → Contains history (WriteStart req vid block coded bytes)
      → IsOfValue (Comes n req) attempts node opened req check block bytes)

-- none comes to one at the end of an event
abbrev pub NoneComes : ℕ → ℕ → ℕ → List ℕ → Type 0
NoneComes n req index value = ⊥
