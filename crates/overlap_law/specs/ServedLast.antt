-- An attempt that was served stays one by which a unit may come to be read, or a later one comes that is as it is: where each behind it is
-- as it may be, or doomed. So are the entries of an inode that a command writes back, as its disk is opened.
use Rattle.std.specs.Prelude.{◌≡◌, ◌⊎◌, ℕ, ◌<◌, ◌++◌, ◌==◌, Bool, true, false, List, [], ◌∷◌, slice_get}
use Rattle.std.specs.Prelude.{◌*◌, slice_index, Some}
use Rattle.std.specs.Str.{bytes_eq}
use Rattle.std.specs.FinMap as tree
use Rattle.object_id.specs.declared.entry.Entry.{Entry}
use Rattle.object_id.specs.declared.entry.VdiSpec.{VdiSpec}
use Rattle.object_id.specs.declared.limits.TheConstants.{OBJECTS_MAX, BLOCK_BYTES}
use Rattle.object_id.specs.declared.oid.Kind.TheVariants.{Block}
use Rattle.object_id.specs.declared.oid.Vid.{Vid}
use Rattle.object_id.specs.Oid.{IsVid, inode_number, object_number}
use Rattle.object_id.specs.Spec.{objects_of}
use Rattle.object_store.specs.Bytes.{piece_at}
use Rattle.gf256.specs.Part.{is_in_strips}
use Rattle.inode.specs.Layout.{Content}
use Rattle.vdi_directory.specs.declared.effect.Effect.{Effect}
use Rattle.vdi_directory.specs.Dead.{is_dead}
use Rattle.vdi_directory.specs.Decisions.{log_effects}
use Rattle.vdi_ops.specs.Op.{WritingBack, Working, Op}
use Rattle.sheep_node.specs.declared.course.Course.TheVariants.{Commanding}
use Rattle.sheep_node.specs.declared.course.Request.{Request}
use Rattle.peer_proto.specs.declared.work.ObjWork.{ObjWork}
use Rattle.overlap_law.specs.Attempts.{AttemptRecord, object_of}
use Rattle.overlap_law.specs.CreatedPieces.{OfFetched}
use Rattle.overlap_law.specs.Each.{EachUp, EachAttempt}
use Rattle.overlap_law.specs.LastReads.{was_snapped}
use Rattle.overlap_law.specs.Past.{MomentWithPast}
use Rattle.overlap_law.specs.Tables.{entry_unit}
use Rattle.overlap_law.specs.ToCome.{IsToCome}
use Rattle.overlap_law.specs.ToDo.{entry_made}
use Rattle.overlap_law.specs.Words.{Hosts, is_mute, is_doomed, covers_unit, bytes_by}
use Rattle.overlap_law.specs.WrittenBlocks.{blocks_per_object}

-- of an object's unit, by two tests of works: an attempt on it that some target served is so, and each behind it may be there, or is doomed
pub record IsServedLast (so may : ObjWork → Bool) (hosts : Hosts) (attempts : List AttemptRecord) (oid unit : ℕ) : Type 0 where
  pub place : ℕ
  pub one : AttemptRecord
  pub there : slice_get attempts place ≡ Some one
  pub object : object_of one ≡ oid
  pub covers : covers_unit unit one ≡ true
  pub served : is_mute one ≡ false
  pub is : so one.work ≡ true
  pub later : EachAttempt attempts (λ k other. place < k → object_of other ≡ oid → covers_unit unit other ≡ true
      → (is_doomed hosts other ≡ true) ⊎ (may other.work ≡ true))

-- the unit may come to be read by an attempt that is so
pub record IsOneToCome (so : ObjWork → Bool) (hosts : Hosts) (attempts : List AttemptRecord) (oid unit : ℕ) : Type 0 where
  pub place : ℕ
  pub one : AttemptRecord
  pub to_come : IsToCome hosts attempts oid unit place one
  pub is : so one.work ≡ true

-- what begins on the unit between two moments is so
abbrev pub BeginsSo : (ObjWork → Bool) → MomentWithPast → MomentWithPast → ℕ → ℕ → Type 0
BeginsSo so before after oid unit = (attempt : AttemptRecord) → after.past.attempts ≡ before.past.attempts ++ attempt ∷ []
    → object_of attempt ≡ oid → covers_unit unit attempt ≡ true → so attempt.work ≡ true

-- a work gives the entry of an index this value
abbrev pub gives_value : ℕ → ℕ → ObjWork → Bool
gives_value index value work = entry_made index work == value

-- what a command writes back to the inode of a good id, as its disk is opened, is so of each entry: what was read was served, and each
-- attempt behind it gives the entry the same value, or is doomed
pub record WrittenBackWasServed (effects : List Effect) (good_id : ℕ → Bool) (hosts : Hosts) (attempts : List AttemptRecord) : Type 0 where
  pub each : EachUp hosts (λ n node. (req index : ℕ) (request : Request) (op : Op) (vid : Vid) (inode : Content)
      → tree.get node.requests req ≡ Some request → request.course ≡ Commanding op → op.stage ≡ Working vid (WritingBack inode)
      → good_id inode.vid ≡ true → is_dead effects inode.vid ≡ false → index < objects_of inode.spec
      → IsServedLast (gives_value index (slice_index inode.table index)) (gives_value index (slice_index inode.table index)) hosts attempts
      (inode_number inode.vid) (entry_unit index))

-- ---- what a write reads of another disk's object

-- a work makes a unit so
abbrev pub makes_unit : ℕ → List ℕ → ObjWork → Bool
makes_unit unit bytes work = bytes_eq bytes (bytes_by unit work)

-- no work does
abbrev pub no_work : ObjWork → Bool
no_work work = false

-- what a write of a good disk of whole copies read of another disk's object, which became a snapshot: each block was served so, and each
-- attempt behind it is doomed
pub record IsReadOfSnapshot (log : List Entry) (hosts : Hosts) (attempts : List AttemptRecord) (spec : VdiSpec) (home index : ℕ)
    (bytes : List ℕ) : Type 0 where
  pub id : IsVid home
  pub few : index < OBJECTS_MAX
  pub snapped : was_snapped log home ≡ true
  pub served : (unit : ℕ) → unit < blocks_per_object spec
      → IsServedLast (makes_unit unit (piece_at bytes (BLOCK_BYTES * unit) BLOCK_BYTES)) no_work hosts attempts (object_number home index)
      unit

abbrev pub IsFetchedServed : List Entry → (ℕ → Bool) → Hosts → List AttemptRecord → OfFetched
IsFetchedServed log good_id hosts attempts vid spec home index bytes =
    good_id vid ≡ true → is_dead (log_effects log) vid ≡ false → is_in_strips spec.policy Block ≡ false
    → IsReadOfSnapshot log hosts attempts spec home index bytes
