-- What is to be published: from where the table of its inode is, and that the inode was created.
use Rattle.std.specs.Prelude.{◌≡◌, ℕ, ◌<◌, Bool, true, List, [], ◌∷◌, slice_get, slice_index, Option, Some, None}
use Rattle.std.specs.FinMap as tree
use Rattle.object_id.specs.declared.oid.Vid.{Vid}
use Rattle.object_id.specs.declared.entry.Entry.{Entry}
use Rattle.object_id.specs.declared.entry.VdiSpec.{VdiSpec}
use Rattle.object_id.specs.declared.entry.Entry.TheVariants.{Format, Join, Leave, Reweight, Recovered, Reserve, Publish, Clone}
use Rattle.object_id.specs.declared.entry.Entry.TheVariants.{Snapshot, Delete, Lock, Unlock}
use Rattle.object_id.specs.Oid.{inode_number}
use Rattle.object_id.specs.Spec.{objects_of}
use Rattle.inode.specs.Layout.{Content}
use Rattle.vdi_ops.specs.Op.{Publishing, Op}
use Rattle.sheep_node.specs.declared.course.Request.{Request}
use Rattle.sheep_node.specs.declared.course.Course.TheVariants.{Commanding}
use Rattle.overlap_law.specs.Attempts.{AttemptRecord}
use Rattle.overlap_law.specs.Reached.{Hosts}
use Rattle.overlap_law.specs.Each.{EachUp, spec_in}
use Rattle.overlap_law.specs.Fates.{IsCreated}
use Rattle.overlap_law.specs.Tables.{AreAmong, candidates}
use Rattle.vdi_directory.specs.declared.effect.Effect.{Effect}
use Rattle.vdi_directory.specs.declared.effect.Reservation.{Reservation}
use Rattle.vdi_directory.specs.Effects.{reservations_of, reservation_on}
use Rattle.vdi_directory.specs.References.{parent_of}
use Rattle.overlap_law.specs.WrittenBlocks.{IsCandidate}

-- an entry of a new id's inode: one that may be read of the inode of what it is made from, and of a new disk a hole
abbrev pub IsDrawnFrom : List AttemptRecord → ℕ → ℕ → Option Vid → Type 0
IsDrawnFrom attempts index entry None = entry ≡ 0
IsDrawnFrom attempts index entry (Some parent) = IsCandidate attempts parent.0 index entry

-- a good id is reserved, and its inode has an entry of the index
pub record IsReservedEntry (effects : List Effect) (good_id : ℕ → Bool) (vid index : ℕ) : Type 0 where
  pub reservation : Reservation
  pub stands : reservation_on (record { 0 = vid }) (reservations_of effects) ≡ Some reservation
  pub good : good_id vid ≡ true
  pub spec : VdiSpec
  pub made_with : spec_in effects vid ≡ Some spec
  pub within : index < objects_of spec

-- what may be read of a reserved id's inode is so drawn. It is not said of each attempt: where the create of an inode that is to take the
-- place of a disk was refused everywhere, the session may enter objects of that disk before it has given the id back
pub record ReservedInodesAreDrawn (effects : List Effect) (good_id : ℕ → Bool) (attempts : List AttemptRecord) : Type 0 where
  pub each : (vid index entry : ℕ) → IsReservedEntry effects good_id vid index → IsCandidate attempts vid index entry
      → IsDrawnFrom attempts index entry (parent_of effects vid)

-- the id that an entry publishes
abbrev pub published_by : Entry → Option Vid
published_by (Format members) = None
published_by (Join node zone vnodes) = None
published_by (Leave node) = None
published_by (Reweight node vnodes) = None
published_by (Recovered node epoch) = None
published_by (Reserve by session name origin) = None
published_by (Publish by vid) = Some vid
published_by (Clone by vid) = Some vid
published_by (Snapshot by old vid) = Some vid
published_by (Delete by session name tag) = None
published_by (Lock by session name tag) = None
published_by (Unlock by session vid) = None

-- the inode of an id that is to be published was created; and the one that the session then has open has its table alone
pub record WhatIsPublishedIsCreated (good_id : ℕ → Bool) (hosts : Hosts) (attempts : List AttemptRecord) : Type 0 where
  pub created : EachUp hosts (λ n node. (place : ℕ) (entry : Entry) (vid : Vid) → slice_get node.outbox place ≡ Some entry
      → published_by entry ≡ Some vid → IsCreated attempts (inode_number vid.0) node.peer.epoch)
  pub table : EachUp hosts (λ n node. (req index : ℕ) (request : Request) (op : Op) (entry : Entry) (inode : Content)
      → tree.get node.requests req ≡ Some request → request.course ≡ Commanding op → op.stage ≡ Publishing entry (Some inode)
      → good_id inode.vid ≡ true → index < objects_of inode.spec
      → AreAmong (slice_index inode.table index ∷ []) (candidates attempts inode.vid index))
