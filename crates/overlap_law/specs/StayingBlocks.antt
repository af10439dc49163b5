-- What may be read of a block whichever requests are refused; that what a block may come to be read as is among it; and how a history may
-- grow so that it stays so.
use Rattle.std.specs.Prelude.{◌≡◌, ◌≢◌, ◌⊎◌, ℕ, ◌+◌, ◌*◌, ◌<◌, ◌==◌, ◌&&◌, not, Bool, true, false, List, [], ◌∷◌, ◌++◌, slice_get, Option}
use Rattle.std.specs.Prelude.{Some, None}
use Rattle.std.specs.FinMap as tree
use Rattle.std.specs.List.{list_all, list_any}
use Rattle.std.specs.Str.{bytes_eq}
use Rattle.object_id.specs.declared.entry.VdiSpec.{VdiSpec}
use Rattle.object_id.specs.declared.limits.TheConstants.{BLOCK_BYTES}
use Rattle.object_id.specs.Fields.{zeros}
use Rattle.object_id.specs.Oid.{inode_number, object_number}
use Rattle.object_id.specs.Spec.{objects_of}
use Rattle.disk_history.specs.declared.event.HistEvent.{HistEvent}
use Rattle.disk_history.specs.declared.event.HistEvent.TheVariants.{Create, Copy, Delete, WriteStart, WriteDone, WriteRefused, WriterLost}
use Rattle.disk_history.specs.declared.event.HistEvent.TheVariants.{Read}
use Rattle.disk_history.specs.Ledger.{Item, Open, Disk, Ledger, is_item_of, ledger_after}
use Rattle.disk_history.specs.Legal.{standing, is_acknowledged}
use Rattle.disk_history.specs.Changes.{items_in, ended_request}
use Rattle.vdi_directory.specs.declared.effect.Effect.{Effect}
use Rattle.vdi_directory.specs.Dead.{is_dead}
use Rattle.vdi_directory.specs.Decisions.{log_effects}
use Rattle.vdi_directory.specs.States.{state_of, is_live_state}
use Rattle.peer_proto.specs.Work.{oid_of}
use Rattle.gateway.specs.State.{Work}
use Rattle.overlap_law.specs.Attempts.{AttemptRecord, object_of}
use Rattle.overlap_law.specs.Words.{Hosts, is_mute, covers_unit, bytes_by}
use Rattle.overlap_law.specs.Units.{covers_by}
use Rattle.overlap_law.specs.Each.{EachUp, EachAttempt, spec_in}
use Rattle.overlap_law.specs.Grants.{publishes}
use Rattle.overlap_law.specs.Headline.{ledger_of}
use Rattle.overlap_law.specs.Past.{MomentWithPast}
use Rattle.overlap_law.specs.Tables.{entry_unit, entry_by}
use Rattle.overlap_law.specs.ToCome.{comes_to_nothing, IsToCome, IsEntryToCome}
use Rattle.overlap_law.specs.WrittenBlocks.{blocks_per_object, items_at, is_torn_here}

-- ---- what may be read of a block

-- a message of a request was served, so it isn't refused any more
pub record WasServed (attempts : List AttemptRecord) (req : ℕ) : Type 0 where
  pub place : ℕ
  pub attempt : AttemptRecord
  pub there : slice_get attempts place ≡ Some attempt
  pub of : attempt.req ≡ req
  pub served : is_mute attempt ≡ false

-- an item stays, whichever requests are refused: it is of none, or was acknowledged, or a message of its request was served
abbrev pub Stays : List AttemptRecord → Item → Type 0
Stays attempts item =
    (item.request ≡ None) ⊎ ((is_acknowledged item ≡ true) ⊎ ((req : ℕ) × (item.request ≡ Some req) × WasServed attempts req))

-- bytes may be read of a block by an item that stays, or by one of the request that has them
pub record MayStay (attempts : List AttemptRecord) (items : List Item) (by : Option ℕ) (bytes : List ℕ) : Type 0 where
  pub place : ℕ
  pub item : Item
  pub among : slice_get (standing items) place ≡ Some item
  pub same : bytes_eq item.bytes bytes ≡ true
  pub stays : (item.request ≡ by) ⊎ Stays attempts item

-- an entry of a disk's inode may come to name this object's id, or the id is the disk's own
abbrev pub IsHomeToCome : Hosts → List AttemptRecord → ℕ → ℕ → ℕ → Type 0
IsHomeToCome hosts attempts vid index home =
    ((j : ℕ) × (entry : AttemptRecord) × IsEntryToCome hosts attempts vid index j entry × (entry_by index entry ≡ home)) ⊎ (home ≡ vid)

-- a block of a disk that the history has, also of a deleted one, as long as its id isn't dead: a clone may still be made of it
pub record IsBlockOfAnyDisk (ledger : Ledger) (effects : List Effect) (good_id : ℕ
    → Bool) (vid : ℕ) (disk : Disk) (spec : VdiSpec) (index unit : ℕ) : Type 0 where
  pub there : ledger.disks vid ≡ Some disk
  pub alive : is_dead effects vid ≡ false
  pub good : good_id vid ≡ true
  pub made_with : spec_in effects vid ≡ Some spec
  pub object : index < objects_of spec
  pub inside : unit < blocks_per_object spec
  pub block : index * blocks_per_object spec + unit < disk.blocks

-- what a block may come to be read as may be read of it, whichever requests are refused
pub record BlocksStayWritten (ledger : Ledger) (effects : List Effect) (good_id : ℕ
    → Bool) (hosts : Hosts) (attempts : List AttemptRecord) : Type 0 where
  -- a hole is read as zeros
  pub holes : (vid index unit : ℕ) (disk : Disk) (spec : VdiSpec) → IsBlockOfAnyDisk ledger effects good_id vid disk spec index unit
      → (j : ℕ) (entry : AttemptRecord) → IsEntryToCome hosts attempts vid index j entry → entry_by index entry ≡ 0
      → MayStay attempts (items_at disk spec index unit) None (zeros BLOCK_BYTES)
  -- and of an object that may come to be read each attempt has bytes that may
  pub each : (vid index unit : ℕ) (disk : Disk) (spec : VdiSpec) → IsBlockOfAnyDisk ledger effects good_id vid disk spec index unit
      → is_torn_here spec (items_at disk spec index unit) ≡ false → (home : ℕ) → IsHomeToCome hosts attempts vid index home → home ≢ 0
      → (j : ℕ) (attempt : AttemptRecord) → IsToCome hosts attempts (object_number home index) unit j attempt
      → MayStay attempts (items_at disk spec index unit) (Some attempt.req) (bytes_by unit attempt.work)

-- ---- the works that begin

-- what an open work of a request would make of a block of a disk's own object may be read of it, whichever requests are refused
pub record WorksMayStay (ledger : Ledger) (effects : List Effect) (good_id : ℕ
    → Bool) (hosts : Hosts) (attempts : List AttemptRecord) : Type 0 where
  pub each : EachUp hosts (λ n node. (req vid index unit : ℕ) (work : Work) (disk : Disk) (spec : VdiSpec)
      → tree.get node.gateway.works req ≡ Some work → oid_of work.work ≡ object_number vid index
      → IsBlockOfAnyDisk ledger effects good_id vid disk spec index unit → covers_by unit work.work ≡ true
      → is_torn_here spec (items_at disk spec index unit) ≡ false
      → MayStay attempts (items_at disk spec index unit) (Some req) (bytes_by unit work.work))

-- a good id isn't dead, and its inode has an entry of the index
pub record HasEntryOf (effects : List Effect) (good_id : ℕ → Bool) (vid index : ℕ) : Type 0 where
  pub alive : is_dead effects vid ≡ false
  pub good : good_id vid ≡ true
  pub spec : VdiSpec
  pub made_with : spec_in effects vid ≡ Some spec
  pub object : index < objects_of spec

-- an attempt that begins between two moments gives the inode of a published id the id itself, or an entry that it might come to have before
pub record EntersWhatMayCome (good_id : ℕ → Bool) (before after : MomentWithPast) : Type 0 where
  pub enters : (attempt : AttemptRecord) → after.past.attempts ≡ before.past.attempts ++ attempt ∷ [] → (vid index : ℕ)
      → list_any (publishes vid) (log_effects after.world.log) ≡ true → HasEntryOf (log_effects after.world.log) good_id vid index
      → object_of attempt ≡ inode_number vid → covers_unit (entry_unit index) attempt ≡ true
      → (entry_by index attempt ≡ vid)
      ⊎ ((j : ℕ) × (entry : AttemptRecord) × IsEntryToCome before.world.hosts before.past.attempts vid index j entry
      × (entry_by index entry ≡ entry_by index attempt))

-- ---- how a history may grow

-- as long as a request hasn't ended its items are open
pub record ItemsAreOpen (ledger : Ledger) : Type 0 where
  pub each : (req disk block place : ℕ) (item : Item) → (ledger.requests req).ended ≡ false
      → slice_get (items_in (ledger.disks disk) block) place ≡ Some item → is_item_of req item ≡ true → item.mark ≡ Open

-- nothing may come to be read yet of a new disk: its inode has holes alone, and its own objects nothing
pub record IsMadeBlank (effects : List Effect) (good_id : ℕ
    → Bool) (hosts : Hosts) (attempts : List AttemptRecord) (vid : ℕ) : Type 0 where
  pub entry : (index j : ℕ) (entry : AttemptRecord) → HasEntryOf effects good_id vid index
      → IsEntryToCome hosts attempts vid index j entry → entry_by index entry ≡ 0
  pub own : (index unit j : ℕ) (attempt : AttemptRecord) → HasEntryOf effects good_id vid index
      → IsToCome hosts attempts (object_number vid index) unit j attempt → ⊥

-- a new disk is like another one: each of its blocks is one of that, its inode may come to have what that has, and its own objects nothing
pub record IsMadeLike (effects : List Effect) (good_id : ℕ
    → Bool) (hosts : Hosts) (attempts : List AttemptRecord) (ledger : Ledger) (old new : ℕ) : Type 0 where
  pub block : (index unit : ℕ) (disk : Disk) (spec : VdiSpec)
      → IsBlockOfAnyDisk (ledger_after ledger (Copy old new)) effects good_id new disk spec index unit
      → (was : Disk) × IsBlockOfAnyDisk ledger effects good_id old was spec index unit
  pub entry : (index j : ℕ) (entry : AttemptRecord) → HasEntryOf effects good_id new index
      → IsEntryToCome hosts attempts new index j entry
      → (i : ℕ) × (other : AttemptRecord) × IsEntryToCome hosts attempts old index i other × (entry_by index other ≡ entry_by index entry)
  pub own : (index unit j : ℕ) (attempt : AttemptRecord) → HasEntryOf effects good_id new index
      → IsToCome hosts attempts (object_number new index) unit j attempt → ⊥

-- where a block has an item of a request that stands, the disk's inode may come to have its own id alone, and each attempt on the block
-- that may come to be read has the item's bytes
pub record IsAloneWhereWritten (effects : List Effect) (good_id : ℕ
    → Bool) (hosts : Hosts) (attempts : List AttemptRecord) (ledger : Ledger) (req : ℕ) : Type 0 where
  pub entry : (vid index unit place : ℕ) (disk : Disk) (spec : VdiSpec) (item : Item)
      → IsBlockOfAnyDisk ledger effects good_id vid disk spec index unit
      → slice_get (standing (items_at disk spec index unit)) place ≡ Some item → is_item_of req item ≡ true
      → (j : ℕ) (entry : AttemptRecord) → IsEntryToCome hosts attempts vid index j entry → entry_by index entry ≡ vid
  pub bytes : (vid index unit place : ℕ) (disk : Disk) (spec : VdiSpec) (item : Item)
      → IsBlockOfAnyDisk ledger effects good_id vid disk spec index unit
      → slice_get (standing (items_at disk spec index unit)) place ≡ Some item → is_item_of req item ≡ true
      → (j : ℕ) (attempt : AttemptRecord) → IsToCome hosts attempts (object_number vid index) unit j attempt
      → bytes_eq item.bytes (bytes_by unit attempt.work) ≡ true

-- each attempt of a request is mute, and comes to nothing
abbrev pub ComesToNothing : Hosts → List AttemptRecord → ℕ → Type 0
ComesToNothing hosts attempts req = EachAttempt attempts (λ j attempt. attempt.req ≡ req
    → (is_mute attempt ≡ true) × (comes_to_nothing hosts attempt ≡ true))

-- what has to hold of an event that a history gets next
abbrev pub KeepsBlocks : List Effect → (ℕ → Bool) → Hosts → List AttemptRecord → Ledger → HistEvent → Type 0
KeepsBlocks effects good_id hosts attempts ledger (Create disk blocks) = IsMadeBlank effects good_id hosts attempts disk
KeepsBlocks effects good_id hosts attempts ledger (Copy old new) = IsMadeLike effects good_id hosts attempts ledger old new
KeepsBlocks effects good_id hosts attempts ledger (Delete disk) = Unit {0}
KeepsBlocks effects good_id hosts attempts ledger (WriteStart req disk block coded bytes) = Unit {0}
KeepsBlocks effects good_id hosts attempts ledger (WriteDone req) = IsAloneWhereWritten effects good_id hosts attempts ledger req
KeepsBlocks effects good_id hosts attempts ledger (WriteRefused req) =
    ((ledger.requests req).ended ≡ false) × ComesToNothing hosts attempts req
KeepsBlocks effects good_id hosts attempts ledger (WriterLost req) = (ledger.requests req).ended ≡ false
KeepsBlocks effects good_id hosts attempts ledger (Read disk block bytes) = Unit {0}

-- and of several, one after the other
abbrev pub AllKeepBlocks : List Effect → (ℕ → Bool) → Hosts → List AttemptRecord → Ledger → List HistEvent → Type 0
AllKeepBlocks effects good_id hosts attempts ledger [] = Unit {0}
AllKeepBlocks effects good_id hosts attempts ledger (event ∷ events) =
    KeepsBlocks effects good_id hosts attempts ledger event
    × AllKeepBlocks effects good_id hosts attempts (ledger_after ledger event) events

-- whether an event ends a request, or reads a block: so do those that a reply adds
abbrev pub ends_or_reads : HistEvent → Bool
ends_or_reads (Create disk blocks) = false
ends_or_reads (Copy old new) = false
ends_or_reads (Delete disk) = false
ends_or_reads (WriteStart req disk block coded bytes) = false
ends_or_reads (WriteDone req) = true
ends_or_reads (WriteRefused req) = true
ends_or_reads (WriterLost req) = true
ends_or_reads (Read disk block bytes) = true

-- whether two requests that end, if they do, are two
abbrev pub are_two : Option ℕ → Option ℕ → Bool
are_two None other = true
are_two (Some one) None = true
are_two (Some one) (Some other) = not (one == other)

-- whether two events end two requests, or read blocks
abbrev pub are_apart : HistEvent → HistEvent → Bool
are_apart first second = ends_or_reads first && (ends_or_reads second && are_two (ended_request first) (ended_request second))

-- a history gets events that keep it, at its end, or before such as end other requests
pub record GrowsKeeping (effects : List Effect) (good_id : ℕ
    → Bool) (hosts : Hosts) (attempts : List AttemptRecord) (history later : List HistEvent) : Type 0 where
  pub front : List HistEvent
  pub added : List HistEvent
  pub back : List HistEvent
  pub were : history ≡ front ++ back
  pub now : later ≡ front ++ added ++ back
  pub keep : AllKeepBlocks effects good_id hosts attempts (ledger_of history) added
  pub apart : list_all (λ (one : HistEvent). list_all (are_apart one) back) added ≡ true

-- ---- the log

-- the disks that the history has, and that aren't deleted, are there by the log
pub record DisksAreLive (ledger : Ledger) (effects : List Effect) : Type 0 where
  pub each : (vid : ℕ) (disk : Disk) → ledger.disks vid ≡ Some disk → disk.deleted ≡ false → is_live_state (state_of effects vid) ≡ true

-- the disks that the history has, deleted or not, were published
pub record DisksArePublished (ledger : Ledger) (effects : List Effect) : Type 0 where
  pub each : (vid : ℕ) (disk : Disk) → ledger.disks vid ≡ Some disk → list_any (publishes vid) effects ≡ true

-- the inodes of the good ids that were published and aren't dead are called live
pub record InodesAreLive (effects : List Effect) (live good_id : ℕ → Bool) : Type 0 where
  pub each : (vid : ℕ) → list_any (publishes vid) effects ≡ true → is_dead effects vid ≡ false → good_id vid ≡ true
      → live (inode_number vid) ≡ true
