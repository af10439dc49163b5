-- What a history tells in its events alone: the writes of each block, and what became of each request.
use Rattle.std.specs.Prelude.{◌≡◌, ℕ, ◌==◌, ◌<◌, Option, Some, None, length, Bool, true, false, List, [], ◌∷◌, ◌++◌, fold, ◌⊎◌}
use Rattle.std.specs.List.{list_any, AllByRecursion}
use Rattle.object_id.specs.declared.limits.TheConstants.{BLOCK_BYTES}
use Rattle.object_id.specs.Fields.{zeros}
use Rattle.disk_history.specs.declared.event.HistEvent.{HistEvent}
use Rattle.disk_history.specs.declared.event.HistEvent.TheVariants.{Create, Copy, Delete, WriteStart, WriteDone, WriteRefused, WriterLost}
use Rattle.disk_history.specs.declared.event.HistEvent.TheVariants.{Read}
use Rattle.disk_history.specs.Ledger.{changed_at}

-- a write of a block: by which request, whether coded, and its bytes
pub record BlockWrite : Type 0 where
  pub req : ℕ
  pub coded : Bool
  pub bytes : List ℕ

-- the writes of each disk's blocks after one more event, the newest first: a new disk has none, and a copy has its origin's
abbrev pub writes_after : (ℕ → ℕ → List BlockWrite) → HistEvent → ℕ → ℕ → List BlockWrite
writes_after writes (Create disk blocks) = changed_at disk (λ block. []) writes
writes_after writes (Copy old new) = changed_at new (writes old) writes
writes_after writes (Delete disk) = writes
writes_after writes (WriteStart req disk block coded bytes) =
    changed_at disk (changed_at block (record { req = req; coded = coded; bytes = bytes } ∷ writes disk block) (writes disk)) writes
writes_after writes (WriteDone req) = writes
writes_after writes (WriteRefused req) = writes
writes_after writes (WriterLost req) = writes
writes_after writes (Read disk block bytes) = writes

-- the writes of a disk's block in a history, the newest first
abbrev pub writes_of : List HistEvent → ℕ → ℕ → List BlockWrite
writes_of events = fold writes_after (λ disk block. []) events

-- how many blocks each disk has after one more event
abbrev pub blocks_after : (ℕ → Option ℕ) → HistEvent → ℕ → Option ℕ
blocks_after blocks (Create disk count) = changed_at disk (Some count) blocks
blocks_after blocks (Copy old new) = changed_at new (blocks old) blocks
blocks_after blocks (Delete disk) = blocks
blocks_after blocks (WriteStart req disk block coded bytes) = blocks
blocks_after blocks (WriteDone req) = blocks
blocks_after blocks (WriteRefused req) = blocks
blocks_after blocks (WriterLost req) = blocks
blocks_after blocks (Read disk block bytes) = blocks

-- how many blocks a disk of a history has, if it is there
abbrev pub block_count_of : List HistEvent → ℕ → Option ℕ
block_count_of events = fold blocks_after (λ disk. None) events

-- an event is the request's acknowledgement
abbrev pub is_acknowledgement : ℕ → HistEvent → Bool
is_acknowledgement req (WriteDone number) = number == req
is_acknowledgement req _ = false

-- an event is the request's refusal
abbrev pub is_refusal_event : ℕ → HistEvent → Bool
is_refusal_event req (WriteRefused number) = number == req
is_refusal_event req _ = false

-- an event is the loss of the request's writer
abbrev pub is_lost_writer : ℕ → HistEvent → Bool
is_lost_writer req (WriterLost number) = number == req
is_lost_writer req _ = false

-- an event is the disk's deletion
abbrev pub is_delete : ℕ → HistEvent → Bool
is_delete disk (Delete number) = number == disk
is_delete disk _ = false

-- whether the request was acknowledged
abbrev pub was_done : List HistEvent → ℕ → Bool
was_done events req = list_any (is_acknowledgement req) events

-- whether the request was refused
abbrev pub was_refused : List HistEvent → ℕ → Bool
was_refused events req = list_any (is_refusal_event req) events

-- whether the request's writer was lost
abbrev pub was_lost : List HistEvent → ℕ → Bool
was_lost events req = list_any (is_lost_writer req) events

-- whether the disk was deleted
abbrev pub was_deleted : List HistEvent → ℕ → Bool
was_deleted events disk = list_any (is_delete disk) events

-- none of the writes was acknowledged
abbrev pub NoneDone : List HistEvent → List BlockWrite → Type 0
NoneDone events writes = AllByRecursion (λ write. was_done events write.req ≡ false) writes

-- the write is the last acknowledged one of these, or a later one: of those after it none was acknowledged
pub record IsLastOrLater (events : List HistEvent) (writes : List BlockWrite) (write : BlockWrite) : Type 0 where
  pub later : List BlockWrite
  pub earlier : List BlockWrite
  pub order : writes ≡ later ++ write ∷ earlier
  pub none_done : NoneDone events later

-- The bytes are those of the last acknowledged write of a block or of a later one that wasn't refused.
-- The zeros with which each block begins count as acknowledged.
abbrev pub IsReadable : List HistEvent → List BlockWrite → List ℕ → Type 0
IsReadable events writes bytes =
    ((write : BlockWrite) × IsLastOrLater events writes write × (was_refused events write.req ≡ false) × (write.bytes ≡ bytes))
    ⊎ (NoneDone events writes × (bytes ≡ zeros BLOCK_BYTES))

-- A block is torn where the writer of its last acknowledged write or of a later one was lost, and the write was coded.
abbrev pub IsTornBlock : List HistEvent → List BlockWrite → Type 0
IsTornBlock events writes =
    (write : BlockWrite) × IsLastOrLater events writes write × (write.coded ≡ true) × (was_lost events write.req ≡ true)

-- Which read may come next: of the bytes of a block of a disk that is there; and the disk was deleted, or the block is torn,
-- or the bytes are those of its last acknowledged write or of a later one.
pub record MayBeRead (events : List HistEvent) (disk block : ℕ) (bytes : List ℕ) : Type 0 where
  pub count : ℕ
  pub there : block_count_of events disk ≡ Some count
  pub within : block < count
  pub whole : length bytes ≡ BLOCK_BYTES
  pub given : (was_deleted events disk ≡ true) ⊎ (IsTornBlock events (writes_of events disk block)
      ⊎ IsReadable events (writes_of events disk block) bytes)
