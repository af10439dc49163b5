-- What a history says of disks: for each block the writes that count, in order, and what became of each request.
use Rattle.std.specs.Prelude.{ℕ, ◌==◌, Bool, true, false, not, ◌||◌, List, [], ◌∷◌, ◌++◌, map, filter, Option, Some, None, nat_lt}
use Rattle.std.specs.Prelude.{if◌then◌else◌}
use Rattle.std.specs.Option.{option_map, option_map_or}
use Rattle.object_id.specs.declared.limits.TheConstants.{BLOCK_BYTES}
use Rattle.object_id.specs.Fields.{zeros}
use Rattle.disk_history.specs.declared.event.HistEvent.{HistEvent}
use Rattle.disk_history.specs.declared.event.HistEvent.TheVariants.{Create, Copy, Delete, WriteStart, WriteDone, WriteRefused, WriterLost}
use Rattle.disk_history.specs.declared.event.HistEvent.TheVariants.{Read}

-- how a write stands: not answered yet, acknowledged, or left behind by a writer that was lost
pub data Mark : Type 0 where
  Open : Mark
  Acknowledged : Mark
  Lost : Mark

-- what was once written to a block, by which request; the zeros of a new disk are no request's
pub record Item : Type 0 where
  pub request : Option ℕ
  pub bytes : List ℕ
  pub coded : Bool
  pub mark : Mark

-- a disk: how many blocks it has, and the items of each
pub record Disk : Type 0 where
  pub blocks : ℕ
  pub items : ℕ → List Item
  pub deleted : Bool

-- a write request: the disks and blocks of which it began a write, whether one of them wasn't there, and whether it ended
pub record WriteRequest : Type 0 where
  pub places : List (ℕ × ℕ)
  pub stray : Bool
  pub ended : Bool

-- all disks and all write requests, by number
pub record Ledger : Type 0 where
  pub disks : ℕ → Option Disk
  pub requests : ℕ → WriteRequest

-- before the first event there is no disk, and no request began
abbrev pub empty_ledger : Ledger
empty_ledger = record { disks = λ disk. None; requests = λ req. record { places = []; stray = false; ended = false } }

-- a function with one value changed
abbrev pub changed_at : {X : Type 0} → ℕ → X → (ℕ → X) → ℕ → X
changed_at place new old k = if k == place then new else old k

-- the one item with which each block of a new disk begins: zeros, acknowledged
abbrev pub zeros_item : Item
zeros_item = record { request = None; bytes = zeros BLOCK_BYTES; coded = false; mark = Acknowledged }

-- whether the item is one of the request's
abbrev pub is_item_of : ℕ → Item → Bool
is_item_of req item = option_map_or (λ number. number == req) item.request false

-- the item, marked where it is one of the request's
abbrev pub item_with_mark : Mark → ℕ → Item → Item
item_with_mark mark req item = if is_item_of req item then record item { mark = mark } else item

-- every disk, with the items of each block changed
abbrev pub with_items : (List Item → List Item) → (ℕ → Option Disk) → ℕ → Option Disk
with_items change disks number = option_map (λ (disk : Disk). record disk { items = λ block. change (disk.items block) }) (disks number)

-- whether the disk has the block
abbrev pub has_block : Option Disk → ℕ → Bool
has_block found block = option_map_or (λ (disk : Disk). nat_lt block disk.blocks) found false

-- the request, ended
abbrev pub with_ended_request : ℕ → (ℕ → WriteRequest) → ℕ → WriteRequest
with_ended_request req requests = changed_at req (record (requests req) { ended = true }) requests

-- one item more at the end of the block's
abbrev pub with_item : ℕ → Item → Disk → Disk
with_item block item disk = record disk { items = changed_at block (disk.items block ++ item ∷ []) disk.items }

-- What an event leaves. A request's end is told to each of its items, also to those that were copied to other disks.
abbrev pub ledger_after : Ledger → HistEvent → Ledger
ledger_after ledger (Create disk blocks) = record ledger {
  disks = changed_at disk (Some (record { blocks = blocks; items = λ block. zeros_item ∷ []; deleted = false })) ledger.disks;
}
ledger_after ledger (Copy old new) = record ledger {
  disks = changed_at new (option_map (λ (disk : Disk). record disk { deleted = false }) (ledger.disks old)) ledger.disks;
}
ledger_after ledger (Delete disk) = record ledger {
  disks = changed_at disk (option_map (λ (disk : Disk). record disk { deleted = true }) (ledger.disks disk)) ledger.disks;
}
ledger_after ledger (WriteStart req disk block coded bytes) = record {
  disks = if has_block (ledger.disks disk) block
      then changed_at disk (option_map (with_item block (record {
        request = Some req;
        bytes = bytes;
        coded = coded;
        mark = Open;
      })) (ledger.disks disk)) ledger.disks
      else ledger.disks;
  requests = changed_at req (record {
    places = (ledger.requests req).places ++ (disk, block) ∷ [];
    stray = (ledger.requests req).stray || not (has_block (ledger.disks disk) block);
    ended = (ledger.requests req).ended;
  }) ledger.requests;
}
ledger_after ledger (WriteDone req) = record {
  disks = with_items (map (item_with_mark Acknowledged req)) ledger.disks;
  requests = with_ended_request req ledger.requests;
}
ledger_after ledger (WriteRefused req) = record {
  disks = with_items (filter (λ item. not (is_item_of req item))) ledger.disks;
  requests = with_ended_request req ledger.requests;
}
ledger_after ledger (WriterLost req) = record {
  disks = with_items (map (item_with_mark Lost req)) ledger.disks;
  requests = with_ended_request req ledger.requests;
}
ledger_after ledger (Read disk block bytes) = ledger
