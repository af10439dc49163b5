-- Which histories are legal.
use Rattle.std.specs.Prelude.{ℕ, ◌==◌, ◌<◌, ◌+◌, Bool, true, false, not, ◌&&◌, ◌||◌, List, [], ◌∷◌, ◌++◌, length, take, fold, Option, Some}
use Rattle.std.specs.Prelude.{None, IsSome, is_some, is_none, if◌then◌else◌}
use Rattle.std.specs.Option.{option_and_then, option_map_or}
use Rattle.std.specs.Str.{bytes_eq}
use Rattle.std.specs.List.{list_any}
use Rattle.object_id.specs.declared.limits.TheConstants.{BLOCK_BYTES}
use Rattle.disk_history.specs.declared.event.HistEvent.{HistEvent}
use Rattle.disk_history.specs.declared.event.HistEvent.TheVariants.{Create, Copy, Delete, WriteStart, WriteDone, WriteRefused, WriterLost}
use Rattle.disk_history.specs.declared.event.HistEvent.TheVariants.{Read}
use Rattle.disk_history.specs.Ledger.{Mark, Open, Acknowledged, Lost, Item, Disk, WriteRequest, Ledger, empty_ledger, has_block}
use Rattle.disk_history.specs.Ledger.{ledger_after}

-- whether the item's write was acknowledged
abbrev pub is_acknowledged : Item → Bool
is_acknowledged item = is_mark item.mark
  where
    is_mark : Mark → Bool
    is_mark Open = false
    is_mark Acknowledged = true
    is_mark Lost = false

-- whether the item's writer was lost
abbrev pub is_writer_lost : Item → Bool
is_writer_lost item = is_mark item.mark
  where
    is_mark : Mark → Bool
    is_mark Open = false
    is_mark Acknowledged = false
    is_mark Lost = true

-- what may be read: the last acknowledged item, and every later one
abbrev pub standing : List Item → List Item
standing items = fold (λ kept item. if is_acknowledged item then item ∷ [] else kept ++ item ∷ []) [] items

-- A block is torn where a coded write after the last acknowledged one was left behind: its strips may be of both.
abbrev pub is_torn : List Item → Bool
is_torn items = list_any (λ item. item.coded && is_writer_lost item) (standing items)

-- a read of a live disk gives bytes that stand in the block's items, unless the block is torn
abbrev pub may_read : Option Disk → ℕ → List ℕ → Bool
may_read None block bytes = false
may_read (Some disk) block bytes =
    disk.deleted || is_torn (disk.items block) || list_any (λ item. bytes_eq item.bytes bytes) (standing (disk.items block))

-- whether a request has begun to write
abbrev pub has_begun_to_write : WriteRequest → Bool
has_begun_to_write request = not (is_empty_list request.places)
  where
    is_empty_list : List (ℕ × ℕ) → Bool
    is_empty_list [] = true
    is_empty_list (place ∷ places) = false

-- whether the request has begun to write this block of this disk
abbrev pub has_place : WriteRequest → ℕ → ℕ → Bool
has_place request disk block = list_any (λ place. place.0 == disk && place.1 == block) request.places

-- whether an event may come next
abbrev pub may_follow : Ledger → HistEvent → Bool
may_follow ledger (Create disk blocks) = is_none (ledger.disks disk)
may_follow ledger (Copy old new) = is_some (ledger.disks old) && is_none (ledger.disks new)
may_follow ledger (Delete number) = option_map_or (λ (disk : Disk). not disk.deleted) (ledger.disks number) false
may_follow ledger (WriteStart req disk block coded bytes) =
    length bytes == BLOCK_BYTES && not (ledger.requests req).ended && not (has_place (ledger.requests req) disk block)
may_follow ledger (WriteDone req) =
    has_begun_to_write (ledger.requests req) && not (ledger.requests req).ended && not (ledger.requests req).stray
may_follow ledger (WriteRefused req) = has_begun_to_write (ledger.requests req) && not (ledger.requests req).ended
may_follow ledger (WriterLost req) = has_begun_to_write (ledger.requests req) && not (ledger.requests req).ended
may_follow ledger (Read disk block bytes) =
    has_block (ledger.disks disk) block && length bytes == BLOCK_BYTES && may_read (ledger.disks disk) block bytes

-- what one event leaves, or nothing where it may not come next
abbrev pub ledger_step : Ledger → HistEvent → Option Ledger
ledger_step ledger event = if may_follow ledger event then Some (ledger_after ledger event) else None

-- what further events leave, or nothing where one of them may not come in its turn
abbrev pub ledger_from : Ledger → List HistEvent → Option Ledger
ledger_from ledger [] = Some ledger
ledger_from ledger (event ∷ events) = option_and_then (λ next. ledger_from next events) (ledger_step ledger event)

-- a history is legal where each event may follow those before it
abbrev pub IsLegal : List HistEvent → Type 0
IsLegal events = IsSome (ledger_from empty_ledger events)

-- the first place at which a history isn't legal: the events before it are a legal history, and with that event they aren't
abbrev pub IsFirstIllegal : List HistEvent → ℕ → Type 0
IsFirstIllegal events place = (place < length events) × IsLegal (take place events) × ¬ IsLegal (take (place + 1) events)
