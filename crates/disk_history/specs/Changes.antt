-- What one event may change.
use Rattle.std.specs.Prelude.{ℕ, Bool, false, List, [], Option, Some, None}
use Rattle.std.specs.Option.{option_map, option_map_or}
use Rattle.disk_history.specs.declared.event.HistEvent.{HistEvent}
use Rattle.disk_history.specs.declared.event.HistEvent.TheVariants.{Create, Copy, Delete, WriteStart, WriteDone, WriteRefused, WriterLost}
use Rattle.disk_history.specs.declared.event.HistEvent.TheVariants.{Read}
use Rattle.disk_history.specs.Ledger.{Item, Disk}

-- the disk that an event names and may change; a request's end names none
abbrev pub changed_disk : HistEvent → Option ℕ
changed_disk (Create disk blocks) = Some disk
changed_disk (Copy old new) = Some new
changed_disk (Delete disk) = Some disk
changed_disk (WriteStart req disk block coded bytes) = Some disk
changed_disk (WriteDone req) = None
changed_disk (WriteRefused req) = None
changed_disk (WriterLost req) = None
changed_disk (Read disk block bytes) = None

-- the request that an event ends
abbrev pub ended_request : HistEvent → Option ℕ
ended_request (Create disk blocks) = None
ended_request (Copy old new) = None
ended_request (Delete disk) = None
ended_request (WriteStart req disk block coded bytes) = None
ended_request (WriteDone req) = Some req
ended_request (WriteRefused req) = Some req
ended_request (WriterLost req) = Some req
ended_request (Read disk block bytes) = None

-- the request that an event begins, goes on with or ends
abbrev pub named_request : HistEvent → Option ℕ
named_request (Create disk blocks) = None
named_request (Copy old new) = None
named_request (Delete disk) = None
named_request (WriteStart req disk block coded bytes) = Some req
named_request (WriteDone req) = Some req
named_request (WriteRefused req) = Some req
named_request (WriterLost req) = Some req
named_request (Read disk block bytes) = None

-- the items of a block, or none where the disk isn't there
abbrev pub items_in : Option Disk → ℕ → List Item
items_in found block = option_map_or (λ (disk : Disk). disk.items block) found []

-- how many blocks a disk has, if it is there
abbrev pub blocks_in : Option Disk → Option ℕ
blocks_in found = option_map (λ disk. disk.blocks) found

-- whether a disk is there and deleted
abbrev pub is_deleted : Option Disk → Bool
is_deleted found = option_map_or (λ (disk : Disk). disk.deleted) found false
