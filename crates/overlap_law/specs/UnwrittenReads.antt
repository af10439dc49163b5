-- A request that has no item in what open reads were told.
use Rattle.std.specs.Prelude.{◌≡◌, ℕ, ◌+◌, ◌*◌, ◌<◌, ◌≤◌, false, List, Some}
use Rattle.std.specs.FinMap as tree
use Rattle.cluster_script.specs.declared.statement.Statement.{Statement}
use Rattle.peer_proto.specs.declared.guest.DiskAsk.TheVariants as disk_asks
use Rattle.guest_driver.specs.declared.disk.Disk.{Disk}
use Rattle.guest_driver.specs.Driver.{Reads}
use Rattle.guest_driver.specs.Extent.{first_index_of}
use Rattle.guest_driver.specs.Pieces.{Piece}
use Rattle.sheep_node.specs.declared.ask.Ask.TheVariants as asks
use Rattle.sheep_node.specs.declared.course.Course.TheVariants.{Driving}
use Rattle.sheep_node.specs.declared.course.Request.{Request}
use Rattle.sheep_node.specs.State.{session_at}
use Rattle.sheep_world.specs.World.{Host}
use Rattle.overlap_law.specs.Headline.{ledger_of}
use Rattle.overlap_law.specs.Past.{MomentWithPast}
use Rattle.overlap_law.specs.ReadsToldApart.{HasNoItemIn}
use Rattle.overlap_law.specs.StandingReads.{asked_in}
use Rattle.overlap_law.specs.ToldReads.{extent_on}
use Rattle.overlap_law.specs.WrittenBlocks.{blocks_per_object}

-- a request has no item, by the history of a moment, in a block that a read was told which is open at the one behind it
abbrev pub IsApartFromOpenReads : List Statement → MomentWithPast → MomentWithPast → ℕ → Type 0
IsApartFromOpenReads script before after req = (n : ℕ) (host : Host) → tree.get after.world.hosts n ≡ Some host → host.is_lost ≡ false
    → (reads offset size : ℕ) (request : Request) (told : List ℕ) (piece : Piece) (rest : List Piece) (disk : Disk)
    → tree.get host.node.requests reads ≡ Some request → request.course ≡ Driving (Reads told piece rest)
    → asked_in script reads ≡ Some (asks.Disk (disk_asks.Read offset size))
    → (session_at request.session host.node).disk ≡ Some disk
    → (index unit : ℕ) → first_index_of (extent_on disk.inode offset size) ≤ index → index < piece.index
    → unit < blocks_per_object disk.inode.spec
    → HasNoItemIn (ledger_of before.past.history) req disk.inode.vid (index * blocks_per_object disk.inode.spec + unit)
