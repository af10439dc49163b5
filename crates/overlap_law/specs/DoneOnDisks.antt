-- What a reply to a read or write of a disk, or to a check, tells that isn't a refusal: the request began on a disk that its session had
-- open, a read was told as many bytes as it asked for, a write that it is done, and a check what it found.
use Rattle.std.specs.Prelude.{◌≡◌, ℕ, List, length, Some}
use Rattle.cluster_script.specs.declared.statement.Statement.{Statement}
use Rattle.peer_proto.specs.declared.guest.Checked.{Checked}
use Rattle.peer_proto.specs.declared.guest.DiskAsk.{DiskAsk}
use Rattle.peer_proto.specs.declared.guest.DiskAsk.TheVariants.{Read, Write}
use Rattle.peer_proto.specs.declared.guest.GuestRsp.{GuestRsp}
use Rattle.peer_proto.specs.declared.guest.GuestRsp.TheVariants as replies
use Rattle.peer_proto.specs.declared.guest.GuestRsp.TheVariants.{Done, Piece}
use Rattle.sheep_node.specs.declared.event.Event.{Event}
use Rattle.sheep_node.specs.declared.event.Event.TheVariants as events
use Rattle.sheep_world.specs.World.{World}
use Rattle.sheep_world.specs.Effects.{guest_begun}
use Rattle.sheep_world.specs.HistoryAdditions.{disk_of}

-- the world in which a request that an event replies to had no reply yet: the request that the event itself begins has begun by then
abbrev pub world_without_reply : List Statement → Event → World → World
world_without_reply statements (events.Guest session) world = guest_begun statements session world
world_without_reply statements event world = world

-- a reply tells all that was asked of a disk: as many bytes as were to be read, or that what was to be written is
abbrev pub TellsAll : DiskAsk → GuestRsp → Type 0
TellsAll (Read offset size) rsp = (bytes : List ℕ) × (rsp ≡ Piece bytes) × (length bytes ≡ size)
TellsAll (Write offset payload) rsp = rsp ≡ Done

-- a request that asked so is done: it had begun on a disk that its session had open, and its reply tells all
pub record IsDoneOnDisk (script : List Statement) (world : World) (req : ℕ) (ask : DiskAsk) (rsp : GuestRsp) : Type 0 where
  pub disk : ℕ
  pub began : disk_of script req world ≡ Some disk
  pub told : TellsAll ask rsp

-- a check is: it had begun so, and its reply tells what it found
pub record IsCheckedOnDisk (script : List Statement) (world : World) (req : ℕ) (rsp : GuestRsp) : Type 0 where
  pub disk : ℕ
  pub began : disk_of script req world ≡ Some disk
  pub found : Checked
  pub told : rsp ≡ replies.Checked found
