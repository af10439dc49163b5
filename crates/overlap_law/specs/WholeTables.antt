-- The tables of open disks: each has as many entries as the disk has objects.
use Rattle.std.specs.Prelude.{◌≡◌, ℕ, length, Some}
use Rattle.std.specs.FinMap as tree
use Rattle.object_id.specs.Spec.{objects_of}
use Rattle.guest_driver.specs.declared.disk.Disk.{Disk}
use Rattle.sheep_node.specs.declared.session.Session.{Session}
use Rattle.overlap_law.specs.Each.{EachUp}
use Rattle.overlap_law.specs.Words.{Hosts}

-- the table of a disk that a session has open has an entry for each object of the disk
pub record TablesAreWhole (hosts : Hosts) : Type 0 where
  pub each : EachUp hosts (λ n node. (number : ℕ) (session : Session) (disk : Disk) → tree.get node.sessions number ≡ Some session
      → session.disk ≡ Some disk → length disk.inode.table ≡ objects_of disk.inode.spec)
