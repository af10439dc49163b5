-- What the start of a work asks of a node, and what is made of it.
use Rattle.std.specs.Prelude.{◌≡◌, ℕ, ◌+◌, ◌<◌, ◌^◌, List, length, IsTrue, Option, Some, None}
use Rattle.std.specs.FinMap as tree
use Rattle.vnode_table.specs.Epochs.{is_entered}
use Rattle.peer_proto.specs.Work.{IsWork}
use Rattle.peer_proto.specs.declared.work.ObjWork.{ObjWork}
use Rattle.gateway.specs.declared.act.Act.{Act}
use Rattle.gateway.specs.declared.act.Act.TheVariants as acts
use Rattle.vdi_ops.specs.Op.{op_bytes_wanted}
use Rattle.inode.specs.Layout.{Content}
use Rattle.guest_driver.specs.Driver.{driver_bytes_wanted}
use Rattle.guest_driver.specs.OnDisk.{IsDriverOn}
use Rattle.disk_check.specs.Check.{IsCheck, check_bytes_wanted}
use Rattle.sheep_node.specs.declared.course.Course.{Course}
use Rattle.sheep_node.specs.declared.course.Course.TheVariants.{Waiting, Driving, Commanding, Checking, DoingWork, AwaitingDecision}
use Rattle.sheep_node.specs.State.{Node}
use Rattle.sheep_node.specs.GivenNumbers.{NumbersWereGiven}

-- a request may come to a work: it has none, and the node's epoch was entered
pub record MayComeToWork (req : ℕ) (node : Node) : Type 0 where
  pub idle : tree.get node.gateway.works req ≡ None
  pub given : NumbersWereGiven node
  pub entered : IsTrue (is_entered node.epochs node.peer.epoch)

-- a request may begin this work
pub record MayBeginWork (req : ℕ) (work : ObjWork) (node : Node) : Type 0 where
  pub idle : tree.get node.gateway.works req ≡ None
  pub is_work : IsWork work
  pub given : NumbersWereGiven node
  pub entered : IsTrue (is_entered node.epochs node.peer.epoch)

-- what the start came to may be gone on with: there are numbers for what is sent, and who is refused has no work
abbrev pub MayBeFollowed : Act → Node → Type 0
MayBeFollowed (acts.Send sends) node = node.sends + length sends.list < 2 ^ 32
MayBeFollowed acts.Wait node = Unit {0}
MayBeFollowed (acts.Done work done) node = Unit {0}
MayBeFollowed (acts.Refused work req cause) node = tree.get node.gateway.works req ≡ None

-- a course may go on with these bytes, on what its session has open: they are as many as it waits for
abbrev pub MayGoOn : Option Content → Course → List ℕ → Type 0
MayGoOn inode (Waiting ask) bytes = Unit {0}
MayGoOn None (Driving driver) bytes = ⊥
MayGoOn (Some inode) (Driving driver) bytes = (driver_bytes_wanted inode driver ≡ Some (length bytes)) × IsDriverOn inode driver
MayGoOn inode (Commanding op) bytes = op_bytes_wanted op ≡ Some (length bytes)
MayGoOn inode (Checking check) bytes = IsCheck check → check_bytes_wanted check ≡ Some (length bytes)
MayGoOn inode (DoingWork work) bytes = Unit {0}
MayGoOn inode (AwaitingDecision entry) bytes = Unit {0}
