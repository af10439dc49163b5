-- A write, and a check, is on a working disk that its session has open.
use Rattle.std.proofs.Common.{◌≡◌, inl, inr, ℕ, Bool, true, false, List, Option, Some, refl, sym, ap, subst, ◌∙◌}
use Rattle.std.specs.FinMap as tree
use Rattle.std.proofs.lemmas.Option.{same_Some}
use Rattle.cluster_script.specs.declared.statement.Statement.{Statement}
use Rattle.peer_proto.specs.declared.guest.DiskAsk.{DiskAsk}
use Rattle.peer_proto.specs.declared.guest.DiskAsk.TheVariants as disk_asks
use Rattle.guest_driver.specs.declared.disk.Disk.{Disk}
use Rattle.guest_driver.specs.Driver as drivers
use Rattle.guest_driver.specs.Driver.{Driver, Reads, Writes}
use Rattle.vdi_ops.specs.Op.{Op}
use Rattle.sheep_node.specs.declared.ask.Ask.{Ask}
use Rattle.sheep_node.specs.declared.ask.Ask.TheVariants as asks
use Rattle.sheep_node.specs.declared.course.Course.{Course}
use Rattle.sheep_node.specs.declared.course.Course.TheVariants.{Waiting, Driving, Commanding, Checking, DoingWork, AwaitingDecision}
use Rattle.sheep_node.specs.declared.course.Request.{Request}
use Rattle.sheep_node.specs.SessionQueues.{session_among}
use Rattle.sheep_node.proofs.SessionViews.{IsSeen}
use Rattle.sheep_world.specs.Began.{Began}
use Rattle.sheep_world.specs.World.{Host, World}
use Rattle.overlap_law.specs.CommandDisks.{opened_as}
use Rattle.overlap_law.specs.MomentChanges.{RunsAreInRange}
use Rattle.overlap_law.specs.RequestsOfScript.{IsCourseOfAsk, IsDriverOf}
use Rattle.overlap_law.proofs.AllowedCourses.{HasWorking, IsAllowed, opened_by}
use Rattle.overlap_law.proofs.CoursesOfScript.{asked_by}
use Rattle.overlap_law.proofs.DisksOfWriters.{AsksToWrite, IsWriterAt, asks_to_write, on_open_disk, of_writer}
use Rattle.overlap_law.proofs.WorksInMoments.{well_in_world}
use Rattle.overlap_law.proofs.PlacedOfScript.{placed_of_script}

-- what is open as a working disk is one
working_so : (opened : Option Disk) (disk : Disk) → opened ≡ Some disk → HasWorking (opened_as opened) → disk.snapshot ≡ false
working_so opened disk is (vid, so) =
    let both : Some (disk.snapshot, disk.inode.vid) ≡ Some (false, vid) = sym (ap opened_as is) ∙ so in
    ap (λ (pair : Bool × ℕ). pair.0) (same_Some (disk.snapshot, disk.inode.vid) (false, vid) both)

by_driver : (opened : Option Disk) (disk on : Disk) (asked : Option Ask) (ask : DiskAsk) (driver : Driver) → opened ≡ Some disk
    → AsksToWrite asked → asked ≡ Some (asks.Disk ask) → IsDriverOf on ask driver → IsAllowed (opened_as opened) (Driving driver)
    → disk.snapshot ≡ false
by_driver opened disk on asked ask (Reads told piece rest) is (inl (offset, payload, writes)) of (from, size, reads, left) allowed =
    absurd (cc (writes, of, reads))
by_driver opened disk on asked ask (Reads told piece rest) is (inr checks) of driver_of allowed = absurd (cc (checks, of))
by_driver opened disk on asked ask (Writes payload stage piece rest) is writes of driver_of allowed = working_so opened disk is allowed
by_driver opened disk on asked ask drivers.Answered is writes of driver_of allowed = absurd driver_of

by_ask : (opened : Option Disk) (disk : Disk) (asked : Option Ask) (ask : DiskAsk) → opened ≡ Some disk → AsksToWrite asked
    → asked ≡ Some (asks.Disk ask) → IsAllowed (opened_as opened) (Waiting ask) → disk.snapshot ≡ false
by_ask opened disk asked (disk_asks.Read offset size) is (inl (from, payload, writes)) of allowed = absurd (cc (writes, of))
by_ask opened disk asked (disk_asks.Read offset size) is (inr checks) of allowed = absurd (cc (checks, of))
by_ask opened disk asked (disk_asks.Write offset payload) is writes of allowed = working_so opened disk is allowed

pub working_course : (opened : Option Disk) (disk : Disk) (asked : Option Ask) (began : Option ℕ) (course : Course) → opened ≡ Some disk
    → AsksToWrite asked → IsCourseOfAsk asked opened began course → IsAllowed (opened_as opened) course
    → ((op : Op) → course ≡ Commanding op → ⊥) → disk.snapshot ≡ false
working_course opened disk asked began (Waiting ask) is writes of allowed plain = by_ask opened disk asked ask is writes of.0 allowed
working_course opened disk asked began (Driving driver) is writes of allowed plain =
    by_driver opened disk of.on.disk asked of.ask driver is writes of.of of.is allowed
working_course opened disk asked began (Commanding op) is writes of allowed plain = absurd (plain op refl)
working_course opened disk asked began (Checking check) is writes of allowed plain = working_so opened disk is (check.vid, allowed)
working_course opened disk asked began (DoingWork work) is writes of allowed plain = absurd of
working_course opened disk asked began (AwaitingDecision entry) is writes of allowed plain = absurd of

module _ (script : List Statement) (range : RunsAreInRange script) (world : World) (began : Began script world) (n : ℕ) (host : Host)
    (there : tree.get world.hosts n ≡ Some host) (req : ℕ) (request : Request) (got : tree.get host.node.requests req ≡ Some request)
    (writer : IsWriterAt script req) where
  pub on_working_disk : (on_open_disk script range world began n host there req request got writer).disk.snapshot ≡ false
  on_working_disk =
      let open_disk = on_open_disk script range world began n host there req request got writer in
      let (start, at, course) = placed_of_script script range world began n host there req request got (of_writer script req writer) in
      let allowed : IsAllowed (opened_by (session_among request.session host.node.sessions)) request.course
      = subst (IsSeen opened_by IsAllowed host.node.sessions) got ((well_in_world script range world began n host there).allowed req) in
      working_course (session_among request.session host.node.sessions).disk open_disk.disk (asked_by script req) start request.course
      open_disk.opened (asks_to_write script range world began n host there req request got writer writer) course allowed open_disk.plain
