-- In the middle of a node's step a read or write that begins or goes on is on a disk that the node knows, has its pieces inside it, and
-- asks for a work of its driver.
use Rattle.std.specs.FinMap as tree
use Rattle.guest_driver.specs.declared.act.DriverAct.TheVariants as acts
use Rattle.std.proofs.Common.{All, ◌≡◌, arith, ℕ, Option, Some, List, length, IfSome, refl, sym, subst, ◌∙◌, IsTrue}
use Rattle.object_id.specs.Oid.{IsVid}
use Rattle.vdi_directory.specs.declared.effect.Effect.{Effect}
use Rattle.peer_proto.specs.declared.guest.DiskAsk.{DiskAsk}
use Rattle.peer_proto.specs.declared.work.ObjWork.{ObjWork}
use Rattle.gateway.specs.declared.message.Status.{Status}
use Rattle.gateway.specs.State.{Work}
use Rattle.guest_driver.specs.declared.disk.Disk.{Disk}
use Rattle.guest_driver.specs.Driver.{Driver, DriverStep, begin_driver, driver_on_done}
use Rattle.guest_driver.specs.OnDisk.{pieces_left}
use Rattle.guest_driver.specs.Pieces.{is_ask}
use Rattle.sheep_node.specs.declared.course.Course.TheVariants.{Waiting, Driving}
use Rattle.sheep_node.specs.declared.course.Request.{Request}
use Rattle.sheep_node.specs.declared.session.Session.{Session}
use Rattle.sheep_node.specs.declared.input.Input.{Input}
use Rattle.sheep_node.specs.Changes.{without_ended_work}
use Rattle.sheep_node.specs.Courses.{inode_open}
use Rattle.sheep_node.specs.DrivenDisks.{IsCourseOn}
use Rattle.sheep_node.specs.SessionQueues.{session_among}
use Rattle.sheep_node.specs.State.{Node}
use Rattle.sheep_node.specs.StepState.{StepState, session_in}
use Rattle.sheep_node.specs.WantedWorks.{IsWorkOfDriver}
use Rattle.sheep_node.proofs.QueueChanges.{same_view}
use Rattle.sheep_node.proofs.ValidityChanges.{AnySent, disk_valid, course_valid}
use Rattle.sheep_node.proofs.WantedSteps.{IsDriverActWanted, driver_begins-wanted, driver_goes_on-wanted}
use Rattle.overlap_law.proofs.KnownDisks.{known_validity, driver_begins-known, driver_goes_on-known, FewAt}
use Rattle.overlap_law.proofs.KnownDiskSteps.{IsKnownSoFar}
use Rattle.overlap_law.proofs.WholeSteps.{IsWellKnown}

-- a driver's step is on a disk with an id, has its pieces inside the disk, and asks for a work of the driver
pub record IsWorkOfStep (step : DriverStep) (work : ObjWork) : Type 0 where
  pub id : IsVid step.inode.vid
  pub few : All FewAt (pieces_left step.driver)
  pub wanted : IsWorkOfDriver step.inode step.driver work

module _ {known : List Effect} {input : Input} {node : Node} (so_far : StepState) (knows : IsWellKnown known input node so_far) where
  -- what the node has is of known disks
  pub on_known : IsKnownSoFar known (length so_far.outputs.sends) so_far
  on_known = (knows.on_known, record { few = omega arith; sent = λ k d within. tt; to_put = λ k d within. tt })

  module _ (session req : ℕ) where
    -- where one goes on, its session had the disk open before its work ended
    pub disk_before_end : (done : Work) (status : Status) (disk : Disk)
        → (session_in session (without_ended_work session req done status so_far)).disk ≡ Some disk
        → (session_among session so_far.node.sessions).disk ≡ Some disk
    disk_before_end done status disk at =
        sym (same_view (λ (s : Session). s.disk) so_far.node.sessions session _ refl session) ∙ at

    -- a read or write begins
    pub driver_begins-of_step : (work : ObjWork) (ask : DiskAsk) (disk : Disk)
        → tree.get so_far.node.requests req ≡ Some (record { session = session; course = Waiting ask })
        → (session_in session so_far).disk ≡ Some disk → (begin_driver disk ask).act ≡ acts.Work work
        → IsWorkOfStep (begin_driver disk ask) work
    driver_begins-of_step work ask disk there at act =
        let step : DriverStep = begin_driver disk ask in
        let whole : IsTrue (is_ask ask)
        = subst (λ (o : Option Request). IfSome o (λ (request : Request). IsCourseOn
        (inode_open (session_among request.session so_far.node.sessions).disk) request.course)) there (knows.waits.1 req) in
        let so = driver_begins-known known disk ask (disk_valid (known_validity known) AnySent session so_far disk at on_known) whole in
        record {
          id = so.inode.disk.id;
          few = so.few;
          wanted = subst (IsDriverActWanted step.inode step.driver) act (driver_begins-wanted disk ask).act;
        }

    -- and it goes on
    pub driver_goes_on-of_step : (work : ObjWork) (bytes : List ℕ) (driver : Driver) (disk : Disk) (step : DriverStep)
        → tree.get so_far.node.requests req ≡ Some (record { session = session; course = Driving driver })
        → (session_among session so_far.node.sessions).disk ≡ Some disk
        → driver_on_done disk.inode bytes driver ≡ Some step → step.act ≡ acts.Work work → IsWorkOfStep step work
    driver_goes_on-of_step work bytes driver disk step there at next act =
        let disk_known = disk_valid (known_validity known) AnySent session so_far disk at on_known in
        let few = course_valid (known_validity known) AnySent session req (Driving driver) so_far there on_known in
        let so = driver_goes_on-known known disk.inode bytes driver step next disk_known few in
        record {
          id = so.inode.disk.id;
          few = so.few;
          wanted = subst (IsDriverActWanted step.inode step.driver) act (driver_goes_on-wanted disk.inode bytes driver step next).act;
        }
