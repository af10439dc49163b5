-- Every change leaves each read and write on the disk that its session has open.
use Rattle.std.proofs.Common.{◌≡◌, ℕ, All, Option, Some, None, refl, sym, subst}
use Rattle.std.specs.Prelude.{false, IsTrue}
use Rattle.std.proofs.lemmas.List.Elements.{All-nil}
use Rattle.object_id.specs.declared.cause.Cause.{Cause}
use Rattle.object_id.specs.declared.entry.VdiSpec.{VdiSpec}
use Rattle.object_id.specs.declared.node.NodeId.{NodeId}
use Rattle.inode.specs.Layout.{Content}
use Rattle.peer_proto.specs.declared.guest.DiskAsk.{DiskAsk}
use Rattle.peer_proto.specs.declared.guest.DiskAsk.TheVariants as disk_asks
use Rattle.guest_driver.specs.declared.disk.Disk.{Disk}
use Rattle.guest_driver.specs.Pieces.{is_ask}
use Rattle.guest_driver.specs.OnDisk.{IsDriverOn, IsPieceOf, pieces_left}
use Rattle.guest_driver.specs.Refusals.{refusal_on}
use Rattle.guest_driver.specs.Driver.{begin_unless_refused, begin_driver}
use Rattle.guest_driver.proofs.BeginLemmas.{asks-some, ends-inside, read-begins-on, write-begins-on}
use Rattle.guest_driver.proofs.NextLemmas.{stays-on}
use Rattle.sheep_node.specs.declared.ask.Ask.TheVariants as asks
use Rattle.sheep_node.specs.declared.input.Input.{Input}
use Rattle.sheep_node.specs.declared.course.Course.{Course}
use Rattle.sheep_node.specs.declared.course.Course.TheVariants.{Waiting, Driving, Commanding, Checking, DoingWork, AwaitingDecision}
use Rattle.sheep_node.specs.State.{Node, initial_node}
use Rattle.sheep_node.specs.StepState.{StepState, at_first}
use Rattle.sheep_node.specs.Courses.{inode_open}
use Rattle.sheep_node.specs.Step.{node_step}
use Rattle.sheep_node.specs.May.{May}
use Rattle.sheep_node.specs.SessionQueues.{QueuesAreDiskRequests, CommandsAreAlone}
use Rattle.sheep_node.specs.DrivenDisks.{IsCourseOn, AreOnDisks, RequestsAreOnDisks}
use Rattle.sheep_node.specs.Changes.{Arrival, input_received, Leads}
use Rattle.sheep_node.proofs.CourseWalk.{by_disk, IsKeptByParts, none_so, so_in_chain}
use Rattle.sheep_node.proofs.WantedSteps.{driver_begins-wanted, driver_goes_on-wanted}
use Rattle.sheep_node.proofs.StepChain.{step_chain}

abbrev pub OnDisks : StepState → Type 0
OnDisks so_far = AreOnDisks so_far.node.requests so_far.node.sessions

-- ---- a driver

still_on : (old new : Content) → new.spec ≡ old.spec → (course : Course) → IsCourseOn (Some old) course → IsCourseOn (Some new) course
still_on old new spec (Waiting ask) is = is
still_on old new spec (Driving driver) is = subst (λ (spec : VdiSpec). All (IsPieceOf spec) (pieces_left driver)) (sym spec) is
still_on old new spec (Commanding op) is = tt
still_on old new spec (Checking check) is = tt
still_on old new spec (DoingWork asked) is = tt
still_on old new spec (AwaitingDecision entry) is = tt

-- it begins on its disk
begins_on : (disk : Disk) (ask : DiskAsk) → IsTrue (is_ask ask) → IsDriverOn (begin_driver disk ask).inode (begin_driver disk ask).driver
unfolding begin_driver
begins_on disk ask is =
    still_on disk.inode (begin_driver disk ask).inode (driver_begins-wanted disk ask).spec (Driving (begin_driver disk ask).driver)
    (by_refusal (refusal_on disk false ask) refl)
  where
    unrefused : (ask : DiskAsk) → IsTrue (is_ask ask) → refusal_on disk false ask ≡ None
        → IsDriverOn disk.inode (begin_unless_refused disk.inode ask None).driver
    unrefused (disk_asks.Read offset size) is none =
        read-begins-on disk.inode offset size (asks-some (disk_asks.Read offset size) is) (ends-inside disk (disk_asks.Read offset size) none)
    unrefused (disk_asks.Write offset payload) is none =
        write-begins-on disk.inode offset payload (asks-some (disk_asks.Write offset payload) is)
        (ends-inside disk (disk_asks.Write offset payload) none)

    by_refusal : (refusal : Option Cause) → refusal_on disk false ask ≡ refusal
        → IsDriverOn disk.inode (begin_unless_refused disk.inode ask refusal).driver
    by_refusal (Some cause) so = All-nil (IsPieceOf disk.inode.spec)
    by_refusal None so = unrefused ask is so

-- ---- every change

module _ {input : Input} {node : Node} (may : May input node) where
  -- a read or write that may come asks for whole blocks
  asks_blocks : (so_far : StepState) (session req : ℕ) (ask : DiskAsk) (refusal : Option Cause)
      → Arrival input node so_far session req (asks.Disk ask) refusal → IsTrue (is_ask ask)
  asks_blocks so_far session req ask refusal arrival =
      let asked = subst (λ (input : Input). May input node) arrival.from may in
      asked.condition.asked

  parts_keep_on : IsKeptByParts (by_disk inode_open) (λ (req : ℕ). IsCourseOn) input node
  parts_keep_on = record {
    arrives = λ so_far session req ask disk arrival on. asks_blocks so_far session req ask None arrival;
    begins = λ req disk queue ask runs is. begins_on disk ask is;
    goes_on = λ req disk queue bytes driver step is before.
        stays-on disk.inode step.inode bytes driver step.driver step.act before (driver_goes_on-wanted disk.inode bytes driver step is).spec is;
    commands = λ req inode op. tt;
    checks = λ so_far session req inode arrival on. tt;
    checked = λ req inode bytes check step is before. tt;
    objects = λ so_far session req asked arrival. tt;
    entries = λ req inode entry. tt;
    comes_beside = λ req disk queue one other course is. is;
    ends_beside = λ req other disk queue apart course is. is;
    drives_beside = λ req disk queue inode spec vid course is. still_on disk.inode inode spec course is;
  }

pub on_disks_at_opening : (me : NodeId) (tries : ℕ) → RequestsAreOnDisks (initial_node me tries)
on_disks_at_opening me tries = none_so (by_disk inode_open) (λ (req : ℕ). IsCourseOn)

-- and in the middle of a step
pub on_disks_in_chain : (input : Input) (node : Node) → May input node → QueuesAreDiskRequests node → CommandsAreAlone node
    → RequestsAreOnDisks node → (so_far : StepState) → Leads input node (input_received input (at_first node)) so_far → RequestsAreOnDisks so_far.node
on_disks_in_chain input node may queued sole all so_far leads =
    so_in_chain (by_disk inode_open) (λ (req : ℕ). IsCourseOn) input node (parts_keep_on may) may queued sole all so_far leads

pub stay_on_disks : (input : Input) (node : Node) → May input node → QueuesAreDiskRequests node → CommandsAreAlone node → RequestsAreOnDisks node
    → RequestsAreOnDisks (node_step input node).node
stay_on_disks input node may queued sole all = on_disks_in_chain input node may queued sole all (node_step input node) (step_chain input node)
