-- A write is on a working disk that its session has open, and so is a check; and no session asks for an object: every change keeps that.
use Rattle.std.proofs.Common.{◌≡◌, ℕ, ◌==◌, Bool, true, false, cond, List, [], ◌∷◌, ◌++◌, length, Option, Some, None, refl, sym, ap, subst}
use Rattle.std.proofs.Common.{◌∙◌}
use Rattle.std.specs.FinMap as tree
use Rattle.std.proofs.lemmas.Option.{same_Some}
use Rattle.object_id.specs.declared.cause.Cause.{Cause}
use Rattle.object_id.specs.Fields.{zeros}
use Rattle.inode.specs.Layout.{Content}
use Rattle.peer_proto.specs.declared.guest.DiskAsk.{DiskAsk}
use Rattle.peer_proto.specs.declared.guest.DiskAsk.TheVariants as disk_asks
use Rattle.peer_proto.specs.declared.guest.VdiAsk.TheVariants as disk_commands
use Rattle.peer_proto.specs.declared.work.ObjWork.{ObjWork}
use Rattle.guest_driver.specs.declared.disk.Disk.{Disk}
use Rattle.guest_driver.specs.Pieces.{Piece, pieces}
use Rattle.guest_driver.specs.PieceWorks.{Backing, Hole, Own, Inherited, entry_of, backing_of, read_piece, table_with_entry}
use Rattle.guest_driver.specs.Refusals.{refusal_on}
use Rattle.guest_driver.specs.Driver as drivers
use Rattle.guest_driver.specs.Driver.{Driver, Reads, Writes, DriverStage, InPlace, Fetching, Creating, Entering, DriverStep, work_step}
use Rattle.guest_driver.specs.Driver.{read_on, write_piece_on, write_on, write_done, begin_unless_refused, begin_driver, driver_on_done}
use Rattle.disk_check.specs.Check as checks
use Rattle.disk_check.specs.Check.{Check, CheckStage, CheckStep, Comparing, WritingBack, check_on, begun_check, begin_check, check_done_at}
use Rattle.disk_check.specs.Check.{check_on_done}
use Rattle.disk_check.specs.Table.{own_indexes}
use Rattle.disk_check.specs.Value.{pieces_in}
use Rattle.vdi_ops.specs.Entries.{command_refusal}
use Rattle.sheep_node.specs.declared.ask.Ask.TheVariants as asks
use Rattle.sheep_node.specs.declared.input.Input.{Input}
use Rattle.sheep_node.specs.declared.input.Input.TheVariants as inputs
use Rattle.sheep_node.specs.declared.course.Course.{Course}
use Rattle.sheep_node.specs.declared.session.Session.{Session}
use Rattle.sheep_node.specs.declared.course.Course.TheVariants.{Waiting, Driving, Commanding, Checking, DoingWork, AwaitingDecision}
use Rattle.sheep_node.specs.State.{Node}
use Rattle.sheep_node.specs.StepState.{StepState, at_first, session_in}
use Rattle.sheep_node.specs.Courses.{inode_open}
use Rattle.sheep_node.specs.Guests.{is_open_disk_deleted, request_refusal, seen_by_command}
use Rattle.sheep_node.specs.May.{May}
use Rattle.sheep_node.specs.SessionQueues.{QueuesAreDiskRequests, CommandsAreAlone}
use Rattle.sheep_node.specs.Changes.{input_received, Leads}
use Rattle.sheep_node.proofs.CourseWalk.{by_disk, IsKeptByParts, none_so, so_in_chain}
use Rattle.sheep_node.proofs.OneWorkParts.{Requests, Sessions}
use Rattle.sheep_node.proofs.SessionViews.{IsSeen}
use Rattle.sheep_node.proofs.WantedSteps.{driver_begins-wanted, driver_goes_on-wanted}
use Rattle.overlap_law.specs.CommandDisks.{opened_as}
use Rattle.gateway.specs.Work.{is_making}

-- a working disk is open
abbrev pub HasWorking : Option (Bool × ℕ) → Type 0
HasWorking opened = (vid : ℕ) × (opened ≡ Some (false, vid))

abbrev pub IsDriverAllowed : Option (Bool × ℕ) → Driver → Type 0
IsDriverAllowed opened (Reads told piece rest) = Unit {0}
IsDriverAllowed opened (Writes payload stage piece rest) = HasWorking opened
IsDriverAllowed opened drivers.Answered = Unit {0}

-- a write that waits is on one too
abbrev pub IsAskAllowed : Option (Bool × ℕ) → DiskAsk → Type 0
IsAskAllowed opened (disk_asks.Read offset size) = Unit {0}
IsAskAllowed opened (disk_asks.Write offset payload) = HasWorking opened

-- a request may be so with what its session has open
abbrev pub IsAllowed : Option (Bool × ℕ) → Course → Type 0
IsAllowed opened (Waiting ask) = IsAskAllowed opened ask
IsAllowed opened (Driving driver) = IsDriverAllowed opened driver
IsAllowed opened (Commanding op) = Unit {0}
IsAllowed opened (Checking check) = opened ≡ Some (false, check.vid)
IsAllowed opened (DoingWork asked) = is_making asked ≡ false
IsAllowed opened (AwaitingDecision entry) = Unit {0}

abbrev pub opened_by : Session → Option (Bool × ℕ)
opened_by session = opened_as session.disk

-- each request is so
abbrev pub AreAllowed : Requests → Sessions → Type 0
AreAllowed requests sessions = (req : ℕ) → IsSeen opened_by IsAllowed sessions (tree.get requests req)

abbrev pub AllowedSoFar : StepState → Type 0
AllowedSoFar so_far = AreAllowed so_far.node.requests so_far.node.sessions

-- ---- a driver

module _ (opened : Option (Bool × ℕ)) where
  reads_allowed : (inode : Content) (told : List ℕ) (rest : List Piece) → IsDriverAllowed opened (read_on inode told rest).driver
  unfolding read_on
  reads_allowed inode told [] = tt
  reads_allowed inode told (piece ∷ rest) = by_hole (entry_of inode piece == 0) (reads_allowed inode (told ++ zeros piece.size) rest)
    where
      by_hole : (b : Bool) → IsDriverAllowed opened (read_on inode (told ++ zeros piece.size) rest).driver
          → IsDriverAllowed opened (cond b (read_on inode (told ++ zeros piece.size) rest)
          (work_step inode (Reads told piece rest) (read_piece inode piece (entry_of inode piece)))).driver
      by_hole true later = later
      by_hole false later = tt

  module _ (working : HasWorking opened) where
    writes_allowed : (inode : Content) (payload : List ℕ) (rest : List Piece) → IsDriverAllowed opened (write_on inode payload rest).driver
    writes_allowed inode payload [] = tt
    writes_allowed inode payload (piece ∷ rest) = by_backing (backing_of inode piece)
      where
        by_backing : (backing : Backing) → IsDriverAllowed opened (write_piece_on inode payload piece rest backing).driver
        by_backing Hole = working
        by_backing Own = working
        by_backing (Inherited vid) = working

    done_allowed : (inode : Content) (bytes payload : List ℕ) (piece : Piece) (rest : List Piece) (stage : DriverStage)
        → IsDriverAllowed opened (write_done inode bytes payload piece rest stage).driver
    done_allowed inode bytes payload piece rest InPlace = writes_allowed inode payload rest
    done_allowed inode bytes payload piece rest Fetching = working
    done_allowed inode bytes payload piece rest Creating = working
    done_allowed inode bytes payload piece rest Entering = writes_allowed (table_with_entry inode piece) payload rest

  goes_on_allowed : (inode : Content) (bytes : List ℕ) (driver : Driver) (step : DriverStep) → driver_on_done inode bytes driver ≡ Some step
      → IsDriverAllowed opened driver → IsDriverAllowed opened step.driver
  unfolding driver_on_done
  goes_on_allowed inode bytes (Reads told piece rest) step next is =
      subst (λ (s : DriverStep). IsDriverAllowed opened s.driver) (same_Some (read_on inode (told ++ bytes) rest) step next)
      (reads_allowed inode (told ++ bytes) rest)
  goes_on_allowed inode bytes (Writes payload stage piece rest) step next is =
      subst (λ (s : DriverStep). IsDriverAllowed opened s.driver) (same_Some (write_done inode bytes payload piece rest stage) step next)
      (done_allowed is inode bytes payload piece rest stage)
  goes_on_allowed inode bytes drivers.Answered step next is = absurd (cc (next))

-- a write that isn't refused is on a working disk
begins_allowed : (disk : Disk) (ask : DiskAsk) → IsDriverAllowed (Some (disk.snapshot, disk.inode.vid)) (begin_driver disk ask).driver
unfolding begin_driver
begins_allowed disk ask = by_refusal ask (refusal_on disk false ask) refl
  where
    by_kind : (b : Bool) → disk.snapshot ≡ b → (offset : ℕ) (payload : List ℕ)
        → refusal_on disk false (disk_asks.Write offset payload) ≡ None
        → HasWorking (Some (disk.snapshot, disk.inode.vid))
    by_kind true snapshot offset payload none =
        let refused = ap (λ (b : Bool). refusal_on (record { inode = disk.inode; snapshot = b }) false (disk_asks.Write offset payload))
        (sym snapshot) ∙ none in
        absurd (cc (refused))
    by_kind false working offset payload none = (disk.inode.vid, ap (λ (b : Bool). Some (b, disk.inode.vid)) working)

    by_refusal : (ask : DiskAsk) (refusal : Option Cause) → refusal_on disk false ask ≡ refusal
        → IsDriverAllowed (Some (disk.snapshot, disk.inode.vid)) (begin_unless_refused disk.inode ask refusal).driver
    by_refusal ask (Some cause) so = tt
    by_refusal (disk_asks.Read offset size) None so =
        reads_allowed (Some (disk.snapshot, disk.inode.vid)) disk.inode [] (pieces disk.inode.spec.shift offset size)
    by_refusal (disk_asks.Write offset payload) None so =
        writes_allowed (Some (disk.snapshot, disk.inode.vid)) (by_kind disk.snapshot refl offset payload so) disk.inode payload
        (pieces disk.inode.spec.shift offset (length payload))

-- and one that arrives
ask_allowed : (disk : Disk) (deleted : Bool) (ask : DiskAsk) → refusal_on disk deleted ask ≡ None
    → IsAskAllowed (Some (disk.snapshot, disk.inode.vid)) ask
ask_allowed disk deleted (disk_asks.Read offset size) none = tt
ask_allowed disk deleted (disk_asks.Write offset payload) none = by_kind disk.snapshot refl
  where
    by_kind : (b : Bool) → disk.snapshot ≡ b → HasWorking (Some (disk.snapshot, disk.inode.vid))
    by_kind true snapshot =
        let refused = ap (λ (b : Bool). refusal_on (record { inode = disk.inode; snapshot = b }) deleted (disk_asks.Write offset payload))
        (sym snapshot) ∙ none in
        absurd (cc (refused))
    by_kind false working = (disk.inode.vid, ap (λ (b : Bool). Some (b, disk.inode.vid)) working)

-- ---- a check

check_on-vid : (check : Check) (left : List ℕ) → (check_on check left).check.vid ≡ check.vid
check_on-vid check [] = refl
check_on-vid check (index ∷ later) = refl

check_begins-vid : (inode : Content) → (begin_check inode).check.vid ≡ inode.vid
unfolding begin_check
check_begins-vid inode = check_on-vid (begun_check inode) (own_indexes inode)

check_goes_on-vid : (bytes : List ℕ) (check : Check) (step : CheckStep) → check_on_done bytes check ≡ Some step → step.check.vid ≡ check.vid
unfolding check_on_done
check_goes_on-vid bytes check step next = by_stage check.stage next
  where
    by_stage : (stage : CheckStage) → check_done_at bytes check stage ≡ Some step → step.check.vid ≡ check.vid
    by_stage (Comparing index later) next =
        sym (ap (λ (s : CheckStep). s.check.vid) (same_Some (checks.write_back_step check index later (pieces_in check.spec bytes)) step
        next))
    by_stage (WritingBack later) next =
        sym (ap (λ (s : CheckStep). s.check.vid) (same_Some (check_on check later) step next)) ∙ check_on-vid check later
    by_stage checks.Answered next = absurd (cc (next))

-- it isn't refused on a working disk alone
check_working : (disk : Option Disk) (inode : Content) → command_refusal (seen_by_command disk) disk_commands.Check ≡ None
    → inode_open disk ≡ Some inode
    → opened_as disk ≡ Some (false, inode.vid)
check_working None inode allowed on = absurd (cc (on))
check_working (Some disk) inode allowed on = by_kind disk.snapshot refl
  where
    by_kind : (b : Bool) → disk.snapshot ≡ b → opened_as (Some disk) ≡ Some (false, inode.vid)
    by_kind true snapshot =
        let refused = ap (λ (b : Bool). command_refusal (Some (record { inode = disk.inode; snapshot = b })) disk_commands.Check)
        (sym snapshot) ∙ allowed in
        absurd (cc (refused))
    by_kind false working =
        let same : disk.inode ≡ inode = same_Some disk.inode inode on in
        λ i. Some (working i, (same i).vid)

-- ---- every change

module _ {input : Input} {node : Node} (none : (req session : ℕ) (work : ObjWork) → input ≡ inputs.Guest req session (asks.Object work)
    → is_making work ≡ false) where
  parts_keep_allowed : IsKeptByParts (by_disk opened_as) (λ (req : ℕ). IsAllowed) input node
  parts_keep_allowed = record {
    arrives = λ so_far session req ask disk arrival on.
        ask_allowed disk (is_open_disk_deleted so_far.node.peer (Some disk)) ask
        (ap (λ (o : Option Disk). request_refusal so_far.node.peer o (asks.Disk ask)) (sym on) ∙ arrival.refused);
    begins = λ req disk queue ask runs is.
        subst (λ (vid : ℕ). IsDriverAllowed (Some (disk.snapshot, vid)) (begin_driver disk ask).driver)
        (sym (driver_begins-wanted disk ask).vid) (begins_allowed disk ask);
    goes_on = λ req disk queue bytes driver step is before.
        subst (λ (vid : ℕ). IsDriverAllowed (Some (disk.snapshot, vid)) step.driver)
        (sym (driver_goes_on-wanted disk.inode bytes driver step is).vid)
        (goes_on_allowed (Some (disk.snapshot, disk.inode.vid)) disk.inode bytes driver step is before);
    commands = λ req opened op. tt;
    checks = λ so_far session req inode arrival on.
        check_working (session_in session so_far).disk inode arrival.refused on
        ∙ ap (λ (v : ℕ). Some (false, v)) (sym (check_begins-vid inode));
    checked = λ req opened bytes check step is before.
        before ∙ ap (λ (v : ℕ). Some (false, v)) (sym (check_goes_on-vid bytes check step is));
    objects = λ so_far session req asked arrival. none req session asked arrival.from;
    entries = λ req opened entry. tt;
    comes_beside = λ req disk queue one other course is. is;
    ends_beside = λ req other disk queue apart course is. is;
    drives_beside = λ req disk queue inode spec vid course is.
        subst (λ (vid : ℕ). IsAllowed (Some (disk.snapshot, vid)) course) (sym vid) is;
  }

pub none_allowed : AreAllowed tree.empty tree.empty
none_allowed = none_so (by_disk opened_as) (λ (req : ℕ). IsAllowed)

-- in the middle of a step
pub allowed_in_chain : (input : Input) (node : Node) → May input node → QueuesAreDiskRequests node → CommandsAreAlone node
    → ((req session : ℕ) (work : ObjWork) → input ≡ inputs.Guest req session (asks.Object work) → is_making work ≡ false)
    → AreAllowed node.requests node.sessions → (so_far : StepState) → Leads input node (input_received input (at_first node)) so_far
    → AllowedSoFar so_far
allowed_in_chain input node may queued sole none all so_far leads =
    so_in_chain (by_disk opened_as) (λ (req : ℕ). IsAllowed) input node (parts_keep_allowed none) may queued sole all so_far leads
