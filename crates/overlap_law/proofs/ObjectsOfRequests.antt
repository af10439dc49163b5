-- Each write of a node creates only such objects as were set apart for it when it came: those of the disk that its session has open. Every
-- change keeps that, since a disk stays open while a read or write of its session has no reply.
use Rattle.std.proofs.Common.{◌≡◌, ℕ, ◌==◌, false, [], ◌∷◌, ◌++◌, List, length, map, All, Option, Some, None, IfSome, sym, ap, subst, ◌∙◌}
use Rattle.std.specs.FinMap as tree
use Rattle.std.proofs.lemmas.List.Elements.{All-tail}
use Rattle.proof_tools.proofs.Booleans.{cond_either}
use Rattle.object_id.specs.declared.cause.Cause.{Cause}
use Rattle.object_id.specs.declared.entry.VdiSpec.{VdiSpec}
use Rattle.object_id.specs.Fields.{zeros}
use Rattle.object_id.specs.Oid.{object_number}
use Rattle.inode.specs.Layout.{Content}
use Rattle.peer_proto.specs.declared.guest.DiskAsk.{DiskAsk}
use Rattle.peer_proto.specs.declared.guest.DiskAsk.TheVariants as disk_asks
use Rattle.peer_proto.specs.declared.work.ObjWork.{ObjWork}
use Rattle.peer_proto.specs.declared.work.ObjWork.TheVariants as works
use Rattle.guest_driver.specs.declared.disk.Disk.{Disk}
use Rattle.guest_driver.specs.Pieces.{Piece, pieces}
use Rattle.guest_driver.specs.PieceWorks.{Backing, Hole, Own, Inherited, entry_of, backing_of, read_piece, table_with_entry}
use Rattle.guest_driver.specs.Refusals.{refusal_on}
use Rattle.guest_driver.specs.Driver as drivers
use Rattle.guest_driver.specs.Driver.{DriverStage, InPlace, Fetching, Creating, Entering, Driver, Reads, Writes, DriverStep, work_step}
use Rattle.guest_driver.specs.Driver.{read_on, write_piece_on, write_on, write_done, begin_unless_refused, begin_driver, driver_on_done}
use Rattle.sheep_node.specs.declared.ask.Ask.{Ask}
use Rattle.sheep_node.specs.declared.ask.Ask.TheVariants as asks
use Rattle.sheep_node.specs.declared.input.Input.{Input}
use Rattle.sheep_node.specs.declared.input.Input.TheVariants as inputs
use Rattle.sheep_node.specs.declared.course.Course.{Course}
use Rattle.sheep_node.specs.declared.course.Course.TheVariants.{Waiting, Driving, Commanding, Checking, DoingWork, AwaitingDecision}
use Rattle.sheep_node.specs.State.{Node}
use Rattle.sheep_node.specs.StepState.{StepState, at_first, session_in}
use Rattle.sheep_node.specs.Courses.{inode_open}
use Rattle.sheep_node.specs.May.{May}
use Rattle.sheep_node.specs.SessionQueues.{session_among, QueuesAreDiskRequests, CommandsAreAlone}
use Rattle.sheep_node.specs.Changes.{Arrival, input_received, Leads}
use Rattle.sheep_node.proofs.CourseWalk.{by_disk, IsKeptByParts, none_so, so_in_chain}
use Rattle.sheep_node.proofs.OneWorkParts.{Requests, Sessions}
use Rattle.sheep_node.proofs.SessionViews.{open_in, IsSeen}
use Rattle.sheep_node.proofs.ValidSteps.{given}
use Rattle.sheep_node.proofs.WantedSteps.{driver_begins-wanted, driver_goes_on-wanted}

-- the own object of a disk in which a piece is
abbrev pub own_object : ℕ → Piece → ℕ
own_object vid piece = object_number vid piece.index

-- the objects that a read or write may create: a read creates none
abbrev pub objects_asked : Content → DiskAsk → List ℕ
objects_asked inode (disk_asks.Read offset size) = []
objects_asked inode (disk_asks.Write offset payload) = map (own_object inode.vid) (pieces inode.spec.shift offset (length payload))

module _ (K : ℕ → Type 0) where
  -- the piece's own object is one of these
  abbrev pub IsOwn : ℕ → Piece → Type 0
  IsOwn vid piece = K (own_object vid piece)

  -- what a work creates is
  abbrev pub CreatesWithin : ObjWork → Type 0
  CreatesWithin (works.Create oid policy size offset bytes) = K oid
  CreatesWithin (works.Write oid policy offset bytes) = Unit {0}
  CreatesWithin (works.Read oid policy offset size) = Unit {0}
  CreatesWithin (works.ReadAll oid policy size) = Unit {0}

  -- each object that a read or write may create is
  abbrev pub IsAskWithin : Content → DiskAsk → Type 0
  IsAskWithin inode (disk_asks.Read offset size) = Unit {0}
  IsAskWithin inode (disk_asks.Write offset payload) = All (IsOwn inode.vid) (pieces inode.spec.shift offset (length payload))

  -- so are those that are left to a driver on the disk of an id
  abbrev pub IsLeftWithin : ℕ → Driver → Type 0
  IsLeftWithin vid (Reads told piece rest) = Unit {0}
  IsLeftWithin vid (Writes payload stage piece rest) = All (IsOwn vid) (piece ∷ rest)
  IsLeftWithin vid drivers.Answered = Unit {0}

  abbrev pub IsCourseWithin : Option Content → Course → Type 0
  IsCourseWithin inode (Waiting ask) = IfSome inode (λ (inode : Content). IsAskWithin inode ask)
  IsCourseWithin inode (Driving driver) = IfSome inode (λ (inode : Content). IsLeftWithin inode.vid driver)
  IsCourseWithin inode (Commanding op) = Unit {0}
  IsCourseWithin inode (Checking check) = Unit {0}
  IsCourseWithin inode (DoingWork asked) = CreatesWithin asked
  IsCourseWithin inode (AwaitingDecision entry) = Unit {0}

  -- each request is so, by what its session has open
  abbrev pub AreWithin : Requests → Sessions → Type 0
  AreWithin requests sessions = (req : ℕ) → IsSeen open_in IsCourseWithin sessions (tree.get requests req)

  -- and what is asked, where the session has this disk open
  abbrev pub IsNewWithin : Option Disk → Ask → Type 0
  IsNewWithin disk (asks.Disk ask) = IfSome disk (λ (disk : Disk). IsAskWithin disk.inode ask)
  IsNewWithin disk (asks.Vdi ask) = Unit {0}
  IsNewWithin disk (asks.Object work) = CreatesWithin work
  IsNewWithin disk (asks.Entry entry) = Unit {0}

  abbrev pub IsInputWithin : Input → Node → Type 0
  IsInputWithin (inputs.Guest req session ask) node = IsNewWithin (session_among session node.sessions).disk ask
  IsInputWithin _ node = Unit {0}

  -- ---- a driver

  still_within : (old new : Content) → new.vid ≡ old.vid → new.spec ≡ old.spec → (course : Course) → IsCourseWithin (Some old) course
      → IsCourseWithin (Some new) course
  still_within old new vid spec (Waiting ask) is = by_ask ask is
    where
      by_ask : (ask : DiskAsk) → IsAskWithin old ask → IsAskWithin new ask
      by_ask (disk_asks.Read offset size) is = tt
      by_ask (disk_asks.Write offset payload) is =
          subst (λ (id : ℕ). All (IsOwn id) (pieces new.spec.shift offset (length payload))) (sym vid)
          (subst (λ (spec : VdiSpec). All (IsOwn old.vid) (pieces spec.shift offset (length payload))) (sym spec) is)
  still_within old new vid spec (Driving driver) is = subst (λ (id : ℕ). IsLeftWithin id driver) (sym vid) is
  still_within old new vid spec (Commanding op) is = tt
  still_within old new vid spec (Checking check) is = tt
  still_within old new vid spec (DoingWork asked) is = is
  still_within old new vid spec (AwaitingDecision entry) is = tt

  read_left : (vid : ℕ) (inode : Content) (told : List ℕ) (rest : List Piece) → IsLeftWithin vid (read_on inode told rest).driver
  unfolding read_on
  read_left vid inode told [] = tt
  read_left vid inode told (piece ∷ rest) =
      cond_either (λ (step : DriverStep). IsLeftWithin vid step.driver) (entry_of inode piece == 0)
      (read_on inode (told ++ zeros piece.size) rest)
      (work_step inode (Reads told piece rest) (read_piece inode piece (entry_of inode piece)))
      (read_left vid inode (told ++ zeros piece.size) rest) tt

  piece_left : (vid : ℕ) (inode : Content) (payload : List ℕ) (piece : Piece) (rest : List Piece) (backing : Backing)
      → All (IsOwn vid) (piece ∷ rest) → IsLeftWithin vid (write_piece_on inode payload piece rest backing).driver
  piece_left vid inode payload piece rest Hole all = all
  piece_left vid inode payload piece rest Own all = all
  piece_left vid inode payload piece rest (Inherited other) all = all

  write_left : (vid : ℕ) (inode : Content) (payload : List ℕ) (rest : List Piece) → All (IsOwn vid) rest
      → IsLeftWithin vid (write_on inode payload rest).driver
  write_left vid inode payload [] all = tt
  write_left vid inode payload (piece ∷ rest) all = piece_left vid inode payload piece rest (backing_of inode piece) all

  begun_left : (inode : Content) (ask : DiskAsk) (refusal : Option Cause) → IsAskWithin inode ask
      → IsLeftWithin inode.vid (begin_unless_refused inode ask refusal).driver
  begun_left inode ask (Some cause) is = tt
  begun_left inode (disk_asks.Read offset size) None is = read_left inode.vid inode [] (pieces inode.spec.shift offset size)
  begun_left inode (disk_asks.Write offset payload) None is =
      write_left inode.vid inode payload (pieces inode.spec.shift offset (length payload)) is

  begins_within : (disk : Disk) (ask : DiskAsk) → IsAskWithin disk.inode ask
      → IsCourseWithin (Some (begin_driver disk ask).inode) (Driving (begin_driver disk ask).driver)
  unfolding begin_driver
  begins_within disk ask is =
      let wanted = driver_begins-wanted disk ask in
      still_within disk.inode (begin_driver disk ask).inode wanted.vid wanted.spec (Driving (begin_driver disk ask).driver)
      (begun_left disk.inode ask (refusal_on disk false ask) is)

  done_left : (vid : ℕ) (inode : Content) (bytes payload : List ℕ) (stage : DriverStage) (piece : Piece) (rest : List Piece)
      → All (IsOwn vid) (piece ∷ rest) → IsLeftWithin vid (write_done inode bytes payload piece rest stage).driver
  done_left vid inode bytes payload InPlace piece rest all = write_left vid inode payload rest (All-tail (IsOwn vid) piece rest all)
  done_left vid inode bytes payload Fetching piece rest all = all
  done_left vid inode bytes payload Creating piece rest all = all
  done_left vid inode bytes payload Entering piece rest all =
      write_left vid (table_with_entry inode piece) payload rest (All-tail (IsOwn vid) piece rest all)

  goes_on_left : (inode : Content) (bytes : List ℕ) (driver : Driver) (step : DriverStep) → driver_on_done inode bytes driver ≡ Some step
      → IsLeftWithin inode.vid driver → IsLeftWithin inode.vid step.driver
  unfolding driver_on_done
  goes_on_left inode bytes (Reads told piece rest) step next is =
      given (λ (step : DriverStep). IsLeftWithin inode.vid step.driver) next (read_left inode.vid inode (told ++ bytes) rest)
  goes_on_left inode bytes (Writes payload stage piece rest) step next is =
      given (λ (step : DriverStep). IsLeftWithin inode.vid step.driver) next (done_left inode.vid inode bytes payload stage piece rest is)
  goes_on_left inode bytes drivers.Answered step next is = absurd (cc (next))

  -- ---- every change

  module _ {input : Input} {node : Node} (asked : IsInputWithin input node) where
    -- a read or write that comes is within
    asks_within : (so_far : StepState) (session req : ℕ) (ask : DiskAsk) (disk : Disk)
        → Arrival input node so_far session req (asks.Disk ask) None → (session_in session so_far).disk ≡ Some disk
        → IsAskWithin disk.inode ask
    asks_within so_far session req ask disk arrival on =
        let brought = subst (λ (input : Input). IsInputWithin input node) arrival.from asked in
        let open_then : (session_among session node.sessions).disk ≡ Some disk
        = ap (λ (state : StepState). (session_in session state).disk) (sym arrival.first) ∙ on in
        subst (λ (o : Option Disk). IfSome o (λ (disk : Disk). IsAskWithin disk.inode ask)) open_then brought

    parts_keep_within : IsKeptByParts (by_disk inode_open) (λ (req : ℕ). IsCourseWithin) input node
    parts_keep_within = record {
      arrives = λ so_far session req ask disk arrival on. asks_within so_far session req ask disk arrival on;
      begins = λ req disk queue ask runs is. begins_within disk ask is;
      goes_on = λ req disk queue bytes driver step is before.
          let wanted = driver_goes_on-wanted disk.inode bytes driver step is in
          still_within disk.inode step.inode wanted.vid wanted.spec (Driving step.driver)
          (goes_on_left disk.inode bytes driver step is before);
      commands = λ req inode op. tt;
      checks = λ so_far session req inode arrival on. tt;
      checked = λ req inode bytes check step is before. tt;
      objects = λ so_far session req work arrival. subst (λ (input : Input). IsInputWithin input node) arrival.from asked;
      entries = λ req inode entry. tt;
      comes_beside = λ req disk queue one other course is. is;
      ends_beside = λ req other disk queue apart course is. is;
      drives_beside = λ req disk queue inode spec vid course is. still_within disk.inode inode vid spec course is;
    }

  pub none_within : AreWithin tree.empty tree.empty
  none_within = none_so (by_disk inode_open) (λ (req : ℕ). IsCourseWithin)

  -- in the middle of a step
  pub within_in_chain : (input : Input) (node : Node) → May input node → QueuesAreDiskRequests node → CommandsAreAlone node
      → IsInputWithin input node → AreWithin node.requests node.sessions
      → (so_far : StepState) → Leads input node (input_received input (at_first node)) so_far
      → AreWithin so_far.node.requests so_far.node.sessions
  within_in_chain input node may queued sole asked all so_far leads =
      so_in_chain (by_disk inode_open) (λ (req : ℕ). IsCourseWithin) input node (parts_keep_within asked) may queued sole all so_far leads
