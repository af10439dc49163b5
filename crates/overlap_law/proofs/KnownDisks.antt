-- What a node has at work is on disks that it knows: the inodes that sessions have open, the commands, the checks, and each create or
-- write. What a read or write, a check or a command comes to is so too.
use Rattle.std.proofs.Common.{◌≡◌, arith, ℕ, ◌+◌, ◌*◌, ◌%◌, ◌^◌, ◌<◌, ◌≤◌, ◌==◌, ◌++◌, Bool, true, false, cond, List, [], ◌∷◌, length, All}
use Rattle.std.proofs.Common.{Option, Some, None, IfSome, IsTrue, refl, sym, ap, subst, ◌∙◌}
use Rattle.std.proofs.Math.Nat.{div-eq_of_lt}
use Rattle.std.proofs.lemmas.List.{length-set}
use Rattle.std.proofs.lemmas.List.Elements.{All-nil, All-head, All-tail, All-weaker}
use Rattle.object_id.specs.declared.cause.Cause.{Cause}
use Rattle.object_id.specs.declared.entry.Entry.{Entry}
use Rattle.object_id.specs.declared.entry.VdiSpec.{VdiSpec}
use Rattle.object_id.specs.declared.limits.TheConstants.{OBJECTS_MAX}
use Rattle.object_id.specs.declared.oid.Vid.{Vid}
use Rattle.object_id.specs.declared.policy.Policy.{Policy}
use Rattle.object_id.specs.Fields.{zeros}
use Rattle.object_id.specs.declared.oid.Kind.{Kind}
use Rattle.object_id.specs.declared.oid.Kind.TheVariants.{Block, Inode}
use Rattle.object_id.specs.Oid.{IsVid, bits, vid_of, kind_of, inode_number, object_number}
use Rattle.object_id.specs.Policy.{IsPolicy}
use Rattle.object_id.specs.Spec.{IsSpec, objects_of}
use Rattle.inode.specs.Layout.{Content}
use Rattle.inode.specs.declared.layout.TheConstants.{INODE_BYTES}
use Rattle.sheep_node.specs.OutsideAsks.{MakesWhole}
use Rattle.std.proofs.lemmas.Option.{same_Some}
use Rattle.peer_proto.specs.Work.{oid_of, policy_of}
use Rattle.peer_proto.specs.declared.guest.DiskAsk.{DiskAsk}
use Rattle.peer_proto.specs.declared.guest.DiskAsk.TheVariants as disk_asks
use Rattle.peer_proto.specs.declared.work.ObjWork.{ObjWork}
use Rattle.peer_proto.specs.declared.work.ObjWork.TheVariants as works
use Rattle.peer_service.specs.State.{object_size}
use Rattle.vdi_directory.specs.declared.effect.Effect.{Effect}
use Rattle.gateway.specs.Work.{is_making}
use Rattle.gateway.specs.State.{Work}
use Rattle.guest_driver.specs.declared.disk.Disk.{Disk}
use Rattle.guest_driver.specs.Pieces.{Piece, pieces, is_ask}
use Rattle.guest_driver.specs.PieceWorks.{Backing, Hole, Own, Inherited, entry_of, backing_of, read_piece, write_piece, create_piece}
use Rattle.guest_driver.specs.PieceWorks.{read_object, create_copy, write_entry, table_with_entry}
use Rattle.guest_driver.specs.Refusals.{refusal_on}
use Rattle.guest_driver.specs.OnDisk.{pieces_left, IsPieceOf}
use Rattle.guest_driver.specs.Driver as drivers
use Rattle.guest_driver.specs.Driver.{DriverStage, InPlace, Fetching, Creating, Entering, Driver, Reads, Writes, DriverStep, work_step}
use Rattle.guest_driver.specs.Driver.{read_on, write_piece_on, write_on, begin_unless_refused, begin_driver, write_done, driver_on_done}
use Rattle.guest_driver.proofs.BeginLemmas.{ends-inside, asks-some, pieces-are}
use Rattle.guest_driver.proofs.ExtentLemmas.{objects_most}
use Rattle.vdi_ops.specs.Op.{Task, Opening, WritingBack, Tagging, Copying, Making, DiskChange, Stays, Opens, Closes, OpStage, Asked}
use Rattle.vdi_ops.specs.Op.{Working, Publishing, Answered}
use Rattle.disk_check.specs.Table.{own_indexes}
use Rattle.disk_check.specs.Value.{pieces_in, value_of}
use Rattle.disk_check.specs.Check as checks
use Rattle.disk_check.specs.Check.{Check, CheckStage, CheckStep, Comparing, WritingBack as Rewriting, check_on, begun_check, begin_check}
use Rattle.disk_check.specs.Check.{check_done_at, check_on_done, left_of}
use Rattle.disk_check.proofs.TableLemmas.{own_indexes-own}
use Rattle.sheep_node.specs.declared.course.Course.{Course}
use Rattle.sheep_node.specs.declared.course.Course.TheVariants as courses
use Rattle.sheep_node.specs.Changes.{Outcome, outcome_of_driver, outcome_of_check}
use Rattle.sheep_node.specs.Validity.{Validity}
use Rattle.sheep_node.proofs.ValidSteps.{given}
use Rattle.sheep_node.proofs.ValidityChanges.{IsValidOutcomeBy}
use Rattle.overlap_law.proofs.GrantedEpochs.{spec_known}

-- the id of a disk, in the ids of its objects
pub vid-of_object : (vid index : ℕ) → IsVid vid → index < OBJECTS_MAX → vid_of (object_number vid index) ≡ vid
vid-of_object vid index is few = let most = is.1 in omega (arith, most, few)

pub vid-of_inode : (vid : ℕ) → IsVid vid → vid_of (inode_number vid) ≡ vid
vid-of_inode vid is = let most = is.1 in omega (arith, most)

-- and the kinds of those
pub kind-of_object : (vid index : ℕ) → IsVid vid → index < OBJECTS_MAX → kind_of (object_number vid index) ≡ Block
kind-of_object vid index is few =
    let small : vid * 2 ^ 32 + index < 2 ^ 63 = omega (arith, is.1, few) in
    let none : bits (object_number vid index) 63 1 ≡ 0 = ap (λ (n : ℕ). n % 2 ^ 1) (div-eq_of_lt small) in
    ap (λ (n : ℕ). cond (n == 1) Inode Block) none

pub kind-of_inode : (vid : ℕ) → IsVid vid → kind_of (inode_number vid) ≡ Inode
kind-of_inode vid is =
    let top : bits (inode_number vid) 63 1 ≡ 1 = omega (arith, is.0, is.1) in
    ap (λ (n : ℕ). cond (n == 1) Inode Block) top

abbrev pub Few : ℕ → Type 0
Few index = index < OBJECTS_MAX

abbrev pub FewAt : Piece → Type 0
FewAt piece = Few piece.index

module _ (known : List Effect) where
  -- ---- what is known

  -- a disk of an id that was made so
  pub record IsKnownDisk (vid : ℕ) (spec : VdiSpec) : Type 0 where
    pub id : IsVid vid
    pub spec_valid : IsSpec spec
    pub made : spec_known known vid ≡ Some spec

  pub record IsKnownInode (inode : Content) : Type 0 where
    pub disk : IsKnownDisk inode.vid inode.spec
    pub count : length inode.table ≤ OBJECTS_MAX

  -- the disk of an object is known, and has that policy
  pub record IsOnKnownDisk (oid : ℕ) (policy : Policy) : Type 0 where
    pub spec : VdiSpec
    pub made : spec_known known (vid_of oid) ≡ Some spec
    pub policy_so : policy ≡ spec.policy

  -- a create makes the object as long as its disk has it
  abbrev pub CreatesWhole : ObjWork → Type 0
  CreatesWhole (works.Create oid policy size offset bytes) =
      (spec : VdiSpec) → spec_known known (vid_of oid) ≡ Some spec → size ≡ object_size spec (kind_of oid)
  CreatesWhole (works.Write oid policy offset bytes) = Unit {0}
  CreatesWhole (works.Read oid policy offset size) = Unit {0}
  CreatesWhole (works.ReadAll oid policy size) = Unit {0}

  -- a create or write is on an object of a disk that is known
  pub record IsKnownWork (work : ObjWork) : Type 0 where
    pub policy : IsPolicy (policy_of work)
    pub making : is_making work ≡ true → IsOnKnownDisk (oid_of work) (policy_of work)
    pub whole : CreatesWhole work

  abbrev pub IsKnownTask : Vid → Task → Type 0
  IsKnownTask vid (Opening snapshot ids header) = IsKnownDisk vid.0 header.spec
  IsKnownTask vid (WritingBack inode) = IsKnownInode inode
  IsKnownTask vid (Tagging old inode) = IsKnownInode inode
  IsKnownTask vid (Copying ids header) = IsKnownDisk vid.0 header.spec
  IsKnownTask vid (Making entry opened) = IfSome opened IsKnownInode

  abbrev pub IsKnownChange : DiskChange → Type 0
  IsKnownChange Stays = Unit {0}
  IsKnownChange (Opens snapshot inode) = IsKnownInode inode
  IsKnownChange Closes = Unit {0}

  abbrev pub IsKnownStage : OpStage → Type 0
  IsKnownStage (Asked entry) = Unit {0}
  IsKnownStage (Working vid task) = IsKnownTask vid task
  IsKnownStage (Publishing entry opened) = IfSome opened IsKnownInode
  IsKnownStage (Answered change) = IsKnownChange change

  pub record IsKnownCheck (check : Check) : Type 0 where
    pub disk : IsKnownDisk check.vid check.spec
    pub within : All Few (left_of check.stage)

  abbrev pub IsKnownCourse : Course → Type 0
  IsKnownCourse (courses.Waiting ask) = IsTrue (is_ask ask)
  IsKnownCourse (courses.Driving driver) = All FewAt (pieces_left driver)
  IsKnownCourse (courses.Commanding op) = IsKnownStage op.stage
  IsKnownCourse (courses.Checking check) = IsKnownCheck check
  IsKnownCourse (courses.DoingWork work) = Unit {0}
  IsKnownCourse (courses.AwaitingDecision entry) = Unit {0}

  -- in this sense; of what is to be put nothing is asked
  abbrev pub known_validity : Validity
  known_validity = record {
    inode = IsKnownInode;
    asked = IsKnownWork;
    at_gateway = λ (work : Work). IsKnownWork work.work;
    course = IsKnownCourse;
    put = λ (entry : Entry). Unit {0};
  }

  abbrev pub IsKnownOutcome : Outcome → Type 0
  IsKnownOutcome = IsValidOutcomeBy known_validity

  -- ---- works

  pub read_known : (work : ObjWork) → IsPolicy (policy_of work) → is_making work ≡ false → IsKnownWork work
  read_known work policy reads = record { policy = policy; making = λ making. absurd (cc (reads, making)); whole = by_kind work reads }
    where
      by_kind : (work : ObjWork) → is_making work ≡ false → CreatesWhole work
      by_kind (works.Create oid policy size offset bytes) reads = absurd (cc (reads))
      by_kind (works.Write oid policy offset bytes) reads = tt
      by_kind (works.Read oid policy offset size) reads = tt
      by_kind (works.ReadAll oid policy size) reads = tt

  on_disk : (vid oid : ℕ) (spec : VdiSpec) → IsKnownDisk vid spec → vid_of oid ≡ vid → IsOnKnownDisk oid spec.policy
  on_disk vid oid spec disk same = record { spec = spec; made = ap (spec_known known) same ∙ disk.made; policy_so = refl }

  -- a create that is as long as an object of its disk
  creates_whole : (vid : ℕ) (spec : VdiSpec) (kind : Kind) (work : ObjWork) → IsKnownDisk vid spec → vid_of (oid_of work) ≡ vid
      → kind_of (oid_of work) ≡ kind → MakesWhole (object_size spec kind) work → CreatesWhole work
  creates_whole vid spec kind (works.Create oid policy size offset bytes) disk of_disk of_kind whole = λ other there.
      let same : spec ≡ other = same_Some spec other (sym disk.made ∙ ap (spec_known known) (sym of_disk) ∙ there) in
      whole ∙ ap (λ (k : Kind). object_size spec k) (sym of_kind) ∙ ap (λ (s : VdiSpec). object_size s (kind_of oid)) same
  creates_whole vid spec kind (works.Write oid policy offset bytes) disk of_disk of_kind whole = tt
  creates_whole vid spec kind (works.Read oid policy offset size) disk of_disk of_kind whole = tt
  creates_whole vid spec kind (works.ReadAll oid policy size) disk of_disk of_kind whole = tt

  -- a work on an object of a disk, and one on its inode
  object_known : (vid index : ℕ) (spec : VdiSpec) (work : ObjWork) → IsKnownDisk vid spec → Few index
      → oid_of work ≡ object_number vid index
      → policy_of work ≡ spec.policy → MakesWhole (2 ^ spec.shift) work → IsKnownWork work
  object_known vid index spec work disk few oid policy whole = record {
    policy = subst IsPolicy (sym policy) disk.spec_valid.policy;
    making = λ making. subst (IsOnKnownDisk (oid_of work)) (sym policy)
        (on_disk vid (oid_of work) spec disk (ap vid_of oid ∙ vid-of_object vid index disk.id few));
    whole = creates_whole vid spec Block work disk (ap vid_of oid ∙ vid-of_object vid index disk.id few)
        (ap kind_of oid ∙ kind-of_object vid index disk.id few) whole;
  }

  pub inode_known : (vid : ℕ) (spec : VdiSpec) (work : ObjWork) → IsKnownDisk vid spec → oid_of work ≡ inode_number vid
      → policy_of work ≡ spec.policy
      → MakesWhole INODE_BYTES work → IsKnownWork work
  inode_known vid spec work disk oid policy whole = record {
    policy = subst IsPolicy (sym policy) disk.spec_valid.policy;
    making = λ making. subst (IsOnKnownDisk (oid_of work)) (sym policy)
        (on_disk vid (oid_of work) spec disk (ap vid_of oid ∙ vid-of_inode vid disk.id));
    whole = creates_whole vid spec Inode work disk (ap vid_of oid ∙ vid-of_inode vid disk.id) (ap kind_of oid ∙ kind-of_inode vid disk.id)
        whole;
  }

  -- ---- a read or write

  pub record IsKnownDriverStep (step : DriverStep) : Type 0 where
    pub inode : IsKnownInode step.inode
    pub few : All FewAt (pieces_left step.driver)
    pub outcome : IsKnownOutcome (outcome_of_driver step.act)

  module _ (inode : Content) (is : IsKnownInode inode) where
    policy_valid : IsPolicy inode.spec.policy
    policy_valid = is.disk.spec_valid.policy

    reads_known : (told : List ℕ) (rest : List Piece) → All FewAt rest → IsKnownDriverStep (read_on inode told rest)
    unfolding read_on
    reads_known told [] few = record { inode = is; few = few; outcome = tt }
    reads_known told (piece ∷ rest) few =
        by_hole (entry_of inode piece == 0) (reads_known (told ++ zeros piece.size) rest (All-tail FewAt piece rest few))
      where
        by_hole : (b : Bool) → IsKnownDriverStep (read_on inode (told ++ zeros piece.size) rest)
            → IsKnownDriverStep (cond b (read_on inode (told ++ zeros piece.size) rest)
            (work_step inode (Reads told piece rest) (read_piece inode piece (entry_of inode piece))))
        by_hole true later = later
        by_hole false later =
            record { inode = is; few = few; outcome = read_known (read_piece inode piece (entry_of inode piece)) policy_valid refl }

    piece_known : (payload : List ℕ) (piece : Piece) (rest : List Piece) (backing : Backing) → All FewAt (piece ∷ rest)
        → IsKnownDriverStep (write_piece_on inode payload piece rest backing)
    piece_known payload piece rest Hole few =
        record {
          inode = is;
          few = few;
          outcome = object_known inode.vid piece.index inode.spec (create_piece inode payload piece) is.disk (All-head FewAt piece rest few)
              refl refl refl;
        }
    piece_known payload piece rest Own few =
        record {
          inode = is;
          few = few;
          outcome = object_known inode.vid piece.index inode.spec (write_piece inode payload piece) is.disk (All-head FewAt piece rest few)
              refl refl tt;
        }
    piece_known payload piece rest (Inherited vid) few =
        record { inode = is; few = few; outcome = read_known (read_object inode piece vid) policy_valid refl }

    writes_known : (payload : List ℕ) (rest : List Piece) → All FewAt rest → IsKnownDriverStep (write_on inode payload rest)
    writes_known payload [] few = record { inode = is; few = few; outcome = tt }
    writes_known payload (piece ∷ rest) few = piece_known payload piece rest (backing_of inode piece) few

    pub all_few : (offset size : ℕ) → 1 ≤ size → offset + size ≤ inode.spec.size → All FewAt (pieces inode.spec.shift offset size)
    all_few offset size some within =
        let most : objects_of inode.spec ≤ OBJECTS_MAX = objects_most inode.spec is.disk.spec_valid in
        All-weaker (IsPieceOf inode.spec) FewAt (λ piece of. let here = of.object in omega (arith, most, here))
        (pieces inode.spec.shift offset size) (pieces-are inode.spec offset size some within)

    pub with_entry : (piece : Piece) → IsKnownInode (table_with_entry inode piece)
    with_entry piece =
        let same : length (table_with_entry inode piece).table ≡ length inode.table = length-set inode.table piece.index inode.vid in
        let count = is.count in
        record { disk = is.disk; count = omega (arith, same, count) }

  begun_known : (disk : Disk) (ask : DiskAsk) (refusal : Option Cause) → IsKnownInode disk.inode → IsTrue (is_ask ask)
      → refusal_on disk false ask ≡ refusal → IsKnownDriverStep (begin_unless_refused disk.inode ask refusal)
  begun_known disk ask (Some cause) is whole e = record { inode = is; few = All-nil FewAt; outcome = tt }
  begun_known disk (disk_asks.Read offset size) None is whole e =
      reads_known disk.inode is [] (pieces disk.inode.spec.shift offset size)
      (all_few disk.inode is offset size (asks-some (disk_asks.Read offset size) whole) (ends-inside disk (disk_asks.Read offset size) e))
  begun_known disk (disk_asks.Write offset payload) None is whole e =
      writes_known disk.inode is payload (pieces disk.inode.spec.shift offset (length payload))
      (all_few disk.inode is offset (length payload) (asks-some (disk_asks.Write offset payload) whole)
      (ends-inside disk (disk_asks.Write offset payload) e))

  pub driver_begins-known : (disk : Disk) (ask : DiskAsk) → IsKnownInode disk.inode → IsTrue (is_ask ask)
      → IsKnownDriverStep (begin_driver disk ask)
  unfolding begin_driver
  driver_begins-known disk ask is whole = begun_known disk ask (refusal_on disk false ask) is whole refl

  done_known : (inode : Content) (bytes payload : List ℕ) (piece : Piece) (rest : List Piece) (stage : DriverStage) → IsKnownInode inode
      → All FewAt (piece ∷ rest) → IsKnownDriverStep (write_done inode bytes payload piece rest stage)
  done_known inode bytes payload piece rest InPlace is few = writes_known inode is payload rest (All-tail FewAt piece rest few)
  done_known inode bytes payload piece rest Fetching is few =
      record {
        inode = is;
        few = few;
        outcome = object_known inode.vid piece.index inode.spec (create_copy inode payload piece bytes) is.disk
            (All-head FewAt piece rest few) refl refl refl;
      }
  done_known inode bytes payload piece rest Creating is few =
      record { inode = is; few = few; outcome = inode_known inode.vid inode.spec (write_entry inode piece) is.disk refl refl tt }
  done_known inode bytes payload piece rest Entering is few =
      writes_known (table_with_entry inode piece) (with_entry inode is piece) payload rest (All-tail FewAt piece rest few)

  pub driver_goes_on-known : (inode : Content) (bytes : List ℕ) (driver : Driver) (step : DriverStep)
      → driver_on_done inode bytes driver ≡ Some step
      → IsKnownInode inode → All FewAt (pieces_left driver) → IsKnownDriverStep step
  unfolding driver_on_done
  driver_goes_on-known inode bytes (Reads told piece rest) step next is few =
      given IsKnownDriverStep next (reads_known inode is (told ++ bytes) rest (All-tail FewAt piece rest few))
  driver_goes_on-known inode bytes (Writes payload stage piece rest) step next is few =
      given IsKnownDriverStep next (done_known inode bytes payload piece rest stage is few)
  driver_goes_on-known inode bytes drivers.Answered step next is few = absurd (cc (next))

  -- ---- a check

  pub record IsKnownCheckStep (step : CheckStep) : Type 0 where
    pub check : IsKnownCheck step.check
    pub outcome : IsKnownOutcome (outcome_of_check step.act)

  check_on-known : (check : Check) (left : List ℕ) → IsKnownDisk check.vid check.spec → All Few left
      → IsKnownCheckStep (check_on check left)
  check_on-known check [] disk few = record { check = record { disk = disk; within = All-nil Few }; outcome = tt }
  check_on-known check (index ∷ later) disk few = record {
    check = record { disk = disk; within = few };
    outcome = read_known (checks.read_copies check index) disk.spec_valid.policy refl;
  }

  pub check_begins-known : (inode : Content) → IsKnownInode inode → IsKnownCheckStep (begin_check inode)
  unfolding begin_check
  check_begins-known inode is =
      let count = is.count in
      check_on-known (begun_check inode) (own_indexes inode) is.disk
      (λ k d within. let here = (own_indexes-own inode k d within).0 in omega (arith, here, count))

  pub check_goes_on-known : (bytes : List ℕ) (check : Check) (step : CheckStep) → check_on_done bytes check ≡ Some step → IsKnownCheck check
      → IsKnownCheckStep step
  unfolding check_on_done
  check_goes_on-known bytes check step next is = by_stage check.stage next is.within
    where
      by_stage : (stage : CheckStage) → check_done_at bytes check stage ≡ Some step → All Few (left_of stage) → IsKnownCheckStep step
      by_stage (Comparing index later) next few = given IsKnownCheckStep next (record {
        check = record { disk = is.disk; within = All-tail Few index later few };
        outcome = object_known check.vid index check.spec
            (checks.write_value check index (value_of check.spec.policy (pieces_in check.spec bytes))) is.disk
            (All-head Few index later few) refl refl tt;
      })
      by_stage (Rewriting later) next few = given IsKnownCheckStep next (check_on-known check later is.disk few)
      by_stage checks.Answered next few = absurd (cc (next))
