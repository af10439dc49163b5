-- What open works would make of blocks may be read of them, whichever requests are refused: of a write's piece and of a check's value by
-- their items; of the objects that are created, where that is given.
use Rattle.std.proofs.Common.{◌≡◌, inl, arith, ℕ, ◌+◌, ◌-◌, ◌*◌, ◌<◌, ◌≤◌, nat_le, nat_lt, ◌&&◌, Bool, true, false, All, List, [], length}
use Rattle.std.proofs.Common.{drop, slice_get, Some, refl, sym, ap, subst, ◌∙◌}
use Rattle.std.specs.Prelude.{min}
use Rattle.std.specs.Str.{bytes_eq}
use Rattle.std.specs.FinMap as tree
use Rattle.std.proofs.lemmas.Bool.{and_from, and_parts, both_ways, le-leb, leb-true, lt-ltb, ltb-true}
use Rattle.std.proofs.lemmas.List.{length-take}
use Rattle.std.proofs.lemmas.List.Elements.{All-head}
use Rattle.std.proofs.lemmas.Option.{same_Some}
use Rattle.object_id.specs.declared.entry.VdiSpec.{VdiSpec}
use Rattle.object_id.specs.declared.limits.TheConstants.{BLOCK_BYTES, OBJECTS_MAX}
use Rattle.object_id.specs.declared.oid.Kind.{Kind}
use Rattle.object_id.specs.declared.oid.Kind.TheVariants.{Block}
use Rattle.object_id.specs.declared.oid.Vid.{Vid}
use Rattle.object_id.specs.Oid.{IsVid, kind_of, vid_of, inode_number, object_number}
use Rattle.object_store.specs.Bytes.{piece_at}
use Rattle.epoch_log.specs.Appending.{IsReservable}
use Rattle.inode.specs.Layout.{Content}
use Rattle.cluster_script.specs.declared.statement.Statement.{Statement}
use Rattle.disk_history.specs.Ledger.{Item, Ledger}
use Rattle.disk_history.specs.Ledger as histories
use Rattle.vdi_directory.specs.declared.effect.Effect.{Effect}
use Rattle.vdi_directory.specs.Decisions.{log_effects}
use Rattle.peer_proto.specs.declared.work.ObjWork.{ObjWork}
use Rattle.peer_proto.specs.Work.{oid_of}
use Rattle.gateway.specs.Work.{is_making}
use Rattle.gateway.specs.State.{Work}
use Rattle.guest_driver.specs.declared.act.DriverAct.TheVariants as driver_acts
use Rattle.guest_driver.specs.declared.disk.Disk.{Disk}
use Rattle.guest_driver.specs.Course.{IsAwaitedByDriver}
use Rattle.guest_driver.specs.BegunWorks.{IsPieceAmong}
use Rattle.guest_driver.specs.OnDisk.{pieces_left}
use Rattle.guest_driver.specs.Driver as drivers
use Rattle.guest_driver.specs.Driver.{Driver, Reads, Writes, InPlace, Fetching, Creating, Entering}
use Rattle.guest_driver.specs.Pieces.{Piece, piece_bytes}
use Rattle.guest_driver.specs.PieceWorks.{entry_of, read_piece, read_object, write_piece, write_entry}
use Rattle.vdi_ops.specs.InodeWorks.{read_inode}
use Rattle.vdi_ops.specs.Op as ops
use Rattle.vdi_ops.specs.Op.{Task, Opening, WritingBack, Tagging, Copying, Making, OpStage, Asked, Working, Publishing}
use Rattle.disk_check.specs.Check.{Check, CheckStage, Comparing, read_copies, write_value}
use Rattle.disk_check.specs.Check as checks
use Rattle.sheep_node.specs.declared.course.Course.{Course}
use Rattle.sheep_node.specs.declared.course.Course.TheVariants.{Waiting, Driving, Commanding, Checking, DoingWork, AwaitingDecision}
use Rattle.sheep_node.specs.SessionQueues.{session_among}
use Rattle.sheep_node.specs.SoundWorks.{IsSoundCourse}
use Rattle.sheep_world.specs.World.{Host}
use Rattle.sheep_world.specs.Began.{Began}
use Rattle.sheep_world.specs.RunsWithAsks.{Move}
use Rattle.overlap_law.specs.CreatedPieces.{anything, CreatesPiece}
use Rattle.overlap_law.specs.Courses.{IsOfTask, IsOfStage, IsOfCheckStage}
use Rattle.overlap_law.specs.Each.{spec_in}
use Rattle.overlap_law.specs.Headline.{ledger_of}
use Rattle.overlap_law.specs.KeptHistory.{CheckedValuesHaveItems, CreatesMayStay}
use Rattle.overlap_law.specs.MomentChanges.{MomentChange, MomentTrail, Then, RunsAreInRange}
use Rattle.overlap_law.specs.Past.{MomentWithPast, run_with_past}
use Rattle.overlap_law.specs.Pieces.{IsInPiece, HasItem, WritesHaveItems, bytes_for, left_to_write, payload_at}
use Rattle.overlap_law.specs.StayingBlocks.{IsBlockOfAnyDisk, MayStay, WorksMayStay}
use Rattle.overlap_law.specs.Units.{unit_start, unit_size, unit_end, covers_by, bytes_by}
use Rattle.overlap_law.specs.WrittenBlocks.{blocks_per_object, items_at, is_torn_here}
use Rattle.overlap_law.proofs.BytesOfCreates.{piece-of_piece, created_has}
use Rattle.overlap_law.proofs.CreatesFirst.{inside}
use Rattle.overlap_law.proofs.DisksOnTheWay.{disks_after}
use Rattle.overlap_law.proofs.DriverEntries.{no_inode}
use Rattle.overlap_law.proofs.ItemsGoOn.{same_bytes}
use Rattle.overlap_law.proofs.KnownDisks.{FewAt, IsKnownCourse, IsKnownInode, kind-of_object, vid-of_object}
use Rattle.overlap_law.proofs.CreatedInodes.{header_is}
use Rattle.overlap_law.proofs.LiveIds.{few_objects}
use Rattle.overlap_law.proofs.LogsReservable.{LogIsReservable, kept_reservable}
use Rattle.overlap_law.proofs.NoRecoveredDue.{began-with_past}
use Rattle.overlap_law.proofs.PiecesMade.{creates_of_pieces}
use Rattle.overlap_law.proofs.ReadsInMoments.{reading_after}
use Rattle.overlap_law.proofs.RunsByChanges.{on_the_way}
use Rattle.overlap_law.proofs.WaitedSteps.{no_id, Waits}
use Rattle.overlap_law.proofs.WorksInMoments.{well_after}
use Rattle.overlap_law.proofs.WorksOnTheWay.{IsOpenFor, works_after}
use Rattle.overlap_law.proofs.WriteObjects.{own_there}
use Rattle.overlap_law.proofs.AllowedCourses.{opened_by, IsAllowed}
use Rattle.sheep_node.proofs.SessionViews.{IsSeen}
use Rattle.peer_proto.specs.declared.work.ObjWork.TheVariants as works

-- ---- pieces

module _ (inode : Content) (payload : List ℕ) (piece : Piece) (unit : ℕ) (block : kind_of (object_number inode.vid piece.index) ≡ Block)
    (covers : covers_by unit (write_piece inode payload piece) ≡ true) where
  covered : nat_le piece.offset (unit_start Block unit)
      && nat_le (unit_end Block unit) (piece.offset + length (piece_bytes payload piece)) ≡ true
  covered =
      sym (ap (λ (k : Kind). nat_le piece.offset (unit_start k unit)
      && nat_le (unit_end k unit) (piece.offset + length (piece_bytes payload piece))) block)
      ∙ covers

  low : piece.offset ≤ BLOCK_BYTES * unit
  low =
      leb-true piece.offset (unit_start Block unit)
      (and_parts (nat_le piece.offset (unit_start Block unit))
      (nat_le (unit_end Block unit) (piece.offset + length (piece_bytes payload piece))) covered).0

  high : BLOCK_BYTES * unit + BLOCK_BYTES ≤ piece.offset + piece.size
  high =
      let most = leb-true (unit_end Block unit) (piece.offset + length (piece_bytes payload piece))
      (and_parts (nat_le piece.offset (unit_start Block unit))
      (nat_le (unit_end Block unit) (piece.offset + length (piece_bytes payload piece))) covered).1 in
      let long : length (piece_bytes payload piece) ≡ min (piece.place + piece.size - piece.place) (length (drop piece.place payload))
      = length-take (piece.place + piece.size - piece.place) (drop piece.place payload) in
      omega (arith, most, long)

  in_piece : IsInPiece piece unit
  in_piece = record { first = low; last = let end = high in omega (arith, end) }

  -- what the write has for the block is what the request has
  pub own_bytes : bytes_by unit (write_piece inode payload piece) ≡ bytes_for payload piece unit
  own_bytes =
      let end = high in
      let begin = low in
      ap (λ (k : Kind). piece_at (piece_bytes payload piece) (unit_start k unit - piece.offset) (unit_size k unit)) block
      ∙ piece-of_piece payload piece.place (BLOCK_BYTES * unit - piece.offset) (piece.place + piece.size - piece.place) BLOCK_BYTES
      (omega (arith, end, begin))

-- ---- at a moment behind a change

-- what makes nothing covers nothing
covers_none : (unit : ℕ) (work : ObjWork) → is_making work ≡ false → covers_by unit work ≡ false
covers_none unit (works.Create oid policy size offset bytes) none = absurd (cc (none))
covers_none unit (works.Write oid policy offset bytes) none = absurd (cc (none))
covers_none unit (works.Read oid policy offset size) none = refl
covers_none unit (works.ReadAll oid policy size) none = refl

module _ (script : List Statement) (range : RunsAreInRange script) (events : List Move) (start before after : MomentWithPast)
    (is_run : run_with_past script events ≡ Some start) (trail : MomentTrail script start before)
    (change : MomentChange script start before after) (good_id : ℕ → Bool) where
  abbrev ledger : Ledger
  ledger = ledger_of after.past.history

  abbrev effects : List Effect
  effects = log_effects after.world.log

  began : Began script start.world
  began = began-with_past script events start is_run

  reservable : All IsReservable after.world.log
  reservable = (on_the_way script LogIsReservable (kept_reservable script range) events start after is_run (Then trail change)).all

  module _ (written : WritesHaveItems (ledger_of after.past.history) after.world.hosts)
      (checked : CheckedValuesHaveItems (ledger_of after.past.history) after.world.hosts)
      (creates : CreatesMayStay (ledger_of after.past.history) (log_effects after.world.log) good_id after.world.hosts after.past.attempts)
      (n : ℕ) (host : Host) (there : tree.get after.world.hosts n ≡ Some host) (up : host.is_lost ≡ false) (req vid index unit : ℕ)
      (work : Work) (disk : histories.Disk) (spec : VdiSpec) (got : tree.get host.node.gateway.works req ≡ Some work)
      (object : oid_of work.work ≡ object_number vid index)
      (block : IsBlockOfAnyDisk (ledger_of after.past.history) (log_effects after.world.log) good_id vid disk spec index unit)
      (covers : covers_by unit work.work ≡ true) (whole : is_torn_here spec (items_at disk spec index unit) ≡ false) where
    abbrev Stays : ObjWork → Type 0
    Stays made = MayStay after.past.attempts (items_at disk spec index unit) (Some req) (bytes_by unit made)

    id : IsVid vid
    id = (header_is after.world.log reservable vid spec block.made_with).0

    few : index < OBJECTS_MAX
    few = few_objects after.world.log reservable vid index spec block.made_with block.object

    so : IsOpenFor script host.node req work.work
    so = works_after script range start began change n host there req work got

    -- an item of the request has its bytes
    by_item : (bytes : List ℕ) → HasItem (items_at disk spec index unit) req bytes
        → MayStay after.past.attempts (items_at disk spec index unit) (Some req) bytes
    by_item bytes has = record {
      place = has.place;
      item = has.item;
      among = has.among;
      same = subst (λ (b : List ℕ). bytes_eq has.item.bytes b ≡ true) has.same (same_bytes has.item.bytes);
      stays = inl has.of;
    }

    creates_piece : (opened : Disk) → (session_among so.request.session host.node.sessions).disk ≡ Some opened → (payload : List ℕ)
        (piece : Piece) (rest : List Piece) → so.request.course ≡ Driving (Writes payload Creating piece rest)
        → CreatesPiece anything opened.inode payload piece work.work
    creates_piece opened on payload piece rest course =
        creates_of_pieces script range events start after is_run (Then trail change) n host there up req work so.request opened payload
        piece rest got so.there on course

    -- what covers nothing, and what is on an inode
    no_cover : (what : ObjWork) → work.work ≡ what → covers_by unit what ≡ false → Stays work.work
    no_cover what same none = let never = ap (covers_by unit) same ∙ none in absurd (cc (never, covers))

    on_inode : (other : ℕ) → oid_of work.work ≡ inode_number other → Stays work.work
    on_inode other is = no_inode vid index other id few (sym object ∙ is)

    -- the disk that the session has open is that of the block
    module _ (opened : Disk) (on : (session_among so.request.session host.node.sessions).disk ≡ Some opened) (at : ℕ)
        (small : at < OBJECTS_MAX) (of : oid_of work.work ≡ object_number opened.inode.vid at) where
      known : IsKnownInode (log_effects after.world.log) opened.inode
      known = disks_after script range start began change n host there so.request.session opened on

      same_id : opened.inode.vid ≡ vid
      same_id =
          sym (vid-of_object opened.inode.vid at known.disk.id small) ∙ ap vid_of (sym of ∙ object) ∙ vid-of_object vid index id few

      same_index : at ≡ index
      same_index =
          let both : object_number opened.inode.vid at ≡ object_number vid index = sym of ∙ object in
          let ids = same_id in
          omega (arith, both, ids)

      same_spec : opened.inode.spec ≡ spec
      same_spec =
          same_Some opened.inode.spec spec
          (sym known.disk.made ∙ ap (λ (v : ℕ). spec_in (log_effects after.world.log) v) same_id ∙ block.made_with)

      same_items : items_at disk opened.inode.spec at unit ≡ items_at disk spec index unit
      same_items = λ i. items_at disk (same_spec i) (same_index i) unit

      on_disk : ledger.disks opened.inode.vid ≡ Some disk
      on_disk = ap ledger.disks same_id ∙ block.there

    -- where the object of a piece is created: a block of the piece gets what the write has for it
    by_place : (payload : List ℕ) (piece : Piece) (rest : List Piece) → so.request.course ≡ Driving (Writes payload Creating piece rest)
        → (opened : Disk) → (session_among so.request.session host.node.sessions).disk ≡ Some opened → piece.index < OBJECTS_MAX
        → oid_of work.work ≡ object_number opened.inode.vid piece.index → (b : Bool)
        → (nat_le piece.offset (BLOCK_BYTES * unit) && nat_lt (BLOCK_BYTES * unit) (piece.offset + piece.size)) ≡ b → Stays work.work
    by_place payload piece rest course opened on below of true inside =
        let both = and_parts (nat_le piece.offset (BLOCK_BYTES * unit)) (nat_lt (BLOCK_BYTES * unit) (piece.offset + piece.size)) inside in
        let is_in : IsInPiece piece unit = record {
          first = leb-true piece.offset (BLOCK_BYTES * unit) both.0;
          last = ltb-true (BLOCK_BYTES * unit) (piece.offset + piece.size) both.1;
        } in
        let knows = known opened on piece.index below of in
        let kind : kind_of (oid_of work.work) ≡ Block = ap kind_of of ∙ kind-of_object opened.inode.vid piece.index knows.disk.id below in
        let sound = (reading_after script range start began change n host there).sound in
        let among : IsPieceAmong payload piece
        = All-head (IsPieceAmong payload) piece rest (subst IsSoundCourse course (sound.courses req so.request so.there)) in
        let has = written.each n host there up req 0 unit so.request opened disk piece
        (record { there = so.there; on = on; known = on_disk opened on piece.index below of })
        (ap (λ (c : Course). slice_get (left_to_write opened.inode.spec.shift c) 0) course) is_in in
        let bytes : bytes_for (payload_at so.request.course) piece unit ≡ bytes_by unit work.work
        = ap (λ (c : Course). bytes_for (payload_at c) piece unit) course
        ∙ sym (created_has payload piece unit among is_in anything opened.inode work.work (sound.open_works req work got).range.is_work kind
        (creates_piece opened on payload piece rest course)).1 in
        by_item (bytes_by unit work.work)
        (subst (λ (b : List ℕ). HasItem (items_at disk spec index unit) req b) bytes
        (subst (λ (items : List Item). HasItem items req (bytes_for (payload_at so.request.course) piece unit))
        (same_items opened on piece.index below of) has))
    by_place payload piece rest course opened on below of false outside =
        creates.each n host there up req vid index unit work disk spec so.request opened payload piece rest got so.there on course
        (creates_piece opened on payload piece rest course) tt
        (λ is_in. both_ways (nat_le piece.offset (BLOCK_BYTES * unit) && nat_lt (BLOCK_BYTES * unit) (piece.offset + piece.size)) outside
        (and_from (nat_le piece.offset (BLOCK_BYTES * unit)) (nat_lt (BLOCK_BYTES * unit) (piece.offset + piece.size))
        (le-leb piece.offset (BLOCK_BYTES * unit) is_in.first) (lt-ltb (BLOCK_BYTES * unit) (piece.offset + piece.size) is_in.last)))
        object block covers whole

    -- a read or write
    driver_stays : (driver : Driver) → so.request.course ≡ Driving driver → (opened : Disk)
        → (session_among so.request.session host.node.sessions).disk ≡ Some opened
        → IsAwaitedByDriver opened.inode driver (driver_acts.Work work.work) → All FewAt (pieces_left driver) → Stays work.work
    driver_stays (Reads told piece rest) course opened on is small =
        no_cover (read_piece opened.inode piece (entry_of opened.inode piece)) (cc (is)) refl
    driver_stays (Writes payload InPlace piece rest) course opened on is small =
        let same : work.work ≡ write_piece opened.inode payload piece = cc (is) in
        let below : piece.index < OBJECTS_MAX = All-head FewAt piece rest small in
        let of : oid_of work.work ≡ object_number opened.inode.vid piece.index = ap oid_of same in
        let knows = known opened on piece.index below of in
        let kind : kind_of (object_number opened.inode.vid piece.index) ≡ Block
        = kind-of_object opened.inode.vid piece.index knows.disk.id below in
        let covered_so : covers_by unit (write_piece opened.inode payload piece) ≡ true = sym (ap (covers_by unit) same) ∙ covers in
        let has = written.each n host there up req 0 unit so.request opened disk piece
        (record { there = so.there; on = on; known = on_disk opened on piece.index below of })
        (ap (λ (c : Course). slice_get (left_to_write opened.inode.spec.shift c) 0) course)
        (in_piece opened.inode payload piece unit kind covered_so) in
        let bytes : bytes_for (payload_at so.request.course) piece unit ≡ bytes_by unit work.work
        = ap (λ (c : Course). bytes_for (payload_at c) piece unit) course
        ∙ sym (own_bytes opened.inode payload piece unit kind covered_so) ∙ ap (bytes_by unit) (sym same) in
        by_item (bytes_by unit work.work)
        (subst (λ (b : List ℕ). HasItem (items_at disk spec index unit) req b) bytes
        (subst (λ (items : List Item). HasItem items req (bytes_for (payload_at so.request.course) piece unit))
        (same_items opened on piece.index below of) has))
    driver_stays (Writes payload Fetching piece rest) course opened on is small =
        no_cover (read_object opened.inode piece (entry_of opened.inode piece)) (cc (is)) refl
    driver_stays (Writes payload Creating piece rest) course opened on (offset, bytes, is) small =
        let of : oid_of work.work ≡ object_number opened.inode.vid piece.index = cc (is) in
        by_place payload piece rest course opened on (All-head FewAt piece rest small) of
        (nat_le piece.offset (BLOCK_BYTES * unit) && nat_lt (BLOCK_BYTES * unit) (piece.offset + piece.size)) refl
    driver_stays (Writes payload Entering piece rest) course opened on is small =
        let same : work.work ≡ write_entry opened.inode piece = cc (is) in on_inode opened.inode.vid (ap oid_of same)
    driver_stays drivers.Answered course opened on (reply, is) small = absurd (cc (is))

    -- a command is on inodes
    task_stays : (own : Vid) (task : Task)
        → IsOfTask [] no_id [] (session_among so.request.session host.node.sessions).disk own task work.work → Stays work.work
    task_stays own (Opening snapshot ids header) is = no_cover (read_inode own.0 header.spec) is refl
    task_stays own (WritingBack inode) is = on_inode inode.vid (ap oid_of is.work_of)
    task_stays own (Tagging old inode) is = on_inode is.disk.inode.vid (ap oid_of is.work_of)
    task_stays own (Copying ids header) is = no_cover (read_inode is.vid.0 header.spec) is.work_of refl
    task_stays own (Making entry made) is = on_inode is.inode.vid (ap oid_of is.work_of)

    stage_stays : (stage : OpStage)
        → IsOfStage [] no_id [] (session_among so.request.session host.node.sessions).disk stage work.work → Stays work.work
    stage_stays (Asked entry) is = absurd is
    stage_stays (Working own task) is = task_stays own task is
    stage_stays (Publishing entry made) is = absurd is
    stage_stays (ops.Answered change) is = absurd is

    -- a check
    check_stays : (check : Check) → so.request.course ≡ Checking check → (opened : Disk)
        → (session_among so.request.session host.node.sessions).disk ≡ Some opened → check.vid ≡ opened.inode.vid → (stage : CheckStage)
        → IsOfCheckStage opened check stage work.work → Stays work.work
    check_stays check course opened on own (Comparing at later) is = no_cover (read_copies check at) is refl
    check_stays check course opened on own (checks.WritingBack later) is =
        let of : oid_of work.work ≡ object_number opened.inode.vid is.index
        = ap oid_of is.work_of ∙ ap (λ (v : ℕ). object_number v is.index) own in
        let held = disks_after script range start began change n host there so.request.session opened on in
        let within = inside opened.inode.table is.index opened.inode.vid (own_there opened.inode is.before later is.index is.own)
        held.disk.id.0 in
        let count = held.count in
        let small : is.index < OBJECTS_MAX = omega (arith, within, count) in
        let spec_so = same_spec opened on is.index small of in
        let at_so = same_index opened on is.index small of in
        let has = checked.each n host there up req is.index unit check is.value opened disk
        (record {
          request = so.request;
          on = record { there = so.there; on = on; known = on_disk opened on is.index small of };
          course = course;
        })
        (record { open_work = work; there = got; same = is.work_of })
        (record {
          inside = subst (λ (s : VdiSpec). unit < blocks_per_object s) (sym spec_so) block.inside;
          block = subst (λ (s : VdiSpec). is.index * blocks_per_object s + unit < disk.blocks) (sym spec_so)
              (subst (λ (k : ℕ). k * blocks_per_object spec + unit < disk.blocks) (sym at_so) block.block);
        }) in
        by_item (bytes_by unit work.work)
        (subst (λ (b : List ℕ). HasItem (items_at disk spec index unit) req b) (ap (bytes_by unit) (sym is.work_of))
        (subst (λ (items : List Item). HasItem items req (bytes_by unit (write_value check is.index is.value)))
        (same_items opened on is.index small of) has))
    check_stays check course opened on own checks.Answered is = absurd is

    work_stays : Stays work.work
    work_stays = by_course so.request.course refl so.waits
      where
        by_course : (course : Course) → so.request.course ≡ course
            → Waits (session_among so.request.session host.node.sessions).disk course work.work
            → Stays work.work
        by_course (Waiting ask) same waits = absurd waits.0
        by_course (Driving driver) same (is, own) =
            let well = well_after script range start began change n host there in
            driver_stays driver same is.disk is.there is.awaited
            (subst (IsKnownCourse well.known) same (well.on_known.courses req so.request so.there))
        by_course (Commanding op) same waits = stage_stays op.stage waits.0
        by_course (Checking check) same (is, (disk, opened, own)) =
            let here : is.disk ≡ disk = same_Some is.disk disk (sym is.there ∙ opened) in
            check_stays check same is.disk is.there (own ∙ ap (λ (d : Disk). d.inode.vid) (sym here)) check.stage is.is
        by_course (DoingWork asked) same waits =
            let allowed : IsAllowed (opened_by (session_among so.request.session host.node.sessions)) so.request.course
            = subst (IsSeen opened_by IsAllowed host.node.sessions) so.there
            ((well_after script range start began change n host there).allowed req) in
            no_cover asked waits.0
            (covers_none unit asked (subst (IsAllowed (opened_by (session_among so.request.session host.node.sessions))) same allowed))
        by_course (AwaitingDecision entry) same waits = absurd waits.0

  pub works_to_stay : WritesHaveItems (ledger_of after.past.history) after.world.hosts
      → CheckedValuesHaveItems (ledger_of after.past.history) after.world.hosts
      → CreatesMayStay (ledger_of after.past.history) (log_effects after.world.log) good_id after.world.hosts after.past.attempts
      → WorksMayStay (ledger_of after.past.history) (log_effects after.world.log) good_id after.world.hosts after.past.attempts
  works_to_stay written checked creates = record {
    each = λ n host there up req vid index unit work disk spec got object block covers whole.
        work_stays written checked creates n host there up req vid index unit work disk spec got object block covers whole;
  }
