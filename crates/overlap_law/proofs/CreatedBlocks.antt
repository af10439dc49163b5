-- Behind each change of a moment on the way of an event: what an open create of a write would make of a block beside its piece may be read
-- of it, whichever requests are refused, where the change keeps the history otherwise. Of a hole it makes zeros, and the inode may come to
-- have a hole there; of another disk's object, where that isn't in strips, what was read of it, by which the block may come to be read.
use Rattle.std.proofs.Common.{◌≡◌, ◌≢◌, ◌⊎◌, inl, inr, ⊎_elim, arith, ℕ, ◌+◌, ◌*◌, ◌≤◌, ◌<◌, Bool, true, false, All}
use Rattle.std.proofs.Common.{List, [], ◌∷◌, ◌++◌, length, Some, None, refl, sym, ap, subst, ◌∙◌}
use Rattle.std.specs.FinMap as tree
use Rattle.std.specs.Str.{bytes_eq}
use Rattle.std.proofs.lemmas.List.Elements.{All-head}
use Rattle.std.proofs.lemmas.Option.{same_Some}
use Rattle.std.proofs.lemmas.Slice.Eq.{bytes_eq-Decides}
use Rattle.object_id.specs.declared.entry.VdiSpec.{VdiSpec}
use Rattle.object_id.specs.declared.limits.TheConstants.{BLOCK_BYTES, OBJECTS_MAX}
use Rattle.object_id.specs.declared.oid.Kind.TheVariants.{Block}
use Rattle.object_id.specs.Fields.{zeros}
use Rattle.object_id.specs.Oid.{IsVid, kind_of, object_number, vid_of}
use Rattle.object_id.specs.Spec.{objects_of}
use Rattle.object_store.specs.Bytes.{piece_at}
use Rattle.epoch_log.specs.Appending.{IsReservable}
use Rattle.gf256.specs.Part.{is_in_strips}
use Rattle.cluster_script.specs.declared.statement.Statement.{Statement}
use Rattle.disk_history.specs.Ledger.{Item, Ledger}
use Rattle.disk_history.specs.Ledger as histories
use Rattle.vdi_directory.specs.declared.effect.Effect.{Effect}
use Rattle.vdi_directory.specs.Dead.{is_dead}
use Rattle.vdi_directory.specs.Decisions.{log_effects}
use Rattle.peer_proto.specs.declared.work.ObjWork.{ObjWork}
use Rattle.peer_proto.specs.Work.{IsWork, oid_of}
use Rattle.gateway.specs.State.{Work}
use Rattle.guest_driver.specs.BegunWorks.{IsPieceAmong}
use Rattle.guest_driver.specs.declared.disk.Disk.{Disk}
use Rattle.guest_driver.specs.Driver.{Writes, Creating}
use Rattle.guest_driver.specs.Pieces.{Piece}
use Rattle.guest_driver.specs.PieceWorks.{entry_of, object_bytes, create_piece, create_copy}
use Rattle.sheep_node.specs.May.{is_disk_course}
use Rattle.sheep_node.specs.SessionQueues.{session_among}
use Rattle.sheep_node.specs.SoundWorks.{IsSoundCourse}
use Rattle.sheep_node.specs.State.{session_at}
use Rattle.sheep_node.specs.declared.course.Course.TheVariants.{Driving}
use Rattle.sheep_node.specs.declared.course.Request.{Request}
use Rattle.sheep_node.proofs.SessionViews.{IsSeen}
use Rattle.sheep_world.specs.Began.{Began}
use Rattle.sheep_world.specs.World.{Host}
use Rattle.sheep_world.specs.RunsWithAsks.{Move}
use Rattle.overlap_law.specs.Attempts.{AttemptRecord}
use Rattle.overlap_law.specs.CreatedPieces.{anything, CreatesPiece, OfHole, OfCopy}
use Rattle.overlap_law.specs.Each.{spec_in}
use Rattle.overlap_law.specs.Headline.{ledger_of}
use Rattle.overlap_law.specs.HistoryStands.{CallsAvailable}
use Rattle.overlap_law.specs.LastReads.{was_snapped}
use Rattle.overlap_law.specs.KeptHistory.{EntriesKeepBlocks, RepliesAreAlone, CommandsWriteWhatMayCome, CreatesMayStay, StripCopiesMayStay}
use Rattle.overlap_law.specs.MomentChanges.{IsOnTheWay, Then, RunsAreInRange}
use Rattle.overlap_law.specs.OpenedTables.{InodesStay}
use Rattle.overlap_law.specs.Past.{MomentWithPast}
use Rattle.overlap_law.specs.Pieces.{IsInPiece}
use Rattle.overlap_law.specs.ServedLast.{IsServedLast, makes_unit, no_work, IsReadOfSnapshot, IsFetchedServed}
use Rattle.overlap_law.specs.StayingBlocks.{IsBlockOfAnyDisk, Stays, MayStay, IsHomeToCome, BlocksStayWritten, GrowsKeeping}
use Rattle.overlap_law.specs.Tables.{entry_by}
use Rattle.overlap_law.specs.TiedAttempts.{IsTied}
use Rattle.overlap_law.specs.ToCome.{IsToCome, IsEntryToCome}
use Rattle.overlap_law.specs.Units.{covers_by}
use Rattle.overlap_law.specs.Words.{bytes_by, is_mute}
use Rattle.overlap_law.specs.WrittenBlocks.{blocks_per_object, items_at, is_torn_here}
use Rattle.overlap_law.proofs.AttemptsBegin.{IsNew, old_or_new}
use Rattle.overlap_law.proofs.BlocksInMoments.{holes_stay, old_stays}
use Rattle.overlap_law.proofs.CausedWorks.{HasWellWorks}
use Rattle.overlap_law.proofs.CoveredCourses.{size_and_queue, IsCovered}
use Rattle.overlap_law.proofs.CoveredPieces.{CoversPiece}
use Rattle.overlap_law.proofs.CreatedBytes.{hole_beside, copy_beside}
use Rattle.overlap_law.proofs.CreatedFetches.{ends_inside}
use Rattle.overlap_law.proofs.CreatedInodes.{header_is}
use Rattle.overlap_law.proofs.CreatedServed.{none_on_snapped, creates_served}
use Rattle.overlap_law.proofs.DisksOnTheWay.{disks_after}
use Rattle.overlap_law.proofs.DisksPublished.{AreOut, kept_out, disks_out}
use Rattle.overlap_law.proofs.DoneReplies.{done_replied}
use Rattle.overlap_law.proofs.EndsKeepBlocks.{ends_keep}
use Rattle.overlap_law.proofs.EntersToCome.{enters_to_come}
use Rattle.overlap_law.proofs.HistoryTests.{test_before, test_at_start}
use Rattle.overlap_law.proofs.KnownDisks.{FewAt, IsKnownInode, IsKnownCourse, kind-of_object, vid-of_object}
use Rattle.overlap_law.proofs.LiveIds.{few_objects}
use Rattle.overlap_law.proofs.LogsReservable.{LogIsReservable, kept_reservable}
use Rattle.overlap_law.proofs.NoRecoveredDue.{began-with_past}
use Rattle.overlap_law.proofs.QueuesInMoments.{HasGoodQueues, queues_after}
use Rattle.overlap_law.proofs.ReadsInMoments.{reading_after}
use Rattle.overlap_law.proofs.ReadsToldTables.{inodes_along}
use Rattle.overlap_law.proofs.RunsByChanges.{on_the_way}
use Rattle.overlap_law.proofs.ServedBackInRuns.{commands_write-by_tests}
use Rattle.overlap_law.proofs.ServedLast.{alone_comes}
use Rattle.overlap_law.proofs.TablesOfReads.{table_comes}
use Rattle.overlap_law.proofs.TiedInRuns.{kept_tied}
use Rattle.overlap_law.proofs.TrafficOfChanges.{traffic}
use Rattle.overlap_law.proofs.WorksInMoments.{well_after}

module _ (script : List Statement) (range : RunsAreInRange script) (events : List Move) (event : Move)
    (start end before after : MomentWithPast) (way : IsOnTheWay script events event start end before after) (good_id : ℕ → Bool)
    (test : CallsAvailable start after good_id) (replies : RepliesAreAlone script good_id start before after)
    (entries : EntriesKeepBlocks good_id before after)
    (written : BlocksStayWritten (ledger_of before.past.history) (log_effects before.world.log) good_id before.world.hosts
    before.past.attempts) where
  abbrev effects : List Effect
  effects = log_effects after.world.log

  abbrev ledger : Ledger
  ledger = ledger_of after.past.history

  began : Began script start.world
  began = began-with_past script events start way.run

  commands : CommandsWriteWhatMayCome good_id before after
  commands = commands_write-by_tests script range events event start end before after way good_id test

  grows : GrowsKeeping (log_effects after.world.log) good_id after.world.hosts after.past.attempts before.past.history
      after.past.history
  grows =
      ends_keep script range events start way.run good_id way.change way.behind (done_replied script range start began good_id way.change
      replies) entries

  reservable : All IsReservable after.world.log
  reservable =
      (on_the_way script LogIsReservable (kept_reservable script range) events start after way.run (Then way.behind way.change)).all

  inodes : InodesStay (log_effects after.world.log) good_id after.world.hosts after.past.attempts
  inodes = inodes_along script range events start way.run good_id test.fewer
      (test_at_start script way.change good_id (test_before script way.change good_id test)) (Then way.behind way.change)

  module _ (n : ℕ) (host : Host) (there : tree.get after.world.hosts n ≡ Some host) (up : host.is_lost ≡ false) (req vid index unit : ℕ)
      (work : Work) (disk : histories.Disk) (spec : VdiSpec) (request : Request) (opened : Disk) (payload : List ℕ) (piece : Piece)
      (rest : List Piece) (got : tree.get host.node.gateway.works req ≡ Some work)
      (asked : tree.get host.node.requests req ≡ Some request) (on : (session_at request.session host.node).disk ≡ Some opened)
      (course : request.course ≡ Driving (Writes payload Creating piece rest))
      (made : CreatesPiece anything opened.inode payload piece work.work) (outside : IsInPiece piece unit → ⊥)
      (object : oid_of work.work ≡ object_number vid index)
      (block : IsBlockOfAnyDisk (ledger_of after.past.history) (log_effects after.world.log) good_id vid disk spec index unit)
      (covers : covers_by unit work.work ≡ true) (whole : is_torn_here spec (items_at disk spec index unit) ≡ false) where
    abbrev items : List Item
    items = items_at disk spec index unit

    abbrev Stands : ObjWork → Type 0
    Stands what = MayStay after.past.attempts (items_at disk spec index unit) (Some req) (bytes_by unit what)

    -- ---- the block is one of the disk that the session has open

    well : HasWellWorks host.node
    well = well_after script range start began way.change n host there

    known : IsKnownInode (log_effects after.world.log) opened.inode
    known = disks_after script range start began way.change n host there request.session opened on

    id : IsVid vid
    id = (header_is after.world.log reservable vid spec block.made_with).0

    few : index < OBJECTS_MAX
    few = few_objects after.world.log reservable vid index spec block.made_with block.object

    small : piece.index < OBJECTS_MAX
    small = All-head FewAt piece rest (subst (IsKnownCourse well.known) course (well.on_known.courses req request asked))

    of : oid_of work.work ≡ object_number opened.inode.vid piece.index
    of = by_create made
      where
        by_create : CreatesPiece anything opened.inode payload piece work.work
            → oid_of work.work ≡ object_number opened.inode.vid piece.index
        by_create (OfHole hole same) = ap oid_of same
        by_create (OfCopy old some apart long same fetched) = ap oid_of same

    pub same_id : opened.inode.vid ≡ vid
    same_id =
        sym (vid-of_object opened.inode.vid piece.index known.disk.id small) ∙ ap vid_of (sym of ∙ object) ∙ vid-of_object vid index id few

    pub same_index : piece.index ≡ index
    same_index =
        let both : object_number opened.inode.vid piece.index ≡ object_number vid index = sym of ∙ object in
        let ids = same_id in
        omega (arith, both, ids)

    pub same_spec : opened.inode.spec ≡ spec
    same_spec =
        same_Some opened.inode.spec spec
        (sym known.disk.made ∙ ap (λ (v : ℕ). spec_in (log_effects after.world.log) v) same_id ∙ block.made_with)

    pub good : good_id opened.inode.vid ≡ true
    good = ap good_id same_id ∙ block.good

    pub lives : is_dead (log_effects after.world.log) opened.inode.vid ≡ false
    lives = ap (is_dead (log_effects after.world.log)) same_id ∙ block.alive

    kind : kind_of (object_number opened.inode.vid piece.index) ≡ Block
    kind = kind-of_object opened.inode.vid piece.index known.disk.id small

    pub below : unit < blocks_per_object opened.inode.spec
    below = subst (λ (s : VdiSpec). unit < blocks_per_object s) (sym same_spec) block.inside

    inside : BLOCK_BYTES * unit + BLOCK_BYTES ≤ object_bytes opened.inode
    inside = ends_inside (object_bytes opened.inode) unit below

    is_work : IsWork work.work
    is_work = ((reading_after script range start began way.change n host there).sound.open_works req work got).range.is_work

    among : IsPieceAmong payload piece
    among =
        All-head (IsPieceAmong payload) piece rest
        (subst IsSoundCourse course ((reading_after script range start began way.change n host there).sound.courses req request asked))

    -- ---- what the inode may come to have

    pub table_so : (j : ℕ) × (entry : AttemptRecord) × IsEntryToCome after.world.hosts after.past.attempts vid index j entry
        × (entry_by index entry ≡ entry_of opened.inode piece)
    table_so =
        let queues : HasGoodQueues host.node = queues_after script range start began way.change n host there in
        let covered : IsCovered req (size_and_queue (session_among request.session host.node.sessions))
        (Driving (Writes payload Creating piece rest))
        = subst (IsCovered req (size_and_queue (session_among request.session host.node.sessions))) course
        (subst (IsSeen size_and_queue (IsCovered req) host.node.sessions) asked (queues.covered req)) in
        let inside_so : piece.index < objects_of opened.inode.spec
        = subst (λ (s : VdiSpec). piece.index < objects_of s) (sym same_spec)
        (subst (λ (k : ℕ). k < objects_of spec) (sym same_index) block.object) in
        let (j, entry, comes, own) = table_comes script range events start way.run after (Then way.behind way.change) n host there up
        request.session
        opened on req request asked refl (ap is_disk_course course) covered.0
        (λ bytes one later entering. let never = sym course ∙ entering in cc (never)) good_id inodes.tables good lives piece.index
        inside_so (λ one among_queue its. All-head (CoversPiece one) piece rest (covered.1 one among_queue its).0) in (
          j,
          entry,
          subst (λ (v : ℕ). IsEntryToCome after.world.hosts after.past.attempts v index j entry) same_id
              (subst (λ (k : ℕ). IsEntryToCome after.world.hosts after.past.attempts opened.inode.vid k j entry) same_index comes),
          ap (λ (k : ℕ). entry_by k entry) (sym same_index) ∙ own,
        )

    -- ---- of a hole

    of_hole : entry_of opened.inode piece ≡ 0 → work.work ≡ create_piece opened.inode payload piece → Stands work.work
    of_hole hole same =
        let (j, entry, comes, own) = table_so in
        let may = holes_stay script range events start before after way.run way.behind way.change good_id
        (disks_out before (on_the_way script AreOut (kept_out script range) events start before way.run way.behind))
        (disks_out after (on_the_way script AreOut (kept_out script range) events start after way.run (Then way.behind way.change)))
        (enters_to_come script range events start before after way.run way.behind way.change good_id commands) written grows vid index unit
        disk spec block j entry comes (own ∙ hole) in
        let bytes : zeros BLOCK_BYTES ≡ bytes_by unit work.work
        = sym (ap (λ (w : ObjWork). bytes_by unit w) same
        ∙ hole_beside payload piece unit among outside opened.inode kind inside (subst IsWork same is_work)) in
        subst (λ (b : List ℕ). MayStay after.past.attempts (items_at disk spec index unit) (Some req) b) bytes (record {
          place = may.place;
          item = may.item;
          among = may.among;
          same = may.same;
          stays = ⊎_elim
              (λ (none : may.item.request ≡ None). inr (inl none))
              (λ (stays : Stays after.past.attempts may.item). inr stays)
              may.stays;
        })

    -- ---- of another disk's object

    abbrev home : ℕ
    home = entry_of opened.inode piece

    module _ (some : entry_of opened.inode piece ≢ 0) (home_id : IsVid (entry_of opened.inode piece))
        (snapped : was_snapped after.world.log (entry_of opened.inode piece) ≡ true) where
      -- what the block may come to be read as there, may be read of it
      module _ (place : ℕ) (one : AttemptRecord) (comes : IsToCome after.world.hosts after.past.attempts
          (object_number (entry_of opened.inode piece) piece.index) unit place one) where
        -- nothing begins there, so it was before
        was_there : place < length before.past.attempts
        was_there = ⊎_elim
            (λ (was : place < length before.past.attempts). was)
            (λ (new : IsNew before.world.hosts after.world.hosts before.past.attempts after.past.attempts one).
            absurd (none_on_snapped script range events start before after way.run way.behind way.change home piece.index one
            (vid-of_object home piece.index home_id small) snapped
            (new.begins.is ∙ ap (λ (a : AttemptRecord). before.past.attempts ++ a ∷ []) new.same) comes.object))
            (old_or_new before.world.hosts after.world.hosts before.world.wire after.world.wire before.past.attempts after.past.attempts
            (traffic script range start began way.change) place one comes.there)

        pub home_stays : MayStay after.past.attempts (items_at disk spec index unit) (Some one.req) (bytes_by unit one.work)
        home_stays =
            let (j, entry, entry_comes, own) = table_so in
            let home_comes : IsHomeToCome after.world.hosts after.past.attempts vid index home = inl (j, entry, entry_comes, own) in
            old_stays script range events start before after way.run way.behind way.change good_id
            (disks_out before (on_the_way script AreOut (kept_out script range) events start before way.run way.behind))
            (disks_out after (on_the_way script AreOut (kept_out script range) events start after way.run (Then way.behind way.change)))
            (enters_to_come script range events start before after way.run way.behind way.change good_id commands) written grows vid index
            unit disk spec block whole home home_comes some place one
            (subst (λ (k : ℕ). IsToCome after.world.hosts after.past.attempts (object_number home k) unit place one) same_index comes)
            was_there

        -- so may a copy of it
        pub copied : (bytes : List ℕ) → length bytes ≡ object_bytes opened.inode → work.work ≡ create_copy opened.inode payload piece bytes
            → is_mute one ≡ false → piece_at bytes (BLOCK_BYTES * unit) BLOCK_BYTES ≡ bytes_by unit one.work → Stands work.work
        copied bytes long same served is =
            let may = home_stays in
            let same_bytes : bytes_by unit one.work ≡ bytes_by unit work.work
            = sym is
            ∙ sym (ap (λ (w : ObjWork). bytes_by unit w) same
            ∙ copy_beside payload piece unit among outside opened.inode kind inside bytes long (subst IsWork same is_work)) in
            subst (λ (b : List ℕ). MayStay after.past.attempts (items_at disk spec index unit) (Some req) b) same_bytes (record {
              place = may.place;
              item = may.item;
              among = may.among;
              same = may.same;
              stays = ⊎_elim
                  (λ (its : may.item.request ≡ Some one.req).
                  inr (inr (inr (one.req, its, record { place = place; attempt = one; there = comes.there; of = refl; served = served }))))
                  (λ (stays : Stays after.past.attempts may.item). inr stays)
                  may.stays;
            })

    -- ---- of whole copies

    of_copy : (bytes : List ℕ) → entry_of opened.inode piece ≢ 0 → length bytes ≡ object_bytes opened.inode
        → work.work ≡ create_copy opened.inode payload piece bytes
        → IsReadOfSnapshot after.world.log after.world.hosts after.past.attempts opened.inode.spec (entry_of opened.inode piece) piece.index
        bytes → Stands work.work
    of_copy bytes some long same read =
        let read_block : List ℕ = piece_at bytes (BLOCK_BYTES * unit) BLOCK_BYTES in
        let s : IsServedLast (makes_unit unit read_block) no_work after.world.hosts after.past.attempts
        (object_number home piece.index) unit = read.served unit below in
        copied some read.id read.snapped s.place s.one
        (alone_comes (makes_unit unit read_block) after.world.hosts after.past.attempts (object_number home piece.index) unit
        (on_the_way script IsTied (kept_tied script range) events start after way.run (Then way.behind way.change)).fates.whole s)
        bytes long same s.served ((bytes_eq-Decides read_block (bytes_by unit s.one.work)).0 s.is)

    may_stay : StripCopiesMayStay (ledger_of after.past.history) (log_effects after.world.log) good_id after.world.hosts after.past.attempts
        → Stands work.work
    may_stay strips =
        by_create
        (creates_served script range events event start end way.run way.happens good_id (Then way.behind way.change) way.left test n host
        there up req work request opened payload piece rest got asked on course)
      where
        by_create : CreatesPiece (IsFetchedServed after.world.log good_id after.world.hosts after.past.attempts) opened.inode payload
            piece work.work
            → Stands work.work
        by_create (OfHole hole same) = of_hole hole same
        by_create (OfCopy bytes some apart long same fetched) = by_kind (is_in_strips opened.inode.spec.policy Block) refl
          where
            by_kind : (b : Bool) → is_in_strips opened.inode.spec.policy Block ≡ b → Stands work.work
            by_kind true coded =
                strips.each n host there up req vid index unit work disk spec request opened payload piece rest got asked on course made
                (coded, some) outside object block covers whole
            by_kind false copies = of_copy bytes some long same (fetched good lives copies)

  pub creates_stay : StripCopiesMayStay (ledger_of after.past.history) (log_effects after.world.log) good_id after.world.hosts
      after.past.attempts
      → CreatesMayStay (ledger_of after.past.history) (log_effects after.world.log) good_id after.world.hosts after.past.attempts
  creates_stay strips = record {
    each = λ n host there up req vid index unit work disk spec request opened payload piece rest got asked on course made anyway outside
        object block covers whole.
        may_stay n host there up req vid index unit work disk spec request opened payload piece rest got asked on course made outside object
        block covers whole strips;
  }
