-- In each run in range, on the way of an event: what comes of the piece of a read is as long as the piece, and of a disk that is good, by
-- a test that calls none good that wasn't available as the event began, it is what the piece's blocks may come to have, if its objects
-- aren't in strips; and the holes that reads come to are holes that the inode may come to have.
use Rattle.std.proofs.Common.{◌≡◌, ◌≢◌, ◌⊎◌, inl, inr, ⊎_elim, arith, ℕ, zero, suc, ◌+◌, ◌*◌, ◌%◌, ◌≤◌, ◌<◌, Bool, true, false, All}
use Rattle.std.proofs.Common.{Contains, List, [], ◌∷◌, length, Option, Some, IfSome, slice_index, refl, sym, ap, subst, ◌∙◌}
use Rattle.std.specs.FinMap as tree
use Rattle.std.proofs.lemmas.List.Elements.{All-nil, All-cons, All-head, All-tail}
use Rattle.std.proofs.lemmas.Option.{same_Some}
use Rattle.proof_tools.proofs.FiniteMaps.{get-insert_same}
use Rattle.object_id.specs.declared.entry.Entry.{Entry}
use Rattle.object_id.specs.declared.limits.TheConstants.{OBJECTS_MAX, BLOCK_BYTES}
use Rattle.object_id.specs.declared.oid.Kind.{Kind}
use Rattle.object_id.specs.declared.oid.Kind.TheVariants.{Block}
use Rattle.object_id.specs.Oid.{IsOid, IsVid, kind_of, object_number, vid_of}
use Rattle.object_id.specs.Spec.{objects_of}
use Rattle.gf256.specs.Part.{is_in_strips}
use Rattle.inode.specs.Layout.{IsEntry}
use Rattle.cluster_script.specs.declared.statement.Statement.{Statement}
use Rattle.disk_history.specs.Ledger.{Ledger}
use Rattle.peer_proto.specs.declared.guest.DiskAsk.TheVariants as disk_asks
use Rattle.peer_proto.specs.declared.work.ObjWork.{ObjWork}
use Rattle.peer_proto.specs.Work.{oid_of}
use Rattle.gateway.specs.Attempt as gateways
use Rattle.gateway.specs.declared.message.Status.{Status}
use Rattle.gateway.specs.State.{Work}
use Rattle.gateway.specs.Work.{bytes_of_work}
use Rattle.gateway_queue.specs.declared.queue.Queued.{Queued}
use Rattle.gateway_queue.specs.Queue.{may_run, Covers}
use Rattle.guest_driver.specs.declared.act.DriverAct.TheVariants as acts
use Rattle.guest_driver.specs.declared.disk.Disk.{Disk}
use Rattle.guest_driver.specs.Course.{IsAwaitedByDriver}
use Rattle.guest_driver.specs.Driver.{Reads}
use Rattle.guest_driver.specs.Pieces.{Piece, AreBlocks, pieces}
use Rattle.guest_driver.specs.PieceWorks.{entry_of, read_piece}
use Rattle.vdi_directory.specs.declared.effect.Effect.{Effect}
use Rattle.vdi_directory.specs.Dead.{is_gone}
use Rattle.vdi_directory.specs.Decisions.{log_effects}
use Rattle.vdi_directory.specs.Chains.{is_above}
use Rattle.vdi_directory.specs.States.{state_of, is_live_state}
use Rattle.sheep_node.specs.declared.course.Course.{Course}
use Rattle.sheep_node.specs.declared.course.Course.TheVariants.{Waiting, Driving}
use Rattle.sheep_node.specs.declared.course.Request.{Request}
use Rattle.sheep_node.specs.declared.session.Session.{Session}
use Rattle.sheep_node.specs.Changes.{HasRequest, EndsWork}
use Rattle.sheep_node.specs.SessionQueues.{session_among, queue_in}
use Rattle.sheep_node.specs.SoundWorks.{IsSoundInode}
use Rattle.sheep_node.specs.State.{session_at}
use Rattle.sheep_node.specs.StepState.{StepState}
use Rattle.sheep_node.proofs.SessionViews.{IsSeen}
use Rattle.sheep_world.specs.Began.{Began}
use Rattle.sheep_world.specs.NodeCauses.{host_with_node, input_of_cause}
use Rattle.sheep_world.specs.World.{Host}
use Rattle.sheep_world.specs.RunsWithAsks.{Move}
use Rattle.overlap_law.specs.Attempts.{AttemptRecord}
use Rattle.overlap_law.specs.BornObjects.{IsBorn}
use Rattle.overlap_law.specs.Courses.{WaitsFor}
use Rattle.overlap_law.specs.Fates.{IsCreated}
use Rattle.overlap_law.specs.Holders.{is_available_disk}
use Rattle.overlap_law.specs.MomentChanges.{MomentTrail, RunsAreInRange}
use Rattle.overlap_law.specs.NamedWorks.{AboveIsGood}
use Rattle.overlap_law.specs.OpenedTables.{InodesStay}
use Rattle.overlap_law.specs.Overlap.{CallsFewer}
use Rattle.overlap_law.specs.Past.{MomentWithPast, run_with_past}
use Rattle.overlap_law.specs.Pieces.{IsInPiece}
use Rattle.overlap_law.specs.StandingReads.{ReadPiecesAreToCome, ReadHolesAreToCome, StripPiecesAreToCome}
use Rattle.overlap_law.specs.StayingBlocks.{IsHomeToCome}
use Rattle.overlap_law.specs.StepMoments.{SteppingNode, IsStepping, StepsByChanges, LeadsInStep, first_in_step, moment_in_step}
use Rattle.overlap_law.specs.Tables.{IsOfChain, entry_by}
use Rattle.overlap_law.specs.ToCome.{IsEntryToCome}
use Rattle.overlap_law.specs.ToldReads.{PieceIsToCome, HoleIsToCome, HolesAreToCome}
use Rattle.overlap_law.specs.Units.{unit_start, unit_end}
use Rattle.overlap_law.proofs.AnswersInMoments.{not_lost}
use Rattle.overlap_law.proofs.CarriedRows.{good_at}
use Rattle.overlap_law.proofs.CausedWorks.{HasWellWorks}
use Rattle.overlap_law.proofs.CoveredCourses.{size_and_queue, shift_open, IsCovered}
use Rattle.overlap_law.proofs.CoveredPieces.{CoversPiece, all_covered}
use Rattle.overlap_law.proofs.CreatesFirst.{session_of, inside as inside_table}
use Rattle.overlap_law.proofs.DoneWorks.{bytes_long}
use Rattle.overlap_law.proofs.GoodDisks.{IsBelow, good_below}
use Rattle.overlap_law.proofs.KnownDisks.{FewAt, kind-of_object, vid-of_object}
use Rattle.overlap_law.proofs.KnownReads.{entry_at, hole_none}
use Rattle.overlap_law.proofs.LogsOfMoments.{log_by_changes}
use Rattle.overlap_law.proofs.MadeForDisks.{stands_alive}
use Rattle.overlap_law.proofs.NoMissingObjects.{live_stands}
use Rattle.overlap_law.proofs.NoRecoveredDue.{began-with_past}
use Rattle.overlap_law.proofs.OpeningReads.{step_known, knows_well}
use Rattle.overlap_law.proofs.OpenTables.{entries_of_chain, whole_tables}
use Rattle.overlap_law.proofs.PiecesReadToCome.{piece_to_come}
use Rattle.overlap_law.proofs.QueuesInMoments.{HasGoodQueues}
use Rattle.overlap_law.proofs.ReadsInMoments.{IsReadingWell}
use Rattle.overlap_law.proofs.ReadsToldTables.{tables_along, inodes_along}
use Rattle.overlap_law.proofs.ReadUnits.{read_born}
use Rattle.overlap_law.proofs.TablesOfReads.{queues_along, reading_along, table_comes}
use Rattle.overlap_law.proofs.ToldPiecesInRuns.{told_pieces-in_run}
use Rattle.overlap_law.proofs.WaitedSteps.{no_id, Waits}
use Rattle.overlap_law.proofs.WorksInMoments.{well_along}

positive : (k : ℕ) → k ≢ 0 → 1 ≤ k
positive zero some = absurd (some refl)
positive (suc k) some = omega arith

-- what a read waits for is its piece
awaited_piece : (disk : Disk) (told : List ℕ) (piece : Piece) (rest : List Piece) (work : ObjWork)
    → IsAwaitedByDriver disk.inode (Reads told piece rest) (acts.Work work)
    → work ≡ read_piece disk.inode piece (entry_of disk.inode piece)
awaited_piece disk told piece rest work is = cc (is)

read_on_disk : (opened : Option Disk) (told : List ℕ) (piece : Piece) (rest : List Piece) (work : ObjWork)
    → WaitsFor [] no_id [] opened (Driving (Reads told piece rest)) work → (disk : Disk) → opened ≡ Some disk
    → work ≡ read_piece disk.inode piece (entry_of disk.inode piece)
read_on_disk opened told piece rest work waits disk on =
    let same : waits.disk ≡ disk = same_Some waits.disk disk (sym waits.there ∙ on) in
    awaited_piece waits.disk told piece rest work waits.awaited
    ∙ ap (λ (d : Disk). read_piece d.inode piece (entry_of d.inode piece)) same

module _ (script : List Statement) (range : RunsAreInRange script) (events : List Move) (start : MomentWithPast)
    (run : run_with_past script events ≡ Some start) (good_id : ℕ → Bool)
    (fewer : CallsFewer good_id (is_available_disk start.world.log start.past.unavailable))
    (closed : AboveIsGood (log_effects start.world.log) good_id) (before : MomentWithPast) (trail : MomentTrail script start before) where
  abbrev effects : List Effect
  effects = log_effects before.world.log

  began : Began script start.world
  began = began-with_past script events start run

  inodes : InodesStay effects good_id before.world.hosts before.past.attempts
  inodes = inodes_along script range events start run good_id fewer closed trail

  -- ---- a session of a node that steps

  module _ (stepping : SteppingNode) (so_far : StepState) (is : IsStepping script start.world stepping) (by : StepsByChanges stepping.cause)
      (leads : LeadsInStep stepping (first_in_step stepping) so_far) (same : before ≡ moment_in_step script stepping start so_far)
      (session : ℕ) (disk : Disk) (opened : (session_at session so_far.node).disk ≡ Some disk) where
    abbrev was : Host
    was = host_with_node stepping.host so_far.node

    at : tree.get before.world.hosts stepping.n ≡ Some (host_with_node stepping.host so_far.node)
    at = ap (λ (m : MomentWithPast). tree.get m.world.hosts stepping.n) same ∙ get-insert_same start.world.hosts stepping.n was

    well : HasWellWorks so_far.node
    well = well_along script range start began trail stepping.n was at

    queues : HasGoodQueues so_far.node
    queues = queues_along script range start began trail stepping.n was at

    reading : IsReadingWell so_far.node
    reading = reading_along script range start began trail stepping.n was at

    -- ---- what the inode may come to have

    module _ (req : ℕ) (course : Course) (there : HasRequest session req course so_far)
        (runs : may_run req (session_at session so_far.node).queue ≡ true) where
      abbrev IsCoveredBy : List Piece → Type 0
      IsCoveredBy these =
          (one : Queued) → Contains (queue_in session so_far.node.sessions) one → one.req ≡ req → All (CoversPiece one) these

      module _ (entries : (index : ℕ) → good_id disk.inode.vid ≡ true → is_live_state (state_of effects disk.inode.vid) ≡ true
          → index < objects_of disk.inode.spec
          → ((one : Queued) → Contains (queue_in session so_far.node.sessions) one → one.req ≡ req → Covers one index)
          → (j : ℕ) × (entry : AttemptRecord) × IsEntryToCome before.world.hosts before.past.attempts disk.inode.vid index j entry
          × (entry_by index entry ≡ slice_index disk.inode.table index)) where
        holes_come : (these : List Piece) → IsCoveredBy these
            → HolesAreToCome effects good_id before.world.hosts before.past.attempts disk.inode these
        holes_come [] covers = All-nil (HoleIsToCome effects good_id before.world.hosts before.past.attempts disk.inode)
        holes_come (piece ∷ these) covers =
            All-cons (HoleIsToCome effects good_id before.world.hosts before.past.attempts disk.inode) piece these
            (λ good live inside hole.
            let (j, entry, comes, own) = entries piece.index good live inside
            (λ one among its. All-head (CoversPiece one) piece these (covers one among its)) in
            (j, entry, comes, own ∙ hole))
            (holes_come these (λ one among its. All-tail (CoversPiece one) piece these (covers one among its)))

    -- of a read that begins
    begins_so : (req offset size : ℕ) → HasRequest session req (Waiting (disk_asks.Read offset size)) so_far
        → may_run req (session_at session so_far.node).queue ≡ true
        → HolesAreToCome effects good_id before.world.hosts before.past.attempts disk.inode (pieces disk.inode.spec.shift offset size)
    begins_so req offset size there runs =
        holes_come req (Waiting (disk_asks.Read offset size)) there runs
        (λ index good live inside covers.
        table_comes script range events start run before trail stepping.n was at (not_lost stepping.host is.up) session disk opened req
        (record { session = session; course = Waiting (disk_asks.Read offset size) }) there refl refl runs
        (λ payload piece rest never. cc (never)) good_id inodes.tables good
        (stands_alive effects disk.inode.vid (live_stands (state_of effects disk.inode.vid) live)) index inside covers)
        (pieces disk.inode.spec.shift offset size)
        (λ one among its.
        subst (λ (q : Queued). All (CoversPiece q) (pieces disk.inode.spec.shift offset size))
        (sym (covered disk.inode.spec.shift (ap shift_open opened) one among its))
        (all_covered disk.inode.spec.shift req (disk_asks.Read offset size)))
      where
        covered : IsCovered req (size_and_queue (session_among session so_far.node.sessions)) (Waiting (disk_asks.Read offset size))
        covered = subst (IsSeen size_and_queue (IsCovered req) so_far.node.sessions) there (queues.covered req)

    -- ---- of a read of which a piece comes

    module _ (req number : ℕ) (work : Work) (attempt : gateways.Attempt) (status : Status) (told bytes : List ℕ) (piece : Piece)
        (rest : List Piece) (ends : EndsWork (input_of_cause stepping.cause) stepping.host.node so_far session req number work attempt
        status (Driving (Reads told piece rest)) bytes) where
      abbrev request : Request
      request = record { session = session; course = Driving (Reads told piece rest) }

      covered : IsCovered req (size_and_queue (session_among session so_far.node.sessions)) (Driving (Reads told piece rest))
      covered = subst (IsSeen size_and_queue (IsCovered req) so_far.node.sessions) ends.ends.request (queues.covered req)

      entries_come : (index : ℕ) → good_id disk.inode.vid ≡ true → is_live_state (state_of effects disk.inode.vid) ≡ true
          → index < objects_of disk.inode.spec
          → ((one : Queued) → Contains (queue_in session so_far.node.sessions) one → one.req ≡ req → Covers one index)
          → (j : ℕ) × (entry : AttemptRecord) × IsEntryToCome before.world.hosts before.past.attempts disk.inode.vid index j entry
          × (entry_by index entry ≡ slice_index disk.inode.table index)
      entries_come index good live inside covers =
          table_comes script range events start run before trail stepping.n was at (not_lost stepping.host is.up) session disk opened req
          request ends.ends.request refl refl covered.0 (λ payload other later never. cc (never)) good_id inodes.tables good
          (stands_alive effects disk.inode.vid (live_stands (state_of effects disk.inode.vid) live)) index inside covers

      holes_so : HolesAreToCome effects good_id before.world.hosts before.past.attempts disk.inode rest
      holes_so =
          holes_come req (Driving (Reads told piece rest)) ends.ends.request covered.0 entries_come rest
          (λ one among its. All-tail (CoversPiece one) piece rest (covered.1 one among its).0)

      -- ---- the object

      pub is_read : work.work ≡ read_piece disk.inode piece (entry_of disk.inode piece)
      is_read =
          read_on_disk (session_among session so_far.node.sessions).disk told piece rest work.work
          (subst (λ (r : Option Request). IfSome r (λ (r : Request). Waits (session_among r.session so_far.node.sessions).disk r.course
          work.work)) ends.ends.request (reading.waited.1 req work.work (inl (work, ends.ends.learns.there, refl)))).0 disk opened

      pub few : piece.index < OBJECTS_MAX
      few = All-head FewAt piece rest (well.on_known.courses req request ends.ends.request)

      pub blocks : AreBlocks piece
      blocks = All-head AreBlocks piece rest (reading.sound.courses req request ends.ends.request)

      pub some : entry_of disk.inode piece ≢ 0
      some hole =
          let none : vid_of (object_number (entry_of disk.inode piece) piece.index) ≡ 0
          = ap (λ (k : ℕ). vid_of (object_number k piece.index)) hole ∙ hole_none piece.index few in
          (subst IsOid (ap oid_of is_read) (reading.sound.open_works req work ends.ends.learns.there).range.oid).2 none

      its_session : (one : Session) × (tree.get so_far.node.sessions session ≡ Some one) × (one.disk ≡ Some disk)
      its_session = session_of so_far.node session disk opened

      pub is_vid : IsVid (entry_of disk.inode piece)
      is_vid =
          let (one, got, on) = its_session in
          let ids = (subst (λ (o : Option Disk). IfSome o (λ (d : Disk). IsSoundInode d.inode)) on
          (reading.sound.each_session session one got).disk).ids in
          let most : IsEntry (entry_of disk.inode piece) = entry_at IsEntry (omega arith) disk.inode.table piece.index ids.entries in
          (positive (entry_of disk.inode piece) some, most)

      in_table : piece.index < objects_of disk.inode.spec
      in_table =
          let (one, got, on) = its_session in
          let long = (whole_tables script range events start before run trail).each stepping.n was at (not_lost stepping.host is.up) session
          one disk got on in
          let low = inside_table disk.inode.table piece.index (entry_of disk.inode piece) refl is_vid.0 in
          omega (arith, long, low)

      -- it is of the disk's chain
      log_same : before.world.log ≡ start.world.log
      log_same = ap (λ (m : MomentWithPast). m.world.log) same ∙ log_by_changes stepping.cause by start.world.log

      below : IsBelow start.world.log disk.inode.vid (object_number (entry_of disk.inode piece) piece.index)
      below =
          let (one, got, on) = its_session in
          let its_id = vid-of_object (entry_of disk.inode piece) piece.index is_vid few in
          let chain : IsOfChain (log_effects start.world.log) disk.inode.vid (entry_of disk.inode piece)
          = subst (λ (log : List Entry). IsOfChain (log_effects log) disk.inode.vid (entry_of disk.inode piece)) log_same
          (entries_of_chain script range events start before run trail stepping.n was at (not_lost stepping.host is.up) session piece.index
          one disk got on in_table) in
          ⊎_elim
          (λ (hole : entry_of disk.inode piece ≡ 0). absurd (some hole))
          (λ (names : (entry_of disk.inode piece ≡ disk.inode.vid)
          ⊎ (is_above (log_effects start.world.log) (entry_of disk.inode piece) disk.inode.vid ≡ true)). ⊎_elim
          (λ (own : entry_of disk.inode piece ≡ disk.inode.vid). inl (its_id ∙ own))
          (λ (above : is_above (log_effects start.world.log) (entry_of disk.inode piece) disk.inode.vid ≡ true).
          inr (ap (λ (v : ℕ). is_above (log_effects start.world.log) v disk.inode.vid) its_id ∙ above))
          names)
          chain

      -- ---- its bytes

      abbrev here : MomentWithPast
      here = moment_in_step script stepping start so_far

      trail_here : MomentTrail script start (moment_in_step script stepping start so_far)
      trail_here = subst (MomentTrail script start) same trail

      pub long_so : length bytes ≡ piece.size
      long_so =
          let known = knows_well script range events start run stepping is by so_far leads trail_here in
          bytes_long (step_known script range events start run stepping is by so_far leads trail_here).sound so_far session req number work
          attempt status (Driving (Reads told piece rest)) bytes ends known.waits
          (known.sound.open_works req work ends.ends.learns.there)
          ∙ ap bytes_of_work is_read

      module _ (ledger : Ledger) (good : good_id disk.inode.vid ≡ true)
          (live : is_live_state (state_of effects disk.inode.vid) ≡ true) where
        pub home_comes : IsHomeToCome before.world.hosts before.past.attempts disk.inode.vid piece.index (entry_of disk.inode piece)
        home_comes =
            inl (entries_come piece.index good live in_table
            (λ one among its. All-head (CoversPiece one) piece rest (covered.1 one among its).0))

        pub created : IsCreated (moment_in_step script stepping start so_far).past.attempts
            (object_number (entry_of disk.inode piece) piece.index) so_far.node.peer.epoch
        created =
            let (one, got, on) = its_session in
            subst (λ (m : MomentWithPast). IsCreated m.past.attempts (object_number (entry_of disk.inode piece) piece.index)
            so_far.node.peer.epoch) same
            ((tables_along script range events start run good_id fewer closed trail).tables.tables.each stepping.n was at
            (not_lost stepping.host is.up) session piece.index one disk got on good
            (stands_alive effects disk.inode.vid (live_stands (state_of effects disk.inode.vid) live)) in_table some)

        pub good_object : IsBorn start.past.attempts (object_number (entry_of disk.inode piece) piece.index)
            → good_at start (object_number (entry_of disk.inode piece) piece.index) ≡ true
        good_object born =
            good_below start.world.log disk.inode.vid (object_number (entry_of disk.inode piece) piece.index)
            (ap (λ (log : List Entry). is_gone (state_of (log_effects log) disk.inode.vid)) (sym log_same)
            ∙ live_stands (state_of effects disk.inode.vid) live)
            start.past.attempts start.past.unavailable (fewer disk.inode.vid good) below born

        module _ (whole : is_in_strips disk.inode.spec.policy Block ≡ false) where
          kind_so : kind_of (object_number (entry_of disk.inode piece) piece.index) ≡ Block
          kind_so = kind-of_object (entry_of disk.inode piece) piece.index is_vid few

          in_copies : is_in_strips disk.inode.spec.policy (kind_of (object_number (entry_of disk.inode piece) piece.index)) ≡ false
          in_copies = ap (λ (k : Kind). is_in_strips disk.inode.spec.policy k) kind_so ∙ whole

          at_block : (unit : ℕ) → IsInPiece piece unit
              → PieceIsToCome ledger effects good_id here.world.hosts here.past.attempts disk.inode (entry_of disk.inode piece) piece bytes
          at_block unit inside =
              let above = inside.first in
              let less = inside.last in
              let offset_so : piece.offset % 512 ≡ 0 = blocks.offset in
              let size_so : piece.size % 512 ≡ 0 = blocks.size in
              let under : BLOCK_BYTES * unit + BLOCK_BYTES ≤ piece.offset + piece.size = omega (arith, less, offset_so, size_so) in
              let some_size : 1 ≤ piece.size = omega (arith, above, less) in
              let born = read_born script range events start run stepping is by so_far leads trail_here (good_at start)
              (told_pieces-in_run script range events start run) session req number work attempt status (Driving (Reads told piece rest))
              bytes ends (object_number (entry_of disk.inode piece) piece.index) disk.inode.spec.policy piece.offset piece.size is_read
              in_copies unit (subst (λ (k : Kind). piece.offset ≤ unit_start k unit) (sym kind_so) above)
              (subst (λ (k : Kind). unit_end k unit ≤ piece.offset + piece.size) (sym kind_so) under) some_size in
              piece_to_come script range events start run stepping is by so_far leads trail_here (good_at start)
              (told_pieces-in_run script range events start run) session req number work attempt status (Driving (Reads told piece rest))
              bytes ends disk.inode (entry_of disk.inode piece) piece is_read is_vid few whole blocks refl ledger effects good_id
              (good_object born) so_far.node.peer.epoch created some_size

          copies_come : PieceIsToCome ledger effects good_id before.world.hosts before.past.attempts disk.inode (entry_of disk.inode piece)
              piece bytes
          copies_come = record {
            long = long_so;
            each = λ unit found inside block torn.
                (subst (λ (m : MomentWithPast). PieceIsToCome ledger effects good_id m.world.hosts m.past.attempts disk.inode
                (entry_of disk.inode piece) piece bytes) (sym same) (at_block unit inside)).each unit found inside block torn;
          }

  -- ---- every step

  pub holes_are_to_come : ReadHolesAreToCome script start before effects good_id
  holes_are_to_come = record {
    begins = λ stepping so_far is by leads same session req offset size disk there opened runs.
        begins_so stepping so_far is by leads same session disk opened req offset size there runs;
    behind = λ stepping so_far is by leads same session req number work attempt status told bytes piece rest disk ends opened.
        holes_so stepping so_far is by leads same session disk opened req number work attempt status told bytes piece rest ends;
  }

  pub pieces_are_to_come : (ledger : Ledger) → StripPiecesAreToCome script start before ledger effects good_id
      → ReadPiecesAreToCome script start before ledger effects good_id
  pieces_are_to_come ledger strips = record {
    each = λ stepping so_far is by leads same session req number work attempt status told bytes piece rest disk ends opened. (
      long_so stepping so_far is by leads same session disk opened req number work attempt status told bytes piece rest ends,
      λ good live. (
        entry_of disk.inode piece,
        home_comes stepping so_far is by leads same session disk opened req number work attempt status told bytes piece rest ends ledger
            good live,
        some stepping so_far is by leads same session disk opened req number work attempt status told bytes piece rest ends,
        by_kind disk piece bytes (is_in_strips disk.inode.spec.policy Block) refl
            (λ coded. strips.each stepping so_far is by leads same session req number work attempt status told bytes piece rest disk ends
            opened coded good live)
            (λ whole. copies_come stepping so_far is by leads same session disk opened req number work attempt status told bytes piece rest
            ends ledger good live whole),
      ),
    );
  }
    where
      by_kind : (disk : Disk) (piece : Piece) (bytes : List ℕ) (b : Bool) → is_in_strips disk.inode.spec.policy Block ≡ b
          → (is_in_strips disk.inode.spec.policy Block ≡ true → PieceIsToCome ledger effects good_id before.world.hosts before.past.attempts
          disk.inode (entry_of disk.inode piece) piece bytes)
          → (is_in_strips disk.inode.spec.policy Block ≡ false → PieceIsToCome ledger effects good_id before.world.hosts
          before.past.attempts disk.inode (entry_of disk.inode piece) piece bytes)
          → PieceIsToCome ledger effects good_id before.world.hosts before.past.attempts disk.inode (entry_of disk.inode piece) piece bytes
      by_kind disk piece bytes true coded strips copies = strips coded
      by_kind disk piece bytes false whole strips copies = copies whole
