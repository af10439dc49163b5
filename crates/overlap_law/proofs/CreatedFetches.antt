-- In each run in range, on the way of an event: what a write of whole copies has read of another disk's object was served there, and each
-- attempt behind it is doomed, of disks that are available up to the event's end. For the object is a snapshot's, which nothing is written
-- to any more.
use Rattle.std.proofs.Common.{◌≡◌, ◌≢◌, ◌⊎◌, inl, inr, ⊎_elim, arith, ℕ, zero, suc, ◌+◌, ◌*◌, ◌-◌, ◌/◌, ◌≤◌, ◌<◌, Bool, true, false}
use Rattle.std.proofs.Common.{List, [], Option, Some, IfSome, refl, sym, ap, subst, ◌∙◌}
use Rattle.std.specs.Str.{bytes_eq}
use Rattle.std.specs.FinMap as tree
use Rattle.std.proofs.lemmas.List.Elements.{All-head}
use Rattle.std.proofs.lemmas.Option.{same_Some}
use Rattle.proof_tools.proofs.FiniteMaps.{get-insert_same}
use Rattle.object_id.specs.declared.entry.Entry.{Entry}
use Rattle.object_id.specs.declared.limits.TheConstants.{OBJECTS_MAX, BLOCK_BYTES}
use Rattle.object_id.specs.declared.oid.Kind.{Kind}
use Rattle.object_id.specs.declared.oid.Kind.TheVariants.{Block}
use Rattle.object_id.specs.Oid.{IsVid, kind_of, object_number}
use Rattle.object_id.specs.Spec.{objects_of}
use Rattle.object_store.specs.Bytes.{piece_at}
use Rattle.gf256.specs.Part.{is_in_strips}
use Rattle.inode.specs.Layout.{IsEntry}
use Rattle.cluster_script.specs.declared.statement.Statement.{Statement}
use Rattle.peer_proto.specs.declared.work.ObjWork.{ObjWork}
use Rattle.gateway.specs.Attempt as gateways
use Rattle.gateway.specs.declared.message.Status.{Status}
use Rattle.gateway.specs.State.{Work}
use Rattle.guest_driver.specs.declared.act.DriverAct.TheVariants as acts
use Rattle.guest_driver.specs.declared.disk.Disk.{Disk}
use Rattle.guest_driver.specs.Course.{IsAwaitedByDriver}
use Rattle.guest_driver.specs.Driver.{Writes, Fetching}
use Rattle.guest_driver.specs.Pieces.{Piece}
use Rattle.guest_driver.specs.PieceWorks.{entry_of, object_bytes, read_object}
use Rattle.vdi_directory.specs.Chains.{is_above}
use Rattle.vdi_directory.specs.Dead.{is_dead, is_gone}
use Rattle.vdi_directory.specs.Decisions.{log_effects}
use Rattle.vdi_directory.specs.States.{state_of}
use Rattle.vdi_directory.proofs.DecisionLaws.{held-works}
use Rattle.sheep_node.specs.Changes.{EndsWork}
use Rattle.sheep_node.specs.SessionQueues.{session_among}
use Rattle.sheep_node.specs.SoundWorks.{IsSoundInode}
use Rattle.sheep_node.specs.State.{session_at}
use Rattle.sheep_node.specs.StepState.{StepState}
use Rattle.sheep_node.specs.declared.course.Course.TheVariants.{Driving}
use Rattle.sheep_node.specs.declared.course.Request.{Request}
use Rattle.sheep_node.specs.declared.session.Session.{Session}
use Rattle.sheep_node.proofs.SessionViews.{IsSeen}
use Rattle.sheep_world.specs.Began.{Began}
use Rattle.sheep_world.specs.NodeCauses.{host_with_node, input_of_cause}
use Rattle.sheep_world.specs.World.{Host}
use Rattle.sheep_world.specs.RunsWithAsks.{Move}
use Rattle.overlap_law.specs.BornObjects.{IsBorn}
use Rattle.overlap_law.specs.CommandDisks.{opened_as}
use Rattle.overlap_law.specs.CreatedPieces.{anything}
use Rattle.overlap_law.specs.Courses.{WaitsFor}
use Rattle.overlap_law.specs.Fates.{IsCreated}
use Rattle.overlap_law.specs.InodesRead.{IsUnitToCome}
use Rattle.overlap_law.specs.LastReads.{was_snapped}
use Rattle.overlap_law.specs.MomentChanges.{MomentTrail, RunsAreInRange}
use Rattle.overlap_law.specs.NamedWorks.{AboveIsGood}
use Rattle.overlap_law.specs.Overlap.{CallsFewer}
use Rattle.overlap_law.specs.Past.{MomentWithPast, run_with_past}
use Rattle.overlap_law.specs.ServedLast.{IsServedLast, makes_unit, no_work, IsReadOfSnapshot, IsFetchedServed}
use Rattle.overlap_law.specs.StepMoments.{SteppingNode, IsStepping, StepsByChanges, LeadsInStep, first_in_step, moment_in_step}
use Rattle.overlap_law.specs.Tables.{IsOfChain}
use Rattle.overlap_law.specs.Units.{unit_start, unit_size, unit_end}
use Rattle.overlap_law.specs.Words.{bytes_by}
use Rattle.overlap_law.specs.WrittenBlocks.{blocks_per_object}
use Rattle.overlap_law.proofs.AllowedCourses.{IsAllowed, opened_by}
use Rattle.overlap_law.proofs.AnswersInMoments.{not_lost}
use Rattle.overlap_law.proofs.CarriedRows.{good_at}
use Rattle.overlap_law.proofs.CarriedTables.{good_id_at}
use Rattle.overlap_law.proofs.CausedWorks.{HasWellWorks}
use Rattle.overlap_law.proofs.ClosedSnapshots.{snapped-later}
use Rattle.overlap_law.proofs.CoveredCourses.{size_and_queue, IsCovered}
use Rattle.overlap_law.proofs.CreatesFirst.{session_of, inside as inside_table}
use Rattle.overlap_law.proofs.GoodDisks.{IsBelow, good_below}
use Rattle.overlap_law.proofs.GrantsOfCommands.{sound_along}
use Rattle.overlap_law.proofs.ItemsGoOn.{same_bytes}
use Rattle.overlap_law.proofs.KnownDisks.{FewAt, kind-of_object, vid-of_object}
use Rattle.overlap_law.proofs.KnownReads.{entry_at}
use Rattle.overlap_law.proofs.LogsOfMoments.{log_by_changes}
use Rattle.overlap_law.proofs.NoRecoveredDue.{began-with_past}
use Rattle.overlap_law.proofs.OpenTables.{entries_of_chain, whole_tables}
use Rattle.overlap_law.proofs.PiecesMade.{FetchesAreAsked, fetches_so, pieces-in_run}
use Rattle.overlap_law.proofs.QueuesInMoments.{HasGoodQueues}
use Rattle.overlap_law.proofs.ReadsInMoments.{IsReadingWell}
use Rattle.overlap_law.proofs.ReadsToldTables.{tables_along}
use Rattle.overlap_law.proofs.ReadUnits.{read_born, read_unit}
use Rattle.overlap_law.proofs.SharedTables.{IsSharedEntry, IsSharedDisk}
use Rattle.overlap_law.proofs.TablesOfReads.{queues_along, reading_along, locked}
use Rattle.overlap_law.proofs.ToldPiecesInRuns.{told_pieces-in_run}
use Rattle.overlap_law.proofs.WaitedSteps.{no_id, Waits}
use Rattle.overlap_law.proofs.WorksInMoments.{well_along}

-- the blocks of an object end inside it
pub ends_inside : (size unit : ℕ) → unit < size / BLOCK_BYTES → BLOCK_BYTES * unit + BLOCK_BYTES ≤ size
ends_inside size unit below = omega (arith, below)

from_zero : (from to : ℕ) → from ≤ to → from ≤ 0 + to
from_zero from to most = omega (arith, most)

positive : (k : ℕ) → k ≢ 0 → 1 ≤ k
positive zero some = absurd (some refl)
positive (suc k) some = omega arith

-- what a write waits for as it fetches
fetched_object : (disk : Disk) (payload : List ℕ) (piece : Piece) (rest : List Piece) (work : ObjWork)
    → IsAwaitedByDriver disk.inode (Writes payload Fetching piece rest) (acts.Work work)
    → work ≡ read_object disk.inode piece (entry_of disk.inode piece)
fetched_object disk payload piece rest work is = cc (is)

module _ (script : List Statement) (range : RunsAreInRange script) (events : List Move) (start : MomentWithPast)
    (run : run_with_past script events ≡ Some start) (good_id : ℕ → Bool) (fewer : CallsFewer good_id (good_id_at start))
    (closed : AboveIsGood (log_effects start.world.log) good_id) (before : MomentWithPast) (trail : MomentTrail script start before) where
  began : Began script start.world
  began = began-with_past script events start run

  module _ (stepping : SteppingNode) (so_far : StepState) (is : IsStepping script start.world stepping) (by : StepsByChanges stepping.cause)
      (leads : LeadsInStep stepping (first_in_step stepping) so_far) (same : before ≡ moment_in_step script stepping start so_far)
      (session req number : ℕ) (work : Work) (attempt : gateways.Attempt) (status : Status) (payload bytes : List ℕ) (piece : Piece)
      (rest : List Piece) (disk : Disk)
      (ends : EndsWork (input_of_cause stepping.cause) stepping.host.node so_far session req number work attempt status
      (Driving (Writes payload Fetching piece rest)) bytes) (opened : (session_at session so_far.node).disk ≡ Some disk) where
    abbrev was : Host
    was = host_with_node stepping.host so_far.node

    at : tree.get before.world.hosts stepping.n ≡ Some (host_with_node stepping.host so_far.node)
    at = ap (λ (m : MomentWithPast). tree.get m.world.hosts stepping.n) same ∙ get-insert_same start.world.hosts stepping.n was

    well : HasWellWorks so_far.node
    well = well_along script range start began trail stepping.n was at

    reading : IsReadingWell so_far.node
    reading = reading_along script range start began trail stepping.n was at

    abbrev request : Request
    request = record { session = session; course = Driving (Writes payload Fetching piece rest) }

    abbrev home : ℕ
    home = entry_of disk.inode piece

    -- ---- the object

    pub inherited : (entry_of disk.inode piece ≢ 0) × (entry_of disk.inode piece ≢ disk.inode.vid)
    inherited =
        fetches_so anything before (pieces-in_run script range events start before run trail) stepping.n was at
        (not_lost stepping.host is.up) req work request disk payload piece rest ends.ends.learns.there ends.ends.request opened refl

    pub is_read : work.work ≡ read_object disk.inode piece (entry_of disk.inode piece)
    is_read =
        let waits : WaitsFor [] no_id [] (session_among session so_far.node.sessions).disk (Driving (Writes payload Fetching piece rest))
        work.work
        = (subst (λ (r : Option Request). IfSome r (λ (r : Request). Waits (session_among r.session so_far.node.sessions).disk r.course
        work.work)) ends.ends.request (reading.waited.1 req work.work (inl (work, ends.ends.learns.there, refl)))).0 in
        let one : waits.disk ≡ disk = same_Some waits.disk disk (sym waits.there ∙ opened) in
        fetched_object waits.disk payload piece rest work.work waits.awaited
        ∙ ap (λ (d : Disk). read_object d.inode piece (entry_of d.inode piece)) one

    pub few : piece.index < OBJECTS_MAX
    few = All-head FewAt piece rest (well.on_known.courses req request ends.ends.request)

    its_session : (one : Session) × (tree.get so_far.node.sessions session ≡ Some one) × (one.disk ≡ Some disk)
    its_session = session_of so_far.node session disk opened

    pub is_vid : IsVid (entry_of disk.inode piece)
    is_vid =
        let (one, got, on) = its_session in
        let ids = (subst (λ (o : Option Disk). IfSome o (λ (d : Disk). IsSoundInode d.inode)) on
        (reading.sound.each_session session one got).disk).ids in
        let most : IsEntry (entry_of disk.inode piece) = entry_at IsEntry (omega arith) disk.inode.table piece.index ids.entries in
        (positive (entry_of disk.inode piece) inherited.0, most)

    pub in_table : piece.index < objects_of disk.inode.spec
    in_table =
        let (one, got, on) = its_session in
        let long = (whole_tables script range events start before run trail).each stepping.n was at (not_lost stepping.host is.up) session
        one disk got on in
        let low = inside_table disk.inode.table piece.index (entry_of disk.inode piece) refl is_vid.0 in
        omega (arith, long, low)

    -- it is a snapshot's
    pub snapped : was_snapped before.world.log (entry_of disk.inode piece) ≡ true
    snapped =
        let shared : IsSharedDisk so_far.node.peer.entries disk
        = subst (λ (o : Option Disk). IfSome o (IsSharedDisk so_far.node.peer.entries)) opened (reading.shared.disks session) in
        let front = ((sound_along script range start began trail).each stepping.n was at).read.front in
        ap (λ (log : List Entry). was_snapped log (entry_of disk.inode piece)) front.is
        ∙ (snapped-later so_far.node.peer.entries (entry_of disk.inode piece)
        (by_entry
        (entry_at (IsSharedEntry so_far.node.peer.entries disk.inode.vid) (inl refl) disk.inode.table piece.index shared.table))
        front.rest).0
      where
        by_entry : IsSharedEntry so_far.node.peer.entries disk.inode.vid (entry_of disk.inode piece)
            → was_snapped so_far.node.peer.entries (entry_of disk.inode piece) ≡ true
        by_entry (inl hole) = absurd (inherited.0 hole)
        by_entry (inr (inl own)) = absurd (inherited.1 own)
        by_entry (inr (inr is)) = is

    pub log_same : before.world.log ≡ start.world.log
    log_same = ap (λ (m : MomentWithPast). m.world.log) same ∙ log_by_changes stepping.cause by start.world.log

    pub below : IsBelow start.world.log disk.inode.vid (object_number (entry_of disk.inode piece) piece.index)
    below =
        let (one, got, on) = its_session in
        let its_id = vid-of_object (entry_of disk.inode piece) piece.index is_vid few in
        let chain : IsOfChain (log_effects start.world.log) disk.inode.vid (entry_of disk.inode piece)
        = subst (λ (log : List Entry). IsOfChain (log_effects log) disk.inode.vid (entry_of disk.inode piece)) log_same
        (entries_of_chain script range events start before run trail stepping.n was at (not_lost stepping.host is.up) session piece.index
        one disk got on in_table) in
        ⊎_elim
        (λ (hole : entry_of disk.inode piece ≡ 0). absurd (inherited.0 hole))
        (λ (names : (entry_of disk.inode piece ≡ disk.inode.vid)
        ⊎ (is_above (log_effects start.world.log) (entry_of disk.inode piece) disk.inode.vid ≡ true)). ⊎_elim
        (λ (own : entry_of disk.inode piece ≡ disk.inode.vid). inl (its_id ∙ own))
        (λ (above : is_above (log_effects start.world.log) (entry_of disk.inode piece) disk.inode.vid ≡ true).
        inr (ap (λ (v : ℕ). is_above (log_effects start.world.log) v disk.inode.vid) its_id ∙ above))
        names)
        chain

    -- ---- the disk isn't deleted, since the session has its lock

    working : disk.snapshot ≡ false
    working =
        let allowed : IsAllowed (opened_by (session_among session so_far.node.sessions)) (Driving (Writes payload Fetching piece rest))
        = subst (IsSeen opened_by IsAllowed so_far.node.sessions) ends.ends.request (well.allowed req) in
        let (vid, so) = allowed in
        let both : Some (disk.snapshot, disk.inode.vid) ≡ Some (false, vid) = sym (ap opened_as opened) ∙ so in
        ap (λ (pair : Bool × ℕ). pair.0) (same_Some (disk.snapshot, disk.inode.vid) (false, vid) both)

    pub stands : is_gone (state_of (log_effects start.world.log) disk.inode.vid) ≡ false
    stands =
        let queues : HasGoodQueues so_far.node = queues_along script range start began trail stepping.n was at in
        let covered : IsCovered req (size_and_queue (session_among session so_far.node.sessions))
        (Driving (Writes payload Fetching piece rest))
        = subst (IsSeen size_and_queue (IsCovered req) so_far.node.sessions) ends.ends.request (queues.covered req) in
        let lock = locked script range events start run before trail stepping.n was at (not_lost stepping.host is.up) session disk opened
        req request ends.ends.request refl refl covered.0 (λ payload piece rest never. cc (never)) working in
        ap (λ (log : List Entry). is_gone (state_of (log_effects log) disk.inode.vid)) (sym log_same)
        ∙ ap is_gone (held-works before.world.log disk.inode.vid _ lock.held)

    -- ---- its bytes

    abbrev here : MomentWithPast
    here = moment_in_step script stepping start so_far

    trail_here : MomentTrail script start (moment_in_step script stepping start so_far)
    trail_here = subst (MomentTrail script start) same trail

    module _ (good : good_id disk.inode.vid ≡ true)
        (alive : is_dead (log_effects before.world.log) disk.inode.vid ≡ false) where
      pub created : IsCreated (moment_in_step script stepping start so_far).past.attempts
          (object_number (entry_of disk.inode piece) piece.index) so_far.node.peer.epoch
      created =
          let (one, got, on) = its_session in
          subst (λ (m : MomentWithPast). IsCreated m.past.attempts (object_number (entry_of disk.inode piece) piece.index)
          so_far.node.peer.epoch) same
          ((tables_along script range events start run good_id fewer closed trail).tables.tables.each stepping.n was at
          (not_lost stepping.host is.up) session piece.index one disk got on good alive in_table inherited.0)

      pub kind_so : kind_of (object_number (entry_of disk.inode piece) piece.index) ≡ Block
      kind_so = kind-of_object (entry_of disk.inode piece) piece.index is_vid few

      pub good_object : IsBorn start.past.attempts (object_number (entry_of disk.inode piece) piece.index)
          → good_at start (object_number (entry_of disk.inode piece) piece.index) ≡ true
      good_object born =
          good_below start.world.log disk.inode.vid (object_number (entry_of disk.inode piece) piece.index) stands start.past.attempts
          start.past.unavailable (fewer disk.inode.vid good) below born

      module _ (whole : is_in_strips disk.inode.spec.policy Block ≡ false) where
        in_copies : is_in_strips disk.inode.spec.policy (kind_of (object_number (entry_of disk.inode piece) piece.index)) ≡ false
        in_copies = ap (λ (k : Kind). is_in_strips disk.inode.spec.policy k) kind_so ∙ whole

        module _ (unit : ℕ) (inside : unit < blocks_per_object disk.inode.spec) where
          under : BLOCK_BYTES * unit + BLOCK_BYTES ≤ object_bytes disk.inode
          under = ends_inside (object_bytes disk.inode) unit inside

          some_size : 1 ≤ object_bytes disk.inode
          some_size = let end = under in omega (arith, end)

          from_start : 0 ≤ unit_start (kind_of (object_number (entry_of disk.inode piece) piece.index)) unit
          from_start = omega arith

          to_end : unit_end (kind_of (object_number (entry_of disk.inode piece) piece.index)) unit ≤ 0 + object_bytes disk.inode
          to_end =
              subst (λ (k : Kind). unit_end k unit ≤ 0 + object_bytes disk.inode) (sym kind_so)
              (from_zero (BLOCK_BYTES * unit + BLOCK_BYTES) (object_bytes disk.inode) under)

          found : IsUnitToCome here.world.hosts here.past.attempts (object_number (entry_of disk.inode piece) piece.index)
              so_far.node.peer.epoch unit
              (piece_at bytes (unit_start (kind_of (object_number (entry_of disk.inode piece) piece.index)) unit - 0)
              (unit_size (kind_of (object_number (entry_of disk.inode piece) piece.index)) unit))
          found =
              read_unit script range events start run stepping is by so_far leads trail_here (good_at start)
              (told_pieces-in_run script range events start run) session req number work attempt status
              (Driving (Writes payload Fetching piece rest)) bytes ends (object_number (entry_of disk.inode piece) piece.index)
              disk.inode.spec.policy 0 (object_bytes disk.inode) is_read in_copies refl
              (good_object
              (read_born script range events start run stepping is by so_far leads trail_here (good_at start)
              (told_pieces-in_run script range events start run) session req number work attempt status
              (Driving (Writes payload Fetching piece rest)) bytes ends (object_number (entry_of disk.inode piece) piece.index)
              disk.inode.spec.policy 0 (object_bytes disk.inode) is_read in_copies unit from_start to_end some_size))
              so_far.node.peer.epoch unit created from_start to_end some_size

          has_block : bytes_by unit found.one.work ≡ piece_at bytes (BLOCK_BYTES * unit) BLOCK_BYTES
          has_block =
              let start_so : BLOCK_BYTES * unit - 0 ≡ BLOCK_BYTES * unit = omega arith in
              found.same ∙ ap (λ (k : Kind). piece_at bytes (unit_start k unit - 0) (unit_size k unit)) kind_so
              ∙ ap (λ (from : ℕ). piece_at bytes from BLOCK_BYTES) start_so

          served_here : IsServedLast (makes_unit unit (piece_at bytes (BLOCK_BYTES * unit) BLOCK_BYTES)) no_work here.world.hosts
              here.past.attempts (object_number (entry_of disk.inode piece) piece.index) unit
          served_here = record {
            place = found.place;
            one = found.one;
            there = found.to_come.there;
            object = found.to_come.object;
            covers = found.to_come.covers;
            served = found.served;
            is = subst (λ (b : List ℕ). bytes_eq (piece_at bytes (BLOCK_BYTES * unit) BLOCK_BYTES) b ≡ true) (sym has_block)
                (same_bytes (piece_at bytes (BLOCK_BYTES * unit) BLOCK_BYTES));
            later = λ k other at_it behind object covers. inl (found.behind k other at_it behind object covers);
          }

        read_of_snapshot : IsReadOfSnapshot before.world.log before.world.hosts before.past.attempts disk.inode.spec
            (entry_of disk.inode piece) piece.index bytes
        read_of_snapshot = record {
          id = is_vid;
          few = few;
          snapped = snapped;
          served = λ unit inside.
              subst (λ (m : MomentWithPast). IsServedLast (makes_unit unit (piece_at bytes (BLOCK_BYTES * unit) BLOCK_BYTES)) no_work
              m.world.hosts m.past.attempts (object_number (entry_of disk.inode piece) piece.index) unit) (sym same)
              (served_here unit inside);
        }

  pub fetches_served : FetchesAreAsked (IsFetchedServed before.world.log good_id before.world.hosts before.past.attempts) script
      start before
  fetches_served = λ stepping so_far is by leads same session req number work attempt status payload bytes piece rest disk ends opened.
      λ good alive whole.
      read_of_snapshot stepping so_far is by leads same session req number work attempt status payload bytes piece rest disk ends opened
      good alive whole
