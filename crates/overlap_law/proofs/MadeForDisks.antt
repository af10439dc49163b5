-- What a work is for that its request waits for: an object of the disk or of one above it; and where the work reads, an object that was
-- created, if the disk was available, and is neither deleted nor given back. For an entry that isn't 0 stands for one, and so does the
-- inode of an id that is published.
use Rattle.std.proofs.Common.{◌≡◌, ◌⊎◌, inl, inr, ⊎_elim, arith, ℕ, zero, suc, ◌<◌, ◌≤◌, ◌&&◌, Bool, true, false, not, List, [], ◌∷◌, ◌++◌}
use Rattle.std.proofs.Common.{All, length, Option, Some, IfSome, option_map, refl, sym, ap, subst, ◌∙◌}
use Rattle.std.specs.FinMap as tree
use Rattle.std.specs.List.{list_any, slice_index}
use Rattle.std.proofs.lemmas.List.Elements.{All-head}
use Rattle.std.proofs.lemmas.Option.{same_Some}
use Rattle.object_id.specs.declared.entry.Entry.{Entry}
use Rattle.object_id.specs.declared.limits.TheConstants.{OBJECTS_MAX}
use Rattle.object_id.specs.declared.oid.Vid.{Vid}
use Rattle.object_id.specs.Oid.{IsOid, vid_of, inode_number, object_number}
use Rattle.object_id.specs.Spec.{objects_of}
use Rattle.inode.specs.Layout.{IsEntry}
use Rattle.peer_proto.specs.declared.work.ObjWork.{ObjWork}
use Rattle.peer_proto.specs.declared.work.ObjWork.TheVariants as works
use Rattle.peer_proto.specs.Work.{oid_of}
use Rattle.vdi_directory.specs.Chains.{is_above}
use Rattle.vdi_directory.specs.Dead.{is_gone, is_dead, is_heir, granted_ids}
use Rattle.vdi_directory.specs.Decisions.{log_effects}
use Rattle.vdi_directory.specs.States as States
use Rattle.vdi_directory.specs.States.{VdiState, rank, is_live_state, state_of}
use Rattle.vdi_directory.specs.declared.effect.Effect.{Effect}
use Rattle.vdi_directory.proofs.DecisionLaws.{held-works}
use Rattle.gateway.specs.Work.{is_making}
use Rattle.gateway.specs.State.{Work}
use Rattle.guest_driver.specs.declared.act.DriverAct.TheVariants as acts
use Rattle.guest_driver.specs.declared.disk.Disk.{Disk}
use Rattle.guest_driver.specs.Driver as drivers
use Rattle.guest_driver.specs.Driver.{Driver, Reads, Writes, DriverStage, InPlace, Fetching, Creating, Entering}
use Rattle.guest_driver.specs.Course.{IsAwaitedByDriver, IsAwaitedAtDriverStage}
use Rattle.guest_driver.specs.OnDisk.{pieces_left}
use Rattle.guest_driver.specs.PieceWorks.{entry_of, object_bytes, read_piece, write_piece, read_object, write_entry}
use Rattle.guest_driver.specs.Pieces.{Piece}
use Rattle.disk_check.specs.Check as checks
use Rattle.disk_check.specs.Check.{Check, CheckStage, Comparing, WritingBack as Rewriting, left_of}
use Rattle.disk_check.specs.Table.{own_indexes}
use Rattle.vdi_ops.specs.Op.{Op, Task, Opening, WritingBack, Tagging, Copying, Making, OpStage, Asked, Working, Publishing, Answered}
use Rattle.sheep_node.specs.declared.ask.Ask.{Ask}
use Rattle.sheep_node.specs.declared.course.Course.{Course}
use Rattle.sheep_node.specs.declared.course.Course.TheVariants.{Waiting, Driving, Commanding, Checking, DoingWork, AwaitingDecision}
use Rattle.sheep_node.specs.declared.course.Request.{Request}
use Rattle.sheep_node.specs.SessionQueues.{session_among}
use Rattle.sheep_node.specs.SoundWorks.{IsSoundInode, HasSoundWorks}
use Rattle.sheep_node.specs.State.{Node, session_at}
use Rattle.sheep_world.specs.LogFronts.{IsFront}
use Rattle.sheep_world.specs.World.{Host}
use Rattle.overlap_law.specs.Attempts.{AttemptRecord}
use Rattle.overlap_law.specs.CommandDisks.{opened_in}
use Rattle.overlap_law.specs.Courses.{IsOfTask, IsOfStage, IsOfCheckStage, WaitsFor}
use Rattle.overlap_law.specs.Fates.{IsCreated}
use Rattle.overlap_law.specs.Grants.{published_in}
use Rattle.overlap_law.specs.LastReads.{was_snapped}
use Rattle.overlap_law.specs.NoObjects.{disk_for}
use Rattle.overlap_law.specs.OpenTables.{EntriesAreOfTheChain}
use Rattle.overlap_law.specs.Reached.{Hosts}
use Rattle.overlap_law.specs.RequestsOfScript.{IsCourseOfAsk, indexes_left, is_of_client}
use Rattle.overlap_law.specs.Tables.{every_id, TablesAreMade, PublishedInodesAreMade}
use Rattle.overlap_law.specs.WholeTables.{TablesAreWhole}
use Rattle.overlap_law.specs.WriterClaims.{IsStageKept, HasClaims}
use Rattle.overlap_law.proofs.CausedWorks.{HasWellWorks}
use Rattle.overlap_law.proofs.ClosedSnapshots.{snapped-later, snapped_no_more}
use Rattle.overlap_law.proofs.CoursesOfAsks.{ArePlaced, IsPlacedIn, placed_as}
use Rattle.overlap_law.proofs.CreatesFirst.{inside, session_of}
use Rattle.overlap_law.proofs.DiskWalk.{IsAtStage}
use Rattle.overlap_law.proofs.KnownDisks.{Few, FewAt, IsKnownInode, IsKnownCourse, vid-of_object}
use Rattle.overlap_law.proofs.KnownReads.{entry_at, hole_none, vid_in_inode}
use Rattle.overlap_law.proofs.SharedInRuns.{IsSharing}
use Rattle.overlap_law.proofs.SharedTables.{IsSharedDisk, IsSharedTask, IsSharedStage}
use Rattle.overlap_law.proofs.WaitedSteps.{no_id, Waits}
use Rattle.overlap_law.proofs.WorksAtCourses.{HaveAt, IsAt}
use Rattle.overlap_law.proofs.WriteObjects.{known_open, own_there}

-- ---- states of ids

-- an id that isn't gone, and is given to no session again, is a snapshot's
live_state : (state : VdiState) → is_gone state ≡ false → 3 ≤ rank state → is_live_state state ≡ true
live_state States.Unused stands more = absurd (omega (arith, more))
live_state (States.Reserved by) stands more = absurd (omega (arith, more))
live_state States.Working stands more = refl
live_state (States.Snapshot tag) stands more = refl
live_state States.Deleted stands more = absurd (cc (stands))
live_state States.Freed stands more = absurd (cc (stands))

-- what isn't gone isn't dead
pub stands_alive : (effects : List Effect) (vid : ℕ) → is_gone (state_of effects vid) ≡ false → is_dead effects vid ≡ false
unfolding is_dead
stands_alive effects vid stands = ap (λ (gone : Bool). gone && not (list_any (is_heir effects vid) (granted_ids effects))) stands

-- ---- what is found for a disk

-- a work is on an object of the disk or of one above it, which was created if the work reads it
pub record IsForMade (effects : List Effect) (attempts : List AttemptRecord) (vid : ℕ) (work : ObjWork) : Type 0 where
  pub chain : (vid_of (oid_of work) ≡ vid) ⊎ (is_above effects (vid_of (oid_of work)) vid ≡ true)
  pub created : is_making work ≡ false → (epoch : ℕ) × IsCreated attempts (oid_of work) epoch

-- what a node's works rest on
pub record IsFoundIn (log : List Entry) (asked : ℕ → Option Ask) (Began : ℕ → Option ℕ → Type 0) (node : Node) : Type 0 where
  pub front : IsFront node.peer.entries log
  pub claims : HasClaims log node.outbox node.peer.entries (length node.peer.entries) node.me node.requests node.sessions
  pub shared : IsSharing node
  pub waiting : HaveAt Waits node.gateway.works node.requests node.sessions
  pub sound : HasSoundWorks node
  pub well : HasWellWorks node
  pub placed : ArePlaced asked Began node.requests node.sessions

module _ (log : List Entry) (asked : ℕ → Option Ask) (Began : ℕ → Option ℕ → Type 0) (good_id : ℕ → Bool) (hosts : Hosts)
    (attempts : List AttemptRecord) (table_made : TablesAreMade (log_effects log) good_id hosts attempts)
    (published : PublishedInodesAreMade log every_id attempts) (whole : TablesAreWhole hosts)
    (chains : EntriesAreOfTheChain (log_effects log) hosts) (n : ℕ) (host : Host) (at : tree.get hosts n ≡ Some host)
    (up : host.is_lost ≡ false) (found : IsFoundIn log asked Began host.node) (req : ℕ) (work : Work)
    (got : tree.get host.node.gateway.works req ≡ Some work) (request : Request) (there : tree.get host.node.requests req ≡ Some request)
    (vid : ℕ) (stands : is_gone (state_of (log_effects log) vid) ≡ false) (good : good_id vid ≡ true) where
  abbrev node : Node
  node = host.node

  abbrev effects : List Effect
  effects = log_effects log

  abbrev pub IsFound : Type 0
  IsFound = IsForMade effects attempts vid work.work

  abbrev opened : Option Disk
  opened = (session_among request.session node.sessions).disk

  -- what makes something asks for nothing more
  makes : (what : ObjWork) → work.work ≡ what → is_making what ≡ true → vid_of (oid_of work.work) ≡ vid → IsFound
  makes what is making own = record {
    chain = inl own;
    created = λ reads.
        let makes_it : is_making work.work ≡ true = ap is_making is ∙ making in
        absurd (cc (reads, makes_it));
  }

  valid_oid : (oid : ℕ) → oid_of work.work ≡ oid → IsOid oid
  valid_oid oid is = subst IsOid is (found.sound.open_works req work got).range.oid

  -- the inode of the disk
  inode_found : (id : ℕ) → oid_of work.work ≡ inode_number id → vid_of (oid_of work.work) ≡ vid
      → (id ≡ vid → is_live_state (state_of effects vid) ≡ true) → IsFound
  inode_found id is own live =
      let same : id ≡ vid = sym (vid_in_inode id (valid_oid (inode_number id) is)) ∙ sym (ap vid_of is) ∙ own in
      record {
        chain = inl own;
        created = λ reads. (
          published_in log vid,
          subst (λ (oid : ℕ). IsCreated attempts oid (published_in log vid)) (ap inode_number (sym same) ∙ sym is)
              (published.each vid (live same) refl),
        );
      }

  -- ---- on the open disk

  module _ (disk : Disk) (on : opened ≡ Some disk) (same : disk.inode.vid ≡ vid) where
    known : IsKnownInode found.well.known disk.inode
    known = known_open found.well.known node found.well.on_known request.session disk on

    sound_disk : IsSoundInode disk.inode
    sound_disk =
        let (session, in_node, is) = session_of node request.session disk on in
        subst (λ (o : Option Disk). IfSome o (λ (d : Disk). IsSoundInode d.inode)) is
        (found.sound.each_session request.session session in_node).disk

    -- an entry that isn't 0 stands for an object that was created
    entry_found : (index : ℕ) → 1 ≤ slice_index disk.inode.table index
        → oid_of work.work ≡ object_number (slice_index disk.inode.table index) index
        → (index < OBJECTS_MAX → vid_of (oid_of work.work) ≡ slice_index disk.inode.table index) → IsFound
    entry_found index some is its_id =
        let (session, in_node, open_so) = session_of node request.session disk on in
        let within : index < length disk.inode.table = inside disk.inode.table index (slice_index disk.inode.table index) refl some in
        let long : length disk.inode.table ≡ objects_of disk.inode.spec
        = whole.each n host at up request.session session disk in_node open_so in
        let most : length disk.inode.table ≤ OBJECTS_MAX = known.count in
        let few : index < OBJECTS_MAX = omega (arith, within, most) in
        let inside_it : index < objects_of disk.inode.spec = omega (arith, within, long) in
        let id = its_id few in
        record {
          chain = ⊎_elim
              (λ (hole : slice_index disk.inode.table index ≡ 0). absurd (omega (arith, hole, some)))
              (⊎_elim
              (λ (own : slice_index disk.inode.table index ≡ disk.inode.vid). inl (id ∙ own ∙ same))
              (λ (above : is_above effects (slice_index disk.inode.table index) disk.inode.vid ≡ true).
              inr ((λ i. is_above effects (id i) (sym same i)) ∙ above)))
              (chains n host at up request.session index session disk in_node open_so inside_it);
          created = λ reads. (
            node.peer.epoch,
            subst (λ (oid : ℕ). IsCreated attempts oid node.peer.epoch) (sym is)
                (table_made.each n host at up request.session index session disk in_node open_so (ap good_id same ∙ good)
                (stands_alive effects disk.inode.vid (ap (λ (id : ℕ). is_gone (state_of effects id)) same ∙ stands)) inside_it
                (λ none. omega (arith, none, some))),
          );
        }

    -- what a read of a piece reads
    piece_found : (piece : Piece) → Few piece.index → oid_of work.work ≡ object_number (entry_of disk.inode piece) piece.index → IsFound
    piece_found piece few is = by_entry (entry_of disk.inode piece) refl
      where
        by_entry : (entry : ℕ) → entry_of disk.inode piece ≡ entry → IsFound
        by_entry zero hole =
            let none : vid_of (object_number (entry_of disk.inode piece) piece.index) ≡ 0
            = ap (λ (k : ℕ). vid_of (object_number k piece.index)) hole ∙ hole_none piece.index few in
            absurd ((valid_oid (object_number (entry_of disk.inode piece) piece.index) is).2 none)
        by_entry (suc less) entry =
            let some : 1 ≤ entry_of disk.inode piece = omega (arith, entry) in
            entry_found piece.index some is
            (λ below.
            let most : IsEntry (entry_of disk.inode piece)
            = entry_at IsEntry (omega arith) disk.inode.table piece.index sound_disk.ids.entries in
            ap vid_of is ∙ omega (arith, most, few))

    own_object : (index : ℕ) → Few index → oid_of work.work ≡ object_number disk.inode.vid index → vid_of (oid_of work.work) ≡ vid
    own_object index few is = ap vid_of is ∙ vid-of_object disk.inode.vid index known.disk.id few ∙ same

    writing : (payload : List ℕ) (stage : DriverStage) (piece : Piece) → Few piece.index
        → IsAwaitedAtDriverStage disk.inode payload piece (acts.Work work.work) stage → IsFound
    writing payload InPlace piece few is =
        let asked_so : work.work ≡ write_piece disk.inode payload piece = cc (is) in
        makes (write_piece disk.inode payload piece) asked_so refl (own_object piece.index few (ap oid_of asked_so))
    writing payload Fetching piece few is =
        let asked_so : work.work ≡ read_object disk.inode piece (entry_of disk.inode piece) = cc (is) in
        piece_found piece few (ap oid_of asked_so)
    writing payload Creating piece few (offset, bytes, is) =
        let asked_so : work.work
        ≡ works.Create (object_number disk.inode.vid piece.index) disk.inode.spec.policy (object_bytes disk.inode) offset bytes
        = cc (is) in
        makes (works.Create (object_number disk.inode.vid piece.index) disk.inode.spec.policy (object_bytes disk.inode) offset bytes)
        asked_so refl (own_object piece.index few (ap oid_of asked_so))
    writing payload Entering piece few is =
        let asked_so : work.work ≡ write_entry disk.inode piece = cc (is) in
        makes (write_entry disk.inode piece) asked_so refl
        (ap vid_of (ap oid_of asked_so)
        ∙ vid_in_inode disk.inode.vid (valid_oid (inode_number disk.inode.vid) (ap oid_of asked_so)) ∙ same)

    driving : (driver : Driver) → All FewAt (pieces_left driver) → IsAwaitedByDriver disk.inode driver (acts.Work work.work) → IsFound
    driving (Reads told piece rest) few is =
        let asked_so : work.work ≡ read_piece disk.inode piece (entry_of disk.inode piece) = cc (is) in
        piece_found piece (All-head FewAt piece rest few) (ap oid_of asked_so)
    driving (Writes payload stage piece rest) few is = writing payload stage piece (All-head FewAt piece rest few) is
    driving drivers.Answered few (reply, is) = absurd (cc (is))

    -- a check reads an own object
    checked : (check : Check) (stage : CheckStage) → check.stage ≡ stage → (before : List ℕ)
        → before ++ indexes_left check.stage ≡ own_indexes disk.inode → check.vid ≡ disk.inode.vid
        → IsKnownCourse found.well.known (Checking check)
        → IsOfCheckStage disk check stage work.work → IsFound
    checked check (Comparing index later) stage before indexes of_disk knows is =
        let within : All Few (index ∷ later) = subst (λ (s : CheckStage). All Few (left_of s)) stage knows.within in
        let few = All-head Few index later within in
        let own : slice_index disk.inode.table index ≡ disk.inode.vid
        = own_there disk.inode before later index (ap (λ (s : CheckStage). before ++ indexes_left s) (sym stage) ∙ indexes) in
        let least = known.disk.id.0 in
        let some : 1 ≤ slice_index disk.inode.table index = omega (arith, own, least) in
        entry_found index some (ap oid_of is ∙ ap (λ (k : ℕ). object_number k index) (of_disk ∙ sym own))
        (λ below. ap vid_of (ap oid_of is) ∙ vid-of_object check.vid index knows.disk.id few ∙ of_disk ∙ sym own)
    checked check (Rewriting later) stage before indexes of_disk knows is =
        let own : slice_index disk.inode.table is.index ≡ disk.inode.vid = own_there disk.inode is.before later is.index is.own in
        let least = known.disk.id.0 in
        let within : is.index < length disk.inode.table = inside disk.inode.table is.index disk.inode.vid own least in
        let most : length disk.inode.table ≤ OBJECTS_MAX = known.count in
        let few : Few is.index = omega (arith, within, most) in
        makes _ is.work_of refl
        (ap vid_of (ap oid_of is.work_of) ∙ vid-of_object check.vid is.index knows.disk.id few ∙ of_disk ∙ same)
    checked check checks.Answered stage before indexes of_disk knows is = absurd is

  -- ---- a command

  module _ (op : Op) (command : request.course ≡ Commanding op) (own : vid_of (oid_of work.work) ≡ vid) where
    kept : (id : Vid) (task : Task) → op.stage ≡ Working id task
        → IsStageKept log node.outbox node.peer.entries (length node.peer.entries) node.me request.session
        (opened_in request.session node.sessions) (Working id task)
    kept id task is =
        subst (IsStageKept log node.outbox node.peer.entries (length node.peer.entries) node.me request.session
        (opened_in request.session node.sessions)) is (found.claims.commands req request op there command)

    shares : (id : Vid) (task : Task) → op.stage ≡ Working id task → IsSharedTask node.peer.entries id task
    shares id task is =
        subst (IsSharedStage node.peer.entries) is
        (subst (λ (o : Option Request). IsAtStage (IsSharedDisk node.peer.entries) (IsSharedStage node.peer.entries) o)
        (there ∙ ap (λ (course : Course). Some (record { session = request.session; course = course })) command) (found.shared.stages req))

    -- a disk that became a snapshot by what the node has read
    snapshot_live : was_snapped node.peer.entries vid ≡ true → is_live_state (state_of effects vid) ≡ true
    snapshot_live snapped =
        live_state (state_of effects vid) stands
        (snapped_no_more vid log
        (subst (λ (all : List Entry). was_snapped all vid ≡ true) (sym found.front.is)
        (snapped-later node.peer.entries vid snapped found.front.rest).0))

    tasked : (id : Vid) (task : Task) → op.stage ≡ Working id task → IsOfTask [] no_id [] opened id task work.work → IsFound
    tasked id (Opening snapshot ids header) stage is = by_kind snapshot refl
      where
        by_kind : (b : Bool) → snapshot ≡ b → IsFound
        by_kind true tagged =
            let stage_so : op.stage ≡ Working id (Opening true ids header)
            = stage ∙ ap (λ (b : Bool). Working id (Opening b ids header)) tagged in
            inode_found id.0 (ap oid_of is) own
            (λ same.
            live_state (state_of effects vid) stands
            (subst (λ (k : ℕ). 3 ≤ rank (state_of effects k)) same (kept id (Opening true ids header) stage_so)))
        by_kind false working =
            let stage_so : op.stage ≡ Working id (Opening false ids header)
            = stage ∙ ap (λ (b : Bool). Working id (Opening b ids header)) working in
            inode_found id.0 (ap oid_of is) own
            (λ same.
            ap is_live_state (ap (state_of effects) (sym same)
            ∙ held-works log id.0 _ (kept id (Opening false ids header) stage_so).0.held))
    tasked id (WritingBack inode) stage is = makes _ is.work_of refl own
    tasked id (Tagging old inode) stage is = makes _ is.work_of refl own
    tasked id (Copying ids header) stage is =
        inode_found is.vid.0 (ap oid_of is.work_of) own
        (λ same.
        snapshot_live
        (ap (was_snapped node.peer.entries) (sym same)
        ∙ subst (λ (o : Option Vid). IfSome o (λ (parent : Vid). was_snapped node.peer.entries parent.0 ≡ true)) is.there
        (shares id (Copying ids header) stage)))
    tasked id (Making entry made) stage is = makes _ is.work_of refl own

    staged : (stage : OpStage) → op.stage ≡ stage → IsOfStage [] no_id [] opened stage work.work → IsFound
    staged (Asked entry) stage is = absurd is
    staged (Working id task) stage is = tasked id task stage is
    staged (Publishing entry made) stage is = absurd is
    staged (Answered change) stage is = absurd is

  -- ---- each

  by_course : (course : Course) → request.course ≡ course → WaitsFor [] no_id [] opened course work.work
      → disk_for opened (oid_of work.work) course ≡ Some vid → IsKnownCourse found.well.known course → IsFound
  by_course (Waiting ask) is waits meant knows = absurd waits
  by_course (Driving driver) is waits meant knows =
      driving waits.disk waits.there
      (same_Some waits.disk.inode.vid vid (sym (ap (option_map (λ (disk : Disk). disk.inode.vid)) waits.there) ∙ meant)) driver knows
      waits.awaited
  by_course (Commanding op) is waits meant knows = staged op is (same_Some (vid_of (oid_of work.work)) vid meant) op.stage refl waits
  by_course (Checking check) is waits meant knows =
      let placed = placed_as asked Began req opened request.course (ap is_of_client is)
      (subst (IsPlacedIn asked Began req node.sessions) there (found.placed req)) in
      let on = subst (IsCourseOfAsk (asked req) opened placed.0) is placed.2 in
      let disk_so : on.on.disk ≡ waits.disk = same_Some on.on.disk waits.disk (sym on.on.there ∙ waits.there) in
      let of_disk : check.vid ≡ waits.disk.inode.vid = on.is.vid ∙ ap (λ (d : Disk). d.inode.vid) disk_so in
      checked waits.disk waits.there (sym of_disk ∙ same_Some check.vid vid meant) check check.stage refl on.is.before
      (on.is.indexes ∙ ap (λ (d : Disk). own_indexes d.inode) disk_so) of_disk knows waits.is
  by_course (DoingWork object) is waits meant knows = absurd (cc (meant))
  by_course (AwaitingDecision entry) is waits meant knows = absurd waits

  -- a message's work is on an object of its disk's chain, which was created if the work reads it
  pub work_found : disk_for (session_at request.session node).disk (oid_of work.work) request.course ≡ Some vid → IsFound
  work_found meant =
      by_course request.course refl
      (subst (λ (o : Option Request). IsAt Waits node.sessions o work.work) there
      (found.waiting req work.work (inl (work, got, refl)))).0 meant
      (found.well.on_known.courses req request there)
