-- Each change of a moment on the way of an event keeps that before each write of an object stands a made create of it: what a write goes to
-- is an own object of an open disk, or an inode, of a working disk that is published.
use Rattle.std.proofs.Common.{◌≡◌, inl, ⊎_elim, arith, ℕ, ◌≤◌, ◌<◌, Bool, false, List, length, Option, Some, None, unwrap_or, slice_get}
use Rattle.std.proofs.Common.{slice_index, refl, sym, ap, subst, ◌∙◌}
use Rattle.std.specs.Prelude.{not, ◌&&◌}
use Rattle.std.specs.FinMap as tree
use Rattle.std.specs.List.{list_any}
use Rattle.std.proofs.lemmas.Bool.{cases_lt}
use Rattle.std.proofs.lemmas.List.{get_or_past}
use Rattle.std.proofs.lemmas.Option.{slice_get_within}
use Rattle.proof_tools.proofs.FiniteMaps.{get-insert_same}
use Rattle.object_id.specs.declared.entry.Entry.{Entry}
use Rattle.object_id.specs.declared.limits.TheConstants.{OBJECTS_MAX}
use Rattle.object_id.specs.Oid.{vid_of}
use Rattle.object_id.specs.Spec.{objects_of}
use Rattle.cluster_script.specs.declared.statement.Statement.{Statement}
use Rattle.peer_proto.specs.declared.work.ObjWork.{ObjWork}
use Rattle.peer_proto.specs.Work.{oid_of}
use Rattle.vdi_directory.specs.declared.effect.Effect.{Effect}
use Rattle.vdi_directory.specs.Dead.{is_dead, is_gone, is_heir, granted_ids}
use Rattle.vdi_directory.specs.Decisions.{log_effects}
use Rattle.vdi_directory.specs.States as States
use Rattle.vdi_directory.specs.States.{VdiState, state_of, is_live_state}
use Rattle.gateway.specs.State.{Open}
use Rattle.guest_driver.specs.declared.disk.Disk.{Disk}
use Rattle.guest_driver.specs.PieceWorks.{write_entry}
use Rattle.sheep_node.specs.declared.session.Session.{Session}
use Rattle.sheep_node.specs.Changes.{attempt_in}
use Rattle.sheep_node.specs.SessionQueues.{session_among}
use Rattle.sheep_node.specs.State.{Node, new_session}
use Rattle.sheep_world.specs.Began.{Began}
use Rattle.sheep_world.specs.NodeCauses.{input_of_cause, host_with_node}
use Rattle.sheep_world.specs.World.{Host}
use Rattle.sheep_world.specs.RunsWithAsks.{Move}
use Rattle.overlap_law.specs.Attempts.{AttemptRecord, object_of}
use Rattle.overlap_law.specs.Fates.{IsCreated, AttemptsAreOrdered, CreatesComeFirst}
use Rattle.overlap_law.specs.Grants.{published_in}
use Rattle.overlap_law.specs.Holders.{creates}
use Rattle.overlap_law.specs.MomentChanges.{MomentChange, MomentTrail, Then, RunsAreInRange}
use Rattle.overlap_law.specs.Past.{MomentWithPast, run_with_past}
use Rattle.overlap_law.specs.Tables.{every_id, TablesAreOfTheChain, PublishedInodesAreMade}
use Rattle.overlap_law.specs.ToDo.{WorksNameWhatIsMade}
use Rattle.overlap_law.specs.WholeTables.{TablesAreWhole}
use Rattle.overlap_law.proofs.AnswersInMoments.{not_lost}
use Rattle.overlap_law.proofs.BornFirst.{stays_made}
use Rattle.overlap_law.proofs.CausedWorks.{HasWellWorks, by_changes, no_object}
use Rattle.overlap_law.proofs.EntryWrites.{entry_covered, entry_own}
use Rattle.overlap_law.proofs.KnownDisks.{IsKnownInode, IsKnownCourse, vid-of_object, vid-of_inode}
use Rattle.overlap_law.proofs.NewAttempts.{IsOpened, IsOpenedNow, WasAttempt, come_now}
use Rattle.overlap_law.proofs.NoRecoveredDue.{began-with_past}
use Rattle.overlap_law.proofs.OpenTables.{whole_tables}
use Rattle.overlap_law.proofs.OrderedInRuns.{ordered-in_run}
use Rattle.overlap_law.proofs.PublishedInRuns.{published-on_the_way}
use Rattle.overlap_law.proofs.PublishedInodes.{published_made}
use Rattle.overlap_law.proofs.WaitedInRuns.{works_wait, outcome_waits}
use Rattle.overlap_law.proofs.WorksInMoments.{well_after, well_along}
use Rattle.overlap_law.proofs.WriteObjects.{IsWrite, IsOwnObject, WriteGoes, ToOwn, ToEntered, ToInode, known_open, next_goes}
use Rattle.overlap_law.proofs.WritersOfWorks.{writes_working-after}

-- a working disk isn't dead
working-alive : (effects : List Effect) (vid : ℕ) → state_of effects vid ≡ States.Working → is_dead effects vid ≡ false
unfolding is_dead
working-alive effects vid working =
    ap (λ (state : VdiState). is_gone state && not (list_any (is_heir effects vid) (granted_ids effects))) working

-- an entry that isn't 0 stands inside its table
pub inside : (table : List ℕ) (index entry : ℕ) → slice_index table index ≡ entry → 1 ≤ entry → index < length table
inside table index entry is some = ⊎_elim
    (λ (within : index < length table). within)
    (λ (past : length table ≤ index). let none = sym is ∙ get_or_past table index 0 past in absurd (omega (arith, none, some)))
    (cases_lt index (length table))

-- the session of an open disk is there
pub session_of : (node : Node) (number : ℕ) (disk : Disk) → (session_among number node.sessions).disk ≡ Some disk
    → (session : Session) × (tree.get node.sessions number ≡ Some session) × (session.disk ≡ Some disk)
session_of node number disk opened = by_session (tree.get node.sessions number) refl opened
  where
    by_session : (o : Option Session) → tree.get node.sessions number ≡ o → (unwrap_or o new_session).disk ≡ Some disk
        → (session : Session) × (tree.get node.sessions number ≡ Some session) × (session.disk ≡ Some disk)
    by_session None none opened = absurd (cc (opened))
    by_session (Some session) there opened = (session, there, opened)

-- an object was created by some epoch
abbrev WasCreated : List AttemptRecord → ℕ → Type 0
WasCreated attempts oid = (epoch : ℕ) × IsCreated attempts oid epoch

-- ---- what a write goes to was made

-- what a moment has of this
pub record NamesWhatIsMade (moment : MomentWithPast) : Type 0 where
  pub whole : TablesAreWhole moment.world.hosts
  pub chains : TablesAreOfTheChain (log_effects moment.world.log) moment.world.hosts moment.past.attempts
  pub good_id : ℕ → Bool
  pub named : WorksNameWhatIsMade (log_effects moment.world.log) good_id moment.world.hosts moment.past.attempts
  pub published : PublishedInodesAreMade moment.world.log every_id moment.past.attempts

module _ (moment : MomentWithPast) (all : NamesWhatIsMade moment) (n : ℕ) (host : Host) (at : tree.get moment.world.hosts n ≡ Some host)
    (up : host.is_lost ≡ false) (well : HasWellWorks host.node) (work : ObjWork)
    (working : state_of (log_effects moment.world.log) (vid_of (oid_of work)) ≡ States.Working) where
  works_at : (vid : ℕ) → vid_of (oid_of work) ≡ vid → state_of (log_effects moment.world.log) vid ≡ States.Working
  works_at vid same = ap (state_of (log_effects moment.world.log)) (sym same) ∙ working

  -- the own object of an open disk
  own_made : (number : ℕ) (disk : Disk) → (session_among number host.node.sessions).disk ≡ Some disk → IsOwnObject disk.inode work
      → WasCreated moment.past.attempts (oid_of work)
  own_made number disk opened object =
      let (session, there, is) = session_of host.node number disk opened in
      let known : IsKnownInode well.known disk.inode = known_open well.known host.node well.on_known number disk opened in
      let some : 1 ≤ disk.inode.vid = known.disk.id.0 in
      let within : object.index < length disk.inode.table = inside disk.inode.table object.index disk.inode.vid object.own some in
      let long : length disk.inode.table ≡ objects_of disk.inode.spec = all.whole.each n host at up number session disk there is in
      let most : length disk.inode.table ≤ OBJECTS_MAX = known.count in
      let few : object.index < OBJECTS_MAX = omega (arith, within, most) in
      let inside_it : object.index < objects_of disk.inode.spec = omega (arith, within, long) in
      let id : vid_of (oid_of work) ≡ disk.inode.vid
      = ap vid_of object.object ∙ vid-of_object disk.inode.vid object.index known.disk.id few in (
        host.node.peer.epoch,
        subst (λ (oid : ℕ). IsCreated moment.past.attempts oid host.node.peer.epoch) (sym object.object)
            (all.chains.own n host at up number object.index session disk there is inside_it object.own
            (working-alive (log_effects moment.world.log) disk.inode.vid (works_at disk.inode.vid id))),
      )

  pub goes_made : WriteGoes host.node work → WasCreated moment.past.attempts (oid_of work)
  goes_made (ToOwn number disk opened object) = own_made number disk opened object
  goes_made (ToEntered inode piece id few entering object) = (
    host.node.peer.epoch,
    subst (λ (oid : ℕ). IsCreated moment.past.attempts oid host.node.peer.epoch) (sym object)
        (all.named.own n host at up (write_entry inode piece) inode.vid piece.index
        (record { to_do = inl entering; object = refl; inside = few; covered = entry_covered inode piece id }) id
        (entry_own inode piece id)),
  )
  goes_made (ToInode (vid, id, object)) =
      let same : vid_of (oid_of work) ≡ vid = ap vid_of object ∙ vid-of_inode vid id in (
        published_in moment.world.log vid,
        subst (λ (oid : ℕ). IsCreated moment.past.attempts oid (published_in moment.world.log vid)) (sym object)
            (all.published.each vid (ap is_live_state (works_at vid same)) refl),
      )

-- ---- each change

module _ (script : List Statement) (range : RunsAreInRange script) (start before after : MomentWithPast) (began : Began script start.world)
    (trail : MomentTrail script start before) (change : MomentChange script start before after) (all : NamesWhatIsMade before) where
  -- an attempt that begins
  module _ (j : ℕ) (new : AttemptRecord) (now : IsOpenedNow script start before after j new) (writes : creates new ≡ false) where
    abbrev o : IsOpened script start after new
    o = now.opened

    -- its node, before the change and after it
    abbrev was : Host
    was = host_with_node o.stepping.host o.so_far.node

    abbrev later : Host
    later = host_with_node o.stepping.host o.next.node

    was_at : tree.get before.world.hosts o.stepping.n ≡ Some was
    was_at =
        ap (λ (m : MomentWithPast). tree.get m.world.hosts o.stepping.n) now.before_so
        ∙ get-insert_same start.world.hosts o.stepping.n (host_with_node o.stepping.host o.so_far.node)

    later_at : tree.get after.world.hosts o.stepping.n ≡ Some later
    later_at =
        ap (λ (m : MomentWithPast). tree.get m.world.hosts o.stepping.n) o.moment_so
        ∙ get-insert_same start.world.hosts o.stepping.n (host_with_node o.stepping.host o.next.node)

    same_log : after.world.log ≡ before.world.log
    same_log = ap (λ (m : MomentWithPast). m.world.log) o.moment_so ∙ sym (ap (λ (m : MomentWithPast). m.world.log) now.before_so)

    write : IsWrite o.asked.work
    write = record { making = o.making; writes = ap (λ (a : AttemptRecord). creates a) o.opened ∙ writes }

    well : HasWellWorks o.so_far.node
    well = well_along script range start began trail o.stepping.n was was_at

    well_later : HasWellWorks o.next.node
    well_later = well_after script range start began change o.stepping.n later later_at

    knows : IsKnownCourse well_later.known o.request.course
    knows = well_later.on_known.courses o.req o.request (ap (λ requests. tree.get requests o.req) o.requests_so ∙ o.there)

    goes : WriteGoes o.so_far.node o.asked.work
    goes =
        next_goes well.known well_later.known (input_of_cause o.stepping.cause) o.stepping.host.node o.so_far well.on_known
        (works_wait script range start.world began o.stepping.n o.stepping.host o.is.there o.is.up o.stepping.cause
        (by_changes o.stepping.cause o.by) o.is.caused o.so_far o.leads)
        (no_object script start.world o.stepping.n o.stepping.host o.stepping.cause o.is.caused)
        (outcome_waits script range start.world began o.stepping.n o.stepping.host o.is.there o.is.up o.stepping.cause
        (by_changes o.stepping.cause o.by) o.is.caused o.so_far o.leads)
        well.allowed o.session o.req o.asked o.lined o.comes o.request o.there knows write

    working : state_of (log_effects before.world.log) (vid_of (oid_of o.asked.work)) ≡ States.Working
    working =
        ap (λ (log : List Entry). state_of (log_effects log) (vid_of (oid_of o.asked.work))) (sym same_log)
        ∙ writes_working-after script range start began change o.stepping.n later later_at (not_lost o.stepping.host o.is.up) o.req
        (record o.asked { stage = Open (attempt_in o.asked o.lined.node) }) o.at_gateway o.making write.writes

    opened_made : WasCreated before.past.attempts (object_of new)
    opened_made =
        subst (WasCreated before.past.attempts) (ap object_of o.opened)
        (goes_made before all o.stepping.n was was_at (not_lost o.stepping.host o.is.up) well o.asked.work working goes)

  -- a made create before, in its order, is one after
  module _ (first : CreatesComeFirst before.past.attempts) (ordered : AttemptsAreOrdered after.world.wire after.past.attempts) where
    create_after : (j : ℕ) (attempt : AttemptRecord) → slice_get after.past.attempts j ≡ Some attempt → (epoch : ℕ)
        → (created : IsCreated before.past.attempts (object_of attempt) epoch) → created.place < j
        → (created : IsCreated after.past.attempts (object_of attempt) attempt.epoch) × (created.place < j)
    create_after j attempt there epoch created behind =
        let still = stays_made script range start before after began change created.place created.create created.there in
        let object : object_of still.now ≡ object_of attempt = ap object_of (sym still.same) ∙ created.object in (
          record {
            place = created.place;
            create = still.now;
            there = still.there;
            object = object;
            creating = ap (λ (a : AttemptRecord). creates a) (sym still.same) ∙ created.creating;
            made = still.made created.made;
            epoch_of_it = (ordered.each created.place still.now still.there j attempt there behind object).epochs;
          },
          behind,
        )

    pub created_first : CreatesComeFirst after.past.attempts
    created_first = record {
      each = λ j attempt there writes. ⊎_elim
          (λ (w : WasAttempt before j attempt).
          let object : object_of w.was ≡ object_of attempt = ap object_of w.same in
          let (created, behind) = first.each j w.was w.at (ap (λ (a : AttemptRecord). creates a) w.same ∙ writes) in
          create_after j attempt there w.was.epoch
          (record {
            place = created.place;
            create = created.create;
            there = created.there;
            object = created.object ∙ object;
            creating = created.creating;
            made = created.made;
            epoch_of_it = created.epoch_of_it;
          })
          behind)
          (λ (now : IsOpenedNow script start before after j attempt).
          let (epoch, created) = opened_made j attempt now writes in
          let within : created.place < length before.past.attempts = slice_get_within before.past.attempts created.place created.create
          created.there in
          let last = now.last in
          create_after j attempt there epoch created (omega (arith, within, last)))
          (come_now script range start began change j attempt there);
    }

-- ---- on the way of an event

module _ (script : List Statement) (range : RunsAreInRange script) (events : List Move) (start before after : MomentWithPast)
    (is : run_with_past script events ≡ Some start) (trail : MomentTrail script start before)
    (change : MomentChange script start before after) where
  pub first-on_the_way : (good_id : ℕ → Bool)
      → TablesAreOfTheChain (log_effects before.world.log) before.world.hosts before.past.attempts
      → WorksNameWhatIsMade (log_effects before.world.log) good_id before.world.hosts before.past.attempts
      → CreatesComeFirst before.past.attempts → CreatesComeFirst after.past.attempts
  first-on_the_way good_id chains named first =
      created_first script range start before after (began-with_past script events start is) trail change (record {
        whole = whole_tables script range events start before is trail;
        chains = chains;
        good_id = good_id;
        named = named;
        published = published_made before.world.log every_id before.past.attempts
            (published-on_the_way script range events start before is trail);
      }) first (ordered-in_run script range events start after is (Then trail change))
