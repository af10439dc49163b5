-- Over each change of a moment the entries of an inode that a command writes back, as its disk is opened, may come to be read of the inode:
-- they were read of attempts that were served, what is behind those is doomed, and nothing begins on the inode but the command's own work.
use Rattle.std.proofs.Common.{◌≡◌, ◌≢◌, inl, inr, ⊎_elim, arith, ℕ, ◌+◌, ◌*◌, ◌<◌, ◌==◌, Bool, true, false, List, [], ◌∷◌, ◌++◌}
use Rattle.std.proofs.Common.{length, Option, Some, None, slice_get, slice_index, refl, sym, ap, subst, ◌∙◌}
use Rattle.std.specs.Ordering.{nat_cmp}
use Rattle.std.specs.FinMap as tree
use Rattle.std.proofs.lemmas.Bool.{eq-eqb, eqb-true}
use Rattle.std.proofs.lemmas.Option.{same_Some, slice_get_within}
use Rattle.proof_tools.proofs.FiniteMaps.{get-insert_same, get-insert_other, get-insert_cases}
use Rattle.disk_lock.specs.declared.holder.Holder.{Holder}
use Rattle.object_id.specs.declared.entry.Entry.{Entry}
use Rattle.object_id.specs.declared.entry.VdiSpec.{VdiSpec}
use Rattle.object_id.specs.declared.oid.Vid.{Vid}
use Rattle.object_id.specs.Fields.{u32_at}
use Rattle.object_id.specs.Oid.{inode_number, vid_of}
use Rattle.object_id.specs.Spec.{objects_of}
use Rattle.epoch_log.specs.Epochs.{epoch_of}
use Rattle.inode.specs.Layout.{Content}
use Rattle.inode.specs.declared.layout.TheConstants.{INODE_HEADER_BYTES}
use Rattle.cluster_script.specs.declared.statement.Statement.{Statement}
use Rattle.peer_proto.specs.declared.work.ObjWork.{ObjWork}
use Rattle.peer_proto.specs.Work.{oid_of}
use Rattle.gateway.specs.State.{Open, Work}
use Rattle.vdi_directory.specs.declared.header.Header.{Header}
use Rattle.vdi_directory.specs.Dead.{is_dead}
use Rattle.vdi_directory.specs.Decisions.{log_effects}
use Rattle.vdi_ops.specs.Op.{Op, OpStage, OpStep, Opening, Working, WritingBack}
use Rattle.vdi_ops.specs.Steps.{op_on_done}
use Rattle.vdi_ops.specs.Tables.{table_in, inode_by}
use Rattle.sheep_node.specs.Changes.{attempt_in}
use Rattle.sheep_node.specs.May.{is_disk_course}
use Rattle.sheep_node.specs.SessionQueues.{command_in}
use Rattle.sheep_node.specs.declared.course.Course.{Course}
use Rattle.sheep_node.specs.declared.course.Course.TheVariants.{Commanding}
use Rattle.sheep_node.specs.declared.course.Request.{Request}
use Rattle.sheep_world.specs.Began.{Began}
use Rattle.sheep_world.specs.NodeCauses.{input_of_cause, host_with_node}
use Rattle.sheep_world.specs.World.{Host}
use Rattle.sheep_world.specs.RunsWithAsks.{Move}
use Rattle.overlap_law.specs.Attempts.{AttemptRecord, object_of}
use Rattle.overlap_law.specs.CommandDisks.{opened_in, IsOpenAtStage, IsOpenAtCourse}
use Rattle.overlap_law.specs.Each.{spec_in}
use Rattle.overlap_law.specs.Grants.{writer_of}
use Rattle.overlap_law.specs.InodesRead.{ReadsInodeAt, IsOfOneToCome, ReadsAreToCome}
use Rattle.overlap_law.specs.KeptHistory.{EntersAs, CommandsWriteWhatMayCome}
use Rattle.overlap_law.specs.MomentChanges.{MomentChange, MomentTrail, Then, RunsAreInRange}
use Rattle.overlap_law.specs.NamedWorks.{HasEntry}
use Rattle.overlap_law.specs.OpenedTables.{EntriesReadAreKept, GivesEntry, WrittenBackHaveTables}
use Rattle.overlap_law.specs.Past.{MomentWithPast, run_with_past}
use Rattle.overlap_law.specs.ServedLast.{IsServedLast, IsOneToCome, gives_value, WrittenBackWasServed}
use Rattle.overlap_law.specs.StayingBlocks.{HasEntryOf}
use Rattle.overlap_law.specs.Tables.{entry_unit, entry_by}
use Rattle.overlap_law.specs.TiedAttempts.{IsTied}
use Rattle.overlap_law.specs.ToDo.{entry_made}
use Rattle.overlap_law.specs.Units.{covers_unit}
use Rattle.overlap_law.specs.WriterClaims.{HasLock, IsStageKept, holder_at}
use Rattle.overlap_law.specs.Writers.{session_holder}
use Rattle.overlap_law.proofs.AnswersInMoments.{not_lost}
use Rattle.overlap_law.proofs.AttemptLists.{got_last}
use Rattle.overlap_law.proofs.BackSteps.{IsBackStage, no_back, has_read}
use Rattle.overlap_law.proofs.CausedWorks.{HasWellWorks}
use Rattle.overlap_law.proofs.ClaimsInRuns.{claims-in_run}
use Rattle.overlap_law.proofs.DisksOnTheWay.{known_along}
use Rattle.overlap_law.proofs.GrantedAttempts.{only_writer-in_run}
use Rattle.overlap_law.proofs.GrantsOfCommands.{sound_along}
use Rattle.overlap_law.proofs.GuestsInMoments.{GuestsChange, GuestsStay, GuestsAreNone, IsGoingOn, IsBetween, between}
use Rattle.overlap_law.proofs.KeptIds.{lock-writer}
use Rattle.overlap_law.proofs.KnownDisks.{IsKnownInode, IsKnownCourse, IsKnownStage, vid-of_inode}
use Rattle.overlap_law.proofs.LogsOfMoments.{log_of_change}
use Rattle.overlap_law.proofs.MakingStages.{none_begins, none_decided}
use Rattle.overlap_law.proofs.NamedEntries.{opened_there, opened_up}
use Rattle.overlap_law.proofs.NewAttempts.{IsOpened, WasAttempt, come_from}
use Rattle.overlap_law.proofs.NoRecoveredDue.{began-with_past}
use Rattle.overlap_law.proofs.OpenDisksInRuns.{disks_fit-in_run}
use Rattle.overlap_law.proofs.OwnTables as tables
use Rattle.overlap_law.proofs.RunsByChanges.{on_the_way}
use Rattle.overlap_law.proofs.ServedLast.{served_comes, served_stays}
use Rattle.overlap_law.proofs.StagesFrom.{IsOfWorks, ComesNow, stage_from}
use Rattle.overlap_law.proofs.TablesStay.{lived}
use Rattle.overlap_law.proofs.TiedInRuns.{kept_tied}
use Rattle.overlap_law.proofs.WorksInMoments.{well_along}

-- ---- how a command comes to write back

-- it has read the inode
abbrev WasReading : Vid → Content → Op → List ℕ → Type 0
WasReading vid inode op bytes = (ids : List ℕ) × (header : Header) × (op.stage ≡ Working vid (Opening false ids header))
    × (inode_by header vid.0 (table_in ids header.spec bytes) ≡ inode)

back_of_works : (vid : Vid) (inode : Content)
    → IsOfWorks (λ (stage : OpStage). stage ≡ Working vid (WritingBack inode)) (WasReading vid inode)
back_of_works vid inode = record {
  begins = λ by session ask disk step is at. none_begins IsBackStage no_back by session ask disk step is (vid, inode, at);
  decided = λ known disk decision op step is at. none_decided IsBackStage no_back op known disk decision step is (vid, inode, at);
  goes = λ op bytes step is at. let r = has_read op bytes step vid inode is at in (r.ids, r.header, r.at, r.same);
}

-- ---- a command that writes back, at a moment

module _ (script : List Statement) (range : RunsAreInRange script) (events : List Move) (start moment : MomentWithPast)
    (ran : run_with_past script events ≡ Some start) (way : MomentTrail script start moment) (n : ℕ) (host : Host)
    (there : tree.get moment.world.hosts n ≡ Some host) (up : host.is_lost ≡ false) (req : ℕ) (request : Request) (op : Op) (vid : Vid)
    (inode : Content) (got : tree.get host.node.requests req ≡ Some request) (command : request.course ≡ Commanding op)
    (at : op.stage ≡ Working vid (WritingBack inode)) where
  well : HasWellWorks host.node
  well = well_along script range start (began-with_past script events start ran) way n host there

  known : IsKnownInode (log_effects moment.world.log) inode
  known =
      subst (IsKnownStage (log_effects moment.world.log)) at
      (subst (IsKnownCourse (log_effects moment.world.log)) command
      ((known_along script range start (began-with_past script events start ran) way n host there).courses req request got))

  -- the disk was made as the inode says
  made_with : spec_in (log_effects moment.world.log) inode.vid ≡ Some inode.spec
  made_with = known.disk.made

  -- its session has the lock
  locked : HasLock moment.world.log host.node.outbox host.node.me request.session (epoch_of host.node.peer.entries) vid.0
  locked =
      (subst (IsStageKept moment.world.log host.node.outbox host.node.peer.entries (length host.node.peer.entries) host.node.me
      request.session (opened_in request.session host.node.sessions)) at
      (((claims-in_run script range events start moment ran way).each n host there up).commands req request op got command)).0

  same_id : inode.vid ≡ vid.0
  same_id =
      (subst (IsOpenAtStage (opened_in request.session host.node.sessions)) at
      (subst (IsOpenAtCourse (opened_in request.session host.node.sessions)) command
      ((disks_fit-in_run script range events start moment ran way).each n host there up req request got))).1

  may_write : writer_of (log_effects moment.world.log) inode.vid ≡ Some (holder_at host.node.me request.session)
  may_write =
      ap (writer_of (log_effects moment.world.log)) same_id
      ∙ lock-writer moment.world.log host.node.outbox host.node.me request.session (epoch_of host.node.peer.entries) vid.0 locked

  -- what begins on the inode is its own work, which gives the entries of the table
  module _ (good_id : ℕ → Bool) (back : WrittenBackHaveTables (log_effects moment.world.log) good_id moment.world.hosts)
      (good : good_id inode.vid ≡ true) (lives : is_dead (log_effects moment.world.log) inode.vid ≡ false) (index : ℕ)
      (inside : index < objects_of inode.spec) where
    gives : (work : ObjWork) → (one : Work) → tree.get host.node.gateway.works req ≡ Some one → one.work ≡ work
        → GivesEntry inode index work
    gives work one held is =
        back.each n host there up req index request op vid inode work got command at (inl (one, held, is)) good lives inside

    own_begins : (attempt : AttemptRecord) → IsOpened script start moment attempt → object_of attempt ≡ inode_number inode.vid
        → gives_value index (slice_index inode.table index) attempt.work ≡ true
    own_begins attempt o object =
        let work : Work = record o.asked { stage = Open (attempt_in o.asked o.lined.node) } in
        let writes = (only_writer-in_run script range events start moment ran way).each o.stepping.n
        (host_with_node o.stepping.host o.next.node) (opened_there script start moment attempt o) (opened_up script start moment attempt o)
        o.req work o.at_gateway o.making in
        let on_inode : oid_of o.asked.work ≡ inode_number inode.vid = ap (λ (a : AttemptRecord). object_of a) o.opened ∙ object in
        let holder : session_holder o.stepping.n writes.request.session ≡ holder_at host.node.me request.session
        = same_Some (session_holder o.stepping.n writes.request.session) (holder_at host.node.me request.session)
        (sym writes.may.writer
        ∙ ap (writer_of (log_effects moment.world.log)) (ap vid_of on_inode ∙ vid-of_inode inode.vid known.disk.id) ∙ may_write) in
        let me : host.node.me.0 ≡ n
        = ((sound_along script range start (began-with_past script events start ran) way).each n host there).read.own in
        let number : o.stepping.n ≡ n = ap (λ (h : Holder). h.node.0) holder ∙ me in
        let session : writes.request.session ≡ request.session = ap (λ (h : Holder). h.session) holder in
        let same : host_with_node o.stepping.host o.next.node ≡ host
        = same_Some (host_with_node o.stepping.host o.next.node) host
        (sym (opened_there script start moment attempt o) ∙ ap (tree.get moment.world.hosts) number ∙ there) in
        let there_so : tree.get host.node.requests o.req ≡ Some writes.request
        = ap (λ (h : Host). tree.get h.node.requests o.req) (sym same) ∙ writes.there in
        let at_gateway : tree.get host.node.gateway.works o.req ≡ Some work
        = ap (λ (h : Host). tree.get h.node.gateway.works o.req) (sym same) ∙ o.at_gateway in
        let named : command_in request.session host.node.sessions ≡ Some req
        = well.alone.named req request got (ap is_disk_course command) in
        let one : o.req ≡ req = well.alone.alone request.session req o.req writes.request named there_so session in
        let entry = gives o.asked.work work (ap (tree.get host.node.gateway.works) (sym one) ∙ at_gateway) refl in
        ap (gives_value index (slice_index inode.table index)) (ap (λ (a : AttemptRecord). a.work) (sym o.opened))
        ∙ eq-eqb (entry_made index o.asked.work) (slice_index inode.table index) entry.entry

-- ---- over each change

module _ (script : List Statement) (range : RunsAreInRange script) (events : List Move) (start before after : MomentWithPast)
    (run : run_with_past script events ≡ Some start) (trail : MomentTrail script start before)
    (change : MomentChange script start before after) (good_id : ℕ → Bool) (kept : EntriesReadAreKept script good_id start before)
    (reads : ReadsAreToCome script good_id start before)
    (all : WrittenBackWasServed (log_effects before.world.log) good_id before.world.hosts before.past.attempts) where
  began : Began script start.world
  began = began-with_past script events start run

  -- each entry of the inode's table was served last before the change
  abbrev WasServed : Content → ℕ → Type 0
  WasServed inode index =
      IsServedLast (gives_value index (slice_index inode.table index)) (gives_value index (slice_index inode.table index))
      before.world.hosts before.past.attempts (inode_number inode.vid) (entry_unit index)

  module _ (n : ℕ) (host : Host) (there : tree.get after.world.hosts n ≡ Some host) (up : host.is_lost ≡ false) (req index : ℕ)
      (request : Request) (op : Op) (vid : Vid) (inode : Content) (got : tree.get host.node.requests req ≡ Some request)
      (command : request.course ≡ Commanding op) (at : op.stage ≡ Working vid (WritingBack inode)) (good : good_id inode.vid ≡ true)
      (lives : is_dead (log_effects after.world.log) inode.vid ≡ false) (inside : index < objects_of inode.spec) where
    lived_before : is_dead (log_effects before.world.log) inode.vid ≡ false
    lived_before = lived before.world.log after.world.log (log_of_change script change) inode.vid lives

    -- what was read just now
    read_now : (g : IsGoingOn script start before after)
        → ComesNow (WasReading vid inode) (input_of_cause g.stepping.cause) g.stepping.host.node req request.session g.so_far
        → WasServed inode index
    read_now g c =
        let (ids, header, stage, same) = c.came in
        let made : Content = inode_by header vid.0 (table_in ids header.spec c.bytes) in
        let good_so : good_id vid.0 ≡ true = ap (λ (i : Content). good_id i.vid) same ∙ good in
        let lives_so : is_dead (log_effects before.world.log) vid.0 ≡ false
        = ap (λ (i : Content). is_dead (log_effects before.world.log) i.vid) same ∙ lived_before in
        let inside_so : index < objects_of header.spec = subst (λ (i : Content). index < objects_of i.spec) (sym same) inside in
        let value : ℕ = u32_at (INODE_HEADER_BYTES + 4 * index) c.bytes in
        let one : IsOfOneToCome before.world.hosts before.past.attempts g.so_far.node.peer.epoch vid.0 index value
        = reads g.stepping g.so_far g.is g.by g.within.leads g.before_so request.session req c.number c.work c.attempt c.status c.op c.bytes
        vid header index c.ends (subst (λ (s : OpStage). ReadsInodeAt s vid header) (sym stage) (refl, refl)) good_so lives_so inside_so in
        let entry : value ≡ slice_index made.table index
        = sym (kept g.stepping g.so_far g.is g.by g.within.leads g.before_so request.session req c.number c.work c.attempt c.status c.op
        c.bytes vid false ids header index c.ends stage good_so lives_so inside_so)
        ∙ sym (tables.entry_read ids (objects_of header.spec) INODE_HEADER_BYTES index c.bytes inside_so) in
        subst (λ (i : Content). WasServed i index) same
        (record {
          place = one.place;
          one = one.one;
          there = one.to_come.there;
          object = one.to_come.object;
          covers = one.to_come.covers;
          served = one.served;
          is = eq-eqb (entry_by index one.one) (slice_index made.table index) (one.same ∙ entry);
          later = λ k other got_it behind object covers. inl (one.behind k other got_it behind object covers);
        })

    own : (g : IsGoingOn script start before after) → tree.get g.next.node.requests req ≡ Some request → WasServed inode index
    own g got_now = ⊎_elim
        (λ (had : tree.get g.so_far.node.requests req ≡ Some request).
        all.each g.stepping.n (host_with_node g.stepping.host g.so_far.node)
        (ap (λ (m : MomentWithPast). tree.get m.world.hosts g.stepping.n) g.before_so
        ∙ get-insert_same start.world.hosts g.stepping.n (host_with_node g.stepping.host g.so_far.node))
        (not_lost g.stepping.host g.is.up) req index request op vid inode had command at good lived_before inside)
        (λ (c : ComesNow (WasReading vid inode) (input_of_cause g.stepping.cause) g.stepping.host.node req request.session g.so_far).
        read_now g c)
        (stage_from (λ (stage : OpStage). stage ≡ Working vid (WritingBack inode)) (WasReading vid inode) (back_of_works vid inode) req
        (input_of_cause g.stepping.cause) g.stepping.host.node g.so_far g.next g.within.change request op got_now command at)

    by_guests : GuestsChange before n host → WasServed inode index
    by_guests (GuestsStay was was_there was_up gateway sessions requests) =
        all.each n was was_there (was_up up) req index request op vid inode
        (ap (λ (r : tree.FinMap nat_cmp Request). tree.get r req) (sym requests) ∙ got) command at good lived_before inside
    by_guests (GuestsAreNone sessions none) =
        let empty : tree.get host.node.requests req ≡ None
        = ap (λ (r : tree.FinMap nat_cmp Request). tree.get r req) none ∙ tree.get-empty {X = Request} nat_cmp req in
        absurd (cc (empty, got))

    was_served : WasServed inode index
    was_served = ⊎_elim
        (λ (g : IsGoingOn script start before after). ⊎_elim
        (λ (mine : (n ≡ g.stepping.n) × (host_with_node g.stepping.host g.next.node ≡ host)).
        own g (ap (λ (h : Host). tree.get h.node.requests req) mine.1 ∙ got))
        (λ (other : (n ≢ g.stepping.n) × (tree.get start.world.hosts n ≡ Some host)).
        all.each n host
        (ap (λ (m : MomentWithPast). tree.get m.world.hosts n) g.before_so
        ∙ get-insert_other start.world.hosts g.stepping.n (host_with_node g.stepping.host g.so_far.node) n other.0 ∙ other.1) up req index
        request op vid inode got command at good lived_before inside)
        (get-insert_cases start.world.hosts g.stepping.n (host_with_node g.stepping.host g.next.node) n host
        (sym (ap (λ (m : MomentWithPast). tree.get m.world.hosts n) g.after_so) ∙ there)))
        (λ (b : IsBetween before after). by_guests (b.0 n host there))
        (between script start change)

  module _ (back : WrittenBackHaveTables (log_effects after.world.log) good_id after.world.hosts) where
    pub back_served : WrittenBackWasServed (log_effects after.world.log) good_id after.world.hosts after.past.attempts
    back_served = record {
      each = λ n host there up req index request op vid inode got command at good lives inside.
          served_stays script range events start before after run trail change (gives_value index (slice_index inode.table index))
          (gives_value index (slice_index inode.table index)) (inode_number inode.vid) (entry_unit index)
          (λ attempt grown object covers. ⊎_elim
          (λ (w : WasAttempt before (length before.past.attempts) attempt).
          let within = slice_get_within before.past.attempts (length before.past.attempts) w.was w.at in absurd (omega (arith, within)))
          (λ (o : IsOpened script start after attempt).
          own_begins script range events start after run (Then trail change) n host there up req request op vid inode got command at good_id
          back good lives index inside attempt o object)
          (come_from script range start began change (length before.past.attempts) attempt
          (ap (λ (list : List AttemptRecord). slice_get list (length before.past.attempts)) grown
          ∙ got_last before.past.attempts attempt)))
          (was_served n host there up req index request op vid inode got command at good lives inside);
    }

    -- so what commands write might come before
    pub commands_write : CommandsWriteWhatMayCome good_id before after
    commands_write = record {
      each = λ n host there up req vid index request op own_id inode work got command at held written has of.
          let on_inode : inode_number inode.vid ≡ inode_number vid = sym (ap oid_of written.work_of) ∙ has.object in
          let same : inode.vid ≡ vid = omega (arith, on_inode) in
          let good : good_id inode.vid ≡ true = ap good_id same ∙ of.good in
          let lives : is_dead (log_effects after.world.log) inode.vid ≡ false
          = ap (is_dead (log_effects after.world.log)) same ∙ of.alive in
          let spec_so : of.spec ≡ inode.spec
          = same_Some of.spec inode.spec
          (sym of.made_with ∙ ap (spec_in (log_effects after.world.log)) (sym same)
          ∙ made_with script range events start after run (Then trail change) n host there up req request op own_id inode got command at) in
          let inside : index < objects_of inode.spec = subst (λ (s : VdiSpec). index < objects_of s) spec_so of.object in
          let value : ℕ = slice_index inode.table index in
          let comes : IsOneToCome (gives_value index value) before.world.hosts before.past.attempts (inode_number inode.vid)
          (entry_unit index)
          = served_comes (gives_value index value) (gives_value index value) before.world.hosts before.past.attempts
          (inode_number inode.vid) (entry_unit index)
          (on_the_way script IsTied (kept_tied script range) events start before run trail).fates.whole
          (was_served n host there up req index request op own_id inode got command at good lives inside) (λ work is. is) in
          let entry = gives script range events start after run (Then trail change) n host there up req request op own_id inode got command
          at good_id back good lives index inside work.work work held refl in
          subst (λ (v : ℕ). EntersAs before.world.hosts before.past.attempts v index (entry_made index work.work)) same
          (inr (comes.place, comes.one, comes.to_come, eqb-true (entry_made index comes.one.work) value comes.is ∙ sym entry.entry));
    }
