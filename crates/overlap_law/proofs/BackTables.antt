-- Each change of a moment keeps that what writes an inode back has the entries of the table that the session then has, if what is read of
-- an inode, as its disk is opened, is as it counts.
use Rattle.std.proofs.Common.{◌≡◌, ◌≢◌, ⊎_elim, ℕ, ◌<◌, Bool, true, false, List, Option, Some, None}
use Rattle.std.proofs.Common.{refl, sym, ap, subst, ◌∙◌}
use Rattle.std.specs.Ordering.{nat_cmp}
use Rattle.std.specs.FinMap as tree
use Rattle.proof_tools.proofs.FiniteMaps.{get-insert_same, get-insert_other, get-insert_cases}
use Rattle.object_id.specs.declared.oid.Vid.{Vid}
use Rattle.object_id.specs.Oid.{IsVid}
use Rattle.object_id.specs.Spec.{objects_of}
use Rattle.inode.specs.Layout.{Content}
use Rattle.inode.specs.declared.layout.TheConstants.{INODE_HEADER_BYTES}
use Rattle.cluster_script.specs.declared.statement.Statement.{Statement}
use Rattle.peer_proto.specs.declared.work.ObjWork.{ObjWork}
use Rattle.gateway.specs.State.{Gateway}
use Rattle.vdi_directory.specs.Dead.{is_dead}
use Rattle.vdi_directory.specs.Decisions.{log_effects}
use Rattle.vdi_ops.specs.Kept.{IsInodeHeader}
use Rattle.vdi_ops.specs.Op.{Op, Working, WritingBack}
use Rattle.vdi_ops.specs.Tables.{table_in, inode_by}
use Rattle.sheep_node.specs.WantedWorks.{HasWork}
use Rattle.sheep_node.specs.Changes.{IsSoundStep}
use Rattle.sheep_node.specs.declared.course.Course.TheVariants.{Commanding}
use Rattle.sheep_node.specs.declared.course.Request.{Request}
use Rattle.sheep_node.proofs.NumberChanges.{both_in_chain}
use Rattle.sheep_node.proofs.OneWorkChanges.{StepHasOneWork}
use Rattle.sheep_node.proofs.OneWorkParts.{Sessions}
use Rattle.sheep_world.specs.Began.{Began}
use Rattle.sheep_world.specs.NodeCauses.{input_of_cause, host_with_node}
use Rattle.sheep_world.specs.World.{Host}
use Rattle.sheep_world.specs.RunsWithAsks.{Move}
use Rattle.overlap_law.specs.MomentChanges.{MomentChange, MomentTrail, RunsAreInRange}
use Rattle.overlap_law.specs.OpenedTables.{EntriesReadAreKept, GivesEntry, WrittenBackHaveTables}
use Rattle.overlap_law.specs.Past.{MomentWithPast, run_with_past}
use Rattle.overlap_law.specs.StepMoments.{moment_in_step}
use Rattle.overlap_law.proofs.AnswersInMoments.{not_lost}
use Rattle.overlap_law.proofs.BackSteps.{IsBack, ReadsAreWhole, change_back}
use Rattle.overlap_law.proofs.GuestsInMoments.{GuestsChange, GuestsStay, GuestsAreNone, IsGoingOn, IsBetween, between}
use Rattle.overlap_law.proofs.KnownSteps.{known_step}
use Rattle.overlap_law.proofs.LogsOfMoments.{log_of_change}
use Rattle.overlap_law.proofs.NoRecoveredDue.{began-with_past}
use Rattle.overlap_law.proofs.OpeningReads.{opening_reads, opening_vid, opening_header, read_long}
use Rattle.overlap_law.proofs.OwnTables as tables
use Rattle.overlap_law.proofs.TablesStay.{lived}
use Rattle.overlap_law.proofs.WorksAtCourses.{IsAt, HaveAt, AtSoFar}
use Rattle.overlap_law.proofs.WrittenBack.{back_entry, back_covers, header_long}

module _ (script : List Statement) (range : RunsAreInRange script) (events : List Move) (start before after : MomentWithPast)
    (ran : run_with_past script events ≡ Some start) (trail : MomentTrail script start before)
    (change : MomentChange script start before after)
    (good_id : ℕ → Bool) (kept : EntriesReadAreKept script good_id start before)
    (all : WrittenBackHaveTables (log_effects before.world.log) good_id before.world.hosts) where
  began : Began script start.world
  began = began-with_past script events start ran

  abbrev IsBackThen : MomentWithPast → Host → Type 0
  IsBackThen moment host =
      HaveAt (IsBack (log_effects moment.world.log) good_id) host.node.gateway.works host.node.requests host.node.sessions

  at_host : (n : ℕ) (host : Host) → tree.get before.world.hosts n ≡ Some host → host.is_lost ≡ false
      → HaveAt (IsBack (log_effects before.world.log) good_id) host.node.gateway.works host.node.requests host.node.sessions
  at_host n host there up req work has = by_request (tree.get host.node.requests req) refl
    where
      by_request : (o : Option Request) → tree.get host.node.requests req ≡ o
          → IsAt (IsBack (log_effects before.world.log) good_id) host.node.sessions (tree.get host.node.requests req) work
      by_request None got =
          subst (λ (o : Option Request). IsAt (IsBack (log_effects before.world.log) good_id) host.node.sessions o work) (sym got) tt
      by_request (Some request) got =
          subst (λ (o : Option Request). IsAt (IsBack (log_effects before.world.log) good_id) host.node.sessions o work) (sym got)
          (λ op vid inode index command at good lives inside.
          all.each n host there up req index request op vid inode work got command at has good lives inside)

  -- a node that goes on in its step
  module _ (g : IsGoingOn script start before after) where
    abbrev was : Host
    was = host_with_node g.stepping.host g.so_far.node

    trail_here : MomentTrail script start (moment_in_step script g.stepping start g.so_far)
    trail_here = subst (MomentTrail script start) g.before_so trail

    was_there : tree.get before.world.hosts g.stepping.n ≡ Some (host_with_node g.stepping.host g.so_far.node)
    was_there =
        ap (λ (m : MomentWithPast). tree.get m.world.hosts g.stepping.n) g.before_so
        ∙ get-insert_same start.world.hosts g.stepping.n (host_with_node g.stepping.host g.so_far.node)

    sound : IsSoundStep (input_of_cause g.stepping.cause) g.stepping.host.node
    sound = (known_step script range start.world began g.stepping g.is).sound

    good_one : StepHasOneWork g.so_far
    good_one = (both_in_chain (input_of_cause g.stepping.cause) g.stepping.host.node sound g.so_far g.within.leads).0

    whole : ReadsAreWhole (log_effects before.world.log) good_id (input_of_cause g.stepping.cause) g.stepping.host.node sound g.so_far
    whole session req number work attempt status op bytes vid ids header index ends at good lives inside =
        let inode : Content = inode_by header vid.0 (table_in ids header.spec bytes) in
        let reads = opening_reads script range events start ran g.stepping g.is g.by g.so_far g.within.leads trail_here session req number
        work
        attempt status op bytes vid false ids header ends at in
        let id : IsVid vid.0 = opening_vid script range events start ran g.stepping g.is g.by g.so_far g.within.leads trail_here session req
        number work attempt status op bytes vid false ids header ends at in
        let sound_header : IsInodeHeader header = opening_header script range events start ran g.stepping g.is g.by g.so_far g.within.leads
        trail_here session req number work attempt status op bytes vid false ids header ends at in
        let long = read_long script range events start ran g.stepping g.is g.by g.so_far g.within.leads trail_here session req
        number work attempt status (Commanding op) bytes ends refl vid.0 header.spec reads id in
        let head = header_long header vid.0 (table_in ids header.spec bytes) sound_header in
        record {
          entry = back_entry inode bytes id head long index
              ∙ sym (kept g.stepping g.so_far g.is g.by g.within.leads g.before_so session req number work attempt status op bytes vid
              false ids
              header index ends at good lives inside)
              ∙ sym (tables.entry_read ids (objects_of header.spec) INODE_HEADER_BYTES index bytes inside);
          covered = back_covers inode bytes id head long index inside;
        }

    same_log : log_effects after.world.log ≡ log_effects before.world.log
    same_log =
        ap (λ (m : MomentWithPast). log_effects m.world.log) g.after_so
        ∙ sym (ap (λ (m : MomentWithPast). log_effects m.world.log) g.before_so)

    own : AtSoFar (IsBack (log_effects before.world.log) good_id) g.next
    own =
        change_back (log_effects before.world.log) good_id (input_of_cause g.stepping.cause) g.stepping.host.node sound g.so_far g.next
        g.within.change (good_one, whole) (at_host g.stepping.n was was_there (not_lost g.stepping.host g.is.up))

  -- ---- each

  module _ (n : ℕ) (host : Host) (there : tree.get after.world.hosts n ≡ Some host) (up : host.is_lost ≡ false) (req index : ℕ)
      (request : Request) (op : Op) (vid : Vid) (inode : Content) (work : ObjWork) (got : tree.get host.node.requests req ≡ Some request)
      (command : request.course ≡ Commanding op) (at : op.stage ≡ Working vid (WritingBack inode))
      (has : HasWork req work host.node.gateway.works host.node.sessions) (good : good_id inode.vid ≡ true)
      (lives : is_dead (log_effects after.world.log) inode.vid ≡ false) (inside : index < objects_of inode.spec) where
    lived_before : is_dead (log_effects before.world.log) inode.vid ≡ false
    lived_before = lived before.world.log after.world.log (log_of_change script change) inode.vid lives

    by_guests : GuestsChange before n host → GivesEntry inode index work
    by_guests (GuestsStay old old_there old_up gateway sessions requests) =
        all.each n old old_there (old_up up) req index request op vid inode work
        (ap (λ (r : tree.FinMap nat_cmp Request). tree.get r req) (sym requests) ∙ got) command at
        (subst (λ (s : Sessions). HasWork req work old.node.gateway.works s) sessions
        (subst (λ (k : Gateway). HasWork req work k.works host.node.sessions) gateway has)) good lived_before inside
    by_guests (GuestsAreNone sessions none) =
        let empty : tree.get host.node.requests req ≡ None
        = ap (λ (r : tree.FinMap nat_cmp Request). tree.get r req) none ∙ tree.get-empty {X = Request} nat_cmp req in
        absurd (cc (empty, got))

    going_on : IsGoingOn script start before after → GivesEntry inode index work
    going_on g = ⊎_elim
        (λ (mine : (n ≡ g.stepping.n) × (host_with_node g.stepping.host g.next.node ≡ host)).
        subst (λ (o : Option Request). IsAt (IsBack (log_effects before.world.log) good_id) g.next.node.sessions o work)
        (ap (λ (h : Host). tree.get h.node.requests req) mine.1 ∙ got)
        (own g req work
        (subst (λ (h : Host). HasWork req work h.node.gateway.works h.node.sessions) (sym mine.1) has)) op vid inode index command at good
        lived_before inside)
        (λ (other : (n ≢ g.stepping.n) × (tree.get start.world.hosts n ≡ Some host)).
        all.each n host
        (ap (λ (m : MomentWithPast). tree.get m.world.hosts n) g.before_so
        ∙ get-insert_other start.world.hosts g.stepping.n (host_with_node g.stepping.host g.so_far.node) n other.0 ∙ other.1) up req index
        request op vid inode work got command at has good lived_before inside)
        (get-insert_cases start.world.hosts g.stepping.n (host_with_node g.stepping.host g.next.node) n host
        (sym (ap (λ (m : MomentWithPast). tree.get m.world.hosts n) g.after_so) ∙ there))

    back_so : GivesEntry inode index work
    back_so = ⊎_elim
        (λ (g : IsGoingOn script start before after). going_on g)
        (λ (b : IsBetween before after). by_guests (b.0 n host there))
        (between script start change)

  pub back_kept : WrittenBackHaveTables (log_effects after.world.log) good_id after.world.hosts
  back_kept = record {
    each = λ n host there up req index request op vid inode work got command at has good lives inside.
        back_so n host there up req index request op vid inode work got command at has good lives inside;
  }
