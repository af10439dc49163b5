-- Where the node of the session isn't up that has an id reserved to take a disk's place, what the id's inode may come to have stays all
-- that the disk's may come to have, over each change of a moment: nobody else may write the two, so nothing begins on them.
use Rattle.std.specs.FinMap as tree
use Rattle.std.proofs.Common.{◌≡◌, ⊎_elim, ℕ, Bool, All, List, Some, sym, ap, ◌∙◌}
use Rattle.std.proofs.lemmas.Option.{same_Some}
use Rattle.object_id.specs.declared.oid.Vid.{Vid}
use Rattle.object_id.specs.Oid.{IsVid, inode_number, vid_of}
use Rattle.cluster_script.specs.declared.statement.Statement.{Statement}
use Rattle.disk_lock.specs.declared.holder.Holder.{Holder}
use Rattle.epoch_log.specs.Appending.{IsReservable}
use Rattle.gateway.specs.State.{Open}
use Rattle.peer_proto.specs.Work.{oid_of}
use Rattle.vdi_directory.specs.declared.effect.Reservation.{Reservation}
use Rattle.vdi_directory.specs.declared.effect.Source.TheVariants as sources
use Rattle.vdi_directory.specs.Decisions.{log_effects}
use Rattle.sheep_node.specs.Changes.{attempt_in}
use Rattle.sheep_world.specs.Began.{Began}
use Rattle.sheep_world.specs.NodeCauses.{host_with_node}
use Rattle.sheep_world.specs.RunsWithAsks.{Move}
use Rattle.overlap_law.specs.Attempts.{AttemptRecord, object_of}
use Rattle.overlap_law.specs.Drafts.{IsReservedEntry}
use Rattle.overlap_law.specs.Grants.{reserver, writer_of}
use Rattle.overlap_law.specs.MomentChanges as moments
use Rattle.overlap_law.specs.MomentChanges.{MomentChange, MomentTrail, RunsAreInRange}
use Rattle.overlap_law.specs.Past.{MomentWithPast, run_with_past}
use Rattle.overlap_law.specs.Tables.{entry_by}
use Rattle.overlap_law.specs.ToCome.{IsEntryToCome}
use Rattle.overlap_law.specs.Writers.{session_holder}
use Rattle.overlap_law.proofs.CreatedInodes.{header_is}
use Rattle.overlap_law.proofs.CreatedStays.{created_stays}
use Rattle.overlap_law.proofs.DraftsOfLogs.{header_with}
use Rattle.overlap_law.proofs.DraftsOfMoments.{was_come}
use Rattle.overlap_law.proofs.GrantedAttempts.{only_writer-in_run}
use Rattle.overlap_law.proofs.KnownDisks.{vid-of_inode}
use Rattle.overlap_law.proofs.KnownTables.{parent_known}
use Rattle.overlap_law.proofs.LogsReservable.{LogIsReservable, kept_reservable}
use Rattle.overlap_law.proofs.NamedEntries.{opened_there, opened_up}
use Rattle.overlap_law.proofs.NewAttempts.{IsOpened, WasAttempt, come_from}
use Rattle.overlap_law.proofs.NoRecoveredDue.{began-with_past}
use Rattle.overlap_law.proofs.PlacesKept.{IsNotUp, writer_kept}
use Rattle.overlap_law.proofs.PlacesOfTheUp.{IsAllOfDisk, place_parent}
use Rattle.overlap_law.proofs.ReservedMembers.{reserved_writer}
use Rattle.overlap_law.proofs.RunsByChanges.{on_the_way}

module _ (script : List Statement) (range : RunsAreInRange script) (events : List Move) (start before after : MomentWithPast)
    (ran : run_with_past script events ≡ Some start) (trail : MomentTrail script start before)
    (change : MomentChange script start before after) (good_id : ℕ → Bool) (vid index : ℕ)
    (draft : IsReservedEntry (log_effects after.world.log) good_id vid index) (old : Vid) (tag : List ℕ)
    (from : draft.reservation.source ≡ sources.Snapshot old tag) (down : IsNotUp after.world.hosts draft.reservation.by.0) where
  began : Began script start.world
  began = began-with_past script events start ran

  reservable : All IsReservable after.world.log
  reservable = (on_the_way script LogIsReservable (kept_reservable script range) events start after ran (moments.Then trail change)).all

  abbrev r : Reservation
  r = draft.reservation

  -- nothing begins on what the session may write
  none_opens : (id : ℕ) → IsVid id → writer_of (log_effects after.world.log) id ≡ Some (reserver draft.reservation) → (j : ℕ)
      (attempt : AttemptRecord) → IsEntryToCome after.world.hosts after.past.attempts id index j attempt
      → IsOpened script start after attempt → ⊥
  none_opens id is_id writer j attempt comes o =
      let writes = (only_writer-in_run script range events start after ran (moments.Then trail change)).each o.stepping.n
      (host_with_node o.stepping.host o.next.node) (opened_there script start after attempt o) (opened_up script start after attempt o)
      o.req
      (record o.asked { stage = Open (attempt_in o.asked o.lined.node) }) o.at_gateway o.making in
      let object : vid_of (oid_of o.asked.work) ≡ id
      = ap vid_of (ap (λ (a : AttemptRecord). object_of a) o.opened ∙ comes.object) ∙ vid-of_inode id is_id in
      let holder : session_holder o.stepping.n writes.request.session ≡ reserver r
      = same_Some (session_holder o.stepping.n writes.request.session) (reserver r)
      (sym writes.may.writer ∙ ap (writer_of (log_effects after.world.log)) object ∙ writer) in
      down (host_with_node o.stepping.host o.next.node)
      (ap (tree.get after.world.hosts) (sym (ap (λ (h : Holder). h.node.0) holder)) ∙ opened_there script start after attempt o)
      (opened_up script start after attempt o)

  -- so what comes might come before
  came : (id : ℕ) → IsVid id → writer_of (log_effects after.world.log) id ≡ Some (reserver draft.reservation) → (j : ℕ)
      (attempt : AttemptRecord) → IsEntryToCome after.world.hosts after.past.attempts id index j attempt
      → (w : WasAttempt before j attempt) × IsEntryToCome before.world.hosts before.past.attempts id index j w.was
  came id is_id writer j attempt comes = ⊎_elim
      (λ (w : WasAttempt before j attempt). (
        w,
        was_come script range events start before after ran trail change good_id id index j attempt comes w,
      ))
      (λ (o : IsOpened script start after attempt). absurd (none_opens id is_id writer j attempt comes o))
      (come_from script range start began change j attempt comes.there)

  old_id : IsVid old.0
  old_id =
      let parent = place_parent after.world.log vid draft.reservation draft.stands old tag from in
      let (header, there, own) = header_with (log_effects after.world.log) vid old parent in
      (parent_known after.world.log reservable vid header old there own).id

  module _ (j : ℕ) (attempt : AttemptRecord) (comes : IsEntryToCome after.world.hosts after.past.attempts vid index j attempt)
      (drawn : (w : WasAttempt before j attempt) → IsEntryToCome before.world.hosts before.past.attempts vid index j w.was
      → IsAllOfDisk before old index (entry_by index w.was) draft.reservation) where
    was : (w : WasAttempt before j attempt) × IsEntryToCome before.world.hosts before.past.attempts vid index j w.was
    was = came vid (header_is after.world.log reservable vid draft.spec draft.made_with).0
        (reserved_writer after.world.log vid draft.reservation draft.stands) j attempt comes

    then : IsAllOfDisk before old index (entry_by index was.0.was) draft.reservation
    then = drawn was.0 was.1

    writer_now : writer_of (log_effects after.world.log) old.0 ≡ Some (reserver draft.reservation)
    writer_now = writer_kept script range start before after began change vid draft.reservation draft.stands down old.0 then.writer

    pub place_of_lost : IsAllOfDisk after old index (entry_by index attempt) draft.reservation
    place_of_lost = record {
      epoch = then.epoch;
      created = created_stays script range start before after began change (inode_number old.0) then.epoch then.created;
      all = λ k other may.
          let (w, might) = came old.0 old_id writer_now k other may in
          ap (λ (a : AttemptRecord). entry_by index a) (sym w.same) ∙ then.all k w.was might
          ∙ ap (λ (a : AttemptRecord). entry_by index a) was.0.same;
      writer = writer_now;
    }
