-- Nothing begins on a snapshot, so over each change of a moment what its inode may come to have it might before; and as a disk becomes one
-- its inode may come to have what the session's table has.
use Rattle.std.proofs.Common.{◌≡◌, ◌⊎◌, inl, inr, ⊎_elim, ℕ, ◌<◌, ◌&&◌, not, Bool, true, false, All, List, ◌∷◌, ◌++◌, Option, Some}
use Rattle.std.proofs.Common.{None, IfSome, option_map, is_some, slice_index, refl, sym, ap, subst, ◌∙◌}
use Rattle.std.specs.FinMap as tree
use Rattle.std.specs.List.{list_any}
use Rattle.std.proofs.lemmas.Option.{same_Some}
use Rattle.object_id.specs.declared.entry.Entry.{Entry}
use Rattle.object_id.specs.declared.entry.Entry.TheVariants.{Snapshot}
use Rattle.object_id.specs.declared.entry.VdiSpec.{VdiSpec}
use Rattle.object_id.specs.declared.node.NodeId.{NodeId}
use Rattle.object_id.specs.declared.oid.Vid.{Vid}
use Rattle.object_id.specs.Oid.{IsVid, inode_number, vid_of}
use Rattle.object_id.specs.Spec.{objects_of}
use Rattle.cluster_script.specs.declared.statement.Statement.{Statement}
use Rattle.epoch_log.specs.Appending.{IsReservable}
use Rattle.gateway.specs.State.{Open}
use Rattle.guest_driver.specs.declared.disk.Disk.{Disk}
use Rattle.peer_proto.specs.Work.{oid_of}
use Rattle.peer_service.specs.State.{effects_of}
use Rattle.vdi_directory.specs.declared.effect.Effect.{Effect}
use Rattle.vdi_directory.specs.declared.header.Header.{Header}
use Rattle.vdi_directory.specs.Dead.{is_gone, is_heir, granted_ids, is_dead}
use Rattle.vdi_directory.specs.Decisions.{outcome, log_effects}
use Rattle.vdi_directory.specs.Effects.{header_of, is_used}
use Rattle.vdi_directory.specs.Sound.{IsLiveSnapshot}
use Rattle.vdi_directory.specs.States.{VdiState, state_of, is_live_state}
use Rattle.vdi_directory.specs.States as states
use Rattle.vdi_directory.proofs.DeadLemmas.{live-used}
use Rattle.vdi_directory.proofs.LawfulEntries.{lawful-outcome, sound-log_effects}
use Rattle.vdi_directory.proofs.LineLemmas.{line-log_effects}
use Rattle.sheep_node.specs.Changes.{attempt_in}
use Rattle.sheep_world.specs.Began.{Began}
use Rattle.sheep_world.specs.World.{Host}
use Rattle.sheep_world.proofs.LogFrontLaws.{all_read}
use Rattle.sheep_world.specs.RunsWithAsks.{Move}
use Rattle.overlap_law.specs.Attempts.{AttemptRecord, object_of}
use Rattle.overlap_law.specs.Drafts.{published_by}
use Rattle.overlap_law.specs.Each.{spec_in}
use Rattle.overlap_law.specs.Grants.{writer_of}
use Rattle.overlap_law.specs.LastReads.{snaps, was_snapped}
use Rattle.overlap_law.specs.MomentChanges.{MomentChange, MomentTrail, RunsAreInRange}
use Rattle.overlap_law.specs.MomentChanges as moments
use Rattle.overlap_law.specs.Past.{MomentWithPast, run_with_past}
use Rattle.overlap_law.specs.ShapedAttempts.{AreShaped}
use Rattle.overlap_law.specs.Tables.{entry_unit, entry_by, IsEntryOpen, is_snapshot_effect}
use Rattle.overlap_law.specs.TiedAttempts.{IsTied}
use Rattle.overlap_law.specs.ToCome.{IsEntryToCome, IsBeingEntered, SnapshotsStayFrozen, TablesStayTheInodes}
use Rattle.overlap_law.specs.Writers.{session_holder}
use Rattle.overlap_law.proofs.ClosedSnapshots.{snaps-working, snapped-no_writer}
use Rattle.overlap_law.proofs.FinishedInMoments.{TermsHold, kept_terms}
use Rattle.overlap_law.proofs.GrantedAttempts.{only_writer-in_run}
use Rattle.overlap_law.proofs.GrantedEpochs.{spec_stays}
use Rattle.overlap_law.proofs.KnownDisks.{IsKnownInode, vid-of_inode}
use Rattle.overlap_law.proofs.KnownDisksInRuns.{nodes_know}
use Rattle.overlap_law.proofs.LogsReservable.{LogIsReservable, kept_reservable}
use Rattle.overlap_law.proofs.NamedEntries.{opened_there, opened_up}
use Rattle.overlap_law.proofs.NewAttempts.{IsOpened, WasAttempt, come_from}
use Rattle.overlap_law.proofs.NoRecoveredDue.{began-with_past}
use Rattle.overlap_law.proofs.PublishedIds.{snapshot_entry}
use Rattle.overlap_law.proofs.LogsOfMoments.{IsOfMembers}
use Rattle.overlap_law.proofs.PublishedInodes.{members_publish, IsPutNow}
use Rattle.overlap_law.proofs.RunsByChanges.{on_the_way}
use Rattle.overlap_law.proofs.ShapedAttempts.{kept_shaped}
use Rattle.overlap_law.proofs.SnapshotsTaken.{IsTaking, taking, none_entered}
use Rattle.overlap_law.proofs.TiedInRuns.{kept_tied}
use Rattle.overlap_law.proofs.ToComeStays.{to_come_before}

-- ---- states

pub snapshot_so : (state : VdiState) → is_snapshot_effect state ≡ true → IsLiveSnapshot state
snapshot_so states.Unused is = absurd (cc (is))
snapshot_so (states.Reserved by) is = absurd (cc (is))
snapshot_so states.Working is = absurd (cc (is))
snapshot_so (states.Snapshot tag) is = (tag, refl)
snapshot_so states.Deleted is = absurd (cc (is))
snapshot_so states.Freed is = absurd (cc (is))

pub so_snapshot : (state : VdiState) → IsLiveSnapshot state → is_snapshot_effect state ≡ true
so_snapshot state (tag, same) = ap is_snapshot_effect same

pub working_lives : (effects : List Effect) (vid : ℕ) → state_of effects vid ≡ states.Working → is_dead effects vid ≡ false
unfolding is_dead
working_lives effects vid is =
    ap (λ (state : VdiState). is_gone state && not (list_any (is_heir effects vid) (granted_ids effects))) is

-- what an id that is used is made with was so before
pub used_spec : (log later : List Entry) (vid : ℕ) (spec : VdiSpec) → is_used (log_effects log) vid ≡ true
    → spec_in (log_effects (log ++ later)) vid ≡ Some spec → spec_in (log_effects log) vid ≡ Some spec
used_spec log later vid spec used now = by_header (header_of (log_effects log) vid) refl
  where
    by_header : (o : Option Header) → header_of (log_effects log) vid ≡ o → spec_in (log_effects log) vid ≡ Some spec
    by_header None none =
        let known : is_some (header_of (log_effects log) vid) ≡ true = sym ((line-log_effects log).known vid) ∙ used in
        let not : is_some (header_of (log_effects log) vid) ≡ false = ap is_some none in
        absurd (cc (known, not))
    by_header (Some header) there =
        let was : spec_in (log_effects log) vid ≡ Some header.spec = ap (option_map (λ (h : Header). h.spec)) there in
        was ∙ sym (spec_stays log later vid header.spec was) ∙ now

-- and of a live disk
pub spec_before : (log later : List Entry) (vid : ℕ) (spec : VdiSpec) → is_live_state (state_of (log_effects log) vid) ≡ true
    → spec_in (log_effects (log ++ later)) vid ≡ Some spec → spec_in (log_effects log) vid ≡ Some spec
spec_before log later vid spec live =
    used_spec log later vid spec (live-used (log_effects log) (sound-log_effects log) vid live)

-- ---- as a disk becomes a snapshot

module _ (script : List Statement) (range : RunsAreInRange script) (events : List Move) (start : MomentWithPast)
    (is : run_with_past script events ≡ Some start) (good_id : ℕ → Bool)
    (tables : TablesStayTheInodes (log_effects start.world.log) good_id start.world.hosts start.past.attempts) where
  taken_frozen : (n : ℕ) (host : Host) → tree.get start.world.hosts n ≡ Some host → host.is_lost ≡ false
      → (vid index : ℕ) (spec : VdiSpec) → IsTaking start n host vid → IsVid vid → good_id vid ≡ true
      → state_of (log_effects start.world.log) vid ≡ states.Working → spec_in (log_effects start.world.log) vid ≡ Some spec
      → index < objects_of spec → (i j : ℕ) (one other : AttemptRecord)
      → IsEntryToCome start.world.hosts start.past.attempts vid index i one
      → IsEntryToCome start.world.hosts start.past.attempts vid index j other
      → entry_by index one ≡ entry_by index other
  taken_frozen n host there up vid index spec takes is_vid good working made_with within i j one other comes comes_too =
      of_table i one comes ∙ sym (of_table j other comes_too)
    where
      began : Began script start.world
      began = began-with_past script events start is

      spec_so : takes.disk.inode.spec ≡ spec
      spec_so =
          let front = all_read script start.world began n host there in
          let valid = (nodes_know script range start.world began n host there).each_session takes.request.session takes.session takes.of in
          let known = subst (λ (o : Option Disk). IfSome o (λ (disk : Disk). IsKnownInode (effects_of host.node.peer) disk.inode))
          takes.opened valid.disk in
          let all : spec_in (log_effects start.world.log) takes.disk.inode.vid ≡ Some takes.disk.inode.spec
          = ap (λ (log : List Entry). spec_in (log_effects log) takes.disk.inode.vid) front.is
          ∙ spec_stays host.node.peer.entries front.rest takes.disk.inode.vid takes.disk.inode.spec known.disk.made in
          same_Some takes.disk.inode.spec spec (sym all ∙ ap (spec_in (log_effects start.world.log)) takes.own ∙ made_with)

      of_table : (k : ℕ) (attempt : AttemptRecord) → IsEntryToCome start.world.hosts start.past.attempts vid index k attempt
          → entry_by index attempt ≡ slice_index takes.disk.inode.table index
      of_table k attempt may = ⊎_elim
          (λ (own : entry_by index attempt ≡ slice_index takes.disk.inode.table index). own)
          (λ (entered : (takes.disk.snapshot ≡ false) × IsBeingEntered n host.node takes.disk.inode.vid index attempt).
          absurd (none_entered script range events start is n host there up vid index takes is_vid
          (subst (λ (v : ℕ). IsEntryOpen host.node v index) takes.own entered.1.opened)))
          (tables.each n host there up takes.request.session index takes.session takes.disk takes.of takes.opened
          (ap good_id takes.own ∙ good) (ap (is_dead (log_effects start.world.log)) takes.own
          ∙ working_lives (log_effects start.world.log) vid working)
          (subst (λ (s : VdiSpec). index < objects_of s) (sym spec_so) within)
          (λ own. ap (writer_of (log_effects start.world.log)) takes.own ∙ takes.writer) k attempt
          (subst (λ (v : ℕ). IsEntryToCome start.world.hosts start.past.attempts v index k attempt) (sym takes.own) may))

-- ---- each change

module _ (script : List Statement) (range : RunsAreInRange script) (events : List Move) (start before after : MomentWithPast)
    (is : run_with_past script events ≡ Some start) (trail : MomentTrail script start before)
    (change : MomentChange script start before after)
    (good_id : ℕ → Bool) where
  began : Began script start.world
  began = began-with_past script events start is

  reservable : All IsReservable after.world.log
  reservable = (on_the_way script LogIsReservable (kept_reservable script range) events start after is (moments.Then trail change)).all

  -- nothing begins on what was a snapshot once
  none_opens : (vid index j : ℕ) (now : AttemptRecord) → IsVid vid → was_snapped after.world.log vid ≡ true
      → IsEntryToCome after.world.hosts after.past.attempts vid index j now → IsOpened script start after now → ⊥
  none_opens vid index j now is_vid snapped comes o =
      let writes = (only_writer-in_run script range events start after is (moments.Then trail change)).each o.stepping.n _
      (opened_there script start after now o) (opened_up script start after now o) o.req
      (record o.asked { stage = Open (attempt_in o.asked o.lined.node) }) o.at_gateway o.making in
      let id : vid_of (oid_of o.asked.work) ≡ vid
      = ap vid_of (ap (λ (a : AttemptRecord). object_of a) o.opened ∙ comes.object) ∙ vid-of_inode vid is_vid in
      snapped-no_writer after.world.log vid (session_holder o.stepping.n writes.request.session) snapped
      (ap (writer_of (log_effects after.world.log)) (sym id) ∙ writes.may.writer)

  -- what may come then might come before
  pub was_come : (vid index j : ℕ) (now : AttemptRecord) → IsVid vid → was_snapped after.world.log vid ≡ true
      → IsEntryToCome after.world.hosts after.past.attempts vid index j now
      → (w : WasAttempt before j now) × IsEntryToCome before.world.hosts before.past.attempts vid index j w.was
  was_come vid index j now is_vid snapped comes = ⊎_elim
      (λ (w : WasAttempt before j now). (
        w,
        to_come_before script range start before after began change
            (on_the_way script TermsHold (kept_terms script range) events start before is trail)
            (on_the_way script AreShaped (kept_shaped script range) events start before is trail)
            (on_the_way script IsTied (kept_tied script range) events start before is trail) (inode_number vid) (entry_unit index) j now
            comes w,
      ))
      (λ (o : IsOpened script start after now). absurd (none_opens vid index j now is_vid snapped comes o))
      (come_from script range start began change j now comes.there)

  module _ (tables : TablesStayTheInodes (log_effects before.world.log) good_id before.world.hosts before.past.attempts)
      (frozen : SnapshotsStayFrozen (log_effects before.world.log) good_id before.world.hosts before.past.attempts) where
    -- of what is a snapshot now all agrees that might come before
    module _ (vid index : ℕ) (spec : VdiSpec) (is_vid : IsVid vid) (good : good_id vid ≡ true) (within : index < objects_of spec) where
      abbrev Agree : MomentWithPast → Type 0
      Agree moment = (i j : ℕ) (one other : AttemptRecord) → IsEntryToCome moment.world.hosts moment.past.attempts vid index i one
          → IsEntryToCome moment.world.hosts moment.past.attempts vid index j other → entry_by index one ≡ entry_by index other

      were_frozen : is_snapshot_effect (state_of (log_effects before.world.log) vid) ≡ true
          → spec_in (log_effects before.world.log) vid ≡ Some spec → Agree before
      were_frozen snapshot made_with i j one other = frozen.each vid index spec snapshot good made_with within i j one other

      pub taken_now : (entry : Entry) → snaps vid (outcome (log_effects before.world.log) entry).effect ≡ true
          → spec_in (log_effects before.world.log) vid ≡ Some spec
          → IsOfMembers entry ⊎ ((before ≡ start) × IsPutNow before.world.hosts entry) → Agree before
      taken_now entry now made_with whose = by_whose (snapshot_entry (log_effects before.world.log) vid entry now) whose
        where
          working : state_of (log_effects before.world.log) vid ≡ states.Working
          working = snaps-working (log_effects before.world.log) (outcome (log_effects before.world.log) entry).effect vid
              (lawful-outcome (log_effects before.world.log) (sound-log_effects before.world.log) entry) now

          at_start : (by : NodeId) (old of : Vid) → entry ≡ Snapshot by old of → old.0 ≡ vid → before ≡ start
              → IsPutNow start.world.hosts entry → Agree start
          at_start by old of says own same put =
              taken_frozen script range events start is good_id
              (subst (λ (m : MomentWithPast). TablesStayTheInodes (log_effects m.world.log) good_id m.world.hosts m.past.attempts) same
              tables)
              put.n put.host put.there put.up vid index spec
              (subst (IsTaking start put.n put.host) own
              (taking script range events start is put.n put.host put.there put.up by old of put.later
              (put.first ∙ ap (λ (e : Entry). e ∷ put.later) says)))
              is_vid good (ap (λ (m : MomentWithPast). state_of (log_effects m.world.log) vid) (sym same) ∙ working)
              (ap (λ (m : MomentWithPast). spec_in (log_effects m.world.log) vid) (sym same) ∙ made_with) within

          by_whose : (by : NodeId) × (old : Vid) × (of : Vid) × (entry ≡ Snapshot by old of) × (old.0 ≡ vid)
              → IsOfMembers entry ⊎ ((before ≡ start) × IsPutNow before.world.hosts entry) → Agree before
          by_whose (by, old, of, says, own) (inl members) =
              let publishes = ap published_by (sym says) ∙ members_publish entry members in absurd (cc (publishes))
          by_whose (by, old, of, says, own) (inr (same, put)) =
              subst Agree (sym same)
              (at_start by old of says own same (subst (λ (m : MomentWithPast). IsPutNow m.world.hosts entry) same put))
