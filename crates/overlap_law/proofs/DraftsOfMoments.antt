-- What the inodes of reserved ids may come to have stays drawn from what the ids are made from over a change of a moment, if the works do
-- that are to create them: nothing begins on a clone's base, and an attempt that begins on such an inode is such a work.
use Rattle.overlap_law.proofs.LogsOfMoments.{log_or_start, log_of_change}
use Rattle.overlap_law.proofs.WorksKnown.{work_known, creates-making}
use Rattle.std.proofs.Common.{◌≡◌, inl, inr, ⊎_elim, arith, ℕ, Bool, true, false, All, Contains, List, [], ◌∷◌, ◌++◌, Option, Some}
use Rattle.std.proofs.Common.{None, unwrap_or, option_map, append-nil, refl, sym, ap, subst, ◌∙◌}
use Rattle.std.specs.FinMap as tree
use Rattle.std.specs.Ordering.{nat_cmp}
use Rattle.std.proofs.lemmas.Option.{same_Some}
use Rattle.proof_tools.proofs.Lists.{Contains-nil}
use Rattle.object_id.specs.declared.entry.Entry.{Entry}
use Rattle.object_id.specs.declared.entry.VdiSpec.{VdiSpec}
use Rattle.object_id.specs.declared.oid.Vid.{Vid}
use Rattle.object_id.specs.Oid.{IsVid, inode_number, vid_of}
use Rattle.cluster_script.specs.declared.statement.Statement.{Statement}
use Rattle.epoch_log.specs.Appending.{IsReservable}
use Rattle.gateway.specs.State.{Open, Gateway}
use Rattle.disk_check.proofs.TableLemmas.{objects_of-most}
use Rattle.peer_proto.specs.declared.work.ObjWork.{ObjWork}
use Rattle.peer_proto.specs.Work.{oid_of}
use Rattle.vdi_directory.specs.declared.effect.Source.TheVariants as sources
use Rattle.vdi_directory.specs.Decisions.{log_effects}
use Rattle.vdi_directory.specs.declared.header.Header.{Header}
use Rattle.vdi_directory.specs.Effects.{header_of, is_used, reservation_on, reservations_of}
use Rattle.vdi_directory.specs.References.{parent_of}
use Rattle.vdi_directory.specs.Sound.{IsLiveSnapshot}
use Rattle.vdi_directory.specs.States.{state_of, is_live_state}
use Rattle.vdi_directory.specs.States as states
use Rattle.vdi_directory.proofs.DecisionLaws.{used-stays}
use Rattle.sheep_node.specs.declared.course.Request.{Request}
use Rattle.sheep_node.specs.declared.session.Session.{Session}
use Rattle.sheep_node.specs.Changes.{attempt_in}
use Rattle.sheep_node.specs.State.{new_session}
use Rattle.sheep_node.specs.WantedWorks.{HasWork}
use Rattle.sheep_world.specs.Began.{Began}
use Rattle.sheep_world.specs.World.{Host}
use Rattle.sheep_world.proofs.LogFrontLaws.{all_read}
use Rattle.sheep_world.specs.RunsWithAsks.{Move}
use Rattle.overlap_law.specs.Attempts.{AttemptRecord, object_of}
use Rattle.overlap_law.specs.Drafts.{IsReservedEntry}
use Rattle.overlap_law.specs.Each.{spec_in}
use Rattle.overlap_law.specs.Grants.{writer_of}
use Rattle.overlap_law.specs.Holders.{is_create_work}
use Rattle.overlap_law.specs.MomentChanges.{MomentChange, MomentTrail, RunsAreInRange}
use Rattle.overlap_law.specs.MomentChanges as moments
use Rattle.overlap_law.specs.NamedWorks.{HasEntry}
use Rattle.overlap_law.specs.Past.{MomentWithPast, run_with_past}
use Rattle.overlap_law.specs.ShapedAttempts.{AreShaped}
use Rattle.overlap_law.specs.StayingDrafts.{StaysDrawnFrom, CreatesDrawn, DraftsStayDrawn, ParentsAreGood}
use Rattle.overlap_law.specs.Tables.{entry_unit, entry_by}
use Rattle.overlap_law.specs.Units.{covers_unit}
use Rattle.overlap_law.specs.TiedAttempts.{IsTied}
use Rattle.overlap_law.specs.ToCome.{IsEntryToCome, SnapshotsStayFrozen}
use Rattle.overlap_law.specs.ToDo.{entry_made}
use Rattle.overlap_law.specs.Writers.{session_holder}
use Rattle.overlap_law.proofs.ClosedSnapshots.{snapped-no_writer}
use Rattle.overlap_law.proofs.CreatedInodes.{header_is}
use Rattle.overlap_law.proofs.DraftsOfLogs.{parent_stays, spec_was, state_reserved, used_reserved, base_snapped, base_lives}
use Rattle.overlap_law.proofs.DraftsOfLogs.{header_with}
use Rattle.overlap_law.proofs.FinishedInMoments.{TermsHold, kept_terms}
use Rattle.overlap_law.proofs.FrozenSnapshots.{spec_before, so_snapshot}
use Rattle.overlap_law.proofs.GrantedAttempts.{only_writer-in_run}
use Rattle.overlap_law.proofs.GrantedEpochs.{spec_used}
use Rattle.overlap_law.proofs.GuestsInMoments.{GuestsChange, GuestsStay, GuestsAreNone}
use Rattle.overlap_law.proofs.KnownDisks.{vid-of_inode}
use Rattle.overlap_law.proofs.KnownTables.{parent_known}
use Rattle.overlap_law.proofs.LogsReservable.{LogIsReservable, kept_reservable}
use Rattle.overlap_law.proofs.NamedEntries.{now, opened_there, opened_up}
use Rattle.overlap_law.proofs.NewAttempts.{IsOpened, WasAttempt, come_from}
use Rattle.overlap_law.proofs.NoRecoveredDue.{began-with_past}
use Rattle.overlap_law.proofs.OldReservations.{reservation_was}
use Rattle.overlap_law.proofs.RunsByChanges.{on_the_way}
use Rattle.overlap_law.proofs.ShapedAttempts.{kept_shaped, shaped-each}
use Rattle.overlap_law.proofs.TiedInRuns.{kept_tied}
use Rattle.overlap_law.proofs.ToComeStays.{to_come_before}
use Rattle.overlap_law.proofs.WorksInMoments.{well_after}
use Rattle.overlap_law.proofs.WritersOfWorks.{asked_for, writes_working-after}

module _ (script : List Statement) (range : RunsAreInRange script) (events : List Move) (start before after : MomentWithPast)
    (is : run_with_past script events ≡ Some start) (trail : MomentTrail script start before)
    (change : MomentChange script start before after) (good_id : ℕ → Bool) where
  began : Began script start.world
  began = began-with_past script events start is

  reservable : All IsReservable after.world.log
  reservable = (on_the_way script LogIsReservable (kept_reservable script range) events start after is (moments.Then trail change)).all

  pub grows : (later : List Entry) × (after.world.log ≡ before.world.log ++ later)
  grows = ⊎_elim
      (λ (same : after.world.log ≡ before.world.log). ([], same ∙ sym (append-nil before.world.log)))
      (λ (more : (entry : Entry) × (after.world.log ≡ before.world.log ++ entry ∷ [])). (more.0 ∷ [], more.1))
      (log_of_change script change)

  -- ---- what is reserved

  abbrev Draft : ℕ → ℕ → Type 0
  Draft vid index = IsReservedEntry (log_effects after.world.log) good_id vid index

  pub used_now : (vid index : ℕ) → IsReservedEntry (log_effects after.world.log) good_id vid index
      → is_used (log_effects after.world.log) vid ≡ true
  used_now vid index draft = used_reserved after.world.log vid draft.reservation draft.stands

  abbrev WasUsed : ℕ → Type 0
  WasUsed vid = is_used (log_effects before.world.log) vid ≡ true

  abbrev pub draft_was : (vid index : ℕ) → is_used (log_effects before.world.log) vid ≡ true
      → IsReservedEntry (log_effects after.world.log) good_id vid index → IsReservedEntry (log_effects before.world.log) good_id vid index
  draft_was vid index used draft = record {
    reservation = draft.reservation;
    stands = reservation_was before.world.log grows.0 vid draft.reservation used
        (ap (λ (log : List Entry). reservation_on (record { 0 = vid }) (reservations_of (log_effects log))) (sym grows.1) ∙ draft.stands);
    good = draft.good;
    spec = draft.spec;
    made_with = spec_was before.world.log grows.0 vid draft.spec used
        (ap (λ (log : List Entry). spec_in (log_effects log) vid) (sym grows.1) ∙ draft.made_with);
    within = draft.within;
  }

  parent_was : (vid : ℕ) → is_used (log_effects before.world.log) vid ≡ true
      → parent_of (log_effects after.world.log) vid ≡ parent_of (log_effects before.world.log) vid
  parent_was vid used =
      ap (λ (log : List Entry). parent_of (log_effects log) vid) grows.1 ∙ parent_stays before.world.log grows.0 vid used

  is_vid : (vid index : ℕ) → IsReservedEntry (log_effects after.world.log) good_id vid index → IsVid vid
  is_vid vid index draft = (header_is after.world.log reservable vid draft.spec draft.made_with).0

  -- ---- what may come of an id was there

  pub was_come : (vid index j : ℕ) (one : AttemptRecord) → IsEntryToCome after.world.hosts after.past.attempts vid index j one
      → (w : WasAttempt before j one) → IsEntryToCome before.world.hosts before.past.attempts vid index j w.was
  was_come vid index j one comes w =
      to_come_before script range start before after began change
      (on_the_way script TermsHold (kept_terms script range) events start before is trail)
      (on_the_way script AreShaped (kept_shaped script range) events start before is trail)
      (on_the_way script IsTied (kept_tied script range) events start before is trail) (inode_number vid) (entry_unit index) j one comes w

  -- nothing begins on the base of a clone
  module _ (vid index : ℕ) (draft : IsReservedEntry (log_effects after.world.log) good_id vid index)
      (clone : draft.reservation.source ≡ sources.Clone) (base : Vid)
      (parent : parent_of (log_effects after.world.log) vid ≡ Some base) where
    none_opens : (j : ℕ) (one : AttemptRecord) → IsEntryToCome after.world.hosts after.past.attempts base.0 index j one
        → IsOpened script start after one → ⊥
    none_opens j one comes o =
        let writes = (only_writer-in_run script range events start after is (moments.Then trail change)).each o.stepping.n _
        (opened_there script start after one o) (opened_up script start after one o) o.req
        (record o.asked { stage = Open (attempt_in o.asked o.lined.node) }) o.at_gateway o.making in
        let (header, there, from) = header_with (log_effects after.world.log) vid base parent in
        let known = parent_known after.world.log reservable vid header base there from in
        let id : vid_of (oid_of o.asked.work) ≡ base.0
        = ap vid_of (ap (λ (a : AttemptRecord). object_of a) o.opened ∙ comes.object) ∙ vid-of_inode base.0 known.id in
        snapped-no_writer after.world.log base.0 (session_holder o.stepping.n writes.request.session)
        (base_snapped after.world.log vid draft.reservation draft.stands base parent clone)
        (ap (writer_of (log_effects after.world.log)) (sym id) ∙ writes.may.writer)

    base_come : (j : ℕ) (one : AttemptRecord) → IsEntryToCome after.world.hosts after.past.attempts base.0 index j one
        → (w : WasAttempt before j one) × IsEntryToCome before.world.hosts before.past.attempts base.0 index j w.was
    base_come j one comes = ⊎_elim
        (λ (w : WasAttempt before j one). (w, was_come base.0 index j one comes w))
        (λ (o : IsOpened script start after one). absurd (none_opens j one comes o))
        (come_from script range start began change j one comes.there)

  -- so what was drawn from it is so still
  drawn_stays : (vid index : ℕ) (draft : IsReservedEntry (log_effects after.world.log) good_id vid index)
      → is_used (log_effects before.world.log) vid ≡ true → (entry : ℕ)
      → StaysDrawnFrom before.world.hosts before.past.attempts draft.reservation.source (parent_of (log_effects before.world.log) vid)
      index entry
      → StaysDrawnFrom after.world.hosts after.past.attempts draft.reservation.source (parent_of (log_effects after.world.log) vid)
      index entry
  drawn_stays vid index draft used entry old =
      by_parent (parent_of (log_effects after.world.log) vid) refl
      (subst (λ (o : Option Vid). StaysDrawnFrom before.world.hosts before.past.attempts draft.reservation.source o index entry)
      (sym (parent_was vid used)) old)
    where
      by_parent : (o : Option Vid) → parent_of (log_effects after.world.log) vid ≡ o
          → StaysDrawnFrom before.world.hosts before.past.attempts draft.reservation.source o index entry
          → StaysDrawnFrom after.world.hosts after.past.attempts draft.reservation.source o index entry
      by_parent None none is = is
      by_parent (Some base) parent all = λ clone k other comes.
          let (w, was) = base_come vid index draft clone base parent k other comes in
          ap (λ (a : AttemptRecord). entry_by index a) (sym w.same) ∙ all clone k w.was was

  -- ---- bases

  module _ (drafts : DraftsStayDrawn (log_effects before.world.log) good_id before.world.hosts before.past.attempts)
      (frozen : SnapshotsStayFrozen (log_effects before.world.log) good_id before.world.hosts before.past.attempts)
      (parents : ParentsAreGood (log_effects after.world.log) good_id) where
    module _ (vid index : ℕ) (draft : IsReservedEntry (log_effects after.world.log) good_id vid index)
        (clone : draft.reservation.source ≡ sources.Clone) (base : Vid)
        (parent : parent_of (log_effects after.world.log) vid ≡ Some base) where
      abbrev Agree : MomentWithPast → Type 0
      Agree moment = (i j : ℕ) (one other : AttemptRecord) → IsEntryToCome moment.world.hosts moment.past.attempts base.0 index i one
          → IsEntryToCome moment.world.hosts moment.past.attempts base.0 index j other → entry_by index one ≡ entry_by index other

      -- the base was a snapshot as the clone's id was reserved
      agreed_now : (entry : Entry) → after.world.log ≡ before.world.log ++ entry ∷ [] → is_used (log_effects before.world.log) vid ≡ false
          → Agree before
      agreed_now entry longer unused i j one other comes comes_too =
          let stands : reservation_on (record { 0 = vid }) (reservations_of (log_effects (before.world.log ++ entry ∷ [])))
          ≡ Some draft.reservation
          = ap (λ (log : List Entry). reservation_on (record { 0 = vid }) (reservations_of (log_effects log))) (sym longer) ∙ draft.stands
          in
          let from : parent_of (log_effects (before.world.log ++ entry ∷ [])) vid ≡ Some base
          = ap (λ (log : List Entry). parent_of (log_effects log) vid) (sym longer) ∙ parent in
          let snapshot : IsLiveSnapshot (state_of (log_effects before.world.log) base.0)
          = base_lives before.world.log entry vid unused base from draft.reservation stands clone in
          let (header, there, own) = header_with (log_effects after.world.log) vid base parent in
          let known = parent_known after.world.log reservable vid header base there own in
          let spec_so : header.spec ≡ draft.spec = same_Some header.spec draft.spec (sym (header_spec header there) ∙ draft.made_with) in
          let made : spec_in (log_effects (before.world.log ++ entry ∷ [])) base.0 ≡ Some draft.spec
          = ap (λ (log : List Entry). spec_in (log_effects log) base.0) (sym longer) ∙ known.made
          ∙ ap (λ (spec : VdiSpec). Some spec) spec_so in
          frozen.each base.0 index draft.spec (so_snapshot (state_of (log_effects before.world.log) base.0) snapshot)
          (parents vid base parent draft.good)
          (spec_before before.world.log (entry ∷ []) base.0 draft.spec
          (let (tag, same) = snapshot in ap is_live_state same) made) draft.within i j one other comes comes_too
        where
          header_spec : (header : Header) → header_of (log_effects after.world.log) vid ≡ Some header
              → spec_in (log_effects after.world.log) vid ≡ Some header.spec
          header_spec header there = ap (option_map (λ (h : Header). h.spec)) there

      agreed : Agree before
      agreed = by_used (is_used (log_effects before.world.log) vid) refl
        where
          by_used : (b : Bool) → is_used (log_effects before.world.log) vid ≡ b → Agree before
          by_used true used =
              drafts.bases vid index (draft_was vid index used draft) clone base (sym (parent_was vid used) ∙ parent)
          by_used false unused = ⊎_elim
              (λ (same : after.world.log ≡ before.world.log).
              let used = used_now vid index draft in
              let was : is_used (log_effects after.world.log) vid ≡ false
              = ap (λ (log : List Entry). is_used (log_effects log) vid) same ∙ unused in
              absurd (cc (used, was)))
              (λ (more : (entry : Entry) × (after.world.log ≡ before.world.log ++ entry ∷ [])). agreed_now more.0 more.1 unused)
              (log_of_change script change)

      bases_after : Agree after
      bases_after i j one other comes comes_too =
          let (w, was) = base_come vid index draft clone base parent i one comes in
          let (w_too, was_too) = base_come vid index draft clone base parent j other comes_too in
          ap (λ (a : AttemptRecord). entry_by index a) (sym w.same) ∙ agreed i j w.was w_too.was was was_too
          ∙ ap (λ (a : AttemptRecord). entry_by index a) w_too.same

    -- ---- works

    -- a work that was to do is on an id that was used
    module _ (n : ℕ) (host : Host) (there : tree.get before.world.hosts n ≡ Some host) (req : ℕ) (work : ObjWork)
        (has : HasWork req work host.node.gateway.works host.node.sessions) (creates : is_create_work work ≡ true) (vid index : ℕ)
        (entry : HasEntry work vid index) (draft : IsReservedEntry (log_effects after.world.log) good_id vid index) where
      used_at_start : before ≡ start → is_used (log_effects before.world.log) vid ≡ true
      used_at_start same =
          let at : tree.get start.world.hosts n ≡ Some host = ap (λ (m : MomentWithPast). tree.get m.world.hosts n) (sym same) ∙ there in
          let on = (work_known script range start.world began n host at req work has).making (creates-making work creates) in
          let front = all_read script start.world began n host at in
          let id : vid_of (oid_of work) ≡ vid = ap vid_of entry.object ∙ vid-of_inode vid (is_vid vid index draft) in
          let used : is_used (log_effects host.node.peer.entries) vid ≡ true
          = ap (is_used (log_effects host.node.peer.entries)) (sym id)
          ∙ spec_used host.node.peer.entries (vid_of (oid_of work)) on.spec on.made in
          ap (λ (m : MomentWithPast). is_used (log_effects m.world.log) vid) same
          ∙ ap (λ (log : List Entry). is_used (log_effects log) vid) front.is
          ∙ used-stays host.node.peer.entries front.rest vid used

      work_used : is_used (log_effects before.world.log) vid ≡ true
      work_used = ⊎_elim
          (λ (same : after.world.log ≡ before.world.log).
          ap (λ (log : List Entry). is_used (log_effects log) vid) (sym same) ∙ used_now vid index draft)
          used_at_start (log_or_start script change)

    abbrev CreatesBefore : ObjWork → Type 0
    CreatesBefore = CreatesDrawn (log_effects before.world.log) good_id before.world.hosts before.past.attempts

    abbrev CreatesAfter : ObjWork → Type 0
    CreatesAfter = CreatesDrawn (log_effects after.world.log) good_id after.world.hosts after.past.attempts

    pub creates_stays : (work : ObjWork)
        → ((vid index : ℕ) → IsReservedEntry (log_effects after.world.log) good_id vid index → is_create_work work ≡ true
        → HasEntry work vid index → is_used (log_effects before.world.log) vid ≡ true)
        → CreatesDrawn (log_effects before.world.log) good_id before.world.hosts before.past.attempts work
        → CreatesDrawn (log_effects after.world.log) good_id after.world.hosts after.past.attempts work
    creates_stays work used old vid index draft creates has =
        let then = used vid index draft creates has in
        drawn_stays vid index draft then (entry_made index work) (old vid index (draft_was vid index then draft) creates has)

    -- a node that kept its works
    pub kept_works : (n : ℕ) (host : Host) → tree.get after.world.hosts n ≡ Some host → host.is_lost ≡ false → GuestsChange before n host
        → (req : ℕ) (work : ObjWork) → HasWork req work host.node.gateway.works host.node.sessions
        → CreatesDrawn (log_effects after.world.log) good_id after.world.hosts after.past.attempts work
    kept_works n host at up (GuestsStay was there was_up gateway sessions requests) req work has =
        let had : HasWork req work was.node.gateway.works was.node.sessions
        = subst (λ (s : tree.FinMap nat_cmp Session). HasWork req work was.node.gateway.works s) sessions
        (subst (λ (g : Gateway). HasWork req work g.works host.node.sessions) gateway has) in
        creates_stays work (λ vid index draft creates entry. work_used n was there req work had creates vid index entry draft)
        (drafts.works n was there (was_up up) req work had)
    kept_works n host at up (GuestsAreNone none requests) req work (inl (one, got, same)) =
        let (request, there) = asked_for host.node (well_after script range start began change n host at) req one got in
        let empty = ap (λ (m : tree.FinMap nat_cmp Request). tree.get m req) requests ∙ tree.get-empty {X = Request} nat_cmp req in
        absurd (cc (empty, there))
    kept_works n host at up (GuestsAreNone none requests) req work (inr (number, among)) =
        let empty : tree.get host.node.sessions number ≡ None
        = ap (λ (m : tree.FinMap nat_cmp Session). tree.get m number) none ∙ tree.get-empty {X = Session} nat_cmp number in
        absurd (Contains-nil (record { req = req; work = work })
        (subst (λ (o : Option Session). Contains (unwrap_or o new_session).inode_queue.waiting (record { req = req; work = work })) empty
        among))

    abbrev AllCreateDrawn : Type 0
    AllCreateDrawn = (n : ℕ) (host : Host) → tree.get after.world.hosts n ≡ Some host → host.is_lost ≡ false → (req : ℕ) (work : ObjWork)
        → HasWork req work host.node.gateway.works host.node.sessions
        → CreatesDrawn (log_effects after.world.log) good_id after.world.hosts after.past.attempts work

    -- ---- inodes

    module _ (all : (n : ℕ) (host : Host) → tree.get after.world.hosts n ≡ Some host → host.is_lost ≡ false → (req : ℕ) (work : ObjWork)
        → HasWork req work host.node.gateway.works host.node.sessions
        → CreatesDrawn (log_effects after.world.log) good_id after.world.hosts after.past.attempts work)
        (vid index : ℕ) (draft : IsReservedEntry (log_effects after.world.log) good_id vid index) (j : ℕ) (one : AttemptRecord)
        (comes : IsEntryToCome after.world.hosts after.past.attempts vid index j one) where
      abbrev Drawn : ℕ → Type 0
      Drawn entry =
          StaysDrawnFrom after.world.hosts after.past.attempts draft.reservation.source (parent_of (log_effects after.world.log) vid) index
          entry

      was_drawn : WasAttempt before j one → Drawn (entry_by index one)
      was_drawn w =
          let was = was_come vid index j one comes w in
          let shaped = shaped-each before (on_the_way script AreShaped (kept_shaped script range) events start before is trail) j w.was
          w.at in
          let id : vid_of (object_of w.was) ≡ vid = ap vid_of was.object ∙ vid-of_inode vid (is_vid vid index draft) in
          let used : is_used (log_effects before.world.log) vid ≡ true
          = ap (is_used (log_effects before.world.log)) (sym id)
          ∙ spec_used before.world.log (vid_of (object_of w.was)) shaped.disk.spec shaped.disk.made in
          subst Drawn (ap (λ (a : AttemptRecord). entry_by index a) w.same)
          (drawn_stays vid index draft used (entry_by index w.was)
          (drafts.inodes vid index (draft_was vid index used draft) j w.was was))

      new_drawn : IsOpened script start after one → Drawn (entry_by index one)
      new_drawn o =
          subst Drawn (sym same)
          (all o.stepping.n (now script start after one o) (opened_there script start after one o) (opened_up script start after one o)
          o.req
          o.asked.work (inl (record o.asked { stage = Open (attempt_in o.asked o.lined.node) }, o.at_gateway, refl)) vid index draft
          (creates (is_create_work o.asked.work) refl) has)
        where
          same : entry_by index one ≡ entry_made index o.asked.work
          same = ap (λ (a : AttemptRecord). entry_by index a) (sym o.opened)

          object : oid_of o.asked.work ≡ inode_number vid
          object = ap (λ (a : AttemptRecord). object_of a) o.opened ∙ comes.object

          has : HasEntry o.asked.work vid index
          has =
              let most = objects_of-most draft.spec (header_is after.world.log reservable vid draft.spec draft.made_with).1 in
              let inside = draft.within in
              record {
                object = object;
                inside = omega (arith, most, inside);
                covered = ap (λ (a : AttemptRecord). covers_unit (entry_unit index) a) o.opened ∙ comes.covers;
              }

          creates : (b : Bool) → is_create_work o.asked.work ≡ b → is_create_work o.asked.work ≡ true
          creates true is = is
          creates false writes =
              let working : state_of (log_effects after.world.log) (vid_of (oid_of o.asked.work)) ≡ states.Working
              = writes_working-after script range start began change o.stepping.n (now script start after one o)
              (opened_there script start after one o) (opened_up script start after one o) o.req
              (record o.asked { stage = Open (attempt_in o.asked o.lined.node) }) o.at_gateway o.making writes in
              let reserved = state_reserved after.world.log vid draft.reservation draft.stands in
              let id : vid_of (oid_of o.asked.work) ≡ vid = ap vid_of object ∙ vid-of_inode vid (is_vid vid index draft) in
              let works : state_of (log_effects after.world.log) vid ≡ states.Working
              = ap (state_of (log_effects after.world.log)) (sym id) ∙ working in
              absurd (cc (sym reserved ∙ works))

      drawn_after : Drawn (entry_by index one)
      drawn_after = ⊎_elim
          (λ (w : WasAttempt before j one). was_drawn w)
          (λ (o : IsOpened script start after one). new_drawn o)
          (come_from script range start began change j one comes.there)

    -- ---- together

    pub drafts_by : ((n : ℕ) (host : Host) → tree.get after.world.hosts n ≡ Some host → host.is_lost ≡ false → (req : ℕ) (work : ObjWork)
        → HasWork req work host.node.gateway.works host.node.sessions
        → CreatesDrawn (log_effects after.world.log) good_id after.world.hosts after.past.attempts work)
        → DraftsStayDrawn (log_effects after.world.log) good_id after.world.hosts after.past.attempts
    drafts_by all = record {
      bases = λ vid index draft clone base parent. bases_after vid index draft clone base parent;
      inodes = λ vid index draft j one comes. drawn_after all vid index draft j one comes;
      works = λ n host there up. all n host there up;
    }
