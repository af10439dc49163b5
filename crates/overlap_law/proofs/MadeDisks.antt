-- As a reserved id is published, its inode may come to have what is drawn from what the id is made from, and nothing may come to be read
-- of its own objects: a new disk is blank, and a clone has what its base may come to have.
use Rattle.std.proofs.Common.{◌≡◌, ⊎_elim, arith, ℕ, zero, ◌+◌, Bool, true, All, List, [], ◌∷◌, ◌++◌, length, Option, Some, None}
use Rattle.std.proofs.Common.{option_map, refl, sym, ap, subst, ◌∙◌}
use Rattle.std.proofs.lemmas.List.{length-append}
use Rattle.std.proofs.lemmas.Option.{same_Some}
use Rattle.object_id.specs.declared.entry.Entry.{Entry}
use Rattle.object_id.specs.declared.entry.VdiSpec.{VdiSpec}
use Rattle.object_id.specs.declared.oid.Vid.{Vid}
use Rattle.object_id.specs.Oid.{inode_number, object_number}
use Rattle.cluster_script.specs.declared.statement.Statement.{Statement}
use Rattle.disk_check.proofs.TableLemmas.{objects_of-most}
use Rattle.epoch_log.specs.Appending.{IsReservable}
use Rattle.vdi_directory.specs.declared.effect.Reservation.{Reservation}
use Rattle.vdi_directory.specs.declared.effect.Source.{Source}
use Rattle.vdi_directory.specs.declared.effect.Source.TheVariants as sources
use Rattle.vdi_directory.specs.declared.header.Header.{Header}
use Rattle.vdi_directory.specs.Decisions.{log_effects}
use Rattle.vdi_directory.specs.Effects.{is_used, reservation_on, reservations_of}
use Rattle.vdi_directory.specs.References.{parent_of}
use Rattle.sheep_world.specs.Began.{Began}
use Rattle.sheep_world.specs.RunsWithAsks.{Move}
use Rattle.overlap_law.specs.Attempts.{AttemptRecord}
use Rattle.overlap_law.specs.Drafts.{IsReservedEntry}
use Rattle.overlap_law.specs.Each.{EachAttempt, spec_in}
use Rattle.overlap_law.specs.Fates.{IsCreated}
use Rattle.overlap_law.specs.Grants.{published_in}
use Rattle.overlap_law.specs.MomentChanges.{MomentChange, MomentTrail, RunsAreInRange}
use Rattle.overlap_law.specs.MomentChanges as moments
use Rattle.overlap_law.specs.Past.{MomentWithPast, run_with_past}
use Rattle.overlap_law.specs.ShapedAttempts.{AreShaped}
use Rattle.overlap_law.specs.StayingBlocks.{HasEntryOf, IsMadeBlank}
use Rattle.overlap_law.specs.StayingDrafts.{IsAllToCome, StaysDrawnFrom, DraftsStayDrawn, PlacesStayDrawn}
use Rattle.overlap_law.specs.Tables.{entry_unit, entry_by}
use Rattle.overlap_law.specs.TiedAttempts.{IsTied}
use Rattle.overlap_law.specs.ToCome.{IsToCome, IsEntryToCome}
use Rattle.overlap_law.proofs.Candidates.{HasMade, candidate_comes, are_candidates}
use Rattle.overlap_law.proofs.CreatedInodes.{created_made, header_is}
use Rattle.overlap_law.proofs.CreatedStays.{created_stays}
use Rattle.overlap_law.proofs.DataOfDisks.{data-on_the_way, reserved_unpublished}
use Rattle.overlap_law.proofs.DraftsOfLogs.{spec_was, used_reserved, base_snapped, header_with, parents_so, snapped_published}
use Rattle.overlap_law.proofs.DraftsOfLogs.{published_next, parent_stays}
use Rattle.overlap_law.proofs.MadeEffects.{IsSourceParent}
use Rattle.overlap_law.proofs.PublishedInodes.{was_published}
use Rattle.overlap_law.proofs.LogsOfMoments.{log_or_start}
use Rattle.overlap_law.proofs.FinishedInMoments.{TermsHold, kept_terms}
use Rattle.overlap_law.proofs.KnownTables.{parent_known}
use Rattle.overlap_law.proofs.LogsOfMoments.{log_by_changes}
use Rattle.overlap_law.proofs.LogsReservable.{LogIsReservable, kept_reservable}
use Rattle.overlap_law.proofs.NewAttempts.{IsOpened, WasAttempt, come_from}
use Rattle.overlap_law.proofs.NoRecoveredDue.{began-with_past}
use Rattle.overlap_law.proofs.PublishedInRuns.{published-on_the_way}
use Rattle.overlap_law.proofs.RunsByChanges.{on_the_way}
use Rattle.overlap_law.proofs.ShapedAttempts.{kept_shaped}
use Rattle.overlap_law.proofs.TiedInRuns.{kept_tied}
use Rattle.overlap_law.proofs.ToComeStays.{to_come_before}
use Rattle.overlap_law.proofs.WholeInRuns.{whole-on_the_way}

not_longer : (log : List Entry) (entry : Entry) → log ++ entry ∷ [] ≡ log → ⊥
not_longer log entry same =
    let sum : length (log ++ entry ∷ []) ≡ length log + length (entry ∷ []) = length-append log (entry ∷ []) in
    let equal : length (log ++ entry ∷ []) ≡ length log = ap length same in
    let one : length (entry ∷ []) ≡ 1 = refl in
    omega (arith, sum, equal, one)

module _ (script : List Statement) (range : RunsAreInRange script) (events : List Move) (start before after : MomentWithPast)
    (is : run_with_past script events ≡ Some start) (trail : MomentTrail script start before)
    (change : MomentChange script start before after) (good_id : ℕ → Bool)
    (drafts : DraftsStayDrawn (log_effects before.world.log) good_id before.world.hosts before.past.attempts)
    (entry : Entry) (longer : after.world.log ≡ before.world.log ++ entry ∷ []) (vid : ℕ) (r : Reservation)
    (stands : reservation_on (record { 0 = vid }) (reservations_of (log_effects before.world.log)) ≡ Some r) where
  began : Began script start.world
  began = began-with_past script events start is

  reservable : All IsReservable after.world.log
  reservable = (on_the_way script LogIsReservable (kept_reservable script range) events start after is (moments.Then trail change)).all

  -- as the log gets an entry nothing begins
  none_opens : (one : AttemptRecord) → IsOpened script start after one → ⊥
  none_opens one o =
      not_longer before.world.log entry (sym longer ∙ ⊎_elim
      (λ (same : after.world.log ≡ before.world.log). same)
      (λ (first : before ≡ start).
      ap (λ (m : MomentWithPast). m.world.log) o.moment_so ∙ log_by_changes o.stepping.cause o.by start.world.log
      ∙ ap (λ (m : MomentWithPast). m.world.log) (sym first))
      (log_or_start script change))

  was_there : (oid unit j : ℕ) (one : AttemptRecord) → IsToCome after.world.hosts after.past.attempts oid unit j one
      → (w : WasAttempt before j one) × IsToCome before.world.hosts before.past.attempts oid unit j w.was
  was_there oid unit j one comes = ⊎_elim
      (λ (w : WasAttempt before j one). (
        w,
        to_come_before script range start before after began change
            (on_the_way script TermsHold (kept_terms script range) events start before is trail)
            (on_the_way script AreShaped (kept_shaped script range) events start before is trail)
            (on_the_way script IsTied (kept_tied script range) events start before is trail) oid unit j one comes w,
      ))
      (λ (o : IsOpened script start after one). absurd (none_opens one o))
      (come_from script range start began change j one comes.there)

  used : is_used (log_effects before.world.log) vid ≡ true
  used = used_reserved before.world.log vid r stands

  abbrev draft_of : (index : ℕ) → HasEntryOf (log_effects after.world.log) good_id vid index
      → IsReservedEntry (log_effects before.world.log) good_id vid index
  draft_of index has = record {
    reservation = r;
    stands = stands;
    good = has.good;
    spec = has.spec;
    made_with = spec_was before.world.log (entry ∷ []) vid has.spec used
        (ap (λ (log : List Entry). spec_in (log_effects log) vid) (sym longer) ∙ has.made_with);
    within = has.object;
  }

  -- what its inode may come to have is drawn
  drawn : (index j : ℕ) (one : AttemptRecord) → HasEntryOf (log_effects after.world.log) good_id vid index
      → IsEntryToCome after.world.hosts after.past.attempts vid index j one → (o : Option Vid)
      → parent_of (log_effects before.world.log) vid ≡ o
      → StaysDrawnFrom before.world.hosts before.past.attempts r.source o index (entry_by index one)
  drawn index j one has comes o parent =
      let (w, was) = was_there (inode_number vid) (entry_unit index) j one comes in
      subst (λ (p : Option Vid). StaysDrawnFrom before.world.hosts before.past.attempts r.source p index (entry_by index one)) parent
      (subst (StaysDrawnFrom before.world.hosts before.past.attempts r.source (parent_of (log_effects before.world.log) vid) index)
      (ap (λ (a : AttemptRecord). entry_by index a) w.same)
      (drafts.inodes vid index (draft_of index has) j w.was was))

  -- nothing of its own objects
  pub none_own : (index unit j : ℕ) (one : AttemptRecord) → HasEntryOf (log_effects after.world.log) good_id vid index
      → IsToCome after.world.hosts after.past.attempts (object_number vid index) unit j one → ⊥
  none_own index unit j one has comes =
      let (w, was) = was_there (object_number vid index) unit j one comes in
      let (is_vid, is_spec) = header_is after.world.log reservable vid has.spec has.made_with in
      let most = objects_of-most has.spec is_spec in
      let inside = has.object in
      reserved_unpublished before.world.log vid r stands
      (data-on_the_way script range events start before is trail j w.was was.there vid index is_vid (omega (arith, most, inside))
      was.object)

  -- a new disk has holes
  pub made_blank : r.source ≡ sources.Fresh
      → IsMadeBlank (log_effects after.world.log) good_id after.world.hosts after.past.attempts vid
  made_blank fresh = record {
    entry = λ index j one has comes. drawn index j one has comes None none fresh;
    own = none_own;
  }
    where
      none : parent_of (log_effects before.world.log) vid ≡ None
      none = subst (λ (s : Source). IsSourceParent s (parent_of (log_effects before.world.log) vid)) fresh
          (parents_so before.world.log vid r stands)

  -- what it is made of may come to have an entry, if that is all that it might come to have
  module _ (base : Vid) (parent : parent_of (log_effects before.world.log) vid ≡ Some base) where
    whole : EachAttempt after.past.attempts (λ j attempt. length attempt.fates ≡ length attempt.targets)
    whole = (on_the_way script IsTied (kept_tied script range) events start after is (moments.Then trail change)).fates.whole

    pub parent_now : parent_of (log_effects after.world.log) vid ≡ Some base
    parent_now =
        ap (λ (log : List Entry). parent_of (log_effects log) vid) longer ∙ parent_stays before.world.log (entry ∷ []) vid used ∙ parent

    of_base : (index epoch value : ℕ) → HasEntryOf (log_effects after.world.log) good_id vid index
        → IsCreated after.past.attempts (inode_number base.0) epoch
        → IsAllToCome before.world.hosts before.past.attempts base.0 index value
        → (i : ℕ) × (other : AttemptRecord) × IsEntryToCome after.world.hosts after.past.attempts base.0 index i other
        × (entry_by index other ≡ value)
    of_base index epoch value has created all_come =
        let (header, there, own) = header_with (log_effects after.world.log) vid base parent_now in
        let known = parent_known after.world.log reservable vid header base there own in
        let same : header.spec ≡ has.spec
        = same_Some header.spec has.spec (sym (ap (option_map (λ (h : Header). h.spec)) there) ∙ has.made_with) in
        let made : HasMade after.world.hosts (inode_number base.0) (entry_unit index) after.past.attempts
        = created_made after.world.log reservable after.world.hosts after.past.attempts
        (whole-on_the_way script range events start after is (moments.Then trail change)) whole base.0 index
        epoch has.spec (known.made ∙ ap (λ (spec : VdiSpec). Some spec) same) has.object created in
        let (first, rest, all) = are_candidates after.world.hosts after.past.attempts whole base.0 index made in
        let (i, other, may, read) = candidate_comes after.world.hosts after.past.attempts whole base.0 index (first ∷ rest) all zero first
        refl in
        let (w, was) = was_there (inode_number base.0) (entry_unit index) i other may in
        (i, other, may, ap (λ (a : AttemptRecord). entry_by index a) (sym w.same) ∙ all_come i w.was was)

    -- a clone has what its base may come to have
    module _ (clone : r.source ≡ sources.Clone) where
      base_published : was_published after.world.log base.0 ≡ true
      base_published =
          ap (λ (log : List Entry). was_published log base.0) longer
          ∙ published_next before.world.log entry base.0
          (snapped_published base.0 before.world.log (base_snapped before.world.log vid r stands base parent clone))

      pub made_like : (index j : ℕ) (one : AttemptRecord) → HasEntryOf (log_effects after.world.log) good_id vid index
          → IsEntryToCome after.world.hosts after.past.attempts vid index j one
          → (i : ℕ) × (other : AttemptRecord) × IsEntryToCome after.world.hosts after.past.attempts base.0 index i other
          × (entry_by index other ≡ entry_by index one)
      made_like index j one has comes =
          of_base index (published_in after.world.log base.0) (entry_by index one) has
          (published-on_the_way script range events start after is (moments.Then trail change) base.0 base_published)
          (drawn index j one has comes (Some base) parent clone)

    -- what takes the place of a disk has what that may come to have
    pub made_in_place : PlacesStayDrawn (log_effects before.world.log) good_id before.world.hosts before.past.attempts → (tag : List ℕ)
        → r.source ≡ sources.Snapshot base tag → (index j : ℕ) (one : AttemptRecord)
        → HasEntryOf (log_effects after.world.log) good_id vid index
        → IsEntryToCome after.world.hosts after.past.attempts vid index j one
        → (i : ℕ) × (other : AttemptRecord) × IsEntryToCome after.world.hosts after.past.attempts base.0 index i other
        × (entry_by index other ≡ entry_by index one)
    made_in_place places tag place index j one has comes =
        let (w, was) = was_there (inode_number vid) (entry_unit index) j one comes in
        let (created, all) = places vid index (draft_of index has) base tag place j w.was was in
        of_base index created.0 (entry_by index one) has
        (created_stays script range start before after began change (inode_number base.0) created.0 created.1)
        (subst (IsAllToCome before.world.hosts before.past.attempts base.0 index) (ap (λ (a : AttemptRecord). entry_by index a) w.same) all)
