-- What may be read of a reserved id's inode is drawn from what the id is made from, if all that it may come to have is.
use Rattle.std.proofs.Common.{◌≡◌, ℕ, zero, Bool, All, List, ◌∷◌, length, Option, Some, None, option_map, refl, sym, ap, subst, ◌∙◌}
use Rattle.std.proofs.lemmas.Option.{same_Some}
use Rattle.object_id.specs.declared.entry.VdiSpec.{VdiSpec}
use Rattle.object_id.specs.declared.oid.Vid.{Vid}
use Rattle.object_id.specs.Oid.{inode_number}
use Rattle.cluster_script.specs.declared.statement.Statement.{Statement}
use Rattle.epoch_log.specs.Appending.{IsReservable}
use Rattle.vdi_directory.specs.declared.effect.Source.{Source}
use Rattle.vdi_directory.specs.declared.effect.Source.TheVariants as sources
use Rattle.vdi_directory.specs.declared.header.Header.{Header}
use Rattle.vdi_directory.specs.Decisions.{log_effects}
use Rattle.vdi_directory.specs.References.{parent_of}
use Rattle.overlap_law.specs.Attempts.{AttemptRecord}
use Rattle.overlap_law.specs.Drafts.{IsDrawnFrom, IsReservedEntry, ReservedInodesAreDrawn}
use Rattle.overlap_law.specs.Each.{EachAttempt, spec_in}
use Rattle.overlap_law.specs.Fates.{IsCreated}
use Rattle.overlap_law.specs.Grants.{published_in}
use Rattle.overlap_law.specs.MomentChanges.{RunsAreInRange}
use Rattle.overlap_law.specs.MomentChanges as moments
use Rattle.overlap_law.specs.Past.{MomentWithPast, run_with_past}
use Rattle.overlap_law.specs.StayingDrafts.{IsAllToCome, StaysDrawnFrom, DraftsStayDrawn, PlacesStayDrawn}
use Rattle.overlap_law.specs.Tables.{entry_unit, entry_by}
use Rattle.overlap_law.specs.TiedAttempts.{IsTied}
use Rattle.overlap_law.specs.ToCome.{IsEntryToCome}
use Rattle.overlap_law.specs.WrittenBlocks.{IsCandidate}
use Rattle.overlap_law.proofs.Candidates.{HasMade, candidate_comes, are_candidates}
use Rattle.overlap_law.proofs.CreatedInodes.{created_made}
use Rattle.overlap_law.proofs.DraftsOfLogs.{base_snapped, header_with, parents_so, snapped_published}
use Rattle.overlap_law.proofs.MadeEffects.{IsSourceParent}
use Rattle.overlap_law.proofs.KnownTables.{parent_known}
use Rattle.overlap_law.proofs.LogsReservable.{LogIsReservable, kept_reservable}
use Rattle.overlap_law.proofs.PublishedInRuns.{published-on_the_way}
use Rattle.overlap_law.proofs.RunsByChanges.{on_the_way}
use Rattle.overlap_law.proofs.TiedInRuns.{kept_tied}
use Rattle.overlap_law.proofs.WholeInRuns.{whole-on_the_way}
use Rattle.sheep_world.specs.RunsWithAsks.{Move}

module _ (script : List Statement) (range : RunsAreInRange script) (events : List Move) (moment : MomentWithPast)
    (is : run_with_past script events ≡ Some moment) (good_id : ℕ → Bool) where
  whole : EachAttempt moment.past.attempts (λ j attempt. length attempt.fates ≡ length attempt.targets)
  whole = (on_the_way script IsTied (kept_tied script range) events moment moment is moments.Still).fates.whole

  reservable : All IsReservable moment.world.log
  reservable = (on_the_way script LogIsReservable (kept_reservable script range) events moment moment is moments.Still).all

  module _ (vid index : ℕ) (draft : IsReservedEntry (log_effects moment.world.log) good_id vid index) (base : Vid)
      (parent : parent_of (log_effects moment.world.log) vid ≡ Some base) where
    -- the base has an entry of the index too
    pub base_spec : spec_in (log_effects moment.world.log) base.0 ≡ Some draft.spec
    base_spec =
        let (header, there, own) = header_with (log_effects moment.world.log) vid base parent in
        let known = parent_known moment.world.log reservable vid header base there own in
        let same : header.spec ≡ draft.spec
        = same_Some header.spec draft.spec (sym (ap (option_map (λ (h : Header). h.spec)) there) ∙ draft.made_with) in
        known.made ∙ ap (λ (spec : VdiSpec). Some spec) same

    -- so an entry that is all that may come is one that may be read
    pub all_read : (epoch entry : ℕ) → IsCreated moment.past.attempts (inode_number base.0) epoch
        → IsAllToCome moment.world.hosts moment.past.attempts base.0 index entry → IsCandidate moment.past.attempts base.0 index entry
    all_read epoch entry created all =
        let made : HasMade moment.world.hosts (inode_number base.0) (entry_unit index) moment.past.attempts
        = created_made moment.world.log reservable moment.world.hosts moment.past.attempts
        (whole-on_the_way script range events moment moment is moments.Still) whole base.0 index epoch draft.spec base_spec draft.within
        created in
        let (first, rest, same) = are_candidates moment.world.hosts moment.past.attempts whole base.0 index made in
        let (k, other, comes, own) = candidate_comes moment.world.hosts moment.past.attempts whole base.0 index (first ∷ rest) same zero
        first
        refl in
        record {
          entries = first ∷ rest;
          place = zero;
          there = same;
          among = ap (λ (e : ℕ). Some e) (sym own ∙ all k other comes);
        }

    -- a clone's base was published
    pub clone_read : (entry : ℕ) → draft.reservation.source ≡ sources.Clone
        → IsAllToCome moment.world.hosts moment.past.attempts base.0 index entry → IsCandidate moment.past.attempts base.0 index entry
    clone_read entry clone all =
        all_read (published_in moment.world.log base.0) entry
        (published-on_the_way script range events moment moment is moments.Still base.0
        (snapped_published base.0 moment.world.log
        (base_snapped moment.world.log vid draft.reservation draft.stands base parent clone))) all

  module _ (drafts : DraftsStayDrawn (log_effects moment.world.log) good_id moment.world.hosts moment.past.attempts)
      (places : PlacesStayDrawn (log_effects moment.world.log) good_id moment.world.hosts moment.past.attempts) where
    module _ (vid index : ℕ) (draft : IsReservedEntry (log_effects moment.world.log) good_id vid index) (j : ℕ) (attempt : AttemptRecord)
        (comes : IsEntryToCome moment.world.hosts moment.past.attempts vid index j attempt) where
      abbrev Drawn : Option Vid → Type 0
      Drawn parent = IsDrawnFrom moment.past.attempts index (entry_by index attempt) parent

      stays : (o : Option Vid) → parent_of (log_effects moment.world.log) vid ≡ o
          → StaysDrawnFrom moment.world.hosts moment.past.attempts draft.reservation.source o index (entry_by index attempt)
      stays o parent =
          subst (λ (p : Option Vid). StaysDrawnFrom moment.world.hosts moment.past.attempts draft.reservation.source p index
          (entry_by index attempt)) parent (drafts.inodes vid index draft j attempt comes)

      by_source : (source : Source) → draft.reservation.source ≡ source → (o : Option Vid)
          → parent_of (log_effects moment.world.log) vid ≡ o → IsSourceParent source o → Drawn o
      by_source sources.Fresh from None parent so = stays None parent from
      by_source sources.Fresh from (Some base) parent so = absurd (cc (so))
      by_source (sources.Snapshot old tag) from None parent so = absurd (cc (so))
      by_source (sources.Snapshot old tag) from (Some base) parent so =
          let place = places vid index draft old tag from j attempt comes in
          let same : base ≡ old = same_Some base old so in
          all_read vid index draft base parent place.0.0 (entry_by index attempt)
          (subst (λ (v : Vid). IsCreated moment.past.attempts (inode_number v.0) place.0.0) (sym same) place.0.1)
          (subst (λ (v : Vid). IsAllToCome moment.world.hosts moment.past.attempts v.0 index (entry_by index attempt)) (sym same) place.1)
      by_source sources.Clone from None parent so = absurd (cc (so))
      by_source sources.Clone from (Some base) parent so =
          clone_read vid index draft base parent (entry_by index attempt) from (stays (Some base) parent from)

      drawn : IsDrawnFrom moment.past.attempts index (entry_by index attempt) (parent_of (log_effects moment.world.log) vid)
      drawn = by_source draft.reservation.source refl (parent_of (log_effects moment.world.log) vid) refl
          (parents_so moment.world.log vid draft.reservation draft.stands)

    pub drawn_by : ReservedInodesAreDrawn (log_effects moment.world.log) good_id moment.past.attempts
    drawn_by = record {
      each = λ vid index entry draft candidate.
          let (j, attempt, comes, own) = candidate_comes moment.world.hosts moment.past.attempts whole vid index candidate.entries
          candidate.there candidate.place entry candidate.among in
          subst (λ (e : ℕ). IsDrawnFrom moment.past.attempts index e (parent_of (log_effects moment.world.log) vid)) own
          (drawn vid index draft j attempt comes);
    }
