-- A disk that an entry of the log copies is made like the one that it is a copy of: its blocks are that one's, whose id isn't dead as long
-- as the new one isn't; its inode may come to have what that one's may; and of its own objects nothing may come to be read.
use Rattle.std.proofs.Common.{◌≡◌, ℕ, ◌+◌, ◌*◌, ◌<◌, ◌==◌, Bool, true, false, cond, All, List, [], ◌∷◌, ◌++◌, Option, Some, None}
use Rattle.std.proofs.Common.{option_map}
use Rattle.std.proofs.Common.{refl, sym, ap, subst, ◌∙◌}
use Rattle.std.proofs.lemmas.Bool.{both_ways, eq-eqb, false_from_ne_true, or_left}
use Rattle.std.proofs.lemmas.Option.{same_Some}
use Rattle.object_id.specs.declared.entry.Entry.{Entry}
use Rattle.object_id.specs.declared.entry.VdiSpec.{VdiSpec}
use Rattle.object_id.specs.declared.oid.Vid.{Vid}
use Rattle.epoch_log.specs.Appending.{IsReservable}
use Rattle.cluster_script.specs.declared.statement.Statement.{Statement}
use Rattle.disk_history.specs.declared.event.HistEvent.TheVariants.{Copy}
use Rattle.disk_history.specs.Ledger.{Disk, Ledger, ledger_after}
use Rattle.vdi_directory.specs.declared.header.Header.{Header}
use Rattle.vdi_directory.specs.Chains.{is_above}
use Rattle.vdi_directory.specs.Dead.{is_dead}
use Rattle.vdi_directory.specs.Decisions.{log_effects}
use Rattle.vdi_directory.specs.References.{parent_of}
use Rattle.vdi_directory.proofs.ChainLemmas.{is_parent_or_above}
use Rattle.vdi_directory.proofs.DeadLemmas.{dead-heirs}
use Rattle.vdi_directory.proofs.DeadTests.{test-finds-dead}
use Rattle.vdi_directory.proofs.LineLemmas.{above-line, line-log_effects}
use Rattle.overlap_law.specs.Attempts.{AttemptRecord}
use Rattle.overlap_law.specs.Each.{spec_in}
use Rattle.overlap_law.specs.Headline.{ledger_of}
use Rattle.overlap_law.specs.KeptHistory.{EntriesKeepBlocks}
use Rattle.overlap_law.specs.MomentChanges.{MomentChange, MomentTrail, Then, RunsAreInRange}
use Rattle.overlap_law.specs.Past.{MomentWithPast, run_with_past}
use Rattle.overlap_law.specs.StayingBlocks.{IsBlockOfAnyDisk, HasEntryOf, IsMadeLike}
use Rattle.overlap_law.specs.StayingDrafts.{DraftsStayDrawn, ParentsAreGood, PlacesStayDrawn}
use Rattle.overlap_law.specs.Tables.{entry_by}
use Rattle.overlap_law.specs.ToCome.{IsEntryToCome}
use Rattle.overlap_law.specs.WrittenBlocks.{blocks_per_object}
use Rattle.overlap_law.proofs.AddedDisks.{entry_keeps}
use Rattle.overlap_law.proofs.CopiesMade.{IsCopyMade, IsCopySource, OfClone, InPlace, copy_made}
use Rattle.overlap_law.proofs.DraftsOfLogs.{header_with}
use Rattle.overlap_law.proofs.KnownTables.{parent_known}
use Rattle.overlap_law.proofs.LogsReservable.{LogIsReservable, kept_reservable}
use Rattle.overlap_law.proofs.MadeDisks.{parent_now, none_own, made_like, made_in_place}
use Rattle.overlap_law.proofs.RunsByChanges.{on_the_way}
use Rattle.sheep_world.specs.RunsWithAsks.{Move}

-- an id isn't dead as long as one that is made from it isn't
pub parent_alive : (log : List Entry) (vid : ℕ) (base : Vid) → parent_of (log_effects log) vid ≡ Some base
    → is_dead (log_effects log) vid ≡ false → is_dead (log_effects log) base.0 ≡ false
parent_alive log vid base parent alive = false_from_ne_true (is_dead (log_effects log) base.0) (λ dead.
    let above : is_above (log_effects log) base.0 vid ≡ true
    = above-line (log_effects log) (line-log_effects log) base.0 vid
    ∙ ap (λ (o : Option Vid). is_parent_or_above (is_above (log_effects log)) base.0 o) parent
    ∙ or_left (base.0 == base.0) (is_above (log_effects log) base.0 base.0) (eq-eqb base.0 base.0 refl) in
    let with_it : is_dead (log_effects log) vid ≡ true
    = (test-finds-dead log vid).1 (dead-heirs log base.0 vid ((test-finds-dead log base.0).0 dead) above) in
    both_ways (is_dead (log_effects log) vid) alive with_it)

module _ (script : List Statement) (range : RunsAreInRange script) (events : List Move) (start before after : MomentWithPast)
    (is : run_with_past script events ≡ Some start) (trail : MomentTrail script start before)
    (change : MomentChange script start before after) (good_id : ℕ → Bool)
    (drafts : DraftsStayDrawn (log_effects before.world.log) good_id before.world.hosts before.past.attempts)
    (places : PlacesStayDrawn (log_effects before.world.log) good_id before.world.hosts before.past.attempts)
    (parents : ParentsAreGood (log_effects after.world.log) good_id)
    (entry : Entry) (longer : after.world.log ≡ before.world.log ++ entry ∷ []) where
  reservable : All IsReservable after.world.log
  reservable = (on_the_way script LogIsReservable (kept_reservable script range) events start after is (Then trail change)).all

  module _ (ledger : Ledger) (old new : ℕ) (copy : IsCopyMade before.world.log old new) where
    parent : parent_of (log_effects after.world.log) new ≡ Some copy.base
    parent =
        parent_now script range events start before after is trail change good_id drafts entry longer new copy.reservation copy.stands
        copy.base copy.parent

    module _ (index unit : ℕ) (disk : Disk) (spec : VdiSpec)
        (block : IsBlockOfAnyDisk (ledger_after ledger (Copy old new)) (log_effects after.world.log) good_id new disk spec index unit) where
      there_now : option_map (λ (disk : Disk). record disk { deleted = false }) (ledger.disks old) ≡ Some disk
      there_now =
          sym (ap
          (λ (b : Bool). cond b (option_map (λ (disk : Disk). record disk { deleted = false }) (ledger.disks old)) (ledger.disks new))
          (eq-eqb new new refl))
          ∙ block.there

      of_base : spec_in (log_effects after.world.log) copy.base.0 ≡ Some spec
      of_base =
          let (header, there, own) = header_with (log_effects after.world.log) new copy.base parent in
          let known = parent_known after.world.log reservable new header copy.base there own in
          known.made
          ∙ ap (λ (s : VdiSpec). Some s)
          (same_Some header.spec spec (sym (ap (option_map (λ (h : Header). h.spec)) there) ∙ block.made_with))

      by_old : (o : Option Disk) → ledger.disks old ≡ o
          → option_map (λ (disk : Disk). record disk { deleted = false }) o ≡ Some disk
          → (was : Disk) × IsBlockOfAnyDisk ledger (log_effects after.world.log) good_id old was spec index unit
      by_old None found there = absurd (cc (there))
      by_old (Some was) found there = (
        was,
        record {
          there = found;
          alive = ap (is_dead (log_effects after.world.log)) (sym copy.same)
              ∙ parent_alive after.world.log new copy.base parent block.alive;
          good = ap good_id (sym copy.same) ∙ parents new copy.base parent block.good;
          made_with = ap (spec_in (log_effects after.world.log)) (sym copy.same) ∙ of_base;
          object = block.object;
          inside = block.inside;
          block = subst (λ (n : ℕ). index * blocks_per_object spec + unit < n)
              (ap (λ (d : Disk). d.blocks) (sym (same_Some (record was { deleted = false }) disk there))) block.block;
        },
      )

    abbrev HasBefore : ℕ → ℕ → AttemptRecord → Type 0
    HasBefore vid index one = (i : ℕ) × (other : AttemptRecord)
        × IsEntryToCome after.world.hosts after.past.attempts vid index i other × (entry_by index other ≡ entry_by index one)

    by_source : IsCopySource copy.base copy.reservation.source → (index j : ℕ) (one : AttemptRecord)
        → HasEntryOf (log_effects after.world.log) good_id new index
        → IsEntryToCome after.world.hosts after.past.attempts new index j one → HasBefore copy.base.0 index one
    by_source (OfClone clone) =
        made_like script range events start before after is trail change good_id drafts entry longer new copy.reservation copy.stands
        copy.base copy.parent clone
    by_source (InPlace tag place) =
        made_in_place script range events start before after is trail change good_id drafts entry longer new copy.reservation copy.stands
        copy.base copy.parent places tag place

    copied_like : IsMadeLike (log_effects after.world.log) good_id after.world.hosts after.past.attempts ledger old new
    copied_like = record {
      block = λ index unit disk spec block.
          by_old index unit disk spec block (ledger.disks old) refl (there_now index unit disk spec block);
      entry = λ index j one has comes.
          subst (λ (v : ℕ). HasBefore v index one) copy.same (by_source copy.source index j one has comes);
      own = none_own script range events start before after is trail change good_id drafts entry longer new copy.reservation copy.stands;
    }

pub entries_keep : (script : List Statement) → RunsAreInRange script → (events : List Move) (start before after : MomentWithPast)
    → run_with_past script events ≡ Some start → MomentTrail script start before → MomentChange script start before after
    → (good_id : ℕ → Bool) → DraftsStayDrawn (log_effects before.world.log) good_id before.world.hosts before.past.attempts
    → PlacesStayDrawn (log_effects before.world.log) good_id before.world.hosts before.past.attempts
    → ParentsAreGood (log_effects after.world.log) good_id → EntriesKeepBlocks good_id before after
entries_keep script range events start before after is trail change good_id drafts places parents = record {
  each = λ entry longer.
      entry_keeps script range events start before after is trail change good_id drafts entry longer (ledger_of before.past.history)
      (λ old new adds.
      copied_like script range events start before after is trail change good_id drafts places parents entry longer
      (ledger_of before.past.history) old new (copy_made before.world.log old new entry adds));
}
