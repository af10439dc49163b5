-- What is above a disk that was available was available. So what is above an id that is good by the test of an event's end is good, at each
-- moment on the way of the event.
use Rattle.std.proofs.Common.{◌≡◌, ⊎_elim, ℕ, ◌==◌, true, List, ap, ◌∙◌}
use Rattle.std.specs.List.{list_any}
use Rattle.std.proofs.lemmas.Bool.{eqb-true, or_cases, or_right}
use Rattle.object_id.specs.declared.entry.Entry.{Entry}
use Rattle.object_id.specs.Oid.{vid_of}
use Rattle.cluster_script.specs.declared.statement.Statement.{Statement}
use Rattle.vdi_directory.specs.Chains.{is_above}
use Rattle.vdi_directory.specs.Decisions.{log_effects}
use Rattle.overlap_law.specs.Holders.{is_of_chain, is_available_disk}
use Rattle.overlap_law.specs.MomentChanges.{TrailLeft}
use Rattle.overlap_law.specs.NamedWorks.{AboveIsGood}
use Rattle.overlap_law.specs.Past.{MomentWithPast}
use Rattle.overlap_law.proofs.AboveIds.{above_goes_on}
use Rattle.overlap_law.proofs.CarriedRows.{log_left}
use Rattle.overlap_law.proofs.ChainTables.{above_later}
use Rattle.overlap_law.proofs.EndTests.{any_so, still_not}

module _ (log : List Entry) (elder vid : ℕ) (above : is_above (log_effects log) elder vid ≡ true) where
  chain_on : (oid : ℕ) → is_of_chain (log_effects log) elder oid ≡ true → is_of_chain (log_effects log) vid oid ≡ true
  chain_on oid is = or_right (vid_of oid == vid) (is_above (log_effects log) (vid_of oid) vid) (⊎_elim
      (λ (own : (vid_of oid == elder) ≡ true).
      ap (λ (id : ℕ). is_above (log_effects log) id vid) (eqb-true (vid_of oid) elder own) ∙ above)
      (λ (far : is_above (log_effects log) (vid_of oid) elder ≡ true). above_goes_on log (vid_of oid) elder vid far above)
      (or_cases (vid_of oid == elder) (is_above (log_effects log) (vid_of oid) elder) is))

  pub available_above : (unavailable : List ℕ) → is_available_disk log unavailable vid ≡ true
      → is_available_disk log unavailable elder ≡ true
  unfolding is_available_disk
  available_above unavailable is =
      still_not (list_any (is_of_chain (log_effects log) elder) unavailable) (list_any (is_of_chain (log_effects log) vid) unavailable)
      (any_so (is_of_chain (log_effects log) elder) (is_of_chain (log_effects log) vid) chain_on unavailable) is

-- by the test of the end, at a moment on the way
pub above_good_on_the_way : (script : List Statement) {start moment end : MomentWithPast} → TrailLeft script start moment end
    → AboveIsGood (log_effects moment.world.log) (is_available_disk end.world.log end.past.unavailable)
above_good_on_the_way script {start} {moment} {end} left elder vid above good =
    let later = log_left script left in
    available_above end.world.log elder vid
    (ap (λ (log : List Entry). is_above (log_effects log) elder vid) later.1 ∙ above_later moment.world.log later.0 elder vid above)
    end.past.unavailable good
