-- The item of a block that a write has under way stands on its disk by the history, where this goes on without disturbing it, and where the
-- write begins.
use Rattle.std.proofs.Common.{◌≡◌, ℕ, ◌<◌, Bool, true, false, List, ◌++◌, fold, Contains, Option, Some, None, refl, sym, ap, subst, ◌∙◌}
use Rattle.std.specs.List.{list_any}
use Rattle.std.proofs.lemmas.Bool.{lt-ltb}
use Rattle.std.proofs.lemmas.List.Sums.{fold-append}
use Rattle.std.proofs.lemmas.Option.{same_Some}
use Rattle.disk_history.specs.declared.event.HistEvent.{HistEvent}
use Rattle.disk_history.specs.declared.event.HistEvent.TheVariants.{WriteStart}
use Rattle.disk_history.specs.Changes.{blocks_in, items_in}
use Rattle.disk_history.specs.Ledger.{Ledger, empty_ledger, has_block, ledger_after}
use Rattle.disk_history.specs.Ledger as histories
use Rattle.overlap_law.specs.Headline.{ledger_of}
use Rattle.overlap_law.proofs.BlockItems.{begun_along, blocks_along, kept_along, makes_disk}
use Rattle.overlap_law.proofs.StandingBefore.{Stands, disturbs, stands_begins, stands_stays}

module _ (req : ℕ) (waits : ℕ → Bool) (vid block : ℕ) (bytes : List ℕ) where
  -- where the disk is there it has the block, and the block has the write's item, behind which others wait
  abbrev pub StandsIn : List HistEvent → Type 0
  StandsIn history = (disk : histories.Disk) → (ledger_of history).disks vid ≡ Some disk
      → (block < disk.blocks) × Stands req waits bytes (disk.items block)

  module _ (history grown : List HistEvent) (none : list_any (makes_disk vid block) grown ≡ false)
      (calm : list_any (disturbs req waits vid block) grown ≡ false) where
    both : ledger_of (history ++ grown) ≡ fold ledger_after (ledger_of history) grown
    both = fold-append ledger_after empty_ledger history grown

    -- a disk that is there then was there, with as many blocks
    pub record WasThere (disk : histories.Disk) : Type 0 where
      pub old : histories.Disk
      pub there : (ledger_of history).disks vid ≡ Some old
      pub many : old.blocks ≡ disk.blocks

    pub was : (disk : histories.Disk) → (ledger_of (history ++ grown)).disks vid ≡ Some disk → WasThere disk
    was disk at =
        by_found ((ledger_of history).disks vid) refl
        (sym (ap blocks_in at) ∙ ap (λ (ledger : Ledger). blocks_in (ledger.disks vid)) both
        ∙ blocks_along vid block grown (ledger_of history) none)
      where
        by_found : (o : Option histories.Disk) → (ledger_of history).disks vid ≡ o
            → Some disk.blocks ≡ blocks_in ((ledger_of history).disks vid) → WasThere disk
        by_found None found is =
            absurd (cc (is, found))
        by_found (Some old) found is = record {
          old = old;
          there = found;
          many = sym (same_Some disk.blocks old.blocks (is ∙ ap blocks_in found));
        }

    -- what stood stands
    pub still_stands : StandsIn history → StandsIn (history ++ grown)
    still_stands before disk at =
        let w = was disk at in
        let (within, stands) = before w.old w.there in
        let has : has_block ((ledger_of history).disks vid) block ≡ true
        = ap (λ (o : Option histories.Disk). has_block o block) w.there ∙ lt-ltb block w.old.blocks within in
        let first : Stands req waits bytes (items_in ((ledger_of history).disks vid) block)
        = subst (λ (o : Option histories.Disk). Stands req waits bytes (items_in o block)) (sym w.there) stands in
        let later = kept_along vid block (Stands req waits bytes) (disturbs req waits vid block) (stands_stays req waits bytes vid block)
        grown (ledger_of history) none calm has first in (
          subst (λ (k : ℕ). block < k) w.many within,
          subst (λ (o : Option histories.Disk). Stands req waits bytes (items_in o block))
              (ap (λ (ledger : Ledger). ledger.disks vid) (sym both) ∙ at) later,
        )

    -- and what begins does, where the disk has the block
    pub begun_stands : (coded : Bool) → Contains grown (WriteStart req vid block coded bytes)
        → ((old : histories.Disk) → (ledger_of history).disks vid ≡ Some old → block < old.blocks) → StandsIn (history ++ grown)
    begun_stands coded among fits disk at =
        let w = was disk at in
        let within = fits w.old w.there in
        let has : has_block ((ledger_of history).disks vid) block ≡ true
        = ap (λ (o : Option histories.Disk). has_block o block) w.there ∙ lt-ltb block w.old.blocks within in
        let later = begun_along vid block (Stands req waits bytes) (disturbs req waits vid block) (stands_stays req waits bytes vid block)
        req coded bytes (stands_begins req waits coded bytes) grown (ledger_of history) none calm has among in (
          subst (λ (k : ℕ). block < k) w.many within,
          subst (λ (o : Option histories.Disk). Stands req waits bytes (items_in o block))
              (ap (λ (ledger : Ledger). ledger.disks vid) (sym both) ∙ at) later,
        )
