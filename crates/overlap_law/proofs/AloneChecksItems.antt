-- What a request has among the items of a history was begun in it: in a block of that number, with those bytes.
use Rattle.std.proofs.Common.{◌≡◌, ℕ, Bool, true, List, [], ◌∷◌, Contains, Some, slice_get, subst}
use Rattle.proof_tools.proofs.Lists.{Contains-cons, Contains-head}
use Rattle.disk_history.specs.declared.event.HistEvent.{HistEvent}
use Rattle.disk_history.specs.declared.event.HistEvent.TheVariants.{Create, Copy, Delete, WriteStart, WriteDone, WriteRefused, WriterLost}
use Rattle.disk_history.specs.declared.event.HistEvent.TheVariants.{Read}
use Rattle.disk_history.specs.Changes.{items_in}
use Rattle.disk_history.specs.Ledger.{Item, is_item_of, empty_ledger}
use Rattle.overlap_law.specs.Headline.{ledger_of}
use Rattle.overlap_law.proofs.AloneItems.{AreFine, IsFine, along, at_place}

-- a write of these bytes in a block was begun, on whichever disk
abbrev pub WasBegun : ℕ → List HistEvent → ℕ → List ℕ → Type 0
WasBegun req history block bytes = (vid : ℕ) × (coded : Bool) × Contains history (WriteStart req vid block coded bytes)

module _ (req : ℕ) (history : List HistEvent) where
  abbrev WasBegunOn : ℕ → ℕ → List ℕ → Type 0
  WasBegunOn disk block bytes = WasBegun req history block bytes

  one_fine : (event : HistEvent) → Contains history event → IsFine req WasBegunOn event
  one_fine (Create disk blocks) among = tt
  one_fine (Copy old new) among = λ block bytes was. was
  one_fine (Delete disk) among = tt
  one_fine (WriteStart other disk block coded bytes) among = λ own.
      (disk, coded, subst (λ (k : ℕ). Contains history (WriteStart k disk block coded bytes)) own among)
  one_fine (WriteDone other) among = tt
  one_fine (WriteRefused other) among = tt
  one_fine (WriterLost other) among = tt
  one_fine (Read disk block bytes) among = tt

  all_fine : (events : List HistEvent) → ((event : HistEvent) → Contains events event → Contains history event)
      → AreFine req WasBegunOn events
  all_fine [] within = tt
  all_fine (event ∷ events) within = (
    one_fine event (within event (Contains-head event events)),
    all_fine events (λ one among. within one (Contains-cons event events one among)),
  )

  pub item_was_begun : (disk block place : ℕ) (item : Item)
      → slice_get (items_in ((ledger_of history).disks disk) block) place ≡ Some item → is_item_of req item ≡ true
      → WasBegun req history block item.bytes
  item_was_begun disk block place item got own =
      at_place req WasBegunOn disk block (items_in ((ledger_of history).disks disk) block) place item
      (along req WasBegunOn history empty_ledger (all_fine history (λ event among. among)) (λ vid number. tt) disk block) got own
