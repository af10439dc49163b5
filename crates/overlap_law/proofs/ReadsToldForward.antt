-- What was told of a block, so that it stays, is as it may be read behind what the history gets, if that keeps what was read of it.
use Rattle.std.proofs.Common.{◌≡◌, ◌⊎◌, inl, inr, ⊎_elim, ℕ, ◌<◌, Bool, true, false, Contains, List, [], ◌∷◌, ◌++◌, Option, None, Some}
use Rattle.std.proofs.Common.{refl, sym, ap, subst, ◌∙◌}
use Rattle.std.specs.List.{list_any}
use Rattle.std.proofs.lemmas.Bool.{both_ways, or_from}
use Rattle.std.proofs.lemmas.List.Sums.{fold-append}
use Rattle.std.proofs.lemmas.Option.{same_Some}
use Rattle.proof_tools.proofs.Lists.{Contains-cons, Contains-head}
use Rattle.disk_history.specs.declared.event.HistEvent.{HistEvent}
use Rattle.disk_history.specs.declared.event.HistEvent.TheVariants.{Create, Copy, Delete, WriteStart, WriteDone, WriteRefused, WriterLost}
use Rattle.disk_history.specs.declared.event.HistEvent.TheVariants.{Read}
use Rattle.disk_history.specs.Changes.{blocks_in}
use Rattle.disk_history.specs.Ledger.{Item, Disk, Ledger, empty_ledger, ledger_after}
use Rattle.overlap_law.specs.Attempts.{AttemptRecord}
use Rattle.overlap_law.specs.Headline.{ledger_of}
use Rattle.overlap_law.specs.ToldReads.{AllKeepReadsOf, KeepsReadsOf, MayStayReadAs, Reading}
use Rattle.overlap_law.proofs.BlockItems.{apart_back, blocks_along, makes_disk}
use Rattle.overlap_law.proofs.ReadsStay.{stood}
use Rattle.overlap_law.proofs.ToldBlocks.{AreReadAs, IsReadAs, IsToldAs}

module _ (attempts : List AttemptRecord) (vid block : ℕ) where
  -- what keeps it makes no such disk
  makes_none : (event : HistEvent) (ledger : Ledger) → KeepsReadsOf attempts ledger vid block event → makes_disk vid block event ≡ false
  makes_none (Create disk blocks) ledger keeps = apart_back vid disk keeps
  makes_none (Copy old new) ledger keeps = apart_back vid new keeps
  makes_none (Delete disk) ledger keeps = refl
  makes_none (WriteStart req disk at coded bytes) ledger keeps = refl
  makes_none (WriteDone req) ledger keeps = refl
  makes_none (WriteRefused req) ledger keeps = refl
  makes_none (WriterLost req) ledger keeps = refl
  makes_none (Read disk at bytes) ledger keeps = refl

  make_none : (events : List HistEvent) (ledger : Ledger) → AllKeepReadsOf attempts ledger vid block events
      → list_any (makes_disk vid block) events ≡ false
  make_none [] ledger keep = refl
  make_none (event ∷ events) ledger keep =
      or_from (makes_disk vid block event) (list_any (makes_disk vid block) events) (makes_none event ledger keep.0)
      (make_none events (ledger_after ledger event) keep.1)

  module _ (history grown : List HistEvent) (keep : AllKeepReadsOf attempts (ledger_of history) vid block grown) (bytes : List ℕ)
      (told : IsToldAs (MayStayReadAs attempts) (ledger_of history) vid block bytes) where
    as_many : blocks_in ((ledger_of (history ++ grown)).disks vid) ≡ Some told.disk.blocks
    as_many =
        ap (λ (ledger : Ledger). blocks_in (ledger.disks vid)) (fold-append ledger_after empty_ledger history grown)
        ∙ blocks_along vid block grown (ledger_of history) (make_none grown (ledger_of history) keep) ∙ ap blocks_in told.there

    by_disk : (o : Option Disk) → (ledger_of (history ++ grown)).disks vid ≡ o
        → IsToldAs (MayStayReadAs attempts) (ledger_of (history ++ grown)) vid block bytes
    by_disk None none =
        let never : None ≡ Some told.disk.blocks = sym (ap blocks_in none) ∙ as_many in
        absurd (cc (never))
    by_disk (Some disk) there =
        let so : disk.blocks ≡ told.disk.blocks = same_Some disk.blocks told.disk.blocks (sym (ap blocks_in there) ∙ as_many) in
        record {
          disk = disk;
          there = there;
          within = subst (λ (many : ℕ). block < many) (sym so) told.within;
          whole = told.whole;
          given = by_deleted disk.deleted refl;
        }
      where
        by_deleted : (b : Bool) → disk.deleted ≡ b → (disk.deleted ≡ true) ⊎ MayStayReadAs attempts (disk.items block) bytes
        by_deleted true gone = inl gone
        by_deleted false kept =
            let before = stood attempts history grown vid block disk keep there kept in
            let same : told.disk ≡ before.was = same_Some told.disk before.was (sym told.there ∙ before.there) in
            ⊎_elim
            (λ (gone : told.disk.deleted ≡ true).
            absurd (both_ways before.was.deleted before.kept (ap (λ (d : Disk). d.deleted) (sym same) ∙ gone)))
            (λ (may : MayStayReadAs attempts (told.disk.items block) bytes).
            inr (before.stays bytes (subst (λ (d : Disk). MayStayReadAs attempts (d.items block) bytes) same may)))
            told.given

    pub told_later : IsToldAs (MayStayReadAs attempts) (ledger_of (history ++ grown)) vid block bytes
    told_later = by_disk ((ledger_of (history ++ grown)).disks vid) refl

-- ---- by another ledger, and in other words

pub told_alike : (May_be : Reading) (ledger later : Ledger) (vid block : ℕ) (bytes : List ℕ) → later.disks vid ≡ ledger.disks vid
    → IsToldAs May_be ledger vid block bytes → IsToldAs May_be later vid block bytes
told_alike May_be ledger later vid block bytes alike told = record {
  disk = told.disk;
  there = alike ∙ told.there;
  within = told.within;
  whole = told.whole;
  given = told.given;
}

pub told_weaker : (May_be Later : Reading) (ledger : Ledger) (vid block : ℕ) (bytes : List ℕ)
    → ((items : List Item) → May_be items bytes → Later items bytes) → IsToldAs May_be ledger vid block bytes
    → IsToldAs Later ledger vid block bytes
told_weaker May_be Later ledger vid block bytes goes told = record {
  disk = told.disk;
  there = told.there;
  within = told.within;
  whole = told.whole;
  given = ⊎_elim (λ (gone : told.disk.deleted ≡ true). inl gone)
      (λ (may : May_be (told.disk.items block) bytes). inr (goes (told.disk.items block) may)) told.given;
}

-- ---- of several events

module _ (May_be Later : Reading) (ledger later : Ledger) (good_id : ℕ → Bool) where
  abbrev MakesMove : HistEvent → Type 0
  MakesMove event = (vid block : ℕ) (bytes : List ℕ) → event ≡ Read vid block bytes → IsToldAs May_be ledger vid block bytes
      → IsToldAs Later later vid block bytes

  one_read : (event : HistEvent) → MakesMove event → IsReadAs May_be ledger good_id event → IsReadAs Later later good_id event
  one_read (Create disk blocks) goes is = tt
  one_read (Copy old new) goes is = tt
  one_read (Delete disk) goes is = tt
  one_read (WriteStart req disk at coded bytes) goes is = tt
  one_read (WriteDone req) goes is = tt
  one_read (WriteRefused req) goes is = tt
  one_read (WriterLost req) goes is = tt
  one_read (Read disk at bytes) goes is = λ good. goes disk at bytes refl (is good)

  pub all_read_on : (events : List HistEvent)
      → ((vid block : ℕ) (bytes : List ℕ) → Contains events (Read vid block bytes) → IsToldAs May_be ledger vid block bytes
      → IsToldAs Later later vid block bytes)
      → AreReadAs May_be ledger good_id events → AreReadAs Later later good_id events
  all_read_on [] goes are = tt
  all_read_on (event ∷ events) goes are = (
    one_read event
        (λ vid block bytes same. goes vid block bytes (subst (Contains (event ∷ events)) same (Contains-head event events))) are.0,
    all_read_on events (λ vid block bytes among. goes vid block bytes (Contains-cons event events (Read vid block bytes) among)) are.1,
  )
