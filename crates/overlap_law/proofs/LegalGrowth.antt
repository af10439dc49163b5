-- The history without the reads of disks that weren't available stays legal, where each other read is told what may be read, and all else
-- may come next.
use Rattle.std.proofs.Common.{◌≡◌, ◌⊎◌, inl, inr, ℕ, ◌==◌, ◌&&◌, ◌||◌, Bool, true, false, cond, List, [], ◌∷◌, ◌++◌, filter, fold, length}
use Rattle.std.proofs.Common.{Option, Some, None, refl, sym, ap, subst, ◌∙◌, rules}
use Rattle.std.specs.Prelude.{IsSome}
use Rattle.std.specs.List.{list_any}
use Rattle.std.specs.Option.{option_and_then}
use Rattle.std.specs.Str.{bytes_eq}
use Rattle.std.proofs.lemmas.Bool.{and_from, eq-eqb, lt-ltb, or_left, or_right}
use Rattle.std.proofs.lemmas.List.Sums.{fold-append}
use Rattle.std.proofs.lemmas.Option.{same_Some}
use Rattle.object_id.specs.declared.entry.Entry.{Entry}
use Rattle.object_id.specs.declared.limits.TheConstants.{BLOCK_BYTES}
use Rattle.disk_history.specs.declared.event.HistEvent.{HistEvent}
use Rattle.disk_history.specs.declared.event.HistEvent.TheVariants.{Create, Copy, Delete, WriteStart, WriteDone, WriteRefused, WriterLost}
use Rattle.disk_history.specs.declared.event.HistEvent.TheVariants.{Read}
use Rattle.disk_history.specs.Ledger.{Disk, Ledger, empty_ledger, has_block, ledger_after}
use Rattle.disk_history.specs.Legal.{IsLegal, is_torn, may_follow, may_read, ledger_from, standing}
use Rattle.disk_history.proofs.LegalLemmas.{ledger_from-append}
use Rattle.cluster_script.specs.declared.statement.Statement.{Statement}
use Rattle.sheep_node.specs.declared.event.Event.{Event}
use Rattle.sheep_world.specs.Step.{EventOutcome}
use Rattle.sheep_world.specs.RunsWithAsks.{Move}
use Rattle.overlap_law.specs.Headline.{ledger_of, IsLegalWhereAvailable}
use Rattle.overlap_law.specs.Holders.{is_available_disk}
use Rattle.overlap_law.specs.Past.{MomentWithPast, past_after_event, moment_after, run_with_past}
use Rattle.overlap_law.specs.PastWords.{is_counted}
use Rattle.overlap_law.specs.ToldReads.{MayBeToldOf, IsToldAsItMay, WhatIsToldMayBeRead, MayFollowUnlessRead, AllElseMayFollow}
use Rattle.overlap_law.proofs.RunsByEvents.{KeptByEvents, run-kept_by_events}

-- ---- the ledger of a legal history is that of its events

pub reached_ledger : (events : List HistEvent) (first last : Ledger) → ledger_from first events ≡ Some last
    → last ≡ fold ledger_after first events
reached_ledger [] first last is = sym (same_Some first last is)
reached_ledger (event ∷ events) first last is =
    by_test (may_follow first event) is (λ so. reached_ledger events (ledger_after first event) last so)
  where
    by_test : (b : Bool)
        → option_and_then (λ next. ledger_from next events) (cond b (Some (ledger_after first event)) None) ≡ Some last
        → (ledger_from (ledger_after first event) events ≡ Some last → last ≡ fold ledger_after (ledger_after first event) events)
        → last ≡ fold ledger_after (ledger_after first event) events
    by_test true is later = later is
    by_test false is later = absurd (cc (is))

-- ---- what is read

read_follows : (ledger : Ledger) (vid block : ℕ) (bytes : List ℕ) → MayBeToldOf ledger vid block bytes
    → may_follow ledger (Read vid block bytes) ≡ true
read_follows ledger vid block bytes told =
    ap (λ (found : Option Disk). has_block found block && length bytes == BLOCK_BYTES && may_read found block bytes) told.there
    ∙ and_from (has_block (Some told.disk) block && length bytes == BLOCK_BYTES) (may_read (Some told.disk) block bytes)
    (and_from (has_block (Some told.disk) block) (length bytes == BLOCK_BYTES) (lt-ltb block told.disk.blocks told.within)
    (eq-eqb (length bytes) BLOCK_BYTES told.whole))
    (by_case told.given)
  where
    torn : Bool
    torn = is_torn (told.disk.items block)

    stands : Bool
    stands = list_any (λ item. bytes_eq item.bytes bytes) (standing (told.disk.items block))

    by_case : (told.disk.deleted ≡ true) ⊎ ((torn ≡ true) ⊎ (stands ≡ true)) → (told.disk.deleted || torn || stands) ≡ true
    by_case (inl gone) = or_left (told.disk.deleted || torn) stands (or_left told.disk.deleted torn gone)
    by_case (inr (inl is)) = or_left (told.disk.deleted || torn) stands (or_right told.disk.deleted torn is)
    by_case (inr (inr is)) = or_right (told.disk.deleted || torn) stands is

module _ (log : List Entry) (unavailable : List ℕ) where
  abbrev counted : HistEvent → Bool
  counted = is_counted log unavailable

  abbrev good_id : ℕ → Bool
  good_id = is_available_disk log unavailable

  -- what is left out changes nothing
  left_out : (event : HistEvent) (ledger : Ledger) → counted event ≡ false → ledger_after ledger event ≡ ledger
  left_out (Create disk blocks) ledger is = absurd (cc (is))
  left_out (Copy old new) ledger is = absurd (cc (is))
  left_out (Delete disk) ledger is = absurd (cc (is))
  left_out (WriteStart req disk block coded bytes) ledger is = absurd (cc (is))
  left_out (WriteDone req) ledger is = absurd (cc (is))
  left_out (WriteRefused req) ledger is = absurd (cc (is))
  left_out (WriterLost req) ledger is = absurd (cc (is))
  left_out (Read disk block bytes) ledger is = refl

  follows : (event : HistEvent) (ledger : Ledger) → counted event ≡ true → MayFollowUnlessRead ledger event
      → IsToldAsItMay good_id ledger event → may_follow ledger event ≡ true
  follows (Create disk blocks) ledger is may told = may
  follows (Copy old new) ledger is may told = may
  follows (Delete disk) ledger is may told = may
  follows (WriteStart req disk block coded bytes) ledger is may told = may
  follows (WriteDone req) ledger is may told = may
  follows (WriteRefused req) ledger is may told = may
  follows (WriterLost req) ledger is may told = may
  follows (Read disk block bytes) ledger is may told = read_follows ledger disk block bytes (told is)

  -- the ledger is the same without what is left out
  counted_ledger : (events : List HistEvent) (ledger : Ledger)
      → fold ledger_after ledger (filter counted events) ≡ fold ledger_after ledger events
  counted_ledger [] ledger = refl
  counted_ledger (event ∷ events) ledger =
      by_test (counted event) refl (counted_ledger events (ledger_after ledger event)) (counted_ledger events ledger)
    where
      by_test : (b : Bool) → counted event ≡ b
          → fold ledger_after (ledger_after ledger event) (filter counted events) ≡ fold ledger_after (ledger_after ledger event) events
          → fold ledger_after ledger (filter counted events) ≡ fold ledger_after ledger events
          → fold ledger_after ledger (cond b (event ∷ filter counted events) (filter counted events))
          ≡ fold ledger_after (ledger_after ledger event) events
      by_test true is with_it without = with_it
      by_test false is with_it without =
          without ∙ ap (λ (l : Ledger). fold ledger_after l events) (sym (left_out event ledger is))

  -- and it is reached, where what counts may come next
  counted_legal : (events : List HistEvent) (ledger : Ledger) → AllElseMayFollow ledger events → WhatIsToldMayBeRead good_id ledger events
      → ledger_from ledger (filter counted events) ≡ Some (fold ledger_after ledger events)
  counted_legal [] ledger may told = refl
  counted_legal (event ∷ events) ledger may told = by_test (counted event) refl
      (counted_legal events (ledger_after ledger event) may.1 told.1)
    where
      rest : List HistEvent
      rest = filter counted events

      by_test : (b : Bool) → counted event ≡ b
          → ledger_from (ledger_after ledger event) rest ≡ Some (fold ledger_after (ledger_after ledger event) events)
          → ledger_from ledger (cond b (event ∷ rest) rest) ≡ Some (fold ledger_after (ledger_after ledger event) events)
      by_test true is reached =
          ap (λ (b : Bool). option_and_then (λ next. ledger_from next rest) (cond b (Some (ledger_after ledger event)) None))
          (follows event ledger is may.0 told.0)
          ∙ reached
      by_test false is reached = ap (λ (l : Ledger). ledger_from l rest) (sym (left_out event ledger is)) ∙ reached

-- ---- a history and what is added

-- a legal history goes on with what is reached from its ledger
grown_legal : (history added : List HistEvent) (last : Ledger) → IsLegal history
    → ledger_from (ledger_of history) added ≡ Some last → IsLegal (history ++ added)
grown_legal history added last legal reached = by_ledger (ledger_from empty_ledger history) refl legal
  where
    none : IsSome {T = Ledger} None → ⊥
    none there = search rules

    by_ledger : (found : Option Ledger) → ledger_from empty_ledger history ≡ found → IsSome found → IsLegal (history ++ added)
    by_ledger None is there = absurd (none there)
    by_ledger (Some ledger) is there =
        subst (λ (found : Option Ledger). IsSome found)
        (sym (ledger_from-append empty_ledger history added
        ∙ ap (option_and_then (λ next. ledger_from next added)) is
        ∙ ap (λ (l : Ledger). ledger_from l added) (reached_ledger history empty_ledger ledger is)
        ∙ reached))
        (search rules)

-- ---- in each run

module _ (script : List Statement) where
  -- the reads that are left out make no difference to the ledger
  abbrev SameLedger : MomentWithPast → Type 0
  SameLedger moment = ledger_of moment.past.available_history ≡ ledger_of moment.past.history

  same_kept : KeptByEvents script SameLedger
  unfolding past_after_event
  same_kept event before made began is same =
      let counts : HistEvent → Bool = is_counted made.world.log before.past.unavailable in
      fold-append ledger_after empty_ledger before.past.available_history (filter counts made.grown)
      ∙ ap (λ (ledger : Ledger). fold ledger_after ledger (filter counts made.grown)) same
      ∙ counted_ledger made.world.log before.past.unavailable made.grown (ledger_of before.past.history)
      ∙ sym (fold-append ledger_after empty_ledger before.past.history made.grown)

  pub same_ledger-in_run : (events : List Move) (moment : MomentWithPast) → run_with_past script events ≡ Some moment
      → ledger_of moment.past.available_history ≡ ledger_of moment.past.history
  same_ledger-in_run events moment is = run-kept_by_events script SameLedger refl same_kept events moment is

  pub stays_legal : (events : List Move) (event : Event) (before : MomentWithPast) (made : EventOutcome)
      → run_with_past script events ≡ Some before → AllElseMayFollow (ledger_of before.past.history) made.grown
      → WhatIsToldMayBeRead (is_available_disk made.world.log before.past.unavailable) (ledger_of before.past.history) made.grown
      → IsLegalWhereAvailable before.past → IsLegalWhereAvailable (moment_after script event before made).past
  unfolding past_after_event
  stays_legal events event before made run may told legal =
      grown_legal before.past.available_history (filter (is_counted made.world.log before.past.unavailable) made.grown)
      (fold ledger_after (ledger_of before.past.history) made.grown) legal
      (ap (λ (ledger : Ledger). ledger_from ledger (filter (is_counted made.world.log before.past.unavailable) made.grown))
      (same_ledger-in_run events before run)
      ∙ counted_legal made.world.log before.past.unavailable made.grown (ledger_of before.past.history) may told)
