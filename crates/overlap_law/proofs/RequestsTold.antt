-- What a ledger keeps of a write request is told by the events of its history: that it began to write, of which blocks, and that it ended.
use Rattle.std.proofs.Common.{◌≡◌, ℕ, ◌==◌, ◌&&◌, ◌||◌, not, Bool, true, false, cond, List, [], ◌∷◌, ◌++◌, fold, refl, sym, ap, ◌∙◌}
use Rattle.std.specs.List.{list_any}
use Rattle.std.proofs.Math.Bool.{or-false}
use Rattle.std.proofs.lemmas.Bool.{both_ways, eqb-true, eq-eqb}
use Rattle.std.proofs.lemmas.List.Folds.{list_any-append}
use Rattle.disk_history.specs.declared.event.HistEvent.{HistEvent}
use Rattle.disk_history.specs.declared.event.HistEvent.TheVariants.{Create, Copy, Delete, WriteStart, WriteDone, WriteRefused, WriterLost}
use Rattle.disk_history.specs.declared.event.HistEvent.TheVariants.{Read}
use Rattle.disk_history.specs.Ledger.{WriteRequest, Ledger, empty_ledger, changed_at, has_block, ledger_after}
use Rattle.disk_history.specs.Legal.{has_place}
use Rattle.overlap_law.specs.DiskEvents.{ends_write_of}
use Rattle.overlap_law.specs.Headline.{ledger_of}
use Rattle.overlap_law.specs.ToldReads.{begins_write_at}

pub or_comes : (a b c : Bool) → (a || b) || c ≡ a || (b || c)
or_comes true b c = refl
or_comes false b c = refl

-- numbers are the same both ways round
pub turned : (a b : ℕ) → (a == b) ≡ (b == a)
turned a b = by_tests (a == b) (b == a) refl refl
  where
    by_tests : (x y : Bool) → (a == b) ≡ x → (b == a) ≡ y → x ≡ y
    by_tests true true is so = refl
    by_tests false false is so = refl
    by_tests true false is so = absurd (both_ways (b == a) so (eq-eqb b a (sym (eqb-true a b is))))
    by_tests false true is so = absurd (both_ways (a == b) is (eq-eqb a b (sym (eqb-true b a so))))

module _ (req : ℕ) where
  -- one request of all is changed
  one_ended : (place : ℕ) (new : WriteRequest) (requests : ℕ → WriteRequest) (b : Bool) → new.ended ≡ (requests place).ended || b
      → (changed_at place new requests req).ended ≡ (requests req).ended || ((place == req) && b)
  one_ended place new requests b so = by_test (req == place) refl
    where
      by_test : (c : Bool) → (req == place) ≡ c
          → (cond c new (requests req)).ended ≡ (requests req).ended || ((place == req) && b)
      by_test true is =
          so ∙ ap (λ (k : ℕ). (requests k).ended || b) (sym (eqb-true req place is))
          ∙ ap (λ (c : Bool). (requests req).ended || (c && b)) (sym (sym (turned req place) ∙ is))
      by_test false is =
          sym (ap (λ (c : Bool). (requests req).ended || (c && b)) (sym (turned req place) ∙ is) ∙ or-false (requests req).ended)

  pub and_true : (b : Bool) → (b && true) ≡ b
  and_true true = refl
  and_true false = refl

  pub and_false : (b : Bool) → (b && false) ≡ false
  and_false true = refl
  and_false false = refl

  or_true : (b : Bool) → true ≡ (b || true)
  or_true true = refl
  or_true false = refl

  pub ended_after : (event : HistEvent) (ledger : Ledger)
      → ((ledger_after ledger event).requests req).ended ≡ (ledger.requests req).ended || ends_write_of req event
  ended_after (Create disk blocks) ledger = sym (or-false (ledger.requests req).ended)
  ended_after (Copy old new) ledger = sym (or-false (ledger.requests req).ended)
  ended_after (Delete disk) ledger = sym (or-false (ledger.requests req).ended)
  ended_after (WriteStart other disk block coded bytes) ledger =
      one_ended other (record {
        places = (ledger.requests other).places ++ (disk, block) ∷ [];
        stray = (ledger.requests other).stray || not (has_block (ledger.disks disk) block);
        ended = (ledger.requests other).ended;
      }) ledger.requests false (sym (or-false (ledger.requests other).ended))
      ∙ ap (λ (b : Bool). (ledger.requests req).ended || b) (and_false (other == req))
  ended_after (WriteDone other) ledger =
      one_ended other (record (ledger.requests other) { ended = true }) ledger.requests true (or_true (ledger.requests other).ended)
      ∙ ap (λ (b : Bool). (ledger.requests req).ended || b) (and_true (other == req))
  ended_after (WriteRefused other) ledger =
      one_ended other (record (ledger.requests other) { ended = true }) ledger.requests true (or_true (ledger.requests other).ended)
      ∙ ap (λ (b : Bool). (ledger.requests req).ended || b) (and_true (other == req))
  ended_after (WriterLost other) ledger =
      one_ended other (record (ledger.requests other) { ended = true }) ledger.requests true (or_true (ledger.requests other).ended)
      ∙ ap (λ (b : Bool). (ledger.requests req).ended || b) (and_true (other == req))
  ended_after (Read disk block bytes) ledger = sym (or-false (ledger.requests req).ended)

  ended_along : (events : List HistEvent) (ledger : Ledger)
      → ((fold ledger_after ledger events).requests req).ended ≡ (ledger.requests req).ended || list_any (ends_write_of req) events
  ended_along [] ledger = sym (or-false (ledger.requests req).ended)
  ended_along (event ∷ events) ledger =
      ended_along events (ledger_after ledger event)
      ∙ ap (λ (b : Bool). b || list_any (ends_write_of req) events) (ended_after event ledger)
      ∙ or_comes (ledger.requests req).ended (ends_write_of req event) (list_any (ends_write_of req) events)

  pub ended_told : (history : List HistEvent) → ((ledger_of history).requests req).ended ≡ list_any (ends_write_of req) history
  ended_told history = ended_along history empty_ledger

  -- ---- the blocks of which it began a write

  module _ (disk block : ℕ) where
    abbrev is_here : ℕ × ℕ → Bool
    is_here place = place.0 == disk && place.1 == block

    same_places : (other : ℕ) (ledger : Ledger)
        → has_place (changed_at other (record (ledger.requests other) { ended = true }) ledger.requests req) disk block
        ≡ has_place (ledger.requests req) disk block || false
    same_places other ledger = by_test (req == other) refl ∙ sym (or-false (has_place (ledger.requests req) disk block))
      where
        by_test : (c : Bool) → (req == other) ≡ c
            → has_place (cond c (record (ledger.requests other) { ended = true }) (ledger.requests req)) disk block
            ≡ has_place (ledger.requests req) disk block
        by_test true is = ap (λ (k : ℕ). has_place (ledger.requests k) disk block) (sym (eqb-true req other is))
        by_test false is = refl

    pub place_after : (event : HistEvent) (ledger : Ledger) → has_place ((ledger_after ledger event).requests req) disk block
        ≡ has_place (ledger.requests req) disk block || begins_write_at req disk block event
    place_after (Create new blocks) ledger = sym (or-false (has_place (ledger.requests req) disk block))
    place_after (Copy old new) ledger = sym (or-false (has_place (ledger.requests req) disk block))
    place_after (Delete gone) ledger = sym (or-false (has_place (ledger.requests req) disk block))
    place_after (WriteStart other on at coded bytes) ledger = by_test (req == other) refl
      where
        stray : Bool
        stray = (ledger.requests other).stray || not (has_block (ledger.disks on) at)

        by_test : (c : Bool) → (req == other) ≡ c
            → has_place (cond c (record {
              places = (ledger.requests other).places ++ (on, at) ∷ [];
              stray = stray;
              ended = (ledger.requests other).ended;
            }) (ledger.requests req)) disk block
            ≡ has_place (ledger.requests req) disk block || (other == req && (on == disk && at == block))
        by_test true is =
            list_any-append is_here (ledger.requests other).places ((on, at) ∷ [])
            ∙ ap (λ (k : ℕ). list_any is_here (ledger.requests k).places || (is_here (on, at) || false)) (sym (eqb-true req other is))
            ∙ ap (λ (b : Bool). has_place (ledger.requests req) disk block || b) (or-false (is_here (on, at)))
            ∙ ap (λ (c : Bool). has_place (ledger.requests req) disk block || (c && (on == disk && at == block)))
            (sym (sym (turned req other) ∙ is))
        by_test false is =
            sym (ap (λ (c : Bool). has_place (ledger.requests req) disk block || (c && (on == disk && at == block)))
            (sym (turned req other) ∙ is) ∙ or-false (has_place (ledger.requests req) disk block))
    place_after (WriteDone other) ledger = same_places other ledger
    place_after (WriteRefused other) ledger = same_places other ledger
    place_after (WriterLost other) ledger = same_places other ledger
    place_after (Read from at bytes) ledger = sym (or-false (has_place (ledger.requests req) disk block))

    place_along : (events : List HistEvent) (ledger : Ledger) → has_place ((fold ledger_after ledger events).requests req) disk block
        ≡ has_place (ledger.requests req) disk block || list_any (begins_write_at req disk block) events
    place_along [] ledger = sym (or-false (has_place (ledger.requests req) disk block))
    place_along (event ∷ events) ledger =
        place_along events (ledger_after ledger event)
        ∙ ap (λ (b : Bool). b || list_any (begins_write_at req disk block) events) (place_after event ledger)
        ∙ or_comes (has_place (ledger.requests req) disk block) (begins_write_at req disk block event)
        (list_any (begins_write_at req disk block) events)

    pub place_told : (history : List HistEvent)
        → has_place ((ledger_of history).requests req) disk block ≡ list_any (begins_write_at req disk block) history
    place_told history = place_along history empty_ledger
