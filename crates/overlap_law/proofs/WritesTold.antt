-- What a ledger keeps of a write request is told by the events of its history: whether it began to write. And it is stray only if it began
-- a write of a block that wasn't there.
use Rattle.std.proofs.Common.{◌≡◌, ℕ, ◌==◌, ◌&&◌, ◌||◌, not, Bool, true, false, cond, List, [], ◌∷◌, ◌++◌, fold, refl, sym, ap, ◌∙◌}
use Rattle.std.specs.List.{list_any}
use Rattle.std.proofs.Math.Bool.{or-false}
use Rattle.std.proofs.lemmas.Bool.{both_ways, eqb-true, or_parts}
use Rattle.disk_history.specs.declared.event.HistEvent.{HistEvent}
use Rattle.disk_history.specs.declared.event.HistEvent.TheVariants.{Create, Copy, Delete, WriteStart, WriteDone, WriteRefused, WriterLost}
use Rattle.disk_history.specs.declared.event.HistEvent.TheVariants.{Read}
use Rattle.disk_history.specs.Ledger.{WriteRequest, Ledger, empty_ledger, changed_at, has_block, with_ended_request, ledger_after}
use Rattle.disk_history.specs.Legal.{has_begun_to_write}
use Rattle.overlap_law.specs.Headline.{ledger_of}
use Rattle.overlap_law.proofs.ItemsOfRequests.{begins_write_of}
use Rattle.overlap_law.proofs.RequestsTold.{or_comes, turned, and_true, and_false}

always : (b : Bool) → true ≡ (b || true)
always true = refl
always false = refl

-- whoever began one more write began to write
begins : (places : List (ℕ × ℕ)) (place : ℕ × ℕ) (stray ended : Bool)
    → has_begun_to_write (record { places = places ++ place ∷ []; stray = stray; ended = ended }) ≡ true
begins [] place stray ended = refl
begins (first ∷ later) place stray ended = refl

module _ (req : ℕ) where
  module _ (told : WriteRequest → Bool) where
    -- one request of all is changed
    one_changed : (place : ℕ) (new : WriteRequest) (requests : ℕ → WriteRequest) (b : Bool) → told new ≡ told (requests place) || b
        → told (changed_at place new requests req) ≡ told (requests req) || ((place == req) && b)
    one_changed place new requests b so = by_test (req == place) refl
      where
        by_test : (c : Bool) → (req == place) ≡ c → told (cond c new (requests req)) ≡ told (requests req) || ((place == req) && b)
        by_test true is =
            so ∙ ap (λ (k : ℕ). told (requests k) || b) (sym (eqb-true req place is))
            ∙ ap (λ (c : Bool). told (requests req) || (c && b)) (sym (sym (turned req place) ∙ is))
        by_test false is =
            sym (ap (λ (c : Bool). told (requests req) || (c && b)) (sym (turned req place) ∙ is) ∙ or-false (told (requests req)))

    -- an end changes nothing else
    same_ended : (other : ℕ) (requests : ℕ → WriteRequest) → ((r : WriteRequest) → told (record r { ended = true }) ≡ told r)
        → told (with_ended_request other requests req) ≡ told (requests req) || false
    same_ended other requests same =
        one_changed other (record (requests other) { ended = true }) requests false
        (same (requests other) ∙ sym (or-false (told (requests other))))
        ∙ ap (λ (b : Bool). told (requests req) || b) (and_false req (other == req))

  -- ---- whether it began to write

  pub begun_after : (event : HistEvent) (ledger : Ledger) → has_begun_to_write ((ledger_after ledger event).requests req)
      ≡ has_begun_to_write (ledger.requests req) || begins_write_of req event
  begun_after (Create disk blocks) ledger = sym (or-false (has_begun_to_write (ledger.requests req)))
  begun_after (Copy old new) ledger = sym (or-false (has_begun_to_write (ledger.requests req)))
  begun_after (Delete disk) ledger = sym (or-false (has_begun_to_write (ledger.requests req)))
  begun_after (WriteStart other disk block coded bytes) ledger =
      one_changed (λ (r : WriteRequest). has_begun_to_write r) other (record {
        places = (ledger.requests other).places ++ (disk, block) ∷ [];
        stray = (ledger.requests other).stray || not (has_block (ledger.disks disk) block);
        ended = (ledger.requests other).ended;
      }) ledger.requests true
      (begins (ledger.requests other).places (disk, block)
      ((ledger.requests other).stray || not (has_block (ledger.disks disk) block)) (ledger.requests other).ended
      ∙ always (has_begun_to_write (ledger.requests other)))
      ∙ ap (λ (b : Bool). has_begun_to_write (ledger.requests req) || b) (and_true req (other == req))
  begun_after (WriteDone other) ledger = same_ended (λ (r : WriteRequest). has_begun_to_write r) other ledger.requests (λ r. refl)
  begun_after (WriteRefused other) ledger = same_ended (λ (r : WriteRequest). has_begun_to_write r) other ledger.requests (λ r. refl)
  begun_after (WriterLost other) ledger = same_ended (λ (r : WriteRequest). has_begun_to_write r) other ledger.requests (λ r. refl)
  begun_after (Read disk block bytes) ledger = sym (or-false (has_begun_to_write (ledger.requests req)))

  pub begun_along : (events : List HistEvent) (ledger : Ledger) → has_begun_to_write ((fold ledger_after ledger events).requests req)
      ≡ has_begun_to_write (ledger.requests req) || list_any (begins_write_of req) events
  begun_along [] ledger = sym (or-false (has_begun_to_write (ledger.requests req)))
  begun_along (event ∷ events) ledger =
      begun_along events (ledger_after ledger event)
      ∙ ap (λ (b : Bool). b || list_any (begins_write_of req) events) (begun_after event ledger)
      ∙ or_comes (has_begun_to_write (ledger.requests req)) (begins_write_of req event) (list_any (begins_write_of req) events)

  pub begun_told : (history : List HistEvent)
      → has_begun_to_write ((ledger_of history).requests req) ≡ list_any (begins_write_of req) history
  begun_told history = begun_along history empty_ledger

  -- ---- whether it is stray

  abbrev pub IsOnDisks : Ledger → Type 0
  IsOnDisks ledger = (ledger.requests req).stray ≡ false

  ended_on : (other : ℕ) (ledger : Ledger) → IsOnDisks ledger → (with_ended_request other ledger.requests req).stray ≡ false
  ended_on other ledger on =
      same_ended (λ (r : WriteRequest). r.stray) other ledger.requests (λ r. refl) ∙ or-false (ledger.requests req).stray ∙ on

  -- a write of another request begins
  other_on : (other disk block : ℕ) (coded : Bool) (bytes : List ℕ) (ledger : Ledger) → (other == req) ≡ false → IsOnDisks ledger
      → IsOnDisks (ledger_after ledger (WriteStart other disk block coded bytes))
  other_on other disk block coded bytes ledger apart on = by_test (req == other) refl
    where
      stray : Bool
      stray = (ledger.requests other).stray || not (has_block (ledger.disks disk) block)

      by_test : (c : Bool) → (req == other) ≡ c → (cond c (record {
        places = (ledger.requests other).places ++ (disk, block) ∷ [];
        stray = stray;
        ended = (ledger.requests other).ended;
      }) (ledger.requests req)).stray ≡ false
      by_test true is = absurd (both_ways (other == req) apart (sym (turned req other) ∙ is))
      by_test false is = on

  on_after : (event : HistEvent) (ledger : Ledger) → begins_write_of req event ≡ false → IsOnDisks ledger
      → IsOnDisks (ledger_after ledger event)
  on_after (Create disk blocks) ledger none on = on
  on_after (Copy old new) ledger none on = on
  on_after (Delete disk) ledger none on = on
  on_after (WriteStart other disk block coded bytes) ledger none on = other_on other disk block coded bytes ledger none on
  on_after (WriteDone other) ledger none on = ended_on other ledger on
  on_after (WriteRefused other) ledger none on = ended_on other ledger on
  on_after (WriterLost other) ledger none on = ended_on other ledger on
  on_after (Read disk block bytes) ledger none on = on

  -- it is so as long as it begins no write
  pub on_along : (events : List HistEvent) (ledger : Ledger) → list_any (begins_write_of req) events ≡ false → IsOnDisks ledger
      → IsOnDisks (fold ledger_after ledger events)
  on_along [] ledger none on = on
  on_along (event ∷ events) ledger none on =
      let parts = or_parts (begins_write_of req event) (list_any (begins_write_of req) events) none in
      on_along events (ledger_after ledger event) parts.1 (on_after event ledger parts.0 on)

  -- and as it begins one of a block that is there
  pub on_begins : (disk block : ℕ) (coded : Bool) (bytes : List ℕ) (ledger : Ledger) → has_block (ledger.disks disk) block ≡ true
      → IsOnDisks ledger → IsOnDisks (ledger_after ledger (WriteStart req disk block coded bytes))
  on_begins disk block coded bytes ledger there on = by_test (req == req)
    where
      now : Bool
      now = (ledger.requests req).stray || not (has_block (ledger.disks disk) block)

      now_on : now ≡ false
      now_on = (λ i. on i || not (there i))

      by_test : (c : Bool) → (cond c (record {
        places = (ledger.requests req).places ++ (disk, block) ∷ [];
        stray = now;
        ended = (ledger.requests req).ended;
      }) (ledger.requests req)).stray ≡ false
      by_test true = now_on
      by_test false = on
