use Rattle.std.proofs.Common.{◌≡◌, ℕ, ◌+◌, ◌++◌, [], ◌∷◌, List, length, map, None, rules, sym, ap, ◌∙◌}
use Rattle.std.specs.List.{range_with_len}
use Rattle.std.proofs.lemmas.List.Elements.{All-same, All-push}
use Rattle.stamp_clock.specs.Seat.{SeatState}
use Rattle.live_workers.specs.declared.place.Place.{Place}
use Rattle.live_workers.proofs.PlaceLists.{numbers_more, length_more, list_more}
use Rattle.live_workers.proofs.opening.places_of.Goals as goal

pub loop-seat-preserved : goal.loop-seat-preserved
loop-seat-preserved g c =
    let P : Type 0 = Place g.row.N.Denot g.N.ClockName in
    let items = c.in_ok-push.ensures.items in record {
      count =
          ap (λ (list : List P). length list) items ∙ length_more c.loop-seat.places.items c.new.result
          ∙ ap (λ (n : ℕ). n + 1) c.loop-seat.invariant.count ∙ sym (length_more c.loop-seat.yielded c.in-Some.seat);
      workers =
          ap (λ (list : List P). map (λ (place : P). place.worker) list) items
          ∙ numbers_more {X = P} (λ place. place.worker) c.loop-seat.places.items c.new.result (length c.loop-seat.yielded)
          c.loop-seat.invariant.workers (search rules)
          ∙ ap (range_with_len 0) (sym (length_more c.loop-seat.yielded c.in-Some.seat));
      seats =
          ap (λ (list : List P). map (λ (place : P). place.seat) list) items
          ∙ list_more {X = P} {Y = SeatState} (λ place. place.seat) c.loop-seat.places.items c.new.result c.loop-seat.yielded c.in-Some.seat
          c.loop-seat.invariant.seats c.new.ensures.seat;
      new =
          All-same {X = P} (λ place. (place.turn ≡ 0) × (place.begun ≡ 0) × (place.next ≡ None)) c.push.new.self.items
          (c.loop-seat.places.items ++ c.new.result ∷ []) items
          (All-push {X = P} (λ place. (place.turn ≡ 0) × (place.begun ≡ 0) × (place.next ≡ None)) c.loop-seat.places.items c.new.result
          c.loop-seat.invariant.new (search rules));
    }
