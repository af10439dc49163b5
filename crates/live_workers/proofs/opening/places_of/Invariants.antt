use Rattle.std.proofs.Common.{◌≡◌, length, map, All, None}
use Rattle.std.specs.List.{range_with_len}
use Rattle.live_workers.proofs.opening.places_of.Given as goal

-- a place for each seat so far, by its worker's number
abbrev pub invariant-loop-seat : goal.invariant-loop-seat
invariant-loop-seat g l = record {
  count : length l.places.items ≡ length l.yielded;
  workers : map (λ place. place.worker) l.places.items ≡ range_with_len 0 (length l.yielded);
  seats : map (λ place. place.seat) l.places.items ≡ l.yielded;
  new : All (λ place. (place.turn ≡ 0) × (place.begun ≡ 0) × (place.next ≡ None)) l.places.items;
}
