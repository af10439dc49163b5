use Rattle.std.proofs.Common.{◌≡◌}
use Rattle.stamp_clock.specs.Seat.{new_seats}
use Rattle.stamp_clock.proofs.clock.seats_from.Given as goal

abbrev pub invariant-loop : goal.invariant-loop
invariant-loop l = l.seats.items ≡ new_seats l.fn.word.table_id l.counter
