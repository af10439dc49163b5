use Rattle.std.proofs.Common.{◌≡◌, ◌+◌, ◌-◌, ◌∙◌, ap, get_or}
use Rattle.stamp_clock.specs.Stamps.{seats_max}
use Rattle.stamp_clock.specs.Seat.{new_seat}
use Rattle.stamp_clock.proofs.SeatLemmas.{new_seats_more}
use Rattle.stamp_clock.proofs.clock.seats_from.Goals as goal

pub loop-preserved : goal.loop-preserved
loop-preserved c =
    let clock = c.args.word.now.table_id in
    let first : c.index_mut.result.now ≡ new_seat clock (seats_max + 1 - c.loop.counter) =
    c.index_mut.ensures.value ∙ ap (λ seats. get_or seats 0 c.index_mut.result.now) c.loop.invariant in
    rw (c.in_ok-push-2.ensures.items, c.loop.invariant, c.split-seat.ensures.left, c.split-seat.ensures.seat, first)
    (new_seats_more clock c.loop.counter c.loop.auto.counter)
