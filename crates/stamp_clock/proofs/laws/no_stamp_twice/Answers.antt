use Rattle.std.proofs.Common.{subst}
use Rattle.stamp_clock.specs.Stamps.{HasNoneTwice}
use Rattle.stamp_clock.specs.Seat.{SeatState}
use Rattle.stamp_clock.proofs.TimesLemmas.{parts_apart}
use Rattle.stamp_clock.proofs.laws.no_stamp_twice.Goals as goal

pub returns-clause-apart : goal.returns-clause-apart
returns-clause-apart c =
    let P : SeatState → Type 0 = λ seat. HasNoneTwice seat.mine in
    parts_apart c.args.seat.now.mine c.args.other.mine (subst P c.join.ensures.joined c.join.ensures.once)
