use Rattle.std.proofs.Common.{◌≡◌, ◌<◌, ℕ, subst}
use Rattle.live_cells.proofs.SeatLemmas.{informed, above_note}
use Rattle.live_cells.proofs.carry.Carry.join.Goals as goal

pub returns-clause-above : goal.returns-clause-above
returns-clause-above g c =
    subst (λ (stamp : ℕ). stamp < c.learn.new.seat.seen) c.self.view_is
    (above_note c.args.seat.now c.self.inside.note.seen c.learn.new.seat c.learn.ensures c.self.inside.stamp c.self.invariant.1)

pub returns-clause-seat : goal.returns-clause-seat
returns-clause-seat g c = informed c.args.seat.now c.self.inside.note.seen c.learn.new.seat c.learn.ensures

pub returns-clause-seen : goal.returns-clause-seen
returns-clause-seen g c = (informed c.args.seat.now c.self.inside.note.seen c.learn.new.seat c.learn.ensures).seen

pub returns-clause-clock : goal.returns-clause-clock
returns-clause-clock g c = (informed c.args.seat.now c.self.inside.note.seen c.learn.new.seat c.learn.ensures).clock
