use Rattle.std.proofs.Common.{◌≡◌, ◌<◌}
use Rattle.std.proofs.lemmas.Result.{IfOk-weaker}
use Rattle.live_cells.proofs.SeatLemmas.{drawn_after, all_below, below_seen}
use Rattle.live_cells.proofs.Outcomes.{both_ok}
use Rattle.live_cells.proofs.carry.draw_above.Goals as goal

pub returns-clause-above : goal.returns-clause-above
returns-clause-above g c =
    IfOk-weaker c.draw.result _ _
    (λ stamp most. all_below c.join_all.new.seat.seen stamp c.args.brought.now.items most c.join_all.ensures.above)
    c.draw.ensures.above

pub returns-clause-drawn : goal.returns-clause-drawn
returns-clause-drawn g c =
    IfOk-weaker c.draw.result _ _
    (λ stamp told. drawn_after c.args.clock.now.last stamp c.args.seat.now c.join_all.new.seat c.draw.new.seat c.join_all.ensures.seat
    (record { live = told.0.0; below = told.0.1; above = told.1; drawn = told.0.2 }))
    (both_ok c.draw.result _ _ c.draw.ensures.ok c.draw.ensures.above)

pub returns-clause-below : goal.returns-clause-below
returns-clause-below g c =
    IfOk-weaker c.draw.result _ _ (λ stamp told. below_seen stamp c.join_all.new.seat c.draw.new.seat told.2) c.draw.ensures.ok
