use Rattle.std.proofs.Common.{◌∙◌}
use Rattle.sheep_world.proofs.CheckHistory.{first_checked-more}
use Rattle.sheep_world.proofs.check_history.add_blocks_checked.Goals as goal

pub loop-place-preserved : goal.loop-place-preserved
loop-place-preserved c =
    c.in_ok-add_block_checked.ensures
    ∙ first_checked-more c.args.write.now c.loop-place.place c.args.events.now c.loop-place.events c.loop-place.invariant
