use Rattle.std.proofs.Common.{◌∙◌}
use Rattle.disk_history.specs.declared.event.HistEvent.TheVariants.{Read}
use Rattle.sheep_world.proofs.HistoryBlocks.{first_blocks-more}
use Rattle.sheep_world.proofs.history_blocks.add_reads.Goals as goal

pub loop-place-preserved : goal.loop-place-preserved
loop-place-preserved c =
    c.in_ok-push.ensures.ok
    ∙ first_blocks-more (λ block piece. Read c.args.disk block piece) c.args.offset c.args.bytes.now c.loop-place.place c.args.events.now
    c.loop-place.events c.in_ok-block_in.field-0 c.in_ok-block_in.ensures c.loop-place.invariant
