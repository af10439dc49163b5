use Rattle.std.proofs.Common.{◌≡◌, ◌++◌}
use Rattle.disk_history.specs.declared.event.HistEvent.TheVariants.{Read}
use Rattle.sheep_world.proofs.HistoryBlocks.{first_blocks}
use Rattle.sheep_world.proofs.history_blocks.add_reads.Given as goal

-- so many blocks have their events
abbrev pub invariant-loop-place : goal.invariant-loop-place
invariant-loop-place l = l.events ≡ l.fn.events ++ first_blocks (λ block piece. Read l.disk block piece) l.offset l.bytes l.place
