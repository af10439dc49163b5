use Rattle.std.proofs.Common.{◌≡◌, ◌++◌, take, filter}
use Rattle.sheep_world.specs.RepliesInParts.{is_written_check}
use Rattle.sheep_world.proofs.world_state.WorldState.add_written_among.Given as goal

-- those so far that have come to a write stand behind the first ones
abbrev pub invariant-loop-req : goal.invariant-loop-req
invariant-loop-req l = l.written ≡ l.fn.written ++ filter (is_written_check l.script l.self) (take l.req-index l.checks)
