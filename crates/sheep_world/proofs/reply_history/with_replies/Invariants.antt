use Rattle.std.proofs.Common.{◌≡◌, ◌++◌, take, flat_map}
use Rattle.sheep_world.specs.RepliesInParts.{reply_events}
use Rattle.sheep_world.proofs.reply_history.with_replies.Given as goal

-- what the replies so far add
abbrev pub invariant-loop-req : goal.invariant-loop-req
invariant-loop-req l = l.events ≡ l.fn.earlier ++ flat_map (reply_events l.script l.guests l.written l.write) (take l.req-index l.replies)
