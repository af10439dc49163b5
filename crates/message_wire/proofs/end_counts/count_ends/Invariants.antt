use Rattle.std.proofs.Common.{take}
use Rattle.message_wire.specs.NodeSet.{AreEndCounts}
use Rattle.message_wire.proofs.end_counts.count_ends.Given as goal

-- those among the messages that were looked at are counted
abbrev pub invariant-loop-message : goal.invariant-loop-message
invariant-loop-message l = AreEndCounts (take l.message-index l.messages) l.ends
