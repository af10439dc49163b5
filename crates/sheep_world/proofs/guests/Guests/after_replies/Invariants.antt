use Rattle.std.proofs.Common.{◌≡◌, fold, take}
use Rattle.sheep_world.specs.NodeSteps.{progress_after_reply}
use Rattle.sheep_world.proofs.guests.Guests.after_replies.Given as goal

-- the replies so far have made of the first sessions what there is
abbrev pub invariant-loop-reply : goal.invariant-loop-reply
invariant-loop-reply l = l.self ≡ fold (progress_after_reply l.script) l.fn.self (take l.reply-index l.replies)
