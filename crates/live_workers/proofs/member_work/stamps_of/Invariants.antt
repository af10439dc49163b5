use Rattle.std.proofs.Common.{◌≡◌, take}
use Rattle.live_workers.proofs.member_work.stamps_of.Given as goal

abbrev pub invariant-loop-carry : goal.invariant-loop-carry
invariant-loop-carry g l = l.stamps.items ≡ take l.carry-index l.brought
