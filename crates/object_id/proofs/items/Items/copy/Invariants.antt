use Rattle.std.proofs.Common.{◌≡◌, take}
use Rattle.object_id.proofs.items.Items.copy.Given as goal

abbrev pub invariant-loop-item : goal.invariant-loop-item
invariant-loop-item g l = l.copy.items ≡ take l.item-index l.item-items
