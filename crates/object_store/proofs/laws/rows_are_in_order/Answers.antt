use Rattle.object_store.proofs.OrderLaws.{orderly-rows_after, there-rows_after}
use Rattle.object_store.proofs.laws.rows_are_in_order.Goals as goal

pub returns : goal.returns
returns c = record { last = orderly-rows_after; there = there-rows_after }
