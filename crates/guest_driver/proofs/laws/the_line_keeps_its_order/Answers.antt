use Rattle.guest_driver.proofs.LineLemmas.{one_at_a_time, queued_behind, next_in_order, ends_in_front}
use Rattle.guest_driver.proofs.laws.the_line_keeps_its_order.Goals as goal

pub returns-clause-one : goal.returns-clause-one
returns-clause-one c = one_at_a_time

pub returns-clause-queued : goal.returns-clause-queued
returns-clause-queued c = queued_behind

pub returns-clause-next : goal.returns-clause-next
returns-clause-next c = next_in_order

pub returns-clause-ends : goal.returns-clause-ends
returns-clause-ends c = ends_in_front
