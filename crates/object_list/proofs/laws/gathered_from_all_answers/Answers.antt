use Rattle.object_list.proofs.GatheredLemmas.{waiting_after, waits_for_after, in_order_after, finished_after, ascending_after, objects_after}
use Rattle.object_list.proofs.laws.gathered_from_all_answers.Goals as goal

pub returns-clause-waiting : goal.returns-clause-waiting
returns-clause-waiting c = waiting_after

pub returns-clause-waits_for : goal.returns-clause-waits_for
returns-clause-waits_for c = waits_for_after

pub returns-clause-in_order : goal.returns-clause-in_order
returns-clause-in_order c = in_order_after

pub returns-clause-finished : goal.returns-clause-finished
returns-clause-finished c = finished_after

pub returns-clause-ascending : goal.returns-clause-ascending
returns-clause-ascending c = ascending_after

pub returns-clause-objects : goal.returns-clause-objects
returns-clause-objects c = objects_after
