use Rattle.sheep_node.proofs.StepResults.{none_due_at_opening, step_not_due, put_once, step_stays_recovered}
use Rattle.sheep_node.proofs.StepLaws.{not_due}
use Rattle.sheep_node.proofs.laws.recovered_is_put_once.Goals as goal

pub returns : goal.returns
returns c = record { opens = none_due_at_opening; due = step_not_due; rests = not_due; once = put_once; stays = step_stays_recovered }
