use Rattle.schedule.proofs.WholeLaws.{schedule-is-whole}
use Rattle.schedule.proofs.laws.a_schedule_is_a_whole_run.Goals as goal

pub returns : goal.returns
returns c = schedule-is-whole
