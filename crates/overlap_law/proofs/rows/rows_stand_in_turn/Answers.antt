use Rattle.overlap_law.proofs.TurnsOfRows.{ends-in_run, one_open-in_run, apart-in_run}
use Rattle.overlap_law.proofs.rows.rows_stand_in_turn.Goals as goal

pub returns-clause-ends : goal.returns-clause-ends
returns-clause-ends c = λ script moves moment range is. ends-in_run script range moves moment is

pub returns-clause-one_open : goal.returns-clause-one_open
returns-clause-one_open c = λ script moves moment range is. one_open-in_run script range moves moment is

pub returns-clause-apart : goal.returns-clause-apart
returns-clause-apart c = λ script moves moment range is. apart-in_run script range moves moment is
