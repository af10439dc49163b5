use Rattle.overlap_law.proofs.AttemptsOfScript.{change_of_script, attempts_of_script}
use Rattle.overlap_law.proofs.writers.each_attempt_is_for_a_request.Goals as goal

pub returns-clause-change : goal.returns-clause-change
returns-clause-change c =
    λ script start before after range began change are. change_of_script script range start before after began change are

pub returns-clause-run : goal.returns-clause-run
returns-clause-run c = λ script moves moment range is. attempts_of_script script range moves moment is
