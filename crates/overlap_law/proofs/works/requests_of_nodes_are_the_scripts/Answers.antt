use Rattle.overlap_law.proofs.CoursesOfScript.{requests-in_run}
use Rattle.overlap_law.proofs.works.requests_of_nodes_are_the_scripts.Goals as goal

pub returns : goal.returns
returns c = λ script moves moment range is. requests-in_run script range moves moment is
