use Rattle.overlap_law.proofs.RangeOfFewObjects.{replies_told}
use Rattle.overlap_law.proofs.RangeOfRuns.{works_ask, nodes_sound}
use Rattle.overlap_law.proofs.laws.what_works_ask_can_be_spelled.Goals as goal

pub returns-clause-asked : goal.returns-clause-asked
returns-clause-asked c = λ script is_script grows world began.
    works_ask script is_script grows (replies_told script is_script grows) world began

pub returns-clause-nodes : goal.returns-clause-nodes
returns-clause-nodes c = λ script is_script grows world began node host there.
    nodes_sound script is_script grows (replies_told script is_script grows) world began node host there
