use Rattle.overlap_law.proofs.AttemptsInSteps.{attempts-grow}
use Rattle.overlap_law.proofs.KnownSteps.{known_step}
use Rattle.overlap_law.proofs.laws.an_attempt_begins_where_one_opens.Goals as goal

pub returns : goal.returns
returns c = λ script start stepping so_far next range began is by within.
    let known = known_step script range start.world began stepping is in
    attempts-grow script start stepping is known.sound known.given by so_far next within
