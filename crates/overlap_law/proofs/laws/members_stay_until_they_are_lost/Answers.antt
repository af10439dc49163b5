use Rattle.overlap_law.proofs.TermsInRuns.{stayed-on_the_way, left-on_the_way}
use Rattle.overlap_law.proofs.laws.members_stay_until_they_are_lost.Goals as goal

pub returns-clause-stayed : goal.returns-clause-stayed
returns-clause-stayed c = λ script moves start moment range is trail. stayed-on_the_way script range moves start moment is trail

pub returns-clause-left : goal.returns-clause-left
returns-clause-left c = λ script moves start moment range is trail. left-on_the_way script range moves start moment is trail
