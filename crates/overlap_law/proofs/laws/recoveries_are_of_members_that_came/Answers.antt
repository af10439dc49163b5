use Rattle.overlap_law.proofs.TermsInRuns.{present-on_the_way, answered-on_the_way}
use Rattle.overlap_law.proofs.laws.recoveries_are_of_members_that_came.Goals as goal

pub returns-clause-present : goal.returns-clause-present
returns-clause-present c = λ script moves start moment range is trail. present-on_the_way script range moves start moment is trail

pub returns-clause-answered : goal.returns-clause-answered
returns-clause-answered c = λ script moves start moment range is trail. answered-on_the_way script range moves start moment is trail
