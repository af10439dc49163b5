use Rattle.overlap_law.proofs.TermsInRuns.{recovered-on_the_way, unsettled-on_the_way}
use Rattle.overlap_law.proofs.laws.the_recovered_have_all.Goals as goal

pub returns-clause-recovered : goal.returns-clause-recovered
returns-clause-recovered c = λ script moves start moment range is trail. recovered-on_the_way script range moves start moment is trail

pub returns-clause-unsettled : goal.returns-clause-unsettled
returns-clause-unsettled c = λ script moves start moment range is trail. unsettled-on_the_way script range moves start moment is trail
