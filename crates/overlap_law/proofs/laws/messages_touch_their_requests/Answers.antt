use Rattle.overlap_law.proofs.TouchedInRuns.{due-within, touched-in_run, losers-in_run}
use Rattle.overlap_law.proofs.laws.messages_touch_their_requests.Goals as goal

pub returns-clause-within : goal.returns-clause-within
returns-clause-within c = λ script moves start moment range is trail. due-within script range moves start moment is trail

pub returns-clause-served : goal.returns-clause-served
returns-clause-served c = λ script moves moment range is. touched-in_run script range moves moment is

pub returns-clause-lost : goal.returns-clause-lost
returns-clause-lost c = λ script moves moment range is. losers-in_run script range moves moment is
