-- Each attempt is of a work that there may be.
use Rattle.std.specs.Prelude.{List}
use Rattle.peer_proto.specs.Work.{IsWork}
use Rattle.overlap_law.specs.Attempts.{AttemptRecord}
use Rattle.overlap_law.specs.Each.{EachAttempt}

-- its piece ends inside the object, and goes by whole parts where rows are strips
pub record AttemptsAreOfWorks (attempts : List AttemptRecord) : Type 0 where
  pub each : EachAttempt attempts (λ j attempt. IsWork attempt.work)
