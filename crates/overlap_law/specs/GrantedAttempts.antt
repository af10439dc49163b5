-- The attempts of a request on an id that its session may write are of the epoch of the grant or later, as long as the request may still
-- make something.
use Rattle.std.specs.Prelude.{◌≡◌, ◌≤◌, Bool, true, false, List, Some}
use Rattle.std.specs.FinMap as tree
use Rattle.object_id.specs.declared.entry.Entry.{Entry}
use Rattle.object_id.specs.Oid.{vid_of}
use Rattle.vdi_directory.specs.Decisions.{log_effects}
use Rattle.vdi_ops.specs.Op.{OpStage, Asked, Working, Publishing, Answered}
use Rattle.sheep_node.specs.declared.course.Course.{Course}
use Rattle.sheep_node.specs.declared.course.Course.TheVariants.{Waiting, Driving, Commanding, Checking, DoingWork, AwaitingDecision}
use Rattle.sheep_node.specs.declared.course.Request.{Request}
use Rattle.overlap_law.specs.Attempts.{AttemptRecord, object_of}
use Rattle.overlap_law.specs.Words.{Hosts}
use Rattle.overlap_law.specs.Each.{EachUp, EachAttempt}
use Rattle.overlap_law.specs.Grants.{granted_in, writer_of}
use Rattle.overlap_law.specs.Writers.{session_holder}

-- whether a command has made all that it makes: it publishes that, or has its reply
abbrev pub is_past_works : OpStage → Bool
is_past_works (Asked entry) = false
is_past_works (Working vid task) = false
is_past_works (Publishing entry made) = true
is_past_works (Answered change) = true

-- whether a request has; a read, a write or a check has made all only with its reply
abbrev pub has_made_all : Course → Bool
has_made_all (Waiting ask) = false
has_made_all (Driving driver) = false
has_made_all (Commanding op) = is_past_works op.stage
has_made_all (Checking check) = false
has_made_all (DoingWork work) = false
has_made_all (AwaitingDecision entry) = false

-- the attempts of a request that hasn't made all are under the grant, on each id that its session may write
pub record AttemptsAreUnderTheGrant (log : List Entry) (hosts : Hosts) (attempts : List AttemptRecord) : Type 0 where
  pub each : EachUp hosts (λ n node. EachAttempt attempts (λ j attempt. attempt.gateway.0 ≡ n → (request : Request)
      → tree.get node.requests attempt.req ≡ Some request → has_made_all request.course ≡ false
      → writer_of (log_effects log) (vid_of (object_of attempt)) ≡ Some (session_holder n request.session)
      → granted_in log (vid_of (object_of attempt)) ≤ attempt.epoch))
