-- What holds of a step's state whenever a request ends, and whatever is put into the outbox, holds after the refusal of a work.
use Rattle.std.proofs.Common.{ℕ, Option, Some, None}
use Rattle.std.specs.Option.{option_map_or}
use Rattle.object_id.specs.declared.cause.Cause.{Cause}
use Rattle.object_id.specs.declared.entry.Entry.{Entry}
use Rattle.peer_proto.specs.declared.guest.GuestRsp.{GuestRsp}
use Rattle.peer_proto.specs.declared.guest.GuestRsp.TheVariants.{Refused}
use Rattle.vdi_ops.specs.declared.end.OpEnd.{OpEnd}
use Rattle.vdi_ops.specs.Steps.{on_refusal}
use Rattle.sheep_node.specs.declared.course.Course.{Course}
use Rattle.sheep_node.specs.declared.course.Request.{Request}
use Rattle.sheep_node.specs.declared.course.Course.TheVariants.{Waiting, Driving, Commanding, Checking, DoingWork, AwaitingDecision}
use Rattle.sheep_node.specs.StepState.{StepState, with_optional_entry, request_ended}
use Rattle.sheep_node.specs.RequestWorks.{command_refused, course_refused}

-- where what holds of the step's state may speak of the request that ends
module _ (req : ℕ) (P : StepState → Type 0)
    (ended : (session : ℕ) (reply : GuestRsp) (so_far : StepState) → P so_far → P (request_ended session req reply so_far))
    (put : (entry : Option Entry) (so_far : StepState) → P so_far → P (with_optional_entry entry so_far)) where
  pub this_refused-keeps : (session : ℕ) (cause : Cause) (course : Course) (so_far : StepState) → P so_far
      → P (course_refused session req cause course so_far)
  this_refused-keeps session cause (Waiting ask) so_far now = now
  this_refused-keeps session cause (Driving driver) so_far now = ended session (Refused cause) so_far now
  this_refused-keeps session cause (Commanding op) so_far now = by_end (on_refusal cause op)
    where
      by_end : (end : Option OpEnd) → P (command_refused session req end so_far)
      by_end None = now
      by_end (Some end) = ended session end.reply (with_optional_entry end.unlock so_far) (put end.unlock so_far now)
  this_refused-keeps session cause (Checking check) so_far now = ended session (Refused cause) so_far now
  this_refused-keeps session cause (DoingWork work) so_far now = ended session (Refused cause) so_far now
  this_refused-keeps session cause (AwaitingDecision entry) so_far now = now

  -- of a request that was looked up
  pub this_if_there-keeps : (cause : Cause) (request : Option Request) (so_far : StepState) → P so_far
      → P (option_map_or (λ (request : Request). course_refused request.session req cause request.course so_far) request so_far)
  this_if_there-keeps cause None so_far now = now
  this_if_there-keeps cause (Some request) so_far now = this_refused-keeps request.session cause request.course so_far now

module _ (P : StepState → Type 0)
    (ended : (session req : ℕ) (reply : GuestRsp) (so_far : StepState) → P so_far → P (request_ended session req reply so_far))
    (put : (entry : Option Entry) (so_far : StepState) → P so_far → P (with_optional_entry entry so_far)) where
  pub course_refused-keeps : (session req : ℕ) (cause : Cause) (course : Course) (so_far : StepState) → P so_far
      → P (course_refused session req cause course so_far)
  course_refused-keeps session req = this_refused-keeps req P (λ session. ended session req) put session

  -- of a request that was looked up
  pub request_refused-keeps : (req : ℕ) (cause : Cause) (request : Option Request) (so_far : StepState) → P so_far
      → P (option_map_or (λ (request : Request). course_refused request.session req cause request.course so_far) request so_far)
  request_refused-keeps req = this_if_there-keeps req P (λ session. ended session req) put
