-- What has to hold of a change between two moments where it replies to a check: the blocks that the check wrote are alone.
use Rattle.std.specs.Prelude.{◌≡◌, ◌≢◌, ℕ, Bool, true, false, List, Contains}
use Rattle.std.specs.Option.{option_map_or}
use Rattle.cluster_script.specs.declared.statement.Statement.{Statement}
use Rattle.cluster_script.specs.NumberedRequests.{request_at}
use Rattle.cluster_script.specs.Statements.{is_check}
use Rattle.peer_proto.specs.declared.guest.GuestRsp.{GuestRsp}
use Rattle.vdi_directory.specs.Decisions.{log_effects}
use Rattle.sheep_node.specs.StepState.{StepState}
use Rattle.overlap_law.specs.Headline.{ledger_of}
use Rattle.overlap_law.specs.Past.{MomentWithPast}
use Rattle.overlap_law.specs.PastWords.{is_refusal}
use Rattle.overlap_law.specs.StayingBlocks.{IsAloneWhereWritten}
use Rattle.overlap_law.specs.StepMoments.{SteppingNode, IsStepping, StepsByChanges, IsWithinStep, moment_in_step}

-- a check is alone where it was written, in the middle of whatever step of an event, to which the step replies by one change, and doesn't
-- refuse it
abbrev pub RepliesToChecksAreAlone : List Statement → (ℕ → Bool) → MomentWithPast → MomentWithPast → MomentWithPast → Type 0
RepliesToChecksAreAlone script good_id start before after = (stepping : SteppingNode) (so_far next : StepState)
    → IsStepping script start.world stepping → StepsByChanges stepping.cause → IsWithinStep stepping so_far next
    → before ≡ moment_in_step script stepping start so_far → after ≡ moment_in_step script stepping start next
    → (reply : ℕ × GuestRsp) → Contains next.outputs.replies reply
    → ((one : ℕ × GuestRsp) → Contains so_far.outputs.replies one → one.0 ≢ reply.0) → is_refusal reply.1 ≡ false
    → option_map_or is_check (request_at script reply.0) false ≡ true
    → IsAloneWhereWritten (log_effects after.world.log) good_id after.world.hosts after.past.attempts (ledger_of before.past.history)
    reply.0
