-- What a refused work leaves in the outbox.
use Rattle.std.proofs.Common.{◌≡◌, ℕ, [], ◌∷◌, ◌++◌, ap}
use Rattle.object_id.specs.declared.cause.Cause.{Cause}
use Rattle.object_id.specs.declared.oid.Vid.{Vid}
use Rattle.object_id.specs.declared.entry.Entry.TheVariants as entries
use Rattle.vdi_ops.specs.Op.{Op, OpStage, Task, Working}
use Rattle.vdi_ops.specs.Steps.{refused_at, on_refusal}
use Rattle.sheep_node.specs.declared.course.Course.TheVariants.{Commanding}
use Rattle.sheep_node.specs.StepState.{StepState, request_ended}
use Rattle.sheep_node.specs.RequestWorks.{command_refused, course_refused}

pub refused_work-outbox : (number req : ℕ) (cause : Cause) (op : Op) (vid : Vid) (task : Task) (so_far : StepState)
    → op.stage ≡ Working vid task
    → (course_refused number req cause (Commanding op) so_far).node.outbox
    ≡ so_far.node.outbox ++ entries.Unlock op.by op.session vid ∷ []
unfolding on_refusal request_ended
refused_work-outbox number req cause op vid task so_far working =
    ap (λ (stage : OpStage). (command_refused number req (refused_at cause op stage) so_far).node.outbox) working
