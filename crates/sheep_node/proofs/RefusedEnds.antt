-- How a request ends whose work is refused, by its course and by what the code tells of that.
use Rattle.std.proofs.Common.{◌≡◌, ℕ, false, List, Option, Some, None, is_some, Result, OnOk, refl, sym, ap, subst, ◌∙◌}
use Rattle.std.specs.Option.{option_map, option_map_or}
use Rattle.std.proofs.lemmas.List.{append-nil}
use Rattle.std.proofs.lemmas.Option.{same_Some}
use Rattle.object_id.specs.declared.cause.Cause.{Cause}
use Rattle.object_id.specs.declared.entry.Entry.{Entry}
use Rattle.peer_proto.specs.declared.guest.GuestRsp.TheVariants.{Refused}
use Rattle.vdi_ops.specs.declared.end.OpEnd.{OpEnd}
use Rattle.vdi_ops.specs.Op.{Op, OpStage, Asked, Working, Publishing, Answered, op_bytes_wanted, op_stage_bytes}
use Rattle.vdi_ops.specs.Op.{Opening, WritingBack, Tagging, Copying, Making}
use Rattle.vdi_ops.specs.Steps.{refused_at, on_refusal}
use Rattle.sheep_node.specs.declared.course.Course.{Course}
use Rattle.sheep_node.specs.declared.course.Request.{Request}
use Rattle.sheep_node.specs.declared.course.Course.TheVariants.{Waiting, Driving, Commanding, Checking, DoingWork, AwaitingDecision}
use Rattle.sheep_node.specs.Kept.{end_on_refusal, end_of_refused}
use Rattle.sheep_node.specs.StepState.{StepState, request_ended, with_optional_entry}
use Rattle.sheep_node.specs.RequestWorks.{command_refused, course_refused}

-- a command that waits for no work has no such end
pub no_end : (cause : Cause) (op : Op) → is_some (op_bytes_wanted op) ≡ false → on_refusal cause op ≡ None
unfolding on_refusal
no_end cause op = by_stage op.stage
  where
    by_stage : (stage : OpStage) → is_some (op_stage_bytes stage) ≡ false → refused_at cause op stage ≡ None
    by_stage (Asked entry) none = refl
    by_stage (Working vid (Opening snapshot ids header)) none = absurd (cc (none))
    by_stage (Working vid (WritingBack inode)) none = absurd (cc (none))
    by_stage (Working vid (Tagging old inode)) none = absurd (cc (none))
    by_stage (Working vid (Copying ids header)) none = absurd (cc (none))
    by_stage (Working vid (Making entry opened)) none = absurd (cc (none))
    by_stage (Publishing entry opened) none = refl
    by_stage (Answered change) none = refl

nothing_put : (so_far : StepState) → with_optional_entry None so_far ≡ so_far
nothing_put so_far =
    ap (λ (outbox : List Entry). record so_far { node = record so_far.node { outbox = outbox } }) (append-nil so_far.node.outbox)

ended : (number req : ℕ) (cause : Cause) (so_far : StepState)
    → command_refused number req (Some (record { unlock = None; reply = Refused cause })) so_far
    ≡ request_ended number req (Refused cause) so_far
ended number req cause so_far = ap (request_ended number req (Refused cause)) (nothing_put so_far)

-- that end is the course's
by_end : (number req : ℕ) (cause : Cause) (course : Course) (so_far : StepState)
    → command_refused number req (end_on_refusal cause course) so_far ≡ course_refused number req cause course so_far
by_end number req cause (Waiting ask) so_far = refl
by_end number req cause (Driving driver) so_far = ended number req cause so_far
by_end number req cause (Commanding op) so_far = refl
by_end number req cause (Checking check) so_far = ended number req cause so_far
by_end number req cause (DoingWork work) so_far = ended number req cause so_far
by_end number req cause (AwaitingDecision entry) so_far = refl

-- and so it is of a request that was looked up
pub found_ends : {A E : Type 0} (req number : ℕ) (cause : Cause) (end : OpEnd) (found : Option Request) (so_far new : StepState)
    (answer : Result A E) → end_of_refused cause found ≡ Some (number, end)
    → OnOk answer (new ≡ command_refused number req (Some end) so_far)
    → OnOk answer (new ≡ option_map_or (λ (request : Request). course_refused request.session req cause request.course so_far) found so_far)
found_ends req number cause end None so_far new answer is now = absurd (cc (is))
found_ends req number cause end (Some request) so_far new answer is now = at_end (end_on_refusal cause request.course) refl is
  where
    at_end : (o : Option OpEnd) → end_on_refusal cause request.course ≡ o
        → option_map {U = ℕ × OpEnd} (λ (end : OpEnd). (request.session, end)) o ≡ Some (number, end)
        → OnOk answer (new ≡ course_refused request.session req cause request.course so_far)
    at_end None ends is = absurd (cc (is))
    at_end (Some own) ends is =
        let same : (request.session, own) ≡ (number, end) = same_Some (request.session, own) (number, end) is in
        let made : command_refused number req (Some end) so_far ≡ course_refused request.session req cause request.course so_far
        = ap (λ (of : ℕ × OpEnd). command_refused of.0 req (Some of.1) so_far) (sym same)
        ∙ ap (λ (o : Option OpEnd). command_refused request.session req o so_far) (sym ends)
        ∙ by_end request.session req cause request.course so_far in
        subst (λ (after : StepState). OnOk answer (new ≡ after)) made now
