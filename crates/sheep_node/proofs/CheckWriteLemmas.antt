-- A reply by which no check that compares goes on comes to no write, and a check that goes on by one got as many bytes as it waits for.
use Rattle.std.proofs.Common.{◌≡◌, inl, ℕ, false, List, length, Option, Some, None, refl, sym, ap, subst, ◌∙◌}
use Rattle.std.specs.Option.{option_map, option_map_or, option_and_then}
use Rattle.std.specs.FinMap as tree
use Rattle.peer_proto.specs.declared.say.PeerRsp.{PeerRsp}
use Rattle.peer_proto.specs.declared.work.WorkDone.{WorkDone}
use Rattle.gateway.specs.Attempt.{status_by}
use Rattle.gateway.specs.State.{Work, asker}
use Rattle.gateway.specs.Step.{gateway_on_reply}
use Rattle.gateway.specs.Outcomes.{work_done_in, IsWorkDone}
use Rattle.gateway.specs.Kept.{stage_with_status, bytes_if_done_at, work_if_done}
use Rattle.gateway.proofs.DoneWorks.{work_done-is}
use Rattle.disk_check.specs.Check.{Check, CheckStage, Comparing, WritingBack, Answered, is_comparing_at, value_at_stage, check_bytes_wanted}
use Rattle.sheep_node.specs.declared.course.Course.{Course}
use Rattle.sheep_node.specs.declared.course.Course.TheVariants.{Waiting, Driving, Commanding, Checking, DoingWork, AwaitingDecision}
use Rattle.sheep_node.specs.declared.course.Request.{Request}
use Rattle.sheep_node.specs.State.{Node}
use Rattle.sheep_node.specs.Courses.{inode_open}
use Rattle.sheep_node.specs.SessionQueues.{session_among}
use Rattle.sheep_node.specs.WantedWorks.{IsWorkWanted, IsWantedAt}
use Rattle.sheep_node.specs.SoundWorks.{IsSoundCourse}
use Rattle.sheep_node.specs.NodeInvariant.{IsSoundNode}
use Rattle.sheep_node.specs.CheckWrites.{write_of_value, write_of_course, write_after_work, is_course_comparing, is_request_comparing, is_message_comparing}
use Rattle.sheep_node.proofs.GoingOn.{bytes_for_check}

-- ---- no check that compares

course-writes_nothing : (req : ℕ) (bytes : List ℕ) (course : Course) → is_course_comparing course ≡ false → write_of_course req bytes course ≡ None
course-writes_nothing req bytes (Waiting ask) other = refl
course-writes_nothing req bytes (Driving driver) other = refl
course-writes_nothing req bytes (Commanding op) other = refl
course-writes_nothing req bytes (Checking check) other = by_stage check.stage other
  where
    by_stage : (stage : CheckStage) → is_comparing_at stage ≡ false
        → option_map (write_of_value req check) (value_at_stage bytes check.spec stage) ≡ None
    by_stage (Comparing index later) other = absurd (cc (other))
    by_stage (WritingBack later) other = refl
    by_stage Answered other = refl
course-writes_nothing req bytes (DoingWork work) other = refl
course-writes_nothing req bytes (AwaitingDecision entry) other = refl

work-writes_nothing : (node : Node) (done : WorkDone) → is_request_comparing node done.req ≡ false → write_after_work node done ≡ None
work-writes_nothing node done other = by_request (tree.get node.requests done.req) other
  where
    by_request : (request : Option Request) → option_map_or (λ (request : Request). is_course_comparing request.course) request false ≡ false
        → option_and_then (λ (request : Request). write_of_course done.req done.bytes request.course) request ≡ None
    by_request None other = refl
    by_request (Some request) other = course-writes_nothing done.req done.bytes request.course other

pub reply-writes_nothing : (rsp : PeerRsp) (node : Node)
    → is_message_comparing node rsp.number ≡ false
    → option_and_then (write_after_work node) (work_done_in (gateway_on_reply node.gateway rsp).act) ≡ None
reply-writes_nothing rsp node other =
    ap (option_and_then (write_after_work node)) (work_done-is node.gateway rsp.number (status_by rsp.say))
    ∙ by_asker (asker rsp.number node.gateway) other
  where
    by_bytes : (req : ℕ) (bytes : Option (List ℕ)) → is_request_comparing node req ≡ false
        → option_and_then (write_after_work node) (option_map (λ (bytes : List ℕ). record { req = req; bytes = bytes }) bytes) ≡ None
    by_bytes req None other = refl
    by_bytes req (Some bytes) other = work-writes_nothing node (record { req = req; bytes = bytes }) other

    by_asker : (found : Option (ℕ × Work)) → option_map_or (is_request_comparing node) (option_map (λ (found : ℕ × Work). found.0) found) false ≡ false
        → option_and_then (write_after_work node) (work_if_done rsp.number (status_by rsp.say) found) ≡ None
    by_asker None other = refl
    by_asker (Some found) other =
        by_bytes found.0 (bytes_if_done_at found.1.work (stage_with_status rsp.number (status_by rsp.say) found.1.stage)) other

-- ---- the bytes of a check's work

-- a check whose work is done got as many bytes as it waits for
pub done-bytes : (node : Node) (done : WorkDone) (request : Request) (check : Check) → IsSoundNode node → IsWorkDone node.gateway done
    → tree.get node.requests done.req ≡ Some request → request.course ≡ Checking check → check_bytes_wanted check ≡ Some (length done.bytes)
done-bytes node done request check sound is got checking =
    let at : IsWorkWanted (inode_open (session_among request.session node.sessions).disk) request.course is.work.work
    = subst (λ (request : Option Request). IsWantedAt node.sessions request is.work.work) got
    (sound.wanted_works done.req is.work.work (inl (is.work, is.stands, refl))) in
    let wanted : IsWorkWanted (inode_open (session_among request.session node.sessions).disk) (Checking check) is.work.work
    = subst (λ (course : Course). IsWorkWanted (inode_open (session_among request.session node.sessions).disk) course is.work.work) checking at in
    bytes_for_check check check.stage is.work.work wanted refl (subst IsSoundCourse checking (sound.sound_works.courses done.req request got))
    ∙ ap Some (sym is.given)
