-- The value that a check writes over an object is as long as one.
use Rattle.std.proofs.Common.{◌≡◌, inl, ℕ, ◌^◌, ◌&&◌, Bool, true, false, cond, List, length, Option, Some, None, refl, sym, ap, subst, ◌∙◌}
use Rattle.std.specs.Option.{option_map, option_and_then}
use Rattle.std.specs.FinMap as tree
use Rattle.std.proofs.lemmas.Bool.{and_parts, eqb-true}
use Rattle.std.proofs.lemmas.Option.{same_Some}
use Rattle.object_id.specs.Oid.{kind_of}
use Rattle.object_id.specs.Spec.{IsSpec}
use Rattle.gf256.specs.Part.{part_size}
use Rattle.peer_proto.specs.declared.say.PeerRsp.{PeerRsp}
use Rattle.peer_proto.specs.declared.say.PeerSay.{PeerSay}
use Rattle.peer_proto.specs.declared.say.PeerSay.TheVariants as says
use Rattle.peer_proto.specs.declared.work.ObjWork.{ObjWork}
use Rattle.peer_proto.specs.declared.work.ObjWork.TheVariants.{Create, Write, Read, ReadAll}
use Rattle.peer_proto.specs.declared.work.WorkDone.{WorkDone}
use Rattle.gateway.specs.declared.message.Message.{Message}
use Rattle.gateway.specs.Attempt.{status_by, messages_with_status, is_over, is_done, bytes_given}
use Rattle.gateway.specs.Kept.{stage_with_status, bytes_if_done_at, work_done_of, work_if_done}
use Rattle.gateway.specs.Messages.{IsPieceFor}
use Rattle.gateway.specs.Outcomes.{work_done_in, IsWorkDone}
use Rattle.gateway.specs.State.{WorkStage, Open, Ended, WaitsForMembers, Work, asker, fits_asker, fits_gateway, fits_work}
use Rattle.gateway.specs.Step as gateway_steps
use Rattle.gateway.proofs.DoneWorks.{work_done-is}
use Rattle.gateway.proofs.LengthLaws.{length-bytes_given}
use Rattle.gateway.proofs.MessageLemmas.{AreMessagesFor-with_status}
use Rattle.disk_check.specs.Check.{CheckStage, Comparing, WritingBack, Answered, bytes_at, check_bytes_wanted, value_at_stage}
use Rattle.disk_check.specs.Value.{all_bytes}
use Rattle.disk_check.proofs.WorkLemmas.{value-length}
use Rattle.sheep_node.specs.declared.check_write.CheckWrite.{CheckWrite}
use Rattle.sheep_node.specs.declared.course.Course.{Course}
use Rattle.sheep_node.specs.declared.course.Course.TheVariants.{Checking}
use Rattle.sheep_node.specs.declared.course.Request.{Request}
use Rattle.sheep_node.specs.declared.input.Input.TheVariants as inputs
use Rattle.sheep_node.specs.CheckWrites.{check_write_on, write_after_work, write_of_course, write_of_value}
use Rattle.sheep_node.specs.Courses.{inode_open}
use Rattle.sheep_node.specs.SessionQueues.{session_among}
use Rattle.sheep_node.specs.WantedWorks.{IsWantedAt, IsWorkWanted}
use Rattle.sheep_node.specs.NodeInvariant.{IsSoundNode}
use Rattle.sheep_node.specs.SoundWorks.{HasMessagesFor, IsSoundCourse}
use Rattle.sheep_node.specs.State.{Node}
use Rattle.sheep_node.proofs.AwaitedWorks.{found_got}
use Rattle.sheep_node.proofs.GoingOn.{bytes_for_check}

-- a reply that fits what a work asks gives a piece as long as that
pub piece_by : (work : ObjWork) (say : PeerSay) → fits_work work say ≡ true → IsPieceFor work (status_by say)
piece_by (Create oid policy size offset bytes) say fit = tt
piece_by (Write oid policy offset bytes) say fit = tt
piece_by (Read oid policy offset size) says.Success fit = absurd (cc (fit))
piece_by (Read oid policy offset size) (says.Piece bytes) fit = eqb-true (length bytes) (part_size policy (kind_of oid) size) fit
piece_by (Read oid policy offset size) (says.Objects oids) fit = tt
piece_by (Read oid policy offset size) (says.Row row) fit = tt
piece_by (Read oid policy offset size) says.NoRow fit = tt
piece_by (Read oid policy offset size) (says.Refused refusal) fit = tt
piece_by (ReadAll oid policy size) says.Success fit = absurd (cc (fit))
piece_by (ReadAll oid policy size) (says.Piece bytes) fit = eqb-true (length bytes) (part_size policy (kind_of oid) size) fit
piece_by (ReadAll oid policy size) (says.Objects oids) fit = tt
piece_by (ReadAll oid policy size) (says.Row row) fit = tt
piece_by (ReadAll oid policy size) says.NoRow fit = tt
piece_by (ReadAll oid policy size) (says.Refused refusal) fit = tt

module _ (write : CheckWrite) (rsp : PeerRsp) (node : Node) (sound : IsSoundNode node) where
  -- ---- what is told done gave its bytes

  module _ (req : ℕ) (work : Work) (asks : asker rsp.number node.gateway ≡ Some (req, work)) (fits : fits_work work.work rsp.say ≡ true)
      (done : WorkDone) where
    stage_done : (stage : WorkStage) → work.stage ≡ stage
        → option_map (work_done_of req) (bytes_if_done_at work.work (stage_with_status rsp.number (status_by rsp.say) stage)) ≡ Some done
        → IsWorkDone node.gateway done
    stage_done (Open attempt) at is = by_test (is_over messages && is_done work.work messages) refl is
      where
        messages : List Message
        messages = messages_with_status rsp.number (status_by rsp.say) attempt.messages

        by_test : (b : Bool) → (is_over messages && is_done work.work messages) ≡ b
            → option_map (work_done_of req) (cond b (Some (bytes_given work.work messages)) None) ≡ Some done → IsWorkDone node.gateway done
        by_test false ends is = absurd (cc (is))
        by_test true ends is =
            let has = found_got rsp.number node.gateway.works (req, work) asks in
            let sound_work = sound.sound_works.open_works req work has.0 in
            let long = length-bytes_given work.work messages sound_work.range.is_work
            (AreMessagesFor-with_status work.work rsp.number (status_by rsp.say) attempt.messages (piece_by work.work rsp.say fits)
            (subst (HasMessagesFor work.work) at sound_work.messages))
            (and_parts (is_over messages) (is_done work.work messages) ends).1 in
            subst (IsWorkDone node.gateway) (same_Some _ done is) (record { work = work; stands = has.0; given = long })
    stage_done Ended at is = absurd (cc (is))
    stage_done (WaitsForMembers epoch) at is = absurd (cc (is))

  asker_done : (found : Option (ℕ × Work)) → asker rsp.number node.gateway ≡ found → fits_asker found rsp.say ≡ true → (done : WorkDone)
      → work_if_done rsp.number (status_by rsp.say) found ≡ Some done → IsWorkDone node.gateway done
  asker_done None asks fits done is = absurd (cc (is))
  asker_done (Some found) asks fits done is = stage_done found.0 found.1 asks fits done found.1.stage refl is

  -- ---- a check writes a value made of them

  course_long : (done : WorkDone) → IsWorkDone node.gateway done → (request : Request) → tree.get node.requests done.req ≡ Some request
      → (course : Course) → request.course ≡ course → write_of_course done.req done.bytes course ≡ Some write
      → length write.value ≡ 2 ^ write.spec.shift
  course_long done given request got (Checking check) at is = by_stage check.stage refl is
    where
      asked : IsWorkWanted (inode_open (session_among request.session node.sessions).disk) (Checking check) given.work.work
      asked =
          subst
          (λ (course : Course). IsWorkWanted (inode_open (session_among request.session node.sessions).disk) course given.work.work) at
          (subst (λ (request : Option Request). IsWantedAt node.sessions request given.work.work) got
          (sound.wanted_works done.req given.work.work (inl (given.work, given.stands, refl))))

      wanted : check_bytes_wanted check ≡ Some (length done.bytes)
      wanted =
          bytes_for_check check check.stage given.work.work asked refl
          (subst IsSoundCourse at (sound.sound_works.courses done.req request got))
          ∙ ap Some (sym given.given)

      spec : IsSpec check.spec
      spec = (subst IsSoundCourse at (sound.sound_works.courses done.req request got)).spec

      by_stage : (stage : CheckStage) → check.stage ≡ stage
          → option_map (write_of_value done.req check) (value_at_stage done.bytes check.spec stage) ≡ Some write
          → length write.value ≡ 2 ^ write.spec.shift
      by_stage (Comparing index later) stage is =
          let all : length done.bytes ≡ all_bytes check.spec
          = sym (same_Some (all_bytes check.spec) (length done.bytes) (sym (ap (bytes_at check.spec) stage) ∙ wanted)) in
          subst (λ (w : CheckWrite). length w.value ≡ 2 ^ w.spec.shift) (same_Some _ write is)
          (value-length check.spec done.bytes spec all)
      by_stage (WritingBack later) stage is = absurd (cc (is))
      by_stage Answered stage is = absurd (cc (is))
  course_long done given request got course at is = absurd (cc (is))

  done_long : (fits : fits_gateway rsp node.gateway ≡ true) (o : Option WorkDone)
      → work_if_done rsp.number (status_by rsp.say) (asker rsp.number node.gateway) ≡ o
      → option_and_then (write_after_work node) o ≡ Some write → length write.value ≡ 2 ^ write.spec.shift
  done_long fits None told is = absurd (cc (is))
  done_long fits (Some done) told is = by_request (tree.get node.requests done.req) refl is
    where
      by_request : (o : Option Request) → tree.get node.requests done.req ≡ o
          → option_and_then (λ (request : Request). write_of_course done.req done.bytes request.course) o ≡ Some write
          → length write.value ≡ 2 ^ write.spec.shift
      by_request None got is = absurd (cc (is))
      by_request (Some request) got is =
          course_long done (asker_done (asker rsp.number node.gateway) refl fits done told) request got request.course refl is

  pub value-long : check_write_on (inputs.Reply rsp) node ≡ Some write → length write.value ≡ 2 ^ write.spec.shift
  unfolding check_write_on
  value-long is = by_fits (fits_gateway rsp node.gateway) refl is
    where
      by_fits : (b : Bool) → fits_gateway rsp node.gateway ≡ b
          → cond b (option_and_then (write_after_work node) (work_done_in (gateway_steps.gateway_on_reply node.gateway rsp).act)) None
          ≡ Some write
          → length write.value ≡ 2 ^ write.spec.shift
      by_fits false fits is = absurd (cc (is))
      by_fits true fits is =
          done_long fits (work_if_done rsp.number (status_by rsp.say) (asker rsp.number node.gateway)) refl
          (ap (option_and_then (write_after_work node)) (sym (work_done-is node.gateway rsp.number (status_by rsp.say))) ∙ is)
