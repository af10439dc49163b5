-- What a node has whose check comes to a write by a reply: the work that reads all of an own object is open, the reply is to the last of
-- its messages that was unanswered, with it all succeeded, and the write is of the value of what they gave.
use Rattle.std.proofs.Common.{◌≡◌, ℕ, ◌&&◌, Bool, true, false, cond, List, Option, Some, None, refl, sym, ap, subst, ◌∙◌}
use Rattle.std.specs.List.{list_any}
use Rattle.std.specs.Option.{option_map, option_and_then}
use Rattle.std.specs.FinMap as tree
use Rattle.std.proofs.lemmas.Bool.{and_parts}
use Rattle.peer_proto.specs.declared.say.PeerRsp.{PeerRsp}
use Rattle.gateway.specs.declared.message.Message.{Message}
use Rattle.gateway.specs.Attempt as gateways
use Rattle.gateway.specs.Attempt.{bytes_given, is_awaited_message, is_done, is_over, messages_with_status, status_by}
use Rattle.gateway.specs.Kept.{bytes_if_done_at, stage_with_status, work_done_of, work_if_done}
use Rattle.gateway.specs.Outcomes.{work_done_in}
use Rattle.gateway.specs.State.{Work, WorkStage, Open, Ended, WaitsForMembers, asker, fits_asker, fits_gateway, fits_work, is_awaited_in}
use Rattle.gateway.specs.State.{open_messages}
use Rattle.gateway.specs.Step as gateway_steps
use Rattle.gateway.proofs.DoneWorks.{work_done-is}
use Rattle.disk_check.specs.Check.{Check}
use Rattle.sheep_node.specs.declared.check_write.CheckWrite.{CheckWrite}
use Rattle.sheep_node.specs.declared.course.Course.{Course}
use Rattle.sheep_node.specs.declared.course.Course.TheVariants.{Checking}
use Rattle.sheep_node.specs.declared.course.Request.{Request}
use Rattle.sheep_node.specs.declared.input.Input.TheVariants as inputs
use Rattle.sheep_node.specs.CheckWrites.{check_write_on, write_after_work, write_of_check, write_of_course}
use Rattle.sheep_node.specs.State.{Node}
use Rattle.sheep_node.proofs.AwaitedWorks.{found_got}
use Rattle.overlap_law.proofs.ComingWrites.{own_request}

-- the messages of an attempt, with what the reply says of its own
abbrev pub messages_heard : PeerRsp → gateways.Attempt → List Message
messages_heard rsp attempt = messages_with_status rsp.number (status_by rsp.say) attempt.messages

-- the check of the write's request has its work, and the write is of the value of what that gave
pub record ComesByReply (write : CheckWrite) (rsp : PeerRsp) (node : Node) : Type 0 where
  pub session : ℕ
  pub check : Check
  pub work : Work
  pub attempt : gateways.Attempt
  pub there : tree.get node.requests write.req ≡ Some (record { session = session; course = Checking check })
  pub got : tree.get node.gateway.works write.req ≡ Some work
  pub stage : work.stage ≡ Open attempt
  pub awaited : list_any (is_awaited_message rsp.number) attempt.messages ≡ true
  pub fits : fits_work work.work rsp.say ≡ true
  pub done : is_done work.work (messages_heard rsp attempt) ≡ true
  pub comes : write_of_check write.req (bytes_given work.work (messages_heard rsp attempt)) check ≡ Some write

module _ (write : CheckWrite) (rsp : PeerRsp) (node : Node) where
  -- an open work whose last message this reply is to
  record IsEndingWork (req : ℕ) (work : Work) (attempt : gateways.Attempt) : Type 0 where
    got : tree.get node.gateway.works req ≡ Some work
    stage : work.stage ≡ Open attempt
    awaited : list_any (is_awaited_message rsp.number) attempt.messages ≡ true
    fits : fits_work work.work rsp.say ≡ true
    done : is_done work.work (messages_heard rsp attempt) ≡ true

  by_course : (req session : ℕ) (work : Work) (attempt : gateways.Attempt) → IsEndingWork req work attempt → (course : Course)
      → tree.get node.requests req ≡ Some (record { session = session; course = course })
      → write_of_course req (bytes_given work.work (messages_heard rsp attempt)) course ≡ Some write → ComesByReply write rsp node
  by_course req session work attempt ends (Checking check) there is =
      let own : req ≡ write.req
      = own_request write req (bytes_given work.work (messages_heard rsp attempt)) check check.stage is in
      record {
        session = session;
        check = check;
        work = work;
        attempt = attempt;
        there = subst (λ (k : ℕ). tree.get node.requests k ≡ Some (record { session = session; course = Checking check })) own there;
        got = subst (λ (k : ℕ). tree.get node.gateway.works k ≡ Some work) own ends.got;
        stage = ends.stage;
        awaited = ends.awaited;
        fits = ends.fits;
        done = ends.done;
        comes = subst
            (λ (k : ℕ). write_of_check k (bytes_given work.work (messages_heard rsp attempt)) check ≡ Some write) own is;
      }
  by_course req session work attempt ends course there is = absurd (cc (is))

  module _ (req : ℕ) (work : Work) (got : tree.get node.gateway.works req ≡ Some work)
      (awaits : is_awaited_in rsp.number work ≡ true) (fits : fits_work work.work rsp.say ≡ true) where
    of_stage : (stage : WorkStage) → work.stage ≡ stage
        → option_and_then (write_after_work node)
        (option_map (work_done_of req) (bytes_if_done_at work.work (stage_with_status rsp.number (status_by rsp.say) stage))) ≡ Some write
        → ComesByReply write rsp node
    of_stage (Open attempt) at is = by_test (is_over messages && is_done work.work messages) refl is
      where
        messages : List Message
        messages = messages_heard rsp attempt

        by_request : (o : Option Request) → tree.get node.requests req ≡ o → (is_over messages && is_done work.work messages) ≡ true
            → option_and_then (λ (request : Request). write_of_course req (bytes_given work.work messages) request.course) o ≡ Some write
            → ComesByReply write rsp node
        by_request None there ends is = absurd (cc (is))
        by_request (Some request) there ends is =
            by_course req request.session work attempt (record {
              got = got;
              stage = at;
              awaited = sym (ap (λ (s : WorkStage). list_any (is_awaited_message rsp.number) (open_messages s)) at) ∙ awaits;
              fits = fits;
              done = (and_parts (is_over messages) (is_done work.work messages) ends).1;
            }) request.course there is

        by_test : (b : Bool) → (is_over messages && is_done work.work messages) ≡ b
            → option_and_then (write_after_work node)
            (option_map (work_done_of req) (cond b (Some (bytes_given work.work messages)) None)) ≡ Some write
            → ComesByReply write rsp node
        by_test false ends is = absurd (cc (is))
        by_test true ends is = by_request (tree.get node.requests req) refl ends is
    of_stage Ended at is = absurd (cc (is))
    of_stage (WaitsForMembers epoch) at is = absurd (cc (is))

  by_asker : (found : Option (ℕ × Work)) → asker rsp.number node.gateway ≡ found → fits_asker found rsp.say ≡ true
      → option_and_then (write_after_work node) (work_if_done rsp.number (status_by rsp.say) found) ≡ Some write
      → ComesByReply write rsp node
  by_asker None asks fits is = absurd (cc (is))
  by_asker (Some found) asks fits is =
      let has = found_got rsp.number node.gateway.works found asks in
      of_stage found.0 found.1 has.0 has.1 fits found.1.stage refl is

  pub coming_by_reply : check_write_on (inputs.Reply rsp) node ≡ Some write → ComesByReply write rsp node
  unfolding check_write_on
  coming_by_reply is = by_fits (fits_gateway rsp node.gateway) refl is
    where
      by_fits : (b : Bool) → fits_gateway rsp node.gateway ≡ b
          → cond b (option_and_then (write_after_work node) (work_done_in (gateway_steps.gateway_on_reply node.gateway rsp).act)) None
          ≡ Some write
          → ComesByReply write rsp node
      by_fits false fits is = absurd (cc (is))
      by_fits true fits is =
          by_asker (asker rsp.number node.gateway) refl fits
          (ap (option_and_then (write_after_work node)) (sym (work_done-is node.gateway rsp.number (status_by rsp.say))) ∙ is)
