-- A check that comes to a write by a reply has come to one behind the step, if its node still has it.
use Rattle.std.proofs.Common.{◌≡◌, ◌+◌, arith, true, Some, sym, subst, ◌∙◌}
use Rattle.std.proofs.lemmas.Bool.{lt-ltb}
use Rattle.std.proofs.lemmas.Option.{same_Some}
use Rattle.proof_tools.proofs.FiniteMaps.{get-insert_same}
use Rattle.peer_proto.specs.declared.say.PeerRsp.{PeerRsp}
use Rattle.disk_check.specs.Check.{write_back_step}
use Rattle.disk_check.specs.Value.{pieces_in}
use Rattle.sheep_node.specs.declared.check_write.CheckWrite.{CheckWrite}
use Rattle.sheep_node.specs.declared.course.Course.TheVariants.{Checking}
use Rattle.sheep_node.specs.declared.course.Request.{Request}
use Rattle.sheep_node.specs.declared.input.Input.TheVariants as inputs
use Rattle.sheep_node.specs.CheckWrites.{check_write_on, has_course_written}
use Rattle.sheep_node.specs.State.{Node}
use Rattle.sheep_node.specs.Step.{node_step}
use Rattle.overlap_law.proofs.RepliesToChecks.{idle, reply-so}
use Rattle.overlap_law.proofs.WrittenChecks.{HasWritten, change_written, ended_written}

module _ (write : CheckWrite) where
  -- the check has one own object more
  pub reply-written : (rsp : PeerRsp) (node : Node) → check_write_on (inputs.Reply rsp) node ≡ Some write
      → HasWritten write.req (node_step (inputs.Reply rsp) node).node.requests
  reply-written rsp node is =
      reply-so (HasWritten write.req) (change_written write.req inputs.RecoverTick idle (λ session ask is. absurd (cc (is))))
      (ended_written write.req) write node
      (λ session bytes check index later got at same spec. λ request has.
      let put : Request = record {
        session = session;
        course = Checking (write_back_step check index later (pieces_in check.spec bytes)).check;
      } in
      subst (λ (r : Request). has_course_written r.course ≡ true)
      (same_Some put request (sym (get-insert_same node.requests write.req put) ∙ has))
      (lt-ltb 0 (check.found.objects + 1) (omega arith)))
      rsp is
