-- What a node has whose check comes to a write by a reply: the check compares an own object, and the write is of the value of what came.
use Rattle.std.proofs.Common.{◌≡◌, ℕ, List, Option, Some, None, refl, ap, subst}
use Rattle.std.specs.Option.{option_map, option_and_then}
use Rattle.std.specs.FinMap as tree
use Rattle.std.proofs.lemmas.Option.{same_Some}
use Rattle.peer_proto.specs.declared.say.PeerRsp.{PeerRsp}
use Rattle.peer_proto.specs.declared.work.WorkDone.{WorkDone}
use Rattle.gateway.specs.Outcomes.{work_done_in}
use Rattle.gateway.specs.State as gateways
use Rattle.gateway.specs.Step as gateway_steps
use Rattle.disk_check.specs.Check.{Check, CheckStage, Comparing, WritingBack, Answered, value_at_stage}
use Rattle.sheep_node.specs.declared.check_write.CheckWrite.{CheckWrite}
use Rattle.sheep_node.specs.declared.input.Input.TheVariants as inputs
use Rattle.sheep_node.specs.declared.course.Course.{Course}
use Rattle.sheep_node.specs.declared.course.Course.TheVariants.{Checking}
use Rattle.sheep_node.specs.declared.course.Request.{Request}
use Rattle.sheep_node.specs.State.{Node}
use Rattle.sheep_node.specs.CheckWrites.{check_write_on, write_after_work, write_of_course, write_of_check, write_of_value}
use Rattle.overlap_law.proofs.RepliesToChecks.{if_fits}

-- the node has the check of the write's request, and what came for it makes the write
pub record IsComing (write : CheckWrite) (node : Node) : Type 0 where
  pub session : ℕ
  pub check : Check
  pub bytes : List ℕ
  pub there : tree.get node.requests write.req ≡ Some (record { session = session; course = Checking check })
  pub comes : write_of_check write.req bytes check ≡ Some write

module _ (write : CheckWrite) where
  pub own_request : (req : ℕ) (bytes : List ℕ) (check : Check) (stage : CheckStage)
      → option_map (write_of_value req check) (value_at_stage bytes check.spec stage) ≡ Some write → req ≡ write.req
  own_request req bytes check (Comparing index later) is = ap (λ (w : CheckWrite). w.req) (same_Some _ write is)
  own_request req bytes check (WritingBack later) is = absurd (cc (is))
  own_request req bytes check Answered is = absurd (cc (is))

  by_course : (node : Node) (req session : ℕ) (bytes : List ℕ) (course : Course)
      → tree.get node.requests req ≡ Some (record { session = session; course = course }) → write_of_course req bytes course ≡ Some write
      → IsComing write node
  by_course node req session bytes (Checking check) there is =
      let own : req ≡ write.req = own_request req bytes check check.stage is in
      record {
        session = session;
        check = check;
        bytes = bytes;
        there = subst (λ (k : ℕ). tree.get node.requests k ≡ Some (record { session = session; course = Checking check })) own there;
        comes = subst (λ (k : ℕ). write_of_check k bytes check ≡ Some write) own is;
      }
  by_course node req session bytes course there is = absurd (cc (is))

  by_done : (node : Node) (done : Option WorkDone) → option_and_then (write_after_work node) done ≡ Some write → IsComing write node
  by_done node None is = absurd (cc (is))
  by_done node (Some done) is = by_request (tree.get node.requests done.req) refl is
    where
      by_request : (o : Option Request) → tree.get node.requests done.req ≡ o
          → option_and_then (λ (request : Request). write_of_course done.req done.bytes request.course) o ≡ Some write
          → IsComing write node
      by_request None there is = absurd (cc (is))
      by_request (Some request) there is = by_course node done.req request.session done.bytes request.course there is

  pub coming : (rsp : PeerRsp) (node : Node) → check_write_on (inputs.Reply rsp) node ≡ Some write → IsComing write node
  unfolding check_write_on
  coming rsp node is =
      by_done node (work_done_in (gateway_steps.gateway_on_reply node.gateway rsp).act)
      (if_fits write (gateways.fits_gateway rsp node.gateway) _ is)
