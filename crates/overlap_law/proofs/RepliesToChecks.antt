-- A check that comes to a write by a reply: what holds of a node's requests where the write leaves the check holds behind the step, if what
-- ends no work keeps it.
use Rattle.std.proofs.Common.{◌≡◌, ℕ, Bool, true, false, List, cond, Option, Some, None, refl, sym, ap, subst, ◌∙◌, arith}
use Rattle.std.specs.Prelude.{is_some}
use Rattle.std.specs.Option.{option_map, option_map_or, option_and_then}
use Rattle.std.specs.FinMap as tree
use Rattle.std.proofs.lemmas.Option.{same_Some}
use Rattle.proof_tools.proofs.Booleans.{cond_either}
use Rattle.peer_proto.specs.declared.guest.GuestRsp.{GuestRsp}
use Rattle.peer_proto.specs.declared.say.PeerRsp.{PeerRsp}
use Rattle.peer_proto.specs.declared.work.ObjWork.{ObjWork}
use Rattle.gateway.specs.declared.act.Act.{Act}
use Rattle.gateway.specs.declared.act.Act.TheVariants as acts
use Rattle.gateway.specs.Attempt.{status_by}
use Rattle.gateway.specs.State as gateways
use Rattle.gateway.specs.State.{Gateway, Work}
use Rattle.gateway.specs.Step as gateway_steps
use Rattle.gateway.specs.Outcomes.{work_done_in}
use Rattle.gateway.specs.Kept.{work_if_done}
use Rattle.gateway.proofs.DoneWorks.{work_done-is}
use Rattle.disk_check.specs.Check.{Check, CheckStep, CheckStage, Comparing, WritingBack, Answered, check_on_done, check_done_at}
use Rattle.disk_check.specs.Check.{write_back_step, value_at_stage}
use Rattle.disk_check.specs.Value.{pieces_in}
use Rattle.recovery.specs.Steps as recovery_steps
use Rattle.sheep_node.specs.declared.check_write.CheckWrite.{CheckWrite}
use Rattle.sheep_node.specs.declared.input.Input.TheVariants as inputs
use Rattle.sheep_node.specs.declared.course.Course.{Course}
use Rattle.sheep_node.specs.declared.course.Course.TheVariants.{Checking}
use Rattle.sheep_node.specs.declared.course.Request.{Request}
use Rattle.sheep_node.specs.State as nodes
use Rattle.sheep_node.specs.State.{Node}
use Rattle.sheep_node.specs.RecoveryView.{recovery_state_of}
use Rattle.sheep_node.specs.StepState.{StepState, at_first, request_ended, with_gateway, with_sole_request}
use Rattle.sheep_node.specs.RequestWorks.{queue_left, after_start, start_of, work_begun, work_asked}
use Rattle.sheep_node.specs.Courses.{check_stepped, course_went_on}
use Rattle.sheep_node.specs.Waiting.{let_begin, work_done, after_act, after_gateway_step}
use Rattle.sheep_node.specs.Step.{recovery_stepped, on_input, on_reply, is_due, with_recovered, recovered_put, node_step}
use Rattle.sheep_node.specs.Changes.{Change, Still}
use Rattle.sheep_node.specs.CheckWrites.{check_write_on, write_after_work, write_of_course, write_of_value}
use Rattle.sheep_node.proofs.OneWorkParts.{Requests}
use Rattle.sheep_node.proofs.ReachedSteps.{let_begin_walk}
use Rattle.sheep_node.proofs.RefusedCourses.{request_refused-keeps}
use Rattle.sheep_node.proofs.StepChain.{kept_by_chain}

-- what waits begins without reading the input, so that changes of a node that is idle, at a tick, serve: no work ends in them
abbrev pub idle : Node
idle = nodes.initial_node (record { 0 = 0 }) 0

-- what comes where a reply fits
pub if_fits : (write : CheckWrite) (fits : Bool) (found : Option CheckWrite) → cond fits found None ≡ Some write → found ≡ Some write
if_fits write true found is = is
if_fits write false found is = absurd (cc (is))

module _ (P : Requests → Type 0)
    (changed : (so_far next : StepState) → Change inputs.RecoverTick idle so_far next → P so_far.node.requests → P next.node.requests)
    (ended : (session other : ℕ) (reply : GuestRsp) (so_far : StepState) → P so_far.node.requests
    → P (request_ended session other reply so_far).node.requests) where
  abbrev HoldsIn : StepState → Type 0
  HoldsIn so_far = P so_far.node.requests

  pub begins_so : (session : ℕ) (so_far : StepState) → HoldsIn so_far → HoldsIn (let_begin session so_far)
  begins_so session so_far has =
      kept_by_chain HoldsIn changed
      (let_begin_walk {input = inputs.RecoverTick} {node = idle} {first = so_far} {n = 0} session so_far
      (record { leads = Still; good = λ sound. absurd (cc (sound.0)); count = λ short. omega arith })).leads has

  started_so : (number : ℕ) (act : Act) (so_far : StepState) → HoldsIn so_far → HoldsIn (after_start number act so_far)
  started_so number (acts.Send sends) so_far has = has
  started_so number acts.Wait so_far has = has
  started_so number (acts.Done work done) so_far has = has
  started_so number (acts.Refused work other cause) so_far has =
      request_refused-keeps HoldsIn ended (λ entry before now. now) other cause (tree.get so_far.node.requests other)
      (queue_left number work so_far) has

  begun_so : (number other : ℕ) (work : ObjWork) (so_far : StepState) → HoldsIn so_far → HoldsIn (work_begun number other work so_far)
  unfolding work_begun
  begun_so number other work so_far has =
      started_so number (start_of other work so_far.node).act (with_gateway (start_of other work so_far.node).gateway so_far) has

  pub asked_so : (number other : ℕ) (work : ObjWork) (so_far : StepState) → HoldsIn so_far → HoldsIn (work_asked number other work so_far)
  unfolding work_asked
  asked_so number other work so_far has = cond_either HoldsIn _ _ _ (begun_so number other work _ has) has

  pub recovered_so : (so_far : StepState) → HoldsIn so_far → HoldsIn (recovered_put so_far)
  unfolding recovered_put
  recovered_so so_far has = cond_either HoldsIn (is_due so_far.node) (with_recovered so_far) so_far has has

  module _ (write : CheckWrite) where
    -- where the write leaves the check of its request
    abbrev pub IsLeftWriting : Requests → ℕ → ℕ → List ℕ → Check → ℕ → List ℕ → Type 0
    IsLeftWriting requests session req bytes check index later = P (tree.insert requests req (record {
      session = session;
      course = Checking (write_back_step check index later (pieces_in check.spec bytes)).check;
    }))

    goes_on-so : (session req : ℕ) (bytes : List ℕ) (course : Course) (so_far : StepState)
        → ((check : Check) (index : ℕ) (later : List ℕ) → course ≡ Checking check → check.stage ≡ Comparing index later
        → write.index ≡ index → write.spec ≡ check.spec → req ≡ write.req
        → IsLeftWriting so_far.node.requests session req bytes check index later)
        → write_of_course req bytes course ≡ Some write → HoldsIn (course_went_on session req bytes course so_far)
    unfolding course_went_on check_on_done check_stepped
    goes_on-so session req bytes (Checking check) so_far first is = by_stage check.stage refl is
      where
        by_stage : (stage : CheckStage) → check.stage ≡ stage
            → option_map (write_of_value req check) (value_at_stage bytes check.spec stage) ≡ Some write
            → HoldsIn (option_map_or (λ (step : CheckStep). check_stepped session req step so_far) (check_done_at bytes check stage) so_far)
        by_stage (Comparing index later) at is =
            let step = write_back_step check index later (pieces_in check.spec bytes) in
            let made = same_Some _ write is in
            asked_so session req _ (with_sole_request session req (Checking step.check) so_far)
            (first check index later refl at (sym (ap (λ (w : CheckWrite). w.index) made)) (sym (ap (λ (w : CheckWrite). w.spec) made))
            (ap (λ (w : CheckWrite). w.req) made))
        by_stage (WritingBack later) at is = absurd (cc (is))
        by_stage Answered at is = absurd (cc (is))
    goes_on-so session req bytes course so_far first is = absurd (cc (is))

    module _ (node : Node) (first : (session : ℕ) (bytes : List ℕ) (check : Check) (index : ℕ) (later : List ℕ)
        → tree.get node.requests write.req ≡ Some (record { session = session; course = Checking check })
        → check.stage ≡ Comparing index later → write.index ≡ index → write.spec ≡ check.spec
        → IsLeftWriting node.requests session write.req bytes check index later) where
      act_so : (gateway : Gateway) (act : Act) → option_and_then (write_after_work node) (work_done_in act) ≡ Some write
          → HoldsIn (after_act act (with_gateway gateway (at_first node)))
      act_so gateway (acts.Send sends) is = absurd (cc (is))
      act_so gateway acts.Wait is = absurd (cc (is))
      act_so gateway (acts.Refused work req cause) is = absurd (cc (is))
      act_so gateway (acts.Done work done) is = by_request (tree.get node.requests done.req) refl is
        where
          by_request : (o : Option Request) → tree.get node.requests done.req ≡ o
              → option_and_then (λ (request : Request). write_of_course done.req done.bytes request.course) o ≡ Some write
              → HoldsIn (work_done work done.req done.bytes o (with_gateway gateway (at_first node)))
          by_request None got is = absurd (cc (is))
          by_request (Some request) got is =
              let left = queue_left request.session work (with_gateway gateway (at_first node)) in
              begins_so request.session (course_went_on request.session done.req done.bytes request.course left)
              (goes_on-so request.session done.req done.bytes request.course left
              (λ check index later course at same spec own.
              subst (λ (k : ℕ). IsLeftWriting node.requests request.session k done.bytes check index later) (sym own)
              (first request.session done.bytes check index later
              (subst (λ (k : ℕ). tree.get node.requests k ≡ Some (record { session = request.session; course = Checking check })) own
              (got ∙ ap (λ (c : Course). Some (record { session = request.session; course = c })) course)) at same spec)) is)

      pub reply-so : (rsp : PeerRsp) → check_write_on (inputs.Reply rsp) node ≡ Some write
          → P (node_step (inputs.Reply rsp) node).node.requests
      unfolding check_write_on node_step on_input on_reply after_gateway_step
      reply-so rsp is = recovered_so (on_reply rsp (at_first node)) (by_asker (gateways.asker rsp.number node.gateway) refl)
        where
          step : gateway_steps.GatewayStep
          step = gateway_steps.gateway_on_reply node.gateway rsp

          comes : option_and_then (write_after_work node) (work_done_in step.act) ≡ Some write
          comes = if_fits write (gateways.fits_gateway rsp node.gateway) _ is

          by_asker : (found : Option (ℕ × Work)) → gateways.asker rsp.number node.gateway ≡ found
              → HoldsIn (cond (is_some found) (after_gateway_step step (at_first node))
              (recovery_stepped (recovery_steps.recovery_on_reply rsp (recovery_state_of node)) (at_first node)))
          by_asker (Some found) there = act_so step.gateway step.act comes
          by_asker None there =
              let none : work_done_in step.act ≡ None
              = work_done-is node.gateway rsp.number (status_by rsp.say) ∙ ap (work_if_done rsp.number (status_by rsp.say)) there in
              let nothing : option_and_then (write_after_work node) (work_done_in step.act) ≡ None
              = ap (option_and_then (write_after_work node)) none in
              absurd (cc (nothing, comes))
