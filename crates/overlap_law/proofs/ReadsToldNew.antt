-- What a change of a node replies to a guest is a refusal, or what a request that takes a step comes to.
use Rattle.std.proofs.Common.{◌≡◌, ◌⊎◌, inl, inr, ⊎_elim, ℕ, Contains, List, Option, None, Some, refl, sym, ap, subst, ◌∙◌}
use Rattle.std.specs.Option.{option_map_or}
use Rattle.std.specs.FinMap as tree
use Rattle.std.proofs.lemmas.Option.{same_Some}
use Rattle.object_id.specs.declared.cause.Cause.{Cause}
use Rattle.object_id.specs.declared.cause.Cause.TheVariants.{Halt}
use Rattle.object_id.specs.declared.entry.Entry.{Entry}
use Rattle.peer_proto.specs.declared.guest.GuestRsp.{GuestRsp}
use Rattle.peer_proto.specs.declared.guest.GuestRsp.TheVariants.{Refused}
use Rattle.gateway.specs.State.{Work}
use Rattle.gateway.specs.Work.{zones_for}
use Rattle.vdi_ops.specs.Op.{Op, OpStage, Asked, Working, Publishing, Answered}
use Rattle.vdi_ops.specs.declared.end.OpEnd.{OpEnd}
use Rattle.vdi_ops.specs.Steps.{on_refusal, refused_at}
use Rattle.sheep_node.specs.declared.input.Input.{Input}
use Rattle.sheep_node.specs.declared.course.Course.{Course}
use Rattle.sheep_node.specs.declared.course.Course.TheVariants.{Waiting, Driving, Commanding, Checking, DoingWork, AwaitingDecision}
use Rattle.sheep_node.specs.declared.course.Request.{Request}
use Rattle.sheep_node.specs.State.{Node}
use Rattle.sheep_node.specs.RequestWorks.{command_refused, course_refused}
use Rattle.sheep_node.specs.StepState.{StepState, replies_in_order, request_ended, with_optional_entry}
use Rattle.sheep_node.specs.Changes as changes
use Rattle.sheep_node.specs.Changes.{Change, RequestSteps, ToReply, ToEntry, ToWork, zones_of_members}
use Rattle.overlap_law.proofs.RepliesOfChanges.{comes_silent, steps_silent}
use Rattle.overlap_law.proofs.RequestsInSteps.{replies-in_order}

-- a reply refuses its request
abbrev pub IsRefused : GuestRsp → Type 0
IsRefused rsp = (cause : Cause) × (rsp ≡ Refused cause)

module _ (input : Input) (node : Node) (so_far : StepState) where
  abbrev IsOld : ℕ × GuestRsp → Type 0
  IsOld reply = Contains so_far.outputs.replies reply

  -- it was there, refuses, or is of a step that a request takes
  pub data HowTold (reply : ℕ × GuestRsp) : Type 0 where
    WasTold : Contains so_far.outputs.replies reply → HowTold reply
    Refuses : IsRefused reply.1 → HowTold reply
    Answers : (session : ℕ) (moved : StepState) → RequestSteps input node so_far session reply.0 (ToReply reply.1) moved → HowTold reply

  same_told : (next : StepState) → next.outputs.replies ≡ so_far.outputs.replies → (reply : ℕ × GuestRsp)
      → Contains next.outputs.replies reply → HowTold reply
  same_told next same reply among = WasTold (subst (λ (list : List (ℕ × GuestRsp)). Contains list reply) same among)

  -- a reply more
  one_told : (moved : StepState) → moved.outputs.replies ≡ so_far.outputs.replies → (new reply : ℕ × GuestRsp)
      → HowTold new → Contains (replies_in_order new moved.outputs.replies) reply → HowTold reply
  one_told moved same new reply how among = ⊎_elim
      (λ (own : new ≡ reply). subst HowTold own how)
      (λ (old : Contains moved.outputs.replies reply). same_told moved same reply old)
      (replies-in_order new moved.outputs.replies reply among)

  -- a command whose work is refused
  end_refuses : (cause : Cause) (op : Op) (end : OpEnd) → on_refusal cause op ≡ Some end → IsRefused end.reply
  unfolding on_refusal
  end_refuses cause op end is = by_stage op.stage is
    where
      by_stage : (stage : OpStage) → refused_at cause op stage ≡ Some end → IsRefused end.reply
      by_stage (Asked entry) is = absurd (cc (is))
      by_stage (Working vid task) is = (cause, sym (ap (λ (o : OpEnd). o.reply) (same_Some _ end is)))
      by_stage (Publishing entry opened) is = absurd (cc (is))
      by_stage (Answered change) is = absurd (cc (is))

  refused_told : (session req : ℕ) (cause : Cause) (course : Course) (moved : StepState)
      → moved.outputs.replies ≡ so_far.outputs.replies → (reply : ℕ × GuestRsp)
      → Contains (course_refused session req cause course moved).outputs.replies reply → HowTold reply
  unfolding request_ended
  refused_told session req cause (Waiting ask) moved same reply among = same_told moved same reply among
  refused_told session req cause (Driving driver) moved same reply among =
      one_told moved same (req, Refused cause) reply (Refuses (cause, refl)) among
  refused_told session req cause (Commanding op) moved same reply among = by_end (on_refusal cause op) refl among
    where
      by_unlock : (end : OpEnd) (unlock : Option Entry) → IsRefused end.reply
          → Contains (request_ended session req end.reply (with_optional_entry unlock moved)).outputs.replies reply → HowTold reply
      by_unlock end None refuses among = one_told moved same (req, end.reply) reply (Refuses refuses) among
      by_unlock end (Some entry) refuses among = one_told moved same (req, end.reply) reply (Refuses refuses) among

      by_end : (end : Option OpEnd) → on_refusal cause op ≡ end
          → Contains (command_refused session req end moved).outputs.replies reply → HowTold reply
      by_end None is among = same_told moved same reply among
      by_end (Some end) is among = by_unlock end end.unlock (end_refuses cause op end is) among
  refused_told session req cause (Checking check) moved same reply among =
      one_told moved same (req, Refused cause) reply (Refuses (cause, refl)) among
  refused_told session req cause (DoingWork work) moved same reply among =
      one_told moved same (req, Refused cause) reply (Refuses (cause, refl)) among
  refused_told session req cause (AwaitingDecision entry) moved same reply among = same_told moved same reply among

  pub new_told : (next : StepState) → Change input node so_far next → (reply : ℕ × GuestRsp) → Contains next.outputs.replies reply
      → HowTold reply
  unfolding request_ended
  new_told next (changes.Marks req number work attempt status learns over) reply among = WasTold among
  new_told next (changes.Fails session req number work attempt status course ends done why) reply among = WasTold among
  new_told next (changes.Stops session req number work attempt status course bytes ends over) reply among = WasTold among
  new_told next (changes.Refuses session req number work attempt status course cause ends done why) reply among =
      refused_told session req cause course (changes.without_ended_work session req work status so_far) refl reply among
  new_told next (changes.Opens session req tried lined comes short) reply among =
      same_told lined (comes_silent input node so_far session req tried lined comes) reply among
  new_told next (changes.Holds session req tried lined comes short touched) reply among =
      same_told lined (comes_silent input node so_far session req tried lined comes) reply among
  new_told next (changes.Denies session req tried lined request comes short untouched there own) reply among = by_request request among
    where
      cause : Cause
      cause = Halt (zones_of_members lined.node) (zones_for tried.work)

      moved : StepState
      moved = changes.without_denied_work session req tried lined

      silent : moved.outputs.replies ≡ so_far.outputs.replies
      silent = comes_silent input node so_far session req tried lined comes

      by_request : (request : Option Request)
          → Contains (option_map_or (λ (request : Request). course_refused request.session req cause request.course moved) request
          moved).outputs.replies reply → HowTold reply
      by_request None among = same_told moved silent reply among
      by_request (Some request) among = refused_told request.session req cause request.course moved silent reply among
  new_told next (changes.Strays req work gateway there none other) reply among = WasTold among
  new_told next (changes.Lines session req work moved steps waits) reply among =
      same_told moved (steps_silent input node so_far session req (ToWork work) moved steps) reply among
  new_told next (changes.Appends session req entry moved steps) reply among =
      same_told moved (steps_silent input node so_far session req (ToEntry entry) moved steps) reply among
  new_told next (changes.Replies session req given moved steps) reply among =
      one_told moved (steps_silent input node so_far session req (ToReply given) moved steps) (req, given) reply
      (Answers session moved steps) among
  new_told next (changes.Arrives session req ask disk arrival on) reply among = WasTold among
  new_told next (changes.Rejects session req ask cause arrival) reply among =
      one_told so_far refl (req, Refused cause) reply (Refuses (cause, refl)) among
  new_told next (changes.Recovers due) reply among = WasTold among
