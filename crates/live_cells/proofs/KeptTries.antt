-- A node goes on to try as often as it was made to: no step that it may take changes that.
use Rattle.std.proofs.Common.{◌≡◌, ℕ, List, [], ◌∷◌, refl}
use Rattle.proof_tools.proofs.Booleans.{cond_either}
use Rattle.object_id.specs.declared.cause.Cause.TheVariants.{Halt}
use Rattle.object_id.specs.declared.entry.Entry.{Entry}
use Rattle.peer_proto.specs.declared.guest.GuestRsp.{GuestRsp}
use Rattle.gateway.specs.Work.{zones_for}
use Rattle.gateway.specs.State as gateways
use Rattle.gateway.specs.State.{Work}
use Rattle.recovery.specs.Steps as recovery_steps
use Rattle.sheep_node.specs.declared.input.Input.{Input}
use Rattle.sheep_node.specs.declared.input.Input.TheVariants as inputs
use Rattle.sheep_node.specs.State.{Node}
use Rattle.sheep_node.specs.RecoveryView.{recovery_state_of}
use Rattle.sheep_node.specs.StepState.{StepState, at_first, request_ended}
use Rattle.sheep_node.specs.LogReading.{entry_read, on_back}
use Rattle.sheep_node.specs.Step.{on_request, recovery_stepped, on_put, on_recover_tick, node_step}
use Rattle.sheep_node.specs.May.{May}
use Rattle.sheep_node.specs.OneWork.{HasOneWorkPerRequest}
use Rattle.sheep_node.specs.Changes as changes
use Rattle.sheep_node.specs.Changes.{IsSoundStep, without_ended_work, Outcome, ToWork, ToEntry, ToReply, RequestSteps, DiskBegins, DiskGoesOn, CommandBegins, CommandGoesOn, CommandDecided, CheckBegins, CheckGoesOn, ObjectBegins, ObjectIsDone, EntryBegins, EntryDecided, WorkIsNext, AtOnce, InTurn, Again, AgainAlone, Change, input_received}
use Rattle.sheep_node.proofs.RefusedCourses.{course_refused-keeps, request_refused-keeps}
use Rattle.sheep_node.proofs.OneWorkChanges.{StepHasOneWork, never_alone, change_keeps_one_work, received_one_work}
use Rattle.sheep_node.proofs.NumberChanges.{meets_numbers}
use Rattle.sheep_node.proofs.StepChain.{kept_by_chain, step_chain}

module _ (tries : ℕ) where
  abbrev HasTries : StepState → Type 0
  HasTries so_far = so_far.node.gateway.tries ≡ tries

  ended_tries : (session req : ℕ) (reply : GuestRsp) (so_far : StepState) → HasTries so_far → HasTries (request_ended session req reply so_far)
  unfolding request_ended
  ended_tries session req reply so_far has = has

  module _ {input : Input} {node : Node} where
    steps_tries : (so_far : StepState) (session req : ℕ) (outcome : Outcome) (moved : StepState)
        → RequestSteps input node so_far session req outcome moved → HasTries so_far → HasTries moved
    steps_tries so_far session req outcome moved (DiskBegins ask disk there on may) has = has
    steps_tries so_far session req outcome moved (DiskGoesOn number work attempt status bytes driver disk step ends on is) has = has
    steps_tries so_far session req outcome moved (CommandBegins ask step arrival is) has = has
    steps_tries so_far session req outcome moved (CommandGoesOn number work attempt status bytes op step ends is) has = has
    steps_tries so_far session req outcome moved (CommandDecided entry op step from read there waits is) has = has
    steps_tries so_far session req outcome moved (CheckBegins inode arrival on) has = has
    steps_tries so_far session req outcome moved (CheckGoesOn number work attempt status bytes check step ends is) has = has
    steps_tries so_far session req outcome moved (ObjectBegins asked arrival) has = has
    steps_tries so_far session req outcome moved (ObjectIsDone number work attempt status bytes asked ends) has = has
    steps_tries so_far session req outcome moved (EntryBegins entry arrival) has = has
    steps_tries so_far session req outcome moved (EntryDecided entry wanted from read there waits) has = has

    next_tries : (so_far : StepState) (session req : ℕ) (asked : Work) (lined : StepState)
        → WorkIsNext input node so_far session req asked lined → HasTries so_far → HasTries lined
    next_tries so_far session req asked lined (AtOnce work moved steps begins) has = steps_tries so_far session req (ToWork work) moved steps has
    next_tries so_far session req asked lined (InTurn work later none is) has = has
    next_tries so_far session req asked lined (Again work course from next there request) has = has
    next_tries so_far session req asked lined (AgainAlone work from next there none) has = has

    change_keeps_tries : (so_far next : StepState) → Change input node so_far next → StepHasOneWork so_far → HasTries so_far → HasTries next
    change_keeps_tries so_far next (changes.Marks req number work attempt status learns over) good has = has
    change_keeps_tries so_far next (changes.Fails session req number work attempt status course ends done why) good has = has
    change_keeps_tries so_far next (changes.Stops session req number work attempt status course bytes ends over) good has = has
    change_keeps_tries so_far next (changes.Refuses session req number work attempt status course cause ends done why) good has =
        course_refused-keeps HasTries ended_tries (λ entry before now. now) session req cause course (without_ended_work session req work status so_far) has
    change_keeps_tries so_far next (changes.Opens session req asked lined comes enough) good has = next_tries so_far session req asked lined comes has
    change_keeps_tries so_far next (changes.Holds session req asked lined comes short touched) good has =
        next_tries so_far session req asked lined comes has
    change_keeps_tries so_far next (changes.Denies session req asked lined request comes short untouched there own) good has =
        request_refused-keeps HasTries ended_tries (λ entry before now. now) req
        (Halt (changes.zones_of_members lined.node) (zones_for asked.work)) request (changes.without_denied_work session req asked lined)
        (next_tries so_far session req asked lined comes has)
    change_keeps_tries so_far next (changes.Strays req work gateway there none apart) good has = absurd (never_alone req work so_far there none good)
    change_keeps_tries so_far next (changes.Lines session req work moved steps waits) good has =
        steps_tries so_far session req (ToWork work) moved steps has
    change_keeps_tries so_far next (changes.Appends session req entry moved steps) good has =
        steps_tries so_far session req (ToEntry entry) moved steps has
    change_keeps_tries so_far next (changes.Replies session req reply moved steps) good has =
        ended_tries session req reply moved (steps_tries so_far session req (ToReply reply) moved steps has)
    change_keeps_tries so_far next (changes.Arrives session req ask disk arrival on) good has = has
    change_keeps_tries so_far next (changes.Rejects session req ask cause arrival) good has = has
    change_keeps_tries so_far next (changes.Recovers due) good has = has

received_tries : (input : Input) (node : Node) → HasTries node.gateway.tries (input_received input (at_first node))
unfolding entry_read on_request on_recover_tick on_back
received_tries (inputs.Guest req session ask) node = refl
received_tries (inputs.Request request) node = refl
received_tries (inputs.Reply rsp) node =
    cond_either (HasTries node.gateway.tries) (gateways.gateway_awaits rsp.number node.gateway) (at_first node)
    (recovery_stepped (recovery_steps.recovery_on_reply rsp (recovery_state_of node)) (at_first node)) refl refl
received_tries (inputs.Lost number) node =
    cond_either (HasTries node.gateway.tries) (gateways.gateway_awaits number node.gateway) (at_first node)
    (recovery_stepped (recovery_steps.recovery_on_loss number (recovery_state_of node)) (at_first node)) refl refl
received_tries (inputs.LogEntry entry) node = refl
received_tries inputs.Put node = by_outbox node.outbox
  where
    by_outbox : (outbox : List Entry) → HasTries node.gateway.tries (on_put outbox (at_first node))
    by_outbox [] = refl
    by_outbox (entry ∷ later) = refl
received_tries inputs.RecoverTick node = refl
received_tries inputs.RetryTick node = refl
received_tries (inputs.Back entries) node = refl

pub tries_stay : (input : Input) (node : Node) → May input node → HasOneWorkPerRequest node
    → (node_step input node).node.gateway.tries ≡ node.gateway.tries
tries_stay input node may driven =
    let sound : IsSoundStep input node = (meets_numbers input node may.condition, driven) in
    (kept_by_chain (λ so_far. StepHasOneWork so_far × HasTries node.gateway.tries so_far)
    (λ so_far next change both. (
      change_keeps_one_work so_far next change sound both.0,
      change_keeps_tries node.gateway.tries so_far next change both.0 both.1,
    )) (step_chain input node)
    (received_one_work input node driven.driven, received_tries input node)).1
