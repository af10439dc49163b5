-- The attempts in the middle of a step: those before it, with what its cause tells of them, and those that the step has begun so far.
use Rattle.std.proofs.Common.{◌≡◌, ℕ, List, [], ◌++◌, Option, Some, sym, ap, refl, ◌∙◌, append-nil}
use Rattle.std.specs.Option.{option_map_or}
use Rattle.std.proofs.lemmas.List.{append_assoc}
use Rattle.proof_tools.proofs.FiniteMaps.{get-insert_same}
use Rattle.cluster_script.specs.declared.statement.Statement.{Statement}
use Rattle.cluster_script.specs.Sessions.{ScriptSession}
use Rattle.peer_proto.specs.declared.say.PeerRsp.{PeerRsp}
use Rattle.message_wire.specs.declared.name.MessageName.{MessageName}
use Rattle.message_wire.specs.declared.packet.Packet.{Packet}
use Rattle.message_wire.specs.declared.packet.Packet.TheVariants.{Request, Reply}
use Rattle.sheep_node.specs.declared.input.Input.TheVariants as inputs
use Rattle.sheep_node.specs.StepState.{StepState}
use Rattle.sheep_node.specs.Step.{node_step}
use Rattle.sheep_node.specs.Changes.{IsSoundStep}
use Rattle.sheep_node.proofs.StepResults.{step_says}
use Rattle.sheep_world.specs.World.{Host, World, host_at}
use Rattle.sheep_world.specs.NodeCauses.{NodeCause, GuestAsks, RequestComes, ReplyComes, LossIsTold, EntryIsRead, EntryIsPut, RecoveryTicks}
use Rattle.sheep_world.specs.NodeCauses.{WorkIsRetried, ClientAsks, input_of_cause, event_of_cause, IsCause, host_with_node}
use Rattle.sheep_world.proofs.AskedWorks.{ToldIsBelow}
use Rattle.overlap_law.specs.Attempts.{AttemptRecord, Flying, Doomed, attempts_with_fate, fate_of_say, attempts_begun_by}
use Rattle.overlap_law.specs.BegunAttempts.{attempts_begun_in, attempts_begun, attempts_after_delivery, attempts_after}
use Rattle.overlap_law.specs.Past.{MomentWithPast, past_after_event}
use Rattle.overlap_law.specs.StepMoments.{SteppingNode, IsStepping, StepsByChanges, StepsAtOnce, first_in_step, last_in_step, IsWithinStep}
use Rattle.overlap_law.specs.StepMoments.{world_in_step, moment_in_step, attempts_at_cause, attempts_of_change}
use Rattle.overlap_law.proofs.BegunNumbers.{begun-at_first}
use Rattle.overlap_law.proofs.AttemptsOfChanges.{begun-grows}
use Rattle.overlap_law.proofs.SendsOfChanges.{received_nothing}

module _ (script : List Statement) (world : World) (n : ℕ) (host : Host) (there : host_at n world ≡ Some host)
    (attempts : List AttemptRecord) where
  abbrev after : NodeCause → StepState → World
  after cause so_far = world_in_step script (record { n = n; host = host; cause = cause }) world so_far

  abbrev begun : StepState → List AttemptRecord
  begun so_far = attempts_begun_by host (host_with_node host so_far.node)

  -- what the node's step began
  begun_here : (cause : NodeCause) (so_far : StepState) → attempts_begun n world (after cause so_far) ≡ begun so_far
  begun_here cause so_far = λ i. attempts_begun_in (there i) (get-insert_same world.hosts n (host_with_node host so_far.node) i)

  begun_by_number : (k : ℕ) (cause : NodeCause) (so_far : StepState) → k ≡ n → attempts_begun k world (after cause so_far) ≡ begun so_far
  begun_by_number k cause so_far same = ap (λ (k : ℕ). attempts_begun k world (after cause so_far)) same ∙ begun_here cause so_far

  -- with those before
  begun_behind : (k : ℕ) (cause : NodeCause) (so_far : StepState) (front : List AttemptRecord) → k ≡ n
      → front ++ attempts_begun k world (after cause so_far) ≡ front ++ begun so_far
  begun_behind k cause so_far front same = ap (λ (more : List AttemptRecord). front ++ more) (begun_by_number k cause so_far same)

  told_of_loss : (name : MessageName) (packet : Packet) (so_far : StepState) → name.sender.0 ≡ n
      → attempts_after script (event_of_cause n (LossIsTold name packet)) world (after (LossIsTold name packet) so_far) attempts
      ≡ attempts_at_cause host.node (LossIsTold name packet) attempts ++ begun so_far
  unfolding attempts_after
  told_of_loss name (Request to bytes) so_far here =
      begun_behind name.sender.0 (LossIsTold name (Request to bytes)) so_far (attempts_with_fate Doomed name.sender name.number attempts)
      here
  told_of_loss name (Reply from bytes) so_far here = begun_behind name.sender.0 (LossIsTold name (Reply from bytes)) so_far attempts here

  pub attempts-by_changes : (cause : NodeCause) → StepsByChanges cause → IsCause script world n host cause → (so_far : StepState)
      → attempts_after script (event_of_cause n cause) world (after cause so_far) attempts ≡ attempts_at_cause host.node cause attempts
      ++ begun so_far
  unfolding attempts_after
  attempts-by_changes (GuestAsks session req ask) by so so_far =
      ap (λ (o : Option ScriptSession). attempts
      ++ option_map_or (λ (asking : ScriptSession). attempts_begun asking.node world (after (GuestAsks session req ask) so_far)) o [])
      so.declared
      ∙ begun_behind session.node (GuestAsks session req ask) so_far attempts so.gateway
  attempts-by_changes (RequestComes name to request) by so so_far = absurd by
  attempts-by_changes (ReplyComes name from rsp) by so so_far =
      ap (λ (o : Option Packet). attempts_after_delivery o name world (after (ReplyComes name from rsp) so_far) attempts) so.there
      ∙ begun_behind name.sender.0 (ReplyComes name from rsp) so_far attempts so.here
  attempts-by_changes (LossIsTold name packet) by so so_far = told_of_loss name packet so_far so.here
  attempts-by_changes (EntryIsRead entry) by so so_far = begun_behind n (EntryIsRead entry) so_far attempts refl
  attempts-by_changes (EntryIsPut entry) by so so_far = absurd by
  attempts-by_changes RecoveryTicks by so so_far = absurd by
  attempts-by_changes WorkIsRetried by so so_far = begun_behind n WorkIsRetried so_far attempts refl
  attempts-by_changes (ClientAsks req ask) by so so_far = begun_behind n (ClientAsks req ask) so_far attempts refl

  pub attempts-at_once : (cause : NodeCause) → StepsAtOnce cause → IsCause script world n host cause
      → attempts_after script (event_of_cause n cause) world (after cause (node_step (input_of_cause cause) host.node)) attempts
      ≡ attempts_at_cause host.node cause attempts
  unfolding attempts_after
  attempts-at_once (GuestAsks session req ask) by so = absurd by
  attempts-at_once (RequestComes name to request) by so =
      ap (λ (o : Option Packet). attempts_after_delivery o name world
      (after (RequestComes name to request) (node_step (inputs.Request request) host.node)) attempts) so.there
      ∙ ap (λ (say : Option PeerRsp). attempts_with_fate (option_map_or (λ (rsp : PeerRsp). fate_of_say rsp.say) say Flying) name.sender
      name.number attempts) (step_says (inputs.Request request) host.node)
  attempts-at_once (ReplyComes name from rsp) by so = absurd by
  attempts-at_once (LossIsTold name packet) by so = absurd by
  attempts-at_once (EntryIsRead entry) by so = absurd by
  attempts-at_once (EntryIsPut entry) by so = refl
  attempts-at_once RecoveryTicks by so = refl
  attempts-at_once WorkIsRetried by so = absurd by
  attempts-at_once (ClientAsks req ask) by so = absurd by

module _ (script : List Statement) (start : MomentWithPast) (stepping : SteppingNode) (is : IsStepping script start.world stepping) where
  abbrev moment : StepState → MomentWithPast
  moment so_far = moment_in_step script stepping start so_far

  -- the attempts of a moment in a step that goes by changes
  pub attempts-in_step : StepsByChanges stepping.cause → (so_far : StepState)
      → (moment so_far).past.attempts
      ≡ attempts_at_cause stepping.host.node stepping.cause start.past.attempts
      ++ attempts_begun_by stepping.host (host_with_node stepping.host so_far.node)
  unfolding past_after_event
  attempts-in_step by so_far =
      attempts-by_changes script start.world stepping.n stepping.host is.there start.past.attempts stepping.cause by is.caused so_far

  -- once the input is received, none has begun
  pub attempts-at_first : StepsByChanges stepping.cause
      → (moment (first_in_step stepping)).past.attempts ≡ attempts_at_cause stepping.host.node stepping.cause start.past.attempts
  attempts-at_first by =
      attempts-in_step by (first_in_step stepping)
      ∙ ap (λ (begun : List AttemptRecord). attempts_at_cause stepping.host.node stepping.cause start.past.attempts ++ begun)
      (begun-at_first stepping.host (first_in_step stepping).node (received_nothing stepping.cause stepping.host.node by).0)
      ∙ append-nil (attempts_at_cause stepping.host.node stepping.cause start.past.attempts)

  -- those at the end of a step that is one change
  pub attempts-at_end : StepsAtOnce stepping.cause
      → (moment (last_in_step stepping)).past.attempts ≡ attempts_at_cause stepping.host.node stepping.cause start.past.attempts
  unfolding past_after_event
  attempts-at_end by = attempts-at_once script start.world stepping.n stepping.host is.there start.past.attempts stepping.cause by is.caused

  -- each change of the node adds those that it begins
  pub attempts-grow : IsSoundStep (input_of_cause stepping.cause) stepping.host.node
      → ToldIsBelow (input_of_cause stepping.cause) stepping.host.node.sends
      → StepsByChanges stepping.cause → (so_far next : StepState) (within : IsWithinStep stepping so_far next)
      → (moment next).past.attempts ≡ (moment so_far).past.attempts ++ attempts_of_change stepping.host so_far next within.change
  attempts-grow sound given by so_far next within =
      let told = attempts_at_cause stepping.host.node stepping.cause start.past.attempts in
      let begun = attempts_begun_by stepping.host (host_with_node stepping.host so_far.node) in
      let more = attempts_of_change stepping.host so_far next within.change in
      attempts-in_step by next
      ∙ ap (λ (all : List AttemptRecord). told ++ all)
      (begun-grows (input_of_cause stepping.cause) stepping.host sound given so_far next within.leads within.change)
      ∙ sym (append_assoc told begun more)
      ∙ ap (λ (front : List AttemptRecord). front ++ more) (sym (attempts-in_step by so_far))
