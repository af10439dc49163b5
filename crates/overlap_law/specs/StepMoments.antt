-- The moments in the middle of a node's step: the world as far as the node has come, with the past that an event would leave which had
-- made that world. So the moment at the end of the step is the one after the event, and there is no second account of the past.
use Rattle.std.specs.Prelude.{◌≡◌, ℕ, true, List, [], fold, Some}
use Rattle.std.specs.Option.{option_map, option_to_list}
use Rattle.std.specs.FinMap as tree
use Rattle.cluster_script.specs.declared.statement.Statement.{Statement}
use Rattle.peer_service.specs.Serve.{reply_to}
use Rattle.gateway.specs.State.{Open}
use Rattle.message_wire.specs.declared.name.MessageName.{MessageName}
use Rattle.message_wire.specs.declared.packet.Packet.{Packet}
use Rattle.message_wire.specs.declared.packet.Packet.TheVariants.{Request, Reply}
use Rattle.sheep_node.specs.declared.input.Input.{Input}
use Rattle.sheep_node.specs.State.{Node}
use Rattle.sheep_node.specs.StepState.{StepState, at_first}
use Rattle.sheep_node.specs.Step.{node_step}
use Rattle.sheep_node.specs.Changes as changes
use Rattle.sheep_node.specs.Changes.{input_received, attempt_in, Change, Leads}
use Rattle.sheep_world.specs.World.{Host, World, host_at, is_host_up}
use Rattle.sheep_world.specs.NodeSteps.{wire_with_request, progress_after_reply, ask_after_replies}
use Rattle.sheep_world.specs.Step.{EventOutcome}
use Rattle.sheep_world.specs.NodeCauses.{NodeCause, GuestAsks, RequestComes, ReplyComes, LossIsTold, EntryIsRead, EntryIsPut, RecoveryTicks}
use Rattle.sheep_world.specs.NodeCauses.{WorkIsRetried, ClientAsks, input_of_cause, event_of_cause, IsCause, progress_at_cause}
use Rattle.sheep_world.specs.NodeCauses.{asked_at_cause, wire_at_cause}
use Rattle.sheep_world.specs.NodeCauses.{losses_after_cause, log_after_cause, wire_after_cause, host_with_node, history_of_cause}
use Rattle.sheep_world.specs.EventKinds.{outcome_of_step}
use Rattle.sheep_world.specs.Began.{MakesMove}
use Rattle.overlap_law.specs.Attempts.{AttemptRecord, Doomed, attempts_with_fate, fate_of_say, beginning_with}
use Rattle.overlap_law.specs.Reached.{Hosts}
use Rattle.overlap_law.specs.Past.{MomentWithPast, moment_after}

-- a node that steps: its number, its host before the step, and why it steps
pub record SteppingNode : Type 0 where
  pub n : ℕ
  pub host : Host
  pub cause : NodeCause

-- it is up in this world, has its cause there, and the event of the step may happen
pub record IsStepping (script : List Statement) (world : World) (stepping : SteppingNode) : Type 0 where
  pub there : host_at stepping.n world ≡ Some stepping.host
  pub up : is_host_up stepping.host ≡ true
  pub caused : IsCause script world stepping.n stepping.host stepping.cause
  pub made : MakesMove script (event_of_cause stepping.n stepping.cause) world
      (outcome_of_step script stepping.n stepping.host stepping.cause world)

-- whether the step goes by changes of the node, one after the other
abbrev pub StepsByChanges : NodeCause → Type 0
StepsByChanges (GuestAsks session req ask) = Unit {0}
StepsByChanges (RequestComes name to request) = ⊥
StepsByChanges (ReplyComes name from rsp) = Unit {0}
StepsByChanges (LossIsTold name packet) = Unit {0}
StepsByChanges (EntryIsRead entry) = Unit {0}
StepsByChanges (EntryIsPut entry) = ⊥
StepsByChanges RecoveryTicks = ⊥
StepsByChanges WorkIsRetried = Unit {0}
StepsByChanges (ClientAsks req ask) = Unit {0}

-- or is one change: a request is served, an entry is put, a recovery ticks
abbrev pub StepsAtOnce : NodeCause → Type 0
StepsAtOnce (GuestAsks session req ask) = ⊥
StepsAtOnce (RequestComes name to request) = Unit {0}
StepsAtOnce (ReplyComes name from rsp) = ⊥
StepsAtOnce (LossIsTold name packet) = ⊥
StepsAtOnce (EntryIsRead entry) = ⊥
StepsAtOnce (EntryIsPut entry) = Unit {0}
StepsAtOnce RecoveryTicks = Unit {0}
StepsAtOnce WorkIsRetried = ⊥
StepsAtOnce (ClientAsks req ask) = ⊥

-- ---- how far a step has come

-- the node once it received its input
abbrev pub first_in_step : SteppingNode → StepState
first_in_step stepping = input_received (input_of_cause stepping.cause) (at_first stepping.host.node)

-- the node at the end of its step
abbrev pub last_in_step : SteppingNode → StepState
last_in_step stepping = node_step (input_of_cause stepping.cause) stepping.host.node

-- the changes of the node from one point of its step to another
abbrev pub LeadsInStep : SteppingNode → StepState → StepState → Type 0
LeadsInStep stepping from to = Leads (input_of_cause stepping.cause) stepping.host.node from to

-- the step came so far, goes on by one change of the node, and then to its end
pub record IsWithinStep (stepping : SteppingNode) (so_far next : StepState) : Type 0 where
  pub leads : LeadsInStep stepping (first_in_step stepping) so_far
  pub change : Change (input_of_cause stepping.cause) stepping.host.node so_far next
  pub rest : LeadsInStep stepping next (last_in_step stepping)

-- ---- the moment then

-- the hosts, with the node as far as it has come
abbrev pub hosts_in_step : SteppingNode → World → StepState → Hosts
hosts_in_step stepping world so_far = tree.insert world.hosts stepping.n (host_with_node stepping.host so_far.node)

-- the world in which it has come so far: what the step began on is gone from the wire, what was sent by now is there, and what was
-- replied to by now is answered
abbrev pub world_in_step : List Statement → SteppingNode → World → StepState → World
world_in_step script stepping world so_far = record {
  hosts = hosts_in_step stepping world so_far;
  log = log_after_cause stepping.cause world.log;
  wire = wire_after_cause stepping.cause (hosts_in_step stepping world so_far) stepping.host.node
      (fold wire_with_request (wire_at_cause stepping.cause world.wire) so_far.outputs.sends);
  guests = fold (progress_after_reply script) (progress_at_cause stepping.cause world) so_far.outputs.replies;
  phase = world.phase;
  controls = world.controls;
  losses = losses_after_cause stepping.cause world;
  asked = option_map (ask_after_replies so_far.outputs.replies) (asked_at_cause stepping.cause world.asked);
  input = Some (input_of_cause stepping.cause);
  outputs = so_far.outputs;
}

-- what the event has made so far: that world, and what the history got by the replies so far
abbrev pub outcome_in_step : List Statement → SteppingNode → World → StepState → EventOutcome
outcome_in_step script stepping world so_far = record {
  world = world_in_step script stepping world so_far;
  grown = history_of_cause script stepping.cause world (world_in_step script stepping world so_far);
}

-- the moment then, from the one at which the event began
abbrev pub moment_in_step : List Statement → SteppingNode → MomentWithPast → StepState → MomentWithPast
moment_in_step script stepping start so_far =
    moment_after script (event_of_cause stepping.n stepping.cause) start (outcome_in_step script stepping start.world so_far)

-- ---- what a step makes of the attempts

-- those of which a lost request is told have that message doomed; a lost reply tells nothing
abbrev pub attempts_with_loss : MessageName → Packet → List AttemptRecord → List AttemptRecord
attempts_with_loss name (Request to bytes) attempts = attempts_with_fate Doomed name.sender name.number attempts
attempts_with_loss name (Reply from bytes) attempts = attempts

-- what the cause of a step tells of them: a request that is served or refused is told of, and one that is lost
abbrev pub attempts_at_cause : Node → NodeCause → List AttemptRecord → List AttemptRecord
attempts_at_cause node (GuestAsks session req ask) attempts = attempts
attempts_at_cause node (RequestComes name to request) attempts =
    attempts_with_fate (fate_of_say (reply_to node.peer request).say) name.sender name.number attempts
attempts_at_cause node (ReplyComes name from rsp) attempts = attempts
attempts_at_cause node (LossIsTold name packet) attempts = attempts_with_loss name packet attempts
attempts_at_cause node (EntryIsRead entry) attempts = attempts
attempts_at_cause node (EntryIsPut entry) attempts = attempts
attempts_at_cause node RecoveryTicks attempts = attempts
attempts_at_cause node WorkIsRetried attempts = attempts
attempts_at_cause node (ClientAsks req ask) attempts = attempts

-- the attempts that a change of the node begins: the one that opens, if its work makes something
abbrev pub attempts_of_change : {input : Input} {node : Node} → Host → (so_far next : StepState) → Change input node so_far next
    → List AttemptRecord
attempts_of_change host so_far next (changes.Marks req number work attempt status learns over) = []
attempts_of_change host so_far next (changes.Fails session req number work attempt status course ends done why) = []
attempts_of_change host so_far next (changes.Stops session req number work attempt status course bytes ends over) = []
attempts_of_change host so_far next (changes.Refuses session req number work attempt status course cause ends done why) = []
attempts_of_change host so_far next (changes.Opens session req asked lined comes enough) =
    option_to_list
    (beginning_with (host_with_node host lined.node) lined.node.sends req asked.work (Open (attempt_in asked lined.node)))
attempts_of_change host so_far next (changes.Holds session req asked lined comes short touched) = []
attempts_of_change host so_far next (changes.Denies session req asked lined request comes short untouched there own) = []
attempts_of_change host so_far next (changes.Strays req work gateway there none apart) = []
attempts_of_change host so_far next (changes.Lines session req work moved steps waits) = []
attempts_of_change host so_far next (changes.Appends session req entry moved steps) = []
attempts_of_change host so_far next (changes.Replies session req reply moved steps) = []
attempts_of_change host so_far next (changes.Arrives session req ask disk arrival on) = []
attempts_of_change host so_far next (changes.Rejects session req ask cause arrival) = []
attempts_of_change host so_far next (changes.Recovers due) = []
