-- What an event makes of the world, in nine kinds, each with what was found when it happened.
use Rattle.std.specs.Prelude.{◌≡◌, ℕ, ◌+◌, true, false, List, [], ◌∷◌, ◌++◌, drop, fold, Some, Err}
use Rattle.std.specs.FinMap as tree
use Rattle.object_id.specs.declared.entry.Entry.{Entry}
use Rattle.object_id.specs.declared.entry.Entry.TheVariants as entries
use Rattle.cluster_script.specs.declared.statement.Statement.{Statement}
use Rattle.cluster_script.specs.declared.statement.Statement.TheVariants as lines
use Rattle.cluster_script.specs.Settings.{tries_of, vnodes_of}
use Rattle.peer_proto.specs.declared.fault.PeerFault.{PeerFault}
use Rattle.peer_proto.specs.Ask.{ask_in}
use Rattle.peer_proto.specs.Say.{say_in}
use Rattle.sheep_node.specs.declared.event.Event.{Event}
use Rattle.sheep_node.specs.declared.event.Event.TheVariants as events
use Rattle.sheep_node.specs.declared.input.Input.TheVariants as inputs
use Rattle.sheep_node.specs.State as nodes
use Rattle.sheep_node.specs.Step.{node_step}
use Rattle.message_wire.specs.declared.name.MessageName.{MessageName}
use Rattle.message_wire.specs.declared.packet.Packet.{Packet}
use Rattle.message_wire.specs.declared.packet.Packet.TheVariants.{Request, Reply}
use Rattle.message_wire.specs.Message.{without_replies}
use Rattle.sheep_world.specs.World.{Host, World, host_at, is_host_up, is_up, is_newest_member, message_at}
use Rattle.sheep_world.specs.World.{next_control}
use Rattle.sheep_world.specs.Conditions.{may_go, has_end_in_wire, may_end_phase}
use Rattle.sheep_world.specs.Opening.{initial_host, with_phase}
use Rattle.sheep_world.specs.Messages.{losses_after_loss}
use Rattle.sheep_world.specs.NodeSteps.{wire_with_request, progress_after_reply, at_rest, ask_after_replies}
use Rattle.sheep_world.specs.MembershipChanges.{lost_host, join_of, last_weight, revived_host}
use Rattle.sheep_world.specs.HistoryAdditions.{writers_lost}
use Rattle.sheep_world.specs.Enabled.{loss_of}
use Rattle.sheep_world.specs.Step.{EventOutcome, only}
use Rattle.sheep_world.specs.NodeCauses.{NodeCause, event_of_cause, IsCause, world_after_cause, history_of_cause, host_with_node}
use Rattle.std.specs.Option.{option_map}

-- what a step of a node makes
abbrev pub outcome_of_step : List Statement → ℕ → Host → NodeCause → World → EventOutcome
outcome_of_step statements n host cause world = record {
  world = world_after_cause statements n host cause world;
  grown = history_of_cause statements cause world (world_after_cause statements n host cause world);
}

-- a node steps
pub record IsNodeStep (statements : List Statement) (event : Event) (world : World) (made : EventOutcome) : Type 0 where
  pub n : ℕ
  pub host : Host
  pub cause : NodeCause
  pub there : host_at n world ≡ Some host
  pub up : is_host_up host ≡ true
  pub caused : IsCause statements world n host cause
  pub event_so : event_of_cause n cause ≡ event
  pub made_so : outcome_of_step statements n host cause world ≡ made

-- a message is lost whose sender isn't up, so that no node is told
pub record IsUntoldLoss (event : Event) (world : World) (made : EventOutcome) : Type 0 where
  pub name : MessageName
  pub packet : Packet
  pub there : message_at name world ≡ Some packet
  pub down : is_up name.sender.0 world ≡ false
  pub may : may_go name packet world ≡ true
  pub event_so : loss_of name packet ≡ event
  pub made_so : only (record (at_rest world) { wire = tree.remove world.wire name; losses = losses_after_loss name packet world }) ≡ made

-- bytes that are no message
abbrev pub IsUnreadable : Packet → Type 0
IsUnreadable (Request to bytes) = (fault : PeerFault) × (ask_in bytes ≡ Err fault)
IsUnreadable (Reply from bytes) = (fault : PeerFault) × (say_in bytes ≡ Err fault)

-- bytes come that are no message, and change nothing
pub record IsUnreadDelivery (event : Event) (world : World) (made : EventOutcome) : Type 0 where
  pub name : MessageName
  pub packet : Packet
  pub there : message_at name world ≡ Some packet
  pub unread : IsUnreadable packet
  pub event_so : events.Deliver name.sender name.number ≡ event
  pub made_so : only (at_rest world) ≡ made

-- a node is lost
pub record IsNodeLoss (statements : List Statement) (event : Event) (world : World) (made : EventOutcome) : Type 0 where
  pub n : ℕ
  pub host : Host
  pub there : host_at n world ≡ Some host
  pub up : is_host_up host ≡ true
  pub control : next_control world ≡ Some (lines.Fail n)
  pub event_so : events.Lost (record { 0 = n }) ≡ event
  pub made_so : record {
    world = record (at_rest world) {
      hosts = tree.insert world.hosts n (lost_host host);
      wire = without_replies n world.wire;
      controls = drop 1 world.controls;
    };
    grown = writers_lost statements world n (Some host);
  } ≡ made

-- a lost member leaves
pub record IsNodeLeave (event : Event) (world : World) (made : EventOutcome) : Type 0 where
  pub n : ℕ
  pub host : Host
  pub there : host_at n world ≡ Some host
  pub lost : host.is_lost ≡ true
  pub member : is_newest_member n world ≡ true
  pub event_so : events.Leave (record { 0 = n }) ≡ event
  pub made_so : only (record (at_rest world) { log = world.log ++ entries.Leave (record { 0 = n }) ∷ [] }) ≡ made

-- a member gets another weight
pub record IsNodeReweight (event : Event) (world : World) (made : EventOutcome) : Type 0 where
  pub n : ℕ
  pub vnodes : ℕ
  pub control : next_control world ≡ Some (lines.Reweight n vnodes)
  pub event_so : events.Reweight (record { 0 = n }) ≡ event
  pub made_so : only (record (at_rest world) {
    log = world.log ++ entries.Reweight (record { 0 = n }) vnodes ∷ [];
    controls = drop 1 world.controls;
  }) ≡ made

-- the world once a node joined
abbrev pub world_after_join : List Statement → ℕ → World → World
world_after_join statements n world = record (at_rest world) {
  hosts = tree.insert world.hosts n (initial_host (nodes.initial_node (record { 0 = n }) (tries_of statements)));
  log = world.log ++ join_of statements n (vnodes_of statements) ∷ [];
  controls = drop 1 world.controls;
}

-- a node joins
pub record IsNodeJoin (statements : List Statement) (event : Event) (world : World) (made : EventOutcome) : Type 0 where
  pub n : ℕ
  pub control : next_control world ≡ Some (lines.Join n)
  pub event_so : events.Join (record { 0 = n }) ≡ event
  pub made_so : only (world_after_join statements n world) ≡ made

-- the log with which a node comes back
abbrev pub log_after_return : List Statement → ℕ → World → List Entry
log_after_return statements n world = world.log ++ join_of statements n (last_weight world.log n) ∷ []

-- the world once a node came back
abbrev pub world_after_return : List Statement → ℕ → Host → World → World
world_after_return statements n host world =
    let so_far = node_step (inputs.Back (log_after_return statements n world)) host.node in
    record {
      hosts = tree.insert world.hosts n (host_with_node (revived_host host) so_far.node);
      log = log_after_return statements n world;
      wire = fold wire_with_request world.wire so_far.outputs.sends;
      guests = fold (progress_after_reply statements) world.guests so_far.outputs.replies;
      phase = world.phase;
      controls = drop 1 world.controls;
      losses = world.losses;
      asked = option_map (ask_after_replies so_far.outputs.replies) world.asked;
      input = Some (inputs.Back (log_after_return statements n world));
      outputs = so_far.outputs;
    }

-- a lost node comes back
pub record IsNodeReturn (statements : List Statement) (event : Event) (world : World) (made : EventOutcome) : Type 0 where
  pub n : ℕ
  pub host : Host
  pub there : host_at n world ≡ Some host
  pub lost : host.is_lost ≡ true
  pub control : next_control world ≡ Some (lines.Back n)
  pub no_member : is_newest_member n world ≡ false
  pub no_end : has_end_in_wire n world ≡ false
  pub event_so : events.Back (record { 0 = n }) ≡ event
  pub made_so : only (world_after_return statements n host world) ≡ made

-- a phase ends
pub record IsPhaseEnd (statements : List Statement) (event : Event) (world : World) (made : EventOutcome) : Type 0 where
  pub may : may_end_phase statements world ≡ true
  pub event_so : events.Phase ≡ event
  pub made_so : only (with_phase statements (world.phase + 1) (at_rest world)) ≡ made

-- what an event makes of the world
pub data EventKind (statements : List Statement) (event : Event) (world : World) (made : EventOutcome) : Type 0 where
  NodeStep : IsNodeStep statements event world made → EventKind statements event world made
  UntoldLoss : IsUntoldLoss event world made → EventKind statements event world made
  UnreadDelivery : IsUnreadDelivery event world made → EventKind statements event world made
  NodeLoss : IsNodeLoss statements event world made → EventKind statements event world made
  NodeLeave : IsNodeLeave event world made → EventKind statements event world made
  NodeReweight : IsNodeReweight event world made → EventKind statements event world made
  NodeJoin : IsNodeJoin statements event world made → EventKind statements event world made
  NodeReturn : IsNodeReturn statements event world made → EventKind statements event world made
  PhaseEnd : IsPhaseEnd statements event world made → EventKind statements event world made
