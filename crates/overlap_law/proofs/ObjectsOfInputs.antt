-- What a script asks to write is small; what a recovery asks creates nothing; and a node that serves or comes back begins no write.
use Rattle.std.proofs.Common.{◌≡◌, arith, ℕ, zero, suc, ◌≤◌, List, [], ◌∷◌, map, All, Some, refl}
use Rattle.std.proofs.lemmas.List.Elements.{All-nil, All-cons, All-head, All-tail, All-filter}
use Rattle.proof_tools.proofs.Booleans.{cond_either}
use Rattle.object_id.specs.declared.limits.TheConstants.{WRITE_BYTES_MAX}
use Rattle.object_id.specs.declared.entry.Entry.{Entry}
use Rattle.cluster_script.specs.declared.statement.Statement.{Statement}
use Rattle.cluster_script.specs.declared.statement.Statement.TheVariants as lines
use Rattle.cluster_script.specs.Language.{MayStand, IsScript}
use Rattle.cluster_script.specs.NumberedRequests.{request_at}
use Rattle.cluster_script.specs.Statements.{is_request, requests_of}
use Rattle.cluster_script.proofs.PhaseLaws.{length-payload_of}
use Rattle.peer_proto.specs.declared.ask.PeerAsk.{PeerAsk}
use Rattle.peer_proto.specs.declared.ask.PeerAsk.TheVariants as peer_asks
use Rattle.peer_proto.specs.declared.ask.PeerReq.{PeerReq}
use Rattle.vdi_directory.specs.declared.effect.Effect.{Effect}
use Rattle.vdi_directory.specs.Decisions.{log_effects}
use Rattle.recovery.specs.State.{Message}
use Rattle.recovery.specs.Tick.{tick_messages, tick_sends}
use Rattle.sheep_node.specs.declared.ask.Ask.{Ask}
use Rattle.sheep_node.specs.declared.ask.Ask.TheVariants as asks
use Rattle.sheep_node.specs.declared.input.Input.TheVariants as inputs
use Rattle.sheep_node.specs.State.{Node}
use Rattle.sheep_node.specs.RecoveryView.{recovery_state_of}
use Rattle.sheep_node.specs.StepState.{StepState, at_first, with_node}
use Rattle.sheep_node.specs.LogReading.{on_back}
use Rattle.sheep_node.specs.Step.{on_request, is_due, with_recovered, recovered_put, on_recover_tick, on_input, node_step}
use Rattle.sheep_node.proofs.ValidSteps.{given}
use Rattle.sheep_world.specs.Asking.{ask_of_statement}
use Rattle.sheep_world.proofs.ValidNodes.{got_is}
use Rattle.overlap_law.proofs.KnownAsks.{IsKnownAsk, IsKnownMessage, sent_known}
use Rattle.overlap_law.proofs.KnownDisksInRuns.{MayStandSomewhere, each_stands}
use Rattle.overlap_law.proofs.ObjectsCounted.{bytes_written}
use Rattle.overlap_law.proofs.ObjectsOfRequests.{AreWithin, none_within}
use Rattle.overlap_law.proofs.ObjectsOfRows.{AskWithin, SentWithin}

-- ---- what a script writes

abbrev pub IsSmall : Ask → Type 0
IsSmall (asks.Disk ask) = bytes_written ask ≤ WRITE_BYTES_MAX
IsSmall _ = Unit {0}

asked_small : (before : List Statement) (line : Statement) (ask : Ask) → MayStand before line → ask_of_statement line ≡ Some ask
    → IsSmall ask
asked_small before (lines.Create session policy shift name size) ask may is = given IsSmall is tt
asked_small before (lines.OpenDisk session name tag) ask may is = given IsSmall is tt
asked_small before (lines.Close session) ask may is = given IsSmall is tt
asked_small before (lines.Read session offset size) ask may is = given IsSmall is (omega arith)
asked_small before (lines.Write session offset size pattern) ask may is =
    let most = may.3 in
    let long = length-payload_of pattern size in
    given IsSmall is (omega (arith, most, long))
asked_small before (lines.Snapshot session tag) ask may is = given IsSmall is tt
asked_small before (lines.Clone session base tag name) ask may is = given IsSmall is tt
asked_small before (lines.Delete session name tag) ask may is = given IsSmall is tt
asked_small before (lines.Check session) ask may is = given IsSmall is tt
asked_small before _ ask may is = absurd (cc (is))

pub request_small : (script : List Statement) → IsScript script → (req : ℕ) (line : Statement) (ask : Ask)
    → request_at script req ≡ Some line
    → ask_of_statement line ≡ Some ask → IsSmall ask
request_small script is_script zero line ask at is = absurd (cc (at))
request_small script is_script (suc place) line ask at is =
    let (before, may) = got_is MayStandSomewhere (requests_of script) place line
    (All-filter is_request MayStandSomewhere script (each_stands [] script is_script)) at in
    asked_small before line ask may is

-- ---- what a recovery asks creates nothing

module _ (K : ℕ → Type 0) where
  recovery_asks : (known : List Effect) (ask : PeerAsk) (wanted : ℕ) → IsKnownAsk known ask wanted → AskWithin K ask
  recovery_asks known (peer_asks.Create key size offset bytes) wanted is = absurd is
  recovery_asks known (peer_asks.Write key offset bytes) wanted is = absurd is
  recovery_asks known (peer_asks.Read key offset size) wanted is = absurd is
  recovery_asks known peer_asks.List wanted is = tt
  recovery_asks known (peer_asks.RecoverRead oid level) wanted is = tt

  messages_within : (known : List Effect) (messages : List Message) → All (IsKnownMessage known) messages
      → All (SentWithin K) (map (λ (message : Message). (message.to, message.request)) messages)
  messages_within known [] all = All-nil (SentWithin K)
  messages_within known (message ∷ messages) all =
      All-cons (SentWithin K) (message.to, message.request) (map (λ (message : Message). (message.to, message.request)) messages)
      (recovery_asks known message.request.ask message.wanted (All-head (IsKnownMessage known) message messages all))
      (messages_within known messages (All-tail (IsKnownMessage known) message messages all))

  pub tick_within : (node : Node) → All (SentWithin K) (on_recover_tick (at_first node)).outputs.sends
  unfolding on_recover_tick tick_sends
  tick_within node =
      messages_within (log_effects node.peer.entries) (tick_messages node.sends (recovery_state_of node))
      (sent_known (log_effects node.peer.entries) node.sends (recovery_state_of node) (λ oid. refl))

  -- ---- a node that serves, or comes back

  due_within : (so_far : StepState) → AreWithin K so_far.node.requests so_far.node.sessions
      → AreWithin K (recovered_put so_far).node.requests (recovered_put so_far).node.sessions
  unfolding recovered_put
  due_within so_far is =
      cond_either (λ (now : StepState). AreWithin K now.node.requests now.node.sessions) (is_due so_far.node) (with_recovered so_far) so_far
      is is

  pub served_requests : (request : PeerReq) (node : Node) → AreWithin K node.requests node.sessions
      → AreWithin K (node_step (inputs.Request request) node).node.requests (node_step (inputs.Request request) node).node.sessions
  unfolding node_step on_input on_request
  served_requests request node is = due_within (on_request request (at_first node)) is

  pub back_requests : (entries : List Entry) (node : Node)
      → AreWithin K (node_step (inputs.Back entries) node).node.requests (node_step (inputs.Back entries) node).node.sessions
  unfolding node_step on_input on_back
  back_requests entries node = due_within (with_node (on_back entries node) (at_first node)) (none_within K)
