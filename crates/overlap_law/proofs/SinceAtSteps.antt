-- A step of a node that serves no request and reads no entry keeps that each row has what it owes, if what its recovery finds does.
use Rattle.std.proofs.Common.{◌≡◌, ◌≢◌, ⊎_elim, ℕ, Bool, List, Some, sym, subst}
use Rattle.std.specs.FinMap as tree
use Rattle.proof_tools.proofs.FiniteMaps.{get-insert_cases}
use Rattle.object_id.specs.declared.entry.Entry.{Entry}
use Rattle.cluster_script.specs.declared.statement.Statement.{Statement}
use Rattle.peer_proto.specs.declared.ask.PeerReq.{PeerReq}
use Rattle.peer_service.specs.State.{Peer}
use Rattle.recovery.specs.State.{Search}
use Rattle.vdi_directory.specs.Decisions.{log_effects}
use Rattle.sheep_node.specs.declared.input.Input.TheVariants as inputs
use Rattle.sheep_node.specs.StepState.{StepState}
use Rattle.sheep_node.specs.Step.{node_step}
use Rattle.sheep_world.specs.World.{Host}
use Rattle.sheep_world.specs.NodeCauses.{input_of_cause, host_with_node}
use Rattle.sheep_world.specs.Began.{Began}
use Rattle.overlap_law.specs.Past.{MomentWithPast}
use Rattle.overlap_law.specs.MomentChanges.{MomentChange, RunsAreInRange}
use Rattle.overlap_law.specs.ShapedAttempts.{AreShaped}
use Rattle.overlap_law.specs.Since.{RowsAreSince}
use Rattle.overlap_law.specs.StepMoments.{SteppingNode, IsStepping, moment_in_step}
use Rattle.overlap_law.specs.TiedAttempts.{IsTied}
use Rattle.overlap_law.proofs.FinishedInMoments.{TermsHold}
use Rattle.overlap_law.proofs.LaterAttempts.{AreLater}
use Rattle.overlap_law.proofs.SinceAtNodes.{PeerSince, all_since, had_since, FindsSince, stepped_since}
use Rattle.overlap_law.proofs.SinceLater.{NoneTold}

module _ (script : List Statement) (range : RunsAreInRange script) (start : MomentWithPast) (began : Began script start.world)
    (stepping : SteppingNode) (is : IsStepping script start.world stepping) (so_far : StepState)
    (change : MomentChange script start start (moment_in_step script stepping start so_far))
    (peer_so : (node_step (input_of_cause stepping.cause) stepping.host.node).node.peer ≡ so_far.node.peer)
    (good : ℕ → Bool) (terms : TermsHold start) (shaped : AreShaped start) (tied : IsTied start)
    (since : RowsAreSince (log_effects start.world.log) good start.world.hosts start.past.attempts)
    (pairs : AreLater script range start start (moment_in_step script stepping start so_far) began change terms shaped tied NoneTold)
    (Q : Search → Type 0) where
  abbrev after : MomentWithPast
  after = moment_in_step script stepping start so_far

  abbrev NodeSince : ℕ → Peer → Type 0
  NodeSince n peer = PeerSince script range start start after began change good since n peer

  stays : (n : ℕ) (host : Host) → tree.get start.world.hosts n ≡ Some host → NodeSince n host.node.peer
  stays n host there =
      had_since script range start start after began change good since NoneTold pairs n host there
      (λ oid i row got j now at told most. told)

  pub since_at_step
      : FindsSince script range start start after began change good since stepping.n stepping.host.node (input_of_cause stepping.cause) Q
      → ((request : PeerReq) → input_of_cause stepping.cause ≡ inputs.Request request → ⊥)
      → ((entry : Entry) → input_of_cause stepping.cause ≡ inputs.LogEntry entry → ⊥)
      → RowsAreSince (log_effects after.world.log) good after.world.hosts after.past.attempts
  since_at_step finds not_served no_entry =
      all_since script range start start after began change good since
      (λ n host there. ⊎_elim
      (λ (own : (n ≡ stepping.n) × (host_with_node stepping.host so_far.node ≡ host)).
      subst (λ (q : ℕ). NodeSince q host.node.peer) (sym own.0)
      (subst (λ (h : Host). NodeSince stepping.n h.node.peer) own.1
      (subst (NodeSince stepping.n) peer_so
      (stepped_since script range start start after began change good since stepping.n stepping.host.node (input_of_cause stepping.cause) Q
      (stays stepping.n stepping.host is.there) finds not_served no_entry))))
      (λ (other : (n ≢ stepping.n) × (tree.get start.world.hosts n ≡ Some host)). stays n host other.1)
      (get-insert_cases start.world.hosts stepping.n (host_with_node stepping.host so_far.node) n host there))
