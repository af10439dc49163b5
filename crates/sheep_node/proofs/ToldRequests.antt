-- The request that waits for an entry of the log may be told the decision on it, and behind that the step goes on.
use Rattle.std.proofs.Common.{◌≡◌, ℕ, true, Option, Some, None, refl, sym, ap, subst, ◌∙◌}
use Rattle.std.specs.FinMap as tree
use Rattle.std.specs.Option.{option_map}
use Rattle.proof_tools.proofs.Lists.{find-contains}
use Rattle.proof_tools.proofs.FiniteMaps.{get-entry}
use Rattle.object_id.specs.declared.entry.Entry.{Entry}
use Rattle.vdi_directory.specs.declared.decision.Decision.{Decision}
use Rattle.peer_service.specs.LogReading.{decision_on}
use Rattle.sheep_node.specs.declared.input.Input.TheVariants as inputs
use Rattle.sheep_node.specs.declared.course.Request.{Request}
use Rattle.sheep_node.specs.State.{Node}
use Rattle.sheep_node.specs.StepState.{StepState, at_first, with_node}
use Rattle.sheep_node.specs.AwaitedEntry.{waits_for_entry}
use Rattle.sheep_node.specs.LogReading.{entry_read, asker_of, decision_told}
use Rattle.sheep_node.specs.KeptLog.{asker_among}
use Rattle.sheep_node.specs.Kept.{told_at, told_if_asked}
use Rattle.sheep_node.specs.Changes.{input_received}
use Rattle.sheep_node.specs.May.{May}
use Rattle.sheep_node.specs.NodeInvariant.{IsSoundNode}
use Rattle.sheep_node.specs.InStep.{IsInStep, MayBeTold, MayBeToldIfThere, MayBeToldIfAsked}
use Rattle.sheep_node.proofs.OneWorkChanges.{wanted_never}
use Rattle.sheep_node.proofs.ReachedSteps.{IsReached}
use Rattle.sheep_node.proofs.StepChain.{begins, course_walk}
use Rattle.sheep_node.proofs.InSteps.{may_come_to_work}

module _ (entry : Entry) (node : Node) where
  -- the node has read the entry
  abbrev pub node_read : StepState
  node_read = with_node (entry_read entry node) (at_first node)

  abbrev pub decision : Decision
  decision = decision_on entry node.peer

  -- the request that was found is there, and waits for the entry
  abbrev IsFound : ℕ × Request → Type 0
  IsFound found = (tree.get node.requests found.0 ≡ Some found.1) × (waits_for_entry entry found.1.course ≡ true)

  found_there : (found : ℕ × Request) → asker_of entry node ≡ Some found → IsFound found
  found_there found is =
      let one = find-contains (λ (found : ℕ × Request). waits_for_entry entry found.1.course) (tree.entries node.requests) found is in
      (get-entry node.requests found one.0, one.1)

  module _ (may : May (inputs.LogEntry entry) node) (sound : IsSoundNode node) where
    in_step : {n : ℕ} {next : StepState} → IsReached (inputs.LogEntry entry) node (input_received (inputs.LogEntry entry) (at_first node)) n next
        → IsInStep next
    in_step walk = record { input = inputs.LogEntry entry; node = node; may = may; sound = sound; leads = walk.leads }

    asker_may_be_told : (found : ℕ × Request) → IsFound found → MayBeTold found.0 decision found.1 node_read
    unfolding entry_read
    asker_may_be_told found is = record {
      may = may_come_to_work node_read (in_step (begins (inputs.LogEntry entry) node)) found.0 found.1 is.0 (wanted_never entry found.1.course is.1);
      after = in_step (course_walk entry refl node_read refl refl (begins (inputs.LogEntry entry) node) found.0 found.1.session found.1.course is.0 is.1);
    }

    may_be_told : (req : ℕ) → asker_among entry node.requests ≡ Some req
        → MayBeToldIfThere req decision (tree.get node_read.node.requests req) node_read
    unfolding entry_read
    may_be_told req is = by_found (asker_of entry node) refl is
      where
        by_found : (found : Option (ℕ × Request)) → asker_of entry node ≡ found → option_map (λ (found : ℕ × Request). found.0) found ≡ Some req
            → MayBeToldIfThere req decision (tree.get node_read.node.requests req) node_read
        by_found None at is = absurd (cc (is))
        by_found (Some found) at is =
            let same : found.0 ≡ req = cc (is) in
            let there = found_there found at in
            subst (λ q. MayBeToldIfThere q decision (tree.get node_read.node.requests q) node_read) same
            (subst (λ (request : Option Request). MayBeToldIfThere found.0 decision request node_read) (sym there.0) (asker_may_be_told found there))

  -- the decision goes to that request, as it is by then
  told_to_asker : (req : ℕ) → asker_among entry node.requests ≡ Some req
      → told_at req decision (tree.get node_read.node.requests req) node_read ≡ decision_told decision (asker_of entry node) node_read
  unfolding entry_read
  told_to_asker req is = by_found (asker_of entry node) refl is
    where
      by_found : (found : Option (ℕ × Request)) → asker_of entry node ≡ found → option_map (λ (found : ℕ × Request). found.0) found ≡ Some req
          → told_at req decision (tree.get node_read.node.requests req) node_read ≡ decision_told decision (asker_of entry node) node_read
      by_found None at is = absurd (cc (is))
      by_found (Some found) at is =
          let same : found.0 ≡ req = cc (is) in
          let there = found_there found at in
          sym (ap (λ q. told_at q decision (tree.get node_read.node.requests q) node_read) same)
          ∙ ap (λ (request : Option Request). told_at found.0 decision request node_read) there.0
          ∙ sym (ap (λ (found : Option (ℕ × Request)). decision_told decision found node_read) at)

  -- to nobody where nobody waits for the entry
  told_to_nobody : asker_among entry node.requests ≡ None → node_read ≡ decision_told decision (asker_of entry node) node_read
  told_to_nobody is = by_found (asker_of entry node) refl is
    where
      by_found : (found : Option (ℕ × Request)) → asker_of entry node ≡ found → option_map (λ (found : ℕ × Request). found.0) found ≡ None
          → node_read ≡ decision_told decision (asker_of entry node) node_read
      by_found None at is = sym (ap (λ (found : Option (ℕ × Request)). decision_told decision found node_read) at)
      by_found (Some found) at is = absurd (cc (is))

  -- whoever asked, or nobody
  pub told_whoever_asked : (asker : Option ℕ) → asker_among entry node.requests ≡ asker
      → told_if_asked asker decision node_read ≡ decision_told decision (asker_of entry node) node_read
  told_whoever_asked None is = told_to_nobody is
  told_whoever_asked (Some req) is = told_to_asker req is

  pub whoever_may_be_told : May (inputs.LogEntry entry) node → IsSoundNode node → (asker : Option ℕ) → asker_among entry node.requests ≡ asker
      → MayBeToldIfAsked asker decision node_read
  whoever_may_be_told may sound None is = tt
  whoever_may_be_told may sound (Some req) is = may_be_told may sound req is
