-- Where a request is, the node has read something, and so it has entered its epoch.
use Rattle.std.proofs.Common.{◌≡◌, ◌≢◌, ℕ, zero, suc, ◌≤◌, ◌||◌, Bool, false, List, [], ◌∷◌, ◌++◌, Some, refl, ap, sym, subst, ◌∙◌}
use native.Mathlib.Omega.{arith}
use Rattle.std.specs.Prelude.{IsTrue}
use Rattle.std.specs.Ordering.{nat_cmp}
use Rattle.std.specs.FinMap as tree
use Rattle.std.proofs.lemmas.Bool.{eq-eqb}
use Rattle.object_id.specs.declared.node.NodeId.{NodeId}
use Rattle.object_id.specs.declared.entry.Entry.{Entry}
use Rattle.epoch_log.specs.Members as members
use Rattle.epoch_log.specs.Epochs.{epoch_of}
use Rattle.vnode_table.specs.Epochs.{EpochMembers, is_entered, members_at}
use Rattle.sheep_node.specs.declared.input.Input.{Input}
use Rattle.sheep_node.specs.declared.input.Input.TheVariants as inputs
use Rattle.sheep_node.specs.declared.ask.Ask.{Ask}
use Rattle.sheep_node.specs.declared.course.Request.{Request}
use Rattle.sheep_node.specs.State.{Node, initial_node}
use Rattle.sheep_node.specs.StepState.{StepState, at_first}
use Rattle.sheep_node.specs.LogReading.{is_epoch_member, epochs_up_to, on_back}
use Rattle.sheep_node.specs.Step.{node_step}
use Rattle.sheep_node.specs.May.{May, Meets}
use Rattle.sheep_node.specs.StepFacts.{epochs_of, IsByTheLog, HasReadIfAsked, read_after}
use Rattle.sheep_node.specs.Changes.{input_received, Leads}
use Rattle.sheep_node.proofs.RequestChanges.{AllAre, change_keeps_requests, received_requests}
use Rattle.sheep_node.proofs.StepResults.{step_reads}
use Rattle.sheep_node.proofs.LogLaws.{step_follows}
use Rattle.sheep_node.proofs.StepEffects.{untouched_in, Untouched, IsInOrder, change_keeps_order, received_in_order, step_in_order}
use Rattle.sheep_node.proofs.StepChain.{kept_by_chain, step_chain}

-- ---- the entries

pushed : (entries : List Entry) (entry : Entry) → entries ++ entry ∷ [] ≢ []
pushed [] entry is = absurd (cc (is))
pushed (first ∷ later) entry is = absurd (cc (is))

-- a member of its epoch has read something
pub member_has_read : (node : Node) → IsByTheLog node → IsTrue (is_epoch_member node) → node.peer.entries ≢ []
member_has_read node log member none =
    let unread : node.epochs ≡ [] = log.epochs_so ∙ ap epochs_of none in
    let nobody : is_epoch_member node ≡ false = ap (λ (epochs : List EpochMembers). members.is_member node.me.0 (members_at epochs node.peer.epoch)) unread in
    absurd (cc (member, nobody))

guest_has_read : (input : Input) (node : Node) → May input node → IsByTheLog node → (req session : ℕ) (ask : Ask)
    → input ≡ inputs.Guest req session ask → node.peer.entries ≢ []
guest_has_read input node may log req session ask from =
    member_has_read node log (subst (λ (input : Input). Meets input node) from may.condition).member

-- ---- a step

pub read_if_asked_at_opening : (me : NodeId) (tries : ℕ) → HasReadIfAsked (initial_node me tries)
read_if_asked_at_opening me tries req request got none = let nothing = tree.get-empty {X = Request} nat_cmp req in absurd (cc (nothing, got))

-- no request is there once a node came back
none_back : (entries : List Entry) (node : Node) (so_far : StepState)
    → Leads (inputs.Back entries) node (input_received (inputs.Back entries) (at_first node)) so_far → AllAre (λ q. ⊥) so_far.node.requests
unfolding on_back
none_back entries node so_far leads =
    kept_by_chain (λ (so_far : StepState). AllAre (λ q. ⊥) so_far.node.requests)
    (change_keeps_requests (λ q. ⊥) (inputs.Back entries) node (λ req session ask from. absurd (cc (from)))) leads
    (λ req request got. let none = tree.get-empty {X = Request} nat_cmp req in absurd (cc (none, got)))

-- what was read stays read, but where a node comes back
still_read : (input : Input) (node : Node) → node.peer.entries ≢ [] → ((entries : List Entry) → input ≡ inputs.Back entries → ⊥)
    → read_after input node.peer.entries ≢ []
still_read (inputs.Guest number session ask) node some other = some
still_read (inputs.Request asked) node some other = some
still_read (inputs.Reply rsp) node some other = some
still_read (inputs.Lost number) node some other = some
still_read (inputs.LogEntry entry) node some other = pushed node.peer.entries entry
still_read inputs.Put node some other = some
still_read inputs.RecoverTick node some other = some
still_read inputs.RetryTick node some other = some
still_read (inputs.Back entries) node some other = absurd (other entries refl)

-- where a request is in the middle of a step, the node has read something by its end
read_in_step : (input : Input) (node : Node) → May input node → IsByTheLog node → HasReadIfAsked node → (so_far : StepState)
    → Leads input node (input_received input (at_first node)) so_far → (req : ℕ) (request : Request)
    → tree.get so_far.node.requests req ≡ Some request → read_after input node.peer.entries ≢ []
read_in_step input node may log all so_far leads req request got =
    let some = kept_by_chain (λ (so_far : StepState). AllAre (λ q. node.peer.entries ≢ []) so_far.node.requests)
    (change_keeps_requests (λ q. node.peer.entries ≢ []) input node (guest_has_read input node may log)) leads
    (received_requests (λ q. node.peer.entries ≢ []) input node all) req request got in
    still_read input node some (λ entries back. came_back entries back leads)
  where
    came_back : (entries : List Entry) → input ≡ inputs.Back entries → Leads input node (input_received input (at_first node)) so_far → ⊥
    came_back entries back leads =
        none_back entries node so_far
        (subst (λ (input : Input). Leads input node (input_received input (at_first node)) so_far) back leads) req request got

pub read_if_asked_stays : (input : Input) (node : Node) → May input node → IsByTheLog node → HasReadIfAsked node → HasReadIfAsked (node_step input node).node
read_if_asked_stays input node may log all req request got none =
    read_in_step input node may log all (node_step input node) (step_chain input node) req request got (sym (step_reads input node) ∙ none)

-- ---- the epoch

newest_entered : (entries : List Entry) (epoch : ℕ) → 1 ≤ epoch → IsTrue (is_entered (epochs_up_to entries epoch) epoch)
unfolding epochs_up_to
newest_entered entries zero most = absurd (omega (arith, most))
newest_entered entries (suc epoch) most =
    ap (λ (b : Bool). b || is_entered (epochs_up_to entries epoch) (suc epoch)) (eq-eqb (suc epoch) (suc epoch) refl)

pub log_entered : (entries : List Entry) → entries ≢ [] → IsTrue (is_entered (epochs_of entries) (epoch_of entries))
log_entered [] some = absurd (some refl)
log_entered (first ∷ later) some = newest_entered (first ∷ later) (epoch_of (first ∷ later)) (omega arith)

-- where a request is in the middle of a step, the node's epoch was entered
pub entered_in_step : (input : Input) (node : Node) → May input node → IsByTheLog node → HasReadIfAsked node → (so_far : StepState)
    → Leads input node (input_received input (at_first node)) so_far → (req : ℕ) (request : Request)
    → tree.get so_far.node.requests req ≡ Some request → IsTrue (is_entered so_far.node.epochs so_far.node.peer.epoch)
entered_in_step input node may log all so_far leads req request got =
    let first = input_received input (at_first node) in
    let here = kept_by_chain (IsInOrder node.sends first.node.recovered (untouched_in first))
    (change_keeps_order node.sends first.node.recovered (untouched_in first)) leads (received_in_order input node) in
    let last = step_in_order input node in
    let follows = step_follows input node may log in
    let end = (node_step input node).node in
    let some = read_in_step input node may log all so_far leads req request got in
    let read : IsTrue (is_entered (epochs_of end.peer.entries) (epoch_of end.peer.entries))
    = log_entered end.peer.entries (λ none. some (sym (step_reads input node) ∙ none)) in
    subst (λ (now : Untouched). IsTrue (is_entered now.epochs now.peer.epoch)) (last.same ∙ sym here.same)
    (subst (λ (epoch : ℕ). IsTrue (is_entered end.epochs epoch)) (sym follows.epoch_so)
    (subst (λ (epochs : List EpochMembers). IsTrue (is_entered epochs (epoch_of end.peer.entries))) (sym follows.epochs_so) read))

-- and so has an epoch begun
epoch_begun : (entries : List Entry) → entries ≢ [] → 1 ≤ epoch_of entries
epoch_begun [] some = absurd (some refl)
epoch_begun (first ∷ later) some = omega arith

pub epoch_begun_in_step : (input : Input) (node : Node) → May input node → IsByTheLog node → HasReadIfAsked node → (so_far : StepState)
    → Leads input node (input_received input (at_first node)) so_far → (req : ℕ) (request : Request)
    → tree.get so_far.node.requests req ≡ Some request → 1 ≤ so_far.node.peer.epoch
epoch_begun_in_step input node may log all so_far leads req request got =
    let first = input_received input (at_first node) in
    let here = kept_by_chain (IsInOrder node.sends first.node.recovered (untouched_in first))
    (change_keeps_order node.sends first.node.recovered (untouched_in first)) leads (received_in_order input node) in
    let last = step_in_order input node in
    let follows = step_follows input node may log in
    let end = (node_step input node).node in
    let some = read_in_step input node may log all so_far leads req request got in
    subst (λ (now : Untouched). 1 ≤ now.peer.epoch) (last.same ∙ sym here.same)
    (subst (λ (epoch : ℕ). 1 ≤ epoch) (sym follows.epoch_so)
    (epoch_begun end.peer.entries (λ none. some (sym (step_reads input node) ∙ none))))
