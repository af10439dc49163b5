-- A node's epoch, its settled epoch and the members of its epochs are those of the entries that it has read.
use Rattle.std.proofs.Common.{◌≡◌, ℕ, zero, suc, ◌+◌, ◌<◌, ◌≤◌, nat_lt, Bool, true, false, cond, List, [], ◌∷◌, ◌++◌, length, filter, refl, ap, sym, subst, ◌∙◌, arith}
use Rattle.std.proofs.lemmas.Bool.{ltb-false}
use Rattle.proof_tools.proofs.Booleans.{cond_either}
use Rattle.object_id.specs.declared.node.NodeId.{NodeId}
use Rattle.object_id.specs.declared.entry.Entry.{Entry}
use Rattle.object_id.specs.declared.entry.Entry.TheVariants.{Format, Join, Leave, Reweight, Recovered, Reserve, Publish, Clone, Snapshot, Delete, Lock, Unlock}
use Rattle.epoch_log.specs.Epochs.{begins_epoch, epoch_of, settled_of}
use Rattle.epoch_log.specs.Appending.{is_format}
use Rattle.epoch_log.proofs.EpochLemmas.{epoch_of-append, members_in-append, settled_of-begun, settled_of-append}
use Rattle.object_id.specs.declared.policy.Policy.{Policy}
use Rattle.vnode_table.specs.Epochs.{EpochMembers}
use Rattle.vnode_table.specs.Targets.{targets_in}
use Rattle.gateway.specs.State as gateways
use Rattle.recovery.specs.Steps as recovery_steps
use Rattle.peer_service.specs.State.{Peer}
use Rattle.peer_service.specs.Epochs as peers
use Rattle.peer_service.specs.Epochs.{peer_settled_to}
use Rattle.peer_service.specs.LogReading.{without_objects, read_entry}
use Rattle.peer_service.specs.Back.{closed_at_end, come_back}
use Rattle.sheep_node.specs.declared.input.Input.{Input}
use Rattle.sheep_node.specs.declared.input.Input.TheVariants as inputs
use Rattle.sheep_node.specs.State.{Node, initial_node}
use Rattle.sheep_node.specs.LogReading.{entered_in, epochs_with_entry, peer_with_entry, recovery_with_entry, entry_read, epochs_up_to, on_back}
use Rattle.sheep_node.specs.RecoveryView.{recovery_state_of, with_recovered_rows}
use Rattle.sheep_node.specs.StepState.{StepState, at_first}
use Rattle.sheep_node.specs.Step.{on_request, recovery_stepped, on_put, on_recover_tick, node_step}
use Rattle.sheep_node.specs.May.{MayRead, Meets, May}
use Rattle.sheep_node.specs.StepFacts.{epochs_of, FollowsLog, IsByTheLog}
use Rattle.sheep_node.specs.Changes.{input_received}
use Rattle.sheep_node.proofs.PeerLog.{Log, served_same}
use Rattle.sheep_node.proofs.StepResults.{step_peer, step_epochs}

-- the epochs of entries, with one more

epochs_same : (entries : List Entry) (entry : Entry) (most : ℕ) → 1 ≤ length entries → most ≤ epoch_of entries
    → epochs_up_to (entries ++ entry ∷ []) most ≡ epochs_up_to entries most
unfolding epochs_up_to
epochs_same entries entry zero some begun = refl
epochs_same entries entry (suc most) some begun =
    let below : most ≤ epoch_of entries = omega arith in
    ap (λ members. record { epoch = suc most; members = members } ∷ epochs_up_to (entries ++ entry ∷ []) most)
    (members_in-append entries (entry ∷ []) (suc most) some begun)
    ∙ ap (λ epochs. entered_in entries (suc most) ∷ epochs) (epochs_same entries entry most some below)

pub epoch_more : (entries : List Entry) (entry : Entry) → begins_epoch entry ≡ true → epoch_of (entries ++ entry ∷ []) ≡ suc (epoch_of entries)
epoch_more entries entry e =
    let one : length (filter begins_epoch (entry ∷ [])) ≡ 1 = ap (λ b. length (cond b (entry ∷ []) [])) e in
    let all : epoch_of (entries ++ entry ∷ []) ≡ epoch_of entries + length (filter begins_epoch (entry ∷ [])) = epoch_of-append entries (entry ∷ []) in
    omega arith

epoch_kept : (entries : List Entry) (entry : Entry) → begins_epoch entry ≡ false → epoch_of (entries ++ entry ∷ []) ≡ epoch_of entries
epoch_kept entries entry e =
    let none : length (filter begins_epoch (entry ∷ [])) ≡ 0 = ap (λ b. length (cond b (entry ∷ []) [])) e in
    let all : epoch_of (entries ++ entry ∷ []) ≡ epoch_of entries + length (filter begins_epoch (entry ∷ [])) = epoch_of-append entries (entry ∷ []) in
    omega arith

-- the epochs of a log that isn't empty
epochs_there : (entries : List Entry) → 1 ≤ length entries → epochs_of entries ≡ epochs_up_to entries (epoch_of entries)
epochs_there [] some = absurd (omega arith)
epochs_there (first ∷ later) some = refl

some_more : (entries : List Entry) (entry : Entry) → 1 ≤ length (entries ++ entry ∷ [])
some_more [] entry = omega arith
some_more (first ∷ later) entry = omega arith

epochs_more : (entries : List Entry) (entry : Entry) → 1 ≤ length entries → begins_epoch entry ≡ true
    → epochs_of (entries ++ entry ∷ []) ≡ entered_in (entries ++ entry ∷ []) (epoch_of (entries ++ entry ∷ [])) ∷ epochs_of entries
unfolding epochs_up_to
epochs_more entries entry some e =
    let all : List Entry = entries ++ entry ∷ [] in
    let more : epoch_of all ≡ suc (epoch_of entries) = epoch_more entries entry e in
    let whole : epoch_of entries ≤ epoch_of entries = omega arith in
    epochs_there all (some_more entries entry)
    ∙ ap (epochs_up_to all) more
    ∙ ap (λ epochs. entered_in all (suc (epoch_of entries)) ∷ epochs) (epochs_same entries entry (epoch_of entries) some whole)
    ∙ ap (λ (epoch : ℕ). entered_in all epoch ∷ epochs_up_to entries (epoch_of entries)) (sym more)
    ∙ ap (λ epochs. entered_in all (epoch_of all) ∷ epochs) (sym (epochs_there entries some))

epochs_kept : (entries : List Entry) (entry : Entry) → 1 ≤ length entries → begins_epoch entry ≡ false
    → epochs_of (entries ++ entry ∷ []) ≡ epochs_of entries
epochs_kept entries entry some e =
    let all : List Entry = entries ++ entry ∷ [] in
    let whole : epoch_of entries ≤ epoch_of entries = omega arith in
    epochs_there all (some_more entries entry)
    ∙ ap (epochs_up_to all) (epoch_kept entries entry e)
    ∙ epochs_same entries entry (epoch_of entries) some whole
    ∙ sym (epochs_there entries some)

-- an entry is read

-- epoch and members, once an entry was read
pub record Entering (entries : List Entry) (epoch : ℕ) (epochs : List EpochMembers) (read : List Entry) (settled before : ℕ) : Type 0 where
  pub epoch_so : epoch ≡ epoch_of entries
  pub epochs_so : epochs ≡ epochs_of entries
  pub read_so : read ≡ entries
  pub settled_so : settled ≡ before

abbrev pub Enters : List Entry → ℕ → Peer → List EpochMembers → Type 0
Enters entries before peer epochs = Entering entries peer.epoch epochs peer.entries peer.settled before

epoch_enters : (targets : ℕ → ℕ → Policy → List NodeId) (entry : Entry) (node : Node) → 1 ≤ length node.peer.entries → begins_epoch entry ≡ true → IsByTheLog node
    → Enters (node.peer.entries ++ entry ∷ []) node.peer.settled (peers.peer_in_next_epoch node.me targets (read_entry entry node.peer))
    (entered_in (node.peer.entries ++ entry ∷ []) (epoch_of (node.peer.entries ++ entry ∷ [])) ∷ node.epochs)
unfolding read_entry without_objects peers.peer_in_next_epoch
epoch_enters targets entry node some e h =
    let all : List Entry = node.peer.entries ++ entry ∷ [] in
    let more : epoch_of all ≡ suc (epoch_of node.peer.entries) = epoch_more node.peer.entries entry e in
    let before : node.peer.epoch ≡ epoch_of node.peer.entries = h.epoch_so in
    record {
      epoch_so = omega arith;
      epochs_so = ap (λ epochs. entered_in all (epoch_of all) ∷ epochs) h.epochs_so ∙ sym (epochs_more node.peer.entries entry some e);
      read_so = refl;
      settled_so = refl;
    }

-- an entry that may be read after others isn't the first, and one that may be read first is
later_one : (entries : List Entry) (entry : Entry) → MayRead entries entry → 1 ≤ length entries → is_format entry ≡ false
later_one [] entry may some = absurd (omega arith)
later_one (first ∷ later) entry may some = may.later

-- the first entry is the format, which begins no later epoch
pub first_one : (entry : Entry) → MayRead [] entry → (is_format entry ≡ true) × (begins_epoch entry ≡ false)
first_one (Format members) may = (refl, refl)
first_one (Join node zone vnodes) may = absurd may
first_one (Leave node) may = absurd may
first_one (Reweight node vnodes) may = absurd may
first_one (Recovered node epoch) may = absurd may
first_one (Reserve by session name origin) may = absurd may
first_one (Publish by vid) may = absurd may
first_one (Clone by vid) may = absurd may
first_one (Snapshot by old vid) may = absurd may
first_one (Delete by session name tag) may = absurd may
first_one (Lock by session name tag) may = absurd may
first_one (Unlock by session vid) may = absurd may

begins_later : (entries : List Entry) (entry : Entry) → MayRead entries entry → begins_epoch entry ≡ true → 1 ≤ length entries
begins_later [] entry may e = let first = first_one entry may in absurd (cc (e, first.1))
begins_later (first ∷ later) entry may e = omega arith

pub none_before : (entries : List Entry) (entry : Entry) → MayRead entries entry → is_format entry ≡ true → entries ≡ []
none_before [] entry may e = refl
none_before (first ∷ later) entry may e = absurd (cc (e, may.later))

some_before : (entries : List Entry) (entry : Entry) → MayRead entries entry → is_format entry ≡ false → 1 ≤ length entries
some_before [] entry may e = let first = first_one entry may in absurd (cc (e, first.0))
some_before (first ∷ later) entry may e = omega arith

-- the first entry: nothing was read before, and epoch 1 has its members
first_epochs : (entries : List Entry) (entry : Entry) (epochs : List EpochMembers) → entries ≡ [] → begins_epoch entry ≡ false → epochs ≡ epochs_of entries
    → entered_in (entries ++ entry ∷ []) 1 ∷ epochs ≡ epochs_of (entries ++ entry ∷ [])
unfolding epochs_up_to
first_epochs [] entry epochs none e h =
    ap (λ later. entered_in (entry ∷ []) 1 ∷ later) h
    ∙ sym (ap (λ b. epochs_up_to (entry ∷ []) (length (cond b (entry ∷ []) []) + 1)) e)
first_epochs (first ∷ later) entry epochs none e h = absurd (cc (none))

other_enters : (entry : Entry) (node : Node) (b : Bool) → is_format entry ≡ b → MayRead node.peer.entries entry → begins_epoch entry ≡ false
    → IsByTheLog node
    → Enters (node.peer.entries ++ entry ∷ []) node.peer.settled (read_entry entry node.peer)
    (cond b (entered_in (node.peer.entries ++ entry ∷ []) 1 ∷ node.epochs) node.epochs)
unfolding read_entry without_objects
other_enters entry node true format may e h = record {
  epoch_so = h.epoch_so ∙ sym (epoch_kept node.peer.entries entry e);
  epochs_so = first_epochs node.peer.entries entry node.epochs (none_before node.peer.entries entry may format) e h.epochs_so;
  read_so = refl;
  settled_so = refl;
}
other_enters entry node false later may e h = record {
  epoch_so = h.epoch_so ∙ sym (epoch_kept node.peer.entries entry e);
  epochs_so = h.epochs_so ∙ sym (epochs_kept node.peer.entries entry (some_before node.peer.entries entry may later) e);
  read_so = refl;
  settled_so = refl;
}

pub entered_enters : (targets : ℕ → ℕ → Policy → List NodeId) (entry : Entry) (node : Node) (b : Bool) → begins_epoch entry ≡ b → MayRead node.peer.entries entry → IsByTheLog node
    → Enters (node.peer.entries ++ entry ∷ []) node.peer.settled
    (cond b (peers.peer_in_next_epoch node.me targets (read_entry entry node.peer)) (read_entry entry node.peer))
    (cond b (entered_in (node.peer.entries ++ entry ∷ []) (epoch_of (node.peer.entries ++ entry ∷ [])) ∷ node.epochs)
    (cond (is_format entry) (entered_in (node.peer.entries ++ entry ∷ []) 1 ∷ node.epochs) node.epochs))
entered_enters targets entry node true e may h = epoch_enters targets entry node (begins_later node.peer.entries entry may e) e h
entered_enters targets entry node false e may h = other_enters entry node (is_format entry) refl may e h

-- what is settled never falls
settled_grows : (entries : List Entry) (entry : Entry) → settled_of entries ≤ settled_of (entries ++ entry ∷ [])
settled_grows [] entry =
    let one : settled_of [] ≤ 1 = (settled_of-begun []).1 in
    let more : 1 ≤ settled_of (entry ∷ []) = (settled_of-begun (entry ∷ [])).0 in
    omega arith
settled_grows (first ∷ later) entry = settled_of-append (first ∷ later) (entry ∷ []) (omega arith)

settled_follows : (entries : List Entry) (settled : ℕ) (peer : Peer) (epochs : List EpochMembers) (b : Bool) → nat_lt peer.settled settled ≡ b
    → settled ≡ settled_of entries → peer.settled ≤ settled → Enters entries peer.settled peer epochs
    → FollowsLog (cond b (peer_settled_to settled peer) peer).epoch (cond b (peer_settled_to settled peer) peer).settled epochs
    (cond b (peer_settled_to settled peer) peer).entries
unfolding peer_settled_to
settled_follows entries settled peer epochs true e is_so grows h = record {
  epoch_so = h.epoch_so ∙ ap epoch_of (sym h.read_so);
  settled_so = is_so ∙ ap settled_of (sym h.read_so);
  epochs_so = h.epochs_so ∙ ap epochs_of (sym h.read_so);
}
settled_follows entries settled peer epochs false e is_so grows h =
    let back_again : settled ≤ peer.settled = ltb-false peer.settled settled e in
    let same : peer.settled ≡ settled = omega arith in
    record {
      epoch_so = h.epoch_so ∙ ap epoch_of (sym h.read_so);
      settled_so = same ∙ is_so ∙ ap settled_of (sym h.read_so);
      epochs_so = h.epochs_so ∙ ap epochs_of (sym h.read_so);
    }

pub reads_follow : (entry : Entry) (node : Node) → MayRead node.peer.entries entry → IsByTheLog node → IsByTheLog (entry_read entry node)
unfolding entry_read read_entry without_objects
reads_follow entry node may h =
    let all : List Entry = node.peer.entries ++ entry ∷ [] in
    let peer : Peer = with_recovered_rows (recovery_with_entry entry node) (peer_with_entry entry node) in
    let enters : Enters all node.peer.settled (peer_with_entry entry node) (epochs_with_entry entry node) =
    entered_enters (targets_in (epochs_with_entry entry node)) entry node (begins_epoch entry) refl may h in
    let grows : peer.settled ≤ settled_of all =
    subst (λ (k : ℕ). k ≤ settled_of all) (sym (enters.settled_so ∙ h.settled_so)) (settled_grows node.peer.entries entry) in
    settled_follows all (settled_of all) peer (epochs_with_entry entry node) (nat_lt peer.settled (settled_of all)) refl refl grows
    (record { epoch_so = enters.epoch_so; epochs_so = enters.epochs_so; read_so = enters.read_so; settled_so = refl })

-- coming back

pub back_follows : (entries : List Entry) (node : Node) → 1 < epoch_of entries → IsByTheLog (on_back entries node)
unfolding on_back come_back closed_at_end peer_settled_to without_objects
back_follows entries node above =
    record { epoch_so = refl; settled_so = refl; epochs_so = sym (epochs_there entries (has_value entries above)) }
  where
    has_value : (entries : List Entry) → 1 < epoch_of entries → 1 ≤ length entries
    has_value [] above = absurd (omega arith)
    has_value (first ∷ later) above = omega arith

-- each step

received_follows : (input : Input) (node : Node) → Meets input node → IsByTheLog node → IsByTheLog (input_received input (at_first node)).node
unfolding on_request on_recover_tick
received_follows (inputs.Guest req session ask) node may h = h
received_follows (inputs.Request request) node may h =
    subst (λ (log : Log). FollowsLog log.epoch log.settled node.epochs log.entries) (sym (served_same node.peer request)) h
received_follows (inputs.Reply rsp) node may h =
    cond_either (λ (start : StepState). IsByTheLog start.node) (gateways.gateway_awaits rsp.number node.gateway) (at_first node)
    (recovery_stepped (recovery_steps.recovery_on_reply rsp (recovery_state_of node)) (at_first node)) h
    (record { epoch_so = h.epoch_so; settled_so = h.settled_so; epochs_so = h.epochs_so })
received_follows (inputs.Lost number) node may h =
    cond_either (λ (start : StepState). IsByTheLog start.node) (gateways.gateway_awaits number node.gateway) (at_first node)
    (recovery_stepped (recovery_steps.recovery_on_loss number (recovery_state_of node)) (at_first node)) h
    (record { epoch_so = h.epoch_so; settled_so = h.settled_so; epochs_so = h.epochs_so })
received_follows (inputs.LogEntry entry) node may h = reads_follow entry node may h
received_follows inputs.Put node may h = by_outbox node.outbox
  where
    by_outbox : (outbox : List Entry) → IsByTheLog (on_put outbox (at_first node)).node
    by_outbox [] = h
    by_outbox (entry ∷ later) = record { epoch_so = h.epoch_so; settled_so = h.settled_so; epochs_so = h.epochs_so }
received_follows inputs.RecoverTick node may h =
    record { epoch_so = h.epoch_so; settled_so = h.settled_so; epochs_so = h.epochs_so }
received_follows inputs.RetryTick node may h = h
received_follows (inputs.Back entries) node may h = back_follows entries node may.above_1

-- a node stays where the entries that it has read have it
pub step_follows : (input : Input) (node : Node) → May input node → IsByTheLog node → IsByTheLog (node_step input node).node
step_follows input node may h =
    let start = (input_received input (at_first node)).node in
    subst (λ (peer : Peer). FollowsLog peer.epoch peer.settled (node_step input node).node.epochs peer.entries)
    (sym (step_peer input node))
    (subst (λ (epochs : List EpochMembers). FollowsLog start.peer.epoch start.peer.settled epochs start.peer.entries)
    (sym (step_epochs input node)) (received_follows input node may.condition h))

-- so it opens
pub opening_follows : (me : NodeId) (tries : ℕ) → IsByTheLog (initial_node me tries)
opening_follows me tries = record { epoch_so = refl; settled_so = refl; epochs_so = refl }
