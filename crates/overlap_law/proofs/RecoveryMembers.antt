-- A node's recovery is of the members of its epoch, by what the node has read; and it is of the node's own epoch, if the node is a member
-- of that. Each step of a node leaves it so.
use Rattle.std.proofs.Common.{◌≡◌, ◌⊎◌, inl, inr, ⊎_elim, arith, ℕ, suc, ◌+◌, ◌≤◌, ◌<◌, ◌&&◌, Bool, true, false, cond, List, [], ◌∷◌, ◌++◌}
use Rattle.std.proofs.Common.{length, filter, map, Option, Some, None, refl, sym, ap, subst, ◌∙◌}
use Rattle.std.proofs.lemmas.Bool.{eq-eqb}
use Rattle.proof_tools.proofs.Booleans.{cond_either}
use Rattle.object_id.specs.declared.entry.Entry.{Entry}
use Rattle.object_id.specs.declared.entry.Member.{Member}
use Rattle.object_id.specs.declared.node.NodeId.{NodeId}
use Rattle.epoch_log.specs.Members as members
use Rattle.epoch_log.specs.Epochs.{begins_epoch, epoch_of, members_in}
use Rattle.epoch_log.proofs.EpochLemmas.{epoch_of-append, members_in-append}
use Rattle.vnode_table.specs.Epochs.{EpochMembers, members_at}
use Rattle.peer_proto.specs.declared.say.PeerSay.{PeerSay}
use Rattle.peer_service.specs.Back.{closed_at_end, come_back}
use Rattle.peer_service.specs.Epochs.{peer_settled_to}
use Rattle.peer_service.specs.LogReading.{without_objects}
use Rattle.gateway.specs.State as gateways
use Rattle.recovery.specs.Frame.{Frame}
use Rattle.recovery.specs.Shown.{shown_with_pending}
use Rattle.recovery.specs.State.{RecoveryState, is_listed}
use Rattle.recovery.specs.Steps as recovery_steps
use Rattle.recovery.specs.Steps.{to_recover, at_start, recovery_from_epoch}
use Rattle.recovery.proofs.StepLemmas.{frame_of_tick, frame_of_end}
use Rattle.sheep_node.specs.declared.input.Input.{Input}
use Rattle.sheep_node.specs.declared.input.Input.TheVariants as inputs
use Rattle.sheep_node.specs.State.{Node, initial_node}
use Rattle.sheep_node.specs.RecoveryView.{recovery_state_of}
use Rattle.sheep_node.specs.StepState.{StepState, at_first}
use Rattle.sheep_node.specs.LogReading.{epochs_up_to, epoch_members, is_epoch_member, node_with_entry, recovery_in_epoch, entry_read}
use Rattle.sheep_node.specs.LogReading.{come_back_with, on_back}
use Rattle.sheep_node.specs.Step.{on_request, recovery_stepped, on_put, on_recover_tick}
use Rattle.sheep_node.specs.StepFacts.{epochs_of, may_begin_recovery, IsByTheLog}
use Rattle.sheep_node.specs.Changes.{input_received, Leads}
use Rattle.sheep_node.proofs.LogLaws.{epoch_more}
use Rattle.sheep_node.proofs.PeerLog.{Log, served_same, entries_reading}
use Rattle.sheep_node.proofs.StepEffects.{Untouched}
use Rattle.overlap_law.proofs.AskedEpochs.{read_epoch}
use Rattle.overlap_law.proofs.SendsOfChanges.{in_order_so_far}

-- the nodes of members
abbrev pub nodes_of_members : List Member → List NodeId
nodes_of_members list = map (λ (member : Member). member.node) list

-- a recovery is of an epoch that its node came to, with the members that what the node has read gives that epoch, the node among them; and
-- it is of the node's epoch, if the node is a member of that. Before the first recovery none is due
pub record RecoversBy (me : ℕ) (entries : List Entry) (epoch aim : ℕ) (nodes : List NodeId) (recovered : Bool) : Type 0 where
  pub begun : 1 ≤ aim
  pub entered : aim ≤ epoch
  pub members_so : 1 < aim → nodes ≡ nodes_of_members (members_in entries aim)
  pub own : 1 < aim → members.is_member me (members_in entries aim) ≡ true
  pub present : (aim ≡ epoch) ⊎ (members.is_member me (members_in entries epoch) ≡ false)
  pub put : recovered ≡ false → 1 < aim

abbrev pub RecoversByTheLog : Node → Type 0
RecoversByTheLog node =
    RecoversBy node.me.0 node.peer.entries node.peer.epoch node.recovery.epoch node.recovery.members node.recovered

pub opening_recovers : (me : NodeId) (tries : ℕ) → RecoversByTheLog (initial_node me tries)
opening_recovers me tries = record {
  begun = omega arith;
  entered = omega arith;
  members_so = λ later. absurd (omega (arith, later));
  own = λ later. absurd (omega (arith, later));
  present = inl refl;
  put = λ due. absurd (cc (due));
}

-- ---- what of it a step changes

-- the parts of a node of which it speaks, but for whether `Recovered` was put
pub record RecoveryParts : Type 0 where
  pub me : NodeId
  pub entries : List Entry
  pub epoch : ℕ
  pub aim : ℕ
  pub nodes : List NodeId

abbrev pub recovery_parts : Node → RecoveryParts
recovery_parts node = record {
  me = node.me;
  entries = node.peer.entries;
  epoch = node.peer.epoch;
  aim = node.recovery.epoch;
  nodes = node.recovery.members;
}

abbrev parts_untouched : Untouched → RecoveryParts
parts_untouched u = record { me = u.me; entries = u.peer.entries; epoch = u.peer.epoch; aim = u.recovery.epoch; nodes = u.recovery.members }

-- what is never taken back
due_before : (was now : Bool) → (was ≡ true → now ≡ true) → now ≡ false → was ≡ false
due_before true now stays due = let put = stays refl in absurd (cc (put, due))
due_before false now stays due = refl

-- it speaks of these parts, and of what is still to be put
from_parts : (one other : RecoveryParts) (recovered was : Bool) → other ≡ one → (recovered ≡ false → was ≡ false)
    → RecoversBy one.me.0 one.entries one.epoch one.aim one.nodes was
    → RecoversBy other.me.0 other.entries other.epoch other.aim other.nodes recovered
from_parts one other recovered was same less so =
    subst (λ (p : RecoveryParts). RecoversBy p.me.0 p.entries p.epoch p.aim p.nodes recovered) (sym same) (record {
      begun = so.begun;
      entered = so.entered;
      members_so = so.members_so;
      own = so.own;
      present = so.present;
      put = λ due. so.put (less due);
    })

-- the changes of a step leave them alone, and never take `Recovered` back
pub recovers_so_far : (input : Input) (node : Node) {so_far : StepState} → Leads input node (input_received input (at_first node)) so_far
    → RecoversByTheLog (input_received input (at_first node)).node → RecoversByTheLog so_far.node
recovers_so_far input node {so_far} leads so =
    let received = (input_received input (at_first node)).node in
    let in_order = in_order_so_far so_far leads in
    from_parts (recovery_parts received) (recovery_parts so_far.node) so_far.node.recovered received.recovered
    (ap parts_untouched in_order.same) (due_before received.recovered so_far.node.recovered in_order.recovered_stays) so

ended_parts : (number : ℕ) (said : Option PeerSay) (node : Node)
    → recovery_parts (recovery_stepped (recovery_steps.message_end number said (recovery_state_of node)) (at_first node)).node
    ≡ recovery_parts node
ended_parts number said node = ap
    (λ (f : Frame). record { me = node.me; entries = node.peer.entries; epoch = node.peer.epoch; aim = f.recovered; nodes = f.members })
    (frame_of_end number said (recovery_state_of node))

-- an input that begins no recovery leaves them as they are
pub parts_received : (input : Input) (node : Node) → may_begin_recovery input ≡ false
    → recovery_parts (input_received input (at_first node)).node ≡ recovery_parts node
unfolding on_request on_recover_tick recovery_steps.recovery_on_reply recovery_steps.recovery_on_loss
parts_received (inputs.Guest req session ask) node quiet = refl
parts_received (inputs.Request request) node quiet = ap
    (λ (log : Log). record {
      me = node.me;
      entries = log.entries;
      epoch = log.epoch;
      aim = node.recovery.epoch;
      nodes = node.recovery.members;
    })
    (served_same node.peer request)
parts_received (inputs.Reply rsp) node quiet =
    cond_either (λ (so_far : StepState). recovery_parts so_far.node ≡ recovery_parts node) (gateways.gateway_awaits rsp.number node.gateway)
    (at_first node) (recovery_stepped (recovery_steps.message_end rsp.number (Some rsp.say) (recovery_state_of node)) (at_first node))
    refl (ended_parts rsp.number (Some rsp.say) node)
parts_received (inputs.Lost number) node quiet =
    cond_either (λ (so_far : StepState). recovery_parts so_far.node ≡ recovery_parts node) (gateways.gateway_awaits number node.gateway)
    (at_first node) (recovery_stepped (recovery_steps.message_end number None (recovery_state_of node)) (at_first node))
    refl (ended_parts number None node)
parts_received (inputs.LogEntry entry) node quiet = absurd (cc (quiet))
parts_received inputs.Put node quiet = by_outbox node.outbox
  where
    by_outbox : (outbox : List Entry) → recovery_parts (on_put outbox (at_first node)).node ≡ recovery_parts node
    by_outbox [] = refl
    by_outbox (entry ∷ later) = refl
parts_received inputs.RecoverTick node quiet = ap
    (λ (f : Frame). record { me = node.me; entries = node.peer.entries; epoch = node.peer.epoch; aim = f.recovered; nodes = f.members })
    (frame_of_tick node.sends (recovery_state_of node))
parts_received inputs.RetryTick node quiet = refl
parts_received (inputs.Back entries) node quiet = absurd (cc (quiet))

pub recovered_received : (input : Input) (node : Node) → may_begin_recovery input ≡ false
    → (input_received input (at_first node)).node.recovered ≡ node.recovered
unfolding on_request on_recover_tick
recovered_received (inputs.Guest req session ask) node quiet = refl
recovered_received (inputs.Request request) node quiet = refl
recovered_received (inputs.Reply rsp) node quiet =
    cond_either (λ (so_far : StepState). so_far.node.recovered ≡ node.recovered) (gateways.gateway_awaits rsp.number node.gateway)
    (at_first node) (recovery_stepped (recovery_steps.recovery_on_reply rsp (recovery_state_of node)) (at_first node)) refl refl
recovered_received (inputs.Lost number) node quiet =
    cond_either (λ (so_far : StepState). so_far.node.recovered ≡ node.recovered) (gateways.gateway_awaits number node.gateway)
    (at_first node) (recovery_stepped (recovery_steps.recovery_on_loss number (recovery_state_of node)) (at_first node)) refl refl
recovered_received (inputs.LogEntry entry) node quiet = absurd (cc (quiet))
recovered_received inputs.Put node quiet = by_outbox node.outbox
  where
    by_outbox : (outbox : List Entry) → (on_put outbox (at_first node)).node.recovered ≡ node.recovered
    by_outbox [] = refl
    by_outbox (entry ∷ later) = refl
recovered_received inputs.RecoverTick node quiet = refl
recovered_received inputs.RetryTick node quiet = refl
recovered_received (inputs.Back entries) node quiet = absurd (cc (quiet))

pub quiet_recovers : (input : Input) (node : Node) → may_begin_recovery input ≡ false → RecoversByTheLog node
    → RecoversByTheLog (input_received input (at_first node)).node
quiet_recovers input node quiet so =
    from_parts (recovery_parts node) (recovery_parts (input_received input (at_first node)).node)
    (input_received input (at_first node)).node.recovered node.recovered (parts_received input node quiet)
    (λ due. sym (recovered_received input node quiet) ∙ due) so

-- ---- the members of the newest epoch

pub some_read : (entries : List Entry) (entry : Entry) → 1 ≤ length (entries ++ entry ∷ [])
some_read [] entry = omega arith
some_read (first ∷ later) entry = omega arith

newest_at : (entries : List Entry) (begun : ℕ) → members_at (epochs_up_to entries (suc begun)) (suc begun) ≡ members_in entries (suc begun)
unfolding epochs_up_to
newest_at entries begun =
    ap (λ (b : Bool). cond b (members_in entries (suc begun)) (members_at (epochs_up_to entries begun) (suc begun)))
    (eq-eqb (suc begun) (suc begun) refl)

newest_members : (entries : List Entry)
    → members_at (epochs_up_to entries (epoch_of entries)) (epoch_of entries) ≡ members_in entries (epoch_of entries)
newest_members entries =
    let is : epoch_of entries ≡ suc (length (filter begins_epoch entries)) = omega arith in
    subst (λ (epoch : ℕ). members_at (epochs_up_to entries epoch) epoch ≡ members_in entries epoch) (sym is)
    (newest_at entries (length (filter begins_epoch entries)))

epochs_some : (entries : List Entry) → 1 ≤ length entries → epochs_of entries ≡ epochs_up_to entries (epoch_of entries)
epochs_some [] some = absurd (omega (arith, some))
epochs_some (first ∷ later) some = refl

-- of a node that is by the log
pub members_of_newest : (node : Node) → IsByTheLog node → 1 ≤ length node.peer.entries
    → members_at node.epochs node.peer.epoch ≡ members_in node.peer.entries (epoch_of node.peer.entries)
members_of_newest node follows some =
    ap (members_at node.epochs) follows.epoch_so
    ∙ ap (λ (epochs : List EpochMembers). members_at epochs (epoch_of node.peer.entries))
    (follows.epochs_so ∙ epochs_some node.peer.entries some)
    ∙ newest_members node.peer.entries

-- ---- an entry is read

pub begun_epoch : (epoch : ℕ) (nodes : List NodeId) (state : RecoveryState)
    → ((recovery_from_epoch epoch nodes state).recovery.epoch ≡ epoch) × ((recovery_from_epoch epoch nodes state).recovery.members ≡ nodes)
unfolding recovery_from_epoch
begun_epoch epoch nodes state =
    let start = at_start epoch nodes state in
    cond_either (λ (s : RecoveryState). (s.recovery.epoch ≡ epoch) × (s.recovery.members ≡ nodes)) (is_listed start.recovery)
    (record start { shown = shown_with_pending (to_recover start) start.shown }) start (refl, refl) (refl, refl)

module _ (entry : Entry) (node : Node) (before : IsByTheLog node) (after : IsByTheLog (entry_read entry node))
    (was : RecoversByTheLog node) where
  abbrev entered : Node
  entered = node_with_entry entry node

  abbrev read : Node
  read = entry_read entry node

  abbrev some_now : 1 ≤ length read.peer.entries
  some_now = subst (λ (entries : List Entry). 1 ≤ length entries) (sym (entries_reading entry node)) (some_read node.peer.entries entry)

  -- the members of the epoch that the node is in then
  pub newest_then : epoch_members entered ≡ members_in read.peer.entries read.peer.epoch
  unfolding entry_read
  newest_then =
      ap (members_at read.epochs) (sym (read_epoch entry node))
      ∙ members_of_newest read after some_now
      ∙ ap (members_in read.peer.entries) (sym after.epoch_so)

  members_kept : (epoch : ℕ) → 1 ≤ length node.peer.entries → epoch ≤ epoch_of node.peer.entries
      → members_in read.peer.entries epoch ≡ members_in node.peer.entries epoch
  members_kept epoch some begun =
      ap (λ (entries : List Entry). members_in entries epoch) (entries_reading entry node)
      ∙ members_in-append node.peer.entries (entry ∷ []) epoch some begun

  -- who is in a later epoch than the first has read something
  some_before : 1 < node.peer.epoch → 1 ≤ length node.peer.entries
  some_before later = by_entries node.peer.entries refl
    where
      by_entries : (entries : List Entry) → node.peer.entries ≡ entries → 1 ≤ length entries
      by_entries [] none = let first : node.peer.epoch ≡ 1 = before.epoch_so ∙ ap epoch_of none in absurd (omega (arith, first, later))
      by_entries (first ∷ rest) is = omega arith

  same_epoch : begins_epoch entry ≡ false → read.peer.epoch ≡ node.peer.epoch
  same_epoch plain =
      let none : length (filter begins_epoch (entry ∷ [])) ≡ 0 = ap (λ (b : Bool). length (cond b (entry ∷ []) [])) plain in
      let sum : epoch_of (node.peer.entries ++ entry ∷ []) ≡ epoch_of node.peer.entries + length (filter begins_epoch (entry ∷ []))
      = epoch_of-append node.peer.entries (entry ∷ []) in
      let same : epoch_of (node.peer.entries ++ entry ∷ []) ≡ epoch_of node.peer.entries = omega (arith, none, sum) in
      after.epoch_so ∙ ap epoch_of (entries_reading entry node) ∙ same ∙ sym before.epoch_so

  next_epoch : begins_epoch entry ≡ true → read.peer.epoch ≡ suc node.peer.epoch
  next_epoch begins =
      after.epoch_so ∙ ap epoch_of (entries_reading entry node) ∙ epoch_more node.peer.entries entry begins ∙ ap suc (sym before.epoch_so)

  abbrev Then : RecoveryState → Bool → Type 0
  Then state recovered = RecoversBy node.me.0 read.peer.entries read.peer.epoch state.recovery.epoch state.recovery.members recovered

  -- the recovery goes on as it was
  goes_on : node.peer.epoch ≤ read.peer.epoch
      → (node.recovery.epoch ≡ read.peer.epoch) ⊎ (members.is_member node.me.0 (members_in read.peer.entries read.peer.epoch) ≡ false)
      → Then (recovery_state_of entered) node.recovered
  goes_on rises present = record {
    begun = was.begun;
    entered = (let old = was.entered in omega (arith, old, rises));
    members_so = λ later. was.members_so later ∙ ap nodes_of_members (sym (of_aim later));
    own = λ later. ap (members.is_member node.me.0) (of_aim later) ∙ was.own later;
    present = present;
    put = was.put;
  }
    where
      of_aim : 1 < node.recovery.epoch → members_in read.peer.entries node.recovery.epoch ≡ members_in node.peer.entries node.recovery.epoch
      of_aim later =
          let old = was.entered in
          let own : node.peer.epoch ≡ epoch_of node.peer.entries = before.epoch_so in
          members_kept node.recovery.epoch (some_before (omega (arith, later, old))) (omega (arith, own, old))

  recovery_then : (begins member : Bool) → begins_epoch entry ≡ begins → is_epoch_member entered ≡ member
      → Then (cond (begins && member) (recovery_in_epoch entered) (recovery_state_of entered))
      (cond (begins && member) false node.recovered)
  recovery_then true true begins member =
      let begun = begun_epoch entered.peer.epoch (nodes_of_members (epoch_members entered)) (recovery_state_of entered) in
      let aim : (recovery_in_epoch entered).recovery.epoch ≡ read.peer.epoch = begun.0 ∙ sym (read_epoch entry node) in
      let next : read.peer.epoch ≡ suc node.peer.epoch = next_epoch begins in
      let low = was.begun in
      let high = was.entered in
      record {
        begun = omega (arith, aim, next);
        entered = omega (arith, aim);
        members_so = λ later. begun.1 ∙ ap nodes_of_members newest_then
            ∙ ap (λ (epoch : ℕ). nodes_of_members (members_in read.peer.entries epoch)) (sym aim);
        own = λ later. ap (λ (epoch : ℕ). members.is_member node.me.0 (members_in read.peer.entries epoch)) aim
            ∙ ap (members.is_member node.me.0) (sym newest_then) ∙ member;
        present = inl aim;
        put = λ due. omega (arith, aim, next, low, high);
      }
  recovery_then true false begins out =
      let next : read.peer.epoch ≡ suc node.peer.epoch = next_epoch begins in
      goes_on (omega (arith, next)) (inr (ap (members.is_member node.me.0) (sym newest_then) ∙ out))
  recovery_then false member begins is =
      let same : read.peer.epoch ≡ node.peer.epoch = same_epoch begins in
      goes_on (omega (arith, same)) (by_first node.peer.entries refl)
    where
      by_first : (entries : List Entry) → node.peer.entries ≡ entries
          → (node.recovery.epoch ≡ read.peer.epoch) ⊎ (members.is_member node.me.0 (members_in read.peer.entries read.peer.epoch) ≡ false)
      by_first [] none =
          let first : node.peer.epoch ≡ 1 = before.epoch_so ∙ ap epoch_of none in
          let low = was.begun in
          let high = was.entered in
          let same : read.peer.epoch ≡ node.peer.epoch = same_epoch begins in
          inl (omega (arith, first, low, high, same))
      by_first (first ∷ rest) some = ⊎_elim
          (λ (own : node.recovery.epoch ≡ node.peer.epoch). inl (own ∙ sym (same_epoch begins)))
          (λ (out : members.is_member node.me.0 (members_in node.peer.entries node.peer.epoch) ≡ false).
          let own : node.peer.epoch ≡ epoch_of node.peer.entries = before.epoch_so in
          let long : 1 ≤ length node.peer.entries = subst (λ (entries : List Entry). 1 ≤ length entries) (sym some) (omega arith) in
          inr (ap (λ (epoch : ℕ). members.is_member node.me.0 (members_in read.peer.entries epoch)) (same_epoch begins)
          ∙ ap (members.is_member node.me.0) (members_kept node.peer.epoch long (omega (arith, own))) ∙ out))
          was.present

  pub read_recovers : RecoversByTheLog read
  unfolding entry_read
  read_recovers = recovery_then (begins_epoch entry) (is_epoch_member entered) refl refl

-- ---- a node comes back

pub back_members : (entries : List Entry) (node : Node)
    → epoch_members (come_back_with entries node) ≡ members_in entries (epoch_of entries)
unfolding come_back closed_at_end peer_settled_to without_objects
back_members entries node = newest_members entries

pub back_recovers : (entries : List Entry) (node : Node) → 1 < epoch_of entries
    → members.is_member node.me.0 (members_in entries (epoch_of entries)) ≡ true
    → RecoversByTheLog (on_back entries node)
unfolding on_back come_back closed_at_end peer_settled_to without_objects
back_recovers entries node above member =
    let back = come_back_with entries node in
    let begun = begun_epoch back.peer.epoch (nodes_of_members (epoch_members back)) (recovery_state_of back) in
    let aim : (recovery_in_epoch back).recovery.epoch ≡ epoch_of entries = begun.0 in
    record {
      begun = omega (arith, aim, above);
      entered = omega (arith, aim);
      members_so = λ later. begun.1 ∙ ap nodes_of_members (newest_members entries)
          ∙ ap (λ (epoch : ℕ). nodes_of_members (members_in entries epoch)) (sym aim);
      own = λ later. ap (λ (epoch : ℕ). members.is_member node.me.0 (members_in entries epoch)) aim ∙ member;
      present = inl aim;
      put = λ due. omega (arith, aim, above);
    }
