-- How the rows of a node came to be as they are over a change of a moment: they stay, or the node stepped from a world of a run, on a
-- request of the wire or something else; or the node is new.
use Rattle.std.proofs.Common.{◌≡◌, ◌≢◌, ⊎_elim, ℕ, zero, suc, List, [], ◌∷◌, map, Some, slice_get, refl, sym, ap, subst, ◌∙◌}
use Rattle.std.specs.FinMap as tree
use Rattle.std.specs.List.{AllByRecursion}
use Rattle.std.proofs.lemmas.Option.{same_Some}
use Rattle.proof_tools.proofs.FiniteMaps.{get-insert_same, get-insert_cases, insert-insert}
use Rattle.object_id.specs.declared.entry.Entry.{Entry}
use Rattle.object_id.specs.declared.entry.Member.{Member}
use Rattle.object_id.specs.declared.node.NodeId.{NodeId}
use Rattle.epoch_log.specs.Epochs.{settled_of}
use Rattle.object_store.specs.Rows.{purged}
use Rattle.object_store.specs.Store.{SeenRow, rows_of, write_in}
use Rattle.object_store.proofs.StoreLaws.{rows_of-empty}
use Rattle.cluster_script.specs.declared.statement.Statement.{Statement}
use Rattle.cluster_script.specs.Settings.{tries_of}
use Rattle.peer_proto.specs.declared.ask.PeerReq.{PeerReq}
use Rattle.peer_service.specs.Epochs.{row_entering}
use Rattle.peer_service.specs.LogReading.{read_entry}
use Rattle.peer_service.specs.Serve.{reply_to}
use Rattle.recovery.specs.Shown.{NodeView}
use Rattle.vnode_table.specs.Targets.{targets_in}
use Rattle.message_wire.specs.declared.name.MessageName.{MessageName}
use Rattle.sheep_node.specs.declared.input.Input.{Input}
use Rattle.sheep_node.specs.declared.input.Input.TheVariants as inputs
use Rattle.sheep_node.specs.Changes as changes
use Rattle.sheep_node.specs.LogReading.{epochs_with_entry}
use Rattle.sheep_node.specs.State as nodes
use Rattle.sheep_node.specs.State.{Node}
use Rattle.sheep_node.specs.Step.{node_step}
use Rattle.sheep_node.specs.StepFacts.{IsByTheLog}
use Rattle.sheep_node.proofs.StepResults.{step_peer}
use Rattle.sheep_world.specs.World.{Host, World}
use Rattle.sheep_world.specs.Opening.{format_entry, initial_member_node, initial_world}
use Rattle.sheep_world.specs.MembershipChanges.{lost_host}
use Rattle.sheep_world.specs.Step.{EventOutcome}
use Rattle.sheep_world.specs.NodeCauses.{NodeCause, GuestAsks, RequestComes, ReplyComes, LossIsTold, EntryIsRead, EntryIsPut, RecoveryTicks}
use Rattle.sheep_world.specs.NodeCauses.{WorkIsRetried, ClientAsks, input_of_cause, event_of_cause, IsCause, host_with_node}
use Rattle.sheep_world.specs.NodeCauses.{world_after_cause}
use Rattle.sheep_world.specs.EventKinds.{log_after_return, outcome_of_step}
use Rattle.sheep_world.specs.HostChanges.{host_after_return, joined_host}
use Rattle.sheep_world.specs.Began.{Began}
use Rattle.sheep_world.proofs.BegunWorlds.{goes_on}
use Rattle.sheep_world.proofs.NodesByTheLog.{by_the_log}
use Rattle.sheep_world.proofs.WireAtOpening.{opening_found}
use Rattle.overlap_law.specs.Attempts.{attempts_with_fate, fate_of_say}
use Rattle.overlap_law.specs.Reached.{Hosts}
use Rattle.overlap_law.specs.Packets.{IsAsking}
use Rattle.overlap_law.specs.Past.{MomentWithPast, first_moment}
use Rattle.overlap_law.specs.StepMoments.{SteppingNode, IsStepping, StepsByChanges, first_in_step, last_in_step, moment_in_step}
use Rattle.overlap_law.specs.StepMoments.{attempts_at_cause}
use Rattle.overlap_law.specs.MomentChanges as moments
use Rattle.overlap_law.specs.MomentChanges.{MomentChange, RunsAreInRange}
use Rattle.overlap_law.proofs.AttemptsInSteps.{attempts-at_end}
use Rattle.overlap_law.proofs.EpochsRise.{same_so_far}
use Rattle.overlap_law.proofs.StoredRows.{KeepsRowsWhilePending, step-rows_while_pending}

-- a request of the wire is served or refused by a node, and the attempts are told of that
pub record IsServing (before after : MomentWithPast) (n : ℕ) (was : Host) (request : PeerReq) : Type 0 where
  pub name : MessageName
  pub to : NodeId
  pub here : to.0 ≡ n
  pub asking : IsAsking before.world.wire name to request
  pub told : after.past.attempts
      ≡ attempts_with_fate (fate_of_say (reply_to was.node.peer request).say) name.sender name.number before.past.attempts

-- a node steps on an input, in a world that a run reaches
pub record IsRowStep (script : List Statement) (before after : MomentWithPast) (n : ℕ) (was host : Host) : Type 0 where
  pub began : Began script before.world
  pub input : Input
  pub peer_so : (node_step input was.node).node.peer ≡ host.node.peer
  pub follows : IsByTheLog (node_step input was.node).node
  pub serves : (request : PeerReq) → input ≡ inputs.Request request → IsServing before after n was request

-- how the rows of a node came to be
pub data RowsChange (script : List Statement) (before after : MomentWithPast) (n : ℕ) (host : Host) : Type 0 where
  RowsStay : (was : Host) → tree.get before.world.hosts n ≡ Some was → was.node.peer ≡ host.node.peer
      → RowsChange script before after n host
  RowsStep : (was : Host) → tree.get before.world.hosts n ≡ Some was → IsRowStep script before after n was host
      → RowsChange script before after n host
  RowsAreNew : (tries : ℕ) → (nodes.initial_node (record { 0 = n }) tries).peer ≡ host.node.peer → RowsChange script before after n host

module _ (script : List Statement) where
  -- one host is another
  one_row : (before after : MomentWithPast) (k : ℕ) (new : Host) → after.world.hosts ≡ tree.insert before.world.hosts k new
      → RowsChange script before after k new → (n : ℕ) (host : Host) → tree.get after.world.hosts n ≡ Some host
      → RowsChange script before after n host
  one_row before after k new is change n host there = ⊎_elim
      (λ (own : (n ≡ k) × (new ≡ host)).
      subst (λ (q : ℕ). RowsChange script before after q host) (sym own.0) (subst (RowsChange script before after k) own.1 change))
      (λ (other : (n ≢ k) × (tree.get before.world.hosts n ≡ Some host)). RowsStay host other.1 refl)
      (get-insert_cases before.world.hosts k new n host (ap (λ (held : Hosts). tree.get held n) (sym is) ∙ there))

  same_rows : (before after : MomentWithPast) → after.world.hosts ≡ before.world.hosts → (n : ℕ) (host : Host)
      → tree.get after.world.hosts n ≡ Some host → RowsChange script before after n host
  same_rows before after same n host there =
      RowsStay host (ap (λ (held : Hosts). tree.get held n) (sym same) ∙ there) refl

-- ---- at first no node has rows

-- an object has no rows
abbrev HasNone : ℕ → ℕ → List SeenRow → Type 0
HasNone epoch oid rows = rows ≡ []

abbrev AnyView : NodeId → ℕ → NodeView → Type 0
AnyView me epoch shown = Unit {0}

none_made : (entry : Entry) (node : Node) → KeepsRowsWhilePending AnyView HasNone node (inputs.LogEntry entry)
none_made entry node = record {
  view = λ recovering. tt;
  views = record { listed = λ state is. tt; gone = λ state oid is. tt; found = λ state search policy bytes searched is. tt };
  created = λ request key size offset bytes comes. absurd (cc (comes));
  written = λ key offset bytes row on inside none.
      ap (λ (rows : List SeenRow). write_in key.index offset bytes rows) none;
  recovered = λ recovering. absurd recovering.goes;
  entered = λ read comes begins oid rows none.
      ap (map (row_entering node.me (targets_in (epochs_with_entry read node)) (read_entry read node.peer) oid)) none;
  killed = λ read comes oid kills. refl;
  settled = λ read comes epoch oid rows none. ap (purged (settled_of (read_entry read node.peer).entries)) none;
  returned = λ entries comes. absurd (cc (comes));
  returned_dead = λ entries comes. absurd (cc (comes));
}

pub none_at_first : (script : List Statement) (n : ℕ) (host : Host) → tree.get (first_moment script).world.hosts n ≡ Some host → (oid : ℕ)
    → rows_of host.node.peer.rows oid ≡ []
unfolding initial_world
none_at_first script n host got oid =
    let (member, own, is) = opening_found script n host got in
    subst (λ (h : Host). rows_of h.node.peer.rows oid ≡ []) is (of_member member)
  where
    of_member : (member : Member) → rows_of (initial_member_node script member).peer.rows oid ≡ []
    of_member member =
        let node : Node = nodes.initial_node member.node (tries_of script) in
        step-rows_while_pending AnyView HasNone node (inputs.LogEntry (format_entry script)) (none_made (format_entry script) node)
        (λ k. rows_of-empty k) oid

-- what holds of each row holds of the one at a place
pub all_at : (P : SeenRow → Type 0) (rows : List SeenRow) (i : ℕ) (row : SeenRow) → slice_get rows i ≡ Some row → AllByRecursion P rows
    → P row
all_at P [] i row got all = absurd (cc (got))
all_at P (first ∷ rows) zero row got all = subst P (same_Some first row got) all.0
all_at P (first ∷ rows) (suc i) row got all = all_at P rows i row got all.1

-- ---- what a node steps on

-- the request of an input, if it is one
abbrev request_in : PeerReq → Input → PeerReq
request_in other (inputs.Request request) = request
request_in other _ = other

not_served : (cause : NodeCause) → StepsByChanges cause → (request : PeerReq) → input_of_cause cause ≡ inputs.Request request → ⊥
not_served (GuestAsks session req ask) by request is = cc (is)
not_served (RequestComes name to asked) by request is = by
not_served (ReplyComes name from rsp) by request is = cc (is)
not_served (LossIsTold name packet) by request is = cc (is)
not_served (EntryIsRead entry) by request is = cc (is)
not_served (EntryIsPut entry) by request is = cc (is)
not_served RecoveryTicks by request is = cc (is)
not_served WorkIsRetried by request is = cc (is)
not_served (ClientAsks req ask) by request is = cc (is)

serving : (script : List Statement) (start after : MomentWithPast) (n : ℕ) (host : Host) (cause : NodeCause)
    → IsCause script start.world n host cause → after.past.attempts ≡ attempts_at_cause host.node cause start.past.attempts
    → (request : PeerReq) → input_of_cause cause ≡ inputs.Request request → IsServing start after n host request
serving script start after n host (GuestAsks session req ask) so told request is = absurd (cc (is))
serving script start after n host (RequestComes name to asked) so told request is =
    subst (IsServing start after n host) (ap (request_in asked) is)
    (record {
      name = name;
      to = to;
      here = so.here;
      asking = record { bytes = so.bytes; there = so.there; spelled = so.read };
      told = told;
    })
serving script start after n host (ReplyComes name from rsp) so told request is = absurd (cc (is))
serving script start after n host (LossIsTold name packet) so told request is = absurd (cc (is))
serving script start after n host (EntryIsRead entry) so told request is = absurd (cc (is))
serving script start after n host (EntryIsPut entry) so told request is = absurd (cc (is))
serving script start after n host RecoveryTicks so told request is = absurd (cc (is))
serving script start after n host WorkIsRetried so told request is = absurd (cc (is))
serving script start after n host (ClientAsks req ask) so told request is = absurd (cc (is))

-- ---- every change

module _ (script : List Statement) (range : RunsAreInRange script) (start : MomentWithPast) (began : Began script start.world) where
  -- after a step the node is in the epoch of what it has read
  stepped_follows : (stepping : SteppingNode) → IsStepping script start.world stepping → IsByTheLog (last_in_step stepping).node
  stepped_follows stepping is =
      let last : Host = host_with_node stepping.host (last_in_step stepping).node in
      let end : World = world_after_cause script stepping.n stepping.host stepping.cause start.world in
      by_the_log script range.is_script range.room end
      (goes_on script (event_of_cause stepping.n stepping.cause) start.world
      (outcome_of_step script stepping.n stepping.host stepping.cause start.world) began is.made) stepping.n last
      (get-insert_same start.world.hosts stepping.n last)

  pub rows_change : {before after : MomentWithPast} → MomentChange script start before after → (n : ℕ) (host : Host)
      → tree.get after.world.hosts n ≡ Some host → RowsChange script before after n host
  rows_change (moments.StepBegins stepping is by) n host there =
      one_row script start (moment_in_step script stepping start (first_in_step stepping)) stepping.n
      (host_with_node stepping.host (first_in_step stepping).node) refl
      (RowsStep stepping.host is.there (record {
        began = began;
        input = input_of_cause stepping.cause;
        peer_so = step_peer (input_of_cause stepping.cause) stepping.host.node;
        follows = stepped_follows stepping is;
        serves = λ request same. absurd (not_served stepping.cause by request same);
      })) n host there
  rows_change (moments.StepGoesOn stepping so_far next is by within) n host there =
      let was = host_with_node stepping.host so_far.node in
      let now = host_with_node stepping.host next.node in
      one_row script (moment_in_step script stepping start so_far) (moment_in_step script stepping start next) stepping.n now
      (sym (insert-insert start.world.hosts stepping.n was now))
      (RowsStay was (get-insert_same start.world.hosts stepping.n was)
      (same_so_far script range start began stepping so_far within.leads
      ∙ sym (same_so_far script range start began stepping next (changes.Then within.leads within.change)))) n host there
  rows_change (moments.StepIsMade stepping is by) n host there =
      let after = moment_in_step script stepping start (last_in_step stepping) in
      one_row script start after stepping.n (host_with_node stepping.host (last_in_step stepping).node) refl
      (RowsStep stepping.host is.there (record {
        began = began;
        input = input_of_cause stepping.cause;
        peer_so = refl;
        follows = stepped_follows stepping is;
        serves = serving script start after stepping.n stepping.host stepping.cause is.caused (attempts-at_end script start stepping is by);
      })) n host there
  rows_change {before} {after} (moments.LossIsUntold event made happened h) n host there =
      same_rows script before after (ap (λ (m : EventOutcome). m.world.hosts) (sym h.made_so)) n host there
  rows_change {before} {after} (moments.DeliveryIsUnread event made happened h) n host there =
      same_rows script before after (ap (λ (m : EventOutcome). m.world.hosts) (sym h.made_so)) n host there
  rows_change {before} {after} (moments.NodeIsLost event made happened h) n host there =
      one_row script before after h.n (lost_host h.host) (ap (λ (m : EventOutcome). m.world.hosts) (sym h.made_so))
      (RowsStay h.host h.there refl) n host there
  rows_change {before} {after} (moments.NodeLeaves event made happened h) n host there =
      same_rows script before after (ap (λ (m : EventOutcome). m.world.hosts) (sym h.made_so)) n host there
  rows_change {before} {after} (moments.NodeIsReweighted event made happened h) n host there =
      same_rows script before after (ap (λ (m : EventOutcome). m.world.hosts) (sym h.made_so)) n host there
  rows_change {before} {after} (moments.NodeJoins event made happened h) n host there =
      one_row script before after h.n (joined_host script h.n) (ap (λ (m : EventOutcome). m.world.hosts) (sym h.made_so))
      (RowsAreNew (tries_of script) refl) n host there
  rows_change {before} {after} (moments.NodeComesBack event made happened h) n host there =
      let log = log_after_return script h.n start.world in
      let now = host_after_return log h.host in
      let hosts : made.world.hosts ≡ tree.insert start.world.hosts h.n now = ap (λ (m : EventOutcome). m.world.hosts) (sym h.made_so) in
      one_row script before after h.n now hosts
      (RowsStep h.host h.there (record {
        began = began;
        input = inputs.Back log;
        peer_so = refl;
        follows = by_the_log script range.is_script range.room made.world (goes_on script event start.world made began happened) h.n now
            (ap (λ (held : Hosts). tree.get held h.n) hosts ∙ get-insert_same start.world.hosts h.n now);
        serves = λ request same. absurd (cc (same));
      })) n host there
  rows_change {before} {after} (moments.PhaseEnds event made happened h) n host there =
      same_rows script before after (ap (λ (m : EventOutcome). m.world.hosts) (sym h.made_so)) n host there
