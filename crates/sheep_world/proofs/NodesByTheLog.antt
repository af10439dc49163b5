-- Each node of a world is in the epoch of the entries that it has read; a lost node comes back with a log that it may come back with.
use Rattle.std.proofs.Common.{◌≡◌, arith, ℕ, suc, ◌+◌, ◌<◌, true, cond, List, [], ◌∷◌, ◌++◌, length, filter, Some, refl, sym, ap, subst, ◌∙◌, append_assoc}
use Rattle.proof_tools.proofs.Booleans.{cond_either}
use Rattle.std.specs.FinMap as tree
use Rattle.object_id.specs.declared.entry.Entry.{Entry}
use Rattle.object_id.specs.declared.node.NodeId.{NodeId}
use Rattle.epoch_log.specs.Appending.{IsLog}
use Rattle.epoch_log.specs.Epochs.{begins_epoch, epoch_of, members_in}
use Rattle.epoch_log.specs.Members as members
use Rattle.epoch_log.proofs.EpochLemmas.{epoch_of-append}
use Rattle.vnode_table.specs.Epochs.{EpochMembers}
use Rattle.peer_proto.specs.declared.ask.PeerReq.{PeerReq}
use Rattle.peer_service.specs.State.{Peer}
use Rattle.gateway.specs.State as gateways
use Rattle.recovery.specs.State.{RecoveryState}
use Rattle.recovery.specs.Steps as recovery_steps
use Rattle.cluster_script.specs.declared.statement.Statement.{Statement}
use Rattle.cluster_script.specs.Language.{IsScript}
use Rattle.cluster_script.specs.Settings.{tries_of}
use Rattle.sheep_node.specs.declared.input.Input.{Input}
use Rattle.sheep_node.specs.declared.input.Input.TheVariants as inputs
use Rattle.sheep_node.specs.State as nodes
use Rattle.sheep_node.specs.State.{Node}
use Rattle.sheep_node.specs.RecoveryView.{recovery_state_of}
use Rattle.sheep_node.specs.StepState.{StepState, at_first}
use Rattle.sheep_node.specs.May.{MayReadAll, MayComeBack}
use Rattle.sheep_node.specs.Step.{on_request, recovery_stepped, on_put, on_recover_tick, node_step}
use Rattle.sheep_node.specs.StepFacts.{FollowsLog, IsByTheLog}
use Rattle.sheep_node.specs.Changes.{input_received}
use Rattle.sheep_node.proofs.PeerLog.{Log, served_same}
use Rattle.sheep_node.proofs.StepResults.{step_me, step_peer, step_epochs}
use Rattle.sheep_node.proofs.LogLaws.{epoch_more, reads_follow, back_follows, opening_follows}
use Rattle.sheep_world.specs.World.{Host, World}
use Rattle.sheep_world.specs.Opening.{format_entry, initial_world}
use Rattle.sheep_world.specs.MembershipChanges.{join_of, last_weight}
use Rattle.sheep_world.specs.NodeCauses.{NodeCause, GuestAsks, RequestComes, ReplyComes, LossIsTold, EntryIsRead, EntryIsPut, RecoveryTicks, WorkIsRetried, ClientAsks, input_of_cause, IsCause}
use Rattle.sheep_world.specs.EventKinds.{log_after_return}
use Rattle.sheep_world.specs.HostChanges.{HostsKeep, NodesKeep}
use Rattle.sheep_world.specs.Began.{Began}
use Rattle.sheep_world.specs.LogHolds.{MayGrow, is_member_now}
use Rattle.sheep_world.proofs.HostChangeLaws.{hosts_of_nodes}
use Rattle.sheep_world.proofs.BegunWorlds.{each_began, each_where}
use Rattle.sheep_world.proofs.LogFrontLaws.{all_read}
use Rattle.sheep_world.proofs.ValidNodes.{first_may}
use Rattle.sheep_world.proofs.LogAtOpening.{opens_log}
use Rattle.sheep_world.proofs.NextEntries.{next_may, reads-may}

-- ---- each node knows its number

numbers_kept : (statements : List Statement) → NodesKeep statements (λ (n incarnation : ℕ) (node : Node). node.me.0 ≡ n)
numbers_kept statements = record {
  opens = λ member.
      ap (λ (me : NodeId). me.0) (step_me (inputs.LogEntry (format_entry statements)) (nodes.initial_node member.node (tries_of statements)));
  steps = λ world n host cause caused own. ap (λ (me : NodeId). me.0) (step_me (input_of_cause cause) host.node) ∙ own;
  returns = λ log n incarnation node own. ap (λ (me : NodeId). me.0) (step_me (inputs.Back log) node) ∙ own;
  joins = λ n. refl;
}

pub knows_its_number : (statements : List Statement) (world : World) → Began statements world → (n : ℕ) (host : Host)
    → tree.get world.hosts n ≡ Some host → host.node.me.0 ≡ n
knows_its_number statements = each_began
    statements (λ (world : World) (n : ℕ) (host : Host). host.node.me.0 ≡ n)
    (hosts_of_nodes statements (λ (n incarnation : ℕ) (node : Node). node.me.0 ≡ n) (numbers_kept statements))

-- ---- a step leaves a node where its entries have it

-- where the input by itself does: the changes of the step leave the log alone
follows_stepped : (input : Input) (node : Node) → IsByTheLog (input_received input (at_first node)).node → IsByTheLog (node_step input node).node
follows_stepped input node follows =
    let start = (input_received input (at_first node)).node in
    subst (λ (peer : Peer). FollowsLog peer.epoch peer.settled (node_step input node).node.epochs peer.entries) (sym (step_peer input node))
    (subst (λ (epochs : List EpochMembers). FollowsLog start.peer.epoch start.peer.settled epochs start.peer.entries) (sym (step_epochs input node)) follows)

module _ (node : Node) (follows : IsByTheLog node) where
  served_follows : (request : PeerReq) → IsByTheLog (on_request request (at_first node)).node
  unfolding on_request
  served_follows request =
      subst (λ (log : Log). FollowsLog log.epoch log.settled node.epochs log.entries) (sym (served_same node.peer request)) follows

  recovered_follows : (number : ℕ) (state : RecoveryState)
      → IsByTheLog (cond (gateways.gateway_awaits number node.gateway) (at_first node) (recovery_stepped state (at_first node))).node
  recovered_follows number state =
      cond_either (λ (start : StepState). IsByTheLog start.node) (gateways.gateway_awaits number node.gateway) (at_first node)
      (recovery_stepped state (at_first node)) follows
      (record { epoch_so = follows.epoch_so; settled_so = follows.settled_so; epochs_so = follows.epochs_so })

  put_follows : (outbox : List Entry) → IsByTheLog (on_put outbox (at_first node)).node
  put_follows [] = follows
  put_follows (entry ∷ later) = record { epoch_so = follows.epoch_so; settled_so = follows.settled_so; epochs_so = follows.epochs_so }

  ticked_follows : IsByTheLog (on_recover_tick (at_first node)).node
  unfolding on_recover_tick
  ticked_follows = record { epoch_so = follows.epoch_so; settled_so = follows.settled_so; epochs_so = follows.epochs_so }

module _ (statements : List Statement) (script : IsScript statements) (grows : (world : World) → Began statements world → MayGrow world) where
  follows_by : (world : World) → Began statements world → (n : ℕ) (host : Host) → tree.get world.hosts n ≡ Some host → IsByTheLog host.node
      → (cause : NodeCause) → IsCause statements world n host cause → IsByTheLog (input_received (input_of_cause cause) (at_first host.node)).node
  follows_by world began n host there follows (GuestAsks session req ask) caused = follows
  follows_by world began n host there follows (RequestComes name to request) caused = served_follows host.node follows request
  follows_by world began n host there follows (ReplyComes name from rsp) caused =
      recovered_follows host.node follows rsp.number (recovery_steps.recovery_on_reply rsp (recovery_state_of host.node))
  follows_by world began n host there follows (LossIsTold name packet) caused =
      recovered_follows host.node follows name.number (recovery_steps.recovery_on_loss name.number (recovery_state_of host.node))
  follows_by world began n host there follows (EntryIsRead entry) next =
      reads_follow entry host.node (reads-may statements script grows world began n host entry there next) follows
  follows_by world began n host there follows (EntryIsPut entry) caused = put_follows host.node follows host.node.outbox
  follows_by world began n host there follows RecoveryTicks caused = ticked_follows host.node follows
  follows_by world began n host there follows WorkIsRetried caused = follows
  follows_by world began n host there follows (ClientAsks req ask) caused = follows

  -- a log that gets a join behind it is in a later epoch than the first
  later_epoch : (log : List Entry) (n vnodes : ℕ) → 1 < epoch_of (log ++ join_of statements n vnodes ∷ [])
  later_epoch log n vnodes =
      let more : epoch_of (log ++ join_of statements n vnodes ∷ []) ≡ suc (epoch_of log) = epoch_more log (join_of statements n vnodes) refl in
      omega (arith, more)

  follows_kept : HostsKeep statements (Began statements) (λ (world : World) (n : ℕ) (host : Host). IsByTheLog host.node)
  unfolding initial_world
  follows_kept = record {
    opens = λ member.
        let node = nodes.initial_node member.node (tries_of statements) in
        follows_stepped (inputs.LogEntry (format_entry statements)) node
        (reads_follow (format_entry statements) node (first_may (format_entry statements) [] (opens_log statements script).log)
        (opening_follows member.node (tries_of statements)));
    stays = λ event world made h began n host so. so;
    steps = λ world n host cause began there up caused so.
        follows_stepped (input_of_cause cause) host.node (follows_by world began n host there so cause caused);
    fails = λ world n host began so. so;
    returns = λ world n host began there so.
        follows_stepped (inputs.Back (log_after_return statements n world)) host.node
        (back_follows (log_after_return statements n world) host.node (later_epoch world.log n (last_weight world.log n)));
    joins = λ world n began control. opening_follows (record { 0 = n }) (tries_of statements);
  }

  pub by_the_log : (world : World) → Began statements world → (n : ℕ) (host : Host) → tree.get world.hosts n ≡ Some host → IsByTheLog host.node
  by_the_log = each_where statements (Began statements) (λ (world : World) (n : ℕ) (host : Host). IsByTheLog host.node)
      (λ world began. began) follows_kept

-- ---- a node comes back

-- the entries of a log may be read one after the other
reads_all : (before later : List Entry) → IsLog (before ++ later) → MayReadAll before later
reads_all before [] log = tt
reads_all before (entry ∷ later) log = (
  next_may before later entry log,
  reads_all (before ++ entry ∷ []) later (subst IsLog (sym (append_assoc before (entry ∷ []) later)) log),
)

module _ (statements : List Statement) (script : IsScript statements) (grows : (world : World) → Began statements world → MayGrow world) where
  -- a node comes back with a log that has it as a member
  pub returns_on_may : (world : World) → Began statements world → (n : ℕ) (host : Host) → tree.get world.hosts n ≡ Some host
      → IsLog (log_after_return statements n world) → is_member_now (log_after_return statements n world) n ≡ true
      → MayComeBack (log_after_return statements n world) host.node
  returns_on_may world began n host there log member =
      let entries : List Entry = log_after_return statements n world in
      let join : Entry = join_of statements n (last_weight world.log n) in
      let read : List Entry = host.node.peer.entries in
      let front = all_read statements world began n host there in
      let own : host.node.me.0 ≡ n = knows_its_number statements world began n host there in
      let on : entries ≡ read ++ (front.rest ++ join ∷ [])
      = ap (λ (log : List Entry). log ++ join ∷ []) front.is ∙ append_assoc read front.rest (join ∷ []) in
      let at : host.node.peer.epoch ≡ epoch_of read = (by_the_log statements script grows world began n host there).epoch_so in
      let whole : epoch_of world.log ≡ epoch_of read + length (filter begins_epoch front.rest) = ap epoch_of front.is ∙ epoch_of-append read front.rest in
      let more : epoch_of entries ≡ suc (epoch_of world.log) = epoch_more world.log join refl in
      record {
        later = front.rest ++ join ∷ [];
        goes_on = on;
        read = reads_all read (front.rest ++ join ∷ []) (subst IsLog on log);
        above_1 = omega (arith, more);
        above_own = omega (arith, at, whole, more);
        member = subst (λ (number : ℕ). members.is_member number (members_in entries (epoch_of entries)) ≡ true) (sym own) member;
      }
