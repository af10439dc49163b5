-- The recoveries are in range in each world of a run of a script, as long as there is room for an epoch.
use Rattle.std.proofs.Common.{◌≡◌, arith, ℕ, ◌≤◌, true, List, [], ◌∷◌, ◌++◌, length, All, Some, refl, ap, subst, ◌∙◌}
use Rattle.proof_tools.proofs.FiniteMaps.{get-insert_same}
use Rattle.std.specs.FinMap as tree
use Rattle.object_id.specs.Node.{IsNode}
use Rattle.object_id.specs.declared.entry.Entry.{Entry}
use Rattle.epoch_log.specs.Appending.{IsReservable, IsLog}
use Rattle.epoch_log.proofs.MembersLemmas.{IsLog-prefix}
use Rattle.cluster_script.specs.declared.statement.Statement.{Statement}
use Rattle.cluster_script.specs.Language.{IsScript}
use Rattle.cluster_script.specs.Settings.{tries_of, opening_members}
use Rattle.peer_proto.specs.Ask.{ask_in}
use Rattle.peer_proto.specs.Say.{say_in}
use Rattle.sheep_node.specs.declared.input.Input.TheVariants as inputs
use Rattle.sheep_node.specs.State as nodes
use Rattle.sheep_node.specs.RecoveryRange.{RecoversInRange}
use Rattle.sheep_node.specs.May.{may_tick}
use Rattle.sheep_node.specs.Step.{node_step}
use Rattle.message_wire.specs.declared.packet.Packet.TheVariants.{Request, Reply}
use Rattle.sheep_world.specs.World.{Host, World, is_host_up}
use Rattle.sheep_world.specs.Opening.{format_entry}
use Rattle.sheep_world.specs.Ranges.{RecoveriesAreInRange}
use Rattle.sheep_world.specs.NodeCauses.{NodeCause, GuestAsks, RequestComes, ReplyComes, LossIsTold, EntryIsRead, EntryIsPut, RecoveryTicks, WorkIsRetried, ClientAsks, input_of_cause, IsCause}
use Rattle.sheep_world.specs.EventKinds.{log_after_return}
use Rattle.sheep_world.specs.HostChanges.{host_after_return, HostsKeep}
use Rattle.sheep_world.specs.Began.{Began}
use Rattle.sheep_world.specs.LogHolds.{MayGrow, LogHolds}
use Rattle.sheep_world.proofs.BegunWorlds.{each_where}
use Rattle.sheep_world.proofs.RecoveryRangeEvents.{stepped_range, put_range, told_range, opening_range}
use Rattle.sheep_world.proofs.RecoveryRangeOpening.{read_range}
use Rattle.sheep_world.proofs.AskedByTick.{recovered_range}
use Rattle.sheep_world.proofs.StepsByCause.{numbers_left}
use Rattle.sheep_world.proofs.SpelledPackets.{packets_spelled}
use Rattle.sheep_world.proofs.ReadIds.{read_changes_ids, read_names_ids}
use Rattle.sheep_world.proofs.LogFrontLaws.{read_one, all_read}
use Rattle.sheep_world.proofs.ValidNodes.{log_reservable, got_is}
use Rattle.sheep_world.proofs.LogAtOpening.{log-holds, nodes-valid}
use Rattle.sheep_world.proofs.NextEntries.{reads-may}
use Rattle.sheep_world.proofs.NodesByTheLog.{by_the_log, returns_on_may}
use Rattle.sheep_node.proofs.AttemptRange.{CanBeSpelled, tick_in_range}
use Rattle.sheep_world.proofs.RangeBySteps.{request_range, reply_range, log_entry_range, return_range}

some_more : (entries : List Entry) (entry : Entry) → 1 ≤ length (entries ++ entry ∷ [])
some_more [] entry = omega arith
some_more (first ∷ later) entry = omega arith

module _ (statements : List Statement) (script : IsScript statements) (grows : (world : World) → Began statements world → MayGrow world) where
  -- the step of a node
  module _ (world : World) (began : Began statements world) (n : ℕ) (host : Host) (there : tree.get world.hosts n ≡ Some host) (up : is_host_up host ≡ true)
      (range : RecoversInRange host.node) where
    held : LogHolds world
    held = log-holds statements script grows world began

    reservable : All IsReservable host.node.peer.entries
    reservable = (nodes-valid statements script grows world began n host there).read

    -- the next entry of the log
    next_range : (entry : Entry) → IsCause statements world n host (EntryIsRead entry) → RecoversInRange (node_step (inputs.LogEntry entry) host.node).node
    next_range entry next =
        let read : List Entry = host.node.peer.entries in
        let front = read_one read world.log entry next (all_read statements world began n host there) in
        log_entry_range entry host.node (reads-may statements script grows world began n host entry there next)
        (IsLog-prefix (read ++ entry ∷ []) front.rest (some_more read entry) (subst IsLog front.is held.log)).0
        (by_the_log statements script grows world began n host there) reservable
        (got_is IsReservable world.log (length read) entry (log_reservable world.log held.log) next) range

    step_range : (cause : NodeCause) → IsCause statements world n host cause → RecoversInRange (node_step (input_of_cause cause) host.node).node
    step_range (GuestAsks session req ask) asked = stepped_range (inputs.Guest req session.number ask) host.node range
    step_range (RequestComes name to request) here =
        let (sent, spells) = packets_spelled statements world began name (Request to here.bytes) here.there in
        request_range request host.node (read_changes_ids sent request (ap ask_in spells ∙ here.read)) reservable range
    step_range (ReplyComes name from rsp) here =
        let (said, spells) = packets_spelled statements world began name (Reply from here.bytes) here.there in
        reply_range rsp host.node (read_names_ids said rsp (ap say_in spells ∙ here.read)) range
    step_range (LossIsTold name packet) here = told_range host.node name.number range
    step_range (EntryIsRead entry) next = next_range entry next
    step_range (EntryIsPut entry) first = put_range host.node range
    step_range RecoveryTicks may = recovered_range host.node may (numbers_left host up) range
    step_range WorkIsRetried may = stepped_range inputs.RetryTick host.node range
    step_range (ClientAsks req ask) may = stepped_range (inputs.Guest req 0 ask) host.node range

  -- so it is of each host, where the log holds
  abbrev IsInRangeWhere : World → ℕ → Host → Type 0
  IsInRangeWhere world n host = LogHolds world → IsNode n → RecoversInRange host.node

  range_kept : HostsKeep statements (Began statements) IsInRangeWhere
  range_kept = record {
    opens = λ member log node.
        stepped_range (inputs.LogEntry (format_entry statements)) (nodes.initial_node member.node (tries_of statements))
        (read_range member.node (tries_of statements) (opening_members statements) node);
    stays = λ event world made h began n host so log node. so (log-holds statements script grows world began) node;
    steps = λ world n host cause began there up caused so log node.
        step_range world began n host there up (so (log-holds statements script grows world began) node) cause caused;
    fails = λ world n host began so. so;
    returns = λ world n host began there so log node.
        let entries : List Entry = log_after_return statements n world in
        let again : Host = host_after_return entries host in
        let member = (log.well n again (get-insert_same world.hosts n again)).stands refl in
        return_range entries host.node (returns_on_may statements script grows world began n host there log.log member) log.log
        (log_reservable entries log.log) (so (log-holds statements script grows world began) node);
    joins = λ world n began control log node. opening_range (record { 0 = n }) (tries_of statements) node;
  }

  pub recoveries_in_range : (world : World) → Began statements world → RecoveriesAreInRange world
  recoveries_in_range world began n host there =
      let log = log-holds statements script grows world began in
      each_where statements (Began statements) IsInRangeWhere (λ world began. began) range_kept world began n host there log (log.well n host there).below

  -- so what the tick of an up node's recovery sends can be spelled
  pub ticks_in_range : (world : World) → Began statements world → (n : ℕ) (host : Host) → tree.get world.hosts n ≡ Some host → is_host_up host ≡ true
      → may_tick host.node ≡ true → All CanBeSpelled (node_step inputs.RecoverTick host.node).outputs.sends
  ticks_in_range world began n host there up may =
      tick_in_range host.node may (numbers_left host up) (recoveries_in_range world began n host there)
