-- In each run in range, and in the middle of its steps, a node's recovery is of the members of its epoch and asks for its lists as it is
-- to, and the node's requests come to no `Recovered`.
use Rattle.std.proofs.Common.{◌≡◌, arith, ℕ, suc, ◌<◌, true, List, [], ◌∷◌, ◌++◌, length, Some, refl, sym, ap, subst, ◌∙◌}
use Rattle.std.specs.List.Sorted.{IsStrictlyIncreasing}
use Rattle.std.specs.FinMap as tree
use Rattle.proof_tools.proofs.FiniteMaps.{get-insert_same}
use Rattle.object_id.specs.declared.entry.Entry.{Entry}
use Rattle.object_id.specs.declared.entry.Member.{Member}
use Rattle.object_id.specs.declared.node.NodeId.{NodeId}
use Rattle.epoch_log.specs.Members as members
use Rattle.epoch_log.specs.Members.{node_numbers}
use Rattle.epoch_log.specs.Epochs.{epoch_of, members_in}
use Rattle.epoch_log.specs.Appending.{IsLog}
use Rattle.epoch_log.proofs.MembersLemmas.{IsLog-members, IsLog-prefix}
use Rattle.cluster_script.specs.declared.statement.Statement.{Statement}
use Rattle.cluster_script.specs.declared.statement.Statement.TheVariants as lines
use Rattle.cluster_script.specs.Settings.{tries_of}
use Rattle.sheep_node.specs.declared.ask.Ask.{Ask}
use Rattle.sheep_node.specs.declared.ask.Ask.TheVariants as asks
use Rattle.sheep_node.specs.declared.input.Input.TheVariants as inputs
use Rattle.sheep_node.specs.State as nodes
use Rattle.sheep_node.specs.State.{Node}
use Rattle.sheep_node.specs.StepState.{StepState, at_first}
use Rattle.sheep_node.specs.LogReading.{epoch_members, node_with_entry, begins_recovery, entry_read, come_back_with, on_back}
use Rattle.sheep_node.specs.StepFacts.{IsByTheLog}
use Rattle.sheep_node.specs.Changes.{input_received, Leads}
use Rattle.sheep_node.proofs.LogLaws.{epoch_more, reads_follow, opening_follows}
use Rattle.sheep_node.proofs.PeerLog.{entries_reading}
use Rattle.sheep_node.proofs.StepChain.{step_chain}
use Rattle.sheep_world.specs.Asking.{ask_of_statement}
use Rattle.sheep_world.specs.World.{Host, World}
use Rattle.sheep_world.specs.Opening.{format_entry, initial_world}
use Rattle.sheep_world.specs.MembershipChanges.{join_of, last_weight}
use Rattle.sheep_world.specs.NodeCauses.{NodeCause, GuestAsks, RequestComes, ReplyComes, LossIsTold, EntryIsRead, EntryIsPut, RecoveryTicks}
use Rattle.sheep_world.specs.NodeCauses.{WorkIsRetried, ClientAsks, input_of_cause, IsCause}
use Rattle.sheep_world.specs.EventKinds.{log_after_return, world_after_return}
use Rattle.sheep_world.specs.HostChanges.{HostsKeep, host_after_return}
use Rattle.sheep_world.specs.Began.{Began}
use Rattle.sheep_world.specs.LogHolds.{is_member_now}
use Rattle.sheep_world.proofs.BegunWorlds.{each_where}
use Rattle.sheep_world.proofs.LogAtOpening.{opens_log, log-holds}
use Rattle.sheep_world.proofs.LogFrontLaws.{all_read, read_one}
use Rattle.sheep_world.proofs.NextEntries.{reads-may}
use Rattle.sheep_world.proofs.NodesByTheLog.{by_the_log, knows_its_number}
use Rattle.sheep_world.proofs.ValidNodes.{first_may}
use Rattle.overlap_law.specs.Past.{MomentWithPast}
use Rattle.overlap_law.specs.MomentChanges.{MomentChange, RunsAreInRange}
use Rattle.overlap_law.proofs.AskedEntries.{IsAskedEntry, OnlyAskedEntries, AsksForNoRecovered}
use Rattle.overlap_law.proofs.ListedNodes.{KnowsItsLists, opening_lists, read_lists, back_lists, lists_so_far, quiet_lists}
use Rattle.overlap_law.proofs.ListMessages.{numbers_of}
use Rattle.overlap_law.proofs.OutboxEnds.{EndsAreOwn, ends_received, ends_so_far, opening_ends}
use Rattle.overlap_law.proofs.RecoveredEntries.{only_received, puts_so_far, opening_only}
use Rattle.overlap_law.proofs.RecoveryMembers.{some_read, nodes_of_members, RecoversByTheLog, opening_recovers, recovers_so_far}
use Rattle.overlap_law.proofs.RecoveryMembers.{quiet_recovers, newest_then, read_recovers, back_members, back_recovers}
use Rattle.overlap_law.proofs.ClosedWorlds.{hosts_after}
use Rattle.sheep_world.specs.ClientAsks.{is_read_ask}

-- what holds of a node
pub record IsSoundNode (node : Node) : Type 0 where
  pub recovers : RecoversByTheLog node
  pub only : OnlyAskedEntries node
  pub lists : KnowsItsLists node
  pub ends : EndsAreOwn node

numbers_of_members : (list : List Member) → numbers_of (nodes_of_members list) ≡ node_numbers list
numbers_of_members [] = refl
numbers_of_members (member ∷ list) = ap (λ (numbers : List ℕ). member.node.0 ∷ numbers) (numbers_of_members list)

-- the nodes of the newest epoch of a log ascend
ascend_in : (entries : List Entry) → IsLog entries → (list : List Member) → list ≡ members_in entries (epoch_of entries)
    → IsStrictlyIncreasing (numbers_of (nodes_of_members list))
ascend_in entries log list is =
    subst (λ (list : List Member). IsStrictlyIncreasing (numbers_of (nodes_of_members list))) (sym is)
    (subst IsStrictlyIncreasing (sym (numbers_of_members (members_in entries (epoch_of entries))))
    (IsLog-members entries (epoch_of entries) log (omega arith)).0.ascending)

-- ---- the cause of a step

-- a session asks for no entry
no_entry_asked : (ask : Ask) (session req : ℕ) (s : Statement) → ask_of_statement s ≡ Some ask
    → AsksForNoRecovered (inputs.Guest req session ask)
no_entry_asked (asks.Disk ask) session req s is = tt
no_entry_asked (asks.Vdi ask) session req s is = tt
no_entry_asked (asks.Object work) session req s is = tt
no_entry_asked (asks.Entry entry) session req s is = by_statement s is
  where
    by_statement : (s : Statement) → ask_of_statement s ≡ Some (asks.Entry entry) → IsAskedEntry entry
    by_statement (lines.Create session policy shift name size) is = absurd (cc (is))
    by_statement (lines.OpenDisk session name tag) is = absurd (cc (is))
    by_statement (lines.Close session) is = absurd (cc (is))
    by_statement (lines.Read session offset length) is = absurd (cc (is))
    by_statement (lines.Write session offset length pattern) is = absurd (cc (is))
    by_statement (lines.Snapshot session tag) is = absurd (cc (is))
    by_statement (lines.Clone session base tag name) is = absurd (cc (is))
    by_statement (lines.Delete session name tag) is = absurd (cc (is))
    by_statement (lines.Check session) is = absurd (cc (is))
    by_statement _ is = absurd (cc (is))

-- nor does a client's read
no_entry_read : (ask : Ask) (session req : ℕ) → is_read_ask ask ≡ true → AsksForNoRecovered (inputs.Guest req session ask)
no_entry_read (asks.Disk ask) session req reads = tt
no_entry_read (asks.Vdi ask) session req reads = tt
no_entry_read (asks.Object work) session req reads = tt
no_entry_read (asks.Entry entry) session req reads = absurd (cc (reads))

pub asks_no_recovered : (script : List Statement) (world : World) (n : ℕ) (host : Host) (cause : NodeCause)
    → IsCause script world n host cause
    → AsksForNoRecovered (input_of_cause cause)
asks_no_recovered script world n host (GuestAsks session req ask) asked = no_entry_asked ask session.number req asked.line asked.asks
asks_no_recovered script world n host (RequestComes name to request) here = tt
asks_no_recovered script world n host (ReplyComes name from rsp) here = tt
asks_no_recovered script world n host (LossIsTold name packet) here = tt
asks_no_recovered script world n host (EntryIsRead entry) next = tt
asks_no_recovered script world n host (EntryIsPut entry) first = tt
asks_no_recovered script world n host RecoveryTicks may = tt
asks_no_recovered script world n host WorkIsRetried may = tt
asks_no_recovered script world n host (ClientAsks req ask) may = no_entry_read ask 0 req may.reads

-- ---- an entry is read

sound_reading : (entry : Entry) (node : Node) → IsByTheLog node → IsByTheLog (entry_read entry node)
    → (begins_recovery entry node ≡ true → IsLog (entry_read entry node).peer.entries) → IsSoundNode node
    → IsSoundNode (entry_read entry node)
unfolding entry_read
sound_reading entry node before after log sound = record {
  recovers = read_recovers entry node before after sound.recovers;
  only = only_received (inputs.LogEntry entry) node sound.only;
  lists = read_lists entry node sound.lists (λ begins. ascend_in
      (entry_read entry node).peer.entries (log begins) (epoch_members (node_with_entry entry node))
      (newest_then entry node before after sound.recovers ∙ ap (members_in (entry_read entry node).peer.entries) after.epoch_so));
  ends = sound.ends;
}

-- ---- a step of a node

module _ (script : List Statement) (range : RunsAreInRange script) where
  module _ (world : World) (began : Began script world) (n : ℕ) (host : Host) (there : tree.get world.hosts n ≡ Some host) where
    quiet_sound : (cause : NodeCause) → IsCause script world n host cause → IsSoundNode host.node
        → IsSoundNode (input_received (input_of_cause cause) (at_first host.node)).node
    quiet_sound (GuestAsks session req ask) so sound = record {
      recovers = quiet_recovers (inputs.Guest req session.number ask) host.node refl sound.recovers;
      only = only_received (inputs.Guest req session.number ask) host.node sound.only;
      lists = quiet_lists (inputs.Guest req session.number ask) host.node refl tt sound.lists;
      ends = ends_received (inputs.Guest req session.number ask) host.node sound.ends;
    }
    quiet_sound (RequestComes name to request) so sound = record {
      recovers = quiet_recovers (inputs.Request request) host.node refl sound.recovers;
      only = only_received (inputs.Request request) host.node sound.only;
      lists = quiet_lists (inputs.Request request) host.node refl tt sound.lists;
      ends = ends_received (inputs.Request request) host.node sound.ends;
    }
    quiet_sound (ReplyComes name from rsp) so sound = record {
      recovers = quiet_recovers (inputs.Reply rsp) host.node refl sound.recovers;
      only = only_received (inputs.Reply rsp) host.node sound.only;
      lists = quiet_lists (inputs.Reply rsp) host.node refl tt sound.lists;
      ends = ends_received (inputs.Reply rsp) host.node sound.ends;
    }
    quiet_sound (LossIsTold name packet) so sound = record {
      recovers = quiet_recovers (inputs.Lost name.number) host.node refl sound.recovers;
      only = only_received (inputs.Lost name.number) host.node sound.only;
      lists = quiet_lists (inputs.Lost name.number) host.node refl tt sound.lists;
      ends = ends_received (inputs.Lost name.number) host.node sound.ends;
    }
    quiet_sound (EntryIsRead entry) so sound =
        let before = by_the_log script range.is_script range.room world began n host there in
        let front = read_one host.node.peer.entries world.log entry so (all_read script world began n host there) in
        let log : IsLog (host.node.peer.entries ++ entry ∷ [])
        = (IsLog-prefix (host.node.peer.entries ++ entry ∷ []) front.rest (some_read host.node.peer.entries entry)
        (subst IsLog front.is (log-holds script range.is_script range.room world began).log)).0 in
        sound_reading entry host.node before
        (reads_follow entry host.node (reads-may script range.is_script range.room world began n host entry there so) before)
        (λ begins. subst IsLog (sym (entries_reading entry host.node)) log) sound
    quiet_sound (EntryIsPut entry) so sound = record {
      recovers = quiet_recovers inputs.Put host.node refl sound.recovers;
      only = only_received inputs.Put host.node sound.only;
      lists = quiet_lists inputs.Put host.node refl tt sound.lists;
      ends = ends_received inputs.Put host.node sound.ends;
    }
    quiet_sound RecoveryTicks so sound = record {
      recovers = quiet_recovers inputs.RecoverTick host.node refl sound.recovers;
      only = only_received inputs.RecoverTick host.node sound.only;
      lists = quiet_lists inputs.RecoverTick host.node refl so sound.lists;
      ends = ends_received inputs.RecoverTick host.node sound.ends;
    }
    quiet_sound WorkIsRetried so sound = record {
      recovers = quiet_recovers inputs.RetryTick host.node refl sound.recovers;
      only = only_received inputs.RetryTick host.node sound.only;
      lists = quiet_lists inputs.RetryTick host.node refl tt sound.lists;
      ends = ends_received inputs.RetryTick host.node sound.ends;
    }
    quiet_sound (ClientAsks req ask) so sound = record {
      recovers = quiet_recovers (inputs.Guest req 0 ask) host.node refl sound.recovers;
      only = only_received (inputs.Guest req 0 ask) host.node sound.only;
      lists = quiet_lists (inputs.Guest req 0 ask) host.node refl tt sound.lists;
      ends = ends_received (inputs.Guest req 0 ask) host.node sound.ends;
    }

    -- at each point of its step
    pub sound_so_far : (cause : NodeCause) → IsCause script world n host cause → IsSoundNode host.node → {so_far : StepState}
        → Leads (input_of_cause cause) host.node (input_received (input_of_cause cause) (at_first host.node)) so_far
        → IsSoundNode so_far.node
    sound_so_far cause so sound {so_far} leads =
        let received = quiet_sound cause so sound in
        let puts = puts_so_far (input_of_cause cause) host.node (asks_no_recovered script world n host cause so) sound.only leads in
        record {
          recovers = recovers_so_far (input_of_cause cause) host.node leads received.recovers;
          only = puts.only;
          lists = lists_so_far (input_received (input_of_cause cause) (at_first host.node)).node so_far puts received.lists;
          ends = ends_so_far (input_of_cause cause) host.node so_far puts sound.ends;
        }

  sound_back : (log : List Entry) (node : Node) → IsLog log → 1 < epoch_of log
      → members.is_member node.me.0 (members_in log (epoch_of log)) ≡ true
      → OnlyAskedEntries node → EndsAreOwn node → {so_far : StepState}
      → Leads (inputs.Back log) node (input_received (inputs.Back log) (at_first node)) so_far → IsSoundNode so_far.node
  sound_back log node is_log above member only ends {so_far} leads =
      let puts = puts_so_far (inputs.Back log) node tt only leads in
      record {
        recovers = recovers_so_far (inputs.Back log) node leads (back_recovers log node above member);
        only = puts.only;
        lists = lists_so_far (on_back log node) so_far puts (back_lists log node
            (ascend_in log is_log (epoch_members (come_back_with log node)) (back_members log node)));
        ends = ends_so_far (inputs.Back log) node so_far puts ends;
      }

  sound_at_opening : (me : NodeId) → IsSoundNode (nodes.initial_node me (tries_of script))
  sound_at_opening me = record {
    recovers = opening_recovers me (tries_of script);
    only = opening_only me (tries_of script);
    lists = opening_lists me (tries_of script);
    ends = opening_ends me (tries_of script);
  }

  -- a node that has read the first entry
  sound_member : (me : NodeId) {so_far : StepState}
      → Leads (inputs.LogEntry (format_entry script)) (nodes.initial_node me (tries_of script))
      (input_received (inputs.LogEntry (format_entry script)) (at_first (nodes.initial_node me (tries_of script)))) so_far
      → IsSoundNode so_far.node
  unfolding initial_world
  sound_member me {so_far} leads =
      let node = nodes.initial_node me (tries_of script) in
      let entry = format_entry script in
      let sound = sound_at_opening me in
      let before = opening_follows me (tries_of script) in
      let after = reads_follow entry node (first_may entry [] (opens_log script range.is_script).log) before in
      let read = sound_reading entry node before after (λ begins. absurd (cc (begins))) sound in
      let puts = puts_so_far (inputs.LogEntry entry) node tt sound.only leads in
      record {
        recovers = recovers_so_far (inputs.LogEntry entry) node leads read.recovers;
        only = puts.only;
        lists = lists_so_far (entry_read entry node) so_far puts read.lists;
        ends = ends_so_far (inputs.LogEntry entry) node so_far puts sound.ends;
      }

  -- ---- every world

  abbrev IsSoundWhereBegun : World → ℕ → Host → Type 0
  IsSoundWhereBegun world n host = Began script world → IsSoundNode host.node

  sound_kept : HostsKeep script (Began script) IsSoundWhereBegun
  sound_kept = record {
    opens = λ member begun.
        sound_member member.node (step_chain (inputs.LogEntry (format_entry script)) (nodes.initial_node member.node (tries_of script)));
    stays = λ event world made h began n host so begun. so began;
    steps = λ world n host cause began there up caused so next.
        sound_so_far world began n host there cause caused (so began) (step_chain (input_of_cause cause) host.node);
    fails = λ world n host began so. so;
    returns = λ world n host began there so next.
        let log = log_after_return script n world in
        let after = host_after_return log host in
        let holds = log-holds script range.is_script range.room (world_after_return script n host world) next in
        let own : host.node.me.0 ≡ n = knows_its_number script world began n host there in
        let more : epoch_of log ≡ suc (epoch_of world.log) = epoch_more world.log (join_of script n (last_weight world.log n)) refl in
        let member : is_member_now log n ≡ true = (holds.well n after (get-insert_same world.hosts n after)).stands refl in
        sound_back log host.node holds.log (omega (arith, more))
        (ap (λ (k : ℕ). members.is_member k (members_in log (epoch_of log))) own ∙ member) (so began).only (so began).ends
        (step_chain (inputs.Back log) host.node);
    joins = λ world n began control next. sound_at_opening (record { 0 = n });
  }

  pub sound_in_worlds : (world : World) → Began script world → (n : ℕ) (host : Host) → tree.get world.hosts n ≡ Some host
      → IsSoundNode host.node
  sound_in_worlds world began n host there =
      each_where script (Began script) IsSoundWhereBegun (λ world begun. begun) sound_kept world began n host there began

  -- ---- and every moment of a step

  module _ (start : MomentWithPast) (began : Began script start.world) where
    pub sound_after : {before after : MomentWithPast} → MomentChange script start before after → (n : ℕ) (host : Host)
        → tree.get after.world.hosts n ≡ Some host → IsSoundNode host.node
    sound_after change =
        hosts_after script (λ (n : ℕ) (host : Host). IsSoundNode host.node) sound_in_worlds start began
        (λ stepping is by so_far leads.
        sound_so_far start.world began stepping.n stepping.host is.there stepping.cause is.caused
        (sound_in_worlds start.world began stepping.n stepping.host is.there) leads) change
