-- What heads an outbox is its node's own entry in each world of a run, so it opens no log and begins no epoch.
use Rattle.std.proofs.Common.{◌≡◌, ℕ, true, List, ◌∷◌, All, Some, subst}
use Rattle.std.specs.FinMap as tree
use Rattle.std.proofs.lemmas.List.Elements.{All-head}
use Rattle.object_id.specs.declared.entry.Entry.{Entry}
use Rattle.object_id.specs.declared.node.NodeId.{NodeId}
use Rattle.epoch_log.specs.Appending.{IsReservable}
use Rattle.cluster_script.specs.declared.statement.Statement.{Statement}
use Rattle.cluster_script.specs.Settings.{tries_of}
use Rattle.sheep_node.specs.declared.input.Input.TheVariants as inputs
use Rattle.sheep_node.specs.State as nodes
use Rattle.sheep_node.specs.State.{Node}
use Rattle.sheep_node.specs.OwnEntries.{IsEntryOf, HasOnlyOwnEntries, AsksForOwn}
use Rattle.sheep_node.specs.PuttableEntries.{IsPuttable}
use Rattle.sheep_node.proofs.OwnEntryChanges.{own_entries_stay, own_entries_at_opening}
use Rattle.sheep_node.proofs.PuttableEntries.{own_puttable}
use Rattle.sheep_world.specs.World.{Host, World}
use Rattle.sheep_world.specs.Opening.{format_entry}
use Rattle.sheep_world.specs.Began.{Began}
use Rattle.sheep_world.specs.ClientAsks.{is_read_ask}
use Rattle.sheep_world.specs.NodeCauses.{input_of_cause, NodeCause, GuestAsks, RequestComes, ReplyComes, LossIsTold, EntryIsRead, EntryIsPut, RecoveryTicks, WorkIsRetried, ClientAsks, IsCause}
use Rattle.sheep_world.specs.HostChanges.{HoldsOfEachHost, NodesKeep}
use Rattle.sheep_world.proofs.BegunWorlds.{each_began}
use Rattle.sheep_world.proofs.HostChangeLaws.{hosts_of_nodes}
use Rattle.sheep_world.proofs.ValidNodes.{IsValidHost}
use Rattle.sheep_node.specs.declared.ask.Ask.{Ask}
use Rattle.sheep_node.specs.declared.ask.Ask.TheVariants as asks
use Rattle.sheep_world.specs.Asking.{ask_of_statement}
use Rattle.cluster_script.specs.declared.statement.Statement.TheVariants as lines

-- a session asks for no entry
no_entry_asked : (me : NodeId) (req session : ℕ) (ask : Ask) (s : Statement) → ask_of_statement s ≡ Some ask → AsksForOwn me (inputs.Guest req session ask)
no_entry_asked me req session (asks.Disk ask) s is = tt
no_entry_asked me req session (asks.Vdi ask) s is = tt
no_entry_asked me req session (asks.Object work) s is = tt
no_entry_asked me req session (asks.Entry entry) s is = by_statement s is
  where
    by_statement : (s : Statement) → ask_of_statement s ≡ Some (asks.Entry entry) → IsEntryOf me entry
    by_statement (lines.Create session policy shift name size) is = absurd (cc (is))
    by_statement (lines.OpenDisk session name tag) is = absurd (cc (is))
    by_statement (lines.Close session) is = absurd (cc (is))
    by_statement (lines.Read session offset length) is = absurd (cc (is))
    by_statement (lines.Write session offset length pattern) is = absurd (cc (is))
    by_statement (lines.Snapshot session tag) is = absurd (cc (is))
    by_statement (lines.Clone session base tag name) is = absurd (cc (is))
    by_statement (lines.Delete session name tag) is = absurd (cc (is))
    by_statement (lines.Check session) is = absurd (cc (is))
    by_statement _ is = absurd (cc (is))

-- nor does a client's read
read_asks_none : (me : NodeId) (req session : ℕ) (ask : Ask) → is_read_ask ask ≡ true → AsksForOwn me (inputs.Guest req session ask)
read_asks_none me req session (asks.Disk ask) reads = tt
read_asks_none me req session (asks.Vdi ask) reads = tt
read_asks_none me req session (asks.Object work) reads = tt
read_asks_none me req session (asks.Entry entry) reads = absurd (cc (reads))

asks_own : (statements : List Statement) (world : World) (n : ℕ) (host : Host) (cause : NodeCause) → IsCause statements world n host cause
    → AsksForOwn host.node.me (input_of_cause cause)
asks_own statements world n host (GuestAsks session req ask) asked = no_entry_asked host.node.me req session.number ask asked.line asked.asks
asks_own statements world n host (RequestComes name to request) here = tt
asks_own statements world n host (ReplyComes name from rsp) here = tt
asks_own statements world n host (LossIsTold name packet) here = tt
asks_own statements world n host (EntryIsRead entry) next = tt
asks_own statements world n host (EntryIsPut entry) first = tt
asks_own statements world n host RecoveryTicks may = tt
asks_own statements world n host WorkIsRetried may = tt
asks_own statements world n host (ClientAsks req ask) may = read_asks_none host.node.me req 0 ask may.reads

-- each node has its own entries alone
owns : (statements : List Statement) → NodesKeep statements (λ (n incarnation : ℕ) (node : Node). HasOnlyOwnEntries node)
owns statements = record {
  opens = λ member.
      own_entries_stay (inputs.LogEntry (format_entry statements)) (nodes.initial_node member.node (tries_of statements)) tt
      (own_entries_at_opening member.node (tries_of statements));
  steps = λ world n host cause caused own. own_entries_stay (input_of_cause cause) host.node (asks_own statements world n host cause caused) own;
  returns = λ log n incarnation node own. own_entries_stay (inputs.Back log) node tt own;
  joins = λ n. own_entries_at_opening (record { 0 = n }) (tries_of statements);
}

-- so what heads an outbox may be put
abbrev pub EachPuts : World → Type 0
EachPuts world = (n : ℕ) (host : Host) (entry : Entry) (later : List Entry) → tree.get world.hosts n ≡ Some host
    → host.node.outbox ≡ entry ∷ later → IsPuttable entry

pub each_puts : (statements : List Statement) (world : World) → Began statements world → HoldsOfEachHost IsValidHost world → EachPuts world
each_puts statements world began valid n host entry later there first =
    let own = each_began
    statements (λ (world : World) (n : ℕ) (host : Host). HasOnlyOwnEntries host.node)
    (hosts_of_nodes statements (λ (n incarnation : ℕ) (node : Node). HasOnlyOwnEntries node) (owns statements)) world began n host there in
    own_puttable host.node.me entry
    (All-head (IsEntryOf host.node.me) entry later (subst (All (IsEntryOf host.node.me)) first own.entries))
    (All-head IsReservable entry later (subst (All IsReservable) first (valid n host there).to_put))
