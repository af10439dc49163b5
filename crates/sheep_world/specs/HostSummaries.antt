-- Hosts in short: what the conditions of events ask of a host, worked out once after each change of it.
use Rattle.std.specs.Prelude.{◌≡◌, ℕ, ◌<◌, false, ◌&&◌, List, length, get_or, Option, None}
use Rattle.std.specs.Ordering.{nat_cmp}
use Rattle.std.specs.Option.{option_map_or}
use Rattle.std.specs.FinMap as tree
use Rattle.sheep_node.specs.May as nodes
use Rattle.sheep_node.specs.LogReading as reading
use Rattle.message_wire.specs.declared.node_set.NodeSet.{NodeSet}
use Rattle.message_wire.specs.NodeSet.{contains_node}
use Rattle.sheep_world.specs.declared.host_summary.HostSummary.{HostSummary}
use Rattle.sheep_world.specs.World.{Host, is_host_up}

-- the summary of a host, with nothing that may be done where there is none
abbrev pub summary_of : Option Host → HostSummary
summary_of found = record {
  is_up = option_map_or is_host_up found false;
  is_lost = option_map_or (λ (host : Host). host.is_lost) found false;
  is_member = option_map_or (λ (host : Host). reading.is_epoch_member host.node) found false;
  incarnation = option_map_or (λ (host : Host). host.incarnation) found 0;
  may_put = option_map_or (λ (host : Host). is_host_up host && nodes.has_entry_to_put host.node) found false;
  may_recover = option_map_or (λ (host : Host). is_host_up host && nodes.may_tick host.node) found false;
  may_retry = option_map_or (λ (host : Host). is_host_up host && nodes.has_work_to_retry host.node) found false;
  read_len = option_map_or (λ (host : Host). length host.node.peer.entries) found 0;
}

-- the summary of a number without host
abbrev pub no_summary : HostSummary
no_summary = summary_of None

-- there are summaries of 64 numbers, and the set has those that are up
abbrev pub AreUpIn : List HostSummary → NodeSet → Type 0
AreUpIn summaries up =
    (length summaries ≡ 64) × ((node : ℕ) → node < 64 → contains_node node up ≡ (get_or summaries node no_summary).is_up)

-- the summaries are those of the hosts
abbrev pub AreSummariesOf : tree.FinMap nat_cmp Host → List HostSummary → Type 0
AreSummariesOf hosts summaries = (node : ℕ) → node < 64 → get_or summaries node no_summary ≡ summary_of (tree.get hosts node)
