-- Between events no node has a `Recovered` due, in every world of a run.
use Rattle.std.proofs.Common.{◌≡◌, ℕ, false, Some, List, option_map, refl, sym, ap, ◌∙◌}
use Rattle.std.specs.FinMap as tree
use Rattle.std.proofs.lemmas.Bool.{and_right}
use Rattle.object_id.specs.declared.node.NodeId.{NodeId}
use Rattle.cluster_script.specs.declared.statement.Statement.{Statement}
use Rattle.cluster_script.specs.Settings.{tries_of}
use Rattle.recovery.specs.State as recoveries
use Rattle.sheep_node.specs.declared.input.Input.TheVariants as inputs
use Rattle.sheep_node.specs.RecoveryView.{recovery_state_of}
use Rattle.sheep_node.specs.State as nodes
use Rattle.sheep_node.specs.State.{Node}
use Rattle.sheep_node.specs.Step.{is_due}
use Rattle.sheep_node.proofs.StepResults.{step_not_due}
use Rattle.sheep_world.specs.World.{Host, World}
use Rattle.sheep_world.specs.Opening.{format_entry}
use Rattle.sheep_world.specs.Began.{Began}
use Rattle.sheep_world.specs.HostChanges.{NodesKeep}
use Rattle.sheep_world.specs.NodeCauses.{input_of_cause}
use Rattle.sheep_world.proofs.BegunWorlds.{each_began}
use Rattle.sheep_world.proofs.HostChangeLaws.{hosts_of_nodes}
use Rattle.sheep_world.specs.RunsWithAsks.{Move}
use Rattle.overlap_law.specs.Past.{MomentWithPast, run_with_past, without_past}
use Rattle.overlap_law.specs.Words.{Hosts}
use Rattle.overlap_law.proofs.RunLemmas.{past-follows}

-- no node has a `Recovered` due
abbrev pub AreRested : Hosts → Type 0
AreRested hosts = (n : ℕ) (host : Host) → tree.get hosts n ≡ Some host → is_due host.node ≡ false

-- none is after a step, nor at first
abbrev pub IsRested : ℕ → ℕ → Node → Type 0
IsRested n incarnation node = is_due node ≡ false

opening-rested : (me : NodeId) (tries : ℕ) → is_due (nodes.initial_node me tries) ≡ false
opening-rested me tries = and_right (recoveries.is_finished (recovery_state_of (nodes.initial_node me tries))) false refl

pub rested_kept : (script : List Statement) → NodesKeep script IsRested
rested_kept script = record {
  opens = λ member. step_not_due (inputs.LogEntry (format_entry script)) (nodes.initial_node member.node (tries_of script));
  steps = λ world n host cause caused so. step_not_due (input_of_cause cause) host.node;
  returns = λ log n incarnation node so. step_not_due (inputs.Back log) node;
  joins = λ n. opening-rested (record { 0 = n }) (tries_of script);
}

-- the world of a run with its past is one that a run reaches
pub began-with_past : (script : List Statement) (all : List Move) (moment : MomentWithPast) → run_with_past script all ≡ Some moment
    → Began script moment.world
began-with_past script all moment e = record {
  moves = all;
  moment = without_past moment;
  runs = sym (past-follows script all) ∙ ap (option_map without_past) e;
  world_so = refl;
}

pub run-rested : (script : List Statement) (all : List Move) (moment : MomentWithPast) → run_with_past script all ≡ Some moment
    → AreRested moment.world.hosts
run-rested script all moment e = each_began
    script (λ (world : World) (n : ℕ) (host : Host). IsRested n host.incarnation host.node)
    (hosts_of_nodes script IsRested (rested_kept script)) moment.world (began-with_past script all moment e)
