-- A node opens as one, and stays one at each step that it may take.
use Rattle.std.proofs.Common.{◌≡◌, ℕ, ◌≤◌, true, List, length}
use Rattle.object_id.specs.declared.entry.Entry.{Entry}
use Rattle.object_id.specs.declared.node.NodeId.{NodeId}
use Rattle.sheep_node.specs.declared.input.Input.{Input}
use Rattle.sheep_node.specs.declared.input.Input.TheVariants as inputs
use Rattle.sheep_node.specs.State.{Node, initial_node}
use Rattle.sheep_node.specs.Step.{node_step}
use Rattle.sheep_node.specs.May.{May}
use Rattle.sheep_node.specs.OutsideAsks.{InputNamesObjects}
use Rattle.sheep_node.specs.LogReading.{begins_recovery, node_with_entry, come_back_with}
use Rattle.sheep_node.specs.RecoveryRange.{RecoveryMayBegin}
use Rattle.sheep_node.specs.NodeInvariant.{IsSoundNode}
use Rattle.sheep_node.proofs.NumberChanges.{one_work_at_opening, one_work_stays}
use Rattle.sheep_node.proofs.GivenNumbers.{numbers_given_at_opening, numbers_stay_given}
use Rattle.sheep_node.proofs.OwnEntryChanges.{own_entries_at_opening, own_entries_stay, asks_for_own}
use Rattle.sheep_node.proofs.ValidLaws.{valid_disks_at_opening, valid_disks_stay, sends_few, valid_input}
use Rattle.sheep_node.proofs.SoundChanges.{sound_works_at_opening}
use Rattle.sheep_node.proofs.SoundLaws.{sound_works_stay}
use Rattle.sheep_node.proofs.LineChanges.{lines_open_at_opening, lines_stay_open}
use Rattle.sheep_node.proofs.QueueChanges.{none_queued, queues_stay}
use Rattle.sheep_node.proofs.QueueLengths.{queues_short_at_opening, queues_stay_short}
use Rattle.sheep_node.proofs.SoleCommands.{commands_alone_at_opening, commands_stay_alone}
use Rattle.sheep_node.proofs.WantedChanges.{works_wanted_at_opening, works_stay_wanted}
use Rattle.sheep_node.proofs.DrivenChanges.{on_disks_at_opening, stay_on_disks}
use Rattle.sheep_node.proofs.TurnChanges.{in_turn_at_opening, stay_in_turn}
use Rattle.sheep_node.proofs.ReadLogs.{log_after, log_at_opening, log_stays}
use Rattle.sheep_node.proofs.AskedNodes.{read_if_asked_at_opening, read_if_asked_stays}
use Rattle.sheep_node.proofs.LogLaws.{opening_follows, step_follows}
use Rattle.sheep_node.proofs.StepResults.{none_due_at_opening, step_not_due}
use Rattle.sheep_node.proofs.RecoverySteps.{recovery_may_step_at_opening, recovery_may_step_stays, recovery_begins_at_entry, recovery_begins_back}

pub IsSoundNode-initial : (me : NodeId) (tries : ℕ) → IsSoundNode (initial_node me tries)
IsSoundNode-initial me tries = record {
  one_work = one_work_at_opening me tries;
  given = numbers_given_at_opening me tries;
  own_entries = own_entries_at_opening me tries;
  queues = none_queued;
  short_queues = queues_short_at_opening me tries;
  sole_commands = commands_alone_at_opening me tries;
  wanted_works = works_wanted_at_opening me tries;
  on_disks = on_disks_at_opening me tries;
  in_turn = in_turn_at_opening me tries;
  log = log_at_opening me tries;
  by_the_log = opening_follows me tries;
  read = read_if_asked_at_opening me tries;
  none_due = none_due_at_opening me tries;
  valid_disks = valid_disks_at_opening me tries;
  sound_works = sound_works_at_opening me tries;
  lines = lines_open_at_opening me tries;
  recovery = recovery_may_step_at_opening me tries;
}

pub IsSoundNode-step : (input : Input) (node : Node) → May input node → InputNamesObjects input → IsSoundNode node
    → IsSoundNode (node_step input node).node
IsSoundNode-step input node may named is = record {
  one_work = one_work_stays input node may is.one_work;
  given = numbers_stay_given input node may is.one_work is.given;
  own_entries = own_entries_stay input node (asks_for_own input node may) is.own_entries;
  queues = queues_stay input node may is.one_work is.queues;
  short_queues = queues_stay_short input node may is.short_queues;
  sole_commands = commands_stay_alone input node may is.queues is.sole_commands;
  wanted_works = works_stay_wanted input node may is.one_work is.queues is.sole_commands is.wanted_works;
  on_disks = stay_on_disks input node may is.queues is.sole_commands is.on_disks;
  in_turn = stay_in_turn input node is.in_turn;
  log = log_stays input node may is.log;
  by_the_log = step_follows input node may is.by_the_log;
  read = read_if_asked_stays input node may is.by_the_log is.read;
  none_due = step_not_due input node;
  valid_disks = valid_disks_stay input node (valid_input input node may.condition is.valid_disks.read) is.valid_disks;
  sound_works = sound_works_stay input node may named is;
  lines = lines_stay_open input node may is.one_work is.lines;
  recovery = recovery_may_step_stays input node may is.log is.by_the_log is.valid_disks is.recovery;
}

pub sends_at_most_1000 : (input : Input) (node : Node) → May input node → IsSoundNode node → length (node_step input node).outputs.sends ≤ 1000
sends_at_most_1000 input node may is =
    sends_few input node (valid_input input node may.condition is.valid_disks.read) is.valid_disks may is.short_queues is.recovery

-- where its recovery begins
pub begins_at_entry : (entry : Entry) (node : Node) → May (inputs.LogEntry entry) node → IsSoundNode node → begins_recovery entry node ≡ true
    → RecoveryMayBegin (node_with_entry entry node)
begins_at_entry entry node may is =
    recovery_begins_at_entry entry node may.condition (log_after (inputs.LogEntry entry) node may.condition is.log) is.by_the_log is.recovery

pub begins_back : (entries : List Entry) (node : Node) → May (inputs.Back entries) node → IsSoundNode node
    → RecoveryMayBegin (come_back_with entries node)
begins_back entries node may is =
    recovery_begins_back entries node may.condition (log_after (inputs.Back entries) node may.condition is.log)
