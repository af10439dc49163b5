-- What a node has read is a log.
use Rattle.std.proofs.Common.{ℕ, List, [], ◌∷◌, ◌++◌, sym, subst}
use Rattle.std.proofs.lemmas.List.{append-nil, append_assoc}
use Rattle.object_id.specs.declared.node.NodeId.{NodeId}
use Rattle.object_id.specs.declared.entry.Entry.{Entry}
use Rattle.object_id.specs.declared.entry.Entry.TheVariants.{Format, Join, Leave, Reweight, Recovered, Reserve, Publish, Clone, Snapshot, Delete, Lock, Unlock}
use Rattle.epoch_log.proofs.MembersLemmas.{IsLog-push}
use Rattle.sheep_node.specs.declared.input.Input.{Input}
use Rattle.sheep_node.specs.declared.input.Input.TheVariants as inputs
use Rattle.sheep_node.specs.State.{Node, initial_node}
use Rattle.sheep_node.specs.Step.{node_step}
use Rattle.sheep_node.specs.StepFacts.{read_after, IsLogSoFar, HasReadLog}
use Rattle.sheep_node.specs.May.{MayRead, MayReadAll, Meets, May}
use Rattle.sheep_node.proofs.StepResults.{step_reads}

pub read_log : (before : List Entry) (entry : Entry) → IsLogSoFar before → MayRead before entry → IsLogSoFar (before ++ entry ∷ [])
read_log (first ∷ later) entry log may = IsLog-push (first ∷ later) entry log may
read_log [] (Format members) log may = (may, tt)
read_log [] (Join node zone vnodes) log may = absurd may
read_log [] (Leave node) log may = absurd may
read_log [] (Reweight node vnodes) log may = absurd may
read_log [] (Recovered node epoch) log may = absurd may
read_log [] (Reserve by session name origin) log may = absurd may
read_log [] (Publish by vid) log may = absurd may
read_log [] (Clone by vid) log may = absurd may
read_log [] (Snapshot by old vid) log may = absurd may
read_log [] (Delete by session name tag) log may = absurd may
read_log [] (Lock by session name tag) log may = absurd may
read_log [] (Unlock by session vid) log may = absurd may

pub all_log : (before later : List Entry) → IsLogSoFar before → MayReadAll before later → IsLogSoFar (before ++ later)
all_log before [] log may = subst IsLogSoFar (sym (append-nil before)) log
all_log before (entry ∷ later) log may =
    subst IsLogSoFar (append_assoc before (entry ∷ []) later) (all_log (before ++ entry ∷ []) later (read_log before entry log may.0) may.1)

pub log_after : (input : Input) (node : Node) → Meets input node → HasReadLog node → IsLogSoFar (read_after input node.peer.entries)
log_after (inputs.Guest req session ask) node meets log = log
log_after (inputs.Request request) node meets log = log
log_after (inputs.Reply rsp) node meets log = log
log_after (inputs.Lost number) node meets log = log
log_after (inputs.LogEntry entry) node meets log = read_log node.peer.entries entry log meets
log_after inputs.Put node meets log = log
log_after inputs.RecoverTick node meets log = log
log_after inputs.RetryTick node meets log = log
log_after (inputs.Back entries) node meets log =
    subst IsLogSoFar (sym meets.goes_on) (all_log node.peer.entries meets.later log meets.read)

pub log_at_opening : (me : NodeId) (tries : ℕ) → HasReadLog (initial_node me tries)
log_at_opening me tries = tt

pub log_stays : (input : Input) (node : Node) → May input node → HasReadLog node → HasReadLog (node_step input node).node
log_stays input node may log = subst IsLogSoFar (sym (step_reads input node)) (log_after input node may.condition log)
