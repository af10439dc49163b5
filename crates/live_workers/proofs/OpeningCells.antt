-- The node of an opening member, which has read the log's first entry, opens its cell.
use Rattle.std.proofs.Common.{◌≡◌, ℕ, List, sym, ap, ap₂, subst}
use Rattle.object_id.specs.declared.node.NodeId.{NodeId}
use Rattle.object_id.specs.declared.entry.Entry.{Entry}
use Rattle.sheep_node.specs.declared.input.Input.TheVariants.{LogEntry}
use Rattle.sheep_node.specs.State.{Node, initial_node}
use Rattle.sheep_node.specs.Step.{node_step}
use Rattle.sheep_node.specs.May.{May}
use Rattle.sheep_node.proofs.NumberChanges.{one_work_at_opening}
use Rattle.sheep_node.proofs.StepResults.{step_reads, step_me}
use Rattle.live_cells.specs.Opening.{node_as_made, IsOpeningWith, IsOpening}
use Rattle.live_cells.proofs.KeptTries.{tries_stay}

pub opens_on_format : (me : NodeId) (tries : ℕ) (format : Entry) → May (LogEntry format) (initial_node me tries)
    → IsOpening (node_step (LogEntry format) (initial_node me tries)).node
opens_on_format me tries format may =
    let node : Node = initial_node me tries in
    let after : Node = (node_step (LogEntry format) node).node in
    let made : node_as_made after ≡ node =
    ap₂ initial_node (step_me (LogEntry format) node) (tries_stay (LogEntry format) node may (one_work_at_opening me tries)) in
    subst (λ (entries : List Entry). IsOpeningWith entries after) (sym (step_reads (LogEntry format) node)) (
      subst (λ (as_made : Node). May (LogEntry format) as_made) (sym made) may,
      ap (λ (as_made : Node). (node_step (LogEntry format) as_made).node) (sym made),
    )
