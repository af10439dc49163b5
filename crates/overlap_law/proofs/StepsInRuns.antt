-- What is known in the middle of a step of a run in range: works are those that requests wait for, what is at work is sound and on disks
-- that the node knows, the tables of commands are those of their disks, and of what the node read the headers are those of inodes.
use Rattle.std.proofs.Common.{◌≡◌, List}
use Rattle.object_id.specs.declared.entry.Entry.{Entry}
use Rattle.cluster_script.specs.declared.statement.Statement.{Statement}
use Rattle.vdi_directory.specs.declared.effect.Effect.{Effect}
use Rattle.peer_service.specs.State.{effects_of}
use Rattle.sheep_node.specs.declared.input.Input.{Input}
use Rattle.sheep_node.specs.declared.input.Input.TheVariants as inputs
use Rattle.sheep_node.specs.LogReading.{entry_read}
use Rattle.sheep_node.specs.State.{Node}
use Rattle.sheep_node.specs.StepState.{StepState}
use Rattle.sheep_node.proofs.SoundCommands.{HeadersAreSound}
use Rattle.sheep_world.specs.Began.{Began}
use Rattle.sheep_world.specs.NodeCauses.{input_of_cause}
use Rattle.overlap_law.specs.MomentChanges.{RunsAreInRange}
use Rattle.overlap_law.specs.Past.{MomentWithPast}
use Rattle.overlap_law.specs.StepMoments.{SteppingNode, IsStepping, StepsByChanges, LeadsInStep, first_in_step}
use Rattle.overlap_law.proofs.CausedWorks.{by_changes}
use Rattle.overlap_law.proofs.KnownDiskSteps.{effects_after}
use Rattle.overlap_law.proofs.WholeInRuns.{from_beginning}
use Rattle.overlap_law.proofs.WholeNodes.{AreWholeOn}
use Rattle.overlap_law.proofs.WholeSteps.{IsWellKnown, well, tables_so_far, read_so, headers_after}

module _ (script : List Statement) (range : RunsAreInRange script) (start : MomentWithPast) (began : Began script start.world)
    (stepping : SteppingNode) (is : IsStepping script start.world stepping) (by : StepsByChanges stepping.cause) where
  abbrev input : Input
  input = input_of_cause stepping.cause

  abbrev node : Node
  node = stepping.host.node

  abbrev known : List Effect
  known = effects_after (input_of_cause stepping.cause) stepping.host.node

  pub knows_read : (entry : Entry) → input ≡ inputs.LogEntry entry → effects_of (entry_read entry node).peer ≡ known
  knows_read =
      from_beginning script range start.world began stepping.n stepping.host is.there is.up stepping.cause (by_changes stepping.cause by)
      is.caused (read_so input node)

  pub knows_headers : HeadersAreSound known
  knows_headers =
      from_beginning script range start.world began stepping.n stepping.host is.there is.up stepping.cause (by_changes stepping.cause by)
      is.caused (headers_after input node)

  module _ (so_far : StepState) (leads : LeadsInStep stepping (first_in_step stepping) so_far) where
    pub knows_well : IsWellKnown known input node so_far
    knows_well =
        from_beginning script range start.world began stepping.n stepping.host is.there is.up stepping.cause
        (by_changes stepping.cause by) is.caused (well input node) so_far leads

    pub knows_tables : AreWholeOn known so_far.node
    knows_tables =
        from_beginning script range start.world began stepping.n stepping.host is.there is.up stepping.cause
        (by_changes stepping.cause by) is.caused (tables_so_far input node) so_far leads
