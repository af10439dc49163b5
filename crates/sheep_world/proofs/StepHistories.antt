-- What the replies of a step add, by the world before the event: a step is made in a world that differs from it in what adds nothing.
use Rattle.std.proofs.Common.{◌≡◌, ℕ, List, [], ◌++◌, Option, None, Result, IfOk, subst}
use Rattle.std.specs.FinMap as tree
use Rattle.object_id.specs.declared.memory.NoMemory.{NoMemory}
use Rattle.cluster_script.specs.declared.statement.Statement.{Statement}
use Rattle.disk_history.specs.declared.event.HistEvent.{HistEvent}
use Rattle.message_wire.specs.declared.packet.Packet.{Packet}
use Rattle.message_wire.specs.Message.{name_cmp}
use Rattle.sheep_node.specs.declared.input.Input.{Input}
use Rattle.sheep_node.specs.declared.outputs.Outputs.{Outputs}
use Rattle.sheep_world.specs.World.{World}
use Rattle.sheep_world.specs.HistoryAdditions.{replies_grown}

module _ (statements : List Statement) (before : World) where
  pub replies-before : (wire : tree.FinMap name_cmp Packet) (losses : ℕ) (input : Option Input) (outputs : Outputs)
      (result : Result (World × List HistEvent) NoMemory) (world : World) (none : List HistEvent)
      → world ≡ record before { wire = wire; losses = losses; input = input; outputs = outputs } → none ≡ []
      → IfOk result (λ made. made.1 ≡ none ++ replies_grown statements world None made.0)
      → IfOk result (λ made. made.1 ≡ replies_grown statements before None made.0)
  replies-before wire losses input outputs result world none is empty given =
      subst (λ (earlier : List HistEvent). IfOk result (λ made. made.1 ≡ earlier ++ replies_grown statements before None made.0)) empty
      (subst (λ (world : World). IfOk result (λ made. made.1 ≡ none ++ replies_grown statements world None made.0)) is given)
