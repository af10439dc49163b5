-- Along a step a command creates the inode of the id that it was granted.
use Rattle.std.specs.FinMap as tree
use Rattle.sheep_node.specs.declared.input.Input.{Input}
use Rattle.sheep_node.specs.State.{Node}
use Rattle.sheep_node.specs.StepState.{StepState, at_first}
use Rattle.sheep_node.specs.Changes as changes
use Rattle.sheep_node.specs.Changes.{IsSoundStep, input_received, Leads}
use Rattle.sheep_node.proofs.OneWorkChanges.{change_keeps_one_work, received_one_work}
use Rattle.sheep_node.proofs.StepChain.{kept_by_chain}
use Rattle.overlap_law.proofs.OwnMakings.{MakesOwnOf, AreOwnMakings, ChecksAreFew, WorksUnderWay, WorksWell, steps_own}
use Rattle.overlap_law.proofs.WorksAtCourses.{change_keeps_at, none_at, received_at}

pub none_own : AreOwnMakings tree.empty tree.empty tree.empty
none_own = none_at MakesOwnOf

-- in the middle of a step
pub own_in_chain : (input : Input) (node : Node) → IsSoundStep input node → ChecksAreFew input node
    → AreOwnMakings node.gateway.works node.requests node.sessions → (so_far : StepState)
    → Leads input node (input_received input (at_first node)) so_far
    → AreOwnMakings so_far.node.gateway.works so_far.node.requests so_far.node.sessions
own_in_chain input node sound few all so_far leads =
    (kept_by_chain (WorksWell input node)
    (λ so_far next change all. (
      (changes.Then all.0.0 change, change_keeps_one_work so_far next change sound all.0.1),
      change_keeps_at MakesOwnOf sound (WorksUnderWay input node) (λ here known. known.1) (steps_own sound few) so_far next change all,
    ))
    leads ((changes.Still, received_one_work input node sound.1.driven), received_at MakesOwnOf input node all)).1
