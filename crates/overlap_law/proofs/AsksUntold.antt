-- What a client is told adds nothing to the history.
use Rattle.std.proofs.Common.{◌≡◌, ℕ, List, [], flat_map, None, ap, subst, ◌∙◌}
use Rattle.cluster_script.specs.declared.statement.Statement.{Statement}
use Rattle.cluster_script.specs.NumberedRequests.{request_at}
use Rattle.sheep_node.specs.declared.ask.Ask.{Ask}
use Rattle.sheep_node.specs.declared.input.Input.TheVariants as inputs
use Rattle.sheep_node.specs.Step.{node_step}
use Rattle.sheep_world.specs.HistoryAdditions.{reply_grown}
use Rattle.sheep_world.specs.NodeCauses.{ClientMayRead}
use Rattle.sheep_world.specs.World.{Host, World}
use Rattle.sheep_world.proofs.AskReplies.{read-adds_nothing}

pub read_tells_nothing : (script : List Statement) (world : World) (host : Host) (begins : ℕ) (asked : Ask)
    → ClientMayRead script world host begins asked
    → flat_map (reply_grown script world None) (node_step (inputs.Guest begins 0 asked) host.node).outputs.replies ≡ []
read_tells_nothing script world host begins asked may =
    subst (λ (k : ℕ). flat_map (reply_grown script world None) (node_step (inputs.Guest k 0 asked) host.node).outputs.replies ≡ [])
    may.number
    (read-adds_nothing script world host asked (ap (request_at script) may.number ∙ may.none))
