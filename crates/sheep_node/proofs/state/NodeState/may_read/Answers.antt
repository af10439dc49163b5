use Rattle.std.proofs.Common.{ap, ◌∙◌}
use Rattle.std.proofs.lemmas.Bool.Decides.{same_from_decides}
use Rattle.sheep_node.specs.MayTests.{may_read_entry}
use Rattle.sheep_node.specs.State.{Node}
use Rattle.sheep_node.proofs.MayTestLaws.{read_tested}
use Rattle.sheep_node.proofs.state.NodeState.may_read.Goals as goal

pub returns : goal.returns
returns c =
    let entries = c.self.inside.rows.peer.entries in
    same_from_decides c.may_read.result (may_read_entry entries c.args.entry.now) c.may_read.ensures (read_tested entries c.args.entry.now)
    ∙ ap (λ (node : Node). may_read_entry node.peer.entries c.args.entry.now) c.self.view_is
