use Rattle.std.proofs.Common.{◌≡◌, ◌≤◌, subst, arith}
use Rattle.cluster_script.specs.Language.{IsScript}
use Rattle.cluster_script.specs.Settings.{nodes_of}
use Rattle.sheep_world.proofs.OpeningNodes.{nodes_within}
use Rattle.sheep_world.proofs.opening.opening_count.Goals as goal

pub returns-clause-limit : goal.returns-clause-limit
returns-clause-limit c =
    let within : nodes_of c.args.script.now ≤ 64
    = nodes_within c.args.script.now (subst IsScript c.statements-statements.ensures.statements c.statements-statements.ensures.script) in
    let own : c.nodes.result ≡ nodes_of c.args.script.now = c.nodes.ensures in
    omega (arith, within, own)
