use Rattle.std.proofs.Common.{◌≡◌, take, map}
use Rattle.object_id.specs.declared.entry.Member.{Member}
use Rattle.sheep_node.proofs.log_reading.nodes_of.Given as goal

abbrev pub invariant-loop-member : goal.invariant-loop-member
invariant-loop-member l = l.nodes.items ≡ map (λ (member : Member). member.node) (take l.member-index l.members)
