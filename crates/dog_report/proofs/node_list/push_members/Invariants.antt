use Rattle.std.proofs.Common.{◌≡◌, ◌++◌, [], drop, map}
use Rattle.std.specs.Option.{option_map_or}
use Rattle.object_id.specs.declared.entry.Member.{Member}
use Rattle.sheep_world.specs.World.{host_at}
use Rattle.dog_report.specs.Lists.{host_words, node_list}
use Rattle.dog_report.specs.ListParts.{lines_text}
use Rattle.dog_report.proofs.node_list.push_members.Given as goal

-- what was added, with the lines of the members that are left, is all of them
abbrev pub invariant-loop-member : goal.invariant-loop-member
invariant-loop-member l =
    let world = l.world.world in
    l.text.items ++ lines_text (map (λ (member : Member). option_map_or (host_words member) (host_at member.node.0 world) [])
    (drop l.member-index l.members))
    ≡ l.fn.text.items ++ lines_text (node_list world)
