use Rattle.std.proofs.Common.{◌≡◌, ◌++◌, ◌-◌, [], length, drop, flat_map}
use Rattle.std.specs.Option.{option_map_or}
use Rattle.std.specs.FinMap as tree
use Rattle.dog_report.specs.Lists.{dump}
use Rattle.dog_report.specs.ListParts.{lines_text, rows_if_up}
use Rattle.dog_report.proofs.dump.push_dump.Given as goal

-- what was added, with the lines of the nodes that are left, is all of them
abbrev pub invariant-loop-number : goal.invariant-loop-number
invariant-loop-number l =
    let world = l.world.world in
    l.text.items
    ++ lines_text (flat_map (λ number. option_map_or (rows_if_up number) (tree.get world.hosts number) [])
    (drop l.place (tree.keys world.hosts)))
    ≡ l.fn.text.items ++ lines_text (dump world)

abbrev pub decreases-loop-number : goal.decreases-loop-number
decreases-loop-number l = length (tree.keys l.world.world.hosts) - l.place
