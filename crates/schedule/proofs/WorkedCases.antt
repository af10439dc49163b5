-- Cases that are worked out by computing.
use Rattle.std.proofs.Common.{◌≡◌, ℕ, List, [], ◌∷◌, ◌++◌, flat_map, nat_cmp, None, subst, ap}
use Rattle.std.specs.FinMap as tree
use Rattle.sheep_node.specs.declared.event.Event.TheVariants.{Guest}
use Rattle.sheep_world.specs.Opening.{no_outputs}
use Rattle.schedule.specs.Merged.{KeptStep, Kept, stamp_of, IsByStamp}
use Rattle.schedule.proofs.StampOrder.{by_key, insert_by_key}
use Rattle.schedule.proofs.KeptLaws.{by_stamp, by_stamp-is}

-- a step with a stamp, told apart by the session of its event
abbrev step_of : ℕ → ℕ → KeptStep
step_of stamp session = record { stamp = stamp; event = Guest session; input = None; outputs = no_outputs }

-- of node 0 steps with the stamps 3 and 1, of node 7 with 1 and 2, and of no node with 1 and 2
abbrev cells : List (ℕ × List KeptStep)
cells = (0, step_of 3 0 ∷ step_of 1 1 ∷ []) ∷ (7, step_of 1 2 ∷ step_of 2 3 ∷ []) ∷ []

abbrev others : List KeptStep
others = step_of 1 4 ∷ step_of 2 5 ∷ []

abbrev kept : Kept
kept = record { cells = tree.from_sorted cells; others = others }

abbrev its_order : List KeptStep
its_order = step_of 1 1 ∷ step_of 1 2 ∷ step_of 1 4 ∷ step_of 2 3 ∷ step_of 2 5 ∷ step_of 3 0 ∷ []

it_computes : by_stamp kept ≡ its_order
unfolding by_key insert_by_key
it_computes =
    ap (λ (cells : List (ℕ × List KeptStep)). by_key stamp_of (flat_map (λ (cell : ℕ × List KeptStep). cell.1) cells ++ others))
    (tree.entries-from_sorted nat_cmp cells tt)

it_stands_by_stamp : IsByStamp kept its_order
it_stands_by_stamp = subst (IsByStamp kept) it_computes (by_stamp-is kept)
