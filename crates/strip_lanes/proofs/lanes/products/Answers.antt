use Rattle.std.proofs.Common.{get_or, bit_xor}
use Rattle.strip_lanes.proofs.LaneLemmas.{HasLanes-same, HasLanes-zip2}
use Rattle.strip_lanes.proofs.ProductLaws.{product_of_halves}
use Rattle.strip_lanes.proofs.lanes.products.Goals as goal

pub returns : goal.returns
returns c =
    HasLanes-same _ _ _
    (HasLanes-zip2 bit_xor c.by_low_halves.result c.by_high_halves.result _ _ c.by_low_halves.ensures c.by_high_halves.ensures)
    (λ k l. product_of_halves c.args.element (get_or c.args.bytes k 0))
