use Rattle.std.proofs.Common.{ℕ, ◌+◌, ◌*◌, get_or, arith}
use Rattle.strip_lanes.specs.declared.low_products.TheConstants.{LOW_PRODUCTS}
use Rattle.strip_lanes.proofs.LaneLemmas.{HasLanes-same, low_halves, places_ok, looked_up}
use Rattle.strip_lanes.proofs.ProductLaws.{low_product_at}
use Rattle.strip_lanes.proofs.lanes.by_low_halves.Goals as goal

pub swizzle : goal.swizzle
swizzle c = places_ok _ _ (low_halves c.args.bytes c.requires) (λ k l. omega arith)

pub returns : goal.returns
returns c =
    let found : ℕ → ℕ = λ n. get_or LOW_PRODUCTS (c.args.element * 16 + n) 0 in
    HasLanes-same _ _ _
    (looked_up _ _ (low_halves c.args.bytes c.requires) (λ k l. omega arith) c.row.result found c.row.ensures)
    (λ k l. low_product_at c.args.element _ c.ranges.element.fits (omega arith))
