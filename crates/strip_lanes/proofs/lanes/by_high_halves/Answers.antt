use Rattle.std.proofs.Common.{ℕ, ◌+◌, ◌*◌, get_or}
use Rattle.strip_lanes.specs.declared.high_products.TheConstants.{HIGH_PRODUCTS}
use Rattle.strip_lanes.proofs.LaneLemmas.{HasLanes-same, high_halves, high_halves-small, places_ok, looked_up}
use Rattle.strip_lanes.proofs.ProductLaws.{high_product_at}
use Rattle.strip_lanes.proofs.lanes.by_high_halves.Goals as goal

pub swizzle : goal.swizzle
swizzle c = places_ok _ _ (high_halves c.args.bytes c.requires) (high_halves-small c.args.bytes c.requires c.fits-bytes.1)

pub returns : goal.returns
returns c =
    let found : ℕ → ℕ = λ n. get_or HIGH_PRODUCTS (c.args.element * 16 + n) 0 in
    let small = high_halves-small c.args.bytes c.requires c.fits-bytes.1 in
    HasLanes-same _ _ _
    (looked_up _ _ (high_halves c.args.bytes c.requires) small c.row.result found c.row.ensures)
    (λ k l. high_product_at c.args.element _ c.ranges.element.fits (small k l))
