-- In how many zones points stand, wherever a walk of them begins.
use Rattle.std.proofs.Common.{◌≡◌, ℕ, ◌+◌, Bool, true, false, cond, List, [], ◌∷◌, ◌++◌, length, map, take, drop, refl, sym, ap, ◌∙◌, arith, length-append, take-append-drop}
use Rattle.std.proofs.lemmas.List.{append-nil, map-append}
use Rattle.object_id.specs.declared.node.NodeId.{NodeId}
use Rattle.hash_ring.specs.declared.point.Point.{Point}
use Rattle.hash_ring.specs.Placement.{is_among}
use Rattle.hash_ring.specs.Walk.{walk, first_nodes, zones_met}
use Rattle.hash_ring.proofs.CountLaws.{fresh, fresh_swap}

abbrev zones_in : List Point → List ℕ
zones_in points = map (λ (point : Point). point.zone) points

-- one node more, where it is kept
pub length-kept : (nodes : List NodeId) (node : NodeId) (kept : Bool)
    → length (nodes ++ cond kept (node ∷ []) []) ≡ length nodes + cond kept 1 0
length-kept nodes node true = length-append nodes (node ∷ [])
length-kept nodes node false = length-append nodes []

-- as many nodes are first ones as there are zones that weren't seen
length-first_nodes : (seen : List ℕ) (points : List Point) → length (first_nodes seen points) ≡ fresh seen (zones_in points)
length-first_nodes seen [] = refl
length-first_nodes seen (p ∷ ps) = go (is_among p.zone seen) (length-first_nodes (p.zone ∷ seen) ps)
  where
    go : (b : Bool) → length (first_nodes (p.zone ∷ seen) ps) ≡ fresh (p.zone ∷ seen) (zones_in ps)
        → length (cond b (first_nodes (p.zone ∷ seen) ps) (p.node ∷ first_nodes (p.zone ∷ seen) ps))
        ≡ cond b 0 1 + fresh (p.zone ∷ seen) (zones_in ps)
    go true e = omega (arith, e)
    go false e = omega (arith, e)

-- a zone may be met first
fresh-moved : (seen first rest : List ℕ) (zone : ℕ) → fresh seen (first ++ zone ∷ rest) ≡ fresh seen (zone ∷ first ++ rest)
fresh-moved seen [] rest zone = refl
fresh-moved seen (z ∷ first) rest zone =
    ap (λ n. cond (is_among z seen) 0 1 + n) (fresh-moved (z ∷ seen) first rest zone)
    ∙ fresh_swap seen z zone (first ++ rest)

-- and so may those behind
fresh-turned : (seen first rest : List ℕ) → fresh seen (first ++ rest) ≡ fresh seen (rest ++ first)
fresh-turned seen [] rest = ap (fresh seen) (sym (append-nil rest))
fresh-turned seen (zone ∷ first) rest =
    ap (λ n. cond (is_among zone seen) 0 1 + n) (fresh-turned (zone ∷ seen) first rest)
    ∙ sym (fresh-moved seen rest first zone)

-- a walk meets as many zones as the points have
pub zones_met-walk : (start : ℕ) (points : List Point) → zones_met (walk start points) ≡ zones_met points
zones_met-walk start points =
    let zone : Point → ℕ = λ (point : Point). point.zone in
    length-first_nodes [] (walk start points)
    ∙ ap (fresh []) (map-append zone (drop start points) (take start points))
    ∙ fresh-turned [] (zones_in (drop start points)) (zones_in (take start points))
    ∙ ap (fresh []) (sym (map-append zone (take start points) (drop start points)))
    ∙ ap (λ (ps : List Point). fresh [] (zones_in ps)) (take-append-drop start points)
    ∙ sym (length-first_nodes [] points)
