use Rattle.std.proofs.Common.{◌≡◌, ℕ, zero, suc, ◌<◌, true, not, List, [], ◌∷◌, length, get_or, map, take, sym, ap, ◌∙◌, arith}
use Rattle.std.specs.Prelude.{◌==◌}
use Rattle.std.proofs.lemmas.List.{get_or-take, length-take}
use Rattle.std.proofs.lemmas.Bool.{eq-eqb, or_left, or_right}
use Rattle.hash_ring.specs.declared.point.Point.{Point}
use Rattle.hash_ring.specs.Placement.{is_among}
use Rattle.hash_ring.specs.Walk.{walk}
use Rattle.hash_ring.proofs.WalkLaws.{length-walk}
use Rattle.hash_ring.proofs.walk.none_before.Goals as goal

-- the zone of one of the points is among theirs
is_among-here : (zone : ℕ) (points : List Point) (k : ℕ) (p : Point) → k < length points → p ≡ get_or points k p → p.zone ≡ zone
    → is_among zone (map (λ (q : Point). q.zone) points) ≡ true
is_among-here zone [] k p lt is e = absurd (omega arith)
is_among-here zone (q ∷ qs) zero p lt is e =
    or_left (q.zone == zone) (is_among zone (map (λ (r : Point). r.zone) qs))
    (eq-eqb q.zone zone (sym (ap (λ (r : Point). r.zone) is) ∙ e))
is_among-here zone (q ∷ qs) (suc k) p lt is e =
    or_right (q.zone == zone) (is_among zone (map (λ (r : Point). r.zone) qs)) (is_among-here zone qs k p (omega arith) is e)

is_among-taken : (zone : ℕ) (points : List Point) (turn k : ℕ) (p : Point) → k < turn → turn < length points
    → p ≡ get_or points k p → p.zone ≡ zone → is_among zone (map (λ (q : Point). q.zone) (take turn points)) ≡ true
is_among-taken zone points turn k p lt room is e =
    let l = length-take turn points in
    is_among-here zone (take turn points) k p (omega (arith, l)) (is ∙ sym (get_or-take turn points k p lt)) e

pub returns-then-at-zone : goal.returns-then-at-zone
returns-then-at-zone c =
    let l = length-walk c.args.points.now c.args.start c.requires.start in
    sym (ap not (is_among-taken c.args.zone (walk c.args.start c.args.points.now) c.args.turn c.loop-earlier.earlier c.at.result
    c.loop-earlier-test.true (omega (arith, l, c.requires.turn)) c.at.ensures c.if-at-zone.true))
