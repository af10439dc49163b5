use Rattle.std.proofs.Common.{◌≡◌, ℕ, ◌+◌, ◌≤◌, Bool, true, false, cond, List, [], length, take, refl, sym, ap, ◌∙◌, arith}
use Rattle.std.specs.Prelude.{◌==◌, ◌||◌}
use Rattle.std.proofs.lemmas.List.{append-nil, take_all, get_or-replicate}
use Rattle.object_id.specs.declared.node.NodeId.{NodeId}
use Rattle.hash_ring.specs.Walk.{walk, first_nodes, zones_met}
use Rattle.hash_ring.proofs.WalkLaws.{first_nodes_more, is_among_more, length-walk}
use Rattle.hash_ring.proofs.ZoneLaws.{length-kept}
use Rattle.hash_ring.proofs.walk.count_zones.Goals as goal

one_more : (count now turn : ℕ) (kept : Bool) → count ≤ turn → now ≡ count + cond kept 1 0 → now ≤ turn + 1
one_more count now turn true h e = omega (arith, h, e)
one_more count now turn false h e = omega (arith, h, e)

pub loop-turn-init : goal.loop-turn-init
loop-turn-init c = record {
  found = refl;
  marks = λ zone h. get_or-replicate 64 zone false false h;
  bound = omega arith;
}

pub loop-turn-preserved : goal.loop-turn-preserved
loop-turn-preserved c =
    let w = walk 0 c.args.points.now in
    let l = length-walk c.args.points.now 0 (omega arith) in
    let step = first_nodes_more w c.loop-turn.turn c.at-point.result c.is_new-counts.result (omega (arith, l, c.loop-turn-test.true)) c.at-point.ensures c.is_new-counts.ensures in
    let before = first_nodes [] (take c.loop-turn.turn w) in
    record {
      found = c.count_with-count.ensures
          ∙ ap (λ k. k + cond c.is_new-counts.result 1 0) c.loop-turn.invariant.found
          ∙ sym (length-kept before c.at-point.result.node c.is_new-counts.result)
          ∙ sym (ap (λ (nodes : List NodeId). length nodes) step);
      marks = λ zone h.
          c.mark.ensures zone h
          ∙ ap (λ b. b || (c.at-point.result.zone == zone)) (c.loop-turn.invariant.marks zone h)
          ∙ sym (is_among_more zone w c.loop-turn.turn c.at-point.result (omega (arith, l, c.loop-turn-test.true)) c.at-point.ensures);
      bound = one_more c.loop-turn.count c.count_with-count.result c.loop-turn.turn c.is_new-counts.result c.loop-turn.invariant.bound c.count_with-count.ensures;
    }

pub returns : goal.returns
returns c =
    let points = c.args.points.now in
    let l = length-walk points 0 (omega arith) in
    c.loop-turn.invariant.found
    ∙ ap zones_met (take_all c.loop-turn.turn (walk 0 points) (omega (arith, l, c.loop-turn-test.false)) ∙ append-nil points)
