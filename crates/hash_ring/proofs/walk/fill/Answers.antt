use Rattle.std.proofs.Common.{◌≡◌, ◌≢◌, ℕ, ◌+◌, ◌-◌, ◌≤◌, Bool, true, false, cond, List, [], ◌∷◌, ◌++◌, length, take, drop, refl, sym, ap, ◌∙◌, arith}
use Rattle.std.specs.Prelude.{◌==◌, ◌||◌}
use Rattle.std.proofs.lemmas.List.{drop-drop, get_or-replicate}
use Rattle.object_id.specs.declared.node.NodeId.{NodeId}
use Rattle.hash_ring.specs.Walk.{walk, first_nodes}
use Rattle.hash_ring.proofs.WalkLaws.{first_nodes_more, first_nodes_found, is_among_more, length-walk}
use Rattle.hash_ring.proofs.ZoneLaws.{length-kept}
use Rattle.hash_ring.proofs.walk.fill.Goals as goal

at_most : (count n now : ℕ) (kept : Bool) → count ≤ n → count ≢ n → now ≡ count + cond kept 1 0 → now ≤ n
at_most count n now true h other e = omega (arith, h, other, e)
at_most count n now false h other e = omega (arith, h, other, e)

at_least : (count now : ℕ) (kept : Bool) → now ≡ count + cond kept 1 0 → count ≤ now
at_least count now true e = omega (arith, e)
at_least count now false e = omega (arith, e)

drop_further : (m n : ℕ) (xs ys : List NodeId) → m ≤ n → drop m xs ≡ drop m ys → drop n xs ≡ drop n ys
drop_further m n xs ys h e =
    let k : m + (n - m) ≡ n = omega (arith, h) in
    ap (λ j. drop j xs) (sym k) ∙ sym (drop-drop (n - m) m xs) ∙ ap (drop (n - m)) e ∙ drop-drop (n - m) m ys ∙ ap (λ j. drop j ys) k

pub returns-then-count-n-clause-count : goal.returns-then-count-n-clause-count
returns-then-count-n-clause-count c =
    c.loop-turn.invariant.found
    ∙ sym (ap (λ (nodes : List NodeId). length nodes) (first_nodes_found (walk c.args.start c.args.points.now) c.loop-turn.turn c.args.n (sym c.loop-turn.invariant.found ∙ c.if-count-n.true)))

pub returns-then-count-n-clause-filled : goal.returns-then-count-n-clause-filled
returns-then-count-n-clause-filled c =
    c.loop-turn.invariant.filled
    ∙ sym (first_nodes_found (walk c.args.start c.args.points.now) c.loop-turn.turn c.args.n (sym c.loop-turn.invariant.found ∙ c.if-count-n.true))

pub loop-turn-init : goal.loop-turn-init
loop-turn-init c = record {
  filled = refl;
  found = refl;
  room = omega arith;
  marks = λ zone h. get_or-replicate 64 zone false false h;
  rest = refl;
}

pub loop-turn-preserved : goal.loop-turn-preserved
loop-turn-preserved c =
    let w = walk c.args.start c.args.points.now in
    let l = length-walk c.args.points.now c.args.start c.requires.start in
    let step = first_nodes_more w c.loop-turn.turn c.at-point.result c.is_new-is_wanted.result (omega (arith, l, c.loop-turn-test.true)) c.at-point.ensures c.is_new-is_wanted.ensures in
    let before = first_nodes [] (take c.loop-turn.turn w) in
    record {
      filled = c.keep-count.ensures.filled
          ∙ ap (λ (nodes : List NodeId). nodes ++ cond c.is_new-is_wanted.result (c.at-point.result.node ∷ []) []) c.loop-turn.invariant.filled
          ∙ sym step;
      found = c.keep-count.ensures.count
          ∙ ap (λ k. k + cond c.is_new-is_wanted.result 1 0) c.loop-turn.invariant.found
          ∙ sym (length-kept before c.at-point.result.node c.is_new-is_wanted.result)
          ∙ sym (ap (λ (nodes : List NodeId). length nodes) step);
      room = at_most c.loop-turn.count c.args.n c.keep-count.result c.is_new-is_wanted.result c.loop-turn.invariant.room c.if-count-n.false c.keep-count.ensures.count;
      marks = λ zone h.
          c.mark.ensures zone h
          ∙ ap (λ b. b || (c.at-point.result.zone == zone)) (c.loop-turn.invariant.marks zone h)
          ∙ sym (is_among_more zone w c.loop-turn.turn c.at-point.result (omega (arith, l, c.loop-turn-test.true)) c.at-point.ensures);
      rest = c.keep-count.ensures.rest
          ∙ drop_further c.loop-turn.count c.keep-count.result c.loop-turn.out c.args.out.now
          (at_least c.loop-turn.count c.keep-count.result c.is_new-is_wanted.result c.keep-count.ensures.count) c.loop-turn.invariant.rest;
    }
