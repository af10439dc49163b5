use Rattle.std.proofs.Common.{◌≡◌, ◌≤◌, [], length, take, drop}
use Rattle.hash_ring.specs.Walk.{walk, zones_before, AreMarked, first_nodes}
use Rattle.hash_ring.proofs.walk.fill.Given as goal

abbrev pub invariant-loop-turn : goal.invariant-loop-turn
invariant-loop-turn l = record {
  filled : take l.count l.out ≡ first_nodes [] (take l.turn (walk l.start l.points));
  found : l.count ≡ length (first_nodes [] (take l.turn (walk l.start l.points)));
  room : l.count ≤ l.n;
  marks : AreMarked l.met (zones_before l.turn l.start l.points);
  rest : drop l.count l.out ≡ drop l.count l.fn.out;
}
