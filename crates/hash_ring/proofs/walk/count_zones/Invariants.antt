use Rattle.std.proofs.Common.{◌≡◌, ◌≤◌, [], length, take}
use Rattle.hash_ring.specs.Walk.{walk, zones_before, AreMarked, first_nodes}
use Rattle.hash_ring.proofs.walk.count_zones.Given as goal

abbrev pub invariant-loop-turn : goal.invariant-loop-turn
invariant-loop-turn l = record {
  found : l.count ≡ length (first_nodes [] (take l.turn (walk 0 l.points)));
  marks : AreMarked l.met (zones_before l.turn 0 l.points);
  bound : l.count ≤ l.turn;
}
