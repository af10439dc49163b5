use Rattle.std.proofs.Common.{◌≡◌}
use Rattle.live_workers.proofs.shared.Shared.take_leave.Given as goal

-- the place is as it was, as long as no node left
abbrev pub invariant-loop-node : goal.invariant-loop-node
invariant-loop-node g l = record {
  seat : l.place.seat ≡ l.fn.place.seat;
  worker : l.place.worker ≡ l.fn.place.worker;
  turn : l.place.turn ≡ l.fn.place.turn;
  begun : l.place.begun ≡ l.fn.place.begun;
  next : l.place.next ≡ l.fn.place.next;
}
