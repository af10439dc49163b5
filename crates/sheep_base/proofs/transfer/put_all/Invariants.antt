use Rattle.std.proofs.Common.{length, ◌-◌, ◌≡◌, ◌≤◌, take}
use Rattle.sheep_base.specs.Sink.{Gains}
use Rattle.sheep_base.proofs.transfer.put_all.Given as goal

abbrev pub invariant-loop-at : goal.invariant-loop-at
invariant-loop-at g l = record {
  given : Gains g.K.Sink.stops (g.K.Sink.given l.fn.sink) (g.K.Sink.given l.sink) (take l.at l.text);
  within : l.at ≤ length l.text;
  count : g.K.Sink.faults l.fn.sink ≤ g.K.Sink.faults l.sink;
  untouched : l.at ≡ 0 → l.sink ≡ l.fn.sink;
}

abbrev pub decreases-loop-at : goal.decreases-loop-at
decreases-loop-at g l = length l.text - l.at
