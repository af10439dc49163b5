use Rattle.std.proofs.Common.{sym, subst}
use Rattle.recovery.specs.Kept.{AscendByNumber}
use Rattle.recovery.proofs.FlightLemmas.{ascend-upwards}
use Rattle.recovery.proofs.in_flight.InFlight.to_all.Goals as goal

pub invariant_of-result : goal.invariant_of-result
invariant_of-result c = subst AscendByNumber (sym c.in_ok-nodes.ensures) (ascend-upwards c.args.first c.args.nodes.now)
