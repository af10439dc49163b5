use Rattle.std.proofs.Common.{sym, subst}
use Rattle.recovery.specs.Kept.{AscendByNumber}
use Rattle.recovery.proofs.FlightLemmas.{ascend-without}
use Rattle.recovery.proofs.in_flight.InFlight.remove.Goals as goal

pub invariant_of-self : goal.invariant_of-self
invariant_of-self c =
    subst AscendByNumber (sym c.remove.ensures) (ascend-without c.args.number c.self.inside.nodes.items c.self.invariant)
