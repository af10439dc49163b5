-- The conjuncts of the invariant that tie the attempts to the wire, with what else is needed to keep them over each change of a moment.
use Rattle.std.specs.Prelude.{◌≡◌, List, Some}
use Rattle.std.specs.FinMap as tree
use Rattle.sheep_world.specs.World.{Host}
use Rattle.overlap_law.specs.Attempts.{AttemptRecord}
use Rattle.overlap_law.specs.Reached.{Hosts}
use Rattle.overlap_law.specs.Past.{MomentWithPast}
use Rattle.overlap_law.specs.Each.{EachAttempt}
use Rattle.overlap_law.specs.Packets.{Wire}
use Rattle.overlap_law.specs.Flight.{NumbersAreSent, NoReplyGoesToTheLost, FatesAreTold}
use Rattle.overlap_law.specs.Fates.{FatesAreOfTheWire, AttemptsAreOfIncarnations, ServersReachedTheEpoch}

-- the gateway of each attempt has a host
pub record GatewaysAreThere (hosts : Hosts) (attempts : List AttemptRecord) : Type 0 where
  pub each : EachAttempt attempts (λ j attempt. (host : Host) × (tree.get hosts attempt.gateway.0 ≡ Some host))

-- the attempts go with the hosts of their gateways and of those that served them, and with the wire: its numbers were given by their
-- senders, and none of the lost gets a reply
pub record AttemptsAreTied (hosts : Hosts) (wire : Wire) (attempts : List AttemptRecord) : Type 0 where
  pub numbers : NumbersAreSent hosts wire
  pub no_reply_to_lost : NoReplyGoesToTheLost hosts wire
  pub there : GatewaysAreThere hosts attempts
  pub incarnations : AttemptsAreOfIncarnations hosts wire attempts
  pub fates : FatesAreOfTheWire wire attempts
  pub told : FatesAreTold wire attempts
  pub reached : ServersReachedTheEpoch hosts attempts

-- those of a moment do
abbrev pub IsTied : MomentWithPast → Type 0
IsTied moment = AttemptsAreTied moment.world.hosts moment.world.wire moment.past.attempts
