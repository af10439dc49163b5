-- The conjuncts of the invariant by which each attempt is shaped: it goes to the targets of its epoch, on an object whose id was reserved.
use Rattle.overlap_law.specs.Past.{MomentWithPast}
use Rattle.overlap_law.specs.Holders.{targets_by}
use Rattle.overlap_law.specs.Fates.{AttemptsAreShaped, IdsAreKnown}

-- those of a moment are
pub record AreShaped (moment : MomentWithPast) : Type 0 where
  pub shape : AttemptsAreShaped (targets_by moment.world.log) moment.world.log moment.past.attempts
  pub known : IdsAreKnown moment.world.log moment.past.attempts
