use Rattle.recovery.proofs.RangeLemmas.{asked_by_own, asked_in_range, begun_in_range, ticked_in_range, ended_in_range}
use Rattle.recovery.proofs.laws.what_is_asked_can_be_spelled.Goals as goal

pub returns : goal.returns
returns c = record { own = asked_by_own; asked = asked_in_range; begin = begun_in_range; tick = ticked_in_range; end = ended_in_range }
