use Rattle.recovery.proofs.StepLemmas.{numbers_of_tick, frame_of_tick, frame_of_end}
use Rattle.recovery.proofs.laws.messages_are_unanswered_until_they_end.Goals as goal

pub returns : goal.returns
returns c = record { numbers = numbers_of_tick; tick = frame_of_tick; end = frame_of_end }
