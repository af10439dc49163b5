use Rattle.schedule.proofs.ChoiceLaws.{choice-none, choice-limit, choice-drawn_choice}
use Rattle.schedule.proofs.laws.phase_stands_last.Goals as goal

pub returns : goal.returns
returns c = record { none = choice-none; limit = choice-limit; drawn = choice-drawn_choice }
