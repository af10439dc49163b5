use Rattle.std.proofs.Common.{refl}
use Rattle.schedule.proofs.laws.the_first_words.Goals as goal

pub returns : goal.returns
returns c = record { first = refl; second = refl }
