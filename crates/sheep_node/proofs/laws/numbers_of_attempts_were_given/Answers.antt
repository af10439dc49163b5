use Rattle.sheep_node.proofs.GivenNumbers.{numbers_given_at_opening, numbers_stay_given}
use Rattle.sheep_node.proofs.laws.numbers_of_attempts_were_given.Goals as goal

pub returns : goal.returns
returns c = record { opens = numbers_given_at_opening; stays = numbers_stay_given }
