use Rattle.sheep_world.proofs.ClientLaws.{driven-may, driven-answered, driven-still}
use Rattle.sheep_world.proofs.laws.an_answer_is_brought_by_events.Goals as goal

pub returns : goal.returns
returns c = record { next = driven-may; answered = driven-answered; still = driven-still }
