use Rattle.sheep_world.proofs.AsksNumbers.{next_is_none}
use Rattle.sheep_world.proofs.ClientLaws.{run-events, events-began, asks-silent}
use Rattle.sheep_world.proofs.laws.asks_stand_between_the_events_of_a_run.Goals as goal

pub returns : goal.returns
returns c = record { events = run-events; began = events-began; number = λ statements world script. next_is_none statements script world; silent = asks-silent }
