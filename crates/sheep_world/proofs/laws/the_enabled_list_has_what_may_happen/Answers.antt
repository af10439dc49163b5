use Rattle.sheep_world.proofs.EnabledLaws.{enabled_events-has, enabled_events-makes, enabled_events-no_phase}
use Rattle.sheep_world.proofs.laws.the_enabled_list_has_what_may_happen.Goals as goal

pub returns : goal.returns
returns c = record { has = enabled_events-has; makes = enabled_events-makes; no_phase = enabled_events-no_phase }
