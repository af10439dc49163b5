-- The events by which a world is driven on to a client's answer.
use Rattle.std.specs.Prelude.{ℕ, zero, suc, List, [], ◌∷◌, is_some, if◌then◌else◌}
use Rattle.std.specs.Option.{option_map_or}
use Rattle.cluster_script.specs.declared.statement.Statement.{Statement}
use Rattle.sheep_node.specs.declared.event.Event.{Event}
use Rattle.sheep_world.specs.ClientAsks.{answer_of}
use Rattle.sheep_world.specs.ClientSteps.{next_driven, world_with_event}
use Rattle.sheep_world.specs.World.{World}

-- the events of so many turns at most, up to the answer: in each turn the first that may happen then of those that bring an answer
unfoldable pub driven_events : List Statement → ℕ → World → List Event
driven_events script zero world = []
driven_events script (suc turns) world =
    if is_some (answer_of world) then []
    else option_map_or
    (λ (event : Event). event ∷ driven_events script turns (world_with_event script event world))
    (next_driven script world) []
