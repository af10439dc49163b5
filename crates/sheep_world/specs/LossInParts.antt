-- What a node's loss adds to the history, in the parts in which the code makes it.
use Rattle.std.specs.Prelude.{ℕ, Bool, false, List, [], ◌∷◌, if◌then◌else◌}
use Rattle.std.specs.Option.{option_map_or}
use Rattle.cluster_script.specs.declared.statement.Statement.{Statement}
use Rattle.cluster_script.specs.NumberedRequests.{request_at}
use Rattle.disk_history.specs.declared.event.HistEvent.{HistEvent}
use Rattle.disk_history.specs.declared.event.HistEvent.TheVariants.{WriterLost}
use Rattle.sheep_world.specs.World.{Host, World}
use Rattle.sheep_world.specs.HistoryAdditions.{is_lost_write}

-- whether the request of a number is a writer that a host's loss leaves without reply
abbrev pub is_lost_write_at : List Statement → World → ℕ → Host → ℕ → Bool
is_lost_write_at statements world node host req =
    option_map_or (λ (s : Statement). is_lost_write statements world node host (req, s)) (request_at statements req) false

-- what that adds
abbrev pub writer_lost : List Statement → World → ℕ → Host → ℕ → List HistEvent
writer_lost statements world node host req = if is_lost_write_at statements world node host req then WriterLost req ∷ [] else []
