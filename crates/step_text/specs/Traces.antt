-- What an event of a trace makes of a world: it is made, or it may not happen and the world stays. What a client's line makes of it. And
-- what the lines of a trace make.
use Rattle.std.specs.Prelude.{◌≡◌, ◌⊎◌, ℕ, Bool, false, ◌&&◌, List, [], ◌∷◌, Some, None}
use Rattle.std.specs.Option.{option_map_or}
use Rattle.object_id.specs.declared.node.NodeId.{NodeId}
use Rattle.cluster_script.specs.declared.statement.Statement.{Statement}
use Rattle.disk_history.specs.declared.event.HistEvent.{HistEvent}
use Rattle.sheep_node.specs.declared.ask.Ask.{Ask}
use Rattle.sheep_node.specs.declared.event.Event.{Event}
use Rattle.sheep_node.specs.declared.input.Input.TheVariants as inputs
use Rattle.sheep_node.specs.State.{Node}
use Rattle.sheep_node.specs.MayTests.{may}
use Rattle.sheep_world.specs.World.{World, node_at}
use Rattle.sheep_world.specs.ClientAsks.{may_client_ask}
use Rattle.sheep_world.specs.ClientSteps.{ask_effect, world_driven}
use Rattle.sheep_world.specs.Enabled.{is_enabled}
use Rattle.sheep_world.specs.SpentWorld.{WorldOrSpent}
use Rattle.sheep_world.specs.Step.{step}
use Rattle.trace_text.specs.EventReading.{event_in}

-- the event was made
pub record IsMade (statements : List Statement) (event : Event) (old now : WorldOrSpent) : Type 0 where
  pub grown : List HistEvent
  pub steps : step statements event old.world ≡ Some (record { world = now.world; grown = grown })

-- the event may not happen
pub record IsLeft (statements : List Statement) (event : Event) (old now : WorldOrSpent) : Type 0 where
  pub refused : is_enabled statements old.world event ≡ false
  pub stays : now ≡ old

-- an event of a trace was taken
abbrev pub IsTaken : List Statement → Event → WorldOrSpent → WorldOrSpent → Type 0
IsTaken statements event old now = IsMade statements event old now ⊎ IsLeft statements event old now

-- whether the node of a number may step on a client's ask, under a number that no request has
abbrev pub may_step_on_ask : NodeId → Ask → World → Bool
may_step_on_ask node ask world =
    option_map_or (λ (found : Node). may (inputs.Guest 20000 0 ask) found) (node_at node.0 world) false

-- no ask is taken of a client there, or the node may not step on this one, and the world stays
pub record IsNotAsked (node : NodeId) (ask : Ask) (old now : WorldOrSpent) : Type 0 where
  pub refused : (may_client_ask node.0 old.world && may_step_on_ask node ask old.world) ≡ false
  pub stays : now ≡ old

-- a client asked something of a node, which stepped on it, or didn't ask
abbrev pub IsAsked : NodeId → Ask → WorldOrSpent → WorldOrSpent → Type 0
IsAsked node ask old now = (now.world ≡ ask_effect node.0 ask old.world) ⊎ IsNotAsked node ask old now

-- the events that bring a client's reply were made, so many at most
abbrev pub IsDriven : List Statement → ℕ → WorldOrSpent → WorldOrSpent → Type 0
IsDriven statements turns old now = now.world ≡ world_driven statements turns old.world

-- what a client does was made: it asked, or waited for its reply
abbrev pub IsMadeByClient : List Statement → WorldOrSpent → WorldOrSpent → Type 0
IsMadeByClient statements old now =
    ((node : NodeId) × (ask : Ask) × IsAsked node ask old now) ⊎ ((turns : ℕ) × IsDriven statements turns old now)

-- a line of a trace was taken: it is an event, or else a client's
abbrev pub IsLineTaken : List Statement → List ℕ → WorldOrSpent → WorldOrSpent → Type 0
IsLineTaken statements line old now = ((event : Event) × (event_in line ≡ Some event) × IsTaken statements event old now)
    ⊎ ((event_in line ≡ None) × IsMadeByClient statements old now)

-- the lines of a trace were taken, each in its turn
abbrev pub AreTaken : List Statement → List (List ℕ) → WorldOrSpent → WorldOrSpent → Type 0
AreTaken statements [] old now = now ≡ old
AreTaken statements (line ∷ lines) old now =
    (between : WorldOrSpent) × IsLineTaken statements line old between × AreTaken statements lines between now
