-- Steps at which no node stepped.
use Rattle.std.specs.Prelude.{◌≡◌, ◌≢◌, ◌<◌, Bool, true, false, [], All, Option, None}
use Rattle.sheep_node.specs.declared.event.Event.{Event}
use Rattle.sheep_node.specs.declared.event.Event.TheVariants as events
use Rattle.live_cells.specs.declared.step.Step.{Step}

-- whether an event takes a message away
abbrev pub is_loss : Event → Bool
is_loss (events.LoseRequest node number) = true
is_loss (events.LoseReply node number) = true
is_loss _ = false

-- whether an event may be made while no node steps: a node fails, or the members change, or a message goes whose sender is lost
abbrev pub needs_no_node : Event → Bool
needs_no_node (events.Guest session) = false
needs_no_node (events.Deliver node number) = false
needs_no_node (events.LoseRequest node number) = true
needs_no_node (events.LoseReply node number) = true
needs_no_node (events.LogNext node) = false
needs_no_node (events.Put node) = false
needs_no_node (events.RecoverTick node) = false
needs_no_node (events.RetryTick node) = false
needs_no_node (events.Lost node) = true
needs_no_node (events.Leave node) = true
needs_no_node (events.Join node) = true
needs_no_node (events.Reweight node) = true
needs_no_node (events.Back node) = false
needs_no_node events.Phase = false

-- a step at which no node stepped: its event needs none, so it has no input and gives nothing; it is above each stamp that was brought to
-- it, and to the loss of a message something was
pub record IsOther (step : Step) : Type 0 where
  pub event : needs_no_node step.event ≡ true
  pub input : step.input ≡ None
  pub outputs : step.outputs ≡ record { sends = []; say = None; replies = []; put = None }
  pub above : All (λ stamp. stamp < step.stamp) step.used
  pub brought : is_loss step.event ≡ true → step.used ≢ []
