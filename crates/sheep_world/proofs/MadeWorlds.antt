-- An event that may happen makes the world after it, and adds to the history what it adds.
use Rattle.std.proofs.Common.{◌≡◌, Bool, true, false, cond, List, Option, Some, None, refl, sym, ap, ◌∙◌}
use Rattle.cluster_script.specs.declared.statement.Statement.{Statement}
use Rattle.disk_history.specs.declared.event.HistEvent.{HistEvent}
use Rattle.sheep_node.specs.declared.event.Event.{Event}
use Rattle.sheep_node.specs.declared.event.Event.TheVariants as events
use Rattle.sheep_world.specs.World.{World}
use Rattle.sheep_world.specs.Enabled.{is_enabled}
use Rattle.sheep_world.specs.MadeWorlds.{world_after_event, event_adds}
use Rattle.sheep_world.specs.Step.{EventOutcome, step}

made_if : (b : Bool) (made : EventOutcome) → b ≡ true → cond b (Some made) None ≡ Some made
made_if true made is = refl
made_if false made is = absurd (cc (is))

-- what an event makes, by the world after it
abbrev outcome_with : List Statement → Event → World → World → EventOutcome
outcome_with statements event before after = record { world = after; grown = event_adds statements event before after }

of_event : (statements : List Statement) (event : Event) (world : World) → is_enabled statements world event ≡ true
    → step statements event world ≡ Some (outcome_with statements event world (world_after_event statements event world))
unfolding step is_enabled
of_event statements (events.Guest session) world is = made_if _ _ is
of_event statements (events.Deliver node number) world is = made_if _ _ is
of_event statements (events.LoseRequest node number) world is = made_if _ _ is
of_event statements (events.LoseReply node number) world is = made_if _ _ is
of_event statements (events.LogNext node) world is = made_if _ _ is
of_event statements (events.Put node) world is = made_if _ _ is
of_event statements (events.RecoverTick node) world is = made_if _ _ is
of_event statements (events.RetryTick node) world is = made_if _ _ is
of_event statements (events.Lost node) world is = made_if _ _ is
of_event statements (events.Leave node) world is = made_if _ _ is
of_event statements (events.Join node) world is = made_if _ _ is
of_event statements (events.Reweight node) world is = made_if _ _ is
of_event statements (events.Back node) world is = made_if _ _ is
of_event statements events.Phase world is = made_if _ _ is

pub event-made : (statements : List Statement) (event : Event) (world after : World) (grown : List HistEvent)
    → is_enabled statements world event ≡ true → after ≡ world_after_event statements event world
    → grown ≡ event_adds statements event world after
    → step statements event world ≡ Some (record { world = after; grown = grown })
event-made statements event world after grown may makes adds =
    of_event statements event world may
    ∙ ap (λ (world' : World). Some (outcome_with statements event world world')) (sym makes)
    ∙ sym (ap (λ (grown : List HistEvent). Some (record { world = after; grown = grown })) adds)
