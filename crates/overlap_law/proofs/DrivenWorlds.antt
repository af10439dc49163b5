-- A world of a run, driven on to a client's answer, is a world of a run: of the same moves, and behind them of the events that were made.
use Rattle.std.proofs.Common.{◌≡◌, arith, ℕ, zero, suc, ◌≤◌, Bool, true, false, cond, List, [], ◌∷◌, ◌++◌, length, map, Option, Some, None}
use Rattle.std.proofs.Common.{is_some, option_and_then, option_map, refl, sym, ap, subst, ◌∙◌}
use Rattle.std.specs.Option.{option_map_or}
use Rattle.cluster_script.specs.declared.statement.Statement.{Statement}
use Rattle.sheep_node.specs.declared.event.Event.{Event}
use Rattle.sheep_world.specs.Began.{Began}
use Rattle.sheep_world.specs.ClientAsks.{answer_of}
use Rattle.sheep_world.specs.ClientSteps.{next_driven, world_with_event, world_turned, world_driven}
use Rattle.sheep_world.specs.RunsWithAsks.{Move, Happens}
use Rattle.sheep_world.specs.Step.{EventOutcome, step}
use Rattle.sheep_world.specs.World.{World}
use Rattle.sheep_world.proofs.BegunWorlds.{moves_on}
use Rattle.sheep_world.proofs.ClientLaws.{driven-may, driven-still}
use Rattle.sheep_world.proofs.EnabledLaws.{enabled_events-makes}
use Rattle.overlap_law.specs.DrivenEvents.{driven_events}
use Rattle.overlap_law.specs.Past.{MomentWithPast, moment_after, first_moment, run_on, run_with_past}
use Rattle.overlap_law.proofs.RunsWithOneMore.{run_on-append}

module _ (script : List Statement) where
  -- ---- the world

  module _ (world : World) (began : Began script world) where
    made-began : (event : Event) (o : Option EventOutcome) → step script event world ≡ o
        → Began script (option_map_or (λ (made : EventOutcome). made.world) o world)
    made-began event None at = began
    made-began event (Some made) at = moves_on script (Happens event) world made began at

    found-began : (o : Option Event) → Began script (option_map_or (λ (event : Event). world_with_event script event world) o world)
    found-began None = began
    found-began (Some event) = made-began event (step script event world) refl

    turned-began : Began script (world_turned script world)
    turned-began = found-began (next_driven script world)

    either-began : (b : Bool) (driven : World) → Began script driven → Began script (cond b world driven)
    either-began true driven reached = began
    either-began false driven reached = reached

  pub driven-began : (turns : ℕ) (world : World) → Began script world → Began script (world_driven script turns world)
  unfolding world_driven
  driven-began zero world began = began
  driven-began (suc turns) world began =
      either-began world began (is_some (answer_of world)) (world_driven script turns (world_turned script world))
      (driven-began turns (world_turned script world) (turned-began world began))

  -- ---- the run

  abbrev world_then : Option MomentWithPast → Option World
  world_then = option_map (λ (after : MomentWithPast). after.world)

  -- the events of so many turns make the world that is driven on by them
  abbrev MakesDriven : ℕ → MomentWithPast → Type 0
  MakesDriven turns moment =
      world_then (run_on script moment (map Happens (driven_events script turns moment.world)))
      ≡ Some (world_driven script turns moment.world)

  module _ (turns : ℕ) (moment : MomentWithPast) (later : (after : MomentWithPast) → MakesDriven turns after) where
    abbrev events_by : Option Event → List Event
    events_by o =
        option_map_or (λ (event : Event). event ∷ driven_events script turns (world_with_event script event moment.world)) o []

    -- after one event
    abbrev MakesBehind : Event → Option EventOutcome → Type 0
    MakesBehind event o =
        world_then (option_and_then
        (λ (next : MomentWithPast). run_on script next
        (map Happens (driven_events script turns (option_map_or (λ (made : EventOutcome). made.world) o moment.world))))
        (option_map (moment_after script event moment) o))
        ≡ Some (world_driven script turns (option_map_or (λ (made : EventOutcome). made.world) o moment.world))

    behind_event : (event : Event) → (made : EventOutcome) × (step script event moment.world ≡ Some made)
        → MakesBehind event (step script event moment.world)
    behind_event event (made, at) = subst (MakesBehind event) (sym at) (later (moment_after script event moment made))

    by_next : (o : Option Event) → next_driven script moment.world ≡ o
        → world_then (run_on script moment (map Happens (events_by o)))
        ≡ Some (world_driven script turns (option_map_or (λ (event : Event). world_with_event script event moment.world) o moment.world))
    unfolding run_on
    by_next None is = ap (λ (w : World). Some w) (sym (driven-still script turns moment.world is))
    by_next (Some event) is =
        behind_event event (enabled_events-makes script moment.world event (driven-may script moment.world event is).0)

    by_answer : (b : Bool)
        → world_then (run_on script moment (map Happens (cond b [] (events_by (next_driven script moment.world)))))
        ≡ Some (cond b moment.world (world_driven script turns (world_turned script moment.world)))
    unfolding run_on
    by_answer true = refl
    by_answer false = by_next (next_driven script moment.world) refl

  run_on-driven : (turns : ℕ) (moment : MomentWithPast) → MakesDriven turns moment
  unfolding run_on world_driven driven_events
  run_on-driven zero moment = refl
  run_on-driven (suc turns) moment =
      by_answer turns moment (λ (after : MomentWithPast). run_on-driven turns after) (is_some (answer_of moment.world))

  pub run-driven : (moves : List Move) (before : MomentWithPast) (turns : ℕ) → run_with_past script moves ≡ Some before
      → world_then (run_with_past script (moves ++ map Happens (driven_events script turns before.world)))
      ≡ Some (world_driven script turns before.world)
  unfolding run_with_past
  run-driven moves before turns run =
      let events : List Move = map Happens (driven_events script turns before.world) in
      ap world_then (
      run_on-append script moves events (first_moment script)
      ∙ ap (option_and_then (λ (next : MomentWithPast). run_on script next events)) run
      )
      ∙ run_on-driven turns before

  -- ---- how many events

  pub driven-few : (turns : ℕ) (world : World) → length (driven_events script turns world) ≤ turns
  unfolding driven_events
  driven-few zero world = omega arith
  driven-few (suc turns) world =
      by_answer (is_some (answer_of world)) (next_driven script world) (λ (after : World). driven-few turns after)
    where
      by_answer : (b : Bool) (o : Option Event) → ((after : World) → length (driven_events script turns after) ≤ turns)
          → length (cond b []
          (option_map_or (λ (event : Event). event ∷ driven_events script turns (world_with_event script event world)) o []))
          ≤ suc turns
      by_answer true o later = omega arith
      by_answer false None later = omega arith
      by_answer false (Some event) later =
          let few : length (driven_events script turns (world_with_event script event world)) ≤ turns
          = later (world_with_event script event world) in
          omega (arith, few)
