-- The schedule that a seed gives: which event is made next, until every phase is ended.
use Rattle.std.specs.Prelude.{ℕ, zero, suc, ◌+◌, ◌%◌, nat_le, List, [], ◌∷◌, length, Option, Some, None, slice_get, unwrap_or}
use Rattle.std.specs.Prelude.{if◌then◌else◌}
use Rattle.rand_xoshiro.specs.SplitMix64.{mix_u64}
use Rattle.cluster_script.specs.declared.statement.Statement.{Statement}
use Rattle.cluster_script.specs.Settings.{limit_of}
use Rattle.cluster_script.specs.Phases.{phases_of}
use Rattle.sheep_node.specs.declared.event.Event.{Event}
use Rattle.sheep_node.specs.declared.event.Event.TheVariants.{Phase}
use Rattle.sheep_world.specs.World.{World}
use Rattle.sheep_world.specs.Opening.{initial_world}
use Rattle.sheep_world.specs.Conditions.{may_end_phase}
use Rattle.sheep_world.specs.Enabled.{enabled_events}
use Rattle.sheep_world.specs.Step.{EventOutcome, step}

-- a run in the making: the world so far, the state of the generator, and how many events but Phase were taken
pub record Draft : Type 0 where
  pub world : World
  pub rng : ℕ
  pub taken : ℕ

-- a schedule as it is made: the state of the generator, and how many events but Phase were taken
pub record Schedule : Type 0 where
  pub rng : ℕ
  pub taken : ℕ

-- with the world so far
abbrev pub draft_in : World → Schedule → Draft
draft_in world schedule = record { world = world; rng = schedule.rng; taken = schedule.taken }

-- before the first event; the generator's state is the seed
abbrev pub empty_draft : List Statement → ℕ → Draft
empty_draft statements seed = record { world = initial_world statements; rng = seed; taken = 0 }

-- the next event, with the generator and the count after it
pub record Choice : Type 0 where
  pub event : Event
  pub rng : ℕ
  pub taken : ℕ

-- Phase draws no word, and isn't counted
abbrev pub phase_chosen : Draft → Choice
phase_chosen draft = record { event = Phase; rng = draft.rng; taken = draft.taken }

-- of the enabled events that of number w modulo their count, w being the generator's next word
abbrev pub drawn_choice : Draft → List Event → Choice
drawn_choice draft events = record {
  event = unwrap_or (slice_get events ((mix_u64 draft.rng).0 % length events)) Phase;
  rng = (mix_u64 draft.rng).1;
  taken = draft.taken + 1;
}

-- Phase where nothing is enabled, or as many events were taken as the limit allows; else an enabled event
abbrev pub next_choice : ℕ → Draft → List Event → Choice
next_choice limit draft [] = phase_chosen draft
next_choice limit draft (first ∷ later) =
    if nat_le limit draft.taken then phase_chosen draft else drawn_choice draft (first ∷ later)

-- the choice of the event at a place of the list, or of Phase where there is none, with the generator's state after it
abbrev pub choice_at : Draft → List Event → Option ℕ → ℕ → Choice
choice_at draft events None rng = record { event = Phase; rng = rng; taken = draft.taken }
choice_at draft events (Some place) rng =
    record { event = unwrap_or (slice_get events place) Phase; rng = rng; taken = draft.taken + 1 }

-- the next event of a draft
unfoldable pub choice : List Statement → Draft → Choice
choice statements draft = next_choice (limit_of statements) draft (enabled_events statements draft.world)

-- the world after an event
abbrev pub world_after : World → Option EventOutcome → World
world_after world None = world
world_after world (Some made) = made.world

-- the draft with the chosen event made
abbrev pub made_so : List Statement → Choice → Draft → Draft
made_so statements choice draft = record {
  world = world_after draft.world (step statements choice.event draft.world);
  rng = choice.rng;
  taken = choice.taken;
}

-- the draft after its next event
abbrev pub draft_after_event : List Statement → Draft → Draft
draft_after_event statements draft = made_so statements (choice statements draft) draft

-- the events from here on while a phase isn't ended, as many as `most`
unfoldable pub schedule_from : List Statement → ℕ → Draft → List Event
schedule_from statements zero draft = []
schedule_from statements (suc most) draft =
    if may_end_phase statements draft.world
    then (choice statements draft).event ∷ schedule_from statements most (draft_after_event statements draft)
    else []

-- each event is a Phase or counted, so no schedule has more events than this
abbrev pub event_most : List Statement → ℕ
event_most statements = limit_of statements + length (phases_of statements)

-- the schedule of a script by a seed
abbrev pub schedule_of : List Statement → ℕ → List Event
schedule_of statements seed = schedule_from statements (event_most statements) (empty_draft statements seed)
