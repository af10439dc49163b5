-- Which event a schedule chooses, and that it is one that may be made.
use Rattle.std.proofs.Common.{◌≡◌, ◌≢◌, ℕ, ◌+◌, ◌%◌, ◌<◌, ◌≤◌, Bool, true, false, cond, nat_le, List, [], ◌∷◌, length, Some, refl, sym, ap, subst, ◌∙◌, arith, Contains}
use Rattle.std.proofs.lemmas.Bool.{le-leb, lt-leb}
use Rattle.std.proofs.lemmas.Option.{unwrap_or-slice_get}
use Rattle.std.proofs.lemmas.List.Elements.{Contains-get_or}
use Rattle.std.proofs.Math.Nat.{mod-lt}
use Rattle.proof_tools.proofs.Booleans.{has_value}
use Rattle.rand_xoshiro.specs.SplitMix64.{mix_u64}
use Rattle.cluster_script.specs.declared.statement.Statement.{Statement}
use Rattle.cluster_script.specs.Settings.{limit_of}
use Rattle.sheep_node.specs.declared.event.Event.{Event}
use Rattle.sheep_node.specs.declared.event.Event.TheVariants.{Phase}
use Rattle.sheep_world.specs.Conditions.{may_end_phase}
use Rattle.sheep_world.specs.Enabled.{enabled_events, is_enabled}
use Rattle.sheep_world.specs.Step.{EventOutcome, step}
use Rattle.sheep_world.proofs.EnabledLaws.{is_some-step, enabled_events-makes}
use Rattle.schedule.specs.Schedule.{Draft, phase_chosen, drawn_choice, next_choice, choice}

pub choice-none : (statements : List Statement) (draft : Draft) → enabled_events statements draft.world ≡ [] → choice statements draft ≡ phase_chosen draft
unfolding choice
choice-none statements draft none = ap (next_choice (limit_of statements) draft) none

next_choice-limit : (limit : ℕ) (draft : Draft) (events : List Event) → limit ≤ draft.taken → next_choice limit draft events ≡ phase_chosen draft
next_choice-limit limit draft [] reached = refl
next_choice-limit limit draft (first ∷ later) reached = rw (le-leb limit draft.taken reached) refl

pub choice-limit : (statements : List Statement) (draft : Draft) → limit_of statements ≤ draft.taken → choice statements draft ≡ phase_chosen draft
unfolding choice
choice-limit statements draft reached = next_choice-limit (limit_of statements) draft (enabled_events statements draft.world) reached

-- what is drawn is one of the events
drawn_choice-has : (draft : Draft) (first : Event) (later : List Event) → Contains (first ∷ later) (drawn_choice draft (first ∷ later)).event
drawn_choice-has draft first later =
    let events : List Event = first ∷ later in
    let place : ℕ = (mix_u64 draft.rng).0 % length events in
    subst (Contains events) (sym (unwrap_or-slice_get events place Phase))
    (Contains-get_or events place Phase (mod-lt (mix_u64 draft.rng).0 (omega arith)))

next_choice-drawn_choice : (limit : ℕ) (draft : Draft) (events : List Event) → events ≢ [] → draft.taken < limit
    → Contains events (next_choice limit draft events).event × ((next_choice limit draft events).taken ≡ draft.taken + 1)
next_choice-drawn_choice limit draft [] some room = absurd (some refl)
next_choice-drawn_choice limit draft (first ∷ later) some room =
    rw (lt-leb limit draft.taken room) (drawn_choice-has draft first later, refl)

pub choice-drawn_choice : (statements : List Statement) (draft : Draft) → enabled_events statements draft.world ≢ [] → draft.taken < limit_of statements
    → Contains (enabled_events statements draft.world) (choice statements draft).event × ((choice statements draft).taken ≡ draft.taken + 1)
unfolding choice
choice-drawn_choice statements draft some room = next_choice-drawn_choice (limit_of statements) draft (enabled_events statements draft.world) some room

module _ (statements : List Statement) (draft : Draft) where
  abbrev MayBeMade : Event → Type 0
  MayBeMade event = (made : EventOutcome) × (step statements event draft.world ≡ Some made)

  phase-may : may_end_phase statements draft.world ≡ true → MayBeMade Phase
  unfolding is_enabled
  phase-may may = has_value (step statements Phase draft.world) (is_some-step statements draft.world Phase ∙ may)

  chosen-may : (limit : ℕ) (events : List Event) → ((event : Event) → Contains events event → MayBeMade event)
      → may_end_phase statements draft.world ≡ true → MayBeMade (next_choice limit draft events).event
  chosen-may limit [] each may = phase-may may
  chosen-may limit (first ∷ later) each may = by_limit (nat_le limit draft.taken)
    where
      by_limit : (reached : Bool) → MayBeMade (cond reached (phase_chosen draft) (drawn_choice draft (first ∷ later))).event
      by_limit true = phase-may may
      by_limit false = each (drawn_choice draft (first ∷ later)).event (drawn_choice-has draft first later)

  pub choice-may : may_end_phase statements draft.world ≡ true → MayBeMade (choice statements draft).event
  unfolding choice
  choice-may may = chosen-may (limit_of statements) (enabled_events statements draft.world) (enabled_events-makes statements draft.world) may
