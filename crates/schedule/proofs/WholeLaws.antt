-- A schedule goes on until every phase is ended.
use Rattle.std.proofs.Common.{◌≡◌, ◌⊎◌, inl, inr, ℕ, zero, suc, ◌+◌, ◌-◌, ◌<◌, ◌≤◌, Bool, true, false, not, cond, nat_le, List, [], ◌∷◌, length, Some, refl, sym, ap, ◌∙◌, arith}
use Rattle.std.specs.Option.{option_and_then}
use Rattle.std.proofs.lemmas.Bool.{ltb-true, le-ltb, leb-false}
use Rattle.cluster_script.specs.declared.statement.Statement.{Statement}
use Rattle.cluster_script.specs.Settings.{limit_of}
use Rattle.cluster_script.specs.Phases.{phases_of}
use Rattle.sheep_node.specs.declared.event.Event.{Event}
use Rattle.sheep_node.specs.declared.event.Event.TheVariants.{Phase}
use Rattle.sheep_world.specs.World.{World}
use Rattle.sheep_world.specs.Conditions.{may_end_phase}
use Rattle.sheep_world.specs.Step.{EventOutcome, step}
use Rattle.sheep_world.specs.Run.{Moment, initial_moment, moment_with_made, run_from, is_whole, IsWholeRun}
use Rattle.schedule.specs.Schedule.{Draft, Choice, phase_chosen, drawn_choice, next_choice, choice, empty_draft, world_after, draft_after_event, schedule_from, event_most, schedule_of}
use Rattle.schedule.proofs.ChoiceLaws.{choice-may}
use Rattle.schedule.proofs.RunLaws.{next-made}
use Rattle.schedule.proofs.PhaseLemmas.{phase-ends, never-back}

-- Phase is chosen and isn't counted, or there is room and the event is counted
abbrev Goes : ℕ → Draft → Choice → Type 0
Goes limit draft choice =
    ((choice.event ≡ Phase) × (choice.taken ≡ draft.taken)) ⊎ ((draft.taken < limit) × (choice.taken ≡ draft.taken + 1))

next_choice-goes : (limit : ℕ) (draft : Draft) (events : List Event) → Goes limit draft (next_choice limit draft events)
next_choice-goes limit draft [] = inl (refl, refl)
next_choice-goes limit draft (first ∷ later) = by_limit (nat_le limit draft.taken) refl
  where
    by_limit : (reached : Bool) → nat_le limit draft.taken ≡ reached
        → Goes limit draft (cond reached (phase_chosen draft) (drawn_choice draft (first ∷ later)))
    by_limit true e = inl (refl, refl)
    by_limit false e = inr (leb-false limit draft.taken e, refl)

module _ (statements : List Statement) where
  -- how many events may still come
  abbrev pub left : Draft → ℕ
  left draft = (limit_of statements - draft.taken) + (length (phases_of statements) - draft.world.phase)

  choice-goes : (draft : Draft) → Goes (limit_of statements) draft (choice statements draft)
  unfolding choice
  choice-goes draft = next_choice-goes (limit_of statements) draft _

  pub fewer_left : (draft : Draft) → may_end_phase statements draft.world ≡ true → left (draft_after_event statements draft) + 1 ≤ left draft
  fewer_left draft may = by_goes (choice-goes draft)
    where
      one : (made : EventOutcome) × (step statements (choice statements draft).event draft.world ≡ Some made)
      one = choice-may statements draft may

      after : (draft_after_event statements draft).world.phase ≡ one.0.world.phase
      after = ap (λ (world : World). world.phase) (ap (world_after draft.world) one.1)

      room : draft.world.phase < length (phases_of statements)
      room = ltb-true draft.world.phase (length (phases_of statements)) may

      by_goes : Goes (limit_of statements) draft (choice statements draft) → left (draft_after_event statements draft) + 1 ≤ left draft
      by_goes (inl phase) =
          let ended : one.0.world.phase ≡ draft.world.phase + 1 =
          phase-ends statements draft.world one.0 (ap (λ (event : Event). step statements event draft.world) (sym phase.0) ∙ one.1) in
          omega (arith, after, room, ended, phase.1)
      by_goes (inr counted) =
          let on : draft.world.phase ≤ one.0.world.phase = never-back statements draft.world one.0 (choice statements draft).event one.1 in
          omega (arith, after, room, on, counted.0, counted.1)

  record Ends (events : List Event) (moment : Moment) : Type 0 where
    last : Moment
    made : run_from statements events moment ≡ Some last
    whole : is_whole statements last.world ≡ true

  ends : (most : ℕ) (draft : Draft) (moment : Moment) → moment.world ≡ draft.world → left draft ≤ most
      → Ends (schedule_from statements most draft) moment
  unfolding run_from schedule_from
  ends zero draft moment same few = record {
    last = moment;
    made = refl;
    whole =
        ap (λ (world : World). is_whole statements world) same
        ∙ ap not (le-ltb draft.world.phase (length (phases_of statements)) (omega (arith, few)));
  }
  ends (suc most) draft moment same few =
      by_end (ends most (draft_after_event statements draft)) (may_end_phase statements draft.world) refl
    where
      by_end : ((moment : Moment) → moment.world ≡ (draft_after_event statements draft).world → left (draft_after_event statements draft) ≤ most
          → Ends (schedule_from statements most (draft_after_event statements draft)) moment)
          → (may : Bool) → may_end_phase statements draft.world ≡ may
          → Ends (cond may ((choice statements draft).event ∷ schedule_from statements most (draft_after_event statements draft)) []) moment
      by_end later false e = record {
        last = moment;
        made = refl;
        whole = ap (λ (world : World). is_whole statements world) same ∙ ap not e;
      }
      by_end later true e =
          let one : (made : EventOutcome) × (step statements (choice statements draft).event draft.world ≡ Some made) = choice-may statements draft e in
          let more : Ends (schedule_from statements most (draft_after_event statements draft)) (moment_with_made moment.history one.0) =
          later (moment_with_made moment.history one.0) (sym (ap (world_after draft.world) one.1)) (omega (arith, few, fewer_left draft e)) in
          record {
            last = more.last;
            made =
                ap (option_and_then (run_from statements (schedule_from statements most (draft_after_event statements draft))))
                (next-made statements (choice statements draft).event moment one.0
                (ap (step statements (choice statements draft).event) same ∙ one.1))
                ∙ more.made;
            whole = more.whole;
          }

  pub schedule-is-whole : (seed : ℕ) → IsWholeRun statements (schedule_of statements seed)
  schedule-is-whole seed =
      let all : Ends (schedule_of statements seed) (initial_moment statements) =
      ends (event_most statements) (empty_draft statements seed) (initial_moment statements) refl (omega arith) in
      (all.last, all.made, all.whole)
