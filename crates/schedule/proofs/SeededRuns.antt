-- A schedule as it is made: what is left of it after the events so far.
use Rattle.std.proofs.Common.{◌≡◌, ◌⊎◌, ℕ, zero, suc, ◌+◌, ◌-◌, ◌<◌, ◌≤◌, true, false, cond, List, [], ◌∷◌, ◌++◌}
use Rattle.std.proofs.Common.{append_assoc, length, Some, refl, sym, ap, ◌∙◌, arith}
use Rattle.std.specs.Option.{option_map}
use Rattle.std.proofs.lemmas.List.{append-nil}
use Rattle.std.proofs.lemmas.Bool.{ltb-true}
use Rattle.cluster_script.specs.declared.statement.Statement.{Statement}
use Rattle.cluster_script.specs.Phases.{phases_of}
use Rattle.sheep_node.specs.declared.event.Event.{Event}
use Rattle.sheep_world.specs.World.{World}
use Rattle.sheep_world.specs.Conditions.{may_end_phase}
use Rattle.sheep_world.specs.Step.{EventOutcome, step}
use Rattle.sheep_world.specs.Run.{Moment, next, run_from, run, IsKept, Run}
use Rattle.schedule.specs.Schedule.{Draft, choice, empty_draft, world_after, draft_after_event, schedule_from, event_most, schedule_of}
use Rattle.schedule.proofs.RunLaws.{run-one_more}
use Rattle.schedule.proofs.WholeLaws.{left, fewer_left}

module _ (statements : List Statement) (seed : ℕ) where
  -- these events, with this history, are the first of the schedule, and the draft is where it goes on
  pub record IsFront (kept : Run) (draft : Draft) : Type 0 where
    most : ℕ
    enough : left statements draft ≤ most
    begins : schedule_of statements seed ≡ kept.events ++ schedule_from statements most draft
    made : run statements kept.events ≡ Some (record { world = draft.world; history = kept.history })

  pub front-first : IsFront (record { events = []; history = [] }) (empty_draft statements seed)
  unfolding run_from
  front-first = record {
    most = event_most statements;
    enough = omega arith;
    begins = refl;
    made = refl;
  }

  -- while a phase isn't ended, the chosen event is next
  schedule-on : (most : ℕ) (draft : Draft) → may_end_phase statements draft.world ≡ true
      → schedule_from statements (suc most) draft
      ≡ (choice statements draft).event ∷ schedule_from statements most (draft_after_event statements draft)
  unfolding schedule_from
  schedule-on most draft may =
      ap (λ b. cond b ((choice statements draft).event ∷ schedule_from statements most (draft_after_event statements draft)) []) may

  pub front-on : (kept : Run) (draft : Draft) (made : EventOutcome) → IsFront kept draft → may_end_phase statements draft.world ≡ true
      → step statements (choice statements draft).event draft.world ≡ Some made
      → IsFront (record { events = kept.events ++ (choice statements draft).event ∷ []; history = kept.history ++ made.grown })
      (draft_after_event statements draft)
  front-on kept draft made front may steps = by_most front.most refl
    where
      after : (draft_after_event statements draft).world ≡ made.world
      after = ap (world_after draft.world) steps

      room : draft.world.phase < length (phases_of statements)
      room = ltb-true draft.world.phase (length (phases_of statements)) may

      by_most : (most : ℕ) → front.most ≡ most
          → IsFront (record { events = kept.events ++ (choice statements draft).event ∷ []; history = kept.history ++ made.grown })
          (draft_after_event statements draft)
      by_most zero none =
          let enough : left statements draft ≤ front.most = front.enough in
          absurd (omega (arith, enough, none, room))
      by_most (suc most) is = record {
        most = most;
        enough =
            let enough : left statements draft ≤ front.most = front.enough in
            let fewer : left statements (draft_after_event statements draft) + 1 ≤ left statements draft = fewer_left statements draft may in
            omega (arith, enough, fewer, is);
        begins =
            front.begins
            ∙ ap (λ most. kept.events ++ schedule_from statements most draft) is
            ∙ ap (λ (later : List Event). kept.events ++ later) (schedule-on most draft may)
            ∙ sym (append_assoc kept.events ((choice statements draft).event ∷ [])
            (schedule_from statements most (draft_after_event statements draft)));
        made =
            run-one_more statements kept.events (choice statements draft).event (record { world = draft.world; history = kept.history }) made front.made steps
            ∙ ap (λ (world : World). Some (record { world = world; history = kept.history ++ made.grown })) (sym after);
      }

  schedule-end : (most : ℕ) (draft : Draft) → may_end_phase statements draft.world ≡ false → schedule_from statements most draft ≡ []
  unfolding schedule_from
  schedule-end zero draft ended = refl
  schedule-end (suc most) draft ended =
      ap (λ b. cond b ((choice statements draft).event ∷ schedule_from statements most (draft_after_event statements draft)) []) ended

  -- where every phase is ended the events are the schedule
  pub front-whole : (kept : Run) (draft : Draft) → IsFront kept draft → may_end_phase statements draft.world ≡ false
      → (kept.events ≡ schedule_of statements seed) × IsKept statements kept
  front-whole kept draft front ended = (
    sym (front.begins ∙ ap (λ (later : List Event). kept.events ++ later) (schedule-end front.most draft ended)
        ∙ append-nil kept.events),
    ap (option_map (λ (moment : Moment). moment.history)) front.made,
  )
