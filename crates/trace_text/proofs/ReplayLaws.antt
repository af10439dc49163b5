-- A replay takes a trace exactly where it spells a whole run.
use Rattle.std.proofs.Common.{◌≡◌, ℕ, suc, ◌+◌, Bool, true, false, cond, List, [], ◌∷◌, ◌++◌, length, map, Option, Some, None, refl, sym, ap, subst, ◌∙◌, arith}
use Rattle.std.specs.List.{cons_option, AllByRecursion}
use Rattle.std.specs.Option.{option_map, option_and_then}
use Rattle.std.proofs.lemmas.Option.{same_Some, none-some}
use Rattle.cluster_script.specs.declared.statement.Statement.{Statement}
use Rattle.sheep_node.specs.declared.event.Event.{Event}
use Rattle.sheep_world.specs.Run.{Moment, initial_moment, next, run_from, run, is_whole, IsWholeRun}
use Rattle.trace_text.specs.Spelling.{event_text}
use Rattle.trace_text.specs.EventReading.{event_in, IsNamed}
use Rattle.trace_text.specs.Replay.{events_in, line_made, bad_after, bad_from, bad_place, Stops, IsBadAt}
use Rattle.trace_text.proofs.ReadingLaws.{read-text, text-read}

module _ (statements : List Statement) where
  -- a line that is taken spells an event, which is made
  record Taken (line : List ℕ) (moment after : Moment) : Type 0 where
    event : Event
    read : event_in line ≡ Some event
    made : next statements event moment ≡ Some after

  taken : (line : List ℕ) (moment after : Moment) → line_made statements line moment ≡ Some after → Taken line moment after
  taken line moment after h = by_event (event_in line) refl h
    where
      by_event : (found : Option Event) → event_in line ≡ found
          → option_and_then (λ event. next statements event moment) found ≡ Some after → Taken line moment after
      by_event None e is = absurd (none-some after is)
      by_event (Some event) e is = record { event = event; read = e; made = is }

  -- the same as a run from a moment on
  record BadFrom (lines : List (List ℕ)) (moment : Moment) (place : ℕ) : Type 0 where
    before : List Event
    at : Moment
    rest : List (List ℕ)
    spelled : lines ≡ map event_text before ++ rest
    made : run_from statements before moment ≡ Some at
    stops : Stops statements rest at
    counted : place ≡ length before + 1

  one_before : (line : List ℕ) (lines : List (List ℕ)) (moment after : Moment) (place : ℕ)
      → Taken line moment after → BadFrom lines after place → BadFrom (line ∷ lines) moment (suc place)
  unfolding run_from
  one_before line lines moment after place one more = record {
    before = one.event ∷ more.before;
    at = more.at;
    rest = more.rest;
    spelled =
        ap (λ (text : List ℕ). text ∷ lines) (read-text line one.event one.read).0
        ∙ ap (λ (others : List (List ℕ)). event_text one.event ∷ others) more.spelled;
    made = ap (option_and_then (run_from statements more.before)) one.made ∙ more.made;
    stops = more.stops;
    counted = omega (arith, more.counted);
  }

  bad : (lines : List (List ℕ)) (moment : Moment) (place : ℕ) → bad_from statements lines moment ≡ Some place → BadFrom lines moment place
  unfolding run_from bad_from
  bad [] moment place h = by_end (is_whole statements moment.world) refl h
    where
      by_end : (whole : Bool) → is_whole statements moment.world ≡ whole → cond {A = Option ℕ} whole None (Some 1) ≡ Some place → BadFrom [] moment place
      by_end true e is = absurd (none-some place is)
      by_end false e is = record {
        before = [];
        at = moment;
        rest = [];
        spelled = refl;
        made = refl;
        stops = e;
        counted = sym (same_Some 1 place is);
      }
  bad (line ∷ lines) moment place h = by_line (bad lines) (line_made statements line moment) refl h
    where
      by_later : ((after : Moment) (later : ℕ) → bad_from statements lines after ≡ Some later → BadFrom lines after later) → (after : Moment) → Taken line moment after → (found : Option ℕ) → bad_from statements lines after ≡ found
          → option_map suc found ≡ Some place → BadFrom (line ∷ lines) moment place
      by_later before after one None e is = absurd (none-some place is)
      by_later before after one (Some later) e is =
          subst (BadFrom (line ∷ lines) moment) (same_Some (suc later) place is)
          (one_before line lines moment after later one (before after later e))

      by_line : ((after : Moment) (later : ℕ) → bad_from statements lines after ≡ Some later → BadFrom lines after later)
          → (made : Option Moment) → line_made statements line moment ≡ made
          → bad_after made (bad_from statements lines) ≡ Some place → BadFrom (line ∷ lines) moment place
      by_line before None e is = record {
        before = [];
        at = moment;
        rest = line ∷ lines;
        spelled = refl;
        made = refl;
        stops = e;
        counted = sym (same_Some 1 place is);
      }
      by_line before (Some after) e is = by_later before after (taken line moment after e) (bad_from statements lines after) refl is

  pub bad-at : (lines : List (List ℕ)) (place : ℕ) → bad_place statements lines ≡ Some place → IsBadAt statements lines place
  bad-at lines place h =
      let one : BadFrom lines (initial_moment statements) place = bad lines (initial_moment statements) place h in
      record {
        before = one.before;
        moment = one.at;
        rest = one.rest;
        spelled = one.spelled;
        made = one.made;
        stops = one.stops;
        counted = one.counted;
      }

  -- lines that spell a whole run from a moment on
  record WholeFrom (lines : List (List ℕ)) (moment : Moment) : Type 0 where
    at : Moment
    spelled : lines ≡ map event_text (events_in lines)
    made : run_from statements (events_in lines) moment ≡ Some at
    whole : is_whole statements at.world ≡ true

  one_more : (line : List ℕ) (lines : List (List ℕ)) (moment after : Moment)
      → Taken line moment after → WholeFrom lines after → WholeFrom (line ∷ lines) moment
  unfolding run_from
  one_more line lines moment after one more =
      let events : events_in (line ∷ lines) ≡ one.event ∷ events_in lines = ap (λ (found : Option Event). cons_option found (events_in lines)) one.read in
      record {
        at = more.at;
        spelled =
            ap (λ (text : List ℕ). text ∷ lines) (read-text line one.event one.read).0
            ∙ ap (λ (others : List (List ℕ)). event_text one.event ∷ others) more.spelled
            ∙ ap (map event_text) (sym events);
        made =
            ap (λ (made : List Event). run_from statements made moment) events
            ∙ ap (option_and_then (run_from statements (events_in lines))) one.made ∙ more.made;
        whole = more.whole;
      }

  good : (lines : List (List ℕ)) (moment : Moment) → bad_from statements lines moment ≡ None → WholeFrom lines moment
  unfolding run_from bad_from
  good [] moment h = by_end (is_whole statements moment.world) refl h
    where
      by_end : (whole : Bool) → is_whole statements moment.world ≡ whole → cond {A = Option ℕ} whole None (Some 1) ≡ None → WholeFrom [] moment
      by_end true e is = record { at = moment; spelled = refl; made = refl; whole = e }
      by_end false e is = absurd (none-some 1 (sym is))
  good (line ∷ lines) moment h = by_line (good lines) (line_made statements line moment) refl h
    where
      by_later : ((after : Moment) → bad_from statements lines after ≡ None → WholeFrom lines after) → (after : Moment) → Taken line moment after → (found : Option ℕ) → bad_from statements lines after ≡ found
          → option_map suc found ≡ None → WholeFrom (line ∷ lines) moment
      by_later before after one None e is = one_more line lines moment after one (before after e)
      by_later before after one (Some later) e is = absurd (none-some (suc later) (sym is))

      by_line : ((after : Moment) → bad_from statements lines after ≡ None → WholeFrom lines after)
          → (made : Option Moment) → line_made statements line moment ≡ made
          → bad_after made (bad_from statements lines) ≡ None → WholeFrom (line ∷ lines) moment
      by_line before None e is = absurd (none-some 1 (sym is))
      by_line before (Some after) e is = by_later before after (taken line moment after e) (bad_from statements lines after) refl is

  pub whole-run : (lines : List (List ℕ)) → bad_place statements lines ≡ None
      → IsWholeRun statements (events_in lines) × (lines ≡ map event_text (events_in lines))
  whole-run lines h =
      let one : WholeFrom lines (initial_moment statements) = good lines (initial_moment statements) h in
      ((one.at, one.made, one.whole), one.spelled)

  -- and where events are one, their texts are taken
  takes : (events : List Event) (moment at : Moment) → AllByRecursion IsNamed events → run_from statements events moment ≡ Some at
      → is_whole statements at.world ≡ true → bad_from statements (map event_text events) moment ≡ None
  unfolding run_from bad_from
  takes [] moment at named h whole =
      ap (λ (b : Bool). cond {A = Option ℕ} b None (Some 1)) (ap (λ (m : Moment). is_whole statements m.world) (same_Some moment at h) ∙ whole)
  takes (event ∷ events) moment at named h whole = by_next (λ after more. takes events after at named.1 more whole) (next statements event moment) refl h
    where
      by_next : ((after : Moment) → run_from statements events after ≡ Some at → bad_from statements (map event_text events) after ≡ None)
          → (made : Option Moment) → next statements event moment ≡ made
          → option_and_then (run_from statements events) made ≡ Some at
          → bad_from statements (map event_text (event ∷ events)) moment ≡ None
      by_next later None e is = absurd (none-some at is)
      by_next later (Some after) e is =
          ap (λ (made : Option Moment). bad_after made (bad_from statements (map event_text events)))
          (ap (option_and_then (λ event. next statements event moment)) (text-read event named.0) ∙ e)
          ∙ ap (option_map suc) (later after is)

  pub takes-runs : (events : List Event) → AllByRecursion IsNamed events → IsWholeRun statements events
      → bad_place statements (map event_text events) ≡ None
  takes-runs events named run =
      takes events (initial_moment statements) run.0 named run.1 run.2
