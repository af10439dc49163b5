-- The past beside a run: it follows the run, and leaves no read out where every object was available.
use Rattle.std.proofs.Common.{◌≡◌, ℕ, Bool, true, false, cond, List, [], ◌∷◌, ◌++◌, filter, Option, Some, None, refl, sym, ap, ◌∙◌, subst}
use Rattle.std.specs.Option.{option_map, option_and_then}
use Rattle.std.proofs.lemmas.List.{append-nil, append_assoc}
use Rattle.object_id.specs.declared.entry.Entry.{Entry}
use Rattle.cluster_script.specs.declared.statement.Statement.{Statement}
use Rattle.disk_history.specs.declared.event.HistEvent.{HistEvent}
use Rattle.disk_history.specs.declared.event.HistEvent.TheVariants.{Create}
use Rattle.sheep_node.specs.declared.event.Event.{Event}
use Rattle.sheep_world.specs.Step.{EventOutcome}
use Rattle.sheep_world.specs.Run as runs
use Rattle.overlap_law.specs.Holders.{is_available_disk}
use Rattle.overlap_law.specs.BegunAttempts.{attempts_after}
use Rattle.overlap_law.specs.PastWords.{unavailable_at, is_counted}
use Rattle.overlap_law.specs.Past.{MomentWithPast, past_after_event, moment_after, run_on, first_moment, run_with_past, without_past}
use Rattle.sheep_world.specs.Incarnations.{incarnations_after}
use Rattle.sheep_world.specs.RunsWithAsks.{Move, made_by, event_of_move, moves_from, run_with_asks}

along : (script : List Statement) (event : Move) (events : List Move) (moment : MomentWithPast)
    → ((next : MomentWithPast) → option_map without_past (run_on script next events) ≡ moves_from script events (without_past next))
    → (o : Option EventOutcome)
    → option_map without_past (option_and_then (λ (next : MomentWithPast). run_on script next events)
    (option_map (moment_after script (event_of_move event) moment) o))
    ≡ option_and_then (moves_from script events) (option_map (runs.moment_with_made moment.past.history) o)
unfolding past_after_event
along script event events moment later None = refl
along script event events moment later (Some made) = later (moment_after script (event_of_move event) moment made)

run_on-follows : (script : List Statement) (events : List Move) (moment : MomentWithPast)
    → option_map without_past (run_on script moment events) ≡ moves_from script events (without_past moment)
unfolding run_on moves_from
run_on-follows script [] moment = refl
run_on-follows script (event ∷ events) moment =
    along script event events moment (λ (next : MomentWithPast). run_on-follows script events next) (made_by script event moment.world)

pub past-follows : (script : List Statement) (events : List Move)
    → option_map without_past (run_with_past script events) ≡ run_with_asks script events
unfolding run_with_past
past-follows script events = run_on-follows script events (first_moment script)

counted : (log : List Entry) (event : HistEvent) → is_counted log [] event ≡ true
unfolding is_available_disk
counted log (Create disk blocks) = refl
counted log event = refl

with_counted : (log : List Entry) (event : HistEvent) (events : List HistEvent) → filter (is_counted log []) events ≡ events
    → (b : Bool) → is_counted log [] event ≡ b
    → cond b (event ∷ filter (is_counted log []) events) (filter (is_counted log []) events) ≡ event ∷ events
with_counted log event events later true e = ap (λ (rest : List HistEvent). event ∷ rest) later
with_counted log event events later false e = absurd (cc (e, counted log event))

-- nothing is left out where no object was ever unavailable
all-counted : (log : List Entry) (events : List HistEvent) → filter (is_counted log []) events ≡ events
all-counted log [] = refl
all-counted log (event ∷ events) = with_counted log event events (all-counted log events) (is_counted log [] event) refl

-- the objects that were once not available only get more
pub record Grows (before after : List ℕ) : Type 0 where
  pub more : List ℕ
  pub whole : after ≡ before ++ more

none-before : (before : List ℕ) (more : List ℕ) → [] ≡ before ++ more → before ≡ []
none-before [] more e = refl
none-before (oid ∷ before) more e = absurd (cc)

pub no_more-before : (before after : List ℕ) → Grows before after → after ≡ [] → before ≡ []
no_more-before before after grows e = none-before before grows.more (sym e ∙ grows.whole)

grows-twice : (one two three : List ℕ) → Grows one two → Grows two three → Grows one three
grows-twice one two three first second = record {
  more = first.more ++ second.more;
  whole = second.whole ∙ ap (λ (xs : List ℕ). xs ++ second.more) first.whole ∙ append_assoc one first.more second.more;
}

pub step-grows : (script : List Statement) (event : Event) (moment : MomentWithPast) (made : EventOutcome)
    → Grows moment.past.unavailable (moment_after script event moment made).past.unavailable
unfolding past_after_event
step-grows script event moment made = record {
  more = unavailable_at (incarnations_after moment.world moment.past.ended event) made.world
      (attempts_after script event moment.world made.world moment.past.attempts) moment.past.unavailable;
  whole = refl;
}

-- what a part of a run keeps: the unavailable only get more, and where there are none at its end, it leaves no read out
abbrev KeepsReads : MomentWithPast → MomentWithPast → Type 0
KeepsReads first last = Grows first.past.unavailable last.past.unavailable
    × (last.past.unavailable ≡ [] → first.past.available_history ≡ first.past.history → last.past.available_history ≡ last.past.history)

pub step-keeps_reads : (script : List Statement) (event : Event) (moment : MomentWithPast) (made : EventOutcome)
    → moment.past.unavailable ≡ []
    → moment.past.available_history ≡ moment.past.history
    → (moment_after script event moment made).past.available_history ≡ (moment_after script event moment made).past.history
unfolding past_after_event
step-keeps_reads script event moment made none same =
    ap (λ (unavailable : List ℕ). moment.past.available_history ++ filter (is_counted made.world.log unavailable) made.grown) none
    ∙ ap (λ (rest : List HistEvent). moment.past.available_history ++ rest) (all-counted made.world.log made.grown)
    ∙ ap (λ (before : List HistEvent). before ++ made.grown) same

no_events-keep_reads : (moment : MomentWithPast) → KeepsReads moment moment
no_events-keep_reads moment = (record { more = []; whole = sym (append-nil moment.past.unavailable) }, λ none same. same)

then-keeps_reads : (script : List Statement) (event : Event) (first last : MomentWithPast) (made : EventOutcome)
    → KeepsReads (moment_after script event first made) last → KeepsReads first last
then-keeps_reads script event first last made later =
    let grows = step-grows script event first made in (
      grows-twice first.past.unavailable (moment_after script event first made).past.unavailable last.past.unavailable grows later.0,
      λ none same. later.1 none (step-keeps_reads script event first made
          (no_more-before first.past.unavailable (moment_after script event first made).past.unavailable grows
          (no_more-before (moment_after script event first made).past.unavailable last.past.unavailable later.0 none))
          same),
    )

keeps_reads-along : (script : List Statement) (event : Move) (events : List Move) (first last : MomentWithPast)
    → ((next : MomentWithPast) → run_on script next events ≡ Some last → KeepsReads next last)
    → (o : Option EventOutcome)
    → option_and_then (λ (next : MomentWithPast). run_on script next events)
    (option_map (moment_after script (event_of_move event) first) o) ≡ Some last
    → KeepsReads first last
keeps_reads-along script event events first last later None e = absurd (cc)
keeps_reads-along script event events first last later (Some made) e =
    then-keeps_reads script (event_of_move event) first last made (later (moment_after script (event_of_move event) first made) e)

same-some : (one two : MomentWithPast) → Some one ≡ Some two → one ≡ two
same-some one two e = cc

run_on-keeps_reads : (script : List Statement) (events : List Move) (first last : MomentWithPast) → run_on script first events ≡ Some last
    → KeepsReads first last
unfolding run_on
run_on-keeps_reads script [] first last e =
    subst (λ (m : MomentWithPast). KeepsReads first m) (same-some first last e) (no_events-keep_reads first)
run_on-keeps_reads script (event ∷ events) first last e = keeps_reads-along
    script event events first last
    (λ (next : MomentWithPast) (h : run_on script next events ≡ Some last). run_on-keeps_reads script events next last h)
    (made_by script event first.world) e

pub nothing-left_out : (script : List Statement) (events : List Move) (moment : MomentWithPast) → run_with_past script events ≡ Some moment
    → moment.past.unavailable ≡ [] → moment.past.available_history ≡ moment.past.history
unfolding run_with_past
nothing-left_out script events moment e none =
    (run_on-keeps_reads script events (first_moment script) moment e).1 none refl
