-- Where few losses hold at each moment of a run, every object was available at every moment; so no read is left out of the history.
use Rattle.std.proofs.Common.{◌≡◌, ℕ, Bool, true, false, not, ◌&&◌, List, [], ◌∷◌, ◌++◌, filter, Contains, Option, Some, None}
use Rattle.std.proofs.Common.{refl, sym, ap, subst, ◌∙◌}
use Rattle.std.specs.Option.{option_map, option_and_then}
use Rattle.std.proofs.lemmas.Bool.{and_from}
use Rattle.std.proofs.lemmas.Option.{same_Some}
use Rattle.object_id.specs.declared.node.NodeId.{NodeId}
use Rattle.object_id.specs.declared.entry.Entry.{Entry}
use Rattle.epoch_log.specs.Appending.{IsLog}
use Rattle.cluster_script.specs.declared.statement.Statement.{Statement}
use Rattle.disk_history.specs.declared.event.HistEvent.{HistEvent}
use Rattle.disk_history.specs.Legal.{IsLegal}
use Rattle.sheep_node.specs.declared.event.Event.{Event}
use Rattle.sheep_world.specs.Began.{Began}
use Rattle.sheep_world.specs.RunsWithAsks.{Move, made_by, event_of_move}
use Rattle.sheep_world.specs.Step.{EventOutcome}
use Rattle.sheep_world.specs.Incarnations.{incarnations_after}
use Rattle.sheep_world.specs.World.{World}
use Rattle.sheep_world.proofs.BegunWorlds.{moves_on}
use Rattle.sheep_world.proofs.LogAtOpening.{log-holds}
use Rattle.overlap_law.specs.Attempts.{AttemptRecord}
use Rattle.overlap_law.specs.BegunAttempts.{attempts_after}
use Rattle.overlap_law.specs.FewLosses.{LossesStayFew}
use Rattle.overlap_law.specs.FewLossesInRuns.{LossesAreFewAt, LossesAreFewInRun}
use Rattle.overlap_law.specs.Holders.{born_objects, is_available, is_dead_by_log, is_live_object, is_object_among, lacks_holders}
use Rattle.overlap_law.specs.Holders.{unavailable_in}
use Rattle.overlap_law.specs.MomentChanges.{RunsAreInRange}
use Rattle.overlap_law.specs.Past.{MomentWithPast, first_moment, moment_after, past_after_event, run_on, run_with_past}
use Rattle.overlap_law.specs.PastWords.{counts, unavailable_at}
use Rattle.overlap_law.proofs.AskedPast.{among_itself, none_passes}
use Rattle.overlap_law.proofs.FewLosses.{available_by_few}
use Rattle.overlap_law.proofs.NoRecoveredDue.{began-with_past}
use Rattle.overlap_law.proofs.RunLemmas.{nothing-left_out}
use Rattle.overlap_law.proofs.HeadlineInRuns.{headline_holds}

-- ---- one moment

module _ (by : NodeId → ℕ → Bool) (log : List Entry) (attempts : List AttemptRecord) (is_log : IsLog log)
    (few : (oid : ℕ) → is_live_object log attempts oid ≡ true → LossesStayFew by log attempts oid) where
  none_lacks : (oid : ℕ) → Contains (born_objects attempts) oid → lacks_holders by log attempts oid ≡ false
  none_lacks oid born = by_dead (is_dead_by_log log oid) refl
    where
      by_dead : (b : Bool) → is_dead_by_log log oid ≡ b → lacks_holders by log attempts oid ≡ false
      by_dead true dead = ap (λ (b : Bool). not b && not (is_available by log attempts oid)) dead
      by_dead false alive =
          let live : is_live_object log attempts oid ≡ true
          = and_from (is_object_among oid (born_objects attempts)) (not (is_dead_by_log log oid))
          (among_itself oid (born_objects attempts) born) (ap not alive) in
          let available = available_by_few by log attempts oid is_log (few oid live) in
          λ i. not (alive i) && not (available i)

  none_unavailable : unavailable_in by log attempts ≡ []
  unfolding unavailable_in
  none_unavailable = none_passes (lacks_holders by log attempts) (born_objects attempts) none_lacks

-- ---- one move

module _ (script : List Statement) (range : RunsAreInRange script) where
  one_more : (event : Event) (first : MomentWithPast) (made : EventOutcome) → Began script made.world → first.past.unavailable ≡ []
      → LossesAreFewAt (moment_after script event first made) → (moment_after script event first made).past.unavailable ≡ []
  unfolding past_after_event
  one_more event first made began none few =
      let ended = incarnations_after first.world first.past.ended event in
      let attempts = attempts_after script event first.world made.world first.past.attempts in
      let is_log = (log-holds script range.is_script range.room made.world began).log in
      let new : unavailable_at ended made.world attempts first.past.unavailable ≡ []
      = ap (filter (λ (oid : ℕ). not (is_object_among oid first.past.unavailable)))
      (none_unavailable (counts ended made.world) made.world.log attempts is_log few.each) in
      λ i. none i ++ new i

  -- ---- so in a run

  abbrev AreFewOn : MomentWithPast → List Move → Type 0
  AreFewOn first moves = (earlier later : List Move) (moment : MomentWithPast) → moves ≡ earlier ++ later
      → run_on script first earlier ≡ Some moment → LossesAreFewAt moment

  -- the moment after a move that makes this
  abbrev moment_moved : Move → MomentWithPast → EventOutcome → MomentWithPast
  moment_moved move first made = moment_after script (event_of_move move) first made

  module _ (move : Move) (moves : List Move) (first last : MomentWithPast) (began : Began script first.world)
      (none : first.past.unavailable ≡ []) (few : AreFewOn first (move ∷ moves))
      (later : (next : MomentWithPast) → Began script next.world → next.past.unavailable ≡ [] → AreFewOn next moves
      → run_on script next moves ≡ Some last → last.past.unavailable ≡ []) where
    goes : (made : EventOutcome) → made_by script move first.world ≡ Some made → (earlier : List Move) (moment : MomentWithPast)
        → run_on script (moment_moved move first made) earlier ≡ Some moment → run_on script first (move ∷ earlier) ≡ Some moment
    unfolding run_on
    goes made is earlier moment there =
        ap (λ (o : Option EventOutcome).
        option_and_then (λ (next : MomentWithPast). run_on script next earlier) (option_map (moment_moved move first) o)) is
        ∙ there

    stays : (made : EventOutcome) → run_on script (moment_moved move first made) [] ≡ Some (moment_moved move first made)
    unfolding run_on
    stays made = refl

    by_outcome : (o : Option EventOutcome) → made_by script move first.world ≡ o
        → option_and_then (λ (next : MomentWithPast). run_on script next moves) (option_map (moment_moved move first) o) ≡ Some last
        → last.past.unavailable ≡ []
    by_outcome None is so = absurd (cc (so))
    by_outcome (Some made) is so =
        let next : MomentWithPast = moment_moved move first made in
        let began_next = moves_on script move first.world made began is in
        later next began_next
        (one_more (event_of_move move) first made began_next none (few (move ∷ []) moves next refl (goes made is [] next (stays made))))
        (λ earlier rest moment parts there.
        few (move ∷ earlier) rest moment (ap (λ (list : List Move). move ∷ list) parts) (goes made is earlier moment there)) so

  none_on : (moves : List Move) (first last : MomentWithPast) → Began script first.world → first.past.unavailable ≡ []
      → AreFewOn first moves → run_on script first moves ≡ Some last → last.past.unavailable ≡ []
  unfolding run_on
  none_on [] first last began none few is = ap (λ (m : MomentWithPast). m.past.unavailable) (sym (same_Some first last is)) ∙ none
  none_on (move ∷ moves) first last began none few is =
      by_outcome move moves first last began none few
      (λ next began_next none_next few_next so. none_on moves next last began_next none_next few_next so)
      (made_by script move first.world) refl is

  first_began : Began script (first_moment script).world
  unfolding run_with_past run_on
  first_began = began-with_past script [] (first_moment script) refl

  pub all_available : (moves : List Move) (moment : MomentWithPast) → run_with_past script moves ≡ Some moment
      → LossesAreFewInRun script moves → moment.past.unavailable ≡ []
  unfolding run_with_past
  all_available moves moment run few = none_on moves (first_moment script) moment first_began refl few.at run

  pub whole_legal : (moves : List Move) (moment : MomentWithPast) → run_with_past script moves ≡ Some moment
      → LossesAreFewInRun script moves → IsLegal moment.past.history
  whole_legal moves moment run few =
      subst (λ (history : List HistEvent). IsLegal history)
      (nothing-left_out script moves moment run (all_available moves moment run few))
      (headline_holds script range range.is_script moves moment run).legal
