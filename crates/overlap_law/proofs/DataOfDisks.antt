-- Each attempt on an object of a disk, that is no inode, is of a disk that was published: in every run, at each moment on the way of an
-- event. For what works on such an object is a read or write, or a check, of a disk that its session has locked.
use Rattle.std.proofs.Common.{◌≡◌, ⊎_elim, arith, ℕ, ◌≤◌, ◌==◌, ◌||◌, Bool, true, false, cond, List, [], ◌∷◌, ◌++◌, Some, refl}
use Rattle.std.proofs.Common.{sym, ap, ◌∙◌}
use Rattle.std.specs.List.{list_any}
use Rattle.std.proofs.lemmas.Bool.{or_cases}
use Rattle.object_id.specs.declared.entry.Entry.{Entry}
use Rattle.cluster_script.specs.declared.statement.Statement.{Statement}
use Rattle.gateway.specs.State.{Open}
use Rattle.vdi_directory.specs.declared.effect.Effect.{Effect}
use Rattle.vdi_directory.specs.declared.effect.Effect.TheVariants as effects
use Rattle.vdi_directory.specs.declared.effect.Reservation.{Reservation}
use Rattle.vdi_directory.specs.Decisions.{outcome, log_effects}
use Rattle.vdi_directory.specs.Effects.{reservation_on, reservations_of}
use Rattle.vdi_directory.specs.States.{VdiState, Reserved, Working, Snapshot, rank, state_of, state_after, is_live_state}
use Rattle.vdi_directory.proofs.DecisionLaws.{states-forward}
use Rattle.vdi_directory.proofs.StateLemmas.{log_effects-none, log_effects-push}
use Rattle.vdi_directory.proofs.SoundEffects.{state_of-push}
use Rattle.sheep_node.specs.Changes.{attempt_in}
use Rattle.sheep_world.specs.Began.{Began}
use Rattle.sheep_world.specs.RunsWithAsks.{Move}
use Rattle.overlap_law.specs.Attempts.{AttemptRecord, object_of}
use Rattle.overlap_law.specs.Grants.{publishes}
use Rattle.overlap_law.specs.MomentChanges.{MomentChange, MomentTrail, RunsAreInRange, KeptByChanges}
use Rattle.overlap_law.specs.Past.{MomentWithPast, run_with_past}
use Rattle.overlap_law.specs.StayingDrafts.{DataIsOfThePublished}
use Rattle.overlap_law.proofs.DatedEffects.{by_entries}
use Rattle.overlap_law.proofs.DraftsOfLogs.{published_next, state_reserved}
use Rattle.overlap_law.proofs.LogsOfMoments.{log_of_change}
use Rattle.overlap_law.proofs.NamedEntries.{now, opened_there, opened_up}
use Rattle.overlap_law.proofs.NewAttempts.{IsOpened, WasAttempt, come_from}
use Rattle.overlap_law.proofs.PublishedInodes.{was_published, published-push, live_was}
use Rattle.overlap_law.proofs.RunsByChanges.{on_the_way}
use Rattle.overlap_law.proofs.WritersOfWorks.{data_working-after}

-- ---- what is reserved wasn't published

if_working : (b : Bool) (state : VdiState) → b ≡ true → 2 ≤ rank (cond b Working state)
if_working true state is = omega arith
if_working false state is = absurd (cc (is))

published_rank : (vid : ℕ) (state : VdiState) (effect : Effect) → publishes vid effect ≡ true → 2 ≤ rank (state_after vid state effect)
published_rank vid state effects.Nothing is = absurd (cc (is))
published_rank vid state (effects.Reserved grant) is = absurd (cc (is))
published_rank vid state (effects.Published id name) is = if_working (id.0 == vid) state is
published_rank vid state (effects.Snapped snap) is = by_old (snap.old.0 == vid)
  where
    by_old : (b : Bool) → 2 ≤ rank (cond b (Snapshot snap.tag) (cond (snap.vid.0 == vid) Working state))
    by_old true = omega arith
    by_old false = if_working (snap.vid.0 == vid) state is
published_rank vid state (effects.Deleted id name) is = absurd (cc (is))
published_rank vid state (effects.Held id holder) is = absurd (cc (is))
published_rank vid state (effects.Freed id) is = absurd (cc (is))
published_rank vid state (effects.Withdrawn id) is = absurd (cc (is))
published_rank vid state (effects.Left node) is = absurd (cc (is))

pub high_once : (vid : ℕ) (log : List Entry) → was_published log vid ≡ true → 2 ≤ rank (state_of (log_effects log) vid)
high_once vid = by_entries (λ (log : List Entry). was_published log vid ≡ true → 2 ≤ rank (state_of (log_effects log) vid))
    (λ is.
    let none : was_published [] vid ≡ false = ap (list_any (publishes vid)) log_effects-none in
    absurd (cc (none, is)))
    (λ log entry before is. ⊎_elim
    (λ (was : was_published log vid ≡ true).
    let high = before was in
    let on = states-forward log (entry ∷ []) vid in
    omega (arith, high, on))
    (λ (new : (publishes vid (outcome (log_effects log) entry).effect || false) ≡ true).
    let effect : Effect = (outcome (log_effects log) entry).effect in
    let high = published_rank vid (state_of (log_effects log) vid) effect (or_none (publishes vid effect) new) in
    let then : rank (state_of (log_effects (log ++ entry ∷ [])) vid) ≡ rank (state_after vid (state_of (log_effects log) vid) effect)
    = ap (λ (all : List Effect). rank (state_of all vid)) (log_effects-push log entry)
    ∙ ap rank (state_of-push (log_effects log) effect vid) in
    omega (arith, high, then))
    (or_cases (was_published log vid) (publishes vid (outcome (log_effects log) entry).effect || false)
    (sym (published-push log entry vid) ∙ is)))
  where
    or_none : (b : Bool) → (b || false) ≡ true → b ≡ true
    or_none true is = refl
    or_none false is = absurd (cc (is))

pub reserved_unpublished : (log : List Entry) (vid : ℕ) (r : Reservation)
    → reservation_on (record { 0 = vid }) (reservations_of (log_effects log)) ≡ Some r → was_published log vid ≡ true → ⊥
reserved_unpublished log vid r stands was =
    let high = high_once vid log was in
    let low : rank (state_of (log_effects log) vid) ≡ rank (Reserved r.by) = ap rank (state_reserved log vid r stands) in
    omega (arith, high, low)

-- ---- each change

abbrev IsDataPublished : MomentWithPast → Type 0
IsDataPublished moment = DataIsOfThePublished moment.world.log moment.past.attempts

module _ (script : List Statement) (range : RunsAreInRange script) where
  data_after : (start before after : MomentWithPast) → Began script start.world → MomentChange script start before after
      → IsDataPublished before → IsDataPublished after
  data_after start before after began change all j one at vid index id few object = ⊎_elim
      (λ (w : WasAttempt before j one).
      later (all j w.was w.at vid index id few (ap (λ (a : AttemptRecord). object_of a) w.same ∙ object)))
      (λ (o : IsOpened script start after one).
      live_was vid after.world.log
      (ap is_live_state
      (data_working-after script range start began change o.stepping.n (now script start after one o)
      (opened_there script start after one o)
      (opened_up script start after one o) o.req (record o.asked { stage = Open (attempt_in o.asked o.lined.node) }) o.at_gateway o.making
      vid index id few (ap (λ (a : AttemptRecord). object_of a) o.opened ∙ object))))
      (come_from script range start began change j one at)
    where
      later : was_published before.world.log vid ≡ true → was_published after.world.log vid ≡ true
      later was = ⊎_elim
          (λ (same : after.world.log ≡ before.world.log). ap (λ (log : List Entry). was_published log vid) same ∙ was)
          (λ (more : (entry : Entry) × (after.world.log ≡ before.world.log ++ entry ∷ [])).
          ap (λ (log : List Entry). was_published log vid) more.1 ∙ published_next before.world.log more.0 vid was)
          (log_of_change script change)

  kept_data : KeptByChanges script IsDataPublished
  kept_data = record {
    opens = λ j one at. absurd (cc (at));
    keeps = data_after;
  }

  pub data-on_the_way : (events : List Move) (start moment : MomentWithPast) → run_with_past script events ≡ Some start
      → MomentTrail script start moment → DataIsOfThePublished moment.world.log moment.past.attempts
  data-on_the_way events start moment is trail = on_the_way script IsDataPublished kept_data events start moment is trail
