-- What is good at the end of an event has, after each change on the way to it, as many targets in the newest epoch as a read needs: a
-- node's step leaves the log, and begins attempts behind the first create of an object. So it is carried on by each change.
use Rattle.std.proofs.Common.{◌≡◌, ◌⊎◌, inl, inr, ⊎_elim, ℕ, Bool, true, List, [], ◌++◌, Option, Some, None, refl, sym, ap, subst, ◌∙◌}
use Rattle.std.proofs.Common.{append-nil, append_assoc}
use Rattle.std.specs.Option.{option_map_or}
use Rattle.object_id.specs.declared.node.NodeId.{NodeId}
use Rattle.object_id.specs.declared.entry.Entry.{Entry}
use Rattle.epoch_log.specs.Members.{is_member}
use Rattle.epoch_log.specs.Epochs.{epoch_of, members_in}
use Rattle.cluster_script.specs.declared.statement.Statement.{Statement}
use Rattle.vdi_directory.specs.Decisions.{log_effects}
use Rattle.peer_proto.specs.Work.{policy_of}
use Rattle.sheep_world.specs.Began.{Began}
use Rattle.sheep_world.specs.RunsWithAsks.{Move}
use Rattle.overlap_law.specs.Attempts.{AttemptRecord}
use Rattle.overlap_law.specs.BornObjects.{IsBorn}
use Rattle.overlap_law.specs.Fates.{AttemptsAreOrdered, CreatesComeFirst}
use Rattle.overlap_law.specs.HeldLevels.{NewestHasTargets}
use Rattle.overlap_law.specs.Holders.{targets_by, first_create, is_available_since, is_available, is_good}
use Rattle.overlap_law.specs.MomentChanges as moments
use Rattle.overlap_law.specs.MomentChanges.{MomentChange, MomentTrail, TrailLeft, AtEnd, Next, IsOnTheWay, RunsAreInRange, KeptByChanges}
use Rattle.overlap_law.specs.Past.{MomentWithPast, counts}
use Rattle.overlap_law.specs.Rows.{AttemptsAreCarried}
use Rattle.overlap_law.specs.ShapedAttempts.{AreShaped}
use Rattle.overlap_law.specs.StepMoments.{attempts_of_change}
use Rattle.overlap_law.proofs.AttemptsInSteps.{attempts-grow}
use Rattle.overlap_law.proofs.AvailableTargets.{available_has, counted_member, IsAvailableNow, available_now}
use Rattle.overlap_law.proofs.BornFirst.{first_more, first_born, born_by}
use Rattle.overlap_law.proofs.CarriedChanges.{carried-on_the_way}
use Rattle.overlap_law.proofs.EndTests.{was_good}
use Rattle.overlap_law.proofs.FinishedInMoments.{TermsHold, kept_terms}
use Rattle.overlap_law.proofs.KnownSteps.{known_step}
use Rattle.overlap_law.proofs.NoRecoveredDue.{began-with_past}
use Rattle.overlap_law.proofs.OrderedInRuns.{ordered-in_run}
use Rattle.overlap_law.proofs.RunsByChanges.{event_kept, run-kept, on_the_way}
use Rattle.overlap_law.proofs.ShapedAttempts.{kept_shaped}

-- what is available with more attempts behind, if it was born, is so without them
available_fewer : (counts_in : NodeId → ℕ → Bool) (log : List Entry) (attempts more : List AttemptRecord) (oid : ℕ)
    → (IsBorn attempts oid → IsBorn (attempts ++ more) oid → is_available counts_in log (attempts ++ more) oid ≡ true)
    → is_available counts_in log attempts oid ≡ true
unfolding is_available
available_fewer counts_in log attempts more oid is = by_first (first_create oid attempts) refl
  where
    by_first : (o : Option AttemptRecord) → first_create oid attempts ≡ o
        → option_map_or (λ (create : AttemptRecord). is_available_since counts_in log oid (policy_of create.work) create.epoch) o true
        ≡ true
    by_first None none = refl
    by_first (Some create) found =
        let later = first_more oid attempts more create found in
        sym (ap (λ (o : Option AttemptRecord). option_map_or
        (λ (c : AttemptRecord). is_available_since counts_in log oid (policy_of c.work) c.epoch) o true) later)
        ∙ is (first_born oid attempts create found) (first_born oid (attempts ++ more) create later)

-- what is good at a moment
abbrev good_at : MomentWithPast → ℕ → Bool
good_at moment = is_good moment.world.log moment.past.attempts moment.past.unavailable

-- a moment goes on to another by attempts that begin
record GoesOnTo (moment later : MomentWithPast) : Type 0 where
  pub log_so : later.world.log ≡ moment.world.log
  pub more : List AttemptRecord
  pub attempts_so : later.past.attempts ≡ moment.past.attempts ++ more

stays_here : (moment : MomentWithPast) → GoesOnTo moment moment
stays_here moment = record { log_so = refl; more = []; attempts_so = sym (append-nil moment.past.attempts) }

goes_further : (moment next later : MomentWithPast) → GoesOnTo moment next → GoesOnTo next later → GoesOnTo moment later
goes_further moment next later one two = record {
  log_so = two.log_so ∙ one.log_so;
  more = one.more ++ two.more;
  attempts_so =
      two.attempts_so ∙ ap (λ (all : List AttemptRecord). all ++ two.more) one.attempts_so
      ∙ append_assoc moment.past.attempts one.more two.more;
}

-- nothing is good before the first event
kept_available : (script : List Statement) → KeptByChanges script IsAvailableNow
kept_available script = record {
  opens = λ oid good. absurd (cc (good));
  keeps = λ start before after began change held. available_now script change;
}

module _ (script : List Statement) (range : RunsAreInRange script) (events : List Move) (event : Move) (start end : MomentWithPast) where
  -- a node's step goes on; any other change begins where the event does
  left_goes : Began script start.world → {moment last : MomentWithPast} → TrailLeft script start moment last
      → GoesOnTo moment last ⊎ GoesOnTo moment start
  left_goes began {moment} {last} AtEnd = inl (stays_here moment)
  left_goes began {moment} {last} (Next {next} (moments.StepBegins stepping is by) rest) = inr (stays_here moment)
  left_goes began {moment} {last} (Next {next} (moments.StepGoesOn stepping so_far to is by within) rest) =
      let known = known_step script range start.world began stepping is in
      let one : GoesOnTo moment next
      = record {
        log_so = refl;
        more = attempts_of_change stepping.host so_far to within.change;
        attempts_so = attempts-grow script start stepping is known.sound known.given by so_far to within;
      } in
      ⊎_elim
      (λ (goes : GoesOnTo next last). inl (goes_further moment next last one goes))
      (λ (goes : GoesOnTo next start). inr (goes_further moment next start one goes))
      (left_goes began rest)
  left_goes began {moment} {last} (Next {next} (moments.StepIsMade stepping is by) rest) = inr (stays_here moment)
  left_goes began {moment} {last} (Next {next} (moments.LossIsUntold e made happened h) rest) = inr (stays_here moment)
  left_goes began {moment} {last} (Next {next} (moments.DeliveryIsUnread e made happened h) rest) = inr (stays_here moment)
  left_goes began {moment} {last} (Next {next} (moments.NodeIsLost e made happened h) rest) = inr (stays_here moment)
  left_goes began {moment} {last} (Next {next} (moments.NodeLeaves e made happened h) rest) = inr (stays_here moment)
  left_goes began {moment} {last} (Next {next} (moments.NodeIsReweighted e made happened h) rest) = inr (stays_here moment)
  left_goes began {moment} {last} (Next {next} (moments.NodeJoins e made happened h) rest) = inr (stays_here moment)
  left_goes began {moment} {last} (Next {next} (moments.NodeComesBack e made happened h) rest) = inr (stays_here moment)
  left_goes began {moment} {last} (Next {next} (moments.PhaseEnds e made happened h) rest) = inr (stays_here moment)

  module _ (before after : MomentWithPast) (way : IsOnTheWay script events event start end before after)
      (first : CreatesComeFirst after.past.attempts) where
    began : Began script start.world
    began = began-with_past script events start way.run

    shaped : AreShaped after
    shaped =
        (kept_shaped script range).keeps start before after began way.change
        (on_the_way script AreShaped (kept_shaped script range) events start before way.run way.behind)

    ordered : AttemptsAreOrdered after.world.wire after.past.attempts
    ordered = ordered-in_run script range events start after way.run (moments.Then way.behind way.change)

    -- by a moment of a run to which this one goes on
    by_later : (later : MomentWithPast) → GoesOnTo after later → TermsHold later
        → ((oid : ℕ) → good_at end oid ≡ true → IsBorn later.past.attempts oid
        → is_available (counts later.past.ended later.world) later.world.log later.past.attempts oid ≡ true)
        → NewestHasTargets (targets_by after.world.log) after.world.log (log_effects after.world.log) (good_at end) after.past.attempts
    by_later later goes terms available =
        available_has after.world.log after.past.attempts (counts later.past.ended later.world) (good_at end)
        (λ node epoch is. subst (λ (log : List Entry). is_member node.0 (members_in log (epoch_of log)) ≡ true) goes.log_so
        (counted_member later.world.log later.past.ended later.world terms.stood.members node epoch is))
        shaped.shape
        (λ j attempt got good. born_by after.world.wire after.past.attempts ordered first j attempt got)
        (λ oid good. available_fewer (counts later.past.ended later.world) after.world.log after.past.attempts goes.more oid
        (λ born born_later. sym (λ i. is_available (counts later.past.ended later.world) (goes.log_so i) (goes.attempts_so i) oid)
        ∙ available oid good (subst (λ (all : List AttemptRecord). IsBorn all oid) (sym goes.attempts_so) born_later)))

    terms_at_start : TermsHold start
    terms_at_start = run-kept script TermsHold (kept_terms script range) events start way.run

    available_at_start : IsAvailableNow start
    available_at_start = run-kept script IsAvailableNow (kept_available script) events start way.run

    pub has_to_the_end : NewestHasTargets (targets_by after.world.log) after.world.log (log_effects after.world.log) (good_at end)
        after.past.attempts
    has_to_the_end = ⊎_elim
        (λ (goes : GoesOnTo after end).
        by_later end goes (event_kept script TermsHold (kept_terms script range) event start end began way.happens terms_at_start)
        (λ oid good born. event_kept script IsAvailableNow (kept_available script) event start end began way.happens available_at_start oid
        good)) (λ (goes : GoesOnTo after start).
        by_later start goes terms_at_start
        (λ oid good born. available_at_start oid (was_good script event start end way.happens oid good born)))
        (left_goes began way.left)

    pub carried_to_the_end : AttemptsAreCarried (targets_by before.world.log) before.world.log (log_effects before.world.log) (good_at end)
        before.world.hosts before.past.attempts
        → AttemptsAreCarried (targets_by after.world.log) after.world.log (log_effects after.world.log) (good_at end) after.world.hosts
        after.past.attempts
    carried_to_the_end carried =
        carried-on_the_way script range events start before after way.run way.behind way.change (good_at end) has_to_the_end carried
