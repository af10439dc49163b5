-- What is made after a change of a moment, of an epoch before that of a recovery whose list was finished before the change, was made
-- before: each member of the recovery's epoch came to it, so what isn't made then of an earlier epoch is doomed.
use Rattle.std.proofs.Common.{◌≡◌, ⊎_elim, arith, ℕ, ◌≤◌, ◌<◌, Bool, true, false, List, [], ◌∷◌, map, Some, refl, sym, ap, ◌∙◌, slice_get}
use Rattle.std.specs.List.{list_all}
use Rattle.std.specs.FinMap as tree
use Rattle.proof_tools.proofs.FiniteMaps.{get-insert_same}
use Rattle.epoch_log.specs.Epochs.{epoch_of}
use Rattle.object_list.specs.Gathered.{has_node}
use Rattle.cluster_script.specs.declared.statement.Statement.{Statement}
use Rattle.peer_proto.specs.Work.{policy_of}
use Rattle.recovery.specs.State.{is_listed}
use Rattle.gateway.specs.declared.message.Message.{Message}
use Rattle.gateway.specs.State.{Open}
use Rattle.sheep_node.specs.Changes.{attempt_in}
use Rattle.sheep_world.specs.Began.{Began}
use Rattle.sheep_world.specs.NodeCauses.{host_with_node}
use Rattle.sheep_world.specs.World.{Host}
use Rattle.sheep_world.specs.RunsWithAsks.{Move}
use Rattle.overlap_law.specs.Attempts.{AttemptRecord, object_of}
use Rattle.overlap_law.specs.Words.{is_served, is_made, is_doomed}
use Rattle.overlap_law.specs.Traffic.{OpenAttemptsHaveMessages}
use Rattle.overlap_law.specs.MomentChanges.{MomentChange, MomentTrail, RunsAreInRange}
use Rattle.overlap_law.specs.Past.{MomentWithPast, run_with_past}
use Rattle.overlap_law.specs.Rows.{IsMadeBy}
use Rattle.overlap_law.proofs.AnswersInMoments.{not_lost}
use Rattle.overlap_law.proofs.BeyondInMoments.{come_leaves, doomed_later, recovers_own}
use Rattle.overlap_law.proofs.FateLemmas.{made-not_doomed}
use Rattle.overlap_law.proofs.FinishedInMoments.{TermsHold, kept_terms}
use Rattle.overlap_law.proofs.HeldLevels.{members_came}
use Rattle.overlap_law.proofs.HolderLemmas.{target-member}
use Rattle.overlap_law.proofs.KeptChanges.{unmade_within, none_fly}
use Rattle.overlap_law.proofs.MessagesInMoments.{Have, kept_messages}
use Rattle.overlap_law.proofs.NewAttempts.{IsOpened, WasAttempt, come_from}
use Rattle.overlap_law.proofs.NoRecoveredDue.{began-with_past}
use Rattle.overlap_law.proofs.ReadInMoments.{are_present, epoch_within}
use Rattle.overlap_law.proofs.RunsByChanges.{on_the_way}
use Rattle.overlap_law.proofs.StayingRows.{RowsHold, kept_rows}

-- an attempt that opens isn't made: it has a message, which flies
opened_unmade : (script : List Statement) (start after : MomentWithPast) (attempt : AttemptRecord) → IsOpened script start after attempt
    → OpenAttemptsHaveMessages after.world.hosts → is_made attempt ≡ true → ⊥
opened_unmade script start after attempt o have made =
    no_message (attempt_in o.asked o.lined.node).messages none message.1
  where
    there : tree.get after.world.hosts o.stepping.n ≡ Some (host_with_node o.stepping.host o.next.node)
    there =
        ap (λ (m : MomentWithPast). tree.get m.world.hosts o.stepping.n) o.moment_so
        ∙ get-insert_same start.world.hosts o.stepping.n (host_with_node o.stepping.host o.next.node)

    message : (message : Message) × (slice_get (attempt_in o.asked o.lined.node).messages 0 ≡ Some message)
    message =
        have.each o.stepping.n (host_with_node o.stepping.host o.next.node) there (not_lost o.stepping.host o.is.up) o.req
        (record o.asked { stage = Open (attempt_in o.asked o.lined.node) }) (attempt_in o.asked o.lined.node) o.at_gateway o.making refl

    none : map (λ (m : Message). m.node) (attempt_in o.asked o.lined.node).messages ≡ []
    none =
        none_fly (attempt_in o.asked o.lined.node).messages (ap (λ (a : AttemptRecord). list_all is_served a.fates) o.opened ∙ made)

    no_message : (messages : List Message) → map (λ (m : Message). m.node) messages ≡ [] → slice_get messages 0 ≡ Some message.0 → ⊥
    no_message [] is at = cc (at)
    no_message (first ∷ messages) is at = cc (is)

module _ (script : List Statement) (range : RunsAreInRange script) (events : List Move) (start before after : MomentWithPast)
    (is : run_with_past script events ≡ Some start) (trail : MomentTrail script start before)
    (change : MomentChange script start before after) where
  began : Began script start.world
  began = began-with_past script events start is

  rows : RowsHold before
  rows = on_the_way script RowsHold (kept_rows script range) events start before is trail

  terms : TermsHold before
  terms = on_the_way script TermsHold (kept_terms script range) events start before is trail

  have_after : OpenAttemptsHaveMessages after.world.hosts
  have_after =
      (kept_messages script range).keeps start before after began change
      (on_the_way script (Have script range) (kept_messages script range) events start before is trail)

  -- an attempt was there before
  pub was_there : (j : ℕ) (attempt : AttemptRecord) → slice_get after.past.attempts j ≡ Some attempt → is_made attempt ≡ true
      → WasAttempt before j attempt
  was_there j attempt there made = ⊎_elim
      (λ (was : WasAttempt before j attempt). was)
      (λ (opened : IsOpened script start after attempt). absurd (opened_unmade script start after attempt opened have_after made))
      (come_from script range start began change j attempt there)

  module _ (n : ℕ) (was : Host) (there : tree.get before.world.hosts n ≡ Some was) (up : was.is_lost ≡ false)
      (listed : is_listed was.node.recovery ≡ true) where
    pub made_was : (oid before_epoch : ℕ) → before_epoch < was.node.recovery.epoch → 1 < was.node.recovery.epoch
        → IsMadeBy after.past.attempts oid before_epoch → IsMadeBy before.past.attempts oid before_epoch
    made_was oid before_epoch below later made = by_made (is_made w.was) refl
      where
        w : WasAttempt before made.place made.attempt
        w = was_there made.place made.attempt made.there made.made

        epoch_so : w.was.epoch ≡ made.attempt.epoch
        epoch_so = ap (λ (a : AttemptRecord). a.epoch) w.same

        own : was.node.recovery.epoch ≡ was.node.peer.epoch
        own = recovers_own before.world.log n was (terms.sound.each n was there) (terms.stood.stood n was there up) later

        within : was.node.recovery.epoch ≤ epoch_of before.world.log
        within =
            let same = own in
            let most = epoch_within before.world.log n was.node.me was.node.peer (terms.sound.each n was there).read in
            omega (arith, same, most)

        stands : (b : Bool) → is_doomed before.world.hosts w.was ≡ b → b ≡ false
        stands true doomed =
            let after_doomed = doomed_later script range start before after began change terms rows.shaped rows.tied made.place w.was
            made.attempt w.at made.there doomed in
            let stands_now = made-not_doomed after.world.hosts made.attempt made.made in
            absurd (cc (after_doomed, stands_now))
        stands false so = refl

        by_made : (b : Bool) → is_made w.was ≡ b → IsMadeBy before.past.attempts oid before_epoch
        by_made true was_made = record {
          place = made.place;
          attempt = w.was;
          there = w.at;
          object = ap (λ (a : AttemptRecord). object_of a) w.same ∙ made.object;
          made = was_made;
          before = (let same = epoch_so in let most = made.before in omega (arith, same, most));
        }
        by_made false unmade =
            let (target, among, not_beyond) = unmade_within before.world.hosts w.was.epoch w.was.targets w.was.fates
            (rows.tied.fates.whole made.place w.was w.at) (stands (is_doomed before.world.hosts w.was) refl) unmade in
            let same = epoch_so in
            let most = made.before in
            absurd (come_leaves before terms was.node.recovery.epoch w.was.epoch target
            (members_came before.world.log before.world.hosts
            (are_present before terms.sound) terms.answers.answered n was there listed later)
            within (omega (arith, same, most, below))
            (target-member before.world.log w.was.epoch (object_of w.was) (policy_of w.was.work) target
            (ap (has_node target) (sym (rows.shaped.shape.targets made.place w.was w.at)) ∙ among))
            not_beyond)
