-- Each attempt on a disk that became a snapshot has ended by then, or is of a gateway that left before: over each change of a moment, and
-- so in every run in range.
use Rattle.std.proofs.Common.{◌≡◌, ◌⊎◌, inl, inr, ⊎_elim, arith, ℕ, ◌≤◌, ◌==◌, ◌||◌, Bool, true, false, cond, List, [], ◌∷◌, ◌++◌}
use Rattle.std.proofs.Common.{slice_get, Option, Some, None, refl, sym, ap, subst, ◌∙◌, append-nil, append_assoc}
use Rattle.std.specs.List.{list_any}
use Rattle.std.specs.Option.{option_map_or}
use Rattle.std.proofs.lemmas.Bool.{both_ways, eqb-true, or_cases}
use Rattle.std.proofs.lemmas.List.Folds.{list_any-append}
use Rattle.object_id.specs.declared.entry.Entry.{Entry}
use Rattle.object_id.specs.declared.node.NodeId.{NodeId}
use Rattle.object_id.specs.Oid.{vid_of}
use Rattle.cluster_script.specs.declared.statement.Statement.{Statement}
use Rattle.disk_lock.specs.declared.holder.Holder.{Holder}
use Rattle.epoch_log.specs.Epochs.{epoch_of}
use Rattle.vdi_directory.specs.declared.effect.Effect.{Effect}
use Rattle.vdi_directory.specs.declared.effect.Effect.TheVariants as effects
use Rattle.vdi_directory.specs.declared.effect.Reservation.{Reservation}
use Rattle.vdi_directory.specs.Decisions.{outcome, log_effects}
use Rattle.vdi_directory.specs.Effects.{holder_of, reservation_on, reservations_of}
use Rattle.vdi_directory.specs.States.{VdiState, Snapshot, Working, rank, state_of, state_after}
use Rattle.vdi_directory.proofs.DecisionLaws.{held-works}
use Rattle.vdi_directory.specs.Sound.{IsLawful}
use Rattle.vdi_directory.proofs.LawfulEntries.{lawful-outcome, sound-log_effects}
use Rattle.vdi_directory.proofs.SoundEffects.{state_of-push}
use Rattle.vdi_directory.proofs.StateLemmas.{log_effects-none, log_effects-push}
use Rattle.peer_service.specs.State.{Peer}
use Rattle.sheep_world.specs.Began.{Began}
use Rattle.overlap_law.specs.Attempts.{AttemptRecord, object_of}
use Rattle.overlap_law.specs.Each.{EachAttempt}
use Rattle.overlap_law.specs.Grants.{reserver, writer_of, takes_writer}
use Rattle.overlap_law.specs.LastReads.{snaps, was_snapped, snapped_in, SnapshotsAreClosed}
use Rattle.overlap_law.specs.MomentChanges.{MomentChange, RunsAreInRange}
use Rattle.overlap_law.specs.Packets.{Wire}
use Rattle.overlap_law.specs.Past.{MomentWithPast}
use Rattle.overlap_law.specs.TiedAttempts.{IsTied}
use Rattle.overlap_law.specs.WriterClaims.{IsGivenNoMore}
use Rattle.overlap_law.specs.Writers.{session_holder, bound_of, IsUnderTheGrant, HasEnded, IsFencedOff, ThereIsOneWriter, AttemptsHaveBegun}
use Rattle.overlap_law.specs.Writers.{EndsInOrder, WritersTakeTurns}
use Rattle.overlap_law.proofs.DatedEffects.{by_entries, last_epoch-push, last_epoch-most, epoch_rises}
use Rattle.overlap_law.proofs.EndsInTraffic.{EndsBy, traffic_keeps, ends_fewer, ends_told}
use Rattle.overlap_law.proofs.KeptIds.{no_more_stays}
use Rattle.overlap_law.proofs.LogsOfMoments.{log_of_change}
use Rattle.overlap_law.proofs.OneWriterAtEntries.{leave_stays, bound_most}
use Rattle.overlap_law.proofs.ReadInMoments.{HasReadOf}
use Rattle.overlap_law.proofs.TrafficOfChanges.{traffic}
use Rattle.overlap_law.proofs.WriterChanges.{writer-by, found_reserved}

-- ---- a snapshot has no writer

-- what an effect makes a snapshot is given no more
snaps-state : (vid : ℕ) (state : VdiState) (effect : Effect) → snaps vid effect ≡ true → 3 ≤ rank (state_after vid state effect)
snaps-state vid state effects.Nothing is = absurd (cc (is))
snaps-state vid state (effects.Reserved grant) is = absurd (cc (is))
snaps-state vid state (effects.Published of name) is = absurd (cc (is))
snaps-state vid state (effects.Snapped snap) is =
    let snapped : rank (state_after vid state (effects.Snapped snap)) ≡ 3
    = ap (λ (b : Bool). rank (cond b (Snapshot snap.tag) (cond (snap.vid.0 == vid) Working state))) is in
    omega (arith, snapped)
snaps-state vid state (effects.Deleted of name) is = absurd (cc (is))
snaps-state vid state (effects.Held of holder) is = absurd (cc (is))
snaps-state vid state (effects.Freed of) is = absurd (cc (is))
snaps-state vid state (effects.Withdrawn of) is = absurd (cc (is))
snaps-state vid state (effects.Left node) is = absurd (cc (is))

-- and taken from whoever might write it
snaps-take : (vid : ℕ) (node : NodeId) (effect : Effect) → snaps vid effect ≡ true → takes_writer vid node effect ≡ true
snaps-take vid node effects.Nothing is = absurd (cc (is))
snaps-take vid node (effects.Reserved grant) is = absurd (cc (is))
snaps-take vid node (effects.Published of name) is = absurd (cc (is))
snaps-take vid node (effects.Snapped snap) is = ap (λ (b : Bool). b || snap.vid.0 == vid) is
snaps-take vid node (effects.Deleted of name) is = absurd (cc (is))
snaps-take vid node (effects.Held of holder) is = absurd (cc (is))
snaps-take vid node (effects.Freed of) is = absurd (cc (is))
snaps-take vid node (effects.Withdrawn of) is = absurd (cc (is))
snaps-take vid node (effects.Left node_left) is = absurd (cc (is))

-- whether an id was snapped, with an entry more
pub snapped-push : (log : List Entry) (entry : Entry) (vid : ℕ)
    → was_snapped (log ++ entry ∷ []) vid ≡ (was_snapped log vid || (snaps vid (outcome (log_effects log) entry).effect || false))
snapped-push log entry vid =
    ap (list_any (snaps vid)) (log_effects-push log entry)
    ∙ list_any-append (snaps vid) (log_effects log) ((outcome (log_effects log) entry).effect ∷ [])

pub snapped_no_more : (vid : ℕ) (log : List Entry) → was_snapped log vid ≡ true → IsGivenNoMore log vid
snapped_no_more vid = by_entries (λ (log : List Entry). was_snapped log vid ≡ true → IsGivenNoMore log vid)
    (λ is. absurd (both_ways (was_snapped [] vid) (ap (list_any (snaps vid)) log_effects-none) is)) one_more
  where
    one_more : (log : List Entry) (entry : Entry) → (was_snapped log vid ≡ true → IsGivenNoMore log vid)
        → was_snapped (log ++ entry ∷ []) vid ≡ true
        → IsGivenNoMore (log ++ entry ∷ []) vid
    one_more log entry before is = ⊎_elim
        (λ (was : was_snapped log vid ≡ true). no_more_stays log entry vid (before was))
        (λ (now : (snaps vid (outcome (log_effects log) entry).effect || false) ≡ true). ⊎_elim
        (λ (snapped : snaps vid (outcome (log_effects log) entry).effect ≡ true).
        let effect = (outcome (log_effects log) entry).effect in
        let high = snaps-state vid (state_of (log_effects log) vid) effect snapped in
        let same : rank (state_of (log_effects (log ++ entry ∷ [])) vid) ≡ rank (state_after vid (state_of (log_effects log) vid) effect)
        = ap (λ (all : List Effect). rank (state_of all vid)) (log_effects-push log entry)
        ∙ ap rank (state_of-push (log_effects log) effect vid) in
        omega (arith, high, same))
        (λ (never : false ≡ true). absurd (cc (never)))
        (or_cases (snaps vid (outcome (log_effects log) entry).effect) false now))
        (or_cases (was_snapped log vid) (snaps vid (outcome (log_effects log) entry).effect || false)
        (sym (snapped-push log entry vid) ∙ is))

-- who may write an id may be given it
pub given-no_writer : (log : List Entry) (vid : ℕ) (writer : Holder) → IsGivenNoMore log vid → writer_of (log_effects log) vid ≡ Some writer
    → ⊥
given-no_writer log vid writer gone is =
    by_reservation (reservation_on (record { 0 = vid }) (reservations_of (log_effects log))) refl
    (sym (writer-by (log_effects log) vid) ∙ is)
  where
    by_reservation : (o : Option Reservation) → reservation_on (record { 0 = vid }) (reservations_of (log_effects log)) ≡ o
        → option_map_or (λ (r : Reservation). Some (reserver r)) (reservation_on (record { 0 = vid }) (reservations_of (log_effects log)))
        (holder_of (log_effects log) vid) ≡ Some writer → ⊥
    by_reservation None none by =
        let held : holder_of (log_effects log) vid ≡ Some writer
        = sym (ap (λ (o : Option Reservation). option_map_or (λ (r : Reservation). Some (reserver r)) o (holder_of (log_effects log) vid))
        none) ∙ by in
        let at : rank (state_of (log_effects log) vid) ≡ 2 = ap rank (held-works log vid writer held) in
        omega (arith, gone, at)
    by_reservation (Some reservation) found by =
        let at : rank (state_of (log_effects log) vid) ≡ 1
        = ap rank (found_reserved (log_effects log) (sound-log_effects log) vid reservation found) in
        omega (arith, gone, at)

pub snapped-no_writer : (log : List Entry) (vid : ℕ) (writer : Holder) → was_snapped log vid ≡ true
    → writer_of (log_effects log) vid ≡ Some writer → ⊥
snapped-no_writer log vid writer snapped is = given-no_writer log vid writer (snapped_no_more vid log snapped) is

-- ---- a disk becomes a snapshot once

pub snaps-working : (before : List Effect) (effect : Effect) (vid : ℕ) → IsLawful before effect → snaps vid effect ≡ true
    → state_of before vid ≡ Working
snaps-working before effects.Nothing vid lawful is = absurd (cc (is))
snaps-working before (effects.Reserved grant) vid lawful is = absurd (cc (is))
snaps-working before (effects.Published of name) vid lawful is = absurd (cc (is))
snaps-working before (effects.Snapped snap) vid lawful is = ap (state_of before) (sym (eqb-true snap.old.0 vid is)) ∙ lawful.0.state
snaps-working before (effects.Deleted of name) vid lawful is = absurd (cc (is))
snaps-working before (effects.Held of holder) vid lawful is = absurd (cc (is))
snaps-working before (effects.Freed of) vid lawful is = absurd (cc (is))
snaps-working before (effects.Withdrawn of) vid lawful is = absurd (cc (is))
snaps-working before (effects.Left node) vid lawful is = absurd (cc (is))

snapped_once : (log : List Entry) (entry : Entry) (vid : ℕ) → was_snapped log vid ≡ true
    → snaps vid (outcome (log_effects log) entry).effect ≡ false
snapped_once log entry vid was = by_test (snaps vid (outcome (log_effects log) entry).effect) refl
  where
    by_test : (b : Bool) → snaps vid (outcome (log_effects log) entry).effect ≡ b
        → snaps vid (outcome (log_effects log) entry).effect ≡ false
    by_test false is = is
    by_test true is =
        let gone = snapped_no_more vid log was in
        let at : rank (state_of (log_effects log) vid) ≡ 2
        = ap rank (snaps-working (log_effects log) (outcome (log_effects log) entry).effect vid
        (lawful-outcome (log_effects log) (sound-log_effects log) entry) is) in
        absurd (omega (arith, gone, at))

-- so it is one by a longer log, since the same epoch
abbrev IsSince : List Entry → List Entry → ℕ → Type 0
IsSince log later vid = (was_snapped later vid ≡ true) × (snapped_in later vid ≡ snapped_in log vid)

pub snapped-later : (log : List Entry) (vid : ℕ) → was_snapped log vid ≡ true → (more : List Entry) → IsSince log (log ++ more) vid
snapped-later log vid was = by_entries (λ (more : List Entry). IsSince log (log ++ more) vid)
    (subst (λ (all : List Entry). IsSince log all vid) (sym (append-nil log)) (was, refl)) one_more
  where
    one_more : (more : List Entry) (entry : Entry) → IsSince log (log ++ more) vid → IsSince log (log ++ (more ++ entry ∷ [])) vid
    one_more more entry since =
        let all = log ++ more in
        let other = snapped_once all entry vid since.0 in
        subst (λ (later : List Entry). IsSince log later vid) (append_assoc log more (entry ∷ [])) (
          snapped-push all entry vid ∙ ap (λ (b : Bool). b || (snaps vid (outcome (log_effects all) entry).effect || false)) since.0,
          last_epoch-push (snaps vid) all entry ∙ ap (λ (b : Bool). cond b (epoch_of (all ++ entry ∷ [])) (snapped_in all vid)) other
              ∙ since.1,
        )

-- a disk is a snapshot, and became one in this epoch or before
pub record IsOnSnapshot (log : List Entry) (vid epoch : ℕ) : Type 0 where
  pub snapped : was_snapped log vid ≡ true
  pub read : snapped_in log vid ≤ epoch

-- one that a node has read of
pub on_snapshot : (log : List Entry) (n : ℕ) (me : NodeId) (peer : Peer) → HasReadOf log n me peer → (vid : ℕ)
    → was_snapped peer.entries vid ≡ true
    → IsOnSnapshot log vid peer.epoch
on_snapshot log n me peer read vid was =
    let since = subst (λ (all : List Entry). IsSince peer.entries all vid) (sym read.front.is)
    (snapped-later peer.entries vid was read.front.rest) in
    let most = last_epoch-most (snaps vid) peer.entries in
    let same = since.1 in
    let epoch = read.epoch_so in
    record { snapped = since.0; read = omega (arith, most, same, epoch) }

-- ---- an entry more

-- what an attempt on a snapshot has come to
abbrev IsClosed : List Entry → Wire → AttemptRecord → Type 0
IsClosed log wire attempt = EndsBy log (snapped_in log (vid_of (object_of attempt))) wire attempt

module _ (log : List Entry) (entry : Entry) (wire : Wire) (attempt : AttemptRecord) where
  abbrev id : ℕ
  id = vid_of (object_of attempt)

  abbrev longer : List Entry
  longer = log ++ entry ∷ []

  abbrev does : Effect
  does = (outcome (log_effects log) entry).effect

  -- it becomes one by the entry
  module _ (snapped : snaps (vid_of (object_of attempt)) (outcome (log_effects log) entry).effect ≡ true)
      (began : attempt.epoch ≤ epoch_of log) where
    newest : snapped_in (log ++ entry ∷ []) (vid_of (object_of attempt)) ≡ epoch_of (log ++ entry ∷ [])
    newest = last_epoch-push (snaps id) log entry ∙ ap (λ (b : Bool). cond b (epoch_of longer) (snapped_in log id)) snapped

    closes : IsUnderTheGrant log attempt (vid_of (object_of attempt)) ⊎ (HasEnded wire attempt (bound_of log (vid_of (object_of attempt)))
        ⊎ IsFencedOff log attempt (bound_of log (vid_of (object_of attempt))))
        → (IsUnderTheGrant log attempt (vid_of (object_of attempt))
        → takes_writer (vid_of (object_of attempt)) attempt.gateway (outcome (log_effects log) entry).effect ≡ true
        → EndsInOrder log entry wire attempt)
        → IsClosed (log ++ entry ∷ []) wire attempt
    closes (inl under) owed = by_end (owed under (snaps-take id attempt.gateway does snapped))
      where
        by_end : EndsInOrder log entry wire attempt → IsClosed (log ++ entry ∷ []) wire attempt
        by_end (inl quiet) =
            let rises = epoch_rises log entry in
            let at = newest in
            inl (record { quiet = quiet; before = omega (arith, began, rises, at) })
        by_end (inr (leave, rises)) =
            let at = newest in
            inr (record { left = epoch_of longer; leave = leave; before = omega (arith, began, rises); granted_later = omega (arith, at) })
    closes (inr (inl ended)) owed =
        let before = ended.before in
        let most = bound_most log entry id in
        let rises = epoch_rises log entry in
        let at = newest in
        inl (record { quiet = ended.quiet; before = omega (arith, before, most, rises, at) })
    closes (inr (inr fenced)) owed =
        let later = fenced.granted_later in
        let most = bound_most log entry id in
        let rises = epoch_rises log entry in
        let at = newest in
        inr (record {
          left = fenced.left;
          leave = leave_stays log entry attempt.gateway.0 attempt.incarnation fenced.left fenced.leave;
          before = fenced.before;
          granted_later = omega (arith, later, most, rises, at);
        })

  -- it was one
  stays_closed : snaps (vid_of (object_of attempt)) (outcome (log_effects log) entry).effect ≡ false → IsClosed log wire attempt
      → IsClosed (log ++ entry ∷ []) wire attempt
  stays_closed other closed = by_case closed
    where
      same : snapped_in (log ++ entry ∷ []) (vid_of (object_of attempt)) ≡ snapped_in log (vid_of (object_of attempt))
      same = last_epoch-push (snaps id) log entry ∙ ap (λ (b : Bool). cond b (epoch_of longer) (snapped_in log id)) other

      by_case : IsClosed log wire attempt → IsClosed (log ++ entry ∷ []) wire attempt
      by_case (inl ended) = inl (record { quiet = ended.quiet; before = subst (λ (k : ℕ). attempt.epoch ≤ k) (sym same) ended.before })
      by_case (inr fenced) = inr (record {
        left = fenced.left;
        leave = leave_stays log entry attempt.gateway.0 attempt.incarnation fenced.left fenced.leave;
        before = fenced.before;
        granted_later = subst (λ (k : ℕ). fenced.left ≤ k) (sym same) fenced.granted_later;
      })

closed_after : (log : List Entry) (entry : Entry) (wire : Wire) (attempts : List AttemptRecord) → AttemptsHaveBegun log attempts
    → EachAttempt attempts (λ j attempt. IsUnderTheGrant log attempt (vid_of (object_of attempt))
    → takes_writer (vid_of (object_of attempt)) attempt.gateway (outcome (log_effects log) entry).effect ≡ true
    → EndsInOrder log entry wire attempt)
    → ThereIsOneWriter log wire attempts → SnapshotsAreClosed log wire attempts → SnapshotsAreClosed (log ++ entry ∷ []) wire attempts
closed_after log entry wire attempts began owed one closed =
    record {
      each = λ j attempt got snapped. by_test j attempt got snapped
          (snaps (vid_of (object_of attempt)) (outcome (log_effects log) entry).effect) refl;
    }
  where
    by_test : (j : ℕ) (attempt : AttemptRecord) → slice_get attempts j ≡ Some attempt
        → was_snapped (log ++ entry ∷ []) (vid_of (object_of attempt)) ≡ true
        → (b : Bool) → snaps (vid_of (object_of attempt)) (outcome (log_effects log) entry).effect ≡ b
        → IsClosed (log ++ entry ∷ []) wire attempt
    by_test j attempt got snapped true now =
        closes log entry wire attempt now (began j attempt got) (one.each j attempt got) (owed j attempt got)
    by_test j attempt got snapped false other =
        let id = vid_of (object_of attempt) in
        let before : was_snapped log id ≡ true
        = ⊎_elim
        (λ (was : was_snapped log id ≡ true). was)
        (λ (now : (snaps id (outcome (log_effects log) entry).effect || false) ≡ true).
        absurd (both_ways (snaps id (outcome (log_effects log) entry).effect || false) (ap (λ (b : Bool). b || false) other) now))
        (or_cases (was_snapped log id) (snaps id (outcome (log_effects log) entry).effect || false)
        (sym (snapped-push log entry id) ∙ snapped)) in
        stays_closed log entry wire attempt other (closed.each j attempt got before)

-- ---- each change

-- if it is one
abbrev IsClosedIf : List Entry → Wire → AttemptRecord → Type 0
IsClosedIf log wire attempt = was_snapped log (vid_of (object_of attempt)) ≡ true → IsClosed log wire attempt

module _ (script : List Statement) (range : RunsAreInRange script) (start : MomentWithPast) (began : Began script start.world)
    {before after : MomentWithPast} (change : MomentChange script start before after) where
  pub keeps_closed : IsTied before → AttemptsHaveBegun before.world.log before.past.attempts
      → WritersTakeTurns before.world.log after.world.log before.world.wire before.past.attempts after.past.attempts
      → ThereIsOneWriter before.world.log before.world.wire before.past.attempts
      → SnapshotsAreClosed before.world.log before.world.wire before.past.attempts
      → SnapshotsAreClosed after.world.log after.world.wire after.past.attempts
  keeps_closed tied begun turns one closed = record {
    each = traffic_keeps (IsClosedIf after.world.log)
        (λ wire later attempt fewer is snapped.
        ends_fewer after.world.log (snapped_in after.world.log (vid_of (object_of attempt))) wire later attempt fewer (is snapped))
        (λ wire attempt fates is snapped.
        ends_told after.world.log (snapped_in after.world.log (vid_of (object_of attempt))) wire attempt fates (is snapped))
        before.world.hosts after.world.hosts before.world.wire before.past.attempts tied.incarnations
        (traffic script range start began change)
        -- one that begins is the writer's, and a snapshot has none
        (λ attempt more snapped.
        absurd (snapped-no_writer after.world.log (vid_of (object_of attempt)) (session_holder attempt.gateway.0 attempt.session) snapped
        (turns.begins attempt more).writer)) by_the_log.each;
  }
    where
      by_the_log : SnapshotsAreClosed after.world.log before.world.wire before.past.attempts
      by_the_log = ⊎_elim
          (λ (same : after.world.log ≡ before.world.log).
          subst (λ (log : List Entry). SnapshotsAreClosed log before.world.wire before.past.attempts) (sym same) closed)
          (λ (more : (entry : Entry) × (after.world.log ≡ before.world.log ++ entry ∷ [])).
          subst (λ (log : List Entry). SnapshotsAreClosed log before.world.wire before.past.attempts) (sym more.1)
          (closed_after before.world.log more.0 before.world.wire before.past.attempts begun (turns.ends more.0 more.1) one closed))
          (log_of_change script change)
