-- There is one writer of an id after an entry more of the log, where there was one before: if what the entry takes the id from has nothing
-- in flight any more, or has left by the entry.
use Rattle.std.proofs.Common.{◌≡◌, ◌⊎◌, inl, inr, ⊎_elim, arith, ℕ, zero, suc, ◌-◌, ◌≤◌, Bool, true, false, cond, List, [], ◌∷◌, ◌++◌}
use Rattle.std.proofs.Common.{slice_get, Option, Some, None, is_some, refl, sym, ap, ◌∙◌}
use Rattle.std.specs.List.{filter_map}
use Rattle.std.proofs.lemmas.Bool.{both_ways}
use Rattle.std.proofs.lemmas.Option.{same_Some}
use Rattle.object_id.specs.declared.entry.Entry.{Entry}
use Rattle.object_id.specs.Oid.{vid_of}
use Rattle.disk_lock.specs.declared.holder.Holder.{Holder}
use Rattle.epoch_log.specs.Epochs.{epoch_of}
use Rattle.vdi_directory.specs.declared.effect.Effect.{Effect}
use Rattle.vdi_directory.specs.Decisions.{outcome, log_effects}
use Rattle.overlap_law.specs.Attempts.{AttemptRecord, object_of}
use Rattle.overlap_law.specs.Each.{EachAttempt}
use Rattle.overlap_law.specs.Packets.{Wire}
use Rattle.overlap_law.specs.Grants.{gives, granted_in, writer_of, takes_writer, leave_epoch_of, leaves_of, leave_of}
use Rattle.overlap_law.specs.Writers.{session_holder, bound_of, IsUnderTheGrant, HasEnded, IsFencedOff, ThereIsOneWriter, EndsInOrder}
use Rattle.overlap_law.proofs.DatedEffects.{last_epoch-push, last_epoch-most, epoch_rises, leaves-push}
use Rattle.overlap_law.proofs.WriterChanges.{entry_keeps_writer, entry_gives_writer, entry_gives_taken}

-- what stands in a list stands in a longer one
pub got_longer : {X : Type 0} (xs more : List X) (place : ℕ) (x : X) → slice_get xs place ≡ Some x → slice_get (xs ++ more) place ≡ Some x
got_longer [] more place x got = absurd (cc (got))
got_longer (y ∷ ys) more zero x got = got
got_longer (y ∷ ys) more (suc place) x got = got_longer ys more place x got

module _ (log : List Entry) (entry : Entry) where
  abbrev longer : List Entry
  longer = log ++ entry ∷ []

  abbrev does : Effect
  does = (outcome (log_effects log) entry).effect

  -- a leave that stands in the log stays there
  pub leave_stays : (node incarnation left : ℕ) → leave_of log node incarnation ≡ Some left → leave_of longer node incarnation ≡ Some left
  leave_stays node incarnation left is =
      ap (λ (all : List ℕ). slice_get all (incarnation - 1)) (leaves-push log entry node)
      ∙ got_longer (leaves_of log node)
      (filter_map (λ (effect : ℕ × Effect). leave_epoch_of node effect.0 effect.1) ((epoch_of longer, does) ∷ [])) (incarnation - 1) left is

  module _ (vid : ℕ) where
    -- the epoch of the grant, by whether the entry gives the id
    grant_now : gives vid does ≡ true → granted_in longer vid ≡ epoch_of longer
    grant_now is = last_epoch-push (gives vid) log entry ∙ ap (λ b. cond b (epoch_of longer) (granted_in log vid)) is

    grant_as_before : gives vid does ≡ false → granted_in longer vid ≡ granted_in log vid
    grant_as_before is = last_epoch-push (gives vid) log entry ∙ ap (λ b. cond b (epoch_of longer) (granted_in log vid)) is

    -- nothing is given that somebody has, unless it is taken
    abbrev IsAsBefore : Holder → Type 0
    IsAsBefore writer = (writer_of (log_effects longer) vid ≡ Some writer) × (granted_in longer vid ≡ granted_in log vid)

    abbrev IsNewest : Type 0
    IsNewest = bound_of longer vid ≡ epoch_of longer

    newest_if : (b : Bool) → gives vid does ≡ b → (o : Option Holder) → writer_of (log_effects longer) vid ≡ o
        → IsNewest ⊎ ((writer : Holder) × (o ≡ Some writer) × (writer_of (log_effects log) vid ≡ Some writer) × (gives vid does ≡ false))
    newest_if true given o is = inl (by_writer o is)
      where
        by_writer : (o : Option Holder) → writer_of (log_effects longer) vid ≡ o → IsNewest
        by_writer None none = ap (λ (o : Option Holder). cond (is_some o) (granted_in longer vid) (epoch_of longer)) none
        by_writer (Some writer) there =
            ap (λ (o : Option Holder). cond (is_some o) (granted_in longer vid) (epoch_of longer)) there ∙ grant_now given
    newest_if false kept None none = inl (ap (λ (o : Option Holder). cond (is_some o) (granted_in longer vid) (epoch_of longer)) none)
    newest_if false kept (Some writer) there = ⊎_elim
        (λ (was : writer_of (log_effects log) vid ≡ Some writer). inr (writer, refl, was, kept))
        (λ (given : gives vid does ≡ true). absurd (both_ways (gives vid does) kept given))
        (entry_gives_writer log entry vid writer there)

    -- the bound is the newest epoch, or the writer is the one before under its grant
    bound_after : IsNewest ⊎ ((writer : Holder) × (writer_of (log_effects log) vid ≡ Some writer) × IsAsBefore writer)
    bound_after = ⊎_elim
        (λ (newest : IsNewest). inl newest)
        (λ (kept : (writer : Holder) × (writer_of (log_effects longer) vid ≡ Some writer) × (writer_of (log_effects log) vid ≡ Some writer)
        × (gives vid does ≡ false)). inr (kept.0, kept.2, (kept.1, grant_as_before kept.3)))
        (newest_if (gives vid does) refl (writer_of (log_effects longer) vid) refl)

    pub bound_most : bound_of log vid ≤ epoch_of log
    bound_most = by_writer (writer_of (log_effects log) vid)
      where
        by_writer : (o : Option Holder) → cond (is_some o) (granted_in log vid) (epoch_of log) ≤ epoch_of log
        by_writer None = omega arith
        by_writer (Some writer) = last_epoch-most (gives vid) log

    -- the bound rises
    bound_rises : bound_of log vid ≤ bound_of longer vid
    bound_rises = ⊎_elim
        (λ (newest : IsNewest).
        let most = bound_most in
        let rises = epoch_rises log entry in
        omega (arith, newest, most, rises))
        (λ (kept : (writer : Holder) × (writer_of (log_effects log) vid ≡ Some writer) × IsAsBefore writer).
        let old : bound_of log vid ≡ granted_in log vid
        = ap (λ (o : Option Holder). cond (is_some o) (granted_in log vid) (epoch_of log)) kept.1 in
        let new : bound_of longer vid ≡ granted_in longer vid
        = ap (λ (o : Option Holder). cond (is_some o) (granted_in longer vid) (epoch_of longer)) kept.2.0 in
        let same = kept.2.1 in
        omega (arith, old, new, same))
        bound_after

  module _ (wire : Wire) (attempt : AttemptRecord) (began : attempt.epoch ≤ epoch_of log) where
    abbrev vid : ℕ
    vid = vid_of (object_of attempt)

    abbrev IsOrWas : List Entry → Type 0
    IsOrWas entries =
        IsUnderTheGrant entries attempt vid ⊎ (HasEnded wire attempt (bound_of entries vid)
        ⊎ IsFencedOff entries attempt (bound_of entries vid))

    -- it ended with the entry
    ends : bound_of longer vid ≡ epoch_of longer → EndsInOrder log entry wire attempt → IsOrWas longer
    ends newest (inl quiet) =
        let rises = epoch_rises log entry in
        inr (inl (record { quiet = quiet; before = omega (arith, began, newest, rises) }))
    ends newest (inr (leave, rises)) =
        inr (inr (record {
          left = epoch_of longer;
          leave = leave;
          before = omega (arith, began, rises);
          granted_later = omega (arith, newest);
        }))

    under_after : IsUnderTheGrant log attempt vid
        → (takes_writer vid attempt.gateway does ≡ true → EndsInOrder log entry wire attempt) → IsOrWas longer
    under_after under owed = ⊎_elim
        (λ (newest : bound_of longer vid ≡ epoch_of longer). by_take newest (takes_writer vid attempt.gateway does) refl)
        (λ (kept : (writer : Holder) × (writer_of (log_effects log) vid ≡ Some writer) × IsAsBefore vid writer).
        let same : kept.0 ≡ session_holder attempt.gateway.0 attempt.session
        = same_Some kept.0 (session_holder attempt.gateway.0 attempt.session) (sym kept.1 ∙ under.writer) in
        let since = under.since in
        let grant = kept.2.1 in
        inl (record { writer = kept.2.0 ∙ ap (λ (h : Holder). Some h) same; since = omega (arith, since, grant) }))
        (bound_after vid)
      where
        by_take : bound_of longer vid ≡ epoch_of longer → (b : Bool) → takes_writer vid attempt.gateway does ≡ b → IsOrWas longer
        by_take newest true takes = ends newest (owed takes)
        by_take newest false keeps = by_given (gives vid does) refl
          where
            stays : writer_of (log_effects longer) vid ≡ Some (session_holder attempt.gateway.0 attempt.session)
            stays = entry_keeps_writer log entry vid (session_holder attempt.gateway.0 attempt.session) under.writer keeps

            by_given : (b : Bool) → gives vid does ≡ b → IsOrWas longer
            by_given false kept =
                let grant = grant_as_before vid kept in
                let since = under.since in
                inl (record { writer = stays; since = omega (arith, since, grant) })
            by_given true given =
                absurd (both_ways (takes_writer vid attempt.gateway does) keeps
                (entry_gives_taken log entry vid given (session_holder attempt.gateway.0 attempt.session) under.writer))

    ended_after : HasEnded wire attempt (bound_of log vid) → IsOrWas longer
    ended_after ended =
        let before = ended.before in
        let rises = bound_rises vid in
        inr (inl (record { quiet = ended.quiet; before = omega (arith, before, rises) }))

    fenced_after : IsFencedOff log attempt (bound_of log vid) → IsOrWas longer
    fenced_after fenced =
        let later = fenced.granted_later in
        let rises = bound_rises vid in
        inr (inr (record {
          left = fenced.left;
          leave = leave_stays attempt.gateway.0 attempt.incarnation fenced.left fenced.leave;
          before = fenced.before;
          granted_later = omega (arith, later, rises);
        }))

  -- there is one writer still
  pub one_writer_after : (wire : Wire) (attempts : List AttemptRecord) → EachAttempt attempts (λ j attempt. attempt.epoch ≤ epoch_of log)
      → EachAttempt attempts (λ j attempt. IsUnderTheGrant log attempt (vid_of (object_of attempt))
      → takes_writer (vid_of (object_of attempt)) attempt.gateway does ≡ true → EndsInOrder log entry wire attempt)
      → ThereIsOneWriter log wire attempts → ThereIsOneWriter longer wire attempts
  one_writer_after wire attempts began owed one = record {
    each = λ j attempt got. ⊎_elim
        (λ (under : IsUnderTheGrant log attempt (vid_of (object_of attempt))). under_after wire attempt (began j attempt got) under
        (owed j attempt got under)) (λ (other : HasEnded wire attempt (bound_of log (vid_of (object_of attempt)))
        ⊎ IsFencedOff log attempt (bound_of log (vid_of (object_of attempt)))).
        ⊎_elim (ended_after wire attempt (began j attempt got)) (fenced_after wire attempt (began j attempt got)) other)
        (one.each j attempt got);
  }
