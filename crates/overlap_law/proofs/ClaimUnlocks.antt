-- An unlock is put: its session claims the id no more, and where the id is that of an open disk it has that locked until then.
use Rattle.std.proofs.Common.{◌≡◌, ◌≢◌, ⊎_elim, ℕ, ◌+◌, ◌≤◌, ◌==◌, Bool, true, false, ◌&&◌, ◌||◌, List, [], ◌∷◌, ◌++◌, Some, refl, sym, ap}
use Rattle.std.proofs.Common.{subst, ◌∙◌, arith}
use Rattle.std.specs.FinMap as tree
use Rattle.std.proofs.lemmas.Bool.{cases_eq, ne_eqb}
use Rattle.std.proofs.lemmas.List.Folds.{list_any-append}
use Rattle.object_id.specs.declared.entry.Entry.{Entry}
use Rattle.object_id.specs.declared.entry.Entry.TheVariants.{Unlock}
use Rattle.object_id.specs.declared.node.NodeId.{NodeId}
use Rattle.object_id.specs.Same.{is_same_entry}
use Rattle.guest_driver.specs.declared.disk.Disk.{Disk}
use Rattle.vdi_ops.specs.Entries.{unlock_of}
use Rattle.vdi_ops.specs.Op.{Op}
use Rattle.epoch_log.specs.Epochs.{epoch_of}
use Rattle.sheep_node.specs.declared.course.Request.{Request}
use Rattle.sheep_node.specs.declared.course.Course.TheVariants.{Commanding}
use Rattle.overlap_law.specs.CommandDisks.{opened_in}
use Rattle.overlap_law.specs.WriterClaims.{IsStageKept, IsDiskKept, IsUnlockKept, HasLockYet}
use Rattle.overlap_law.specs.Writers.{unlocks}
use Rattle.overlap_law.proofs.AwaitedChanges.{Requests}
use Rattle.overlap_law.proofs.ClaimTransport.{KeepsAll, PutsNoMore, stage_over, disk_over}
use Rattle.overlap_law.proofs.CountedEntries.{times, once_if, times-push, same_entry, itself}
use Rattle.overlap_law.proofs.ClaimChanges.{Sessions, disk_of, Claims}

-- what an unlock names
abbrev session_unlocked : Entry → ℕ
session_unlocked (Unlock by session vid) = session
session_unlocked entry = 0

abbrev vid_unlocked : Entry → ℕ
vid_unlocked (Unlock by session vid) = vid.0
vid_unlocked entry = 0

module _ (log read : List Entry) (from : ℕ) (me : NodeId) (outbox : List Entry) (requests : Requests) where
  module _ (sessions : Sessions) (session vid : ℕ) (may : IsUnlockKept log me session vid
      (times (unlock_of me session vid) outbox + 1)) where
    abbrev unlock : Entry
    unlock = unlock_of me session vid

    -- of another session
    kept_apart : (q : ℕ) → q ≢ session → KeepsAll q outbox (outbox ++ unlock_of me session vid ∷ [])
    kept_apart q apart of kept =
        list_any-append (unlocks q of) outbox (unlock ∷ [])
        ∙ (λ i. kept i || ((ne_eqb session q (λ same. apart (sym same)) i && (vid == of)) || false))

    counted : (q of : ℕ) → 1 ≤ times (unlock_of me q of) (outbox ++ unlock_of me session vid ∷ [])
        → Claims log read from me outbox requests sessions
        → IsUnlockKept log me q of (times (unlock_of me q of) (outbox ++ unlock_of me session vid ∷ []))
    counted q of there has = by_test (is_same_entry (unlock_of me q of) unlock) refl
      where
        more : (b : Bool) → is_same_entry (unlock_of me q of) unlock ≡ b
            → times (unlock_of me q of) (outbox ++ unlock ∷ []) ≡ times (unlock_of me q of) outbox + once_if b
        more b is = times-push (unlock_of me q of) outbox unlock ∙ ap (λ (c : Bool). times (unlock_of me q of) outbox + once_if c) is

        by_test : (b : Bool) → is_same_entry (unlock_of me q of) unlock ≡ b
            → IsUnlockKept log me q of (times (unlock_of me q of) (outbox ++ unlock_of me session vid ∷ []))
        by_test true same =
            let one : unlock_of me q of ≡ unlock_of me session vid = same_entry (unlock_of me q of) unlock same in
            let number : q ≡ session = ap session_unlocked one in
            let id : of ≡ vid = ap vid_unlocked one in
            subst (λ (s : ℕ). IsUnlockKept log me s of (times (unlock_of me s of) (outbox ++ unlock ∷ []))) (sym number)
            (subst (λ (v : ℕ). IsUnlockKept log me session v (times (unlock_of me session v) (outbox ++ unlock ∷ []))) (sym id)
            (subst (IsUnlockKept log me session vid)
            (sym (times-push unlock outbox unlock ∙ ap (λ (c : Bool). times unlock outbox + once_if c) (itself unlock))) may))
        by_test false apart =
            let same : times (unlock_of me q of) (outbox ++ unlock ∷ []) ≡ times (unlock_of me q of) outbox
            = (let all : times (unlock_of me q of) (outbox ++ unlock ∷ [])
            ≡ times (unlock_of me q of) outbox + 0 = more false apart in omega (arith, all)) in
            subst (IsUnlockKept log me q of) (sym same) (has.unlocked q of (subst (λ (k : ℕ). 1 ≤ k) same there))

    -- a disk of another session
    yet_apart : (q of : ℕ) → q ≢ session → 1 ≤ times (unlock_of me q of) (outbox ++ unlock_of me session vid ∷ [])
        → 1 ≤ times (unlock_of me q of) outbox
    yet_apart q of apart there = by_test (is_same_entry (unlock_of me q of) unlock) refl
      where
        by_test : (b : Bool) → is_same_entry (unlock_of me q of) unlock ≡ b → 1 ≤ times (unlock_of me q of) outbox
        by_test true same = absurd (apart (ap session_unlocked (same_entry (unlock_of me q of) unlock same)))
        by_test false other =
            let all : times (unlock_of me q of) (outbox ++ unlock ∷ []) ≡ times (unlock_of me q of) outbox + 0
            = times-push (unlock_of me q of) outbox unlock ∙ ap (λ (c : Bool). times (unlock_of me q of) outbox + once_if c) other in
            omega (arith, all, there)

    pub unlocked_claims : ((req : ℕ) (request : Request) (op : Op) → tree.get requests req ≡ Some request → request.course ≡ Commanding op
        → PutsNoMore outbox (outbox ++ unlock_of me session vid ∷ []) op.stage)
        → ((req : ℕ) (request : Request) (op : Op) → tree.get requests req ≡ Some request → request.course ≡ Commanding op
        → request.session ≡ session
        → IsStageKept log (outbox ++ unlock_of me session vid ∷ []) read from me request.session (opened_in request.session sessions)
        op.stage)
        → ((disk : Disk) → disk_of session sessions ≡ Some disk
        → IsDiskKept log (outbox ++ unlock_of me session vid ∷ []) read me requests session disk.snapshot disk.inode)
        → ((disk : Disk) → disk_of session sessions ≡ Some disk → disk.snapshot ≡ false
        → HasLockYet log me session (epoch_of read) disk.inode.vid)
        → Claims log read from me outbox requests sessions
        → Claims log read from me (outbox ++ unlock_of me session vid ∷ []) requests sessions
    unlocked_claims no_more own_stage own_disk own_yet has = record {
      unlocked = λ q of there. counted q of there has;
      commands = λ req request op there command. ⊎_elim
          (λ (same : request.session ≡ session). own_stage req request op there command same)
          (λ (apart : request.session ≢ session).
          stage_over log outbox (outbox ++ unlock ∷ []) read from me request.session (kept_apart request.session apart)
          (opened_in request.session sessions) op.stage (no_more req request op there command) (has.commands req request op there command))
          (cases_eq request.session session);
      disks = λ q disk opened. ⊎_elim
          (λ (same : q ≡ session).
          subst (λ (s : ℕ). IsDiskKept log (outbox ++ unlock ∷ []) read me requests s disk.snapshot disk.inode) (sym same)
          (own_disk disk (ap (λ (s : ℕ). disk_of s sessions) (sym same) ∙ opened)))
          (λ (apart : q ≢ session).
          disk_over log outbox (outbox ++ unlock ∷ []) read from me q (kept_apart q apart) requests disk.snapshot disk.inode
          (has.disks q disk opened))
          (cases_eq q session);
      held_yet = λ q disk opened working there. ⊎_elim
          (λ (same : q ≡ session).
          subst (λ (s : ℕ). HasLockYet log me s (epoch_of read) disk.inode.vid) (sym same)
          (own_yet disk (ap (λ (s : ℕ). disk_of s sessions) (sym same) ∙ opened) working))
          (λ (apart : q ≢ session). has.held_yet q disk opened working (yet_apart q disk.inode.vid apart there))
          (cases_eq q session);
    }
