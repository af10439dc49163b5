-- A node puts the entry that publishes: its command's claim ends, or for a snapshot goes over to the id that takes the disk's place.
use Rattle.std.proofs.Common.{◌≡◌, ◌≢◌, ◌⊎◌, inl, inr, ⊎_elim, ℕ, ◌+◌, ◌≤◌, Bool, true, false, List, [], ◌∷◌, ◌++◌, All, Option, Some, refl}
use Rattle.std.proofs.Common.{sym, ap, subst, ◌∙◌, arith}
use Rattle.std.specs.List.{list_any}
use Rattle.std.specs.FinMap as tree
use Rattle.std.proofs.lemmas.Bool.{cases_eq}
use Rattle.std.proofs.lemmas.Option.{same_Some}
use Rattle.object_id.specs.declared.entry.Entry.{Entry}
use Rattle.object_id.specs.declared.entry.Entry.TheVariants.{Format, Join, Leave, Reweight, Recovered, Reserve, Publish, Clone, Snapshot}
use Rattle.object_id.specs.declared.entry.Entry.TheVariants.{Delete, Lock, Unlock}
use Rattle.object_id.specs.declared.node.NodeId.{NodeId}
use Rattle.object_id.specs.declared.oid.Vid.{Vid}
use Rattle.epoch_log.specs.Epochs.{epoch_of}
use Rattle.disk_lock.specs.declared.holder.Holder.{Holder}
use Rattle.inode.specs.Layout.{Content}
use Rattle.vdi_directory.specs.Decisions.{log_effects}
use Rattle.guest_driver.specs.declared.disk.Disk.{Disk}
use Rattle.vdi_ops.specs.Entries.{unlock_of}
use Rattle.vdi_ops.specs.Op.{OpStage, Asked, Working, Publishing, Answered, Op}
use Rattle.sheep_node.specs.declared.course.Course.TheVariants.{Commanding}
use Rattle.sheep_node.specs.declared.course.Request.{Request}
use Rattle.sheep_node.specs.OwnEntries.{IsEntryOf}
use Rattle.overlap_law.specs.CommandDisks.{opened_in}
use Rattle.overlap_law.specs.Grants.{writer_of, may_take_writer}
use Rattle.overlap_law.specs.WriterClaims.{holder_at, IsFirstEntry, LetsGo, HasLock, HasReservation, IsStageKept, IsLetGo, IsDiskKept}
use Rattle.overlap_law.specs.WriterClaims.{HasClaims}
use Rattle.overlap_law.specs.Writers.{unlocks}
use Rattle.overlap_law.proofs.AwaitedChanges.{Requests}
use Rattle.overlap_law.proofs.ClaimChanges.{Sessions, disk_of}
use Rattle.overlap_law.proofs.ClaimPuts.{kept_tail, no_more_tail, unlocked_later, held_yet_later}
use Rattle.overlap_law.proofs.ClaimRefusals.{reserved_apart}
use Rattle.overlap_law.proofs.ClaimRequests.{none_kept}
use Rattle.overlap_law.proofs.ClaimTransport.{TakesNone, GivesStage, GivesReplaced, stage_over, disk_over, stage_on, disk_on}
use Rattle.overlap_law.proofs.CountedEntries.{times, once_if, times-cons, itself}
use Rattle.overlap_law.proofs.KeptIds.{no_more_stays, named_stays, lock-writer, reservation-writer, lock_stays, lock_with}

-- what such an entry can take: the id that it publishes, and a snapshot's disk
pub record TakesBy (last : Entry) (me : NodeId) (vid : Vid) (taken : ℕ → Type 0) : Type 0 where
  pub takes : (of session : ℕ) → may_take_writer of (holder_at me session) last ≡ true → (of ≡ vid.0) ⊎ taken of

module _ (log : List Entry) (last : Entry) (later read : List Entry) (from : ℕ) (me : NodeId) (requests : Requests) (sessions : Sessions)
    (own : All (IsEntryOf me) (last ∷ later)) (has : HasClaims log (last ∷ later) read from me requests sessions)
    (once : times last (last ∷ later) ≤ 1)
    (req : ℕ) (request : Request) (op : Op) (there : tree.get requests req ≡ Some request) (command : request.course ≡ Commanding op)
    (made : Option Content) (at : op.stage ≡ Publishing last made)
    (sole : (other : ℕ) (second : Request) (second_op : Op) → tree.get requests other ≡ Some second → second.course ≡ Commanding second_op
    → second.session ≡ request.session → other ≡ req)
    (vid : Vid) (reserved : HasReservation log (last ∷ later) me request.session (epoch_of read) vid.0)
    (old : ℕ → Type 0) (locked : (of : ℕ) → old of → HasLock log (last ∷ later) me request.session (epoch_of read) of)
    (takes : TakesBy last me vid old) where
  -- it isn't left in the outbox
  pub gone_last : 1 ≤ times last later → ⊥
  gone_last there =
      let all : times last (last ∷ later) ≡ 1 + times last later
      = times-cons last last later ∙ ap (λ (b : Bool). once_if b + times last later) (itself last) in
      omega (arith, all, there, once)

  writes_it : writer_of (log_effects log) vid.0 ≡ Some (holder_at me request.session)
  writes_it = reservation-writer log (last ∷ later) me request.session (epoch_of read) vid.0 reserved

  same_session : (of session : ℕ) → writer_of (log_effects log) of ≡ Some (holder_at me session)
      → writer_of (log_effects log) of ≡ Some (holder_at me request.session) → session ≡ request.session
  same_session of session one two =
      ap (λ (h : Holder). h.session) (same_Some (holder_at me session) (holder_at me request.session) (sym one ∙ two))

  -- what it takes is of the command's session, which has no unlock of it to put
  taken_own : (of session : ℕ) → may_take_writer of (holder_at me session) last ≡ true
      → writer_of (log_effects log) of ≡ Some (holder_at me session)
      → (session ≡ request.session) × (list_any (unlocks request.session of) (last ∷ later) ≡ false)
  taken_own of session taken writer = ⊎_elim
      (λ (same : of ≡ vid.0). (
        same_session of session writer (ap (writer_of (log_effects log)) same ∙ writes_it),
        ap (λ (v : ℕ). list_any (unlocks request.session v) (last ∷ later)) same ∙ reserved.kept,
      ))
      (λ (disk : old of). (
        same_session of session writer (lock-writer log (last ∷ later) me request.session (epoch_of read) of (locked of disk)),
        (locked of disk).kept,
      ))
      (takes.takes of session taken)

  spared : (session of : ℕ) → writer_of (log_effects log) of ≡ Some (holder_at me session) → 1 ≤ times (unlock_of me session of) later
      → times (unlock_of me session of) (last ∷ later) ≤ 1 → may_take_writer of (holder_at me session) last ≡ false
  spared session of writer some most = by_test (may_take_writer of (holder_at me session) last) refl
    where
      by_test : (b : Bool) → may_take_writer of (holder_at me session) last ≡ b → may_take_writer of (holder_at me session) last ≡ false
      by_test true taken =
          let (same, kept) = taken_own of session taken writer in
          let none = none_kept me session of (last ∷ later) (ap (λ (s : ℕ). list_any (unlocks s of) (last ∷ later)) same ∙ kept) in
          let all = times-cons (unlock_of me session of) last later in
          absurd (omega (arith, none, all, some))
      by_test false spares = spares

  -- other sessions
  pub taken_none : (session : ℕ) → session ≢ request.session → TakesNone log (last ∷ later) me session last
  taken_none session apart of writer kept = by_test (may_take_writer of (holder_at me session) last) refl
    where
      by_test : (b : Bool) → may_take_writer of (holder_at me session) last ≡ b → may_take_writer of (holder_at me session) last ≡ false
      by_test true taken = absurd (apart (taken_own of session taken writer).0)
      by_test false spares = spares

  -- the session's disk: its lock stays, or the command lets it go
  own_disk : (letting : (of : ℕ) → old of → LetsGo of (Publishing last made)) → (disk : Disk) → disk_of request.session sessions ≡ Some disk
      → IsDiskKept (log ++ last ∷ []) later read me requests request.session disk.snapshot disk.inode
  own_disk letting disk opened = by_kind disk.snapshot (has.disks request.session disk opened)
    where
      goes : old disk.inode.vid → IsLetGo requests request.session disk.inode.vid
      goes it = record {
        req = req;
        request = request;
        op = op;
        there = there;
        of = refl;
        command = command;
        lets = subst (LetsGo disk.inode.vid) (sym at) (letting disk.inode.vid it);
      }

      by_lock : HasLock log (last ∷ later) me request.session (epoch_of read) disk.inode.vid
          → HasLock (log ++ last ∷ []) later me request.session (epoch_of read) disk.inode.vid
          ⊎ IsLetGo requests request.session disk.inode.vid
      by_lock lock = by_test (may_take_writer disk.inode.vid (holder_at me request.session) last) refl
        where
          by_test : (b : Bool) → may_take_writer disk.inode.vid (holder_at me request.session) last ≡ b
              → HasLock (log ++ last ∷ []) later me request.session (epoch_of read) disk.inode.vid
              ⊎ IsLetGo requests request.session disk.inode.vid
          by_test true taken = ⊎_elim
              (λ (same : disk.inode.vid ≡ vid.0).
              absurd (reserved_apart log (last ∷ later) me request.session (epoch_of read) vid.0 (epoch_of read) disk.inode.vid reserved
              lock same)) (λ (it : old disk.inode.vid). inr (goes it))
              (takes.takes disk.inode.vid request.session taken)
          by_test false spares =
              inl (lock_with (log ++ last ∷ []) (last ∷ later) me request.session (epoch_of read) disk.inode.vid later
              (kept_tail log last later read from me requests sessions own has request.session disk.inode.vid lock.kept)
              (lock_stays log (last ∷ later) me request.session (epoch_of read) disk.inode.vid last spares lock))

      by_kind : (b : Bool) → IsDiskKept log (last ∷ later) read me requests request.session b disk.inode
          → IsDiskKept (log ++ last ∷ []) later read me requests request.session b disk.inode
      by_kind true gone = no_more_stays log last disk.inode.vid gone
      by_kind false (named, is) = (
        named_stays log last disk.inode.vid disk.inode.name named,
        ⊎_elim
            (λ (lock : HasLock log (last ∷ later) me request.session (epoch_of read) disk.inode.vid). by_lock lock)
            (λ (let_go : IsLetGo requests request.session disk.inode.vid). inr let_go) is,
      )

  module _ (letting : (of : ℕ) → old of → LetsGo of (Publishing last made))
      (stage : IsStageKept (log ++ last ∷ []) later read from me request.session (opened_in request.session sessions)
      (Publishing last made)) (others : (q : ℕ) (second : Request) (second_op : Op) → tree.get requests q ≡ Some second → second.course
      ≡ Commanding second_op
      → (apart : second.session ≢ request.session)
      → GivesStage log (last ∷ later) read from me second.session last (taken_none second.session apart) (opened_in second.session sessions)
      second_op.stage) where
    -- the command's own ground is another then
    own_stage : (q : ℕ) (second : Request) (second_op : Op) → tree.get requests q ≡ Some second → second.course ≡ Commanding second_op
        → second.session ≡ request.session
        → IsStageKept (log ++ last ∷ []) later read from me second.session (opened_in second.session sessions) second_op.stage
    own_stage q second second_op got second_command same =
        let here : q ≡ req = sole q second second_op got second_command same in
        let one : request ≡ second = same_Some request second (sym there ∙ ap (tree.get requests) (sym here) ∙ got) in
        let course : Commanding op ≡ Commanding second_op = sym command ∙ ap (λ (r : Request). r.course) one ∙ second_command in
        let its : op ≡ second_op = cc (course) in
        subst (λ (s : ℕ). IsStageKept (log ++ last ∷ []) later read from me s (opened_in s sessions) second_op.stage) (sym same)
        (subst (IsStageKept (log ++ last ∷ []) later read from me request.session (opened_in request.session sessions))
        (sym at ∙ ap (λ (o : Op). o.stage) its) stage)

    other_stage : (q : ℕ) (second : Request) (second_op : Op) → tree.get requests q ≡ Some second → second.course ≡ Commanding second_op
        → second.session ≢ request.session
        → IsStageKept (log ++ last ∷ []) later read from me second.session (opened_in second.session sessions) second_op.stage
    other_stage q second second_op got second_command apart =
        stage_over (log ++ last ∷ []) (last ∷ later) later read from me second.session
        (kept_tail log last later read from me requests sessions own has second.session) (opened_in second.session sessions) second_op.stage
        (no_more_tail log last later read from me requests sessions own has second_op.stage)
        (stage_on log (last ∷ later) read from me second.session last (taken_none second.session apart) (opened_in second.session sessions)
        second_op.stage (others q second second_op got second_command apart) (has.commands q second second_op got second_command))

    other_disk : (session : ℕ) (disk : Disk) → disk_of session sessions ≡ Some disk → session ≢ request.session
        → IsDiskKept (log ++ last ∷ []) later read me requests session disk.snapshot disk.inode
    other_disk session disk opened apart =
        disk_over (log ++ last ∷ []) (last ∷ later) later read from me session
        (kept_tail log last later read from me requests sessions own has session) requests disk.snapshot disk.inode
        (disk_on log (last ∷ later) read from me session last (taken_none session apart) requests disk.snapshot disk.inode
        (has.disks session disk opened))

    pub publication_put : HasClaims (log ++ last ∷ []) later read from me requests sessions
    publication_put = record {
      unlocked = unlocked_later log last later read from me requests sessions own has spared;
      commands = λ q second second_op got second_command. ⊎_elim
          (λ (same : second.session ≡ request.session). own_stage q second second_op got second_command same)
          (λ (apart : second.session ≢ request.session). other_stage q second second_op got second_command apart)
          (cases_eq second.session request.session);
      disks = λ session disk opened. ⊎_elim
          (λ (same : session ≡ request.session).
          subst (λ (s : ℕ). IsDiskKept (log ++ last ∷ []) later read me requests s disk.snapshot disk.inode) (sym same)
          (own_disk letting disk (ap (λ (s : ℕ). disk_of s sessions) (sym same) ∙ opened)))
          (λ (apart : session ≢ request.session). other_disk session disk opened apart)
          (cases_eq session request.session);
      held_yet = held_yet_later log last later read from me requests sessions own has spared;
    }

-- ---- each of the three entries

module _ (log : List Entry) (later read : List Entry) (from : ℕ) (me : NodeId) (requests : Requests) (sessions : Sessions) where
  -- what is waited for is of one session: who else waits for it would have the same id
  abbrev NobodyElse : Entry → List Entry → ℕ → Type 0
  NobodyElse last outbox session =
      (q : ℕ) (second : Request) (second_op : Op) → tree.get requests q ≡ Some second → second.course ≡ Commanding second_op
      → second.session ≢ session → (wanted : Entry) (made : Option Content) → second_op.stage ≡ Publishing wanted made → last ≢ wanted

  -- an entry that publishes is no first one
  module _ (last : Entry) (own : All (IsEntryOf me) (last ∷ later)) (has : HasClaims log (last ∷ later) read from me requests sessions)
      (not_first : IsFirstEntry last → ⊥) (session : ℕ) (nobody : NobodyElse last (last ∷ later) session)
      (none : (other : ℕ) → other ≢ session → TakesNone log (last ∷ later) me other last)
      (q : ℕ) (second : Request) (second_op : Op) (got : tree.get requests q ≡ Some second) (command : second.course ≡ Commanding second_op)
      (apart : second.session ≢ session) where
    replaced_gives : (wanted : Entry) → last ≢ wanted
        → GivesReplaced log (last ∷ later) read from me second.session last (none second.session apart)
        (opened_in second.session sessions) wanted
    replaced_gives (Format members) other = tt
    replaced_gives (Join node zone vnodes) other = tt
    replaced_gives (Leave node) other = tt
    replaced_gives (Reweight node vnodes) other = tt
    replaced_gives (Recovered node epoch) other = tt
    replaced_gives (Reserve by of name origin) other = tt
    replaced_gives (Publish by of) other = tt
    replaced_gives (Clone by of) other = tt
    replaced_gives (Snapshot by old of) other = λ same. absurd (other same)
    replaced_gives (Delete by of name tag) other = tt
    replaced_gives (Lock by of name tag) other = tt
    replaced_gives (Unlock by of id) other = tt

    pub others_given : GivesStage log (last ∷ later) read from me second.session last (none second.session apart)
        (opened_in second.session sessions)
        second_op.stage
    others_given = by_stage second_op.stage refl (has.commands q second second_op got command)
      where
        by_stage : (stage : OpStage) → second_op.stage ≡ stage
            → IsStageKept log (last ∷ later) read from me second.session (opened_in second.session sessions) stage
            → GivesStage log (last ∷ later) read from me second.session last (none second.session apart) (opened_in second.session sessions)
            stage
        by_stage (Asked wanted) at is = λ same vid granted. absurd (not_first (subst IsFirstEntry (sym same) is.first))
        by_stage (Working vid task) at is = tt
        by_stage (Publishing wanted made) at is = replaced_gives wanted (nobody q second second_op got command apart wanted made at)
        by_stage (Answered change) at is = tt
