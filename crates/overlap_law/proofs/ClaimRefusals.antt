-- A refused command gives back what it was granted: its unlock is put, and the request goes; and along each change of a step sessions keep
-- what their works rest on.
use Rattle.std.proofs.Common.{◌≡◌, ◌≢◌, inl, inr, ⊎_elim, ℕ, ◌+◌, Bool, true, false, List, [], ◌∷◌, ◌++◌, Option, Some, None, refl, sym, ap}
use Rattle.std.proofs.Common.{subst, ◌∙◌, arith}
use Rattle.std.specs.List.{list_any}
use Rattle.std.specs.FinMap as tree
use Rattle.std.specs.Option.{option_map_or}
use Rattle.std.proofs.lemmas.Bool.{cases_eq}
use Rattle.std.proofs.lemmas.Option.{same_Some}
use Rattle.proof_tools.proofs.FiniteMaps.{get-remove_same, get-remove_other}
use Rattle.object_id.specs.declared.cause.Cause.{Cause}
use Rattle.object_id.specs.declared.cause.Cause.TheVariants.{Halt}
use Rattle.object_id.specs.declared.entry.Entry.{Entry}
use Rattle.object_id.specs.declared.entry.Entry.TheVariants.{Recovered}
use Rattle.object_id.specs.declared.node.NodeId.{NodeId}
use Rattle.object_id.specs.declared.oid.Vid.{Vid}
use Rattle.epoch_log.specs.Epochs.{epoch_of}
use Rattle.inode.specs.Layout.{Content}
use Rattle.vdi_directory.specs.Decisions.{log_effects}
use Rattle.vdi_directory.specs.States.{Working as InUse, Reserved, rank, state_of}
use Rattle.vdi_directory.proofs.DecisionLaws.{held-works}
use Rattle.vdi_directory.proofs.LawfulEntries.{sound-log_effects}
use Rattle.peer_proto.specs.declared.guest.GuestRsp.{GuestRsp}
use Rattle.peer_proto.specs.declared.guest.GuestRsp.TheVariants.{Refused}
use Rattle.gateway.specs.State.{Work}
use Rattle.gateway.specs.Work.{zones_for}
use Rattle.guest_driver.specs.declared.disk.Disk.{Disk}
use Rattle.vdi_ops.specs.declared.end.OpEnd.{OpEnd}
use Rattle.vdi_ops.specs.Entries.{unlock_of}
use Rattle.vdi_ops.specs.Op.{Task, Opening, WritingBack, Tagging, Copying, Making, OpStage, Asked, Working, Publishing, Answered, Op}
use Rattle.vdi_ops.specs.Steps.{refused_at, on_refusal}
use Rattle.sheep_node.specs.declared.input.Input.{Input}
use Rattle.sheep_node.specs.declared.ask.Ask.TheVariants as asks
use Rattle.sheep_node.specs.declared.course.Course.{Course}
use Rattle.sheep_node.specs.declared.course.Request.{Request}
use Rattle.sheep_node.specs.declared.course.Course.TheVariants.{Waiting, Driving, Commanding, Checking, DoingWork, AwaitingDecision}
use Rattle.sheep_node.specs.State.{Node}
use Rattle.sheep_node.specs.StepState.{StepState, request_ended}
use Rattle.sheep_node.specs.RequestWorks.{command_refused, course_refused}
use Rattle.sheep_node.specs.Changes as changes
use Rattle.sheep_node.specs.Changes.{ToWork, ToEntry, ToReply, without_ended_work, without_denied_work, zones_of_members, WorkIsNext}
use Rattle.sheep_node.specs.Changes.{AtOnce, InTurn, Again, AgainAlone, Change, Leads}
use Rattle.sheep_node.proofs.StepChain.{kept_by_chain}
use Rattle.overlap_law.specs.AwaitedEntries.{IsSessionsCommand}
use Rattle.overlap_law.specs.CommandDisks.{opened_as, opened_in, IsOpenAtTask, IsOpenAtStage}
use Rattle.overlap_law.specs.Grants.{writer_of}
use Rattle.overlap_law.specs.WriterClaims.{holder_at, HasLock, HasReservation, IsGivenNoMore, IsTaskKept, IsMakingKept, IsStageKept, LetsGo}
use Rattle.overlap_law.specs.WriterClaims.{IsLetGo, IsDiskKept, IsUnlockKept, HasClaims, HasLockYet}
use Rattle.overlap_law.specs.Writers.{unlocks}
use Rattle.overlap_law.proofs.AwaitedChanges.{Requests, AreAwaitedSoFar}
use Rattle.overlap_law.proofs.AwaitedCommands.{is_command}
use Rattle.overlap_law.proofs.AwaitedSteps.{entry_of_input, MeetsCommands, next_awaited, change_awaited}
use Rattle.overlap_law.proofs.ClaimChanges.{disk_of, LetsNothingGo, one_alike, gone_claims, more_claims, kept_elsewhere}
use Rattle.overlap_law.proofs.ClaimUnlocks.{unlocked_claims}
use Rattle.overlap_law.proofs.ClaimRequests.{IsReadOf, HasSoFar, none_kept, freed_kept, arrived_lets, plain_kept, plain_there_lets}
use Rattle.overlap_law.proofs.ClaimRequests.{unpublished}
use Rattle.overlap_law.proofs.ClaimSteps.{steps_kept}
use Rattle.overlap_law.proofs.CountedEntries.{times}
use Rattle.overlap_law.proofs.KeptIds.{lock-writer, reservation-writer, lock_with, lock_yet}
use Rattle.overlap_law.proofs.OpenDiskChanges.{AreOpenSoFar, one_alike as one_open, next_open, change_open}
use Rattle.overlap_law.proofs.WriterChanges.{found_reserved}
use Rattle.overlap_law.proofs.MakingEntries.{making_reserved}

-- what is reserved isn't what is locked
pub reserved_apart : (log outbox : List Entry) (me : NodeId) (session epoch vid later held : ℕ)
    → HasReservation log outbox me session epoch vid
    → HasLock log outbox me session later held → held ≢ vid
reserved_apart log outbox me session epoch vid later held has lock same =
    let works = held-works log held (holder_at me session) lock.held in
    let reserved = found_reserved (log_effects log) (sound-log_effects log) vid has.reservation has.found in
    let both : InUse ≡ Reserved has.reservation.by = sym works ∙ ap (state_of (log_effects log)) same ∙ reserved in
    absurd (cc (both))

gone_apart : (log outbox : List Entry) (me : NodeId) (session later vid held : ℕ) → IsGivenNoMore log vid
    → HasLock log outbox me session later held → held ≢ vid
gone_apart log outbox me session later vid held gone lock same =
    let at : rank (state_of (log_effects log) vid) ≡ 2
    = ap rank (ap (state_of (log_effects log)) (sym same) ∙ held-works log held (holder_at me session) lock.held) in
    omega (arith, gone, at)

module _ (read unread : List Entry) (input : Input) (node : Node) (meets : MeetsCommands read input node) (log : List Entry) (from : ℕ)
    (reads : IsReadOf log read unread from input node) where
  abbrev Is : StepState → Type 0
  Is = AreAwaitedSoFar read node.me unread (entry_of_input input)

  abbrev Has : StepState → Type 0
  Has = HasSoFar read unread input node meets log from reads

  -- ---- a request ends

  ended_kept : (session req : ℕ) (reply : GuestRsp) (so_far : StepState) → LetsNothingGo so_far.node.requests req → Has so_far
      → Has (request_ended session req reply so_far)
  unfolding request_ended
  ended_kept session req reply so_far nothing has =
      one_alike log read from node.me so_far.node.outbox (tree.remove so_far.node.requests req) so_far.node.sessions session _ refl
      (gone_claims log read from node.me so_far.node.outbox so_far.node.requests so_far.node.sessions has req nothing)

  -- ---- a command is refused for its work

  module _ (so_far : StepState) (so : Is so_far) (all : AreOpenSoFar so_far) (has : Has so_far) (session req : ℕ) (op : Op) (vid : Vid)
      (task : Task)
      (there : tree.get so_far.node.requests req ≡ Some (record { session = session; course = Commanding op }))
      (at : op.stage ≡ Working vid task) where
    abbrev unlock : Entry
    unlock = unlock_of node.me session vid.0

    task_has : IsTaskKept log so_far.node.outbox read from node.me session (opened_in session so_far.node.sessions) vid task
    task_has =
        subst (IsStageKept log so_far.node.outbox read from node.me session (opened_in session so_far.node.sessions)) at
        (has.commands req (record { session = session; course = Commanding op }) op there refl)

    nothing_goes : LetsNothingGo so_far.node.requests req
    nothing_goes old other of got command lets =
        let one : record { session = session; course = Commanding op } ≡ old = same_Some _ old (sym there ∙ got) in
        let course : Commanding op ≡ Commanding other = ap (λ (r : Request). r.course) one ∙ command in
        let same : op ≡ other = cc (course) in
        subst (LetsGo of) (sym (ap (λ (o : Op). o.stage) same) ∙ at) lets

    abbrev gone : Requests
    gone = tree.remove so_far.node.requests req

    gone_has : HasClaims log so_far.node.outbox read from node.me (tree.remove so_far.node.requests req) so_far.node.sessions
    gone_has = gone_claims log read from node.me so_far.node.outbox so_far.node.requests so_far.node.sessions has req nothing_goes

    -- no command of the session is left
    none_left : (q : ℕ) (request : Request) → tree.get (tree.remove so_far.node.requests req) q ≡ Some request
        → is_command request.course ≡ true
        → request.session ≢ session
    none_left q request got command of = ⊎_elim
        (λ (own : q ≡ req).
        let none : tree.get (tree.remove so_far.node.requests req) q ≡ None
        = ap (tree.get (tree.remove so_far.node.requests req)) own ∙ get-remove_same so_far.node.requests req in
        absurd (cc (none, got)))
        (λ (other : q ≢ req).
        absurd (other (so.commands.apart q req request (record { session = session; course = Commanding op })
        (sym (get-remove_other so_far.node.requests req q other) ∙ got) there command refl of)))
        (cases_eq q req)

    -- what it was granted, by the task
    by_writer : (epoch : ℕ) → (writer_of (log_effects log) vid.0 ≡ Some (holder_at node.me session))
        → list_any (unlocks session vid.0) so_far.node.outbox ≡ false
        → IsUnlockKept log node.me session vid.0 (times (unlock_of node.me session vid.0) so_far.node.outbox + 1)
    by_writer epoch writer kept =
        inr (writer, (let none = none_kept node.me session vid.0 so_far.node.outbox kept in omega (arith, none)))

    by_lock : HasLock log so_far.node.outbox node.me session (epoch_of read) vid.0
        → IsUnlockKept log node.me session vid.0 (times (unlock_of node.me session vid.0) so_far.node.outbox + 1)
    by_lock lock = by_writer (epoch_of read) (lock-writer log so_far.node.outbox node.me session (epoch_of read) vid.0 lock) lock.kept

    by_reservation : HasReservation log so_far.node.outbox node.me session (epoch_of read) vid.0
        → IsUnlockKept log node.me session vid.0 (times (unlock_of node.me session vid.0) so_far.node.outbox + 1)
    by_reservation has =
        by_writer (epoch_of read) (reservation-writer log so_far.node.outbox node.me session (epoch_of read) vid.0 has) has.kept

    -- a making's reservation
    made_reserved : (entry : Entry) (made : Option Content)
        → IsMakingKept log so_far.node.outbox read from node.me session (opened_in session so_far.node.sessions) vid entry made
        → HasReservation log so_far.node.outbox node.me session (epoch_of read) vid.0
    made_reserved =
        making_reserved log so_far.node.outbox read from node.me session (opened_in session so_far.node.sessions) vid

    may_unlock : (task : Task)
        → IsTaskKept log so_far.node.outbox read from node.me session (opened_in session so_far.node.sessions) vid task
        → IsUnlockKept log node.me session vid.0 (times (unlock_of node.me session vid.0) so_far.node.outbox + 1)
    may_unlock (Opening true ids header) is = inl is
    may_unlock (Opening false ids header) is = by_lock is.0
    may_unlock (WritingBack inode) is = by_lock is.0
    may_unlock (Tagging old inode) is = by_reservation is.0.has
    may_unlock (Copying ids header) is = by_reservation is
    may_unlock (Making entry made) is = by_reservation (made_reserved entry made is)

    -- a disk that the session has open is another
    other_disk : (task : Task)
        → IsTaskKept log so_far.node.outbox read from node.me session (opened_in session so_far.node.sessions) vid task
        → IsOpenAtTask (opened_in session so_far.node.sessions) vid task → (disk : Disk) → disk_of session so_far.node.sessions ≡ Some disk
        → HasLock log so_far.node.outbox node.me session (epoch_of read) disk.inode.vid → disk.inode.vid ≢ vid.0
    other_disk (Opening snapshot ids header) is fits disk opened lock = let some = sym (ap opened_as opened) ∙ fits in absurd (cc (some))
    other_disk (WritingBack inode) is fits disk opened lock = let some = sym (ap opened_as opened) ∙ fits.0 in absurd (cc (some))
    other_disk (Tagging old inode) is fits disk opened lock =
        reserved_apart log so_far.node.outbox node.me session (epoch_of read) vid.0 (epoch_of read) disk.inode.vid is.0.has lock
    other_disk (Copying ids header) is fits disk opened lock =
        reserved_apart log so_far.node.outbox node.me session (epoch_of read) vid.0 (epoch_of read) disk.inode.vid is lock
    other_disk (Making entry made) is fits disk opened lock =
        reserved_apart log so_far.node.outbox node.me session (epoch_of read) vid.0 (epoch_of read) disk.inode.vid
        (made_reserved entry made is) lock

    own_disk : (disk : Disk) → disk_of session so_far.node.sessions ≡ Some disk
        → IsDiskKept log (so_far.node.outbox ++ unlock_of node.me session vid.0 ∷ []) read node.me (tree.remove so_far.node.requests req)
        session disk.snapshot disk.inode
    own_disk disk opened = by_kind disk.snapshot (gone_has.disks session disk opened)
      where
        by_kind : (b : Bool) → IsDiskKept log so_far.node.outbox read node.me (tree.remove so_far.node.requests req) session b disk.inode
            → IsDiskKept log (so_far.node.outbox ++ unlock ∷ []) read node.me (tree.remove so_far.node.requests req) session b disk.inode
        by_kind true is = is
        by_kind false (named, is) = (
          named,
          ⊎_elim
              (λ (lock : HasLock log so_far.node.outbox node.me session (epoch_of read) disk.inode.vid).
              let fits = subst (IsOpenAtStage (opened_in session so_far.node.sessions)) at
              (all req (record { session = session; course = Commanding op }) there) in
              let apart = other_disk task task_has fits disk opened lock in
              inl (lock_with log so_far.node.outbox node.me session (epoch_of read) disk.inode.vid (so_far.node.outbox ++ unlock ∷ [])
              (kept_elsewhere node.me session vid.0 session disk.inode.vid so_far.node.outbox apart lock.kept) lock))
              (λ (goes : IsLetGo (tree.remove so_far.node.requests req) session disk.inode.vid).
              absurd (none_left goes.req goes.request goes.there (ap is_command goes.command) goes.of)) is,
        )

    own_yet : (disk : Disk) → disk_of session so_far.node.sessions ≡ Some disk → disk.snapshot ≡ false
        → HasLockYet log node.me session (epoch_of read) disk.inode.vid
    own_yet disk opened working = by_kind disk.snapshot working (gone_has.disks session disk opened)
      where
        by_kind : (b : Bool) → b ≡ false
            → IsDiskKept log so_far.node.outbox read node.me (tree.remove so_far.node.requests req) session b disk.inode
            → HasLockYet log node.me session (epoch_of read) disk.inode.vid
        by_kind true working is = absurd (cc (working))
        by_kind false working (named, is) = ⊎_elim
            (λ (lock : HasLock log so_far.node.outbox node.me session (epoch_of read) disk.inode.vid).
            lock_yet log so_far.node.outbox node.me session (epoch_of read) disk.inode.vid lock)
            (λ (goes : IsLetGo (tree.remove so_far.node.requests req) session disk.inode.vid).
            absurd (none_left goes.req goes.request goes.there (ap is_command goes.command) goes.of)) is

    unlocked_has : HasClaims log (so_far.node.outbox ++ unlock_of node.me session vid.0 ∷ []) read from node.me
        (tree.remove so_far.node.requests req)
        so_far.node.sessions
    unlocked_has =
        unlocked_claims log read from node.me so_far.node.outbox gone so_far.node.sessions session vid.0 (may_unlock task task_has)
        (unpublished read unread input node meets log from reads so_far.node.outbox gone so_far.node.sessions gone_has unlock
        (λ s opened made never. never)) (λ q request other got command of. absurd (none_left q request got (ap is_command command) of))
        own_disk own_yet gone_has

  -- what a refusal leaves
  refused_kept : (session req : ℕ) (cause : Cause) (course : Course) (so_far : StepState)
      → tree.get so_far.node.requests req ≡ Some (record { session = session; course = course }) → Is so_far → AreOpenSoFar so_far
      → Has so_far
      → Has (course_refused session req cause course so_far)
  unfolding on_refusal request_ended
  refused_kept session req cause (Waiting ask) so_far there so all has = has
  refused_kept session req cause (Driving driver) so_far there so all has =
      ended_kept session req (Refused cause) so_far
      (plain_there_lets read unread input node meets log from reads so_far.node.requests session req (Driving driver) refl there) has
  refused_kept session req cause (Commanding op) so_far there so all has = by_stage op.stage refl
    where
      unfolding_end : (stage : OpStage) → op.stage ≡ stage → on_refusal cause op ≡ refused_at cause op stage
      unfolding_end stage at = ap (refused_at cause op) at

      own : IsSessionsCommand (log_effects read) node.me session op
      own = so.commands.own req (record { session = session; course = Commanding op }) there

      given_back : (vid : Vid) (task : Task) → op.stage ≡ Working vid task
          → Has (command_refused session req (refused_at cause op (Working vid task)) so_far)
      given_back vid task at =
          subst (λ (put : Entry). HasClaims log (so_far.node.outbox ++ put ∷ []) read from node.me (tree.remove so_far.node.requests req)
          (request_ended session req (Refused cause) so_far).node.sessions)
          (λ i. unlock_of (sym own.by i) (sym own.of i) vid.0)
          (one_alike log read from node.me (so_far.node.outbox ++ unlock_of node.me session vid.0 ∷ [])
          (tree.remove so_far.node.requests req) so_far.node.sessions session _ refl
          (unlocked_has so_far so all has session req op vid task there at))

      by_stage : (stage : OpStage) → op.stage ≡ stage → Has (command_refused session req (on_refusal cause op) so_far)
      by_stage (Asked entry) at =
          subst (λ (end : Option OpEnd). Has (command_refused session req end so_far)) (sym (unfolding_end (Asked entry) at)) has
      by_stage (Working vid task) at =
          subst (λ (end : Option OpEnd). Has (command_refused session req end so_far)) (sym (unfolding_end (Working vid task) at))
          (given_back vid task at)
      by_stage (Publishing entry made) at =
          subst (λ (end : Option OpEnd). Has (command_refused session req end so_far)) (sym (unfolding_end (Publishing entry made) at)) has
      by_stage (Answered change) at =
          subst (λ (end : Option OpEnd). Has (command_refused session req end so_far)) (sym (unfolding_end (Answered change) at)) has
  refused_kept session req cause (Checking check) so_far there so all has =
      ended_kept session req (Refused cause) so_far
      (plain_there_lets read unread input node meets log from reads so_far.node.requests session req (Checking check) refl there) has
  refused_kept session req cause (DoingWork work) so_far there so all has =
      ended_kept session req (Refused cause) so_far
      (plain_there_lets read unread input node meets log from reads so_far.node.requests session req (DoingWork work) refl there) has
  refused_kept session req cause (AwaitingDecision entry) so_far there so all has = has

  refused_if_there_kept : (req : ℕ) (cause : Cause) (request : Option Request) (so_far : StepState)
      → tree.get so_far.node.requests req ≡ request
      → Is so_far → AreOpenSoFar so_far → Has so_far
      → Has (option_map_or (λ (request : Request). course_refused request.session req cause request.course so_far) request so_far)
  refused_if_there_kept req cause None so_far there so all has = has
  refused_if_there_kept req cause (Some request) so_far there so all has =
      refused_kept request.session req cause request.course so_far there so all has

  -- ---- each change

  next_kept : (so_far : StepState) (session req : ℕ) (asked : Work) (lined : StepState)
      → WorkIsNext input node so_far session req asked lined
      → Is so_far → AreOpenSoFar so_far → Has so_far → Has lined
  next_kept so_far session req asked lined (AtOnce work moved steps begins) so all has =
      one_alike log read from node.me moved.node.outbox moved.node.requests moved.node.sessions session _ refl
      (steps_kept read unread input node meets log from reads so_far session req (ToWork work) moved steps so all has).0
  next_kept so_far session req asked lined (InTurn work later none is) so all has =
      one_alike log read from node.me so_far.node.outbox so_far.node.requests so_far.node.sessions session _ refl has
  next_kept so_far session req asked lined (Again work course from_input next there request) so all has = has
  next_kept so_far session req asked lined (AgainAlone work from_input next there none) so all has = has

  change_kept : (so_far next : StepState) → Change input node so_far next → Is so_far → AreOpenSoFar so_far → Has so_far → Has next
  change_kept so_far next (changes.Marks req number work attempt status learns over) so all has = has
  change_kept so_far next (changes.Fails session req number work attempt status course ends done why) so all has = has
  change_kept so_far next (changes.Stops session req number work attempt status course bytes ends over) so all has =
      freed_kept read unread input node meets log from reads session req work status so_far has
  change_kept so_far next (changes.Refuses session req number work attempt status course cause ends done why) so all has =
      let freed = without_ended_work session req work status so_far in
      refused_kept session req cause course freed ends.request so
      (one_open so_far.node.requests so_far.node.sessions session _ refl all)
      (freed_kept read unread input node meets log from reads session req work status so_far has)
  change_kept so_far next (changes.Opens session req asked lined comes short) so all has =
      next_kept so_far session req asked lined comes so all has
  change_kept so_far next (changes.Holds session req asked lined comes short touched) so all has =
      next_kept so_far session req asked lined comes so all has
  change_kept so_far next (changes.Denies session req asked lined request comes short untouched there own) so all has =
      let freed = without_denied_work session req asked lined in
      refused_if_there_kept req (Halt (zones_of_members lined.node) (zones_for asked.work)) request freed there
      (next_awaited read unread input node meets so_far session req asked lined comes so)
      (one_open lined.node.requests lined.node.sessions session _ refl
      (next_open read unread input node meets so_far session req asked lined comes so all))
      (one_alike log read from node.me lined.node.outbox lined.node.requests lined.node.sessions session _ refl
      (next_kept so_far session req asked lined comes so all has))
  change_kept so_far next (changes.Strays req work gateway there none apart) so all has = has
  change_kept so_far next (changes.Lines session req work moved steps waits) so all has =
      one_alike log read from node.me moved.node.outbox moved.node.requests moved.node.sessions session _ refl
      (steps_kept read unread input node meets log from reads so_far session req (ToWork work) moved steps so all has).0
  change_kept so_far next (changes.Appends session req entry moved steps) so all has =
      (steps_kept read unread input node meets log from reads so_far session req (ToEntry entry) moved steps so all has).1
  change_kept so_far next (changes.Replies session req reply moved steps) so all has =
      let took = steps_kept read unread input node meets log from reads so_far session req (ToReply reply) moved steps so all has in
      ended_kept session req reply moved took.1 took.0
  change_kept so_far next (changes.Arrives session req ask disk arrival on) so all has =
      one_alike log read from node.me so_far.node.outbox (tree.insert so_far.node.requests req
      (record { session = session; course = Waiting ask })) so_far.node.sessions session _ refl
      (plain_kept read unread input node meets log from reads so_far.node.outbox so_far.node.requests so_far.node.sessions has session req
      (Waiting ask) refl (arrived_lets read unread input node meets log from reads so_far session req (asks.Disk ask) arrival))
  change_kept so_far next (changes.Rejects session req ask cause arrival) so all has = has
  change_kept so_far next (changes.Recovers due) so all has =
      let last = Recovered so_far.node.me (record { 0 = so_far.node.recovery.epoch }) in
      more_claims log read from node.me so_far.node.outbox so_far.node.requests so_far.node.sessions last (λ session vid. refl)
      (unpublished read unread input node meets log from reads so_far.node.outbox so_far.node.requests so_far.node.sessions has last
      (λ session opened made never. never)) has

  pub record Together (so_far : StepState) : Type 0 where
    pub awaited : AreAwaitedSoFar read node.me unread (entry_of_input input) so_far
    pub fits : AreOpenSoFar so_far
    pub claims : HasSoFar read unread input node meets log from reads so_far

  pub chain_kept : {first so_far : StepState} → Leads input node first so_far → Together first → Together so_far
  chain_kept leads is = kept_by_chain Together
      (λ so_far next change now. record {
        awaited = change_awaited read unread input node meets so_far next change now.awaited;
        fits = change_open read unread input node meets so_far next change now.awaited now.fits;
        claims = change_kept so_far next change now.awaited now.fits now.claims;
      }) leads is
