-- A node puts the first entry of its outbox: what its sessions rest on they have still, and what the entry was granted they have then.
use Rattle.std.proofs.Common.{◌≡◌, ◌≢◌, inl, inr, ⊎_elim, ℕ, ◌+◌, ◌≤◌, ◌==◌, Bool, true, false, ◌&&◌, ◌||◌, List, [], ◌∷◌, ◌++◌, All}
use Rattle.std.proofs.Common.{Option, Some, None, refl, sym, ap, subst, ◌∙◌, arith}
use Rattle.std.specs.List.{list_any}
use Rattle.std.specs.FinMap as tree
use Rattle.std.proofs.lemmas.Bool.{both_ways, and_from, and_parts, eq-eqb, eqb-true, or_parts}
use Rattle.std.proofs.lemmas.List.Elements.{All-head, All-tail}
use Rattle.std.proofs.lemmas.Option.{same_Some}
use Rattle.object_id.specs.declared.entry.Entry.{Entry}
use Rattle.object_id.specs.declared.entry.Entry.TheVariants.{Format, Join, Leave, Reweight, Recovered, Reserve, Publish, Clone, Snapshot}
use Rattle.object_id.specs.declared.entry.Entry.TheVariants.{Delete, Lock, Unlock}
use Rattle.object_id.specs.declared.entry.Origin.{Origin}
use Rattle.object_id.specs.declared.entry.Origin.TheVariants.{Fresh, SnapshotOf, CloneOf}
use Rattle.object_id.specs.declared.node.NodeId.{NodeId}
use Rattle.object_id.specs.declared.oid.Vid.{Vid}
use Rattle.object_id.specs.Same.{is_same_entry}
use Rattle.epoch_log.specs.Epochs.{epoch_of}
use Rattle.disk_lock.specs.declared.holder.Holder.{Holder}
use Rattle.vdi_directory.specs.declared.decision.Decision.TheVariants as decisions
use Rattle.vdi_directory.specs.Decisions.{log_effects, decision_after}
use Rattle.vdi_directory.specs.Effects.{reservations_of, reservation_on, holder_of}
use Rattle.guest_driver.specs.declared.disk.Disk.{Disk}
use Rattle.vdi_ops.specs.Entries.{unlock_of}
use Rattle.vdi_ops.specs.Op.{OpStage, Asked, Working, Publishing, Answered, Op}
use Rattle.sheep_node.specs.declared.course.Course.TheVariants.{Commanding}
use Rattle.sheep_node.specs.declared.course.Request.{Request}
use Rattle.sheep_node.specs.OwnEntries.{IsEntryOf}
use Rattle.overlap_law.specs.AwaitedEntries.{IsSessionsEntry, IsSessionsStage, IsSessionsCommand}
use Rattle.overlap_law.specs.CommandDisks.{opened_as, opened_in}
use Rattle.overlap_law.specs.Grants.{granted_in, writer_of, may_take_writer}
use Rattle.overlap_law.specs.WriterClaims.{holder_at, LetsGo, HasLock, HasReservation, HasPlace, IsGivenNoMore, IsGrantKept, IsStageKept}
use Rattle.overlap_law.specs.WriterClaims.{IsLetGo, IsDiskKept, IsHeldYet, IsUnlockKept, HasClaims}
use Rattle.overlap_law.specs.Writers.{unlocks}
use Rattle.overlap_law.proofs.AwaitedChanges.{Requests}
use Rattle.overlap_law.proofs.ClaimChanges.{Sessions, disk_of}
use Rattle.overlap_law.proofs.ClaimTransport.{KeepsAll, PutsNoMore, TakesNone, GivesStage, GivesReplaced, stage_over, disk_over, stage_on}
use Rattle.overlap_law.proofs.ClaimTransport.{disk_on}
use Rattle.overlap_law.proofs.CountedEntries.{times, once_if, times-cons, itself}
use Rattle.overlap_law.proofs.GrantedIds.{IsFree, in_place, lock_given, locked_was_free, snapshot_given, reservation_given}
use Rattle.overlap_law.proofs.KeptIds.{no_more_stays, not_taken, yet-writer, yet-given, yet_stays}
use Rattle.overlap_law.proofs.WriterChanges.{entry_keeps_writer}

-- what a node's own unlocks are by their session and id
own_unlock : (me : NodeId) (session vid : ℕ) (entry : Entry) → IsEntryOf me entry → unlocks session vid entry ≡ true → entry ≡ unlock_of me session vid
own_unlock me session vid (Format members) own is = absurd own
own_unlock me session vid (Join node zone vnodes) own is = absurd own
own_unlock me session vid (Leave node) own is = absurd own
own_unlock me session vid (Reweight node vnodes) own is = absurd own
own_unlock me session vid (Recovered node epoch) own is = absurd (cc (is))
own_unlock me session vid (Reserve by of name origin) own is = absurd (cc (is))
own_unlock me session vid (Publish by of) own is = absurd (cc (is))
own_unlock me session vid (Clone by of) own is = absurd (cc (is))
own_unlock me session vid (Snapshot by old of) own is = absurd (cc (is))
own_unlock me session vid (Delete by of name tag) own is = absurd (cc (is))
own_unlock me session vid (Lock by of name tag) own is = absurd (cc (is))
own_unlock me session vid (Unlock by of id) own is =
    let (session_so, id_so) = and_parts (of == session) (id.0 == vid) is in
    λ i. Unlock (own i) (eqb-true of session session_so i) (record { 0 = eqb-true id.0 vid id_so i })

-- an outbox with an unlock of a session's id has that of its own
some_unlock : (me : NodeId) (session vid : ℕ) (outbox : List Entry) → All (IsEntryOf me) outbox → list_any (unlocks session vid) outbox ≡ true
    → 1 ≤ times (unlock_of me session vid) outbox
some_unlock me session vid [] own is = absurd (cc (is))
some_unlock me session vid (first ∷ later) own is =
    by_test (unlocks session vid first) refl is (some_unlock me session vid later (All-tail (IsEntryOf me) first later own))
  where
    by_test : (b : Bool) → unlocks session vid first ≡ b → (b || list_any (unlocks session vid) later) ≡ true
        → (list_any (unlocks session vid) later ≡ true → 1 ≤ times (unlock_of me session vid) later)
        → 1 ≤ times (unlock_of me session vid) (first ∷ later)
    by_test true unlocks_it any there =
        let same : first ≡ unlock_of me session vid = own_unlock me session vid first (All-head (IsEntryOf me) first later own) unlocks_it in
        let one : times (unlock_of me session vid) (first ∷ later) ≡ 1 + times (unlock_of me session vid) later
        = times-cons (unlock_of me session vid) first later
        ∙ ap (λ (e : Entry). once_if (is_same_entry (unlock_of me session vid) e) + times (unlock_of me session vid) later) same
        ∙ ap (λ (b : Bool). once_if b + times (unlock_of me session vid) later) (itself (unlock_of me session vid)) in
        omega (arith, one)
    by_test false other any there =
        let rest = there any in
        let all = times-cons (unlock_of me session vid) first later in
        omega (arith, rest, all)

module _ (log : List Entry) (last : Entry) (later read : List Entry) (from : ℕ) (me : NodeId) (requests : Requests) (sessions : Sessions)
    (own : All (IsEntryOf me) (last ∷ later)) (has : HasClaims log (last ∷ later) read from me requests sessions) where
  -- ---- the rest of the outbox

  pub kept_tail : (session : ℕ) → KeepsAll session (last ∷ later) later
  kept_tail session vid kept = (or_parts (unlocks session vid last) (list_any (unlocks session vid) later) kept).1

  fewer : (entry : Entry) → times entry later ≤ times entry (last ∷ later)
  fewer entry = let all = times-cons entry last later in omega (arith, all)

  pub no_more_tail : (stage : OpStage) → PutsNoMore (last ∷ later) later stage
  no_more_tail stage entry made at there = let few = fewer entry in omega (arith, few, there)

  pub here_once : 1 ≤ times last (last ∷ later)
  here_once =
      let all : times last (last ∷ later) ≡ 1 + times last later
      = times-cons last last later ∙ ap (λ (b : Bool). once_if b + times last later) (itself last) in
      omega (arith, all)

  -- an id that nobody has and that may be given has no unlock there
  pub kept_free : (session vid : ℕ) → IsFree log vid → list_any (unlocks session vid) (last ∷ later) ≡ false
  kept_free session vid free = by_test (list_any (unlocks session vid) (last ∷ later)) refl
    where
      by_test : (b : Bool) → list_any (unlocks session vid) (last ∷ later) ≡ b → list_any (unlocks session vid) (last ∷ later) ≡ false
      by_test true some = absurd (⊎_elim
          (λ (gone : IsGivenNoMore log vid). let early = free.early in omega (arith, early, gone))
          (λ (writes : (writer_of (log_effects log) vid ≡ Some (holder_at me session)) × (times (unlock_of me session vid) (last ∷ later) ≤ 1)).
          none_writes (sym free.nobodys ∙ writes.0))
          (has.unlocked session vid (some_unlock me session vid (last ∷ later) own some)))
        where
          none_writes : None ≡ Some (holder_at me session) → ⊥
          none_writes is = cc (is)
      by_test false none = none

  -- the unlocks that are left, where the entry takes none of their ids
  module _ (spares : (session vid : ℕ) → writer_of (log_effects log) vid ≡ Some (holder_at me session) → 1 ≤ times (unlock_of me session vid) later
      → times (unlock_of me session vid) (last ∷ later) ≤ 1 → may_take_writer vid (holder_at me session) last ≡ false) where
    pub unlocked_later : (session vid : ℕ) → 1 ≤ times (unlock_of me session vid) later
        → IsUnlockKept (log ++ last ∷ []) me session vid (times (unlock_of me session vid) later)
    unlocked_later session vid there = ⊎_elim
        (λ (gone : IsGivenNoMore log vid). inl (no_more_stays log last vid gone))
        (λ (writes : (writer_of (log_effects log) vid ≡ Some (holder_at me session)) × (times (unlock_of me session vid) (last ∷ later) ≤ 1)).
        let few = fewer (unlock_of me session vid) in
        let most = writes.1 in
        inr (
          entry_keeps_writer log last vid (holder_at me session) writes.0
              (not_taken log last vid (holder_at me session) writes.0 (spares session vid writes.0 there most)),
          omega (arith, few, most),
        ))
        (has.unlocked session vid (let few = fewer (unlock_of me session vid) in omega (arith, few, there)))

    -- a disk whose unlock is among those
    pub held_yet_later : (session : ℕ) (disk : Disk) → disk_of session sessions ≡ Some disk → IsHeldYet (log ++ last ∷ []) later read me session disk
    held_yet_later session disk opened working there =
        let few = fewer (unlock_of me session disk.inode.vid) in
        let some : 1 ≤ times (unlock_of me session disk.inode.vid) (last ∷ later) = omega (arith, few, there) in
        let yet = has.held_yet session disk opened working some in
        let most : times (unlock_of me session disk.inode.vid) (last ∷ later) ≤ 1
        = ⊎_elim
        (λ (gone : IsGivenNoMore log disk.inode.vid). absurd (yet-given log me session (epoch_of read) disk.inode.vid yet gone))
        (λ (writes : (writer_of (log_effects log) disk.inode.vid ≡ Some (holder_at me session))
        × (times (unlock_of me session disk.inode.vid) (last ∷ later) ≤ 1)). writes.1)
        (has.unlocked session disk.inode.vid some) in
        yet_stays log me session (epoch_of read) disk.inode.vid yet last
        (spares session disk.inode.vid (yet-writer log me session (epoch_of read) disk.inode.vid yet) there most)

    -- ---- an entry that takes nothing from who has no unlock to put

    module _ (none : (session : ℕ) → TakesNone log (last ∷ later) me session last)
        (gives : (req : ℕ) (request : Request) (op : Op) → tree.get requests req ≡ Some request → request.course ≡ Commanding op
        → GivesStage log (last ∷ later) read from me request.session last (none request.session) (opened_in request.session sessions) op.stage) where
      pub plain_put : HasClaims (log ++ last ∷ []) later read from me requests sessions
      plain_put = record {
        unlocked = unlocked_later;
        commands = λ req request op there command.
            stage_over (log ++ last ∷ []) (last ∷ later) later read from me request.session (kept_tail request.session)
            (opened_in request.session sessions) op.stage (no_more_tail op.stage)
            (stage_on log (last ∷ later) read from me request.session last (none request.session) (opened_in request.session sessions) op.stage
            (gives req request op there command) (has.commands req request op there command));
        disks = λ session disk opened.
            disk_over (log ++ last ∷ []) (last ∷ later) later read from me session (kept_tail session) requests disk.snapshot disk.inode
            (disk_on log (last ∷ later) read from me session last (none session) requests disk.snapshot disk.inode (has.disks session disk opened));
        held_yet = held_yet_later;
      }

  -- ---- an unlock, and what is neither granted an id nor publishes one

  -- what takes nothing from whoever has no unlock to put
  abbrev TakesNothing : Type 0
  TakesNothing = (vid : ℕ) (writer : Holder) → may_take_writer vid writer last ≡ false

  pub nothing_spared : TakesNothing → (session vid : ℕ) → writer_of (log_effects log) vid ≡ Some (holder_at me session)
      → 1 ≤ times (unlock_of me session vid) later → times (unlock_of me session vid) (last ∷ later) ≤ 1 → may_take_writer vid (holder_at me session) last ≡ false
  nothing_spared nothing session vid writer there most = nothing vid (holder_at me session)

  nothing_taken : TakesNothing → (session : ℕ) → TakesNone log (last ∷ later) me session last
  nothing_taken nothing session vid writer kept = nothing vid (holder_at me session)

  -- the session's disk is locked, where its command waits for this reservation
  module _ (req : ℕ) (request : Request) (op : Op) (there : tree.get requests req ≡ Some request) (command : request.course ≡ Commanding op)
      (sole : (other : ℕ) (second : Request) (second_op : Op) → tree.get requests other ≡ Some second → second.course ≡ Commanding second_op
      → second.session ≡ request.session → other ≡ req) where
    locked_disk : (name : List ℕ) (by : NodeId) (of : ℕ) (tag : List ℕ) → op.stage ≡ Asked (Reserve by of name (SnapshotOf tag)) → (old : ℕ)
        → opened_in request.session sessions ≡ Some (false, old) → HasLock log (last ∷ later) me request.session (epoch_of read) old
    locked_disk name by of tag at old opened = by_disk (disk_of request.session sessions) refl opened
      where
        -- the command lets no disk go
        none_goes : (vid : ℕ) → IsLetGo requests request.session vid → ⊥
        none_goes vid goes =
            let same : goes.req ≡ req = sole goes.req goes.request goes.op goes.there goes.command goes.of in
            let one : request ≡ goes.request = same_Some request goes.request (sym there ∙ ap (tree.get requests) (sym same) ∙ goes.there) in
            let course : Commanding op ≡ Commanding goes.op = sym command ∙ ap (λ (r : Request). r.course) one ∙ goes.command in
            let its : op ≡ goes.op = cc (course) in
            subst (LetsGo vid) (sym (ap (λ (o : Op). o.stage) its) ∙ at) goes.lets

        by_disk : (disk : Option Disk) → disk_of request.session sessions ≡ disk → opened_as disk ≡ Some (false, old)
            → HasLock log (last ∷ later) me request.session (epoch_of read) old
        by_disk None got opened = absurd (cc (opened))
        by_disk (Some disk) got opened =
            let both : (disk.snapshot, disk.inode.vid) ≡ (false, old) = same_Some (disk.snapshot, disk.inode.vid) (false, old) opened in
            by_kind (subst (λ (b : Bool). IsDiskKept log (last ∷ later) read me requests request.session b disk.inode)
            (ap (λ (p : Bool × ℕ). p.0) both) (has.disks request.session disk got)) (ap (λ (p : Bool × ℕ). p.1) both)
          where
            by_kind : IsDiskKept log (last ∷ later) read me requests request.session false disk.inode → disk.inode.vid ≡ old
                → HasLock log (last ∷ later) me request.session (epoch_of read) old
            by_kind (named, is) id = subst (λ (v : ℕ). HasLock log (last ∷ later) me request.session (epoch_of read) v) id
                (⊎_elim (λ (lock : HasLock log (last ∷ later) me request.session (epoch_of read) disk.inode.vid). lock)
                (λ (goes : IsLetGo requests request.session disk.inode.vid). absurd (none_goes disk.inode.vid goes)) is)

    -- what a first entry was granted is its session's
    module _ (wanted : Entry) (at : op.stage ≡ Asked wanted) (same : last ≡ wanted) (vid : Vid)
        (granted : decision_after log wanted ≡ decisions.Granted vid) where
      abbrev longer : List Entry
      longer = log ++ last ∷ []

      its_lock : (name : List ℕ) → wanted ≡ Lock me request.session name None → HasLock (log ++ last ∷ []) (last ∷ later) me request.session
          (epoch_of (log ++ last ∷ [])) vid.0
      its_lock name so =
          let put : last ≡ Lock me request.session name None = same ∙ so in
          let now = ap (λ (e : Entry). decision_after log e) (sym so) ∙ granted in
          let given = lock_given log me request.session name vid now in
          record {
            held = ap (λ (e : Entry). holder_of (log_effects (log ++ e ∷ [])) vid.0) put ∙ given.held;
            kept = kept_free request.session vid.0 (locked_was_free log me request.session name vid now);
            since =
                let at_put : granted_in (log ++ last ∷ []) vid.0 ≡ epoch_of (log ++ last ∷ [])
                = ap (λ (e : Entry). granted_in (log ++ e ∷ []) vid.0) put ∙ given.since ∙ ap (λ (e : Entry). epoch_of (log ++ e ∷ [])) (sym put) in
                omega (arith, at_put);
          }

      its_reservation : (name : List ℕ) (origin : Origin) → wanted ≡ Reserve me request.session name origin
          → HasReservation (log ++ last ∷ []) (last ∷ later) me request.session (epoch_of (log ++ last ∷ [])) vid.0
      its_reservation name origin so =
          let put : last ≡ Reserve me request.session name origin = same ∙ so in
          let given = reservation_given log me request.session name origin vid (ap (λ (e : Entry). decision_after log e) (sym so) ∙ granted) in
          record {
            reservation = given.reservation;
            found = ap (λ (e : Entry). reservation_on vid (reservations_of (log_effects (log ++ e ∷ [])))) put ∙ given.found;
            own = given.own;
            kept = kept_free request.session vid.0 given.free;
            since =
                let at_put : granted_in (log ++ last ∷ []) vid.0 ≡ epoch_of (log ++ last ∷ [])
                = ap (λ (e : Entry). granted_in (log ++ e ∷ []) vid.0) put ∙ given.since ∙ ap (λ (e : Entry). epoch_of (log ++ e ∷ [])) (sym put) in
                omega (arith, at_put);
          }

      -- that for a snapshot is of the disk that is open
      its_place : (name tag : List ℕ) → wanted ≡ Reserve me request.session name (SnapshotOf tag)
          → (old : ℕ) × (opened_in request.session sessions ≡ Some (false, old))
          × HasPlace (log ++ last ∷ []) (last ∷ later) me request.session (epoch_of (log ++ last ∷ [])) vid.0 old
      unfolding its_reservation
      its_place name tag so =
          let asked = subst (IsStageKept log (last ∷ later) read from me request.session (opened_in request.session sessions)) (at ∙ ap Asked so)
          (has.commands req request op there command) in
          let (old, opened, named) = asked.for_disk in
          let given = reservation_given log me request.session name (SnapshotOf tag) vid (ap (λ (e : Entry). decision_after log e) (sym so) ∙ granted) in (
            old,
            opened,
            record {
              has = its_reservation name (SnapshotOf tag) so;
              place =
                  in_place log (last ∷ later) me request.session (epoch_of read) old name tag given.reservation.source
                  (locked_disk name me request.session tag (at ∙ ap Asked so) old opened) named given.source;
            },
          )

  module _ (commands_own : (req : ℕ) (request : Request) (op : Op) → tree.get requests req ≡ Some request → request.course ≡ Commanding op
      → IsSessionsCommand (log_effects read) me request.session op)
      (apart : (one other : ℕ) (first second : Request) (first_op second_op : Op) → tree.get requests one ≡ Some first
      → tree.get requests other ≡ Some second → first.course ≡ Commanding first_op → second.course ≡ Commanding second_op
      → first.session ≡ second.session → one ≡ other) where
    -- ---- what the entry gives, if it is no snapshot

    module _ (unsnapped : (by : NodeId) (old of : Vid) → last ≢ Snapshot by old of) (none : (session : ℕ) → TakesNone log (last ∷ later) me session last)
        (req : ℕ) (request : Request) (op : Op) (there : tree.get requests req ≡ Some request) (command : request.course ≡ Commanding op) where
      sole_here : (other : ℕ) (second : Request) (second_op : Op) → tree.get requests other ≡ Some second → second.course ≡ Commanding second_op
          → second.session ≡ request.session → other ≡ req
      sole_here other second second_op got second_command of = apart other req second request second_op op got there second_command command of

      abbrev GivesFor : Vid → Entry → Type 0
      GivesFor vid wanted =
          IsGrantKept (log ++ last ∷ []) (last ∷ later) read from me request.session (opened_in request.session sessions)
          (epoch_of (log ++ last ∷ [])) vid.0 wanted

      asked_gives : (wanted : Entry) → op.stage ≡ Asked wanted → last ≡ wanted → (vid : Vid) → decision_after log wanted ≡ decisions.Granted vid
          → IsSessionsEntry (log_effects read) me request.session wanted → GivesFor vid wanted
      asked_gives (Format members) at same vid granted own = tt
      asked_gives (Join node zone vnodes) at same vid granted own = tt
      asked_gives (Leave node) at same vid granted own = tt
      asked_gives (Reweight node vnodes) at same vid granted own = tt
      asked_gives (Recovered node epoch) at same vid granted own = tt
      asked_gives (Reserve by of name (Fresh spec)) at same vid granted (by_so, of_so) =
          its_reservation req request op there command sole_here (Reserve by of name (Fresh spec)) at same vid granted name (Fresh spec)
          (λ i. Reserve (by_so i) (of_so i) name (Fresh spec))
      asked_gives (Reserve by of name (SnapshotOf tag)) at same vid granted (by_so, of_so) =
          its_place req request op there command sole_here (Reserve by of name (SnapshotOf tag)) at same vid granted name tag
          (λ i. Reserve (by_so i) (of_so i) name (SnapshotOf tag))
      asked_gives (Reserve by of name (CloneOf base tag)) at same vid granted (by_so, of_so) =
          its_reservation req request op there command sole_here (Reserve by of name (CloneOf base tag)) at same vid granted name (CloneOf base tag)
          (λ i. Reserve (by_so i) (of_so i) name (CloneOf base tag))
      asked_gives (Publish by of) at same vid granted own = tt
      asked_gives (Clone by of) at same vid granted own = tt
      asked_gives (Snapshot by old of) at same vid granted own = tt
      asked_gives (Delete by of name tag) at same vid granted own = tt
      asked_gives (Lock by of name None) at same vid granted (by_so, of_so) =
          its_lock req request op there command sole_here (Lock by of name None) at same vid granted name (λ i. Lock (by_so i) (of_so i) name None)
      asked_gives (Lock by of name (Some tag)) at same vid granted own =
          no_more_stays log last vid.0 (snapshot_given log by of name tag vid granted)
      asked_gives (Unlock by of id) at same vid granted own = tt

      published_gives : (entry : Entry) → GivesReplaced log (last ∷ later) read from me request.session last (none request.session)
          (opened_in request.session sessions) entry
      published_gives (Format members) = tt
      published_gives (Join node zone vnodes) = tt
      published_gives (Leave node) = tt
      published_gives (Reweight node vnodes) = tt
      published_gives (Recovered node epoch) = tt
      published_gives (Reserve by of name origin) = tt
      published_gives (Publish by of) = tt
      published_gives (Clone by of) = tt
      published_gives (Snapshot by old of) = λ same. absurd (unsnapped by old of same)
      published_gives (Delete by of name tag) = tt
      published_gives (Lock by of name tag) = tt
      published_gives (Unlock by of id) = tt

      plain_gives : GivesStage log (last ∷ later) read from me request.session last (none request.session) (opened_in request.session sessions) op.stage
      plain_gives = by_stage op.stage refl (commands_own req request op there command).stage
        where
          by_stage : (stage : OpStage) → op.stage ≡ stage → IsSessionsStage (log_effects read) me request.session stage
              → GivesStage log (last ∷ later) read from me request.session last (none request.session) (opened_in request.session sessions) stage
          by_stage (Asked wanted) at own = λ same vid granted. asked_gives wanted at same vid granted own
          by_stage (Working vid task) at own = tt
          by_stage (Publishing entry made) at own = published_gives entry
          by_stage (Answered change) at own = tt

    -- what takes nothing
    pub nothing_put : ((by : NodeId) (old of : Vid) → last ≢ Snapshot by old of) → TakesNothing → HasClaims (log ++ last ∷ []) later read from me requests sessions
    nothing_put unsnapped nothing =
        plain_put (nothing_spared nothing) (nothing_taken nothing)
        (λ req request op there command. plain_gives unsnapped (nothing_taken nothing) req request op there command)

    -- the session's own unlock
    module _ (by : NodeId) (of : ℕ) (id : Vid) (unlocks_it : last ≡ Unlock by of id) where
      -- by whom and of what it is
      taken_so : (vid session : ℕ) → may_take_writer vid (holder_at me session) (Unlock by of id) ≡ true → (of ≡ session) × (id.0 ≡ vid)
      taken_so vid session takes =
          let (here, whose) = and_parts (id.0 == vid) (me.0 == by.0 && session == of) takes in
          (sym (eqb-true session of (and_parts (me.0 == by.0) (session == of) whose).1), eqb-true id.0 vid here)

      unlock_taken : (session : ℕ) → TakesNone log (last ∷ later) me session last
      unlock_taken session vid writer kept = by_test (may_take_writer vid (holder_at me session) last) refl
        where
          by_test : (b : Bool) → may_take_writer vid (holder_at me session) last ≡ b → may_take_writer vid (holder_at me session) last ≡ false
          by_test true takes =
              let (number, vid_so) = taken_so vid session (ap (may_take_writer vid (holder_at me session)) (sym unlocks_it) ∙ takes) in
              let is : unlocks session vid last ≡ true
              = ap (unlocks session vid) unlocks_it ∙ and_from (of == session) (id.0 == vid) (eq-eqb of session number) (eq-eqb id.0 vid vid_so) in
              let other = (or_parts (unlocks session vid last) (list_any (unlocks session vid) later) kept).0 in
              absurd (both_ways (unlocks session vid last) other is)
          by_test false spares = spares

      unlock_spared : (session vid : ℕ) → writer_of (log_effects log) vid ≡ Some (holder_at me session) → 1 ≤ times (unlock_of me session vid) later
          → times (unlock_of me session vid) (last ∷ later) ≤ 1 → may_take_writer vid (holder_at me session) last ≡ false
      unlock_spared session vid writer there most = by_test (may_take_writer vid (holder_at me session) last) refl
        where
          by_test : (b : Bool) → may_take_writer vid (holder_at me session) last ≡ b → may_take_writer vid (holder_at me session) last ≡ false
          by_test true takes =
              let (number, vid_so) = taken_so vid session (ap (may_take_writer vid (holder_at me session)) (sym unlocks_it) ∙ takes) in
              let whose : by ≡ me = subst (IsEntryOf me) unlocks_it (All-head (IsEntryOf me) last later own) in
              let same : last ≡ unlock_of me session vid = unlocks_it ∙ (λ i. Unlock (whose i) (number i) (record { 0 = vid_so i })) in
              let all : times (unlock_of me session vid) (last ∷ later) ≡ 1 + times (unlock_of me session vid) later
              = times-cons (unlock_of me session vid) last later
              ∙ ap (λ (e : Entry). once_if (is_same_entry (unlock_of me session vid) e) + times (unlock_of me session vid) later) same
              ∙ ap (λ (b : Bool). once_if b + times (unlock_of me session vid) later) (itself (unlock_of me session vid)) in
              absurd (omega (arith, all, there, most))
          by_test false spares = spares

      pub unlock_put : HasClaims (log ++ last ∷ []) later read from me requests sessions
      unlock_put =
          plain_put unlock_spared unlock_taken
          (λ req request op there command. plain_gives (λ b old v same. not_snapshot b old v (sym unlocks_it ∙ same)) unlock_taken req request op there command)
        where
          not_snapshot : (b : NodeId) (old v : Vid) → Unlock by of id ≡ Snapshot b old v → ⊥
          not_snapshot b old v is = cc (is)
