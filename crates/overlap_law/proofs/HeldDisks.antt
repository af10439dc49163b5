-- A working disk that is open is its session's, or the session's command has let it go in the log: in each world of a run in range, and at
-- each moment on the way of its events.
use Rattle.std.proofs.Common.{◌≡◌, ◌⊎◌, inl, inr, ⊎_elim, ℕ, ◌+◌, ◌≤◌, Bool, true, false, ◌||◌, List, [], ◌∷◌, length, Option, Some}
use Rattle.std.proofs.Common.{unwrap_or, refl, ap, subst, ◌∙◌, arith}
use Rattle.std.specs.List.{list_any}
use Rattle.std.specs.FinMap as tree
use Rattle.object_id.specs.declared.entry.Entry.{Entry}
use Rattle.object_id.specs.declared.entry.Entry.TheVariants.{Format, Join, Leave, Reweight, Recovered, Reserve, Publish, Clone, Snapshot}
use Rattle.object_id.specs.declared.entry.Entry.TheVariants.{Delete, Lock, Unlock}
use Rattle.object_id.specs.declared.node.NodeId.{NodeId}
use Rattle.object_id.specs.declared.oid.Vid.{Vid}
use Rattle.object_id.specs.Same.{is_same_entry}
use Rattle.cluster_script.specs.declared.statement.Statement.{Statement}
use Rattle.epoch_log.specs.Epochs.{epoch_of}
use Rattle.inode.specs.Layout.{Content}
use Rattle.vdi_directory.specs.Decisions.{log_effects}
use Rattle.guest_driver.specs.declared.disk.Disk.{Disk}
use Rattle.vdi_ops.specs.Entries.{unlock_of}
use Rattle.vdi_ops.specs.Op.{OpStage, Asked, Working, Publishing, Answered, Op, entry_wanted, entry_wanted_at}
use Rattle.sheep_node.specs.declared.course.Course.TheVariants.{Commanding}
use Rattle.sheep_node.specs.declared.course.Request.{Request}
use Rattle.sheep_node.specs.declared.session.Session.{Session}
use Rattle.sheep_node.specs.SessionQueues.{session_among}
use Rattle.sheep_node.specs.State.{Node, new_session}
use Rattle.overlap_law.specs.AwaitedEntries.{IsSessionsStage, IsSessionsCommand}
use Rattle.overlap_law.specs.CommandDisks.{opened_in}
use Rattle.overlap_law.specs.Past.{MomentWithPast, run_with_past}
use Rattle.overlap_law.specs.MomentChanges.{MomentTrail, RunsAreInRange}
use Rattle.overlap_law.specs.Sessions.{lets_go, HoldsDisk, IsLettingGo, OpenDisksAreHeld}
use Rattle.overlap_law.specs.WriterClaims.{HasLock, HasLockYet, IsFirstEntry, IsPublicationKept, IsStageKept, LetsGoBy, LetsGo, IsLetGo}
use Rattle.overlap_law.specs.WriterClaims.{IsDiskKept, HasClaims}
use Rattle.overlap_law.proofs.AwaitedInRuns.{commands_sessions-in_run}
use Rattle.overlap_law.proofs.ClaimsInRuns.{claims-in_run}
use Rattle.overlap_law.proofs.CountedEntries.{times, once_if, times-cons}
use Rattle.overlap_law.proofs.GrantsOfCommands.{sound_along}
use Rattle.overlap_law.proofs.KeptIds.{lock_yet}
use Rattle.overlap_law.proofs.NoRecoveredDue.{began-with_past}
use Rattle.sheep_world.specs.RunsWithAsks.{Move}

-- an entry that stands in a list counts there
count_of_any : (entry : Entry) (list : List Entry) → list_any (is_same_entry entry) list ≡ true → 1 ≤ times entry list
count_of_any entry [] is = absurd (cc (is))
count_of_any entry (first ∷ later) is = by_test (is_same_entry entry first) refl is (count_of_any entry later)
  where
    by_test : (b : Bool) → is_same_entry entry first ≡ b → (b || list_any (is_same_entry entry) later) ≡ true
        → (list_any (is_same_entry entry) later ≡ true → 1 ≤ times entry later) → 1 ≤ times entry (first ∷ later)
    by_test true same any behind =
        let all : times entry (first ∷ later) ≡ 1 + times entry later
        = times-cons entry first later ∙ ap (λ (b : Bool). once_if b + times entry later) same in
        omega (arith, all)
    by_test false other any behind =
        let rest = behind any in
        let all = times-cons entry first later in
        omega (arith, rest, all)

module _ (log : List Entry) (n : ℕ) (node : Node) (own : node.me.0 ≡ n) (epoch_so : node.peer.epoch ≡ epoch_of node.peer.entries)
    (commands_own : (req : ℕ) (request : Request) (op : Op) → tree.get node.requests req ≡ Some request → request.course ≡ Commanding op
    → IsSessionsCommand (log_effects node.peer.entries) node.me request.session op)
    (has : HasClaims log node.outbox node.peer.entries (length node.peer.entries) node.me node.requests node.sessions) (number : ℕ)
    (disk : Disk)
    (opened : (session_among number node.sessions).disk ≡ Some disk) (working : disk.snapshot ≡ false) where
  abbrev Locked : Type 0
  Locked = HasLockYet log node.me number (epoch_of node.peer.entries) disk.inode.vid

  abbrev Held : Type 0
  Held = HoldsDisk log n number disk.inode.vid node ⊎ IsLettingGo node number

  holds : HasLockYet log node.me number (epoch_of node.peer.entries) disk.inode.vid → HoldsDisk log n number disk.inode.vid node
  holds yet = record {
    holder = yet.held ∙ ap (λ (k : ℕ). Some (record { node = record { 0 = k }; session = number })) own;
    read = let since = yet.since in omega (arith, since, epoch_so);
  }

  -- the session's command lets it go
  module _ (goes : IsLetGo node.requests number disk.inode.vid) where
    by_entry : (entry : Entry) → entry_wanted goes.op ≡ Some entry → lets_go entry ≡ true → (1 ≤ times entry node.outbox → Locked) → Held
    by_entry entry wanted lets locked = by_test (list_any (is_same_entry entry) node.outbox) refl
      where
        by_test : (b : Bool) → list_any (is_same_entry entry) node.outbox ≡ b → Held
        by_test true there = inl (holds (locked (count_of_any entry node.outbox there)))
        by_test false put = inr (record {
          req = goes.req;
          request = goes.request;
          op = goes.op;
          entry = entry;
          there = goes.there;
          own = goes.of;
          command = goes.command;
          wanted = wanted;
          lets = lets;
          put = put;
        })

    kept_at : (stage : OpStage) → goes.op.stage ≡ stage
        → IsStageKept log node.outbox node.peer.entries (length node.peer.entries) node.me goes.request.session
        (opened_in goes.request.session node.sessions) stage
    kept_at stage at =
        subst (IsStageKept log node.outbox node.peer.entries (length node.peer.entries) node.me goes.request.session
        (opened_in goes.request.session node.sessions)) at (has.commands goes.req goes.request goes.op goes.there goes.command)

    -- it is given back
    closes : (by : NodeId) (of : ℕ) (id : Vid) → goes.op.stage ≡ Asked (Unlock by of id) → id.0 ≡ disk.inode.vid → Held
    closes by of id at same =
        let is : (by ≡ node.me) × (of ≡ goes.request.session)
        = subst (IsSessionsStage (log_effects node.peer.entries) node.me goes.request.session) at
        (commands_own goes.req goes.request goes.op goes.there goes.command).stage in
        let session : of ≡ number = is.1 ∙ goes.of in
        let entry : Unlock by of id ≡ unlock_of node.me number disk.inode.vid = λ i. Unlock (is.0 i) (session i) (record { 0 = same i }) in
        by_entry (Unlock by of id) (ap entry_wanted_at at) refl
        (λ there. has.held_yet number disk opened working (subst (λ (e : Entry). 1 ≤ times e node.outbox) entry there))

    -- or becomes a snapshot
    taken : (by : NodeId) (old of : Vid) (made : Option Content) → goes.op.stage ≡ Publishing (Snapshot by old of) made
        → old.0 ≡ disk.inode.vid → Held
    taken by old of made at same =
        let kept = kept_at (Publishing (Snapshot by old of) made) at in
        by_entry (Snapshot by old of) (ap entry_wanted_at at) refl
        (λ there.
        subst (λ (v : ℕ). HasLockYet log node.me number (epoch_of node.peer.entries) v) same
        (subst (λ (s : ℕ). HasLockYet log node.me s (epoch_of node.peer.entries) old.0) goes.of
        (lock_yet log node.outbox node.me goes.request.session (epoch_of node.peer.entries) old.0 (kept.of_disk there))))

    asked : (entry : Entry) → goes.op.stage ≡ Asked entry → IsFirstEntry entry → LetsGoBy disk.inode.vid entry → Held
    asked (Format members) at first lets = absurd lets
    asked (Join of zone vnodes) at first lets = absurd lets
    asked (Leave of) at first lets = absurd lets
    asked (Reweight of vnodes) at first lets = absurd lets
    asked (Recovered of epoch) at first lets = absurd lets
    asked (Reserve by of name origin) at first lets = absurd lets
    asked (Publish by of) at first lets = absurd lets
    asked (Clone by of) at first lets = absurd lets
    asked (Snapshot by old of) at first lets = absurd first
    asked (Delete by of name tag) at first lets = absurd lets
    asked (Lock by of name tag) at first lets = absurd lets
    asked (Unlock by of id) at first lets = closes by of id at lets

    publishing : (entry : Entry) (made : Option Content) → goes.op.stage ≡ Publishing entry made
        → IsPublicationKept log node.outbox node.peer.entries (length node.peer.entries) node.me goes.request.session
        (opened_in goes.request.session node.sessions) entry made
        → LetsGoBy disk.inode.vid entry → Held
    publishing (Format members) made at is lets = absurd lets
    publishing (Join of zone vnodes) made at is lets = absurd lets
    publishing (Leave of) made at is lets = absurd lets
    publishing (Reweight of vnodes) made at is lets = absurd lets
    publishing (Recovered of epoch) made at is lets = absurd lets
    publishing (Reserve by of name origin) made at is lets = absurd lets
    publishing (Publish by of) made at is lets = absurd lets
    publishing (Clone by of) made at is lets = absurd lets
    publishing (Snapshot by old of) made at is lets = taken by old of made at lets
    publishing (Delete by of name tag) made at is lets = absurd lets
    publishing (Lock by of name tag) made at is lets = absurd lets
    publishing (Unlock by of id) made at is lets = absurd is

    let_held : Held
    let_held = by_stage goes.op.stage refl goes.lets
      where
        by_stage : (stage : OpStage) → goes.op.stage ≡ stage → LetsGo disk.inode.vid stage → Held
        by_stage (Asked entry) at lets = asked entry at (kept_at (Asked entry) at).first lets
        by_stage (Working vid task) at lets = absurd lets
        by_stage (Publishing entry made) at lets = publishing entry made at (kept_at (Publishing entry made) at) lets
        by_stage (Answered change) at lets = absurd lets

  pub disk_held : HoldsDisk log n number disk.inode.vid node ⊎ IsLettingGo node number
  disk_held = by_kind disk.snapshot working (has.disks number disk opened)
    where
      by_kind : (b : Bool) → b ≡ false → IsDiskKept log node.outbox node.peer.entries node.me node.requests number b disk.inode → Held
      by_kind true working is = absurd (cc (working))
      by_kind false working (named, is) = ⊎_elim
          (λ (lock : HasLock log node.outbox node.me number (epoch_of node.peer.entries) disk.inode.vid).
          inl (holds (lock_yet log node.outbox node.me number (epoch_of node.peer.entries) disk.inode.vid lock)))
          (λ (goes : IsLetGo node.requests number disk.inode.vid). let_held goes) is

module _ (script : List Statement) (range : RunsAreInRange script) where
  pub held-in_run : (events : List Move) (start moment : MomentWithPast) → run_with_past script events ≡ Some start
      → MomentTrail script start moment → OpenDisksAreHeld moment.world.log moment.world.hosts
  held-in_run events start moment is trail = record {
    each = λ n host there up number session disk got opened working.
        let read = ((sound_along script range start (began-with_past script events start is) trail).each n host there).read in
        disk_held moment.world.log n host.node read.own read.epoch_so
        ((commands_sessions-in_run script range events start moment is trail).each n host there up)
        ((claims-in_run script range events start moment is trail).each n host there up) number disk
        (ap (λ (o : Option Session). (unwrap_or o new_session).disk) got ∙ opened) working;
  }
