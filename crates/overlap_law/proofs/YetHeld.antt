-- A session that has its open disk yet after a change of a moment had it before: an entry gives a session a disk that it has open neither
-- by its own word nor by another's.
use Rattle.std.proofs.Common.{◌≡◌, ◌⊎◌, inl, inr, ⊎_elim, ℕ, ◌||◌, Bool, true, false, List, [], ◌∷◌, ◌++◌, Option, Some}
use Rattle.std.proofs.Common.{unwrap_or, refl, sym, ap, subst, ◌∙◌}
use Rattle.std.specs.FinMap as tree
use Rattle.std.proofs.lemmas.Bool.{both_ways, or_left, or_right}
use Rattle.std.proofs.lemmas.Option.{same_Some}
use Rattle.object_id.specs.declared.entry.Entry.{Entry}
use Rattle.object_id.specs.declared.entry.Entry.TheVariants.{Format, Join, Leave, Reweight, Recovered, Reserve, Publish, Clone, Snapshot}
use Rattle.object_id.specs.declared.entry.Entry.TheVariants.{Delete, Lock, Unlock}
use Rattle.cluster_script.specs.declared.statement.Statement.{Statement}
use Rattle.disk_lock.specs.declared.holder.Holder.{Holder}
use Rattle.epoch_log.specs.Epochs.{epoch_of}
use Rattle.guest_driver.specs.declared.disk.Disk.{Disk}
use Rattle.vdi_directory.specs.Decisions.{outcome, log_effects}
use Rattle.vdi_ops.specs.Op.{Asked, Working, Publishing, Answered, OpStage}
use Rattle.sheep_node.specs.AwaitedEntry.{waits_for_entry}
use Rattle.sheep_world.proofs.NodesByTheLog.{knows_its_number}
use Rattle.sheep_node.specs.SessionQueues.{command_in}
use Rattle.sheep_node.specs.declared.course.Course.TheVariants.{Commanding}
use Rattle.sheep_node.specs.declared.course.Request.{Request}
use Rattle.sheep_node.specs.declared.session.Session.{Session}
use Rattle.sheep_node.specs.State.{new_session}
use Rattle.sheep_world.specs.Began.{Began}
use Rattle.sheep_world.specs.World.{Host}
use Rattle.sheep_world.specs.RunsWithAsks.{Move}
use Rattle.overlap_law.specs.Grants.{gives, given_to, writer_of}
use Rattle.overlap_law.specs.LastReads.{snaps, was_snapped}
use Rattle.overlap_law.specs.MomentChanges.{MomentChange, MomentTrail, RunsAreInRange}
use Rattle.overlap_law.specs.Past.{MomentWithPast, run_with_past}
use Rattle.overlap_law.specs.WriterClaims.{HasLock, IsLetGo, LetsGoBy, LetsGo, IsDiskKept}
use Rattle.overlap_law.specs.Writers.{session_holder}
use Rattle.overlap_law.proofs.AwaitedCommands.{waits_at}
use Rattle.overlap_law.proofs.ClaimsInRuns.{claims-in_run}
use Rattle.overlap_law.proofs.ClosedSnapshots.{snapped-push, snapped-no_writer}
use Rattle.overlap_law.proofs.CountedEntries.{same_entry}
use Rattle.overlap_law.proofs.GivenByEntries.{GivesTo, given_by_entry}
use Rattle.overlap_law.proofs.GrantsAtPuts.{PutsFor, puts_for}
use Rattle.overlap_law.proofs.KeptIds.{lock-writer}
use Rattle.overlap_law.proofs.NoRecoveredDue.{began-with_past}
use Rattle.overlap_law.proofs.PublishedIds.{gives-snaps}
use Rattle.overlap_law.proofs.LogsOfMoments.{IsOfMembers}
use Rattle.overlap_law.proofs.PublishedInodes.{members_give, IsPutNow, log_gets}
use Rattle.overlap_law.proofs.ReadInMoments.{HostsAreSound, kept_sound}
use Rattle.overlap_law.proofs.RunsByChanges.{on_the_way}
use Rattle.overlap_law.proofs.WholeInRuns.{sound_world}
use Rattle.overlap_law.proofs.WriterChanges.{entry_gives_writer, entry_gives_to}

-- ---- an entry that is put while a command lets a disk go

-- such an entry gives the disk to nobody
lets_none : (log : List Entry) (vid : ℕ) (writer : Holder) (entry : Entry) → LetsGoBy vid entry → GivesTo writer entry
    → gives vid (outcome (log_effects log) entry).effect ≡ true → writer_of (log_effects (log ++ entry ∷ [])) vid ≡ Some writer → ⊥
lets_none log vid writer (Format members) lets to given writes = lets
lets_none log vid writer (Join node zone vnodes) lets to given writes = lets
lets_none log vid writer (Leave node) lets to given writes = lets
lets_none log vid writer (Reweight node vnodes) lets to given writes = lets
lets_none log vid writer (Recovered node epoch) lets to given writes = lets
lets_none log vid writer (Reserve by session name origin) lets to given writes = lets
lets_none log vid writer (Publish by of) lets to given writes = lets
lets_none log vid writer (Clone by of) lets to given writes = lets
lets_none log vid writer (Snapshot by old of) lets to given writes =
    let snapped : snaps vid (outcome (log_effects log) (Snapshot by old of)).effect ≡ true
    = subst (λ (v : ℕ). snaps v (outcome (log_effects log) (Snapshot by old of)).effect ≡ true) lets
    (gives-snaps (log_effects log) vid by old of given) in
    snapped-no_writer (log ++ Snapshot by old of ∷ []) vid writer
    (snapped-push log (Snapshot by old of) vid
    ∙ or_right (was_snapped log vid) (snaps vid (outcome (log_effects log) (Snapshot by old of)).effect || false)
    (or_left (snaps vid (outcome (log_effects log) (Snapshot by old of)).effect) false snapped)) writes
lets_none log vid writer (Delete by session name tag) lets to given writes = lets
lets_none log vid writer (Lock by session name tag) lets to given writes = lets
lets_none log vid writer (Unlock by session of) lets to given writes = to

-- what a command waits for that lets a disk go
waited_lets : (vid : ℕ) (entry : Entry) (stage : OpStage) → LetsGo vid stage → waits_at entry stage ≡ true → LetsGoBy vid entry
waited_lets vid entry (Asked wanted) lets waits = subst (LetsGoBy vid) (same_entry wanted entry waits) lets
waited_lets vid entry (Working of task) lets waits = absurd lets
waited_lets vid entry (Publishing wanted made) lets waits = subst (LetsGoBy vid) (same_entry wanted entry waits) lets
waited_lets vid entry (Answered change) lets waits = absurd lets

-- ---- each change

module _ (script : List Statement) (range : RunsAreInRange script) (events : List Move) (start : MomentWithPast)
    (is : run_with_past script events ≡ Some start) where
  -- at a put
  module _ (n : ℕ) (host : Host) (there : tree.get start.world.hosts n ≡ Some host) (number vid : ℕ)
      (goes : IsLetGo host.node.requests number vid) (entry : Entry) (put : IsPutNow start.world.hosts entry)
      (given : gives vid (outcome (log_effects start.world.log) entry).effect ≡ true)
      (writes : writer_of (log_effects (start.world.log ++ entry ∷ [])) vid ≡ Some (session_holder n number)) where
    began : Began script start.world
    began = began-with_past script events start is

    to : given_to (outcome (log_effects start.world.log) entry).effect ≡ Some (session_holder n number)
    to = sym (entry_gives_to start.world.log entry vid given) ∙ writes

    gives_it : GivesTo (session_holder n number) entry
    gives_it = given_by_entry (log_effects start.world.log) (session_holder n number) entry to

    p : PutsFor script range start began put.n put.host put.there put.up entry (put.later, put.first) (session_holder n number)
    p = puts_for script range start began put.n put.host put.there put.up entry (put.later, put.first) (session_holder n number) to entry
        refl gives_it

    not_given : ⊥
    not_given =
        let own : put.host.node.me.0 ≡ n = ap (λ (h : Holder). h.node.0) p.own in
        let place : put.n ≡ n = sym (knows_its_number script start.world began put.n put.host put.there) ∙ own in
        let one : put.host ≡ host
        = same_Some put.host host (sym put.there ∙ ap (tree.get start.world.hosts) place ∙ there) in
        let session : p.request.session ≡ number = ap (λ (h : Holder). h.session) p.own in
        let asked : tree.get host.node.requests p.req ≡ Some p.request
        = ap (λ (h : Host). tree.get h.node.requests p.req) (sym one) ∙ p.asked in
        let sole = ((sound_world script range start.world began).hosts n host there).node.sole_commands in
        let named : command_in p.request.session host.node.sessions ≡ Some p.req = sole.named p.req p.request asked p.sole in
        let same : goes.req ≡ p.req
        = sole.alone p.request.session p.req goes.req goes.request named goes.there (goes.of ∙ sym session) in
        let its : p.request ≡ goes.request
        = same_Some p.request goes.request (sym asked ∙ ap (tree.get host.node.requests) (sym same) ∙ goes.there) in
        let waits : waits_for_entry entry (Commanding goes.op) ≡ true
        = ap (waits_for_entry entry) (sym (ap (λ (r : Request). r.course) its ∙ goes.command)) ∙ p.waits in
        lets_none start.world.log vid (session_holder n number) entry (waited_lets vid entry goes.op.stage goes.lets waits) gives_it given
        writes

  module _ (before after : MomentWithPast) (trail : MomentTrail script start before) (change : MomentChange script start before after) where
    pub writer_was : (n : ℕ) (host : Host) → tree.get before.world.hosts n ≡ Some host → host.is_lost ≡ false
        → (number : ℕ) (session : Session)
        (disk : Disk) → tree.get host.node.sessions number ≡ Some session → session.disk ≡ Some disk → disk.snapshot ≡ false
        → writer_of (log_effects after.world.log) disk.inode.vid ≡ Some (session_holder n number)
        → writer_of (log_effects before.world.log) disk.inode.vid ≡ Some (session_holder n number)
    writer_was n host there up number session disk got on working writes = by_claim kept.1
      where
        at_me : host.node.me.0 ≡ n
        at_me = ((on_the_way script HostsAreSound (kept_sound script range) events start before is trail).each n host there).read.own

        kept : IsDiskKept before.world.log host.node.outbox host.node.peer.entries host.node.me host.node.requests number false disk.inode
        kept =
            subst (λ (b : Bool). IsDiskKept before.world.log host.node.outbox host.node.peer.entries host.node.me host.node.requests
            number b disk.inode)
            working
            (((claims-in_run script range events start before is trail).each n host there up).disks number disk
            (ap (λ (o : Option Session). (unwrap_or o new_session).disk) got ∙ on))

        not_now : (entry : Entry) → IsLetGo host.node.requests number disk.inode.vid
            → writer_of (log_effects (before.world.log ++ entry ∷ [])) disk.inode.vid ≡ Some (session_holder n number)
            → gives disk.inode.vid (outcome (log_effects before.world.log) entry).effect ≡ true
            → IsOfMembers entry ⊎ ((before ≡ start) × IsPutNow before.world.hosts entry) → ⊥
        not_now entry goes then given (inl members) =
            both_ways (gives disk.inode.vid (outcome (log_effects before.world.log) entry).effect)
            (members_give (log_effects before.world.log) disk.inode.vid entry members) given
        not_now entry goes then given (inr (same, put)) =
            not_given n host (subst (λ (m : MomentWithPast). tree.get m.world.hosts n ≡ Some host) same there) number disk.inode.vid goes
            entry
            (subst (λ (m : MomentWithPast). IsPutNow m.world.hosts entry) same put)
            (subst (λ (m : MomentWithPast). gives disk.inode.vid (outcome (log_effects m.world.log) entry).effect ≡ true) same given)
            (subst (λ (m : MomentWithPast). writer_of (log_effects (m.world.log ++ entry ∷ [])) disk.inode.vid ≡ Some
            (session_holder n number)) same then)

        by_log : IsLetGo host.node.requests number disk.inode.vid
            → (after.world.log ≡ before.world.log) ⊎ ((entry : Entry) × (after.world.log ≡ before.world.log ++ entry ∷ [])
            × (IsOfMembers entry ⊎ ((before ≡ start) × IsPutNow before.world.hosts entry)))
            → writer_of (log_effects before.world.log) disk.inode.vid ≡ Some (session_holder n number)
        by_log goes (inl same) = ap (λ (log : List Entry). writer_of (log_effects log) disk.inode.vid) (sym same) ∙ writes
        by_log goes (inr (entry, longer, whose)) =
            let then : writer_of (log_effects (before.world.log ++ entry ∷ [])) disk.inode.vid ≡ Some (session_holder n number)
            = ap (λ (log : List Entry). writer_of (log_effects log) disk.inode.vid) (sym longer) ∙ writes in
            ⊎_elim
            (λ (was : writer_of (log_effects before.world.log) disk.inode.vid ≡ Some (session_holder n number)). was)
            (λ (given : gives disk.inode.vid (outcome (log_effects before.world.log) entry).effect ≡ true).
            absurd (not_now entry goes then given whose))
            (entry_gives_writer before.world.log entry disk.inode.vid (session_holder n number) then)

        by_claim : HasLock before.world.log host.node.outbox host.node.me number (epoch_of host.node.peer.entries) disk.inode.vid
            ⊎ IsLetGo host.node.requests number disk.inode.vid
            → writer_of (log_effects before.world.log) disk.inode.vid ≡ Some (session_holder n number)
        by_claim (inl lock) =
            lock-writer before.world.log host.node.outbox host.node.me number (epoch_of host.node.peer.entries) disk.inode.vid lock
            ∙ ap (λ (k : ℕ). Some (session_holder k number)) at_me
        by_claim (inr goes) = by_log goes (log_gets script change)
