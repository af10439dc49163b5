-- In each world of a run in range a session with a working disk open holds it by the whole log, where no command goes on in it; and nobody
-- holds an open snapshot.
use Rattle.std.proofs.Common.{◌≡◌, ⊎_elim, arith, ℕ, Bool, true, false, List, length, Option, Some, None, is_none, option_map, refl, sym}
use Rattle.std.proofs.Common.{ap, subst, ◌∙◌}
use Rattle.std.specs.Prelude.{unwrap_or, nat_le}
use Rattle.std.specs.Option.{option_and_then}
use Rattle.std.specs.FinMap as tree
use Rattle.std.proofs.lemmas.Bool.{and_parts}
use Rattle.object_id.specs.declared.entry.Entry.{Entry}
use Rattle.cluster_script.specs.declared.statement.Statement.{Statement}
use Rattle.cluster_script.specs.Sessions.{ScriptSession}
use Rattle.guest_driver.specs.declared.disk.Disk.{Disk}
use Rattle.disk_lock.specs.declared.holder.Holder.{Holder}
use Rattle.vdi_directory.specs.Decisions.{log_effects}
use Rattle.vdi_directory.specs.Effects.{holder_of}
use Rattle.vdi_directory.specs.States.{rank, state_of}
use Rattle.vdi_directory.proofs.DecisionLaws.{held-works}
use Rattle.vdi_ops.specs.Op.{Op}
use Rattle.sheep_node.specs.declared.ask.Ask.{Ask}
use Rattle.sheep_node.specs.declared.course.Course.TheVariants.{Commanding}
use Rattle.sheep_node.specs.declared.course.Request.{Request}
use Rattle.sheep_node.specs.declared.session.Session.{Session}
use Rattle.sheep_node.specs.May.{is_disk_course, queued_at_most}
use Rattle.sheep_node.specs.SessionQueues.{command_in, session_among}
use Rattle.sheep_node.specs.State.{Node, new_session, session_at}
use Rattle.sheep_world.specs.World.{Host, World, is_host_up, node_at}
use Rattle.sheep_world.specs.Began.{Began}
use Rattle.sheep_world.specs.Effects.{open_disk_at}
use Rattle.sheep_world.specs.NodeCauses.{GuestAsks, IsCause}
use Rattle.overlap_law.specs.MomentChanges as moments
use Rattle.overlap_law.specs.MomentChanges.{RunsAreInRange}
use Rattle.overlap_law.specs.Sessions.{HoldsDisk, IsLettingGo, OpenDisksAreHeld}
use Rattle.overlap_law.specs.Writers.{session_holder}
use Rattle.overlap_law.specs.WriterClaims.{ClaimsAreKept, IsDiskKept, IsGivenNoMore}
use Rattle.overlap_law.proofs.CausedWorks.{caused_may}
use Rattle.overlap_law.proofs.ClaimsInRuns.{claims-in_run}
use Rattle.overlap_law.proofs.HeldDisks.{held-in_run}
use Rattle.overlap_law.proofs.PendingInRuns.{has_past}
use Rattle.overlap_law.proofs.WholeInRuns.{sound_here}

-- what is held isn't given no more
pub held_given : (log : List Entry) (vid : ℕ) (holder : Holder) → holder_of (log_effects log) vid ≡ Some holder → IsGivenNoMore log vid → ⊥
held_given log vid holder held no_more =
    let works : rank (state_of (log_effects log) vid) ≡ 2 = ap rank (held-works log vid holder held) in
    omega (arith, works, no_more)

module _ (script : List Statement) (range : RunsAreInRange script) (world : World) (began : Began script world) where
  pub held_there : OpenDisksAreHeld world.log world.hosts
  held_there =
      let past = has_past script world began in
      subst (λ (w : World). OpenDisksAreHeld w.log w.hosts) past.world_so
      (held-in_run script range past.events past.moment past.moment past.is moments.Still)

  pub claims_there : ClaimsAreKept world.log world.hosts
  claims_there =
      let past = has_past script world began in
      subst (λ (w : World). ClaimsAreKept w.log w.hosts) past.world_so
      (claims-in_run script range past.events past.moment past.moment past.is moments.Still)

  module _ (n : ℕ) (host : Host) (there : tree.get world.hosts n ≡ Some host) (up : host.is_lost ≡ false) (number : ℕ) (disk : Disk)
      (opened : (session_among number host.node.sessions).disk ≡ Some disk) where
    -- a working disk is, where no command goes on in the session
    pub working_held : disk.snapshot ≡ false
        → ((req : ℕ) (request : Request) (op : Op) → tree.get host.node.requests req ≡ Some request → request.session ≡ number
        → request.course ≡ Commanding op → ⊥)
        → holder_of (log_effects world.log) disk.inode.vid ≡ Some (session_holder n number)
    working_held working none = by_session (tree.get host.node.sessions number) refl
      where
        by_session : (o : Option Session) → tree.get host.node.sessions number ≡ o
            → holder_of (log_effects world.log) disk.inode.vid ≡ Some (session_holder n number)
        by_session None got =
            let closed : (session_among number host.node.sessions).disk ≡ None
            = ap (λ (o : Option Session). (unwrap_or o new_session).disk) got in
            absurd (cc (opened, closed))
        by_session (Some session) got =
            let own : session.disk ≡ Some disk
            = sym (ap (λ (o : Option Session). (unwrap_or o new_session).disk) got) ∙ opened in ⊎_elim
            (λ (holds : HoldsDisk world.log n number disk.inode.vid host.node). holds.holder)
            (λ (goes : IsLettingGo host.node number). absurd (none goes.req goes.request goes.op goes.there goes.own goes.command))
            (held_there.each n host there up number session disk got own working)

    -- a snapshot is given no more
    pub snapshot_no_more : disk.snapshot ≡ true → IsGivenNoMore world.log disk.inode.vid
    snapshot_no_more snapshot =
        subst (λ (b : Bool).
        IsDiskKept world.log host.node.outbox host.node.peer.entries host.node.me host.node.requests number b disk.inode) snapshot
        ((claims_there.each n host there up).disks number disk opened)

    -- so it is held by nobody
    pub snapshot_unheld : disk.snapshot ≡ true → (holder : Holder)
        → holder_of (log_effects world.log) disk.inode.vid ≡ Some holder → ⊥
    snapshot_unheld snapshot holder held =
        held_given world.log disk.inode.vid holder held (snapshot_no_more snapshot)

-- no command goes on in a session that begins a request, and it has open what the world says
module _ (script : List Statement) (range : RunsAreInRange script) (world : World) (began : Began script world) (n : ℕ) (host : Host)
    (there : tree.get world.hosts n ≡ Some host) (up : is_host_up host ≡ true) (session : ScriptSession) (req : ℕ) (ask : Ask)
    (caused : IsCause script world n host (GuestAsks session req ask)) where
  pub open_here : open_disk_at session world ≡ (session_among session.number host.node.sessions).disk
  open_here =
      ap (λ (k : ℕ). option_and_then (λ (node : Node). (session_at session.number node).disk) (node_at k world)) caused.gateway
      ∙ ap (λ (o : Option Host).
      option_and_then (λ (node : Node). (session_at session.number node).disk) (option_map (λ (h : Host). h.node) o)) there

  pub begins_free : is_none (command_in session.number host.node.sessions) ≡ true
  begins_free =
      let may = caused_may script range world began n host there up (GuestAsks session req ask) tt caused in
      (and_parts (is_none (command_in session.number host.node.sessions))
      (nat_le (length (session_at session.number host.node).queue) (queued_at_most ask)) may.condition.room).0

  pub begins_alone : (other : ℕ) (request : Request) (op : Op) → tree.get host.node.requests other ≡ Some request
      → request.session ≡ session.number → request.course ≡ Commanding op → ⊥
  begins_alone other request op got of command =
      let sound = sound_here script range world began n host there up in
      let named : command_in session.number host.node.sessions ≡ Some other
      = ap (λ (k : ℕ). command_in k host.node.sessions) (sym of)
      ∙ sound.sole_commands.named other request got (ap is_disk_course command) in
      let none : is_none (command_in session.number host.node.sessions) ≡ false = ap is_none named in
      absurd (cc (begins_free, none))
