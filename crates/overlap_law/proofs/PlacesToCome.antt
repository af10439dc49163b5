-- At the end of every event, while a command makes the inode that is to take its open disk's place: the disk's inode was created, and all
-- that it may come to have is what the new inode's table has. For the command lets no disk go, so the session has the lock.
use Rattle.std.proofs.Common.{◌≡◌, ⊎_elim, ℕ, ◌<◌, Bool, true, false, List, length, Option, Some, slice_index, refl, sym, ap}
use Rattle.std.proofs.Common.{subst, ◌∙◌, inl}
use Rattle.std.specs.FinMap as tree
use Rattle.std.proofs.lemmas.Option.{same_Some}
use Rattle.object_id.specs.declared.entry.Entry.TheVariants.{Snapshot}
use Rattle.object_id.specs.declared.entry.VdiSpec.{VdiSpec}
use Rattle.object_id.specs.declared.node.NodeId.{NodeId}
use Rattle.object_id.specs.declared.oid.Vid.{Vid}
use Rattle.object_id.specs.Oid.{inode_number}
use Rattle.object_id.specs.Spec.{objects_of}
use Rattle.cluster_script.specs.declared.statement.Statement.{Statement}
use Rattle.epoch_log.specs.Epochs.{epoch_of}
use Rattle.inode.specs.Layout.{Content}
use Rattle.vdi_directory.specs.Decisions.{log_effects}
use Rattle.vdi_ops.specs.Op.{Making, Working, Op}
use Rattle.sheep_node.specs.declared.course.Course.TheVariants.{Commanding}
use Rattle.sheep_node.specs.declared.course.Request.{Request}
use Rattle.sheep_node.specs.declared.session.Session.{Session}
use Rattle.sheep_node.specs.May.{is_disk_course}
use Rattle.sheep_node.specs.SessionQueues.{CommandsAreAlone, session_among, command_in}
use Rattle.sheep_node.specs.State.{new_session}
use Rattle.std.specs.Prelude.{unwrap_or}
use Rattle.sheep_world.specs.World.{Host}
use Rattle.sheep_world.specs.RunsWithAsks.{Move}
use Rattle.overlap_law.specs.CommandDisks.{opened_in, IsOpenAtLast, IsOpenAtStage, IsOpenAtCourse}
use Rattle.overlap_law.specs.Each.{spec_in}
use Rattle.overlap_law.specs.Fates.{IsCreated}
use Rattle.overlap_law.specs.MomentChanges.{RunsAreInRange}
use Rattle.overlap_law.specs.MomentChanges as moments
use Rattle.overlap_law.specs.Past.{MomentWithPast, run_with_past}
use Rattle.overlap_law.specs.StayingDrafts.{IsAllToCome}
use Rattle.overlap_law.specs.ToCome.{TablesStayTheInodes}
use Rattle.overlap_law.specs.WriterClaims.{HasClaims, HasLock, IsDiskKept, IsLetGo, LetsGo}
use Rattle.overlap_law.proofs.ClaimsInRuns.{claims-in_run}
use Rattle.overlap_law.proofs.MakingStages.{IsMakingStage}
use Rattle.overlap_law.proofs.NoRecoveredDue.{began-with_past}
use Rattle.overlap_law.proofs.OpenDisksInRuns.{disks_fit-in_run}
use Rattle.overlap_law.proofs.PlacesHeld.{held_comes}
use Rattle.overlap_law.proofs.SnapshotsTaken.{opened_there}
use Rattle.overlap_law.proofs.WholeInRuns.{sound_world}

module _ (script : List Statement) (range : RunsAreInRange script) (events : List Move) (moment : MomentWithPast)
    (is : run_with_past script events ≡ Some moment) (n : ℕ) (host : Host)
    (there : tree.get moment.world.hosts n ≡ Some host) (up : host.is_lost ≡ false) (req : ℕ) (request : Request) (op : Op)
    (got : tree.get host.node.requests req ≡ Some request) (command : request.course ≡ Commanding op) (vid old of : Vid) (by : NodeId)
    (inode : Content) (at : op.stage ≡ Working vid (Making (Snapshot by old of) (Some inode))) where
  sole : CommandsAreAlone host.node
  sole = ((sound_world script range moment.world (began-with_past script events moment is)).hosts n host there).node.sole_commands

  named : command_in request.session host.node.sessions ≡ Some req
  named = sole.named req request got (ap is_disk_course command)

  claims : HasClaims moment.world.log host.node.outbox host.node.peer.entries (length host.node.peer.entries) host.node.me
      host.node.requests host.node.sessions
  claims = (claims-in_run script range events moment moment is moments.Still).each n host there up

  fits : IsOpenAtLast (opened_in request.session host.node.sessions) (Snapshot by old of) (Some inode)
  fits =
      subst (IsOpenAtStage (opened_in request.session host.node.sessions)) at
      (subst (IsOpenAtCourse (opened_in request.session host.node.sessions)) command
      ((disks_fit-in_run script range events moment moment is moments.Still).each n host there up req request got))

  -- the command lets no disk go
  lets_none : (id : ℕ) → IsLetGo host.node.requests request.session id → ⊥
  lets_none id lets =
      let one : lets.req ≡ req
      = sole.alone request.session req lets.req lets.request named lets.there lets.of in
      let its : lets.request ≡ request
      = same_Some lets.request request (sym lets.there ∙ ap (tree.get host.node.requests) one ∙ got) in
      let course : Commanding lets.op ≡ Commanding op
      = sym lets.command ∙ ap (λ (r : Request). r.course) its ∙ command in
      let op_so : lets.op ≡ op = cc (course) in
      subst (LetsGo id) (ap (λ (o : Op). o.stage) op_so ∙ at) lets.lets

  abbrev Locks : ℕ → Type 0
  Locks id = HasLock moment.world.log host.node.outbox host.node.me request.session (epoch_of host.node.peer.entries) id

  -- so the disk is locked
  pub place_lock : HasLock moment.world.log host.node.outbox host.node.me request.session (epoch_of host.node.peer.entries) old.0
  place_lock =
      let (session, disk, in_node, on, working, same) = opened_there host.node.sessions request.session old.0 false fits.0 in
      let opened : (session_among request.session host.node.sessions).disk ≡ Some disk
      = ap (λ (o : Option Session). (unwrap_or o new_session).disk) in_node ∙ on in
      subst Locks same
      (⊎_elim
      (λ (has : Locks disk.inode.vid). has)
      (λ (lets : IsLetGo host.node.requests request.session disk.inode.vid). absurd (lets_none disk.inode.vid lets))
      (subst (λ (b : Bool). IsDiskKept moment.world.log host.node.outbox host.node.peer.entries host.node.me host.node.requests
      request.session b disk.inode) working (claims.disks request.session disk opened)).1)

  -- the disk is the one that is open
  pub place_comes : (good_id : ℕ → Bool)
      → TablesStayTheInodes (log_effects moment.world.log) good_id moment.world.hosts moment.past.attempts
      → (index : ℕ) (spec : VdiSpec) → good_id old.0 ≡ true → spec_in (log_effects moment.world.log) old.0 ≡ Some spec
      → index < objects_of spec
      → IsCreated moment.past.attempts (inode_number old.0) host.node.peer.epoch
      × IsAllToCome moment.world.hosts moment.past.attempts old.0 index (slice_index inode.table index)
  place_comes good_id tables =
      held_comes script range events moment is good_id tables n host there up req request op got command inode
      (inl (subst (IsMakingStage inode) (sym at) refl)) old fits.0 place_lock
