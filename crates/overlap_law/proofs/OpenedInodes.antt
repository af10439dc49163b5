-- The inode of each open working disk was created by the epoch of its node: in each run in range, at each moment on the way of an event.
-- For a session opens a disk that it holds, or one whose publication it waited for.
use Rattle.std.proofs.Common.{◌≡◌, inl, inr, ⊎_elim, arith, ℕ, Bool, false, List, IfSome, unwrap_or}
use Rattle.std.proofs.Common.{Option, Some, None, length, refl, sym, ap, subst, ◌∙◌}
use Rattle.std.specs.Ordering.{nat_cmp}
use Rattle.std.specs.FinMap as tree
use Rattle.proof_tools.proofs.FiniteMaps.{get-insert_same}
use Rattle.object_id.specs.declared.entry.Entry.{Entry}
use Rattle.object_id.specs.declared.entry.Entry.TheVariants as entries
use Rattle.object_id.specs.declared.oid.Vid.{Vid}
use Rattle.object_id.specs.Oid.{inode_number}
use Rattle.inode.specs.Layout.{Content}
use Rattle.cluster_script.specs.declared.statement.Statement.{Statement}
use Rattle.guest_driver.specs.declared.disk.Disk.{Disk}
use Rattle.vdi_ops.specs.Op.{Op, OpStage, Asked, Working, Publishing, Answered, Task, Opening, WritingBack, Tagging, Copying, Making}
use Rattle.sheep_node.specs.declared.course.Course.TheVariants.{Commanding}
use Rattle.sheep_node.specs.declared.session.Session.{Session}
use Rattle.sheep_node.specs.State.{new_session}
use Rattle.sheep_world.specs.Began.{Began}
use Rattle.sheep_world.specs.NodeCauses.{input_of_cause, host_with_node}
use Rattle.sheep_world.specs.World.{Host}
use Rattle.sheep_world.specs.RunsWithAsks.{Move}
use Rattle.overlap_law.specs.CommandDisks.{opened_as, opened_in, IsOpenAtStage, IsOpenAtLast}
use Rattle.overlap_law.specs.Each.{EachUp}
use Rattle.overlap_law.specs.Fates.{IsCreated}
use Rattle.overlap_law.specs.MomentChanges.{MomentTrail, RunsAreInRange}
use Rattle.overlap_law.specs.Past.{MomentWithPast, first_moment, run_with_past}
use Rattle.overlap_law.specs.StepMoments.{moment_in_step}
use Rattle.overlap_law.specs.WriterClaims.{IsStageKept}
use Rattle.overlap_law.proofs.AnswersInMoments.{not_lost}
use Rattle.overlap_law.proofs.ClaimsInRuns.{claims-in_run}
use Rattle.overlap_law.proofs.CreatedFirst.{publications-on_the_way}
use Rattle.overlap_law.proofs.HeldInodes.{held_inode}
use Rattle.overlap_law.proofs.InodesOfGuests.{TheirInodesAreCreated, HaveCreatedNext, inodes-on_the_way}
use Rattle.overlap_law.proofs.NoRecoveredDue.{began-with_past}
use Rattle.sheep_node.proofs.OneWorkParts.{Requests, Sessions}
use Rattle.overlap_law.proofs.OpenDisksInRuns.{disks_fit-in_run}
use Rattle.overlap_law.proofs.OpenedDisks.{IsOpening, IsOpeningNow, opened_from}
use Rattle.overlap_law.proofs.OpeningOverlap.{no_session}
use Rattle.overlap_law.proofs.PublishingStages.{published_at}
use Rattle.overlap_law.proofs.ReadInMoments.{HostsAreSound, kept_sound}
use Rattle.overlap_law.proofs.RunsByChanges.{on_the_way}

-- a session has a working disk of an id open
abbrev IsOpenBy : Requests → Sessions → ℕ → ℕ → Type 0
IsOpenBy requests sessions number vid = opened_in number sessions ≡ Some (false, vid)

module _ (script : List Statement) (range : RunsAreInRange script) (events : List Move) (start : MomentWithPast)
    (is : run_with_past script events ≡ Some start) where
  began : Began script start.world
  began = began-with_past script events start is

  -- ---- what a command opens next

  module _ (moment : MomentWithPast) (trail : MomentTrail script start moment) (n : ℕ) (host : Host)
      (there : tree.get moment.world.hosts n ≡ Some host) (up : host.is_lost ≡ false) (number vid req : ℕ) (op : Op)
      (got : tree.get host.node.requests req ≡ Some (record { session = number; course = Commanding op })) where
    abbrev Named : ℕ → Type 0
    Named of = IsCreated moment.past.attempts (inode_number of) host.node.peer.epoch

    fits : (stage : OpStage) → op.stage ≡ stage → IsOpenAtStage (opened_in number host.node.sessions) stage
    fits stage at = subst (IsOpenAtStage (opened_in number host.node.sessions)) at
        ((disks_fit-in_run script range events start moment is trail).each n host there up req
        (record { session = number; course = Commanding op }) got)

    -- its inode is written back
    written_back : (of : Vid) (inode : Content) → op.stage ≡ Working of (WritingBack inode) → inode.vid ≡ vid → Named vid
    written_back of inode at same =
        let claims = (claims-in_run script range events start moment is trail).each n host there up in
        let kept = subst (IsStageKept moment.world.log host.node.outbox host.node.peer.entries (length host.node.peer.entries) host.node.me
        number (opened_in number host.node.sessions)) at
        (claims.commands req (record { session = number; course = Commanding op }) op got refl) in
        let lock = kept.0 in
        let read = ((on_the_way script HostsAreSound (kept_sound script range) events start moment is trail).each n host there).read in
        let since = lock.since in
        let epoch_so = read.epoch_so in
        subst Named (sym (fits (Working of (WritingBack inode)) at).1 ∙ same)
        (held_inode script range events start moment is trail n number of.0 host (record {
          holder = lock.held ∙ ap (λ (k : ℕ). Some (record { node = record { 0 = k }; session = number })) read.own;
          read = omega (arith, since, epoch_so);
        }))

    -- or what it is to have open is published
    published : (entry : Entry) (made : Option Content) → op.stage ≡ Publishing entry made
        → IsOpenAtLast (opened_in number host.node.sessions) entry made
        → (inode : Content) → made ≡ Some inode → inode.vid ≡ vid → Named vid
    published (entries.Snapshot by old id) made at opened inode made_so same =
        let of : inode.vid ≡ id.0 = subst (λ (o : Option Content). IfSome o (λ (c : Content). c.vid ≡ id.0)) made_so opened.1 in
        subst Named (sym of ∙ same)
        (publications-on_the_way script range events start moment is trail n host there up req
        (record { session = number; course = Commanding op }) id got (ap published_at at))
    published (entries.Format members) made at opened inode made_so same = absurd (cc (opened, made_so))
    published (entries.Join node zone vnodes) made at opened inode made_so same = absurd (cc (opened, made_so))
    published (entries.Leave node) made at opened inode made_so same = absurd (cc (opened, made_so))
    published (entries.Reweight node vnodes) made at opened inode made_so same = absurd (cc (opened, made_so))
    published (entries.Recovered node epoch) made at opened inode made_so same = absurd (cc (opened, made_so))
    published (entries.Reserve by session name origin) made at opened inode made_so same = absurd (cc (opened, made_so))
    published (entries.Publish by id) made at opened inode made_so same = absurd (cc (opened, made_so))
    published (entries.Clone by id) made at opened inode made_so same = absurd (cc (opened, made_so))
    published (entries.Delete by session name tag) made at opened inode made_so same = absurd (cc (opened, made_so))
    published (entries.Lock by session name tag) made at opened inode made_so same = absurd (cc (opened, made_so))
    published (entries.Unlock by session id) made at opened inode made_so same = absurd (cc (opened, made_so))

    by_task : (of : Vid) (task : Task) → op.stage ≡ Working of task → IsOpening vid (Working of task) → Named vid
    by_task of (Opening snapshot ids header) at opens = absurd opens
    by_task of (WritingBack inode) at opens = written_back of inode at opens
    by_task of (Tagging old inode) at opens = absurd opens
    by_task of (Copying ids header) at opens = absurd opens
    by_task of (Making entry made) at opens = absurd opens

    by_stage : (stage : OpStage) → op.stage ≡ stage → IsOpening vid stage → Named vid
    by_stage (Asked entry) at opens = absurd opens
    by_stage (Working of task) at opens = by_task of task at opens
    by_stage (Publishing entry made) at opens =
        published entry made at (fits (Publishing entry made) at) opens.0 opens.1 opens.2
    by_stage (Answered change) at opens = absurd opens

-- ---- every run

module _ (script : List Statement) (range : RunsAreInRange script) where
  none_open : (number vid : ℕ) → IsOpenBy tree.empty tree.empty number vid → ⊥
  none_open number vid opened =
      let empty : opened_in number tree.empty ≡ None
      = ap (λ (o : Option Session). opened_as (unwrap_or o new_session).disk) (tree.get-empty {X = Session} nat_cmp number) in
      absurd (cc (empty, opened))

  opens_so : TheirInodesAreCreated IsOpenBy (first_moment script)
  opens_so n host there up number vid = by_session (tree.get host.node.sessions number) refl
    where
      by_session : (o : Option Session) → tree.get host.node.sessions number ≡ o
          → opened_as (unwrap_or o new_session).disk ≡ Some (false, vid)
          → IsCreated (first_moment script).past.attempts (inode_number vid) host.node.peer.epoch
      by_session None at opened = absurd (cc (opened))
      by_session (Some session) at opened = no_session script n host there number session at

  comes_so : HaveCreatedNext IsOpenBy script
  comes_so events start ran on so_far next steps by within trail number vid opened = ⊎_elim
      (λ (had : opened_in number so_far.node.sessions ≡ Some (false, vid)). inl had)
      (λ (now : IsOpeningNow number vid so_far).
      inr (by_stage script range events start ran (moment_in_step script on start so_far) trail on.n (host_with_node on.host so_far.node)
      (get-insert_same start.world.hosts on.n (host_with_node on.host so_far.node)) (not_lost on.host steps.up) number vid now.req now.op
      now.there now.op.stage refl now.at))
      (opened_from number vid (input_of_cause on.cause) on.host.node so_far next within.change opened)

  -- in the form of the invariant
  pub working_inode : (events : List Move) (start moment : MomentWithPast) → run_with_past script events ≡ Some start
      → MomentTrail script start moment → EachUp moment.world.hosts (λ n node. (number : ℕ) (session : Session) (disk : Disk)
      → tree.get node.sessions number ≡ Some session → session.disk ≡ Some disk → disk.snapshot ≡ false
      → IsCreated moment.past.attempts (inode_number disk.inode.vid) node.peer.epoch)
  working_inode events start moment is trail n host there up number session disk got on working =
      inodes-on_the_way IsOpenBy script range none_open opens_so comes_so events start moment is trail n host there up number disk.inode.vid
      (ap (λ (o : Option Session). opened_as (unwrap_or o new_session).disk) got ∙ ap opened_as on
      ∙ ap (λ (b : Bool). Some (b, disk.inode.vid)) working)
