-- What a session has whose command makes the inode that is to take its open disk's place, or waits for its publication, at the end of every
-- event: as long as the id is reserved, the command's last entry is of that id and of that disk, and the session has the disk's lock.
use Rattle.std.proofs.Common.{◌≡◌, inl, inr, ⊎_elim, arith, ℕ, ◌+◌, ◌<◌, ◌≤◌, ◌==◌, Bool, true, false, cond, List, length, take}
use Rattle.std.proofs.Common.{Option, Some, None, slice_get, refl, sym, ap, subst, ◌∙◌}
use Rattle.std.specs.FinMap as tree
use Rattle.std.proofs.lemmas.Bool.{cases_lt, eqb-true}
use Rattle.object_id.specs.declared.entry.Entry.{Entry}
use Rattle.object_id.specs.declared.entry.Entry.TheVariants as entries
use Rattle.object_id.specs.declared.node.NodeId.{NodeId}
use Rattle.object_id.specs.declared.oid.Vid.{Vid}
use Rattle.cluster_script.specs.declared.statement.Statement.{Statement}
use Rattle.epoch_log.specs.Epochs.{epoch_of}
use Rattle.inode.specs.Layout.{Content}
use Rattle.vdi_directory.specs.declared.effect.Reservation.{Reservation}
use Rattle.vdi_directory.specs.declared.effect.Source.{Source}
use Rattle.vdi_directory.specs.declared.effect.Source.TheVariants as sources
use Rattle.vdi_directory.proofs.DecisionLaws.{held-works}
use Rattle.vdi_ops.specs.Op.{Opening, WritingBack, Tagging, Copying, Making, OpStage, Asked, Working, Publishing, Answered, Op}
use Rattle.sheep_node.specs.declared.course.Course.TheVariants.{Commanding}
use Rattle.sheep_node.specs.declared.course.Request.{Request}
use Rattle.sheep_world.specs.World.{Host}
use Rattle.sheep_world.specs.RunsWithAsks.{Move}
use Rattle.overlap_law.specs.CommandDisks.{opened_in, IsOpenAtLast, IsOpenAtStage, IsOpenAtCourse}
use Rattle.overlap_law.specs.MomentChanges as moments
use Rattle.overlap_law.specs.MomentChanges.{RunsAreInRange}
use Rattle.overlap_law.specs.Past.{MomentWithPast, run_with_past}
use Rattle.overlap_law.specs.WriterClaims.{HasLock, HasPlace, IsInPlaceOf, IsMakingKept, IsPublicationKept, IsReplacing, IsStageKept}
use Rattle.overlap_law.proofs.ClaimsInRuns.{claims-in_run}
use Rattle.overlap_law.proofs.CountedEntries.{times}
use Rattle.overlap_law.proofs.DraftsOfLogs.{state_reserved}
use Rattle.overlap_law.proofs.LastEntriesOfNodes.{fits, last_kept, on_way, placed, some_there}
use Rattle.overlap_law.proofs.OpenDisksInRuns.{disks_fit-in_run}
use Rattle.overlap_law.proofs.PlacesToCome.{place_lock}
use Rattle.overlap_law.proofs.PlaceTables.{IsPlaceStage}
use Rattle.overlap_law.proofs.ReservedMembers.{StandsReserved}

-- ---- the last entry

-- an entry is that of a snapshot, by what is open and what is to be open then
pub record IsLastOf (opened : Option (Bool × ℕ)) (inode : Content) (entry : Entry) : Type 0 where
  pub by : NodeId
  pub old : Vid
  pub of : Vid
  pub is : entry ≡ entries.Snapshot by old of
  pub opens : opened ≡ Some (false, old.0)
  pub own : inode.vid ≡ of.0

pub last_of : (opened : Option (Bool × ℕ)) (inode : Content) (entry : Entry) → IsOpenAtLast opened entry (Some inode)
    → IsLastOf opened inode entry
last_of opened inode (entries.Format members) fits = absurd (cc (fits))
last_of opened inode (entries.Join node zone vnodes) fits = absurd (cc (fits))
last_of opened inode (entries.Leave node) fits = absurd (cc (fits))
last_of opened inode (entries.Reweight node vnodes) fits = absurd (cc (fits))
last_of opened inode (entries.Recovered node epoch) fits = absurd (cc (fits))
last_of opened inode (entries.Reserve by session name origin) fits = absurd (cc (fits))
last_of opened inode (entries.Publish by vid) fits = absurd (cc (fits))
last_of opened inode (entries.Clone by vid) fits = absurd (cc (fits))
last_of opened inode (entries.Snapshot by old vid) fits =
    record { by = by; old = old; of = vid; is = refl; opens = fits.0; own = fits.1 }
last_of opened inode (entries.Delete by session name tag) fits = absurd (cc (fits))
last_of opened inode (entries.Lock by session name tag) fits = absurd (cc (fits))
last_of opened inode (entries.Unlock by session vid) fits = absurd (cc (fits))

-- what takes a disk's place takes no other's
pub in_place_of : (one : ℕ) (source : Source) (old : Vid) (tag : List ℕ) → source ≡ sources.Snapshot old tag → IsInPlaceOf one source
    → old.0 ≡ one
in_place_of one source old tag from place = by_test (old.0 == one) refl (subst (IsInPlaceOf one) from place)
  where
    by_test : (b : Bool) → (old.0 == one) ≡ b → (found : List ℕ) × (cond b (Some tag) None ≡ Some found) → old.0 ≡ one
    by_test true same is = eqb-true old.0 one same
    by_test false apart is = let none = is.1 in absurd (cc (none))

-- an id that is reserved isn't locked
pub reserved_unlocked : (log : List Entry) (vid : ℕ) (r : Reservation) → StandsReserved log vid r → (outbox : List Entry) (me : NodeId)
    (session epoch : ℕ) → HasLock log outbox me session epoch vid → ⊥
reserved_unlocked log vid r stands outbox me session epoch lock =
    let works = held-works log vid _ lock.held in
    let reserved = state_reserved log vid r stands in
    cc (works, reserved)

module _ (script : List Statement) (range : RunsAreInRange script) (events : List Move) (moment : MomentWithPast)
    (is : run_with_past script events ≡ Some moment) (n : ℕ) (host : Host)
    (there : tree.get moment.world.hosts n ≡ Some host) (up : host.is_lost ≡ false) (req : ℕ) (request : Request) (op : Op)
    (got : tree.get host.node.requests req ≡ Some request) (command : request.course ≡ Commanding op) (inode : Content) where
  abbrev opened : Option (Bool × ℕ)
  opened = opened_in request.session host.node.sessions

  abbrev Locks : ℕ → ℕ → Type 0
  Locks epoch id = HasLock moment.world.log host.node.outbox host.node.me request.session epoch id

  abbrev Places : ℕ → ℕ → Type 0
  Places id old = HasPlace moment.world.log host.node.outbox host.node.me request.session (epoch_of host.node.peer.entries) id old

  -- what the command's session has then
  pub record HasPlaceHeld : Type 0 where
    pub old : Vid
    pub opens : opened_in request.session host.node.sessions ≡ Some (false, old.0)
    pub lock : HasLock moment.world.log host.node.outbox host.node.me request.session (epoch_of host.node.peer.entries) old.0
    pub place : HasPlace moment.world.log host.node.outbox host.node.me request.session (epoch_of host.node.peer.entries) inode.vid old.0

  -- ---- the inode is made

  making_held : (vid : Vid) (entry : Entry) → op.stage ≡ Working vid (Making entry (Some inode)) → HasPlaceHeld
  making_held vid entry at =
      let l = last_of opened inode entry
      (subst (IsOpenAtStage opened) at
      (subst (IsOpenAtCourse opened) command
      ((disks_fit-in_run script range events moment moment is moments.Still).each n host there up req request got))) in
      let at_so : op.stage ≡ Working vid (Making (entries.Snapshot l.by l.old l.of) (Some inode))
      = at ∙ ap (λ (e : Entry). Working vid (Making e (Some inode))) l.is in
      let kept : IsMakingKept moment.world.log host.node.outbox host.node.peer.entries (length host.node.peer.entries) host.node.me
      request.session (opened_in request.session host.node.sessions) vid (entries.Snapshot l.by l.old l.of) (Some inode)
      = subst (IsStageKept moment.world.log host.node.outbox host.node.peer.entries (length host.node.peer.entries) host.node.me
      request.session (opened_in request.session host.node.sessions)) at_so
      (((claims-in_run script range events moment moment is moments.Still).each n host there up).commands req request op got command) in
      record {
        old = l.old;
        opens = l.opens;
        lock = place_lock script range events moment is n host there up req request op got command vid l.old l.of l.by inode at_so;
        place = subst (λ (id : ℕ). Places id l.old.0) (ap (λ (v : Vid). v.0) (sym kept.0) ∙ sym l.own) kept.1;
      }

  -- ---- it is to be published

  module _ (entry : Entry) (at : op.stage ≡ Publishing entry (Some inode)) where
    abbrev last : IsLastOf (opened_in request.session host.node.sessions) inode entry
    last =
        last_of (opened_in request.session host.node.sessions) inode entry
        (fits script range events moment is n host there up req request op entry inode got command at)

    replaces : IsReplacing moment.world.log host.node.outbox host.node.peer.entries (length host.node.peer.entries) host.node.me
        request.session (opened_in request.session host.node.sessions) last.old last.of (entries.Snapshot last.by last.old last.of)
        (Some inode)
    replaces =
        subst (λ (e : Entry). IsPublicationKept moment.world.log host.node.outbox host.node.peer.entries (length host.node.peer.entries)
        host.node.me request.session (opened_in request.session host.node.sessions) e (Some inode)) last.is
        (last_kept script range events moment is n host there up req request op entry inode got command at)

    -- where the entry is in the log, and the node hasn't read it, the id is locked
    pub placed_lock : (place : ℕ) → length host.node.peer.entries ≤ place → slice_get moment.world.log place ≡ Some entry
        → HasLock moment.world.log host.node.outbox host.node.me request.session (epoch_of (take (place + 1) moment.world.log)) inode.vid
    placed_lock place behind there_so =
        subst (Locks (epoch_of (take (place + 1) moment.world.log))) (sym last.own)
        (replaces.placed place behind (there_so ∙ ap (λ (e : Entry). Some e) last.is))

    -- else it is to be put
    to_put : (r : Reservation) → StandsReserved moment.world.log inode.vid r → 1 ≤ times entry host.node.outbox
    to_put r stands = ⊎_elim
        (λ (some : 0 < times entry host.node.outbox). omega (arith, some))
        (λ (none : times entry host.node.outbox ≤ 0).
        let some = some_there script range events moment is n host there up req request op entry inode got command at
        (on_way script range events moment is n host there up req request op entry inode got command at) in
        let (p, at_p) = placed script range events moment is n host there up req request op entry inode got command at
        (omega (arith, some, none)) in
        absurd (reserved_unlocked moment.world.log inode.vid r stands host.node.outbox host.node.me request.session
        (epoch_of (take (length host.node.peer.entries + p + 1) moment.world.log))
        (placed_lock (length host.node.peer.entries + p) (omega arith) at_p)))
        (cases_lt 0 (times entry host.node.outbox))

    publishing_held : (r : Reservation) → StandsReserved moment.world.log inode.vid r → HasPlaceHeld
    publishing_held r stands =
        let some = subst (λ (e : Entry). 1 ≤ times e host.node.outbox) last.is (to_put r stands) in
        record {
          old = last.old;
          opens = last.opens;
          lock = replaces.of_disk some;
          place = subst (λ (id : ℕ). Places id last.old.0) (sym last.own) (replaces.to_put some);
        }

  -- ---- either

  pub place_held : (r : Reservation) → StandsReserved moment.world.log inode.vid r → IsPlaceStage inode op.stage → HasPlaceHeld
  place_held r stands place = by_stage op.stage refl place
    where
      by_stage : (stage : OpStage) → op.stage ≡ stage → IsPlaceStage inode stage → HasPlaceHeld
      by_stage (Asked entry) at (inl never) = absurd never
      by_stage (Asked entry) at (inr never) = absurd never
      by_stage (Working vid (Opening snapshot ids header)) at (inl never) = absurd never
      by_stage (Working vid (WritingBack other)) at (inl never) = absurd never
      by_stage (Working vid (Tagging before other)) at (inl never) = absurd never
      by_stage (Working vid (Copying ids header)) at (inl never) = absurd never
      by_stage (Working vid (Making entry made)) at (inl own) =
          making_held vid entry (at ∙ ap (λ (o : Option Content). Working vid (Making entry o)) own)
      by_stage (Working vid task) at (inr never) = absurd never
      by_stage (Publishing entry made) at (inl never) = absurd never
      by_stage (Publishing entry made) at (inr own) =
          publishing_held entry (at ∙ ap (λ (o : Option Content). Publishing entry o) own) r stands
      by_stage (Answered change) at (inl never) = absurd never
      by_stage (Answered change) at (inr never) = absurd never
