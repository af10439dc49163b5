-- The inode of an id that a command publishes, or is to publish, was created by the epoch of its node: in each run in range, at each
-- moment on the way of an event. For the command waits for the publication once its node has learned that the inode is made.
use Rattle.std.proofs.Common.{◌≡◌, inl, inr, ⊎_elim, ℕ, Bool, true, false, List, []}
use Rattle.std.proofs.Common.{Option, Some, None, length, refl, sym, ap, subst, ◌∙◌}
use Rattle.std.specs.Ordering.{nat_cmp}
use Rattle.std.specs.FinMap as tree
use Rattle.std.proofs.lemmas.Option.{same_Some}
use Rattle.proof_tools.proofs.FiniteMaps.{get-insert_same}
use Rattle.object_id.specs.declared.entry.Entry.{Entry}
use Rattle.object_id.specs.declared.entry.Entry.TheVariants as entries
use Rattle.object_id.specs.declared.node.NodeId.{NodeId}
use Rattle.object_id.specs.declared.oid.Vid.{Vid}
use Rattle.object_id.specs.Oid.{inode_number}
use Rattle.inode.specs.Layout.{Content}
use Rattle.cluster_script.specs.declared.statement.Statement.{Statement}
use Rattle.gateway.specs.Work.{is_making}
use Rattle.peer_proto.specs.declared.work.ObjWork.{ObjWork}
use Rattle.peer_proto.specs.Work.{oid_of}
use Rattle.vdi_ops.specs.InodeWorks.{create_inode}
use Rattle.vdi_ops.specs.Op.{OpStage}
use Rattle.sheep_node.specs.declared.course.Course.TheVariants.{Commanding}
use Rattle.sheep_node.specs.declared.course.Request.{Request}
use Rattle.sheep_node.specs.Changes.{Leads}
use Rattle.sheep_node.specs.StepState.{StepState}
use Rattle.sheep_node.specs.SessionQueues.{session_among}
use Rattle.sheep_node.proofs.OneWorkParts.{Requests, Sessions}
use Rattle.sheep_world.specs.Began.{Began}
use Rattle.sheep_world.specs.NodeCauses.{input_of_cause, host_with_node}
use Rattle.sheep_world.specs.RunsWithAsks.{Move}
use Rattle.overlap_law.specs.CommandDisks.{opened_in}
use Rattle.overlap_law.specs.Courses.{IsOfStage, IsCreatedNow}
use Rattle.overlap_law.specs.Drafts.{published_by}
use Rattle.overlap_law.specs.Each.{EachUp}
use Rattle.overlap_law.specs.Fates.{IsCreated}
use Rattle.overlap_law.specs.Holders.{is_create_work}
use Rattle.overlap_law.specs.MomentChanges.{MomentTrail, RunsAreInRange}
use Rattle.overlap_law.specs.Past.{MomentWithPast, first_moment, run_with_past}
use Rattle.overlap_law.specs.StepMoments.{SteppingNode, IsStepping, StepsByChanges, first_in_step, moment_in_step}
use Rattle.overlap_law.specs.TiedAttempts.{IsTied}
use Rattle.overlap_law.specs.WriterClaims.{IsStageKept, IsMakingKept}
use Rattle.overlap_law.proofs.AnswersInMoments.{not_lost}
use Rattle.overlap_law.proofs.CausedWorks.{by_changes}
use Rattle.overlap_law.proofs.ClaimsInRuns.{claims-in_run}
use Rattle.overlap_law.proofs.DoneMade.{done_made}
use Rattle.overlap_law.proofs.InodesOfGuests.{TheirInodesAreCreated, HaveCreatedNext, inodes-on_the_way}
use Rattle.overlap_law.proofs.LastReads.{past-in_run}
use Rattle.overlap_law.proofs.LatestInRuns.{latest-in_run}
use Rattle.overlap_law.proofs.NoRecoveredDue.{began-with_past}
use Rattle.overlap_law.proofs.OpeningOverlap.{no_request}
use Rattle.overlap_law.proofs.PublishingStages.{published_in_course, HadPublication, IsMadeNow, publication_from}
use Rattle.overlap_law.proofs.ReadInMoments.{HostsAreSound, kept_sound}
use Rattle.overlap_law.proofs.RunsByChanges.{on_the_way}
use Rattle.overlap_law.proofs.TiedInRuns.{kept_tied}
use Rattle.overlap_law.proofs.WaitedInRuns.{works_wait}
use Rattle.overlap_law.proofs.WaitedSteps.{no_id, Waits}
use Rattle.overlap_law.proofs.WorkedInRuns.{holds_then}
use Rattle.overlap_law.proofs.WorksAtCourses.{IsAt}

-- the inodes of the ids that commands publish were created
abbrev pub PublicationsAreCreated : MomentWithPast → Type 0
PublicationsAreCreated moment = EachUp moment.world.hosts
    (λ n node. (q : ℕ) (request : Request) (vid : Vid) → tree.get node.requests q ≡ Some request
    → published_in_course request.course ≡ Some vid → IsCreated moment.past.attempts (inode_number vid.0) node.peer.epoch)

-- ---- what is made

-- an entry that follows the making of an inode is of its id
made_for : (log outbox read : List Entry) (from : ℕ) (me : NodeId) (session : ℕ) (opened : Option (Bool × ℕ)) (of vid : Vid) (entry : Entry)
    (made : Option Content) → IsMakingKept log outbox read from me session opened of entry made → published_by entry ≡ Some vid → vid ≡ of
made_for log outbox read from me session opened of vid (entries.Format members) made kept says = absurd kept
made_for log outbox read from me session opened of vid (entries.Join node zone vnodes) made kept says = absurd kept
made_for log outbox read from me session opened of vid (entries.Leave node) made kept says = absurd kept
made_for log outbox read from me session opened of vid (entries.Reweight node vnodes) made kept says = absurd kept
made_for log outbox read from me session opened of vid (entries.Recovered node epoch) made kept says = absurd kept
made_for log outbox read from me session opened of vid (entries.Reserve by number name origin) made kept says = absurd kept
made_for log outbox read from me session opened of vid (entries.Publish by id) made kept says = sym (same_Some id vid says) ∙ kept.0
made_for log outbox read from me session opened of vid (entries.Clone by id) made kept says = sym (same_Some id vid says) ∙ kept.0
made_for log outbox read from me session opened of vid (entries.Snapshot by old id) made kept says = sym (same_Some id vid says) ∙ kept.0
made_for log outbox read from me session opened of vid (entries.Delete by number name tag) made kept says = absurd kept
made_for log outbox read from me session opened of vid (entries.Lock by number name tag) made kept says = absurd kept
made_for log outbox read from me session opened of vid (entries.Unlock by number id) made kept says = absurd kept

-- ---- in the middle of a step

module _ (script : List Statement) (range : RunsAreInRange script) (events : List Move) (start : MomentWithPast)
    (is : run_with_past script events ≡ Some start) where
  began : Began script start.world
  began = began-with_past script events start is

  module _ (on : SteppingNode) (steps : IsStepping script start.world on) (by : StepsByChanges on.cause) (so_far : StepState)
      (leads : Leads (input_of_cause on.cause) on.host.node (first_in_step on) so_far)
      (trail : MomentTrail script start (moment_in_step script on start so_far)) (q : ℕ) (vid : Vid)
      (made : IsMadeNow (input_of_cause on.cause) on.host.node q vid so_far) where
    abbrev here : MomentWithPast
    here = moment_in_step script on start so_far

    seat : tree.get (moment_in_step script on start so_far).world.hosts on.n ≡ Some (host_with_node on.host so_far.node)
    seat = get-insert_same start.world.hosts on.n (host_with_node on.host so_far.node)

    stands : on.host.is_lost ≡ false
    stands = not_lost on.host steps.up

    -- its work is the create of the granted id's inode
    creation : IsCreatedNow [] no_id [] made.making.of made.making.made made.work.work
    creation =
        subst (λ (stage : OpStage). IsOfStage [] no_id [] (session_among made.session so_far.node.sessions).disk stage made.work.work)
        made.making.at
        (subst (λ (o : Option Request). IsAt Waits so_far.node.sessions o made.work.work) made.ends.ends.request
        (works_wait script range start.world began on.n on.host steps.there steps.up on.cause (by_changes on.cause by) steps.caused
        so_far leads q made.work.work (inl (made.work, made.ends.ends.learns.there, refl)))).0

    of_vid : vid ≡ made.making.of
    of_vid =
        let claims = (claims-in_run script range events start here is trail).each on.n (host_with_node on.host so_far.node) seat stands in
        made_for here.world.log so_far.node.outbox so_far.node.peer.entries (length so_far.node.peer.entries) so_far.node.me made.session
        (opened_in made.session so_far.node.sessions) made.making.of vid made.making.entry made.making.made
        (subst (IsStageKept here.world.log so_far.node.outbox so_far.node.peer.entries (length so_far.node.peer.entries) so_far.node.me
        made.session
        (opened_in made.session so_far.node.sessions)) made.making.at
        (claims.commands q (record { session = made.session; course = Commanding made.op }) made.op made.ends.ends.request refl))
        made.making.says

    making : is_making made.work.work ≡ true
    making = ap is_making creation.work_of

    created_now : IsCreated here.past.attempts (inode_number vid.0) so_far.node.peer.epoch
    created_now =
        let holds = holds_then script range events start is in
        let (j, attempt, last, opened) = (latest-in_run script range events start here is trail).each on.n
        (host_with_node on.host so_far.node) seat stands
        q made.work made.attempt made.ends.ends.learns.there making made.ends.ends.learns.open_so in
        let work_so : attempt.work ≡ create_inode creation.inode = opened.same.work ∙ creation.work_of in
        let me : attempt.gateway.0 ≡ on.n
        = ap (λ (node : NodeId). node.0) opened.same.gateway
        ∙ ((on_the_way script HostsAreSound (kept_sound script range) events start here is trail).each on.n
        (host_with_node on.host so_far.node) seat).read.own in
        record {
          place = j;
          create = attempt;
          there = last.there;
          object = ap (λ (w : ObjWork). oid_of w) work_so ∙ ap inode_number (creation.own ∙ ap (λ (v : Vid). v.0) (sym of_vid));
          creating = ap is_create_work work_so;
          made = done_made script range start began holds.tied holds.fit on steps by so_far leads q made.number made.work made.attempt
              made.status
              made.ends.ends.learns made.ends.done j attempt last.there opened
              ((on_the_way script IsTied (kept_tied script range) events start here is trail).fates.whole j attempt last.there);
          epoch_of_it = past-in_run script range events start here is trail on.n (host_with_node on.host so_far.node) seat j attempt
              last.there me;
        }

-- ---- every run

-- a request has an id to publish
record HasPublication (requests : Requests) (q vid : ℕ) : Type 0 where
  request : Request
  there : tree.get requests q ≡ Some request
  says : published_in_course request.course ≡ Some (record { 0 = vid })

abbrev PublishedBy : Requests → Sessions → ℕ → ℕ → Type 0
PublishedBy requests sessions q vid = HasPublication requests q vid

module _ (script : List Statement) (range : RunsAreInRange script) where
  none_published : (q vid : ℕ) → PublishedBy tree.empty tree.empty q vid → ⊥
  none_published q vid is =
      let empty : tree.get (tree.empty {X = Request} {R = nat_cmp}) q ≡ None = tree.get-empty {X = Request} nat_cmp q in
      let there = is.there in
      absurd (cc (empty, there))

  opens_so : TheirInodesAreCreated PublishedBy (first_moment script)
  opens_so n host there up q vid is = no_request script n host there q is.request is.there

  comes_so : HaveCreatedNext PublishedBy script
  comes_so events start ran on so_far next steps by within trail q vid is = ⊎_elim
      (λ (had : HadPublication q (record { 0 = vid }) so_far).
      inl (record { request = had.request; there = had.there; says = had.says }))
      (λ (made : IsMadeNow (input_of_cause on.cause) on.host.node q (record { 0 = vid }) so_far).
      inr (created_now script range events start ran on steps by so_far within.leads trail q (record { 0 = vid }) made))
      (publication_from q (record { 0 = vid }) (input_of_cause on.cause) on.host.node so_far next within.change is.request is.there is.says)

  pub publications-on_the_way : (events : List Move) (start moment : MomentWithPast) → run_with_past script events ≡ Some start
      → MomentTrail script start moment → PublicationsAreCreated moment
  publications-on_the_way events start moment ran trail n host there up q request vid got says =
      inodes-on_the_way PublishedBy script range none_published opens_so comes_so events start moment ran trail n host there up q vid.0
      (record { request = request; there = got; says = says })
