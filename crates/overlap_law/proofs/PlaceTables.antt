-- While a command makes the inode that is to take its open disk's place, and while it waits for the publication, the session has that disk
-- open, and the inode has its table: the tag went to the open disk, and no read or write goes on beside the command.
use Rattle.std.proofs.Common.{◌≡◌, ◌≢◌, ◌⊎◌, inl, inr, ⊎_elim, ℕ, Bool, false, List, [], ◌∷◌, ◌++◌, Option, Some, None, true}
use Rattle.std.proofs.Common.{refl, sym, ap, subst, ◌∙◌}
use Rattle.std.specs.Ordering.{nat_cmp}
use Rattle.std.specs.FinMap as tree
use Rattle.std.proofs.lemmas.Option.{same_Some}
use Rattle.proof_tools.proofs.FiniteMaps.{get-insert_same, get-insert_other, get-insert_cases}
use Rattle.object_id.specs.declared.entry.Entry.{Entry}
use Rattle.object_id.specs.declared.entry.Entry.TheVariants.{Format, Join, Leave, Reweight, Recovered, Reserve, Publish, Clone, Snapshot}
use Rattle.object_id.specs.declared.entry.Entry.TheVariants.{Delete, Lock, Unlock}
use Rattle.cluster_script.specs.declared.statement.Statement.{Statement}
use Rattle.guest_driver.specs.declared.disk.Disk.{Disk}
use Rattle.inode.specs.Layout.{Content}
use Rattle.vdi_ops.specs.Op.{Task, Opening, WritingBack, Tagging, Copying, Making, OpStage, Asked, Working, Publishing, Answered, Op}
use Rattle.sheep_node.specs.declared.course.Course.{Course}
use Rattle.sheep_node.specs.declared.course.Course.TheVariants.{Driving, Commanding}
use Rattle.sheep_node.specs.declared.course.Request.{Request}
use Rattle.sheep_node.specs.declared.session.Session.{Session}
use Rattle.sheep_node.specs.SessionQueues.{session_among, command_in}
use Rattle.sheep_node.specs.StepState.{StepState}
use Rattle.sheep_world.specs.Began.{Began}
use Rattle.sheep_world.specs.NodeCauses.{input_of_cause, host_with_node}
use Rattle.sheep_world.specs.World.{Host}
use Rattle.sheep_world.specs.RunsWithAsks.{Move}
use Rattle.overlap_law.specs.CommandDisks.{opened_as, opened_in, IsOpenAtLast, IsOpenAtStage, IsOpenAtCourse}
use Rattle.overlap_law.specs.Courses.{IsOfStage, IsTagged}
use Rattle.overlap_law.specs.MomentChanges as moments
use Rattle.overlap_law.specs.MomentChanges.{MomentChange, MomentTrail, RunsAreInRange}
use Rattle.overlap_law.specs.OpenedTables.{ReadsIt, WroteIt, ByWork, ByEntry}
use Rattle.overlap_law.specs.Past.{MomentWithPast, first_moment, moment_after, run_on, run_with_past}
use Rattle.overlap_law.specs.StepMoments.{moment_in_step}
use Rattle.overlap_law.proofs.AnswersInMoments.{not_lost}
use Rattle.overlap_law.proofs.CausedWorks.{HasWellWorks, by_changes}
use Rattle.overlap_law.proofs.DisksAfter.{DiskAfter, Stayed, Drove, Opened, disk_from}
use Rattle.overlap_law.proofs.GuestsInMoments.{GuestsChange, GuestsStay, GuestsAreNone, IsGoingOn, IsBetween, between}
use Rattle.overlap_law.proofs.MakingStages.{IsMakingStage, IsPublishingStage, WasTagging, WasMaking}
use Rattle.overlap_law.proofs.MakingStages.{making_of_works, publishing_of_works}
use Rattle.overlap_law.proofs.MomentTrails.{event_trail}
use Rattle.overlap_law.proofs.NoRecoveredDue.{began-with_past}
use Rattle.overlap_law.proofs.OpenDisksInRuns.{disks_fit-in_run}
use Rattle.overlap_law.proofs.OpeningOverlap.{no_request}
use Rattle.overlap_law.proofs.RunsByEvents.{KeptByEvents, run-kept_by_events}
use Rattle.overlap_law.proofs.RunsWithOneMore.{run_with_one_more}
use Rattle.overlap_law.proofs.StagesFrom.{ComesNow, stage_from}
use Rattle.overlap_law.proofs.WaitedInRuns.{works_wait}
use Rattle.overlap_law.proofs.WaitedSteps.{no_id, Waits}
use Rattle.overlap_law.proofs.WorksAtCourses.{IsAt}
use Rattle.overlap_law.proofs.WorksInMoments.{well_along}
use Rattle.overlap_law.proofs.GoingOn.{next_by}

-- the inode is made, or is to be published
abbrev pub IsPlaceStage : Content → OpStage → Type 0
IsPlaceStage inode stage = IsMakingStage inode stage ⊎ IsPublishingStage inode stage

-- the open disk has its table
pub record HasTableOf (opened : Option Disk) (inode : Content) : Type 0 where
  pub disk : Disk
  pub there : opened ≡ Some disk
  pub same : disk.inode.table ≡ inode.table

abbrev pub PlacesHaveTables : MomentWithPast → Type 0
PlacesHaveTables moment = (n : ℕ) (host : Host) → tree.get moment.world.hosts n ≡ Some host → host.is_lost ≡ false → (req : ℕ)
    (request : Request) (op : Op) (inode : Content) → tree.get host.node.requests req ≡ Some request → request.course ≡ Commanding op
    → IsPlaceStage inode op.stage → HasTableOf (session_among request.session host.node.sessions).disk inode

-- ---- what is open then

last_open : (opened : Option (Bool × ℕ)) (inode : Content) (entry : Entry) (made : Option Content) → made ≡ Some inode
    → IsOpenAtLast opened entry made → (id : ℕ) × (opened ≡ Some (false, id))
last_open opened inode (Format members) made is fits = absurd (cc (is, fits))
last_open opened inode (Join node zone vnodes) made is fits = absurd (cc (is, fits))
last_open opened inode (Leave node) made is fits = absurd (cc (is, fits))
last_open opened inode (Reweight node vnodes) made is fits = absurd (cc (is, fits))
last_open opened inode (Recovered node epoch) made is fits = absurd (cc (is, fits))
last_open opened inode (Reserve by session name origin) made is fits = absurd (cc (is, fits))
last_open opened inode (Publish by vid) made is fits = absurd (cc (is, fits))
last_open opened inode (Clone by vid) made is fits = absurd (cc (is, fits))
last_open opened inode (Snapshot by old vid) made is fits = (old.0, fits.0)
last_open opened inode (Delete by session name tag) made is fits = absurd (cc (is, fits))
last_open opened inode (Lock by session name tag) made is fits = absurd (cc (is, fits))
last_open opened inode (Unlock by session vid) made is fits = absurd (cc (is, fits))

place_open : (opened : Option (Bool × ℕ)) (inode : Content) (stage : OpStage) → IsPlaceStage inode stage → IsOpenAtStage opened stage
    → (id : ℕ) × (opened ≡ Some (false, id))
place_open opened inode (Asked entry) (inl never) fits = absurd never
place_open opened inode (Asked entry) (inr never) fits = absurd never
place_open opened inode (Working vid (Opening snapshot ids header)) (inl never) fits = absurd never
place_open opened inode (Working vid (WritingBack other)) (inl never) fits = absurd never
place_open opened inode (Working vid (Tagging old other)) (inl never) fits = absurd never
place_open opened inode (Working vid (Copying ids header)) (inl never) fits = absurd never
place_open opened inode (Working vid (Making entry made)) (inl is) fits = last_open opened inode entry made is fits
place_open opened inode (Working vid task) (inr never) fits = absurd never
place_open opened inode (Publishing entry made) (inl never) fits = absurd never
place_open opened inode (Publishing entry made) (inr is) fits = last_open opened inode entry made is fits
place_open opened inode (Answered change) (inl never) fits = absurd never
place_open opened inode (Answered change) (inr never) fits = absurd never

open_disk : (o : Option Disk) (id : ℕ) → opened_as o ≡ Some (false, id) → (disk : Disk) × (o ≡ Some disk)
open_disk None id is = absurd (cc (is))
open_disk (Some disk) id is = (disk, refl)

-- ---- before a change

-- the disk is tagged for the inode, or that is made, or is to be published
abbrev IsDraftTask : Content → Task → Type 0
IsDraftTask inode (Opening snapshot ids header) = ⊥
IsDraftTask inode (WritingBack other) = ⊥
IsDraftTask inode (Tagging old other) = other ≡ inode
IsDraftTask inode (Copying ids header) = ⊥
IsDraftTask inode (Making entry made) = made ≡ Some inode

abbrev IsDraftStage : Content → OpStage → Type 0
IsDraftStage inode (Asked entry) = ⊥
IsDraftStage inode (Working vid task) = IsDraftTask inode task
IsDraftStage inode (Publishing entry made) = made ≡ Some inode
IsDraftStage inode (Answered change) = ⊥

place_is_draft : (inode : Content) (stage : OpStage) → IsPlaceStage inode stage → IsDraftStage inode stage
place_is_draft inode (Asked entry) (inl never) = absurd never
place_is_draft inode (Asked entry) (inr never) = absurd never
place_is_draft inode (Working vid (Opening snapshot ids header)) (inl never) = absurd never
place_is_draft inode (Working vid (WritingBack other)) (inl never) = absurd never
place_is_draft inode (Working vid (Tagging old other)) (inl never) = absurd never
place_is_draft inode (Working vid (Copying ids header)) (inl never) = absurd never
place_is_draft inode (Working vid (Making entry made)) (inl is) = is
place_is_draft inode (Working vid task) (inr never) = absurd never
place_is_draft inode (Publishing entry made) (inl never) = absurd never
place_is_draft inode (Publishing entry made) (inr is) = is
place_is_draft inode (Answered change) (inl never) = absurd never
place_is_draft inode (Answered change) (inr never) = absurd never

record WasDraft (so_far : StepState) (q req : ℕ) (inode : Content) : Type 0 where
  op : Op
  there : tree.get so_far.node.requests req ≡ Some (record { session = q; course = Commanding op })
  stage : IsDraftStage inode op.stage
  table : HasTableOf (session_among q so_far.node.sessions).disk inode

-- ---- over a change

module _ (script : List Statement) (range : RunsAreInRange script) (events : List Move) (start before after : MomentWithPast)
    (ran : run_with_past script events ≡ Some start) (trail : MomentTrail script start before)
    (change : MomentChange script start before after) (all : PlacesHaveTables before) where
  began : Began script start.world
  began = began-with_past script events start ran

  module _ (g : IsGoingOn script start before after) where
    abbrev was : Host
    was = host_with_node g.stepping.host g.so_far.node

    trail_here : MomentTrail script start (moment_in_step script g.stepping start g.so_far)
    trail_here = subst (MomentTrail script start) g.before_so trail

    was_there : tree.get (moment_in_step script g.stepping start g.so_far).world.hosts g.stepping.n
        ≡ Some (host_with_node g.stepping.host g.so_far.node)
    was_there = get-insert_same start.world.hosts g.stepping.n was

    before_there : tree.get before.world.hosts g.stepping.n ≡ Some (host_with_node g.stepping.host g.so_far.node)
    before_there = ap (λ (m : MomentWithPast). tree.get m.world.hosts g.stepping.n) g.before_so ∙ was_there

    well : HasWellWorks g.so_far.node
    well = well_along script range start began trail_here g.stepping.n was was_there

    module _ (q req : ℕ) (inode : Content) (draft : WasDraft g.so_far q req inode) where
      -- no other request of the session is there
      sole : (k : ℕ) (course : Course) → tree.get g.so_far.node.requests k ≡ Some (record { session = q; course = course })
          → course ≡ Commanding draft.op
      sole k course got =
          let named : command_in q g.so_far.node.sessions ≡ Some req
          = well.alone.named req (record { session = q; course = Commanding draft.op }) draft.there refl in
          let one : k ≡ req
          = well.alone.alone q req k (record { session = q; course = course }) named got refl in
          ap (λ (r : Request). r.course)
          (same_Some (record { session = q; course = course }) (record { session = q; course = Commanding draft.op })
          (sym got ∙ ap (tree.get g.so_far.node.requests) one ∙ draft.there))

      its_stage : (k : ℕ) (op : Op) → tree.get g.so_far.node.requests k ≡ Some (record { session = q; course = Commanding op })
          → (stage : OpStage) → op.stage ≡ stage → IsDraftStage inode stage
      its_stage k op got stage at =
          let same : Commanding op ≡ Commanding draft.op = sole k (Commanding op) got in
          let one : draft.op ≡ op = cc (same) in
          subst (IsDraftStage inode) (ap (λ (o : Op). o.stage) one ∙ at) draft.stage

      stays : (disk : Disk) → (session_among q g.next.node.sessions).disk ≡ Some disk
          → DiskAfter (input_of_cause g.stepping.cause) g.stepping.host.node g.so_far q disk
          → HasTableOf (session_among q g.next.node.sessions).disk inode
      stays disk opened (Stayed same) = record {
        disk = disk;
        there = opened;
        same = ap (λ (d : Disk). d.inode.table) (same_Some disk draft.table.disk (sym same ∙ draft.table.there)) ∙ draft.table.same;
      }
      stays disk opened (Drove old k number work current status bytes driver step ends on goes then) =
          let command = sole k (Driving driver) ends.ends.request in
          absurd (cc (command))
      stays disk opened (Opened (ByWork (ReadsIt k number work current status bytes op vid ids header ends at same))) =
          absurd (its_stage k op ends.ends.request (Working vid (Opening true ids header)) at)
      stays disk opened (Opened (ByWork (WroteIt k number work current status bytes op vid other ends at same))) =
          absurd (its_stage k op ends.ends.request (Working vid (WritingBack other)) at)
      stays disk opened (Opened (ByEntry k op entry other there at same)) =
          let its = its_stage k op there (Publishing entry (Some other)) at in
          record {
            disk = disk;
            there = opened;
            same = ap (λ (d : Disk). d.inode.table) same ∙ ap (λ (i : Content). i.table) (same_Some other inode its);
          }

    module _ (req : ℕ) (request : Request) (op : Op) (inode : Content) (got : tree.get g.next.node.requests req ≡ Some request)
        (command : request.course ≡ Commanding op) (place : IsPlaceStage inode op.stage)
        (fits : IsOpenAtCourse (opened_in request.session g.next.node.sessions) request.course) where
      own_table : WasDraft g.so_far request.session req inode
          → HasTableOf (session_among request.session g.next.node.sessions).disk inode
      own_table draft =
          let working = place_open (opened_in request.session g.next.node.sessions) inode op.stage place
          (subst (IsOpenAtCourse (opened_in request.session g.next.node.sessions)) command fits) in
          let (disk, opened) = open_disk (session_among request.session g.next.node.sessions).disk working.0 working.1 in
          stays request.session req inode draft disk opened
          (disk_from request.session disk (input_of_cause g.stepping.cause) g.stepping.host.node g.so_far g.next g.within.change opened)

      had : tree.get g.so_far.node.requests req ≡ Some request
          → HasTableOf (session_among request.session g.next.node.sessions).disk inode
      had there = own_table (record {
        op = op;
        there = there ∙ ap (λ (c : Course). Some (record { session = request.session; course = c })) command;
        stage = place_is_draft inode op.stage place;
        table = all g.stepping.n was before_there (not_lost g.stepping.host g.is.up) req request op inode there command place;
      })

      -- the tag was written just now
      tagged : ComesNow (WasTagging inode) (input_of_cause g.stepping.cause) g.stepping.host.node req request.session g.so_far
          → HasTableOf (session_among request.session g.next.node.sessions).disk inode
      tagged c =
          let (vid, old, at) = c.came in
          let waits : Waits (session_among request.session g.so_far.node.sessions).disk (Commanding c.op) c.work.work
          = subst (λ (o : Option Request). IsAt Waits g.so_far.node.sessions o c.work.work) c.ends.ends.request
          (works_wait script range start.world began g.stepping.n g.stepping.host g.is.there g.is.up g.stepping.cause
          (by_changes g.stepping.cause g.by) g.is.caused g.so_far g.within.leads req c.work.work
          (inl (c.work, c.ends.ends.learns.there, refl))) in
          let tag : IsTagged (session_among request.session g.so_far.node.sessions).disk old inode c.work.work
          = subst (λ (stage : OpStage). IsOfStage [] no_id [] (session_among request.session g.so_far.node.sessions).disk stage c.work.work)
          at waits.0 in
          own_table (record {
            op = c.op;
            there = c.ends.ends.request;
            stage = subst (IsDraftStage inode) (sym at) refl;
            table = record { disk = tag.disk; there = tag.there; same = sym tag.table };
          })

      -- or the inode was created
      made : ComesNow (WasMaking inode) (input_of_cause g.stepping.cause) g.stepping.host.node req request.session g.so_far
          → HasTableOf (session_among request.session g.next.node.sessions).disk inode
      made c =
          let (vid, entry, at) = c.came in
          own_table (record {
            op = c.op;
            there = c.ends.ends.request;
            stage = subst (IsDraftStage inode) (sym at) refl;
            table = all g.stepping.n was before_there (not_lost g.stepping.host g.is.up) req
                (record { session = request.session; course = Commanding c.op }) c.op inode c.ends.ends.request refl
                (inl (subst (IsMakingStage inode) (sym at) refl));
          })

      own_so : HasTableOf (session_among request.session g.next.node.sessions).disk inode
      own_so = ⊎_elim
          (λ (making : IsMakingStage inode op.stage). ⊎_elim
          (λ (there : tree.get g.so_far.node.requests req ≡ Some request). had there)
          (λ (c : ComesNow (WasTagging inode) (input_of_cause g.stepping.cause) g.stepping.host.node req request.session g.so_far).
          tagged c)
          (stage_from (IsMakingStage inode) (WasTagging inode) (making_of_works inode) req (input_of_cause g.stepping.cause)
          g.stepping.host.node g.so_far g.next g.within.change request op got command making))
          (λ (publishing : IsPublishingStage inode op.stage). ⊎_elim
          (λ (there : tree.get g.so_far.node.requests req ≡ Some request). had there)
          (λ (c : ComesNow (WasMaking inode) (input_of_cause g.stepping.cause) g.stepping.host.node req request.session g.so_far). made c)
          (stage_from (IsPublishingStage inode) (WasMaking inode) (publishing_of_works inode) req (input_of_cause g.stepping.cause)
          g.stepping.host.node g.so_far g.next g.within.change request op got command publishing))
          place

  places_after : PlacesHaveTables after
  places_after n host there up req request op inode got command place = ⊎_elim
      (λ (g : IsGoingOn script start before after). ⊎_elim
      (λ (own : (n ≡ g.stepping.n) × (host_with_node g.stepping.host g.next.node ≡ host)).
      subst (λ (h : Host). HasTableOf (session_among request.session h.node.sessions).disk inode) own.1
      (own_so g req request op inode (ap (λ (h : Host). tree.get h.node.requests req) own.1 ∙ got) command place
      (subst (λ (h : Host). IsOpenAtCourse (opened_in request.session h.node.sessions) request.course) (sym own.1)
      ((disks_fit-in_run script range events start after ran (moments.Then trail change)).each n host there up req request got))))
      (λ (other : (n ≢ g.stepping.n) × (tree.get start.world.hosts n ≡ Some host)).
      all n host
      (ap (λ (m : MomentWithPast). tree.get m.world.hosts n) g.before_so
      ∙ get-insert_other start.world.hosts g.stepping.n (host_with_node g.stepping.host g.so_far.node) n other.0 ∙ other.1)
      up req request op inode got command place)
      (get-insert_cases start.world.hosts g.stepping.n (host_with_node g.stepping.host g.next.node) n host
      (sym (ap (λ (m : MomentWithPast). tree.get m.world.hosts n) g.after_so) ∙ there)))
      (λ (b : IsBetween before after). by_guests (b.0 n host there))
      (between script start change)
    where
      by_guests : GuestsChange before n host → HasTableOf (session_among request.session host.node.sessions).disk inode
      by_guests (GuestsStay old old_there old_up gateway sessions requests) =
          subst (λ (s : tree.FinMap nat_cmp Session). HasTableOf (session_among request.session s).disk inode) (sym sessions)
          (all n old old_there (old_up up) req request op inode
          (ap (λ (r : tree.FinMap nat_cmp Request). tree.get r req) (sym requests) ∙ got) command place)
      by_guests (GuestsAreNone sessions none) =
          let empty : tree.get host.node.requests req ≡ None
          = ap (λ (r : tree.FinMap nat_cmp Request). tree.get r req) none ∙ tree.get-empty {X = Request} nat_cmp req in
          absurd (cc (empty, got))

-- ---- in every run

module _ (script : List Statement) (range : RunsAreInRange script) where
  along : (events : List Move) (start : MomentWithPast) → run_with_past script events ≡ Some start → {moment : MomentWithPast}
      → MomentTrail script start moment → PlacesHaveTables start → PlacesHaveTables moment
  along events start ran moments.Still all = all
  along events start ran (moments.Then {moment} {next} trail change) all =
      places_after script range events start moment next ran trail change (along events start ran trail all)

  -- a run ends in this moment, and it is so
  record IsSoAt (moment : MomentWithPast) : Type 0 where
    events : List Move
    run : run_with_past script events ≡ Some moment
    places : PlacesHaveTables moment

  opening : IsSoAt (first_moment script)
  unfolding run_with_past run_on
  opening = record {
    events = [];
    run = refl;
    places = λ n host there up req request op inode got command place. no_request script n host there req request got;
  }

  events_keep : KeptByEvents script IsSoAt
  events_keep event before made begun is holds = record {
    events = holds.events ++ is.move ∷ [];
    run = run_with_one_more script event made holds.events before is holds.run;
    places = along holds.events before holds.run
        (event_trail script is.move before (moment_after script event before made) (next_by script event before made is))
        holds.places;
  }

  pub places_in_run : (events : List Move) (start moment : MomentWithPast) → run_with_past script events ≡ Some start
      → MomentTrail script start moment → PlacesHaveTables moment
  places_in_run events start moment ran trail =
      along events start ran trail (run-kept_by_events script IsSoAt opening events_keep events start ran).places
