-- In each run in range, at each moment on the way of an event, a check that hasn't told what it found has a work at its node's gateway.
use Rattle.std.proofs.Common.{◌≡◌, ◌≢◌, ⊎_elim, ℕ, ◌<◌, false, List, [], ◌∷◌, All, Contains, Option, Some, None, refl, sym, ap, subst, ◌∙◌}
use Rattle.std.specs.Ordering.{nat_cmp}
use Rattle.std.specs.FinMap as tree
use Rattle.std.proofs.lemmas.List.Elements.{All-head}
use Rattle.std.proofs.lemmas.Option.{same_Some}
use Rattle.proof_tools.proofs.FiniteMaps.{get-insert_cases, get-insert_other, get-insert_same}
use Rattle.proof_tools.proofs.Lists.{Contains-head}
use Rattle.object_id.specs.declared.limits.TheConstants.{OBJECTS_MAX}
use Rattle.object_id.specs.Oid.{IsVid, kind_of, object_number}
use Rattle.cluster_script.specs.declared.statement.Statement.{Statement}
use Rattle.disk_check.specs.Check.{Check, CheckStage, CheckStep, Comparing, WritingBack, Answered, begin_check, begun_check, check_done_at}
use Rattle.disk_check.specs.Check.{check_on, check_on_done, left_of, read_copies, write_value}
use Rattle.disk_check.specs.Table.{own_indexes}
use Rattle.disk_check.specs.Value.{pieces_in, value_of}
use Rattle.inode.specs.Layout.{Content}
use Rattle.guest_driver.specs.declared.disk.Disk.{Disk}
use Rattle.guest_driver.specs.InodeQueue.{is_inode, is_on_inode}
use Rattle.peer_proto.specs.declared.guest.GuestRsp.TheVariants.{Checked}
use Rattle.peer_proto.specs.Work.{oid_of}
use Rattle.peer_proto.specs.declared.work.ObjWork.{ObjWork}
use Rattle.gateway.specs.State.{Gateway}
use Rattle.sheep_node.specs.declared.course.Course.TheVariants.{Driving, Commanding, Checking, DoingWork, AwaitingDecision}
use Rattle.sheep_node.specs.declared.course.Request.{Request}
use Rattle.sheep_node.specs.declared.input.Input.{Input}
use Rattle.sheep_node.specs.Changes.{Outcome, ToWork, ToReply, RequestSteps, DiskBegins, DiskGoesOn, CommandBegins, CommandGoesOn}
use Rattle.sheep_node.specs.Changes.{CommandDecided}
use Rattle.sheep_node.specs.Changes.{CheckBegins, CheckGoesOn, ObjectBegins, ObjectIsDone, EntryBegins, EntryDecided, outcome_of_check}
use Rattle.sheep_node.specs.Courses.{inode_open}
use Rattle.sheep_node.specs.SessionQueues.{session_among}
use Rattle.sheep_node.specs.State.{Node}
use Rattle.sheep_node.specs.StepState.{StepState}
use Rattle.sheep_node.proofs.OneWorkParts.{Requests}
use Rattle.sheep_world.specs.NodeCauses.{input_of_cause, host_with_node}
use Rattle.sheep_world.specs.World.{Host}
use Rattle.sheep_world.specs.RunsWithAsks.{Move}
use Rattle.overlap_law.specs.MomentChanges.{MomentChange, MomentTrail, RunsAreInRange}
use Rattle.overlap_law.specs.Past.{MomentWithPast, run_with_past}
use Rattle.overlap_law.specs.StepMoments.{moment_in_step}
use Rattle.overlap_law.specs.Words.{Hosts}
use Rattle.overlap_law.proofs.AloneChecksComing.{own_few}
use Rattle.overlap_law.proofs.AloneChecksOpen.{HaveOpenWorks, WaitsForWork, change_open, put_waits}
use Rattle.overlap_law.proofs.CausedWorks.{HasWellWorks}
use Rattle.overlap_law.proofs.EntryWorks.{known_disk}
use Rattle.overlap_law.proofs.GuestsInMoments.{GuestsChange, GuestsStay, GuestsAreNone, IsGoingOn, IsBetween, between}
use Rattle.overlap_law.proofs.KeptInRuns.{kept_on_the_way}
use Rattle.overlap_law.proofs.KnownDisks.{Few, kind-of_object}
use Rattle.overlap_law.proofs.NoRecoveredDue.{began-with_past}
use Rattle.overlap_law.proofs.OpeningOverlap.{no_request}
use Rattle.overlap_law.proofs.WorksInMoments.{well_along}

-- ---- a check's works are on data objects

on_object : (vid index : ℕ) (work : ObjWork) → IsVid vid → index < OBJECTS_MAX → oid_of work ≡ object_number vid index
    → is_on_inode work ≡ false
on_object vid index work id few of = ap (λ (oid : ℕ). is_inode (kind_of oid)) of ∙ ap is_inode (kind-of_object vid index id few)

-- the open disk of an inode
open_with : (o : Option Disk) (inode : Content) → inode_open o ≡ Some inode → (disk : Disk) × (o ≡ Some disk) × (disk.inode ≡ inode)
open_with None inode is = absurd (cc (is))
open_with (Some disk) inode is = (disk, refl, same_Some disk.inode inode is)

module _ (input : Input) (node : Node) (so_far : StepState) (well : HasWellWorks so_far.node) where
  begins_plain : (disk : Disk) (session : ℕ) → (session_among session so_far.node.sessions).disk ≡ Some disk → (work : ObjWork)
      → outcome_of_check (begin_check disk.inode).act ≡ ToWork work → is_on_inode work ≡ false
  unfolding begin_check
  begins_plain disk session opened work = by_own (own_indexes disk.inode) refl
    where
      by_own : (own : List ℕ) → own_indexes disk.inode ≡ own → outcome_of_check (check_on (begun_check disk.inode) own).act ≡ ToWork work
          → is_on_inode work ≡ false
      by_own [] at to =
          let both : ToReply (Checked (begun_check disk.inode).found) ≡ ToWork work = to in
          absurd (cc (both))
      by_own (index ∷ later) at to =
          let both : ToWork (read_copies (begun_check disk.inode) index) ≡ ToWork work = to in
          let same : read_copies (begun_check disk.inode) index ≡ work = cc (both) in
          let known = known_disk so_far.node well session disk opened in
          on_object disk.inode.vid index work known.disk.id
          (own_few disk known.count index (subst (λ (list : List ℕ). Contains list index) (sym at) (Contains-head index later)))
          (ap oid_of (sym same))

  goes_plain : (check : Check) → IsVid check.vid → All Few (left_of check.stage) → (bytes : List ℕ) (step : CheckStep)
      → check_on_done bytes check ≡ Some step → (work : ObjWork) → outcome_of_check step.act ≡ ToWork work → is_on_inode work ≡ false
  unfolding check_on_done
  goes_plain check id few bytes step goes work to = by_stage check.stage few goes
    where
      acts : (made : CheckStep) → Some made ≡ Some step → outcome_of_check made.act ≡ ToWork work
      acts made so = ap (λ (s : CheckStep). outcome_of_check s.act) (same_Some made step so) ∙ to

      by_stage : (stage : CheckStage) → All Few (left_of stage) → check_done_at bytes check stage ≡ Some step → is_on_inode work ≡ false
      by_stage (Comparing index later) few goes =
          let both : ToWork (write_value check index (value_of check.spec.policy (pieces_in check.spec bytes)))
          ≡ ToWork work = acts _ goes in
          let same : write_value check index (value_of check.spec.policy (pieces_in check.spec bytes)) ≡ work = cc (both) in
          on_object check.vid index work id (All-head Few index later few) (ap oid_of (sym same))
      by_stage (WritingBack []) few goes =
          let both : ToReply (Checked check.found) ≡ ToWork work = acts _ goes in absurd (cc (both))
      by_stage (WritingBack (index ∷ later)) few goes =
          let both : ToWork (read_copies check index) ≡ ToWork work = acts _ goes in
          let same : read_copies check index ≡ work = cc (both) in
          on_object check.vid index work id (All-head Few index later few) (ap oid_of (sym same))
      by_stage Answered few goes = absurd (cc (goes))

  plain_by : (session q : ℕ) (outcome : Outcome) (work : ObjWork) (moved : StepState)
      → RequestSteps input node so_far session q outcome moved → outcome ≡ ToWork work → WaitsForWork moved.node.requests q
      → is_on_inode work ≡ false
  plain_by session q outcome work moved (DiskBegins ask disk there on may) to w =
      absurd (put_waits so_far.node.requests q session _ (λ check same. cc (same)) w)
  plain_by session q outcome work moved (DiskGoesOn number ended attempt status bytes driver disk step ends on is) to w =
      absurd (put_waits so_far.node.requests q session (Driving step.driver) (λ check same. cc (same)) w)
  plain_by session q outcome work moved (CommandBegins ask step arrival is) to w =
      absurd (put_waits so_far.node.requests q session (Commanding step.op) (λ check same. cc (same)) w)
  plain_by session q outcome work moved (CommandGoesOn number ended attempt status bytes op step ends is) to w =
      absurd (put_waits so_far.node.requests q session (Commanding step.op) (λ check same. cc (same)) w)
  plain_by session q outcome work moved (CommandDecided entry op step from read there waits is) to w =
      absurd (put_waits so_far.node.requests q session (Commanding step.op) (λ check same. cc (same)) w)
  plain_by session q outcome work moved (CheckBegins inode arrival on) to w =
      let (disk, opened, same) = open_with (session_among session so_far.node.sessions).disk inode on in
      begins_plain disk session opened work (ap (λ (i : Content). outcome_of_check (begin_check i).act) same ∙ to)
  plain_by session q outcome work moved (CheckGoesOn number ended attempt status bytes check step ends goes) to w =
      let known = well.on_known.courses q (record { session = session; course = Checking check }) ends.ends.request in
      goes_plain check known.disk.id known.within bytes step goes work to
  plain_by session q outcome work moved (ObjectBegins asked arrival) to w =
      absurd (put_waits so_far.node.requests q session (DoingWork asked) (λ check same. cc (same)) w)
  plain_by session q outcome work moved (ObjectIsDone number ended attempt status bytes asked ends) to w = absurd (cc (to))
  plain_by session q outcome work moved (EntryBegins entry arrival) to w =
      absurd (put_waits so_far.node.requests q session (AwaitingDecision entry) (λ check same. cc (same)) w)
  plain_by session q outcome work moved (EntryDecided entry wanted from read there waits) to w = absurd (cc (to))

-- ---- each change

-- at each node
abbrev pub ChecksHaveWorks : Hosts → Type 0
ChecksHaveWorks hosts = (n : ℕ) (host : Host) → tree.get hosts n ≡ Some host → HaveOpenWorks host.node.gateway.works host.node.requests

abbrev HaveWorks : MomentWithPast → Type 0
HaveWorks moment = ChecksHaveWorks moment.world.hosts

module _ (script : List Statement) (range : RunsAreInRange script) (events : List Move) (start before after : MomentWithPast)
    (ran : run_with_past script events ≡ Some start) (trail : MomentTrail script start before)
    (change : MomentChange script start before after) (all : ChecksHaveWorks before.world.hosts) where
  goes : IsGoingOn script start before after → HaveWorks after
  goes g = subst HaveWorks (sym g.after_so) here
    where
      was : Host
      was = host_with_node g.stepping.host g.so_far.node

      was_there : tree.get (moment_in_step script g.stepping start g.so_far).world.hosts g.stepping.n
          ≡ Some (host_with_node g.stepping.host g.so_far.node)
      was_there = get-insert_same start.world.hosts g.stepping.n (host_with_node g.stepping.host g.so_far.node)

      had : HaveWorks (moment_in_step script g.stepping start g.so_far)
      had = subst HaveWorks g.before_so all

      well : HasWellWorks g.so_far.node
      well =
          well_along script range start (began-with_past script events start ran) (subst (MomentTrail script start) g.before_so trail)
          g.stepping.n (host_with_node g.stepping.host g.so_far.node) was_there

      stepped : HaveOpenWorks g.next.node.gateway.works g.next.node.requests
      stepped =
          change_open (input_of_cause g.stepping.cause) g.stepping.host.node g.so_far
          (had g.stepping.n (host_with_node g.stepping.host g.so_far.node) was_there)
          (λ session q work moved steps w.
          plain_by (input_of_cause g.stepping.cause) g.stepping.host.node g.so_far well session q (ToWork work) work moved steps refl w)
          g.next g.within.change

      here : HaveWorks (moment_in_step script g.stepping start g.next)
      here n host at = ⊎_elim
          (λ (mine : (n ≡ g.stepping.n) × (host_with_node g.stepping.host g.next.node ≡ host)).
          subst (λ (h : Host). HaveOpenWorks h.node.gateway.works h.node.requests) mine.1 stepped)
          (λ (other : (n ≢ g.stepping.n) × (tree.get start.world.hosts n ≡ Some host)).
          had n host
          (get-insert_other start.world.hosts g.stepping.n (host_with_node g.stepping.host g.so_far.node) n other.0 ∙ other.1))
          (get-insert_cases start.world.hosts g.stepping.n (host_with_node g.stepping.host g.next.node) n host at)

  by_guests : (n : ℕ) (host : Host) → GuestsChange before n host → HaveOpenWorks host.node.gateway.works host.node.requests
  by_guests n host (GuestsStay was was_there still gateway sessions requests) =
      subst (λ (r : Requests). HaveOpenWorks host.node.gateway.works r) (sym requests)
      (subst (λ (g : Gateway). HaveOpenWorks g.works was.node.requests) (sym gateway) (all n was was_there))
  by_guests n host (GuestsAreNone none requests) = λ req w.
      let empty = ap (λ (r : Requests). tree.get r req) requests ∙ tree.get-empty {X = Request} nat_cmp req in
      let got = w.got in
      absurd (cc (empty, got))

  works_stay : HaveWorks after
  works_stay = ⊎_elim
      (λ (g : IsGoingOn script start before after). goes g)
      (λ (b : IsBetween before after). λ n host at. by_guests n host (b.0 n host at))
      (between script start change)

-- ---- every run

module _ (script : List Statement) (range : RunsAreInRange script) where
  pub open_works-in_run : (events : List Move) (start moment : MomentWithPast) → run_with_past script events ≡ Some start
      → MomentTrail script start moment → ChecksHaveWorks moment.world.hosts
  open_works-in_run =
      kept_on_the_way script HaveWorks
      (λ n host at req w. no_request script n host at req (record { session = w.session; course = Checking w.check }) w.got)
      (λ events start before after ran trail change all. works_stay script range events start before after ran trail change all)
