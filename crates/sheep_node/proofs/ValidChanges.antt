-- Every change leaves valid what a node has of disks, and sends 31 messages at most: so few does an attempt have by a policy that there
-- may be.
use Rattle.std.proofs.Common.{◌≡◌, ◌≢◌, ℕ, ◌+◌, ◌*◌, Option, Some, None, IfSome, sym, ap, subst, ◌∙◌, ⊎_elim, arith}
use Rattle.std.specs.FinMap as tree
use Rattle.std.proofs.lemmas.Bool.{cases_eq}
use Rattle.object_id.specs.declared.entry.Entry.{Entry}
use Rattle.inode.specs.Layout.{Content}
use Rattle.peer_proto.specs.declared.work.ObjWork.{ObjWork}
use Rattle.peer_service.specs.State.{Peer, effects_of}
use Rattle.peer_service.specs.LogReading.{decision_on}
use Rattle.gateway.specs.State.{Work, Gateway}
use Rattle.guest_driver.specs.declared.disk.Disk.{Disk}
use Rattle.guest_driver.specs.Driver.{begin_driver}
use Rattle.vdi_ops.specs.Op.{Stays, Opens, Closes, OpStage, Asked, Working, Publishing, Answered, disk_change_at, OpStep}
use Rattle.disk_check.specs.Check.{begin_check}
use Rattle.sheep_node.specs.declared.input.Input.{Input}
use Rattle.sheep_node.specs.declared.input.Input.TheVariants as inputs
use Rattle.sheep_node.specs.declared.course.Course.TheVariants.{Commanding, Checking, DoingWork, AwaitingDecision}
use Rattle.sheep_node.specs.State.{Node}
use Rattle.sheep_node.specs.StepState.{StepState, session_in}
use Rattle.sheep_node.specs.Courses.{disk_after, inode_open, after_command_step}
use Rattle.sheep_node.specs.LogReading.{entry_read}
use Rattle.sheep_node.specs.Validity.{EachIs}
use Rattle.sheep_node.specs.ValidDisks.{IsValidInput, WorkHasPolicy, IsValidInode, IsValidStage, disk_validity}
use Rattle.sheep_node.specs.Changes.{without_ended_work, IsApart, Outcome, ToWork, ToEntry, ToReply, RequestSteps, DiskBegins, DiskGoesOn, CommandBegins, CommandGoesOn, CommandDecided, CheckBegins, CheckGoesOn, ObjectBegins, ObjectIsDone, EntryBegins, EntryDecided, Leads, outcome_of_command}
use Rattle.sheep_node.proofs.MessageCounts.{attempt_few}
use Rattle.sheep_node.proofs.ReachedSteps.{changes_in}
use Rattle.sheep_node.proofs.ValidityChanges as walk
use Rattle.sheep_node.proofs.ValidityChanges.{AnySent, IsValidStepBy, IsKeptBy, session_valid, disk_valid, inode_valid, course_valid, sole_put, freed_valid, driven_valid, commanded_valid}
use Rattle.sheep_node.proofs.ValidSteps.{IsValidOutcome, IsValidCommandStep, HeadersAreValid, driver_begins-valid, driver_goes_on-valid, check_begins-valid, check_goes_on-valid, command_begins-valid, command_goes_on-valid, command_decided-valid}

abbrev pub IsValidSoFar : ℕ → StepState → Type 0
IsValidSoFar = IsValidStepBy disk_validity AnySent

-- what a command leaves open
left_has : (stage : OpStage) (disk : Option Disk) → IsValidStage stage → IfSome disk (λ (disk : Disk). IsValidInode disk.inode)
    → IfSome (disk_after (disk_change_at stage) disk) (λ (disk : Disk). IsValidInode disk.inode)
left_has (Asked entry) disk so was = was
left_has (Working vid task) disk so was = was
left_has (Publishing entry opened) disk so was = was
left_has (Answered Stays) disk so was = was
left_has (Answered (Opens snapshot inode)) disk so was = so
left_has (Answered Closes) disk so was = tt

commanded : {most : ℕ} (session req : ℕ) (step : OpStep) (so_far : StepState) → IsValidCommandStep step → IsValidSoFar most so_far
    → IsValidSoFar most (after_command_step session req step so_far) × IsValidOutcome (outcome_of_command step.act)
commanded session req step so_far so all = (
  commanded_valid disk_validity AnySent session req step so_far so.0
      (left_has step.op.stage (session_in session so_far).disk so.0 (session_valid disk_validity AnySent session so_far all).disk) all,
  so.1,
)

module _ {input : Input} {node : Node}
    (known : (entry : Entry) → input ≡ inputs.LogEntry entry → HeadersAreValid (effects_of (entry_read entry node).peer))
    (valid : IsValidInput input) where
  steps_valid : (most : ℕ) (so_far : StepState) (session req : ℕ) (next : Outcome) (moved : StepState)
      → RequestSteps input node so_far session req next moved → Unit {0} → IsValidSoFar most so_far
      → IsValidSoFar most moved × IsValidOutcome next
  steps_valid most so_far session req next moved (DiskBegins ask disk there on may) nothing all =
      let so = driver_begins-valid disk ask (disk_valid disk_validity AnySent session so_far disk on all) in
      (driven_valid disk_validity AnySent session req disk (begin_driver disk ask) so_far so.0 tt all, so.1)
  steps_valid most so_far session req next moved (DiskGoesOn number work attempt status bytes driver disk step ends on is) nothing all =
      let freed : StepState = without_ended_work session req work status so_far in
      let now = freed_valid disk_validity AnySent session req work status so_far all in
      let so = driver_goes_on-valid disk.inode bytes driver step is (disk_valid disk_validity AnySent session freed disk on now) in
      (driven_valid disk_validity AnySent session req disk step freed so.0 tt now, so.1)
  steps_valid most so_far session req next moved (CommandBegins ask step arrival is) nothing all =
      commanded session req step so_far
      (command_begins-valid so_far.node.me session ask (inode_open (session_in session so_far).disk) step is
      (subst IsValidInput arrival.from valid) (inode_valid disk_validity AnySent session so_far all)) all
  steps_valid most so_far session req next moved (CommandGoesOn number work attempt status bytes op step ends is) nothing all =
      commanded session req step (without_ended_work session req work status so_far)
      (command_goes_on-valid bytes op step is (course_valid disk_validity AnySent session req (Commanding op) so_far ends.ends.request all))
      (freed_valid disk_validity AnySent session req work status so_far all)
  steps_valid most so_far session req next moved (CommandDecided entry op step from read there waits is) nothing all =
      commanded session req step so_far
      (command_decided-valid (effects_of so_far.node.peer) (inode_open (session_in session so_far).disk) op step
      (subst (λ (peer : Peer). HeadersAreValid (effects_of peer)) (sym read) (known entry from)) (inode_valid disk_validity AnySent session so_far all)
      (decision_on entry node.peer) is (course_valid disk_validity AnySent session req (Commanding op) so_far there all)) all
  steps_valid most so_far session req next moved (CheckBegins inode arrival on) nothing all =
      let so = check_begins-valid inode
      (subst (λ (o : Option Content). IfSome o IsValidInode) on (inode_valid disk_validity AnySent session so_far all)) in
      (sole_put disk_validity AnySent session req (Checking (begin_check inode).check) so_far so.0 all, so.1)
  steps_valid most so_far session req next moved (CheckGoesOn number work attempt status bytes check step ends is) nothing all =
      let so = check_goes_on-valid bytes check step is (course_valid disk_validity AnySent session req (Checking check) so_far ends.ends.request all) in (
        sole_put disk_validity AnySent session req (Checking step.check) (without_ended_work session req work status so_far) so.0
            (freed_valid disk_validity AnySent session req work status so_far all),
        so.1,
      )
  steps_valid most so_far session req next moved (ObjectBegins asked arrival) nothing all =
      (sole_put disk_validity AnySent session req (DoingWork asked) so_far tt all, subst IsValidInput arrival.from valid)
  steps_valid most so_far session req next moved (ObjectIsDone number work attempt status bytes asked ends) nothing all =
      (freed_valid disk_validity AnySent session req work status so_far all, tt)
  steps_valid most so_far session req next moved (EntryBegins entry arrival) nothing all =
      (sole_put disk_validity AnySent session req (AwaitingDecision entry) so_far tt all, subst IsValidInput arrival.from valid)
  steps_valid most so_far session req next moved (EntryDecided entry wanted from read there waits) nothing all = (all, tt)

  disks_are_kept : IsKeptBy disk_validity AnySent input node (λ so_far. Unit {0})
  disks_are_kept = record {
    steps = steps_valid;
    arrives = λ so_far session req ask arrival. tt;
    asks = λ work is. is;
    marks = λ so_far req number work attempt status learns nothing is. is;
    fails = λ work is. is;
    opens = λ asked node is short. is;
    holds = λ asked epoch is. is;
    strays = λ so_far req work gateway there none apart nothing all q now got. ⊎_elim
        (λ (own : q ≡ req).
        let (was, before, same) = apart.same now (ap (tree.get gateway.works) (sym own) ∙ got) in
        subst WorkHasPolicy (sym same) (all req was before))
        (λ (other : q ≢ req). all q now (sym (apart.others q other) ∙ got))
        (cases_eq q req);
    few = attempt_few;
    sends = λ req asked lined later is k d within. tt;
    unlocks = λ by session vid. tt;
    recovers = λ me epoch. tt;
  }

-- along a chain each change may send 31 messages
pub chain_valid : {input : Input} {node : Node} {first so_far : StepState} (most : ℕ)
    → ((entry : Entry) → input ≡ inputs.LogEntry entry → HeadersAreValid (effects_of (entry_read entry node).peer))
    → IsValidInput input → (leads : Leads input node first so_far) → IsValidSoFar most first → IsValidSoFar (31 * changes_in leads + most) so_far
chain_valid most known valid leads all =
    walk.chain_valid disk_validity AnySent most (changes_in leads) (disks_are_kept known valid) (λ here before short. tt) leads (omega arith) all
