-- What the code of a request's step leaves is what the step is to leave: a session or a course that is set twice is set once.
use Rattle.std.proofs.Common.{◌≡◌, ℕ, cond, Bool, true, false, List, Option, Some, None, unwrap_or, refl, ap, sym, ◌∙◌}
use Rattle.std.specs.Option.{option_map_or}
use Rattle.std.specs.Ordering.{nat_cmp}
use Rattle.std.specs.Cmp.{nat_cmp_total}
use Rattle.std.specs.BTreeMap.{is_at}
use Rattle.std.specs.FinMap as tree
use Rattle.proof_tools.proofs.FiniteMaps.{get-insert_same, insert-insert, is_at-true}
use Rattle.peer_proto.specs.declared.guest.GuestRsp.{GuestRsp}
use Rattle.guest_driver.specs.declared.disk.Disk.{Disk}
use Rattle.guest_driver.specs.declared.act.DriverAct.{DriverAct}
use Rattle.guest_driver.specs.Driver.{Driver, DriverStep, driver_on_done}
use Rattle.disk_check.specs.declared.act.CheckAct.{CheckAct}
use Rattle.disk_check.specs.Check.{Check, CheckStep, check_on_done}
use Rattle.vdi_ops.specs.declared.act.OpAct.{OpAct}
use Rattle.object_id.specs.declared.entry.Entry.{Entry}
use Rattle.peer_proto.specs.declared.work.ObjWork.{ObjWork}
use Rattle.vdi_ops.specs.Op.{Op, OpStep, OpStage, Asked, Working, Publishing, Answered, Stays, disk_change_at, IsAwaitedAtOpStage}
use Rattle.vdi_ops.specs.Steps.{on_decision, op_on_done}
use Rattle.vdi_directory.specs.declared.decision.Decision.{Decision}
use Rattle.peer_service.specs.State.{effects_of}
use Rattle.vdi_ops.specs.declared.act.OpAct.TheVariants.{Append, Work, Reply}
use Rattle.sheep_node.specs.declared.course.Course.{Course}
use Rattle.sheep_node.specs.declared.course.Course.TheVariants.{Driving, Commanding, Checking}
use Rattle.sheep_node.specs.declared.course.Request.{Request}
use Rattle.sheep_node.specs.declared.session.Session.{Session}
use Rattle.sheep_node.specs.State.{new_session}
use Rattle.sheep_node.specs.StepState.{StepState, session_in, session_without, with_session, with_disk, with_outbox_entry, with_course, with_sole_request, without_course, with_guest_reply, request_ended}
use Rattle.sheep_node.specs.Kept.{step_without}
use Rattle.sheep_node.specs.RequestWorks.{queue_left, work_asked}
use Rattle.guest_driver.specs.InodeQueue.{queue_after_end}
use Rattle.sheep_node.proofs.StepStates.{insert-remove}
use Rattle.sheep_node.specs.Courses.{disk_after, driver_acted, driver_stepped, disk_went_on, inode_open, command_acted, command_stepped, check_acted, check_stepped, course_went_on, course_decided}

module _ {X : Type 0} (m : tree.FinMap nat_cmp X) (k : ℕ) where
  remove-insert : (x : X) → tree.remove (tree.insert m k x) k ≡ tree.remove m k
  remove-insert x =
      tree.same_map nat_cmp_total tree.nat_cmp-IsAntisymmetric (tree.remove (tree.insert m k x) k) (tree.remove m k) (λ q.
      tree.get-remove nat_cmp_total (tree.insert m k x) k q
      ∙ by_tie (is_at (nat_cmp q) k) (tree.get m q) (tree.get (tree.insert m k x) q) (tree.get-insert nat_cmp_total m k x q)
      ∙ sym (tree.get-remove nat_cmp_total m k q))
    where
      by_tie : (b : Bool) (old mid : Option X) → mid ≡ cond b (Some x) old → cond b None mid ≡ cond b None old
      by_tie true old mid is = refl
      by_tie false old mid is = is

  -- a number at which there is nothing is removed
  remove-none : tree.get m k ≡ None → tree.remove m k ≡ m
  remove-none none =
      tree.same_map nat_cmp_total tree.nat_cmp-IsAntisymmetric (tree.remove m k) m (λ q.
      tree.get-remove nat_cmp_total m k q ∙ by_tie q (is_at (nat_cmp q) k) refl)
    where
      by_tie : (q : ℕ) (b : Bool) → is_at (nat_cmp q) k ≡ b → cond b None (tree.get m q) ≡ tree.get m q
      by_tie q true tie = sym (ap (tree.get m) (is_at-true q k tie) ∙ none)
      by_tie q false tie = refl

  -- what is at a number already is put there once more
  pub insert-there : (x : X) → tree.get m k ≡ Some x → tree.insert m k x ≡ m
  insert-there x there =
      tree.same_map nat_cmp_total tree.nat_cmp-IsAntisymmetric (tree.insert m k x) m (λ q.
      tree.get-insert nat_cmp_total m k x q ∙ by_tie q (is_at (nat_cmp q) k) refl)
    where
      by_tie : (q : ℕ) (b : Bool) → is_at (nat_cmp q) k ≡ b → cond b (Some x) (tree.get m q) ≡ tree.get m q
      by_tie q true tie = sym (ap (tree.get m) (is_at-true q k tie) ∙ there)
      by_tie q false tie = refl

-- a course that goes was there or not
course_gone : (number req : ℕ) (course : Course) (so_far : StepState) → without_course req (with_course number req course so_far) ≡ without_course req so_far
course_gone number req course so_far =
    ap (λ (requests : tree.FinMap nat_cmp Request). record (without_course req so_far) { node = record (without_course req so_far).node { requests = requests } })
    (remove-insert so_far.node.requests req (record { session = number; course = course }))

-- a request ends in a session that was changed before
ended_with : (number req : ℕ) (reply : GuestRsp) (so_far : StepState) (session : Session)
    → request_ended number req reply (with_session number session so_far)
    ≡ with_guest_reply req reply (with_session number (session_without req session) (without_course req so_far))
unfolding request_ended
ended_with number req reply so_far session =
    (λ i. with_guest_reply req reply (record (without_course req so_far) {
      node = record (without_course req so_far).node {
        sessions = tree.insert (tree.insert so_far.node.sessions number session) number
            (session_without req (unwrap_or (get-insert_same so_far.node.sessions number session i) new_session));
      };
    }))
    ∙ ap (λ (sessions : tree.FinMap nat_cmp Session). with_guest_reply req reply
    (record (without_course req so_far) { node = record (without_course req so_far).node { sessions = sessions } }))
    (insert-insert so_far.node.sessions number session (session_without req session))

-- a command ends with its reply
pub replied : (number req : ℕ) (op : Op) (reply : GuestRsp) (so_far : StepState)
    → request_ended number req reply
    (with_session number (record (session_in number so_far) { disk = disk_after (disk_change_at op.stage) (session_in number so_far).disk }) so_far)
    ≡ command_stepped number req (record { op = op; act = Reply reply }) so_far
unfolding command_stepped
replied number req op reply so_far =
    let disk = disk_after (disk_change_at op.stage) (session_in number so_far).disk in
    ended_with number req reply so_far (record (session_in number so_far) { disk = disk })
    ∙ ap (λ (so_far' : StepState). with_guest_reply req reply
    (with_session number (session_without req (record (session_in number so_far) { disk = disk })) so_far'))
    (sym (course_gone number req (Commanding op) so_far))
    ∙ sym (ended_with number req reply (with_course number req (Commanding op) so_far)
    (record (session_in number so_far) { disk = disk; command = Some req }))

-- a course that is set twice is set once
course_twice : (number req : ℕ) (one other : Course) (so_far : StepState)
    → with_course number req other (with_course number req one so_far) ≡ with_course number req other so_far
course_twice number req one other so_far =
    ap (λ (requests : tree.FinMap nat_cmp Request). record so_far { node = record so_far.node { requests = requests } })
    (insert-insert so_far.node.requests req (record { session = number; course = one }) (record { session = number; course = other }))

-- a read or write went on
pub drove : (number req : ℕ) (bytes : List ℕ) (driver later : Driver) (act : DriverAct) (disk after : Disk) (so_far : StepState)
    → (session_in number so_far).disk ≡ Some disk → after.snapshot ≡ disk.snapshot
    → driver_on_done disk.inode bytes driver ≡ Some (record { driver = later; act = act; inode = after.inode })
    → driver_acted number req act (with_course number req (Driving later) (with_disk number (Some after) so_far))
    ≡ course_went_on number req bytes (Driving driver) (with_course number req (Driving driver) so_far)
unfolding course_went_on driver_stepped
drove number req bytes driver later act disk after so_far on same is =
    let there = with_course number req (Driving driver) so_far in
    sym (ap (λ (disk : Option Disk). disk_went_on number req bytes driver disk there) on
    ∙ ap (λ (step : Option DriverStep). option_map_or (λ (step : DriverStep). driver_stepped number req disk step there) step there) is
    ∙ (λ i. driver_acted number req act (with_course number req (Driving later)
    (with_disk number (Some (record { inode = after.inode; snapshot = sym same i })) there)))
    ∙ ap (driver_acted number req act) (course_twice number req (Driving driver) (Driving later) (with_disk number (Some after) so_far)))

-- a command went on
pub commanded : (number req : ℕ) (bytes : List ℕ) (op later : Op) (act : OpAct) (so_far : StepState)
    → op_on_done bytes op ≡ Some (record { op = later; act = act })
    → command_stepped number req (record { op = later; act = act }) so_far
    ≡ course_went_on number req bytes (Commanding op) (with_course number req (Commanding op) so_far)
unfolding course_went_on command_stepped
commanded number req bytes op later act so_far is =
    let there = with_course number req (Commanding op) so_far in
    sym (ap (λ (step : Option OpStep). option_map_or (λ (step : OpStep). command_stepped number req step there) step there) is
    ∙ ap (λ (moved : StepState). command_acted number req act (with_session number (record (session_in number so_far) {
      disk = disk_after (disk_change_at later.stage) (session_in number so_far).disk;
      command = Some req;
    }) moved)) (course_twice number req (Commanding op) (Commanding later) so_far))

-- a check went on
pub checked : (number req : ℕ) (bytes : List ℕ) (check later : Check) (act : CheckAct) (so_far : StepState)
    → check_on_done bytes check ≡ Some (record { check = later; act = act })
    → check_acted number req act (with_sole_request number req (Checking later) so_far)
    ≡ course_went_on number req bytes (Checking check) (with_course number req (Checking check) so_far)
unfolding course_went_on check_stepped
checked number req bytes check later act so_far is =
    let there = with_course number req (Checking check) so_far in
    sym (ap (λ (step : Option CheckStep). option_map_or (λ (step : CheckStep). check_stepped number req step there) step there) is
    ∙ ap (λ (moved : StepState). check_acted number req act (with_session number (record (session_in number so_far) { command = Some req }) moved))
    (course_twice number req (Checking check) (Checking later) so_far))

-- a request that ends was there or not
pub ended_there : (number req : ℕ) (course : Course) (reply : GuestRsp) (so_far : StepState)
    → request_ended number req reply so_far ≡ request_ended number req reply (with_course number req course so_far)
unfolding request_ended
ended_there number req course reply so_far =
    ap (λ (moved : StepState). with_guest_reply req reply (with_session number (session_without req (session_in number so_far)) moved))
    (sym (course_gone number req course so_far))

-- a command that isn't at its reply leaves what is open
stays_for_entry : (entry : Entry) (stage : OpStage) → IsAwaitedAtOpStage (Append entry) stage → disk_change_at stage ≡ Stays
stays_for_entry entry (Asked wanted) awaited = refl
stays_for_entry entry (Working vid task) awaited = refl
stays_for_entry entry (Publishing wanted opened) awaited = refl
stays_for_entry entry (Answered change) awaited = absurd (cc (awaited.1))

stays_for_work : (work : ObjWork) (stage : OpStage) → IsAwaitedAtOpStage (Work work) stage → disk_change_at stage ≡ Stays
stays_for_work work (Asked wanted) awaited = refl
stays_for_work work (Working vid task) awaited = refl
stays_for_work work (Publishing wanted opened) awaited = refl
stays_for_work work (Answered change) awaited = absurd (cc (awaited.1))

left_open : (number req : ℕ) (op : Op) (so_far : StepState) → disk_change_at op.stage ≡ Stays
    → with_sole_request number req (Commanding op) so_far
    ≡ with_session number (record (session_in number so_far) {
      disk = disk_after (disk_change_at op.stage) (session_in number so_far).disk;
      command = Some req;
    }) (with_course number req (Commanding op) so_far)
left_open number req op so_far is =
    λ i. with_session number (record (session_in number so_far) {
      disk = disk_after (sym is i) (session_in number so_far).disk;
      command = Some req;
    }) (with_course number req (Commanding op) so_far)

-- a command's entry, and its work
pub put_entry : (number req : ℕ) (op : Op) (entry : Entry) (so_far : StepState) → IsAwaitedAtOpStage (Append entry) op.stage
    → with_outbox_entry entry (with_sole_request number req (Commanding op) so_far)
    ≡ command_stepped number req (record { op = op; act = Append entry }) so_far
unfolding command_stepped
put_entry number req op entry so_far awaited =
    ap (with_outbox_entry entry) (left_open number req op so_far (stays_for_entry entry op.stage awaited))

pub came_to_work : (number req : ℕ) (op : Op) (work : ObjWork) (so_far : StepState) → IsAwaitedAtOpStage (Work work) op.stage
    → work_asked number req work (with_sole_request number req (Commanding op) so_far)
    ≡ command_stepped number req (record { op = op; act = Work work }) so_far
unfolding command_stepped
came_to_work number req op work so_far awaited =
    ap (work_asked number req work) (left_open number req op so_far (stays_for_work work op.stage awaited))

-- a command goes on by a decision
pub decided : (number req : ℕ) (decision : Decision) (op later : Op) (act : OpAct) (so_far : StepState)
    → on_decision (effects_of so_far.node.peer) (inode_open (session_in number so_far).disk) decision op
    ≡ Some (record { op = later; act = act })
    → command_stepped number req (record { op = later; act = act }) so_far
    ≡ course_decided number req decision (Commanding op) (with_course number req (Commanding op) so_far)
unfolding course_decided command_stepped
decided number req decision op later act so_far is =
    let there = with_course number req (Commanding op) so_far in
    sym (ap (λ (step : Option OpStep). option_map_or (λ (step : OpStep). command_stepped number req step there) step there) is
    ∙ ap (λ (moved : StepState). command_acted number req act (with_session number (record (session_in number so_far) {
      disk = disk_after (disk_change_at later.stage) (session_in number so_far).disk;
      command = Some req;
    }) moved)) (course_twice number req (Commanding op) (Commanding later) so_far))

-- ---- a request that was taken out

-- a request that wasn't there is gone
pub taken_of_none : (req : ℕ) (so_far : StepState) → tree.get so_far.node.requests req ≡ None → step_without req so_far ≡ so_far
taken_of_none req so_far none =
    ap (λ (requests : tree.FinMap nat_cmp Request). record so_far { node = record so_far.node { requests = requests } })
    (remove-none so_far.node.requests req none)

-- one that was there is put back as it was
pub put_back : (number req : ℕ) (course : Course) (so_far : StepState)
    → tree.get so_far.node.requests req ≡ Some (record { session = number; course = course })
    → with_course number req course (step_without req so_far) ≡ so_far
put_back number req course so_far there =
    let request : Request = record { session = number; course = course } in
    ap (λ (requests : tree.FinMap nat_cmp Request). record so_far { node = record so_far.node { requests = requests } })
    (insert-remove so_far.node.requests req request ∙ insert-there so_far.node.requests req request there)

-- also behind the end of its work
pub put_back_behind : (number req : ℕ) (course : Course) (work : ObjWork) (so_far : StepState)
    → tree.get so_far.node.requests req ≡ Some (record { session = number; course = course })
    → with_course number req course (queue_left number work (step_without req so_far)) ≡ queue_left number work so_far
put_back_behind number req course work so_far there =
    ap (queue_left number work) (put_back number req course so_far there)

-- a work that leaves the line leaves the disk open
pub disk_behind : (number : ℕ) (work : ObjWork) (so_far : StepState)
    → (session_in number (queue_left number work so_far)).disk ≡ (session_in number so_far).disk
disk_behind number work so_far =
    ap (λ (session : Option Session). (unwrap_or session new_session).disk)
    (get-insert_same so_far.node.sessions number
    (record (session_in number so_far) { inode_queue = queue_after_end (session_in number so_far).inode_queue work }))
