-- A read or write begins on the disk that its session has open, and a request whose turn hasn't come stays as it is.
use Rattle.std.proofs.Common.{◌≡◌, ℕ, ◌&&◌, ◌||◌, not, Bool, true, false, cond, List, [], ◌∷◌, Option, Some, None, Ok, is_some, unwrap_or, refl, ap, sym, ◌∙◌}
use Rattle.std.specs.Option.{option_map_or}
use Rattle.std.specs.Ordering.{nat_cmp}
use Rattle.std.specs.FinMap as tree
use Rattle.std.proofs.lemmas.Bool.{and_parts}
use Rattle.peer_proto.specs.declared.guest.DiskAsk.{DiskAsk}
use Rattle.guest_driver.specs.declared.disk.Disk.{Disk}
use Rattle.guest_driver.specs.declared.act.DriverAct.{DriverAct}
use Rattle.guest_driver.specs.Driver.{Driver, DriverStep, begin_driver}
use Rattle.std.specs.List.{find, list_any}
use Rattle.gateway_queue.specs.declared.queue.Queued.{Queued}
use Rattle.gateway_queue.specs.Queue.{has_request_number, is_queued, earlier, meet, may_run}
use Rattle.sheep_node.specs.declared.course.Course.{Course}
use Rattle.sheep_node.specs.declared.course.Course.TheVariants.{Waiting, Driving, Commanding, Checking, DoingWork, AwaitingDecision}
use Rattle.sheep_node.specs.declared.course.Request.{Request}
use Rattle.sheep_node.specs.declared.session.Session.{Session}
use Rattle.sheep_node.specs.State.{new_session}
use Rattle.sheep_node.specs.StepState.{StepState, session_in, with_session, with_disk, with_inode_queue, with_course}
use Rattle.sheep_node.specs.Courses.{driver_acted, driver_stepped}
use Rattle.sheep_node.specs.Waiting.{course_begun, begun_if_may}
use Rattle.sheep_node.specs.Kept.{without_session, step_without, waits_for_turn, ask_in_waiting, ask_of_waiting, turn_of}
use Rattle.guest_driver.specs.InodeQueue.{InodeQueue, queue_after_start}
use Rattle.sheep_node.proofs.StepStates.{insert-remove, session_changed}
use Rattle.sheep_node.proofs.CourseSteps.{insert-there}

-- a session with a disk is there, and has that disk
same_disk : (number : ℕ) (disk : Disk) (so_far : StepState) → (session_in number so_far).disk ≡ Some disk → with_disk number (Some disk) so_far ≡ so_far
same_disk number disk so_far on =
    (λ i. with_session number (record (session_in number so_far) { disk = sym on i }) so_far)
    ∙ by_session (tree.get so_far.node.sessions number) refl on
  where
    by_session : (o : Option Session) → tree.get so_far.node.sessions number ≡ o → (session_in number so_far).disk ≡ Some disk
        → with_session number (session_in number so_far) so_far ≡ so_far
    by_session None none on =
        let unopened : (session_in number so_far).disk ≡ None = ap (λ (o : Option Session). (unwrap_or o new_session).disk) none in
        absurd (cc (unopened, on))
    by_session (Some session) there on =
        ap (λ (sessions : tree.FinMap nat_cmp Session). record so_far { node = record so_far.node { sessions = sessions } })
        (insert-there so_far.node.sessions number (session_in number so_far)
        (there ∙ ap Some (sym (ap (λ (o : Option Session). unwrap_or o new_session) there))))

-- a read or write that begins leaves the disk as it is
pub begun_on_disk : (number req : ℕ) (ask : DiskAsk) (driver : Driver) (act : DriverAct) (disk : Disk) (so_far : StepState)
    → (session_in number so_far).disk ≡ Some disk → begin_driver disk ask ≡ record { driver = driver; act = act; inode = disk.inode }
    → driver_acted number req act (with_course number req (Driving driver) so_far)
    ≡ option_map_or (λ (disk : Disk). driver_stepped number req disk (begin_driver disk ask) so_far) (session_in number so_far).disk so_far
unfolding driver_stepped
begun_on_disk number req ask driver act disk so_far on is =
    sym (ap (λ (disk : Option Disk). option_map_or (λ (disk : Disk). driver_stepped number req disk (begin_driver disk ask) so_far) disk so_far) on
    ∙ ap (λ (step : DriverStep). driver_stepped number req disk step so_far) is
    ∙ ap (λ (same : StepState). driver_acted number req act (with_course number req (Driving driver) same)) (same_disk number disk so_far on))

-- a request that was taken out begins as if it were there
stepped_out : (number req : ℕ) (disk : Disk) (step : DriverStep) (so_far : StepState)
    → driver_stepped number req disk step (step_without req so_far) ≡ driver_stepped number req disk step so_far
unfolding driver_stepped
stepped_out number req disk step so_far =
    ap (λ (requests : tree.FinMap nat_cmp Request). driver_acted number req step.act
    (record (with_disk number (Some (record disk { inode = step.inode })) so_far) {
      node = record (with_disk number (Some (record disk { inode = step.inode })) so_far).node { requests = requests };
    }))
    (insert-remove so_far.node.requests req (record { session = number; course = Driving step.driver }))

-- whose turn it is waits, and its session has a disk
module _ (number req : ℕ) (so_far : StepState) where
  pub in_turn : (request : Request) → turn_of req (Some request) so_far ≡ Some number
      → (request.session ≡ number) × (waits_for_turn request.course ≡ true) × (may_run req (session_in number so_far).queue ≡ true)
      × (is_some (session_in number so_far).disk ≡ true)
  in_turn request is =
      by_test (waits_for_turn request.course && (may_run req (session_in request.session so_far).queue && is_some (session_in request.session so_far).disk)) refl is
    where
      by_test : (b : Bool)
          → (waits_for_turn request.course && (may_run req (session_in request.session so_far).queue && is_some (session_in request.session so_far).disk)) ≡ b
          → cond b (Some request.session) None ≡ Some number
          → (request.session ≡ number) × (waits_for_turn request.course ≡ true) × (may_run req (session_in number so_far).queue ≡ true)
          × (is_some (session_in number so_far).disk ≡ true)
      by_test true test is =
          let same : request.session ≡ number = cc (is) in
          let parts = and_parts (waits_for_turn request.course) _ test in
          let later = and_parts (may_run req (session_in request.session so_far).queue) _ parts.1 in
          (same, parts.0, ap (λ n. may_run req (session_in n so_far).queue) (sym same) ∙ later.0, ap (λ n. is_some (session_in n so_far).disk) (sym same) ∙ later.1)
      by_test false test is = absurd (cc (is))

  -- its read or write begins
  pub turn_begun : (ask : DiskAsk) → tree.get so_far.node.requests req ≡ Some (record { session = number; course = Waiting ask })
      → may_run req (session_in number so_far).queue ≡ true → is_some (session_in number so_far).disk ≡ true
      → option_map_or (λ (disk : Disk). driver_stepped number req disk (begin_driver disk ask) (step_without req so_far))
      (session_in number so_far).disk (step_without req so_far)
      ≡ begun_if_may so_far req
  turn_begun ask there may some =
      by_disk (session_in number so_far).disk some
      ∙ sym (ap (λ (o : Option Request). option_map_or (λ (request : Request). course_begun request.session req request.course so_far) o so_far) there
      ∙ ap (λ (b : Bool). cond b (option_map_or (λ (disk : Disk). driver_stepped number req disk (begin_driver disk ask) so_far)
      (session_in number so_far).disk so_far) so_far) may)
    where
      by_disk : (disk : Option Disk) → is_some disk ≡ true
          → option_map_or (λ (disk : Disk). driver_stepped number req disk (begin_driver disk ask) (step_without req so_far)) disk (step_without req so_far)
          ≡ option_map_or (λ (disk : Disk). driver_stepped number req disk (begin_driver disk ask) so_far) disk so_far
      by_disk None some = absurd (cc (some))
      by_disk (Some disk) some = stepped_out number req disk (begin_driver disk ask) so_far

-- a request that was taken out in its turn
pub taken_in_turn : (number req session : ℕ) (ask : DiskAsk) (so_far : StepState)
    → tree.get so_far.node.requests req ≡ Some (record { session = session; course = Waiting ask })
    → turn_of req (tree.get so_far.node.requests req) so_far ≡ Some number
    → option_map_or (λ (disk : Disk). driver_stepped number req disk (begin_driver disk ask) (step_without req so_far))
    (session_in number so_far).disk (step_without req so_far)
    ≡ begun_if_may so_far req
taken_in_turn number req session ask so_far there turn =
    let is = in_turn number req so_far (record { session = session; course = Waiting ask })
    (ap (λ (o : Option Request). turn_of req o so_far) (sym there) ∙ turn) in
    turn_begun number req so_far ask (there ∙ ap (λ (n : ℕ). Some (record { session = n; course = Waiting ask })) is.0) is.2 is.3

-- where no turn has come nothing begins
pub no_turn : (req : ℕ) (so_far : StepState) → turn_of req (tree.get so_far.node.requests req) so_far ≡ None → begun_if_may so_far req ≡ so_far
no_turn req so_far = by_request (tree.get so_far.node.requests req)
  where
    by_disk : (request : Request) (ask : DiskAsk) (disk : Option Disk) → cond (is_some disk) (Some request.session) None ≡ None
        → option_map_or (λ (disk : Disk). driver_stepped request.session req disk (begin_driver disk ask) so_far) disk so_far ≡ so_far
    by_disk request ask None none = refl
    by_disk request ask (Some disk) none = absurd (cc (none))

    by_run : (request : Request) (ask : DiskAsk) (b : Bool)
        → cond (b && is_some (session_in request.session so_far).disk) (Some request.session) None ≡ None
        → cond b (option_map_or (λ (disk : Disk). driver_stepped request.session req disk (begin_driver disk ask) so_far)
        (session_in request.session so_far).disk so_far) so_far ≡ so_far
    by_run request ask true none = by_disk request ask (session_in request.session so_far).disk none
    by_run request ask false none = refl

    by_course : (request : Request) (course : Course)
        → cond (waits_for_turn course && (may_run req (session_in request.session so_far).queue && is_some (session_in request.session so_far).disk))
        (Some request.session) None ≡ None → course_begun request.session req course so_far ≡ so_far
    by_course request (Waiting ask) none = by_run request ask (may_run req (session_in request.session so_far).queue) none
    by_course request (Driving driver) none = refl
    by_course request (Commanding op) none = refl
    by_course request (Checking check) none = refl
    by_course request (DoingWork work) none = refl
    by_course request (AwaitingDecision entry) none = refl

    by_request : (o : Option Request) → turn_of req o so_far ≡ None
        → option_map_or (λ (request : Request). course_begun request.session req request.course so_far) o so_far ≡ so_far
    by_request None none = refl
    by_request (Some request) none = by_course request request.course none

-- who isn't in a queue has no turn there
pub may_not_run : (req : ℕ) (queue : List Queued) → is_queued req queue ≡ false → may_run req queue ≡ false
may_not_run req queue lacks =
    ap (λ (mine : Option Queued). option_map_or (λ (mine : Queued). not (list_any (meet mine) (earlier req queue))) mine false) (none_found queue lacks)
  where
    none_found : (queue : List Queued) → is_queued req queue ≡ false → find (has_request_number req) queue ≡ None
    none_found [] lacks = refl
    none_found (first ∷ later) lacks = by_first (has_request_number req first) (none_found later) lacks
      where
        by_first : (b : Bool) → (is_queued req later ≡ false → find (has_request_number req) later ≡ None) → (b || is_queued req later) ≡ false
            → cond b (Some first) (find (has_request_number req) later) ≡ None
        by_first true rest lacks = absurd (cc (lacks))
        by_first false rest lacks = rest lacks

-- the first of a session's line begins, and the line moves up
pub line_moved : (number : ℕ) (so_far without new : StepState) (had : Session) (line : InodeQueue) → had ≡ session_in number so_far
    → without ≡ without_session number so_far → new ≡ with_session number (record had { inode_queue = line }) without
    → line ≡ queue_after_start had.inode_queue
    → new ≡ with_inode_queue number (queue_after_start (session_in number so_far).inode_queue) so_far
line_moved number so_far without new had line is out now moved =
    session_changed {E = Unit {0}} (λ (session : Session). record session { inode_queue = queue_after_start session.inode_queue })
    number so_far without new had (Ok (tt {0})) is out
    (now ∙ ap (λ (line : InodeQueue). with_session number (record had { inode_queue = line }) without) moved)

-- who asks so while it waits is there
pub waiting_there : (o : Option Request) (ask : DiskAsk) → ask_of_waiting o ≡ Some ask
    → (session : ℕ) × (o ≡ Some (record { session = session; course = Waiting ask }))
waiting_there None ask is = absurd (cc (is))
waiting_there (Some request) ask is = (request.session, ap (λ (course : Course). Some (record { session = request.session; course = course })) (by_course request.course is))
  where
    by_course : (course : Course) → ask_in_waiting course ≡ Some ask → course ≡ Waiting ask
    by_course (Waiting one) is = ap Waiting (cc (is))
    by_course (Driving driver) is = absurd (cc (is))
    by_course (Commanding op) is = absurd (cc (is))
    by_course (Checking check) is = absurd (cc (is))
    by_course (DoingWork work) is = absurd (cc (is))
    by_course (AwaitingDecision entry) is = absurd (cc (is))

-- whose turn it is asks for something
pub turn_asks : (number req : ℕ) (o : Option Request) (so_far : StepState) → ask_of_waiting o ≡ None → turn_of req o so_far ≡ Some number → ⊥
turn_asks number req None so_far none turn = absurd (cc (turn))
turn_asks number req (Some request) so_far none turn = by_course request.course none (in_turn number req so_far request turn).1
  where
    by_course : (course : Course) → ask_in_waiting course ≡ None → waits_for_turn course ≡ true → ⊥
    by_course (Waiting ask) none waits = absurd (cc (none))
    by_course (Driving driver) none waits = absurd (cc (waits))
    by_course (Commanding op) none waits = absurd (cc (waits))
    by_course (Checking check) none waits = absurd (cc (waits))
    by_course (DoingWork work) none waits = absurd (cc (waits))
    by_course (AwaitingDecision entry) none waits = absurd (cc (waits))
