-- A read that stands behind a change of its node's step could run before it, and its session's queue covers each object of it.
use Rattle.std.proofs.Common.{◌≡◌, inl, inr, ⊎_elim, arith, ℕ, ◌+◌, ◌-◌, ◌≤◌, true, All, Contains, List, ◌∷◌, ◌++◌, Option, Some}
use Rattle.std.proofs.Common.{refl, sym, ap, subst, ◌∙◌}
use Rattle.std.specs.FinMap as tree
use Rattle.std.proofs.lemmas.List.Elements.{All-append, All-contains, Contains-append_cases}
use Rattle.std.proofs.lemmas.Option.{same_Some}
use Rattle.proof_tools.proofs.FiniteMaps.{get-insert_same}
use Rattle.proof_tools.proofs.Lists.{Contains-map}
use Rattle.gateway_queue.specs.declared.queue.Queued.{Queued}
use Rattle.gateway_queue.specs.Queue.{Covers, may_run}
use Rattle.disk_check.specs.Check.{begin_check}
use Rattle.guest_driver.specs.declared.disk.Disk.{Disk}
use Rattle.guest_driver.specs.Driver as drivers
use Rattle.guest_driver.specs.Driver.{Driver, Reads, Writes}
use Rattle.guest_driver.specs.OnDisk.{pieces_left}
use Rattle.guest_driver.specs.Pieces.{Piece, first_index, indexes, last_index, piece_in, pieces}
use Rattle.peer_proto.specs.declared.guest.DiskAsk.{DiskAsk}
use Rattle.peer_proto.specs.declared.guest.DiskAsk.TheVariants as disk_asks
use Rattle.sheep_node.specs.declared.ask.Ask.{Ask}
use Rattle.sheep_node.specs.declared.ask.Ask.TheVariants as asks
use Rattle.sheep_node.specs.declared.course.Course.{Course}
use Rattle.sheep_node.specs.declared.course.Course.TheVariants.{Waiting, Driving, Commanding, Checking, DoingWork, AwaitingDecision}
use Rattle.sheep_node.specs.declared.course.Request.{Request}
use Rattle.sheep_node.specs.declared.input.Input.{Input}
use Rattle.sheep_node.specs.Changes.{Change, Outcome, RequestSteps, DiskBegins, DiskGoesOn, CommandBegins, CommandGoesOn, CommandDecided}
use Rattle.sheep_node.specs.Changes.{CheckBegins, CheckGoesOn, ObjectBegins, ObjectIsDone, EntryBegins, EntryDecided}
use Rattle.sheep_node.specs.Guests.{queued_as}
use Rattle.sheep_node.specs.SessionQueues.{session_among, queue_in}
use Rattle.sheep_node.specs.State.{Node}
use Rattle.sheep_node.specs.StepState.{StepState}
use Rattle.sheep_node.proofs.OneWorkParts.{Requests}
use Rattle.overlap_law.specs.RequestsOfScript.{IsCourseOfAsk, IsDriverOf}
use Rattle.overlap_law.proofs.CausedWorks.{HasWellWorks}
use Rattle.overlap_law.proofs.CoursesCome.{Comes, courses_come}
use Rattle.overlap_law.proofs.CoveredCourses.{shift_open}
use Rattle.overlap_law.proofs.CoveredPieces.{CoversPiece}
use Rattle.overlap_law.proofs.PiecesBehind.{CoversBehind, at_last, before_earlier, begins_so}
use Rattle.overlap_law.proofs.QueuesInMoments.{HasGoodQueues}
use Rattle.overlap_law.proofs.StandingMeets.{pieces_cover}
use Rattle.overlap_law.proofs.StartedWrites.{in_range}
use Rattle.overlap_law.proofs.UnwrittenMeets.{RunsAt, covered}

-- ---- the objects of a read

-- a piece of each object that it touches
piece_among : (shift offset size k : ℕ) → first_index shift offset ≤ k → k ≤ last_index shift offset size
    → Contains (pieces shift offset size) (piece_in shift offset size k)
unfolding pieces
piece_among shift offset size k low high =
    Contains-map (piece_in shift offset size) (indexes shift offset size) k
    (in_range (first_index shift offset) (last_index shift offset size + 1 - first_index shift offset) k low (omega (arith, low, high)))

-- one that has begun: the queue covers the pieces that are left, and those before
module _ (queued : Queued) (shift offset size k : ℕ) (low : first_index shift offset ≤ k) (high : k ≤ last_index shift offset size)
    (told : List ℕ) (piece : Piece) (rest before : List Piece) (cut : pieces shift offset size ≡ before ++ piece ∷ rest)
    (left : All (CoversPiece queued) (piece ∷ rest)) (behind : CoversBehind shift queued (Reads told piece rest)) where
  begun_covers : Covers queued k
  begun_covers =
      let (other_size, (other, front, cut_too, all)) = behind in
      let one = begins_so shift offset size before rest piece cut in
      let two = begins_so shift other other_size front rest piece cut_too in
      let begins : other ≡ offset = omega (arith, one, two) in
      let whole : All (CoversPiece queued) (pieces shift other other_size)
      = subst (All (CoversPiece queued)) (sym cut_too) (All-append (CoversPiece queued) front (piece ∷ rest) all left) in
      ⊎_elim
      (λ (early : Contains before (piece_in shift offset size k)).
      let less = before_earlier shift offset size before rest piece cut (piece_in shift offset size k) early in
      let most = at_last shift other other_size front rest piece cut_too in
      pieces_cover shift other other_size queued whole k (subst (λ (o : ℕ). first_index shift o ≤ k) (sym begins) low)
      (omega (arith, less, most)))
      (λ (late : Contains (piece ∷ rest) (piece_in shift offset size k)).
      All-contains (CoversPiece queued) (piece ∷ rest) (piece_in shift offset size k) left late)
      (Contains-append_cases before (piece ∷ rest) (piece_in shift offset size k)
      (subst (λ (list : List Piece). Contains list (piece_in shift offset size k)) cut (piece_among shift offset size k low high)))

-- ---- at a node

module _ (node : Node) (well : HasWellWorks node) (queues : HasGoodQueues node) (req offset size : ℕ) (asked : Option Ask)
    (reads : asked ≡ Some (asks.Disk (disk_asks.Read offset size))) (session : ℕ) (disk : Disk)
    (on : (session_among session node.sessions).disk ≡ Some disk) (index : ℕ)
    (low : first_index disk.inode.spec.shift offset ≤ index) (high : index ≤ last_index disk.inode.spec.shift offset size) where
  -- a read that waits and may run
  waiting_runs : (ask : DiskAsk) → tree.get node.requests req ≡ Some (record { session = session; course = Waiting ask })
      → asked ≡ Some (asks.Disk ask) → may_run req (queue_in session node.sessions) ≡ true → RunsAt node session req index
  waiting_runs ask got of runs = record {
    course = Waiting ask;
    got = got;
    on_disk = refl;
    runs = runs;
    covers = λ one among own.
        let here = covered node well queues req (record { session = session; course = Waiting ask }) got in
        let same = here disk.inode.spec.shift (ap shift_open on) one among own in
        let ask_so : ask ≡ disk_asks.Read offset size = cc (of, reads) in
        subst (λ (q : Queued). Covers q index) (sym (same ∙ ap (queued_as disk.inode.spec.shift req) ask_so)) (low, high);
  }

  -- and one that has begun
  driven_covers : (one : Queued) (driver : Driver) (ask : DiskAsk) → asked ≡ Some (asks.Disk ask) → IsDriverOf disk ask driver
      → All (CoversPiece one) (pieces_left driver) → CoversBehind disk.inode.spec.shift one driver → Covers one index
  driven_covers one (Reads told piece rest) ask of (from, count, ask_so, (before, cut)) left behind =
      let from_so : offset ≡ from = cc (ask_so, of, reads) in
      let count_so : size ≡ count = cc (ask_so, of, reads) in
      begun_covers one disk.inode.spec.shift offset size index low high told piece rest before
      ((λ i. pieces disk.inode.spec.shift (from_so i) (count_so i)) ∙ cut) left behind
  driven_covers one (Writes payload stage piece rest) ask of (from, ask_so, left_so) left behind = absurd (cc (ask_so, of, reads))
  driven_covers one drivers.Answered ask of never left behind = absurd never

  driving_runs : (began : Option ℕ) (driver : Driver)
      → tree.get node.requests req ≡ Some (record { session = session; course = Driving driver })
      → IsCourseOfAsk asked (session_among session node.sessions).disk began (Driving driver) → RunsAt node session req index
  driving_runs began driver got is =
      let here = covered node well queues req (record { session = session; course = Driving driver }) got in
      let same : is.on.disk ≡ disk = same_Some is.on.disk disk (sym is.on.there ∙ on) in
      record {
        course = Driving driver;
        got = got;
        on_disk = refl;
        runs = here.0;
        covers = λ one among own.
            driven_covers one driver is.ask is.of (subst (λ (d : Disk). IsDriverOf d is.ask driver) same is.is) (here.1 one among own).0
            ((here.1 one among own).1 disk.inode.spec.shift (ap shift_open on));
      }

  -- ---- a read that stands behind a change

  module _ (input : Input) (first : Node) (so_far next : StepState) (change : Change input first so_far next)
      (node_so : node ≡ so_far.node)
      (placed : (request : Request) → tree.get so_far.node.requests req ≡ Some request
      → (began : Option ℕ) × IsCourseOfAsk asked (session_among request.session so_far.node.sessions).disk began request.course)
      (told : List ℕ) (piece : Piece) (rest : List Piece)
      (got_then : tree.get next.node.requests req ≡ Some (record { session = session; course = Driving (Reads told piece rest) })) where
    here_got : (course : Course) → tree.get so_far.node.requests req ≡ Some (record { session = session; course = course })
        → tree.get node.requests req ≡ Some (record { session = session; course = course })
    here_got course got = ap (λ (n : Node). tree.get n.requests req) node_so ∙ got

    placed_here : (course : Course) → tree.get so_far.node.requests req ≡ Some (record { session = session; course = course })
        → (began : Option ℕ) × IsCourseOfAsk asked (session_among session node.sessions).disk began course
    placed_here course got =
        let (began_on, is) = placed (record { session = session; course = course }) got in (
          began_on,
          subst (λ (n : Node). IsCourseOfAsk asked (session_among session n.sessions).disk began_on course) (sym node_so) is,
        )

    driving_before : (driver : Driver) → tree.get so_far.node.requests req ≡ Some (record { session = session; course = Driving driver })
        → RunsAt node session req index
    driving_before driver got =
        let (began_on, is) = placed_here (Driving driver) got in driving_runs began_on driver (here_got (Driving driver) got) is

    -- a step to a read is of one that waits, or of one that goes on
    own_session : (number : ℕ) (course : Course) (requests : Requests)
        → tree.get (tree.insert requests req (record { session = number; course = course })) req
        ≡ Some (record { session = session; course = Driving (Reads told piece rest) }) → number ≡ session
    own_session number course requests got =
        ap (λ (r : Request). r.session)
        (same_Some (record { session = number; course = course }) (record { session = session; course = Driving (Reads told piece rest) })
        (sym (get-insert_same requests req (record { session = number; course = course })) ∙ got))

    no_read : (number : ℕ) (course : Course) (requests : Requests)
        → tree.get (tree.insert requests req (record { session = number; course = course })) req
        ≡ Some (record { session = session; course = Driving (Reads told piece rest) })
        → course ≡ Driving (Reads told piece rest)
    no_read number course requests got =
        ap (λ (r : Request). r.course)
        (same_Some (record { session = number; course = course }) (record { session = session; course = Driving (Reads told piece rest) })
        (sym (get-insert_same requests req (record { session = number; course = course })) ∙ got))

    by_steps : (number : ℕ) (outcome : Outcome) (moved : StepState) → RequestSteps input first so_far number req outcome moved
        → tree.get moved.node.requests req ≡ Some (record { session = session; course = Driving (Reads told piece rest) })
        → RunsAt node session req index
    by_steps number outcome moved (DiskBegins ask disk_there there on_there runs) got =
        let same = own_session number (Driving (drivers.begin_driver disk_there ask).driver) so_far.node.requests got in
        let there_so : tree.get so_far.node.requests req ≡ Some (record { session = session; course = Waiting ask })
        = there ∙ (λ i. Some (record { session = same i; course = Waiting ask })) in
        let (began_on, is) = placed_here (Waiting ask) there_so in
        waiting_runs ask (here_got (Waiting ask) there_so) is.0
        ((λ i. may_run req (queue_in (sym same i) (node_so i).sessions)) ∙ runs)
    by_steps number outcome moved (DiskGoesOn k work attempt status bytes driver disk_there step ends on_there is) got =
        let same = own_session number (Driving step.driver) so_far.node.requests got in
        driving_before driver (ends.ends.request ∙ (λ i. Some (record { session = same i; course = Driving driver })))
    by_steps number outcome moved (CommandBegins ask step arrival is) got =
        let no = no_read number (Commanding step.op) so_far.node.requests got in absurd (cc (no))
    by_steps number outcome moved (CommandGoesOn k work attempt status bytes op step ends is) got =
        let no = no_read number (Commanding step.op) so_far.node.requests got in absurd (cc (no))
    by_steps number outcome moved (CommandDecided entry op step from read there waits is) got =
        let no = no_read number (Commanding step.op) so_far.node.requests got in absurd (cc (no))
    by_steps number outcome moved (CheckBegins inode arrival on_there) got =
        let no = no_read number (Checking (begin_check inode).check) so_far.node.requests got in absurd (cc (no))
    by_steps number outcome moved (CheckGoesOn k work attempt status bytes check step ends is) got =
        let no = no_read number (Checking step.check) so_far.node.requests got in absurd (cc (no))
    by_steps number outcome moved (ObjectBegins work arrival) got =
        let no = no_read number (DoingWork work) so_far.node.requests got in absurd (cc (no))
    by_steps number outcome moved (ObjectIsDone k work attempt status bytes does ends) got =
        driving_before (Reads told piece rest) got
    by_steps number outcome moved (EntryBegins entry arrival) got =
        let no = no_read number (AwaitingDecision entry) so_far.node.requests got in absurd (cc (no))
    by_steps number outcome moved (EntryDecided entry wanted from read there waits) got = driving_before (Reads told piece rest) got

    -- so it ran before it
    pub ran_before : RunsAt node session req index
    ran_before = by_origin (courses_come req input first so_far next change
        (record { session = session; course = Driving (Reads told piece rest) }) got_then)
      where
        by_origin : Comes req input first so_far (record { session = session; course = Driving (Reads told piece rest) })
            → RunsAt node session req index
        by_origin (inl had) = driving_before (Reads told piece rest) had
        by_origin (inr (inl steps)) = by_steps steps.session steps.next steps.moved steps.steps steps.there
        by_origin (inr (inr (ask, waits))) = absurd (cc (waits))
