-- What creates the own object of a write's piece creates it of the piece, by the table of the disk that its session has open: of a hole
-- with the piece in it, or laid over what was read of the other disk's object that the table has. So it is over each change of a step: the
-- entry of the piece stays, since what other requests of the session write is at other objects.
use Rattle.std.proofs.Common.{◌≡◌, ◌≢◌, inl, ℕ, ◌==◌, ◌++◌, ◌^◌, Bool, true, false, cond, List, [], ◌∷◌, length, All, Option, Some, None}
use Rattle.std.proofs.Common.{IfSome, refl, sym, ap, subst, ◌∙◌}
use Rattle.std.specs.FinMap as tree
use Rattle.std.proofs.lemmas.Bool.{both_ways, eq-eqb, eqb-true}
use Rattle.std.proofs.lemmas.List.Elements.{All-head}
use Rattle.std.proofs.lemmas.Option.{same_Some}
use Rattle.proof_tools.proofs.Booleans.{cond_either}
use Rattle.proof_tools.proofs.FiniteMaps.{get-insert_same}
use Rattle.object_id.specs.declared.cause.Cause.{Cause}
use Rattle.object_id.specs.declared.entry.VdiSpec.{VdiSpec}
use Rattle.object_id.specs.Fields.{zeros}
use Rattle.object_id.specs.Oid.{object_number}
use Rattle.object_id.specs.Piece.{laid_over}
use Rattle.inode.specs.Layout.{Content}
use Rattle.peer_proto.specs.declared.guest.DiskAsk.{DiskAsk}
use Rattle.peer_proto.specs.declared.guest.DiskAsk.TheVariants as disk_asks
use Rattle.peer_proto.specs.declared.work.ObjWork.{ObjWork}
use Rattle.peer_proto.specs.declared.work.ObjWork.TheVariants as works
use Rattle.guest_driver.specs.declared.act.DriverAct.{DriverAct}
use Rattle.guest_driver.specs.declared.act.DriverAct.TheVariants as acts
use Rattle.guest_driver.specs.declared.disk.Disk.{Disk}
use Rattle.guest_driver.specs.Course.{inode_after, Goes}
use Rattle.guest_driver.specs.Driver.{Driver, DriverStage, DriverStep, Reads, Writes, Answered, InPlace, Fetching, Creating, Entering}
use Rattle.guest_driver.specs.Driver.{work_step, read_on, write_piece_on, write_on, write_done, begin_unless_refused, begin_driver}
use Rattle.guest_driver.specs.Driver.{driver_on_done, driver_stage_bytes, driver_bytes_wanted}
use Rattle.guest_driver.specs.OnDisk.{pieces_left}
use Rattle.guest_driver.specs.Pieces.{Piece, pieces, piece_bytes}
use Rattle.guest_driver.specs.PieceWorks.{Hole, Own, Inherited, entry_of, backing_of, read_piece, table_with_entry}
use Rattle.guest_driver.specs.Refusals.{refusal_on}
use Rattle.guest_driver.proofs.CourseLemmas.{begin_goes, done_goes}
use Rattle.disk_check.specs.Check.{begin_check}
use Rattle.vdi_ops.specs.Op.{OpStep, disk_change}
use Rattle.gateway.specs.Attempt.{Attempt}
use Rattle.gateway.specs.State.{Work}
use Rattle.gateway.specs.declared.message.Status.{Status}
use Rattle.sheep_node.specs.declared.ask.Ask.TheVariants as asks
use Rattle.sheep_node.specs.Changes.{IsSoundStep, HasRequest, EndsWork, Outcome, ToWork, ToEntry, ToReply, outcome_of_driver}
use Rattle.sheep_node.specs.Changes.{outcome_of_command}
use Rattle.sheep_node.specs.Changes.{without_ended_work, DiskBegins, DiskGoesOn, CommandBegins, CommandGoesOn, CommandDecided}
use Rattle.sheep_node.specs.Changes.{CheckBegins, CheckGoesOn, ObjectBegins, ObjectIsDone, EntryBegins, EntryDecided}
use Rattle.sheep_node.specs.Courses.{after_driver_step, after_command_step, disk_after, inode_open}
use Rattle.sheep_node.specs.May.{May}
use Rattle.sheep_node.specs.MayBegin.{MayGoOn}
use Rattle.sheep_node.specs.SessionQueues.{AreDiskRequests, QueuesAreDiskRequests, CommandsAreAlone}
use Rattle.sheep_node.specs.SoundWorks.{HasSoundWorks}
use Rattle.sheep_node.specs.State.{Node}
use Rattle.sheep_node.specs.StepState.{StepState, session_in, with_sole_request}
use Rattle.sheep_node.specs.declared.course.Course.{Course}
use Rattle.sheep_node.specs.declared.course.Course.TheVariants.{Waiting, Driving, Commanding, Checking, DoingWork, AwaitingDecision}
use Rattle.sheep_node.specs.declared.course.Request.{Request}
use Rattle.sheep_node.specs.declared.input.Input.{Input}
use Rattle.sheep_node.specs.declared.session.Session.{Session}
use Rattle.sheep_node.proofs.OneWorkChanges.{HasNoWorkIn, steps_free}
use Rattle.sheep_node.proofs.SessionViews.{same_seen, free_seen, own_seen}
use Rattle.sheep_node.proofs.SoleCommands.{free}
use Rattle.sheep_node.proofs.SoleParts.{IsFreeFor, command_is_free}
use Rattle.sheep_node.proofs.SoundChanges.{IsKnown}
use Rattle.sheep_node.proofs.WantedSteps.{driver_begins-wanted, driver_goes_on-wanted}
use Rattle.overlap_law.specs.CreatedPieces.{OfFetched, CreatesPiece, OfHole, OfCopy}
use Rattle.overlap_law.proofs.CoursesOfAsks.{disk_in, seen_moves}
use Rattle.overlap_law.proofs.CoveredCourses.{CoveredSoFar}
use Rattle.overlap_law.proofs.DoneWorks.{same_disk, goes_on}
use Rattle.overlap_law.proofs.QueueOnce.{AreOnceIn}
use Rattle.overlap_law.proofs.QueuedInSteps.{begun_at_others}
use Rattle.overlap_law.proofs.WaitedSteps.{entries_stay}
use Rattle.overlap_law.proofs.WorksAtCourses.{IsAt, AtSoFar, IsOutcomeAt, StepsKeepAt, freed_at, moved_at}

module _ (Fetched : OfFetched) where
  -- a write reads the object of another disk, and creates its own so
  abbrev pub IsCreateAt : Content → List ℕ → Piece → ObjWork → DriverStage → Type 0
  IsCreateAt inode payload piece work InPlace = Unit {0}
  IsCreateAt inode payload piece work Fetching = (entry_of inode piece ≢ 0) × (entry_of inode piece ≢ inode.vid)
  IsCreateAt inode payload piece work Creating = CreatesPiece Fetched inode payload piece work
  IsCreateAt inode payload piece work Entering = Unit {0}

  abbrev pub IsCreateIn : Content → Driver → ObjWork → Type 0
  IsCreateIn inode (Reads told piece rest) work = Unit {0}
  IsCreateIn inode (Writes payload stage piece rest) work = IsCreateAt inode payload piece work stage
  IsCreateIn inode Answered work = Unit {0}

  abbrev IsCreateAct : Content → Driver → DriverAct → Type 0
  IsCreateAct inode driver (acts.Work work) = IsCreateIn inode driver work
  IsCreateAct inode driver (acts.Reply reply) = Unit {0}

  abbrev IsCreateStep : DriverStep → Type 0
  IsCreateStep step = IsCreateAct step.inode step.driver step.act

  -- ---- on a table with the same entries

  module _ (old new : Content) (vid : new.vid ≡ old.vid) (spec : new.spec ≡ old.spec) where
    piece_alike : (payload : List ℕ) (piece : Piece) (work : ObjWork) → entry_of new piece ≡ entry_of old piece
        → CreatesPiece Fetched old payload piece work → CreatesPiece Fetched new payload piece work
    piece_alike payload piece work entry (OfHole hole same) =
        OfHole (entry ∙ hole)
        (same
        ∙ sym (λ i. works.Create (object_number (vid i) piece.index) (spec i).policy (2 ^ (spec i).shift) piece.offset
        (piece_bytes payload piece)))
    piece_alike payload piece work entry (OfCopy bytes some apart long same fetched) =
        OfCopy bytes
        (λ (none : entry_of new piece ≡ 0). some (sym entry ∙ none))
        (λ (own : entry_of new piece ≡ new.vid). apart (sym entry ∙ own ∙ vid))
        (long ∙ sym (ap (λ (s : VdiSpec). 2 ^ s.shift) spec))
        (same
        ∙ sym (λ i. works.Create (object_number (vid i) piece.index) (spec i).policy (2 ^ (spec i).shift) 0
        (laid_over bytes piece.offset (piece_bytes payload piece))))
        (subst (λ (v : ℕ). Fetched v new.spec (entry_of new piece) piece.index bytes) (sym vid)
        (subst (λ (s : VdiSpec). Fetched old.vid s (entry_of new piece) piece.index bytes) (sym spec)
        (subst (λ (home : ℕ). Fetched old.vid old.spec home piece.index bytes) (sym entry) fetched)))

    create_alike : (driver : Driver) (work : ObjWork)
        → All (λ (piece : Piece). entry_of new piece ≡ entry_of old piece) (pieces_left driver) → IsCreateIn old driver work
        → IsCreateIn new driver work
    create_alike (Reads told piece rest) work same is = tt
    create_alike (Writes payload InPlace piece rest) work same is = tt
    create_alike (Writes payload Fetching piece rest) work same (some, apart) =
        let entry : entry_of new piece ≡ entry_of old piece
        = All-head (λ (piece : Piece). entry_of new piece ≡ entry_of old piece) piece rest same in (
          λ (none : entry_of new piece ≡ 0). some (sym entry ∙ none),
          λ (own : entry_of new piece ≡ new.vid). apart (sym entry ∙ own ∙ vid),
        )
    create_alike (Writes payload Creating piece rest) work same is =
        piece_alike payload piece work (All-head (λ (piece : Piece). entry_of new piece ≡ entry_of old piece) piece rest same) is
    create_alike (Writes payload Entering piece rest) work same is = tt
    create_alike Answered work same is = tt

  -- ---- what a driver does

  read_creates : (inode : Content) (told : List ℕ) (rest : List Piece) → IsCreateStep (read_on inode told rest)
  unfolding read_on
  read_creates inode told [] = tt
  read_creates inode told (piece ∷ rest) =
      cond_either IsCreateStep (entry_of inode piece == 0) (read_on inode (told ++ zeros piece.size) rest)
      (work_step inode (Reads told piece rest) (read_piece inode piece (entry_of inode piece)))
      (read_creates inode (told ++ zeros piece.size) rest) tt

  write_creates : (inode : Content) (payload : List ℕ) (rest : List Piece) → IsCreateStep (write_on inode payload rest)
  write_creates inode payload [] = tt
  write_creates inode payload (piece ∷ rest) = by_hole (entry_of inode piece == 0) refl
    where
      not_so : (entry : ℕ) → (entry_of inode piece == entry) ≡ false → entry_of inode piece ≢ entry
      not_so entry is same = both_ways (entry_of inode piece == entry) is (eq-eqb (entry_of inode piece) entry same)

      by_own : (entry_of inode piece == 0) ≡ false → (b : Bool) → (entry_of inode piece == inode.vid) ≡ b
          → IsCreateStep (write_piece_on inode payload piece rest (cond b Own (Inherited (entry_of inode piece))))
      by_own some true is = tt
      by_own some false is = (not_so 0 some, not_so inode.vid is)

      by_hole : (b : Bool) → (entry_of inode piece == 0) ≡ b
          → IsCreateStep (write_piece_on inode payload piece rest
          (cond b Hole (cond (entry_of inode piece == inode.vid) Own (Inherited (entry_of inode piece)))))
      by_hole true is = OfHole (eqb-true (entry_of inode piece) 0 is) refl
      by_hole false is = by_own is (entry_of inode piece == inode.vid) refl

  begins_creates : (disk : Disk) (ask : DiskAsk) → IsCreateStep (begin_driver disk ask)
  unfolding begin_driver
  begins_creates disk ask = by_refusal (refusal_on disk false ask) ask
    where
      by_refusal : (o : Option Cause) (ask : DiskAsk) → IsCreateStep (begin_unless_refused disk.inode ask o)
      by_refusal (Some cause) ask = tt
      by_refusal None (disk_asks.Read offset size) = read_creates disk.inode [] (pieces disk.inode.spec.shift offset size)
      by_refusal None (disk_asks.Write offset payload) =
          write_creates disk.inode payload (pieces disk.inode.spec.shift offset (length payload))

  -- what was fetched is as is asked
  abbrev IsFetchedBy : Content → List ℕ → Driver → Type 0
  IsFetchedBy inode bytes driver = (payload : List ℕ) (piece : Piece) (rest : List Piece) → driver ≡ Writes payload Fetching piece rest
      → Fetched inode.vid inode.spec (entry_of inode piece) piece.index bytes

  done_creates : (inode : Content) (bytes payload : List ℕ) (piece : Piece) (rest : List Piece) (stage : DriverStage) (done : ObjWork)
      → IsCreateAt inode payload piece done stage → length bytes ≡ driver_stage_bytes inode stage
      → IsFetchedBy inode bytes (Writes payload stage piece rest) → IsCreateStep (write_done inode bytes payload piece rest stage)
  done_creates inode bytes payload piece rest InPlace done is long fetched = write_creates inode payload rest
  done_creates inode bytes payload piece rest Fetching done (some, apart) long fetched =
      OfCopy bytes some apart long refl (fetched payload piece rest refl)
  done_creates inode bytes payload piece rest Creating done is long fetched = tt
  done_creates inode bytes payload piece rest Entering done is long fetched = write_creates (table_with_entry inode piece) payload rest

  goes_creates : (inode : Content) (bytes : List ℕ) (driver : Driver) (step : DriverStep) (done : ObjWork) → IsCreateIn inode driver done
      → driver_bytes_wanted inode driver ≡ Some (length bytes) → IsFetchedBy inode bytes driver → driver_on_done inode bytes driver
      ≡ Some step
      → IsCreateStep step
  unfolding driver_on_done
  goes_creates inode bytes (Reads told piece rest) step done is given fetched next =
      subst IsCreateStep (same_Some (read_on inode (told ++ bytes) rest) step next) (read_creates inode (told ++ bytes) rest)
  goes_creates inode bytes (Writes payload stage piece rest) step done is given fetched next =
      subst IsCreateStep (same_Some (write_done inode bytes payload piece rest stage) step next)
      (done_creates inode bytes payload piece rest stage done is
      (sym (same_Some (driver_stage_bytes inode stage) (length bytes) given)) fetched)
  goes_creates inode bytes Answered step done is given fetched next = absurd (cc (next))

  -- ---- the works of requests

  abbrev pub MakesPieceOf : Option Disk → Course → ObjWork → Type 0
  MakesPieceOf opened (Waiting ask) work = Unit {0}
  MakesPieceOf opened (Driving driver) work = IfSome opened (λ (disk : Disk). IsCreateIn disk.inode driver work)
  MakesPieceOf opened (Commanding op) work = Unit {0}
  MakesPieceOf opened (Checking check) work = Unit {0}
  MakesPieceOf opened (DoingWork asked) work = Unit {0}
  MakesPieceOf opened (AwaitingDecision entry) work = Unit {0}

  outcome_at : (req session : ℕ) (course : Course) (next : Outcome) (moved : StepState)
      → tree.get moved.node.requests req ≡ Some (record { session = session; course = course })
      → ((opened : Option Disk) (work : ObjWork) → MakesPieceOf opened course work) → IsOutcomeAt MakesPieceOf req next moved
  outcome_at req session course (ToWork work) moved got is =
      subst (λ (o : Option Request). IsAt MakesPieceOf moved.node.sessions o work) (sym got) (is _ work)
  outcome_at req session course (ToEntry entry) moved got is = tt
  outcome_at req session course (ToReply reply) moved got is = tt

  -- a read or write takes a step
  driven_makes : (number req : ℕ) (course : Course) (disk : Disk) (step : DriverStep) (so_far : StepState)
      → HasRequest number req course so_far → (session_in number so_far).disk ≡ Some disk → step.inode.vid ≡ disk.inode.vid
      → step.inode.spec ≡ disk.inode.spec
      → ((q : ℕ) (others : Driver) → HasRequest number q (Driving others) so_far → q ≢ req
      → All (λ (piece : Piece). entry_of step.inode piece ≡ entry_of disk.inode piece) (pieces_left others))
      → IsCreateStep step → HasNoWorkIn req (after_driver_step number req disk step so_far) → AtSoFar MakesPieceOf so_far
      → AtSoFar MakesPieceOf (after_driver_step number req disk step so_far)
      × IsOutcomeAt MakesPieceOf req (outcome_of_driver step.act) (after_driver_step number req disk step so_far)
  driven_makes number req course disk step so_far there on vid spec entries own free all = (
    moved_at MakesPieceOf req (record { session = number; course = Driving step.driver }) number after so_far free refl
        (λ q other work is. by_got q other work (tree.get so_far.node.requests q) refl is) all,
    by_act step.act own,
  )
    where
      now : Disk
      now = record disk { inode = step.inode }

      after : Session
      after = record (session_in number so_far) { disk = Some (record disk { inode = step.inode }) }

      by_course : (q : ℕ) (work : ObjWork) (of : Course) → q ≢ req → HasRequest number q of so_far → MakesPieceOf (Some disk) of work
          → MakesPieceOf (Some now) of work
      by_course q work (Waiting ask) other there_too is = tt
      by_course q work (Driving others) other there_too is =
          create_alike disk.inode step.inode vid spec others work (entries q others there_too other) is
      by_course q work (Commanding op) other there_too is = tt
      by_course q work (Checking check) other there_too is = tt
      by_course q work (DoingWork asked) other there_too is = tt
      by_course q work (AwaitingDecision entry) other there_too is = tt

      by_got : (q : ℕ) → q ≢ req → (work : ObjWork) (o : Option Request) → tree.get so_far.node.requests q ≡ o
          → IsAt MakesPieceOf so_far.node.sessions o work → IsAt MakesPieceOf (tree.insert so_far.node.sessions number after) o work
      by_got q other work None got seen = tt
      by_got q other work (Some request) got seen =
          seen_moves (λ (d : Option Disk) (of : Course). MakesPieceOf d of work) so_far.node.sessions number after request
          (λ here before.
          by_course q work request.course other (got ∙ ap (λ (k : ℕ). Some (record { session = k; course = request.course })) here)
          (subst (λ (d : Option Disk). MakesPieceOf d request.course work) on before)) seen

      by_act : (act : DriverAct) → IsCreateAct step.inode step.driver act
          → IsOutcomeAt MakesPieceOf req (outcome_of_driver act) (after_driver_step number req disk step so_far)
      by_act (acts.Work work) is =
          own_seen disk_in (λ (d : Option Disk) (of : Course). MakesPieceOf d of work) so_far.node.sessions number after req
          (Driving step.driver) so_far.node.requests is
      by_act (acts.Reply reply) is = tt

  -- a command does, beside which its session has no other request
  commanded_makes : (number req : ℕ) (step : OpStep) (so_far : StepState) → IsFreeFor number req so_far.node.requests
      → HasNoWorkIn req (after_command_step number req step so_far) → AtSoFar MakesPieceOf so_far
      → AtSoFar MakesPieceOf (after_command_step number req step so_far)
      × IsOutcomeAt MakesPieceOf req (outcome_of_command step.act) (after_command_step number req step so_far)
  commanded_makes number req step so_far alone free all = (
    moved_at MakesPieceOf req (record { session = number; course = Commanding step.op }) number after so_far free refl
        (λ q other work seen. free_seen disk_in (λ (d : Option Disk) (of : Course). MakesPieceOf d of work) so_far.node.sessions number
        after req q so_far.node.requests alone other seen) all,
    outcome_at req number (Commanding step.op) (outcome_of_command step.act) (after_command_step number req step so_far)
        (get-insert_same so_far.node.requests req (record { session = number; course = Commanding step.op })) (λ opened work. tt),
  )
    where
      after : Session
      after = record (session_in number so_far) {
        disk = disk_after (disk_change step) (session_in number so_far).disk;
        command = Some req;
      }

  -- a request that is alone does
  sole_makes : (number req : ℕ) (course : Course) (so_far : StepState) → HasNoWorkIn req (with_sole_request number req course so_far)
      → AtSoFar MakesPieceOf so_far → AtSoFar MakesPieceOf (with_sole_request number req course so_far)
  sole_makes number req course so_far free all =
      let after : Session = record (session_in number so_far) { command = Some req } in
      moved_at MakesPieceOf req (record { session = number; course = course }) number after so_far free refl
      (λ q other work seen. same_seen disk_in (λ (d : Option Disk) (of : Course). MakesPieceOf d of work) so_far.node.sessions number after
      refl (tree.get so_far.node.requests q) seen) all

  module _ {input : Input} {node : Node} (may : May input node) (queued : QueuesAreDiskRequests node) (sole : CommandsAreAlone node)
      (sound : IsSoundStep input node) where
    -- where a fetch ends in the middle of a step, what was fetched is as is asked
    abbrev pub FetchesAreSo : StepState → Type 0
    FetchesAreSo so_far = (session req number : ℕ) (work : Work) (attempt : Attempt) (status : Status) (payload bytes : List ℕ)
        (piece : Piece) (rest : List Piece) (disk : Disk)
        → EndsWork input node so_far session req number work attempt status (Driving (Writes payload Fetching piece rest)) bytes
        → (session_in session so_far).disk ≡ Some disk
        → Fetched disk.inode.vid disk.inode.spec (entry_of disk.inode piece) piece.index bytes

    -- what is known beside it in the middle of a step
    pub record KnowsCreates (so_far : StepState) : Type 0 where
      pub known : IsKnown so_far
      pub sound_works : HasSoundWorks so_far.node
      pub queues : AreDiskRequests so_far.node.requests so_far.node.sessions
      pub once : AreOnceIn so_far.node.sessions
      pub covered : CoveredSoFar so_far
      pub fetches : FetchesAreSo so_far

    pub steps_make : StepsKeepAt MakesPieceOf input node KnowsCreates
    steps_make so_far session req next moved (DiskBegins ask disk there on may_run) (knows, all) =
        let goes = begin_goes Answered disk ask in
        let wanted = driver_begins-wanted disk ask in
        driven_makes session req (Waiting ask) disk (begin_driver disk ask) so_far there on wanted.vid wanted.spec
        (λ q others there_too other.
        subst (λ (inode : Content). All (λ (piece : Piece). entry_of inode piece ≡ entry_of disk.inode piece) (pieces_left others))
        (sym goes.table) (λ k d within. refl))
        (begins_creates disk ask)
        (steps_free so_far session req next moved (DiskBegins ask disk there on may_run) sound knows.known.0.0).free all
    steps_make so_far session req next moved (DiskGoesOn number work attempt status bytes driver disk step ends on is) (knows, all) =
        let freed = without_ended_work session req work status so_far in
        let goes : Goes driver (inode_after disk.inode driver) step
        = subst (λ (o : Option DriverStep). IfSome o (λ step. Goes driver (inode_after disk.inode driver) step)) is
        (done_goes disk.inode bytes driver) in
        let wanted = driver_goes_on-wanted disk.inode bytes driver step is in
        let one = knows.sound_works.open_works req work ends.ends.learns.there in
        let before : (session_in session so_far).disk ≡ Some disk
        = sym (same_disk sound so_far session req number work attempt status (Driving driver) bytes ends knows.known one) ∙ on in
        let done : IsCreateIn disk.inode driver work.work
        = subst (λ (d : Option Disk). MakesPieceOf d (Driving driver) work.work) before
        (subst (λ (o : Option Request). IsAt MakesPieceOf so_far.node.sessions o work.work) ends.ends.request
        (all req work.work (inl (work, ends.ends.learns.there, refl)))) in
        let given : driver_bytes_wanted disk.inode driver ≡ Some (length bytes)
        = (subst (λ (o : Option Disk). MayGoOn (inode_open o) (Driving driver) bytes) before
        (goes_on sound so_far session req number work attempt status (Driving driver) bytes ends knows.known one)).0 in
        driven_makes session req (Driving driver) disk step freed ends.ends.request on wanted.vid wanted.spec
        (λ q others there_too other.
        subst (λ (inode : Content). All (λ (piece : Piece). entry_of inode piece ≡ entry_of disk.inode piece) (pieces_left others))
        (sym goes.table)
        (entries_stay disk.inode driver others
        (begun_at_others so_far knows.queues knows.once knows.covered session req q driver others ends.ends.request there_too other)))
        (goes_creates disk.inode bytes driver step work.work done given
        (λ payload piece rest same.
        knows.fetches session req number work attempt status payload bytes piece rest disk
        (subst (λ (d : Driver). EndsWork input node so_far session req number work attempt status (Driving d) bytes) same ends) before)
        is)
        (steps_free so_far session req next moved
        (DiskGoesOn number work attempt status bytes driver disk step ends on is) sound knows.known.0.0).free
        (freed_at MakesPieceOf session req work status so_far all)
    steps_make so_far session req next moved (CommandBegins ask step arrival is) (knows, all) =
        commanded_makes session req step so_far (free may queued sole so_far session req (asks.Vdi ask) None arrival refl)
        (steps_free so_far session req next moved (CommandBegins ask step arrival is) sound knows.known.0.0).free all
    steps_make so_far session req next moved (CommandGoesOn number work attempt status bytes op step ends is) (knows, all) =
        let freed = without_ended_work session req work status so_far in
        commanded_makes session req step freed (command_is_free session req (Commanding op) so_far ends.ends.request refl knows.known.0.1)
        (steps_free so_far session req next moved
        (CommandGoesOn number work attempt status bytes op step ends is) sound knows.known.0.0).free
        (freed_at MakesPieceOf session req work status so_far all)
    steps_make so_far session req next moved (CommandDecided entry op step from read there waits is) (knows, all) =
        commanded_makes session req step so_far (command_is_free session req (Commanding op) so_far there refl knows.known.0.1)
        (steps_free so_far session req next moved (CommandDecided entry op step from read there waits is) sound knows.known.0.0).free all
    steps_make so_far session req next moved (CheckBegins inode arrival on) (knows, all) =
        let course : Course = Checking (begin_check inode).check in (
          sole_makes session req course so_far
              (steps_free so_far session req next moved (CheckBegins inode arrival on) sound knows.known.0.0).free all,
          outcome_at req session course next moved
              (get-insert_same so_far.node.requests req (record { session = session; course = course })) (λ opened work. tt),
        )
    steps_make so_far session req next moved (CheckGoesOn number work attempt status bytes check step ends is) (knows, all) =
        let freed = without_ended_work session req work status so_far in
        let course : Course = Checking step.check in (
          sole_makes session req course freed
              (steps_free so_far session req next moved
              (CheckGoesOn number work attempt status bytes check step ends is) sound knows.known.0.0).free
              (freed_at MakesPieceOf session req work status so_far all),
          outcome_at req session course next moved
              (get-insert_same so_far.node.requests req (record { session = session; course = course })) (λ opened work. tt),
        )
    steps_make so_far session req next moved (ObjectBegins asked arrival) (knows, all) = (
      sole_makes session req (DoingWork asked) so_far
          (steps_free so_far session req next moved (ObjectBegins asked arrival) sound knows.known.0.0).free all,
      outcome_at req session (DoingWork asked) next moved
          (get-insert_same so_far.node.requests req (record { session = session; course = DoingWork asked })) (λ opened work. tt),
    )
    steps_make so_far session req next moved (ObjectIsDone number work attempt status bytes asked ends) (knows, all) =
        (freed_at MakesPieceOf session req work status so_far all, tt)
    steps_make so_far session req next moved (EntryBegins entry arrival) (knows, all) = (
      sole_makes session req (AwaitingDecision entry) so_far
          (steps_free so_far session req next moved (EntryBegins entry arrival) sound knows.known.0.0).free all,
      tt,
    )
    steps_make so_far session req next moved (EntryDecided entry wanted from read there waits) (knows, all) = (all, tt)
