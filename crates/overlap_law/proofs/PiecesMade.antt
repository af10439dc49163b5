-- At each moment on the way of an event a work that creates the own object of a write's piece creates it of the piece, by the table of the
-- disk that its session has open; and over each change what it was created of is as is asked, if that is asked of what was fetched.
use Rattle.std.proofs.Common.{◌≡◌, ◌≢◌, inl, ⊎_elim, ℕ, false, List, Option, Some, None, refl, sym, ap, subst, ◌∙◌}
use Rattle.std.specs.Ordering.{nat_cmp}
use Rattle.std.specs.FinMap as tree
use Rattle.proof_tools.proofs.FiniteMaps.{get-insert_same, get-insert_cases, get-insert_other}
use Rattle.object_id.specs.declared.entry.VdiSpec.{VdiSpec}
use Rattle.cluster_script.specs.declared.statement.Statement.{Statement}
use Rattle.peer_proto.specs.declared.work.ObjWork.{ObjWork}
use Rattle.gateway.specs.Attempt.{Attempt}
use Rattle.gateway.specs.State.{Gateway, Work}
use Rattle.gateway.specs.declared.message.Status.{Status}
use Rattle.guest_driver.specs.declared.disk.Disk.{Disk}
use Rattle.guest_driver.specs.Driver.{Driver, Reads, Writes, Answered, DriverStage, InPlace, Fetching, Creating, Entering}
use Rattle.guest_driver.specs.Pieces.{Piece}
use Rattle.guest_driver.specs.PieceWorks.{entry_of}
use Rattle.inode.specs.Layout.{Content}
use Rattle.sheep_node.specs.Changes.{IsSoundStep, EndsWork}
use Rattle.sheep_node.specs.May.{May}
use Rattle.sheep_node.specs.SessionQueues.{session_among}
use Rattle.sheep_node.specs.NodeInvariant.{IsSoundNode}
use Rattle.sheep_node.specs.State.{session_at}
use Rattle.sheep_node.specs.StepState.{StepState}
use Rattle.sheep_node.specs.declared.course.Course.{Course}
use Rattle.sheep_node.specs.declared.course.Course.TheVariants.{Waiting, Driving, Commanding, Checking, DoingWork, AwaitingDecision}
use Rattle.sheep_node.specs.declared.course.Request.{Request}
use Rattle.sheep_node.proofs.OneWorkParts.{Requests, Sessions}
use Rattle.sheep_world.specs.Began.{Began}
use Rattle.sheep_world.specs.NodeCauses.{input_of_cause, host_with_node}
use Rattle.sheep_world.specs.World.{Host}
use Rattle.sheep_world.specs.RunsWithAsks.{Move}
use Rattle.overlap_law.specs.CreatedPieces.{OfFetched, anything, CreatesPiece, OfHole, OfCopy, CreatesAreOf, CreatesAreOfPieces}
use Rattle.overlap_law.specs.MomentChanges.{MomentChange, MomentTrail, RunsAreInRange}
use Rattle.overlap_law.specs.Past.{MomentWithPast, first_moment, run_with_past}
use Rattle.overlap_law.specs.StepMoments.{SteppingNode, IsStepping, StepsByChanges, LeadsInStep, first_in_step, moment_in_step}
use Rattle.overlap_law.proofs.AnswersInMoments.{not_lost}
use Rattle.overlap_law.proofs.CausedWorks.{by_changes}
use Rattle.overlap_law.proofs.GuestsInMoments.{GuestsChange, GuestsStay, GuestsAreNone, IsGoingOn, IsBetween, between}
use Rattle.overlap_law.proofs.KeptInRuns.{kept_on_the_way}
use Rattle.overlap_law.proofs.KnownSteps.{known_step}
use Rattle.overlap_law.proofs.NoRecoveredDue.{began-with_past}
use Rattle.overlap_law.proofs.OpeningOverlap.{no_request}
use Rattle.overlap_law.proofs.OpeningReads.{knows_well}
use Rattle.overlap_law.proofs.PieceCreates.{MakesPieceOf, KnowsCreates, steps_make}
use Rattle.overlap_law.proofs.QueuesInMoments.{HasGoodQueues}
use Rattle.overlap_law.proofs.TablesOfReads.{queues_along}
use Rattle.overlap_law.proofs.WholeInRuns.{may_change, sound_here}
use Rattle.overlap_law.proofs.WorksAtCourses.{IsAt, HaveAt, AtSoFar, change_keeps_at}

module _ (Fetched : OfFetched) where
  abbrev HasPieces : Host → Type 0
  HasPieces host = HaveAt (MakesPieceOf Fetched) host.node.gateway.works host.node.requests host.node.sessions

  abbrev pub ArePiecesMade : MomentWithPast → Type 0
  ArePiecesMade moment = (n : ℕ) (host : Host) → tree.get moment.world.hosts n ≡ Some host → host.is_lost ≡ false
      → HaveAt (MakesPieceOf Fetched) host.node.gateway.works host.node.requests host.node.sessions

  -- where a fetch ends in the middle of whatever step of an event, what was fetched is as is asked
  abbrev pub FetchesAreAsked : List Statement → MomentWithPast → MomentWithPast → Type 0
  FetchesAreAsked script start before = (stepping : SteppingNode) (so_far : StepState) → IsStepping script start.world stepping
      → StepsByChanges stepping.cause → LeadsInStep stepping (first_in_step stepping) so_far
      → before ≡ moment_in_step script stepping start so_far → (session req number : ℕ) (work : Work) (attempt : Attempt)
      (status : Status) (payload bytes : List ℕ) (piece : Piece) (rest : List Piece) (disk : Disk)
      → EndsWork (input_of_cause stepping.cause) stepping.host.node so_far session req number work attempt status
      (Driving (Writes payload Fetching piece rest)) bytes
      → (session_at session so_far.node).disk ≡ Some disk
      → Fetched disk.inode.vid disk.inode.spec (entry_of disk.inode piece) piece.index bytes

  -- ---- over a change

  module _ (script : List Statement) (range : RunsAreInRange script) (events : List Move) (start before after : MomentWithPast)
      (ran : run_with_past script events ≡ Some start) (trail : MomentTrail script start before)
      (change : MomentChange script start before after) (fetched : FetchesAreAsked script start before) (all : ArePiecesMade before)
    where
      began : Began script start.world
      began = began-with_past script events start ran

      -- a node that goes on in its step
      module _ (g : IsGoingOn script start before after) where
        sound : IsSoundStep (input_of_cause g.stepping.cause) g.stepping.host.node
        sound = (known_step script range start.world began g.stepping g.is).sound

        whole : IsSoundNode g.stepping.host.node
        whole = sound_here script range start.world began g.stepping.n g.stepping.host g.is.there g.is.up

        may : May (input_of_cause g.stepping.cause) g.stepping.host.node
        may =
            may_change script range start.world began g.stepping.n g.stepping.host g.is.there g.is.up g.stepping.cause
            (by_changes g.stepping.cause g.by) g.is.caused

        was_there : tree.get before.world.hosts g.stepping.n ≡ Some (host_with_node g.stepping.host g.so_far.node)
        was_there =
            ap (λ (m : MomentWithPast). tree.get m.world.hosts g.stepping.n) g.before_so
            ∙ get-insert_same start.world.hosts g.stepping.n (host_with_node g.stepping.host g.so_far.node)

        knows : KnowsCreates Fetched may whole.queues whole.sole_commands sound g.so_far
        knows =
            let well = knows_well script range events start ran g.stepping g.is g.by g.so_far g.within.leads
            (subst (MomentTrail script start) g.before_so trail) in
            let queues : HasGoodQueues g.so_far.node
            = queues_along script range start began trail g.stepping.n (host_with_node g.stepping.host g.so_far.node) was_there in
            record {
              known = well.waits;
              sound_works = well.sound;
              queues = queues.queues;
              once = queues.once;
              covered = queues.covered;
              fetches = λ session req number work attempt status payload bytes piece rest disk ends on.
                  fetched g.stepping g.so_far g.is g.by g.within.leads g.before_so session req number work attempt status payload bytes
                  piece rest disk ends on;
            }

        own : AtSoFar (MakesPieceOf Fetched) g.next
        own =
            change_keeps_at (MakesPieceOf Fetched) sound (KnowsCreates Fetched may whole.queues whole.sole_commands sound)
            (λ here known. known.known.0.0) (steps_make Fetched may whole.queues whole.sole_commands sound) g.so_far g.next g.within.change
            (knows, all g.stepping.n (host_with_node g.stepping.host g.so_far.node) was_there (not_lost g.stepping.host g.is.up))

      module _ (n : ℕ) (host : Host) (there : tree.get after.world.hosts n ≡ Some host) (up : host.is_lost ≡ false) where
        by_guests : GuestsChange before n host → HasPieces host
        by_guests (GuestsStay old old_there old_up gateway sessions requests) =
            subst (λ (g : Gateway). HaveAt (MakesPieceOf Fetched) g.works host.node.requests host.node.sessions) (sym gateway)
            (subst (λ (r : Requests). HaveAt (MakesPieceOf Fetched) old.node.gateway.works r host.node.sessions) (sym requests)
            (subst (λ (s : Sessions). HaveAt (MakesPieceOf Fetched) old.node.gateway.works old.node.requests s) (sym sessions)
            (all n old old_there (old_up up))))
        by_guests (GuestsAreNone sessions none) = λ req work has.
            subst (λ (o : Option Request). IsAt (MakesPieceOf Fetched) host.node.sessions o work)
            (sym (ap (λ (r : tree.FinMap nat_cmp Request). tree.get r req) none ∙ tree.get-empty {X = Request} nat_cmp req)) tt

        going_on : IsGoingOn script start before after → HasPieces host
        going_on g = ⊎_elim
            (λ (mine : (n ≡ g.stepping.n) × (host_with_node g.stepping.host g.next.node ≡ host)). subst HasPieces mine.1 (own g))
            (λ (other : (n ≢ g.stepping.n) × (tree.get start.world.hosts n ≡ Some host)).
            all n host
            (ap (λ (m : MomentWithPast). tree.get m.world.hosts n) g.before_so
            ∙ get-insert_other start.world.hosts g.stepping.n (host_with_node g.stepping.host g.so_far.node) n other.0 ∙ other.1) up)
            (get-insert_cases start.world.hosts g.stepping.n (host_with_node g.stepping.host g.next.node) n host
            (sym (ap (λ (m : MomentWithPast). tree.get m.world.hosts n) g.after_so) ∙ there))

        made_so : HasPieces host
        made_so = ⊎_elim
            (λ (g : IsGoingOn script start before after). going_on g)
            (λ (b : IsBetween before after). by_guests (b.0 n host there))
            (between script start change)

      pub pieces_stay : ArePiecesMade after
      pieces_stay n host there up = made_so n host there up

  pub pieces_open : (script : List Statement) → ArePiecesMade (first_moment script)
  pieces_open script n host there up req work has = by_request (tree.get host.node.requests req) refl
    where
      by_request : (o : Option Request) → tree.get host.node.requests req ≡ o
          → IsAt (MakesPieceOf Fetched) host.node.sessions (tree.get host.node.requests req) work
      by_request None got = subst (λ (o : Option Request). IsAt (MakesPieceOf Fetched) host.node.sessions o work) (sym got) tt
      by_request (Some request) got = no_request script n host there req request got

  -- of the open works
  pub creates_so : (moment : MomentWithPast) → ArePiecesMade moment → CreatesAreOf Fetched moment.world.hosts
  creates_so moment all n host there up req work request opened payload piece rest got asked on course =
      subst (λ (o : Option Disk). MakesPieceOf Fetched o (Driving (Writes payload Creating piece rest)) work.work) on
      (subst (λ (c : Course). MakesPieceOf Fetched (session_among request.session host.node.sessions).disk c work.work) course
      (subst (λ (o : Option Request). IsAt (MakesPieceOf Fetched) host.node.sessions o work.work) asked
      (all n host there up req work.work (inl (work, got, refl)))))

  -- and of the fetches: the table has another disk's object
  pub fetches_so : (moment : MomentWithPast) → ArePiecesMade moment → (n : ℕ) (host : Host) → tree.get moment.world.hosts n ≡ Some host
      → host.is_lost ≡ false → (req : ℕ) (work : Work) (request : Request) (opened : Disk) (payload : List ℕ) (piece : Piece)
      (rest : List Piece) → tree.get host.node.gateway.works req ≡ Some work → tree.get host.node.requests req ≡ Some request
      → (session_at request.session host.node).disk ≡ Some opened → request.course ≡ Driving (Writes payload Fetching piece rest)
      → (entry_of opened.inode piece ≢ 0) × (entry_of opened.inode piece ≢ opened.inode.vid)
  fetches_so moment all n host there up req work request opened payload piece rest got asked on course =
      subst (λ (o : Option Disk). MakesPieceOf Fetched o (Driving (Writes payload Fetching piece rest)) work.work) on
      (subst (λ (c : Course). MakesPieceOf Fetched (session_among request.session host.node.sessions).disk c work.work) course
      (subst (λ (o : Option Request). IsAt (MakesPieceOf Fetched) host.node.sessions o work.work) asked
      (all n host there up req work.work (inl (work, got, refl)))))

-- ---- what is asked makes more

module _ (Fetched Asked : OfFetched) (more : (vid : ℕ) (spec : VdiSpec) (home index : ℕ) (bytes : List ℕ)
    → Fetched vid spec home index bytes → Asked vid spec home index bytes) where
  piece_more : (inode : Content) (payload : List ℕ) (piece : Piece) (work : ObjWork) → CreatesPiece Fetched inode payload piece work
      → CreatesPiece Asked inode payload piece work
  piece_more inode payload piece work (OfHole hole same) = OfHole hole same
  piece_more inode payload piece work (OfCopy old some apart long same fetched) =
      OfCopy old some apart long same (more inode.vid inode.spec (entry_of inode piece) piece.index old fetched)

  stage_more : (inode : Content) (payload : List ℕ) (stage : DriverStage) (piece : Piece) (rest : List Piece) (work : ObjWork)
      → MakesPieceOf Fetched (Some (record { inode = inode; snapshot = false })) (Driving (Writes payload stage piece rest)) work
      → MakesPieceOf Asked (Some (record { inode = inode; snapshot = false })) (Driving (Writes payload stage piece rest)) work
  stage_more inode payload InPlace piece rest work is = tt
  stage_more inode payload Fetching piece rest work is = is
  stage_more inode payload Creating piece rest work is = piece_more inode payload piece work is
  stage_more inode payload Entering piece rest work is = tt

  driver_more : (opened : Option Disk) (driver : Driver) (work : ObjWork) → MakesPieceOf Fetched opened (Driving driver) work
      → MakesPieceOf Asked opened (Driving driver) work
  driver_more None driver work is = tt
  driver_more (Some disk) (Reads told piece rest) work is = tt
  driver_more (Some disk) (Writes payload stage piece rest) work is = stage_more disk.inode payload stage piece rest work is
  driver_more (Some disk) Answered work is = tt

  course_more : (opened : Option Disk) (course : Course) (work : ObjWork) → MakesPieceOf Fetched opened course work
      → MakesPieceOf Asked opened course work
  course_more opened (Waiting ask) work is = tt
  course_more opened (Driving driver) work is = driver_more opened driver work is
  course_more opened (Commanding op) work is = tt
  course_more opened (Checking check) work is = tt
  course_more opened (DoingWork asked) work is = tt
  course_more opened (AwaitingDecision entry) work is = tt

  pub pieces_more : (moment : MomentWithPast) → ArePiecesMade Fetched moment → ArePiecesMade Asked moment
  pieces_more moment all n host there up req work has =
      by_request (tree.get host.node.requests req) (all n host there up req work has)
    where
      by_request : (o : Option Request) → IsAt (MakesPieceOf Fetched) host.node.sessions o work
          → IsAt (MakesPieceOf Asked) host.node.sessions o work
      by_request None is = tt
      by_request (Some request) is = course_more (session_among request.session host.node.sessions).disk request.course work is

-- ---- in every run

pub pieces-in_run : (script : List Statement) → RunsAreInRange script → (events : List Move) (start moment : MomentWithPast)
    → run_with_past script events ≡ Some start → MomentTrail script start moment → ArePiecesMade anything moment
pieces-in_run script range events start moment ran trail =
    kept_on_the_way script (ArePiecesMade anything) (pieces_open anything script)
    (λ events start before after ran trail change all.
    pieces_stay anything script range events start before after ran trail change
    (λ stepping so_far is by leads same session req number work attempt status payload bytes piece rest disk ends on. tt) all)
    events start moment ran trail

pub creates_of_pieces : (script : List Statement) → RunsAreInRange script → (events : List Move) (start moment : MomentWithPast)
    → run_with_past script events ≡ Some start → MomentTrail script start moment → CreatesAreOfPieces moment.world.hosts
creates_of_pieces script range events start moment ran trail =
    creates_so anything moment (pieces-in_run script range events start moment ran trail)
