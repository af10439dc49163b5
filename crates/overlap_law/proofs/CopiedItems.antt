-- Behind each change on the way of an event the items of a write's request, in the blocks of the disk that its session has open, are those
-- of its pieces, at whichever node it is; so in the object of the piece that the write is at it has none beside the piece.
use Rattle.std.proofs.Common.{◌≡◌, ◌≢◌, ◌⊎◌, ⊎_elim, arith, ℕ, ◌+◌, false, List, [], ◌∷◌, ◌++◌}
use Rattle.std.proofs.Common.{Contains, Option, Some, sym, ap, subst, ◌∙◌}
use Rattle.std.specs.FinMap as tree
use Rattle.std.proofs.lemmas.Option.{same_Some}
use Rattle.proof_tools.proofs.FiniteMaps.{get-insert_cases}
use Rattle.cluster_script.specs.declared.statement.Statement.{Statement}
use Rattle.guest_driver.specs.declared.disk.Disk.{Disk}
use Rattle.guest_driver.specs.Pieces.{Piece, first_index, piece_in, pieces}
use Rattle.peer_proto.specs.declared.guest.DiskAsk.TheVariants as disk_asks
use Rattle.sheep_node.specs.declared.ask.Ask.TheVariants as asks
use Rattle.sheep_node.specs.Changes as changes
use Rattle.sheep_node.specs.declared.course.Request.{Request}
use Rattle.sheep_node.specs.declared.event.Event.{Event}
use Rattle.sheep_node.specs.SessionQueues.{session_among}
use Rattle.sheep_node.specs.StepState.{StepState}
use Rattle.sheep_world.specs.Began.{Began}
use Rattle.sheep_world.specs.NodeCauses.{host_with_node}
use Rattle.sheep_world.specs.Step.{EventOutcome}
use Rattle.sheep_world.specs.Began.{MakesMove}
use Rattle.sheep_world.specs.World.{Host}
use Rattle.sheep_world.specs.RunsWithAsks.{Move}
use Rattle.overlap_law.specs.AloneItems.{HasOwnItems}
use Rattle.overlap_law.specs.Headline.{ledger_of}
use Rattle.overlap_law.specs.MomentChanges.{MomentChange, MomentTrail, Then, RunsAreInRange}
use Rattle.overlap_law.specs.MomentChanges as moments
use Rattle.overlap_law.specs.Past.{MomentWithPast, moment_after, run_with_past}
use Rattle.overlap_law.specs.RequestsOfScript.{IsCourseOfAsk, is_of_client}
use Rattle.overlap_law.specs.StepMoments.{SteppingNode, IsStepping, StepsByChanges, LeadsInStep, first_in_step, moment_in_step}
use Rattle.overlap_law.specs.WrittenPieces.{ItemsAreOfPieces}
use Rattle.overlap_law.proofs.AloneItemsInSteps.{by_replies, course_in_step, on_disk, own_in_step, own_there}
use Rattle.overlap_law.proofs.AlonePieces.{asks_on, item_so, items_of_cut, items_of_pieces-in_run}
use Rattle.overlap_law.proofs.AttemptLists.{place_of}
use Rattle.overlap_law.proofs.CoursesOfAsks.{IsNoClients, asked_none, course_none, placed_unless, IsPlacedIn}
use Rattle.overlap_law.proofs.CoursesOfScript.{asked_by, BeganOn, requests_placed}
use Rattle.overlap_law.proofs.EntryWorks.{known_disk}
use Rattle.overlap_law.proofs.NoRecoveredDue.{began-with_past}
use Rattle.overlap_law.proofs.PiecesBehind.{piece_at_place}
use Rattle.overlap_law.proofs.PiecesUnderWay.{whole_blocks}
use Rattle.overlap_law.proofs.RunsWithOneMore.{run_with_one_more}
use Rattle.overlap_law.proofs.WorksInMoments.{well_along}
use Rattle.overlap_law.proofs.EventsOfChanges.{by_change}

-- ---- in the middle of a step

module _ (script : List Statement) (range : RunsAreInRange script) (events : List Move) (start : MomentWithPast)
    (ran : run_with_past script events ≡ Some start) where
  began : Began script start.world
  began = began-with_past script events start ran

  module _ (on : SteppingNode) (is : IsStepping script start.world on) (by : StepsByChanges on.cause) (so_far : StepState)
      (leads : LeadsInStep on (first_in_step on) so_far) (trail : MomentTrail script start (moment_in_step script on start so_far)) where
    abbrev here : MomentWithPast
    here = moment_in_step script on start so_far

    -- a request then, at the node that steps or at another one
    module _ (n : ℕ) (host : Host) (there : tree.get (moment_in_step script on start so_far).world.hosts n ≡ Some host)
        (up : host.is_lost ≡ false) (req : ℕ) (request : Request) (got : tree.get host.node.requests req ≡ Some request) where
      abbrev IsHere : Type 0
      IsHere = (n ≡ on.n) × (host_with_node on.host so_far.node ≡ host)

      abbrev IsElsewhere : Type 0
      IsElsewhere = (n ≢ on.n) × (tree.get start.world.hosts n ≡ Some host)

      cases : IsHere ⊎ IsElsewhere
      cases = get-insert_cases start.world.hosts on.n (host_with_node on.host so_far.node) n host there

      abbrev HasCourse : Host → Type 0
      HasCourse now = (disk : Option ℕ)
          × IsCourseOfAsk (asked_by script req) (session_among request.session now.node.sessions).disk disk request.course

      course_elsewhere : IsNoClients (asked_by script req) request.course → tree.get start.world.hosts n ≡ Some host → HasCourse host
      course_elsewhere unless_so at =
          let (disk, begun, placed) = placed_unless (asked_by script) (BeganOn script start.world.guests) req
          (session_among request.session host.node.sessions).disk request.course unless_so
          (subst (IsPlacedIn (asked_by script) (BeganOn script start.world.guests) req host.node.sessions) got
          (requests_placed script range start.world began n host at req)) in
          (disk, placed)

      -- it is where its statement allows
      course_here : IsNoClients (asked_by script req) request.course → HasCourse host
      course_here unless_so = ⊎_elim
          (λ (own : IsHere).
          subst HasCourse own.1
          (course_in_step script range events start ran on is by so_far leads req request
          (ap (λ (h : Host). tree.get h.node.requests req) own.1 ∙ got) unless_so))
          (λ (other : IsElsewhere). course_elsewhere unless_so other.1)
          cases

      -- and its items are its own
      module _ (opened : Disk) (at : (session_among request.session host.node.sessions).disk ≡ Some opened) (offset : ℕ)
          (payload : List ℕ) (asked : asked_by script req ≡ Some (asks.Disk (disk_asks.Write offset payload))) where
        abbrev AreOwn : Type 0
        AreOwn = HasOwnItems req opened.inode.vid offset payload (ledger_of (moment_in_step script on start so_far).past.history)

        own_elsewhere : tree.get start.world.hosts n ≡ Some host → AreOwn
        own_elsewhere at_start =
            let (disk, course) = course_elsewhere
            (asked_none (asked_by script req) (asks.Disk (disk_asks.Write offset payload)) request.course asked) at_start in
            let onit = on_disk (asked_by script req) offset payload asked (session_among request.session host.node.sessions).disk disk
            request.course course in
            let same : disk ≡ Some opened.inode.vid
            = onit.same ∙ ap (λ (d : Disk). Some d.inode.vid) (same_Some onit.disk opened (sym onit.there ∙ at)) in
            by_replies script range events start ran on is by so_far leads req offset opened.inode.vid payload
            (own_there script range events start ran on is by so_far leads n host at_start up req request got offset payload asked disk
            opened.inode.vid course same)

        own_here : HasOwnItems req opened.inode.vid offset payload (ledger_of (moment_in_step script on start so_far).past.history)
        own_here = ⊎_elim
            (λ (own : IsHere).
            own_in_step script range events start ran on is by so_far leads req request
            (ap (λ (h : Host). tree.get h.node.requests req) own.1 ∙ got) opened
            (ap (λ (h : Host). (session_among request.session h.node.sessions).disk) own.1 ∙ at) offset payload asked)
            (λ (other : IsElsewhere). own_elsewhere other.1)
            cases

    of_pieces : ItemsAreOfPieces (ledger_of (moment_in_step script on start so_far).past.history)
        (moment_in_step script on start so_far).world.hosts
    of_pieces = record {
      each = λ n host there up req index unit place offset request opened disk item payload stage piece rest before at course cut inside got
          own.
          let (began_on, placed) = course_here n host there up req request at.there
          (course_none (asked_by script req) request.course (ap is_of_client course)) in
          let asks = asks_on (asked_by script req) opened began_on request.course payload stage piece rest
          (subst (λ (o : Option Disk). IsCourseOfAsk (asked_by script req) o began_on request.course) at.on placed) course in
          let known = known_disk host.node (well_along script range start began trail n host there) request.session opened at.on in
          let shift = known.disk.spec_valid.shift.0 in
          let whole = whole_blocks script range req asks.offset payload asks.is host in
          items_of_cut opened.inode.spec.shift asks.offset offset payload asks.before before rest piece index unit item asks.cut cut
          (item_so (ledger_of (moment_in_step script on start so_far).past.history) req opened.inode.vid asks.offset opened.inode.spec.shift
          index unit place payload disk item (omega (arith, shift)) whole.0 inside
          (own_here n host there up req request at.there opened at.on asks.offset payload asks.is) at.known got own);
    }

  -- ---- behind each change

  at_end : (event : Event) (made : EventOutcome) → MakesMove script event start.world made
      → ItemsAreOfPieces (ledger_of (moment_after script event start made).past.history) (moment_after script event start made).world.hosts
  at_end event made happened =
      items_of_pieces-in_run script range (events ++ happened.move ∷ []) (moment_after script event start made)
      (run_with_one_more script event made events start happened ran)

  pub pieces_after : {before after : MomentWithPast} → MomentTrail script start before → MomentChange script start before after
      → ItemsAreOfPieces (ledger_of after.past.history) after.world.hosts
  pieces_after trail change =
      by_change script start
      (λ before after. MomentTrail script start before → ItemsAreOfPieces (ledger_of after.past.history) after.world.hosts)
      (λ on is by trail. of_pieces on is by (first_in_step on) changes.Still (Then trail (moments.StepBegins on is by)))
      (λ on is by so_far next within trail.
      of_pieces on is by next (changes.Then within.leads within.change) (Then trail (moments.StepGoesOn on so_far next is by within)))
      (λ event made happened trail. at_end event made happened) change trail

  -- so they are at each moment on the way
  pub pieces-on_the_way : {moment : MomentWithPast} → MomentTrail script start moment
      → ItemsAreOfPieces (ledger_of moment.past.history) moment.world.hosts
  pieces-on_the_way moments.Still = items_of_pieces-in_run script range events start ran
  pieces-on_the_way (Then trail change) = pieces_after trail change

-- ---- two pieces of a request in one object are one

pub same_piece : (shift offset size : ℕ) (one other : Piece) → Contains (pieces shift offset size) one
    → Contains (pieces shift offset size) other → one.index ≡ other.index → one ≡ other
same_piece shift offset size one other among among_too same =
    let (i, got) = place_of (pieces shift offset size) one among in
    let (j, got_too) = place_of (pieces shift offset size) other among_too in
    let first : one ≡ piece_in shift offset size (first_index shift offset + i) = piece_at_place shift offset size i one got in
    let second : other ≡ piece_in shift offset size (first_index shift offset + j) = piece_at_place shift offset size j other got_too in
    let at : one.index ≡ first_index shift offset + i = ap (λ (p : Piece). p.index) first in
    let at_too : other.index ≡ first_index shift offset + j = ap (λ (p : Piece). p.index) second in
    let place : first_index shift offset + i ≡ first_index shift offset + j = omega (arith, at, at_too, same) in
    first ∙ ap (piece_in shift offset size) place ∙ sym second
