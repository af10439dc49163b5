-- In each run in range what a write has still to write has its open items, piece by piece: it is on a working disk that its session has
-- open.
use Rattle.std.proofs.Common.{◌≡◌, ℕ, ◌%◌, ◌==◌, not, ◌&&◌, List, ◌∷◌, length, Option, Some, None, refl, sym, ap, subst, ◌∙◌, arith, Bool}
use Rattle.std.proofs.Common.{false}
use Rattle.std.specs.Prelude.{slice_get}
use Rattle.std.specs.Option.{option_and_then}
use Rattle.std.proofs.lemmas.Bool.{and_parts, eqb-true}
use Rattle.std.proofs.lemmas.Option.{same_Some}
use Rattle.cluster_script.specs.declared.statement.Statement.{Statement}
use Rattle.cluster_script.specs.NumberedRequests.{request_at}
use Rattle.guest_driver.specs.declared.disk.Disk.{Disk}
use Rattle.guest_driver.specs.Driver.{Driver, Reads, Writes, Answered}
use Rattle.guest_driver.specs.Pieces.{Piece, pieces}
use Rattle.peer_proto.specs.declared.guest.DiskAsk.{DiskAsk}
use Rattle.peer_proto.specs.declared.guest.DiskAsk.TheVariants as disk_asks
use Rattle.sheep_node.specs.declared.ask.Ask.TheVariants as asks
use Rattle.sheep_node.specs.declared.course.Course.{Course}
use Rattle.sheep_node.specs.declared.course.Course.TheVariants.{Waiting, Driving, Commanding, Checking, DoingWork, AwaitingDecision}
use Rattle.sheep_node.specs.SessionQueues.{session_among}
use Rattle.sheep_world.specs.World.{Host}
use Rattle.sheep_world.specs.Asking.{ask_of_statement}
use Rattle.sheep_world.specs.HistoryAdditions.{block_in}
use Rattle.sheep_world.specs.RunsWithAsks.{Move}
use Rattle.overlap_law.specs.DiskEvents.{HasOpenItem, WritesHaveOpenItems}
use Rattle.overlap_law.specs.MomentChanges.{RunsAreInRange}
use Rattle.overlap_law.specs.Past.{MomentWithPast, run_with_past}
use Rattle.overlap_law.specs.Pieces.{left_to_write, payload_at}
use Rattle.overlap_law.specs.RequestsOfScript.{IsCourseOfAsk, IsDriverOf, is_of_client}
use Rattle.overlap_law.specs.WrittenBlocks.{items_at}
use Rattle.sheep_node.proofs.SessionViews.{IsSeen}
use Rattle.overlap_law.specs.CommandDisks.{opened_as}
use Rattle.overlap_law.proofs.AllowedCourses.{HasWorking, IsAllowed, opened_by}
use Rattle.overlap_law.proofs.BlocksOfPieces.{block_of_piece, got_behind}
use Rattle.overlap_law.proofs.CoursesOfAsks.{IsPlacedIn, placed_as}
use Rattle.overlap_law.proofs.CoursesOfScript.{asked_by, BeganOn, requests_placed}
use Rattle.overlap_law.proofs.GuestsOfScript.{guest_asks}
use Rattle.overlap_law.proofs.InsideDisks.{known_here}
use Rattle.overlap_law.proofs.NoRecoveredDue.{began-with_past}
use Rattle.overlap_law.proofs.StartedWrites.{blocks_open-in_run}
use Rattle.overlap_law.proofs.WorksInMoments.{well_in_world}

-- a request to write, of which the pieces are, with all its bytes
pub record IsWriteOf (script : List Statement) (req shift : ℕ) (payload : List ℕ) (piece : Piece) : Type 0 where
  pub offset : ℕ
  pub asked : asked_by script req ≡ Some (asks.Disk (disk_asks.Write offset payload))
  pub place : ℕ
  pub there : slice_get (pieces shift offset (length payload)) place ≡ Some piece

module _ (script : List Statement) (req : ℕ) (opened : Disk) (piece : Piece) where
  by_ask : (ask : DiskAsk) (i : ℕ) → asked_by script req ≡ Some (asks.Disk ask)
      → slice_get (left_to_write opened.inode.spec.shift (Waiting ask)) i ≡ Some piece
      → IsWriteOf script req opened.inode.spec.shift (payload_at (Waiting ask)) piece
  by_ask (disk_asks.Read offset size) i asked got = absurd (cc (got))
  by_ask (disk_asks.Write offset payload) i asked got = record { offset = offset; asked = asked; place = i; there = got }

  by_driver : (driver : Driver) (ask : DiskAsk) (i : ℕ) → asked_by script req ≡ Some (asks.Disk ask) → IsDriverOf opened ask driver
      → slice_get (left_to_write opened.inode.spec.shift (Driving driver)) i ≡ Some piece
      → IsWriteOf script req opened.inode.spec.shift (payload_at (Driving driver)) piece
  by_driver (Reads told own rest) ask i asked is got = absurd (cc (got))
  by_driver (Writes payload stage own rest) ask i asked (offset, same, (before, all)) got =
      let (j, there) = got_behind before (own ∷ rest) i piece got in
      record {
        offset = offset;
        asked = asked ∙ ap (λ (a : DiskAsk). Some (asks.Disk a)) same;
        place = j;
        there = ap (λ (list : List Piece). slice_get list j) all ∙ there;
      }
  by_driver Answered ask i asked is got = absurd is

  pub by_course : (course : Course) (began : Option ℕ) (i : ℕ) → IsCourseOfAsk (asked_by script req) (Some opened) began course
      → slice_get (left_to_write opened.inode.spec.shift course) i ≡ Some piece
      → IsWriteOf script req opened.inode.spec.shift (payload_at course) piece
  by_course (Waiting ask) began i is got = by_ask ask i is.0 got
  by_course (Driving driver) began i is got =
      let same : is.on.disk ≡ opened = sym (same_Some opened is.on.disk is.on.there) in
      by_driver driver is.ask i is.of (subst (λ (d : Disk). IsDriverOf d is.ask driver) same is.is) got
  by_course (Commanding op) began i is got = absurd (cc (got))
  by_course (Checking check) began i is got = absurd (cc (got))
  by_course (DoingWork work) began i is got = absurd is
  by_course (AwaitingDecision entry) began i is got = absurd is

-- what a client asks writes nothing
pub left_of_scripts : (shift : ℕ) (course : Course) (i : ℕ) (piece : Piece) → slice_get (left_to_write shift course) i ≡ Some piece
    → is_of_client course ≡ false
left_of_scripts shift (Waiting ask) i piece got = refl
left_of_scripts shift (Driving driver) i piece got = refl
left_of_scripts shift (Commanding op) i piece got = refl
left_of_scripts shift (Checking check) i piece got = refl
left_of_scripts shift (DoingWork work) i piece got = absurd (cc (got))
left_of_scripts shift (AwaitingDecision entry) i piece got = absurd (cc (got))

-- what is left to write is on a working disk
module _ (opened : Disk) (piece : Piece) where
  of_working : HasWorking (Some (opened.snapshot, opened.inode.vid)) → opened.snapshot ≡ false
  of_working (vid, same) =
      ap (λ (p : Bool × ℕ). p.0) (same_Some (opened.snapshot, opened.inode.vid) (false, vid) same)

  left_is_working : (course : Course) (i : ℕ) → IsAllowed (Some (opened.snapshot, opened.inode.vid)) course
      → slice_get (left_to_write opened.inode.spec.shift course) i ≡ Some piece → opened.snapshot ≡ false
  left_is_working (Waiting (disk_asks.Read offset size)) i is got = absurd (cc (got))
  left_is_working (Waiting (disk_asks.Write offset payload)) i is got = of_working is
  left_is_working (Driving (Reads told own rest)) i is got = absurd (cc (got))
  left_is_working (Driving (Writes payload stage own rest)) i is got = of_working is
  left_is_working (Driving Answered) i is got = absurd (cc (got))
  left_is_working (Commanding op) i is got = absurd (cc (got))
  left_is_working (Checking check) i is got = absurd (cc (got))
  left_is_working (DoingWork work) i is got = absurd (cc (got))
  left_is_working (AwaitingDecision entry) i is got = absurd (cc (got))

-- a write goes by whole blocks
module _ (script : List Statement) (range : RunsAreInRange script) (req offset : ℕ) (payload : List ℕ)
    (asked : asked_by script req ≡ Some (asks.Disk (disk_asks.Write offset payload))) (host : Host) where
  pub whole_blocks : (offset % 512 ≡ 0) × (length payload % 512 ≡ 0)
  whole_blocks = by_line (request_at script req) refl asked
    where
      by_line : (o : Option Statement) → request_at script req ≡ o
          → option_and_then ask_of_statement o ≡ Some (asks.Disk (disk_asks.Write offset payload))
          → (offset % 512 ≡ 0) × (length payload % 512 ≡ 0)
      by_line None stands is = absurd (cc (is))
      by_line (Some line) stands is =
          let may = guest_asks host.node script range.is_script req line (asks.Disk (disk_asks.Write offset payload)) stands is in
          let first = and_parts (offset % 512 == 0 && length payload % 512 == 0) (not (length payload == 0)) may in
          let both = and_parts (offset % 512 == 0) (length payload % 512 == 0) first.0 in
          (eqb-true (offset % 512) 0 both.0, eqb-true (length payload % 512) 0 both.1)

pub pieces_open-in_run : (script : List Statement) → RunsAreInRange script → (events : List Move) (moment : MomentWithPast)
    → run_with_past script events ≡ Some moment → WritesHaveOpenItems moment.past.history moment.world.hosts
pieces_open-in_run script range events moment is = record {
  each = λ n host there up req i unit request opened disk piece on got inside.
      let began = began-with_past script events moment is in
      let allowed = subst (IsSeen opened_by IsAllowed host.node.sessions) on.there
      ((well_in_world script range moment.world began n host there).allowed req) in
      let working = left_is_working opened piece request.course i
      (subst (λ (o : Option Disk). IsAllowed (opened_as o) request.course) on.on allowed) got in
      let (start, at, course) = placed_as (asked_by script) (BeganOn script moment.world.guests) req
      (session_among request.session host.node.sessions).disk request.course
      (left_of_scripts opened.inode.spec.shift request.course i piece got)
      (subst (IsPlacedIn (asked_by script) (BeganOn script moment.world.guests) req host.node.sessions) on.there
      (requests_placed script range moment.world began n host there req)) in
      let write = by_course script req opened piece request.course start i
      (subst (λ (o : Option Disk). IsCourseOfAsk (asked_by script req) o start request.course) on.on course) got in
      let known = known_here script range moment.world began n host there request.session opened on.on in
      let shift = known.disk.spec_valid.shift.0 in
      let whole = whole_blocks script range req write.offset (payload_at request.course) write.asked host in
      let found = block_of_piece opened.inode.spec.shift write.offset (payload_at request.course) write.place unit piece
      (omega (arith, shift)) whole.0 whole.1 write.there inside in
      let open_item = ((blocks_open-in_run script range events moment is).each n host there up req write.offset found.place
      (payload_at request.course) opened disk (record { request = request; there = on.there; on = on.on; working = working })
      write.asked found.inside on.known).1 in
      subst (λ (bytes : List ℕ). HasOpenItem (items_at disk opened.inode.spec piece.index unit) req bytes) (sym found.bytes)
      (subst (λ (k : ℕ). HasOpenItem (disk.items k) req (block_in (payload_at request.course) found.place)) (sym found.block) open_item);
}
