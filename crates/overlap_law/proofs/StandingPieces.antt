-- In each run in range what a write has still to write has its items, piece by piece.
use Rattle.std.proofs.Common.{◌≡◌, ℕ, ◌+◌, ◌/◌, ◌<◌, ◌≤◌, List, length, Option, Some, sym, ap, subst, ◌∙◌, arith}
use Rattle.std.specs.Prelude.{slice_get}
use Rattle.std.proofs.lemmas.Option.{same_Some}
use Rattle.disk_history.specs.declared.event.HistEvent.{HistEvent}
use Rattle.disk_history.specs.Ledger as histories
use Rattle.cluster_script.specs.declared.statement.Statement.{Statement}
use Rattle.guest_driver.specs.declared.disk.Disk.{Disk}
use Rattle.guest_driver.specs.Pieces.{Piece}
use Rattle.peer_proto.specs.declared.guest.DiskAsk.TheVariants as disk_asks
use Rattle.sheep_node.specs.declared.ask.Ask.TheVariants as asks
use Rattle.sheep_node.specs.declared.course.Request.{Request}
use Rattle.sheep_node.specs.SessionQueues.{session_among}
use Rattle.sheep_world.specs.HistoryAdditions.{block_in}
use Rattle.sheep_world.specs.World.{Host}
use Rattle.sheep_world.specs.RunsWithAsks.{Move}
use Rattle.overlap_law.specs.Headline.{ledger_of}
use Rattle.overlap_law.specs.MomentChanges.{RunsAreInRange}
use Rattle.overlap_law.specs.Past.{MomentWithPast, run_with_past}
use Rattle.overlap_law.specs.Pieces.{HasItem, IsInPiece, WritesHaveItems, bytes_for, left_to_write, payload_at}
use Rattle.overlap_law.specs.RequestsOfScript.{IsCourseOfAsk}
use Rattle.overlap_law.specs.WrittenBlocks.{items_at}
use Rattle.overlap_law.proofs.BlocksOfPieces.{block_of_piece}
use Rattle.overlap_law.proofs.CoursesOfAsks.{IsPlacedIn, placed_as}
use Rattle.overlap_law.proofs.CoursesOfScript.{asked_by, BeganOn, requests_placed}
use Rattle.overlap_law.proofs.InsideDisks.{known_here}
use Rattle.overlap_law.proofs.NoRecoveredDue.{began-with_past}
use Rattle.overlap_law.proofs.PiecesUnderWay.{by_course, whole_blocks, left_of_scripts}
use Rattle.overlap_law.proofs.StandingBefore.{stands_item}
use Rattle.overlap_law.proofs.StandingEvents.{stand-in_run}
use Rattle.overlap_law.proofs.StandingLists.{waiting}
use Rattle.overlap_law.proofs.StandingMeets.{write_on}
use Rattle.overlap_law.proofs.StandingOnDisks.{StandsIn}

-- a block of a piece that is left has its item, where those of the write stand
module _ (script : List Statement) (range : RunsAreInRange script) (host : Host) (req : ℕ) (request : Request) (opened : Disk)
    (began : Option ℕ) (course : IsCourseOfAsk (asked_by script req) (Some opened) began request.course)
    (shift : 9 ≤ opened.inode.spec.shift) (history : List HistEvent)
    (stands : began ≡ Some opened.inode.vid → (offset : ℕ) (payload : List ℕ)
    → asked_by script req ≡ Some (asks.Disk (disk_asks.Write offset payload)) → (place : ℕ) → place < length payload / 512
    → StandsIn req (waiting script req request.session (offset / 512 + place)) opened.inode.vid (offset / 512 + place)
    (block_in payload place) history)
    (disk : histories.Disk) (known : (ledger_of history).disks opened.inode.vid ≡ Some disk) where
  pub piece_has_item : (i unit : ℕ) (piece : Piece)
      → slice_get (left_to_write opened.inode.spec.shift request.course) i ≡ Some piece → IsInPiece piece unit
      → HasItem (items_at disk opened.inode.spec piece.index unit) req (bytes_for (payload_at request.course) piece unit)
  piece_has_item i unit piece got inside =
      let write = by_course script req opened piece request.course began i course got in
      let on = write_on req write.offset (payload_at request.course) (asked_by script req) write.asked (Some opened) began request.course
      course in
      let same : on.disk ≡ opened = sym (same_Some opened on.disk on.there) in
      let whole = whole_blocks script range req write.offset (payload_at request.course) write.asked host in
      let found = block_of_piece opened.inode.spec.shift write.offset (payload_at request.course) write.place unit piece shift whole.0
      whole.1 write.there inside in
      let (within, stood) = stands (on.same ∙ ap (λ (d : Disk). Some d.inode.vid) same) write.offset (payload_at request.course)
      write.asked found.place found.inside disk known in
      let item = stands_item req (waiting script req request.session (write.offset / 512 + found.place))
      (block_in (payload_at request.course) found.place) (disk.items (write.offset / 512 + found.place)) stood in
      subst (λ (bytes : List ℕ). HasItem (items_at disk opened.inode.spec piece.index unit) req bytes) (sym found.bytes)
      (subst (λ (k : ℕ). HasItem (disk.items k) req (block_in (payload_at request.course) found.place)) (sym found.block) item)

pub written-in_run : (script : List Statement) → RunsAreInRange script → (events : List Move) (moment : MomentWithPast)
    → run_with_past script events ≡ Some moment → WritesHaveItems (ledger_of moment.past.history) moment.world.hosts
written-in_run script range events moment is = record {
  each = λ n host there up req i unit request opened disk piece on got inside.
      let began = began-with_past script events moment is in
      let (start, at, course) = placed_as (asked_by script) (BeganOn script moment.world.guests) req
      (session_among request.session host.node.sessions).disk request.course
      (left_of_scripts opened.inode.spec.shift request.course i piece got)
      (subst (IsPlacedIn (asked_by script) (BeganOn script moment.world.guests) req host.node.sessions) on.there
      (requests_placed script range moment.world began n host there req)) in
      let known = known_here script range moment.world began n host there request.session opened on.on in
      let shift = known.disk.spec_valid.shift.0 in
      piece_has_item script range host req request opened start
      (subst (λ (o : Option Disk). IsCourseOfAsk (asked_by script req) o start request.course) on.on course) (omega (arith, shift))
      moment.past.history
      (λ same offset payload asked place within.
      stand-in_run script range events moment is n host there up req request on.there opened.inode.vid
      (subst (BeganOn script moment.world.guests req) same at) offset payload asked place within)
      disk on.known i unit piece got inside;
}
