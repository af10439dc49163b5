-- In each run in range the items of a write, in the blocks of the disk that it is on, are those of its pieces: they are of the write's own
-- blocks, and each block of a write is one of a piece.
use Rattle.std.proofs.Common.{◌≡◌, ℕ, ◌*◌, ◌+◌, ◌/◌, ◌%◌, ◌^◌, ◌<◌, ◌≤◌, true, false, List, ◌∷◌, ◌++◌, length, Contains, Option}
use Rattle.std.proofs.Common.{Some, slice_get}
use Rattle.std.proofs.Common.{refl, sym, ap, subst, ◌∙◌, arith}
use Rattle.std.proofs.lemmas.Option.{same_Some}
use Rattle.disk_history.specs.Changes.{items_in}
use Rattle.disk_history.specs.Ledger.{Item, Ledger, is_item_of}
use Rattle.disk_history.specs.Ledger as histories
use Rattle.cluster_script.specs.declared.statement.Statement.{Statement}
use Rattle.guest_driver.specs.declared.disk.Disk.{Disk}
use Rattle.guest_driver.specs.Driver.{Writes, DriverStage}
use Rattle.guest_driver.specs.Pieces.{Piece, pieces}
use Rattle.peer_proto.specs.declared.guest.DiskAsk.{DiskAsk}
use Rattle.peer_proto.specs.declared.guest.DiskAsk.TheVariants as disk_asks
use Rattle.sheep_node.specs.declared.ask.Ask.{Ask}
use Rattle.sheep_node.specs.declared.ask.Ask.TheVariants as asks
use Rattle.sheep_node.specs.declared.course.Course.{Course}
use Rattle.sheep_node.specs.declared.course.Course.TheVariants.{Driving}
use Rattle.sheep_node.specs.SessionQueues.{session_among}
use Rattle.sheep_world.specs.RunsWithAsks.{Move}
use Rattle.overlap_law.specs.AloneItems.{HasOwnItems}
use Rattle.overlap_law.specs.Headline.{ledger_of}
use Rattle.overlap_law.specs.MomentChanges as moments
use Rattle.overlap_law.specs.MomentChanges.{RunsAreInRange}
use Rattle.overlap_law.specs.Past.{MomentWithPast, run_with_past}
use Rattle.overlap_law.specs.RequestsOfScript.{IsCourseOfAsk, IsDriverOf, is_of_client}
use Rattle.overlap_law.specs.WrittenPieces.{IsItemOfPiece, ItemsAreOfPieces}
use Rattle.overlap_law.proofs.AloneBlocks.{item_of_piece}
use Rattle.overlap_law.proofs.AloneHolders.{write_working}
use Rattle.overlap_law.proofs.AloneItemsInRuns.{own_items-in_run}
use Rattle.overlap_law.proofs.CoursesOfAsks.{IsPlacedIn, placed_as}
use Rattle.overlap_law.proofs.CoursesOfScript.{asked_by, BeganOn, requests_placed}
use Rattle.overlap_law.proofs.InsideDisks.{known_here}
use Rattle.overlap_law.proofs.NoRecoveredDue.{began-with_past}
use Rattle.overlap_law.proofs.PiecesBehind.{cut_once}
use Rattle.overlap_law.proofs.PiecesUnderWay.{whole_blocks}

-- what a write asks, on the disk that its session has open
pub record AsksToWriteOn (asked : Option Ask) (disk : Disk) (payload : List ℕ) (piece : Piece) (rest : List Piece) : Type 0 where
  pub offset : ℕ
  pub is : asked ≡ Some (asks.Disk (disk_asks.Write offset payload))
  pub before : List Piece
  pub cut : pieces disk.inode.spec.shift offset (length payload) ≡ before ++ piece ∷ rest

pub asks_on : (asked : Option Ask) (opened : Disk) (began : Option ℕ) (course : Course) (payload : List ℕ) (stage : DriverStage)
    (piece : Piece) (rest : List Piece) → IsCourseOfAsk asked (Some opened) began course
    → course ≡ Driving (Writes payload stage piece rest) → AsksToWriteOn asked opened payload piece rest
asks_on asked opened began course payload stage piece rest of same =
    let is = subst (IsCourseOfAsk asked (Some opened) began) same of in
    let disk : is.on.disk ≡ opened = sym (same_Some opened is.on.disk is.on.there) in
    let (offset, writes, (before, cut)) = subst (λ (d : Disk). IsDriverOf d is.ask (Writes payload stage piece rest)) disk is.is in
    record {
      offset = offset;
      is = is.of ∙ ap (λ (a : DiskAsk). Some (asks.Disk a)) writes;
      before = before;
      cut = cut;
    }

-- the same pieces from wherever they are cut
pub items_of_cut : (shift one two : ℕ) (payload : List ℕ) (before front rest : List Piece) (piece : Piece) (index unit : ℕ) (item : Item)
    → pieces shift one (length payload) ≡ before ++ piece ∷ rest → pieces shift two (length payload) ≡ front ++ piece ∷ rest
    → IsItemOfPiece shift one payload index unit item → IsItemOfPiece shift two payload index unit item
items_of_cut shift one two payload before front rest piece index unit item cut other is =
    let front_so : front ≡ before = cut_once shift one two (length payload) before front rest piece cut other in
    let same : pieces shift one (length payload) ≡ pieces shift two (length payload)
    = cut ∙ (λ i. sym front_so i ++ piece ∷ rest) ∙ sym other in
    record {
      one = is.one;
      among = subst (λ (all : List Piece). Contains all is.one) same is.among;
      at = is.at;
      inside = is.inside;
      bytes = is.bytes;
    }

-- an item in a block of the disk that a write is on
pub item_so : (ledger : Ledger) (req vid offset shift index unit place : ℕ) (payload : List ℕ) (disk : histories.Disk) (item : Item)
    → 9 ≤ shift → offset % 512 ≡ 0 → unit < 2 ^ shift / 512 → HasOwnItems req vid offset payload ledger → ledger.disks vid ≡ Some disk
    → slice_get (disk.items (index * (2 ^ shift / 512) + unit)) place ≡ Some item → is_item_of req item ≡ true
    → IsItemOfPiece shift offset payload index unit item
item_so ledger req vid offset shift index unit place payload disk item long whole inside all known got own =
    item_of_piece shift offset index unit vid vid payload item long whole inside
    (all vid (index * (2 ^ shift / 512) + unit) place item
    (subst (λ (o : Option histories.Disk). slice_get (items_in o (index * (2 ^ shift / 512) + unit)) place ≡ Some item) (sym known) got)
    own)

pub items_of_pieces-in_run : (script : List Statement) → RunsAreInRange script → (events : List Move) (moment : MomentWithPast)
    → run_with_past script events ≡ Some moment → ItemsAreOfPieces (ledger_of moment.past.history) moment.world.hosts
items_of_pieces-in_run script range events moment ran = record {
  each =
      λ n host there up req index unit place offset request opened disk item payload stage piece rest before on course cut inside got own.
      let began = began-with_past script events moment ran in
      let (start, at, placed) = placed_as (asked_by script) (BeganOn script moment.world.guests) req
      (session_among request.session host.node.sessions).disk request.course (ap is_of_client course)
      (subst (IsPlacedIn (asked_by script) (BeganOn script moment.world.guests) req host.node.sessions) on.there
      (requests_placed script range moment.world began n host there req)) in
      let asks = asks_on (asked_by script req) opened start request.course payload stage piece rest
      (subst (λ (o : Option Disk). IsCourseOfAsk (asked_by script req) o start request.course) on.on placed) course in
      let known = known_here script range moment.world began n host there request.session opened on.on in
      let shift = known.disk.spec_valid.shift.0 in
      let whole = whole_blocks script range req asks.offset payload asks.is host in
      let working = write_working script range events moment moment ran moments.Still n host there up req request on.there opened on.on
      payload stage piece rest course in
      items_of_cut opened.inode.spec.shift asks.offset offset payload asks.before before rest piece index unit item asks.cut cut
      (item_so (ledger_of moment.past.history) req opened.inode.vid asks.offset opened.inode.spec.shift index unit place payload disk item
      (omega (arith, shift)) whole.0 inside
      ((own_items-in_run script range events moment ran).each n host there up req asks.offset payload opened
      (record { request = request; there = on.there; on = on.on; working = working }) asks.is) on.known got own);
}
