-- Where the reads of nodes stand, what each was told so far is as long as the pieces before its own, and may be read of their blocks,
-- unless one is torn: whatever request it is by whose pieces it is said, since the pieces before a read's own are told by that one.
use Rattle.std.proofs.Common.{◌≡◌, ◌⊎◌, ⊎_elim, arith, ℕ, zero, suc, ◌+◌, ◌*◌, ◌-◌, ◌/◌, ◌^◌, ◌<◌, ◌≤◌, Bool}
use Rattle.std.proofs.Common.{true, false, List, [], ◌∷◌, ◌++◌}
use Rattle.std.proofs.Common.{length, map, max, slice_get, Option, Some, sym, ap, subst, ◌∙◌}
use Rattle.std.specs.List.{range_with_len}
use Rattle.std.specs.FinMap as tree
use Rattle.std.proofs.lemmas.Bool.{cases_lt}
use Rattle.std.proofs.lemmas.Nat.{pow_pos}
use Rattle.std.proofs.lemmas.Option.{same_Some}
use Rattle.std.proofs.Math.Nat.{max-eq_left, max-eq_right, min-eq_right, lt-div-mul-add, div-mul-le_self, mul-le-mul_right}
use Rattle.cluster_script.specs.declared.statement.Statement.{Statement}
use Rattle.disk_history.specs.Ledger as histories
use Rattle.disk_history.specs.Ledger.{Ledger}
use Rattle.disk_history.specs.Legal.{is_torn}
use Rattle.vdi_directory.specs.declared.effect.Effect.{Effect}
use Rattle.peer_proto.specs.declared.guest.DiskAsk.{DiskAsk}
use Rattle.peer_proto.specs.declared.guest.DiskAsk.TheVariants as disk_asks
use Rattle.peer_proto.specs.declared.guest.GuestRsp.TheVariants as answers
use Rattle.guest_driver.specs.declared.act.DriverAct.TheVariants as driver_acts
use Rattle.guest_driver.specs.declared.disk.Disk.{Disk}
use Rattle.guest_driver.specs.Driver.{Reads}
use Rattle.guest_driver.specs.Extent.{Touches, piece_at_index}
use Rattle.guest_driver.specs.Pieces.{Piece, first_index, last_index, common_end, piece_in, pieces}
use Rattle.guest_driver.proofs.ExtentLemmas.{place_at-here}
use Rattle.sheep_node.specs.declared.ask.Ask.TheVariants as asks
use Rattle.sheep_node.specs.declared.course.Course.{Course}
use Rattle.sheep_node.specs.declared.course.Course.TheVariants.{Driving}
use Rattle.sheep_node.specs.declared.course.Request.{Request}
use Rattle.sheep_node.specs.State.{session_at}
use Rattle.sheep_world.specs.Began.{Began}
use Rattle.sheep_world.specs.World.{Host, World}
use Rattle.overlap_law.specs.Attempts.{AttemptRecord}
use Rattle.overlap_law.specs.MomentChanges.{RunsAreInRange}
use Rattle.overlap_law.specs.Pieces.{IsInPiece, bytes_for, WhatIsReadMayBeRead}
use Rattle.overlap_law.specs.RequestsOfScript.{IsCourseOfAsk, IsDriverOfAsk, is_of_client}
use Rattle.overlap_law.specs.StandingReads.{asked_in, AllReadsStand, IsAskStanding, IsCourseStanding}
use Rattle.overlap_law.specs.ToldReads.{MayStayReadAs, IsReadUpTo, extent_on}
use Rattle.overlap_law.specs.WrittenBlocks.{IsBlockOfDisk, items_at, is_allowed}
use Rattle.overlap_law.proofs.CoursesOfAsks.{IsPlacedIn, placed_as}
use Rattle.overlap_law.proofs.CoursesOfScript.{asked_by, BeganOn, requests_placed}
use Rattle.overlap_law.proofs.PiecesRead.{stays_read}

-- ---- pieces

-- a piece among some stands at its place, and those before it at theirs
record StandsAt (f : ℕ → Piece) (m n : ℕ) (before : List Piece) (piece : Piece) : Type 0 where
  own : piece ≡ f (n + length before)
  within : length before < m
  earlier : (q : ℕ) (one : Piece) → slice_get before q ≡ Some one → (one ≡ f (n + q)) × (q < length before)

at_place : (f : ℕ → Piece) (m n : ℕ) (before : List Piece) (piece : Piece) (rest : List Piece)
    → map f (range_with_len n m) ≡ before ++ piece ∷ rest → StandsAt f m n before piece
at_place f zero n [] piece rest is = absurd (cc (is))
at_place f zero n (first ∷ before) piece rest is = absurd (cc (is))
at_place f (suc m) n [] piece rest is =
    let own : f n ≡ piece = cc (is) in
    let same : n ≡ n + 0 = omega arith in
    record { own = sym own ∙ ap f same; within = omega arith; earlier = λ q one at. absurd (cc (at)) }
at_place f (suc m) n (first ∷ before) piece rest is =
    let head : f n ≡ first = cc (is) in
    let tail : map f (range_with_len (n + 1) m) ≡ before ++ piece ∷ rest = cc (is) in
    let later = at_place f m (n + 1) before piece rest tail in
    let within = later.within in
    let sum : n + 1 + length before ≡ n + suc (length before) = omega arith in
    record {
      own = later.own ∙ ap f sum;
      within = omega (arith, within);
      earlier = λ q one at. by_place head later q one at;
    }
  where
    by_place : f n ≡ first → StandsAt f m (n + 1) before piece → (q : ℕ) (one : Piece) → slice_get (first ∷ before) q ≡ Some one
        → (one ≡ f (n + q)) × (q < length (first ∷ before))
    by_place head later zero one at =
        let same : n ≡ n + 0 = omega arith in
        (sym (same_Some first one at) ∙ sym head ∙ ap f same, omega arith)
    by_place head later (suc q) one at =
        let found = later.earlier q one at in
        let less = found.1 in
        let sum : n + 1 + q ≡ n + suc q = omega arith in
        (found.0 ∙ ap f sum, omega (arith, less))

-- the pieces of two requests before one that they have in common are the same
module _ (shift offset size other long index k : ℕ) (there : index * 2 ^ shift < offset + size) (least : other < (k + 1) * 2 ^ shift)
    (most : index * 2 ^ shift < other + long) (before : k < index)
    (same : piece_in shift other long index ≡ piece_in shift offset size index) where
  up : (k + 1) * 2 ^ shift ≤ index * 2 ^ shift
  up = mul-le-mul_right (2 ^ shift) (omega (arith, before))

  offset_so : other ≡ offset
  offset_so =
      let behind : max other (index * 2 ^ shift) ≡ index * 2 ^ shift = max-eq_right (omega (arith, least, up)) in
      let place_so : max other (index * 2 ^ shift) - other ≡ max offset (index * 2 ^ shift) - offset = ap (λ (p : Piece). p.place) same in
      ⊎_elim
      (λ (first : offset < index * 2 ^ shift).
      let later : max offset (index * 2 ^ shift) ≡ index * 2 ^ shift = max-eq_right (omega (arith, first)) in
      omega (arith, place_so, behind, later, least, up, first))
      (λ (first : index * 2 ^ shift ≤ offset).
      let later : max offset (index * 2 ^ shift) ≡ offset = max-eq_left first in
      absurd (omega (arith, place_so, behind, later, least, up)))
      (cases_lt offset (index * 2 ^ shift))

  piece_so : piece_in shift other long k ≡ piece_in shift offset size k
  piece_so =
      let one : common_end shift other long k ≡ (k + 1) * 2 ^ shift = min-eq_right (omega (arith, most, up)) in
      let two : common_end shift offset size k ≡ (k + 1) * 2 ^ shift = min-eq_right (omega (arith, there, up)) in
      let end : common_end shift other long k ≡ common_end shift offset size k = one ∙ sym two in
      λ i. record {
        index = k;
        offset = max (offset_so i) (k * 2 ^ shift) - k * 2 ^ shift;
        place = max (offset_so i) (k * 2 ^ shift) - offset_so i;
        size = end i - max (offset_so i) (k * 2 ^ shift);
      }

-- ---- the reads of a node

module _ (script : List Statement) (range : RunsAreInRange script) (world : World) (began : Began script world)
    (attempts : List AttemptRecord) (ledger : Ledger) (effects : List Effect) (good_id : ℕ → Bool)
    (stand : AllReadsStand script (MayStayReadAs attempts) ledger effects good_id world.hosts) where
  -- where a read is on a disk
  record IsReadingOn (disk : Disk) (told : List ℕ) (piece : Piece) : Type 0 where
    offset : ℕ
    size : ℕ
    index : ℕ
    at : Touches (extent_on disk.inode offset size) index
    same : piece ≡ piece_at_index (extent_on disk.inode offset size) index
    up : IsReadUpTo (MayStayReadAs attempts) ledger effects good_id disk.inode (extent_on disk.inode offset size) index told

  module _ (n : ℕ) (host : Host) (there : tree.get world.hosts n ≡ Some host) (alive : host.is_lost ≡ false) (req : ℕ) (request : Request)
      (told : List ℕ) (piece : Piece) (rest : List Piece) (got : tree.get host.node.requests req ≡ Some request)
      (course : request.course ≡ Driving (Reads told piece rest)) where
    by_ask : (disk : Disk) (ask : DiskAsk) (offset size : ℕ)
        → asked_in script req ≡ Some (asks.Disk (disk_asks.Read offset size)) → asked_in script req ≡ Some (asks.Disk ask)
        → IsAskStanding (MayStayReadAs attempts) ledger effects good_id disk.inode ask (Reads told piece rest)
        → IsReadingOn disk told piece
    by_ask disk (disk_asks.Read from long) offset size asked asked_so (is, fits, stands) =
        let (index, at, same, behind, up) = stands (driver_acts.Reply answers.Done) in
        record { offset = from; size = long; index = index; at = at; same = same; up = up }
    by_ask disk (disk_asks.Write from payload) offset size asked asked_so is = absurd (cc (asked, asked_so))

    reading : (disk : Disk) × ((session_at request.session host.node).disk ≡ Some disk) × IsReadingOn disk told piece
    reading =
        let (began_on, placed, course_so) = placed_as (asked_by script) (BeganOn script world.guests) req
        (session_at request.session host.node).disk request.course (ap is_of_client course)
        (subst (IsPlacedIn (asked_by script) (BeganOn script world.guests) req host.node.sessions) got
        (requests_placed script range world began n host there req)) in
        let of : IsDriverOfAsk (asked_by script req) (session_at request.session host.node).disk began_on (Reads told piece rest)
        = subst (IsCourseOfAsk (asked_by script req) (session_at request.session host.node).disk began_on) course course_so in
        let (offset, size, read, left) = of.is in
        let here : IsCourseStanding (MayStayReadAs attempts) ledger effects good_id (asked_in script req) (Some of.on.disk)
        (Driving (Reads told piece rest))
        = subst (λ (o : Option Disk). IsCourseStanding (MayStayReadAs attempts) ledger effects good_id (asked_in script req) o
        (Driving (Reads told piece rest))) of.on.there
        (subst (λ (c : Course). IsCourseStanding (MayStayReadAs attempts) ledger effects good_id (asked_in script req)
        (session_at request.session host.node).disk c) course ((stand.each n host there alive).each req request got)) in (
          of.on.disk,
          of.on.there,
          by_ask of.on.disk here.0 offset size (of.of ∙ ap (λ (a : DiskAsk). Some (asks.Disk a)) read) here.1 here.2,
        )

    long_so : length told ≡ piece.place
    long_so =
        let (disk, on, r) = reading in
        r.up.long ∙ place_at-here (extent_on disk.inode r.offset r.size) r.index r.at ∙ ap (λ (p : Piece). p.place) (sym r.same)

    -- on the disk that the session has open
    reading_on : (disk : Disk) → (session_at request.session host.node).disk ≡ Some disk → IsReadingOn disk told piece
    reading_on disk on =
        let (other, on_other, r) = reading in
        subst (λ (d : Disk). IsReadingOn d told piece) (same_Some other disk (sym on_other ∙ on)) r

  -- ---- what it was told

  abbrev MayOf : histories.Disk → Disk → List ℕ → ℕ → Piece → Type 0
  MayOf disk opened told unit one = IsInPiece one unit
      → IsBlockOfDisk ledger effects good_id opened.inode.vid disk opened.inode.spec one.index unit
      → (is_torn (items_at disk opened.inode.spec one.index unit) ≡ true)
      ⊎ (is_allowed (items_at disk opened.inode.spec one.index unit) (bytes_for told one unit) ≡ true)

  bytes_so : (opened : Disk) (told : List ℕ) (piece : Piece) (rest : List Piece) (r : IsReadingOn opened told piece) (offset size : ℕ)
      (before : List Piece) → pieces opened.inode.spec.shift offset size ≡ before ++ piece ∷ rest → (place unit : ℕ) (one : Piece)
      (disk : histories.Disk) → slice_get before place ≡ Some one → MayOf disk opened told unit one
  unfolding pieces
  bytes_so opened told piece rest r offset size before cut place unit one disk at =
      subst (MayOf disk opened told unit) (sym one_so)
      (λ inside block. stays_read attempts _ _ (r.up.each k unit disk low earlier inside block))
    where
      shift : ℕ
      shift = opened.inode.spec.shift

      first : ℕ
      first = first_index shift offset

      last : ℕ
      last = last_index shift offset size

      k : ℕ
      k = first + place

      f : ℕ → Piece
      f = piece_in shift offset size

      placed : StandsAt f (last + 1 - first) first before piece
      placed = at_place f (last + 1 - first) first before piece rest cut

      found : (one ≡ f k) × (place < length before)
      found = placed.earlier place one at

      index_so : first + length before ≡ r.index
      index_so = ap (λ (p : Piece). p.index) (sym placed.own ∙ r.same)

      earlier : k < r.index
      earlier = let less = found.1 in omega (arith, less, index_so)

      wide : 0 < 2 ^ shift
      wide = pow_pos shift

      least : offset < (k + 1) * 2 ^ shift
      least =
          let above : offset < offset / 2 ^ shift * 2 ^ shift + 2 ^ shift = lt-div-mul-add wide in
          let low : offset / 2 ^ shift * 2 ^ shift ≤ k * 2 ^ shift = mul-le-mul_right (2 ^ shift) (omega arith) in
          let step : (k + 1) * 2 ^ shift ≡ k * 2 ^ shift + 2 ^ shift = grind arith in
          omega (arith, above, low, step)

      most : r.index * 2 ^ shift < offset + size
      most =
          let within = placed.within in
          let high : r.index ≤ last = omega (arith, within, index_so) in
          let rows : r.index * 2 ^ shift ≤ (offset + size - 1) / 2 ^ shift * 2 ^ shift = mul-le-mul_right (2 ^ shift) high in
          let below : (offset + size - 1) / 2 ^ shift * 2 ^ shift ≤ offset + size - 1 = div-mul-le_self (offset + size - 1) (2 ^ shift) in
          let up : (k + 1) * 2 ^ shift ≤ r.index * 2 ^ shift = mul-le-mul_right (2 ^ shift) (omega (arith, earlier)) in
          omega (arith, rows, below, up, least)

      there : r.index * 2 ^ shift < r.offset + r.size
      there =
          let some = r.at.is.some in
          let rows : r.index * 2 ^ shift ≤ (r.offset + r.size - 1) / 2 ^ shift * 2 ^ shift = mul-le-mul_right (2 ^ shift) r.at.last in
          let below : (r.offset + r.size - 1) / 2 ^ shift * 2 ^ shift ≤ r.offset + r.size - 1
          = div-mul-le_self (r.offset + r.size - 1) (2 ^ shift) in
          omega (arith, rows, below, some)

      same : piece_in shift offset size r.index ≡ piece_in shift r.offset r.size r.index
      same = ap f (sym index_so) ∙ sym placed.own ∙ r.same

      one_so : one ≡ piece_at_index (extent_on opened.inode r.offset r.size) k
      one_so = found.0 ∙ piece_so shift r.offset r.size offset size r.index k there least most earlier same

      low : first_index shift r.offset ≤ k
      low =
          subst (λ (o : ℕ). first_index shift o ≤ k)
          (offset_so shift r.offset r.size offset size r.index k there least most earlier same) (omega arith)

  pub read_so_far : WhatIsReadMayBeRead ledger effects good_id world.hosts
  read_so_far = record {
    long = λ n host there alive req request told piece rest got course.
        long_so n host there alive req request told piece rest got course;
    bytes = λ n host there alive req offset size place unit request opened disk told piece rest before one on course cut at inside block.
        bytes_so opened told piece rest (reading_on n host there alive req request told piece rest on.there course opened on.on) offset size
        before cut place unit one disk at inside block;
  }
