-- Of each block that a write has behind it, each outcome has the bytes of the write's item, where the write's items are those of its
-- pieces.
use Rattle.std.proofs.Common.{◌≡◌, ⊎_elim, arith, ℕ, suc, ◌+◌, ◌<◌, ◌≤◌, true, false, Contains, List, [], ◌∷◌, ◌++◌, length, Some}
use Rattle.std.proofs.Common.{slice_get, sym, ap, subst, ◌∙◌}
use Rattle.std.specs.List.{list_all}
use Rattle.std.specs.Str.{bytes_eq}
use Rattle.std.specs.FinMap as tree
use Rattle.std.proofs.lemmas.List.Elements.{Contains-append_cases}
use Rattle.cluster_script.specs.declared.statement.Statement.{Statement}
use Rattle.disk_history.specs.Ledger.{Item, is_item_of}
use Rattle.disk_history.specs.Ledger as histories
use Rattle.guest_driver.specs.declared.disk.Disk.{Disk}
use Rattle.guest_driver.specs.Driver.{DriverStage, Writes}
use Rattle.guest_driver.specs.Pieces.{Piece, first_index, piece_in, pieces}
use Rattle.sheep_node.specs.declared.course.Course.TheVariants.{Driving}
use Rattle.sheep_node.specs.declared.course.Request.{Request}
use Rattle.sheep_world.specs.World.{Host}
use Rattle.sheep_world.specs.RunsWithAsks.{Move}
use Rattle.overlap_law.specs.Attempts.{AttemptRecord}
use Rattle.overlap_law.specs.Headline.{ledger_of}
use Rattle.overlap_law.specs.MomentChanges.{MomentTrail, RunsAreInRange}
use Rattle.overlap_law.specs.Past.{MomentWithPast, run_with_past}
use Rattle.overlap_law.specs.Pieces.{IsOn, bytes_for}
use Rattle.overlap_law.specs.TiedAttempts.{IsTied}
use Rattle.overlap_law.specs.Units.{bytes_by}
use Rattle.overlap_law.specs.WrittenBlocks.{blocks_per_object, items_at, outcomes_in}
use Rattle.overlap_law.specs.WrittenPieces.{HasBehind, IsItemOfPiece, ItemsAreOfPieces}
use Rattle.overlap_law.proofs.AttemptLists.{place_of}
use Rattle.overlap_law.proofs.PiecesBehind.{at_seam, piece_at_place}
use Rattle.overlap_law.proofs.RunsByChanges.{on_the_way}
use Rattle.overlap_law.proofs.TiedInRuns.{kept_tied}
use Rattle.overlap_law.proofs.WrittenAlone.{alone_outcomes}
use Rattle.overlap_law.proofs.WrittenStays.{written-in_run}

got_beyond : {X : Type 0} (xs ys : List X) (i : ℕ) (x : X) → slice_get ys i ≡ Some x
    → (j : ℕ) × (length xs ≤ j) × (slice_get (xs ++ ys) j ≡ Some x)
got_beyond [] ys i x got = (i, omega arith, got)
got_beyond (y ∷ xs) ys i x got = let (j, far, at) = got_beyond xs ys i x got in (suc j, omega (arith, far), at)

-- a piece whose object is before that of the piece where a write is, is behind the write
pub is_before : (shift offset size : ℕ) (before rest : List Piece) (piece one : Piece) → pieces shift offset size ≡ before ++ piece ∷ rest
    → Contains (pieces shift offset size) one → one.index < piece.index → Contains before one
is_before shift offset size before rest piece one cut among less = ⊎_elim
    (λ (early : Contains before one). early)
    (λ (late : Contains (piece ∷ rest) one).
    let (i, got) = place_of (piece ∷ rest) one late in
    let (j, far, found) = got_beyond before (piece ∷ rest) i one got in
    let there : one ≡ piece_in shift offset size (first_index shift offset + j)
    = piece_at_place shift offset size j one (ap (λ (all : List Piece). slice_get all j) cut ∙ found) in
    let here : piece ≡ piece_in shift offset size (first_index shift offset + length before)
    = at_seam shift offset size before rest piece cut in
    let index : one.index ≡ first_index shift offset + j = ap (λ (p : Piece). p.index) there in
    let own : piece.index ≡ first_index shift offset + length before = ap (λ (p : Piece). p.index) here in
    absurd (omega (arith, less, far, index, own)))
    (Contains-append_cases before (piece ∷ rest) one (subst (λ (all : List Piece). Contains all one) cut among))

module _ (script : List Statement) (range : RunsAreInRange script) (events : List Move) (start moment : MomentWithPast)
    (ran : run_with_past script events ≡ Some start) (trail : MomentTrail script start moment)
    (items : ItemsAreOfPieces (ledger_of moment.past.history) moment.world.hosts) (n : ℕ) (host : Host)
    (at_host : tree.get moment.world.hosts n ≡ Some host) (up : host.is_lost ≡ false) (req index unit place : ℕ) (request : Request)
    (opened : Disk) (disk : histories.Disk) (item : Item) (payload : List ℕ) (stage : DriverStage) (piece : Piece) (rest : List Piece)
    (on : IsOn (ledger_of moment.past.history) host.node req request opened disk)
    (course : request.course ≡ Driving (Writes payload stage piece rest)) (less : index < piece.index)
    (inside : unit < blocks_per_object opened.inode.spec)
    (got : slice_get (items_at disk opened.inode.spec index unit) place ≡ Some item) (own : is_item_of req item ≡ true) where
  behind : HasBehind moment.past.attempts opened.inode.vid opened.inode.spec.shift payload stage piece rest
  behind =
      (written-in_run script range events start moment ran trail).each n host at_host up req request opened payload stage piece rest
      on.there
      on.on course

  of_piece : IsItemOfPiece opened.inode.spec.shift behind.offset payload index unit item
  of_piece =
      items.each n host at_host up req index unit place behind.offset request opened disk item payload stage piece rest behind.before on
      course behind.cut inside got own

  pub bytes_alone : list_all (λ (attempt : AttemptRecord). bytes_eq item.bytes (bytes_by unit attempt.work))
      (outcomes_in moment.world.hosts moment.past.attempts opened.inode.vid opened.inode.vid index unit) ≡ true
  bytes_alone =
      let one : Piece = of_piece.one in
      let early : Contains behind.before of_piece.one
      = is_before opened.inode.spec.shift behind.offset (length payload) behind.before rest piece of_piece.one behind.cut of_piece.among
      (subst (λ (k : ℕ). k < piece.index) (sym of_piece.at) less) in
      subst (λ (bytes : List ℕ). list_all (λ (attempt : AttemptRecord). bytes_eq bytes (bytes_by unit attempt.work))
      (outcomes_in moment.world.hosts moment.past.attempts opened.inode.vid opened.inode.vid index unit) ≡ true) (sym of_piece.bytes)
      (subst (λ (k : ℕ). list_all (λ (attempt : AttemptRecord). bytes_eq (bytes_for payload one unit) (bytes_by unit attempt.work))
      (outcomes_in moment.world.hosts moment.past.attempts opened.inode.vid opened.inode.vid k unit) ≡ true) of_piece.at
      (alone_outcomes moment.world.hosts moment.past.attempts
      (on_the_way script IsTied (kept_tied script range) events start moment ran trail).fates.whole opened.inode.vid payload of_piece.one
      (behind.each of_piece.one early) unit of_piece.inside))
