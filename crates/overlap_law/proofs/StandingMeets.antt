-- Two writes of a session that write one block have the index of its object in common, by what the session's queue has for them; so the
-- one that stands later may not run.
use Rattle.std.proofs.Common.{◌≡◌, ⊎_elim, ℕ, ◌+◌, ◌-◌, ◌*◌, ◌/◌, ◌^◌, ◌<◌, ◌≤◌, ◌==◌, ◌&&◌, Bool, true, false, All, Contains, List, ◌∷◌}
use Rattle.std.proofs.Common.{◌++◌, length, map, Option, Some, None, refl, sym, ap, subst, ◌∙◌, arith}
use Rattle.std.specs.Prelude.{nat_le, nat_lt}
use Rattle.std.specs.Option.{option_map_or, option_and_then}
use Rattle.std.proofs.lemmas.Bool.{and_parts, cases_lt, eqb-true, leb-true, ltb-true}
use Rattle.std.proofs.lemmas.List.Elements.{All-append, All-contains}
use Rattle.std.proofs.lemmas.Nat.{pow_pos}
use Rattle.std.proofs.lemmas.Option.{same_Some}
use Rattle.std.proofs.Math.Nat.{div-lt_iff_lt-mul, div-mul-le_self}
use Rattle.proof_tools.proofs.Lists.{Contains-map}
use Rattle.object_id.specs.declared.limits.TheConstants.{BLOCK_BYTES}
use Rattle.cluster_script.specs.declared.statement.Statement.{Statement}
use Rattle.cluster_script.specs.declared.statement.Statement.TheVariants as lines
use Rattle.cluster_script.specs.NumberedRequests.{payload_of, request_at}
use Rattle.peer_proto.specs.declared.guest.DiskAsk.{DiskAsk}
use Rattle.peer_proto.specs.declared.guest.DiskAsk.TheVariants as disk_asks
use Rattle.peer_proto.specs.declared.guest.VdiAsk.TheVariants as disk_commands
use Rattle.gateway_queue.specs.declared.queue.Queued.{Queued}
use Rattle.gateway_queue.specs.Queue.{Covers}
use Rattle.guest_driver.specs.declared.disk.Disk.{Disk}
use Rattle.guest_driver.specs.Driver as drivers
use Rattle.guest_driver.specs.Driver.{Driver, Reads, Writes}
use Rattle.guest_driver.specs.Pieces.{Piece, first_index, last_index, indexes, piece_in, pieces}
use Rattle.sheep_node.specs.declared.ask.Ask.{Ask}
use Rattle.sheep_node.specs.declared.ask.Ask.TheVariants as asks
use Rattle.sheep_node.specs.declared.course.Course.{Course}
use Rattle.sheep_node.specs.declared.course.Course.TheVariants.{Waiting, Driving, Commanding, Checking, DoingWork, AwaitingDecision}
use Rattle.sheep_node.specs.Guests.{queued_as}
use Rattle.sheep_node.specs.May.{is_disk_course}
use Rattle.sheep_world.specs.Asking.{ask_of_statement, session_asking}
use Rattle.overlap_law.specs.DiskEvents.{is_asked_in}
use Rattle.overlap_law.specs.RequestsOfScript.{IsCourseOfAsk, IsDriverOf, IsOnDisk}
use Rattle.overlap_law.proofs.CoveredCourses.{IsCovered, shift_open}
use Rattle.overlap_law.proofs.CoveredPieces.{CoversPiece}
use Rattle.overlap_law.proofs.PiecesBehind.{begins_so}
use Rattle.overlap_law.proofs.StartedWrites.{in_range}

-- ---- who waits for a write of a block

-- whether a request may begin a write of a block: as a write that has it, or as a check
abbrev pub touches : ℕ → Statement → Bool
touches block (lines.Write session offset size pattern) =
    nat_le (offset / BLOCK_BYTES) block && nat_lt block (offset / BLOCK_BYTES + length (payload_of pattern size) / BLOCK_BYTES)
touches block (lines.Check session) = true
touches block s = false

-- whether a request is no earlier than a write, and may begin one of the same block, in the same session
abbrev pub waits_for : List Statement → ℕ → ℕ → ℕ → ℕ → Bool
waits_for script req session block other =
    nat_le req other && (is_asked_in script session other && option_map_or (touches block) (request_at script other) false)

-- such a request
pub record Waits (script : List Statement) (req session block other : ℕ) : Type 0 where
  pub later : req ≤ other
  pub asking : session_asking script other ≡ Some session
  pub touching : option_map_or (touches block) (request_at script other) false ≡ true

asked_in : (o : Option ℕ) (session : ℕ) → option_map_or (λ (number : ℕ). number == session) o false ≡ true → o ≡ Some session
asked_in None session is = absurd (cc (is))
asked_in (Some number) session is = ap (λ (k : ℕ). Some k) (eqb-true number session is)

pub does_wait : (script : List Statement) (req session block other : ℕ) → waits_for script req session block other ≡ true
    → Waits script req session block other
does_wait script req session block other is =
    let first = and_parts (nat_le req other)
    (is_asked_in script session other && option_map_or (touches block) (request_at script other) false) is in
    let rest = and_parts (is_asked_in script session other) (option_map_or (touches block) (request_at script other) false) first.1 in
    record {
      later = leb-true req other first.0;
      asking = asked_in (session_asking script other) session rest.0;
      touching = rest.1;
    }

-- ---- the index of a block's object

module _ (shift offset size block : ℕ) (first : offset ≤ 512 * block) (last : 512 * block < offset + size) where
  divided : (a b : ℕ) → a ≤ b → a / 2 ^ shift ≤ b / 2 ^ shift
  divided a b less = ⊎_elim
      (λ (below : b / 2 ^ shift < a / 2 ^ shift).
      let back = (div-lt_iff_lt-mul (pow_pos shift)).0 below in
      let most = div-mul-le_self a (2 ^ shift) in
      absurd (omega (arith, less, back, most)))
      (λ (within : a / 2 ^ shift ≤ b / 2 ^ shift). within)
      (cases_lt (b / 2 ^ shift) (a / 2 ^ shift))

  pub from_first : first_index shift offset ≤ 512 * block / 2 ^ shift
  from_first = divided offset (512 * block) first

  pub to_last : 512 * block / 2 ^ shift ≤ last_index shift offset size
  to_last = divided (512 * block) (offset + size - 1) (omega (arith, last))

-- ---- what a queue has for a write covers

-- the objects of its pieces
pub pieces_cover : (shift offset size : ℕ) (queued : Queued) → All (CoversPiece queued) (pieces shift offset size) → (k : ℕ)
    → first_index shift offset ≤ k → k ≤ last_index shift offset size → Covers queued k
unfolding pieces
pieces_cover shift offset size queued all k low high =
    All-contains (CoversPiece queued) (map (piece_in shift offset size) (indexes shift offset size)) (piece_in shift offset size k) all
    (Contains-map (piece_in shift offset size) (indexes shift offset size) k
    (in_range (first_index shift offset) (last_index shift offset size + 1 - first_index shift offset) k low (omega (arith, low, high))))

module _ (req offset : ℕ) (payload : List ℕ) (asked : Option Ask) (is : asked ≡ Some (asks.Disk (disk_asks.Write offset payload)))
    (opened : Option Disk) (began : Option ℕ) where
  -- a write is on the disk that its session has open, and is a read's or write's course
  pub write_on : (course : Course) → IsCourseOfAsk asked opened began course → IsOnDisk opened began
  write_on (Waiting ask) so = so.1
  write_on (Driving driver) so = so.on
  write_on (Commanding op) so = let of = so.of in absurd (cc (is, of))
  write_on (Checking check) so = so.on
  write_on (DoingWork work) so = absurd so
  write_on (AwaitingDecision entry) so = absurd so

  pub write_course : (course : Course) → IsCourseOfAsk asked opened began course → is_disk_course course ≡ true
  write_course (Waiting ask) so = refl
  write_course (Driving driver) so = refl
  write_course (Commanding op) so = let of = so.of in absurd (cc (is, of))
  write_course (Checking check) so = let of = so.of in absurd (cc (is, of))
  write_course (DoingWork work) so = absurd so
  write_course (AwaitingDecision entry) so = absurd so

  module _ (queue : List Queued) (queued : Queued) (there : Contains queue queued) (number : queued.req ≡ req) (shift : ℕ)
      (wide : shift_open opened ≡ Some shift) (k : ℕ) (low : first_index shift offset ≤ k)
      (high : k ≤ last_index shift offset (length payload)) where
    -- as it waits
    as_asked : (ask : DiskAsk) → asked ≡ Some (asks.Disk ask) → queued ≡ queued_as shift req ask → Covers queued k
    as_asked ask of same =
        let own : ask ≡ disk_asks.Write offset payload = cc (is, of) in
        subst (λ (q : Queued). Covers q k) (sym (same ∙ ap (queued_as shift req) own)) (low, high)

    -- as it goes on
    as_driven : (disk : Disk) (driver : Driver) → disk.inode.spec.shift ≡ shift
        → IsDriverOf disk (disk_asks.Write offset payload) driver
        → IsCovered req (shift_open opened, queue) (Driving driver) → Covers queued k
    as_driven disk (Reads told piece rest) same (from, size, apart, cut) covered = absurd (cc (apart))
    as_driven disk (Writes bytes stage piece rest) same (from, own, (before, cut)) covered =
        let start : from ≡ offset = cc (own) in
        let all : bytes ≡ payload = cc (own) in
        let (left, behind) = covered.1 queued there number in
        let (other, front, cut_too, covers) = behind shift wide in
        let here : pieces shift from (length bytes) ≡ before ++ piece ∷ rest
        = ap (λ (s : ℕ). pieces s from (length bytes)) (sym same) ∙ cut in
        let one = begins_so shift from (length bytes) before rest piece here in
        let two = begins_so shift other (length bytes) front rest piece cut_too in
        let begins : other ≡ offset = omega (arith, one, two, start) in
        let whole : All (CoversPiece queued) (pieces shift offset (length payload))
        = subst (λ (list : List Piece). All (CoversPiece queued) list)
        (sym cut_too ∙ (λ i. pieces shift (begins i) (length (all i))))
        (All-append (CoversPiece queued) front (piece ∷ rest) covers left) in
        pieces_cover shift offset (length payload) queued whole k low high
    as_driven disk drivers.Answered same never covered = absurd never

    pub write_covers : (course : Course) → IsCourseOfAsk asked opened began course → IsCovered req (shift_open opened, queue) course
        → Covers queued k
    write_covers (Waiting ask) so covered = as_asked ask so.0 (covered shift wide queued there number)
    write_covers (Driving driver) so covered =
        let own : so.ask ≡ disk_asks.Write offset payload = cc (is, so.of) in
        let size : so.on.disk.inode.spec.shift ≡ shift
        = same_Some so.on.disk.inode.spec.shift shift (sym (ap shift_open so.on.there) ∙ wide) in
        as_driven so.on.disk driver size (subst (λ (a : DiskAsk). IsDriverOf so.on.disk a driver) own so.is) covered
    write_covers (Commanding op) so covered = let of = so.of in absurd (cc (is, of))
    write_covers (Checking check) so covered = let of = so.of in absurd (cc (is, of))
    write_covers (DoingWork work) so covered = absurd so
    write_covers (AwaitingDecision entry) so covered = absurd so

-- ---- what a request that waits asks

-- a write of the block, or a check
pub record WritesBlock (asked : Option Ask) (block : ℕ) : Type 0 where
  pub offset : ℕ
  pub payload : List ℕ
  pub is : asked ≡ Some (asks.Disk (disk_asks.Write offset payload))
  pub from : offset / 512 ≤ block
  pub to : block < offset / 512 + length payload / 512

pub touching_asks : (block : ℕ) (o : Option Statement) → option_map_or (touches block) o false ≡ true
    → (opened : Option Disk) (began : Option ℕ) (course : Course) → is_disk_course course ≡ true
    → IsCourseOfAsk (option_and_then ask_of_statement o) opened began course → WritesBlock (option_and_then ask_of_statement o) block
touching_asks block None is opened began course disk so = absurd (cc (is))
touching_asks block (Some (lines.Write session offset size pattern)) is opened began course disk so =
    let both = and_parts (nat_le (offset / BLOCK_BYTES) block)
    (nat_lt block (offset / BLOCK_BYTES + length (payload_of pattern size) / BLOCK_BYTES)) is in
    record {
      offset = offset;
      payload = payload_of pattern size;
      is = refl;
      from = leb-true (offset / BLOCK_BYTES) block both.0;
      to = ltb-true block (offset / BLOCK_BYTES + length (payload_of pattern size) / BLOCK_BYTES) both.1;
    }
touching_asks block (Some (lines.Check session)) is opened began course disk so = absurd (by_course course disk so)
  where
    by_course : (course : Course) → is_disk_course course ≡ true
        → IsCourseOfAsk (Some (asks.Vdi disk_commands.Check)) opened began course → ⊥
    by_course (Waiting ask) disk so = let of = so.0 in cc (of)
    by_course (Driving driver) disk so = let of = so.of in cc (of)
    by_course (Commanding op) disk so = cc (disk)
    by_course (Checking check) disk so = cc (disk)
    by_course (DoingWork work) disk so = cc (disk)
    by_course (AwaitingDecision entry) disk so = cc (disk)
touching_asks block (Some s) is opened began course disk so = absurd (cc (is))
