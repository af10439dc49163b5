-- A unit of a copy that an open read was told is one that the object may come to have: the last attempt that covers it and isn't doomed is
-- owed, so its bytes are of that one or of a later one that some target has served. And a part of strips is that of a made attempt, if what
-- came behind it adds nothing.
use Rattle.std.proofs.Common.{◌≡◌, ⊎_elim, arith, ℕ, ◌+◌, ◌-◌, ◌≤◌, ◌<◌, ◌==◌, ◌&&◌, Bool, true, false, List, length, slice_get, Some}
use Rattle.std.proofs.Common.{not, refl, sym, ap, subst, ◌∙◌}
use Rattle.std.proofs.lemmas.Bool.{and_from, and_parts, both_ways, cases_lt, eq-eqb, eqb-true, false_from_ne_true}
use Rattle.std.proofs.lemmas.Option.{same_Some}
use Rattle.object_id.specs.declared.entry.Entry.{Entry}
use Rattle.object_id.specs.declared.node.NodeId.{NodeId}
use Rattle.object_id.specs.declared.oid.Kind.{Kind}
use Rattle.object_id.specs.declared.policy.Policy.{Policy}
use Rattle.object_id.specs.Oid.{kind_of}
use Rattle.object_list.specs.Gathered.{has_node}
use Rattle.object_store.specs.Bytes.{piece_at}
use Rattle.gf256.specs.Part.{is_in_strips, part_size}
use Rattle.vdi_directory.specs.Decisions.{log_effects}
use Rattle.peer_proto.specs.Work.{policy_of}
use Rattle.overlap_law.specs.Attempts.{AttemptRecord, object_of, attempts_on}
use Rattle.overlap_law.specs.Each.{policy_in}
use Rattle.overlap_law.specs.Fates.{FatesAreOfTheWire, AttemptsAreShaped}
use Rattle.overlap_law.specs.Holders.{targets_by}
use Rattle.overlap_law.specs.InodesRead.{IsUnitToCome}
use Rattle.overlap_law.specs.Packets.{HasPacket, Wire}
use Rattle.overlap_law.specs.Reached.{Hosts}
use Rattle.overlap_law.specs.Since.{reading_by, reading_of, owes_attempt, AddNothingAfter, IsCopyFrom, IsSince}
use Rattle.overlap_law.specs.ToldPieces.{IsPieceSince}
use Rattle.overlap_law.specs.Units.{unit_start, unit_size, unit_end, row_bytes_at, bytes_by, unit_part_by, covers_unit}
use Rattle.overlap_law.specs.Words.{is_made, is_doomed, has_served}
use Rattle.overlap_law.proofs.BaseLemmas.{made-served}
use Rattle.overlap_law.proofs.Candidates.{heard_stands}
use Rattle.overlap_law.proofs.CopyUnits.{whole_part, whole_size}
use Rattle.overlap_law.proofs.FateLemmas.{made-not_doomed}
use Rattle.overlap_law.proofs.FilteredOrder.{filter-there, StandsAmongAll, stands_among_all}
use Rattle.overlap_law.proofs.LastAttempts.{IsLast, last_there}
use Rattle.overlap_law.proofs.PiecesOfRows.{piece-of_piece}
use Rattle.overlap_law.proofs.ServedOrDoomed.{quiet-made}
use Rattle.overlap_law.proofs.SinceAtEntries.{owed_earlier, owed_served}

-- ---- what is owed of the attempts on the object

module _ (log : List Entry) (hosts : Hosts) (wire : Wire) (attempts : List AttemptRecord) (fates : FatesAreOfTheWire wire attempts)
    (shape : AttemptsAreShaped (targets_by log) log attempts) (from : NodeId) (oid epoch : ℕ) (policy : Policy)
    (known : policy_in (log_effects log) oid ≡ Some policy) (target : has_node from (targets_by log epoch oid policy) ≡ true)
    (last : (j : ℕ) (attempt : AttemptRecord) → slice_get attempts j ≡ Some attempt → object_of attempt ≡ oid → attempt.epoch ≤ epoch) where
  -- an attempt on the object, as it stands among all
  module _ (j : ℕ) (attempt : AttemptRecord) (at : slice_get (attempts_on oid attempts) j ≡ Some attempt) where
    pub stands : StandsAmongAll (λ (a : AttemptRecord). object_of a == oid) attempts (attempts_on oid attempts) j attempt
    stands = stands_among_all (λ (a : AttemptRecord). object_of a == oid) attempts j attempt at

    pub object : object_of attempt ≡ oid
    object = eqb-true (object_of attempt) oid stands.passed

    pub policy_so : policy_of attempt.work ≡ policy
    policy_so =
        same_Some (policy_of attempt.work) policy
        (sym (shape.policy stands.place attempt stands.there) ∙ ap (λ (o : ℕ). policy_in (log_effects log) o) object ∙ known)

    pub no_later : attempt.epoch ≤ epoch
    no_later = last stands.place attempt stands.there object

    -- a made one is owed: of an earlier epoch, or of this one and then served by the teller too
    owed : is_made attempt ≡ true → owes_attempt from epoch epoch attempt ≡ true
    owed made =
        let most = no_later in
        ⊎_elim
        (λ (less : attempt.epoch < epoch). owed_earlier from epoch epoch attempt less)
        (λ (least : epoch ≤ attempt.epoch).
        let same : attempt.epoch ≡ epoch = omega (arith, most, least) in
        owed_served from epoch epoch attempt (served same) most)
        (cases_lt attempt.epoch epoch)
      where
        served : attempt.epoch ≡ epoch → has_served from attempt ≡ true
        served same =
            made-served from attempt (fates.whole stands.place attempt stands.there) made
            (ap (has_node from) (shape.targets stands.place attempt stands.there
            ∙ (λ i. targets_by log (same i) (object i) (policy_so i))) ∙ target)

    -- so what has what is owed reads as of it
    pub made_reads : is_made attempt ≡ true → (index unit : ℕ) → covers_unit unit attempt ≡ true → (row : List ℕ)
        → IsSince policy oid hosts attempts from index epoch epoch row
        → reading_of policy oid (attempts_on oid attempts) unit j index (row_bytes_at policy (kind_of oid) unit row)
    made_reads made index unit covers row since = ⊎_elim
        (λ (doomed : is_doomed hosts attempt ≡ true).
        let not = made-not_doomed hosts attempt made in
        absurd (cc (doomed, not)))
        (λ (read : reading_of policy oid (attempts_on oid attempts) unit j index (row_bytes_at policy (kind_of oid) unit row)). read)
        (since.each j attempt at unit covers (owed made))

-- ---- where the unit is in a piece

-- the part of a unit that a piece has of a row is that in the row
pub unit_in_piece : (policy : Policy) (kind : Kind) (row bytes : List ℕ) (offset size unit : ℕ)
    → piece_at row (part_size policy kind offset) size ≡ bytes
    → part_size policy kind offset ≤ part_size policy kind (unit_start kind unit)
    → part_size policy kind (unit_start kind unit) + part_size policy kind (unit_size kind unit) ≤ part_size policy kind offset + length
    bytes
    → row_bytes_at policy kind unit row
    ≡ piece_at bytes (part_size policy kind (unit_start kind unit) - part_size policy kind offset)
    (part_size policy kind (unit_size kind unit))
unit_in_piece policy kind row bytes offset size unit cut above below =
    let from : ℕ = part_size policy kind offset in
    let start : ℕ = part_size policy kind (unit_start kind unit) in
    let n : ℕ = part_size policy kind (unit_size kind unit) in
    let long : length (piece_at row from size) ≡ length bytes = ap (λ (xs : List ℕ). length xs) cut in
    sym (piece-of_piece row from size start n above (omega (arith, below, long)))
    ∙ ap (λ (xs : List ℕ). piece_at xs (start - from) n) cut

-- ---- a unit of a piece

module _ (log : List Entry) (hosts : Hosts) (wire : Wire) (attempts : List AttemptRecord) (fates : FatesAreOfTheWire wire attempts)
    (shape : AttemptsAreShaped (targets_by log) log attempts) (from : NodeId) (oid epoch index offset : ℕ) (policy : Policy)
    (known : policy_in (log_effects log) oid ≡ Some policy) (target : has_node from (targets_by log epoch oid policy) ≡ true)
    (last : (j : ℕ) (attempt : AttemptRecord) → slice_get attempts j ≡ Some attempt → object_of attempt ≡ oid → attempt.epoch ≤ epoch)
    (bytes : List ℕ) (piece : IsPieceSince policy oid hosts attempts from index epoch offset bytes) (unit : ℕ) where
  abbrev on : List AttemptRecord
  on = attempts_on oid attempts

  -- an attempt on the object
  module _ (j : ℕ) (attempt : AttemptRecord) (at : slice_get (attempts_on oid attempts) j ≡ Some attempt) where
    among : StandsAmongAll (λ (a : AttemptRecord). object_of a == oid) attempts (attempts_on oid attempts) j attempt
    among = stands log hosts wire attempts fates shape from oid epoch policy known target last j attempt at

    latest : attempt.epoch ≤ epoch
    latest = no_later log hosts wire attempts fates shape from oid epoch policy known target last j attempt at

    is_on : object_of attempt ≡ oid
    is_on = object log hosts wire attempts fates shape from oid epoch policy known target last j attempt at

    same_policy : policy_of attempt.work ≡ policy
    same_policy = policy_so log hosts wire attempts fates shape from oid epoch policy known target last j attempt at

    reads_as : is_made attempt ≡ true → covers_unit unit attempt ≡ true
        → reading_of policy oid (attempts_on oid attempts) unit j index (row_bytes_at policy (kind_of oid) unit piece.row)
    reads_as made covers =
        made_reads log hosts wire attempts fates shape from oid epoch policy known target last j attempt at made index unit covers piece.row
        piece.since

  -- ---- what isn't doomed

  module _ (flying : (j : ℕ) (attempt : AttemptRecord) → slice_get attempts j ≡ Some attempt → object_of attempt ≡ oid → (place : ℕ)
      (node : NodeId) → HasPacket wire attempt place node → attempt.epoch < epoch) where
    -- what isn't doomed is owed: it is of an earlier epoch; or it has nothing in flight, so each target has served it
    standing_owed : (j : ℕ) (attempt : AttemptRecord) → slice_get (attempts_on oid attempts) j ≡ Some attempt
        → is_doomed hosts attempt ≡ false → owes_attempt from epoch epoch attempt ≡ true
    standing_owed j attempt at stands_still = ⊎_elim
        (λ (less : attempt.epoch < epoch). owed_earlier from epoch epoch attempt less)
        (λ (least : epoch ≤ attempt.epoch).
        owed log hosts wire attempts fates shape from oid epoch policy known target last j attempt at
        (quiet-made hosts wire attempt (fates.whole stood.place attempt stood.there) (fates.each stood.place attempt stood.there)
        (λ place node packet.
        let less = flying stood.place attempt stood.there (is_on j attempt at) place node packet in
        omega (arith, least, less)) stands_still))
        (cases_lt attempt.epoch epoch)
      where
        stood : StandsAmongAll (λ (a : AttemptRecord). object_of a == oid) attempts (attempts_on oid attempts) j attempt
        stood = among j attempt at

    standing_reads : (j : ℕ) (attempt : AttemptRecord) → slice_get (attempts_on oid attempts) j ≡ Some attempt
        → is_doomed hosts attempt ≡ false → covers_unit unit attempt ≡ true
        → reading_of policy oid (attempts_on oid attempts) unit j index (row_bytes_at policy (kind_of oid) unit piece.row)
    standing_reads j attempt at stands_still covers = ⊎_elim
        (λ (doomed : is_doomed hosts attempt ≡ true). absurd (both_ways (is_doomed hosts attempt) stands_still doomed))
        (λ (read : reading_of policy oid (attempts_on oid attempts) unit j index (row_bytes_at policy (kind_of oid) unit piece.row)). read)
        (piece.since.each j attempt at unit covers (standing_owed j attempt at stands_still))

  -- ---- copies

  module _ (whole : is_in_strips policy (kind_of oid) ≡ false) (above : offset ≤ unit_start (kind_of oid) unit)
      (below : unit_end (kind_of oid) unit ≤ offset + length bytes)
      (flying : (j : ℕ) (attempt : AttemptRecord) → slice_get attempts j ≡ Some attempt → object_of attempt ≡ oid → (place : ℕ)
      (node : NodeId) → HasPacket wire attempt place node → attempt.epoch < epoch) where
    abbrev is_standing : AttemptRecord → Bool
    is_standing attempt = covers_unit unit attempt && not (is_doomed hosts attempt)

    -- what the unit has of an attempt
    bytes_so : (j : ℕ) (attempt : AttemptRecord) → slice_get (attempts_on oid attempts) j ≡ Some attempt
        → unit_part_by index unit attempt.work ≡ bytes_by unit attempt.work
    bytes_so j attempt at =
        whole_part (policy_of attempt.work) (kind_of (object_of attempt))
        ((λ i. is_in_strips (same_policy j attempt at i) (kind_of (is_on j attempt at i))) ∙ whole) index (bytes_by unit attempt.work)

    -- the unit in the row is that in the piece
    in_piece : row_bytes_at policy (kind_of oid) unit piece.row
        ≡ piece_at bytes (unit_start (kind_of oid) unit - offset) (unit_size (kind_of oid) unit)
    in_piece =
        let start : ℕ = unit_start (kind_of oid) unit in
        let size : ℕ = unit_size (kind_of oid) unit in
        let from_so = whole_size policy (kind_of oid) whole offset in
        let start_so = whole_size policy (kind_of oid) whole start in
        let size_so = whole_size policy (kind_of oid) whole size in
        unit_in_piece policy (kind_of oid) piece.row bytes offset piece.size unit piece.same (omega (arith, from_so, start_so, above))
        (omega (arith, from_so, start_so, size_so, below))
        ∙ (λ i. piece_at bytes (start_so i - from_so i) (size_so i))

    abbrev IsToComeHere : Type 0
    IsToComeHere = IsUnitToCome hosts attempts oid epoch unit
        (piece_at bytes (unit_start (kind_of oid) unit - offset) (unit_size (kind_of oid) unit))

    -- it is of the last one that isn't doomed, or of a later one
    of_copy : (base : AttemptRecord) (last_one : IsLast is_standing (attempts_on oid attempts) base)
        → IsCopyFrom (attempts_on oid attempts) unit last_one.place index (row_bytes_at policy (kind_of oid) unit piece.row) → IsToComeHere
    of_copy base last_one read =
        record {
          place = stood.place;
          one = read.attempt;
          to_come = record {
            there = stood.there;
            object = is_on read.place read.attempt read.there;
            covers = read.covering;
            stands = heard_stands hosts read.attempt (fates.whole stood.place read.attempt stood.there) read.served;
            last = λ k later at behind later_object later_covers. false_from_ne_true (is_made later) (λ made.
                both_ways (is_doomed hosts later) (made-not_doomed hosts later made)
                (doomed_behind k later at behind later_object later_covers));
          };
          served = read.served;
          within = latest read.place read.attempt read.there;
          same = sym (bytes_so read.place read.attempt read.there) ∙ sym read.same ∙ in_piece;
          behind = doomed_behind;
        }
      where
        stood : StandsAmongAll (λ (a : AttemptRecord). object_of a == oid) attempts (attempts_on oid attempts) read.place read.attempt
        stood = among read.place read.attempt read.there

        standing_not : (a b : Bool) → a ≡ true → (a && not b) ≡ false → b ≡ true
        standing_not true true is none = refl
        standing_not true false is none = absurd (cc (none))
        standing_not false b is none = absurd (cc (is))

        doomed_behind : (k : ℕ) (later : AttemptRecord) → slice_get attempts k ≡ Some later → stood.place < k → object_of later ≡ oid
            → covers_unit unit later ≡ true → is_doomed hosts later ≡ true
        doomed_behind k later at behind later_object later_covers =
            let (b, b_at, b_behind) = stood.later k later at behind (eq-eqb (object_of later) oid later_object) in
            let low = read.no_earlier in
            standing_not (covers_unit unit later) (is_doomed hosts later) later_covers
            (last_one.none b later b_at (omega (arith, low, b_behind)))

    pub unit_to_come : (k : ℕ) (made : AttemptRecord) → slice_get attempts k ≡ Some made → object_of made ≡ oid
        → covers_unit unit made ≡ true → is_made made ≡ true → IsToComeHere
    unit_to_come k made at object_so covers is =
        let own = filter-there (λ (a : AttemptRecord). object_of a == oid) attempts k made at (eq-eqb (object_of made) oid object_so) in
        let (base, last_one) = last_there is_standing on own.0 made own.1
        (and_from (covers_unit unit made) (not (is_doomed hosts made)) covers (ap not (made-not_doomed hosts made is))) in
        by_base base last_one
      where
        not_so : (b : Bool) → not b ≡ true → b ≡ false
        not_so true is = absurd (cc (is))
        not_so false is = refl

        by_base : (base : AttemptRecord) → IsLast is_standing (attempts_on oid attempts) base → IsToComeHere
        by_base base last_one =
            let (covers_base, stands_still) = and_parts (covers_unit unit base) (not (is_doomed hosts base)) last_one.passed in
            of_copy base last_one
            (subst (λ (b : Bool). reading_by b (attempts_on oid attempts) unit last_one.place index
            (row_bytes_at policy (kind_of oid) unit piece.row)) whole
            (standing_reads flying last_one.place base last_one.there (not_so (is_doomed hosts base) stands_still) covers_base))

  -- ---- strips

  -- a part of a unit is that of an attempt which reads so, if what came behind it adds nothing
  part_read : is_in_strips policy (kind_of oid) ≡ true → (j : ℕ) (one : AttemptRecord)
      → slice_get (attempts_on oid attempts) j ≡ Some one
      → reading_of policy oid (attempts_on oid attempts) unit j index (row_bytes_at policy (kind_of oid) unit piece.row)
      → AddNothingAfter (attempts_on oid attempts) unit j one
      → part_size policy (kind_of oid) offset ≤ part_size policy (kind_of oid) (unit_start (kind_of oid) unit)
      → part_size policy (kind_of oid) (unit_start (kind_of oid) unit) + part_size policy (kind_of oid) (unit_size (kind_of oid) unit)
      ≤ part_size policy (kind_of oid) offset + length bytes
      → piece_at bytes (part_size policy (kind_of oid) (unit_start (kind_of oid) unit) - part_size policy (kind_of oid) offset)
      (part_size policy (kind_of oid) (unit_size (kind_of oid) unit))
      ≡ unit_part_by index unit one.work
  part_read strips j one at reads quiet above below =
      let read = subst (λ (b : Bool). reading_by b (attempts_on oid attempts) unit j index
      (row_bytes_at policy (kind_of oid) unit piece.row)) strips reads in
      sym (unit_in_piece policy (kind_of oid) piece.row bytes offset piece.size unit piece.same above below) ∙ read.own one at quiet

  -- so is that of a made one
  pub part_of_made : is_in_strips policy (kind_of oid) ≡ true → (j : ℕ) (made : AttemptRecord)
      → slice_get (attempts_on oid attempts) j ≡ Some made → covers_unit unit made ≡ true → is_made made ≡ true
      → AddNothingAfter (attempts_on oid attempts) unit j made
      → part_size policy (kind_of oid) offset ≤ part_size policy (kind_of oid) (unit_start (kind_of oid) unit)
      → part_size policy (kind_of oid) (unit_start (kind_of oid) unit) + part_size policy (kind_of oid) (unit_size (kind_of oid) unit)
      ≤ part_size policy (kind_of oid) offset + length bytes
      → piece_at bytes (part_size policy (kind_of oid) (unit_start (kind_of oid) unit) - part_size policy (kind_of oid) offset)
      (part_size policy (kind_of oid) (unit_size (kind_of oid) unit))
      ≡ unit_part_by index unit made.work
  part_of_made strips j made at covers is = part_read strips j made at (reads_as j made at is covers)

  -- and of one that isn't doomed, where what flies on the object is of earlier epochs
  pub part_of_standing : ((j : ℕ) (attempt : AttemptRecord) → slice_get attempts j ≡ Some attempt → object_of attempt ≡ oid → (place : ℕ)
      (node : NodeId) → HasPacket wire attempt place node → attempt.epoch < epoch) → is_in_strips policy (kind_of oid) ≡ true → (j : ℕ)
      (one : AttemptRecord) → slice_get (attempts_on oid attempts) j ≡ Some one → covers_unit unit one ≡ true
      → is_doomed hosts one ≡ false → AddNothingAfter (attempts_on oid attempts) unit j one
      → part_size policy (kind_of oid) offset ≤ part_size policy (kind_of oid) (unit_start (kind_of oid) unit)
      → part_size policy (kind_of oid) (unit_start (kind_of oid) unit) + part_size policy (kind_of oid) (unit_size (kind_of oid) unit)
      ≤ part_size policy (kind_of oid) offset + length bytes
      → piece_at bytes (part_size policy (kind_of oid) (unit_start (kind_of oid) unit) - part_size policy (kind_of oid) offset)
      (part_size policy (kind_of oid) (unit_size (kind_of oid) unit))
      ≡ unit_part_by index unit one.work
  part_of_standing flying strips j one at covers stands_still =
      part_read strips j one at (standing_reads flying j one at stands_still covers)
