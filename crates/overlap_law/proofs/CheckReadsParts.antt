-- What all targets gave of an object has, in each block, the bytes of an attempt by which the block may come to be read: of copies the
-- first message gave them, and of strips the first messages do together, if what the block may come to be read as is one, and is bytes.
use Rattle.std.proofs.Common.{◌≡◌, arith, ℕ, ◌+◌, ◌*◌, ◌-◌, ◌/◌, ◌^◌, ◌≤◌, true, false, List, drop, length, map, slice_get, Some}
use Rattle.std.proofs.Common.{refl, sym, ap, subst, take, ◌∙◌}
use Rattle.std.specs.List.{range_with_len}
use Rattle.std.proofs.lemmas.List.{length-take-le}
use Rattle.std.proofs.lemmas.Option.{same_Some}
use Rattle.object_id.specs.declared.entry.VdiSpec.{VdiSpec}
use Rattle.object_id.specs.declared.limits.TheConstants.{BLOCK_BYTES}
use Rattle.object_id.specs.declared.oid.Kind.{Kind}
use Rattle.object_id.specs.declared.oid.Kind.TheVariants.{Block}
use Rattle.object_id.specs.declared.policy.Policy.{Policy}
use Rattle.object_id.specs.declared.policy.Policy.TheVariants.{Copies, Coded}
use Rattle.object_id.specs.Fields.{AreBytes}
use Rattle.object_id.specs.Oid.{kind_of}
use Rattle.object_id.specs.Policy.{IsPolicy, wanted_of}
use Rattle.object_list.specs.Gathered.{has_node}
use Rattle.object_store.specs.Bytes.{piece_at}
use Rattle.gf256.specs.Part.{index_at, is_in_strips, part, part_size}
use Rattle.gf256.specs.Polynomial.{ArePoints}
use Rattle.gf256.specs.Strip.{strip}
use Rattle.gf256.proofs.PartLaws.{part_of_block}
use Rattle.gf256.proofs.Points.{points_to, range_points}
use Rattle.gf256.proofs.Widths as widths
use Rattle.disk_check.specs.Value.{target_bytes, value_of}
use Rattle.peer_proto.specs.declared.work.ObjWork.TheVariants.{ReadAll}
use Rattle.gateway.specs.declared.message.Message.{Message}
use Rattle.gateway.specs.Attempt.{bytes_in, bytes_through}
use Rattle.sheep_world.specs.HistoryAdditions.{block_in}
use Rattle.vdi_directory.specs.Decisions.{log_effects}
use Rattle.overlap_law.specs.Attempts.{AttemptRecord, object_of, attempts_on}
use Rattle.overlap_law.specs.Each.{policy_in}
use Rattle.overlap_law.specs.Holders.{targets_by}
use Rattle.overlap_law.specs.InodesRead.{IsUnitToCome}
use Rattle.overlap_law.specs.Past.{MomentWithPast}
use Rattle.overlap_law.specs.StripReadsBases.{IsStripBase}
use Rattle.overlap_law.specs.ToCome.{IsToCome}
use Rattle.overlap_law.specs.ToldPieces.{GaveStrip}
use Rattle.overlap_law.specs.Units.{bytes_by, covers_unit, unit_end, unit_part_by, unit_size, unit_start}
use Rattle.overlap_law.specs.Words.{is_made}
use Rattle.overlap_law.proofs.CarriedRows.{good_at}
use Rattle.overlap_law.proofs.CheckReadsMessages.{IsAllRead, IsReadPart}
use Rattle.overlap_law.proofs.CheckReadsValue.{copies_value, first_all, first_there, index_of, indexes_taken, piece_of, strips_value}
use Rattle.overlap_law.proofs.JoinedReads.{block_read}
use Rattle.overlap_law.proofs.PiecesToCome.{object, part_of_made, policy_so, unit_to_come}
use Rattle.overlap_law.proofs.StripReadsHeard.{IsGiven}
use Rattle.overlap_law.proofs.StripReadsLast.{has_base}
use Rattle.overlap_law.proofs.StripReadsToCome.{base_comes}
use Rattle.overlap_law.proofs.TellersOfPieces.{TellersAreTargets}
use Rattle.overlap_law.proofs.WorksOfAttempts.{AreOfWorks}

-- bytes are those of an attempt by which a unit of an object may come to be read
pub record ComesToBe (moment : MomentWithPast) (oid unit : ℕ) (bytes : List ℕ) : Type 0 where
  pub place : ℕ
  pub one : AttemptRecord
  pub to_come : IsToCome moment.world.hosts moment.past.attempts oid unit place one
  pub same : bytes ≡ bytes_by unit one.work

-- a block of an object that was read: the object is good, and a made attempt covers the block
pub record IsReadBlock (moment : MomentWithPast) (spec : VdiSpec) (oid unit : ℕ) : Type 0 where
  pub policy : IsPolicy spec.policy
  pub kind_so : kind_of oid ≡ Block
  pub known : policy_in (log_effects moment.world.log) oid ≡ Some spec.policy
  pub is_good : good_at moment oid ≡ true
  pub inside : BLOCK_BYTES * unit + BLOCK_BYTES ≤ 2 ^ spec.shift
  pub place : ℕ
  pub made : AttemptRecord
  pub there : slice_get moment.past.attempts place ≡ Some made
  pub on : object_of made ≡ oid
  pub covers : covers_unit unit made ≡ true
  pub is_made_one : is_made made ≡ true

module _ (moment : MomentWithPast) (tellers : TellersAreTargets moment) (works : AreOfWorks moment) (spec : VdiSpec)
    (oid epoch unit : ℕ) (heard : List Message) (read : IsAllRead moment spec oid epoch heard)
    (block : IsReadBlock moment spec oid unit) where
  -- ---- a message

  module _ (place : ℕ) (m : Message) (at : slice_get heard place ≡ Some m) (wide : 1 ≤ target_bytes spec) where
    part_read : IsReadPart moment spec oid epoch place m
    part_read = read.parts place m at

    given : IsGiven (good_at moment) moment (ReadAll oid spec.policy (2 ^ spec.shift)) epoch m.index (bytes_in m.status)
    given = part_read.given wide

    targets : has_node given.from (targets_by moment.world.log epoch oid spec.policy) ≡ true
    targets =
        let same : given.teller.policy ≡ spec.policy
        = same_Some given.teller.policy spec.policy (sym given.teller.made ∙ block.known) in
        ap (λ (q : Policy). has_node given.from (targets_by moment.world.log epoch oid q)) (sym same) ∙ given.teller.target

  -- ---- of copies

  module _ (copies : ℕ) (policy_is : spec.policy ≡ Copies copies) where
    wide_copy : 1 ≤ target_bytes spec
    wide_copy =
        subst (λ (q : Policy). 1 ≤ part_size q Block (2 ^ spec.shift)) (sym policy_is) (let more = block.inside in omega (arith, more))

    some_copies : 1 ≤ length heard
    some_copies =
        let some : 1 ≤ copies = (subst IsPolicy policy_is block.policy).0 in
        let as_many : length heard ≡ copies = read.count ∙ ap (λ (q : Policy). wanted_of q Block) policy_is in
        omega (arith, some, as_many)

    first : (m : Message) × (slice_get heard 0 ≡ Some m)
    first = first_there heard some_copies

    in_copies : is_in_strips spec.policy (kind_of oid) ≡ false
    in_copies = λ i. is_in_strips (policy_is i) (block.kind_so i)

    abbrev of_first : IsGiven (good_at moment) moment (ReadAll oid spec.policy (2 ^ spec.shift)) epoch first.0.index
        (bytes_in first.0.status)
    of_first = given 0 first.0 first.1 wide_copy

    long_first : length (bytes_in first.0.status) ≡ 2 ^ spec.shift
    long_first =
        (part_read 0 first.0 first.1 wide_copy).long ∙ ap (λ (q : Policy). part_size q Block (2 ^ spec.shift)) policy_is

    to_come : IsUnitToCome moment.world.hosts moment.past.attempts oid epoch unit
        (piece_at (bytes_in first.0.status) (unit_start (kind_of oid) unit - 0) (unit_size (kind_of oid) unit))
    to_come =
        unit_to_come moment.world.log moment.world.hosts moment.world.wire moment.past.attempts tellers.rows.tied.fates
        tellers.rows.shaped.shape of_first.from oid epoch first.0.index 0 spec.policy block.known (targets 0 first.0 first.1 wide_copy)
        read.earlier (bytes_in first.0.status) (of_first.since block.is_good block.known) unit in_copies (omega arith)
        (subst (λ (k : Kind). unit_end k unit ≤ 0 + length (bytes_in first.0.status)) (sym block.kind_so)
        (let size = long_first in let more = block.inside in omega (arith, size, more)))
        read.flying block.place block.made block.there block.on block.covers block.is_made_one

    pub copy_comes : ComesToBe moment oid unit (block_in (value_of spec.policy (map piece_of heard)) unit)
    copy_comes =
        let at : unit * 512 ≡ 512 * unit - 0 = omega arith in
        record {
          place = to_come.place;
          one = to_come.one;
          to_come = to_come.to_come;
          same = ap (λ (q : Policy). block_in (value_of q (map piece_of heard)) unit) policy_is
              ∙ ap (λ (bytes : List ℕ). take 512 (drop (unit * 512) bytes)) (copies_value copies heard first.0 first.1)
              ∙ ap (λ (k : ℕ). take 512 (drop k (bytes_in first.0.status))) at
              ∙ sym (to_come.same
              ∙ ap (λ (k : Kind). piece_at (bytes_in first.0.status) (unit_start k unit - 0) (unit_size k unit)) block.kind_so);
        }

  -- ---- of strips

  module _ (d p : ℕ) (policy_is : spec.policy ≡ Coded d p)
      (alike : (i k : ℕ) (one two : AttemptRecord) → IsToCome moment.world.hosts moment.past.attempts oid unit i one
      → IsToCome moment.world.hosts moment.past.attempts oid unit k two → bytes_by unit one.work ≡ bytes_by unit two.work)
      (of_bytes : (i : ℕ) (one : AttemptRecord) → IsToCome moment.world.hosts moment.past.attempts oid unit i one
      → AreBytes (bytes_by unit one.work)) where
    is_policy : IsPolicy (Coded d p)
    is_policy = subst IsPolicy policy_is block.policy

    wide_strip : 1 ≤ target_bytes spec
    wide_strip =
        subst (λ (q : Policy). 1 ≤ part_size q Block (2 ^ spec.shift)) (sym policy_is)
        (let more = block.inside in
        widths.by_cases (λ (k : ℕ). 1 ≤ 2 ^ spec.shift / k) (omega (arith, more)) (omega (arith, more)) (omega (arith, more))
        (omega (arith, more)) d is_policy.0)

    module _ (j : ℕ) (base : AttemptRecord) (is : IsStripBase (attempts_on oid moment.past.attempts) unit j base) where
      -- each message gave the strip of the block at its index
      module _ (place : ℕ) (m : Message) (at : slice_get heard place ≡ Some m) where
        abbrev gave_here : IsGiven (good_at moment) moment (ReadAll oid spec.policy (2 ^ spec.shift)) epoch m.index (bytes_in m.status)
        gave_here = given place m at wide_strip

        long_so : length (bytes_in m.status) ≡ 2 ^ spec.shift / d
        long_so = (part_read place m at wide_strip).long ∙ ap (λ (q : Policy). part_size q Block (2 ^ spec.shift)) policy_is

        from_so : part_size spec.policy (kind_of oid) 0 ≡ 0 / d
        from_so = λ i. part_size (policy_is i) (block.kind_so i) 0

        start_so : part_size spec.policy (kind_of oid) (unit_start (kind_of oid) unit) ≡ 512 * unit / d
        start_so = λ i. part_size (policy_is i) (block.kind_so i) (unit_start (block.kind_so i) unit)

        size_so : part_size spec.policy (kind_of oid) (unit_size (kind_of oid) unit) ≡ 512 / d
        size_so = λ i. part_size (policy_is i) (block.kind_so i) (unit_size (block.kind_so i) unit)

        above : part_size spec.policy (kind_of oid) 0 ≤ part_size spec.policy (kind_of oid) (unit_start (kind_of oid) unit)
        above =
            let from = from_so in
            let start = start_so in
            let least : 0 / d ≤ 512 * unit / d
            = widths.by_cases (λ (k : ℕ). 0 / k ≤ 512 * unit / k) (omega arith) (omega arith) (omega arith) (omega arith) d is_policy.0 in
            omega (arith, from, start, least)

        within : part_size spec.policy (kind_of oid) (unit_start (kind_of oid) unit)
            + part_size spec.policy (kind_of oid) (unit_size (kind_of oid) unit)
            ≤ part_size spec.policy (kind_of oid) 0 + length (bytes_in m.status)
        within =
            let more = block.inside in
            let start = start_so in
            let size = size_so in
            let own = long_so in
            let most : 512 * unit / d + 512 / d ≤ 2 ^ spec.shift / d
            = widths.by_cases (λ (k : ℕ). 512 * unit / k + 512 / k ≤ 2 ^ spec.shift / k) (omega (arith, more)) (omega (arith, more))
            (omega (arith, more)) (omega (arith, more)) d is_policy.0 in
            omega (arith, most, own, start, size)

        part_so : piece_at (bytes_in m.status)
            (part_size spec.policy (kind_of oid) (unit_start (kind_of oid) unit) - part_size spec.policy (kind_of oid) 0)
            (part_size spec.policy (kind_of oid) (unit_size (kind_of oid) unit))
            ≡ unit_part_by m.index unit base.work
        part_so =
            part_of_made moment.world.log moment.world.hosts moment.world.wire moment.past.attempts tellers.rows.tied.fates
            tellers.rows.shaped.shape gave_here.from oid epoch m.index 0 spec.policy block.known (targets place m at wide_strip)
            read.earlier (bytes_in m.status) (gave_here.since block.is_good block.known) unit
            (λ i. is_in_strips (policy_is i) (block.kind_so i)) j base is.there is.covers is.made is.quiet above within

        strip_of : unit_part_by m.index unit base.work ≡ strip d (bytes_by unit base.work) m.index
        strip_of =
            let own_policy = policy_so moment.world.log moment.world.hosts moment.world.wire moment.past.attempts tellers.rows.tied.fates
            tellers.rows.shaped.shape gave_here.from oid epoch spec.policy block.known (targets place m at wide_strip) read.earlier j base
            is.there in
            let own_object = object moment.world.log moment.world.hosts moment.world.wire moment.past.attempts tellers.rows.tied.fates
            tellers.rows.shaped.shape gave_here.from oid epoch spec.policy block.known (targets place m at wide_strip) read.earlier j base
            is.there in
            (λ i. part ((own_policy ∙ policy_is) i) ((ap kind_of own_object ∙ block.kind_so) i) m.index (bytes_by unit base.work))
            ∙ part_of_block d p m.index (bytes_by unit base.work) is.block.1

        gave_strip : GaveStrip d 0 unit (bytes_by unit base.work) m
        gave_strip =
            sym (λ i. piece_at (bytes_in m.status)
            (part_size (policy_is i) (block.kind_so i) (unit_start (block.kind_so i) unit)
            - part_size (policy_is i) (block.kind_so i) 0)
            (part_size (policy_is i) (block.kind_so i) (unit_size (block.kind_so i) unit))) ∙ part_so ∙ strip_of

        index_so : m.index ≡ 0 + place
        index_so =
            let from_zero : place ≡ 0 + place = omega arith in
            (part_read place m at wide_strip).index_so ∙ (λ i. index_at (policy_is i) (block.kind_so i) place) ∙ from_zero

      enough : d ≤ length heard
      enough =
          let as_many : length heard ≡ d + p = read.count ∙ ap (λ (q : Policy). wanted_of q Block) policy_is in
          omega (arith, as_many)

      indexes : map index_of (take d heard) ≡ range_with_len 0 d
      indexes = indexes_taken 0 d heard enough index_so

      few : d ≤ 16
      few = widths.by_cases (λ (k : ℕ). k ≤ 16) (omega arith) (omega arith) (omega arith) (omega arith) d is_policy.0

      points : ArePoints (map index_of (take d heard))
      points =
          let low = few in
          subst ArePoints (sym indexes) (points_to (range_with_len 0 d) (range_points 0 d (omega (arith, low))))

      of_base : ComesToBe moment oid unit (block_in (value_of spec.policy (map piece_of heard)) unit)
      of_base =
          let at : unit * 512 ≡ 512 * unit - 0 = omega arith in
          let (place, comes) = base_comes moment.world.hosts moment.past.attempts oid unit j base is in
          record {
            place = place;
            one = base;
            to_come = comes;
            same = ap (λ (q : Policy). block_in (value_of q (map piece_of heard)) unit) policy_is
                ∙ ap (λ (bytes : List ℕ). take 512 (drop (unit * 512) bytes)) (strips_value d p heard indexes)
                ∙ ap (λ (k : ℕ). take 512 (drop k (bytes_through (Coded d p) Block (take d heard)))) at
                ∙ block_read d p 0 unit is_policy refl (omega arith) (bytes_by unit base.work) is.block (take d heard)
                (length-take-le d heard enough) points (first_all (GaveStrip d 0 unit (bytes_by unit base.work)) d heard gave_strip);
          }

    pub strips_come : ComesToBe moment oid unit (block_in (value_of spec.policy (map piece_of heard)) unit)
    strips_come =
        let (j, base, is) = has_base moment.world.log moment.world.hosts moment.world.wire moment.past.attempts tellers.rows.tied.fates
        tellers.rows.shaped.shape works oid spec.policy block.known block.kind_so unit alike of_bytes block.place block.made block.there
        block.on block.covers block.is_made_one in
        of_base j base is
