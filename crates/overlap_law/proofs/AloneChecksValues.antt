-- The value that a check writes over an own object, as a piece of what a request writes; and the blocks that the write of a value begins.
use Rattle.std.proofs.Common.{◌≡◌, ⊎_elim, ℕ, ◌+◌, ◌-◌, ◌*◌, ◌/◌, ◌^◌, ◌<◌, ◌&&◌, nat_le, Bool, true, false, cond, List, [], ◌∷◌}
use Rattle.std.proofs.Common.{drop, filter, length, take, Contains, refl, ap, ◌∙◌, arith}
use Rattle.std.specs.Prelude.{flat_map}
use Rattle.std.specs.List.{range_with_len}
use Rattle.std.proofs.lemmas.Bool.{and_from, le-leb}
use Rattle.std.proofs.lemmas.List.Elements.{Contains-append_cases}
use Rattle.proof_tools.proofs.Lists.{Contains-nil, Contains-cons, Contains-cons_cases, Contains-head, filter-contains}
use Rattle.object_id.specs.declared.limits.TheConstants.{BLOCK_BYTES, OBJECTS_MAX}
use Rattle.object_id.specs.declared.oid.Kind.{Kind}
use Rattle.object_id.specs.declared.oid.Kind.TheVariants.{Block}
use Rattle.object_id.specs.Oid.{IsVid, kind_of, object_number}
use Rattle.object_id.specs.Spec.{IsSpec}
use Rattle.gf256.specs.Part.{is_in_strips}
use Rattle.object_store.specs.Bytes.{piece_at}
use Rattle.cluster_script.specs.declared.statement.Statement.{Statement}
use Rattle.disk_check.specs.Check.{Check, write_value}
use Rattle.disk_history.specs.declared.event.HistEvent.{HistEvent}
use Rattle.disk_history.specs.declared.event.HistEvent.TheVariants.{Read, WriteStart}
use Rattle.sheep_node.specs.declared.check_write.CheckWrite.{CheckWrite}
use Rattle.sheep_world.specs.HistoryAdditions.{block_checked, block_in, block_written, check_write_adds, check_write_grown, is_on_disk}
use Rattle.overlap_law.specs.AloneChecksWritten.{whole_object}
use Rattle.overlap_law.specs.Pieces.{IsInPiece, bytes_for}
use Rattle.overlap_law.specs.Units.{bytes_by, covers_by, unit_end, unit_size, unit_start}
use Rattle.overlap_law.specs.WrittenBlocks.{blocks_per_object}
use Rattle.overlap_law.specs.WrittenPieces.{HasPiece}
use Rattle.overlap_law.proofs.AheadOfChecks.{below_count, object_blocks}
use Rattle.overlap_law.proofs.ItemsOfReplies.{is_check_at}
use Rattle.overlap_law.proofs.KnownDisks.{kind-of_object}

-- ---- a value

module _ (check : Check) (index : ℕ) (value : List ℕ) (id : IsVid check.vid) (spec : IsSpec check.spec) (few : index < OBJECTS_MAX)
    (long : length value ≡ 2 ^ check.spec.shift) where
  kind : kind_of (object_number check.vid index) ≡ Block
  kind = kind-of_object check.vid index id few

  -- it has the bytes of each block,
  pub value_for : (unit : ℕ) → bytes_by unit (write_value check index value) ≡ bytes_for value (whole_object check.spec index) unit
  value_for unit =
      let from : 512 * unit - 0 ≡ 0 + (512 * unit - 0) = omega arith in
      ap (λ (k : Kind). piece_at value (unit_start k unit - 0) (unit_size k unit)) kind ∙ ap (λ (k : ℕ). piece_at value k BLOCK_BYTES) from

  -- which are those that the history begins,
  pub value_block : (unit : ℕ) → bytes_by unit (write_value check index value) ≡ block_in value unit
  value_block unit =
      let place : 512 * unit - 0 ≡ unit * 512 = omega arith in
      ap (λ (k : Kind). piece_at value (unit_start k unit - 0) (unit_size k unit)) kind
      ∙ ap (λ (k : ℕ). take BLOCK_BYTES (drop k value)) place

  -- covers it,
  value_covers : (unit : ℕ) → IsInPiece (whole_object check.spec index) unit → covers_by unit (write_value check index value) ≡ true
  value_covers unit inside =
      let blocks = object_blocks check.spec spec in
      let last = inside.last in
      ap (λ (k : Kind). nat_le 0 (unit_start k unit) && nat_le (unit_end k unit) (0 + length value)) kind
      ∙ and_from (nat_le 0 (unit_start Block unit)) (nat_le (unit_end Block unit) (0 + length value))
      (le-leb 0 (unit_start Block unit) (omega arith))
      (le-leb (unit_end Block unit) (0 + length value) (omega (arith, blocks, last, long)))

  -- and so has the whole object
  pub value_has : HasPiece (write_value check index value) value (whole_object check.spec index)
  value_has unit inside = (value_covers unit inside, value_for unit)

  pub in_whole : (unit : ℕ) → unit < blocks_per_object check.spec → IsInPiece (whole_object check.spec index) unit
  in_whole unit inside = record { first = omega arith; last = omega (arith, inside) }

-- ---- the write of a value

-- a block that it begins
pub record IsBlockOfWrite (script : List Statement) (write : CheckWrite) (req block : ℕ) (bytes : List ℕ) : Type 0 where
  pub own : write.req ≡ req
  pub checks : is_check_at script write.req ≡ true
  pub unit : ℕ
  pub inside : unit < length write.value / BLOCK_BYTES
  pub at : block_written write unit ≡ block
  pub same : block_in write.value unit ≡ bytes

-- what is in a flat list is of one of the lists
from_flat : {X Y : Type 0} (make : X → List Y) (xs : List X) (y : Y) → Contains (flat_map make xs) y
    → (x : X) × Contains xs x × Contains (make x) y
from_flat make [] y among = absurd (Contains-nil y among)
from_flat make (x ∷ xs) y among = ⊎_elim
    (λ (here : Contains (make x) y). (x, Contains-head x xs, here))
    (λ (later : Contains (flat_map make xs) y).
    let (z, there, is) = from_flat make xs y later in (z, Contains-cons x xs z there, is))
    (Contains-append_cases (make x) (flat_map make xs) y among)

module _ (script : List Statement) (write : CheckWrite) (req vid block : ℕ) (coded : Bool) (bytes : List ℕ) where
  abbrev start : HistEvent
  start = WriteStart req vid block coded bytes

  abbrev its : ℕ → HistEvent
  its unit =
      WriteStart write.req write.vid.0 (block_written write unit) (is_in_strips write.spec.policy Block) (block_in write.value unit)

  of_block : (unit : ℕ) → is_check_at script write.req ≡ true → unit < length write.value / BLOCK_BYTES
      → Contains (block_checked write unit) start → IsBlockOfWrite script write req block bytes
  of_block unit checks inside among = ⊎_elim
      (λ (reads : Read write.vid.0 (block_written write unit) (block_in write.value unit) ≡ start). absurd (cc (reads)))
      (λ (rest : Contains (its unit ∷ []) start). ⊎_elim
      (λ (is : its unit ≡ start). record {
        own = cc (is);
        checks = checks;
        unit = unit;
        inside = inside;
        at = cc (is);
        same = cc (is);
      })
      (λ (none : Contains [] start). absurd (Contains-nil start none))
      (Contains-cons_cases (its unit) [] start rest))
      (Contains-cons_cases (Read write.vid.0 (block_written write unit) (block_in write.value unit)) (its unit ∷ []) start among)

  pub block_of_write : Contains (check_write_grown script write) (WriteStart req vid block coded bytes)
      → IsBlockOfWrite script write req block bytes
  block_of_write among = by_check (is_check_at script write.req) refl among
    where
      by_check : (b : Bool) → is_check_at script write.req ≡ b → Contains (cond b (check_write_adds write) []) start
          → IsBlockOfWrite script write req block bytes
      by_check true checks found =
          let units : List ℕ = range_with_len 0 (length write.value / BLOCK_BYTES) in
          let (unit, there, is) = from_flat (block_checked write) (filter (is_on_disk write) units) start found in
          of_block unit checks (below_count (length write.value / BLOCK_BYTES) unit (filter-contains (is_on_disk write) units unit there).0)
          is
      by_check false checks found = absurd (Contains-nil start found)
