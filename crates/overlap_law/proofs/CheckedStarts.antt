-- A check's write begins each block of its object that its disk has, with the bytes that the write has for it.
use Rattle.std.proofs.Common.{◌≡◌, ℕ, ◌+◌, ◌-◌, ◌*◌, ◌/◌, ◌^◌, ◌<◌, Bool, true, false, List, [], ◌∷◌, cond, drop, filter, length, take}
use Rattle.std.proofs.Common.{Contains, sym, ap, subst, ◌∙◌, arith}
use Rattle.std.specs.List.{range_with_len}
use Rattle.std.specs.Option.{option_map_or}
use Rattle.std.proofs.lemmas.Bool.{lt-ltb}
use Rattle.proof_tools.proofs.Lists.{Contains-cons, Contains-filter, Contains-flat_map, Contains-head}
use Rattle.object_id.specs.declared.entry.VdiSpec.{VdiSpec}
use Rattle.object_id.specs.declared.limits.TheConstants.{BLOCK_BYTES}
use Rattle.object_id.specs.declared.oid.Kind.{Kind}
use Rattle.object_id.specs.declared.oid.Kind.TheVariants.{Block}
use Rattle.object_id.specs.declared.policy.Policy.{Policy}
use Rattle.object_id.specs.Oid.{kind_of, object_number}
use Rattle.object_id.specs.Spec.{IsSpec}
use Rattle.gf256.specs.Part.{is_in_strips}
use Rattle.object_store.specs.Bytes.{piece_at}
use Rattle.cluster_script.specs.declared.statement.Statement.{Statement}
use Rattle.cluster_script.specs.NumberedRequests.{request_at}
use Rattle.cluster_script.specs.Statements.{is_check}
use Rattle.disk_history.specs.declared.event.HistEvent.{HistEvent}
use Rattle.disk_history.specs.declared.event.HistEvent.TheVariants.{Read, WriteStart}
use Rattle.peer_proto.specs.declared.work.ObjWork.{ObjWork}
use Rattle.peer_proto.specs.declared.work.ObjWork.TheVariants.{Write}
use Rattle.sheep_node.specs.declared.check_write.CheckWrite.{CheckWrite}
use Rattle.sheep_world.specs.HistoryAdditions.{block_checked, block_in, block_written, check_write_adds, check_write_grown, is_on_disk}
use Rattle.overlap_law.specs.Units.{bytes_by, unit_size, unit_start}
use Rattle.overlap_law.specs.WrittenBlocks.{blocks_per_object}
use Rattle.overlap_law.proofs.AheadOfChecks.{object_blocks}
use Rattle.overlap_law.proofs.StartedWrites.{in_range}

-- each block of an object that the disk has was begun to be written, with these bytes
abbrev pub IsBegunAt : List HistEvent → ℕ → ℕ → VdiSpec → ℕ → ObjWork → Type 0
IsBegunAt history req vid spec index work = (unit : ℕ) → unit < blocks_per_object spec
    → index * blocks_per_object spec + unit < spec.size / BLOCK_BYTES
    → (coded : Bool) × Contains history (WriteStart req vid (index * blocks_per_object spec + unit) coded (bytes_by unit work))

-- the bytes that a work has of a block, which writes a value over a whole object
value_bytes : (vid index unit : ℕ) (policy : Policy) (value : List ℕ) → kind_of (object_number vid index) ≡ Block
    → bytes_by unit (Write (object_number vid index) policy 0 value) ≡ block_in value unit
value_bytes vid index unit policy value kind =
    let place : 512 * unit - 0 ≡ unit * 512 = omega arith in
    ap (λ (k : Kind). piece_at value (unit_start k unit - 0) (unit_size k unit)) kind
    ∙ ap (λ (k : ℕ). take BLOCK_BYTES (drop k value)) place

module _ (write : CheckWrite) (is : IsSpec write.spec) (long : length write.value ≡ 2 ^ write.spec.shift) where
  -- a block's number
  pub block_so : (unit : ℕ) → block_written write unit ≡ write.index * blocks_per_object write.spec + unit
  block_so unit =
      let each : ℕ = 2 ^ (write.spec.shift - 9) in
      let blocks : 2 ^ write.spec.shift ≡ 512 * each = object_blocks write.spec is in
      let per : 2 ^ write.spec.shift / 512 ≡ each = omega (arith, blocks) in
      let whole : write.index * 2 ^ write.spec.shift ≡ 512 * (write.index * each) = ap (λ n. write.index * n) blocks ∙ grind arith in
      let first : write.index * 2 ^ write.spec.shift / 512 ≡ write.index * each = omega (arith, whole) in
      ap (λ (k : ℕ). k + unit) first ∙ ap (λ (k : ℕ). write.index * k + unit) (sym per)

  abbrev start : ℕ → HistEvent
  start unit =
      WriteStart write.req write.vid.0 (block_written write unit) (is_in_strips write.spec.policy Block) (block_in write.value unit)

  starts : (unit : ℕ) → unit < blocks_per_object write.spec
      → write.index * blocks_per_object write.spec + unit < write.spec.size / BLOCK_BYTES
      → Contains (check_write_adds write)
      (WriteStart write.req write.vid.0 (write.index * blocks_per_object write.spec + unit) (is_in_strips write.spec.policy Block)
      (block_in write.value unit))
  starts unit inside within =
      let number = block_so unit in
      let count : length write.value / BLOCK_BYTES ≡ blocks_per_object write.spec = ap (λ (k : ℕ). k / BLOCK_BYTES) long in
      let on : is_on_disk write unit ≡ true
      = lt-ltb (block_written write unit) (write.spec.size / BLOCK_BYTES) (omega (arith, number, within)) in
      subst (λ (k : ℕ).
      Contains (check_write_adds write)
      (WriteStart write.req write.vid.0 k (is_in_strips write.spec.policy Block) (block_in write.value unit))) number
      (Contains-flat_map (block_checked write) (filter (is_on_disk write) (range_with_len 0 (length write.value / BLOCK_BYTES))) unit
      (start unit)
      (Contains-filter (is_on_disk write) (range_with_len 0 (length write.value / BLOCK_BYTES)) unit
      (in_range 0 (length write.value / BLOCK_BYTES) unit (omega arith) (omega (arith, count, inside))) on)
      (Contains-cons (Read write.vid.0 (block_written write unit) (block_in write.value unit)) (start unit ∷ []) (start unit)
      (Contains-head (start unit) [])))

  -- of a check of the script, with the bytes of its work
  pub write_begins : (script : List Statement) → option_map_or is_check (request_at script write.req) false ≡ true
      → kind_of (object_number write.vid.0 write.index) ≡ Block
      → IsBegunAt (check_write_grown script write) write.req write.vid.0 write.spec write.index
      (Write (object_number write.vid.0 write.index) write.spec.policy 0 write.value)
  write_begins script checks kind unit inside within = (
    is_in_strips write.spec.policy Block,
    subst (λ (b : Bool).
        Contains (cond b (check_write_adds write) [])
        (WriteStart write.req write.vid.0 (write.index * blocks_per_object write.spec + unit) (is_in_strips write.spec.policy Block)
        (bytes_by unit (Write (object_number write.vid.0 write.index) write.spec.policy 0 write.value)))) (sym checks)
        (subst (λ (bytes : List ℕ).
        Contains (check_write_adds write)
        (WriteStart write.req write.vid.0 (write.index * blocks_per_object write.spec + unit) (is_in_strips write.spec.policy Block)
        bytes)) (sym (value_bytes write.vid.0 write.index unit write.spec.policy write.value kind)) (starts unit inside within)),
  )
