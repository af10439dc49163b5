-- The blocks that a check's write begins are those of the object that it writes; and a block of a disk is of one object.
use Rattle.std.proofs.Common.{◌≡◌, ⊎_elim, ℕ, ◌+◌, ◌*◌, ◌-◌, ◌/◌, ◌<◌, ◌≤◌, ◌^◌, ◌==◌, ◌||◌, Bool, true, false, cond, List, [], length}
use Rattle.std.proofs.Common.{filter, refl, sym, ap, arith, ◌∙◌}
use Rattle.std.specs.List.{list_any, range_with_len}
use Rattle.std.specs.Option.{option_map_or}
use Rattle.std.proofs.Math.Nat.{mul-le-mul_right}
use Rattle.std.proofs.lemmas.Bool.{cases_lt, ne_eqb}
use Rattle.proof_tools.proofs.Lists.{filter-contains}
use Rattle.object_id.specs.declared.limits.TheConstants.{BLOCK_BYTES}
use Rattle.object_id.specs.declared.entry.VdiSpec.{VdiSpec}
use Rattle.object_id.specs.Spec.{IsSpec}
use Rattle.cluster_script.specs.declared.statement.Statement.{Statement}
use Rattle.cluster_script.specs.NumberedRequests.{request_at}
use Rattle.cluster_script.specs.Statements.{is_check}
use Rattle.disk_check.specs.Table.{own_indexes}
use Rattle.inode.specs.Layout.{Content}
use Rattle.sheep_node.specs.declared.check_write.CheckWrite.{CheckWrite}
use Rattle.sheep_world.specs.HistoryAdditions.{block_checked, block_written, check_write_adds, check_write_grown, is_on_disk}
use Rattle.overlap_law.specs.ToldReads.{begins_write_at}
use Rattle.overlap_law.specs.WrittenBlocks.{blocks_per_object}
use Rattle.overlap_law.proofs.AheadOfChecks.{and_none, below_count}
use Rattle.overlap_law.proofs.CheckedStarts.{block_so}
use Rattle.overlap_law.proofs.DiskEventsOfHolders.{flat_none_in}

-- a block of a disk is one of an own object
pub record IsOfOwnObject (inode : Content) (spec : VdiSpec) (block : ℕ) : Type 0 where
  pub index : ℕ
  pub unit : ℕ
  pub listed : list_any (λ own. own == index) (own_indexes inode) ≡ true
  pub inside : unit < blocks_per_object spec
  pub at : block ≡ index * blocks_per_object spec + unit

-- ---- each block is of one object

not_before : (each first other unit its : ℕ) → unit < each → first < other → first * each + unit ≡ other * each + its → ⊥
not_before each first other unit its inside before same =
    let next : first * each + each ≡ (first + 1) * each = grind arith in
    let beyond : (first + 1) * each ≤ other * each = mul-le-mul_right each (omega (arith, before)) in
    omega (arith, same, inside, next, beyond)

pub one_object : (each first other unit its : ℕ) → unit < each → its < each → first * each + unit ≡ other * each + its → first ≡ other
one_object each first other unit its inside within same = ⊎_elim
    (λ (before : first < other). absurd (not_before each first other unit its inside before same))
    (λ (rest : other ≤ first). ⊎_elim
    (λ (behind : other < first). absurd (not_before each other first its unit within behind (sym same)))
    (λ (last : first ≤ other). omega (arith, rest, last))
    (cases_lt other first))
    (cases_lt first other)

-- and at one place of it
pub one_place : (each first unit other its : ℕ) → unit < each → its < each → first * each + unit ≡ other * each + its
    → (first ≡ other) × (unit ≡ its)
one_place each first unit other its inside within same =
    let index : first ≡ other = one_object each first other unit its inside within same in
    let before : first * each ≡ other * each = ap (λ (k : ℕ). k * each) index in
    (index, omega (arith, before, same))

-- ---- what a write begins

-- a block is among those of an object, or isn't
by_place : (P : Type 0) (block first each : ℕ) → ((unit : ℕ) → unit < each → block ≡ first + unit → P)
    → (((unit : ℕ) → unit < each → block ≡ first + unit → ⊥) → P) → P
by_place P block first each among apart = ⊎_elim
    (λ (before : block < first). apart (λ unit within at. omega (arith, at, before)))
    (λ (from : first ≤ block). ⊎_elim
    (λ (inside : block < first + each). among (block - first) (omega (arith, inside, from)) (omega (arith, from)))
    (λ (behind : first + each ≤ block). apart (λ unit within at. omega (arith, at, within, behind)))
    (cases_lt block (first + each)))
    (cases_lt block first)

module _ (write : CheckWrite) (is : IsSpec write.spec) (long : length write.value ≡ 2 ^ write.spec.shift) where
  -- a block is one of the object that it writes
  pub record IsOfWrite (block : ℕ) : Type 0 where
    pub unit : ℕ
    pub inside : unit < blocks_per_object write.spec
    pub at : block ≡ write.index * blocks_per_object write.spec + unit

  apart : (req vid block : ℕ)
      → ((unit : ℕ) → unit < blocks_per_object write.spec → block ≡ write.index * blocks_per_object write.spec + unit → ⊥)
      → list_any (begins_write_at req vid block) (check_write_adds write) ≡ false
  apart req vid block never =
      flat_none_in (begins_write_at req vid block) (block_checked write)
      (filter (is_on_disk write) (range_with_len 0 (length write.value / BLOCK_BYTES)))
      (λ place among.
      let inside : place < length write.value / BLOCK_BYTES
      = below_count (length write.value / BLOCK_BYTES) place
      (filter-contains (is_on_disk write) (range_with_len 0 (length write.value / BLOCK_BYTES)) place among).0 in
      let count : length write.value / BLOCK_BYTES ≡ blocks_per_object write.spec = ap (λ (k : ℕ). k / BLOCK_BYTES) long in
      let other : (block_written write place == block) ≡ false
      = ne_eqb (block_written write place) block
      (λ (same : block_written write place ≡ block).
      never place (omega (arith, inside, count)) (sym same ∙ block_so write is long place)) in
      λ k. and_none (write.req == req) (write.vid.0 == vid) (block_written write place == block) other k || false)

  -- so each block of which it begins a write is
  pub of_write : (script : List Statement) (req vid block : ℕ)
      → list_any (begins_write_at req vid block) (check_write_grown script write) ≡ true → IsOfWrite block
  of_write script req vid block begins =
      by_place (IsOfWrite block) block (write.index * blocks_per_object write.spec) (blocks_per_object write.spec)
      (λ unit inside at. record { unit = unit; inside = inside; at = at })
      (λ never.
      let none = by_check never (option_map_or is_check (request_at script write.req) false) in absurd (cc (begins, none)))
    where
      by_check : ((unit : ℕ) → unit < blocks_per_object write.spec → block ≡ write.index * blocks_per_object write.spec + unit → ⊥)
          → (b : Bool) → list_any (begins_write_at req vid block) (cond b (check_write_adds write) []) ≡ false
      by_check never true = apart req vid block never
      by_check never false = refl
