-- A check has begun to write no object that it hasn't compared yet: its steps keep that, and so does a write to which it comes.
use Rattle.std.proofs.Common.{◌≡◌, ◌≢◌, ⊎_elim, ℕ, zero, suc, ◌+◌, ◌*◌, ◌-◌, ◌<◌, ◌≤◌, ◌^◌, ◌==◌, ◌&&◌, ◌||◌, Bool, true, false, cond, List}
use Rattle.std.proofs.Common.{[], ◌∷◌, ◌++◌, length, filter, Contains, Option, Some, refl, sym, ap, subst, pow-add, arith, ◌∙◌}
use Rattle.std.specs.Prelude.{◌/◌}
use Rattle.std.specs.List.{list_any, range_with_len}
use Rattle.std.specs.List.Sorted.{IsStrictlyIncreasing}
use Rattle.std.specs.Option.{option_map_or}
use Rattle.std.proofs.Math.Nat.{mul-le-mul_right}
use Rattle.std.proofs.lemmas.Bool.{ne_eqb}
use Rattle.std.proofs.lemmas.List.Elements.{All-contains}
use Rattle.std.proofs.lemmas.List.Folds.{list_any-append}
use Rattle.std.proofs.lemmas.Option.{same_Some}
use Rattle.proof_tools.proofs.AscendingNumbers.{IsStrictlyIncreasing-first, IsStrictlyIncreasing-tail}
use Rattle.proof_tools.proofs.Lists.{Contains-cons, Contains-cons_cases, Contains-nil, filter-contains}
use Rattle.object_id.specs.declared.limits.TheConstants.{BLOCK_BYTES}
use Rattle.object_id.specs.declared.entry.VdiSpec.{VdiSpec}
use Rattle.object_id.specs.Spec.{IsSpec}
use Rattle.cluster_script.specs.declared.statement.Statement.{Statement}
use Rattle.cluster_script.specs.NumberedRequests.{request_at}
use Rattle.cluster_script.specs.Statements.{is_check}
use Rattle.disk_history.specs.declared.event.HistEvent.{HistEvent}
use Rattle.disk_check.specs.Check.{Check, CheckStep, CheckStage, Comparing, WritingBack, Answered, check_on_done, check_done_at, left_of}
use Rattle.disk_check.specs.Check.{write_back_step}
use Rattle.sheep_node.specs.declared.check_write.CheckWrite.{CheckWrite}
use Rattle.sheep_world.specs.HistoryAdditions.{block_checked, block_written, check_write_adds, check_write_grown, is_on_disk}
use Rattle.overlap_law.specs.ChecksAhead.{HasBegunNoneAhead}
use Rattle.overlap_law.specs.ToldReads.{begins_write_at}
use Rattle.overlap_law.specs.WrittenBlocks.{blocks_per_object}
use Rattle.overlap_law.proofs.DiskEventsOfHolders.{flat_none_in}

-- a step of a check leaves no object to compare that it hadn't before
pub check_ahead : (req : ℕ) (history : List HistEvent) (bytes : List ℕ) (check : Check) (step : CheckStep)
    → check_on_done bytes check ≡ Some step → HasBegunNoneAhead req history check → HasBegunNoneAhead req history step.check
unfolding check_on_done
check_ahead req history bytes check step is has = by_stage check.stage refl is
  where
    at_stage : (stage : CheckStage) → check.stage ≡ stage → (index : ℕ) → Contains (left_of stage) index
        → Contains (left_of check.stage) index
    at_stage stage at index among = subst (λ (s : CheckStage). Contains (left_of s) index) (sym at) among

    by_stage : (stage : CheckStage) → check.stage ≡ stage → check_done_at bytes check stage ≡ Some step
        → HasBegunNoneAhead req history step.check
    by_stage (Comparing index later) at is =
        subst (λ (s : CheckStep). HasBegunNoneAhead req history s.check) (same_Some _ step is)
        (λ i block among further. has i block (at_stage (Comparing index later) at i (Contains-cons index later i among)) further)
    by_stage (WritingBack []) at is =
        subst (λ (s : CheckStep). HasBegunNoneAhead req history s.check) (same_Some _ step is)
        (λ i block among further. absurd (Contains-nil i among))
    by_stage (WritingBack (first ∷ later)) at is =
        subst (λ (s : CheckStep). HasBegunNoneAhead req history s.check) (same_Some _ step is)
        (λ i block among further. has i block (at_stage (WritingBack (first ∷ later)) at i among) further)
    by_stage Answered at is = absurd (cc (is))

-- a write of the object that it compares leaves the later ones
pub write_back-ahead : (req : ℕ) (history grown : List HistEvent) (check : Check) (index : ℕ) (later : List ℕ) (pieces : List (List ℕ))
    → check.stage ≡ Comparing index later → HasBegunNoneAhead req history check
    → ((i block : ℕ) → Contains later i → i * blocks_per_object check.spec ≤ block
    → list_any (begins_write_at req check.vid block) grown ≡ false)
    → HasBegunNoneAhead req (history ++ grown) (write_back_step check index later pieces).check
write_back-ahead req history grown check index later pieces at has apart i block among further =
    let was = has i block (subst (λ (s : CheckStage). Contains (left_of s) i) (sym at) (Contains-cons index later i among)) further in
    let new = apart i block among further in
    list_any-append (begins_write_at req check.vid block) history grown ∙ (λ k. was k || new k)

-- ---- the blocks of an object aren't those of a later one

pub object_blocks : (spec : VdiSpec) → IsSpec spec → 2 ^ spec.shift ≡ 512 * 2 ^ (spec.shift - 9)
object_blocks spec is =
    let least = is.shift.0 in
    let split : spec.shift ≡ 9 + (spec.shift - 9) = omega (arith, least) in
    ap (λ n. 2 ^ n) split ∙ pow-add 2 9 (spec.shift - 9)

blocks_apart : (spec : VdiSpec) (index i place block : ℕ) → IsSpec spec → index < i → place < 2 ^ spec.shift / BLOCK_BYTES
    → i * blocks_per_object spec ≤ block → index * 2 ^ spec.shift / BLOCK_BYTES + place ≢ block
blocks_apart spec index i place block is before inside further same =
    let each : ℕ = 2 ^ (spec.shift - 9) in
    let blocks : 2 ^ spec.shift ≡ 512 * each = object_blocks spec is in
    let per : 2 ^ spec.shift / 512 ≡ each = omega (arith, blocks) in
    let long : index * 2 ^ spec.shift ≡ 512 * (index * each) = ap (λ n. index * n) blocks ∙ grind arith in
    let first : index * 2 ^ spec.shift / 512 ≡ index * each = omega (arith, long) in
    let next : index * each + each ≡ (index + 1) * each = grind arith in
    let beyond : (index + 1) * each ≤ i * each = mul-le-mul_right each (omega (arith, before)) in
    let there : i * (2 ^ spec.shift / 512) ≡ i * each = ap (λ n. i * n) per in
    omega (arith, same, inside, per, first, next, beyond, there, further)

-- an object's blocks begin where as many as those of all objects before it are
pub first_block : (spec : VdiSpec) (index : ℕ) → IsSpec spec
    → index * blocks_per_object spec ≡ index * 2 ^ spec.shift / BLOCK_BYTES
first_block spec index is =
    let each : ℕ = 2 ^ (spec.shift - 9) in
    let blocks : 2 ^ spec.shift ≡ 512 * each = object_blocks spec is in
    let per : 2 ^ spec.shift / 512 ≡ each = omega (arith, blocks) in
    let long : index * 2 ^ spec.shift ≡ 512 * (index * each) = ap (λ n. index * n) blocks ∙ grind arith in
    let there : index * (2 ^ spec.shift / 512) ≡ index * each = ap (λ n. index * n) per in
    omega (arith, long, there)

below_range : (first count k : ℕ) → Contains (range_with_len first count) k → k < first + count
below_range first zero k among = absurd (Contains-nil k among)
below_range first (suc count) k among = ⊎_elim
    (λ (own : first ≡ k). omega (arith, own))
    (λ (later : Contains (range_with_len (first + 1) count) k).
    let below = below_range (first + 1) count k later in omega (arith, below))
    (Contains-cons_cases first (range_with_len (first + 1) count) k among)

pub below_count : (count k : ℕ) → Contains (range_with_len 0 count) k → k < count
below_count count k among = let below = below_range 0 count k among in omega (arith, below)

pub and_none : (a b c : Bool) → c ≡ false → (a && (b && c)) ≡ false
and_none true true c none = none
and_none true false c none = refl
and_none false b c none = refl

module _ (write : CheckWrite) (spec : IsSpec write.spec) (long : length write.value ≡ 2 ^ write.spec.shift) (req vid i block : ℕ)
    (before : write.index < i) (further : i * blocks_per_object write.spec ≤ block) where
  abbrev test : HistEvent → Bool
  test = begins_write_at req vid block

  adds_apart : list_any test (check_write_adds write) ≡ false
  adds_apart =
      flat_none_in test (block_checked write) (filter (is_on_disk write) (range_with_len 0 (length write.value / BLOCK_BYTES)))
      (λ place among.
      let inside : place < length write.value / BLOCK_BYTES
      = below_count (length write.value / BLOCK_BYTES) place
      (filter-contains (is_on_disk write) (range_with_len 0 (length write.value / BLOCK_BYTES)) place among).0 in
      let apart : (block_written write place == block) ≡ false
      = ne_eqb (block_written write place) block
      (blocks_apart write.spec write.index i place block spec before (subst (λ (n : ℕ). place < n / BLOCK_BYTES) long inside) further) in
      λ k. and_none (write.req == req) (write.vid.0 == vid) (block_written write place == block) apart k || false)

  pub write_apart : (script : List Statement) (o : Option CheckWrite) → o ≡ Some write
      → list_any test (option_map_or (check_write_grown script) o []) ≡ false
  write_apart script o is =
      ap (λ (o : Option CheckWrite). list_any test (option_map_or (check_write_grown script) o [])) is
      ∙ by_check (option_map_or is_check (request_at script write.req) false)
    where
      by_check : (b : Bool) → list_any test (cond b (check_write_adds write) []) ≡ false
      by_check true = adds_apart
      by_check false = refl

-- what is left ascends
pub left_ascends : (before : List ℕ) (index : ℕ) (later : List ℕ) → IsStrictlyIncreasing (before ++ index ∷ later) → (i : ℕ)
    → Contains later i → index < i
left_ascends [] index later up i among = All-contains (λ (k : ℕ). index < k) later i (IsStrictlyIncreasing-first index later up) among
left_ascends (first ∷ before) index later up i among =
    left_ascends before index later (IsStrictlyIncreasing-tail first (before ++ index ∷ later) up) i among
