-- The works of a check meet what works must: an own object is read and written whole, and its value is as long as it.
use Rattle.std.proofs.Common.{◌≡◌, ℕ, zero, suc, ◌+◌, ◌-◌, ◌*◌, ◌/◌, ◌%◌, ◌^◌, ◌≤◌, List, [], ◌∷◌, length, take, drop, map, Option, Some, IfSome, refl, sym, ap, subst, ◌∙◌, pow-add, arith}
use Rattle.std.specs.List.{range_with_len}
use Rattle.std.proofs.Math.Nat.{pow-le-pow_right, zero-mul}
use Rattle.std.proofs.lemmas.List.{length-append, length-take-le}
use Rattle.std.proofs.lemmas.Option.{same_Some}
use Rattle.object_id.specs.declared.entry.VdiSpec.{VdiSpec}
use Rattle.object_id.specs.declared.limits.TheConstants.{OBJECT_BYTES_MAX}
use Rattle.object_id.specs.declared.oid.Kind.{Kind}
use Rattle.object_id.specs.declared.oid.Kind.TheVariants.{Block, Inode}
use Rattle.object_id.specs.declared.policy.Policy.{Policy}
use Rattle.object_id.specs.declared.policy.Policy.TheVariants.{Copies, Coded}
use Rattle.object_id.specs.Oid.{object_number, kind_of}
use Rattle.object_id.specs.Policy.{IsPolicy, wanted_of}
use Rattle.object_id.specs.Spec.{IsSpec}
use Rattle.gf256.specs.Strip.{strip_bytes, block_through}
use Rattle.gf256.proofs.StripLaws.{length-block_through}
use Rattle.gf256.specs.Part.{IsAligned, part_size, parts_in, first_part, blocks_through, bytes_of_parts}
use Rattle.gf256.proofs.Widths.{by_cases}
use Rattle.inode.specs.Layout.{Content}
use Rattle.peer_proto.specs.Work.{IsWork}
use Rattle.disk_check.specs.Value.{all_bytes, pieces_in, value_of}
use Rattle.disk_check.specs.Table.{own_indexes}
use Rattle.disk_check.specs.Check.{Check, CheckStage, CheckStep, Comparing, WritingBack, Answered, CheckBeginsWork, begun_check, read_copies, write_value}
use Rattle.disk_check.specs.Check.{check_on, begin_check, check_done_at, check_on_done, bytes_at, check_bytes_wanted}

-- objects go by whole blocks
object_blocks : (shift : ℕ) → 9 ≤ shift → 2 ^ shift ≡ 512 * 2 ^ (shift - 9)
object_blocks shift wide =
    let split : shift ≡ 9 + (shift - 9) = omega arith in
    ap (λ n. 2 ^ n) split ∙ pow-add 2 9 (shift - 9)

whole_blocks : (n m : ℕ) → n ≡ 512 * m → n % 512 ≡ 0
whole_blocks n m e = omega arith

pub aligned : (policy : Policy) (kind : Kind) (n : ℕ) → n % 512 ≡ 0 → IsAligned policy kind n
aligned (Copies copies) kind n whole = tt
aligned (Coded d p) Block n whole = whole
aligned (Coded d p) Inode n whole = tt

length-blocks_through : (d : ℕ) (points : List ℕ) (blocks : ℕ) (parts : List (List ℕ))
    → length (blocks_through d points blocks parts) ≡ blocks * 512
unfolding blocks_through
length-blocks_through d points zero parts = refl
length-blocks_through d points (suc blocks) parts =
    let front : List ℕ = block_through d points (map (take (strip_bytes d)) parts) in
    let rest : List ℕ = blocks_through d points blocks (map (drop (strip_bytes d)) parts) in
    let one : length front ≡ 512 = length-block_through d points (map (take (strip_bytes d)) parts) in
    let others : length rest ≡ blocks * 512 = length-blocks_through d points blocks (map (drop (strip_bytes d)) parts) in
    omega (arith, length-append front rest, one, others)

first_cut : (n count size : ℕ) (bytes : List ℕ) → 1 ≤ n → 1 ≤ count → first_part (take n (parts_in size count bytes)) ≡ take size bytes
first_cut zero count size bytes some more = absurd (omega arith)
first_cut (suc n) zero size bytes some more = absurd (omega arith)
first_cut (suc n) (suc count) size bytes some more = ap (λ (k : ℕ). take size (drop k bytes)) (zero-mul size)

-- so many bytes are there for one of some pieces
one_of : (count size long : ℕ) → 1 ≤ count → long ≡ count * size → size ≤ long
one_of count size long some e =
    let split : count ≡ 1 + (count - 1) = omega arith in
    let all : count * size ≡ size + (count - 1) * size = ap (λ n. n * size) split ∙ grind arith in
    omega (arith, e, all)

-- of coded data the strips of each block give the block
value_long : (policy : Policy) (n m : ℕ) (bytes : List ℕ) → IsPolicy policy → n ≡ 512 * m
    → length bytes ≡ wanted_of policy Block * part_size policy Block n
    → length (value_of policy (parts_in (part_size policy Block n) (wanted_of policy Block) bytes)) ≡ n
unfolding bytes_of_parts
value_long (Copies copies) n m bytes is blocks all =
    ap length (first_cut 1 copies n bytes (omega arith) is.0)
    ∙ length-take-le n bytes (one_of copies n (length bytes) is.0 all)
value_long (Coded d p) n m bytes is blocks all =
    let some : 1 ≤ d = by_cases (λ d. 1 ≤ d) (omega arith) (omega arith) (omega arith) (omega arith) d is.0 in
    let pieces : List (List ℕ) = take d (parts_in (n / d) (d + p) bytes) in
    let first : length (first_part pieces) ≡ n / d =
    ap length (first_cut d (d + p) (n / d) bytes some (omega (arith, some)))
    ∙ length-take-le (n / d) bytes (one_of (d + p) (n / d) (length bytes) (omega (arith, some)) all) in
    length-blocks_through d (range_with_len 0 d) (length (first_part pieces) / strip_bytes d) pieces
    ∙ ap (λ (long : ℕ). long / strip_bytes d * 512) first
    ∙ ap (λ (k : ℕ). k / d / strip_bytes d * 512) blocks
    ∙ by_cases (λ d. 512 * m / d / strip_bytes d * 512 ≡ 512 * m) (omega arith) (omega arith) (omega arith) (omega arith) d is.0
    ∙ sym blocks

pub value-length : (spec : VdiSpec) (bytes : List ℕ) → IsSpec spec → length bytes ≡ all_bytes spec
    → length (value_of spec.policy (pieces_in spec bytes)) ≡ 2 ^ spec.shift
value-length spec bytes is all =
    value_long spec.policy (2 ^ spec.shift) (2 ^ (spec.shift - 9)) bytes is.policy
    (object_blocks spec.shift (omega (arith, is.shift.0))) all

pub object_whole : (spec : VdiSpec) → IsSpec spec → 2 ^ spec.shift % 512 ≡ 0
object_whole spec is =
    whole_blocks (2 ^ spec.shift) (2 ^ (spec.shift - 9)) (object_blocks spec.shift (omega (arith, is.shift.0)))

pub object_most : (spec : VdiSpec) → IsSpec spec → 2 ^ spec.shift ≤ OBJECT_BYTES_MAX
object_most spec is = pow-le-pow_right (omega arith) is.shift.1

any_read-work : (check : Check) (index : ℕ) → IsSpec check.spec → IsWork (read_copies check index)
any_read-work check index is = (
  is.policy,
  object_most check.spec is,
  aligned check.spec.policy (kind_of (object_number check.vid index)) (2 ^ check.spec.shift) (object_whole check.spec is),
)

any_write-work : (check : Check) (index : ℕ) (value : List ℕ) → IsSpec check.spec → length value ≡ 2 ^ check.spec.shift
    → IsWork (write_value check index value)
any_write-work check index value is long =
    let most : 2 ^ check.spec.shift ≤ OBJECT_BYTES_MAX = object_most check.spec is in
    let whole : length value % 512 ≡ 0 = ap (λ n. n % 512) long ∙ object_whole check.spec is in
    let kind : Kind = kind_of (object_number check.vid index) in (
      is.policy,
      omega (arith, long, most),
      (aligned check.spec.policy kind 0 refl, aligned check.spec.policy kind (length value) whole),
    )

pub read_copies-work : (inode : Content) (index : ℕ) → IsSpec inode.spec → IsWork (read_copies (begun_check inode) index)
read_copies-work inode index is = any_read-work (begun_check inode) index is

pub write_value-work : (inode : Content) (index : ℕ) (value : List ℕ) → IsSpec inode.spec → length value ≡ 2 ^ inode.spec.shift
    → IsWork (write_value (begun_check inode) index value)
write_value-work inode index value is long = any_write-work (begun_check inode) index value is long

-- ---- the steps

on-work : (check : Check) (indexes : List ℕ) → IsSpec check.spec → CheckBeginsWork (check_on check indexes).act
on-work check [] is = tt
on-work check (index ∷ later) is = any_read-work check index is

pub begin-work : (inode : Content) → IsSpec inode.spec → CheckBeginsWork (begin_check inode).act
unfolding begin_check
begin-work inode is = on-work (begun_check inode) (own_indexes inode) is

stage-work : (bytes : List ℕ) (check : Check) (stage : CheckStage) → IsSpec check.spec → bytes_at check.spec stage ≡ Some (length bytes)
    → IfSome (check_done_at bytes check stage) (λ step. CheckBeginsWork step.act)
stage-work bytes check (Comparing index later) is all =
    any_write-work check index (value_of check.spec.policy (pieces_in check.spec bytes)) is
    (value-length check.spec bytes is (sym (same_Some (all_bytes check.spec) (length bytes) all)))
stage-work bytes check (WritingBack later) is all = on-work check later is
stage-work bytes check Answered is all = tt

-- the step that a work's bytes make, where as many came as were waited for
pub done-work : (bytes : List ℕ) (check : Check) (step : CheckStep) → IsSpec check.spec → check_bytes_wanted check ≡ Some (length bytes)
    → check_on_done bytes check ≡ Some step → CheckBeginsWork step.act
unfolding check_on_done
done-work bytes check step is all made =
    subst (λ (step : Option CheckStep). IfSome step (λ step. CheckBeginsWork step.act)) made (stage-work bytes check check.stage is all)
