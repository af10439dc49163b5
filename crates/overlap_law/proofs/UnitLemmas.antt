-- Units of an object: each begins where the one before ends, and is found by the place of its first byte.
use Rattle.std.proofs.Common.{arith, ◌≡◌, ℕ, ◌+◌, ◌*◌, ◌-◌, ◌<◌, ◌≤◌, nat_lt, Bool, true, false, cond, refl}
use Rattle.std.proofs.lemmas.Bool.{ltb-true, ltb-false}
use Rattle.object_id.specs.declared.oid.Kind.{Kind}
use Rattle.object_id.specs.declared.oid.Kind.TheVariants.{Block, Inode}
use Rattle.inode.specs.declared.layout.TheConstants.{INODE_HEADER_BYTES}
use Rattle.overlap_law.specs.Words.{unit_start, unit_end}

ends_header : (unit : ℕ) → unit < INODE_HEADER_BYTES → INODE_HEADER_BYTES ≤ unit + 1
    → unit + 1 ≡ INODE_HEADER_BYTES + 4 * (unit + 1 - INODE_HEADER_BYTES)
ends_header unit below above = omega arith

backwards : (unit : ℕ) → INODE_HEADER_BYTES ≤ unit → unit + 1 < INODE_HEADER_BYTES → ⊥
backwards unit above below = omega arith

next_entry : (unit : ℕ) → INODE_HEADER_BYTES ≤ unit
    → INODE_HEADER_BYTES + 4 * (unit - INODE_HEADER_BYTES) + 4 ≡ INODE_HEADER_BYTES + 4 * (unit + 1 - INODE_HEADER_BYTES)
next_entry unit above = omega arith

start_if : (unit : ℕ) (b c : Bool) → nat_lt unit INODE_HEADER_BYTES ≡ b → nat_lt (unit + 1) INODE_HEADER_BYTES ≡ c
    → cond b unit (INODE_HEADER_BYTES + 4 * (unit - INODE_HEADER_BYTES)) + cond b 1 4
    ≡ cond c (unit + 1) (INODE_HEADER_BYTES + 4 * (unit + 1 - INODE_HEADER_BYTES))
start_if unit true true e f = refl
start_if unit true false e f = ends_header unit (ltb-true _ _ e) (ltb-false _ _ f)
start_if unit false true e f = absurd (backwards unit (ltb-false _ _ e) (ltb-true _ _ f))
start_if unit false false e f = next_entry unit (ltb-false _ _ e)

pub unit-follows : (kind : Kind) (unit : ℕ) → unit_end kind unit ≡ unit_start kind (unit + 1)
unit-follows Block unit = omega arith
unit-follows Inode unit = start_if unit (nat_lt unit INODE_HEADER_BYTES) (nat_lt (unit + 1) INODE_HEADER_BYTES) refl refl
