-- Policies: how many nodes keep an object, how many a read needs, and the two bytes that spell a policy.
use Rattle.std.specs.Prelude.{ℕ, ◌+◌, ◌*◌, ◌/◌, ◌≤◌, ◌==◌, ◌||◌, Bool, IsTrue}
use Rattle.object_id.specs.declared.policy.Policy.{Policy}
use Rattle.object_id.specs.declared.policy.Policy.TheVariants.{Copies, Coded}
use Rattle.object_id.specs.declared.limits.TheConstants.{COPIES_MAX, DATA_STRIPS_MAX, PARITY_MAX}
use Rattle.object_id.specs.declared.oid.Kind.{Kind}
use Rattle.object_id.specs.declared.oid.Kind.TheVariants.{Block, Inode}

-- how many data strips there may be
abbrev pub is_width : ℕ → Bool
is_width d = d == 2 || d == 4 || d == 8 || d == DATA_STRIPS_MAX

-- some whole copies, at most 31, or 2, 4, 8 or 16 data strips and some parity strips, at most 15
abbrev pub IsPolicy : Policy → Type 0
IsPolicy (Copies copies) = (1 ≤ copies) × (copies ≤ COPIES_MAX)
IsPolicy (Coded d p) = IsTrue (is_width d) × (1 ≤ p) × (p ≤ PARITY_MAX)

-- the policy byte: half the data strips in the high four bits, the parity strips in the low four
abbrev pub policy_byte : Policy → ℕ
policy_byte (Copies copies) = 0
policy_byte (Coded d p) = d / 2 * 16 + p

-- the number of copies that stands beside the policy byte
abbrev pub strips_of : Policy → ℕ
strips_of (Copies copies) = copies
strips_of (Coded d p) = d + p

-- on how many nodes an object is kept; an inode of a coded disk has one copy more than there are parity strips
abbrev pub wanted_of : Policy → Kind → ℕ
wanted_of (Copies copies) kind = copies
wanted_of (Coded d p) Block = d + p
wanted_of (Coded d p) Inode = p + 1

-- how many of them a read needs
abbrev pub need_of : Policy → Kind → ℕ
need_of (Copies copies) kind = 1
need_of (Coded d p) Block = d
need_of (Coded d p) Inode = 1
