-- The tests of what names, disks, nodes and members may be hold exactly if they may be so.
use Rattle.std.proofs.Common.{◌≢◌, ℕ, ◌*◌, ◌^◌, ◌%◌, ◌==◌, not, List, length, Option, Some, None}
use Rattle.std.specs.Bool.{Decides}
use Rattle.std.proofs.lemmas.Bool.Decides.{Decides-eqb, Decides-ltb, Decides-not}
use Rattle.proof_tools.proofs.Deciding.{itself, always, both, said_as, all_three, at_most, each}
use Rattle.object_id.specs.declared.entry.Origin.{Origin}
use Rattle.object_id.specs.declared.entry.Origin.TheVariants.{Fresh, SnapshotOf, CloneOf}
use Rattle.object_id.specs.declared.entry.VdiSpec.{VdiSpec}
use Rattle.object_id.specs.declared.policy.Policy.{Policy}
use Rattle.object_id.specs.declared.policy.Policy.TheVariants.{Copies, Coded}
use Rattle.object_id.specs.declared.limits.TheConstants.{BLOCK_BYTES, SHIFT_MIN, SHIFT_MAX, OBJECTS_MAX, NAME_BYTES_MAX}
use Rattle.object_id.specs.declared.limits.TheConstants.{COPIES_MAX, PARITY_MAX, NODES_MAX, VNODES_MAX}
use Rattle.object_id.specs.Policy.{is_width, IsPolicy}
use Rattle.object_id.specs.Spec.{IsSpec, IsName, IsTag, IsOrigin}
use Rattle.object_id.specs.Node.{IsNode, IsWeight}
use Rattle.object_id.specs.Tests as tests

pub name_tested : (name : List ℕ) → Decides (tests.is_name name) (IsName name)
name_tested name =
    all_three (at_most 1 (length name)) (at_most (length name) NAME_BYTES_MAX)
    (each (λ (byte : ℕ). byte ≢ 0) (λ (byte : ℕ). not (byte == 0)) (λ byte. Decides-not (byte == 0) (Decides-eqb byte 0)) name)

pub tag_tested : (tag : Option (List ℕ)) → Decides (tests.is_tag tag) (IsTag tag)
tag_tested None = always
tag_tested (Some tag) = name_tested tag

pub policy_tested : (policy : Policy) → Decides (tests.is_policy policy) (IsPolicy policy)
policy_tested (Copies copies) = both (at_most 1 copies) (at_most copies COPIES_MAX)
policy_tested (Coded d p) = all_three (itself (is_width d)) (at_most 1 p) (at_most p PARITY_MAX)

pub spec_tested : (spec : VdiSpec) → Decides (tests.is_spec spec) (IsSpec spec)
spec_tested spec =
    said_as (λ holds. record { shift = holds.0; policy = holds.1.0; size = holds.1.1.0; blocks = holds.1.1.1 })
    (λ is. (is.shift, (is.policy, (is.size, is.blocks))))
    (both (both (at_most SHIFT_MIN spec.shift) (at_most spec.shift SHIFT_MAX))
    (both (policy_tested spec.policy)
    (both (both (at_most BLOCK_BYTES spec.size) (at_most spec.size (OBJECTS_MAX * 2 ^ spec.shift))) (Decides-eqb (spec.size % BLOCK_BYTES) 0))))

pub origin_tested : (origin : Origin) → Decides (tests.is_origin origin) (IsOrigin origin)
origin_tested (Fresh spec) = spec_tested spec
origin_tested (SnapshotOf tag) = name_tested tag
origin_tested (CloneOf base tag) = both (name_tested base) (name_tested tag)

pub node_tested : (node : ℕ) → Decides (tests.is_node node) (IsNode node)
node_tested node = Decides-ltb node NODES_MAX

pub weight_tested : (vnodes : ℕ) → Decides (tests.is_weight vnodes) (IsWeight vnodes)
weight_tested vnodes = both (at_most 1 vnodes) (at_most vnodes VNODES_MAX)
