-- Tests of what names, disks, nodes and members may be: each is true exactly if the fact of the same words holds.
use Rattle.std.specs.Prelude.{ℕ, ◌*◌, ◌^◌, ◌%◌, ◌==◌, nat_le, nat_lt, Bool, true, not, ◌&&◌, List, length, Option}
use Rattle.std.specs.List.{list_all}
use Rattle.std.specs.Option.{option_map_or}
use Rattle.object_id.specs.declared.entry.Origin.{Origin}
use Rattle.object_id.specs.declared.entry.Origin.TheVariants.{Fresh, SnapshotOf, CloneOf}
use Rattle.object_id.specs.declared.entry.VdiSpec.{VdiSpec}
use Rattle.object_id.specs.declared.policy.Policy.{Policy}
use Rattle.object_id.specs.declared.policy.Policy.TheVariants.{Copies, Coded}
use Rattle.object_id.specs.declared.limits.TheConstants.{BLOCK_BYTES, SHIFT_MIN, SHIFT_MAX, OBJECTS_MAX, NAME_BYTES_MAX}
use Rattle.object_id.specs.declared.limits.TheConstants.{COPIES_MAX, PARITY_MAX, NODES_MAX, VNODES_MAX}
use Rattle.object_id.specs.Policy.{is_width}

abbrev pub is_name : List ℕ → Bool
is_name name = nat_le 1 (length name) && (nat_le (length name) NAME_BYTES_MAX && list_all (λ (byte : ℕ). not (byte == 0)) name)

abbrev pub is_tag : Option (List ℕ) → Bool
is_tag tag = option_map_or is_name tag true

abbrev pub is_policy : Policy → Bool
is_policy (Copies copies) = nat_le 1 copies && nat_le copies COPIES_MAX
is_policy (Coded d p) = is_width d && (nat_le 1 p && nat_le p PARITY_MAX)

abbrev pub is_spec : VdiSpec → Bool
is_spec spec =
    (nat_le SHIFT_MIN spec.shift && nat_le spec.shift SHIFT_MAX)
    && (is_policy spec.policy
    && ((nat_le BLOCK_BYTES spec.size && nat_le spec.size (OBJECTS_MAX * 2 ^ spec.shift)) && spec.size % BLOCK_BYTES == 0))

abbrev pub is_origin : Origin → Bool
is_origin (Fresh spec) = is_spec spec
is_origin (SnapshotOf tag) = is_name tag
is_origin (CloneOf base tag) = is_name base && is_name tag

abbrev pub is_node : ℕ → Bool
is_node node = nat_lt node NODES_MAX

abbrev pub is_weight : ℕ → Bool
is_weight vnodes = nat_le 1 vnodes && nat_le vnodes VNODES_MAX
