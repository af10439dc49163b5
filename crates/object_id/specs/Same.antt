-- Equality as a test, for definitions that choose by it.
use Rattle.std.specs.Prelude.{ℕ, ◌==◌, ◌&&◌, Bool, true, false, List, Option, Some, None}
use Rattle.std.specs.Cmp.Lexicographic.{pointwise}
use Rattle.std.specs.Str.{bytes_eq}
use Rattle.object_id.specs.declared.policy.Policy.{Policy}
use Rattle.object_id.specs.declared.policy.Policy.TheVariants.{Copies, Coded}
use Rattle.object_id.specs.declared.entry.Member.{Member}
use Rattle.object_id.specs.declared.entry.VdiSpec.{VdiSpec}
use Rattle.object_id.specs.declared.entry.Origin.{Origin}
use Rattle.object_id.specs.declared.entry.Origin.TheVariants.{Fresh, SnapshotOf, CloneOf}
use Rattle.object_id.specs.declared.entry.Entry.{Entry}
use Rattle.object_id.specs.declared.entry.Entry.TheVariants.{Format, Join, Leave, Reweight, Recovered, Reserve, Publish, Clone, Snapshot}
use Rattle.object_id.specs.declared.entry.Entry.TheVariants.{Delete, Lock, Unlock}

abbrev pub is_same_policy : Policy → Policy → Bool
is_same_policy (Copies copies) (Copies others) = copies == others
is_same_policy (Coded d p) (Coded strips parity) = d == strips && p == parity
is_same_policy _ _ = false

abbrev pub is_same_spec : VdiSpec → VdiSpec → Bool
is_same_spec one other = one.size == other.size && (is_same_policy one.policy other.policy && one.shift == other.shift)

abbrev pub is_same_tag : Option (List ℕ) → Option (List ℕ) → Bool
is_same_tag None None = true
is_same_tag (Some tag) (Some other) = bytes_eq tag other
is_same_tag _ _ = false

abbrev pub is_same_origin : Origin → Origin → Bool
is_same_origin (Fresh spec) (Fresh other) = is_same_spec spec other
is_same_origin (SnapshotOf tag) (SnapshotOf other) = bytes_eq tag other
is_same_origin (CloneOf base tag) (CloneOf other label) = bytes_eq base other && bytes_eq tag label
is_same_origin _ _ = false

abbrev pub is_same_member : Member → Member → Bool
is_same_member one other = one.node.0 == other.node.0 && (one.zone == other.zone && one.vnodes == other.vnodes)

abbrev pub is_same_entry : Entry → Entry → Bool
is_same_entry (Format members) (Format others) = pointwise is_same_member members others
is_same_entry (Join node zone vnodes) (Join other place weight) = node.0 == other.0 && (zone == place && vnodes == weight)
is_same_entry (Leave node) (Leave other) = node.0 == other.0
is_same_entry (Reweight node vnodes) (Reweight other weight) = node.0 == other.0 && vnodes == weight
is_same_entry (Recovered node epoch) (Recovered other level) = node.0 == other.0 && epoch.0 == level.0
is_same_entry (Reserve by session name origin) (Reserve node number text source) =
    by.0 == node.0 && (session == number && (bytes_eq name text && is_same_origin origin source))
is_same_entry (Publish by vid) (Publish node id) = by.0 == node.0 && vid.0 == id.0
is_same_entry (Clone by vid) (Clone node id) = by.0 == node.0 && vid.0 == id.0
is_same_entry (Snapshot by old vid) (Snapshot node before id) = by.0 == node.0 && (old.0 == before.0 && vid.0 == id.0)
is_same_entry (Delete by session name tag) (Delete node number text label) =
    by.0 == node.0 && (session == number && (bytes_eq name text && is_same_tag tag label))
is_same_entry (Lock by session name tag) (Lock node number text label) =
    by.0 == node.0 && (session == number && (bytes_eq name text && is_same_tag tag label))
is_same_entry (Unlock by session vid) (Unlock node number id) = by.0 == node.0 && (session == number && vid.0 == id.0)
is_same_entry _ _ = false
