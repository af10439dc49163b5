-- What is told of entries one by one, so that no list of members is made.
use Rattle.std.specs.Prelude.{ℕ, ◌==◌, Bool, not, ◌&&◌, ◌||◌, List, length, filter}
use Rattle.object_id.specs.declared.entry.Entry.{Entry}
use Rattle.object_id.specs.declared.entry.Entry.TheVariants.{Format, Join, Leave, Reweight, Recovered, Reserve, Publish, Clone, Snapshot}
use Rattle.object_id.specs.declared.entry.Entry.TheVariants.{Delete, Lock, Unlock}
use Rattle.epoch_log.specs.Epochs.{begins_epoch}

-- how many of these entries begin an epoch
abbrev pub begun_by : List Entry → ℕ
begun_by entries = length (filter begins_epoch entries)

-- whether a node is a member after an entry, where it was one before or not
abbrev pub is_member_after : ℕ → Bool → Entry → Bool
is_member_after node was (Format members) = was
is_member_after node was (Join other zone vnodes) = was || other.0 == node
is_member_after node was (Leave other) = was && not (other.0 == node)
is_member_after node was (Reweight other vnodes) = was
is_member_after node was (Recovered other epoch) = was
is_member_after node was (Reserve by session name origin) = was
is_member_after node was (Publish by vid) = was
is_member_after node was (Clone by vid) = was
is_member_after node was (Snapshot by old vid) = was
is_member_after node was (Delete by session name tag) = was
is_member_after node was (Lock by session name tag) = was
is_member_after node was (Unlock by session vid) = was
