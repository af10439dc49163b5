-- Epochs of a list of entries: how many have begun, the members of each, and which are settled.
use Rattle.std.specs.Prelude.{ℕ, suc, zero, ◌+◌, ◌-◌, ◌==◌, Bool, true, false, not, ◌&&◌, ◌||◌, List, [], ◌∷◌, length, take, filter, fold}
use Rattle.std.specs.Prelude.{Option, Some, None, if◌then◌else◌}
use Rattle.std.specs.List.{list_any}
use Rattle.object_id.specs.declared.node.NodeId.{NodeId}
use Rattle.object_id.specs.declared.node.Epoch.{Epoch}
use Rattle.object_id.specs.declared.entry.Member.{Member}
use Rattle.object_id.specs.declared.entry.Entry.{Entry}
use Rattle.object_id.specs.declared.entry.Entry.TheVariants.{Format, Join, Leave, Reweight, Recovered, Reserve, Publish, Clone, Snapshot}
use Rattle.object_id.specs.declared.entry.Entry.TheVariants.{Delete, Lock, Unlock}
use Rattle.epoch_log.specs.Members.{members_after}

-- whether an entry begins an epoch
abbrev pub begins_epoch : Entry → Bool
begins_epoch (Format members) = false
begins_epoch (Join node zone vnodes) = true
begins_epoch (Leave node) = true
begins_epoch (Reweight node vnodes) = true
begins_epoch (Recovered node epoch) = false
begins_epoch (Reserve by session name origin) = false
begins_epoch (Publish by vid) = false
begins_epoch (Clone by vid) = false
begins_epoch (Snapshot by old vid) = false
begins_epoch (Delete by session name tag) = false
begins_epoch (Lock by session name tag) = false
begins_epoch (Unlock by session vid) = false

-- the newest epoch: 1 plus the number of entries that begin one
abbrev pub epoch_of : List Entry → ℕ
epoch_of entries = length (filter begins_epoch entries) + 1

-- the members that the log opens with
abbrev pub initial_members : List Entry → List Member
initial_members [] = []
initial_members (entry ∷ later) = opened entry
  where
    opened : Entry → List Member
    opened (Format members) = members
    opened _ = []

-- the members of an epoch: the opening ones, changed by each entry up to the one that begins the epoch
abbrev pub members_in : List Entry → ℕ → List Member
members_in entries epoch = fold members_after (initial_members entries) (take (epoch - 1) (filter begins_epoch entries))

-- whether an entry says that the node has recovered what it keeps in the epoch
abbrev pub recovers : ℕ → ℕ → Entry → Bool
recovers epoch node (Recovered by of) = of.0 == epoch && by.0 == node
recovers epoch node _ = false

abbrev pub has_recovered : List Entry → ℕ → ℕ → Bool
has_recovered entries epoch node = list_any (recovers epoch node) entries

-- the node and the epoch of a `Recovered`
abbrev pub recovery_of : Entry → Option (NodeId × Epoch)
recovery_of (Recovered node epoch) = Some (node, epoch)
recovery_of _ = None

-- the members of an epoch that have not recovered in it
abbrev pub missing_in : List Entry → ℕ → List Member
missing_in entries epoch = filter (λ (member : Member). not (has_recovered entries epoch member.node.0)) (members_in entries epoch)

-- an epoch is settled where it is the first, or where every member has recovered
abbrev pub is_settled : List Entry → ℕ → Bool
is_settled entries epoch = epoch == 1 || length (missing_in entries epoch) == 0

-- the greatest number up to `most` that passes a test; 0 where none does
abbrev pub greatest : (ℕ → Bool) → ℕ → ℕ
greatest passes zero = 0
greatest passes (suc most) = if passes (suc most) then suc most else greatest passes most

-- the settled epoch: the greatest settled one of those that have begun
abbrev pub settled_of : List Entry → ℕ
settled_of entries = greatest (is_settled entries) (epoch_of entries)

-- the newest epoch and the settled one at a place: those of the entries before it
abbrev pub epoch_at : List Entry → ℕ → ℕ
epoch_at entries place = epoch_of (take place entries)

abbrev pub settled_at : List Entry → ℕ → ℕ
settled_at entries place = settled_of (take place entries)
