-- Tests of which entry may stand after which, and of which members may open a log: each is true exactly if the fact holds.
use Rattle.std.specs.Prelude.{ℕ, nat_le, nat_lt, Bool, true, not, ◌&&◌, List, [], ◌∷◌, length}
use Rattle.std.specs.List.{list_all}
use Rattle.object_id.specs.declared.entry.Entry.{Entry}
use Rattle.object_id.specs.declared.entry.Entry.TheVariants.{Join, Leave, Reweight, Reserve}
use Rattle.object_id.specs.declared.entry.Member.{Member}
use Rattle.object_id.specs.declared.limits.TheConstants.{EPOCH_MAX}
use Rattle.object_id.specs.Tests.{is_name, is_origin, is_node, is_weight}
use Rattle.epoch_log.specs.Members.{is_member, node_numbers}
use Rattle.epoch_log.specs.Epochs.{epoch_of, members_in}
use Rattle.epoch_log.specs.Appending.{is_format}

abbrev pub is_strictly_increasing : List ℕ → Bool
is_strictly_increasing [] = true
is_strictly_increasing (first ∷ later) = list_all (nat_lt first) later && is_strictly_increasing later

abbrev pub may_open : List Member → Bool
may_open members =
    nat_le 1 (length members)
    && ((is_strictly_increasing (node_numbers members) && list_all is_node (node_numbers members))
    && list_all (λ (member : Member). is_weight member.vnodes) members)

abbrev pub is_reservable : Entry → Bool
is_reservable (Reserve by session name origin) = is_name name && is_origin origin
is_reservable _ = true

abbrev pub fits_members : List Member → Entry → Bool
fits_members members (Join node zone vnodes) = is_node node.0 && (is_weight vnodes && not (is_member node.0 members))
fits_members members (Leave node) = is_member node.0 members
fits_members members (Reweight node vnodes) = is_weight vnodes && is_member node.0 members
fits_members members _ = true

abbrev pub may_append : List Entry → Entry → Bool
may_append entries entry =
    not (is_format entry)
    && (is_reservable entry && (fits_members (members_in entries (epoch_of entries)) entry && nat_lt (epoch_of entries) EPOCH_MAX))
