-- What nodes came to: which are lost or beyond an epoch, and which epochs are entered or will never be settled.
use Rattle.std.specs.Prelude.{ℕ, ◌+◌, nat_le, Bool, true, false, not, ◌&&◌, ◌||◌, List}
use Rattle.std.specs.Option.{option_map_or}
use Rattle.std.specs.List.{list_any, list_all}
use Rattle.std.specs.Ordering.{nat_cmp}
use Rattle.std.specs.FinMap as tree
use Rattle.object_id.specs.declared.node.NodeId.{NodeId}
use Rattle.object_id.specs.declared.entry.Member.{Member}
use Rattle.object_id.specs.declared.entry.Entry.{Entry}
use Rattle.epoch_log.specs.Epochs.{members_in, recovers, has_recovered}
use Rattle.sheep_world.specs.World.{Host}

-- the nodes of a world, by number
abbrev pub Hosts : Type 0
Hosts = tree.FinMap nat_cmp Host

-- whether a host is lost, or its node has come to an epoch
abbrev pub has_come_in : ℕ → Host → Bool
has_come_in epoch host = host.is_lost || nat_le epoch host.node.peer.epoch

-- whether a node is lost or has come to the epoch; one that isn't there counts as lost
abbrev pub has_come : Hosts → ℕ → NodeId → Bool
has_come hosts epoch node = option_map_or (has_come_in epoch) (tree.get hosts node.0) true

-- whether a node is beyond an epoch: it is lost, or has come to a later one
abbrev pub is_beyond : Hosts → ℕ → NodeId → Bool
is_beyond hosts epoch node = has_come hosts (epoch + 1) node

-- whether an epoch is entered: each of its members is lost or has come to it
unfoldable pub has_entered : Hosts → List Entry → ℕ → Bool
has_entered hosts log epoch = list_all (λ (member : Member). has_come hosts epoch member.node) (members_in log epoch)

-- whether a host that is up has `Recovered` of a node and an epoch still to put
abbrev pub is_putting_in : ℕ → ℕ → Host → Bool
is_putting_in epoch node host = not host.is_lost && list_any (recovers epoch node) host.node.outbox

-- whether `Recovered` of a node and an epoch stands in the log, or is still to be put
abbrev pub has_finished : Hosts → List Entry → ℕ → NodeId → Bool
has_finished hosts log epoch node =
    has_recovered log epoch node.0 || option_map_or (is_putting_in epoch node.0) (tree.get hosts node.0) false

-- whether an epoch is dying: one of its members went beyond it without a `Recovered` of it, so it will never be settled
unfoldable pub is_dying : Hosts → List Entry → ℕ → Bool
is_dying hosts log epoch =
    list_any
    (λ (member : Member). not (has_finished hosts log epoch member.node) && is_beyond hosts epoch member.node)
    (members_in log epoch)
