-- Reading the next entry of the log.
use Rattle.std.specs.Prelude.{ℕ, ◌&&◌, not, Bool, List, [], filter, if◌then◌else◌}
use Rattle.std.specs.Option.{option_map}
use Rattle.object_id.specs.declared.entry.Entry.{Entry}
use Rattle.object_store.specs.Store.{SeenRow, each}
use Rattle.vdi_directory.specs.declared.decision.Decision.{Decision}
use Rattle.vdi_directory.specs.Decisions.{decision_after}
use Rattle.peer_service.specs.State.{Peer, is_dead_object, with_entry}

-- what is decided on the entry
abbrev pub decision_on : Entry → Peer → Decision
decision_on entry peer = decision_after peer.entries entry

-- whether the entry makes an object's id dead, which wasn't before
abbrev pub kills_object : Entry → Peer → ℕ → Bool
kills_object entry peer oid = is_dead_object (with_entry entry peer) oid && not (is_dead_object peer oid)

-- what is left of an object's rows where the objects that pass a test go
abbrev pub rows_but : (ℕ → Bool) → ℕ → List SeenRow → List SeenRow
rows_but goes oid rows = if goes oid then [] else rows

-- the rows of the objects that pass a test go, and they are pending no more
unfoldable pub without_objects : (ℕ → Bool) → Peer → Peer
without_objects goes peer = record peer {
  rows = each (rows_but goes) peer.rows;
  pending = option_map (filter (λ oid. not (goes oid))) peer.pending;
}

-- the entry is read, and the objects whose id it makes dead go
unfoldable pub read_entry : Entry → Peer → Peer
read_entry entry peer = without_objects (kills_object entry peer) (with_entry entry peer)
