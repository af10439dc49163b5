-- The tests of what an input must meet: each is true exactly if the fact that it tests holds.
use Rattle.std.specs.Prelude.{ℕ, ◌+◌, ◌%◌, ◌==◌, nat_le, nat_lt, Bool, true, false, not, ◌&&◌, List, []}
use Rattle.std.specs.Prelude.{◌∷◌, ◌++◌, Option, Some, None, if◌then◌else◌}
use Rattle.std.specs.Option.{option_map_or}
use Rattle.std.specs.FinMap as tree
use Rattle.object_id.specs.declared.entry.Entry.{Entry}
use Rattle.object_id.specs.declared.entry.Entry.TheVariants.{Format, Lock, Unlock}
use Rattle.object_id.specs.declared.entry.VdiSpec.{VdiSpec}
use Rattle.object_id.specs.declared.policy.Policy.{Policy}
use Rattle.object_id.specs.declared.policy.Policy.TheVariants.{Copies, Coded}
use Rattle.object_id.specs.declared.limits.TheConstants.{BLOCK_BYTES}
use Rattle.object_id.specs.Tests.{is_name, is_tag, is_spec}
use Rattle.object_id.specs.Same.{is_same_policy, is_same_entry}
use Rattle.epoch_log.specs.Members.{is_member}
use Rattle.epoch_log.specs.Epochs.{epoch_of, members_in}
use Rattle.epoch_log.specs.AppendTests.{may_open, may_append}
use Rattle.peer_proto.specs.declared.guest.VdiAsk.{VdiAsk}
use Rattle.peer_proto.specs.declared.guest.VdiAsk.TheVariants.{Create, Attach, Close, Snapshot, Clone, Delete, Check}
use Rattle.peer_service.specs.Serve.{may_serve}
use Rattle.guest_driver.specs.Pieces.{is_ask}
use Rattle.sheep_node.specs.declared.ask.Ask.{Ask}
use Rattle.sheep_node.specs.declared.ask.Ask.TheVariants as asks
use Rattle.sheep_node.specs.declared.input.Input.{Input}
use Rattle.sheep_node.specs.declared.input.Input.TheVariants as inputs
use Rattle.sheep_node.specs.State.{Node, session_at}
use Rattle.sheep_node.specs.LogReading.{is_epoch_member}
use Rattle.sheep_node.specs.May.{has_numbers, has_entry_to_put, may_tick, has_work_to_retry, node_awaits, fits_node, has_room_for}
use Rattle.sheep_node.specs.OutsideAsks.{work_offset, work_size}
use Rattle.object_id.specs.declared.node.NodeId.{NodeId}
use Rattle.object_id.specs.declared.oid.Kind.{Kind}
use Rattle.object_id.specs.declared.oid.Kind.TheVariants.{Block, Inode}
use Rattle.object_id.specs.Oid.{kind_of}
use Rattle.peer_proto.specs.Work.{oid_of, policy_of}
use Rattle.peer_proto.specs.declared.work.ObjWork.{ObjWork}
use Rattle.peer_proto.specs.declared.work.ObjWork.TheVariants as works
use Rattle.peer_service.specs.State.{Peer, spec_of, object_size}

-- what a guest may ask

abbrev pub is_vdi_ask : VdiAsk → Bool
is_vdi_ask (Create name spec) = is_name name && is_spec spec
is_vdi_ask (Attach name tag) = is_name name && is_tag tag
is_vdi_ask Close = true
is_vdi_ask (Snapshot tag) = is_name tag
is_vdi_ask (Clone base tag name) = is_name base && (is_name tag && is_name name)
is_vdi_ask (Delete name tag) = is_name name && is_tag tag
is_vdi_ask Check = true

-- what a client without a script may ask

abbrev pub is_aligned : Policy → Kind → ℕ → Bool
is_aligned (Copies copies) kind n = true
is_aligned (Coded d p) Block n = n % BLOCK_BYTES == 0
is_aligned (Coded d p) Inode n = true

abbrev pub makes_whole : ℕ → ObjWork → Bool
makes_whole object_bytes (works.Create oid policy size offset bytes) = size == object_bytes
makes_whole object_bytes (works.Write oid policy offset bytes) = true
makes_whole object_bytes (works.Read oid policy offset size) = true
makes_whole object_bytes (works.ReadAll oid policy size) = true

abbrev pub is_work_by_spec : ObjWork → Option VdiSpec → Bool
is_work_by_spec work None = false
is_work_by_spec work (Some spec) =
    is_same_policy (policy_of work) spec.policy
    && (nat_le (work_offset work + work_size work) (object_size spec (kind_of (oid_of work)))
    && (makes_whole (object_size spec (kind_of (oid_of work))) work
    && (is_aligned (policy_of work) (kind_of (oid_of work)) (work_offset work)
    && is_aligned (policy_of work) (kind_of (oid_of work)) (work_size work))))

abbrev pub is_object_ask : Peer → ObjWork → Bool
is_object_ask peer work = is_work_by_spec work (spec_of peer (oid_of work))

abbrev pub is_entry_ask : NodeId → Entry → Bool
is_entry_ask me (Lock by session name tag) = by.0 == me.0 && session == 0
is_entry_ask me (Unlock by session vid) = by.0 == me.0 && session == 0
is_entry_ask me _ = false

abbrev pub is_guest_ask : Node → Ask → Bool
is_guest_ask node (asks.Disk ask) = is_ask ask
is_guest_ask node (asks.Vdi ask) = is_vdi_ask ask
is_guest_ask node (asks.Object work) = is_object_ask node.peer work
is_guest_ask node (asks.Entry entry) = is_entry_ask node.me entry

abbrev pub may_take_ask : ℕ → ℕ → Ask → Node → Bool
may_take_ask req session ask node =
    has_room_for ask (session_at session node)
    && (not (tree.contains_key node.requests req) && (is_epoch_member node && is_guest_ask node ask))

-- which entries may be read

abbrev pub may_be_first : Entry → Bool
may_be_first (Format opening) = may_open opening
may_be_first _ = false

abbrev pub may_read_entry : List Entry → Entry → Bool
may_read_entry [] entry = may_be_first entry
may_read_entry (first ∷ later) entry = may_append (first ∷ later) entry

abbrev pub may_read_entries : List Entry → List Entry → Bool
may_read_entries before [] = true
may_read_entries before (entry ∷ later) = may_read_entry before entry && may_read_entries (before ++ entry ∷ []) later

-- what is left of a list of entries behind these, if it begins with them
abbrev pub rest_behind : List Entry → List Entry → Option (List Entry)
rest_behind [] entries = Some entries
rest_behind (own ∷ later) [] = None
rest_behind (own ∷ later) (first ∷ rest) = if is_same_entry own first then rest_behind later rest else None

abbrev pub may_come_back_with : List Entry → Node → Bool
may_come_back_with entries node =
    option_map_or (may_read_entries node.peer.entries) (rest_behind node.peer.entries entries) false
    && (nat_lt 1 (epoch_of entries)
    && (nat_lt node.peer.epoch (epoch_of entries) && is_member node.me.0 (members_in entries (epoch_of entries))))

-- what an input must meet, and the numbers that are left

abbrev pub meets : Input → Node → Bool
meets (inputs.Guest req session ask) node = may_take_ask req session ask node
meets (inputs.Request request) node = may_serve node.peer request.ask
meets (inputs.Reply rsp) node = fits_node rsp node
meets (inputs.Lost number) node = node_awaits number node
meets (inputs.LogEntry entry) node = may_read_entry node.peer.entries entry
meets inputs.Put node = has_entry_to_put node
meets inputs.RecoverTick node = may_tick node
meets inputs.RetryTick node = has_work_to_retry node
meets (inputs.Back entries) node = may_come_back_with entries node

abbrev pub may : Input → Node → Bool
may input node = has_numbers node && meets input node
