-- The tests of what an input must meet are true exactly if it is met.
use Rattle.std.proofs.Common.{◌≡◌, ℕ, ◌+◌, ◌%◌, ◌≤◌, ◌==◌, not, Bool, true, false, cond, List, [], ◌∷◌, ◌++◌, length, Option, Some, None, refl, ap, ap₂, sym, subst}
use Rattle.std.specs.Bool.{Decides}
use Rattle.std.specs.Option.{option_map_or}
use Rattle.std.specs.FinMap as tree
use Rattle.std.proofs.lemmas.Bool.Decides.{Decides-eqb, Decides-ltb}
use Rattle.object_id.specs.declared.entry.Entry.{Entry}
use Rattle.object_id.specs.declared.entry.Entry.TheVariants.{Format, Join, Leave, Reweight, Recovered, Reserve, Publish, Lock, Unlock}
use Rattle.object_id.specs.declared.entry.VdiSpec.{VdiSpec}
use Rattle.object_id.specs.declared.policy.Policy.{Policy}
use Rattle.object_id.specs.declared.policy.Policy.TheVariants.{Copies, Coded}
use Rattle.object_id.specs.declared.limits.TheConstants.{BLOCK_BYTES}
use Rattle.object_id.specs.Same.{is_same_entry}
use Rattle.object_id.proofs.SameLemmas.{policies_decided, entries_decided}
use Rattle.epoch_log.specs.Members.{is_member}
use Rattle.epoch_log.specs.Epochs.{epoch_of, members_in}
use Rattle.peer_proto.specs.declared.ask.PeerAsk.{PeerAsk}
use Rattle.peer_proto.specs.declared.ask.PeerAsk.TheVariants as peer_asks
use Rattle.peer_proto.specs.declared.guest.VdiAsk.{VdiAsk}
use Rattle.peer_proto.specs.declared.guest.VdiAsk.TheVariants.{Create, Attach, Close, Snapshot, Clone, Delete, Check}
use Rattle.object_store.specs.Store.{SeenRow, open_row}
use Rattle.peer_service.specs.State.{Peer, spec_of, object_size}
use Rattle.peer_service.specs.Serve.{EndsInside, MayServe, ends_inside, may_serve}
use Rattle.guest_driver.specs.Pieces.{is_ask}
use Rattle.vdi_ops.specs.Entries.{IsVdiAsk}
use Rattle.sheep_node.specs.declared.ask.Ask.{Ask}
use Rattle.sheep_node.specs.declared.ask.Ask.TheVariants as asks
use Rattle.sheep_node.specs.declared.input.Input.{Input}
use Rattle.sheep_node.specs.declared.input.Input.TheVariants as inputs
use Rattle.sheep_node.specs.State.{Node, session_at}
use Rattle.sheep_node.specs.LogReading.{is_epoch_member}
use Rattle.sheep_node.specs.May.{has_numbers, has_room_for, IsGuestAsk, MayGuest, MayBeFirst, MayRead, MayReadAll, MayComeBack, Meets, May}
use Rattle.sheep_node.specs.MayTests as tests
use Rattle.sheep_node.specs.OutsideAsks.{work_offset, work_size, MakesWhole, IsObjectAsk, IsEntryAsk}
use Rattle.object_id.specs.declared.node.NodeId.{NodeId}
use Rattle.object_id.specs.declared.oid.Kind.{Kind}
use Rattle.object_id.specs.declared.oid.Kind.TheVariants.{Block, Inode}
use Rattle.object_id.specs.declared.entry.Entry.TheVariants as entries
use Rattle.object_id.specs.Oid.{kind_of}
use Rattle.gf256.specs.Part.{IsAligned}
use Rattle.peer_proto.specs.Work.{oid_of, policy_of}
use Rattle.peer_proto.specs.declared.work.ObjWork.{ObjWork}
use Rattle.peer_proto.specs.declared.work.ObjWork.TheVariants as works
use Rattle.proof_tools.proofs.Deciding.{itself, always, never, both, said_as, all_three, at_most}
use Rattle.object_id.proofs.TestLemmas.{name_tested, tag_tested, spec_tested}
use Rattle.epoch_log.proofs.AppendTestLemmas.{open_tested, append_tested}

-- ---- what a guest may ask

vdi_ask_tested : (ask : VdiAsk) → Decides (tests.is_vdi_ask ask) (IsVdiAsk ask)
vdi_ask_tested (Create name spec) = both (name_tested name) (spec_tested spec)
vdi_ask_tested (Attach name tag) = both (name_tested name) (tag_tested tag)
vdi_ask_tested Close = always
vdi_ask_tested (Snapshot tag) = name_tested tag
vdi_ask_tested (Clone base tag name) = all_three (name_tested base) (name_tested tag) (name_tested name)
vdi_ask_tested (Delete name tag) = both (name_tested name) (tag_tested tag)
vdi_ask_tested Check = always

-- ---- what a client without a script may ask

node_tested_as : (one other : NodeId) → Decides (one.0 == other.0) (one ≡ other)
node_tested_as one other =
    said_as (λ (is : one.0 ≡ other.0) i. record { 0 = is i }) (λ is. ap (λ (node : NodeId). node.0) is) (Decides-eqb one.0 other.0)

aligned_tested : (policy : Policy) (kind : Kind) (n : ℕ) → Decides (tests.is_aligned policy kind n) (IsAligned policy kind n)
aligned_tested (Copies copies) kind n = always
aligned_tested (Coded d p) Block n = Decides-eqb (n % BLOCK_BYTES) 0
aligned_tested (Coded d p) Inode n = always

whole_tested : (object_bytes : ℕ) (work : ObjWork) → Decides (tests.makes_whole object_bytes work) (MakesWhole object_bytes work)
whole_tested object_bytes (works.Create oid policy size offset bytes) = Decides-eqb size object_bytes
whole_tested object_bytes (works.Write oid policy offset bytes) = always
whole_tested object_bytes (works.Read oid policy offset size) = always
whole_tested object_bytes (works.ReadAll oid policy size) = always

module _ (work : ObjWork) where
  -- what a work on an object of this spec must meet
  abbrev FitsSpec : VdiSpec → Type 0
  FitsSpec spec =
      (policy_of work ≡ spec.policy) × ((work_offset work + work_size work ≤ object_size spec (kind_of (oid_of work)))
      × (MakesWhole (object_size spec (kind_of (oid_of work))) work
      × (IsAligned (policy_of work) (kind_of (oid_of work)) (work_offset work)
      × IsAligned (policy_of work) (kind_of (oid_of work)) (work_size work))))

  fits_tested : (spec : VdiSpec) → Decides (tests.is_work_by_spec work (Some spec)) (FitsSpec spec)
  fits_tested spec =
      both (policies_decided (policy_of work) spec.policy)
      (both (at_most (work_offset work + work_size work) (object_size spec (kind_of (oid_of work))))
      (both (whole_tested (object_size spec (kind_of (oid_of work))) work)
      (both (aligned_tested (policy_of work) (kind_of (oid_of work)) (work_offset work))
      (aligned_tested (policy_of work) (kind_of (oid_of work)) (work_size work)))))

object_ask_tested : (peer : Peer) (work : ObjWork) → Decides (tests.is_object_ask peer work) (IsObjectAsk peer work)
object_ask_tested peer work = by_spec (spec_of peer (oid_of work)) refl
  where
    by_spec : (o : Option VdiSpec) → spec_of peer (oid_of work) ≡ o → Decides (tests.is_work_by_spec work o) (IsObjectAsk peer work)
    by_spec None none = (
      λ is. absurd (cc (is)),
      λ asked. let known = asked.known in absurd (cc (none, known)),
    )
    by_spec (Some spec) is = said_as
        (λ holds. record {
          spec = spec;
          known = is;
          policy = holds.0;
          inside = holds.1.0;
          whole = holds.1.1.0;
          blocks = (holds.1.1.1.0, holds.1.1.1.1);
        })
        (λ asked.
        let known = asked.known in
        let same : asked.spec ≡ spec = cc (known, is) in
        subst (FitsSpec work) same (asked.policy, (asked.inside, (asked.whole, (asked.blocks.0, asked.blocks.1)))))
        (fits_tested work spec)

entry_ask_tested : (me : NodeId) (entry : Entry) → Decides (tests.is_entry_ask me entry) (IsEntryAsk me entry)
entry_ask_tested me (Lock by session name tag) = both (node_tested_as by me) (Decides-eqb session 0)
entry_ask_tested me (Unlock by session vid) = both (node_tested_as by me) (Decides-eqb session 0)
entry_ask_tested me (Format members) = never
entry_ask_tested me (Join node zone vnodes) = never
entry_ask_tested me (Leave node) = never
entry_ask_tested me (Reweight node vnodes) = never
entry_ask_tested me (Recovered node epoch) = never
entry_ask_tested me (Reserve by session name origin) = never
entry_ask_tested me (Publish by vid) = never
entry_ask_tested me (entries.Clone by vid) = never
entry_ask_tested me (entries.Snapshot by old vid) = never
entry_ask_tested me (entries.Delete by session name tag) = never

pub guest_ask_tested : (node : Node) (ask : Ask) → Decides (tests.is_guest_ask node ask) (IsGuestAsk node ask)
guest_ask_tested node (asks.Disk ask) = itself (is_ask ask)
guest_ask_tested node (asks.Vdi ask) = vdi_ask_tested ask
guest_ask_tested node (asks.Object work) = object_ask_tested node.peer work
guest_ask_tested node (asks.Entry entry) = entry_ask_tested node.me entry

guest_tested : (req session : ℕ) (ask : Ask) (node : Node) → Decides (tests.may_take_ask req session ask node) (MayGuest req session ask node)
guest_tested req session ask node =
    said_as (λ holds. record { room = holds.0; number = holds.1.0; member = holds.1.1.0; asked = holds.1.1.1 })
    (λ may. (may.room, (may.number, (may.member, may.asked))))
    (both (itself (has_room_for ask (session_at session node)))
    (both (itself (not (tree.contains_key node.requests req))) (both (itself (is_epoch_member node)) (guest_ask_tested node ask))))

-- ---- which entries may be read

first_tested : (entry : Entry) → Decides (tests.may_be_first entry) (MayBeFirst entry)
first_tested (Format opening) = open_tested opening
first_tested _ = never

pub read_tested : (entries : List Entry) (entry : Entry) → Decides (tests.may_read_entry entries entry) (MayRead entries entry)
read_tested [] entry = first_tested entry
read_tested (first ∷ later) entry = append_tested (first ∷ later) entry

all_read_tested : (before later : List Entry) → Decides (tests.may_read_entries before later) (MayReadAll before later)
all_read_tested before [] = always
all_read_tested before (entry ∷ later) = both (read_tested before entry) (all_read_tested (before ++ entry ∷ []) later)

-- ---- a node comes back

-- the entries begin with these, and go on with ones of which this holds
abbrev GoesOn : (List Entry → Type 0) → List Entry → List Entry → Type 0
GoesOn P own entries = (later : List Entry) × (entries ≡ own ++ later) × P later

rest_tested : (P : List Entry → Type 0) (test : List Entry → Bool) → ((later : List Entry) → Decides (test later) (P later)) → (own entries : List Entry)
    → Decides (option_map_or test (tests.rest_behind own entries) false) (GoesOn P own entries)
rest_tested P test decided [] entries = (
  λ is. (entries, refl, (decided entries).0 is),
  λ goes. (decided entries).1 (subst P (sym goes.1) goes.2),
)
rest_tested P test decided (first ∷ own) [] = (λ is. absurd (cc (is)), λ goes. absurd (cc (goes.1)))
rest_tested P test decided (first ∷ own) (entry ∷ entries) =
    by_same (is_same_entry first entry) (entries_decided first entry) (rest_tested P test decided own entries)
  where
    Rest : Option (List Entry) → Bool
    Rest rest = option_map_or test rest false

    by_same : (b : Bool) → Decides b (first ≡ entry) → Decides (Rest (tests.rest_behind own entries)) (GoesOn P own entries)
        → Decides (Rest (cond b (tests.rest_behind own entries) None)) (GoesOn P (first ∷ own) (entry ∷ entries))
    by_same true same rest = (
      λ is. let (later, goes, holds) = rest.0 is in (later, ap₂ ◌∷◌ (sym (same.0 refl)) goes, holds),
      λ goes. let is : entry ∷ entries ≡ first ∷ (own ++ goes.0) = goes.1 in rest.1 (goes.0, cc (is), goes.2),
    )
    by_same false same rest = (
      λ is. absurd (cc (is)),
      λ goes.
          let is : entry ∷ entries ≡ first ∷ (own ++ goes.0) = goes.1 in
          let head : first ≡ entry = cc (is) in
          let never : false ≡ true = same.1 head in
          absurd (cc (never)),
    )

pub back_tested : (entries : List Entry) (node : Node) → Decides (tests.may_come_back_with entries node) (MayComeBack entries node)
back_tested entries node =
    said_as (λ holds. record {
      later = holds.0.0;
      goes_on = holds.0.1;
      read = holds.0.2;
      above_1 = holds.1.0;
      above_own = holds.1.1.0;
      member = holds.1.1.1;
    })
    (λ may. ((may.later, may.goes_on, may.read), (may.above_1, (may.above_own, may.member))))
    (both (rest_tested (MayReadAll node.peer.entries) (tests.may_read_entries node.peer.entries) (all_read_tested node.peer.entries) node.peer.entries entries)
    (both (Decides-ltb 1 (epoch_of entries))
    (both (Decides-ltb node.peer.epoch (epoch_of entries)) (itself (is_member node.me.0 (members_in entries (epoch_of entries)))))))

-- ---- every input

inside_tested : (end : ℕ) (row : Option SeenRow) → Decides (ends_inside end row) (EndsInside end row)
inside_tested end None = always
inside_tested end (Some row) = at_most end (length row.bytes)

serve_tested : (peer : Peer) (ask : PeerAsk) → Decides (may_serve peer ask) (MayServe peer ask)
serve_tested peer (peer_asks.Create key size offset bytes) = at_most (offset + length bytes) size
serve_tested peer (peer_asks.Write key offset bytes) = inside_tested (offset + length bytes) (open_row peer.rows key)
serve_tested peer (peer_asks.Read key offset size) = inside_tested (offset + size) (open_row peer.rows key)
serve_tested peer peer_asks.List = always
serve_tested peer (peer_asks.RecoverRead oid level) = always

pub met_tested : (input : Input) (node : Node) → Decides (tests.meets input node) (Meets input node)
met_tested (inputs.Guest req session ask) node = guest_tested req session ask node
met_tested (inputs.Request request) node = serve_tested node.peer request.ask
met_tested (inputs.Reply rsp) node = itself (tests.meets (inputs.Reply rsp) node)
met_tested (inputs.Lost number) node = itself (tests.meets (inputs.Lost number) node)
met_tested (inputs.LogEntry entry) node = read_tested node.peer.entries entry
met_tested inputs.Put node = itself (tests.meets inputs.Put node)
met_tested inputs.RecoverTick node = itself (tests.meets inputs.RecoverTick node)
met_tested inputs.RetryTick node = itself (tests.meets inputs.RetryTick node)
met_tested (inputs.Back entries) node = back_tested entries node

pub may_tested : (input : Input) (node : Node) → Decides (tests.may input node) (May input node)
may_tested input node =
    said_as (λ holds. record { numbers = holds.0; condition = holds.1 }) (λ may. (may.numbers, may.condition))
    (both (itself (has_numbers node)) (met_tested input node))
