-- What the steps of the log leave of rows.
use Rattle.std.proofs.Common.{◌≡◌, ℕ, ◌+◌, ◌-◌, ◌≤◌, Bool, true, false, not, cond, ◌&&◌, List, [], ◌∷◌, ◌++◌, map, filter, Option, Some, None, Result, Ok, Err, refl, ap, ap₂, sym, ◌∙◌, subst, arith}
use Rattle.std.specs.List.{AllByRecursion}
use Rattle.std.specs.Ordering.{nat_cmp}
use Rattle.std.specs.BTreeMap.{is_at}
use Rattle.std.specs.FinMap as tree
use Rattle.std.proofs.Math.Bool.{and-false}
use Rattle.object_id.specs.declared.entry.Entry.{Entry}
use Rattle.object_id.specs.declared.node.NodeId.{NodeId}
use Rattle.object_id.specs.declared.policy.Policy.{Policy}
use Rattle.object_id.specs.Piece.{laid_over}
use Rattle.object_id.specs.Oid.{vid_of}
use Rattle.vdi_directory.proofs.DeadLemmas.{dead-stays}
use Rattle.vdi_directory.proofs.DeadTests.{test-finds-dead}
use Rattle.epoch_log.specs.Epochs.{epoch_of, settled_of}
use Rattle.object_store.specs.declared.fault.StoreFault.{StoreFault}
use Rattle.object_store.specs.declared.key.Key.{Key}
use Rattle.object_id.specs.Fields.{zeros}
use Rattle.object_store.specs.Rows.{is_open, is_kept, closed, closed_all, advanced_row, advanced, purged, has_ended_below, OpenFrom}
use Rattle.object_store.specs.Store.{AllRows, SeenRow, rows_of, create_in, write_at, each, OpenUpTo}
use Rattle.object_store.specs.Calls.{PurgeBelow, Has}
use Rattle.object_store.proofs.RowLemmas.{closed-same, advanced-same}
use Rattle.object_store.proofs.StoreLaws.{rows_of-insert, rows_of-each, OpenFrom-created, OpenUpTo-write, OpenUpTo-close_all, OpenUpTo-purge, OpenUpTo-later}
use Rattle.object_store.proofs.CallLaws.{row_stays}
use Rattle.peer_proto.specs.declared.ask.PeerAsk.{PeerAsk}
use Rattle.peer_proto.specs.declared.ask.PeerAsk.TheVariants as asks
use Rattle.peer_proto.specs.declared.ask.PeerReq.{PeerReq}
use Rattle.peer_proto.specs.declared.say.Refusal.{Refusal}
use Rattle.peer_service.specs.State.{Peer, is_dead_object, is_waiting, with_entry}
use Rattle.peer_service.specs.Pending.{row_made, row_put}
use Rattle.peer_service.specs.Fence.{epoch_refusal}
use Rattle.peer_service.specs.Serve.{peer_write_step, step_if_recovered, own_epoch_step, step_behind_fence, peer_step}
use Rattle.peer_service.specs.Epochs.{stays_open, row_entering, rows_entering, peer_in_next_epoch, AreKept, peer_settled_to}
use Rattle.peer_service.specs.LogReading.{kills_object, rows_but, without_objects, read_entry}
use Rattle.peer_service.specs.Back.{closed_at_end, come_back}
use Rattle.peer_service.proofs.RowLemmas.{none_open_left, open-kept_or_closed, open-purged, OpenFrom-map, OpenFrom-left, OpenUpTo-change, each-alike}
use Rattle.peer_service.proofs.ServeLemmas.{read_changes_nothing}
use Rattle.peer_service.proofs.StepLemmas.{waits_no_more, waits_on}

-- ---- the next epoch

pub entered_rows : (me : NodeId) (targets : ℕ → ℕ → Policy → List NodeId) (peer : Peer) (oid : ℕ)
    → rows_of (peer_in_next_epoch me targets peer).rows oid ≡ map (row_entering me targets peer oid) (rows_of peer.rows oid)
unfolding peer_in_next_epoch
entered_rows me targets peer oid = rows_of-each (rows_entering me targets peer) peer.rows oid refl

pub entered_open : (me : NodeId) (targets : ℕ → ℕ → Policy → List NodeId) (peer : Peer) (oid : ℕ)
    → filter is_open (rows_of (peer_in_next_epoch me targets peer).rows oid)
    ≡ filter (λ row. is_open row && stays_open me targets peer oid row.index) (rows_of peer.rows oid)
entered_open me targets peer oid =
    ap (filter is_open) (entered_rows me targets peer oid) ∙ open-kept_or_closed (stays_open me targets peer oid) peer.epoch (rows_of peer.rows oid)

-- a row that is kept exactly where it stays is advanced as it enters
row_advanced : (keeps : List Key) (oid last : ℕ) (stays : ℕ → Bool) (row : SeenRow)
    → (is_open row ≡ true → is_kept keeps oid row.index ≡ stays row.index)
    → advanced_row keeps (last + 1) oid row ≡ cond (stays row.index) row (closed last row)
row_advanced keeps oid last stays row same = go (is_open row) refl
  where
    go : (b : Bool) → is_open row ≡ b → advanced_row keeps (last + 1) oid row ≡ cond (stays row.index) row (closed last row)
    go true is =
        let before : last + 1 - 1 ≡ last = omega arith in
        ap₂ (λ (k : Bool) (n : ℕ). cond k row (closed n row)) (same is) before
    go false is = advanced-same keeps (last + 1) oid row is ∙ sym (either (stays row.index))
      where
        either : (k : Bool) → cond k row (closed last row) ≡ row
        either true = refl
        either false = closed-same last row is

rows_advanced : (keeps : List Key) (oid last : ℕ) (stays : ℕ → Bool) (rows : List SeenRow)
    → AllByRecursion (λ (row : SeenRow). is_open row ≡ true → is_kept keeps oid row.index ≡ stays row.index) rows
    → advanced keeps (last + 1) oid rows ≡ map (λ (row : SeenRow). cond (stays row.index) row (closed last row)) rows
rows_advanced keeps oid last stays [] same = refl
rows_advanced keeps oid last stays (row ∷ rows) same =
    ap₂ (λ (r : SeenRow) (rs : List SeenRow). r ∷ rs) (row_advanced keeps oid last stays row same.0) (rows_advanced keeps oid last stays rows same.1)

pub entered_call : (keeps : List Key) (me : NodeId) (targets : ℕ → ℕ → Policy → List NodeId) (peer : Peer) → AreKept keeps me targets peer
    → each (advanced keeps (peer.epoch + 1)) peer.rows ≡ (peer_in_next_epoch me targets peer).rows
unfolding peer_in_next_epoch
entered_call keeps me targets peer kept =
    each-alike (advanced keeps (peer.epoch + 1)) (rows_entering me targets peer) peer.rows (λ q. refl)
    (λ q. rows_advanced keeps q peer.epoch (stays_open me targets peer q) (rows_of peer.rows q) (kept q))

-- ---- settling

pub settled_open : (settled : ℕ) (peer : Peer) (oid : ℕ)
    → filter is_open (rows_of (peer_settled_to settled peer).rows oid) ≡ filter is_open (rows_of peer.rows oid)
unfolding peer_settled_to
settled_open settled peer oid =
    ap (filter is_open) (rows_of-each (λ q. purged settled) peer.rows oid refl) ∙ open-purged settled (rows_of peer.rows oid)

pub settled_stays : (settled : ℕ) (peer : Peer) (oid : ℕ) (row : SeenRow) → has_ended_below settled row.to ≡ false
    → Has row (rows_of peer.rows oid) → Has row (rows_of (peer_settled_to settled peer).rows oid)
unfolding peer_settled_to
settled_stays settled peer oid row late had = row_stays peer.rows (PurgeBelow settled) oid row late had

-- ---- the dead

pub but_none : (goes : ℕ → Bool) (oid : ℕ) → rows_but goes oid [] ≡ []
but_none goes oid = go (goes oid)
  where
    nothing : List SeenRow
    nothing = []

    go : (b : Bool) → cond b nothing nothing ≡ nothing
    go true = refl
    go false = refl

pub read_rows : (entry : Entry) (peer : Peer) (oid : ℕ)
    → rows_of (read_entry entry peer).rows oid ≡ cond (kills_object entry peer oid) [] (rows_of peer.rows oid)
unfolding read_entry without_objects
read_rows entry peer oid = rows_of-each (rows_but (kills_object entry peer)) peer.rows oid (but_none (kills_object entry peer) oid)

pub read_goes : (entry : Entry) (peer : Peer) (oid : ℕ) → kills_object entry peer oid ≡ true → rows_of (read_entry entry peer).rows oid ≡ []
read_goes entry peer oid is = read_rows entry peer oid ∙ ap (λ b. cond b [] (rows_of peer.rows oid)) is

pub read_stays : (entry : Entry) (peer : Peer) (oid : ℕ) → kills_object entry peer oid ≡ false
    → rows_of (read_entry entry peer).rows oid ≡ rows_of peer.rows oid
read_stays entry peer oid is = read_rows entry peer oid ∙ ap (λ b. cond b [] (rows_of peer.rows oid)) is

pub read_pending : (entry : Entry) (peer : Peer) (oid : ℕ) (oids : List ℕ) → peer.pending ≡ Some oids → kills_object entry peer oid ≡ true
    → is_waiting (read_entry entry peer) oid ≡ false
unfolding read_entry without_objects
read_pending entry peer oid oids pending is = waits_no_more (kills_object entry peer) oid peer.pending oids pending is

pub read_still_pending : (entry : Entry) (peer : Peer) (oid : ℕ) → kills_object entry peer oid ≡ false
    → is_waiting (read_entry entry peer) oid ≡ is_waiting peer oid
unfolding read_entry without_objects
read_still_pending entry peer oid is = waits_on (kills_object entry peer) oid peer.pending is

pub dead_before : (entry : Entry) (peer : Peer) (oid : ℕ) → is_dead_object peer oid ≡ true → kills_object entry peer oid ≡ false
dead_before entry peer oid is = ap (λ b. is_dead_object (with_entry entry peer) oid && not b) is ∙ and-false (is_dead_object (with_entry entry peer) oid)

pub dead_for_good : (entry : Entry) (peer : Peer) (oid : ℕ) → is_dead_object peer oid ≡ true → is_dead_object (read_entry entry peer) oid ≡ true
unfolding read_entry without_objects
dead_for_good entry peer oid is =
    (test-finds-dead (peer.entries ++ entry ∷ []) (vid_of oid)).1
    (dead-stays peer.entries (entry ∷ []) (vid_of oid) ((test-finds-dead peer.entries (vid_of oid)).0 is))

-- ---- coming back

pub back_rows : (entries : List Entry) (peer : Peer) (oid : ℕ) → rows_of (come_back entries peer).rows oid
    ≡ cond (is_dead_object (come_back entries peer) oid) [] (purged (settled_of entries) (closed_all peer.epoch (rows_of peer.rows oid)))
unfolding come_back without_objects peer_settled_to closed_at_end
back_rows entries peer oid =
    let dead : ℕ → Bool = is_dead_object (come_back entries peer) in
    let shut : AllRows = each (λ q. closed_all peer.epoch) peer.rows in
    rows_of-each (rows_but dead) (each (λ q. purged (settled_of entries)) shut) oid (but_none dead oid)
    ∙ ap (rows_but dead oid) (rows_of-each (λ q. purged (settled_of entries)) shut oid refl)
    ∙ ap (λ (rows : List SeenRow). rows_but dead oid (purged (settled_of entries) rows)) (rows_of-each (λ q. closed_all peer.epoch) peer.rows oid refl)

pub back_open : (entries : List Entry) (peer : Peer) (oid : ℕ) → filter is_open (rows_of (come_back entries peer).rows oid) ≡ []
back_open entries peer oid =
    ap (filter is_open) (back_rows entries peer oid)
    ∙ none_open_left (is_dead_object (come_back entries peer) oid) (settled_of entries) peer.epoch (rows_of peer.rows oid)

-- ---- from which epochs open rows are

put_up_to : (last : ℕ) (all : AllRows) (oid : ℕ) (rows : List SeenRow) → OpenUpTo last all → OpenFrom (λ from. from ≤ last) rows
    → OpenUpTo last (tree.insert all oid rows)
put_up_to last all oid rows had new q =
    subst (OpenFrom (λ from. from ≤ last)) (sym (rows_of-insert all oid rows q)) (go (is_at (nat_cmp q) oid))
  where
    go : (b : Bool) → OpenFrom (λ from. from ≤ last) (cond b rows (rows_of all q))
    go true = new
    go false = had q

pub made_up_to : (key : Key) (size offset : ℕ) (bytes : List ℕ) (peer : Peer) → OpenUpTo peer.epoch peer.rows
    → OpenUpTo peer.epoch (row_made key size offset bytes peer).rows
made_up_to key size offset bytes peer had =
    let itself : peer.epoch ≤ peer.epoch = omega arith in
    put_up_to peer.epoch peer.rows key.oid (create_in key.index peer.epoch size offset bytes (rows_of peer.rows key.oid)) had
    (OpenFrom-created (λ from. from ≤ peer.epoch) key.index peer.epoch (laid_over (zeros size) offset bytes) (rows_of peer.rows key.oid) itself)

abbrev IsUpTo : Peer → Type 0
IsUpTo peer = OpenUpTo peer.epoch peer.rows

answered_up_to : (ask : PeerAsk) (peer : Peer) → IsUpTo peer → IsUpTo (own_epoch_step ask peer).peer
unfolding own_epoch_step
answered_up_to (asks.Create key size offset bytes) peer had = made_up_to key size offset bytes peer had
answered_up_to (asks.Write key offset bytes) peer had = go (is_waiting peer key.oid) (write_at peer.rows key offset bytes) refl
  where
    go : (b : Bool) (r : Result AllRows StoreFault) → write_at peer.rows key offset bytes ≡ r → IsUpTo (step_if_recovered b peer (peer_write_step r peer)).peer
    go true r is = had
    go false (Ok all) is = OpenUpTo-write peer.epoch peer.rows all key offset bytes had is
    go false (Err fault) is = had
answered_up_to (asks.Read key offset size) peer had = subst IsUpTo (sym (read_changes_nothing peer key offset size)) had
answered_up_to asks.List peer had = had
answered_up_to (asks.RecoverRead oid level) peer had = had

pub served_up_to : (peer : Peer) (request : PeerReq) → IsUpTo peer → IsUpTo (peer_step peer request).peer
unfolding peer_step
served_up_to peer request had = go (epoch_refusal peer.epoch request.epoch.0)
  where
    go : (r : Option Refusal) → IsUpTo (step_behind_fence r request.ask peer).peer
    go None = answered_up_to request.ask peer had
    go (Some refusal) = had

pub put_row_up_to : (key : Key) (size : ℕ) (bytes : List ℕ) (peer : Peer) → IsUpTo peer → IsUpTo (row_put key size bytes peer)
put_row_up_to key size bytes peer had = made_up_to key size 0 bytes peer had

pub entered_up_to : (me : NodeId) (targets : ℕ → ℕ → Policy → List NodeId) (peer : Peer) → IsUpTo peer → IsUpTo (peer_in_next_epoch me targets peer)
unfolding peer_in_next_epoch
entered_up_to me targets peer had =
    let later : peer.epoch ≤ peer.epoch + 1 = omega arith in
    OpenUpTo-change (peer.epoch + 1) (rows_entering me targets peer) (λ q. refl)
    (λ q rows. OpenFrom-map (λ from. from ≤ peer.epoch + 1) (stays_open me targets peer q) peer.epoch rows) peer.rows
    (OpenUpTo-later peer.epoch (peer.epoch + 1) peer.rows later had)

pub settled_up_to : (settled : ℕ) (peer : Peer) → IsUpTo peer → IsUpTo (peer_settled_to settled peer)
unfolding peer_settled_to
settled_up_to settled peer had = OpenUpTo-purge peer.epoch peer.rows settled had

pub without_up_to : (goes : ℕ → Bool) (last : ℕ) (all : AllRows) → OpenUpTo last all → OpenUpTo last (each (rows_but goes) all)
without_up_to goes last all had =
    OpenUpTo-change last (rows_but goes) (but_none goes) (λ q rows. OpenFrom-left (λ from. from ≤ last) (goes q) rows) all had

pub read_up_to : (entry : Entry) (peer : Peer) → IsUpTo peer → IsUpTo (read_entry entry peer)
unfolding read_entry without_objects
read_up_to entry peer had = without_up_to (kills_object entry peer) peer.epoch peer.rows had

pub back_up_to : (entries : List Entry) (peer : Peer) → IsUpTo (come_back entries peer)
unfolding come_back without_objects peer_settled_to closed_at_end
back_up_to entries peer =
    without_up_to (is_dead_object (come_back entries peer)) (epoch_of entries) (each (λ q. purged (settled_of entries)) (each (λ q. closed_all peer.epoch) peer.rows))
    (OpenUpTo-purge (epoch_of entries) (each (λ q. closed_all peer.epoch) peer.rows) (settled_of entries)
    (OpenUpTo-close_all (epoch_of entries) peer.rows peer.epoch))
