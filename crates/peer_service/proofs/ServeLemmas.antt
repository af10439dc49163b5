-- What an answer is, and what it leaves.
use Rattle.std.proofs.Common.{◌≡◌, ◌≢◌, ◌↔◌, ℕ, ◌+◌, ◌<◌, ◌≤◌, Bool, true, false, cond, ◌&&◌, nat_eq, nat_le, nat_lt, List, [], ◌∷◌, length, Option, Some, None, Result, Ok, Err, refl, ap, sym, ◌∙◌, subst, arith}
use Rattle.std.proofs.lemmas.Bool.Decides.{nat_tests}
use Rattle.std.proofs.lemmas.List.{length-replicate}
use Rattle.std.specs.Option.{option_map}
use Rattle.std.specs.Result.{result_unwrap_or}
use Rattle.std.specs.FinMap as tree
use Rattle.std.proofs.lemmas.Bool.{and_right}
use Rattle.object_id.specs.Piece.{laid_over}
use Rattle.object_id.specs.declared.node.Epoch.{Epoch}
use Rattle.object_store.specs.declared.fault.StoreFault.{StoreFault}
use Rattle.object_store.specs.declared.fault.StoreFault.TheVariants.{OutOfObject}
use Rattle.object_store.specs.declared.key.Key.{Key}
use Rattle.object_id.specs.Fields.{zeros}
use Rattle.object_store.specs.Bytes.{piece_at}
use Rattle.object_store.specs.Rows.{is_open, is_open_at, open_at, changed}
use Rattle.object_store.specs.Store.{AllRows, SeenRow, rows_of, open_row, value_within, on_open, write_in, create_in, create_at, write_at, read_at, copy_at}
use Rattle.object_store.specs.Calls.{Create, Write, Has}
use Rattle.object_store.proofs.StoreLaws.{rows_of-insert_same, rows_of-insert_other}
use Rattle.object_store.proofs.CallLaws.{length-laid_over, row_stays}
use Rattle.peer_proto.specs.declared.ask.PeerAsk.{PeerAsk}
use Rattle.peer_proto.specs.declared.ask.PeerAsk.TheVariants as asks
use Rattle.peer_proto.specs.declared.ask.PeerReq.{PeerReq}
use Rattle.peer_proto.specs.declared.say.Refusal.{Refusal}
use Rattle.peer_proto.specs.declared.say.Refusal.TheVariants as refusals
use Rattle.peer_proto.specs.declared.say.PeerSay.TheVariants as says
use Rattle.peer_service.specs.State.{Peer, is_waiting}
use Rattle.peer_service.specs.Fence.{epoch_refusal, ok_unless_refused, admission}
use Rattle.peer_service.specs.Serve.{PeerStep, peer_refusal_step, peer_say_step, piece_or_refusal, peer_write_step, row_or_none, step_if_recovered, own_epoch_step, step_behind_fence, peer_step, EndsInside, MayServe}
use Rattle.peer_service.proofs.RowLemmas.{piece_at-laid_over, open_at-created}

-- ---- the fence

epoch_refusal-older : (own requested : ℕ) → requested < own → epoch_refusal own requested ≡ Some (refusals.OldEpoch (record { 0 = own }))
epoch_refusal-older own requested below =
    let is : nat_lt requested own ≡ true = grind (arith, nat_tests) in
    ap (λ b. cond b (Some (refusals.OldEpoch (record { 0 = own }))) (cond (nat_lt own requested) (Some (refusals.NewEpoch (record { 0 = own }))) None)) is

epoch_refusal-newer : (own requested : ℕ) → own < requested → epoch_refusal own requested ≡ Some (refusals.NewEpoch (record { 0 = own }))
epoch_refusal-newer own requested above =
    let no : nat_lt requested own ≡ false = grind (arith, nat_tests) in
    let is : nat_lt own requested ≡ true = grind (arith, nat_tests) in
    ap (λ b. cond b (Some (refusals.OldEpoch (record { 0 = own }))) (cond (nat_lt own requested) (Some (refusals.NewEpoch (record { 0 = own }))) None)) no
    ∙ ap (λ b. cond b (Some (refusals.NewEpoch (record { 0 = own }))) None) is

epoch_refusal-own : (own requested : ℕ) → requested ≡ own → epoch_refusal own requested ≡ None
epoch_refusal-own own requested same =
    let no : nat_lt requested own ≡ false = grind (arith, nat_tests, same) in
    let nor : nat_lt own requested ≡ false = grind (arith, nat_tests, same) in
    ap (λ b. cond b (Some (refusals.OldEpoch (record { 0 = own }))) (cond (nat_lt own requested) (Some (refusals.NewEpoch (record { 0 = own }))) None)) no
    ∙ ap (λ b. cond b (Some (refusals.NewEpoch (record { 0 = own }))) None) nor

pub peer_step-older : (peer : Peer) (request : PeerReq) → request.epoch.0 < peer.epoch
    → peer_step peer request ≡ peer_refusal_step (refusals.OldEpoch (record { 0 = peer.epoch })) peer
unfolding peer_step
peer_step-older peer request below = ap (λ (r : Option Refusal). step_behind_fence r request.ask peer) (epoch_refusal-older peer.epoch request.epoch.0 below)

pub peer_step-newer : (peer : Peer) (request : PeerReq) → peer.epoch < request.epoch.0
    → peer_step peer request ≡ peer_refusal_step (refusals.NewEpoch (record { 0 = peer.epoch })) peer
unfolding peer_step
peer_step-newer peer request above = ap (λ (r : Option Refusal). step_behind_fence r request.ask peer) (epoch_refusal-newer peer.epoch request.epoch.0 above)

pub peer_step-own : (peer : Peer) (request : PeerReq) → request.epoch.0 ≡ peer.epoch → peer_step peer request ≡ own_epoch_step request.ask peer
unfolding peer_step
peer_step-own peer request same = ap (λ (r : Option Refusal). step_behind_fence r request.ask peer) (epoch_refusal-own peer.epoch request.epoch.0 same)

pub admission-own : (own requested : ℕ) → (admission own requested ≡ Ok (tt {0})) ↔ (requested ≡ own)
admission-own own requested = (go (nat_lt requested own) refl (nat_lt own requested) refl, λ same. ap ok_unless_refused (epoch_refusal-own own requested same))
  where
    go : (a : Bool) → nat_lt requested own ≡ a → (b : Bool) → nat_lt own requested ≡ b
        → ok_unless_refused (cond (nat_lt requested own) (Some (refusals.OldEpoch (record { 0 = own }))) (cond (nat_lt own requested) (Some (refusals.NewEpoch (record { 0 = own }))) None)) ≡ Ok (tt {0})
        → requested ≡ own
    go true is b other e =
        absurd (cc (sym (ap (λ t. ok_unless_refused (cond t (Some (refusals.OldEpoch (record { 0 = own }))) (cond (nat_lt own requested) (Some (refusals.NewEpoch (record { 0 = own }))) None))) is) ∙ e))
    go false is true other e =
        absurd (cc (sym (ap (λ t. ok_unless_refused (cond t (Some (refusals.OldEpoch (record { 0 = own }))) (cond (nat_lt own requested) (Some (refusals.NewEpoch (record { 0 = own }))) None))) is
        ∙ ap (λ t. ok_unless_refused (cond t (Some (refusals.NewEpoch (record { 0 = own }))) None)) other) ∙ e))
    go false is false other e = grind (arith, nat_tests)

-- ---- refusals

pub read_changes_nothing : (peer : Peer) (key : Key) (offset size : ℕ) → (own_epoch_step (asks.Read key offset size) peer).peer ≡ peer
unfolding own_epoch_step
read_changes_nothing peer key offset size = go (is_waiting peer key.oid)
  where
    go : (b : Bool) → (step_if_recovered b peer (peer_say_step (piece_or_refusal (read_at peer.rows key offset size)) peer)).peer ≡ peer
    go true = refl
    go false = refl

written_refusal : (refusal : Refusal) (peer : Peer) (waiting : Bool) (rows : Result AllRows StoreFault)
    → (step_if_recovered waiting peer (peer_write_step rows peer)).say ≡ says.Refused refusal → (step_if_recovered waiting peer (peer_write_step rows peer)).peer ≡ peer
written_refusal refusal peer true rows is = refl
written_refusal refusal peer false (Ok rows) is = absurd (cc (is))
written_refusal refusal peer false (Err fault) is = refl

answered_refusal : (refusal : Refusal) (ask : PeerAsk) (peer : Peer) → (own_epoch_step ask peer).say ≡ says.Refused refusal → (own_epoch_step ask peer).peer ≡ peer
unfolding own_epoch_step
answered_refusal refusal (asks.Create key size offset bytes) peer is = absurd (cc (is))
answered_refusal refusal (asks.Write key offset bytes) peer is =
    written_refusal refusal peer (is_waiting peer key.oid) (write_at peer.rows key offset bytes) is
answered_refusal refusal (asks.Read key offset size) peer is = read_changes_nothing peer key offset size
answered_refusal refusal asks.List peer is = refl
answered_refusal refusal (asks.RecoverRead oid level) peer is = refl

pub served_refusal : (peer : Peer) (request : PeerReq) (refusal : Refusal) → (peer_step peer request).say ≡ says.Refused refusal
    → (peer_step peer request).peer ≡ peer
unfolding peer_step
served_refusal peer request refusal = go (epoch_refusal peer.epoch request.epoch.0)
  where
    go : (r : Option Refusal) → (step_behind_fence r request.ask peer).say ≡ says.Refused refusal → (step_behind_fence r request.ask peer).peer ≡ peer
    go None is = answered_refusal refusal request.ask peer is
    go (Some r) is = refl

-- ---- a list, and a row

pub list_told : (peer : Peer) (request : PeerReq) → request.epoch.0 ≡ peer.epoch → request.ask ≡ asks.List
    → (peer_step peer request).say ≡ says.Objects (tree.keys peer.rows)
unfolding own_epoch_step
list_told peer request same is =
    ap (λ (s : PeerStep). s.say) (peer_step-own peer request same) ∙ ap (λ (ask : PeerAsk). (own_epoch_step ask peer).say) is

pub row_told : (peer : Peer) (request : PeerReq) (oid : ℕ) (level : Epoch) → request.epoch.0 ≡ peer.epoch
    → request.ask ≡ asks.RecoverRead oid level → (peer_step peer request).say ≡ row_or_none (copy_at peer.rows oid level.0)
unfolding own_epoch_step
row_told peer request oid level same is =
    ap (λ (s : PeerStep). s.say) (peer_step-own peer request same) ∙ ap (λ (ask : PeerAsk). (own_epoch_step ask peer).say) is

-- ---- a create

pub create_row : (peer : Peer) (key : Key) (size offset : ℕ) (bytes : List ℕ)
    → open_row (own_epoch_step (asks.Create key size offset bytes) peer).peer.rows key
    ≡ Some (record { index = key.index; from = record { 0 = peer.epoch }; to = None; bytes = laid_over (zeros size) offset bytes })
unfolding own_epoch_step
create_row peer key size offset bytes =
    ap (open_at key.index) (rows_of-insert_same peer.rows key.oid (create_in key.index peer.epoch size offset bytes (rows_of peer.rows key.oid)))
    ∙ open_at-created key.index peer.epoch (laid_over (zeros size) offset bytes) (rows_of peer.rows key.oid)

inside : {A : Type 0} (end size : ℕ) (there : A) → end ≤ size → value_within end size there ≡ Ok there
inside end size there ends =
    let is : nat_le end size ≡ true = grind (arith, nat_tests) in
    ap (λ b. cond b (Ok there) (Err OutOfObject)) is

pub create_call : (peer : Peer) (key : Key) (size offset : ℕ) (bytes : List ℕ) → offset + length bytes ≤ size
    → create_at peer.rows key peer.epoch size offset bytes ≡ Ok (own_epoch_step (asks.Create key size offset bytes) peer).peer.rows
unfolding own_epoch_step
create_call peer key size offset bytes ends =
    inside (offset + length bytes) size (tree.insert peer.rows key.oid (create_in key.index peer.epoch size offset bytes (rows_of peer.rows key.oid))) ends

given : List ℕ → Result (List ℕ) StoreFault
given piece = Ok piece

pub create_read : (peer : Peer) (key : Key) (size offset : ℕ) (bytes : List ℕ) → offset + length bytes ≤ size
    → read_at (own_epoch_step (asks.Create key size offset bytes) peer).peer.rows key offset (length bytes) ≡ Ok bytes
unfolding given
create_read peer key size offset bytes ends =
    let whole : length (zeros size) ≡ size = length-replicate size 0 in
    let fits : offset + length bytes ≤ length (zeros size) = omega (arith, whole) in
    let long : length (laid_over (zeros size) offset bytes) ≡ length (zeros size) = length-laid_over (zeros size) offset bytes fits in
    ap (λ (o : Option SeenRow). on_open (offset + length bytes) o (λ row. piece_at row.bytes offset (length bytes))) (create_row peer key size offset bytes)
    ∙ inside (offset + length bytes) (length (laid_over (zeros size) offset bytes)) (piece_at (laid_over (zeros size) offset bytes) offset (length bytes)) (omega (arith, long))
    ∙ ap given (piece_at-laid_over (zeros size) offset bytes fits)

pub create_others : (peer : Peer) (key : Key) (size offset : ℕ) (bytes : List ℕ) (oid : ℕ) → oid ≢ key.oid
    → rows_of (own_epoch_step (asks.Create key size offset bytes) peer).peer.rows oid ≡ rows_of peer.rows oid
unfolding own_epoch_step
create_others peer key size offset bytes oid apart =
    rows_of-insert_other peer.rows key.oid (create_in key.index peer.epoch size offset bytes (rows_of peer.rows key.oid)) oid apart

pub create_closed : (peer : Peer) (key : Key) (size offset : ℕ) (bytes : List ℕ) (row : SeenRow) → offset + length bytes ≤ size
    → is_open row ≡ false → Has row (rows_of peer.rows key.oid)
    → Has row (rows_of (own_epoch_step (asks.Create key size offset bytes) peer).peer.rows key.oid)
create_closed peer key size offset bytes row ends shut had =
    let untouched : (nat_eq key.oid key.oid && is_open row) ≡ false = and_right (nat_eq key.oid key.oid) (is_open row) shut in
    subst (λ (all : AllRows). Has row (rows_of all key.oid))
    (ap (λ (r : Result AllRows StoreFault). result_unwrap_or r peer.rows) (create_call peer key size offset bytes ends))
    (row_stays peer.rows (Create key peer.epoch size offset bytes) key.oid row untouched had)

-- ---- a write

-- the row that a write changes
laid : (List ℕ → List ℕ) → SeenRow → SeenRow
laid change row = record row { bytes = change row.bytes }

open-changed : (i : ℕ) (change : List ℕ → List ℕ) (rows : List SeenRow)
    → open_at i (changed (is_open_at i) change rows) ≡ option_map (laid change) (open_at i rows)
unfolding laid
open-changed i change [] = refl
open-changed i change (row ∷ rows) = go (is_open_at i row) refl (open-changed i change rows)
  where
    go : (b : Bool) → is_open_at i row ≡ b → open_at i (changed (is_open_at i) change rows) ≡ option_map (laid change) (open_at i rows)
        → open_at i (cond (is_open_at i row) (laid change row ∷ rows) (row ∷ changed (is_open_at i) change rows))
        ≡ option_map (laid change) (cond (is_open_at i row) (Some row) (open_at i rows))
    go true is rest =
        ap (λ b. open_at i (cond b (laid change row ∷ rows) (row ∷ changed (is_open_at i) change rows))) is
        ∙ ap (λ b. cond b (Some (laid change row)) (open_at i rows)) is
        ∙ sym (ap (λ b. option_map (laid change) (cond b (Some row) (open_at i rows))) is)
    go false is rest =
        ap (λ b. open_at i (cond b (laid change row ∷ rows) (row ∷ changed (is_open_at i) change rows))) is
        ∙ ap (λ b. cond b (Some row) (open_at i (changed (is_open_at i) change rows))) is ∙ rest
        ∙ sym (ap (λ b. option_map (laid change) (cond b (Some row) (open_at i rows))) is)

-- the rows once the piece is laid over the open row of the key
abbrev pub rows_written : Peer → Key → ℕ → List ℕ → AllRows
rows_written peer key offset bytes = tree.insert peer.rows key.oid (write_in key.index offset bytes (rows_of peer.rows key.oid))

pub write_made : (peer : Peer) (key : Key) (offset : ℕ) (bytes : List ℕ) (row : SeenRow) → is_waiting peer key.oid ≡ false
    → open_row peer.rows key ≡ Some row → offset + length bytes ≤ length row.bytes
    → own_epoch_step (asks.Write key offset bytes) peer ≡ record { peer = record peer { rows = rows_written peer key offset bytes }; say = says.Success }
unfolding own_epoch_step
write_made peer key offset bytes row recovered opened ends =
    ap (λ b. step_if_recovered b peer (peer_write_step (write_at peer.rows key offset bytes) peer)) recovered
    ∙ ap (λ (o : Option SeenRow). peer_write_step (on_open (offset + length bytes) o (λ r. rows_written peer key offset bytes)) peer) opened
    ∙ ap (λ (r : Result AllRows StoreFault). peer_write_step r peer) (inside (offset + length bytes) (length row.bytes) (rows_written peer key offset bytes) ends)

pub write_row : (peer : Peer) (key : Key) (offset : ℕ) (bytes : List ℕ) (row : SeenRow) → is_waiting peer key.oid ≡ false
    → open_row peer.rows key ≡ Some row → MayServe peer (asks.Write key offset bytes)
    → ((own_epoch_step (asks.Write key offset bytes) peer).say ≡ says.Success)
    × (open_row (own_epoch_step (asks.Write key offset bytes) peer).peer.rows key ≡ Some (record row { bytes = laid_over row.bytes offset bytes }))
unfolding laid
write_row peer key offset bytes row recovered opened may =
    let made = write_made peer key offset bytes row recovered opened (subst (EndsInside (offset + length bytes)) opened may) in (
      ap (λ (s : PeerStep). s.say) made,
      ap (λ (s : PeerStep). open_row s.peer.rows key) made
          ∙ ap (open_at key.index) (rows_of-insert_same peer.rows key.oid (write_in key.index offset bytes (rows_of peer.rows key.oid)))
          ∙ open-changed key.index (λ old. laid_over old offset bytes) (rows_of peer.rows key.oid)
          ∙ ap (option_map (laid (λ old. laid_over old offset bytes))) opened,
    )

pub write_waiting : (peer : Peer) (key : Key) (offset : ℕ) (bytes : List ℕ) → is_waiting peer key.oid ≡ true
    → own_epoch_step (asks.Write key offset bytes) peer ≡ peer_refusal_step refusals.Recovery peer
unfolding own_epoch_step
write_waiting peer key offset bytes waits = ap (λ b. step_if_recovered b peer (peer_write_step (write_at peer.rows key offset bytes) peer)) waits

pub write_none : (peer : Peer) (key : Key) (offset : ℕ) (bytes : List ℕ) → is_waiting peer key.oid ≡ false
    → open_row peer.rows key ≡ None → own_epoch_step (asks.Write key offset bytes) peer ≡ peer_refusal_step refusals.NoObj peer
unfolding own_epoch_step
write_none peer key offset bytes recovered none =
    ap (λ b. step_if_recovered b peer (peer_write_step (write_at peer.rows key offset bytes) peer)) recovered
    ∙ ap (λ (o : Option SeenRow). peer_write_step (on_open (offset + length bytes) o (λ r. rows_written peer key offset bytes)) peer) none

-- a read is told what the open row has
pub read_row : (peer : Peer) (key : Key) (offset size : ℕ) (row : SeenRow) → is_waiting peer key.oid ≡ false
    → open_row peer.rows key ≡ Some row → MayServe peer (asks.Read key offset size)
    → (own_epoch_step (asks.Read key offset size) peer).say ≡ says.Piece (piece_at row.bytes offset size)
unfolding own_epoch_step
read_row peer key offset size row recovered opened may =
    ap (λ b. (step_if_recovered b peer (peer_say_step (piece_or_refusal (read_at peer.rows key offset size)) peer)).say) recovered
    ∙ ap (λ (o : Option SeenRow). piece_or_refusal (on_open (offset + size) o (λ r. piece_at r.bytes offset size))) opened
    ∙ ap piece_or_refusal (inside (offset + size) (length row.bytes) (piece_at row.bytes offset size) (subst (EndsInside (offset + size)) opened may))

pub read_waiting : (peer : Peer) (key : Key) (offset size : ℕ) → is_waiting peer key.oid ≡ true
    → (own_epoch_step (asks.Read key offset size) peer).say ≡ says.Refused refusals.Recovery
unfolding own_epoch_step
read_waiting peer key offset size waits =
    ap (λ b. (step_if_recovered b peer (peer_say_step (piece_or_refusal (read_at peer.rows key offset size)) peer)).say) waits

pub read_none : (peer : Peer) (key : Key) (offset size : ℕ) → is_waiting peer key.oid ≡ false
    → open_row peer.rows key ≡ None → (own_epoch_step (asks.Read key offset size) peer).say ≡ says.Refused refusals.NoObj
unfolding own_epoch_step
read_none peer key offset size recovered none =
    ap (λ b. (step_if_recovered b peer (peer_say_step (piece_or_refusal (read_at peer.rows key offset size)) peer)).say) recovered
    ∙ ap (λ (o : Option SeenRow). piece_or_refusal (on_open (offset + size) o (λ r. piece_at r.bytes offset size))) none

-- a write leaves the rows as they were, or as the store's call makes them
write_left : (P : AllRows → Type 0) (peer : Peer) (key : Key) (offset : ℕ) (bytes : List ℕ) → P peer.rows
    → P (result_unwrap_or (write_at peer.rows key offset bytes) peer.rows) → P (own_epoch_step (asks.Write key offset bytes) peer).peer.rows
unfolding own_epoch_step
write_left P peer key offset bytes same made = go (is_waiting peer key.oid) (write_at peer.rows key offset bytes) made
  where
    go : (b : Bool) (r : Result AllRows StoreFault) → P (result_unwrap_or r peer.rows) → P (step_if_recovered b peer (peer_write_step r peer)).peer.rows
    go true r is = same
    go false (Ok all) is = is
    go false (Err fault) is = is

pub write_others : (peer : Peer) (key : Key) (offset : ℕ) (bytes : List ℕ) (oid : ℕ) → oid ≢ key.oid
    → rows_of (own_epoch_step (asks.Write key offset bytes) peer).peer.rows oid ≡ rows_of peer.rows oid
write_others peer key offset bytes oid apart =
    write_left (λ (all : AllRows). rows_of all oid ≡ rows_of peer.rows oid) peer key offset bytes refl (go (open_row peer.rows key))
  where
    by_end : (b : Bool) → rows_of (result_unwrap_or (cond b (Ok (rows_written peer key offset bytes)) (Err OutOfObject)) peer.rows) oid ≡ rows_of peer.rows oid
    by_end true = rows_of-insert_other peer.rows key.oid (write_in key.index offset bytes (rows_of peer.rows key.oid)) oid apart
    by_end false = refl

    go : (o : Option SeenRow) → rows_of (result_unwrap_or (on_open (offset + length bytes) o (λ r. rows_written peer key offset bytes)) peer.rows) oid ≡ rows_of peer.rows oid
    go None = refl
    go (Some row) = by_end (nat_le (offset + length bytes) (length row.bytes))

pub write_rows : (peer : Peer) (key : Key) (offset : ℕ) (bytes : List ℕ) (row : SeenRow) → is_open_at key.index row ≡ false
    → Has row (rows_of peer.rows key.oid) → Has row (rows_of (own_epoch_step (asks.Write key offset bytes) peer).peer.rows key.oid)
write_rows peer key offset bytes row other had =
    write_left (λ (all : AllRows). Has row (rows_of all key.oid)) peer key offset bytes had
    (row_stays peer.rows (Write key offset bytes) key.oid row (and_right (nat_eq key.oid key.oid) (is_open_at key.index row) other) had)

pub write_pending : (peer : Peer) (key : Key) (offset : ℕ) (bytes : List ℕ)
    → (own_epoch_step (asks.Write key offset bytes) peer).peer.pending ≡ peer.pending
unfolding own_epoch_step
write_pending peer key offset bytes = go (is_waiting peer key.oid) (write_at peer.rows key offset bytes)
  where
    go : (b : Bool) (r : Result AllRows StoreFault) → (step_if_recovered b peer (peer_write_step r peer)).peer.pending ≡ peer.pending
    go true r = refl
    go false (Ok all) = refl
    go false (Err fault) = refl
