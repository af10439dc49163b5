-- What a request that a peer is asked makes of its rows: nothing, a row that is created, or one over which is written. And what rows are
-- once one is created among them, or the first that passes is changed.
use Rattle.std.proofs.Common.{◌≡◌, ◌≢◌, ℕ, zero, suc, ◌+◌, ◌-◌, ◌≤◌, nat_le, not, Bool, true, false, cond, List, [], ◌∷◌, length, filter}
use Rattle.std.proofs.Common.{Option, Some, None, Result, Ok, Err, slice_get, refl, sym, ap, ◌∙◌}
use Rattle.std.specs.List.{AllByRecursion, find}
use Rattle.std.specs.FinMap as tree
use Rattle.std.proofs.lemmas.Bool.{leb-true}
use Rattle.std.proofs.lemmas.Option.{same_Some}
use Rattle.object_store.specs.declared.fault.StoreFault.{StoreFault}
use Rattle.object_store.specs.declared.key.Key.{Key}
use Rattle.object_store.specs.declared.row.RowCopy.{RowCopy}
use Rattle.object_store.specs.Rows.{is_open, closed_all, is_replaced, ended, changed}
use Rattle.object_store.specs.Store.{SeenRow, rows_of, open_row, write_in, write_at, read_at, copy_at, create_in}
use Rattle.peer_proto.specs.declared.ask.PeerAsk.{PeerAsk}
use Rattle.peer_proto.specs.declared.ask.PeerAsk.TheVariants as asks
use Rattle.peer_proto.specs.declared.ask.PeerReq.{PeerReq}
use Rattle.peer_proto.specs.declared.say.PeerSay.TheVariants as says
use Rattle.peer_proto.specs.declared.say.Refusal.{Refusal}
use Rattle.peer_service.specs.State.{Peer, is_waiting}
use Rattle.peer_service.specs.Fence.{epoch_refusal}
use Rattle.peer_service.specs.Serve as serve
use Rattle.peer_service.specs.Serve.{PeerStep, peer_say_step, piece_or_refusal, row_or_none, peer_write_step, step_if_recovered}
use Rattle.peer_service.specs.Serve.{step_behind_fence, peer_step}
use Rattle.overlap_law.specs.Attempts.{Doomed, fate_of_say}
use Rattle.overlap_law.proofs.StoredRows.{write_step_on, write_step_if}

-- what a step makes of the rows of a peer that was asked something
pub data Made (peer : Peer) (ask : PeerAsk) (step : PeerStep) : Type 0 where
  NothingIsMade : step.peer ≡ peer → fate_of_say step.say ≡ Doomed → Made peer ask step
  RowIsCreated : (key : Key) (size offset : ℕ) (bytes : List ℕ) → ask ≡ asks.Create key size offset bytes → step.say ≡ says.Success
      → step.peer.epoch ≡ peer.epoch
      → step.peer.rows ≡ tree.insert peer.rows key.oid (create_in key.index peer.epoch size offset bytes (rows_of peer.rows key.oid))
      → Made peer ask step
  RowIsWritten : (key : Key) (offset : ℕ) (bytes : List ℕ) (row : SeenRow) → ask ≡ asks.Write key offset bytes
      → step.say ≡ says.Success → step.peer.epoch ≡ peer.epoch → open_row peer.rows key ≡ Some row
      → offset + length bytes ≤ length row.bytes
      → step.peer.rows ≡ tree.insert peer.rows key.oid (write_in key.index offset bytes (rows_of peer.rows key.oid)) → Made peer ask step

module _ (peer : Peer) where
  written_made : (key : Key) (offset : ℕ) (bytes : List ℕ) (waiting : Bool)
      → Made peer (asks.Write key offset bytes)
      (step_if_recovered waiting peer (peer_write_step (write_at peer.rows key offset bytes) peer))
  written_made key offset bytes true = NothingIsMade refl refl
  written_made key offset bytes false = by_row (open_row peer.rows key) refl
    where
      by_row : (o : Option SeenRow) → open_row peer.rows key ≡ o
          → Made peer (asks.Write key offset bytes) (write_step_on o key offset bytes peer)
      by_row None on = NothingIsMade refl refl
      by_row (Some row) on = by_end (nat_le (offset + length bytes) (length row.bytes)) refl
        where
          by_end : (b : Bool) → nat_le (offset + length bytes) (length row.bytes) ≡ b
              → Made peer (asks.Write key offset bytes) (write_step_if b key offset bytes peer)
          by_end true inside =
              RowIsWritten key offset bytes row refl refl refl on (leb-true (offset + length bytes) (length row.bytes) inside) refl
          by_end false outside = NothingIsMade refl refl

  read_made : (ask : PeerAsk) (piece : Result (List ℕ) StoreFault) (waiting : Bool)
      → Made peer ask (step_if_recovered waiting peer (peer_say_step (piece_or_refusal piece) peer))
  read_made ask piece true = NothingIsMade refl refl
  read_made ask (Ok bytes) false = NothingIsMade refl refl
  read_made ask (Err fault) false = NothingIsMade refl refl

  told_made : (ask : PeerAsk) (row : Option RowCopy) → Made peer ask (peer_say_step (row_or_none row) peer)
  told_made ask None = NothingIsMade refl refl
  told_made ask (Some row) = NothingIsMade refl refl

  own_made : (ask : PeerAsk) → Made peer ask (serve.own_epoch_step ask peer)
  unfolding serve.own_epoch_step
  own_made (asks.Create key size offset bytes) = RowIsCreated key size offset bytes refl refl refl refl
  own_made (asks.Write key offset bytes) = written_made key offset bytes (is_waiting peer key.oid)
  own_made (asks.Read key offset size) = read_made (asks.Read key offset size) (read_at peer.rows key offset size) (is_waiting peer key.oid)
  own_made asks.List = NothingIsMade refl refl
  own_made (asks.RecoverRead oid level) = told_made (asks.RecoverRead oid level) (copy_at peer.rows oid level.0)

  pub made-by : (request : PeerReq) → Made peer request.ask (peer_step peer request)
  unfolding peer_step
  made-by request = by_fence (epoch_refusal peer.epoch request.epoch.0)
    where
      by_fence : (refusal : Option Refusal) → Made peer request.ask (step_behind_fence refusal request.ask peer)
      by_fence None = own_made request.ask
      by_fence (Some refusal) = NothingIsMade refl refl

-- ---- rows once one is created among them

-- each row before is closed below the epoch, or goes
pub all_ended : (P R : SeenRow → Type 0) (epoch : ℕ)
    → ((row : SeenRow) → is_open row ≡ true → P row → R (record row { to = Some (record { 0 = epoch - 1 }) }))
    → ((row : SeenRow) → is_open row ≡ false → P row → R row) → (rows : List SeenRow) → AllByRecursion P rows
    → AllByRecursion R (ended epoch rows)
all_ended P R epoch shut still [] all = tt
all_ended P R epoch shut still (row ∷ rows) all = by_test (is_replaced epoch row) (all_ended P R epoch shut still rows all.1)
  where
    left : List SeenRow
    left = filter (λ (one : SeenRow). not (is_replaced epoch one)) rows

    one : (b : Bool) → is_open row ≡ b → R (cond b (record row { to = Some (record { 0 = epoch - 1 }) }) row)
    one true unshut = shut row unshut all.0
    one false closed_already = still row closed_already all.0

    by_test : (b : Bool) → AllByRecursion R (closed_all (epoch - 1) left)
        → AllByRecursion R (closed_all (epoch - 1) (cond (not b) (row ∷ left) left))
    by_test true rest = rest
    by_test false rest = (one (is_open row) refl, rest)

-- ---- rows once the first that passes is changed

-- the found row stands at a place, where it is changed, and the others stay
pub record IsChangedAt (rows later : List SeenRow) (found new : SeenRow) : Type 0 where
  pub place : ℕ
  pub at : slice_get rows place ≡ Some found
  pub now : slice_get later place ≡ Some new
  pub others : (i : ℕ) → i ≢ place → slice_get later i ≡ slice_get rows i

pub changed-at : (test : SeenRow → Bool) (change : List ℕ → List ℕ) (rows : List SeenRow) (found : SeenRow) → find test rows ≡ Some found
    → (test found ≡ true) × IsChangedAt rows (changed test change rows) found (record found { bytes = change found.bytes })
changed-at test change [] found is = absurd (cc (is))
changed-at test change (row ∷ rows) found is = by_test (test row) refl is (λ later. changed-at test change rows found later)
  where
    new : SeenRow
    new = record found { bytes = change found.bytes }

    by_test : (b : Bool) → test row ≡ b → cond b (Some row) (find test rows) ≡ Some found
        → (find test rows ≡ Some found → (test found ≡ true) × IsChangedAt rows (changed test change rows) found new)
        → (test found ≡ true)
        × IsChangedAt (row ∷ rows) (cond b ((record row { bytes = change row.bytes }) ∷ rows) (row ∷ changed test change rows)) found new
    by_test true passed is later =
        let same : row ≡ found = same_Some row found is in (
          ap test (sym same) ∙ passed,
          record {
            place = zero;
            at = is;
            now = ap (λ (r : SeenRow). Some (record r { bytes = change r.bytes })) same;
            others = λ i apart. behind i apart;
          },
        )
      where
        behind : (i : ℕ) → i ≢ zero → slice_get ((record row { bytes = change row.bytes }) ∷ rows) i ≡ slice_get (row ∷ rows) i
        behind zero apart = absurd (apart refl)
        behind (suc i) apart = refl
    by_test false passed is later =
        let rest = later is in (
          rest.0,
          record {
            place = suc rest.1.place;
            at = rest.1.at;
            now = rest.1.now;
            others = λ i apart. before rest.1 i apart;
          },
        )
      where
        before : (rest : IsChangedAt rows (changed test change rows) found new) → (i : ℕ) → i ≢ suc rest.place
            → slice_get (row ∷ changed test change rows) i ≡ slice_get (row ∷ rows) i
        before rest zero apart = refl
        before rest (suc i) apart = rest.others i (λ same. apart (ap (λ (k : ℕ). suc k) same))
