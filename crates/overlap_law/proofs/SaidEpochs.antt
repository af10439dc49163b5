-- What a node says of a request is of the epoch that its say needs: a refusal by the epoch is of another one, any other say of the
-- request's own.
use Rattle.std.proofs.Common.{◌≡◌, ◌≢◌, ⊎_elim, arith, ℕ, ◌≤◌, ◌<◌, nat_lt, Bool, true, false, cond, List, Option, Some, None, Result, Ok}
use Rattle.std.proofs.Common.{Err, refl, ap, ◌∙◌}
use Rattle.std.proofs.lemmas.Bool.{cases_lt, le-ltb}
use Rattle.object_store.specs.declared.fault.StoreFault.{StoreFault}
use Rattle.object_store.specs.declared.row.RowCopy.{RowCopy}
use Rattle.object_store.specs.Store.{AllRows, read_at, write_at, copy_at}
use Rattle.peer_proto.specs.declared.ask.PeerAsk.{PeerAsk}
use Rattle.peer_proto.specs.declared.ask.PeerAsk.TheVariants as asks
use Rattle.peer_proto.specs.declared.ask.PeerReq.{PeerReq}
use Rattle.peer_proto.specs.declared.say.Refusal.{Refusal}
use Rattle.peer_proto.specs.declared.say.Refusal.TheVariants.{OldEpoch, NewEpoch, Recovery, NoObj}
use Rattle.peer_service.specs.State.{Peer, is_waiting}
use Rattle.peer_service.specs.Fence.{epoch_refusal}
use Rattle.peer_service.specs.Serve.{PeerStep, peer_say_step, piece_or_refusal, peer_write_step, row_or_none, step_if_recovered}
use Rattle.peer_service.specs.Serve.{own_epoch_step, step_behind_fence, peer_step}
use Rattle.overlap_law.specs.Flight.{IsSaidSo}
use Rattle.overlap_law.proofs.EpochLemmas.{older, newer}

-- ---- a request of the node's own epoch

module _ (asked told : ℕ) (same : told ≡ asked) where
  abbrev IsSo : PeerStep → Type 0
  IsSo step = IsSaidSo asked told step.say

  written : (peer : Peer) (result : Result AllRows StoreFault) → IsSo (peer_write_step result peer)
  written peer (Ok rows) = same
  written peer (Err fault) = tt

  told_piece : (peer : Peer) (result : Result (List ℕ) StoreFault) → IsSo (peer_say_step (piece_or_refusal result) peer)
  told_piece peer (Ok piece) = same
  told_piece peer (Err fault) = tt

  told_row : (peer : Peer) (row : Option RowCopy) → IsSo (peer_say_step (row_or_none row) peer)
  told_row peer None = same
  told_row peer (Some row) = same

  if_recovered : (waiting : Bool) (peer : Peer) (answer : PeerStep) → IsSo answer → IsSo (step_if_recovered waiting peer answer)
  if_recovered true peer answer is = tt
  if_recovered false peer answer is = is

  said_own : (ask : PeerAsk) (peer : Peer) → IsSo (own_epoch_step ask peer)
  unfolding own_epoch_step
  said_own (asks.Create key size offset bytes) peer = same
  said_own (asks.Write key offset bytes) peer =
      if_recovered (is_waiting peer key.oid) peer (peer_write_step (write_at peer.rows key offset bytes) peer)
      (written peer (write_at peer.rows key offset bytes))
  said_own (asks.Read key offset size) peer =
      if_recovered (is_waiting peer key.oid) peer (peer_say_step (piece_or_refusal (read_at peer.rows key offset size)) peer)
      (told_piece peer (read_at peer.rows key offset size))
  said_own asks.List peer = same
  said_own (asks.RecoverRead oid level) peer = told_row peer (copy_at peer.rows oid level.0)

-- ---- behind the fence

none_at_own : (own : ℕ) → epoch_refusal own own ≡ None
none_at_own own =
    let never : nat_lt own own ≡ false = le-ltb own own (omega arith) in
    λ i. cond (never i) (Some (OldEpoch (record { 0 = own }))) (cond (never i) (Some (NewEpoch (record { 0 = own }))) None)

other_epoch : (own requested : ℕ) (refusal : Refusal) → epoch_refusal own requested ≡ Some refusal → own ≢ requested
other_epoch own requested refusal is same =
    let none = ap (λ (e : ℕ). epoch_refusal own e) same ∙ is in
    let own_none = none_at_own own in
    cc (none, own_none)

own_epoch : (own requested : ℕ) → epoch_refusal own requested ≡ None → own ≡ requested
own_epoch own requested none = ⊎_elim
    (λ (below : requested < own). let some = older own requested below in absurd (cc (some, none)))
    (λ (most : own ≤ requested). ⊎_elim
    (λ (above : own < requested). let some = newer own requested above in absurd (cc (some, none)))
    (λ (least : requested ≤ own). omega (arith, most, least))
    (cases_lt own requested))
    (cases_lt requested own)

said_behind : (own requested : ℕ) (ask : PeerAsk) (peer : Peer) (o : Option Refusal) → epoch_refusal own requested ≡ o
    → IsSaidSo requested own (step_behind_fence o ask peer).say
said_behind own requested ask peer None is = said_own requested own (own_epoch own requested is) ask peer
said_behind own requested ask peer (Some (OldEpoch epoch)) is = other_epoch own requested (OldEpoch epoch) is
said_behind own requested ask peer (Some (NewEpoch epoch)) is = other_epoch own requested (NewEpoch epoch) is
said_behind own requested ask peer (Some Recovery) is = tt
said_behind own requested ask peer (Some NoObj) is = tt

pub said_so : (peer : Peer) (request : PeerReq) → IsSaidSo request.epoch.0 peer.epoch (peer_step peer request).say
unfolding peer_step
said_so peer request = said_behind peer.epoch request.epoch.0 request.ask peer (epoch_refusal peer.epoch request.epoch.0) refl
