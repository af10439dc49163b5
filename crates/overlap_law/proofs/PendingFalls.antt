-- What is pending at a node gets less, or stays as it is, by whatever its peers ask of it.
use Rattle.std.proofs.Common.{◌≡◌, ℕ, ◌==◌, Bool, true, false, not, List, [], filter, Option, Some, None, Result, Ok, Err, ap}
use Rattle.std.specs.Option.{option_map}
use Rattle.object_store.specs.declared.fault.StoreFault.{StoreFault}
use Rattle.object_store.specs.Store.{AllRows, read_at, write_at}
use Rattle.peer_proto.specs.declared.ask.PeerAsk.{PeerAsk}
use Rattle.peer_proto.specs.declared.ask.PeerAsk.TheVariants as asks
use Rattle.peer_proto.specs.declared.ask.PeerReq.{PeerReq}
use Rattle.peer_proto.specs.declared.say.Refusal.{Refusal}
use Rattle.peer_service.specs.State.{Peer, is_waiting}
use Rattle.peer_service.specs.Fence.{epoch_refusal}
use Rattle.peer_service.specs.Serve as serve
use Rattle.peer_service.specs.Serve.{peer_say_step, peer_write_step, piece_or_refusal, step_if_recovered, step_behind_fence, peer_step}
use Rattle.recovery.specs.Shown.{is_pending_object}
use Rattle.overlap_law.proofs.PendingTargets.{pending_before}

-- each object that is pending then was so before, nothing known stays nothing known, and nothing pending stays nothing pending
pub record PendingFalls (old new : Option (List ℕ)) : Type 0 where
  pub less : (oid : ℕ) → is_pending_object oid new ≡ true → is_pending_object oid old ≡ true
  pub none : old ≡ None → new ≡ None
  pub nothing : old ≡ Some [] → new ≡ Some []

as_it_was : (pending : Option (List ℕ)) → PendingFalls pending pending
as_it_was pending = record { less = λ oid is. is; none = λ is. is; nothing = λ is. is }

pub filtered_falls : (test : ℕ → Bool) (pending : Option (List ℕ)) → PendingFalls pending (option_map (filter test) pending)
filtered_falls test pending = record {
  less = λ oid is. pending_before test oid pending is;
  none = λ is. ap (option_map (filter test)) is;
  nothing = λ is. ap (option_map (filter test)) is;
}

-- ---- a request is served

written_falls : (result : Result AllRows StoreFault) (peer : Peer) → PendingFalls peer.pending (peer_write_step result peer).peer.pending
written_falls (Ok rows) peer = as_it_was peer.pending
written_falls (Err fault) peer = as_it_was peer.pending

recovered_falls : (waiting : Bool) (peer : Peer) (answer : serve.PeerStep) → PendingFalls peer.pending answer.peer.pending
    → PendingFalls peer.pending (step_if_recovered waiting peer answer).peer.pending
recovered_falls true peer answer falls = as_it_was peer.pending
recovered_falls false peer answer falls = falls

answered_falls : (ask : PeerAsk) (peer : Peer) → PendingFalls peer.pending (serve.own_epoch_step ask peer).peer.pending
unfolding serve.own_epoch_step
answered_falls (asks.Create key size offset bytes) peer = filtered_falls (λ other. not (other == key.oid)) peer.pending
answered_falls (asks.Write key offset bytes) peer =
    recovered_falls (is_waiting peer key.oid) peer (peer_write_step (write_at peer.rows key offset bytes) peer)
    (written_falls (write_at peer.rows key offset bytes) peer)
answered_falls (asks.Read key offset size) peer =
    recovered_falls (is_waiting peer key.oid) peer (peer_say_step (piece_or_refusal (read_at peer.rows key offset size)) peer)
    (as_it_was peer.pending)
answered_falls asks.List peer = as_it_was peer.pending
answered_falls (asks.RecoverRead oid level) peer = as_it_was peer.pending

pub served_falls : (peer : Peer) (request : PeerReq) → PendingFalls peer.pending (peer_step peer request).peer.pending
unfolding peer_step
served_falls peer request = by_fence (epoch_refusal peer.epoch request.epoch.0)
  where
    by_fence : (refusal : Option Refusal) → PendingFalls peer.pending (step_behind_fence refusal request.ask peer).peer.pending
    by_fence None = answered_falls request.ask peer
    by_fence (Some refusal) = as_it_was peer.pending
