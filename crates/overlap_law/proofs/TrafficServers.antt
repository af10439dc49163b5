-- Each kind of traffic keeps that a node which served an attempt came to its epoch: it serves what is of its own epoch, and no epoch falls.
use Rattle.std.proofs.Common.{◌≡◌, ◌≢◌, ⊎_elim, arith, ℕ, ◌≤◌, ◌<◌, nat_le, true, List, Option, Some, None, refl, sym, ap, ◌∙◌}
use Rattle.std.specs.Option.{option_map_or}
use Rattle.std.specs.FinMap as tree
use Rattle.std.proofs.lemmas.Bool.{cases_lt, leb-true, le-leb}
use Rattle.object_id.specs.declared.node.NodeId.{NodeId}
use Rattle.peer_proto.specs.declared.ask.PeerAsk.{PeerAsk}
use Rattle.peer_proto.specs.declared.ask.PeerReq.{PeerReq}
use Rattle.peer_proto.specs.declared.say.PeerSay.{PeerSay}
use Rattle.peer_proto.specs.declared.say.PeerSay.TheVariants as says
use Rattle.peer_proto.specs.declared.say.PeerRsp.{PeerRsp}
use Rattle.peer_proto.specs.declared.say.Refusal.{Refusal}
use Rattle.peer_proto.specs.declared.say.Refusal.TheVariants.{OldEpoch, NewEpoch}
use Rattle.peer_service.specs.State.{Peer}
use Rattle.peer_service.specs.Fence.{epoch_refusal}
use Rattle.peer_service.specs.Serve.{step_behind_fence, peer_step}
use Rattle.sheep_world.specs.World.{Host}
use Rattle.overlap_law.specs.Attempts.{AttemptRecord, Served, fate_of_say}
use Rattle.overlap_law.specs.Reached.{Hosts}
use Rattle.overlap_law.specs.Each.{has_reached}
use Rattle.overlap_law.specs.Packets.{Wire}
use Rattle.overlap_law.specs.Fates.{FatesAreOfTheWire, ServersReachedTheEpoch}
use Rattle.overlap_law.specs.Traffic.{Traffic}
use Rattle.overlap_law.proofs.EpochLemmas.{older, newer}
use Rattle.overlap_law.proofs.EpochsRise.{EpochsRise}
use Rattle.overlap_law.proofs.ServedPlaces.{AreServedSo, AreSoOnSuccess, served_at, served_from, traffic_served}

-- ---- an epoch that a node came to

abbrev epoch_in : Option Host → ℕ
epoch_in o = option_map_or (λ (host : Host). host.node.peer.epoch) o 0

pub reached_still : (hosts hosts_after : Hosts) → EpochsRise hosts hosts_after → (epoch : ℕ) (node : NodeId)
    → has_reached hosts epoch node ≡ true
    → has_reached hosts_after epoch node ≡ true
reached_still hosts hosts_after rise epoch node has = by_host (tree.get hosts node.0) refl has
  where
    by_host : (o : Option Host) → tree.get hosts node.0 ≡ o → nat_le epoch (epoch_in o) ≡ true → has_reached hosts_after epoch node ≡ true
    by_host None is has =
        let none : epoch ≤ 0 = leb-true epoch 0 has in
        let low : epoch ≤ epoch_in (tree.get hosts_after node.0) = omega (arith, none) in
        le-leb epoch (epoch_in (tree.get hosts_after node.0)) low
    by_host (Some host) is has =
        let (now, there, rises) = rise node.0 host is in
        let was : epoch ≤ host.node.peer.epoch = leb-true epoch host.node.peer.epoch has in
        let more : host.node.peer.epoch ≤ now.node.peer.epoch = rises in
        let low : epoch ≤ now.node.peer.epoch = omega (arith, was, more) in
        ap (λ (o : Option Host). nat_le epoch (epoch_in o)) there ∙ le-leb epoch now.node.peer.epoch low

-- ---- what is served is of the server's epoch

refused_nothing : (o : Option Refusal) (refusal : Refusal) (ask : PeerAsk) (peer : Peer) → o ≡ Some refusal
    → (step_behind_fence o ask peer).say ≢ says.Success
refused_nothing None refusal ask peer is said = absurd (cc (is))
refused_nothing (Some other) refusal ask peer is said = absurd (cc (said))

served_in_epoch : (own requested : ℕ) (ask : PeerAsk) (peer : Peer)
    → (step_behind_fence (epoch_refusal own requested) ask peer).say ≡ says.Success
    → own ≡ requested
served_in_epoch own requested ask peer said = ⊎_elim
    (λ (below : requested < own).
    absurd (refused_nothing (epoch_refusal own requested) (OldEpoch (record { 0 = own })) ask peer (older own requested below) said))
    (λ (most : own ≤ requested). ⊎_elim
    (λ (above : own < requested).
    absurd (refused_nothing (epoch_refusal own requested) (NewEpoch (record { 0 = own })) ask peer (newer own requested above) said))
    (λ (least : requested ≤ own). omega (arith, most, least))
    (cases_lt own requested))
    (cases_lt requested own)

pub success_in_epoch : (peer : Peer) (request : PeerReq) → (peer_step peer request).say ≡ says.Success → peer.epoch ≡ request.epoch.0
unfolding peer_step
success_in_epoch peer request said = served_in_epoch peer.epoch request.epoch.0 request.ask peer said

pub say_of_served : (say : PeerSay) → fate_of_say say ≡ Served → say ≡ says.Success
say_of_served says.Success is = refl
say_of_served (says.Piece bytes) is = absurd (cc (is))
say_of_served (says.Objects oids) is = absurd (cc (is))
say_of_served (says.Row row) is = absurd (cc (is))
say_of_served says.NoRow is = absurd (cc (is))
say_of_served (says.Refused refusal) is = absurd (cc (is))

-- ---- every kind of traffic

module _ (hosts hosts_after : Hosts) (wire : Wire) (attempts : List AttemptRecord) (rise : EpochsRise hosts hosts_after)
    (reached : ServersReachedTheEpoch hosts attempts) (fates : FatesAreOfTheWire wire attempts) where
  -- a target is in the attempt's epoch
  abbrev IsReached : AttemptRecord → NodeId → Type 0
  IsReached attempt target = has_reached hosts_after attempt.epoch target ≡ true

  were_reached : AreServedSo IsReached attempts
  were_reached j attempt there place target among served =
      reached_still hosts hosts_after rise attempt.epoch target
      (reached.each j attempt there target (served_from target attempt.targets attempt.fates place among served))

  -- the answer of a node that has served
  answered : AreSoOnSuccess hosts hosts_after IsReached attempts
  answered name to bytes up rsp answer served j attempt there place among request_so =
      let said : (peer_step answer.host.node.peer answer.request).say ≡ says.Success
      = ap (λ (r : PeerRsp). r.say) answer.said ∙ say_of_served rsp.say served in
      let epoch : answer.host.node.peer.epoch ≡ attempt.epoch
      = success_in_epoch answer.host.node.peer answer.request said ∙ ap (λ (r : PeerReq). r.epoch.0) request_so in
      let low : attempt.epoch ≤ answer.host.node.peer.epoch = omega (arith, epoch) in
      reached_still hosts hosts_after rise attempt.epoch to
      (ap (λ (o : Option Host). nat_le attempt.epoch (epoch_in o)) answer.there ∙ le-leb attempt.epoch answer.host.node.peer.epoch low)

  pub traffic_reached : {later : Wire} {after : List AttemptRecord} → Traffic hosts hosts_after wire attempts later after
      → ServersReachedTheEpoch hosts_after after
  traffic_reached traffic = record {
    each = λ j attempt there node has.
        let (place, target, among, served, own) = served_at node attempt.targets attempt.fates has in
        ap (λ (k : ℕ). nat_le attempt.epoch (epoch_in (tree.get hosts_after k))) (sym own)
        ∙ traffic_served hosts hosts_after wire attempts fates IsReached (λ attempt told target is. is) were_reached traffic answered
        j attempt there place target among served;
  }
