-- Each change of a moment keeps the attempts with the hosts of their gateways.
use Rattle.std.proofs.Common.{◌≡◌, ◌⊎◌, inl, inr, arith, ℕ, ◌+◌, ◌≤◌, ◌<◌, Bool, true, false, List, length, Option, Some, None, is_some}
use Rattle.std.proofs.Common.{slice_get, ⊎_elim, refl, sym, ap, subst, ◌∙◌}
use Rattle.std.specs.FinMap as tree
use Rattle.std.proofs.lemmas.Bool.{cases_lt}
use Rattle.std.proofs.lemmas.Option.{same_Some, slice_get_within}
use Rattle.object_id.specs.declared.node.NodeId.{NodeId}
use Rattle.peer_proto.specs.declared.ask.PeerReq.{PeerReq}
use Rattle.message_wire.specs.declared.packet.Packet.{Packet}
use Rattle.message_wire.specs.declared.packet.Packet.TheVariants.{Request, Reply}
use Rattle.sheep_world.specs.World.{Host}
use Rattle.overlap_law.specs.Attempts.{AttemptRecord, MessageFate, Doomed, attempts_with_fate, fate_of_say}
use Rattle.overlap_law.specs.Reached.{Hosts}
use Rattle.overlap_law.specs.Packets.{Wire, message_name_at, is_name_in_wire, IsQuiet}
use Rattle.overlap_law.specs.Fates.{AttemptsAreOfIncarnations}
use Rattle.overlap_law.specs.Traffic.{IsBegunBy, Traffic, NothingMoves, MessageIsLost, ReplyIsReceived, RequestIsAnswered, RequestsAreSent}
use Rattle.overlap_law.specs.Traffic.{AttemptBegins, RepliesGo}
use Rattle.overlap_law.specs.TiedAttempts.{GatewaysAreThere}
use Rattle.overlap_law.proofs.AttemptLists.{got_more, got_marked, fates_told}
use Rattle.overlap_law.proofs.HostsInMoments.{SendsNothingIn, HostStays}
use Rattle.overlap_law.proofs.TrafficOrder.{traffic_fewer}

-- a name that is not in the wire, which any packet there would contradict
not_in_wire : (wire : Wire) (n : ℕ) (attempt : AttemptRecord) (place : ℕ) → SendsNothingIn n wire → attempt.gateway.0 ≡ n
    → is_name_in_wire wire (message_name_at attempt place) ≡ false
not_in_wire wire n attempt place nothing own = by_packet (tree.get wire (message_name_at attempt place)) refl
  where
    by_packet : (o : Option Packet) → tree.get wire (message_name_at attempt place) ≡ o
        → is_name_in_wire wire (message_name_at attempt place) ≡ false
    by_packet None is = ap (λ (o : Option Packet). is_some o) is
    by_packet (Some packet) is = absurd (nothing (message_name_at attempt place) packet is own)

none_from : (one other : Bool) → (other ≡ true → one ≡ true) → one ≡ false → other ≡ false
none_from one true back none = let yes = back refl in absurd (cc (yes, none))
none_from one false back none = refl

module _ (hosts hosts_after : Hosts) (wire later : Wire) (attempts after : List AttemptRecord)
    (of_incarnations : AttemptsAreOfIncarnations hosts wire attempts)
    (there : GatewaysAreThere hosts attempts) (stay : (n : ℕ) (host : Host) → tree.get hosts n ≡ Some host
    → HostStays hosts_after wire n host) (traffic : Traffic hosts hosts_after wire attempts later after) where
  -- an attempt that was there, but for its fates
  pub record WasThere (j : ℕ) (now : AttemptRecord) : Type 0 where
    pub was : AttemptRecord
    pub at : slice_get attempts j ≡ Some was
    pub fates : List MessageFate
    pub same : record was { fates = fates } ≡ now

  -- or one that begins
  pub record Begins (j : ℕ) (now : AttemptRecord) : Type 0 where
    pub last : j ≡ length attempts
    pub n : ℕ
    pub sends : List (NodeId × PeerReq)
    pub begun : IsBegunBy hosts hosts_after n sends now

  marked : (told : MessageFate) (sender : NodeId) (number j : ℕ) (now : AttemptRecord)
      → slice_get (attempts_with_fate told sender number attempts) j ≡ Some now
      → WasThere j now ⊎ Begins j now
  marked told sender number j now got =
      let (was, at, is) = got_marked told sender number attempts j now got in
      inl (record { was = was; at = at; fates = fates_told told sender number was; same = is })

  unmarked : (j : ℕ) (now : AttemptRecord) → slice_get attempts j ≡ Some now → WasThere j now ⊎ Begins j now
  unmarked j now got = inl (record { was = now; at = got; fates = now.fates; same = refl })

  by_kind : {w : Wire} {all : List AttemptRecord} → Traffic hosts hosts_after wire attempts w all → (j : ℕ) (now : AttemptRecord)
      → slice_get all j ≡ Some now
      → WasThere j now ⊎ Begins j now
  by_kind NothingMoves j now got = unmarked j now got
  by_kind (MessageIsLost name (Request to bytes) at) j now got = marked Doomed name.sender name.number j now got
  by_kind (MessageIsLost name (Reply from bytes) at) j now got = unmarked j now got
  by_kind (ReplyIsReceived name from bytes at) j now got = unmarked j now got
  by_kind (RequestIsAnswered name to bytes up rsp at answer) j now got = marked (fate_of_say rsp.say) name.sender name.number j now got
  by_kind (RequestsAreSent n sends by nothing) j now got = unmarked j now got
  by_kind (AttemptBegins n sends new begun) j now got = ⊎_elim
      (λ (old : slice_get attempts j ≡ Some now). unmarked j now old)
      (λ (own : (j ≡ length attempts) × (new ≡ now)).
      inr (record { last = own.0; n = n; sends = sends; begun = subst (IsBegunBy hosts hosts_after n sends) own.1 begun }))
      (got_more attempts new j now got)
  by_kind (RepliesGo n) j now got = unmarked j now got

  where_from : (j : ℕ) (now : AttemptRecord) → slice_get after j ≡ Some now → WasThere j now ⊎ Begins j now
  where_from = by_kind traffic

  pub there_still : GatewaysAreThere hosts_after after
  there_still = record {
    each = λ j now got. ⊎_elim
        (λ (w : WasThere j now).
        let (host, is) = there.each j w.was w.at in
        let stays = stay w.was.gateway.0 host is in
        (stays.now, subst (λ (a : AttemptRecord). tree.get hosts_after a.gateway.0 ≡ Some stays.now) w.same stays.there))
        (λ (b : Begins j now). (b.begun.sent_by.after, ap (tree.get hosts_after) b.begun.gateway ∙ b.begun.sent_by.there_after))
        (where_from j now got);
  }

  -- the host of an attempt that was there, before and now
  record AtHosts (was : AttemptRecord) (now : Host) : Type 0 where
    host : Host
    is : tree.get hosts was.gateway.0 ≡ Some host
    incarnation : host.incarnation ≤ now.incarnation
    sends : host.node.sends ≤ now.node.sends
    renewed : host.incarnation < now.incarnation → SendsNothingIn was.gateway.0 wire

  at_hosts : (j : ℕ) (was : AttemptRecord) (now : Host) → slice_get attempts j ≡ Some was → tree.get hosts_after was.gateway.0 ≡ Some now
      → AtHosts was now
  at_hosts j was now at got =
      let (host, is) = there.each j was at in
      let stays = stay was.gateway.0 host is in
      let same : stays.now ≡ now = same_Some stays.now now (sym stays.there ∙ got) in
      subst (AtHosts was) same (record {
        host = host;
        is = is;
        incarnation = stays.incarnation;
        sends = stays.sends;
        renewed = stays.renewed;
      })

  quiet_still : (j : ℕ) (was : AttemptRecord) → slice_get attempts j ≡ Some was
      → ((place : ℕ) (target : NodeId) → slice_get was.targets place ≡ Some target
      → is_name_in_wire wire (message_name_at was place) ≡ false) → (fates : List MessageFate)
      → IsQuiet later (record was { fates = fates })
  quiet_still j was at none fates = record {
    none =
        λ place target among. none_from (is_name_in_wire wire (message_name_at was place))
        (is_name_in_wire later (message_name_at was place)) (traffic_fewer hosts hosts_after wire attempts of_incarnations traffic j was at
        place target among) (none place target among);
  }

  earlier_quiet : (j : ℕ) (was : AttemptRecord) (now : Host) → slice_get attempts j ≡ Some was
      → tree.get hosts_after was.gateway.0 ≡ Some now
      → was.incarnation < now.incarnation → (fates : List MessageFate) → IsQuiet later (record was { fates = fates })
  earlier_quiet j was now at got less fates =
      let h = at_hosts j was now at got in
      ⊎_elim
      (λ (before : was.incarnation < h.host.incarnation).
      quiet_still j was at (of_incarnations.earlier j was at h.host h.is before).none fates)
      (λ (not_before : h.host.incarnation ≤ was.incarnation).
      let later_one : h.host.incarnation < now.incarnation = omega (arith, not_before, less) in
      let renewed = h.renewed later_one in
      quiet_still j was at (λ place target among. not_in_wire wire was.gateway.0 was place renewed refl) fates)
      (cases_lt was.incarnation h.host.incarnation)

  pub incarnations_still : AttemptsAreOfIncarnations hosts_after later after
  incarnations_still = record {
    began = λ j now got host is. ⊎_elim
        (λ (w : WasThere j now).
        let h = at_hosts j w.was host w.at (ap (λ (a : AttemptRecord). tree.get hosts_after a.gateway.0) w.same ∙ is) in
        let before : w.was.incarnation ≤ h.host.incarnation = of_incarnations.began j w.was w.at h.host h.is in
        let rises : h.host.incarnation ≤ host.incarnation = h.incarnation in
        let still : w.was.incarnation ≤ host.incarnation = omega (arith, before, rises) in
        subst (λ (a : AttemptRecord). a.incarnation ≤ host.incarnation) w.same still)
        (λ (b : Begins j now).
        let same : b.begun.sent_by.after ≡ host = same_Some b.begun.sent_by.after host
        (sym b.begun.sent_by.there_after ∙ ap (tree.get hosts_after) (sym b.begun.gateway) ∙ is) in
        let at : now.incarnation ≡ host.incarnation = b.begun.incarnation ∙ sym b.begun.sent_by.stays
        ∙ ap (λ (h : Host). h.incarnation) same in
        omega (arith, at))
        (where_from j now got);
    earlier = λ j now got host is less. ⊎_elim
        (λ (w : WasThere j now).
        subst (IsQuiet later) w.same
        (earlier_quiet j w.was host w.at (ap (λ (a : AttemptRecord). tree.get hosts_after a.gateway.0) w.same ∙ is)
        (subst (λ (a : AttemptRecord). a.incarnation < host.incarnation) (sym w.same) less) w.fates))
        (λ (b : Begins j now).
        let same : b.begun.sent_by.after ≡ host = same_Some b.begun.sent_by.after host
        (sym b.begun.sent_by.there_after ∙ ap (tree.get hosts_after) (sym b.begun.gateway) ∙ is) in
        let at : now.incarnation ≡ host.incarnation = b.begun.incarnation ∙ sym b.begun.sent_by.stays
        ∙ ap (λ (h : Host). h.incarnation) same in
        absurd (omega (arith, at, less)))
        (where_from j now got);
    given = λ j now got host is. ⊎_elim
        (λ (w : WasThere j now).
        let h = at_hosts j w.was host w.at (ap (λ (a : AttemptRecord). tree.get hosts_after a.gateway.0) w.same ∙ is) in
        let before : w.was.first + length w.was.targets ≤ h.host.node.sends = of_incarnations.given j w.was w.at h.host h.is in
        let rises : h.host.node.sends ≤ host.node.sends = h.sends in
        let still : w.was.first + length w.was.targets ≤ host.node.sends = omega (arith, before, rises) in
        subst (λ (a : AttemptRecord). a.first + length a.targets ≤ host.node.sends) w.same still)
        (λ (b : Begins j now).
        let same : b.begun.sent_by.after ≡ host = same_Some b.begun.sent_by.after host
        (sym b.begun.sent_by.there_after ∙ ap (tree.get hosts_after) (sym b.begun.gateway) ∙ is) in
        let first : now.first ≡ b.begun.sent_by.host.node.sends = b.begun.first in
        let count : length now.targets ≡ length b.sends = b.begun.count in
        let counted : host.node.sends ≡ b.begun.sent_by.host.node.sends + length b.sends
        = sym (ap (λ (h : Host). h.node.sends) same) ∙ b.begun.sent_by.counted in
        omega (arith, first, count, counted))
        (where_from j now got);
    apart = λ j one got k other got_too below own. ⊎_elim
        (λ (w : WasThere j one). ⊎_elim
        (λ (v : WasThere k other).
        subst (λ (a : AttemptRecord). a.first + length a.targets ≤ other.first) w.same
        (subst (λ (a : AttemptRecord). w.was.first + length w.was.targets ≤ a.first) v.same
        (of_incarnations.apart j w.was w.at k v.was v.at below
        (ap (λ (a : AttemptRecord). a.gateway.0) w.same ∙ own ∙ sym (ap (λ (a : AttemptRecord). a.gateway.0) v.same)))))
        (λ (b : Begins k other).
        let gateway : w.was.gateway.0 ≡ b.n = ap (λ (a : AttemptRecord). a.gateway.0) w.same ∙ own ∙ b.begun.gateway in
        let given : w.was.first + length w.was.targets ≤ b.begun.sent_by.host.node.sends
        = of_incarnations.given j w.was w.at b.begun.sent_by.host (ap (tree.get hosts) gateway ∙ b.begun.sent_by.there) in
        let first : other.first ≡ b.begun.sent_by.host.node.sends = b.begun.first in
        let behind : w.was.first + length w.was.targets ≤ other.first = omega (arith, given, first) in
        subst (λ (a : AttemptRecord). a.first + length a.targets ≤ other.first) w.same behind)
        (where_from k other got_too))
        (λ (b : Begins j one). ⊎_elim
        (λ (v : WasThere k other).
        let within = slice_get_within attempts k v.was v.at in let last = b.last in absurd (omega (arith, within, last, below)))
        (λ (c : Begins k other). let last = b.last in let last_too = c.last in absurd (omega (arith, last, last_too, below)))
        (where_from k other got_too))
        (where_from j one got);
  }
