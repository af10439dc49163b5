-- Nodes and wire go together number by number: what is in the wire of a number, and the host of that number.
use Rattle.std.proofs.Common.{◌≡◌, ◌≢◌, ◌⊎◌, ⊎_elim, arith, ℕ, ◌+◌, ◌<◌, true, false, List, [], length, Contains, Option, Some, None, Ok, refl, sym, ap, subst, ◌∙◌}
use Rattle.proof_tools.proofs.FiniteMaps.{get-insert_same, get-insert_other}
use Rattle.std.proofs.lemmas.Bool.{cases_eq}
use Rattle.proof_tools.proofs.Lists.{Contains-nil}
use Rattle.std.specs.Ordering.{nat_cmp}
use Rattle.std.specs.FinMap as tree
use Rattle.std.proofs.lemmas.List.Elements.{All-weaker, All-contains, All-contains_itself}
use Rattle.std.proofs.lemmas.Option.{same_Some}
use Rattle.object_id.specs.declared.node.NodeId.{NodeId}
use Rattle.peer_proto.specs.declared.ask.PeerReq.{PeerReq}
use Rattle.peer_proto.specs.declared.say.PeerRsp.{PeerRsp}
use Rattle.peer_proto.specs.Say.{say_in, say_bytes}
use Rattle.sheep_node.specs.State.{Node}
use Rattle.sheep_node.specs.May.{node_awaits, fits_node}
use Rattle.message_wire.specs.declared.packet.Packet.{Packet}
use Rattle.message_wire.specs.declared.packet.Packet.TheVariants.{Request, Reply}
use Rattle.sheep_world.specs.World.{Host, is_host_up}
use Rattle.sheep_world.specs.WireMatch.{asked_by, own_name, IsReadablePacket, IsNumberGiven, IsInFlight, WireMatchesHosts}
use Rattle.sheep_world.specs.NodeCauses.{host_with_node}
use Rattle.sheep_node.proofs.MessageNumbers.{Sends, numbers_within}
use Rattle.sheep_world.proofs.WireAfterSends.{Wire, Asking, packet_of}

-- the packets of a number in the wire, by their numbers
abbrev pub Packets : Type 0
Packets = ℕ → Option Packet

abbrev pub packets_of : Wire → ℕ → Packets
packets_of wire n number = tree.get wire (record { sender = record { 0 = n }; number = number })

-- no packets
abbrev pub AreNone : Packets → Type 0
AreNone packets = (number : ℕ) (packet : Packet) → packets number ≡ Some packet → ⊥

-- a host and its packets go together
pub record MatchesHost (n : ℕ) (host : Host) (packets : Packets) : Type 0 where
  pub numbered : host.node.me.0 ≡ n
  pub spelled : (number : ℕ) (packet : Packet) → packets number ≡ Some packet → IsReadablePacket (record { sender = record { 0 = n }; number = number }) packet
  pub given : (number : ℕ) (packet : Packet) → packets number ≡ Some packet → number < host.node.sends
  pub on_the_way : is_host_up host ≡ true → (send : NodeId × PeerReq) → Contains (asked_by host.node) send → IsInFlight host.node send (packets send.1.number)
  pub awaited : is_host_up host ≡ true → (number : ℕ) (packet : Packet) → packets number ≡ Some packet → node_awaits number host.node ≡ true

-- a number without a host has no packets
abbrev pub Matches : ℕ → Option Host → Packets → Type 0
Matches n None packets = AreNone packets
Matches n (Some host) packets = MatchesHost n host packets

-- so it is of each number
abbrev pub EachMatches : tree.FinMap nat_cmp Host → Wire → Type 0
EachMatches hosts wire = (n : ℕ) → Matches n (tree.get hosts n) (packets_of wire n)

-- ---- the whole, and its parts

module _ (hosts : tree.FinMap nat_cmp Host) (wire : Wire) where
  match_of : WireMatchesHosts hosts wire → (n : ℕ) (o : Option Host) → tree.get hosts n ≡ o → Matches n o (packets_of wire n)
  match_of wired n None is = λ number packet got.
      subst (IsNumberGiven number) is (wired.given (record { sender = record { 0 = n }; number = number }) packet got)
  match_of wired n (Some host) is = record {
    numbered = wired.numbered n host is;
    spelled = λ number packet got. wired.spelled (record { sender = record { 0 = n }; number = number }) packet got;
    given = λ number packet got. subst (IsNumberGiven number) is (wired.given (record { sender = record { 0 = n }; number = number }) packet got);
    on_the_way = λ up send there. subst (λ (k : ℕ). IsInFlight host.node send (packets_of wire k send.1.number)) (wired.numbered n host is)
        (All-contains (λ (send : NodeId × PeerReq). IsInFlight host.node send (tree.get wire (own_name host.node send))) (asked_by host.node) send
        (wired.on_the_way n host is up) there);
    awaited = λ up number packet got. wired.awaited (record { sender = record { 0 = n }; number = number }) packet host got is up;
  }

  pub each_match : WireMatchesHosts hosts wire → EachMatches hosts wire
  each_match wired n = match_of wired n (tree.get hosts n) refl

  pub all_wired : EachMatches hosts wire → WireMatchesHosts hosts wire
  all_wired each = record {
    spelled = λ name packet got. spelled_by name.sender.0 (tree.get hosts name.sender.0) (each name.sender.0) name.number packet got;
    given = λ name packet got. given_by name.sender.0 (tree.get hosts name.sender.0) (each name.sender.0) name.number packet got;
    numbered = λ n host is. (at n host is).numbered;
    on_the_way = λ n host is up. All-weaker
        (Contains (asked_by host.node)) (λ (send : NodeId × PeerReq). IsInFlight host.node send (tree.get wire (own_name host.node send)))
        (λ (send : NodeId × PeerReq) (there : Contains (asked_by host.node) send).
        subst (λ (k : ℕ). IsInFlight host.node send (packets_of wire k send.1.number)) (sym (at n host is).numbered) ((at n host is).on_the_way up send there))
        (asked_by host.node) (All-contains_itself (asked_by host.node));
    awaited = λ name packet host got is up. (at name.sender.0 host is).awaited up name.number packet got;
  }
    where
      at : (n : ℕ) (host : Host) → tree.get hosts n ≡ Some host → MatchesHost n host (packets_of wire n)
      at n host is = subst (λ (o : Option Host). Matches n o (packets_of wire n)) is (each n)

      spelled_by : (n : ℕ) (o : Option Host) → Matches n o (packets_of wire n) → (number : ℕ) (packet : Packet) → packets_of wire n number ≡ Some packet
          → IsReadablePacket (record { sender = record { 0 = n }; number = number }) packet
      spelled_by n None none number packet got = absurd (none number packet got)
      spelled_by n (Some host) matches number packet got = matches.spelled number packet got

      given_by : (n : ℕ) (o : Option Host) → Matches n o (packets_of wire n) → (number : ℕ) (packet : Packet) → packets_of wire n number ≡ Some packet
          → IsNumberGiven number o
      given_by n None none number packet got = none number packet got
      given_by n (Some host) matches number packet got = matches.given number packet got

-- ---- changes at one number

-- these packets are among those
abbrev pub AreAmong : Packets → Packets → Type 0
AreAmong packets before = (number : ℕ) (packet : Packet) → packets number ≡ Some packet → before number ≡ Some packet

same_match : (n : ℕ) (was is : Option Host) (before after : Packets) → is ≡ was → ((number : ℕ) → after number ≡ before number)
    → Matches n was before → Matches n is after
same_match n was is before after hosts packets matches =
    subst (λ (t : Option Host × Packets). Matches n t.0 t.1) (λ i. (sym hosts i, λ (number : ℕ). sym (packets number) i)) matches

module _ (hosts : tree.FinMap nat_cmp Host) (wire after : Wire) (n : ℕ) (each : EachMatches hosts wire)
    (apart : (q : ℕ) → q ≢ n → (number : ℕ) → packets_of after q number ≡ packets_of wire q number) where
  -- the packets of one number change
  pub packets_change : Matches n (tree.get hosts n) (packets_of after n) → EachMatches hosts after
  packets_change own q = ⊎_elim
      (λ (same : q ≡ n). subst (λ (k : ℕ). Matches k (tree.get hosts k) (packets_of after k)) (sym same) own)
      (λ (other : q ≢ n). same_match q (tree.get hosts q) (tree.get hosts q) (packets_of wire q) (packets_of after q) refl (apart q other) (each q))
      (cases_eq q n)

  -- and its host
  pub host_changes : (host : Host) → MatchesHost n host (packets_of after n) → EachMatches (tree.insert hosts n host) after
  host_changes host own q = ⊎_elim
      (λ (same : q ≡ n). subst (λ (k : ℕ). Matches k (tree.get (tree.insert hosts n host) k) (packets_of after k)) (sym same)
      (subst (λ (o : Option Host). Matches n o (packets_of after n)) (sym (get-insert_same hosts n host)) own))
      (λ (other : q ≢ n). same_match q (tree.get hosts q) (tree.get (tree.insert hosts n host) q) (packets_of wire q) (packets_of after q)
      (get-insert_other hosts n host q other) (apart q other) (each q))
      (cases_eq q n)

-- a host whose node waits for nothing, without packets
pub idle_matches : (n : ℕ) (host : Host) (packets : Packets) → host.node.me.0 ≡ n → asked_by host.node ≡ [] → AreNone packets
    → MatchesHost n host packets
idle_matches n host packets me idle none = record {
  numbered = me;
  spelled = λ number packet got. absurd (none number packet got);
  given = λ number packet got. absurd (none number packet got);
  on_the_way = λ up send there. absurd (Contains-nil send (subst (λ (sends : Sends). Contains sends send) idle there));
  awaited = λ up number packet got. absurd (none number packet got);
}

-- a host whose node isn't up, with some of the packets that it had
pub fewer_match : (n : ℕ) (old host : Host) (before packets : Packets) → host.node ≡ old.node → is_host_up host ≡ false → AreAmong packets before
    → MatchesHost n old before → MatchesHost n host packets
fewer_match n old host before packets same down among matches = record {
  numbered = ap (λ (node : Node). node.me.0) same ∙ matches.numbered;
  spelled = λ number packet got. matches.spelled number packet (among number packet got);
  given = λ number packet got. subst (λ (node : Node). number < node.sends) (sym same) (matches.given number packet (among number packet got));
  on_the_way = λ up send there. absurd (cc (up, down));
  awaited = λ up number packet got. absurd (cc (up, down));
}

-- ---- a node that sends

-- what becomes of the packets of a node that sends: those that stay do, and what it sends comes
pub record Moves (Stays : ℕ → Type 0) (sends : Sends) (before packets : Packets) : Type 0 where
  pub kept : (number : ℕ) (packet : Packet) → before number ≡ Some packet → Stays number → packets number ≡ Some packet
  pub came : (send : NodeId × PeerReq) → Contains sends send → packets send.1.number ≡ Some (packet_of send)
  pub were : (number : ℕ) (packet : Packet) → packets number ≡ Some packet
      → ((send : NodeId × PeerReq) × Contains sends send × (send.1.number ≡ number) × (packet_of send ≡ packet)) ⊎ (Stays number × (before number ≡ Some packet))

module _ (Stays : ℕ → Type 0) (n : ℕ) (host : Host) (node : Node) (sends : Sends) (before packets : Packets) (up : is_host_up host ≡ true)
    (matches : MatchesHost n host before) (asking : Asking Stays host.node node sends) (moves : Moves Stays sends before packets) where
  abbrev IsOfSend : ℕ → Packet → Type 0
  IsOfSend number packet = (send : NodeId × PeerReq) × Contains sends send × (send.1.number ≡ number) × (packet_of send ≡ packet)

  -- what a reply in the wire fits, it fits still
  fits_still : (send : NodeId × PeerReq) (packet : Packet) → send.1.number < host.node.sends → Stays send.1.number
      → IsInFlight host.node send (Some packet) → IsInFlight node send (Some packet)
  fits_still send (Request to bytes) below stays way = way
  fits_still send (Reply from bytes) below stays (from_so, (rsp, said, number, fit)) =
      let given : rsp.number < host.node.sends = subst (λ (q : ℕ). q < host.node.sends) (sym number) below in
      (from_so, (rsp, said, number, asking.fits_on rsp given (subst Stays (sym number) stays) fit))

  way_still : (send : NodeId × PeerReq) (o : Option Packet) → before send.1.number ≡ o → Stays send.1.number → IsInFlight host.node send o
      → IsInFlight node send (packets send.1.number)
  way_still send None got stays way = absurd way
  way_still send (Some packet) got stays way =
      subst (IsInFlight node send) (sym (moves.kept send.1.number packet got stays))
      (fits_still send packet (matches.given send.1.number packet got) stays way)

  pub sends_match : MatchesHost n (host_with_node host node) packets
  sends_match = record {
    numbered = ap (λ (me : NodeId). me.0) asking.me_so ∙ matches.numbered;
    spelled = λ number packet got. ⊎_elim
        (λ (new : IsOfSend number packet).
        let (send, there, same, is) = new in
        let own : send.1.from.0 ≡ n = ap (λ (me : NodeId). me.0) (asking.own send there) ∙ matches.numbered in
        subst (IsReadablePacket (record { sender = record { 0 = n }; number = number })) is
        (send.1, asking.read send there, λ i. record { sender = record { 0 = own i }; number = same i }))
        (λ (old : Stays number × (before number ≡ Some packet)). matches.spelled number packet old.1)
        (moves.were number packet got);
    given = λ number packet got. subst (λ (count : ℕ). number < count) (sym asking.count_so) (⊎_elim
        (λ (new : IsOfSend number packet).
        let (send, there, same, is) = new in
        let (low, high) = numbers_within host.node.sends sends send asking.numbers there in
        subst (λ (k : ℕ). k < host.node.sends + length sends) same high)
        (λ (old : Stays number × (before number ≡ Some packet)).
        let below : number < host.node.sends = matches.given number packet old.1 in omega (arith, below))
        (moves.were number packet got));
    on_the_way = λ able send there. ⊎_elim
        (λ (old : Contains (asked_by host.node) send × Stays send.1.number).
        way_still send (before send.1.number) refl old.1 (matches.on_the_way up send old.0))
        (λ (new : Contains sends send). subst (IsInFlight node send) (sym (moves.came send new)) (refl, asking.read send new))
        (asking.asked send there);
    awaited = λ able number packet got. ⊎_elim
        (λ (new : IsOfSend number packet).
        let (send, there, same, is) = new in
        subst (λ (k : ℕ). node_awaits k node ≡ true) same (asking.waits_too send there))
        (λ (old : Stays number × (before number ≡ Some packet)). asking.waits_on number (matches.awaited up number packet old.1) old.0)
        (moves.were number packet got);
  }

-- ---- a reply in the place of its request

-- what its sender waits for under a name was asked of the node that replies
pub reply_matches : (n number : ℕ) (host : Host) (before packets : Packets) (to : NodeId) (bytes : List ℕ) (rsp : PeerRsp)
    → before number ≡ Some (Request to bytes) → packets number ≡ Some (Reply to (say_bytes rsp))
    → ((q : ℕ) → q ≢ number → packets q ≡ before q) → say_in (say_bytes rsp) ≡ Ok rsp → rsp.number ≡ number
    → (is_host_up host ≡ true → fits_node rsp host.node ≡ true) → MatchesHost n host before → MatchesHost n host packets
reply_matches n number host before packets to bytes rsp there is others says same fit matches = record {
  numbered = matches.numbered;
  spelled = λ q packet got. ⊎_elim
      (λ (own : q ≡ number).
      let now : Reply to (say_bytes rsp) ≡ packet = same_Some (Reply to (say_bytes rsp)) packet (sym is ∙ ap packets (sym own) ∙ got) in
      subst (IsReadablePacket (record { sender = record { 0 = n }; number = q })) now (rsp, says, same ∙ sym own))
      (λ (other : q ≢ number). matches.spelled q packet (sym (others q other) ∙ got))
      (cases_eq q number);
  given = λ q packet got. ⊎_elim
      (λ (own : q ≡ number). matches.given q (Request to bytes) (ap before own ∙ there))
      (λ (other : q ≢ number). matches.given q packet (sym (others q other) ∙ got))
      (cases_eq q number);
  on_the_way = λ up send asks. ⊎_elim
      (λ (own : send.1.number ≡ number).
      let was : IsInFlight host.node send (Some (Request to bytes))
      = subst (IsInFlight host.node send) (ap before own ∙ there) (matches.on_the_way up send asks) in
      subst (IsInFlight host.node send) (sym (ap packets own ∙ is)) (was.0, (rsp, says, same ∙ sym own, fit up)))
      (λ (other : send.1.number ≢ number). subst (IsInFlight host.node send) (sym (others send.1.number other)) (matches.on_the_way up send asks))
      (cases_eq send.1.number number);
  awaited = λ up q packet got. ⊎_elim
      (λ (own : q ≡ number). matches.awaited up q (Request to bytes) (ap before own ∙ there))
      (λ (other : q ≢ number). matches.awaited up q packet (sym (others q other) ∙ got))
      (cases_eq q number);
}
