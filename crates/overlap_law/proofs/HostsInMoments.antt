-- A host that is there stays there over each change of a moment: its incarnation and its count of sends never fall, and where it begins its
-- next incarnation, nothing of its node is in the wire.
use Rattle.std.proofs.Common.{◌≡◌, ◌≢◌, ◌⊎◌, inl, inr, arith, ℕ, ◌+◌, ◌≤◌, ◌<◌, Bool, true, false, not, cond, List, length, Option, Some}
use Rattle.std.proofs.Common.{None, is_some, ⊎_elim, refl, sym, ap, subst, ◌∙◌}
use Rattle.std.specs.FinMap as tree
use Rattle.std.proofs.lemmas.Bool.{cases_eq, eq-eqb}
use Rattle.std.proofs.lemmas.List.{length-append}
use Rattle.std.proofs.lemmas.Option.{same_Some}
use Rattle.proof_tools.proofs.FiniteMaps.{get-insert_same, get-insert_other, insert-insert}
use Rattle.object_id.specs.declared.node.NodeId.{NodeId}
use Rattle.cluster_script.specs.declared.statement.Statement.{Statement}
use Rattle.cluster_script.specs.declared.statement.Statement.TheVariants as lines
use Rattle.peer_proto.specs.declared.ask.PeerReq.{PeerReq}
use Rattle.message_wire.specs.declared.name.MessageName.{MessageName}
use Rattle.message_wire.specs.declared.packet.Packet.{Packet}
use Rattle.message_wire.specs.declared.packet.Packet.TheVariants.{Request, Reply}
use Rattle.message_wire.specs.Message.{message_name, without_replies}
use Rattle.sheep_node.specs.declared.input.Input.TheVariants as inputs
use Rattle.sheep_node.specs.StepState.{StepState}
use Rattle.sheep_node.specs.Step.{node_step}
use Rattle.sheep_node.specs.Changes as changes
use Rattle.sheep_node.proofs.StepResults.{step_counts}
use Rattle.sheep_world.specs.World.{Host}
use Rattle.sheep_world.specs.Step.{EventOutcome}
use Rattle.sheep_world.specs.MembershipChanges.{lost_host}
use Rattle.sheep_world.specs.NodeCauses.{input_of_cause, host_with_node}
use Rattle.sheep_world.specs.EventKinds.{log_after_return}
use Rattle.sheep_world.specs.HostChanges.{host_after_return, joined_host}
use Rattle.sheep_world.specs.Began.{Began}
use Rattle.sheep_world.proofs.ControlLaws.{next_fits}
use Rattle.sheep_world.proofs.ReturningNodes.{no_sender}
use Rattle.overlap_law.specs.Reached.{Hosts}
use Rattle.overlap_law.specs.Past.{MomentWithPast}
use Rattle.overlap_law.specs.Packets.{Wire, is_request_in_flight}
use Rattle.overlap_law.specs.StepMoments.{SteppingNode, first_in_step, last_in_step, IsWithinStep, moment_in_step}
use Rattle.overlap_law.specs.MomentChanges as moments
use Rattle.overlap_law.specs.MomentChanges.{MomentChange, RunsAreInRange}
use Rattle.overlap_law.proofs.SendsOfChanges.{received_nothing, sends_grow, in_order_so_far}
use Rattle.overlap_law.proofs.KnownSteps.{together}
use Rattle.overlap_law.proofs.WireLemmas.{forgot}

-- nothing of a node is in the wire
abbrev pub SendsNothingIn : ℕ → Wire → Type 0
SendsNothingIn n wire = (name : MessageName) (packet : Packet) → tree.get wire name ≡ Some packet → name.sender.0 ≢ n

-- a host is there still
pub record HostStays (hosts_after : Hosts) (wire : Wire) (n : ℕ) (host : Host) : Type 0 where
  pub now : Host
  pub there : tree.get hosts_after n ≡ Some now
  pub incarnation : host.incarnation ≤ now.incarnation
  pub sends : host.node.sends ≤ now.node.sends
  pub renewed : host.incarnation < now.incarnation → SendsNothingIn n wire

-- each host is
abbrev pub HostsStay : MomentWithPast → MomentWithPast → Type 0
HostsStay before after =
    (n : ℕ) (host : Host) → tree.get before.world.hosts n ≡ Some host → HostStays after.world.hosts before.world.wire n host

none_less : (k : ℕ) → k ≤ k
none_less k = omega arith

same_incarnation : {P : Type 0} (k : ℕ) → k < k → P
same_incarnation k less = absurd (omega (arith, less))

as_it_was : (hosts_after : Hosts) (wire : Wire) (n : ℕ) (host : Host) → tree.get hosts_after n ≡ Some host
    → HostStays hosts_after wire n host
as_it_was hosts_after wire n host there = record {
  now = host;
  there = there;
  incarnation = none_less host.incarnation;
  sends = none_less host.node.sends;
  renewed = λ less. same_incarnation host.incarnation less;
}

same_hosts : (before after : MomentWithPast) → after.world.hosts ≡ before.world.hosts → HostsStay before after
same_hosts before after same n host there =
    as_it_was after.world.hosts before.world.wire n host (ap (λ (held : Hosts). tree.get held n) same ∙ there)

-- one host is another
one_host : (before after : MomentWithPast) (k : ℕ) (new : Host) → after.world.hosts ≡ tree.insert before.world.hosts k new
    → ((host : Host) → tree.get before.world.hosts k ≡ Some host → HostStays after.world.hosts before.world.wire k host)
    → HostsStay before after
one_host before after k new hosts own n host there = ⊎_elim
    (λ (is : n ≡ k). subst (λ (q : ℕ). HostStays after.world.hosts before.world.wire q host) (sym is)
    (own host (ap (tree.get before.world.hosts) (sym is) ∙ there))) (λ (apart : n ≢ k). as_it_was after.world.hosts before.world.wire n host
    (ap (λ (held : Hosts). tree.get held n) hosts ∙ get-insert_other before.world.hosts k new n apart ∙ there))
    (cases_eq n k)

-- the same host, in which the node has sent no fewer messages
more_sends : (before after : MomentWithPast) (k : ℕ) (old new : Host) → after.world.hosts ≡ tree.insert before.world.hosts k new
    → tree.get before.world.hosts k ≡ Some old → new.incarnation ≡ old.incarnation → old.node.sends ≤ new.node.sends
    → HostsStay before after
more_sends before after k old new hosts was incarnation sends = one_host before after k new hosts (λ host there.
    let same : old ≡ host = same_Some old host (sym was ∙ there) in
    let no_less : old.incarnation ≤ new.incarnation = omega (arith, incarnation) in
    subst (HostStays after.world.hosts before.world.wire k) same (record {
      now = new;
      there = ap (λ (held : Hosts). tree.get held k) hosts ∙ get-insert_same before.world.hosts k new;
      incarnation = no_less;
      sends = sends;
      renewed = λ less. absurd (omega (arith, incarnation, less));
    }))

pub none_there : {P : Type 0} (o : Option Host) (host : Host) → is_some o ≡ false → o ≡ Some host → P
none_there None host none is = absurd (cc (is))
none_there (Some other) host none is = absurd (cc (none))

module _ (script : List Statement) (range : RunsAreInRange script) (start : MomentWithPast) (began : Began script start.world) where
  goes_on_stays : (stepping : SteppingNode) (so_far next : StepState) → IsWithinStep stepping so_far next
      → HostsStay (moment_in_step script stepping start so_far) (moment_in_step script stepping start next)
  goes_on_stays stepping so_far next within =
      let was = host_with_node stepping.host so_far.node in
      let now = host_with_node stepping.host next.node in
      let (more, longer, epochs) = sends_grow so_far next within.change in
      let counted : so_far.node.sends ≡ stepping.host.node.sends + length
      so_far.outputs.sends = (in_order_so_far so_far within.leads).counted in
      let counted_next : next.node.sends ≡ stepping.host.node.sends + length next.outputs.sends
      = (in_order_so_far next (changes.Then within.leads within.change)).counted in
      let sum : length next.outputs.sends ≡ length so_far.outputs.sends + length more
      = ap (λ (sends : List (NodeId × PeerReq)). length sends) longer ∙ length-append so_far.outputs.sends more in
      let rises : so_far.node.sends ≤ next.node.sends = omega (arith, counted, counted_next, sum) in
      more_sends (moment_in_step script stepping start so_far) (moment_in_step script stepping start next) stepping.n was now
      (sym (insert-insert start.world.hosts stepping.n was now)) (get-insert_same start.world.hosts stepping.n was) refl rises

  pub hosts_stay : {before after : MomentWithPast} → MomentChange script start before after → HostsStay before after
  hosts_stay (moments.StepBegins stepping is by) =
      let same : (first_in_step stepping).node.sends ≡ stepping.host.node.sends = (received_nothing stepping.cause stepping.host.node
      by).0 in
      let rises : stepping.host.node.sends ≤ (first_in_step stepping).node.sends = omega (arith, same) in
      more_sends start (moment_in_step script stepping start (first_in_step stepping)) stepping.n stepping.host
      (host_with_node stepping.host (first_in_step stepping).node) refl is.there refl rises
  hosts_stay (moments.StepGoesOn stepping so_far next is by within) = goes_on_stays stepping so_far next within
  hosts_stay (moments.StepIsMade stepping is by) =
      let counted : (last_in_step stepping).node.sends ≡ stepping.host.node.sends + length (last_in_step stepping).outputs.sends
      = step_counts (input_of_cause stepping.cause) stepping.host.node in
      let rises : stepping.host.node.sends ≤ (last_in_step stepping).node.sends = omega (arith, counted) in
      more_sends start (moment_in_step script stepping start (last_in_step stepping)) stepping.n stepping.host
      (host_with_node stepping.host (last_in_step stepping).node) refl is.there refl rises
  hosts_stay {before} {after} (moments.LossIsUntold event made happened h) =
      same_hosts before after (ap (λ (m : EventOutcome). m.world.hosts) (sym h.made_so))
  hosts_stay {before} {after} (moments.DeliveryIsUnread event made happened h) =
      same_hosts before after (ap (λ (m : EventOutcome). m.world.hosts) (sym h.made_so))
  hosts_stay {before} {after} (moments.NodeIsLost event made happened h) =
      more_sends before after h.n h.host (lost_host h.host) (ap (λ (m : EventOutcome). m.world.hosts) (sym h.made_so)) h.there refl
      (none_less h.host.node.sends)
  hosts_stay {before} {after} (moments.NodeLeaves event made happened h) =
      same_hosts before after (ap (λ (m : EventOutcome). m.world.hosts) (sym h.made_so))
  hosts_stay {before} {after} (moments.NodeIsReweighted event made happened h) =
      same_hosts before after (ap (λ (m : EventOutcome). m.world.hosts) (sym h.made_so))
  hosts_stay {before} {after} (moments.NodeJoins event made happened h) =
      one_host before after h.n (joined_host script h.n) (ap (λ (m : EventOutcome). m.world.hosts) (sym h.made_so))
      (λ host there. none_there (tree.get start.world.hosts h.n) host
      (next_fits script start.world (lines.Join h.n) h.control (together script range start.world began).fit).1 there)
  hosts_stay {before} {after} (moments.NodeComesBack event made happened h) =
      let log = log_after_return script h.n start.world in
      let now = host_after_return log h.host in
      let counted = step_counts (inputs.Back log) h.host.node in
      let next : h.host.incarnation ≤ h.host.incarnation + 1 = omega arith in
      let rises : h.host.node.sends ≤ (node_step (inputs.Back log) h.host.node).node.sends = omega (arith, counted) in
      let hosts : after.world.hosts ≡ tree.insert before.world.hosts h.n now = ap (λ (m : EventOutcome). m.world.hosts) (sym h.made_so) in
      one_host before after h.n now hosts
      (λ host there.
      let same : h.host ≡ host = same_Some h.host host (sym h.there ∙ there) in
      subst (HostStays after.world.hosts before.world.wire h.n) same (record {
        now = now;
        there = ap (λ (held : Hosts). tree.get held h.n) hosts ∙ get-insert_same before.world.hosts h.n now;
        incarnation = next;
        sends = rises;
        renewed = λ less name packet got. no_sender start.world h.n (ap not h.no_end) name packet got;
      }))
  hosts_stay {before} {after} (moments.PhaseEnds event made happened h) =
      same_hosts before after (ap (λ (m : EventOutcome). m.world.hosts) (sym h.made_so))

-- ---- the lost

-- no reply to a node is in the wire
abbrev pub GetsNoReply : ℕ → Wire → Type 0
GetsNoReply n wire =
    (number : ℕ) (packet : Packet) → tree.get wire (message_name n number) ≡ Some packet → is_request_in_flight (Some packet) ≡ true

-- a node was lost
abbrev pub WasLostBefore : Hosts → ℕ → Type 0
WasLostBefore hosts n = (host : Host) × (tree.get hosts n ≡ Some host) × (host.is_lost ≡ true)

-- who is lost was lost before, or gets no reply
abbrev pub TheLostWereLost : MomentWithPast → MomentWithPast → Type 0
TheLostWereLost before after = (n : ℕ) (now : Host) → tree.get after.world.hosts n ≡ Some now → now.is_lost ≡ true
    → WasLostBefore before.world.hosts n ⊎ GetsNoReply n after.world.wire

same_lost : (before after : MomentWithPast) → after.world.hosts ≡ before.world.hosts → TheLostWereLost before after
same_lost before after same n now there lost = inl (now, ap (λ (held : Hosts). tree.get held n) (sym same) ∙ there, lost)

one_lost : (before after : MomentWithPast) (k : ℕ) (new : Host) → after.world.hosts ≡ tree.insert before.world.hosts k new
    → (new.is_lost ≡ true → WasLostBefore before.world.hosts k ⊎ GetsNoReply k after.world.wire) → TheLostWereLost before after
one_lost before after k new hosts own n now there lost = ⊎_elim
    (λ (is : n ≡ k).
    let at : tree.get after.world.hosts k ≡ Some new = ap (λ (held : Hosts). tree.get held k) hosts
    ∙ get-insert_same before.world.hosts k new in
    let same : new ≡ now = same_Some new now (sym at ∙ ap (tree.get after.world.hosts) (sym is) ∙ there) in
    subst (λ (q : ℕ). WasLostBefore before.world.hosts q ⊎ GetsNoReply q after.world.wire) (sym is)
    (own (ap (λ (h : Host). h.is_lost) same ∙ lost)))
    (λ (apart : n ≢ k).
    inl (now, sym (ap (λ (held : Hosts). tree.get held n) hosts ∙ get-insert_other before.world.hosts k new n apart) ∙ there, lost))
    (cases_eq n k)

-- a step leaves it as it is whether its node is lost
step_lost : (before after : MomentWithPast) (k : ℕ) (old new : Host) → after.world.hosts ≡ tree.insert before.world.hosts k new
    → tree.get before.world.hosts k ≡ Some old → new.is_lost ≡ old.is_lost → TheLostWereLost before after
step_lost before after k old new hosts was same = one_lost before after k new hosts (λ lost. inl (old, was, sym same ∙ lost))

-- the replies to a node are gone
none_to : (n : ℕ) (wire : Wire) → GetsNoReply n (without_replies n wire)
none_to n wire number packet got = by_packet (tree.get wire (message_name n number)) refl packet got
  where
    by_packet : (o : Option Packet) → tree.get wire (message_name n number) ≡ o → (packet : Packet)
        → tree.get (without_replies n wire) (message_name n number) ≡ Some packet → is_request_in_flight (Some packet) ≡ true
    by_packet None is packet got = let none = forgot n wire (message_name n number) None is in absurd (cc (got, none))
    by_packet (Some (Request to bytes)) is packet got =
        let same : Request to bytes ≡ packet = same_Some (Request to bytes) packet
        (sym (forgot n wire (message_name n number) (Some (Request to bytes)) is) ∙ got) in
        ap (λ (p : Packet). is_request_in_flight (Some p)) (sym same)
    by_packet (Some (Reply from bytes)) is packet got =
        let none = forgot n wire (message_name n number) (Some (Reply from bytes)) is
        ∙ ap (λ (b : Bool). cond (not b) (Some (Reply from bytes)) None) (eq-eqb n n refl) in
        absurd (cc (got, none))

pub lost_were_lost : (script : List Statement) {start before after : MomentWithPast} → MomentChange script start before after
    → TheLostWereLost before after
lost_were_lost script {start} (moments.StepBegins stepping is by) =
    step_lost start (moment_in_step script stepping start (first_in_step stepping)) stepping.n stepping.host
    (host_with_node stepping.host (first_in_step stepping).node) refl is.there refl
lost_were_lost script {start} (moments.StepGoesOn stepping so_far next is by within) =
    let was = host_with_node stepping.host so_far.node in
    let now = host_with_node stepping.host next.node in
    step_lost (moment_in_step script stepping start so_far) (moment_in_step script stepping start next) stepping.n was now
    (sym (insert-insert start.world.hosts stepping.n was now)) (get-insert_same start.world.hosts stepping.n was) refl
lost_were_lost script {start} (moments.StepIsMade stepping is by) =
    step_lost start (moment_in_step script stepping start (last_in_step stepping)) stepping.n stepping.host
    (host_with_node stepping.host (last_in_step stepping).node) refl is.there refl
lost_were_lost script {start} {before} {after} (moments.LossIsUntold event made happened h) =
    same_lost before after (ap (λ (m : EventOutcome). m.world.hosts) (sym h.made_so))
lost_were_lost script {start} {before} {after} (moments.DeliveryIsUnread event made happened h) =
    same_lost before after (ap (λ (m : EventOutcome). m.world.hosts) (sym h.made_so))
lost_were_lost script {start} {before} {after} (moments.NodeIsLost event made happened h) =
    one_lost before after h.n (lost_host h.host) (ap (λ (m : EventOutcome). m.world.hosts) (sym h.made_so))
    (λ lost. inr (subst (GetsNoReply h.n) (ap (λ (m : EventOutcome). m.world.wire) h.made_so) (none_to h.n start.world.wire)))
lost_were_lost script {start} {before} {after} (moments.NodeLeaves event made happened h) =
    same_lost before after (ap (λ (m : EventOutcome). m.world.hosts) (sym h.made_so))
lost_were_lost script {start} {before} {after} (moments.NodeIsReweighted event made happened h) =
    same_lost before after (ap (λ (m : EventOutcome). m.world.hosts) (sym h.made_so))
lost_were_lost script {start} {before} {after} (moments.NodeJoins event made happened h) =
    one_lost before after h.n (joined_host script h.n) (ap (λ (m : EventOutcome). m.world.hosts) (sym h.made_so))
    (λ lost. absurd (cc (lost)))
lost_were_lost script {start} {before} {after} (moments.NodeComesBack event made happened h) =
    one_lost before after h.n (host_after_return (log_after_return script h.n start.world) h.host)
    (ap (λ (m : EventOutcome). m.world.hosts) (sym h.made_so))
    (λ lost. absurd (cc (lost)))
lost_were_lost script {start} {before} {after} (moments.PhaseEnds event made happened h) =
    same_lost before after (ap (λ (m : EventOutcome). m.world.hosts) (sym h.made_so))
