-- What a node is told of a message of its open create or write fits the message's fate; and while it is told nothing, the message is in the
-- wire.
use Rattle.std.proofs.Common.{◌≡◌, ⊎_elim, ℕ, true, false, List, filter, Contains, Option, Some, None, is_some, slice_get, refl, sym, ap}
use Rattle.std.proofs.Common.{subst, ◌∙◌}
use Rattle.std.specs.FinMap as tree
use Rattle.std.proofs.lemmas.Bool.{or_cases}
use Rattle.std.proofs.lemmas.List.Elements.{Contains-append_left}
use Rattle.std.proofs.lemmas.Option.{same_Some}
use Rattle.proof_tools.proofs.FiniteMaps.{entries-contain}
use Rattle.proof_tools.proofs.Lists.{Contains-map, Contains-filter, Contains-flat_map}
use Rattle.object_id.specs.declared.node.NodeId.{NodeId}
use Rattle.peer_proto.specs.declared.ask.PeerReq.{PeerReq}
use Rattle.peer_proto.specs.declared.say.PeerSay.{PeerSay}
use Rattle.peer_proto.specs.declared.say.PeerSay.TheVariants as says
use Rattle.peer_proto.specs.declared.say.PeerRsp.{PeerRsp}
use Rattle.peer_proto.specs.declared.work.ObjWork.{ObjWork}
use Rattle.peer_proto.specs.declared.work.ObjWork.TheVariants as obj_works
use Rattle.message_wire.specs.declared.name.MessageName.{MessageName}
use Rattle.message_wire.specs.declared.packet.Packet.{Packet}
use Rattle.gateway.specs.declared.message.Message.{Message}
use Rattle.gateway.specs.declared.message.Status.TheVariants as statuses
use Rattle.gateway.specs.Work.{is_making}
use Rattle.gateway.specs.Attempt as gateways
use Rattle.gateway.specs.Attempt.{is_unanswered, status_by, send_of}
use Rattle.gateway.specs.State as gateway_states
use Rattle.gateway.specs.State.{Work, Open, is_awaited_in, asker, fits_work, fits_asker}
use Rattle.recovery.specs.State as recoveries
use Rattle.recovery.specs.Fits as recovery_fits
use Rattle.sheep_node.specs.State.{Node}
use Rattle.sheep_node.specs.RecoveryView.{recovery_state_of}
use Rattle.sheep_node.specs.May.{fits_node}
use Rattle.sheep_node.specs.OneWork.{HasOneWorkPerRequest}
use Rattle.sheep_node.proofs.AwaitedWorks.{found_got, got_found}
use Rattle.sheep_world.specs.WireMatch.{asked_by, asked_by_gateway, asked_by_recovery, unanswered_in, own_name, IsInFlight}
use Rattle.overlap_law.specs.Attempts.{AttemptRecord, MessageFate, Flying, Served, Doomed}
use Rattle.overlap_law.specs.Fates.{FatesAreOfTheWire, IsFateIn}
use Rattle.overlap_law.specs.Flight.{FatesAreTold}
use Rattle.overlap_law.specs.Packets.{Wire, message_name_at, is_name_in_wire, IsAnswering}
use Rattle.overlap_law.proofs.AttemptMessages.{contains_at}
use Rattle.overlap_law.proofs.KnownFates.{FitsFate}

-- ---- an unanswered message is in the wire

-- it is one that its node waits for
pub asked_message : (node : Node) (req : ℕ) (work : Work) (current : gateways.Attempt) (place : ℕ) (message : Message)
    → tree.get node.gateway.works req ≡ Some work
    → work.stage ≡ Open current → slice_get current.messages place ≡ Some message → message.status ≡ statuses.Unanswered
    → Contains (asked_by node) (send_of node.me current.epoch work.work message)
asked_message node req work current place message there stage got status =
    let send = send_of node.me current.epoch work.work message in
    let waits = λ (message : Message). is_unanswered message.status in
    let inside : Contains (unanswered_in node.me work work.stage) send
    = subst (λ stage. Contains (unanswered_in node.me work stage) send) (sym stage)
    (Contains-map (send_of node.me current.epoch work.work) (filter waits current.messages) message
    (Contains-filter waits current.messages message (contains_at current.messages place message got) (ap is_unanswered status))) in
    Contains-append_left (asked_by_gateway node.me node.gateway) (asked_by_recovery node.recovery) send
    (Contains-flat_map (λ (entry : ℕ × Work). unanswered_in node.me entry.1 entry.1.stage) (tree.entries node.gateway.works) (req, work)
    send (entries-contain tree.nat_cmp-IsAntisymmetric node.gateway.works req work there) inside)

pub in_flight : (node : Node) (send : NodeId × PeerReq) (wire : Wire) (name : MessageName) → own_name node send ≡ name
    → IsInFlight node send (tree.get wire (own_name node send)) → is_name_in_wire wire name ≡ true
in_flight node send wire name same way = by_packet (tree.get wire (own_name node send)) way (ap (tree.get wire) same)
  where
    by_packet : (o : Option Packet) → IsInFlight node send o → o ≡ tree.get wire name → is_name_in_wire wire name ≡ true
    by_packet None way is = absurd way
    by_packet (Some packet) way is = ap (λ (o : Option Packet). is_some o) (sym is)

-- ---- a reply to a create or write says that it was made, or why not

is_piece_none : (work : ObjWork) (bytes : List ℕ) → is_making work ≡ true → fits_work work (says.Piece bytes) ≡ true → ⊥
is_piece_none (obj_works.Create oid policy size offset payload) bytes making fit = cc (fit)
is_piece_none (obj_works.Write oid policy offset payload) bytes making fit = cc (fit)
is_piece_none (obj_works.Read oid policy offset size) bytes making fit = cc (making)
is_piece_none (obj_works.ReadAll oid policy size) bytes making fit = cc (making)

pub no_piece : (node : Node) (rsp : PeerRsp) (bytes : List ℕ) → HasOneWorkPerRequest node → fits_node rsp node ≡ true
    → (req : ℕ) (work : Work)
    → tree.get node.gateway.works req ≡ Some work → is_making work.work ≡ true → is_awaited_in rsp.number work ≡ true
    → rsp.say ≡ says.Piece bytes → ⊥
no_piece node rsp bytes one fit req work there making waits say =
    by_asker (asker rsp.number node.gateway) refl (got_found rsp.number node.gateway.works req work there waits)
  where
    by_message : (o : Option recoveries.Message) → is_some o ≡ false
        → recovery_fits.fits_message (recovery_state_of node).shown o rsp.say ≡ true → ⊥
    by_message None none fit = cc (fit)
    by_message (Some message) none fit = cc (none)

    by_asker : (o : Option (ℕ × Work)) → asker rsp.number node.gateway ≡ o → is_some o ≡ true → ⊥
    by_asker None is some = cc (some)
    by_asker (Some found) is some =
        let (got, awaits) = found_got rsp.number node.gateway.works found is in
        let same : found.0 ≡ req = one.once rsp.number found.0 req found.1 work got there awaits waits in
        let work_so : found.1 ≡ work = same_Some found.1 work (sym got ∙ ap (tree.get node.gateway.works) same ∙ there) in
        let apart = one.recovers rsp.number (ap (λ (o : Option (ℕ × Work)). is_some o) is) in
        ⊎_elim
        (λ (works : gateway_states.fits_gateway rsp node.gateway ≡ true).
        let fits : fits_work found.1.work (says.Piece bytes) ≡ true
        = sym (λ i. fits_asker (is i) (say i)) ∙ works in
        is_piece_none work.work bytes making (subst (λ (w : Work). fits_work w.work (says.Piece bytes) ≡ true) work_so fits))
        (λ (recovers : recovery_fits.fits_recovery rsp (recovery_state_of node) ≡ true).
        by_message (recoveries.message_of rsp.number (recoveries.all_unanswered node.recovery)) apart recovers)
        (or_cases (gateway_states.fits_gateway rsp node.gateway) (recovery_fits.fits_recovery rsp (recovery_state_of node)) fit)

-- ---- a reply to a message

pub reply_fits : (wire : Wire) (attempts : List AttemptRecord) → FatesAreTold wire attempts → FatesAreOfTheWire wire attempts
    → (j : ℕ) (was : AttemptRecord)
    → slice_get attempts j ≡ Some was → (place : ℕ) (target : NodeId) (fate : MessageFate) → slice_get was.targets place ≡ Some target
    → slice_get was.fates place ≡ Some fate → (from : NodeId) (rsp : PeerRsp) → IsAnswering wire (message_name_at was place) from rsp
    → ((bytes : List ℕ) → rsp.say ≡ says.Piece bytes → ⊥) → FitsFate (status_by rsp.say) fate
reply_fits wire attempts told fates j was at place target fate to has from rsp answering none =
    by_say rsp.say refl fate has (fates.each j was at place target fate to has)
  where
    by_say : (say : PeerSay) → rsp.say ≡ say → (fate : MessageFate) → slice_get was.fates place ≡ Some fate
        → IsFateIn wire was place target fate
        → FitsFate (status_by say) fate
    by_say says.Success is fate has inside =
        let served : slice_get was.fates place ≡ Some Served = (told.each j was at place target from rsp to answering).1 is in
        same_Some fate Served (sym has ∙ served)
    by_say (says.Piece bytes) is fate has inside = absurd (none bytes is)
    by_say (says.Objects oids) is fate has inside = tt
    by_say (says.Row row) is fate has inside = tt
    by_say says.NoRow is fate has inside = tt
    by_say (says.Refused refusal) is Flying has inside =
        let asked = inside.there in let answered = answering.there in absurd (cc (asked, answered))
    by_say (says.Refused refusal) is Served has inside =
        let so : rsp.say ≡ says.Success = (told.each j was at place target from rsp to answering).0 has in
        absurd (cc (is, so))
    by_say (says.Refused refusal) is Doomed has inside = refl
