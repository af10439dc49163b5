-- A piece that was on its way to an open read where an event began has what its teller owed, by what was good then, at each moment on the
-- way of the event at which its message is unanswered; also once the step is told of it, when it is in the wire no more.
use Rattle.std.proofs.Common.{◌≡◌, ⊎_elim, arith, ℕ, ◌<◌, Bool, true, false, List, Some, sym, ap, subst, ◌∙◌}
use Rattle.std.specs.FinMap as tree
use Rattle.object_id.specs.declared.node.NodeId.{NodeId}
use Rattle.cluster_script.specs.declared.statement.Statement.{Statement}
use Rattle.vdi_directory.specs.Decisions.{log_effects}
use Rattle.peer_proto.specs.declared.ask.PeerReq.{PeerReq}
use Rattle.peer_proto.specs.declared.say.PeerRsp.{PeerRsp}
use Rattle.peer_proto.specs.declared.say.PeerSay.TheVariants as says
use Rattle.peer_proto.specs.declared.work.ObjWork.{ObjWork}
use Rattle.peer_proto.specs.Ask.{ask_bytes}
use Rattle.peer_proto.specs.Work.{oid_of, policy_of}
use Rattle.message_wire.specs.Message.{message_name}
use Rattle.gateway.specs.declared.message.Message.{Message}
use Rattle.gateway.specs.Attempt as gateways
use Rattle.gateway.specs.Attempt.{send_of}
use Rattle.gateway.specs.State.{Work}
use Rattle.sheep_world.specs.World.{Host}
use Rattle.sheep_world.specs.Began.{Began}
use Rattle.sheep_world.specs.RunsWithAsks.{Move}
use Rattle.overlap_law.specs.Each.{policy_in}
use Rattle.overlap_law.specs.MomentChanges.{MomentChange, MomentTrail, RunsAreInRange, Still, Then}
use Rattle.overlap_law.specs.Packets.{IsAsking, IsAnswering}
use Rattle.overlap_law.specs.Past.{MomentWithPast, run_with_past}
use Rattle.overlap_law.specs.ToldPieces.{IsUnansweredOf, ToldPiecesAreSince}
use Rattle.overlap_law.proofs.HostsInMoments.{hosts_stay}
use Rattle.overlap_law.proofs.NoRecoveredDue.{began-with_past}
use Rattle.overlap_law.proofs.TellersOfPieces.{IsToldBy, tellers-on_the_way, teller_stays}
use Rattle.overlap_law.proofs.ToldBefore.{asked_before}
use Rattle.overlap_law.proofs.ToldPiecesSince.{IsWorkSince, teller_now, since_now, goes_on, work_so, own_then}
use Rattle.overlap_law.proofs.TrafficOfChanges.{traffic}
use Rattle.overlap_law.proofs.UnansweredInSteps.{WasUnansweredAt, MessageIsSentNow, unanswered_came}
use Rattle.overlap_law.specs.Sessions.{is_of_client_at}

module _ (script : List Statement) (range : RunsAreInRange script) (events : List Move) (start : MomentWithPast)
    (is : run_with_past script events ≡ Some start) (good : ℕ → Bool)
    (told : ToldPiecesAreSince (log_effects start.world.log) good start.world.hosts start.world.wire start.past.attempts) (n : ℕ)
    (first : Host) (first_there : tree.get start.world.hosts n ≡ Some first) (number : ℕ) (given : number < first.node.sends)
    (from : NodeId) (rsp : PeerRsp) (bytes : List ℕ) (answering : IsAnswering start.world.wire (message_name n number) from rsp)
    (said : rsp.say ≡ says.Piece bytes) where
  began : Began script start.world
  began = began-with_past script events start is

  -- what the teller told of a work, and that this has what the teller owed, if the object was good
  pub record IsHeldFor (moment : MomentWithPast) (work : ObjWork) (epoch index : ℕ) : Type 0 where
    pub teller : IsToldBy moment work epoch from
    pub since : good (oid_of work) ≡ true → policy_in (log_effects start.world.log) (oid_of work) ≡ Some (policy_of work)
        → IsWorkSince moment work epoch from index bytes

  -- the number was given, nothing is asked under it, and what is unanswered of that number holds the piece so
  record IsHeldAt (moment : MomentWithPast) : Type 0 where
    host : Host
    there : tree.get moment.world.hosts n ≡ Some host
    numbered : number < host.node.sends
    unasked : (to : NodeId) (request : PeerReq) → IsAsking moment.world.wire (message_name n number) to request → ⊥
    held : (now : Host) → tree.get moment.world.hosts n ≡ Some now → now.is_lost ≡ false → (req place : ℕ) (work : Work)
        (current : gateways.Attempt) (message : Message) → IsUnansweredOf now.node.gateway.works req work current place message
        → is_of_client_at req now.node ≡ false → message.number ≡ number → IsHeldFor moment work.work current.epoch.0 message.index

  at_first : IsHeldAt start
  at_first = record {
    host = first;
    there = first_there;
    numbered = given;
    unasked = λ to request asking.
        let asked = asking.there in
        let answered = answering.there in
        absurd (cc (asked, answered));
    held = λ now there up req place work current message of no_client same.
        let own : IsAnswering start.world.wire (message_name n message.number) from rsp
        = subst (λ (k : ℕ). IsAnswering start.world.wire (message_name n k) from rsp) (sym same) answering in
        record {
          teller = (tellers-on_the_way script range events start start is Still).told n now there up req place work current message from
              rsp bytes of own said;
          since = λ is_good known.
              told.each n now there up req place work current message from rsp bytes of no_client own said is_good known;
        };
  }

  module _ (before after : MomentWithPast) (trail : MomentTrail script start before) (change : MomentChange script start before after)
      (had : IsHeldAt before) where
    unasked_after : (to : NodeId) (request : PeerReq) → IsAsking after.world.wire (message_name n number) to request → ⊥
    unasked_after to request asking =
        had.unasked to request
        (asked_before before.world.hosts after.world.hosts before.world.wire before.past.attempts n number had.host had.there had.numbered
        (traffic script range start began change) to request asking)

    held_after : (now : Host) → tree.get after.world.hosts n ≡ Some now → now.is_lost ≡ false → (req place : ℕ) (work : Work)
        (current : gateways.Attempt) (message : Message) → IsUnansweredOf now.node.gateway.works req work current place message
        → is_of_client_at req now.node ≡ false → message.number ≡ number → IsHeldFor after work.work current.epoch.0 message.index
    held_after now there up req place work current message of no_client same = ⊎_elim
        (λ (was : WasUnansweredAt before.world.hosts n req work current place message).
        let old = had.held was.old was.there was.up req place was.of.was was.of.before message was.of.is
        (own_then script range events start is before after trail change n now there up req place work current message of was from bytes
        no_client) same in
        let teller = teller_now script range events start is before after trail change n now there up req place work current message of
        was from bytes old.teller in
        let work_is = work_so script range events start is before after trail change n now there up req place work current message of was
        from bytes in record {
          teller = teller_stays script range start before after began change work.work current.epoch.0 from teller;
          since = λ is_good known.
              goes_on script range events start is before after trail change n now there up req place work current message of was from
              bytes teller no_client
              (since_now script range events start is before after trail change n now there up req place work current message of was from
              bytes
              (old.since (ap (λ (w : ObjWork). good (oid_of w)) work_is ∙ is_good)
              (subst (λ (w : ObjWork). policy_in (log_effects start.world.log) (oid_of w) ≡ Some (policy_of w)) (sym work_is) known)));
        })
        (λ (new : MessageIsSentNow after.world.wire n now.node work current message).
        absurd (unasked_after message.node (send_of new.me current.epoch work.work message).1 (record {
          bytes = ask_bytes (send_of new.me current.epoch work.work message).1;
          there = ap (λ (k : ℕ). tree.get after.world.wire (message_name n k)) (sym same) ∙ new.there;
          spelled = new.read;
        })))
        (unanswered_came script range start began change n now req work current place message there up of)

    at_next : IsHeldAt after
    at_next =
        let stays = hosts_stay script range start began change n had.host had.there in
        let less = had.numbered in
        let more = stays.sends in
        record {
          host = stays.now;
          there = stays.there;
          numbered = omega (arith, less, more);
          unasked = unasked_after;
          held = held_after;
        }

  held_along : {moment : MomentWithPast} → MomentTrail script start moment → IsHeldAt moment
  held_along Still = at_first
  held_along (Then {moment} {next} trail change) = at_next moment next trail change (held_along trail)

  pub heard_piece : (moment : MomentWithPast) → MomentTrail script start moment → (now : Host) → tree.get moment.world.hosts n ≡ Some now
      → now.is_lost ≡ false → (req place : ℕ) (work : Work) (current : gateways.Attempt) (message : Message)
      → IsUnansweredOf now.node.gateway.works req work current place message → is_of_client_at req now.node ≡ false
      → message.number ≡ number → IsHeldFor moment work.work current.epoch.0 message.index
  heard_piece moment trail = (held_along trail).held
