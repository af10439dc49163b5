-- What a node tells of its rows in reply to a message of a recovery, and what stays so with rows from the message's epoch on, holds of its
-- rows as long as the reply is in the wire: in each run in range, and in the middle of its steps.
use Rattle.std.proofs.Common.{◌≡◌, ⊎_elim, arith, ℕ, ◌≤◌, false, List, Contains, Some, sym, ap, subst, ◌∙◌}
use Rattle.std.specs.FinMap as tree
use Rattle.std.proofs.lemmas.Option.{same_Some}
use Rattle.object_id.specs.declared.node.NodeId.{NodeId}
use Rattle.object_store.specs.Store.{SeenRow}
use Rattle.cluster_script.specs.declared.statement.Statement.{Statement}
use Rattle.peer_proto.specs.declared.ask.PeerReq.{PeerReq}
use Rattle.peer_proto.specs.declared.say.PeerRsp.{PeerRsp}
use Rattle.peer_proto.specs.declared.say.PeerSay.{PeerSay}
use Rattle.peer_service.specs.State.{Peer}
use Rattle.peer_service.specs.Serve.{tells_refusal, peer_step}
use Rattle.recovery.specs.State.{Message, all_unanswered}
use Rattle.message_wire.specs.Message.{message_name}
use Rattle.sheep_world.specs.World.{Host}
use Rattle.sheep_world.specs.Began.{Began}
use Rattle.overlap_law.specs.Reached.{Hosts}
use Rattle.overlap_law.specs.Each.{EachUp}
use Rattle.overlap_law.specs.Packets.{Wire, IsAnswering}
use Rattle.overlap_law.specs.Past.{MomentWithPast}
use Rattle.overlap_law.specs.MomentChanges.{MomentChange, RunsAreInRange, KeptByChanges}
use Rattle.overlap_law.proofs.AllAnswersInMoments.{AreAllTold, WasAwaitedOfAny, reached_at, all_came, was_told, new_epoch, opening_none}
use Rattle.overlap_law.proofs.AllAnswersInMoments.{kept_all_told}
use Rattle.overlap_law.proofs.AnswersInMoments.{IsSentNow}
use Rattle.overlap_law.proofs.StandingRows.{StandsFrom, AllStand, rows-stand}
use Rattle.overlap_law.proofs.ToldBefore.{IsNewAnswer}

module _ (D : PeerReq → PeerSay → ℕ → SeenRow → Type 0) where
  -- what a reply to a message tells holds of each row of the node that replied
  pub record AnswersStand (hosts : Hosts) (wire : Wire) : Type 0 where
    pub each : EachUp hosts (λ n node. (message : Message) → Contains (all_unanswered node.recovery) message
        → (from : NodeId) (rsp : PeerRsp)
        → IsAnswering wire (message_name n message.request.number) from rsp → tells_refusal rsp.say ≡ false → (host : Host)
        → tree.get hosts from.0 ≡ Some host → AllStand (D message.request rsp.say) host.node.peer)

  -- it holds of what is told, and stays so with rows from the epoch of the message on
  pub record IsToldOfRows : Type 0 where
    pub stands : (request : PeerReq) (say : PeerSay) → tells_refusal say ≡ false → StandsFrom request.epoch.0 (D request say)
    pub says : (peer : Peer) (request : PeerReq) → tells_refusal (peer_step peer request).say ≡ false
        → AllStand (D request (peer_step peer request).say) peer

  pub record ToldAndStand (moment : MomentWithPast) : Type 0 where
    pub told : AreAllTold moment
    pub stand : AnswersStand moment.world.hosts moment.world.wire

  module _ (of_rows : IsToldOfRows) (script : List Statement) (range : RunsAreInRange script) where
    module _ (start before after : MomentWithPast) (began : Began script start.world) (change : MomentChange script start before after)
        (holds : ToldAndStand before) where
      -- who answers now has such rows
      new_stands : (n : ℕ) (message : Message) (was : WasAwaitedOfAny before.world.hosts n message) (from : NodeId) (rsp : PeerRsp)
          (new : IsNewAnswer before.world.hosts before.world.wire (message_name n message.request.number) from rsp)
          → tells_refusal rsp.say ≡ false → AllStand (D message.request rsp.say) new.host.node.peer
      new_stands n message was from rsp new plain =
          let request_so : new.request ≡ message.request
          = (holds.told.asked n was.host was.there was.up message was.among from new.request new.asking).1 in
          let say_so : (peer_step new.host.node.peer new.request).say ≡ rsp.say = ap (λ (r : PeerRsp). r.say) new.said in
          subst (λ (request : PeerReq). AllStand (D request rsp.say) new.host.node.peer) request_so
          (subst (λ (say : PeerSay). AllStand (D new.request say) new.host.node.peer) say_so
          (of_rows.says new.host.node.peer new.request (ap tells_refusal say_so ∙ plain)))

      -- and who answered before has them still
      stood : (n : ℕ) (message : Message) (was : WasAwaitedOfAny before.world.hosts n message) (from : NodeId) (rsp : PeerRsp)
          → IsAnswering after.world.wire (message_name n message.request.number) from rsp → tells_refusal rsp.say ≡ false → (other : Host)
          → tree.get before.world.hosts from.0 ≡ Some other
          → (message.request.epoch.0 ≤ other.node.peer.epoch) × AllStand (D message.request rsp.say) other.node.peer
      stood n message was from rsp answering plain other at = ⊎_elim
          (λ (old : IsAnswering before.world.wire (message_name n message.request.number) from rsp). (
            reached_at before.world.hosts message.request.epoch.0 from other at
                ((holds.told.told n was.host was.there was.up message was.among from rsp old).1 plain),
            holds.stand.each n was.host was.there was.up message was.among from rsp old plain other at,
          ))
          (λ (new : IsNewAnswer before.world.hosts before.world.wire (message_name n message.request.number) from rsp).
          let epochs : new.host.node.peer.epoch ≡ message.request.epoch.0
          = new_epoch script range start began change holds.told n message was from rsp new plain in
          subst (λ (h : Host). (message.request.epoch.0 ≤ h.node.peer.epoch) × AllStand (D message.request rsp.say) h.node.peer)
          (same_Some new.host other (sym new.there ∙ at))
          (omega (arith, epochs), new_stands n message was from rsp new plain))
          (was_told script range start began change holds.told n message was from rsp answering)

      change_stand : AnswersStand after.world.hosts after.world.wire
      change_stand = record {
        each = λ n now there up message among from rsp answering plain host got. ⊎_elim
            (λ (was : WasAwaitedOfAny before.world.hosts n message).
            rows-stand message.request.epoch.0 (D message.request rsp.say) (of_rows.stands message.request rsp.say plain) script range start
            began change from.0 (λ other at. stood n message was from rsp answering plain other at) host got)
            (λ (new : IsSentNow after.world.hosts after.world.wire n now message).
            let asked = new.there in
            let answered = answering.there in
            absurd (cc (asked, answered)))
            (all_came script range start began change n now there up message among);
      }

    pub kept_standing : KeptByChanges script ToldAndStand
    kept_standing = record {
      opens = record {
        told = (kept_all_told script range).opens;
        stand = record { each = λ n host there up message among. opening_none script n host there message among };
      };
      keeps = λ start before after began change holds. record {
        told = (kept_all_told script range).keeps start before after began change holds.told;
        stand = change_stand start before after began change holds;
      };
    }
