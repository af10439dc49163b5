-- In each run in range, and in the middle of its steps, a piece of a copy that is on its way to an open read is of attempts: it was read of
-- a row of the node that tells it.
use Rattle.std.proofs.Common.{◌≡◌, ⊎_elim, arith, ℕ, ◌≤◌, ◌<◌, false, List}
use Rattle.std.proofs.Common.{Some, refl, sym, ap, subst, ◌∙◌}
use Rattle.std.specs.FinMap as tree
use Rattle.std.proofs.lemmas.Option.{same_Some}
use Rattle.object_id.specs.declared.node.NodeId.{NodeId}
use Rattle.object_id.specs.declared.policy.Policy.{Policy}
use Rattle.object_id.specs.Oid.{kind_of}
use Rattle.object_store.specs.Bytes.{piece_at}
use Rattle.object_store.specs.Store.{SeenRow, rows_of}
use Rattle.gf256.specs.Part.{is_in_strips}
use Rattle.cluster_script.specs.declared.statement.Statement.{Statement}
use Rattle.vdi_directory.specs.Decisions.{log_effects}
use Rattle.peer_proto.specs.declared.ask.PeerReq.{PeerReq}
use Rattle.peer_proto.specs.declared.say.PeerRsp.{PeerRsp}
use Rattle.peer_proto.specs.declared.say.PeerSay.TheVariants as says
use Rattle.peer_proto.specs.declared.work.ObjWork.{ObjWork}
use Rattle.peer_proto.specs.Ask.{ask_in, ask_bytes}
use Rattle.peer_proto.specs.Work.{oid_of, policy_of}
use Rattle.peer_service.specs.State.{Peer}
use Rattle.peer_service.specs.Serve.{reply_to}
use Rattle.message_wire.specs.declared.packet.Packet.{Packet}
use Rattle.message_wire.specs.declared.packet.Packet.TheVariants.{Request}
use Rattle.message_wire.specs.Message.{message_name}
use Rattle.gateway.specs.declared.message.Message.{Message}
use Rattle.gateway.specs.Attempt as gateways
use Rattle.gateway.specs.Attempt.{send_of}
use Rattle.gateway.specs.State.{Work}
use Rattle.gateway.specs.Work.{ask_for, asks_all}
use Rattle.sheep_node.specs.State.{Node}
use Rattle.sheep_world.specs.World.{Host}
use Rattle.sheep_world.specs.Began.{Began}
use Rattle.sheep_world.proofs.RecoveryMessages.{same_asked}
use Rattle.sheep_world.specs.RunsWithAsks.{Move}
use Rattle.object_id.specs.declared.entry.Entry.{Entry}
use Rattle.overlap_law.proofs.EpochsRise.{epochs_rise}
use Rattle.object_id.specs.declared.node.Epoch.{Epoch}
use Rattle.overlap_law.specs.Attempts.{attempts_on}
use Rattle.overlap_law.specs.Each.{EachUp, policy_in}
use Rattle.overlap_law.specs.Packets.{IsAsking, IsAnswering}
use Rattle.overlap_law.specs.Past.{MomentWithPast, run_with_past}
use Rattle.overlap_law.specs.MomentChanges.{MomentChange, MomentTrail, RunsAreInRange, KeptByChanges}
use Rattle.overlap_law.specs.ToldPieces.{IsUnansweredOf, offset_read, IsPieceOfAttempts, ToldPiecesAreOfAttempts}
use Rattle.overlap_law.proofs.AnswersInMoments.{bytes_or}
use Rattle.overlap_law.proofs.GrownAttempts.{traffic_goes_on, grows-object}
use Rattle.overlap_law.proofs.HostsInMoments.{hosts_stay}
use Rattle.overlap_law.proofs.LogsInMoments.{LogGrows, log_grows}
use Rattle.overlap_law.proofs.MessagesInMoments.{no_works}
use Rattle.overlap_law.proofs.PendingOfNodes.{policy_stays}
use Rattle.overlap_law.proofs.PlacedRows.{IsPlaced}
use Rattle.overlap_law.proofs.ReadingLaws.{AttemptsGrow}
use Rattle.overlap_law.proofs.RowSteps.{all_at}
use Rattle.overlap_law.proofs.RunsByChanges.{on_the_way}
use Rattle.overlap_law.proofs.ToldBefore.{IsNewAnswer, asked_before, told_before}
use Rattle.overlap_law.proofs.ToldCopies.{CopiesHold, kept_copies}
use Rattle.overlap_law.proofs.TrafficOfChanges.{traffic}
use Rattle.overlap_law.proofs.UnansweredInSteps.{AsksOne, WasUnansweredAt, MessageIsSentNow, unanswered_came}
use Rattle.overlap_law.proofs.PiecesOfRows.{GivesPiece, peer_gives, IsReadOfRow, work_reads, piece-of_attempts}

-- ---- what is told

-- the policy of the object is known, and a piece of a copy of it is of attempts
pub record IsToldPiece (moment : MomentWithPast) (oid index offset : ℕ) (bytes : List ℕ) : Type 0 where
  pub policy : Policy
  pub made : policy_in (log_effects moment.world.log) oid ≡ Some policy
  pub of_attempts : is_in_strips policy (kind_of oid) ≡ false
      → IsPieceOfAttempts (kind_of oid) (attempts_on oid moment.past.attempts) index offset bytes

-- the messages of a node's open works have numbers that it gave, and are of an epoch that it came to; a read of copies has one of them.
-- They are in the wire as their works ask, or answered, and a piece of a copy that they are answered with is of attempts
pub record ReadsAreTold (moment : MomentWithPast) : Type 0 where
  pub copies : CopiesHold moment
  pub given : EachUp moment.world.hosts (λ n node. (req place : ℕ) (work : Work) (current : gateways.Attempt) (message : Message)
      → IsUnansweredOf node.gateway.works req work current place message → message.number < node.sends)
  pub past : EachUp moment.world.hosts (λ n node. (req place : ℕ) (work : Work) (current : gateways.Attempt) (message : Message)
      → IsUnansweredOf node.gateway.works req work current place message → current.epoch.0 ≤ node.peer.epoch)
  pub few : EachUp moment.world.hosts (λ n node. (req place : ℕ) (work : Work) (current : gateways.Attempt) (message : Message)
      → IsUnansweredOf node.gateway.works req work current place message → AsksOne work current)
  pub asked : EachUp moment.world.hosts (λ n node. (req place : ℕ) (work : Work) (current : gateways.Attempt) (message : Message)
      (to : NodeId) (request : PeerReq) → IsUnansweredOf node.gateway.works req work current place message
      → IsAsking moment.world.wire (message_name n message.number) to request → request.ask ≡ ask_for work.work message.index)
  pub told : EachUp moment.world.hosts (λ n node. (req place : ℕ) (work : Work) (current : gateways.Attempt) (message : Message)
      (from : NodeId) (rsp : PeerRsp) (bytes : List ℕ) → IsUnansweredOf node.gateway.works req work current place message
      → IsAnswering moment.world.wire (message_name n message.number) from rsp → rsp.say ≡ says.Piece bytes
      → is_in_strips (policy_of work.work) (kind_of (oid_of work.work)) ≡ false
      → IsToldPiece moment (oid_of work.work) message.index (offset_read work.work) bytes)

module _ (script : List Statement) (range : RunsAreInRange script) (start before after : MomentWithPast) (began : Began script start.world)
    (change : MomentChange script start before after) where
  -- what was told stays of attempts
  pub piece_stays : (oid index offset : ℕ) (bytes : List ℕ) → IsToldPiece before oid index offset bytes
      → IsToldPiece after oid index offset bytes
  piece_stays oid index offset bytes is =
      let grows : LogGrows before.world.log after.world.log = log_grows script change in
      let grow : AttemptsGrow (attempts_on oid before.past.attempts) (attempts_on oid after.past.attempts)
      = grows-object oid before.past.attempts after.past.attempts
      (traffic_goes_on before.world.hosts after.world.hosts before.world.wire before.past.attempts
      (traffic script range start began change)) in
      record {
        policy = is.policy;
        made = ap (λ (log : List Entry). policy_in (log_effects log) oid) grows.is
            ∙ policy_stays before.world.log grows.rest oid is.policy is.made;
        of_attempts = λ whole. record {
          each = λ unit above below.
              let (k, attempt, at, has) = (is.of_attempts whole).each unit above below in
              let (fates, now, muter) = grow.stays k attempt at in
              (k, record attempt { fates = fates }, now, has);
        };
      }

  module _ (holds : ReadsAreTold before) where
    -- a piece that is told now is of a row of the node that tells it
    told_now : (work : ObjWork) (index : ℕ) (host : Host) (from : ℕ) → tree.get before.world.hosts from ≡ Some host → (request : PeerReq)
        → request.ask ≡ ask_for work index → (bytes : List ℕ) → (reply_to host.node.peer request).say ≡ says.Piece bytes
        → is_in_strips (policy_of work) (kind_of (oid_of work)) ≡ false
        → IsToldPiece before (oid_of work) index (offset_read work) bytes
    told_now work index host from there request asks_so bytes said whole =
        let peer : Peer = host.node.peer in
        let oid : ℕ = oid_of work in
        let of_row : IsReadOfRow peer.rows oid index (offset_read work) bytes
        = work_reads work index peer bytes (subst (GivesPiece peer bytes) asks_so (peer_gives peer request bytes said)) whole in
        let row : SeenRow = of_row.row in
        let own : IsPlaced before.world.log from peer.epoch oid row
        = all_at (IsPlaced before.world.log from peer.epoch oid) (rows_of peer.rows oid) of_row.place row of_row.there
        (holds.copies.placed.placed from host there oid) in
        record {
          policy = own.policy;
          made = own.made;
          of_attempts = λ copies.
              let of = holds.copies.copies.each from host there oid of_row.place row of_row.there own.policy refl own.made copies in
              subst (IsPieceOfAttempts (kind_of oid) (attempts_on oid before.past.attempts) index (offset_read work)) of_row.same
              (subst (λ (k : ℕ). IsPieceOfAttempts (kind_of oid) (attempts_on oid before.past.attempts) k (offset_read work)
              (piece_at row.bytes (offset_read work) of_row.size)) of_row.index_so
              (piece-of_attempts (kind_of oid) own.policy (attempts_on oid before.past.attempts) row.index (offset_read work) of_row.size
              row.bytes copies of));
        }

    -- a message of a work that was unanswered before
    module _ (n req place : ℕ) (work : Work) (current : gateways.Attempt) (message : Message)
        (was : WasUnansweredAt before.world.hosts n req work current place message) where
      was_given : message.number < was.old.node.sends
      was_given = holds.given n was.old was.there was.up req place was.of.was was.of.before message was.of.is

      was_asked : (to : NodeId) (request : PeerReq) → IsAsking before.world.wire (message_name n message.number) to request
          → request.ask ≡ ask_for work.work message.index
      was_asked to request asking =
          holds.asked n was.old was.there was.up req place was.of.was was.of.before message to request was.of.is asking
          ∙ ap (λ (w : ObjWork). ask_for w message.index) (sym was.of.work_so)

      still_given : (now : Host) → tree.get after.world.hosts n ≡ Some now → message.number < now.node.sends
      still_given now there =
          let stays = hosts_stay script range start began change n was.old was.there in
          let same : stays.now ≡ now = same_Some stays.now now (sym stays.there ∙ there) in
          let more : was.old.node.sends ≤ now.node.sends = subst (λ (h : Host). was.old.node.sends ≤ h.node.sends) same stays.sends in
          let old = was_given in
          omega (arith, more, old)

      still_past : (now : Host) → tree.get after.world.hosts n ≡ Some now → current.epoch.0 ≤ now.node.peer.epoch
      still_past now there =
          let (then, is, rises) = epochs_rise script range start began change n was.old was.there in
          let same : then ≡ now = same_Some then now (sym is ∙ there) in
          let more : was.old.node.peer.epoch ≤ now.node.peer.epoch
          = subst (λ (h : Host). was.old.node.peer.epoch ≤ h.node.peer.epoch) same rises in
          let old = holds.past n was.old was.there was.up req place was.of.was was.of.before message was.of.is in
          let epoch : current.epoch.0 ≡ was.of.before.epoch.0 = ap (λ (e : Epoch). e.0) was.of.epoch_so in
          omega (arith, more, old, epoch)

      still_few : AsksOne work current
      still_few all =
          let few = holds.few n was.old was.there was.up req place was.of.was was.of.before message was.of.is
          (ap (λ (w : ObjWork). asks_all w) (sym was.of.work_so) ∙ all) in
          let count = was.of.count_so in
          omega (arith, few, count)

      still_asked : (to : NodeId) (request : PeerReq) → IsAsking after.world.wire (message_name n message.number) to request
          → request.ask ≡ ask_for work.work message.index
      still_asked to request asking =
          was_asked to request
          (asked_before before.world.hosts after.world.hosts before.world.wire before.past.attempts n message.number was.old was.there
          was_given
          (traffic script range start began change) to request asking)

      still_told : (from : NodeId) (rsp : PeerRsp) (bytes : List ℕ) → IsAnswering after.world.wire (message_name n message.number) from rsp
          → rsp.say ≡ says.Piece bytes → is_in_strips (policy_of work.work) (kind_of (oid_of work.work)) ≡ false
          → IsToldPiece after (oid_of work.work) message.index (offset_read work.work) bytes
      still_told from rsp bytes answering said whole =
          piece_stays (oid_of work.work) message.index (offset_read work.work) bytes
          (⊎_elim
          (λ (old : IsAnswering before.world.wire (message_name n message.number) from rsp).
          let same : was.of.was.work ≡ work.work = sym was.of.work_so in
          subst (λ (w : ObjWork). IsToldPiece before (oid_of w) message.index (offset_read w) bytes) same
          (holds.told n was.old was.there was.up req place was.of.was was.of.before message from rsp bytes was.of.is old said
          (ap (λ (w : ObjWork). is_in_strips (policy_of w) (kind_of (oid_of w))) same ∙ whole)))
          (λ (new : IsNewAnswer before.world.hosts before.world.wire (message_name n message.number) from rsp).
          told_now work.work message.index new.host from.0 new.there new.request (was_asked from new.request new.asking) bytes
          (ap (λ (r : PeerRsp). r.say) new.said ∙ said) whole)
          (told_before before.world.hosts after.world.hosts before.world.wire before.past.attempts n message.number was.old was.there
          was_given (traffic script range start began change) from rsp answering))

    -- and one that is sent now
    new_asked : (n : ℕ) (node : Node) (work : Work) (current : gateways.Attempt) (message : Message)
        → MessageIsSentNow after.world.wire n node work current message → (to : NodeId) (request : PeerReq)
        → IsAsking after.world.wire (message_name n message.number) to request → request.ask ≡ ask_for work.work message.index
    new_asked n node work current message new to request asking =
        let sent : PeerReq = (send_of new.me current.epoch work.work message).1 in
        let same : ◌≡◌ {A = Packet} (Request to asking.bytes) (Request message.node (ask_bytes sent))
        = same_Some (Request to asking.bytes) (Request message.node (ask_bytes sent)) (sym asking.there ∙ new.there) in
        ap (λ (r : PeerReq). r.ask)
        (same_asked request sent (sym asking.spelled ∙ ap (λ (p : Packet). ask_in (bytes_or p)) same ∙ new.read))

    pub reads_after : ReadsAreTold after
    reads_after = record {
      copies = (kept_copies script range).keeps start before after began change holds.copies;
      given = λ n now there up req place work current message is. ⊎_elim
          (λ (was : WasUnansweredAt before.world.hosts n req work current place message). still_given n req place work current message was
          now there)
          (λ (new : MessageIsSentNow after.world.wire n now.node work current message). new.given)
          (unanswered_came script range start began change n now req work current place message there up is);
      past = λ n now there up req place work current message is. ⊎_elim
          (λ (was : WasUnansweredAt before.world.hosts n req work current place message).
          still_past n req place work current message was now there)
          (λ (new : MessageIsSentNow after.world.wire n now.node work current message). new.past)
          (unanswered_came script range start began change n now req work current place message there up is);
      few = λ n now there up req place work current message is. ⊎_elim
          (λ (was : WasUnansweredAt before.world.hosts n req work current place message). still_few n req place work current message was)
          (λ (new : MessageIsSentNow after.world.wire n now.node work current message). new.few)
          (unanswered_came script range start began change n now req work current place message there up is);
      asked = λ n now there up req place work current message to request is asking. ⊎_elim
          (λ (was : WasUnansweredAt before.world.hosts n req work current place message).
          still_asked n req place work current message was to request asking)
          (λ (new : MessageIsSentNow after.world.wire n now.node work current message).
          new_asked n now.node work current message new to request asking)
          (unanswered_came script range start began change n now req work current place message there up is);
      told = λ n now there up req place work current message from rsp bytes is answering said whole. ⊎_elim
          (λ (was : WasUnansweredAt before.world.hosts n req work current place message).
          still_told n req place work current message was from rsp bytes answering said whole)
          (λ (new : MessageIsSentNow after.world.wire n now.node work current message).
          let asked = new.there in
          let answered = answering.there in
          absurd (cc (asked, answered)))
          (unanswered_came script range start began change n now req work current place message there up is);
    }

-- ---- every moment

module _ (script : List Statement) (range : RunsAreInRange script) where
  pub kept_reads : KeptByChanges script ReadsAreTold
  kept_reads = record {
    opens = record {
      copies = (kept_copies script range).opens;
      given = λ n host there up req place work current message is. absurd (no_works script n host there req work is.there);
      past = λ n host there up req place work current message is. absurd (no_works script n host there req work is.there);
      few = λ n host there up req place work current message is. absurd (no_works script n host there req work is.there);
      asked = λ n host there up req place work current message to request is asking. absurd
          (no_works script n host there req work is.there);
      told = λ n host there up req place work current message from rsp bytes is answering said whole.
          absurd (no_works script n host there req work is.there);
    };
    keeps = λ start before after began change holds. reads_after script range start before after began change holds;
  }

  module _ (events : List Move) (start moment : MomentWithPast) (is : run_with_past script events ≡ Some start)
      (trail : MomentTrail script start moment) where
    pub reads-on_the_way : ReadsAreTold moment
    reads-on_the_way = on_the_way script ReadsAreTold kept_reads events start moment is trail

    pub told_pieces-on_the_way :
        ToldPiecesAreOfAttempts (log_effects moment.world.log) moment.world.hosts moment.world.wire moment.past.attempts
    told_pieces-on_the_way = record {
      each = λ n host there up req place work current message from rsp bytes of answering said known whole.
          let told : IsToldPiece moment (oid_of work.work) message.index (offset_read work.work) bytes
          = reads-on_the_way.told n host there up req place work current message from rsp bytes of answering said whole in
          let same : told.policy ≡ policy_of work.work = same_Some told.policy (policy_of work.work) (sym told.made ∙ known) in
          told.of_attempts (ap (λ (p : Policy). is_in_strips p (kind_of (oid_of work.work))) same ∙ whole);
    }
