-- In each run in range, and in the middle of its steps, what is asked for an open work is of its epoch; and who has told it a piece came
-- to that epoch, and is a target of the object in it.
use Rattle.std.proofs.Common.{◌≡◌, ◌⊎◌, ⊎_elim, arith, ℕ, ◌≤◌, ◌<◌, false, true, List, Some, sym, ap, subst, ◌∙◌}
use Rattle.std.specs.FinMap as tree
use Rattle.std.proofs.lemmas.Option.{same_Some}
use Rattle.object_id.specs.declared.entry.Entry.{Entry}
use Rattle.object_id.specs.declared.node.Epoch.{Epoch}
use Rattle.object_id.specs.declared.node.NodeId.{NodeId}
use Rattle.object_id.specs.declared.policy.Policy.{Policy}
use Rattle.object_id.specs.Oid.{kind_of}
use Rattle.object_list.specs.Gathered.{has_node}
use Rattle.object_store.specs.Store.{SeenRow, rows_of}
use Rattle.cluster_script.specs.declared.statement.Statement.{Statement}
use Rattle.epoch_log.specs.Epochs.{epoch_of}
use Rattle.epoch_log.proofs.EpochLemmas.{epoch_of-append}
use Rattle.vdi_directory.specs.Decisions.{log_effects}
use Rattle.gf256.specs.Part.{part_size}
use Rattle.peer_proto.specs.declared.ask.PeerReq.{PeerReq}
use Rattle.peer_proto.specs.declared.say.PeerRsp.{PeerRsp}
use Rattle.peer_proto.specs.declared.say.PeerSay.TheVariants as says
use Rattle.peer_proto.specs.declared.work.ObjWork.{ObjWork}
use Rattle.peer_proto.specs.Ask.{ask_in, ask_bytes}
use Rattle.peer_proto.specs.Work.{oid_of, policy_of}
use Rattle.peer_service.specs.Serve.{reply_to, tells_refusal}
use Rattle.message_wire.specs.declared.packet.Packet.{Packet}
use Rattle.message_wire.specs.declared.packet.Packet.TheVariants.{Request}
use Rattle.message_wire.specs.Message.{message_name}
use Rattle.gateway.specs.declared.message.Message.{Message}
use Rattle.gateway.specs.Attempt as gateways
use Rattle.gateway.specs.Attempt.{send_of}
use Rattle.gateway.specs.State.{Work}
use Rattle.gateway.specs.Work.{ask_for, is_making}
use Rattle.sheep_node.specs.State.{Node}
use Rattle.sheep_world.specs.World.{Host}
use Rattle.sheep_world.specs.Began.{Began}
use Rattle.sheep_world.proofs.RecoveryMessages.{same_asked}
use Rattle.sheep_world.specs.RunsWithAsks.{Move}
use Rattle.overlap_law.specs.Each.{EachUp, end_of_row, policy_in, has_reached, index_of_part}
use Rattle.overlap_law.specs.Holders.{targets_by}
use Rattle.overlap_law.specs.MomentChanges.{MomentChange, MomentTrail, RunsAreInRange, KeptByChanges}
use Rattle.overlap_law.specs.Packets.{IsAsking, IsAnswering}
use Rattle.overlap_law.specs.Past.{MomentWithPast, run_with_past}
use Rattle.overlap_law.specs.ToldPieces.{IsUnansweredOf, offset_read}
use Rattle.overlap_law.proofs.AnswersInMoments.{bytes_or}
use Rattle.overlap_law.proofs.CoveredLevels.{covers_by}
use Rattle.overlap_law.proofs.EpochsRise.{epochs_rise}
use Rattle.overlap_law.proofs.LackedInRuns.{index-has_node}
use Rattle.overlap_law.proofs.LogsInMoments.{LogGrows, log_grows}
use Rattle.overlap_law.proofs.MessagesInMoments.{no_works}
use Rattle.overlap_law.proofs.PendingOfNodes.{policy_stays}
use Rattle.overlap_law.proofs.PiecesOfRows.{GivesPiece, peer_gives, IsReadOfRow, work_cuts}
use Rattle.overlap_law.proofs.PlacedRows.{IsPlaced, some_by_policy}
use Rattle.overlap_law.proofs.ReadInMoments.{epoch_within}
use Rattle.overlap_law.proofs.RowsInTurn.{end_open, within_at}
use Rattle.overlap_law.proofs.RowSteps.{all_at}
use Rattle.overlap_law.proofs.RunsByChanges.{on_the_way}
use Rattle.overlap_law.proofs.ShapedAttempts.{targets_stay}
use Rattle.overlap_law.proofs.StayingRows.{RowsHold, kept_rows}
use Rattle.overlap_law.proofs.ToldBefore.{IsNewAnswer, asked_before, told_before, of_own_epoch, reached_by, still_reached}
use Rattle.overlap_law.proofs.ToldPieces.{ReadsAreTold, kept_reads}
use Rattle.overlap_law.proofs.TrafficOfChanges.{traffic}
use Rattle.overlap_law.proofs.UnansweredInSteps.{WasUnansweredAt, MessageIsSentNow, unanswered_came}

-- the work reads an object of a policy that is known, and the node is a target of it in the epoch, and came to that
pub record IsToldBy (moment : MomentWithPast) (work : ObjWork) (epoch : ℕ) (from : NodeId) : Type 0 where
  pub reads : is_making work ≡ false
  pub reached : has_reached moment.world.hosts epoch from ≡ true
  pub policy : Policy
  pub made : policy_in (log_effects moment.world.log) (oid_of work) ≡ Some policy
  pub target : has_node from (targets_by moment.world.log epoch (oid_of work) policy) ≡ true
  pub begun : epoch ≤ epoch_of moment.world.log

-- what an open work waits for is asked in its epoch, and who has told a piece to it is such a node
pub record TellersAreTargets (moment : MomentWithPast) : Type 0 where
  pub reads : ReadsAreTold moment
  pub rows : RowsHold moment
  pub asked : EachUp moment.world.hosts (λ n node. (req place : ℕ) (work : Work) (current : gateways.Attempt) (message : Message)
      (to : NodeId) (request : PeerReq) → IsUnansweredOf node.gateway.works req work current place message
      → IsAsking moment.world.wire (message_name n message.number) to request → request.epoch.0 ≡ current.epoch.0)
  pub told : EachUp moment.world.hosts (λ n node. (req place : ℕ) (work : Work) (current : gateways.Attempt) (message : Message)
      (from : NodeId) (rsp : PeerRsp) (bytes : List ℕ) → IsUnansweredOf node.gateway.works req work current place message
      → IsAnswering moment.world.wire (message_name n message.number) from rsp → rsp.say ≡ says.Piece bytes
      → IsToldBy moment work.work current.epoch.0 from)

-- ---- who tells a piece

-- a piece that a node gives is of an open row of it, so the node is a target in its epoch
module _ (moment : MomentWithPast) (reads : ReadsAreTold moment) (rows : RowsHold moment) (work : ObjWork) (epoch index : ℕ) (host : Host)
    (from : NodeId) (there : tree.get moment.world.hosts from.0 ≡ Some host) (request : PeerReq)
    (asks_so : request.ask ≡ ask_for work index) (epoch_so : request.epoch.0 ≡ epoch) (bytes : List ℕ)
    (said : (reply_to host.node.peer request).say ≡ says.Piece bytes) where
  pub own_epoch : host.node.peer.epoch ≡ epoch
  own_epoch = of_own_epoch host.node.peer request (ap tells_refusal said) ∙ epoch_so

  pub cut : (is_making work ≡ false)
      × IsReadOfRow host.node.peer.rows (oid_of work) index (part_size (policy_of work) (kind_of (oid_of work)) (offset_read work)) bytes
  cut =
      work_cuts work index host.node.peer bytes
      (subst (GivesPiece host.node.peer bytes) asks_so (peer_gives host.node.peer request bytes said))

  pub place_of_row : IsPlaced moment.world.log from.0 host.node.peer.epoch (oid_of work) cut.1.row
  place_of_row =
      all_at (IsPlaced moment.world.log from.0 host.node.peer.epoch (oid_of work)) (rows_of host.node.peer.rows (oid_of work)) cut.1.place
      cut.1.row cut.1.there (reads.copies.placed.placed from.0 host there (oid_of work))

  pub ends : end_of_row host.node.peer.epoch cut.1.row.to ≡ host.node.peer.epoch
  ends = end_open cut.1.row.to cut.1.is_last host.node.peer.epoch

  pub told_by : IsToldBy moment work epoch from
  told_by =
      let row : SeenRow = cut.1.row in
      let end = ends in
      let order = (within_at host.node.peer.epoch (rows_of host.node.peer.rows (oid_of work)) cut.1.place row cut.1.there
      (rows.turns from.0 host there (oid_of work))).0 in
      let own = own_epoch in
      let most : host.node.peer.epoch ≤ epoch_of moment.world.log
      = epoch_within moment.world.log from.0 host.node.me host.node.peer (rows.sound.each from.0 host there).read in
      record {
        reads = cut.0;
        reached = reached_by moment.world.hosts epoch from host there (omega (arith, own));
        policy = place_of_row.policy;
        made = place_of_row.made;
        target = index-has_node from (targets_by moment.world.log epoch (oid_of work) place_of_row.policy) place_of_row.policy
            (kind_of (oid_of work)) row.index
            (subst (λ (e : ℕ). index_of_part (targets_by moment.world.log) e (oid_of work) place_of_row.policy from ≡ Some row.index) own
            (place_of_row.placed host.node.peer.epoch
            (covers_by host.node.peer.epoch host.node.peer.epoch row (omega (arith, order, end)) (omega (arith, end)))));
        begun = omega (arith, own, most);
      }

-- ---- over a change

module _ (script : List Statement) (range : RunsAreInRange script) (start before after : MomentWithPast) (began : Began script start.world)
    (change : MomentChange script start before after) where
  -- who told it stays so
  pub teller_stays : (work : ObjWork) (epoch : ℕ) (from : NodeId) → IsToldBy before work epoch from → IsToldBy after work epoch from
  teller_stays work epoch from is =
      let grows : LogGrows before.world.log after.world.log = log_grows script change in
      let oid : ℕ = oid_of work in
      let begun = is.begun in
      let later = ap epoch_of grows.is ∙ epoch_of-append before.world.log grows.rest in
      record {
        reads = is.reads;
        reached = still_reached before.world.hosts after.world.hosts (epochs_rise script range start began change) epoch from is.reached;
        policy = is.policy;
        made = ap (λ (log : List Entry). policy_in (log_effects log) oid) grows.is
            ∙ policy_stays before.world.log grows.rest oid is.policy is.made;
        target = ap (λ (log : List Entry). has_node from (targets_by log epoch oid is.policy)) grows.is
            ∙ ap (has_node from) (targets_stay before.world.log grows.rest epoch oid is.policy
            (some_by_policy before.world.log oid is.policy is.made) is.begun)
            ∙ is.target;
        begun = omega (arith, begun, later);
      }

  module _ (holds : TellersAreTargets before) where
    -- a message that was unanswered before
    module _ (n req place : ℕ) (work : Work) (current : gateways.Attempt) (message : Message)
        (was : WasUnansweredAt before.world.hosts n req work current place message) where
      was_given : message.number < was.old.node.sends
      was_given = holds.reads.given n was.old was.there was.up req place was.of.was was.of.before message was.of.is

      pub was_asked : (to : NodeId) (request : PeerReq) → IsAsking before.world.wire (message_name n message.number) to request
          → (request.ask ≡ ask_for work.work message.index) × (request.epoch.0 ≡ current.epoch.0)
      was_asked to request asking = (
        holds.reads.asked n was.old was.there was.up req place was.of.was was.of.before message to request was.of.is asking
            ∙ ap (λ (w : ObjWork). ask_for w message.index) (sym was.of.work_so),
        holds.asked n was.old was.there was.up req place was.of.was was.of.before message to request was.of.is asking
            ∙ ap (λ (e : Epoch). e.0) (sym was.of.epoch_so),
      )

      still_asked : (to : NodeId) (request : PeerReq) → IsAsking after.world.wire (message_name n message.number) to request
          → request.epoch.0 ≡ current.epoch.0
      still_asked to request asking =
          (was_asked to request
          (asked_before before.world.hosts after.world.hosts before.world.wire before.past.attempts n message.number was.old was.there
          was_given (traffic script range start began change) to request asking)).1

      -- the reply to it was there, or is that of a node to what it was asked
      pub reply_came : (from : NodeId) (rsp : PeerRsp) → IsAnswering after.world.wire (message_name n message.number) from rsp
          → IsAnswering before.world.wire (message_name n message.number) from rsp
          ⊎ IsNewAnswer before.world.hosts before.world.wire (message_name n message.number) from rsp
      reply_came from rsp answering =
          told_before before.world.hosts after.world.hosts before.world.wire before.past.attempts n message.number was.old was.there
          was_given (traffic script range start began change) from rsp answering

      still_told : (from : NodeId) (rsp : PeerRsp) (bytes : List ℕ) → IsAnswering after.world.wire (message_name n message.number) from rsp
          → rsp.say ≡ says.Piece bytes → IsToldBy after work.work current.epoch.0 from
      still_told from rsp bytes answering said =
          teller_stays work.work current.epoch.0 from (⊎_elim
          (λ (old : IsAnswering before.world.wire (message_name n message.number) from rsp).
          subst (λ (w : ObjWork). IsToldBy before w current.epoch.0 from) (sym was.of.work_so)
          (subst (λ (e : ℕ). IsToldBy before was.of.was.work e from) (ap (λ (e : Epoch). e.0) (sym was.of.epoch_so))
          (holds.told n was.old was.there was.up req place was.of.was was.of.before message from rsp bytes was.of.is old said)))
          (λ (new : IsNewAnswer before.world.hosts before.world.wire (message_name n message.number) from rsp).
          let asked = was_asked from new.request new.asking in
          told_by before holds.reads holds.rows work.work current.epoch.0 message.index new.host from new.there new.request asked.0 asked.1
          bytes (ap (λ (r : PeerRsp). r.say) new.said ∙ said))
          (reply_came from rsp answering))

    -- and one that is sent now
    new_asked : (n : ℕ) (node : Node) (work : Work) (current : gateways.Attempt) (message : Message)
        → MessageIsSentNow after.world.wire n node work current message → (to : NodeId) (request : PeerReq)
        → IsAsking after.world.wire (message_name n message.number) to request → request.epoch.0 ≡ current.epoch.0
    new_asked n node work current message new to request asking =
        let sent : PeerReq = (send_of new.me current.epoch work.work message).1 in
        let same : ◌≡◌ {A = Packet} (Request to asking.bytes) (Request message.node (ask_bytes sent))
        = same_Some (Request to asking.bytes) (Request message.node (ask_bytes sent)) (sym asking.there ∙ new.there) in
        ap (λ (r : PeerReq). r.epoch.0)
        (same_asked request sent (sym asking.spelled ∙ ap (λ (p : Packet). ask_in (bytes_or p)) same ∙ new.read))

    tellers_after : RowsHold after → ReadsAreTold after → TellersAreTargets after
    tellers_after rows reads = record {
      reads = reads;
      rows = rows;
      asked = λ n now there up req place work current message to request is asking. ⊎_elim
          (λ (was : WasUnansweredAt before.world.hosts n req work current place message).
          still_asked n req place work current message was to request asking)
          (λ (new : MessageIsSentNow after.world.wire n now.node work current message).
          new_asked n now.node work current message new to request asking)
          (unanswered_came script range start began change n now req work current place message there up is);
      told = λ n now there up req place work current message from rsp bytes is answering said. ⊎_elim
          (λ (was : WasUnansweredAt before.world.hosts n req work current place message).
          still_told n req place work current message was from rsp bytes answering said)
          (λ (new : MessageIsSentNow after.world.wire n now.node work current message).
          let asked = new.there in
          let answered = answering.there in
          absurd (cc (asked, answered)))
          (unanswered_came script range start began change n now req work current place message there up is);
    }

-- ---- every moment

module _ (script : List Statement) (range : RunsAreInRange script) where
  pub kept_tellers : KeptByChanges script TellersAreTargets
  kept_tellers = record {
    opens = record {
      reads = (kept_reads script range).opens;
      rows = (kept_rows script range).opens;
      asked = λ n host there up req place work current message to request is asking. absurd
          (no_works script n host there req work is.there);
      told = λ n host there up req place work current message from rsp bytes is answering said.
          absurd (no_works script n host there req work is.there);
    };
    keeps = λ start before after began change holds.
        tellers_after script range start before after began change holds
        ((kept_rows script range).keeps start before after began change holds.rows)
        ((kept_reads script range).keeps start before after began change holds.reads);
  }

  pub tellers-on_the_way : (events : List Move) (start moment : MomentWithPast) → run_with_past script events ≡ Some start
      → MomentTrail script start moment → TellersAreTargets moment
  tellers-on_the_way events start moment is trail = on_the_way script TellersAreTargets kept_tellers events start moment is trail
