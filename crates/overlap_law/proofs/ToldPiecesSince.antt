-- Each change of a moment on the way of an event keeps that the pieces told to open reads have what their nodes owed, if before it rows
-- have; and a piece that was on its way where the event began has it until its read has heard it, by what was good then.
use Rattle.std.proofs.Common.{◌≡◌, ◌⊎◌, inl, inr, ⊎_elim, ℕ, Bool, true, false, List, Some, sym, ap, subst, ◌∙◌}
use Rattle.std.specs.FinMap as tree
use Rattle.object_id.specs.declared.entry.Entry.{Entry}
use Rattle.object_id.specs.declared.node.Epoch.{Epoch}
use Rattle.object_id.specs.declared.node.NodeId.{NodeId}
use Rattle.object_store.specs.Store.{SeenRow}
use Rattle.cluster_script.specs.declared.statement.Statement.{Statement}
use Rattle.vdi_directory.specs.Decisions.{log_effects}
use Rattle.peer_proto.specs.declared.ask.PeerReq.{PeerReq}
use Rattle.peer_proto.specs.declared.say.PeerRsp.{PeerRsp}
use Rattle.peer_proto.specs.declared.say.PeerSay.TheVariants as says
use Rattle.peer_proto.specs.declared.work.ObjWork.{ObjWork}
use Rattle.peer_proto.specs.Work.{oid_of, policy_of}
use Rattle.peer_service.specs.Serve.{reply_to}
use Rattle.message_wire.specs.Message.{message_name}
use Rattle.gateway.specs.declared.message.Message.{Message}
use Rattle.gateway.specs.Attempt as gateways
use Rattle.gateway.specs.State.{Work}
use Rattle.gateway.specs.Work.{ask_for}
use Rattle.sheep_world.specs.World.{Host}
use Rattle.sheep_world.specs.Began.{Began}
use Rattle.sheep_world.specs.RunsWithAsks.{Move}
use Rattle.overlap_law.proofs.ClientsInMoments.{own_before}
use Rattle.overlap_law.specs.Each.{end_of_row, policy_in}
use Rattle.overlap_law.specs.MomentChanges.{MomentChange, MomentTrail, RunsAreInRange}
use Rattle.overlap_law.specs.Packets.{IsAnswering}
use Rattle.overlap_law.specs.Past.{MomentWithPast, run_with_past}
use Rattle.overlap_law.specs.Since.{IsSince, RowsAreSince}
use Rattle.overlap_law.specs.ToldPieces.{IsUnansweredOf, offset_read, IsPieceSince, ToldPiecesAreSince}
use Rattle.overlap_law.proofs.LogsInMoments.{LogGrows, log_grows}
use Rattle.overlap_law.proofs.NoRecoveredDue.{began-with_past}
use Rattle.overlap_law.proofs.PendingOfNodes.{policy_stays}
use Rattle.overlap_law.proofs.TellersOfPieces.{IsToldBy, TellersAreTargets, tellers-on_the_way, own_epoch, cut, ends}
use Rattle.overlap_law.proofs.TellersOfPieces.{was_asked, reply_came, told_by}
use Rattle.overlap_law.proofs.ToldBefore.{IsNewAnswer}
use Rattle.overlap_law.proofs.ToldPiecesStay.{still_open, since-piece_stays}
use Rattle.overlap_law.proofs.UnansweredInSteps.{WasUnansweredAt, MessageIsSentNow, unanswered_came}
use Rattle.overlap_law.specs.Sessions.{is_of_client_at}

-- what is told of a work's object to a message has what its teller owed
abbrev pub IsWorkSince : MomentWithPast → ObjWork → ℕ → NodeId → ℕ → List ℕ → Type 0
IsWorkSince moment work epoch from index bytes =
    IsPieceSince (policy_of work) (oid_of work) moment.world.hosts moment.past.attempts from index epoch (offset_read work) bytes

module _ (script : List Statement) (range : RunsAreInRange script) (events : List Move) (start : MomentWithPast)
    (is : run_with_past script events ≡ Some start) where
  began : Began script start.world
  began = began-with_past script events start is

  module _ (before after : MomentWithPast) (trail : MomentTrail script start before)
      (change : MomentChange script start before after) where
    tellers : TellersAreTargets before
    tellers = tellers-on_the_way script range events start before is trail

    grows : LogGrows before.world.log after.world.log
    grows = log_grows script change

    -- what was told to a message before
    module _ (n : ℕ) (now : Host) (there : tree.get after.world.hosts n ≡ Some now) (up : now.is_lost ≡ false) (req place : ℕ)
        (work : Work) (current : gateways.Attempt) (message : Message)
        (of : IsUnansweredOf now.node.gateway.works req work current place message)
        (was : WasUnansweredAt before.world.hosts n req work current place message) (from : NodeId) (bytes : List ℕ) where
      pub epoch_so : was.of.before.epoch.0 ≡ current.epoch.0
      epoch_so = ap (λ (e : Epoch). e.0) (sym was.of.epoch_so)

      pub work_so : was.of.was.work ≡ work.work
      work_so = sym was.of.work_so

      pub teller_now : IsToldBy before was.of.was.work was.of.before.epoch.0 from → IsToldBy before work.work current.epoch.0 from
      teller_now teller =
          subst (λ (w : ObjWork). IsToldBy before w current.epoch.0 from) work_so
          (subst (λ (e : ℕ). IsToldBy before was.of.was.work e from) epoch_so teller)

      pub since_now : IsWorkSince before was.of.was.work was.of.before.epoch.0 from message.index bytes
          → IsWorkSince before work.work current.epoch.0 from message.index bytes
      since_now piece =
          subst (λ (w : ObjWork). IsWorkSince before w current.epoch.0 from message.index bytes) work_so
          (subst (λ (e : ℕ). IsWorkSince before was.of.was.work e from message.index bytes) epoch_so piece)

      -- and was no client's
      pub own_then : is_of_client_at req now.node ≡ false → is_of_client_at req was.old.node ≡ false
      own_then own = own_before script range start began change n now was.old there was.there req work of.there own

      pub goes_on : IsToldBy before work.work current.epoch.0 from → is_of_client_at req now.node ≡ false
          → IsWorkSince before work.work current.epoch.0 from message.index bytes
          → IsWorkSince after work.work current.epoch.0 from message.index bytes
      goes_on teller own piece =
          since-piece_stays script range events start before after is trail change n now there up req work current of.there of.stage
          (still_open before.world.hosts n req place work current message was) from teller own (policy_of work.work) message.index
          (offset_read work.work) bytes piece

    -- ---- by the rows of before

    module _ (good : ℕ → Bool) (since : RowsAreSince (log_effects before.world.log) good before.world.hosts before.past.attempts)
        (told : ToldPiecesAreSince (log_effects before.world.log) good before.world.hosts before.world.wire before.past.attempts) where
      -- a piece that is told now is cut of a row that has what its node owes
      now_since : (work : ObjWork) (epoch index : ℕ) (from : NodeId) (host : Host)
          (there : tree.get before.world.hosts from.0 ≡ Some host) (request : PeerReq)
          (asks_so : request.ask ≡ ask_for work index) (epoch_so : request.epoch.0 ≡ epoch) (bytes : List ℕ)
          (said : (reply_to host.node.peer request).say ≡ says.Piece bytes) → good (oid_of work) ≡ true
          → policy_in (log_effects before.world.log) (oid_of work) ≡ Some (policy_of work) → IsWorkSince before work epoch from index
          bytes
      now_since work epoch index from host there request asks_so epoch_so bytes said is_good known =
          let oid : ℕ = oid_of work in
          let found = cut before tellers.reads tellers.rows work epoch index host from there request asks_so epoch_so bytes said in
          let row : SeenRow = found.1.row in
          let end : end_of_row host.node.peer.epoch row.to ≡ epoch
          = ends before tellers.reads tellers.rows work epoch index host from there request asks_so epoch_so bytes said
          ∙ own_epoch before tellers.reads tellers.rows work epoch index host from there request asks_so epoch_so bytes said in
          let had = since.each from.0 host there oid found.1.place row found.1.there (policy_of work) is_good known in
          record {
            row = row.bytes;
            size = found.1.size;
            since = subst (λ (k : ℕ). IsSince (policy_of work) oid before.world.hosts before.past.attempts from k epoch epoch row.bytes)
                found.1.index_so
                (subst (λ (e : ℕ). IsSince (policy_of work) oid before.world.hosts before.past.attempts from row.index e e row.bytes) end
                had);
            same = found.1.same;
          }

      pub told_pieces_after : ToldPiecesAreSince (log_effects after.world.log) good after.world.hosts after.world.wire after.past.attempts
      told_pieces_after = record {
        each = λ n now there up req place work current message from rsp bytes of own answering said is_good known. ⊎_elim
            (λ (was : WasUnansweredAt before.world.hosts n req work current place message).
            by_reply n now there up req place work current message of own was from rsp bytes said is_good known
            (reply_came script range start before after began change tellers n req place work current message was from rsp answering))
            (λ (new : MessageIsSentNow after.world.wire n now.node work current message).
            let asked = new.there in
            let answered = answering.there in
            absurd (cc (asked, answered)))
            (unanswered_came script range start began change n now req work current place message there up of);
      }
        where
          -- the policy was known
          known_then : (work : ObjWork) (epoch : ℕ) (from : NodeId) → IsToldBy before work epoch from
              → policy_in (log_effects after.world.log) (oid_of work) ≡ Some (policy_of work)
              → policy_in (log_effects before.world.log) (oid_of work) ≡ Some (policy_of work)
          known_then work epoch from teller known =
              let then : policy_in (log_effects after.world.log) (oid_of work) ≡ Some teller.policy
              = ap (λ (log : List Entry). policy_in (log_effects log) (oid_of work)) grows.is
              ∙ policy_stays before.world.log grows.rest (oid_of work) teller.policy teller.made in
              teller.made ∙ sym then ∙ known

          by_reply : (n : ℕ) (now : Host) → tree.get after.world.hosts n ≡ Some now → now.is_lost ≡ false → (req place : ℕ) (work : Work)
              (current : gateways.Attempt) (message : Message) → IsUnansweredOf now.node.gateway.works req work current place message
              → is_of_client_at req now.node ≡ false → WasUnansweredAt before.world.hosts n req work current place message
              → (from : NodeId) (rsp : PeerRsp) (bytes : List ℕ)
              → rsp.say ≡ says.Piece bytes → good (oid_of work.work) ≡ true
              → policy_in (log_effects after.world.log) (oid_of work.work) ≡ Some (policy_of work.work)
              → IsAnswering before.world.wire (message_name n message.number) from rsp
              ⊎ IsNewAnswer before.world.hosts before.world.wire (message_name n message.number) from rsp
              → IsWorkSince after work.work current.epoch.0 from message.index bytes
          by_reply n now there up req place work current message of own was from rsp bytes said is_good known (inl old) =
              let old_teller = tellers.told n was.old was.there was.up req place was.of.was was.of.before message from rsp bytes
              was.of.is old said in
              let teller = teller_now n now there up req place work current message of was from bytes old_teller in
              let same = work_so n now there up req place work current message of was from bytes in
              let before_known = known_then work.work current.epoch.0 from teller known in
              goes_on n now there up req place work current message of was from bytes teller own
              (since_now n now there up req place work current message of was from bytes
              (told.each n was.old was.there was.up req place was.of.was was.of.before message from rsp bytes was.of.is
              (own_then n now there up req place work current message of was from bytes own) old said
              (ap (λ (w : ObjWork). good (oid_of w)) same ∙ is_good)
              (subst (λ (w : ObjWork). policy_in (log_effects before.world.log) (oid_of w) ≡ Some (policy_of w)) (sym same)
              before_known)))
          by_reply n now there up req place work current message of own was from rsp bytes said is_good known (inr new) =
              let asked = was_asked script range start before after began change tellers n req place work current message was from
              new.request new.asking in
              let says_so = ap (λ (r : PeerRsp). r.say) new.said ∙ said in
              let teller = told_by before tellers.reads tellers.rows work.work current.epoch.0 message.index new.host from new.there
              new.request asked.0 asked.1 bytes says_so in
              goes_on n now there up req place work current message of was from bytes teller own
              (now_since work.work current.epoch.0 message.index from new.host new.there new.request asked.0 asked.1 bytes says_so is_good
              (known_then work.work current.epoch.0 from teller known))
