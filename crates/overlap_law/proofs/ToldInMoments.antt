-- What holds of each row that a node tells to a recovery, as it tells it, and stays so over each change of a moment, holds of each row that
-- was told: as long as it is on its way, and as long as the recovery's search keeps it.
use Rattle.std.proofs.Common.{◌≡◌, inl, inr, ⊎_elim, ℕ, true, false, List, slice_get, Contains, Option, Some, None, option_map, refl, sym}
use Rattle.std.proofs.Common.{ap, subst, ◌∙◌}
use Rattle.std.specs.FinMap as tree
use Rattle.std.proofs.lemmas.List.Elements.{Contains-append_left}
use Rattle.object_id.specs.declared.node.Epoch.{Epoch}
use Rattle.object_id.specs.declared.node.NodeId.{NodeId}
use Rattle.object_store.specs.declared.row.RowCopy.{RowCopy}
use Rattle.object_store.specs.Rows.{row_holding, holds}
use Rattle.object_store.specs.Store.{SeenRow, rows_of, copy_of}
use Rattle.cluster_script.specs.declared.statement.Statement.{Statement}
use Rattle.peer_proto.specs.declared.ask.PeerAsk.{PeerAsk}
use Rattle.peer_proto.specs.declared.ask.PeerAsk.TheVariants as asks
use Rattle.peer_proto.specs.declared.ask.PeerReq.{PeerReq}
use Rattle.peer_proto.specs.declared.say.PeerRsp.{PeerRsp}
use Rattle.peer_proto.specs.declared.say.PeerSay.{PeerSay}
use Rattle.peer_proto.specs.declared.say.PeerSay.TheVariants as says
use Rattle.peer_proto.specs.declared.say.Refusal.{Refusal}
use Rattle.peer_service.specs.State.{Peer}
use Rattle.peer_service.specs.Fence.{epoch_refusal}
use Rattle.peer_service.specs.Serve as serve
use Rattle.peer_service.specs.Serve.{row_or_none, step_behind_fence, peer_step, tells_refusal}
use Rattle.recovery.specs.declared.search.RowAnswer.{RowAnswer}
use Rattle.recovery.specs.State.{Message, Search, Recovery}
use Rattle.message_wire.specs.Message.{message_name}
use Rattle.sheep_world.specs.World.{Host, is_host_up}
use Rattle.sheep_world.specs.NodeCauses.{NodeCause, IsCause, input_of_cause}
use Rattle.sheep_world.specs.EventKinds.{log_after_return}
use Rattle.sheep_world.specs.Began.{Began}
use Rattle.overlap_law.specs.Each.{EachUp}
use Rattle.overlap_law.specs.Packets.{IsAnswering}
use Rattle.overlap_law.specs.Past.{MomentWithPast, first_moment}
use Rattle.overlap_law.specs.MomentChanges.{MomentChange, RunsAreInRange}
use Rattle.overlap_law.specs.ToldRows.{IsRowUnderWay, IsRowKept, ToldRow}
use Rattle.overlap_law.proofs.AllAnswersInMoments.{AreAllTold, WasAwaitedOfAny, was_told, new_epoch, opening_none}
use Rattle.overlap_law.proofs.AnswerersInMoments.{opening_recovery}
use Rattle.overlap_law.proofs.AnswersInMoments.{IsSentNow, WasAwaited, not_lost, messages_came}
use Rattle.overlap_law.proofs.AttemptLists.{place_of}
use Rattle.overlap_law.proofs.AttemptMessages.{contains_at}
use Rattle.overlap_law.proofs.HeardReplies.{IsHeardReply, heard_reply, at_level, heard_from, heard_epoch}
use Rattle.overlap_law.proofs.NodePartsInMoments.{PartsChange, PartsStay, PartsStep, PartsReturn, PartsAreNew, parts_change}
use Rattle.overlap_law.proofs.SearchAnswers.{AnswerCame, AnswersReceived, IsRowHeard, answers_received, back_none}
use Rattle.overlap_law.proofs.SpelledReplies.{held_among}
use Rattle.overlap_law.proofs.ToldBefore.{IsNewAnswer}

-- ---- the row that a node tells

abbrev row_or : RowCopy → PeerSay → RowCopy
row_or none (says.Row row) = row
row_or none _ = none

-- it is the copy of one of the node's rows, which holds the level
pub record IsToldFrom (peer : Peer) (oid level : ℕ) (told : RowCopy) : Type 0 where
  pub place : ℕ
  pub row : SeenRow
  pub there : slice_get (rows_of peer.rows oid) place ≡ Some row
  pub held : holds level row ≡ true
  pub same : copy_of row ≡ told

told_from : (peer : Peer) (request : PeerReq) (oid : ℕ) (level : Epoch) (told : RowCopy) → request.ask ≡ asks.RecoverRead oid level
    → (peer_step peer request).say ≡ says.Row told → IsToldFrom peer oid level.0 told
unfolding peer_step serve.own_epoch_step
told_from peer request oid level told asked said =
    by_fence (epoch_refusal peer.epoch request.epoch.0)
    (ap (λ (ask : PeerAsk). (step_behind_fence (epoch_refusal peer.epoch request.epoch.0) ask peer).say) (sym asked) ∙ said)
  where
    by_row : (o : Option SeenRow) → row_holding level.0 (rows_of peer.rows oid) ≡ o → row_or_none (option_map copy_of o) ≡ says.Row told
        → IsToldFrom peer oid level.0 told
    by_row None is said = absurd (cc (said))
    by_row (Some row) is said =
        let (place, got, held) = held_among peer.rows oid level.0 row is in
        record { place = place; row = row; there = got; held = held; same = ap (row_or told) said }

    by_fence : (refusal : Option Refusal) → (step_behind_fence refusal (asks.RecoverRead oid level) peer).say ≡ says.Row told
        → IsToldFrom peer oid level.0 told
    by_fence None said = by_row (row_holding level.0 (rows_of peer.rows oid)) refl said
    by_fence (Some refusal) said = absurd (cc (said))

-- ---- a row is told

-- a message for a row is awaited by a node that is up, and a node in the message's epoch has a row of the level
pub record IsTelling (moment : MomentWithPast) (from : NodeId) (epoch oid level : ℕ) (row : SeenRow) : Type 0 where
  pub n : ℕ
  pub host : Host
  pub there : tree.get moment.world.hosts n ≡ Some host
  pub up : host.is_lost ≡ false
  pub message : Message
  pub among : Contains host.node.recovery.unanswered message
  pub asked : message.request.ask ≡ asks.RecoverRead oid (record { 0 = level })
  pub of_epoch : message.request.epoch.0 ≡ epoch
  pub teller : Host
  pub teller_there : tree.get moment.world.hosts from.0 ≡ Some teller
  pub own_epoch : teller.node.peer.epoch ≡ epoch
  pub place : ℕ
  pub row_there : slice_get (rows_of teller.node.peer.rows oid) place ≡ Some row
  pub held : holds level row ≡ true

-- ---- each row that was told

-- of the node that told it, the recovery's epoch, the object, the level and the row
abbrev pub OfToldRow : Type 1
OfToldRow = MomentWithPast → NodeId → ℕ → ℕ → ℕ → RowCopy → Type 0

module _ (T : OfToldRow) where
  -- it is so of each row that was told
  pub record RowsToldSo (moment : MomentWithPast) : Type 0 where
    pub each : EachUp moment.world.hosts (λ n node. (from : NodeId) (epoch oid level : ℕ) (row : RowCopy)
        → ToldRow moment.world.wire n node from epoch oid level (Some row) → T moment from epoch oid level row)

  -- where a row is told, or was before, at a moment
  module _ (moment : MomentWithPast) (so : RowsToldSo moment) where
    -- it is so of a row that is on its way
    pub told-on_its_way : (n : ℕ) (host : Host) → tree.get moment.world.hosts n ≡ Some host → host.is_lost ≡ false → (message : Message)
        → Contains host.node.recovery.unanswered message → (from : NodeId) (rsp : PeerRsp)
        → IsAnswering moment.world.wire (message_name n message.request.number) from rsp → (oid : ℕ) (level : Epoch)
        → message.request.ask ≡ asks.RecoverRead oid level → (row : RowCopy) → rsp.say ≡ says.Row row
        → T moment from message.request.epoch.0 oid level.0 row
    told-on_its_way n host there up message among from rsp answering oid level asked row said =
        let (place, at) = place_of host.node.recovery.unanswered message among in
        so.each n host there up from message.request.epoch.0 oid level.0 row (inl (record {
          place = place;
          message = message;
          reply = rsp;
          unanswered = at;
          asked = asked;
          of_epoch = refl;
          answering = answering;
          said = said;
        }))

    -- and of one that is kept
    pub told-kept : (n : ℕ) (host : Host) → tree.get moment.world.hosts n ≡ Some host → host.is_lost ≡ false → (search : Search)
        → host.node.recovery.search ≡ Some search → (answer : RowAnswer) → Contains search.answers answer → (row : RowCopy)
        → answer.row ≡ Some row → T moment answer.from host.node.recovery.epoch search.oid search.level row
    told-kept n host there up search searched answer among row told =
        let (place, at) = place_of search.answers answer among in
        so.each n host there up answer.from host.node.recovery.epoch search.oid search.level row (inr (record {
          search = search;
          place = place;
          answer = answer;
          there = searched;
          among = at;
          from_it = refl;
          told = told;
          of_epoch = refl;
          of_object = refl;
          of_level = refl;
        }))

  -- ---- over a change of a moment

  module _ (script : List Statement) (range : RunsAreInRange script) (start before after : MomentWithPast)
      (began : Began script start.world) (change : MomentChange script start before after) (told : AreAllTold before)
      (so : RowsToldSo before)
      (stays : (from : NodeId) (epoch oid level : ℕ) (row : RowCopy) → T before from epoch oid level row → T after from epoch oid level row)
      (tells : (from : NodeId) (epoch oid level : ℕ) (row : SeenRow) → IsTelling before from epoch oid level row
      → T before from epoch oid level (copy_of row)) where
    -- a row that is told now
    new_told : (n : ℕ) (message : Message) (was : WasAwaited before.world.hosts n message) (from : NodeId) (rsp : PeerRsp)
        → IsNewAnswer before.world.hosts before.world.wire (message_name n message.request.number) from rsp → (oid : ℕ) (level : Epoch)
        → message.request.ask ≡ asks.RecoverRead oid level → (row : RowCopy) → rsp.say ≡ says.Row row
        → T before from message.request.epoch.0 oid level.0 row
    new_told n message was from rsp new oid level asked row said =
        let of_any : WasAwaitedOfAny before.world.hosts n message = record {
          host = was.host;
          there = was.there;
          up = was.up;
          among = Contains-append_left was.host.node.recovery.unanswered was.host.node.recovery.older message was.among;
        } in
        let request_so : new.request ≡ message.request
        = (told.asked n was.host was.there was.up message of_any.among from new.request new.asking).1 in
        let own = told_from new.host.node.peer new.request oid level row (ap (λ (r : PeerReq). r.ask) request_so ∙ asked)
        (ap (λ (r : PeerRsp). r.say) new.said ∙ said) in
        subst (T before from message.request.epoch.0 oid level.0) own.same
        (tells from message.request.epoch.0 oid level.0 own.row (record {
          n = n;
          host = was.host;
          there = was.there;
          up = was.up;
          message = message;
          among = was.among;
          asked = asked;
          of_epoch = refl;
          teller = new.host;
          teller_there = new.there;
          own_epoch = new_epoch script range start began change told n message of_any from rsp new (ap tells_refusal said);
          place = own.place;
          row_there = own.there;
          held = own.held;
        }))

    -- on its way after the change
    way_after : (n : ℕ) (now : Host) → tree.get after.world.hosts n ≡ Some now → now.is_lost ≡ false → (message : Message)
        → Contains now.node.recovery.unanswered message → (from : NodeId) (rsp : PeerRsp)
        → IsAnswering after.world.wire (message_name n message.request.number) from rsp → (oid : ℕ) (level : Epoch)
        → message.request.ask ≡ asks.RecoverRead oid level → (row : RowCopy) → rsp.say ≡ says.Row row
        → T after from message.request.epoch.0 oid level.0 row
    way_after n now there up message among from rsp answering oid level asked row said = ⊎_elim
        (λ (was : WasAwaited before.world.hosts n message).
        stays from message.request.epoch.0 oid level.0 row (⊎_elim
        (λ (old : IsAnswering before.world.wire (message_name n message.request.number) from rsp).
        told-on_its_way before so n was.host was.there was.up message was.among from rsp old oid level asked row said)
        (λ (new : IsNewAnswer before.world.hosts before.world.wire (message_name n message.request.number) from rsp).
        new_told n message was from rsp new oid level asked row said)
        (was_told script range start began change told n message (record {
          host = was.host;
          there = was.there;
          up = was.up;
          among = Contains-append_left was.host.node.recovery.unanswered was.host.node.recovery.older message was.among;
        }) from rsp answering)))
        (λ (new : IsSentNow after.world.hosts after.world.wire n now message).
        let sent = new.there in
        let answered = answering.there in
        absurd (cc (sent, answered)))
        (messages_came script range start began change n now there up message among)

    -- an answer that is kept after an input was kept, or told by the reply that came
    received_kept : (n : ℕ) (was : Host) (cause : NodeCause) → Began script before.world → tree.get before.world.hosts n ≡ Some was
        → is_host_up was ≡ true → IsCause script before.world n was cause → (new : Recovery) (search : Search) (answer : RowAnswer)
        → AnswerCame (IsRowHeard (input_of_cause cause) was.node.recovery.unanswered) was.node.recovery new search answer
        → (row : RowCopy) → answer.row ≡ Some row → T before answer.from new.epoch search.oid search.level row
    received_kept n was cause now_began there up caused new search answer came row is_row =
        subst (λ (k : ℕ). T before answer.from k search.oid search.level row) (sym came.epoch_so)
        (subst (λ (k : ℕ). T before answer.from was.node.recovery.epoch search.oid k row) came.level_so
        (subst (λ (k : ℕ). T before answer.from was.node.recovery.epoch k came.one.level row) came.oid_so
        (⊎_elim
        (λ (kept : Contains came.one.answers answer).
        told-kept before so n was there (not_lost was up) came.one came.was answer kept row is_row)
        (λ (heard : IsRowHeard (input_of_cause cause) was.node.recovery.unanswered came.one answer).
        let message : Message = heard.message in
        let reply : IsHeardReply before.world n message heard.rsp
        = heard_reply script range before.world now_began n was there cause caused heard.rsp heard.from message heard.number_so in
        let asked = heard_from script range before.world now_began n was there up told message heard.there heard.rsp reply in
        let epoch = heard_epoch script range before.world now_began n was there up told message heard.there heard.rsp reply in
        let level : heard.level.0 ≡ came.one.level
        = at_level script range before.world now_began n was there came.one came.was message heard.there heard.level heard.asked in
        subst (λ (from : NodeId). T before from was.node.recovery.epoch came.one.oid came.one.level row) (asked ∙ sym heard.by)
        (subst (λ (k : ℕ). T before reply.from k came.one.oid came.one.level row) epoch
        (subst (λ (k : ℕ). T before reply.from message.request.epoch.0 came.one.oid k row) level
        (told-on_its_way before so n was there (not_lost was up) message heard.there reply.from heard.rsp reply.answering came.one.oid
        heard.level heard.asked row (heard.told ∙ ap row_or_none is_row)))))
        came.kept)))

    -- kept after the change
    kept_after : (n : ℕ) (now : Host) → now.is_lost ≡ false → (search : Search) → now.node.recovery.search ≡ Some search
        → (answer : RowAnswer) → Contains search.answers answer → (row : RowCopy) → answer.row ≡ Some row
        → PartsChange script before n now → T before answer.from now.node.recovery.epoch search.oid search.level row
    kept_after n now up search is answer among row is_row (PartsStay was there was_up parts) =
        subst (λ (r : Recovery). T before answer.from r.epoch search.oid search.level row) (sym parts.recovery)
        (told-kept before so n was there (was_up up) search (ap (λ (r : Recovery). r.search) (sym parts.recovery) ∙ is) answer among row
        is_row)
    kept_after n now up search is answer among row is_row (PartsStep was cause now_began there was_up caused parts) =
        received_kept n was cause now_began there was_up caused now.node.recovery search answer
        (subst (AnswersReceived (input_of_cause cause) was.node) (sym parts.recovery) (answers_received (input_of_cause cause) was.node)
        search is answer among)
        row is_row
    kept_after n now up search is answer among row is_row (PartsReturn was now_began there lost parts) =
        let none = ap (λ (r : Recovery). r.search) parts.recovery ∙ back_none (log_after_return script n before.world) was.node in
        absurd (cc (none, is))
    kept_after n now up search is answer among row is_row (PartsAreNew none parts) =
        let both : ◌≡◌ {A = Option Search} None (Some search) = ap (λ (r : Recovery). r.search) (sym parts.recovery) ∙ is in
        absurd (cc (both))

    pub told-after : RowsToldSo after
    told-after = record {
      each = λ n now there up from epoch oid level row is_told. ⊎_elim
          (λ (way : IsRowUnderWay after.world.wire n now.node.recovery from epoch oid level (Some row)).
          let message : Message = way.message in
          subst (λ (k : ℕ). T after from k oid level row) way.of_epoch
          (way_after n now there up message (contains_at now.node.recovery.unanswered way.place message way.unanswered) from way.reply
          way.answering oid (record { 0 = level }) way.asked row way.said))
          (λ (kept : IsRowKept now.node from epoch oid level (Some row)).
          let search : Search = kept.search in
          subst (λ (q : NodeId). T after q epoch oid level row) kept.from_it
          (subst (λ (k : ℕ). T after kept.answer.from k oid level row) kept.of_epoch
          (subst (λ (k : ℕ). T after kept.answer.from now.node.recovery.epoch k level row) kept.of_object
          (subst (λ (k : ℕ). T after kept.answer.from now.node.recovery.epoch search.oid k row) kept.of_level
          (stays kept.answer.from now.node.recovery.epoch search.oid search.level row
          (kept_after n now up search kept.there kept.answer (contains_at search.answers kept.place kept.answer kept.among) row kept.told
          (parts_change script range start began change n now there)))))))
          is_told;
    }

  -- before the first event nothing was told
  pub told-opening : (script : List Statement) → RowsToldSo (first_moment script)
  told-opening script = record {
    each = λ n host there up from epoch oid level row is_told. ⊎_elim
        (λ (way : IsRowUnderWay (first_moment script).world.wire n host.node.recovery from epoch oid level (Some row)).
        let message : Message = way.message in
        opening_none script n host there message
        (Contains-append_left host.node.recovery.unanswered host.node.recovery.older message
        (contains_at host.node.recovery.unanswered way.place message way.unanswered)))
        (λ (kept : IsRowKept host.node from epoch oid level (Some row)).
        let (opened, same) = opening_recovery script n host there in
        let both : ◌≡◌ {A = Option Search} None (Some kept.search) = ap (λ (r : Recovery). r.search) (sym same) ∙ kept.there in
        absurd (cc (both)))
        is_told;
  }
