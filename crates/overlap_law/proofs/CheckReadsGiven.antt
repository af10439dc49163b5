-- In each run in range, where a check comes to a write by a reply: what each message of the work gave, heard before or told by this reply,
-- has what its teller owed in the work's epoch, by what is good as the event begins.
use Rattle.std.proofs.Common.{◌≡◌, ℕ, ◌≤◌, ◌==◌, Bool, true, false, cond, List, length, Some, slice_get, refl, sym, ap, subst, ◌∙◌, Option}
use Rattle.std.specs.FinMap as tree
use Rattle.std.proofs.lemmas.Bool.{eqb-true}
use Rattle.cluster_script.specs.declared.statement.Statement.{Statement}
use Rattle.object_id.specs.declared.node.NodeId.{NodeId}
use Rattle.peer_proto.specs.declared.say.PeerRsp.{PeerRsp}
use Rattle.peer_proto.specs.declared.say.PeerSay.TheVariants as says
use Rattle.message_wire.specs.declared.name.MessageName.{MessageName}
use Rattle.message_wire.specs.declared.packet.Packet.TheVariants.{Reply}
use Rattle.message_wire.specs.Message.{message_name}
use Rattle.gateway.specs.declared.message.Message.{Message}
use Rattle.gateway.specs.declared.message.Status.TheVariants as statuses
use Rattle.gateway.specs.Attempt.{bytes_in, is_success, status_by}
use Rattle.gateway.specs.Messages.{AreMessagesFor}
use Rattle.gateway.specs.Work.{asks_all, is_making}
use Rattle.gateway.proofs.MessageLemmas.{AreMessagesFor-with_status}
use Rattle.sheep_node.specs.declared.check_write.CheckWrite.{CheckWrite}
use Rattle.sheep_node.specs.SoundWorks.{HasMessagesFor}
use Rattle.sheep_world.specs.Began.{Began}
use Rattle.sheep_world.specs.NodeCauses.{ReplyIsHere}
use Rattle.sheep_world.specs.World.{Host}
use Rattle.sheep_world.proofs.RecoveryMessages.{same_said}
use Rattle.sheep_world.specs.RunsWithAsks.{Move}
use Rattle.overlap_law.specs.MomentChanges.{RunsAreInRange, Still}
use Rattle.overlap_law.specs.Packets.{IsAnswering}
use Rattle.overlap_law.specs.Past.{MomentWithPast, run_with_past}
use Rattle.overlap_law.specs.ToldPieces.{IsUnansweredOf}
use Rattle.overlap_law.proofs.AttemptLists.{got_map}
use Rattle.overlap_law.proofs.CarriedRows.{good_at}
use Rattle.overlap_law.proofs.CheckReadsComing.{ComesByReply, messages_heard}
use Rattle.overlap_law.proofs.CheckReadsIndexes.{index_asked, places-in_run}
use Rattle.overlap_law.proofs.DoneReads.{awaited_at, piece_told}
use Rattle.overlap_law.proofs.KnownSteps.{together}
use Rattle.overlap_law.proofs.LongValues.{piece_by}
use Rattle.overlap_law.proofs.NoRecoveredDue.{began-with_past}
use Rattle.overlap_law.proofs.ReadsInMoments.{reading_in_world}
use Rattle.overlap_law.proofs.StripReadsHeard.{IsGiven, one_of_number}
use Rattle.overlap_law.proofs.StripReadsInRuns.{given-in_run}
use Rattle.overlap_law.proofs.StripReadsThrough.{gave_bytes}
use Rattle.overlap_law.proofs.TellersOfPieces.{tellers-on_the_way}
use Rattle.overlap_law.proofs.ToldPiecesInRuns.{told_pieces-in_run}
use Rattle.overlap_law.specs.RequestsOfScript.{is_of_client}
use Rattle.overlap_law.specs.Sessions.{is_of_client_at}
use Rattle.sheep_node.specs.declared.course.Request.{Request}
use Rattle.std.specs.Option.{option_map_or}

module _ (script : List Statement) (range : RunsAreInRange script) (events : List Move) (start : MomentWithPast)
    (ran : run_with_past script events ≡ Some start) (n : ℕ) (host : Host) (there : tree.get start.world.hosts n ≡ Some host)
    (up : host.is_lost ≡ false) (name : MessageName) (from : NodeId) (rsp : PeerRsp) (caused : ReplyIsHere start.world n name from rsp)
    (write : CheckWrite) (comes : ComesByReply write rsp host.node) where
  began : Began script start.world
  began = began-with_past script events start ran

  -- the messages are those of the work
  sound : AreMessagesFor comes.work.work comes.attempt.messages
  sound =
      subst (HasMessagesFor comes.work.work) comes.stage
      ((reading_in_world script range start.world began n host there).sound.open_works write.req comes.work comes.got).messages

  pub heard_sound : AreMessagesFor comes.work.work (messages_heard rsp comes.attempt)
  heard_sound =
      AreMessagesFor-with_status comes.work.work rsp.number (status_by rsp.say) comes.attempt.messages
      (piece_by comes.work.work rsp.say comes.fits) sound

  -- each asks for the part of its place, where the work asks all
  pub index_heard : asks_all comes.work.work ≡ true → (place : ℕ) (m : Message)
      → slice_get (messages_heard rsp comes.attempt) place ≡ Some m → m.index ≡ index_asked comes.work.work place
  index_heard asks place m at =
      let (one, found, marks) = got_map
      (λ (one : Message). cond (one.number == rsp.number) (record one { status = status_by rsp.say }) one) comes.attempt.messages place m
      at in
      sym (same_index one (one.number == rsp.number) marks)
      ∙ places-in_run script range events start ran n host there up write.req comes.work comes.attempt place one
      (record { there = comes.got; stage = comes.stage; at = found }) asks
    where
      same_index : (one : Message) (b : Bool) → cond b (record one { status = status_by rsp.say }) one ≡ m → one.index ≡ m.index
      same_index one true same = ap (λ (x : Message). x.index) same
      same_index one false same = ap (λ (x : Message). x.index) same

  -- the reply is in the wire as the event begins
  answered : IsAnswering start.world.wire (message_name n rsp.number) from rsp
  answered =
      let (said, says_so, spelled) = (together script range start.world began).wired.spelled name (Reply from caused.bytes) caused.there in
      let is_said : said ≡ rsp = same_said said rsp (sym says_so ∙ caused.read) in
      let numbered : name.number ≡ rsp.number = sym spelled ∙ ap (λ (r : PeerRsp). r.number) is_said in
      let here : name.sender.0 ≡ n = caused.here in
      let name_so : name ≡ message_name n rsp.number = λ i. record { sender = record { 0 = here i }; number = numbered i } in
      record { bytes = caused.bytes; there = ap (tree.get start.world.wire) (sym name_so) ∙ caused.there; spelled = caused.read }

  -- a check is no client's
  no_client : is_of_client_at write.req host.node ≡ false
  no_client = ap (λ (o : Option Request). option_map_or (λ (request : Request). is_of_client request.course) o false) comes.there

  -- ---- what a message gave

  module _ (reads : is_making comes.work.work ≡ false) (place : ℕ) (m : Message)
      (at : slice_get (messages_heard rsp comes.attempt) place ≡ Some m) (succeeded : is_success m.status ≡ true)
      (some : 1 ≤ length (bytes_in m.status)) where
    abbrev gave : List ℕ
    gave = bytes_in m.status

    abbrev IsGivenUnder : ℕ → Type 0
    IsGivenUnder index = IsGiven (good_at start) start comes.work.work comes.attempt.epoch.0 index (bytes_in m.status)

    -- by this reply
    told_now : (one : Message) → slice_get comes.attempt.messages place ≡ Some one → one.number ≡ rsp.number
        → record one { status = status_by rsp.say } ≡ m → IsGivenUnder m.index
    told_now one found number_so same =
        let came : status_by rsp.say ≡ statuses.Succeeded gave
        = ap (λ (x : Message). x.status) same ∙ gave_bytes m.status succeeded in
        let said : rsp.say ≡ says.Piece gave = piece_told rsp.say gave some came in
        let (q, other, other_at, other_number, unanswered) = awaited_at rsp.number comes.attempt.messages comes.awaited in
        let is_one : other ≡ one
        = one_of_number comes.attempt.messages q place other one sound.numbers other_at found (other_number ∙ sym number_so) in
        let index_so : other.index ≡ m.index = ap (λ (x : Message). x.index) is_one ∙ ap (λ (x : Message). x.index) same in
        let of : IsUnansweredOf host.node.gateway.works write.req comes.work comes.attempt q other
        = record { there = comes.got; stage = comes.stage; at = other_at; unanswered = unanswered } in
        let own : IsAnswering start.world.wire (message_name n other.number) from rsp
        = subst (λ (k : ℕ). IsAnswering start.world.wire (message_name n k) from rsp) (sym other_number) answered in
        subst IsGivenUnder index_so (record {
          from = from;
          teller = (tellers-on_the_way script range events start start ran Still).told n host there up write.req q comes.work comes.attempt
              other from rsp gave of own said;
          since = λ is_good known.
              (told_pieces-in_run script range events start ran).each n host there up write.req q comes.work comes.attempt other from rsp
              gave of no_client own said is_good known;
        })

    by_tie : (one : Message) → slice_get comes.attempt.messages place ≡ Some one → (b : Bool) → (one.number == rsp.number) ≡ b
        → cond b (record one { status = status_by rsp.say }) one ≡ m → IsGivenUnder m.index
    by_tie one found true tie same = told_now one found (eqb-true one.number rsp.number tie) same
    by_tie one found false apart same =
        given-in_run script range events start ran n host there up write.req place comes.work comes.attempt m gave (record {
          there = comes.got;
          stage = comes.stage;
          at = found ∙ ap (λ (x : Message). Some x) same;
          given = gave_bytes m.status succeeded;
          some = some;
        }) reads no_client

    pub given_to_check : IsGiven (good_at start) start comes.work.work comes.attempt.epoch.0 m.index (bytes_in m.status)
    given_to_check =
        let (one, found, marks) = got_map
        (λ (one : Message). cond (one.number == rsp.number) (record one { status = status_by rsp.say }) one) comes.attempt.messages place m
        at in
        by_tie one found (one.number == rsp.number) refl marks
