-- A step of a node of a run leaves copies of the attempts before it, where the attempts go by whole units and what recoveries were told is
-- of attempts.
use Rattle.std.proofs.Common.{◌≡◌, inl, inr, ⊎_elim, ℕ, suc, Bool, true, false, cond, List, [], ◌∷◌, ◌++◌, length, slice_get}
use Rattle.std.proofs.Common.{Option, Some, None, Ok, refl, sym, ap, subst, ◌∙◌}
use Rattle.std.specs.List.{AllByRecursion, find}
use Rattle.std.specs.Option.{option_map}
use Rattle.std.specs.FinMap as tree
use Rattle.std.proofs.lemmas.Bool.{eqb-true}
use Rattle.std.proofs.lemmas.Option.{same_Some}
use Rattle.object_id.specs.declared.entry.Entry.{Entry}
use Rattle.object_id.specs.declared.entry.VdiSpec.{VdiSpec}
use Rattle.object_id.specs.declared.node.Epoch.{Epoch}
use Rattle.object_id.specs.declared.node.NodeId.{NodeId}
use Rattle.object_id.specs.declared.policy.Policy.{Policy}
use Rattle.object_id.specs.Oid.{vid_of}
use Rattle.object_store.specs.declared.row.RowCopy.{RowCopy}
use Rattle.object_store.specs.Store.{rows_of, row_bytes}
use Rattle.cluster_script.specs.declared.statement.Statement.{Statement}
use Rattle.peer_proto.specs.declared.ask.PeerAsk.TheVariants as asks
use Rattle.peer_proto.specs.declared.ask.PeerReq.{PeerReq}
use Rattle.peer_proto.specs.declared.say.PeerRsp.{PeerRsp}
use Rattle.peer_proto.specs.declared.say.PeerSay.{PeerSay}
use Rattle.peer_proto.specs.declared.say.PeerSay.TheVariants as says
use Rattle.peer_proto.specs.Say.{say_in}
use Rattle.peer_proto.specs.Work.{policy_of}
use Rattle.vdi_directory.specs.declared.effect.Effect.{Effect}
use Rattle.vdi_directory.specs.Decisions.{log_effects}
use Rattle.message_wire.specs.declared.name.MessageName.{MessageName}
use Rattle.message_wire.specs.declared.packet.Packet.TheVariants.{Reply}
use Rattle.message_wire.specs.Message.{message_name}
use Rattle.recovery.specs.declared.search.RowAnswer.{RowAnswer}
use Rattle.recovery.specs.Shown.{live_policy}
use Rattle.recovery.specs.State.{Message, Search, search_on, has_number, message_of}
use Rattle.recovery.specs.Steps.{search_after_answer}
use Rattle.recovery.proofs.FoundLemmas.{live_known}
use Rattle.sheep_node.specs.declared.input.Input.{Input}
use Rattle.sheep_node.specs.declared.input.Input.TheVariants as inputs
use Rattle.sheep_node.specs.RecoveryView.{shown_node, recovery_state_of}
use Rattle.sheep_node.specs.Step.{node_step}
use Rattle.sheep_world.specs.World.{Host}
use Rattle.sheep_world.specs.NodeCauses.{NodeCause, GuestAsks, RequestComes, ReplyComes, LossIsTold, EntryIsRead, EntryIsPut, RecoveryTicks}
use Rattle.sheep_world.specs.NodeCauses.{WorkIsRetried, ClientAsks, input_of_cause, IsCause, log_after_cause}
use Rattle.sheep_world.specs.Began.{Began}
use Rattle.sheep_world.proofs.LogFrontLaws.{all_read}
use Rattle.sheep_world.proofs.RecoveryMessages.{same_said}
use Rattle.overlap_law.specs.Attempts.{AttemptRecord, object_of}
use Rattle.overlap_law.specs.Each.{EachAttempt, EachRow, spec_in, policy_in}
use Rattle.overlap_law.specs.Fates.{AttemptsAreWhole}
use Rattle.overlap_law.specs.Packets.{IsAnswering}
use Rattle.overlap_law.specs.Past.{MomentWithPast}
use Rattle.overlap_law.specs.MomentChanges.{RunsAreInRange}
use Rattle.overlap_law.specs.RowsInRange.{CreatesAsRowsAre}
use Rattle.overlap_law.specs.Searches.{ToldCopiesAreOfAttempts}
use Rattle.overlap_law.specs.Since.{IsCopyOfAttempts}
use Rattle.overlap_law.specs.StepMoments.{SteppingNode, IsStepping}
use Rattle.overlap_law.specs.Traffic.{MakersAreOfAttempts}
use Rattle.overlap_law.proofs.AnswersInMoments.{not_lost}
use Rattle.overlap_law.proofs.AttemptLists.{got_more}
use Rattle.overlap_law.proofs.CopiesInSteps.{RowIsSo, IsSoCopy, AnswersAreSo, IsAsked, copies_kept}
use Rattle.overlap_law.proofs.CreatesInRuns.{creates_in_range}
use Rattle.overlap_law.proofs.EachRowKept.{step-each_row}
use Rattle.overlap_law.proofs.RowKeeping.{TellsOf, PeerRowsSo}
use Rattle.overlap_law.proofs.FirstSearches.{is_on}
use Rattle.overlap_law.proofs.GrantedEpochs.{spec_stays}
use Rattle.overlap_law.proofs.KnownSteps.{together}
use Rattle.overlap_law.proofs.LogsInMoments.{LogGrows}
use Rattle.overlap_law.proofs.ObjectsInRuns.{objects_few}
use Rattle.overlap_law.proofs.RowLists.{all_from}
use Rattle.overlap_law.proofs.RowsInRuns.{create_stays}

-- ---- lists

pub find_at : (test : Message → Bool) (xs : List Message) (x : Message) → find test xs ≡ Some x
    → (place : ℕ) × (slice_get xs place ≡ Some x) × (test x ≡ true)
find_at test [] x found = absurd (cc (found))
find_at test (first ∷ xs) x found = by_test (test first) refl found (λ later. find_at test xs x later)
  where
    by_test : (b : Bool) → test first ≡ b → cond b (Some first) (find test xs) ≡ Some x
        → (find test xs ≡ Some x → (place : ℕ) × (slice_get xs place ≡ Some x) × (test x ≡ true))
        → (place : ℕ) × (slice_get (first ∷ xs) place ≡ Some x) × (test x ≡ true)
    by_test true is found later = (0, found, ap test (sym (same_Some first x found)) ∙ is)
    by_test false is found later = let (place, at, passed) = later found in (suc place, at, passed)

-- ---- what a log says of an object's policy

abbrev policy_from : Option VdiSpec → Option Policy
policy_from o = option_map (λ (spec : VdiSpec). spec.policy) o

pub policy_spec : (effects : List Effect) (oid : ℕ) (policy : Policy) → policy_in effects oid ≡ Some policy
    → (spec : VdiSpec) × (spec_in effects (vid_of oid) ≡ Some spec)
policy_spec effects oid policy known = by_spec (spec_in effects (vid_of oid)) refl known
  where
    by_spec : (o : Option VdiSpec) → spec_in effects (vid_of oid) ≡ o → policy_from o ≡ Some policy
        → (spec : VdiSpec) × (spec_in effects (vid_of oid) ≡ Some spec)
    by_spec None is known = absurd (cc (known))
    by_spec (Some spec) is known = (spec, is)

module _ (log rest : List Entry) where
  pub policy_later : (oid : ℕ) (policy : Policy) → policy_in (log_effects log) oid ≡ Some policy
      → policy_in (log_effects (log ++ rest)) oid ≡ Some policy
  policy_later oid policy known =
      let (spec, made) = policy_spec (log_effects log) oid policy known in
      ap policy_from (spec_stays log rest (vid_of oid) spec made) ∙ sym (ap policy_from made) ∙ known

  pub policy_before : (oid : ℕ) (policy : Policy) (spec : VdiSpec) → spec_in (log_effects log) (vid_of oid) ≡ Some spec
      → policy_in (log_effects (log ++ rest)) oid ≡ Some policy → policy_in (log_effects log) oid ≡ Some policy
  policy_before oid policy spec made known =
      ap policy_from made ∙ sym (ap policy_from (spec_stays log rest (vid_of oid) spec made)) ∙ known

-- ---- copies before a change

-- what is asked of the moment before it, by the effects of the log behind it
pub record CopiesBefore (effects : List Effect) (live : ℕ → Bool) (moment : MomentWithPast) : Type 0 where
  pub policies : EachAttempt moment.past.attempts (λ j attempt. policy_in effects (object_of attempt) ≡ Some (policy_of attempt.work))
  pub whole : AttemptsAreWhole effects moment.past.attempts
  pub makers : MakersAreOfAttempts moment.world.wire moment.past.attempts
  pub rows : EachRow moment.world.hosts (λ n host oid row. IsSoCopy effects live moment.past.attempts oid row.index row.bytes)
  pub told : ToldCopiesAreOfAttempts (log_effects moment.world.log) live moment.world.hosts moment.world.wire moment.past.attempts

-- a node's answer
abbrev answer_of : NodeId → Option RowCopy → RowAnswer
answer_of from row = record { from = from; row = row }

-- what a search is told is of attempts, if what it was told before is, and the row that is told now
after_answer : (effects : List Effect) (live : ℕ → Bool) (attempts : List AttemptRecord) (from : NodeId) (said : Option PeerSay)
    (search : Search) → AnswersAreSo effects live attempts search
    → ((row : RowCopy) → said ≡ Some (says.Row row) → IsSoCopy effects live attempts search.oid row.index (row_bytes row))
    → AnswersAreSo effects live attempts (search_after_answer from said search)
after_answer effects live attempts from None search were new = were
after_answer effects live attempts from (Some says.Success) search were new = were
after_answer effects live attempts from (Some (says.Piece bytes)) search were new = were
after_answer effects live attempts from (Some (says.Objects oids)) search were new = were
after_answer effects live attempts from (Some (says.Row told)) search were new = λ place answer got row is. ⊎_elim
    (λ (old : slice_get search.answers place ≡ Some answer). were place answer old row is)
    (λ (own : (place ≡ length search.answers) × (answer_of from (Some told) ≡ answer)).
    let same : told ≡ row = same_Some told row (ap (λ (a : RowAnswer). a.row) own.1 ∙ is) in
    subst (λ (r : RowCopy). IsSoCopy effects live attempts search.oid r.index (row_bytes r)) same (new told refl))
    (got_more search.answers (answer_of from (Some told)) place answer got)
after_answer effects live attempts from (Some says.NoRow) search were new = λ place answer got row is. ⊎_elim
    (λ (old : slice_get search.answers place ≡ Some answer). were place answer old row is)
    (λ (own : (place ≡ length search.answers) × (answer_of from None ≡ answer)).
    let none : None ≡ Some row = ap (λ (a : RowAnswer). a.row) own.1 ∙ is in absurd (cc (none)))
    (got_more search.answers (answer_of from None) place answer got)
after_answer effects live attempts from (Some (says.Refused refusal)) search were new = were

abbrev request_or : PeerReq → Input → PeerReq
request_or none (inputs.Request request) = request
request_or none _ = none

module _ (script : List Statement) (range : RunsAreInRange script) (start : MomentWithPast) (began : Began script start.world)
    (live : ℕ → Bool) (log_after : List Entry) (grows : LogGrows start.world.log log_after)
    (holds : CopiesBefore (log_effects log_after) live start) where
  abbrev effects : List Effect
  effects = log_effects log_after

  abbrev attempts : List AttemptRecord
  attempts = start.past.attempts

  -- a node knows no more than the log
  node_knows : (n : ℕ) (host : Host) → tree.get start.world.hosts n ≡ Some host → (oid : ℕ) (policy : Policy)
      → live_policy (shown_node host.node) oid ≡ Some policy → policy_in effects oid ≡ Some policy
  node_knows n host there oid policy is =
      let front = all_read script start.world began n host there in
      let known : policy_in (log_effects host.node.peer.entries) oid ≡ Some policy = live_known (shown_node host.node) oid policy is in
      let in_log : policy_in (log_effects start.world.log) oid ≡ Some policy
      = ap (λ (log : List Entry). policy_in (log_effects log) oid) front.is
      ∙ policy_later host.node.peer.entries front.rest oid policy known in
      ap (λ (log : List Entry). policy_in (log_effects log) oid) grows.is ∙ policy_later start.world.log grows.rest oid policy in_log

  were_so : (n : ℕ) (host : Host) → tree.get start.world.hosts n ≡ Some host → (oid : ℕ)
      → AllByRecursion (RowIsSo effects live attempts host.node.peer.epoch oid) (rows_of host.node.peer.rows oid)
  were_so n host there oid =
      all_from (RowIsSo effects live attempts host.node.peer.epoch oid) (rows_of host.node.peer.rows oid)
      (λ i row got. holds.rows n host there oid i row got)

  module _ (stepping : SteppingNode) (is : IsStepping script start.world stepping)
      (log_so : log_after_cause stepping.cause start.world.log ≡ log_after) where
    asked_so : (cause : NodeCause) → IsCause script start.world stepping.n stepping.host cause → (request : PeerReq)
        → input_of_cause cause ≡ inputs.Request request → IsAsked effects live attempts request
    asked_so (GuestAsks session req ask) so request comes = absurd (cc (comes))
    asked_so (RequestComes name to asked) so request comes =
        let same : asked ≡ request = ap (request_or asked) comes in
        subst (IsAsked effects live attempts) same (record {
          of_attempt = λ making.
              let (j, attempt, there, message)
              = holds.makers.each name to asked (record { bytes = so.bytes; there = so.there; spelled = so.read }) making in
              (j, attempt, there, (message.place, message.request_so));
          inside =
              let few = objects_few script range.is_script range.room in
              let creates = creates_in_range script range.is_script range.room few start.world began in
              subst (λ (log : List Entry). CreatesAsRowsAre (log_effects log) asked.ask) (sym grows.is)
              (create_stays start.world.log grows.rest asked.ask (creates.each name to so.bytes asked so.there so.read));
        })
    asked_so (ReplyComes name from rsp) so request comes = absurd (cc (comes))
    asked_so (LossIsTold name packet) so request comes = absurd (cc (comes))
    asked_so (EntryIsRead entry) so request comes = absurd (cc (comes))
    asked_so (EntryIsPut entry) so request comes = absurd (cc (comes))
    asked_so RecoveryTicks so request comes = absurd (cc (comes))
    asked_so WorkIsRetried so request comes = absurd (cc (comes))
    asked_so (ClientAsks req ask) so request comes = absurd (cc (comes))

    up : stepping.host.is_lost ≡ false
    up = not_lost stepping.host is.up

    -- what a search was told, while it awaits an answer
    module _ (same_log : start.world.log ≡ log_after) (number : ℕ) (message : Message)
        (sent : message_of number stepping.host.node.recovery.unanswered ≡ Some message) (oid : ℕ) (level : Epoch)
        (asks_row : message.request.ask ≡ asks.RecoverRead oid level) (search : Search)
        (on : search_on (recovery_state_of stepping.host.node) ≡ Some search) (own : search.oid ≡ oid) where
      then : (q : ℕ) (policy : Policy) → policy_in effects q ≡ Some policy → policy_in (log_effects start.world.log) q ≡ Some policy
      then q policy known = ap (λ (log : List Entry). policy_in (log_effects log) q) same_log ∙ known

      found : (place : ℕ) × (slice_get stepping.host.node.recovery.unanswered place ≡ Some message) × (has_number number message ≡ true)
      found = find_at (has_number number) stepping.host.node.recovery.unanswered message sent

      told_before : AnswersAreSo effects live attempts search
      told_before place answer got row is_row policy alive known =
          holds.told.each stepping.n stepping.host is.there up answer.from stepping.host.node.recovery.epoch search.oid search.level row
          policy
          (inr (record {
            search = search;
            place = place;
            answer = answer;
            there = (is_on stepping.host.node.peer.pending stepping.host.node.recovery.search search on).search;
            among = got;
            from_it = refl;
            told = is_row;
            of_epoch = refl;
            of_object = refl;
            of_level = refl;
          })) alive (then search.oid policy known)

      -- and what it is told now
      told_now : (name : MessageName) (from : NodeId) (rsp : PeerRsp) (bytes : List ℕ) → name.sender.0 ≡ stepping.n
          → tree.get start.world.wire name ≡ Some (Reply from bytes) → say_in bytes ≡ Ok rsp → rsp.number ≡ number
          → (row : RowCopy) → rsp.say ≡ says.Row row → IsSoCopy effects live attempts search.oid row.index (row_bytes row)
      told_now name from rsp bytes here there read number_so row is_row policy alive known =
          let (said, says_so, spelled) = (together script range start.world began).wired.spelled name (Reply from bytes) there in
          let is_said : said ≡ rsp = same_said said rsp (sym says_so ∙ read) in
          let numbered : name.number ≡ message.request.number
          = sym spelled ∙ ap (λ (r : PeerRsp). r.number) is_said ∙ number_so ∙ sym (eqb-true message.request.number number found.2) in
          let name_so : name ≡ message_name stepping.n message.request.number
          = λ i. record { sender = record { 0 = here i }; number = numbered i } in
          let answering : IsAnswering start.world.wire (message_name stepping.n message.request.number) from rsp
          = record { bytes = bytes; there = ap (tree.get start.world.wire) (sym name_so) ∙ there; spelled = read } in
          let so = holds.told.each stepping.n stepping.host is.there up from message.request.epoch.0 oid level.0 row policy
          (inl (record {
            place = found.0;
            message = message;
            reply = rsp;
            unanswered = found.1;
            asked = asks_row;
            of_epoch = refl;
            answering = answering;
            said = is_row;
          }))
          (ap live (sym own) ∙ alive) (ap (policy_in (log_effects start.world.log)) (sym own) ∙ then search.oid policy known) in
          subst (λ (q : ℕ). IsCopyOfAttempts policy q attempts row.index (row_bytes row)) (sym own) so

    told_so : (cause : NodeCause) → IsCause script start.world stepping.n stepping.host cause
        → log_after_cause cause start.world.log ≡ log_after → (number : ℕ) (said : Option PeerSay)
        → TellsOf (input_of_cause cause) number said
        → (message : Message) → message_of number stepping.host.node.recovery.unanswered ≡ Some message → (oid : ℕ) (level : Epoch)
        → message.request.ask ≡ asks.RecoverRead oid level → (search : Search)
        → search_on (recovery_state_of stepping.host.node) ≡ Some search → search.oid ≡ oid
        → AnswersAreSo effects live attempts (search_after_answer message.to said search)
    told_so (GuestAsks session req ask) so log number said tells message sent oid level asks_row search on own = absurd tells
    told_so (RequestComes name to request) so log number said tells message sent oid level asks_row search on own = absurd tells
    told_so (ReplyComes name from rsp) so log number said tells message sent oid level asks_row search on own =
        after_answer effects live attempts message.to said search (told_before log number message sent oid level asks_row search on own)
        (λ row is_row.
        told_now log number message sent oid level asks_row search on own name from rsp so.bytes so.here so.there so.read tells.0 row
        (same_Some rsp.say (says.Row row) (tells.1 ∙ is_row)))
    told_so (LossIsTold name packet) so log number said tells message sent oid level asks_row search on own =
        after_answer effects live attempts message.to said search (told_before log number message sent oid level asks_row search on own)
        (λ row is_row. let none : None ≡ Some (says.Row row) = tells.1 ∙ is_row in absurd (cc (none)))
    told_so (EntryIsRead entry) so log number said tells message sent oid level asks_row search on own = absurd tells
    told_so (EntryIsPut entry) so log number said tells message sent oid level asks_row search on own = absurd tells
    told_so RecoveryTicks so log number said tells message sent oid level asks_row search on own = absurd tells
    told_so WorkIsRetried so log number said tells message sent oid level asks_row search on own = absurd tells
    told_so (ClientAsks req ask) so log number said tells message sent oid level asks_row search on own = absurd tells

    pub stepped_so : PeerRowsSo (AnswersAreSo effects live attempts) (RowIsSo effects live attempts) stepping.host.node
        (node_step (input_of_cause stepping.cause) stepping.host.node).node.peer
    stepped_so =
        step-each_row (AnswersAreSo effects live attempts) (RowIsSo effects live attempts) stepping.host.node
        (input_of_cause stepping.cause)
        (copies_kept effects live attempts holds.policies holds.whole stepping.host.node (input_of_cause stepping.cause)
        (asked_so stepping.cause is.caused) (told_so stepping.cause is.caused log_so) (node_knows stepping.n stepping.host is.there)
        (were_so stepping.n stepping.host is.there))
        (were_so stepping.n stepping.host is.there)

  pub returned_so : (n : ℕ) (host : Host) → tree.get start.world.hosts n ≡ Some host → (entries : List Entry)
      → PeerRowsSo (AnswersAreSo effects live attempts) (RowIsSo effects live attempts) host.node
      (node_step (inputs.Back entries) host.node).node.peer
  returned_so n host there entries =
      step-each_row (AnswersAreSo effects live attempts) (RowIsSo effects live attempts) host.node (inputs.Back entries)
      (copies_kept effects live attempts holds.policies holds.whole host.node (inputs.Back entries)
      (λ request comes. absurd (cc (comes)))
      (λ number said tells message sent oid level asks_row search on own. absurd tells) (node_knows n host there) (were_so n host there))
      (were_so n host there)
