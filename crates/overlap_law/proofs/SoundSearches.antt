-- What a search of a recovery knows, where attempts are carried and recovered rows are kept: its level is one before the recovery's epoch,
-- it has passed nothing that was made, and each row that it was told covers the level and has what it owes.
use Rattle.std.proofs.Common.{◌≡◌, inl, inr, ⊎_elim, arith, ℕ, ◌-◌, ◌≤◌, ◌<◌, Bool, true, false, List, Contains, slice_get, Option, Some}
use Rattle.std.proofs.Common.{None, refl, sym, ap, subst, ◌∙◌}
use Rattle.std.specs.FinMap as tree
use Rattle.std.proofs.lemmas.Bool.{eqb-true}
use Rattle.std.proofs.lemmas.Option.{same_Some}
use Rattle.object_id.specs.declared.node.Epoch.{Epoch}
use Rattle.object_id.specs.declared.node.NodeId.{NodeId}
use Rattle.object_id.specs.declared.policy.Policy.{Policy}
use Rattle.object_store.specs.declared.row.RowCopy.{RowCopy}
use Rattle.object_store.specs.Store.{row_bytes}
use Rattle.cluster_script.specs.declared.statement.Statement.{Statement}
use Rattle.peer_proto.specs.declared.ask.PeerAsk.TheVariants as asks
use Rattle.peer_proto.specs.declared.say.PeerRsp.{PeerRsp}
use Rattle.peer_proto.specs.declared.say.PeerSay.{PeerSay}
use Rattle.peer_proto.specs.declared.say.PeerSay.TheVariants as says
use Rattle.vdi_directory.specs.Decisions.{log_effects}
use Rattle.recovery.specs.declared.search.RowAnswer.{RowAnswer}
use Rattle.recovery.specs.State.{Message, Search, search_at, search_on, has_number, message_of}
use Rattle.recovery.specs.Steps.{search_after_answer}
use Rattle.sheep_node.specs.RecoveryView.{recovery_state_of}
use Rattle.sheep_world.specs.World.{Host}
use Rattle.sheep_world.specs.NodeCauses.{NodeCause, GuestAsks, RequestComes, ReplyComes, LossIsTold, EntryIsRead, EntryIsPut}
use Rattle.sheep_world.specs.NodeCauses.{RecoveryTicks, WorkIsRetried, ClientAsks, input_of_cause, IsCause}
use Rattle.sheep_world.specs.Began.{Began}
use Rattle.sheep_world.specs.RunsWithAsks.{Move}
use Rattle.overlap_law.specs.Attempts.{AttemptRecord, object_of}
use Rattle.overlap_law.specs.Each.{policy_in}
use Rattle.overlap_law.specs.Holders.{targets_by}
use Rattle.overlap_law.specs.HeldLevels.{NoSearchHasPassed}
use Rattle.overlap_law.specs.MomentChanges.{RunsAreInRange, Still}
use Rattle.overlap_law.specs.Past.{MomentWithPast, run_with_past}
use Rattle.overlap_law.specs.Searches.{PassedLevelsLackRows, ToldRowsAreSince}
use Rattle.overlap_law.specs.Since.{RowsAreSince}
use Rattle.overlap_law.specs.ToldRows.{ToldRow, end_told, served_told}
use Rattle.overlap_law.specs.Words.{is_made}
use Rattle.overlap_law.proofs.AttemptLists.{got_more}
use Rattle.overlap_law.proofs.AttemptMessages.{contains_at}
use Rattle.overlap_law.proofs.CopiesAtSteps.{find_at}
use Rattle.overlap_law.proofs.FirstSearches.{is_on}
use Rattle.overlap_law.proofs.FirstSearchesInRuns.{search_first-on_the_way}
use Rattle.overlap_law.proofs.FoundOwed.{IsFoundRow, told_low, told_serves, reached_beyond}
use Rattle.overlap_law.proofs.HeldLevels.{HasMade}
use Rattle.overlap_law.proofs.HeardReplies.{IsHeardReply, heard_reply, at_level}
use Rattle.overlap_law.proofs.NoRecoveredDue.{began-with_past}
use Rattle.overlap_law.proofs.PendingInRuns.{knows_pending}
use Rattle.overlap_law.proofs.PendingOfNodes.{KnowsPending}
use Rattle.overlap_law.proofs.RowKeeping.{TellsOf}
use Rattle.overlap_law.proofs.SoundNodes.{sound_in_worlds}
use Rattle.overlap_law.proofs.TellersInMoments.{tellers-on_the_way}
use Rattle.overlap_law.proofs.TrueRows.{rows_true-on_the_way}
use Rattle.overlap_law.proofs.UnpassedLevels.{not_passed}

-- ---- a search stays on its object and level

same_search : (from : NodeId) (said : Option PeerSay) (search : Search)
    → ((search_after_answer from said search).oid ≡ search.oid) × ((search_after_answer from said search).level ≡ search.level)
same_search from None search = (refl, refl)
same_search from (Some says.Success) search = (refl, refl)
same_search from (Some (says.Piece bytes)) search = (refl, refl)
same_search from (Some (says.Objects oids)) search = (refl, refl)
same_search from (Some (says.Row row)) search = (refl, refl)
same_search from (Some says.NoRow) search = (refl, refl)
same_search from (Some (says.Refused refusal)) search = (refl, refl)

-- what holds of each row that it was told holds of each, if it holds of the one that is told now
told_after : (P : RowCopy → Type 0) (from : NodeId) (said : Option PeerSay) (search : Search)
    → ((place : ℕ) (answer : RowAnswer) → slice_get search.answers place ≡ Some answer → (row : RowCopy) → answer.row ≡ Some row → P row)
    → ((row : RowCopy) → said ≡ Some (says.Row row) → P row)
    → (place : ℕ) (answer : RowAnswer) → slice_get (search_after_answer from said search).answers place ≡ Some answer → (row : RowCopy)
    → answer.row ≡ Some row → P row
told_after P from None search were new place answer got row told = were place answer got row told
told_after P from (Some says.Success) search were new place answer got row told = were place answer got row told
told_after P from (Some (says.Piece bytes)) search were new place answer got row told = were place answer got row told
told_after P from (Some (says.Objects oids)) search were new place answer got row told = were place answer got row told
told_after P from (Some (says.Row one)) search were new place answer got row told = ⊎_elim
    (λ (old : slice_get search.answers place ≡ Some answer). were place answer old row told)
    (λ own. new row (ap (λ (o : Option RowCopy). row_said o) (ap (λ (a : RowAnswer). a.row) own.1 ∙ told)))
    (got_more search.answers (record { from = from; row = Some one }) place answer got)
  where
    row_said : Option RowCopy → Option PeerSay
    row_said None = None
    row_said (Some one) = Some (says.Row one)
told_after P from (Some says.NoRow) search were new place answer got row told = ⊎_elim
    (λ (old : slice_get search.answers place ≡ Some answer). were place answer old row told)
    (λ own. let none : None ≡ Some row = ap (λ (a : RowAnswer). a.row) own.1 ∙ told in absurd (cc (none)))
    (got_more search.answers (record { from = from; row = None }) place answer got)
told_after P from (Some (says.Refused refusal)) search were new place answer got row told = were place answer got row told

-- ---- a node at a moment of a run

-- what is carried along an event's way, on which it rests what a recovery finds
pub record FoundNeeds (good : ℕ → Bool) (moment : MomentWithPast) : Type 0 where
  pub has : HasMade good moment
  pub passed : PassedLevelsLackRows (targets_by moment.world.log) moment.world.log (log_effects moment.world.log) good moment.world.hosts
  pub since : RowsAreSince (log_effects moment.world.log) good moment.world.hosts moment.past.attempts
  pub told : ToldRowsAreSince (log_effects moment.world.log) good moment.world.hosts moment.world.wire moment.past.attempts

module _ (script : List Statement) (range : RunsAreInRange script) (events : List Move) (start : MomentWithPast)
    (is : run_with_past script events ≡ Some start) (good : ℕ → Bool) (needs : FoundNeeds good start) (n : ℕ) (host : Host)
    (there : tree.get start.world.hosts n ≡ Some host) (up : host.is_lost ≡ false) where
  began : Began script start.world
  began = began-with_past script events start is

  unpassed : NoSearchHasPassed start.world.log good start.world.hosts start.past.attempts
  unpassed = not_passed script range events start start is Still good needs.has needs.passed

  abbrev attempts : List AttemptRecord
  attempts = start.past.attempts

  abbrev epoch : ℕ
  epoch = host.node.recovery.epoch

  knows : KnowsPending host.node
  knows = knows_pending script range start.world began n host there

  -- ---- what a search knows

  pub record IsSoundSearch (search : Search) : Type 0 where
    pub below : search.level < host.node.recovery.epoch
    pub passed : (j : ℕ) (attempt : AttemptRecord) → slice_get start.past.attempts j ≡ Some attempt → object_of attempt ≡ search.oid
        → good search.oid ≡ true → is_made attempt ≡ true → attempt.epoch < host.node.recovery.epoch → attempt.epoch ≤ search.level
    pub told : (place : ℕ) (answer : RowAnswer) → slice_get search.answers place ≡ Some answer → (row : RowCopy)
        → answer.row ≡ Some row → (policy : Policy) → good search.oid ≡ true
        → policy_in (log_effects start.world.log) search.oid ≡ Some policy
        → IsFoundRow start policy search.oid search.level row.index (row_bytes row)

  on_below : (search : Search) → search_on (recovery_state_of host.node) ≡ Some search → search.level < epoch
  on_below search on = (search_first-on_the_way script range events start start is Still).below n host there up search on

  on_passed : (search : Search) → search_on (recovery_state_of host.node) ≡ Some search → (j : ℕ) (attempt : AttemptRecord)
      → slice_get attempts j ≡ Some attempt → object_of attempt ≡ search.oid → good search.oid ≡ true → is_made attempt ≡ true
      → attempt.epoch < epoch → attempt.epoch ≤ search.level
  on_passed search on j attempt got object is_good made before =
      let held = unpassed.each n host there up search on j attempt got (ap good object ∙ is_good) object made before in
      omega (arith, held)

  -- a row that was told
  told_found : (from : NodeId) (oid level : ℕ) (row : RowCopy) → ToldRow start.world.wire n host.node from epoch oid level (Some row)
      → level < epoch → (policy : Policy) → good oid ≡ true → policy_in (log_effects start.world.log) oid ≡ Some policy
      → IsFoundRow start policy oid level row.index (row_bytes row)
  told_found from oid level row told below policy is_good known =
      let is_true = (rows_true-on_the_way script range events start start is Still good).each n host there up from epoch oid level row
      policy told is_good known in
      record {
        m = from.0;
        end = end_told epoch row.to;
        served_to = served_told epoch row.to;
        low = told_low level epoch row.to below is_true.high;
        serves = told_serves level epoch row.to below;
        placed = is_true.index;
        beyond = reached_beyond start.world.hosts level epoch from below
            ((tellers-on_the_way script range events start start is Still).rows n host there up from epoch oid level (Some row) told);
        has = needs.told.each n host there up from epoch oid level row policy told is_good known;
      }

  sound_on : (search : Search) → search_on (recovery_state_of host.node) ≡ Some search → IsSoundSearch search
  sound_on search on = record {
    below = on_below search on;
    passed = on_passed search on;
    told = λ place answer got row told policy is_good known.
        told_found answer.from search.oid search.level row
        (inr (record {
          search = search;
          place = place;
          answer = answer;
          there = (is_on host.node.peer.pending host.node.recovery.search search on).search;
          among = got;
          from_it = refl;
          told = told;
          of_epoch = refl;
          of_object = refl;
          of_level = refl;
        })) (on_below search on) policy is_good known;
  }

  pub sound_anew : (search : Search) → search_on (recovery_state_of host.node) ≡ Some search
      → IsSoundSearch (search_at search.oid search.level)
  sound_anew search on = record {
    below = on_below search on;
    passed = on_passed search on;
    told = λ place answer got row told policy is_good known. absurd (cc (got));
  }

  pub sound_first : (oid : ℕ) → IsSoundSearch (search_at oid (host.node.recovery.epoch - 1))
  sound_first oid = record {
    below = (let some = knows.some in omega (arith, some));
    passed = λ j attempt got object is_good made before. omega (arith, before);
    told = λ place answer got row told policy is_good known. absurd (cc (got));
  }

  -- ---- an answer counts

  -- a search that is told one row more
  one_more : (from : NodeId) (said : Option PeerSay) (search : Search) → IsSoundSearch search
      → ((row : RowCopy) → said ≡ Some (says.Row row) → (policy : Policy) → good search.oid ≡ true
      → policy_in (log_effects start.world.log) search.oid ≡ Some policy
      → IsFoundRow start policy search.oid search.level row.index (row_bytes row))
      → IsSoundSearch (search_after_answer from said search)
  one_more from said search so new =
      let same = same_search from said search in
      let P : RowCopy → Type 0 = λ (row : RowCopy). (policy : Policy) → good search.oid ≡ true
      → policy_in (log_effects start.world.log) search.oid ≡ Some policy
      → IsFoundRow start policy search.oid search.level row.index (row_bytes row) in
      let all = told_after P from said search so.told new in
      record {
        below = subst (λ (k : ℕ). k < host.node.recovery.epoch) (sym same.1) so.below;
        passed = λ j attempt got object is_good made before.
            subst (λ (k : ℕ). attempt.epoch ≤ k) (sym same.1)
            (so.passed j attempt got (object ∙ same.0) (ap good (sym same.0) ∙ is_good) made before);
        told = λ place answer got row told policy is_good known.
            subst (λ (q : ℕ). IsFoundRow start policy q (search_after_answer from said search).level row.index (row_bytes row)) (sym same.0)
            (subst (λ (k : ℕ). IsFoundRow start policy search.oid k row.index (row_bytes row)) (sym same.1)
            (all place answer got row told policy (ap good (sym same.0) ∙ is_good)
            (ap (policy_in (log_effects start.world.log)) (sym same.0) ∙ known)));
      }

  module _ (number : ℕ) (message : Message) (sent : message_of number host.node.recovery.unanswered ≡ Some message) (oid : ℕ)
      (level : Epoch) (asks_row : message.request.ask ≡ asks.RecoverRead oid level) (search : Search)
      (on : search_on (recovery_state_of host.node) ≡ Some search) (object : search.oid ≡ oid) where
    found_at : (place : ℕ) × (slice_get host.node.recovery.unanswered place ≡ Some message) × (has_number number message ≡ true)
    found_at = find_at (has_number number) host.node.recovery.unanswered message sent

    among : Contains host.node.recovery.unanswered message
    among = contains_at host.node.recovery.unanswered found_at.0 message found_at.1

    level_so : level.0 ≡ search.level
    level_so =
        at_level script range start.world began n host there search
        (is_on host.node.peer.pending host.node.recovery.search search on).search message among level
        (asks_row ∙ ap (λ (q : ℕ). asks.RecoverRead q level) (sym object))

    epoch_so : message.request.epoch.0 ≡ epoch
    epoch_so = (sound_in_worlds script range start.world began n host there).lists.asks_so.of_epoch message among

    -- the row that comes now
    told_now : (rsp : PeerRsp) → IsHeardReply start.world n message rsp → (row : RowCopy) → rsp.say ≡ says.Row row → (policy : Policy)
        → good search.oid ≡ true → policy_in (log_effects start.world.log) search.oid ≡ Some policy
        → IsFoundRow start policy search.oid search.level row.index (row_bytes row)
    told_now rsp heard row said policy is_good known =
        told_found heard.from search.oid search.level row
        (inl (record {
          place = found_at.0;
          message = message;
          reply = rsp;
          unanswered = found_at.1;
          asked = asks_row ∙ (λ i. asks.RecoverRead (sym object i) (record { 0 = level_so i }));
          of_epoch = epoch_so;
          answering = heard.answering;
          said = said;
        })) (on_below search on) policy is_good known

    pub sound_answered : (cause : NodeCause) → IsCause script start.world n host cause → (said : Option PeerSay)
        → TellsOf (input_of_cause cause) number said → IsSoundSearch (search_after_answer message.to said search)
    sound_answered (GuestAsks session req ask) so said tells = absurd tells
    sound_answered (RequestComes name to request) so said tells = absurd tells
    sound_answered (ReplyComes name from rsp) so said tells =
        one_more message.to said search (sound_on search on) (λ row is_row.
        told_now rsp
        (heard_reply script range start.world began n host there (ReplyComes name from rsp) so rsp refl message
        (eqb-true message.request.number number found_at.2 ∙ sym tells.0))
        row (same_Some rsp.say (says.Row row) (tells.1 ∙ is_row)))
    sound_answered (LossIsTold name packet) so said tells =
        one_more message.to said search (sound_on search on) (λ row is_row.
        let none : None ≡ Some (says.Row row) = tells.1 ∙ is_row in absurd (cc (none)))
    sound_answered (EntryIsRead entry) so said tells = absurd tells
    sound_answered (EntryIsPut entry) so said tells = absurd tells
    sound_answered RecoveryTicks so said tells = absurd tells
    sound_answered WorkIsRetried so said tells = absurd tells
    sound_answered (ClientAsks req ask) so said tells = absurd tells
