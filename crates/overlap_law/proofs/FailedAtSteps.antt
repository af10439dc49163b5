-- Where a node's step ends a level with too few rows, there are rows of fewer indexes than a read needs, if what the search was told of
-- rows is so: it was told by each node that the level was asked of.
use Rattle.std.proofs.Common.{◌≡◌, inl, inr, ⊎_elim, arith, ℕ, ◌≤◌, ◌<◌, ◌&&◌, not, Bool, true, false, List, length, filter_map, Contains}
use Rattle.std.proofs.Common.{Option, Some, None, option_map, refl, sym, ap, subst, ◌∙◌}
use Rattle.std.specs.FinMap as tree
use Rattle.std.proofs.lemmas.Option.{same_Some}
use Rattle.object_id.specs.declared.entry.Entry.{Entry}
use Rattle.object_id.specs.declared.entry.VdiSpec.{VdiSpec}
use Rattle.object_id.specs.declared.node.NodeId.{NodeId}
use Rattle.object_id.specs.Oid.{kind_of, vid_of}
use Rattle.object_id.specs.Policy.{need_of, wanted_of}
use Rattle.epoch_log.specs.Members.{is_member}
use Rattle.epoch_log.specs.Epochs.{epoch_of, members_in}
use Rattle.object_list.specs.Gathered.{is_same_node, has_node}
use Rattle.object_list.proofs.GatheredLemmas.{has_node-filter}
use Rattle.object_store.specs.declared.row.RowCopy.{RowCopy}
use Rattle.cluster_script.specs.declared.statement.Statement.{Statement}
use Rattle.vdi_directory.specs.Decisions.{log_effects}
use Rattle.peer_proto.specs.declared.ask.PeerAsk.TheVariants as asks
use Rattle.peer_proto.specs.declared.say.PeerRsp.{PeerRsp}
use Rattle.peer_proto.specs.declared.say.PeerSay.{PeerSay}
use Rattle.peer_service.specs.Serve.{row_or_none}
use Rattle.peer_service.specs.State.{spec_of, row_size}
use Rattle.recovery.specs.declared.search.RowAnswer.{RowAnswer}
use Rattle.recovery.specs.Level.{row_of_target, are_enough}
use Rattle.recovery.specs.Shown.{own_row}
use Rattle.recovery.specs.State.{Message, Search, RecoveryState, search_on}
use Rattle.recovery.proofs.FoundLemmas.{live_known}
use Rattle.message_wire.specs.Message.{message_name}
use Rattle.sheep_node.specs.declared.input.Input.{Input}
use Rattle.sheep_node.specs.declared.input.Input.TheVariants as inputs
use Rattle.sheep_node.specs.RecoveryView.{shown_node, recovery_state_of}
use Rattle.sheep_node.specs.StepState.{at_first}
use Rattle.sheep_node.specs.Changes.{input_received}
use Rattle.sheep_world.specs.Began.{Began}
use Rattle.sheep_world.specs.NodeCauses.{NodeCause, GuestAsks, RequestComes, ReplyComes, LossIsTold, EntryIsRead, EntryIsPut, RecoveryTicks}
use Rattle.sheep_world.specs.NodeCauses.{WorkIsRetried, ClientAsks, input_of_cause, IsCause}
use Rattle.sheep_world.specs.World.{Host, World, is_host_up}
use Rattle.sheep_world.specs.RunsWithAsks.{Move}
use Rattle.overlap_law.specs.Each.{has_reached, policy_in, spec_in}
use Rattle.overlap_law.specs.Holders.{targets_by}
use Rattle.overlap_law.specs.MomentChanges.{MomentTrail, RunsAreInRange}
use Rattle.overlap_law.specs.Packets.{IsAnswering}
use Rattle.overlap_law.specs.Past.{MomentWithPast, run_with_past}
use Rattle.overlap_law.specs.Rows.{RowsAreAtTargets}
use Rattle.overlap_law.specs.Searches.{has_kept_answer, indexes_held, ToldRowsAreTrue}
use Rattle.overlap_law.specs.ToldRows.{ToldRow}
use Rattle.overlap_law.proofs.AnswersInMoments.{not_lost}
use Rattle.overlap_law.proofs.BeyondInMoments.{recovers_own}
use Rattle.overlap_law.proofs.EndedLevels.{SearchesCome, HasFailed}
use Rattle.overlap_law.proofs.FailedLevels.{RowsFit, few_indexes}
use Rattle.overlap_law.proofs.FinishedInMoments.{TermsHold, kept_terms}
use Rattle.overlap_law.proofs.FirstSearches.{is_on}
use Rattle.overlap_law.proofs.FirstSearchesInRuns.{in_order-in_world}
use Rattle.overlap_law.proofs.GrantedEpochs.{spec_stays}
use Rattle.overlap_law.proofs.HeardReplies.{IsHeardReply, heard_reply, at_level, heard_among, heard_from, heard_epoch}
use Rattle.overlap_law.proofs.HeldLevels.{members_came}
use Rattle.overlap_law.proofs.LevelsAskedInRuns.{AskedHold, asked_hold, own_recovery, on_levels, next_levels, places_of, targets_of_level}
use Rattle.overlap_law.proofs.LevelsAskedInRuns.{may_ask}
use Rattle.overlap_law.proofs.NumberedMessages.{node_knows}
use Rattle.overlap_law.proofs.LackedOnTheWay.{of_each_run}
use Rattle.overlap_law.proofs.NoRowsStand.{NoRowsHold, kept_no_rows, no_rows_true-on_the_way}
use Rattle.overlap_law.proofs.PlacedInMoments.{placed-in_run}
use Rattle.overlap_law.proofs.RangeOfFewObjects.{rows_told}
use Rattle.overlap_law.proofs.ReadInMoments.{are_present, epoch_within}
use Rattle.overlap_law.proofs.RequestsInRuns.{at_place}
use Rattle.overlap_law.proofs.RunsByChanges.{on_the_way}
use Rattle.overlap_law.proofs.SearchAnswers.{IsRowTold}
use Rattle.overlap_law.proofs.SearchesReceived.{number_in, said_in, received_comes}

-- what is said by a reply
record IsReplyIn (input : Input) (say : PeerSay) : Type 0 where
  rsp : PeerRsp
  is : input ≡ inputs.Reply rsp
  said : rsp.say ≡ say
  number : number_in input ≡ rsp.number

reply_in : (cause : NodeCause) (say : PeerSay) → said_in (input_of_cause cause) ≡ Some say → IsReplyIn (input_of_cause cause) say
reply_in (GuestAsks session req ask) say is = absurd (cc (is))
reply_in (RequestComes name to request) say is = absurd (cc (is))
reply_in (ReplyComes name from rsp) say is = record { rsp = rsp; is = refl; said = same_Some rsp.say say is; number = refl }
reply_in (LossIsTold name packet) say is = absurd (cc (is))
reply_in (EntryIsRead entry) say is = absurd (cc (is))
reply_in (EntryIsPut entry) say is = absurd (cc (is))
reply_in RecoveryTicks say is = absurd (cc (is))
reply_in WorkIsRetried say is = absurd (cc (is))
reply_in (ClientAsks req ask) say is = absurd (cc (is))

module _ (script : List Statement) (range : RunsAreInRange script) (events : List Move) (start before : MomentWithPast)
    (is : run_with_past script events ≡ Some start) (trail : MomentTrail script start before) where
  asks_hold : AskedHold before
  asks_hold = asked_hold script range events start before is trail

  pub terms : TermsHold before
  terms = on_the_way script TermsHold (kept_terms script range) events start before is trail

  rows_hold : NoRowsHold before
  rows_hold = on_the_way script NoRowsHold (kept_no_rows script range) events start before is trail

  module _ (n : ℕ) (was : Host) (cause : NodeCause) (now_began : Began script before.world)
      (there : tree.get before.world.hosts n ≡ Some was)
      (up : is_host_up was ≡ true) (caused : IsCause script before.world n was cause) where
    abbrev state : RecoveryState
    state = recovery_state_of was.node

    abbrev input : Input
    input = input_of_cause cause

    -- what the step makes of the searches
    pub step_comes : SearchesCome (targets_by before.world.log) (policy_in (log_effects before.world.log)) (epoch_of before.world.log)
        (recovery_state_of was.node) (number_in (input_of_cause cause)) (said_in (input_of_cause cause))
        (input_received (input_of_cause cause) (at_first was.node)).node.recovery
        (input_received (input_of_cause cause) (at_first was.node)).node.peer.pending
    step_comes =
        received_comes (targets_by before.world.log) (policy_in (log_effects before.world.log)) (epoch_of before.world.log) was.node
        (asks_hold.sound.each n was there).sound.lists.asks_so (in_order-in_world script range before.world now_began n was there).0
        (asks_hold.apart n was there) (node_knows before.world.log n was.node (asks_hold.sound.each n was there).read)
        (places_of script range before now_began asks_hold n was there) (next_levels script range before now_began asks_hold n was there)
        (on_levels script range before now_began asks_hold n was there) (asks_hold.asked n was there)
        (input_of_cause cause) (may_ask script range before now_began asks_hold n was there cause up caused)

    module _ (good : ℕ → Bool)
        (told_true : ToldRowsAreTrue (targets_by before.world.log) (log_effects before.world.log) good before.world.hosts before.world.wire)
        (oid level : ℕ)
        (failed : HasFailed (targets_by before.world.log) (policy_in (log_effects before.world.log)) (epoch_of before.world.log)
        (recovery_state_of was.node) (number_in (input_of_cause cause)) (said_in (input_of_cause cause)) oid level)
        (good_so : good oid ≡ true) where
      pub later : 1 < was.node.recovery.epoch
      later = let least = failed.levels.0 in let most = failed.levels.1 in omega (arith, least, most)

      placed_so : RowsAreAtTargets (targets_by before.world.log) (log_effects before.world.log) before.world.hosts
      placed_so =
          of_each_run script (λ (world : World). RowsAreAtTargets (targets_by world.log) (log_effects world.log) world.hosts)
          (λ events moment is. placed-in_run script range events moment is) before.world now_began

      pub own_epoch : was.node.recovery.epoch ≡ was.node.peer.epoch
      own_epoch =
          recovers_own before.world.log n was (terms.sound.each n was there) (terms.stood.stood n was there (not_lost was up)) later

      pub within : was.node.recovery.epoch ≤ epoch_of before.world.log
      within =
          let own = own_epoch in
          let most = epoch_within before.world.log n was.node.me was.node.peer (terms.sound.each n was there).read in
          omega (arith, own, most)

      pub came : (node : NodeId) → is_member node.0 (members_in before.world.log was.node.recovery.epoch) ≡ true
          → has_reached before.world.hosts was.node.recovery.epoch node ≡ true
      came =
          members_came before.world.log before.world.hosts (are_present before asks_hold.sound) terms.answers.answered n was there
          failed.listed
          later

      -- the policy that the node knows is the log's
      pub known_policy : policy_in (log_effects before.world.log) oid ≡ Some failed.policy
      known_policy =
          node_knows before.world.log n was.node (asks_hold.sound.each n was there).read oid failed.policy
          (live_known (shown_node was.node) oid failed.policy failed.live)

      -- ---- what was told

      -- by the reply that came
      told_now : (one : Search) → search_on state ≡ Some one → one.oid ≡ oid → one.level ≡ level → (answer : RowAnswer)
          → (row : Option RowCopy) → answer.row ≡ row → IsRowTold (number_in input) (said_in input) was.node.recovery.unanswered one answer
          → ToldRow before.world.wire n was.node answer.from was.node.recovery.epoch oid level row
      told_now one on oid_so level_so answer row row_so t =
          let message : Message = t.message in
          let it = reply_in cause (row_or_none answer.row) t.told in
          let reply : IsHeardReply before.world n message it.rsp
          = heard_reply script range before.world now_began n was there cause caused it.rsp it.is message (t.number_so ∙ it.number) in
          let among = heard_among script range before.world now_began n was there up rows_hold.told.told message t.there it.rsp reply in
          let from = heard_from script range before.world now_began n was there up rows_hold.told.told message t.there it.rsp reply in
          let of = heard_epoch script range before.world now_began n was there up rows_hold.told.told message t.there it.rsp reply in
          let (place, got) = at_place was.node.recovery.unanswered message t.there in
          let level_at : t.level.0 ≡ one.level
          =
          at_level script range before.world now_began n was there one
          (is_on was.node.peer.pending was.node.recovery.search one on).search
          message t.there t.level t.asked in
          inl (record {
            place = place;
            message = message;
            reply = it.rsp;
            unanswered = got;
            asked = t.asked ∙ (λ i. asks.RecoverRead (oid_so i) (record { 0 = (level_at ∙ level_so) i }));
            of_epoch = of;
            answering = subst (λ (q : NodeId). IsAnswering before.world.wire (message_name n message.request.number) q it.rsp)
                (from ∙ sym t.by) reply.answering;
            said = it.said ∙ ap row_or_none row_so;
          })

      told_row : (answer : RowAnswer) (row : Option RowCopy) → Contains failed.answers answer → answer.row ≡ row
          → ToldRow before.world.wire n was.node answer.from was.node.recovery.epoch oid level row
      told_row answer row among row_so =
          let (one, on, oid_so, level_so, any, how) = failed.told answer among in
          ⊎_elim
          (λ (kept : Contains one.answers answer).
          (let (place, got) = at_place one.answers answer kept in
          inr (record {
            search = one;
            place = place;
            answer = answer;
            there = (is_on was.node.peer.pending was.node.recovery.search one on).search;
            among = got;
            from_it = refl;
            told = row_so;
            of_epoch = refl;
            of_object = oid_so;
            of_level = level_so;
          })))
          (λ (told : IsRowTold (number_in input) (said_in input) was.node.recovery.unanswered one answer).
          told_now one on oid_so level_so answer row row_so told)
          how

      -- ---- and by whom

      asked_all : (other : NodeId) → has_node other (targets_by before.world.log level oid failed.policy) ≡ true
          → is_member other.0 (members_in before.world.log was.node.recovery.epoch) ≡ true
          → is_same_node was.node.recovery.me other ≡ false → has_kept_answer failed.answers other ≡ true
      asked_all other target member apart =
          failed.all other
          (has_node-filter (λ (node : NodeId). has_node node was.node.recovery.members && not (is_same_node was.node.recovery.me node))
          other
          (targets_by before.world.log level oid failed.policy)
          ∙ all_three (has_node other (targets_by before.world.log level oid failed.policy)) (has_node other was.node.recovery.members)
          (is_same_node was.node.recovery.me other) target ((are_present before asks_hold.sound).members n was there other later ∙
          member) apart)
        where
          all_three : (a b c : Bool) → a ≡ true → b ≡ true → c ≡ false → (a && (b && not c)) ≡ true
          all_three true true false one two three = refl
          all_three true true true one two three = absurd (cc (three))
          all_three true false c one two three = absurd (cc (two))
          all_three false b c one two three = absurd (cc (one))

      -- ---- the rows of the node itself

      module _ (spec : VdiSpec) (known : spec_of was.node.peer oid ≡ Some spec) where
        spec_by_log : spec_in (log_effects before.world.log) (vid_of oid) ≡ Some spec
        spec_by_log =
            let read = (asks_hold.sound.each n was there).read in
            ap (λ (log : List Entry). spec_in (log_effects log) (vid_of oid)) read.front.is
            ∙ spec_stays was.node.peer.entries read.front.rest (vid_of oid) spec known

        fit : RowsFit was.node oid spec.policy spec
        fit i row got =
            let row_is = (rows_told script range.is_script range.room before.world now_began).rows n was there oid i row got in
            let same : row_is.spec ≡ spec = same_Some row_is.spec spec (sym row_is.made ∙ spec_by_log) in (
              subst (λ (s : VdiSpec). row.index < wanted_of s.policy (kind_of oid)) same row_is.index,
              row_is.size ∙ ap (λ (s : VdiSpec). row_size (kind_of oid) s) same,
            )

        few_by : length (indexes_held (targets_by before.world.log) before.world.log before.world.hosts oid level was.node.recovery.epoch
            failed.policy)
            < need_of failed.policy (kind_of oid)
        few_by =
            let most = failed.levels.1 in
            let own = own_epoch in
            let begun = within in
            few_indexes before.world.log before.world.hosts placed_so asks_hold.log n was there
            (own_recovery script range events start before is trail n was there) oid level (omega (arith, most, begun))
            (omega (arith, most, own)) failed.policy known_policy spec known
            (same_Some spec.policy failed.policy
            (sym (ap (λ (o : Option VdiSpec). option_map (λ (s : VdiSpec). s.policy) o) known)
            ∙ live_known (shown_node was.node) oid failed.policy failed.live))
            fit failed.answers was.node.recovery.epoch asked_all
            (λ answer row among told.
            (told_true.each n was there (not_lost was up) answer.from was.node.recovery.epoch oid level row failed.policy
            (told_row answer (Some row) among told) good_so known_policy).index)
            (λ answer among none.
            (no_rows_true-on_the_way script range events start before is trail good).each n was there
            (not_lost was up) answer.from was.node.recovery.epoch oid level
            (told_row answer None among none) good_so)
            (ap (λ (nodes : List NodeId). are_enough failed.policy (kind_of oid)
            (filter_map (row_of_target was.node.recovery.me (own_row (shown_node was.node) oid level) failed.answers) nodes))
            (sym (targets_of_level script range before now_began asks_hold n was there level failed.levels.0 failed.levels.1 oid
            failed.policy))
            ∙ failed.few)

      -- fewer indexes are held at the level than a read needs
      pub few_held : length (indexes_held (targets_by before.world.log) before.world.log before.world.hosts oid level
          was.node.recovery.epoch
          failed.policy)
          < need_of failed.policy (kind_of oid)
      few_held = by_spec (spec_of was.node.peer oid) refl (live_known (shown_node was.node) oid failed.policy failed.live)
        where
          by_spec : (o : Option VdiSpec) → spec_of was.node.peer oid ≡ o
              → option_map (λ (s : VdiSpec). s.policy) o ≡ Some failed.policy
              → length (indexes_held (targets_by before.world.log) before.world.log before.world.hosts oid level was.node.recovery.epoch
              failed.policy)
              < need_of failed.policy (kind_of oid)
          by_spec None known some = absurd (cc (some))
          by_spec (Some spec) known some = few_by spec known
