-- Each change of a moment leaves the levels that a search has passed without as many rows as a read needs, and leaves nothing missing that
-- was made: a level is passed only where too few rows were told of.
use Rattle.std.proofs.Common.{◌≡◌, inl, inr, ⊎_elim, arith, ℕ, ◌≤◌, ◌<◌, ◌-◌, Bool, true, false, List, [], length, map, Option, Some, None}
use Rattle.std.proofs.Common.{is_some, option_map, refl, sym, ap, subst, ◌∙◌}
use Rattle.std.specs.FinMap as tree
use Rattle.std.proofs.lemmas.Bool.{cases_lt}
use Rattle.std.proofs.lemmas.Option.{same_Some}
use Rattle.proof_tools.proofs.Booleans.{cond_either}
use Rattle.object_id.specs.declared.entry.Entry.{Entry}
use Rattle.object_id.specs.declared.entry.Member.{Member}
use Rattle.object_id.specs.declared.entry.VdiSpec.{VdiSpec}
use Rattle.object_id.specs.declared.node.NodeId.{NodeId}
use Rattle.object_id.specs.declared.policy.Policy.{Policy}
use Rattle.object_id.specs.Oid.{kind_of}
use Rattle.object_id.specs.Policy.{need_of}
use Rattle.epoch_log.specs.Epochs.{epoch_of}
use Rattle.epoch_log.specs.Appending.{IsLog}
use Rattle.cluster_script.specs.declared.statement.Statement.{Statement}
use Rattle.vdi_directory.specs.Decisions.{log_effects}
use Rattle.vdi_directory.specs.declared.header.Header.{Header}
use Rattle.peer_service.specs.State.{Peer, header_at, object_policy}
use Rattle.recovery.specs.Shown.{shown_with_pending}
use Rattle.recovery.specs.State.{Search, Recovery, RecoveryState, is_listed, still_on, search_on}
use Rattle.recovery.specs.Steps.{to_recover, at_start, recovery_from_epoch}
use Rattle.sheep_node.specs.declared.input.Input.TheVariants as inputs
use Rattle.sheep_node.specs.LogReading.{epoch_members, come_back_with, on_back}
use Rattle.sheep_node.specs.RecoveryView.{recovery_state_of}
use Rattle.sheep_node.specs.State.{Node}
use Rattle.sheep_node.specs.StepState.{at_first}
use Rattle.sheep_node.specs.Changes.{input_received}
use Rattle.sheep_world.specs.Began.{Began}
use Rattle.sheep_world.specs.EventKinds.{log_after_return}
use Rattle.sheep_world.specs.NodeCauses.{NodeCause, IsCause, input_of_cause}
use Rattle.sheep_world.specs.World.{Host, is_host_up}
use Rattle.sheep_world.specs.RunsWithAsks.{Move}
use Rattle.overlap_law.specs.Each.{policy_in}
use Rattle.overlap_law.specs.Holders.{targets_by}
use Rattle.overlap_law.specs.MomentChanges.{MomentChange, MomentTrail, RunsAreInRange}
use Rattle.overlap_law.specs.Past.{MomentWithPast, run_with_past}
use Rattle.overlap_law.specs.Searches.{indexes_held, ToldRowsAreTrue, PassedLevelsLackRows}
use Rattle.overlap_law.proofs.AnswersInMoments.{not_lost}
use Rattle.overlap_law.proofs.BeyondInMoments.{recovers_own}
use Rattle.overlap_law.proofs.EndedLevels.{IsOnAt, SearchComes, HasFailed}
use Rattle.overlap_law.proofs.FailedAtSteps.{terms, step_comes, later, known_policy, few_held}
use Rattle.overlap_law.proofs.FirstSearches.{is_on}
use Rattle.overlap_law.proofs.FirstSearchesInRuns.{listing-on_the_way, search_first-on_the_way}
use Rattle.overlap_law.proofs.FinishedInMoments.{TermsHold}
use Rattle.overlap_law.proofs.HeldLevels.{members_came}
use Rattle.overlap_law.proofs.LackedAtEntries.{policy_stays}
use Rattle.overlap_law.proofs.LackedWherePlaced.{pending_lacked-on_the_way}
use Rattle.overlap_law.proofs.NumberedMessages.{node_knows}
use Rattle.overlap_law.proofs.LogsInMoments.{LogGrows, log_grows}
use Rattle.overlap_law.proofs.NoRecoveredDue.{began-with_past}
use Rattle.overlap_law.proofs.NodePartsInMoments.{PartsChange, PartsStay, PartsStep, PartsReturn, PartsAreNew, parts_change}
use Rattle.overlap_law.proofs.PassedStays.{stays_passed}
use Rattle.overlap_law.proofs.PlacedInMoments.{placed-on_the_way}
use Rattle.overlap_law.proofs.ReadInMoments.{are_present, epoch_within}
use Rattle.overlap_law.proofs.RunsByChanges.{on_the_way}
use Rattle.overlap_law.proofs.SearchAnswers.{begun-none}
use Rattle.overlap_law.proofs.SearchesReceived.{number_in, said_in}
use Rattle.overlap_law.proofs.UnpassedLevels.{kept_log}

-- a node that knows an id knows its policy
pub policy_known : (peer : Peer) (oid : ℕ) → is_some (header_at peer oid) ≡ true
    → (policy : Policy) × (object_policy peer oid ≡ Some policy)
policy_known peer oid known = by_header (header_at peer oid) refl known
  where
    by_header : (o : Option Header) → header_at peer oid ≡ o → is_some o ≡ true → (policy : Policy) × (object_policy peer oid ≡ Some policy)
    by_header None is known = absurd (cc (known))
    by_header (Some header) is known = (
      header.spec.policy,
      ap (λ (o : Option Header). option_map (λ (s : VdiSpec). s.policy) (option_map (λ (h : Header). h.spec) o)) is,
    )

-- nothing is searched where a node comes back, and nothing is missing
pub back_none : (entries : List Entry) (node : Node) → (input_received (inputs.Back entries) (at_first node)).node.recovery.search ≡ None
unfolding on_back
back_none entries node =
    let back : Node = come_back_with entries node in
    begun-none back.peer.epoch (map (λ (member : Member). member.node) (epoch_members back)) (recovery_state_of back)

begun_misses : (epoch : ℕ) (members : List NodeId) (state : RecoveryState)
    → (recovery_from_epoch epoch members state).recovery.missing ≡ []
unfolding recovery_from_epoch
begun_misses epoch members state =
    let begun : RecoveryState = at_start epoch members state in
    cond_either (λ (s : RecoveryState). s.recovery.missing ≡ []) (is_listed begun.recovery)
    (record begun { shown = shown_with_pending (to_recover begun) begun.shown }) begun refl refl

pub back_misses : (entries : List Entry) (node : Node) → (input_received (inputs.Back entries) (at_first node)).node.recovery.missing ≡ []
unfolding on_back
back_misses entries node =
    let back : Node = come_back_with entries node in
    begun_misses back.peer.epoch (map (λ (member : Member). member.node) (epoch_members back)) (recovery_state_of back)

module _ (script : List Statement) (range : RunsAreInRange script) (events : List Move) (start before after : MomentWithPast)
    (is : run_with_past script events ≡ Some start) (trail : MomentTrail script start before)
    (change : MomentChange script start before after) where
  pub terms_so : TermsHold before
  terms_so = terms script range events start before is trail

  pub is_log : IsLog before.world.log
  is_log = on_the_way script (λ (m : MomentWithPast). IsLog m.world.log) (kept_log script range) events start before is trail

  began : Began script start.world
  began = began-with_past script events start is

  grows : LogGrows before.world.log after.world.log
  grows = log_grows script change

  -- a policy is the same then
  pub same_policy : (oid : ℕ) (one policy : Policy) → policy_in (log_effects before.world.log) oid ≡ Some one
      → policy_in (log_effects after.world.log) oid ≡ Some policy → one ≡ policy
  same_policy oid one policy was now =
      same_Some one policy
      (sym (ap (λ (log : List Entry). policy_in (log_effects log) oid) grows.is ∙ policy_stays before.world.log grows.rest oid one was) ∙
      now)

  -- ---- a search that went on before

  module _ (n : ℕ) (was : Host) (there : tree.get before.world.hosts n ≡ Some was) (up : was.is_lost ≡ false) (one : Search)
      (on : search_on (recovery_state_of was.node) ≡ Some one) where
    pub on_later : 1 < was.node.recovery.epoch
    on_later =
        let first = search_first-on_the_way script range events start before is trail in
        let least = first.above n was there up one on in
        let most = first.below n was there up one on in
        omega (arith, least, most)

    pub on_listed : is_listed was.node.recovery ≡ true
    on_listed = by_list (is_listed was.node.recovery) refl
      where
        by_list : (b : Bool) → is_listed was.node.recovery ≡ b → b ≡ true
        by_list true so = refl
        by_list false unlisted =
            let none : search_on (recovery_state_of was.node) ≡ None
            = ap (still_on was.node.peer.pending)
            ((listing-on_the_way script range events start before is trail).search n was there up unlisted) in
            absurd (cc (none, on))

    -- the log knows its policy
    pub on_policy : (policy : Policy) × (policy_in (log_effects before.world.log) one.oid ≡ Some policy)
    on_policy =
        let pending = (is_on was.node.peer.pending was.node.recovery.search one on).pending_so in
        let known = (pending_lacked-on_the_way script range events start before is trail (λ oid. true)).known n was there up one.oid
        pending refl in
        let (policy, so) = policy_known was.node.peer one.oid known in
        (policy, node_knows before.world.log n was.node (terms_so.sound.each n was there).read one.oid policy so)

  -- fewer rows than are needed stay so, where the list of a recovery is finished
  module _ (n : ℕ) (was : Host) (there : tree.get before.world.hosts n ≡ Some was) (up : was.is_lost ≡ false)
      (listed : is_listed was.node.recovery ≡ true) (later : 1 < was.node.recovery.epoch) where
    pub few_stay : (oid level : ℕ) (policy : Policy) → policy_in (log_effects before.world.log) oid ≡ Some policy
        → level < was.node.recovery.epoch
        → length (indexes_held (targets_by before.world.log) before.world.log before.world.hosts oid level was.node.recovery.epoch policy)
        < need_of policy (kind_of oid)
        → length (indexes_held (targets_by after.world.log) after.world.log after.world.hosts oid level was.node.recovery.epoch policy)
        < need_of policy (kind_of oid)
    few_stay oid level policy policy_so below few =
        let own : was.node.recovery.epoch ≡ was.node.peer.epoch
        = recovers_own before.world.log n was (terms_so.sound.each n was there) (terms_so.stood.stood n was there up) later in
        let most = epoch_within before.world.log n was.node.me was.node.peer (terms_so.sound.each n was there).read in
        stays_passed script range start before after began change grows terms_so.stood.some is_log (log_effects before.world.log)
        (placed-on_the_way script range events start before is trail) oid level was.node.recovery.epoch policy policy_so below
        (omega (arith, own, most))
        (members_came before.world.log before.world.hosts (are_present before terms_so.sound) terms_so.answers.answered n was there
        listed later)
        few

  module _ (good : ℕ → Bool)
      (told_true : ToldRowsAreTrue (targets_by before.world.log) (log_effects before.world.log) good before.world.hosts before.world.wire)
      (passed : PassedLevelsLackRows (targets_by before.world.log) before.world.log (log_effects before.world.log) good before.world.hosts)
    where
      -- fewer rows than are needed of an object at a level, in a recovery's epoch
      abbrev LacksRows : ℕ → ℕ → ℕ → Type 0
      LacksRows oid level epoch = (policy : Policy) → policy_in (log_effects after.world.log) oid ≡ Some policy
          → length (indexes_held (targets_by after.world.log) after.world.log after.world.hosts oid level epoch policy)
          < need_of policy (kind_of oid)

      -- at a level that was passed before
      passed_before : (n : ℕ) (was : Host) → tree.get before.world.hosts n ≡ Some was → was.is_lost ≡ false → (one : Search)
          → search_on (recovery_state_of was.node) ≡ Some one → good one.oid ≡ true → (level : ℕ) → one.level < level
          → level < was.node.recovery.epoch → LacksRows one.oid level was.node.recovery.epoch
      passed_before n was there up one on good_so level above below policy policy_so =
          let (own, known) = on_policy n was there up one on in
          subst (λ (p : Policy). length (indexes_held (targets_by after.world.log) after.world.log after.world.hosts one.oid level
          was.node.recovery.epoch p) < need_of p (kind_of one.oid)) (same_policy one.oid own policy known policy_so)
          (few_stay n was there up (on_listed n was there up one on) (on_later n was there up one on) one.oid level own known below
          (passed.each n was there up one own level on good_so known above below))

      module _ (n : ℕ) (was : Host) (cause : NodeCause) (now_began : Began script before.world)
          (there : tree.get before.world.hosts n ≡ Some was)
          (up : is_host_up was ≡ true) (caused : IsCause script before.world n was cause) where
        -- a search that goes on at its level or above
        on_before : (oid at_level : ℕ) → IsOnAt (recovery_state_of was.node) oid at_level → good oid ≡ true → (level : ℕ) → at_level < level
            → level < was.node.recovery.epoch → LacksRows oid level was.node.recovery.epoch
        on_before oid at_level on good_so level above below policy policy_so =
            let same = on.level_so in
            subst (λ (k : ℕ). length (indexes_held (targets_by after.world.log) after.world.log after.world.hosts k level
            was.node.recovery.epoch policy) < need_of policy (kind_of k)) on.oid_so
            (passed_before n was there (not_lost was up) on.one on.on (ap good on.oid_so ∙ good_so) level
            (omega (arith, same, above)) below policy
            (ap (policy_in (log_effects after.world.log)) on.oid_so ∙ policy_so))

        module _ (oid at_level : ℕ)
            (failed : HasFailed (targets_by before.world.log) (policy_in (log_effects before.world.log)) (epoch_of before.world.log)
            (recovery_state_of was.node) (number_in (input_of_cause cause)) (said_in (input_of_cause cause)) oid at_level)
            (good_so : good oid ≡ true) where
          -- the level that failed lacks rows
          failed_lacks : LacksRows oid at_level was.node.recovery.epoch
          failed_lacks policy policy_so =
              let known = known_policy script range events start before is trail n was cause now_began there up caused good told_true oid
              at_level
              failed good_so in
              subst (λ (p : Policy). length (indexes_held (targets_by after.world.log) after.world.log after.world.hosts oid at_level
              was.node.recovery.epoch p) < need_of p (kind_of oid)) (same_policy oid failed.policy policy known policy_so)
              (few_stay n was there (not_lost was up) failed.listed
              (later script range events start before is trail n was cause now_began there up caused good told_true oid at_level failed
              good_so)
              oid at_level failed.policy known failed.levels.1
              (few_held script range events start before is trail n was cause now_began there up caused good told_true oid at_level
              failed good_so))

          -- before the change too, there and at each level above
          pub lacks_before : (level : ℕ) → at_level ≤ level → level < was.node.recovery.epoch
              → length (indexes_held (targets_by before.world.log) before.world.log before.world.hosts oid level was.node.recovery.epoch
              failed.policy)
              < need_of failed.policy (kind_of oid)
          lacks_before level from below = ⊎_elim
              (λ (above : at_level < level). ⊎_elim
              (λ (on : IsOnAt (recovery_state_of was.node) oid at_level).
              (let same = on.level_so in
              subst (λ (k : ℕ). length (indexes_held (targets_by before.world.log) before.world.log before.world.hosts k level
              was.node.recovery.epoch failed.policy) < need_of failed.policy (kind_of k)) on.oid_so
              (passed.each n was there (not_lost was up) on.one failed.policy level on.on (ap good on.oid_so ∙ good_so)
              (ap (policy_in (log_effects before.world.log)) on.oid_so
              ∙ known_policy script range events start before is trail n was cause now_began there up caused good told_true oid at_level
              failed
              good_so)
              (omega (arith, same, above)) below)))
              (λ (first : at_level ≡ was.node.recovery.epoch - 1). absurd (omega (arith, first, above, below)))
              failed.before)
              (λ (least : level ≤ at_level).
              (let same : at_level ≡ level = omega (arith, least, from) in
              subst (λ (k : ℕ). length (indexes_held (targets_by before.world.log) before.world.log before.world.hosts oid k
              was.node.recovery.epoch failed.policy) < need_of failed.policy (kind_of oid)) same
              (few_held script range events start before is trail n was cause now_began there up caused good told_true oid at_level failed
              good_so)))
              (cases_lt at_level level)

          -- and so does each above
          lacks_from : (level : ℕ) → at_level ≤ level → level < was.node.recovery.epoch → LacksRows oid level was.node.recovery.epoch
          lacks_from level from below = ⊎_elim
              (λ (above : at_level < level). ⊎_elim
              (λ (on : IsOnAt (recovery_state_of was.node) oid at_level). on_before oid at_level on good_so level above below)
              (λ (first : at_level ≡ was.node.recovery.epoch - 1). absurd (omega (arith, first, above, below)))
              failed.before)
              (λ (least : level ≤ at_level).
              (let same : at_level ≡ level = omega (arith, least, from) in
              subst (λ (k : ℕ). LacksRows oid k was.node.recovery.epoch) same failed_lacks))
              (cases_lt at_level level)

        -- what a search has passed
        search_lacks : (search : Search) → good search.oid ≡ true
            → SearchComes (targets_by before.world.log) (policy_in (log_effects before.world.log)) (epoch_of before.world.log)
            (recovery_state_of was.node) (number_in (input_of_cause cause)) (said_in (input_of_cause cause)) search
            → (level : ℕ) → search.level < level → level < was.node.recovery.epoch → LacksRows search.oid level was.node.recovery.epoch
        search_lacks search good_so (inl on) level above below = on_before search.oid search.level on good_so level above below
        search_lacks search good_so (inr (inl first)) level above below = absurd (omega (arith, first, above, below))
        search_lacks search good_so (inr (inr lower)) level above below =
            let from = lower.1 in
            lacks_from search.oid lower.0 lower.2 good_so level (omega (arith, from, above)) below

      pub passed_after : PassedLevelsLackRows (targets_by after.world.log) after.world.log
          (log_effects after.world.log) good after.world.hosts
      passed_after = record {
        each = λ n now there up search policy level on good_so policy_so above below.
            by_parts n now up search policy level on good_so policy_so above below
            (parts_change script range start began change n now there);
      }
        where
          by_parts : (n : ℕ) (now : Host) → now.is_lost ≡ false → (search : Search) (policy : Policy) (level : ℕ)
              → search_on (recovery_state_of now.node) ≡ Some search → good search.oid ≡ true
              → policy_in (log_effects after.world.log) search.oid ≡ Some policy → search.level < level → level < now.node.recovery.epoch
              → PartsChange script before n now
              → length (indexes_held (targets_by after.world.log) after.world.log after.world.hosts search.oid level
              now.node.recovery.epoch policy)
              < need_of policy (kind_of search.oid)
          by_parts n now up search policy level on good_so policy_so above below (PartsStay was there was_up parts) =
              let same : was.node.recovery.epoch ≡ now.node.recovery.epoch = ap (λ (r : Recovery). r.epoch) (sym parts.recovery) in
              subst (λ (k : ℕ). LacksRows search.oid level k) same
              (passed_before n was there (was_up up) search
              ((λ i. still_on (sym (ap (λ (p : Peer). p.pending) parts.peer) i) (sym (ap (λ (r : Recovery). r.search) parts.recovery) i))
              ∙ on)
              good_so level above (omega (arith, same, below))) policy policy_so
          by_parts n now up search policy level on good_so policy_so above below (PartsStep was cause now_began there was_up caused parts) =
              let came_so = (step_comes script range events start before is trail n was cause now_began there was_up caused).searched search
              ((λ i. still_on (sym (ap (λ (p : Peer). p.pending) parts.peer) i) (sym (ap (λ (r : Recovery). r.search) parts.recovery) i))
              ∙ on) in
              let same : was.node.recovery.epoch ≡ now.node.recovery.epoch
              = sym came_so.1 ∙ ap (λ (r : Recovery). r.epoch) (sym parts.recovery) in
              subst (λ (k : ℕ). LacksRows search.oid level k) same
              (search_lacks n was cause now_began there was_up caused search good_so came_so.0 level above (omega (arith, same, below)))
              policy
              policy_so
          by_parts n now up search policy level on good_so policy_so above below (PartsReturn was now_began there lost parts) =
              let none : search_on (recovery_state_of now.node) ≡ None
              = ap (λ (r : Recovery). still_on now.node.peer.pending r.search) parts.recovery
              ∙ ap (still_on now.node.peer.pending) (back_none (log_after_return script n before.world) was.node) in
              absurd (cc (none, on))
          by_parts n now up search policy level on good_so policy_so above below (PartsAreNew fresh parts) =
              let none : search_on (recovery_state_of now.node) ≡ None
              = ap (λ (r : Recovery). still_on now.node.peer.pending r.search) parts.recovery in
              absurd (cc (none, on))
