-- Each change of a moment on the way of an event carries the attempts on: as many targets as a read needs are members of each later epoch,
-- where the newest has as many of each epoch that counts.
use Rattle.std.proofs.Common.{◌≡◌, ◌⊎◌, inl, inr, ⊎_elim, arith, ℕ, suc, ◌≤◌, ◌<◌, Bool, true, false, cond, List, [], ◌∷◌, length, min}
use Rattle.std.proofs.Common.{filter, map, Some, refl, sym, ap, subst, ◌∙◌, slice_get}
use Rattle.std.proofs.lemmas.Bool.{cases_lt, eqb-true, eq-eqb, or_cases, or_left, or_right, or_parts}
use Rattle.std.proofs.lemmas.Option.{same_Some}
use Rattle.object_id.specs.declared.node.NodeId.{NodeId}
use Rattle.object_id.specs.declared.entry.Entry.{Entry}
use Rattle.object_id.specs.declared.policy.Policy.{Policy}
use Rattle.object_id.specs.Oid.{kind_of}
use Rattle.object_id.specs.Policy.{wanted_of, need_of}
use Rattle.epoch_log.specs.Members.{is_member}
use Rattle.epoch_log.specs.Epochs.{epoch_of, members_in, settled_of}
use Rattle.hash_ring.specs.Circle.{hash_of_object}
use Rattle.hash_ring.specs.Placement.{targets_of, zone_count}
use Rattle.hash_ring.proofs.TargetLaws.{length-targets_of}
use Rattle.cluster_script.specs.declared.statement.Statement.{Statement}
use Rattle.object_list.specs.Gathered.{is_same_node, has_node}
use Rattle.vdi_directory.specs.Decisions.{log_effects}
use Rattle.peer_proto.specs.Work.{policy_of}
use Rattle.gateway.specs.declared.message.Message.{Message}
use Rattle.sheep_node.specs.Changes.{attempt_in}
use Rattle.sheep_world.specs.Began.{Began}
use Rattle.sheep_world.specs.RunsWithAsks.{Move}
use Rattle.overlap_law.specs.Attempts.{Flying, AttemptRecord, object_of}
use Rattle.overlap_law.specs.Words.{is_in_vain, is_one_in_vain, is_doomed}
use Rattle.overlap_law.specs.Reached.{Hosts, is_beyond, has_finished, is_dying}
use Rattle.overlap_law.specs.Holders.{targets_by}
use Rattle.overlap_law.specs.Past.{MomentWithPast, run_with_past}
use Rattle.overlap_law.specs.Each.{policy_in}
use Rattle.overlap_law.specs.TiedAttempts.{IsTied}
use Rattle.overlap_law.specs.ShapedAttempts.{AreShaped}
use Rattle.overlap_law.specs.Rows.{common, IsCarriedFrom, AttemptsAreCarried}
use Rattle.overlap_law.specs.HeldLevels.{NewestHasTargets}
use Rattle.overlap_law.specs.MomentChanges.{MomentChange, MomentTrail, RunsAreInRange}
use Rattle.overlap_law.proofs.BeyondInMoments.{within_stays, finished_leaves, lives_within, doomed_later, dying_later}
use Rattle.overlap_law.proofs.EpochsInRuns.{settled_less}
use Rattle.overlap_law.proofs.FinishedInMoments.{TermsHold, kept_terms}
use Rattle.overlap_law.proofs.HolderLemmas.{target-member}
use Rattle.overlap_law.proofs.LogsInMoments.{LogGrows, log_grows, same_members}
use Rattle.overlap_law.proofs.NewAttempts.{IsOpened, WasAttempt, come_from}
use Rattle.overlap_law.proofs.NoRecoveredDue.{began-with_past}
use Rattle.overlap_law.proofs.RecoveredInMoments.{node_of}
use Rattle.overlap_law.proofs.RunsByChanges.{on_the_way}
use Rattle.overlap_law.proofs.ShapedAttempts.{targets_stay, kept_shaped}
use Rattle.overlap_law.proofs.TiedInRuns.{kept_tied}

-- ---- how many of some nodes pass a test

filter_fewer : (p : NodeId → Bool) (nodes : List NodeId) → length (filter p nodes) ≤ length nodes
filter_fewer p [] = omega arith
filter_fewer p (node ∷ nodes) = by_test (p node) (filter_fewer p nodes)
  where
    by_test : (b : Bool) → length (filter p nodes) ≤ length nodes
        → length (cond b (node ∷ filter p nodes) (filter p nodes)) ≤ length (node ∷ nodes)
    by_test true fewer = omega (arith, fewer)
    by_test false fewer = omega (arith, fewer)

filter_all : (p : NodeId → Bool) (nodes : List NodeId) → ((node : NodeId) → has_node node nodes ≡ true → p node ≡ true)
    → length (filter p nodes) ≡ length nodes
filter_all p [] all = refl
filter_all p (node ∷ nodes) all =
    ap (λ (b : Bool). length (cond b (node ∷ filter p nodes) (filter p nodes)))
    (all node (or_left (is_same_node node node) (has_node node nodes) (eq-eqb node.0 node.0 refl)))
    ∙ ap suc (filter_all p nodes (λ other among. all other (or_right (is_same_node other node) (has_node other nodes) among)))

-- ---- an attempt whose messages fly

-- where it isn't doomed no target is beyond the epoch
none_beyond : (hosts : Hosts) (epoch : ℕ) (messages : List Message)
    → is_one_in_vain hosts epoch (map (λ (message : Message). message.node) messages) (map (λ (message : Message). Flying) messages) ≡ false
    → (target : NodeId) → has_node target (map (λ (message : Message). message.node) messages) ≡ true → is_beyond hosts epoch target ≡ false
none_beyond hosts epoch [] stands target among = absurd (cc (among))
none_beyond hosts epoch (message ∷ messages) stands target among =
    let parts = or_parts (is_in_vain hosts epoch message.node Flying)
    (is_one_in_vain hosts epoch (map (λ (m : Message). m.node) messages) (map (λ (m : Message). Flying) messages)) stands in
    ⊎_elim
    (λ (here : is_same_node target message.node ≡ true).
    ap (λ (n : ℕ). is_beyond hosts epoch (node_of n)) (sym (eqb-true message.node.0 target.0 here)) ∙ parts.0)
    (λ (later : has_node target (map (λ (m : Message). m.node) messages) ≡ true). none_beyond hosts epoch messages parts.1 target later)
    (or_cases (is_same_node target message.node) (has_node target (map (λ (m : Message). m.node) messages)) among)

-- no more are targets than are wanted
pub targets_few : (log : List Entry) (epoch oid : ℕ) (policy : Policy)
    → length (targets_by log epoch oid policy) ≤ wanted_of policy (kind_of oid)
unfolding targets_by
targets_few log epoch oid policy =
    let all : length (targets_of (members_in log epoch) (hash_of_object oid) (wanted_of policy (kind_of oid)))
    ≡ min (wanted_of policy (kind_of oid)) (zone_count (members_in log epoch))
    = length-targets_of (members_in log epoch) (hash_of_object oid) (wanted_of policy (kind_of oid)) in
    omega (arith, all)

none_needed : (need some all wanted other : ℕ) → need ≤ some → some ≤ all → all ≤ wanted → wanted ≡ 0 → need ≤ other
none_needed need some all wanted other one two three none = omega (arith, one, two, three, none)

no_more_needed : (need some all : ℕ) → need ≤ some → some ≤ all → need ≤ all
no_more_needed need some all one two = omega (arith, one, two)

-- a list is empty, or has a first node
some_node : (nodes : List NodeId) → (nodes ≡ []) ⊎ ((node : NodeId) × (has_node node nodes ≡ true))
some_node [] = inl refl
some_node (node ∷ nodes) = inr (node, or_left (is_same_node node node) (has_node node nodes) (eq-eqb node.0 node.0 refl))

-- ---- a change of a moment

module _ (script : List Statement) (range : RunsAreInRange script) (start before after : MomentWithPast) (began : Began script start.world)
    (change : MomentChange script start before after) (terms : TermsHold before) (shaped : AreShaped before) (tied : IsTied before)
    (good : ℕ → Bool)
    (has_targets : NewestHasTargets (targets_by after.world.log) after.world.log (log_effects after.world.log) good after.past.attempts)
    (carried : AttemptsAreCarried (targets_by before.world.log) before.world.log (log_effects before.world.log) good before.world.hosts
    before.past.attempts) where
  terms_after : TermsHold after
  terms_after = (kept_terms script range).keeps start before after began change terms

  shaped_after : AreShaped after
  shaped_after = (kept_shaped script range).keeps start before after began change shaped

  grows : LogGrows before.world.log after.world.log
  grows = log_grows script change

  settled_grows : settled_of before.world.log ≤ settled_of after.world.log
  settled_grows =
      subst (λ (log : List Entry). settled_of before.world.log ≤ settled_of log) (sym grows.is) (settled_less before.world.log grows.rest)

  abbrev newest : ℕ
  newest = epoch_of after.world.log

  -- how many of an epoch's targets a later epoch has now
  abbrev common_now : ℕ → ℕ → ℕ → Policy → ℕ
  common_now oid epoch later policy = common (targets_by after.world.log) after.world.log epoch later oid policy

  -- an epoch is one of those before, or the newest
  old_or_newest : (k : ℕ) → k ≤ epoch_of after.world.log → (k ≤ epoch_of before.world.log) ⊎ (k ≡ epoch_of after.world.log)
  old_or_newest k within = ⊎_elim
      (λ (new : epoch_of before.world.log < k). let most = grows.most in inr (omega (arith, new, within, most)))
      (λ (old : k ≤ epoch_of before.world.log). inl old)
      (cases_lt (epoch_of before.world.log) k)

  -- of the epochs before there are as many as there were
  same_common : (oid epoch later : ℕ) (policy : Policy) → epoch ≤ epoch_of before.world.log → later ≤ epoch_of before.world.log
      → common_now oid epoch later policy ≡ common (targets_by before.world.log) before.world.log epoch later oid policy
  same_common oid epoch later policy begun within =
      let members = same_members before.world.log after.world.log grows terms.stood.some later within in
      let targets : targets_by after.world.log epoch oid policy ≡ targets_by before.world.log epoch oid policy
      = ap (λ (log : List Entry). targets_by log epoch oid policy) grows.is
      ∙ targets_stay before.world.log grows.rest epoch oid policy terms.stood.some begun in
      λ i. length (filter (λ (node : NodeId). is_member node.0 (members i)) (targets i))

  -- so what was carried to the newest epoch is carried to that of now, if that has enough of the targets
  carried_on : (oid epoch : ℕ) (policy : Policy) → epoch ≤ epoch_of before.world.log
      → IsCarriedFrom (targets_by before.world.log) before.world.log epoch oid policy
      → need_of policy (kind_of oid) ≤ common_now oid epoch newest policy
      → IsCarriedFrom (targets_by after.world.log) after.world.log epoch oid policy
  carried_on oid epoch policy begun was enough later from most = ⊎_elim
      (λ (old : later ≤ epoch_of before.world.log).
      subst (λ (count : ℕ). need_of policy (kind_of oid) ≤ count) (sym (same_common oid epoch later policy begun old)) (was later from old))
      (λ (is : later ≡ epoch_of after.world.log).
      subst (λ (k : ℕ). need_of policy (kind_of oid) ≤ common_now oid epoch k policy) (sym is) enough)
      (old_or_newest later most)

  carried_at_newest : (oid epoch : ℕ) (policy : Policy) → epoch ≡ epoch_of after.world.log
      → need_of policy (kind_of oid) ≤ common_now oid epoch newest policy
      → IsCarriedFrom (targets_by after.world.log) after.world.log epoch oid policy
  carried_at_newest oid epoch policy is enough later from most =
      let same : later ≡ epoch_of after.world.log = omega (arith, is, from, most) in
      subst (λ (k : ℕ). need_of policy (kind_of oid) ≤ common_now oid epoch k policy) (sym same) enough

  -- where all targets of an epoch are members of the later ones it is carried too
  carried_whole : (oid epoch : ℕ) (policy : Policy) → need_of policy (kind_of oid) ≤ common_now oid epoch newest policy
      → ((later : ℕ) (node : NodeId) → epoch ≤ later → later ≤ epoch_of after.world.log
      → has_node node (targets_by after.world.log epoch oid policy) ≡ true → is_member node.0 (members_in after.world.log later) ≡ true)
      → IsCarriedFrom (targets_by after.world.log) after.world.log epoch oid policy
  carried_whole oid epoch policy enough all later from most =
      let targets : List NodeId = targets_by after.world.log epoch oid policy in
      let fewer = filter_fewer (λ (node : NodeId). is_member node.0 (members_in after.world.log newest))
      (targets_by after.world.log epoch oid policy) in
      let whole : length (filter (λ (node : NodeId). is_member node.0 (members_in after.world.log later)) targets) ≡ length targets
      = filter_all (λ (node : NodeId). is_member node.0 (members_in after.world.log later)) targets
      (λ node among. all later node from most among) in
      subst (λ (count : ℕ). need_of policy (kind_of oid) ≤ count) (sym whole)
      (no_more_needed (need_of policy (kind_of oid)) (common_now oid epoch newest policy)
      (length (targets_by after.world.log epoch oid policy)) enough fewer)

  -- ---- one attempt

  module _ (j : ℕ) (now : AttemptRecord) (got : slice_get after.past.attempts j ≡ Some now) (policy : Policy)
      (is_good : good (object_of now) ≡ true) (policy_so : policy_in (log_effects after.world.log) (object_of now) ≡ Some policy)
      (stands : is_doomed after.world.hosts now ≡ false) where
    abbrev CarriedNow : ℕ → AttemptRecord → Type 0
    CarriedNow epoch attempt = IsCarriedFrom (targets_by after.world.log) after.world.log epoch (object_of attempt) policy

    -- as many targets as are needed are members of the newest epoch
    enough : (epoch : ℕ) → settled_of after.world.log ≤ epoch → now.epoch ≤ epoch → epoch ≤ epoch_of after.world.log
        → need_of policy (kind_of (object_of now)) ≤ common_now (object_of now) epoch newest policy
    enough epoch settled from within = has_targets.each j now got policy epoch is_good policy_so settled from within

    begun : now.epoch ≤ epoch_of after.world.log
    begun = shaped_after.shape.begun j now got

    work_policy : policy_of now.work ≡ policy
    work_policy = same_Some (policy_of now.work) policy (sym (shaped_after.shape.policy j now got) ∙ policy_so)

    -- ---- one that was there

    module _ (w : WasAttempt before j now) where
      was_good : good (object_of w.was) ≡ true
      was_good = ap (λ (a : AttemptRecord). good (object_of a)) w.same ∙ is_good

      was_policy : policy_in (log_effects before.world.log) (object_of w.was) ≡ Some policy
      was_policy =
          shaped.shape.policy j w.was w.at
          ∙ ap (λ (p : Policy). Some p) (ap (λ (a : AttemptRecord). policy_of a.work) w.same ∙ work_policy)

      was_stands : is_doomed before.world.hosts w.was ≡ false
      was_stands = by_test (is_doomed before.world.hosts w.was) refl
        where
          by_test : (b : Bool) → is_doomed before.world.hosts w.was ≡ b → b ≡ false
          by_test true doomed =
              let later = doomed_later script range start before after began change terms shaped tied j w.was now w.at got doomed in
              absurd (cc (later, stands))
          by_test false is = refl

      was_epoch : w.was.epoch ≡ now.epoch
      was_epoch = ap (λ (a : AttemptRecord). a.epoch) w.same

      was_begun : w.was.epoch ≤ epoch_of before.world.log
      was_begun = shaped.shape.begun j w.was w.at

      enough_was : (epoch : ℕ) → settled_of after.world.log ≤ epoch → now.epoch ≤ epoch → epoch ≤ epoch_of after.world.log
          → need_of policy (kind_of (object_of w.was)) ≤ common_now (object_of w.was) epoch newest policy
      enough_was epoch settled from within =
          subst (λ (a : AttemptRecord). need_of policy (kind_of (object_of a)) ≤ common_now (object_of a) epoch newest policy) (sym w.same)
          (enough epoch settled from within)

      old_own : settled_of after.world.log ≤ now.epoch → CarriedNow now.epoch now
      old_own settled =
          let grown = settled_grows in
          let same = was_epoch in
          subst (λ (a : AttemptRecord). CarriedNow a.epoch a) w.same
          (carried_on (object_of w.was) w.was.epoch policy was_begun
          (carried.own j w.was w.at policy was_good was_policy was_stands (omega (arith, grown, settled, same)))
          (enough_was w.was.epoch (omega (arith, settled, same)) (omega (arith, same)) (omega (arith, same, begun))))

      old_later : (epoch : ℕ) → settled_of after.world.log ≤ epoch → now.epoch < epoch → epoch ≤ epoch_of after.world.log
          → is_dying after.world.hosts after.world.log epoch ≡ false → CarriedNow epoch now
      old_later epoch settled above within lives = subst (CarriedNow epoch) w.same (⊎_elim
          (λ (old : epoch ≤ epoch_of before.world.log).
          let grown = settled_grows in
          let same = was_epoch in
          carried_on (object_of w.was) epoch policy old
          (carried.later j w.was w.at policy epoch was_good was_policy was_stands (omega (arith, grown, settled))
          (omega (arith, same, above)) old (was_living old)) least)
          (λ (is : epoch ≡ epoch_of after.world.log). carried_at_newest (object_of w.was) epoch policy is least)
          (old_or_newest epoch within))
        where
          least : need_of policy (kind_of (object_of w.was)) ≤ common_now (object_of w.was) epoch newest policy
          least = enough_was epoch settled (omega (arith, above)) within

          was_living : epoch ≤ epoch_of before.world.log → is_dying before.world.hosts before.world.log epoch ≡ false
          was_living old = by_test (is_dying before.world.hosts before.world.log epoch) refl
            where
              by_test : (b : Bool) → is_dying before.world.hosts before.world.log epoch ≡ b → b ≡ false
              by_test true dying =
                  let later = dying_later script range start before after began change terms terms_after epoch old dying in
                  absurd (cc (later, lives))
              by_test false is = refl

    -- ---- one that begins: its targets are up, in no later epoch, so they stay members

    module _ (o : IsOpened script start after now) where
      abbrev messages : List Message
      messages = (attempt_in o.asked o.lined.node).messages

      within : (target : NodeId) → has_node target now.targets ≡ true → is_beyond after.world.hosts now.epoch target ≡ false
      within target among =
          let targets_so : map (λ (message : Message). message.node) messages
          ≡ now.targets = ap (λ (a : AttemptRecord). a.targets) o.opened in
          let fates_so : map (λ (message : Message). Flying) messages ≡ now.fates = ap (λ (a : AttemptRecord). a.fates) o.opened in
          none_beyond after.world.hosts now.epoch messages
          ((λ i. is_one_in_vain after.world.hosts now.epoch (targets_so i) (fates_so i)) ∙ stands) target
          (ap (has_node target) targets_so ∙ among)

      targets_are : now.targets ≡ targets_by after.world.log now.epoch (object_of now) policy
      targets_are = shaped_after.shape.targets j now got ∙ ap (targets_by after.world.log now.epoch (object_of now)) work_policy

      -- a target is a member of the epoch
      member_then : (epoch : ℕ) (node : NodeId) → has_node node (targets_by after.world.log epoch (object_of now) policy) ≡ true
          → is_member node.0 (members_in after.world.log epoch) ≡ true
      member_then epoch node among = target-member after.world.log epoch (object_of now) policy node among

      new_own : settled_of after.world.log ≤ now.epoch → CarriedNow now.epoch now
      new_own settled =
          carried_whole (object_of now) now.epoch policy (enough now.epoch settled (omega arith) begun)
          (λ later node from most among.
          within_stays after terms_after now.epoch later node (member_then now.epoch node among)
          (within node (ap (has_node node) targets_are ∙ among)) from most)

      new_later : (epoch : ℕ) → settled_of after.world.log ≤ epoch → now.epoch < epoch → epoch ≤ epoch_of after.world.log
          → is_dying after.world.hosts after.world.log epoch ≡ false → CarriedNow epoch now
      new_later epoch settled above most_epoch lives = by_targets (some_node now.targets)
        where
          least : need_of policy (kind_of (object_of now)) ≤ common_now (object_of now) epoch newest policy
          least = enough epoch settled (omega (arith, above)) most_epoch

          -- none has recovered in the epoch, as a target of the attempt isn't beyond that
          unfinished : (target : NodeId) → has_node target now.targets ≡ true → (node : NodeId) → (b : Bool)
              → has_finished after.world.hosts after.world.log epoch node ≡ b → b ≡ false
          unfinished target among node true done =
              absurd (finished_leaves after terms_after node.0 epoch now.epoch target done above
              (member_then now.epoch target (ap (has_node target) (sym targets_are) ∙ among)) (within target among))
          unfinished target among node false none = refl

          by_targets : (now.targets ≡ []) ⊎ ((node : NodeId) × (has_node node now.targets ≡ true)) → CarriedNow epoch now
          by_targets (inr (target, among)) =
              carried_whole (object_of now) epoch policy least
              (λ later node from most placed.
              within_stays after terms_after epoch later node (member_then epoch node placed)
              (lives_within after.world.hosts after.world.log epoch node lives (member_then epoch node placed)
              (unfinished target among node (has_finished after.world.hosts after.world.log epoch node) refl)) from most)
          -- where it has none, none is wanted, and a read needs none
          by_targets (inl none) = λ later from most.
              let wanted = shaped_after.shape.wanted j now got in
              let no_more : wanted_of policy (kind_of (object_of now)) ≡ 0
              = ap (λ (p : Policy). wanted_of p (kind_of (object_of now))) (sym work_policy) ∙ sym wanted
              ∙ ap (λ (nodes : List NodeId). length nodes) none in
              none_needed (need_of policy (kind_of (object_of now))) (common_now (object_of now) epoch newest policy)
              (length (targets_by after.world.log epoch (object_of now) policy)) (wanted_of policy (kind_of (object_of now)))
              (common_now (object_of now) epoch later policy) least
              (filter_fewer (λ (node : NodeId). is_member node.0 (members_in after.world.log newest))
              (targets_by after.world.log epoch (object_of now) policy))
              (targets_few after.world.log epoch (object_of now) policy) no_more

  carried_own : (j : ℕ) (now : AttemptRecord) → slice_get after.past.attempts j ≡ Some now → (policy : Policy) → good (object_of now) ≡ true
      → policy_in (log_effects after.world.log) (object_of now) ≡ Some policy → is_doomed after.world.hosts now ≡ false
      → settled_of after.world.log ≤ now.epoch
      → IsCarriedFrom (targets_by after.world.log) after.world.log now.epoch (object_of now) policy
  carried_own j now got policy is_good policy_so stands settled = ⊎_elim
      (λ (w : WasAttempt before j now). old_own j now got policy is_good policy_so stands w settled)
      (λ (o : IsOpened script start after now). new_own j now got policy is_good policy_so stands o settled)
      (come_from script range start began change j now got)

  carried_later : (j : ℕ) (now : AttemptRecord) → slice_get after.past.attempts j ≡ Some now → (policy : Policy) (epoch : ℕ)
      → good (object_of now) ≡ true → policy_in (log_effects after.world.log) (object_of now) ≡ Some policy
      → is_doomed after.world.hosts now ≡ false → settled_of after.world.log ≤ epoch → now.epoch < epoch → epoch ≤ epoch_of after.world.log
      → is_dying after.world.hosts after.world.log epoch ≡ false
      → IsCarriedFrom (targets_by after.world.log) after.world.log epoch (object_of now) policy
  carried_later j now got policy epoch is_good policy_so stands settled above within lives = ⊎_elim
      (λ (w : WasAttempt before j now). old_later j now got policy is_good policy_so stands w epoch settled above within lives)
      (λ (o : IsOpened script start after now). new_later j now got policy is_good policy_so stands o epoch settled above within lives)
      (come_from script range start began change j now got)

  pub carried_after : AttemptsAreCarried (targets_by after.world.log) after.world.log (log_effects after.world.log) good after.world.hosts
      after.past.attempts
  carried_after = record { own = carried_own; later = carried_later }

module _ (script : List Statement) (range : RunsAreInRange script) (events : List Move) (start before after : MomentWithPast)
    (is : run_with_past script events ≡ Some start) (trail : MomentTrail script start before)
    (change : MomentChange script start before after) where
  pub carried-on_the_way : (good : ℕ → Bool)
      → NewestHasTargets (targets_by after.world.log) after.world.log (log_effects after.world.log) good after.past.attempts
      → AttemptsAreCarried (targets_by before.world.log) before.world.log (log_effects before.world.log) good before.world.hosts
      before.past.attempts
      → AttemptsAreCarried (targets_by after.world.log) after.world.log (log_effects after.world.log) good after.world.hosts
      after.past.attempts
  carried-on_the_way good has_targets carried =
      carried_after script range start before after (began-with_past script events start is) change
      (on_the_way script TermsHold (kept_terms script range) events start before is trail)
      (on_the_way script AreShaped (kept_shaped script range) events start before is trail)
      (on_the_way script IsTied (kept_tied script range) events start before is trail) good has_targets carried
