-- Each change of a moment leaves a level that a search has passed without as many rows as a read needs: who is a member of the recovery's
-- epoch came to it, and makes no row of an earlier level any more.
use Rattle.std.proofs.Common.{◌≡◌, ◌⊎◌, inl, inr, ⊎_elim, arith, ℕ, zero, suc, ◌+◌, ◌≤◌, ◌<◌, ◌==◌, nat_le, Bool, true, false, cond, List}
use Rattle.std.proofs.Common.{[], ◌∷◌, ◌++◌, fold, length, filter, filter_map, Option, Some, None, is_some, refl, ap, ◌∙◌, slice_get}
use Rattle.std.specs.List.{find, list_any, cons_option}
use Rattle.std.specs.Option.{option_map, option_map_or}
use Rattle.std.specs.FinMap as tree
use Rattle.std.proofs.lemmas.Bool.{cases_lt, leb-true, or_parts}
use Rattle.std.proofs.lemmas.List.{length-append}
use Rattle.object_id.specs.declared.node.NodeId.{NodeId}
use Rattle.object_id.specs.declared.entry.Entry.{Entry}
use Rattle.object_id.specs.declared.policy.Policy.{Policy}
use Rattle.object_id.specs.Oid.{kind_of}
use Rattle.object_id.specs.Policy.{need_of}
use Rattle.epoch_log.specs.Members.{is_member}
use Rattle.epoch_log.specs.Epochs.{epoch_of, members_in}
use Rattle.epoch_log.specs.Appending.{IsLog}
use Rattle.cluster_script.specs.declared.statement.Statement.{Statement}
use Rattle.gf256.specs.Part.{is_in_strips, index_at}
use Rattle.object_store.specs.Store.{SeenRow, rows_of}
use Rattle.vdi_directory.specs.declared.effect.Effect.{Effect}
use Rattle.vdi_directory.specs.Decisions.{log_effects}
use Rattle.recovery.specs.State.{Search, is_listed, still_on, search_on}
use Rattle.sheep_node.specs.RecoveryView.{recovery_state_of}
use Rattle.sheep_world.specs.World.{Host}
use Rattle.sheep_world.specs.Began.{Began}
use Rattle.sheep_world.specs.RunsWithAsks.{Move}
use Rattle.overlap_law.specs.Holders.{targets_by}
use Rattle.overlap_law.specs.Past.{MomentWithPast, run_with_past}
use Rattle.overlap_law.specs.Each.{row_covers, holds_level, has_reached, policy_in}
use Rattle.overlap_law.specs.Rows.{RowsAreAtTargets}
use Rattle.overlap_law.specs.Searches.{index_held, with_number, indexes_held, PassedLevelsLackRows}
use Rattle.overlap_law.specs.MomentChanges.{MomentChange, MomentTrail, RunsAreInRange}
use Rattle.overlap_law.proofs.BeyondInMoments.{recovers_own}
use Rattle.overlap_law.proofs.EarlierLevels.{had_row}
use Rattle.overlap_law.proofs.IndexesHeld.{AllBelow, held, new_number, one_more_below, longer_fold, need_of_copy, place_of}
use Rattle.overlap_law.proofs.IndexesHeld.{targets_apart_in, index_of_target, any_found}
use Rattle.overlap_law.proofs.FinishedInMoments.{TermsHold, kept_terms}
use Rattle.overlap_law.proofs.FirstSearchesInRuns.{listing-on_the_way, search_first-on_the_way}
use Rattle.overlap_law.proofs.HeldLevels.{members_came}
use Rattle.overlap_law.proofs.LogsInMoments.{LogGrows, log_grows, same_members}
use Rattle.overlap_law.proofs.NoRecoveredDue.{began-with_past}
use Rattle.overlap_law.proofs.PlacedInMoments.{placed-on_the_way}
use Rattle.overlap_law.proofs.ReadInMoments.{are_present, epoch_within}
use Rattle.overlap_law.proofs.RunsByChanges.{on_the_way}
use Rattle.overlap_law.proofs.ShapedAttempts.{targets_stay}
use Rattle.overlap_law.proofs.UnpassedLevels.{kept_log}

-- ---- numbers

-- each number is at most one more
no_more_with : (numbers : List ℕ) (number : ℕ) → length (with_number numbers number) ≤ length numbers + 1
no_more_with numbers number = by_test (list_any (λ other. other == number) numbers)
  where
    by_test : (b : Bool) → length (cond b numbers (numbers ++ number ∷ [])) ≤ length numbers + 1
    by_test true = omega arith
    by_test false = let sum = length-append numbers (number ∷ []) in omega (arith, sum)

pub no_more_fold : (numbers more : List ℕ) → length (fold with_number numbers more) ≤ length numbers + length more
no_more_fold numbers [] = omega arith
no_more_fold numbers (number ∷ more) =
    let one = no_more_with numbers number in
    let rest = no_more_fold (with_number numbers number) more in
    omega (arith, one, rest)

-- and some numbers are some
some_fold : (more : List ℕ) → 1 ≤ length more → 1 ≤ length (fold with_number [] more)
some_fold [] some = absurd (omega (arith, some))
some_fold (number ∷ more) some = longer_fold (number ∷ []) more

-- ---- the indexes of some nodes

module _ (member : NodeId → Bool) where
  -- where fewer nodes have one, there are fewer
  fewer_indexes : (f g : NodeId → Option ℕ) (nodes : List NodeId)
      → ((i : ℕ) (node : NodeId) → slice_get nodes i ≡ Some node → member node ≡ true → is_some (f node) ≡ true → is_some (g node) ≡ true)
      → length (filter_map f (filter member nodes)) ≤ length (filter_map g (filter member nodes))
  fewer_indexes f g [] more = omega arith
  fewer_indexes f g (node ∷ nodes) more =
      by_member (member node) refl (fewer_indexes f g nodes (λ i other at is some. more (suc i) other at is some))
    where
      by_options : (o p : Option ℕ) (xs ys : List ℕ) → (is_some o ≡ true → is_some p ≡ true) → length xs ≤ length ys
          → length (cons_option o xs) ≤ length (cons_option p ys)
      by_options None None xs ys some less = less
      by_options None (Some k) xs ys some less = omega (arith, less)
      by_options (Some i) None xs ys some less = let is = some refl in absurd (cc (is))
      by_options (Some i) (Some k) xs ys some less = omega (arith, less)

      by_member : (b : Bool) → member node ≡ b → length (filter_map f (filter member nodes)) ≤ length (filter_map g (filter member nodes))
          → length (filter_map f (cond b (node ∷ filter member nodes) (filter member nodes)))
          ≤ length (filter_map g (cond b (node ∷ filter member nodes) (filter member nodes)))
      by_member true is less =
          by_options (f node) (g node) (filter_map f (filter member nodes)) (filter_map g (filter member nodes))
          (λ some. more zero node refl is some) less
      by_member false is less = less

  -- where each that has one has that of its place, they are all different
  count_indexes : (f : NodeId → Option ℕ) (numbers : List ℕ) (first : ℕ) (nodes : List NodeId) → AllBelow first numbers
      → ((i : ℕ) (node : NodeId) → slice_get nodes i ≡ Some node → member node ≡ true → (f node ≡ None) ⊎ (f node ≡ Some (first + i)))
      → length numbers + length (filter_map f (filter member nodes)) ≤ length (held f member numbers nodes)
  count_indexes f numbers first [] below placed = omega arith
  count_indexes f numbers first (node ∷ nodes) below placed =
      by_member (member node) refl (λ more below_more. count_indexes f more (first + 1) nodes below_more later)
    where
      later : (i : ℕ) (other : NodeId) → slice_get nodes i ≡ Some other → member other ≡ true
          → (f other ≡ None) ⊎ (f other ≡ Some (first + 1 + i))
      later i other at is = ⊎_elim
          (λ (none : f other ≡ None). inl none)
          (λ (own : f other ≡ Some (first + suc i)).
          let sum : first + suc i ≡ first + 1 + i = omega arith in inr (own ∙ ap (λ (k : ℕ). Some k) sum))
          (placed (suc i) other at is)

      below_next : AllBelow (first + 1) numbers
      below_next k among = let less = below k among in omega (arith, less)

      by_member : (b : Bool) → member node ≡ b
          → ((more : List ℕ) → AllBelow (first + 1) more
          → length more + length (filter_map f (filter member nodes)) ≤ length (held f member more nodes))
          → length numbers + length (filter_map f (cond b (node ∷ filter member nodes) (filter member nodes)))
          ≤ length (fold with_number numbers (filter_map f (cond b (node ∷ filter member nodes) (filter member nodes))))
      by_member true is counts = ⊎_elim
          (λ (none : f node ≡ None).
          let rest = counts numbers below_next in
          let one : length (cons_option (f node) (filter_map f (filter member nodes))) ≡ length (filter_map f (filter member nodes))
          = ap (λ (o : Option ℕ). length (cons_option o (filter_map f (filter member nodes)))) none in
          let same : length (fold with_number numbers (cons_option (f node) (filter_map f (filter member nodes))))
          ≡ length (held f member numbers nodes)
          = ap (λ (o : Option ℕ). length (fold with_number numbers (cons_option o (filter_map f (filter member nodes))))) none in
          omega (arith, rest, one, same))
          (λ (own_at : f node ≡ Some (first + 0)).
          let zero_more : first + 0 ≡ first = omega arith in
          let own : f node ≡ Some first = own_at ∙ ap (λ (k : ℕ). Some k) zero_more in
          let rest = counts (numbers ++ first ∷ []) (one_more_below numbers first below) in
          let sum : length (numbers ++ first ∷ []) ≡ length numbers + 1 = length-append numbers (first ∷ []) in
          let one : length (cons_option (f node) (filter_map f (filter member nodes))) ≡ suc (length (filter_map f (filter member nodes)))
          = ap (λ (o : Option ℕ). length (cons_option o (filter_map f (filter member nodes)))) own in
          let same : length (fold with_number numbers (cons_option (f node) (filter_map f (filter member nodes))))
          ≡ length (held f member (numbers ++ first ∷ []) nodes)
          = ap (λ (o : Option ℕ). length (fold with_number numbers (cons_option o (filter_map f (filter member nodes))))) own
          ∙ ap (λ (ks : List ℕ). length (fold with_number ks (filter_map f (filter member nodes)))) (new_number numbers first below) in
          omega (arith, rest, sum, one, same))
          (placed zero node refl is)
      by_member false is counts = counts numbers below_next

-- ---- who holds a level

none_found : (p : SeenRow → Bool) (rows : List SeenRow) → list_any p rows ≡ false → find p rows ≡ None
none_found p [] none = refl
none_found p (row ∷ rows) none =
    let parts = or_parts (p row) (list_any p rows) none in
    ap (λ (b : Bool). cond b (Some row) (find p rows)) parts.0 ∙ none_found p rows parts.1

-- who has no row of the level has no index there
none_held : (o : Option Host) (oid level : ℕ) → holds_level o oid level ≡ false → index_held o oid level ≡ None
none_held None oid level none = refl
none_held (Some host) oid level none =
    ap (option_map (λ (row : SeenRow). row.index))
    (none_found (row_covers host.node.peer.epoch level) (rows_of host.node.peer.rows oid) none)

-- and who has one has a row
holds_index : (o : Option Host) (oid level : ℕ) → is_some (index_held o oid level) ≡ true → holds_level o oid level ≡ true
holds_index o oid level some = by_test (holds_level o oid level) refl
  where
    by_test : (b : Bool) → holds_level o oid level ≡ b → b ≡ true
    by_test true is = refl
    by_test false none =
        let no : is_some (index_held o oid level) ≡ false = ap (λ (k : Option ℕ). is_some k) (none_held o oid level none) in absurd
        (cc (no, some))

some_held : (o : Option Host) (oid level : ℕ) → holds_level o oid level ≡ true → is_some (index_held o oid level) ≡ true
some_held None oid level holds = absurd (cc (holds))
some_held (Some host) oid level holds =
    let (i, row, at, found, covers) = any_found (row_covers host.node.peer.epoch level) (rows_of host.node.peer.rows oid) holds in
    ap (λ (o : Option SeenRow). is_some (option_map (λ (r : SeenRow). r.index) o)) found

-- ---- over a change of a moment

module _ (script : List Statement) (range : RunsAreInRange script) (start before after : MomentWithPast) (began : Began script start.world)
    (change : MomentChange script start before after) (grows : LogGrows before.world.log after.world.log)
    (some : 1 ≤ length before.world.log)
    (is_log : IsLog before.world.log) (effects : List Effect) (placed : RowsAreAtTargets (targets_by before.world.log) effects
    before.world.hosts) (oid level epoch : ℕ) (policy : Policy) (policy_so : policy_in effects oid ≡ Some policy) (below : level < epoch)
    (begun : epoch ≤ epoch_of before.world.log)
    (came : (node : NodeId) → is_member node.0 (members_in before.world.log epoch) ≡ true → has_reached before.world.hosts epoch node
    ≡ true) where
  abbrev in_epoch : NodeId → Bool
  in_epoch node = is_member node.0 (members_in before.world.log epoch)

  abbrev targets : List NodeId
  targets = targets_by before.world.log level oid policy

  abbrev index_was : NodeId → Option ℕ
  index_was node = index_held (tree.get before.world.hosts node.0) oid level

  abbrev index_now : NodeId → Option ℕ
  index_now node = index_held (tree.get after.world.hosts node.0) oid level

  level_begun : level ≤ epoch_of before.world.log
  level_begun = omega (arith, below, begun)

  -- a member has a row of the level only if it had one
  had_index : (node : NodeId) → in_epoch node ≡ true → is_some (index_now node) ≡ true → is_some (index_was node) ≡ true
  had_index node member some_now =
      some_held (tree.get before.world.hosts node.0) oid level
      (by_hosts (tree.get before.world.hosts node.0) (tree.get after.world.hosts node.0) refl refl (came node member)
      (holds_index (tree.get after.world.hosts node.0) oid level some_now))
    where
      by_hosts : (o p : Option Host) → tree.get before.world.hosts node.0 ≡ o → tree.get after.world.hosts node.0 ≡ p
          → nat_le epoch (option_map_or (λ (host : Host). host.node.peer.epoch) o 0) ≡ true → holds_level p oid level ≡ true
          → holds_level o oid level ≡ true
      by_hosts None p is_o is_p reached holds = let low : epoch ≤ 0 = leb-true epoch 0 reached in absurd (omega (arith, low, below))
      by_hosts (Some was) None is_o is_p reached holds = absurd (cc (holds))
      by_hosts (Some was) (Some now) is_o is_p reached holds =
          let low = leb-true epoch was.node.peer.epoch reached in
          had_row script range start before after began change node.0 was now is_o is_p oid level (omega (arith, low, below)) holds

  same_targets : targets_by after.world.log level oid policy ≡ targets_by before.world.log level oid policy
  same_targets =
      ap (λ (log : List Entry). targets_by log level oid policy) grows.is
      ∙ targets_stay before.world.log grows.rest level oid policy some level_begun

  fewer_now : length (filter_map index_now (filter in_epoch targets)) ≤ length (filter_map index_was (filter in_epoch targets))
  fewer_now = fewer_indexes in_epoch index_now index_was targets (λ i node at member some_now. had_index node member some_now)

  -- of strips each index is that of the target's place
  at_place : is_in_strips policy (kind_of oid) ≡ true → (i : ℕ) (node : NodeId) → slice_get targets i ≡ Some node → in_epoch node ≡ true
      → (index_was node ≡ None) ⊎ (index_was node ≡ Some (0 + i))
  at_place strips i node at member = by_test (holds_level (tree.get before.world.hosts node.0) oid level) refl
    where
      by_test : (b : Bool) → holds_level (tree.get before.world.hosts node.0) oid level ≡ b
          → (index_was node ≡ None) ⊎ (index_was node ≡ Some (0 + i))
      by_test true holds =
          let no_more : i ≡ 0 + i = omega arith in
          inr (index_of_target before.world.log effects before.world.hosts placed oid level policy policy_so node holds
          ∙ ap (option_map (index_at policy (kind_of oid))) (place_of targets i node
          (targets_apart_in before.world.log level oid policy is_log level_begun) at)
          ∙ ap (λ (b : Bool). Some (cond b i 0)) strips ∙ ap (λ (k : ℕ). Some k) no_more)
      by_test false none = inl (none_held (tree.get before.world.hosts node.0) oid level none)

  pub stays_passed : length (indexes_held (targets_by before.world.log) before.world.log before.world.hosts oid level epoch policy)
      < need_of policy (kind_of oid)
      → length (indexes_held (targets_by after.world.log) after.world.log after.world.hosts oid level epoch policy) < need_of policy
      (kind_of oid)
  stays_passed few =
      let same : length (indexes_held (targets_by after.world.log) after.world.log after.world.hosts oid level epoch policy)
      ≡ length (held index_now in_epoch [] targets)
      = λ i. length (fold with_number [] (filter_map index_now
      (filter (λ (node : NodeId). is_member node.0 (same_members before.world.log after.world.log grows some epoch begun i))
      (same_targets i)))) in
      let most = no_more_fold [] (filter_map index_now (filter in_epoch targets)) in
      let fewer = fewer_now in
      by_strips (is_in_strips policy (kind_of oid)) refl same most fewer
    where
      by_strips : (b : Bool) → is_in_strips policy (kind_of oid) ≡ b
          → length (indexes_held (targets_by after.world.log) after.world.log after.world.hosts oid level epoch policy)
          ≡ length (held index_now in_epoch [] targets)
          → length (held index_now in_epoch [] targets) ≤ 0 + length (filter_map index_now (filter in_epoch targets))
          → length (filter_map index_now (filter in_epoch targets)) ≤ length (filter_map index_was (filter in_epoch targets))
          → length (indexes_held (targets_by after.world.log) after.world.log after.world.hosts oid level epoch policy)
          < need_of policy (kind_of oid)
      by_strips true strips same most fewer =
          let counted : 0 + length (filter_map index_was (filter in_epoch targets)) ≤ length (held index_was in_epoch [] targets)
          = count_indexes in_epoch index_was [] 0 targets (λ k among. absurd (cc (among))) (at_place strips) in
          omega (arith, same, most, fewer, counted, few)
      by_strips false copies same most fewer =
          let one = need_of_copy policy (kind_of oid) copies in
          let nothing : length (filter_map index_was (filter in_epoch targets)) ≤ 0 = ⊎_elim
          (λ (some_was : 0 < length (filter_map index_was (filter in_epoch targets))).
          let many = some_fold (filter_map index_was (filter in_epoch targets)) (omega (arith, some_was)) in
          absurd (omega (arith, many, one, few)))
          (λ (none : length (filter_map index_was (filter in_epoch targets)) ≤ 0). none)
          (cases_lt 0 (length (filter_map index_was (filter in_epoch targets)))) in
          omega (arith, same, most, fewer, nothing, one)

-- ---- what the invariant says was passed

module _ (script : List Statement) (range : RunsAreInRange script) (events : List Move) (start before after : MomentWithPast)
    (is : run_with_past script events ≡ Some start) (trail : MomentTrail script start before)
    (change : MomentChange script start before after)
    (good : ℕ → Bool)
    (lack : PassedLevelsLackRows (targets_by before.world.log) before.world.log (log_effects before.world.log) good
    before.world.hosts) where
  terms : TermsHold before
  terms = on_the_way script TermsHold (kept_terms script range) events start before is trail

  module _ (n : ℕ) (was : Host) (search : Search) (at : tree.get before.world.hosts n ≡ Some was) (up : was.is_lost ≡ false)
      (on : search_on (recovery_state_of was.node) ≡ Some search) where
    listed : (b : Bool) → is_listed was.node.recovery ≡ b → b ≡ true
    listed true so = refl
    listed false unlisted =
        let none : search_on (recovery_state_of was.node) ≡ None
        = ap (still_on was.node.peer.pending) ((listing-on_the_way script range events start before is trail).search n was at up
        unlisted) in
        absurd (cc (none, on))

    pub still_passed : (policy : Policy) (level : ℕ) → good search.oid ≡ true
        → policy_in (log_effects before.world.log) search.oid ≡ Some policy
        → search.level < level → level < was.node.recovery.epoch
        → length (indexes_held (targets_by after.world.log) after.world.log after.world.hosts search.oid level was.node.recovery.epoch
        policy)
        < need_of policy (kind_of search.oid)
    still_passed policy level good_so policy_so passed below =
        let later : 1 < was.node.recovery.epoch = (let above = (search_first-on_the_way script range events start before is trail).above n
        was at up search on in omega (arith, above, passed, below)) in
        let own : was.node.recovery.epoch ≡ was.node.peer.epoch
        = recovers_own before.world.log n was (terms.sound.each n was at) (terms.stood.stood n was at up) later in
        let most = epoch_within before.world.log n was.node.me was.node.peer (terms.sound.each n was at).read in
        stays_passed script range start before after (began-with_past script events start is) change (log_grows script change)
        terms.stood.some (on_the_way script (λ (m : MomentWithPast). IsLog m.world.log) (kept_log script range) events start before is
        trail) (log_effects before.world.log) (placed-on_the_way script range events start before is trail) search.oid level
        was.node.recovery.epoch policy policy_so below (omega (arith, own, most))
        (members_came before.world.log before.world.hosts (are_present before terms.sound) terms.answers.answered n was at
        (listed (is_listed was.node.recovery) refl) later)
        (lack.each n was at up search policy level on good_so policy_so passed below)
