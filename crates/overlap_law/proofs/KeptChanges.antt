-- Each change of a moment on the way of an event keeps that a target which has recovered in an epoch has a row that covers it, of each
-- object made by then: rows stay, who is made late is served by all, and who recovers now has what isn't pending.
use Rattle.std.proofs.Common.{◌≡◌, ◌⊎◌, inl, inr, ⊎_elim, arith, ℕ, ◌+◌, ◌≤◌, ◌<◌, ◌==◌, ◌||◌, nat_eq, not, Bool, true, false, cond, List}
use Rattle.std.proofs.Common.{[], ◌∷◌, ◌++◌, length, map, Some, None, refl, sym, ap, subst, ◌∙◌}
use Rattle.std.specs.List.{find, list_any, list_all, position_or_len, prefix_len}
use Rattle.std.specs.Option.{option_map}
use Rattle.std.specs.FinMap as tree
use Rattle.std.proofs.lemmas.Bool.{and_parts, cases_lt, eq-eqb, lt-ltb, or_left, or_right, or_parts}
use Rattle.std.proofs.lemmas.Option.{same_Some}
use Rattle.object_id.specs.declared.node.NodeId.{NodeId}
use Rattle.object_id.specs.declared.entry.Entry.{Entry}
use Rattle.object_id.specs.declared.policy.Policy.{Policy}
use Rattle.object_id.specs.declared.oid.Kind.{Kind}
use Rattle.object_id.specs.Oid.{kind_of}
use Rattle.object_id.specs.Policy.{wanted_of}
use Rattle.epoch_log.specs.Epochs.{epoch_of, settled_of}
use Rattle.cluster_script.specs.declared.statement.Statement.{Statement}
use Rattle.gf256.specs.Part.{index_at, index_among}
use Rattle.object_list.specs.Gathered.{is_same_node, has_node}
use Rattle.object_store.specs.Rows.{is_open, is_open_at}
use Rattle.object_store.specs.Store.{SeenRow, rows_of}
use Rattle.vdi_directory.specs.Decisions.{log_effects}
use Rattle.peer_proto.specs.Work.{policy_of}
use Rattle.peer_service.specs.State.{Peer}
use Rattle.recovery.specs.Shown.{is_pending_object}
use Rattle.gateway.specs.declared.message.Message.{Message}
use Rattle.sheep_node.specs.Changes.{attempt_in}
use Rattle.sheep_node.proofs.StepResults.{step_reads}
use Rattle.sheep_world.specs.World.{Host}
use Rattle.sheep_world.specs.Began.{Began}
use Rattle.sheep_world.specs.RunsWithAsks.{Move}
use Rattle.overlap_law.specs.Attempts.{MessageFate, Flying, Served, Doomed, AttemptRecord, object_of}
use Rattle.overlap_law.specs.Words.{is_served, is_made, is_one_in_vain, is_doomed}
use Rattle.overlap_law.specs.Reached.{Hosts, is_beyond, has_finished}
use Rattle.overlap_law.specs.Holders.{targets_by, is_dead_by_log}
use Rattle.overlap_law.specs.Past.{MomentWithPast, run_with_past}
use Rattle.overlap_law.specs.Each.{row_covers, policy_in, index_of_part}
use Rattle.overlap_law.specs.Lists.{HasOpenRow, WhatIsNotPendingIsThere}
use Rattle.overlap_law.specs.Rows.{IsMadeBy, RecoveredRowsAreKept}
use Rattle.overlap_law.specs.MomentChanges.{MomentChange, MomentTrail, RunsAreInRange}
use Rattle.overlap_law.proofs.BaseLemmas.{made-served}
use Rattle.overlap_law.proofs.BeyondInMoments.{doomed_later, finished_leaves, recovers_own}
use Rattle.overlap_law.proofs.CarriedChanges.{targets_few}
use Rattle.overlap_law.proofs.CoveredLevels.{Covers, covers_by}
use Rattle.overlap_law.proofs.EpochsInRuns.{settled_less}
use Rattle.overlap_law.proofs.FateLemmas.{made-not_doomed}
use Rattle.overlap_law.proofs.FinishedInMoments.{TermsHold, kept_terms, finished_before}
use Rattle.overlap_law.proofs.HolderLemmas.{target-member}
use Rattle.overlap_law.proofs.LogsInMoments.{LogGrows, log_grows}
use Rattle.overlap_law.proofs.NewAttempts.{IsOpened, WasAttempt, come_from}
use Rattle.overlap_law.proofs.NoRecoveredDue.{began-with_past}
use Rattle.overlap_law.proofs.PeersInMoments.{PeerStep, PeerChange, PeerStays, PeerSteps, PeerIsNew, peers_change}
use Rattle.overlap_law.proofs.RecoveredInMoments.{node_of, EndsNow, have_all}
use Rattle.overlap_law.proofs.RowsInTurn.{AreInTurn, end_open, open_from}
use Rattle.overlap_law.proofs.RunsByChanges.{on_the_way}
use Rattle.overlap_law.proofs.ServedPlaces.{served_at}
use Rattle.overlap_law.proofs.ShapedAttempts.{targets_stay}
use Rattle.overlap_law.proofs.StayingRows.{IsKeptAt, RowsHold, kept_rows, step_keeps}

-- ---- lists

-- where one of some nodes is, there is a place of it, and an index under which it keeps its part
prefix_less : (p : NodeId → Bool) (nodes : List NodeId) → list_any p nodes ≡ true
    → prefix_len (λ (node : NodeId). not (p node)) nodes < length nodes
prefix_less p [] any = absurd (cc (any))
prefix_less p (node ∷ nodes) any = by_test (p node) any (λ later. prefix_less p nodes later)
  where
    by_test : (b : Bool) → (b || list_any p nodes) ≡ true
        → (list_any p nodes ≡ true → prefix_len (λ (n : NodeId). not (p n)) nodes < length nodes)
        → cond (not b) (1 + prefix_len (λ (n : NodeId). not (p n)) nodes) 0 < length (node ∷ nodes)
    by_test true any rest = omega arith
    by_test false any rest = let less = rest any in omega (arith, less)

pub index_there : (node : NodeId) (nodes : List NodeId) (policy : Policy) (kind : Kind) → has_node node nodes ≡ true
    → (index : ℕ) × (index_among node nodes policy kind ≡ Some index)
index_there node nodes policy kind there =
    let place : ℕ = position_or_len (λ (target : NodeId). target.0 == node.0) nodes in
    let less : position_or_len (λ (target : NodeId). target.0 == node.0) nodes < length nodes
    = prefix_less (λ (target : NodeId). target.0 == node.0) nodes there in (
      index_at policy kind place,
      ap (λ (b : Bool). option_map (index_at policy kind) (cond b (Some place) None))
          (lt-ltb (position_or_len (λ (target : NodeId). target.0 == node.0) nodes) (length nodes) less),
    )

some_there : (node : NodeId) (nodes : List NodeId) → has_node node nodes ≡ true → 1 ≤ length nodes
some_there node [] there = absurd (cc (there))
some_there node (first ∷ nodes) there = omega arith

-- an open row covers the epoch of its node
pub found_covers : (epoch index : ℕ) (rows : List SeenRow) (row : SeenRow) → AreInTurn epoch rows → find (is_open_at index) rows ≡ Some row
    → Covers epoch epoch rows
found_covers epoch index [] row turns found = absurd (cc (found))
found_covers epoch index (first ∷ rows) row turns found =
    by_test (is_open_at index first) refl found (λ later. found_covers epoch index rows row turns.2 later)
  where
    by_test : (b : Bool) → is_open_at index first ≡ b → cond b (Some first) (find (is_open_at index) rows) ≡ Some row
        → (find (is_open_at index) rows ≡ Some row → Covers epoch epoch rows) → Covers epoch epoch (first ∷ rows)
    by_test true is found others =
        let unshut = (and_parts (is_open first) (nat_eq first.index index) is).0 in
        let begins = open_from epoch first unshut turns.0.0 in
        let ends = end_open first.to unshut epoch in
        or_left (row_covers epoch epoch first) (list_any (row_covers epoch epoch) rows)
        (covers_by epoch epoch first begins (omega (arith, ends)))
    by_test false is found others =
        or_right (row_covers epoch epoch first) (list_any (row_covers epoch epoch) rows) (others found)

-- ---- attempts

-- what is neither made nor doomed has a target that isn't beyond the epoch
pub unmade_within : (hosts : Hosts) (epoch : ℕ) (targets : List NodeId) (fates : List MessageFate) → length fates ≡ length targets
    → is_one_in_vain hosts epoch targets fates ≡ false → list_all is_served fates ≡ false
    → (target : NodeId) × (has_node target targets ≡ true) × (is_beyond hosts epoch target ≡ false)
unmade_within hosts epoch [] [] long stands unmade = absurd (cc (unmade))
unmade_within hosts epoch [] (fate ∷ fates) long stands unmade = absurd (omega (arith, long))
unmade_within hosts epoch (target ∷ targets) [] long stands unmade = absurd (omega (arith, long))
unmade_within hosts epoch (target ∷ targets) (Flying ∷ fates) long stands unmade =
    let parts = or_parts (is_beyond hosts epoch target) (is_one_in_vain hosts epoch targets fates) stands in
    (target, or_left (is_same_node target target) (has_node target targets) (eq-eqb target.0 target.0 refl), parts.0)
unmade_within hosts epoch (target ∷ targets) (Served ∷ fates) long stands unmade =
    let (other, among, within) = unmade_within hosts epoch targets fates (cc (long)) stands unmade in
    (other, or_right (is_same_node other target) (has_node other targets) among, within)
unmade_within hosts epoch (target ∷ targets) (Doomed ∷ fates) long stands unmade = absurd (cc (stands))

-- messages that fly make nothing
pub none_fly : (messages : List Message) → list_all is_served (map (λ (message : Message). Flying) messages) ≡ true
    → map (λ (message : Message). message.node) messages ≡ []
none_fly [] made = refl
none_fly (message ∷ messages) made = absurd (cc (made))

-- ---- a change of a moment

module _ (script : List Statement) (range : RunsAreInRange script) (start before after : MomentWithPast) (began : Began script start.world)
    (change : MomentChange script start before after) (rows : RowsHold before) (terms : TermsHold before) (good : ℕ → Bool)
    (alive : (oid : ℕ) → good oid ≡ true → is_dead_by_log after.world.log oid ≡ false)
    (kept : RecoveredRowsAreKept (targets_by before.world.log) before.world.log (log_effects before.world.log) good before.world.hosts
    before.past.attempts) where
  rows_after : RowsHold after
  rows_after = (kept_rows script range).keeps start before after began change rows

  terms_after : TermsHold after
  terms_after = (kept_terms script range).keeps start before after began change terms

  grows : LogGrows before.world.log after.world.log
  grows = log_grows script change

  module _ (n : ℕ) (host : Host) (at : tree.get after.world.hosts n ≡ Some host) (oid epoch : ℕ) (policy : Policy)
      (is_good : good oid ≡ true)
      (policy_so : policy_in (log_effects after.world.log) oid ≡ Some policy) (settled : host.node.peer.settled ≤ epoch)
      (placed : has_node (node_of n) (targets_by after.world.log epoch oid policy) ≡ true)
      (made : IsMadeBy after.past.attempts oid epoch) where
    -- the node has a row that covers the epoch
    abbrev HasRow : Host → Type 0
    HasRow h = Covers epoch h.node.peer.epoch (rows_of h.node.peer.rows oid)

    by_kept : IsKeptAt host.node.peer oid epoch → HasRow host
    by_kept either = ⊎_elim
        (λ (covers : HasRow host). covers)
        (λ (below : epoch < host.node.peer.settled). absurd (omega (arith, below, settled)))
        either

    same_policy : policy_of made.attempt.work ≡ policy
    same_policy =
        same_Some (policy_of made.attempt.work) policy
        (sym (rows_after.shaped.shape.policy made.place made.attempt made.there)
        ∙ ap (policy_in (log_effects after.world.log)) made.object ∙ policy_so)

    -- ---- an attempt of the epoch itself: the node has served it

    now_served : made.attempt.epoch ≡ epoch → HasRow host
    now_served same =
        let targets_so : made.attempt.targets ≡ targets_by after.world.log epoch oid policy
        = rows_after.shaped.shape.targets made.place made.attempt made.there
        ∙ (λ i. targets_by after.world.log (same i) (made.object i) (same_policy i)) in
        let (place, target, among, served, own) = served_at (node_of n) made.attempt.targets made.attempt.fates
        (made-served (node_of n) made.attempt (rows_after.tied.fates.whole made.place made.attempt made.there) made.made
        (ap (has_node (node_of n)) targets_so ∙ placed)) in
        let it : IsKeptAt host.node.peer (object_of made.attempt) made.attempt.epoch
        = rows_after.served made.place made.attempt made.there place target among served host (ap (tree.get after.world.hosts) own ∙ at)
        (ap (is_dead_by_log after.world.log) made.object ∙ alive oid is_good) in
        by_kept (subst (λ (q : ℕ). IsKeptAt host.node.peer q epoch) made.object
        (subst (λ (e : ℕ). IsKeptAt host.node.peer (object_of made.attempt) e) same it))

    -- ---- who had recovered

    module _ (was_finished : has_finished before.world.hosts before.world.log epoch (node_of n) ≡ true) where
      begun : epoch ≤ epoch_of before.world.log
      begun = terms.came.begun n epoch was_finished

      same_targets : targets_by after.world.log epoch oid policy ≡ targets_by before.world.log epoch oid policy
      same_targets =
          ap (λ (log : List Entry). targets_by log epoch oid policy) grows.is
          ∙ targets_stay before.world.log grows.rest epoch oid policy terms.stood.some begun

      -- an attempt that opens isn't made: none is wanted then, and the node is no target
      not_opened : IsOpened script start after made.attempt → HasRow host
      not_opened o =
          let none : made.attempt.targets ≡ []
          = sym (ap (λ (a : AttemptRecord). a.targets) o.opened)
          ∙ none_fly (attempt_in o.asked o.lined.node).messages
          (ap (λ (a : AttemptRecord). list_all is_served a.fates) o.opened ∙ made.made) in
          let wanted : wanted_of policy (kind_of oid) ≡ 0
          = (λ i. wanted_of (sym same_policy i) (kind_of (sym made.object i)))
          ∙ sym (rows_after.shaped.shape.wanted made.place made.attempt made.there)
          ∙ ap (λ (nodes : List NodeId). length nodes) none in
          let few : length (targets_by after.world.log epoch oid policy) ≤ wanted_of policy (kind_of oid)
          = targets_few after.world.log epoch oid policy in
          let some : 1 ≤ length (targets_by after.world.log epoch oid policy)
          = some_there (node_of n) (targets_by after.world.log epoch oid policy) placed in
          absurd (omega (arith, few, some, wanted))

      module _ (w : WasAttempt before made.place made.attempt) where
        was_policy : policy_of w.was.work ≡ policy
        was_policy = ap (λ (a : AttemptRecord). policy_of a.work) w.same ∙ same_policy

        was_object : object_of w.was ≡ oid
        was_object = ap (λ (a : AttemptRecord). object_of a) w.same ∙ made.object

        was_epoch : w.was.epoch ≡ made.attempt.epoch
        was_epoch = ap (λ (a : AttemptRecord). a.epoch) w.same

        policy_was : policy_in (log_effects before.world.log) oid ≡ Some policy
        policy_was =
            ap (policy_in (log_effects before.world.log)) (sym was_object) ∙ rows.shaped.shape.policy made.place w.was w.at
            ∙ ap (λ (p : Policy). Some p) was_policy

        -- what was made stays where it was
        was_kept : is_made w.was ≡ true → (was : Host) → tree.get before.world.hosts n ≡ Some was → was.node.peer.settled ≤ epoch
            → HasRow was
        was_kept was_made was there below =
            kept.each n was there oid epoch policy is_good policy_was was_finished below
            (ap (has_node (node_of n)) (sym same_targets) ∙ placed) (record {
              place = made.place;
              attempt = w.was;
              there = w.at;
              object = was_object;
              made = was_made;
              before = (let same = was_epoch in let most = made.before in omega (arith, same, most));
            })

        settled_step : (was : Host) → tree.get before.world.hosts n ≡ Some was → PeerStep was host → was.node.peer.settled ≤ epoch
        settled_step was there step =
            let reads : host.node.peer.entries ≡ was.node.peer.entries ++ step.more
            = ap (λ (peer : Peer). peer.entries) (sym step.peer_so) ∙ step_reads step.input was.node ∙ step.reads in
            let was_so : was.node.peer.settled ≡ settled_of was.node.peer.entries = (rows.sound.each n was there).read.settled_so in
            let now_so : host.node.peer.settled ≡ settled_of (was.node.peer.entries ++ step.more)
            = (rows_after.sound.each n host at).read.settled_so ∙ ap settled_of reads in
            let less : settled_of was.node.peer.entries ≤ settled_of (was.node.peer.entries ++ step.more)
            = settled_less was.node.peer.entries step.more in
            omega (arith, was_so, now_so, less, settled)

        still : is_made w.was ≡ true → HasRow host
        still was_made = by_change (peers_change script range start began change n host at)
          where
            by_change : PeerChange before n host → HasRow host
            by_change (PeerStays was there same) =
                let settled_so : was.node.peer.settled ≡ host.node.peer.settled = ap (λ (peer : Peer). peer.settled) same in
                subst (λ (peer : Peer). Covers epoch peer.epoch (rows_of peer.rows oid)) same
                (was_kept was_made was there (omega (arith, settled_so, settled)))
            by_change (PeerSteps was there step) =
                by_kept (step_keeps script range start before after began change rows rows_after.sound n was host there at step oid epoch
                (terms.came.reached n epoch was was_finished there) (alive oid is_good)
                (inl (was_kept was_made was there (settled_step was there step))))
            by_change (PeerIsNew tries none is) =
                let seat = terms.came.there n epoch was_finished in absurd (cc (seat, none))

        -- what is made just now is of the epoch: else a target of it isn't beyond its epoch, but those of later epochs have come
        late : is_made w.was ≡ false → made.attempt.epoch ≡ epoch
        late unmade = by_order (cases_lt w.was.epoch epoch)
          where
            stands : (b : Bool) → is_doomed before.world.hosts w.was ≡ b → b ≡ false
            stands true doomed =
                let later = doomed_later script range start before after began change terms rows.shaped rows.tied made.place w.was
                made.attempt w.at
                made.there doomed in
                let stands_now = made-not_doomed after.world.hosts made.attempt made.made in
                absurd (cc (later, stands_now))
            stands false is = refl

            by_order : (w.was.epoch < epoch) ⊎ (epoch ≤ w.was.epoch) → made.attempt.epoch ≡ epoch
            by_order (inl below) =
                let (target, among, within) = unmade_within before.world.hosts w.was.epoch w.was.targets w.was.fates
                (rows.tied.fates.whole made.place w.was w.at) (stands (is_doomed before.world.hosts w.was) refl) unmade in
                absurd (finished_leaves before terms n epoch w.was.epoch target was_finished below
                (target-member before.world.log w.was.epoch (object_of w.was) (policy_of w.was.work) target
                (ap (has_node target) (sym (rows.shaped.shape.targets made.place w.was w.at)) ∙ among)) within)
            by_order (inr above) =
                let same = was_epoch in let most = made.before in omega (arith, above, same, most)

        was_there : HasRow host
        was_there = by_made (is_made w.was) refl
          where
            by_made : (b : Bool) → is_made w.was ≡ b → HasRow host
            by_made true was_made = still was_made
            by_made false unmade = now_served (late unmade)

      pub had_finished : HasRow host
      had_finished = ⊎_elim
          (λ (w : WasAttempt before made.place made.attempt). was_there w)
          (λ (o : IsOpened script start after made.attempt). not_opened o)
          (come_from script range start began change made.place made.attempt made.there)

    -- ---- who recovers now

    module _ (has : WhatIsNotPendingIsThere (targets_by after.world.log) (log_effects after.world.log) good after.world.hosts
        after.past.attempts)
        (finished : has_finished after.world.hosts after.world.log epoch (node_of n) ≡ true)
        (ends : EndsNow after.world.hosts n epoch) where
      abbrev own_host : Host
      own_host = ends.host

      own : own_host.node.recovery.epoch ≡ own_host.node.peer.epoch
      own =
          let of_epoch = ends.of_epoch in
          let later = ends.later in
          recovers_own after.world.log n own_host (terms_after.sound.each n own_host ends.there)
          (terms_after.stood.stood n own_host ends.there ends.up) (omega (arith, of_epoch, later))

      at_peer : own_host.node.peer.epoch ≡ epoch
      at_peer = sym own ∙ ends.of_epoch

      nothing : own_host.node.peer.pending ≡ Some []
      nothing =
          ((have_all after terms_after.sound terms_after.came).all n own_host ends.there ends.up
          (ap (λ (e : ℕ). has_finished after.world.hosts after.world.log e (node_of n)) at_peer ∙ finished) own).nothing

      has_open : (index : ℕ) → HasOpenRow own_host.node.peer.rows oid index → HasRow own_host
      has_open index open_row =
          subst (λ (e : ℕ). Covers e own_host.node.peer.epoch (rows_of own_host.node.peer.rows oid)) at_peer
          (found_covers own_host.node.peer.epoch index (rows_of own_host.node.peer.rows oid) open_row.row
          (rows_after.turns n own_host ends.there oid) open_row.found)

      ends_there : HasRow own_host
      ends_there =
          let (index, index_so) = index_there (node_of n) (targets_by after.world.log epoch oid policy) policy (kind_of oid) placed in
          let of_epoch = ends.of_epoch in
          let most = made.before in
          ⊎_elim
          (λ (pending : is_pending_object oid own_host.node.peer.pending ≡ true).
          let none : is_pending_object oid own_host.node.peer.pending ≡ false = ap (is_pending_object oid) nothing in
          absurd (cc (none, pending)))
          (λ (open_row : HasOpenRow own_host.node.peer.rows oid index). has_open index open_row)
          (has.each n own_host ends.there ends.up oid index policy ends.listed is_good policy_so
          (ap (λ (e : ℕ). index_of_part (targets_by after.world.log) e oid policy (node_of n)) ends.of_epoch ∙ index_so)
          (record {
            place = made.place;
            attempt = made.attempt;
            there = made.there;
            object = made.object;
            made = made.made;
            before = omega (arith, most, of_epoch);
          }))

      ended : HasRow host
      ended = subst HasRow (same_Some own_host host (sym ends.there ∙ at)) ends_there

    kept_there : WhatIsNotPendingIsThere (targets_by after.world.log) (log_effects after.world.log) good after.world.hosts
        after.past.attempts
        → has_finished after.world.hosts after.world.log epoch (node_of n) ≡ true → HasRow host
    kept_there has finished = ⊎_elim
        (λ (old : has_finished before.world.hosts before.world.log epoch (node_of n) ≡ true). had_finished old)
        (λ (ends : EndsNow after.world.hosts n epoch). ended has finished ends)
        (finished_before script range start began change n epoch finished)

  pub kept_after : WhatIsNotPendingIsThere (targets_by after.world.log) (log_effects after.world.log) good after.world.hosts
      after.past.attempts
      → RecoveredRowsAreKept (targets_by after.world.log) after.world.log (log_effects after.world.log) good after.world.hosts
      after.past.attempts
  kept_after has = record {
    each = λ n host at oid epoch policy is_good policy_so finished settled placed made.
        kept_there n host at oid epoch policy is_good policy_so settled placed made has finished;
  }

module _ (script : List Statement) (range : RunsAreInRange script) (events : List Move) (start before after : MomentWithPast)
    (is : run_with_past script events ≡ Some start) (trail : MomentTrail script start before)
    (change : MomentChange script start before after) where
  pub kept-on_the_way : (good : ℕ → Bool)
      → ((oid : ℕ) → good oid ≡ true → is_dead_by_log after.world.log oid ≡ false)
      → WhatIsNotPendingIsThere (targets_by after.world.log) (log_effects after.world.log) good after.world.hosts after.past.attempts
      → RecoveredRowsAreKept (targets_by before.world.log) before.world.log (log_effects before.world.log) good before.world.hosts
      before.past.attempts
      → RecoveredRowsAreKept (targets_by after.world.log) after.world.log (log_effects after.world.log) good after.world.hosts
      after.past.attempts
  kept-on_the_way good alive has kept =
      kept_after script range start before after (began-with_past script events start is) change
      (on_the_way script RowsHold (kept_rows script range) events start before is trail)
      (on_the_way script TermsHold (kept_terms script range) events start before is trail) good alive kept has
