-- What a node with a finished list hasn't pending it has, after a change of a moment: what is made of the recovered epoch itself the node
-- has served; and what was made before was pending, or there, and stays so, or is missing.
use Rattle.std.proofs.Common.{◌≡◌, ◌⊎◌, inl, inr, ⊎_elim, arith, ℕ, ◌≤◌, ◌<◌, Bool, true, false, List, [], ◌∷◌, ◌++◌, Some, refl, sym, ap}
use Rattle.std.proofs.Common.{subst, ◌∙◌, slice_get}
use Rattle.std.specs.FinMap as tree
use Rattle.std.proofs.lemmas.Bool.{cases_lt}
use Rattle.std.proofs.lemmas.Option.{same_Some}
use Rattle.object_id.specs.declared.entry.Entry.{Entry}
use Rattle.object_id.specs.declared.node.NodeId.{NodeId}
use Rattle.object_id.specs.declared.policy.Policy.{Policy}
use Rattle.object_id.specs.Oid.{kind_of, vid_of}
use Rattle.epoch_log.specs.Members.{is_member}
use Rattle.epoch_log.specs.Epochs.{begins_epoch, epoch_of, members_in}
use Rattle.epoch_log.proofs.EpochLemmas.{settled_of-begun}
use Rattle.object_list.specs.Gathered.{has_node}
use Rattle.object_store.specs.Rows.{is_open}
use Rattle.object_store.specs.Store.{SeenRow, rows_of}
use Rattle.cluster_script.specs.declared.statement.Statement.{Statement}
use Rattle.vdi_directory.specs.Decisions.{log_effects}
use Rattle.vdi_directory.specs.Dead.{is_dead}
use Rattle.gf256.specs.Part.{index_among}
use Rattle.peer_proto.specs.Work.{policy_of}
use Rattle.peer_service.specs.State.{Peer, is_dead_object, with_entry}
use Rattle.recovery.specs.Shown.{is_pending_object}
use Rattle.recovery.specs.State.{Recovery, is_listed}
use Rattle.sheep_node.specs.declared.input.Input.{Input}
use Rattle.sheep_node.specs.declared.input.Input.TheVariants as inputs
use Rattle.sheep_node.specs.State.{Node}
use Rattle.sheep_node.specs.StepState.{at_first}
use Rattle.sheep_node.specs.Changes.{input_received}
use Rattle.sheep_node.proofs.LogLaws.{epoch_more}
use Rattle.sheep_node.proofs.PeerLog.{entries_reading}
use Rattle.sheep_node.proofs.StepResults.{step_peer, step_reads}
use Rattle.sheep_world.specs.Began.{Began}
use Rattle.sheep_world.specs.EventKinds.{log_after_return}
use Rattle.sheep_world.specs.MembershipChanges.{join_of, last_weight}
use Rattle.sheep_world.specs.NodeCauses.{NodeCause, GuestAsks, RequestComes, ReplyComes, LossIsTold, EntryIsRead, EntryIsPut, RecoveryTicks}
use Rattle.sheep_world.specs.NodeCauses.{WorkIsRetried, ClientAsks, IsCause, input_of_cause}
use Rattle.sheep_world.specs.World.{Host}
use Rattle.sheep_world.specs.RunsWithAsks.{Move}
use Rattle.overlap_law.specs.Attempts.{AttemptRecord, object_of}
use Rattle.overlap_law.specs.Each.{row_covers, policy_in, index_of_part}
use Rattle.overlap_law.specs.Holders.{targets_by, is_dead_by_log}
use Rattle.overlap_law.specs.Lists.{HasOpenRow, WhatIsNotPendingIsThere}
use Rattle.overlap_law.specs.MomentChanges as moments
use Rattle.overlap_law.specs.MomentChanges.{MomentChange, MomentTrail, RunsAreInRange}
use Rattle.overlap_law.specs.Past.{MomentWithPast, run_with_past}
use Rattle.overlap_law.specs.Rows.{IsMadeBy}
use Rattle.overlap_law.specs.Searches.{TheMadeIsNotMissing}
use Rattle.overlap_law.proofs.AnswersInMoments.{not_lost}
use Rattle.overlap_law.proofs.BaseLemmas.{made-served}
use Rattle.overlap_law.proofs.BeyondInMoments.{recovers_member, recovers_own}
use Rattle.overlap_law.proofs.CoveredLevels.{Covers}
use Rattle.overlap_law.proofs.FinishedInMoments.{TermsHold, kept_terms}
use Rattle.overlap_law.proofs.HolderLemmas.{target-member}
use Rattle.overlap_law.proofs.HostsInMoments.{none_there}
use Rattle.overlap_law.proofs.IndexesHeld.{any_found}
use Rattle.overlap_law.proofs.LackedInRuns.{index-has_node}
use Rattle.overlap_law.proofs.LogsInMoments.{LogGrows, log_grows}
use Rattle.overlap_law.proofs.MadeBefore.{was_there, made_was}
use Rattle.overlap_law.proofs.NewAttempts.{WasAttempt}
use Rattle.overlap_law.proofs.NoRecoveredDue.{began-with_past}
use Rattle.overlap_law.proofs.NodePartsInMoments.{HasPartsOf, PartsChange, PartsStay, PartsStep, PartsReturn, PartsAreNew, parts_change}
use Rattle.overlap_law.proofs.PlacedInMoments.{placed-on_the_way}
use Rattle.overlap_law.proofs.ReadInMoments.{epoch_within}
use Rattle.overlap_law.proofs.RowsInTurn.{AreInTurn}
use Rattle.overlap_law.proofs.RunsByChanges.{on_the_way}
use Rattle.overlap_law.proofs.ServedPlaces.{served_at}
use Rattle.overlap_law.proofs.ShapedAttempts.{targets_stay}
use Rattle.overlap_law.proofs.StayingRows.{IsKeptAt, RowsHold, kept_rows, dead_later}
use Rattle.overlap_law.proofs.ThereOrMissing.{HasOpen, IsSomewhere, IsSomewhereAt, received_there}
use Rattle.overlap_law.proofs.OpenRows.{turn_at, covers_open, open_covers, row_found, found_open}

-- the entry of an input is one that is read
reads_entry : (cause : NodeCause) (entry : Entry) → input_of_cause cause ≡ inputs.LogEntry entry
    → (other : Entry) × (cause ≡ EntryIsRead other)
reads_entry (GuestAsks session req ask) entry is = absurd (cc (is))
reads_entry (RequestComes name to request) entry is = absurd (cc (is))
reads_entry (ReplyComes name from rsp) entry is = absurd (cc (is))
reads_entry (LossIsTold name packet) entry is = absurd (cc (is))
reads_entry (EntryIsRead other) entry is = (other, refl)
reads_entry (EntryIsPut other) entry is = absurd (cc (is))
reads_entry RecoveryTicks entry is = absurd (cc (is))
reads_entry WorkIsRetried entry is = absurd (cc (is))
reads_entry (ClientAsks req ask) entry is = absurd (cc (is))

comes_not_back : (cause : NodeCause) (entries : List Entry) → input_of_cause cause ≡ inputs.Back entries → ⊥
comes_not_back (GuestAsks session req ask) entries is = cc (is)
comes_not_back (RequestComes name to request) entries is = cc (is)
comes_not_back (ReplyComes name from rsp) entries is = cc (is)
comes_not_back (LossIsTold name packet) entries is = cc (is)
comes_not_back (EntryIsRead other) entries is = cc (is)
comes_not_back (EntryIsPut other) entries is = cc (is)
comes_not_back RecoveryTicks entries is = cc (is)
comes_not_back WorkIsRetried entries is = cc (is)
comes_not_back (ClientAsks req ask) entries is = cc (is)

module _ (script : List Statement) (range : RunsAreInRange script) (events : List Move) (start before after : MomentWithPast)
    (is : run_with_past script events ≡ Some start) (trail : MomentTrail script start before)
    (change : MomentChange script start before after) (good : ℕ → Bool)
    (alive : (oid : ℕ) → good oid ≡ true → is_dead_by_log after.world.log oid ≡ false)
    (not_missing : TheMadeIsNotMissing good after.world.hosts after.past.attempts)
    (has : WhatIsNotPendingIsThere (targets_by before.world.log)
    (log_effects before.world.log) good before.world.hosts before.past.attempts)
  where
    began : Began script start.world
    began = began-with_past script events start is

    rows : RowsHold before
    rows = on_the_way script RowsHold (kept_rows script range) events start before is trail

    pub rows_after : RowsHold after
    rows_after = (kept_rows script range).keeps start before after began change rows

    terms : TermsHold before
    terms = on_the_way script TermsHold (kept_terms script range) events start before is trail

    pub terms_after : TermsHold after
    terms_after = (kept_terms script range).keeps start before after began change terms

    grows : LogGrows before.world.log after.world.log
    grows = log_grows script change

    module _ (n : ℕ) (now : Host) (at : tree.get after.world.hosts n ≡ Some now) (up : now.is_lost ≡ false) (oid index : ℕ)
        (policy : Policy)
        (listed : is_listed now.node.recovery ≡ true) (good_so : good oid ≡ true)
        (policy_so : policy_in (log_effects after.world.log) oid ≡ Some policy)
        (index_so : index_of_part (targets_by after.world.log) now.node.recovery.epoch oid policy (record { 0 = n }) ≡ Some index)
        (made : IsMadeBy after.past.attempts oid now.node.recovery.epoch) where
      abbrev IsThere : Type 0
      IsThere = (is_pending_object oid now.node.peer.pending ≡ true) ⊎ HasOpenRow now.node.peer.rows oid index

      -- the node is a target, so a member
      placed : has_node (record { 0 = n }) (targets_by after.world.log now.node.recovery.epoch oid policy) ≡ true
      placed =
          index-has_node (record {
            0 =
                n;
          }) (targets_by after.world.log now.node.recovery.epoch oid policy) policy (kind_of oid) index index_so

      member : is_member n (members_in after.world.log now.node.recovery.epoch) ≡ true
      member = target-member after.world.log now.node.recovery.epoch oid policy (record { 0 = n }) placed

      pub own : now.node.recovery.epoch ≡ now.node.peer.epoch
      own = recovers_member after.world.log n now (terms_after.sound.each n now at) (terms_after.stood.stood n now at up) member

      turns : AreInTurn now.node.peer.epoch (rows_of now.node.peer.rows oid)
      turns = rows_after.turns n now at oid

      -- an open row is of the index
      of_index : (i : ℕ) (row : SeenRow) → slice_get (rows_of now.node.peer.rows oid) i ≡ Some row → is_open row ≡ true
          → HasOpenRow now.node.peer.rows oid index
      of_index i row got unshut =
          row_found now.node.peer.rows oid index i row got unshut
          (same_Some row.index index
          (sym ((placed-on_the_way script range events start after is (moments.Then trail change)).each n now at oid i row got policy
          now.node.peer.epoch policy_so
          (open_covers now.node.peer.epoch row (turn_at now.node.peer.epoch (rows_of now.node.peer.rows oid) i row turns got) unshut))
          ∙ ap (λ (k : ℕ). index_of_part (targets_by after.world.log) k oid policy (record { 0 = n })) (sym own) ∙ index_so))

      by_covers : Covers now.node.peer.epoch now.node.peer.epoch (rows_of now.node.peer.rows oid) → HasOpenRow now.node.peer.rows oid index
      by_covers covers =
          let (i, row, got, found, own_covers) = any_found (row_covers now.node.peer.epoch now.node.peer.epoch)
          (rows_of now.node.peer.rows oid)
          covers in
          of_index i row got
          (covers_open now.node.peer.epoch row (turn_at now.node.peer.epoch (rows_of now.node.peer.rows oid) i row turns got) own_covers)

      pub by_open : HasOpen (rows_of now.node.peer.rows oid) → HasOpenRow now.node.peer.rows oid index
      by_open some =
          let (i, row, got, found, unshut) = any_found (λ (r : SeenRow). is_open r) (rows_of now.node.peer.rows oid) some in
          of_index i row got unshut

      same_policy : policy_of made.attempt.work ≡ policy
      same_policy =
          same_Some (policy_of made.attempt.work) policy
          (sym (rows_after.shaped.shape.policy made.place made.attempt made.there)
          ∙ ap (policy_in (log_effects after.world.log)) made.object ∙ policy_so)

      -- ---- what is made of the epoch itself

      pub of_epoch : made.attempt.epoch ≡ now.node.recovery.epoch → HasOpenRow now.node.peer.rows oid index
      of_epoch same =
          let targets_so : made.attempt.targets ≡ targets_by after.world.log now.node.recovery.epoch oid policy
          = rows_after.shaped.shape.targets made.place made.attempt made.there
          ∙ (λ i. targets_by after.world.log (same i) (made.object i) (same_policy i)) in
          let (place, target, among, served, own_target) = served_at (record { 0 = n }) made.attempt.targets made.attempt.fates
          (made-served (record { 0 = n }) made.attempt (rows_after.tied.fates.whole made.place made.attempt made.there) made.made
          (ap (has_node (record { 0 = n })) targets_so ∙ placed)) in
          let it : IsKeptAt now.node.peer (object_of made.attempt) made.attempt.epoch
          =
          rows_after.served made.place made.attempt made.there place target among served now
          (ap (tree.get after.world.hosts) own_target ∙ at)
          (ap (is_dead_by_log after.world.log) made.object ∙ alive oid good_so) in
          by_kept (subst (λ (q : ℕ). IsKeptAt now.node.peer q now.node.peer.epoch) made.object
          (subst (λ (e : ℕ). IsKeptAt now.node.peer (object_of made.attempt) e) (same ∙ own) it))
        where
          by_kept : IsKeptAt now.node.peer oid now.node.peer.epoch → HasOpenRow now.node.peer.rows oid index
          by_kept either = ⊎_elim
              (λ (covers : Covers now.node.peer.epoch now.node.peer.epoch (rows_of now.node.peer.rows oid)). by_covers covers)
              (λ (below : now.node.peer.epoch < now.node.peer.settled).
              (let read = (terms_after.sound.each n now at).read in
              let settled_so = read.settled_so in
              let epoch_so = read.epoch_so in
              let most = (settled_of-begun now.node.peer.entries).1 in
              absurd (omega (arith, below, settled_so, epoch_so, most))))
              either

      -- ---- what was made of an earlier one

      module _ (early : made.attempt.epoch < now.node.recovery.epoch) (was : Host) (there : tree.get before.world.hosts n ≡ Some was)
          (was_up : was.is_lost ≡ false) (was_listed : is_listed was.node.recovery ≡ true)
          (same_epoch : was.node.recovery.epoch ≡ now.node.recovery.epoch) where
        later : 1 < was.node.recovery.epoch
        later =
            let reserved = rows_after.shaped.known.reserved made.place made.attempt made.there in
            let known = rows_after.shaped.known.before made.place made.attempt made.there in
            omega (arith, reserved, known, early, same_epoch)

        -- in the same epoch
        was_own : was.node.recovery.epoch ≡ was.node.peer.epoch
        was_own = recovers_own before.world.log n was (terms.sound.each n was there) (terms.stood.stood n was there was_up) later

        begun : was.node.recovery.epoch ≤ epoch_of before.world.log
        begun =
            let same = was_own in
            let most = epoch_within before.world.log n was.node.me was.node.peer (terms.sound.each n was there).read in
            omega (arith, same, most)

        w : WasAttempt before made.place made.attempt
        w = was_there script range events start before after is trail change made.place made.attempt made.there made.made

        was_object : object_of w.was ≡ oid
        was_object = ap (λ (a : AttemptRecord). object_of a) w.same ∙ made.object

        policy_was : policy_in (log_effects before.world.log) oid ≡ Some policy
        policy_was =
            ap (policy_in (log_effects before.world.log)) (sym was_object) ∙ rows.shaped.shape.policy made.place w.was w.at
            ∙ ap (λ (p : Policy). Some p) (ap (λ (a : AttemptRecord). policy_of a.work) w.same ∙ same_policy)

        index_was : index_of_part (targets_by before.world.log) was.node.recovery.epoch oid policy (record { 0 = n }) ≡ Some index
        index_was =
            ap (λ (nodes : List NodeId). index_among (record { 0 = n }) nodes policy (kind_of oid))
            (sym (ap (λ (log : List Entry). targets_by log was.node.recovery.epoch oid policy) grows.is
            ∙ targets_stay before.world.log grows.rest was.node.recovery.epoch oid policy terms.stood.some begun))
            ∙ ap (λ (k : ℕ). index_of_part (targets_by after.world.log) k oid policy (record { 0 = n })) same_epoch ∙ index_so

        made_before : IsMadeBy before.past.attempts oid was.node.recovery.epoch
        made_before =
            let was_made = made_was script range events start before after is trail change n was there was_up was_listed oid
            made.attempt.epoch
            (omega (arith, early, same_epoch)) later
            (record {
              place =
                  made.place;
              attempt = made.attempt;
              there = made.there;
              object = made.object;
              made = made.made;
              before = omega arith;
            }) in
            record {
              place = was_made.place;
              attempt = was_made.attempt;
              there = was_made.there;
              object = was_made.object;
              made = was_made.made;
              before = (let most = was_made.before in omega (arith, most, early, same_epoch));
            }

        somewhere : IsSomewhereAt oid was.node
        somewhere = ⊎_elim
            (λ (pending : is_pending_object oid was.node.peer.pending ≡ true). inl pending)
            (λ (found : HasOpenRow was.node.peer.rows oid index).
            inr (inl (found_open index (rows_of was.node.peer.rows oid) found.row found.found)))
            (has.each n was there was_up oid index policy was_listed good_so policy_was index_was made_before)

        -- and so it is now
        by_somewhere : IsSomewhereAt oid now.node → IsThere
        by_somewhere (inl pending) = inl pending
        by_somewhere (inr (inl some)) = inr (by_open some)
        by_somewhere (inr (inr missing)) =
            let refused = not_missing.each n now at up oid made.attempt.epoch listed good_so early
            (record {
              place =
                  made.place;
              attempt = made.attempt;
              there = made.there;
              object = made.object;
              made = made.made;
              before = omega arith;
            }) in
            absurd (cc (refused, missing))

        by_parts : (old : Node) → HasPartsOf old now.node → IsSomewhereAt oid old → IsThere
        by_parts old parts so =
            by_somewhere (subst (λ (r : Recovery). IsSomewhere oid now.node.peer.pending now.node.peer.rows r.missing) (sym parts.recovery)
            (subst (λ (p : Peer). IsSomewhere oid p.pending p.rows old.recovery.missing) (sym parts.peer) so))

        module _ (cause : NodeCause) (caused : IsCause script before.world n was cause)
            (parts : HasPartsOf (input_received (input_of_cause cause) (at_first was.node)).node now.node) where
          reads_so : (entry : Entry) → input_of_cause cause ≡ inputs.LogEntry entry
              → (begins_epoch entry ≡ false) × (is_dead_object (with_entry entry was.node.peer) oid ≡ false)
          reads_so entry reads = (by_begins (begins_epoch entry) refl, by_dead (is_dead_object (with_entry entry was.node.peer) oid) refl)
            where
              entries_so : now.node.peer.entries ≡ was.node.peer.entries ++ entry ∷ []
              entries_so =
                  ap (λ (p : Peer). p.entries) parts.peer
                  ∙ ap (λ (input : Input). (input_received input (at_first was.node)).node.peer.entries) reads
                  ∙ entries_reading entry was.node

              by_begins : (b : Bool) → begins_epoch entry ≡ b → b ≡ false
              by_begins false quiet = refl
              by_begins true begins =
                  let more = epoch_more was.node.peer.entries entry begins in
                  let now_so = (terms_after.sound.each n now at).read.epoch_so in
                  let was_so = (terms.sound.each n was there).read.epoch_so in
                  let same = ap epoch_of entries_so in
                  let mine = own in
                  let old = was_own in
                  absurd (omega (arith, more, now_so, was_so, same, mine, old, same_epoch))

              by_dead : (b : Bool) → is_dead_object (with_entry entry was.node.peer) oid ≡ b → b ≡ false
              by_dead false lives = refl
              by_dead true dead =
                  let read = (terms_after.sound.each n now at).read in
                  let still : is_dead (log_effects (now.node.peer.entries ++ read.front.rest)) (vid_of oid) ≡ true
                  = dead_later now.node.peer.entries read.front.rest (vid_of oid)
                  (ap (λ (all : List Entry). is_dead (log_effects all) (vid_of oid)) entries_so ∙ dead) in
                  let refused = alive oid good_so in
                  let here : is_dead (log_effects after.world.log) (vid_of oid) ≡ true
                  = ap (λ (all : List Entry). is_dead (log_effects all) (vid_of oid)) read.front.is ∙ still in
                  absurd (cc (refused, here))

          pub stepped_there : IsThere
          stepped_there =
              by_parts (input_received (input_of_cause cause) (at_first was.node)).node parts
              (received_there oid was.node somewhere (terms.sound.each n was there).sound.lists.asks_so was_listed
              (input_of_cause cause) reads_so
              (comes_not_back cause))

        pub stayed_there : HasPartsOf was.node now.node → IsThere
        stayed_there parts = by_parts was.node parts somewhere

      -- where the list was finished before, in the same epoch, the change keeps it
      pub goes_on_there : (was : Host) → tree.get before.world.hosts n ≡ Some was → is_listed was.node.recovery ≡ true
          → was.node.recovery.epoch ≡ now.node.recovery.epoch → IsThere
      goes_on_there was there was_listed same_epoch = ⊎_elim
          (λ (early : made.attempt.epoch < now.node.recovery.epoch).
          by_change early (parts_change script range start began change n now at))
          (λ (late : now.node.recovery.epoch ≤ made.attempt.epoch).
          inr (of_epoch (let most = made.before in omega (arith, late, most))))
          (cases_lt made.attempt.epoch now.node.recovery.epoch)
        where
          same_host : (other : Host) → tree.get before.world.hosts n ≡ Some other → other ≡ was
          same_host other is_there = same_Some other was (sym is_there ∙ there)

          by_change : made.attempt.epoch < now.node.recovery.epoch → PartsChange script before n now → IsThere
          by_change early (PartsStay other is_there was_up parts) =
              let same = same_host other is_there in
              stayed_there early other is_there (was_up up) (ap (λ (h : Host). is_listed h.node.recovery) same ∙ was_listed)
              (ap (λ (h : Host). h.node.recovery.epoch) same ∙ same_epoch) parts
          by_change early (PartsStep other cause now_began is_there was_up caused parts) =
              let same = same_host other is_there in
              stepped_there early other is_there (not_lost other was_up) (ap (λ (h : Host). is_listed h.node.recovery) same ∙ was_listed)
              (ap (λ (h : Host). h.node.recovery.epoch) same ∙ same_epoch) cause caused parts
          by_change early (PartsReturn other now_began is_there lost parts) =
              let entries : List Entry = log_after_return script n before.world in
              let entries_so : now.node.peer.entries ≡ entries
              = ap (λ (p : Peer). p.entries) parts.peer
              ∙ ap (λ (p : Peer). p.entries) (sym (step_peer (inputs.Back entries) other.node))
              ∙ step_reads (inputs.Back entries) other.node in
              let more = epoch_more before.world.log (join_of script n (last_weight before.world.log n)) refl in
              let now_so = (terms_after.sound.each n now at).read.epoch_so in
              let same = ap epoch_of entries_so in
              let mine = own in
              let entered = (terms.sound.each n was there).sound.recovers.entered in
              let most = epoch_within before.world.log n was.node.me was.node.peer (terms.sound.each n was there).read in
              absurd (omega (arith, more, now_so, same, mine, entered, most, same_epoch))
          by_change early (PartsAreNew fresh parts) = none_there (tree.get before.world.hosts n) was fresh there
