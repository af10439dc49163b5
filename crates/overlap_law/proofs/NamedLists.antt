-- Each change of a moment keeps that what a node with a finished list hasn't pending it has, of all that was made up to its epoch, if a
-- list that is finished by the change names what was made before, or the node has a row of it.
use Rattle.std.proofs.Common.{◌≡◌, ◌≢◌, ◌⊎◌, inl, inr, ⊎_elim, arith, ℕ, ◌≤◌, ◌<◌, ◌==◌, not, Bool, true, false, cond, List, ◌++◌, Option}
use Rattle.std.proofs.Common.{Some, None, is_some, option_map, refl, sym, ap, subst, ◌∙◌}
use Rattle.std.specs.Option.{option_map_or}
use Rattle.std.specs.FinMap as tree
use Rattle.std.proofs.lemmas.Bool.{cases_eq, cases_lt, eqb-true}
use Rattle.std.proofs.lemmas.Option.{same_Some}
use Rattle.object_id.specs.declared.entry.Entry.{Entry}
use Rattle.object_id.specs.declared.entry.VdiSpec.{VdiSpec}
use Rattle.object_id.specs.declared.node.NodeId.{NodeId}
use Rattle.object_id.specs.declared.policy.Policy.{Policy}
use Rattle.object_id.specs.Oid.{kind_of, vid_of}
use Rattle.gf256.specs.Part.{index_among}
use Rattle.object_list.specs.Union.{union}
use Rattle.object_store.specs.Store.{SeenRow, AllRows, rows_of, open_row}
use Rattle.cluster_script.specs.declared.statement.Statement.{Statement}
use Rattle.vdi_directory.specs.Dead.{is_dead}
use Rattle.vdi_directory.specs.Decisions.{log_effects}
use Rattle.vdi_directory.specs.declared.header.Header.{Header}
use Rattle.vdi_directory.specs.Effects.{header_of, is_used}
use Rattle.vdi_directory.proofs.LineLemmas.{line-log_effects}
use Rattle.vnode_table.specs.Epochs.{EpochMembers}
use Rattle.peer_service.specs.State.{Peer, object_policy, is_dead_object}
use Rattle.recovery.specs.Shown.{is_pending_object, live_policy, index_in, lacks_part, lacks_own_part, is_to_recover}
use Rattle.recovery.specs.State.{Recovery, is_listed}
use Rattle.sheep_node.specs.declared.input.Input.{Input}
use Rattle.sheep_node.specs.declared.input.Input.TheVariants as inputs
use Rattle.sheep_node.specs.State.{Node}
use Rattle.sheep_node.specs.StepFacts.{epochs_of}
use Rattle.sheep_node.specs.StepState.{at_first}
use Rattle.sheep_node.specs.Changes.{input_received}
use Rattle.sheep_world.specs.Began.{Began}
use Rattle.sheep_world.specs.EventKinds.{log_after_return}
use Rattle.sheep_world.specs.NodeCauses.{input_of_cause}
use Rattle.sheep_world.specs.World.{Host, World}
use Rattle.sheep_world.proofs.NodesByTheLog.{by_the_log}
use Rattle.sheep_world.specs.RunsWithAsks.{Move}
use Rattle.overlap_law.specs.Each.{has_row_at, row_covers, policy_in, spec_in, index_of_part}
use Rattle.overlap_law.specs.Holders.{targets_by, is_object_among, is_dead_by_log}
use Rattle.overlap_law.specs.Lists.{HasOpenRow, WhatIsNotPendingIsThere}
use Rattle.overlap_law.specs.MomentChanges as moments
use Rattle.overlap_law.specs.MomentChanges.{MomentChange, MomentTrail, RunsAreInRange}
use Rattle.overlap_law.specs.Past.{MomentWithPast, run_with_past}
use Rattle.overlap_law.specs.Rows.{IsMadeBy}
use Rattle.overlap_law.specs.Searches.{TheMadeIsNotMissing}
use Rattle.overlap_law.specs.Grants.{reserved_in}
use Rattle.overlap_law.proofs.FinishedInMoments.{TermsHold}
use Rattle.overlap_law.proofs.GrantedEpochs.{spec_used, unused_later}
use Rattle.overlap_law.proofs.HasChanges.{own, by_open, of_epoch, goes_on_there, terms_after, rows_after}
use Rattle.overlap_law.proofs.OpenRows.{found_open}
use Rattle.overlap_law.proofs.LevelsAskedInRuns.{own_recovery}
use Rattle.overlap_law.proofs.NumberedMessages.{node_targets, node_knows}
use Rattle.overlap_law.proofs.ListsStand.{among_union}
use Rattle.overlap_law.proofs.NoRecoveredDue.{began-with_past}
use Rattle.overlap_law.proofs.NodePartsInMoments.{HasPartsOf, PartsChange, PartsStay, PartsStep, PartsReturn, PartsAreNew, parts_change}
use Rattle.overlap_law.proofs.NodesOnTheWay.{nodes-on_the_way}
use Rattle.overlap_law.proofs.NotedLists.{row_among}
use Rattle.overlap_law.proofs.OpenedLists.{OpenedSo, OpenedBy, OpensOr, received_opens}
use Rattle.overlap_law.proofs.ReadInMoments.{HasReadOf}
use Rattle.overlap_law.proofs.StayingRows.{RowsHold, dead_later}
use Rattle.overlap_law.proofs.ThereOrMissing.{HasOpen, any_stays}

-- who isn't in a list of what is lacked has an open row
has_part : (rows : AllRows) (oid index : ℕ) → lacks_part rows oid index ≡ false → HasOpen (rows_of rows oid)
has_part rows oid index has = by_row (open_row rows (record { oid = oid; index = index })) refl has
  where
    by_row : (o : Option SeenRow) → open_row rows (record { oid = oid; index = index }) ≡ o → not (is_some o) ≡ false
        → HasOpen (rows_of rows oid)
    by_row None is has = absurd (cc (has))
    by_row (Some row) is has = found_open index (rows_of rows oid) row is

module _ (script : List Statement) (range : RunsAreInRange script) where
  abbrev KnowsEpochs : ℕ → Node → Type 0
  KnowsEpochs n node = node.epochs ≡ epochs_of node.peer.entries

  epochs_in_world : (world : World) → Began script world → (n : ℕ) (host : Host) → tree.get world.hosts n ≡ Some host
      → KnowsEpochs n host.node
  epochs_in_world world began n host there = (by_the_log script range.is_script range.room world began n host there).epochs_so

  same_epochs : (n : ℕ) (old new : Node) → HasPartsOf old new → KnowsEpochs n old → KnowsEpochs n new
  same_epochs n old new parts is = parts.epochs ∙ is ∙ ap (λ (p : Peer). epochs_of p.entries) (sym parts.peer)

  epochs_known : (events : List Move) (start moment : MomentWithPast) → run_with_past script events ≡ Some start
      → MomentTrail script start moment → (n : ℕ) (host : Host) → tree.get moment.world.hosts n ≡ Some host → KnowsEpochs n host.node
  epochs_known = nodes-on_the_way script KnowsEpochs same_epochs epochs_in_world

-- a list that the change finishes names what was made before its epoch, or the node has a row of it
abbrev pub NamesTheMade : MomentWithPast → MomentWithPast → (ℕ → Bool) → Type 0
NamesTheMade before after good = (n : ℕ) (now : Host) → tree.get after.world.hosts n ≡ Some now → now.is_lost ≡ false
    → is_listed now.node.recovery ≡ true
    → ((was : Host) → tree.get before.world.hosts n ≡ Some was → is_listed was.node.recovery ≡ true
    → was.node.recovery.epoch ≢ now.node.recovery.epoch)
    → (oid before_epoch : ℕ) → good oid ≡ true → before_epoch < now.node.recovery.epoch → IsMadeBy after.past.attempts oid before_epoch
    → (is_object_among oid now.node.recovery.lists.objects ≡ true)
    ⊎ ((level : ℕ) × (has_row_at now.node.peer.epoch now.node.peer.rows oid level ≡ true))

module _ (script : List Statement) (range : RunsAreInRange script) (events : List Move) (start before after : MomentWithPast)
    (is : run_with_past script events ≡ Some start) (trail : MomentTrail script start before)
    (change : MomentChange script start before after) (good : ℕ → Bool)
    (alive : (oid : ℕ) → good oid ≡ true → is_dead_by_log after.world.log oid ≡ false)
    (not_missing : TheMadeIsNotMissing good after.world.hosts after.past.attempts)
    (named : NamesTheMade before after good)
    (has : WhatIsNotPendingIsThere (targets_by before.world.log)
    (log_effects before.world.log) good before.world.hosts before.past.attempts)
  where
    module _ (n : ℕ) (now : Host) (at : tree.get after.world.hosts n ≡ Some now) (up : now.is_lost ≡ false) (oid index : ℕ)
        (policy : Policy)
        (listed : is_listed now.node.recovery ≡ true) (good_so : good oid ≡ true)
        (policy_so : policy_in (log_effects after.world.log) oid ≡ Some policy)
        (index_so : index_of_part (targets_by after.world.log) now.node.recovery.epoch oid policy (record { 0 = n }) ≡ Some index)
        (made : IsMadeBy after.past.attempts oid now.node.recovery.epoch) where
      abbrev IsThere : Type 0
      IsThere = (is_pending_object oid now.node.peer.pending ≡ true) ⊎ HasOpenRow now.node.peer.rows oid index

      own_epoch : now.node.recovery.epoch ≡ now.node.peer.epoch
      own_epoch =
          own script range events start before after is trail change good alive not_missing has n now at up oid index policy listed
          good_so policy_so
          index_so made

      go_on : (was : Host) → tree.get before.world.hosts n ≡ Some was → is_listed was.node.recovery ≡ true
          → was.node.recovery.epoch ≡ now.node.recovery.epoch → IsThere
      go_on =
          goes_on_there script range events start before after is trail change good alive not_missing has n now at up oid index policy
          listed
          good_so policy_so index_so made

      found : HasOpen (rows_of now.node.peer.rows oid) → HasOpenRow now.node.peer.rows oid index
      found =
          by_open script range events start before after is trail change good alive not_missing has n now at up oid index policy listed
          good_so
          policy_so index_so made

      terms : TermsHold after
      terms = terms_after script range events start before after is trail change good alive not_missing has

      rows : RowsHold after
      rows = rows_after script range events start before after is trail change good alive not_missing has

      module _ (early : made.attempt.epoch < now.node.recovery.epoch) where
        read : HasReadOf after.world.log n now.node.me now.node.peer
        read = (terms.sound.each n now at).read

        epoch_later : 1 < now.node.recovery.epoch
        epoch_later =
            let reserved = rows.shaped.known.reserved made.place made.attempt made.there in
            let known = rows.shaped.known.before made.place made.attempt made.there in
            omega (arith, reserved, known, early)

        -- the node knows the policy, as the id was reserved in an earlier epoch
        known_policy : object_policy now.node.peer oid ≡ Some policy
        known_policy = by_spec (spec_in (log_effects after.world.log) (vid_of oid)) refl policy_so
          where
            early_reserved : reserved_in after.world.log (vid_of oid) ≤ made.attempt.epoch
            early_reserved =
                ap-less (λ (q : ℕ). reserved_in after.world.log (vid_of q)) made.object
                (rows.shaped.known.before made.place made.attempt made.there)
              where
                ap-less : (f : ℕ → ℕ) {a b : ℕ} → a ≡ b → f a ≤ made.attempt.epoch → f b ≤ made.attempt.epoch
                ap-less f same less = let eq = ap f same in omega (arith, eq, less)

            used_here : (spec : VdiSpec) → spec_in (log_effects after.world.log) (vid_of oid) ≡ Some spec
                → is_used (log_effects now.node.peer.entries) (vid_of oid) ≡ true
            used_here spec spec_so = by_used (is_used (log_effects now.node.peer.entries) (vid_of oid)) refl
              where
                by_used : (b : Bool) → is_used (log_effects now.node.peer.entries) (vid_of oid) ≡ b → b ≡ true
                by_used true used = refl
                by_used false unused =
                    let late = unused_later now.node.peer.entries read.front.rest (vid_of oid) unused
                    (ap (λ (log : List Entry). is_used (log_effects log) (vid_of oid)) (sym read.front.is)
                    ∙ spec_used after.world.log (vid_of oid) spec spec_so) in
                    let same = ap (λ (log : List Entry). reserved_in log (vid_of oid)) read.front.is in
                    let reserved = early_reserved in
                    let mine = own_epoch in
                    let at_epoch = read.epoch_so in
                    absurd (omega (arith, late, same, reserved, mine, at_epoch, early))

            by_header : (o : Option Header) → header_of (log_effects now.node.peer.entries) (vid_of oid) ≡ o → is_some o ≡ true
                → object_policy now.node.peer oid ≡ Some policy
            by_header None header known = absurd (cc (known))
            by_header (Some header) header_so known =
                let own_policy : object_policy now.node.peer oid ≡ Some header.spec.policy
                = ap (λ (o : Option Header). option_map (λ (s : VdiSpec). s.policy) (option_map (λ (h : Header). h.spec) o)) header_so in
                own_policy ∙ ap (λ (p : Policy). Some p)
                (same_Some header.spec.policy policy
                (sym (node_knows after.world.log n now.node read oid header.spec.policy own_policy) ∙ policy_so))

            by_spec : (o : Option VdiSpec) → spec_in (log_effects after.world.log) (vid_of oid) ≡ o
                → option_map (λ (s : VdiSpec). s.policy) o ≡ Some policy → object_policy now.node.peer oid ≡ Some policy
            by_spec None spec_so so = absurd (cc (so))
            by_spec (Some spec) spec_so so =
                by_header (header_of (log_effects now.node.peer.entries) (vid_of oid)) refl
                (sym ((line-log_effects now.node.peer.entries).known (vid_of oid)) ∙ used_here spec spec_so)

        not_dead : is_dead_object now.node.peer oid ≡ false
        not_dead = by_dead (is_dead_object now.node.peer oid) refl
          where
            by_dead : (b : Bool) → is_dead_object now.node.peer oid ≡ b → b ≡ false
            by_dead false lives = refl
            by_dead true dead =
                let still : is_dead (log_effects (now.node.peer.entries ++ read.front.rest)) (vid_of oid) ≡ true
                = dead_later now.node.peer.entries read.front.rest (vid_of oid) dead in
                let refused = alive oid good_so in
                let here : is_dead (log_effects after.world.log) (vid_of oid) ≡ true
                = ap (λ (all : List Entry). is_dead (log_effects all) (vid_of oid)) read.front.is ∙ still in
                absurd (cc (refused, here))

        -- an object that is named, or of which the node has a row, is pending or there
        by_opened : OpenedBy now.node
            → (is_object_among oid now.node.recovery.lists.objects ≡ true)
            ⊎ ((level : ℕ) × (has_row_at now.node.peer.epoch now.node.peer.rows oid level ≡ true))
            → IsThere
        by_opened opened either = by_lacked (lacks_part opened.view.rows oid index) refl
          where
            live : live_policy opened.view oid ≡ Some policy
            live =
                (λ i. cond (opened.dead_so oid i) None (opened.policy_so oid i))
                ∙ (λ i. cond (not_dead i) None (known_policy i))

            place : index_in opened.view now.node.recovery.epoch oid policy now.node.recovery.me ≡ Some index
            place =
                let later = epoch_later in
                let mine = own_epoch in
                ap (λ (nodes : List NodeId). index_among now.node.recovery.me nodes policy (kind_of oid))
                (opened.targets_so now.node.recovery.epoch oid policy
                ∙ node_targets after.world.log n now.node read
                (epochs_known script range events start after is (moments.Then trail change) n now at) now.node.recovery.epoch
                (omega (arith, later)) (omega (arith, mine)) (omega (arith, later, mine)) oid policy)
                ∙ ap (λ (me : NodeId). index_among me (targets_by after.world.log now.node.recovery.epoch oid policy) policy (kind_of oid))
                (own_recovery script range events start after is (moments.Then trail change) n now at)
                ∙ index_so

            among : is_object_among oid (union now.node.recovery.lists.objects (tree.keys opened.view.rows)) ≡ true
            among =
                among_union now.node.recovery.lists.objects (tree.keys opened.view.rows) oid
                (⊎_elim
                (λ (name : is_object_among oid now.node.recovery.lists.objects ≡ true). inl name)
                (λ (row : (level : ℕ) × (has_row_at now.node.peer.epoch now.node.peer.rows oid level ≡ true)).
                inr (row_among opened.view.rows oid (row_covers now.node.peer.epoch row.0)
                (opened.rows_so oid (row_covers now.node.peer.epoch row.0) row.1)))
                either)

            by_lacked : (b : Bool) → lacks_part opened.view.rows oid index ≡ b → IsThere
            by_lacked true lacks =
                let to_do : is_to_recover now.node.recovery.me now.node.recovery.epoch opened.view oid ≡ true
                =
                ap (λ (o : Option Policy). option_map_or
                (lacks_own_part now.node.recovery.me now.node.recovery.epoch opened.view oid) o false) live
                ∙ ap (λ (o : Option ℕ). option_map_or (lacks_part opened.view.rows oid) o false) place ∙ lacks in
                inl (ap (is_pending_object oid) opened.pending_so
                ∙ any_stays (λ (other : ℕ). other == oid) (is_to_recover now.node.recovery.me now.node.recovery.epoch opened.view)
                (union now.node.recovery.lists.objects (tree.keys opened.view.rows))
                (λ other same.
                ap (is_to_recover now.node.recovery.me now.node.recovery.epoch opened.view) (eqb-true other oid same) ∙ to_do) among)
            by_lacked false lacks = inr (found (opened.open_so oid (has_part opened.view.rows oid index lacks)))

        -- where its list wasn't finished before in this epoch
        newly : ((was : Host) → tree.get before.world.hosts n ≡ Some was → is_listed was.node.recovery ≡ true
            → was.node.recovery.epoch ≢ now.node.recovery.epoch)
            → OpenedBy now.node → IsThere
        newly new opened =
            by_opened opened
            (named n now at up listed new oid made.attempt.epoch good_so early
            (record {
              place =
                  made.place;
              attempt = made.attempt;
              there = made.there;
              object = made.object;
              made = made.made;
              before = omega arith;
            }))

        opened_parts : (old : Node) → HasPartsOf old now.node → OpenedBy old → OpenedBy now.node
        opened_parts old parts opened =
            subst (λ (r : Recovery). OpenedSo r now.node.peer now.node.epochs) (sym parts.recovery)
            (subst (λ (p : Peer). OpenedSo old.recovery p now.node.epochs) (sym parts.peer)
            (subst (λ (epochs : List EpochMembers). OpenedSo old.recovery old.peer epochs) (sym parts.epochs) opened))

        -- by what the node stepped on
        by_input : (was : Host) → tree.get before.world.hosts n ≡ Some was → (input : Input)
            → HasPartsOf (input_received input (at_first was.node)).node now.node → IsThere
        by_input was there input parts =
            by_before (is_listed was.node.recovery) (cases_eq was.node.recovery.epoch now.node.recovery.epoch) refl
          where
            opens : OpensOr was.node (input_received input (at_first was.node)).node
            opens =
                received_opens input was.node (ap (λ (r : Recovery). is_listed r) (sym parts.recovery) ∙ listed)

            same_host : (other : Host) → tree.get before.world.hosts n ≡ Some other → other ≡ was
            same_host other other_there = same_Some other was (sym other_there ∙ there)

            by_opens : ((other : Host) → tree.get before.world.hosts n ≡ Some other → is_listed other.node.recovery ≡ true
                → other.node.recovery.epoch ≢ now.node.recovery.epoch) → IsThere
            by_opens new = ⊎_elim
                (λ (still : (is_listed was.node.recovery ≡ true)
                × ((input_received input (at_first was.node)).node.recovery.epoch ≡ was.node.recovery.epoch)).
                go_on was there still.0 (sym still.1 ∙ ap (λ (r : Recovery). r.epoch) (sym parts.recovery)))
                (λ (opened : OpenedBy (input_received input (at_first was.node)).node).
                newly new (opened_parts (input_received input (at_first was.node)).node parts opened))
                opens

            by_before : (b : Bool)
                → (was.node.recovery.epoch ≡ now.node.recovery.epoch) ⊎ (was.node.recovery.epoch ≢ now.node.recovery.epoch)
                → is_listed was.node.recovery ≡ b → IsThere
            by_before true (inl same) was_listed = go_on was there was_listed same
            by_before true (inr apart) was_listed =
                by_opens (λ other other_there other_listed same.
                apart (ap (λ (h : Host). h.node.recovery.epoch) (sym (same_host other other_there)) ∙ same))
            by_before false either unlisted =
                by_opens (λ other other_there other_listed same.
                (let no : is_listed other.node.recovery ≡ false
                = ap (λ (h : Host). is_listed h.node.recovery) (same_host other other_there) ∙ unlisted in
                cc (no, other_listed)))

        by_change : PartsChange script before n now → IsThere
        by_change (PartsStay was there was_up parts) =
            go_on was there (ap (λ (r : Recovery). is_listed r) (sym parts.recovery) ∙ listed)
            (ap (λ (r : Recovery). r.epoch) (sym parts.recovery))
        by_change (PartsStep was cause now_began there was_up caused parts) = by_input was there (input_of_cause cause) parts
        by_change (PartsReturn was now_began there lost parts) =
            by_input was there (inputs.Back (log_after_return script n before.world)) parts
        by_change (PartsAreNew fresh parts) =
            let one = ap (λ (r : Recovery). r.epoch) parts.recovery in
            let later = epoch_later in
            absurd (omega (arith, one, later))

      has_now : IsThere
      has_now = ⊎_elim
          (λ (early : made.attempt.epoch < now.node.recovery.epoch).
          by_change early (parts_change script range start (began-with_past script events start is) change n now at))
          (λ (late : now.node.recovery.epoch ≤ made.attempt.epoch).
          inr (of_epoch script range events start before after is trail change good alive not_missing has n now at up oid index policy
          listed
          good_so policy_so index_so made (let most = made.before in omega (arith, late, most))))
          (cases_lt made.attempt.epoch now.node.recovery.epoch)

    pub has_after : WhatIsNotPendingIsThere (targets_by after.world.log)
        (log_effects after.world.log) good after.world.hosts after.past.attempts
    has_after = record {
      each = λ n now at up oid index policy listed good_so policy_so index_so made.
          has_now n now at up oid index policy listed good_so policy_so index_so made;
    }
