-- Each change of a moment keeps that finished lists are complete: a list that was finished names what it named, and with it stands what was
-- noted of it; what is made late is of its epoch or a later one. And a list that is finished now has what the nodes hold.
use Rattle.std.proofs.Common.{◌≡◌, ◌≢◌, ◌⊎◌, inl, inr, ⊎_elim, arith, ℕ, ◌≤◌, ◌<◌, ◌==◌, ◌&&◌, not, Bool, true, false, cond, List, [], ◌∷◌}
use Rattle.std.proofs.Common.{length, map, Option, Some, None, is_some, refl, sym, ap, subst, ◌∙◌}
use Rattle.std.specs.List.{find, list_all}
use Rattle.std.specs.Option.{option_map, option_map_or, option_or}
use Rattle.std.specs.FinMap as tree
use Rattle.std.proofs.lemmas.Bool.{cases_lt, eq-eqb, ne_eqb, or_cases, or_left, or_right}
use Rattle.std.proofs.lemmas.List.Folds.{list_any-append}
use Rattle.std.proofs.lemmas.Option.{same_Some}
use Rattle.object_id.specs.declared.entry.Entry.{Entry}
use Rattle.object_id.specs.declared.entry.VdiSpec.{VdiSpec}
use Rattle.object_id.specs.declared.node.NodeId.{NodeId}
use Rattle.object_id.specs.declared.oid.Kind.{Kind}
use Rattle.object_id.specs.declared.policy.Policy.{Policy}
use Rattle.object_id.specs.declared.policy.Policy.TheVariants.{Copies, Coded}
use Rattle.object_id.specs.declared.oid.Kind.TheVariants.{Block, Inode}
use Rattle.object_id.specs.Oid.{kind_of, vid_of}
use Rattle.object_id.specs.Policy.{IsPolicy, wanted_of}
use Rattle.epoch_log.specs.Appending.{IsLog}
use Rattle.epoch_log.specs.Members.{is_member}
use Rattle.epoch_log.specs.Epochs.{epoch_of, members_in, settled_of, has_recovered}
use Rattle.epoch_log.proofs.EpochLemmas.{settled_of-begun}
use Rattle.cluster_script.specs.declared.statement.Statement.{Statement}
use Rattle.object_list.specs.Gathered.{has_node}
use Rattle.vdi_directory.specs.declared.header.Header.{Header}
use Rattle.vdi_directory.specs.Decisions.{log_effects}
use Rattle.vdi_directory.specs.Effects.{header_of}
use Rattle.vdi_directory.proofs.ValidLemmas.{header-valid}
use Rattle.peer_proto.specs.Work.{policy_of}
use Rattle.peer_service.specs.State.{Peer}
use Rattle.gateway.specs.declared.message.Message.{Message}
use Rattle.recovery.specs.State.{Recovery, is_listed}
use Rattle.recovery.proofs.TakenParts.{need-some}
use Rattle.sheep_node.specs.Changes.{attempt_in}
use Rattle.sheep_world.specs.Began.{Began}
use Rattle.sheep_world.specs.World.{Host}
use Rattle.sheep_world.proofs.ValidNodes.{log_reservable}
use Rattle.sheep_world.specs.RunsWithAsks.{Move}
use Rattle.overlap_law.specs.Attempts.{AttemptRecord, Flying, object_of}
use Rattle.overlap_law.specs.Words.{is_served, is_made, is_doomed}
use Rattle.overlap_law.specs.Reached.{has_finished}
use Rattle.overlap_law.specs.Holders.{is_object_among}
use Rattle.overlap_law.specs.Past.{MomentWithPast, FinishedList, run_with_past}
use Rattle.overlap_law.specs.PastWords.{finishes}
use Rattle.overlap_law.specs.Facts.{is_list_of, own_at, is_in_list}
use Rattle.overlap_law.specs.Each.{row_covers, has_reached, has_row_at, policy_in}
use Rattle.overlap_law.specs.Lists.{ListsAreComplete}
use Rattle.overlap_law.specs.Rows.{IsMadeBy}
use Rattle.overlap_law.specs.HeldLevels.{level_of}
use Rattle.overlap_law.specs.MomentChanges as moments
use Rattle.overlap_law.specs.MomentChanges.{MomentChange, MomentTrail, RunsAreInRange}
use Rattle.overlap_law.proofs.BeyondInMoments.{come_leaves, doomed_later, recovers_own}
use Rattle.overlap_law.proofs.FateLemmas.{made-not_doomed}
use Rattle.overlap_law.proofs.FinishedInMoments.{TermsHold, kept_terms, recoveries_go}
use Rattle.overlap_law.proofs.HeldLevels.{HasMade, lives_by, members_came}
use Rattle.overlap_law.proofs.HolderLemmas.{target-member}
use Rattle.overlap_law.proofs.HostsInMoments.{none_there}
use Rattle.overlap_law.proofs.KeptChanges.{unmade_within}
use Rattle.overlap_law.proofs.ListedObjects.{gives-listed}
use Rattle.overlap_law.proofs.ListsGoOn.{ListGoes, StaysListed, lists_go}
use Rattle.overlap_law.proofs.NewAttempts.{IsOpened, WasAttempt, come_from}
use Rattle.overlap_law.proofs.NoRecoveredDue.{began-with_past}
use Rattle.overlap_law.proofs.NotedLists.{row_among}
use Rattle.overlap_law.proofs.NotedOnce.{none_noted}
use Rattle.overlap_law.proofs.NotedRows.{passed, listed_with, own_is, notes}
use Rattle.overlap_law.proofs.OverlapLemmas.{settled-stands}
use Rattle.overlap_law.proofs.PeersInMoments.{PeerChange, PeerStays, PeerSteps, PeerIsNew, peers_change}
use Rattle.overlap_law.proofs.ReadInMoments.{are_present, epoch_within, recovery_own}
use Rattle.overlap_law.proofs.RecoveredInMoments.{node_of, RecoveryGoes, GoesFrom, finished_by_log}
use Rattle.overlap_law.proofs.RecoveryMoves.{HasMoved, moves, stays_noted}
use Rattle.overlap_law.proofs.RunsByChanges.{on_the_way}
use Rattle.overlap_law.proofs.StayingRows.{RowsHold, kept_rows}
use Rattle.overlap_law.proofs.TermsInRuns.{stayed-on_the_way}
use Rattle.overlap_law.proofs.UnpassedLevels.{kept_log}
use Rattle.overlap_law.proofs.WholeLists.{own, lists_whole-on_the_way}

-- ---- policies

-- some target is wanted
pub wanted_some : (policy : Policy) (kind : Kind) → IsPolicy policy → 1 ≤ wanted_of policy kind
wanted_some (Copies copies) Block is = is.0
wanted_some (Copies copies) Inode is = is.0
wanted_some (Coded d p) Block is = let some = need-some (Coded d p) Block is in omega (arith, some)
wanted_some (Coded d p) Inode is = omega arith

-- the policy of an object of the log is one
pub policy_valid : (log : List Entry) → IsLog log → (oid : ℕ) (policy : Policy) → policy_in (log_effects log) oid ≡ Some policy
    → IsPolicy policy
policy_valid log is_log oid policy is = by_header (header_of (log_effects log) (vid_of oid)) refl is
  where
    by_header : (o : Option Header) → header_of (log_effects log) (vid_of oid) ≡ o
        → option_map (λ (spec : VdiSpec). spec.policy) (option_map (λ (header : Header). header.spec) o) ≡ Some policy → IsPolicy policy
    by_header None none is = absurd (cc (is))
    by_header (Some header) there is =
        subst IsPolicy (same_Some header.spec.policy policy is)
        (header-valid log (log_reservable log is_log) (vid_of oid) header there).spec.policy

-- messages that fly make nothing
none_fly : (messages : List Message) → list_all is_served (map (λ (message : Message). Flying) messages) ≡ true
    → map (λ (message : Message). message.node) messages ≡ []
none_fly [] made = refl
none_fly (message ∷ messages) made = absurd (cc (made))

-- ---- a change

module _ (script : List Statement) (range : RunsAreInRange script) (events : List Move) (start before after : MomentWithPast)
    (is : run_with_past script events ≡ Some start) (trail : MomentTrail script start before)
    (change : MomentChange script start before after)
    (good : ℕ → Bool) (has : HasMade good after)
    (complete : ListsAreComplete good before.past.listed before.world.hosts before.past.attempts) where
  began : Began script start.world
  began = began-with_past script events start is

  later_trail : MomentTrail script start after
  later_trail = moments.Then trail change

  terms : TermsHold before
  terms = on_the_way script TermsHold (kept_terms script range) events start before is trail

  rows : RowsHold before
  rows = on_the_way script RowsHold (kept_rows script range) events start before is trail

  is_log : IsLog after.world.log
  is_log = on_the_way script (λ (m : MomentWithPast). IsLog m.world.log) (kept_log script range) events start after is later_trail

  module _ (n : ℕ) (now : Host) (at : tree.get after.world.hosts n ≡ Some now) (oid level : ℕ) (listed : is_listed now.node.recovery ≡ true)
      (good_so : good oid ≡ true) (below : level < now.node.recovery.epoch) (made : IsMadeBy after.past.attempts oid level) where
    abbrev epoch : ℕ
    epoch = now.node.recovery.epoch

    policy_so : policy_in (log_effects after.world.log) (object_of made.attempt) ≡ Some (policy_of made.attempt.work)
    policy_so = has.rows.shaped.shape.policy made.place made.attempt made.there

    valid : IsPolicy (policy_of made.attempt.work)
    valid = policy_valid after.world.log is_log (object_of made.attempt) (policy_of made.attempt.work) policy_so

    later : 1 < now.node.recovery.epoch
    later =
        let reserved = has.rows.shaped.known.reserved made.place made.attempt made.there in
        let known = has.rows.shaped.known.before made.place made.attempt made.there in
        let most = made.before in
        omega (arith, reserved, known, most, below)

    -- an attempt that opens isn't made
    not_opened : IsOpened script start after made.attempt → ⊥
    not_opened o =
        let none : made.attempt.targets ≡ []
        = sym (ap (λ (a : AttemptRecord). a.targets) o.opened)
        ∙ none_fly (attempt_in o.asked o.lined.node).messages
        (ap (λ (a : AttemptRecord). list_all is_served a.fates) o.opened ∙ made.made) in
        let long : length made.attempt.targets ≡ 0 = ap (λ (nodes : List NodeId). length nodes) none in
        let wanted : length made.attempt.targets ≡ wanted_of (policy_of made.attempt.work) (kind_of (object_of made.attempt))
        = has.rows.shaped.shape.wanted made.place made.attempt made.there in
        let some : 1 ≤ wanted_of (policy_of made.attempt.work) (kind_of (object_of made.attempt))
        = wanted_some (policy_of made.attempt.work) (kind_of (object_of made.attempt)) valid in
        omega (arith, long, wanted, some)

    -- ---- a list that was finished

    module _ (was : Host) (there : tree.get before.world.hosts n ≡ Some was) (was_listed : is_listed was.node.recovery ≡ true)
        (same_epoch : now.node.recovery.epoch ≡ was.node.recovery.epoch) (stays : StaysListed was.node.recovery now.node.recovery) where
      within : was.node.recovery.epoch ≤ epoch_of before.world.log
      within =
          let sound = terms.sound.each n was there in
          let most = epoch_within before.world.log n was.node.me was.node.peer sound.read in
          let entered = sound.sound.recovers.entered in
          omega (arith, most, entered)

      came : (other : NodeId) → is_member other.0 (members_in before.world.log was.node.recovery.epoch) ≡ true
          → has_reached before.world.hosts was.node.recovery.epoch other ≡ true
      came =
          members_came before.world.log before.world.hosts (are_present before terms.sound) terms.answers.answered n was there was_listed
          (let more = later in omega (arith, more, same_epoch))

      -- it was made then
      was_made : (w : WasAttempt before made.place made.attempt) → (b : Bool) → is_made w.was ≡ b → b ≡ true
      was_made w true so = refl
      was_made w false unmade =
          let epochs : w.was.epoch ≡ made.attempt.epoch = ap (λ (a : AttemptRecord). a.epoch) w.same in
          let most = made.before in
          let (target, among, not_beyond) = unmade_within before.world.hosts w.was.epoch w.was.targets w.was.fates
          (rows.tied.fates.whole made.place w.was w.at) (stands (is_doomed before.world.hosts w.was) refl) unmade in
          absurd (come_leaves before terms was.node.recovery.epoch w.was.epoch target came within
          (omega (arith, epochs, most, below, same_epoch))
          (target-member before.world.log w.was.epoch (object_of w.was) (policy_of w.was.work) target
          (ap (has_node target) (sym (rows.shaped.shape.targets made.place w.was w.at)) ∙ among)) not_beyond)
        where
          stands : (b : Bool) → is_doomed before.world.hosts w.was ≡ b → b ≡ false
          stands true doomed =
              let then = doomed_later script range start before after began change terms rows.shaped rows.tied made.place w.was made.attempt
              w.at
              made.there doomed in
              let stands_now = made-not_doomed after.world.hosts made.attempt made.made in
              absurd (cc (then, stands_now))
          stands false so = refl

      was_there : WasAttempt before made.place made.attempt → is_in_list before.past.listed n was.node.recovery oid ≡ true
      was_there w =
          complete.each n was there oid level was_listed good_so (omega (arith, below, same_epoch)) (record {
            place = made.place;
            attempt = w.was;
            there = w.at;
            object = ap (λ (a : AttemptRecord). object_of a) w.same ∙ made.object;
            made = (let so = was_made w (is_made w.was) refl in so);
            before = (let epochs : w.was.epoch ≡ made.attempt.epoch = ap (λ (a : AttemptRecord). a.epoch) w.same in
                let most = made.before in
                omega (arith, epochs, most));
          })

      still : is_in_list before.past.listed n was.node.recovery oid ≡ true → is_in_list after.past.listed n now.node.recovery oid ≡ true
      still was_in =
          list_any-append (λ (other : ℕ). other == oid) now.node.recovery.lists.objects (own_at after.past.listed n now.node.recovery.epoch)
          ∙ ⊎_elim
          (λ (named : is_object_among oid was.node.recovery.lists.objects ≡ true).
          or_left (is_object_among oid now.node.recovery.lists.objects)
          (is_object_among oid (own_at after.past.listed n now.node.recovery.epoch)) (stays.objects oid named))
          (λ (noted : is_object_among oid (own_at before.past.listed n was.node.recovery.epoch) ≡ true).
          or_right (is_object_among oid now.node.recovery.lists.objects)
          (is_object_among oid (own_at after.past.listed n now.node.recovery.epoch))
          (ap (λ (k : ℕ). is_object_among oid (own_at after.past.listed n k)) same_epoch
          ∙ stays_noted script range start began terms.sound has.terms.sound change n was now there at was.node.recovery.epoch oid noted))
          (or_cases (is_object_among oid was.node.recovery.lists.objects)
          (is_object_among oid (own_at before.past.listed n was.node.recovery.epoch))
          (sym (list_any-append (λ (other : ℕ). other == oid) was.node.recovery.lists.objects
          (own_at before.past.listed n was.node.recovery.epoch)) ∙ was_in))

      kept_list : is_in_list after.past.listed n now.node.recovery oid ≡ true
      kept_list = ⊎_elim
          (λ (w : WasAttempt before made.place made.attempt). still (was_there w))
          (λ (o : IsOpened script start after made.attempt). absurd (not_opened o))
          (come_from script range start began change made.place made.attempt made.there)

    -- ---- a list that is finished now

    module _ (was : Host) (moved : HasMoved start after n was now)
        (ahead : (was.node.recovery.epoch < now.node.recovery.epoch)
        ⊎ ((now.node.recovery.epoch ≡ was.node.recovery.epoch) × (is_listed was.node.recovery ≡ false)))
        (unsettled : has_recovered start.world.log now.node.recovery.epoch n ≡ false) where
      own_epoch : now.node.recovery.epoch ≡ now.node.peer.epoch
      own_epoch =
          recovers_own after.world.log n now (has.terms.sound.each n now at) (has.terms.stood.stood n now at moved.up) later

      within_now : now.node.recovery.epoch ≤ epoch_of after.world.log
      within_now =
          let same = own_epoch in
          let most = epoch_within after.world.log n now.node.me now.node.peer (has.terms.sound.each n now at).read in
          omega (arith, same, most)

      -- the settled epoch is below: else the node has recovered there
      settled : settled_of after.world.log < now.node.recovery.epoch
      settled = ⊎_elim
          (λ (low : settled_of after.world.log < now.node.recovery.epoch). low)
          (λ (high : now.node.recovery.epoch ≤ settled_of after.world.log). absurd (too_high high))
          (cases_lt (settled_of after.world.log) now.node.recovery.epoch)
        where
          too_high : now.node.recovery.epoch ≤ settled_of after.world.log → ⊥
          too_high high =
              let own = own_epoch in
              let more = later in
              let begun : settled_of after.world.log ≤ epoch_of after.world.log = (settled_of-begun after.world.log).1 in
              let member : is_member n (members_in after.world.log (settled_of after.world.log)) ≡ true
              = (stayed-on_the_way script range events start after is later_trail).each n now at moved.up now.node.recovery.epoch
              (settled_of after.world.log) (recovery_own after.world.log n now (has.terms.sound.each n now at) later)
              (omega (arith, own)) high begun in
              let stands : has_recovered after.world.log (settled_of after.world.log) n ≡ true
              = settled-stands after.world.log n (omega (arith, more, high)) member in
              let reached : settled_of after.world.log ≤ now.node.peer.epoch
              = has.terms.came.reached n (settled_of after.world.log) now
              (finished_by_log after.world.hosts after.world.log n (settled_of after.world.log) stands) at in
              let same : settled_of after.world.log ≡ now.node.recovery.epoch = omega (arith, high, reached, own) in
              let old : has_recovered start.world.log now.node.recovery.epoch n ≡ true
              = moved.log_so now.node.recovery.epoch (ap (λ (k : ℕ). has_recovered after.world.log k n) (sym same) ∙ stands) in
              cc (old, unsettled)

      -- it is noted with the rows that the node has
      abbrev list : FinishedList
      list = record { node = now.node.me; epoch = now.node.recovery.epoch; own = tree.keys now.node.peer.rows }

      none_before : find (is_list_of n now.node.recovery.epoch) start.past.listed ≡ None
      none_before = none_noted script range events start is n was moved.at_start now.node.recovery.epoch ahead

      is_new : finishes was.node.recovery now.node.recovery ≡ true
      is_new = ⊎_elim
          (λ (rises : was.node.recovery.epoch < now.node.recovery.epoch).
          let apart : (was.node.recovery.epoch == now.node.recovery.epoch) ≡ false
          = ne_eqb was.node.recovery.epoch now.node.recovery.epoch (λ same. omega (arith, same, rises)) in
          (λ i. listed i && not (is_listed was.node.recovery && apart i)) ∙ and_false (is_listed was.node.recovery))
          (λ (own : (now.node.recovery.epoch ≡ was.node.recovery.epoch) × (is_listed was.node.recovery ≡ false)).
          (λ i. listed i && not (own.1 i && was.node.recovery.epoch == now.node.recovery.epoch)))
          ahead
        where
          and_false : (b : Bool) → (true && not (b && false)) ≡ true
          and_false true = refl
          and_false false = refl

      own_rows : own_at after.past.listed n now.node.recovery.epoch ≡ tree.keys now.node.peer.rows
      own_rows =
          let number : now.node.me.0 ≡ n = (has.terms.sound.each n now at).read.own in
          let passes : is_list_of n now.node.recovery.epoch
          (record { node = now.node.me; epoch = now.node.recovery.epoch; own = tree.keys now.node.peer.rows }) ≡ true
          = (λ i. eq-eqb now.node.me.0 n number i && now.node.recovery.epoch == now.node.recovery.epoch)
          ∙ eq-eqb now.node.recovery.epoch now.node.recovery.epoch refl in
          ap (λ (all : List FinishedList). own_at all n now.node.recovery.epoch) (notes script change)
          ∙ own_is start.world after.world (λ q host got. (has.terms.sound.each q host got).read.own) n now.node.recovery.epoch now at
          start.past.listed
          ∙ ap (λ (o : Option FinishedList). option_map_or (λ (l : FinishedList). l.own)
          (option_or o (passed (is_list_of n now.node.recovery.epoch)
          (listed_with (tree.get start.world.hosts n) now.node.me now.node.recovery now.node.peer.rows))) []) none_before
          ∙ ap (λ (o : Option Host). option_map_or (λ (l : FinishedList). l.own)
          (passed (is_list_of n now.node.recovery.epoch) (listed_with o now.node.me now.node.recovery now.node.peer.rows)) [])
          moved.at_start
          ∙ ap (λ (b : Bool). option_map_or (λ (l : FinishedList). l.own)
          (passed (is_list_of n now.node.recovery.epoch)
          (cond b (Some (record { node = now.node.me; epoch = now.node.recovery.epoch; own = tree.keys now.node.peer.rows })) None)) [])
          is_new
          ∙ ap (λ (b : Bool). option_map_or (λ (l : FinishedList). l.own)
          (cond b (Some (record { node = now.node.me; epoch = now.node.recovery.epoch; own = tree.keys now.node.peer.rows })) None) [])
          passes

      at_hand : (is_object_among (object_of made.attempt) now.node.recovery.lists.objects ≡ true)
          ⊎ (has_row_at now.node.peer.epoch now.node.peer.rows (object_of made.attempt) (level_of after.world.log made.attempt) ≡ true)
      at_hand =
          (gives-listed good after has (lists_whole-on_the_way script range events start after is later_trail
          (lives_by after.world.log))).each n now at moved.up made.place made.attempt made.there (policy_of made.attempt.work)
          (own script range events start after is later_trail n now at) listed settled within_now (ap good made.object ∙ good_so) policy_so
          (need-some (policy_of made.attempt.work) (kind_of (object_of made.attempt)) valid) made.made
          (let most = made.before in omega (arith, most, below))

      is_named : is_object_among (object_of made.attempt) now.node.recovery.lists.objects ≡ true
          → is_object_among oid now.node.recovery.lists.objects ≡ true
      is_named named = ap (λ (o : ℕ). is_object_among o now.node.recovery.lists.objects) (sym made.object) ∙ named

      listed_or_row : (is_object_among oid now.node.recovery.lists.objects ≡ true)
          ⊎ ((row_level : ℕ) × (has_row_at now.node.peer.epoch now.node.peer.rows oid row_level ≡ true))
      listed_or_row = ⊎_elim
          (λ (named : is_object_among (object_of made.attempt) now.node.recovery.lists.objects ≡ true). inl (is_named named))
          (λ row. inr (
            level_of after.world.log made.attempt,
            ap (λ (o : ℕ). has_row_at now.node.peer.epoch now.node.peer.rows o (level_of after.world.log made.attempt)) (sym made.object)
                ∙ row,
          ))
          at_hand

      either : (is_object_among oid now.node.recovery.lists.objects ≡ true) ⊎ (is_object_among oid (tree.keys now.node.peer.rows) ≡ true)
      either = ⊎_elim
          (λ (named : is_object_among (object_of made.attempt) now.node.recovery.lists.objects ≡ true). inl (is_named named))
          (λ row. inr (ap (λ (o : ℕ). is_object_among o (tree.keys now.node.peer.rows)) (sym made.object)
          ∙ row_among now.node.peer.rows (object_of made.attempt) (row_covers now.node.peer.epoch (level_of after.world.log made.attempt))
          row)) at_hand

      new_list : is_in_list after.past.listed n now.node.recovery oid ≡ true
      new_list =
          list_any-append (λ (other : ℕ). other == oid) now.node.recovery.lists.objects (own_at after.past.listed n now.node.recovery.epoch)
          ∙ ⊎_elim
          (λ (named : is_object_among oid now.node.recovery.lists.objects ≡ true).
          or_left (is_object_among oid now.node.recovery.lists.objects)
          (is_object_among oid (own_at after.past.listed n now.node.recovery.epoch)) named)
          (λ (key : is_object_among oid (tree.keys now.node.peer.rows) ≡ true).
          or_right (is_object_among oid now.node.recovery.lists.objects)
          (is_object_among oid (own_at after.past.listed n now.node.recovery.epoch)) (ap (is_object_among oid) own_rows ∙ key))
          either

    -- ---- each list

    terms_at_start : TermsHold start
    terms_at_start = on_the_way script TermsHold (kept_terms script range) events start start is moments.Still

    -- a list was finished in its epoch before, or is finished now
    module _ {P : Type 0}
        (kept_as : (was : Host) → tree.get before.world.hosts n ≡ Some was → is_listed was.node.recovery ≡ true
        → now.node.recovery.epoch ≡ was.node.recovery.epoch → StaysListed was.node.recovery now.node.recovery → P)
        (new_as : (was : Host) → HasMoved start after n was now
        → (was.node.recovery.epoch < now.node.recovery.epoch)
        ⊎ ((now.node.recovery.epoch ≡ was.node.recovery.epoch) × (is_listed was.node.recovery ≡ false))
        → has_recovered start.world.log now.node.recovery.epoch n ≡ false → P) where
      by_host : (was : Host) → tree.get before.world.hosts n ≡ Some was → P
      by_host was there =
          let (same_now, at_now, goes) = lists_go script range start began change n was there in
          let one : same_now ≡ now = same_Some same_now now (sym at_now ∙ at) in
          by_goes (subst (λ (h : Host). ListGoes was.node.recovery h.node.recovery) one goes)
          (moves script range start began change n was now there at)
        where
          by_moved : (ahead : (was.node.recovery.epoch < now.node.recovery.epoch)
              ⊎ ((now.node.recovery.epoch ≡ was.node.recovery.epoch) × (is_listed was.node.recovery ≡ false)))
              → HasMoved start after n was now → P
          by_moved ahead moved = new_as was moved ahead (by_test (has_recovered start.world.log now.node.recovery.epoch n) refl)
            where
              -- who had recovered in its epoch had the list finished
              had_list : has_finished start.world.hosts start.world.log now.node.recovery.epoch (node_of n) ≡ true → was.is_lost ≡ false
                  → now.node.recovery.epoch ≡ was.node.recovery.epoch
                  → (was.node.recovery.epoch < now.node.recovery.epoch)
                  ⊎ ((now.node.recovery.epoch ≡ was.node.recovery.epoch) × (is_listed was.node.recovery ≡ false)) → ⊥
              had_list finished up same (inl rises) = omega (arith, same, rises)
              had_list finished up same (inr own_so) =
                  let own_finished : has_finished start.world.hosts start.world.log was.node.recovery.epoch (node_of n) ≡ true
                  = ap (λ (k : ℕ). has_finished start.world.hosts start.world.log k (node_of n)) (sym same) ∙ finished in
                  let put = terms_at_start.came.put n was moved.at_start up own_finished in
                  let done = (terms_at_start.sound.each n was moved.at_start).sound.lists.done put
                  (terms_at_start.came.later n was.node.recovery.epoch own_finished) in
                  let yes = done.0 in
                  let no = own_so.1 in
                  cc (yes, no)

              -- and a recovery that begins is of an epoch to which the node hadn't come
              had_not : has_recovered start.world.log now.node.recovery.epoch n ≡ true → ⊥
              had_not recovered =
                  let finished : has_finished start.world.hosts start.world.log now.node.recovery.epoch (node_of n) ≡ true
                  = finished_by_log start.world.hosts start.world.log n now.node.recovery.epoch recovered in
                  let reached = terms_at_start.came.reached n now.node.recovery.epoch was finished moved.at_start in
                  ⊎_elim
                  (λ (g : GoesFrom before n now).
                  let same : g.host ≡ was = same_Some g.host was (sym g.there ∙ there) in
                  let epochs : g.host.node.peer.epoch ≡ was.node.peer.epoch = ap (λ (h : Host). h.node.peer.epoch) same in
                  ⊎_elim
                  (λ (on : (g.host.is_lost ≡ false) × RecoveryGoes g.host.node now.node). ⊎_elim
                  (λ (goes : (now.node.recovery.epoch ≡ g.host.node.recovery.epoch)
                  × (g.host.node.recovered ≡ true → now.node.recovered ≡ true)). had_list finished
                  (ap (λ (h : Host). h.is_lost) (sym same) ∙ on.0)
                  (goes.0 ∙ ap (λ (h : Host). h.node.recovery.epoch) same) ahead)
                  (λ (beyond : g.host.node.peer.epoch < now.node.recovery.epoch). omega (arith, reached, epochs, beyond))
                  on.1)
                  (λ (beyond : g.host.node.peer.epoch < now.node.recovery.epoch). omega (arith, reached, epochs, beyond))
                  g.goes)
                  (λ (none : is_some (tree.get before.world.hosts n) ≡ false). none_there (tree.get before.world.hosts n) was none there)
                  (recoveries_go script range start began change n now at moved.up)

              by_test : (b : Bool) → has_recovered start.world.log now.node.recovery.epoch n ≡ b → b ≡ false
              by_test true recovered = absurd (had_not recovered)
              by_test false none = refl

          by_goes : ListGoes was.node.recovery now.node.recovery → (now.node.recovery ≡ was.node.recovery) ⊎ HasMoved start after n was now
              → P
          by_goes (inl rises) (inl same) =
              let epochs = ap (λ (r : Recovery). r.epoch) same in absurd (omega (arith, rises, epochs))
          by_goes (inl rises) (inr moved) = by_moved (inl rises) moved
          by_goes (inr goes) moving = by_listed (is_listed was.node.recovery) refl moving
            where
              by_listed : (b : Bool) → is_listed was.node.recovery ≡ b
                  → (now.node.recovery ≡ was.node.recovery) ⊎ HasMoved start after n was now
                  → P
              by_listed true was_listed moving = kept_as was there was_listed goes.0 (goes.1 was_listed)
              by_listed false unlisted (inl same) =
                  let no : is_listed now.node.recovery ≡ false = ap (λ (r : Recovery). is_listed r) same ∙ unlisted in
                  absurd (cc (no, listed))
              by_listed false unlisted (inr moved) = by_moved (inr (goes.0, unlisted)) moved

      either_way : P
      either_way = by_peer (peers_change script range start began change n now at)
        where
          by_peer : PeerChange before n now → P
          by_peer (PeerStays was there same) = by_host was there
          by_peer (PeerSteps was there step) = by_host was there
          by_peer (PeerIsNew tries none is_first) =
              let entered = (has.terms.sound.each n now at).sound.recovers.entered in
              let first : 1 ≡ now.node.peer.epoch = ap (λ (peer : Peer). peer.epoch) is_first in
              let more = later in
              absurd (omega (arith, entered, first, more))

    stays_in : is_in_list after.past.listed n now.node.recovery oid ≡ true
    stays_in = either_way kept_list new_list

    -- a list that is finished now names it, or the node has a row of it
    named_or_there : ((was : Host) → tree.get before.world.hosts n ≡ Some was → is_listed was.node.recovery ≡ true
        → was.node.recovery.epoch ≢ now.node.recovery.epoch)
        → (is_object_among oid now.node.recovery.lists.objects ≡ true)
        ⊎ ((row_level : ℕ) × (has_row_at now.node.peer.epoch now.node.peer.rows oid row_level ≡ true))
    named_or_there is_new =
        either_way (λ was there was_listed same stays. absurd (is_new was there was_listed (sym same)))
        (λ was moved ahead unsettled. listed_or_row was moved ahead unsettled)

  pub stay_complete : ListsAreComplete good after.past.listed after.world.hosts after.past.attempts
  stay_complete = record { each = λ n now at oid level listed good_so below made. stays_in n now at oid level listed good_so below made }

  -- a list that this change finishes names what was made before its epoch, or its node has a row of it
  pub new_lists_name : (n : ℕ) (now : Host) → tree.get after.world.hosts n ≡ Some now → is_listed now.node.recovery ≡ true
      → ((was : Host) → tree.get before.world.hosts n ≡ Some was → is_listed was.node.recovery ≡ true
      → was.node.recovery.epoch ≢ now.node.recovery.epoch)
      → (oid level : ℕ) → good oid ≡ true → level < now.node.recovery.epoch → IsMadeBy after.past.attempts oid level
      → (is_object_among oid now.node.recovery.lists.objects ≡ true)
      ⊎ ((row_level : ℕ) × (has_row_at now.node.peer.epoch now.node.peer.rows oid row_level ≡ true))
  new_lists_name n now at listed is_new oid level good_so below made = named_or_there n now at oid level listed good_so below made is_new
