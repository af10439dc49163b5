-- What a recovery finds has what it owes: each row of the level has what it owes up to there, none has passed what was made, and nothing of
-- the recovery's own epoch was served of what is pending.
use Rattle.std.proofs.Common.{◌≡◌, ◌⊎◌, inl, inr, ⊎_elim, arith, ℕ, zero, suc, ◌≤◌, ◌<◌, ◌==◌, nat_le, not, Bool, true, false, List, []}
use Rattle.std.proofs.Common.{◌∷◌}
use Rattle.std.proofs.Common.{slice_get, Option, Some, unwrap_or, refl, sym, ap, subst, ◌∙◌}
use Rattle.std.specs.List.{list_any}
use Rattle.std.specs.Option.{option_map_or}
use Rattle.std.specs.FinMap as tree
use Rattle.std.proofs.lemmas.Bool.{and_parts, and_from, cases_lt, eqb-true, le-leb, leb-true, or_cases}
use Rattle.std.proofs.lemmas.Option.{same_Some}
use Rattle.object_id.specs.declared.entry.Entry.{Entry}
use Rattle.object_id.specs.declared.limits.TheConstants.{TARGETS_MAX}
use Rattle.object_id.specs.declared.node.NodeId.{NodeId}
use Rattle.object_id.specs.declared.oid.Kind.{Kind}
use Rattle.object_id.specs.declared.policy.Policy.{Policy}
use Rattle.object_id.specs.Oid.{kind_of}
use Rattle.object_id.specs.Policy.{IsPolicy}
use Rattle.object_store.specs.declared.row.RowCopy.{RowCopy}
use Rattle.object_store.specs.Rows.{is_open, reaches, holds}
use Rattle.object_store.specs.Store.{SeenRow, rows_of, row_bytes, copy_of}
use Rattle.object_store.proofs.CopyLaws.{row_bytes-copy_of}
use Rattle.gf256.specs.Part.{index_among}
use Rattle.gateway.proofs.AskingLemmas.{wanted_most}
use Rattle.cluster_script.specs.declared.statement.Statement.{Statement}
use Rattle.peer_proto.specs.Work.{policy_of}
use Rattle.vdi_directory.specs.Decisions.{log_effects}
use Rattle.recovery.specs.Level.{are_enough, own_index, own_part, rows_found}
use Rattle.recovery.specs.Shown.{live_policy, is_pending_object}
use Rattle.recovery.specs.State.{Search, Recovery, RecoveryState, is_listed}
use Rattle.recovery.proofs.FoundLemmas.{live_known}
use Rattle.recovery.proofs.TakenParts.{Each}
use Rattle.sheep_node.specs.RecoveryView.{shown_node}
use Rattle.sheep_world.specs.World.{Host}
use Rattle.sheep_world.specs.Began.{Began}
use Rattle.sheep_world.proofs.LogFrontLaws.{all_read}
use Rattle.sheep_world.specs.RunsWithAsks.{Move}
use Rattle.overlap_law.specs.Attempts.{AttemptRecord, object_of, attempts_on}
use Rattle.overlap_law.specs.Each.{end_of_row, row_covers, has_row_at, has_reached, policy_in}
use Rattle.overlap_law.specs.Holders.{targets_by}
use Rattle.overlap_law.specs.MomentChanges.{RunsAreInRange, Still}
use Rattle.overlap_law.specs.Past.{MomentWithPast, run_with_past}
use Rattle.overlap_law.specs.Since.{reading_of, owes_attempt, IsSince}
use Rattle.overlap_law.specs.Units.{covers_unit, row_bytes_at}
use Rattle.overlap_law.specs.Words.{has_served, is_doomed}
use Rattle.overlap_law.proofs.BegunInMoments.{AllCame, waits_for_none}
use Rattle.overlap_law.proofs.CarriedChanges.{targets_few}
use Rattle.overlap_law.proofs.CopiesAtSteps.{policy_later}
use Rattle.overlap_law.proofs.EpochsInRuns.{settled-in_run}
use Rattle.overlap_law.proofs.FoundCopies.{found-rows}
use Rattle.overlap_law.proofs.FoundOwed.{IsFoundRow, reached_beyond, found_owes}
use Rattle.overlap_law.proofs.FoundReadings.{found_reads, policy_is}
use Rattle.overlap_law.proofs.HeldLevels.{lives_by, holds_made}
use Rattle.overlap_law.proofs.LackedWherePlaced.{pending_lacked-on_the_way}
use Rattle.overlap_law.proofs.NoRecoveredDue.{began-with_past}
use Rattle.overlap_law.proofs.OverlapLemmas.{IsPassed, filter-passed}
use Rattle.overlap_law.proofs.PendingInRuns.{knows_pending}
use Rattle.overlap_law.proofs.PendingOfNodes.{KnowsPending}
use Rattle.overlap_law.proofs.PlacedInMoments.{placed-on_the_way}
use Rattle.overlap_law.proofs.ReadInMoments.{IsSoundHost, epoch_within, recovery_members}
use Rattle.overlap_law.proofs.RowsInTurn.{end_shut, within_at}
use Rattle.overlap_law.proofs.RowsOfRecoveries.{index_small}
use Rattle.overlap_law.proofs.RunsByChanges.{run-kept}
use Rattle.overlap_law.proofs.SinceAtEntries.{owed_parts}
use Rattle.overlap_law.proofs.TrueRows.{TruthHolds, truth-on_the_way, reaching}
use Rattle.overlap_law.proofs.WorksOfAttempts.{AreOfWorks, kept_works}
use Rattle.overlap_law.proofs.SoundSearches.{FoundNeeds, IsSoundSearch}

-- ---- lists

-- what holds of each of some rows gives another thing of each
each-mapped : (P R : RowCopy → Type 0) → ((row : RowCopy) → P row → R row) → (rows : List RowCopy) → Each P rows → Each R rows
each-mapped P R so [] all = tt
each-mapped P R so (row ∷ rows) all = (so row all.0, each-mapped P R so rows all.1)

-- one that passes stands at a place
place_of_any : (test : SeenRow → Bool) (rows : List SeenRow) → list_any test rows ≡ true
    → (i : ℕ) × (row : SeenRow) × (slice_get rows i ≡ Some row) × (test row ≡ true)
place_of_any test [] any = absurd (cc (any))
place_of_any test (first ∷ rows) any = ⊎_elim
    (λ (here : test first ≡ true). (zero, first, refl, here))
    (λ (later : list_any test rows ≡ true). let (i, row, got, passed) = place_of_any test rows later in (suc i, row, got, passed))
    (or_cases (test first) (list_any test rows) any)

-- ---- a node at a moment of a run at which the invariant holds

module _ (script : List Statement) (range : RunsAreInRange script) (events : List Move) (start : MomentWithPast)
    (is : run_with_past script events ≡ Some start) (good : ℕ → Bool) (needs : FoundNeeds good start) (n : ℕ) (host : Host)
    (there : tree.get start.world.hosts n ≡ Some host) (up : host.is_lost ≡ false) where
  began : Began script start.world
  began = began-with_past script events start is

  truth : TruthHolds start
  truth = truth-on_the_way script range events start start is Still

  works : AreOfWorks start
  works = run-kept script AreOfWorks (kept_works script range) events start is

  abbrev attempts : List AttemptRecord
  attempts = start.past.attempts

  abbrev epoch : ℕ
  epoch = host.node.recovery.epoch

  knows : KnowsPending host.node
  knows = knows_pending script range start.world began n host there

  sound : IsSoundHost start.world.log n host
  sound = truth.begins.terms.sound.each n host there

  -- ---- where something is pending

  module _ (oid : ℕ) (pending : is_pending_object oid host.node.peer.pending ≡ true) where
    later : 1 < epoch
    later = ⊎_elim
        (λ (above : 1 < epoch). above)
        (λ (most : epoch ≤ 1).
        let some = knows.some in
        let none : is_pending_object oid host.node.peer.pending ≡ false
        = ap (is_pending_object oid) (knows.first (omega (arith, most, some))).0 in
        absurd (cc (none, pending)))
        (cases_lt 1 epoch)

    own : epoch ≡ host.node.peer.epoch
    own = knows.own later

    listed : (b : Bool) → is_listed host.node.recovery ≡ b → b ≡ true
    listed true so = refl
    listed false so =
        let none : is_pending_object oid host.node.peer.pending ≡ false = ap (is_pending_object oid) (knows.waits so).0 in
        absurd (cc (none, pending))

    came : AllCame start.world.log start.world.hosts epoch
    came = record {
      begun = (let same = own in
          let most = epoch_within start.world.log n host.node.me host.node.peer sound.read in
          omega (arith, same, most));
      each = λ other member.
          truth.begins.terms.answers.answered.each n host there (record { 0 = other })
          (recovery_members start.world.log n host sound (record { 0 = other }) later ∙ member)
          (waits_for_none host.node.recovery.lists.waiting (record { 0 = other })
          (listed (is_listed host.node.recovery) refl));
    }

    -- the node served nothing of it in its own epoch
    none_served_here : good oid ≡ true → (place : ℕ) (attempt : AttemptRecord) → slice_get attempts place ≡ Some attempt
        → object_of attempt ≡ oid → has_served (record { 0 = n }) attempt ≡ true → attempt.epoch ≡ host.node.peer.epoch → ⊥
    none_served_here is_good place attempt got object served same = ⊎_elim
        (λ (held : has_row_at host.node.peer.epoch host.node.peer.rows (object_of attempt) attempt.epoch ≡ true).
        let at_oid : has_row_at host.node.peer.epoch host.node.peer.rows oid host.node.peer.epoch ≡ true
        = subst (λ (level : ℕ). has_row_at host.node.peer.epoch host.node.peer.rows oid level ≡ true) same
        (subst (λ (q : ℕ). has_row_at host.node.peer.epoch host.node.peer.rows q attempt.epoch ≡ true) object held) in
        let (i, row, at, covers) = place_of_any (row_covers host.node.peer.epoch host.node.peer.epoch)
        (rows_of host.node.peer.rows oid) at_oid in
        let lacked = (pending_lacked-on_the_way script range events start start is Still good).lacked n host there up oid pending is_good in
        let shut : is_open row ≡ false = lacked.each i row at in
        let turns = needs.has.rows.turns n host there oid in
        let ended = (within_at host.node.peer.epoch (rows_of host.node.peer.rows oid) i row at turns).1 shut in
        let high = leb-true host.node.peer.epoch (end_of_row host.node.peer.epoch row.to)
        (and_parts (nat_le row.from.0 host.node.peer.epoch)
        (nat_le host.node.peer.epoch (end_of_row host.node.peer.epoch row.to)) covers).1 in
        let ends = end_shut row.to shut host.node.peer.epoch 0 in
        omega (arith, ended, high, ends))
        (λ (behind : attempt.epoch < host.node.peer.settled).
        let most = (settled-in_run script range events start is).own n host there in
        omega (arith, behind, most, same))
        ((holds_made good start needs.has).stays.each place attempt got n host there
        (ap (lives_by start.world.log) object ∙ ap not (needs.has.alive oid is_good)) served)

  -- ---- what is found

  module _ (recovery : Recovery) (search : Search) (policy : Policy)
      (so : IsSoundSearch script range events start is good needs n host there up search)
      (live_so : live_policy (shown_node host.node) search.oid ≡ Some policy)
      (pending : is_pending_object search.oid host.node.peer.pending ≡ true)
      (enough : are_enough policy (kind_of search.oid)
      (rows_found (record { recovery = recovery; shown = shown_node host.node }) policy search) ≡ true)
      (is_good : good search.oid ≡ true) where
    abbrev state : RecoveryState
    state = record { recovery = recovery; shown = shown_node host.node }

    abbrev oid : ℕ
    oid = search.oid

    abbrev now : ℕ
    now = host.node.peer.epoch

    pub known_found : policy_in (log_effects start.world.log) search.oid ≡ Some policy
    known_found =
        let front = all_read script start.world began n host there in
        ap (λ (log : List Entry). policy_in (log_effects log) search.oid) front.is
        ∙ policy_later host.node.peer.entries front.rest search.oid policy (live_known (shown_node host.node) search.oid policy live_so)

    epochs : epoch ≡ now
    epochs = own oid pending

    -- the node's own row of the level is one
    own_found : (i : ℕ) (row : SeenRow) → slice_get (rows_of host.node.peer.rows oid) i ≡ Some row → holds search.level row ≡ true
        → IsFoundRow start policy oid search.level (copy_of row).index (row_bytes (copy_of row))
    own_found i row got held =
        let parts = and_parts (nat_le row.from.0 search.level) (reaches search.level row.to) held in
        let below : search.level < now = (let same = epochs in let less = so.below in omega (arith, same, less)) in
        let high : nat_le search.level (end_of_row now row.to) ≡ true = reaching search.level now below row.to parts.1 in
        subst (IsFoundRow start policy oid search.level row.index) (sym (row_bytes-copy_of row)) (record {
          m = n;
          end = end_of_row now row.to;
          served_to = end_of_row now row.to;
          low = leb-true search.level (end_of_row now row.to) high;
          serves = λ same. omega (arith, same);
          placed = (placed-on_the_way script range events start start is Still).each n host there oid i row got policy search.level
              known_found
              (and_from (nat_le row.from.0 search.level) (nat_le search.level (end_of_row now row.to)) parts.0 high);
          beyond = reached_beyond start.world.hosts search.level now (record { 0 = n }) below reached_now;
          has = needs.since.each n host there oid i row got policy is_good known_found;
        })
      where
        reached_now : has_reached start.world.hosts now (record { 0 = n }) ≡ true
        reached_now =
            ap (λ (o : Option Host). nat_le now (option_map_or (λ (h : Host). h.node.peer.epoch) o 0)) there
            ∙ le-leb now now (omega arith)

    all_found : Each (λ (row : RowCopy). IsFoundRow start policy oid search.level row.index (row_bytes row))
        (rows_found state policy search)
    all_found =
        found-rows (λ (row : RowCopy). IsFoundRow start policy oid search.level row.index (row_bytes row)) state policy search own_found
        (λ place answer got row told. so.told place answer got row told policy is_good known_found)

    on_object : (j : ℕ) (attempt : AttemptRecord) → slice_get (attempts_on oid attempts) j ≡ Some attempt
        → IsPassed (λ (a : AttemptRecord). object_of a == oid) attempts attempt
    on_object j attempt got = filter-passed (λ (a : AttemptRecord). object_of a == oid) attempts j attempt got

    object_so : (j : ℕ) (attempt : AttemptRecord) → slice_get (attempts_on oid attempts) j ≡ Some attempt → object_of attempt ≡ oid
    object_so j attempt got = eqb-true (object_of attempt) oid (on_object j attempt got).passed

    policy_same : (j : ℕ) (attempt : AttemptRecord) → slice_get (attempts_on oid attempts) j ≡ Some attempt
        → policy_of attempt.work ≡ policy
    policy_same j attempt got =
        same_Some (policy_of attempt.work) policy
        (sym (truth.begins.shaped.shape.policy (on_object j attempt got).place attempt (on_object j attempt got).there)
        ∙ ap (policy_in (log_effects start.world.log)) (object_so j attempt got) ∙ known_found)

    -- an index of one of its targets is a small number
    small : IsPolicy policy → (row : RowCopy) → IsFoundRow start policy oid search.level row.index (row_bytes row) → row.index < TARGETS_MAX
    small valid row found =
        let kind : Kind = kind_of oid in
        let targets : List NodeId = targets_by start.world.log search.level oid policy in
        let below = index_small (record { 0 = found.m }) targets policy kind valid
        (targets_few start.world.log search.level oid policy) in
        let same : unwrap_or (index_among (record { 0 = found.m }) targets policy kind) 0 ≡ row.index
        = ap (λ (o : Option ℕ). unwrap_or o 0) found.placed in
        let most = wanted_most policy kind valid in
        omega (arith, below, same, most)

    owed_before : (attempt : AttemptRecord) (place : ℕ) → slice_get attempts place ≡ Some attempt → object_of attempt ≡ oid
        → owes_attempt (record { 0 = n }) now now attempt ≡ true → attempt.epoch < epoch
    owed_before attempt place got object owed = ⊎_elim
        (λ (earlier : attempt.epoch < now). let same = epochs in omega (arith, same, earlier))
        (λ (served : (has_served (record { 0 = n }) attempt ≡ true) × (attempt.epoch ≤ now)). ⊎_elim
        (λ (less : attempt.epoch < now). let same = epochs in omega (arith, same, less))
        (λ (least : now ≤ attempt.epoch).
        let most = served.1 in
        absurd (none_served_here oid pending is_good place attempt got object served.0 (omega (arith, most, least))))
        (cases_lt attempt.epoch now))
        (owed_parts (record { 0 = n }) now now attempt owed)

    pub found_since : IsSince policy search.oid start.world.hosts start.past.attempts (record { 0 = n }) (own_index policy search state)
        host.node.peer.epoch host.node.peer.epoch (own_part policy search (rows_found state policy search) state)
    found_since = record {
      each = λ j attempt got unit covers owed. by_fate j attempt got unit covers owed (is_doomed start.world.hosts attempt) refl;
    }
      where
        by_fate : (j : ℕ) (attempt : AttemptRecord) → slice_get (attempts_on oid attempts) j ≡ Some attempt → (unit : ℕ)
            → covers_unit unit attempt ≡ true → owes_attempt (record { 0 = n }) now now attempt ≡ true → (b : Bool)
            → is_doomed start.world.hosts attempt ≡ b
            → (is_doomed start.world.hosts attempt ≡ true)
            ⊎ reading_of policy oid (attempts_on oid attempts) unit j (own_index policy search state)
            (row_bytes_at policy (kind_of oid) unit (own_part policy search (rows_found state policy search) state))
        by_fate j attempt got unit covers owed true doomed = inl doomed
        by_fate j attempt got unit covers owed false lasting =
            let at = on_object j attempt got in
            let is_work = works.each at.place attempt at.there in
            let valid : IsPolicy policy = subst IsPolicy (policy_same j attempt got) (policy_is attempt.work is_work) in
            let before = owed_before attempt at.place at.there (object_so j attempt got) owed in
            inr (found_reads (attempts_on oid attempts) policy (kind_of oid) policy_same
            (λ k one there_one. ap kind_of (object_so k one there_one)) unit j attempt got is_work covers (own_index policy search state)
            (rows_found state policy search) enough
            (each-mapped (λ (row : RowCopy). IsFoundRow start policy oid search.level row.index (row_bytes row))
            (λ (row : RowCopy). row.index < TARGETS_MAX) (small valid) (rows_found state policy search) all_found)
            (each-mapped (λ (row : RowCopy). IsFoundRow start policy oid search.level row.index (row_bytes row))
            (λ (row : RowCopy). reading_of policy oid (attempts_on oid attempts) unit j row.index
            (row_bytes_at policy (kind_of oid) unit (row_bytes row)))
            (λ row found.
            found_owes start truth.begins.terms truth.begins.shaped truth.begins.tied epoch (came oid pending) policy oid search.level
            known_found (λ place one there_one object made earlier. so.passed place one there_one object is_good made earlier) row.index
            (row_bytes row) found j attempt got before lasting unit covers)
            (rows_found state policy search) all_found))
