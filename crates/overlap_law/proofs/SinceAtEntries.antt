-- A node that reads an entry keeps that each row has what it owes: a row that stays open into the next epoch owes nothing more that isn't
-- doomed, since its node is a target of what it passed by; and a row that ends owes as much as before.
use Rattle.std.proofs.Common.{◌≡◌, ◌≢◌, ◌⊎◌, inl, inr, ⊎_elim, arith, ℕ, ◌+◌, ◌-◌, ◌≤◌, ◌<◌, ◌==◌, ◌&&◌, nat_eq, nat_le, nat_lt, Bool, true}
use Rattle.std.proofs.Common.{false, cond, List, length, slice_get, Option, Some, None, refl, sym, ap, subst, ◌∙◌}
use Rattle.std.proofs.lemmas.Bool.{and_parts, cases_lt, eqb-true, eq-eqb, le-leb, leb-true, lt-ltb, ltb-true, or_cases, or_left, or_right}
use Rattle.std.proofs.lemmas.Option.{same_Some}
use Rattle.object_id.specs.declared.entry.Entry.{Entry}
use Rattle.object_id.specs.declared.node.Epoch.{Epoch}
use Rattle.object_id.specs.declared.node.NodeId.{NodeId}
use Rattle.object_id.specs.declared.policy.Policy.{Policy}
use Rattle.object_id.specs.Oid.{kind_of}
use Rattle.object_store.specs.Rows.{is_open, closed}
use Rattle.object_store.specs.Store.{SeenRow}
use Rattle.epoch_log.specs.Epochs.{begins_epoch}
use Rattle.gf256.specs.Part.{is_in_strips}
use Rattle.peer_proto.specs.Work.{policy_of}
use Rattle.recovery.specs.State.{Search}
use Rattle.sheep_node.specs.declared.input.Input.{Input}
use Rattle.sheep_node.specs.declared.input.Input.TheVariants as inputs
use Rattle.sheep_node.specs.State.{Node}
use Rattle.overlap_law.specs.Attempts.{AttemptRecord, object_of, attempts_on}
use Rattle.overlap_law.specs.Words.{has_served, is_doomed}
use Rattle.overlap_law.specs.Reached.{Hosts, is_beyond}
use Rattle.overlap_law.specs.Each.{Placing, end_of_row, row_covers, index_of_part}
use Rattle.overlap_law.specs.Since.{reading_of, owes_attempt, IsSince}
use Rattle.overlap_law.proofs.RowKeeping.{KeepsEachRow}
use Rattle.overlap_law.proofs.GrownAttempts.{goes_on-same, goes_on-grows}
use Rattle.overlap_law.proofs.OverlapLemmas.{filter-passed}
use Rattle.overlap_law.proofs.OwedAttempts.{owed-later}
use Rattle.overlap_law.proofs.OwedBeyond.{placed_at, vain_at}
use Rattle.overlap_law.proofs.ReadingLaws.{readings}
use Rattle.overlap_law.proofs.RowsInTurn.{end_open, end_shut}

-- what two epochs of a row owe
pub owed_parts : (node : NodeId) (end served_to : ℕ) (attempt : AttemptRecord) → owes_attempt node end served_to attempt ≡ true
    → (attempt.epoch < end) ⊎ ((has_served node attempt ≡ true) × (attempt.epoch ≤ served_to))
owed_parts node end served_to attempt owed = ⊎_elim
    (λ (earlier : nat_lt attempt.epoch end ≡ true). inl (ltb-true attempt.epoch end earlier))
    (λ (served : (has_served node attempt && nat_le attempt.epoch served_to) ≡ true).
    let parts = and_parts (has_served node attempt) (nat_le attempt.epoch served_to) served in
    inr (parts.0, leb-true attempt.epoch served_to parts.1))
    (or_cases (nat_lt attempt.epoch end) (has_served node attempt && nat_le attempt.epoch served_to) owed)

pub owed_earlier : (node : NodeId) (end served_to : ℕ) (attempt : AttemptRecord) → attempt.epoch < end
    → owes_attempt node end served_to attempt ≡ true
owed_earlier node end served_to attempt less =
    or_left (nat_lt attempt.epoch end) (has_served node attempt && nat_le attempt.epoch served_to) (lt-ltb attempt.epoch end less)

pub owed_served : (node : NodeId) (end served_to : ℕ) (attempt : AttemptRecord) → has_served node attempt ≡ true
    → attempt.epoch ≤ served_to → owes_attempt node end served_to attempt ≡ true
owed_served node end served_to attempt served most =
    or_right (nat_lt attempt.epoch end) (has_served node attempt && nat_le attempt.epoch served_to)
    (both (has_served node attempt) (nat_le attempt.epoch served_to) served (le-leb attempt.epoch served_to most))
  where
    both : (a b : Bool) → a ≡ true → b ≡ true → (a && b) ≡ true
    both true b one other = other
    both false b one other = absurd (cc (one))

-- the entry that an input is
abbrev entry_or : Entry → Input → Entry
entry_or none (inputs.LogEntry entry) = entry
entry_or none _ = none

-- a node n in an epoch, with the attempts, and the hosts behind its step; who serves came to the epoch, and who is beyond the node's epoch
-- is so then
module _ (T : Placing) (good : ℕ → Bool) (known : ℕ → Option Policy) (hosts : Hosts) (attempts : List AttemptRecord) (node : Node) (n : ℕ)
    (some : 1 ≤ node.peer.epoch)
    (targets : (j : ℕ) (attempt : AttemptRecord) → slice_get attempts j ≡ Some attempt
    → attempt.targets ≡ T attempt.epoch (object_of attempt) (policy_of attempt.work))
    (policies : (j : ℕ) (attempt : AttemptRecord) → slice_get attempts j ≡ Some attempt
    → known (object_of attempt) ≡ Some (policy_of attempt.work))
    (whole : (j : ℕ) (attempt : AttemptRecord) → slice_get attempts j ≡ Some attempt → length attempt.fates ≡ length attempt.targets)
    (reached : (j : ℕ) (attempt : AttemptRecord) → slice_get attempts j ≡ Some attempt → has_served (record { 0 = n }) attempt ≡ true
    → attempt.epoch ≤ node.peer.epoch) where
  abbrev me : NodeId
  me = record { 0 = n }

  abbrev now : ℕ
  now = node.peer.epoch

  -- the row up to an end has what it owes, by the hosts then
  abbrev HasUpTo : Policy → ℕ → ℕ → ℕ → List ℕ → Type 0
  HasUpTo policy oid index end bytes = IsSince policy oid hosts attempts me index end end bytes

  -- it ends no earlier than it begins, and if it covers the node's epoch it is at one of the targets
  pub record IsOwedRow (epoch : ℕ) (policy : Policy) (oid : ℕ) (row : SeenRow) : Type 0 where
    pub order : row.from.0 ≤ end_of_row epoch row.to
    pub placed : epoch ≡ now → row_covers now now row ≡ true → index_of_part T now oid policy me ≡ Some row.index
    pub has : HasUpTo policy oid row.index (end_of_row epoch row.to) row.bytes

  abbrev pub RowOwes : ℕ → ℕ → SeenRow → Type 0
  RowOwes epoch oid row = (policy : Policy) → good oid ≡ true → known oid ≡ Some policy → IsOwedRow epoch policy oid row

  -- nothing is asked of what a search was told: none finds anything at an entry
  abbrev pub Anything : Search → Type 0
  Anything search = Unit {0}

  -- a row up to another end, that owes no more but for what is doomed
  up_to : (policy : Policy) (oid index end other : ℕ) (bytes : List ℕ) → HasUpTo policy oid index end bytes
      → ((j : ℕ) (attempt : AttemptRecord) → slice_get (attempts_on oid attempts) j ≡ Some attempt
      → owes_attempt me other other attempt ≡ true
      → (is_doomed hosts attempt ≡ true) ⊎ (owes_attempt me end end attempt ≡ true))
      → HasUpTo policy oid index other bytes
  up_to policy oid index end other bytes had cases =
      owed-later (reading_of policy oid) (readings (is_in_strips policy (kind_of oid))) policy (kind_of oid) hosts hosts
      (attempts_on oid attempts) (attempts_on oid attempts)
      (goes_on-grows (attempts_on oid attempts) (attempts_on oid attempts) (goes_on-same (attempts_on oid attempts))) me index end end
      other other bytes had
      (λ j attempt there owed. ⊎_elim
      (λ (doomed : is_doomed hosts attempt ≡ true). inl doomed)
      (λ (old : owes_attempt me end end attempt ≡ true).
      inr (record { was = attempt; there = there; work = refl; owed = old; doomed = λ doomed. doomed }))
      (cases j attempt there owed))

  -- it ends earlier
  ends_before : (policy : Policy) (oid index end other : ℕ) (bytes : List ℕ) → other ≤ end → HasUpTo policy oid index end bytes
      → HasUpTo policy oid index other bytes
  ends_before policy oid index end other bytes less had =
      up_to policy oid index end other bytes had (λ j attempt there owed. ⊎_elim
      (λ (earlier : attempt.epoch < other). inr (owed_earlier me end end attempt (omega (arith, earlier, less))))
      (λ (served : (has_served me attempt ≡ true) × (attempt.epoch ≤ other)).
      let most = served.1 in inr (owed_served me end end attempt served.0 (omega (arith, most, less))))
      (owed_parts me other other attempt owed))

  -- ---- each way in which an entry changes a row

  ended_still : (oid : ℕ) (row : SeenRow) → is_open row ≡ true → nat_eq row.from.0 now ≡ false → RowOwes now oid row
      → RowOwes now oid (record row { to = Some (record { 0 = now - 1 }) })
  ended_still oid row unshut other had policy is_good own =
      let is = had policy is_good own in
      let end : end_of_row now row.to ≡ now = end_open row.to unshut now in
      let low : row.from.0 ≤ now = (let order = is.order in omega (arith, order, end)) in
      let apart : row.from.0 ≢ now = λ same. (let yes = eq-eqb row.from.0 now same in cc (yes, other)) in
      record {
        order = below row.from.0 now low apart;
        placed = λ same covers.
            let most = leb-true now (now - 1) (and_parts (nat_le row.from.0 now) (nat_le now (now - 1)) covers).1 in
            absurd (let least = some in omega (arith, most, least));
        has = ends_before policy oid row.index (end_of_row now row.to) (now - 1) row.bytes (omega (arith, end)) is.has;
      }
    where
      below : (a b : ℕ) → a ≤ b → a ≢ b → a ≤ b - 1
      below a b most apart = ⊎_elim
          (λ (less : a < b). omega (arith, less))
          (λ (least : b ≤ a). absurd (apart (omega (arith, most, least))))
          (cases_lt a b)

  shut_still : (oid : ℕ) (row : SeenRow) → RowOwes now oid row → RowOwes (now + 1) oid (closed now row)
  shut_still oid row had policy is_good own = by_open (is_open row) refl (had policy is_good own)
    where
      later : now + 1 ≡ now → ⊥
      later same = omega (arith, same)

      by_open : (b : Bool) → is_open row ≡ b → IsOwedRow now policy oid row
          → IsOwedRow (now + 1) policy oid (cond b (record row { to = Some (record { 0 = now }) }) row)
      by_open true unshut is =
          let end : end_of_row now row.to ≡ now = end_open row.to unshut now in
          record {
            order = (let order = is.order in omega (arith, order, end));
            placed = λ same covers. absurd (later same);
            has = subst (λ (e : ℕ). HasUpTo policy oid row.index e row.bytes) end is.has;
          }
      by_open false shut is =
          let end : end_of_row now row.to ≡ end_of_row (now + 1) row.to = end_shut row.to shut now (now + 1) in
          record {
            order = (let order = is.order in omega (arith, order, end));
            placed = λ same covers. absurd (later same);
            has = subst (λ (e : ℕ). HasUpTo policy oid row.index e row.bytes) end is.has;
          }

  module _ (beyond : is_beyond hosts now (record { 0 = n }) ≡ true) where
    -- what it owes more in the next epoch is doomed: the node is a target of it, and has passed by
    passed_by : (oid : ℕ) (policy : Policy) (index : ℕ) → known oid ≡ Some policy → index_of_part T now oid policy me ≡ Some index → (j : ℕ)
        (attempt : AttemptRecord) → slice_get (attempts_on oid attempts) j ≡ Some attempt → attempt.epoch ≡ now
        → has_served me attempt ≡ false → is_doomed hosts attempt ≡ true
    passed_by oid policy index own at j attempt there epoch unserved =
        let found = filter-passed (λ (a : AttemptRecord). object_of a == oid) attempts j attempt there in
        let object : object_of attempt ≡ oid = eqb-true (object_of attempt) oid found.passed in
        let by : policy_of attempt.work ≡ policy
        = same_Some (policy_of attempt.work) policy (sym (policies found.place attempt found.there) ∙ ap known object ∙ own) in
        let nodes_so : attempt.targets ≡ T now oid policy
        = targets found.place attempt found.there
        ∙ ap (λ (e : ℕ). T e (object_of attempt) (policy_of attempt.work)) epoch
        ∙ ap (λ (q : ℕ). T now q (policy_of attempt.work)) object ∙ ap (T now oid) by in
        let (place, target, got, is_me) = placed_at me (T now oid policy) policy (kind_of oid) index at in
        let target_so : target ≡ me = λ k. record { 0 = is_me k } in
        let among : slice_get attempt.targets place ≡ Some me
        = ap (λ (nodes : List NodeId). slice_get nodes place) nodes_so ∙ got ∙ ap (λ (t : NodeId). Some t) target_so in
        vain_at hosts attempt.epoch attempt.targets attempt.fates (whole found.place attempt found.there) place me among
        (ap (λ (e : ℕ). is_beyond hosts e me) epoch ∙ beyond) unserved

    stays_open : (policy : Policy) (oid : ℕ) (row : SeenRow) → known oid ≡ Some policy → IsOwedRow now policy oid row
        → HasUpTo policy oid row.index (end_of_row (now + 1) row.to) row.bytes
    stays_open policy oid row own is = by_end row.to refl is.has
      where
        by_end : (to : Option Epoch) → row.to ≡ to → HasUpTo policy oid row.index (end_of_row now to) row.bytes
            → HasUpTo policy oid row.index (end_of_row (now + 1) to) row.bytes
        by_end (Some last) at had = had
        by_end None at had =
            up_to policy oid row.index now (now + 1) row.bytes had (λ j attempt there owed. ⊎_elim
            (λ (earlier : attempt.epoch < now + 1). by_epoch j attempt there earlier)
            (λ (served : (has_served me attempt ≡ true) × (attempt.epoch ≤ now + 1)).
            let found = filter-passed (λ (a : AttemptRecord). object_of a == oid) attempts j attempt there in
            inr (owed_served me now now attempt served.0 (reached found.place attempt found.there served.0)))
            (owed_parts me (now + 1) (now + 1) attempt owed))
          where
            end : end_of_row now row.to ≡ now
            end = ap (end_of_row now) at

            covers : row_covers now now row ≡ true
            covers =
                let low : row.from.0 ≤ now = (let order = is.order in let same = end in omega (arith, order, same)) in
                let most : now ≤ end_of_row now row.to = (let same = end in omega (arith, same)) in
                ap (λ (b : Bool). b && nat_le now (end_of_row now row.to)) (le-leb row.from.0 now low)
                ∙ le-leb now (end_of_row now row.to) most

            by_served : (j : ℕ) (attempt : AttemptRecord) → slice_get (attempts_on oid attempts) j ≡ Some attempt → attempt.epoch ≡ now
                → (b : Bool) → has_served me attempt ≡ b
                → (is_doomed hosts attempt ≡ true) ⊎ (owes_attempt me now now attempt ≡ true)
            by_served j attempt there epoch true served = inr (owed_served me now now attempt served (omega (arith, epoch)))
            by_served j attempt there epoch false unserved =
                inl (passed_by oid policy row.index own (is.placed refl covers) j attempt there epoch unserved)

            by_epoch : (j : ℕ) (attempt : AttemptRecord) → slice_get (attempts_on oid attempts) j ≡ Some attempt → attempt.epoch < now + 1
                → (is_doomed hosts attempt ≡ true) ⊎ (owes_attempt me now now attempt ≡ true)
            by_epoch j attempt there earlier = ⊎_elim
                (λ (less : attempt.epoch < now). inr (owed_earlier me now now attempt less))
                (λ (most : now ≤ attempt.epoch).
                by_served j attempt there (omega (arith, earlier, most)) (has_served me attempt) refl)
                (cases_lt attempt.epoch now)

    stays_still : (oid : ℕ) (row : SeenRow) → RowOwes now oid row → RowOwes (now + 1) oid row
    stays_still oid row had policy is_good own =
        let is = had policy is_good own in
        record {
          order = by_end row.to is.order;
          placed = λ same covers. absurd (later same);
          has = stays_open policy oid row own is;
        }
      where
        later : now + 1 ≡ now → ⊥
        later same = omega (arith, same)

        by_end : (to : Option Epoch) → row.from.0 ≤ end_of_row now to → row.from.0 ≤ end_of_row (now + 1) to
        by_end None low = omega (arith, low)
        by_end (Some last) low = low

  -- an entry is read; one that begins an epoch leaves the node beyond its own
  pub since_kept : (entry : Entry) → (begins_epoch entry ≡ true → is_beyond hosts now (record { 0 = n }) ≡ true)
      → KeepsEachRow Anything RowOwes node (inputs.LogEntry entry)
  since_kept entry beyond = record {
    ended = ended_still;
    created = λ request key size offset bytes comes is own. absurd (cc (comes));
    written = λ request key offset bytes row comes is own on unshut fits had. absurd (cc (comes));
    answered = λ number said tells message sent oid level asks_row search on own. tt;
    anew = λ search on. tt;
    first = λ oid. tt;
    found = λ may recovery me_so epoch_so search policy told live pending enough. absurd may;
    stays = λ one comes begins oid row open_still had.
        stays_still (beyond (ap (λ (input : Input). begins_epoch (entry_or entry input)) comes ∙ begins)) oid row had;
    shut = λ one comes begins oid row had. shut_still oid row had;
    returned = λ entries comes oid row had. absurd (cc (comes));
  }
