-- What a row owes as fates of attempts are told and nodes go on: what it owed before it has still, and what it owes more is what its node
-- is told to have served.
use Rattle.std.proofs.Common.{◌≡◌, ◌⊎◌, inl, inr, ⊎_elim, arith, ℕ, ◌≤◌, ◌<◌, true, List, slice_get, Some, ap, ◌∙◌}
use Rattle.object_id.specs.declared.policy.Policy.{Policy}
use Rattle.object_id.specs.Oid.{kind_of}
use Rattle.gf256.specs.Part.{is_in_strips}
use Rattle.peer_proto.specs.declared.work.ObjWork.{ObjWork}
use Rattle.peer_proto.specs.Work.{oid_of}
use Rattle.overlap_law.specs.Attempts.{AttemptRecord, attempts_on}
use Rattle.overlap_law.specs.Packets.{message_request_at}
use Rattle.overlap_law.specs.Units.{covers_by, covers_unit, row_bytes_at}
use Rattle.overlap_law.specs.Words.{Hosts, has_served, is_doomed}
use Rattle.overlap_law.specs.Since.{reading_of, owes_attempt, IsSince}
use Rattle.overlap_law.proofs.GrownAttempts.{GoOn, grows-object}
use Rattle.overlap_law.proofs.PairedAttempts.{Paired, pair_at, pairs_on}
use Rattle.overlap_law.proofs.ReadingLaws.{readings}
use Rattle.overlap_law.proofs.SinceAtEntries.{owed_parts, owed_earlier, owed_served}

-- an attempt as it was, and as it is: of the same work, epoch and messages, doomed if it was, and served by those that had served it, or by
-- who is told to
pub record IsLater (hosts hosts_after : Hosts) (Told : ℕ → AttemptRecord → Type 0) (was now : AttemptRecord) : Type 0 where
  pub work : was.work ≡ now.work
  pub epoch : was.epoch ≡ now.epoch
  pub targets : was.targets ≡ now.targets
  pub messages : (place : ℕ) → message_request_at was place ≡ message_request_at now place
  pub doomed : is_doomed hosts was ≡ true → is_doomed hosts_after now ≡ true
  pub served : (m : ℕ) → has_served (record { 0 = m }) now ≡ true → (has_served (record { 0 = m }) was ≡ true) ⊎ Told m now

-- nobody is told to have served anything
abbrev pub NoneTold : ℕ → AttemptRecord → Type 0
NoneTold m now = ⊥

module _ (hosts hosts_after : Hosts) (Told : ℕ → AttemptRecord → Type 0) (attempts more : List AttemptRecord)
    (pairs : Paired (IsLater hosts hosts_after Told) attempts more) (on : GoOn attempts more) (policy : Policy)
    (oid n index end served_to : ℕ) (bytes : List ℕ)
    (had : IsSince policy oid hosts attempts (record { 0 = n }) index end served_to bytes) where
  -- an attempt that is owed has what is asked of it at a unit
  abbrev IsHad : ℕ → AttemptRecord → ℕ → Type 0
  IsHad j now unit = (is_doomed hosts_after now ≡ true)
      ⊎ reading_of policy oid (attempts_on oid more) unit j index (row_bytes_at policy (kind_of oid) unit bytes)

  as_it_was : (j : ℕ) (was now : AttemptRecord) → slice_get (attempts_on oid attempts) j ≡ Some was
      → IsLater hosts hosts_after Told was now → (unit : ℕ) → covers_unit unit now ≡ true
      → owes_attempt (record { 0 = n }) end served_to was ≡ true → IsHad j now unit
  as_it_was j was now at is unit covers owed = ⊎_elim
      (λ (doomed : is_doomed hosts was ≡ true). inl (is.doomed doomed))
      (λ (read : reading_of policy oid (attempts_on oid attempts) unit j index (row_bytes_at policy (kind_of oid) unit bytes)).
      inr ((readings (is_in_strips policy (kind_of oid))).later (attempts_on oid attempts) (attempts_on oid more)
      (grows-object oid attempts more on) unit j index (row_bytes_at policy (kind_of oid) unit bytes) was at read))
      (had.each j was at unit (ap (covers_by unit) is.work ∙ covers) owed)

  -- what it owes now it has, or its node is told to have served it
  pub still_had : (j : ℕ) (now : AttemptRecord) → slice_get (attempts_on oid more) j ≡ Some now → (unit : ℕ) → covers_unit unit now ≡ true
      → owes_attempt (record { 0 = n }) end served_to now ≡ true → IsHad j now unit ⊎ (Told n now × (now.epoch ≤ served_to))
  still_had j now there unit covers owed =
      let (was, at, is) = pair_at (IsLater hosts hosts_after Told) (attempts_on oid attempts) (attempts_on oid more)
      (pairs_on (IsLater hosts hosts_after Told) (λ one other later. ap (λ (work : ObjWork). oid_of work) later.work) oid attempts more
      pairs) j now there in
      let epoch = is.epoch in
      ⊎_elim
      (λ (earlier : now.epoch < end).
      inl (as_it_was j was now at is unit covers (owed_earlier (record { 0 = n }) end served_to was (omega (arith, epoch, earlier)))))
      (λ (own : (has_served (record { 0 = n }) now ≡ true) × (now.epoch ≤ served_to)). ⊎_elim
      (λ (old : has_served (record { 0 = n }) was ≡ true).
      let most = own.1 in
      inl (as_it_was j was now at is unit covers (owed_served (record { 0 = n }) end served_to was old (omega (arith, epoch, most)))))
      (λ (told : Told n now). inr (told, own.1))
      (is.served n own.0))
      (owed_parts (record { 0 = n }) end served_to now owed)

  -- so it has what it owes, where what its node is told to have served isn't owed
  pub since_later : ((j : ℕ) (now : AttemptRecord) → slice_get (attempts_on oid more) j ≡ Some now → Told n now → now.epoch ≤ served_to → ⊥)
      → IsSince policy oid hosts_after more (record { 0 = n }) index end served_to bytes
  since_later untold = record {
    each = λ j now there unit covers owed. ⊎_elim
        (λ (has : IsHad j now unit). has)
        (λ (told : Told n now × (now.epoch ≤ served_to)). absurd (untold j now there told.0 told.1))
        (still_had j now there unit covers owed);
  }
