-- A row has what it owes still as attempts begin and fates are told, where it owes no more or what it owes more is doomed; and it has it
-- once it is made by an attempt, or an attempt is written over it.
use Rattle.std.proofs.Common.{◌≡◌, ◌⊎◌, inl, inr, ⊎_elim, ℕ, ◌≤◌, true, false, List, Some, slice_get, refl, sym, ap, subst, ◌∙◌}
use Rattle.std.proofs.lemmas.Option.{same_Some}
use Rattle.object_id.specs.declared.node.NodeId.{NodeId}
use Rattle.object_id.specs.declared.oid.Kind.{Kind}
use Rattle.object_id.specs.declared.policy.Policy.{Policy}
use Rattle.overlap_law.specs.Attempts.{AttemptRecord}
use Rattle.overlap_law.specs.Units.{covers_by, covers_unit, row_bytes_at, unit_part_by}
use Rattle.overlap_law.specs.Words.{Hosts, is_doomed, is_mute}
use Rattle.overlap_law.specs.Since.{Reading, owes_attempt, HasWhatItOwes}
use Rattle.overlap_law.proofs.ReadingLaws.{AttemptsGrow, IsReading}

-- an attempt was owed before, and is doomed if it was
pub record WasOwed (hosts hosts_after : Hosts) (attempts : List AttemptRecord) (node : NodeId) (end served_to j : ℕ) (now : AttemptRecord)
    : Type 0 where
  pub was : AttemptRecord
  pub there : slice_get attempts j ≡ Some was
  pub work : was.work ≡ now.work
  pub owed : owes_attempt node end served_to was ≡ true
  pub doomed : is_doomed hosts was ≡ true → is_doomed hosts_after now ≡ true

module _ (Reads : Reading) (reading : IsReading Reads) (policy : Policy) (kind : Kind) (hosts hosts_after : Hosts)
    (attempts more : List AttemptRecord) (grow : AttemptsGrow attempts more) (node : NodeId)
    (index end served_to end_after served_after : ℕ) where
  -- the row before, of these bytes, and after
  abbrev HadIt : List ℕ → Type 0
  HadIt bytes = HasWhatItOwes Reads policy kind hosts attempts node index end served_to bytes

  abbrev HasIt : List ℕ → Type 0
  HasIt bytes = HasWhatItOwes Reads policy kind hosts_after more node index end_after served_after bytes

  -- of what was owed it has the same bytes at a unit
  had_at : (bytes now_bytes : List ℕ) → HadIt bytes → (j : ℕ) (now : AttemptRecord) (unit : ℕ) → covers_unit unit now ≡ true
      → row_bytes_at policy kind unit now_bytes ≡ row_bytes_at policy kind unit bytes
      → WasOwed hosts hosts_after attempts node end served_to j now
      → (is_doomed hosts_after now ≡ true) ⊎ Reads more unit j index (row_bytes_at policy kind unit now_bytes)
  had_at bytes now_bytes had j now unit covers same old = ⊎_elim
      (λ (doomed : is_doomed hosts old.was ≡ true). inl (old.doomed doomed))
      (λ (read : Reads attempts unit j index (row_bytes_at policy kind unit bytes)).
      inr (subst (Reads more unit j index) (sym same)
      (reading.later attempts more grow unit j index (row_bytes_at policy kind unit bytes) old.was old.there read)))
      (had.each j old.was old.there unit (ap (covers_by unit) old.work ∙ covers) old.owed)

  -- it owes no more, but for what is doomed
  pub owed-later : (bytes : List ℕ) → HadIt bytes
      → ((j : ℕ) (now : AttemptRecord) → slice_get more j ≡ Some now → owes_attempt node end_after served_after now ≡ true
      → (is_doomed hosts_after now ≡ true) ⊎ WasOwed hosts hosts_after attempts node end served_to j now)
      → HasIt bytes
  owed-later bytes had cases = record {
    each = λ j now there unit covers owed. ⊎_elim
        (λ (doomed : is_doomed hosts_after now ≡ true). inl doomed)
        (λ (old : WasOwed hosts hosts_after attempts node end served_to j now). had_at bytes bytes had j now unit covers refl old)
        (cases j now there owed);
  }

  module _ (k : ℕ) (attempt : AttemptRecord) (there : slice_get more k ≡ Some attempt) (loud : is_mute attempt ≡ false) where
    -- an attempt that the bytes at a unit are of
    own_at : (bytes : List ℕ) (j unit : ℕ) → j ≤ k → covers_unit unit attempt ≡ true
        → row_bytes_at policy kind unit bytes ≡ unit_part_by index unit attempt.work
        → Reads more unit j index (row_bytes_at policy kind unit bytes)
    own_at bytes j unit before covers own =
        subst (Reads more unit j index) (sym own) (reading.served more unit j k index attempt there before covers loud)

    -- it is made by an attempt that covers each unit, and owes no later one that isn't doomed
    pub owed-made : (bytes : List ℕ)
        → ((j : ℕ) (now : AttemptRecord) → slice_get more j ≡ Some now → owes_attempt node end_after served_after now ≡ true
        → (is_doomed hosts_after now ≡ true) ⊎ (j ≤ k))
        → ((j : ℕ) (now : AttemptRecord) (unit : ℕ) → slice_get more j ≡ Some now → covers_unit unit now ≡ true
        → (covers_unit unit attempt ≡ true) × (row_bytes_at policy kind unit bytes ≡ unit_part_by index unit attempt.work))
        → HasIt bytes
    owed-made bytes cases own = record {
      each = λ j now at unit covers owed. ⊎_elim
          (λ (doomed : is_doomed hosts_after now ≡ true). inl doomed)
          (λ (before : j ≤ k). let is = own j now unit at covers in inr (own_at bytes j unit before is.0 is.1))
          (cases j now at owed);
    }

    -- what was owed, or is this attempt
    abbrev OwesNow : ℕ → AttemptRecord → Type 0
    OwesNow j now = (j ≤ k) × (WasOwed hosts hosts_after attempts node end served_to j now ⊎ (j ≡ k))

    -- the attempt is written over it: each unit that it covers has its bytes, and each other one is as it was
    pub owed-written : (bytes now_bytes : List ℕ) → HadIt bytes
        → ((j : ℕ) (now : AttemptRecord) → slice_get more j ≡ Some now → owes_attempt node end_after served_after now ≡ true
        → (is_doomed hosts_after now ≡ true) ⊎ OwesNow j now)
        → ((unit : ℕ) → ((covers_unit unit attempt ≡ true) × (row_bytes_at policy kind unit now_bytes ≡ unit_part_by index unit
        attempt.work))
        ⊎ ((covers_unit unit attempt ≡ false) × (row_bytes_at policy kind unit now_bytes ≡ row_bytes_at policy kind unit bytes)))
        → HasIt now_bytes
    owed-written bytes now_bytes had cases units = record {
      each = λ j now at unit covers owed. ⊎_elim
          (λ (doomed : is_doomed hosts_after now ≡ true). inl doomed)
          (λ (owes : OwesNow j now). ⊎_elim
          (λ (own : (covers_unit unit attempt ≡ true) × (row_bytes_at policy kind unit now_bytes ≡ unit_part_by index unit attempt.work)).
          inr (own_at now_bytes j unit owes.0 own.0 own.1))
          (λ (other : (covers_unit unit attempt ≡ false) × (row_bytes_at policy kind unit now_bytes ≡ row_bytes_at policy kind unit
          bytes)). ⊎_elim
          (λ (old : WasOwed hosts hosts_after attempts node end served_to j now). had_at bytes now_bytes had j now unit covers other.1 old)
          (λ (same : j ≡ k).
          let one : attempt ≡ now = same_Some attempt now (sym there ∙ ap (slice_get more) (sym same) ∙ at) in
          let none : covers_unit unit now ≡ false = ap (covers_unit unit) (sym one) ∙ other.0 in
          absurd (cc (covers, none)))
          owes.1)
          (units unit))
          (cases j now at owed);
    }
