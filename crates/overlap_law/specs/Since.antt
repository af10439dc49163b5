-- What the bytes of a row are of: the attempts that it owes, or later ones. One predicate for copies and strips, over the
-- row's index, end and bytes, so that it serves rows in stores and rows that were told.
use Rattle.std.specs.Prelude.{◌≡◌, ◌⊎◌, ℕ, ◌≤◌, ◌<◌, nat_le, nat_lt, ◌&&◌, ◌||◌, Bool, true, false, List, length, slice_get, Some}
use Rattle.object_id.specs.declared.node.NodeId.{NodeId}
use Rattle.object_id.specs.declared.oid.Kind.{Kind}
use Rattle.object_id.specs.declared.policy.Policy.{Policy}
use Rattle.object_id.specs.Oid.{kind_of}
use Rattle.gf256.specs.Part.{is_in_strips}
use Rattle.vdi_directory.specs.declared.effect.Effect.{Effect}
use Rattle.overlap_law.specs.Attempts.{AttemptRecord, attempts_on}
use Rattle.overlap_law.specs.Words.{Hosts, is_doomed, is_mute, has_served, covers_unit, unit_part_by, row_bytes_at, unit_end}
use Rattle.overlap_law.specs.Each.{EachAttempt, SomeAttempt, EachRow, end_of_row, policy_in}

-- whether a row of a node that covers up to an end owes an attempt: one of an earlier epoch, or one that the node served, of
-- no later epoch than this one
abbrev pub owes_attempt : NodeId → ℕ → ℕ → AttemptRecord → Bool
owes_attempt node end served_to attempt = nat_lt attempt.epoch end || (has_served node attempt && nat_le attempt.epoch served_to)

-- what the bytes of a row at a unit may be read as: the attempts on the object, the unit, an attempt's place, the row's index, the bytes
abbrev pub Reading : Type 1
Reading = List AttemptRecord → ℕ → ℕ → ℕ → List ℕ → Type 0

-- of copies: those of the attempt, or of a later one that covers the unit and that a target served
pub record IsCopyFrom (attempts : List AttemptRecord) (unit j index : ℕ) (bytes : List ℕ) : Type 0 where
  pub place : ℕ
  pub attempt : AttemptRecord
  pub there : slice_get attempts place ≡ Some attempt
  pub no_earlier : j ≤ place
  pub covering : covers_unit unit attempt ≡ true
  pub served : is_mute attempt ≡ false
  pub same : bytes ≡ unit_part_by index unit attempt.work

-- the later attempts that cover the unit add nothing to it: each is mute, or has the attempt's own parts of it
pub record AddNothingAfter (attempts : List AttemptRecord) (unit j : ℕ) (attempt : AttemptRecord) : Type 0 where
  pub each : EachAttempt attempts (λ k later. j < k → covers_unit unit later ≡ true
      → (is_mute later ≡ true) ⊎ ((index : ℕ) → unit_part_by index unit later.work ≡ unit_part_by index unit attempt.work))

-- of strips: the attempt's own, where the later ones add nothing
pub record IsStripOf (attempts : List AttemptRecord) (unit j index : ℕ) (bytes : List ℕ) : Type 0 where
  pub own : (attempt : AttemptRecord) → slice_get attempts j ≡ Some attempt → AddNothingAfter attempts unit j attempt → bytes
      ≡ unit_part_by index unit attempt.work

-- which of the two an object's rows are
abbrev pub reading_by : Bool → Reading
reading_by true = IsStripOf
reading_by false = IsCopyFrom

-- the reading of an object of a policy
abbrev pub reading_of : Policy → ℕ → Reading
reading_of policy oid = reading_by (is_in_strips policy (kind_of oid))

-- a row has what it owes: each unit of each such attempt may be read as of it, unless the attempt is doomed
pub record HasWhatItOwes (Reads : Reading) (policy : Policy) (kind : Kind) (hosts : Hosts) (attempts : List AttemptRecord) (node : NodeId)
    (index end served_to : ℕ) (bytes : List ℕ) : Type 0 where
  pub each : EachAttempt attempts (λ j attempt. (unit : ℕ) → covers_unit unit attempt ≡ true → owes_attempt node end served_to attempt
      ≡ true
      → (is_doomed hosts attempt ≡ true) ⊎ Reads attempts unit j index (row_bytes_at policy kind unit bytes))

-- a row of an object has what it owes, by the policy of the object
abbrev pub IsSince : Policy → ℕ → Hosts → List AttemptRecord → NodeId → ℕ → ℕ → ℕ → List ℕ → Type 0
IsSince policy oid hosts attempts node index end served_to bytes =
    HasWhatItOwes (reading_of policy oid) policy (kind_of oid) hosts (attempts_on oid attempts) node index end served_to bytes

-- each row of a node has what it owes
pub record RowsAreSince (effects : List Effect) (good : ℕ → Bool) (hosts : Hosts) (attempts : List AttemptRecord) : Type 0 where
  pub each : EachRow hosts (λ n host oid row. (policy : Policy) → good oid ≡ true → policy_in effects oid ≡ Some policy
      → IsSince policy oid hosts attempts (record {
        0 = n;
      }) row.index (end_of_row host.node.peer.epoch row.to) (end_of_row host.node.peer.epoch row.to) row.bytes)

-- at each unit a copy has the bytes of some attempt that covers it
pub record IsOfAttempts (kind : Kind) (policy : Policy) (attempts : List AttemptRecord) (index : ℕ) (bytes : List ℕ) : Type 0 where
  pub each : (unit : ℕ) → nat_le (unit_end kind unit) (length bytes) ≡ true
      → SomeAttempt attempts (λ attempt. (covers_unit unit attempt ≡ true)
      × (row_bytes_at policy kind unit bytes ≡ unit_part_by index unit attempt.work))

-- if the rows of an object are copies, a row is of its attempts
abbrev pub IsCopyOfAttempts : Policy → ℕ → List AttemptRecord → ℕ → List ℕ → Type 0
IsCopyOfAttempts policy oid attempts index bytes =
    is_in_strips policy (kind_of oid) ≡ false → IsOfAttempts (kind_of oid) policy (attempts_on oid attempts) index bytes

-- each copy in a store is of attempts, also where what it owes is doomed
pub record CopiesAreOfAttempts (effects : List Effect) (live : ℕ → Bool) (hosts : Hosts) (attempts : List AttemptRecord) : Type 0 where
  pub each : EachRow hosts (λ n host oid row. (policy : Policy) → live oid ≡ true → policy_in effects oid ≡ Some policy
      → IsCopyOfAttempts policy oid attempts row.index row.bytes)
