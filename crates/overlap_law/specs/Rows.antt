-- The rows of the nodes: which epochs they cover, at whom they stand, and that what a node served or recovered stays.
use Rattle.std.specs.Prelude.{◌≡◌, ◌⊎◌, ℕ, ◌≤◌, ◌<◌, Bool, true, false, List, length, filter, slice_get, Some}
use Rattle.object_id.specs.declared.node.NodeId.{NodeId}
use Rattle.object_id.specs.declared.entry.Entry.{Entry}
use Rattle.object_id.specs.declared.policy.Policy.{Policy}
use Rattle.object_id.specs.declared.entry.VdiSpec.{VdiSpec}
use Rattle.object_id.specs.Oid.{kind_of, vid_of}
use Rattle.object_id.specs.Policy.{need_of}
use Rattle.epoch_log.specs.Members.{is_member}
use Rattle.epoch_log.specs.Epochs.{epoch_of, members_in, settled_of}
use Rattle.object_list.specs.Gathered.{has_node}
use Rattle.object_store.specs.Rows.{is_open}
use Rattle.object_store.specs.Store.{SeenRow, rows_of}
use Rattle.vdi_directory.specs.declared.effect.Effect.{Effect}
use Rattle.peer_service.specs.State.{row_size}
use Rattle.overlap_law.specs.Attempts.{AttemptRecord, object_of}
use Rattle.overlap_law.specs.Words.{Hosts, has_entered, has_finished, is_dying, is_made, is_doomed, has_served}
use Rattle.overlap_law.specs.Each.{Placing, EachHost, EachAttempt, EachRow, end_of_row, row_covers, has_row_at, spec_in, policy_in}
use Rattle.overlap_law.specs.Each.{index_of_part}
use Rattle.overlap_law.specs.Holders.{creates}

-- a row begins no later than it ends
pub record RowsHaveEnds (hosts : Hosts) : Type 0 where
  pub order : EachRow hosts (λ n host oid row. row.from.0 ≤ end_of_row host.node.peer.epoch row.to)
  pub closed : EachRow hosts (λ n host oid row. host.is_lost ≡ false → is_open row ≡ false → end_of_row 0 row.to < host.node.peer.epoch)

-- of an object at a node at most one row is open
pub record OneRowIsOpen (hosts : Hosts) : Type 0 where
  pub each : EachHost hosts (λ n host. (oid i k : ℕ) (row other : SeenRow) → slice_get (rows_of host.node.peer.rows oid) i ≡ Some row
      → slice_get (rows_of host.node.peer.rows oid) k ≡ Some other → is_open row ≡ true → is_open other ≡ true → i ≡ k)

-- no two rows of an object at a node cover one epoch
pub record RowsAreApart (hosts : Hosts) : Type 0 where
  pub each : EachHost hosts (λ n host. (oid i k level : ℕ) (row other : SeenRow) → slice_get (rows_of host.node.peer.rows oid) i ≡ Some row
      → slice_get (rows_of host.node.peer.rows oid) k ≡ Some other → row_covers host.node.peer.epoch level row ≡ true
      → row_covers host.node.peer.epoch level other ≡ true → i ≡ k)

-- a row has the length of the object's parts
pub record RowsAreWhole (effects : List Effect) (hosts : Hosts) : Type 0 where
  pub each : EachRow hosts (λ n host oid row. (spec : VdiSpec) → spec_in effects (vid_of oid) ≡ Some spec
      → length row.bytes ≡ row_size (kind_of oid) spec)

-- in each epoch that a row covers its node is a target, at the row's index
pub record RowsAreAtTargets (T : Placing) (effects : List Effect) (hosts : Hosts) : Type 0 where
  pub each : EachRow hosts (λ n host oid row. (policy : Policy) (epoch : ℕ) → policy_in effects oid ≡ Some policy
      → row_covers host.node.peer.epoch epoch row ≡ true → index_of_part T epoch oid policy (record { 0 = n }) ≡ Some row.index)

-- a create of the object in an epoch was served by the node
pub record HasServedACreate (attempts : List AttemptRecord) (oid epoch : ℕ) (node : NodeId) : Type 0 where
  pub place : ℕ
  pub create : AttemptRecord
  pub there : slice_get attempts place ≡ Some create
  pub object : object_of create ≡ oid
  pub creating : creates create ≡ true
  pub of_epoch : create.epoch ≡ epoch
  pub served : has_served node create ≡ true

-- a row begins with a create of its first epoch, or with an epoch that was entered
pub record RowsAreBegun (log : List Entry) (live : ℕ → Bool) (hosts : Hosts) (attempts : List AttemptRecord) : Type 0 where
  pub each : EachRow hosts (λ n host oid row. live oid ≡ true
      → HasServedACreate attempts oid row.from.0 (record { 0 = n }) ⊎ (has_entered hosts log row.from.0 ≡ true))

-- a node that served an attempt has a row that covers its epoch, unless a later one is settled
pub record ServedRowsStay (live : ℕ → Bool) (hosts : Hosts) (attempts : List AttemptRecord) : Type 0 where
  pub each : EachAttempt attempts (λ j attempt. EachHost hosts (λ n host. live (object_of attempt) ≡ true
      → has_served (record { 0 = n }) attempt ≡ true
      → (has_row_at host.node.peer.epoch host.node.peer.rows (object_of attempt) attempt.epoch ≡ true)
      ⊎ (attempt.epoch < host.node.peer.settled)))

-- a made attempt on an object, of no later epoch than this one
pub record IsMadeBy (attempts : List AttemptRecord) (oid epoch : ℕ) : Type 0 where
  pub place : ℕ
  pub attempt : AttemptRecord
  pub there : slice_get attempts place ≡ Some attempt
  pub object : object_of attempt ≡ oid
  pub made : is_made attempt ≡ true
  pub before : attempt.epoch ≤ epoch

-- a target that has recovered in an epoch has a row that covers it, of each object that was made by then
pub record RecoveredRowsAreKept (T : Placing) (log : List Entry) (effects : List Effect) (good : ℕ
    → Bool) (hosts : Hosts) (attempts : List AttemptRecord)
    : Type 0 where
  pub each : EachHost hosts (λ n host. (oid epoch : ℕ) (policy : Policy) → good oid ≡ true → policy_in effects oid ≡ Some policy
      → has_finished hosts log epoch (record { 0 = n }) ≡ true → host.node.peer.settled ≤ epoch
      → has_node (record { 0 = n }) (T epoch oid policy) ≡ true → IsMadeBy attempts oid epoch
      → has_row_at host.node.peer.epoch host.node.peer.rows oid epoch ≡ true)

-- how many targets of an epoch are members of another one
abbrev pub common : Placing → List Entry → ℕ → ℕ → ℕ → Policy → ℕ
common T log epoch later oid policy =
    length (filter (λ (node : NodeId). is_member node.0 (members_in log later)) (T epoch oid policy))

-- the needed number of an epoch's targets are members of each later one
abbrev pub IsCarriedFrom : Placing → List Entry → ℕ → ℕ → Policy → Type 0
IsCarriedFrom T log epoch oid policy = (later : ℕ) → epoch ≤ later → later ≤ epoch_of log
    → need_of policy (kind_of oid) ≤ common T log epoch later oid policy

-- an attempt that isn't doomed is carried from its epoch on, and from each later one that isn't dying: what is settled already counts alone
pub record AttemptsAreCarried (T : Placing) (log : List Entry) (effects : List Effect) (good : ℕ
    → Bool) (hosts : Hosts) (attempts : List AttemptRecord)
    : Type 0 where
  pub own : EachAttempt attempts (λ j attempt. (policy : Policy) → good (object_of attempt) ≡ true → policy_in effects (object_of attempt)
      ≡ Some policy
      → is_doomed hosts attempt ≡ false → settled_of log ≤ attempt.epoch → IsCarriedFrom T log attempt.epoch (object_of attempt) policy)
  pub later : EachAttempt attempts (λ j attempt. (policy : Policy) (epoch : ℕ) → good (object_of attempt) ≡ true
      → policy_in effects (object_of attempt) ≡ Some policy → is_doomed hosts attempt ≡ false → settled_of log ≤ epoch
      → attempt.epoch < epoch
      → epoch ≤ epoch_of log → is_dying hosts log epoch ≡ false → IsCarriedFrom T log epoch (object_of attempt) policy)
