-- The lists of recoveries: what was told of objects, and what is pending by it.
use Rattle.std.specs.Prelude.{◌≡◌, ◌⊎◌, ℕ, ◌<◌, ◌==◌, Bool, true, false, List, [], Option, Some, None}
use Rattle.std.specs.List.{list_any}
use Rattle.object_id.specs.declared.node.NodeId.{NodeId}
use Rattle.object_id.specs.declared.policy.Policy.{Policy}
use Rattle.object_list.specs.Gathered.{has_node}
use Rattle.object_store.specs.declared.row.RowCopy.{RowCopy}
use Rattle.object_store.specs.Rows.{is_open}
use Rattle.object_store.specs.Store.{SeenRow, AllRows, open_row}
use Rattle.vdi_directory.specs.declared.effect.Effect.{Effect}
use Rattle.peer_service.specs.State.{is_known}
use Rattle.recovery.specs.Shown.{is_pending_object}
use Rattle.recovery.specs.State.{is_listed}
use Rattle.overlap_law.specs.Attempts.{AttemptRecord}
use Rattle.overlap_law.specs.Words.{Hosts}
use Rattle.overlap_law.specs.Past.{FinishedList}
use Rattle.overlap_law.specs.Facts.{is_in_list}
use Rattle.overlap_law.specs.Each.{Placing, EachHost, EachUp, EachRowOf, has_reached, policy_in, index_of_part}
use Rattle.overlap_law.specs.Packets.{Wire}
use Rattle.overlap_law.specs.Rows.{IsMadeBy}
use Rattle.overlap_law.specs.ToldRows.{ToldObjects, ToldRow, IsListUnderWay}

-- where a recovery's list isn't finished, it isn't known what is pending, nothing is searched, and nothing is missing
pub record ListsComeFirst (hosts : Hosts) : Type 0 where
  pub pending : EachUp hosts (λ n node. is_listed node.recovery ≡ false → node.peer.pending ≡ None)
  pub search : EachUp hosts (λ n node. is_listed node.recovery ≡ false → node.recovery.search ≡ None)
  pub missing : EachUp hosts (λ n node. is_listed node.recovery ≡ false → node.recovery.missing ≡ [])

-- a node that told something to a recovery came to its epoch
pub record TellersHaveCome (hosts : Hosts) (wire : Wire) : Type 0 where
  pub lists : EachUp hosts (λ n node. (from : NodeId) (epoch : ℕ) (oids : List ℕ)
      → IsListUnderWay wire n node.recovery from epoch oids → has_reached hosts epoch from ≡ true)
  pub rows : EachUp hosts (λ n node. (from : NodeId) (epoch oid level : ℕ) (row : Option RowCopy)
      → ToldRow wire n node from epoch oid level row → has_reached hosts epoch from ≡ true)

-- what a node told of its objects has each one of which it has a row from before the recovery's epoch
pub record ListsAreWhole (live : ℕ → Bool) (hosts : Hosts) (wire : Wire) : Type 0 where
  pub each : EachUp hosts (λ n node. EachHost hosts (λ q teller. (oids : List ℕ) → ToldObjects wire n node.recovery (record { 0 = q }) oids
      → (oid : ℕ) → live oid ≡ true → EachRowOf teller.node.peer.rows oid (λ row. row.from.0 < node.recovery.epoch
      → list_any (λ other. other == oid) oids ≡ true)))

-- a finished list, with the rows that the node had then, has each object that was made before its epoch; also that of a node
-- which is lost by now
pub record ListsAreComplete (good : ℕ → Bool) (listed : List FinishedList) (hosts : Hosts) (attempts : List AttemptRecord) : Type 0 where
  pub each : EachHost hosts (λ n host. (oid before : ℕ) → is_listed host.node.recovery ≡ true → good oid ≡ true
      → before < host.node.recovery.epoch → IsMadeBy attempts oid before
      → is_in_list listed n host.node.recovery oid ≡ true)

-- the open rows of an object are none
pub record HasNoOpenRow (rows : AllRows) (oid : ℕ) : Type 0 where
  pub each : EachRowOf rows oid (λ row. is_open row ≡ false)

-- a pending object is one of which the node is a target and has no open row, and whose id it knows
pub record PendingIsLacked (T : Placing) (effects : List Effect) (live : ℕ → Bool) (hosts : Hosts) : Type 0 where
  pub target : EachUp hosts (λ n node. (oid : ℕ) (policy : Policy) → is_pending_object oid node.peer.pending ≡ true → live oid ≡ true
      → policy_in effects oid ≡ Some policy → has_node (record { 0 = n }) (T node.recovery.epoch oid policy) ≡ true)
  pub lacked : EachUp hosts (λ n node. (oid : ℕ) → is_pending_object oid node.peer.pending ≡ true → live oid ≡ true
      → HasNoOpenRow node.peer.rows oid)
  pub known : EachUp hosts (λ n node. (oid : ℕ) → is_pending_object oid node.peer.pending ≡ true → live oid ≡ true
      → is_known node.peer oid ≡ true)

-- a node has an open row of the index
pub record HasOpenRow (rows : AllRows) (oid index : ℕ) : Type 0 where
  pub row : SeenRow
  pub found : open_row rows (record { oid = oid; index = index }) ≡ Some row

-- what a target with a finished list hasn't pending it has, of all that was made up to its epoch
pub record WhatIsNotPendingIsThere (T : Placing) (effects : List Effect) (good : ℕ
    → Bool) (hosts : Hosts) (attempts : List AttemptRecord) : Type 0 where
  pub each : EachUp hosts (λ n node. (oid index : ℕ) (policy : Policy) → is_listed node.recovery ≡ true → good oid ≡ true
      → policy_in effects oid ≡ Some policy → index_of_part T node.recovery.epoch oid policy (record { 0 = n }) ≡ Some index
      → IsMadeBy attempts oid node.recovery.epoch
      → (is_pending_object oid node.peer.pending ≡ true) ⊎ HasOpenRow node.peer.rows oid index)
