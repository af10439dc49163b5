-- The searches of recoveries: whom they ask, what was told to them, and that what they passed by isn't there.
use Rattle.std.specs.Prelude.{◌≡◌, ◌⊎◌, ◌↔◌, ℕ, ◌≤◌, ◌<◌, ◌==◌, ◌&&◌, not, Bool, true, false, List, [], ◌∷◌, ◌++◌, length, filter, fold}
use Rattle.std.specs.Prelude.{find, filter_map, option_map, Option, Some, None, if◌then◌else◌}
use Rattle.std.specs.List.{list_any}
use Rattle.std.specs.FinMap as tree
use Rattle.object_id.specs.declared.node.NodeId.{NodeId}
use Rattle.object_id.specs.declared.entry.Entry.{Entry}
use Rattle.object_id.specs.declared.policy.Policy.{Policy}
use Rattle.object_id.specs.Oid.{kind_of}
use Rattle.object_id.specs.Policy.{need_of}
use Rattle.epoch_log.specs.Members.{is_member}
use Rattle.epoch_log.specs.Epochs.{members_in}
use Rattle.object_list.specs.Gathered.{is_same_node, has_node}
use Rattle.object_store.specs.declared.row.RowCopy.{RowCopy}
use Rattle.object_store.specs.Rows.{reaches}
use Rattle.object_store.specs.Store.{SeenRow, rows_of, row_bytes}
use Rattle.vdi_directory.specs.declared.effect.Effect.{Effect}
use Rattle.recovery.specs.Shown.{first_in}
use Rattle.recovery.specs.Level.{is_of_search}
use Rattle.recovery.specs.declared.search.RowAnswer.{RowAnswer}
use Rattle.recovery.specs.State.{Message, Search, search_on, is_listed, is_missing}
use Rattle.sheep_node.specs.RecoveryView.{recovery_state_of}
use Rattle.sheep_world.specs.World.{Host}
use Rattle.overlap_law.specs.Attempts.{AttemptRecord}
use Rattle.overlap_law.specs.Words.{Hosts}
use Rattle.overlap_law.specs.Each.{Placing, EachUp, row_covers, holds_level, policy_in, index_of_part}
use Rattle.overlap_law.specs.Packets.{Wire}
use Rattle.overlap_law.specs.Rows.{IsMadeBy}
use Rattle.overlap_law.specs.Since.{IsSince, IsCopyOfAttempts}
use Rattle.overlap_law.specs.ToldRows.{ToldRow, end_told, served_told}

-- a search is of the first pending object, and of a level before the recovery's epoch
pub record SearchesAreOfTheFirst (hosts : Hosts) : Type 0 where
  pub first : EachUp hosts (λ n node. (search : Search) → search_on (recovery_state_of node) ≡ Some search → first_in node.peer.pending
      ≡ Some search.oid)
  pub below : EachUp hosts (λ n node. (search : Search) → search_on (recovery_state_of node) ≡ Some search
      → search.level < node.recovery.epoch)
  pub above : EachUp hosts (λ n node. (search : Search) → search_on (recovery_state_of node) ≡ Some search → 1 ≤ search.level)

-- a node is awaited, or its answer is kept
abbrev pub is_awaited_of : ℕ → List Message → NodeId → Bool
is_awaited_of oid messages node = list_any (λ message. is_of_search oid message && is_same_node node message.to) messages

-- whether a node's answer is kept
abbrev pub has_kept_answer : List RowAnswer → NodeId → Bool
has_kept_answer answers node = list_any (λ (answer : RowAnswer). is_same_node node answer.from) answers

-- whom a level is asked of: its targets that are members of the recovery's epoch, but for the node itself
abbrev pub is_asked : Placing → List Entry → ℕ → Search → ℕ → Policy → NodeId → Bool
is_asked T log epoch search n policy node =
    has_node node (T search.level search.oid policy) && is_member node.0 (members_in log epoch) && not (node.0 == n)

-- while answers of a level are awaited, and none was refused or lost, those awaited and those kept are all that it is asked of
pub record LevelsAreAsked (T : Placing) (log : List Entry) (effects : List Effect) (good : ℕ → Bool) (hosts : Hosts) : Type 0 where
  pub each : EachUp hosts (λ n node. (search : Search) (policy : Policy) → search_on (recovery_state_of node) ≡ Some search
      → good search.oid ≡ true
      → policy_in effects search.oid ≡ Some policy → list_any (is_of_search search.oid) node.recovery.unanswered ≡ true → search.again
      ≡ false
      → (other : NodeId) → (is_asked T log node.recovery.epoch search n policy other ≡ true)
      ↔ ((is_awaited_of search.oid node.recovery.unanswered other ≡ true) ⊎ (has_kept_answer search.answers other ≡ true)))

-- a row that was told covers its level, and has the index of its node
pub record IsTrueRow (T : Placing) (policy : Policy) (from : NodeId) (oid level : ℕ) (row : RowCopy) : Type 0 where
  pub low : row.from.0 ≤ level
  pub high : reaches level row.to ≡ true
  pub index : index_of_part T level oid policy from ≡ Some row.index

-- rows that were told are such
pub record ToldRowsAreTrue (T : Placing) (effects : List Effect) (good : ℕ → Bool) (hosts : Hosts) (wire : Wire) : Type 0 where
  pub each : EachUp hosts (λ n node. (from : NodeId) (epoch oid level : ℕ) (row : RowCopy) (policy : Policy)
      → ToldRow wire n node from epoch oid level (Some row) → good oid ≡ true → policy_in effects oid ≡ Some policy
      → IsTrueRow T policy from oid level row)

-- a row that was told has what it owes
pub record ToldRowsAreSince (effects : List Effect) (good : ℕ
    → Bool) (hosts : Hosts) (wire : Wire) (attempts : List AttemptRecord) : Type 0 where
  pub each : EachUp hosts (λ n node. (from : NodeId) (epoch oid level : ℕ) (row : RowCopy) (policy : Policy)
      → ToldRow wire n node from epoch oid level (Some row) → good oid ≡ true → policy_in effects oid ≡ Some policy
      → IsSince policy oid hosts attempts from row.index (end_told epoch row.to) (served_told epoch row.to) (row_bytes row))

-- a copy that was told is of attempts
pub record ToldCopiesAreOfAttempts (effects : List Effect) (live : ℕ
    → Bool) (hosts : Hosts) (wire : Wire) (attempts : List AttemptRecord) : Type 0 where
  pub each : EachUp hosts (λ n node. (from : NodeId) (epoch oid level : ℕ) (row : RowCopy) (policy : Policy)
      → ToldRow wire n node from epoch oid level (Some row) → live oid ≡ true → policy_in effects oid ≡ Some policy
      → IsCopyOfAttempts policy oid attempts row.index (row_bytes row))

-- a node that told that it has no row of a level has none
pub record NoRowIsTrue (good : ℕ → Bool) (hosts : Hosts) (wire : Wire) : Type 0 where
  pub each : EachUp hosts (λ n node. (from : NodeId) (epoch oid level : ℕ) → ToldRow wire n node from epoch oid level None
      → good oid ≡ true → holds_level (tree.get hosts from.0) oid level ≡ false)

-- the index of a node's row of an object that covers a level
abbrev pub index_held : Option Host → ℕ → ℕ → Option ℕ
index_held None oid level = None
index_held (Some host) oid level =
    option_map (λ (row : SeenRow). row.index) (find (row_covers host.node.peer.epoch level) (rows_of host.node.peer.rows oid))

-- numbers with one more, if it isn't among them
abbrev pub with_number : List ℕ → ℕ → List ℕ
with_number numbers number = if list_any (λ other. other == number) numbers then numbers else numbers ++ number ∷ []

-- the different indexes of the rows that cover a level, at the targets that are members of the recovery's epoch
abbrev pub indexes_held : Placing → List Entry → Hosts → ℕ → ℕ → ℕ → Policy → List ℕ
indexes_held T log hosts oid level epoch policy =
    fold with_number []
    (filter_map (λ (node : NodeId). index_held (tree.get hosts node.0) oid level)
    (filter (λ (node : NodeId). is_member node.0 (members_in log epoch)) (T level oid policy)))

-- at each level that a search has passed there are fewer rows than are needed
pub record PassedLevelsLackRows (T : Placing) (log : List Entry) (effects : List Effect) (good : ℕ → Bool) (hosts : Hosts) : Type 0 where
  pub each : EachUp hosts (λ n node. (search : Search) (policy : Policy) (level : ℕ) → search_on (recovery_state_of node) ≡ Some search
      → good search.oid ≡ true → policy_in effects search.oid ≡ Some policy → search.level < level → level < node.recovery.epoch
      → length (indexes_held T log hosts search.oid level node.recovery.epoch policy) < need_of policy (kind_of search.oid))

-- an object that was made before a recovery's epoch isn't missing there
pub record TheMadeIsNotMissing (good : ℕ → Bool) (hosts : Hosts) (attempts : List AttemptRecord) : Type 0 where
  pub each : EachUp hosts (λ n node. (oid before : ℕ) → is_listed node.recovery ≡ true → good oid ≡ true → before < node.recovery.epoch
      → IsMadeBy attempts oid before → is_missing oid node.recovery ≡ false)
