-- At which level the nodes hold what was made: there a recovery that looks for it finds it. And what each epoch has to have for that.
use Rattle.std.specs.Prelude.{◌≡◌, ◌⊎◌, ℕ, ◌≤◌, ◌<◌, max, Bool, true, List, Some}
use Rattle.std.specs.FinMap as tree
use Rattle.object_id.specs.declared.node.NodeId.{NodeId}
use Rattle.object_id.specs.declared.entry.Entry.{Entry}
use Rattle.object_id.specs.declared.policy.Policy.{Policy}
use Rattle.object_id.specs.Oid.{kind_of}
use Rattle.object_id.specs.Policy.{need_of}
use Rattle.epoch_log.specs.Members.{is_member}
use Rattle.epoch_log.specs.Epochs.{epoch_of, members_in, settled_of}
use Rattle.object_list.specs.Gathered.{has_node}
use Rattle.vdi_directory.specs.declared.effect.Effect.{Effect}
use Rattle.recovery.specs.State.{Search, is_listed, search_on}
use Rattle.sheep_node.specs.RecoveryView.{recovery_state_of}
use Rattle.overlap_law.specs.Attempts.{AttemptRecord, object_of}
use Rattle.overlap_law.specs.Words.{Hosts, is_made}
use Rattle.overlap_law.specs.Holders.{birth_of, is_object_among}
use Rattle.overlap_law.specs.Each.{Placing, EachHost, EachUp, EachAttempt, has_reached, has_row_at, holds_level, policy_in}
use Rattle.overlap_law.specs.Rows.{common, IsCarriedFrom}

-- the level at which nodes hold what an attempt made: its epoch, or the settled one where that is later
abbrev pub level_of : List Entry → AttemptRecord → ℕ
level_of log attempt = max attempt.epoch (settled_of log)

-- the nodes hold an object at a level: none has read that a later epoch is settled, each target of the level has a row that covers it, and
-- of each later epoch as many of the targets are members as a read needs
pub record IsHeldAt (T : Placing) (log : List Entry) (hosts : Hosts) (oid level : ℕ) (policy : Policy) : Type 0 where
  pub read : EachHost hosts (λ n host. host.node.peer.settled ≤ level)
  pub rows : EachHost hosts (λ n host. has_node (record { 0 = n }) (T level oid policy) ≡ true
      → has_row_at host.node.peer.epoch host.node.peer.rows oid level ≡ true)
  pub carried : IsCarriedFrom T log level oid policy

-- they hold what was made at its level
pub record TheMadeIsHeld (T : Placing) (log : List Entry) (effects : List Effect) (good : ℕ
    → Bool) (hosts : Hosts) (attempts : List AttemptRecord)
    : Type 0 where
  pub each : EachAttempt attempts (λ j attempt. (policy : Policy) → good (object_of attempt) ≡ true
      → policy_in effects (object_of attempt) ≡ Some policy → is_made attempt ≡ true
      → IsHeldAt T log hosts (object_of attempt) (level_of log attempt) policy)

-- a recovery of an epoch can find an object at a level below: as many targets of the level as a read needs are members of the epoch, and
-- each of those came to it and has a row that covers the level
pub record CanBeFoundAt (T : Placing) (log : List Entry) (hosts : Hosts) (oid level epoch : ℕ) (policy : Policy) : Type 0 where
  pub below : level < epoch
  pub enough : need_of policy (kind_of oid) ≤ common T log level epoch oid policy
  pub came : (target : NodeId) → has_node target (T level oid policy) ≡ true → is_member target.0 (members_in log epoch) ≡ true
      → has_reached hosts epoch target ≡ true
  pub rows : (target : NodeId) → has_node target (T level oid policy) ≡ true → is_member target.0 (members_in log epoch) ≡ true
      → holds_level (tree.get hosts target.0) oid level ≡ true

-- where a recovery's list is finished, and its epoch is behind the settled one, it can find what was made before its epoch
pub record TheMadeCanBeFound (T : Placing) (log : List Entry) (effects : List Effect) (good : ℕ
    → Bool) (hosts : Hosts) (attempts : List AttemptRecord)
    : Type 0 where
  pub each : EachHost hosts (λ n host. EachAttempt attempts (λ j attempt. (policy : Policy) → is_listed host.node.recovery ≡ true
      → settled_of log < host.node.recovery.epoch → host.node.recovery.epoch ≤ epoch_of log → good (object_of attempt) ≡ true
      → policy_in effects (object_of attempt) ≡ Some policy → is_made attempt ≡ true → attempt.epoch < host.node.recovery.epoch
      → CanBeFoundAt T log hosts (object_of attempt) (level_of log attempt) host.node.recovery.epoch policy))

-- so its list has what was made, or the node itself has a row that covers the level: a read of it needs some node
pub record TheMadeIsListed (log : List Entry) (effects : List Effect) (good : ℕ → Bool) (hosts : Hosts) (attempts : List AttemptRecord) :
    Type 0 where
  pub each : EachUp hosts (λ n node. EachAttempt attempts (λ j attempt. (policy : Policy) → node.recovery.me.0 ≡ n
      → is_listed node.recovery ≡ true → settled_of log < node.recovery.epoch → node.recovery.epoch ≤ epoch_of log
      → good (object_of attempt) ≡ true → policy_in effects (object_of attempt) ≡ Some policy
      → 1 ≤ need_of policy (kind_of (object_of attempt)) → is_made attempt ≡ true → attempt.epoch < node.recovery.epoch
      → (is_object_among (object_of attempt) node.recovery.lists.objects ≡ true)
      ⊎ (has_row_at node.peer.epoch node.peer.rows (object_of attempt) (level_of log attempt) ≡ true)))

-- no search has passed the level at which the nodes hold what was made of its object before its recovery's epoch
pub record NoSearchHasPassed (log : List Entry) (good : ℕ → Bool) (hosts : Hosts) (attempts : List AttemptRecord) : Type 0 where
  pub each : EachUp hosts (λ n node. (search : Search) → search_on (recovery_state_of node) ≡ Some search
      → EachAttempt attempts (λ j attempt. good (object_of attempt) ≡ true → object_of attempt ≡ search.oid → is_made attempt ≡ true
      → attempt.epoch < node.recovery.epoch → level_of log attempt ≤ search.level))

-- of each epoch from an attempt's on, as many targets of its object as a read needs are members of the newest epoch; those below the
-- settled one don't count
pub record NewestHasTargets (T : Placing) (log : List Entry) (effects : List Effect) (good : ℕ
    → Bool) (attempts : List AttemptRecord) : Type 0 where
  pub each : EachAttempt attempts (λ j attempt. (policy : Policy) (epoch : ℕ) → good (object_of attempt) ≡ true
      → policy_in effects (object_of attempt) ≡ Some policy → settled_of log ≤ epoch → attempt.epoch ≤ epoch → epoch ≤ epoch_of log
      → need_of policy (kind_of (object_of attempt)) ≤ common T log epoch (epoch_of log) (object_of attempt) policy)

-- an attempt is of no epoch before that in which its object was born
pub record NoneIsBeforeBirth (good : ℕ → Bool) (attempts : List AttemptRecord) : Type 0 where
  pub each : EachAttempt attempts (λ j attempt. (birth : ℕ) → good (object_of attempt) ≡ true
      → birth_of (object_of attempt) attempts ≡ Some birth → birth ≤ attempt.epoch)
