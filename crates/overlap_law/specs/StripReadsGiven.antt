-- What open reads of sessions were given by the messages that they have heard of: pieces that have what their nodes owed in the read's
-- epoch.
use Rattle.std.specs.Prelude.{◌≡◌, ℕ, ◌≤◌, Bool, true, false, List, length, slice_get, Some}
use Rattle.std.specs.FinMap as tree
use Rattle.std.specs.Ordering.{nat_cmp}
use Rattle.object_id.specs.declared.entry.Entry.{Entry}
use Rattle.object_id.specs.declared.node.NodeId.{NodeId}
use Rattle.vdi_directory.specs.Decisions.{log_effects}
use Rattle.peer_proto.specs.Work.{oid_of, policy_of}
use Rattle.gateway.specs.declared.message.Message.{Message}
use Rattle.gateway.specs.declared.message.Status.TheVariants.{Succeeded}
use Rattle.gateway.specs.Attempt as gateways
use Rattle.gateway.specs.State.{Work, Open}
use Rattle.gateway.specs.Work.{is_making}
use Rattle.object_list.specs.Gathered.{has_node}
use Rattle.overlap_law.specs.Attempts.{AttemptRecord}
use Rattle.overlap_law.specs.Each.{EachUp, policy_in}
use Rattle.overlap_law.specs.Holders.{targets_by}
use Rattle.overlap_law.specs.Reached.{Hosts}
use Rattle.overlap_law.specs.ToldPieces.{offset_read, IsPieceSince}
use Rattle.overlap_law.specs.Sessions.{is_of_client_at}

-- a message of a request's open work has given a piece
pub record HasGiven (works : tree.FinMap nat_cmp Work) (req : ℕ) (work : Work) (current : gateways.Attempt) (place : ℕ)
    (message : Message) (bytes : List ℕ) : Type 0 where
  pub there : tree.get works req ≡ Some work
  pub stage : work.stage ≡ Open current
  pub at : slice_get current.messages place ≡ Some message
  pub given : message.status ≡ Succeeded bytes
  pub some : 1 ≤ length bytes

-- each piece that an open read of a session was given of a good object is of bytes that have what a target of the object owed in the
-- read's epoch. A client's read may be overtaken by attempts, of the same epoch or a later one
pub record GivenPiecesAreSince (log : List Entry) (good : ℕ → Bool) (hosts : Hosts) (attempts : List AttemptRecord) : Type 0 where
  pub each : EachUp hosts (λ n node. (req place : ℕ) (work : Work) (current : gateways.Attempt) (message : Message) (bytes : List ℕ)
      → HasGiven node.gateway.works req work current place message bytes → is_making work.work ≡ false → is_of_client_at req node ≡ false
      → good (oid_of work.work) ≡ true → policy_in (log_effects log) (oid_of work.work) ≡ Some (policy_of work.work)
      → (from : NodeId) × (has_node from (targets_by log current.epoch.0 (oid_of work.work) (policy_of work.work)) ≡ true)
      × IsPieceSince (policy_of work.work) (oid_of work.work) hosts attempts from message.index current.epoch.0 (offset_read work.work)
      bytes)
