-- Live holders: whether enough nodes keep an object, and whether that was so of all objects that a disk is read from.
use Rattle.std.specs.Prelude.{ℕ, ◌+◌, ◌-◌, ◌==◌, nat_le, Bool, true, false, not, ◌&&◌, ◌||◌, max, List, length, filter, map, IsTrue, Option}
use Rattle.std.specs.Option.{option_map, option_map_or}
use Rattle.std.specs.List.{find, list_any, list_all, range_with_len}
use Rattle.object_id.specs.declared.node.NodeId.{NodeId}
use Rattle.object_id.specs.declared.entry.Entry.{Entry}
use Rattle.object_id.specs.declared.policy.Policy.{Policy}
use Rattle.object_id.specs.Oid.{kind_of, vid_of}
use Rattle.object_id.specs.Policy.{wanted_of, need_of}
use Rattle.epoch_log.specs.Epochs.{epoch_of, settled_of, members_in}
use Rattle.hash_ring.specs.Circle.{hash_of_object}
use Rattle.hash_ring.specs.Placement.{targets_of}
use Rattle.vdi_directory.specs.declared.effect.Effect.{Effect}
use Rattle.vdi_directory.specs.Chains.{is_above}
use Rattle.vdi_directory.specs.Dead.{is_dead}
use Rattle.vdi_directory.specs.Decisions.{log_effects}
use Rattle.peer_proto.specs.declared.work.ObjWork.{ObjWork}
use Rattle.peer_proto.specs.declared.work.ObjWork.TheVariants.{Create, Write, Read, ReadAll}
use Rattle.peer_proto.specs.Work.{policy_of}
use Rattle.overlap_law.specs.Attempts.{AttemptRecord, object_of, attempts_on}

-- the targets of an object in an epoch, by the log
unfoldable pub targets_by : List Entry → ℕ → ℕ → Policy → List NodeId
targets_by log epoch oid policy = targets_of (members_in log epoch) (hash_of_object oid) (wanted_of policy (kind_of oid))

-- whether a work creates its object
abbrev pub is_create_work : ObjWork → Bool
is_create_work (Create oid policy size offset bytes) = true
is_create_work (Write oid policy offset bytes) = false
is_create_work (Read oid policy offset size) = false
is_create_work (ReadAll oid policy size) = false

-- whether an attempt is to create its object
abbrev pub creates : AttemptRecord → Bool
creates attempt = is_create_work attempt.work

-- the first attempt to create an object, with whose first message the object is born
abbrev pub first_create : ℕ → List AttemptRecord → Option AttemptRecord
first_create oid attempts = find creates (attempts_on oid attempts)

-- the epoch in which an object was born, if it was
abbrev pub birth_of : ℕ → List AttemptRecord → Option ℕ
birth_of oid attempts = option_map (λ (create : AttemptRecord). create.epoch) (first_create oid attempts)

-- the epochs from one to another
abbrev pub epochs_between : ℕ → ℕ → List ℕ
epochs_between first last = range_with_len first (last + 1 - first)

-- whether enough of the targets count for an epoch: as many as a read needs
abbrev pub has_enough : (NodeId → ℕ → Bool) → ℕ → List NodeId → ℕ → Bool
has_enough counts need targets epoch = nat_le need (length (filter (λ node. counts node epoch) targets))

-- whether enough of the targets of an object in an epoch count for it
abbrev pub is_kept_in : (NodeId → ℕ → Bool) → List Entry → ℕ → Policy → ℕ → Bool
is_kept_in counts log oid policy epoch =
    has_enough counts (need_of policy (kind_of oid)) (targets_by log epoch oid policy) epoch

-- whether an object that was born in an epoch is available: it is kept in each epoch from the greater of its birth and the
-- settled one up to the newest
abbrev pub is_available_since : (NodeId → ℕ → Bool) → List Entry → ℕ → Policy → ℕ → Bool
is_available_since counts log oid policy birth =
    list_all (is_kept_in counts log oid policy) (epochs_between (max birth (settled_of log)) (epoch_of log))

-- whether an object is available, of these attempts: since the first one to create it. An object that isn't born needs no holders
unfoldable pub is_available : (NodeId → ℕ → Bool) → List Entry → List AttemptRecord → ℕ → Bool
is_available counts log attempts oid =
    option_map_or (λ (create : AttemptRecord). is_available_since counts log oid (policy_of create.work) create.epoch)
    (first_create oid attempts) true

-- the objects that were born, in the order of their attempts
abbrev pub born_objects : List AttemptRecord → List ℕ
born_objects attempts = map object_of (filter creates attempts)

-- whether the id of an object is dead, by the log
abbrev pub is_dead_by_log : List Entry → ℕ → Bool
is_dead_by_log log oid = is_dead (log_effects log) (vid_of oid)

-- whether an object is neither dead nor available
abbrev pub lacks_holders : (NodeId → ℕ → Bool) → List Entry → List AttemptRecord → ℕ → Bool
lacks_holders counts log attempts oid = not (is_dead_by_log log oid) && not (is_available counts log attempts oid)

-- the born objects that are neither dead nor available
unfoldable pub unavailable_in : (NodeId → ℕ → Bool) → List Entry → List AttemptRecord → List ℕ
unavailable_in counts log attempts = filter (lacks_holders counts log attempts) (born_objects attempts)

-- whether an object is among some
abbrev pub is_object_among : ℕ → List ℕ → Bool
is_object_among oid oids = list_any (λ other. other == oid) oids

-- an object is live where it is born and not dead
abbrev pub is_live_object : List Entry → List AttemptRecord → ℕ → Bool
is_live_object log attempts oid = is_object_among oid (born_objects attempts) && not (is_dead_by_log log oid)

-- an object is good where it is live and isn't among those that were once not available
abbrev pub is_good : List Entry → List AttemptRecord → List ℕ → ℕ → Bool
is_good log attempts unavailable oid = is_live_object log attempts oid && not (is_object_among oid unavailable)

-- an object is good
abbrev pub IsGood : List Entry → List AttemptRecord → List ℕ → ℕ → Type 0
IsGood log attempts unavailable oid = IsTrue (is_good log attempts unavailable oid)

-- whether an object is of the disk, or of one in its parent chain
abbrev pub is_of_chain : List Effect → ℕ → ℕ → Bool
is_of_chain before vid oid = vid_of oid == vid || is_above before (vid_of oid) vid

-- a disk is available up to here where no object of it or of its parent chain is among those that were once not available
unfoldable pub is_available_disk : List Entry → List ℕ → ℕ → Bool
is_available_disk log unavailable vid = not (list_any (is_of_chain (log_effects log) vid) unavailable)
