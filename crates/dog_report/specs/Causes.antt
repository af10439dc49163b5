-- What a report says of a refusal: the result's number and name, and the details of the cause.
use Rattle.std.specs.Prelude.{ℕ, List, [], ◌∷◌, codes, decimal}
use Rattle.object_id.specs.declared.cause.Cause.{Cause}
use Rattle.object_id.specs.declared.cause.Cause.TheVariants.{VdiLocked, NoVdi, NoTag, NoBaseVdi, VdiExist, Readonly, VdiNotLocked, FullVdi}
use Rattle.object_id.specs.declared.cause.Cause.TheVariants.{InvalidParms, Halt, OldEpoch, NewEpoch, Recovery, Link, NoObj}
use Rattle.sheep_proto.specs.declared.codes.TheConstants.{RESULT_VDI_LOCKED, RESULT_NO_VDI, RESULT_NO_TAG, RESULT_NO_BASE_VDI}
use Rattle.sheep_proto.specs.declared.codes.TheConstants.{RESULT_VDI_EXIST, RESULT_READONLY, RESULT_VDI_NOT_LOCKED, RESULT_FULL_VDI}
use Rattle.sheep_proto.specs.declared.codes.TheConstants.{RESULT_INVALID_PARMS, RESULT_HALT, RESULT_OLD_EPOCH, RESULT_NEW_EPOCH}
use Rattle.sheep_proto.specs.declared.codes.TheConstants.{RESULT_RECOVERY, RESULT_LINK, RESULT_NO_OBJ}
use Rattle.dog_report.specs.Words.{Words, hex}

-- the result by which a reply tells the cause
abbrev pub result_of : Cause → ℕ
result_of (VdiLocked session) = RESULT_VDI_LOCKED
result_of NoVdi = RESULT_NO_VDI
result_of NoTag = RESULT_NO_TAG
result_of NoBaseVdi = RESULT_NO_BASE_VDI
result_of VdiExist = RESULT_VDI_EXIST
result_of Readonly = RESULT_READONLY
result_of VdiNotLocked = RESULT_VDI_NOT_LOCKED
result_of FullVdi = RESULT_FULL_VDI
result_of InvalidParms = RESULT_INVALID_PARMS
result_of (Halt members wanted) = RESULT_HALT
result_of (OldEpoch node own peer) = RESULT_OLD_EPOCH
result_of (NewEpoch node own peer) = RESULT_NEW_EPOCH
result_of (Recovery node epoch) = RESULT_RECOVERY
result_of (Link node) = RESULT_LINK
result_of (NoObj node oid) = RESULT_NO_OBJ

-- the result's name
abbrev pub result_name : Cause → List ℕ
result_name (VdiLocked session) = codes "VDI_LOCKED"
result_name NoVdi = codes "NO_VDI"
result_name NoTag = codes "NO_TAG"
result_name NoBaseVdi = codes "NO_BASE_VDI"
result_name VdiExist = codes "VDI_EXIST"
result_name Readonly = codes "READONLY"
result_name VdiNotLocked = codes "VDI_NOT_LOCKED"
result_name FullVdi = codes "FULL_VDI"
result_name InvalidParms = codes "INVALID_PARMS"
result_name (Halt members wanted) = codes "HALT"
result_name (OldEpoch node own peer) = codes "OLD_EPOCH"
result_name (NewEpoch node own peer) = codes "NEW_EPOCH"
result_name (Recovery node epoch) = codes "RECOVERY"
result_name (Link node) = codes "LINK"
result_name (NoObj node oid) = codes "NO_OBJ"

-- the details: the holding session, the zones, or the node with its answer
abbrev pub details_of : Cause → Words
details_of (VdiLocked session) = codes "session" ∷ decimal session ∷ []
details_of NoVdi = []
details_of NoTag = []
details_of NoBaseVdi = []
details_of VdiExist = []
details_of Readonly = []
details_of VdiNotLocked = []
details_of FullVdi = []
details_of InvalidParms = []
details_of (Halt members wanted) = codes "members" ∷ decimal members ∷ codes "wanted" ∷ decimal wanted ∷ []
details_of (OldEpoch node own peer) =
    codes "node" ∷ decimal node.0 ∷ codes "own" ∷ decimal own.0 ∷ codes "peer" ∷ decimal peer.0 ∷ []
details_of (NewEpoch node own peer) =
    codes "node" ∷ decimal node.0 ∷ codes "own" ∷ decimal own.0 ∷ codes "peer" ∷ decimal peer.0 ∷ []
details_of (Recovery node epoch) = codes "node" ∷ decimal node.0 ∷ codes "epoch" ∷ decimal epoch.0 ∷ []
details_of (Link node) = codes "node" ∷ decimal node.0 ∷ []
details_of (NoObj node oid) = codes "node" ∷ decimal node.0 ∷ codes "oid" ∷ hex 16 oid ∷ []

-- the words of a refusal behind `refused`
abbrev pub cause_words : Cause → Words
cause_words cause = hex 2 (result_of cause) ∷ result_name cause ∷ details_of cause
