-- What always holds of the messages of an open attempt.
use Rattle.std.specs.Prelude.{◌≡◌, ℕ, ◌<◌, ◌==◌, nat_lt, ◌&&◌, false, List, [], ◌∷◌, ◌++◌, length, map, if◌then◌else◌}
use Rattle.object_id.specs.declared.limits.TheConstants.{TARGETS_MAX}
use Rattle.object_id.specs.Oid.{kind_of}
use Rattle.object_id.specs.Policy.{wanted_of}
use Rattle.gf256.specs.Part.{part_size}
use Rattle.gf256.specs.Polynomial.{ArePoints}
use Rattle.peer_proto.specs.declared.work.ObjWork.{ObjWork}
use Rattle.peer_proto.specs.declared.work.ObjWork.TheVariants.{Create, Write, Read, ReadAll}
use Rattle.gateway.specs.declared.message.Message.{Message}
use Rattle.gateway.specs.declared.message.Status.{Status}
use Rattle.gateway.specs.declared.message.Status.TheVariants as statuses
use Rattle.gateway.specs.Attempt.{is_success, bytes_in}

-- no message has this number
abbrev pub HasNoNumber : ℕ → List Message → Type 0
HasNoNumber number [] = Unit {0}
HasNoNumber number (message ∷ messages) = ((message.number == number) ≡ false) × HasNoNumber number messages

-- no two messages have one number
abbrev pub NumbersDiffer : List Message → Type 0
NumbersDiffer [] = Unit {0}
NumbersDiffer (message ∷ messages) = HasNoNumber message.number messages × NumbersDiffer messages

-- the piece that a message gave, if it succeeded, is so long
abbrev pub HasLength : ℕ → Status → Type 0
HasLength size statuses.Unanswered = Unit {0}
HasLength size (statuses.Succeeded bytes) = length bytes ≡ size
HasLength size (statuses.Refused refusal) = Unit {0}
HasLength size statuses.Lost = Unit {0}

-- all pieces that messages gave are so long
abbrev pub HaveLength : ℕ → List Message → Type 0
HaveLength size [] = Unit {0}
HaveLength size (message ∷ messages) = HasLength size message.status × HaveLength size messages

-- a message of a read, also of one of all parts, gave a piece as long as the part of what is read
abbrev pub IsPieceFor : ObjWork → Status → Type 0
IsPieceFor (Create oid policy size offset bytes) status = Unit {0}
IsPieceFor (Write oid policy offset bytes) status = Unit {0}
IsPieceFor (Read oid policy offset size) status = HasLength (part_size policy (kind_of oid) size) status
IsPieceFor (ReadAll oid policy size) status = HasLength (part_size policy (kind_of oid) size) status

-- the messages of a read gave pieces as long as the parts of what is read
abbrev pub ArePiecesFor : ObjWork → List Message → Type 0
ArePiecesFor (Create oid policy size offset bytes) messages = Unit {0}
ArePiecesFor (Write oid policy offset bytes) messages = Unit {0}
ArePiecesFor (Read oid policy offset size) messages = HaveLength (part_size policy (kind_of oid) size) messages
ArePiecesFor (ReadAll oid policy size) messages = HaveLength (part_size policy (kind_of oid) size) messages

-- the messages of a read ask for the parts of different indexes
abbrev pub IndexesDiffer : ObjWork → List Message → Type 0
IndexesDiffer (Create oid policy size offset bytes) messages = Unit {0}
IndexesDiffer (Write oid policy offset bytes) messages = Unit {0}
IndexesDiffer (Read oid policy offset size) messages = ArePoints (map (λ (message : Message). message.index) messages)
IndexesDiffer (ReadAll oid policy size) messages = Unit {0}

-- the messages of a read of all parts are as many as targets are wanted
abbrev pub HaveCountFor : ObjWork → List Message → Type 0
HaveCountFor (Create oid policy size offset bytes) messages = Unit {0}
HaveCountFor (Write oid policy offset bytes) messages = Unit {0}
HaveCountFor (Read oid policy offset size) messages = Unit {0}
HaveCountFor (ReadAll oid policy size) messages = length messages ≡ wanted_of policy (kind_of oid)

-- what holds of the messages of a work's open attempt
pub record AreMessagesFor (work : ObjWork) (messages : List Message) : Type 0 where
  pub numbers : NumbersDiffer messages
  pub pieces : ArePiecesFor work messages
  pub indexes : IndexesDiffer work messages
  pub count : HaveCountFor work messages

-- indexes of parts, with that of a message that gave one where fewer than are needed came
abbrev pub indexes_with : ℕ → Message → List ℕ → List ℕ
indexes_with need message indexes =
    if nat_lt (length indexes) need && is_success message.status then indexes ++ message.index ∷ [] else indexes

-- the bytes of these parts, with those of the message
abbrev pub bytes_with : ℕ → Message → List ℕ → List ℕ → List ℕ
bytes_with need message indexes bytes =
    if nat_lt (length indexes) need && is_success message.status then bytes ++ bytes_in message.status else bytes

-- each message asks for a part that there is
abbrev pub IndexesFit : List Message → Type 0
IndexesFit [] = Unit {0}
IndexesFit (message ∷ messages) = (message.index < TARGETS_MAX) × IndexesFit messages
