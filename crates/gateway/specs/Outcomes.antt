-- What each act of a gateway tells, in the words of its work.
use Rattle.std.specs.Prelude.{◌≡◌, ◌⊎◌, ℕ, ◌+◌, ◌<◌, ◌≤◌, true, false, List, length, map, All, Option, Some, None}
use Rattle.std.specs.List.{range_with_len}
use Rattle.std.specs.FinMap as tree
use Rattle.object_id.specs.declared.cause.Cause.TheVariants.{Halt}
use Rattle.object_id.specs.declared.node.NodeId.{NodeId}
use Rattle.object_id.specs.Oid.{kind_of}
use Rattle.object_id.specs.Policy.{need_of}
use Rattle.peer_proto.specs.declared.ask.PeerReq.{PeerReq}
use Rattle.peer_proto.specs.declared.work.ObjWork.{ObjWork}
use Rattle.peer_proto.specs.declared.work.ObjWork.TheVariants.{Create, Write, Read, ReadAll}
use Rattle.peer_proto.specs.declared.work.WorkDone.{WorkDone}
use Rattle.peer_proto.specs.declared.say.PeerSay.{PeerSay}
use Rattle.peer_proto.specs.declared.say.PeerSay.TheVariants as says
use Rattle.gateway.specs.declared.act.Act.{Act}
use Rattle.gateway.specs.declared.act.Act.TheVariants as acts
use Rattle.gateway.specs.declared.message.Message.{Message}
use Rattle.gateway.specs.Work.{zones_for, bytes_of_work}
use Rattle.gateway.specs.Attempt.{Attempt, is_success, successes, is_over, is_done, bytes_given, first_failure}
use Rattle.gateway.specs.State.{Work, Gateway, is_touched}
use Rattle.gateway.specs.Step.{refusal_after_attempt}

-- each of these messages succeeded
abbrev pub AllSucceeded : List Message → Type 0
AllSucceeded messages = All (λ (message : Message). is_success message.status ≡ true) messages

-- of a create, a write and a read of all parts each message succeeded, of any other read as many as it needs
abbrev pub HasEnough : ObjWork → List Message → Type 0
HasEnough (Create oid policy size offset bytes) messages = AllSucceeded messages
HasEnough (Write oid policy offset bytes) messages = AllSucceeded messages
HasEnough (Read oid policy offset size) messages = need_of policy (kind_of oid) ≤ length (successes messages)
HasEnough (ReadAll oid policy size) messages = AllSucceeded messages

-- an attempt ended and wasn't done
abbrev pub HasFailed : ObjWork → List Message → Type 0
HasFailed work messages = (is_over messages ≡ true) × (is_done work messages ≡ false)

-- an attempt asks as many targets as its work needs to succeed
abbrev pub AsksEnough : ObjWork → List Message → Type 0
AsksEnough (Create oid policy size offset bytes) messages = Unit {0}
AsksEnough (Write oid policy offset bytes) messages = Unit {0}
AsksEnough (Read oid policy offset size) messages = need_of policy (kind_of oid) ≤ length messages
AsksEnough (ReadAll oid policy size) messages = Unit {0}

-- what may be told when it is known what one more message of an attempt came to. Nothing is sent; a work waits while a
-- message is unanswered, or where the attempt failed and the request isn't refused; it is done where the attempt has
-- enough; its request is refused where it is untouched, the attempt failed and at least `tries` have ended, with the
-- first cause in the order of the targets
abbrev pub Tells : Gateway → ℕ → Work → Attempt → Act → Type 0
Tells gateway req work attempt (acts.Send sends) = ⊥
Tells gateway req work attempt acts.Wait =
    (is_over attempt.messages ≡ false)
    ⊎ (HasFailed work.work attempt.messages × (refusal_after_attempt gateway req work.work (work.ended + 1) attempt ≡ None))
Tells gateway req work attempt (acts.Done ended done) =
    (ended ≡ work.work) × (done.req ≡ req) × (is_over attempt.messages ≡ true) × HasEnough work.work attempt.messages
    × (done.bytes ≡ bytes_given work.work attempt.messages)
Tells gateway req work attempt (acts.Refused ended number cause) =
    (ended ≡ work.work) × (number ≡ req) × (is_touched req gateway ≡ false) × HasFailed work.work attempt.messages
    × (gateway.tries ≤ work.ended + 1) × (first_failure work.work attempt.epoch attempt.messages ≡ Some cause)

-- requests are numbered upwards
abbrev pub AreNumberedFrom : ℕ → List (NodeId × PeerReq) → Type 0
AreNumberedFrom first sends = map (λ (send : NodeId × PeerReq). send.1.number) sends ≡ range_with_len first (length sends)

-- what may be told when an attempt is to begin where members have so many zones: it begins where they are as many as it
-- has to begin in; with fewer a touched request waits, and an untouched one is refused
abbrev pub BeginsAttempt : Gateway → ℕ → Work → ℕ → ℕ → Act → Type 0
BeginsAttempt gateway req work first zones (acts.Send sends) = (zones_for work.work ≤ zones) × AreNumberedFrom first sends.list
BeginsAttempt gateway req work first zones acts.Wait = (zones < zones_for work.work) × (is_touched req gateway ≡ true)
BeginsAttempt gateway req work first zones (acts.Done ended done) = ⊥
BeginsAttempt gateway req work first zones (acts.Refused ended number cause) =
    (ended ≡ work.work) × (number ≡ req) × (zones < zones_for work.work) × (is_touched req gateway ≡ false)
    × (cause ≡ Halt zones (zones_for work.work))

-- the request is refused
abbrev pub RefusesWork : Act → Type 0
RefusesWork (acts.Send sends) = ⊥
RefusesWork acts.Wait = ⊥
RefusesWork (acts.Done ended done) = ⊥
RefusesWork (acts.Refused ended number cause) = Unit {0}

-- what a reply says has no piece of an object's bytes
abbrev pub HasNoPiece : PeerSay → Type 0
HasNoPiece says.Success = Unit {0}
HasNoPiece (says.Piece bytes) = ⊥
HasNoPiece (says.Objects objects) = Unit {0}
HasNoPiece (says.Row row) = Unit {0}
HasNoPiece says.NoRow = Unit {0}
HasNoPiece (says.Refused refusal) = Unit {0}

-- a work that is told done gave as many bytes as it gives by its kind and size
abbrev pub GivesItsBytes : Act → Type 0
GivesItsBytes (acts.Send sends) = Unit {0}
GivesItsBytes acts.Wait = Unit {0}
GivesItsBytes (acts.Done ended done) = length done.bytes ≡ bytes_of_work ended
GivesItsBytes (acts.Refused ended number cause) = Unit {0}

-- the work that an act tells done, if it tells that
abbrev pub work_done_in : Act → Option WorkDone
work_done_in (acts.Send sends) = None
work_done_in acts.Wait = None
work_done_in (acts.Done work done) = Some done
work_done_in (acts.Refused work req cause) = None

-- what is told done is the work of its request, and gave as many bytes as that gives by its kind and size
pub record IsWorkDone (gateway : Gateway) (done : WorkDone) : Type 0 where
  pub work : Work
  pub stands : tree.get gateway.works done.req ≡ Some work
  pub given : length done.bytes ≡ bytes_of_work work.work
