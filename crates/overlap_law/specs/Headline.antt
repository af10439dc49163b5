-- The headline: what every run of every script keeps.
use Rattle.std.specs.Prelude.{◌≡◌, ◌≢◌, ℕ, Bool, true, false, List, [], fold, Some, Ok}
use Rattle.std.specs.List.{list_any}
use Rattle.object_id.specs.declared.node.NodeId.{NodeId}
use Rattle.disk_history.specs.declared.event.HistEvent.{HistEvent}
use Rattle.disk_history.specs.Ledger.{Ledger, empty_ledger, is_item_of, ledger_after}
use Rattle.disk_history.specs.Legal.{IsLegal}
use Rattle.disk_history.specs.Changes.{items_in}
use Rattle.peer_proto.specs.declared.ask.PeerReq.{PeerReq}
use Rattle.peer_proto.specs.declared.say.Refusal.{Refusal}
use Rattle.peer_proto.specs.declared.say.PeerSay.TheVariants as says
use Rattle.peer_proto.specs.Ask.{ask_in}
use Rattle.peer_service.specs.Fence.{epoch_refusal}
use Rattle.cluster_script.specs.declared.statement.Statement.{Statement}
use Rattle.cluster_script.specs.Language.{IsScript}
use Rattle.sheep_node.specs.declared.event.Event.TheVariants.{Deliver}
use Rattle.sheep_node.specs.State.{Node}
use Rattle.message_wire.specs.declared.name.MessageName.{MessageName}
use Rattle.message_wire.specs.declared.packet.Packet.TheVariants.{Request}
use Rattle.sheep_world.specs.World.{World, node_at, message_at}
use Rattle.sheep_world.specs.Step.{EventOutcome, step}
use Rattle.sheep_world.specs.RunsWithAsks.{Move}
use Rattle.overlap_law.specs.Attempts.{AttemptRecord, has_message}
use Rattle.overlap_law.specs.Words.{is_mute}
use Rattle.overlap_law.specs.Holders.{is_object_among}
use Rattle.overlap_law.specs.Each.{EachAttempt}
use Rattle.overlap_law.specs.Past.{Past, MomentWithPast, run_with_past}
use Rattle.overlap_law.specs.RefusedCommands.{RefusedCommandsChangeNothing}

-- the replies are one legal history, where the reads of disks that weren't available up to there are left out. A block that is
-- torn, since a gateway was lost within a coded write, may be read as anything until its next acknowledged write
abbrev pub IsLegalWhereAvailable : Past → Type 0
IsLegalWhereAvailable past = IsLegal past.available_history

-- what a history says of all disks
abbrev pub ledger_of : List HistEvent → Ledger
ledger_of history = fold ledger_after empty_ledger history

-- a refused request has no item in the list of any block
abbrev pub RefusedHaveNoItems : List ℕ → List HistEvent → Type 0
RefusedHaveNoItems refused history = (req disk block : ℕ) → is_object_among req refused ≡ true
    → list_any (is_item_of req) (items_in ((ledger_of history).disks disk) block) ≡ false

-- whether a message of an attempt, or the reply to it, was lost
abbrev pub has_lost : List MessageName → AttemptRecord → Bool
has_lost lost attempt = list_any (λ (name : MessageName). has_message name.sender name.number attempt) lost

-- no message of the attempt succeeded, or was lost
pub record IsWithoutEffect (lost : List MessageName) (attempt : AttemptRecord) : Type 0 where
  pub none_succeeded : is_mute attempt ≡ true
  pub none_lost : has_lost lost attempt ≡ false

-- no create or write message of a refused request succeeded or was lost
abbrev pub RefusedMakeNothing : List ℕ → List MessageName → List AttemptRecord → Type 0
RefusedMakeNothing refused lost attempts =
    EachAttempt attempts (λ j attempt. is_object_among attempt.req refused ≡ true → IsWithoutEffect lost attempt)

-- a peer's request of another epoch than the node's comes to the node, by an event that makes this
pub record IsOfAnotherEpoch (script : List Statement) (world : World) (name : MessageName) (to : NodeId) (node : Node) (request : PeerReq)
    (made : EventOutcome) : Type 0 where
  pub bytes : List ℕ
  pub packet : message_at name world ≡ Some (Request to bytes)
  pub decoded : ask_in bytes ≡ Ok request
  pub asked : node_at to.0 world ≡ Some node
  pub another : request.epoch.0 ≢ node.peer.epoch
  pub delivered : step script (Deliver name.sender name.number) world ≡ Some made

-- the node says that the epoch is older or newer than its own, and is as it was before; the history gets nothing
pub record ChangesNothing (to : NodeId) (node : Node) (request : PeerReq) (made : EventOutcome) : Type 0 where
  pub refusal : Refusal
  pub why : epoch_refusal node.peer.epoch request.epoch.0 ≡ Some refusal
  pub said : made.world.outputs.say
      ≡ Some (record { number = request.number; epoch = record { 0 = node.peer.epoch }; say = says.Refused refusal })
  pub same : node_at to.0 made.world ≡ Some node
  pub silent : made.grown ≡ []

-- peer requests of another epoch change nothing
abbrev pub OtherEpochsChangeNothing : List Statement → World → Type 0
OtherEpochsChangeNothing script world = (name : MessageName) (to : NodeId) (node : Node) (request : PeerReq) (made : EventOutcome)
    → IsOfAnotherEpoch script world name to node request made → ChangesNothing to node request made

-- what a run keeps up to a moment
pub record KeepsHeadline (script : List Statement) (moment : MomentWithPast) : Type 0 where
  pub legal : IsLegalWhereAvailable moment.past
  pub no_items : RefusedHaveNoItems moment.past.refused moment.past.history
  pub nothing_made : RefusedMakeNothing moment.past.refused moment.past.lost moment.past.attempts
  pub commands : RefusedCommandsChangeNothing script moment
  pub other_epochs : OtherEpochsChangeNothing script moment.world

-- For every script and interleaving of requests, deliveries, losses, epoch changes and recoveries, the replies are one legal
-- history: each block read from a disk, snapshot or clone is its last acknowledged write or a later unacknowledged one, and
-- refused requests change nothing, peer requests of another epoch among them, while every epoch since the last finished recovery
-- keeps enough live holders and no gateway dies within a coded write. Between the events a client without a script may read objects, by
-- their ids: the replies to the script's requests are one legal history all the same. What the client is told is no part of the history,
-- and nothing is said of it here.
abbrev pub Headline : List Statement → Type 0
Headline script = IsScript script → (moves : List Move) (moment : MomentWithPast) → run_with_past script moves ≡ Some moment
    → KeepsHeadline script moment
