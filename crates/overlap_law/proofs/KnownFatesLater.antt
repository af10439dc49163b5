-- What is known of messages of open attempts fits their fates still, as fates of other messages are told.
use Rattle.std.proofs.Common.{◌≡◌, ◌⊎◌, inl, ℕ, false, List, Some, slice_get, refl, sym, ap, subst, ◌∙◌}
use Rattle.std.specs.FinMap as tree
use Rattle.object_id.specs.declared.node.NodeId.{NodeId}
use Rattle.peer_service.specs.Serve.{reply_to}
use Rattle.message_wire.specs.declared.name.MessageName.{MessageName}
use Rattle.message_wire.specs.declared.packet.Packet.{Packet}
use Rattle.message_wire.specs.declared.packet.Packet.TheVariants as packets
use Rattle.gateway.specs.declared.message.Message.{Message}
use Rattle.gateway.specs.Attempt as gateways
use Rattle.gateway.specs.State.{Work}
use Rattle.sheep_node.specs.State.{Node}
use Rattle.sheep_world.specs.World.{Host}
use Rattle.sheep_world.specs.NodeCauses.{NodeCause, GuestAsks, RequestComes, ReplyComes, LossIsTold, EntryIsRead, EntryIsPut, RecoveryTicks}
use Rattle.sheep_world.specs.NodeCauses.{WorkIsRetried, ClientAsks}
use Rattle.overlap_law.specs.Attempts.{AttemptRecord, MessageFate, Doomed, known_fate, attempts_with_fate, fate_of_say}
use Rattle.overlap_law.specs.OpenWorks.{IsTheSame, IsOpenAs}
use Rattle.overlap_law.specs.Reached.{Hosts}
use Rattle.overlap_law.specs.StepMoments.{attempts_with_loss, attempts_at_cause}
use Rattle.overlap_law.proofs.AttemptLists.{fates_told, got_marked}
use Rattle.overlap_law.proofs.KnownFates.{FitsFate, fate_told, fits_later, refated_same}

-- what a node knows is true of these attempts
abbrev pub NodeFits : Node → List AttemptRecord → Type 0
NodeFits node attempts = (j : ℕ) (attempt : AttemptRecord) → slice_get attempts j ≡ Some attempt
    → (req : ℕ) (work : Work) (current : gateways.Attempt) (place : ℕ) (message : Message) (fate : MessageFate)
    → IsOpenAs node req work current attempt → slice_get current.messages place ≡ Some message → slice_get attempt.fates place ≡ Some fate
    → FitsFate message.status fate

-- so it is of each node that isn't lost
abbrev pub KnownFatesFit : Hosts → List AttemptRecord → Type 0
KnownFatesFit hosts attempts = (n : ℕ) (host : Host) → tree.get hosts n ≡ Some host → host.is_lost ≡ false → NodeFits host.node attempts

-- an attempt after an event was one before, but for what was told of a message
pub record WasMarked (attempts : List AttemptRecord) (j : ℕ) (now : AttemptRecord) : Type 0 where
  pub was : AttemptRecord
  pub at : slice_get attempts j ≡ Some was
  pub told : MessageFate
  pub fates : List MessageFate
  pub same : record was { fates = fates } ≡ now
  pub fates_so : (place : ℕ) (fate : MessageFate) → slice_get fates place ≡ Some fate
      → (f : MessageFate) × (slice_get was.fates place ≡ Some f) × ((fate ≡ f) ⊎ (fate ≡ known_fate told f))

pub as_it_was : (attempts : List AttemptRecord) (j : ℕ) (now : AttemptRecord) → slice_get attempts j ≡ Some now → WasMarked attempts j now
as_it_was attempts j now got =
    record { was = now; at = got; told = Doomed; fates = now.fates; same = refl; fates_so = λ place fate at. (fate, at, inl refl) }

pub marked_was : (told : MessageFate) (sender : NodeId) (number : ℕ) (attempts : List AttemptRecord) (j : ℕ) (now : AttemptRecord)
    → slice_get (attempts_with_fate told sender number attempts) j ≡ Some now → WasMarked attempts j now
marked_was told sender number attempts j now got =
    let (was, at, is) = got_marked told sender number attempts j now got in
    record {
      was = was;
      at = at;
      told = told;
      fates = fates_told told sender number was;
      same = is;
      fates_so = λ place fate got. fate_told told sender number place fate was got;
    }

pub lost_was : (name : MessageName) (packet : Packet) (attempts : List AttemptRecord) (j : ℕ) (now : AttemptRecord)
    → slice_get (attempts_with_loss name packet attempts) j ≡ Some now → WasMarked attempts j now
lost_was name (packets.Request to bytes) attempts j now got = marked_was Doomed name.sender name.number attempts j now got
lost_was name (packets.Reply from bytes) attempts j now got = as_it_was attempts j now got

pub caused_was : (node : Node) (cause : NodeCause) (attempts : List AttemptRecord) (j : ℕ) (now : AttemptRecord)
    → slice_get (attempts_at_cause node cause attempts) j ≡ Some now → WasMarked attempts j now
caused_was node (GuestAsks session req ask) attempts j now got = as_it_was attempts j now got
caused_was node (RequestComes name to request) attempts j now got =
    marked_was (fate_of_say (reply_to node.peer request).say) name.sender name.number attempts j now got
caused_was node (ReplyComes name from rsp) attempts j now got = as_it_was attempts j now got
caused_was node (LossIsTold name packet) attempts j now got = lost_was name packet attempts j now got
caused_was node (EntryIsRead entry) attempts j now got = as_it_was attempts j now got
caused_was node (EntryIsPut entry) attempts j now got = as_it_was attempts j now got
caused_was node RecoveryTicks attempts j now got = as_it_was attempts j now got
caused_was node WorkIsRetried attempts j now got = as_it_was attempts j now got
caused_was node (ClientAsks req ask) attempts j now got = as_it_was attempts j now got

-- what was known by a node that is as it was
pub one_fits : (node : Node) (before : List AttemptRecord) (j : ℕ) (now : AttemptRecord) → WasMarked before j now → NodeFits node before
    → (req : ℕ) (work : Work) (current : gateways.Attempt) (place : ℕ) (message : Message) (fate : MessageFate)
    → IsOpenAs node req work current now → slice_get current.messages place ≡ Some message → slice_get now.fates place ≡ Some fate
    → FitsFate message.status fate
one_fits node before j now w fit req work current place message fate opened got has =
    let (f, was_at, either) = w.fates_so place fate (ap (λ (a : AttemptRecord). slice_get a.fates place) w.same ∙ has) in
    let same = refated_same node req work.work current w.was w.fates
    (subst (IsTheSame node req work.work current) (sym w.same) opened.same) in
    fits_later message.status w.told f fate either
    (fit j w.was w.at req work current place message f
    (record { there = opened.there; making = opened.making; stage = opened.stage; same = same }) got was_at)

pub still_fits : (node : Node) (before after : List AttemptRecord)
    → ((j : ℕ) (now : AttemptRecord) → slice_get after j ≡ Some now → WasMarked before j now) → NodeFits node before → NodeFits node after
still_fits node before after marked fit j now at req work current place message fate opened got has =
    one_fits node before j now (marked j now at) fit req work current place message fate opened got has
