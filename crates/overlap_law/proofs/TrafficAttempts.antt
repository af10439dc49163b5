-- An attempt after a change of a moment was one before, but for what was told of a message, or it begins.
use Rattle.std.proofs.Common.{◌≡◌, ◌⊎◌, inl, inr, ⊎_elim, ℕ, List, length, slice_get, Some, refl, subst}
use Rattle.object_id.specs.declared.node.NodeId.{NodeId}
use Rattle.peer_proto.specs.declared.ask.PeerReq.{PeerReq}
use Rattle.overlap_law.specs.Attempts.{AttemptRecord, MessageFate, Flying, Served, Doomed, known_fate, fate_of_say}
use Rattle.overlap_law.specs.Reached.{Hosts}
use Rattle.overlap_law.specs.Packets.{Wire}
use Rattle.overlap_law.specs.Traffic.{IsBegunBy, Traffic, NothingMoves, MessageIsLost, ReplyIsReceived, RequestIsAnswered, RequestsAreSent}
use Rattle.overlap_law.specs.Traffic.{AttemptBegins, RepliesGo}
use Rattle.overlap_law.proofs.AttemptLists.{got_more}
use Rattle.overlap_law.proofs.KnownFatesLater.{WasMarked, as_it_was, marked_was, lost_was}

-- an attempt begins between two states of the hosts
pub record HasBegun (hosts hosts_after : Hosts) (attempt : AttemptRecord) : Type 0 where
  pub n : ℕ
  pub sends : List (NodeId × PeerReq)
  pub begun : IsBegunBy hosts hosts_after n sends attempt

pub came_from : (hosts hosts_after : Hosts) (wire : Wire) (attempts : List AttemptRecord) {later : Wire} {after : List AttemptRecord}
    → Traffic hosts hosts_after wire attempts later after → (j : ℕ) (now : AttemptRecord) → slice_get after j ≡ Some now
    → WasMarked attempts j now ⊎ HasBegun hosts hosts_after now
came_from hosts hosts_after wire attempts NothingMoves j now got = inl (as_it_was attempts j now got)
came_from hosts hosts_after wire attempts (MessageIsLost name packet there) j now got = inl (lost_was name packet attempts j now got)
came_from hosts hosts_after wire attempts (ReplyIsReceived name from bytes there) j now got = inl (as_it_was attempts j now got)
came_from hosts hosts_after wire attempts (RequestIsAnswered name to bytes up rsp there answer) j now got =
    inl (marked_was (fate_of_say rsp.say) name.sender name.number attempts j now got)
came_from hosts hosts_after wire attempts (RequestsAreSent n sends by nothing) j now got = inl (as_it_was attempts j now got)
came_from hosts hosts_after wire attempts (AttemptBegins n sends new begun) j now got = ⊎_elim
    (λ (old : slice_get attempts j ≡ Some now). inl (as_it_was attempts j now old))
    (λ (own : (j ≡ length attempts) × (new ≡ now)).
    inr (record { n = n; sends = sends; begun = subst (IsBegunBy hosts hosts_after n sends) own.1 begun }))
    (got_more attempts new j now got)
came_from hosts hosts_after wire attempts (RepliesGo n) j now got = inl (as_it_was attempts j now got)

-- what is served then was served, or flew
pub served_before : (told was now : MessageFate) → (now ≡ was) ⊎ (now ≡ known_fate told was) → now ≡ Served
    → (was ≡ Served) ⊎ (was ≡ Flying)
served_before told Flying now either served = inr refl
served_before told Served now either served = inl refl
served_before told Doomed now either served = ⊎_elim
    (λ (same : now ≡ Doomed). absurd (cc (same, served)))
    (λ (same : now ≡ Doomed). absurd (cc (same, served)))
    either
