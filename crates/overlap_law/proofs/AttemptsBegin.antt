-- An attempt behind a change of a moment was there before it, or is the one that begins in it.
use Rattle.std.proofs.Common.{◌≡◌, ◌⊎◌, inl, inr, ⊎_elim, arith, ℕ, ◌<◌, List, [], ◌∷◌, ◌++◌, length, Some, slice_get, refl, sym, ap, ◌∙◌}
use Rattle.std.proofs.lemmas.List.{length-map}
use Rattle.std.proofs.lemmas.Option.{slice_get_within}
use Rattle.message_wire.specs.declared.packet.Packet.TheVariants.{Request, Reply}
use Rattle.object_id.specs.declared.node.NodeId.{NodeId}
use Rattle.peer_proto.specs.declared.ask.PeerReq.{PeerReq}
use Rattle.overlap_law.specs.Attempts.{AttemptRecord, MessageFate, attempt_with_fate, attempts_with_fate}
use Rattle.overlap_law.specs.Packets.{Wire}
use Rattle.overlap_law.specs.Traffic.{Traffic, IsBegunBy, NothingMoves, MessageIsLost, ReplyIsReceived, RequestIsAnswered}
use Rattle.overlap_law.specs.Traffic.{RequestsAreSent, AttemptBegins, RepliesGo}
use Rattle.overlap_law.specs.Words.{Hosts}
use Rattle.overlap_law.proofs.AttemptLists.{got_more}

-- one begins, or there are as many as before
pub record Begins (hosts hosts_after : Hosts) (attempts after : List AttemptRecord) : Type 0 where
  pub n : ℕ
  pub sends : List (NodeId × PeerReq)
  pub attempt : AttemptRecord
  pub begun : IsBegunBy hosts hosts_after n sends attempt
  pub is : after ≡ attempts ++ attempt ∷ []

marked_long : (told : MessageFate) (sender : NodeId) (number : ℕ) (attempts : List AttemptRecord)
    → length (attempts_with_fate told sender number attempts) ≡ length attempts
unfolding attempts_with_fate
marked_long told sender number attempts = length-map attempts (attempt_with_fate told sender number)

begins_or_long : (hosts hosts_after : Hosts) (wire later : Wire) (attempts after : List AttemptRecord)
    → Traffic hosts hosts_after wire attempts later after → Begins hosts hosts_after attempts after ⊎ (length after ≡ length attempts)
begins_or_long hosts hosts_after wire later attempts after NothingMoves = inr refl
begins_or_long hosts hosts_after wire later attempts after (MessageIsLost name (Request to bytes) there) = inr (marked_long _ _ _ attempts)
begins_or_long hosts hosts_after wire later attempts after (MessageIsLost name (Reply from bytes) there) = inr refl
begins_or_long hosts hosts_after wire later attempts after (ReplyIsReceived name from bytes there) = inr refl
begins_or_long hosts hosts_after wire later attempts after (RequestIsAnswered name to bytes up rsp there answer) =
    inr (marked_long _ _ _ attempts)
begins_or_long hosts hosts_after wire later attempts after (RequestsAreSent n sends by nothing) = inr refl
begins_or_long hosts hosts_after wire later attempts after (AttemptBegins n sends attempt begun) =
    inl (record { n = n; sends = sends; attempt = attempt; begun = begun; is = refl })
begins_or_long hosts hosts_after wire later attempts after (RepliesGo n) = inr refl

-- an attempt behind the change was there, or is the one that begins
pub record IsNew (hosts hosts_after : Hosts) (attempts after : List AttemptRecord) (attempt : AttemptRecord) : Type 0 where
  pub begins : Begins hosts hosts_after attempts after
  pub same : begins.attempt ≡ attempt

module _ (hosts hosts_after : Hosts) (wire later : Wire) (attempts after : List AttemptRecord)
    (kind : Traffic hosts hosts_after wire attempts later after) (j : ℕ) (attempt : AttemptRecord)
    (at : slice_get after j ≡ Some attempt) where
  pub old_or_new : (j < length attempts) ⊎ IsNew hosts hosts_after attempts after attempt
  old_or_new = ⊎_elim
      (λ (begins : Begins hosts hosts_after attempts after). ⊎_elim
      (λ (old : slice_get attempts j ≡ Some attempt). inl (slice_get_within attempts j attempt old))
      (λ (new : (j ≡ length attempts) × (begins.attempt ≡ attempt)). inr (record { begins = begins; same = new.1 }))
      (got_more attempts begins.attempt j attempt (ap (λ (list : List AttemptRecord). slice_get list j) (sym begins.is) ∙ at)))
      (λ (long : length after ≡ length attempts). let below = slice_get_within after j attempt at in inl (omega (arith, long, below)))
      (begins_or_long hosts hosts_after wire later attempts after kind)
