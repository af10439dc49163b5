-- No refusal changes anything.
use Rattle.std.proofs.Common.{◌≡◌, true, refl}
use Rattle.peer_proto.specs.declared.ask.PeerReq.{PeerReq}
use Rattle.peer_proto.specs.declared.say.PeerSay.{PeerSay}
use Rattle.peer_proto.specs.declared.say.PeerSay.TheVariants as says
use Rattle.peer_service.specs.State.{Peer}
use Rattle.peer_service.specs.Serve.{peer_step, tells_refusal}
use Rattle.peer_service.proofs.ServeLemmas.{served_refusal}

pub refusal_keeps : (peer : Peer) (request : PeerReq) → tells_refusal (peer_step peer request).say ≡ true → (peer_step peer request).peer ≡ peer
refusal_keeps peer request = go (peer_step peer request).say refl
  where
    go : (say : PeerSay) → (peer_step peer request).say ≡ say → tells_refusal say ≡ true → (peer_step peer request).peer ≡ peer
    go says.Success is says_so = absurd (cc (says_so))
    go (says.Piece bytes) is says_so = absurd (cc (says_so))
    go (says.Objects oids) is says_so = absurd (cc (says_so))
    go (says.Row row) is says_so = absurd (cc (says_so))
    go says.NoRow is says_so = absurd (cc (says_so))
    go (says.Refused refusal) is says_so = served_refusal peer request refusal is
