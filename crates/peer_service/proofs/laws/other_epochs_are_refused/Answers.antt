use Rattle.std.proofs.Common.{refl}
use Rattle.peer_service.proofs.ServeLemmas.{peer_step-older, peer_step-newer, peer_step-own, admission-own}
use Rattle.peer_service.proofs.laws.other_epochs_are_refused.Goals as goal

pub returns : goal.returns
returns c = record {
  older = peer_step-older;
  newer = peer_step-newer;
  own = peer_step-own;
  admitted = admission-own;
  reply = λ peer request. refl;
}
