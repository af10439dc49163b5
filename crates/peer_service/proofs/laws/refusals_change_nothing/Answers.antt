use Rattle.std.proofs.Common.{refl}
use Rattle.peer_service.specs.Serve.{own_epoch_step}
use Rattle.peer_service.proofs.ServeLemmas.{served_refusal, read_changes_nothing}
use Rattle.peer_service.proofs.laws.refusals_change_nothing.Goals as goal

pub returns : goal.returns
unfolding own_epoch_step
returns c = record { refused = served_refusal; read = read_changes_nothing; list = λ peer. refl; recover = λ peer oid level. refl }
