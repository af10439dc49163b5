use Rattle.std.proofs.Common.{◌+◌, Option, refl, ap, false}
use Rattle.std.specs.Option.{option_map_or}
use Rattle.object_id.specs.declared.policy.Policy.{Policy}
use Rattle.peer_service.specs.Epochs.{has_at, peer_in_next_epoch}
use Rattle.peer_service.proofs.EpochLemmas.{entered_rows, entered_open, entered_call}
use Rattle.peer_service.proofs.laws.entering_drops_no_row.Goals as goal

pub returns : goal.returns
unfolding peer_in_next_epoch
returns c = record {
  next = λ me targets peer. refl;
  stays = λ me targets peer oid index. refl;
  unknown = λ me targets peer oid index none. ap (λ (policy : Option Policy). option_map_or (has_at me targets (peer.epoch + 1) oid index) policy false) none;
  rows = entered_rows;
  opened = entered_open;
  call = entered_call;
}
