use Rattle.std.proofs.Common.{take}
use Rattle.vnode_table.specs.Targets.{targets_in}
use Rattle.peer_service.specs.Epochs.{stays_open}
use Rattle.peer_service.proofs.EnteringLemmas.{KeptSoFar}
use Rattle.peer_service.proofs.peer_state.PeerState.kept_keys.Given as goal

abbrev pub invariant-loop-oid : goal.invariant-loop-oid
invariant-loop-oid g l = KeptSoFar l.keys.items (take l.oid-index l.oid-items) (stays_open l.me (targets_in l.place) l.self)
