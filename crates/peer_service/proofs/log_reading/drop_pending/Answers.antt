use Rattle.std.proofs.Common.{rules}
use Rattle.peer_service.proofs.DropLemmas.{nothing_pending_gone}
use Rattle.peer_service.proofs.log_reading.drop_pending.Goals as goal

pub returns-then-is_empty : goal.returns-then-is_empty
returns-then-is_empty c = nothing_pending_gone c.args.vids.now c.args.pending.now (search rules)
