use Rattle.std.proofs.Common.{◌∙◌}
use Rattle.peer_service.proofs.ServingLemmas.{refusal_keeps}
use Rattle.peer_service.proofs.peer_state.PeerState.serve.Goals as goal

pub returns-clause-refused : goal.returns-clause-refused
returns-clause-refused g c is = c.in_ok-say.ensures.peer ∙ refusal_keeps c.args.self.now c.args.req.now is
