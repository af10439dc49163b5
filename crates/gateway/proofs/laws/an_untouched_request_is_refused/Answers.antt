use Rattle.gateway.proofs.FailureLaws.{refusal-there}
use Rattle.gateway.proofs.laws.an_untouched_request_is_refused.Goals as goal

pub returns : goal.returns
returns c = refusal-there
