use Rattle.sheep_proto.proofs.RequestLemmas.{one-request, encoded-request}
use Rattle.sheep_proto.proofs.laws.requests_are_read_again.Goals as goal

pub returns-clause-one : goal.returns-clause-one
returns-clause-one c = one-request

pub returns-clause-encoded : goal.returns-clause-encoded
returns-clause-encoded c = encoded-request
