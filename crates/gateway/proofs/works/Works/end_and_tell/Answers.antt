use Rattle.std.specs.FinMap as tree
use Rattle.gateway.proofs.StepLemmas.{ends-told}
use Rattle.gateway.proofs.works.Works.end_and_tell.Goals as goal

pub returns-clause-ok : goal.returns-clause-ok
returns-clause-ok c =
    ends-told (tree.get c.args.self.now c.args.req) c.args.self.now c.end_message.new.self c.tell.new.self c.args.req c.args.number c.args.status
    c.args.tries c.args.touched c.in_ok-outcome.outcome c.tell.result c.in_ok-outcome.ensures.outcome c.in_ok-outcome.ensures.ok c.tell.ensures.works
    c.tell.ensures.act
