use Rattle.std.proofs.Common.{sym, ◌∙◌}
use Rattle.std.specs.FinMap as tree
use Rattle.sheep_node.proofs.RefusedEnds.{found_ends}
use Rattle.sheep_node.proofs.step_state.StepState.refuse_request.Goals as goal

pub returns-in-Some : goal.returns-in-Some
returns-in-Some c =
    found_ends c.args.req c.in-Some.number c.args.cause c.in-Some.end (tree.get c.args.self.now.node.requests c.args.req) c.args.self.now
    c.end_refused.new.self c.end_refused.result (sym c.end_of_refused.ensures ∙ c.in-Some.is) c.end_refused.ensures
