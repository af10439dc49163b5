use Rattle.std.proofs.Common.{OnOk, ◌≡◌, subst}
use Rattle.sheep_node.specs.StepState.{StepState, with_guest_reply, request_ended}
use Rattle.sheep_node.proofs.step_state.StepState.end_request.Goals as goal

pub returns : goal.returns
unfolding request_ended
returns c =
    subst (λ (so_far : StepState). OnOk c.reply.result (c.reply.new.self ≡ with_guest_reply c.args.req c.args.reply so_far))
    c.in_ok-remove_request.ensures c.reply.ensures
