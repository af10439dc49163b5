use Rattle.std.proofs.Common.{Some, ap, ◌∙◌}
use Rattle.sheep_node.specs.Step.{on_request}
use Rattle.sheep_node.proofs.step_state.StepState.on_request.Goals as goal

pub returns : goal.returns
unfolding on_request
returns c =
    (λ i. record {
      node = c.in_ok-serve.ensures.node i;
      outputs = record {
        sends = c.self.inside.sends.items;
        say = Some (c.in_ok-serve.ensures.reply i);
        replies = c.self.inside.replies.items;
        put = c.self.inside.put;
      };
    })
    ∙ ap (on_request c.args.request.now) c.self.view_is
