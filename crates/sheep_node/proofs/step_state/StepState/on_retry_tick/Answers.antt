use Rattle.std.proofs.Common.{OnOk, ◌≡◌, ◌∙◌, ap, sym, subst}
use Rattle.gateway.specs.State.{MaySend}
use Rattle.gateway.specs.Step.{GatewayStep, retry_step}
use Rattle.sheep_node.specs.State.{Node}
use Rattle.sheep_node.specs.StepState.{StepState, with_gateway}
use Rattle.sheep_node.specs.Waiting.{after_act, after_gateway_step}
use Rattle.sheep_node.specs.Step.{on_retry_tick}
use Rattle.sheep_node.specs.InStep.{MayGoOnBy}
use Rattle.sheep_node.proofs.GoingOn.{retry_may_send, retry_goes_on}
use Rattle.sheep_node.proofs.step_state.StepState.on_retry_tick.Goals as goal

pub retry-requires : goal.retry-requires
retry-requires c =
    subst (λ (so_far : StepState). MaySend so_far.node.gateway so_far.node.epochs so_far.node.sends (record { 0 = so_far.node.peer.epoch }))
    (sym c.self.view_is) (retry_may_send c.args.self.now.node c.requires.may c.requires.sound)

pub after_act-requires : goal.after_act-requires
after_act-requires c =
    let node = c.args.self.now.node in
    let act = c.in_ok-act.act in
    let after = c.retry.new.self in
    let seen_with : Node → StepState = λ (node : Node). record {
      node = node;
      outputs = record {
        sends = c.self.inside.sends.items;
        say = c.self.inside.say;
        replies = c.self.inside.replies.items;
        put = c.self.inside.put;
      };
    } in
    let seen : seen_with after ≡ with_gateway after.gateway c.args.self.now
    = ap seen_with c.in_ok-act.ensures.node ∙ ap (with_gateway after.gateway) c.self.view_is in
    let is : retry_step node.epochs node.gateway node.sends (record { 0 = node.peer.epoch }) ≡ record { gateway = after.gateway; act = act }
    = ap (λ (so_far : StepState). retry_step so_far.node.epochs so_far.node.gateway so_far.node.sends (record { 0 = so_far.node.peer.epoch })) (sym c.self.view_is) ∙ c.in_ok-act.ensures.step in
    subst (MayGoOnBy act) (sym (seen ∙ ap (with_gateway after.gateway) c.requires.start))
    (retry_goes_on node c.requires.may c.requires.sound act after.gateway is)

pub returns : goal.returns
unfolding after_gateway_step on_retry_tick
returns c =
    let node = c.args.self.now.node in
    let act = c.in_ok-act.act in
    let after = c.retry.new.self in
    let seen_with : Node → StepState = λ (node : Node). record {
      node = node;
      outputs = record {
        sends = c.self.inside.sends.items;
        say = c.self.inside.say;
        replies = c.self.inside.replies.items;
        put = c.self.inside.put;
      };
    } in
    let seen : seen_with after ≡ with_gateway after.gateway c.args.self.now
    = ap seen_with c.in_ok-act.ensures.node ∙ ap (with_gateway after.gateway) c.self.view_is in
    let is : retry_step node.epochs node.gateway node.sends (record { 0 = node.peer.epoch }) ≡ record { gateway = after.gateway; act = act }
    = ap (λ (so_far : StepState). retry_step so_far.node.epochs so_far.node.gateway so_far.node.sends (record { 0 = so_far.node.peer.epoch })) (sym c.self.view_is) ∙ c.in_ok-act.ensures.step in
    subst (λ (so_far : StepState). OnOk c.after_act.result (c.after_act.new.self ≡ so_far))
    (ap (after_act act) seen ∙ sym (ap (λ (step : GatewayStep). after_gateway_step step c.args.self.now) is))
    c.after_act.ensures
