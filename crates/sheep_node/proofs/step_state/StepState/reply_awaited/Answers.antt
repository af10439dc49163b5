use Rattle.std.proofs.Common.{OnOk, ◌≡◌, ◌∙◌, ap, sym, subst}
use Rattle.std.specs.Prelude.{IsTrue}
use Rattle.gateway.specs.State.{fits_gateway}
use Rattle.gateway.specs.Step.{GatewayStep, gateway_on_reply}
use Rattle.sheep_node.specs.State.{Node}
use Rattle.sheep_node.specs.StepState.{StepState, with_gateway}
use Rattle.sheep_node.specs.Waiting.{after_act, after_gateway_step}
use Rattle.sheep_node.specs.InStep.{MayGoOnBy}
use Rattle.sheep_node.proofs.GoingOn.{fits_where_awaited, reply_goes_on}
use Rattle.sheep_node.proofs.step_state.StepState.reply_awaited.Goals as goal

pub reply_to_gateway-requires : goal.reply_to_gateway-requires
reply_to_gateway-requires c =
    subst (λ (so_far : StepState). IsTrue (fits_gateway c.args.rsp.now so_far.node.gateway)) (sym c.self.view_is)
    (fits_where_awaited c.args.self.now.node c.args.rsp.now
    (c.requires.sound.one_work.recovers c.args.rsp.now.number c.requires.waits) c.requires.may.condition)

pub after_act-requires : goal.after_act-requires
after_act-requires c =
    let node = c.args.self.now.node in
    let act = c.in_ok-act.act in
    let after = c.reply_to_gateway.new.self in
    let seen_with : Node → StepState = λ (node : Node). record {
      node = node;
      outputs = record {
        sends = c.self.inside.sends.items;
        say = c.self.inside.say;
        replies = c.self.inside.replies.items;
        put = c.self.inside.put;
      };
    } in
    let seen : seen_with after ≡ with_gateway after.gateway c.args.self.now
    = ap seen_with c.in_ok-act.ensures.node ∙ ap (with_gateway after.gateway) c.self.view_is in
    let is : gateway_on_reply node.gateway c.args.rsp.now ≡ record { gateway = after.gateway; act = act }
    = ap (λ (so_far : StepState). gateway_on_reply so_far.node.gateway c.args.rsp.now) (sym c.self.view_is) ∙ c.in_ok-act.ensures.step in
    subst (MayGoOnBy act) (sym (seen ∙ ap (with_gateway after.gateway) c.requires.start))
    (reply_goes_on c.args.rsp.now node c.requires.may c.requires.sound c.requires.waits act after.gateway is c.in_ok-act.ensures.given)

pub returns : goal.returns
unfolding after_gateway_step
returns c =
    let node = c.args.self.now.node in
    let act = c.in_ok-act.act in
    let after = c.reply_to_gateway.new.self in
    let seen_with : Node → StepState = λ (node : Node). record {
      node = node;
      outputs = record {
        sends = c.self.inside.sends.items;
        say = c.self.inside.say;
        replies = c.self.inside.replies.items;
        put = c.self.inside.put;
      };
    } in
    let seen : seen_with after ≡ with_gateway after.gateway c.args.self.now
    = ap seen_with c.in_ok-act.ensures.node ∙ ap (with_gateway after.gateway) c.self.view_is in
    let is : gateway_on_reply node.gateway c.args.rsp.now ≡ record { gateway = after.gateway; act = act }
    = ap (λ (so_far : StepState). gateway_on_reply so_far.node.gateway c.args.rsp.now) (sym c.self.view_is) ∙ c.in_ok-act.ensures.step in
    subst (λ (so_far : StepState). OnOk c.after_act.result (c.after_act.new.self ≡ so_far))
    (ap (after_act act) seen ∙ sym (ap (λ (step : GatewayStep). after_gateway_step step c.args.self.now) is))
    c.after_act.ensures
