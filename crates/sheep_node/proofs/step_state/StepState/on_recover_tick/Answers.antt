use Rattle.std.proofs.Common.{OnOk, ◌≡◌, ◌∙◌, ◌+◌, ◌<◌, ◌^◌, length, ap, sym, subst}
use native.Mathlib.Omega.{arith}
use Rattle.recovery.specs.Tick.{tick_sends}
use Rattle.sheep_node.specs.State.{Node}
use Rattle.sheep_node.specs.StepState.{StepState, with_sends}
use Rattle.sheep_node.specs.RecoveryView.{recovery_state_of}
use Rattle.sheep_node.specs.Step.{on_recover_tick}
use Rattle.sheep_node.proofs.GoingOn.{tick_fits}
use Rattle.sheep_node.proofs.step_state.StepState.on_recover_tick.Goals as goal

pub send-requires : goal.send-requires
send-requires c =
    let had = c.self.inside.node in
    let room : had.sends + length (tick_sends had.sends (recovery_state_of had)) < 2 ^ 32
    = subst (λ (so_far : StepState). so_far.node.sends + length (tick_sends so_far.node.sends (recovery_state_of so_far.node)) < 2 ^ 32)
    (sym c.self.view_is) (tick_fits c.args.self.now.node c.requires.may c.requires.sound) in
    let sends = ap (λ (node : Node). node.sends) c.in_ok-sends.ensures.node in
    let count = ap length c.in_ok-sends.ensures.sends in
    omega (arith, room, sends, count)

pub returns : goal.returns
unfolding on_recover_tick
returns c =
    let seen_with : Node → StepState = λ (node : Node). record {
      node = node;
      outputs = record {
        sends = c.self.inside.sends.items;
        say = c.self.inside.say;
        replies = c.self.inside.replies.items;
        put = c.self.inside.put;
      };
    } in
    subst (λ (after : StepState). OnOk c.send.result (c.send.new.self ≡ after))
    ((λ i. with_sends (c.in_ok-sends.ensures.sends i) (seen_with (c.in_ok-sends.ensures.node i))) ∙ ap on_recover_tick c.self.view_is)
    c.send.ensures
