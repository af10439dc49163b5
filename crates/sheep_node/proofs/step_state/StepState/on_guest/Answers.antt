use Rattle.std.proofs.Common.{OnOk, Some, None, ◌≡◌, ◌∙◌, sym, subst}
use Rattle.sheep_node.specs.StepState.{StepState}
use Rattle.sheep_node.specs.MayTake.{MayTake}
use Rattle.sheep_node.proofs.GuestSteps.{may_take, come_to}
use Rattle.sheep_node.proofs.step_state.StepState.on_guest.Goals as goal

pub take_guest_ask-requires : goal.take_guest_ask-requires
take_guest_ask-requires c =
    subst (λ (so_far : StepState). MayTake c.args.number c.args.req c.args.ask so_far) (sym c.requires.start)
    (may_take c.args.self.now.node c.args.number c.args.req c.requires.sound c.args.ask c.requires.may (sym c.refusal_of.ensures ∙ c.in-None.is))

pub returns-in-Some : goal.returns-in-Some
returns-in-Some c =
    subst (λ (after : StepState). OnOk c.reply.result (c.reply.new.self ≡ after))
    (come_to c.args.number c.args.req c.args.ask c.args.self.now (Some c.in-Some.cause) (sym c.refusal_of.ensures ∙ c.in-Some.is))
    c.reply.ensures

pub returns-in-None : goal.returns-in-None
returns-in-None c =
    subst (λ (after : StepState). OnOk c.take_guest_ask.result (c.take_guest_ask.new.self ≡ after))
    (come_to c.args.number c.args.req c.args.ask c.args.self.now None (sym c.refusal_of.ensures ∙ c.in-None.is))
    c.take_guest_ask.ensures
