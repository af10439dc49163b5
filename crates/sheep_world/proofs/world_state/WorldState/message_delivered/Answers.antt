use Rattle.std.proofs.Common.{◌≡◌, IfOk, sym, ap, subst, ◌∙◌}
use Rattle.sheep_world.specs.declared.delivery.Delivery.TheVariants.{Request, Reply}
use Rattle.sheep_world.specs.Deliveries.{delivery_of}
use Rattle.sheep_world.specs.World.{World, message_at}
use Rattle.sheep_world.proofs.MadeDeliveries.{delivered}
use Rattle.sheep_world.proofs.world_state.WorldState.message_delivered.Goals as goal

pub returns-in-Request-clause-world : goal.returns-in-Request-clause-world
returns-in-Request-clause-world c =
    let read : Request c.in-Request.to c.in-Request.request ≡ delivery_of (message_at c.args.name c.args.self)
    = sym c.in-Request.is ∙ c.in_ok-delivery_of.ensures
    ∙ ap delivery_of (c.get.ensures ∙ ap (λ (world : World). message_at c.args.name world) c.self.view_is) in
    subst (λ (world : World). IfOk c.request_served.result (λ made. made.0 ≡ world))
    (delivered c.args.script.now c.args.name c.args.self (Request c.in-Request.to c.in-Request.request) read)
    c.request_served.ensures.world

pub returns-in-Reply-clause-world : goal.returns-in-Reply-clause-world
returns-in-Reply-clause-world c =
    let read : Reply c.in-Reply.rsp ≡ delivery_of (message_at c.args.name c.args.self)
    = sym c.in-Reply.is ∙ c.in_ok-delivery_of.ensures
    ∙ ap delivery_of (c.get.ensures ∙ ap (λ (world : World). message_at c.args.name world) c.self.view_is) in
    subst (λ (world : World). IfOk c.reply_brought.result (λ made. made.0 ≡ world))
    (delivered c.args.script.now c.args.name c.args.self (Reply c.in-Reply.rsp) read)
    c.reply_brought.ensures.world
