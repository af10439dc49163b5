use Rattle.std.proofs.Common.{◌≡◌, List, ap, sym, ◌∙◌}
use Rattle.sheep_node.specs.declared.event.Event.{Event}
use Rattle.sheep_world.specs.World.{World}
use Rattle.sheep_world.specs.EnabledPlaces.{place_behind, messages_of_sender}
use Rattle.sheep_world.proofs.SenderEvents.{deliveries-alone, deliveries-losses}
use Rattle.sheep_world.proofs.world_state.WorldState.pass_between_up.Goals as goal

pub returns-then-losses-eq0 : goal.returns-then-losses-eq0
returns-then-losses-eq0 c =
    let losses : c.self.inside.losses ≡ c.args.self.now.losses = ap (λ (world : World). world.losses) c.self.view_is in
    c.pass_deliveries.ensures
    ∙ ap (λ (found : List Event). place_behind found c.args.place)
    (deliveries-alone c.args.self.now.losses (messages_of_sender c.args.sender c.args.self.now) (sym losses ∙ c.if-losses-eq0.true))

pub returns : goal.returns
returns c =
    let losses : c.self.inside.losses ≡ c.args.self.now.losses = ap (λ (world : World). world.losses) c.self.view_is in
    c.pass_deliveries_and_losses.ensures
    ∙ ap (λ (found : List Event). place_behind found c.args.place)
    (deliveries-losses c.args.self.now.losses (messages_of_sender c.args.sender c.args.self.now) (λ none. c.if-losses-eq0.false (losses ∙ none)))
