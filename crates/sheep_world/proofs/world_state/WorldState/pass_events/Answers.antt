use Rattle.std.proofs.Common.{ℕ, ◌+◌, List, [], ◌∷◌, get_or, refl, drop, ap, sym, ◌∙◌}
use Rattle.sheep_node.specs.declared.event.Event.{Event}
use Rattle.sheep_node.specs.declared.event.Event.TheVariants as events
use Rattle.sheep_world.specs.EnabledPlaces.{place_behind_enabled}
use Rattle.sheep_world.proofs.EnabledPlaces.{behind-on, behind-found, left-first, left-none}
use Rattle.sheep_world.proofs.world_state.WorldState.pass_events.Goals as goal

pub loop-event-init : goal.loop-event-init
loop-event-init c = refl

pub loop-event-preserved : goal.loop-event-preserved
loop-event-preserved c =
    let i : ℕ = c.loop-event.event-index in
    let event : Event = get_or c.args.events.now i (events.Guest 0) in
    let later : List Event = drop (i + 1) c.args.events.now in
    behind-on c.args.script.now c.args.self.now (event ∷ []) later c.loop-event.left c.in-Continue.behind (sym c.in-Continue.is ∙ c.pass_event.ensures)
    ∙ ap (λ (found : List Event). place_behind_enabled c.args.script.now c.args.self.now found c.loop-event.left)
    (sym (left-first c.args.events.now i (events.Guest 0) c.loop-event-test.true))
    ∙ c.loop-event.invariant

pub returns-in-Break : goal.returns-in-Break
returns-in-Break c =
    let i : ℕ = c.loop-event.event-index in
    let event : Event = get_or c.args.events.now i (events.Guest 0) in
    let later : List Event = drop (i + 1) c.args.events.now in
    behind-found c.args.script.now c.args.self.now (event ∷ []) later c.loop-event.left c.in-Break.found (sym c.in-Break.is ∙ c.pass_event.ensures)
    ∙ ap (λ (found : List Event). place_behind_enabled c.args.script.now c.args.self.now found c.loop-event.left)
    (sym (left-first c.args.events.now i (events.Guest 0) c.loop-event-test.true))
    ∙ c.loop-event.invariant

pub returns : goal.returns
returns c =
    ap (λ (events : List Event). place_behind_enabled c.args.script.now c.args.self.now events c.loop-event.left)
    (sym (left-none c.args.events.now c.loop-event.event-index c.loop-event-test.false))
    ∙ c.loop-event.invariant
