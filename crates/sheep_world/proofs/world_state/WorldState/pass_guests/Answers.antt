use Rattle.std.proofs.Common.{ℕ, ◌+◌, ◌<◌, ◌≤◌, List, [], ◌∷◌, map, ap, sym, subst, ◌∙◌, arith}
use Rattle.std.specs.Prelude.{◌-◌}
use Rattle.std.specs.List.{range_with_len}
use Rattle.cluster_script.specs.Language.{IsScript}
use Rattle.sheep_node.specs.declared.event.Event.{Event}
use Rattle.sheep_node.specs.declared.event.Event.TheVariants as events
use Rattle.sheep_world.specs.EnabledPlaces.{place_behind, place_behind_enabled}
use Rattle.sheep_world.proofs.EnabledPlaces.{behind-on, behind-found}
use Rattle.sheep_world.proofs.SessionEvents.{guests-by-number, numbers-on, numbers-end}
use Rattle.sheep_world.proofs.world_state.WorldState.pass_guests.Goals as goal

pub loop-session-init : goal.loop-session-init
loop-session-init c =
    ap (λ (found : List Event). place_behind found c.args.place)
    (guests-by-number c.args.script.now c.args.self.now
    (subst IsScript c.statements-statements.ensures.statements c.statements-statements.ensures.script))

pub loop-session-preserved : goal.loop-session-preserved
loop-session-preserved c =
    let number : ℕ = c.loop-session.session in
    let less : number < 65 = omega (arith, c.loop-session-test.true) in
    behind-on c.args.script.now c.args.self.now (events.Guest number ∷ [])
    (map events.Guest (range_with_len (number + 1) (65 - (number + 1)))) c.loop-session.left
    c.in-Continue.behind (sym c.in-Continue.is ∙ c.pass_event.ensures)
    ∙ ap (λ (numbers : List ℕ). place_behind_enabled c.args.script.now c.args.self.now (map events.Guest numbers) c.loop-session.left)
    (sym (numbers-on number less))
    ∙ c.loop-session.invariant

pub returns : goal.returns
returns c =
    let past : 65 ≤ c.loop-session.session = omega (arith, c.loop-session-test.false) in
    ap (λ (numbers : List ℕ). place_behind_enabled c.args.script.now c.args.self.now (map events.Guest numbers) c.loop-session.left)
    (sym (numbers-end c.loop-session.session past))
    ∙ c.loop-session.invariant

pub returns-in-Break : goal.returns-in-Break
returns-in-Break c =
    let number : ℕ = c.loop-session.session in
    let less : number < 65 = omega (arith, c.loop-session-test.true) in
    behind-found c.args.script.now c.args.self.now (events.Guest number ∷ [])
    (map events.Guest (range_with_len (number + 1) (65 - (number + 1)))) c.loop-session.left
    c.in-Break.event (sym c.in-Break.is ∙ c.pass_event.ensures)
    ∙ ap (λ (numbers : List ℕ). place_behind_enabled c.args.script.now c.args.self.now (map events.Guest numbers) c.loop-session.left)
    (sym (numbers-on number less))
    ∙ c.loop-session.invariant
