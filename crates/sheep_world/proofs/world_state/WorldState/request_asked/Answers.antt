use Rattle.std.proofs.Common.{◌≡◌, ◌+◌, ◌<◌, Some, sym, ap, subst, ◌∙◌}
use Rattle.cluster_script.specs.Index.{session_seen}
use Rattle.sheep_world.specs.World.{World, progress_at}
use Rattle.sheep_world.specs.NodeSteps.{at_rest}
use Rattle.sheep_world.specs.Effects.{request_started}
use Rattle.sheep_world.specs.GuestInParts.{input_effect, input_adds}
use Rattle.sheep_world.proofs.world_state.WorldState.request_asked.Goals as goal

pub request_started-requires : goal.request_started-requires
request_started-requires c =
    subst (λ (world : World). (progress_at c.args.session.number world).begun + 1 < 4294967296) (sym c.at_rest.ensures) c.requires

pub returns-clause-world : goal.returns-clause-world
returns-clause-world c =
    c.in_ok-world.ensures.world
    ∙ ap (input_effect c.args.script.now c.args.session.node c.args.req)
    (c.in_ok-begun.ensures ∙ ap (request_started (session_seen c.args.session) (Some c.args.req)) c.at_rest.ensures)

pub returns-clause-grown : goal.returns-clause-grown
returns-clause-grown c =
    let begun : World = request_started (session_seen c.args.session) (Some c.args.req) (at_rest c.args.self) in
    let is : c.in_ok-begun.begun ≡ begun
    = c.in_ok-begun.ensures ∙ ap (request_started (session_seen c.args.session) (Some c.args.req)) c.at_rest.ensures in
    c.in_ok-world.ensures.grown
    ∙ ap (λ (before : World). input_adds c.args.script.now c.args.req before c.in_ok-world.world c.in_ok-writes.writes) is
    ∙ ap (input_adds c.args.script.now c.args.req begun c.in_ok-world.world) c.in_ok-writes.ensures
