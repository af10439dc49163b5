use Rattle.std.proofs.Common.{◌≡◌, ℕ, ◌+◌, ◌<◌, ◌≤◌, List, length, sym, ◌∙◌, arith}
use Rattle.sheep_node.specs.declared.event.Event.{Event}
use Rattle.sheep_world.specs.Enabled.{enabled_events, enabled_count}
use Rattle.sheep_world.proofs.EnabledParts.{enabled_count-length}
use Rattle.sheep_world.proofs.EnabledPlaces.{place_behind-left, place_behind-within}
use Rattle.sheep_world.proofs.world_state.WorldState.enabled_count.Goals as goal

pub returns-in-Continue-clause-ok : goal.returns-in-Continue-clause-ok
returns-in-Continue-clause-ok c =
    let all : List Event = enabled_events c.args.script.now c.args.self.now in
    let sum : c.in-Continue.left + length all ≡ 18446744073709551615
    = place_behind-left all 18446744073709551615 c.in-Continue.left (sym c.pass_all.ensures ∙ c.in-Continue.is) in
    let count : enabled_count c.args.script.now c.args.self.now ≡ length all = enabled_count-length c.args.script.now c.args.self.now in
    omega (arith, sum, count)

pub returns-in-Break-clause-err : goal.returns-in-Break-clause-err
returns-in-Break-clause-err c =
    let all : List Event = enabled_events c.args.script.now c.args.self.now in
    let more : 18446744073709551615 < length all
    = place_behind-within all 18446744073709551615 _ (sym c.pass_all.ensures ∙ c.in-Break.is) in
    let count : enabled_count c.args.script.now c.args.self.now ≡ length all = enabled_count-length c.args.script.now c.args.self.now in
    let most : 18446744073709551616 ≤ enabled_count c.args.script.now c.args.self.now = omega (arith, more, count) in
    most
