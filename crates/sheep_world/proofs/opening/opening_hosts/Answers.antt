use Rattle.std.proofs.Common.{◌≡◌, ℕ, ◌-◌, ap, ◌∙◌, arith}
use Rattle.sheep_world.proofs.OpeningNodes.{hosts_from, hosts_from-more}
use Rattle.sheep_world.proofs.opening.opening_hosts.Goals as goal

pub loop-placed-preserved : goal.loop-placed-preserved
loop-placed-preserved c =
    hosts_from-more c.args.script.now c.opening_count-count.result c.loop-placed.placed c.loop-placed.hosts c.put.new.self c.in_ok-host.host
    c.loop-placed-test.true c.loop-placed.invariant c.in_ok-host.ensures c.in_ok-put.ensures

pub returns : goal.returns
returns c =
    let count : ℕ = c.opening_count-count.result in
    let all : c.loop-placed.placed ≡ count = omega (arith, c.loop-placed-test.false, c.loop-placed.auto.placed-end) in
    let none : count - c.loop-placed.placed ≡ 0 = omega (arith, all) in
    c.loop-placed.invariant
    ∙ ap (λ (start : ℕ). hosts_from c.args.script.now start c.loop-placed.placed) none
    ∙ ap (hosts_from c.args.script.now 0) (all ∙ c.opening_count-count.ensures.value)
