use Rattle.std.proofs.Common.{◌≤◌, length, sym, ◌∙◌, arith}
use Rattle.cluster_script.specs.Statements.{requests_of}
use Rattle.dog_report.specs.Settling.{settling_of, settling_after}
use Rattle.dog_report.proofs.RangeLemmas.{range-step}
use Rattle.dog_report.proofs.RequestLaws.{begun-within}
use Rattle.dog_report.proofs.settling.settle_begun.Goals as goal

pub loop-lines-smaller : goal.loop-lines-smaller
loop-lines-smaller c =
    let within : c.loop-lines.next ≤ length (requests_of c.args.script.now)
    = begun-within c.args.script.now c.phase.result c.loop-lines.next (sym c.is_phase_begun.ensures ∙ c.loop-lines-test.true) in
    omega (arith, within, c.in_ok-next.ensures)

pub loop-lines-preserved : goal.loop-lines-preserved
loop-lines-preserved c = record {
  settled = range-step (settling_after c.args.script.now c.args.world.now.world) (settling_of c.args.lines.now c.args.kept.now)
      (settling_of c.loop-lines.lines c.loop-lines.kept) (settling_of c.settle.new.lines c.settle.new.kept) c.args.first c.loop-lines.next
      c.in_ok-next.next c.loop-lines.invariant.behind c.in_ok-next.ensures c.loop-lines.invariant.settled c.in_ok-settle.ensures;
  behind = omega (arith, c.loop-lines.invariant.behind, c.in_ok-next.ensures);
  within = λ fits.
      let within : c.loop-lines.next ≤ length (requests_of c.args.script.now)
      = begun-within c.args.script.now c.phase.result c.loop-lines.next (sym c.is_phase_begun.ensures ∙ c.loop-lines-test.true) in
      omega (arith, within, c.in_ok-next.ensures);
}
