use Rattle.std.proofs.Common.{◌≤◌, ◌<◌, ◌-◌, suc, length, fold, sym, ap, ◌∙◌, arith}
use Rattle.std.specs.List.{range_with_len}
use Rattle.cluster_script.specs.Statements.{requests_of}
use Rattle.dog_report.specs.declared.settling.Lines.{Lines}
use Rattle.dog_report.specs.Settling.{lines_with_last}
use Rattle.dog_report.proofs.RangeLemmas.{range-first, range-past}
use Rattle.dog_report.proofs.RequestLaws.{there-within, there-none}
use Rattle.dog_report.proofs.settling.tell_later.Goals as goal

pub loop-lines-smaller : goal.loop-lines-smaller
loop-lines-smaller c =
    let within : c.loop-lines.next ≤ length (requests_of c.args.script.now)
    = (there-within c.args.script.now c.loop-lines.next (sym c.has_request.ensures ∙ c.loop-lines-test.true)).1 in
    omega (arith, within, c.in_ok-next.ensures)

pub loop-lines-preserved : goal.loop-lines-preserved
loop-lines-preserved c =
    let go_on = lines_with_last c.args.script.now c.args.world.now.world in
    let last = suc (length (requests_of c.args.script.now)) in
    let within : c.loop-lines.next ≤ length (requests_of c.args.script.now)
    = (there-within c.args.script.now c.loop-lines.next (sym c.has_request.ensures ∙ c.loop-lines-test.true)).1 in
    record {
      left =
          ap (λ (lines : Lines). fold go_on lines (range_with_len c.in_ok-next.next (last - c.in_ok-next.next))) c.in_ok-tell_last.ensures
          ∙ sym (ap (fold go_on c.loop-lines.lines)
          (range-first c.loop-lines.next c.in_ok-next.next last (omega (arith, within)) c.in_ok-next.ensures))
          ∙ c.loop-lines.invariant.left;
      behind = omega (arith, c.loop-lines.invariant.behind, c.in_ok-next.ensures);
    }

pub returns : goal.returns
returns c = λ from.
    let go_on = lines_with_last c.args.script.now c.args.world.now.world in
    let last = suc (length (requests_of c.args.script.now)) in
    let past : length (requests_of c.args.script.now) < c.loop-lines.next
    = there-none c.args.script.now c.loop-lines.next (omega (arith, from, c.loop-lines.invariant.behind))
    (sym c.has_request.ensures ∙ c.loop-lines-test.false) in
    sym (ap (fold go_on c.loop-lines.lines) (range-past c.loop-lines.next last (omega (arith, past)))) ∙ c.loop-lines.invariant.left
