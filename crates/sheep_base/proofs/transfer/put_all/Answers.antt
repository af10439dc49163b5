use Rattle.std.proofs.Common.{◌≡◌, ◌-◌, length, take, drop, arith, length-drop}
use Rattle.std.proofs.Math.Seq.{take-add}
use Rattle.std.proofs.lemmas.List.{take_rest}
use Rattle.sheep_base.proofs.SinkLemmas.{Gains-trans}
use Rattle.sheep_base.proofs.transfer.put_all.Goals as goal

pub loop-at-preserved : goal.loop-at-preserved
loop-at-preserved g c =
    let text = c.args.text.now in
    let at = c.loop-at.at in
    let n = c.in_ok-at.field-0 in
    let rest : take (length text - at) (drop at text) ≡ drop at text = take_rest text at in
    let bound = rw rest at c.in_ok-at.ensures.bound in
    let bytes = rw rest at c.in_ok-at.ensures.bytes in
    record {
      given = rw (take-add at n text) (Gains-trans _ _ _ _ _ _ c.loop-at.invariant.given bytes);
      within = omega (arith, length-drop at text);
      count = omega arith;
      untouched = λ none. absurd (omega (arith, length-drop at text, c.in_ok-at.ensures.some));
    }
