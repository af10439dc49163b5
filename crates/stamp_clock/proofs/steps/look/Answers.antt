use Rattle.std.proofs.Common.{arith, ◌≡◌, refl, slice_index}
use Rattle.atomic_table.specs.Table.{keeps}
use Rattle.stamp_clock.proofs.StepLemmas.{look_keeps}
use Rattle.stamp_clock.proofs.steps.look.Goals as goal

pub load-requires : goal.load-requires
load-requires c = (
  c.requires.table,
  omega arith,
  λ state rule homes is small.
      let word : slice_index state.words 0 ≡ rule.0 = rw rule.1 refl in
      let kept = look_keeps rule.0 state.views c.args.token.now.id c.args.token.now.me.0 rule.2 is in
      (c.args.token.now.me.0, keeps, tt, (rule.0, rw rule.1 refl, kept.0), (record { view = refl; seen = rw word kept.1; shown = kept.2 }, refl)),
)
