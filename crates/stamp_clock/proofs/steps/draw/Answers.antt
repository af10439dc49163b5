use Rattle.std.proofs.Common.{arith, ◌≡◌, ◌+◌, refl, slice_index}
use Rattle.atomic_table.specs.Table.{keeps}
use Rattle.stamp_clock.specs.Steps.{view_after_draw}
use Rattle.stamp_clock.proofs.StepLemmas.{draw_keeps, word-no_wrap}
use Rattle.stamp_clock.proofs.steps.draw.Goals as goal

pub fetch_add-requires : goal.fetch_add-requires
fetch_add-requires c = (
  c.requires.table,
  omega arith,
  λ state rule homes is small.
      let word : slice_index state.words 0 ≡ rule.0 = rw rule.1 refl in
      let kept = draw_keeps rule.0 state.views c.args.token.now.id c.args.token.now.me.0 rule.2 is c.requires.room in
      (view_after_draw c.args.token.now.me.0 rule.0, keeps, tt, (rule.0 + 1, rw (rule.1, word-no_wrap rule.0 state.views rule.2) refl, kept.0), (rw word kept.1, refl)),
)
