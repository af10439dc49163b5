use Rattle.std.proofs.Common.{sym, subst}
use Rattle.recovery.specs.Kept.{recovery_state}
use Rattle.recovery.specs.Shown.{NodeView}
use Rattle.recovery.specs.Step.{MayStep}
use Rattle.recovery.proofs.MayLemmas.{may_after_row}
use Rattle.part_tests.proofs.recoveries.trial.Trial.create.Goals as goal

pub invariant_of-self-then-bytes-le512 : goal.invariant_of-self-then-bytes-le512
invariant_of-self-then-bytes-le512 c = (
  c.self.invariant.0,
  subst (λ (shown : NodeView). MayStep (recovery_state c.self.inside.recovery shown)) (sym c.in_ok-put_row.ensures.ok)
      (may_after_row c.args.key 512 c.args.bytes.now _ c.self.invariant.1),
)
