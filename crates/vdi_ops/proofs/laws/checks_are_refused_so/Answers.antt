use Rattle.std.proofs.Common.{refl}
use Rattle.vdi_ops.proofs.CheckRefusals.{snapshot_refused, large_refused, small_taken}
use Rattle.vdi_ops.specs.Steps.{begin_command}
use Rattle.vdi_ops.proofs.laws.checks_are_refused_so.Goals as goal

pub returns : goal.returns
unfolding begin_command
returns c = record {
  closed = refl;
  snapshot = snapshot_refused;
  large = large_refused;
  taken = small_taken;
  entry = λ by session disk. refl;
}
