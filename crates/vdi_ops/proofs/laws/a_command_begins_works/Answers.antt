use Rattle.vdi_ops.proofs.WorkLemmas.{granted-work, done-work}
use Rattle.vdi_ops.proofs.laws.a_command_begins_works.Goals as goal

pub returns : goal.returns
returns c = record {
  granted = granted-work;
  done = done-work;
}
