use Rattle.std.proofs.Common.{refl}
use Rattle.std.specs.Fmt.{digits}
use Rattle.dog_report.specs.Words.{hex}
use Rattle.vdi_directory.specs.Effects.{live_of, holder_of, header_of}
use Rattle.vdi_directory.specs.States.{state_of}
use Rattle.dog_report.proofs.ExampleLemmas.{joined-listed}
use Rattle.dog_report.proofs.laws.lists_spelled_out.Goals as goal

pub returns : goal.returns
unfolding digits hex live_of holder_of state_of header_of
returns c = record {
  cluster = λ world. refl;
  unsettled = λ world. refl;
  vdis = refl;
  lost = λ host. refl;
  joined = joined-listed;
  unfinished = refl;
  open_row = refl;
  closed_row = refl;
  order = refl;
}
