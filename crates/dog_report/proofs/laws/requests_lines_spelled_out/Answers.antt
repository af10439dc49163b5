use Rattle.std.proofs.Common.{refl}
use Rattle.std.specs.Fmt.{digits}
use Rattle.dog_report.specs.Words.{hex}
use Rattle.dog_report.proofs.laws.requests_lines_spelled_out.Goals as goal

pub returns : goal.returns
unfolding digits hex
returns c = record {
  done = refl;
  piece = refl;
  locked = refl;
  no_vdi = refl;
  no_tag = refl;
  no_base = refl;
  exists = refl;
  readonly = refl;
  not_locked = refl;
  full = refl;
  parms = refl;
  halt = refl;
  old = refl;
  newer = refl;
  recovery = refl;
  link = refl;
  no_obj = refl;
  checked = refl;
  differed = refl;
  gone = refl;
  pending = refl;
  unsent = refl;
  generated = refl;
}
