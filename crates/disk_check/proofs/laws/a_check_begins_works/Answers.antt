use Rattle.disk_check.proofs.WorkLemmas.{read_copies-work, value-length, write_value-work}
use Rattle.disk_check.proofs.laws.a_check_begins_works.Goals as goal

pub returns : goal.returns
returns c = record {
  read = read_copies-work;
  length = value-length;
  write = write_value-work;
}
