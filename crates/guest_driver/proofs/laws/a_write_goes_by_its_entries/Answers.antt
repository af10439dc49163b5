use Rattle.guest_driver.proofs.WriteLemmas.{write_goes_so}
use Rattle.guest_driver.proofs.laws.a_write_goes_by_its_entries.Goals as goal

pub returns : goal.returns
returns c = write_goes_so
